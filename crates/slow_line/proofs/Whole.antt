-- However a log is cut, a line is answered as it stands whole: what is kept of it in the port reads as the line itself. So a run of
-- calls is the log taken in one, and that has one outcome. Assumes nothing.
use Prim.Native.Nat.{ℕ, ◌≤◌}
use mathlib.Core.Path.{◌≡◌, refl, ap, ap₂, sym, subst, ◌∙◌}
use mathlib.Core.Bool.{true, false}
use mathlib.Core.List.{List, [], ◌∷◌, ◌++◌, append-nil}
use mathlib.Core.Option.{Option, none, some}
use native.Mathlib.Omega.{arith}
use borrow.Author.Tests.{eq-eqb, ne_eqb}
use lib.Dec.{T, eqb}
use lib.ListN.{length, take, drop, drop_of_length-le}
use Rattle.digits.specs.machine.State.{Call, State as StateM}
use Rattle.digits.specs.machine.Log.{Fed as FedM, lines, unhex, frame, feed}
use Rattle.digits.proofs.machine.Tests.{by_test, test_true, test_false}
use Rattle.display.specs.Display.{displayed_by}
use Rattle.image.specs.board.Board.{struct_of}
use Rattle.image.specs.store.Store.{table_of}
use Rattle.image.specs.Image.{Saved}
use Rattle.gathering.specs.Lumps.{LINE, front, ended, used, gathered_of, Gathers, Stands}
use Rattle.gathering.proofs.Lumps.{stands_none, stands_more, stands-frame, stands-feed, front_open, used_open, lines_none, lines_last, lines_step, lines_on}
use Rattle.fragments.specs.unheard.Unheard.{unheard}
use Rattle.fragments.specs.port.Port.{started_in, line_in, port_of}
use Rattle.fragments.proofs.port.Laws.{started_back}
use Rattle.fragments.specs.admitting.Admitting.{refusal}
use Rattle.fragments.specs.hearing.Hearing.{held_in, Hears, Tells}
use Rattle.fragments.proofs.hearing.Laws.{one_hearing}
use Rattle.fragments.specs.telling.Telling.{Silent, Answers, Still, Moves}
use Rattle.fragments.proofs.telling.Laws.{told_front, none_or_not}
use Rattle.fragments.specs.Fragments.{grown, line_with, line_fed, port_fed, Feeds}
use Rattle.last_line.specs.LastLine.{line_last, port_last, Ends}
use Rattle.whole_log.specs.Whole.{joined}
use Rattle.slow_line.specs.Slow.{Heard, none as no_line, more, Ran, feeds, used_up, ends, over, Begun}

-- ---- a line that is cut is heard as it is whole

hears_as : {l q st tb dp text st' tb' dp' : List ℕ} → frame (unhex l) ≡ frame (unhex q) → ((s : StateM) → feed s l ≡ feed s q) → Hears l st tb dp text st' tb' dp' → Hears q st tb dp text st' tb' dp'
hears_as {st = st} {tb = tb} {dp = dp} {st' = st'} f g h =
    record {
      sound = λ k. let x = h.sound k in
          let e = g (held_in st tb) in
          record {
            output = x.output ∙ ap (λ (y : FedM). y.output) e;
            state = subst (λ (y : FedM). Saved (struct_of y.next) st') e x.state;
            table = x.table ∙ ap (λ (y : FedM). table_of y.next) e;
            display = x.display ∙ ap (λ (o : Option Call). displayed_by (held_in st tb) o dp) f;
          };
      unsound = λ k. let x = h.unsound k in record { output = x.output ∙ ap unheard f; state = x.state; table = x.table; display = x.display };
    }

pub hears_whole : {l : List ℕ} {n : ℕ} {q st tb dp text st' tb' dp' : List ℕ} → Stands l n q → Hears (take n l) st tb dp text st' tb' dp' → Hears q st tb dp text st' tb' dp'
hears_whole t h = hears_as (stands-frame t) (stands-feed t) h

-- ---- what stands in a port

none_ended : ended [] ≡ false
unfolding ended
none_ended = refl

-- nothing stands, whatever bytes are behind it
pub begun_none : (p : List ℕ) → started_in p ≡ 0 → Begun p []
begun_none p z = record { stands = subst (λ (n : ℕ). Stands (line_in p) n []) (sym z) (stands_none (line_in p)); unended = none_ended }

begun_empty : {p q : List ℕ} → Begun p q → started_in p ≡ 0 → q ≡ []
begun_empty {q = []} b z = refl
begun_empty {q = x ∷ q} b z = absurd (let c = b.stands.count in omega arith)

begun_some : {p q : List ℕ} → Begun p q → (started_in p ≡ 0 → ⊥) → q ≡ [] → ⊥
begun_some b h e = h (b.stands.count ∙ ap (λ (x : List ℕ). length (take LINE x)) e)

port-begun : {p : List ℕ} (n : ℕ) (l q : List ℕ) → p ≡ port_of n l → Stands l n q → ended q ≡ false → Begun p q
port-begun n l q e t o = rw e (record { stands = subst (λ (m : ℕ). Stands l m q) (sym (started_back n l)) t; unended = o })

grown-stands : (p : List ℕ) {q : List ℕ} (bs : List ℕ) → Stands (line_in p) (started_in p) q → Stands (line_with p bs) (grown p bs) (q ++ front bs)
grown-stands p bs t =
    let w : Gathers (line_in p) (started_in p) bs (gathered_of (started_in p) bs) (line_with p bs) = record { answer = refl; filled = refl } in
    stands_more t w

-- ---- a call with a fragment

module _ (p bs : List ℕ) where
  module _ (e : ended bs ≡ true) where
    line_ended : line_fed p bs ≡ some (take (grown p bs) (line_with p bs))
    unfolding line_fed
    line_ended = rw e

    port-ended : port_fed p bs ≡ port_of 0 (line_with p bs)
    unfolding port_fed
    port-ended = rw e

  module _ (e : ended bs ≡ false) where
    line_open : line_fed p bs ≡ none
    unfolding line_fed
    line_open = rw e

    port_open : port_fed p bs ≡ port_of (grown p bs) (line_with p bs)
    unfolding port_fed
    port_open = rw e

-- with q standing, the call wrote the text and used u bytes: what is heard of the rest makes up the whole
record Goes (st tb dp q bs text : List ℕ) (u : ℕ) (p' st' tb' dp' : List ℕ) : Type 0 where
  pub line : List ℕ
  pub begun : Begun p' line
  pub comes : (rest out st₂ tb₂ dp₂ : List ℕ) → Heard st' tb' dp' (lines (line ++ (drop u bs ++ rest))) out st₂ tb₂ dp₂ → Heard st tb dp (lines (q ++ (bs ++ rest))) (text ++ out) st₂ tb₂ dp₂

module _ {p q : List ℕ} (bs : List ℕ) (b : Begun p q) {st tb dp : List ℕ} where
  open_goes : {p' : List ℕ} → ended bs ≡ false → p' ≡ port_of (grown p bs) (line_with p bs) → Goes st tb dp q bs [] (used bs) p' st tb dp
  open_goes e h =
      let o = b.unended in
      let u = used_open bs e in
      let k : length bs ≤ used bs = omega arith in
      let z : drop (used bs) bs ≡ [] = drop_of_length-le bs k in
      record {
        line = q ++ bs;
        begun = port-begun (grown p bs) (line_with p bs) (q ++ bs) h (subst (λ (x : List ℕ). Stands (line_with p bs) (grown p bs) (q ++ x)) (front_open bs e) (grown-stands p bs b.stands)) (lines_on q bs [] o e).0;
        comes = λ rest out st₂ tb₂ dp₂ k. subst (λ (ls : List (List ℕ)). Heard st tb dp ls out st₂ tb₂ dp₂) (ap (λ (x : List ℕ). lines ((q ++ bs) ++ (x ++ rest))) z ∙ sym (lines_on q bs rest o e).1) k;
      }

  ended-goes : {p' text st' tb' dp' : List ℕ} → ended bs ≡ true → p' ≡ port_of 0 (line_with p bs) → Hears (take (grown p bs) (line_with p bs)) st tb dp text st' tb' dp'
      → Goes st tb dp q bs text (used bs) p' st' tb' dp'
  ended-goes {text = text} e h k =
      record {
        line = [];
        begun = port-begun 0 (line_with p bs) [] h (stands_none (line_with p bs)) none_ended;
        comes = λ rest out st₂ tb₂ dp₂ m. subst (λ (ls : List (List ℕ)). Heard st tb dp ls (text ++ out) st₂ tb₂ dp₂) (sym (lines_step q bs rest b.unended e))
            (more (hears_whole (grown-stands p bs b.stands) k) m);
      }

  -- a call that is refused uses nothing and moves nothing
  still_goes : {out p' st' tb' dp' out' : List ℕ} {u n : ℕ} → Still p st tb dp out u n p' st' tb' dp' out' → Goes st tb dp q bs (take n out') u p' st' tb' dp'
  still_goes s =
      let m = s.silent in
      rw (s.used, s.port, m.count, m.state, m.table, m.display) (record { line = q; begun = b; comes = λ rest out st₂ tb₂ dp₂ k. k })

  moves-goes : {out p' st' tb' dp' out' : List ℕ} {u n : ℕ} → Moves (line_fed p bs) (port_fed p bs) (used bs) st tb dp out u n p' st' tb' dp' out'
      → Goes st tb dp q bs (take n out') u p' st' tb' dp'
  moves-goes {out} {p'} {st'} {tb'} {dp'} {out'} {u} {n} m =
      by_test (ended bs)
      (λ y. let e = test_true (ended bs) y in
      let t : Tells (take (grown p bs) (line_with p bs)) st tb dp out n st' tb' dp' out' =
      subst (λ (o : Option (List ℕ)). Answers o st tb dp out n st' tb' dp' out') (line_ended p bs e) m.answers in
      rw (m.used, told_front t) (ended-goes e (m.port ∙ port-ended p bs e) t.heard))
      (λ y. let e = test_false (ended bs) y in
      let a : Silent st tb dp out n st' tb' dp' out' = subst (λ (o : Option (List ℕ)). Answers o st tb dp out n st' tb' dp' out') (line_open p bs e) m.answers in
      rw (m.used, a.count, a.state, a.table, a.display) (open_goes e (m.port ∙ port_open p bs e)))

  feeds-goes : {out p' st' tb' dp' out' : List ℕ} {e u n : ℕ} → Feeds bs p st tb dp out e u n p' st' tb' dp' out' → Goes st tb dp q bs (take n out') u p' st' tb' dp'
  feeds-goes {out} c = none_or_not (refusal p (length dp) (length out)) (λ z. moves-goes (c.served z)) (λ z. still_goes (c.refused z))

-- ---- the call at the end

-- with q standing, and nothing to come, the call wrote the text
record Closes (st tb dp q text p' st' tb' dp' : List ℕ) : Type 0 where
  pub line : List ℕ
  pub begun : Begun p' line
  pub comes : (out st₂ tb₂ dp₂ : List ℕ) → Heard st' tb' dp' (lines (line ++ [])) out st₂ tb₂ dp₂ → Heard st tb dp (lines (q ++ [])) (text ++ out) st₂ tb₂ dp₂

module _ (p : List ℕ) where
  line_none : started_in p ≡ 0 → line_last p ≡ none
  unfolding line_last
  line_none e = rw (eq-eqb (started_in p) 0 e)

  line_some : (started_in p ≡ 0 → ⊥) → line_last p ≡ some (take (started_in p) (line_in p))
  unfolding line_last
  line_some h = rw (ne_eqb (started_in p) 0 h)

module _ {p q : List ℕ} (b : Begun p q) {st tb dp : List ℕ} where
  none_closes : {p' : List ℕ} → started_in p ≡ 0 → p' ≡ port_last p → Closes st tb dp q [] p' st tb dp
  none_closes {p'} z h =
      rw (begun_empty b z)
      (record { line = []; begun = port-begun 0 (line_in p) [] h (stands_none (line_in p)) none_ended; comes = λ out st₂ tb₂ dp₂ k. k })

  last_closes : {p' text st' tb' dp' : List ℕ} → (started_in p ≡ 0 → ⊥) → p' ≡ port_last p → Hears (take (started_in p) (line_in p)) st tb dp text st' tb' dp' → Closes st tb dp q text p' st' tb' dp'
  last_closes {text = text} {st' = st'} {tb' = tb'} {dp' = dp'} z h k =
      record {
        line = [];
        begun = port-begun 0 (line_in p) [] h (stands_none (line_in p)) none_ended;
        comes = λ out st₂ tb₂ dp₂ m. subst (λ (ls : List (List ℕ)). Heard st tb dp ls (text ++ out) st₂ tb₂ dp₂) (sym (ap lines (append-nil q) ∙ lines_last q b.unended (begun_some b z)))
            (more (hears_whole b.stands k) (subst (λ (ls : List (List ℕ)). Heard st' tb' dp' ls out st₂ tb₂ dp₂) lines_none m));
      }

  still_closes : {out p' st' tb' dp' out' : List ℕ} {u n : ℕ} → Still p st tb dp out u n p' st' tb' dp' out' → Closes st tb dp q (take n out') p' st' tb' dp'
  still_closes s = let m = s.silent in rw (s.port, m.count, m.state, m.table, m.display) (record { line = q; begun = b; comes = λ out st₂ tb₂ dp₂ k. k })

  moves-closes : {out p' st' tb' dp' out' : List ℕ} {u n : ℕ} → Moves (line_last p) (port_last p) 0 st tb dp out u n p' st' tb' dp' out' → Closes st tb dp q (take n out') p' st' tb' dp'
  moves-closes {out} {p'} {st'} {tb'} {dp'} {out'} {u} {n} m =
      none_or_not (started_in p)
      (λ z. let a : Silent st tb dp out n st' tb' dp' out' = subst (λ (o : Option (List ℕ)). Answers o st tb dp out n st' tb' dp' out') (line_none p z) m.answers in
      rw (a.count, a.state, a.table, a.display) (none_closes z m.port))
      (λ z. let t : Tells (take (started_in p) (line_in p)) st tb dp out n st' tb' dp' out' =
      subst (λ (o : Option (List ℕ)). Answers o st tb dp out n st' tb' dp' out') (line_some p z) m.answers in
      rw (told_front t) (last_closes z m.port t.heard))

  ends_closes : {out p' st' tb' dp' out' : List ℕ} {e n : ℕ} → Ends p st tb dp out e n p' st' tb' dp' out' → Closes st tb dp q (take n out') p' st' tb' dp'
  ends_closes {out} c = none_or_not (refusal p (length dp) (length out)) (λ z. moves-closes (c.served z)) (λ z. still_closes (c.refused z))

-- ---- a run

-- "must be those of the log taken in one": from any port, and any bytes as state, table and display
pub ran-heard : {p st tb dp : List ℕ} {bss : List (List ℕ)} {out p₂ st₂ tb₂ dp₂ : List ℕ} (q : List ℕ) → Begun p q → Ran p st tb dp bss out p₂ st₂ tb₂ dp₂
    → Heard st tb dp (lines (q ++ joined bss)) out st₂ tb₂ dp₂
ran-heard q b (feeds {bs} {bss = bss} {out = out} {st₂ = st₂} {tb₂ = tb₂} {dp₂ = dp₂} c k) =
    let g = feeds-goes bs b c in
    g.comes (joined bss) out st₂ tb₂ dp₂ (ran-heard g.line g.begun k)
ran-heard q b (used_up k) = ran-heard q b k
ran-heard q b (ends {out = out} {st₂ = st₂} {tb₂ = tb₂} {dp₂ = dp₂} c k) = let g = ends_closes b c in g.comes out st₂ tb₂ dp₂ (ran-heard g.line g.begun k)
ran-heard q b (over {p} {st} {tb} {dp} z) = rw (begun_empty b z, lines_none) no_line

-- nothing is left standing, so the port is ready for the next log
pub ran-port : {p st tb dp : List ℕ} {bss : List (List ℕ)} {out p₂ st₂ tb₂ dp₂ : List ℕ} → Ran p st tb dp bss out p₂ st₂ tb₂ dp₂ → started_in p₂ ≡ 0
ran-port (feeds c k) = ran-port k
ran-port (used_up k) = ran-port k
ran-port (ends c k) = ran-port k
ran-port (over z) = z

-- ---- one outcome

-- no second outcome fits a log taken in one
pub one_log : {st tb dp : List ℕ} {ls : List (List ℕ)} {o₁ o₂ st₁ st₂ tb₁ tb₂ dp₁ dp₂ : List ℕ} → Heard st tb dp ls o₁ st₁ tb₁ dp₁ → Heard st tb dp ls o₂ st₂ tb₂ dp₂
    → (o₁ ≡ o₂) × (st₁ ≡ st₂) × (tb₁ ≡ tb₂) × (dp₁ ≡ dp₂)
one_log no_line no_line = (refl, refl, refl, refl)
one_log (more a h) (more {out = out} {st₂ = st₂} {tb₂ = tb₂} {dp₂ = dp₂} b g) =
    let e = one_hearing b a in
    let r = one_log h (rw (e.1, e.2, e.3) at g) in
    (ap₂ ◌++◌ (sym e.0) r.0, r.1, r.2, r.3)

-- "must be those of the log taken in one", whatever the cut: two runs of the same log, from a port that holds the same of a line
pub cut_free : {p₁ p₂ st tb dp : List ℕ} {bss₁ bss₂ : List (List ℕ)} {o₁ o₂ q₁ q₂ st₁ st₂ tb₁ tb₂ dp₁ dp₂ : List ℕ} (q : List ℕ) → Begun p₁ q → Begun p₂ q
    → joined bss₁ ≡ joined bss₂ → Ran p₁ st tb dp bss₁ o₁ q₁ st₁ tb₁ dp₁ → Ran p₂ st tb dp bss₂ o₂ q₂ st₂ tb₂ dp₂ → (o₁ ≡ o₂) × (st₁ ≡ st₂) × (tb₁ ≡ tb₂) × (dp₁ ≡ dp₂)
cut_free {st = st} {tb = tb} {dp = dp} {o₁ = o₁} {st₁ = st₁} {tb₁ = tb₁} {dp₁ = dp₁} q a b e r t =
    one_log (subst (λ (bs : List ℕ). Heard st tb dp (lines (q ++ bs)) o₁ st₁ tb₁ dp₁) e (ran-heard q a r)) (ran-heard q b t)
