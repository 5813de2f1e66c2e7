-- What is said of structs is what the machine says of its channels. Assumes nothing.
use Prim.Native.Nat.{ℕ}
use mathlib.Core.Path.{◌≡◌, refl, ap₂}
use mathlib.Core.Bool.{Bool, true, ◌&&◌}
use mathlib.Core.List.{List, [], ◌∷◌, map}
use native.Mathlib.Omega.{arith}
use lib.Dec.{eqb-suc-zero}
use lib.ListN.{length, length-map}
use Rattle.machine.specs.State.{Write, Channel as ChannelM}
use Rattle.machine.specs.Maps.{odd, half, bit}
use Rattle.machine.specs.Commands.{playing, in_progress, leads, led_by}
use Rattle.channel.specs.Channel.{channel_of, map_where}
use Rattle.fronts.specs.declared.Front.{Front}
use Rattle.fronts.specs.declared.Front.TheVariants.{Plays, Leads}
use Rattle.fronts.specs.Fronts.{on_air, leads_at, passes, named, meaning}

-- ---- one channel

leads_is : (i : ℕ) (c : ChannelM) (ws : List Write) → c.writes ≡ ws → leads_at i (channel_of c) ≡ leads i ws
unfolding leads_at leads
leads_is i c [] e = rw e refl
leads_is i c (w ∷ ws) e = rw (e, eqb-suc-zero) refl

pub passes_is : (f : Front) (c : ChannelM) → passes f (channel_of c) ≡ meaning f c
unfolding on_air playing
passes_is Plays c = rw (length-map c.writes (λ (w : Write). w.id)) refl
passes_is (Leads i) c = leads_is i c c.writes refl

-- ---- all of them

-- those with a write in progress
pub in_progress_is : (m : ℕ) (cs : List ChannelM) → map_where (named Plays) m (map channel_of cs) ≡ in_progress m cs
unfolding map_where named in_progress
in_progress_is m [] = refl
in_progress_is m (c ∷ cs) = ap₂ (λ (b : Bool) (x : ℕ). bit (odd m && b) x) (passes_is Plays c) (in_progress_is (half m) cs)

-- a map that names every channel
abbrev pub Whole : ℕ → List ChannelM → Type 0
Whole m [] = Unit {0}
Whole m (c ∷ cs) = (odd m ≡ true) × Whole (half m) cs

pub whole_eight : (cs : List ChannelM) → length cs ≡ 8 → Whole 255 cs
unfolding odd half
whole_eight [] f = absurd (omega arith)
whole_eight (a ∷ []) f = absurd (omega arith)
whole_eight (a ∷ b ∷ []) f = absurd (omega arith)
whole_eight (a ∷ b ∷ c ∷ []) f = absurd (omega arith)
whole_eight (a ∷ b ∷ c ∷ d ∷ []) f = absurd (omega arith)
whole_eight (a ∷ b ∷ c ∷ d ∷ u ∷ []) f = absurd (omega arith)
whole_eight (a ∷ b ∷ c ∷ d ∷ u ∷ v ∷ []) f = absurd (omega arith)
whole_eight (a ∷ b ∷ c ∷ d ∷ u ∷ v ∷ w ∷ []) f = absurd (omega arith)
whole_eight (a ∷ b ∷ c ∷ d ∷ u ∷ v ∷ w ∷ x ∷ []) f = (refl, (refl, (refl, (refl, (refl, (refl, (refl, (refl, tt))))))))
whole_eight (a ∷ b ∷ c ∷ d ∷ u ∷ v ∷ w ∷ x ∷ y ∷ cs) f = absurd (omega arith)

-- those at whose front an id is, of all
pub led_is : (i m : ℕ) (cs : List ChannelM) → Whole m cs → map_where (named (Leads i)) m (map channel_of cs) ≡ led_by i cs
unfolding map_where named led_by
led_is i m [] h = refl
led_is i m (c ∷ cs) h = rw h.0 (ap₂ (λ (b : Bool) (x : ℕ). bit b x) (passes_is (Leads i) c) (led_is i (half m) cs h.1))
