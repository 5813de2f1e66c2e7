-- `read_answer` meets its contract, case by case. Assumes nothing.
use Prim.Native.Nat.{◌≤◌, ◌<◌}
use mathlib.Core.Path.{ap, sym, ◌∙◌}
use mathlib.Core.List.{[]}
use Rattle.answers.specs.Answers.{call_of, answer_of}
use Rattle.answers.specs.machine.Commands.{done}
use Rattle.channel.specs.Channel.{has_key}
use Rattle.play.proofs.Laws.{single_none, single_at, single_is, single_bit, free_matches, matches_is, read_no, read_yes}
use borrow.Author.Rules.{rules}
use Rattle.play.proofs.read_answer.Goals as goal

pub returns-then-i-ge8 : goal.returns-then-i-ge8
returns-then-i-ge8 c =
    λ u q.
    let a = c.args in
    let low = c.lowest-i in
    let n : 8 ≤ low.result = c.if-i-ge8.true in
    let w = single_none a.r.map a.s.channels u.channels c.requires q _ low.ensures n in
    c.done-no.ensures ∙ ap answer_of (sym (read_no (call_of a.r []) u _ w (free_matches a.r.key)))

pub returns-then-not-matches : goal.returns-then-not-matches
returns-then-not-matches c =
    λ u q.
    let a = c.args in
    let low = c.lowest-i in
    let n : low.result < 8 = search rules in
    let w = single_at a.r.map a.s.channels u.channels c.requires q _ low.ensures n in
    let v = single_is a.r.map a.s.channels u.channels c.requires q _ low.ensures _ n in
    c.done-no.ensures
    ∙ ap answer_of (sym (read_no (call_of a.r []) u _ w (sym (matches_is a.r.key _) ∙ (ap (has_key a.r.key) (sym v) ∙ (sym c.matches.ensures ∙ c.if-not-matches.true)))))

pub returns : goal.returns
returns c =
    λ u q.
    let a = c.args in
    let l = c.lowest-i in
    let n : l.result < 8 = search rules in
    let w = single_at a.r.map a.s.channels u.channels c.requires q _ l.ensures n in
    let v = single_is a.r.map a.s.channels u.channels c.requires q _ l.ensures _ n in
    let b = single_bit a.r.map a.s.channels u.channels c.requires q _ l.ensures n ∙ sym c.bit.ensures in
    let y = read_yes (call_of a.r []) u _ _ w b (sym (matches_is a.r.key _) ∙ (ap (has_key a.r.key) (sym v) ∙ (sym c.matches.ensures ∙ c.if-not-matches.false))) in
    c.done.ensures ∙ ap answer_of (rw (c.seen.ensures, c.front.ensures, v) (sym y))
