-- `put_channels` meets its contract: the channels' lines are copied from memory of their own. Assumes nothing.
use mathlib.Core.Path.{◌≡◌, refl, sym}
use native.Mathlib.Omega.{arith}
use lib.ListN.{length}
use lib.Seq.{length-take-le}
use Rattle.image.specs.Image.{state_of}
use Rattle.putting.proofs.Laws.{shown_room, shown_few, shown-long, few_within, channels-hidden, channels-shown}
use borrow.Author.Rules.{rules}
use Rattle.putting.proofs.put_channels.Goals as goal

pub returns-then-not-show : goal.returns-then-not-show
returns-then-not-show c =
    channels-hidden (state_of c.args.state.now) _ _
    c.if-not-show.true

pub load-s-requires : goal.load-s-requires
load-s-requires c = c.requires.0

pub slice_bounds-board-end : goal.slice_bounds-board-end
slice_bounds-board-end c =
    let w = rw c.load-s.ensures at c.channels-k.ensures in
    let few = shown_few c.requires.1 w in
    let n : length c.channels-k.new.out ≡ 120 = shown-long c.requires.1 refl w in
    omega arith

pub slice_bounds-copy-end : goal.slice_bounds-copy-end
slice_bounds-copy-end c =
    let w = rw c.load-s.ensures at c.channels-k.ensures in
    let few = shown_few c.requires.1 w in
    let n : length c.channels-k.new.out ≡ 120 = shown-long c.requires.1 refl w in
    sym (length-take-le _ _ (few_within few n))

pub copy-requires : goal.copy-requires
copy-requires c =
    let w = rw c.load-s.ensures at c.channels-k.ensures in
    let few = shown_few c.requires.1 w in
    let n : length c.channels-k.new.out ≡ 120 = shown-long c.requires.1 refl w in
    let r = shown_room 120 _ c.if-not-show.false c.requires.2 in
    rw (length-take-le _ _ (few_within few n)) (omega arith)

pub overflow_add-result : goal.overflow_add-result
overflow_add-result c =
    let w = rw c.load-s.ensures at c.channels-k.ensures in
    let few = shown_few c.requires.1 w in
    let n : length c.channels-k.new.out ≡ 120 = shown-long c.requires.1 refl w in
    let r = shown_room 120 _ c.if-not-show.false c.requires.2 in
    search rules

pub returns : goal.returns
returns c =
    let w = rw c.load-s.ensures at c.channels-k.ensures in
    channels-shown c.if-not-show.false w c.copy.ensures
