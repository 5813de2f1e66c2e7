-- One name that unfolds the whole machine, for what is proved by computing it: write `unfolding machine`.
-- Assumes nothing.
use Rattle.before_cuts.specs.Numbers.{quick, nowait}
use Rattle.machine.specs.Lists.{any, all, keep, among, distinct}
use Rattle.before_cuts.specs.Maps.{odd, half, bit, minus, meets, lowest, named, change, at}
use Rattle.before_cuts.specs.Choosing.{takeable, eligible, all_free, first_free, highest, stolen, costs_less, cheaper, cheapest, or_else, choose, standing, look}
use Rattle.before_cuts.specs.Granting.{after, in_use, first_unused, new_key, key_for, last_for, aborted, aborted_in, taken, granted}
use Rattle.before_cuts.specs.Commands.{matches, matching, mismatch, done, pending, finished, silent, cleared, is_empty, ended, freeing, freeing_replies, each, each_change, do_free, do_lock, front, back, playing, do_read, do_write, do_event, closed, owned, do_close, aborted_writes, aborted_waits, without, do_abort}
use Rattle.before_cuts.specs.Allocating.{enqueue, waits, allocating, do_allocate, opening, do_open}
use Rattle.before_cuts.specs.Settling.{replied, staying, saying, on_look, walk, walked, go_on, rounds, settle}
use Rattle.before_cuts.specs.Sound.{sound_channel, sound_lock, sound_request, in_order, writes_of, ids, sound_opens, sound}
use Rattle.before_cuts.specs.Kinds.{kind, unknown, allocates}
use Rattle.before_cuts.specs.Refusals.{first, bad_list, bad_maps, bad_map, refusal, refuse}
use Rattle.before_cuts.specs.Call.{perform, settling, open_settling, accept, answering, call, in_range}
use Rattle.before_cuts.specs.Log.{opened, lines, digit, joined, unhex, op_of, call_of, frame, hex_digit, line, reply_line, answer_line, reply_lines, told, outcome_of, feed, run, log}

unfoldable pub machine : Unit {0}
unfolding quick nowait any all keep among distinct odd half bit minus meets lowest named change at takeable eligible all_free first_free highest stolen costs_less cheaper cheapest or_else choose standing look after in_use first_unused new_key key_for last_for aborted aborted_in taken granted matches matching mismatch done pending finished silent cleared is_empty ended freeing freeing_replies each each_change do_free do_lock front back playing do_read do_write do_event closed owned do_close aborted_writes aborted_waits without do_abort enqueue waits allocating do_allocate opening do_open replied staying saying on_look walk walked go_on rounds settle sound_channel sound_lock sound_request in_order writes_of ids sound_opens sound kind unknown allocates first bad_list bad_maps bad_map refusal refuse perform settling open_settling accept answering call in_range opened lines digit joined unhex op_of call_of frame hex_digit line reply_line answer_line reply_lines told outcome_of feed run log
machine = tt
