-- Every name of the machine before #101, to be written `Old.name`. Assumes nothing.
unfoldable pub use Rattle.before_cuts.specs.Numbers.{quick, nowait}
pub use Rattle.before_cuts.specs.State.{Channel, Lock, Request, State, Op, OPEN, CLOSE, ABORT, EVENT, COMMAND, Call, Reply, Answer, Outcome, free, is_free, fresh, fresh_on, with_channels, with_locks, with_waiting, with_opens, with_last}
unfoldable pub use Rattle.before_cuts.specs.State.{frees}
unfoldable pub use Rattle.before_cuts.specs.Maps.{odd, half, bit, minus, meets, lowest, named, change, at}
pub use Rattle.before_cuts.specs.Choosing.{Choice, none, chosen, Look, fails, held, grants}
unfoldable pub use Rattle.before_cuts.specs.Choosing.{takeable, eligible, all_free, first_free, highest, stolen, costs_less, cheaper, cheapest, or_else, choose, standing, look}
unfoldable pub use Rattle.before_cuts.specs.Granting.{after, in_use, first_unused, new_key, key_for, last_for, aborted, aborted_in, taken, granted}
pub use Rattle.before_cuts.specs.Commands.{reset, freed, set_prec, flushed, set_stop, set_lock, same, set_writes}
unfoldable pub use Rattle.before_cuts.specs.Commands.{matches, matching, mismatch, done, pending, finished, silent, cleared, is_empty, ended, freeing, freeing_replies, each, each_change, do_free, do_lock, front, back, playing, do_read, do_write, do_event, closed, owned, do_close, aborted_writes, aborted_waits, without, do_abort}
unfoldable pub use Rattle.before_cuts.specs.Allocating.{enqueue, waits, allocating, do_allocate, opening, do_open}
pub use Rattle.before_cuts.specs.Settling.{Found, nobody, somebody, Walk, Settled}
unfoldable pub use Rattle.before_cuts.specs.Settling.{replied, staying, saying, on_look, walk, walked, go_on, rounds, settle}
unfoldable pub use Rattle.before_cuts.specs.Sound.{sound_channel, sound_lock, sound_request, in_order, writes_of, ids, sound_opens, sound}
pub use Rattle.before_cuts.specs.Kinds.{Kind, RESET, READ, WRITE, UPDATE, CLEAR, STOP, START, FLUSH, FREE, SETPREC, LOCK, ALLOCATE, UNKNOWN}
unfoldable pub use Rattle.before_cuts.specs.Kinds.{kind, unknown, allocates}
pub use Rattle.before_cuts.specs.Refusals.{Refusal, accepted, refused}
unfoldable pub use Rattle.before_cuts.specs.Refusals.{first, bad_list, bad_maps, bad_map, refusal, refuse}
unfoldable pub use Rattle.before_cuts.specs.Call.{perform, settling, open_settling, accept, answering, call, in_range}
pub use Rattle.before_cuts.specs.Log.{Fed}
unfoldable pub use Rattle.before_cuts.specs.Log.{opened, lines, digit, joined, unhex, op_of, call_of, frame, hex_digit, line, reply_line, answer_line, reply_lines, told, outcome_of, feed, run, log}
unfoldable pub use Rattle.before_cuts.specs.Machine.{machine}
