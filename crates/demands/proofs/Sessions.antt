-- The sessions are run through the definitions.
use mathlib.Core.Path.{refl}
use mathlib.Core.List.{List}
use Rattle.demands.specs.Sessions.{Session, Seen, SessionsHold, FurtherHold, CvWaitsHold, ruled, expected, run, sessions, further, seen, edges_in, intents_in}
use Rattle.detector.specs.Effects.{effect}
use Rattle.demands.specs.Reached.{reach}
use Rattle.detector.specs.Refusals.{refusal, outside}
use Rattle.detector.specs.Stuck.{stuck_count, true_waits, any_back}
use Rattle.detector.specs.Mutex.{acquired, complete_acquire, acquire_slow, released, release_mutex, clear_naming, unhold_all, purge, destroy_mutex}
use Rattle.waits.specs.Counts.{count_up, count_down, no_readers, readers}
use Rattle.detector.specs.RwLock.{complete_read, acquire_read, try_read, loosen, release_read, write_released, release_write, write_acquired, complete_write, acquire_write, destroy_rw_lock}
use Rattle.detector.specs.Condvar.{create_condvar, forget, destroy_condvar, begin_wait, attempted, wake, wake_all, notify_one, notify_all, leave, end_wait}
use Rattle.waits.specs.Waiting.{clear, set_intent, register, renew, renew_all, refresh, refresh_next, refresh_locks}
use Rattle.waits.specs.Owners.{waits_for}
use Rattle.waits.specs.Filter.{all_hold, common_locks}
use Rattle.waits.specs.Validate.{around, valid, some_awaits, awaited_locks, checked, validate}
use Rattle.waits.specs.Attempt.{settle, block, block_mutex, block_write}
use Rattle.waits.specs.Report.{entries_text, bytes_of, written}
use Rattle.graph.specs.Graph.{cut_all, stored, closing, add_edge, add_next, add_owners, remove_edge, remove_edges_to, clear_wait_edges}
use Rattle.graph.specs.Search.{visit, expand, way_back, search, find_path}
use Rattle.sets.specs.Sets.{bit, with, without, upward_from}
use Rattle.sets.specs.Lists.{among}
use Rattle.sets.specs.Below.{each, those}

-- Returns what `ruled` does, and names every definition that a run opens, once for both theorems.
opened : List Session → List (List Seen)
unfolding ruled run seen edges_in intents_in effect refusal outside stuck_count true_waits any_back acquired complete_acquire acquire_slow released release_mutex clear_naming unhold_all purge destroy_mutex count_up count_down complete_read acquire_read try_read loosen release_read write_released release_write write_acquired complete_write block_write acquire_write no_readers destroy_rw_lock create_condvar forget destroy_condvar begin_wait attempted wake wake_all notify_one notify_all leave end_wait clear set_intent register renew renew_all refresh refresh_next refresh_locks readers waits_for all_hold common_locks around valid some_awaits awaited_locks checked validate settle block block_mutex entries_text bytes_of written cut_all stored closing add_edge add_next add_owners remove_edge remove_edges_to clear_wait_edges visit expand way_back search find_path bit with without upward_from among each those
opened ss = ruled ss

pub sessions_hold : SessionsHold
unfolding opened expected sessions
sessions_hold = refl

pub further_hold : FurtherHold
unfolding opened expected further
further_hold = refl

pub cv_waits_hold : CvWaitsHold
unfolding reach effect refusal outside begin_wait create_condvar destroy_condvar forget each
cv_waits_hold = record { spawned = refl; gone = refl }
