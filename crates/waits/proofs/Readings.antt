-- The rules run on small tables, at the points where they are easily read in another way.
use mathlib.Core.Path.{◌≡◌, refl}
use mathlib.Core.List.{List, [], ◌∷◌}
use mathlib.Core.Bool.{true, false}
use Rattle.std.specs.Prelude.{Some}
use Prim.Native.Nat.{ℕ}
use lib.ListN.{set, replicate}
use Rattle.sets.specs.Sets.{bit, with, without, upward_from}
use Rattle.sets.specs.Lists.{among}
use Rattle.sets.specs.Below.{those}
use Rattle.graph.specs.Search.{row, visit, expand, way_back, search, find_path}
use Rattle.graph.specs.Graph.{cut_all, stored, closing, add_edge, add_next, add_owners, clear_wait_edges}
use Rattle.waits.specs.Tables.{empty, write, hold, intent_of, waiters_of}
use Rattle.waits.specs.Counts.{place, readers}
use Rattle.waits.specs.Owners.{owners}
use Rattle.waits.specs.Waiting.{clear, set_intent, register}
use Rattle.waits.specs.Filter.{all_hold, common_locks, passes}
use Rattle.waits.specs.Attempt.{mutex_on}
use Rattle.waits.specs.declared.intent.WaitIntent.{WaitIntent}
use Rattle.waits.specs.declared.intent.WaitMode.TheVariants.{RwWrite}

-- Returns the counts without readers.
no_counts : List ℕ
no_counts = replicate 2048 0

-- Returns the counts with one read of l by t.
reading : List ℕ → ℕ → ℕ → List ℕ
reading c t l = set c (place t l) 1

-- Returns the intent to write l.
writing : ℕ → WaitIntent
writing l = record { lock_id = l; mode = RwWrite }

-- The writer comes after the readers, even if its number is lower.
writer_last : owners (reading no_counts 5 7) (write empty 2 7) (writing 7) ≡ 5 ∷ 2 ∷ []
unfolding no_counts reading writing readers those among
writer_last = refl

-- A writer that also reads is listed once, among the readers.
writer_once : owners (reading (reading no_counts 5 7) 2 7) (write empty 2 7) (writing 7) ≡ 2 ∷ 5 ∷ []
unfolding no_counts reading writing readers those among
writer_once = refl

-- The thread that waits may be among the owners: its own read blocks its write.
self_blocks : (register (reading no_counts 3 7) empty 3 (writing 7)).found ≡ Some (3 ∷ [])
unfolding no_counts reading writing readers those among register set_intent clear clear_wait_edges cut_all bit with without upward_from add_owners add_next add_edge closing stored find_path search expand visit way_back
self_blocks = refl

-- After the first path the other owners still get their edges: here the edge from 3 to 4, digit 4 of row 3.
rest_linked : row (register (reading (reading no_counts 3 7) 4 7) empty 3 (writing 7)).waits.wait_for_graph.edges 3 ≡ 16
unfolding no_counts reading writing readers those among register set_intent clear clear_wait_edges cut_all bit with without upward_from add_owners add_next add_edge closing stored find_path search expand visit way_back
rest_linked = refl

-- On a mutex without an owner a thread still gets its intent and becomes a waiter.
free_mutex : (intent_of (register no_counts empty 2 (mutex_on 5)).waits 2 ≡ Some (mutex_on 5)) × (waiters_of (register no_counts empty 2 (mutex_on 5)).waits 5 ≡ 4)
unfolding no_counts readers those among register set_intent clear clear_wait_edges cut_all bit with without upward_from add_owners
free_mutex = (refl, refl)

-- A cycle whose threads have a lock in common does not pass the filter, unless the lock has a reader.
shared_lock : passes no_counts (hold empty 1 5) (1 ∷ []) ≡ false
unfolding no_counts readers those all_hold common_locks bit with
shared_lock = refl

read_lock : passes (reading no_counts 2 5) (hold empty 1 5) (1 ∷ []) ≡ true
unfolding no_counts reading readers those all_hold common_locks bit with
read_lock = refl
