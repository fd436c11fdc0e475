-- The lines of the tables. Each table that is not empty has one line, with `table`, its name and its items,
-- parted by tabs. Items go upward by number, and tables by name.
use Rattle.std.specs.Prelude.{ℕ, zero, suc, cond, List, [], ◌∷◌, ◌++◌, map, eqb, ltb, length, get_or, Option, Some, None}
use Prim.Native.Char.{code}
use Rattle.sets.specs.Limits.{THREADS, LOCKS}
use Rattle.detector.specs.Limits.{NONE}
use Rattle.sets.specs.Sets.{upward}
use Rattle.graph.specs.Search.{row}
use Rattle.waits.specs.Counts.{count_of}
use Rattle.waits.specs.declared.tables.Waits.{Waits}
use Rattle.waits.specs.declared.intent.WaitIntent.{WaitIntent}
use Rattle.waits.specs.declared.intent.WaitMode.{WaitMode}
use Rattle.waits.specs.declared.intent.WaitMode.TheVariants.{Mutex, RwRead, RwWrite}
use Rattle.detector.specs.Tables.{Tables, blank_cv_wait}
use Rattle.detector.specs.declared.state.Pair.{Pair}
use Rattle.detector.specs.declared.state.CvWait.{CvWait}
use Rattle.text.specs.Bytes.{text}
use Rattle.text.specs.Decimal.{decimal, line}

-- ---- A line of items

-- Returns the line of a table with these items, or nothing if there are none.
unfoldable pub table_text : List ℕ → List (List ℕ) → List ℕ
table_text name [] = []
table_text name (i ∷ is) = line (text "table" ∷ name ∷ i ∷ is)

-- Returns the item of two numbers with a sign between them.
unfoldable pub two : ℕ → ℕ → ℕ → List ℕ
two a sign b = decimal a ++ sign ∷ decimal b

-- Returns the item of a number, a text and a number with colons between them.
unfoldable pub three : ℕ → List ℕ → ℕ → List ℕ
three a middle b = decimal a ++ (text ":" ++ (middle ++ (text ":" ++ decimal b)))

-- Returns what f gives for each of k places from i on, upward.
unfoldable pub along : (ℕ → List (List ℕ)) → ℕ → ℕ → List (List ℕ)
along f i zero = []
along f i (suc k) = f i ++ along f (suc i) k

-- Returns what f gives for each cell of a table of n cells.
abbrev pub below : ℕ → (ℕ → List (List ℕ)) → List (List ℕ)
below n f = along f 0 n

-- ---- The items of each kind of table

-- Returns the items of a table that is one set: its numbers.
unfoldable pub members_of : ℕ → List (List ℕ)
members_of m = map decimal (upward LOCKS m)

-- Returns the items of the set m in cell i: i, the sign, and a number of m.
unfoldable pub set_items : ℕ → ℕ → ℕ → List (List ℕ)
set_items sign i m = map (two i sign) (upward LOCKS m)

-- Returns the items of a table with a set in each cell.
unfoldable pub sets_items : ℕ → List ℕ → List (List ℕ)
sets_items sign rows = below (length rows) (λ i. set_items sign i (row rows i))

-- Returns the item `lock:thread` of a lock with the owner or writer o, or nothing if o is 32, which is nobody.
abbrev pub owner_item : ℕ → ℕ → List (List ℕ)
owner_item o l = cond (ltb o THREADS) (two l (code ":") o ∷ []) []

-- Returns the items of a table of owners or of writers.
unfoldable pub owners_items : List ℕ → List (List ℕ)
owners_items os = below (length os) (λ l. owner_item (row os l) l)

-- Returns the item `lock:thread:count` of a thread that reads a lock n times, or nothing if n is 0.
abbrev pub reader_item : ℕ → ℕ → ℕ → List (List ℕ)
reader_item t l n = cond (eqb n 0) [] (three l (decimal t) n ∷ [])

-- Returns the items of all readers of the lock l.
unfoldable pub readers_of : List ℕ → ℕ → List (List ℕ)
readers_of counts l = below THREADS (λ t. reader_item t l (count_of counts t l))

-- Returns the items of the table of reader counts.
unfoldable pub readers_items : List ℕ → List (List ℕ)
readers_items counts = below LOCKS (readers_of counts)

-- Returns the item `condvar:thread:lock` of a pair in a queue.
abbrev pub pair_item : ℕ → Pair → List ℕ
pair_item c p = three c (decimal p.thread) p.lock

-- Returns the items of one queue, in its order.
unfoldable pub queue_items : ℕ → List Pair → List (List ℕ)
queue_items c q = map (pair_item c) q

-- Returns the items of the table of queues.
unfoldable pub queues_items : List (List Pair) → List (List ℕ)
queues_items qs = below (length qs) (λ c. queue_items c (get_or qs c []))

-- Returns the item `thread:condvar:lock` of a cv wait, or nothing if its condvar is 16, which is none.
abbrev pub cv_wait_item : ℕ → CvWait → List (List ℕ)
cv_wait_item t v = cond (eqb v.condvar NONE) [] (three t (decimal v.condvar) v.lock ∷ [])

-- Returns the items of the table of cv waits.
unfoldable pub cv_waits_items : List CvWait → List (List ℕ)
cv_waits_items vs = below (length vs) (λ t. cv_wait_item t (get_or vs t blank_cv_wait))

-- Returns the name of a mode.
abbrev pub mode_text : WaitMode → List ℕ
mode_text Mutex = text "Mutex"
mode_text RwRead = text "RwRead"
mode_text RwWrite = text "RwWrite"

-- Returns the item `thread:mode:lock` of an intent, or nothing if there is none.
abbrev pub intent_item : ℕ → Option WaitIntent → List (List ℕ)
intent_item t None = []
intent_item t (Some i) = three t (mode_text i.mode) i.lock_id ∷ []

-- Returns the items of the table of intents.
unfoldable pub intents_items : List (Option WaitIntent) → List (List ℕ)
intents_items is = below (length is) (λ t. intent_item t (get_or is t None))

-- ---- The tables in the order of their names

-- Returns the lines of `cv_waiters` and `cv_woken`.
unfoldable pub condvars_text : List (List Pair) → ℕ → List ℕ
condvars_text qs woken = table_text (text "cv_waiters") (queues_items qs) ++ table_text (text "cv_woken") (members_of woken)

-- Returns the lines of `edges` and `incoming_edges`.
unfoldable pub graph_text : Waits → List ℕ
graph_text w =
    table_text (text "edges") (sets_items (code ">") w.wait_for_graph.edges)
    ++ table_text (text "incoming_edges") (sets_items (code "<") w.wait_for_graph.incoming_edges)

-- Returns the lines of `lock_waiters` and `mutex_owners`.
unfoldable pub mutexes_text : Waits → List ℕ
mutexes_text w =
    table_text (text "lock_waiters") (sets_items (code ":") w.lock_waiters) ++ table_text (text "mutex_owners") (owners_items w.mutex_owners)

-- Returns the lines of `rwlock_readers` and `rwlock_writer`.
unfoldable pub rwlocks_text : Waits → List ℕ → List ℕ
rwlocks_text w counts = table_text (text "rwlock_readers") (readers_items counts) ++ table_text (text "rwlock_writer") (owners_items w.rwlock_writer)

-- Returns the lines of `thread_holds`, `thread_wait_cv` and `thread_waits_for`.
unfoldable pub threads_text : Waits → List CvWait → List ℕ
threads_text w v =
    table_text (text "thread_holds") (sets_items (code ":") w.thread_holds)
    ++ (table_text (text "thread_wait_cv") (cv_waits_items v)
    ++ table_text (text "thread_waits_for") (intents_items w.thread_waits_for))

-- Returns the lines of all tables.
unfoldable pub tables_text : Tables → List ℕ
tables_text x =
    condvars_text x.cv_waiters x.cv_woken
    ++ (graph_text x.waits
    ++ (mutexes_text x.waits ++ (rwlocks_text x.waits x.rwlock_readers ++ threads_text x.waits x.thread_wait_cv)))
