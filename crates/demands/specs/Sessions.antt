-- SESSIONS 1 to 10, worked by hand: one list, event by event, and further sessions after it.
use Rattle.std.specs.Prelude.{Option, None, Some}
use Rattle.waits.specs.declared.intent.WaitIntent.{WaitIntent}
use Rattle.std.specs.Prelude.{◌≡◌, List, [], ◌∷◌, ◌++◌, map, ℕ, get_or}
use Rattle.sets.specs.Limits.{THREADS}
use Rattle.sets.specs.Sets.{upward}
use Rattle.sets.specs.Below.{each}
use Rattle.graph.specs.Search.{row}
use Rattle.waits.specs.Tables.{intent_of}
use Rattle.waits.specs.Report.{Report, entries_of, written}
use Rattle.waits.specs.declared.tables.Waits.{Waits}
use Rattle.waits.specs.declared.outcome.Outcome.{Outcome}
use Rattle.waits.specs.declared.outcome.Outcome.TheVariants.{Took, Blocked, Hinted}
use Rattle.waits.specs.declared.outcome.Tried.TheVariants.{Taken}
use Rattle.detector.specs.Tables.{Tables, Effect, empty, no_cv_wait, blank_cv_wait}
use Rattle.detector.specs.Refusals.{refusal, buffer_bytes}
use Rattle.detector.specs.Stuck.{stuck_count}
use Rattle.detector.specs.declared.event.Event.{Event}
use Rattle.detector.specs.declared.event.Event.TheVariants.{MutexAttempt, MutexAcquired, MutexReleased, MutexExit, RwReadAttempt, RwReadAcquired, RwReadTry, RwReadReleased, RwWriteAttempt, RwWriteAcquired, RwWriteReleased, RwExit, CondvarSpawn, CondvarExit, CondvarWaitBegin, CondvarNotifyOne, CondvarNotifyAll, CondvarWaitEnd}
use Rattle.detector.specs.declared.state.CvWait.{CvWait}
use Rattle.detector.specs.Effects.{effect}
use Rattle.demands.specs.Reached.{reach}

-- Two numbers side by side are a thread and the lock that it awaits, or an edge.
abbrev pub Pairs : Type 0
Pairs = List (ℕ × ℕ)

-- WHAT IS SEEN of an event: its refusal, or 0 for none; its reports, as entries and as bytes; and in the tables
-- after it all edges, all intents and the number of stuck threads.
pub record Seen : Type 0 where
  pub refused : ℕ
  pub reports : List Pairs
  pub bytes : List ℕ
  pub edges : Pairs
  pub intents : Pairs
  pub stuck : ℕ

-- Returns all edges, upward.
unfoldable pub edges_in : List ℕ → Pairs
edges_in rows = each (λ l t. l ++ map (λ o. (t, o)) (upward THREADS (row rows t))) [] THREADS

-- Returns the thread t with the lock that it awaits, or nothing if it has no intent.
abbrev pub intent_from : ℕ → Option WaitIntent → Pairs
intent_from t None = []
intent_from t (Some i) = (t, i.lock_id) ∷ []

-- Returns all threads that have an intent, each with its lock, upward.
unfoldable pub intents_in : Waits → Pairs
intents_in w = each (λ l t. l ++ intent_from t (intent_of w t)) [] THREADS

-- Returns the entries of a report as they are printed.
abbrev pub printed : Report → Pairs
printed r = map (λ e. (e.thread, e.lock)) (entries_of r)

-- Returns what is seen of an event with the refusal n and the effect a.
unfoldable pub seen : ℕ → Effect → Seen
seen n a =
    let w = a.tables.waits in
    record {
      refused = n;
      reports = map printed a.reports;
      bytes = written a.reports;
      edges = edges_in w.wait_for_graph.edges;
      intents = intents_in w;
      stuck = stuck_count a.tables;
    }

-- Returns what the rules give for events one after the other, from tables x.
unfoldable pub run : Tables → List Event → List Seen
run x [] = []
run x (e ∷ es) = let a = effect x buffer_bytes e in seen (refusal x buffer_bytes e) a ∷ run a.tables es

-- THE WORDS of a script and its outcomes, as the detector has them: the definitions from here to `ce`.
abbrev pub took : Outcome
took = Took

abbrev pub blocked : Outcome
blocked = Blocked

abbrev pub hint : ℕ → Outcome
hint o = Hinted o

abbrev pub ma : ℕ → ℕ → Outcome → Event
ma t l o = MutexAttempt t l o

abbrev pub mc : ℕ → ℕ → Event
mc t l = MutexAcquired t l

abbrev pub mr : ℕ → ℕ → Event
mr t l = MutexReleased t l

abbrev pub md : ℕ → Event
md l = MutexExit l

abbrev pub ra : ℕ → ℕ → Outcome → Event
ra t l o = RwReadAttempt t l o

abbrev pub rc : ℕ → ℕ → Event
rc t l = RwReadAcquired t l

abbrev pub rt : ℕ → ℕ → Event
rt t l = RwReadTry t l Taken

abbrev pub rr : ℕ → ℕ → Event
rr t l = RwReadReleased t l

abbrev pub wa : ℕ → ℕ → Outcome → Event
wa t l o = RwWriteAttempt t l o

abbrev pub wc : ℕ → ℕ → Event
wc t l = RwWriteAcquired t l

abbrev pub wr : ℕ → ℕ → Event
wr t l = RwWriteReleased t l

abbrev pub rd : ℕ → Event
rd l = RwExit l

abbrev pub cn : ℕ → Event
cn c = CondvarSpawn c

abbrev pub cd : ℕ → Event
cd c = CondvarExit c

abbrev pub cb : ℕ → ℕ → ℕ → Event
cb t c l = CondvarWaitBegin t c l

abbrev pub c1 : ℕ → Event
c1 c = CondvarNotifyOne c

abbrev pub ca : ℕ → Event
ca c = CondvarNotifyAll c

abbrev pub ce : ℕ → ℕ → ℕ → Event
ce t c l = CondvarWaitEnd t c l

-- THE LIST. Holds an event with what is expected of it. An edge or an intent that the session as worked by hand
-- leaves open is expected as the rules make it.
pub record Played : Type 0 where
  pub event : Event
  pub expects : Seen

-- Returns a line that reports nothing: the event, then the edges, intents and stuck threads after it.
abbrev pub quiet : Event → Pairs → Pairs → ℕ → Played
quiet e g i n = record { event = e; expects = record { refused = 0; reports = []; bytes = []; edges = g; intents = i; stuck = n } }

-- Returns a line that reports these cycles, with their bytes, and then the same.
abbrev pub cycles : Event → List Pairs → List ℕ → Pairs → Pairs → ℕ → Played
cycles e rs b g i n = record { event = e; expects = record { refused = 0; reports = rs; bytes = b; edges = g; intents = i; stuck = n } }

-- Returns a line that reports one cycle.
abbrev pub cycle : Event → Pairs → List ℕ → Pairs → Pairs → ℕ → Played
cycle e r b g i n = cycles e (r ∷ []) b g i n

-- Returns a line that is refused by this number, in tables without an edge or an intent.
abbrev pub refused : Event → ℕ → Played
refused e n = record { event = e; expects = record { refused = n; reports = []; bytes = []; edges = []; intents = []; stuck = 0 } }

-- Holds a session: its number and its lines. Session 2 has two parts, each with this number.
pub record Session : Type 0 where
  pub number : ℕ
  pub lines : List Played

-- Returns a session of this number and these lines.
abbrev pub session : ℕ → List Played → Session
session n ls = record { number = n; lines = ls }

-- The ten sessions.
unfoldable pub sessions : List Session
sessions =
    session 1
    (quiet (ma 1 5 took) [] [] 0
    ∷ quiet (ma 2 6 took) [] [] 0
    ∷ quiet (ma 1 6 blocked) ((1, 2) ∷ []) ((1, 6) ∷ []) 0
    ∷ cycle (ma 2 5 blocked) ((1, 6) ∷ (2, 5) ∷ []) (2 ∷ 1 ∷ 6 ∷ 2 ∷ 5 ∷ []) ((1, 2) ∷ []) ((1, 6) ∷ (2, 5) ∷ []) 2
    ∷ [])
    -- A thread locks its mutex again; then the same with a reader between.
    ∷ session 2
    (quiet (ma 1 5 took) [] [] 0
    ∷ quiet (ma 1 5 blocked) [] ((1, 5) ∷ []) 1
    ∷ [])
    ∷ session 2
    (quiet (ma 1 5 took) [] [] 0
    ∷ quiet (ra 2 5 took) [] [] 0
    ∷ cycle (ma 1 5 blocked) ((1, 5) ∷ []) (1 ∷ 1 ∷ 5 ∷ []) [] ((1, 5) ∷ []) 1
    ∷ [])
    ∷ session 3
    (quiet (ra 3 7 took) [] [] 0
    ∷ cycle (wa 3 7 blocked) ((3, 7) ∷ []) (1 ∷ 3 ∷ 7 ∷ []) [] ((3, 7) ∷ []) 1
    ∷ [])
    -- The edge to the later owner is stored though a path was found.
    ∷ session 4
    (quiet (ra 3 7 took) [] [] 0
    ∷ quiet (ra 4 7 took) [] [] 0
    ∷ cycle (wa 3 7 blocked) ((3, 7) ∷ []) (1 ∷ 3 ∷ 7 ∷ []) ((3, 4) ∷ []) ((3, 7) ∷ []) 1
    ∷ cycle (wa 4 7 blocked) ((3, 7) ∷ (4, 7) ∷ []) (2 ∷ 3 ∷ 7 ∷ 4 ∷ 7 ∷ []) ((3, 4) ∷ []) ((3, 7) ∷ (4, 7) ∷ []) 2
    ∷ [])
    ∷ session 5
    (quiet (ra 3 7 took) [] [] 0
    ∷ quiet (rt 3 7) [] [] 0
    ∷ quiet (wa 4 7 blocked) ((4, 3) ∷ []) ((4, 7) ∷ []) 0
    ∷ quiet (rr 3 7) ((4, 3) ∷ []) ((4, 7) ∷ []) 0
    ∷ quiet (rr 3 7) [] ((4, 7) ∷ []) 0
    ∷ [])
    ∷ session 6
    (quiet (ma 4 1 took) [] [] 0
    ∷ quiet (ra 3 7 took) [] [] 0
    ∷ quiet (wa 4 7 blocked) ((4, 3) ∷ []) ((4, 7) ∷ []) 0
    ∷ quiet (rd 7) ((4, 3) ∷ []) ((4, 7) ∷ []) 0
    ∷ quiet (ma 3 1 blocked) ((4, 3) ∷ []) ((3, 1) ∷ (4, 7) ∷ []) 0
    ∷ [])
    ∷ session 7
    (quiet (ma 4 1 took) [] [] 0
    ∷ quiet (ra 5 7 took) [] [] 0
    ∷ quiet (wa 4 7 blocked) ((4, 5) ∷ []) ((4, 7) ∷ []) 0
    ∷ quiet (ra 3 7 took) ((4, 5) ∷ []) ((4, 7) ∷ []) 0
    ∷ quiet (ma 3 1 blocked) ((3, 4) ∷ (4, 5) ∷ []) ((3, 1) ∷ (4, 7) ∷ []) 2
    ∷ [])
    ∷ session 8
    (quiet (ma 1 5 took) [] [] 0
    ∷ quiet (cb 2 0 5) [] [] 0
    ∷ quiet (c1 0) ((2, 1) ∷ []) ((2, 5) ∷ []) 0
    ∷ quiet (ce 2 0 5) [] [] 0
    ∷ [])
    ∷ session 9 (quiet (wa 4 7 blocked) [] [] 0 ∷ [])
    ∷ session 10
    (quiet (ma 31 63 took) [] [] 0
    ∷ quiet (cb 31 15 63) [] [] 0
    ∷ refused (ma 32 63 took) 3
    ∷ refused (ma 31 64 took) 4
    ∷ refused (cb 31 16 63) 5
    ∷ refused (ma 32 64 took) 3
    ∷ [])
    ∷ []

-- FURTHER SESSIONS, for rules that sessions 1 to 10 do not tell from others, and so that each of the 18 words
-- stands in a session.
unfoldable pub further : List Session
further =
    -- Stuck goes by true waits, not by edges; a hint is recorded, and refreshes nobody else.
    session 11
    (quiet (ma 0 0 blocked) [] ((0, 0) ∷ []) 0
    ∷ quiet (ma 1 0 (hint 0)) ((1, 0) ∷ []) ((0, 0) ∷ (1, 0) ∷ []) 1
    ∷ [])
    -- rr at count 0 drops the edges too.
    ∷ session 12
    (quiet (wa 2 7 took) [] [] 0
    ∷ quiet (wa 4 7 blocked) ((4, 2) ∷ []) ((4, 7) ∷ []) 0
    ∷ quiet (rr 2 7) [] ((4, 7) ∷ []) 0
    ∷ [])
    -- Readers come before the writer, even if its number is lower.
    ∷ session 13
    (quiet (rc 5 7) [] [] 0
    ∷ quiet (wc 2 7) [] [] 0
    ∷ quiet (ma 5 1 (hint 4)) ((5, 4) ∷ []) ((5, 1) ∷ []) 0
    ∷ quiet (ma 2 1 (hint 4)) ((2, 4) ∷ (5, 4) ∷ []) ((2, 1) ∷ (5, 1) ∷ []) 0
    ∷ cycle (wa 4 7 blocked) ((5, 1) ∷ (4, 7) ∷ []) (2 ∷ 5 ∷ 1 ∷ 4 ∷ 7 ∷ []) ((2, 4) ∷ (5, 4) ∷ []) ((2, 1) ∷ (4, 7) ∷ (5, 1) ∷ []) 3
    ∷ [])
    -- rd takes the number out of the holds though a mutex gave it, and leaves the owner of the mutex.
    ∷ session 14
    (quiet (ma 1 5 took) [] [] 0
    ∷ quiet (rd 5) [] [] 0
    ∷ cycle (ma 1 5 blocked) ((1, 5) ∷ []) (1 ∷ 1 ∷ 5 ∷ []) [] ((1, 5) ∷ []) 1
    ∷ [])
    -- md finds its waiters by their intents, since rd has emptied `lock_waiters`.
    ∷ session 15
    (quiet (ma 1 5 took) [] [] 0
    ∷ quiet (ma 2 5 blocked) ((2, 1) ∷ []) ((2, 5) ∷ []) 0
    ∷ quiet (rd 5) ((2, 1) ∷ []) ((2, 5) ∷ []) 0
    ∷ quiet (md 5) [] [] 0
    ∷ [])
    -- rt keeps the intent.
    ∷ session 16
    (quiet (wc 1 7) [] [] 0
    ∷ quiet (wa 2 7 blocked) ((2, 1) ∷ []) ((2, 7) ∷ []) 0
    ∷ quiet (rt 2 7) ((2, 1) ∷ []) ((2, 7) ∷ []) 1
    ∷ [])
    -- mr refreshes.
    ∷ session 17
    (quiet (ma 1 5 took) [] [] 0
    ∷ quiet (ma 2 5 blocked) ((2, 1) ∷ []) ((2, 5) ∷ []) 0
    ∷ quiet (mr 1 5) [] ((2, 5) ∷ []) 0
    ∷ [])
    -- A write cycle is not filtered.
    ∷ session 18
    (quiet (wa 3 7 took) [] [] 0
    ∷ cycle (wa 3 7 blocked) ((3, 7) ∷ []) (1 ∷ 3 ∷ 7 ∷ []) [] ((3, 7) ∷ []) 1
    ∷ [])
    -- The path that is found, 4 5, is stale; the refreshes find another, 3 4, which is true.
    ∷ session 19
    (quiet (ma 4 2 took) [] [] 0
    ∷ quiet (ma 5 1 took) [] [] 0
    ∷ quiet (ma 4 1 blocked) ((4, 5) ∷ []) ((4, 1) ∷ []) 0
    ∷ quiet (ma 3 2 blocked) ((3, 4) ∷ (4, 5) ∷ []) ((3, 2) ∷ (4, 1) ∷ []) 0
    ∷ quiet (ma 6 1 (hint 3)) ((3, 4) ∷ (4, 5) ∷ (6, 3) ∷ []) ((3, 2) ∷ (4, 1) ∷ (6, 1) ∷ []) 2
    ∷ cycle (ma 5 2 blocked) ((3, 2) ∷ (4, 1) ∷ []) (2 ∷ 3 ∷ 2 ∷ 4 ∷ 1 ∷ []) ((3, 4) ∷ (5, 4) ∷ (6, 3) ∷ []) ((3, 2) ∷ (4, 1) ∷ (5, 2) ∷ (6, 1) ∷ []) 2
    ∷ [])
    -- mc refreshes.
    ∷ session 20
    (quiet (ma 1 5 took) [] [] 0
    ∷ quiet (ma 2 5 blocked) ((2, 1) ∷ []) ((2, 5) ∷ []) 0
    ∷ quiet (mc 3 5) ((2, 3) ∷ []) ((2, 5) ∷ []) 0
    ∷ [])
    -- wr drops edges.
    ∷ session 21
    (quiet (wa 2 7 took) [] [] 0
    ∷ quiet (wa 4 7 blocked) ((4, 2) ∷ []) ((4, 7) ∷ []) 0
    ∷ quiet (wr 2 7) [] ((4, 7) ∷ []) 0
    ∷ [])
    -- A woken thread waits only if its lock has an owner; ca wakes all.
    ∷ session 22
    (quiet (cb 2 0 5) [] [] 0
    ∷ quiet (c1 0) [] [] 0
    ∷ quiet (ma 1 5 took) [] [] 0
    ∷ quiet (cb 2 0 5) [] [] 0
    ∷ quiet (cb 3 0 5) [] [] 0
    ∷ quiet (ca 0) ((2, 1) ∷ (3, 1) ∷ []) ((2, 5) ∷ (3, 5) ∷ []) 0
    ∷ [])
    -- cn and cd empty one queue, so nobody is left there to wake.
    ∷ session 23
    (quiet (ma 1 5 took) [] [] 0
    ∷ quiet (cb 2 0 5) [] [] 0
    ∷ quiet (cb 3 1 5) [] [] 0
    ∷ quiet (cn 0) [] [] 0
    ∷ quiet (c1 0) [] [] 0
    ∷ quiet (cb 2 0 5) [] [] 0
    ∷ quiet (cd 0) [] [] 0
    ∷ quiet (ca 0) [] [] 0
    ∷ quiet (c1 1) ((3, 1) ∷ []) ((3, 5) ∷ []) 0
    ∷ [])
    -- ca reports for each pair, and a pair that stands twice is treated twice.
    ∷ session 24
    (quiet (ma 1 5 took) [] [] 0
    ∷ quiet (rc 2 5) [] [] 0
    ∷ quiet (cb 1 0 5) [] [] 0
    ∷ quiet (cb 1 0 5) [] [] 0
    ∷ cycles (ca 0) (((1, 5) ∷ []) ∷ ((1, 5) ∷ []) ∷ []) (1 ∷ 1 ∷ 5 ∷ 1 ∷ 1 ∷ 5 ∷ []) [] ((1, 5) ∷ []) 1
    ∷ [])
    ∷ []

-- Returns what the rules give for the events of the sessions.
unfoldable pub ruled : List Session → List (List Seen)
ruled ss = map (λ s. run empty (map (λ k. k.event) s.lines)) ss

-- Returns what is expected of them.
unfoldable pub expected : List Session → List (List Seen)
expected ss = map (λ s. map (λ k. k.expects) s.lines) ss

-- Returns the cv wait of the thread t after the events es from the empty state.
abbrev pub cv_wait_after : List Event → ℕ → CvWait
cv_wait_after es t = get_or (reach empty es).thread_wait_cv t blank_cv_wait

-- States that cn keeps a cv wait and cd drops it (`cv_waits_hold`). No later event tells the two apart, but the
-- tables do.
pub record CvWaitsHold : Type 0 where
  pub spawned : cv_wait_after (cb 2 0 5 ∷ cn 0 ∷ []) 2 ≡ record { condvar = 0; lock = 5 }
  pub gone : cv_wait_after (cb 2 0 5 ∷ cd 0 ∷ []) 2 ≡ no_cv_wait

-- THE THEOREMS: the rules give what is expected of the sessions (`sessions_hold`) and of the further ones
-- (`further_hold`).
abbrev pub SessionsHold : Type 0
SessionsHold = ruled sessions ≡ expected sessions

abbrev pub FurtherHold : Type 0
FurtherHold = ruled further ≡ expected further
