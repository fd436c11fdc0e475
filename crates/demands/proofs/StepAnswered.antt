-- Every call has a result. That of a refusal is the state that came in, and that of a served event is built
-- from the tables that its rule gives.
use mathlib.Core.Path.{◌≡◌, refl, sym, ap, ◌∙◌, subst}
use mathlib.Core.List.{List, [], ◌∷◌, ◌++◌, map}
use mathlib.Core.Bool.{Bool, true, false}
use Prim.Native.Nat.{ℕ, zero, suc, ◌+◌, ◌-◌, ◌<◌, ◌≤◌}
use native.Mathlib.Omega.{arith}
use native.Mathlib.Decide.{dec_lt}
use lib.Dec.{lit<, lit≤}
use lib.ListN.{get_or, length, take, replicate, length-append, length-map, get_or-eq_default}
use Rattle.waits.specs.Report.{written}
use Rattle.waits.specs.Promises.{laid}
use Rattle.detector.specs.Tables.{Tables, Effect, empty, no_pair, queue_of}
use Rattle.detector.specs.Events.{apply}
use Rattle.detector.specs.State.{pairs_of, tables, blank_queue, Queued, Valid, valid_test}
use Rattle.detector.specs.Promises.{refusal_of, Replies}
use Rattle.detector.specs.declared.event.Event.{Event}
use Rattle.detector.specs.declared.state.Detector.{Detector}
use Rattle.detector.specs.declared.state.Queue.{Queue}
use Rattle.detector.specs.declared.state.Pair.{Pair}
use Rattle.std.specs.Prelude.{Ok, Err}
use Rattle.detector.specs.Numbered.{numbered}
use Rattle.demands.specs.Driven.{Stepped}
use Rattle.detector.proofs.Serving.{number_numbered}
use Rattle.detector.proofs.Validity.{Shaped, tested_valid}
use Rattle.detector.proofs.Numbers.{queue_at_lem, queue_length}
use Rattle.detector.proofs.Queues.{pairs_none}
use Rattle.detector.proofs.Serving.{refuse, renumber, tested, untested}
use Rattle.detector.proofs.Numbers.{refusal_known}
use Rattle.demands.specs.Invariants.{Seated, KeptWith}
use Rattle.demands.specs.Driven.{Starts}
use Rattle.detector.specs.Typed.{Typed}
use Rattle.demands.specs.Demand1.{StepAnswered}
use Rattle.demands.proofs.Keeping.{served_keeps}
use Rattle.demands.proofs.Held.{Held, held_rules}
use Rattle.demands.proofs.Fine.{held}
use Rattle.demands.proofs.Invariants.{kept_empty}

-- ---- A queue in its cells, with zeros after it

-- Returns the queue of the code that holds these pairs.
abbrev placed : List Pair → Queue
placed q = record { pairs = q ++ replicate (32 - length q) no_pair; len = length q }

take_placed : (q r : List Pair) → take (length q) (q ++ r) ≡ q
take_placed [] r = refl
take_placed (p ∷ q) r = ap (λ (l : List Pair). p ∷ l) (take_placed q r)

zeros_length : (n : ℕ) → length (replicate n no_pair) ≡ n
zeros_length zero = refl
zeros_length (suc n) = ap suc (zeros_length n)

seat_at : (P : Pair → Type 0) → P no_pair → ((p : Pair) → p.thread < 32 → p.lock < 64 → P p) → (q : List Pair) (n k : ℕ) → Seated q → P (get_or (q ++ replicate n no_pair) k no_pair)
seat_at P z h [] n k s = subst P (sym (pairs_none n k)) z
seat_at P z h (p ∷ q) n zero s = h p s.0 s.1
seat_at P z h (p ∷ q) n (suc k) s = seat_at P z h q n k s.2

unused_at : (q : List Pair) (n k : ℕ) → length q ≤ k → get_or (q ++ replicate n no_pair) k no_pair ≡ no_pair
unused_at [] n k h = pairs_none n k
unused_at (p ∷ q) n zero h = absurd (omega arith)
unused_at (p ∷ q) n (suc k) h = unused_at q n k (omega arith)

queued_placed : (q : List Pair) → length q ≤ 32 → Seated q → Queued (placed q)
queued_placed q n s =
    record {
      long = n;
      cells = length-append q (replicate (32 - length q) no_pair) ∙ ap (λ (m : ℕ). length q + m) (zeros_length (32 - length q)) ∙ omega arith;
      threads = λ k. seat_at (λ p. p.thread < 32) (lit< tt) (λ p t l. t) q (32 - length q) k s;
      locks = λ k. seat_at (λ p. p.lock < 64) (lit< tt) (λ p t l. l) q (32 - length q) k s;
      unused = unused_at q (32 - length q);
    }

-- ---- The state that means given tables

-- Returns the state of the code that means the tables x.
abbrev state_of : Tables → Detector
state_of x =
    record {
      waits = x.waits;
      cv_woken = x.cv_woken;
      rwlock_readers = x.rwlock_readers;
      condvars = record { cv_waiters = map placed x.cv_waiters; thread_wait_cv = x.thread_wait_cv };
    }

means : (x : Tables) → tables (state_of x) ≡ x
means x = ap (λ (q : List (List Pair)). record { waits = x.waits; rwlock_readers = x.rwlock_readers; cv_waiters = q; thread_wait_cv = x.thread_wait_cv; cv_woken = x.cv_woken }) (back x.cv_waiters)
  where
    back : (qs : List (List Pair)) → map pairs_of (map placed qs) ≡ qs
    back [] = refl
    back (q ∷ qs) = λ i. take_placed q (replicate (32 - length q) no_pair) i ∷ back qs i

placed_at : (qs : List (List Pair)) → ((c : ℕ) → length (get_or qs c []) ≤ 32) → ((c : ℕ) → Seated (get_or qs c [])) → (c : ℕ) → c < length qs → Queued (get_or (map placed qs) c blank_queue)
placed_at [] n s c h = absurd (omega arith)
placed_at (q ∷ qs) n s zero h = queued_placed q (n 0) (s 0)
placed_at (q ∷ qs) n s (suc c) h = placed_at qs (λ k. n (suc k)) (λ k. s (suc k)) c (omega arith)

valid_state : (x : Tables) → KeptWith Held x → Valid (state_of x)
valid_state x k =
    record {
      waits = k.waits.range;
      queues = λ c h. placed_at x.cv_waiters k.queues k.seated c (rw k.condvars h);
      cv_waits = k.cv_waits;
    }

-- ---- What the types can hold, and what a valid state keeps beside it

typed_state : (d : Detector) → Valid d → KeptWith Held (tables d) → Typed d
typed_state d v k =
    let w = k.waits in
    let s = w.shaped in
    record {
      edges = record { long = w.graph.long; small = w.graph.narrow };
      incoming = record { long = w.graph.long_in; small = w.graph.narrow_in };
      slots = s.threads;
      intents = λ t. omega (arith, w.range.locks t);
      waiters = record { long = s.locks; small = s.few };
      holds = record { long = s.holders; small = s.held };
      owners = record { long = s.owned; small = λ l. omega (arith, w.range.owner l) };
      writers = record { long = s.written; small = λ l. omega (arith, w.range.writer l) };
      woken = k.woken;
      readers = record { long = k.counts.size; small = λ i. omega (arith, k.counts.small i) };
      queues = sym (length-map d.condvars.cv_waiters pairs_of) ∙ k.condvars;
      places = λ c h.
          let q = v.queues c h in
          record {
            long = q.cells;
            threads = λ i. omega (arith, q.threads i);
            locks = λ i. omega (arith, q.locks i);
            len = omega (arith, q.long);
          };
      cv_places = k.cv_places;
      cv_waits = λ t. let u = v.cv_waits t in record { condvar = omega (arith, u.condvar); lock = omega (arith, u.lock) };
    }

seated_take : (n : ℕ) (q : List Pair) → ((k : ℕ) → (get_or q k no_pair).thread < 32) → ((k : ℕ) → (get_or q k no_pair).lock < 64) → Seated (take n q)
seated_take zero q t l = tt
seated_take (suc n) [] t l = tt
seated_take (suc n) (p ∷ q) t l = (t 0, l 0, seated_take n q (λ k. t (suc k)) (λ k. l (suc k)))

kept_state : (d : Detector) → Typed d → Valid d → KeptWith Held (tables d)
kept_state d y v =
    record {
      waits = record {
        graph = record { long = y.edges.long; long_in = y.incoming.long; narrow = y.edges.small; narrow_in = y.incoming.small };
        range = v.waits;
        shaped = record {
          threads = y.slots;
          locks = y.waiters.long;
          few = y.waiters.small;
          holders = y.holds.long;
          held = y.holds.small;
          owned = y.owners.long;
          written = y.writers.long;
        };
      };
      counts = record { size = y.readers.long; small = λ i. omega (arith, y.readers.small i) };
      condvars = length-map d.condvars.cv_waiters pairs_of ∙ y.queues;
      queues = λ c. (queued c (dec_lt c 16)).0;
      seated = λ c. (queued c (dec_lt c 16)).1;
      cv_places = y.cv_places;
      cv_waits = v.cv_waits;
      woken = y.woken;
    }
  where
    queued : (c : ℕ) → Dec (c < 16) → (length (queue_of (tables d) c) ≤ 32) × Seated (queue_of (tables d) c)
    queued c (yes h) =
        let o = get_or d.condvars.cv_waiters c blank_queue in
        let q = v.queues c h in
        (omega (arith, queue_length d c v h, q.long), rw (queue_at_lem d c) (seated_take o.len o.pairs q.threads q.locks))
    queued c (no h) =
        let e : get_or d.condvars.cv_waiters c blank_queue ≡ blank_queue = get_or-eq_default d.condvars.cv_waiters blank_queue (omega (arith, y.queues)) in
        (rw (queue_at_lem d c, e) (lit≤ tt), rw (queue_at_lem d c, e) tt)

-- The types can hold the empty state.
pub starts_typed : (d : Detector) → Starts d → Typed d
starts_typed d s = typed_state d s.valid (subst (KeptWith Held) (sym s.blank) blank)
  where
    blank : KeptWith Held empty
    blank =
        let k = kept_empty in
        record { waits = held k.waits; counts = k.counts; condvars = k.condvars; queues = k.queues; seated = k.seated; cv_places = k.cv_places; cv_waits = k.cv_waits; woken = k.woken }

-- ---- THEOREM

shaped : (d : Detector) → Typed d → Shaped d
shaped d y = record { intents = y.slots; owners = y.owners.long; writers = y.writers.long; cv_waits = y.cv_places; cells = λ c h. (y.places c h).long }

-- The tables after a served event are held again.
pub served_held : (d : Detector) (ev : Event) (n : ℕ) → Typed d → refusal_of d n ev ≡ 0 → KeptWith Held (apply ev (tables d)).tables
served_held d ev n y z = go (valid_test d) refl
  where
    go : (b : Bool) → valid_test d ≡ b → KeptWith Held (apply ev (tables d)).tables
    go true q = served_keeps held_rules (tables d) (kept_state d y (tested_valid d (shaped d y) q)) n ev (tested d n ev q ∙ z)
    go false q = absurd (omega (arith, untested d n ev q, z))

-- States that there is a result with the refusal n, or 0 for none, in a state that the types can hold.
abbrev Result : ℕ → Detector → Event → List ℕ → Type 0
Result n d ev b = (r : Stepped) × (e : List ℕ) × Replies n d ev r.detector r.reply b e × Typed r.detector

refused_result : (n : ℕ) (d : Detector) (ev : Event) (b : List ℕ) → Typed d → 0 < n → n ≤ 8 → Result n d ev b
refused_result n d ev b y h m = (record { detector = d; reply = Err (numbered n) }, b, renumber (number_numbered n h m) (refuse d ev (numbered n) b), y)

served_result : (d : Detector) (ev : Event) (b : List ℕ) → KeptWith Held (apply ev (tables d)).tables → Result 0 d ev b
served_result d ev b k =
    let a : Effect = apply ev (tables d) in
    let v = valid_state a.tables k in (
      record { detector = state_of a.tables; reply = Ok (length a.reports) },
      laid b 0 (written a.reports),
      record { refused = λ z. absurd (omega arith); served = λ z. (refl, record { state = means a.tables; count = refl; bytes = refl; valid = v }) },
      typed_state (state_of a.tables) v (subst (KeptWith Held) (sym (means a.tables)) k),
    )

-- No refusal has a number above 8.
refusal_most : (d : Detector) (n : ℕ) (ev : Event) → refusal_of d n ev ≤ 8
refusal_most d n ev = go (valid_test d) refl
  where
    go : (b : Bool) → valid_test d ≡ b → refusal_of d n ev ≤ 8
    go true q = omega (arith, tested d n ev q, (refusal_known (tables d) n ev).most)
    go false q = omega (arith, untested d n ev q)

pub step_answered : StepAnswered
step_answered d k y = go (refusal_of d (length k.lent) k.event) refl
  where
    go : (n : ℕ) → refusal_of d (length k.lent) k.event ≡ n → Result (refusal_of d (length k.lent) k.event) d k.event k.lent
    go zero z = rw z (served_result d k.event k.lent (served_held d k.event (length k.lent) y z))
    go (suc n) z = refused_result _ d k.event k.lent y (omega (arith, z)) (refusal_most d (length k.lent) k.event)
