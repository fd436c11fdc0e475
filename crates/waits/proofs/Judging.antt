-- The code reports what the rules report: the bytes of a report, and what becomes of a path.
use mathlib.Core.Path.{◌≡◌, refl, sym, ap, ◌∙◌}
use mathlib.Core.List.{List, [], ◌∷◌, ◌++◌, map, append-nil}
use mathlib.Core.Bool.{true, false, cond}
use Prim.Native.Nat.{ℕ, suc, ◌+◌, ◌*◌, ◌<◌, ◌≤◌}
use native.Mathlib.Omega.{arith}
use lib.ListN.{length, drop, get_or, set, length-map, drop_of_length-le}
use lib.Seq.{sets, length-sets}
use Rattle.std.specs.Prelude.{Option, None, Some}
use Rattle.std.specs.Option.{unwrap_or}
use Rattle.waits.specs.Tables.{intent_of, lock_of, waiters_of, with_graph}
use Rattle.graph.specs.Graph.{adding}
use Rattle.waits.specs.Waiting.{Linking, linking, register, refreshed, renew_all, refresh, refresh_locks}
use Rattle.waits.specs.Report.{Report, Judging, report, Entry, entry_of, entry_bytes, entries_text, bytes_of, written, quiet, reporting}
use Rattle.waits.specs.Validate.{valid, awaited_locks, checked, validate}
use Rattle.waits.specs.Attempt.{judge_found, judge, sieve_found, settle, block, block_mutex, mutex_on, read_on, write_on, free, block_write, block_for}
use Rattle.waits.specs.Code.{linked, free_for, passes_for}
use Rattle.waits.specs.Promises.{laid}
use Rattle.waits.specs.declared.tables.Waits.{Waits}
use Rattle.waits.specs.declared.intent.WaitIntent.{WaitIntent}
use Rattle.waits.specs.declared.intent.WaitMode.{WaitMode}
use Rattle.waits.specs.declared.intent.WaitMode.TheVariants.{Mutex, RwRead, RwWrite}
use Rattle.sets.proofs.Walk.{upward_zero}
use Rattle.waits.proofs.Masks.{next_of}

-- ---- Bytes laid into a buffer

-- The buffer keeps its length.
pub laid_length : (b : List ℕ) (at : ℕ) (l : List ℕ) → length (laid b at l) ≡ length b
unfolding laid
laid_length b at l = length-sets b at l

-- Laying no bytes changes nothing.
pub laid_none : (b : List ℕ) (at : ℕ) → laid b at [] ≡ b
unfolding laid
laid_none b at = refl

-- Two texts laid at once are the first, and the second after it.
pub laid_append : (b : List ℕ) (at : ℕ) (l m : List ℕ) → laid b at (l ++ m) ≡ laid (laid b at l) (at + length l) m
unfolding laid
laid_append b at l m = go l b at
  where
    go : (l b : List ℕ) (at : ℕ) → sets b at (l ++ m) ≡ sets (sets b at l) (at + length l) m
    go [] b at = ap (λ (k : ℕ). sets b k m) (omega arith)
    go (x ∷ l) b at = go l (set b at x) (suc at) ∙ ap (λ (k : ℕ). sets (sets (set b at x) (suc at) l) k m) (omega arith)

laid_one : (b : List ℕ) (at x : ℕ) (l : List ℕ) → laid b at (x ∷ l) ≡ laid (set b at x) (at + 1) l
unfolding laid
laid_one b at x l = ap (λ (k : ℕ). sets (set b at x) k l) (omega arith)

-- ---- The report

-- Returns the bytes of the entries of these threads.
unfoldable pub entered_by : Waits → List ℕ → List ℕ
entered_by w p = entries_text (map (entry_of w) p)

module _ (w : Waits) (p : List ℕ) where
  -- One turn of the loop writes one entry.
  pub entry_step : (buf : List ℕ) (at i : ℕ) → i < length p
      → laid (set (set buf at (get_or p i 0)) (at + 1) (lock_of (intent_of w (get_or p i 0)))) (at + entry_bytes) (entered_by w (drop (i + 1) p))
      ≡ laid buf at (entered_by w (drop i p))
  unfolding entered_by entries_text
  entry_step buf at i h =
      let e : at + 2 ≡ at + 1 + 1 = omega arith in
      rw e
      (sym (ap (λ (l : List ℕ). laid buf at (entered_by w l)) (next_of p i h)
      ∙ laid_one buf at (get_or p i 0) _
      ∙ laid_one (set buf at (get_or p i 0)) (at + 1) (lock_of (intent_of w (get_or p i 0))) (entered_by w (drop (i + 1) p))))

  -- After the last entry nothing more is written.
  pub entry_end : (buf : List ℕ) (at i : ℕ) → length p ≤ i → buf ≡ laid buf at (entered_by w (drop i p))
  unfolding entered_by entries_text
  entry_end buf at i h = rw (drop_of_length-le p {i = i} h) (sym (laid_none buf at))

  -- The number of entries, and then the entries, are the report.
  pub report_head : (buf : List ℕ) (from : ℕ) → laid (set buf from (length p)) (from + 1) (entered_by w p) ≡ laid buf from (bytes_of (report w p))
  unfolding entered_by bytes_of
  report_head buf from =
      ap (λ (k : ℕ). laid (set buf from k) (from + 1) (entered_by w p)) (sym (length-map p (entry_of w))) ∙ sym (laid_one buf from _ _)

-- The entries have entry_bytes each.
pub length_entries : (es : List Entry) → length (entries_text es) ≡ entry_bytes * length es
unfolding entries_text
length_entries [] = refl
length_entries (e ∷ es) = omega (arith, length_entries es)

-- A report of n threads has 1 + entry_bytes * n bytes.
pub length_bytes : (w : Waits) (p : List ℕ) → length (bytes_of (report w p)) ≡ 1 + entry_bytes * length p
unfolding bytes_of
length_bytes w p = omega (arith, length_entries (map (entry_of w) p), length-map p (entry_of w))

pub written_one : (r : Report) → written (r ∷ []) ≡ bytes_of r
unfolding written
written_one r = append-nil (bytes_of r)

-- ---- A path is judged

module _ (c : List ℕ) (w : Waits) (p : List ℕ) where
  -- If the path is valid, it is reported.
  pub first_reports : valid c w p ≡ true → reporting w p ≡ validate c w p
  unfolding validate
  first_reports e = rw e

  module _ (f : valid c w p ≡ false) (v : Waits) (o : Option (List ℕ)) (e : linked v o ≡ refresh_locks c w (awaited_locks w p)) where
    -- If not, the path that the refreshes found decides.
    again : checked c v o ≡ validate c w p
    unfolding validate
    again = ap (λ (s : Linking). checked c s.waits s.found) e ∙ rw f

    -- If there is one and it is valid, it is reported; if it is not, or if there is none, nothing is.
    pub second_reports : (q : List ℕ) → o ≡ Some q → valid c v q ≡ true → reporting v q ≡ validate c w p
    unfolding checked
    second_reports q n t = (rw (n, t) at again)

    pub second_quiet : valid c v (unwrap_or o []) ≡ false → quiet v ≡ validate c w p
    unfolding checked
    second_quiet t = go o t ∙ again
      where
        go : (o : Option (List ℕ)) → valid c v (unwrap_or o []) ≡ false → quiet v ≡ checked c v o
        go None t = refl
        go (Some q) t = rw t

-- ---- An attempt, which is one for all modes

-- A refresh changes no table but the graph: tables that differ from w in the graph alone, with the graph and the path that
-- the refresh gives, are its result.
pub refresh_linked : (c : List ℕ) (w : Waits) (l : ℕ) (v : Waits) (o : Option (List ℕ)) → v ≡ with_graph w v.wait_for_graph
    → adding v.wait_for_graph o ≡ refreshed c w l → linked v o ≡ refresh c w l
unfolding refresh
refresh_linked c w l v o e f = ap (λ (x : Waits). linked x o) e ∙ ap (linking w) f

-- Returns the result for a path that is found, by the mode: filtered and validated, or only validated.
abbrev pub sieved_for : WaitMode → List ℕ → Waits → Option (List ℕ) → Judging
sieved_for m c w None = quiet w
sieved_for m c w (Some p) = cond (passes_for m c w p) (validate c w p) (quiet w)

-- Returns the result of the code's `attempt`.
abbrev pub attempt_for : List ℕ → Waits → ℕ → WaitIntent → Judging
attempt_for c w t i =
    cond (free_for i.mode c w i.lock_id) (quiet w) (let s = register c w t i in sieved_for i.mode c s.waits s.found)

-- For each mode this is what the mode's rule does with a path.
sieve_mutex : (c : List ℕ) (w : Waits) (o : Option (List ℕ)) → sieved_for Mutex c w o ≡ sieve_found c w o
sieve_mutex c w None = refl
sieve_mutex c w (Some p) = refl

judge_read : (c : List ℕ) (w : Waits) (o : Option (List ℕ)) → sieved_for RwRead c w o ≡ judge_found c w o
judge_read c w None = refl
judge_read c w (Some p) = refl

judge_write : (c : List ℕ) (w : Waits) (o : Option (List ℕ)) → sieved_for RwWrite c w o ≡ judge_found c w o
judge_write c w None = refl
judge_write c w (Some p) = refl

module _ (c : List ℕ) (w : Waits) (t l : ℕ) where
  -- The code's `attempt` is each mode's rule.
  attempt_mutex : attempt_for c w t (mutex_on l) ≡ block_mutex c w t l
  unfolding block_mutex
  attempt_mutex = let s = register c w t (mutex_on l) in sieve_mutex c s.waits s.found

  attempt_read : attempt_for c w t (read_on l) ≡ block c w t (read_on l)
  unfolding block
  attempt_read = let s = register c w t (read_on l) in judge_read c s.waits s.found

  attempt_write : attempt_for c w t (write_on l) ≡ block_write c w t l
  unfolding block_write block
  attempt_write = let s = register c w t (write_on l) in ap (cond (free c w l) (quiet w)) (judge_write c s.waits s.found)

  pub attempt_for_lem : (m : WaitMode) → attempt_for c w t (record { lock_id = l; mode = m }) ≡ block_for m c w t l
  attempt_for_lem Mutex = attempt_mutex
  attempt_for_lem RwRead = attempt_read
  attempt_for_lem RwWrite = attempt_write

  pub attempt_free : (m : WaitMode) → free_for m c w l ≡ true → quiet w ≡ block_for m c w t l
  attempt_free m e = rw e at (attempt_for_lem m)

  -- The path that registering found decides.
  module _ (m : WaitMode) (f : free_for m c w l ≡ false) (v : Waits) (o : Option (List ℕ)) (e : linked v o ≡ register c w t (record { lock_id = l; mode = m })) where
    sieved : sieved_for m c v o ≡ block_for m c w t l
    sieved = ap (λ (s : Linking). sieved_for m c s.waits s.found) e ∙ rw f at (attempt_for_lem m)

    pub attempt_none : o ≡ None → quiet v ≡ block_for m c w t l
    attempt_none n = (rw n at sieved)

    pub attempt_passes : (p : List ℕ) → o ≡ Some p → passes_for m c v p ≡ true → validate c v p ≡ block_for m c w t l
    attempt_passes p n q = (rw (n, q) at sieved)

    pub attempt_stops : (p : List ℕ) → o ≡ Some p → passes_for m c v p ≡ false → quiet v ≡ block_for m c w t l
    attempt_stops p n q = (rw (n, q) at sieved)

-- Validating the path that a refresh finds is `settle`.
pub settles : (c : List ℕ) (w v : Waits) (o : Option (List ℕ)) (l : ℕ) → linked v o ≡ refresh c w l → judge_found c v o ≡ settle c w l
unfolding settle
settles c w v o l e = ap (judge c) e

-- ---- Where a lock has no waiters, nothing is refreshed or reported

pub refresh_idle : (c : List ℕ) (w : Waits) (l : ℕ) → waiters_of w l ≡ 0 → refresh c w l ≡ record { waits = w; found = None }
unfolding refresh renew_all
refresh_idle c w l e = rw (e, upward_zero 32 0)

pub settle_idle : (c : List ℕ) (w : Waits) (l : ℕ) → waiters_of w l ≡ 0 → settle c w l ≡ quiet w
unfolding settle
settle_idle c w l e = ap (judge c) (refresh_idle c w l e)
