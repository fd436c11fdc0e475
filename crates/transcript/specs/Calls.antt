-- DEMAND 1 for script texts: each of them is answered and comes to an end. This is stated of `begin`, `feed_within`
-- and `finish_within` by their promises alone: they put out `replay_text` of a text, however it is cut and whatever
-- buffers are lent. The calls for anybody (crate `guarded`) keep the same promises where they accept.
use Rattle.std.specs.Prelude.{◌≡◌, ◌⊎◌, cond, List, [], ◌∷◌, ◌++◌, ℕ, ◌+◌, ◌<◌, ◌≤◌, ltb, length}
use Rattle.text.specs.Promises.{Put}
use Rattle.answers.specs.Answers.{answer_bytes}
use Rattle.text.specs.Lines.{lines_of}
use Rattle.transcript.specs.Replay as replay
use Rattle.transcript.specs.Replay.{limit, begin, after, line_text, last_text, replay_text}
use Rattle.transcript.specs.Chunks.{ends, together}
use Rattle.transcript.specs.Promises.{Begins, Feeds}
use Rattle.transcript.specs.Code.{mid_of, between}
use Rattle.transcript.specs.declared.run.Run.{Run}
use Rattle.transcript.specs.declared.run.Turned.{Turned}

-- States that calls of `feed_within`, one after the other, lead from the run r with the carry c to the run e
-- with the carry k. The two lists are the bytes that each call took, and all bytes that they put. Each call may
-- be lent another chunk and another buffer.
pub data Calls : Run → List ℕ → List (List ℕ) → List ℕ → Run → List ℕ → Type 0 where
  none : {r : Run} {c : List ℕ} → Calls r c [] [] r c
  next : {r r' e : Run} {c k c' chunk d d' s : List ℕ} {from at : ℕ} {t : Turned} {ts : List (List ℕ)}
      → Feeds r c chunk from d at r' t c' d' → Calls r' c' ts s e k
      → Calls r c (between from t.next chunk ∷ ts) (between at t.at d' ++ s) e k

-- States that two results of one call that stop at the same place are the same (`feeds_coincide`): in every
-- byte put, in the place after them, and in what the run means. Where a call stops makes no difference to the
-- whole text: `AllPrinted`.
abbrev pub FeedsCoincide : Type 0
FeedsCoincide =
    (r : Run) (c chunk : List ℕ) (from : ℕ) (d : List ℕ) (at : ℕ) (r' s' : Run) (t u : Turned) (k l e f : List ℕ)
    → Feeds r c chunk from d at r' t k e → Feeds r c chunk from d at s' u l f → t.next ≡ u.next
    → (e ≡ f) × (t.at ≡ u.at) × (mid_of r' k ≡ mid_of s' l)

-- States that a call with bytes left, a line that may still be read and room for the longest answer takes at
-- least one byte (`calls_move`), so a text of n bytes is fed in at most n such calls.
abbrev pub FeedsMove : Type 0
FeedsMove =
    (r : Run) (c chunk : List ℕ) (from : ℕ) (d : List ℕ) (at : ℕ) (r' : Run) (t : Turned) (k e : List ℕ)
    → Feeds r c chunk from d at r' t k e → from < length chunk → r.lines < limit → at + answer_bytes ≤ length d → from < t.next

-- A WHOLE TEXT: states that `begin`, calls of `feed_within` that take the parts ts, and then `finish_within`
-- put the bytes `all`.
pub record Printed (ts : List (List ℕ)) (all : List ℕ) : Type 0 where
  pub first : Run
  pub carry : List ℕ
  pub begins : Begins first
  pub last : Run
  pub carried : List ℕ
  pub fed : List ℕ
  pub calls : Calls first carry ts fed last carried
  pub lent : List ℕ
  pub left : List ℕ
  pub at : ℕ
  pub to : ℕ
  pub fits : to ≤ length lent
  pub finished : Put lent at (ends (mid_of last carried)) left to
  pub whole : all ≡ fed ++ between at to left

-- States that what is put for a text is `replay_text` of it (`all_printed`).
abbrev pub AllPrinted : Type 0
AllPrinted = (ts : List (List ℕ)) (all : List ℕ) → Printed ts all → all ≡ replay_text (together ts)

-- AN ANSWER AND AN END: the text is one answer for each line that is read, and then the totals once. Returns
-- the answers to the lines that are read.
unfoldable pub answers_of : replay.Run → List (List ℕ) → List (List ℕ)
answers_of r [] = []
answers_of r (l ∷ ls) = cond (ltb r.lines limit) (line_text r l ∷ answers_of (after r l) ls) []

-- Returns the run after the lines that are read.
unfoldable pub last_of : replay.Run → List (List ℕ) → replay.Run
last_of r [] = r
last_of r (l ∷ ls) = cond (ltb r.lines limit) (last_of (after r l) ls) r

-- States that n answers are for all of the lines, or for the first 1,000,000 of them.
abbrev pub AllOrLimit : ℕ → ℕ → Type 0
AllOrLimit n lines = ((n ≡ lines) × (n ≤ limit)) ⊎ ((n ≡ limit) × (limit ≤ lines))

-- States that what is printed for the text t is its answers and then the `end` line, whose first number is that
-- of the answers.
pub record TextAnswered (t : List ℕ) : Type 0 where
  pub text : replay_text t ≡ together (answers_of begin (lines_of t)) ++ last_text (last_of begin (lines_of t))
  pub total : (last_of begin (lines_of t)).lines ≡ length (answers_of begin (lines_of t))
  pub counted : AllOrLimit (length (answers_of begin (lines_of t))) (length (lines_of t))

-- States that this holds of every text (`texts_answered`).
abbrev pub TextsAnswered : Type 0
TextsAnswered = (t : List ℕ) → TextAnswered t
