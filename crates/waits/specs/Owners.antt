-- OWNERS THAT BLOCK an intent, and who truly waits for whom.
use Rattle.std.specs.Prelude.{List, [], ◌++◌, Bool, cond, ℕ, Option, None, Some}
use Rattle.sets.specs.Lists.{among}
use Rattle.graph.specs.Graph.{one}
use Rattle.waits.specs.Tables.{intent_of, owner_of, writer_of}
use Rattle.waits.specs.Counts.{readers}
use Rattle.waits.specs.declared.tables.Waits.{Waits}
use Rattle.waits.specs.declared.intent.WaitIntent.{WaitIntent}
use Rattle.waits.specs.declared.intent.WaitMode.{WaitMode}
use Rattle.waits.specs.declared.intent.WaitMode.TheVariants.{Mutex, RwRead, RwWrite}

-- Returns the readers rs, and then the writer o unless it is nobody or one of them.
abbrev pub then_writer : List ℕ → ℕ → List ℕ
then_writer rs o = rs ++ cond (among o rs) [] (one o)

-- Returns the owners that block an intent on l, by its mode: for a mutex its owner, for a read the writer, for a write
-- the readers, upward, and then the writer if it does not read too. The thread that waits may be among them.
abbrev pub owners_for : List ℕ → Waits → ℕ → WaitMode → List ℕ
owners_for counts w l Mutex = one (owner_of w l)
owners_for counts w l RwRead = one (writer_of w l)
owners_for counts w l RwWrite = then_writer (readers counts l) (writer_of w l)

-- Returns the owners that block the intent i.
abbrev pub owners : List ℕ → Waits → WaitIntent → List ℕ
owners counts w i = owners_for counts w i.lock_id i.mode

-- TRULY WAITS
-- Returns the owners that block a thread, or no owners if it has no intent.
abbrev pub blocking : List ℕ → Waits → Option WaitIntent → List ℕ
blocking counts w None = []
blocking counts w (Some i) = owners counts w i

-- Returns true if a truly waits for b: b is one of the owners that block a's intent. Without an intent it is false.
unfoldable pub waits_for : List ℕ → Waits → ℕ → ℕ → Bool
waits_for counts w a b = among b (blocking counts w (intent_of w a))
