-- The code does what the rules do, one waiter and one lock at a time.
use mathlib.Core.Path.{◌≡◌, refl, sym, ap, ◌∙◌, subst}
use mathlib.Core.List.{List, [], ◌∷◌, foldl}
use Prim.Native.Nat.{ℕ}
use Rattle.std.specs.Prelude.{Option, None, Some}
use Rattle.std.specs.Option.{option_or}
use Rattle.graph.specs.Graph.{Adding, adding, first}
use Rattle.graph.specs.declared.wait_for_graph.WaitForGraph.{WaitForGraph}
use Rattle.graph.proofs.Adding.{sooner_first}
use Rattle.waits.specs.Tables.{intent_of, with_graph, InRange}
use Rattle.waits.specs.Waiting.{Linking, renew_for, renew, renew_start, renew_all, refresh, refresh_next}
use Rattle.waits.specs.Code.{linked}
use Rattle.waits.specs.declared.tables.Waits.{Waits}
use Rattle.waits.specs.declared.intent.WaitIntent.{WaitIntent}

first_alone : (o : Option (List ℕ)) → first o None ≡ o
first_alone (Some p) = refl
first_alone None = refl

-- Renewing one more waiter in the code is renewing it by the rule, whose owners do not depend on the graph.
pub renew_step : (c : List ℕ) (w : Waits) (g h : WaitForGraph) (before now : Option (List ℕ)) (t : ℕ)
    → adding h now ≡ renew c (with_graph w g) (adding g None) t → adding h (option_or before now) ≡ renew c w (adding g before) t
unfolding renew
renew_step c w g h before now t = go (intent_of w t)
  where
    keep : (k : Adding) → adding h now ≡ k → adding h (option_or before now) ≡ adding k.graph (first before k.found)
    keep k e = rw sooner_first (ap (λ (x : Adding). adding x.graph (first before x.found)) e)

    go : (a : Option WaitIntent) → adding h now ≡ renew_for c w (adding g None) t a → adding h (option_or before now) ≡ renew_for c w (adding g before) t a
    go None e = keep _ e ∙ ap (adding g) (first_alone before)
    go (Some i) e = keep _ e

-- Returns the graph and the first path after the code's `renew` of one more waiter.
abbrev pub renew_c : List ℕ → Waits → Adding → ℕ → Adding
renew_c c w k t = let r = renew c (with_graph w k.graph) (adding k.graph None) t in adding r.graph (option_or k.found r.found)

-- The code's walk over the waiters gives the rule's result.
all_code : (c : List ℕ) (w : Waits) (ts : List ℕ) (k : Adding) → foldl (renew_c c w) k ts ≡ foldl (renew c w) k ts
all_code c w [] k = refl
all_code c w (t ∷ ts) k = ap (λ a. foldl (renew_c c w) a ts) (renew_step c w k.graph _ k.found _ t refl) ∙ all_code c w ts (renew c w k t)

pub renew_all_code : (c : List ℕ) (w : Waits) (ts : List ℕ) → foldl (renew_c c w) (renew_start w) ts ≡ renew_all c w ts
unfolding renew_all
renew_all_code c w ts = all_code c w ts (renew_start w)

-- Refreshing one more lock in the code is refreshing it by the rule.
pub refresh_step : (c : List ℕ) (w v : Waits) (before now : Option (List ℕ)) (l : ℕ)
    → linked v now ≡ refresh c w l → linked v (option_or before now) ≡ refresh_next c (linked w before) l
unfolding refresh_next
refresh_step c w v before now l e = rw sooner_first (ap (λ (r : Linking). linked r.waits (first before r.found)) e)

-- A result that equals tables in range is in range.
pub pack : {r s : Waits} → r ≡ s → InRange s → (r ≡ s) × InRange r
pack e h = (e, subst InRange (sym e) h)

pub pack_linked : {v : Waits} {o : Option (List ℕ)} {s : Linking} → linked v o ≡ s → InRange s.waits → (linked v o ≡ s) × InRange v
pack_linked {v} {o} {s} e h = (e, subst InRange (sym (ap (λ (x : Linking). x.waits) e)) h)
