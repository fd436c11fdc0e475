-- What adding an edge gives by what the search found, and which of two paths is kept.
use mathlib.Core.Path.{◌≡◌, refl, sym, ap}
use mathlib.Core.Bool.{true, false, false≢true}
use mathlib.Core.List.{List}
use Prim.Native.Nat.{ℕ}
use Rattle.std.specs.Prelude.{Option, None, Some, is_some}
use Rattle.std.specs.Option.{option_or}
use Rattle.graph.specs.Graph.{Adding, adding, closing, stored, add_edge, first, add_next}
use Rattle.graph.specs.declared.wait_for_graph.WaitForGraph.{WaitForGraph}

module _ (g : WaitForGraph) (a b : ℕ) where
  -- If a path was found, the graph stays as it is; if none was, the edge is stored.
  pub closes : (w : Option (List ℕ)) → is_some w ≡ true → closing g a b w ≡ adding g w
  unfolding closing
  closes (Some p) e = refl
  closes None e = absurd (false≢true e)

  pub stores : (w : Option (List ℕ)) → is_some w ≡ false → closing g a b w ≡ adding (stored g a b) w
  unfolding closing
  stores (Some p) e = absurd (false≢true (sym e))
  stores None e = refl

-- Of two paths `or` keeps the one that the rule keeps.
pub sooner_first : (p q : Option (List ℕ)) → option_or p q ≡ first p q
sooner_first (Some p) q = refl
sooner_first None q = refl

-- One more edge in the code is one more edge by the rule: the path that it gives comes after those before.
pub next_added : (t o : ℕ) (g h : WaitForGraph) (before now : Option (List ℕ)) → adding h now ≡ add_edge g t o
    → adding h (option_or before now) ≡ add_next t (adding g before) o
unfolding add_next
next_added t o g h before now e =
    rw sooner_first (ap (λ (k : Adding). adding k.graph (first before k.found)) e)
