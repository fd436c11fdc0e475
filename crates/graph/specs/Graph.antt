-- The wait-for graph and what the rules do to it (docs/RULES.md).
use Rattle.std.specs.Prelude.{◌≡◌, Bool, true, false, not, cond, ℕ, ◌<◌, ◌^◌, ltb, set, length, replicate, Option, None, Some}
use mathlib.Core.List.{List, [], ◌∷◌, foldl}
use Rattle.sets.specs.Limits.{THREADS}
use Rattle.sets.specs.Sets.{bit, has, with, without, upward}
use Rattle.sets.specs.Below.{every}
use Rattle.graph.specs.Ways.{Rel, Acyclic}
use Rattle.graph.specs.Search.{row, find_path}
use Rattle.graph.specs.declared.wait_for_graph.WaitForGraph.{WaitForGraph}

-- Returns the graph with these edges and incoming edges.
abbrev pub graph : List ℕ → List ℕ → WaitForGraph
graph e i = record { edges = e; incoming_edges = i }

-- Returns the graph without edges.
abbrev pub empty : WaitForGraph
empty = graph (replicate THREADS 0) (replicate THREADS 0)

-- Returns the table with j added to row i.
abbrev pub put : List ℕ → ℕ → ℕ → List ℕ
put t i j = set t i (with (row t i) j)

-- Returns the table with j taken out of row i.
abbrev pub cut : List ℕ → ℕ → ℕ → List ℕ
cut t i j = set t i (without (row t i) j)

-- Returns the table with j taken out of row i for every i in the set m.
unfoldable pub cut_all : ℕ → List ℕ → ℕ → List ℕ
cut_all j t m = foldl (λ u i. cut u i j) t (upward THREADS m)

-- ADD EDGE
-- The graph after edges were added, and the first path that kept an edge from being stored, if there was one.
pub record Adding : Type 0 where
  pub graph : WaitForGraph
  pub found : Option (List ℕ)

-- Returns a graph and a path, or none, as an Adding.
abbrev pub adding : WaitForGraph → Option (List ℕ) → Adding
adding g p = record { graph = g; found = p }

-- Returns the graph with the edge from a to b in both tables.
unfoldable pub stored : WaitForGraph → ℕ → ℕ → WaitForGraph
stored g a b = graph (put g.edges a b) (put g.incoming_edges b a)

-- Adds the edge from a to b after a search from b to a. If that found a path, the edge would close a cycle: the graph
-- stays as it is, and the path is returned. If it found none, the edge is stored.
unfoldable pub closing : WaitForGraph → ℕ → ℕ → Option (List ℕ) → Adding
closing g a b (Some p) = adding g (Some p)
closing g a b None = adding (stored g a b) None

-- Adds the edge from a to b. Nothing changes if the graph has it; if not, the search for a path back decides.
unfoldable pub add_edge : WaitForGraph → ℕ → ℕ → Adding
add_edge g a b = cond (has (row g.edges a) b) (adding g None) (closing g a b (find_path g.edges b a))

-- Returns the first path if there is one, or the second.
abbrev pub first : Option (List ℕ) → Option (List ℕ) → Option (List ℕ)
first (Some p) q = Some p
first None q = q

-- Adds the edge from t to one more owner, and keeps a path found before.
unfoldable pub add_next : ℕ → Adding → ℕ → Adding
add_next t k o = let r = add_edge k.graph t o in adding r.graph (first k.found r.found)

-- Adds an edge from t to each owner, in order, and keeps the first path. A path does not stop the owners after it.
unfoldable pub add_owners : ℕ → WaitForGraph → List ℕ → Adding
add_owners t g os = foldl (add_next t) (adding g None) os

-- Returns the thread o alone in a list, or the empty list if o is nobody.
abbrev pub one : ℕ → List ℕ
one o = cond (ltb o THREADS) (o ∷ []) []

-- DROPPING AN EDGE
-- Takes the edge from a to b out of both tables. Nothing changes if `edges` does not have it.
unfoldable pub remove_edge : WaitForGraph → ℕ → ℕ → WaitForGraph
remove_edge g a b = cond (has (row g.edges a) b) (graph (cut g.edges a b) (cut g.incoming_edges b a)) g

-- Drops the edge from each of the waiters ws to t.
unfoldable pub remove_edges_to : ℕ → WaitForGraph → List ℕ → WaitForGraph
remove_edges_to t g ws = foldl (λ h w. remove_edge h w t) g ws

-- Drops every edge from t.
unfoldable pub clear_wait_edges : WaitForGraph → ℕ → WaitForGraph
clear_wait_edges g t = graph (set g.edges t 0) (cut_all t g.incoming_edges (row g.edges t))

-- REMOVE THREAD
-- Drops every edge from t, then every edge to t that `incoming_edges` shows.
unfoldable pub remove_thread : WaitForGraph → ℕ → WaitForGraph
remove_thread g t =
    let h : WaitForGraph = clear_wait_edges g t in
    graph (cut_all t h.edges (row h.incoming_edges t)) (set h.incoming_edges t 0)

-- WHAT A GRAPH KEEPS TO
-- Returns a table of rows as a relation: an edge leads from a to b if b is in row a.
abbrev pub Edge : List ℕ → Rel
Edge rows a b = bit (row rows a) b ≡ 1

-- States that b is in row a of the edges exactly when a is in row b of the incoming edges.
abbrev pub Mirror : List ℕ → List ℕ → Type 0
Mirror e i = (a b : ℕ) → bit (row e a) b ≡ bit (row i b) a

-- States that both tables have 32 rows, each a set of numbers below 32.
pub record Sized (g : WaitForGraph) : Type 0 where
  pub long : length g.edges ≡ THREADS
  pub long_in : length g.incoming_edges ≡ THREADS
  pub narrow : (i : ℕ) → row g.edges i < 2 ^ 32
  pub narrow_in : (i : ℕ) → row g.incoming_edges i < 2 ^ 32

-- States that a graph has its size, that its tables mirror each other, and that it has no cycle.
pub record Good (g : WaitForGraph) : Type 0 where
  pub sized : Sized g
  pub mirror : Mirror g.edges g.incoming_edges
  pub acyclic : Acyclic (Edge g.edges)

-- Returns true if both are true or both are false.
abbrev pub agree : Bool → Bool → Bool
agree true y = y
agree false y = not y

-- Returns true if the tables agree on the edge from a to b. Here m is row a of the edges, and i has the incoming edges.
abbrev pub mirror_at : ℕ → List ℕ → ℕ → ℕ → Bool
mirror_at m i a b = agree (has m b) (has (row i b) a)

-- Returns true if the tables agree on every edge between the 32 threads.
unfoldable pub mirror_test : List ℕ → List ℕ → Bool
mirror_test e i = every (λ a. every (mirror_at (row e a) i a) THREADS) THREADS
