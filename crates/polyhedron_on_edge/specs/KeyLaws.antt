-- Laws of an edge's key. Assumes nothing. States:
-- `edge_key_either`: an edge has one key in both directions;
-- `edge_key_apart`: two edges whose vertex numbers are below 2³² have one key only if they are one edge, in either direction.
use Rattle.std.specs.Prelude.{◌⊎◌, ◌≡◌, ◌<◌, ◌≤◌, ℕ}
use Rattle.std.proofs.Common.{inl, inr, ⊎_elim, ◌∙◌, sym, arith, le-ltb, lt-ltb}
use Rattle.lists.proofs.Numbers.{below?}
use Rattle.polyhedron_on_edge.specs.OnEdge.{edge_key}
use Rattle.mesh_orders.specs.EdgeLaws.{number_apart}
use Rattle.mesh_orders.specs.Edges.{2³², edge_number}

edge_key_up : (i j : ℕ) → i < j → edge_key i j ≡ edge_number i j
unfolding edge_key
edge_key_up i j h = simp (lt-ltb i j h)

edge_key_down : (i j : ℕ) → j ≤ i → edge_key i j ≡ edge_number j i
unfolding edge_key
edge_key_down i j h = simp (le-ltb i j h)

-- the order of the two vertices does not matter
pub edge_key_either : (i j : ℕ) → edge_key i j ≡ edge_key j i
edge_key_either i j =
    ⊎_elim
    (λ h. edge_key_up i j h ∙ sym (edge_key_down j i (omega arith)))
    (λ h. ⊎_elim (λ l. edge_key_down i j h ∙ sym (edge_key_up j i l)) (λ l. let e : i ≡ j = omega arith in rw e) (below? j i))
    (below? i j)

-- the same pair, in either order
abbrev pub SamePair : ℕ → ℕ → ℕ → ℕ → Type 0
SamePair i j k l = ((i ≡ k) × (j ≡ l)) ⊎ ((i ≡ l) × (j ≡ k))

-- edges with one key are one edge
pub edge_key_apart : (i j k l : ℕ) → i < 2³² → j < 2³² → k < 2³² → l < 2³² → edge_key i j ≡ edge_key k l → SamePair i j k l
edge_key_apart i j k l hi hj hk hl e =
    ⊎_elim
    (λ p. ⊎_elim
    (λ q. inl (number_apart i j k l hj hl (sym (edge_key_up i j p) ∙ e ∙ edge_key_up k l q)))
    (λ q. inr (number_apart i j l k hj hk (sym (edge_key_up i j p) ∙ e ∙ edge_key_down k l q)))
    (below? k l))
    (λ p. ⊎_elim
    (λ q. let t = number_apart j i k l hi hl (sym (edge_key_down i j p) ∙ e ∙ edge_key_up k l q) in inr (t.1, t.0))
    (λ q. let t = number_apart j i l k hi hk (sym (edge_key_down i j p) ∙ e ∙ edge_key_down k l q) in inl (t.1, t.0))
    (below? k l))
    (below? i j)
