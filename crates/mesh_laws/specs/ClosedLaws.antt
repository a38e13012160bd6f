-- Closed, by edge uses and by pairs of vertices. States: `closed_pairs`, `pairs_closed`: the two say the same. Assumes nothing.
use Rattle.std.specs.Prelude.{◌≡◌, refl, List, ℕ, ◌≤◌, ◌<◌, length}
use Rattle.std.proofs.Common.{sym, ap₂, ◌∙◌, ⊎_elim, le_of_eq, arith}
use Rattle.lists.proofs.Numbers.{below?}
use Rattle.mesh_orders.specs.Edges.{from, to, occurrences}
use Rattle.mesh_orders.specs.EdgeLaws.{has-own, has_pair, occurs_some, some_use}
use Rattle.mesh.specs.Accepted.{Closed, ClosedPairs}

pub closed_pairs : (f : List ℕ) → Closed f → ClosedPairs f
closed_pairs f h = record { once = once; back = back }
  where
    -- an edge that occurs is that of a use
    one : (a b : ℕ) → 1 ≤ occurrences f a b → (occurrences f a b ≡ 1) × (occurrences f b a ≡ 1)
    one a b o =
        let u = some_use f a b o in
        let q = has_pair f u.0 a b u.2 in
        (sym (ap₂ (occurrences f) q.0 q.1) ∙ h.once u.0 u.1, sym (ap₂ (occurrences f) q.1 q.0) ∙ h.back u.0 u.1)

    once : (a b : ℕ) → occurrences f a b ≤ 1
    once a b = ⊎_elim (λ l. omega arith) (λ l. le_of_eq (one a b l).0) (below? (occurrences f a b) 1)

    back : (a b : ℕ) → 1 ≤ occurrences f a b → 1 ≤ occurrences f b a
    back a b o = omega (arith, (one a b o).1)

pub pairs_closed : (f : List ℕ) → ClosedPairs f → Closed f
pairs_closed f h = record { once = λ u l. omega (arith, own u l, h.once (from f u) (to f u)); back = λ u l. omega (arith, h.back (from f u) (to f u) (own u l), h.once (to f u) (from f u)) }
  where
    own : (u : ℕ) → u < length f → 1 ≤ occurrences f (from f u) (to f u)
    own u l = occurs_some f (from f u) (to f u) u l (has-own f u (from f u) (to f u) refl refl)
