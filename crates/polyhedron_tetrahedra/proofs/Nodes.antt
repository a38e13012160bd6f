-- The elements of the mapped rule: from the rule of six points, and by their index. Assumes nothing.
use mathlib.Core.Path.{◌≡◌, refl, sym, ap, ◌∙◌}
use Prim.Native.Nat.{ℕ, zero, suc, ◌+◌, ◌<◌}
use mathlib.Core.List.{List, [], ◌∷◌}
use native.Mathlib.Omega.{arith}
use lib.Dec.{lit≤}
use lib.ListN.{length, get_or, set}
use Rattle.std.proofs.lemmas.List.Edits.{fill_by_more}
use Rattle.std.proofs.lemmas.List.{ext_get_or}
use lib.Ieee.{Float, nan}
use Rattle.doubles.specs.Rounded.{◌⊕◌, ◌⊗◌}
use Rattle.doubles.specs.Constants.{0·5, 1·0}
use Rattle.legendre.specs.GaussLegendre.{rule}
use Rattle.legendre.specs.RuleEntries.{node_at, weight-at}
use Rattle.polyhedron_tetrahedra.specs.Mapped.{points, mapped_node, mapped_weight, mapped_nodes, mapped_weights}

pub map-node : (i : ℕ) → i < points → 0·5 ⊗ (get_or (rule points).nodes i nan ⊕ 1·0) ≡ mapped_node i
unfolding mapped_node
map-node i h = ap (λ (x : Float). 0·5 ⊗ (x ⊕ 1·0)) (node_at points i nan (lit≤ tt) h)

pub map-weight : (i : ℕ) → i < points → 0·5 ⊗ get_or (rule points).weights i nan ≡ mapped_weight i
unfolding mapped_weight
map-weight i h = ap (λ (x : Float). 0·5 ⊗ x) (weight-at points i nan (lit≤ tt) h)

-- one more element of a list that is written in order
pub one_more : (f : ℕ → Float) (xs : List Float) (i : ℕ) {v : Float} → v ≡ f i → i < length xs → ((k : ℕ) → k < i → get_or xs k nan ≡ f k) → (k : ℕ) → k < i + 1 → get_or (set xs i v) k nan ≡ f k
one_more f xs i e l h = rw e (fill_by_more f xs i nan l h)

six : (g : ℕ → Float) (i : ℕ) → i < points → get_or (g 0 ∷ g 1 ∷ g 2 ∷ g 3 ∷ g 4 ∷ g 5 ∷ []) i nan ≡ g i
six g zero h = refl
six g (suc zero) h = refl
six g (suc (suc zero)) h = refl
six g (suc (suc (suc zero))) h = refl
six g (suc (suc (suc (suc zero)))) h = refl
six g (suc (suc (suc (suc (suc zero))))) h = refl
six g (suc (suc (suc (suc (suc (suc i)))))) h = absurd (omega arith)

pub rule_node : (i : ℕ) → i < points → get_or mapped_nodes i nan ≡ mapped_node i
unfolding mapped_nodes
rule_node i h = six mapped_node i h

pub rule_weight : (i : ℕ) → i < points → get_or mapped_weights i nan ≡ mapped_weight i
unfolding mapped_weights
rule_weight i h = six mapped_weight i h

pub all_nodes : {xs : List Float} → length xs ≡ points → ((i : ℕ) → i < points → get_or xs i nan ≡ mapped_node i) → xs ≡ mapped_nodes
unfolding mapped_nodes
all_nodes {xs} e h = ext_get_or nan xs mapped_nodes e (λ i l. h i (rw e at l) ∙ sym (six mapped_node i (rw e at l)))

pub all_weights : {xs : List Float} → length xs ≡ points → ((i : ℕ) → i < points → get_or xs i nan ≡ mapped_weight i) → xs ≡ mapped_weights
unfolding mapped_weights
all_weights {xs} e h = ext_get_or nan xs mapped_weights e (λ i l. h i (rw e at l) ∙ sym (six mapped_weight i (rw e at l)))
