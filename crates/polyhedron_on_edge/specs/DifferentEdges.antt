-- The edges that `add_dyad` keeps are different. Assumes nothing. States:
-- `add-has`: after a dyad for the edge with the key k, that key is there; `add-itself`: once, if the edges were different;
-- `add_other`: every other key is there as often as before;
-- `add_different`: so edges that are different stay so.
use Rattle.std.specs.Prelude.{Bool, cond, false, true, List, [], ◌∷◌, ◌≡◌, refl, ◌+◌, ◌≤◌, ℕ, eqb}
use Rattle.std.proofs.Common.{⊎_elim, ap, sym, arith, eqb-true}
use Rattle.std.proofs.lemmas.Bool.{eqb-false}
use Rattle.lists.proofs.Counts.{one_other, one_same}
use Rattle.lists.proofs.Numbers.{same?}
use Rattle.lists.specs.Count.{count, one}
use Rattle.newtonian.specs.declared.Hessian.{Hessian}
use Rattle.polyhedron_on_edge.specs.OnEdge.{Edge, add_dyad, add_matrices}

-- the keys of the edges, in order
abbrev pub edge_keys : List Edge → List ℕ
edge_keys [] = []
edge_keys (e ∷ es) = e.key ∷ edge_keys es

-- no two of the edges have one key
abbrev pub Different : List Edge → Type 0
Different es = (k : ℕ) → count k (edge_keys es) ≤ 1

pub add-itself : (k : ℕ) (d : Hessian) (es : List Edge) → count k (edge_keys es) ≤ 1 → count k (edge_keys (add_dyad k d es)) ≡ 1
unfolding add_dyad
add-itself k d [] h = omega (arith, one_same k k refl)
add-itself k d (e ∷ es) h = go (eqb e.key k) refl (λ l. add-itself k d es l)
  where
    go : (b : Bool) → eqb e.key k ≡ b → (count k (edge_keys es) ≤ 1 → count k (edge_keys (add_dyad k d es)) ≡ 1)
        → count k (edge_keys (cond b (record { key = e.key; dyad = add_matrices e.dyad d } ∷ es) (e ∷ add_dyad k d es))) ≡ 1
    go true q rest = omega (arith, one_same k e.key (sym (eqb-true e.key k q)))
    go false q rest = omega (arith, one_other k e.key (λ p. eqb-false e.key k q (sym p)), rest (omega arith))

pub add_other : (j k : ℕ) (d : Hessian) (es : List Edge) → (j ≡ k → ⊥) → count j (edge_keys (add_dyad k d es)) ≡ count j (edge_keys es)
unfolding add_dyad
add_other j k d [] n = omega (arith, one_other j k n)
add_other j k d (e ∷ es) n = go (eqb e.key k) (add_other j k d es n)
  where
    go : (b : Bool) → count j (edge_keys (add_dyad k d es)) ≡ count j (edge_keys es)
        → count j (edge_keys (cond b (record { key = e.key; dyad = add_matrices e.dyad d } ∷ es) (e ∷ add_dyad k d es))) ≡ count j (edge_keys (e ∷ es))
    go true h = refl
    go false h = ap (λ (m : ℕ). one (eqb j e.key) + m) h

pub add-has : (k : ℕ) (d : Hessian) (es : List Edge) → 1 ≤ count k (edge_keys (add_dyad k d es))
unfolding add_dyad
add-has k d [] = omega (arith, one_same k k refl)
add-has k d (e ∷ es) = go (eqb e.key k) refl (add-has k d es)
  where
    go : (b : Bool) → eqb e.key k ≡ b → 1 ≤ count k (edge_keys (add_dyad k d es))
        → 1 ≤ count k (edge_keys (cond b (record { key = e.key; dyad = add_matrices e.dyad d } ∷ es) (e ∷ add_dyad k d es)))
    go true q h = omega (arith, one_same k e.key (sym (eqb-true e.key k q)))
    go false q h = omega arith

pub add_different : (k : ℕ) (d : Hessian) (es : List Edge) → Different es → Different (add_dyad k d es)
add_different k d es h j = ⊎_elim (λ q. rw q (omega (arith, add-itself k d es (h k)))) (λ n. omega (arith, add_other j k d es n, h j)) (same? j k)
