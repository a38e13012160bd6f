-- The edges that are held: what the count says, what `add_infinite` makes of them, and what each answer of `Edges::add` does to them. Assumes nothing.
use Rattle.std.proofs.Common.{◌≡◌, ◌≢◌, ◌∙◌, ap, refl, subst, sym, ℕ, suc, zero, ◌+◌, ◌<◌, ◌≤◌, Bool, true, false, cond, List, [], ◌∷◌, ◌++◌, length, get_or, set, drop, ⊎_elim, add-one, arith, eq-eqb, eqb, ne_eqb, length-append, length-set, drop-cons}
use lib.Ieee.{Float}
use lib.ListN.{get_or-append}
use lib.Seq.{drop-length, get_or_at, get_or-set_other, get_or-set_same}
use Rattle.lists.proofs.Numbers.{below?, same?}
use Rattle.newtonian.specs.declared.Hessian.{Hessian}
use Rattle.polyhedron_on_edge.specs.Block.{dyad_in, edge_of_block, HoldsEdgesIn, no_edge}
use Rattle.polyhedron_on_edge.specs.Held.{HoldsEdges}
use Rattle.polyhedron_on_edge.specs.OnEdge.{Edge, add_dyad, add_infinite, add_matrices, edge_limit, infinite_entries}
use Rattle.polyhedron_on_edge.specs.declared.Edges.{Edges}

-- ---- the definition, where the key is found and where it is not

pub add_found : (k : ℕ) (d : Hessian) (es : List Edge) (i : ℕ) → i < length es → (get_or es i no_edge).key ≡ k → ((j : ℕ) → j < i → (get_or es j no_edge).key ≡ k → ⊥)
    → add_dyad k d es ≡ set es i (record { key = (get_or es i no_edge).key; dyad = add_matrices (get_or es i no_edge).dyad d })
unfolding add_dyad
add_found k d [] i h e none = absurd (omega arith)
add_found k d (x ∷ es) zero h e none = simp (eq-eqb _ _ e)
add_found k d (x ∷ es) (suc i) h e none =
    simp (ne_eqb _ _ (none zero (omega arith))) (ap (λ (l : List Edge). x ∷ l) (add_found k d es i (omega arith) e (λ j p. none (suc j) (omega arith))))

pub add_new : (k : ℕ) (d : Hessian) (es : List Edge) → ((j : ℕ) → j < length es → (get_or es j no_edge).key ≡ k → ⊥)
    → add_dyad k d es ≡ es ++ (record { key = k; dyad = d } ∷ [])
unfolding add_dyad
add_new k d [] none = refl
add_new k d (x ∷ es) none =
    simp (ne_eqb _ _ (none zero (omega arith))) (ap (λ (l : List Edge). x ∷ l) (add_new k d es (λ j p. none (suc j) (omega arith))))

pub add_grows : (k : ℕ) (d : Hessian) (es : List Edge) → length es ≤ length (add_dyad k d es)
unfolding add_dyad
add_grows k d [] = omega arith
add_grows k d (x ∷ es) = go (add_grows k d es) (eqb x.key k)
  where
    go : length es ≤ length (add_dyad k d es) → (b : Bool) → length (x ∷ es) ≤ length (cond b (record { key = x.key; dyad = add_matrices x.dyad d } ∷ es) (x ∷ add_dyad k d es))
    go h true = omega arith
    go h false = omega arith

-- an edge is its key and its sum
edge_ext : {k l : ℕ} {a b : Hessian} → k ≡ l → a ≡ b → ◌≡◌ {A = Edge} (record { key = k; dyad = a }) (record { key = l; dyad = b })
edge_ext p q = cc

-- ---- what the count says

module _ (es : List Edge) (keys : List ℕ) (dyads : List Float) (n : ℕ) (h : HoldsEdgesIn es keys dyads n) where
  pub few_in : n ≤ edge_limit → length es ≤ edge_limit
  few_in l = ⊎_elim (λ p. absurd (omega (arith, h.many p))) (λ p. p) (below? edge_limit (length es))

  count_in : n ≤ edge_limit → n ≡ length es
  count_in l = h.few (few_in l)

  entry_in : n ≤ edge_limit → (i : ℕ) → i < n → edge_of_block keys dyads i ≡ get_or es i no_edge
  entry_in l i p = h.entries (few_in l) i (omega (arith, count_in l))

  -- ---- the loop of `add_infinite`

  pub infinite_more : n ≤ edge_limit → (i : ℕ) → i < n → (t : Hessian) → add_infinite (drop (i + 1) es) (infinite_entries t (dyad_in dyads i)) ≡ add_infinite (drop i es) t
  unfolding add_infinite
  infinite_more l i p t =
      let c : i < length es = omega (arith, count_in l) in
      rw (add-one, ap (λ (e : Edge). e.dyad) (entry_in l i p), drop-cons es i no_edge)

  pub infinite_end : n ≤ edge_limit → (t : Hessian) → add_infinite (drop n es) t ≡ t
  unfolding add_infinite
  infinite_end l t = rw (count_in l, drop-length)

-- ---- the edges that are held

module _ (es : List Edge) (held : Edges) (h : HoldsEdges es held) where
  pub held_in : HoldsEdgesIn es held.keys held.dyads held.count
  held_in = record { many = h.many; few = h.few; entries = h.entries }

  pub held_few : held.count ≤ edge_limit → length es ≤ edge_limit
  held_few = few_in es held.keys held.dyads held.count held_in

  held_count : held.count ≤ edge_limit → held.count ≡ length es
  held_count = count_in es held.keys held.dyads held.count held_in

  held_key : held.count ≤ edge_limit → (i : ℕ) → i < held.count → get_or held.keys i 0 ≡ (get_or es i no_edge).key
  held_key l i p = ap (λ (e : Edge). e.key) (entry_in es held.keys held.dyads held.count held_in l i p)

  held_dyad : held.count ≤ edge_limit → (i : ℕ) → i < held.count → dyad_in held.dyads i ≡ (get_or es i no_edge).dyad
  held_dyad l i p = ap (λ (e : Edge). e.dyad) (entry_in es held.keys held.dyads held.count held_in l i p)

  -- ---- the four answers

  module _ (k : ℕ) (d : Hessian) where
    pub was_full : edge_limit < held.count → HoldsEdges (add_dyad k d es) held
    was_full l = record {
      many = λ _. l;
      few = λ p. absurd (omega (arith, add_grows k d es, h.few (omega (arith, add_grows k d es))));
      entries = λ p. absurd (omega (arith, add_grows k d es, h.few (omega (arith, add_grows k d es))));
    }

    -- held' is what is held after it
    module _ (l : held.count ≤ edge_limit) (held' : Edges) where
      pub is_found : (r : ℕ) → (r < held.count) × (get_or held.keys r 0 ≡ k) × ((j : ℕ) → j < r → get_or held.keys j 0 ≢ k)
          → held'.count ≡ held.count → held'.keys ≡ held.keys → dyad_in held'.dyads r ≡ add_matrices (dyad_in held.dyads r) d
          → ((j : ℕ) → j ≢ r → dyad_in held'.dyads j ≡ dyad_in held.dyads j) → HoldsEdges (add_dyad k d es) held'
      is_found r f p q here others =
          let c = held_count l in
          let new : Edge = record { key = (get_or es r no_edge).key; dyad = add_matrices (get_or es r no_edge).dyad d } in
          let a = add_found k d es r (omega (arith, f.0)) (sym (held_key l r f.0) ∙ f.1) (λ j m e. f.2 j m (held_key l j (omega (arith, f.0)) ∙ e)) in
          let len : length (add_dyad k d es) ≡ length es = ap length a ∙ length-set es r new in
          record {
            many = λ m. absurd (omega arith);
            few = λ _. omega arith;
            entries = λ _ i m.
                ⊎_elim
                (λ e. rw (a, q) (
                subst (λ (j : ℕ). ◌≡◌ {A = Edge} (record { key = get_or held.keys j 0; dyad = dyad_in held'.dyads j }) (get_or (set es r new) j no_edge)) (sym e) (
                edge_ext (held_key l r f.0) (here ∙ ap (λ (x : Hessian). add_matrices x d) (held_dyad l r f.0))
                ∙ sym (get_or-set_same es r new no_edge (omega (arith, f.0))))))
                (λ ne. rw (a, q) (edge_ext (held_key l i (omega arith)) (others i ne ∙ held_dyad l i (omega arith)) ∙ sym (get_or-set_other es r i new no_edge ne)))
                (same? i r);
          }

      module _ (none : (j : ℕ) → j < held.count → get_or held.keys j 0 ≢ k) where
        none-met : (j : ℕ) → j < length es → (get_or es j no_edge).key ≢ k
        none-met j p e = none j (omega (arith, held_count l)) (held_key l j (omega (arith, held_count l)) ∙ e)

        abbrev new : Edge
        new = record { key = k; dyad = d }

        one-longer : length (add_dyad k d es) ≡ length es + 1
        one-longer = ap length (add_new k d es none-met) ∙ length-append es (new ∷ [])

        pub is_past : held.count ≡ edge_limit → held'.count ≡ held.count + 1 → HoldsEdges (add_dyad k d es) held'
        is_past m q =
            let c = held_count l in
            let len = one-longer in
            record { many = λ _. omega arith; few = λ o. absurd (omega arith); entries = λ o. absurd (omega arith) }

        pub is_new : held.count < length held.keys → held'.count ≡ held.count + 1 → held'.keys ≡ set held.keys held.count k → dyad_in held'.dyads held.count ≡ d
            → ((j : ℕ) → j ≢ held.count → dyad_in held'.dyads j ≡ dyad_in held.dyads j) → HoldsEdges (add_dyad k d es) held'
        is_new z p q here others =
            let a = add_new k d es none-met in
            let len = one-longer in
            let c = held_count l in
            record {
              many = λ o. omega arith;
              few = λ _. omega arith;
              entries = λ _ i o.
                  ⊎_elim
                  (λ e. rw (a, q) (
                  subst (λ (j : ℕ). ◌≡◌ {A = Edge} (record { key = get_or (set held.keys held.count k) j 0; dyad = dyad_in held'.dyads j }) (get_or (es ++ (new ∷ [])) j no_edge)) (sym e) (
                  edge_ext (get_or-set_same held.keys held.count k 0 z) here
                  ∙ sym (get_or_at es new [] no_edge held.count (sym c)))))
                  (λ ne. rw (a, q) (
                  edge_ext (get_or-set_other held.keys held.count i k 0 ne ∙ held_key l i (omega arith)) (others i ne ∙ held_dyad l i (omega arith))
                  ∙ sym (get_or-append es (new ∷ []) no_edge i (omega arith))))
                  (same? i held.count);
            }
