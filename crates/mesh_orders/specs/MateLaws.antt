-- Laws of mates. States: `mate-occurs`, `occurs-mate`: there is a mate exactly where the reverse occurs; `mate-reverse`: it is the reverse; `mate-only`: where the reverse occurs once,
-- no other use is; `search_found`, `search_none`: a binary search of the order list finds it. Assumes nothing.
use Rattle.std.specs.Prelude.{◌≡◌, true, List, ℕ, ◌≤◌, ◌<◌}
use Rattle.std.proofs.Math.Path.{sym, ap}
use Rattle.std.proofs.Common.{◌∙◌, arith}
use Rattle.std.proofs.Math.Logic.{⊎_elim}
use Rattle.std.proofs.Math.Nat.{le_refl}
use Rattle.std.proofs.Math.ListN.{length, get_or}
use Rattle.std.proofs.Math.Dec.{eqb}
use borrow.Author.Tests.{eq-eqb, ne_eqb, eqb-true, eqb-false}
use Rattle.lists.specs.Sort.{LowerBound}
use Rattle.lists.specs.First.{IsFirst}
use Rattle.lists.proofs.Numbers.{same?, below?}
use Rattle.lists.proofs.Firsts.{first-is, first_unique}
use Rattle.mesh_orders.specs.Edges.{from, to, has, occurrences, edge, reverse, Faces}
use Rattle.mesh_orders.specs.Order.{key, order_list}
use Rattle.mesh_orders.specs.Mates.{mate}
use Rattle.mesh_orders.specs.EdgeLaws.{reverse_self, has-number, number-has, small-from, occurs_some, occurs-two, some_use}
use Rattle.mesh_orders.specs.OrderLaws.{order-length, order_below, place, order_strict, edge-le}

module _ (f : List ℕ) (u : ℕ) where
  first-mate : IsFirst (λ w. eqb (edge f w) (reverse f u)) (length f) (mate f u)
  unfolding mate
  first-mate = first-is (λ w. eqb (edge f w) (reverse f u)) (length f)

  pub mate-reverse : mate f u < length f → edge f (mate f u) ≡ reverse f u
  mate-reverse l = eqb-true (edge f (mate f u)) (reverse f u) (first-mate.here l)

  -- any first use with the reverse edge, and 3F where no use has it
  pub mate-first : (w : ℕ) → w < length f → edge f w ≡ reverse f u → ((k : ℕ) → k < w → edge f k ≡ reverse f u → ⊥) → w ≡ mate f u
  unfolding mate
  mate-first w wl e n =
      sym (first_unique (λ x. eqb (edge f x) (reverse f u)) (length f) w
      (record { upto = omega arith; before = λ k l. ne_eqb (edge f k) (reverse f u) (n k l); here = λ l. eq-eqb (edge f w) (reverse f u) e }))

  pub mate-none : ((k : ℕ) → k < length f → edge f k ≡ reverse f u → ⊥) → length f ≡ mate f u
  unfolding mate
  mate-none n =
      sym (first_unique (λ x. eqb (edge f x) (reverse f u)) (length f) (length f)
      (record { upto = le_refl (length f); before = λ k l. ne_eqb (edge f k) (reverse f u) (n k l); here = λ l. absurd (omega arith) }))

  module _ (h : Faces f) where
    has-reverse : (w : ℕ) → edge f w ≡ reverse f u → has f (to f u) (from f u) w ≡ true
    has-reverse w e = number-has f h w (to f u) (from f u) (omega (arith, small-from f h u)) (e ∙ reverse_self f u)

    -- there is a mate exactly where the reverse occurs
    pub reverse-occurs : (w : ℕ) → w < length f → edge f w ≡ reverse f u → 1 ≤ occurrences f (to f u) (from f u)
    reverse-occurs w l e = occurs_some f (to f u) (from f u) w l (has-reverse w e)

    pub mate-occurs : mate f u < length f → 1 ≤ occurrences f (to f u) (from f u)
    mate-occurs l = reverse-occurs (mate f u) l (mate-reverse l)

    pub occurs-mate : 1 ≤ occurrences f (to f u) (from f u) → mate f u < length f
    occurs-mate o =
        let r = some_use f (to f u) (from f u) o in
        ⊎_elim (λ l. l)
        (λ l. absurd (eqb-false (edge f r.0) (reverse f u) (first-mate.before r.0 (omega (arith, r.1)))
        (has-number f r.0 (to f u) (from f u) r.2 ∙ sym (reverse_self f u))))
        (below? (mate f u) (length f))

    -- where the reverse occurs once, whoever has it is the mate
    pub mate-only : occurrences f (to f u) (from f u) ≤ 1 → (w : ℕ) → w < length f → edge f w ≡ reverse f u → w ≡ mate f u
    mate-only o w wl e =
        mate-first w wl e
        (λ k l q. omega (arith, o, occurs-two f (to f u) (from f u) k w l wl (has-reverse k q) (has-reverse w e)))

    -- the first place of the order list whose edge is at least the reverse: the mate stands there, or nowhere
    module _ (r : ℕ) (lo : LowerBound (edge f) (order_list f) (reverse f u) r) where
      at_place : (k : ℕ) → k < length f → edge f k ≡ reverse f u → (p : ℕ) × (r ≤ p) × (p < length f) × (get_or (order_list f) p 0 ≡ k)
      at_place k kl q =
          let p = place f k kl in (
            p.at,
            ⊎_elim (λ l. absurd (omega (arith, lo.less p.at l, ap (edge f) p.is, q))) (λ l. l) (below? p.at r),
            omega (arith, p.within, order-length f),
            p.is,
          )

      pub search_found : r < length f → edge f (get_or (order_list f) r 0) ≡ reverse f u → get_or (order_list f) r 0 ≡ mate f u
      unfolding key
      search_found rl e =
          mate-first (get_or (order_list f) r 0) (order_below f r (omega (arith, order-length f))) e
          (λ k l q.
          let kl : k < length f = omega (arith, order_below f r (omega (arith, order-length f))) in
          let p = at_place k kl q in
          ⊎_elim (λ z. omega (arith, l, ap (λ (i : ℕ). get_or (order_list f) i 0) z, p.3))
          (λ z. omega (arith, l, order_strict f h r p.0 (omega (arith, p.1)) (omega (arith, p.2, order-length f)), ap (key f) p.3, e, q))
          (same? r p.0))

      pub search_none : ((l : r < length f) → edge f (get_or (order_list f) r 0) ≡ reverse f u → ⊥) → length f ≡ mate f u
      search_none n =
          mate-none (λ k kl q.
          let p = at_place k kl q in
          let rl : r < length f = omega (arith, p.1, p.2) in
          n rl (omega (
            arith,
            q,
            ap (edge f) p.3,
            edge-le f h r p.0 p.1 p.2,
            lo.most r (le_refl r) (omega (arith, order-length f)),
          )))
