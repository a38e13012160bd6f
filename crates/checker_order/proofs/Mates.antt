-- The mates, a face at a time: the edge uses i, i + 1 and i + 2. Assumes nothing.
use mathlib.Core.Path.{◌≡◌, refl, ap, subst, ◌∙◌}
use mathlib.Core.Bool.{Bool, true, false, ◌&&◌}
use mathlib.Core.List.{List}
use Prim.Native.Nat.{ℕ, ◌+◌, ◌*◌, ◌/◌, ◌%◌, ◌<◌}
use native.Mathlib.Omega.{arith}
use lib.Dec.{eqb, ltb}
use lib.ListN.{length, get_or}
use Rattle.refusals.specs.declared.Refusal.TheVariants.{WrongMate}
use Rattle.std.specs.Prelude.{Ok, Err}
use Rattle.refusals.specs.Causes.{unless, first_of}
use Rattle.lists.proofs.Numbers.{both}
use Rattle.mesh_orders.specs.Edges.{edge_number, edge, reverse}
use Rattle.mesh.proofs.Scans.{scan_more, scan_stop}
use Rattle.sheet.specs.Checker.{is_reverse, wrong_mate}
use Rattle.checker_order.specs.Reverses.{reverses}

-- ---- the test of one mate: w, of a use whose reverse is (a, b)

abbrev pub Tested : List ℕ → ℕ → ℕ → ℕ → Bool
Tested f w a b = ltb w (length f) && eqb (edge f w) (edge_number a b)

module _ (f m : List ℕ) where
  tested : (u w x y : ℕ) → w ≡ get_or m u 0 → reverse f u ≡ edge_number x y → Tested f w x y ≡ is_reverse f m u
  tested u w x y e q = rw (e, q)

  module _ (i : ℕ) (t : i % 3 ≡ 0) where
    pub first : (w : ℕ) → w ≡ get_or m i 0 → Tested f w (get_or f (i + 1) 0) (get_or f i 0) ≡ is_reverse f m i
    unfolding reverse
    first w e = let n : i / 3 * 3 + (i + 1) % 3 ≡ i + 1 = omega arith in tested i w _ _ e (rw n)

    pub second : (w : ℕ) → w ≡ get_or m (i + 1) 0 → Tested f w (get_or f (i + 2) 0) (get_or f (i + 1) 0) ≡ is_reverse f m (i + 1)
    unfolding reverse
    second w e = let n : (i + 1) / 3 * 3 + (i + 1 + 1) % 3 ≡ i + 2 = omega arith in tested (i + 1) w _ _ e (rw n)

    pub third : (w : ℕ) → w ≡ get_or m (i + 2) 0 → Tested f w (get_or f i 0) (get_or f (i + 2) 0) ≡ is_reverse f m (i + 2)
    unfolding reverse
    third w e = let n : (i + 2) / 3 * 3 + (i + 2 + 1) % 3 ≡ i = omega arith in tested (i + 2) w _ _ e (rw n)

-- ---- the three of a face

stopped : (x y z : Bool) {A : Type 0} → (x && (y && z)) ≡ false → (x ≡ false → A) → (x ≡ true → y ≡ false → A) → (x ≡ true → y ≡ true → z ≡ false → A) → A
stopped false y z e p q r = p refl
stopped true false z e p q r = q refl refl
stopped true true z e p q r = r refl refl e

module _ (f m : List ℕ) (i : ℕ) where
  pub not_first : is_reverse f m i ≡ false → false ≡ reverses f m i
  unfolding reverses
  not_first e = rw e

  pub not-second : is_reverse f m i ≡ true → is_reverse f m (i + 1) ≡ false → false ≡ reverses f m i
  unfolding reverses
  not-second e d = rw (e, d)

  pub up_to-third : is_reverse f m i ≡ true → is_reverse f m (i + 1) ≡ true → is_reverse f m (i + 2) ≡ reverses f m i
  unfolding reverses
  up_to-third e d = rw (e, d)

module _ (f m : List ℕ) where
  -- the mates below i are reverses
  abbrev pub Mates : ℕ → Type 0
  Mates i = first_of i (λ j. unless (is_reverse f m j) WrongMate) ≡ Ok tt

  one_more : (i : ℕ) → Mates i → is_reverse f m i ≡ true → Mates (i + 1)
  one_more = scan_more (length f) (is_reverse f m) (λ j. WrongMate)

  one_stop : (i : ℕ) → i < length f → Mates i → is_reverse f m i ≡ false → Err WrongMate ≡ wrong_mate f m
  unfolding wrong_mate
  one_stop = scan_stop (length f) (is_reverse f m) (λ j. WrongMate)

  two : (i : ℕ) → i + 1 + 1 ≡ i + 2
  two i = omega arith

  third_at : (i : ℕ) {t : Bool} → is_reverse f m (i + 2) ≡ t → is_reverse f m (i + 1 + 1) ≡ t
  third_at i e = ap (is_reverse f m) (two i) ∙ e

  pub three_more : (i : ℕ) → Mates i → reverses f m i ≡ true → Mates (i + 3)
  unfolding reverses
  three_more i h e =
      let p = both (is_reverse f m i) _ e in
      let q = both (is_reverse f m (i + 1)) _ p.1 in
      let n : i + 1 + 1 + 1 ≡ i + 3 = omega arith in
      subst Mates n (one_more (i + 1 + 1) (one_more (i + 1) (one_more i h p.0) q.0) (third_at i q.1))

  pub three_stop : (i : ℕ) → i + 2 < length f → Mates i → reverses f m i ≡ false → Err WrongMate ≡ wrong_mate f m
  unfolding reverses
  three_stop i l h e =
      stopped (is_reverse f m i) (is_reverse f m (i + 1)) (is_reverse f m (i + 2)) e (λ x. one_stop i (omega arith) h x)
      (λ x y. one_stop (i + 1) (omega arith) (one_more i h x) y)
      (λ x y z. one_stop (i + 1 + 1) (omega arith) (one_more (i + 1) (one_more i h x) y) (third_at i z))
