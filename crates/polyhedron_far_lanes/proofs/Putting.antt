-- One station's lanes. States: `put-here`, `put_there`: what a put field changes, and what not; `no_fields`, `one_field`, `all-fields`: how a loop over the stations begins,
-- goes on and ends; `zero-fields`. Assumes nothing.
use mathlib.Core.Path.{◌≡◌, refl, ◌∙◌}
use mathlib.Core.List.{List}
use mathlib.Core.Logic.{⊎_elim}
use Prim.Native.Nat.{ℕ, zero, suc, ◌+◌, ◌*◌, ◌≤◌, ◌<◌}
use native.Mathlib.Nat.{not-suc-le-zero}
use native.Mathlib.Omega.{arith}
use lib.Dec.{lit≤}
use lib.Ieee.{Float, nan}
use lib.ListN.{length, get_or, length-set, replicate, get_or-replicate}
use lib.Seq.{get_or-set_same, get_or-set_other}
use Rattle.doubles.specs.Constants.{0·0}
use Rattle.lists.proofs.Numbers.{same?}
use Rattle.newtonian.specs.Fold.{Fold}
use Rattle.newtonian.specs.Vectors.{field_numbers, field_size, zero_field}
use Rattle.newtonian.specs.declared.Newtonian.{Newtonian}
use Rattle.lanes.specs.Lanes.{lane}
use Rattle.polyhedron_far_lanes.specs.EightFields.{field_at, Fields, lane_of, put, put_number}

lane-is : (q k : ℕ) → lane_of q k ≡ 8 * q + k
lane-is zero k = omega arith
lane-is (suc q) k = refl

module _ (k : ℕ) (v : Newtonian) (f : List Float) where
  size_of : (n : ℕ) → length (Fold n (put_number k v) f) ≡ length f
  unfolding Fold
  size_of zero = refl
  size_of (suc n) = length-set (Fold n (put_number k v) f) (lane_of n k) (get_or (field_numbers v) n nan) ∙ size_of n

  other_lanes : (n i : ℕ) → ((q : ℕ) → q < n → i ≡ lane_of q k → ⊥) → lane (Fold n (put_number k v) f) i ≡ lane f i
  unfolding Fold
  other_lanes zero i h = refl
  other_lanes (suc n) i h =
      get_or-set_other (Fold n (put_number k v) f) (lane_of n k) i (get_or (field_numbers v) n nan) nan (h n (omega arith)) ∙ other_lanes n i (λ q l. h q (omega arith))

  its_lanes : k < 8 → length f ≡ 104 → (n : ℕ) → n ≤ field_size → (q : ℕ) → q < n → lane (Fold n (put_number k v) f) (lane_of q k) ≡ get_or (field_numbers v) q nan
  unfolding Fold
  its_lanes lk e zero m q l = absurd (not-suc-le-zero l)
  its_lanes lk e (suc n) m q l =
      let g = Fold n (put_number k v) f in
      ⊎_elim
      (λ t. rw t (get_or-set_same g (lane_of n k) (get_or (field_numbers v) n nan) nan (omega (arith, lane-is n k, size_of n, e, lk, m))))
      (λ t. get_or-set_other g (lane_of n k) (lane_of q k) (get_or (field_numbers v) n nan) nan (λ z. t (omega (arith, lane-is n k, lane-is q k, z))) ∙ its_lanes lk e n (omega arith) q (omega (arith, l, t)))
      (same? q n)

  pub put-size : length (put k v f) ≡ length f
  unfolding put
  put-size = size_of field_size

  pub put-here : k < 8 → length f ≡ 104 → field_at (put k v f) k ≡ v
  unfolding put field_numbers
  put-here lk e =
      let g : (q : ℕ) → q < field_size → lane (Fold field_size (put_number k v) f) (lane_of q k) ≡ get_or (field_numbers v) q nan = its_lanes lk e field_size (lit≤ tt) in
      rw (
        g 0 (lit≤ tt),
        g 1 (lit≤ tt),
        g 2 (lit≤ tt),
        g 3 (lit≤ tt),
        g 4 (lit≤ tt),
        g 5 (lit≤ tt),
        g 6 (lit≤ tt),
        g 7 (lit≤ tt),
        g 8 (lit≤ tt),
        g 9 (lit≤ tt),
        g 10 (lit≤ tt),
        g 11 (lit≤ tt),
        g 12 (lit≤ tt),
      )

  pub put_there : (j : ℕ) → j < 8 → k < 8 → (j ≡ k → ⊥) → field_at (put k v f) j ≡ field_at f j
  unfolding put
  put_there j lj lk t =
      let g : (p : ℕ) → lane (Fold field_size (put_number k v) f) (8 * p + j) ≡ lane f (8 * p + j) =
      λ p. other_lanes field_size (8 * p + j) (λ q l z. t (omega (arith, lane-is q k, z, lj, lk))) in
      let h : lane (Fold field_size (put_number k v) f) j ≡ lane f j = other_lanes field_size j (λ q l z. t (omega (arith, lane-is q k, z, lj, lk))) in
      rw (h, g 1, g 2, g 3, g 4, g 5, g 6, g 7, g 8, g 9, g 10, g 11, g 12)

-- ---- a loop over the stations

-- the fields of the stations below k are g's, and the rest are f₀'s
pub record Upto (g : ℕ → Newtonian) (f₀ : List Float) (k : ℕ) (f : List Float) : Type 0 where
  pub size : length f ≡ 104
  pub below : (j : ℕ) → j < k → field_at f j ≡ g j
  pub rest : (j : ℕ) → k ≤ j → j < 8 → field_at f j ≡ field_at f₀ j

pub no_fields : {g : ℕ → Newtonian} {f : List Float} → length f ≡ 104 → Upto g f 0 f
no_fields e = record { size = e; below = λ j l. absurd (not-suc-le-zero l); rest = λ j l m. refl }

pub one_field : {g : ℕ → Newtonian} {f₀ f f' : List Float} (k : ℕ) (v : Newtonian) → Upto g f₀ k f → k < 8 → v ≡ g k → f' ≡ put k v f → Upto g f₀ (k + 1) f'
one_field {g} {f₀} {f} k v u l e p =
    rw p
    (record {
      size = put-size k v f ∙ u.size;
      below = λ j m. ⊎_elim (λ t. rw t (put-here k v f l u.size ∙ e)) (λ t. put_there k v f j (omega arith) l t ∙ u.below j (omega (arith, t, m))) (same? j k);
      rest = λ j m n. put_there k v f j n l (λ t. omega arith) ∙ u.rest j (omega arith) n;
    })

pub all-fields : {g : ℕ → Newtonian} {f₀ f : List Float} {k : ℕ} → Upto g f₀ k f → 8 ≤ k → Fields g f
all-fields u l = record { size = u.size; at = λ j m. u.below j (omega arith) }

-- ---- its beginning and its terms

pub zero-fields : Fields (λ (k : ℕ). zero_field) (replicate 104 0·0)
unfolding zero_field
zero-fields = record {
  size = refl;
  at = λ k l.
      let g : (i : ℕ) → i < 104 → lane (replicate 104 0·0) i ≡ 0·0 = λ i m. get_or-replicate 104 i 0·0 nan m in
      rw (
        g k (omega arith),
        g (8 + k) (omega arith),
        g (16 + k) (omega arith),
        g (24 + k) (omega arith),
        g (32 + k) (omega arith),
        g (40 + k) (omega arith),
        g (48 + k) (omega arith),
        g (56 + k) (omega arith),
        g (64 + k) (omega arith),
        g (72 + k) (omega arith),
        g (80 + k) (omega arith),
        g (88 + k) (omega arith),
        g (96 + k) (omega arith),
      );
}
