-- States: `within_six`: R_C of two arguments from 1/4 to 4 takes at most six rounds (`WithinSix`). A duplication keeps the interval from 1/4 to 4, since at either
-- end each of its operations is exact; Q is below 512, and 4⁻⁶ 512 is below 1/4. Assumes nothing.
use Rattle.std.specs.Prelude.{◌≡◌, refl, Bool, true, false, not, ℕ, zero, suc, ◌+◌, ◌≤◌, pos, negsuc, T, Float}
use Rattle.std.proofs.Common.{sym, ap, subst, le_of_suc-le-suc, not-suc-le-zero, arith, lit≤}
use Rattle.std.specs.Float.{fin, binary64}
use Rattle.std.specs.Float.Ieee.{of_bits, add, mul, div, le, fits}
use Rattle.std.specs.Float.Ieee.Bits.{is_false}
use Rattle.doubles.specs.Rounded.{◌⊕◌, ◌⊗◌}
use Rattle.doubles.specs.Constants.{1·0, 2·0, 3·0, 4·0}
use Rattle.doubles.specs.Magnitude.{abs}
use Rattle.doubles.proofs.Between.{Between, point, wider, between_add, between_mul, between_div, between_distance, positive_between, not-le, abs-finite_unsigned, +0}
use Rattle.doubles.proofs.Signs.{above_zero}
use Rattle.roots.proofs.Bounds.{1/4, four, root_between}
use Rattle.carlson.specs.declared.RoundC.{RoundC}
use Rattle.carlson.specs.Constants.{[3ε]^-⅛}
use Rattle.carlson.specs.CarlsonLoop.{max_rounds, quarter, loop_test}
use Rattle.carlson.specs.Rounds.{rounds}
use Rattle.carlson.specs.RoundLaws.{stop, one_more}
use Rattle.carlson.specs.Rc.{λC, duplicate_c, A₀C, QC, test_c, duplications_c, rc_above, rc, rc_or}
use Rattle.special_laws.specs.RoundsTaken.{rc_rounds, WithinSix}

-- ---- a duplication keeps the interval

-- from 3/4 to 12
abbrev pub 3/4 : Float
3/4 = fin false 3 (negsuc 1)

abbrev twelve : Float
twelve = fin false 3 (pos 2)

pub 2-point : Between 2·0 2·0 2·0
unfolding of_bits
2-point = point 2·0 tt

3-point : Between 3·0 3·0 3·0
unfolding of_bits
3-point = point 3·0 tt

4-point : Between 4·0 4·0 4·0
unfolding of_bits
4-point = point 4·0 tt

next-within : (w l : Float) → Between 1/4 four w → Between 3/4 twelve l → Between 1/4 four (quarter (w ⊕ l))
unfolding quarter of_bits add div le
next-within w l p q = wider 1/4 four tt tt tt tt (between_div binary64 (between_add binary64 p q tt) 4-point tt tt)

λ_within : (s : RoundC) → Between 1/4 four s.x → Between 1/4 four s.y → Between 3/4 twelve (λC s)
unfolding of_bits add mul le
λ_within s p q =
    wider 3/4 twelve tt tt tt tt (between_add binary64 (between_mul binary64 (between_mul binary64 2-point (root_between s.x p) tt) (root_between s.y q) tt) q tt)

-- 4⁻ᵏ
power : ℕ → Float
power zero = 1·0
power (suc k) = quarter (power k)

record AtRound (k : ℕ) (s : RoundC) : Type 0 where
  x_in : Between 1/4 four s.x
  y_in : Between 1/4 four s.y
  a_in : Between 1/4 four s.a
  f_is : s.f ≡ power k
  n_is : s.n ≡ k

next-round : (k : ℕ) (s : RoundC) → AtRound k s → AtRound (suc k) (duplicate_c s)
unfolding duplicate_c power
next-round k s r =
    let l = λ_within s r.x_in r.y_in in
    let n = r.n_is in
    record {
      x_in = next-within s.x (λC s) r.x_in l;
      y_in = next-within s.y (λC s) r.y_in l;
      a_in = next-within s.a (λC s) r.a_in l;
      f_is = ap quarter r.f_is;
      n_is = omega arith;
    }

-- ---- the test is false at round 6

abbrev 512· : Float
512· = fin false 1 (pos 9)

power_six : Between (power 6) (power 6) (power 6)
unfolding power quarter of_bits div
power_six = point (power 6) tt

false_at_six : (q : Float) (s : RoundC) → Between +0 512· q → AtRound 6 s → test_c q s ≡ false
unfolding loop_test power quarter of_bits div mul le
false_at_six q s w r =
    let f : Between (power 6) (power 6) s.f = subst (λ (z : Float). Between (power 6) (power 6) z) (sym r.f_is) power_six in
    is_false (le (abs s.a) (s.f ⊗ q))
    (subst (λ (z : Float). T (not (le z (s.f ⊗ q)))) (sym (abs-finite_unsigned s.a r.a_in.ok))
    (not-le r.a_in (between_mul binary64 f w tt) tt))

-- ---- so the loop ends, with j rounds left of six

abbrev LoopEnds : Float → RoundC → Type 0
LoopEnds q s = (test_c q s ≡ false) × (s.n ≤ 6)

loop-ends-within : (q : Float) → Between +0 512· q → (j n k : ℕ) (s : RoundC) → k + j ≡ 6 → j ≤ n → AtRound k s → LoopEnds q (rounds (test_c q) duplicate_c n s)
loop-ends-within q w zero n k s e h r =
    let t = false_at_six q s w (subst (λ (i : ℕ). AtRound i s) (last k e) r) in
    subst (LoopEnds q) (sym (stop (test_c q) duplicate_c n s t)) (t, six r.n_is)
  where
    last : (k : ℕ) → k + 0 ≡ 6 → k ≡ 6
    last k e = omega arith

    six : s.n ≡ k → s.n ≤ 6
    six i = omega arith
loop-ends-within q w (suc j) zero k s e h r = absurd (not-suc-le-zero h)
loop-ends-within q w (suc j) (suc n) k s e h r = go (test_c q s) refl (loop-ends-within q w j n (suc k) (duplicate_c s) (shift k j e) (le_of_suc-le-suc h) (next-round k s r))
  where
    shift : (k j : ℕ) → k + suc j ≡ 6 → suc k + j ≡ 6
    shift k j e = omega arith

    early : s.n ≡ k → s.n ≤ 6
    early i = omega arith

    go : (b : Bool) → test_c q s ≡ b → LoopEnds q (rounds (test_c q) duplicate_c n (duplicate_c s)) → LoopEnds q (rounds (test_c q) duplicate_c (suc n) s)
    go false t i = subst (LoopEnds q) (sym (stop (test_c q) duplicate_c (suc n) s t)) (t, early r.n_is)
    go true t i = subst (LoopEnds q) (sym (one_more (test_c q) duplicate_c (suc n) n s refl t)) i

-- ---- R_C

A₀-within : (x y : Float) → Between 1/4 four x → Between 1/4 four y → Between 1/4 four (A₀C x y)
unfolding of_bits add mul div le
A₀-within x y p q = wider 1/4 four tt tt tt tt (between_div binary64 (between_add binary64 p (between_mul binary64 2-point q tt) tt) 3-point tt tt)

factor-point : Between [3ε]^-⅛ [3ε]^-⅛ [3ε]^-⅛
unfolding of_bits
factor-point = point [3ε]^-⅛ tt

Q-within : (x y : Float) → Between 1/4 four x → Between 1/4 four y → Between +0 512· (QC x y)
unfolding of_bits mul le fits
Q-within x y p q = wider +0 512· tt tt tt tt (between_mul binary64 factor-point (between_distance binary64 tt (A₀-within x y p q) p) tt)

rc_loop_ends : (x y : Float) → Between 1/4 four x → Between 1/4 four y → LoopEnds (QC x y) (duplications_c x y)
unfolding power duplications_c
rc_loop_ends x y p q =
    loop-ends-within (QC x y) (Q-within x y p q) 6 max_rounds 0 (record { x = x; y = y; a = A₀C x y; f = 1·0; n = 0 }) refl (lit≤ tt)
    (record { x_in = p; y_in = q; a_in = A₀-within x y p q; f_is = refl; n_is = refl })

pub within_six : (x y : Float) → Between 1/4 four x → Between 1/4 four y → WithinSix x y
unfolding rc_above rc rc_or rc_rounds
within_six x y p q =
    let e = rc_loop_ends x y p q in
    let z = above_zero y (positive_between q tt) in
    let t = e.0 in
    record {
      at-most_six = rw (z.0, z.1) e.1;
      ended = t;
      answered = rw (z.0, z.1, t);
    }
