-- A double that equals 1 is 1, and so is its root. Assumes nothing.
use mathlib.Core.Path.{◌≡◌, refl, sym, ap, ◌∙◌}
use Prim.Native.Nat.{ℕ, ◌*◌, ◌<◌}
use native.Mathlib.Nat.{zero-lt-suc}
use native.Mathlib.Omega.{arith}
use mathlib.Core.Bool.{Bool, true, false, ◌||◌, beq, false≢true}
use lib.Dec.{T, eqb, eqb→eq}
use lib.IntN.{pos}
use lib.Ieee.{Float, nan, inf, fin, binary64, fits, up, down, of_bits, eq}
use lib.Ieee.Fits.{and_l, and_r, down_pos}
use Rattle.doubles.specs.Constants.{1·0}
use Rattle.doubles.proofs.Signs.{true→T}
use Rattle.doubles.proofs.Value.{unique}
use Rattle.roots.specs.Root.{Root}

one-is : 1·0 ≡ fin false 1 (pos 0)
unfolding of_bits
one-is = refl

-- the sign is clear, since the size is not 0
clear : (s : Bool) (a d : ℕ) → a * 1 ≡ 1 * d → 0 < d → T (beq s false || eqb (a * 1) 0) → s ≡ false
clear false a d e p t = refl
clear true a d e p t = absurd (none (eqb→eq (a * 1) 0 t))
  where
    none : a * 1 ≡ 0 → ⊥
    none z = omega arith

is_one : (x : Float) → T (fits binary64 x) → eq x (fin false 1 (pos 0)) ≡ true → x ≡ fin false 1 (pos 0)
unfolding eq
is_one nan t h = absurd (false≢true h)
is_one (inf s) t h = absurd (false≢true h)
is_one (fin s m e) t h =
    let a = eqb (m * up e * 1) (1 * 1 * down e) in
    let b = beq s false || eqb (m * up e * 1) 0 in
    let q : m * up e * 1 ≡ 1 * 1 * down e = eqb→eq (m * up e * 1) (1 * 1 * down e) (and_l a b (true→T h)) in
    unique binary64 (fin s m e) (fin false 1 (pos 0)) false 1 1 (zero-lt-suc 0) t (unfold fits in tt) (clear s (m * up e) (down e) q (down_pos e) (and_r a b (true→T h)), q) (refl, refl)

root_one : Root (fin false 1 (pos 0)) ≡ fin false 1 (pos 0)
unfolding Root
root_one = refl

pub root_of-one : (x : Float) → T (fits binary64 x) → eq x 1·0 ≡ true → 1·0 ≡ Root x
root_of-one x t h = one-is ∙ sym (ap Root (is_one x t (ap (eq x) (sym one-is) ∙ h)) ∙ root_one)
