-- Tests that antt computes, each with the fact that it shows, for `TableIsGaussLegendre`. States: `each_at`, at each number below a bound; `all-at`, of a list;
-- `exactly-is`, of a double's exact value; `equal_is`, of whole numbers; `within-is`, of fractions. Assumes nothing.
use Rattle.std.specs.Prelude.{◌≡◌, refl, Bool, true, false, not, ◌&&◌, List, [], ◌∷◌, ℕ, zero, suc, ◌*◌, ◌<◌, T, eqb, ℤ, pos, negsuc, nat_abs, ◌-ℤ◌, ◌*ℤ◌, get_or, Float}
use Rattle.std.proofs.Common.{ap, subst, sym, ⊎_elim, le_of_suc-le-suc, not-suc-le-zero, eq-or-lt_of_le, eqb→eq}
use Rattle.std.specs.Bool.{beq}
use Rattle.std.specs.Int.Signed.{le_z, le_z_yes, non_neg}
use Rattle.std.specs.Float.{nan, inf, fin}
use Rattle.std.specs.Float.Ieee.{up, down}
use Rattle.std.specs.Float.Ieee.Fits.{and_l, and_r}
use Rattle.legendre.specs.IsGaussLegendre.{scale, Exactly, Fraction, Within}

-- f passes at each number below n
abbrev pub each : ℕ → (ℕ → Bool) → Bool
each zero f = true
each (suc n) f = f n && each n f

pub each_at : (n : ℕ) (f : ℕ → Bool) → T (each n f) → (i : ℕ) → i < n → T (f i)
each_at zero f t i h = absurd (not-suc-le-zero h)
each_at (suc n) f t i h =
    ⊎_elim (λ (e : i ≡ n). subst (λ (j : ℕ). T (f j)) (sym e) (and_l (f n) (each n f) t))
    (λ (l : i < n). each_at n f (and_r (f n) (each n f) t) i l)
    (eq-or-lt_of_le (le_of_suc-le-suc h))

-- every test of the list passes
abbrev pub all : List Bool → Bool
all [] = true
all (b ∷ bs) = b && all bs

pub all-at : (bs : List Bool) → T (all bs) → (j : ℕ) → T (get_or bs j true)
all-at [] t j = tt
all-at (b ∷ bs) t zero = and_l b (all bs) t
all-at (b ∷ bs) t (suc j) = all-at bs (and_r b (all bs) t) j

unfoldable pub exactly : Float → ℤ → Bool
exactly nan z = false
exactly (inf s) z = false
exactly (fin s m e) z = beq s (not (non_neg z)) && eqb (m * up e * scale) (nat_abs z * down e)

same : (s t : Bool) → T (beq s t) → s ≡ t
same true true h = refl
same true false h = absurd h
same false true h = absurd h
same false false h = refl

pub exactly-is : (x : Float) (z : ℤ) → T (exactly x z) → Exactly x z
unfolding exactly
exactly-is nan z t = t
exactly-is (inf s) z t = t
exactly-is (fin s m e) z t =
    let b = beq s (not (non_neg z)) in
    let d = eqb (m * up e * scale) (nat_abs z * down e) in
    (same s (not (non_neg z)) (and_l b d t), eqb→eq (m * up e * scale) (nat_abs z * down e) (and_r b d t))

unfoldable pub equal : ℤ → ℤ → Bool
equal (pos a) (pos b) = eqb a b
equal (pos a) (negsuc b) = false
equal (negsuc a) (pos b) = false
equal (negsuc a) (negsuc b) = eqb a b

pub equal_is : (x y : ℤ) → T (equal x y) → x ≡ y
unfolding equal
equal_is (pos a) (pos b) t = ap pos (eqb→eq a b t)
equal_is (pos a) (negsuc b) t = absurd t
equal_is (negsuc a) (pos b) t = absurd t
equal_is (negsuc a) (negsuc b) t = ap negsuc (eqb→eq a b t)

unfoldable pub is_within : Fraction → Fraction → Fraction → Bool
is_within t p q =
    le_z (pos (nat_abs (p.numerator *ℤ pos q.denominator -ℤ q.numerator *ℤ pos p.denominator) * t.denominator))
    (t.numerator *ℤ pos (p.denominator * q.denominator))

pub within-is : (t p q : Fraction) → T (is_within t p q) → Within t p q
unfolding is_within
within-is t p q h = le_z_yes h
