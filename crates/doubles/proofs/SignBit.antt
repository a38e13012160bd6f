-- The sign's bit of a pattern: |x| is x with it cleared. Assumes nothing.
use mathlib.Core.Path.{◌≡◌, refl, sym, ap, ◌∙◌, subst}
use Prim.Native.Nat.{ℕ, zero, suc, ◌+◌, ◌%◌, ◌^◌, ◌<◌}
use native.Mathlib.Omega.{arith}
use mathlib.Core.Bool.{Bool, true, false, not}
use lib.Dec.{T}
use lib.IntN.{ℤ}
use lib.Bits.{bit_and, and_mask}
use lib.Ieee.{Float, nan, inf, fin, binary64, fits, is_nan, nan_bits, of_bits, to_bits}
use lib.Ieee.Bits.{of_bits-to_bits, to_bits-lt, nan_bits_is}
use Rattle.doubles.specs.Magnitude.{abs}

fits_sign : (s t : Bool) (m : ℕ) (e : ℤ) → T (fits binary64 (fin s m e)) → T (fits binary64 (fin t m e))
unfolding fits
fits_sign s t zero e h = h
fits_sign s t (suc m) e h = h

with-sign : (m : ℕ) (e : ℤ) → to_bits binary64 (fin true m e) ≡ 2 ^ 63 + to_bits binary64 (fin false m e)
unfolding to_bits
with-sign m e = omega arith

unsigned-lt : (s : Bool) (m : ℕ) (e : ℤ) → T (fits binary64 (fin s m e)) → to_bits binary64 (fin false m e) < 2 ^ 63
unsigned-lt s m e h = let a = to_bits-lt binary64 (fin true m e) (fits_sign s true m e h) in let b = with-sign m e in omega arith

rest : (x : Float) → T (not (is_nan x)) → T (fits binary64 x) → to_bits binary64 x % 2 ^ 63 ≡ to_bits binary64 (abs x)
unfolding is_nan abs to_bits
rest nan n h = absurd n
rest (inf true) n h = refl
rest (inf false) n h = refl
rest (fin true m e) n h = let a = unsigned-lt true m e h in let b = with-sign m e in omega arith
rest (fin false m e) n h = let a = unsigned-lt false m e h in omega arith

pub abs_fits : (x : Float) → T (fits binary64 x) → T (fits binary64 (abs x))
unfolding abs fits
abs_fits nan h = tt
abs_fits (inf s) h = tt
abs_fits (fin s zero e) h = h
abs_fits (fin s (suc m) e) h = h

abs-number : (x : Float) → T (not (is_nan x)) → T (not (is_nan (abs x)))
unfolding abs is_nan
abs-number nan h = h
abs-number (inf s) h = tt
abs-number (fin s m e) h = tt

pub abs-bits : (x : Float) → T (not (is_nan x)) → T (fits binary64 x) → of_bits binary64 (bit_and (to_bits binary64 x) 0x7fff_ffff_ffff_ffff) ≡ abs x
abs-bits x n h = ap (of_bits binary64) (and_mask (to_bits binary64 x) 63 ∙ rest x n h) ∙ of_bits-to_bits binary64 (abs x) (abs_fits x h)

pub abs_no_nan : (x : Float) → T (not (is_nan x)) → T (fits binary64 x) → T (not (nan_bits binary64 (bit_and (to_bits binary64 x) 0x7fff_ffff_ffff_ffff)))
abs_no_nan x n h = subst (λ (b : Bool). T (not b)) (sym (nan_bits_is binary64 _ ∙ ap is_nan (abs-bits x n h))) (abs-number x n)
