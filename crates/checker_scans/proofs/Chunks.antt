-- Doubles that are read from bytes by chunks of eight: cause 3 of them. Assumes nothing.
use mathlib.Core.Path.{◌≡◌, refl, sym, ap, ap₂, ◌∙◌}
use mathlib.Core.Bool.{Bool, true, false}
use mathlib.Core.List.{List, []}
use mathlib.Core.Logic.{◌⊎◌, inl, inr, ⊎_elim}
use Prim.Native.Nat.{ℕ, zero, suc, ◌+◌, ◌*◌, ◌/◌, ◌≤◌, ◌<◌}
use native.Mathlib.Nat.{not-suc-le-zero}
use native.Mathlib.Omega.{arith}
use lib.ListN.{length, get_or, take, drop, length-map}
use lib.Seq.{drop-drop}
use lib.Ieee.{Float, binary64, nan, of_bits}
use Rattle.std.proofs.Common.{length-drop, length-take-le}
use Rattle.std.specs.Simd.{first_chunks}
use Rattle.refusals.specs.declared.Refusal.{Refusal}
use Rattle.refusals.specs.declared.Refusal.TheVariants.{OutOfLimits}
use Rattle.std.specs.Prelude.{Ok, Err}
use Rattle.refusals.specs.Causes.{Cause, or_else, unless, first_of}
use Rattle.refusals.proofs.Causes.{each, holds}
use Rattle.doubles.specs.Magnitude.{within_limits}
use Rattle.mesh.specs.Check.{in_limits, out_of_limits}
use Rattle.mesh.specs.CauseLaws.{each_none}
use Rattle.sheet_layout.specs.LittleEndian.{number, unpack, doubles}
use Rattle.sheet_layout.proofs.Numbers.{number-part}
use Rattle.sheet_layout.proofs.Lists.{unpack-length}
use Rattle.checker_scans.proofs.Read.{double-at}

-- the double of eight bytes
abbrev pub double_in : List ℕ → Float
double_in b = of_bits binary64 (number 8 b 0)

chunk-at : (k : ℕ) (b : List ℕ) (i : ℕ) (d : List ℕ) → i < k → get_or (first_chunks 8 k b) i d ≡ take 8 (drop (8 * i) b)
chunk-at zero b i d l = absurd (not-suc-le-zero l)
chunk-at (suc k) b zero d l = refl
chunk-at (suc k) b (suc i) d l =
    let e : 8 + 8 * i ≡ 8 * suc i = omega arith in
    chunk-at k (drop 8 b) i d (omega arith) ∙ ap (take 8) (drop-drop (8 * i) 8 b ∙ ap (λ (j : ℕ). drop j b) e)

-- ---- tests with one refusal

either : (a : Cause) (b : Bool) (r : Refusal) → (a ≡ Ok tt) ⊎ (a ≡ Err r) → (or_else a (unless b r) ≡ Ok tt) ⊎ (or_else a (unless b r) ≡ Err r)
either a true r h = ⊎_elim (λ e. inl (rw e refl)) (λ e. inr (rw e refl)) h
either a false r h = ⊎_elim (λ e. inr (rw e refl)) (λ e. inr (rw e refl)) h

module _ (t : ℕ → Bool) (r : Refusal) where
  one_cause : (n : ℕ) → (first_of n (λ i. unless (t i) r) ≡ Ok tt) ⊎ (first_of n (λ i. unless (t i) r) ≡ Err r)
  unfolding first_of
  one_cause zero = inl refl
  one_cause (suc n) = either (first_of n (λ i. unless (t i) r)) (t n) r (one_cause n)

  one_fails : (n k : ℕ) → k < n → t k ≡ false → first_of n (λ i. unless (t i) r) ≡ Err r
  one_fails n k l e =
      ⊎_elim (λ h. let p = holds (t k) r (each n (λ i. unless (t i) r) h k l) in absurd (let y : ◌≡◌ {A = ℕ} 0 1 = cc in omega arith)) (λ h. h) (one_cause n)

module _ (s : List ℕ) (at n : ℕ) (xs : List (List ℕ)) where
  -- xs are the chunks of the 8 n bytes from place at on
  pub record IsChunks : Type 0 where
    pub size : length xs ≡ n
    pub are : xs ≡ first_chunks 8 n (take (8 * n) (drop at s))

  -- as a slice of m bytes gives them
  pub chunks : (m : ℕ) → at + 8 * n ≤ length s → m ≡ 8 * n → length xs ≡ length (take m (drop at s)) / 8 → xs ≡ first_chunks 8 (length (take m (drop at s)) / 8) (take m (drop at s))
      → IsChunks
  chunks m room e size are =
      let bytes : length (take m (drop at s)) ≡ 8 * n = length-take-le m (drop at s) (omega (arith, length-drop at s)) ∙ e in
      let count : length (take m (drop at s)) / 8 ≡ n = omega (arith, bytes) in
      record {
        size = size ∙ count;
        are = are ∙ ap₂ (λ (k l : ℕ). first_chunks 8 k (take l (drop at s))) count e;
      }

  module _ (c : IsChunks) where
    read : (i : ℕ) (d : List ℕ) → i < n → double_in (get_or xs i d) ≡ get_or (doubles (unpack 8 n s at)) i nan
    read i d l =
        let b = take (8 * n) (drop at s) in
        let e : 8 * i + 0 ≡ 8 * i = omega arith in
        ap (λ (y : List (List ℕ)). double_in (get_or y i d)) c.are ∙ ap double_in (chunk-at n b i d l)
        ∙ ap (of_bits binary64) (number-part 8 8 b (8 * i) 0 (omega arith) ∙ ap (number 8 b) e ∙ number-part 8 (8 * n) s at (8 * i) (omega arith))
        ∙ sym (double-at s at n i l)

    size : length (doubles (unpack 8 n s at)) ≡ n
    size = simp (length-map, unpack-length)

    pub all_within : ((k : ℕ) (d : List ℕ) → k < length xs → within_limits (double_in (get_or xs k d)) ≡ true) → Ok tt ≡ out_of_limits (doubles (unpack 8 n s at))
    unfolding out_of_limits
    all_within h =
        rw size (sym (each_none n (in_limits (doubles (unpack 8 n s at))) (λ i. OutOfLimits) (λ i l. ap within_limits (sym (read i [] l)) ∙ h i [] (omega (arith, c.size)))))

    pub one_outside : (k : ℕ) → k < length xs → ((d : List ℕ) → within_limits (double_in (get_or xs k d)) ≡ false) → Err OutOfLimits ≡ out_of_limits (doubles (unpack 8 n s at))
    unfolding out_of_limits
    one_outside k l e =
        let m : k < n = omega (arith, c.size) in
        rw size (sym (one_fails (in_limits (doubles (unpack 8 n s at))) OutOfLimits n k m (ap within_limits (sym (read k [] m)) ∙ e [])))
