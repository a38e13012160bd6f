-- Comparisons of doubles, infinities and NaNs included. States: `float_le_trans`: ≤ is transitive; `number-le_self`, `lt-le`; `lt_not_le`: of two numbers, infinities included, the
-- first is less exactly where the second is not less than or equal to it. Assumes nothing.
use mathlib.Core.Path.{◌≡◌, refl, sym, ap, ◌∙◌}
use mathlib.Core.Bool.{Bool, true, false, not, ◌&&◌, ◌||◌, false≢true}
use mathlib.Core.Logic.{◌⊎◌, inl, inr, ⊎_elim}
use Prim.Native.Nat.{ℕ, ◌+◌, ◌*◌, ◌≤◌, ◌<◌}
use native.Mathlib.Nat.{eq-or-lt_of_le, eq-zero-or-pos, zero-mul, mul-pos}
use native.Mathlib.Omega.{arith}
use lib.Dec.{ltb, eqb}
use lib.Ieee.{Float, nan, inf, fin, up, down, below, level, lt, le, eq, ne, is_nan}
use lib.Ieee.Fits.{down_pos}
use lib.Ieee.Positive.{through}
use borrow.Author.Tests.{lt-ltb, le-ltb, ltb-true, ltb-false, eq-eqb, eqb-true, not-false}
use Rattle.doubles.proofs.Signs.{ne_self}

-- ---- ±a ≤ ±b, as `le` has it, as a statement

abbrev AtMost : Bool → ℕ → Bool → ℕ → Type 0
AtMost false a false b = a ≤ b
AtMost false a true b = (a ≡ 0) × (b ≡ 0)
AtMost true a false b = Unit {0}
AtMost true a true b = b ≤ a

either : (p q : Bool) → (p || q) ≡ true → (p ≡ true) ⊎ (q ≡ true)
either true q e = inl refl
either false q e = inr e

first : (p q : Bool) → (p && q) ≡ true → p ≡ true
first true q e = refl
first false q e = absurd (false≢true e)

or_right : (p q : Bool) → q ≡ true → (p || q) ≡ true
or_right true q e = refl
or_right false q e = e

at_most : (s : Bool) (a : ℕ) (t : Bool) (b : ℕ) → (below s a t b || level s a t b) ≡ true → AtMost s a t b
at_most false a false b e =
    ⊎_elim (λ p. let l = ltb-true a b p in omega arith) (λ p. let q = eqb-true a b (first (eqb a b) true p) in omega arith) (either (ltb a b) (eqb a b && true) e)
at_most false a true b e = go (eqb a b) (eqb a 0) (eqb-true a b) (eqb-true a 0) e
  where
    go : (p q : Bool) → (p ≡ true → a ≡ b) → (q ≡ true → a ≡ 0) → (p && q) ≡ true → (a ≡ 0) × (b ≡ 0)
    go true true h k e = let x = h refl in let y = k refl in (y, omega arith)
    go true false h k e = absurd (false≢true e)
    go false q h k e = absurd (false≢true e)
at_most true a false b e = tt
at_most true a true b e =
    ⊎_elim (λ p. let l = ltb-true b a p in omega arith) (λ p. let q = eqb-true a b (first (eqb a b) true p) in omega arith) (either (ltb b a) (eqb a b && true) e)

is-at-most : (s : Bool) (a : ℕ) (t : Bool) (b : ℕ) → AtMost s a t b → (below s a t b || level s a t b) ≡ true
is-at-most false a false b h = ⊎_elim (λ q. or_right (ltb a b) (eqb a b && true) (rw (eq-eqb a b q))) (λ l. rw (lt-ltb a b l)) (eq-or-lt_of_le h)
is-at-most false a true b h = let q : a ≡ b = omega (arith, h.0, h.1) in rw (eq-eqb a b q, eq-eqb a 0 h.0)
is-at-most true a false b h =
    ⊎_elim (λ q. or_right (ltb 0 (a + b)) (eqb a b && eqb a 0) (let x : a ≡ b = omega arith in let y : a ≡ 0 = omega arith in rw (eq-eqb a b x, eq-eqb a 0 y)))
    (λ l. rw (lt-ltb 0 (a + b) l)) (eq-zero-or-pos (a + b))
is-at-most true a true b h = ⊎_elim (λ q. or_right (ltb b a) (eqb a b && true) (rw (eq-eqb a b (sym q)))) (λ l. rw (lt-ltb b a l)) (eq-or-lt_of_le h)

-- ---- the laws of ±a and ±b

no_times : (x q : ℕ) → 0 < q → x * q ≡ 0 → x ≡ 0
no_times x q h e = ⊎_elim (λ z. z) (λ l. absurd (let m : 0 < x * q = mul-pos l h in omega arith)) (eq-zero-or-pos x)

zero_times : (x q : ℕ) → x ≡ 0 → x * q ≡ 0
zero_times x q e = ap (λ (k : ℕ). k * q) e ∙ zero-mul q

-- by fractions: x/p ≤ y/q and y/q ≤ z/r
at-most_through : (s : Bool) (x p : ℕ) (t : Bool) (y q : ℕ) (u : Bool) (z r : ℕ) → 0 < p → 0 < q → 0 < r
    → AtMost s (x * q) t (y * p) → AtMost t (y * r) u (z * q) → AtMost s (x * r) u (z * p)
at-most_through false x p false y q false z r P Q R h k = through x y z p q r Q h k
at-most_through false x p false y q true z r P Q R h k =
    let b = zero_times y p (no_times y r R k.0) in
    let l : x * q ≤ y * p = h in
    let a : x * q ≡ 0 = omega arith in
    (zero_times x r (no_times x q Q a), zero_times z p (no_times z q Q k.1))
at-most_through false x p true y q false z r P Q R h k = let a = zero_times x r (no_times x q Q h.0) in omega arith
at-most_through false x p true y q true z r P Q R h k =
    let b = zero_times y r (no_times y p P h.1) in
    let l : z * q ≤ y * r = k in
    let c : z * q ≡ 0 = omega arith in
    (zero_times x r (no_times x q Q h.0), zero_times z p (no_times z q Q c))
at-most_through true x p t y q false z r P Q R h k = tt
at-most_through true x p false y q true z r P Q R h k = let c = zero_times z p (no_times z q Q k.1) in omega arith
at-most_through true x p true y q true z r P Q R h k = through z y x r q p Q k h

not-below : (s : Bool) (a : ℕ) (t : Bool) (b : ℕ) → AtMost t b s a → below s a t b ≡ false
not-below false a false b h = le-ltb a b h
not-below false a true b h = refl
not-below true a false b h = le-ltb 0 (a + b) (omega (arith, h.0, h.1))
not-below true a true b h = le-ltb b a h

-- m below n, or not
pub less? : (m n : ℕ) → (m < n) ⊎ (n ≤ m)
less? m n = go (ltb m n) refl
  where
    go : (c : Bool) → ltb m n ≡ c → (m < n) ⊎ (n ≤ m)
    go true e = inl (ltb-true m n e)
    go false e = inr (ltb-false m n e)

is_below : (s : Bool) (a : ℕ) (t : Bool) (b : ℕ) → (AtMost t b s a → ⊥) → below s a t b ≡ true
is_below false a false b h = ⊎_elim (λ l. lt-ltb a b l) (λ l. absurd (h l)) (less? a b)
is_below false a true b h = absurd (h tt)
is_below true a false b h = ⊎_elim (λ z. absurd (h (omega arith, omega arith))) (λ l. lt-ltb 0 (a + b) l) (eq-zero-or-pos (a + b))
is_below true a true b h = ⊎_elim (λ l. lt-ltb b a l) (λ l. absurd (h l)) (less? b a)

below_or_not : (s : Bool) (a : ℕ) (t : Bool) (b : ℕ) → below s a t b ≡ not (below t b s a || level t b s a)
below_or_not s a t b = go (below t b s a || level t b s a) refl
  where
    go : (c : Bool) → (below t b s a || level t b s a) ≡ c → below s a t b ≡ not c
    go true e = not-below s a t b (at_most t b s a e)
    go false e = is_below s a t b (λ h. false≢true (sym e ∙ is-at-most t b s a h))

-- ---- of doubles

pub lt_not_le : (x y : Float) → is_nan x ≡ false → is_nan y ≡ false → lt x y ≡ not (le y x)
unfolding is_nan lt le eq
lt_not_le nan y p q = absurd (false≢true (sym p))
lt_not_le (inf s) nan p q = absurd (false≢true (sym q))
lt_not_le (inf true) (inf true) p q = refl
lt_not_le (inf true) (inf false) p q = refl
lt_not_le (inf false) (inf true) p q = refl
lt_not_le (inf false) (inf false) p q = refl
lt_not_le (inf true) (fin t n d) p q = refl
lt_not_le (inf false) (fin t n d) p q = refl
lt_not_le (fin s m e) nan p q = absurd (false≢true (sym q))
lt_not_le (fin s m e) (inf true) p q = refl
lt_not_le (fin s m e) (inf false) p q = refl
lt_not_le (fin s m e) (fin t n d) p q = below_or_not s (m * up e * down d) t (n * up d * down e)

pub lt-le : (x y : Float) → lt x y ≡ true → le x y ≡ true
unfolding le
lt-le x y e = ap (λ (b : Bool). b || eq x y) e

pub number-le_self : (x : Float) → is_nan x ≡ false → le x x ≡ true
unfolding le ne
number-le_self x p = or_right (lt x x) (eq x x) (not-false (eq x x) (ne_self x ∙ p))

pub float_le_trans : (x y z : Float) → le x y ≡ true → le y z ≡ true → le x z ≡ true
unfolding lt le eq
float_le_trans nan y z h k = absurd (false≢true h)
float_le_trans (inf s) nan z h k = absurd (false≢true k)
float_le_trans (inf true) (inf true) z h k = k
float_le_trans (inf true) (inf false) nan h k = absurd (false≢true k)
float_le_trans (inf true) (inf false) (inf true) h k = refl
float_le_trans (inf true) (inf false) (inf false) h k = refl
float_le_trans (inf true) (inf false) (fin u l g) h k = refl
float_le_trans (inf true) (fin t n d) nan h k = absurd (false≢true k)
float_le_trans (inf true) (fin t n d) (inf true) h k = refl
float_le_trans (inf true) (fin t n d) (inf false) h k = refl
float_le_trans (inf true) (fin t n d) (fin u l g) h k = refl
float_le_trans (inf false) (inf true) z h k = absurd (false≢true h)
float_le_trans (inf false) (inf false) z h k = k
float_le_trans (inf false) (fin t n d) z h k = absurd (false≢true h)
float_le_trans (fin s m e) nan z h k = absurd (false≢true k)
float_le_trans (fin s m e) (inf true) z h k = absurd (false≢true h)
float_le_trans (fin s m e) (inf false) nan h k = absurd (false≢true k)
float_le_trans (fin s m e) (inf false) (inf true) h k = absurd (false≢true k)
float_le_trans (fin s m e) (inf false) (inf false) h k = refl
float_le_trans (fin s m e) (inf false) (fin u l g) h k = absurd (false≢true k)
float_le_trans (fin s m e) (fin t n d) nan h k = absurd (false≢true k)
float_le_trans (fin s m e) (fin t n d) (inf true) h k = absurd (false≢true k)
float_le_trans (fin s m e) (fin t n d) (inf false) h k = refl
float_le_trans (fin s m e) (fin t n d) (fin u l g) h k =
    is-at-most s (m * up e * down g) u (l * up g * down e)
    (at-most_through s (m * up e) (down e) t (n * up d) (down d) u (l * up g) (down g) (down_pos e) (down_pos d) (down_pos g)
    (at_most s (m * up e * down d) t (n * up d * down e) h) (at_most t (n * up d * down g) u (l * up g * down d) k))
