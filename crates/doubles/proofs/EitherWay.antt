-- What the order of two doubles does not change: their sum, their product, and the square of their difference. Assumes nothing.
use mathlib.Core.Path.{◌≡◌, refl, sym, ap, ◌∙◌}
use mathlib.Core.Bool.{Bool, true, false, not}
use mathlib.Core.Logic.{◌⊎◌, inl, inr, ⊎_elim}
use Prim.Native.Nat.{ℕ, ◌+◌, ◌*◌, ◌<◌}
use native.Mathlib.Nat.{add_comm, mul_comm}
use native.Mathlib.Decide.{dec_lt}
use native.Mathlib.Omega.{arith}
use lib.Ieee.{Float, nan, inf, fin, Format, up, down, unlike, round, neg, sum, add, sub, mul}
use borrow.Author.Tests.{lt-ltb, le-ltb}
use Rattle.doubles.proofs.Signs.{neg-round}

-- the three orders of two numbers
data Order (a b : ℕ) : Type 0 where
  less : a < b → Order a b
  more : b < a → Order a b
  same : a ≡ b → Order a b

order : (a b : ℕ) → Order a b
order a b = go (dec_lt a b) (dec_lt b a)
  where
    go : Dec (a < b) → Dec (b < a) → Order a b
    go (yes l) d = less l
    go (no n) (yes l) = more l
    go (no n) (no m) = same (omega arith)

-- ---- the sum

sum_either : (f : Format) (s : Bool) (a : ℕ) (t : Bool) (b c : ℕ) → sum f s a t b c ≡ sum f t b s a c
unfolding sum
sum_either f true a true b c = ap (λ (n : ℕ). round f true n c) (add_comm a b)
sum_either f false a false b c = ap (λ (n : ℕ). round f false n c) (add_comm a b)
sum_either f true a false b c = go (order a b)
  where
    go : Order a b → sum f true a false b c ≡ sum f false b true a c
    go (less l) = simp (lt-ltb a b l, le-ltb b a (omega arith))
    go (more l) = simp (lt-ltb b a l, le-ltb a b (omega arith))
    go (same e) = rw e (simp (le-ltb b b (omega arith)))
sum_either f false a true b c = go (order a b)
  where
    go : Order a b → sum f false a true b c ≡ sum f true b false a c
    go (less l) = simp (lt-ltb a b l, le-ltb b a (omega arith))
    go (more l) = simp (lt-ltb b a l, le-ltb a b (omega arith))
    go (same e) = rw e (simp (le-ltb b b (omega arith)))

pub add_either : (f : Format) (x y : Float) → add f x y ≡ add f y x
unfolding add
add_either f nan nan = refl
add_either f nan (inf t) = refl
add_either f nan (fin t n d) = refl
add_either f (inf s) nan = refl
add_either f (inf true) (inf true) = refl
add_either f (inf true) (inf false) = refl
add_either f (inf false) (inf true) = refl
add_either f (inf false) (inf false) = refl
add_either f (inf s) (fin t n d) = refl
add_either f (fin s m e) nan = refl
add_either f (fin s m e) (inf t) = refl
add_either f (fin s m e) (fin t n d) =
    sum_either f s (m * up e * down d) t (n * up d * down e) (down e * down d)
    ∙ ap (sum f t (n * up d * down e) s (m * up e * down d)) (mul_comm (down e) (down d))

-- ---- the product

unlike_either : (s t : Bool) → unlike s t ≡ unlike t s
unlike_either true true = refl
unlike_either true false = refl
unlike_either false true = refl
unlike_either false false = refl

pub mul_either : (f : Format) (x y : Float) → mul f x y ≡ mul f y x
unfolding mul
mul_either f nan nan = refl
mul_either f nan (inf t) = refl
mul_either f nan (fin t n d) = refl
mul_either f (inf s) nan = refl
mul_either f (inf s) (inf t) = ap inf (unlike_either s t)
mul_either f (inf s) (fin t n d) = rw (unlike_either s t)
mul_either f (fin s m e) nan = refl
mul_either f (fin s m e) (inf t) = rw (unlike_either s t)
mul_either f (fin s m e) (fin t n d) = rw (unlike_either s t, mul_comm (m * up e) (n * up d), mul_comm (down e) (down d))

-- ---- the square of the difference: x - y and y - x are opposite, or both the same zero or NaN

mul_opposites : (f : Format) (x : Float) → mul f (neg x) (neg x) ≡ mul f x x
unfolding mul neg
mul_opposites f nan = refl
mul_opposites f (inf true) = refl
mul_opposites f (inf false) = refl
mul_opposites f (fin true m e) = refl
mul_opposites f (fin false m e) = refl

abbrev Alike : Float → Float → Type 0
Alike x y = (x ≡ neg y) ⊎ (x ≡ y)

sum_opposite : (f : Format) (s : Bool) (a : ℕ) (t : Bool) (b c : ℕ) → Alike (sum f s a (not t) b c) (sum f t b (not s) a c)
unfolding sum
sum_opposite f true a false b c = inl (ap (λ (n : ℕ). round f true n c) (add_comm a b) ∙ sym (neg-round f false (b + a) c))
sum_opposite f false a true b c = inl (ap (λ (n : ℕ). round f false n c) (add_comm a b) ∙ sym (neg-round f true (b + a) c))
sum_opposite f true a true b c = go (order a b)
  where
    go : Order a b → Alike (sum f true a false b c) (sum f true b false a c)
    go (less l) = inl (simp (lt-ltb a b l, le-ltb b a (omega arith), neg-round))
    go (more l) = inl (simp (lt-ltb b a l, le-ltb a b (omega arith), neg-round))
    go (same e) = inr (rw e (simp (le-ltb b b (omega arith))))
sum_opposite f false a false b c = go (order a b)
  where
    go : Order a b → Alike (sum f false a true b c) (sum f false b true a c)
    go (less l) = inl (simp (lt-ltb a b l, le-ltb b a (omega arith), neg-round))
    go (more l) = inl (simp (lt-ltb b a l, le-ltb a b (omega arith), neg-round))
    go (same e) = inr (rw e (simp (le-ltb b b (omega arith))))

sub_opposite : (f : Format) (x y : Float) → Alike (sub f x y) (sub f y x)
unfolding sub add neg
sub_opposite f nan nan = inr refl
sub_opposite f nan (inf t) = inr refl
sub_opposite f nan (fin t n d) = inr refl
sub_opposite f (inf s) nan = inr refl
sub_opposite f (inf true) (inf true) = inr refl
sub_opposite f (inf true) (inf false) = inl refl
sub_opposite f (inf false) (inf true) = inl refl
sub_opposite f (inf false) (inf false) = inr refl
sub_opposite f (inf true) (fin t n d) = inl refl
sub_opposite f (inf false) (fin t n d) = inl refl
sub_opposite f (fin s m e) nan = inr refl
sub_opposite f (fin s m e) (inf t) = inl refl
sub_opposite f (fin s m e) (fin t n d) = rw (mul_comm (down d) (down e)) (sum_opposite f s (m * up e * down d) t (n * up d * down e) (down e * down d))

pub square_either : (f : Format) (x y : Float) → mul f (sub f x y) (sub f x y) ≡ mul f (sub f y x) (sub f y x)
square_either f x y = ⊎_elim (λ e. rw e (mul_opposites f (sub f y x))) (λ e. rw e) (sub_opposite f x y)
