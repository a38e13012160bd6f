-- R_J for p below zero takes x, y and z in ascending order by `min` and `max` (`least_of`, `middle_of`, `greatest_of`). Of doubles in R_J's domain this states:
-- `in_some_order`: they are x, y, z in one of the six orders; `ascending`: none is below the one before it; `middle_above`: the middle one is above zero.
-- Of two equal numbers `min` and `max` both give the first, so that of +0 and -0 one would be lost; but the domain has at most one zero. Assumes nothing.
use Rattle.std.specs.Prelude.{◌≡◌, Bool, ℕ, zero, suc, ◌*◌, ◌<◌, T, Float}
use Rattle.std.proofs.Math.Path.{refl}
use Rattle.std.proofs.Common.{sym, inl, inr, le_of_lt, le_antisymm, arith}
use Rattle.std.proofs.Math.Bool.{true, false, cond}
use Rattle.std.specs.Float.{nan, inf, fin, binary64}
use Rattle.std.specs.Float.Ieee.{up, lt, fits}
use Rattle.std.specs.Float.Ieee.Positive.{num}
use Rattle.doubles.specs.Magnitude.{max, min}
use Rattle.doubles.proofs.Value.{same-value}
use Rattle.doubles.proofs.Signs.{true→T, false→T}
use Rattle.special_rj.specs.Rj.{least_of, middle_of, greatest_of}
use Rattle.special.specs.Domain.{in_domain}
use Rattle.special_laws.specs.NotBelowZero.{not_below_zero, ◌≼◌, ≼_trans, lt-less, not-lt-le, not-nan, min-has, max-has, min-left, max-left, max-right, min_under_max}
use Rattle.special_laws.specs.NotBelowZero.{under_positive, OneAbove, AtMostOneZero, of_domain}

-- the last three are x, y, z in some order
pub data InSomeOrder (x y z : Float) : Float → Float → Float → Type 0 where
  xyz : InSomeOrder x y z x y z
  xzy : InSomeOrder x y z x z y
  yxz : InSomeOrder x y z y x z
  yzx : InSomeOrder x y z y z x
  zxy : InSomeOrder x y z z x y
  zyx : InSomeOrder x y z z y x

-- ---- two of them

not-less : (u v : Float) → T (not_below_zero u) → T (not_below_zero v) → u ≼ v → lt v u ≡ false
not-less u v p q h = go (lt v u) refl
  where
    go : (b : Bool) → lt v u ≡ b → lt v u ≡ false
    go false e = e
    go true e = let l = lt-less v u q p (true→T e) in absurd (omega arith)

both_above : (u v : Float) → OneAbove u v → u ≼ v → v ≼ u → (0 < num u) × (0 < num v)
both_above u v (inl h) k l = (h, under_positive u v k h)
both_above u v (inr h) k l = (under_positive v u l h, h)

zero-not-above : (u : ℕ) → 0 < 0 * u → ⊥
zero-not-above u h = omega arith

above_same :
    (u v : Float) → T (not_below_zero u) → T (not_below_zero v) → T (fits binary64 u) → T (fits binary64 v) → 0 < num u → 0 < num v → u ≼ v → v ≼ u → u ≡ v
above_same nan v p q f g a b h k = absurd p
above_same (inf s) v p q f g a b h k = absurd p
above_same (fin s m e) nan p q f g a b h k = absurd q
above_same (fin s m e) (inf t) p q f g a b h k = absurd q
above_same (fin false m e) (fin false n d) p q f g a b h k = same-value binary64 false m e n d f g (le_antisymm h k)
above_same (fin false m e) (fin true zero d) p q f g a b h k = absurd (zero-not-above (up d) b)
above_same (fin false m e) (fin true (suc n) d) p q f g a b h k = absurd q
above_same (fin true zero e) (fin t n d) p q f g a b h k = absurd (zero-not-above (up e) a)
above_same (fin true (suc m) e) (fin t n d) p q f g a b h k = absurd p

-- two doubles, not both zero: where they are equal they are the same
record SameIfEqual (u v : Float) : Type 0 where
  pub left : T (not_below_zero u)
  pub right : T (not_below_zero v)
  pub same : u ≼ v → v ≼ u → u ≡ v

same_if_equal : (u v : Float) → T (not_below_zero u) → T (not_below_zero v) → T (fits binary64 u) → T (fits binary64 v) → OneAbove u v → SameIfEqual u v
same_if_equal u v p q f g o = record {
  left = p;
  right = q;
  same = λ (h : u ≼ v) (k : v ≼ u). let a = both_above u v o h k in above_same u v p q f g a.0 a.1 h k;
}

other_way : (u v : Float) → SameIfEqual u v → SameIfEqual v u
other_way u v w = record { left = w.right; right = w.left; same = λ (h : v ≼ u) (k : u ≼ v). sym (w.same k h) }

module _ (u v : Float) (w : SameIfEqual u v) where
  min-first : u ≼ v → min u v ≡ u
  unfolding min
  min-first h = rw (not-nan u w.left, not-less u v w.left w.right h)

  max-first : v ≼ u → max u v ≡ u
  unfolding max
  max-first h = rw (not-nan u w.left, not-less v u w.right w.left h)

  min-second : v ≼ u → min u v ≡ v
  unfolding min
  min-second h = rw (not-nan u w.left) (go (lt v u) refl)
    where
      go : (b : Bool) → lt v u ≡ b → cond b v u ≡ v
      go true e = refl
      go false e = w.same (not-lt-le v u w.right w.left (false→T e)) h

  max-second : u ≼ v → max u v ≡ v
  unfolding max
  max-second h = rw (not-nan u w.left) (go (lt u v) refl)
    where
      go : (b : Bool) → lt u v ≡ b → cond b v u ≡ v
      go true e = refl
      go false e = w.same h (not-lt-le u v w.left w.right (false→T e))

  either : {P : Type 0} → (u ≼ v → P) → (v ≼ u → P) → P
  either {P} f g = go (lt u v) refl
    where
      go : (b : Bool) → lt u v ≡ b → P
      go true e = f (le_of_lt (lt-less u v w.left w.right (true→T e)))
      go false e = g (not-lt-le u v w.left w.right (false→T e))

-- ---- the three

-- a and b in order, with a third
module _ (a b z : Float) (ab : SameIfEqual a b) (az : SameIfEqual a z) (bz : SameIfEqual b z) (h : a ≼ b) where
  with-third : InSomeOrder a b z (min a z) (max a (min b z)) (max b z)
  with-third = either b z bz
      (λ (k : b ≼ z).
      rw (min-first b z bz k, max-second b z bz k, min-first a z az (≼_trans a b z h k), max-second a b ab h) xyz)
      (λ (k : z ≼ b).
      rw (min-second b z bz k, max-first b z bz k)
      (either a z az (λ (l : a ≼ z). rw (min-first a z az l, max-second a z az l) xzy) (λ (l : z ≼ a). rw (min-second a z az l, max-first a z az l) zxy)))

exchanged : {x y z a b c : Float} → InSomeOrder y x z a b c → InSomeOrder x y z a b c
exchanged xyz = yxz
exchanged xzy = yzx
exchanged yxz = xyz
exchanged yzx = xzy
exchanged zxy = zyx
exchanged zyx = zxy

module _ (x y z : Float) (xy : SameIfEqual x y) (xz : SameIfEqual x z) (yz : SameIfEqual y z) where
  sorted : InSomeOrder x y z (least_of x y z) (middle_of x y z) (greatest_of x y z)
  sorted = either x y xy
      (λ (h : x ≼ y). rw (min-first x y xy h, max-second x y xy h) (with-third x y z xy xz yz h))
      (λ (h : y ≼ x). rw (min-second x y xy h, max-first x y xy h) (exchanged (with-third y x z (other_way x y xy) yz xz h)))

pub in_some_order :
    (x y z : Float) → T (fits binary64 x) → T (fits binary64 y) → T (fits binary64 z) → in_domain x y z ≡ true
    → InSomeOrder x y z (least_of x y z) (middle_of x y z) (greatest_of x y z)
in_some_order x y z f g h d =
    let w = of_domain x y z d in
    sorted x y z (same_if_equal x y w.first w.second f g w.xy) (same_if_equal x z w.first w.third f h w.xz) (same_if_equal y z w.second w.third g h w.yz)

-- ---- ascending

-- what x, y and z have, the three in order have
module _ (x y z : Float) (P : Float → Type 0) (p : P x) (q : P y) (r : P z) where
  pub least-has : P (least_of x y z)
  least-has = min-has (min x y) z P (min-has x y P p q) r

  pub middle_has : P (middle_of x y z)
  middle_has = max-has (min x y) (min (max x y) z) P (min-has x y P p q) (min-has (max x y) z P (max-has x y P p q) r)

  pub greatest-has : P (greatest_of x y z)
  greatest-has = max-has (max x y) z P (max-has x y P p q) r

module _ (x y z : Float) (w : AtMostOneZero x y z) where
  min-not-below : T (not_below_zero (min x y))
  min-not-below = min-has x y (λ (t : Float). T (not_below_zero t)) w.first w.second

  max-not-below : T (not_below_zero (max x y))
  max-not-below = max-has x y (λ (t : Float). T (not_below_zero t)) w.first w.second

  inner_min-not-below : T (not_below_zero (min (max x y) z))
  inner_min-not-below = min-has (max x y) z (λ (t : Float). T (not_below_zero t)) max-not-below w.third

  -- for two of the three are above zero
  pub middle_above : 0 < num (middle_of x y z)
  middle_above = go w.xy w.xz w.yz
    where
      by_first : 0 < num x → 0 < num y → 0 < num (middle_of x y z)
      by_first h k = under_positive (min x y) (middle_of x y z) (max-left (min x y) (min (max x y) z) min-not-below inner_min-not-below) (min-has x y (λ (t : Float). 0 < num t) h k)

      by-second : 0 < num (max x y) → 0 < num z → 0 < num (middle_of x y z)
      by-second h k =
          under_positive (min (max x y) z) (middle_of x y z) (max-right (min x y) (min (max x y) z) min-not-below inner_min-not-below) (min-has (max x y) z (λ (t : Float). 0 < num t) h k)

      go : OneAbove x y → OneAbove x z → OneAbove y z → 0 < num (middle_of x y z)
      go (inl h) b (inl k) = by_first h k
      go (inl h) b (inr k) = by-second (under_positive x (max x y) (max-left x y w.first w.second) h) k
      go (inr h) (inl k) c = by_first k h
      go (inr h) (inr k) c = by-second (under_positive y (max x y) (max-right x y w.first w.second) h) k

  pub under_greatest : middle_of x y z ≼ greatest_of x y z
  under_greatest =
      max-has (min x y) (min (max x y) z) (λ (t : Float). t ≼ greatest_of x y z)
      (≼_trans (min x y) (max x y) (greatest_of x y z) (min_under_max x y w.first w.second) (max-left (max x y) z max-not-below w.third))
      (min_under_max (max x y) z max-not-below w.third)

  pub least_under : least_of x y z ≼ middle_of x y z
  least_under =
      ≼_trans (least_of x y z) (min x y) (middle_of x y z) (min-left (min x y) z min-not-below w.third)
      (max-left (min x y) (min (max x y) z) min-not-below inner_min-not-below)

  in_ascending : (lt (middle_of x y z) (least_of x y z) ≡ false) × (lt (greatest_of x y z) (middle_of x y z) ≡ false)
  in_ascending =
      let nb : Float → Type 0 = λ (t : Float). T (not_below_zero t) in
      let l = least-has x y z nb w.first w.second w.third in
      let m = middle_has x y z nb w.first w.second w.third in
      let g = greatest-has x y z nb w.first w.second w.third in
      (not-less (least_of x y z) (middle_of x y z) l m least_under, not-less (middle_of x y z) (greatest_of x y z) m g under_greatest)

pub ascending : (x y z : Float) → in_domain x y z ≡ true → (lt (middle_of x y z) (least_of x y z) ≡ false) × (lt (greatest_of x y z) (middle_of x y z) ≡ false)
ascending x y z d = in_ascending x y z (of_domain x y z d)
