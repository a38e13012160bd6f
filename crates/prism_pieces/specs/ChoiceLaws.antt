-- What the orders and the longest axis of the choice are. States:
-- `ceiling-kept`, `kept-ceiling`: for a number x `ceiling x` is ⌈x⌉ kept within 1 and `max_order` + 1 (`KeptCeiling`), and nothing else is; `ceiling_of_nan`: of a NaN it is 1;
-- `longest-is`: for half-widths that are numbers `longest rule h` is an axis of the largest, and of equal ones the last or the first, as the rule says (`Chosen`), and no other axis is;
-- `no-tie`: where an axis is longer than both others (`StrictlyLongest`), it is that of both rules.
-- Assumes nothing.
use Rattle.std.specs.Prelude.{◌≡◌, ◌⊎◌, ◌↔◌, Bool, true, false, not, cond, ltb, pos, Float}
use Rattle.std.proofs.Math.Path.{refl}
use Rattle.std.proofs.Common.{sym, ap, subst, ◌∙◌, ⊎_elim, inl, inr}
use Rattle.std.proofs.lemmas.Bool.{false≢true}
use Prim.Native.Nat.{ℕ, zero, suc, ◌+◌, ◌-◌, ◌*◌, ◌/◌, ◌%◌, ◌^◌, ◌≤◌, ◌<◌, compare}
use native.Mathlib.Omega.{arith}
use Rattle.std.specs.Float.{nan, inf, fin, Format}
use Rattle.std.specs.Float.Ieee.{binary64, prec, emax, low, size, nearest, odd, units, round, of_int, lt, le, is_nan}
use Rattle.std.specs.Float.Ieee.Bits.{is_true}
use Rattle.std.specs.Float.Ieee.Order.{round_mono}
use borrow.Author.Tests.{not-false}
use Rattle.legendre.specs.GaussLegendre.{max_order}
use Rattle.newtonian.specs.Fold.{Fold}
use Rattle.newtonian.specs.declared.Vector.{Vector}
use Rattle.prism_pieces.specs.declared.AxisRule.{AxisRule}
use Rattle.prism_pieces.specs.declared.AxisRule.TheVariants.{LastOfEquals, FirstOfEquals}
use Rattle.prism_pieces.specs.declared.Axis.{Axis}
use Rattle.prism_pieces.specs.declared.Axis.TheVariants.{X, Y, Z}
use Rattle.prism_pieces.specs.Choice.{count_below, ceiling, last_longest, first_longest, longest, along}
use Rattle.doubles.proofs.Comparisons.{less?, lt_not_le, lt-le, number-le_self, float_le_trans}

-- ---- what is stated

-- n is ⌈x⌉, but at least 1 and at most `max_order` + 1: x ≤ n, unless n is the greatest; n − 1 < x, unless n is the least
pub record KeptCeiling (x : Float) (n : ℕ) : Type 0 where
  pub least : 1 ≤ n
  pub greatest : n ≤ max_order + 1
  pub above : n ≤ max_order → le x (of_int binary64 (pos n)) ≡ true
  pub below : 1 < n → lt (of_int binary64 (pos (n - 1))) x ≡ true

-- the axes in order
abbrev pub axis_number : Axis → ℕ
axis_number X = 0
axis_number Y = 1
axis_number Z = 2

-- no half-width is longer than that of the axis a
abbrev pub IsLongest : Vector → Axis → Type 0
IsLongest h a = (b : Axis) → le (along b h) (along a h) ≡ true

-- of two equally long axes the rule takes b rather than a: b comes after a, by the rule of the last, or before it, by that of the first
abbrev pub Preferred : AxisRule → Axis → Axis → Type 0
Preferred LastOfEquals b a = axis_number a < axis_number b
Preferred FirstOfEquals b a = axis_number b < axis_number a

-- every axis that the rule would take rather than a, were it as long, is shorter
abbrev pub Decides : AxisRule → Vector → Axis → Type 0
Decides rule h a = (b : Axis) → Preferred rule b a → lt (along b h) (along a h) ≡ true

-- a is a longest axis, and that of the rule
pub record Chosen (rule : AxisRule) (h : Vector) (a : Axis) : Type 0 where
  pub longest : IsLongest h a
  pub decided : Decides rule h a

-- every axis but a is shorter than a
abbrev pub StrictlyLongest : Vector → Axis → Type 0
StrictlyLongest h a = (b : Axis) → (b ≡ a) ⊎ (lt (along b h) (along a h) ≡ true)

-- every half-width is a number
abbrev pub AllNumbers : Vector → Type 0
AllNumbers h = (b : Axis) → is_nan (along b h) ≡ false

-- ---- whole numbers as doubles

odd_number : (d : ℕ) (s : Bool) (q k l : ℕ) → is_nan (odd d s q k l) ≡ false
unfolding odd is_nan
odd_number d s zero k l = refl
odd_number d s (suc q) k l = refl

units_number : (f : Format) (s : Bool) (q k : ℕ) → is_nan (units f s q k) ≡ false
unfolding units is_nan
units_number f s q k = go (ltb (q * 2 ^ k) (2 ^ (low f + suc (emax f))))
  where
    go : (b : Bool) → is_nan (cond b (odd (suc (prec f)) s q k (low f)) (inf s)) ≡ false
    go true = odd_number (suc (prec f)) s q k (low f)
    go false = refl

whole-number : (n : ℕ) → is_nan (of_int binary64 (pos n)) ≡ false
unfolding of_int round
whole-number n =
    let a = n * 2 ^ low binary64 in
    let k = size (a / 1) - prec binary64 in
    let u = 1 * 2 ^ k in
    units_number binary64 false (nearest (a / u) (compare (a % u * 2) u)) k

in_order : (m n : ℕ) → m ≤ n → le (of_int binary64 (pos m)) (of_int binary64 (pos n)) ≡ true
unfolding of_int
in_order m n l = is_true (le (round binary64 false m 1) (round binary64 false n 1)) (round_mono binary64 m 1 n 1 (omega arith) (omega arith) (omega arith))

-- ---- the ceiling

-- the whole number n lies below x
abbrev Under : Float → ℕ → Bool
Under x n = lt (of_int binary64 (pos n)) x

-- n − 1 is the greatest of 0, 1, .., k that lies below x, or 0
abbrev CountBelow : Float → ℕ → ℕ → Type 0
CountBelow x k n = (1 ≤ n) × (n ≤ k + 1) × (n ≤ k → Under x n ≡ false) × (1 < n → Under x (n - 1) ≡ true)

module _ (x : Float) (number : is_nan x ≡ false) where
  not-above : (n : ℕ) → Under x n ≡ not (le x (of_int binary64 (pos n)))
  not-above n = lt_not_le (of_int binary64 (pos n)) x (whole-number n) number

  under_less : (m n : ℕ) → m ≤ n → Under x n ≡ true → Under x m ≡ true
  under_less m n l e = not-above m ∙ go (le x (of_int binary64 (pos m))) refl
    where
      go : (c : Bool) → le x (of_int binary64 (pos m)) ≡ c → not c ≡ true
      go true q = absurd (false≢true (sym (not-above n ∙ ap not (float_le_trans x (of_int binary64 (pos m)) (of_int binary64 (pos n)) q (in_order m n l))) ∙ e))
      go false q = refl

  one_more : (k n : ℕ) → CountBelow x k n → CountBelow x (suc k) (count_below x k n)
  one_more k n h = go (Under x (k + 1)) refl
    where
      go : (c : Bool) → Under x (k + 1) ≡ c → CountBelow x (suc k) (cond c (n + 1) n)
      go true e =
          let q : n ≡ k + 1 =
          ⊎_elim (λ l. absurd (false≢true (sym (h.2 (omega arith)) ∙ under_less n (k + 1) (omega arith) e))) (λ l. omega (arith, h.1)) (less? n (k + 1)) in
          let r : n + 1 - 1 ≡ k + 1 = omega arith in
          (omega arith, omega arith, (λ l. absurd (omega arith)), (λ l. ap (Under x) r ∙ e))
      go false e = (h.0, omega (arith, h.1), (λ l. ⊎_elim (λ m. h.2 (omega arith)) (λ m. let r : n ≡ k + 1 = omega (arith, h.1) in ap (Under x) r ∙ e) (less? n (k + 1))), h.3)

  count-below : (k : ℕ) → CountBelow x k (Fold k (count_below x) 1)
  unfolding Fold
  count-below zero = (omega arith, omega arith, (λ l. absurd (omega arith)), (λ l. absurd (omega arith)))
  count-below (suc k) = one_more k (Fold k (count_below x) 1) (count-below k)

  pub ceiling-kept : KeptCeiling x (ceiling x)
  unfolding ceiling
  ceiling-kept =
      let h = count-below max_order in
      record {
        least = h.0;
        greatest = h.1;
        above = λ l. not-false (le x (of_int binary64 (pos (ceiling x)))) (sym (not-above (ceiling x)) ∙ h.2 l);
        below = h.3;
      }

  not-less : (m n : ℕ) → KeptCeiling x m → KeptCeiling x n → m < n → ⊥
  not-less m n p q l =
      false≢true (sym (not-above m ∙ ap not (p.above (omega (arith, q.greatest)))) ∙ under_less m (n - 1) (omega arith) (q.below (omega (arith, p.least))))

  pub kept-ceiling : (n : ℕ) → KeptCeiling x n → n ≡ ceiling x
  kept-ceiling n h =
      ⊎_elim (λ l. absurd (not-less n (ceiling x) h ceiling-kept l))
      (λ l. ⊎_elim (λ m. absurd (not-less (ceiling x) n ceiling-kept h m)) (λ m. omega arith) (less? (ceiling x) n)) (less? n (ceiling x))

under_nan : (y : Float) → lt y nan ≡ false
unfolding lt
under_nan nan = refl
under_nan (inf s) = refl
under_nan (fin s m e) = refl

none_below : (k : ℕ) → Fold k (count_below nan) 1 ≡ 1
unfolding Fold
none_below zero = refl
none_below (suc k) = ap (λ (c : Bool). cond c (Fold k (count_below nan) 1 + 1) (Fold k (count_below nan) 1)) (under_nan (of_int binary64 (pos (k + 1)))) ∙ none_below k

pub ceiling_of_nan : ceiling nan ≡ 1
unfolding ceiling
ceiling_of_nan = none_below max_order

-- ---- the longest axis

each_axis : (P : Axis → Type 0) → P X → P Y → P Z → (b : Axis) → P b
each_axis P p q r X = p
each_axis P p q r Y = q
each_axis P p q r Z = r

same_axis : (a b : Axis) → axis_number a ≡ axis_number b → a ≡ b
same_axis X X e = refl
same_axis X Y e = absurd (omega arith)
same_axis X Z e = absurd (omega arith)
same_axis Y X e = absurd (omega arith)
same_axis Y Y e = refl
same_axis Y Z e = absurd (omega arith)
same_axis Z X e = absurd (omega arith)
same_axis Z Y e = absurd (omega arith)
same_axis Z Z e = refl

module _ (h : Vector) (n : AllNumbers h) where
  -- a is no shorter than b, and longer where the rule prefers b
  abbrev Beats : AxisRule → Axis → Axis → Type 0
  Beats rule a b = (le (along b h) (along a h) ≡ true) × (Preferred rule b a → lt (along b h) (along a h) ≡ true)

  beats_self : (rule : AxisRule) (a : Axis) → Beats rule a a
  beats_self LastOfEquals a = (number-le_self (along a h) (n a), λ l. absurd (omega arith))
  beats_self FirstOfEquals a = (number-le_self (along a h) (n a), λ l. absurd (omega arith))

  -- what is not as long is shorter
  longer : (rule : AxisRule) (a b : Axis) → le (along a h) (along b h) ≡ false → Beats rule a b
  longer rule a b e =
      let l = lt_not_le (along b h) (along a h) (n b) (n a) ∙ ap not e in
      (lt-le (along b h) (along a h) l, λ p. l)

  -- whatever lies between, c is preferred to it, or it to a
  between : (rule : AxisRule) (a b c : Axis) → Preferred rule c a → Preferred rule c b ⊎ Preferred rule b a
  between LastOfEquals a b c l = ⊎_elim (λ p. inl p) (λ p. inr (omega arith)) (less? (axis_number b) (axis_number c))
  between FirstOfEquals a b c l = ⊎_elim (λ p. inl p) (λ p. inr (omega arith)) (less? (axis_number c) (axis_number b))

  -- what is shorter is not as long
  not_as_long : (a b : Axis) → lt (along b h) (along a h) ≡ true → le (along a h) (along b h) ≡ true → ⊥
  not_as_long a b l e = false≢true (sym (lt_not_le (along b h) (along a h) (n b) (n a) ∙ ap not e) ∙ l)

  beats_trans : (rule : AxisRule) (a b c : Axis) → Beats rule a b → Beats rule b c → Beats rule a c
  beats_trans rule a b c p q = (float_le_trans (along c h) (along b h) (along a h) q.0 p.0, λ l. go (le (along a h) (along c h)) refl l)
    where
      go : (t : Bool) → le (along a h) (along c h) ≡ t → Preferred rule c a → lt (along c h) (along a h) ≡ true
      go false e l = lt_not_le (along c h) (along a h) (n c) (n a) ∙ ap not e
      go true e l = absurd (⊎_elim
          (λ x. not_as_long b c (q.1 x) (float_le_trans (along b h) (along a h) (along c h) p.0 e))
          (λ x. not_as_long a b (p.1 x) (float_le_trans (along a h) (along c h) (along b h) e q.0))
          (between rule a b c l))

  chosen_by : (rule : AxisRule) (a : Axis) → Beats rule a X → Beats rule a Y → Beats rule a Z → Chosen rule h a
  chosen_by rule a x y z = record {
    longest = each_axis (λ b. le (along b h) (along a h) ≡ true) x.0 y.0 z.0;
    decided = each_axis (λ b. Preferred rule b a → lt (along b h) (along a h) ≡ true) x.1 y.1 z.1;
  }

  last_chosen : (p q r : Bool) → le (along X h) (along Y h) ≡ p → le (along Y h) (along Z h) ≡ q → le (along X h) (along Z h) ≡ r
      → Chosen LastOfEquals h (cond p (cond q Z Y) (cond r Z X))
  last_chosen true true r e f g =
      let y_x : Beats LastOfEquals Y X = (e, λ l. absurd (omega arith)) in
      let z_y : Beats LastOfEquals Z Y = (f, λ l. absurd (omega arith)) in
      chosen_by LastOfEquals Z (beats_trans LastOfEquals Z Y X z_y y_x) z_y (beats_self LastOfEquals Z)
  last_chosen true false r e f g =
      chosen_by LastOfEquals Y (e, λ l. absurd (omega arith)) (beats_self LastOfEquals Y) (longer LastOfEquals Y Z f)
  last_chosen false q true e f g =
      let z_x : Beats LastOfEquals Z X = (g, λ l. absurd (omega arith)) in
      chosen_by LastOfEquals Z z_x (beats_trans LastOfEquals Z X Y z_x (longer LastOfEquals X Y e)) (beats_self LastOfEquals Z)
  last_chosen false q false e f g = chosen_by LastOfEquals X (beats_self LastOfEquals X) (longer LastOfEquals X Y e) (longer LastOfEquals X Z g)

  first_chosen : (p q r : Bool) → le (along Y h) (along X h) ≡ p → le (along Z h) (along X h) ≡ q → le (along Z h) (along Y h) ≡ r
      → Chosen FirstOfEquals h (cond p (cond q X Z) (cond r Y Z))
  first_chosen true true r e f g =
      chosen_by FirstOfEquals X (beats_self FirstOfEquals X) (e, λ l. absurd (omega arith)) (f, λ l. absurd (omega arith))
  first_chosen true false r e f g =
      let z_x = longer FirstOfEquals Z X f in
      chosen_by FirstOfEquals Z z_x (beats_trans FirstOfEquals Z X Y z_x (e, λ l. absurd (omega arith))) (beats_self FirstOfEquals Z)
  first_chosen false q true e f g = chosen_by FirstOfEquals Y (longer FirstOfEquals Y X e) (beats_self FirstOfEquals Y) (g, λ l. absurd (omega arith))
  first_chosen false q false e f g =
      let z_y = longer FirstOfEquals Z Y g in
      chosen_by FirstOfEquals Z (beats_trans FirstOfEquals Z Y X z_y (longer FirstOfEquals Y X e)) z_y (beats_self FirstOfEquals Z)

  chosen : (rule : AxisRule) → Chosen rule h (longest rule h)
  unfolding longest last_longest first_longest along
  chosen LastOfEquals = last_chosen (le h.x h.y) (le h.y h.z) (le h.x h.z) refl refl refl
  chosen FirstOfEquals = first_chosen (le h.y h.x) (le h.z h.x) (le h.z h.y) refl refl refl

  two_axes : (rule : AxisRule) (a b : Axis) → Preferred rule b a ⊎ ((a ≡ b) ⊎ Preferred rule a b)
  two_axes LastOfEquals a b =
      ⊎_elim (λ l. inl l) (λ l. ⊎_elim (λ m. inr (inr m)) (λ m. inr (inl (same_axis a b (omega arith)))) (less? (axis_number b) (axis_number a))) (less? (axis_number a) (axis_number b))
  two_axes FirstOfEquals a b =
      ⊎_elim (λ l. inr (inr l)) (λ l. ⊎_elim (λ m. inl m) (λ m. inr (inl (same_axis a b (omega arith)))) (less? (axis_number b) (axis_number a))) (less? (axis_number a) (axis_number b))

  one_chosen : (rule : AxisRule) (a b : Axis) → Chosen rule h a → Chosen rule h b → a ≡ b
  one_chosen rule a b p q =
      ⊎_elim (λ l. absurd (not_as_long a b (p.decided b l) (q.longest a)))
      (λ s. ⊎_elim (λ e. e) (λ l. absurd (not_as_long b a (q.decided a l) (p.longest b))) s) (two_axes rule a b)

  pub longest-is : (rule : AxisRule) (a : Axis) → (longest rule h ≡ a) ↔ Chosen rule h a
  longest-is rule a = (λ e. subst (Chosen rule h) e (chosen rule), λ p. one_chosen rule (longest rule h) a (chosen rule) p)

-- what is less than something is a number, and so is what something is less than
number_first : (x y : Float) → lt x y ≡ true → is_nan x ≡ false
unfolding lt is_nan
number_first nan y e = absurd (false≢true e)
number_first (inf s) y e = refl
number_first (fin s m k) y e = refl

number_second : (x y : Float) → lt x y ≡ true → is_nan y ≡ false
unfolding lt is_nan
number_second x nan e = absurd (false≢true (sym (under_nan x) ∙ e))
number_second x (inf s) e = refl
number_second x (fin s m k) e = refl

preferred_apart : (rule : AxisRule) (a : Axis) → Preferred rule a a → ⊥
preferred_apart LastOfEquals a l = omega arith
preferred_apart FirstOfEquals a l = omega arith

longer_number : (h : Vector) (a b : Axis) → (axis_number b ≡ axis_number a → ⊥) → (b ≡ a) ⊎ (lt (along b h) (along a h) ≡ true) → is_nan (along a h) ≡ false
longer_number h a b d = ⊎_elim (λ e. absurd (d (ap axis_number e))) (λ l. number_second (along b h) (along a h) l)

longest_number : (h : Vector) (a : Axis) → StrictlyLongest h a → is_nan (along a h) ≡ false
longest_number h X s = longer_number h X Y (λ e. omega arith) (s Y)
longest_number h Y s = longer_number h Y X (λ e. omega arith) (s X)
longest_number h Z s = longer_number h Z X (λ e. omega arith) (s X)

module _ (h : Vector) (a : Axis) (s : StrictlyLongest h a) where
  all_numbers : AllNumbers h
  all_numbers b =
      ⊎_elim (λ e. subst (λ (c : Axis). is_nan (along c h) ≡ false) (sym e) (longest_number h a s)) (λ l. number_first (along b h) (along a h) l) (s b)

  pub no-tie : (rule : AxisRule) → longest rule h ≡ a
  no-tie rule = (longest-is h all_numbers rule a).1 (record {
    longest = λ b. ⊎_elim (λ e. subst (λ (c : Axis). le (along c h) (along a h) ≡ true) (sym e) (number-le_self (along a h) (all_numbers a)))
        (λ l. lt-le (along b h) (along a h) l) (s b);
    decided = λ b p. ⊎_elim (λ e. absurd (preferred_apart rule a (subst (λ (c : Axis). Preferred rule c a) e p))) (λ l. l) (s b);
  })
