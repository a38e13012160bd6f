-- Three fields of a line as they were read. States:
-- `none_there`, `some`: what was asked of an option; `exit_x`, `exit_y`, `exit_z`: one is not of its form; `too_many`, `all_few`, `few`: where all are, their digits.
-- Assumes nothing.
use Rattle.std.specs.Prelude.{◌≡◌, refl, Bool, true, false, ◌&&◌, Option, None, Some, Result, Ok, Err, ◌≤◌, ◌<◌, max, leb}
use Rattle.std.proofs.Common.{sym, ap, arith, le-leb, leb-true}
use Rattle.std.specs.Option.{ok_or}
use Rattle.refusals.specs.declared.Refusal.{Refusal}
use Rattle.refusals.specs.declared.Refusal.TheVariants.{WrongLine, TooManyDigits}
use Rattle.refusals.specs.Causes.{Cause}
use Rattle.refusals.proofs.Causes.{holds}
use Rattle.lists.proofs.Numbers.{both}
use Rattle.obj.specs.Decimal.{max_digits}
use Rattle.obj_lines.specs.declared.decimal.Decimal.{Decimal}
use Rattle.obj_lines.specs.Parts.{readings_cause}

-- an error passed on as a cause
wrong : (e : Refusal) → ◌≡◌ {A = Result Decimal Refusal} (Err e) (Err WrongLine) → ◌≡◌ {A = Cause} (Err WrongLine) (Err e)
wrong e p = let q : e ≡ WrongLine = cc in ap Err (sym q)

-- what was not there
pub none_there : {T : Type 0} (o : Option T) (e : Refusal) → ◌≡◌ {A = Result T Refusal} (Err e) (ok_or o WrongLine) → (o ≡ None) × (WrongLine ≡ e)
none_there None e p = (refl, cc)
none_there (Some a) e p = (cc, cc)

pub some : {T : Type 0} (x : Option T) (a : T) → ◌≡◌ {A = Result T Refusal} (Ok a) (ok_or x WrongLine) → x ≡ Some a
some None a p = cc
some (Some b) a p = let q : a ≡ b = cc in ap Some (sym q)

pub exit_x : (x y z : Option Decimal) (e : Refusal) → Err e ≡ ok_or x WrongLine → readings_cause x y z ≡ Err e
unfolding readings_cause
exit_x None y z e p = wrong e p
exit_x (Some a) y z e p = cc

pub exit_y : (x y z : Option Decimal) (e : Refusal) → Err e ≡ ok_or y WrongLine → readings_cause x y z ≡ Err e
unfolding readings_cause
exit_y None None z e p = wrong e p
exit_y (Some a) None z e p = wrong e p
exit_y x (Some b) z e p = cc

pub exit_z : (x y z : Option Decimal) (e : Refusal) → Err e ≡ ok_or z WrongLine → readings_cause x y z ≡ Err e
unfolding readings_cause
exit_z None None None e p = wrong e p
exit_z None (Some b) None e p = wrong e p
exit_z (Some a) None None e p = wrong e p
exit_z (Some a) (Some b) None e p = wrong e p
exit_z x y (Some c) e p = cc

-- ---- where all are of their form

module _ (a b c : Decimal) where
  pub all_few : max (max a.digits b.digits) c.digits ≤ max_digits → readings_cause (Some a) (Some b) (Some c) ≡ Ok tt
  unfolding readings_cause
  all_few h = rw (le-leb a.digits max_digits (omega arith), le-leb b.digits max_digits (omega arith), le-leb c.digits max_digits (omega arith))

  pub too_many : max_digits < max (max a.digits b.digits) c.digits → readings_cause (Some a) (Some b) (Some c) ≡ Err TooManyDigits
  unfolding readings_cause
  too_many h = go (leb a.digits max_digits) (leb b.digits max_digits) (leb c.digits max_digits) refl refl refl
    where
      go : (p q r : Bool) → leb a.digits max_digits ≡ p → leb b.digits max_digits ≡ q → leb c.digits max_digits ≡ r → readings_cause (Some a) (Some b) (Some c) ≡ Err TooManyDigits
      go true true true i j k = absurd (omega (arith, leb-true a.digits max_digits i, leb-true b.digits max_digits j, leb-true c.digits max_digits k))
      go true true false i j k = rw (i, j, k)
      go true false r i j k = rw (i, j)
      go false q r i j k = rw i

  pub few : readings_cause (Some a) (Some b) (Some c) ≡ Ok tt → (a.digits ≤ max_digits) × (b.digits ≤ max_digits) × (c.digits ≤ max_digits)
  unfolding readings_cause
  few h =
      let w = both (leb a.digits max_digits && leb b.digits max_digits) (leb c.digits max_digits) (holds _ TooManyDigits h) in
      let v = both (leb a.digits max_digits) (leb b.digits max_digits) w.0 in
      (leb-true a.digits max_digits v.0, leb-true b.digits max_digits v.1, leb-true c.digits max_digits w.1)
