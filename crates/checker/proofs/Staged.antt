-- The stages in order are `checkerCause` (`staged`), and the answer is that of it (`refusing`, `accepting`). Assumes nothing.
use Rattle.std.specs.Prelude.{Ok, Err}
use mathlib.Core.Path.{◌≡◌, refl, ◌∙◌}
use mathlib.Core.List.{List, [], ◌∷◌}
use Prim.Native.Nat.{ℕ}
use Rattle.refusals.specs.declared.Refusal.{Refusal}
use Rattle.refusals.specs.Causes.{Cause, or_else}
use Rattle.sheet.specs.Checker.{kind_in, stations_in, checker_cause, opening_cause, check_sheet}
use Rattle.sheet_laws.specs.Reading.{stations_read}
use Rattle.checker_lists.specs.Stages.{indices_cause, lists_cause, volume_cause, stations_cause}
use Rattle.checker_rooms.specs.Later.{later_cause}

in_turn : (a b c : Cause) → or_else (or_else a b) c ≡ or_else a (or_else b c)
in_turn (Ok _) b c = refl
in_turn (Err r) b c = refl

pub staged : (b : List ℕ) → checker_cause b ≡ or_else (opening_cause b) (later_cause b)
unfolding checker_cause opening_cause later_cause lists_cause indices_cause volume_cause stations_cause
staged b = simp (in_turn, stations_read b)

-- ---- the answer

module _ (b : List ℕ) where
  pub opening_refused : (r : Refusal) → opening_cause b ≡ Err r → checker_cause b ≡ Err r
  opening_refused r e = staged b ∙ rw e

  -- the opening let the bytes through: then the later cause decides
  pub found : {c : Cause} → opening_cause b ≡ Ok tt → later_cause b ≡ c → checker_cause b ≡ c
  found p q = staged b ∙ rw (p, q)

  pub refusing : (r : Refusal) → checker_cause b ≡ Err r → Err r ≡ check_sheet b
  unfolding check_sheet
  refusing r e = rw e

  pub accepting : checker_cause b ≡ Ok tt → Ok (kind_in b ∷ stations_in b ∷ []) ≡ check_sheet b
  unfolding check_sheet
  accepting e = rw e
