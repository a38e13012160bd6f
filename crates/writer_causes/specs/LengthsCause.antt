-- The causes that the counts and lengths decide: 1, 2 and 12 of document 01. Definitions only.
use Rattle.std.specs.Prelude.{◌≡◌, Bool, ◌&&◌, ℕ, ◌/◌, ◌%◌, eqb, length}
use Rattle.refusals.specs.Causes.{or_else}
use Rattle.refusals.specs.Causes.{Cause}
use Rattle.sheet_rows.specs.Kinds.{known_kind}
use Rattle.sheet.specs.Input.{SheetInput}
use Rattle.sheet.specs.Writer.{malformed, too_many, too_short}

-- three numbers to each vertex, face and station, and a known kind: the test of cause 1, of lists of v, f and n numbers
abbrev pub well_formed : ℕ → ℕ → ℕ → ℕ → Bool
well_formed kind v f n = eqb (v % 3) 0 && (eqb (f % 3) 0 && (eqb (n % 3) 0 && known_kind kind (v / 3) (f / 3)))

-- a sheet's input of kind k, whose three lists hold v, f and n numbers
pub record Lengths (s : SheetInput) (k v f n : ℕ) : Type 0 where
  pub kind : s.kind ≡ k
  pub vertices : length s.vertices ≡ v
  pub faces : length s.faces ≡ f
  pub stations : length s.stations ≡ n

-- 1, 2 and 12, for the lengths w of work and o of out
abbrev pub lengths_cause : SheetInput → ℕ → ℕ → Cause
lengths_cause s w o = or_else (malformed s) (or_else (too_many s) (too_short s w o))
