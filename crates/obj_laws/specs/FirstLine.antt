-- What it is to be the first bad line. Definitions only.
use Rattle.std.specs.Prelude.{◌≡◌, List, [], ℕ, ◌<◌, length, get_or, Ok, Err}
use Rattle.refusals.specs.declared.Refusal.{Refusal}
use Rattle.obj.specs.Text.{lines}
use Rattle.obj.specs.Reader.{line_cause}

-- of the lines ls, line i has the cause r, and no line before it has one
pub record FirstOfLines (ls : List (List ℕ)) (r : Refusal) : Type 0 where
  pub i : ℕ
  pub line : i < length ls
  pub itself : line_cause (get_or ls i []) ≡ Err r
  pub before : (j : ℕ) → j < i → line_cause (get_or ls j []) ≡ Ok tt

-- of the lines of the text t
abbrev pub FirstBad : List ℕ → Refusal → Type 0
FirstBad t r = FirstOfLines (lines t) r
