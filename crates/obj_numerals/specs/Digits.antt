-- The last k decimal digits of a number, as text. A reader of `write_obj`'s definition does not need it. Definitions only.
use Rattle.std.specs.Prelude.{ℕ, zero, suc, ◌+◌, ◌/◌, ◌%◌, List, [], ◌∷◌, ◌++◌}
use Rattle.obj.specs.Text.{digit0}

abbrev pub digits : ℕ → ℕ → List ℕ
digits zero n = []
digits (suc k) n = digits k (n / 10) ++ (digit0 + n % 10) ∷ []
