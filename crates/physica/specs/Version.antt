-- The version of the library, 0.2, as a program asks for it. Definitions only.
use Rattle.std.specs.Prelude.{ℕ, ◌+◌, ◌*◌}

abbrev pub major : ℕ
major = 0

abbrev pub minor : ℕ
minor = 2

unfoldable pub version : ℕ
version = 100 * major + minor
