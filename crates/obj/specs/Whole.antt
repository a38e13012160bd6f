-- Doubles that are whole numbers within a limit. −0 is whole, of magnitude 0. Definitions only.
use Rattle.std.specs.Prelude.{Bool, false, ◌&&◌, ℕ, ◌*◌, ◌/◌, ◌%◌, eqb, leb, Float}
use Rattle.std.specs.Float.{nan, inf, fin}
use Rattle.std.specs.Float.Ieee.{up, down}

-- the magnitude without its fraction; `fin s m e` is m · up e / down e, negative where s is true
unfoldable pub magnitude_of : Float → ℕ
magnitude_of nan = 0
magnitude_of (inf s) = 0
magnitude_of (fin s m e) = m * up e / down e

-- finite, with no fraction, and of magnitude at most the limit
unfoldable pub is_whole : ℕ → Float → Bool
is_whole limit nan = false
is_whole limit (inf s) = false
is_whole limit (fin s m e) = eqb (m * up e % down e) 0 && leb (m * up e / down e) limit
