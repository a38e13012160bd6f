-- Bulirsch's general complete elliptic integral cel(k_c, p, a, b) = ∫ (a cos²φ + b sin²φ) / ((cos²φ + p sin²φ) √(cos²φ + k_c² sin²φ)) dφ over φ from 0 to π/2, for p
-- > 0 (R. Bulirsch, Numer. Math. 13, 305 (1969)), with the roundings in the order of the Rust. The public call, which asks for finite arguments first, stands in the
-- crate `rings`. Definitions only.
use Rattle.std.specs.Prelude.{Bool, not, ℕ, Float}
use Rattle.std.specs.Float.Ieee.{le}
use Rattle.doubles.specs.Rounded.{◌⊕◌, ◌⊖◌, ◌⊗◌, ◌⊘◌}
use Rattle.doubles.specs.Constants.{1·0, 2·0, 10⁻¹⁵, π/2}
use Rattle.doubles.specs.Magnitude.{abs}
use Rattle.roots.specs.Root.{Root}
use Rattle.carlson.specs.Rounds.{rounds}
use Rattle.special_bulirsch.specs.declared.Bulirsch.{Bulirsch}

-- the first half of a round: a + b/p, 2(b + a e/p), p + e/p and m + k_c; the m before stays for the test
unfoldable pub first_half : Bulirsch → Bulirsch
first_half s =
    let g = s.e ⊘ s.p in
    record { kc = s.kc; e = s.e; m = s.m ⊕ s.kc; previous = s.m; p = s.p ⊕ g; a = s.a ⊕ s.b ⊘ s.p; b = 2·0 ⊗ (s.b ⊕ s.a ⊗ g) }

-- the second half: k_c = 2 √e and e = k_c m
unfoldable pub second_half : Bulirsch → Bulirsch
second_half s =
    let k = 2·0 ⊗ Root s.e in
    record { kc = k; e = k ⊗ s.m; m = s.m; previous = s.previous; p = s.p; a = s.a; b = s.b }

-- not yet |m - k_c| ≤ 10⁻¹⁵ m, of the m before
unfoldable pub cel_test : Bulirsch → Bool
cel_test s = not (le (abs (s.previous ⊖ s.kc)) (s.previous ⊗ 10⁻¹⁵))

abbrev pub first_bulirsch : Float → Float → Float → Float → Bulirsch
first_bulirsch kc p a b = record { kc = abs kc; e = abs kc; m = 1·0; previous = 1·0; p = Root p; a = a; b = b ⊘ Root p }

-- (π/2)(a m + b)/(m (m + p))
unfoldable pub cel_end : Bulirsch → Float
cel_end s = π/2 ⊗ (s.a ⊗ s.m ⊕ s.b) ⊘ (s.m ⊗ (s.m ⊕ s.p))

-- the Rust's loop makes the first half, tests, and makes the second half, at most 64 times: a first half, and then at most 63 times the second and the first
-- (special_laws, `CelAsWritten`)
abbrev pub max_turns : ℕ
max_turns = 63

unfoldable pub turn : Bulirsch → Bulirsch
turn s = first_half (second_half s)

unfoldable pub cel_of : Float → Float → Float → Float → Float
cel_of kc p a b = cel_end (rounds cel_test turn max_turns (first_half (first_bulirsch kc p a b)))
