-- The constants of Carlson's R_F, R_D and R_J, each as a double by its bits, that `doubles` and `carlson` do not have: 14·0 is the Rust's literal 14.0. Definitions only.
use Rattle.std.specs.Prelude.{Float}
use Rattle.std.specs.Float.{binary64}
use Rattle.std.specs.Float.Ieee.{of_bits}

-- (3ε)^(-1/6), as the reference build has it: two units in the last place below the nearest double, since the Rust's exponent is -1/6 rounded
abbrev pub [3ε]^-⅙ : Float
[3ε]^-⅙ = of_bits binary64 0x4075_261a_0375_6a90

-- (ε/4)^(-1/6), as the reference build has it: 512 less three units in the last place, for the same reason
abbrev pub [ε/4]^-⅙ : Float
[ε/4]^-⅙ = of_bits binary64 0x407f_ffff_ffff_fffd

abbrev pub 14·0 : Float
14·0 = of_bits binary64 0x402c_0000_0000_0000

abbrev pub 26·0 : Float
26·0 = of_bits binary64 0x403a_0000_0000_0000

abbrev pub 44·0 : Float
44·0 = of_bits binary64 0x4046_0000_0000_0000

abbrev pub 52·0 : Float
52·0 = of_bits binary64 0x404a_0000_0000_0000

abbrev pub 88·0 : Float
88·0 = of_bits binary64 0x4056_0000_0000_0000
