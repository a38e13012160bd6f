-- The constants of Carlson's R_C, each as a double by its bits, that `doubles` does not have: 22·0 is the Rust's literal 22.0. Definitions only.
use Rattle.std.specs.Prelude.{Float}
use Rattle.std.specs.Float.{binary64}
use Rattle.std.specs.Float.Ieee.{of_bits}

-- (3ε)^(-1/8), as the reference build has it
abbrev pub [3ε]^-⅛ : Float
[3ε]^-⅛ = of_bits binary64 0x4053_b957_8eb0_bf54

abbrev pub 22·0 : Float
22·0 = of_bits binary64 0x4036_0000_0000_0000

abbrev pub 159·0 : Float
159·0 = of_bits binary64 0x4063_e000_0000_0000

abbrev pub 208·0 : Float
208·0 = of_bits binary64 0x406a_0000_0000_0000
