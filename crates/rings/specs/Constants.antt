-- The constants of the ring, each as a double by its bits, that `doubles` does not have: 16·0 is the Rust's literal 16.0, and 9e-8 is the Rust's too. Definitions only.
use Rattle.std.specs.Prelude.{Float}
use Rattle.std.specs.Float.{binary64}
use Rattle.std.specs.Float.Ieee.{of_bits}

-- the square of 3e-4: ρ² below this part of R² + z² is near the axis
abbrev pub 9e-8 : Float
9e-8 = of_bits binary64 0x3e78_28c0_be76_9dc1

abbrev pub 16·0 : Float
16·0 = of_bits binary64 0x4030_0000_0000_0000

abbrev pub 72·0 : Float
72·0 = of_bits binary64 0x4052_0000_0000_0000
