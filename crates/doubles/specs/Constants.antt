-- The constants of the Rust, each as a double by its bits: 1·5 is the Rust's literal 1.5, with a raised point. `ConstantsAreNearest` shows that those with a decimal
-- value are the doubles nearest it. Definitions only.
use Rattle.std.specs.Prelude.{Float}
use Rattle.std.specs.Float.{binary64}
use Rattle.std.specs.Float.Ieee.{neg, of_bits}

abbrev pub 0·0 : Float
0·0 = of_bits binary64 0x0000_0000_0000_0000

-- zero with its sign set, where every sum of the Rust's `.sum()` starts
abbrev pub -0·0 : Float
-0·0 = neg 0·0

abbrev pub 0·25 : Float
0·25 = of_bits binary64 0x3fd0_0000_0000_0000

abbrev pub 0·5 : Float
0·5 = of_bits binary64 0x3fe0_0000_0000_0000

abbrev pub 1·0 : Float
1·0 = of_bits binary64 0x3ff0_0000_0000_0000

abbrev pub 1·5 : Float
1·5 = of_bits binary64 0x3ff8_0000_0000_0000

abbrev pub 2·0 : Float
2·0 = of_bits binary64 0x4000_0000_0000_0000

abbrev pub 3·0 : Float
3·0 = of_bits binary64 0x4008_0000_0000_0000

abbrev pub 4·0 : Float
4·0 = of_bits binary64 0x4010_0000_0000_0000

abbrev pub 5·0 : Float
5·0 = of_bits binary64 0x4014_0000_0000_0000

abbrev pub 6·0 : Float
6·0 = of_bits binary64 0x4018_0000_0000_0000

abbrev pub 7·0 : Float
7·0 = of_bits binary64 0x401c_0000_0000_0000

abbrev pub 8·0 : Float
8·0 = of_bits binary64 0x4020_0000_0000_0000

abbrev pub 9·0 : Float
9·0 = of_bits binary64 0x4022_0000_0000_0000

abbrev pub 10·0 : Float
10·0 = of_bits binary64 0x4024_0000_0000_0000

abbrev pub 24·0 : Float
24·0 = of_bits binary64 0x4038_0000_0000_0000

abbrev pub 10⁹ : Float
10⁹ = of_bits binary64 0x41cd_cd65_0000_0000

abbrev pub 10⁻⁶ : Float
10⁻⁶ = of_bits binary64 0x3eb0_c6f7_a0b5_ed8d

-- μ₀ / 4π
abbrev pub 10⁻⁷ : Float
10⁻⁷ = of_bits binary64 0x3e7a_d7f2_9abc_af48

abbrev pub 10⁻¹² : Float
10⁻¹² = of_bits binary64 0x3d71_9799_812d_ea11

abbrev pub 10⁻¹³ : Float
10⁻¹³ = of_bits binary64 0x3d3c_25c2_6849_7682

abbrev pub 10⁻¹⁴ : Float
10⁻¹⁴ = of_bits binary64 0x3d06_849b_86a1_2b9b

abbrev pub 10⁻¹⁵ : Float
10⁻¹⁵ = of_bits binary64 0x3cd2_03af_9ee7_5616

-- f64::EPSILON, 2 ^ -52: the distance from 1 to the next double
abbrev pub ε : Float
ε = of_bits binary64 0x3cb0_0000_0000_0000

abbrev pub +∞ : Float
+∞ = of_bits binary64 0x7ff0_0000_0000_0000

-- π, π/2 and ln 2: the bits that the reference build prints of the Rust's constants. That they are the doubles nearest these numbers is assumed and not shown.
abbrev pub π : Float
π = of_bits binary64 0x4009_21fb_5444_2d18

abbrev pub π/2 : Float
π/2 = of_bits binary64 0x3ff9_21fb_5444_2d18

abbrev pub LN2 : Float
LN2 = of_bits binary64 0x3fe6_2e42_fefa_39ef
