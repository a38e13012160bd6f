-- States: `double_back`: the bits of a double fit eight bytes and give it back. Assumes nothing.
use Rattle.std.specs.Prelude.{◌≡◌, ◌<◌, ◌^◌, T, Float}
use Rattle.std.specs.Float.{binary64}
use Rattle.std.specs.Float.Ieee.{fits, to_bits, of_bits}
use lib.Ieee.Bits.{of_bits-to_bits, to_bits-lt}

pub double_back : (x : Float) → T (fits binary64 x) → (to_bits binary64 x < 256 ^ 8) × (of_bits binary64 (to_bits binary64 x) ≡ x)
double_back x h = (to_bits-lt binary64 x h, of_bits-to_bits binary64 x h)
