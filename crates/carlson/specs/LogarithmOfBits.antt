-- ln from a bit pattern, as the code computes it; its proof shows that this is `ln`. Definitions only.
use Rattle.std.specs.Prelude.{ℕ, ◌+◌, ◌*◌, ◌/◌, ◌%◌, ◌^◌, cond, ltb, Float}
use Rattle.std.specs.Float.{binary64}
use Rattle.std.specs.Float.Ieee.{minus, of_int, of_bits}
use Rattle.carlson.specs.Logarithm.{ln_at}

-- b is the pattern of 2^h times the number, normal and above zero, and bias is 1023 + h
unfoldable pub ln_of_bits : (Float → Float → Float) → ℕ → ℕ → Float
ln_of_bits R_C b bias =
    cond (ltb (b % 2 ^ 52) (2 ^ 51)) (ln_at R_C (of_int binary64 (minus (b / 2 ^ 52) bias)) (of_bits binary64 (b % 2 ^ 52 + 1023 * 2 ^ 52)))
    (ln_at R_C (of_int binary64 (minus (b / 2 ^ 52 + 1) bias)) (of_bits binary64 (b % 2 ^ 52 + 1022 * 2 ^ 52)))
