-- What the code says of a field and of a number in it. A reader of `read_obj`'s definition does not need it. Definitions only.
use Rattle.std.specs.Prelude.{◌≡◌, Bool, true, false, ◌&&◌, List, ◌∷◌, ◌++◌, ℕ, ◌%◌, ◌^◌, length, leb, Option, None, Some, is_some}
use Rattle.refusals.specs.declared.Refusal.TheVariants.{WrongLine, TooManyDigits}
use Rattle.refusals.specs.Causes.{Cause, or_else, unless}
use Rattle.obj.specs.Text.{point, split, fields, is_filled}
use Rattle.obj.specs.Decimal.{one_or_two, length_of_second, is_number, is_index, has_minus, digits_of, max_digits, whole_of, places}
use Rattle.obj_lines.specs.declared.decimal.Decimal.{Decimal}

-- the first field of the text t is f, and r is what follows it
pub record IsFirstField (t f r : List ℕ) : Type 0 where
  pub filled : is_filled f ≡ true
  pub fields : fields t ≡ f ∷ fields r

-- the text t is f and r around its first point
pub record StandsAround (t f r : List ℕ) : Type 0 where
  pub pieces : split point t ≡ f ∷ split point r
  pub whole : t ≡ f ++ point ∷ r

-- n is how the digits of s are kept: their whole number modulo 2^64, and how many they are
pub record KeepsDigits (s : List ℕ) (n : Decimal) : Type 0 where
  pub whole : n.whole ≡ whole_of (digits_of s) % 2 ^ 64
  pub digits : n.digits ≡ length (digits_of s)

-- n is read from the number s
pub record IsNumber (s : List ℕ) (n : Decimal) : Type 0 where
  pub right : is_number s ≡ true
  pub counts : KeepsDigits s n
  pub negative : n.negative ≡ has_minus s
  pub places : n.places ≡ places s

-- n is read from the index s
pub record IsIndex (s : List ℕ) (n : Decimal) : Type 0 where
  pub right : is_index s ≡ true
  pub counts : KeepsDigits s n

-- the same of a number without its minus
pub record IsUnsigned (s : List ℕ) (n : Decimal) : Type 0 where
  pub right : one_or_two (split point s) ≡ true
  pub counts : KeepsDigits s n
  pub places : n.places ≡ length_of_second (split point s)

-- of three fields as they were read: 21 where one was not of its form, else 22 where one has too many digits
abbrev pub is_few : Option Decimal → Bool
is_few None = false
is_few (Some n) = leb n.digits max_digits

unfoldable pub readings_cause : Option Decimal → Option Decimal → Option Decimal → Cause
readings_cause x y z = or_else (unless (is_some x && is_some y && is_some z) WrongLine) (unless (is_few x && is_few y && is_few z) TooManyDigits)
