-- A line of a letter and three fields, by what was read of them. States:
-- `number_form`, `index_form`: what was read of a field says whether it has the form, and whether its digits are few;
-- `vertex_other`, `face_other`: other than three fields; `vertex_cause`, `face_cause`: the cause of three; `vertex_holds`, `face_holds`: where there is none;
-- `few_given`: few digits; `least`: indices from 1 on.
-- Assumes nothing.
use Rattle.std.specs.Prelude.{◌≡◌, refl, Bool, true, false, ◌||◌, Option, None, Some, MatchOption, Ok, Err, List, [], ◌∷◌, ℕ, ◌-◌, ◌≤◌, leb, length, is_some, Float}
use Rattle.std.proofs.Common.{sym, ap, ◌∙◌, subst}
use Rattle.std.proofs.lemmas.Option.{MatchOption-at_some}
use Rattle.refusals.specs.declared.Refusal.TheVariants.{WrongLine, TooManyDigits}
use Rattle.refusals.specs.Causes.{Cause, or_else, unless}
use Rattle.obj.specs.Text.{letter_f, letter_v}
use Rattle.obj.specs.Decimal.{is_number, is_index, few_digits, max_digits, value_of, index_of}
use Rattle.obj.specs.Reader.{three, is_right, is_short, fields_cause, vertex_of, face_of}
use Rattle.obj.specs.Line.{Holds}
use Rattle.obj.specs.declared.Line as line
use Rattle.obj_lines.specs.declared.decimal.Decimal.{Decimal}
use Rattle.obj_lines.specs.Parts.{KeepsDigits, IsNumber, IsIndex, readings_cause}
use Rattle.obj_lines.proofs.Values.{index_value}
use Rattle.obj_lines.proofs.Three.{few}

-- ---- one field

-- o says whether the field s has the form, and, where it has, whether its digits are few
pub record Judges (form : List ℕ → Bool) (s : List ℕ) (o : Option Decimal) : Type 0 where
  pub right : is_some o ≡ form s
  pub short : (n : Decimal) → o ≡ Some n → leb n.digits max_digits ≡ few_digits s

few_counted : (s : List ℕ) (n : Decimal) → KeepsDigits s n → leb n.digits max_digits ≡ few_digits s
unfolding few_digits
few_counted s n c = ap (λ (k : ℕ). leb k max_digits) c.digits

judges : (form : List ℕ → Bool) (Is : List ℕ → Decimal → Type 0) → ((s : List ℕ) (n : Decimal) → Is s n → (form s ≡ true) × KeepsDigits s n)
    → (s : List ℕ) (o : Option Decimal) → MatchOption o (form s ≡ false) (Is s) → Judges form s o
judges form Is of s None h = record { right = sym h; short = λ n e. cc }
judges form Is of s (Some m) h = let w = of s m h in record { right = sym w.0; short = λ n e. few_counted s n (subst (KeepsDigits s) (let q : m ≡ n = cc in q) w.1) }

pub number_form : (s : List ℕ) (o : Option Decimal) → MatchOption o (is_number s ≡ false) (IsNumber s) → Judges is_number s o
number_form = judges is_number IsNumber (λ s n h. (h.right, h.counts))

pub index_form : (s : List ℕ) (o : Option Decimal) → MatchOption o (is_index s ≡ false) (IsIndex s) → Judges is_index s o
index_form = judges is_index IsIndex (λ s n h. (h.right, h.counts))

-- ---- three fields

abbrev three_cause : (List ℕ → Bool) → List (List ℕ) → Cause
three_cause form fs = or_else (unless (three form fs) WrongLine) (unless (three few_digits fs) TooManyDigits)

module _ (form : List ℕ → Bool) (s t u : List ℕ) where
  judged : (x y z : Option Decimal) → Judges form s x → Judges form t y → Judges form u z → three_cause form (s ∷ t ∷ u ∷ []) ≡ readings_cause x y z
  unfolding readings_cause
  judged None y z a b c = rw (sym a.right)
  judged (Some l) None z a b c = rw (sym a.right, sym b.right)
  judged (Some l) (Some m) None a b c = rw (sym a.right, sym b.right, sym c.right)
  judged (Some l) (Some m) (Some n) a b c = rw (sym a.right, sym b.right, sym c.right, a.short l refl, b.short m refl, c.short n refl)

other : (form : List ℕ → Bool) (fs : List (List ℕ)) → (length fs ≡ 3 → ⊥) → three_cause form fs ≡ Err WrongLine
other form [] h = refl
other form (a ∷ []) h = refl
other form (a ∷ b ∷ []) h = refl
other form (a ∷ b ∷ c ∷ []) h = absurd (h refl)
other form (a ∷ b ∷ c ∷ d ∷ fs) h = refl

-- ---- the letters

or_false : (b : Bool) → (b || false) ≡ b
or_false true = refl
or_false false = refl

pub vertex_three : (fs : List (List ℕ)) → fields_cause ((letter_v ∷ []) ∷ fs) ≡ three_cause is_number fs
unfolding fields_cause is_right is_short
vertex_three fs = ap (λ (b : Bool). or_else (unless b WrongLine) (unless (three few_digits fs) TooManyDigits)) (or_false (three is_number fs))

pub face_three : (fs : List (List ℕ)) → fields_cause ((letter_f ∷ []) ∷ fs) ≡ three_cause is_index fs
unfolding fields_cause is_right is_short
face_three fs = refl

pub vertex_other : (fs : List (List ℕ)) → (length fs ≡ 3 → ⊥) → fields_cause ((letter_v ∷ []) ∷ fs) ≡ Err WrongLine
vertex_other fs h = vertex_three fs ∙ other is_number fs h

pub face_other : (fs : List (List ℕ)) → (length fs ≡ 3 → ⊥) → fields_cause ((letter_f ∷ []) ∷ fs) ≡ Err WrongLine
face_other fs h = face_three fs ∙ other is_index fs h

-- what all_right gave for three readings
abbrev pub Given : Option Decimal → Option Decimal → Option Decimal → Decimal → Decimal → Decimal → Type 0
Given x y z p q r = (readings_cause x y z ≡ Ok tt) × (x ≡ Some p) × (y ≡ Some q) × (z ≡ Some r)

pub few_given : {x y z : Option Decimal} (p q r : Decimal) → Given x y z p q r → (p.digits ≤ max_digits) × (q.digits ≤ max_digits) × (r.digits ≤ max_digits)
few_given {x} {y} {z} p q r g = few p q r (rw (sym g.1, sym g.2, sym g.3) g.0)

module _ (fs : List (List ℕ)) (s t u : List ℕ) (are : fs ≡ s ∷ t ∷ u ∷ []) (x y z : Option Decimal) where
  -- ---- of numbers
  module _ (a : MatchOption x (is_number s ≡ false) (IsNumber s)) (b : MatchOption y (is_number t ≡ false) (IsNumber t)) (c : MatchOption z (is_number u ≡ false) (IsNumber u)) where
    pub vertex_cause : fields_cause ((letter_v ∷ []) ∷ fs) ≡ readings_cause x y z
    vertex_cause = vertex_three fs ∙ ap (three_cause is_number) are ∙ judged is_number s t u x y z (number_form s x a) (number_form t y b) (number_form u z c)

    pub vertex_holds : (p q r : Decimal) → Given x y z p q r → (i j k : Float) → ((s : List ℕ) → IsNumber s p → i ≡ value_of s) → ((s : List ℕ) → IsNumber s q → j ≡ value_of s)
        → ((s : List ℕ) → IsNumber s r → k ≡ value_of s) → Holds ((letter_v ∷ []) ∷ fs) (line.Line.Vertex i j k)
    unfolding vertex_of face_of
    vertex_holds p q r g i j k ei ej ek =
        let ip = ei s (MatchOption-at_some _ _ p g.1 a) in
        let jq = ej t (MatchOption-at_some _ _ q g.2 b) in
        let kr = ek u (MatchOption-at_some _ _ r g.3 c) in
        record { free = vertex_cause ∙ g.0; vertex = rw (ip, jq, kr, are); face = refl }

  -- ---- of indices
  module _ (a : MatchOption x (is_index s ≡ false) (IsIndex s)) (b : MatchOption y (is_index t ≡ false) (IsIndex t)) (c : MatchOption z (is_index u ≡ false) (IsIndex u)) where
    pub face_cause : fields_cause ((letter_f ∷ []) ∷ fs) ≡ readings_cause x y z
    face_cause = face_three fs ∙ ap (three_cause is_index) are ∙ judged is_index s t u x y z (index_form s x a) (index_form t y b) (index_form u z c)

    module _ (p q r : Decimal) (g : Given x y z p q r) where
      first : (1 ≤ p.whole) × (p.whole - 1 ≡ index_of s)
      first = index_value s p (MatchOption-at_some _ _ p g.1 a) (few_given p q r g).0

      second : (1 ≤ q.whole) × (q.whole - 1 ≡ index_of t)
      second = index_value t q (MatchOption-at_some _ _ q g.2 b) (few_given p q r g).1

      third : (1 ≤ r.whole) × (r.whole - 1 ≡ index_of u)
      third = index_value u r (MatchOption-at_some _ _ r g.3 c) (few_given p q r g).2

      pub least : (1 ≤ p.whole) × (1 ≤ q.whole) × (1 ≤ r.whole)
      least = (first.0, second.0, third.0)

      pub face_holds : Holds ((letter_f ∷ []) ∷ fs) (line.Line.Face (p.whole - 1) (q.whole - 1) (r.whole - 1))
      unfolding vertex_of face_of
      face_holds = record { free = face_cause ∙ g.0; vertex = refl; face = rw (first.1, second.1, third.1, are) }
