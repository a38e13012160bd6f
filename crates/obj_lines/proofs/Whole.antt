-- A line by its first field. States:
-- `blank`: no field; `comment`: one that begins with #; `long`, `another`: no letter of a vertex or a face; `says_letter`: one of those.
-- Assumes nothing.
use Rattle.std.specs.Prelude.{◌≡◌, refl, true, Err, Result, List, [], ◌∷◌, ℕ, ◌≤◌, ◌<◌, length, get_or}
use Rattle.std.proofs.Common.{sym, ap, ◌∙◌, subst, arith, ne_eqb}
use Rattle.refusals.specs.declared.Refusal.{Refusal}
use Rattle.refusals.specs.declared.Refusal.TheVariants.{WrongLine}
use Rattle.obj.specs.Text.{hash, letter_f, letter_v, is_filled, fields}
use Rattle.obj.specs.Reader.{is_right, is_short, fields_cause, vertex_of, face_of}
use Rattle.obj.specs.Line.{Holds, Says}
use Rattle.obj.specs.declared.Line.{Line}
use Rattle.obj_lines.specs.Parts.{IsFirstField}

pub blank : (fs : List (List ℕ)) → fs ≡ [] → Holds fs Line.Nothing
unfolding fields_cause is_right is_short vertex_of face_of
blank fs e = subst (λ (fs : List (List ℕ)). Holds fs Line.Nothing) (sym e) (record { free = refl; vertex = refl; face = refl })

module _ (t f r : List ℕ) (first : IsFirstField t f r) where
  pub comment : get_or f 0 0 ≡ hash → Holds (fields t) Line.Nothing
  unfolding fields_cause is_right is_short vertex_of face_of
  comment e = subst (λ (fs : List (List ℕ)). Holds fs Line.Nothing) (sym first.fields) (go f first.filled e)
    where
      go : (f : List ℕ) → is_filled f ≡ true → get_or f 0 0 ≡ hash → Holds (f ∷ fields r) Line.Nothing
      go [] h e = cc
      go (x ∷ []) h e = record { free = rw e; vertex = rw e; face = rw e }
      go (x ∷ y ∷ s) h e = record { free = rw e; vertex = refl; face = refl }

  -- no comment, and longer than a letter
  pub long : (get_or f 0 0 ≡ hash → ⊥) → 1 < length f → fields_cause (fields t) ≡ Err WrongLine
  unfolding fields_cause is_right
  long n l = ap fields_cause first.fields ∙ go f n l
    where
      go : (f : List ℕ) → (get_or f 0 0 ≡ hash → ⊥) → 1 < length f → fields_cause (f ∷ fields r) ≡ Err WrongLine
      go [] n l = absurd (omega arith)
      go (x ∷ []) n l = absurd (omega arith)
      go (x ∷ y ∷ s) n l = rw (ne_eqb x hash n)

  -- no comment, and another letter
  pub another : (get_or f 0 0 ≡ hash → ⊥) → (get_or f 0 0 ≡ letter_v → ⊥) → (get_or f 0 0 ≡ letter_f → ⊥) → length f ≤ 1 → fields_cause (fields t) ≡ Err WrongLine
  unfolding fields_cause is_right
  another n v w l = ap fields_cause first.fields ∙ go f first.filled n v w l
    where
      go : (f : List ℕ) → is_filled f ≡ true → (get_or f 0 0 ≡ hash → ⊥) → (get_or f 0 0 ≡ letter_v → ⊥) → (get_or f 0 0 ≡ letter_f → ⊥) → length f ≤ 1 → fields_cause (f ∷ fields r) ≡ Err WrongLine
      go [] h n v w l = cc
      go (x ∷ []) h n v w l = rw (ne_eqb x hash n, ne_eqb x letter_v v, ne_eqb x letter_f w)
      go (x ∷ y ∷ s) h n v w l = absurd (omega arith)

  -- the one byte c
  pub says_letter : (c : ℕ) (a : Result Line Refusal) → get_or f 0 0 ≡ c → length f ≤ 1 → Says ((c ∷ []) ∷ fields r) a → Says (fields t) a
  says_letter c a e l h = subst (λ (fs : List (List ℕ)). Says fs a) (sym (first.fields ∙ ap (λ (g : List ℕ). g ∷ fields r) (go f first.filled e l))) h
    where
      go : (f : List ℕ) → is_filled f ≡ true → get_or f 0 0 ≡ c → length f ≤ 1 → f ≡ c ∷ []
      go [] h e l = cc
      go (x ∷ []) h e l = ap (λ (b : ℕ). b ∷ []) e
      go (x ∷ y ∷ s) h e l = absurd (omega arith)
