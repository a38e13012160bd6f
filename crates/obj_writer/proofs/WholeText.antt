-- The whole text. States: `text_lines`: it is the lines of the vertices and then those of the faces; `refused`, `too_short`, `text_written`: what `write_obj` answers, and what it leaves of the lent text,
-- return by return. Assumes nothing.
use Rattle.std.proofs.Common.{◌≡◌, ℕ, ◌+◌, ◌*◌, ◌<◌, ◌≤◌, List, [], ◌∷◌, ◌++◌, Ok, Err, length, get_or, take, drop, sym, ap, ap₂, ◌∙◌, append-nil, arith, le-leb}
use Rattle.std.proofs.lemmas.Bool.{lt-leb}
use Rattle.std.proofs.lemmas.List.{drop_more}
use Rattle.std.specs.Float.{Float, nan}
use Rattle.refusals.specs.declared.Refusal.{Refusal}
use Rattle.refusals.specs.declared.Refusal.TheVariants.{TooShort}
use Rattle.mesh.specs.Surface.{vertex_count, face_count}
use Rattle.obj.specs.Text.{letter_f, letter_v}
use Rattle.obj.specs.Writer.{numeral, coordinate, line_of, vertex_line, face_line, text_of, text_too_short, given_cause, writer_cause, write_obj, text_after}
use Rattle.obj_writer.specs.Lines.{line_text, line_at, lines_text}
use Rattle.obj_writer.proofs.WrittenLines.{written_same}

-- ---- lines of three

take_three : {A : Type 0} (s : List A) (i : ℕ) (d : A) → i + 2 < length s → take 3 (drop i s) ≡ get_or s i d ∷ get_or s (i + 1) d ∷ get_or s (i + 2) d ∷ []
take_three s i d h =
    let e : i + 1 + 1 ≡ i + 2 = omega arith in
    rw (drop_more s i d (omega arith), drop_more s (i + 1) d (omega arith), drop_more s (i + 1 + 1) d (omega arith), e)

three_text : {A : Type 0} (letter : ℕ) (text : A → List ℕ) (a b c : A) → line_text letter text (a ∷ b ∷ c ∷ []) ≡ line_of letter (text a) (text b) (text c)
three_text letter text a b c = rw append-nil

line_is : {A : Type 0} (letter : ℕ) (text : A → List ℕ) (s : List A) (d : A) (k : ℕ) → 3 * k + 2 < length s
    → line_at letter text s k ≡ line_of letter (text (get_or s (3 * k) d)) (text (get_or s (3 * k + 1) d)) (text (get_or s (3 * k + 2) d))
line_is letter text s d k h = ap (line_text letter text) (take_three s (3 * k) d h) ∙ three_text letter text _ _ _

module _ (v : List Float) (f : List ℕ) where
  pub text_lines : text_of v f ≡ lines_text letter_v coordinate v ++ lines_text letter_f (λ c. numeral (c + 1)) f
  unfolding text_of vertex_line face_line
  text_lines =
      sym (ap₂ ◌++◌ (written_same (vertex_count v) _ (vertex_line v) (λ k l. line_is letter_v coordinate v nan k (omega arith)))
      (written_same (face_count f) _ (face_line f) (λ k l. line_is letter_f (λ c. numeral (c + 1)) f 0 k (omega arith))))

  -- ---- what is answered, and what is left of the text s

  module _ (s : List ℕ) where
    refusal : {r : Refusal} → writer_cause v f (length s) ≡ Err r → (Err r ≡ write_obj v f (length s)) × (s ≡ text_after v f s)
    unfolding write_obj
    refusal h = (rw h, rw h)

    pub refused : {r : Refusal} → given_cause v f ≡ Err r → (Err r ≡ write_obj v f (length s)) × (s ≡ text_after v f s)
    unfolding writer_cause
    refused h = refusal (rw h)

    pub too_short : given_cause v f ≡ Ok tt → length s < length (text_of v f) → (Err TooShort ≡ write_obj v f (length s)) × (s ≡ text_after v f s)
    unfolding writer_cause text_too_short
    too_short h l = refusal (rw (h, lt-leb (length (text_of v f)) (length s) l))

    pub text_written : {n : ℕ} {p : List ℕ} → given_cause v f ≡ Ok tt → n ≡ length (text_of v f) → n ≤ length s → p ≡ text_of v f ++ drop (length (text_of v f)) s
        → (Ok n ≡ write_obj v f (length s)) × (p ≡ text_after v f s)
    unfolding write_obj writer_cause text_too_short
    text_written h e l w =
        let room : length (text_of v f) ≤ length s = omega arith in
        (rw (h, le-leb (length (text_of v f)) (length s) room, e), rw (h, le-leb (length (text_of v f)) (length s) room) w)
