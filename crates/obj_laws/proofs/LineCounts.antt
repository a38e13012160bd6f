-- How many lines of a text are vertices and faces. States: `counts_are_lines`: where no line has a cause of refusal, three coordinates are read of each line with the letter v and three
-- vertex numbers of each with the letter f, and nothing else. Assumes nothing.
use Rattle.std.specs.Prelude.{◌≡◌, refl, Bool, true, false, cond, List, [], ◌∷◌, map, ℕ, ◌*◌, length, Ok}
use Rattle.std.proofs.Common.{ap, ◌∙◌, ⊎_elim, arith, length-append, eqb-true}
use Rattle.std.proofs.lemmas.Bool.{false≢true, or_cases}
use Rattle.std.proofs.lemmas.List.{length-map}
use Rattle.std.proofs.lemmas.List.Sums.{sum_by-cons}
use Rattle.refusals.proofs.Causes.{both}
use Rattle.obj.specs.Text.{letter_f, letter_v, lines, fields}
use Rattle.obj.specs.Decimal.{is_number, is_index, value_of, index_of}
use Rattle.obj.specs.Reader.{is_letter, three, is_right, line_cause, vertex_of, face_of, first_cause, all_vertices, all_faces, text_cause, vertices_of, faces_of}
use Rattle.obj_laws.specs.Readable.{begins_with, lines_with, vertex_lines, face_lines}
use Rattle.obj_laws.proofs.FirstLine.{line_free}

-- ---- one line

letter_is : (c : ℕ) (k : List ℕ) → is_letter c k ≡ true → k ≡ c ∷ []
letter_is c [] e = absurd (false≢true e)
letter_is c (x ∷ []) e = ap (λ (y : ℕ). y ∷ []) (eqb-true x c e)
letter_is c (x ∷ y ∷ s) e = absurd (false≢true e)

three_length : (test : List ℕ → Bool) (fs : List (List ℕ)) → three test fs ≡ true → length fs ≡ 3
three_length test [] e = absurd (false≢true e)
three_length test (a ∷ []) e = absurd (false≢true e)
three_length test (a ∷ b ∷ []) e = absurd (false≢true e)
three_length test (a ∷ b ∷ c ∷ []) e = refl
three_length test (a ∷ b ∷ c ∷ d ∷ fs) e = absurd (false≢true e)

-- three values of a line whose letter is c, none of another
values_length : {A : Type 0} (c : ℕ) (k : List ℕ) (fs : List (List ℕ)) (value : List ℕ → A) → (k ≡ c ∷ [] → length fs ≡ 3)
    → length (cond (is_letter c k) (map value fs) []) ≡ 3 * cond (is_letter c k) 1 0
values_length {A} c k fs value h = go (is_letter c k) refl
  where
    go : (b : Bool) → is_letter c k ≡ b → length (cond b (map value fs) []) ≡ 3 * cond b 1 0
    go true q = length-map fs value ∙ h (letter_is c k q)
    go false q = refl

vertex_length : (fs : List (List ℕ)) → is_right fs ≡ true → length (vertex_of fs) ≡ 3 * cond (begins_with letter_v fs) 1 0
unfolding is_right vertex_of
vertex_length [] e = refl
vertex_length (k ∷ fs) e =
    values_length letter_v k fs value_of (λ q. three_length is_number fs (⊎_elim (λ t. t) (λ f. absurd (false≢true f)) (or_cases (three is_number fs) false (rw q at e))))

face_length : (fs : List (List ℕ)) → is_right fs ≡ true → length (face_of fs) ≡ 3 * cond (begins_with letter_f fs) 1 0
unfolding is_right face_of
face_length [] e = refl
face_length (k ∷ fs) e = values_length letter_f k fs index_of (λ q. three_length is_index fs (rw q at e))

-- ---- all lines

both_lengths : (ls : List (List ℕ)) → first_cause ls ≡ Ok tt → (length (all_vertices ls) ≡ 3 * lines_with letter_v ls) × (length (all_faces ls) ≡ 3 * lines_with letter_f ls)
unfolding first_cause all_vertices all_faces
both_lengths [] e = (refl, refl)
both_lengths (l ∷ ls) e =
    let w = both (line_cause l) (first_cause ls) e in
    let right = ((line_free l).0 w.0).0 in
    let rest = both_lengths ls w.1 in
    let a = vertex_length (fields l) right in
    let b = face_length (fields l) right in (
      omega (arith, length-append (vertex_of (fields l)) (all_vertices ls), sum_by-cons (λ k. cond (begins_with letter_v (fields k)) 1 0) l ls),
      omega (arith, length-append (face_of (fields l)) (all_faces ls), sum_by-cons (λ k. cond (begins_with letter_f (fields k)) 1 0) l ls),
    )

pub counts_are_lines : (t : List ℕ) → text_cause t ≡ Ok tt → (length (vertices_of t) ≡ 3 * vertex_lines t) × (length (faces_of t) ≡ 3 * face_lines t)
counts_are_lines t e = both_lengths (lines t) e
