-- One line as it is written. States: `says_vertex`: the line of a vertex is right, and gives the vertex's three coordinates; `says_face`: likewise of a face, its three vertex numbers; `empty_line`:
-- the empty line gives nothing. Assumes nothing.
use Rattle.std.specs.Prelude.{◌≡◌, Bool, true, not, List, [], ◌∷◌, ◌++◌, ℕ, ◌<◌, eqb, length, Float}
use Rattle.std.proofs.Math.Path.{refl}
use Rattle.std.proofs.Common.{ap, ◌∙◌, arith}
use Rattle.std.proofs.lemmas.List.Folds.{list_all-append}
use Rattle.std.specs.Prelude.{Ok}
use Rattle.obj.specs.Text.{newline, space, letter_f, letter_v, fields}
use Rattle.obj.specs.Decimal.{is_number, is_index, value_of, index_of}
use Rattle.obj.specs.Reader.{is_right, is_short, fields_cause, line_cause, vertex_of, face_of}
use Rattle.obj.specs.Writer.{line_of}
use Rattle.obj.proofs.Pieces.{lacks, fields_none, fields_one, fields_last}
use Rattle.obj_round_trip.specs.Numbers.{Written}

-- ---- fields that are not empty

first_field : (s rest : List ℕ) → 0 < length s → lacks space s ≡ true → fields (s ++ space ∷ rest) ≡ s ∷ fields rest
first_field [] rest l h = absurd (omega arith)
first_field (x ∷ s) rest l h = fields_one x s rest h

last_field : (s : List ℕ) → 0 < length s → lacks space s ≡ true → fields s ≡ s ∷ []
last_field [] l h = absurd (omega arith)
last_field (x ∷ s) l h = fields_last x s h

lacks_append : (b : ℕ) (s t : List ℕ) → lacks b s ≡ true → lacks b t ≡ true → lacks b (s ++ t) ≡ true
lacks_append b s t h k = list_all-append (λ x. not (eqb x b)) s t ∙ rw (h, k)

-- ---- a letter and three texts

module _ {A : Type 0} {form : List ℕ → Bool} {meaning : List ℕ → A} {a b c : List ℕ} {x y z : A} (p : Written form meaning a x) (q : Written form meaning b y) (r : Written form meaning c z) where
  line_fields : (letter : ℕ) → lacks space (letter ∷ []) ≡ true → fields (line_of letter a b c) ≡ (letter ∷ []) ∷ a ∷ b ∷ c ∷ []
  line_fields letter h =
      fields_one letter [] (a ++ space ∷ (b ++ space ∷ c)) h
      ∙ ap (λ (fs : List (List ℕ)). (letter ∷ []) ∷ fs)
      (first_field a (b ++ space ∷ c) p.filled p.no_space
      ∙ ap (λ (fs : List (List ℕ)). a ∷ fs) (first_field b c q.filled q.no_space ∙ ap (λ (fs : List (List ℕ)). b ∷ fs) (last_field c r.filled r.no_space)))

  line_newline : (letter : ℕ) → lacks newline (letter ∷ []) ≡ true → lacks newline (line_of letter a b c) ≡ true
  line_newline letter h =
      lacks_append newline (letter ∷ []) (space ∷ (a ++ space ∷ (b ++ space ∷ c))) h
      (lacks_append newline a (space ∷ (b ++ space ∷ c)) p.no_newline (lacks_append newline b (space ∷ c) q.no_newline r.no_newline))

-- ---- what a line says

-- the line l is right, and gives the coordinates xs and the vertex numbers ns
pub record Says (l : List ℕ) (xs : List Float) (ns : List ℕ) : Type 0 where
  pub no_newline : lacks newline l ≡ true
  pub no_cause : line_cause l ≡ Ok tt
  pub coordinates : vertex_of (fields l) ≡ xs
  pub corners : face_of (fields l) ≡ ns

pub empty_line : Says [] [] []
unfolding fields_cause is_right is_short vertex_of face_of
empty_line = record { no_newline = refl; no_cause = rw fields_none; coordinates = rw fields_none; corners = rw fields_none }

module _ {a b c : List ℕ} where
  pub says_vertex : {x y z : Float} → Written is_number value_of a x → Written is_number value_of b y → Written is_number value_of c z → Says (line_of letter_v a b c) (x ∷ y ∷ z ∷ []) []
  unfolding fields_cause is_right is_short vertex_of face_of
  says_vertex p q r =
      let e = line_fields p q r letter_v refl in
      record {
        no_newline = line_newline p q r letter_v refl;
        no_cause = rw (e, p.right, q.right, r.right, p.short, q.short, r.short);
        coordinates = rw (e, p.means, q.means, r.means);
        corners = rw e;
      }

  pub says_face : {x y z : ℕ} → Written is_index index_of a x → Written is_index index_of b y → Written is_index index_of c z → Says (line_of letter_f a b c) [] (x ∷ y ∷ z ∷ [])
  unfolding fields_cause is_right is_short vertex_of face_of
  says_face p q r =
      let e = line_fields p q r letter_f refl in
      record {
        no_newline = line_newline p q r letter_f refl;
        no_cause = rw (e, p.right, q.right, r.right, p.short, q.short, r.short);
        coordinates = rw e;
        corners = rw (e, p.means, q.means, r.means);
      }
