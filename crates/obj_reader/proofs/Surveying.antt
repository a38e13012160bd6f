-- Laws of the first walk. States: `survey_start`, `survey_next`, `survey_end`: what is found and what is left make what the text has. Assumes nothing.
use Rattle.std.specs.Prelude.{◌≡◌, refl, Bool, true, false, ◌&&◌, List, [], ◌∷◌, ◌++◌, ℕ, ◌+◌, ◌*◌, ◌≤◌, max, length, drop, Float}
use Rattle.std.proofs.Common.{sym, ap, ◌∙◌, arith, length-append}
use Rattle.std.proofs.lemmas.List.Folds.{list_all-append}
use Rattle.doubles.specs.Magnitude.{within_limits}
use Rattle.obj.specs.Text.{lines}
use Rattle.obj.specs.Reader.{first_cause, all_vertices, all_faces, text_cause, vertices_of, faces_of}
use Rattle.obj.specs.Line.{coordinates_of, corners_of}
use Rattle.obj.specs.declared.Line.{Line}
use Rattle.obj_reader.specs.declared.contents.Contents.{Contents}
use Rattle.obj_reader.specs.Passes.{all_within, largest_of, Adds, Surveys}
use Rattle.obj_reader.proofs.Lines.{NextLine, no_cause, no_vertices, no_faces}

-- s is what the first i lines have
pub record SurveyUpto (t : List ℕ) (i : ℕ) (s : Contents) : Type 0 where
  pub cause : text_cause t ≡ first_cause (drop i (lines t))
  pub vertices : length (vertices_of t) ≡ 3 * s.vertices + length (all_vertices (drop i (lines t)))
  pub faces : length (faces_of t) ≡ 3 * s.faces + length (all_faces (drop i (lines t)))
  pub within : all_within (vertices_of t) ≡ (s.within && all_within (all_vertices (drop i (lines t))))
  pub largest : largest_of (faces_of t) ≡ max s.largest (largest_of (all_faces (drop i (lines t))))
  pub few : s.vertices + s.faces ≤ i

largest_append : (a b : List ℕ) → largest_of (a ++ b) ≡ max (largest_of a) (largest_of b)
largest_append [] b = omega arith
largest_append (x ∷ a) b = omega (arith, largest_append a b)

and_assoc : (a b c : Bool) → ((a && b) && c) ≡ (a && (b && c))
and_assoc true b c = refl
and_assoc false b c = refl

and_true : (b : Bool) → (b && true) ≡ b
and_true true = refl
and_true false = refl

pub survey_start : (t : List ℕ) → SurveyUpto t 0 (record { vertices = 0; faces = 0; within = true; largest = 0 })
survey_start t = record { cause = refl; vertices = omega arith; faces = omega arith; within = refl; largest = omega arith; few = omega arith }

pub survey_next : (t : List ℕ) (i : ℕ) (s r : Contents) (line : Line) → SurveyUpto t i s → NextLine (lines t) i line → Adds s line r → SurveyUpto t (i + 1) r
survey_next t i s r line u n a =
    let v = all_vertices (drop (i + 1) (lines t)) in
    let f = all_faces (drop (i + 1) (lines t)) in
    record {
      cause = u.cause ∙ n.cause;
      vertices = omega (arith, u.vertices, a.vertices, ap length n.vertices, length-append (coordinates_of line) v);
      faces = omega (arith, u.faces, a.faces, ap length n.faces, length-append (corners_of line) f);
      within =
          u.within
          ∙ ap (λ (x : List Float). s.within && all_within x) n.vertices
          ∙ ap (λ (b : Bool). s.within && b) (list_all-append within_limits (coordinates_of line) v)
          ∙ sym (and_assoc s.within (all_within (coordinates_of line)) (all_within v))
          ∙ ap (λ (b : Bool). b && all_within v) (sym a.within);
      largest = omega (arith, u.largest, a.largest, ap largest_of n.faces, largest_append (corners_of line) f);
      few = omega (arith, a.few, u.few);
    }

pub survey_end : (t : List ℕ) (i : ℕ) (s : Contents) → SurveyUpto t i s → length (lines t) ≤ i → Surveys t s
survey_end t i s u end =
    let v = no_vertices (lines t) i end in
    let f = no_faces (lines t) i end in
    record {
      free = u.cause ∙ no_cause (lines t) i end;
      vertices = u.vertices ∙ rw v (omega arith);
      faces = u.faces ∙ rw f (omega arith);
      within = u.within ∙ rw v (and_true s.within);
      largest = u.largest ∙ rw f (omega arith);
    }
