-- The lines of a text, one after the other. States: `all_lines`: a loop over `text.split` takes them in order; `next_line`, `bad_line`: what the lines left say, by the next;
-- `no_cause`, `no_vertices`, `no_faces`: where none is left.
-- Assumes nothing.
use Rattle.std.specs.Prelude.{◌≡◌, refl, Bool, false, eqb, List, [], ◌∷◌, ◌++◌, ℕ, ◌+◌, ◌≤◌, ◌<◌, length, get_or, drop, Float, Ok, Err}
use Rattle.std.proofs.Common.{sym, ap, ◌∙◌}
use Rattle.std.proofs.lemmas.List.{drop_more, drop_all}
use Rattle.std.proofs.lemmas.Iterator.{YieldsList}
use Rattle.std.proofs.lemmas.Iterator.Splits.{YieldsList-from_slice_split}
use Rattle.std.specs.Slice.Iter.{split_rest, split_done, split_callee, split_steps}
use Rattle.std.specs.declared.slice.Split.{Split}
use Rattle.std.specs.Fn.{CalledAt}
use denote.Param.Members.{Mut}
use denote.Ref.{Bor}
use Rattle.refusals.specs.declared.Refusal.{Refusal}
use Rattle.obj.specs.Text.{newline, split, lines, fields}
use Rattle.obj.specs.Reader.{line_cause, first_cause, all_vertices, all_faces}
use Rattle.obj.specs.Line.{Holds, coordinates_of, corners_of}
use Rattle.obj.specs.declared.Line.{Line}

-- what `text.split` gives, where its closure looks for a newline
pub all_lines : {F : Type 0} {s i : Split ℕ F} (g : Mut F (Bor ℕ × Unit {0}) Bool) (t : List ℕ) → i ≡ s → split_rest s ≡ t → split_done s ≡ false
    → ((x : ℕ) (b : Bool) (q : F) → CalledAt g (split_callee i) x b q → (q ≡ split_callee i) × (b ≡ eqb x newline))
    → YieldsList (split_steps g) (λ x. x.now) i (lines t)
unfolding split
all_lines g t e rest done calls = YieldsList-from_slice_split g (λ x. eqb x newline) t (ap split_rest e ∙ rest) (ap split_done e ∙ done) refl calls

-- the lines left, where `bytes` is the next and holds the line
pub record NextLine (ls : List (List ℕ)) (i : ℕ) (line : Line) : Type 0 where
  pub cause : first_cause (drop i ls) ≡ first_cause (drop (i + 1) ls)
  pub vertices : all_vertices (drop i ls) ≡ coordinates_of line ++ all_vertices (drop (i + 1) ls)
  pub faces : all_faces (drop i ls) ≡ corners_of line ++ all_faces (drop (i + 1) ls)

module _ (ls : List (List ℕ)) (i : ℕ) (bytes : List ℕ) (turn : (i < length ls) × (bytes ≡ get_or ls i bytes)) where
  left : drop i ls ≡ bytes ∷ drop (i + 1) ls
  left = drop_more ls i bytes turn.0 ∙ ap (λ (l : List ℕ). l ∷ drop (i + 1) ls) (sym turn.1)

  pub next_line : (line : Line) → Holds (fields bytes) line → NextLine ls i line
  unfolding first_cause all_vertices all_faces
  next_line line h = record {
    cause = ap first_cause left ∙ rw h.free;
    vertices = ap all_vertices left ∙ ap (λ (v : List Float). v ++ all_vertices (drop (i + 1) ls)) (sym h.vertex);
    faces = ap all_faces left ∙ ap (λ (f : List ℕ). f ++ all_faces (drop (i + 1) ls)) (sym h.face);
  }

  pub bad_line : (r : Refusal) → line_cause bytes ≡ Err r → first_cause (drop i ls) ≡ Err r
  unfolding first_cause
  bad_line r h = ap first_cause left ∙ rw h

-- where none is left
module _ (ls : List (List ℕ)) (i : ℕ) (end : length ls ≤ i) where
  pub no_cause : first_cause (drop i ls) ≡ Ok tt
  unfolding first_cause
  no_cause = ap first_cause (drop_all i ls end)

  pub no_vertices : all_vertices (drop i ls) ≡ []
  unfolding all_vertices
  no_vertices = ap all_vertices (drop_all i ls end)

  pub no_faces : all_faces (drop i ls) ≡ []
  unfolding all_faces
  no_faces = ap all_faces (drop_all i ls end)

-- lines of which none is refused
pub none_refused : (ls : List (List ℕ)) (r : Refusal) → first_cause ls ≡ Ok tt → first_cause ls ≡ Err r → ⊥
none_refused ls r e f = cc

-- ---- a line that is none of the two

pub no_corners : (line : Line) → ((a b c : ℕ) → line ≡ Line.Face a b c → ⊥) → corners_of line ≡ []
no_corners Line.Nothing h = refl
no_corners (Line.Vertex x y z) h = refl
no_corners (Line.Face a b c) h = absurd (h a b c refl)
