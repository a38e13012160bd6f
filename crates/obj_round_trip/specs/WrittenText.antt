-- The text of a mesh whose coordinates and vertex numbers are all written so that they read back. States: `text_right`: each of its lines is right; `text_vertices`, `text_faces`: what it gives.
-- Assumes nothing.
use Rattle.std.specs.Prelude.{◌≡◌, length, get_or}
use Rattle.std.proofs.Math.Path.{refl, ap}
use Rattle.std.proofs.Common.{sym, ◌∙◌, arith, take_all}
use mathlib.Core.List.{List, [], ◌∷◌, ◌++◌, append-nil}
use Prim.Native.Nat.{ℕ, ◌+◌, ◌*◌, ◌/◌, ◌%◌, ◌<◌}
use Rattle.std.proofs.Math.ListN.{take}
use Rattle.std.specs.Float.Ieee.{Float, nan}
use Rattle.std.specs.Prelude.{Ok}
use Rattle.mesh.specs.Surface.{vertex_count, face_count}
use Rattle.obj.specs.Text.{split, lines, fields}
use Rattle.obj.specs.Decimal.{is_number, is_index, value_of, index_of}
use Rattle.obj.specs.Reader.{vertex_of, face_of, first_cause, all_vertices, all_faces, text_cause, vertices_of, faces_of}
use Rattle.obj.specs.Writer.{numeral, coordinate, vertex_line, face_line, written, text_of}
use Rattle.obj.proofs.Pieces.{listed, lines_written}
use Rattle.obj_round_trip.specs.Numbers.{Written}
use Rattle.obj_round_trip.specs.WrittenLines.{Says, empty_line, says_vertex, says_face}
use Rattle.obj_round_trip.specs.AllLines.{causes_listed, nothing_listed, triples_listed, triple}

-- every coordinate of v, and every corner of f, is written so that it reads back
abbrev pub AllNumbers : List Float → Type 0
AllNumbers v = (i : ℕ) → i < length v → Written is_number value_of (coordinate (get_or v i nan)) (get_or v i nan)

abbrev pub AllCorners : List ℕ → Type 0
AllCorners f = (i : ℕ) → i < length f → Written is_index index_of (numeral (get_or f i 0 + 1)) (get_or f i 0)

-- ---- each line

vertex_says : (v : List Float) → AllNumbers v → (k : ℕ) → k < vertex_count v → Says (vertex_line v k) (triple v nan k) []
unfolding vertex_line
vertex_says v w k l = says_vertex (w (3 * k) (omega arith)) (w (3 * k + 1) (omega arith)) (w (3 * k + 2) (omega arith))

face_says : (f : List ℕ) → AllCorners f → (k : ℕ) → k < face_count f → Says (face_line f k) [] (triple f 0 k)
unfolding face_line
face_says f w k l = says_face (w (3 * k) (omega arith)) (w (3 * k + 1) (omega arith)) (w (3 * k + 2) (omega arith))

-- ---- all lines

-- the lines of the vertices, those of the faces, and the empty line after the last newline
abbrev all_lines : List Float → List ℕ → List (List ℕ)
all_lines v f = listed (vertex_count v) (vertex_line v) ++ (listed (face_count f) (face_line f) ++ [] ∷ [])

triples_all : {A : Type 0} (s : List A) → length s % 3 ≡ 0 → take (3 * (length s / 3)) s ++ [] ≡ s
triples_all s e = append-nil (take (3 * (length s / 3)) s) ∙ take_all (3 * (length s / 3)) s (omega arith)

module _ (v : List Float) (f : List ℕ) (a : AllNumbers v) (b : AllCorners f) where
  text_lines : lines (text_of v f) ≡ all_lines v f
  unfolding text_of split
  text_lines =
      lines_written (vertex_count v) (vertex_line v) (written (face_count f) (face_line f)) (λ k l. (vertex_says v a k l).no_newline)
      ∙ ap (λ (ls : List (List ℕ)). listed (vertex_count v) (vertex_line v) ++ ls)
      (ap lines (sym (append-nil (written (face_count f) (face_line f)))) ∙ lines_written (face_count f) (face_line f) [] (λ k l. (face_says f b k l).no_newline))

  pub text_right : text_cause (text_of v f) ≡ Ok tt
  unfolding first_cause
  text_right =
      ap first_cause text_lines
      ∙ causes_listed (vertex_count v) (vertex_line v) (listed (face_count f) (face_line f) ++ [] ∷ []) (λ k l. (vertex_says v a k l).no_cause)
      ∙ causes_listed (face_count f) (face_line f) ([] ∷ []) (λ k l. (face_says f b k l).no_cause)
      ∙ rw empty_line.no_cause

  pub text_vertices : length v % 3 ≡ 0 → vertices_of (text_of v f) ≡ v
  unfolding all_vertices
  text_vertices e =
      let of : List ℕ → List Float = λ l. vertex_of (fields l) in
      let one : (l : List ℕ) (ls : List (List ℕ)) → all_vertices (l ∷ ls) ≡ of l ++ all_vertices ls = λ l ls. refl in
      ap all_vertices text_lines
      ∙ triples_listed of all_vertices one v nan (vertex_count v) (vertex_line v) (listed (face_count f) (face_line f) ++ [] ∷ []) (omega arith) (λ k l. (vertex_says v a k l).coordinates)
      ∙ ap (λ (s : List Float). take (3 * vertex_count v) v ++ s)
      (nothing_listed of all_vertices one (face_count f) (face_line f) ([] ∷ []) (λ k l. (face_says f b k l).coordinates) ∙ rw empty_line.coordinates)
      ∙ triples_all v e

  pub text_faces : length f % 3 ≡ 0 → faces_of (text_of v f) ≡ f
  unfolding all_faces
  text_faces e =
      let of : List ℕ → List ℕ = λ l. face_of (fields l) in
      let one : (l : List ℕ) (ls : List (List ℕ)) → all_faces (l ∷ ls) ≡ of l ++ all_faces ls = λ l ls. refl in
      ap all_faces text_lines
      ∙ nothing_listed of all_faces one (vertex_count v) (vertex_line v) (listed (face_count f) (face_line f) ++ [] ∷ []) (λ k l. (vertex_says v a k l).corners)
      ∙ triples_listed of all_faces one f 0 (face_count f) (face_line f) ([] ∷ []) (omega arith) (λ k l. (face_says f b k l).corners)
      ∙ ap (λ (s : List ℕ). take (3 * face_count f) f ++ s) (let z : all_faces ([] ∷ []) ≡ [] = rw empty_line.corners in z)
      ∙ triples_all f e
