-- What the walks over a text's lines find, and what they ask. `t` is the text. A reader of `read_obj`'s definition does not need it. Definitions only.
use Rattle.std.specs.Prelude.{◌≡◌, Bool, ◌&&◌, List, [], ◌∷◌, ◌++◌, ℕ, ◌+◌, ◌*◌, ◌^◌, ◌≤◌, max, length, take, drop, Float, Ok}
use Rattle.std.specs.List.{list_all}
use Rattle.doubles.specs.Magnitude.{within_limits}
use Rattle.lists.specs.Count.{Below}
use Rattle.obj.specs.Reader.{text_cause, vertices_of, faces_of}
use Rattle.obj.specs.Line.{coordinates_of, corners_of}
use Rattle.obj.specs.declared.Line.{Line}
use Rattle.obj_reader.specs.declared.contents.Contents.{Contents}

abbrev pub all_within : List Float → Bool
all_within v = list_all within_limits v

abbrev pub largest_of : List ℕ → ℕ
largest_of [] = 0
largest_of (x ∷ l) = max x (largest_of l)

-- r is what s is with the line l
pub record Adds (s : Contents) (l : Line) (r : Contents) : Type 0 where
  pub vertices : 3 * r.vertices ≡ 3 * s.vertices + length (coordinates_of l)
  pub faces : 3 * r.faces ≡ 3 * s.faces + length (corners_of l)
  pub within : r.within ≡ (s.within && all_within (coordinates_of l))
  pub largest : r.largest ≡ max s.largest (largest_of (corners_of l))
  pub few : r.vertices + r.faces ≤ s.vertices + s.faces + 1

-- no line of the text is refused, and s is what it has
pub record Surveys (t : List ℕ) (s : Contents) : Type 0 where
  pub free : text_cause t ≡ Ok tt
  pub vertices : length (vertices_of t) ≡ 3 * s.vertices
  pub faces : length (faces_of t) ≡ 3 * s.faces
  pub within : all_within (vertices_of t) ≡ s.within
  pub largest : largest_of (faces_of t) ≡ s.largest

-- the entries from `at` on, in place of as many of l
abbrev pub puts : {A : Type 0} → List A → ℕ → List A → List A
puts l at new = take at l ++ new ++ drop (at + length new) l

-- no line is refused, the lists have room, and every vertex number fits
pub record Storable (t : List ℕ) (n m : ℕ) : Type 0 where
  pub free : text_cause t ≡ Ok tt
  pub verts : length (vertices_of t) ≤ n
  pub faces : length (faces_of t) ≤ m
  pub fits : Below (faces_of t) (2 ^ 32)
