-- What a text is that `read_obj` reads, as plain statements: `Readable`. Definitions only.
use Rattle.std.specs.Prelude.{◌≡◌, Bool, true, false, List, [], ◌∷◌, ℕ, ◌*◌, ◌≤◌, ◌<◌, length, get_or, Float}
use Rattle.std.specs.List.{count_by}
use Rattle.std.specs.Float.{nan}
use Rattle.std.specs.Float.Ieee.Positive.{num, den}
use Rattle.std.specs.Float.Ieee.Scale.{finite}
use Rattle.mesh_orders.specs.Edges.{max_vertices, max_faces}
use Rattle.obj.specs.Text.{letter_f, letter_v, lines, fields}
use Rattle.obj.specs.Reader.{is_letter, is_right, is_short, vertices_of, faces_of}

-- ---- V and F

-- the first field is the one byte c
abbrev pub begins_with : ℕ → List (List ℕ) → Bool
begins_with c [] = false
begins_with c (k ∷ fs) = is_letter c k

-- how many of the lines have the letter c as their first field
abbrev pub lines_with : ℕ → List (List ℕ) → ℕ
lines_with c ls = count_by (λ l. begins_with c (fields l)) ls

abbrev pub vertex_lines : List ℕ → ℕ
vertex_lines t = lines_with letter_v (lines t)

abbrev pub face_lines : List ℕ → ℕ
face_lines t = lines_with letter_f (lines t)

-- ---- the numbers

-- the limit of document 01 on a number
abbrev pub largest : ℕ
largest = 1000000000

-- finite, and of magnitude, which is num / den, at most 10⁹
pub record InLimits (x : Float) : Type 0 where
  pub number : finite x ≡ true
  pub size : num x ≤ largest * den x

-- ---- what a text is that is read into lent lists of n and m entries

pub record Readable (t : List ℕ) (n m : ℕ) : Type 0 where
  -- 21: each line is blank, a comment, v and three numbers, or f and three indices
  pub right : (i : ℕ) → i < length (lines t) → is_right (fields (get_or (lines t) i [])) ≡ true
  -- 22: no number and no index has more than 15 digits
  pub digits : (i : ℕ) → i < length (lines t) → is_short (fields (get_or (lines t) i [])) ≡ true
  -- 2
  pub vertices : vertex_lines t ≤ max_vertices
  pub faces : face_lines t ≤ max_faces
  -- 12
  pub room_vertices : 3 * vertex_lines t ≤ n
  pub room_faces : 3 * face_lines t ≤ m
  -- 3: each coordinate is finite and of magnitude at most 10⁹
  pub values : (i : ℕ) → i < length (vertices_of t) → InLimits (get_or (vertices_of t) i nan)
  -- 4: each vertex number, which is one less than the text's index, is below V
  pub indices : (i : ℕ) → i < length (faces_of t) → get_or (faces_of t) i 0 < vertex_lines t
