-- What `read_obj` answers, and what the lent lists hold afterwards. `t` is the text; `n` and `m` are the lengths of the lent lists of vertices and of faces. Each cause of refusal carries its
-- number in documents 01 and 02. Definitions only.
use Rattle.std.specs.Prelude.{Ok, Err, Bool, true, false, ◌&&◌, ◌||◌, cond, List, [], ◌∷◌, ◌++◌, map, ℕ, eqb, leb, Float, length, drop}
use Rattle.refusals.specs.declared.Refusal.TheVariants.{WrongLine, TooManyDigits, TooShort}
use Rattle.refusals.specs.Causes.{Cause, or_else, unless}
use Rattle.refusals.specs.Answer.{Answer, or_answer}
use Rattle.mesh.specs.Check.{too_many, out_of_limits, no_such_vertex}
use Rattle.mesh.specs.Surface.{vertex_count, face_count}
use Rattle.obj.specs.Text.{hash, letter_f, letter_v, lines, fields}
use Rattle.obj.specs.Decimal.{is_number, is_index, few_digits, value_of, index_of}
use Rattle.obj.specs.declared.Counts.{Counts}

-- ---- one line, by its fields

-- a field that begins with #
abbrev pub is_comment : List ℕ → Bool
is_comment [] = false
is_comment (c ∷ s) = eqb c hash

-- a field that is the one byte c
abbrev pub is_letter : ℕ → List ℕ → Bool
is_letter c [] = false
is_letter c (x ∷ []) = eqb x c
is_letter c (x ∷ y ∷ s) = false

-- exactly three fields, and each passes the test
abbrev pub three : (List ℕ → Bool) → List (List ℕ) → Bool
three test [] = false
three test (a ∷ []) = false
three test (a ∷ b ∷ []) = false
three test (a ∷ b ∷ c ∷ []) = test a && test b && test c
three test (a ∷ b ∷ c ∷ d ∷ fs) = false

-- a right line: no field; or a first field that begins with #, whatever follows; or v and three numbers; or f and three indices. How many digits there are plays no part in this
unfoldable pub is_right : List (List ℕ) → Bool
is_right [] = true
is_right (k ∷ fs) = is_comment k || ((is_letter letter_v k && three is_number fs) || (is_letter letter_f k && three is_index fs))

-- none of a right line's numbers or indices has more than 15 digits
unfoldable pub is_short : List (List ℕ) → Bool
is_short [] = true
is_short (k ∷ fs) = is_comment k || three few_digits fs

-- 21: not a right line; else 22: too many digits
unfoldable pub fields_cause : List (List ℕ) → Cause
fields_cause fs = or_else (unless (is_right fs) WrongLine) (unless (is_short fs) TooManyDigits)

abbrev pub line_cause : List ℕ → Cause
line_cause l = fields_cause (fields l)

-- the coordinates of a vertex's line; none of another
unfoldable pub vertex_of : List (List ℕ) → List Float
vertex_of [] = []
vertex_of (k ∷ fs) = cond (is_letter letter_v k) (map value_of fs) []

-- the vertex numbers, counted from 0, of a face's line; none of another
unfoldable pub face_of : List (List ℕ) → List ℕ
face_of [] = []
face_of (k ∷ fs) = cond (is_letter letter_f k) (map index_of fs) []

-- ---- all lines

-- the cause of the first line that has one
unfoldable pub first_cause : List (List ℕ) → Cause
first_cause [] = Ok tt
first_cause (l ∷ ls) = or_else (line_cause l) (first_cause ls)

unfoldable pub all_vertices : List (List ℕ) → List Float
all_vertices [] = []
all_vertices (l ∷ ls) = vertex_of (fields l) ++ all_vertices ls

unfoldable pub all_faces : List (List ℕ) → List ℕ
all_faces [] = []
all_faces (l ∷ ls) = face_of (fields l) ++ all_faces ls

-- 21 or 22, by the first bad line
abbrev pub text_cause : List ℕ → Cause
text_cause t = first_cause (lines t)

-- the coordinates of the v lines in order, 3V numbers
abbrev pub vertices_of : List ℕ → List Float
vertices_of t = all_vertices (lines t)

-- the vertex numbers of the f lines in order, 3F
abbrev pub faces_of : List ℕ → List ℕ
faces_of t = all_faces (lines t)

-- ---- the causes of refusal in order: 21 or 22, 2, 12, 3, 4

-- 12: the lent list of vertices has fewer than 3V entries, or that of faces fewer than 3F
unfoldable pub lists_too_short : List Float → List ℕ → ℕ → ℕ → Cause
lists_too_short v f n m = unless (leb (length v) n && leb (length f) m) TooShort

-- 2, 12, 3, 4 of the mesh that was read; f may stand before v in the text: an index is judged against all V
unfoldable pub read_cause : List Float → List ℕ → ℕ → ℕ → Cause
read_cause v f n m = or_else (too_many v f) (or_else (lists_too_short v f n m) (or_else (out_of_limits v) (no_such_vertex (vertex_count v) f)))

unfoldable pub reader_cause : List ℕ → ℕ → ℕ → Cause
reader_cause t n m = or_else (text_cause t) (read_cause (vertices_of t) (faces_of t) n m)

-- ---- the answer, and the lent lists

-- V and F
unfoldable pub read_obj : List ℕ → ℕ → ℕ → Answer Counts
read_obj t n m = or_answer (reader_cause t n m) (Ok (record { vertices = vertex_count (vertices_of t); faces = face_count (faces_of t) }))

-- a lent list, which was l: it begins with the numbers read, and stays as it was past them; after a refusal all of it stays
abbrev pub list_after : {A : Type 0} → Cause → List A → List A → List A
list_after (Ok _) read l = read ++ drop (length read) l
list_after (Err r) read l = l
