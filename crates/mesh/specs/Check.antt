-- What `check_mesh` answers, and what the lent work list holds afterwards. `v` is the vertex list, `f` the face list, `o` the order list and `n` the length of work.
-- Each cause of refusal carries its number in document 01. Definitions only.
use Rattle.std.specs.Prelude.{Bool, ◌&&◌, not, cond, List, [], ◌∷◌, ◌++◌, ℕ, ◌/◌, ◌%◌, length, get_or, drop, eqb, ltb, leb, Float, Ok, Err}
use Rattle.std.specs.Float.{nan}
use Rattle.std.specs.Float.Ieee.{lt}
use Rattle.doubles.specs.Constants.{0·0}
use Rattle.doubles.specs.Magnitude.{within_limits}
use Rattle.refusals.specs.declared.Refusal.{Refusal}
use Rattle.refusals.specs.declared.Refusal.TheVariants.{Malformed, TooMany, TooShort, OutOfLimits, NoSuchVertex, Flipped, Open, Degenerate, Inverted}
use Rattle.refusals.specs.Numbers.{number_of}
use Rattle.refusals.specs.Causes.{Cause, or_else, unless, first_of}
use Rattle.refusals.specs.Answer.{Answer, or_answer}
use Rattle.lists.specs.Count.{count}
use Rattle.mesh_orders.specs.Edges.{max_vertices, max_faces, from, to, occurrences}
use Rattle.mesh_orders.specs.Order.{order_list}
use Rattle.mesh.specs.Surface.{vertex_count, face_count, normal, is_zero, volume}

-- 1: a list's length is not a multiple of 3
unfoldable pub malformed : List Float → List ℕ → Cause
malformed v f = unless (eqb (length v % 3) 0 && eqb (length f % 3) 0) Malformed

-- 2: a count over its limit
unfoldable pub too_many : List Float → List ℕ → Cause
too_many v f = unless (leb (vertex_count v) max_vertices && leb (face_count f) max_faces) TooMany

-- 12: work is shorter than 3F
unfoldable pub too_short : List ℕ → ℕ → Cause
too_short f n = unless (leb (length f) n) TooShort

-- 3: a number that is not finite, or over 10⁹
abbrev pub in_limits : List Float → ℕ → Bool
in_limits v i = within_limits (get_or v i nan)

unfoldable pub out_of_limits : List Float → Cause
out_of_limits v = first_of (length v) (λ i. unless (in_limits v i) OutOfLimits)

-- 4: the face of the first corner that names no vertex
abbrev pub names_vertex : ℕ → List ℕ → ℕ → Bool
names_vertex vertices f i = ltb (get_or f i 0) vertices

unfoldable pub no_such_vertex : ℕ → List ℕ → Cause
no_such_vertex vertices f = first_of (length f) (λ i. unless (names_vertex vertices f i) (NoSuchVertex (i / 3)))

-- 5: the first edge in the order list that occurs twice
abbrev pub occurs_once : List ℕ → List ℕ → ℕ → Bool
occurs_once f o i = leb (occurrences f (from f (get_or o i 0)) (to f (get_or o i 0))) 1

abbrev pub flipped_at : List ℕ → List ℕ → ℕ → Refusal
flipped_at f o i = Flipped (from f (get_or o i 0)) (to f (get_or o i 0))

unfoldable pub flipped_edge : List ℕ → List ℕ → Cause
flipped_edge f o = first_of (length f) (λ i. unless (occurs_once f o i) (flipped_at f o i))

-- 6: the first edge in the order list whose reverse does not occur
abbrev pub reverse_occurs : List ℕ → List ℕ → ℕ → Bool
reverse_occurs f o i = leb 1 (occurrences f (to f (get_or o i 0)) (from f (get_or o i 0)))

abbrev pub open_at : List ℕ → List ℕ → ℕ → Refusal
open_at f o i = Open (from f (get_or o i 0)) (to f (get_or o i 0))

unfoldable pub open_edge : List ℕ → List ℕ → Cause
open_edge f o = first_of (length f) (λ i. unless (reverse_occurs f o i) (open_at f o i))

-- 7: the first face whose computed normal is zero
abbrev pub has_normal : List Float → List ℕ → ℕ → Bool
has_normal v f k = not (is_zero (normal v f k))

unfoldable pub degenerate_face : List Float → List ℕ → Cause
degenerate_face v f = first_of (face_count f) (λ k. unless (has_normal v f k) (Degenerate k))

-- 8: the computed volume is not above 0
unfoldable pub inverted : List Float → List ℕ → Cause
inverted v f = unless (lt 0·0 (volume v f)) Inverted

-- ---- the causes in document 01's order: 1, 2, 12, 3, 4, 5, 6, 7, 8

-- all of them. `mesh_cause` below is the first of this list that refuses (`causes_in_order` in CauseLaws), and its parts have names for callers that try the causes before them themselves
abbrev pub mesh_causes : List Float → List ℕ → ℕ → List Cause
mesh_causes v f n =
    malformed v f
    ∷ too_many v f
    ∷ too_short f n
    ∷ out_of_limits v
    ∷ no_such_vertex (vertex_count v) f
    ∷ flipped_edge f (order_list f)
    ∷ open_edge f (order_list f)
    ∷ degenerate_face v f
    ∷ inverted v f
    ∷ []

-- 1, 2, 12
unfoldable pub count_cause : List Float → List ℕ → ℕ → Cause
count_cause v f n = or_else (malformed v f) (or_else (too_many v f) (too_short f n))

-- 7, 8
unfoldable pub faces_cause : List Float → List ℕ → Cause
faces_cause v f = or_else (degenerate_face v f) (inverted v f)

-- 5, 6, then 7, 8; with the order list at hand
unfoldable pub order_cause : List Float → List ℕ → List ℕ → Cause
order_cause v f o = or_else (flipped_edge f o) (or_else (open_edge f o) (faces_cause v f))

-- 4, then 5 to 8
unfoldable pub surface_cause : List Float → List ℕ → Cause
surface_cause v f = or_else (no_such_vertex (vertex_count v) f) (order_cause v f (order_list f))

-- 1, 2, 12, then 3, then 4 to 8
unfoldable pub mesh_cause : List Float → List ℕ → ℕ → Cause
mesh_cause v f n = or_else (count_cause v f n) (or_else (out_of_limits v) (surface_cause v f))

-- ---- the answer

-- the answer, for a work list of n entries
unfoldable pub check_mesh : List Float → List ℕ → ℕ → Answer Float
check_mesh v f n = or_answer (mesh_cause v f n) (Ok (volume v f))

-- the refusal of a cause, or else the volume, of a mesh or a prism: what the inner functions return
abbrev pub solid_of : Cause → Float → Answer Float
solid_of c x = or_answer c (Ok x)

-- ---- the work list, a term of document 01: lent, for the order list

-- of the refusals that a call with a work list can give, 1 to 13, those that leave it as it was; after the others and after a success it starts with the order list (that of 10,
-- which is a prism's, is empty). No such call gives 14 to 20, and nothing is said of them here
unfoldable pub leaves_work : Refusal → Bool
leaves_work r = leb 1 (count (number_of r) (1 ∷ 2 ∷ 12 ∷ 3 ∷ 4 ∷ 9 ∷ []))

-- the entries of work, which were w; those past 3F never change
unfoldable pub work_after : Cause → List ℕ → List ℕ → List ℕ
work_after (Ok _) f w = order_list f ++ drop (length f) w
work_after (Err r) f w = cond (leaves_work r) w (order_list f ++ drop (length f) w)
