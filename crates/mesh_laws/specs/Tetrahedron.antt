-- Document 01's reference tetrahedron T. States: `reference`: what the definitions give for it and for its damaged forms, as one fact over a list. Assumes nothing.
use Rattle.std.specs.Prelude.{◌≡◌, refl, false, List, [], ◌∷◌, ℕ, negsuc, Float}
use Rattle.std.proofs.Math.Path.{ap}
use Rattle.std.proofs.Common.{ap₂, ◌∙◌}
use Rattle.std.specs.Float.{fin, binary64}
use Rattle.std.specs.Float.Ieee.{round, of_bits, add, sub, mul, div, le, lt, eq}
use Rattle.doubles.specs.Constants.{0·0, 1·0}
use Rattle.doubles.specs.Magnitude.{abs, within_limits}
use Rattle.refusals.specs.declared.Refusal.TheVariants.{Flipped, Open, Degenerate, Inverted}
use Rattle.std.specs.Prelude.{Ok, Err}
use Rattle.refusals.specs.Answer.{Answer, or_answer}
use Rattle.refusals.specs.Causes.{Cause}
use Rattle.refusals.specs.Causes.{first_of}
use Rattle.newtonian.specs.Vectors.{difference, dot, cross}
use Rattle.newtonian.specs.Fold.{Fold}
use Rattle.mesh_orders.specs.Edges.{occurrences, edge, reverse}
use Rattle.mesh_orders.specs.Order.{key, order_list}
use Rattle.mesh_orders.specs.Mates.{mate, mates}
use Rattle.mesh.specs.Surface.{normal, is_zero, face_volume, volume}
use Rattle.mesh.specs.Check.{malformed, too_many, too_short, out_of_limits, no_such_vertex, flipped_edge, open_edge, degenerate_face, inverted, count_cause, faces_cause, order_cause, surface_cause, mesh_cause, check_mesh}

-- (0,0,0), (1,0,0), (0,1,0), (0,0,1)
unfoldable pub verts : List Float
verts = 0·0 ∷ 0·0 ∷ 0·0 ∷ 1·0 ∷ 0·0 ∷ 0·0 ∷ 0·0 ∷ 1·0 ∷ 0·0 ∷ 0·0 ∷ 0·0 ∷ 1·0 ∷ []

-- the faces of T; corners two and three of each face exchanged; the last face dropped; the last face (1,3,2); the single face (0,0,1); no faces
abbrev pub T : List ℕ
T = 0 ∷ 2 ∷ 1 ∷ 0 ∷ 1 ∷ 3 ∷ 0 ∷ 3 ∷ 2 ∷ 1 ∷ 2 ∷ 3 ∷ []

abbrev pub exchanged : List ℕ
exchanged = 0 ∷ 1 ∷ 2 ∷ 0 ∷ 3 ∷ 1 ∷ 0 ∷ 2 ∷ 3 ∷ 1 ∷ 3 ∷ 2 ∷ []

abbrev pub dropped : List ℕ
dropped = 0 ∷ 2 ∷ 1 ∷ 0 ∷ 1 ∷ 3 ∷ 0 ∷ 3 ∷ 2 ∷ []

abbrev pub turned : List ℕ
turned = 0 ∷ 2 ∷ 1 ∷ 0 ∷ 1 ∷ 3 ∷ 0 ∷ 3 ∷ 2 ∷ 1 ∷ 3 ∷ 2 ∷ []

abbrev pub one_face : List ℕ
one_face = 0 ∷ 0 ∷ 1 ∷ []

-- what is asked: an answer of `check_mesh` with a work list of 12 entries, or a list of edge uses
pub data MeshAnswer : Type 0 where
  mesh : Answer Float → MeshAnswer
  uses : List ℕ → MeshAnswer

unfoldable pub mesh_questions : List MeshAnswer
mesh_questions =
    mesh (check_mesh verts T 12)
    ∷ mesh (check_mesh verts exchanged 12)
    ∷ uses (order_list T)
    ∷ uses (mates T)
    ∷ mesh (check_mesh verts dropped 12)
    ∷ mesh (check_mesh verts turned 12)
    ∷ mesh (check_mesh verts one_face 12)
    ∷ mesh (check_mesh verts [] 12)
    ∷ []

-- the volume of T is the double nearest 1/6
unfoldable pub mesh_answers : List MeshAnswer
mesh_answers =
    mesh (Ok (round binary64 false 1 6))
    ∷ mesh (Err Inverted)
    ∷ uses (3 ∷ 0 ∷ 6 ∷ 2 ∷ 9 ∷ 4 ∷ 8 ∷ 1 ∷ 10 ∷ 5 ∷ 11 ∷ 7 ∷ [])
    ∷ uses (8 ∷ 9 ∷ 3 ∷ 2 ∷ 11 ∷ 6 ∷ 5 ∷ 10 ∷ 0 ∷ 1 ∷ 7 ∷ 4 ∷ [])
    ∷ mesh (Err (Open 1 3))
    ∷ mesh (Err (Flipped 1 3))
    ∷ mesh (Err (Degenerate 0))
    ∷ mesh (Err Inverted)
    ∷ []

-- by the order list as numbers, so that it is computed once
through : (f o : List ℕ) (c : Cause) → order_list f ≡ o → mesh_cause verts f 12 ≡ order_cause verts f (order_list f) → order_cause verts f o ≡ c
    → check_mesh verts f 12 ≡ or_answer c (Ok (volume verts f))
unfolding check_mesh
through f o c e a b = ap (λ (d : Cause). or_answer d (Ok (volume verts f))) (a ∙ ap (order_cause verts f) e ∙ b)

-- 6004799503160661 · 2⁻⁵⁵ is the double nearest 1/6
sixth : fin false 6004799503160661 (negsuc 54) ≡ round binary64 false 1 6
unfolding round
sixth = refl

volume_T : volume verts T ≡ fin false 6004799503160661 (negsuc 54)
unfolding verts volume Fold face_volume normal difference dot cross of_bits add sub mul div round
volume_T = refl

answer_T : check_mesh verts T 12 ≡ Ok (round binary64 false 1 6)
answer_T =
    through T (3 ∷ 0 ∷ 6 ∷ 2 ∷ 9 ∷ 4 ∷ 8 ∷ 1 ∷ 10 ∷ 5 ∷ 11 ∷ 7 ∷ []) (Ok tt) (unfold order_list edge key in refl)
    (unfold verts mesh_cause count_cause surface_cause malformed too_many too_short out_of_limits no_such_vertex first_of within_limits abs of_bits le in refl)
    (unfold verts order_cause faces_cause flipped_edge open_edge degenerate_face inverted first_of occurrences volume Fold face_volume normal is_zero difference dot cross of_bits add sub mul div lt eq round in refl)
    ∙ ap {B = Answer Float} Ok (volume_T ∙ sixth)

answer-exchanged : check_mesh verts exchanged 12 ≡ Err Inverted
answer-exchanged =
    through exchanged (0 ∷ 6 ∷ 3 ∷ 5 ∷ 1 ∷ 9 ∷ 2 ∷ 11 ∷ 7 ∷ 8 ∷ 4 ∷ 10 ∷ []) (Err Inverted) (unfold order_list edge key in refl)
    (unfold verts mesh_cause count_cause surface_cause malformed too_many too_short out_of_limits no_such_vertex first_of within_limits abs of_bits le in refl)
    (unfold verts order_cause faces_cause flipped_edge open_edge degenerate_face inverted first_of occurrences volume Fold face_volume normal is_zero difference dot cross of_bits add sub mul div lt eq round in refl)

answer-dropped : check_mesh verts dropped 12 ≡ Err (Open 1 3)
answer-dropped =
    through dropped (3 ∷ 0 ∷ 6 ∷ 2 ∷ 4 ∷ 8 ∷ 1 ∷ 5 ∷ 7 ∷ []) (Err (Open 1 3)) (unfold order_list edge key in refl)
    (unfold verts mesh_cause count_cause surface_cause malformed too_many too_short out_of_limits no_such_vertex first_of within_limits abs of_bits le in refl)
    (unfold order_cause flipped_edge open_edge first_of occurrences in refl)

answer-turned : check_mesh verts turned 12 ≡ Err (Flipped 1 3)
answer-turned =
    through turned (3 ∷ 0 ∷ 6 ∷ 2 ∷ 4 ∷ 9 ∷ 8 ∷ 1 ∷ 11 ∷ 5 ∷ 7 ∷ 10 ∷ []) (Err (Flipped 1 3)) (unfold order_list edge key in refl)
    (unfold verts mesh_cause count_cause surface_cause malformed too_many too_short out_of_limits no_such_vertex first_of within_limits abs of_bits le in refl)
    (unfold order_cause flipped_edge first_of occurrences in refl)

answer-one_face : check_mesh verts one_face 12 ≡ Err (Degenerate 0)
answer-one_face =
    through one_face (0 ∷ 1 ∷ 2 ∷ []) (Err (Degenerate 0)) (unfold order_list edge key in refl)
    (unfold verts mesh_cause count_cause surface_cause malformed too_many too_short out_of_limits no_such_vertex first_of within_limits abs of_bits le in refl)
    (unfold verts order_cause faces_cause flipped_edge open_edge degenerate_face first_of occurrences normal is_zero difference cross of_bits sub mul eq round in refl)

answer-empty : check_mesh verts [] 12 ≡ Err Inverted
answer-empty =
    through [] [] (Err Inverted) (unfold order_list in refl)
    (unfold verts mesh_cause count_cause surface_cause malformed too_many too_short out_of_limits no_such_vertex first_of within_limits abs of_bits le in refl)
    (unfold order_cause faces_cause flipped_edge open_edge degenerate_face inverted first_of volume Fold of_bits lt in refl)

order_T : order_list T ≡ 3 ∷ 0 ∷ 6 ∷ 2 ∷ 9 ∷ 4 ∷ 8 ∷ 1 ∷ 10 ∷ 5 ∷ 11 ∷ 7 ∷ []
unfolding order_list edge key
order_T = refl

mates_T : mates T ≡ 8 ∷ 9 ∷ 3 ∷ 2 ∷ 11 ∷ 6 ∷ 5 ∷ 10 ∷ 0 ∷ 1 ∷ 7 ∷ 4 ∷ []
unfolding mates mate edge reverse
mates_T = refl

pub reference : mesh_questions ≡ mesh_answers
unfolding mesh_questions mesh_answers
reference =
    ap₂ ◌∷◌ (ap mesh answer_T)
    (ap₂ ◌∷◌ (ap mesh answer-exchanged)
    (ap₂ ◌∷◌ (ap uses order_T)
    (ap₂ ◌∷◌ (ap uses mates_T)
    (ap₂ ◌∷◌ (ap mesh answer-dropped) (ap₂ ◌∷◌ (ap mesh answer-turned) (ap₂ ◌∷◌ (ap mesh answer-one_face) (ap₂ ◌∷◌ (ap mesh answer-empty) refl)))))))
