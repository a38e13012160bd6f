-- The points of a tetrahedron. States: `no_points`, `one-point`: how a loop over them begins and goes on; `field_of`: the field of a tetrahedron is one fold over its points;
-- `points-field`: from arrays that hold them. Assumes nothing.
use mathlib.Core.Path.{◌≡◌, sym, ◌∙◌}
use mathlib.Core.List.{List}
use mathlib.Core.Logic.{⊎_elim}
use Prim.Native.Nat.{ℕ, ◌+◌, ◌*◌, ◌/◌, ◌%◌, ◌<◌}
use native.Mathlib.Nat.{not-suc-le-zero}
use native.Mathlib.Omega.{arith}
use lib.Ieee.{Float, nan}
use lib.ListN.{set, length-set}
use lib.Seq.{get_or-set_same, get_or-set_other}
use Rattle.doubles.specs.Rounded.{◌⊗◌}
use Rattle.lists.proofs.Numbers.{same?}
use Rattle.lanes.specs.Lanes.{lane}
use Rattle.newtonian.specs.Fold.{Fold}
use Rattle.newtonian.specs.Vectors.{difference, zero_field}
use Rattle.newtonian.specs.Point.{add_point}
use Rattle.newtonian.specs.declared.Vector.{Vector}
use Rattle.newtonian.specs.declared.Newtonian.{Newtonian}
use Rattle.polyhedron_tetrahedra.specs.Mapped.{points, mapped_node, mapped_weight, mapped_nodes, mapped_weights}
use Rattle.polyhedron_tetrahedra.specs.Tetrahedra.{tetrahedron_field, tetrahedron_point, tetrahedron_line, tetrahedron_layer, duffy, line_weight}
use Rattle.polyhedron_tetrahedra.specs.declared.Tetrahedron.{Tetrahedron}
use Rattle.polyhedron_tetrahedra.proofs.Nodes.{rule_node, rule_weight}
use Rattle.polyhedron_far_points.specs.Tetrahedral.{point_count, point_in, weight_in, Room, FirstPoints, point_step, points_field}
use Rattle.lanes.proofs.Folds.{fold_same, fold_nested}

-- ---- the arrays

pub no_points : {a : Vector} {s : Tetrahedron} {x y z w : List Float} → Room x y z w → FirstPoints a s 0 x y z w
no_points r = record { room = r; point = λ i l. absurd (not-suc-le-zero l); weight = λ i l. absurd (not-suc-le-zero l) }

module _ {a : Vector} {s : Tetrahedron} {x y z w : List Float} where
  pub one-point : (n : ℕ) (v : Vector) (q : Float) → FirstPoints a s n x y z w → n < point_count → v ≡ point_in a s n → q ≡ weight_in s n
      → FirstPoints a s (n + 1) (set x n v.x) (set y n v.y) (set z n v.z) (set w n q)
  one-point n v q f l e g =
      let r = f.room in
      record {
        room = record {
          of_x = length-set x n v.x ∙ r.of_x;
          of_y = length-set y n v.y ∙ r.of_y;
          of_z = length-set z n v.z ∙ r.of_z;
          of_w = length-set w n q ∙ r.of_w;
        };
        point = λ i m.
            ⊎_elim
            (λ t. rw (t, get_or-set_same x n v.x nan (omega (arith, r.of_x)), get_or-set_same y n v.y nan (omega (arith, r.of_y)), get_or-set_same z n v.z nan (omega (arith, r.of_z))) e)
            (λ t. rw (get_or-set_other x n i v.x nan t, get_or-set_other y n i v.y nan t, get_or-set_other z n i v.z nan t) (f.point i (omega (arith, t))))
            (same? i n);
        weight = λ i m.
            ⊎_elim (λ t. rw (t, get_or-set_same w n q nan (omega (arith, r.of_w))) g) (λ t. rw (get_or-set_other w n i q nan t) (f.weight i (omega (arith, t)))) (same? i n);
      }

pub so_many : {a : Vector} {s : Tetrahedron} {x y z w : List Float} (n k : ℕ) → n ≡ k → FirstPoints a s n x y z w → FirstPoints a s k x y z w
so_many n k e f = rw (← e) f

-- what a turn of the loop over line m writes, at t
module _ (a : Vector) (s : Tetrahedron) (nodes weights : List Float) (m t : ℕ) (lm : m < 36) (lt : t < points) (en : nodes ≡ mapped_nodes) (ew : weights ≡ mapped_weights) where
  place_u : (6 * m + t) / 36 ≡ m / 6
  place_u = omega arith

  place_v : (6 * m + t) / 6 % 6 ≡ m % 6
  place_v = omega arith

  place_t : (6 * m + t) % 6 ≡ t
  place_t = omega arith

  pub point-is : duffy a s (lane nodes (m / 6)) (lane nodes (m % 6)) (lane nodes t) ≡ point_in a s (6 * m + t)
  unfolding point_in
  point-is = rw (place_u, place_v, place_t, en, rule_node (m / 6) (omega arith), rule_node (m % 6) (omega arith), rule_node t lt)

  pub weight_is : line_weight s.vol6 (lane nodes (m / 6)) (lane nodes (m % 6)) (lane weights (m / 6)) (lane weights (m % 6)) ⊗ lane weights t ≡ weight_in s (6 * m + t)
  unfolding weight_in
  weight_is =
      rw (
        place_u,
        place_v,
        place_t,
        en,
        ew,
        rule_node (m / 6) (omega arith),
        rule_node (m % 6) (omega arith),
        rule_weight (m / 6) (omega arith),
        rule_weight (m % 6) (omega arith),
        rule_weight t lt,
      )

-- ---- the sums

-- point 6 (6 i + j) + t is at node i, j and t
module _ (i j t : ℕ) (li : i < 6) (lj : j < 6) (lt : t < 6) where
  at_u : ((i * 6 + j) * 6 + t) / 36 ≡ i
  at_u = omega arith

  at_v : ((i * 6 + j) * 6 + t) / 6 % 6 ≡ j
  at_v = omega arith

  at_t : ((i * 6 + j) * 6 + t) % 6 ≡ t
  at_t = omega arith

module _ (p a : Vector) (s : Tetrahedron) where
  abbrev pub step_in : ℕ → Newtonian → Newtonian
  step_in n = add_point (weight_in s n) (difference (point_in a s n) p)

  step_at : (i j t : ℕ) → i < 6 → j < 6 → t < 6 → (f : Newtonian)
      → tetrahedron_point p a s (mapped_node i) (mapped_node j) (line_weight s.vol6 (mapped_node i) (mapped_node j) (mapped_weight i) (mapped_weight j)) t f ≡ step_in ((i * 6 + j) * 6 + t) f
  unfolding point_in weight_in
  step_at i j t li lj lt f = rw (at_u i j t li lj lt, at_v i j t li lj lt, at_t i j t li lj lt)

  pub field_of : tetrahedron_field p a s ≡ Fold point_count step_in zero_field
  unfolding tetrahedron_field
  field_of =
      fold_same 6 (tetrahedron_layer p a s) (λ i. Fold 6 (λ j. Fold 6 (λ t. step_in ((i * 6 + j) * 6 + t)))) zero_field
      (λ i li f. fold_same 6 (tetrahedron_line p a s (mapped_node i) (mapped_weight i)) (λ j. Fold 6 (λ t. step_in ((i * 6 + j) * 6 + t))) f
      (λ j lj g. fold_same 6 (tetrahedron_point p a s (mapped_node i) (mapped_node j) (line_weight s.vol6 (mapped_node i) (mapped_node j) (mapped_weight i) (mapped_weight j))) (λ t. step_in ((i * 6 + j) * 6 + t)) g
      (λ t lt h. step_at i j t li lj lt h)))
      ∙ sym (fold_nested 6 6 (λ m. Fold 6 (λ t. step_in (m * 6 + t))) zero_field)
      ∙ sym (fold_nested 36 6 step_in zero_field)

  pub points-field : {x y z w : List Float} → FirstPoints a s point_count x y z w → points_field p x y z w ≡ tetrahedron_field p a s
  unfolding points_field
  points-field {x} {y} {z} {w} f =
      fold_same point_count (point_step p x y z w) step_in zero_field (λ n l g. rw (f.point n l, f.weight n l)) ∙ sym field_of
