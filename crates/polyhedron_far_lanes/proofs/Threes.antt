-- Three points at a time. States: `rows-kept`: what a later loop leaves alone; `three_added`: three points, one after the other; `no_point`, `three_more`, `all-points`: how the fold
-- over all points begins, goes on by three and ends. Assumes nothing.
use mathlib.Core.Path.{◌≡◌, sym, ap, ap₂, ◌∙◌}
use mathlib.Core.List.{List}
use Prim.Native.Nat.{ℕ, ◌+◌, ◌≤◌, ◌<◌}
use native.Mathlib.Omega.{arith}
use lib.Ieee.{Float}
use Rattle.newtonian.specs.Fold.{Fold, fold_more, fold-none}
use Rattle.newtonian.specs.Point.{add_point}
use Rattle.newtonian.specs.Vectors.{difference, zero_field}
use Rattle.newtonian.specs.declared.Newtonian.{Newtonian}
use Rattle.newtonian.specs.declared.Vector.{Vector}
use Rattle.lanes.specs.Lanes.{lane, Lanes}
use Rattle.polyhedron_far_points.specs.Tetrahedral.{point_at, point_count, points_field, point_step}
use Rattle.polyhedron_far_lanes.specs.EightFields.{field_at, Fields, place_at, Squares, three_steps}

pub rows-kept : {px py pz : List Float} {u : Vector} {q q' : List Float} (o m : ℕ) → Squares px py pz u o q → ((i : ℕ) → i < m → lane q' i ≡ lane q i) → o + 8 ≤ m
    → Squares px py pz u o q'
rows-kept o m s h l = record { at = λ k lk. h (o + k) (omega arith) ∙ s.at k lk }

module _ (px py pz x y z w f : List Float) (n : ℕ) {a b c : Vector} {f₁ f₂ f₃ : List Float} where
  pub three_added : a ≡ point_at x y z n → b ≡ point_at x y z (n + 1) → c ≡ point_at x y z (n + 2)
      → Fields (λ k. add_point (lane w n) (difference a (point_at px py pz k)) (field_at f k)) f₁
      → Fields (λ k. add_point (lane w (n + 1)) (difference b (point_at px py pz k)) (field_at f₁ k)) f₂
      → Fields (λ k. add_point (lane w (n + 2)) (difference c (point_at px py pz k)) (field_at f₂ k)) f₃
      → Fields (λ k. three_steps (point_step (point_at px py pz k) x y z w) n (field_at f k)) f₃
  three_added ea eb ec l₁ l₂ l₃ = record {
    size = l₃.size;
    at = λ k l.
        let p = point_at px py pz k in
        l₃.at k l
        ∙ ap (add_point (lane w (n + 2)) (difference c p)) (l₂.at k l ∙ ap (add_point (lane w (n + 1)) (difference b p)) (l₁.at k l))
        ∙ rw (ea, eb, ec);
  }

three_turns : {A : Type 0} (n : ℕ) (step : ℕ → A → A) (a : A) → Fold (n + 3) step a ≡ step (n + 2) (step (n + 1) (step n (Fold n step a)))
three_turns n step a =
    let e : n + 3 ≡ n + 2 + 1 = omega arith in
    let e₂ : n + 2 ≡ n + 1 + 1 = omega arith in
    ap (λ (m : ℕ). Fold m step a) e ∙ fold_more (n + 2) step a
    ∙ ap (step (n + 2)) (ap (λ (m : ℕ). Fold m step a) e₂ ∙ fold_more (n + 1) step a ∙ ap (step (n + 1)) (fold_more n step a))

module _ (h : ℕ → ℕ → Newtonian → Newtonian) (a : Newtonian) where
  pub no_point : {f : List Float} → Fields (λ k. a) f → Fields (λ k. Fold 0 (h k) a) f
  no_point b = record { size = b.size; at = λ k l. b.at k l ∙ sym (fold-none (h k) a) }

  pub three_more : (n : ℕ) {f f' : List Float} → Fields (λ k. Fold n (h k) a) f → Fields (λ k. three_steps (h k) n (field_at f k)) f' → Fields (λ k. Fold (n + 3) (h k) a) f'
  three_more n b c = record { size = c.size; at = λ k l. c.at k l ∙ ap (three_steps (h k) n) (b.at k l) ∙ sym (three_turns n (h k) a) }

module _ (places : List Vector) {px py pz : List Float} (at_x : Lanes 8 (λ k. (place_at places k).x) px) (at_y : Lanes 8 (λ k. (place_at places k).y) py) (at-z : Lanes 8 (λ k. (place_at places k).z) pz) where
  at_place : (k : ℕ) → k < 8 → point_at px py pz k ≡ place_at places k
  at_place k l = rw (at_x.at k l, at_y.at k l, at-z.at k l)

  pub all-points : (x y z w : List Float) (n : ℕ) → n ≡ point_count → {f : List Float} → Fields (λ k. Fold n (point_step (point_at px py pz k) x y z w) zero_field) f
      → Fields (λ k. points_field (place_at places k) x y z w) f
  unfolding points_field
  all-points x y z w n e b = record {
    size = b.size;
    at = λ k l. b.at k l ∙ ap₂ (λ (m : ℕ) (p : Vector). Fold m (point_step p x y z w) zero_field) e (at_place k l);
  }
