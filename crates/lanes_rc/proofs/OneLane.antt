-- What becomes of one lane. States: `round_x`, `round_y`, `round_a`, `round_f`: what a round writes; `number_is`: a lane that starts as R_C
-- does ends as it. Assumes nothing.
use mathlib.Core.Path.{◌≡◌, refl, ap, ap₂, ◌∙◌}
use mathlib.Core.List.{List}
use mathlib.Core.Bool.{Bool, true, false, cond}
use Prim.Native.Nat.{ℕ}
use lib.Ieee.{Float}
use Rattle.doubles.specs.Rounded.{◌⊕◌, ◌⊗◌}
use Rattle.doubles.specs.Constants.{1·0, 2·0}
use Rattle.roots.specs.Root.{Root}
use Rattle.carlson.specs.Rounds.{rounds}
use Rattle.carlson.specs.CarlsonLoop.{max_rounds, quarter, loop_test}
use Rattle.carlson.specs.Rc.{duplicate_c, test_c, λC, A₀C, QC, duplications_c}
use Rattle.carlson.specs.declared.RoundC.{RoundC}
use Rattle.lanes.specs.Lanes.{lane}
use Rattle.lanes_rc.specs.LaneRounds.{round_if, after_all, ending, rc_number}

-- what a round reads of a lane whose state is d, and its λ
pub record Reads (q : Float) (d : RoundC) (t : Bool) (x y a f l : Float) : Type 0 where
  pub x_is : x ≡ d.x
  pub y_is : y ≡ d.y
  pub a_is : a ≡ d.a
  pub f_is : f ≡ d.f
  pub l_is : l ≡ cond t (2·0 ⊗ Root x ⊗ Root y ⊕ y) y
  pub t_is : t ≡ loop_test q a f

-- a part of the picked state is the picked part
part : (b : Bool) (p : RoundC → Float) (d e : RoundC) → cond b (p d) (p e) ≡ p (cond b d e)
part true p d e = refl
part false p d e = refl

-- of two choices by one test the inner one is decided
under : (b : Bool) (g : Float → Float) (u v z : Float) → cond b (g (cond b u v)) z ≡ cond b (g u) z
under true g u v z = refl
under false g u v z = refl

module _ {q : Float} {d : RoundC} {t : Bool} {x y a f l : Float} (s : Reads q d t x y a f l) where
  tests : t ≡ test_c q d
  tests = s.t_is ∙ ap₂ (loop_test q) s.a_is s.f_is

  abbrev λ_of : Float
  λ_of = 2·0 ⊗ Root x ⊗ Root y ⊕ y

  sums : (w z : Float) → w ≡ z → quarter (w ⊕ λ_of) ≡ quarter (z ⊕ λC d)
  sums w z e = rw (e, s.x_is, s.y_is)

  -- where a round is made, its λ is the definition's
  made : (w : Float) → cond t (quarter (w ⊕ l)) w ≡ cond t (quarter (w ⊕ λ_of)) w
  made w = ap (λ (u : Float). cond t (quarter (w ⊕ u)) w) s.l_is ∙ under t (λ u. quarter (w ⊕ u)) λ_of y w

  pub round_x : {u v : Float} → u ≡ quarter (x ⊕ l) → v ≡ cond t u x → v ≡ (round_if q d).x
  unfolding round_if duplicate_c
  round_x h e = e ∙ rw (h, made x, sums x d.x s.x_is, s.x_is, tests) (part (test_c q d) (λ r. r.x) (duplicate_c d) d)

  pub round_y : {u v : Float} → u ≡ quarter (y ⊕ l) → v ≡ cond t u y → v ≡ (round_if q d).y
  unfolding round_if duplicate_c
  round_y h e = e ∙ rw (h, made y, sums y d.y s.y_is, s.y_is, tests) (part (test_c q d) (λ r. r.y) (duplicate_c d) d)

  pub round_a : {u v : Float} → u ≡ quarter (a ⊕ l) → v ≡ cond t u a → v ≡ (round_if q d).a
  unfolding round_if duplicate_c
  round_a h e = e ∙ rw (h, made a, sums a d.a s.a_is, s.a_is, tests) (part (test_c q d) (λ r. r.a) (duplicate_c d) d)

  pub round_f : {u v : Float} → u ≡ quarter f → v ≡ cond t u f → v ≡ (round_if q d).f
  unfolding round_if duplicate_c
  round_f h e = e ∙ rw (h, s.f_is, tests) (part (test_c q d) (λ r. r.f) (duplicate_c d) d)

from : Float → Float → Float → Float → Float → RoundC
from q x y a f = rounds (test_c q) duplicate_c max_rounds (record { x = x; y = y; a = a; f = f; n = 0 })

pub number_is : (q x y a f : List Float) (k : ℕ) {m b g v : Float} → lane q k ≡ QC (lane x k) (lane y k) → lane a k ≡ A₀C (lane x k) (lane y k) → lane f k ≡ 1·0
    → m ≡ A₀C (lane x k) (lane y k) → b ≡ (after_all q x y a f k).a → g ≡ (after_all q x y a f k).f → v ≡ ending (lane y k) m g b → v ≡ rc_number (lane x k) (lane y k)
unfolding duplications_c rc_number from
number_is q x y a f k eq ea ef em eb eg ev =
    let u = lane x k in
    let w = lane y k in
    let d : from (lane q k) u w (lane a k) (lane f k) ≡ duplications_c u w = rw (eq, ea, ef) in
    ev ∙ rw (em, eb ∙ ap (λ (e : RoundC). e.a) d, eg ∙ ap (λ (e : RoundC). e.f) d)
