-- R_C by lanes: all lanes go through the loop together, and a round is made in those whose test holds. Definitions only.
use Rattle.std.specs.Prelude.{List, cond, ℕ, Float}
use Rattle.doubles.specs.Rounded.{◌⊖◌, ◌⊗◌, ◌⊘◌}
use Rattle.roots.specs.Root.{Root}
use Rattle.carlson.specs.CarlsonLoop.{max_rounds}
use Rattle.carlson.specs.Rounds.{rounds}
use Rattle.carlson.specs.Rc.{duplicate_c, test_c, A₀C, duplications_c, series_c}
use Rattle.carlson.specs.declared.RoundC.{RoundC}
use Rattle.lanes.specs.Lanes.{lane, Lanes}

-- lane k's state is d k; the count of rounds is not carried
pub record States (n : ℕ) (d : ℕ → RoundC) (x y a f : List Float) : Type 0 where
  pub on_x : Lanes n (λ (k : ℕ). (d k).x) x
  pub on_y : Lanes n (λ (k : ℕ). (d k).y) y
  pub on_a : Lanes n (λ (k : ℕ). (d k).a) a
  pub on_f : Lanes n (λ (k : ℕ). (d k).f) f

-- of the states, what the series asks for
pub record Ended (n : ℕ) (d : ℕ → RoundC) (a f : List Float) : Type 0 where
  pub on_a : Lanes n (λ (k : ℕ). (d k).a) a
  pub on_f : Lanes n (λ (k : ℕ). (d k).f) f

-- a round where the test holds
unfoldable pub round_if : Float → RoundC → RoundC
round_if q d = cond (test_c q d) (duplicate_c d) d

-- lane k's state, at count 0
abbrev pub start : List Float → List Float → List Float → List Float → ℕ → RoundC
start x y a f k = record { x = lane x k; y = lane y k; a = lane a k; f = lane f k; n = 0 }

abbrev pub after_one : List Float → List Float → List Float → List Float → List Float → ℕ → RoundC
after_one q x y a f k = round_if (lane q k) (start x y a f k)

-- after all rounds of the lane
abbrev pub after_all : List Float → List Float → List Float → List Float → List Float → ℕ → RoundC
after_all q x y a f k = rounds (test_c (lane q k)) duplicate_c max_rounds (start x y a f k)

-- the series at s = (y - A₀) / (4ⁿ Aₙ), over √Aₙ
abbrev pub ending : Float → Float → Float → Float → Float
ending y m f a = series_c ((y ⊖ m) ⊗ f ⊘ a) ⊘ Root a

-- the number that R_C(x, y) is for y above zero, where it is not refused
unfoldable pub rc_number : Float → Float → Float
rc_number x y = let d = duplications_c x y in ending y (A₀C x y) d.f d.a
