-- The checker's causes in stages, as the code tries them after `opening_cause` (16, 1 and 2), and what is known at each. `b` is the sheet's bytes, `v`, `f` and `o` the
-- vertices, faces and order list that were read from it. Definitions only; crate checker shows that the stages in order are `checker_cause`.
use Rattle.std.specs.Prelude.{◌≡◌, List, ℕ, ◌*◌, Float}
use Rattle.refusals.specs.Causes.{or_else, first_of}
use Rattle.refusals.specs.Causes.{Cause}
use Rattle.sheet.specs.Writer.{out_of_limits, no_such_vertex}
use Rattle.sheet.specs.Checker.{vertices_in, faces_in, stations_in, parse, order_in, mates_in, wrong_order, wrong_mate, solid_cause, wrong_volume, check_station}

module _ (b : List ℕ) where
  -- 4, 17 and 18, of the lists of indices
  unfoldable pub indices_cause : Cause
  indices_cause = or_else (no_such_vertex (parse b)) (or_else (wrong_order (parse b).faces (order_in b)) (wrong_mate (parse b).faces (mates_in b)))

  -- 3, 4, 17 and 18
  unfoldable pub lists_cause : Cause
  lists_cause = or_else (out_of_limits (parse b)) indices_cause

  -- 7 and 8 or 9, and 19
  unfoldable pub volume_cause : Cause
  volume_cause = or_else (solid_cause (parse b)) (wrong_volume b (parse b))

  -- by station 10 or 11, 13, 20
  unfoldable pub stations_cause : Cause
  stations_cause = first_of (stations_in b) (check_station b (parse b))

-- room for a sheet's lists: v coordinates, f corners, an order list of o entries
pub record Room (b : List ℕ) (v f o : ℕ) : Type 0 where
  pub vertices : v ≡ 3 * vertices_in b
  pub faces : f ≡ 3 * faces_in b
  pub order : o ≡ 3 * faces_in b

-- and the lists, read
pub record Loaded (b : List ℕ) (v : List Float) (f o : List ℕ) : Type 0 where
  pub vertices : v ≡ (parse b).vertices
  pub faces : f ≡ (parse b).faces
  pub order : o ≡ order_in b
