-- Cause 3 of a sheet, as the code tries it: the vertices v, the magnetisation, the ambient field, the stations. Assumes nothing.
use mathlib.Core.Path.{◌≡◌, sym, ap, ◌∙◌}
use mathlib.Core.Bool.{true, false}
use mathlib.Core.List.{List}
use Prim.Native.Nat.{ℕ, ◌+◌, ◌*◌}
use lib.Ieee.{Float}
use Rattle.refusals.specs.declared.Refusal.{Refusal}
use Rattle.refusals.specs.declared.Refusal.TheVariants.{OutOfLimits}
use Rattle.std.specs.Prelude.{Ok, Err}
use Rattle.newtonian.specs.Vectors.{vector_within_limits}
use Rattle.mesh.specs.Check as mesh
use Rattle.sheet_layout.specs.LittleEndian.{unpack, doubles}
use Rattle.sheet.specs.Writer.{out_of_limits}
use Rattle.sheet.specs.Checker.{trailer, stations_in, stations_start, vector_in, parse}

module _ (b : List ℕ) (v : List Float) (ev : v ≡ (parse b).vertices) where
  pub in_vertices : (r : Refusal) → mesh.out_of_limits v ≡ Err r → Err r ≡ out_of_limits (parse b)
  unfolding out_of_limits
  in_vertices r e = rw (sym (ap mesh.out_of_limits ev) ∙ e)

  module _ (e : mesh.out_of_limits v ≡ Ok tt) where
    pub in_magnetisation : vector_within_limits (vector_in b (trailer b + 16)) ≡ false → Err OutOfLimits ≡ out_of_limits (parse b)
    unfolding out_of_limits parse
    in_magnetisation m = rw (sym (ap mesh.out_of_limits ev) ∙ e, m)

    module _ (m : vector_within_limits (vector_in b (trailer b + 16)) ≡ true) where
      pub in_ambient : vector_within_limits (vector_in b (trailer b + 40)) ≡ false → Err OutOfLimits ≡ out_of_limits (parse b)
      unfolding out_of_limits parse
      in_ambient a = rw (sym (ap mesh.out_of_limits ev) ∙ e, m, a)

      pub in_stations : vector_within_limits (vector_in b (trailer b + 40)) ≡ true → mesh.out_of_limits (doubles (unpack 8 (3 * stations_in b) b (stations_start b))) ≡ out_of_limits (parse b)
      unfolding out_of_limits parse
      in_stations a = rw (sym (ap mesh.out_of_limits ev) ∙ e, m, a)
