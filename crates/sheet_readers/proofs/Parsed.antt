-- The lengths of the lists that are read from a sheet, and its causes 1 and 2 by the trailer's counts. Assumes nothing.
use mathlib.Core.Path.{◌≡◌}
use mathlib.Core.List.{List}
use Prim.Native.Nat.{ℕ, ◌*◌, ◌/◌, ◌%◌}
use native.Mathlib.Omega.{arith}
use lib.ListN.{length, length-map}
use Rattle.refusals.specs.Causes.{unless}
use Rattle.refusals.specs.declared.Refusal.TheVariants.{Malformed, TooMany}
use Rattle.sheet_layout.proofs.Lists.{unpack-length}
use Rattle.sheet_rows.specs.Kinds.{known_kind, within_counts}
use Rattle.sheet.specs.Writer.{malformed, too_many}
use Rattle.sheet_laws.specs.Reading.{kind_read, faces-length}
use Rattle.sheet.specs.Checker.{kind_in, vertices_in, faces_in, stations_in, parse}

third : (n : ℕ) → 3 * n / 3 ≡ n
third n = omega arith

no_rest : (n : ℕ) → 3 * n % 3 ≡ 0
no_rest n = omega arith

module _ (b : List ℕ) where
  pub vertices-length : length (parse b).vertices ≡ 3 * vertices_in b
  unfolding parse
  vertices-length = simp (length-map, unpack-length)

  pub stations-length : length (parse b).stations ≡ 3 * stations_in b
  unfolding parse
  stations-length = simp (length-map, unpack-length)

  pub malformed_parsed : malformed (parse b) ≡ unless (known_kind (kind_in b) (vertices_in b) (faces_in b)) Malformed
  unfolding malformed
  malformed_parsed =
      rw (vertices-length, faces-length b, stations-length, kind_read b, third (vertices_in b), third (faces_in b), no_rest (vertices_in b), no_rest (faces_in b), no_rest (stations_in b))

  pub many_parsed : too_many (parse b) ≡ unless (within_counts (vertices_in b) (faces_in b) (stations_in b)) TooMany
  unfolding too_many
  many_parsed = rw (vertices-length, faces-length b, stations-length, third (vertices_in b), third (faces_in b), third (stations_in b))
