-- The causes 1 to 4. States: `not_counted`, `counted`: what 1 and 2 decide; `few_corners`: where they do not hold, there are not too many corners; `given_vertices`, `given_corners`: what the lists are where none holds. Assumes nothing.
use Rattle.std.proofs.Common.{◌≡◌, ℕ, ◌*◌, ◌<◌, ◌≤◌, true, List, Ok, Err, length, get_or, sym, arith}
use Rattle.std.proofs.Math.Nat.{le_refl}
use Rattle.std.proofs.lemmas.List.Elements.{All-from_get_or}
use Rattle.std.specs.Float.{Float, nan}
use Rattle.refusals.specs.declared.Refusal.{Refusal}
use Rattle.refusals.specs.declared.Refusal.TheVariants.{OutOfLimits}
use Rattle.refusals.specs.Causes.{Cause, or_else}
use Rattle.refusals.proofs.Causes.{both}
use Rattle.mesh_orders.specs.Edges.{max_faces}
use Rattle.mesh.specs.Surface.{vertex_count}
use Rattle.mesh.specs.Check.{malformed, too_many, no_such_vertex, count_cause}
use Rattle.mesh.specs.CauseLaws.{none_each, none-malformed, malformed-none, none-many, many-none, none-count, short_none, none-vertex}
use Rattle.obj.specs.Whole.{is_whole}
use Rattle.obj.specs.Writer.{max_coordinate, not_whole, given_cause}
use Rattle.obj_writer.specs.Lines.{Given}

-- the first of two that refuses decides, whatever follows
early : (c d : Cause) {r : Refusal} (e : Cause) → or_else c (or_else d (Ok tt)) ≡ Err r → or_else c (or_else d e) ≡ Err r
early (Ok _) (Ok _) e h = cc
early (Ok _) (Err r) e h = h
early (Err r) d e h = h

module _ (v : List Float) (f : List ℕ) where
  pub not_counted : {r : Refusal} → count_cause v f (length f) ≡ Err r → Err r ≡ given_cause v f
  unfolding count_cause given_cause
  not_counted h = sym (early (malformed v f) (too_many v f) _ (rw (short_none v f (length f) (le_refl (length f))) at h))

  pub counted : count_cause v f (length f) ≡ Ok tt → given_cause v f ≡ or_else (not_whole v) (no_such_vertex (vertex_count v) f)
  unfolding given_cause
  counted e = let h = none-count v f (length f) e in rw (malformed-none v f h.coordinates h.corners, many-none v f h.vertices h.faces)

  pub few_corners : count_cause v f (length f) ≡ Ok tt → length f ≤ 3 * max_faces
  few_corners e = let h = none-count v f (length f) e in omega (arith, h.corners, h.faces)

  module _ (e : given_cause v f ≡ Ok tt) where
    first : (malformed v f ≡ Ok tt) × (or_else (too_many v f) (or_else (not_whole v) (no_such_vertex (vertex_count v) f)) ≡ Ok tt)
    unfolding given_cause
    first = both (malformed v f) (or_else (too_many v f) (or_else (not_whole v) (no_such_vertex (vertex_count v) f))) e

    second : (too_many v f ≡ Ok tt) × (or_else (not_whole v) (no_such_vertex (vertex_count v) f) ≡ Ok tt)
    second = both (too_many v f) (or_else (not_whole v) (no_such_vertex (vertex_count v) f)) first.1

    third : (not_whole v ≡ Ok tt) × (no_such_vertex (vertex_count v) f ≡ Ok tt)
    third = both (not_whole v) (no_such_vertex (vertex_count v) f) second.1

    pub given_vertices : Given (λ x. is_whole max_coordinate x ≡ true) v
    unfolding not_whole
    given_vertices = record {
      triples = (none-malformed v f first.0).0;
      few = omega (arith, (none-malformed v f first.0).0, (none-many v f second.0).0);
      each = All-from_get_or (λ (x : Float). is_whole max_coordinate x ≡ true) v nan (none_each (length v) (λ i. is_whole max_coordinate (get_or v i nan)) (λ i. OutOfLimits) third.0);
    }

    pub given_corners : Given (λ c. c < max_coordinate) f
    given_corners = record {
      triples = (none-malformed v f first.0).1;
      few = omega (arith, (none-malformed v f first.0).1, (none-many v f second.0).1);
      each = All-from_get_or (λ (c : ℕ). c < max_coordinate) f 0 (λ i l. omega (arith, none-vertex v f third.1 i l, (none-many v f second.0).0));
    }
