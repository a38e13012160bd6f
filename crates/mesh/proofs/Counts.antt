-- The answers of `count_cause`, return by return. Assumes nothing.
use mathlib.Core.Path.{◌≡◌, ap, ap₂}
use mathlib.Core.Bool.{Bool, false, ◌&&◌}
use mathlib.Core.List.{List}
use Prim.Native.Nat.{ℕ, ◌%◌, ◌≤◌, ◌<◌}
use lib.ListN.{length}
use lib.Dec.{eqb, leb}
use lib.Ieee.{Float}
use borrow.Author.Tests.{eq-eqb, ne_eqb, le-leb, lt-leb}
use Rattle.refusals.specs.declared.Refusal.TheVariants.{Malformed, TooMany, TooShort}
use Rattle.std.specs.Prelude.{Err}
use Rattle.mesh_orders.specs.Edges.{max_vertices, max_faces}
use Rattle.mesh.specs.Surface.{vertex_count, face_count}
use Rattle.mesh.specs.Check.{malformed, too_many, too_short, count_cause}
use Rattle.mesh.specs.CauseLaws.{malformed-none, many-none}

module _ (v : List Float) (f : List ℕ) (n : ℕ) where
  refuse_malformed : (eqb (length v % 3) 0 && eqb (length f % 3) 0) ≡ false → Err Malformed ≡ count_cause v f n
  unfolding count_cause malformed
  refuse_malformed e = rw e

  pub refuse_vertices : (length v % 3 ≡ 0 → ⊥) → Err Malformed ≡ count_cause v f n
  refuse_vertices u = refuse_malformed (ap (λ (b : Bool). b && eqb (length f % 3) 0) (ne_eqb (length v % 3) 0 u))

  pub refuse_triples : length v % 3 ≡ 0 → (length f % 3 ≡ 0 → ⊥) → Err Malformed ≡ count_cause v f n
  refuse_triples e u = refuse_malformed (ap₂ (λ (a b : Bool). a && b) (eq-eqb (length v % 3) 0 e) (ne_eqb (length f % 3) 0 u))

  module _ (p : length v % 3 ≡ 0) (q : length f % 3 ≡ 0) where
    refuse_many : (leb (vertex_count v) max_vertices && leb (face_count f) max_faces) ≡ false → Err TooMany ≡ count_cause v f n
    unfolding count_cause too_many
    refuse_many e = rw (malformed-none v f p q, e)

    pub many-vertices : max_vertices < vertex_count v → Err TooMany ≡ count_cause v f n
    many-vertices l = refuse_many (ap (λ (b : Bool). b && leb (face_count f) max_faces) (lt-leb (vertex_count v) max_vertices l))

    pub many-faces : vertex_count v ≤ max_vertices → max_faces < face_count f → Err TooMany ≡ count_cause v f n
    many-faces m l = refuse_many (ap₂ (λ (a b : Bool). a && b) (le-leb (vertex_count v) max_vertices m) (lt-leb (face_count f) max_faces l))

    pub too_short_lem : vertex_count v ≤ max_vertices → face_count f ≤ max_faces → n < length f → Err TooShort ≡ count_cause v f n
    unfolding count_cause too_short
    too_short_lem a b l = rw (malformed-none v f p q, many-none v f a b, lt-leb (length f) n l)
