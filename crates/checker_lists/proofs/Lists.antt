-- The lists of a sheet as they are read, and what is known of them once none of the causes 16, 1, 2, 3, 4, 17 and 18 holds: a body (`is_body`), whose prism has
-- two corners (`two_corners`), and its order list (`in_order`). Assumes nothing.
use mathlib.Core.Path.{◌≡◌, sym, ap, ap₂, ◌∙◌}
use mathlib.Core.Bool.{Bool, true, false, ◌&&◌, ◌||◌}
use mathlib.Core.List.{List}
use Prim.Native.Nat.{ℕ, ◌*◌, ◌/◌, ◌≤◌}
use native.Mathlib.Omega.{arith}
use lib.Dec.{eqb}
use lib.Ieee.{Float}
use lib.ListN.{length}
use borrow.Author.Tests.{eqb-true}
use Rattle.std.specs.Prelude.{Ok}
use Rattle.refusals.specs.Causes.{or_else}
use Rattle.refusals.proofs.Causes.{both}
use Rattle.lists.proofs.Numbers as numbers
use Rattle.mesh_orders.specs.Order.{order_list}
use Rattle.mesh.specs.Surface.{Body}
use Rattle.mesh.specs.Check as mesh
use Rattle.mesh.specs.CauseLaws.{none-vertex}
use Rattle.sheet_rows.specs.Kinds.{is_mesh, is_prism, known_kind}
use Rattle.sheet.specs.Writer.{out_of_limits, no_such_vertex}
use Rattle.sheet.specs.Checker.{kind_in, vertices_in, faces_in, faces_start, order_start, mates_start, parse, order_in, mates_in, wrong_order, wrong_mate}
use Rattle.sheet_laws.specs.OrderAndMates.{is-order}
use Rattle.sheet_readers.specs.Opened.{Opened}
use Rattle.sheet_laws.specs.Reading.{faces-length}
use Rattle.sheet_readers.proofs.Parsed.{vertices-length}
use Rattle.sheet_layout.specs.LittleEndian.{unpack, doubles}
use Rattle.sheet_layout.proofs.Lists.{unpack-length}
use Rattle.checker_lists.specs.Stages.{indices_cause, lists_cause, Loaded}

second : (a b : Bool) → (a || b) ≡ true → a ≡ false → b ≡ true
second true b e z = cc
second false b e z = e

-- a known kind that is no mesh has two vertices
vertices_of_prism : (kind v f : ℕ) → known_kind kind v f ≡ true → is_mesh kind ≡ false → v ≡ 2
unfolding known_kind
vertices_of_prism kind v f e z =
    let t = (numbers.both (is_prism kind) (eqb v 2 && eqb f 0) (second (is_mesh kind) _ e z)).1 in
    eqb-true v 2 (numbers.both (eqb v 2) (eqb f 0) t).0

-- the lists, as they are read
module _ (b : List ℕ) {n : ℕ} where
  pub vertices_loaded : n ≡ 3 * vertices_in b → doubles (unpack 8 n b 0) ≡ (parse b).vertices
  unfolding parse
  vertices_loaded e = rw e

  pub faces_loaded : {at : ℕ} → n ≡ 3 * faces_in b → at ≡ faces_start b → unpack 4 n b at ≡ (parse b).faces
  unfolding parse
  faces_loaded e p = rw (e, p)

  pub order_loaded : {at : ℕ} → n ≡ 3 * faces_in b → at ≡ order_start b → unpack 4 n b at ≡ order_in b
  order_loaded e p = rw (e, p)

module _ (b : List ℕ) (h : Opened b) where
  body : no_such_vertex (parse b) ≡ Ok tt → Body (parse b).vertices (parse b).faces
  unfolding no_such_vertex
  body e =
      let n = faces-length b in
      let m = vertices-length b in
      let inside = none-vertex (parse b).vertices (parse b).faces e in
      record {
        faces = record { triples = omega arith; few = omega (arith, h.faces); small = λ i l. omega (arith, inside i l, h.vertices) };
        inside = inside;
      }

module _ (b : List ℕ) where
  none-order : lists_cause b ≡ Ok tt → (no_such_vertex (parse b) ≡ Ok tt) × (wrong_order (parse b).faces (order_in b) ≡ Ok tt) × (wrong_mate (parse b).faces (mates_in b) ≡ Ok tt)
  unfolding lists_cause indices_cause
  none-order e =
      let q = both (no_such_vertex (parse b)) _ (both (out_of_limits (parse b)) _ e).1 in
      let r = both (wrong_order (parse b).faces (order_in b)) _ q.1 in
      (q.0, r.0, r.1)

-- ---- the lists, of which none of 3, 4, 17 and 18 holds

module _ (b : List ℕ) (h : Opened b) (v : List Float) (f o : List ℕ) (l : Loaded b v f o) (e : lists_cause b ≡ Ok tt) where
  pub is_body : Body v f
  is_body = rw (l.vertices, l.faces) (body b h (none-order b e).0)

  pub two_corners : is_mesh (kind_in b) ≡ false → 6 ≤ length v
  two_corners z = let n = ap length l.vertices ∙ vertices-length b in omega (arith, n, vertices_of_prism (kind_in b) (vertices_in b) (faces_in b) h.known z)

  pub order-length : length o ≡ 3 * faces_in b
  order-length = ap length l.order ∙ unpack-length 4 (3 * faces_in b) b _

  pub in_order : o ≡ order_list f
  in_order =
      let n : length o ≡ length f = order-length ∙ sym (ap length l.faces ∙ faces-length b) in
      is-order f o n (rw (l.faces, l.order) (none-order b e).1) is_body.faces

-- ---- 4, 17 and 18 of the lists as they are read: f is the face list, o the order list

module _ (b f : List ℕ) (q : f ≡ (parse b).faces) where
  pub vertex-is : (v : ℕ) → v ≡ vertices_in b → mesh.no_such_vertex v f ≡ no_such_vertex (parse b)
  unfolding no_such_vertex
  vertex-is v p =
      let third : 3 * vertices_in b / 3 ≡ vertices_in b = omega arith in
      ap₂ mesh.no_such_vertex (p ∙ sym (ap (λ (k : ℕ). k / 3) (vertices-length b) ∙ third)) q

  pub lists_are : {at : ℕ} (o : List ℕ) → o ≡ order_in b → at ≡ mates_start b
      → or_else (wrong_order f o) (wrong_mate f (unpack 4 (length f) b at)) ≡ or_else (wrong_order (parse b).faces (order_in b)) (wrong_mate (parse b).faces (mates_in b))
  lists_are o p e = rw (p, e, q, faces-length b)
