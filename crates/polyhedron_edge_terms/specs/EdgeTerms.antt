-- The terms of the field of a polyhedron: R. A. Werner & D. J. Scheeres, Celest. Mech. Dyn. Astron. 65, 313 (1997). At unit Gρ
--
--   V = ½ Σ_e r_e·E_e·r_e L_e − ½ Σ_f (n̂_f·r_f)² ω_f
--   ∇V = −Σ_e E_e r_e L_e + Σ_f n̂_f (n̂_f·r_f) ω_f
--   ∇∇V = Σ_e E_e L_e − Σ_f n̂_f n̂_fᵀ ω_f
--
-- over the edges e and the faces f. r_e and r_f go from the station to any point of the edge and of the face's plane. n̂_f is the face's outward unit normal, and n̂_e the unit normal
-- of an edge in the plane of one of its faces, outward from that face. E_e = n̂_A n̂_eᴬᵀ + n̂_B n̂_eᴮᵀ is a sum over the two faces A and B at the edge. L_e is the edge's logarithm,
-- below, and ω_f the solid angle that the face subtends (SolidAngle). The roundings are in the order of the Rust, which adds the terms face by face: each of the two faces at an edge
-- adds its own dyad n̂_f n̂_eᵀ of E_e. Definitions only.
use Rattle.std.specs.Prelude.{cond, Float}
use Rattle.std.specs.Float.Ieee.{lt}
use Rattle.doubles.specs.Rounded.{◌⊕◌, ◌⊖◌, ◌⊗◌, ◌⊘◌}
use Rattle.doubles.specs.Constants.{0·0, 0·5, 2·0}
use Rattle.carlson.specs.Logarithm.{ln}
use Rattle.newtonian.specs.Vectors.{dot, cross}
use Rattle.newtonian.specs.declared.Vector.{Vector}
use Rattle.newtonian.specs.declared.Hessian.{Hessian}
use Rattle.newtonian.specs.declared.Newtonian.{Newtonian}
use Rattle.polyhedron_edge_terms.specs.declared.Corner.{Corner}

-- ---- L_e = ln((r_a + r_b + e) / (r_a + r_b − e)), for the edge of length e from a to b

-- r_a + r_b − e. Where r_a·r_b < 0 it would cancel; 2|r_a × r_b|² / ((r_a r_b − r_a·r_b)(r_a + r_b + e)) is the same number and does not.
unfoldable pub gap : Corner → Corner → Float → Float
gap a b e =
    let sum = a.l ⊕ b.l in
    let ab = dot a.r b.r in
    let c = cross a.r b.r in
    cond (lt ab 0·0) (2·0 ⊗ dot c c ⊘ ((a.l ⊗ b.l ⊖ ab) ⊗ (sum ⊕ e))) (sum ⊖ e)

-- L_e is infinite on the edge itself. As computed it is not finite wherever the gap comes out as zero, below zero or a NaN; squares that underflow can do that too.
unfoldable pub logarithm : Corner → Corner → Float → Float
logarithm a b e = ln ((a.l ⊕ b.l ⊕ e) ⊘ gap a b e)

-- ---- what a face and an edge add

-- n mᵀ
unfoldable pub dyad : Vector → Vector → Hessian
dyad n m = record {
  x = record { x = n.x ⊗ m.x; y = n.x ⊗ m.y; z = n.x ⊗ m.z };
  y = record { x = n.y ⊗ m.x; y = n.y ⊗ m.y; z = n.y ⊗ m.z };
  z = record { x = n.z ⊗ m.x; y = n.z ⊗ m.y; z = n.z ⊗ m.z };
}

-- u s
abbrev pub vector_times : Vector → Float → Vector
vector_times u s = record { x = u.x ⊗ s; y = u.y ⊗ s; z = u.z ⊗ s }

-- t + u w
abbrev pub add_times : Vector → Vector → Float → Vector
add_times t u w = record { x = t.x ⊕ u.x ⊗ w; y = t.y ⊕ u.y ⊗ w; z = t.z ⊕ u.z ⊗ w }

-- t − u w
abbrev pub sub_times : Vector → Vector → Float → Vector
sub_times t u w = record { x = t.x ⊖ u.x ⊗ w; y = t.y ⊖ u.y ⊗ w; z = t.z ⊖ u.z ⊗ w }

-- the field f with the terms of the face in the plane n·r = ρ, which subtends ω
unfoldable pub add_face_terms : Vector → Float → Float → Newtonian → Newtonian
add_face_terms n ρ ω f =
    let d = dyad n n in
    record {
      potential = f.potential ⊖ 0·5 ⊗ ρ ⊗ ρ ⊗ ω;
      gradient = add_times f.gradient (vector_times n ρ) ω;
      hessian = record { x = sub_times f.hessian.x d.x ω; y = sub_times f.hessian.y d.y ω; z = sub_times f.hessian.z d.z ω };
    }

-- the field f with the terms of an edge of the face with the unit normal n: the edge's normal is m, its logarithm L, and r is the offset of a point on it
unfoldable pub add_edge_terms : Vector → Vector → Float → Vector → Newtonian → Newtonian
add_edge_terms n m L r f =
    let d = dyad n m in
    record {
      potential = f.potential ⊕ 0·5 ⊗ dot n r ⊗ dot m r ⊗ L;
      gradient = sub_times f.gradient (vector_times n (dot m r)) L;
      hessian = record { x = add_times f.hessian.x d.x L; y = add_times f.hessian.y d.y L; z = add_times f.hessian.z d.z L };
    }

-- ---- the end: entries (i, j) and (j, i) of the Hessian both become their mean

abbrev pub mean : Float → Float → Float
mean a b = 0·5 ⊗ (a ⊕ b)

unfoldable pub symmetric : Hessian → Hessian
symmetric t =
    let xy = mean t.x.y t.y.x in
    let xz = mean t.x.z t.z.x in
    let yz = mean t.y.z t.z.y in
    record {
      x = record { x = t.x.x; y = xy; z = xz };
      y = record { x = xy; y = t.y.y; z = yz };
      z = record { x = xz; y = yz; z = t.z.z };
    }
