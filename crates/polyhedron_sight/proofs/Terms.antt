-- The solid angle by its parts. Assumes nothing.
use mathlib.Core.Path.{◌≡◌, sym, ap, ap₂, ◌∙◌}
use mathlib.Core.Bool.{false, true}
use lib.Ieee.{Float, eq, ne}
use borrow.Author.Tests.{not-true}
use Rattle.doubles.specs.Rounded.{◌⊗◌}
use Rattle.doubles.specs.Constants.{0·0, 2·0}
use Rattle.carlson.specs.Arctangent.{atan2}
use Rattle.newtonian.specs.declared.Vector.{Vector}
use Rattle.polyhedron_edge_terms.specs.SolidAngle.{solid_angle}
use Rattle.polyhedron_edge_terms.specs.declared.Corner.{Corner}
use Rattle.polyhedron_sight.specs.Sight.{triple, denominator}

pub triple-same : {a b c a' b' c' : Corner} → a ≡ a' → b ≡ b' → c ≡ c' → triple a b c ≡ triple a' b' c'
triple-same p q r = rw (p, q, r)

pub denominator-same : {a b c a' b' c' : Corner} → a ≡ a' → b ≡ b' → c ≡ c' → denominator a b c ≡ denominator a' b' c'
denominator-same p q r = rw (p, q, r)

angle-is : (n : Vector) (a b c : Corner) → eq (triple a b c) 0·0 ≡ false → 2·0 ⊗ atan2 (triple a b c) (denominator a b c) ≡ solid_angle n a b c
unfolding triple denominator solid_angle
angle-is n a b c h = simp h

differs : (x y : Float) → ne x y ≡ true → eq x y ≡ false
unfolding ne
differs x y h = not-true (eq x y) h

pub angle_parts : (n : Vector) (a b c : Corner) {s t v : Float} → s ≡ triple a b c → t ≡ denominator a b c → v ≡ atan2 s t → ne s 0·0 ≡ true → 2·0 ⊗ v ≡ solid_angle n a b c
angle_parts n a b c es et ev h =
    ap (λ (w : Float). 2·0 ⊗ w) ev ∙ ap₂ (λ (p q : Float). 2·0 ⊗ atan2 p q) es et ∙ angle-is n a b c (differs (triple a b c) 0·0 (ap (λ (w : Float). ne w 0·0) (sym es) ∙ h))
