-- Doubles and vectors as they are read from bytes. Assumes nothing.
use mathlib.Core.Path.{◌≡◌, refl, ap, ◌∙◌}
use mathlib.Core.List.{List, [], ◌∷◌}
use Prim.Native.Nat.{ℕ, zero, suc, ◌+◌, ◌*◌, ◌<◌}
use native.Mathlib.Nat.{not-suc-le-zero}
use native.Mathlib.Omega.{arith}
use lib.ListN.{length, get_or}
use lib.Ieee.{Float, binary64, nan, of_bits}
use Rattle.newtonian.specs.declared.Vector.{Vector}
use Rattle.mesh.specs.Surface.{vertex}
use Rattle.sheet_layout.specs.LittleEndian.{number, unpack, doubles}
use Rattle.sheet_layout.proofs.Lists.{unpack-at, unpack-length}
use Rattle.sheet.specs.Checker.{vector_in}

doubles_get : (ns : List ℕ) (i : ℕ) → i < length ns → get_or (doubles ns) i nan ≡ of_bits binary64 (get_or ns i 0)
doubles_get [] i h = absurd (not-suc-le-zero h)
doubles_get (n ∷ ns) zero h = refl
doubles_get (n ∷ ns) (suc i) h = doubles_get ns i (omega arith)

module _ (b : List ℕ) (at n : ℕ) where
  -- one double of a run
  pub double-at : (i : ℕ) → i < n → get_or (doubles (unpack 8 n b at)) i nan ≡ of_bits binary64 (number 8 b (at + 8 * i))
  double-at i h =
      let e : at + i * 8 ≡ at + 8 * i = omega arith in
      doubles_get (unpack 8 n b at) i (rw unpack-length h) ∙ ap (of_bits binary64) (unpack-at 8 n b at i h ∙ ap (number 8 b) e)

vectors : {x x' y y' z z' : Float} → x ≡ x' → y ≡ y' → z ≡ z' → ◌≡◌ {A = Vector} (record { x = x; y = y; z = z }) (record { x = x'; y = y'; z = z' })
vectors p q r = cc

-- a vertex or station of a list of n
pub vertex_read : (b : List ℕ) (at n i : ℕ) → i < n → vertex (doubles (unpack 8 (3 * n) b at)) i ≡ vector_in b (at + 24 * i)
unfolding unpack
vertex_read b at n i h =
    let p : at + 8 * (3 * i) ≡ at + 24 * i = omega arith in
    let q : at + 8 * (3 * i + 1) ≡ at + 24 * i + 8 = omega arith in
    let r : at + 8 * (3 * i + 2) ≡ at + 24 * i + 8 + 8 = omega arith in
    let d : ℕ → Float = λ j. of_bits binary64 (number 8 b j) in
    vectors (double-at b at (3 * n) (3 * i) (omega arith) ∙ ap d p) (double-at b at (3 * n) (3 * i + 1) (omega arith) ∙ ap d q)
    (double-at b at (3 * n) (3 * i + 2) (omega arith) ∙ ap d r)
