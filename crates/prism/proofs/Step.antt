-- `step`: what `pieces` answers, as its code has it, whether bisections are left or not. Assumes nothing.
use Prim.Native.Nat.{ℕ, zero, suc, ◌-◌}
use mathlib.Core.Path.{◌≡◌, refl}
use mathlib.Core.Bool.{cond}
use native.Mathlib.Numerals.{sub-one}
use Rattle.std.proofs.Math.Dec.{eqb-suc-zero}
use Rattle.std.specs.Prelude.{Err, eqb}
use Rattle.refusals.specs.declared.Refusal.TheVariants.{TooDeep}
use Rattle.newtonian.specs.declared.Vector.{Vector}
use Rattle.prism_pieces.specs.declared.AxisRule.{AxisRule}
use Rattle.prism_pieces.specs.Choice.{piece_of}
use Rattle.prism.specs.Prism.{join, field_or, pieces}

pub step : (rule : AxisRule) (i n : ℕ) (p lo hi : Vector) → pieces rule i n p lo hi
    ≡ field_or (piece_of rule p lo hi) (λ lower upper. cond (eqb n 0) (Err (TooDeep i)) (join (pieces rule i (n - 1) p lower.lo lower.hi) (pieces rule i (n - 1) p upper.lo upper.hi)))
unfolding pieces
step rule i zero p lo hi = refl
step rule i (suc n) p lo hi = rw (sub-one (suc n), eqb-suc-zero n) refl
