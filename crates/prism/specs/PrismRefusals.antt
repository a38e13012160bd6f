-- Which refusals the prism's answers have. Assumes nothing. States:
-- `prism_at-refused`: the field at the station of number i is refused by 10 with the station i alone;
-- `prism-refused`: the public call is refused by 3, by 9, or by 10 with the station 0, and by no other number.
use Rattle.std.specs.Prelude.{◌≡◌, Bool, true, false, ◌⊎◌, ℕ, zero, suc}
use Rattle.std.proofs.Common.{inl, inr}
use Rattle.refusals.specs.Causes.{or_else, unless}
use Rattle.std.specs.Prelude.{Ok, Err}
use Rattle.refusals.specs.Answer.{Answer, or_answer}
use Rattle.refusals.specs.declared.Refusal.{Refusal}
use Rattle.refusals.specs.declared.Refusal.TheVariants.{OutOfLimits, TooThin, TooDeep}
use Rattle.newtonian.specs.declared.Vector.{Vector}
use Rattle.newtonian.specs.declared.Newtonian.{Newtonian}
use Rattle.prism_corner_sums.specs.declared.Bounds.{Bounds}
use Rattle.prism_pieces.specs.declared.AxisRule.{AxisRule}
use Rattle.prism_pieces.specs.declared.AxisRule.TheVariants.{FirstOfEquals}
use Rattle.prism_pieces.specs.declared.Piece.{Piece}
use Rattle.prism_pieces.specs.declared.Piece.TheVariants.{Whole, Halves}
use Rattle.prism_pieces.specs.Choice.{piece_of}
use Rattle.prism.specs.Prism.{join, field_or, pieces, max_bisections, prism_at, numbers_within_limits, sides_within_limits, cause_of, prism}

-- whatever refuses a is 10 with the station i
OnlyTooDeep : ℕ → Answer Newtonian → Type 0
OnlyTooDeep i a = (r : Refusal) → a ≡ Err r → r ≡ TooDeep i

only-join : (i : ℕ) (a b : Answer Newtonian) → OnlyTooDeep i a → OnlyTooDeep i b → OnlyTooDeep i (join a b)
unfolding join OnlyTooDeep
only-join i (Err s) b p q r e = p r e
only-join i (Ok f) (Err s) p q r e = q r e
only-join i (Ok f) (Ok g) p q r e = cc

only_piece : (i : ℕ) (q : Piece) (halves : Bounds → Bounds → Answer Newtonian) → ((l u : Bounds) → OnlyTooDeep i (halves l u)) → OnlyTooDeep i (field_or q halves)
unfolding OnlyTooDeep
only_piece i (Whole f) halves h r e = cc
only_piece i (Halves l u) halves h r e = h l u r e

only-pieces : (rule : AxisRule) (i n : ℕ) (p lo hi : Vector) → OnlyTooDeep i (pieces rule i n p lo hi)
unfolding pieces OnlyTooDeep
only-pieces rule i zero p lo hi = only_piece i (piece_of rule p lo hi) (λ l u. Err (TooDeep i)) (λ l u r e. cc)
only-pieces rule i (suc n) p lo hi =
    only_piece i (piece_of rule p lo hi) (λ l u. join (pieces rule i n p l.lo l.hi) (pieces rule i n p u.lo u.hi))
    (λ l u. only-join i (pieces rule i n p l.lo l.hi) (pieces rule i n p u.lo u.hi) (only-pieces rule i n p l.lo l.hi) (only-pieces rule i n p u.lo u.hi))

pub prism_at-refused : (rule : AxisRule) (i : ℕ) (p lo hi : Vector) (r : Refusal) → prism_at rule i p lo hi ≡ Err r → r ≡ TooDeep i
unfolding prism_at OnlyTooDeep
prism_at-refused rule i p lo hi r e = only-pieces rule i max_bisections p lo hi r e

prism_in_order : (a b : Bool) (c : Answer Newtonian) → OnlyTooDeep 0 c → (r : Refusal) → or_answer (or_else (unless a OutOfLimits) (unless b TooThin)) c ≡ Err r → (r ≡ OutOfLimits) ⊎ ((r ≡ TooThin) ⊎ (r ≡ TooDeep 0))
unfolding OnlyTooDeep
prism_in_order false b c h r e = inl cc
prism_in_order true false c h r e = inr (inl cc)
prism_in_order true true c h r e = inr (inr (h r e))

pub prism-refused : (p lo hi : Vector) (r : Refusal) → prism p lo hi ≡ Err r → (r ≡ OutOfLimits) ⊎ ((r ≡ TooThin) ⊎ (r ≡ TooDeep 0))
unfolding prism cause_of OnlyTooDeep
prism-refused p lo hi r e = prism_in_order (numbers_within_limits p lo hi) (sides_within_limits lo hi) (prism_at FirstOfEquals 0 p lo hi) (prism_at-refused FirstOfEquals 0 p lo hi) r e
