-- A station's number shows in a refusal alone, never in the field. Assumes nothing. States:
-- `prism_at-value`: the field under one number is the field under every other;
-- `prism_at_too_deep`: what is refused under one number is refused under every other, by 10 with that number.
use Rattle.std.specs.Prelude.{◌≡◌, refl, ℕ, zero, suc}
use Rattle.std.proofs.Math.Path.{sym, ap}
use Rattle.std.proofs.Common.{ap₂, ◌∙◌}
use Rattle.std.specs.Prelude.{Ok, Err}
use Rattle.refusals.specs.Answer.{Answer}
use Rattle.refusals.specs.declared.Refusal.{Refusal}
use Rattle.refusals.specs.declared.Refusal.TheVariants.{TooDeep}
use Rattle.newtonian.specs.declared.Vector.{Vector}
use Rattle.newtonian.specs.declared.Newtonian.{Newtonian}
use Rattle.prism_corner_sums.specs.declared.Bounds.{Bounds}
use Rattle.prism_pieces.specs.declared.AxisRule.{AxisRule}
use Rattle.prism_pieces.specs.declared.Piece.{Piece}
use Rattle.prism_pieces.specs.declared.Piece.TheVariants.{Whole, Halves}
use Rattle.prism_pieces.specs.Choice.{piece_of}
use Rattle.prism.specs.Prism.{join, field_or, pieces, max_bisections, prism_at}

-- an answer under the number j: the same field, or 10 with j
abbrev too_deep_under : ℕ → Answer Newtonian → Answer Newtonian
too_deep_under j (Ok g) = Ok g
too_deep_under j (Err r) = Err (TooDeep j)

under_join : (j : ℕ) (a b : Answer Newtonian) → too_deep_under j (join a b) ≡ join (too_deep_under j a) (too_deep_under j b)
unfolding join
under_join j (Err r) b = refl
under_join j (Ok f) (Err r) = refl
under_join j (Ok f) (Ok g) = refl

under_piece : (j : ℕ) (q : Piece) (h k : Bounds → Bounds → Answer Newtonian) → ((l u : Bounds) → too_deep_under j (h l u) ≡ k l u)
    → too_deep_under j (field_or q h) ≡ field_or q k
under_piece j (Whole f) h k e = refl
under_piece j (Halves l u) h k e = e l u

under_pieces : (rule : AxisRule) (i j n : ℕ) (p lo hi : Vector) → too_deep_under j (pieces rule i n p lo hi) ≡ pieces rule j n p lo hi
unfolding pieces
under_pieces rule i j zero p lo hi = under_piece j (piece_of rule p lo hi) (λ l u. Err (TooDeep i)) (λ l u. Err (TooDeep j)) (λ l u. refl)
under_pieces rule i j (suc n) p lo hi =
    under_piece j (piece_of rule p lo hi) (λ l u. join (pieces rule i n p l.lo l.hi) (pieces rule i n p u.lo u.hi))
    (λ l u. join (pieces rule j n p l.lo l.hi) (pieces rule j n p u.lo u.hi))
    (λ l u. under_join j (pieces rule i n p l.lo l.hi) (pieces rule i n p u.lo u.hi) ∙ ap₂ join (under_pieces rule i j n p l.lo l.hi) (under_pieces rule i j n p u.lo u.hi))

module _ (rule : AxisRule) (i j : ℕ) (p lo hi : Vector) where
  pub prism_at-value : (g : Newtonian) → prism_at rule i p lo hi ≡ Ok g → prism_at rule j p lo hi ≡ Ok g
  unfolding prism_at
  prism_at-value g e = sym (under_pieces rule i j max_bisections p lo hi) ∙ ap (too_deep_under j) e

  pub prism_at_too_deep : (r : Refusal) → prism_at rule i p lo hi ≡ Err r → prism_at rule j p lo hi ≡ Err (TooDeep j)
  unfolding prism_at
  prism_at_too_deep r e = sym (under_pieces rule i j max_bisections p lo hi) ∙ ap (too_deep_under j) e
