-- cel by the Rust's loop (`as_written`): 64 times the first half of a round, the test, and the second half. States: `cel_as_written`: `cel_of`, which groups the
-- halves otherwise, gives the same. Assumes nothing.
use Rattle.std.specs.Prelude.{◌≡◌, refl, Bool, true, false, cond, ℕ, zero, suc, Float}
use Rattle.std.proofs.Common.{sym, ap, ◌∙◌}
use Rattle.carlson.specs.Rounds.{rounds}
use Rattle.carlson.specs.RoundLaws.{stop, none_left, one_more}
use Rattle.special_bulirsch.specs.declared.Bulirsch.{Bulirsch}
use Rattle.special_bulirsch.specs.Bulirsch.{first_half, second_half, turn, cel_test, first_bulirsch, cel_end, cel_of}

-- for _ in 0..n { first half; if the test fails { break }; second half }
pub as_written : ℕ → Bulirsch → Bulirsch
as_written zero s = s
as_written (suc n) s = cond (cel_test (first_half s)) (as_written n (second_half (first_half s))) (first_half s)

-- the end does not read what the second half changes
not_read : (s : Bulirsch) → cel_end (second_half s) ≡ cel_end s
unfolding cel_end second_half
not_read s = refl

grouped : (n : ℕ) (s : Bulirsch) → cel_end (as_written (suc n) s) ≡ cel_end (rounds cel_test turn n (first_half s))
unfolding as_written turn
grouped zero s = go (cel_test (first_half s)) ∙ sym (ap cel_end (none_left cel_test turn 0 (first_half s) refl))
  where
    go : (b : Bool) → cel_end (cond b (second_half (first_half s)) (first_half s)) ≡ cel_end (first_half s)
    go true = not_read (first_half s)
    go false = refl
grouped (suc n) s = go (cel_test (first_half s)) refl (grouped n (second_half (first_half s)))
  where
    go : (b : Bool) → cel_test (first_half s) ≡ b → cel_end (as_written (suc n) (second_half (first_half s))) ≡ cel_end (rounds cel_test turn n (turn (first_half s)))
        → cel_end (cond b (as_written (suc n) (second_half (first_half s))) (first_half s)) ≡ cel_end (rounds cel_test turn (suc n) (first_half s))
    go true e h = h ∙ sym (ap cel_end (one_more cel_test turn (suc n) n (first_half s) refl e))
    go false e h = sym (ap cel_end (stop cel_test turn (suc n) (first_half s) e))

pub cel_as_written : (kc p a b : Float) → cel_of kc p a b ≡ cel_end (as_written 64 (first_bulirsch kc p a b))
unfolding cel_of
cel_as_written kc p a b = sym (grouped 63 (first_bulirsch kc p a b))
