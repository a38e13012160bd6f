-- `profile_records::store_record` meets its contract. Assumes nothing.
use mathlib.Core.Path.{◌≡◌, refl, ◌∙◌}
use Prim.Native.Nat.{ℕ, ◌+◌, ◌*◌, ◌-◌}
use native.Mathlib.Omega.{arith}
use Rattle.std.proofs.lemmas.Result.{err_from_is_err_and}
use Rattle.profile_records.proofs.Storing.{next-written, stopped}
use Rattle.profile_records.proofs.store_record.Goals as goal

pub returns-in_err-answer-clause-by_index : goal.returns-in_err-answer-clause-by_index
returns-in_err-answer-clause-by_index c =
    let s = c.args in
    let p = err_from_is_err_and c.from_residual.result c.from_residual.ensures.1 in
    λ a o e w. rw (p.1, p.2) (record {
      on = λ z. absurd (let y : ◌≡◌ {A = ℕ} 0 1 = cc in omega arith);
      over = λ m l z. stopped a s.i m o s.fields.now _ w (omega arith) (e ∙ c.in_err-answer.was);
    })

pub returns-clause-by_index : goal.returns-clause-by_index
returns-clause-by_index c =
    let s = c.args in
    λ a o e w. record {
      on = λ z.
          next-written a s.i (13 * s.i + 13 - 13 * s.i) o s.fields.now c.copy_from_slice.new.self _ w (e ∙ c.in_ok-answer.was) (omega arith)
          (c.copy_from_slice.ensures.after ∙ c.from-numbers.ensures);
      over = λ m l z. absurd (z refl);
    }
