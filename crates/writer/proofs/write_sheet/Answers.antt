-- `writer::write_sheet` meets its contract: the causes 1, 2, 12 and 3 in order, then those of `write_counted`; and demand 3. Assumes nothing.
use Rattle.std.proofs.lemmas.Result.{err_from_is_err_and}
use mathlib.Core.Path.{refl, sym, ◌∙◌}
use Rattle.std.specs.Prelude.{T}
use mathlib.Core.List.{List}
use Prim.Native.Nat.{ℕ, ◌<◌, ◌^◌}
use lib.Ieee.{Float, binary64, fits, nan}
use lib.ListN.{length, get_or}
use Rattle.newtonian.specs.declared.Vector.{Vector}
use Rattle.sheet.specs.Input.{input_of}
use Rattle.sheet.specs.Promises.{Typed, VectorFits}
use Rattle.writer_causes.specs.LengthsCause.{Lengths}
use Rattle.writer.proofs.Stages.{by_counts, by_limits, later}
use borrow.Author.Rules.{rules}
use Rattle.writer.proofs.write_sheet.Goals as goal

-- what is given, as one input: of the types that it has, and of these lengths
typed : {k : ℕ} {v : List Float} {f : List ℕ} {m b : Vector} {st : List Float} → k < 2 ^ 32 → ((i : ℕ) → T (fits binary64 (get_or v i nan))) → ((i : ℕ) → get_or f i 0 < 2 ^ 32)
    → VectorFits m → VectorFits b → ((i : ℕ) → T (fits binary64 (get_or st i nan))) → Typed (input_of k v f m b st)
typed k v f m b st = record { kind = k; vertices = v; faces = f; magnetisation = m; ambient = b; stations = st }

lengths : {k : ℕ} {v : List Float} {f : List ℕ} {m b : Vector} {st : List Float} → Lengths (input_of k v f m b st) k (length v) (length f) (length st)
lengths = record { kind = refl; vertices = refl; faces = refl; stations = refl }

pub returns-in_err-lengths_cause : goal.returns-in_err-lengths_cause
returns-in_err-lengths_cause c =
    let s = c.shared_slice_known-2-1 in
    let p = err_from_is_err_and c.from_residual.result c.from_residual.ensures.1 in
    rw (p.1, p.2) (by_counts _
    (typed (search rules) (λ i. c.shared_slice_known-1.given i) (λ i. (s.given i).fits) (search rules, (search rules, search rules)) (search rules, (search rules, search rules)) (λ i. c.shared_slice_known-3-1.given i))
    _ _ _ (sym (c.lengths_cause.ensures _ lengths) ∙ c.in_err-lengths_cause.was))

pub returns-in_err-number_cause : goal.returns-in_err-number_cause
returns-in_err-number_cause c =
    let s = c.shared_slice_known-2-1 in
    let p = err_from_is_err_and c.from_residual-in_err-number_cause.result c.from_residual-in_err-number_cause.ensures.1 in
    rw (p.1, p.2) (by_limits _
    (typed (search rules) (λ i. c.shared_slice_known-1.given i) (λ i. (s.given i).fits) (search rules, (search rules, search rules)) (search rules, (search rules, search rules)) (λ i. c.shared_slice_known-3-1.given i))
    _ _ _ (sym (c.lengths_cause.ensures _ lengths) ∙ c.in_ok-lengths_cause.was) (sym (c.number_cause.ensures _ _) ∙ c.in_err-number_cause.was))

pub returns : goal.returns
returns c =
    let s = c.shared_slice_known-2-1 in
    later _
    (typed (search rules) (λ i. c.shared_slice_known-1.given i) (λ i. (s.given i).fits) (search rules, (search rules, search rules)) (search rules, (search rules, search rules)) (λ i. c.shared_slice_known-3-1.given i))
    _ _ (sym (c.lengths_cause.ensures _ lengths) ∙ c.in_ok-lengths_cause.was) (sym (c.number_cause.ensures _ _) ∙ c.in_ok-number_cause.was) c.write_counted.ensures
