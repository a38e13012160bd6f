-- What the causes 16, 1 and 2 say of bytes, as the code tests it. Assumes nothing.
use mathlib.Core.Path.{◌≡◌, refl, sym, ap, ◌∙◌}
use mathlib.Core.Bool.{true, false}
use mathlib.Core.List.{List, []}
use Prim.Native.Nat.{ℕ, ◌+◌, ◌*◌, ◌-◌, ◌≤◌, ◌<◌}
use native.Mathlib.Omega.{arith}
use lib.Dec.{eqb}
use lib.ListN.{length, take, drop}
use borrow.Author.Tests.{le-leb, lt-leb, eq-eqb, ne_eqb, lt-ltb, le-ltb}
use Rattle.refusals.specs.Answer.{or_answer}
use Rattle.refusals.specs.Causes.{Cause}
use Rattle.refusals.specs.declared.Refusal.{Refusal}
use Rattle.refusals.specs.declared.Refusal.TheVariants.{Malformed, TooMany, WrongLength}
use Rattle.std.specs.Prelude.{Ok, Err}
use Rattle.refusals.proofs.Causes.{both, holds}
use Rattle.sheet_rows.proofs.Counts.{counts_each}
use Rattle.sheet.specs.Bytes.{trailer_length, pointer_of}
use Rattle.sheet_rows.specs.Kinds.{known_kind, within_counts}
use Rattle.sheet.specs.Writer.{malformed}
use Rattle.sheet_laws.specs.Reading.{none-length}
use Rattle.sheet.specs.Checker.{kind_in, vertices_in, faces_in, stations_in, pointer_in, pointer_for, rows_start, row_start, row_length, parse, wrong_length, opening_cause, rows_part, row_part}
use Rattle.sheet_readers.specs.declared.TrailerFields.{TrailerFields}
use Rattle.sheet_readers.specs.Opened.{Opened}
use Rattle.sheet_readers.specs.Parts.{InTrailer, trailer_fields}
use Rattle.sheet_readers.proofs.Parsed.{malformed_parsed, many_parsed}

-- a cause, or else a trailer
refused_cause : (c : Cause) (t : TrailerFields) {r : Refusal} → Err r ≡ or_answer c (Ok t) → c ≡ Err r
refused_cause (Ok _) t e = absurd (let z : ◌≡◌ {A = ℕ} 0 1 = cc in omega arith)
refused_cause (Err s) t e = cc

no_cause : (c : Cause) {t u : TrailerFields} → Ok u ≡ or_answer c (Ok t) → (c ≡ Ok tt) × (u ≡ t)
no_cause (Ok _) e = (refl, cc)
no_cause (Err s) e = absurd (let z : ◌≡◌ {A = ℕ} 0 1 = cc in omega arith)

module _ (b : List ℕ) where
  -- what is known of bytes that 16, 1 and 2 let through
  pub opened : opening_cause b ≡ Ok tt → Opened b
  unfolding opening_cause
  opened e =
      let a = both (wrong_length b) _ e in
      let c = both (malformed (parse b)) _ a.1 in
      let w = none-length b a.0 in
      let t = holds (within_counts (vertices_in b) (faces_in b) (stations_in b)) TooMany (sym (many_parsed b) ∙ c.1) in
      let u = counts_each (vertices_in b) (faces_in b) (stations_in b) t in
      record {
        trailer = w.0;
        whole = w.1.1;
        known = holds _ Malformed (sym (malformed_parsed b) ∙ c.0);
        vertices = u.0;
        faces = u.1;
        stations = u.2;
      }

  -- what was read of the trailer, field by field
  pub in_trailer : (t : TrailerFields) → t ≡ trailer_fields b → InTrailer b t
  unfolding trailer_fields
  in_trailer t e = rw e (record { kind = refl; vertices = refl; faces = refl; stations = refl; magnetisation = refl; ambient = refl; volume = refl })

  pub pointer_read : (k v f s : ℕ) → k ≡ kind_in b → v ≡ vertices_in b → f ≡ faces_in b → s ≡ stations_in b → pointer_of k v f s ≡ pointer_for b
  pointer_read k v f s p q r t = ap (λ (x : ℕ). pointer_of x v f s) p ∙ rw (q, r, t)

  -- ---- as the code tests it

  pub short : length b < trailer_length → Err WrongLength ≡ wrong_length b
  unfolding wrong_length
  short h = rw (lt-leb trailer_length (length b) h)

  module _ (n : ℕ) (h : trailer_length ≤ length b) (e : n ≡ pointer_for b) where
    pub wrong_pointer : (p : ℕ) → p ≡ pointer_in b → (p ≡ n → ⊥) → Err WrongLength ≡ wrong_length b
    unfolding wrong_length
    wrong_pointer p ep u = rw (le-leb trailer_length (length b) h, ne_eqb (pointer_in b) (pointer_for b) (λ q. u (ep ∙ q ∙ sym e)))

    module _ (p : ℕ) (ep : p ≡ pointer_in b) (q : p ≡ n) where
      right-pointer : eqb (pointer_in b) (pointer_for b) ≡ true
      right-pointer = eq-eqb (pointer_in b) (pointer_for b) (sym ep ∙ q ∙ e)

      pub not-whole : (length b ≡ n + trailer_length → ⊥) → Err WrongLength ≡ wrong_length b
      unfolding wrong_length
      not-whole u = rw (le-leb trailer_length (length b) h, right-pointer, ne_eqb (length b) (pointer_for b + trailer_length) (λ w. u (w ∙ ap (λ (m : ℕ). m + trailer_length) (sym e))))

      pub right-length : length b ≡ n + trailer_length → Ok tt ≡ wrong_length b
      unfolding wrong_length
      right-length w = rw (le-leb trailer_length (length b) h, right-pointer, eq-eqb (length b) (pointer_for b + trailer_length) (w ∙ ap (λ (m : ℕ). m + trailer_length) e))

  -- 16, with the trailer, and then 1 and 2
  module _ (t : TrailerFields) where
    pub refused-length : (r : Refusal) → Err r ≡ or_answer (wrong_length b) (Ok t) → opening_cause b ≡ Err r
    unfolding opening_cause
    refused-length r e = rw (refused_cause (wrong_length b) t e)

    pub length-passed : (u : TrailerFields) → Ok u ≡ or_answer (wrong_length b) (Ok t) → (wrong_length b ≡ Ok tt) × (u ≡ t)
    length-passed u e = no_cause (wrong_length b) e

  module _ (e : wrong_length b ≡ Ok tt) where
    pub unknown : known_kind (kind_in b) (vertices_in b) (faces_in b) ≡ false → opening_cause b ≡ Err Malformed
    unfolding opening_cause
    unknown u = rw (e, malformed_parsed b, u)

    pub too_many : known_kind (kind_in b) (vertices_in b) (faces_in b) ≡ true → within_counts (vertices_in b) (faces_in b) (stations_in b) ≡ false → opening_cause b ≡ Err TooMany
    unfolding opening_cause
    too_many k u = rw (e, malformed_parsed b, k, many_parsed b, u)

    pub opens : known_kind (kind_in b) (vertices_in b) (faces_in b) ≡ true → within_counts (vertices_in b) (faces_in b) (stations_in b) ≡ true → opening_cause b ≡ Ok tt
    unfolding opening_cause
    opens k u = rw (e, malformed_parsed b, k, many_parsed b, u)

  -- ---- the parts

  pub no_rows : (r : Refusal) → opening_cause b ≡ Err r → ◌≡◌ {A = List ℕ} [] (rows_part b)
  unfolding rows_part
  no_rows r e = rw e

  pub rows_from : opening_cause b ≡ Ok tt → (start end : ℕ) → start ≡ rows_start b → end ≡ length b - trailer_length → take (end - start) (drop start b) ≡ rows_part b
  unfolding rows_part
  rows_from e start end p q =
      let o = opened e in
      let m : end - start ≡ row_length b * stations_in b = omega (arith, o.whole) in
      rw (e, m, p)

  pub no_row : (i : ℕ) (r : Refusal) → opening_cause b ≡ Err r → ◌≡◌ {A = List ℕ} [] (row_part b i)
  unfolding row_part
  no_row i r e = rw e

  pub past_rows : (i : ℕ) → opening_cause b ≡ Ok tt → stations_in b ≤ i → ◌≡◌ {A = List ℕ} [] (row_part b i)
  unfolding row_part
  past_rows i e h = rw (e, le-ltb i (stations_in b) h)

  pub row_from : (i : ℕ) → opening_cause b ≡ Ok tt → i < stations_in b → (start end : ℕ) → start ≡ row_start b i → end ≡ start + row_length b
      → take (end - start) (drop start b) ≡ row_part b i
  unfolding row_part
  row_from i e h start end p q =
      let m : end - start ≡ row_length b = omega arith in
      rw (e, lt-ltb i (stations_in b) h, m, p)
