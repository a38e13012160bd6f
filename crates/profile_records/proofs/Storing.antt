-- Records that are stored one after the other, up to the first station that is refused. States: `none_written`, `next-written`: no record yet, and one more; `stopped`, `ended`: the call is
-- done, where a station is refused or there are no more. Assumes nothing.
use mathlib.Core.List.{List, ◌++◌, append_assoc}
use mathlib.Core.Path.{◌≡◌, refl, sym, ap}
use Prim.Native.Nat.{ℕ, suc, ◌+◌, ◌*◌, ◌<◌}
use native.Mathlib.Numerals.{add-one}
use native.Mathlib.Omega.{arith}
use lib.Ieee.{Float}
use lib.ListN.{drop, take}
use lib.Seq.{drop_at, drop-drop, take_at}
use Rattle.std.specs.Prelude.{Ok, Err}
use Rattle.refusals.specs.Answer.{Answer}
use Rattle.profile_records.specs.Records.{cause_of, is_refused, records, fields_after, Written, Done}
use Rattle.profile_records.specs.RecordsLaws.{records-length, filled_is, filled-all}
use Rattle.newtonian.specs.Vectors.{field_numbers, field_size}
use Rattle.newtonian.specs.declared.Newtonian.{Newtonian}
use Rattle.refusals.proofs.Causes.{more, stop}
use Rattle.refusals.specs.Causes.{first_of}
use Rattle.refusals.specs.declared.Refusal.{Refusal}

module _ (a : ℕ → Answer Newtonian) where
  pub none_written : (o : List Float) → Written a 0 o o
  unfolding first_of records
  none_written o = record { none = refl; fields = refl }

  -- the m numbers after the first 13 k of l become those of station k
  pub next-written : (k m : ℕ) (o l ys : List Float) (x : Newtonian) → Written a k o l → a k ≡ Ok x → m ≡ field_size → ys ≡ field_numbers x
      → Written a (k + 1) o (take (field_size * k) l ++ (ys ++ drop m (drop (field_size * k) l)))
  unfolding records
  next-written k m o l ys x w e q h =
      let R = records a k in
      let n = records-length a k w.none in
      let z : field_size * k + field_size ≡ field_size * (k + 1) = omega arith in
      record {
        none = more k (λ i. cause_of (a i)) w.none (ap cause_of e);
        fields = rw (h, w.fields, take_at R (drop (field_size * k) o) (field_size * k) n, drop_at R (drop (field_size * k) o) (field_size * k) n, q, drop-drop field_size (field_size * k) o, z, add-one k, e)
            (sym (append_assoc R (field_numbers x) (drop (field_size * suc k) o)));
      }

  pub stopped : (k n : ℕ) (o l : List Float) (r : Refusal) → Written a k o l → k < n → a k ≡ Err r → Done a n o (Err r) l
  unfolding fields_after
  stopped k n o l r w h e = record {
    cause = sym (stop n k (λ i. cause_of (a i)) r h w.none (ap cause_of e));
    fields = rw (filled_is a k n (omega arith) w.none (λ _. ap is_refused e)) w.fields;
  }

  pub ended : (n : ℕ) (o l : List Float) → Written a n o l → Done a n o (Ok tt) l
  unfolding fields_after
  ended n o l w = record { cause = sym w.none; fields = rw (filled-all a n w.none) w.fields }
