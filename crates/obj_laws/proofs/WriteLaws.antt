-- It writes exactly when. States: `writes_exactly`: `write_obj` has no cause of refusal exactly where each of its causes is denied by itself, as `Writable` has it; `whole_exactly`: the test of
-- its coordinates holds exactly where the double is a whole number within the limit. Assumes nothing.
use Rattle.std.specs.Prelude.{◌≡◌, refl, Bool, true, false, List, ◌↔◌, ℕ, zero, suc, ◌*◌, ◌/◌, ◌%◌, ◌<◌, eqb, leb, length, get_or, Float, Ok}
use Rattle.std.proofs.Common.{sym, ap, ◌∙◌, arith, eq-eqb, eqb-true, le-leb, leb-true}
use Rattle.std.proofs.lemmas.Bool.{false≢true, and_parts}
use Rattle.std.proofs.Math.Nat.{div-add-mod', mul-div_left, mul-mod_left}
use Rattle.std.proofs.Math.IntN.{nat_abs}
use Rattle.std.specs.Float.{nan, inf, fin}
use Rattle.std.specs.Float.Ieee.{up, down}
use Rattle.std.specs.Float.Ieee.Fits.{down_pos}
use Rattle.refusals.specs.declared.Refusal.TheVariants.{OutOfLimits, TooShort}
use Rattle.refusals.specs.Causes.{or_else}
use Rattle.refusals.proofs.Causes.{both, holds, passes}
use Rattle.doubles.specs.Magnitude.{negative}
use Rattle.mesh.specs.Check.{malformed, too_many, no_such_vertex}
use Rattle.mesh.specs.Surface.{vertex_count}
use Rattle.mesh.specs.CauseLaws.{none-malformed, malformed-none, none-many, many-none, none_each, each_none, none-vertex, vertex-none}
use Rattle.obj.specs.Whole.{is_whole}
use Rattle.obj.specs.Writer.{text_of, max_coordinate, not_whole, text_too_short, given_cause, writer_cause}
use Rattle.obj_laws.specs.Writable.{signed, WholeWithin, Writable}

-- ---- 3

abs_signed : (s : Bool) (n : ℕ) → nat_abs (signed s n) ≡ n
abs_signed false n = refl
abs_signed true zero = refl
abs_signed true (suc n) = refl

module _ (limit : ℕ) where
  whole_plain : (x : Float) → is_whole limit x ≡ true → WholeWithin limit x
  unfolding is_whole negative
  whole_plain nan h = absurd (false≢true h)
  whole_plain (inf s) h = absurd (false≢true h)
  whole_plain (fin s m e) h =
      let a = m * up e in
      let q = a / down e in
      let t = and_parts (eqb (a % down e) 0) (leb q limit) h in
      let abs = abs_signed s q in
      let r : a % down e ≡ 0 = eqb-true (a % down e) 0 t.0 in
      let exact : a ≡ q * down e = omega (arith, div-add-mod' a (down e)) in
      record {
        z = signed s q;
        means = record { number = refl; size = exact ∙ ap (λ (k : ℕ). k * down e) (sym abs); sign = ap (signed s) abs };
        small = omega (arith, leb-true q limit t.1);
      }

  plain_whole : (x : Float) → WholeWithin limit x → is_whole limit x ≡ true
  unfolding is_whole
  plain_whole nan h = absurd (false≢true h.means.number)
  plain_whole (inf s) h = absurd (false≢true h.means.number)
  plain_whole (fin s m e) h =
      let size = h.means.size in
      let r : m * up e % down e ≡ 0 = ap (λ (k : ℕ). k % down e) size ∙ mul-mod_left (nat_abs h.z) (down e) in
      let q : m * up e / down e ≡ nat_abs h.z = ap (λ (k : ℕ). k / down e) size ∙ mul-div_left (nat_abs h.z) (down_pos e) in
      rw (eq-eqb (m * up e % down e) 0 r, le-leb (m * up e / down e) limit (omega (arith, h.small)))

  pub whole_exactly : (x : Float) → (is_whole limit x ≡ true) ↔ WholeWithin limit x
  whole_exactly x = (whole_plain x, plain_whole x)

none_whole : (v : List Float) → not_whole v ≡ Ok tt → (i : ℕ) → i < length v → WholeWithin max_coordinate (get_or v i nan)
unfolding not_whole
none_whole v e i l = whole_plain max_coordinate (get_or v i nan) (none_each (length v) (λ j. is_whole max_coordinate (get_or v j nan)) (λ j. OutOfLimits) e i l)

whole_none : (v : List Float) → ((i : ℕ) → i < length v → WholeWithin max_coordinate (get_or v i nan)) → not_whole v ≡ Ok tt
unfolding not_whole
whole_none v h = each_none (length v) (λ j. is_whole max_coordinate (get_or v j nan)) (λ j. OutOfLimits) (λ i l. plain_whole max_coordinate (get_or v i nan) (h i l))

-- ---- all of them

module _ (v : List Float) (f : List ℕ) (n : ℕ) where
  none_writable : writer_cause v f n ≡ Ok tt → Writable v f n
  unfolding writer_cause given_cause text_too_short
  none_writable e =
      let vertex = no_such_vertex (vertex_count v) f in
      let w = both (or_else (malformed v f) (or_else (too_many v f) (or_else (not_whole v) vertex))) (text_too_short v f n) e in
      let a = both (malformed v f) (or_else (too_many v f) (or_else (not_whole v) vertex)) w.0 in
      let b = both (too_many v f) (or_else (not_whole v) vertex) a.1 in
      let c = both (not_whole v) vertex b.1 in
      let triples = none-malformed v f a.0 in
      let few = none-many v f b.0 in
      record {
        coordinates = triples.0;
        corners = triples.1;
        vertices = few.0;
        faces = few.1;
        values = none_whole v c.0;
        indices = none-vertex v f c.1;
        room = leb-true (length (text_of v f)) n (holds (leb (length (text_of v f)) n) TooShort w.1);
      }

  writable_none : Writable v f n → writer_cause v f n ≡ Ok tt
  unfolding writer_cause given_cause text_too_short
  writable_none h =
      rw (malformed-none v f h.coordinates h.corners, many-none v f h.vertices h.faces, whole_none v h.values, vertex-none v f h.indices)
      (passes (leb (length (text_of v f)) n) TooShort (le-leb (length (text_of v f)) n h.room))

  pub writes_exactly : (writer_cause v f n ≡ Ok tt) ↔ Writable v f n
  writes_exactly = (none_writable, writable_none)
