-- Paired mates: what the code finds of one use and of a face; they are reverses, and give the edges. Assumes nothing.
use mathlib.Core.Path.{◌≡◌, refl, sym, ap, ap₂, subst, ◌∙◌}
use mathlib.Core.Bool.{true}
use mathlib.Core.List.{List}
use Prim.Native.Nat.{ℕ, ◌+◌, ◌*◌, ◌/◌, ◌%◌, ◌<◌}
use native.Mathlib.Omega.{arith}
use lib.ListN.{length, get_or}
use borrow.Author.Count.{below_more}
use borrow.Author.Tests.{eq-eqb, lt-ltb}
use Rattle.refusals.specs.declared.Refusal.TheVariants.{WrongMate}
use Rattle.std.specs.Prelude.{Ok, Err}
use Rattle.refusals.specs.Causes.{Cause, or_else}
use Rattle.mesh_orders.specs.Edges.{from, to, edge_number, edge, reverse}
use Rattle.mesh.specs.CauseLaws.{each_none}
use Rattle.sheet.specs.Checker.{is_reverse, wrong_mate}
use Rattle.checker_order.specs.Paired.{PairedAt, PairedFace, Paired}

-- ---- what is found of a use u: its mate w is a use that leaves x and has the mate u

abbrev pub Found : List ℕ → List ℕ → ℕ → ℕ → ℕ → Type 0
Found f m u w x = (w < length f) × (from f w ≡ x) × (get_or m w 0 ≡ u)

module _ (f m : List ℕ) where
  paired_at : (u w x : ℕ) → w ≡ get_or m u 0 → x ≡ to f u → Found f m u w x → PairedAt f m u
  paired_at u w x e q k = record { within = omega (arith, e, k.0); meets = ap (from f) (sym e) ∙ k.1 ∙ q; back = ap (λ (z : ℕ). get_or m z 0) (sym e) ∙ k.2 }

  -- of the three uses of a face
  pub paired_face : (i w w' w'' : ℕ) → i % 3 ≡ 0 → w ≡ get_or m i 0 → w' ≡ get_or m (i + 1) 0 → w'' ≡ get_or m (i + 2) 0
      → Found f m i w (get_or f (i + 1) 0) → Found f m (i + 1) w' (get_or f (i + 2) 0) → Found f m (i + 2) w'' (get_or f i 0) → PairedFace f m i
  paired_face i w w' w'' t e e' e'' k k' k'' =
      let n : i + 1 ≡ i / 3 * 3 + (i + 1) % 3 = omega arith in
      let n' : i + 2 ≡ (i + 1) / 3 * 3 + (i + 1 + 1) % 3 = omega arith in
      let n'' : i ≡ (i + 2) / 3 * 3 + (i + 2 + 1) % 3 = omega arith in
      record {
        first = paired_at i w _ e (ap (λ (z : ℕ). get_or f z 0) n) k;
        second = paired_at (i + 1) w' _ e' (ap (λ (z : ℕ). get_or f z 0) n') k';
        third = paired_at (i + 2) w'' _ e'' (ap (λ (z : ℕ). get_or f z 0) n'') k'';
      }

pub face-more : (f m : List ℕ) (i : ℕ) → ((u : ℕ) → u < i → PairedAt f m u) → PairedFace f m i → (u : ℕ) → u < i + 3 → PairedAt f m u
face-more f m i all p =
    let two : i + 2 ≡ i + 1 + 1 = omega arith in
    let three : i + 1 + 1 + 1 ≡ i + 3 = omega arith in
    subst (λ (n : ℕ). (u : ℕ) → u < n → PairedAt f m u) three
    (below_more _ (i + 1 + 1) (below_more _ (i + 1) (below_more _ i all p.first) p.second) (subst (PairedAt f m) two p.third))

-- ---- what follows

module _ (f m : List ℕ) (h : Paired f m) where
  pub mate-edge : (u : ℕ) → u < length f → edge_number (from f u) (from f (get_or m u 0)) ≡ edge f u
  unfolding edge
  mate-edge u l = ap (edge_number (from f u)) (h u l).meets

  paired_reverse : (u : ℕ) → u < length f → is_reverse f m u ≡ true
  unfolding edge reverse
  paired_reverse u l =
      let w = get_or m u 0 in
      let a = h u l in
      let c = h w a.within in
      rw (lt-ltb w (length f) a.within) (eq-eqb _ _ (ap₂ edge_number a.meets (sym c.meets ∙ ap (from f) a.back)))

  no_wrong_mate : wrong_mate f m ≡ Ok tt
  unfolding wrong_mate
  no_wrong_mate = each_none (length f) (is_reverse f m) (λ u. WrongMate) paired_reverse

  -- so that the first cause decides
  pub order_alone : (c : Cause) → c ≡ or_else c (wrong_mate f m)
  order_alone (Ok _) = sym no_wrong_mate
  order_alone (Err r) = refl
