-- A step towards `Laws`. States: `smallest`, `from-smallest`: a scan of the order list for the first edge that fails a test finds the smallest edge that does, both ways; `all_pass`,
-- `pass_all`: it finds none exactly where every edge passes; `first_fail`: what a scan for the first test that fails finds. Assumes nothing.
use Rattle.std.proofs.Math.Path.{◌≡◌, refl}
use Rattle.std.proofs.Common.{sym, ap, ap₂, ◌∙◌, inl, inr, ⊎_elim, arith}
use Rattle.std.specs.Prelude.{Bool, true, false, List, length, get_or}
use Prim.Native.Nat.{ℕ, zero, suc, ◌≤◌, ◌<◌}
use Rattle.refusals.specs.declared.Refusal.{Refusal}
use Rattle.std.specs.Prelude.{Ok, Err}
use Rattle.refusals.specs.Causes.{Cause}
use Rattle.refusals.specs.Causes.{or_else, unless, first_of}
use Rattle.lists.proofs.Numbers.{below?, true≢false}
use Rattle.mesh_orders.specs.Edges.{from, to, occurrences, 2³², edge_number, Faces}
use Rattle.mesh_orders.specs.Order.{order_list}
use Rattle.mesh_orders.specs.EdgeLaws.{edge_self, has-own, has_pair, small-to, occurs_some, some_use}
use Rattle.mesh_orders.specs.OrderLaws.{order-length, order_below, place, edge-le}
use Rattle.mesh_laws.specs.Refused.{NotAfter}
use Rattle.mesh.specs.CauseLaws.{none_each, each_none}

-- ---- the first test that fails

-- test i is the first that fails, and its refusal is s
pub record FirstFail (n : ℕ) (t : ℕ → Bool) (r : ℕ → Refusal) (s : Refusal) : Type 0 where
  pub at : ℕ
  pub within : at < n
  pub fails : t at ≡ false
  pub refusal : r at ≡ s
  pub before : (k : ℕ) → k < at → t k ≡ true

module _ (t : ℕ → Bool) (r : ℕ → Refusal) where
  unless-fails : (n : ℕ) (s : Refusal) → unless (t n) (r n) ≡ Err s → (t n ≡ false) × (r n ≡ s)
  unless-fails n s e = go (t n) e
    where
      go : (b : Bool) → unless b (r n) ≡ Err s → (b ≡ false) × (r n ≡ s)
      go true q = absurd (let z : ◌≡◌ {A = ℕ} 0 1 = cc in omega arith)
      go false q = (refl, cc)

  pub first_fail : (n : ℕ) (s : Refusal) → first_of n (λ i. unless (t i) (r i)) ≡ Err s → FirstFail n t r s
  unfolding first_of
  first_fail zero s e = absurd (let z : ◌≡◌ {A = ℕ} 0 1 = cc in omega arith)
  first_fail (suc n) s e = go (first_of n (λ i. unless (t i) (r i))) refl e (λ q. first_fail n s q)
    where
      go : (c : Cause) → first_of n (λ i. unless (t i) (r i)) ≡ c → or_else c (unless (t n) (r n)) ≡ Err s
          → (first_of n (λ i. unless (t i) (r i)) ≡ Err s → FirstFail n t r s) → FirstFail (suc n) t r s
      go (Ok _) q p rest =
          let u = unless-fails n s p in
          record { at = n; within = omega arith; fails = u.0; refusal = u.1; before = none_each n t r q }
      go (Err x) q p rest =
          let f = rest (q ∙ p) in
          record { at = f.at; within = omega (arith, f.within); fails = f.fails; refusal = f.refusal; before = f.before }

-- ---- pairs in order

pub not_after : (a b c d : ℕ) → b < 2³² → d < 2³² → edge_number a b ≤ edge_number c d → NotAfter a b c d
not_after a b c d hb hd l = ⊎_elim (λ q. inl q) (λ q. inr (omega arith)) (below? a c)

both_ways : (a b c d : ℕ) → NotAfter a b c d → NotAfter c d a b → (a ≡ c) × (b ≡ d)
both_ways a b c d (inl p) (inl q) = absurd (omega arith)
both_ways a b c d (inl p) (inr q) = absurd (omega (arith, q.0))
both_ways a b c d (inr p) (inl q) = absurd (omega (arith, p.0))
both_ways a b c d (inr p) (inr q) = omega (arith, p.0, p.1, q.1)

-- (a, b) is the smallest edge that occurs and fails the test T
pub record Smallest (f : List ℕ) (T : ℕ → ℕ → Bool) (a b : ℕ) : Type 0 where
  pub occurs : 1 ≤ occurrences f a b
  pub fails : T a b ≡ false
  pub least : (c d : ℕ) → 1 ≤ occurrences f c d → T c d ≡ false → NotAfter a b c d

-- the scan, with the test T and the refusal R of an edge
module _ (f : List ℕ) (h : Faces f) (T : ℕ → ℕ → Bool) (R : ℕ → ℕ → Refusal) where
  abbrev test : ℕ → Bool
  test i = T (from f (get_or (order_list f) i 0)) (to f (get_or (order_list f) i 0))

  abbrev refusal_at : ℕ → Refusal
  refusal_at i = R (from f (get_or (order_list f) i 0)) (to f (get_or (order_list f) i 0))

  -- an edge that occurs stands at a place
  edge-place : (a b : ℕ) → 1 ≤ occurrences f a b → (i : ℕ) × (i < length f) × (from f (get_or (order_list f) i 0) ≡ a) × (to f (get_or (order_list f) i 0) ≡ b)
  edge-place a b o =
      let u = some_use f a b o in
      let q = has_pair f u.0 a b u.2 in
      let p = place f u.0 u.1 in
      (p.at, omega (arith, p.within, order-length f), ap (from f) p.is ∙ q.0, ap (to f) p.is ∙ q.1)

  pub all_pass : first_of (length f) (λ i. unless (test i) (refusal_at i)) ≡ Ok tt → (a b : ℕ) → 1 ≤ occurrences f a b → T a b ≡ true
  all_pass e a b o =
      let p = edge-place a b o in
      sym (ap₂ T p.2 p.3) ∙ none_each (length f) test refusal_at e p.0 p.1

  pub pass_all : ((u : ℕ) → u < length f → T (from f u) (to f u) ≡ true) → first_of (length f) (λ i. unless (test i) (refusal_at i)) ≡ Ok tt
  pass_all t = each_none (length f) test refusal_at (λ i l. t (get_or (order_list f) i 0) (order_below f i (omega (arith, order-length f))))

  pub smallest : (s : Refusal) → first_of (length f) (λ i. unless (test i) (refusal_at i)) ≡ Err s
      → (a : ℕ) × (b : ℕ) × (R a b ≡ s) × Smallest f T a b
  smallest s e = (from f u, to f u, g.refusal, record { occurs = occurs; fails = g.fails; least = least })
    where
      g : FirstFail (length f) test refusal_at s
      g = first_fail test refusal_at (length f) s e

      u : ℕ
      u = get_or (order_list f) g.at 0

      occurs : 1 ≤ occurrences f (from f u) (to f u)
      occurs = occurs_some f (from f u) (to f u) u (order_below f g.at (omega (arith, g.within, order-length f))) (has-own f u (from f u) (to f u) refl refl)

      least : (c d : ℕ) → 1 ≤ occurrences f c d → T c d ≡ false → NotAfter (from f u) (to f u) c d
      least c d o t =
          let p = edge-place c d o in
          let w = get_or (order_list f) p.0 0 in
          let late : g.at ≤ p.0 =
          ⊎_elim (λ l. absurd (true≢false (sym (g.before p.0 l) ∙ ap₂ T p.2 p.3 ∙ t))) (λ l. l) (below? p.0 g.at) in
          not_after (from f u) (to f u) c d (omega (arith, small-to f h u)) (omega (arith, small-to f h w, p.3))
          (omega (arith, edge-le f h g.at p.0 late p.1, edge_self f u, edge_self f w, p.2, p.3))

  pub from-smallest : (a b : ℕ) → Smallest f T a b → first_of (length f) (λ i. unless (test i) (refusal_at i)) ≡ Err (R a b)
  from-smallest a b m = go (first_of (length f) (λ i. unless (test i) (refusal_at i))) refl
    where
      go : (c : Cause) → first_of (length f) (λ i. unless (test i) (refusal_at i)) ≡ c → c ≡ Err (R a b)
      go (Ok _) e = absurd (true≢false (sym (all_pass e a b m.occurs) ∙ m.fails))
      go (Err s) e =
          let g = smallest s e in
          let q = both_ways a b g.0 g.1 (m.least g.0 g.1 g.3.occurs g.3.fails) (g.3.least a b m.occurs m.fails) in
          ap {B = Cause} Err (sym g.2 ∙ sym (ap₂ R q.0 q.1))
