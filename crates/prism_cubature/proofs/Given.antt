-- The rule of an order up to 16. States: `is_rule`; `one-node`, `no-node`: how a loop over nodes and weights together goes on and ends. Assumes nothing.
use mathlib.Core.Path.{◌≡◌, refl, ap, ◌∙◌}
use mathlib.Core.Logic.{◌⊎◌, ⊎_elim}
use mathlib.Core.List.{List, ◌∷◌}
use Prim.Native.Nat.{ℕ, ◌+◌, ◌-◌, ◌≤◌, ◌<◌}
use native.Mathlib.Omega.{arith}
use lib.Ieee.{Float, nan}
use Rattle.std.proofs.Common.{length, get_or, take, drop, drop-drop, get_or-drop, get_or-take, length-drop}
use Rattle.std.proofs.lemmas.List.{length-take-le}
use Rattle.legendre.specs.declared.Rule.{Rule}
use Rattle.legendre.specs.GaussLegendre.{max_order, node, rule, weight}
use Rattle.legendre.specs.RuleEntries.{node_at, weight-at}
use Rattle.prism_cubature.specs.Rules.{IsRule}

pub is_rule : (n : ℕ) → n ≤ max_order → {r : Rule} → r ≡ rule n → (r.count ≡ n) × IsRule r
is_rule n h e = rw e (refl, record { small = h; nodes = λ i l. node_at n i nan h l; weights = λ i l. weight-at n i nan h l })

-- what is left of the numbers us₀, which are an array's first n, after k of them
module _ (xs us₀ : List Float) (n : ℕ) (l : n ≤ length xs) (e₀ : us₀ ≡ take n xs) (k : ℕ) where
  long : length us₀ ≡ n
  long = ap length e₀ ∙ length-take-le n xs l

  left : {us : List Float} → us ≡ drop k us₀ → length us ≡ n - k
  left e = ap length e ∙ length-drop k us₀ ∙ ap (λ (m : ℕ). m - k) long

  number : {u : Float} {us : List Float} → u ∷ us ≡ drop k us₀ → k < n → u ≡ get_or xs k nan
  number e h =
      let z : k + 0 ≡ k = omega arith in
      ap (λ (ys : List Float). get_or ys 0 nan) e ∙ get_or-drop k us₀ 0 nan ∙ ap (λ (m : ℕ). get_or us₀ m nan) z ∙ ap (λ (ys : List Float). get_or ys k nan) e₀ ∙ get_or-take n xs k nan h

others : (us₀ : List Float) {us : List Float} {u : Float} (k : ℕ) → u ∷ us ≡ drop k us₀ → us ≡ drop (k + 1) us₀
others us₀ k e = ap (drop 1) e ∙ drop-drop 1 k us₀

-- of the nodes us₀ and the weights vs₀, k are passed
pub record Passed (us₀ vs₀ : List Float) (k : ℕ) (us vs : List Float) : Type 0 where
  pub upto : k ≤ length us₀
  pub nodes : us ≡ drop k us₀
  pub weights : vs ≡ drop k vs₀

module _ {r : Rule} (s : IsRule r) {us₀ vs₀ : List Float} (ln : r.count ≤ length r.nodes) (lw : r.count ≤ length r.weights)
    (e : us₀ ≡ take r.count r.nodes) (f : vs₀ ≡ take r.count r.weights) {k : ℕ} where
  pub one-node : {u v : Float} {us vs : List Float} → Passed us₀ vs₀ k (u ∷ us) (v ∷ vs) → (u ≡ node r.count k) × (v ≡ weight r.count k) × Passed us₀ vs₀ (k + 1) us vs
  one-node p =
      let h : k < r.count = omega (arith, left r.nodes us₀ r.count ln e k p.nodes) in (
        number r.nodes us₀ r.count ln e k p.nodes h ∙ s.nodes k h,
        number r.weights vs₀ r.count lw f k p.weights h ∙ s.weights k h,
        record { upto = omega (arith, h, long r.nodes us₀ r.count ln e k); nodes = others us₀ k p.nodes; weights = others vs₀ k p.weights },
      )

  pub no-node : {us vs : List Float} → Passed us₀ vs₀ k us vs → (length us ≡ 0) ⊎ (length vs ≡ 0) → k ≡ r.count
  no-node p d =
      let u : k ≤ r.count = omega (arith, p.upto, long r.nodes us₀ r.count ln e k) in
      ⊎_elim (λ z. omega (arith, u, left r.nodes us₀ r.count ln e k p.nodes, z)) (λ z. omega (arith, u, left r.weights vs₀ r.count lw f k p.weights, z)) d
