-- Laws of edges. States: `number_apart`, `number-order`, `order-number`: the number of an edge tells it from every other and is ordered as (from, to); `use_key_apart`, `key-order`,
-- `order-key`: so does the key with (from, to, use); `occurs_some`, `some_use`: an edge that occurs is the edge of a use; `edge-one`: it occurs once if no other use has it.
-- Assumes nothing.
use Rattle.std.specs.Prelude.{◌≡◌, Bool, true, false, ◌&&◌, List, ◌⊎◌, ℕ, ◌≤◌, ◌<◌, length, eqb}
use Rattle.std.proofs.Math.Path.{refl}
use Rattle.std.proofs.Common.{ap₂, sym, ◌∙◌, arith, eq-eqb, eqb-true}
use Rattle.std.proofs.Math.Logic.{inl, inr, ⊎_elim}
use Rattle.lists.specs.Count.{Below}
use Rattle.lists.proofs.Numbers.{both, below?}
use Rattle.lists.proofs.Counts.{below_all}
use Rattle.lists.proofs.Tallies.{tally-one, tally_some, tally-two, some_tally}
use Rattle.mesh_orders.specs.Edges.{next, from, to, has, occurrences, 2³², edge_number, edge, reverse, max_vertices, Faces}
use Rattle.mesh_orders.specs.Endpoint.{endpoint}
use Rattle.mesh_orders.specs.Order.{key}

-- (a, b) comes before (c, d), by from and then by to
abbrev pub Before : ℕ → ℕ → ℕ → ℕ → Type 0
Before a b c d = (a < c) ⊎ ((a ≡ c) × (b < d))

-- ---- numbers below 2³²

pub number_apart : (a b c d : ℕ) → b < 2³² → d < 2³² → edge_number a b ≡ edge_number c d → (a ≡ c) × (b ≡ d)
number_apart a b c d hb hd e = omega arith

pub number-order : (a b c d : ℕ) → b < 2³² → d < 2³² → edge_number a b < edge_number c d → Before a b c d
number-order a b c d hb hd l = ⊎_elim (λ q. inl q) (λ q. inr (omega arith)) (below? a c)

pub order-number : (a b c d : ℕ) → b < 2³² → Before a b c d → edge_number a b < edge_number c d
order-number a b c d hb l = ⊎_elim (λ q. omega arith) (λ q. omega (arith, q.0, q.1)) l

-- ---- the edges of a face list within the limits

module _ (f : List ℕ) where
  pub edge_self : (u : ℕ) → edge f u ≡ edge_number (from f u) (to f u)
  unfolding edge
  edge_self u = refl

  pub reverse_self : (u : ℕ) → reverse f u ≡ edge_number (to f u) (from f u)
  unfolding reverse
  reverse_self u = refl

  -- whoever has an edge has its number
  pub has-own : (u a b : ℕ) → from f u ≡ a → to f u ≡ b → has f a b u ≡ true
  has-own u a b p q = ap₂ (λ (x y : Bool). x && y) (eq-eqb (from f u) a p) (eq-eqb (to f u) b q)

  pub has_pair : (u a b : ℕ) → has f a b u ≡ true → (from f u ≡ a) × (to f u ≡ b)
  has_pair u a b e =
      let t = both (eqb (from f u) a) (eqb (to f u) b) e in
      (eqb-true (from f u) a t.0, eqb-true (to f u) b t.1)

  pub has-number : (u a b : ℕ) → has f a b u ≡ true → edge f u ≡ edge_number a b
  unfolding edge
  has-number u a b e = let t = has_pair u a b e in omega (arith, t.0, t.1)

  -- ---- how often an edge occurs

  pub occurs-one : (a b u : ℕ) → u < length f → has f a b u ≡ true → ((w : ℕ) → w < length f → has f a b w ≡ true → w ≡ u) → occurrences f a b ≡ 1
  unfolding occurrences
  occurs-one a b u l t h = tally-one (has f a b) (length f) u l t h

  pub occurs_some : (a b u : ℕ) → u < length f → has f a b u ≡ true → 1 ≤ occurrences f a b
  unfolding occurrences
  occurs_some a b u l t = tally_some (has f a b) (length f) u l t

  pub occurs-two : (a b u w : ℕ) → u < w → w < length f → has f a b u ≡ true → has f a b w ≡ true → 2 ≤ occurrences f a b
  unfolding occurrences
  occurs-two a b u w l m t s = tally-two (has f a b) (length f) u w l m t s

  pub some_use : (a b : ℕ) → 1 ≤ occurrences f a b → (u : ℕ) × (u < length f) × (has f a b u ≡ true)
  unfolding occurrences
  some_use a b h = some_tally (has f a b) (length f) h

  -- an end of a use is one of the vertices
  pub small-endpoint : (b : ℕ) → Below f b → 0 < length f → (ends : Bool) (u : ℕ) → endpoint ends f u < b
  small-endpoint b h l true u = below_all f b (omega (arith, h 0 l)) h (next u)
  small-endpoint b h l false u = below_all f b (omega (arith, h 0 l)) h u

  module _ (h : Faces f) where
    pub small-from : (u : ℕ) → from f u < max_vertices
    small-from u = below_all f max_vertices (omega arith) h.small u

    pub small-to : (u : ℕ) → to f u < max_vertices
    small-to u = below_all f max_vertices (omega arith) h.small (next u)

    -- a use whose number is that of (a, b) has the edge (a, b)
    pub number-has : (u a b : ℕ) → b < 2³² → edge f u ≡ edge_number a b → has f a b u ≡ true
    unfolding edge
    number-has u a b l e =
        let q = number_apart (from f u) (to f u) a b (omega (arith, small-to u)) l e in
        has-own u a b q.0 q.1

    -- an edge that no other use has occurs exactly once
    pub edge-one : (u : ℕ) → u < length f → ((w : ℕ) → w < length f → edge f w ≡ edge f u → w ≡ u) → occurrences f (from f u) (to f u) ≡ 1
    edge-one u ul n =
        occurs-one (from f u) (to f u) u ul (has-own u (from f u) (to f u) refl refl)
        (λ w wl t. n w wl (has-number w (from f u) (to f u) t ∙ sym (edge_self u)))

    -- keys tell edge uses apart, and are ordered as (from, to, use)
    pub use_key_apart : (u w : ℕ) → u < length f → w < length f → key f u ≡ key f w → u ≡ w
    unfolding key
    use_key_apart u w ul wl e = omega (arith, h.few)

    pub key-order : (u w : ℕ) → u < length f → w < length f → key f u < key f w
        → Before (from f u) (to f u) (from f w) (to f w) ⊎ ((from f u ≡ from f w) × (to f u ≡ to f w) × (u < w))
    unfolding key edge
    key-order u w ul wl l =
        ⊎_elim (λ q. inl (number-order (from f u) (to f u) (from f w) (to f w) (omega (arith, small-to u)) (omega (arith, small-to w)) q))
        (λ q. inr (let e = number_apart (from f u) (to f u) (from f w) (to f w) (omega (arith, small-to u)) (omega (arith, small-to w)) (omega (arith, h.few)) in
        (e.0, e.1, omega (arith, e.0, e.1, h.few))))
        (below? (edge_number (from f u) (to f u)) (edge_number (from f w) (to f w)))

    pub order-key : (u w : ℕ) → u < length f → w < length f
        → Before (from f u) (to f u) (from f w) (to f w) ⊎ ((from f u ≡ from f w) × (to f u ≡ to f w) × (u < w)) → key f u < key f w
    unfolding key edge
    order-key u w ul wl l =
        ⊎_elim (λ q. omega (arith, h.few, order-number (from f u) (to f u) (from f w) (to f w) (omega (arith, small-to u)) q))
        (λ q. omega (arith, q.0, q.1, q.2, h.few)) l
