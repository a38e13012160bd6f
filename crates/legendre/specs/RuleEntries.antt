-- What a caller reads of the rule that `gauss_legendre` gives. Assumes nothing. States:
-- `order-accepted`, `order-refused`: the orders 1 to 16 are accepted, the others refused; `rule_answer`: both in one line;
-- `count-is`: the count is the order; `length_nodes`, `length_weights`: each array has 16 numbers;
-- `node_at`, `weight-at`: below the count they are `node n i` and `weight n i`, of which `table-is-gauss_legendre` speaks.
use Rattle.std.specs.Prelude.{◌≡◌, refl, ◌⊎◌, ℕ, zero, suc, ◌<◌, ◌≤◌, length, get_or, Float}
use Rattle.std.proofs.Common.{◌∙◌, inl, inr, ⊎_elim, le_of_suc-le-suc, not-suc-le-zero, eq-or-lt_of_le, arith, le-leb, length-set, get_or-set_same, get_or-set_other}
use Rattle.std.proofs.lemmas.Bool.{lt-leb}
use Rattle.std.specs.Prelude.{Ok, Err}
use Rattle.refusals.specs.Answer.{or_answer}
use Rattle.refusals.specs.declared.Refusal.TheVariants.{OutsideDomain}
use Rattle.legendre.specs.GaussLegendre.{max_order, node, weight, zeros, padded, rule, rule_cause, gauss_legendre}

-- ---- accepted or refused

pub order-accepted : (n : ℕ) → 1 ≤ n → n ≤ max_order → gauss_legendre n ≡ Ok (rule n)
unfolding gauss_legendre
order-accepted n p h = simp (le-leb 1 n p, le-leb n max_order h)

pub order-refused : (n : ℕ) → (n < 1) ⊎ (max_order < n) → gauss_legendre n ≡ Err OutsideDomain
unfolding gauss_legendre
order-refused n (inl h) = simp (lt-leb 1 n h)
order-refused n (inr h) = let p : 1 ≤ n = omega arith in simp (le-leb 1 n p, lt-leb n max_order h)

pub rule_answer : (n : ℕ) → gauss_legendre n ≡ or_answer (rule_cause n) (Ok (rule n))
unfolding gauss_legendre
rule_answer n = refl

pub count-is : (n : ℕ) → (rule n).count ≡ n
count-is n = refl

-- ---- the lengths, whatever the order

length-padded : (n : ℕ) (f : ℕ → Float) → length (padded n f) ≡ max_order
unfolding padded zeros
length-padded zero f = refl
length-padded (suc n) f = length-set (padded n f) n (f n) ∙ length-padded n f

pub length_nodes : (n : ℕ) → length (rule n).nodes ≡ max_order
length_nodes n = length-padded n (node n)

pub length_weights : (n : ℕ) → length (rule n).weights ≡ max_order
length_weights n = length-padded n (weight n)

-- ---- the elements below the count

padded-at : (n : ℕ) (f : ℕ → Float) (d : Float) → n ≤ max_order → (i : ℕ) → i < n → get_or (padded n f) i d ≡ f i
unfolding padded
padded-at zero f d b i h = absurd (not-suc-le-zero h)
padded-at (suc n) f d b i h =
    ⊎_elim (λ (e : i ≡ n). rw e (get_or-set_same (padded n f) n (f n) d (omega (arith, length-padded n f))))
    (λ (l : i < n). get_or-set_other (padded n f) n i (f n) d (λ (e : i ≡ n). omega arith) ∙ padded-at n f d (omega arith) i l)
    (eq-or-lt_of_le (le_of_suc-le-suc h))

module _ (n i : ℕ) (d : Float) (h : n ≤ max_order) (l : i < n) where
  pub node_at : get_or (rule n).nodes i d ≡ node n i
  node_at = padded-at n (node n) d h i l

  pub weight-at : get_or (rule n).weights i d ≡ weight n i
  weight-at = padded-at n (weight n) d h i l
