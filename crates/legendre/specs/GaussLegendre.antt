-- What `gauss_legendre` answers: the nodes and weights of an order from 1 to 16, as the table has them. Definitions only.
use Rattle.std.specs.Prelude.{Ok, ◌&&◌, List, ℕ, zero, suc, ◌+◌, ◌-◌, ◌*◌, leb, get_or, set, replicate, Float}
use Rattle.std.specs.Float.{binary64}
use Rattle.std.specs.Float.Ieee.{of_bits}
use Rattle.doubles.specs.Constants.{0·0}
use Rattle.refusals.specs.Answer.{Answer, or_answer}
use Rattle.refusals.specs.Causes.{Cause, unless}
use Rattle.refusals.specs.declared.Refusal.TheVariants.{OutsideDomain}
use Rattle.legendre.specs.Table.{table}
use Rattle.legendre.specs.declared.Rule.{Rule}

-- the orders are 1 to 16
abbrev pub max_order : ℕ
max_order = 16

-- entry j of the table, counted from 0
unfoldable pub entry : ℕ → Float
entry j = of_bits binary64 (get_or table j 0)

-- node i and weight i of the order n, counted from 0. The orders below n have n * n - n entries.
unfoldable pub node : ℕ → ℕ → Float
node n i = entry (n * n - n + i)

unfoldable pub weight : ℕ → ℕ → Float
weight n i = entry (n * n + i)

-- an array of zeros, and an array of f 0, f 1, .., f (n - 1) with zeros after them
unfoldable pub zeros : List Float
zeros = replicate max_order 0·0

unfoldable pub padded : ℕ → (ℕ → Float) → List Float
padded zero f = zeros
padded (suc n) f = set (padded n f) n (f n)

-- the rule of the order n
abbrev pub rule : ℕ → Rule
rule n = record { count = n; nodes = padded n (node n); weights = padded n (weight n) }

-- refused by 14 unless 1 ≤ n ≤ 16
abbrev pub rule_cause : ℕ → Cause
rule_cause n = unless (leb 1 n && leb n max_order) OutsideDomain

-- the public call
unfoldable pub gauss_legendre : ℕ → Answer Rule
gauss_legendre n = or_answer (rule_cause n) (Ok (rule n))
