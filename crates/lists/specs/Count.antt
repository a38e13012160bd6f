-- How often a number stands in a list, how many numbers pass a test, sums, and lists that hold the same numbers equally often. Definitions only.
use Rattle.std.specs.Prelude.{◌≡◌, Bool, true, false, List, [], ◌∷◌, ℕ, zero, suc, ◌+◌, ◌<◌, length, get_or, eqb}

abbrev pub one : Bool → ℕ
one true = 1
one false = 0

-- how often x stands in l
abbrev pub count : ℕ → List ℕ → ℕ
count x [] = 0
count x (y ∷ l) = one (eqb x y) + count x l

-- how many of 0, 1, .., n - 1 pass the test p
abbrev pub tally : (ℕ → Bool) → ℕ → ℕ
tally p zero = 0
tally p (suc n) = one (p n) + tally p n

-- g 0 + g 1 + .. + g (n - 1)
abbrev pub partial_sum : (ℕ → ℕ) → ℕ → ℕ
partial_sum g zero = 0
partial_sum g (suc n) = g n + partial_sum g n

-- m is a permutation of l: the same numbers, each equally often
abbrev pub Perm : List ℕ → List ℕ → Type 0
Perm l m = (x : ℕ) → count x l ≡ count x m

-- every entry of l is below b
abbrev pub Below : List ℕ → ℕ → Type 0
Below l b = (i : ℕ) → i < length l → get_or l i 0 < b
