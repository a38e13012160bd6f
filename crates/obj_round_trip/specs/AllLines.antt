-- Lines one after the other. States: `causes_listed`: where no line of a list has a cause, the first cause is that of the lines behind them; `nothing_listed`: lines that give nothing; `triples_listed`:
-- lines that give three entries of a list each, in order, give the list. Assumes nothing.
use Rattle.std.specs.Prelude.{◌≡◌, refl, List, [], ◌∷◌, ◌++◌, ℕ, zero, suc, ◌+◌, ◌*◌, ◌≤◌, ◌<◌, length, get_or, take}
use Rattle.std.proofs.Common.{sym, ap, ◌∙◌, append_assoc, arith, take-suc}
use Rattle.std.specs.Prelude.{Ok}
use Rattle.obj.specs.Reader.{line_cause, first_cause}
use Rattle.obj.proofs.Pieces.{listed}

pub causes_listed : (n : ℕ) (line : ℕ → List ℕ) (rest : List (List ℕ)) → ((k : ℕ) → k < n → line_cause (line k) ≡ Ok tt) → first_cause (listed n line ++ rest) ≡ first_cause rest
unfolding first_cause
causes_listed zero line rest h = refl
causes_listed (suc n) line rest h =
    ap first_cause (append_assoc (listed n line) (line n ∷ []) rest)
    ∙ causes_listed n line (line n ∷ rest) (λ k l. h k (omega arith))
    ∙ rw (h n (omega arith))

-- ---- three entries at a time

-- entries 3k, 3k + 1 and 3k + 2
abbrev pub triple : {A : Type 0} → List A → A → ℕ → List A
triple s d k = get_or s (3 * k) d ∷ get_or s (3 * k + 1) d ∷ get_or s (3 * k + 2) d ∷ []

take_next : {A : Type 0} (s : List A) (d : A) (i j : ℕ) → i ≡ suc j → j < length s → take i s ≡ take j s ++ get_or s j d ∷ []
take_next {A} s d i j e h = ap (λ (n : ℕ). take n s) e ∙ take-suc s j d h

take_three : {A : Type 0} (s : List A) (d : A) (j : ℕ) → j + 2 < length s → take (j + 3) s ≡ take j s ++ get_or s j d ∷ get_or s (j + 1) d ∷ get_or s (j + 2) d ∷ []
take_three {A} s d j h =
    take_next s d (j + 3) (j + 2) (omega arith) h
    ∙ ap (λ (t : List A). t ++ get_or s (j + 2) d ∷ [])
    (take_next s d (j + 2) (j + 1) (omega arith) (omega arith) ∙ ap (λ (t : List A). t ++ get_or s (j + 1) d ∷ []) (take_next s d (j + 1) j (omega arith) (omega arith)))
    ∙ simp append_assoc

take_triple : {A : Type 0} (s : List A) (d : A) (k : ℕ) → 3 * suc k ≤ length s → take (3 * suc k) s ≡ take (3 * k) s ++ triple s d k
take_triple {A} s d k h = ap (λ (j : ℕ). take j s) (let e : 3 * suc k ≡ 3 * k + 3 = omega arith in e) ∙ take_three s d (3 * k) (omega arith)

-- ---- what the lines give, where each gives `of` of its own

module _ {A : Type 0} (of : List ℕ → List A) (all : List (List ℕ) → List A) (one : (l : List ℕ) (ls : List (List ℕ)) → all (l ∷ ls) ≡ of l ++ all ls) where
  -- the last of the listed lines
  last_listed : (n : ℕ) (line : ℕ → List ℕ) (rest : List (List ℕ)) → all (listed (suc n) line ++ rest) ≡ all (listed n line ++ line n ∷ rest)
  last_listed n line rest = ap all (append_assoc (listed n line) (line n ∷ []) rest)

  pub nothing_listed : (n : ℕ) (line : ℕ → List ℕ) (rest : List (List ℕ)) → ((k : ℕ) → k < n → of (line k) ≡ []) → all (listed n line ++ rest) ≡ all rest
  nothing_listed zero line rest h = refl
  nothing_listed (suc n) line rest h =
      last_listed n line rest
      ∙ nothing_listed n line (line n ∷ rest) (λ k l. h k (omega arith))
      ∙ one (line n) rest
      ∙ ap (λ (s : List A). s ++ all rest) (h n (omega arith))

  pub triples_listed : (s : List A) (d : A) (n : ℕ) (line : ℕ → List ℕ) (rest : List (List ℕ)) → 3 * n ≤ length s → ((k : ℕ) → k < n → of (line k) ≡ triple s d k)
      → all (listed n line ++ rest) ≡ take (3 * n) s ++ all rest
  triples_listed s d zero line rest w h = refl
  triples_listed s d (suc n) line rest w h =
      last_listed n line rest
      ∙ triples_listed s d n line (line n ∷ rest) (omega arith) (λ k l. h k (omega arith))
      ∙ ap (λ (t : List A). take (3 * n) s ++ t) (one (line n) rest ∙ ap (λ (t : List A). t ++ all rest) (h n (omega arith)))
      ∙ sym (append_assoc (take (3 * n) s) (triple s d n) (all rest))
      ∙ ap (λ (t : List A). t ++ all rest) (sym (take_triple s d n w))
