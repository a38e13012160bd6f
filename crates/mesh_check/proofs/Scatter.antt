-- Numbers put into bytes one by one, in any order. States: `put_one`: where bytes agree with the packed numbers they still do after one of the numbers is written at its own place;
-- `put-here`: and then they agree there; `all-put`: bytes that agree everywhere are the packed numbers. Assumes nothing.
use mathlib.Core.Path.{◌≡◌, refl, sym, ap, subst, ◌∙◌}
use mathlib.Core.List.{List, [], ◌∷◌, ◌++◌}
use mathlib.Core.Logic.{⊎_elim}
use Prim.Native.Nat.{ℕ, zero, suc, ◌+◌, ◌*◌, ◌-◌, ◌/◌, ◌%◌, ◌≤◌, ◌<◌}
use native.Mathlib.Nat.{not-suc-le-zero, le_of_suc-le-suc, add-zero, add-suc, suc-add}
use native.Mathlib.Omega.{arith}
use lib.ListN.{length, set, get_or, length-set, get_or-append}
use lib.Seq.{sets, get_or-set_same, get_or-set_other, get_or-append-add, ext_get_or}
use Rattle.lists.proofs.Numbers.{below?}
use Rattle.sheet_layout.specs.LittleEndian.{bytes, pack}
use Rattle.sheet_layout.proofs.Numbers.{bytes-length}
use Rattle.sheet_layout.proofs.Lists.{pack-length}

-- ---- a run of stores, entry by entry

sets_before : (l vs : List ℕ) (i p : ℕ) → p < i → get_or (sets l i vs) p 0 ≡ get_or l p 0
sets_before l [] i p h = refl
sets_before l (v ∷ vs) i p h = sets_before (set l i v) vs (suc i) p (omega arith) ∙ get_or-set_other l i p v 0 (λ e. omega arith)

sets_past : (l vs : List ℕ) (i p : ℕ) → i + length vs ≤ p → get_or (sets l i vs) p 0 ≡ get_or l p 0
sets_past l [] i p h = refl
sets_past l (v ∷ vs) i p h = sets_past (set l i v) vs (suc i) p (omega arith) ∙ get_or-set_other l i p v 0 (λ e. omega arith)

sets_at : (l vs : List ℕ) (i b : ℕ) → i + length vs ≤ length l → b < length vs → get_or (sets l i vs) (i + b) 0 ≡ get_or vs b 0
sets_at l [] i b h g = absurd (not-suc-le-zero g)
sets_at l (v ∷ vs) i zero h g = ap (λ (n : ℕ). get_or (sets (set l i v) (suc i) vs) n 0) (add-zero i) ∙ sets_before (set l i v) vs (suc i) i (omega arith) ∙ get_or-set_same l i v 0 (omega arith)
sets_at l (v ∷ vs) i (suc b) h g =
    ap (λ (n : ℕ). get_or (sets (set l i v) (suc i) vs) n 0) (add-suc i b ∙ sym (suc-add i b)) ∙ sets_at (set l i v) vs (suc i) b (omega (arith, length-set l i v)) (le_of_suc-le-suc g)

-- ---- packed numbers

pack-at : (xs : List ℕ) (u b : ℕ) → u < length xs → b < 4 → get_or (pack 4 xs) (4 * u + b) 0 ≡ get_or (bytes 4 (get_or xs u 0)) b 0
unfolding pack
pack-at [] u b h g = absurd (not-suc-le-zero h)
pack-at (x ∷ xs) zero b h g = ap (λ (n : ℕ). get_or (bytes 4 x ++ pack 4 xs) n 0) (let e : 4 * 0 + b ≡ b = omega arith in e) ∙ get_or-append (bytes 4 x) (pack 4 xs) 0 b (omega (arith, bytes-length 4 x))
pack-at (x ∷ xs) (suc u) b h g =
    ap (λ (n : ℕ). get_or (bytes 4 x ++ pack 4 xs) n 0) (let e : 4 * suc u + b ≡ length (bytes 4 x) + (4 * u + b) = omega (arith, bytes-length 4 x) in e)
    ∙ get_or-append-add (bytes 4 x) (pack 4 xs) (4 * u + b) 0 ∙ pack-at xs u b (le_of_suc-le-suc h) g

-- place n of m holds what it does in the packed numbers
abbrev pub Agrees : List ℕ → List ℕ → ℕ → Type 0
Agrees xs m n = get_or m n 0 ≡ get_or (pack 4 xs) n 0

module _ (xs m : List ℕ) (size : length m ≡ 4 * length xs) where
  -- the number at u is written
  module _ (u x : ℕ) (l : u < length xs) (e : x ≡ get_or xs u 0) where
    pub put-here : (b : ℕ) → b < 4 → Agrees xs (sets m (4 * u) (bytes 4 x)) (4 * u + b)
    put-here b g =
        sets_at m (bytes 4 x) (4 * u) b (omega (arith, bytes-length 4 x)) (omega (arith, bytes-length 4 x)) ∙ ap (λ (y : ℕ). get_or (bytes 4 y) b 0) e ∙ sym (pack-at xs u b l g)

    pub put_one : (n : ℕ) → Agrees xs m n → Agrees xs (sets m (4 * u) (bytes 4 x)) n
    put_one n h = ⊎_elim (λ a. sets_before m (bytes 4 x) (4 * u) n a ∙ h) (λ a. ⊎_elim (λ b. inside a b) (λ b. sets_past m (bytes 4 x) (4 * u) n (omega (arith, bytes-length 4 x)) ∙ h) (below? n (4 * u + 4))) (below? n (4 * u))
      where
        inside : 4 * u ≤ n → n < 4 * u + 4 → Agrees xs (sets m (4 * u) (bytes 4 x)) n
        inside a b = subst (Agrees xs (sets m (4 * u) (bytes 4 x))) (let q : 4 * u + (n - 4 * u) ≡ n = omega arith in q) (put-here (n - 4 * u) (omega arith))

  pub all-put : ((u b : ℕ) → u < length xs → b < 4 → Agrees xs m (4 * u + b)) → m ≡ pack 4 xs
  all-put h = ext_get_or 0 m (pack 4 xs) (size ∙ sym (pack-length 4 xs)) (λ n l. subst (Agrees xs m) (let e : 4 * (n / 4) + n % 4 ≡ n = omega arith in e) (h (n / 4) (n % 4) (omega arith) (omega arith)))
