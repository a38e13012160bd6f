-- The first field of a text by the places of its spaces. States:
-- `no_word`: a text of spaces alone has no field; `word_at`: the spaces in front of the first other byte count for nothing;
-- `word_end`: the first field of a text that begins with no space goes up to the first space, or to the end where there is none; `first_field`: so of any text.
-- Assumes nothing.
use Rattle.std.specs.Prelude.{◌≡◌, refl, Bool, true, false, not, cond, Option, None, Some, List, [], ◌∷◌, ℕ, ◌+◌, ◌-◌, ◌≤◌, ◌<◌, zero, suc, eqb, nat_lt, length, get_or, take, drop}
use Rattle.std.proofs.Common.{sym, ap, ap₂, ◌∙◌, arith, add-zero, ltb-false, get_or-drop, length-drop}
use Rattle.std.specs.Option.{unwrap_or}
use Rattle.std.specs.List.{filter, position, position_or_len, onto_first}
use Rattle.std.proofs.lemmas.Bool.{not-true}
use Rattle.std.proofs.lemmas.List.{drop_all, take_rest}
use Rattle.std.proofs.lemmas.List.Sums.{prefix_len-le-length, prefix_len_passes}
use Rattle.std.proofs.lemmas.List.Quantifiers.{position-Some}
use Rattle.obj.specs.Text.{space, split, is_filled, fields}
use Rattle.obj_lines.specs.Parts.{IsFirstField}

abbrev pub is_space : ℕ → Bool
is_space b = eqb b space

abbrev pub is_other : ℕ → Bool
is_other b = not (eqb b space)

-- ---- where the first byte that passes stands

pub at_or_len : {X : Type 0} (p : X → Bool) (xs : List X) → unwrap_or (position p xs) (length xs) ≡ position_or_len p xs
at_or_len p xs = go (nat_lt (position_or_len p xs) (length xs)) refl
  where
    go : (b : Bool) → nat_lt (position_or_len p xs) (length xs) ≡ b → unwrap_or (cond b (Some (position_or_len p xs)) None) (length xs) ≡ position_or_len p xs
    go true e = refl
    go false e = let h : length xs ≤ position_or_len p xs = ltb-false _ _ e in omega (arith, prefix_len-le-length (λ x. not (p x)) xs)

-- ---- spaces in front

nothing : (n : ℕ) → fields (drop n []) ≡ []
unfolding fields split
nothing zero = refl
nothing (suc n) = refl

one_space : (x : ℕ) (t : List ℕ) → is_other x ≡ false → fields (x ∷ t) ≡ fields t
unfolding fields split
one_space x t h = go (eqb x space) refl h
  where
    go : (b : Bool) → eqb x space ≡ b → not b ≡ false → filter is_filled (cond b ([] ∷ split space t) (onto_first x (split space t))) ≡ filter is_filled (split space t)
    go true e o = refl
    go false e o = cc

-- n bytes in front, each of them a space
skips : (n : ℕ) (t : List ℕ) → n ≤ length t → ((k : ℕ) → k < n → is_other (get_or t k 0) ≡ false) → fields (drop n t) ≡ fields t
skips n [] l h = nothing n ∙ sym (nothing 0)
skips zero (x ∷ t) l h = refl
skips (suc n) (x ∷ t) l h = skips n t (omega arith) (λ k j. h (suc k) (omega arith)) ∙ sym (one_space x t (h 0 (omega arith)))

pub no_word : (t : List ℕ) → position is_other t ≡ None → fields t ≡ []
no_word t e = sym (skips (length t) t (omega arith) (λ k l. none k l)) ∙ ap fields (drop_all (length t) t (omega arith)) ∙ nothing 0
  where
    -- every byte is a space
    end : position_or_len is_other t ≡ length t
    end = sym (at_or_len is_other t) ∙ ap (λ (o : Option ℕ). unwrap_or o (length t)) e

    none : (k : ℕ) → k < length t → is_other (get_or t k 0) ≡ false
    none k l = not-true _ (prefix_len_passes (λ b. not (is_other b)) t k 0 (omega (arith, end)))

pub word_at : (t : List ℕ) (i : ℕ) → position is_other t ≡ Some i → fields (drop i t) ≡ fields t
word_at t i e = let p = position-Some is_other t i 0 e in skips i t (omega (arith, p.0)) p.2

-- ---- up to the first space

abbrev word_len : List ℕ → ℕ
word_len t = position_or_len is_space t

-- the pieces behind the first
abbrev behind : List ℕ → List (List ℕ)
behind [] = []
behind (x ∷ s) = split space s

abbrev Parted : List ℕ → ℕ → Type 0
Parted t n = split space t ≡ take n t ∷ behind (drop n t)

abbrev Left : List ℕ → ℕ → Type 0
Left t n = fields (drop n t) ≡ filter is_filled (behind (drop n t))

more : (x : ℕ) (t : List ℕ) (P : List ℕ → ℕ → Type 0) → (eqb x space ≡ true → P (x ∷ t) 0) → (eqb x space ≡ false → P (x ∷ t) (suc (word_len t))) → P (x ∷ t) (word_len (x ∷ t))
more x t P here later = go (eqb x space) refl
  where
    go : (b : Bool) → eqb x space ≡ b → P (x ∷ t) (cond (not b) (1 + word_len t) 0)
    go true e = here e
    go false e = let z : 1 + word_len t ≡ suc (word_len t) = omega arith in rw z (later e)

pieces : (t : List ℕ) → Parted t (word_len t)
unfolding split
pieces [] = refl
pieces (x ∷ t) = more x t Parted (λ e. rw e) (λ e. rw e (ap (onto_first x) (pieces t)))

left : (t : List ℕ) → Left t (word_len t)
unfolding fields split
left [] = refl
left (x ∷ t) = more x t Left (λ e. rw e) (λ e. left t)

keep : (w : List ℕ) (ws : List (List ℕ)) → is_filled w ≡ true → filter is_filled (w ∷ ws) ≡ w ∷ filter is_filled ws
keep w ws h = rw h

-- a text that begins with no space
pub word_end : (t : List ℕ) → 0 < length t → is_other (get_or t 0 0) ≡ true
    → IsFirstField t (take (word_len t) t) (drop (word_len t) t)
unfolding fields
word_end [] l h = absurd (omega arith)
word_end (x ∷ t) l h = record { filled = filled (eqb x space) refl h; fields = ap (filter is_filled) (pieces (x ∷ t)) ∙ whole }
  where
    filled : (b : Bool) → eqb x space ≡ b → not b ≡ true → is_filled (take (cond (not b) (1 + word_len t) 0) (x ∷ t)) ≡ true
    filled true e o = cc
    filled false e o = let z : 1 + word_len t ≡ suc (word_len t) = omega arith in rw z

    whole : filter is_filled (take (word_len (x ∷ t)) (x ∷ t) ∷ behind (drop (word_len (x ∷ t)) (x ∷ t))) ≡ take (word_len (x ∷ t)) (x ∷ t) ∷ fields (drop (word_len (x ∷ t)) (x ∷ t))
    whole = keep (take (word_len (x ∷ t)) (x ∷ t)) (behind (drop (word_len (x ∷ t)) (x ∷ t))) (filled (eqb x space) refl h) ∙ ap (λ (fs : List (List ℕ)). take (word_len (x ∷ t)) (x ∷ t) ∷ fs) (sym (left (x ∷ t)))

-- the word that begins at i, as the code cuts it out
pub first_field : (t u : List ℕ) (i e : ℕ) → position is_other t ≡ Some i → u ≡ take (length t - i) (drop i t)
    → e ≡ unwrap_or (position is_space u) (length u) → (f r : List ℕ) → f ≡ take e u → r ≡ drop e u → IsFirstField t f r
first_field t u i e found is end f r before after =
    let p = position-Some is_other t i 0 found in
    let from : u ≡ drop i t = is ∙ take_rest t i in
    let n : e ≡ word_len u = end ∙ at_or_len is_space u in
    let first : is_other (get_or u 0 0) ≡ true =
    ap (λ (s : List ℕ). is_other (get_or s 0 0)) from ∙ ap is_other (get_or-drop i t 0 0 ∙ ap (λ (k : ℕ). get_or t k 0) (add-zero i)) ∙ p.1 in
    let w = word_end u (omega (arith, p.0, ap length from, length-drop i t)) first in
    record {
      filled = ap is_filled (before ∙ ap (λ (k : ℕ). take k u) n) ∙ w.filled;
      fields = sym (word_at t i found) ∙ ap fields (sym from) ∙ w.fields
          ∙ ap₂ (λ (a b : List ℕ). a ∷ fields b) (sym (before ∙ ap (λ (k : ℕ). take k u) n)) (sym (after ∙ ap (λ (k : ℕ). drop k u) n));
    }
