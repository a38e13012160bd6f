-- Laws of a walk that meets the numbers of one line after the other. States: `met_start`, `met_none`, `met_three`, `met_at`, `met_end`: which numbers have been met. Assumes nothing.
use Rattle.std.specs.Prelude.{◌≡◌, refl, List, [], ◌∷◌, ◌++◌, ℕ, ◌+◌, ◌≤◌, length, get_or, drop}
use Rattle.std.proofs.Common.{sym, ap, ◌∙◌, arith, length-drop, get_or-drop}
use Rattle.std.proofs.lemmas.List.{drop-drop}

-- the first n numbers of `all` have been met, and those of the lines to come are the others
pub record Met {A : Type 0} (all rest : List A) (n : ℕ) : Type 0 where
  pub room : n ≤ length all
  pub left : drop n all ≡ rest

pub met_start : {A : Type 0} (all : List A) → Met all all 0
met_start all = record { room = omega arith; left = refl }

pub met_none : {A : Type 0} {all more none rest : List A} {n : ℕ} → more ≡ none ++ rest → none ≡ [] → Met all more n → Met all rest n
met_none {A} {rest = rest} e q m = record { room = m.room; left = m.left ∙ e ∙ ap (λ (x : List A). x ++ rest) q }

pub met_three : {A : Type 0} {all more rest : List A} {n : ℕ} {x y z : A} → more ≡ (x ∷ y ∷ z ∷ []) ++ rest → Met all more n → Met all rest (n + 3)
met_three {all = all} {n = n} e m = record {
  room = omega (arith, ap length (m.left ∙ e), length-drop n all);
  left = sym (drop-drop 3 n all) ∙ ap (drop 3) (m.left ∙ e);
}

pub met_at : {A : Type 0} {all rest : List A} {n : ℕ} (i : ℕ) (d : A) → Met all rest n → get_or all (n + i) d ≡ get_or rest i d
met_at {A} {all} {n = n} i d m = sym (get_or-drop n all i d) ∙ ap (λ (l : List A). get_or l i d) m.left

pub met_end : {A : Type 0} {all rest : List A} {n : ℕ} → rest ≡ [] → Met all rest n → n ≡ length all
met_end {all = all} {n = n} e m = omega (arith, m.room, ap length (m.left ∙ e), length-drop n all)
