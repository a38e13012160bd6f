-- `polyhedron_logarithms::finite_24` meets its contract. Assumes nothing.
use mathlib.Core.Path.{◌≡◌, refl, subst, ap, ◌∙◌}
use mathlib.Core.Bool.{Bool, true, ◌&&◌}
use mathlib.Core.List.{List, [], ◌∷◌, ◌++◌}
use mathlib.Core.Logic.{⊎_elim}
use Prim.Native.Nat.{ℕ, ◌-◌, ◌<◌}
use native.Mathlib.Omega.{arith}
use lib.Ieee.{Float, nan}
use lib.Ieee.Scale.{finite}
use lib.ListN.{length}
use borrow.Author.Rules.{rules}
use Rattle.std.proofs.Common.{length-append}
use Rattle.std.proofs.lemmas.List.{get_or_append_left, get_or-append_right}
use Rattle.std.proofs.lemmas.Fn.{fold_over, slice_gives, fronts}
use Rattle.lists.proofs.Numbers.{below?, both}
use Rattle.lanes.specs.Lanes.{lane}
use Rattle.polyhedron_logarithms.proofs.finite_24.Goals as goal

abbrev Finite : List Float → Bool → Type 0
Finite w a = a ≡ true → (k : ℕ) → k < length w → finite (lane w k) ≡ true

finite-push : (w : List Float) (x : Float) (a b : Bool) → Finite w a → b ≡ (a && finite x) → Finite (w ++ x ∷ []) b
finite-push w x a b f e t k l =
    let p = both a (finite x) (rw (← e) t) in
    ⊎_elim
    (λ m. ap finite (get_or_append_left w (x ∷ []) nan k m) ∙ f p.0 k m)
    (λ m. let z : k - length w ≡ 0 = omega (arith, l, m, length-append w (x ∷ [])) in
    ap finite (get_or-append_right w (x ∷ []) (length w) k nan refl m ∙ ap (λ (i : ℕ). lane (x ∷ []) i) z) ∙ p.1)
    (below? k (length w))

pub returns : goal.returns
returns c =
    let whole =
    subst (λ (w : List Float). Finite w c.fold.result) c.iter.ensures.rest
    (fold_over fronts (λ y. y.now) _ (λ w a. Finite w a) _
    (λ w a x b f' h k. let e : b ≡ (a && finite x.now) = search rules in (finite-push w x.now a b h e, search rules))
    _ _ _ _ (slice_gives c.iter.result) (λ t k l. absurd (omega arith)) c.fold.ensures.ran) in
    λ t k l. whole t k (omega (arith, c.told-w))
