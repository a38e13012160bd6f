-- `mesh::scan::all_below` meets its contract: the fold notes whether the corners so far are below the number of vertices. Assumes nothing.
use mathlib.Core.Path.{◌≡◌, subst}
use mathlib.Core.Bool.{Bool, ◌&&◌}
use mathlib.Core.List.{List}
use Prim.Native.Nat.{ℕ, ◌/◌}
use lib.ListN.{length}
use lib.Dec.{ltb}
use borrow.Author.Rules.{rules}
use Rattle.std.proofs.lemmas.Fn.{fold_over, slice_gives, fronts}
use Rattle.refusals.specs.declared.Refusal.TheVariants.{OutOfLimits, NoSuchVertex}
use Rattle.mesh.specs.Check.{names_vertex, no_such_vertex}
use Rattle.mesh.specs.CauseLaws.{each_none}
use Rattle.mesh.proofs.Scans.{Noted, noted_none, noted_push, noted_each}
use Rattle.mesh.proofs.scan.all_below.Goals as goal

pub returns : goal.returns
unfolding no_such_vertex
returns c =
    let f = c.args.faces.now in
    let p : ℕ → Bool = λ v. ltb v c.args.vertices in
    let noted : Noted p 0 OutOfLimits f c.fold.result =
    subst (λ (l : List ℕ). Noted p 0 OutOfLimits l c.fold.result) c.iter.ensures.rest
    (fold_over fronts (λ y. y.now) _ (λ l a. Noted p 0 OutOfLimits l a) _
    (λ l a x b f' h k. let e : b ≡ (a && p x.now) = search rules in (noted_push p 0 OutOfLimits l x.now a b h e, search rules))
    _ _ _ _ (slice_gives c.iter.result) (noted_none p 0 OutOfLimits) c.fold.ensures.ran) in
    λ e. each_none (length f) (names_vertex c.args.vertices f) (λ i. NoSuchVertex (i / 3)) (noted_each p 0 OutOfLimits f c.fold.result noted e)
