-- `mesh::scan::all_within_limits` meets its contract: the fold notes whether the numbers so far are within limits. Assumes nothing.
use mathlib.Core.Path.{◌≡◌, subst}
use mathlib.Core.Bool.{◌&&◌}
use mathlib.Core.List.{List}
use lib.Ieee.{Float, nan}
use borrow.Author.Rules.{rules}
use Rattle.std.proofs.lemmas.Fn.{fold_over, slice_gives, fronts}
use Rattle.doubles.specs.Magnitude.{within_limits}
use Rattle.refusals.specs.declared.Refusal.TheVariants.{OutOfLimits}
use Rattle.mesh.specs.Check.{out_of_limits}
use Rattle.mesh.proofs.Scans.{Noted, noted_none, noted_push}
use Rattle.mesh.proofs.scan.all_within_limits.Goals as goal

pub returns : goal.returns
unfolding out_of_limits
returns c =
    subst (λ (l : List Float). Noted within_limits nan OutOfLimits l c.fold.result) c.iter.ensures.rest
    (fold_over fronts (λ y. y.now) _ (λ l a. Noted within_limits nan OutOfLimits l a) _
    (λ l a x b f' h k. let e : b ≡ (a && within_limits x.now) = search rules in (noted_push within_limits nan OutOfLimits l x.now a b h e, search rules))
    _ _ _ _ (slice_gives c.iter.result) (noted_none within_limits nan OutOfLimits) c.fold.ensures.ran)
