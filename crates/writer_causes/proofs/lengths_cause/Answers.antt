-- `writer_causes::lengths_cause` meets its contract: the causes 1, 2 and 12 in order. Assumes nothing.
use mathlib.Core.Path.{◌≡◌, sym, ◌∙◌}
use mathlib.Core.Bool.{true}
use Prim.Native.Nat.{◌/◌}
use native.Mathlib.Omega.{arith}
use Rattle.sheet_rows.specs.Kinds.{within_counts}
use Rattle.sheet_rows.proofs.Counts.{counts_each}
use Rattle.writer_causes.specs.LengthsCause.{well_formed}
use Rattle.writer_causes.proofs.Counts.{not-well_formed, not-few, short_work, short_out, counted}
use Rattle.writer_causes.proofs.lengths_cause.Goals as goal

pub returns-then-not-well_formed : goal.returns-then-not-well_formed
returns-then-not-well_formed c = let a = c.args in not-well_formed a.work a.out a.kind a.verts a.faces a.stations (sym c.well_formed-2.ensures ∙ c.if-not-well_formed.true)

pub returns-then-not-within_counts : goal.returns-then-not-within_counts
returns-then-not-within_counts c =
    let formed : well_formed c.args.kind c.args.verts c.args.faces c.args.stations ≡ true = sym c.well_formed-2.ensures ∙ c.if-not-well_formed.false in
    let a = c.args in
    not-few a.work a.out a.kind a.verts a.faces a.stations formed (sym c.within_counts.ensures ∙ c.if-not-within_counts.true)

pub returns-then-work-faces : goal.returns-then-work-faces
returns-then-work-faces c =
    let formed : well_formed c.args.kind c.args.verts c.args.faces c.args.stations ≡ true = sym c.well_formed-2.ensures ∙ c.if-not-well_formed.false in
    let few : within_counts (c.args.verts / 3) (c.args.faces / 3) (c.args.stations / 3) ≡ true = sym c.within_counts.ensures ∙ c.if-not-within_counts.false in
    let a = c.args in
    short_work a.work a.out a.kind a.verts a.faces a.stations formed few (omega arith)

pub returns-then-out-sheet_length : goal.returns-then-out-sheet_length
returns-then-out-sheet_length c =
    let formed : well_formed c.args.kind c.args.verts c.args.faces c.args.stations ≡ true = sym c.well_formed-2.ensures ∙ c.if-not-well_formed.false in
    let few : within_counts (c.args.verts / 3) (c.args.faces / 3) (c.args.stations / 3) ≡ true = sym c.within_counts.ensures ∙ c.if-not-within_counts.false in
    let a = c.args in
    short_out a.work a.out a.kind a.verts a.faces a.stations formed few (omega arith) (omega (arith, c.sheet_length.ensures))

pub returns : goal.returns
returns c =
    let formed : well_formed c.args.kind c.args.verts c.args.faces c.args.stations ≡ true = sym c.well_formed-2.ensures ∙ c.if-not-well_formed.false in
    let few : within_counts (c.args.verts / 3) (c.args.faces / 3) (c.args.stations / 3) ≡ true = sym c.within_counts.ensures ∙ c.if-not-within_counts.false in
    let a = c.args in
    counted a.work a.out a.kind a.verts a.faces a.stations formed few (omega arith) (omega (arith, c.sheet_length.ensures))

pub sheet_length-requires : goal.sheet_length-requires
sheet_length-requires c =
    let few : within_counts (c.args.verts / 3) (c.args.faces / 3) (c.args.stations / 3) ≡ true = sym c.within_counts.ensures ∙ c.if-not-within_counts.false in
    counts_each _ _ _ few
