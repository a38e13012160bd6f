-- `sheet_readers::opened::Sheet::open` meets its contract. Assumes nothing.
use Rattle.std.proofs.lemmas.Result.{err_from_is_err_and}
use mathlib.Core.Path.{refl, sym, ◌∙◌}
use Rattle.sheet_readers.proofs.Opening.{opened, refused-length, length-passed, unknown, too_many, opens, in_trailer}
use Rattle.sheet_readers.proofs.opened.Sheet.open.Goals as goal

pub returns-in_err-trailer : goal.returns-in_err-trailer
returns-in_err-trailer c =
    let p = err_from_is_err_and c.from_residual.result c.from_residual.ensures.1 in
    rw (p.1, p.2) (refused-length c.args.bytes.now _ _ (sym c.in_err-trailer.was ∙ c.whole_trailer.ensures))

pub returns-then-not-known_kind : goal.returns-then-not-known_kind
returns-then-not-known_kind c =
    let w = length-passed c.args.bytes.now _ _ (sym c.in_ok-trailer.was ∙ c.whole_trailer.ensures) in
    let t = in_trailer c.args.bytes.now _ w.1 in
    unknown c.args.bytes.now w.0 (rw (← t.kind, ← t.vertices, ← t.faces, ← c.known_kind.ensures) c.if-not-known_kind.true)

pub returns-then-not-within_counts : goal.returns-then-not-within_counts
returns-then-not-within_counts c =
    let w = length-passed c.args.bytes.now _ _ (sym c.in_ok-trailer.was ∙ c.whole_trailer.ensures) in
    let t = in_trailer c.args.bytes.now _ w.1 in
    too_many c.args.bytes.now w.0 (rw (← t.kind, ← t.vertices, ← t.faces, ← c.known_kind.ensures) c.if-not-known_kind.false)
    (rw (← t.vertices, ← t.faces, ← t.stations, ← c.within_counts.ensures) c.if-not-within_counts.true)

pub invariant_of-result : goal.invariant_of-result
invariant_of-result c =
    let w = length-passed c.args.bytes.now _ _ (sym c.in_ok-trailer.was ∙ c.whole_trailer.ensures) in
    let t = in_trailer c.args.bytes.now _ w.1 in
    let e = opens c.args.bytes.now w.0 (rw (← t.kind, ← t.vertices, ← t.faces, ← c.known_kind.ensures) c.if-not-known_kind.false)
    (rw (← t.vertices, ← t.faces, ← t.stations, ← c.within_counts.ensures) c.if-not-within_counts.false) in
    record { opened = opened c.args.bytes.now e; read = t }

pub returns : goal.returns
returns c =
    let w = length-passed c.args.bytes.now _ _ (sym c.in_ok-trailer.was ∙ c.whole_trailer.ensures) in
    let t = in_trailer c.args.bytes.now _ w.1 in (
      refl,
      opens c.args.bytes.now w.0 (rw (← t.kind, ← t.vertices, ← t.faces, ← c.known_kind.ensures) c.if-not-known_kind.false)
          (rw (← t.vertices, ← t.faces, ← t.stations, ← c.within_counts.ensures) c.if-not-within_counts.false),
    )
