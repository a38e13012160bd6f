-- `writer_rows::put_rows` meets its contract: the rows of the blocks so far are written, and none of their stations is refused. Assumes nothing.
use mathlib.Core.Path.{◌≡◌, refl, sym, ap, ◌∙◌, subst}
use mathlib.Core.List.{List}
use Prim.Native.Nat.{ℕ, ◌+◌, ◌<◌}
use native.Mathlib.Omega.{arith}
use lib.Ieee.{Float}
use lib.ListN.{get_or}
use Rattle.refusals.specs.Answer.{Answer}
use Rattle.refusals.specs.Causes.{first_of}
use Rattle.newtonian.specs.declared.Vector.{Vector}
use Rattle.newtonian.specs.declared.Newtonian.{Newtonian}
use Rattle.mesh.specs.Surface.{vertex}
use Rattle.polyhedron_blocks.specs.Blocks.{no_vector}
use Rattle.sheet_layout.specs.LittleEndian.{pack}
use Rattle.sheet_rows.specs.Row.{field_at}
use Rattle.sheet_rows.specs.StationFields.{StationFields}
use Rattle.sheet.specs.Input.{SheetInput}
use Rattle.sheet.specs.Bytes.{rows}
use Rattle.writer_rows.specs.Rows.{RowsUpTo, FieldsAt}
use Rattle.writer_rows.proofs.RowLaws.{all-rows}
use Rattle.writer_rows.proofs.put_rows.Goals as goal

-- the fields of the block, of stations that the list has
fields : {k i n : ℕ} {v : List Float} {f : List ℕ} {st : List Float} {places : List Vector} {r : List (Answer Newtonian)} → StationFields k i n places v f r
    → ((j : ℕ) → j < n → get_or places j no_vector ≡ vertex st (i + j)) → FieldsAt k i n v f st r
fields {k} {i} {n} {v} {f} a b = record { at = λ j h. a.at j h ∙ ap (λ (p : Vector). field_at k (i + j) p v f) (b j h) }

-- the rows up to a number, by another name of it
up_to : {s : SheetInput} {at i k : ℕ} {o q : List ℕ} → i ≡ k → RowsUpTo s at k o q → RowsUpTo s at i o q
up_to {s} {at} {i} {k} {o} {q} e h = subst (λ (n : ℕ). RowsUpTo s at n o q) (sym e) h

pub loop-first-init : goal.loop-first-init
unfolding first_of rows pack
loop-first-init c = (omega arith, refl, refl, record { none = refl; bytes = refl })

-- after the last block
pub returns-in_ok-put_block : goal.returns-in_ok-put_block
returns-in_ok-put_block c =
    let range = c.of-stations.ensures.range in
    let put = c.put_block.ensures c.args.out.now (fields c.fields_at-fields.ensures c.of-stations.ensures.places) (up_to range.0 c.loop-first.invariant.3) in
    let done = put.on c.in_ok-put_block.was in
    all-rows _ _ _ _ (omega (arith, range, c.min-n.ensures)) done.none done.bytes

pub returns : goal.returns
returns c = all-rows _ _ _ c.loop-first.first (omega arith) c.loop-first.invariant.3.none c.loop-first.invariant.3.bytes
