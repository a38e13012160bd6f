-- The length that a caller is told is the sheet's: `length_of_input`, of what a sheet is made from where neither 1 nor 2 refuses, and `length_of-bytes`, of bytes that
-- none of 16, 1 and 2 refuses. Assumes nothing.
use Rattle.std.specs.Prelude.{◌≡◌, Bool, true, false, ◌&&◌, List, ℕ, ◌%◌, eqb, length}
use Rattle.std.proofs.Common.{sym, ◌∙◌}
use Rattle.refusals.specs.declared.Refusal.TheVariants.{Malformed, TooMany}
use Rattle.std.specs.Prelude.{Ok}
use Rattle.refusals.proofs.Causes.{both, holds}
use Rattle.sheet_rows.specs.Kinds.{known_kind, within_counts}
use Rattle.sheet.specs.Input.{SheetInput, vertex_count, face_count, station_count}
use Rattle.sheet.specs.Bytes.{sheet_size}
use Rattle.sheet.specs.Writer.{malformed, too_many}
use Rattle.sheet.specs.Checker.{kind_in, vertices_in, faces_in, stations_in, parse, wrong_length, opening_cause}
use Rattle.sheet_laws.specs.Reading.{kind_read, vertices_read, faces_read, stations_read, none-length}
use Rattle.sheet_readers.specs.Parts.{length_of}

-- the last of four tests that all hold
last : (t u v w : Bool) → (t && (u && (v && w))) ≡ true → w ≡ true
last true true true w e = e
last true true false w e = cc
last true false v w e = cc
last false u v w e = cc

pub length_of_input : (s : SheetInput) → malformed s ≡ Ok tt → too_many s ≡ Ok tt → length_of s.kind (vertex_count s) (face_count s) (station_count s) ≡ sheet_size s
unfolding malformed too_many length_of
length_of_input s e u =
    let k : known_kind s.kind (vertex_count s) (face_count s) ≡ true =
    last (eqb (length s.vertices % 3) 0) (eqb (length s.faces % 3) 0) (eqb (length s.stations % 3) 0) _ (holds _ Malformed e) in
    let w : within_counts (vertex_count s) (face_count s) (station_count s) ≡ true = holds _ TooMany u in
    rw (k, w)

pub length_of-bytes : (b : List ℕ) → opening_cause b ≡ Ok tt → length_of (kind_in b) (vertices_in b) (faces_in b) (stations_in b) ≡ length b
unfolding opening_cause
length_of-bytes b e =
    let a = both (wrong_length b) _ e in
    let c = both (malformed (parse b)) (too_many (parse b)) a.1 in
    let l = length_of_input (parse b) c.0 c.1 in
    let w = none-length b a.0 in
    (rw (kind_read b, vertices_read b, faces_read b, stations_read b) at l) ∙ sym w.1.1
