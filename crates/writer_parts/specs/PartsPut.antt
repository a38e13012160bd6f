-- The parts of a sheet before its rows and after them, in document 01's order, and what its bytes become once the rows are written or refused. Definitions only.
use Rattle.std.specs.Prelude.{◌≡◌, List, [], ◌∷◌, ℕ, ◌+◌, ◌*◌, ◌-◌, Float, length, take, drop, replicate}
use Rattle.std.proofs.lemmas.List.Edits.{sets}
use Rattle.std.specs.Prelude.{Ok, Err}
use Rattle.refusals.specs.Causes.{Cause}
use Rattle.newtonian.specs.Vectors.{vector_numbers}
use Rattle.newtonian.specs.declared.Vector.{Vector}
use Rattle.mesh_orders.specs.Order.{order_list}
use Rattle.mesh_orders.specs.Mates.{mates}
use Rattle.sheet_layout.specs.LittleEndian.{pack, bits}
use Rattle.sheet_layout.specs.Parts.{Part, joined}
use Rattle.sheet.specs.Bytes.{trailer_length}

-- before the rows: vertices, faces, order list, mates and stations
abbrev pub front_parts : List Float → List ℕ → List Float → List Part
front_parts v f st = (8, bits v) ∷ (4, f) ∷ (4, order_list f) ∷ (4, mates f) ∷ (8, bits st) ∷ []

-- the mates stand in the bytes o where they belong, behind n coordinates of vertices, faces and order list
abbrev pub MatesStand : ℕ → List ℕ → List ℕ → Type 0
MatesStand n f o = take (4 * length f) (drop (8 * n + 8 * length f) o) ≡ pack 4 (mates f)

-- the trailer's: kind, V, F and S; magnetisation and ambient field; volume; pointer
abbrev pub trailer_parts : ℕ → ℕ → ℕ → ℕ → Vector → Vector → Float → ℕ → List Part
trailer_parts kind v f n m b x pointer =
    (4, kind ∷ v ∷ f ∷ n ∷ []) ∷ (8, bits (vector_numbers m)) ∷ (8, bits (vector_numbers b)) ∷ (8, bits (x ∷ [])) ∷ (8, pointer ∷ []) ∷ []

-- the sheet's bytes, which were o once the rows were tried: the trailer stands in the last of them, or all are zeros after a refusal
unfoldable pub finished : Cause → List Part → List ℕ → List ℕ
finished (Ok _) trailer o = sets o (length o - trailer_length) (joined trailer)
finished (Err r) trailer o = replicate (length o) 0
