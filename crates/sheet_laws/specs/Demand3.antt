-- Demand 3, as sheet/specs/Demand3 states it: `demand_3`, at the end, with each of its sentences by name above it. Assumes nothing.
use Rattle.std.specs.Prelude.{◌≡◌, refl, List, [], ◌∷◌, ◌↔◌, ℕ, ◌+◌, ◌*◌, ◌≤◌, length, take, drop}
use Rattle.std.proofs.Common.{sym, ap, ◌∙◌, arith}
use Rattle.std.specs.Prelude.{Ok, Err}
use Rattle.refusals.specs.Answer.{or_answer}
use Rattle.refusals.specs.Causes.{Cause}
use Rattle.mesh.specs.Surface.{vertex}
use Rattle.sheet_layout.specs.LittleEndian.{number, unpack, doubles, IsBytes}
use Rattle.sheet_layout.proofs.Numbers.{number-part}
use Rattle.sheet_layout.proofs.Lists.{unpack-part}
use Rattle.sheet.specs.Input.{SheetInput}
use Rattle.sheet.specs.Bytes.{sheet_size, sheet_bytes}
use Rattle.sheet.specs.Writer.{writer_cause}
use Rattle.sheet.specs.Checker.{trailer, kind_in, vertices_in, faces_in, stations_in, faces_start, stations_start, vector_in, parse, checker_cause, check_sheet}
use Rattle.sheet.specs.Demand3 as sheet
use Rattle.sheet.specs.Promises.{NoCause, Right, SameGiven, Typed, Kept}
use Rattle.sheet_laws.specs.WriterLaws.{no_cause, cause-none}
use Rattle.sheet_laws.specs.Reading.{same_input}
use Rattle.sheet_laws.specs.AcceptedLaws as accepted
use Rattle.sheet_laws.specs.KeptLaws as keeping

-- ---- the writer writes exactly where no cause of its order holds; w and o are the lengths of work and out

pub writes_exactly : (s : SheetInput) (w o : ℕ) → (writer_cause s w o ≡ Ok tt) ↔ NoCause s w o
writes_exactly s w o = (no_cause s w o, cause-none s w o)

-- ---- what the checker accepts is right

pub right : (b : List ℕ) → IsBytes b → checker_cause b ≡ Ok tt → Right b (kind_in b) (stations_in b)
right b B ok = accepted.right b B (accepted.passed b ok)

answer-none : (c : Cause) {i j k n : ℕ} → or_answer c (Ok (i ∷ j ∷ [])) ≡ Ok (k ∷ n ∷ []) → (c ≡ Ok tt) × ((i ≡ k) × (j ≡ n))
answer-none (Ok _) e = (refl, (cc, cc))
answer-none (Err r) e = absurd (let z : ◌≡◌ {A = ℕ} 0 1 = cc in omega arith)

-- an answer that accepts gives the trailer's kind and S
pub accepted-right : (b : List ℕ) → IsBytes b → (k n : ℕ) → check_sheet b ≡ Ok (k ∷ n ∷ []) → Right b k n
unfolding check_sheet
accepted-right b B k n e = let h = answer-none (checker_cause b) e in rw (sym h.1.0, sym h.1.1) (right b B h.0)

-- ---- what agrees in the given bytes was made from the same

module _ (b c : List ℕ) (g : SameGiven b c) where
  in_header : (j : ℕ) → j + 4 ≤ 64 → number 4 b (trailer b + j) ≡ number 4 c (trailer c + j)
  in_header j l = sym (number-part 4 64 b (trailer b) j l) ∙ ap (λ (h : List ℕ). number 4 h j) g.header ∙ number-part 4 64 c (trailer c) j l

  same_kind : kind_in b ≡ kind_in c
  same_kind =
      let e : trailer b ≡ trailer b + 0 = omega arith in
      let f : trailer c + 0 ≡ trailer c = omega arith in
      ap (number 4 b) e ∙ in_header 0 (omega arith) ∙ ap (number 4 c) f

  same-vertices : vertices_in b ≡ vertices_in c
  same-vertices = in_header 4 (omega arith)

  same-faces : faces_in b ≡ faces_in c
  same-faces = in_header 8 (omega arith)

  same-stations : stations_in b ≡ stations_in c
  same-stations = in_header 12 (omega arith)

  vectors : (j : ℕ) → j + 24 ≤ 64 → vector_in b (trailer b + j) ≡ vector_in c (trailer c + j)
  vectors j l =
      ap (λ (ns : List ℕ). vertex (doubles ns) 0)
      (sym (unpack-part 8 3 64 b (trailer b) j (omega arith)) ∙ ap (λ (h : List ℕ). unpack 8 3 h j) g.header ∙ unpack-part 8 3 64 c (trailer c) j (omega arith))

  -- the body's bytes in a list
  abbrev body : List ℕ → List ℕ
  body d = take (24 * vertices_in d + 12 * faces_in d) d

  in_body : (d : List ℕ) (k n i : ℕ) → i + n * k ≤ 24 * vertices_in d + 12 * faces_in d → unpack k n (body d) i ≡ unpack k n d i
  in_body d k n i l = let e : 0 + i ≡ i = omega arith in unpack-part k n (24 * vertices_in d + 12 * faces_in d) d 0 i l ∙ ap (unpack k n d) e

  corners : unpack 8 (3 * vertices_in b) b 0 ≡ unpack 8 (3 * vertices_in c) c 0
  corners =
      sym (in_body b 8 (3 * vertices_in b) 0 (omega arith)) ∙ ap (λ (d : List ℕ). unpack 8 (3 * vertices_in b) d 0) g.body
      ∙ ap (λ (n : ℕ). unpack 8 (3 * n) (body c) 0) same-vertices ∙ in_body c 8 (3 * vertices_in c) 0 (omega arith)

  faces : unpack 4 (3 * faces_in b) b (faces_start b) ≡ unpack 4 (3 * faces_in c) c (faces_start c)
  faces =
      sym (in_body b 4 (3 * faces_in b) (faces_start b) (omega arith)) ∙ ap (λ (d : List ℕ). unpack 4 (3 * faces_in b) d (faces_start b)) g.body
      ∙ ap (λ (n : ℕ). unpack 4 (3 * n) (body c) (faces_start b)) same-faces ∙ ap (λ (n : ℕ). unpack 4 (3 * faces_in c) (body c) (24 * n)) same-vertices
      ∙ in_body c 4 (3 * faces_in c) (faces_start c) (omega arith)

  abbrev stations : List ℕ → List ℕ
  stations d = take (24 * stations_in d) (drop (stations_start d) d)

  in_stations : (d : List ℕ) → unpack 8 (3 * stations_in d) (stations d) 0 ≡ unpack 8 (3 * stations_in d) d (stations_start d)
  in_stations d =
      let e : stations_start d + 0 ≡ stations_start d = omega arith in
      unpack-part 8 (3 * stations_in d) (24 * stations_in d) d (stations_start d) 0 (omega arith) ∙ ap (unpack 8 (3 * stations_in d) d) e

  points : unpack 8 (3 * stations_in b) b (stations_start b) ≡ unpack 8 (3 * stations_in c) c (stations_start c)
  points =
      sym (in_stations b) ∙ ap (λ (d : List ℕ). unpack 8 (3 * stations_in b) d 0) g.stations ∙ ap (λ (n : ℕ). unpack 8 (3 * n) (stations c) 0) same-stations ∙ in_stations c

  same-parse : parse b ≡ parse c
  unfolding parse
  same-parse = same_input same_kind (ap doubles corners) faces (vectors 16 (omega arith)) (vectors 40 (omega arith)) (ap doubles points)

-- two accepted sheets that agree bit for bit in kind, body, magnetisation, ambient field and stations are the same in every byte
pub alone : (b c : List ℕ) → IsBytes b → IsBytes c → checker_cause b ≡ Ok tt → checker_cause c ≡ Ok tt → SameGiven b c → b ≡ c
alone b c B C p q g = (right b B p).whole ∙ ap sheet_bytes (same-parse b c g) ∙ sym (right c C q).whole

-- ---- what the writer writes

pub kept : (s : SheetInput) (w o : ℕ) → Typed s → writer_cause s w o ≡ Ok tt → Kept s (sheet_bytes s)
kept s w o ty e = keeping.is-kept s ty w o (no_cause s w o e)

pub sheet_length : (s : SheetInput) (w o : ℕ) → Typed s → writer_cause s w o ≡ Ok tt → length (sheet_bytes s) ≡ sheet_size s
sheet_length s w o ty e = keeping.sheet_length s ty w o (no_cause s w o e)

-- ---- all of it

pub demand_3 : sheet.Demand3
demand_3 = record { writes_exactly = writes_exactly; accepted-right = accepted-right; alone = alone; sheet_length = sheet_length; kept = kept }
