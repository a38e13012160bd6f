-- What is read of a sheet's bytes: the counts (`kind_read` and its like), where its parts stand (`plan-split`, `pointer_read`), and its rows, together where each
-- stands (`rows_join`) and each where all stand (`rows_apart`). Assumes nothing.
use Rattle.std.specs.Prelude.{◌≡◌, true, ◌&&◌, leb, take, drop, Float}
use Rattle.std.proofs.Math.Path.{refl, sym}
use Rattle.std.proofs.Common.{ap, ◌∙◌, mul-suc, not-suc-le-zero, eq-or-lt_of_le, le_of_suc-le-suc, arith, length-append, take_at, drop_at}
use mathlib.Core.List.{List, [], ◌∷◌, ◌++◌, map-append}
use Rattle.std.proofs.Math.Logic.{⊎_elim}
use Prim.Native.Nat.{ℕ, zero, suc, ◌+◌, ◌*◌, ◌≤◌, ◌<◌}
use Rattle.std.proofs.Math.Nat.{mul-zero}
use Rattle.std.proofs.Math.Dec.{eqb}
use Rattle.std.proofs.Math.ListN.{length}
use Rattle.std.proofs.lemmas.List.{length-map}
use Rattle.std.specs.Float.{binary64}
use Rattle.std.specs.Float.Ieee.{to_bits}
use borrow.Author.Tests.{eq-eqb, eqb-true, leb-true, le-leb}
use Rattle.refusals.specs.declared.Refusal.TheVariants.{WrongLength}
use Rattle.std.specs.Prelude.{Ok}
use Rattle.refusals.proofs.Causes.{holds}
use Rattle.lists.proofs.Numbers.{both}
use Rattle.newtonian.specs.declared.Vector.{Vector}
use Rattle.sheet_layout.specs.LittleEndian.{unpack, bits}
use Rattle.sheet_layout.specs.Parts.{Part, Run, size, split}
use Rattle.sheet_layout.proofs.Lists.{unpack-length, unpack-append}
use Rattle.sheet_rows.specs.Kinds.{row_width}
use Rattle.sheet.specs.Input.{SheetInput, vertex_count, face_count, station_count, row_at}
use Rattle.sheet.specs.Bytes.{trailer_length, pointer_of, pointer, numbers_of, rows}
use Rattle.sheet.specs.Checker.{kind_in, vertices_in, faces_in, stations_in, pointer_in, pointer_for, faces_start, order_start, mates_start, parse, order_in, mates_in, same_numbers, wrong_length}

-- inputs that agree in each field
pub same_input : {k k' : ℕ} {v v' t t' : List Float} {f f' : List ℕ} {m m' a a' : Vector} → k ≡ k' → v ≡ v' → f ≡ f' → m ≡ m' → a ≡ a' → t ≡ t'
    → ◌≡◌ {A = SheetInput} (record { kind = k; vertices = v; faces = f; magnetisation = m; ambient = a; stations = t })
    (record { kind = k'; vertices = v'; faces = f'; magnetisation = m'; ambient = a'; stations = t' })
same_input p q r u v w = rw (p, q, r, u, v, w)

-- the width and count of each part of a sheet with v vertices, f faces and n stations
abbrev pub plan : ℕ → ℕ → ℕ → ℕ → List Run
plan kind v f n =
    (8, 3 * v) ∷ (4, 3 * f) ∷ (4, 3 * f) ∷ (4, 3 * f) ∷ (8, 3 * n) ∷ (8, row_width kind * n) ∷ (4, 4) ∷ (8, 3) ∷ (8, 3) ∷ (8, 1) ∷ (8, 1) ∷ []

-- the parts of such a sheet, where they stand in b
abbrev pub placed : ℕ → ℕ → ℕ → ℕ → List ℕ → List Part
placed kind v f n b =
    let t = pointer_of kind v f n in
    (8, unpack 8 (3 * v) b 0) ∷ (4, unpack 4 (3 * f) b (24 * v)) ∷ (4, unpack 4 (3 * f) b (24 * v + 12 * f)) ∷ (4, unpack 4 (3 * f) b (24 * v + 24 * f)) ∷ (8, unpack 8 (3 * n) b (24 * v + 36 * f))
    ∷ (8, unpack 8 (row_width kind * n) b (24 * v + 36 * f + 24 * n)) ∷ (4, unpack 4 4 b t) ∷ (8, unpack 8 3 b (t + 16)) ∷ (8, unpack 8 3 b (t + 40)) ∷ (8, unpack 8 1 b (t + 64))
    ∷ (8, unpack 8 1 b (t + 72)) ∷ []

module _ (kind v f n : ℕ) (b : List ℕ) where
  moved : (k m i j : ℕ) {ps qs : List Part} → i ≡ j → ps ≡ qs → ◌≡◌ {A = List Part} ((k, unpack k m b i) ∷ ps) ((k, unpack k m b j) ∷ qs)
  moved k m i j e q = rw (e, q)

  pub plan-split : split (plan kind v f n) b 0 ≡ placed kind v f n b
  plan-split =
      let t = pointer_of kind v f n in
      moved 8 (3 * v) _ 0 refl (moved 4 (3 * f) _ (24 * v) (omega arith) (moved 4 (3 * f) _ (24 * v + 12 * f) (omega arith) (moved 4 (3 * f) _ (24 * v + 24 * f) (omega arith)
      (moved 8 (3 * n) _ (24 * v + 36 * f) (omega arith) (moved 8 (row_width kind * n) _ (24 * v + 36 * f + 24 * n) (omega arith) (moved 4 4 _ t (omega arith) (moved 8 3 _ (t + 16) (omega arith)
      (moved 8 3 _ (t + 40) (omega arith) (moved 8 1 _ (t + 64) (omega arith) (moved 8 1 _ (t + 72) (omega arith) refl))))))))))

  pub plan-size : size (plan kind v f n) ≡ pointer_of kind v f n + trailer_length
  plan-size = omega arith

-- ---- counts

module _ (b : List ℕ) where
  pub kind_read : (parse b).kind ≡ kind_in b
  unfolding parse
  kind_read = refl

  pub vertices_read : vertex_count (parse b) ≡ vertices_in b
  unfolding parse
  vertices_read = simp (length-map, unpack-length) (omega arith)

  pub faces_read : face_count (parse b) ≡ faces_in b
  unfolding parse
  faces_read = simp unpack-length (omega arith)

  pub stations_read : station_count (parse b) ≡ stations_in b
  unfolding parse
  stations_read = simp (length-map, unpack-length) (omega arith)

  pub faces-length : length (parse b).faces ≡ 3 * faces_in b
  unfolding parse
  faces-length = unpack-length 4 (3 * faces_in b) b (faces_start b)

  pub order_in-length : length (order_in b) ≡ length (parse b).faces
  order_in-length = unpack-length 4 (3 * faces_in b) b (order_start b) ∙ sym faces-length

  pub mates_in-length : length (mates_in b) ≡ length (parse b).faces
  mates_in-length = unpack-length 4 (3 * faces_in b) b (mates_start b) ∙ sym faces-length

  pub pointer_read : pointer (parse b) ≡ pointer_for b
  unfolding parse
  pointer_read = rw (vertices_read, faces_read, stations_read)

  -- ---- 16

  pub none-length : wrong_length b ≡ Ok tt
      → (80 ≤ length b) × ((pointer_in b ≡ pointer_for b) × (length b ≡ pointer_for b + 80))
  unfolding wrong_length
  none-length e =
      let p = pointer_for b in
      let t = both (leb trailer_length (length b)) (eqb (pointer_in b) p && eqb (length b) (p + trailer_length)) (holds _ WrongLength e) in
      let u = both (eqb (pointer_in b) p) (eqb (length b) (p + trailer_length)) t.1 in
      (leb-true _ _ t.0, (eqb-true _ _ u.0, eqb-true _ _ u.1))

  pub length_none : pointer_in b ≡ pointer_for b → length b ≡ pointer_for b + 80
      → wrong_length b ≡ Ok tt
  unfolding wrong_length
  length_none p q =
      let before = pointer_for b in
      rw (le-leb trailer_length (length b) (omega (arith, q)), eq-eqb (pointer_in b) before p, eq-eqb (length b) (before + trailer_length) q)

-- ---- rows

pub same_list : (xs ys : List ℕ) → same_numbers xs ys ≡ true → xs ≡ ys
same_list [] [] e = refl
same_list [] (y ∷ ys) e = cc
same_list (x ∷ xs) [] e = cc
same_list (x ∷ xs) (y ∷ ys) e =
    let t = both (eqb x y) (same_numbers xs ys) e in
    let p : x ≡ y = eqb-true x y t.0 in
    let q : xs ≡ ys = same_list xs ys t.1 in
    cc

pub list_same : (xs : List ℕ) → same_numbers xs xs ≡ true
list_same [] = refl
list_same (x ∷ xs) = rw (eq-eqb x x refl) (list_same xs)

-- two lists in a row, taken apart again
apart : {xs ys us vs : List ℕ} → length xs ≡ length us → xs ++ ys ≡ us ++ vs → (xs ≡ us) × (ys ≡ vs)
apart {xs} {ys} {us} {vs} n e =
    (sym (take_at xs ys (length us) n) ∙ ap (take (length us)) e ∙ take_at us vs (length us) refl, sym (drop_at xs ys (length us) n) ∙ ap (drop (length us)) e ∙ drop_at us vs (length us) refl)

module _ (s : SheetInput) (w : ℕ) where
  -- each row has w numbers
  abbrev pub RowsHave : ℕ → Type 0
  RowsHave n = (i : ℕ) → i < n → length (numbers_of s (row_at s i)) ≡ w

  pub rows-length : (n : ℕ) → RowsHave n → length (rows s n) ≡ w * n
  unfolding rows
  rows-length zero h = sym (mul-zero w)
  rows-length (suc n) h = rw (length-append, rows-length n (λ i l. h i (omega arith)), h n (omega arith), mul-suc)

  module _ (b : List ℕ) (at : ℕ) where
    -- row i stands in b, where the rows start at `at`
    abbrev pub Stands : ℕ → Type 0
    Stands i = unpack 8 w b (at + 8 * w * i) ≡ bits (numbers_of s (row_at s i))

    next_row : (n : ℕ) → unpack 8 (w * suc n) b at ≡ unpack 8 (w * n) b at ++ unpack 8 w b (at + 8 * w * n)
    next_row n =
        let e : at + w * n * 8 ≡ at + 8 * w * n = omega arith in
        rw mul-suc (unpack-append 8 (w * n) w b at ∙ rw e)

    -- each row stands there: then all together do
    pub rows_join : (n : ℕ) → ((i : ℕ) → i < n → Stands i) → unpack 8 (w * n) b at ≡ bits (rows s n)
    unfolding rows unpack
    rows_join zero h = rw mul-zero
    rows_join (suc n) h = next_row n ∙ rw (rows_join n (λ i l. h i (omega arith)), h n (omega arith)) (sym (map-append (to_bits binary64) (rows s n) (numbers_of s (row_at s n))))

    -- all together do: then each row does
    pub rows_apart : (n : ℕ) → RowsHave n → unpack 8 (w * n) b at ≡ bits (rows s n) → (i : ℕ) → i < n → Stands i
    unfolding rows
    rows_apart zero h e i l = absurd (not-suc-le-zero l)
    rows_apart (suc n) h e i l =
        let k : length (unpack 8 (w * n) b at) ≡ length (bits (rows s n)) =
        unpack-length 8 (w * n) b at ∙ sym (length-map (rows s n) (to_bits binary64) ∙ rows-length n (λ j g. h j (omega arith))) in
        let t = apart k (sym (next_row n) ∙ e ∙ map-append (to_bits binary64) (rows s n) (numbers_of s (row_at s n))) in
        ⊎_elim (λ q. rw q t.1) (λ q. rows_apart n (λ j g. h j (omega arith)) t.0 i q) (eq-or-lt_of_le (le_of_suc-le-suc l))
