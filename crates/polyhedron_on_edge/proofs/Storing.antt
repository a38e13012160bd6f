-- A block of matrices. States: `dyad-stored`, `dyad-other`: what a store of nine numbers changes: matrix i becomes what was stored, and no other changes; `dyad-chunk`: nine by
-- nine, the numbers are the matrices. Assumes nothing.
use Rattle.std.proofs.Common.{◌≡◌, ◌≢◌, ◌∙◌, ℕ, zero, suc, ◌*◌, ◌+◌, ◌<◌, ◌≤◌, List, [], length, get_or, take, drop, drop-drop, ap, refl, arith, rules, add-zero, ⊎_elim}
use Rattle.std.proofs.lemmas.List.{get_or-drop, get_or-take, places}
use Rattle.std.specs.Simd.{first_chunks}
use Rattle.std.specs.Float.{Float, nan}
use Rattle.lists.proofs.Numbers.{below?}
use borrow.Rule.Slice.PartMut.{put_mid}
use Rattle.newtonian.specs.declared.Hessian.{Hessian}
use Rattle.newtonian.specs.Numbers.{hessian_numbers, hessian_of}
use Rattle.polyhedron_on_edge.specs.Block.{dyad_in}

-- a part of w numbers from a on
module _ (a w : ℕ) (xs ys : List Float) (l : a + w ≤ length xs) (s : length ys ≡ w) where
  part_at : (q : ℕ) → q < w → get_or (put_mid a w xs ys) (a + q) nan ≡ get_or ys q nan
  part_at q h = search (rules, places)

  part_before : (m : ℕ) → m < a → get_or (put_mid a w xs ys) m nan ≡ get_or xs m nan
  part_before m h = search (rules, places)

  part_after : (m : ℕ) → a + w ≤ m → get_or (put_mid a w xs ys) m nan ≡ get_or xs m nan
  part_after m h = search (rules, places)

module _ (i : ℕ) (d : Hessian) (xs : List Float) (l : i * 9 + 9 ≤ length xs) where
  abbrev nine : List Float
  nine = hessian_numbers d

  abbrev after : List Float
  after = put_mid (i * 9) 9 xs nine

  nine-length : length nine ≡ 9
  unfolding hessian_numbers
  nine-length = refl

  other : (j q : ℕ) → j ≢ i → q < 9 → get_or after (j * 9 + q) nan ≡ get_or xs (j * 9 + q) nan
  other j q ne h =
      ⊎_elim
      (λ b. part_before (i * 9) 9 xs nine l nine-length (j * 9 + q) (omega arith))
      (λ b. part_after (i * 9) 9 xs nine l nine-length (j * 9 + q) (omega arith))
      (below? j i)

  pub dyad-other : (j : ℕ) → j ≢ i → dyad_in after j ≡ dyad_in xs j
  unfolding dyad_in
  dyad-other j ne =
      let o : (q : ℕ) → q < 9 → get_or after (j * 9 + q) nan ≡ get_or xs (j * 9 + q) nan = λ q h. other j q ne h in
      let o₀ = simp add-zero at (o 0 (omega arith)) in
      simp (o₀, o 1 (omega arith), o 2 (omega arith), o 3 (omega arith), o 4 (omega arith), o 5 (omega arith), o 6 (omega arith), o 7 (omega arith), o 8 (omega arith))

  pub dyad-stored : dyad_in after i ≡ d
  unfolding dyad_in hessian_numbers
  dyad-stored =
      let o : (q : ℕ) → q < 9 → get_or after (i * 9 + q) nan ≡ get_or nine q nan = part_at (i * 9) 9 xs nine l nine-length in
      let o₀ = simp add-zero at (o 0 (omega arith)) in
      simp (o₀, o 1 (omega arith), o 2 (omega arith), o 3 (omega arith), o 4 (omega arith), o 5 (omega arith), o 6 (omega arith), o 7 (omega arith), o 8 (omega arith))

-- ---- nine by nine

chunk_at : (k : ℕ) (xs : List Float) (i : ℕ) → i < k → get_or (first_chunks 9 k xs) i [] ≡ take 9 (drop (i * 9) xs)
chunk_at zero xs i h = absurd (omega arith)
chunk_at (suc k) xs zero h = refl
chunk_at (suc k) xs (suc i) h =
    let e : 9 + i * 9 ≡ suc i * 9 = omega arith in
    chunk_at k (drop 9 xs) i (omega arith) ∙ ap (take 9) (drop-drop (i * 9) 9 xs ∙ ap (λ (m : ℕ). drop m xs) e)

pub dyad-chunk : (k : ℕ) (xs : List Float) (i : ℕ) → i < k → hessian_of (get_or (first_chunks 9 k xs) i []) ≡ dyad_in xs i
unfolding dyad_in hessian_of
dyad-chunk k xs i h =
    let o : (q : ℕ) → q < 9 → get_or (take 9 (drop (i * 9) xs)) q nan ≡ get_or xs (i * 9 + q) nan = λ q l. get_or-take 9 (drop (i * 9) xs) q nan l ∙ get_or-drop (i * 9) xs q nan in
    let o₀ = simp add-zero at (o 0 (omega arith)) in
    rw (chunk_at k xs i h) (simp (o₀, o 1 (omega arith), o 2 (omega arith), o 3 (omega arith), o 4 (omega arith), o 5 (omega arith), o 6 (omega arith), o 7 (omega arith), o 8 (omega arith)))
