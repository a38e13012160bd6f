-- Lines, one after the other. States: `written_same`: equal lines; `line_room`, `put_more`: one more at a cursor; `lines_sum`, `taken_high`, `lines_high`: how long those of a list of numbers are. Assumes nothing.
use Rattle.std.proofs.Common.{◌≡◌, ℕ, zero, suc, ◌+◌, ◌*◌, ◌/◌, ◌%◌, ◌<◌, ◌≤◌, List, [], ◌∷◌, ◌++◌, length, get_or, take, drop, refl, ap, ap₂, ◌∙◌, ⊎_elim, add-one, arith, length-append}
use Rattle.std.proofs.Math.Nat.{eq-or-lt_of_le}
use Rattle.std.proofs.Math.Seq.{take_all, take-add}
use Rattle.std.specs.List.{sum_by}
use Rattle.std.proofs.lemmas.List.Sums.{sum_by-append, sum_by-le}
use Rattle.obj.specs.Text.{newline}
use Rattle.obj.specs.Writer.{written}
use Rattle.obj_numerals.specs.declared.cursor.Cursor.{Cursor}
use Rattle.obj_numerals.specs.Put.{Put, HasRoom}
use Rattle.obj_numerals.proofs.Puts.{put_then, put_rest}
use Rattle.obj_writer.specs.Lines.{line_at, lines_text}
use Rattle.obj_writer.proofs.Fields.{line_sum}

pub written_same : (n : ℕ) (f g : ℕ → List ℕ) → ((k : ℕ) → k < n → f k ≡ g k) → written n f ≡ written n g
unfolding written
written_same zero f g h = refl
written_same (suc n) f g h = ap₂ ◌++◌ (written_same n f g (λ k l. h k (omega arith))) (ap (λ (s : List ℕ). s ++ newline ∷ []) (h n (omega arith)))

module _ (line : ℕ → List ℕ) where
  -- fewer lines are no longer
  written_least : (k n : ℕ) → k ≤ n → length (written k line) ≤ length (written n line)
  unfolding written
  written_least k zero l = let e : k ≡ 0 = omega arith in rw e (omega arith)
  written_least k (suc n) l =
      ⊎_elim (λ e. rw e (omega arith)) (λ h. simp length-append (omega (arith, written_least k n (omega arith)))) (eq-or-lt_of_le l)

  module _ {c d : Cursor} (k : ℕ) (p : Put c d (written k line)) where
    pub line_room : (n : ℕ) → k < n → HasRoom c (written n line) → HasRoom d (line k ++ newline ∷ [])
    unfolding written
    line_room n l h = put_rest p (line k ++ newline ∷ []) (let m = written_least (suc k) n l in omega arith)

    pub put_more : {e : Cursor} → Put d e (line k ++ newline ∷ []) → Put c e (written (k + 1) line)
    unfolding written
    put_more {e} q = rw add-one (put_then p q)

-- ---- how long they are

module _ {A : Type 0} (letter : ℕ) (text : A → List ℕ) (s : List A) where
  -- what a number takes with the space before it
  abbrev taken : A → ℕ
  taken x = 1 + length (text x)

  so_far : (k : ℕ) → length (written k (line_at letter text s)) ≡ sum_by taken (take (3 * k) s) + 2 * k
  unfolding written
  so_far zero = refl
  so_far (suc k) =
      let e : 3 * k + 3 ≡ 3 * suc k = omega arith in
      omega (
        arith,
        so_far k,
        length-append (written k (line_at letter text s)) (line_at letter text s k ++ newline ∷ []),
        length-append (line_at letter text s k) (newline ∷ []),
        line_sum text letter (take 3 (drop (3 * k) s)),
        sum_by-append taken (take (3 * k) s) (take 3 (drop (3 * k) s)),
        ap (sum_by taken) (take-add (3 * k) 3 s),
        ap (λ (n : ℕ). sum_by taken (take n s)) e,
      )

  pub taken_high : ((x : A) → length (text x) ≤ 11) → sum_by taken s ≤ length s * 12
  taken_high h = sum_by-le taken 12 s (λ i d l. omega (arith, h (get_or s i d)))

  pub lines_sum : length s % 3 ≡ 0 → length (lines_text letter text s) ≡ sum_by taken s + 2 * (length s / 3)
  lines_sum t = so_far (length s / 3) ∙ ap (λ (l : List A). sum_by taken l + 2 * (length s / 3)) (take_all (3 * (length s / 3)) s (omega arith))

  pub lines_high : length s % 3 ≡ 0 → ((x : A) → length (text x) ≤ 11) → length (lines_text letter text s) ≤ length s * 13
  lines_high t h = omega (arith, lines_sum t, taken_high h)
