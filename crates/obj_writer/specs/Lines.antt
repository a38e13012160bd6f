-- Lines of numbers, coordinates and vertex numbers alike, as the parts of `write_obj` speak of them. A reader of its definition does not need them. Definitions only.
use Rattle.std.specs.Prelude.{◌≡◌, List, ◌∷◌, ℕ, ◌*◌, ◌/◌, ◌%◌, ◌≤◌, length, take, drop}
use Rattle.std.specs.List.{All, flat_map}
use Rattle.mesh_orders.specs.Edges.{max_faces}
use Rattle.obj.specs.Text.{space}
use Rattle.obj.specs.Writer.{written}

module _ {A : Type 0} where
  -- what the causes 1 to 4 leave of a list of which each number has P
  pub record Given (P : A → Type 0) (s : List A) : Type 0 where
    pub triples : length s % 3 ≡ 0
    pub few : length s ≤ 3 * max_faces
    pub each : All P s

  -- a letter, and numbers as `text` says with a space before each
  abbrev pub line_text : ℕ → (A → List ℕ) → List A → List ℕ
  line_text letter text numbers = letter ∷ flat_map (λ x. space ∷ text x) numbers

  -- line k of those of the numbers s, three to a line
  abbrev pub line_at : ℕ → (A → List ℕ) → List A → ℕ → List ℕ
  line_at letter text s k = line_text letter text (take 3 (drop (3 * k) s))

  -- all of them, a newline after each
  abbrev pub lines_text : ℕ → (A → List ℕ) → List A → List ℕ
  lines_text letter text s = written (length s / 3) (line_at letter text s)
