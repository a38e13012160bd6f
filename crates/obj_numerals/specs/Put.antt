-- What it is to write a piece of text at a cursor. A reader of `write_obj`'s definition does not need it. Definitions only.
use Rattle.std.specs.Prelude.{◌≡◌, List, ℕ, ◌+◌, ◌≤◌, length}
use Rattle.std.proofs.lemmas.List.Edits.{sets}
use Rattle.obj_numerals.specs.declared.cursor.Cursor.{Cursor}

-- the piece s fits between the cursor's place and the end of its text
abbrev pub HasRoom : Cursor → List ℕ → Type 0
HasRoom c s = c.at + length s ≤ length c.text.now

-- the cursor c with the piece s written is d, over the same text
pub record Put (c d : Cursor) (s : List ℕ) : Type 0 where
  pub same : d.text.ghost_name ≡ c.text.ghost_name
  pub at : d.at ≡ c.at + length s
  pub text : d.text.now ≡ sets c.text.now c.at s
