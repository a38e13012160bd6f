-- Pieces of text written at a cursor. States: `put_none`: no piece; `put_then`: two in a row are one; `put_rest`: where there is room for both, there is room for the second after the first; `put_front`: the
-- text after a piece from its front; `signed_coordinate`, `unsigned_coordinate`: a coordinate's text, with a minus and without. Assumes nothing.
use Rattle.std.proofs.Common.{◌≡◌, ℕ, ◌≤◌, true, false, List, [], ◌∷◌, ◌++◌, length, drop, refl, sym, ap, ◌∙◌, add-zero, arith, length-append}
use Rattle.std.proofs.Math.Seq.{sets, length-sets}
use Rattle.std.specs.Float.{Float}
use Rattle.doubles.specs.Magnitude.{negative}
use Rattle.sheet_layout.proofs.Stores.{sets_then, sets_front}
use Rattle.obj.specs.Text.{minus}
use Rattle.obj.specs.Whole.{magnitude_of}
use Rattle.obj.specs.Writer.{numeral, coordinate}
use Rattle.obj_numerals.specs.declared.cursor.Cursor.{Cursor}
use Rattle.obj_numerals.specs.Put.{Put, HasRoom}

pub put_none : (c : Cursor) → Put c c []
put_none c = record { same = refl; at = sym (add-zero c.at); text = refl }

module _ {c d : Cursor} {s : List ℕ} (p : Put c d s) where
  pub put_then : {e : Cursor} {t : List ℕ} → Put d e t → Put c e (s ++ t)
  put_then {e} {t} q = record {
    same = q.same ∙ p.same;
    at = omega (arith, p.at, q.at, length-append s t);
    text = q.text ∙ ap (λ (l : List ℕ). sets l d.at t) p.text ∙ sets_then c.text.now c.at d.at s t p.at;
  }

  pub put_rest : (t : List ℕ) → HasRoom c (s ++ t) → HasRoom d t
  put_rest t h = omega (arith, h, p.at, ap length p.text ∙ length-sets c.text.now c.at s, length-append s t)

  pub put_front : c.at ≡ 0 → length s ≤ length c.text.now → d.text.now ≡ s ++ drop (length s) c.text.now
  put_front z l = p.text ∙ ap (λ (i : ℕ). sets c.text.now i s) z ∙ sets_front c.text.now s l

-- ---- a coordinate

pub signed_coordinate : (x : Float) → negative x ≡ true → coordinate x ≡ minus ∷ numeral (magnitude_of x)
unfolding coordinate
signed_coordinate x e = rw e

pub unsigned_coordinate : (x : Float) → negative x ≡ false → coordinate x ≡ numeral (magnitude_of x)
unfolding coordinate
unsigned_coordinate x e = rw e
