-- A line, number by number. States: `line_sum`: how long it is; `field_room`, `put_field`: one number more at a cursor; `newline_room`: and the newline. Assumes nothing.
use Rattle.std.proofs.Common.{◌≡◌, ℕ, ◌+◌, ◌<◌, ◌≤◌, List, [], ◌∷◌, ◌++◌, length, get_or, take, refl, sym, ap, ◌∙◌, append-nil, arith, length-append}
use Rattle.std.specs.List.{flat_map, sum_by}
use Rattle.std.proofs.lemmas.List.{take_more}
use Rattle.std.proofs.lemmas.List.Concat.{flat_map-append, length-flat_map}
use Rattle.std.proofs.lemmas.List.Sums.{sum_by-cons, sum_by-take-le, sum_by_more_le}
use Rattle.obj.specs.Text.{newline, space}
use Rattle.obj_numerals.specs.declared.cursor.Cursor.{Cursor}
use Rattle.obj_numerals.specs.Put.{Put, HasRoom}
use Rattle.obj_numerals.proofs.Puts.{put_then, put_rest}
use Rattle.obj_writer.specs.Lines.{line_text}

module _ {A : Type 0} (text : A → List ℕ) where
  -- a number with the space before it
  abbrev field : A → List ℕ
  field x = space ∷ text x

  fields_sum : (s : List A) → length (flat_map field s) ≡ sum_by (λ x. 1 + length (text x)) s
  fields_sum [] = refl
  fields_sum (x ∷ s) = omega (arith, length-append (text x) (flat_map field s), fields_sum s, sum_by-cons (λ (y : A). 1 + length (text y)) x s)

  pub line_sum : (letter : ℕ) (s : List A) → length (line_text letter text s) ≡ 1 + sum_by (λ x. 1 + length (text x)) s
  line_sum letter s = omega (arith, fields_sum s)

  module _ (s : List A) (i : ℕ) where
    fields_least : length (flat_map field (take i s)) ≤ length (flat_map field s)
    fields_least = omega (arith, length-flat_map field (take i s), length-flat_map field s, sum_by-take-le (λ (x : A). length (field x)) s i)

    fields_more : (x : A) → i < length s → x ≡ get_or s i x → flat_map field (take (i + 1) s) ≡ flat_map field (take i s) ++ field x
    fields_more x l e =
        ap (flat_map field) (take_more s i x l)
        ∙ flat_map-append field (take i s) (get_or s i x ∷ [])
        ∙ ap (λ (y : List ℕ). flat_map field (take i s) ++ y) (append-nil (field (get_or s i x)) ∙ ap field (sym e))

    -- the numbers up to i are written, and there is room for the whole line
    module _ (letter : ℕ) {c d : Cursor} (p : Put c d (line_text letter text (take i s))) where
      pub newline_room : HasRoom c (line_text letter text s ++ newline ∷ []) → HasRoom d (newline ∷ [])
      newline_room h =
          put_rest p (newline ∷ []) (omega (arith, h, fields_least, length-append (flat_map field s) (newline ∷ []), length-append (flat_map field (take i s)) (newline ∷ [])))

      module _ (x : A) (l : i < length s) (is : x ≡ get_or s i x) where
        pub field_room : HasRoom c (line_text letter text s ++ newline ∷ []) → HasRoom d (space ∷ text x)
        field_room h =
            put_rest p (space ∷ text x)
            (omega (
              arith,
              h,
              length-flat_map field s,
              length-flat_map field (take i s),
              sum_by_more_le (λ (y : A). length (field y)) s i x l,
              ap (λ (y : A). length (field y)) is,
              length-append (flat_map field s) (newline ∷ []),
              length-append (flat_map field (take i s)) (space ∷ text x),
            ))

        pub put_field : {e f : Cursor} → Put d e (space ∷ []) → Put e f (text x) → Put c f (line_text letter text (take (i + 1) s))
        put_field {e} {f} q r = rw (fields_more x l is) (put_then p (put_then q r))
