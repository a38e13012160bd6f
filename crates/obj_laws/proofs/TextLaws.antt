-- What the text of `write_obj` looks like. States:
-- `one_line_each`: its lines are those of the vertices, those of the faces, and, after the last newline, an empty one; `line_count`: so it has V + F + 1;
-- `only_these_bytes`: each of its bytes is a digit, a minus, a space, a newline, a v or an f;
-- `enough_room`: it has at most 38V + 20F bytes, where what is given is not refused.
-- The first three hold of all lists. Assumes nothing.
use Rattle.std.specs.Prelude.{◌≡◌, refl, Bool, true, false, not, List, [], ◌∷◌, ◌++◌, ℕ, zero, suc, ◌+◌, ◌*◌, ◌≤◌, ◌<◌, eqb, length, get_or, Float, Ok}
use Rattle.std.specs.Float.{nan}
use Rattle.std.specs.List.{list_all}
use Rattle.std.proofs.Common.{sym, ap, ◌∙◌, append-nil, arith, length-append, ne_eqb}
use Rattle.std.proofs.lemmas.Bool.{false≢true, cond_both}
use Rattle.std.proofs.lemmas.List.Elements.{All-weaker}
use Rattle.std.proofs.lemmas.List.Folds.{list_all-append}
use Rattle.std.proofs.lemmas.List.Sums.{AllPass-from_list_all, list_all-from_AllPass}
use Rattle.refusals.specs.Causes.{or_else}
use Rattle.refusals.proofs.Causes.{both}
use Rattle.doubles.specs.Magnitude.{negative}
use Rattle.mesh_orders.specs.Edges.{max_vertices}
use Rattle.mesh.specs.Check.{malformed, too_many, no_such_vertex}
use Rattle.mesh.specs.Surface.{vertex_count, face_count}
use Rattle.mesh.specs.CauseLaws.{none-many, none-vertex}
use Rattle.obj.specs.Text.{newline, space, minus, letter_f, letter_v, split, lines}
use Rattle.obj.specs.Decimal.{is_digit}
use Rattle.obj.specs.Whole.{magnitude_of}
use Rattle.obj.specs.Writer.{numeral_in, numeral, coordinate, line_of, vertex_line, face_line, written, text_of, not_whole, given_cause}
use Rattle.obj.proofs.Pieces.{lacks, listed, lines_written}
use Rattle.obj_laws.specs.WrittenBytes.{is_line_byte, is_text_byte, only_these}
use Rattle.obj_laws.proofs.Numerals.{numeral_digits, numeral_room, numeral_short}

-- ---- the bytes of a line

-- each byte that passes the one test passes the other
all_more : (p q : ℕ → Bool) (s : List ℕ) → ((c : ℕ) → p c ≡ true → q c ≡ true) → list_all p s ≡ true → list_all q s ≡ true
all_more p q s h e = list_all-from_AllPass q s (All-weaker (λ c. p c ≡ true) (λ c. q c ≡ true) h s (AllPass-from_list_all p s e))

not_newline : (c : ℕ) → is_line_byte c ≡ true → eqb c newline ≡ false
not_newline c e = ne_eqb c newline (λ q. false≢true (sym (ap is_line_byte q) ∙ e))

line_lacks : (s : List ℕ) → list_all is_line_byte s ≡ true → lacks newline s ≡ true
line_lacks s e = all_more is_line_byte (λ c. not (eqb c newline)) s (λ c l. rw (not_newline c l)) e

numeral_bytes : (n : ℕ) → list_all is_line_byte (numeral n) ≡ true
unfolding numeral
numeral_bytes n = all_more is_digit is_line_byte (numeral_in 9 n) (λ c e. rw e) (numeral_digits 9 n)

coordinate_bytes : (x : Float) → list_all is_line_byte (coordinate x) ≡ true
unfolding coordinate
coordinate_bytes x =
    let n = numeral (magnitude_of x) in
    cond_both (negative x) (minus ∷ n) n (λ s. list_all is_line_byte s ≡ true) (λ e. numeral_bytes (magnitude_of x)) (λ e. numeral_bytes (magnitude_of x))

-- a line of a letter and three parts
line_bytes : (letter : ℕ) (part : ℕ → List ℕ) (k : ℕ) → is_line_byte letter ≡ true → ((i : ℕ) → list_all is_line_byte (part i) ≡ true)
    → list_all is_line_byte (line_of letter (part (3 * k)) (part (3 * k + 1)) (part (3 * k + 2))) ≡ true
line_bytes letter part k l h =
    let a = part (3 * k) in
    let b = part (3 * k + 1) in
    let c = part (3 * k + 2) in
    rw (l, list_all-append is_line_byte a (space ∷ (b ++ space ∷ c)), h (3 * k), list_all-append is_line_byte b (space ∷ c), h (3 * k + 1), h (3 * k + 2))

vertex_bytes : (v : List Float) (k : ℕ) → list_all is_line_byte (vertex_line v k) ≡ true
unfolding vertex_line
vertex_bytes v k = line_bytes letter_v (λ i. coordinate (get_or v i nan)) k refl (λ i. coordinate_bytes (get_or v i nan))

face_bytes : (f : List ℕ) (k : ℕ) → list_all is_line_byte (face_line f k) ≡ true
unfolding face_line
face_bytes f k = line_bytes letter_f (λ i. numeral (get_or f i 0 + 1)) k refl (λ i. numeral_bytes (get_or f i 0 + 1))

-- ---- the bytes of the text

written_bytes : (n : ℕ) (line : ℕ → List ℕ) → ((k : ℕ) → list_all is_line_byte (line k) ≡ true) → only_these (written n line) ≡ true
unfolding written
written_bytes zero line h = refl
written_bytes (suc n) line h =
    let e = all_more is_line_byte is_text_byte (line n) (λ c e. rw (not_newline c e, e)) (h n) in
    rw (list_all-append is_text_byte (written n line) (line n ++ newline ∷ []), written_bytes n line h, list_all-append is_text_byte (line n) (newline ∷ []), e)

pub only_these_bytes : (v : List Float) (f : List ℕ) → only_these (text_of v f) ≡ true
unfolding text_of
only_these_bytes v f =
    let vs = written (vertex_count v) (vertex_line v) in
    let fs = written (face_count f) (face_line f) in
    rw (list_all-append is_text_byte vs fs, written_bytes (vertex_count v) (vertex_line v) (vertex_bytes v), written_bytes (face_count f) (face_line f) (face_bytes f))

-- ---- the lines of the text

pub one_line_each : (v : List Float) (f : List ℕ) → lines (text_of v f) ≡ listed (vertex_count v) (vertex_line v) ++ (listed (face_count f) (face_line f) ++ [] ∷ [])
unfolding text_of split
one_line_each v f =
    let faces = written (face_count f) (face_line f) in
    lines_written (vertex_count v) (vertex_line v) faces (λ k l. line_lacks (vertex_line v k) (vertex_bytes v k))
    ∙ ap (λ (ls : List (List ℕ)). listed (vertex_count v) (vertex_line v) ++ ls)
    (ap lines (sym (append-nil faces)) ∙ lines_written (face_count f) (face_line f) [] (λ k l. line_lacks (face_line f k) (face_bytes f k)))

listed_length : (n : ℕ) (line : ℕ → List ℕ) → length (listed n line) ≡ n
listed_length zero line = refl
listed_length (suc n) line = omega (arith, length-append (listed n line) (line n ∷ []), listed_length n line)

pub line_count : (v : List Float) (f : List ℕ) → length (lines (text_of v f)) ≡ vertex_count v + face_count f + 1
line_count v f =
    let vs = listed (vertex_count v) (vertex_line v) in
    let fs = listed (face_count f) (face_line f) in
    ap length (one_line_each v f)
    ∙ omega (arith, length-append vs (fs ++ [] ∷ []), length-append fs ([] ∷ []), listed_length (vertex_count v) (vertex_line v), listed_length (face_count f) (face_line f))

-- ---- the length of the text

coordinate_length : (x : Float) → length (coordinate x) ≤ 11
unfolding coordinate numeral
coordinate_length x =
    let n = numeral_in 9 (magnitude_of x) in
    let r : length n ≤ 10 = numeral_room 9 (magnitude_of x) in
    cond_both (negative x) (minus ∷ n) n (λ s. length s ≤ 11) (λ e. omega arith) (λ e. omega arith)

line_length : (letter m : ℕ) (part : ℕ → List ℕ) (k : ℕ) → ((i : ℕ) → i < 3 * k + 3 → length (part i) ≤ m)
    → length (line_of letter (part (3 * k)) (part (3 * k + 1)) (part (3 * k + 2))) ≤ 4 + 3 * m
line_length letter m part k h =
    let b = part (3 * k + 1) in
    let c = part (3 * k + 2) in
    omega (arith, length-append (part (3 * k)) (space ∷ (b ++ space ∷ c)), length-append b (space ∷ c), h (3 * k) (omega arith), h (3 * k + 1) (omega arith), h (3 * k + 2) (omega arith))

written_length : (n m : ℕ) (line : ℕ → List ℕ) → ((k : ℕ) → k < n → length (line k) + 1 ≤ m) → length (written n line) ≤ m * n
unfolding written
written_length zero m line h = omega arith
written_length (suc n) m line h =
    omega (arith, length-append (written n line) (line n ++ newline ∷ []), length-append (line n) (newline ∷ []), written_length n m line (λ k l. h k (omega arith)), h n (omega arith))

-- v, three coordinates of at most 11 bytes, three spaces and the newline
vertex_length : (v : List Float) (k : ℕ) → length (vertex_line v k) + 1 ≤ 38
unfolding vertex_line
vertex_length v k = omega (arith, line_length letter_v 11 (λ i. coordinate (get_or v i nan)) k (λ i l. coordinate_length (get_or v i nan)))

-- f, three indices of at most 5 digits, three spaces and the newline
face_length : (f : List ℕ) (k : ℕ) → ((i : ℕ) → i < 3 * k + 3 → get_or f i 0 < max_vertices) → length (face_line f k) + 1 ≤ 20
unfolding face_line numeral
face_length f k h =
    omega (arith, line_length letter_f 5 (λ i. numeral_in 9 (get_or f i 0 + 1)) k (λ i l. numeral_short 9 4 (get_or f i 0 + 1) (omega (arith, h i l))))

pub enough_room : (v : List Float) (f : List ℕ) → given_cause v f ≡ Ok tt → length (text_of v f) ≤ 38 * vertex_count v + 20 * face_count f
unfolding text_of given_cause
enough_room v f e =
    let vertex = no_such_vertex (vertex_count v) f in
    let a = both (malformed v f) (or_else (too_many v f) (or_else (not_whole v) vertex)) e in
    let b = both (too_many v f) (or_else (not_whole v) vertex) a.1 in
    let inside = none-vertex v f (both (not_whole v) vertex b.1).1 in
    let few = none-many v f b.0 in
    let short : (k : ℕ) → k < face_count f → length (face_line f k) + 1 ≤ 20 = λ k l. face_length f k (λ i m. omega (arith, inside i (omega arith), few.0)) in
    omega (
      arith,
      length-append (written (vertex_count v) (vertex_line v)) (written (face_count f) (face_line f)),
      written_length (vertex_count v) 38 (vertex_line v) (λ k l. vertex_length v k),
      written_length (face_count f) 20 (face_line f) short,
    )
