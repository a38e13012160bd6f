-- Worked examples, each computed from the definitions: a text is written out, and `bytes` gives its bytes. States: `wrong`, `wrong_lines`, `long`, `free`: texts with the causes 21 and 22 and with none;
-- `values`, `corners`: what is read; `written_text`: what is written; `read`, `write`: the answers of `read_obj` and `write_obj`. Assumes nothing.
use Rattle.std.specs.Prelude.{◌≡◌, refl, List, [], ◌∷◌, map, ℕ, replicate, Float, Ok, Err}
use Prim.Native.Char.{code}
use Prim.Native.String.{String, [] as end, ◌∷◌ as first}
use Rattle.std.specs.Float.{binary64}
use Rattle.std.specs.Float.Ieee.{of_bits, of_int, neg, div, le, round}
use Rattle.doubles.specs.Magnitude.{abs, negative, within_limits}
use Rattle.refusals.specs.declared.Refusal.TheVariants.{Malformed, OutOfLimits, NoSuchVertex, TooShort, WrongLine, TooManyDigits}
use Rattle.refusals.specs.Causes.{Cause, first_of}
use Rattle.refusals.specs.Answer.{Answer}
use Rattle.mesh.specs.Check.{malformed, too_many, out_of_limits, no_such_vertex}
use Rattle.obj.specs.Text.{split, fields}
use Rattle.obj.specs.Decimal.{is_digits, is_index, is_number, digits_of, few_digits, whole_of, places, decimal, value_of, index_of}
use Rattle.obj.specs.Reader.{is_right, is_short, fields_cause, vertex_of, face_of, first_cause, all_vertices, all_faces, text_cause, vertices_of, faces_of, lists_too_short, read_cause, reader_cause, read_obj}
use Rattle.obj.specs.declared.Counts.{Counts}
use Rattle.obj.specs.Whole.{magnitude_of, is_whole}
use Rattle.obj.specs.Writer.{numeral, coordinate, vertex_line, face_line, written, text_of, not_whole, text_too_short, given_cause, writer_cause, write_obj}

-- the bytes of a text of ASCII
abbrev pub bytes : String → List ℕ
bytes end = []
bytes (first c s) = code c ∷ bytes s

abbrev pub causes_of : List String → List Cause
causes_of ss = map (λ s. text_cause (bytes s)) ss

-- ---- lines

-- too few fields and too many; an index 0, a slash; a point with no digit after or before it, a plus, an exponent, two signs
pub wrong :
    causes_of ("v 1 2" ∷ "f 1 2 3 4" ∷ "f 1 2 0" ∷ "f 1/1 2/2 3/3" ∷ "v 1. 0 0" ∷ "v .5 0 0" ∷ "v +1 0 0" ∷ "v 1e3 0 0" ∷ "v --1 0 0" ∷ [])
    ≡ replicate 9 (Err WrongLine)
unfolding first_cause split fields fields_cause is_right is_short is_number is_index is_digits few_digits digits_of
wrong = refl

-- another letter, a carriage return, a tab, a comment behind a vertex; and a line that is not right has 21 whatever its digits are
pub wrong_lines : causes_of ("vn 0 0 1" ∷ "v 1 2 3\r" ∷ "v\t1 2 3" ∷ "v 1 2 3 # a" ∷ "v 1234567890123456 0" ∷ []) ≡ replicate 5 (Err WrongLine)
unfolding first_cause split fields fields_cause is_right is_short is_number is_index is_digits few_digits digits_of
wrong_lines = refl

-- sixteen digits: zeros count, before and after the point. The first bad line decides
pub long : causes_of ("v 0 0 0.000000000000001" ∷ "f 1 2 0000000000000003" ∷ "v 1234567890123456 0 0\nv 1 2" ∷ []) ≡ replicate 3 (Err TooManyDigits)
unfolding first_cause split fields fields_cause is_right is_short is_number is_index is_digits few_digits digits_of
long = refl

-- fifteen digits, any number of spaces, a comment, a blank line, no line
pub free : causes_of ("v 0 0 -0.00000000000001" ∷ "  v  0.5 -0   007 " ∷ "# note\n#v 1\n \nf 01 2 3\n" ∷ "" ∷ []) ≡ replicate 4 (Ok tt)
unfolding first_cause split fields fields_cause is_right is_short is_number is_index is_digits few_digits digits_of
free = refl

-- ---- what is read

-- 0.5, −0 and 7
pub values : vertices_of (bytes "  v  0.5 -0   007 ") ≡ of_bits binary64 0x3fe0_0000_0000_0000 ∷ of_bits binary64 0x8000_0000_0000_0000 ∷ of_bits binary64 0x401c_0000_0000_0000 ∷ []
unfolding all_vertices split fields vertex_of value_of decimal whole_of digits_of places neg of_int div round of_bits
values = refl

pub corners : faces_of (bytes "v 0 0 0\nf 1 02 3\nf 3 2 1\n") ≡ 0 ∷ 1 ∷ 2 ∷ 2 ∷ 1 ∷ 0 ∷ []
unfolding all_faces split fields face_of index_of whole_of digits_of
corners = refl

-- ---- answers

abbrev pub read_text : String → ℕ → ℕ → Answer Counts
read_text s n m = read_obj (bytes s) n m

-- V = 3 and F = 1, where a face stands before its vertices; a lent list one entry too short, a coordinate over 10⁹, a face that names no vertex
pub read :
    read_text "f 1 2 3\nv 0 0 0\nv 1 0 0\nv 0 -2.5 0\n" 9 3
    ∷ read_text "f 1 1 1\nv 0 0 0" 3 2
    ∷ read_text "v 1000000000.1 0 0" 3 0
    ∷ read_text "f 1 2 1\nv 0 0 0" 3 3
    ∷ []
    ≡ Ok (record { vertices = 3; faces = 1 }) ∷ Err TooShort ∷ Err OutOfLimits ∷ Err (NoSuchVertex 0) ∷ []
unfolding read_obj reader_cause read_cause first_cause all_vertices all_faces split fields fields_cause is_right is_short is_number is_index is_digits few_digits digits_of vertex_of face_of value_of index_of decimal whole_of places too_many lists_too_short out_of_limits no_such_vertex first_of within_limits abs le neg of_int div round of_bits
read = refl

-- 0, −0, −120, 10⁹, 5 and −3; and one face, of the vertices 0, 1 and 0
unfoldable pub coordinates : List Float
coordinates =
    of_bits binary64 0
    ∷ of_bits binary64 0x8000_0000_0000_0000
    ∷ of_bits binary64 0xc05e_0000_0000_0000
    ∷ of_bits binary64 0x41cd_cd65_0000_0000
    ∷ of_bits binary64 0x4014_0000_0000_0000
    ∷ of_bits binary64 0xc008_0000_0000_0000
    ∷ []

abbrev pub face : List ℕ
face = 0 ∷ 1 ∷ 0 ∷ []

pub written_text : text_of coordinates face ≡ bytes "v 0 -0 -120\nv 1000000000 5 -3\nf 1 2 1\n"
unfolding coordinates text_of written vertex_line face_line coordinate numeral magnitude_of negative of_bits
written_text = refl

-- the vertex (½, 0, 0)
unfoldable pub half : List Float
half = of_bits binary64 0x3fe0_0000_0000_0000 ∷ of_bits binary64 0 ∷ of_bits binary64 0 ∷ []

-- the 38 bytes fit a lent text of 38, and not one of 37; ½ is no whole number; a list that is not of triples
pub write :
    write_obj coordinates face 38 ∷ write_obj coordinates face 37 ∷ write_obj half [] 99 ∷ write_obj coordinates (0 ∷ 1 ∷ []) 99 ∷ []
    ≡ Ok 38 ∷ Err TooShort ∷ Err OutOfLimits ∷ Err Malformed ∷ []
unfolding coordinates half write_obj writer_cause given_cause malformed too_many not_whole is_whole no_such_vertex first_of text_too_short text_of written vertex_line face_line coordinate numeral magnitude_of negative of_bits
write = refl
