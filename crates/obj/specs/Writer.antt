-- The text that `write_obj` writes, what it answers, and what the lent text holds afterwards. `v` is the vertex list, `f` the face list and `n` the length of the lent text. Each cause of refusal
-- carries its number in document 01. Definitions only.
use Rattle.std.specs.Prelude.{Ok, cond, List, [], ◌∷◌, ◌++◌, ℕ, zero, suc, ◌+◌, ◌*◌, ◌/◌, ◌%◌, leb, ltb, Float, length, get_or}
use Rattle.std.specs.Float.{nan}
use Rattle.refusals.specs.declared.Refusal.TheVariants.{OutOfLimits, TooShort}
use Rattle.refusals.specs.Causes.{Cause, or_else, unless, first_of}
use Rattle.refusals.specs.Answer.{Answer, or_answer}
use Rattle.doubles.specs.Magnitude.{negative}
use Rattle.mesh.specs.Check.{malformed, too_many, no_such_vertex}
use Rattle.mesh.specs.Surface.{vertex_count, face_count}
use Rattle.obj.specs.Text.{newline, space, minus, digit0, letter_f, letter_v}
use Rattle.obj.specs.Whole.{magnitude_of, is_whole}
use Rattle.obj.specs.Reader.{list_after}

-- ---- numbers

-- the decimal digits of a number below 10^(k + 1), no zero in front; 0 is the one digit 0
abbrev pub numeral_in : ℕ → ℕ → List ℕ
numeral_in zero n = (digit0 + n % 10) ∷ []
numeral_in (suc k) n = cond (ltb n 10) ((digit0 + n) ∷ []) (numeral_in k (n / 10) ++ (digit0 + n % 10) ∷ [])

-- of a number up to 10⁹, which has ten digits
unfoldable pub numeral : ℕ → List ℕ
numeral n = numeral_in 9 n

-- a whole coordinate: its magnitude, after a minus where its sign is set, so that −0 is -0
unfoldable pub coordinate : Float → List ℕ
coordinate x = cond (negative x) (minus ∷ numeral (magnitude_of x)) (numeral (magnitude_of x))

-- ---- lines

-- a letter and three texts, with single spaces and without the newline
abbrev pub line_of : ℕ → List ℕ → List ℕ → List ℕ → List ℕ
line_of letter a b c = letter ∷ space ∷ (a ++ space ∷ (b ++ space ∷ c))

-- the line of vertex k
unfoldable pub vertex_line : List Float → ℕ → List ℕ
vertex_line v k = line_of letter_v (coordinate (get_or v (3 * k) nan)) (coordinate (get_or v (3 * k + 1) nan)) (coordinate (get_or v (3 * k + 2) nan))

-- the line of face k, whose vertices count from 1
unfoldable pub face_line : List ℕ → ℕ → List ℕ
face_line f k = line_of letter_f (numeral (get_or f (3 * k) 0 + 1)) (numeral (get_or f (3 * k + 1) 0 + 1)) (numeral (get_or f (3 * k + 2) 0 + 1))

-- line 0, line 1, .., line (n - 1), a newline after each
unfoldable pub written : ℕ → (ℕ → List ℕ) → List ℕ
written zero line = []
written (suc n) line = written n line ++ (line n ++ newline ∷ [])

-- all v lines, then all f lines
unfoldable pub text_of : List Float → List ℕ → List ℕ
text_of v f = written (vertex_count v) (vertex_line v) ++ written (face_count f) (face_line f)

-- ---- the causes of refusal in order: 1, 2, 3, 4, 12

-- the largest magnitude of a coordinate that is written
abbrev pub max_coordinate : ℕ
max_coordinate = 1000000000

-- 3: a coordinate that is not finite, over 10⁹, or not a whole number
unfoldable pub not_whole : List Float → Cause
not_whole v = first_of (length v) (λ i. unless (is_whole max_coordinate (get_or v i nan)) OutOfLimits)

-- 12: the lent text is shorter than what is written
unfoldable pub text_too_short : List Float → List ℕ → ℕ → Cause
text_too_short v f n = unless (leb (length (text_of v f)) n) TooShort

-- 1, 2, 3, 4: what comes before the text's length
unfoldable pub given_cause : List Float → List ℕ → Cause
given_cause v f = or_else (malformed v f) (or_else (too_many v f) (or_else (not_whole v) (no_such_vertex (vertex_count v) f)))

unfoldable pub writer_cause : List Float → List ℕ → ℕ → Cause
writer_cause v f n = or_else (given_cause v f) (text_too_short v f n)

-- ---- the answer, and the lent text

-- the text's length
unfoldable pub write_obj : List Float → List ℕ → ℕ → Answer ℕ
write_obj v f n = or_answer (writer_cause v f n) (Ok (length (text_of v f)))

-- the lent text, which was s; bytes past what is written never change
abbrev pub text_after : List Float → List ℕ → List ℕ → List ℕ
text_after v f s = list_after (writer_cause v f (length s)) (text_of v f) s
