-- What a `Line`, the code's form of a right line, holds of the line's text. A reader of `read_obj`'s definition does not need it. Definitions only.
use Rattle.std.specs.Prelude.{◌≡◌, List, [], ◌∷◌, ℕ, Float, Ok, Err, Result, MatchResult}
use Rattle.refusals.specs.declared.Refusal.{Refusal}
use Rattle.obj.specs.Reader.{fields_cause, vertex_of, face_of}
use Rattle.obj.specs.declared.Line.{Line}

abbrev pub coordinates_of : Line → List Float
coordinates_of Line.Nothing = []
coordinates_of (Line.Vertex x y z) = x ∷ y ∷ z ∷ []
coordinates_of (Line.Face a b c) = []

abbrev pub corners_of : Line → List ℕ
corners_of Line.Nothing = []
corners_of (Line.Vertex x y z) = []
corners_of (Line.Face a b c) = a ∷ b ∷ c ∷ []

-- a line of the fields fs has no cause of refusal, and holds their coordinates and their vertex numbers
pub record Holds (fs : List (List ℕ)) (line : Line) : Type 0 where
  pub free : fields_cause fs ≡ Ok tt
  pub vertex : coordinates_of line ≡ vertex_of fs
  pub face : corners_of line ≡ face_of fs

-- what is answered for a line of these fields: the line, or its cause
abbrev pub Says : List (List ℕ) → Result Line Refusal → Type 0
Says fs r = MatchResult r (Holds fs) (λ refusal. fields_cause fs ≡ Err refusal)
