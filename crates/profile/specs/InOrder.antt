-- A step towards `ProfileLaws`: causes in a row. States:
-- `six_in_order`: six causes by the parts of `profile_cause`, or one after the other;
-- `one_in_order`: the causes of a profile of one station by their parts, and those of the single call;
-- `past_causes`: a value comes after all causes;
-- `three_numbers`: 3 for a list of one station's coordinates, and for the station. Assumes nothing.
use Rattle.std.specs.Prelude.{◌≡◌, refl, Bool, true, false, ◌&&◌, ℕ}
use Rattle.std.proofs.Common.{arith}
use Rattle.std.specs.Prelude.{Ok, Err}
use Rattle.refusals.specs.Answer.{Answer, or_answer}
use Rattle.refusals.specs.Causes.{Cause}
use Rattle.refusals.specs.Causes.{or_else, unless, first_of}
use Rattle.refusals.specs.declared.Refusal.{Refusal}
use Rattle.refusals.specs.declared.Refusal.TheVariants.{OutOfLimits}
use Rattle.doubles.specs.Magnitude.{within_limits}
use Rattle.newtonian.specs.Vectors.{vector_numbers, vector_within_limits}
use Rattle.newtonian.specs.declared.Newtonian.{Newtonian}
use Rattle.newtonian.specs.declared.Vector.{Vector}
use Rattle.mesh.specs.Check.{out_of_limits}
use Rattle.polyhedron.specs.Polyhedron.{station_out_of_limits}
use Rattle.profile_records.specs.Records.{cause_of}

pub six_in_order : (a b c d e g : Cause)
    → or_else (or_else (or_else a (or_else b (or_else c d))) e) g ≡ or_else a (or_else b (or_else c (or_else d (or_else e (or_else g (Ok tt))))))
six_in_order (Err r) b c d e g = refl
six_in_order (Ok _) (Err r) c d e g = refl
six_in_order (Ok _) (Ok _) (Err r) d e g = refl
six_in_order (Ok _) (Ok _) (Ok _) (Err r) e g = refl
six_in_order (Ok _) (Ok _) (Ok _) (Ok _) (Err r) g = refl
six_in_order (Ok _) (Ok _) (Ok _) (Ok _) (Ok _) (Err r) = refl
six_in_order (Ok _) (Ok _) (Ok _) (Ok _) (Ok _) (Ok _) = refl

-- 1, 2, 12, 3 of the vertices, 3 of the station, 4 to 8, and what the station answers
pub one_in_order : (a b c d e g : Cause) (x : Answer Newtonian)
    → or_else (or_else (or_else (or_else a (Ok tt)) (or_else (or_else b (Ok tt)) (or_else (or_else c (Ok tt)) (or_else d e)))) g) (or_else (Ok tt) (cause_of x))
    ≡ cause_of (or_answer (or_else (or_else (or_else a (or_else b c)) (or_else d e)) g) x)
one_in_order (Err r) b c d e g x = refl
one_in_order (Ok _) (Err r) c d e g x = refl
one_in_order (Ok _) (Ok _) (Err r) d e g x = refl
one_in_order (Ok _) (Ok _) (Ok _) (Err r) e g x = refl
one_in_order (Ok _) (Ok _) (Ok _) (Ok _) (Err r) g x = refl
one_in_order (Ok _) (Ok _) (Ok _) (Ok _) (Ok _) (Err r) x = refl
one_in_order (Ok _) (Ok _) (Ok _) (Ok _) (Ok _) (Ok _) x = refl

-- a value is what follows the causes
pub past_causes : (c : Cause) (a : Answer Newtonian) (x : Newtonian) → or_answer c a ≡ Ok x → a ≡ Ok x
past_causes (Ok _) a x e = e
past_causes (Err r) a x e = absurd (let z : ◌≡◌ {A = ℕ} 0 1 = cc in omega arith)

three_tests : (a b c : Bool) (r : Refusal) → or_else (or_else (or_else (Ok tt) (unless a r)) (unless b r)) (unless c r) ≡ unless (a && b && c) r
three_tests true true c r = refl
three_tests true false c r = refl
three_tests false b c r = refl

pub three_numbers : (p : Vector) → out_of_limits (vector_numbers p) ≡ station_out_of_limits p
unfolding out_of_limits first_of vector_within_limits
three_numbers p = three_tests (within_limits p.x) (within_limits p.y) (within_limits p.z) OutOfLimits
