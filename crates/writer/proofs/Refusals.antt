-- What each refusal leaves of work and out: 1, 2, 12 and 3 leave both, 4 to 9 leave out, and 10, 11 and 13 leave neither. Assumes nothing.
use mathlib.Core.Path.{◌≡◌, refl, subst}
use mathlib.Core.Bool.{Bool, true, false}
use mathlib.Core.List.{List}
use mathlib.Core.Logic.{◌⊎◌, ⊎_elim}
use Prim.{Unit, tt}
use Prim.Native.Nat.{ℕ, zero, suc, ◌/◌}
use lib.ListN.{length}
use lib.Ieee.{Float, lt}
use Rattle.doubles.specs.Constants.{0·0}
use Rattle.std.specs.Prelude.{Ok, Err}
use Rattle.refusals.specs.Answer.{Answer}
use Rattle.refusals.specs.Causes.{Cause}
use Rattle.refusals.specs.Causes.{or_else, unless, first_of}
use Rattle.refusals.specs.declared.Refusal.{Refusal}
use Rattle.refusals.specs.declared.Refusal.TheVariants.{OutOfLimits, NoSuchVertex, Degenerate, Inverted, NotFinite, TooDeep, TooManyEdges}
use Rattle.mesh.specs.Surface.{face_count, volume}
use Rattle.mesh.specs.Check.{in_limits, out_of_limits, names_vertex, no_such_vertex, occurs_once, flipped_at, flipped_edge, reverse_occurs, open_at, open_edge, has_normal, degenerate_face, inverted, faces_cause, order_cause, leaves_work}
use Rattle.sheet_rows.specs.Row.{is_finite_row, row_cause}
use Rattle.sheet_rows.specs.declared.Row.{Row}
use Rattle.sheet_rows.specs.RowRefusals.{row_at-refused}
use Rattle.sheet.specs.Input.{SheetInput, station_at, station_count, row_at}
use Rattle.sheet.specs.Writer.{zeroes_out, station_cause}

-- if c refuses, P holds of the refusal
abbrev pub Of : (Refusal → Type 0) → Cause → Type 0
Of P (Ok _) = Unit {0}
Of P (Err r) = P r

pub of_refused : (P : Refusal → Type 0) (c : Cause) (r : Refusal) → Of P c → c ≡ Err r → P r
of_refused P c r h e = subst (Of P) e h

abbrev pub Early : Refusal → Type 0
Early r = (leaves_work r ≡ true) × (zeroes_out r ≡ false)

abbrev pub LeavesOut : Refusal → Type 0
LeavesOut r = zeroes_out r ≡ false

abbrev pub Late : Refusal → Type 0
Late r = (leaves_work r ≡ false) × (zeroes_out r ≡ true)

module _ (P : Refusal → Type 0) where
  pub of_else : (c d : Cause) → Of P c → Of P d → Of P (or_else c d)
  of_else (Ok _) d p q = q
  of_else (Err r) d p q = p

  pub of_unless : (t : Bool) (r : Refusal) → P r → Of P (unless t r)
  of_unless true r h = tt
  of_unless false r h = h

  pub of_first : (n : ℕ) (c : ℕ → Cause) → ((i : ℕ) → Of P (c i)) → Of P (first_of n c)
  unfolding first_of
  of_first zero c h = tt
  of_first (suc n) c h = of_else (first_of n c) (c n) (of_first n c h) (h n)

  of_scan : (n : ℕ) (t : ℕ → Bool) (r : ℕ → Refusal) → ((i : ℕ) → P (r i)) → Of P (first_of n (λ i. unless (t i) (r i)))
  of_scan n t r h = of_first n (λ i. unless (t i) (r i)) (λ i. of_unless (t i) (r i) (h i))

pub of_limits : (v : List Float) → Of Early (out_of_limits v)
unfolding out_of_limits leaves_work
of_limits v = of_scan Early (length v) (in_limits v) (λ i. OutOfLimits) (λ i. (refl, refl))

pub of_vertex : (n : ℕ) (f : List ℕ) → Of LeavesOut (no_such_vertex n f)
unfolding no_such_vertex
of_vertex n f = of_scan LeavesOut (length f) (names_vertex n f) (λ i. NoSuchVertex (i / 3)) (λ i. refl)

pub of_order : (v : List Float) (f o : List ℕ) → Of LeavesOut (order_cause v f o)
unfolding order_cause faces_cause flipped_edge open_edge degenerate_face inverted
of_order v f o =
    of_else LeavesOut (flipped_edge f o) (or_else (open_edge f o) (faces_cause v f)) (of_scan LeavesOut (length f) (occurs_once f o) (flipped_at f o) (λ i. refl))
    (of_else LeavesOut (open_edge f o) (faces_cause v f) (of_scan LeavesOut (length f) (reverse_occurs f o) (open_at f o) (λ i. refl))
    (of_else LeavesOut (degenerate_face v f) (inverted v f) (of_scan LeavesOut (face_count f) (has_normal v f) (λ k. Degenerate k) (λ i. refl))
    (of_unless LeavesOut (lt 0·0 (volume v f)) Inverted refl)))

-- ---- the stations

late : (i : ℕ) (r : Refusal) → (r ≡ TooDeep i) ⊎ (r ≡ TooManyEdges i) → Late r
unfolding leaves_work
late i r h = ⊎_elim (λ e. rw e (refl, refl)) (λ e. rw e (refl, refl)) h

of_row : (kind i : ℕ) (a : Answer Row) → ((r : Refusal) → a ≡ Err r → Late r) → Of Late (row_cause kind i a)
unfolding row_cause leaves_work
of_row kind i (Ok row) h = of_unless Late (is_finite_row kind row) (NotFinite i) (refl, refl)
of_row kind i (Err r) h = h r refl

of_station : (s : SheetInput) (i : ℕ) → Of Late (station_cause s i)
unfolding station_cause row_at
of_station s i = of_row s.kind i (row_at s i) (λ r e. late i r (row_at-refused s.kind s.magnetisation s.ambient i (station_at s i) s.vertices s.faces r e))

pub of_stations : (s : SheetInput) → Of Late (first_of (station_count s) (station_cause s))
of_stations s = of_first Late (station_count s) (station_cause s) (of_station s)
