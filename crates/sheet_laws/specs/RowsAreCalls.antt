-- A row of an accepted sheet is what the single-point calls answer at its station: the field is that of `polyhedron`, or of `prism` with the kind's rule for equal
-- longest sides, and the other numbers are, of the field and the sheet's magnetisation and ambient field, `body`'s formula, with the constant of the sheet's kind, and
-- `total_field`'s. Assumes nothing. States:
-- `FieldFromCalls s i g`: the public call, with the body of s, answers the field g at station i; of a prism by the kind's rule, and by the public call's own where no
-- piece that is bisected has equal longest sides (`NoTies`);
-- `RowFromCalls b i`: that is so of what the sheet b holds, for some field, and the bytes of row i are the bits of the row made from that field;
-- `rows_are_calls`: so it is of every row of an accepted sheet; `written-rows`: and of one that the writer wrote;
-- `row_elsewhere`: a station has the same row among other stations, under whatever number, where kind, body, magnetisation and ambient field are the same;
-- `anomaly_from-body`, `total_from_call`: where the public `body` and `total_field` answer (they refuse by 3 what is over 10⁹), theirs are the row's numbers.
use Rattle.std.specs.Prelude.{◌≡◌, Bool, true, false, ◌&&◌, List, ℕ, ◌+◌, ◌*◌, ◌/◌, ◌≤◌, ◌<◌, length, take, drop, Float}
use Rattle.std.proofs.Common.{sym, ◌∙◌, subst, arith}
use Rattle.std.proofs.Math.Path.{ap}
use Rattle.std.proofs.Math.Logic.{⊎_elim}
use Rattle.std.specs.Prelude.{Ok}
use Rattle.refusals.specs.Answer.{Answer, or_answer}
use Rattle.refusals.specs.Causes.{unless}
use Rattle.refusals.specs.declared.Refusal.{Refusal}
use Rattle.refusals.specs.declared.Refusal.TheVariants.{OutOfLimits}
use Rattle.newtonian.specs.Vectors.{vector_within_limits}
use Rattle.newtonian.specs.declared.Vector.{Vector}
use Rattle.newtonian.specs.declared.Newtonian.{Newtonian}
use Rattle.anomaly.specs.Limits.{both_within_limits, hessian_within_limits}
use Rattle.anomaly.specs.Body.{μ₀/4π, body_of, body}
use Rattle.anomaly.specs.TotalField.{total_field_of, total_field}
use Rattle.prism_pieces.specs.declared.AxisRule.{AxisRule}
use Rattle.prism_pieces.specs.declared.AxisRule.TheVariants.{FirstOfEquals}
use Rattle.prism.specs.NoTies.{NoTies, prism_at-no_ties}
use Rattle.prism.specs.Prism.{max_bisections, prism_at, numbers_within_limits, side_within_limits, sides_within_limits, cause_of, prism}
use Rattle.prism.specs.StationNumber.{prism_at-value}
use Rattle.mesh.specs.Surface.{vertex}
use Rattle.mesh.specs.Accepted.{Counted}
use Rattle.mesh.specs.CauseLaws.{is_body, count_none, limits_none}
use Rattle.mesh_laws.specs.ClosedLaws.{pairs_closed}
use Rattle.mesh_laws.proofs.Laws.{checks}
use Rattle.polyhedron.specs.Polyhedron.{polyhedron_at, given_cause, polyhedron_cause, polyhedron}
use Rattle.polyhedron.specs.StationNumber.{polyhedron_at-value}
use Rattle.sheet_layout.specs.LittleEndian.{pack, bits, IsBytes}
use Rattle.sheet_rows.specs.Kinds.{is_mesh, is_prism, axis_rule, magnetic_constant}
use Rattle.sheet_rows.proofs.KindLaws.{prism_no_mesh}
use Rattle.sheet_rows.specs.Row.{field_at, row_from, row_numbers}
use Rattle.sheet_rows.specs.Row as row
use Rattle.sheet_rows.specs.StationNumber.{row_field, row_at-value}
use Rattle.sheet_rows.specs.declared.Row.{Row}
use Rattle.sheet.specs.Input.{SheetInput, input_of, station_count, station_at, row_at}
use Rattle.sheet.specs.Bytes.{volume}
use Rattle.sheet.specs.Checker.{kind_in, row_length, row_start, parse}
use Rattle.sheet.specs.Promises.{AllInLimits, NoCause, Right, Kept}
use Rattle.sheet_laws.specs.WriterLaws.{limits_in, two_kinds}
use Rattle.sheet_laws.specs.Reading.{kind_read, stations_read}
use Rattle.sheet_laws.specs.Demand3.{right}

-- ---- the statements

-- the public `prism`, with the rule for the longest axis as a parameter
abbrev pub prism_by : AxisRule → Vector → Vector → Vector → Answer Newtonian
prism_by rule p lo hi = or_answer (cause_of p lo hi) (prism_at rule 0 p lo hi)

pub record FieldFromCalls (s : SheetInput) (i : ℕ) (g : Newtonian) : Type 0 where
  -- with a work list of 3F entries or more
  pub of_mesh : is_mesh s.kind ≡ true → (n : ℕ) → length s.faces ≤ n → polyhedron (station_at s i) s.vertices s.faces n ≡ Ok g
  -- from vertex 0 to vertex 1, by the kind's rule for the longest axis; and by the public call itself where no piece that is bisected has equal longest sides
  pub by_rule : is_prism s.kind ≡ true → prism_by (axis_rule s.kind) (station_at s i) (vertex s.vertices 0) (vertex s.vertices 1) ≡ Ok g
  pub of_prism : is_prism s.kind ≡ true → NoTies max_bisections (station_at s i) (vertex s.vertices 0) (vertex s.vertices 1)
      → prism (station_at s i) (vertex s.vertices 0) (vertex s.vertices 1) ≡ Ok g

pub record RowFromCalls (b : List ℕ) (i : ℕ) : Type 0 where
  pub field : Newtonian
  pub answered : FieldFromCalls (parse b) i field
  pub stored : take (row_length b) (drop (row_start b i) b)
      ≡ pack 8 (bits (row_numbers (kind_in b) (row_from (kind_in b) (parse b).magnetisation (parse b).ambient field)))

-- ---- no cause of the public calls holds of what a sheet was made from

within_limits_lem : (xs : List Float) (i : ℕ) → AllInLimits xs → i < length xs / 3 → vector_within_limits (vertex xs i) ≡ true
within_limits_lem xs i h l = limits_in (vertex xs i) (record { x = h (3 * i) (omega arith); y = h (3 * i + 1) (omega arith); z = h (3 * i + 2) (omega arith) })

module _ (s : SheetInput) (w o : ℕ) (h : NoCause s w o) (i : ℕ) (l : i < station_count s) where
  abbrev p : Vector
  p = station_at s i

  station-within : vector_within_limits p ≡ true
  station-within = within_limits_lem s.stations i h.station-numbers l

  mesh-none : is_mesh s.kind ≡ true → (n : ℕ) → length s.faces ≤ n → polyhedron_cause p s.vertices s.faces n ≡ Ok tt
  unfolding polyhedron_cause given_cause volume
  mesh-none k n room =
      let v = s.vertices in
      let f = s.faces in
      let c : Counted v f n = record { coordinates = h.coordinates; corners = h.corners; vertices = h.vertices; faces = h.faces; room = room } in
      let surface = checks v f (record {
        body = is_body v f n c h.inside;
        closed = pairs_closed f (record { once = h.once; back = h.back });
        normals = h.normals k;
        positive = rw k at (h.positive k);
      }) in
      rw (count_none v f n c, limits_none v f h.vertex-numbers, station-within, surface)

  prism-none : is_prism s.kind ≡ true → cause_of p (vertex s.vertices 0) (vertex s.vertices 1) ≡ Ok tt
  unfolding cause_of numbers_within_limits sides_within_limits side_within_limits
  prism-none k =
      let two = ⊎_elim (λ m. absurd (two_kinds s.kind m k)) (λ q. q.1.0) h.known in
      let v = s.vertices in
      let a = within_limits_lem v 0 h.vertex-numbers (omega (arith, two)) in
      let b = within_limits_lem v 1 h.vertex-numbers (omega (arith, two)) in
      rw (station-within, a, b, h.side_x k, h.side_y k, h.side_z k)

  -- ---- the field of a row is what they answer

  module _ (g : Newtonian) (e : field_at s.kind i p s.vertices s.faces ≡ Ok g) where
    mesh-field : is_mesh s.kind ≡ true → polyhedron_at 0 p s.vertices s.faces ≡ Ok g
    unfolding field_at
    mesh-field k = polyhedron_at-value i 0 p s.vertices s.faces g (rw k at e)

    prism-field : is_prism s.kind ≡ true → prism_at (axis_rule s.kind) 0 p (vertex s.vertices 0) (vertex s.vertices 1) ≡ Ok g
    unfolding field_at
    prism-field k = prism_at-value (axis_rule s.kind) i 0 p (vertex s.vertices 0) (vertex s.vertices 1) g (rw (prism_no_mesh s.kind k) at e)

    field-from_calls : FieldFromCalls s i g
    unfolding polyhedron prism
    field-from_calls = record {
      of_mesh = λ k n room. rw (mesh-none k n room) (mesh-field k);
      by_rule = λ k. rw (prism-none k) (prism-field k);
      of_prism = λ k t.
          rw (prism-none k) (prism_at-no_ties 0 p (vertex s.vertices 0) (vertex s.vertices 1) t FirstOfEquals (axis_rule s.kind) ∙ prism-field k);
    }

-- ---- so it is of each row

pub rows_are_calls : (b : List ℕ) (k n : ℕ) → Right b k n → (i : ℕ) → i < n → RowFromCalls b i
unfolding row_at
rows_are_calls b k n h i l =
    let s = parse b in
    let st = h.rows i l in
    let q = row_field s.kind s.magnetisation s.ambient i (station_at s i) s.vertices s.faces st.row st.given in
    let count : i < station_count s = omega (arith, h.stations, stations_read b) in
    let made = sym q.1 ∙ ap (λ (kind : ℕ). row_from kind s.magnetisation s.ambient st.row.field) (kind_read b) in
    record {
      field = st.row.field;
      answered = field-from_calls s (length s.faces) (length b) h.sound i count st.row.field q.0;
      stored = st.stored ∙ ap (λ (r : Row). pack 8 (bits (row_numbers (kind_in b) r))) made;
    }

pub written-rows : (s : SheetInput) (b : List ℕ) → IsBytes b → Kept s b → (i : ℕ) → i < station_count s → RowFromCalls b i
written-rows s b B h i l =
    let e = ap station_count h.holds in
    rows_are_calls b _ _ (right b B h.accepted) i (omega (arith, e, stations_read b))

pub row_elsewhere : (s : SheetInput) (stations : List Float) (i j : ℕ) (r : Row) → station_at s i ≡ vertex stations j → row_at s i ≡ Ok r
    → row_at (input_of s.kind s.vertices s.faces s.magnetisation s.ambient stations) j ≡ Ok r
unfolding row_at
row_elsewhere s stations i j r q e =
    let m = s.magnetisation in
    let b = s.ambient in
    subst (λ (p : Vector). row.row_at s.kind m b j p s.vertices s.faces ≡ Ok r) q
    (row_at-value s.kind m b i (station_at s i) s.vertices s.faces j r e)

-- ---- the public calls on the field's numbers

not-refused : {S : Type 0} (t : Bool) (r : Refusal) (x y : S) → or_answer (unless t r) (Ok x) ≡ Ok y → x ≡ y
not-refused true r x y e = cc
not-refused false r x y e = absurd (let z : ◌≡◌ {A = ℕ} 0 1 = cc in omega arith)

module _ (kind : ℕ) (m b : Vector) (g : Newtonian) where
  pub anomaly_from-body : (x : Vector) → magnetic_constant kind ≡ μ₀/4π → body g.hessian m ≡ Ok x → (row_from kind m b g).anomaly ≡ x
  unfolding row_from body
  anomaly_from-body x c e =
      ap (λ (μ : Float). body_of μ g.hessian m) c
      ∙ not-refused (hessian_within_limits g.hessian && vector_within_limits m) OutOfLimits (body_of μ₀/4π g.hessian m) x e

  pub total_from_call : (t : Float) → total_field b (row_from kind m b g).anomaly ≡ Ok t → (row_from kind m b g).total ≡ t
  unfolding row_from total_field
  total_from_call t e =
      let anomaly = body_of (magnetic_constant kind) g.hessian m in
      not-refused (both_within_limits b anomaly) OutOfLimits (total_field_of b anomaly) t e
