-- Laws of the walk that stores the numbers. States: `store_start`, `store_vertex`, `store_face`, `store_other`, `store_end`: what the lists hold, line by line; `vertex_room`, `face_room`: three numbers
-- more have room; `face_small`: and fit. Assumes nothing.
use Rattle.std.specs.Prelude.{◌≡◌, refl, List, [], ◌∷◌, ◌++◌, ℕ, ◌+◌, ◌-◌, ◌≤◌, ◌<◌, length, get_or, take, drop, Float, Ok}
use Rattle.std.proofs.Common.{sym, ap, ap₂, ◌∙◌, subst, arith, length-append, length-drop}
use Rattle.std.proofs.Math.Seq.{take-add, drop-append-add}
use Rattle.std.proofs.lemmas.List.{drop-drop, take_at, take_all, length-take-le}
use Rattle.lists.specs.Count.{Below}
use Rattle.obj.specs.Text.{lines}
use Rattle.obj.specs.Reader.{first_cause, all_vertices, all_faces, vertices_of, faces_of, list_after}
use Rattle.obj.specs.Line.{coordinates_of, corners_of}
use Rattle.obj.specs.declared.Line.{Line}
use Rattle.obj_reader.specs.Passes.{puts, Storable}
use Rattle.obj_reader.proofs.Lines.{NextLine, no_vertices, no_faces}
use Rattle.obj_reader.proofs.Meeting.{Met, met_start, met_none, met_three, met_at, met_end}

-- the list l, which was l₀, begins with the first n numbers of `all`
pub record Stored {A : Type 0} (all rest l₀ l : List A) (n : ℕ) : Type 0 where
  pub met : Met all rest n
  pub long : length all ≤ length l₀
  pub begins : l ≡ take n all ++ drop n l₀

module _ {A : Type 0} {all l₀ : List A} where
  stored_start : length all ≤ length l₀ → Stored all all l₀ l₀ 0
  stored_start h = record { met = met_start all; long = h; begins = refl }

  stored_length : {rest l : List A} {n : ℕ} → Stored all rest l₀ l n → length l ≡ length l₀
  stored_length {n = n} s =
      ap length s.begins
      ∙ length-append (take n all) (drop n l₀)
      ∙ ap₂ (λ (a b : ℕ). a + b) (length-take-le n all s.met.room) (length-drop n l₀)
      ∙ (let e : n + (length l₀ - n) ≡ length l₀ = omega (arith, s.met.room, s.long) in e)

  stored_none : {more none rest l : List A} {n : ℕ} → more ≡ none ++ rest → none ≡ [] → Stored all more l₀ l n → Stored all rest l₀ l n
  stored_none e q s = record { met = met_none e q s.met; long = s.long; begins = s.begins }

  stored_three : {more rest l : List A} {n : ℕ} (x y z : A) → more ≡ (x ∷ y ∷ z ∷ []) ++ rest → Stored all more l₀ l n
      → Stored all rest l₀ (puts l n (x ∷ y ∷ z ∷ [])) (n + 3)
  stored_three {l = l} {n = n} x y z e s =
      let m = met_three e s.met in
      let front : length (take n all) ≡ n = length-take-le n all s.met.room in
      let three : take 3 (drop n all) ≡ x ∷ y ∷ z ∷ [] = ap (take 3) (s.met.left ∙ e) in
      record {
        met = m;
        long = s.long;
        begins =
            ap₂ (λ (a b : List A). a ++ (x ∷ y ∷ z ∷ []) ++ b)
            (ap (take n) s.begins ∙ take_at (take n all) (drop n l₀) n front)
            (ap (drop (n + 3)) s.begins
            ∙ ap (λ (k : ℕ). drop (k + 3) (take n all ++ drop n l₀)) (sym front)
            ∙ drop-append-add (take n all) (drop n l₀) 3
            ∙ drop-drop 3 n l₀)
            ∙ ap (λ (b : List A). b ++ drop (n + 3) l₀) (sym (take-add n 3 all ∙ ap (λ (b : List A). take n all ++ b) three));
      }

  stored_end : {rest l : List A} {n : ℕ} → rest ≡ [] → Stored all rest l₀ l n → l ≡ all ++ drop (length all) l₀
  stored_end {n = n} e s =
      let q = met_end e s.met in
      s.begins ∙ ap₂ (λ (a b : List A). a ++ b) (take_all n all (omega (arith, q))) (ap (λ (k : ℕ). drop k l₀) q)

-- ---- the walk

-- the lists, which were v₀ and f₀, begin with the v coordinates and the f vertex numbers of the first i lines
pub record StoresUpto (t : List ℕ) (v₀ : List Float) (f₀ : List ℕ) (i : ℕ) (vs : List Float) (fs : List ℕ) (v f : ℕ) : Type 0 where
  pub free : first_cause (drop i (lines t)) ≡ Ok tt
  pub verts : Stored (vertices_of t) (all_vertices (drop i (lines t))) v₀ vs v
  pub faces : Stored (faces_of t) (all_faces (drop i (lines t))) f₀ fs f

pub store_start : (t : List ℕ) (v₀ : List Float) (f₀ : List ℕ) → Storable t (length v₀) (length f₀) → StoresUpto t v₀ f₀ 0 v₀ f₀ 0 0
store_start t v₀ f₀ h = record { free = h.free; verts = stored_start h.verts; faces = stored_start h.faces }

module _ (t : List ℕ) (v₀ : List Float) (f₀ : List ℕ) (i : ℕ) (vs : List Float) (fs : List ℕ) (v f : ℕ) (s : StoresUpto t v₀ f₀ i vs fs v f) where
  pub store_end : length (lines t) ≤ i → (vs ≡ list_after (Ok tt) (vertices_of t) v₀) × (fs ≡ list_after (Ok tt) (faces_of t) f₀)
  store_end h = (stored_end (no_vertices (lines t) i h) s.verts, stored_end (no_faces (lines t) i h) s.faces)

  pub store_other : (line : Line) → NextLine (lines t) i line → coordinates_of line ≡ [] → corners_of line ≡ [] → StoresUpto t v₀ f₀ (i + 1) vs fs v f
  store_other line m p q = record { free = sym m.cause ∙ s.free; verts = stored_none m.vertices p s.verts; faces = stored_none m.faces q s.faces }

  module _ (x y z : Float) (m : NextLine (lines t) i (Line.Vertex x y z)) where
    pub vertex_room : v + 3 ≤ length vs
    vertex_room = omega (arith, (met_three m.vertices s.verts.met).room, s.verts.long, stored_length s.verts)

    pub store_vertex : StoresUpto t v₀ f₀ (i + 1) (puts vs v (x ∷ y ∷ z ∷ [])) fs (v + 3) f
    store_vertex = record { free = sym m.cause ∙ s.free; verts = stored_three x y z m.vertices s.verts; faces = stored_none {none = []} m.faces refl s.faces }

  module _ (a b c : ℕ) (m : NextLine (lines t) i (Line.Face a b c)) where
    met_room : f + 3 ≤ length (faces_of t)
    met_room = (met_three m.faces s.faces.met).room

    pub face_room : f + 3 ≤ length fs
    face_room = omega (arith, met_room, s.faces.long, stored_length s.faces)

    corner_small : (n j k : ℕ) → Below (faces_of t) n → j < 3 → get_or ((a ∷ b ∷ c ∷ []) ++ all_faces (drop (i + 1) (lines t))) j 0 ≡ k → k < n
    corner_small n j k small l e =
        let q : get_or (faces_of t) (f + j) 0 ≡ k = met_at j 0 s.faces.met ∙ ap (λ (m : List ℕ). get_or m j 0) m.faces ∙ e in
        subst (λ (m : ℕ). m < n) q (small (f + j) (omega (arith, met_room)))

    pub face_small : (n : ℕ) → Below (faces_of t) n → (a < n) × (b < n) × (c < n)
    face_small n small = (corner_small n 0 a small (omega arith) refl, corner_small n 1 b small (omega arith) refl, corner_small n 2 c small (omega arith) refl)

    pub store_face : StoresUpto t v₀ f₀ (i + 1) vs (puts fs f (a ∷ b ∷ c ∷ [])) v (f + 3)
    store_face = record { free = sym m.cause ∙ s.free; verts = stored_none {none = []} m.vertices refl s.verts; faces = stored_three a b c m.faces s.faces }
