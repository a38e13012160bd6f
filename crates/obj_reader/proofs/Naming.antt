-- Laws of the walk that looks for the face of refusal 4. States: `names_start`, `names_face`, `names_other`, `names_refused`, `names_end`: whether the corners name vertices, line by line. Assumes nothing.
use Rattle.std.specs.Prelude.{◌≡◌, refl, ◌⊎◌, List, [], ◌∷◌, ◌++◌, ℕ, ◌+◌, ◌*◌, ◌/◌, ◌≤◌, ◌<◌, max, ltb, length, get_or, drop, Ok, Err}
use Rattle.std.proofs.Common.{sym, ap, ap₂, ◌∙◌, subst, arith, inl, inr, ⊎_elim, lt-ltb, le-ltb}
use Rattle.refusals.specs.declared.Refusal.TheVariants.{NoSuchVertex}
use Rattle.refusals.specs.Causes.{Cause, unless, first_of}
use Rattle.refusals.proofs.Causes.{refuses, passes, stop, more}
use Rattle.lists.proofs.Numbers.{below?}
use Rattle.mesh.specs.Check.{names_vertex, no_such_vertex}
use Rattle.obj.specs.Text.{lines}
use Rattle.obj.specs.Reader.{text_cause, first_cause, all_faces, faces_of}
use Rattle.obj.specs.Line.{corners_of}
use Rattle.obj.specs.declared.Line.{Line}
use Rattle.obj_reader.proofs.Lines.{NextLine, no_faces}
use Rattle.obj_reader.proofs.Meeting.{Met, met_start, met_none, met_three, met_at, met_end}

at_least : (n x : ℕ) → (n ≤ x) ⊎ (x < n)
at_least n x = ⊎_elim (λ l. inr l) (λ l. inl l) (below? x n)

-- what corner i of a face list is refused by, where n is how many vertices there are
abbrev pub corner_cause : ℕ → List ℕ → ℕ → Cause
corner_cause n f i = unless (names_vertex n f i) (NoSuchVertex (i / 3))

-- the corners of the k faces among the first i lines name vertices
pub record NamesUpto (n : ℕ) (t : List ℕ) (i k : ℕ) : Type 0 where
  pub free : first_cause (drop i (lines t)) ≡ Ok tt
  pub met : Met (faces_of t) (all_faces (drop i (lines t))) (3 * k)
  pub none : first_of (3 * k) (corner_cause n (faces_of t)) ≡ Ok tt

pub names_start : (n : ℕ) (t : List ℕ) → text_cause t ≡ Ok tt → NamesUpto n t 0 0
unfolding first_of
names_start n t h = record { free = h; met = met_start (faces_of t); none = refl }

module _ (n : ℕ) (t : List ℕ) (i k : ℕ) (u : NamesUpto n t i k) where
  pub names_other : (line : Line) → NextLine (lines t) i line → corners_of line ≡ [] → NamesUpto n t (i + 1) k
  names_other line m e = record { free = sym m.cause ∙ u.free; met = met_none m.faces e u.met; none = u.none }

  pub names_end : length (lines t) ≤ i → Ok tt ≡ no_such_vertex n (faces_of t)
  unfolding no_such_vertex
  names_end h = sym (subst (λ (j : ℕ). first_of j (corner_cause n (faces_of t)) ≡ Ok tt) (met_end (no_faces (lines t) i h) u.met) u.none)

  -- ---- one face

  module _ (a b c : ℕ) (m : NextLine (lines t) i (Line.Face a b c)) where
    pub room : 3 * k + 3 ≤ length (faces_of t)
    room = (met_three m.faces u.met).room

    -- the corners of the lines left
    abbrev left : List ℕ
    left = (a ∷ b ∷ c ∷ []) ++ all_faces (drop (i + 1) (lines t))

    -- corner j of the face
    at_corner : (j x : ℕ) → j < 3 → get_or left j 0 ≡ x → corner_cause n (faces_of t) (3 * k + j) ≡ unless (ltb x n) (NoSuchVertex k)
    at_corner j x l q =
        let g : get_or (faces_of t) (3 * k + j) 0 ≡ x = met_at j 0 u.met ∙ ap (λ (s : List ℕ). get_or s j 0) m.faces ∙ q in
        let h : (3 * k + j) / 3 ≡ k = omega arith in
        ap₂ (λ (y i : ℕ). unless (ltb y n) (NoSuchVertex i)) g h

    abbrev Upto : ℕ → Type 0
    Upto j = first_of (3 * k + j) (corner_cause n (faces_of t)) ≡ Ok tt

    upto : (j x : ℕ) → j < 3 → get_or left j 0 ≡ x → x < n → Upto j → Upto (j + 1)
    upto j x l q h before =
        subst (λ (e : ℕ). first_of e (corner_cause n (faces_of t)) ≡ Ok tt) (let z : 3 * k + j + 1 ≡ 3 * k + (j + 1) = omega arith in z)
        (more (3 * k + j) (corner_cause n (faces_of t)) before (at_corner j x l q ∙ passes (ltb x n) (NoSuchVertex k) (lt-ltb x n h)))

    refused : (j x : ℕ) → j < 3 → get_or left j 0 ≡ x → n ≤ x → Upto j → Err (NoSuchVertex k) ≡ no_such_vertex n (faces_of t)
    unfolding no_such_vertex
    refused j x l q h before =
        sym (stop (length (faces_of t)) (3 * k + j) (corner_cause n (faces_of t)) (NoSuchVertex k) (omega (arith, room)) before
        (at_corner j x l q ∙ refuses (ltb x n) (NoSuchVertex k) (le-ltb x n h)))

    upto_0 : Upto 0
    upto_0 = subst (λ (e : ℕ). first_of e (corner_cause n (faces_of t)) ≡ Ok tt) (let z : 3 * k ≡ 3 * k + 0 = omega arith in z) u.none

    pub names_refused : n ≤ max (max a b) c → Err (NoSuchVertex k) ≡ no_such_vertex n (faces_of t)
    names_refused h =
        ⊎_elim (λ la. refused 0 a (omega arith) refl la upto_0)
        (λ ha. let u1 = upto 0 a (omega arith) refl ha upto_0 in
        ⊎_elim (λ lb. refused 1 b (omega arith) refl lb u1)
        (λ hb. let u2 = upto 1 b (omega arith) refl hb u1 in
        ⊎_elim (λ lc. refused 2 c (omega arith) refl lc u2) (λ hc. absurd (omega arith)) (at_least n c)) (at_least n b)) (at_least n a)

    pub names_face : a < n → b < n → c < n → NamesUpto n t (i + 1) (k + 1)
    names_face ha hb hc =
        let s : 3 * k + 3 ≡ 3 * (k + 1) = omega arith in
        record {
          free = sym m.cause ∙ u.free;
          met = subst (λ (e : ℕ). Met (faces_of t) (all_faces (drop (i + 1) (lines t))) e) s (met_three m.faces u.met);
          none = subst (λ (e : ℕ). first_of e (corner_cause n (faces_of t)) ≡ Ok tt) s (upto 2 c (omega arith) refl hc (upto 1 b (omega arith) refl hb (upto 0 a (omega arith) refl ha upto_0)));
        }
