-- The answer of `read_obj` and the lent lists, by the cause. States: `by_text`, `by_mesh`: the reader's cause; `refused_answer`, `refused_list`: after a refusal; `read_answer`, `read_list`: after an answer;
-- `storable`, `counts_fit`: what a text without cause has. Assumes nothing.
use Rattle.std.specs.Prelude.{◌≡◌, List, ℕ, ◌^◌, ◌<◌, Ok, Err}
use Rattle.std.proofs.Common.{ap₂, arith}
use Rattle.refusals.specs.declared.Refusal.{Refusal}
use Rattle.refusals.specs.Causes.{Cause}
use Rattle.refusals.specs.Answer.{Answer}
use Rattle.mesh.specs.Surface.{vertex_count, face_count}
use Rattle.obj.specs.Reader.{text_cause, vertices_of, faces_of, read_cause, reader_cause, read_obj, list_after}
use Rattle.obj.specs.declared.Counts.{Counts}
use Rattle.obj_reader.specs.declared.contents.Contents.{Contents}
use Rattle.obj_reader.specs.Passes.{Surveys, Storable}
use Rattle.obj_reader.proofs.ReadCauses.{counts_small, lists_long, numbers_named}

pub by_text : (t : List ℕ) (n m : ℕ) (r : Refusal) → text_cause t ≡ Err r → reader_cause t n m ≡ Err r
unfolding reader_cause
by_text t n m r e = rw e

pub by_mesh : (t : List ℕ) (n m : ℕ) (c : Cause) → text_cause t ≡ Ok tt → read_cause (vertices_of t) (faces_of t) n m ≡ c → reader_cause t n m ≡ c
unfolding reader_cause
by_mesh t n m c e q = rw e q

module _ (t : List ℕ) (n m : ℕ) where
  pub refused_answer : (r : Refusal) → reader_cause t n m ≡ Err r → ◌≡◌ {A = Answer Counts} (Err r) (read_obj t n m)
  unfolding read_obj
  refused_answer r e = rw e

  pub read_answer : (s : Contents) → reader_cause t n m ≡ Ok tt → Surveys t s
      → ◌≡◌ {A = Answer Counts} (Ok (record { vertices = s.vertices; faces = s.faces })) (read_obj t n m)
  unfolding read_obj
  read_answer s e h =
      let a : s.vertices ≡ vertex_count (vertices_of t) = omega (arith, h.vertices) in
      let b : s.faces ≡ face_count (faces_of t) = omega (arith, h.faces) in
      rw e (ap₂ (λ (x y : ℕ). Ok (record { vertices = x; faces = y })) a b)

pub refused_list : {A : Type 0} (c : Cause) (r : Refusal) (read l : List A) → c ≡ Err r → l ≡ list_after c read l
refused_list c r read l e = rw e

pub read_list : {A : Type 0} (c : Cause) (read l new : List A) → c ≡ Ok tt → new ≡ list_after (Ok tt) read l → new ≡ list_after c read l
read_list c read l new e h = rw e h

-- a text without cause
module _ (t : List ℕ) (s : Contents) (n m : ℕ) (h : Surveys t s) (none : read_cause (vertices_of t) (faces_of t) n m ≡ Ok tt) where
  pub storable : Storable t n m
  storable =
      let long = lists_long (vertices_of t) (faces_of t) n m none in
      let small = counts_small (vertices_of t) (faces_of t) n m none in
      record { free = h.free; verts = long.0; faces = long.1; fits = λ i l. omega (arith, numbers_named (vertices_of t) (faces_of t) n m none i l, small.0) }

  pub counts_fit : (s.vertices < 2 ^ 32) × (s.faces < 2 ^ 32)
  counts_fit = let small = counts_small (vertices_of t) (faces_of t) n m none in (omega (arith, small.0, h.vertices), omega (arith, small.1, h.faces))
