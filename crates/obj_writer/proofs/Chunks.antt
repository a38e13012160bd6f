-- A loop over the chunks of three of a list, `chunks_exact(3)`. States: `chunk_turn`: which chunk a turn has, and what is left after it. Assumes nothing.
use Rattle.std.proofs.Common.{◌≡◌, ℕ, ◌+◌, ◌*◌, ◌/◌, ◌<◌, ◌≤◌, List, ◌++◌, length, take, drop, Some, sym, ap, ◌∙◌, arith, length-append, length-drop, drop-drop}
use Rattle.std.proofs.Math.Seq.{take_at, drop_at}
use Rattle.std.specs.Slice.Iter.{chunks_exact_rest, chunks_exact_size, chunks_exact_steps}
use Rattle.std.specs.declared.slice.ChunksExact.{ChunksExact}
use denote.Ref.{Bor}

module _ {A : Type 0} (o : List A) where
  -- the iterator s has k chunks of o behind it
  pub record Behind (k : ℕ) (s : ChunksExact A) : Type 0 where
    pub size : chunks_exact_size s ≡ 3
    pub inside : 3 * k ≤ length o
    pub rest : chunks_exact_rest s ≡ drop (3 * k) o

  -- x is chunk k, and t has it behind it too
  pub record ChunkTurn (k : ℕ) (x : List A) (t : ChunksExact A) : Type 0 where
    pub inside : k < length o / 3
    pub is : x ≡ take 3 (drop (3 * k) o)
    pub next : Behind (k + 1) t

  module _ {k : ℕ} {s : ChunksExact A} (b : Behind k s) (t : ChunksExact A) where
    pub chunk_turn : (x : Bor (List A)) → chunks_exact_steps s (Some x) t → ChunkTurn k x.now t
    chunk_turn x h =
        let all : drop (3 * k) o ≡ x.now ++ chunks_exact_rest t = sym b.rest ∙ h.1.0 in
        let three : length x.now ≡ 3 = h.1.1 ∙ b.size in
        let long : 3 * k + 3 ≤ length o = omega (arith, b.inside, three, ap length all, length-drop (3 * k) o, length-append x.now (chunks_exact_rest t)) in
        let e : 3 * k + 3 ≡ 3 * (k + 1) = omega arith in
        record {
          inside = omega (arith, long);
          is = sym (ap (take 3) all ∙ take_at x.now (chunks_exact_rest t) 3 three);
          next = record {
            size = h.0 ∙ b.size;
            inside = omega (arith, long);
            rest = sym (drop_at x.now (chunks_exact_rest t) 3 three) ∙ ap (drop 3) (sym all) ∙ drop-drop 3 (3 * k) o ∙ ap (λ (n : ℕ). drop n o) e;
          };
        }
