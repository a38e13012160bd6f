-- `mesh_orders::mates::lower` meets its contract: edges before the point are below e, and edges from it on are not. Assumes nothing.
use Rattle.std.proofs.Common.{◌≡◌, ℕ, ◌<◌, ◌≤◌, Bool, true, false, ◌&&◌, List, length, get_or, ltb, ap, ap₂, ◌∙◌, sym, arith, rules}
use borrow.Author.Tests.{lt-ltb, ltb-true, ltb-false}
use Rattle.std.proofs.lemmas.Grind.{get_or_default_zero}
use Rattle.std.proofs.lemmas.List.Sorted.{IsPartitionPoint-from_clause}
use Rattle.lists.specs.Count.{Below}
use Rattle.lists.specs.Sort.{Sorted}
use Rattle.lists.proofs.Numbers.{both}
use Rattle.lists.proofs.Sorting.{sorted_le}
use Rattle.mesh_orders.specs.Edges.{edge}
use Rattle.mesh_orders.proofs.mates.lower.Goals as goal

-- whether w is a use with an edge below e
abbrev less : List ℕ → ℕ → ℕ → Bool
less f e w = ltb w (length f) && ltb (edge f w) e

-- of two uses in order the first is less if the second is
less_before : (f o : List ℕ) (e : ℕ) → Below o (length f) → Sorted (edge f) o → (i j d : ℕ) → i ≤ j → j < length o → less f e (get_or o j d) ≡ true → less f e (get_or o i d) ≡ true
less_before f o e below sorted i j d ij jl t =
    let m : get_or o j d ≡ get_or o j 0 = get_or_default_zero o j d jl in
    let n : get_or o i d ≡ get_or o i 0 = get_or_default_zero o i d (omega arith) in
    let w = both (ltb (get_or o j d) (length f)) (ltb (edge f (get_or o j d)) e) t in
    let l : edge f (get_or o i 0) < e = omega (arith, sorted_le (edge f) o sorted i j ij jl, ap (edge f) m, ltb-true _ _ w.1) in
    rw n (ap₂ (λ (a b : Bool). a && b) (lt-ltb _ _ (below i (omega arith))) (lt-ltb _ _ l))

not_less : (f : List ℕ) (e w : ℕ) → w < length f → less f e w ≡ false → e ≤ edge f w
not_less f e w l t =
    ltb-false _ _ (ap (λ (b : Bool). b && ltb (edge f w) e) (sym (lt-ltb w (length f) l)) ∙ t)

pub returns : goal.returns
returns c =
    let f = c.args.faces.now in
    let o = c.args.order.now in
    let point = IsPartitionPoint-from_clause (less f c.args.e) o c.partition_point.result c.partition_point.ensures.partitioned (less_before f o c.args.e c.requires.0.below c.requires.1) (λ a r f' h. search rules) in
    record {
      upto = c.partition_point.ensures.bound;
      less = λ k l. ltb-true _ _ (both (ltb (get_or o k 0) (length f)) (ltb (edge f (get_or o k 0)) c.args.e) (point.0 k 0 (omega arith) l)).1;
      most = λ k l m. not_less f c.args.e (get_or o k 0) (c.requires.0.below k m) (point.1 k 0 l m);
    }
