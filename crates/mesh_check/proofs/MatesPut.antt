-- The mates put one by one. States: `put-more`: one more of them; `all-mates`: after the last all bytes are the mates; `none_lent`, `no_bytes`: where no bytes are lent, none change.
-- Assumes nothing.
use mathlib.Core.Path.{◌≡◌, refl, sym, ap, subst, ◌∙◌}
use mathlib.Core.List.{List}
use mathlib.Core.Logic.{⊎_elim}
use Prim.Native.Nat.{ℕ, ◌+◌, ◌*◌, ◌≤◌, ◌<◌}
use native.Mathlib.Nat.{zero-add}
use native.Mathlib.Omega.{arith}
use lib.ListN.{length, get_or, length-map}
use lib.Seq.{sets, length-sets, ext_get_or}
use Rattle.std.specs.Prelude.{Ok, Err}
use Rattle.refusals.specs.Causes.{Cause}
use Rattle.lists.specs.Sort.{range}
use Rattle.lists.proofs.Numbers.{below?}
use Rattle.lists.proofs.Ranges.{length-range}
use Rattle.lists.proofs.Filling.{map_range}
use Rattle.mesh_orders.specs.Order.{order_list}
use Rattle.mesh_orders.specs.OrderLaws.{order-length, order_below, place}
use Rattle.mesh_orders.specs.Mates.{mate, mates}
use Rattle.sheet_layout.specs.LittleEndian.{bytes, pack}
use Rattle.sheet_layout.proofs.Lists.{pack-length}
use Rattle.sheet_layout.proofs.Stores.{sets_all}
use Rattle.mesh_check.specs.CheckedMates.{HoldsMates, MatesRoom, mates_after}
use Rattle.mesh_check.proofs.Scatter.{Agrees, put-here, put_one, all-put}

mates-size : (f : List ℕ) → length (mates f) ≡ length f
unfolding mates
mates-size f = length-map (range 0 (length f)) (mate f) ∙ length-range 0 (length f)

mates_at : (f : List ℕ) (u : ℕ) → u < length f → get_or (mates f) u 0 ≡ mate f u
unfolding mates
mates_at f u l = map_range (mate f) 0 (length f) u l ∙ ap (mate f) (zero-add u)

-- bytes that are lent at all are four to each use
pub full : (n m : ℕ) → MatesRoom n m → (m ≡ 0 → ⊥) → m ≡ 4 * n
full n m h lent = ⊎_elim (λ e. absurd (lent e)) (λ e. e) h

-- two lists without entries
both_empty : (l m : List ℕ) → length l ≡ 0 → length m ≡ 0 → l ≡ m
both_empty l m a b = ext_get_or 0 l m (a ∙ sym b) (λ i g. absurd (omega arith))

pub none_lent : (m b : List ℕ) → length m ≡ 0 → m ≡ sets m 0 b
none_lent m b e = both_empty m (sets m 0 b) e (length-sets m 0 b ∙ e)

pub no_bytes : (c : Cause) (f m : List ℕ) → length m ≡ 0 → m ≡ mates_after c f m
unfolding mates_after
no_bytes (Ok _) f m e = none_lent m (pack 4 (mates f)) e
no_bytes (Err r) f m e = refl

module _ (order partners : List ℕ) where
  -- the mates of the first k uses of the order list stand in out
  abbrev pub PutSoFar : List ℕ → ℕ → Type 0
  PutSoFar out k = (f : List ℕ) → order ≡ order_list f → HoldsMates f partners → (j b : ℕ) → j < k → b < 4 → Agrees (mates f) out (4 * get_or order j 0 + b)

  module _ (out : List ℕ) (k : ℕ) (h : PutSoFar out k) where
    pub put-more : k < length order → length out ≡ 4 * length order → PutSoFar (sets out (4 * get_or order k 0) (bytes 4 (get_or partners k 0))) (k + 1)
    put-more l e f q m j b jl bl =
        ⊎_elim (λ a. put_one (mates f) out size u x ul held (4 * get_or order j 0 + b) (h f q m j b a bl))
        (λ a. subst (λ (i : ℕ). Agrees (mates f) (sets out (4 * u) (bytes 4 x)) (4 * get_or order i 0 + b)) (let z : k ≡ j = omega arith in z) (put-here (mates f) out size u x ul held b bl))
        (below? j k)
      where
        u : ℕ
        u = get_or order k 0

        x : ℕ
        x = get_or partners k 0

        long : length order ≡ length f
        long = ap length q ∙ order-length f

        size : length out ≡ 4 * length (mates f)
        size = omega (arith, mates-size f, long)

        inside : get_or order k 0 < length f
        inside = subst (λ (o : List ℕ). get_or o k 0 < length f) (sym q) (order_below f k (omega (arith, long, order-length f)))

        ul : get_or order k 0 < length (mates f)
        ul = omega (arith, inside, mates-size f)

        held : get_or partners k 0 ≡ get_or (mates f) (get_or order k 0) 0
        held = m.at k (omega (arith, long)) ∙ ap (λ (o : List ℕ). mate f (get_or o k 0)) (sym q) ∙ sym (mates_at f (get_or order k 0) inside)

    pub all-mates : (out₀ : List ℕ) → length out₀ ≡ 4 * length order → length out ≡ length out₀ → length order ≤ k → (f : List ℕ) → order ≡ order_list f → HoldsMates f partners
        → out ≡ sets out₀ 0 (pack 4 (mates f))
    all-mates out₀ room e l f q m =
        all-put (mates f) out (omega (arith, mates-size f, long)) at
        ∙ sym (sets_all out₀ (pack 4 (mates f)) (omega (arith, pack-length 4 (mates f), mates-size f, long)))
      where
        long : length order ≡ length f
        long = ap length q ∙ order-length f

        at : (u b : ℕ) → u < length (mates f) → b < 4 → Agrees (mates f) out (4 * u + b)
        at u b ul bl =
            let p = place f u (omega (arith, mates-size f)) in
            subst (λ (v : ℕ). Agrees (mates f) out (4 * v + b)) (ap (λ (o : List ℕ). get_or o p.at 0) q ∙ p.is)
            (h f q m p.at b (omega (arith, p.within, order-length f, long)) bl)
