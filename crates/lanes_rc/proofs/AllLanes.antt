-- All lanes make their rounds together, and a lane whose test fails stays as it is. States: `none_made`, `one_made`, `all_still`, `all_made`: how the loop begins, goes on, ends
-- where no lane's test holds, and ends after 64 rounds; `all-numbers`: the lanes that it leaves give R_C. Assumes nothing.
use mathlib.Core.Path.{◌≡◌, refl, sym, ap, ap₂, ◌∙◌}
use mathlib.Core.List.{List}
use mathlib.Core.Bool.{Bool, true, false, cond}
use Prim.Native.Nat.{ℕ, suc, ◌+◌, ◌-◌, ◌≤◌, ◌<◌, zero-le}
use native.Mathlib.Omega.{arith}
use lib.Ieee.{Float}
use lib.ListN.{length}
use Rattle.doubles.specs.Constants.{1·0}
use Rattle.carlson.specs.Rounds.{rounds}
use Rattle.carlson.specs.RoundLaws.{none_left}
use Rattle.carlson.specs.CarlsonLoop.{max_rounds, loop_test}
use Rattle.carlson.specs.Rc.{duplicate_c, test_c, A₀C, QC}
use Rattle.carlson.specs.declared.RoundC.{RoundC}
use Rattle.lanes.specs.Lanes.{lane, Lanes}
use Rattle.lanes_rc.specs.LaneRounds.{States, Ended, round_if, start, after_one, after_all, ending, rc_number}
use Rattle.lanes_rc.proofs.OneLane.{number_is}
use Rattle.lanes_rc.proofs.RoundsLast.{one_last, no_more}

-- two states that are the same but for their counts
record Same (d e : RoundC) : Type 0 where
  x_is : d.x ≡ e.x
  y_is : d.y ≡ e.y
  a_is : d.a ≡ e.a
  f_is : d.f ≡ e.f

same_duplicate : (d e : RoundC) → Same d e → Same (duplicate_c d) (duplicate_c e)
unfolding duplicate_c
same_duplicate d e s = record {
  x_is = rw (s.x_is, s.y_is);
  y_is = rw (s.x_is, s.y_is);
  a_is = rw (s.x_is, s.y_is, s.a_is);
  f_is = rw s.f_is;
}

same_cond : (b : Bool) {d e u v : RoundC} → Same u v → Same d e → Same (cond b u d) (cond b v e)
same_cond true p q = p
same_cond false p q = q

same-round : (q : Float) (d e : RoundC) → Same d e → Same (round_if q d) (round_if q e)
unfolding round_if
same-round q d e s = rw (ap₂ (loop_test q) s.a_is s.f_is) (same_cond (test_c q e) (same_duplicate d e s) s)

-- lane k's state after m rounds
abbrev after : List Float → List Float → List Float → List Float → List Float → ℕ → ℕ → RoundC
after q x y a f m k = rounds (test_c (lane q k)) duplicate_c m (start x y a f k)

-- the lanes after m rounds from x₀, y₀, a₀, f₀
pub record Made (n : ℕ) (q x₀ y₀ a₀ f₀ : List Float) (m : ℕ) (x y a f : List Float) : Type 0 where
  pub within : m ≤ max_rounds
  pub states : States n (after q x₀ y₀ a₀ f₀ m) x y a f

pub none_made : {n : ℕ} {q x y a f : List Float} → length x ≡ n → length y ≡ n → length a ≡ n → length f ≡ n → Made n q x y a f 0 x y a f
none_made {n} {q} {x} {y} {a} {f} p r s t =
    let e : (k : ℕ) → start x y a f k ≡ after q x y a f 0 k = λ k. sym (none_left (test_c (lane q k)) duplicate_c 0 (start x y a f k) refl) in
    record {
      within = zero-le;
      states = record {
        on_x = record { size = p; at = λ k l. ap (λ (d : RoundC). d.x) (e k) };
        on_y = record { size = r; at = λ k l. ap (λ (d : RoundC). d.y) (e k) };
        on_a = record { size = s; at = λ k l. ap (λ (d : RoundC). d.a) (e k) };
        on_f = record { size = t; at = λ k l. ap (λ (d : RoundC). d.f) (e k) };
      };
    }

module _ {n m : ℕ} {q x₀ y₀ a₀ f₀ x y a f : List Float} (h : Made n q x₀ y₀ a₀ f₀ m x y a f) where
  same_start : (k : ℕ) → k < n → Same (start x y a f k) (after q x₀ y₀ a₀ f₀ m k)
  same_start k l = record { x_is = h.states.on_x.at k l; y_is = h.states.on_y.at k l; a_is = h.states.on_a.at k l; f_is = h.states.on_f.at k l }

  next : (k : ℕ) → round_if (lane q k) (after q x₀ y₀ a₀ f₀ m k) ≡ after q x₀ y₀ a₀ f₀ (m + 1) k
  unfolding round_if
  next k =
      sym (ap (λ (i : ℕ). after q x₀ y₀ a₀ f₀ i k) (let z : m + 1 ≡ suc m = omega arith in z)
      ∙ one_last (test_c (lane q k)) duplicate_c m (start x₀ y₀ a₀ f₀ k))

  same_next : (k : ℕ) → k < n → Same (after_one q x y a f k) (after q x₀ y₀ a₀ f₀ (m + 1) k)
  same_next k l = rw (next k) at (same-round (lane q k) (start x y a f k) (after q x₀ y₀ a₀ f₀ m k) (same_start k l))

  pub one_made : {x' y' a' f' : List Float} → m < max_rounds → States n (after_one q x y a f) x' y' a' f' → Made n q x₀ y₀ a₀ f₀ (m + 1) x' y' a' f'
  one_made u t = record {
    within = omega arith;
    states = record {
      on_x = record { size = t.on_x.size; at = λ k l. t.on_x.at k l ∙ (same_next k l).x_is };
      on_y = record { size = t.on_y.size; at = λ k l. t.on_y.at k l ∙ (same_next k l).y_is };
      on_a = record { size = t.on_a.size; at = λ k l. t.on_a.at k l ∙ (same_next k l).a_is };
      on_f = record { size = t.on_f.size; at = λ k l. t.on_f.at k l ∙ (same_next k l).f_is };
    };
  }

  -- the same states as after i rounds
  ended : (i : ℕ) → ((k : ℕ) → k < n → after q x₀ y₀ a₀ f₀ m k ≡ after q x₀ y₀ a₀ f₀ i k) → Ended n (after q x₀ y₀ a₀ f₀ i) a f
  ended i e = record {
    on_a = record { size = h.states.on_a.size; at = λ k l. h.states.on_a.at k l ∙ ap (λ (d : RoundC). d.a) (e k l) };
    on_f = record { size = h.states.on_f.size; at = λ k l. h.states.on_f.at k l ∙ ap (λ (d : RoundC). d.f) (e k l) };
  }

  pub all_still : ((k : ℕ) → k < n → loop_test (lane q k) (lane a k) (lane f k) ≡ false) → Ended n (after_all q x₀ y₀ a₀ f₀) a f
  all_still t =
      ended max_rounds (λ k l.
      let s = same_start k l in
      let u = h.within in
      let z : m + (max_rounds - m) ≡ max_rounds = omega arith in
      sym (ap (λ (i : ℕ). after q x₀ y₀ a₀ f₀ i k) (sym z)
      ∙ no_more (test_c (lane q k)) duplicate_c m (max_rounds - m) (start x₀ y₀ a₀ f₀ k) (sym (ap₂ (loop_test (lane q k)) s.a_is s.f_is) ∙ t k l)))

  pub all_made : max_rounds ≤ m → Ended n (after_all q x₀ y₀ a₀ f₀) a f
  all_made o =
      let u = h.within in
      let e : m ≡ max_rounds = omega arith in
      ended max_rounds (λ k l. ap (λ (i : ℕ). after q x₀ y₀ a₀ f₀ i k) e)

-- lanes that start as R_C does
pub all-numbers : {n : ℕ} {m q a g out : List Float} (x y f : List Float) → ((k : ℕ) → k < n → lane f k ≡ 1·0)
    → Lanes n (λ (k : ℕ). A₀C (lane x k) (lane y k)) m → Lanes n (λ (k : ℕ). QC (lane x k) (lane y k)) q → Ended n (after_all q x y m f) a g
    → Lanes n (λ (k : ℕ). ending (lane y k) (lane m k) (lane g k) (lane a k)) out → Lanes n (λ (k : ℕ). rc_number (lane x k) (lane y k)) out
all-numbers {m = m} {q = q} x y f e hm hq h ho = record {
  size = ho.size;
  at = λ k l. number_is q x y m f k (hq.at k l) (hm.at k l) (e k l) (hm.at k l) (h.on_a.at k l) (h.on_f.at k l) (ho.at k l);
}
