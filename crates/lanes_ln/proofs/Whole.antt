-- States: `sub-whole`: the difference of two whole numbers up to 2^53 is exact. Assumes nothing.
use mathlib.Core.Path.{◌≡◌, sym, ap, ◌∙◌}
use Prim.Native.Nat.{ℕ, suc, ◌+◌, ◌-◌, ◌*◌, ◌^◌, ◌≤◌, ◌<◌}
use native.Mathlib.Nat.{lt_of_mul-lt-mul_right, le_of_mul-le-mul_right, mul-pos}
use native.Mathlib.Omega.{arith}
use mathlib.Core.Bool.{Bool, true, false, not, ◌&&◌, cond, true≢false}
use lib.Dec.{T, ltb, ltb→lt, nltb→le}
use lib.Ieee.{Float, nan, inf, fin, binary64, up, down, minus, round, sum, sub, of_int, fits}
use lib.Ieee.Exact.{HasValue}
use lib.Ieee.Fits.{round-fits, down_pos}
use lib.Ieee.Back.{round_whole}
use Rattle.doubles.proofs.Value.{round-to}
use Rattle.doubles.proofs.Exponent.{minus_ge, minus_lt}

scaled : (s : Bool) (k c : ℕ) → k ≤ 2 ^ 53 → 0 < c → round binary64 s (k * c) c ≡ round binary64 s k 1
scaled s k c l z = go (round binary64 s k 1) (round-fits binary64 s k 1) (round_whole binary64 s k l)
  where
    go : (w : Float) → T (fits binary64 w) → HasValue w s k 1 → round binary64 s (k * c) c ≡ w
    go nan f h = absurd h
    go (inf t) f h = absurd h
    go (fin t m e) f h =
        let g : m * up e * 1 * c ≡ k * down e * c = ap (λ (i : ℕ). i * c) h.1 in
        ap (λ (b : Bool). round binary64 b (k * c) c) (sym h.0) ∙ round-to binary64 t m e (k * c) c f z (omega arith)

times_less : (a b q c p r : ℕ) → b ≡ a + q → p ≡ a * c → r ≡ b * c → r - p ≡ q * c
times_less a b q c p r e f g = let h : b * c ≡ (a + q) * c = ap (λ (i : ℕ). i * c) e in omega arith

sums : (a b p r c : ℕ) → p ≡ a * c → r ≡ b * c → 0 < c → a ≤ 2 ^ 53 → b ≤ 2 ^ 53 → sum binary64 false p true r c ≡ of_int binary64 (minus a b)
unfolding sum of_int
sums a b p r c e f z l m = go (ltb p r) (ltb→lt p r) (nltb→le p r)
  where
    go : (t : Bool) → (T t → p < r) → (T (not t) → r ≤ p)
        → cond t (round binary64 true (r - p) c) (round binary64 (false && ltb r p) (p - r) c) ≡ of_int binary64 (minus a b)
    go true u v =
        let h : p < r = u tt in
        let i : a * c < b * c = omega arith in
        let j : a < b = lt_of_mul-lt-mul_right c i in
        let w : b - a ≡ suc (b - suc a) = omega arith in
        ap (λ (x : ℕ). round binary64 true x c) (times_less a b (b - a) c p r (omega arith) e f) ∙ scaled true (b - a) c (omega arith) z
        ∙ ap (λ (x : ℕ). round binary64 true x 1) w ∙ ap (of_int binary64) (sym (minus_lt a b j))
    go false u v =
        let h : r ≤ p = v tt in
        let i : b * c ≤ a * c = omega arith in
        let j : b ≤ a = le_of_mul-le-mul_right i z in
        ap (λ (x : ℕ). round binary64 false x c) (times_less b a (a - b) c r p (omega arith) f e) ∙ scaled false (a - b) c (omega arith) z
        ∙ ap (of_int binary64) (sym (minus_ge a b j))

pub sub-whole : (x y : Float) (a b : ℕ) → HasValue x false a 1 → HasValue y false b 1 → a ≤ 2 ^ 53 → b ≤ 2 ^ 53 → sub binary64 x y ≡ of_int binary64 (minus a b)
unfolding sub
sub-whole nan y a b h k l m = absurd h
sub-whole (inf s) y a b h k l m = absurd h
sub-whole (fin true m e) y a b h k l i = absurd (true≢false h.0)
sub-whole (fin false m e) nan a b h k l i = absurd k
sub-whole (fin false m e) (inf s) a b h k l i = absurd k
sub-whole (fin false m e) (fin true n d) a b h k l i = absurd (true≢false k.0)
sub-whole (fin false m e) (fin false n d) a b h k l i =
    let u = m * up e in
    let v = n * up d in
    let p : u * 1 * down d ≡ a * down e * down d = ap (λ (x : ℕ). x * down d) h.1 in
    let q : v * 1 * down e ≡ b * down d * down e = ap (λ (x : ℕ). x * down e) k.1 in
    sums a b (u * down d) (v * down e) (down e * down d) (omega arith) (omega arith) (mul-pos (down_pos e) (down_pos d)) l i
