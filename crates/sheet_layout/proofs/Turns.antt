-- One turn of a loop that writes or reads a list, and its end. Assumes nothing.
use mathlib.Core.Path.{◌≡◌, refl, ap, ◌∙◌}
use mathlib.Core.List.{List, [], ◌∷◌, append-nil, map, map-append}
use Prim.Native.Nat.{ℕ, zero, suc, ◌+◌, ◌*◌, ◌≤◌, ◌<◌}
use native.Mathlib.Nat.{zero-add, mul_comm, le_of_lt, not-suc-le-zero}
use native.Mathlib.Omega.{arith}
use native.Mathlib.Numerals.{add-one}
use lib.ListN.{length, get_or, set, take, length-map}
use lib.Seq.{sets, length-take-le, take-suc, take_all}
use Rattle.sheet_layout.specs.LittleEndian.{bytes, number, pack, unpack}
use Rattle.sheet_layout.proofs.Stores.{sets_then, sets_all}
use Rattle.sheet_layout.proofs.Lists.{pack-append, pack-length, unpack-length, unpack-append}

-- the number of an entry
pub map_at : {A : Type 0} (f : A → ℕ) (xs : List A) (i : ℕ) (x : A) → i < length xs → x ≡ get_or xs i x → f x ≡ get_or (map f xs) i 0
map_at f [] i x h e = absurd (not-suc-le-zero h)
map_at f (y ∷ ys) zero x h e = ap f e
map_at f (y ∷ ys) (suc i) x h e = map_at f ys i x (omega arith) e

module _ (k : ℕ) (l : List ℕ) (at i : ℕ) (xs : List ℕ) where
  put_next : i < length xs → sets (sets l at (pack k (take i xs))) (at + k * i) (bytes k (get_or xs i 0)) ≡ sets l at (pack k (take (i + 1) xs))
  unfolding pack
  put_next h =
      let e : at + k * i ≡ at + length (pack k (take i xs)) = rw (pack-length, length-take-le i xs (le_of_lt h)) in
      sets_then l at (at + k * i) (pack k (take i xs)) (bytes k (get_or xs i 0)) e ∙ rw (add-one, take-suc xs i 0 h, pack-append, append-nil)

  pub put-turn : {s r : List ℕ} {x : ℕ} → i < length xs → s ≡ sets l at (pack k (take i xs)) → x ≡ get_or xs i 0 → r ≡ sets s (at + k * i) (bytes k x) → r ≡ sets l at (pack k (take (i + 1) xs))
  put-turn h p e q = q ∙ rw (p, e) (put_next h)

  pub put-end : {s : List ℕ} → length xs ≤ i → s ≡ sets l at (pack k (take i xs)) → s ≡ sets l at (pack k xs)
  put-end h p = p ∙ rw (take_all i xs h)

module _ {A : Type 0} (f : ℕ → A) (k : ℕ) (l : List A) (b : List ℕ) (at i : ℕ) where
  read_next : set (sets l 0 (map f (unpack k i b at))) i (f (number k b (at + k * i))) ≡ sets l 0 (map f (unpack k (i + 1) b at))
  unfolding unpack
  read_next =
      let e : i ≡ 0 + length (map f (unpack k i b at)) = simp (length-map, unpack-length, zero-add) in
      sets_then l 0 i (map f (unpack k i b at)) (f (number k b (at + k * i)) ∷ []) e ∙ rw (unpack-append k i 1, map-append, mul_comm i k)

  pub read_turn : {s : List A} (v : A) → s ≡ sets l 0 (map f (unpack k i b at)) → v ≡ f (number k b (at + k * i)) → set s i v ≡ sets l 0 (map f (unpack k (i + 1) b at))
  read_turn v p q = rw (p, q) read_next

  pub read_end : {s : List A} → i ≡ length l → s ≡ sets l 0 (map f (unpack k i b at)) → s ≡ map f (unpack k (length l) b at)
  read_end e p = p ∙ sets_all l (map f (unpack k i b at)) (simp (length-map, unpack-length) e) ∙ rw e

-- numbers read as they are
pub map_id : (xs : List ℕ) → map (λ x. x) xs ≡ xs
map_id [] = refl
map_id (x ∷ xs) = ap (λ (r : List ℕ). x ∷ r) (map_id xs)
