-- Parts that are written one after the other, around the mates that stand there, stand joined. Assumes nothing.
use mathlib.Core.Path.{◌≡◌, refl, sym, ap, ap₂, ◌∙◌}
use mathlib.Core.List.{List, [], ◌∷◌, ◌++◌, append_assoc}
use Prim.Native.Nat.{ℕ, suc, ◌+◌, ◌*◌, ◌-◌, ◌≤◌}
use native.Mathlib.Omega.{arith}
use lib.ListN.{length, set, take, drop, replicate, length-map, length-replicate, take-append-drop}
use lib.Seq.{sets, length-sets, sets-eq, drop-set-lt, drop-drop}
use lib.Ieee.{Float, binary64, to_bits}
use Rattle.refusals.specs.declared.Refusal.{Refusal}
use Rattle.std.specs.Prelude.{Ok, Err}
use Rattle.refusals.specs.Causes.{Cause}
use Rattle.newtonian.specs.Vectors.{vector_numbers}
use Rattle.newtonian.specs.declared.Vector.{Vector}
use Rattle.mesh_orders.specs.Order.{order_list}
use Rattle.mesh_orders.specs.OrderLaws.{order-length}
use Rattle.mesh_orders.specs.Mates.{mates}
use Rattle.sheet_layout.specs.LittleEndian.{bytes, pack, bits}
use Rattle.sheet_layout.specs.Parts.{Part, joined, layout, size}
use Rattle.sheet_layout.proofs.Stores.{sets_all}
use Rattle.sheet_layout.proofs.Lists.{pack_one, pack-append, pack-length}
use Rattle.sheet_layout.proofs.Files.{then_part}
use Rattle.sheet.specs.Bytes.{trailer_length}
use Rattle.sheet_laws.specs.OrderAndMates.{mates-length}
use Rattle.writer_parts.specs.PartsPut.{front_parts, MatesStand, trailer_parts, finished}

pub bits-length : (xs : List Float) → length (bits xs) ≡ length xs
bits-length xs = length-map xs (to_bits binary64)

-- ---- before the rows

-- a run of stores before place k leaves what is past it
drop_sets : (l xs : List ℕ) (i k : ℕ) → i + length xs ≤ k → drop k (sets l i xs) ≡ drop k l
drop_sets l [] i k h = refl
drop_sets l (x ∷ xs) i k h = drop_sets (set l i x) xs (suc i) k (omega arith) ∙ drop-set-lt k l i x (omega arith)

-- what stands in a list is as good as stored there
stored : (l xs : List ℕ) (k n : ℕ) → length xs ≡ n → k + n ≤ length l → take n (drop k l) ≡ xs → l ≡ sets l k xs
stored l xs k n z h q =
    sym (sets-eq xs l k (omega arith) ∙ append_assoc (take k l) xs (drop (k + length xs) l) ∙ ap (λ (y : List ℕ). take k l ++ y) rest ∙ take-append-drop k l)
  where
    rest : xs ++ drop (k + length xs) l ≡ drop k l
    rest = ap₂ (λ (x : List ℕ) (m : ℕ). x ++ drop (k + m) l) (sym q) z ∙ ap (λ (y : List ℕ). take n (drop k l) ++ y) (sym (drop-drop n k l)) ∙ take-append-drop n (drop k l)

pub front : (l : List ℕ) (v : List Float) (f o : List ℕ) (st : List Float) {o₁ o₂ o₃ o₄ : List ℕ}
    → o ≡ order_list f → 8 * length v + 12 * length f + 8 * length st ≤ length l → MatesStand (length v) f l
    → o₁ ≡ sets l 0 (pack 8 (bits v)) → o₂ ≡ sets o₁ (8 * length v) (pack 4 f) → o₃ ≡ sets o₂ (8 * length v + 4 * length f) (pack 4 o)
    → o₄ ≡ sets o₃ (8 * length v + 3 * (4 * length f)) (pack 8 (bits st)) → o₄ ≡ sets l 0 (joined (front_parts v f st))
front l v f o st {o₁ = o₁} {o₂ = o₂} {o₃ = o₃} h room stand e₁ e₂ e₃ e₄ =
    let a : length (bits v) ≡ length v = bits-length v in
    let b : length (order_list f) ≡ length f = order-length f in
    let d : length (mates f) ≡ length f = mates-length f in
    let at = 8 * length v + 8 * length f in
    let s₁ : drop at o₁ ≡ drop at l = ap (drop at) e₁ ∙ drop_sets l (pack 8 (bits v)) 0 at (omega (arith, pack-length 8 (bits v))) in
    let s₂ : drop at o₂ ≡ drop at o₁ = ap (drop at) e₂ ∙ drop_sets o₁ (pack 4 f) (8 * length v) at (omega (arith, pack-length 4 f)) in
    let s₃ : drop at o₃ ≡ drop at o₂ = ap (drop at) e₃ ∙ drop_sets o₂ (pack 4 o) (8 * length v + 4 * length f) at (omega (arith, pack-length 4 o, ap length h)) in
    let n₁ : length o₁ ≡ length l = ap length e₁ ∙ length-sets l 0 (pack 8 (bits v)) in
    let n₂ : length o₂ ≡ length o₁ = ap length e₂ ∙ length-sets o₁ (8 * length v) (pack 4 f) in
    let n₃ : length o₃ ≡ length o₂ = ap length e₃ ∙ length-sets o₂ (8 * length v + 4 * length f) (pack 4 o) in
    let m = stored o₃ (pack 4 (mates f)) at (4 * length f) (omega (arith, pack-length 4 (mates f))) (omega arith) (ap (take (4 * length f)) (s₃ ∙ s₂ ∙ s₁) ∙ stand) in
    let p₁ = then_part l 0 [] 8 (bits v) 0 refl e₁ (omega arith) in
    let p₂ = then_part l 0 ((8, bits v) ∷ []) 4 f (8 * length v) p₁ e₂ (omega arith) in
    let p₃ = then_part l 0 ((8, bits v) ∷ (4, f) ∷ []) 4 (order_list f) (8 * length v + 4 * length f) p₂ (e₃ ∙ ap (λ (y : List ℕ). sets o₂ (8 * length v + 4 * length f) (pack 4 y)) h) (omega arith) in
    let p₄ = then_part l 0 ((8, bits v) ∷ (4, f) ∷ (4, order_list f) ∷ []) 4 (mates f) at p₃ m (omega arith) in
    then_part l 0 ((8, bits v) ∷ (4, f) ∷ (4, order_list f) ∷ (4, mates f) ∷ []) 8 (bits st) (8 * length v + 3 * (4 * length f)) p₄ e₄ (omega arith)

-- where the rows begin
pub front_size : (v : List Float) (f : List ℕ) (st : List Float) → size (layout (front_parts v f st)) ≡ 8 * length v + 12 * length f + 8 * length st
front_size v f st = rw (bits-length v, bits-length st, order-length f, mates-length f) (omega arith)

-- ---- the trailer

module _ (kind v f n : ℕ) (m b : Vector) (x : Float) (at : ℕ) where
  abbrev numbers : List Float
  numbers = vector_numbers m ++ (vector_numbers b ++ (x ∷ []))

  -- the two vectors and the volume are written as one run of doubles
  one_run : joined ((4, kind ∷ v ∷ f ∷ n ∷ []) ∷ (8, bits numbers) ∷ (8, at ∷ []) ∷ []) ≡ joined (trailer_parts kind v f n m b x at)
  one_run =
      let A = pack 8 (bits (vector_numbers m)) in
      let B = pack 8 (bits (vector_numbers b)) in
      let X = pack 8 (bits (x ∷ [])) in
      let Z = pack 8 (at ∷ []) ++ [] in
      ap (λ (y : List ℕ). pack 4 (kind ∷ v ∷ f ∷ n ∷ []) ++ y)
      (ap (λ (y : List ℕ). y ++ Z) (pack-append 8 (bits (vector_numbers m)) (bits (vector_numbers b ++ (x ∷ []))) ∙ ap (λ (y : List ℕ). A ++ y) (pack-append 8 (bits (vector_numbers b)) (bits (x ∷ []))))
      ∙ append_assoc A (B ++ X) Z ∙ ap (λ (y : List ℕ). A ++ y) (append_assoc B X Z))

  pub trailer : (l : List ℕ) {o₁ o₂ o₃ : List ℕ} → o₁ ≡ sets l at (pack 4 (kind ∷ v ∷ f ∷ n ∷ [])) → o₂ ≡ sets o₁ (at + 16) (pack 8 (bits numbers)) → o₃ ≡ sets o₂ (at + 72) (bytes 8 at)
      → o₃ ≡ sets l at (joined (trailer_parts kind v f n m b x at))
  trailer l {o₂ = o₂} e₁ e₂ e₃ =
      let counts : Part = (4, kind ∷ v ∷ f ∷ n ∷ []) in
      let p₁ = then_part l at [] 4 (kind ∷ v ∷ f ∷ n ∷ []) at refl e₁ (omega arith) in
      let p₂ = then_part l at (counts ∷ []) 8 (bits numbers) (at + 16) p₁ e₂ (omega arith) in
      then_part l at (counts ∷ (8, bits numbers) ∷ []) 8 (at ∷ []) (at + 72) p₂ (e₃ ∙ ap (λ (y : List ℕ). sets o₂ (at + 72) y) (sym (pack_one 8 at))) (omega arith)
      ∙ ap (sets l at) one_run

-- ---- after the rows

module _ {cause : Cause} (trailer : List Part) (o : List ℕ) {q : List ℕ} where
  pub zeroed : {r : Refusal} → cause ≡ Err r → q ≡ sets o 0 (replicate (length o) 0) → q ≡ finished cause trailer o
  unfolding finished
  zeroed e h = h ∙ sets_all o (replicate (length o) 0) (length-replicate {A = ℕ} (length o) 0) ∙ sym (ap (λ (d : Cause). finished d trailer o) e)

  pub ended : cause ≡ Ok tt → q ≡ sets o (length o - trailer_length) (joined trailer) → q ≡ finished cause trailer o
  unfolding finished
  ended e h = h ∙ sym (ap (λ (d : Cause). finished d trailer o) e)
