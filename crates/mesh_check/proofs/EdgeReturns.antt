-- What `check_edges` owes, return by return. States: `edges-refused`: after a refusal the bytes for the mates are as they were; `edges-accepted`: else they are the mates;
-- `order_fits`: what `put_mates` asks; `no_edge-cause`: where none of 5 to 8 holds, neither 5 nor 6 does. Assumes nothing.
use mathlib.Core.Path.{◌≡◌, refl, sym, ap, subst, ◌∙◌}
use mathlib.Core.List.{List}
use Prim.Native.Nat.{ℕ}
use native.Mathlib.Omega.{arith}
use lib.Ieee.{Float}
use lib.ListN.{length}
use lib.Seq.{sets}
use Rattle.refusals.specs.declared.Refusal.{Refusal}
use Rattle.std.specs.Prelude.{Ok, Err}
use Rattle.refusals.specs.Answer.{Answer}
use Rattle.refusals.specs.Causes.{Cause}
use Rattle.refusals.specs.Causes.{or_else}
use Rattle.refusals.proofs.Causes.{both}
use Rattle.lists.specs.Count.{Below}
use Rattle.mesh_orders.specs.Order.{order_list}
use Rattle.mesh_orders.specs.OrderLaws.{order-length, order_below}
use Rattle.mesh_orders.specs.Mates.{mates}
use Rattle.mesh.specs.Surface.{volume}
use Rattle.mesh.specs.Check.{flipped_edge, open_edge, faces_cause, order_cause, solid_of}
use Rattle.sheet_layout.specs.LittleEndian.{pack}
use Rattle.mesh_check.specs.CheckOrder.{check_order}
use Rattle.mesh_check.specs.CheckedMates.{HoldsMates, MatesRoom, mates_after, EdgesChecked}

pub refused_none : (c : Cause) (r : Refusal) → c ≡ Err r → c ≡ Ok tt → ⊥
refused_none c r e n = let z : ◌≡◌ {A = ℕ} 0 1 = cc in omega arith

solid-refused : (c : Cause) (x : Float) (r : Refusal) → solid_of c x ≡ Err r → c ≡ Err r
solid-refused (Ok _) x r e = absurd (let z : ◌≡◌ {A = ℕ} 0 1 = cc in omega arith)
solid-refused (Err s) x r e = ap {B = Cause} Err (let z : s ≡ r = cc in z)

solid-volume : (c : Cause) (y x : Float) → solid_of c y ≡ Ok x → c ≡ Ok tt
solid-volume (Ok _) y x e = refl
solid-volume (Err r) y x e = absurd (let z : ◌≡◌ {A = ℕ} 0 1 = cc in omega arith)

-- none of 5 to 8: neither 5 nor 6
pub no_edge-cause : (v : List Float) (f o : List ℕ) → order_cause v f o ≡ Ok tt → (flipped_edge f o ≡ Ok tt) × (open_edge f o ≡ Ok tt)
unfolding order_cause
no_edge-cause v f o e =
    let a = both (flipped_edge f o) (or_else (open_edge f o) (faces_cause v f)) e in
    (a.0, (both (open_edge f o) (faces_cause v f) a.1).0)

pub order_fits : (f o s : List ℕ) (m : ℕ) → o ≡ order_list f → length s ≡ length f → MatesRoom (length f) m → Below o (length o) × (length s ≡ length o) × MatesRoom (length o) m
order_fits f o s m e z r =
    subst (λ (l : List ℕ). Below l (length l) × (length s ≡ length l) × MatesRoom (length l) m) (sym e)
    (subst (λ (n : ℕ). Below (order_list f) n × (length s ≡ n) × MatesRoom n m) (sym (order-length f)) (order_below f, z, r))

module _ (v : List Float) (f m : List ℕ) {s : (Answer Float)} {p : List ℕ} (a : s ≡ check_order v f) (w : p ≡ order_list f) where
  pub edges-refused : (r : Refusal) → s ≡ Err r → EdgesChecked v f m (Err r) p m
  unfolding mates_after
  edges-refused r e = record {
    answer = sym e ∙ a;
    work = w;
    mates = sym (ap (λ (c : Cause). mates_after c f m) (solid-refused (order_cause v f (order_list f)) (volume v f) r (sym a ∙ e)));
  }

  pub edges-accepted : {t q : List ℕ} (x : Float) → s ≡ Ok x → (order_cause v f (order_list f) ≡ Ok tt → HoldsMates f t)
      → ((g : List ℕ) → p ≡ order_list g → HoldsMates g t → q ≡ sets m 0 (pack 4 (mates g))) → EdgesChecked v f m (Ok x) p q
  unfolding mates_after
  edges-accepted x e h k =
      let n = solid-volume (order_cause v f (order_list f)) (volume v f) x (sym a ∙ e) in
      record { answer = sym e ∙ a; work = w; mates = k f w (h n) ∙ sym (ap (λ (c : Cause). mates_after c f m) n) }
