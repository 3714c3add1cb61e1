-- What the test of a fault says of the disk: it passes exactly where the premise of what slots hold stays.
use Rattle.std.proofs.Common.{ℕ, zero, suc, ◌+◌, ◌<◌, ◌≤◌, ◌≡◌, arith, refl, sym, ap, ◌∙◌, subst, Bool, true, List, [], ◌∷◌, length, get_or, Option, Some, None}
use Rattle.std.specs.Prelude.{not, ◌||◌}
use Rattle.std.specs.List.{list_all, range_with_len}
use Rattle.std.proofs.lemmas.Bool.{and_parts}
use Rattle.std.proofs.lemmas.List.FromFn.{get_or-range_with_len, length-range_with_len}
use Rattle.std.proofs.lemmas.Slice.Eq.{bytes_eq-Decides}
use Rattle.vr_base.specs.declared.mode.Mode.{Mode}
use Rattle.vr_disk.specs.DiskState.{Face, IsFace}
use Rattle.vr_super.specs.Opens.{good_copies, mode_in, opened}
use Rattle.vr_rings.specs.Held.{Holds}
use Rattle.vr_lie.specs.Faults.{KeepsPremise, held_at}
use Rattle.vr_lie.specs.Table.{holds}
use Rattle.vr_lie.proofs.Opening.{same_opened, same_opens}
use Rattle.vr_lie.proofs.Slotted.{none_holds}
use Rattle.vr_lie.proofs.Trials.{still_is}
use Rattle.vr_world.specs.Lying.{Lying, keeps_premise, same_value, still_holds}

all_pass : {X : Type 0} (p : X → Bool) (xs : List X) (d : X) (i : ℕ) → list_all p xs ≡ true → i < length xs → p (get_or xs i d) ≡ true
all_pass p [] d i t l = absurd (omega arith)
all_pass p (x ∷ xs) d zero t l = (and_parts (p x) (list_all p xs) t).0
all_pass p (x ∷ xs) d (suc i) t l = all_pass p xs d i (and_parts (p x) (list_all p xs) t).1 (omega arith)

pass_all : (p : ℕ → Bool) (a n : ℕ) → ((i : ℕ) → a ≤ i → i < a + n → p i ≡ true) → list_all p (range_with_len a n) ≡ true
pass_all p a zero h = refl
pass_all p a (suc n) h = rw (h a (omega arith) (omega arith)) (pass_all p (a + 1) n (λ i l m. h i (omega arith) (omega arith)))

same_value_is : (a b : Option (List ℕ)) → same_value a b ≡ true → a ≡ b
same_value_is None None t = refl
same_value_is None (Some b) t = absurd cc
same_value_is (Some a) None t = absurd cc
same_value_is (Some a) (Some b) t = ap Some ((bytes_eq-Decides a b).0 t)

same_value_so : (a b : Option (List ℕ)) → a ≡ b → same_value a b ≡ true
same_value_so None None e = refl
same_value_so None (Some b) e = absurd cc
same_value_so (Some a) None e = absurd cc
same_value_so (Some a) (Some b) e = (bytes_eq-Decides a b).1 (let x : a ≡ b = cc in x)

still : (v : ℕ) (mode : Mode) (f g : Face) (slot : ℕ) (o : Option (List ℕ)) → still_holds v mode f g slot o ≡ true → Holds v mode f slot o → Holds v mode g slot o
still v mode f g slot None t h = none_holds v g slot
still v mode f g slot (Some p) t h = (still_is v mode mode f g slot p (holds v mode f slot p) (holds v mode g slot p) (not (holds v mode f slot p) || holds v mode g slot p) refl refl refl).0 t h

still_so : (v : ℕ) (mode : Mode) (f g : Face) (slot : ℕ) (o : Option (List ℕ)) → (Holds v mode f slot o → Holds v mode g slot o) → still_holds v mode f g slot o ≡ true
still_so v mode f g slot None h = refl
still_so v mode f g slot (Some p) h = (still_is v mode mode f g slot p (holds v mode f slot p) (holds v mode g slot p) (not (holds v mode f slot p) || holds v mode g slot p) refl refl refl).1 h

pub premise : (d : Lying) (g : Face) → keeps_premise d g ≡ true → KeepsPremise d.version (mode_in d.face) d.face g d.held
unfolding keeps_premise
premise d g t =
    let p : ℕ → Bool = λ slot. still_holds d.version (mode_in d.face) d.face g slot (held_at d.held slot) in
    let parts = and_parts (same_value (opened (good_copies d.face)) (opened (good_copies g))) (list_all p (range_with_len 0 64)) t in
    record {
      opens = same_opens d.face g (sym (same_value_is (opened (good_copies d.face)) (opened (good_copies g)) parts.0));
      slots = λ slot l h.
          let n = length-range_with_len 0 64 in
          let at : get_or (range_with_len 0 64) slot 0 ≡ slot = (let z : 0 + slot ≡ slot = omega arith in get_or-range_with_len 0 64 slot 0 l ∙ z) in
          let one : p slot ≡ true = subst (λ (s : ℕ). p s ≡ true) at (all_pass p (range_with_len 0 64) 0 slot parts.1 (omega (arith, n, l))) in
          still d.version (mode_in d.face) d.face g slot (held_at d.held slot) one h;
    }

pub premise_so : (d : Lying) (g : Face) → IsFace d.face → IsFace g → KeepsPremise d.version (mode_in d.face) d.face g d.held → keeps_premise d g ≡ true
unfolding keeps_premise
premise_so d g w x k =
    let p : ℕ → Bool = λ slot. still_holds d.version (mode_in d.face) d.face g slot (held_at d.held slot) in
    let opens : same_value (opened (good_copies d.face)) (opened (good_copies g)) ≡ true =
    same_value_so (opened (good_copies d.face)) (opened (good_copies g)) (sym (same_opened d.face g w x k.opens)) in
    let slots : list_all p (range_with_len 0 64) ≡ true = pass_all p 0 64 (λ i l m. still_so d.version (mode_in d.face) d.face g i (held_at d.held i) (k.slots i (omega arith))) in
    rw (opens, slots) refl
