-- Faults tried, and undone.
use Rattle.std.proofs.Common.{ℕ, ◌<◌, ◌≤◌, ◌≡◌, ◌≢◌, refl, sym, ap, ◌∙◌, arith, Bool, true, false, not, ◌||◌, List, length, set, length-set, Option, Some, None, get_or-set_other, get_or-set_same, inl, inr, ◌⊎◌, subst}
use Rattle.std.specs.Prelude.{IsTrue}
use Rattle.std.proofs.lemmas.Bool.{cases_eq}
use Rattle.vr_base.specs.declared.mode.Mode.{Mode}
use Rattle.vr_base.specs.declared.mode.Mode.TheVariants.{Strict}
use Rattle.std.specs.Option.{option_map_or}
use Rattle.vr_super.specs.Copies.{SuperValue}
use Rattle.vr_disk.specs.DiskState.{Disk, Face, IsFace}
use Rattle.vr_disk.specs.Regions.{sectors}
use Rattle.vr_super.specs.Opens.{good_copies, mode_in, opened, opens}
use Rattle.vr_mem.specs.Lies.{lied}
use Rattle.vr_mem.specs.Seen.{reads_of}
use Rattle.vr_lie.specs.declared.fault.Fault.{Fault}
use Rattle.vr_lie.specs.declared.fault.Fault.TheVariants.{Damage, Stale, Unread}
use Rattle.vr_lie.specs.declared.trial.Lie.{Lie}
use Rattle.vr_lie.specs.Faults.{HeldLooked, IsFault, KeepsPremise, held_at}
use Rattle.vr_rings.specs.Held.{Holds, entry_read, found, looked}
use Rattle.vr_lie.specs.Table.{IsTable, KeepsSlot, LookedAt, both, holds, shown, slot_at}
use Rattle.vr_lie.proofs.Lies.{lied_again, reads_both, undone}
use Rattle.vr_lie.proofs.Opening.{opened_same, same_opened, same_opens}
use Rattle.vr_lie.proofs.Slotted.{SameSlot, holds_is, is_holds, same_holds, same_slot, slot_within}
use Rattle.vr_lie.proofs.Tables.{untouched_looked}

abbrev with_face : Disk → Face → Disk
with_face d f = record d { face = f }

pub undone_told : (d m e g h : Disk) (a b was back : Lie) → IsFace d.face → a.at < sectors → b.at < sectors → was.at ≡ a.at → back.at ≡ b.at → shown d.face was ≡ d.face → shown d.face back ≡ d.face
    → m ≡ d → e ≡ record m { face = both m.face a b } → g ≡ e → h ≡ record g { face = both g.face back was } → h ≡ d
undone_told d m e g h a b was back w l n x y p q i j k t =
    let e' : e ≡ with_face d (both d.face a b) = j ∙ ap (λ (m : Disk). with_face m (both m.face a b)) i in
    let h' : h ≡ with_face d (both (both d.face a b) back was) = t ∙ ap (λ (g : Disk). with_face g (both g.face back was)) (k ∙ e') in
    let c = w.count in
    h' ∙ ap (with_face d) (undone d.face a b was back (omega arith) (omega arith) x y p q)

-- what a sector reads as on a disk that tells the same
pub same_seen : (d m : Disk) (w : Lie) → m ≡ d → shown m.face w ≡ m.face → shown d.face w ≡ d.face
same_seen d m w e s = subst (λ (x : Disk). shown x.face w ≡ x.face) e s

pub tried : (d m e g : Disk) (a b : Lie) → m ≡ d → e ≡ record m { face = both m.face a b } → g ≡ e → g.face ≡ both d.face a b
tried d m e g a b i j k = ap (λ (g : Disk). g.face) (k ∙ j) ∙ ap (λ (m : Disk). both m.face a b) i

-- ---- the superblock

pub alike : (f g : Face) (r : Bool) (was now : Option (List ℕ)) → IsFace f → IsFace g → opened (good_copies f) ≡ was → opened (good_copies g) ≡ now → (IsTrue r → now ≡ was) × (now ≡ was → IsTrue r)
    → (IsTrue r → opens g ≡ opens f) × (opens g ≡ opens f → IsTrue r)
alike f g r was now w x a b h = (λ t. same_opens f g (b ∙ (h.0 t ∙ sym a)), λ e. h.1 (sym b ∙ (same_opened f g w x e ∙ a)))

pub far : (f : Face) (a b : Lie) → 80 ≤ a.at → 80 ≤ b.at → opens (both f a b) ≡ opens f
far f a b l m = same_opens f (both f a b) (opened_same f (both f a b) (λ k n. reads_both f a b k (λ e. absurd (omega arith)) (λ e. absurd (omega arith))))

-- ---- the slots

pub still_is : (ver : ℕ) (m n : Mode) (f g : Face) (slot : ℕ) (p : List ℕ) (h s r : Bool) → h ≡ holds ver m f slot p → s ≡ holds ver n g slot p → r ≡ (not h || s)
    → (IsTrue r → Holds ver m f slot (Some p) → Holds ver n g slot (Some p)) × ((Holds ver m f slot (Some p) → Holds ver n g slot (Some p)) → IsTrue r)
still_is ver m n f g s p true k r x y e = (λ t h. holds_is ver n g s p (sym y ∙ (sym e ∙ t)), λ h. e ∙ (y ∙ is_holds ver n g s p (h (holds_is ver m f s p (sym x)))))
still_is ver m n f g s p false k r x y e = (λ t h. absurd (let z : false ≡ true = x ∙ is_holds ver m f s p h in cc), λ h. e)

pub slot_keeps : (ver : ℕ) (f g : Face) (at slot : ℕ) (held : List (Option (List ℕ))) (h : Option (List ℕ)) (r : Bool) → slot_at ver at ≡ Some slot → held_at held slot ≡ h
    → (IsTrue r → Holds ver (mode_in f) f slot h → Holds ver (mode_in g) g slot h) × ((Holds ver (mode_in f) f slot h → Holds ver (mode_in g) g slot h) → IsTrue r) → (IsTrue r → KeepsSlot ver f g at held) × (KeepsSlot ver f g at held → IsTrue r)
slot_keeps ver f g at slot held h r e i k = (
  λ t. record {
    each = λ s z x.
        let same : slot ≡ s = (let y : Some slot ≡ Some s = sym e ∙ z in cc) in
        let own : held_at held s ≡ h = ap (held_at held) (sym same) ∙ i in
        subst (Holds ver (mode_in g) g s) (sym own) (subst (λ s. Holds ver (mode_in g) g s h) same (k.0 t (subst (λ s. Holds ver (mode_in f) f s h) (sym same) (subst (Holds ver (mode_in f) f s) own x))));
  },
  λ z. k.1 (λ x. subst (Holds ver (mode_in g) g slot) i (z.each slot e (subst (Holds ver (mode_in f) f slot) (sym i) x))),
)

pub slot_empty : (ver : ℕ) (f g : Face) (at : ℕ) (held : List (Option (List ℕ))) → slot_at ver at ≡ None → KeepsSlot ver f g at held
slot_empty ver f g at held e = record { each = λ s z x. absurd (let y : None ≡ Some s = sym e ∙ z in cc) }

pub cases_slot : (o : Option ℕ) (slot : ℕ) → (o ≡ Some slot) ⊎ (o ≢ Some slot)
cases_slot None s = inr (λ e. absurd cc)
cases_slot (Some k) s = elim (cases_eq k s) [ inl e ↦ inl (ap Some e) | inr d ↦ inr (λ e. d cc) ]

both_same : (ver : ℕ) (f : Face) (a b : Lie) (slot : ℕ) → slot < 64 → slot_at ver a.at ≢ Some slot → slot_at ver b.at ≢ Some slot → SameSlot ver f (both f a b) slot
both_same ver f a b s l d e = same_slot ver f (both f a b) s l (λ k z. reads_both f a b k (λ x. d (sym (ap (slot_at ver) x) ∙ z)) (λ x. e (sym (ap (slot_at ver) x) ∙ z)))

-- a file that opens as before is judged as before
same_mode : (f g : Face) → opens g ≡ opens f → mode_in g ≡ mode_in f
same_mode f g e = ap (λ o. option_map_or (λ (v : SuperValue). v.fields.mode) o Strict) e

pub premise_is : (ver : ℕ) (f : Face) (a b : Lie) (held : List (Option (List ℕ))) → opens (both f a b) ≡ opens f → KeepsSlot ver f (both f a b) a.at held → KeepsSlot ver f (both f a b) b.at held → KeepsPremise ver (mode_in f) f (both f a b) held
premise_is ver f a b held o h k =
    let same = same_mode f (both f a b) o in
    record {
      opens = o;
      slots = λ s l x. elim (cases_slot (slot_at ver a.at) s) [
        | inl e ↦ subst (λ m. Holds ver m (both f a b) s (held_at held s)) same (h.each s e x)
        | inr d ↦ elim (cases_slot (slot_at ver b.at) s) [
          | inl e ↦ subst (λ m. Holds ver m (both f a b) s (held_at held s)) same (k.each s e x)
          | inr e ↦ same_holds ver f (both f a b) s (held_at held s) (both_same ver f a b s l d e) x
        ]
      ];
    }

pub premise_slot : (ver : ℕ) (f g : Face) (at : ℕ) (held : List (Option (List ℕ))) → KeepsPremise ver (mode_in f) f g held → KeepsSlot ver f g at held
premise_slot ver f g at held h = record { each = λ s e x. subst (λ m. Holds ver m g s (held_at held s)) (sym (same_mode f g h.opens)) (h.slots s (slot_within ver at s e) x) }

-- ---- the table after a fault

looked_again : (e h : Option (List ℕ)) → found e (found e h) ≡ found e h
looked_again None h = refl
looked_again (Some p) h = refl

pub lied_looked : (ver : ℕ) (f : Face) (a b : Lie) (g h : Face) (old mid new : List (Option (List ℕ))) → IsTable ver f old → g ≡ both f a b → h ≡ both f a b → LookedAt ver g a.at old mid → LookedAt ver h b.at mid new → HeldLooked ver (both f a b) old new
lied_looked ver f a b g h old mid new t x y p q = record {
  each = λ s l.
      let z = both f a b in
      let first : (slot_at ver a.at ≡ Some s → held_at mid s ≡ looked ver z s (held_at old s)) = λ e. p.own s e ∙ ap (λ g. looked ver g s (held_at old s)) x in
      elim (cases_slot (slot_at ver b.at) s) [
        | inl e ↦ q.own s e ∙ (ap (λ h. looked ver h s (held_at mid s)) y ∙ elim (cases_slot (slot_at ver a.at) s) [
          | inl k ↦ ap (looked ver z s) (first k) ∙ looked_again (entry_read ver z s) (held_at old s)
          | inr k ↦ ap (looked ver z s) (p.others s k)
        ])
        | inr e ↦ q.others s e ∙ elim (cases_slot (slot_at ver a.at) s) [
          | inl k ↦ first k
          | inr k ↦ p.others s k ∙ sym (untouched_looked ver f z old s l t (both_same ver f a b s l k e))
        ]
      ];
}

pub looked_some : (ver : ℕ) (f : Face) (at slot : ℕ) (old new : List (Option (List ℕ))) → length old ≡ 64 → slot_at ver at ≡ Some slot → slot < 64 → new ≡ set old slot (looked ver f slot (held_at old slot)) → LookedAt ver f at old new
looked_some ver f at slot old new n e l h =
    let v = looked ver f slot (held_at old slot) in
    record {
      count = ap length h ∙ (length-set old slot v ∙ n);
      own = λ s z. let same : slot ≡ s = (let y : Some slot ≡ Some s = sym e ∙ z in cc) in ap (λ x. held_at x s) h ∙ (ap (held_at (set old slot v)) (sym same) ∙ (get_or-set_same old slot v None (omega arith) ∙ ap (λ s. looked ver f s (held_at old s)) same));
      others = λ s z. ap (λ x. held_at x s) h ∙ get_or-set_other old slot s v None (λ y. z (e ∙ ap Some (sym y)));
    }

pub looked_none : (ver : ℕ) (f : Face) (at : ℕ) (old : List (Option (List ℕ))) → length old ≡ 64 → slot_at ver at ≡ None → LookedAt ver f at old old
looked_none ver f at old n e = record { count = n; own = λ s z. absurd (let y : None ≡ Some s = sym e ∙ z in cc); others = λ s z. refl }

pub same_told : (d e : Disk) → Some d ≡ Some e → d ≡ e
same_told d e h = cc

-- the value of a call on a disk that tells the same
pub opens_on : (d e : Disk) (a b : Lie) (r : Bool) → d ≡ e → (IsTrue r → opens (both d.face a b) ≡ opens d.face) × (opens (both d.face a b) ≡ opens d.face → IsTrue r) → (IsTrue r → opens (both e.face a b) ≡ opens e.face) × (opens (both e.face a b) ≡ opens e.face → IsTrue r)
opens_on d e a b r s h = subst (λ (d : Disk). (IsTrue r → opens (both d.face a b) ≡ opens d.face) × (opens (both d.face a b) ≡ opens d.face → IsTrue r)) s h

pub keeps_on : (ver : ℕ) (d e : Disk) (a b : Lie) (at : ℕ) (held : List (Option (List ℕ))) (r : Bool) → d ≡ e → (IsTrue r → KeepsSlot ver d.face (both d.face a b) at held) × (KeepsSlot ver d.face (both d.face a b) at held → IsTrue r)
    → (IsTrue r → KeepsSlot ver e.face (both e.face a b) at held) × (KeepsSlot ver e.face (both e.face a b) at held → IsTrue r)
keeps_on ver d e a b at held r s h = subst (λ (d : Disk). (IsTrue r → KeepsSlot ver d.face (both d.face a b) at held) × (KeepsSlot ver d.face (both d.face a b) at held → IsTrue r)) s h

-- a fault of one sector, told twice
pub told_twice : (f : Face) (i : ℕ) (r : Option (List ℕ)) (a b c : Lie) → i < length f.cells → c.at ≡ i → reads_of c.reads ≡ r → a ≡ c → b ≡ c → both f a b ≡ lied f i r
told_twice f i r a b c l e k x y =
    let one : both f a b ≡ both f c c = ap (λ a. both f a b) x ∙ ap (both f c) y in
    let n : both f c c ≡ lied (lied f i r) i r = ap (λ s. lied (lied f c.at s) c.at s) k ∙ ap (λ n. lied (lied f n r) n r) e in
    one ∙ (n ∙ lied_again f i r r l)

pub fault_within : (f : Face) (x : Fault) (i : ℕ) → IsFault x → IsFace f → (x ≡ Damage i) ⊎ ((x ≡ Stale i) ⊎ (x ≡ Unread i)) → i < length f.cells
fault_within f x i h w (inl e) = let l : i < sectors = subst IsFault e h in let n = w.count in omega arith
fault_within f x i h w (inr (inl e)) = let l : i < sectors = subst IsFault e h in let n = w.count in omega arith
fault_within f x i h w (inr (inr e)) = let l : i < sectors = subst IsFault e h in let n = w.count in omega arith
