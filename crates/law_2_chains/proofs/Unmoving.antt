-- Changes of a replica that the machine has no use for: which place of the disk is visited next, which blocks have gone bad, and that an entry
-- was found lost.
use Rattle.std.proofs.Common.{ℕ, ◌≡◌, ◌∙◌, refl, sym, subst}
use Rattle.vr_header.specs.declared.header.Header.{Header}
use Rattle.vr_header.specs.declared.part.Part.TheVariants.{Here, Lost}
use Rattle.vr_ckpt.specs.declared.name.Name.{Name}
use Rattle.vr_rules.specs.Replica.{Replica, head, part_at, with_part}
use Rattle.vr_rules.specs.Words.{lost, with_cursor, with_worn}
use Rattle.vr_rules.specs.Rules.{not_worn}
use Rattle.vr_rules.specs.Sound.{IsSound}
use Rattle.vr_rules.proofs.Keeping.{sound_alike}
use Rattle.vr_rules.proofs.Storing.{kept_lost}
use Rattle.vr_world.specs.Group as group
use Rattle.law_1_machine.specs.Members.{Memory}
use Rattle.law_2_chains.specs.Reflecting.{Reflects, KeepsStored}
use Rattle.law_2_chains.proofs.Applying.{op_is, reflects_with, keeps_with, place_with}

-- q is r but for what the machine has no use for
pub record Unmoved (r q : Replica) : Type 0 where
  pub reflects : (m : Memory Header) → Reflects r m → Reflects q m
  pub keeps : (m : group.Member) → KeepsStored r m → KeepsStored q m
  pub sound : IsSound q
  pub index : q.index ≡ r.index
  pub n : q.n ≡ r.n

pub unmoved_same : (r : Replica) → IsSound r → Unmoved r r
unmoved_same r sound = record { reflects = λ m f. f; keeps = λ m k. k; sound = sound; index = refl; n = refl }

pub unmoved_more : (a b c : Replica) → Unmoved a b → Unmoved b c → Unmoved a c
unmoved_more a b c h k = record { reflects = λ m f. k.reflects m (h.reflects m f); keeps = λ m s. k.keeps m (h.keeps m s); sound = k.sound; index = k.index ∙ h.index; n = k.n ∙ h.n }

pub unmoved_cursor : (at : ℕ) (r : Replica) → IsSound r → Unmoved r (with_cursor at r)
unfolding head part_at
unmoved_cursor at r sound = record {
  reflects = λ m f. record { view = f.view; log_view = f.log_view; checkpoint = f.checkpoint; commit = f.commit; applied = f.applied; reach = f.reach; parts = f.parts; loaded = f.loaded; waits = f.waits };
  keeps = λ m k. k;
  sound = sound_alike r (with_cursor at r) refl sound;
  index = refl;
  n = refl;
}

pub unmoved_worn : (name : Name) (r : Replica) → IsSound r → Unmoved r (with_worn name r)
unfolding head part_at
unmoved_worn name r sound = record {
  reflects = λ m f. record { view = f.view; log_view = f.log_view; checkpoint = f.checkpoint; commit = f.commit; applied = f.applied; reach = f.reach; parts = f.parts; loaded = f.loaded; waits = f.waits };
  keeps = λ m k. k;
  sound = sound_alike r (with_worn name r) refl sound;
  index = refl;
  n = refl;
}

pub unmoved_not_worn : (name : Name) (r : Replica) → IsSound r → Unmoved r (not_worn name r)
unfolding head part_at
unmoved_not_worn name r sound = record {
  reflects = λ m f. record { view = f.view; log_view = f.log_view; checkpoint = f.checkpoint; commit = f.commit; applied = f.applied; reach = f.reach; parts = f.parts; loaded = f.loaded; waits = f.waits };
  keeps = λ m k. k;
  sound = sound_alike r (not_worn name r) refl sound;
  index = refl;
  n = refl;
}

pub unmoved_lost : (k : ℕ) (h : Header) (r : Replica) → IsSound r → part_at r k ≡ Here h → Unmoved r (lost h r)
unmoved_lost k h r sound is =
    let e = op_is k h r sound is in
    let p = place_with k h r sound is in
    let y : Unmoved r (with_part k (Lost h) r) = record {
      reflects = reflects_with k h r sound is;
      keeps = keeps_with k h r sound is;
      sound = subst (λ j. IsSound (with_part j (Lost h) r)) e (kept_lost k h r sound is).sound;
      index = p.0;
      n = p.1;
    } in
    subst (λ j. Unmoved r (with_part j (Lost h) r)) (sym e) y
