-- A disk whose value is of another version is told by what was found there.
use Rattle.std.proofs.Common.{ℕ, ◌≡◌, refl, sym, ap, List, Option, Some, None}
use Rattle.std.specs.Option.{option_and_then, option_map, option_map_or}
use Rattle.vr_disk.specs.DiskState.{Face}
use Rattle.vr_super.specs.Copies.{SuperValue, value_of, version_at}
use Rattle.vr_super.specs.Opens as superblock
use Rattle.vr_super.specs.Opens.{good_copies, found_as, found_of, opened}
use Rattle.vr_super.specs.declared.opening.Found.{Found}
use Rattle.vr_super.proofs.Best.{opened_among}
use Rattle.vr_super.proofs.Format.{versioned}
use Rattle.vr_super.proofs.Keeping.{among_good}

-- what is found has the version of the value
by_some : {X : Type 0} (p : ℕ → X) (none : X) (f : Face) (o : Option (List ℕ)) → opened (good_copies f) ≡ o
    → option_map_or (λ (x : Found). p x.version) (option_map (found_as (good_copies f)) o) none ≡ option_map_or (λ (v : SuperValue). p v.fields.version) (option_and_then value_of o) none
by_some p none f None e = refl
by_some p none f (Some b) e =
    elim (value_of b) as (λ w. value_of b ≡ w → p (version_at b) ≡ option_map_or (λ (v : SuperValue). p v.fields.version) w none) [
      | None ↦ λ w. absurd (among_good f b (opened_among b (good_copies f) e) w)
      | Some v ↦ λ w. ap p (sym (versioned b v w))
    ] refl

pub by_version : {X : Type 0} (p : ℕ → X) (none : X) (f : Face)
    → option_map_or (λ (x : Found). p x.version) (found_of (good_copies f)) none ≡ option_map_or (λ (v : SuperValue). p v.fields.version) (superblock.opens f) none
unfolding superblock.opens found_of
by_version p none f = by_some p none f (opened (good_copies f)) refl
