-- What a stop leaves of the superblock.
use Rattle.std.specs.Prelude.{ℕ, ◌≤◌, ◌<◌, ◌≡◌, ◌⊎◌, [], drop, length, take, List, Option, None, Some, Bool, true, false}
use Rattle.std.specs.Int.{w64}
use Rattle.vr_base.specs.Bytes.{IsBytes, name_of, number}
use Rattle.vr_disk.specs.DiskState.{Sync, Face, IsFace, after, after_all, cut}
use Rattle.vr_super.specs.Copies.{IsGood, SuperValue, copy_bytes, named_bytes, value_of}
use Rattle.vr_super.specs.Opens.{agreed, copy_reading, good_copies, opened, opens}
use Rattle.vr_super.specs.Calls.{mend_calls, write_calls}

-- a good copy has the bytes of its value, and no other bytes give that value
pub record OneSpelling : Type 0 where
  pub found : (b : List ℕ) (v : SuperValue) → IsBytes b → value_of b ≡ Some v → (b ≡ copy_bytes v) × IsGood v
  pub again : (v : SuperValue) → IsGood v → value_of (copy_bytes v) ≡ Some v

-- what copies open as: bytes that two good ones have, of the greatest sequence of all such; None exactly where no two agree
pub record OpensAgreed (copies : List (Option (List ℕ))) : Type 0 where
  pub agree : (b : List ℕ) → opened copies ≡ Some b → agreed copies b ≡ true
  pub greatest : (b c : List ℕ) → opened copies ≡ Some b → agreed copies c ≡ true → number w64 16 c ≤ number w64 16 b
  pub none : (b : List ℕ) → opened copies ≡ None → agreed copies b ≡ false

-- a disk opens as a value that two good copies have, and as none exactly where no two agree
pub record OpensOn (f : Face) : Type 0 where
  pub value : (v : SuperValue) → opens f ≡ Some v → (agreed (good_copies f) (copy_bytes v) ≡ true) × IsGood v
  pub none : opens f ≡ None → (b : List ℕ) → agreed (good_copies f) b ≡ false
  pub synced : opens (after f Sync) ≡ opens f

pub record OpensLaw : Type 0 where
  pub copies : (copies : List (Option (List ℕ))) → OpensAgreed copies
  pub disks : (f : Face) → IsFace f → OpensOn f

-- no chance collision: no copy has another text than the value's with the name of the value's
abbrev pub TellsApart : Face → SuperValue → Type 0
TellsApart f v =
    (copy : ℕ) (bytes : List ℕ) → copy < 4 → copy_reading f copy ≡ Some bytes → name_of (drop 16 bytes) ≡ name_of (named_bytes v) → drop 16 bytes ≡ named_bytes v

-- all four copies read as the value
abbrev pub AllRead : Face → SuperValue → Type 0
AllRead f v = (copy : ℕ) → copy < 4 → copy_reading f copy ≡ Some (copy_bytes v)

-- mending keeps the value that the disk opens as: at the end, in every cut, and where a call fails
pub record MendKeeps (v : SuperValue) (f : Face) : Type 0 where
  pub done : AllRead (after_all f (mend_calls v f)) v
  pub stopped : (j code : ℕ) → let g = cut j code f (mend_calls v f) in TellsApart g v → opens g ≡ Some v
  pub failed : (j : ℕ) → let g = after_all f (take j (mend_calls v f)) in TellsApart g v → opens g ≡ Some v

-- writing leads from the old value to the new one: at the end, in every cut, and where a call fails
pub record WriteLeads (old new : SuperValue) (f : Face) : Type 0 where
  pub done : AllRead (after_all f (write_calls old new f)) new
  pub stopped : (j code : ℕ) → let g = cut j code f (write_calls old new f) in TellsApart g old → TellsApart g new → (opens g ≡ Some old) ⊎ (opens g ≡ Some new)
  pub failed : (j : ℕ) → let g = after_all f (take j (write_calls old new f)) in TellsApart g old → TellsApart g new → (opens g ≡ Some old) ⊎ (opens g ≡ Some new)

-- the disk as a call leaves it that went well: all four copies read as the value, which opens, and no sector waits
pub record IsSaved (v : SuperValue) (f : Face) : Type 0 where
  pub copies : AllRead f v
  pub opens : opens f ≡ Some v
  pub waiting : f.waiting ≡ []

-- the disk as mending leaves it, whether it went well, failed or was cut
pub record Mended (v : SuperValue) (ok : Bool) (f : Face) : Type 0 where
  pub done : ok ≡ true → IsSaved v f
  pub kept : TellsApart f v → opens f ≡ Some v

-- the disk as writing leaves it, whether it went well, failed or was cut
pub record Written (old new : SuperValue) (ok : Bool) (f : Face) : Type 0 where
  pub done : ok ≡ true → IsSaved new f
  pub either : TellsApart f old → TellsApart f new → (opens f ≡ Some old) ⊎ (opens f ≡ Some new)

-- the calls of writing where all four copies read as the old value
abbrev pub CountLaw : Type 0
CountLaw = (old new : SuperValue) (f : Face) → AllRead f old → length (write_calls old new f) ≡ 84

abbrev pub MendLaw : Type 0
MendLaw = (v : SuperValue) (f : Face) → IsFace f → f.waiting ≡ [] → opens f ≡ Some v → MendKeeps v f

abbrev pub WriteLaw : Type 0
WriteLaw = (old new : SuperValue) (f : Face) → IsFace f → f.waiting ≡ [] → opens f ≡ Some old → IsGood new → WriteLeads old new f

-- this is the text of a value that makes a good copy: the bytes after the name
pub record IsSpelled (v : SuperValue) (text : List ℕ) : Type 0 where
  pub good : IsGood v
  pub spelled : text ≡ named_bytes v
  pub size : length text ≡ 10224
