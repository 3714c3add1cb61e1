-- A disk that lies beside a member of the group, which has its sectors forgotten.
use Rattle.std.specs.Prelude.{ℕ, suc, ◌+◌, ◌%◌, ◌-◌, if◌then◌else◌, nat_lt, take, ◌≤◌, ◌<◌, ◌≡◌, ◌⊎◌, ⊤, List, [], ◌∷◌, length, slice_index_or, true, Contains, Option, Some, None}
use Rattle.std.specs.List.{AllByRecursion}
use Rattle.vr_header.specs.declared.header.Header.{Header}
use Rattle.vr_header.specs.Made.{Whole}
use Rattle.vr_base.specs.declared.mode.Mode.{Mode}
use Rattle.vr_disk.specs.DiskState as disk
use Rattle.vr_disk.specs.DiskState.{Face, IsFace}
use Rattle.vr_disk.specs.Stops.{IsCall}
use Rattle.vr_super.specs.Copies.{SuperValue, IsGood}
use Rattle.vr_super.specs.Opens.{file_kind, opens}
use Rattle.vr_super.specs.Laws.{TellsApart}
use Rattle.vr_rings.specs.Laws.{TellsPrepare, TellsUpTo}
use Rattle.vr_rings.specs.Slots.{IsWhole, header_in, prepare_bytes, slot_of, whole_in}
use Rattle.vr_lie.specs.Faults.{held_at}
use Rattle.vr_lie.specs.Laws.{AllStand}
use Rattle.vr_rules.specs.Steps.{Effect, Write, Rewrite, Save, Mend, Checkpoint, PutBlock, Say, after_all}
use Rattle.vr_rules.specs.Sectors.{calls_by}
use Rattle.vr_rules.specs.Opening.{may_be}
use Rattle.vr_world.specs.Lying.{Lying, lying}
use Rattle.vr_world.specs.Group.{AreSound, Member, MayOpen, cut_after, kept_at, mended, once_mended, recovered}

-- ---- the relation

-- a slot holds an entry of this header, of a version that the file takes, and of a group
pub record HoldsEntry (edition cluster : ℕ) (h : Header) (held : Option (List ℕ)) : Type 0 where
  pub entry : Whole
  pub whole : IsWhole entry
  pub header : entry.header ≡ h
  pub group : h.cluster ≡ cluster
  pub version : h.version ≤ edition
  pub there : held ≡ Some (prepare_bytes entry)

-- a disk of a file of this mode, between calls that end with a sync: nothing waits, and the premise of each slot stands
pub record IsCalm (mode : Mode) (d : Lying) : Type 0 where
  pub face : IsFace d.face
  pub rests : d.face.waiting ≡ []
  pub stand : AllStand d.version mode d.face d.held

-- what the member keeps of a slot is an entry of its group that the slot holds, and that the file takes
pub record IsHeld (d : Lying) (m : Member) : Type 0 where
  pub count : length m.kept ≡ 64
  pub each : (slot : ℕ) (h : Header) → slot < 64 → slice_index_or m.kept slot None ≡ Some h → HoldsEntry d.version m.last.fields.cluster h (held_at d.held slot)

-- a member in the midst of a script, and one that runs: the superblock opens as the value that was last written or mended, which is of the file's version
pub record IsOn (d : Lying) (m : Member) : Type 0 where
  pub calm : IsCalm m.last.fields.mode d
  pub held : IsHeld d m
  pub value : opens d.face ≡ Some m.last
  pub file : d.version ≡ m.last.fields.version
  pub under : m.under ≡ None

-- one that is stopped: it opens as that value, or as the one whose write was cut, which is of the same group
pub record IsOff (d : Lying) (m : Member) (v : SuperValue) : Type 0 where
  pub calm : IsCalm v.fields.mode d
  pub held : IsHeld d m
  pub value : opens d.face ≡ Some v
  pub file : d.version ≡ v.fields.version
  pub may : MayOpen m v
  pub group : v.fields.cluster ≡ m.last.fields.cluster

-- ---- no chance collision, of the faces that an effect goes through where it is cut

-- values in play: what the superblock opens as, and what is saved
abbrev pub IsInPlay : Effect → SuperValue → Type 0
IsInPlay (Save old new) v = (v ≡ old) ⊎ (v ≡ new)
IsInPlay (Mend x) v = v ≡ x
IsInPlay _ v = ⊥

-- an entry that a slot holds has the header of the one that is written only where it is that one
abbrev pub TellsEntry : Effect → Lying → Type 0
TellsEntry (Write again e) d = (w : Whole) → IsWhole w → held_at d.held (slot_of e.header) ≡ Some (prepare_bytes w) → w.header ≡ e.header → w ≡ e
TellsEntry _ d = ⊤

-- an effect that is cut, by a code, at the call that comes after so many others
pub record Tells (e : Effect) (d : Lying) (j code : ℕ) : Type 0 where
  -- of the prepares that are whole and have the header of a held one, no other one is read: after each call up to that one, and
  -- after the cut
  pub front : (slot : ℕ) (x : Whole) → slot < 64 → IsWhole x → held_at d.held slot ≡ Some (prepare_bytes x) → TellsUpTo d.version (suc j) (calls_by d.version e d.face) d.face slot (prepare_bytes x)
  pub cut : (slot : ℕ) (x : Whole) → slot < 64 → IsWhole x → held_at d.held slot ≡ Some (prepare_bytes x) → TellsPrepare d.version (disk.cut j code d.face (calls_by d.version e d.face)) slot (prepare_bytes x)
  pub entry : TellsEntry e d
  -- no copy has another text than a value's with the name of the value's
  pub value : (v : SuperValue) → IsInPlay e v → TellsApart (disk.cut j code d.face (calls_by d.version e d.face)) v

-- a script that is cut: of the effect in which that call comes
abbrev pub TellsIn : List Effect → Lying → ℕ → ℕ → Type 0
TellsIn [] d j code = ⊤
TellsIn (e ∷ es) d j code =
    (j < length (calls_by d.version e d.face) → Tells e d j code) × (length (calls_by d.version e d.face) ≤ j → TellsIn es (lying.after d e) (j - length (calls_by d.version e d.face)) code)

-- ---- what an effect of a script is

-- entries and values have the forms of their kinds, and are of the group that the superblock has, and entries of a version that the file takes; a
-- header is written where the entry of it is read; what is saved follows what the superblock has, in a file of its kind
abbrev pub IsFit : Effect → Lying → SuperValue → Type 0
IsFit (Write again e) d v = IsWhole e × (e.header.cluster ≡ v.fields.cluster) × (e.header.version ≤ d.version)
IsFit (Rewrite h) d v = (e : Whole) × (whole_in d.version d.face (slot_of h) ≡ Some e) × (e.header ≡ h) × (e.header.cluster ≡ v.fields.cluster) × (e.header.version ≤ d.version)
IsFit (Save old new) d v = (old ≡ v) × (file_kind new.fields ≡ file_kind old.fields) × IsGood new × (new.fields.cluster ≡ old.fields.cluster)
IsFit (Mend x) d v = x ≡ v
IsFit (Checkpoint cluster texts op old) d v = ⊤
IsFit (PutBlock name block) d v = ⊤
IsFit (Say output) d v = ⊤

pub record MayCome (e : Effect) (d : Lying) (v : SuperValue) : Type 0 where
  pub fit : IsFit e d v
  pub calls : AllByRecursion IsCall (calls_by d.version e d.face)

-- ---- scripts

-- the superblock's value once an effect is carried out
abbrev pub value_after : Effect → SuperValue → SuperValue
value_after (Save old new) v = new
value_after (Mend x) v = x
value_after _ v = v

-- each effect may come, on the disk that those before it have left
abbrev pub MayGo : List Effect → Lying → SuperValue → Type 0
MayGo [] d v = ⊤
MayGo (e ∷ es) d v = MayCome e d v × MayGo es (lying.after d e) (value_after e v)

-- the effects that are begun where a script stops, on a file of a version, at the call that comes after so many others
abbrev pub begun_before : ℕ → List Effect → Face → ℕ → List Effect
begun_before v [] f j = []
begun_before v (e ∷ es) f j =
    e ∷ (if nat_lt j (length (calls_by v e f)) then [] else begun_before v es (disk.after_all f (calls_by v e f)) (j - length (calls_by v e f)))

-- a stop at a call of a script, on this face, is a stop within one of its effects
pub record IsCutAt (es : List Effect) (f : Face) (j : ℕ) (d : Lying) (m : Member) : Type 0 where
  pub effects : ℕ
  pub within : effects < length es
  pub begun : begun_before d.version es f j ≡ take (effects + 1) es
  pub value : SuperValue
  pub off : IsOff d (cut_after effects es m) value

-- ---- what an opening finds

-- what reads after the mending as a header of the window above the head of the value, or as an entry there, was made, where it fits
pub record AreMade (made : List Header) (v : SuperValue) (d : Lying) : Type 0 where
  pub header : (k : ℕ) (h : Header) → v.fields.head < k → k ≤ v.fields.checkpoint + 64 → header_in d.face (k % 64) ≡ Some h → may_be v k h ≡ true → Contains made h
  pub entry : (k : ℕ) (e : Whole) → v.fields.head < k → k ≤ v.fields.checkpoint + 64 → whole_in d.version d.face (k % 64) ≡ Some e → may_be v k e.header ≡ true → Contains made e.header

-- The script that mends and finds may go on this disk, and leaves the disk beside the member with what was found; and what was
-- found is sound.
pub record Finds (d : Lying) (m : Member) (v : SuperValue) (made : List Header) : Type 0 where
  pub go : MayGo (mended v d).script d v
  pub on : IsOn (after_all lying d (mended v d).script) (once_mended v d m)
  pub sound : AreSound v (kept_at m) made (recovered v d)
