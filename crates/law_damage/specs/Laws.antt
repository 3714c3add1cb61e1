-- What is the same over two disks that read alike.
use Rattle.std.specs.Prelude.{ℕ, ◌<◌, ◌≡◌, true, List, Option, Some}
use Rattle.vr_base.specs.declared.mode.Mode.{Mode}
use Rattle.vr_disk.specs.DiskState.{Face, IsFace}
use Rattle.vr_mem.specs.Lies.{lied}
use Rattle.vr_msg.specs.declared.event.Event.{Event}
use Rattle.vr_ckpt.specs.declared.name.Name.{Name}
use Rattle.vr_rings.specs.Held.{Holds, is_prepare}
use Rattle.vr_rules.specs.Opening.{opened}
use Rattle.vr_rules.specs.Replica.{Replica}
use Rattle.vr_rules.specs.Rules.{react}
use Rattle.vr_rules.specs.Sectors.{sectors_by}
use Rattle.vr_rules.specs.Steps.{Effect, Step, after_all, each}
use Rattle.law_damage.specs.Alike.{IsIn, IsRegion, ReadAlike, Region, VerifiesOnNeither}

-- ---- what a replica reads

-- all that the rules ask of a disk: by slot, by name, and of the superblock
pub record Sees (v : ℕ) (f g : Face) : Type 0 where
  pub opens : (sectors_by v).opens g ≡ (sectors_by v).opens f
  pub header : (slot : ℕ) → slot < 64 → (sectors_by v).header g slot ≡ (sectors_by v).header f slot
  pub entry : (slot : ℕ) → slot < 64 → (sectors_by v).entry g slot ≡ (sectors_by v).entry f slot
  pub blank : (slot : ℕ) → slot < 64 → (sectors_by v).is_blank g slot ≡ (sectors_by v).is_blank f slot
  pub block : (name : Name) → (sectors_by v).block g name ≡ (sectors_by v).block f name
  pub loaded : (root : Name) → (sectors_by v).loaded g root ≡ (sectors_by v).loaded f root

abbrev pub ReadingsAlike : Type 0
ReadingsAlike = (v : ℕ) (f g : Face) → ReadAlike v f g → Sees v f g

-- ---- what it does

-- the disks that a script leaves read alike
abbrev pub LeavesAlike : ℕ → Face → Face → List Effect → Type 0
LeavesAlike v f g script = ReadAlike v (after_all (sectors_by v) f script) (after_all (sectors_by v) g script)

-- one replica comes of both, with one script, which leaves disks that read alike
pub record ComesSame (v : ℕ) (f g : Face) (x y : Step) : Type 0 where
  pub step : y ≡ x
  pub left : LeavesAlike v f g x.script

abbrev pub StepsAlike : Type 0
StepsAlike =
    (v : ℕ) (f g : Face) (r : Replica) (e : Event) → IsFace f → IsFace g → ReadAlike v f g
    → ComesSame v f g (react e (sectors_by v) r f) (react e (sectors_by v) r g)

-- an opening: it opens on both or on neither
pub record OpensSame (v : ℕ) (f g : Face) : Type 0 where
  pub found : opened (sectors_by v) g ≡ opened (sectors_by v) f
  pub left : (x : Step) → opened (sectors_by v) f ≡ Some x → LeavesAlike v f g x.script

abbrev pub OpeningsAlike : Type 0
OpeningsAlike = (v : ℕ) (f g : Face) → IsFace f → IsFace g → ReadAlike v f g → OpensSame v f g

-- ---- events one after the other, with no fault and no stop between them

abbrev pub EventsAlike : Type 0
EventsAlike =
    (v : ℕ) (f g : Face) (r : Replica) (es : List Event) → IsFace f → IsFace g → ReadAlike v f g → ComesSame v f g (each react es (sectors_by v) r f) (each react es (sectors_by v) r g)

-- ---- which disks read alike

-- Sector i reads as one thing or as another, and no region that it belongs to verifies with either.
abbrev pub FitsNowhere : ℕ → Face → ℕ → Option (List ℕ) → Option (List ℕ) → Type 0
FitsNowhere v f i a b = (r : Region) → IsRegion r → IsIn v r i → VerifiesOnNeither v (lied f i a) (lied f i b) r

-- so any damage of a sector is like any other: every bit turned, other bytes, or none that can be read
abbrev pub DamageAlike : Type 0
DamageAlike = (v : ℕ) (f : Face) (i : ℕ) (a b : Option (List ℕ)) → FitsNowhere v f i a b → ReadAlike v (lied f i a) (lied f i b)

-- one after another, of as many sectors as one likes
pub record AlikeChains : Type 0 where
  pub same : (v : ℕ) (f : Face) → ReadAlike v f f
  pub turned : (v : ℕ) (f g : Face) → ReadAlike v f g → ReadAlike v g f
  pub joined : (v : ℕ) (f g h : Face) → ReadAlike v f g → ReadAlike v g h → ReadAlike v f h

-- ---- the premise of a disk that lies: of what a slot holds, it stands on both or on neither

abbrev pub PremiseAlike : Type 0
PremiseAlike =
    (v : ℕ) (mode : Mode) (f g : Face) (slot : ℕ) (held : Option (List ℕ)) → slot < 64 → ReadAlike v f g
    → ((prepare : List ℕ) → held ≡ Some prepare → is_prepare prepare ≡ true) → Holds v mode f slot held → Holds v mode g slot held
