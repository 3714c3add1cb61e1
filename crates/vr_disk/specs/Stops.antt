-- What calls leave where one of them fails or is cut short.
use Rattle.std.specs.Prelude.{ℕ, zero, suc, ◌-◌, ◌<◌, ◌≤◌, ◌≡◌, ◌≢◌, ◌⊎◌, true, false, List, [], ◌∷◌, ◌++◌, length, take, Option, None, Some, IfSome}
use Rattle.std.specs.List.{AllByRecursion}
use Rattle.vr_disk.specs.Regions.{sectors}
use Rattle.vr_disk.specs.DiskState.{Call, Write, Sync, Face, IsContent, IsFace, Disk, Fuse, Attaches, after, after_all, cut, cut_at, cell, damaged, reads, waits, runs}

-- the calls before one of them went well, and that one failed or was cut
pub record Stops (cs : List Call) (f g : Face) : Type 0 where
  pub calls : ℕ
  pub within : calls < length cs
  pub left : (g ≡ after_all f (take calls cs)) ⊎ ((code : ℕ) × (g ≡ cut calls code f cs))

-- calls that stop after so many of them: cut by a code at the next one, or (None) before it
abbrev pub left_at : Option ℕ → Face → Call → Face
left_at None f c = f
left_at (Some code) f c = cut_at code f c

unfoldable pub halted : Option ℕ → ℕ → Face → List Call → Face
halted h j f [] = f
halted h zero f (c ∷ cs) = left_at h f c
halted h (suc j) f (c ∷ cs) = halted h j (after f c) cs

-- calls that end well leave what they leave one after another
abbrev pub RunsLeaveAfter : Type 0
RunsLeaveAfter = (cs : List Call) (d : Disk) → (runs cs d).ok ≡ true → (runs cs d).disk.face ≡ after_all d.face cs

-- calls that stop leave what those before the last one leave, or a cut at that one
abbrev pub StopsLeaveFront : Type 0
StopsLeaveFront = (cs : List Call) (d : Disk) → (runs cs d).ok ≡ false → Stops cs d.face (runs cs d).disk.face

-- where the fuse goes off during the calls, it leaves exactly the cut at its call
pub record GoesOff (cs : List Call) (d : Disk) (fuse : Fuse) : Type 0 where
  pub within : fuse.calls < length cs
  pub stopped : (runs cs d).ok ≡ false
  pub left : (runs cs d).disk.face ≡ cut fuse.calls fuse.code d.face cs

abbrev pub FuseLeavesCut : Type 0
FuseLeavesCut =
    (cs : List Call) (d : Disk) → d.fate.dead ≡ false → (runs cs d).disk.fate.dead ≡ true
    → (fuse : Fuse) × (d.fate.fuse ≡ Some fuse) × GoesOff cs d fuse

-- an armed fuse goes off at its call where no call is to fail, and where the calls are fewer all of them go well
abbrev pub ArmedFuseGoesOff : Type 0
ArmedFuseGoesOff =
    (cs : List Call) (d : Disk) (fuse : Fuse) → d.fate.dead ≡ false → d.fate.failing ≡ [] → d.fate.fuse ≡ Some fuse
    → (fuse.calls < length cs → ((runs cs d).disk.fate.dead ≡ true) × GoesOff cs d fuse) × (length cs ≤ fuse.calls → (runs cs d).ok ≡ true)

-- the call doesn't write the sector
abbrev pub Spares : ℕ → Call → Type 0
Spares i (Write k bytes) = k ≢ i
Spares i Sync = Unit {0}

-- a sector that no call writes stays as it is, in every cut too
abbrev pub SparedStays : Type 0
SparedStays =
    (cs : List Call) (f : Face) (i : ℕ) → AllByRecursion (Spares i) cs → waits i f.waiting ≡ false
    → (cell (after_all f cs) i ≡ cell f i) × ((j code : ℕ) → cell (cut j code f cs) i ≡ cell f i)

-- what a sector reads as after a cut: as before, or what was written to it, or that damaged
abbrev pub IsLeft : Option (List ℕ) → List ℕ → Option (List ℕ) → Type 0
IsLeft was bytes now = (now ≡ was) ⊎ ((now ≡ Some bytes) ⊎ (now ≡ Some (damaged bytes)))

-- nothing else is written to the sector
abbrev pub WritesOnly : ℕ → List ℕ → Call → Type 0
WritesOnly i bytes (Write k other) = k ≡ i → other ≡ bytes
WritesOnly i bytes Sync = Unit {0}

abbrev pub CutLeaves : Type 0
CutLeaves =
    (cs : List Call) (f : Face) (i : ℕ) (bytes : List ℕ) (j code : ℕ) → i < length f.cells → AllByRecursion (WritesOnly i bytes) cs → waits i f.waiting ≡ false
    → IsLeft (reads f i) bytes (reads (cut j code f cs) i)

-- a cut of calls and then others is a cut of the first, or of the others after the first
pub record Cuts (cs ds : List Call) (f : Face) (j code : ℕ) : Type 0 where
  pub first : j < length cs → cut j code f (cs ++ ds) ≡ cut j code f cs
  pub later : length cs ≤ j → cut j code f (cs ++ ds) ≡ cut (j - length cs) code (after_all f cs) ds

abbrev pub CutsOfBoth : Type 0
CutsOfBoth = (cs ds : List Call) (f : Face) (j code : ℕ) → Cuts cs ds f j code

-- sectors stay sectors: calls with contents of a sector's size, on sectors that are there
abbrev pub IsCall : Call → Type 0
IsCall (Write i bytes) = (i < sectors) × IsContent bytes
IsCall Sync = Unit {0}

abbrev pub FacesStay : Type 0
FacesStay =
    (cs : List Call) (f : Face) → IsFace f → AllByRecursion IsCall cs
    → IsFace (after_all f cs) × ((j code : ℕ) → IsFace (cut j code f cs))

-- after a stop nothing waits
abbrev pub NothingWaits : Type 0
NothingWaits = (cs : List Call) (f : Face) (j code : ℕ) → j < length cs → (cut j code f cs).waiting ≡ []

-- attaching is a barrier
abbrev pub AttachingIsBarrier : Type 0
AttachingIsBarrier = (name : List ℕ) (d : Disk) (new : Option Disk) → Attaches name (Some d) new true → IfSome new (λ e. e.face.waiting ≡ [])

-- an attach that goes well leaves its name, and what is called then leaves it
abbrev pub NameStays : Type 0
NameStays =
    (name : List ℕ) (d : Disk) (new : Option Disk) (cs : List Call) → Attaches name (Some d) new true
    → IfSome new (λ e. (e.beside.name ≡ Some name) × ((runs cs e).disk.beside.name ≡ Some name))
