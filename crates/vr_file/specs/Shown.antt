-- The disk above a file is one of the disks of `vr_disk`: what it reads as, and what a stop leaves of it.
use Rattle.std.specs.Prelude.{ℕ, ◌+◌, ◌<◌, ◌≡◌, ◌==◌, ◌⊎◌, Bool, true, false, List, [], ◌∷◌, length, Option, None}
use Rattle.std.specs.Bool.{MatchBool}
use Rattle.vr_disk.specs.DiskState.{Call, Cell, Face, Sync, Waiting, Write, after, after_all, cell, reads, settle, waits}
use Rattle.vr_disk.specs.Regions.{sectors}
use Rattle.vr_disk.specs.Stops.{IsLeft}
use Rattle.vr_io_policy.specs.Files.{Leaves, Spot, sector_written, settled_as, synced}
use Rattle.vr_file.specs.Above.{Spared}
use Rattle.vr_file.specs.Calls.{Spots}

-- if a sector waits, then once, and what it was passes
abbrev pub OnceAt : ℕ → (Cell → Type 0) → List Waiting → Type 0
OnceAt i P [] = Unit {0}
OnceAt i P (w ∷ ws) = MatchBool (w.index == i) (P w.was × (waits i ws ≡ false)) (OnceAt i P ws)

-- what a stop may leave of a sector is what it was, or these bytes, or those damaged
abbrev pub MayLeave : Spot → List ℕ → Cell → Type 0
MayLeave s truth was = (left : Option (List ℕ)) → Leaves s left → IsLeft was.reads truth left

-- one sector: it reads as the disk's; and unless it is lost, a stop leaves of it what it may leave of the disk's
pub record IsShownAt (g : Face) (lost : Bool) (s : Spot) (i : ℕ) : Type 0 where
  pub now : s.now ≡ reads g i
  pub rest : lost ≡ false → waits i g.waiting ≡ false → (left : Option (List ℕ)) → Leaves s left → left ≡ reads g i
  pub wait : lost ≡ false → OnceAt i (MayLeave s (cell g i).truth) g.waiting

-- each sector; those are lost that couldn't be read, and got bytes of 255 since the last sync
pub record IsShown (g : Face) (lost : ℕ → Bool) (d : Spots) : Type 0 where
  pub size : length g.cells ≡ sectors
  pub at : (i : ℕ) → i < sectors → IsShownAt g (lost i) (d i) i

-- a sector that waits has these bytes already: it wasn't written with others since the last sync
abbrev pub IsWrittenOnce : ℕ → List ℕ → Face → Type 0
IsWrittenOnce i bytes g = waits i g.waiting ≡ true → (cell g i).truth ≡ bytes

-- a stop by this code leaves each sector so that isn't lost
pub record IsCutSo (g : Face) (lost : ℕ → Bool) (left : ℕ → Option (List ℕ)) : Type 0 where
  pub code : ℕ
  pub each : (i : ℕ) → i < sectors → lost i ≡ false → reads (settle code g) i ≡ left i

-- sectors from one on read as these
abbrev pub read_so : Spots → ℕ → List Cell → List Cell
read_so e i [] = []
read_so e i (c ∷ cs) = record { truth = c.truth; reads = (e i).now; before = c.before } ∷ read_so e (i + 1) cs

abbrev pub reading_so : Spots → Face → Face
reading_so e g = record { cells = read_so e 0 g.cells; waiting = g.waiting }

-- sectors read otherwise now, and more of them are lost: those that couldn't be read
pub record LosesMore (g : Face) (lost : ℕ → Bool) (e : Spots) : Type 0 where
  pub more : ℕ → Bool
  pub shown : IsShown (reading_so e g) more e
  pub unread : (i : ℕ) → i < sectors → more i ≡ true → (lost i ≡ true) ⊎ (reads g i ≡ None)
  pub others : (i : ℕ) → i < sectors → more i ≡ false → reads (reading_so e g) i ≡ reads g i

-- ---- lists of calls

-- a read with what it gave, a write and a sync
pub data Step : Type 0 where
  Reads : (i : ℕ) (given : Option (List ℕ)) → Step
  Does : (call : Call) → Step

-- the writes and syncs
abbrev pub calls_of : List Step → List Call
calls_of [] = []
calls_of (Reads i given ∷ ss) = calls_of ss
calls_of (Does c ∷ ss) = c ∷ calls_of ss

abbrev pub stepped : Call → Spots → Spots
stepped (Write i bytes) d = sector_written d i bytes
stepped Sync d = synced d

-- steps were taken one after the other on the disk above a file, and nothing else of it changed but as `Spared` says
abbrev pub Follows : List Step → Spots → Spots → Type 0
Follows [] d e = Spared d e
Follows (Reads i given ∷ ss) d e = (m : Spots) × Spared d m × ((m i).now ≡ given) × Follows ss m e
Follows (Does c ∷ ss) d e = (m : Spots) × Spared d m × Follows ss (stepped c m) e

-- each is of a sector that is there, and each write of one that wasn't written with other bytes since the last sync
abbrev pub AreWrittenOnce : List Step → Face → Type 0
AreWrittenOnce [] g = Unit {0}
AreWrittenOnce (Reads i given ∷ ss) g = (i < sectors) × AreWrittenOnce ss g
AreWrittenOnce (Does (Write i bytes) ∷ ss) g = (i < sectors) × IsWrittenOnce i bytes g × AreWrittenOnce ss (after g (Write i bytes))
AreWrittenOnce (Does Sync ∷ ss) g = AreWrittenOnce ss (after g Sync)

-- each read gave what the disk of the proofs reads as after the calls before it
abbrev pub GivesSo : List Step → Face → Type 0
GivesSo [] g = Unit {0}
GivesSo (Reads i given ∷ ss) g = (given ≡ reads g i) × GivesSo ss g
GivesSo (Does c ∷ ss) g = GivesSo ss (after g c)

-- each sector can be read
pub record IsWhole (d : Spots) : Type 0 where
  pub each : (i : ℕ) → (d i).now ≡ None → ⊥

pub record RunsSo (ss : List Step) (g : Face) (e : Spots) : Type 0 where
  pub shown : IsShown (after_all g (calls_of ss)) (λ i. false) e
  pub given : GivesSo ss g

pub record IsADiskOfProofs : Type 0 where
  -- above a file that was synced is a disk on which nothing waits
  pub begins : (g : Face) → length g.cells ≡ sectors → g.waiting ≡ [] → IsShown g (λ i. false) (λ i. settled_as (reads g i))
  -- a write, of a sector that wasn't written with other bytes since the last sync
  pub writes : (g : Face) (lost : ℕ → Bool) (d : Spots) (i : ℕ) (bytes : List ℕ) → i < sectors → IsWrittenOnce i bytes g → IsShown g lost d
      → IsShown (after g (Write i bytes)) lost (sector_written d i bytes)
  -- a sync, after which none is lost
  pub syncs : (g : Face) (lost : ℕ → Bool) (d : Spots) → IsShown g lost d → IsShown (after g Sync) (λ i. false) (synced d)
  -- what goes to the file changes how sectors read that couldn't be read, and nothing else
  pub loses : (g : Face) (lost : ℕ → Bool) (d e : Spots) → IsShown g lost d → Spared d e → LosesMore g lost e
  -- what a stop may leave above the file, one leaves of the disk
  pub stops : (g : Face) (lost : ℕ → Bool) (d : Spots) (left : ℕ → Option (List ℕ)) → IsShown g lost d → ((i : ℕ) → Leaves (d i) (left i)) → IsCutSo g lost left
  -- a list of reads, writes and syncs above a file of which each sector can be read does what the writes and syncs do to the disk of the proofs
  pub lists : (ss : List Step) (g : Face) (d e : Spots) → AreWrittenOnce ss g → IsWhole d → Follows ss d e → IsShown g (λ i. false) d → RunsSo ss g e
