-- Sectors that begin with the header of an entry of a group, of an op that a log may come to, only where that entry was begun to be written.
use Rattle.std.specs.Prelude.{ℕ, zero, suc, ◌^◌, ◌<◌, ◌≡◌, ⊤, true, List, length, All, Some, Ok}
use Rattle.vr_disk.specs.DiskState.{Call, Write, Sync, Cell, Face, Waiting, IsContent, damaged}
use Rattle.vr_disk.specs.Regions.{sectors}
use Rattle.vr_header.specs.declared.header.Header.{Header}
use Rattle.vr_header.specs.Made.{is_entry_header}
use Rattle.vr_header.specs.Spelling.{decoded}
use Rattle.law_1_machine.specs.Basics.{In}

-- ---- what holds of the bytes of each sector

-- of what a sector should hold, what it reads as, and what it held before
pub record HasCell (P : List ℕ → Type 0) (c : Cell) : Type 0 where
  pub truth : P c.truth
  pub reads : (bytes : List ℕ) → c.reads ≡ Some bytes → P bytes
  pub before : P c.before

pub record HasWaiting (P : List ℕ → Type 0) (w : Waiting) : Type 0 where
  pub index : w.index < sectors
  pub was : HasCell P w.was

pub record HasSectors (P : List ℕ → Type 0) (f : Face) : Type 0 where
  pub count : length f.cells ≡ sectors
  pub cells : All (HasCell P) f.cells
  pub waiting : All (HasWaiting P) f.waiting

-- and of what a call writes
abbrev pub Puts : (List ℕ → Type 0) → Call → Type 0
Puts P (Write i bytes) = (i < sectors) × P bytes
Puts P Sync = ⊤

-- ---- seals

-- The sessions of a checkpoint could spell the header of an entry where a sector begins, with an op from here on: higher in group 0,
-- whose number is spelled in zeros.
abbrev pub spelled_from : ℕ → ℕ
spelled_from zero = 2 ^ 61
spelled_from (suc cluster) = 2 ^ 48

-- the header of an entry in front of bytes, of those whose op is below that of its group
pub record Fronts (bytes : List ℕ) (h : Header) : Type 0 where
  pub reads : decoded bytes ≡ Ok h
  pub entry : is_entry_header h ≡ true
  pub low : h.op < spelled_from h.cluster

-- a sector in whose front no such header of this group stands but one of those, nor once each of its bits is turned; a header of another group may,
-- since no member of this one takes it
pub record IsSealed (cluster : ℕ) (made : List Header) (bytes : List ℕ) : Type 0 where
  pub content : IsContent bytes
  pub front : (h : Header) → Fronts bytes h → h.cluster ≡ cluster → In h made
  pub turned : (h : Header) → Fronts (damaged bytes) h → h.cluster ≡ cluster → In h made

-- no header of an entry begins these bytes, nor once each of their bits is turned
pub record IsHeadless (bytes : List ℕ) : Type 0 where
  pub front : (h : Header) → Fronts bytes h → ⊥
  pub turned : (h : Header) → Fronts (damaged bytes) h → ⊥

abbrev pub PutsHeadless : Call → Type 0
PutsHeadless (Write i bytes) = IsHeadless bytes
PutsHeadless Sync = ⊤
