-- What keeps sectors sealed.
use Rattle.std.specs.Prelude.{ℕ, ◌<◌, ◌≤◌, ◌≡◌, List, ◌++◌, length}
use Rattle.std.specs.List.{AllByRecursion}
use Rattle.vr_base.specs.Bytes.{IsBytes}
use Rattle.vr_disk.specs.DiskState.{Call, Face, IsContent, after_all, cut}
use Rattle.vr_disk.specs.Stops.{IsCall}
use Rattle.vr_ckpt.specs.Places.{grid_size}
use Rattle.vr_state.specs.declared.texts.Texts.{Texts}
use Rattle.vr_ckpt.specs.Saves.{blocks_calls, changed, save_calls, sessions_run, table_of}
use Rattle.vr_ckpt.specs.declared.table.Payload.{Payload}
use Rattle.vr_ckpt.specs.declared.table.PayloadTable.{PayloadTable}
use Rattle.vr_state.specs.Kv as kv
use Rattle.vr_state.specs.Pairs.{Fits, kv_text}
use Rattle.vr_header.specs.declared.header.Header.{Header}
use Rattle.vr_header.specs.Made.{Whole}
use Rattle.vr_header.specs.declared.outcome.Outcome.TheVariants as outcome
use Rattle.vr_lie.specs.declared.fault.Fault.{Fault}
use Rattle.vr_lie.specs.Faults.{IsFault, faulted}
use Rattle.law_1_machine.specs.Basics.{In}
use Rattle.vr_super.specs.Copies.{IsGood, SuperValue, copy_bytes}
use Rattle.vr_super.specs.Calls.{write_calls}
use Rattle.vr_rings.specs.Calls.{again_calls, header_calls, new_calls}
use Rattle.vr_rings.specs.Moving.{move_calls, relocated}
use Rattle.vr_rings.specs.Slots.{IsWhole, prepare_bytes, sector_of}
use Rattle.vr_state.specs.Sessions as sess
use Rattle.vr_state.specs.Sessions.{Map}
use Rattle.vr_state.specs.SessionTexts.{sessions_text}
use Rattle.vr_state.specs.declared.session.Session.{Session}
use Rattle.law_5_seals.specs.Seals.{HasSectors, IsSealed, Puts, PutsHeadless}

-- what holds of the bytes of each sector, and of such bytes with each bit turned, lasts: after calls that write such bytes, in each
-- cut of them, and after a fault
pub record Lasts (P : List ℕ → Type 0) (f : Face) : Type 0 where
  pub done : (cs : List Call) → AllByRecursion (Puts P) cs → HasSectors P (after_all f cs)
  pub stopped : (cs : List Call) (j code : ℕ) → AllByRecursion (Puts P) cs → HasSectors P (cut j code f cs)
  pub lied : (x : Fault) → IsFault x → HasSectors P (faulted f x)

-- what is sealed lasts
abbrev pub SealsLast : Type 0
SealsLast = (cluster : ℕ) (made : List Header) (f : Face) → HasSectors (IsSealed cluster made) f → Lasts (IsSealed cluster made) f

-- an entry that was made is written in sealed sectors, in a file of either version
pub record IsSealedSlot (version cluster : ℕ) (made : List Header) (e : Whole) : Type 0 where
  pub new : AllByRecursion (Puts (IsSealed cluster made)) (new_calls version e)
  pub again : AllByRecursion (Puts (IsSealed cluster made)) (again_calls version e)
  pub header : AllByRecursion (Puts (IsSealed cluster made)) (header_calls e.header)

abbrev pub SlotsAreSealed : Type 0
SlotsAreSealed =
    (version cluster : ℕ) (made : List Header) (e : Whole) → IsWhole e → IsContent (sector_of e.header) → IsBytes (prepare_bytes e) → length (prepare_bytes e) ≡ 4096 → In e.header made → IsSealedSlot version cluster made e

-- and a value that names what was made, over another one
abbrev pub ValuesAreSealed : Type 0
ValuesAreSealed =
    (cluster : ℕ) (made : List Header) (old new : SuperValue) (f : Face) → IsGood old → IsGood new → IsBytes (copy_bytes old) → IsBytes (copy_bytes new) → AllByRecursion (λ h. In h made) old.headers
    → AllByRecursion (λ h. In h made) new.headers → AllByRecursion (Puts (IsSealed cluster made)) (write_calls old new f)

-- and the prepares of a sealed disk, at their new places
abbrev pub MovesAreSealed : Type 0
MovesAreSealed = (cluster : ℕ) (made : List Header) (f : Face) → HasSectors (IsSealed cluster made) f → AllByRecursion (Puts (IsSealed cluster made)) (move_calls (relocated f))

-- the name of a payload's block
pub record HasPlace (p : Payload) : Type 0 where
  pub size : length p.name.sum.0 ≡ 16
  pub some : 0 < p.name.address
  pub few : p.name.address < grid_size

-- The sectors of a checkpoint of a state's keys begin with no header of an entry, if those of its sessions don't.
pub record IsChecked (cluster : ℕ) (texts : Texts) (op : ℕ) (old : PayloadTable) : Type 0 where
  pub machine : kv.Map
  pub keys : texts.keys ≡ kv_text machine
  pub fits : AllByRecursion Fits machine
  -- the names in its table
  pub names : AllByRecursion HasPlace ((table_of cluster texts op old).sessions ++ (table_of cluster texts op old).keys)

abbrev pub CheckpointsAreHeadless : Type 0
CheckpointsAreHeadless =
    (cluster : ℕ) (texts : Texts) (op : ℕ) (old : PayloadTable) → IsChecked cluster texts op old → AllByRecursion IsCall (save_calls cluster texts op old)
    → AllByRecursion PutsHeadless (blocks_calls (changed (sessions_run cluster op) texts.sessions old.sessions)) → AllByRecursion PutsHeadless (save_calls cluster texts op old)

-- ---- sessions

-- a session comes of an entry: its op is from 1 on, and only the request that begins it has number 0
pub record IsOfEntry (s : ℕ × Session) : Type 0 where
  pub op : 1 ≤ s.1.op
  pub first : s.1.number ≡ 0 → s.1.outcome ≡ outcome.Session

-- Then no header of an entry with such an op begins a sector of the blocks of their text, wherever one session ends and another
-- begins. (One with a higher op could: the last session's client and op would spell its end, and a client chooses its number.)
abbrev pub SessionsAreHeadless : Type 0
SessionsAreHeadless =
    (cluster op : ℕ) (m : Map) (old : List Payload) → AllByRecursion sess.Fits m → AllByRecursion IsOfEntry m → AllByRecursion IsCall (blocks_calls (changed (sessions_run cluster op) (sessions_text m) old))
    → AllByRecursion PutsHeadless (blocks_calls (changed (sessions_run cluster op) (sessions_text m) old))
