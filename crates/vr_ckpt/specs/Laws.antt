-- What a checkpoint leaves of the one before, and what it loads as.
use Rattle.std.specs.Prelude.{ℕ, ◌+◌, ◌^◌, ◌<◌, ◌≤◌, ◌≡◌, ◌≢◌, true, List, [], ◌∷◌, length, take, Some}
use Rattle.std.specs.List.{AllByRecursion}
use Rattle.vr_disk.specs.DiskState.{Face, IsFace, after_all, cut}
use Rattle.vr_state.specs.StateTexts.{FitsPayloads, key_payloads, payloads, session_payloads}
use Rattle.vr_state.specs.declared.texts.Texts.{Texts}
use Rattle.vr_ckpt.specs.declared.name.Name.{Name}
use Rattle.vr_ckpt.specs.Loads.{data_at, loaded}
use Rattle.vr_ckpt.specs.Places.{IsCheckpoint, empty, is_place, keys_places, place_of, root_place, sessions_places}
use Rattle.vr_ckpt.specs.Saves.{save_calls, saved_checkpoint, written}
use Rattle.vr_ckpt.specs.declared.block.Block.{Block}
use Rattle.vr_ckpt.specs.declared.found.Load.TheVariants.{Loaded}
use Rattle.vr_ckpt.specs.declared.places.Places.{Places}
use Rattle.vr_ckpt.specs.declared.table.Payload.{Payload}
use Rattle.vr_ckpt.specs.declared.table.PayloadTable.{PayloadTable}

-- each payload, from the i-th of a text on, stands at one of its places and reads as it is kept
abbrev pub HoldsFrom : Face → Places → ℕ → List Payload → Type 0
HoldsFrom f l i [] = Unit {0}
HoldsFrom f l i (p ∷ ps) = (is_place (place_of l i) p.name.address ≡ true) × (data_at f p.name (length p.bytes) ≡ Some p.bytes) × HoldsFrom f l (i + 1) ps

-- the disk holds what a table names
pub record Holds (f : Face) (t : PayloadTable) : Type 0 where
  pub sessions : HoldsFrom f sessions_places 0 t.sessions
  pub few_sessions : length t.sessions ≤ session_payloads
  pub keys : HoldsFrom f keys_places 0 t.keys
  pub few_keys : length t.keys ≤ key_payloads

-- the table of no checkpoint is held, and so is each that is loaded
pub record TablesHeld : Type 0 where
  pub none : (f : Face) → Holds f empty
  pub each : (f : Face) (root : Name) (texts : Texts) (t : PayloadTable) → loaded f root ≡ Loaded texts t → Holds f t

-- the checkpoint before, whose root stands at the other place, loads as before: at the end, after any of the calls, and in a cut at any
pub record SaveKeeps (cluster : ℕ) (texts : Texts) (op : ℕ) (old : PayloadTable) (f : Face) : Type 0 where
  pub kept : (root : Name) (before : Texts) → root.address ≢ root_place op → loaded f root ≡ Loaded before old
      → loaded (after_all f (save_calls cluster texts op old)) root ≡ Loaded before old
  pub front : (root : Name) (before : Texts) (j : ℕ) → root.address ≢ root_place op → loaded f root ≡ Loaded before old
      → loaded (after_all f (take j (save_calls cluster texts op old))) root ≡ Loaded before old
  pub stopped : (root : Name) (before : Texts) (j code : ℕ) → root.address ≢ root_place op → loaded f root ≡ Loaded before old
      → loaded (cut j code f (save_calls cluster texts op old)) root ≡ Loaded before old

abbrev pub KeepLaw : Type 0
KeepLaw = (cluster : ℕ) (texts : Texts) (op : ℕ) (old : PayloadTable) (f : Face) → FitsPayloads texts → f.waiting ≡ [] → SaveKeeps cluster texts op old f

-- a checkpoint over one whose table is held loads as it was saved
abbrev pub SaveDone : ℕ → Texts → ℕ → PayloadTable → Face → Type 0
SaveDone cluster texts op old f = loaded (after_all f (save_calls cluster texts op old)) (saved_checkpoint cluster texts op old).root ≡ Loaded texts (saved_checkpoint cluster texts op old).table

abbrev pub DoneLaw : Type 0
DoneLaw =
    (cluster : ℕ) (texts : Texts) (op : ℕ) (old : PayloadTable) (f : Face) → cluster < 2 ^ 64 → IsCheckpoint op → FitsPayloads texts → IsFace f → Holds f old → SaveDone cluster texts op old f

-- the texts of a state that fits version 1, which have no more payloads, are written below address 128
abbrev pub FewStandBelow : Type 0
FewStandBelow =
    (cluster : ℕ) (texts : Texts) (op : ℕ) (old : PayloadTable) → payloads (length texts.sessions) ≤ sessions_places.few → payloads (length texts.keys) ≤ keys_places.few
    → AllByRecursion (λ (b : Block). b.name.address < 128) (written cluster texts op old)

-- two checkpoints one after the other have their roots at different places
abbrev pub RootsApart : Type 0
RootsApart = (op : ℕ) → IsCheckpoint op → root_place (op + 32) ≢ root_place op
