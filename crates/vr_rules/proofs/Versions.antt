-- The version of a replica's file stays whatever a word makes of the replica.
use Rattle.std.proofs.Common.{◌≡◌, refl, ℕ, Option, Some, None}
use Rattle.vr_header.specs.declared.header.Header.{Header}
use Rattle.vr_header.specs.declared.part.Part.{Part}
use Rattle.vr_header.specs.Made.{Whole}
use Rattle.vr_msg.specs.declared.frame.SyncView.{SyncView}
use Rattle.vr_state.specs.declared.state.State.{State}
use Rattle.vr_state.specs.StateTexts.{state_decoded}
use Rattle.vr_ckpt.specs.declared.found.Load.{Load}
use Rattle.vr_ckpt.specs.declared.found.Load.TheVariants.{Loaded, Missing}
use Rattle.vr_ckpt.specs.declared.name.Name.{Name}
use Rattle.vr_ckpt.specs.declared.saving.SavedCheckpoint.{SavedCheckpoint}
use Rattle.vr_ckpt.specs.declared.table.PayloadTable.{PayloadTable}
use Rattle.vr_super.specs.Copies.{SuperValue}
use Rattle.vr_rules.specs.Opening.{clouded}
use Rattle.vr_rules.specs.Replica.{Replica, version, forgetting, with_part}
use Rattle.vr_rules.specs.Words.{Log, advanced, entered, jumped, loaded_state, loads, lost, stored, taken, usable, value_of, with_checkpoint, with_saved, with_state}

pub part_stays : (k : ℕ) (p : Part) (r : Replica) → version (with_part k p r) ≡ version r
unfolding with_part
part_stays k p r = refl

pub lost_stays : (h : Header) (r : Replica) → version (lost h r) ≡ version r
lost_stays h r = part_stays _ _ r

pub forgetting_stays : (r : Replica) → version (forgetting r) ≡ version r
unfolding forgetting
forgetting_stays r = refl

pub stored_stays : (e : Whole) (r : Replica) → version (stored e r) ≡ version r
unfolding forgetting with_part
stored_stays e r = refl

pub saved_stays : (r : Replica) → version (with_saved r) ≡ version r
unfolding value_of
saved_stays r = refl

pub entered_stays : (view : ℕ) (r : Replica) → version (entered view r) ≡ version r
unfolding entered
entered_stays view r = refl

pub checkpoint_stays : (c : SavedCheckpoint) (r : Replica) → version (with_checkpoint c r) ≡ version r
unfolding with_checkpoint
checkpoint_stays c r = refl

pub advanced_stays : (r : Replica) → version (advanced r) ≡ version r
unfolding advanced
advanced_stays r = refl

pub taken_stays : (l : Log) (r : Replica) → version (taken l r) ≡ version r
unfolding forgetting taken
taken_stays l r = refl

pub jumped_stays : (v : SyncView) (r : Replica) → version (jumped v r) ≡ version r
unfolding forgetting jumped
jumped_stays v r = refl

pub clouded_stays : (v : SuperValue) (r : Replica) → version (clouded v r) ≡ version r
unfolding clouded
clouded_stays v r = refl

loaded_stays : (root : Name) (table : PayloadTable) (s : Option State) (r : Replica) → version (loaded_state root table s r) ≡ version r
unfolding with_state
loaded_stays root table None r = refl
loaded_stays root table (Some s) r = refl

pub loads_stay : (root : Name) (l : Load) (r : Replica) → version (loads root l r) ≡ version r
loads_stay root (Loaded texts table) r = loaded_stays root table (usable (version r) (state_decoded texts)) r
loads_stay root (Missing names) r = refl
