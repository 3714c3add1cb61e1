-- What the calls of the storage crates are as effects.
use Rattle.std.proofs.Common.{ℕ, ◌≡◌, refl, List, Bool, true, false, Option, Some, None, Result, Ok, Err}
use Rattle.vr_disk.specs.DiskState.{Call, Disk, Runs, RunsFrom}
use Rattle.vr_disk.specs.declared.fault.Halt.{Halt}
use Rattle.vr_disk.specs.declared.fault.Halt.TheVariants.{DiskFault, NoMemory}
use Rattle.vr_header.specs.Made.{Whole}
use Rattle.vr_rings.specs.Calls.{again_calls, new_calls, header_calls}
use Rattle.vr_ckpt.specs.Grid.{put_calls, Leaves}
use Rattle.vr_ckpt.specs.declared.name.Name.{Name}
use Rattle.vr_header.specs.declared.header.Header.{Header}
use Rattle.vr_actions.specs.Effects.{rewrites, puts}
use Rattle.vr_rules.specs.Replica.{Replica, part_at, version}
use Rattle.vr_super.specs.Calls.{write_calls}
use Rattle.vr_super.specs.Copies.{SuperValue}
use Rattle.vr_rules.specs.Words.{writes, saves, value_of, may_be_stored, checkpoints, checkpoint_of, with_checkpoint, make_checkpoint, save}
use Rattle.vr_state.specs.declared.texts.Texts.{Texts}
use Rattle.vr_state.specs.declared.state.State.{State}
use Rattle.vr_state.specs.StateTexts.{texts_of}
use Rattle.vr_ckpt.specs.declared.table.PayloadTable.{PayloadTable}
use Rattle.vr_ckpt.specs.declared.saving.SavedCheckpoint as checkpoint
use Rattle.vr_ckpt.specs.Saves.{save_calls, saved_checkpoint}
use Rattle.vr_msg.specs.declared.output.Output.{Output}
use Rattle.vr_rules.specs.Steps.{◌⨾◌, change, does}
use Rattle.vr_rules.proofs.Stepping.{performs_ok, performs_fault, performs_want, performed, performs_halted, does_by, does_reading, does_then, does_no_memory, change_by_then}
use Rattle.vr_rules.proofs.Versions.{checkpoint_stays}
use Rattle.vr_rules.specs.Does.{Does, Finds, Performs, PerformsTo, done}

-- calls that don't depend on what the disk holds
pub runs_from : (cs : List Call) (d d' : Option Disk) (ok : Bool) → Runs cs d d' ok → RunsFrom (λ f. cs) d d' ok
runs_from cs None d' ok h = h
runs_from cs (Some x) d' ok h = h

pub write_is_again : (v : ℕ) (e : Whole) (r : Replica) (d d' : Option Disk) (ok : Bool) → v ≡ version r → may_be_stored (part_at r e.header.op) ≡ true → Runs (again_calls v e) d d' ok → Performs (writes e) r d d' ok
write_is_again v e r d d' ok n i h = record { silent = refl; ran = rw (i, ← n) (runs_from (again_calls v e) d d' ok h) }

pub write_is_new : (v : ℕ) (e : Whole) (r : Replica) (d d' : Option Disk) (ok : Bool) → v ≡ version r → may_be_stored (part_at r e.header.op) ≡ false → Runs (new_calls v e) d d' ok → Performs (writes e) r d d' ok
write_is_new v e r d d' ok n i h = record { silent = refl; ran = rw (i, ← n) (runs_from (new_calls v e) d d' ok h) }

pub save_is : (r : Replica) (old v : SuperValue) (d d' : Option Disk) (ok : Bool) → RunsFrom (write_calls old v) d d' ok → old ≡ r.saved → v ≡ value_of r → Performs saves r d d' ok
save_is r old v d d' ok h i e = let k = rw (i, e) at h in record { silent = refl; ran = k }

pub rewrite_is : (h : Header) (r : Replica) (d d' : Option Disk) (ok : Bool) → Runs (header_calls h) d d' ok → Performs (rewrites h) r d d' ok
unfolding rewrites
rewrite_is h r d d' ok k = record { silent = refl; ran = runs_from (header_calls h) d d' ok k }

pub put_is : (name : Name) (block : List ℕ) (r : Replica) (d d' : Option Disk) (ok : Bool) → Runs (put_calls name.address block) d d' ok → Performs (puts name block) r d d' ok
unfolding puts
put_is name block r d d' ok k = record { silent = refl; ran = runs_from (put_calls name.address block) d d' ok k }

-- ---- a checkpoint

-- a saved one is the effect, however the save ended
pub checkpoint_left : (r : Replica) (cluster op : ℕ) (state : State) (texts : Texts) (table : PayloadTable) (d d' : Option Disk) (res : Result checkpoint.SavedCheckpoint Halt)
    → Leaves (save_calls cluster texts op table) d d' res → texts ≡ texts_of state → state ≡ r.state → cluster ≡ r.cluster → op ≡ r.applied → table ≡ r.table → PerformsTo checkpoints r d d' (done res)
checkpoint_left r cluster op state texts table d d' (Ok c) h t s i j b =
    let k : Runs (save_calls r.cluster (texts_of r.state) r.applied r.table) d d' true = rw (t, s, i, j, b) at h in
    performs_ok checkpoints r d d' (record { silent = refl; ran = runs_from (save_calls r.cluster (texts_of r.state) r.applied r.table) d d' true k })
checkpoint_left r cluster op state texts table d d' (Err DiskFault) h t s i j b =
    let k : Runs (save_calls r.cluster (texts_of r.state) r.applied r.table) d d' false = rw (t, s, i, j, b) at h in
    performs_fault checkpoints r d d' (record { silent = refl; ran = runs_from (save_calls r.cluster (texts_of r.state) r.applied r.table) d d' false k })
checkpoint_left r cluster op state texts table d d' (Err NoMemory) h t s i j b =
    let k : d' ≡ d = h in
    rw k (performs_want checkpoints r d refl)

-- before anything is written
pub checkpoint_none : (r : Replica) (d : Option Disk) → PerformsTo checkpoints r d d (Err NoMemory)
checkpoint_none r d = performs_want checkpoints r d refl

checkpoint_found : (r : Replica) (d : Option Disk) → Finds (version r) (checkpoint_of r) d d (saved_checkpoint r.cluster (texts_of r.state) r.applied r.table)
checkpoint_found r None = record { same = refl; value = tt }
checkpoint_found r (Some y) = record { same = refl; value = refl }

pub checkpoint_then : (r q r2 : Replica) (c : checkpoint.SavedCheckpoint) (d d1 d2 : Option Disk) (o o' : List Output) (res : Result (Unit {0}) Halt) → PerformsTo checkpoints r d d1 (Ok tt)
    → c ≡ saved_checkpoint r.cluster (texts_of r.state) r.applied r.table → q ≡ with_checkpoint c r → Does save q r2 d1 d2 o o' res → Does make_checkpoint r r2 d d2 o o' res
unfolding make_checkpoint
checkpoint_then r q r2 c d d1 d2 o o' res p s e h =
    let v : checkpoint.SavedCheckpoint = saved_checkpoint r.cluster (texts_of r.state) r.applied r.table in
    let i : q ≡ with_checkpoint v r = rw s at e in
    does_by _ r r2 d d2 o o' res (does_reading (checkpoint_of r) _ v r r2 d d d2 o o' res (checkpoint_found r d)
    (does_then (does checkpoints) (change (with_checkpoint v) ⨾ save) r r r2 d d1 d2 o o o' res (performed checkpoints r r d d1 o p) (change_by_then (with_checkpoint v) save r q r2 d1 d2 o o' res i (checkpoint_stays v r) h)))

pub checkpoint_stopped : (r q : Replica) (d d1 : Option Disk) (o o' : List Output) (halt : Halt) → PerformsTo checkpoints r d d1 (Err halt) → Does make_checkpoint r q d d1 o o' (Err halt)
unfolding make_checkpoint
checkpoint_stopped r q d d1 o o' halt p =
    let v : checkpoint.SavedCheckpoint = saved_checkpoint r.cluster (texts_of r.state) r.applied r.table in
    does_by _ r q d d1 o o' (Err halt) (does_reading (checkpoint_of r) _ v r q d d d1 o o' (Err halt) (checkpoint_found r d) (performs_halted checkpoints (change (with_checkpoint v) ⨾ save) r q d d1 o o' halt p))

-- the window can't move for want of memory
pub checkpoint_wanted : (r q : Replica) (d d1 : Option Disk) (o o' : List Output) → PerformsTo checkpoints r d d1 (Ok tt) → Does make_checkpoint r q d d1 o o' (Err NoMemory)
unfolding make_checkpoint
checkpoint_wanted r q d d1 o o' p =
    let v : checkpoint.SavedCheckpoint = saved_checkpoint r.cluster (texts_of r.state) r.applied r.table in
    does_by _ r q d d1 o o' (Err NoMemory) (does_reading (checkpoint_of r) _ v r q d d d1 o o' (Err NoMemory) (checkpoint_found r d)
    (does_then (does checkpoints) (change (with_checkpoint v) ⨾ save) r r q d d1 d1 o o o' (Err NoMemory) (performed checkpoints r r d d1 o p) (does_no_memory (change (with_checkpoint v) ⨾ save) r q d1 o o')))

pub ruleset checkpoint_made = (checkpoint_left, checkpoint_none)
