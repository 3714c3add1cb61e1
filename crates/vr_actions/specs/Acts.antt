-- What a word requires of its replica, and what it leaves: the replica, the disk under it and the outputs.
use Rattle.std.specs.Prelude.{ℕ, ◌+◌, ◌<◌, ◌≡◌, ◌≤◌, ◌^◌, List, OnOk, Result}
use Rattle.vr_disk.specs.DiskState.{Face}
use Rattle.vr_disk.specs.declared.disk.SectorDisk as of_disk
use Rattle.vr_volatile.specs.Ready.{IsReady}
use Rattle.vr_rules.specs.Replica.{Replica, last_view}
use Rattle.vr_rules.specs.Steps.{Word}
use Rattle.vr_msg.specs.declared.output.Output.{Output}
use Rattle.vr_disk.specs.Counts.{Caused}
use Rattle.vr_rules.specs.Does.{Does}
use Rattle.vr_disk.specs.declared.fault.Halt.{Halt}

-- It is ready, and its value can be saved so many times more.
pub record MayAct (saves : ℕ) (r : Replica) : Type 0 where
  pub ready : IsReady r
  pub room : r.saved.fields.sequence + saves < 2 ^ 64

-- It is also in a view of which messages tell.
pub record MaySend (saves : ℕ) (r : Replica) : Type 0 where
  pub ready : IsReady r
  pub view : r.view ≤ last_view
  pub room : r.saved.fields.sequence + saves < 2 ^ 64

-- The word was done on this disk, as far as the result tells: what it says is done, a fault of the disk is answered exactly where one rose,
-- and after an Ok the replica is ready for the next word.
pub record Acts {D : Type 0} (d : of_disk.Ghosts D) (w : Word Face) (r r' : Replica) (disk disk' : D) (o o' : List Output) (result : Result (Unit {0}) Halt) : Type 0 where
  pub ready : OnOk result (IsReady r')
  pub cause : Caused (d.faults disk) (d.faults disk') result
  pub step : Does w r r' (d.told disk) (d.told disk') o o' result

-- What a word that saves nothing keeps.
pub record Keeps {T E : Type 0} (r r' : Replica) (result : Result T E) : Type 0 where
  pub view : OnOk result (r'.view ≡ r.view)
  pub saved : OnOk result (r'.saved ≡ r.saved)

-- What a word keeps that saves at most so many times.
pub record Spends (saves : ℕ) (r r' : Replica) (result : Result (Unit {0}) Halt) : Type 0 where
  pub view : OnOk result (r'.view ≡ r.view)
  pub spent : OnOk result (r'.saved.fields.sequence ≤ r.saved.fields.sequence + saves)
