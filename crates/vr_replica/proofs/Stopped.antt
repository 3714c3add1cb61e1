-- What is left to say after a stop: of the disk alone.
use Rattle.std.proofs.Common.{ℕ, List, Option, Err}
use Rattle.vr_base.specs.declared.table.Config.{Config}
use Rattle.vr_disk.specs.DiskState.{Disk, Face}
use Rattle.vr_msg.specs.declared.output.Output.{Output}
use Rattle.vr_opening.specs.declared.reopen.NoValue.{NoValue}
use Rattle.vr_opening.specs.declared.reopen.NoValue.TheVariants as none
use Rattle.vr_opening.specs.declared.reopen.Refusal.{Refusal}
use Rattle.vr_opening.specs.declared.reopen.Refusal.TheVariants.{Lost, OtherMember, Halted}
use Rattle.vr_opening.specs.Recovering.{Recovered, RecoveredAny}
use Rattle.vr_rules.specs.Opening.{blank, opening}
use Rattle.vr_rules.specs.Replica.{Replica}
use Rattle.vr_rules.specs.Steps.{Word}
use Rattle.vr_disk.specs.declared.fault.Halt.{Halt}
use Rattle.vr_disk.specs.declared.fault.Halt.TheVariants.{DiskFault, NoMemory}
use Rattle.vr_rules.specs.Does.{Does}

pub halted : (w : Word Face) (r r' q : Replica) (d d' : Option Disk) (o o' p : List Output) (e : Halt) → Does w r r' d d' o o' (Err e) → Does w r q d d' o p (Err e)
halted w r r' q d d' o o' p DiskFault h = record { untold = h.untold; told = h.told; same = λ i. cc }
halted w r r' q d d' o o' p NoMemory h = record { untold = h.untold; told = h.told; same = λ i. cc }

pub cleared : (asked : Config) (d d' : Option Disk) (o o' p : List Output) (x : Refusal) → Recovered asked d d' o o' (Err x) → Recovered asked d d' o p (Err x)
cleared asked d d' o o' p (Lost verdicts) h = h
cleared asked d d' o o' p (OtherMember found) h = h
cleared asked d d' o o' p (Halted halt) h = record {
  value = h.value;
  opens = h.opens;
  step = λ e. halted (opening h.value) (blank h.value) (blank h.value) (blank h.value) d d' o o' p halt (h.step e);
  other = h.other;
}

pub cleared_any : (version : ℕ) (d d' : Option Disk) (o o' p : List Output) (x : NoValue) → RecoveredAny version d d' o o' (Err x) → RecoveredAny version d d' o p (Err x)
cleared_any version d d' o o' p (none.Lost verdicts) h = h
cleared_any version d d' o o' p none.OtherVersion h = h
cleared_any version d d' o o' p (none.Halted halt) h = record {
  value = h.value;
  opens = h.opens;
  step = halted (opening h.value) (blank h.value) (blank h.value) (blank h.value) d d' o o' p halt h.step;
}
