-- A member is made, or found again.
use Rattle.std.proofs.Common.{◌≡◌, List, [], Option, Some, None, Result, Err, refl, subst, sym}
use Rattle.vr_base.specs.declared.kind.Kind.{Kind}
use Rattle.vr_base.specs.declared.table.Config.{Config}
use Rattle.vr_disk.specs.DiskState.{Disk}
use Rattle.vr_msg.specs.declared.output.Output.{Output}
use Rattle.vr_node.specs.Opening.{Opening}
use Rattle.vr_opening.specs.Recovering.{Recovered}
use Rattle.vr_opening.specs.declared.reopen.Refusal.TheVariants as found
use Rattle.vr_replica.specs.Running.{Running}
use Rattle.vr_base.specs.declared.status.Status.{Status}
use Rattle.vr_base.specs.declared.status.Status.TheVariants as status
use Rattle.vr_disk.specs.declared.fault.Halt.TheVariants as halt
use Rattle.vr_super.specs.declared.recovering.CopyVerdict.{CopyVerdict}

-- what is put out by an opening that failed is nothing
pub found_lost : (c : Config) (d d' : Option Disk) (out : List Output) (verdicts : List CopyVerdict) → out ≡ []
    → Recovered c d d' [] out (Err (found.Lost verdicts)) → Opening None c d d' out (Err status.SuperLost)
found_lost c d d' out verdicts e r = (verdicts, r)

pub found_other : (c other : Config) (d d' : Option Disk) (out : List Output) → Recovered c d d' [] out (Err (found.OtherMember other))
    → Opening None c d d' out (Err (status.OtherMember other c))
found_other c other d d' out r = (refl, r)

pub found_halted : (c : Config) (d d' : Option Disk) (out : List Output) → out ≡ []
    → Recovered c d d' [] out (Err (found.Halted halt.DiskFault)) → Opening None c d d' out (Err status.DiskFault)
found_halted c d d' out e r = subst (λ o. Recovered c d d' [] o (Err (found.Halted halt.DiskFault))) e r

pub found_wanting : (c : Config) (d d' : Option Disk) (out : List Output) → out ≡ []
    → Recovered c d d' [] out (Err (found.Halted halt.NoMemory)) → Opening None c d d' out (Err status.NoMemory)
found_wanting c d d' out e r = subst (λ o. Recovered c d d' [] o (Err (found.Halted halt.NoMemory))) e r

-- one that is made anew puts out nothing
pub made_out : (kind : Kind) (c : Config) (d d' : Option Disk) (out : List Output) (r : Result Running Status) → out ≡ [] → Opening (Some kind) c d d' [] r → Opening (Some kind) c d d' out r
made_out kind c d d' out r e o = subst (λ x. Opening (Some kind) c d d' x r) (sym e) o
