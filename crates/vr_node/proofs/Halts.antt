-- What a step of the replica is to the loop, however it ended.
use Rattle.std.proofs.Common.{◌≡◌, ◌≤◌, List, [], Bool, true, Option, Result, Ok, Err, IfErr, OnErr, OnOk, subst}
use Rattle.std.specs.Prelude.{is_ok}
use Rattle.vr_disk.specs.DiskState.{Disk}
use Rattle.vr_disk.specs.declared.fault.Halt.{Halt}
use Rattle.vr_msg.specs.declared.event.Event.{Event}
use Rattle.vr_msg.specs.declared.output.Output.{Output}
use Rattle.vr_node.specs.Steps.{steps, stops}
use Rattle.vr_node.specs.declared.node.Node.{Node}
use Rattle.vr_rules.specs.Does.{Does}
use Rattle.vr_rules.specs.Replica.{version}
use Rattle.vr_rules.specs.Rules.{react}

pub went : (node node' : Node) (d d' : Option Disk) (event : Event) (out : List Output) (result : Result (Unit {0}) Halt) → (1 ≤ version node.replica.memory) × (version node.replica.memory ≤ 2)
    → Does (react event) node.replica.memory node'.replica.memory d d' [] out result → OnOk result (steps node d event out node' d')
went node node' d d' event out (Ok tt) own does = (own, does)
went node node' d d' event out (Err why) own does = tt

pub runs_on : (running : Bool) (result : Result (Unit {0}) Halt) → running ≡ is_ok result → OnOk result (running ≡ true)
runs_on running (Ok x) is = is
runs_on running (Err why) is = tt

-- one that stopped put nothing out
pub stopped : (node node' : Node) (d d' : Option Disk) (event : Event) (out : List Output) (result : Result (Unit {0}) Halt) → OnErr result (out ≡ [])
    → Does (react event) node.replica.memory node'.replica.memory d d' [] out result → IfErr result (λ why. stops node d event why node' d')
stopped node node' d d' event out (Ok x) none does = tt
stopped node node' d d' event out (Err why) none does = subst (λ x. Does (react event) node.replica.memory node'.replica.memory d d' [] x (Err why)) none does
