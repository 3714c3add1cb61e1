-- What a member of a group does at an event.
use Rattle.std.specs.Prelude.{◌≤◌, [], Err, Ok}
use Rattle.vr_node.specs.declared.node.Node.{Node}
use Rattle.vr_rules.specs.Replica.{version}
use Rattle.vr_rules.specs.Rules.{react}
use Rattle.vr_serve.specs.Runs.{Doing, Halting}
use Rattle.vr_rules.specs.Does.{Does}

-- one step of the rules, whole, on a file of the replica's version, which is 1 or 2: replica, disk and outputs are those that the rules give
abbrev pub steps : Doing Node
steps node disk event outputs node' disk' =
    ((1 ≤ version node.replica.memory) × (version node.replica.memory ≤ 2)) × Does (react event) node.replica.memory node'.replica.memory disk disk' [] outputs (Ok tt)

-- one that stopped: the disk is as a front of its calls left it, and as the next one did where that failed
abbrev pub stops : Halting Node
stops node disk event why node' disk' = Does (react event) node.replica.memory node'.replica.memory disk disk' [] [] (Err why)
