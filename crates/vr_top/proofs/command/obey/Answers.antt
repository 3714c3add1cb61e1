use Rattle.std.proofs.Common.{ap, refl, rules}
use Rattle.std.specs.Global.{Global}
use Rattle.std.specs.Prelude.{String, Vec, string_bytes}
use Rattle.vr_edge.specs.Attaching.{texts_of}
use Rattle.vr_top.proofs.Coming.{asks, by_client, by_plan, by_role, obeys, serves, tries}
use Rattle.vr_args.specs.Asked.{client_says, node_says, trial_says}
use Rattle.vr_top.proofs.command.obey.Goals as goal

pub returns-in-Node : goal.returns-in-Node
returns-in-Node g c =
    rw c.in-Node.is (obeys _ _ _ _ _ _ _ _ _ _
    (serves (node_says c.in-Node.words) _ _ _ _ c.run_node.result
    (by_role _ _ _ _ _ _ _ _ _ _ _ _ _ _ _ c.role_of.ensures.fresh c.role_of.ensures.config (ap (λ (file : String Global). string_bytes file) c.role_of.ensures.file)
    (ap (λ (peers : Vec (String Global) Global). texts_of peers.items) c.role_of.ensures.peers) c.role_of.ensures.turns c.run_node.ensures.ends)
    c.run_node.ensures.disk c.run_node.ensures.write c.run_node.ensures.links c.run_node.ensures.link refl refl) (search rules))

pub returns-in-Client : goal.returns-in-Client
returns-in-Client g c =
    rw c.in-Client.is (obeys _ _ _ _ _ _ _ _ _ _
    (asks (client_says c.in-Client.words) _ _ _ _ c.run_client.result (by_client c.in-Client.words _ _ _ _ _ c.run_client.ensures.ends)
    c.run_client.ensures.read c.run_client.ensures.write c.run_client.ensures.links c.run_client.ensures.link refl refl) (search rules))

pub returns-in-Trial : goal.returns-in-Trial
returns-in-Trial g c =
    rw c.in-Trial.is (obeys _ _ _ _ _ _ _ _ _ _
    (tries (trial_says c.in-Trial.words) _ _ _ _ c.run_trial.result (by_plan _ _ _ _ _ _ _ c.plan_of-plan.ensures.said c.run_trial.ensures.ends)
    c.run_trial.ensures.write c.run_trial.ensures.links c.run_trial.ensures.link c.run_trial.ensures.spawn refl) (search rules))
