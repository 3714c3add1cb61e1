-- The key's pair is taken out, or there is none.
use Rattle.std.proofs.Common.{sym, ap}
use Rattle.vr_state.specs.Kv.{Answered}
use Rattle.vr_state.proofs.KvSteps.{deleted, not_there, IsKv-removed}
use Rattle.vr_state.proofs.kv.Kv.delete.Goals as goal

pub invariant_of-self : goal.invariant_of-self
invariant_of-self c = rw (c.remove-pair.ensures.items, c.self.view_is) (IsKv-removed c.args.self.now c.args.key.now c.in-Ok.at c.in-Ok.ensures.state c.in-Ok.ensures.found)

pub returns-in-Ok-clause-outcome : goal.returns-in-Ok-clause-outcome
returns-in-Ok-clause-outcome c = sym (ap (λ (a : Answered). a.outcome) (deleted c.args.self.now c.args.key.now c.in-Ok.at c.in-Ok.ensures.state.is_map c.in-Ok.ensures.found))

pub returns-in-Ok-clause-machine : goal.returns-in-Ok-clause-machine
returns-in-Ok-clause-machine c =
    rw (c.remove-pair.ensures.items, c.self.view_is) (sym (ap (λ (a : Answered). a.machine) (deleted c.args.self.now c.args.key.now c.in-Ok.at c.in-Ok.ensures.state.is_map c.in-Ok.ensures.found)))

pub returns-in-Err-clause-outcome : goal.returns-in-Err-clause-outcome
returns-in-Err-clause-outcome c = sym (ap (λ (a : Answered). a.outcome) (not_there c.args.self.now c.args.key.now c.in-Err.field-0 c.in-Err.ensures.absent))

pub returns-in-Err-clause-machine : goal.returns-in-Err-clause-machine
returns-in-Err-clause-machine c = sym (ap (λ (a : Answered). a.machine) (not_there c.args.self.now c.args.key.now c.in-Err.field-0 c.in-Err.ensures.absent))
