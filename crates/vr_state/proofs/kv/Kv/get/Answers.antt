-- The value at the key's place, or none.
use Rattle.std.proofs.Common.{sym, ap}
use Rattle.vr_state.specs.Finite.{byte_order}
use Rattle.vr_state.specs.Kv.{Answered}
use Rattle.vr_state.specs.Places.{IsAt}
use Rattle.vr_state.proofs.KvSteps.{got, missed}
use Rattle.vr_state.proofs.kv.Kv.get.Goals as goal

pub returns-in_ok-try_clone-in-Ok : goal.returns-in_ok-try_clone-in-Ok
returns-in_ok-try_clone-in-Ok c =
    let at : IsAt byte_order c.args.key.now c.self.inside.pairs.items c.in-Ok.at = rw c.self.view_is c.in-Ok.ensures.found in
    rw (c.in_ok-try_clone-in-Ok.ensures, ← c.self.view_is)
    (sym (ap (λ (a : Answered). a.outcome) (got c.self.inside.pairs.items c.args.key.now c.in-Ok.at c.self.invariant.is_map at c.index.result.now c.index.ensures)))

pub returns-in-Err : goal.returns-in-Err
returns-in-Err c = sym (ap (λ (a : Answered). a.outcome) (missed c.args.self.now c.args.key.now c.in-Err.field-0 c.in-Err.ensures.absent))
