-- The key at this place takes the copy of the value.
use Rattle.std.proofs.Common.{sym, ap}
use Rattle.vr_state.specs.Finite.{byte_order}
use Rattle.vr_state.specs.Kv.{Answered}
use Rattle.vr_state.specs.Places.{IsAt}
use Rattle.vr_state.proofs.KvSteps.{replaced, IsKv-replaced}
use Rattle.vr_state.proofs.kv.Kv.replace.Goals as goal

pub invariant_of-self : goal.invariant_of-self
invariant_of-self c =
    let at : IsAt byte_order c.args.key.now c.self.inside.pairs.items c.args.at = rw c.self.view_is c.requires in
    IsKv-replaced c.self.inside.pairs.items c.args.key.now c.args.at c.self.invariant at c.in_ok-copy.copy c.index_mut.result.now c.index_mut.ensures.value
    (rw (c.in_ok-copy.ensures, c.as_slice.ensures.bytes) c.as_slice.ensures.text)

pub returns-clause-outcome : goal.returns-clause-outcome
returns-clause-outcome c =
    let at : IsAt byte_order c.args.key.now c.self.inside.pairs.items c.args.at = rw c.self.view_is c.requires in
    rw (← c.self.view_is) (sym (ap (λ (a : Answered). a.outcome) (replaced c.self.inside.pairs.items c.args.key.now c.args.at c.self.invariant.is_map at c.args.value.now c.index_mut.result.now c.index_mut.ensures.value)))

pub returns-clause-machine : goal.returns-clause-machine
returns-clause-machine c =
    let at : IsAt byte_order c.args.key.now c.self.inside.pairs.items c.args.at = rw c.self.view_is c.requires in
    rw (c.in_ok-copy.ensures, c.as_slice.ensures.bytes, ← c.self.view_is)
    (sym (ap (λ (a : Answered). a.machine) (replaced c.self.inside.pairs.items c.args.key.now c.args.at c.self.invariant.is_map at c.args.value.now c.index_mut.result.now c.index_mut.ensures.value)))
