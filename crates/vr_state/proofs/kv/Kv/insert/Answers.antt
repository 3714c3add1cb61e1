-- A new key goes into its gap, or finds no room.
use Rattle.std.proofs.Common.{◌<◌, ◌≤◌, length, sym, ap, arith}
use Rattle.vr_state.specs.Finite.{byte_order}
use Rattle.vr_state.specs.Kv.{Answered}
use Rattle.vr_state.specs.Places.{IsGap}
use Rattle.vr_state.proofs.KvSteps.{inserted, refused, IsKv-inserted}
use Rattle.vr_state.proofs.kv.Kv.insert.Goals as goal

pub returns-then-len-ge-KEYS-clause-outcome : goal.returns-then-len-ge-KEYS-clause-outcome
returns-then-len-ge-KEYS-clause-outcome c =
    let full : 128 ≤ length c.args.self.now = rw (← c.self.view_is) (omega arith) in
    sym (ap (λ (a : Answered). a.outcome) (refused c.args.self.now c.args.key.now c.args.at c.requires c.args.value.now full))

pub returns-then-len-ge-KEYS-clause-machine : goal.returns-then-len-ge-KEYS-clause-machine
returns-then-len-ge-KEYS-clause-machine c =
    let full : 128 ≤ length c.args.self.now = rw (← c.self.view_is) (omega arith) in
    sym (ap (λ (a : Answered). a.machine) (refused c.args.self.now c.args.key.now c.args.at c.requires c.args.value.now full))

pub invariant_of-self-2 : goal.invariant_of-self-2
invariant_of-self-2 c =
    let gap : IsGap byte_order c.args.key.now c.self.inside.pairs.items c.args.at = rw c.self.view_is c.requires in
    rw (c.in_ok-insert.ensures.items, c.in_ok-pair.ensures, c.as_slice.ensures.bytes, c.as_slice-2.ensures.bytes)
    (IsKv-inserted c.self.inside.pairs.items c.args.key.now c.args.at c.self.invariant gap c.args.value.now c.as_slice.ensures.text c.as_slice-2.ensures.text (omega arith))

pub returns-clause-outcome : goal.returns-clause-outcome
returns-clause-outcome c =
    let room : length c.args.self.now < 128 = rw (← c.self.view_is) (omega arith) in
    sym (ap (λ (a : Answered). a.outcome) (inserted c.args.self.now c.args.key.now c.args.at c.requires c.args.value.now room))

pub returns-clause-machine : goal.returns-clause-machine
returns-clause-machine c =
    let room : length c.args.self.now < 128 = rw (← c.self.view_is) (omega arith) in
    rw (c.in_ok-insert.ensures.items, c.in_ok-pair.ensures, c.as_slice.ensures.bytes, c.as_slice-2.ensures.bytes, c.self.view_is)
    (sym (ap (λ (a : Answered). a.machine) (inserted c.args.self.now c.args.key.now c.args.at c.requires c.args.value.now room)))
