use Rattle.std.proofs.Common.{◌≡◌, ◌∙◌, ap, sym, arith}
use Rattle.vr_ckpt.specs.Places.{first_place, place_of}
use Rattle.vr_ckpt.specs.Saves.{goes_to, payload_blocks_at}
use Rattle.vr_ckpt.proofs.Planning.{part_kept, part_new, payload_short}
use Rattle.vr_ckpt.proofs.plan.plan_payload.Goals as goal

pub goes_on-requires-clause-size : goal.goes_on-requires-clause-size
goes_on-requires-clause-size c = rw c.payload_at-bytes.ensures (payload_short c.args.text.now c.args.i)

pub goes_to-requires : goal.goes_to-requires
goes_to-requires c = record { size = rw c.payload_at-bytes.ensures (payload_short c.args.text.now c.args.i); address = c.first_place-address.ensures.within }

pub returns-then-i-old-clause-payload : goal.returns-then-i-old-clause-payload
returns-then-i-old-clause-payload c =
    let i = c.args.i in
    let p = c.index-old-i.result in
    rw (part_kept c.args.run c.args.text.now c.args.old.now i p c.if-i-old.true, ← c.payload_at-bytes.ensures) (rw c.index-old-i.is at c.goes_on.ensures.payload)

pub returns-then-i-old-clause-blocks : goal.returns-then-i-old-clause-blocks
returns-then-i-old-clause-blocks c =
    let i = c.args.i in
    let p = c.index-old-i.result in
    rw (part_kept c.args.run c.args.text.now c.args.old.now i p c.if-i-old.true, ← c.payload_at-bytes.ensures) (rw c.index-old-i.is at c.goes_on.ensures.blocks)

pub returns-clause-payload : goal.returns-clause-payload
returns-clause-payload c =
    let i = c.args.i in
    let e : goes_to c.args.run c.first_place-address.result c.payload_at-bytes.result.now ≡ payload_blocks_at c.args.run c.args.text.now c.args.old.now i =
    ap (λ a. goes_to c.args.run a c.payload_at-bytes.result.now) (c.first_place-address.ensures.value ∙ ap (first_place c.args.run.op) c.of-low.ensures.value)
    ∙ (ap (goes_to c.args.run (first_place c.args.run.op (place_of c.args.run.places i))) c.payload_at-bytes.ensures ∙ sym (part_new c.args.run c.args.text.now c.args.old.now i (omega arith))) in
    rw (← e) c.goes_to.ensures.payload

pub returns-clause-blocks : goal.returns-clause-blocks
returns-clause-blocks c =
    let i = c.args.i in
    let e : goes_to c.args.run c.first_place-address.result c.payload_at-bytes.result.now ≡ payload_blocks_at c.args.run c.args.text.now c.args.old.now i =
    ap (λ a. goes_to c.args.run a c.payload_at-bytes.result.now) (c.first_place-address.ensures.value ∙ ap (first_place c.args.run.op) c.of-low.ensures.value)
    ∙ (ap (goes_to c.args.run (first_place c.args.run.op (place_of c.args.run.places i))) c.payload_at-bytes.ensures ∙ sym (part_new c.args.run c.args.text.now c.args.old.now i (omega arith))) in
    rw (← e) c.goes_to.ensures.blocks
