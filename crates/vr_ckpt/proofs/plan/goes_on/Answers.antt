use Rattle.std.proofs.Common.{◌≡◌, ◌∙◌, ◌++◌, ap, sym, true, false, List, ℕ}
use Rattle.std.specs.Prelude.{nat_eq}
use Rattle.std.specs.Cmp.Lexicographic.{pointwise}
use Rattle.std.proofs.lemmas.List.{append-nil}
use Rattle.vr_ckpt.specs.Places.{other_place}
use Rattle.vr_ckpt.specs.Saves.{PayloadBlocks, goes_to, payload_blocks}
use Rattle.vr_ckpt.specs.declared.table.Payload.{Payload}
use Rattle.vr_ckpt.proofs.Planning.{part_other, part_same}
use Rattle.vr_ckpt.proofs.plan.goes_on.Goals as goal

pub returns-then-eq-clause-payload : goal.returns-then-eq-clause-payload
returns-then-eq-clause-payload c =
    let p = c.args.old.now in
    let b = c.args.bytes.now in
    let same : pointwise nat_eq p.bytes b ≡ true = ap (λ x. pointwise nat_eq x b) (sym c.as_slice.ensures) ∙ (sym c.eq.ensures ∙ c.if-eq.true) in
    ap (λ (y : List ℕ). let x : Payload = record { name = p.name; bytes = y } in x) c.in_ok-try_clone.ensures ∙ ap (λ (x : PayloadBlocks). x.payload) (sym (part_same c.args.run c.args.i b p same))

pub returns-then-eq-clause-blocks : goal.returns-then-eq-clause-blocks
returns-then-eq-clause-blocks c =
    let p = c.args.old.now in
    let b = c.args.bytes.now in
    let same : pointwise nat_eq p.bytes b ≡ true = ap (λ x. pointwise nat_eq x b) (sym c.as_slice.ensures) ∙ (sym c.eq.ensures ∙ c.if-eq.true) in
    sym (append-nil c.args.blocks.now) ∙ ap (λ (x : PayloadBlocks). c.args.blocks.now ++ x.blocks) (sym (part_same c.args.run c.args.i b p same))

pub returns-clause-payload : goal.returns-clause-payload
returns-clause-payload c =
    let p = c.args.old.now in
    let b = c.args.bytes.now in
    let other : pointwise nat_eq p.bytes b ≡ false = ap (λ x. pointwise nat_eq x b) (sym c.as_slice.ensures) ∙ (sym c.eq.ensures ∙ c.if-eq.false) in
    let e : goes_to c.args.run c.other_place-address.result b ≡ payload_blocks c.args.run c.args.i b _ = ap (λ a. goes_to c.args.run a b) (c.other_place-address.ensures.value ∙ ap (λ l. other_place l p.name.address) c.of-low.ensures.value) ∙ sym (part_other c.args.run c.args.i b p other) in
    rw (← e) c.goes_to.ensures.payload

pub returns-clause-blocks : goal.returns-clause-blocks
returns-clause-blocks c =
    let p = c.args.old.now in
    let b = c.args.bytes.now in
    let other : pointwise nat_eq p.bytes b ≡ false = ap (λ x. pointwise nat_eq x b) (sym c.as_slice.ensures) ∙ (sym c.eq.ensures ∙ c.if-eq.false) in
    let e : goes_to c.args.run c.other_place-address.result b ≡ payload_blocks c.args.run c.args.i b _ = ap (λ a. goes_to c.args.run a b) (c.other_place-address.ensures.value ∙ ap (λ l. other_place l p.name.address) c.of-low.ensures.value) ∙ sym (part_other c.args.run c.args.i b p other) in
    rw (← e) c.goes_to.ensures.blocks
