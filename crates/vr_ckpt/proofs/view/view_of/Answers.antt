use Rattle.std.proofs.Common.{◌≡◌, ◌∙◌, arith}
use Rattle.vr_ckpt.specs.Blocks.{Content, named}
use Rattle.vr_ckpt.proofs.Readings.{standing}
use Rattle.vr_disk.proofs.Telling.{if_some}
use Rattle.vr_ckpt.proofs.view.view_of.Goals as goal

pub u64_at-requires : goal.u64_at-requires
u64_at-requires c = let s = standing c.args.name.now c.args.block.now c.args.size c.requires.content (λ i. omega (arith, c.type_inv.block i)) c.requires c.requires.named in let w = s.whole in omega arith

pub bounds-block-111 : goal.bounds-block-111
bounds-block-111 c = let s = standing c.args.name.now c.args.block.now c.args.size c.requires.content (λ i. omega (arith, c.type_inv.block i)) c.requires c.requires.named in let w = s.whole in omega arith

pub payload_of-requires : goal.payload_of-requires
payload_of-requires c = let s = standing c.args.name.now c.args.block.now c.args.size c.requires.content (λ i. omega (arith, c.type_inv.block i)) c.requires c.requires.named in let w = s.whole in let z = s.size in omega arith

pub returns-clause-op : goal.returns-clause-op
returns-clause-op c =
    if_some (λ (x : Content). c.u64_at.result ≡ x.op) (named c.args.name.now c.args.block.now)
    (λ x e. c.u64_at.ensures ∙ (standing c.args.name.now c.args.block.now c.args.size x (λ i. omega (arith, c.type_inv.block i)) c.requires e).op)

pub returns-clause-kind : goal.returns-clause-kind
returns-clause-kind c =
    if_some _ (named c.args.name.now c.args.block.now)
    (λ x e. (standing c.args.name.now c.args.block.now c.args.size x (λ i. omega (arith, c.type_inv.block i)) c.requires e).kind)

pub returns-clause-payload : goal.returns-clause-payload
returns-clause-payload c =
    if_some _ (named c.args.name.now c.args.block.now)
    (λ x e. c.payload_of.ensures ∙ (standing c.args.name.now c.args.block.now c.args.size x (λ i. omega (arith, c.type_inv.block i)) c.requires e).payload)
