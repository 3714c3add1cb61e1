use Rattle.std.proofs.Common.{◌∙◌, ◌-◌, ap, sym}
use Rattle.vr_ckpt.proofs.Contents.{behind_is, behind_not, behind_other}
use Rattle.vr_ckpt.proofs.check.payload_behind.Goals as goal
use Rattle.vr_ckpt.proofs.check.payload_behind.Goals.{else-is_block-via-then-is_block+else-has_name, else-is_block-via-else-is_block}

pub returns-then-has_name-clause-value : goal.returns-then-has_name-clause-value
returns-then-has_name-clause-value g c =
    behind_is c.args.h c.args.bytes.now c.args.name.now (c.get.result - 128) c.requires.size c.get.ensures.least c.requires.read
    (sym c.is_block.ensures.value ∙ c.if-is_block.true) (sym c.has_name.ensures ∙ c.if-has_name.true) (ap (λ n. n - 128) c.get.ensures.value)

pub returns-else-is_block-clause-value : goal.returns-else-is_block-clause-value
returns-else-is_block-clause-value g c =
    elim c.else-is_block.branch [
      | else-is_block-via-then-is_block+else-has_name w ↦ behind_other c.args.h c.args.bytes.now c.args.name.now c.requires.size c.requires.read
          (sym c.is_block.ensures.value ∙ w.if-is_block.true) (sym w.has_name.ensures ∙ w.if-has_name.false)
      | else-is_block-via-else-is_block w ↦ behind_not c.args.h c.args.bytes.now c.args.name.now c.requires.size c.requires.read (sym c.is_block.ensures.value ∙ w.if-is_block.false)
    ]
