use Rattle.std.proofs.Common.{◌≡◌, ◌-◌, ◌++◌, length}
use Rattle.std.specs.List.{All}
use Rattle.vr_state.specs.StateTexts.{payloads}
use Rattle.vr_ckpt.specs.Saves.{IsPlaced, blocks_from, changed, payloads_from, payloads_of}
use Rattle.vr_ckpt.proofs.plan.plan_text.Given as goal

abbrev pub invariant-loop-i : goal.invariant-loop-i
invariant-loop-i l = record {
  kept : l.payloads ++ payloads_from l.run l.text l.old l.i (payloads (length l.text) - l.i) ≡ payloads_of l.run l.text l.old;
  writes : l.blocks ++ blocks_from l.run l.text l.old l.i (payloads (length l.text) - l.i) ≡ l.initial.blocks ++ changed l.run l.text l.old;
  placed : All IsPlaced l.initial.blocks → All IsPlaced l.blocks;
}
