use Rattle.std.proofs.Common.{take}
use Rattle.vr_group.specs.Group.{world_of}
use Rattle.vr_group.specs.Headline.{HaveAsked}
use Rattle.vr_group.proofs.Goings.{Going}
use Rattle.vr_group.proofs.world.happen_all.Given as goal

abbrev pub invariant-loop-line : goal.invariant-loop-line
invariant-loop-line l = record {
  going : Going l.line-index l.lines (world_of l.initial.members) (world_of l.members) l.initial.to l.to;
  asked : HaveAsked (take l.line-index l.lines);
}
