use Rattle.std.proofs.Common.{map}
use Rattle.std.specs.List.{range_with_len}
use Rattle.vr_world.specs.Lying.{hazards}
use Rattle.vr_world.specs.World.{fresh_host}
use Rattle.vr_embed.specs.Groups.{ShowAll}
use Rattle.vr_embed.specs.Members.{kind}
use Rattle.vr_embed.proofs.members.new_members.Given as goal

abbrev pub invariant-loop-index : goal.invariant-loop-index
invariant-loop-index l = record {
  shown : ShowAll l.members.items (map (fresh_host hazards kind 3) (range_with_len 0 l.index));
}
