use Rattle.std.proofs.Common.{◌≡◌, map}
use Rattle.std.specs.List.{range_with_len}
use Rattle.vr_world.specs.World.{Ticks}
use Rattle.vr_embed.specs.Groups.{Goes}
use Rattle.vr_embed.proofs.group.Group.tick.Given as goal

abbrev pub invariant-loop-index : goal.invariant-loop-index
invariant-loop-index l = record {
  goes : Goes (map Ticks (range_with_len 0 l.index)) l.initial.self l.self;
  next : l.self.link.next ≡ l.initial.self.link.next;
}
