use Rattle.std.proofs.Common.{◌≡◌, map}
use Rattle.std.specs.List.{range_with_len}
use Rattle.vr_world.specs.Lying.{hazards}
use Rattle.vr_world.specs.World.{fresh_host}
use Rattle.vr_group.proofs.hosts.make_hosts.Given as goal

abbrev pub invariant-loop-index : goal.invariant-loop-index
invariant-loop-index l = record {
  fresh : l.hosts.items ≡ map (fresh_host hazards l.kind l.n) (range_with_len 0 l.index);
}
