use Rattle.std.proofs.Common.{◌≡◌, ◌<◌, true}
use Rattle.vr_draws.specs.Drawn.{drawn_size}
use Rattle.cmd_soak.specs.Made.{size_of}
use Rattle.cmd_soak.specs.Soaking.{IsSoaking}
use Rattle.cmd_soak.proofs.soaking.Soaking.run.Given as goal

abbrev pub invariant-loop : goal.invariant-loop
invariant-loop l = record {
  soaking : IsSoaking (size_of l.seed) (drawn_size l.seed).number l.counter l.soaking;
  live : l.soaking.group.live ≡ true;
  size : 0 < l.soaking.group.world.n;
  version : l.soaking.group.version ≡ 1;
}
