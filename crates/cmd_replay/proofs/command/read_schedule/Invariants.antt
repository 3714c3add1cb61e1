use Rattle.std.proofs.Common.{◌≡◌}
use Rattle.cmd_replay.specs.Playing.{IsReplay}
use Rattle.cmd_replay.proofs.Whole.{Midst}
use Rattle.cmd_replay.proofs.command.read_schedule.Given as goal

abbrev pub invariant-loop : goal.invariant-loop
invariant-loop g l = record {
  midst : Midst (g.S.Source.left l.initial.source) (g.S.Source.left l.source) (g.K.Sink.taken l.initial.sink) (g.K.Sink.taken l.sink) l.replay;
  sound : IsReplay l.replay;
  read_faults : g.S.Source.faults l.source ≡ g.S.Source.faults l.initial.source;
  write_faults : g.K.Sink.faults l.sink ≡ g.K.Sink.faults l.initial.sink;
}
