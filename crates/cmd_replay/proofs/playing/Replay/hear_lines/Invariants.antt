use Rattle.std.proofs.Common.{◌≡◌, ◌≤◌, length, true, Some}
use Rattle.cmd_replay.specs.Schedule.{limit}
use Rattle.cmd_replay.proofs.Streams.{Taking}
use Rattle.cmd_replay.proofs.playing.Replay.hear_lines.Given as goal

abbrev pub invariant-loop-self : goal.invariant-loop-self
invariant-loop-self l = record {
  midst : Taking l.initial.self l.self (Some l.initial.to) (Some l.to);
  live : l.self.group.live ≡ true;
  few : l.self.number ≤ limit;
}

abbrev pub decreases-loop-self : goal.decreases-loop-self
decreases-loop-self l = length l.self.lines.bytes
