-- What is so of every schedule's outputs: there is one log.
use Rattle.std.specs.Prelude.{◌<◌}
use Rattle.vr_group.specs.Headline.{LinesKeepOneLog}
use Rattle.cmd_replay.specs.Schedule.{Schedule}

-- The group that the first line makes keeps one log over the lines that are played: those after it and before the first that is refused.
abbrev pub ScheduleHasOneLog : Schedule → Type 0
ScheduleHasOneLog s = 0 < s.n → LinesKeepOneLog s.kind s.n s.lines
