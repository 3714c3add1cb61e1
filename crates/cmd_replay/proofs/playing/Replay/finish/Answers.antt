use Rattle.cmd_replay.proofs.Streams.{last_taken}
use Rattle.cmd_replay.proofs.playing.Replay.finish.Goals as goal

pub returns-in-Line-clause-accepted : goal.returns-in-Line-clause-accepted
returns-in-Line-clause-accepted g c = rw (last_taken c.args.self.now c.next.new.self c.requires c.in-Line.ensures) c.take_last.ensures.accepted

pub returns-in-Line-clause-text : goal.returns-in-Line-clause-text
returns-in-Line-clause-text g c = rw (last_taken c.args.self.now c.next.new.self c.requires c.in-Line.ensures) c.take_last.ensures.text

pub returns-in-Line-clause-stopped : goal.returns-in-Line-clause-stopped
returns-in-Line-clause-stopped g c = rw (last_taken c.args.self.now c.next.new.self c.requires c.in-Line.ensures) c.take_last.ensures.stopped
