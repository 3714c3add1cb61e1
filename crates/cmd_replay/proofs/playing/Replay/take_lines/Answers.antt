use Rattle.cmd_replay.proofs.Streams.{hears_written}
use Rattle.cmd_replay.proofs.playing.Replay.take_lines.Goals as goal

pub returns-clause-heard : goal.returns-clause-heard
returns-clause-heard g c =
    let h = c.hear_lines-heard.ensures in
    let w = c.write_heard.ensures in
    hears_written c.hear_lines-heard.result c.write_heard.result c.args.self.now c.hear_lines-heard.new.self _ _ _ _ _ c.new-text.ensures c.as_slice.ensures w.same h.heard h.stopped w.written
