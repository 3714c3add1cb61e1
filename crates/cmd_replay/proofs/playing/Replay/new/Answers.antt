use Rattle.std.proofs.Common.{refl}
use Rattle.cmd_replay.proofs.Streams.{sound_at_first}
use Rattle.cmd_replay.proofs.playing.Replay.new.Goals as goal

pub returns-clause-sound : goal.returns-clause-sound
returns-clause-sound c = sound_at_first _ c.empty.ensures.live refl c.new.ensures
