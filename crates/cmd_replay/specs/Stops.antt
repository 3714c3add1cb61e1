-- Why a replay stops.
use Rattle.std.specs.Prelude.{ℕ, ◌+◌, ◌≡◌, ◌++◌, ⊤, List, [], Option, Some, None, Result, Ok, Err}
use Rattle.std.specs.Io.KnownBytes.{Appends}
use Rattle.vr_base.specs.Causes.{one_more}
use Rattle.vr_edge.specs.Told.{AppendsFront}
use Rattle.vr_lines.specs.declared.line.Line.{Line}
use Rattle.cmd_replay.specs.Playing.{Played}
use Rattle.vr_group.specs.Outputs.{text_of}
use Rattle.cmd_replay.specs.declared.stop.Stop.{Stop}
use Rattle.cmd_replay.specs.declared.stop.Stop.TheVariants as stop
use Rattle.vr_base.specs.declared.status.Status.{Status}
use Rattle.vr_base.specs.declared.status.Status.TheVariants.{Refused, WriteFault, NoMemory}

-- the status for a stop
abbrev pub status_of : Stop → Status
status_of (stop.Refused k) = Refused k
status_of stop.WriteFault = WriteFault
status_of stop.NoMemory = NoMemory

-- a line after so many others is refused
abbrev pub JudgeCause : Option Line → ℕ → Stop → Type 0
JudgeCause line number (stop.Refused k) = (line ≡ None) × (k ≡ number + 1)
JudgeCause line number stop.WriteFault = ⊥
JudgeCause line number stop.NoMemory = ⊤

-- Why a replay stopped, and what it had written of what the lines come to. before and now count the sink's faults: a write that
-- fails is told, and no other stop leaves one untold. old and new are what the sink took.
abbrev pub Stopped : ℕ → ℕ → Option (List ℕ) → Option (List ℕ) → Played → Stop → Type 0
Stopped before now old new t (stop.Refused k) = (now ≡ before) × (t.refused ≡ Some k) × Appends old new (text_of t.outputs)
Stopped before now old new t stop.WriteFault = (now ≡ one_more before) × AppendsFront old new (text_of t.outputs)
Stopped before now old new t stop.NoMemory = (now ≡ before) × AppendsFront old new (text_of t.outputs)

-- Why a replay into a text stopped, and how the text grew by what the lines come to: no write is made.
abbrev pub HasStopped : List ℕ → List ℕ → Played → Stop → Type 0
HasStopped old new t (stop.Refused k) = (t.refused ≡ Some k) × (new ≡ old ++ text_of t.outputs)
HasStopped old new t stop.WriteFault = ⊥
HasStopped old new t stop.NoMemory = AppendsFront (Some old) (Some new) (text_of t.outputs)

-- what was heard, and its text, are what lines come to
abbrev pub Tells : Result (Unit {0}) Stop → List ℕ → Played → Type 0
Tells (Ok _) text t = text ≡ text_of t.outputs
Tells (Err why) text t = HasStopped [] text t why
