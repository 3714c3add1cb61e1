-- What a program says of its end.
use Rattle.std.specs.Io.KnownBytes.{Appends}
use Rattle.std.specs.Prelude.{ℕ, ◌==◌, ◌≡◌, ◌⊎◌, Bool, true, false, if◌then◌else◌, List, [], ◌++◌, length, codes}
use Rattle.vr_base.specs.Causes.{Rose}
use Rattle.vr_edge.specs.Told.{AppendsFront}
use Rattle.vr_edge.specs.declared.sink.Sink as of_sink
use Rattle.vr_base.specs.Texts.{status_text}
use Rattle.vr_base.specs.declared.status.Status.{Status}
use Rattle.vr_base.specs.declared.status.Status.TheVariants.{Refused, OtherMember}

-- the text of the status as a line; one without a text has none
abbrev pub line_of : Status → List ℕ
line_of status = if length (status_text status) == 0 then [] else status_text status ++ codes "\n"

-- memory is taken for a line that names a line or members; each other one is the same each time
abbrev pub takes_memory : Status → Bool
takes_memory (Refused line) = true
takes_memory (OtherMember found asked) = true
takes_memory _ = false

-- The line of a status goes out: a front of it where a write fails. Where memory is short nothing does, of one that takes memory.
pub record Tells {E : Type 0} (e : of_sink.Ghosts E) (status : Status) (errors errors' : E) : Type 0 where
  pub front : AppendsFront (e.taken errors) (e.taken errors') (line_of status)
  pub whole : ¬ Rose (e.faults errors) (e.faults errors') → Appends (e.taken errors) (e.taken errors') (line_of status) ⊎ ((takes_memory status ≡ true) × (errors' ≡ errors))
