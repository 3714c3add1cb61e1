-- What a replay comes to.
use Rattle.std.specs.Prelude.{ℕ, ◌+◌, ◌≡◌, ◌≤◌, ◌++◌, ◌⊎◌, length, List, Option, Some, None, IfSome}
use Rattle.std.specs.Io.KnownBytes.{Appends, Consumes, IsAtEnd}
use Rattle.vr_base.specs.Causes.{one_more}
use Rattle.vr_edge.specs.Told.{AppendsFront}
use Rattle.vr_base.specs.declared.status.Status.{Status}
use Rattle.vr_base.specs.declared.status.Status.TheVariants as status
use Rattle.vr_lines.specs.Cuts.{cut, whole_lines}
use Rattle.cmd_replay.specs.Playing.{heard, longest_line}
use Rattle.cmd_replay.specs.Schedule.{schedule_of, so_far, put_out}
use Rattle.vr_group.specs.Outputs.{text_of}

-- the number of the first line of a source that is refused
abbrev pub refused_in : List ℕ → Option ℕ
refused_in bytes = (schedule_of bytes).refused

-- the text of the outputs of the lines of a source before the first that is refused
abbrev pub text_for : List ℕ → List ℕ
text_for bytes = text_of (put_out (schedule_of bytes))

-- the same of the lines that have ended
abbrev pub text_so_far : List ℕ → List ℕ
text_so_far bytes = text_of (put_out (so_far (whole_lines bytes)))

-- the source was read to its end, no line of it is refused, and the sink grew by the text
pub record IsDone (left_old left_new taken_old taken_new : Option (List ℕ)) : Type 0 where
  pub at_end : IsAtEnd left_new
  pub accepted : IfSome left_old (λ bytes. refused_in bytes ≡ None)
  pub text : IfSome left_old (λ bytes. Appends taken_old taken_new (text_for bytes))

-- Line k is the first that is refused, and the sink grew by the text of those before it. Nothing was read after the piece in
-- which the line is refused: at its end, as soon as it is too long, or at the end of the source. With what stood of a line before
-- it, that is no more than the longest line with its end.
pub record IsRefused (k : ℕ) (left_old left_new taken_old taken_new : Option (List ℕ)) : Type 0 where
  pub read : List ℕ
  pub piece : List ℕ
  pub consumed : Consumes left_old left_new (read ++ piece)
  pub size : length ((cut read).last ++ piece) ≤ longest_line + 1
  pub accepted : (so_far (heard read)).refused ≡ None
  pub line : IfSome left_old (λ bytes. refused_in bytes ≡ Some k)
  pub text : IfSome left_old (λ bytes. Appends taken_old taken_new (text_for bytes))

-- the sink grew by the text of the whole lines among the bytes that were read, and no line of them is refused, nor is the next too long
pub record IsCutShort (left_old left_new taken_old taken_new : Option (List ℕ)) : Type 0 where
  pub read : List ℕ
  pub consumed : Consumes left_old left_new read
  pub accepted : (so_far (heard read)).refused ≡ None
  pub text : Appends taken_old taken_new (text_so_far read)

-- the sink grew by a front of the text of the whole lines among the bytes that were read, or of all lines where the source is at
-- its end
pub record IsPartial (left_old left_new taken_old taken_new : Option (List ℕ)) : Type 0 where
  pub read : List ℕ
  pub consumed : Consumes left_old left_new read
  pub text : AppendsFront taken_old taken_new (text_so_far read) ⊎ (IsAtEnd left_new × AppendsFront taken_old taken_new (text_for read))

-- how a replay ends; s and k count the faults of source and sink: a read or a write that fails is told, and no other answer leaves one
-- untold
abbrev pub Ends : (s s' k k' : ℕ) (left_old left_new taken_old taken_new : Option (List ℕ)) → Status → Type 0
Ends s s' k k' lo ln to tn status.Done = (s' ≡ s) × (k' ≡ k) × IsDone lo ln to tn
Ends s s' k k' lo ln to tn (status.Refused line) = (s' ≡ s) × (k' ≡ k) × IsRefused line lo ln to tn
Ends s s' k k' lo ln to tn status.ReadFault = (s' ≡ one_more s) × (k' ≡ k) × IsCutShort lo ln to tn
Ends s s' k k' lo ln to tn status.WriteFault = (s' ≡ s) × (k' ≡ one_more k) × IsPartial lo ln to tn
Ends s s' k k' lo ln to tn status.NoMemory = (s' ≡ s) × (k' ≡ k) × IsPartial lo ln to tn
Ends s s' k k' lo ln to tn _ = ⊥

-- the status that a source's bytes have where no fault comes
abbrev pub status_for : Option ℕ → Status
status_for None = status.Done
status_for (Some line) = status.Refused line
