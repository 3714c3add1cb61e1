-- What a client reads and writes.
use Rattle.std.specs.Prelude.{ℕ, ◌+◌, List, ◌++◌, if◌then◌else◌, Option, Some, None, option_and_then, codes}
use Rattle.cmd_client.specs.declared.lines.TheConstants.{PUT_KEY}
use Rattle.vr_base.specs.Versions.{value_limit}
use Rattle.vr_client.specs.declared.answer.Answer.{Answer}
use Rattle.vr_client.specs.declared.answer.Answer.TheVariants.{Outcome, Old, Gap, Evicted}
use Rattle.vr_header.specs.declared.operation.Operation.{Operation}
use Rattle.vr_header.specs.Made.{is_register}
use Rattle.vr_lines.specs.Operations.{operation_words}
use Rattle.vr_text.specs.Text.{outcome_text}
use Rattle.vr_lines.specs.Words.{words_of}

-- the most bytes of a line of a version: `put KEY VALUE` with a key of 64 bytes and as long a value as there is
abbrev pub longest : ℕ → ℕ
longest version = PUT_KEY + value_limit version

-- a client registers by itself
abbrev pub unless_register : Operation → Option Operation
unless_register operation = if is_register operation then None else Some operation

-- the operation of this version that a line is: `put KEY VALUE`, `get KEY` or `del KEY`
unfoldable pub operation_of : ℕ → List ℕ → Option Operation
operation_of version line = option_and_then unless_register (operation_words version (words_of line))

-- an answer, without the end of its line
abbrev pub answer_words : Answer → List ℕ
answer_words (Outcome a) = outcome_text a.outcome
answer_words Old = codes "old"
answer_words Gap = codes "gap"
answer_words Evicted = codes "evicted"

-- the line of an answer
unfoldable pub answer_text : Answer → List ℕ
answer_text answer = answer_words answer ++ codes "\n"
