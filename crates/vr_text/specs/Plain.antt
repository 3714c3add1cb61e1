-- What every output's line is made of.
use Rattle.std.specs.Prelude.{ℕ, Bool, nat_le, ◌&&◌, List, IsTrue, ⊤}
use Rattle.std.specs.List.{list_all}
use Rattle.vr_header.specs.Bodies.{IsOperation, IsOutcome}
use Rattle.vr_msg.specs.declared.output.Output.{Output}
use Rattle.vr_msg.specs.declared.output.Output.TheVariants as output
use Rattle.vr_msg.specs.declared.reply.ReplyKind.{ReplyKind}
use Rattle.vr_msg.specs.declared.reply.ReplyKind.TheVariants as reply

-- a space, or a byte from 33 to 126: no line ends at it
abbrev pub is_plain : ℕ → Bool
is_plain byte = nat_le 32 byte && nat_le byte 126

abbrev pub IsPlain : List ℕ → Type 0
IsPlain bytes = IsTrue (list_all is_plain bytes)

-- what the types keep, of whichever version: the texts of keys and values are printable, and no longer than version 2 has them
abbrev pub HasText : ReplyKind → Type 0
HasText (reply.Outcome a) = IsOutcome 2 a.outcome
HasText reply.Old = ⊤
HasText reply.Gap = ⊤
HasText reply.Evicted = ⊤
HasText reply.Busy = ⊤
HasText reply.Redirect = ⊤

abbrev pub HasTexts : Output → Type 0
HasTexts (output.Send s) = ⊤
HasTexts (output.Commit c) = IsOperation 2 c.entry.operation
HasTexts (output.Reply r) = HasText r.kind
HasTexts (output.Choose c) = ⊤
HasTexts (output.Wait w) = ⊤
HasTexts (output.Start s) = ⊤
HasTexts (output.Halted replica) = ⊤
HasTexts (output.Migrated replica) = ⊤
HasTexts output.Done = ⊤
HasTexts output.KeptOut = ⊤
