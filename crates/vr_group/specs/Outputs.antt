-- What is put out: outputs with the numbers of their messages, and their text.
use Rattle.std.specs.Prelude.{ℕ, ◌+◌, List, [], ◌∷◌, ◌++◌, length, map}
use Rattle.std.specs.List.{flat_map}
use Rattle.vr_msg.specs.declared.output.Output.{Output}
use Rattle.vr_msg.specs.declared.output.Output.TheVariants as output
use Rattle.vr_rules.specs.Outputs.{message_of}
use Rattle.vr_text.specs.Text as texts
use Rattle.vr_group.specs.declared.outputs.Outputs.{Outputs}
use Rattle.vr_group.specs.declared.outputs.Put.{Put}
use Rattle.vr_group.specs.declared.outputs.Put.TheVariants.{Message, Other}

-- an output, with the number of the message that it is; with that of the next message, where it is another one
pub record Numbered : Type 0 where
  pub number : ℕ
  pub output : Output

abbrev pub with_number : ℕ → Output → Numbered
with_number m o = record { number = m; output = o }

-- outputs with their messages' numbers, the first of which is m
unfoldable pub numbered : ℕ → List Output → List Numbered
numbered m [] = []
numbered m (o ∷ os) = with_number m o ∷ numbered (m + length (message_of o)) os

-- outputs without numbers
abbrev pub plain : List Numbered → List Output
plain outputs = map (λ o. o.output) outputs

-- the output's line
abbrev pub line_text : Numbered → List ℕ
line_text o = texts.line_text o.number o.output

-- a line for each
unfoldable pub text_of : List Numbered → List ℕ
text_of outputs = flat_map line_text outputs

-- a message by its number, which the messages that were sent have in their order; any other output as it is
abbrev pub put_as : ℕ → Output → Put
put_as m (output.Send s) = Message m
put_as m o = Other o

abbrev pub put_of : Numbered → Put
put_of o = put_as o.number o.output

-- each output that is put out, the messages numbered from m on
abbrev pub puts_of : ℕ → List Output → List Put
puts_of m outputs = map put_of (numbered m outputs)

abbrev pub outputs_of : List Numbered → Outputs
outputs_of outputs = record { puts = map put_of outputs; text = text_of outputs }

-- outputs after others
abbrev pub with_outputs : Outputs → List Numbered → Outputs
with_outputs before outputs = record { puts = before.puts ++ map put_of outputs; text = before.text ++ text_of outputs }
