-- The letters and the lines of outputs.
use Rattle.std.proofs.Common.{◌≡◌, refl, sym, ap, ◌∙◌, List, [], ◌∷◌, ◌++◌, append_assoc}
use Rattle.vr_msg.specs.declared.output.Output.{Output}
use Rattle.vr_rules.specs.Outputs.{message_of, messages}
use Rattle.vr_embed.specs.Groups.{told_line, told_lines}

pub messages_more : (o : Output) (os : List Output) → messages (o ∷ os) ≡ message_of o ++ messages os
unfolding messages
messages_more o os = refl

pub messages_none : messages [] ≡ []
unfolding messages
messages_none = refl

pub told_more : (o : Output) (os : List Output) → told_lines (o ∷ os) ≡ told_line o ++ told_lines os
unfolding told_lines
told_more o os = refl

pub told_none : told_lines [] ≡ []
unfolding told_lines
told_none = refl

pub told_append : (a b : List Output) → told_lines (a ++ b) ≡ told_lines a ++ told_lines b
unfolding told_lines
told_append [] b = refl
told_append (o ∷ a) b = ap (λ x. told_line o ++ x) (told_append a b) ∙ sym (append_assoc (told_line o) (told_lines a) (told_lines b))
