-- What scripts put out.
use Rattle.std.proofs.Common.{◌≡◌, refl, sym, ap, ◌∙◌, List, [], ◌∷◌, ◌++◌, map, append_assoc}
use Rattle.vr_msg.specs.declared.output.Output.{Output}
use Rattle.vr_rules.specs.Steps.{Effect, Say, output_of, outputs}

pub outputs_append : (a b : List Effect) → outputs (a ++ b) ≡ outputs a ++ outputs b
unfolding outputs
outputs_append [] b = refl
outputs_append (e ∷ es) b = ap (λ x. output_of e ++ x) (outputs_append es b) ∙ sym (append_assoc (output_of e) (outputs es) (outputs b))

pub outputs_said : (os : List Output) → outputs (map Say os) ≡ os
unfolding outputs
outputs_said [] = refl
outputs_said (o ∷ os) = ap (λ x. o ∷ x) (outputs_said os)
