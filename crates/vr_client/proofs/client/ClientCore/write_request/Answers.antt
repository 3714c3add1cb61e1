use Rattle.std.proofs.Common.{◌≡◌, ◌∙◌, ap, rules}
use Rattle.vr_header.specs.declared.operation.Operation.{Operation}
use Rattle.vr_msg.specs.Spelling.{spelling}
use Rattle.vr_msg.specs.declared.frame.Frame.TheVariants as frame
use Rattle.vr_client.specs.Asking.{request_in}
use Rattle.vr_client.proofs.Naming.{long_enough, name_in_front}
use Rattle.vr_client.proofs.client.ClientCore.write_request.Goals as goal

pub sum_at-requires : goal.sum_at-requires
sum_at-requires c =
    let b : c.as_slice.result.now ≡ spelling (frame.Request (request_in c.args.self.now c.args.operation.now)) =
    c.as_slice.ensures.value ∙ (c.in_ok-spell.ensures ∙ ap (λ (o : Operation). spelling (frame.Request (request_in c.args.self.now o))) c.in_ok-try_clone.ensures) in
    long_enough (frame.Request (request_in c.args.self.now c.args.operation.now)) c.as_slice.result.now b

pub returns : goal.returns
returns c =
    let b : c.as_slice.result.now ≡ spelling (frame.Request (request_in c.args.self.now c.args.operation.now)) =
    c.as_slice.ensures.value ∙ (c.in_ok-spell.ensures ∙ ap (λ (o : Operation). spelling (frame.Request (request_in c.args.self.now o))) c.in_ok-try_clone.ensures) in
    record {
      version = search rules;
      group = search rules;
      client = search rules;
      number = search rules;
      bytes = search rules;
      name = name_in_front (frame.Request (request_in c.args.self.now c.args.operation.now)) c.as_slice.result.now c.sum_at.result b c.sum_at.ensures;
    }
