use Rattle.std.proofs.Common.{◌≡◌}
use Rattle.std.proofs.lemmas.Result.{IfOk-weaker}
use Rattle.vr_header.specs.Bodies.{IsOperation}
use Rattle.vr_draws.specs.Drawn.{drawn_operation, drawn_version}
use Rattle.vr_draws.proofs.Fitting.{operation_fits}
use Rattle.vr_draws.proofs.generator.Generator.asking.Goals as goal

pub returns-clause-fits : goal.returns-clause-fits
returns-clause-fits c =
    let x = c.args.self.now.number in
    IfOk-weaker c.operation.result (λ o. o ≡ (drawn_operation x).value) (IsOperation drawn_version) (λ o e. rw e (operation_fits drawn_version x)) c.operation.ensures.value
