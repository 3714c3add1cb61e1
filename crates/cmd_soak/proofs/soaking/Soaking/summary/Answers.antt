use Rattle.cmd_soak.proofs.Going.{summed}
use Rattle.cmd_soak.proofs.soaking.Soaking.summary.Goals as goal

pub returns : goal.returns
returns c = λ n number i.
    rw (c.messages-messages.ensures, c.top_view-view.ensures.same, c.top_view-view.ensures.view)
    (summed n number c.args.count c.args.self c.sum.result.0 i c.sum.ensures)
