use Rattle.cmd_soak.proofs.Going.{size_kept, soaking_more}
use Rattle.cmd_soak.proofs.soaking.Soaking.step.Goals as goal

pub returns-clause-soaking : goal.returns-clause-soaking
returns-clause-soaking c = λ n number count i.
    let size = c.size-n.ensures in
    let messages = c.messages-messages.ensures in
    let line = rw (size, messages) at c.in_ok-line.ensures.line in
    let next = rw (size, messages) at c.in_ok-line.ensures.number in
    let fits = rw size at c.in_ok-line.ensures.fits in
    let went = c.in_ok-step.ensures in
    let text = rw c.clear.ensures at went.text in
    let heard = rw (c.last.ensures, c.as_slice.ensures) at c.in_ok-hear.ensures in
    soaking_more n number count c.args.self.now _ c.in_ok-line.line _ _ c.requires.size line next fits went.world went.outputs text heard i

pub returns-clause-size : goal.returns-clause-size
returns-clause-size c =
    let fits = rw c.size-n.ensures at c.in_ok-line.ensures.fits in
    size_kept c.args.self.now.group.world c.step.new.self.world c.in_ok-line.line c.requires.size fits c.in_ok-step.ensures.world
