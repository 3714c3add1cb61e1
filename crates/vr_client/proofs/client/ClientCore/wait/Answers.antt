use Rattle.std.proofs.Common.{◌≡◌, ◌∙◌, None, Some, Err, arith, rules, subst}
use Rattle.vr_client.specs.Asking.{Fails, Turned, ask_in}
use Rattle.vr_client.proofs.Keeping.{cause_failed, cause_later, keeps_later, same_ask}
use Rattle.vr_client.proofs.Waits.{waited_answer, waited_fault, waiting_begins, waiting_more}
use Rattle.vr_client.proofs.client.ClientCore.wait.Goals as goal

pub loop-done-init : goal.loop-done-init
loop-done-init g c = record {
  core = c.ask_at.ensures.core;
  faults = c.ask_at.ensures.faults;
  attached = c.ask_at.ensures.attached;
  waiting = waiting_begins (ask_in c.args.self.now c.args.name.now c.args.turns) c.args.self.now.port c.ask_at.new.self.port
      (g.L.Link.sent c.args.link.now) (g.L.Link.sent c.ask_at.new.link) (g.L.Link.received c.args.link.now) (g.L.Link.received c.ask_at.new.link)
      c.ask_at.ensures.port c.ask_at.ensures.received c.ask_at.ensures.sent;
}

pub returns-in_err-answer : goal.returns-in_err-answer
returns-in_err-answer g c =
    let err : c.from_residual.result ≡ Err c.in_err-answer.field-0.0 = search rules in
    let stays = c.in_err-answer.ensures.stays in
    let same = same_ask c.args.self.now c.loop-done.self c.args.name.now c.args.turns c.loop-done.invariant.core in
    let failed = subst (λ a. Fails a.version a.cluster (g.L.Link.received c.loop-done.link) (g.L.Link.received c.turn.new.link) c.in_err-answer.field-0.0) same c.in_err-answer.ensures.failed in
    record {
      core = keeps_later c.args.self.now c.loop-done.self c.turn.new.self c.loop-done.invariant.core c.turn.ensures.core;
      run = rw err (waited_fault (ask_in c.args.self.now c.args.name.now c.args.turns) c.loop-done.done c.args.self.now.port c.loop-done.self.port c.turn.new.self.port
          (g.L.Link.sent c.args.link.now) (g.L.Link.sent c.loop-done.link) (g.L.Link.sent c.turn.new.link)
          (g.L.Link.received c.args.link.now) (g.L.Link.received c.loop-done.link) (g.L.Link.received c.turn.new.link) c.in_err-answer.field-0.0
          c.loop-done.invariant.waiting failed stays.0 stays.1 c.loop-done-test.true);
      cause = rw err (cause_later _ _ _ _ c.loop-done.invariant.faults (cause_failed _ _ c.in_err-answer.field-0.0 c.in_err-answer.ensures.cause));
      attached = c.turn.ensures.attached ∙ c.loop-done.invariant.attached;
    }

pub returns-in-Some : goal.returns-in-Some
returns-in-Some g c =
    let same = same_ask c.args.self.now c.loop-done.self c.args.name.now c.args.turns c.loop-done.invariant.core in
    let is : c.in_ok-answer.field-0 ≡ Some c.in-Some.answer = search rules in
    let turned = subst (λ x. Turned (ask_in c.loop-done.self c.args.name.now c.args.turns) c.loop-done.done c.loop-done.self.port c.turn.new.self.port
    (g.L.Link.sent c.loop-done.link) (g.L.Link.sent c.turn.new.link) (g.L.Link.received c.loop-done.link) (g.L.Link.received c.turn.new.link) x) is c.in_ok-answer.ensures.turned in
    record {
      core = keeps_later c.args.self.now c.loop-done.self c.turn.new.self c.loop-done.invariant.core c.turn.ensures.core;
      run = waited_answer (ask_in c.args.self.now c.args.name.now c.args.turns) c.loop-done.done c.args.self.now.port c.loop-done.self.port c.turn.new.self.port
          (g.L.Link.sent c.args.link.now) (g.L.Link.sent c.loop-done.link) (g.L.Link.sent c.turn.new.link)
          (g.L.Link.received c.args.link.now) (g.L.Link.received c.loop-done.link) (g.L.Link.received c.turn.new.link) c.in-Some.answer
          c.loop-done.invariant.waiting
          (subst (λ a. Turned a c.loop-done.done c.loop-done.self.port c.turn.new.self.port (g.L.Link.sent c.loop-done.link) (g.L.Link.sent c.turn.new.link)
          (g.L.Link.received c.loop-done.link) (g.L.Link.received c.turn.new.link) (Some c.in-Some.answer)) same turned)
          c.loop-done-test.true;
      cause = record { later = omega (arith, c.loop-done.invariant.faults, c.turn.ensures.cause.later); counted = c.in_ok-answer.ensures.cause.counted ∙ c.loop-done.invariant.faults };
      attached = c.turn.ensures.attached ∙ c.loop-done.invariant.attached;
    }

pub loop-done-preserved : goal.loop-done-preserved
loop-done-preserved g c =
    let same = same_ask c.args.self.now c.loop-done.self c.args.name.now c.args.turns c.loop-done.invariant.core in
    let is : c.in_ok-answer.field-0 ≡ None = search rules in
    let turned = subst (λ x. Turned (ask_in c.loop-done.self c.args.name.now c.args.turns) c.loop-done.done c.loop-done.self.port c.turn.new.self.port
    (g.L.Link.sent c.loop-done.link) (g.L.Link.sent c.turn.new.link) (g.L.Link.received c.loop-done.link) (g.L.Link.received c.turn.new.link) x) is c.in_ok-answer.ensures.turned in
    record {
      core = keeps_later c.args.self.now c.loop-done.self c.turn.new.self c.loop-done.invariant.core c.turn.ensures.core;
      faults = c.in_ok-answer.ensures.cause.counted ∙ c.loop-done.invariant.faults;
      attached = c.turn.ensures.attached ∙ c.loop-done.invariant.attached;
      waiting = waiting_more (ask_in c.args.self.now c.args.name.now c.args.turns) c.loop-done.done c.args.self.now.port c.loop-done.self.port c.turn.new.self.port
          (g.L.Link.sent c.args.link.now) (g.L.Link.sent c.loop-done.link) (g.L.Link.sent c.turn.new.link)
          (g.L.Link.received c.args.link.now) (g.L.Link.received c.loop-done.link) (g.L.Link.received c.turn.new.link)
          c.loop-done.invariant.waiting
          (subst (λ a. Turned a c.loop-done.done c.loop-done.self.port c.turn.new.self.port (g.L.Link.sent c.loop-done.link) (g.L.Link.sent c.turn.new.link)
          (g.L.Link.received c.loop-done.link) (g.L.Link.received c.turn.new.link) None) same turned);
    }
