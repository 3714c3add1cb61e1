use Rattle.std.proofs.Common.{Err, rules, ◌≡◌, ◌∙◌, [], ◌∷◌, ap, inr, refl, subst, true}
use Rattle.vr_disk.specs.declared.fault.Halt.TheVariants as halt
use Rattle.vr_mail.specs.Sends.{Sends}
use Rattle.vr_serve.proofs.Cutting.{cut_event, cut_none, cut_step, if_err_by, on_ok, on_ok_all}
use Rattle.vr_serve.proofs.Ending.{causes_halted, causes_put, causes_wanted, halt_unlinked, put_spares}
use Rattle.vr_serve.proofs.Running.{passed_one}
use Rattle.vr_serve.specs.Causes.{stop_of}
use Rattle.vr_serve.specs.Events.{Come}
use Rattle.vr_serve.specs.Outputs.{datagrams_for, text_from}
use Rattle.vr_serve.specs.Runs.{Cut, PutsFront, end_at}
use Rattle.vr_serve.specs.Serving.{standing}
use Rattle.vr_serve.specs.declared.stop.Stop.TheVariants.{NoMemory}
use Rattle.vr_serve.proofs.handling.handle.Goals as goal

pub returns-in_err-hear : goal.returns-in_err-hear
returns-in_err-hear g c =
    let a = standing g.M.Member g.D.SectorDisk g.K.Sink g.L.Link c.args.objects.now c.args.post.now in
    let come : Come = record { port = c.args.port; event = c.args.event.now } in
    let is : c.from_residual.result ≡ Err NoMemory = search rules in
    rw is (record {
      kept = record { objects = record { member = refl; disk = refl; sink = refl; link = refl }; running = tt; causes = causes_wanted _ _ _; attached = refl };
      received = refl;
      unlinked = halt_unlinked halt.NoMemory;
      passed = tt;
      cut = cut_none g.M.Member.does g.M.Member.halts a (come ∷ []) (end_at NoMemory a.disk a.taken a.sent) (record { why = inr refl; disk = refl; taken = refl; sent = refl });
    })

pub returns-in_err-step : goal.returns-in_err-step
returns-in_err-step g c =
    let a = standing g.M.Member g.D.SectorDisk g.K.Sink g.L.Link c.args.objects.now c.args.post.now in
    let come : Come = record { port = c.args.port; event = c.args.event.now } in
    let why = c.in_err-step.field-0.0 in
    let is : c.from_residual-in_err-step.result ≡ Err (stop_of why) = search rules in
    rw is (record {
      kept = record {
        objects = record { member = refl; disk = refl; sink = refl; link = refl };
        running = tt;
        causes = causes_halted _ _ _ _ why c.in_err-step.ensures.cause;
        attached = refl;
      };
      received = refl;
      unlinked = halt_unlinked why;
      passed = tt;
      cut = cut_step g.M.Member.does g.M.Member.halts a come why c.step.new.self (g.D.SectorDisk.told c.step.new.disk) c.in_err-step.ensures.halted;
    })

pub returns : goal.returns
returns g c =
    let o = c.args.objects.now in
    let a = standing g.M.Member g.D.SectorDisk g.K.Sink g.L.Link o c.args.post.now in
    let come : Come = record { port = c.args.port; event = c.args.event.now } in
    let disk = g.D.SectorDisk.told c.step.new.disk in
    let taken = g.K.Sink.taken c.put_out.new.sink in
    let sent = g.L.Link.sent c.put_out.new.link in
    let did = c.in_ok-step.ensures in
    let put = c.put_out.ensures in
    record {
      kept = record {
        objects = record { member = refl; disk = refl; sink = refl; link = refl };
        running = on_ok c.put_out.result (g.M.Member.runs c.step.new.self ≡ true) did.running;
        causes = causes_put (g.D.SectorDisk.faults o.disk.now) (g.D.SectorDisk.faults c.step.new.disk) (g.K.Sink.faults o.sink.now) (g.K.Sink.faults c.put_out.new.sink)
            (g.L.Link.faults o.link.now) (g.L.Link.faults c.put_out.new.link) c.put_out.result did.cause.kept put.causes;
        attached = put.kept.attached;
      };
      received = put.kept.received;
      unlinked = put.unlinked;
      passed = on_ok_all c.put_out.result _ _ _ _ (λ text datagrams number.
          passed_one g.M.Member.does a c.step.new.self disk c.put_out.new.self.number c.put_out.new.self.clients.items taken sent come c.step.new.out did.done text
          (subst (λ cs. Sends (datagrams_for cs c.step.new.out) a.sent sent) c.in_ok-hear.ensures datagrams)
          number (ap (λ v. v.items) put.clients ∙ c.in_ok-hear.ensures)) put.taken put.sent put.number;
      cut = if_err_by c.put_out.result _ (λ why. Cut g.M.Member.does g.M.Member.halts a [] (come ∷ []) (end_at why disk taken sent)) (λ why is front.
          cut_event g.M.Member.does g.M.Member.halts a c.step.new.self come c.step.new.out (end_at why disk taken sent)
          (put_spares (g.K.Sink.faults o.sink.now) (g.K.Sink.faults c.put_out.new.sink) (g.L.Link.faults o.link.now) (g.L.Link.faults c.put_out.new.link) c.put_out.result why is put.causes) did.done
          (subst (λ cs. PutsFront (text_from a.number c.step.new.out) (datagrams_for cs c.step.new.out) a.taken taken a.sent sent) c.in_ok-hear.ensures front)) put.front;
    }
