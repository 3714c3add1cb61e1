use Rattle.std.proofs.Common.{◌∙◌, ap, sym}
use Rattle.vr_ckpt.specs.Loads.{behind, with_data}
use Rattle.vr_ckpt.proofs.Gathering.{adds_missing, adds_there}
use Rattle.vr_ckpt.proofs.loading.add.Goals as goal

pub returns-in_ok-push-in-None : goal.returns-in_ok-push-in-None
returns-in_ok-push-in-None c g =
    adds_missing c.args.name c.args.payloads.now c.args.missing.now c.push.new.self c.in_ok-push-in-None.ensures.ok g ∙ ap (λ o. behind c.args.payloads.now c.args.missing.now (with_data c.args.name o g)) (sym c.in-None.is)

pub returns-in_ok-push-in-Some : goal.returns-in_ok-push-in-Some
returns-in_ok-push-in-Some c g =
    adds_there c.args.name c.in-Some.bytes c.args.payloads.now c.push-in-Some.new.self c.args.missing.now c.in_ok-push-in-Some.ensures.ok g ∙ ap (λ o. behind c.args.payloads.now c.args.missing.now (with_data c.args.name o g)) (sym c.in-Some.is)
