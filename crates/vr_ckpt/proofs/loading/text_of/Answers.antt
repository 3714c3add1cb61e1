use Rattle.std.proofs.Common.{◌∙◌, ◌+◌, ◌++◌, ap, sym, arith, append_assoc, drop}
use Rattle.std.proofs.lemmas.List.{append-nil}
use Rattle.vr_ckpt.specs.Loads.{text_of}
use Rattle.vr_ckpt.proofs.Gathering.{text_end, text_more}
use Rattle.vr_ckpt.proofs.loading.text_of.Goals as goal

pub loop-payload-preserved : goal.loop-payload-preserved
loop-payload-preserved c =
    let ps = c.args.payloads.now in
    let i = c.loop-payload.payload-index in
    let p = c.payload-item.result in
    let rest = text_of (drop (i + 1) ps) in
    ap (λ x. x ++ rest) (c.in_ok-extend.ensures.ok ∙ ap (λ x. c.loop-payload.text ++ x) c.as_slice.ensures)
    ∙ (append_assoc c.loop-payload.text p.bytes rest ∙ (ap (λ x. c.loop-payload.text ++ x) (sym (text_more ps i p (omega arith) c.payload-item.is)) ∙ c.loop-payload.invariant))

pub returns : goal.returns
returns c =
    let t = c.loop-payload.text in
    sym (append-nil t) ∙ (ap (λ x. t ++ x) (sym (text_end c.args.payloads.now c.loop-payload.payload-index (omega arith))) ∙ c.loop-payload.invariant)
