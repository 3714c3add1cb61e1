use Rattle.std.proofs.Common.{◌∙◌, ◌+◌, ◌++◌, ap, sym, arith, append_assoc, drop}
use Rattle.std.proofs.lemmas.List.{append-nil}
use Rattle.vr_base.specs.Bytes.{bytes64}
use Rattle.vr_ckpt.specs.Saves.{names_bytes}
use Rattle.vr_ckpt.proofs.Roots.{bytes_end, bytes_more}
use Rattle.vr_ckpt.proofs.root.push_names.Goals as goal

pub loop-payload-preserved : goal.loop-payload-preserved
loop-payload-preserved c =
    let ps = c.args.payloads.now in
    let i = c.loop-payload.payload-index in
    let p = c.payload-item.result in
    let b = c.loop-payload.bytes.items in
    let rest = names_bytes (drop (i + 1) ps) in
    record {
      names = ap (λ x. x ++ rest) c.in_ok-push_name.ensures.bytes
          ∙ (append_assoc b (bytes64 p.name.address ++ p.name.sum.0) rest ∙ (ap (λ x. b ++ x) (sym (bytes_more ps i p (omega arith) c.payload-item.is)) ∙ c.loop-payload.invariant.names));
      size = let s = c.in_ok-push_name.ensures.size in let t = c.loop-payload.invariant.size in omega arith;
    }

pub returns-clause-bytes : goal.returns-clause-bytes
returns-clause-bytes c =
    let b = c.loop-payload.bytes.items in
    sym (append-nil b) ∙ (ap (λ x. b ++ x) (sym (bytes_end c.args.payloads.now c.loop-payload.payload-index (omega arith))) ∙ c.loop-payload.invariant.names)
