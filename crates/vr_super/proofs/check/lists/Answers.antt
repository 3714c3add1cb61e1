use Rattle.std.proofs.Common.{◌≡◌, ◌∙◌, ap, sym, Some, [], Ok, Result}
use Rattle.std.specs.Prelude.{is_some}
use Rattle.std.specs.Result.{result_ok}
use Rattle.vr_header.specs.declared.header.Header.{Header}
use Rattle.vr_header.specs.declared.header.HeaderFault.{HeaderFault}
use Rattle.vr_header.specs.Spelling.{decoded}
use Rattle.vr_super.specs.Copies.{with_listed}
use Rattle.vr_super.proofs.Sealing.{listed_by}
use Rattle.vr_super.proofs.check.lists.Goals as goal

pub returns-in-Ok-clause-value : goal.returns-in-Ok-clause-value
returns-in-Ok-clause-value g c =
    let f = c.args.f.now in
    let op = c.args.op in
    let h = c.in-Ok.header in
    let e : decoded c.args.bytes.now ≡ Ok h = sym c.decode_by.ensures ∙ c.in-Ok.is in
    c.is_listed.ensures ∙ (listed_by f op h ∙ ap (λ (r : Result Header HeaderFault). is_some (with_listed f op (result_ok r) (Some []))) (sym e))
