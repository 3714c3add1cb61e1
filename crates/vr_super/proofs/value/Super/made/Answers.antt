use Rattle.std.proofs.Common.{◌≡◌, ◌∙◌, ap, length}
use Rattle.vr_super.specs.Copies.{SuperValue, named_bytes}
use Rattle.vr_super.proofs.Format.{length-named}
use Rattle.vr_super.proofs.value.Super.made.Goals as goal

pub invariant_of-result : goal.invariant_of-result
invariant_of-result c =
    let v : SuperValue = record { fields = c.args.fields; headers = c.args.headers } in
    let spelled : c.in_ok-text.text.items ≡ named_bytes v = rw c.as_slice.ensures at c.in_ok-text.ensures in
    record { good = c.requires; spelled = spelled; size = ap length spelled ∙ length-named v c.requires }
