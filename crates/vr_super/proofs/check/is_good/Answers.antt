use Rattle.std.proofs.Common.{◌≡◌, sym, false}
use Rattle.vr_super.specs.Copies.{count_at, fields_at, good_fields}
use Rattle.vr_super.proofs.Sealing.{bad_by}
use Rattle.vr_super.proofs.check.is_good.Goals as goal

pub returns-in-None-clause-value : goal.returns-in-None-clause-value
returns-in-None-clause-value g c =
    let b = c.args.bytes.now in
    let bad : good_fields (fields_at b) (count_at b) ≡ false = rw (c.fields_at-fields.ensures, c.count_at.ensures) at c.in-None.ensures.value in
    sym (bad_by b c.requires bad)
