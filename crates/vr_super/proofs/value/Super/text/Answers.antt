use Rattle.std.proofs.Common.{◌∙◌, ap}
use Rattle.vr_super.specs.Copies.{SuperValue, copy_of}
use Rattle.vr_super.proofs.Fronts.{copy_is}
use Rattle.vr_super.proofs.value.Super.text.Goals as goal

pub returns-clause-copy : goal.returns-clause-copy
returns-clause-copy c =
    let v : SuperValue = record { fields = c.self.inside.fields; headers = c.self.inside.headers } in
    rw (← c.self.view_is) (ap copy_of (c.as_slice.ensures.value ∙ c.self.invariant.spelled) ∙ copy_is v)
