use Rattle.std.proofs.Common.{◌∙◌, false, sym, get_or, []}
use Rattle.vr_super.specs.declared.reading.Reading.{Reading}
use Rattle.vr_super.proofs.Filling.{honest_at, tells}
use Rattle.vr_super.proofs.reading.known.Goals as goal

-- what a look-up past the end gives
abbrev none : Reading
none = record { bytes = []; whole = false; good = false }

pub returns-then-eq : goal.returns-then-eq
returns-then-eq c =
    let rs = c.args.earlier.now in
    let i = c.loop-r.r-index in
    tells c.args.bytes.now (get_or rs i none) (honest_at rs i none c.requires c.loop-r-test.true) c.if-r.true (sym c.eq.ensures ∙ c.if-eq.true)
