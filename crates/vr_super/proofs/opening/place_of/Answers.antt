use Rattle.std.proofs.Common.{◌∙◌, arith, sym, false, []}
use Rattle.vr_super.specs.declared.reading.Reading.{Reading}
use Rattle.vr_super.proofs.Choosing.{place_here, place_later, place_none}
use Rattle.vr_super.proofs.opening.place_of.Goals as goal

-- what a look-up past the end gives
abbrev none : Reading
none = record { bytes = []; whole = false; good = false }

pub loop-r-preserved : goal.loop-r-preserved
loop-r-preserved c =
    let e = place_later c.args.bytes.now c.args.readings.now c.loop-r.r-index none c.loop-r-test.true (sym c.holds.ensures ∙ c.if-holds.false) in
    let a = c.loop-r.invariant.at in
    let p = c.loop-r.invariant.place in
    record { at = omega arith; place = omega arith }

pub returns-then-holds-clause-place : goal.returns-then-holds-clause-place
returns-then-holds-clause-place c =
    let e = place_here c.args.bytes.now c.args.readings.now c.loop-r.r-index none c.loop-r-test.true (sym c.holds.ensures ∙ c.if-holds.true) in
    let p = c.loop-r.invariant.place in
    omega arith

pub returns-clause-place : goal.returns-clause-place
returns-clause-place c =
    let e = place_none c.args.bytes.now c.args.readings.now c.loop-r.r-index c.loop-r-test.false in
    let p = c.loop-r.invariant.place in
    omega arith
