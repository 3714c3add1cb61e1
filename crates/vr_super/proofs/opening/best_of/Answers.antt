use Rattle.std.proofs.Common.{◌∙◌, ◌+◌, ap, sym, false, [], drop, Bor, List, ℕ, Option}
use Rattle.std.specs.Prelude.{map}
use Rattle.std.specs.Option.{option_map}
use Rattle.vr_super.specs.declared.reading.Reading.{Reading}
use Rattle.vr_super.specs.Opens.{agreed, best_of}
use Rattle.vr_super.specs.Seen.{seen}
use Rattle.vr_super.proofs.Choosing.{best_past, best_step}
use Rattle.vr_super.proofs.opening.best_of.Goals as goal

-- what a look-up past the end gives
abbrev none : Reading
none = record { bytes = []; whole = false; good = false }

pub loop-r-preserved : goal.loop-r-preserved
loop-r-preserved c =
    let rs = c.args.readings.now in
    let i = c.loop-r.r-index in
    let best = option_map (λ (r : Bor Reading). r.now.bytes) c.loop-r.best in
    c.loop-r.invariant ∙ (best_step (agreed (map seen rs)) best rs i none c.loop-r-test.true ∙ ap (λ (o : Option (List ℕ)). best_of (agreed (map seen rs)) o (map seen (drop (i + 1) rs))) (sym c.better-best.ensures))

pub returns : goal.returns
returns c =
    let rs = c.args.readings.now in
    let best = option_map (λ (r : Bor Reading). r.now.bytes) c.loop-r.best in
    sym (c.loop-r.invariant ∙ best_past (agreed (map seen rs)) best rs c.loop-r.r-index c.loop-r-test.false)
