use Rattle.std.proofs.Common.{arith, ◌≡◌, ◌≢◌, ◌∙◌, ◌≤◌, ◌∷◌, [], is_ok, sym, true, false}
use Rattle.vr_io_policy.specs.Pauses.{pauses}
use Rattle.vr_file.specs.Calls.{Asked, Makes, Paused}
use Rattle.vr_file.proofs.Asking.{asks_last, asks_once, none_left, some_left, whole_later}
use Rattle.vr_file.proofs.kept.read_again.Goals as goal

pub returns-then-is_ok-clause-again : goal.returns-then-is_ok-clause-again
returns-then-is_ok-clause-again g c =
    let t : is_ok c.read.result ≡ true = sym c.if-is_ok.ensures.value in
    c.loop-again.invariant.whole (Asked c.args.i true ∷ []) true (g.F.PageFile.made c.read.new.self) (asks_once c.args.i (pauses c.loop-again.again)) (rw t at c.read.ensures.made)

pub loop-again-preserved : goal.loop-again-preserved
loop-again-preserved g c =
    let n : is_ok c.read.result ≡ false = sym c.if-is_ok.ensures.value in
    let some : pauses c.loop-again.again ≢ [] = some_left (pauses c.loop-again.again) c.times.result c.loop-again-test.true c.times.ensures in
    record {
      told = c.pause-in-loop-again.ensures.told ∙ (c.read.ensures.told ∙ c.loop-again.invariant.told);
      whole = whole_later c.args.i c.pause.result (0 ∷ (5 ∷ (5 ∷ []))) (pauses c.loop-again.again) (pauses c.pause.new.self) (g.F.PageFile.made c.args.file.now) (g.F.PageFile.made c.loop-again.file)
          (g.F.PageFile.made c.read.new.self) (g.F.PageFile.made c.pause-in-loop-again.new.self) (c.pause.ensures.next some) (rw n at c.read.ensures.made) c.pause-in-loop-again.ensures.made c.loop-again.invariant.whole;
    }

pub returns-clause-again : goal.returns-clause-again
returns-clause-again g c =
    let z : c.times.result ≤ 0 = omega (arith, c.loop-again-test.false) in
    let none : pauses c.loop-again.again ≡ [] = none_left (pauses c.loop-again.again) c.times.result z c.times.ensures in
    c.loop-again.invariant.whole (Asked c.args.i (is_ok c.read-2.result) ∷ []) (is_ok c.read-2.result) (g.F.PageFile.made c.read-2.new.self)
    (asks_last c.args.i (pauses c.loop-again.again) (is_ok c.read-2.result) none) c.read-2.ensures.made
