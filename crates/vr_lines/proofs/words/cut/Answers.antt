use Rattle.std.proofs.Common.{rules, tests, get_or, ◌==◌, false, ◌≡◌, take_all}
use Rattle.std.proofs.lemmas.List.{take_rest}
use Rattle.std.proofs.lemmas.List.Elements.{All-more}
use Rattle.vr_lines.proofs.FirstWord.{cut_at, cut_none}
use Rattle.vr_lines.proofs.words.cut.Goals as goal

pub returns-then-byte-eq32 : goal.returns-then-byte-eq32
returns-then-byte-eq32 c = rw take_rest (cut_at c.args.line.now c.loop-at.at c.loop-at-test.true c.if-byte-eq32.true c.loop-at.invariant)

pub loop-at-preserved : goal.loop-at-preserved
loop-at-preserved c =
    let other : (get_or c.args.line.now c.loop-at.at 0 == 32) ≡ false = search (rules, tests, c.if-byte-eq32.false) in
    All-more (λ b. (b == 32) ≡ false) c.args.line.now c.loop-at.at 0 c.loop-at-test.true c.loop-at.invariant other

pub returns : goal.returns
returns c = cut_none c.args.line.now (rw (take_all _ _ c.loop-at-test.false) at c.loop-at.invariant)
