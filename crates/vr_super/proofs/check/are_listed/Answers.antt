use Rattle.std.proofs.Common.{◌≡◌, ◌∙◌, ◌+◌, ◌-◌, ◌*◌, ◌&&◌, ap, sym, Some, [], drop, true, false}
use Rattle.std.specs.Prelude.{is_some}
use Rattle.std.specs.Result.{result_ok}
use Rattle.vr_header.specs.Spelling.{decoded}
use Rattle.vr_super.specs.Copies.{list_at, with_listed}
use Rattle.vr_super.proofs.Sealing.{list_past, list_step, with_rest}
use Rattle.vr_super.proofs.check.are_listed.Goals as goal

pub loop-i-preserved : goal.loop-i-preserved
loop-i-preserved g c =
    let f = c.args.f.now in
    let op = c.args.op in
    let i = c.loop-i.i in
    let b = c.args.bytes.now in
    let first = result_ok (decoded (drop (128 * i) b)) in
    let rest = list_at f (op + (i + 1)) (c.args.count - (i + 1)) (drop (128 * (i + 1)) b) in
    let now : c.lists.result ≡ is_some (with_listed f (op + i) first (Some [])) = rw c.split_at.ensures.back at c.lists.ensures.value in
    let holds : is_some (with_listed f (op + i) first (Some [])) ≡ true = sym now ∙ c.if-not-lists.false in
    record {
      list = c.loop-i.invariant.list ∙ (ap is_some (list_step f op c.args.count i b c.loop-i-test.true) ∙ (with_rest f (op + i) first rest ∙ ap (λ x. x && is_some rest) holds));
      told = c.lists.ensures.untouched.told ∙ c.loop-i.invariant.told;
      faults = c.lists.ensures.untouched.faults ∙ c.loop-i.invariant.faults;
      reads = c.lists.ensures.reads ∙ c.loop-i.invariant.reads;
    }

pub returns-then-not-lists-clause-value : goal.returns-then-not-lists-clause-value
returns-then-not-lists-clause-value g c =
    let f = c.args.f.now in
    let op = c.args.op in
    let i = c.loop-i.i in
    let b = c.args.bytes.now in
    let first = result_ok (decoded (drop (128 * i) b)) in
    let rest = list_at f (op + (i + 1)) (c.args.count - (i + 1)) (drop (128 * (i + 1)) b) in
    let now : c.lists.result ≡ is_some (with_listed f (op + i) first (Some [])) = rw c.split_at.ensures.back at c.lists.ensures.value in
    let fails : is_some (with_listed f (op + i) first (Some [])) ≡ false = sym now ∙ c.if-not-lists.true in
    sym (c.loop-i.invariant.list ∙ (ap is_some (list_step f op c.args.count i b c.loop-i-test.true) ∙ (with_rest f (op + i) first rest ∙ ap (λ x. x && is_some rest) fails)))

pub returns-clause-value : goal.returns-clause-value
returns-clause-value g c = sym (c.loop-i.invariant.list ∙ ap is_some (list_past c.args.f.now c.args.op c.args.count c.loop-i.i c.args.bytes.now c.loop-i-test.false))
