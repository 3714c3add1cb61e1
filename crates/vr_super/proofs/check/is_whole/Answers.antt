use Rattle.std.proofs.Common.{◌≡◌, ◌∙◌, ◌&&◌, ap, sym, drop, true, false}
use Rattle.std.specs.Prelude.{is_some}
use Rattle.vr_super.specs.Copies.{count_at, fields_at, first_op, good_fields, is_closed, list_at}
use Rattle.vr_super.proofs.Sealing.{good_by}
use Rattle.vr_super.proofs.check.is_whole.Goals as goal

pub returns-then-is_closed-clause-value : goal.returns-then-is_closed-clause-value
returns-then-is_closed-clause-value g c =
    let b = c.args.bytes.now in
    let f = c.requires.fields in
    let n = c.requires.count in
    let good : good_fields (fields_at b) (count_at b) ≡ true = rw (f, n) at c.requires.good in
    let list = list_at (fields_at b) (first_op (fields_at b) (count_at b)) (count_at b) (drop 128 b) in
    let listed : c.are_listed.result ≡ is_some list = rw (f, n, c.split_at.ensures.back) at c.are_listed.ensures.value in
    let closed : is_closed b ≡ true = sym c.is_closed.ensures.value ∙ c.if-is_closed.true in
    listed ∙ sym (good_by b c.requires.size good ∙ ap (λ x. x && is_some list) closed)

pub returns-else-is_closed-clause-value : goal.returns-else-is_closed-clause-value
returns-else-is_closed-clause-value g c =
    let b = c.args.bytes.now in
    let f = c.requires.fields in
    let n = c.requires.count in
    let good : good_fields (fields_at b) (count_at b) ≡ true = rw (f, n) at c.requires.good in
    let list = list_at (fields_at b) (first_op (fields_at b) (count_at b)) (count_at b) (drop 128 b) in
    let closed : is_closed b ≡ false = sym c.is_closed.ensures.value ∙ c.if-is_closed.false in
    c.if-is_closed.false ∙ sym (good_by b c.requires.size good ∙ ap (λ x. x && is_some list) closed)
