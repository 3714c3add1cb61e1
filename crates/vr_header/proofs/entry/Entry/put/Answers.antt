use Rattle.std.proofs.Common.{◌+◌, ◌≡◌, ◌∙◌, ◌++◌, arith, ap, sym, length, take, drop}
use Rattle.vr_header.specs.Bodies.{operation_bytes}
use Rattle.vr_header.specs.Made.{entry_bytes}
use Rattle.vr_header.specs.Spelling.{IsHeader, header_bytes}
use Rattle.vr_header.proofs.HeaderLaws.{length-header_bytes}
use Rattle.vr_header.proofs.Putting.{further, length-entry}
use Rattle.vr_header.proofs.entry.Entry.put.Goals as goal

pub put_body-requires : goal.put_body-requires
put_body-requires c =
    let e = c.header.ensures.entry in
    let s = e.body.size in
    let m = e.header.size.1 in
    let k = c.requires in
    rw c.operation.ensures (omega arith)

pub returns-clause-size : goal.returns-clause-size
returns-clause-size c =
    let e = c.header.ensures.entry in
    let s = e.body.size in
    let m = e.header.size.1 in
    let k = c.requires in
    let l = length-entry c.args.self.now (rw c.header.ensures.value at c.spelled.ensures.header) in
    omega arith

pub returns-clause-front : goal.returns-clause-front
unfolding entry_bytes
returns-clause-front c =
    let e = c.args.self.now in
    let h : IsHeader e.header = rw c.header.ensures.value at c.spelled.ensures.header in
    let n : length (entry_bytes e) ≡ 128 + length (operation_bytes e.operation) = length-entry e h in
    let k = length-header_bytes e.header h in
    let body : take (128 + length (operation_bytes e.operation)) c.put_body.new.out ≡ take 128 c.put.new.out ++ operation_bytes e.operation = rw c.operation.ensures at c.put_body.ensures.front in
    let spelled : c.spelled.result ≡ header_bytes e.header = c.spelled.ensures.bytes ∙ ap header_bytes c.header.ensures.value in
    let zero : 0 + length c.spelled.result ≡ length c.spelled.result = omega arith in
    let head : take (length c.spelled.result) c.put.new.out ≡ c.spelled.result = ap (λ m. take m c.put.new.out) (sym zero) ∙ c.put.ensures.front in
    let size : length c.spelled.result ≡ 128 = ap length spelled ∙ k in
    ap (λ m. take m c.put_body.new.out) n ∙ (body ∙ ap (λ x. x ++ operation_bytes e.operation) (ap (λ m. take m c.put.new.out) (sym size) ∙ (head ∙ spelled)))

pub returns-clause-back : goal.returns-clause-back
returns-clause-back c =
    let e = c.args.self.now in
    let h : IsHeader e.header = rw c.header.ensures.value at c.spelled.ensures.header in
    let n : length (entry_bytes e) ≡ 128 + length (operation_bytes e.operation) = length-entry e h in
    let k = length-header_bytes e.header h in
    let spelled : c.spelled.result ≡ header_bytes e.header = c.spelled.ensures.bytes ∙ ap header_bytes c.header.ensures.value in
    let size : length c.spelled.result ≡ 128 = ap length spelled ∙ k in
    let body : drop (128 + length (operation_bytes e.operation)) c.put_body.new.out ≡ drop (128 + length (operation_bytes e.operation)) c.put.new.out = rw c.operation.ensures at c.put_body.ensures.back in
    ap (λ m. drop m c.put_body.new.out) n
    ∙ (body ∙ (ap (λ m. drop m c.put.new.out) (sym n) ∙ further (0 + length c.spelled.result) (length (entry_bytes e)) c.put.new.out c.args.out.now (omega arith) c.put.ensures.back))
