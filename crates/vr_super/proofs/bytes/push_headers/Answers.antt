use Rattle.std.proofs.Common.{◌≡◌, ◌+◌, ◌++◌, arith, ap, sym, ◌∙◌, append_assoc, drop, [], refl}
use Rattle.std.proofs.lemmas.List.{append-nil, drop_all}
use Rattle.vr_header.specs.Spelling.{header_bytes}
use Rattle.vr_super.specs.Copies.{list_bytes}
use Rattle.vr_super.proofs.Spelling.{list_more}
use Rattle.vr_super.proofs.bytes.push_headers.Goals as goal

no_bytes : list_bytes [] ≡ []
unfolding list_bytes
no_bytes = refl

pub loop-header-preserved : goal.loop-header-preserved
loop-header-preserved c =
    let hs = c.args.headers.now in
    let i = c.loop-header.header-index in
    let h = c.header-item.result in
    let rest = list_bytes (drop (i + 1) hs) in
    let there : header_bytes h ++ rest ≡ list_bytes (drop i hs) = ap (λ x. header_bytes x ++ rest) c.header-item.is ∙ sym (list_more hs i h (omega arith)) in
    ap (λ x. x ++ rest) (c.in_ok-extend_from_slice.ensures.items ∙ ap (λ x. c.loop-header.bytes.items ++ x) c.spelling.ensures)
    ∙ (append_assoc c.loop-header.bytes.items (header_bytes h) rest ∙ (ap (λ x. c.loop-header.bytes.items ++ x) there ∙ c.loop-header.invariant))

pub returns : goal.returns
returns c =
    let hs = c.args.headers.now in
    let none : list_bytes (drop c.loop-header.header-index hs) ≡ [] = ap list_bytes (drop_all c.loop-header.header-index hs (omega arith)) ∙ no_bytes in
    sym (append-nil c.loop-header.bytes.items) ∙ (ap (λ x. c.loop-header.bytes.items ++ x) (sym none) ∙ c.loop-header.invariant)
