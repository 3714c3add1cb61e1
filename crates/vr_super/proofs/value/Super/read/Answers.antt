use Rattle.std.proofs.Common.{◌≡◌, ◌∙◌, ◌*◌, ap, arith, drop, List, ℕ, Some}
use Rattle.vr_header.specs.declared.header.Header.{Header}
use Rattle.vr_header.specs.Spelling.{fault_of}
use Rattle.vr_super.specs.declared.fields.Fields.{Fields}
use Rattle.vr_super.specs.Copies.{count_at, list_at}
use Rattle.vr_super.proofs.Heads.{read_is, spelled_at, value_is}
use Rattle.vr_super.proofs.value.Super.read.Goals as goal

pub read_list-requires-clause-spelled : goal.read_list-requires-clause-spelled
read_list-requires-clause-spelled c i l =
    let b = c.args.bytes.now in
    ap (λ t. fault_of (drop (128 * i) t)) c.split_at.ensures.back ∙ spelled_at b i c.requires.good (let e = c.few_at-count.ensures.count in omega arith)

pub invariant_of-result : goal.invariant_of-result
invariant_of-result c =
    let b = c.args.bytes.now in
    let hs = c.in_ok-headers.headers in
    let h : (f : Fields) (op : ℕ) (all : List Header) → list_at f op (count_at b) (drop 128 b) ≡ Some all → hs ≡ all = rw (c.few_at-count.ensures.count, c.split_at.ensures.back) at c.in_ok-headers.ensures in
    rw (c.in_ok-text.ensures.items, c.split_at-2.ensures.back, c.fields_at.ensures) (read_is b _ (λ i. omega (arith, c.type_inv.bytes i)) (value_is b hs c.requires.good h))

pub returns : goal.returns
returns c =
    let b = c.args.bytes.now in
    let hs = c.in_ok-headers.headers in
    let h : (f : Fields) (op : ℕ) (all : List Header) → list_at f op (count_at b) (drop 128 b) ≡ Some all → hs ≡ all = rw (c.few_at-count.ensures.count, c.split_at.ensures.back) at c.in_ok-headers.ensures in
    rw c.fields_at.ensures (value_is b hs c.requires.good h)
