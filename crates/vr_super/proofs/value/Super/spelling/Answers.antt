use Rattle.std.proofs.Common.{◌∙◌, ◌+◌, ◌*◌, ◌<◌, arith, sym, ap, length}
use Rattle.vr_base.specs.Bytes.{piece}
use Rattle.vr_header.specs.Same.{same_header}
use Rattle.vr_header.specs.Spelling.{header_bytes}
use Rattle.vr_header.proofs.SameHeaders.{same_header_is}
use Rattle.vr_super.specs.Copies.{SuperValue}
use Rattle.vr_super.proofs.Shared.{header_stands, stands_within}
use Rattle.vr_super.proofs.value.Super.spelling.Goals as goal

pub overflow_mul-at : goal.overflow_mul-at
overflow_mul-at c =
    let v : SuperValue = record { fields = c.self.inside.fields; headers = c.self.inside.headers } in
    let l : c.saturating_sub-at.result < 64 = stands_within v _ c.in-Some-get.same c.self.invariant.good (sym c.get-2.ensures ∙ c.in-Some-get.is) in
    omega arith

pub overflow_add-at : goal.overflow_add-at
overflow_add-at c =
    let v : SuperValue = record { fields = c.self.inside.fields; headers = c.self.inside.headers } in
    let l : c.saturating_sub-at.result < 64 = stands_within v _ c.in-Some-get.same c.self.invariant.good (sym c.get-2.ensures ∙ c.in-Some-get.is) in
    omega arith

pub header_bytes-requires : goal.header_bytes-requires
header_bytes-requires c =
    let v : SuperValue = record { fields = c.self.inside.fields; headers = c.self.inside.headers } in
    let l : c.saturating_sub-at.result < 64 = stands_within v _ c.in-Some-get.same c.self.invariant.good (sym c.get-2.ensures ∙ c.in-Some-get.is) in
    let n = c.self.invariant.size in
    let s = ap length c.deref.ensures.value in
    omega arith

pub returns-in-Some-get : goal.returns-in-Some-get
unfolding same_header
returns-in-Some-get c =
    let i = c.saturating_sub-at.result in
    let v : SuperValue = record { fields = c.self.inside.fields; headers = c.self.inside.headers } in
    let same = same_header_is c.in-Some-get.same c.args.header.now (sym c.eq.ensures ∙ c.if-eq.true) in
    c.header_bytes.ensures
    ∙ (ap (piece (112 + 128 * i) 128) (c.deref.ensures.value ∙ c.self.invariant.spelled) ∙ (header_stands v i c.in-Some-get.same c.self.invariant.good (sym c.get-2.ensures ∙ c.in-Some-get.is) ∙ ap header_bytes same))
