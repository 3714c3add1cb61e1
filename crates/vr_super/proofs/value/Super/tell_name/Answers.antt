use Rattle.std.proofs.Common.{◌∙◌, ◌+◌, ◌*◌, arith, sym, ap, length, List, ℕ}
use Rattle.vr_base.specs.Bytes.{piece}
use Rattle.vr_base.specs.declared.sum.Sum.{Sum}
use Rattle.vr_super.specs.Copies.{SuperValue}
use Rattle.vr_super.proofs.Shared.{name_stands, stands_within}
use Rattle.vr_super.proofs.value.Super.tell_name.Goals as goal

pub overflow_mul-at : goal.overflow_mul-at
overflow_mul-at c =
    let v : SuperValue = record { fields = c.self.inside.fields; headers = c.self.inside.headers } in
    let l = stands_within v c.args.at c.in-Some.header c.self.invariant.good (sym c.get.ensures ∙ c.in-Some.is) in
    omega arith

pub overflow_add-at : goal.overflow_add-at
overflow_add-at c =
    let v : SuperValue = record { fields = c.self.inside.fields; headers = c.self.inside.headers } in
    let l = stands_within v c.args.at c.in-Some.header c.self.invariant.good (sym c.get.ensures ∙ c.in-Some.is) in
    omega arith

pub sum_at-requires : goal.sum_at-requires
sum_at-requires c =
    let v : SuperValue = record { fields = c.self.inside.fields; headers = c.self.inside.headers } in
    let l = stands_within v c.args.at c.in-Some.header c.self.invariant.good (sym c.get.ensures ∙ c.in-Some.is) in
    let n = c.self.invariant.size in
    let s = ap length c.deref.ensures.value in
    omega arith

pub keep-requires : goal.keep-requires
keep-requires c =
    let v : SuperValue = record { fields = c.self.inside.fields; headers = c.self.inside.headers } in
    let made : List ℕ → Sum = λ x. record { 0 = x } in
    ap made (c.sum_at.ensures ∙ (ap (piece (112 + 128 * c.args.at) 16) (c.deref.ensures.value ∙ c.self.invariant.spelled) ∙ name_stands v c.args.at c.in-Some.header c.self.invariant.good (sym c.get.ensures ∙ c.in-Some.is)))
