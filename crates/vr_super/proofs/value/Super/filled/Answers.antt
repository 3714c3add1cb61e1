use Rattle.std.proofs.Common.{◌≡◌, ◌+◌, ◌*◌, ◌/◌, ◌≤◌, arith, length}
use Rattle.vr_super.specs.Copies.{SuperValue}
use Rattle.vr_super.proofs.Behind.{few, zeros_behind}
use Rattle.vr_super.proofs.value.Super.filled.Goals as goal

pub overflow_cast-result : goal.overflow_cast-result
overflow_cast-result c =
    let v : SuperValue = record { fields = c.self.inside.fields; headers = c.self.inside.headers } in
    let l = few v c.self.invariant.good in
    let n : c.len.result ≡ length v.headers = c.len.ensures in
    omega arith

pub overflow_add-result : goal.overflow_add-result
overflow_add-result c =
    let v : SuperValue = record { fields = c.self.inside.fields; headers = c.self.inside.headers } in
    let l = few v c.self.invariant.good in
    let n : c.len.result ≡ length v.headers = c.len.ensures in
    omega arith

pub returns-clause-most : goal.returns-clause-most
returns-clause-most c =
    let v : SuperValue = record { fields = c.self.inside.fields; headers = c.self.inside.headers } in
    let l = few v c.self.invariant.good in
    let n : c.len.result ≡ length v.headers = c.len.ensures in
    omega arith

pub returns-clause-zeros : goal.returns-clause-zeros
returns-clause-zeros c =
    let v : SuperValue = record { fields = c.self.inside.fields; headers = c.self.inside.headers } in
    let l = few v c.self.invariant.good in
    let n : c.len.result ≡ length v.headers = c.len.ensures in
    let room : 128 + 128 * length v.headers ≤ 512 * (1 + c.len.result / 4) = omega arith in
    rw (← c.self.view_is) (zeros_behind v (1 + c.len.result / 4) c.self.invariant.good room (omega arith))
