-- A group has a member that may be asked.
use Rattle.std.proofs.Common.{◌≡◌, ◌<◌, ℕ, arith, true}
use Rattle.vr_base.specs.Groups.{is_size}
use Rattle.vr_base.proofs.Members.{least_of, sized}

pub asks_one : (version n : ℕ) → is_size version n ≡ true → 0 < n
asks_one version n e =
    let some = least_of version in
    let enough = sized version n e in
    omega (arith, some.0, enough.0)
