use Rattle.std.proofs.Common.{◌≡◌, ◌∙◌, ◌-◌, ◌*◌, ◌+◌, ◌≤◌, arith, ap, sym, length, take, drop}
use Rattle.vr_base.specs.Bytes.{is_zeros}
use Rattle.vr_disk.proofs.Ends.{more_zeros}
use Rattle.vr_disk.proofs.memo.zeros_behind.Goals as goal

pub loop-k-preserved : goal.loop-k-preserved
loop-k-preserved c =
    let b = c.args.bytes.now in
    let k = c.loop-k.k in
    let within : 512 * (k + 1) ≤ length b = let t = c.loop-k-test.true in omega arith in
    let one : length b - 512 * k - (length b - 512 * k - 512) ≡ 512 = omega (arith, within) in
    more_zeros b k within c.loop-k.invariant (ap (λ n. is_zeros (take n (drop (length b - 512 * k - 512) b))) (sym one) ∙ (sym c.is_zeros.ensures ∙ c.if-not-is_zeros.false))
