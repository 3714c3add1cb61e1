use Rattle.std.proofs.Common.{ℕ, ◌≡◌, ◌-◌, ◌∙◌, ap, arith, cond, length, sym, take, Bool}
use Rattle.std.specs.Prelude.{replicate}
use Rattle.vr_rings.specs.Slots.{in_front}
use Rattle.vr_lie.proofs.Early.{front_held}
use Rattle.vr_lie.proofs.table.Held.whole.Goals as goal

pub returns-then-self : goal.returns-then-self
returns-then-self c =
    let p = c.args.self.now.prepare in
    let b = c.split_at_mut-rest.result.0.now in
    let z = c.fill.new.self in
    let n : ℕ = length c.split_at_mut-rest.result.1.now in
    let zeros : z ≡ replicate n 0 = c.fill.ensures.after (λ y e. e) in
    let long : n ≡ 4096 - length b = (let l = c.split_at_mut-rest.ensures.back_len in let k = c.split_at_mut-rest.ensures.front_len in omega (arith, l, k)) in
    let same : b ≡ take 512 p = c.split_at_mut-rest.ensures.front in
    front_held b z n zeros long ∙ (ap in_front same ∙ ap (λ (s : Bool). cond s (in_front (take 512 p)) p) (sym c.if-self.true))
