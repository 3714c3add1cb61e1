use Rattle.std.proofs.Common.{◌≡◌, ◌∙◌, ap, arith}
use Rattle.vr_draws.specs.Drawn.{drawn_size}
use Rattle.vr_world.specs.Lying.{Lying}
use Rattle.vr_world.specs.World.{World}
use Rattle.cmd_soak.specs.Made.{size_of}
use Rattle.cmd_soak.proofs.Going.{fresh_size, soaking_first}
use Rattle.cmd_soak.proofs.soaking.Soaking.new.Goals as goal

pub returns-clause-soaking : goal.returns-clause-soaking
returns-clause-soaking c =
    let n : c.size-n.result ≡ size_of c.args.seed = rw c.new-generator.ensures at c.size-n.ensures.size in
    let number : c.size-n.new.self.number ≡ (drawn_size c.args.seed).number = rw c.new-generator.ensures at c.size-n.ensures.number in
    soaking_first (size_of c.args.seed) (drawn_size c.args.seed).number _ (rw (n, c.of_mode.ensures) at c.in_ok-group.ensures.world) number c.new-heard.ensures

pub returns-clause-size : goal.returns-clause-size
returns-clause-size c =
    let e : c.in_ok-group.group.world.n ≡ c.size-n.result = ap (λ (w : World Lying). w.n) (rw c.of_mode.ensures at c.in_ok-group.ensures.world) ∙ fresh_size c.size-n.result in
    let least = c.size-n.ensures.bounds.0 in
    omega (arith, e, least)
