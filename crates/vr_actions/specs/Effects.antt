-- Effects of what is given.
use Rattle.std.specs.Prelude.{ℕ, List}
use Rattle.vr_header.specs.declared.header.Header.{Header}
use Rattle.vr_ckpt.specs.declared.name.Name.{Name}
use Rattle.vr_rules.specs.Replica.{Replica}
use Rattle.vr_rules.specs.Steps.{Effect, Rewrite, PutBlock}

unfoldable pub rewrites : Header → Replica → Effect
rewrites h r = Rewrite h

unfoldable pub puts : Name → List ℕ → Replica → Effect
puts name block r = PutBlock name block
