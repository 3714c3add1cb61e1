use Rattle.std.proofs.Common.{◌≡◌, ◌∙◌, ◌-◌, ◌++◌, ap, drop, length, replicate}
use Rattle.vr_io_policy.specs.declared.cached.Cached.TheVariants.{Unknown}
use Rattle.vr_io_policy.proofs.Gathering.{kept_between}
use Rattle.vr_io_policy.proofs.cache.forget_around.Goals as goal

pub returns : goal.returns
returns c =
    let xs = c.args.sectors.now in
    c.forget_front.ensures ∙ ap (λ zs. replicate c.args.first Unknown ++ zs) (ap (λ zs. drop c.args.first zs) c.forget_back.ensures ∙ kept_between xs (replicate (length xs - c.args.end) Unknown) c.args.first c.args.end c.requires.order c.requires.within)
