use Rattle.std.proofs.Common.{ℕ, refl, Some, Ok, subst}
use Rattle.vr_base.specs.declared.kind.Kind.{Kind}
use Rattle.vr_base.specs.declared.mode.Mode.TheVariants.{Strict}
use Rattle.vr_base.specs.declared.table.Config.{Config}
use Rattle.vr_opening.specs.Making.{Made}
use Rattle.vr_embed.specs.Told.{told_by}
use Rattle.vr_embed.proofs.Acting.{fresh_shown}
use Rattle.vr_embed.proofs.member.Member.new.Goals as goal

abbrev config : ℕ → Config
config index = record { cluster = 0; replica = index; n = 3 }

abbrev of_version : ℕ → Kind
of_version v = record { mode = Strict; version = v }

pub returns-in-Ok : goal.returns-in-Ok
returns-in-Ok c =
    let at = config c.args.index in
    let made = subst (λ v. Made (of_version v) at (Some (told_by c.in_ok-disk.disk)) (Some (told_by c.fresh.new.disk)) (Ok c.in-Ok.replica.memory)) c.version.ensures c.in-Ok.ensures.made in
    fresh_shown at c.in-Ok.replica (told_by c.in_ok-disk.disk) (told_by c.fresh.new.disk) c.in_ok-disk.ensures.face c.in_ok-disk.ensures.fate made refl c.in-Ok.ensures.running
