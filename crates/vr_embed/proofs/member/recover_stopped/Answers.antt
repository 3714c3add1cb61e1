use Rattle.std.proofs.Common.{[], ◌∷◌, Some, None, Ok, Err, subst}
use Rattle.vr_msg.specs.declared.output.Output.TheVariants as output
use Rattle.vr_host_disk.specs.Laws.{revived}
use Rattle.vr_world.specs.Lying.{hazards}
use Rattle.vr_world.specs.World.{starts}
use Rattle.vr_opening.specs.Recovering.{RecoveredAny}
use Rattle.vr_embed.specs.Told.{told_by}
use Rattle.vr_group.proofs.Steps.{lost_unopened, other_unopened}
use Rattle.vr_embed.proofs.Acting.{acts_from, acts_gone, acts_to, recover_acts, recover_halts, recover_loses}
use Rattle.vr_embed.proofs.member.recover_stopped.Goals as goal

pub returns-in-Ok : goal.returns-in-Ok
returns-in-Ok c =
    let act = starts hazards c.args.index in
    let h = subst (λ v. RecoveredAny v (Some (told_by c.args.disk.now)) (Some (told_by c.recover_any.new.disk)) [] c.recover_any.new.out (Ok c.in-Ok.recovered.memory)) c.version.ensures c.in-Ok.ensures.recovered in
    acts_to act c.args.replica.now c.replace.new.self (Some c.in-Ok.recovered) (told_by c.args.disk.now) (told_by c.recover_any.new.disk) c.recover_any.new.out c.replace.ensures.after
    (acts_from act c.args.replica.now None (Some c.in-Ok.recovered) (told_by c.args.disk.now) (told_by c.recover_any.new.disk) c.recover_any.new.out c.requires
    (recover_acts c.args.index c.in-Ok.recovered (told_by c.args.disk.now) (told_by c.recover_any.new.disk) c.recover_any.new.out h c.in-Ok.ensures.running))

pub returns-in-Err-Halted-DiskFault : goal.returns-in-Err-Halted-DiskFault
returns-in-Err-Halted-DiskFault c =
    let act = starts hazards c.args.index in
    let x = c.in-Err-Halted-DiskFault in
    let h = subst (λ v. RecoveredAny v (Some (told_by c.args.disk.now)) (Some (told_by c.recover_any.new.disk)) [] c.recover_any.new.out (Err x.field-0)) c.version.ensures x.ensures.recovered in
    acts_gone act c.args.replica.now c.halt.new.replica (told_by c.args.disk.now) (told_by c.halt.new.disk) (told_by c.recover_any.new.disk) c.halt.new.out (output.Halted c.args.index ∷ []) c.halt.result c.halt.ensures.gone c.halt.ensures.told c.halt.ensures.out
    (acts_from act c.args.replica.now None None (told_by c.args.disk.now) (revived (told_by c.recover_any.new.disk)) (output.Halted c.args.index ∷ []) c.requires
    (recover_halts c.args.index (told_by c.args.disk.now) (told_by c.recover_any.new.disk) c.recover_any.new.out x.field-0 x.field-0-0 x.field-0-is x.field-0-0-is h))

pub returns-in-Err-Lost : goal.returns-in-Err-Lost
returns-in-Err-Lost c =
    let act = starts hazards c.args.index in
    let x = c.in-Err-Lost in
    let h = subst (λ v. RecoveredAny v (Some (told_by c.args.disk.now)) (Some (told_by c.recover_any.new.disk)) [] c.recover_any.new.out (Err x.field-0)) c.version.ensures x.ensures.recovered in
    acts_to act c.args.replica.now c.args.replica.now None (told_by c.args.disk.now) (told_by c.recover_any.new.disk) c.recover_any.new.out c.requires
    (acts_from act c.args.replica.now None None (told_by c.args.disk.now) (told_by c.recover_any.new.disk) c.recover_any.new.out c.requires
    (recover_loses c.args.index (told_by c.args.disk.now) (told_by c.recover_any.new.disk) c.recover_any.new.out x.ensures.halt
    (lost_unopened 2 (told_by c.args.disk.now) (told_by c.recover_any.new.disk) [] c.recover_any.new.out x.field-0 x.field-0-0 x.field-0-is h)))

pub returns-in-Err-OtherVersion : goal.returns-in-Err-OtherVersion
returns-in-Err-OtherVersion c =
    let act = starts hazards c.args.index in
    let x = c.in-Err-OtherVersion in
    let h = subst (λ v. RecoveredAny v (Some (told_by c.args.disk.now)) (Some (told_by c.recover_any.new.disk)) [] c.recover_any.new.out (Err x.field-0)) c.version.ensures x.ensures.recovered in
    acts_to act c.args.replica.now c.args.replica.now None (told_by c.args.disk.now) (told_by c.recover_any.new.disk) c.recover_any.new.out c.requires
    (acts_from act c.args.replica.now None None (told_by c.args.disk.now) (told_by c.recover_any.new.disk) c.recover_any.new.out c.requires
    (recover_loses c.args.index (told_by c.args.disk.now) (told_by c.recover_any.new.disk) c.recover_any.new.out x.ensures.halt
    (other_unopened 2 (told_by c.args.disk.now) (told_by c.recover_any.new.disk) [] c.recover_any.new.out x.field-0 x.field-0-is h)))
