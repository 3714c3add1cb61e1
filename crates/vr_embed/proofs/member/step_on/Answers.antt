use Rattle.std.proofs.Common.{[], ◌∷◌, Some, None}
use Rattle.vr_msg.specs.declared.output.Output.TheVariants as output
use Rattle.vr_world.specs.Lying.{hazards}
use Rattle.vr_world.specs.World.{handles}
use Rattle.vr_host_disk.specs.Laws.{revived}
use Rattle.vr_embed.specs.Told.{told_by}
use Rattle.vr_embed.proofs.Acting.{acts_from, acts_gone, step_acts, step_halts}
use Rattle.vr_embed.proofs.member.step_on.Goals as goal

pub returns-in-Ok : goal.returns-in-Ok
returns-in-Ok c =
    acts_from (handles hazards c.args.event.now c.args.index) c.args.replica.now (Some c.in-Some.running) (Some c.step.new.self) (told_by c.args.disk.now) (told_by c.step.new.disk) c.step.new.out c.in-Some.is
    (step_acts c.args.index c.args.event.now c.in-Some.running c.step.new.self (told_by c.args.disk.now) (told_by c.step.new.disk) c.step.new.out c.in-Ok.ensures.step c.in-Ok.ensures.running)

pub returns-in-Err-DiskFault : goal.returns-in-Err-DiskFault
returns-in-Err-DiskFault c =
    let x = c.in-Err-DiskFault in
    acts_gone (handles hazards c.args.event.now c.args.index) c.args.replica.now c.halt.new.replica (told_by c.args.disk.now) (told_by c.halt.new.disk) (told_by c.step.new.disk) c.halt.new.out (output.Halted c.args.index ∷ []) c.halt.result c.halt.ensures.gone c.halt.ensures.told c.halt.ensures.out
    (acts_from (handles hazards c.args.event.now c.args.index) c.args.replica.now (Some c.in-Some.running) None (told_by c.args.disk.now) (revived (told_by c.step.new.disk)) (output.Halted c.args.index ∷ []) c.in-Some.is
    (step_halts c.args.index c.args.event.now c.in-Some.running c.step.new.self (told_by c.args.disk.now) (told_by c.step.new.disk) c.step.new.out x.field-0 x.field-0-is x.ensures.step))
