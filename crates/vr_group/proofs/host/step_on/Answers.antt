use Rattle.std.proofs.Common.{Some}
use Rattle.vr_lie.specs.Told.{version_by}
use Rattle.vr_world.specs.Lying.{hazards}
use Rattle.vr_world.specs.World.{handles}
use Rattle.vr_host_disk.specs.Disks.{told_by}
use Rattle.vr_group.proofs.Steps.{acted_on, gone_acted, gone_told, halted_acted, host_halted, host_runs, host_wanting, host_went, settled, settled_acted, some_runs}
use Rattle.vr_group.proofs.host.step_on.Goals as goal

pub returns-in-Ok-clause-host : goal.returns-in-Ok-clause-host
returns-in-Ok-clause-host c =
    let n = version_by c.args.disk.now.lie in
    settled n _ c.step.new.disk c.args.disk.now.version
    (host_runs n c.args.event.now c.in-Some.running c.step.new.self (told_by c.args.disk.now) (told_by c.step.new.disk) c.step.new.out (some_runs n _ _ _ c.in-Some.is c.requires.host) c.in-Ok.ensures.step c.in-Ok.ensures.running)

pub returns-in-Ok-clause-acted : goal.returns-in-Ok-clause-acted
returns-in-Ok-clause-acted c =
    let n = version_by c.args.disk.now.lie in
    let before = some_runs n _ _ _ c.in-Some.is c.requires.host in
    let told = (host_runs n c.args.event.now c.in-Some.running c.step.new.self (told_by c.args.disk.now) (told_by c.step.new.disk) c.step.new.out before c.in-Ok.ensures.step c.in-Ok.ensures.running).told in
    settled_acted n (Some c.step.new.self) c.step.new.disk _ _ c.args.disk.now.version told
    (acted_on n (handles hazards c.args.event.now c.args.index) c.args.replica.now c.in-Some.running (told_by c.args.disk.now) _ _ c.in-Some.is
    (host_went n c.args.index c.args.event.now c.in-Some.running c.step.new.self (told_by c.args.disk.now) (told_by c.step.new.disk) c.step.new.out before c.in-Ok.ensures.step))

pub returns-in-Err-NoMemory-clause-host : goal.returns-in-Err-NoMemory-clause-host
returns-in-Err-NoMemory-clause-host c =
    let n = version_by c.args.disk.now.lie in
    rw c.take.ensures.after
    (settled n _ c.step.new.disk c.args.disk.now.version
    (host_wanting n c.args.event.now c.in-Some.running c.step.new.self (told_by c.args.disk.now) (told_by c.step.new.disk) c.step.new.out c.in-Err-NoMemory.field-0 c.in-Err-NoMemory.field-0-is (some_runs n _ _ _ c.in-Some.is c.requires.host) c.in-Err-NoMemory.ensures.step))

pub returns-in-Err-DiskFault-clause-host : goal.returns-in-Err-DiskFault-clause-host
returns-in-Err-DiskFault-clause-host c =
    let n = version_by c.args.disk.now.lie in
    settled n _ c.halt.new.disk c.args.disk.now.version
    (gone_told n _ _ (told_by c.step.new.disk) c.halt.ensures.gone c.halt.ensures.told
    (host_halted n c.args.index c.args.event.now c.in-Some.running c.step.new.self (told_by c.args.disk.now) (told_by c.step.new.disk) c.step.new.out c.in-Err-DiskFault.field-0 c.in-Err-DiskFault.field-0-is (some_runs n _ _ _ c.in-Some.is c.requires.host) c.in-Err-DiskFault.ensures.step).1)

pub returns-in-Err-DiskFault-clause-acted : goal.returns-in-Err-DiskFault-clause-acted
returns-in-Err-DiskFault-clause-acted c =
    let n = version_by c.args.disk.now.lie in
    let h = host_halted n c.args.index c.args.event.now c.in-Some.running c.step.new.self (told_by c.args.disk.now) (told_by c.step.new.disk) c.step.new.out c.in-Err-DiskFault.field-0 c.in-Err-DiskFault.field-0-is (some_runs n _ _ _ c.in-Some.is c.requires.host) c.in-Err-DiskFault.ensures.step in
    let told = (gone_told n _ _ (told_by c.step.new.disk) c.halt.ensures.gone c.halt.ensures.told h.1).told in
    let all = gone_acted n _ _ _ (told_by c.step.new.disk) _ _ c.halt.result c.halt.ensures.gone c.halt.ensures.told c.halt.ensures.out
    (acted_on n (handles hazards c.args.event.now c.args.index) c.args.replica.now c.in-Some.running (told_by c.args.disk.now) _ _ c.in-Some.is h.0) in
    halted_acted n _ c.halt.new.disk _ _ c.halt.result c.args.disk.now.version told all
