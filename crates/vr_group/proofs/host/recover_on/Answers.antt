use Rattle.std.proofs.Common.{[], Some, Ok, Err, subst}
use Rattle.vr_opening.specs.Recovering.{RecoveredAny}
use Rattle.vr_lie.specs.Told.{version_by}
use Rattle.vr_host_disk.specs.Disks.{told_by}
use Rattle.vr_group.proofs.Steps.{gone_acted, gone_told, halted_acted, host_recovered, lost_unopened, none_runs, other_unopened, recovery_halted, recovery_wanting, settled, settled_acted, unopened_acted, unopened_told}
use Rattle.vr_group.proofs.host.recover_on.Goals as goal

pub returns-in-Ok-clause-host : goal.returns-in-Ok-clause-host
returns-in-Ok-clause-host c =
    let n = version_by c.args.disk.now.lie in
    let h = subst (λ v. RecoveredAny v (Some (told_by c.args.disk.now)) (Some (told_by c.recover_any.new.disk)) [] c.recover_any.new.out (Ok c.in-Ok.recovered.memory)) c.version-version.ensures c.in-Ok.ensures.recovered in
    rw c.replace.ensures.after
    (settled n _ c.recover_any.new.disk c.args.disk.now.version
    ((host_recovered n c.args.index c.in-Ok.recovered (told_by c.args.disk.now) (told_by c.recover_any.new.disk) c.recover_any.new.out c.requires.told h c.in-Ok.ensures.running).1))

pub returns-in-Ok-clause-acted : goal.returns-in-Ok-clause-acted
returns-in-Ok-clause-acted c =
    let n = version_by c.args.disk.now.lie in
    let h = subst (λ v. RecoveredAny v (Some (told_by c.args.disk.now)) (Some (told_by c.recover_any.new.disk)) [] c.recover_any.new.out (Ok c.in-Ok.recovered.memory)) c.version-version.ensures c.in-Ok.ensures.recovered in
    let x = host_recovered n c.args.index c.in-Ok.recovered (told_by c.args.disk.now) (told_by c.recover_any.new.disk) c.recover_any.new.out c.requires.told h c.in-Ok.ensures.running in
    rw c.replace.ensures.after
    (settled_acted n (Some c.in-Ok.recovered) c.recover_any.new.disk _ _ c.args.disk.now.version x.1.told x.0)

pub returns-in-Err-Halted-NoMemory-clause-host : goal.returns-in-Err-Halted-NoMemory-clause-host
returns-in-Err-Halted-NoMemory-clause-host c =
    let n = version_by c.args.disk.now.lie in
    let x = c.in-Err-Halted-NoMemory in
    let h = subst (λ v. RecoveredAny v (Some (told_by c.args.disk.now)) (Some (told_by c.recover_any.new.disk)) [] c.recover_any.new.out (Err x.field-0)) c.version-version.ensures x.ensures.recovered in
    settled n _ c.recover_any.new.disk c.args.disk.now.version
    (none_runs n _ _ c.requires.stopped
    (recovery_wanting n (told_by c.args.disk.now) (told_by c.recover_any.new.disk) c.recover_any.new.out x.field-0 x.field-0-0 x.field-0-is x.field-0-0-is c.requires.told h).told)

pub returns-in-Err-Halted-DiskFault-clause-host : goal.returns-in-Err-Halted-DiskFault-clause-host
returns-in-Err-Halted-DiskFault-clause-host c =
    let n = version_by c.args.disk.now.lie in
    let x = c.in-Err-Halted-DiskFault in
    let h = subst (λ v. RecoveredAny v (Some (told_by c.args.disk.now)) (Some (told_by c.recover_any.new.disk)) [] c.recover_any.new.out (Err x.field-0)) c.version-version.ensures x.ensures.recovered in
    settled n _ c.halt.new.disk c.args.disk.now.version
    (gone_told n _ _ (told_by c.recover_any.new.disk) c.halt.ensures.gone c.halt.ensures.told
    (recovery_halted n c.args.index (told_by c.args.disk.now) (told_by c.recover_any.new.disk) c.recover_any.new.out x.field-0 x.field-0-0 x.field-0-is x.field-0-0-is c.requires.told h).1)

pub returns-in-Err-Halted-DiskFault-clause-acted : goal.returns-in-Err-Halted-DiskFault-clause-acted
returns-in-Err-Halted-DiskFault-clause-acted c =
    let n = version_by c.args.disk.now.lie in
    let x = c.in-Err-Halted-DiskFault in
    let h = subst (λ v. RecoveredAny v (Some (told_by c.args.disk.now)) (Some (told_by c.recover_any.new.disk)) [] c.recover_any.new.out (Err x.field-0)) c.version-version.ensures x.ensures.recovered in
    let y = recovery_halted n c.args.index (told_by c.args.disk.now) (told_by c.recover_any.new.disk) c.recover_any.new.out x.field-0 x.field-0-0 x.field-0-is x.field-0-0-is c.requires.told h in
    let told = (gone_told n _ _ (told_by c.recover_any.new.disk) c.halt.ensures.gone c.halt.ensures.told y.1).told in
    halted_acted n _ c.halt.new.disk _ _ c.halt.result c.args.disk.now.version told
    (gone_acted n _ _ _ (told_by c.recover_any.new.disk) _ _ c.halt.result c.halt.ensures.gone c.halt.ensures.told c.halt.ensures.out y.0)

pub returns-in-Err-Lost-clause-host : goal.returns-in-Err-Lost-clause-host
returns-in-Err-Lost-clause-host c =
    let n = version_by c.args.disk.now.lie in
    let x = c.in-Err-Lost in
    let h = subst (λ v. RecoveredAny v (Some (told_by c.args.disk.now)) (Some (told_by c.recover_any.new.disk)) [] c.recover_any.new.out (Err x.field-0)) c.version-version.ensures x.ensures.recovered in
    let none = lost_unopened n (told_by c.args.disk.now) (told_by c.recover_any.new.disk) [] c.recover_any.new.out x.field-0 x.field-0-0 x.field-0-is h in
    settled n _ c.recover_any.new.disk c.args.disk.now.version (unopened_told n _ (told_by c.args.disk.now) (told_by c.recover_any.new.disk) c.requires.stopped c.requires.told none)

pub returns-in-Err-Lost-clause-acted : goal.returns-in-Err-Lost-clause-acted
returns-in-Err-Lost-clause-acted c =
    let n = version_by c.args.disk.now.lie in
    let x = c.in-Err-Lost in
    let h = subst (λ v. RecoveredAny v (Some (told_by c.args.disk.now)) (Some (told_by c.recover_any.new.disk)) [] c.recover_any.new.out (Err x.field-0)) c.version-version.ensures x.ensures.recovered in
    let none = lost_unopened n (told_by c.args.disk.now) (told_by c.recover_any.new.disk) [] c.recover_any.new.out x.field-0 x.field-0-0 x.field-0-is h in
    let told = (unopened_told n _ (told_by c.args.disk.now) (told_by c.recover_any.new.disk) c.requires.stopped c.requires.told none).told in
    settled_acted n _ c.recover_any.new.disk _ _ c.args.disk.now.version told (unopened_acted n c.args.index _ (told_by c.args.disk.now) (told_by c.recover_any.new.disk) _ c.requires.stopped x.ensures.halt none)

pub returns-in-Err-OtherVersion-clause-host : goal.returns-in-Err-OtherVersion-clause-host
returns-in-Err-OtherVersion-clause-host c =
    let n = version_by c.args.disk.now.lie in
    let x = c.in-Err-OtherVersion in
    let h = subst (λ v. RecoveredAny v (Some (told_by c.args.disk.now)) (Some (told_by c.recover_any.new.disk)) [] c.recover_any.new.out (Err x.field-0)) c.version-version.ensures x.ensures.recovered in
    let none = other_unopened n (told_by c.args.disk.now) (told_by c.recover_any.new.disk) [] c.recover_any.new.out x.field-0 x.field-0-is h in
    settled n _ c.recover_any.new.disk c.args.disk.now.version (unopened_told n _ (told_by c.args.disk.now) (told_by c.recover_any.new.disk) c.requires.stopped c.requires.told none)

pub returns-in-Err-OtherVersion-clause-acted : goal.returns-in-Err-OtherVersion-clause-acted
returns-in-Err-OtherVersion-clause-acted c =
    let n = version_by c.args.disk.now.lie in
    let x = c.in-Err-OtherVersion in
    let h = subst (λ v. RecoveredAny v (Some (told_by c.args.disk.now)) (Some (told_by c.recover_any.new.disk)) [] c.recover_any.new.out (Err x.field-0)) c.version-version.ensures x.ensures.recovered in
    let none = other_unopened n (told_by c.args.disk.now) (told_by c.recover_any.new.disk) [] c.recover_any.new.out x.field-0 x.field-0-is h in
    let told = (unopened_told n _ (told_by c.args.disk.now) (told_by c.recover_any.new.disk) c.requires.stopped c.requires.told none).told in
    settled_acted n _ c.recover_any.new.disk _ _ c.args.disk.now.version told (unopened_acted n c.args.index _ (told_by c.args.disk.now) (told_by c.recover_any.new.disk) _ c.requires.stopped x.ensures.halt none)
