use Rattle.std.proofs.Common.{◌∙◌, ap, List, [], ◌∷◌, ◌++◌}
use Rattle.vr_msg.specs.declared.output.Output.{Output}
use Rattle.vr_msg.specs.declared.output.Output.TheVariants as output
use Rattle.vr_lie.specs.Told.{version_by}
use Rattle.vr_host_disk.specs.Disks.{told_by}
use Rattle.vr_group.proofs.Migrates.{ended_acted, halted_acted, halted_told, lost_unopened, migrated_acted, migrated_told, other_unopened, stopped_host, unopened_acted, unopened_told, wanting_told}
use Rattle.vr_group.proofs.Steps.{none_runs}
use Rattle.vr_group.proofs.host.migrate_on.Goals as goal

pub settle-requires : goal.settle-requires
settle-requires c = migrated_told (version_by c.args.disk.now.lie) (told_by c.args.disk.now) c.migrate_any.new.disk c.requires.first c.requires.told c.in-Ok.ensures.migrated

pub returns-in_err-halt-in-Err-Halted-DiskFault-clause-host : goal.returns-in_err-halt-in-Err-Halted-DiskFault-clause-host
returns-in_err-halt-in-Err-Halted-DiskFault-clause-host c =
    let x = c.in-Err-Halted-DiskFault in
    none_runs _ _ _ c.halt.ensures.gone
    (halted_told (version_by c.args.disk.now.lie) (told_by c.args.disk.now) (told_by c.migrate_any.new.disk) c.halt.new.disk x.field-0 x.field-0-0 x.field-0-is x.field-0-0-is c.requires.first c.requires.told x.ensures.migrated c.halt.ensures.told)

pub settle-requires-in-Err-Halted-DiskFault : goal.settle-requires-in-Err-Halted-DiskFault
settle-requires-in-Err-Halted-DiskFault c =
    let x = c.in-Err-Halted-DiskFault in
    halted_told (version_by c.args.disk.now.lie) (told_by c.args.disk.now) (told_by c.migrate_any.new.disk) c.halt.new.disk x.field-0 x.field-0-0 x.field-0-is x.field-0-0-is c.requires.first c.requires.told x.ensures.migrated c.halt.ensures.told

pub returns-in_ok-push-in-Ok-clause-acted : goal.returns-in_ok-push-in-Ok-clause-acted
returns-in_ok-push-in-Ok-clause-acted c =
    ended_acted _ c.args.replica.now c.settle.new.disk _ _ c.requires.stopped (c.in_ok-push-in-Ok.ensures.ok ∙ ap (λ (o : List Output). o ++ output.Migrated c.args.index ∷ []) c.requires.empty)
    (migrated_acted (version_by c.args.disk.now.lie) c.args.index (told_by c.args.disk.now) c.migrate_any.new.disk c.settle.new.disk c.requires.first c.requires.told c.in-Ok.ensures.migrated c.settle.ensures.lying c.settle.ensures.fate)

pub returns-in-Err-Halted-NoMemory-clause-host : goal.returns-in-Err-Halted-NoMemory-clause-host
returns-in-Err-Halted-NoMemory-clause-host c =
    let x = c.in-Err-Halted-NoMemory in
    none_runs _ _ _ c.requires.stopped
    (wanting_told (version_by c.args.disk.now.lie) (told_by c.args.disk.now) c.migrate_any.new.disk x.field-0 x.field-0-0 x.field-0-is x.field-0-0-is c.requires.first c.requires.told x.ensures.migrated)

pub returns-in_ok-halt-in-Err-Halted-DiskFault-clause-acted : goal.returns-in_ok-halt-in-Err-Halted-DiskFault-clause-acted
returns-in_ok-halt-in-Err-Halted-DiskFault-clause-acted c =
    let x = c.in-Err-Halted-DiskFault in
    ended_acted _ c.halt.new.replica c.settle-in-Err-Halted-DiskFault.new.disk _ _ c.halt.ensures.gone c.in_ok-halt-in-Err-Halted-DiskFault.ensures.out
    (halted_acted (version_by c.args.disk.now.lie) c.args.index (told_by c.args.disk.now) (told_by c.migrate_any.new.disk) c.halt.new.disk c.settle-in-Err-Halted-DiskFault.new.disk x.field-0 x.field-0-0 x.field-0-is x.field-0-0-is c.requires.first c.requires.told x.ensures.migrated c.halt.ensures.told c.settle-in-Err-Halted-DiskFault.ensures.lying c.settle-in-Err-Halted-DiskFault.ensures.fate)

pub returns-in-Err-Lost-clause-host : goal.returns-in-Err-Lost-clause-host
returns-in-Err-Lost-clause-host c =
    let x = c.in-Err-Lost in
    none_runs _ _ _ c.requires.stopped (unopened_told (version_by c.args.disk.now.lie) (told_by c.args.disk.now) c.migrate_any.new.disk c.requires.first c.requires.told (lost_unopened _ _ x.field-0 x.field-0-0 x.field-0-is x.ensures.migrated))

pub returns-in-Err-Lost-clause-acted : goal.returns-in-Err-Lost-clause-acted
returns-in-Err-Lost-clause-acted c =
    let x = c.in-Err-Lost in
    stopped_host _ c.args.replica.now c.migrate_any.new.disk _ c.requires.stopped
    (unopened_acted (version_by c.args.disk.now.lie) c.args.index (told_by c.args.disk.now) c.migrate_any.new.disk _ c.requires.first c.requires.empty c.requires.told (lost_unopened _ _ x.field-0 x.field-0-0 x.field-0-is x.ensures.migrated))

pub returns-in-Err-OtherVersion-clause-host : goal.returns-in-Err-OtherVersion-clause-host
returns-in-Err-OtherVersion-clause-host c =
    let x = c.in-Err-OtherVersion in
    none_runs _ _ _ c.requires.stopped (unopened_told (version_by c.args.disk.now.lie) (told_by c.args.disk.now) c.migrate_any.new.disk c.requires.first c.requires.told (other_unopened _ _ x.field-0 x.field-0-is x.ensures.migrated))

pub returns-in-Err-OtherVersion-clause-acted : goal.returns-in-Err-OtherVersion-clause-acted
returns-in-Err-OtherVersion-clause-acted c =
    let x = c.in-Err-OtherVersion in
    stopped_host _ c.args.replica.now c.migrate_any.new.disk _ c.requires.stopped
    (unopened_acted (version_by c.args.disk.now.lie) c.args.index (told_by c.args.disk.now) c.migrate_any.new.disk _ c.requires.first c.requires.empty c.requires.told (other_unopened _ _ x.field-0 x.field-0-is x.ensures.migrated))
