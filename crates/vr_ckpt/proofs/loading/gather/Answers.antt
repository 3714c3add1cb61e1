use Rattle.std.proofs.Common.{◌≡◌, ◌∙◌, ap, arith, refl, get_or, []}
use Rattle.vr_disk.specs.DiskState.{Disk}
use Rattle.vr_disk.proofs.Telling.{if_some, some_if}
use Rattle.vr_ckpt.specs.declared.name.Name.{Name}
use Rattle.vr_ckpt.specs.Loads.{data_at, gathered}
use Rattle.vr_ckpt.specs.declared.loading.Gathered.{Gathered}
use Rattle.vr_ckpt.proofs.Gathering.{gathers_end, gathers_on, gathers_start}
use Rattle.vr_ckpt.proofs.loading.gather.Goals as goal

-- what a look-up past the end gives
abbrev none : Name
none = record { address = 0; sum = record { 0 = [] } }

pub loop-name-init : goal.loop-name-init
loop-name-init g c = record { told = refl; faults = refl; reads = omega arith; rest = λ d e. rw (c.new-payloads.ensures, c.new-missing.ensures) (gathers_start (gathered d.face c.args.size c.args.names.now)) }

pub loop-name-preserved : goal.loop-name-preserved
loop-name-preserved g c =
    let n = get_or c.args.names.now c.loop-name.name-index none in
    let told = c.loop-name.invariant.told in
    record {
      told = c.in_ok-found.ensures.untouched.told ∙ told;
      faults = c.in_ok-found.ensures.untouched.faults ∙ c.loop-name.invariant.faults;
      reads = omega (arith, c.in_ok-found.ensures.reads, c.loop-name.invariant.reads);
      rest = λ d e.
          let found = some_if (λ (d : Disk). c.in_ok-found.found ≡ data_at d.face n c.min.result) (g.D.SectorDisk.told c.loop-name.disk) d c.in_ok-found.ensures.value (told ∙ e) in
          gathers_on d.face c.loop-name.left c.saturating_sub-left.result c.loop-name.name-index c.args.names.now n none c.in_ok-found.found c.loop-name.payloads c.add.new.payloads c.loop-name.missing c.add.new.missing
          (gathered d.face c.args.size c.args.names.now) c.loop-name-test.true refl (found ∙ ap (data_at d.face n) c.min.ensures) c.saturating_sub-left.ensures c.in_ok-add.ensures (c.loop-name.invariant.rest d e);
    }

pub returns-clause-value : goal.returns-clause-value
returns-clause-value g c =
    if_some (λ (d : Disk). (let y : Gathered = record { payloads = c.loop-name.payloads; missing = c.loop-name.missing } in y) ≡ gathered d.face c.args.size c.args.names.now) (g.D.SectorDisk.told c.args.disk.now)
    (λ d e. gathers_end d.face c.loop-name.left c.loop-name.name-index c.args.names.now c.loop-name.payloads c.loop-name.missing (gathered d.face c.args.size c.args.names.now) c.loop-name-test.false (c.loop-name.invariant.rest d e))
