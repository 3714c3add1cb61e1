use Rattle.std.proofs.Common.{◌≡◌, ◌≤◌, refl, ap, subst}
use Rattle.vr_world.specs.Lying.{Lying, blank_lying}
use Rattle.vr_host_disk.specs.Disks.{told_by}
use Rattle.vr_host_disk.specs.Told.{lying_in}
use Rattle.vr_group.proofs.Steps.{fresh_host_made}
use Rattle.vr_group.proofs.host.Host.new.Goals as goal

pub invariant_of-result : goal.invariant_of-result
invariant_of-result c =
    let e = c.in_ok-disk.ensures in
    let same = ap (λ (x : Lying). x.version) e.lying in
    let bounds = subst (λ v. (1 ≤ v) × (v ≤ 2)) same c.in_ok-disk.disk.version in
    let zeros = subst (λ v. lying_in v (told_by c.in_ok-disk.disk) ≡ blank_lying c.args.kind.now.version) same e.lying in
    (fresh_host_made c.args.kind.now _ c.in-Ok.replica (told_by c.in_ok-disk.disk) c.fresh.new.disk bounds e.told zeros e.fate c.in-Ok.ensures.made refl c.in-Ok.ensures.running).1

pub returns-in-Ok : goal.returns-in-Ok
returns-in-Ok c =
    let e = c.in_ok-disk.ensures in
    let same = ap (λ (x : Lying). x.version) e.lying in
    let bounds = subst (λ v. (1 ≤ v) × (v ≤ 2)) same c.in_ok-disk.disk.version in
    let zeros = subst (λ v. lying_in v (told_by c.in_ok-disk.disk) ≡ blank_lying c.args.kind.now.version) same e.lying in
    (fresh_host_made c.args.kind.now _ c.in-Ok.replica (told_by c.in_ok-disk.disk) c.fresh.new.disk bounds e.told zeros e.fate c.in-Ok.ensures.made refl c.in-Ok.ensures.running).0
