use Rattle.std.proofs.Common.{◌≡◌, ◌∙◌, ap, true, subst, sym}
use Rattle.vr_edge.specs.Attaching.{texts_of}
use Rattle.vr_node.specs.Ending.{faults_of, outside_of}
use Rattle.vr_node.specs.Opening.{Opens}
use Rattle.vr_node.specs.Stops.{disk_after}
use Rattle.vr_node.proofs.Ends.{opened, unopened, unopened_disk, unopened_links, unopened_writes}
use Rattle.vr_replica.specs.Running.{Running}
use Rattle.vr_node.proofs.running.open_and_serve.Goals as goal

pub returns-in-Ok : goal.returns-in-Ok
returns-in-Ok g c =
    let role = c.args.role.now in
    let link = c.args.link.now in
    let disk = g.D.SectorDisk.told c.args.disk.now in
    let disk' = g.D.SectorDisk.told c.open_member.new.disk in
    let first = c.open_member.new.first in
    let ends = c.serve_group.ensures in
    let o' = outside_of g.D.SectorDisk g.L.Link g.C.Clock g.K.Sink c.serve_group.new.disk c.serve_group.new.link c.serve_group.new.clock c.serve_group.new.sink in
    let n = faults_of g.D.SectorDisk g.L.Link g.K.Sink c.serve_group.new.disk c.serve_group.new.link c.serve_group.new.sink in
    let opens : Opens role.fresh role.config disk disk' first c.new.result.replica.memory =
    subst (λ (r : Running). Opens role.fresh role.config disk disk' first r.memory) (sym c.new.ensures) c.in-Ok.ensures.opened in
    let runs : c.new.result.replica.running ≡ true = subst (λ (r : Running). r.running ≡ true) (sym c.new.ensures) c.in-Ok.ensures.running in
    record {
      ends = opened role.fresh role.config (texts_of role.peers.items) role.turns first c.new.result disk disk' (g.C.Clock.left c.args.clock.now) (g.L.Link.received link)
          (g.K.Sink.taken c.args.sink.now) (g.L.Link.sent link) (g.L.Link.attached link) (g.D.SectorDisk.faults c.args.disk.now) (g.D.SectorDisk.faults c.open_member.new.disk)
          (g.K.Sink.faults c.args.sink.now) (g.L.Link.faults link) o' n c.serve_group.result opens runs c.open_member.ensures.cause.later ends.ends;
      disk = ends.disk ∙ ap (disk_after c.serve_group.result) c.in-Ok.ensures.cause.kept;
      write = ends.write;
      links = ends.links;
    }

pub returns-in-Err : goal.returns-in-Err
returns-in-Err g c =
    let role = c.args.role.now in
    let link = c.args.link.now in
    let cause = c.in-Err.ensures.cause in
    let none = c.in-Err.ensures.opened in
    record {
      ends = unopened role.fresh role.config (texts_of role.peers.items) role.turns (g.D.SectorDisk.told c.args.disk.now) (g.D.SectorDisk.told c.open_member.new.disk)
          (g.C.Clock.left c.args.clock.now) (g.L.Link.received link) (g.K.Sink.taken c.args.sink.now) (g.L.Link.sent link) (g.L.Link.attached link)
          (g.D.SectorDisk.faults c.args.disk.now) (g.D.SectorDisk.faults c.open_member.new.disk) (g.K.Sink.faults c.args.sink.now) (g.L.Link.faults link) c.in-Err.status none cause.failed;
      disk = unopened_disk c.in-Err.status _ _ cause.failed cause.spared;
      write = unopened_writes role.fresh _ _ _ c.in-Err.status _ none;
      links = unopened_links role.fresh _ _ _ c.in-Err.status _ none;
    }
