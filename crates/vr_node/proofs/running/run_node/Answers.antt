use Rattle.std.proofs.Common.{rules, ◌∙◌, ap, true}
use Rattle.std.specs.Prelude.{string_bytes}
use Rattle.vr_disk.specs.DiskState.{Attaches}
use Rattle.vr_edge.specs.Attaching.{texts_of}
use Rattle.vr_node.specs.Ending.{faults_of, outside_of}
use Rattle.vr_node.specs.Stops.{disk_after}
use Rattle.vr_node.proofs.Ends.{attached, ends_at_link}
use Rattle.vr_node.proofs.running.run_node.Goals as goal

pub returns-in-Ok : goal.returns-in-Ok
returns-in-Ok g c =
    let role = c.args.role.now in
    let file = string_bytes role.file in
    let link = c.args.link.now in
    let disk = g.D.SectorDisk.told c.args.disk.now in
    let disk' = g.D.SectorDisk.told c.attach.new.self in
    let ends = c.open_and_serve.ensures in
    let o' = outside_of g.D.SectorDisk g.L.Link g.C.Clock g.K.Sink c.open_and_serve.new.disk c.open_and_serve.new.link c.open_and_serve.new.clock c.open_and_serve.new.sink in
    let n = faults_of g.D.SectorDisk g.L.Link g.K.Sink c.open_and_serve.new.disk c.open_and_serve.new.link c.open_and_serve.new.sink in
    let went : Attaches file disk disk' true = search rules in
    record {
      ends = attached role.fresh role.config file (texts_of role.peers.items) role.turns disk disk' (g.C.Clock.left c.args.clock.now) (g.L.Link.received link) (g.K.Sink.taken c.args.sink.now)
          (g.L.Link.sent link) (g.L.Link.attached link) (g.D.SectorDisk.faults c.args.disk.now) (g.D.SectorDisk.faults c.attach.new.self) (g.K.Sink.faults c.args.sink.now) (g.L.Link.faults link)
          o' n c.open_and_serve.result went c.in-Ok.ensures.cause.kept ends.ends;
      disk = ends.disk ∙ ap (disk_after c.open_and_serve.result) c.in-Ok.ensures.cause.kept;
      write = ends.write;
      links = ends.links;
      link = λ is. ends_at_link _ _ _ _ _ _ _ _ c.open_and_serve.result ends.ends is;
    }
