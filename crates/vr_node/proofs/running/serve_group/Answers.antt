use Rattle.std.proofs.Common.{rules, ◌∙◌, [], ◌∷◌, ap, true, get_or}
use Rattle.vr_edge.specs.Attaching.{attach_of, texts_of}
use Rattle.vr_edge.specs.Told.{Grows}
use Rattle.vr_node.specs.Ending.{faults_of, outside_of}
use Rattle.vr_node.proofs.Ends.{linked, own_address}
use Rattle.vr_base.specs.Counts.{links_after}
use Rattle.vr_node.proofs.running.serve_group.Goals as goal

pub returns-in-Ok : goal.returns-in-Ok
returns-in-Ok g c =
    let role = c.args.role.now in
    let peers = texts_of role.peers.items in
    let was = c.args.link.now in
    let is = c.attach.new.self in
    let o' = outside_of g.D.SectorDisk g.L.Link g.C.Clock g.K.Sink c.serve_turns.new.disk c.serve_turns.new.link c.serve_turns.new.clock c.serve_turns.new.sink in
    let n = faults_of g.D.SectorDisk g.L.Link g.K.Sink c.serve_turns.new.disk c.serve_turns.new.link c.serve_turns.new.sink in
    let ends = c.serve_turns.ensures.ends in
    let grown : Grows (g.L.Link.attached was) (g.L.Link.attached is) (attach_of (get_or peers role.config.replica []) peers true ∷ []) = search (rules, own_address) in
    record {
      ends = linked peers role.config.replica role.turns c.args.first c.args.node.now (g.D.SectorDisk.told c.args.disk.now) (g.C.Clock.left c.args.clock.now) (g.L.Link.received was) (g.L.Link.received is)
          (g.K.Sink.taken c.args.sink.now) (g.L.Link.sent was) (g.L.Link.sent is) (g.L.Link.attached was) (g.L.Link.attached is) (g.D.SectorDisk.faults c.args.disk.now) (g.K.Sink.faults c.args.sink.now)
          (g.L.Link.faults was) (g.L.Link.faults is) o' n c.serve_turns.result c.in-Ok.ensures.received c.in-Ok.ensures.sent c.in-Ok.ensures.cause.kept grown c.serve_turns.ensures.attached ends.ends;
      disk = ends.disk;
      write = ends.write;
      links = ends.links ∙ ap (links_after c.serve_turns.result) c.in-Ok.ensures.cause.kept;
    }
