use Rattle.std.proofs.Common.{rules, ◌∙◌}
use Rattle.vr_node.specs.Ending.{faults_of, outside_of}
use Rattle.vr_node.proofs.Ends.{cut_off, stop_disk, stop_links, stop_writes}
use Rattle.vr_node.proofs.running.serve_turns.Goals as goal

pub returns-in-Err-clause-ends : goal.returns-in-Err-clause-ends
returns-in-Err-clause-ends g c =
    let o = outside_of g.D.SectorDisk g.L.Link g.C.Clock g.K.Sink c.args.disk.now c.args.link.now c.args.clock.now c.args.sink.now in
    let o' = outside_of g.D.SectorDisk g.L.Link g.C.Clock g.K.Sink c.serve.new.disk c.serve.new.link c.serve.new.clock c.serve.new.sink in
    let b = faults_of g.D.SectorDisk g.L.Link g.K.Sink c.args.disk.now c.args.link.now c.args.sink.now in
    let n = faults_of g.D.SectorDisk g.L.Link g.K.Sink c.serve.new.disk c.serve.new.link c.serve.new.sink in
    let stop = c.in-Err.stop in
    let causes = c.in-Err.ensures.causes in
    rw c.status_of.ensures (record {
      ends = cut_off c.args.turns c.args.first c.args.node.now o o' b n stop causes (λ e. c.serve.ensures.linked (c.in-Err.is ∙ e)) c.in-Err.ensures.cut;
      disk = stop_disk stop b.disk n.disk causes.disk;
      write = stop_writes stop b.write n.write causes.write;
      links = stop_links stop b.link n.link causes.link;
    })
