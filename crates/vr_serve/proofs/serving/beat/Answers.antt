use Rattle.std.proofs.Common.{Err, arith, rules, ◌≡◌}
use Rattle.vr_serve.proofs.Keeping.{handles_err, handles_none, handles_ok}
use Rattle.vr_serve.proofs.Turning.{due_none, due_tick}
use Rattle.vr_serve.proofs.serving.beat.Goals as goal

pub returns-then-now-last-clause-handles : goal.returns-then-now-last-clause-handles
returns-then-now-last-clause-handles g c =
    handles_none g.M.Member g.D.SectorDisk g.K.Sink g.L.Link c.args.objects.now c.args.post.now _ _ (due_none c.args.last c.args.now (omega (arith, c.if-now-last.true))) c.requires

pub returns-then-now-last-lt-TICK-clause-handles : goal.returns-then-now-last-lt-TICK-clause-handles
returns-then-now-last-lt-TICK-clause-handles g c =
    handles_none g.M.Member g.D.SectorDisk g.K.Sink g.L.Link c.args.objects.now c.args.post.now _ _
    (due_none c.args.last c.args.now (omega (arith, c.if-now-last.false, c.if-now-last-lt-TICK.true))) c.requires

pub returns-in_err-handle-clause-handles : goal.returns-in_err-handle-clause-handles
returns-in_err-handle-clause-handles g c =
    let why = c.in_err-handle.field-0.0 in
    let is : c.from_residual.result ≡ Err why = search rules in
    rw is (handles_err g.M.Member g.D.SectorDisk g.K.Sink g.L.Link c.args.objects.now c.handle.new.objects c.args.post.now c.handle.new.post _ _ why
    (due_tick c.args.last c.args.now (omega (arith, c.if-now-last.false, c.if-now-last-lt-TICK.false))) c.in_err-handle.ensures)

pub returns-clause-handles : goal.returns-clause-handles
returns-clause-handles g c =
    handles_ok g.M.Member g.D.SectorDisk g.K.Sink g.L.Link c.args.objects.now c.handle.new.objects c.args.post.now c.handle.new.post _ _ _ _
    (due_tick c.args.last c.args.now (omega (arith, c.if-now-last.false, c.if-now-last-lt-TICK.false))) c.in_ok-handle.ensures
