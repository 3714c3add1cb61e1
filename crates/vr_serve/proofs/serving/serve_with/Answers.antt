use Rattle.std.proofs.Common.{Err, rules, ◌≡◌, refl}
use Rattle.vr_serve.proofs.Whole.{serves_err, serves_ok, serves_unput}
use Rattle.vr_serve.proofs.serving.serve_with.Goals as goal

pub returns-in_err-put_out : goal.returns-in_err-put_out
returns-in_err-put_out g c =
    let why = c.in_err-put_out.field-0.0 in
    let is : c.from_residual.result ≡ Err why = search rules in
    rw is (serves_unput g.M.Member g.D.SectorDisk g.K.Sink g.L.Link g.C.Clock why c.in_err-put_out.ensures c.requires.number c.requires.clients)

pub returns-in_err-take_turns : goal.returns-in_err-take_turns
returns-in_err-take_turns g c =
    let why = c.in_err-take_turns.field-0.0 in
    let is : c.from_residual-in_err-take_turns.result ≡ Err why = search rules in
    rw is (serves_err g.M.Member g.D.SectorDisk g.K.Sink g.L.Link g.C.Clock why c.in_err-take_turns.ensures c.in_ok-put_out.ensures
    c.requires.number c.requires.clients c.now-last.ensures refl refl (search rules) (search rules) (search rules) (search rules))

pub returns : goal.returns
returns g c =
    serves_ok g.M.Member g.D.SectorDisk g.K.Sink g.L.Link g.C.Clock c.in_ok-take_turns.ensures c.in_ok-put_out.ensures
    c.requires.number c.requires.clients c.now-last.ensures refl refl (search rules) (search rules) (search rules) (search rules)
