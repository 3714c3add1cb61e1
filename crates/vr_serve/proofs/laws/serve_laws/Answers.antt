use Rattle.vr_serve.proofs.Stilling.{cuts_the_same, refused_change_nothing, serves_the_same}
use Rattle.vr_serve.proofs.laws.serve_laws.Goals as goal

pub returns-clause-events : goal.returns-clause-events
returns-clause-events g c = refused_change_nothing

pub returns-clause-served : goal.returns-clause-served
returns-clause-served g c = serves_the_same g.M.Member.does

pub returns-clause-cut : goal.returns-clause-cut
returns-clause-cut g c = cuts_the_same g.M.Member.does g.M.Member.halts
