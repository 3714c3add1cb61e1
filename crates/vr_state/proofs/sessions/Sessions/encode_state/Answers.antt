-- The sessions are read back from their text.
use Rattle.std.proofs.Common.{◌≡◌, true, subst, sym}
use Rattle.vr_state.specs.Fitting.{sessions_fit}
use Rattle.vr_state.specs.Sessions.{IsSessions}
use Rattle.vr_state.proofs.Lengths.{sessions_within}
use Rattle.vr_state.proofs.Spelled.{length-sessions_text, sessions_decoded-text, sessions_text-one}
use Rattle.vr_state.proofs.sessions.Sessions.encode_state.Goals as goal

pub returns-in_err-text-clause-one_text : goal.returns-in_err-text-clause-one_text
returns-in_err-text-clause-one_text c other held same = sessions_text-one other c.args.self.now held (subst IsSessions c.self.view_is c.self.invariant) same

pub returns-clause-one_text : goal.returns-clause-one_text
returns-clause-one_text c other held same = sessions_text-one other c.args.self.now held (subst IsSessions c.self.view_is c.self.invariant) same

pub returns-clause-length : goal.returns-clause-length
returns-clause-length c = rw c.in_ok-text.ensures (length-sessions_text c.self.inside.table.entries c.self.invariant)

pub returns-clause-back : goal.returns-clause-back
returns-clause-back c = rw (c.in_ok-text.ensures, ← c.self.view_is) (sessions_decoded-text c.self.inside.table.entries c.self.invariant)

pub returns-clause-within : goal.returns-clause-within
returns-clause-within c version fits =
    rw c.in_ok-text.ensures (sessions_within version c.self.inside.table.entries (subst (λ m. sessions_fit version m ≡ true) (sym c.self.view_is) fits))
