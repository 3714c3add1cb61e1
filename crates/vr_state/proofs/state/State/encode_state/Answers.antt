-- Sessions with one text are equal, and machines with one text.
use Rattle.std.proofs.Common.{◌≡◌, ◌∙◌, ap}
use Rattle.std.proofs.lemmas.Bool.{and_parts}
use Rattle.vr_state.specs.Fitting.{keys_fit, sessions_fit}
use Rattle.vr_state.specs.declared.texts.Texts.{Texts}
use Rattle.vr_state.proofs.Lengths.{texts_within}
use Rattle.vr_state.proofs.state.State.encode_state.Goals as goal

pub returns-clause-one_text : goal.returns-clause-one_text
returns-clause-one_text c other held kv same =
    let sessions : other.sessions ≡ c.args.self.now.sessions = c.in_ok-sessions.ensures.one_text other.sessions held (ap (λ (t : Texts). t.sessions) same ∙ c.in_ok-sessions.ensures.text) in
    let machine : other.machine ≡ c.args.self.now.machine = c.in_ok-keys.ensures.one_text other.machine kv (ap (λ (t : Texts). t.keys) same ∙ c.in_ok-keys.ensures.text) in
    λ i. record { sessions = sessions i; machine = machine i }

pub returns-clause-within : goal.returns-clause-within
returns-clause-within c version fits =
    let parts = and_parts (sessions_fit version c.args.self.now.sessions) (keys_fit version c.args.self.now.machine) fits in
    texts_within version (record { sessions = c.in_ok-sessions.sessions; keys = c.in_ok-keys.keys }) (c.in_ok-sessions.ensures.within version parts.0) (c.in_ok-keys.ensures.within version parts.1)
