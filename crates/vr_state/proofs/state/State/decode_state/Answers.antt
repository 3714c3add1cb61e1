-- The sessions' fault is the first of their text, and the machine's that of the keys', after a text of sessions.
use Rattle.std.proofs.Common.{inl, inr, sym, ◌∙◌}
use Rattle.std.proofs.lemmas.Result.{err_from_is_err_and}
use Rattle.vr_state.proofs.Numbers.{texts_have_numbers}
use Rattle.vr_state.proofs.state.State.decode_state.Goals as goal

pub returns-in_err-sessions-clause-first : goal.returns-in_err-sessions-clause-first
returns-in_err-sessions-clause-first c =
    let p = err_from_is_err_and c.from_residual.result c.from_residual.ensures.1 in
    rw (p.1, p.2, ← c.as_slice.ensures) (inl c.in_err-sessions.ensures.first)

pub returns-in_err-machine-clause-first : goal.returns-in_err-machine-clause-first
returns-in_err-machine-clause-first c =
    let p = err_from_is_err_and c.from_residual-in_err-machine.result c.from_residual-in_err-machine.ensures.1 in
    let held = c.len-held.ensures.sessions in
    rw (p.1, p.2) (inr (record {
      sessions = c.in_ok-sessions.sessions;
      read = record { spelled = sym (c.in_ok-sessions.ensures.text ∙ c.as_slice.ensures); no_more = held.few; ascending = held.is_map; fitting = held.fit };
      first = rw (← c.as_slice-2.ensures) c.in_err-machine.ensures.first;
    }))

pub returns-in_err-sessions-clause-numbers : goal.returns-in_err-sessions-clause-numbers
returns-in_err-sessions-clause-numbers c = texts_have_numbers

pub returns-in_err-machine-clause-numbers : goal.returns-in_err-machine-clause-numbers
returns-in_err-machine-clause-numbers c = texts_have_numbers

pub returns-clause-numbers : goal.returns-clause-numbers
returns-clause-numbers c = texts_have_numbers
