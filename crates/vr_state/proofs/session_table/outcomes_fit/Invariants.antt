use Rattle.std.proofs.Common.{◌≡◌}
use Rattle.std.specs.List.{list_all}
use Rattle.vr_state.specs.Fitting.{outcome_fits}
use Rattle.vr_state.proofs.session_table.outcomes_fit.Given as goal

-- those that were looked at are of the version
abbrev pub invariant-loop-session : goal.invariant-loop-session
invariant-loop-session l = list_all (λ e. outcome_fits l.version e.1.outcome) l.session-iterator ≡ list_all (λ e. outcome_fits l.version e.1.outcome) l.table.entries
