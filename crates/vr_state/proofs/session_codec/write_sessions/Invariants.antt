use Rattle.std.proofs.Common.{◌≡◌, ◌++◌}
use Rattle.std.specs.List.{flat_map}
use Rattle.vr_state.specs.SessionTexts.{session_text, sessions_text}
use Rattle.vr_state.proofs.session_codec.write_sessions.Given as goal

-- with the texts of the sessions that are left it is what stood there and the whole text
abbrev pub invariant-loop-client : goal.invariant-loop-client
invariant-loop-client l = l.text ++ flat_map session_text l.client-iterator ≡ l.fn.text ++ sessions_text l.table.entries
