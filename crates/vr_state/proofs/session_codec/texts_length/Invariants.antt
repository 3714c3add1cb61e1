use Rattle.std.proofs.Common.{◌≡◌, ◌+◌, length}
use Rattle.std.specs.List.{flat_map}
use Rattle.vr_state.specs.SessionTexts.{session_text}
use Rattle.vr_state.proofs.session_codec.texts_length.Given as goal

-- with the bytes of the sessions that are left it is those of all
abbrev pub invariant-loop-session : goal.invariant-loop-session
invariant-loop-session l = l.bytes + length (flat_map session_text l.session-iterator) ≡ length (flat_map session_text l.table.entries)
