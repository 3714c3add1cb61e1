-- The four pieces one after another are the session's text.
use Rattle.vr_base.specs.Bytes.{bytes32, bytes64}
use Rattle.vr_state.specs.SessionTexts.{session_text}
use Rattle.std.proofs.lemmas.List.{append_assoc}
use Rattle.vr_state.proofs.session_text.write_session.Goals as goal

pub returns : goal.returns
unfolding session_text bytes32 bytes64
returns c =
    rw (c.in_ok-write_outcome.ensures, c.in_ok-extend-3.ensures.ok, c.to_be_bytes-3.ensures, c.in_ok-extend-2.ensures.ok, c.to_be_bytes-2.ensures, c.in_ok-extend.ensures.ok, c.to_be_bytes.ensures)
    (simp append_assoc)
