-- The text of sessions.
use Rattle.std.specs.Prelude.{ℕ, ◌+◌, ◌*◌, List, ◌++◌, Option, Some, None, Result, ◌==◌, nat_le, if◌then◌else◌}
use Rattle.std.specs.Option.{option_and_then}
use Rattle.std.specs.Ordering.{nat_cmp}
use Rattle.std.specs.Int.{w16, w32, w64}
use Rattle.vr_base.specs.Bytes.{bytes32, bytes64}
use Rattle.vr_base.specs.Versions.{session_limit, value_limit}
use Rattle.vr_header.specs.Bodies.{outcome_bytes}
use Rattle.vr_header.specs.Text.{text_of}
use Rattle.vr_header.specs.declared.outcome.Outcome.{Outcome}
use Rattle.vr_header.specs.declared.outcome.Outcome.TheVariants as outcome
use Rattle.vr_state.specs.declared.fault.StateFault.{StateFault}
use Rattle.vr_state.specs.Front.{byte_from, number_from, piece_from}
use Rattle.vr_state.specs.Table.{table_text, decoded}
use Rattle.vr_state.specs.declared.session.Session.{Session}
use Rattle.vr_state.specs.Sessions.{Map, last_op}

-- the client in eight bytes, the request in four, the op in eight, the outcome
unfoldable pub session_text : ℕ × Session → List ℕ
session_text e = bytes64 e.0 ++ (bytes32 e.1.number ++ (bytes64 e.1.op ++ outcome_bytes e.1.outcome))

-- the most bytes of such a text: the outcome has its kind, and the longest value of a version after its length
abbrev pub session_bytes : ℕ → ℕ
session_bytes v = 8 + 4 + 8 + 3 + value_limit v

-- the value after its length of two bytes
unfoldable pub value_from : List ℕ → Option (Outcome × List ℕ)
value_from bytes =
    option_and_then (λ n. option_and_then (λ piece. option_and_then (λ value. Some (outcome.Value value, piece.1)) (text_of (value_limit 2) piece.0))
    (piece_from n.0 n.1)) (number_from w16 bytes)

-- the outcome of this kind that the bytes begin with, and the bytes after it
unfoldable pub outcome_of : ℕ → List ℕ → Option (Outcome × List ℕ)
outcome_of kind rest =
    if kind == 1 then Some (outcome.Session, rest)
    else (if kind == 2 then Some (outcome.Ok, rest)
    else (if kind == 3 then Some (outcome.Full, rest)
    else (if kind == 4 then Some (outcome.Absent, rest)
    else (if kind == 5 then value_from rest else None))))

unfoldable pub outcome_from : List ℕ → Option (Outcome × List ℕ)
outcome_from bytes = option_and_then (λ kind. outcome_of kind.0 kind.1) (byte_from bytes)

-- client, request and an op that an entry may have, at the front, and the bytes after them
unfoldable pub numbers_from : List ℕ → Option ((ℕ × (ℕ × ℕ)) × List ℕ)
numbers_from bytes =
    option_and_then (λ client. option_and_then (λ number. option_and_then (λ op. if nat_le op.0 last_op then Some ((client.0, (number.0, op.0)), op.1) else None)
    (number_from w64 number.1)) (number_from w32 client.1)) (number_from w64 bytes)

-- the client with its session that the bytes begin with, and the bytes after it
unfoldable pub session_from : List ℕ → Option ((ℕ × Session) × List ℕ)
session_from bytes =
    option_and_then (λ n. option_and_then (λ o. Some ((n.0.0, record { number = n.0.1.0; op = n.0.1.1; outcome = o.0 }), o.1)) (outcome_from n.1)) (numbers_from bytes)

abbrev pub sessions_text : Map → List ℕ
sessions_text m = table_text session_text m

-- the most bytes of the text of all sessions
abbrev pub sessions_bytes : ℕ → ℕ
sessions_bytes v = 2 + session_limit v * session_bytes v

-- the sessions of a text, or the first fault
abbrev pub sessions_decoded : List ℕ → Result Map StateFault
sessions_decoded bytes = decoded nat_cmp session_from (session_limit 2) bytes
