-- Tests that find whether a header and the bytes after it are of a message's form.
use Rattle.std.specs.Prelude.{ℕ, zero, suc, ◌+◌, ◌-◌, ◌^◌, ◌%◌, ◌==◌, Bool, true, false, not, ◌&&◌, ◌||◌, nat_lt, nat_le, nat_eq, if◌then◌else◌, List, [], ◌∷◌, length, take, drop, replicate, slice_index, Option, Some, None, is_some, Result, Ok, Err}
use Rattle.std.specs.Cmp.Lexicographic.{pointwise}
use Rattle.std.specs.Int.{w16, w64}
use Rattle.std.specs.List.{prefix_len}
use Rattle.std.specs.Option.{option_map, option_map_or}
use Rattle.vr_base.specs.declared.sum.Sum.{Sum}
use Rattle.vr_base.specs.Bytes.{name_of, number}
use Rattle.vr_header.specs.declared.command.Command.{Command}
use Rattle.vr_header.specs.declared.command.Command.TheVariants as command
use Rattle.vr_header.specs.declared.header.Header.{Header}
use Rattle.vr_header.specs.declared.header.HeaderFault.{HeaderFault}
use Rattle.vr_header.specs.Bodies.{operation_of, outcome_of}
use Rattle.vr_header.specs.Made.{entry_of, is_entry_header}
use Rattle.vr_header.specs.Spelling.{decoded}
use Rattle.vr_codec.specs.declared.fault.MsgFault.{MsgFault}
use Rattle.vr_codec.specs.declared.fault.MsgFault.TheVariants as fault

-- which commands have a use for which fields
abbrev pub uses_parent : Command → Bool
uses_parent command.PrepareOk = true
uses_parent command.GetPrepare = true
uses_parent command.GetBlock = true
uses_parent _ = false

abbrev pub uses_request_name : Command → Bool
uses_request_name command.Reply = true
uses_request_name _ = false

abbrev pub uses_client : Command → Bool
uses_client command.Request = true
uses_client command.Reply = true
uses_client _ = false

abbrev pub uses_view : Command → Bool
uses_view command.Request = false
uses_view command.GetPrepare = false
uses_view command.GivePrepare = false
uses_view command.GetBlock = false
uses_view command.GiveBlock = false
uses_view _ = true

abbrev pub uses_op : Command → Bool
uses_op command.Request = false
uses_op command.StartViewChange = false
uses_op command.GetView = false
uses_op command.GetBlock = false
uses_op command.GiveBlock = false
uses_op command.GetSync = false
uses_op _ = true

abbrev pub uses_commit : Command → Bool
uses_commit command.Prepare = true
uses_commit command.Commit = true
uses_commit command.DoViewChange = true
uses_commit command.StartView = true
uses_commit command.SyncView = true
uses_commit _ = false

abbrev pub uses_replica : Command → Bool
uses_replica command.Request = false
uses_replica _ = true

abbrev pub uses_aux : Command → Bool
uses_aux command.PrepareOk = true
uses_aux command.DoViewChange = true
uses_aux command.StartView = true
uses_aux command.GetPrepare = true
uses_aux command.GetBlock = true
uses_aux command.GiveBlock = true
uses_aux command.SyncView = true
uses_aux _ = false

abbrev pub is_no_name : Sum → Bool
is_no_name s = pointwise nat_eq s.0 (replicate 16 0)

-- every field that the command has no use for is zero: names, and what names the client
unfoldable pub unused_names_are_zero : Header → Bool
unused_names_are_zero h =
    if not (uses_parent h.command || is_no_name h.parent) then false
    else (if not (uses_request_name h.command || is_no_name h.request_name) then false
    else (if not (uses_request_name h.command || (h.kind == 0)) then false
    else (if not (uses_client h.command || (h.client == 0)) then false
    else (uses_client h.command || (h.request == 0)))))

-- and numbers
unfoldable pub unused_numbers_are_zero : Header → Bool
unused_numbers_are_zero h =
    if not (uses_view h.command || (h.view == 0)) then false
    else (if not (uses_op h.command || (h.op == 0)) then false
    else (if not (uses_commit h.command || (h.commit == 0)) then false
    else (if not (uses_replica h.command || (h.replica == 0)) then false
    else (uses_aux h.command || (h.aux == 0)))))

abbrev pub is_view : ℕ → Bool
is_view view = nat_lt view (2 ^ 32 - 1)

abbrev pub is_number : ℕ → Bool
is_number op = nat_le op (2 ^ 62)

unfoldable pub numbers_fit : Header → Bool
numbers_fit h = is_view h.view && (is_number h.op && is_number h.commit)

-- the bytes are an operation of this version that a request of this number may ask for; a session's beginning alone is of one byte
unfoldable pub is_asked : ℕ → ℕ → List ℕ → Bool
is_asked version request body =
    if not (is_some (operation_of version body)) then false
    else (if length body == 1 then request == 0 else not (request == 0))

-- the number of a reply's kind, with its op and its body
unfoldable pub kind_fits : ℕ → ℕ → ℕ → List ℕ → Bool
kind_fits version kind op body =
    if kind == 1 then is_some (outcome_of version body)
    else (if kind == 0 then false
    else (if nat_lt 6 kind then false
    else ((op == 0) && (length body == 0))))

-- of this version or an earlier one, of this group and op, and made in a view up to the last one that is allowed
unfoldable pub is_at : ℕ → ℕ → ℕ → ℕ → Header → Bool
is_at version cluster last op h =
    if not (nat_le h.version version) then false
    else (if not (h.cluster == cluster) then false
    else (if not (h.op == op) then false
    else nat_le h.view last))

abbrev pub is_ok_entry_at : ℕ → ℕ → ℕ → ℕ → Result Header HeaderFault → Bool
is_ok_entry_at version cluster last op (Ok h) = if not (is_entry_header h) then false else is_at version cluster last op h
is_ok_entry_at version cluster last op (Err f) = false

-- the bytes begin with the header of such an entry
unfoldable pub begins_entry : ℕ → ℕ → ℕ → ℕ → List ℕ → Bool
begins_entry version cluster last op bytes = is_ok_entry_at version cluster last op (decoded bytes)

-- the header has this body
unfoldable pub is_body : Header → List ℕ → Bool
is_body h body = (h.size == 128 + length body) && pointwise nat_eq h.body.0 (name_of body)

-- the bytes are such an entry
unfoldable pub entry_fits : ℕ → ℕ → ℕ → ℕ → List ℕ → Bool
entry_fits version cluster last op bytes = option_map_or (is_at version cluster last op) (option_map (λ e. e.header) (entry_of bytes)) false

-- the bytes are this many headers of entries, from this op on
unfoldable pub headers_fit : ℕ → ℕ → ℕ → ℕ → ℕ → List ℕ → Bool
headers_fit version cluster last zero op bytes = length bytes == 0
headers_fit version cluster last (suc n) op bytes = begins_entry version cluster last op bytes && headers_fit version cluster last n (op + 1) (drop 128 bytes)

unfoldable pub log_fits : Header → List ℕ → Bool
log_fits h body =
    if nat_lt h.op h.commit then false
    else (if nat_lt h.op h.aux then false
    else (if nat_lt 64 (h.op - h.aux) then false
    else headers_fit h.version h.cluster h.view (h.op - h.aux) (h.aux + 1) body))

-- a checkpoint is of a committed op whose header is among those of the log, and its root stands in the grid
unfoldable pub checkpoint_fits : Header → ℕ → ℕ → Bool
checkpoint_fits h checkpoint address =
    if not (checkpoint % 32 == 0) then false
    else (if nat_le checkpoint h.aux then false
    else (if nat_lt h.commit checkpoint then false
    else nat_lt address 128))

-- the checkpoint's op, its root's address and name, and a log
unfoldable pub sync_fits : Header → List ℕ → Bool
sync_fits h body =
    if nat_lt (length body) 32 then false
    else (if not (checkpoint_fits h (number w64 0 body) (number w64 8 body)) then false
    else log_fits h (drop 32 body))

-- the tag of a Part that knows its header
abbrev pub knows : ℕ → Bool
knows tag = nat_le 1 tag && nat_le tag 3

-- the bytes after the header that a tag speaks of, if any; None where the tag or the header doesn't fit
unfoldable pub after_tag : ℕ → ℕ → ℕ → ℕ → ℕ → List ℕ → Option (List ℕ)
after_tag version cluster last op tag bytes =
    if knows tag then (if begins_entry version cluster last op bytes then Some (drop 128 bytes) else None)
    else (if nat_lt 4 tag then None else Some bytes)

-- after these tags, of the ops from this one on, stand the headers that they speak of
unfoldable pub tags_fit : ℕ → ℕ → ℕ → List ℕ → ℕ → List ℕ → Bool
tags_fit version cluster last [] op bytes = length bytes == 0
tags_fit version cluster last (t ∷ ts) op bytes =
    option_map_or (λ rest. tags_fit version cluster last ts (op + 1) rest) (after_tag version cluster last op t bytes) false

-- the known headers at the front are those up to the head, and the last tag isn't 0
unfoldable pub tags_run : ℕ → ℕ → List ℕ → Bool
tags_run head first tags =
    if nat_lt 64 (prefix_len knows tags) then false
    else (if not (first + prefix_len knows tags == head + 1) then false
    else ((length tags == 0) || not (slice_index tags (length tags - 1) == 0)))

unfoldable pub statement_fits : Header → ℕ → List ℕ → List ℕ → Bool
statement_fits h first tags bytes =
    if first == 0 then false
    else (if nat_lt (h.commit + 1) first then false
    else (if nat_lt h.op h.commit then false
    else (if nat_le h.view h.aux then false
    else (tags_run h.op first tags && tags_fit h.version h.cluster h.aux tags first bytes))))

unfoldable pub parts_fit : Header → List ℕ → Bool
parts_fit h body =
    if nat_lt (length body) 10 then false
    else (if nat_lt 128 (number w16 8 body) then false
    else (if nat_lt (length body) (10 + number w16 8 body) then false
    else statement_fits h (number w64 0 body) (take (number w16 8 body) (drop 10 body)) (drop (10 + number w16 8 body) body)))

-- what each command asks of its header's numbers and of the bytes after the header
abbrev pub body_fits : Command → Header → List ℕ → Bool
body_fits command.Request h body = is_asked h.version h.request body
body_fits command.Reply h body = kind_fits h.version h.kind h.op body
body_fits command.Prepare h body = entry_fits h.version h.cluster h.view h.op body
body_fits command.PrepareOk h body = is_view h.aux && (length body == 0)
body_fits command.Commit h body = length body == 0
body_fits command.StartViewChange h body = length body == 0
body_fits command.DoViewChange h body = parts_fit h body
body_fits command.StartView h body = log_fits h body
body_fits command.GetView h body = length body == 0
body_fits command.GetPrepare h body = is_view h.aux && (length body == 0)
body_fits command.GivePrepare h body = entry_fits h.version h.cluster (2 ^ 32 - 2) h.op body
body_fits command.GetBlock h body = length body == 0
body_fits command.GiveBlock h body = length body == 4096
body_fits command.GetSync h body = length body == 0
body_fits command.SyncView h body = sync_fits h body
body_fits _ h body = false

unfoldable pub has_shape : Header → List ℕ → Bool
has_shape h body =
    if not (unused_names_are_zero h) then false
    else (if not (unused_numbers_are_zero h) then false
    else (if not (numbers_fit h) then false
    else body_fits h.command h body))

abbrev pub inspected_with : List ℕ → Result Header HeaderFault → Result Header MsgFault
inspected_with body (Err f) = Err (fault.Header f)
inspected_with body (Ok h) =
    if not (is_body h body) then Err fault.BodySum
    else (if not (has_shape h body) then Err fault.BodyShape else Ok h)

-- the header, or the first fault of the bytes
unfoldable pub inspected : List ℕ → Result Header MsgFault
inspected bytes = inspected_with (drop 128 bytes) (decoded bytes)
