-- What a header and the bytes after it say, by their places.
use Rattle.std.specs.Prelude.{ℕ, zero, suc, ◌+◌, ◌-◌, ◌==◌, ◌≡◌, Bool, true, false, not, ◌&&◌, ◌||◌, if◌then◌else◌, List, [], ◌∷◌, take, drop, Option, Some, None, is_ok}
use Rattle.std.specs.Int.{w16, w64}
use Rattle.std.specs.Option.{option_map}
use Rattle.vr_base.specs.Bytes.{number, piece}
use Rattle.vr_header.specs.declared.command.Command.{Command}
use Rattle.vr_header.specs.declared.command.Command.TheVariants as command
use Rattle.vr_header.specs.declared.header.Header.{Header}
use Rattle.vr_header.specs.declared.part.Part.{Part}
use Rattle.vr_header.specs.declared.part.Part.TheVariants.{Here, Lost, Wanted, Unknown, Nothing}
use Rattle.vr_header.specs.Bodies.{operation_of, outcome_of}
use Rattle.vr_header.specs.Made.{entry_of}
use Rattle.vr_header.specs.Spelling.{decoded, decoded_header}
use Rattle.vr_msg.specs.declared.frame.Frame.{Frame}
use Rattle.vr_msg.specs.declared.frame.Frame.TheVariants as frame
use Rattle.vr_msg.specs.declared.reply.ReplyKind.{ReplyKind}
use Rattle.vr_msg.specs.declared.reply.ReplyKind.TheVariants as reply
use Rattle.vr_msg.specs.declared.statement.DvcBody.{DvcBody}
use Rattle.vr_msg.specs.Spelling.{header_before}
use Rattle.vr_codec.specs.Shapes.{knows}

unfoldable pub kind_at : ℕ → ℕ → ℕ → List ℕ → Option ReplyKind
kind_at version kind op body =
    if kind == 1 then option_map (λ o. reply.Outcome (record { op = op; outcome = o })) (outcome_of version body)
    else (if kind == 2 then Some reply.Old
    else (if kind == 3 then Some reply.Gap
    else (if kind == 4 then Some reply.Evicted
    else (if kind == 5 then Some reply.Busy
    else (if kind == 6 then Some reply.Redirect else None)))))

-- so many headers, one after another
unfoldable pub headers_at : ℕ → List ℕ → List Header
headers_at zero bytes = []
headers_at (suc n) bytes = decoded_header bytes ∷ headers_at n (drop 128 bytes)

-- a header stands at each of these places
unfoldable pub are_headers : ℕ → List ℕ → Bool
are_headers zero bytes = true
are_headers (suc n) bytes = is_ok (decoded bytes) && are_headers n (drop 128 bytes)

unfoldable pub part_of_tag : ℕ → List ℕ → Part
part_of_tag tag bytes =
    if tag == 0 then Nothing
    else (if tag == 1 then Here (decoded_header bytes)
    else (if tag == 2 then Lost (decoded_header bytes)
    else (if tag == 3 then Wanted (decoded_header bytes) else Unknown)))

-- the bytes after the header of a tag that speaks of one
unfoldable pub rest_at : ℕ → List ℕ → List ℕ
rest_at tag bytes = if knows tag then drop 128 bytes else bytes

-- a Part for each tag
unfoldable pub parts_at : List ℕ → List ℕ → List Part
parts_at [] bytes = []
parts_at (t ∷ ts) bytes = part_of_tag t bytes ∷ parts_at ts (rest_at t bytes)

-- a header stands wherever a tag speaks of one
unfoldable pub are_parts : List ℕ → List ℕ → Bool
are_parts [] bytes = true
are_parts (t ∷ ts) bytes = (not (knows t) || is_ok (decoded bytes)) && are_parts ts (rest_at t bytes)

unfoldable pub body_at : List ℕ → DvcBody
body_at body = record {
  first = number w64 0 body;
  parts = parts_at (take (number w16 8 body) (drop 10 body)) (drop (10 + number w16 8 body) body);
}

-- whether the last number in the header is a view
abbrev pub needs_view : Command → Bool
needs_view command.PrepareOk = true
needs_view command.GetPrepare = true
needs_view _ = false

-- a message without a body
abbrev pub bare_for : Command → Header → Option Frame
bare_for command.PrepareOk h =
    Some (frame.PrepareOk (record { version = h.version; cluster = h.cluster; replica = h.replica; view = h.view; op = h.op; name = h.parent; made = h.aux }))
bare_for command.Commit h =
    Some (frame.Commit (record { version = h.version; cluster = h.cluster; replica = h.replica; view = h.view; head = h.op; commit = h.commit }))
bare_for command.StartViewChange h = Some (frame.StartViewChange (record { version = h.version; cluster = h.cluster; replica = h.replica; view = h.view }))
bare_for command.GetView h = Some (frame.GetView (record { version = h.version; cluster = h.cluster; replica = h.replica; view = h.view }))
bare_for command.GetPrepare h =
    Some (frame.GetPrepare (record { version = h.version; cluster = h.cluster; replica = h.replica; op = h.op; name = h.parent; made = h.aux }))
bare_for command.GetBlock h = Some (frame.GetBlock (record { version = h.version; cluster = h.cluster; replica = h.replica; address = h.aux; name = h.parent }))
bare_for command.GetSync h = Some (frame.GetSync (record { version = h.version; cluster = h.cluster; replica = h.replica; view = h.view }))
bare_for _ h = None

-- a header that asks is that of a request over these bytes: it sets three fields, and all others are as every message has them
abbrev pub IsAsking : Header → List ℕ → Type 0
IsAsking h body = h ≡ record (header_before h.version body command.Request) { cluster = h.cluster; client = h.client; request = h.request }

abbrev pub frame_for : Command → Header → List ℕ → Option Frame
frame_for command.Request h body =
    option_map (λ o. frame.Request (record { version = h.version; cluster = h.cluster; client = h.client; request = h.request; operation = o })) (operation_of h.version body)
frame_for command.Reply h body =
    option_map
    (λ k. frame.Reply (record {
      version = h.version;
      cluster = h.cluster;
      replica = h.replica;
      view = h.view;
      client = h.client;
      request = h.request;
      request_name = h.request_name;
      kind = k;
    }))
    (kind_at h.version h.kind h.op body)
frame_for command.Prepare h body =
    option_map (λ e. frame.Prepare (record { version = h.version; replica = h.replica; view = h.view; commit = h.commit; entry = e })) (entry_of body)
frame_for command.DoViewChange h body =
    Some (frame.DoViewChange (record {
      version = h.version;
      cluster = h.cluster;
      replica = h.replica;
      view = h.view;
      statement = record { log_view = h.aux; commit = h.commit; head = h.op; body = body_at body };
    }))
frame_for command.StartView h body =
    Some (frame.StartView (record {
      version = h.version;
      cluster = h.cluster;
      replica = h.replica;
      view = h.view;
      head = h.op;
      commit = h.commit;
      body = record { lo = h.aux; headers = headers_at (h.op - h.aux) body };
    }))
frame_for command.GivePrepare h body = option_map (λ e. frame.GivePrepare (record { version = h.version; replica = h.replica; entry = e })) (entry_of body)
frame_for command.GiveBlock h body =
    Some (frame.GiveBlock (record { version = h.version; cluster = h.cluster; replica = h.replica; address = h.aux; block = body }))
frame_for command.SyncView h body =
    Some (frame.SyncView (record {
      version = h.version;
      cluster = h.cluster;
      replica = h.replica;
      view = h.view;
      head = h.op;
      commit = h.commit;
      checkpoint = number w64 0 body;
      root_address = number w64 8 body;
      root_name = record { 0 = piece 16 16 body };
      body = record { lo = h.aux; headers = headers_at (h.op - h.aux) (drop 32 body) };
    }))
frame_for c h body = bare_for c h

-- what a header with this body says, if its command is a message's
unfoldable pub frame_at : Header → List ℕ → Option Frame
frame_at h body = frame_for h.command h body
