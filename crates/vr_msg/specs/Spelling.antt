-- One message, one spelling.
use Rattle.std.specs.Prelude.{ℕ, ◌≡◌, ◌+◌, ⊤, List, [], ◌∷◌, ◌++◌, length, map}
use Rattle.std.specs.List.{filter_map, flat_map}
use Rattle.vr_base.specs.declared.sum.Sum.{Sum}
use Rattle.vr_base.specs.Bytes.{IsBytes, bytes16, bytes64, name_of}
use Rattle.vr_header.specs.declared.command.Command.{Command}
use Rattle.vr_header.specs.declared.command.Command.TheVariants as command
use Rattle.vr_header.specs.declared.header.Header.{Header}
use Rattle.vr_header.specs.declared.part.Part.{Part}
use Rattle.vr_header.specs.declared.part.Part.TheVariants.{Here, Lost, Wanted, Unknown, Nothing}
use Rattle.vr_header.specs.Bodies.{operation_bytes, outcome_bytes}
use Rattle.vr_header.specs.Made.{entry_bytes}
use Rattle.vr_header.specs.Names.{no_name}
use Rattle.vr_header.specs.Spelling.{header_bytes, IsHeader}
use Rattle.vr_header.specs.Parts.{header_of}
use Rattle.vr_msg.specs.declared.frame.Frame.{Frame}
use Rattle.vr_msg.specs.declared.frame.Frame.TheVariants as frame
use Rattle.vr_msg.specs.declared.frame.SyncView.{SyncView}
use Rattle.vr_msg.specs.declared.reply.ReplyKind.{ReplyKind}
use Rattle.vr_msg.specs.declared.reply.ReplyKind.TheVariants as reply
use Rattle.vr_msg.specs.declared.statement.DvcBody.{DvcBody}
use Rattle.vr_msg.specs.Forms.{IsFrame}

-- the command of each kind of message
abbrev pub command_for : Frame → Command
command_for (frame.Request q) = command.Request
command_for (frame.Reply r) = command.Reply
command_for (frame.Prepare p) = command.Prepare
command_for (frame.PrepareOk p) = command.PrepareOk
command_for (frame.Commit c) = command.Commit
command_for (frame.StartViewChange s) = command.StartViewChange
command_for (frame.DoViewChange d) = command.DoViewChange
command_for (frame.StartView v) = command.StartView
command_for (frame.GetView g) = command.GetView
command_for (frame.GetPrepare g) = command.GetPrepare
command_for (frame.GivePrepare g) = command.GivePrepare
command_for (frame.GetBlock g) = command.GetBlock
command_for (frame.GiveBlock g) = command.GiveBlock
command_for (frame.GetSync g) = command.GetSync
command_for (frame.SyncView v) = command.SyncView

-- the version of each
abbrev pub version_of : Frame → ℕ
version_of (frame.Request q) = q.version
version_of (frame.Reply r) = r.version
version_of (frame.Prepare p) = p.version
version_of (frame.PrepareOk p) = p.version
version_of (frame.Commit c) = c.version
version_of (frame.StartViewChange s) = s.version
version_of (frame.DoViewChange d) = d.version
version_of (frame.StartView v) = v.version
version_of (frame.GetView g) = g.version
version_of (frame.GetPrepare g) = g.version
version_of (frame.GivePrepare g) = g.version
version_of (frame.GetBlock g) = g.version
version_of (frame.GiveBlock g) = g.version
version_of (frame.GetSync g) = g.version
version_of (frame.SyncView v) = v.version

-- the number of a kind of reply
abbrev pub kind_number : ReplyKind → ℕ
kind_number (reply.Outcome a) = 1
kind_number reply.Old = 2
kind_number reply.Gap = 3
kind_number reply.Evicted = 4
kind_number reply.Busy = 5
kind_number reply.Redirect = 6

-- the op that was executed, 0 where none was
abbrev pub kind_op : ReplyKind → ℕ
kind_op (reply.Outcome a) = a.op
kind_op reply.Old = 0
kind_op reply.Gap = 0
kind_op reply.Evicted = 0
kind_op reply.Busy = 0
kind_op reply.Redirect = 0

-- the fields that a message of each kind sets
abbrev pub with_fields : Frame → Header → Header
with_fields (frame.Request q) h = record h { cluster = q.cluster; client = q.client; request = q.request }
with_fields (frame.Reply r) h =
    record h {
      cluster = r.cluster;
      replica = r.replica;
      view = r.view;
      client = r.client;
      request = r.request;
      request_name = r.request_name;
      op = kind_op r.kind;
      kind = kind_number r.kind;
    }
with_fields (frame.Prepare p) h =
    record h { cluster = p.entry.header.cluster; replica = p.replica; view = p.view; op = p.entry.header.op; commit = p.commit }
with_fields (frame.PrepareOk p) h =
    record h { cluster = p.cluster; replica = p.replica; view = p.view; op = p.op; parent = p.name; aux = p.made }
with_fields (frame.Commit c) h = record h { cluster = c.cluster; replica = c.replica; view = c.view; op = c.head; commit = c.commit }
with_fields (frame.StartViewChange s) h = record h { cluster = s.cluster; replica = s.replica; view = s.view }
with_fields (frame.DoViewChange d) h =
    record h {
      cluster = d.cluster;
      replica = d.replica;
      view = d.view;
      op = d.statement.head;
      commit = d.statement.commit;
      aux = d.statement.log_view;
    }
with_fields (frame.StartView v) h =
    record h { cluster = v.cluster; replica = v.replica; view = v.view; op = v.head; commit = v.commit; aux = v.body.lo }
with_fields (frame.GetView g) h = record h { cluster = g.cluster; replica = g.replica; view = g.view }
with_fields (frame.GetPrepare g) h = record h { cluster = g.cluster; replica = g.replica; op = g.op; parent = g.name; aux = g.made }
with_fields (frame.GivePrepare g) h = record h { cluster = g.entry.header.cluster; replica = g.replica; op = g.entry.header.op }
with_fields (frame.GetBlock g) h = record h { cluster = g.cluster; replica = g.replica; parent = g.name; aux = g.address }
with_fields (frame.GiveBlock g) h = record h { cluster = g.cluster; replica = g.replica; aux = g.address }
with_fields (frame.GetSync g) h = record h { cluster = g.cluster; replica = g.replica; view = g.view }
with_fields (frame.SyncView v) h =
    record h { cluster = v.cluster; replica = v.replica; view = v.view; op = v.head; commit = v.commit; aux = v.body.lo }

abbrev pub kind_bytes : ReplyKind → List ℕ
kind_bytes (reply.Outcome a) = outcome_bytes a.outcome
kind_bytes reply.Old = []
kind_bytes reply.Gap = []
kind_bytes reply.Evicted = []
kind_bytes reply.Busy = []
kind_bytes reply.Redirect = []

-- the number of a Part
abbrev pub tag : Part → ℕ
tag Nothing = 0
tag (Here h) = 1
tag (Lost h) = 2
tag (Wanted h) = 3
tag Unknown = 4

abbrev pub headers_bytes : List Header → List ℕ
headers_bytes hs = flat_map header_bytes hs

-- the headers that Parts know
abbrev pub known : List Part → List Header
known ps = filter_map header_of ps

-- the first op, how many Parts, a tag for each, and the headers that they know
abbrev pub parts_bytes : DvcBody → List ℕ
parts_bytes b = bytes64 b.first ++ (bytes16 (length b.parts) ++ (map tag b.parts ++ headers_bytes (known b.parts)))

-- the checkpoint's op, its root's address and name, and the headers
abbrev pub sync_bytes : SyncView → List ℕ
sync_bytes v = bytes64 v.checkpoint ++ (bytes64 v.root_address ++ (v.root_name.0 ++ headers_bytes v.body.headers))

-- the bytes after the header
abbrev pub body_bytes : Frame → List ℕ
body_bytes (frame.Request q) = operation_bytes q.operation
body_bytes (frame.Reply r) = kind_bytes r.kind
body_bytes (frame.Prepare p) = entry_bytes p.entry
body_bytes (frame.PrepareOk p) = []
body_bytes (frame.Commit c) = []
body_bytes (frame.StartViewChange s) = []
body_bytes (frame.DoViewChange d) = parts_bytes d.statement.body
body_bytes (frame.StartView v) = headers_bytes v.body.headers
body_bytes (frame.GetView g) = []
body_bytes (frame.GetPrepare g) = []
body_bytes (frame.GivePrepare g) = entry_bytes g.entry
body_bytes (frame.GetBlock g) = []
body_bytes (frame.GiveBlock g) = g.block
body_bytes (frame.GetSync g) = []
body_bytes (frame.SyncView v) = sync_bytes v

-- a header of this version and command before a body, with no other field set
abbrev pub header_before : ℕ → List ℕ → Command → Header
header_before version body c = record {
  body = record { 0 = name_of body };
  parent = no_name;
  request_name = no_name;
  cluster = 0;
  client = 0;
  request = 0;
  view = 0;
  op = 0;
  commit = 0;
  size = 128 + length body;
  command = c;
  replica = 0;
  version = version;
  kind = 0;
  aux = 0;
}

abbrev pub frame_header : Frame → Header
frame_header m = with_fields m (header_before (version_of m) (body_bytes m) (command_for m))

-- header and body
unfoldable pub spelling : Frame → List ℕ
spelling m = header_bytes (frame_header m) ++ body_bytes m

-- the values that a header of the program has
abbrev pub AreHeaders : List Header → Type 0
AreHeaders [] = ⊤
AreHeaders (h ∷ hs) = IsHeader h × AreHeaders hs

-- 16 bytes
abbrev pub IsName : Sum → Type 0
IsName s = (length s.0 ≡ 16) × IsBytes s.0

-- the values that the body of a message of the program has, beside those of its form
abbrev pub IsBodyValue : Frame → Type 0
IsBodyValue (frame.Request q) = ⊤
IsBodyValue (frame.Reply r) = ⊤
IsBodyValue (frame.Prepare p) = IsHeader p.entry.header
IsBodyValue (frame.PrepareOk p) = ⊤
IsBodyValue (frame.Commit c) = ⊤
IsBodyValue (frame.StartViewChange s) = ⊤
IsBodyValue (frame.DoViewChange d) = AreHeaders (known d.statement.body.parts)
IsBodyValue (frame.StartView v) = AreHeaders v.body.headers
IsBodyValue (frame.GetView g) = ⊤
IsBodyValue (frame.GetPrepare g) = ⊤
IsBodyValue (frame.GivePrepare g) = IsHeader g.entry.header
IsBodyValue (frame.GetBlock g) = ⊤
IsBodyValue (frame.GiveBlock g) = ⊤
IsBodyValue (frame.GetSync g) = ⊤
IsBodyValue (frame.SyncView v) = IsName v.root_name × AreHeaders v.body.headers

-- the bytes are this message: what it carries is of its kind's form, numbers and texts are those that the program has, and its
-- header and its body stand one after the other
pub record Spells (m : Frame) (bytes : List ℕ) : Type 0 where
  pub form : IsFrame m
  pub header : IsHeader (frame_header m)
  pub body : IsBodyValue m
  pub spelled : bytes ≡ spelling m
