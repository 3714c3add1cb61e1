-- What an entry is, and its bytes.
use Rattle.std.specs.Prelude.{ℕ, ◌≡◌, ◌+◌, ◌-◌, ◌^◌, ◌<◌, ◌≤◌, ◌↔◌, Bool, true, false, not, ◌&&◌, ◌==◌, nat_lt, nat_le, nat_eq, if◌then◌else◌, List, ◌++◌, length, drop, Option, Some, None, Result, Ok, Err}
use Rattle.std.specs.Cmp.Lexicographic.{pointwise}
use Rattle.vr_base.specs.declared.sum.Sum.{Sum}
use Rattle.vr_base.specs.Bytes.{name_of}
use Rattle.vr_base.specs.Versions.{body_limit}
use Rattle.vr_header.specs.declared.command.Command.TheVariants.{Entry, Request}
use Rattle.vr_header.specs.declared.header.Header.{Header}
use Rattle.vr_header.specs.declared.header.HeaderFault.{HeaderFault}
use Rattle.vr_header.specs.declared.operation.Operation.{Operation}
use Rattle.vr_header.specs.declared.operation.Operation.TheVariants.{Register, Put, Get, Delete}
use Rattle.vr_header.specs.Bodies.{IsOperation, operation_bytes, operation_of}
use Rattle.vr_header.specs.Names.{name_by, no_name}
use Rattle.vr_header.specs.Spelling.{code_of, decoded, header_bytes}

-- a header that an entry may have: with a body of at most 1,920 bytes, or 3,968 in version 2
pub record IsEntryHeader (h : Header) : Type 0 where
  pub command : h.command ≡ Entry
  pub size : (128 < h.size) × (h.size ≤ 128 + body_limit h.version)
  pub view : h.view < 2 ^ 32 - 1
  pub op : (1 ≤ h.op) × (h.op ≤ 2 ^ 62)
  pub commit : h.commit ≡ 0
  pub replica : h.replica ≡ 0
  pub kind : h.kind ≡ 0
  pub aux : h.aux ≡ 0

-- the operation is this header's body, of its version
pub record IsBodyOf (h : Header) (operation : Operation) : Type 0 where
  pub name : h.body.0 ≡ name_of (operation_bytes operation)
  pub size : h.size ≡ 128 + length (operation_bytes operation)
  -- a session begins exactly with request number 0
  pub first : (operation ≡ Register) ↔ (h.request ≡ 0)
  pub fits : IsOperation h.version operation

-- a header with its operation
pub record Whole : Type 0 where
  pub header : Header
  pub operation : Operation

pub record IsEntry (e : Whole) : Type 0 where
  pub header : IsEntryHeader e.header
  pub body : IsBodyOf e.header e.operation

-- the header of a request for this operation
pub record IsRequest (h : Header) (operation : Operation) : Type 0 where
  pub command : h.command ≡ Request
  pub body : IsBodyOf h operation
  pub parent : h.parent ≡ no_name
  pub request_name : h.request_name ≡ no_name
  pub view : h.view ≡ 0
  pub op : h.op ≡ 0
  pub commit : h.commit ≡ 0
  pub replica : h.replica ≡ 0
  pub kind : h.kind ≡ 0
  pub aux : h.aux ≡ 0

-- the entry that is made of a request: its header is the request's, with the request's name, the view and op that it is made
-- for, and the name of the entry before
abbrev pub made_by : (List ℕ → List ℕ) → Header → Operation → ℕ → ℕ → Sum → Whole
made_by hash request operation view op parent = record {
  header = record request { command = Entry; request_name = name_by hash request; view = view; op = op; parent = parent };
  operation = operation;
}

-- the fields that an entry has no use for are zero
abbrev pub is_bare : Header → Bool
is_bare h = (h.commit == 0) && (h.replica == 0) && (h.kind == 0) && (h.aux == 0)

-- the test for it
abbrev pub is_entry_header : Header → Bool
is_entry_header h =
    (code_of h.command == 3) && nat_lt 128 h.size && nat_le h.size (128 + body_limit h.version) && nat_lt h.view (2 ^ 32 - 1) && nat_le 1 h.op && nat_le h.op (2 ^ 62) && is_bare h

-- a header, and its operation after it
unfoldable pub entry_bytes : Whole → List ℕ
entry_bytes e = header_bytes e.header ++ operation_bytes e.operation

abbrev pub is_register : Operation → Bool
is_register Register = true
is_register (Put key value) = false
is_register (Get key) = false
is_register (Delete key) = false

-- the bytes are as many as the header says, and those after it have the name that it gives
abbrev pub is_whole : Header → List ℕ → Bool
is_whole h bytes = is_entry_header h && (h.size == length bytes) && pointwise nat_eq h.body.0 (name_of (drop 128 bytes))

abbrev pub with_body : Header → Option Operation → Option Whole
with_body h None = None
with_body h (Some o) =
    if (if is_register o then h.request == 0 else not (h.request == 0)) then Some (record { header = h; operation = o }) else None

abbrev pub with_header : List ℕ → Result Header HeaderFault → Option Whole
with_header bytes (Err fault) = None
with_header bytes (Ok h) = if is_whole h bytes then with_body h (operation_of h.version (drop 128 bytes)) else None

-- the entry that these bytes spell, None where they spell none
unfoldable pub entry_of : List ℕ → Option Whole
entry_of bytes = with_header bytes (decoded bytes)
