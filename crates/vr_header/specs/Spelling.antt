-- One header, one spelling.
use Rattle.std.specs.Prelude.{ℕ, suc, zero, ◌^◌, ◌<◌, ◌≤◌, ◌≡◌, Bool, not, ◌&&◌, ◌==◌, nat_lt, nat_le, nat_eq, if◌then◌else◌, List, [], ◌∷◌, ◌++◌, length, take, replicate, slice_get, slice_index, Option, Some, None, is_none, unwrap_or, Result, Ok, Err}
use Rattle.std.specs.Option.{option_map_or}
use Rattle.std.specs.Int.{w32, w64}
use Rattle.std.specs.Cmp.Lexicographic.{pointwise}
use Rattle.vr_base.specs.Bytes.{IsBytes, bytes32, bytes64, joined, name_of, number, piece}
use Rattle.vr_base.specs.Versions.{is_version}
use Rattle.vr_header.specs.declared.command.Command.{Command}
use Rattle.vr_header.specs.declared.command.Command.TheVariants.{Reserved, Root, Entry, Request, Reply, Prepare, PrepareOk, Commit, StartViewChange, DoViewChange, StartView, GetView, GetPrepare, GivePrepare, GetBlock, GiveBlock, Block, GetSync, SyncView}
use Rattle.vr_header.specs.declared.header.Header.{Header}
use Rattle.vr_header.specs.declared.header.HeaderFault.{HeaderFault}
use Rattle.vr_header.specs.declared.header.HeaderFault.TheVariants.{Short, BadSum, BadCommand, BadVersion, BadSize, NotZero}

abbrev pub code_of : Command → ℕ
code_of Reserved = 1
code_of Root = 2
code_of Entry = 3
code_of Request = 4
code_of Reply = 5
code_of Prepare = 6
code_of PrepareOk = 7
code_of Commit = 8
code_of StartViewChange = 9
code_of DoViewChange = 10
code_of StartView = 11
code_of GetView = 12
code_of GetPrepare = 13
code_of GivePrepare = 14
code_of GetBlock = 15
code_of GiveBlock = 16
code_of Block = 17
code_of GetSync = 18
code_of SyncView = 19

abbrev pub commands : List Command
commands =
    Reserved ∷ Root ∷ Entry ∷ Request ∷ Reply ∷ Prepare ∷ PrepareOk ∷ Commit ∷ StartViewChange ∷ DoViewChange ∷ StartView ∷ GetView
    ∷ GetPrepare ∷ GivePrepare ∷ GetBlock ∷ GiveBlock ∷ Block ∷ GetSync ∷ SyncView ∷ []

-- the command of a number, None outside 1 to 19
unfoldable pub command_of : ℕ → Option Command
command_of zero = None
command_of (suc code) = slice_get commands code

-- the fields in their order from byte 16 on: after the command the sender, the version and the kind; eight zeros at the end
abbrev pub field_bytes : Header → List (List ℕ)
field_bytes h =
    h.body.0 ∷ h.parent.0 ∷ h.request_name.0 ∷ bytes64 h.cluster ∷ bytes64 h.client ∷ bytes32 h.request ∷ bytes32 h.view ∷ bytes64 h.op ∷ bytes64 h.commit
    ∷ bytes32 h.size ∷ (code_of h.command ∷ []) ∷ (h.replica ∷ []) ∷ (h.version ∷ []) ∷ (h.kind ∷ []) ∷ bytes64 h.aux ∷ replicate 8 0 ∷ []

-- bytes 16 to 127, which give the header its name
unfoldable pub named_bytes : Header → List ℕ
named_bytes h = joined (field_bytes h)

-- all 128 bytes
unfoldable pub header_bytes : Header → List ℕ
header_bytes h = name_of (named_bytes h) ++ named_bytes h

-- the first 128 bytes are this header's
abbrev pub Spells : Header → List ℕ → Type 0
Spells h bytes = take 128 bytes ≡ header_bytes h

-- a size that a header may give
abbrev pub is_size : ℕ → Bool
is_size n = nat_le 128 n && nat_le n 20480

-- the values that a header of the program has
pub record IsHeader (h : Header) : Type 0 where
  pub body : length h.body.0 ≡ 16
  pub body_bytes : IsBytes h.body.0
  pub parent : length h.parent.0 ≡ 16
  pub parent_bytes : IsBytes h.parent.0
  pub request_name : length h.request_name.0 ≡ 16
  pub request_name_bytes : IsBytes h.request_name.0
  pub cluster : h.cluster < 2 ^ 64
  pub client : h.client < 2 ^ 64
  pub request : h.request < 2 ^ 32
  pub view : h.view < 2 ^ 32
  pub op : h.op < 2 ^ 64
  pub commit : h.commit < 2 ^ 64
  pub size : (128 ≤ h.size) × (h.size ≤ 20480)
  pub replica : h.replica < 256
  pub version : (1 ≤ h.version) × (h.version ≤ 2)
  pub kind : h.kind < 256
  pub aux : h.aux < 2 ^ 64

-- bytes 16 to 127 have the name that the first 16 bytes give
unfoldable pub is_named : List ℕ → Bool
is_named bytes = pointwise nat_eq (piece 0 16 bytes) (name_of (piece 16 112 bytes))

-- the first fault that applies
unfoldable pub fault_of : List ℕ → Option HeaderFault
fault_of bytes =
    if nat_lt (length bytes) 128 then Some Short
    else (if not (is_named bytes) then Some BadSum
    else (if is_none (command_of (slice_index bytes 108)) then Some BadCommand
    else (if not (is_version (slice_index bytes 110)) then Some BadVersion
    else (if not (is_size (number w32 104 bytes)) then Some BadSize
    else (if not (number w64 120 bytes == 0) then Some NotZero else None)))))

-- the header whose fields stand at these places
unfoldable pub decoded_header : List ℕ → Header
decoded_header bytes = record {
  body = record { 0 = piece 16 16 bytes };
  parent = record { 0 = piece 32 16 bytes };
  request_name = record { 0 = piece 48 16 bytes };
  cluster = number w64 64 bytes;
  client = number w64 72 bytes;
  request = number w32 80 bytes;
  view = number w32 84 bytes;
  op = number w64 88 bytes;
  commit = number w64 96 bytes;
  size = number w32 104 bytes;
  command = unwrap_or (command_of (slice_index bytes 108)) Reserved;
  replica = slice_index bytes 109;
  version = slice_index bytes 110;
  kind = slice_index bytes 111;
  aux = number w64 112 bytes;
}

-- the header, or the first fault that applies
abbrev pub decoded : List ℕ → Result Header HeaderFault
decoded bytes = option_map_or Err (fault_of bytes) (Ok (decoded_header bytes))
