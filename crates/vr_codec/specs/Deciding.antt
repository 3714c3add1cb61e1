-- What decoding answers.
use Rattle.std.specs.Prelude.{ℕ, ◌≡◌, List, length, drop, Result, Ok, Err}
use Rattle.vr_base.specs.Bytes.{name_of}
use Rattle.vr_header.specs.declared.header.Header.{Header}
use Rattle.vr_header.specs.Spelling.{decoded}
use Rattle.vr_codec.specs.declared.fault.MsgFault.{MsgFault}
use Rattle.vr_codec.specs.declared.fault.MsgFault.TheVariants as fault
use Rattle.vr_msg.specs.declared.frame.Frame.{Frame}
use Rattle.vr_msg.specs.Spelling.{Spells}

-- the bytes after the header are as many as it says, and have the name that it gives
pub record HasBody (h : Header) (bytes : List ℕ) : Type 0 where
  pub size : length bytes ≡ h.size
  pub name : name_of (drop 128 bytes) ≡ h.body.0

-- the bytes begin with a header, and its body is behind it, and nothing else
pub record IsNamed (bytes : List ℕ) : Type 0 where
  pub header : Header
  pub read : decoded bytes ≡ Ok header
  pub body : HasBody header bytes

-- the first fault of bytes that spell no message
abbrev pub IsFault : List ℕ → MsgFault → Type 0
IsFault bytes (fault.Header f) = decoded bytes ≡ Err f
IsFault bytes fault.BodySum = (h : Header) × (decoded bytes ≡ Ok h) × ¬ HasBody h bytes
IsFault bytes fault.BodyShape = IsNamed bytes × ((m : Frame) → ¬ Spells m bytes)
IsFault bytes fault.NoMemory = ⊥

-- the answer is the message that the bytes spell, or memory was wanting
abbrev pub Reads : List ℕ → Result Frame MsgFault → Type 0
Reads bytes (Ok m) = Spells m bytes
Reads bytes (Err f) = f ≡ fault.NoMemory
