-- A stream is messages one after the other.
use Rattle.std.specs.Prelude.{ℕ, zero, suc, ◌≡◌, ◌≤◌, ◌<◌, ◌⊎◌, ⊤, nat_le, ◌&&◌, if◌then◌else◌, List, [], ◌∷◌, ◌++◌, length, take, drop, Option, Some, None, Result, Ok, Err, is_ok}
use Rattle.std.specs.Int.{w32}
use Rattle.std.specs.List.{flat_map}
use Rattle.std.specs.Option.{option_map_or}
use Rattle.vr_base.specs.Bytes.{number}
use Rattle.vr_header.specs.Spelling.{decoded}
use Rattle.vr_header.specs.declared.header.Header.{Header}
use Rattle.vr_header.specs.declared.header.HeaderFault.{HeaderFault}
use Rattle.vr_msg.specs.Spelling.{Spells}
use Rattle.vr_msg.specs.declared.frame.Frame.{Frame}
use Rattle.vr_codec.specs.Deciding.{IsFault}
use Rattle.vr_codec.specs.Shapes.{inspected}
use Rattle.vr_codec.specs.declared.fault.MsgFault.{MsgFault}

-- the bytes spell a message
abbrev pub IsMessage : List ℕ → Type 0
IsMessage bytes = (m : Frame) × Spells m bytes

-- no message begins the bytes
abbrev pub BeginsNone : List ℕ → Type 0
BeginsNone bytes = (front rest : List ℕ) → front ++ rest ≡ bytes → ¬ IsMessage front

-- each of them is a message
abbrev pub EachIsMessage : List (List ℕ) → Type 0
EachIsMessage [] = ⊤
EachIsMessage (m ∷ ms) = IsMessage m × EachIsMessage ms

-- the longest list of messages that are, one after the other, a front of the bytes; and the rest
pub record AreMessages (messages : List (List ℕ)) (rest bytes : List ℕ) : Type 0 where
  pub each : EachIsMessage messages
  pub joined : flat_map (λ m. m) messages ++ rest ≡ bytes
  pub longest : BeginsNone rest

-- the message at the front of bytes, of as many as its header says
abbrev pub first_sized : ℕ → List ℕ → Option (List ℕ)
first_sized size bytes = if nat_le 128 size && (nat_le size (length bytes) && is_ok (inspected (take size bytes))) then Some (take size bytes) else None

abbrev pub first_with : List ℕ → Result Header HeaderFault → Option (List ℕ)
first_with bytes (Ok h) = first_sized h.size bytes
first_with bytes (Err f) = None

unfoldable pub first_message : List ℕ → Option (List ℕ)
first_message bytes = first_with bytes (decoded bytes)

-- the messages that stand one after the other at the front of bytes, as many as there are up to a number, and what is left after them
unfoldable pub messages_in : ℕ → List ℕ → List (List ℕ)
messages_in zero bytes = []
messages_in (suc n) bytes = option_map_or (λ m. m ∷ messages_in n (drop (length m) bytes)) (first_message bytes) []

unfoldable pub rest_in : ℕ → List ℕ → List ℕ
rest_in zero bytes = bytes
rest_in (suc n) bytes = option_map_or (λ m. rest_in n (drop (length m) bytes)) (first_message bytes) bytes

-- all of them: there are no more than bytes
unfoldable pub messages : List ℕ → List (List ℕ)
messages bytes = messages_in (length bytes) bytes

unfoldable pub rest_of : List ℕ → List ℕ
rest_of bytes = rest_in (length bytes) bytes

-- the bytes are short of a header, or of the message that their header begins
abbrev pub IsShort : List ℕ → Type 0
IsShort bytes = (length bytes < 128) ⊎ ((h : Header) × (decoded bytes ≡ Ok h) × (length bytes < h.size))

-- the first fault of what stands where a message is to begin: a header is judged at 128 bytes, a message at its size
pub record IsBroken (bytes : List ℕ) (f : MsgFault) : Type 0 where
  pub size : ℕ
  pub long : 128 ≤ size
  pub there : size ≤ length bytes
  pub sized : (h : Header) → decoded bytes ≡ Ok h → h.size ≡ size
  pub fault : IsFault (take size bytes) f
  pub none : first_message bytes ≡ None

-- as many bytes have come as the size says that stands where a header has it
pub record IsSized (bytes : List ℕ) (size : ℕ) : Type 0 where
  pub long : 128 ≤ size
  pub short : size ≤ 20480
  pub there : size ≤ length bytes
  pub said : number w32 104 bytes ≡ size

-- it says no size of a message that has come
pub record IsUnsized (bytes : List ℕ) : Type 0 where
  pub long : 128 ≤ length bytes
  pub none : (size : ℕ) → ¬ IsSized bytes size
