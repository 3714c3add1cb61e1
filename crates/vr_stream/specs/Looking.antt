-- What stands at the front of bytes.
use Rattle.std.specs.Prelude.{ℕ, ◌≡◌, ◌≤◌, List, ◌++◌, length, take}
use Rattle.vr_stream.specs.Cutting.{IsBroken, IsMessage, IsShort}
use Rattle.vr_stream.specs.declared.looking.Front.{Front}
use Rattle.vr_stream.specs.declared.looking.Front.TheVariants as front
use Rattle.vr_stream.specs.declared.next.Next.{Next}
use Rattle.vr_stream.specs.declared.next.Next.TheVariants as next

-- so many bytes are a message
pub record IsWhole (bytes : List ℕ) (size : ℕ) : Type 0 where
  pub there : size ≤ length bytes
  pub short : size ≤ 20480
  pub message : IsMessage (take size bytes)

abbrev pub Sees : List ℕ → Front → Type 0
Sees bytes (front.Whole size) = IsWhole bytes size
Sees bytes front.Short = IsShort bytes
Sees bytes (front.Broken f) = IsBroken bytes f

-- what comes next of bytes, what is left of them, and the message
abbrev pub Gives : List ℕ → List ℕ → List ℕ → Next → Type 0
Gives bytes rest to next.Message = IsMessage to × (bytes ≡ to ++ rest)
Gives bytes rest to next.More = (rest ≡ bytes) × IsShort bytes
Gives bytes rest to (next.Broken f) = (rest ≡ bytes) × IsBroken bytes f
