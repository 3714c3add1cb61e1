-- From whom a message is taken.
use Rattle.std.specs.Prelude.{ℕ, ◌≡◌, ◌==◌, Bool, true, false, nat_le, ◌&&◌, List, length, slice_index_or, if◌then◌else◌}
use Rattle.vr_header.specs.Spelling.{code_of}
use Rattle.vr_header.specs.declared.command.Command.TheVariants.{Request}
use Rattle.vr_io_policy.specs.declared.origin.Door.{Door}
use Rattle.vr_io_policy.specs.declared.origin.Door.TheVariants.{Own, Clients}
use Rattle.vr_io_policy.specs.declared.origin.Origin.{Origin}
use Rattle.vr_io_policy.specs.declared.origin.Origin.TheVariants.{Member, Stranger, Client}

-- where what comes at an address of a member comes from, by whether its sender's is one of the group's list
abbrev pub origin_of : Door → Bool → Origin
origin_of Own is_listed = if is_listed then Member else Stranger
origin_of Clients is_listed = Client

-- bytes begin with the header of a request, by the number of its command
abbrev pub is_request : List ℕ → Bool
is_request bytes = nat_le 128 (length bytes) && (slice_index_or bytes 108 0 == code_of Request)

-- a message is taken: from a member each one, from others requests alone
abbrev pub is_taken : Origin → List ℕ → Bool
is_taken Member bytes = true
is_taken Stranger bytes = is_request bytes
is_taken Client bytes = is_request bytes

pub record MembersAloneSpeak : Type 0 where
  -- what isn't a request is taken from an address of the group's list alone, and at the member's own address alone
  pub members : (at : Door) (is_listed : Bool) (bytes : List ℕ) → is_request bytes ≡ false → is_taken (origin_of at is_listed) bytes ≡ true
      → (at ≡ Own) × (is_listed ≡ true)
  -- a request is taken wherever it comes
  pub requests : (o : Origin) (bytes : List ℕ) → is_request bytes ≡ true → is_taken o bytes ≡ true
