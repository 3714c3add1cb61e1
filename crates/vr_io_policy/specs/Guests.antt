-- Streams that others have made.
use Rattle.std.specs.Prelude.{ℕ, Bool, true, false, nat_le, nat_lt, ◌+◌, ◌-◌, ◌==◌, ◌&&◌, ◌||◌, not, min, if◌then◌else◌, Some, None}
use Rattle.std.specs.Option.{option_map_or}
use Rattle.vr_io_policy.specs.declared.guest.Guest.{Guest}

-- one that comes now, and may be that of a member or not
abbrev pub comes : Bool → ℕ → Guest
comes near now = record { near = near; speaks = None; answered = false; since = now; said = 0 }

-- it has brought a whole header since its last answer
abbrev pub asks : Guest → Bool
asks g = nat_le 128 g.said

-- less than three seconds ago it came, or asked what isn't answered
abbrev pub waits : ℕ → Guest → Bool
waits now g = (asks g || not g.answered) && nat_lt (now - g.since) 3000

-- so many bytes came of it: they begin its wait where it asks by them first, and no others do
abbrev pub hears : ℕ → ℕ → Guest → Guest
hears count now g = let said = min (g.said + count) 128 in record g { said = said; since = if not (asks g) && nat_le 128 said then now else g.since }

-- bytes were written to it: what it asked counts as answered
abbrev pub answers : ℕ → Guest → Guest
answers now g = record g { answered = true; since = now; said = 0 }

-- it speaks as this member
abbrev pub speaks_for : ℕ → Guest → Bool
speaks_for member g = option_map_or (λ own. own == member) g.speaks false

-- it brought a message of this member
abbrev pub speaks_as : ℕ → Guest → Guest
speaks_as member g = record g { speaks = Some member }

-- another one brought a message of this member
abbrev pub yields : ℕ → Guest → Guest
yields member g = record g { speaks = if speaks_for member g then None else g.speaks }
