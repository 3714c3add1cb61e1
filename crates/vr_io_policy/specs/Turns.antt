-- Whose turn it is to give a place up.
use Rattle.std.specs.Prelude.{◌==◌, ◌-◌, ℕ, Bool, true, false, nat_le, nat_lt, ◌&&◌, ◌||◌, not, Option, Some, None, if◌then◌else◌, option_map, is_some, is_none}
use Rattle.vr_io_policy.specs.Guests.{asks, waits}
use Rattle.vr_io_policy.specs.declared.guest.Guest.{Guest}
use Rattle.vr_io_policy.specs.declared.turn.Claim.{Claim}
use Rattle.vr_io_policy.specs.declared.turn.Newcomer.{Newcomer}
use Rattle.vr_io_policy.specs.declared.turn.Turn.{Turn}
use Rattle.vr_io_policy.specs.declared.turn.Turn.TheVariants.{Free, Useless, Forgotten, Crowding, Idle, Waiting, Awaited, Served}

-- the order in which places are had
abbrev pub rank : Turn → ℕ
rank Free = 0
rank Useless = 1
rank Forgotten = 2
rank Crowding = 3
rank Idle = 4
rank Waiting = 5
rank Awaited = 6
rank Served = 7

-- a claim comes before another one: by its turn, and of one turn the earlier one
unfoldable pub is_before : Claim → Claim → Bool
is_before a b = nat_lt (rank a.turn) (rank b.turn) || ((rank a.turn == rank b.turn) && nat_lt a.since b.since)

-- a stranger that waits for its first answer, and can't be that of a member
abbrev pub waits_first : ℕ → Option Guest → Bool
waits_first now None = false
waits_first now (Some g) = is_none g.speaks && not g.near && not g.answered && waits now g

-- of a stranger that waits for its first answer, or to be heard
abbrev pub first_turn : Newcomer → Guest → Turn
first_turn n g = if g.near then Awaited else (if n.crowded then Crowding else Waiting)

-- of a stranger that waits
abbrev pub waiting_turn : Newcomer → Guest → Option Turn
waiting_turn n g = if not g.answered then Some (first_turn n g) else (if n.near then Some Served else None)

-- of a stranger that waits for nothing
abbrev pub idle_turn : ℕ → Guest → Turn
idle_turn now g = if not g.answered then Useless else (if nat_le 10000 (now - g.since) then Forgotten else Idle)

-- one that speaks as a member has none
abbrev pub turn_of : Newcomer → Guest → Option Turn
turn_of n g = if is_some g.speaks then None else (if waits n.now g then waiting_turn n g else Some (idle_turn n.now g))

-- what a newcomer may claim of a place
abbrev pub claim_of : Newcomer → Option Guest → Option Claim
claim_of n None = Some (record { turn = Free; since = 0 })
claim_of n (Some g) = option_map (λ t. record { turn = t; since = g.since }) (turn_of n g)
