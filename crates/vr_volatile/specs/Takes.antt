-- A log that is taken over, place by place.
use Rattle.std.specs.Prelude.{ℕ, ◌+◌, Bool, List, map, drop, ◌++◌, slice_index_or, is_some, nat_le, nat_lt, if◌then◌else◌}
use Rattle.std.specs.List.{range_with_len}
use Rattle.std.specs.Option.{option_map_or}
use Rattle.vr_header.specs.declared.part.Part.{Part}
use Rattle.vr_header.specs.declared.part.Part.TheVariants.{Nothing}
use Rattle.vr_rules.specs.Replica.{Replica, header_at}
use Rattle.vr_rules.specs.Words.{Log, log_header, replaced_by}

-- what is known of an op once the log is taken over, by what was known of it
abbrev pub taken_by : Log → ℕ → ℕ → ℕ → Part → Part
taken_by l checkpoint log_view k p =
    if nat_le k checkpoint then p
    else (if nat_le k l.head then option_map_or (λ e. replaced_by e p) (log_header l k) p
    else (if nat_lt log_view l.view then Nothing else p))

-- the Part at a place of a list that begins with this op
abbrev pub taken_at : Log → ℕ → ℕ → ℕ → List Part → ℕ → Part
taken_at l checkpoint log_view first ps i = taken_by l checkpoint log_view (first + i) (slice_index_or ps i Nothing)

-- the log is taken over at the first i places
unfoldable pub taken_to : Log → ℕ → Replica → Replica
taken_to l i r = record r { parts = map (taken_at l r.checkpoint r.log_view r.first r.parts) (range_with_len 0 i) ++ drop i r.parts }

abbrev pub knows_at : ℕ → Replica → Bool
knows_at k r = is_some (header_at r k)
