-- Marks of datagrams among bytes.
use Rattle.std.specs.Prelude.{ℕ, List, Bool, Option, true, nat_le, ◌&&◌}
use Rattle.std.specs.List.{list_all}
use Rattle.std.specs.Option.{option_map_or}
use Rattle.vr_edge.specs.declared.outbox.Mark.{Mark}

-- the mark, if there is one, stands among so many bytes
abbrev pub is_within : ℕ → Option Mark → Bool
is_within count mark = option_map_or (λ m. nat_le m.start m.end && nat_le m.end count) mark true

-- each mark does
abbrev pub are_within : ℕ → List (Option Mark) → Bool
are_within count marks = list_all (is_within count) marks
