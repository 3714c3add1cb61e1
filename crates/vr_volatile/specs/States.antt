-- What replicas state, item by item.
use Rattle.std.specs.Prelude.{ℕ, ◌-◌, ◌==◌, List, length, reverse, slice_index_or, Option, Some, None, if◌then◌else◌}
use Rattle.std.specs.List.{prefix_len, filter_map, range_with_len}
use Rattle.vr_header.specs.declared.part.Part.{Part}
use Rattle.vr_msg.specs.declared.statement.Statement.{Statement}
use Rattle.vr_rules.specs.Replica.{Replica, is_nothing, statement_of}

-- how many items a list has up to the last that isn't Nothing
unfoldable pub last_told : List Part → ℕ
last_told ps = length ps - prefix_len is_nothing (reverse ps)

-- what a replica has stated; its own statement is the present one
abbrev pub stated_by : Replica → ℕ → Option Statement
stated_by r i = if i == r.index then Some (statement_of r) else slice_index_or r.statements i None

-- what the first of them have stated
unfoldable pub stated_to : Replica → ℕ → List Statement
stated_to r n = filter_map (stated_by r) (range_with_len 0 n)
