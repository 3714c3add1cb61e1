-- Which block is found bad anew.
use Rattle.vr_ckpt.specs.Places.{grid_size}
use Rattle.std.specs.Prelude.{Bool, not, nat_lt, ◌&&◌, ◌==◌}
use Rattle.std.specs.List.{list_any}
use Rattle.vr_ckpt.specs.declared.name.Name.{Name}
use Rattle.vr_rules.specs.Replica.{Replica}

-- one of the grid that isn't known as bad
abbrev pub is_new : Name → Replica → Bool
is_new name r = nat_lt name.address grid_size && not (list_any (λ m. m.address == name.address) r.worn)
