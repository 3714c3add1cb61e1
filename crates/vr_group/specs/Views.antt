-- The views of a world's members.
use Rattle.std.specs.Prelude.{ℕ, max, map}
use Rattle.std.specs.List.{fold}
use Rattle.std.specs.Option.{option_map_or}
use Rattle.vr_super.specs.Opens.{found_of, good_copies}
use Rattle.vr_world.specs.Lying.{Lying}
use Rattle.vr_world.specs.World.{Host, World}

-- the view of a replica; of a stopped one that of the value that its disk opens as, 0 where there is none
abbrev pub view_of : Host Lying → ℕ
view_of m = option_map_or (λ r. r.view) m.replica (option_map_or (λ f. f.view) (found_of (good_copies m.disk.face)) 0)

-- the greatest of all
abbrev pub top_view : World Lying → ℕ
top_view w = fold max 0 (map view_of w.members)
