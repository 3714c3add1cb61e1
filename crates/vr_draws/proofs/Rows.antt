-- The first draws, and a line of each kind.
use Rattle.std.proofs.Common.{◌≡◌, refl}
use Rattle.vr_draws.specs.Draws.{draw, after_draws, next_number}
use Rattle.vr_draws.specs.Drawn.{drawn_size}

-- of the number 0
first_draw : draw 0 1 ≡ 167951807
unfolding draw after_draws next_number
first_draw = refl

group_of_four : (drawn_size 0).value ≡ 4
unfolding draw after_draws next_number
group_of_four = refl
