-- What is done to a member.
use Rattle.std.specs.Prelude.{ℕ, ◌-◌, ◌≤◌, ⊤}
use Rattle.vr_lie.specs.Faults.{IsFault}
use Rattle.vr_world.specs.Lying.{Lying, hazards}
use Rattle.vr_world.specs.World.{Acted, Host, asks, fused, handles, lies, migrates, starts, stops}
use Rattle.vr_rules.specs.Fit.{IsAsked}
use Rattle.vr_group.specs.declared.deed.Deed.{Deed}
use Rattle.vr_group.specs.declared.deed.Deed.TheVariants.{Handle, Ask, Stop, Start, Migrate, Fuse, Lie}

abbrev pub act_of : Deed → ℕ → Host Lying → Acted Lying
act_of (Handle event) = handles hazards event.now
act_of (Ask request) = asks hazards request.now
act_of Stop = stops
act_of Start = starts hazards
act_of Migrate = migrates hazards
act_of (Fuse call code) = fused (call - 1) code
act_of (Lie fault) = lies hazards fault

-- calls are counted from 1, and what is asked and what is to be wrong with a disk can be
abbrev pub IsDeed : Deed → Type 0
IsDeed (Ask request) = IsAsked request.now
IsDeed (Fuse call code) = 1 ≤ call
IsDeed (Lie fault) = IsFault fault
IsDeed _ = ⊤
