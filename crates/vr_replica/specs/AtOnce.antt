-- Events on which a step ends at once: it makes no call of the disk and takes no memory.
use Rattle.std.specs.Prelude.{◌≡◌, ◌⊎◌, true}
use Rattle.vr_base.specs.Bytes.{name_of}
use Rattle.vr_msg.specs.declared.event.Event.{Event}
use Rattle.vr_msg.specs.declared.event.Event.TheVariants as event
use Rattle.vr_msg.specs.declared.frame.Frame.{Frame}
use Rattle.vr_msg.specs.declared.frame.Frame.TheVariants as frame
use Rattle.vr_rules.specs.Deciding.{first_of, prepare_ok_table, prepare_table, start_view_change_table}
use Rattle.vr_rules.specs.Replica.{Replica}
use Rattle.vr_rules.specs.Rules.{acknowledged}
use Rattle.vr_actions.specs.Waits.{Waits, passes}

-- a prepare or a start_view_change that is left be, and an acknowledgement that is left be or counted without a quorum, where all that can
-- be is applied
abbrev pub IsLeft : Replica → Frame → Type 0
IsLeft r (frame.Prepare p) = passes (first_of (prepare_table name_of p r)) ≡ true
IsLeft r (frame.PrepareOk a) = (passes (first_of (prepare_ok_table name_of a r)) ≡ true) ⊎ Waits (acknowledged a r)
IsLeft r (frame.StartViewChange c) = passes (first_of (start_view_change_table c r)) ≡ true
IsLeft r _ = ⊥

abbrev pub IsAtOnce : Replica → Event → Type 0
IsAtOnce r (event.Deliver message) = IsLeft r message
IsAtOnce r (event.Request q) = ⊥
IsAtOnce r event.Tick = ⊥
