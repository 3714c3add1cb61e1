-- Messages as they are kept, and their deliveries.
use Rattle.std.specs.Prelude.{ℕ, ◌≡◌, List, true, is_some}
use Rattle.std.specs.Option.{option_map_or}
use Rattle.vr_header.specs.Made.{Whole, entry_of}
use Rattle.vr_header.specs.Names.{root_header}
use Rattle.vr_header.specs.declared.operation.Operation.TheVariants.{Register}
use Rattle.vr_msg.specs.declared.event.Event.{Event}
use Rattle.vr_msg.specs.declared.event.Event.TheVariants as event
use Rattle.vr_msg.specs.declared.frame.Frame.{Frame}
use Rattle.vr_msg.specs.declared.frame.Frame.TheVariants as frame
use Rattle.vr_msg.specs.Forms.{IsFrame}
use Rattle.vr_group.specs.declared.kept.Delivery.{Delivery}
use Rattle.vr_group.specs.declared.kept.Delivery.TheVariants as delivery
use Rattle.vr_group.specs.declared.kept.Kept.{Kept}
use Rattle.vr_group.specs.declared.kept.Kept.TheVariants as kept

-- the message that is delivered; any for another event
abbrev pub message_in : Event → Frame
message_in (event.Deliver message) = message
message_in (event.Request request) = frame.Request request
message_in event.Tick = frame.GetView (record { version = 1; cluster = 0; replica = 0; view = 0 })

abbrev pub IsDelivery : Event → Type 0
IsDelivery (event.Deliver message) = Unit {0}
IsDelivery (event.Request request) = ⊥
IsDelivery event.Tick = ⊥

-- the entry that the bytes spell; any where they spell none
unfoldable pub entry_in : List ℕ → Whole
entry_in bytes = option_map_or (λ (e : Whole). e) (entry_of bytes) (record { header = root_header 0; operation = Register })

-- the message that is kept
abbrev pub frame_in : Kept → Frame
frame_in (kept.Prepare version replica view commit entry) = frame.Prepare (record { version = version; replica = replica; view = view; commit = commit; entry = entry_in entry })
frame_in (kept.PrepareOk version replica view cluster op name made) =
    frame.PrepareOk (record { version = version; cluster = cluster; replica = replica; view = view; op = op; name = name; made = made })
frame_in (kept.Commit commit) = frame.Commit commit
frame_in (kept.StartViewChange start) = frame.StartViewChange start
frame_in (kept.GetView get) = frame.GetView get
frame_in (kept.GetSync get) = frame.GetSync get
frame_in (kept.Other event) = message_in event.value

-- the bytes of a prepare's entry spell one, and all that is in parts makes a message
abbrev pub IsKept : Kept → Type 0
IsKept (kept.Prepare version replica view commit entry) =
    (is_some (entry_of entry) ≡ true) × IsFrame (frame.Prepare (record { version = version; replica = replica; view = view; commit = commit; entry = entry_in entry }))
IsKept (kept.PrepareOk version replica view cluster op name made) =
    IsFrame (frame.PrepareOk (record { version = version; cluster = cluster; replica = replica; view = view; op = op; name = name; made = made }))
IsKept (kept.Commit commit) = IsFrame (frame.Commit commit)
IsKept (kept.StartViewChange start) = IsFrame (frame.StartViewChange start)
IsKept (kept.GetView get) = IsFrame (frame.GetView get)
IsKept (kept.GetSync get) = IsFrame (frame.GetSync get)
IsKept (kept.Other event) = IsDelivery event.value

-- the event of a delivery
abbrev pub delivered_as : Delivery → Event
delivered_as (delivery.Kept event) = event.now
delivered_as (delivery.Made event) = event
