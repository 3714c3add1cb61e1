-- What a replica acknowledges of a log that it took over.
use Rattle.std.specs.Prelude.{ℕ, List, []}
use Rattle.vr_base.specs.Bytes.{name_of}
use Rattle.vr_header.specs.declared.part.Part.{Part}
use Rattle.vr_header.specs.declared.part.Part.TheVariants.{Here, Lost, Wanted, Unknown, Nothing}
use Rattle.vr_msg.specs.declared.output.Output.{Output}
use Rattle.vr_rules.specs.Outputs.{prepare_ok, to_primary}
use Rattle.vr_rules.specs.Replica.{Replica, part_at}

abbrev pub ack_of : Part → Replica → List Output
ack_of (Here h) r = to_primary (prepare_ok name_of h) r
ack_of (Lost h) r = []
ack_of (Wanted h) r = []
ack_of Unknown r = []
ack_of Nothing r = []

-- an entry that is stored is acknowledged
abbrev pub stored_ack : ℕ → Replica → List Output
stored_ack op r = ack_of (part_at r op) r
