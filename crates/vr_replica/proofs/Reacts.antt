-- Whether a replica reacts at all.
use Rattle.std.proofs.Common.{arith, ◌≡◌, ◌≤◌, ◌<◌, ◌+◌, ◌-◌, ◌^◌, true, false, List, Option, Result, Ok}
use Rattle.std.specs.Prelude.{nat_lt}
use Rattle.std.proofs.lemmas.Bool.{or_parts, ltb-false}
use Rattle.vr_disk.specs.DiskState.{Disk}
use Rattle.vr_disk.specs.declared.fault.Halt.{Halt}
use Rattle.vr_msg.specs.declared.event.Event.{Event}
use Rattle.vr_msg.specs.declared.output.Output.{Output}
use Rattle.vr_rules.specs.Replica.{Replica, is_frozen, is_spent, last_view}
use Rattle.vr_rules.specs.Rules.{on_event, react}
use Rattle.vr_rules.specs.Does.{Does}
use Rattle.vr_rules.proofs.Stepping.{does_by, does_quiet}

pub frozen : (event : Event) (r : Replica) (d : Option Disk) (o : List Output) → is_frozen r ≡ true → Does (react event) r r d d o o (Ok tt)
unfolding react
frozen event r d o e = does_by _ r r d d o o (Ok tt) (rw e (does_quiet r d o))

pub goes : (event : Event) (r r' : Replica) (d d' : Option Disk) (o o' : List Output) (result : Result (Unit {0}) Halt) → is_frozen r ≡ false → Does (on_event event) r r' d d' o o' result → Does (react event) r r' d d' o o' result
unfolding react
goes event r r' d d' o o' result e h = does_by _ r r' d d' o o' result (rw e h)

pub view_room : (r : Replica) → is_frozen r ≡ false → r.view ≤ last_view
view_room r e = ltb-false last_view r.view (or_parts (nat_lt last_view r.view) (is_spent r) e).0

pub save_room : (r : Replica) → is_frozen r ≡ false → r.saved.fields.sequence + 66 < 2 ^ 64
save_room r e = let l = ltb-false (2 ^ 64 - 256) r.saved.fields.sequence (or_parts (nat_lt last_view r.view) (is_spent r) e).1 in omega arith
