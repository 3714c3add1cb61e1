-- What the steps of a view change are, of a group one of whose members can't tell whether it had an entry.
use Rattle.std.proofs.Common.{ℕ, ◌≡◌, List, [], ◌∷◌, map, Some, None, replicate, refl}
use Rattle.sha2.specs.Sha256.{sha256, first_words, schedule, rounds, compress, hash_after, digest_bytes}
use Rattle.vr_base.specs.Bytes.{bytes16, bytes32, bytes64, name_of}
use Rattle.vr_base.specs.Kinds.{strict}
use Rattle.vr_base.specs.Replicas.{no_replicas, with_replica}
use Rattle.vr_base.specs.declared.mode.Mode.TheVariants.{Strict}
use Rattle.vr_header.specs.Bodies.{operation_bytes}
use Rattle.vr_header.specs.Same.{same_header}
use Rattle.vr_header.specs.Spelling.{named_bytes}
use Rattle.vr_header.specs.declared.part.Part.TheVariants.{Lost, Nothing, Unknown}
use Rattle.vr_msg.specs.Choice.{choice, named_by, row_end, log_headers}
use Rattle.vr_msg.specs.declared.event.Event.TheVariants as event
use Rattle.vr_rules.specs.Replica.{Replica, part_at, head, run, statement_of, forgetting}
use Rattle.vr_rules.specs.Deciding.{first_of}
use Rattle.vr_rules.specs.Steps.{Effect, Save, Say, Step, ◌⨾◌, quiet, change, does, says, by, naming, reading, times, each, after_all}
use Rattle.vr_rules.specs.Outputs.{send_to_all, send, start_view_change, do_view_change, wait_line}
use Rattle.vr_rules.specs.Words.{value_of, save, entered, enter, with_entry_at, apply, is_chain_from, may_take, taken_part, taken, take, prepare_again, stated, begin_view, try_log, try, speak, ask, visit, visit_slot, visit_place}
use Rattle.vr_rules.specs.Rules as rules
use Rattle.vr_rules.specs.Opening.{blank, fresh}
use Rattle.vr_world.specs.Lying.{Lying, lying}
use Rattle.rows_computed.proofs.Entries.{first_header}
use Rattle.rows_computed.proofs.Steps.{b0, p1}

-- ---- the backup that lost both places, and counts ticks

abbrev pub m0 : Replica
m0 = record (b0 Strict) { parts = Unknown ∷ replicate 63 Nothing }

-- after so many ticks
abbrev pub waiting : ℕ → Replica
waiting k = record m0 { idle = k; cursor = k }

pub ticks_0 : (d : Lying) → rules.react event.Tick lying m0 d ≡ record { replica = waiting 1; script = [] }
unfolding rules.react rules.on_tick by first_of blank says ◌⨾◌ change quiet reading with_entry_at part_at head ask visit visit_place visit_slot after_all
ticks_0 d = refl

pub ticks_1 : (d : Lying) → rules.react event.Tick lying (waiting 1) d ≡ record { replica = waiting 2; script = [] }
unfolding rules.react rules.on_tick by first_of blank says ◌⨾◌ change quiet reading with_entry_at part_at head ask visit visit_place visit_slot after_all
ticks_1 d = refl

pub ticks_2 : (d : Lying) → rules.react event.Tick lying (waiting 2) d ≡ record { replica = waiting 3; script = [] }
unfolding rules.react rules.on_tick by first_of blank says ◌⨾◌ change quiet reading with_entry_at part_at head ask visit visit_place visit_slot after_all
ticks_2 d = refl

pub ticks_3 : (d : Lying) → rules.react event.Tick lying (waiting 3) d ≡ record { replica = waiting 4; script = [] }
unfolding rules.react rules.on_tick by first_of blank says ◌⨾◌ change quiet reading with_entry_at part_at head ask visit visit_place visit_slot after_all
ticks_3 d = refl

abbrev m1u : Replica
m1u = record m0 { view = 1; heard = with_replica no_replicas 1; cursor = 4 }

abbrev pub m1 : Replica
m1 = record m1u { saved = value_of m1u }

abbrev tells_change : Replica → ℕ → Effect
tells_change r to = Say (send to (start_view_change r) r)

abbrev pub enters_1 : List Effect
enters_1 = Save m0.saved (value_of m1u) ∷ tells_change m1 0 ∷ tells_change m1 2 ∷ []

pub ticks_4 : (d : Lying) → rules.react event.Tick lying (waiting 4) d ≡ record { replica = m1; script = enters_1 }
unfolding rules.react rules.on_tick by first_of blank says send_to_all ◌⨾◌ change quiet does reading enter entered save part_at head after_all
ticks_4 d = refl

-- ---- the other backup enters, and states that it has nothing

abbrev pub c0 : Replica
c0 = fresh strict 0 3 2

abbrev c1u : Replica
c1u = record c0 { view = 1; heard = with_replica no_replicas 2 }

abbrev pub c1e : Replica
c1e = record c1u { saved = value_of c1u }

abbrev pub c1 : Replica
c1 = record c1e { heard = with_replica (with_replica no_replicas 2) 1 }

abbrev pub enters_2 : List Effect
enters_2 = Save c0.saved (value_of c1u) ∷ tells_change c1e 0 ∷ tells_change c1e 1 ∷ Say (send 1 (do_view_change c1) c1) ∷ []

pub changes_2 : (d : Lying) → rules.react (event.Deliver (start_view_change m1)) lying c0 d ≡ record { replica = c1; script = enters_2 }
unfolding rules.react rules.on_start_view_change by first_of blank says send_to_all ◌⨾◌ change quiet does enter entered save speak head after_all value_of
changes_2 d = refl

-- ---- the new primary waits: that may be committed which it can't deny

abbrev pub m2 : Replica
m2 = record m1 { statements = None ∷ None ∷ Some (statement_of c1) ∷ [] }

pub waits_1 : (d : Lying) → rules.react (event.Deliver (do_view_change c1)) lying m1 d ≡ record { replica = m2; script = map Say (wait_line 1 m2) }
unfolding rules.react rules.on_do_view_change by first_of blank says ◌⨾◌ change quiet try stated statement_of run head part_at choice named_by row_end log_headers after_all value_of
waits_1 d = refl

-- ---- the old primary comes back, and states that it has the entry

abbrev a0u : Replica
a0u = record (p1 Strict) { view = 1 }

abbrev pub a0e : Replica
a0e = record a0u { saved = value_of a0u }

abbrev pub a0 : Replica
a0 = record a0e { heard = with_replica no_replicas 0 }

abbrev pub a1 : Replica
a1 = record a0 { heard = with_replica (with_replica no_replicas 0) 1 }

pub changes_0 : (d : Lying) → rules.react (event.Deliver (start_view_change m1)) lying a0 d ≡ record { replica = a1; script = Say (send 1 (do_view_change a1) a1) ∷ [] }
unfolding rules.react rules.on_start_view_change by first_of blank says ◌⨾◌ change quiet speak head after_all value_of
changes_0 d = refl

-- ---- so the log of the view has it

abbrev m2s : Replica
m2s = record m2 { statements = Some (statement_of a1) ∷ None ∷ Some (statement_of c1) ∷ [] }

abbrev m3u : Replica
m3u = record m2s { log_view = 1; parts = Lost first_header ∷ replicate 63 Nothing; heard = no_replicas; statements = None ∷ None ∷ None ∷ [] }

abbrev pub m3 : Replica
m3 = record m3u { saved = value_of m3u }

abbrev pub chooses : Lying → Step
chooses d = rules.react (event.Deliver (do_view_change a1)) lying m2 d

pub chooses_1 : (d : Lying) → (chooses d).replica ≡ m3
unfolding rules.react rules.on_do_view_change by first_of blank says send_to_all ◌⨾◌ change quiet does naming each times try try_log begin_view take taken taken_part may_take is_chain_from stated save prepare_again with_entry_at apply statement_of run forgetting head part_at choice named_by row_end log_headers same_header named_bytes after_all value_of operation_bytes bytes16 bytes32 bytes64 name_of sha256 first_words schedule rounds compress hash_after digest_bytes
chooses_1 d = refl
