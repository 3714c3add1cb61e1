-- A member that was halted before the entry was stored is recovered as one that has nothing, and a view changes: its steps.
use Rattle.std.proofs.Common.{ℕ, ◌≡◌, List, [], ◌∷◌, map, Some, refl, ap, ◌∙◌, true}
use Rattle.std.specs.List.{AllByRecursion}
use Rattle.sha2.specs.Sha256.{sha256}
use Rattle.vr_base.specs.Bytes.{name_of}
use Rattle.vr_base.specs.Replicas.{no_replicas, with_replica}
use Rattle.vr_base.specs.declared.mode.Mode.TheVariants.{Strict}
use Rattle.vr_msg.specs.Choice.{choice, named_by, row_end, log_headers}
use Rattle.vr_msg.specs.declared.event.Event.TheVariants as event
use Rattle.vr_super.specs.Opens.{opens}
use Rattle.vr_rules.specs.Replica.{Replica, forgetting, head, part_at, run, statement_of, with_part}
use Rattle.vr_rules.specs.Deciding.{first_of}
use Rattle.vr_rules.specs.Steps.{Effect, Mend, Save, Say, ◌⨾◌, after_all, by, change, does, each, naming, quiet, reading, says, times}
use Rattle.vr_rules.specs.Outputs.{do_view_change, send, send_to_all, start_line, start_view_change}
use Rattle.vr_rules.specs.Words as words
use Rattle.vr_rules.specs.Words.{value_of}
use Rattle.vr_rules.specs.Rules as rules
use Rattle.vr_rules.specs.Opening.{blank, clouded, opened}
use Rattle.vr_world.specs.Lying.{Lying, lying}
use Rattle.rows_computed.proofs.Changes.{c0, c1, changes_2, enters_2}
use Rattle.rows_computed.proofs.Disks.{IsOf}
use Rattle.rows_computed.proofs.Found.{Looks, all_quiet, found_all, of_op, starts_as, value, window, with_found}
use Rattle.rows_computed.proofs.Starts.{reserved}
use Rattle.rows_computed.proofs.Steps.{b0}
use Rattle.rows_computed.proofs.Stored.{one}

-- ---- it is started

quiet_blank : all_quiet (value 1) (of_op reserved) window ≡ true
unfolding name_of sha256
quiet_blank = refl

abbrev pub revives : List Effect
revives = Mend (value 1) ∷ map Say (start_line (b0 Strict))

blank_is : (d : Lying) → with_found (value 1) d (record { replica = found_all (value 1) (of_op reserved) window (blank (value 1)); script = [] }) ≡ record { replica = (b0 Strict); script = revives }
unfolding ◌⨾◌ does change says by each quiet times after_all blank clouded forgetting head part_at with_part words.load words.apply
blank_is d = refl

pub starts_blank : (d : Lying) → opens d.face ≡ Some (value 1) → Looks reserved d → opened lying d ≡ Some (record { replica = (b0 Strict); script = revives })
starts_blank d is looks = starts_as 1 reserved d is looks quiet_blank ∙ ap Some (blank_is d)

-- ---- it counts ticks, and enters the next view

abbrev pub idles : ℕ → Replica
idles k = record (b0 Strict) { idle = k; cursor = k }

pub idles_0 : (d : Lying) → rules.react event.Tick lying (b0 Strict) d ≡ record { replica = idles 1; script = [] }
unfolding rules.react rules.on_tick by first_of blank says ◌⨾◌ change quiet reading words.with_entry_at part_at head words.ask words.visit words.visit_place words.visit_slot after_all
idles_0 d = refl

pub idles_1 : (d : Lying) → rules.react event.Tick lying (idles 1) d ≡ record { replica = idles 2; script = [] }
unfolding rules.react rules.on_tick by first_of blank says ◌⨾◌ change quiet reading words.with_entry_at part_at head words.ask words.visit words.visit_place words.visit_slot after_all
idles_1 d = refl

pub idles_2 : (d : Lying) → rules.react event.Tick lying (idles 2) d ≡ record { replica = idles 3; script = [] }
unfolding rules.react rules.on_tick by first_of blank says ◌⨾◌ change quiet reading words.with_entry_at part_at head words.ask words.visit words.visit_place words.visit_slot after_all
idles_2 d = refl

pub idles_3 : (d : Lying) → rules.react event.Tick lying (idles 3) d ≡ record { replica = idles 4; script = [] }
unfolding rules.react rules.on_tick by first_of blank says ◌⨾◌ change quiet reading words.with_entry_at part_at head words.ask words.visit words.visit_place words.visit_slot after_all
idles_3 d = refl

abbrev n1u : Replica
n1u = record (b0 Strict) { view = 1; heard = with_replica no_replicas 1; cursor = 4 }

abbrev pub n1 : Replica
n1 = record n1u { saved = value_of n1u }

abbrev tells_change : Replica → ℕ → Effect
tells_change r to = Say (send to (start_view_change r) r)

abbrev pub enters_next : List Effect
enters_next = Save (b0 Strict).saved (value_of n1u) ∷ tells_change n1 0 ∷ tells_change n1 2 ∷ []

pub idles_4 : (d : Lying) → rules.react event.Tick lying (idles 4) d ≡ record { replica = n1; script = enters_next }
unfolding rules.react rules.on_tick by first_of blank says send_to_all ◌⨾◌ change quiet does reading words.enter words.entered words.save part_at head after_all
idles_4 d = refl

-- the other backup hears of the view as in any other row
pub changes_next : (d : Lying) → rules.react (event.Deliver (start_view_change n1)) lying c0 d ≡ record { replica = c1; script = enters_2 }
unfolding value_of blank
changes_next d = changes_2 d

-- ---- and chooses a log that is empty

pub chooses_none : (d : Lying) → AllByRecursion (IsOf one) (rules.react (event.Deliver (do_view_change c1)) lying n1 d).script
unfolding rules.react rules.on_do_view_change by first_of blank says send_to_all ◌⨾◌ change quiet does naming each times words.try words.try_log words.begin_view words.take words.taken words.taken_part words.may_take words.stated words.save words.apply statement_of run forgetting head part_at choice named_by row_end log_headers after_all value_of
chooses_none d = (tt, (tt, (tt, (tt, tt))))
