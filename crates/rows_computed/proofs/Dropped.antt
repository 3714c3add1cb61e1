-- What the steps are of a group whose new primary drops an entry that only the stopped one has: of the other two.
use Rattle.std.proofs.Common.{ℕ, ◌≡◌, ◌%◌, ◌++◌, List, [], ◌∷◌, map, cond, Option, Some, replicate, refl, ap, ◌∙◌, true, false}
use Rattle.sha2.specs.Sha256.{sha256, first_words, schedule, rounds, compress, hash_after, digest_bytes}
use Rattle.vr_base.specs.Bytes.{bytes16, bytes32, bytes64, name_of}
use Rattle.vr_base.specs.Replicas.{no_replicas, with_replica}
use Rattle.vr_base.specs.declared.mode.Mode.TheVariants.{Strict}
use Rattle.vr_header.specs.Bodies.{operation_bytes}
use Rattle.vr_header.specs.Made.{Whole}
use Rattle.vr_header.specs.Same.{same_header}
use Rattle.vr_header.specs.Spelling.{named_bytes}
use Rattle.vr_header.specs.declared.header.Header.{Header}
use Rattle.vr_header.specs.declared.part.Part.{Part}
use Rattle.vr_header.specs.declared.part.Part.TheVariants.{Here, Nothing}
use Rattle.vr_msg.specs.Choice.{choice, named_by, row_end, log_headers}
use Rattle.vr_msg.specs.declared.event.Event.TheVariants as event
use Rattle.vr_msg.specs.declared.statement.Statement.{Statement}
use Rattle.vr_state.specs.Folds as state
use Rattle.vr_state.specs.Kv as kv
use Rattle.vr_state.specs.Sessions as sess
use Rattle.vr_rules.specs.Deciding.{first_of, is_in_flight}
use Rattle.vr_rules.specs.Replica.{Replica, forgetting, head, is_alone, part_at, run, statement_of, with_part}
use Rattle.vr_rules.specs.Outputs.{commit_line, do_view_change, prepare, prepare_ok, send, send_to_all, start_view, start_view_change}
use Rattle.vr_rules.specs.Steps.{Effect, Save, Say, Setting, Step, Write, ◌⨾◌, after_all, by, change, does, each, naming, quiet, reading, says, times}
use Rattle.vr_rules.specs.Words as words
use Rattle.vr_rules.specs.Words.{mend_header, value_of}
use Rattle.vr_rules.specs.Rules as rules
use Rattle.vr_rules.specs.Opening.{blank}
use Rattle.vr_world.specs.Lying.{Lying, lying}
use Rattle.rows_computed.proofs.Changes.{c0}
use Rattle.rows_computed.proofs.Entries.{first, first_header, third, third_header}
use Rattle.rows_computed.proofs.Happenings.{registers_later}
use Rattle.rows_computed.proofs.Steps.{answers, applies, b1, by_entry, one, p1, same_first, stores}

-- ---- the backup that isn't to lead stores the first entry too

abbrev pub q1 : Replica
q1 = record c0 { parts = one }

pub stores_2 : (d : Lying) → rules.react (event.Deliver (prepare first (p1 Strict))) lying c0 d ≡ record { replica = q1; script = stores first q1 }
unfolding rules.react rules.on_prepare is_in_flight by first_of blank says send_to_all ◌⨾◌ change quiet does naming words.write forgetting with_part part_at head words.learn words.apply times after_all operation_bytes named_bytes bytes16 bytes32 bytes64 name_of sha256 first_words schedule rounds compress hash_after digest_bytes
stores_2 d = refl

-- ---- the other one counts ticks, and looks at the slot of its entry meanwhile

-- after so many ticks
abbrev pub counts : ℕ → Replica
counts k = record (b1 Strict) { idle = k; cursor = k }

-- a slot is well: nothing is done
looks_well : {F : Type 0} (s : Setting F) (r : Replica) (f : F) (h : Header) (o : Option Header) → o ≡ Some h → same_header h h ≡ true → mend_header h o s r f ≡ record { replica = r; script = [] }
unfolding does quiet
looks_well s r f h o is same = rw (is, same) refl

visits_well : {F : Type 0} (s : Setting F) (r : Replica) (f : F) (op : ℕ) (e : Whole) → part_at r op ≡ Here e.header → s.entry f (e.header.op % 64) ≡ Some e → s.header f (op % 64) ≡ Some e.header → same_header e.header e.header ≡ true
    → words.visit_slot op s r f ≡ record { replica = r; script = [] }
unfolding words.visit_slot words.with_entry_at by reading
visits_well s r f op e at entry head same =
    rw at (by_entry e.header (λ e. reading (words.header_read op) (mend_header e.header)) s r f (s.entry f (e.header.op % 64)) e entry same ∙ looks_well s r f e.header (s.header f (op % 64)) head same)

pub counts_0 : (d : Lying) → rules.react event.Tick lying (b1 Strict) d ≡ record { replica = counts 1; script = [] }
unfolding rules.react rules.on_tick by first_of blank says ◌⨾◌ change quiet reading words.with_entry_at part_at head words.ask words.visit words.visit_place words.visit_slot after_all
counts_0 d = refl

pub counts_1 : (d : Lying) → lying.entry d 1 ≡ Some first → lying.header d 1 ≡ Some first_header → rules.react event.Tick lying (counts 1) d ≡ record { replica = counts 2; script = [] }
unfolding rules.react rules.on_tick by first_of blank says ◌⨾◌ change quiet part_at head words.ask words.visit words.visit_place after_all
counts_1 d entry header =
    let r : Replica = record (counts 1) { idle = 2 } in
    ap (λ (a : Step). let q = words.with_cursor 1 a.replica in let c = words.ask lying q (after_all lying d (a.script ++ [])) in record { replica = c.replica; script = (a.script ++ []) ++ c.script })
    (visits_well lying r d 1 first refl entry header same_first)

pub counts_2 : (d : Lying) → rules.react event.Tick lying (counts 2) d ≡ record { replica = counts 3; script = [] }
unfolding rules.react rules.on_tick by first_of blank says ◌⨾◌ change quiet reading words.with_entry_at part_at head words.ask words.visit words.visit_place words.visit_slot after_all
counts_2 d = refl

pub counts_3 : (d : Lying) → rules.react event.Tick lying (counts 3) d ≡ record { replica = counts 4; script = [] }
unfolding rules.react rules.on_tick by first_of blank says ◌⨾◌ change quiet reading words.with_entry_at part_at head words.ask words.visit words.visit_place words.visit_slot after_all
counts_3 d = refl

abbrev v1u : Replica
v1u = record (b1 Strict) { view = 1; heard = with_replica no_replicas 1; cursor = 4 }

abbrev pub v1 : Replica
v1 = record v1u { saved = value_of v1u }

abbrev tells_change : Replica → ℕ → Effect
tells_change r to = Say (send to (start_view_change r) r)

abbrev pub enters_v : List Effect
enters_v = Save (b1 Strict).saved (value_of v1u) ∷ tells_change v1 0 ∷ tells_change v1 2 ∷ []

pub counts_4 : (d : Lying) → rules.react event.Tick lying (counts 4) d ≡ record { replica = v1; script = enters_v }
unfolding rules.react rules.on_tick by first_of blank says send_to_all ◌⨾◌ change quiet does reading words.enter words.entered words.save part_at head after_all
counts_4 d = refl

-- ---- the first one enters, and states its log

abbrev u1u : Replica
u1u = record q1 { view = 1; heard = with_replica no_replicas 2 }

abbrev pub u1e : Replica
u1e = record u1u { saved = value_of u1u }

abbrev pub u1 : Replica
u1 = record u1e { heard = with_replica (with_replica no_replicas 2) 1 }

abbrev pub enters_u : List Effect
enters_u = Save q1.saved (value_of u1u) ∷ tells_change u1e 0 ∷ tells_change u1e 1 ∷ Say (send 1 (do_view_change u1) u1) ∷ []

pub changes_u : (d : Lying) → rules.react (event.Deliver (start_view_change v1)) lying q1 d ≡ record { replica = u1; script = enters_u }
unfolding rules.react rules.on_start_view_change by first_of blank says send_to_all ◌⨾◌ change quiet does words.enter words.entered words.save words.speak head after_all value_of
changes_u d = refl

-- ---- two deny the stopped one's entry: the log of the view ends before it

abbrev v2u : Replica
v2u = record v1 { log_view = 1; heard = no_replicas }

abbrev pub v2 : Replica
v2 = record v2u { saved = value_of v2u }

-- what both have stated
abbrev stated_both : List Statement
stated_both = statement_of v1 ∷ statement_of u1 ∷ []

abbrev log_both : words.Log
log_both = words.chosen_log v1 stated_both (first_header ∷ [])

abbrev pub begins_v : List Effect
begins_v =
    map Say (words.choose_line stated_both log_both v1)
    ++ Save v1.saved (value_of v2u) ∷ Say (send 0 (start_view v2) v2) ∷ Say (send 2 (start_view v2) v2) ∷ []

abbrev tells_entry : Whole → Replica → ℕ → Effect
tells_entry e r to = Say (send to (prepare e r) r)

abbrev pub chooses_v : List Effect
chooses_v = begins_v ++ tells_entry first v2 0 ∷ tells_entry first v2 2 ∷ []

-- an entry that reads is sent again
tells_again : {F : Type 0} (s : Setting F) (r : Replica) (f : F) (op : ℕ) (e : Whole) → part_at r op ≡ Here e.header → s.entry f (e.header.op % 64) ≡ Some e → same_header e.header e.header ≡ true
    → words.prepare_again op s r f ≡ says (send_to_all (prepare e)) s r f
unfolding words.prepare_again words.with_entry_at by reading
tells_again s r f op e at entry same = rw at (by_entry e.header (λ e. says (send_to_all (prepare e))) s r f (s.entry f (e.header.op % 64)) e entry same)

pub chooses_one : (d : Lying) → lying.entry (after_all lying d begins_v) 1 ≡ Some first → rules.react (event.Deliver (do_view_change u1)) lying v1 d ≡ record { replica = v2; script = chooses_v }
unfolding rules.react rules.on_do_view_change by first_of blank says send_to_all ◌⨾◌ change quiet does naming each times words.try words.try_log words.begin_view words.take words.taken words.taken_part words.may_take words.is_chain_from words.stated words.save words.apply statement_of run forgetting head part_at choice named_by row_end log_headers same_header named_bytes after_all value_of bytes16 bytes32 bytes64
chooses_one d entry =
    ap (λ (a : Step). let b = (cond (is_alone a.replica) words.advance words.apply) lying a.replica (after_all lying (after_all lying d begins_v) (a.script ++ [])) in record { replica = b.replica; script = begins_v ++ ((a.script ++ []) ++ b.script) })
    (tells_again lying v2 (after_all lying d begins_v) 1 first refl entry same_first)

-- ---- the other one takes it over, and acknowledges

abbrev u2u : Replica
u2u = record u1 { log_view = 1; heard = no_replicas }

abbrev pub u2 : Replica
u2 = record u2u { saved = value_of u2u }

abbrev pub takes_u : List Effect
takes_u = Save u1.saved (value_of u2u) ∷ Say (send 1 (prepare_ok name_of first_header u2) u2) ∷ []

pub takes_over : (d : Lying) → rules.react (event.Deliver (start_view v2)) lying u1 d ≡ record { replica = u2; script = takes_u }
unfolding rules.react rules.on_start_view rules.acknowledge_stored by first_of blank says ◌⨾◌ change quiet does naming each times words.take words.taken words.taken_part words.is_chain_from words.may_take words.save words.apply run forgetting head part_at same_header named_bytes after_all value_of bytes16 bytes32 bytes64 name_of sha256 first_words schedule rounds compress hash_after digest_bytes operation_bytes
takes_over d = refl

-- ---- so the first entry is committed in the new view

abbrev pub v2c : Replica
v2c = record v2 { ackers = with_replica no_replicas 2 ∷ replicate 63 no_replicas; commit = 1 }

abbrev pub v3 : Replica
v3 = record v2c { applied = 1; state = (state.applied state.empty first).state }

applied_v3 : (d : Lying) → words.apply_entry first lying v2c d ≡ record { replica = v3; script = answers first v2c }
unfolding words.apply_entry ◌⨾◌ quiet change does says by blank after_all state.applied state.answered state.executed sess.checked sess.applied kv.applied value_of
applied_v3 d = refl

pub counted_v : (d : Lying) → lying.entry d 1 ≡ Some first → rules.react (event.Deliver (prepare_ok name_of first_header u2)) lying v2 d ≡ record { replica = v3; script = answers first v2c }
unfolding rules.react rules.on_prepare_ok by first_of blank ◌⨾◌ change quiet naming part_at head words.advance words.advanced words.apply times after_all value_of operation_bytes named_bytes bytes16 bytes32 bytes64 name_of sha256 first_words schedule rounds compress hash_after digest_bytes
counted_v d reads = ap (λ (a : Step). record { replica = a.replica; script = a.script ++ [] }) (applies lying v2c d first_header first refl refl reads same_first ∙ applied_v3 d)

-- ---- another client registers: its entry has the number of the one that was dropped

abbrev later_two : List Part
later_two = Here first_header ∷ Here third_header ∷ replicate 62 Nothing

abbrev pub v4 : Replica
v4 = record v3 { parts = later_two }

abbrev pub makes_v : List Effect
makes_v = Write false third ∷ tells_entry third v4 0 ∷ tells_entry third v4 2 ∷ []

pub makes_third : (d : Lying) → rules.react (event.Request registers_later) lying v3 d ≡ record { replica = v4; script = makes_v }
unfolding rules.react rules.on_request rules.make rules.next_entry is_in_flight sess.checked by first_of blank says send_to_all ◌⨾◌ change quiet does naming words.write forgetting with_part part_at head words.advance words.advanced words.apply times after_all value_of state.applied state.answered state.executed sess.applied kv.applied operation_bytes named_bytes bytes16 bytes32 bytes64 name_of sha256 first_words schedule rounds compress hash_after digest_bytes
makes_third d = refl

abbrev pub u3 : Replica
u3 = record u2 { parts = later_two }

abbrev pub u3c : Replica
u3c = record u3 { commit = 1 }

abbrev pub u4 : Replica
u4 = record u3c { applied = 1; state = (state.applied state.empty first).state }

abbrev pub stores_u : List Effect
stores_u = Write false third ∷ Say (send 1 (prepare_ok name_of third_header u3) u3) ∷ []

abbrev stored_u : Lying → Lying
stored_u d = after_all lying d stores_u

applied_u4 : (d : Lying) → words.apply_entry first lying u3c d ≡ record { replica = u4; script = map Say (commit_line first u3c) }
unfolding words.apply_entry ◌⨾◌ quiet change does says by blank after_all state.applied state.answered state.executed sess.checked sess.applied kv.applied value_of
applied_u4 d = refl

pub stores_third : (d : Lying) → lying.entry (after_all lying d stores_u) 1 ≡ Some first → rules.react (event.Deliver (prepare third v4)) lying u2 d ≡ record { replica = u4; script = stores_u ++ map Say (commit_line first u3c) }
unfolding rules.react rules.on_prepare is_in_flight by first_of blank says send_to_all ◌⨾◌ change quiet does naming words.write forgetting with_part part_at head words.learn words.apply times after_all value_of operation_bytes named_bytes bytes16 bytes32 bytes64 name_of sha256 first_words schedule rounds compress hash_after digest_bytes
stores_third d reads =
    ap (λ (a : Step). record { replica = a.replica; script = stores_u ++ (a.script ++ []) })
    (applies lying u3c (stored_u d) first_header first refl refl reads same_first ∙ applied_u4 (stored_u d))

-- ---- and is committed

abbrev pub v4c : Replica
v4c = record v4 { ackers = with_replica no_replicas 2 ∷ with_replica no_replicas 2 ∷ replicate 62 no_replicas; commit = 2 }

abbrev pub v5 : Replica
v5 = record v4c { applied = 2; state = (state.applied (state.applied state.empty first).state third).state }

pub same_third : same_header third_header third_header ≡ true
unfolding same_header named_bytes bytes16 bytes32 bytes64
same_third = refl

applied_v5 : (d : Lying) → words.apply_entry third lying v4c d ≡ record { replica = v5; script = answers third v4c }
unfolding words.apply_entry ◌⨾◌ quiet change does says by blank after_all value_of state.applied state.answered state.executed sess.checked sess.applied kv.applied
applied_v5 d = refl

pub counted_third : (d : Lying) → lying.entry d 2 ≡ Some third → rules.react (event.Deliver (prepare_ok name_of third_header u3)) lying v4 d ≡ record { replica = v5; script = answers third v4c }
unfolding rules.react rules.on_prepare_ok by first_of blank ◌⨾◌ change quiet naming part_at head words.advance words.advanced words.apply times after_all value_of operation_bytes named_bytes bytes16 bytes32 bytes64 name_of sha256 first_words schedule rounds compress hash_after digest_bytes
counted_third d reads = ap (λ (a : Step). record { replica = a.replica; script = a.script ++ [] }) (applies lying v4c d third_header third refl refl reads same_third ∙ applied_v5 d)
