-- What the steps of the plain path are, on disks of which it is known what they read as.
use Rattle.std.proofs.Common.{ℕ, ◌+◌, ◌%◌, ◌≡◌, ◌&&◌, nat_lt, cond, map, List, [], ◌∷◌, ◌++◌, Option, Some, None, replicate, refl, ap, ◌∙◌, true, false}
use Rattle.std.specs.Option.{option_and_then}
use Rattle.sha2.specs.Sha256.{sha256, first_words, schedule, rounds, compress, hash_after, digest_bytes}
use Rattle.vr_base.specs.Bytes.{bytes16, bytes32, bytes64, name_of}
use Rattle.vr_base.specs.Kinds.{of_mode}
use Rattle.vr_base.specs.declared.mode.Mode.{Mode}
use Rattle.vr_base.specs.Replicas.{no_replicas, with_replica}
use Rattle.vr_header.specs.Bodies.{operation_bytes}
use Rattle.vr_header.specs.Made.{Whole}
use Rattle.vr_header.specs.Same.{same_header}
use Rattle.vr_header.specs.Spelling.{named_bytes}
use Rattle.vr_header.specs.declared.header.Header.{Header}
use Rattle.vr_header.specs.declared.part.Part.{Part}
use Rattle.vr_header.specs.declared.part.Part.TheVariants.{Here, Nothing}
use Rattle.vr_msg.specs.declared.event.Event.TheVariants as event
use Rattle.vr_state.specs.Folds as state
use Rattle.vr_state.specs.Sessions as sess
use Rattle.vr_state.specs.Kv as kv
use Rattle.vr_rules.specs.Replica.{Replica, part_at, head, forgetting, with_part}
use Rattle.vr_rules.specs.Deciding.{first_of, is_in_flight}
use Rattle.vr_rules.specs.Steps.{Effect, Write, Say, Setting, Step, Word, ◌⨾◌, quiet, change, does, says, by, naming, reading, times, after_all}
use Rattle.vr_rules.specs.Outputs.{send_to_all, prepare, prepare_ok, send, commit_line, applied_reply}
use Rattle.vr_rules.specs.Words.{write, with_entry_at, apply_entry, apply_next, apply, advanced, advance, learn, is_loaded, or_lost}
use Rattle.vr_rules.specs.Rules as rules
use Rattle.vr_rules.specs.Opening.{blank, fresh}
use Rattle.vr_world.specs.Lying.{Lying, lying}
use Rattle.rows_computed.proofs.Happenings.{registers, puts}
use Rattle.rows_computed.proofs.Entries.{first, second, first_header, second_header}

-- ---- the replicas, step by step

abbrev pub p0 : Mode → Replica
p0 m = fresh (of_mode m) 0 3 0

abbrev pub b0 : Mode → Replica
b0 m = fresh (of_mode m) 0 3 1

abbrev pub one : List Part
one = Here first_header ∷ replicate 63 Nothing

abbrev two : List Part
two = Here first_header ∷ Here second_header ∷ replicate 62 Nothing

-- the primary once it wrote the first entry
abbrev pub p1 : Mode → Replica
p1 m = record (p0 m) { parts = one }

abbrev pub b1 : Mode → Replica
b1 m = record (b0 m) { parts = one }

abbrev says_prepare : Whole → ℕ → Replica → Effect
says_prepare e to r = Say (send to (prepare e r) r)

-- it writes an entry, and tells both others
abbrev pub makes : Whole → Replica → List Effect
makes e r = Write false e ∷ says_prepare e 1 r ∷ says_prepare e 2 r ∷ []

-- it writes the entry of a prepare, and acknowledges it
abbrev pub stores : Whole → Replica → List Effect
stores e r = Write false e ∷ Say (send 0 (prepare_ok name_of e.header r) r) ∷ []

-- it applies an entry, and answers
abbrev pub answers : Whole → Replica → List Effect
answers e r = map Say (commit_line e r) ++ map Say (applied_reply e r)

pub step_0 : (m : Mode) (d : Lying) → rules.react (event.Request registers) lying (p0 m) d ≡ record { replica = (p1 m); script = makes first (p1 m) }
unfolding rules.react rules.on_request rules.make rules.next_entry is_in_flight sess.checked by first_of blank says send_to_all ◌⨾◌ change quiet does naming write forgetting with_part part_at head advance advanced apply times after_all operation_bytes named_bytes bytes16 bytes32 bytes64 name_of sha256 first_words schedule rounds compress hash_after digest_bytes
step_0 m d = refl

pub step_1 : (m : Mode) (d : Lying) → rules.react (event.Deliver (prepare first (p1 m))) lying (b0 m) d ≡ record { replica = (b1 m); script = stores first (b1 m) }
unfolding rules.react rules.on_prepare is_in_flight by first_of blank says send_to_all ◌⨾◌ change quiet does naming write forgetting with_part part_at head learn apply times after_all operation_bytes named_bytes bytes16 bytes32 bytes64 name_of sha256 first_words schedule rounds compress hash_after digest_bytes
step_1 m d = refl

-- ---- an entry that is applied, where it reads

pub same_first : same_header first_header first_header ≡ true
unfolding same_header named_bytes bytes16 bytes32 bytes64
same_first = refl

same_second : same_header second_header second_header ≡ true
unfolding same_header named_bytes bytes16 bytes32 bytes64
same_second = refl

pub by_entry : {F : Type 0} (h : Header) (w : Whole → Word F) (s : Setting F) (r : Replica) (f : F) (o : Option Whole) (e : Whole) → o ≡ Some e → same_header e.header h ≡ true
    → or_lost h w (option_and_then (λ x. cond (same_header x.header h) (Some x) None) o) s r f ≡ w e s r f
by_entry h w s r f o e is same = rw (is, same) refl

pub applies : {F : Type 0} (s : Setting F) (r : Replica) (f : F) (h : Header) (e : Whole) → (is_loaded r && nat_lt r.applied r.commit) ≡ true → part_at r (r.applied + 1) ≡ Here h → s.entry f (h.op % 64) ≡ Some e → same_header e.header h ≡ true
    → apply_next s r f ≡ apply_entry e s r f
unfolding apply_next with_entry_at by reading
applies s r f h e may at reads same = rw (may, at) (by_entry h apply_entry s r f (s.entry f (h.op % 64)) e reads same)

-- ---- the primary hears of the backup that has the first entry

abbrev pub p1c : Mode → Replica
p1c m = record (p1 m) { ackers = with_replica no_replicas 1 ∷ replicate 63 no_replicas; commit = 1 }

abbrev pub p2 : Mode → Replica
p2 m = record (p1c m) { applied = 1; state = (state.applied state.empty first).state }

applied_p2 : (m : Mode) (d : Lying) → apply_entry first lying (p1c m) d ≡ record { replica = (p2 m); script = answers first (p1c m) }
unfolding apply_entry ◌⨾◌ quiet change does says by blank after_all state.applied state.answered state.executed sess.checked sess.applied kv.applied
applied_p2 m d = refl

pub step_2 : (m : Mode) (d : Lying) → lying.entry d 1 ≡ Some first → rules.react (event.Deliver (prepare_ok name_of first_header (b1 m))) lying (p1 m) d ≡ record { replica = (p2 m); script = answers first (p1c m) }
unfolding rules.react rules.on_prepare_ok by first_of blank ◌⨾◌ change quiet naming part_at head advance advanced apply times after_all operation_bytes named_bytes bytes16 bytes32 bytes64 name_of sha256 first_words schedule rounds compress hash_after digest_bytes
step_2 m d reads = ap (λ (a : Step). record { replica = a.replica; script = a.script ++ [] }) (applies lying (p1c m) d first_header first refl refl reads same_first ∙ applied_p2 m d)

-- ---- it is asked for a put

abbrev pub p3 : Mode → Replica
p3 m = record (p2 m) { parts = two }

pub step_3 : (m : Mode) (d : Lying) → rules.react (event.Request puts) lying (p2 m) d ≡ record { replica = (p3 m); script = makes second (p3 m) }
unfolding rules.react rules.on_request rules.make rules.next_entry is_in_flight sess.checked by first_of blank says send_to_all ◌⨾◌ change quiet does naming write forgetting with_part part_at head advance advanced apply times after_all state.applied state.answered state.executed sess.applied kv.applied operation_bytes named_bytes bytes16 bytes32 bytes64 name_of sha256 first_words schedule rounds compress hash_after digest_bytes
step_3 m d = refl

-- ---- the backup stores it, and applies the first one

abbrev pub b2 : Mode → Replica
b2 m = record (b1 m) { parts = two }

abbrev pub b2c : Mode → Replica
b2c m = record (b2 m) { commit = 1 }

abbrev pub b3 : Mode → Replica
b3 m = record (b2c m) { applied = 1; state = (state.applied state.empty first).state }

abbrev pub stores_second : Mode → Lying → Lying
stores_second m d = lying.after (lying.after d (Write false second)) (Say (send 0 (prepare_ok name_of second_header (b2 m)) (b2 m)))

applied_b3 : (m : Mode) (d : Lying) → apply_entry first lying (b2c m) d ≡ record { replica = (b3 m); script = map Say (commit_line first (b2c m)) }
unfolding apply_entry ◌⨾◌ quiet change does says by blank after_all state.applied state.answered state.executed sess.checked sess.applied kv.applied
applied_b3 m d = refl

pub step_4 : (m : Mode) (d : Lying) → lying.entry (stores_second m d) 1 ≡ Some first → rules.react (event.Deliver (prepare second (p3 m))) lying (b1 m) d ≡ record { replica = (b3 m); script = stores second (b2 m) ++ map Say (commit_line first (b2c m)) }
unfolding rules.react rules.on_prepare is_in_flight by first_of blank says send_to_all ◌⨾◌ change quiet does naming write forgetting with_part part_at head learn apply times after_all operation_bytes named_bytes bytes16 bytes32 bytes64 name_of sha256 first_words schedule rounds compress hash_after digest_bytes
step_4 m d reads =
    ap (λ (a : Step). record { replica = a.replica; script = stores second (b2 m) ++ (a.script ++ []) })
    (applies lying (b2c m) (stores_second m d) first_header first refl refl reads same_first ∙ applied_b3 m (stores_second m d))

-- ---- and the primary applies the second one

abbrev pub p3c : Mode → Replica
p3c m = record (p3 m) { ackers = with_replica no_replicas 1 ∷ with_replica no_replicas 1 ∷ replicate 62 no_replicas; commit = 2 }

abbrev pub p4 : Mode → Replica
p4 m = record (p3c m) { applied = 2; state = (state.applied (state.applied state.empty first).state second).state }

applied_p4 : (m : Mode) (d : Lying) → apply_entry second lying (p3c m) d ≡ record { replica = (p4 m); script = answers second (p3c m) }
unfolding apply_entry ◌⨾◌ quiet change does says by blank after_all
applied_p4 m d = refl

pub step_5 : (m : Mode) (d : Lying) → lying.entry d 2 ≡ Some second → rules.react (event.Deliver (prepare_ok name_of second_header (b2 m))) lying (p3 m) d ≡ record { replica = (p4 m); script = answers second (p3c m) }
unfolding rules.react rules.on_prepare_ok by first_of blank ◌⨾◌ change quiet naming part_at head advance advanced apply times after_all operation_bytes named_bytes bytes16 bytes32 bytes64 name_of sha256 first_words schedule rounds compress hash_after digest_bytes
step_5 m d reads = ap (λ (a : Step). record { replica = a.replica; script = a.script ++ [] }) (applies lying (p3c m) d second_header second refl refl reads same_second ∙ applied_p4 m d)
