-- An acknowledged entry isn't denied: what the lines of that row hash, and that the names of it don't collide.
use Rattle.std.proofs.Common.{ℕ, ◌≡◌, ◌⊎◌, inl, inr, refl, sym, ap, ◌∙◌, subst, List, [], map, drop, Option, Some, None}
use Rattle.std.specs.Prelude.{Contains, slice_get}
use Rattle.std.specs.List.{AllByRecursion}
use Rattle.std.specs.Option.{option_map}
use Rattle.sha2.specs.Sha256.{sha256, first_words, schedule, rounds, compress, hash_after, digest_bytes}
use Rattle.vr_base.specs.Bytes.{bytes16, bytes32, bytes64, name_of}
use Rattle.vr_base.specs.Kinds.{strict}
use Rattle.vr_base.specs.declared.mode.Mode.TheVariants.{Strict}
use Rattle.vr_header.specs.Bodies.{operation_bytes}
use Rattle.vr_header.specs.NoCollision.{NoCollision}
use Rattle.vr_header.specs.Same.{same_header}
use Rattle.vr_header.specs.Spelling.{named_bytes}
use Rattle.vr_msg.specs.Choice.{choice, named_by, row_end, log_headers}
use Rattle.vr_msg.specs.declared.event.Event.{Event}
use Rattle.vr_msg.specs.declared.event.Event.TheVariants as event
use Rattle.vr_lie.specs.declared.fault.Fault.TheVariants.{Damage}
use Rattle.vr_rules.specs.Deciding.{first_of}
use Rattle.vr_rules.specs.Replica.{Replica, forgetting, head, part_at, run, statement_of}
use Rattle.vr_rules.specs.Outputs.{do_view_change, prepare, prepare_ok, send, send_to_all, start_view_change, wait_line}
use Rattle.vr_rules.specs.Steps.{Effect, Say, Step, ◌⨾◌, after_all, by, change, does, each, naming, quiet, says, times}
use Rattle.vr_rules.specs.Words as words
use Rattle.vr_rules.specs.Rules as rules
use Rattle.vr_rules.specs.Rules.{react}
use Rattle.vr_rules.specs.Opening.{blank, opened}
use Rattle.vr_world.specs.Lying.{Lying, hazards, lying}
use Rattle.vr_world.specs.World.{Arrives, AsksInVersion, Happening, Host, Lies, Starts, Stops, Ticks, World, fresh_world, happens}
use Rattle.law_4_disks.specs.Naming.{IsHashedAfter}
use Rattle.law_4_disks.specs.Worlds.{IsHashedAt, Work, begun_in, opening_as, read_of, work_of}
use Rattle.law_6_one_log.specs.Schedules.{IsHashed, IsUsedAt}
use Rattle.law_6_one_log.proofs.Names.{contains_none}
use Rattle.rows_computed.proofs.Happenings.{acknowledged, registers}
use Rattle.rows_computed.proofs.Changes.{a0, a1, c0, c1, changes_0, changes_2, chooses, enters_1, enters_2, m0, m1, m2, m3, ticks_0, ticks_1, ticks_2, ticks_3, ticks_4, waiting, waits_1}
use Rattle.rows_computed.proofs.Disks.{IsOf, Plain, plain_all}
use Rattle.rows_computed.proofs.Entries.{first, first_header}
use Rattle.rows_computed.proofs.Lines.{Hashes, HashesAt, IsText, blank_disk, blank_plain, header, host, line_text, none_left, operation, root, then_lines}
use Rattle.rows_computed.proofs.Lost.{Half, Lost, fault_text, half_slot, halved, lost, once, reads_once, reads_twice, twice}
use Rattle.rows_computed.proofs.Path.{asks_0, begins, goes_0, goes_1, quiet_host, sent_1, sent_2}
use Rattle.rows_computed.proofs.Names.{both, tells_apart}
use Rattle.rows_computed.proofs.Taken.{first_taken}
use Rattle.rows_computed.proofs.Starts.{but_first, kept_slot, lost_slot, starts_0, starts_1, wakes_0, wakes_1}
use Rattle.rows_computed.proofs.Found.{value}
use Rattle.rows_computed.proofs.Steps.{b0, b1, makes, p0, p1, step_0, step_1, stores}
use Rattle.rows_computed.proofs.Stored.{Sits, one, said, sits_0, sits_1}
use Rattle.rows_computed.proofs.Struck.{done, gone_148, gone_81}
use Rattle.rows_computed.proofs.Waits.{chooses_at_1, enters_at_1, enters_at_2, lies_1, off, sent_3, sent_4, sent_5, sent_6, sent_7, states_0, states_at_0, stops_0, stops_1, three, ticks_at_1, waits_at_1, wakes_at_0, wakes_at_1}

-- ---- lines that begin nothing

pub none_used : (w : World Lying) (x : Happening) → work_of w x ≡ None → begun_in w x ≡ [] → (b : List ℕ) → IsUsedAt w x b → ⊥
none_used w x none starts b (inl u) = contains_none u.0 (subst (λ (o : Option Work). Contains (read_of o) u.0) none u.1)
none_used w x none starts b (inr u) = contains_none u.0 (subst (λ (es : List Effect). Contains es u.0) starts u.1)

pub idle_text : (w : World Lying) (x : Happening) → work_of w x ≡ None → begun_in w x ≡ [] → (b : List ℕ) → HashesAt w x b → IsText one b
idle_text w x none starts b (inl h) = let bad : None ≡ Some h.0 = sym none ∙ h.1 in absurd cc
idle_text w x none starts b (inr u) = absurd (none_used w x none starts b u)

same_host : (m q : Host Lying) → Some m ≡ Some q → m ≡ q
same_host m q e = cc

fault_line : (w : World Lying) (m : Host Lying) (i : ℕ) → slice_get w.members 1 ≡ Some m → ((b : List ℕ) → IsHashedAfter m.disk (Damage i) b → IsText one b) → (b : List ℕ) → IsHashedAt w (Lies 1 (Damage i)) b ⊎ IsUsedAt w (Lies 1 (Damage i)) b → IsText one b
fault_line w m i at texts b (inl h) = texts b (subst (λ (q : Host Lying). IsHashedAfter q.disk (Damage i) b) (sym (same_host m h.0 (sym at ∙ h.1))) h.2)
fault_line w m i at texts b (inr u) = absurd (none_used w (Lies 1 (Damage i)) refl refl b u)

-- ---- lines at which a host acts

-- a step whose effects are known
pub step_line : (w : World Lying) (x : Happening) (e : Event) (r q : Replica) (d : Lying) (es : List Effect) → work_of w x ≡ Some (record { host = host r d; script = (react e lying r d).script }) → react e lying r d ≡ record { replica = q; script = es } → Plain one d → AllByRecursion (IsOf one) es
    → (b : List ℕ) → HashesAt w x b → IsText one b
step_line w x e r q d es work is p all = line_text one w x (host r d) (react e lying r d).script refl work p (subst (λ (s : Step). AllByRecursion (IsOf one) s.script) (sym is) all)

pub start_line_text : (w : World Lying) (x : Happening) (q : Replica) (d : Lying) (es : List Effect) → work_of w x ≡ option_map (opening_as (off d)) (opened lying d) → opened lying d ≡ Some (record { replica = q; script = es }) → Plain one d → AllByRecursion (IsOf one) es
    → (b : List ℕ) → HashesAt w x b → IsText one b
start_line_text w x q d es work is p all = line_text one w x (off d) es refl (work ∙ ap (option_map (opening_as (off d))) is) p all

-- ---- the disks

abbrev pub x1 : Lying
x1 = after_all lying (blank_disk Strict 0) (makes first (p1 Strict))

abbrev y1 : Lying
y1 = after_all lying (blank_disk Strict 1) (stores first (b1 Strict))

abbrev y2 : Lying
y2 = once y1

abbrev y3 : Lying
y3 = twice y2

abbrev y4 : Lying
y4 = after_all lying y3 wakes_1

abbrev y5 : Lying
y5 = after_all lying y4 enters_1

abbrev pub z1 : Lying
z1 = after_all lying (blank_disk Strict 2) enters_2

abbrev y6 : Lying
y6 = after_all lying y5 (map Say (wait_line 1 m2))

abbrev x2 : Lying
x2 = after_all lying x1 wakes_0

abbrev x3 : Lying
x3 = after_all lying x2 states_0

abbrev y7 : Lying
y7 = after_all lying y6 (chooses y6).script

pub sits_x1 : Sits (value 0) (but_first kept_slot) x1
unfolding after_all
sits_x1 = said _ _ _ (send 2 (prepare first (p1 Strict)) (p1 Strict)) (said _ _ _ (send 1 (prepare first (p1 Strict)) (p1 Strict)) sits_0)

sits_y1 : Sits (value 1) (but_first kept_slot) y1
unfolding after_all
sits_y1 = said _ _ _ (send 0 (prepare_ok name_of first_header (b1 Strict)) (b1 Strict)) sits_1

half_y2 : Half (value 1) (but_first half_slot) y2
half_y2 = halved (value 1) y1 sits_y1

lost_y3 : Lost (value 1) (but_first lost_slot) y3
lost_y3 = lost (value 1) y2 half_y2

-- ---- what the steps begin

pub makes_one : AllByRecursion (IsOf one) (makes first (p1 Strict))
makes_one = ((inl refl, first_taken), (tt, (tt, tt)))

stores_one : AllByRecursion (IsOf one) (stores first (b1 Strict))
stores_one = ((inl refl, first_taken), (tt, tt))

wakes_1_one : AllByRecursion (IsOf one) wakes_1
wakes_1_one = (tt, (tt, tt))

enters_1_one : AllByRecursion (IsOf one) enters_1
enters_1_one = (tt, (tt, (tt, tt)))

pub enters_2_one : AllByRecursion (IsOf one) enters_2
enters_2_one = (tt, (tt, (tt, (tt, tt))))

wakes_0_one : AllByRecursion (IsOf one) wakes_0
wakes_0_one = (tt, (tt, (tt, (tt, (tt, tt)))))

chooses_one : (d : Lying) → AllByRecursion (IsOf one) (chooses d).script
unfolding react rules.on_do_view_change by first_of blank says send_to_all ◌⨾◌ change quiet does naming each times words.try words.try_log words.begin_view words.take words.taken words.taken_part words.may_take words.is_chain_from words.stated words.save words.prepare_again words.with_entry_at words.apply statement_of run forgetting head part_at choice named_by row_end log_headers same_header named_bytes after_all words.value_of operation_bytes bytes16 bytes32 bytes64 name_of sha256 first_words schedule rounds compress hash_after digest_bytes
chooses_one d = (tt, (tt, (tt, (tt, tt))))

asks_one : (d : Lying) → AllByRecursion (IsOf one) (react event.Tick lying m3 d).script
unfolding react rules.on_tick by first_of blank says send_to_all ◌⨾◌ change quiet naming words.prepare_again words.with_entry_at words.visit words.visit_place words.visit_slot words.ask words.ask_peer head part_at after_all words.value_of
asks_one d = (tt, (tt, (tt, tt)))

plain_y4 : Plain one y4
plain_y4 = plain_all one wakes_1 y3 wakes_1_one lost_y3.plain

plain_y5 : Plain one y5
plain_y5 = plain_all one enters_1 y4 enters_1_one plain_y4

plain_y6 : Plain one y6
plain_y6 = plain_all one (map Say (wait_line 1 m2)) y5 (tt, tt) plain_y5

plain_y7 : Plain one y7
plain_y7 = plain_all one (chooses y6).script y6 (chooses_one y6) plain_y6

plain_x2 : Plain one x2
plain_x2 = plain_all one wakes_0 x1 wakes_0_one sits_x1.plain

-- ---- the whole row

abbrev c_first : Host Lying
c_first = (quiet_host Strict)

abbrev c_last : Host Lying
c_last = host c1 z1

hashed : Hashes (IsText one) (fresh_world hazards strict 3) acknowledged
hashed =
    let xs = acknowledged in
    let w0 = three (host (p0 Strict) (blank_disk Strict 0)) (host (b0 Strict) (blank_disk Strict 1)) c_first [] in
    let w1 = three (host (p1 Strict) x1) (host (b0 Strict) (blank_disk Strict 1)) c_first (sent_1 Strict) in
    let w2 = three (host (p1 Strict) x1) (host (b1 Strict) y1) c_first (sent_2 Strict) in
    let w3 = three (host (p1 Strict) x1) (off y1) c_first (sent_2 Strict) in
    let w4 = three (host (p1 Strict) x1) (off y2) c_first (sent_2 Strict) in
    let w5 = three (host (p1 Strict) x1) (off y3) c_first (sent_2 Strict) in
    let w6 = three (host (p1 Strict) x1) (host m0 y4) c_first (sent_2 Strict) in
    let w7 = three (off x1) (host m0 y4) c_first (sent_2 Strict) in
    let w8 = three (off x1) (host (waiting 1) y4) c_first (sent_2 Strict) in
    let w9 = three (off x1) (host (waiting 2) y4) c_first (sent_2 Strict) in
    let w10 = three (off x1) (host (waiting 3) y4) c_first (sent_2 Strict) in
    let w11 = three (off x1) (host (waiting 4) y4) c_first (sent_2 Strict) in
    let w12 = three (off x1) (host m1 y5) c_first sent_3 in
    let w13 = three (off x1) (host m1 y5) c_last sent_4 in
    let w14 = three (off x1) (host m2 y6) c_last sent_4 in
    let w15 = three (host a0 x2) (host m2 y6) c_last sent_5 in
    let w16 = three (host a1 x3) (host m2 y6) c_last sent_6 in
    let w17 = three (host a1 x3) (host m3 y7) c_last (sent_7 y6) in
    let w18 = (happens hazards w17 (Ticks 1)).world in
    let h17 : Hashes (IsText one) w17 (drop 17 xs) = then_lines (IsText one) w17 w18 (Ticks 1) [] refl (line_text one w17 (Ticks 1) (host m3 y7) (react event.Tick lying m3 y7).script refl refl plain_y7 (asks_one y7)) (none_left (IsText one) w18 root) in
    let h16 : Hashes (IsText one) w16 (drop 16 xs) = then_lines (IsText one) w16 w17 (Arrives 10) (drop 17 xs) (chooses_at_1 (host a1 x3) c_last y6) (line_text one w16 (Arrives 10) (host m2 y6) (chooses y6).script refl refl plain_y6 (chooses_one y6)) h17 in
    let h15 : Hashes (IsText one) w15 (drop 15 xs) = then_lines (IsText one) w15 w16 (Arrives 3) (drop 16 xs) (states_at_0 (host m2 y6) c_last x2) (step_line w15 (Arrives 3) (event.Deliver (start_view_change m1)) a0 a1 x2 states_0 refl (changes_0 x2) plain_x2 (tt, tt)) h16 in
    let start_0 = starts_0 x1 sits_x1.opens sits_x1.looks in
    let h14 : Hashes (IsText one) w14 (drop 14 xs) = then_lines (IsText one) w14 w15 (Starts 0) (drop 15 xs) (wakes_at_0 (host m2 y6) c_last x1 start_0) (start_line_text w14 (Starts 0) a0 x1 wakes_0 refl start_0 sits_x1.plain wakes_0_one) h15 in
    let h13 : Hashes (IsText one) w13 (drop 13 xs) = then_lines (IsText one) w13 w14 (Arrives 7) (drop 14 xs) (waits_at_1 (off x1) c_last y5) (step_line w13 (Arrives 7) (event.Deliver (do_view_change c1)) m1 m2 y5 (map Say (wait_line 1 m2)) refl (waits_1 y5) plain_y5 (tt, tt)) h14 in
    let h12 : Hashes (IsText one) w12 (drop 12 xs) = then_lines (IsText one) w12 w13 (Arrives 4) (drop 13 xs) (enters_at_2 (off x1) (host m1 y5) (blank_disk Strict 2)) (step_line w12 (Arrives 4) (event.Deliver (start_view_change m1)) c0 c1 (blank_disk Strict 2) enters_2 refl (changes_2 (blank_disk Strict 2)) (blank_plain Strict one).2 enters_2_one) h13 in
    let h11 : Hashes (IsText one) w11 (drop 11 xs) = then_lines (IsText one) w11 w12 (Ticks 1) (drop 12 xs) (enters_at_1 (off x1) c_first y4) (step_line w11 (Ticks 1) event.Tick (waiting 4) m1 y4 enters_1 refl (ticks_4 y4) plain_y4 enters_1_one) h12 in
    let h10 : Hashes (IsText one) w10 (drop 10 xs) = then_lines (IsText one) w10 w11 (Ticks 1) (drop 11 xs) (ticks_at_1 (off x1) c_first (waiting 3) (waiting 4) y4 (ticks_3 y4)) (step_line w10 (Ticks 1) event.Tick (waiting 3) (waiting 4) y4 [] refl (ticks_3 y4) plain_y4 tt) h11 in
    let h9 : Hashes (IsText one) w9 (drop 9 xs) = then_lines (IsText one) w9 w10 (Ticks 1) (drop 10 xs) (ticks_at_1 (off x1) c_first (waiting 2) (waiting 3) y4 (ticks_2 y4)) (step_line w9 (Ticks 1) event.Tick (waiting 2) (waiting 3) y4 [] refl (ticks_2 y4) plain_y4 tt) h10 in
    let h8 : Hashes (IsText one) w8 (drop 8 xs) = then_lines (IsText one) w8 w9 (Ticks 1) (drop 9 xs) (ticks_at_1 (off x1) c_first (waiting 1) (waiting 2) y4 (ticks_1 y4)) (step_line w8 (Ticks 1) event.Tick (waiting 1) (waiting 2) y4 [] refl (ticks_1 y4) plain_y4 tt) h9 in
    let h7 : Hashes (IsText one) w7 (drop 7 xs) = then_lines (IsText one) w7 w8 (Ticks 1) (drop 8 xs) (ticks_at_1 (off x1) c_first m0 (waiting 1) y4 (ticks_0 y4)) (step_line w7 (Ticks 1) event.Tick m0 (waiting 1) y4 [] refl (ticks_0 y4) plain_y4 tt) h8 in
    let h6 : Hashes (IsText one) w6 (drop 6 xs) = then_lines (IsText one) w6 w7 (Stops 0) (drop 7 xs) (stops_0 (host m0 y4) c_first (p1 Strict) x1) (idle_text w6 (Stops 0) refl refl) h7 in
    let start_1 = starts_1 y3 lost_y3.opens lost_y3.looks in
    let h5 : Hashes (IsText one) w5 (drop 5 xs) = then_lines (IsText one) w5 w6 (Starts 1) (drop 6 xs) (wakes_at_1 (host (p1 Strict) x1) c_first y3 start_1) (start_line_text w5 (Starts 1) m0 y3 wakes_1 refl start_1 lost_y3.plain wakes_1_one) h6 in
    let h4 : Hashes (IsText one) w4 (drop 4 xs) = then_lines (IsText one) w4 w5 (Lies 1 (Damage 148)) (drop 5 xs) (lies_1 (host (p1 Strict) x1) c_first y2 y3 148 (done y2 148 half_y2.plain.version (inr refl) half_y2.face (gone_148 y2.face half_y2.gone))) (fault_line w4 (off y2) 148 refl (fault_text y2 148 half_y2.plain.version (reads_twice (value 1) y2 half_y2) half_y2.held)) h5 in
    let h3 : Hashes (IsText one) w3 (drop 3 xs) = then_lines (IsText one) w3 w4 (Lies 1 (Damage 81)) (drop 4 xs) (lies_1 (host (p1 Strict) x1) c_first y1 y2 81 (done y1 81 sits_y1.plain.version (inl refl) sits_y1.face (gone_81 y1.face sits_y1.plain.count sits_y1.header))) (fault_line w3 (off y1) 81 refl (fault_text y1 81 sits_y1.plain.version (reads_once y1 sits_y1.plain) sits_y1.held)) h4 in
    let h2 : Hashes (IsText one) w2 (drop 2 xs) = then_lines (IsText one) w2 w3 (Stops 1) (drop 3 xs) (stops_1 (host (p1 Strict) x1) c_first (b1 Strict) y1) (idle_text w2 (Stops 1) refl refl) h3 in
    let h1 : Hashes (IsText one) w1 (drop 1 xs) = then_lines (IsText one) w1 w2 (Arrives 0) (drop 2 xs) (goes_1 Strict x1 (blank_disk Strict 1)) (step_line w1 (Arrives 0) (event.Deliver (prepare first (p1 Strict))) (b0 Strict) (b1 Strict) (blank_disk Strict 1) (stores first (b1 Strict)) refl (step_1 Strict (blank_disk Strict 1)) (blank_plain Strict one).1 stores_one) h2 in
    let h0 : Hashes (IsText one) w0 xs = then_lines (IsText one) w0 w1 (AsksInVersion 0 registers) (drop 1 xs) (goes_0 Strict (blank_disk Strict 0) (host (b0 Strict) (blank_disk Strict 1))) (step_line w0 (AsksInVersion 0 registers) (event.Request registers) (p0 Strict) (p1 Strict) (blank_disk Strict 0) (makes first (p1 Strict)) (asks_0 Strict (blank_disk Strict 0)) (step_0 Strict (blank_disk Strict 0)) (blank_plain Strict one).0 makes_one) h1 in
    subst (λ (w : World Lying). Hashes (IsText one) w xs) (sym (begins Strict)) h0

pub also : (b : List ℕ) → IsText one b → IsText both b
also _ root = root
also _ (header e (inl i)) = header e (inl i)
also _ (header e (inr i)) = absurd i
also _ (operation e (inl i)) = operation e (inl i)
also _ (operation e (inr i)) = absurd i

pub acknowledged_never : NoCollision (IsHashed (fresh_world hazards strict 3) acknowledged)
acknowledged_never = tells_apart (IsHashed (fresh_world hazards strict 3) acknowledged) (λ b h. inl (also b (hashed b h)))
