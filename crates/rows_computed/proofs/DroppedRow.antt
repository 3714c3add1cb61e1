-- An entry that only the stopped primary has is dropped: what the lines of that row hash, and that the names of it don't collide.
use Rattle.std.proofs.Common.{ℕ, ◌≡◌, inl, inr, arith, refl, sym, ap, ◌∙◌, subst, List, [], ◌∷◌, ◌++◌, map, drop, Some, None, false}
use Rattle.std.specs.List.{AllByRecursion}
use Rattle.vr_base.specs.Bytes.{name_of}
use Rattle.vr_base.specs.Kinds.{strict}
use Rattle.vr_base.specs.declared.mode.Mode.TheVariants.{Strict}
use Rattle.vr_header.specs.Made.{Whole}
use Rattle.vr_header.specs.NoCollision.{NoCollision}
use Rattle.vr_msg.specs.declared.event.Event.{Event}
use Rattle.vr_msg.specs.declared.event.Event.TheVariants as event
use Rattle.vr_msg.specs.declared.output.Sent.{Sent}
use Rattle.vr_rules.specs.Outputs.{commit_line, do_view_change, messages, prepare, prepare_ok, send, start_view, start_view_change}
use Rattle.vr_rules.specs.Replica.{Replica, version}
use Rattle.vr_rules.specs.Rules.{react}
use Rattle.vr_rules.specs.Opening.{Slot, blank}
use Rattle.vr_rules.specs.Words.{value_of}
use Rattle.vr_rules.specs.Steps.{Effect, Say, Step, after_all, outputs}
use Rattle.vr_world.specs.Lying.{Lying, hazards, lying}
use Rattle.vr_world.specs.World.{Arrives, AsksInVersion, Happening, Host, Stops, Ticks, World, at_member, fresh_world, happens, in_version}
use Rattle.law_4_disks.specs.Worlds.{begun_in, stepping, work_of}
use Rattle.law_6_one_log.specs.Schedules.{IsHashed}
use Rattle.rows_computed.proofs.Changes.{c0}
use Rattle.rows_computed.proofs.Denied.{none_used}
use Rattle.rows_computed.proofs.Disks.{IsOf, Plain, entry_there, plain_all, written_there}
use Rattle.rows_computed.proofs.Dropped.{begins_v, changes_u, chooses_one, chooses_v, counted_third, counted_v, counts, counts_0, counts_1, counts_2, counts_3, counts_4, enters_u, enters_v, makes_third, makes_v, q1, stores_2, stores_third, stores_u, takes_over, takes_u, u1, u1e, u2, u3, u3c, u4, v1, v2, v2c, v3, v4, v4c, v5}
use Rattle.rows_computed.proofs.Entries.{first, first_header, second, third, third_header}
use Rattle.rows_computed.proofs.Found.{value}
use Rattle.rows_computed.proofs.Happenings.{dropped, puts, registers, registers_later}
use Rattle.rows_computed.proofs.Kept.{Reads, read_entry, reads_all}
use Rattle.rows_computed.proofs.Lines.{Hashes, HashesAt, IsText, blank_disk, blank_plain, host, line_text, none_left, root, then_lines}
use Rattle.rows_computed.proofs.Names.{all_three, three_apart}
use Rattle.rows_computed.proofs.Path.{asks_0, asks_of, begins, goes_0, goes_1, prepares, sent_1, sent_2}
use Rattle.rows_computed.proofs.Starts.{but_first, kept_slot}
use Rattle.rows_computed.proofs.Steps.{answers, b0, b1, makes, p0, p1, p1c, p2, p3, step_0, step_1, step_2, step_3, stores}
use Rattle.rows_computed.proofs.Stored.{Sits, said, sits_1}
use Rattle.rows_computed.proofs.Taken.{first_taken, second_taken, third_taken}
use Rattle.rows_computed.proofs.Waits.{off, three}

-- ---- lines

abbrev pub Of : List Effect → Type 0
Of es = AllByRecursion (IsOf all_three) es

-- a step whose effects are known
pub acting : (w : World Lying) (x : Happening) (e : Event) (r q : Replica) (d : Lying) (es : List Effect) → work_of w x ≡ Some (stepping e (host r d) r) → react e lying r d ≡ record { replica = q; script = es } → Plain all_three d → Of es
    → (b : List ℕ) → HashesAt w x b → IsText all_three b
acting w x e r q d es work is p all = line_text all_three w x (host r d) (react e lying r d).script refl work p (subst (λ (s : Step). Of s.script) (sym is) all)

pub idle : (w : World Lying) (x : Happening) → work_of w x ≡ None → begun_in w x ≡ [] → (b : List ℕ) → HashesAt w x b → IsText all_three b
idle w x none starts b (inl h) = let bad : None ≡ Some h.0 = sym none ∙ h.1 in absurd cc
idle w x none starts b (inr u) = absurd (none_used w x none starts b u)

-- ---- the messages that are sent

abbrev acked : Replica → Whole → ℕ → Sent
acked r e to = record { from = r.index; to = to; message = prepare_ok name_of e.header r }

abbrev tells_to : Replica → ℕ → Sent
tells_to r to = record { from = r.index; to = to; message = start_view_change r }

abbrev gives_to : Replica → ℕ → Sent
gives_to r to = record { from = r.index; to = to; message = start_view r }

abbrev prepares_to : Replica → Whole → ℕ → Sent
prepares_to r e to = record { from = r.index; to = to; message = prepare e r }

abbrev pub s3 : List Sent
s3 = sent_2 Strict ++ acked q1 first 0 ∷ []

abbrev s5 : List Sent
s5 = s3 ++ prepares second (p3 Strict)

-- what the change of view sends and what follows it, after what was sent before

abbrev pub told : List Sent → List Sent
told sent = sent ++ tells_to v1 0 ∷ tells_to v1 2 ∷ []

abbrev pub stated : List Sent → List Sent
stated sent = told sent ++ tells_to u1e 0 ∷ tells_to u1e 1 ∷ record { from = 2; to = 1; message = do_view_change u1 } ∷ []

abbrev pub chosen : List Sent → List Sent
chosen sent = stated sent ++ gives_to v2 0 ∷ gives_to v2 2 ∷ prepares_to v2 first 0 ∷ prepares_to v2 first 2 ∷ []

abbrev pub taken : List Sent → List Sent
taken sent = chosen sent ++ acked u2 first 1 ∷ []

abbrev pub made : List Sent → List Sent
made sent = taken sent ++ prepares_to v4 third 0 ∷ prepares_to v4 third 2 ∷ []

abbrev pub stored : List Sent → List Sent
stored sent = made sent ++ acked u3 third 1 ∷ []

abbrev s6 : List Sent
s6 = told s5

abbrev s7 : List Sent
s7 = stated s5

abbrev s8 : List Sent
s8 = chosen s5

abbrev s9 : List Sent
s9 = taken s5

abbrev s10 : List Sent
s10 = made s5

abbrev s11 : List Sent
s11 = stored s5

-- ---- the worlds that the lines come through

stores_at_2 : (a b : Host Lying) (z : Lying) → (happens hazards (three a b (host c0 z) (sent_2 Strict)) (Arrives 1)).world ≡ three a b (host q1 (after_all lying z (stores first q1))) s3
unfolding at_member outputs messages blank
stores_at_2 a b z = ap (λ (s : Step). three a b (host s.replica (after_all lying z s.script)) (sent_2 Strict ++ messages (outputs s.script))) (stores_2 z)

commits_at_0 : (b c : Host Lying) (x : Lying) → lying.entry x 1 ≡ Some first → (happens hazards (three (host (p1 Strict) x) b c s3) (Arrives 2)).world ≡ three (host (p2 Strict) (after_all lying x (answers first (p1c Strict)))) b c s3
unfolding at_member outputs messages blank
commits_at_0 b c x reads = ap (λ (s : Step). three (host s.replica (after_all lying x s.script)) b c (s3 ++ messages (outputs s.script))) (step_2 Strict x reads)

asked_at_0 : (b c : Host Lying) (x : Lying) → (happens hazards (three (host (p2 Strict) x) b c s3) (AsksInVersion 0 puts)).world ≡ three (host (p3 Strict) (after_all lying x (makes second (p3 Strict)))) b c s5
unfolding at_member outputs messages blank
asked_at_0 b c x = ap (λ (s : Step). three (host s.replica (after_all lying x s.script)) b c (s3 ++ messages (outputs s.script))) (step_3 Strict x)

stops_at_0 : (b c : Host Lying) (r : Replica) (x : Lying) → (happens hazards (three (host r x) b c s5) (Stops 0)).world ≡ three (off x) b c s5
unfolding at_member messages
stops_at_0 b c r x = refl

ticks_at : (a c : Host Lying) (r q : Replica) (y : Lying) → react event.Tick lying r y ≡ record { replica = q; script = [] } → (happens hazards (three a (host r y) c s5) (Ticks 1)).world ≡ three a (host q y) c s5
unfolding at_member outputs messages after_all
ticks_at a c r q y e = ap (λ (s : Step). three a (host s.replica (after_all lying y s.script)) c (s5 ++ messages (outputs s.script))) e

enters_at : (a c : Host Lying) (y : Lying) → (happens hazards (three a (host (counts 4) y) c s5) (Ticks 1)).world ≡ three a (host v1 (after_all lying y enters_v)) c s6
unfolding at_member outputs messages blank
enters_at a c y = ap (λ (s : Step). three a (host s.replica (after_all lying y s.script)) c (s5 ++ messages (outputs s.script))) (counts_4 y)

changes_at : (a b : Host Lying) (z : Lying) → (happens hazards (three a b (host q1 z) s6) (Arrives 7)).world ≡ three a b (host u1 (after_all lying z enters_u)) s7
unfolding at_member outputs messages blank
changes_at a b z = ap (λ (s : Step). three a b (host s.replica (after_all lying z s.script)) (s6 ++ messages (outputs s.script))) (changes_u z)

chooses_at : (a c : Host Lying) (y : Lying) → lying.entry (after_all lying y begins_v) 1 ≡ Some first → (happens hazards (three a (host v1 y) c s7) (Arrives 10)).world ≡ three a (host v2 (after_all lying y chooses_v)) c s8
unfolding at_member outputs messages blank
chooses_at a c y reads = ap (λ (s : Step). three a (host s.replica (after_all lying y s.script)) c (s7 ++ messages (outputs s.script))) (chooses_one y reads)

takes_at : (a b : Host Lying) (z : Lying) → (happens hazards (three a b (host u1 z) s8) (Arrives 12)).world ≡ three a b (host u2 (after_all lying z takes_u)) s9
unfolding at_member outputs messages blank
takes_at a b z = ap (λ (s : Step). three a b (host s.replica (after_all lying z s.script)) (s8 ++ messages (outputs s.script))) (takes_over z)

commits_at_1 : (a c : Host Lying) (y : Lying) → lying.entry y 1 ≡ Some first → (happens hazards (three a (host v2 y) c s9) (Arrives 15)).world ≡ three a (host v3 (after_all lying y (answers first v2c))) c s9
unfolding at_member outputs messages blank
commits_at_1 a c y reads = ap (λ (s : Step). three a (host s.replica (after_all lying y s.script)) c (s9 ++ messages (outputs s.script))) (counted_v y reads)

asked_at_1 : (a c : Host Lying) (y : Lying) → (happens hazards (three a (host v3 y) c s9) (AsksInVersion 1 registers_later)).world ≡ three a (host v4 (after_all lying y makes_v)) c s10
unfolding at_member outputs messages blank value_of
asked_at_1 a c y = ap (λ (s : Step). three a (host s.replica (after_all lying y s.script)) c (s9 ++ messages (outputs s.script))) (makes_third y)

stores_at : (a b : Host Lying) (z : Lying) → lying.entry (after_all lying z stores_u) 1 ≡ Some first → (happens hazards (three a b (host u2 z) s10) (Arrives 17)).world ≡ three a b (host u4 (after_all lying z (stores_u ++ map Say (commit_line first u3c)))) s11
unfolding at_member outputs messages blank
stores_at a b z reads = ap (λ (s : Step). three a b (host s.replica (after_all lying z s.script)) (s10 ++ messages (outputs s.script))) (stores_third z reads)

-- a replica of version 1 is asked as the line says
asks_at_0 : (x : Lying) → Some (stepping (event.Request (in_version (version (p2 Strict)) puts)) (host (p2 Strict) x) (p2 Strict)) ≡ Some (stepping (event.Request puts) (host (p2 Strict) x) (p2 Strict))
unfolding blank
asks_at_0 x = asks_of puts (p2 Strict) x refl

pub asks_at_1 : (y : Lying) → Some (stepping (event.Request (in_version (version v3) registers_later)) (host v3 y) v3) ≡ Some (stepping (event.Request registers_later) (host v3 y) v3)
unfolding blank value_of
asks_at_1 y = asks_of registers_later v3 y refl

-- ---- the disks

abbrev pub x0 : Lying
x0 = blank_disk Strict 0

abbrev pub y0 : Lying
y0 = blank_disk Strict 1

abbrev pub z0 : Lying
z0 = blank_disk Strict 2

abbrev pub x1 : Lying
x1 = after_all lying x0 (makes first (p1 Strict))

abbrev x2 : Lying
x2 = after_all lying x1 (answers first (p1c Strict))

abbrev x3 : Lying
x3 = after_all lying x2 (makes second (p3 Strict))

abbrev pub y1 : Lying
y1 = after_all lying y0 (stores first (b1 Strict))

abbrev pub y2 : Lying
y2 = after_all lying y1 enters_v

abbrev pub y3 : Lying
y3 = after_all lying y2 chooses_v

abbrev pub y4 : Lying
y4 = after_all lying y3 (answers first v2c)

abbrev pub y5 : Lying
y5 = after_all lying y4 makes_v

abbrev pub z1 : Lying
z1 = after_all lying z0 (stores first q1)

abbrev pub z2 : Lying
z2 = after_all lying z1 enters_u

abbrev pub z3 : Lying
z3 = after_all lying z2 takes_u

abbrev pub z4 : Lying
z4 = after_all lying z3 (stores_u ++ map Say (commit_line first u3c))

-- ---- what the steps begin

pub makes_first_of : Of (makes first (p1 Strict))
makes_first_of = ((inl refl, first_taken), (tt, (tt, tt)))

pub stores_first_of : Of (stores first (b1 Strict))
stores_first_of = ((inl refl, first_taken), (tt, tt))

pub stores_2_of : Of (stores first q1)
stores_2_of = ((inl refl, first_taken), (tt, tt))

answers_0_of : Of (answers first (p1c Strict))
unfolding blank
answers_0_of = (tt, (tt, tt))

makes_second_of : Of (makes second (p3 Strict))
makes_second_of = ((inr (inl refl), second_taken), (tt, (tt, tt)))

pub enters_v_of : Of enters_v
enters_v_of = (tt, (tt, (tt, tt)))

pub enters_u_of : Of enters_u
enters_u_of = (tt, (tt, (tt, (tt, tt))))

pub chooses_of : Of chooses_v
chooses_of = (tt, (tt, (tt, (tt, (tt, (tt, tt))))))

pub takes_of : Of takes_u
takes_of = (tt, (tt, tt))

pub answers_1_of : Of (answers first v2c)
unfolding blank
answers_1_of = (tt, (tt, tt))

pub makes_third_of : Of makes_v
makes_third_of = ((inr (inr (inl refl)), third_taken), (tt, (tt, tt)))

pub stores_third_of : Of (stores_u ++ map Say (commit_line first u3c))
stores_third_of = ((inr (inr (inl refl)), third_taken), (tt, (tt, tt)))

pub answers_third_of : Of (answers third v4c)
unfolding blank
answers_third_of = (tt, (tt, tt))

pub plain_x0 : Plain all_three x0
plain_x0 = (blank_plain Strict all_three).0

pub plain_y0 : Plain all_three y0
plain_y0 = (blank_plain Strict all_three).1

pub plain_z0 : Plain all_three z0
plain_z0 = (blank_plain Strict all_three).2

pub plain_x1 : Plain all_three x1
plain_x1 = plain_all all_three (makes first (p1 Strict)) x0 makes_first_of plain_x0

plain_x2 : Plain all_three x2
plain_x2 = plain_all all_three (answers first (p1c Strict)) x1 answers_0_of plain_x1

pub plain_y1 : Plain all_three y1
plain_y1 = plain_all all_three (stores first (b1 Strict)) y0 stores_first_of plain_y0

pub plain_y2 : Plain all_three y2
plain_y2 = plain_all all_three enters_v y1 enters_v_of plain_y1

pub plain_y3 : Plain all_three y3
plain_y3 = plain_all all_three chooses_v y2 chooses_of plain_y2

pub plain_y4 : Plain all_three y4
plain_y4 = plain_all all_three (answers first v2c) y3 answers_1_of plain_y3

pub plain_y5 : Plain all_three y5
plain_y5 = plain_all all_three makes_v y4 makes_third_of plain_y4

pub plain_z1 : Plain all_three z1
plain_z1 = plain_all all_three (stores first q1) z0 stores_2_of plain_z0

pub plain_z2 : Plain all_three z2
plain_z2 = plain_all all_three enters_u z1 enters_u_of plain_z1

pub plain_z3 : Plain all_three z3
plain_z3 = plain_all all_three takes_u z2 takes_of plain_z2

-- ---- what is read

reads_x1 : lying.entry x1 1 ≡ Some first
unfolding after_all
reads_x1 = written_there false first x0.face plain_x0.count first_taken

sits_y1 : Sits (value 1) (but_first kept_slot) y1
unfolding after_all
sits_y1 = said _ _ _ (send 0 (prepare_ok name_of first_header (b1 Strict)) (b1 Strict)) sits_1

pub entry_y1 : lying.entry y1 1 ≡ Some first
unfolding after_all
entry_y1 = written_there false first y0.face plain_y0.count first_taken

pub header_y1 : lying.header y1 1 ≡ Some first_header
header_y1 = ap (λ (s : Slot). s.header) (sits_y1.looks.at 1 (omega arith))

has_y1 : Reads 1 first y1
unfolding after_all
has_y1 = record { version = refl; entry = written_there false first y0.face plain_y0.count first_taken }

has_y2 : Reads 1 first y2
has_y2 = reads_all 1 first enters_v y1 (tt, (tt, (tt, tt))) has_y1

pub has_begun : Reads 1 first (after_all lying y2 begins_v)
has_begun = reads_all 1 first begins_v y2 (tt, (tt, (tt, (tt, tt)))) has_y2

pub has_y3 : Reads 1 first y3
has_y3 = reads_all 1 first chooses_v y2 (tt, (tt, (tt, (tt, (tt, (tt, tt)))))) has_y2

has_z1 : Reads 1 first z1
unfolding after_all
has_z1 = record { version = refl; entry = written_there false first z0.face plain_z0.count first_taken }

has_z3 : Reads 1 first z3
has_z3 = reads_all 1 first takes_u z2 (tt, (tt, tt)) (reads_all 1 first enters_u z1 (tt, (tt, (tt, (tt, tt)))) has_z1)

pub has_stored : Reads 1 first (after_all lying z3 stores_u)
has_stored = reads_all 1 first stores_u z3 (λ e. omega (arith, e), (tt, tt)) has_z3

pub reads_y5 : lying.entry y5 2 ≡ Some third
unfolding after_all
reads_y5 = entry_there all_three false third y4 plain_y4 third_taken

-- ---- the whole row

hashed : Hashes (IsText all_three) (fresh_world hazards strict 3) dropped
hashed =
    let T = IsText all_three in
    let xs = dropped in
    let w0 = three (host (p0 Strict) x0) (host (b0 Strict) y0) (host c0 z0) [] in
    let w1 = three (host (p1 Strict) x1) (host (b0 Strict) y0) (host c0 z0) (sent_1 Strict) in
    let w2 = three (host (p1 Strict) x1) (host (b1 Strict) y1) (host c0 z0) (sent_2 Strict) in
    let w3 = three (host (p1 Strict) x1) (host (b1 Strict) y1) (host q1 z1) s3 in
    let w4 = three (host (p2 Strict) x2) (host (b1 Strict) y1) (host q1 z1) s3 in
    let w5 = three (host (p3 Strict) x3) (host (b1 Strict) y1) (host q1 z1) s5 in
    let w6 = three (off x3) (host (b1 Strict) y1) (host q1 z1) s5 in
    let w7 = three (off x3) (host (counts 1) y1) (host q1 z1) s5 in
    let w8 = three (off x3) (host (counts 2) y1) (host q1 z1) s5 in
    let w9 = three (off x3) (host (counts 3) y1) (host q1 z1) s5 in
    let w10 = three (off x3) (host (counts 4) y1) (host q1 z1) s5 in
    let w11 = three (off x3) (host v1 y2) (host q1 z1) s6 in
    let w12 = three (off x3) (host v1 y2) (host u1 z2) s7 in
    let w13 = three (off x3) (host v2 y3) (host u1 z2) s8 in
    let w14 = three (off x3) (host v2 y3) (host u2 z3) s9 in
    let w15 = three (off x3) (host v3 y4) (host u2 z3) s9 in
    let w16 = three (off x3) (host v4 y5) (host u2 z3) s10 in
    let w17 = three (off x3) (host v4 y5) (host u4 z4) s11 in
    let w18 = (happens hazards w17 (Arrives 18)).world in
    let h17 : Hashes T w17 (drop 17 xs) = then_lines T w17 w18 (Arrives 18) [] refl (acting w17 (Arrives 18) (event.Deliver (prepare_ok name_of third_header u3)) v4 v5 y5 (answers third v4c) refl (counted_third y5 reads_y5) plain_y5 answers_third_of) (none_left T w18 root) in
    let h16 : Hashes T w16 (drop 16 xs) = then_lines T w16 w17 (Arrives 17) (drop 17 xs) (stores_at (off x3) (host v4 y5) z3 (read_entry 1 first _ has_stored)) (acting w16 (Arrives 17) (event.Deliver (prepare third v4)) u2 u4 z3 (stores_u ++ map Say (commit_line first u3c)) refl (stores_third z3 (read_entry 1 first _ has_stored)) plain_z3 stores_third_of) h17 in
    let h15 : Hashes T w15 (drop 15 xs) = then_lines T w15 w16 (AsksInVersion 1 registers_later) (drop 16 xs) (asked_at_1 (off x3) (host u2 z3) y4) (acting w15 (AsksInVersion 1 registers_later) (event.Request registers_later) v3 v4 y4 makes_v (asks_at_1 y4) (makes_third y4) plain_y4 makes_third_of) h16 in
    let h14 : Hashes T w14 (drop 14 xs) = then_lines T w14 w15 (Arrives 15) (drop 15 xs) (commits_at_1 (off x3) (host u2 z3) y3 (read_entry 1 first _ has_y3)) (acting w14 (Arrives 15) (event.Deliver (prepare_ok name_of first_header u2)) v2 v3 y3 (answers first v2c) refl (counted_v y3 (read_entry 1 first _ has_y3)) plain_y3 answers_1_of) h15 in
    let h13 : Hashes T w13 (drop 13 xs) = then_lines T w13 w14 (Arrives 12) (drop 14 xs) (takes_at (off x3) (host v2 y3) z2) (acting w13 (Arrives 12) (event.Deliver (start_view v2)) u1 u2 z2 takes_u refl (takes_over z2) plain_z2 takes_of) h14 in
    let h12 : Hashes T w12 (drop 12 xs) = then_lines T w12 w13 (Arrives 10) (drop 13 xs) (chooses_at (off x3) (host u1 z2) y2 (read_entry 1 first _ has_begun)) (acting w12 (Arrives 10) (event.Deliver (do_view_change u1)) v1 v2 y2 chooses_v refl (chooses_one y2 (read_entry 1 first _ has_begun)) plain_y2 chooses_of) h13 in
    let h11 : Hashes T w11 (drop 11 xs) = then_lines T w11 w12 (Arrives 7) (drop 12 xs) (changes_at (off x3) (host v1 y2) z1) (acting w11 (Arrives 7) (event.Deliver (start_view_change v1)) q1 u1 z1 enters_u refl (changes_u z1) plain_z1 enters_u_of) h12 in
    let h10 : Hashes T w10 (drop 10 xs) = then_lines T w10 w11 (Ticks 1) (drop 11 xs) (enters_at (off x3) (host q1 z1) y1) (acting w10 (Ticks 1) event.Tick (counts 4) v1 y1 enters_v refl (counts_4 y1) plain_y1 enters_v_of) h11 in
    let h9 : Hashes T w9 (drop 9 xs) = then_lines T w9 w10 (Ticks 1) (drop 10 xs) (ticks_at (off x3) (host q1 z1) (counts 3) (counts 4) y1 (counts_3 y1)) (acting w9 (Ticks 1) event.Tick (counts 3) (counts 4) y1 [] refl (counts_3 y1) plain_y1 tt) h10 in
    let h8 : Hashes T w8 (drop 8 xs) = then_lines T w8 w9 (Ticks 1) (drop 9 xs) (ticks_at (off x3) (host q1 z1) (counts 2) (counts 3) y1 (counts_2 y1)) (acting w8 (Ticks 1) event.Tick (counts 2) (counts 3) y1 [] refl (counts_2 y1) plain_y1 tt) h9 in
    let h7 : Hashes T w7 (drop 7 xs) = then_lines T w7 w8 (Ticks 1) (drop 8 xs) (ticks_at (off x3) (host q1 z1) (counts 1) (counts 2) y1 (counts_1 y1 entry_y1 header_y1)) (acting w7 (Ticks 1) event.Tick (counts 1) (counts 2) y1 [] refl (counts_1 y1 entry_y1 header_y1) plain_y1 tt) h8 in
    let h6 : Hashes T w6 (drop 6 xs) = then_lines T w6 w7 (Ticks 1) (drop 7 xs) (ticks_at (off x3) (host q1 z1) (b1 Strict) (counts 1) y1 (counts_0 y1)) (acting w6 (Ticks 1) event.Tick (b1 Strict) (counts 1) y1 [] refl (counts_0 y1) plain_y1 tt) h7 in
    let h5 : Hashes T w5 (drop 5 xs) = then_lines T w5 w6 (Stops 0) (drop 6 xs) (stops_at_0 (host (b1 Strict) y1) (host q1 z1) (p3 Strict) x3) (idle w5 (Stops 0) refl refl) h6 in
    let h4 : Hashes T w4 (drop 4 xs) = then_lines T w4 w5 (AsksInVersion 0 puts) (drop 5 xs) (asked_at_0 (host (b1 Strict) y1) (host q1 z1) x2) (acting w4 (AsksInVersion 0 puts) (event.Request puts) (p2 Strict) (p3 Strict) x2 (makes second (p3 Strict)) (asks_at_0 x2) (step_3 Strict x2) plain_x2 makes_second_of) h5 in
    let h3 : Hashes T w3 (drop 3 xs) = then_lines T w3 w4 (Arrives 2) (drop 4 xs) (commits_at_0 (host (b1 Strict) y1) (host q1 z1) x1 reads_x1) (acting w3 (Arrives 2) (event.Deliver (prepare_ok name_of first_header (b1 Strict))) (p1 Strict) (p2 Strict) x1 (answers first (p1c Strict)) refl (step_2 Strict x1 reads_x1) plain_x1 answers_0_of) h4 in
    let h2 : Hashes T w2 (drop 2 xs) = then_lines T w2 w3 (Arrives 1) (drop 3 xs) (stores_at_2 (host (p1 Strict) x1) (host (b1 Strict) y1) z0) (acting w2 (Arrives 1) (event.Deliver (prepare first (p1 Strict))) c0 q1 z0 (stores first q1) refl (stores_2 z0) plain_z0 stores_2_of) h3 in
    let h1 : Hashes T w1 (drop 1 xs) = then_lines T w1 w2 (Arrives 0) (drop 2 xs) (goes_1 Strict x1 y0) (acting w1 (Arrives 0) (event.Deliver (prepare first (p1 Strict))) (b0 Strict) (b1 Strict) y0 (stores first (b1 Strict)) refl (step_1 Strict y0) plain_y0 stores_first_of) h2 in
    let h0 : Hashes T w0 xs = then_lines T w0 w1 (AsksInVersion 0 registers) (drop 1 xs) (goes_0 Strict x0 (host (b0 Strict) y0)) (acting w0 (AsksInVersion 0 registers) (event.Request registers) (p0 Strict) (p1 Strict) x0 (makes first (p1 Strict)) (asks_0 Strict x0) (step_0 Strict x0) plain_x0 makes_first_of) h1 in
    subst (λ (w : World Lying). Hashes T w xs) (sym (begins Strict)) h0

pub dropped_never : NoCollision (IsHashed (fresh_world hazards strict 3) dropped)
dropped_never = three_apart (IsHashed (fresh_world hazards strict 3) dropped) hashed
