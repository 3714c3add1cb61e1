-- A group of three whose members' programs run: two are made, and the primary answers a register and a put that the backup has stored. The third isn't made yet.
use Rattle.std.proofs.Common.{ℕ, zero, suc, ◌<◌, ◌≡◌, inl, inr, arith, refl, sym, ap, ◌∙◌, subst, List, [], ◌∷◌, ◌++◌, map, drop, Some}
use Rattle.std.specs.Prelude.{Contains}
use Rattle.std.specs.List.{AllByRecursion}
use Rattle.std.proofs.lemmas.List.{append-nil}
use Rattle.vr_base.specs.Bytes.{name_of}
use Rattle.vr_base.specs.Kinds.{of_mode}
use Rattle.vr_base.specs.declared.mode.Mode.TheVariants.{Strict}
use Rattle.vr_disk.specs.DiskState.{Call, Disk, Face, after_all, runs}
use Rattle.vr_header.specs.Made.{Whole}
use Rattle.vr_header.specs.NoCollision.{NoCollision}
use Rattle.vr_header.specs.declared.outcome.Outcome.{Outcome}
use Rattle.vr_header.specs.declared.outcome.Outcome.TheVariants as outcome
use Rattle.vr_msg.specs.declared.event.Event.{Event}
use Rattle.vr_msg.specs.declared.event.Event.TheVariants as event
use Rattle.vr_msg.specs.declared.output.Output.{Output}
use Rattle.vr_msg.specs.declared.output.Output.TheVariants as output
use Rattle.vr_msg.specs.declared.output.Sent.{Sent}
use Rattle.vr_msg.specs.declared.reply.ReplyFields.{ReplyFields}
use Rattle.vr_msg.specs.declared.reply.ReplyKind.TheVariants as reply
use Rattle.vr_state.specs.Folds as state
use Rattle.vr_state.specs.Kv as kv
use Rattle.vr_state.specs.Sessions as sess
use Rattle.vr_rules.specs.Formatting.{format_calls}
use Rattle.vr_rules.specs.Opening.{blank}
use Rattle.vr_rules.specs.Outputs.{commit_line, messages, prepare, prepare_ok}
use Rattle.vr_rules.specs.Replica.{Replica, version}
use Rattle.vr_rules.specs.Rules.{react}
use Rattle.vr_rules.specs.Sectors.{script_calls}
use Rattle.vr_rules.specs.Steps as words
use Rattle.vr_rules.specs.Steps.{Effect, Say, Step, outputs}
use Rattle.vr_world.specs.Group.{Asked, Message}
use Rattle.vr_world.specs.Lying.{Lying, hazards, lying, zero_face}
use Rattle.vr_world.specs.World.{Arrives, Asks, Happening, Host, World, at_member, happens}
use Rattle.vr_serve.specs.Outputs.{numbers_after, text_from}
use Rattle.vr_serve.specs.Runs.{Did, texts_of}
use Rattle.vr_node.specs.Steps.{steps}
use Rattle.vr_node.specs.declared.node.Node.{Node}
use Rattle.law_1_machine.specs.Basics.{In}
use Rattle.law_2_chains.proofs.StoredLists.{in_contains}
use Rattle.law_3_outputs.proofs.Sets.{in_left, in_right}
use Rattle.law_4_disks.proofs.Fresh.{schedules_begin}
use Rattle.law_6_one_log.specs.Schedules.{IsHashedOf}
use Rattle.law_7_members.specs.Deeds.{config_at}
use Rattle.law_7_members.specs.Files.{ActBy, Handles, act_by, all_lines}
use Rattle.law_7_members.specs.Runs.{HasDeeds}
use Rattle.law_7_members.specs.Whole as whole
use Rattle.law_7_members.specs.Whole.{AreRuns, Begins, Carries, all_said, own, world_of}
use Rattle.law_7_members.proofs.Begun.{zeros_begin_the_first}
use Rattle.law_7_members.proofs.Whole.{face_all, runs_keep_one_log}
use Rattle.rows_computed.proofs.Disks.{IsOf, Plain}
use Rattle.rows_computed.proofs.Entries.{first, first_header, second, second_header}
use Rattle.rows_computed.proofs.Happenings.{puts, registers}
use Rattle.rows_computed.proofs.Lines.{Hashes, HashesAt, IsText, host, line_text, mode_kind, none_left, root, then_lines}
use Rattle.rows_computed.proofs.Meeting.{puts_asked, registers_asked}
use Rattle.rows_computed.proofs.Names.{both, tells_apart}
use Rattle.rows_computed.proofs.Path as path
use Rattle.rows_computed.proofs.Path.{acknowledges, goes_1, goes_2, goes_4, group_of, line_1, line_2, line_4, line_5, plain_x0, plain_x1, plain_x2, plain_x3, plain_y0, plain_y1, reads_x1, reads_x3, reads_y2, sent_1, sent_2, sent_4, world_1, world_2, world_3, world_4, world_5, x0, x1, x2, x3, y0, y1, y2}
use Rattle.rows_computed.proofs.Runs.{IsCalm, Passes, handles, node_of, opens_none, outside_by, passes, quiet_calm, zeroed}
use Rattle.rows_computed.proofs.Steps.{answers, b0, b1, b2, b2c, b3, makes, p0, p1, p1c, p2, p3, p3c, p4, step_0, step_1, step_2, step_3, step_4, step_5, stores}
use Rattle.rows_computed.proofs.Taken.{first_taken, second_taken}
use Rattle.rows_computed.specs.Runs.{ThreeAnswer, plain_kind, plain_member}

-- ---- the disks of both, from their making on

abbrev left : Disk → Lying → List Effect → Disk
left d x es = (runs (script_calls 1 es x.face) d).disk

abbrev stores_then : List Effect
stores_then = stores second (b2 Strict) ++ map Say (commit_line first (b2c Strict))

abbrev calls_p : List Call
calls_p = format_calls (of_mode Strict) 0 3 0

abbrev e0 : Disk
e0 = (runs calls_p zeroed).disk

abbrev e1 : Disk
e1 = left e0 (x0 Strict) (makes first (p1 Strict))

abbrev e2 : Disk
e2 = left e1 (x1 Strict) (answers first (p1c Strict))

abbrev e3 : Disk
e3 = left e2 (x2 Strict) (makes second (p3 Strict))

abbrev e4 : Disk
e4 = left e3 (x3 Strict) (answers second (p3c Strict))

abbrev calls_b : List Call
calls_b = format_calls (of_mode Strict) 0 3 1

abbrev f0 : Disk
f0 = (runs calls_b zeroed).disk

abbrev f1 : Disk
f1 = left f0 (y0 Strict) (stores first (b1 Strict))

abbrev f2 : Disk
f2 = left f1 (y1 Strict) stores_then

on_face : (es : List Effect) (x : Lying) → x.version ≡ 1 → after_all x.face (script_calls 1 es x.face) ≡ (words.after_all lying x es).face
on_face es x is = ap (λ (n : ℕ). after_all x.face (script_calls n es x.face)) (sym is) ∙ sym (face_all es x)

goes_on : (d : Disk) (x : Lying) (es : List Effect) → x.version ≡ 1 → d.face ≡ x.face → IsCalm d → Passes d (left d x es) x.face (words.after_all lying x es).face (script_calls 1 es x.face)
goes_on d x es is begun calm = passes d x.face (words.after_all lying x es).face (script_calls 1 es x.face) begun calm (on_face es x is)

made_p : Passes zeroed e0 zero_face (x0 Strict).face calls_p
made_p = passes zeroed zero_face (x0 Strict).face calls_p refl (quiet_calm zero_face) refl

on_0 : Passes e0 e1 (x0 Strict).face (x1 Strict).face (script_calls 1 (makes first (p1 Strict)) (x0 Strict).face)
on_0 = goes_on e0 (x0 Strict) (makes first (p1 Strict)) (plain_x0 Strict).version made_p.face made_p.after_calm

on_2 : Passes e1 e2 (x1 Strict).face (x2 Strict).face (script_calls 1 (answers first (p1c Strict)) (x1 Strict).face)
on_2 = goes_on e1 (x1 Strict) (answers first (p1c Strict)) (plain_x1 Strict).version on_0.face on_0.after_calm

on_3 : Passes e2 e3 (x2 Strict).face (x3 Strict).face (script_calls 1 (makes second (p3 Strict)) (x2 Strict).face)
on_3 = goes_on e2 (x2 Strict) (makes second (p3 Strict)) (plain_x2 Strict).version on_2.face on_2.after_calm

on_5 : Passes e3 e4 (x3 Strict).face (words.after_all lying (x3 Strict) (answers second (p3c Strict))).face (script_calls 1 (answers second (p3c Strict)) (x3 Strict).face)
on_5 = goes_on e3 (x3 Strict) (answers second (p3c Strict)) (plain_x3 Strict).version on_3.face on_3.after_calm

made_b : Passes zeroed f0 zero_face (y0 Strict).face calls_b
made_b = passes zeroed zero_face (y0 Strict).face calls_b refl (quiet_calm zero_face) refl

on_1 : Passes f0 f1 (y0 Strict).face (y1 Strict).face (script_calls 1 (stores first (b1 Strict)) (y0 Strict).face)
on_1 = goes_on f0 (y0 Strict) (stores first (b1 Strict)) (plain_y0 Strict).version made_b.face made_b.after_calm

on_4 : Passes f1 f2 (y1 Strict).face (y2 Strict).face (script_calls 1 stores_then (y1 Strict).face)
on_4 = goes_on f1 (y1 Strict) stores_then (plain_y1 Strict).version on_1.face on_1.after_calm

-- ---- their steps

handles_1 : (e : Event) (r : Replica) (x : Lying) (s : Step) (d after : Disk) (g : Face) → x.version ≡ 1 → version r ≡ 1 → version s.replica ≡ 1 → react e lying r x ≡ s
    → Passes d after x.face g (script_calls 1 s.script x.face) → steps (node_of r) (Some d) e (outputs s.script) (node_of s.replica) (Some after)
handles_1 e r x s d after g own one same found p =
    handles e r x s d after g (own ∙ sym one) (omega (arith, one), omega (arith, one)) (same ∙ sym one) found (subst (λ (n : ℕ). Passes d after x.face g (script_calls n s.script x.face)) (sym one) p)

primaries : (version (p0 Strict) ≡ 1) × (version (p1 Strict) ≡ 1) × (version (p2 Strict) ≡ 1) × (version (p3 Strict) ≡ 1) × (version (p4 Strict) ≡ 1)
unfolding blank
primaries = (refl, refl, refl, refl, refl)

backups : (version (b0 Strict) ≡ 1) × (version (b1 Strict) ≡ 1) × (version (b3 Strict) ≡ 1)
unfolding blank
backups = (refl, refl, refl)

steps_0 : steps (node_of (p0 Strict)) (Some e0) (event.Request registers) (outputs (makes first (p1 Strict))) (node_of (p1 Strict)) (Some e1)
steps_0 = handles_1 (event.Request registers) (p0 Strict) (x0 Strict) (record { replica = p1 Strict; script = makes first (p1 Strict) }) e0 e1 (x1 Strict).face (plain_x0 Strict).version primaries.0 primaries.1 (step_0 Strict (x0 Strict)) on_0

steps_1 : steps (node_of (b0 Strict)) (Some f0) (event.Deliver (prepare first (p1 Strict))) (outputs (stores first (b1 Strict))) (node_of (b1 Strict)) (Some f1)
steps_1 = handles_1 (event.Deliver (prepare first (p1 Strict))) (b0 Strict) (y0 Strict) (record { replica = b1 Strict; script = stores first (b1 Strict) }) f0 f1 (y1 Strict).face (plain_y0 Strict).version backups.0 backups.1 (step_1 Strict (y0 Strict)) on_1

steps_2 : steps (node_of (p1 Strict)) (Some e1) (event.Deliver (prepare_ok name_of first_header (b1 Strict))) (outputs (answers first (p1c Strict))) (node_of (p2 Strict)) (Some e2)
steps_2 = handles_1 (event.Deliver (prepare_ok name_of first_header (b1 Strict))) (p1 Strict) (x1 Strict) (record { replica = p2 Strict; script = answers first (p1c Strict) }) e1 e2 (x2 Strict).face (plain_x1 Strict).version primaries.1 primaries.2 (step_2 Strict (x1 Strict) (reads_x1 Strict)) on_2

steps_3 : steps (node_of (p2 Strict)) (Some e2) (event.Request puts) (outputs (makes second (p3 Strict))) (node_of (p3 Strict)) (Some e3)
steps_3 = handles_1 (event.Request puts) (p2 Strict) (x2 Strict) (record { replica = p3 Strict; script = makes second (p3 Strict) }) e2 e3 (x3 Strict).face (plain_x2 Strict).version primaries.2 primaries.3 (step_3 Strict (x2 Strict)) on_3

steps_4 : steps (node_of (b1 Strict)) (Some f1) (event.Deliver (prepare second (p3 Strict))) (outputs stores_then) (node_of (b3 Strict)) (Some f2)
steps_4 = handles_1 (event.Deliver (prepare second (p3 Strict))) (b1 Strict) (y1 Strict) (record { replica = b3 Strict; script = stores_then }) f1 f2 (y2 Strict).face (plain_y1 Strict).version backups.1 backups.2 (step_4 Strict (y1 Strict) (reads_y2 Strict)) on_4

steps_5 : steps (node_of (p3 Strict)) (Some e3) (event.Deliver (prepare_ok name_of second_header (b2 Strict))) (outputs (answers second (p3c Strict))) (node_of (p4 Strict)) (Some e4)
steps_5 = handles_1 (event.Deliver (prepare_ok name_of second_header (b2 Strict))) (p3 Strict) (x3 Strict) (record { replica = p4 Strict; script = answers second (p3c Strict) }) e3 e4 (words.after_all lying (x3 Strict) (answers second (p3c Strict))).face (plain_x3 Strict).version primaries.3 primaries.4 (step_5 Strict (x3 Strict) (reads_x3 Strict)) on_5

-- ---- the runs

abbrev did : Event → List Output → Replica → Disk → Did Node
did e os r d = record { come = record { port = 0; event = e }; outputs = os; after = node_of r; disk = Some d }

abbrev did_0 : Did Node
did_0 = did (event.Request registers) (outputs (makes first (p1 Strict))) (p1 Strict) e1

abbrev did_1 : Did Node
did_1 = did (event.Deliver (prepare first (p1 Strict))) (outputs (stores first (b1 Strict))) (b1 Strict) f1

abbrev did_2 : Did Node
did_2 = did (event.Deliver (prepare_ok name_of first_header (b1 Strict))) (outputs (answers first (p1c Strict))) (p2 Strict) e2

abbrev did_3 : Did Node
did_3 = did (event.Request puts) (outputs (makes second (p3 Strict))) (p3 Strict) e3

abbrev did_4 : Did Node
did_4 = did (event.Deliver (prepare second (p3 Strict))) (outputs stores_then) (b3 Strict) f2

abbrev did_5 : Did Node
did_5 = did (event.Deliver (prepare_ok name_of second_header (b2 Strict))) (outputs (answers second (p3c Strict))) (p4 Strict) e4

abbrev dids_p : List (Did Node)
dids_p = did_0 ∷ did_2 ∷ did_3 ∷ did_5 ∷ []

abbrev dids_b : List (Did Node)
dids_b = did_1 ∷ did_4 ∷ []

abbrev text_by : List (Did Node) → List ℕ
text_by dids = text_from 0 [] ++ texts_of (numbers_after 0 []) dids

run_p : HasDeeds (Some (of_mode Strict)) (config_at 0 3 0) (outside_by zeroed []) (outside_by e4 (text_by dids_p))
run_p = record {
  disk = Some e0;
  first = [];
  node = node_of (p0 Strict);
  opens = (((omega arith, omega arith, omega arith), record { is = (sym opens_none, refl, (refl, sym made_p.went)) }), refl);
  dids = dids_p;
  last = node_of (p4 Strict);
  left = Some e4;
  run = (steps_0, (steps_2, (steps_3, (steps_5, (refl, refl)))));
  ends = inl refl;
  taken = (text_by dids_p, [], refl, append-nil (text_by dids_p));
}

run_b : HasDeeds (Some (of_mode Strict)) (config_at 0 3 1) (outside_by zeroed []) (outside_by f2 (text_by dids_b))
run_b = record {
  disk = Some f0;
  first = [];
  node = node_of (b0 Strict);
  opens = (((omega arith, omega arith, omega arith), record { is = (sym opens_none, refl, (refl, sym made_b.went)) }), refl);
  dids = dids_b;
  last = node_of (b3 Strict);
  left = Some f2;
  run = (steps_1, (steps_4, (refl, refl)));
  ends = inl refl;
  taken = (text_by dids_b, [], refl, append-nil (text_by dids_b));
}

abbrev acts : List ActBy
acts = act_by 0 (Handles (Asked registers) did_0) ∷ act_by 1 (Handles (Message 0) did_1) ∷ act_by 0 (Handles (Message 2) did_2)
    ∷ act_by 0 (Handles (Asked puts) did_3) ∷ act_by 1 (Handles (Message 3) did_4) ∷ act_by 0 (Handles (Message 5) did_5) ∷ []

begins_p : Begins (of_mode Strict) (config_at 0 3 0) (plain_member 0) (own 0 acts)
unfolding run_p
begins_p = whole.makes zeroed (outside_by zeroed []) (outside_by e4 (text_by dids_p)) run_p (Asked registers ∷ Message 2 ∷ Asked puts ∷ Message 5 ∷ []) [] refl whole.zeros refl (whole.rests _ _)

begins_b : Begins (of_mode Strict) (config_at 0 3 1) (plain_member 1) (own 1 acts)
unfolding run_b
begins_b = whole.makes zeroed (outside_by zeroed []) (outside_by f2 (text_by dids_b)) run_b (Message 0 ∷ Message 3 ∷ []) [] refl whole.zeros refl (whole.rests _ _)

each_begins : (i : ℕ) → i < 3 → Begins (plain_kind i) (config_at 0 3 i) (plain_member i) (own i acts)
each_begins zero l = begins_p
each_begins (suc zero) l = begins_b
each_begins (suc (suc zero)) l = whole.waits
each_begins (suc (suc (suc i))) l = absurd (omega (arith, l))

-- ---- what is brought was sent

abbrev prepares : Whole → Replica → Sent
prepares e r = record { from = 0; to = 1; message = prepare e r }

carried : Carries [] acts
unfolding outputs messages blank
carried = (
  (registers_asked, omega arith, refl),
  (
    (prepares first (p1 Strict), refl, refl, refl),
    (
      (acknowledges first (b1 Strict), refl, refl, refl),
      (
        (puts_asked, omega arith, refl),
        (
          (prepares second (p3 Strict), refl, refl, refl),
          ((acknowledges second (b2 Strict), refl, refl, refl), tt),
        ),
      ),
    ),
  ),
)

are_runs : AreRuns plain_kind 0 3 plain_member acts
are_runs = record {
  members = (omega arith, (omega arith, (omega arith, (omega arith, (omega arith, (omega arith, tt))))));
  each = each_begins;
  carried = carried;
}

-- ---- what it hashes

abbrev lines : List Happening
lines = Asks 0 registers ∷ Arrives 0 ∷ Arrives 2 ∷ Asks 0 puts ∷ Arrives 3 ∷ Arrives 5 ∷ []

asked_0 : (x : Lying) (b : Host Lying) → (happens hazards (group_of Strict (host (p0 Strict) x) b []) (Asks 0 registers)).world ≡ group_of Strict (host (p1 Strict) (words.after_all lying x (makes first (p1 Strict)))) b (sent_1 Strict)
unfolding at_member outputs messages blank
asked_0 x b = ap (λ (s : Step). group_of Strict (host s.replica (words.after_all lying x s.script)) b (messages (outputs s.script))) (step_0 Strict x)

asked_3 : (x : Lying) (b : Host Lying) → (happens hazards (group_of Strict (host (p2 Strict) x) b (sent_2 Strict)) (Asks 0 puts)).world ≡ group_of Strict (host (p3 Strict) (words.after_all lying x (makes second (p3 Strict)))) b (sent_4 Strict)
unfolding at_member outputs messages blank
asked_3 x b = ap (λ (s : Step). group_of Strict (host s.replica (words.after_all lying x s.script)) b (sent_2 Strict ++ messages (outputs s.script))) (step_3 Strict x)

line_0 : (x : Lying) (b : Host Lying) → Plain both x → (t : List ℕ) → HashesAt (group_of Strict (host (p0 Strict) x) b []) (Asks 0 registers) t → IsText both t
line_0 x b p = line_text both (group_of Strict (host (p0 Strict) x) b []) (Asks 0 registers) (host (p0 Strict) x) (react (event.Request registers) lying (p0 Strict) x).script refl refl p (subst (λ (s : Step). AllByRecursion (IsOf both) s.script) (sym (step_0 Strict x)) ((inl refl, first_taken), (tt, (tt, tt))))

line_3 : (x : Lying) (b : Host Lying) → Plain both x → (t : List ℕ) → HashesAt (group_of Strict (host (p2 Strict) x) b (sent_2 Strict)) (Asks 0 puts) t → IsText both t
line_3 x b p = line_text both (group_of Strict (host (p2 Strict) x) b (sent_2 Strict)) (Asks 0 puts) (host (p2 Strict) x) (react (event.Request puts) lying (p2 Strict) x).script refl refl p (subst (λ (s : Step). AllByRecursion (IsOf both) s.script) (sym (step_3 Strict x)) ((inr (inl refl), second_taken), (tt, (tt, tt))))

abbrev world_0 : World Lying
world_0 = group_of Strict (host (p0 Strict) (x0 Strict)) (host (b0 Strict) (y0 Strict)) []

hashed : Hashes (IsText both) world_0 lines
hashed =
    let v1 = world_1 Strict in
    let v2 = world_2 Strict in
    let v3 = world_3 Strict in
    let v4 = world_4 Strict in
    let v5 = world_5 Strict in
    let v6 = (happens hazards v5 (Arrives 5)).world in
    let h5 : Hashes (IsText both) v5 (drop 5 lines) = then_lines (IsText both) v5 v6 (Arrives 5) [] refl (line_5 Strict (x3 Strict) (y2 Strict) (plain_x3 Strict) (reads_x3 Strict)) (none_left (IsText both) v6 root) in
    let h4 : Hashes (IsText both) v4 (drop 4 lines) = then_lines (IsText both) v4 v5 (Arrives 3) (drop 5 lines) (goes_4 Strict (x3 Strict) (y1 Strict) (reads_y2 Strict)) (line_4 Strict (x3 Strict) (y1 Strict) (plain_y1 Strict) (reads_y2 Strict)) h5 in
    let h3 : Hashes (IsText both) v3 (drop 3 lines) = then_lines (IsText both) v3 v4 (Asks 0 puts) (drop 4 lines) (asked_3 (x2 Strict) (host (b1 Strict) (y1 Strict))) (line_3 (x2 Strict) (host (b1 Strict) (y1 Strict)) (plain_x2 Strict)) h4 in
    let h2 : Hashes (IsText both) v2 (drop 2 lines) = then_lines (IsText both) v2 v3 (Arrives 2) (drop 3 lines) (goes_2 Strict (x1 Strict) (host (b1 Strict) (y1 Strict)) (reads_x1 Strict)) (line_2 Strict (x1 Strict) (host (b1 Strict) (y1 Strict)) (plain_x1 Strict) (reads_x1 Strict)) h3 in
    let h1 : Hashes (IsText both) v1 (drop 1 lines) = then_lines (IsText both) v1 v2 (Arrives 0) (drop 2 lines) (goes_1 Strict (x1 Strict) (y0 Strict)) (line_1 Strict (x1 Strict) (y0 Strict) (plain_y0 Strict)) h2 in
    then_lines (IsText both) world_0 v1 (Asks 0 registers) (drop 1 lines) (asked_0 (x0 Strict) (host (b0 Strict) (y0 Strict))) (line_0 (x0 Strict) (host (b0 Strict) (y0 Strict)) (plain_x0 Strict)) h1

begun : world_0 ≡ world_of plain_member 3
begun = sym (zeros_begin_the_first plain_kind 0 3 ∙ (sym (schedules_begin (of_mode Strict) 3) ∙ path.begins Strict))

never : NoCollision (IsHashedOf 0 (world_of plain_member 3) (all_lines acts))
never = subst (λ (w : World Lying). NoCollision (IsHashedOf 0 w lines)) begun (tells_apart (IsHashedOf 0 world_0 lines) (λ b h. inl (hashed b h)))

-- ---- what it answers

abbrev reply_to : Whole → Outcome → ReplyFields
reply_to e o = record { version = 1; cluster = 0; replica = 0; view = 0; client = e.header.client; request = e.header.request; request_name = e.header.request_name; kind = reply.Outcome (record { op = e.header.op; outcome = o }) }

replies_first : In (output.Reply (reply_to first outcome.Session)) (outputs (answers first (p1c Strict)))
unfolding outputs blank state.applied state.answered state.executed sess.checked sess.applied kv.applied
replies_first = inr (inl refl)

replies_second : In (output.Reply (reply_to second outcome.Ok)) (outputs (answers second (p3c Strict)))
unfolding outputs blank state.applied state.answered state.executed sess.checked sess.applied kv.applied kv.putting
replies_second = inr (inl refl)

-- what is put out by the acts from the fourth on, and by all
abbrev said_3 : List Output
said_3 = did_3.outputs ++ (did_4.outputs ++ (did_5.outputs ++ []))

abbrev said_1 : List Output
said_1 = did_1.outputs ++ (did_2.outputs ++ said_3)

abbrev SaidBy : Output → Type 0
SaidBy o = Contains (all_said acts) o

said_first : SaidBy (output.Reply (reply_to first outcome.Session))
said_first =
    let o = output.Reply (reply_to first outcome.Session) in
    in_contains o (all_said acts) (in_right did_0.outputs said_1 o (in_right did_1.outputs (did_2.outputs ++ said_3) o (in_left did_2.outputs said_3 o replies_first)))

said_second : SaidBy (output.Reply (reply_to second outcome.Ok))
said_second =
    let o = output.Reply (reply_to second outcome.Ok) in
    let last : In o said_3 = in_right did_3.outputs (did_4.outputs ++ (did_5.outputs ++ [])) o (in_right did_4.outputs (did_5.outputs ++ []) o (in_left did_5.outputs [] o replies_second)) in
    in_contains o (all_said acts) (in_right did_0.outputs said_1 o (in_right did_1.outputs (did_2.outputs ++ said_3) o (in_right did_2.outputs said_3 o last)))

pub three_answer : ThreeAnswer
three_answer = record {
  acts = acts;
  runs = are_runs;
  names = never;
  one = runs_keep_one_log plain_kind 0 3 plain_member acts (λ i l. (mode_kind Strict, omega arith)) (omega arith) (omega arith) (omega arith) (omega arith) are_runs never;
  registered = record { given = reply_to first outcome.Session; among = said_first; client = refl; number = refl; outcome = refl };
  put = record { given = reply_to second outcome.Ok; among = said_second; client = refl; number = refl; outcome = refl };
}
