-- A group of one whose member's program runs: it is made, and answers a register and a put.
use Rattle.std.proofs.Common.{ℕ, zero, suc, ◌<◌, ◌≤◌, ◌≡◌, inl, inr, arith, refl, sym, ap, ◌∙◌, subst, true, false, List, [], ◌∷◌, ◌++◌, drop, Some, None}
use Rattle.std.specs.Prelude.{Ok, is_some}
use Rattle.std.specs.List.{AllByRecursion}
use Rattle.std.proofs.lemmas.List.{append-nil}
use Rattle.vr_disk.specs.DiskState.{Call, Disk, Face, after, after_all, ran, runs}
use Rattle.vr_disk.specs.Sectors.{together}
use Rattle.vr_msg.specs.declared.event.Event.{Event}
use Rattle.vr_msg.specs.declared.event.Event.TheVariants as event
use Rattle.vr_super.specs.Copies.{fields_at, good_fields, is_sealed, value_of}
use Rattle.vr_super.specs.Opens.{best_of, copy_reading, good_copies, good_copy, opened}
use Rattle.vr_rules.specs.Does.{LeftBy}
use Rattle.vr_rules.specs.Formatting.{format_calls}
use Rattle.vr_rules.specs.Opening.{blank}
use Rattle.vr_rules.specs.Replica.{Replica, version}
use Rattle.vr_rules.specs.Rules.{react}
use Rattle.vr_rules.specs.Sectors.{script_calls, sectors_by}
use Rattle.vr_rules.specs.Steps as words
use Rattle.vr_rules.specs.Steps.{Step, Write, outputs}
use Rattle.vr_world.specs.Lying.{Lying, lying, zero_face}
use Rattle.vr_host_disk.proofs.Rules.{a_react}
use Rattle.law_4_disks.proofs.Effects.{quiet_disk}
use Rattle.vr_serve.specs.Runs.{Did, texts_of}
use Rattle.vr_node.specs.Steps.{steps}
use Rattle.vr_node.specs.declared.node.Node.{Node}
use Rattle.law_7_members.specs.Deeds.{config_at}
use Rattle.law_7_members.specs.Files.{ActBy, Handles, act_by, all_lines}
use Rattle.law_7_members.specs.Runs.{HasDeeds}
use Rattle.law_7_members.specs.Whole as whole
use Rattle.law_7_members.specs.Whole.{AreRuns, Begins, all_said, own, world_of}
use Rattle.law_7_members.proofs.Begun.{zeros_begin_the_first}
use Rattle.law_7_members.proofs.Whole.{face_all, runs_keep_one_log}
use Rattle.vr_node.specs.Running.{Outside}
use Rattle.vr_serve.specs.Outputs.{numbers_after, text_from}
use Rattle.vr_world.specs.Group.{Asked}
use Rattle.rows_computed.proofs.Happenings.{puts_in_2, registers_in_2}
use Rattle.rows_computed.proofs.Meeting.{puts_asked_2, registers_asked_2}
use Rattle.rows_computed.proofs.One as one
use Rattle.rows_computed.proofs.One.{alone, both, d0, d1, does_first, does_first_of, does_second, does_second_of, first, is_later, later_kind, o0, o2, o4, never_of, plain_0, plain_1, reads_first, reads_second, second, step_first, step_second}
use Rattle.std.specs.Prelude.{Contains}
use Rattle.vr_header.specs.Made.{Whole}
use Rattle.vr_header.specs.NoCollision.{NoCollision}
use Rattle.vr_header.specs.declared.outcome.Outcome.{Outcome}
use Rattle.vr_header.specs.declared.outcome.Outcome.TheVariants as outcome
use Rattle.vr_msg.specs.declared.output.Output.TheVariants as output
use Rattle.vr_msg.specs.declared.reply.ReplyFields.{ReplyFields}
use Rattle.vr_msg.specs.declared.reply.ReplyKind.TheVariants as reply
use Rattle.vr_state.specs.Folds as state
use Rattle.vr_state.specs.Kv as kv
use Rattle.vr_state.specs.Sessions as sess
use Rattle.vr_rules.specs.Outputs.{messages}
use Rattle.vr_world.specs.Lying.{hazards}
use Rattle.vr_world.specs.World.{Asks, Happening, World, at_member, happens}
use Rattle.law_1_machine.specs.Basics.{In}
use Rattle.law_2_chains.proofs.StoredLists.{in_contains}
use Rattle.law_3_outputs.proofs.Sets.{in_left, in_right}
use Rattle.law_4_disks.proofs.Fresh.{schedules_begin}
use Rattle.law_6_one_log.specs.Schedules.{IsHashedOf}
use Rattle.rows_computed.proofs.Disks.{IsOfIn}
use Rattle.rows_computed.proofs.Lines.{Hashes, HashesAt, IsText, host, line_in, none_left, root, then_lines}
use Rattle.rows_computed.specs.Runs.{OneAnswers, lone_kind, lone_member}

-- ---- a disk whose calls all go well

pub record IsCalm (d : Disk) : Type 0 where
  pub fuse : d.fate.fuse ≡ None
  pub sure : d.fate.failing ≡ []
  pub alive : d.fate.dead ≡ false

record Goes (d : Disk) (cs : List Call) : Type 0 where
  ok : (runs cs d).ok ≡ true
  calm : IsCalm (runs cs d).disk
  face : (runs cs d).disk.face ≡ after_all d.face cs

one_goes : (d : Disk) (c : Call) → IsCalm d → ((ran d c).ok ≡ true) × IsCalm (ran d c).disk × ((ran d c).disk.face ≡ after d.face c)
unfolding ran
one_goes d c k = rw (k.alive, k.fuse, k.sure) (refl, record { fuse = refl; sure = refl; alive = refl }, refl)

all_go : (cs : List Call) (d : Disk) → IsCalm d → Goes d cs
all_go [] d k = record { ok = refl; calm = k; face = refl }
all_go (c ∷ cs) d k =
    let one = one_goes d c k in
    let rest = all_go cs (ran d c).disk one.1 in
    record {
      ok = rw one.0 rest.ok;
      calm = rw one.0 rest.calm;
      face = rw one.0 (rest.face ∙ ap (λ (f : Face). after_all f cs) one.2);
    }

pub quiet_calm : (f : Face) → IsCalm (quiet_disk f)
quiet_calm f = record { fuse = refl; sure = refl; alive = refl }

-- ---- an event is handled

abbrev pub node_of : Replica → Node
node_of r = record { replica = record { memory = r; running = true } }

some_disk : (a b : Disk) → Some a ≡ Some b → a ≡ b
some_disk a b e = cc

left_by : (v : ℕ) (e : Event) (r : Replica) (d : Disk) (s : Step) → react e (sectors_by v) r d.face ≡ s → (runs (script_calls v s.script d.face) d).ok ≡ true
    → LeftBy v (react e (sectors_by v) r d.face) s.replica d (Some (runs (script_calls v s.script d.face) d).disk) [] (outputs s.script) (Ok tt)
left_by v e r d s is ok =
    subst (λ (t : Step). LeftBy v t s.replica d (Some (runs (script_calls v s.script d.face) d).disk) [] (outputs s.script) (Ok tt)) (sym is) (refl, refl, (refl, sym ok))

handled_so : (e : Event) (r : Replica) (d : Disk) (s : Step) → IsCalm d → (1 ≤ version r) × (version r ≤ 2) → version s.replica ≡ version r → react e (sectors_by (version r)) r d.face ≡ s
    → steps (node_of r) (Some d) e (outputs s.script) (node_of s.replica) (Some (runs (script_calls (version r) s.script d.face) d).disk)
handled_so e r d s calm is same found =
    let v = version r in
    let left = Some (runs (script_calls v s.script d.face) d).disk in (
      is,
      record {
        untold = λ none. absurd cc;
        told = λ x told. subst (λ (y : Disk). LeftBy v (react e (sectors_by v) r y.face) s.replica y left [] (outputs s.script) (Ok tt)) (some_disk d x told) (left_by v e r d s found (all_go (script_calls v s.script d.face) d calm).ok);
        same = λ ok. same;
      },
    )

-- ---- a file of zeros opens as nothing

pub opens_none : is_some (opened (good_copies zero_face)) ≡ false
unfolding good_copy copy_reading together value_of is_sealed good_fields fields_at opened best_of
opens_none = refl

-- ---- the disk, from its making on

abbrev calls_0 : List Call
calls_0 = format_calls later_kind 0 1 0

abbrev calls_1 : List Call
calls_1 = script_calls 2 does_first d0.face

abbrev calls_2 : List Call
calls_2 = script_calls 2 does_second d1.face

abbrev pub zeroed : Disk
zeroed = quiet_disk zero_face

-- where calls begin from, and what they leave
pub record Passes (d e : Disk) (f g : Face) (cs : List Call) : Type 0 where
  pub begun : d.face ≡ f
  pub calm : IsCalm d
  pub left : e ≡ (runs cs d).disk
  pub went : (runs cs d).ok ≡ true
  pub after_calm : IsCalm e
  pub face : e.face ≡ g

pub passes : (d : Disk) (f g : Face) (cs : List Call) → d.face ≡ f → IsCalm d → after_all f cs ≡ g → Passes d (runs cs d).disk f g cs
passes d f g cs begun calm is =
    let go = all_go cs d calm in
    record { begun = begun; calm = calm; left = refl; went = go.ok; after_calm = go.calm; face = go.face ∙ (ap (λ (f : Face). after_all f cs) begun ∙ is) }

-- an event that is handled on such a disk, by a step that is known
pub handles : (e : Event) (r : Replica) (x : Lying) (s : Step) (d left : Disk) (g : Face) → x.version ≡ version r → (1 ≤ version r) × (version r ≤ 2) → version s.replica ≡ version r → react e lying r x ≡ s
    → Passes d left x.face g (script_calls (version r) s.script x.face) → steps (node_of r) (Some d) e (outputs s.script) (node_of s.replica) (Some left)
handles e r x s d left g own is same found p =
    let v = version r in
    let at : react e (sectors_by v) r d.face ≡ s =
    ap (react e (sectors_by v) r) p.begun ∙ (ap (λ (n : ℕ). react e (sectors_by n) r x.face) (sym own) ∙ (sym ((a_react e).each r x) ∙ found)) in
    let from : left ≡ (runs (script_calls v s.script d.face) d).disk = p.left ∙ ap (λ (f : Face). (runs (script_calls v s.script f) d).disk) (sym p.begun) in
    subst (λ (y : Disk). steps (node_of r) (Some d) e (outputs s.script) (node_of s.replica) (Some y)) (sym from) (handled_so e r d s p.calm is same at)

abbrev made : Disk
made = (runs calls_0 zeroed).disk

abbrev later_1 : Disk
later_1 = (runs calls_1 made).disk

abbrev later_2 : Disk
later_2 = (runs calls_2 later_1).disk

passes_0 : Passes zeroed made zero_face d0.face calls_0
passes_0 = passes zeroed zero_face d0.face calls_0 refl (quiet_calm zero_face) refl

passes_1 : Passes made later_1 d0.face d1.face calls_1
passes_1 = passes made d0.face d1.face calls_1 passes_0.face passes_0.after_calm (sym (face_all does_first d0))

passes_2 : Passes later_1 later_2 d1.face (after_all d1.face calls_2) calls_2
passes_2 = passes later_1 d1.face (after_all d1.face calls_2) calls_2 passes_1.face passes_1.after_calm refl

-- ---- the run

abbrev did_1 : Did Node
did_1 = record { come = record { port = 0; event = event.Request registers_in_2 }; outputs = outputs does_first; after = node_of o2; disk = Some later_1 }

abbrev did_2 : Did Node
did_2 = record { come = record { port = 0; event = event.Request puts_in_2 }; outputs = outputs does_second; after = node_of o4; disk = Some later_2 }

steps_1 : steps (node_of o0) (Some made) (event.Request registers_in_2) (outputs does_first) (node_of o2) (Some later_1)
unfolding blank
steps_1 = handles (event.Request registers_in_2) o0 d0 (record { replica = o2; script = does_first }) made later_1 d1.face refl (omega arith, omega arith) refl (step_first d0 reads_first) passes_1

steps_2 : steps (node_of o2) (Some later_1) (event.Request puts_in_2) (outputs does_second) (node_of o4) (Some later_2)
unfolding blank
steps_2 = handles (event.Request puts_in_2) o2 d1 (record { replica = o4; script = does_second }) later_1 later_2 (after_all d1.face calls_2) plain_1.version (omega arith, omega arith) refl (step_second d1 reads_second) passes_2

abbrev dids : List (Did Node)
dids = did_1 ∷ did_2 ∷ []

abbrev text : List ℕ
text = text_from 0 [] ++ texts_of (numbers_after 0 []) dids

abbrev pub outside_by : Disk → List ℕ → Outside
outside_by d text = record { disk = Some d; left = None; got = None; taken = Some text; sent = None; attached = None }

the_run : HasDeeds (Some later_kind) (config_at 0 1 0) (outside_by zeroed []) (outside_by later_2 text)
the_run = record {
  disk = Some made;
  first = [];
  node = node_of o0;
  opens = (((omega arith, omega arith, omega arith), record { is = (sym opens_none, refl, (refl, sym passes_0.went)) }), refl);
  dids = dids;
  last = node_of o4;
  left = Some later_2;
  run = (steps_1, (steps_2, (refl, refl)));
  ends = inl refl;
  taken = (text, [], refl, append-nil text);
}

abbrev acts : List ActBy
acts = act_by 0 (Handles (Asked registers_in_2) did_1) ∷ act_by 0 (Handles (Asked puts_in_2) did_2) ∷ []

begins : Begins later_kind (config_at 0 1 0) (lone_member 0) (own 0 acts)
unfolding the_run
begins = whole.makes zeroed (outside_by zeroed []) (outside_by later_2 text) the_run (Asked registers_in_2 ∷ Asked puts_in_2 ∷ []) [] refl whole.zeros refl (whole.rests _ _)

each_begins : (i : ℕ) → i < 1 → Begins later_kind (config_at 0 1 i) (lone_member i) (own i acts)
each_begins zero l = begins
each_begins (suc i) l = absurd (omega (arith, l))

are_runs : AreRuns lone_kind 0 1 lone_member acts
are_runs = record {
  members = (omega arith, (omega arith, tt));
  each = each_begins;
  carried = ((registers_asked_2, omega arith, refl), ((puts_asked_2, omega arith, refl), tt));
}

-- ---- what it hashes

abbrev asks : List Happening
asks = Asks 0 registers_in_2 ∷ Asks 0 puts_in_2 ∷ []

goes_first : (d : Lying) → lying.entry (lying.after d (Write false first)) 1 ≡ Some first → (happens hazards (alone (host o0 d)) (Asks 0 registers_in_2)).world ≡ alone (host o2 (words.after_all lying d does_first))
unfolding at_member outputs messages blank
goes_first d reads = ap (λ (s : Step). record { n = 1; members = host s.replica (words.after_all lying d s.script) ∷ []; sent = messages (outputs s.script) }) (step_first d reads)

line_first : (b : List ℕ) → HashesAt (alone (host o0 d0)) (Asks 0 registers_in_2) b → IsText both b
line_first b = line_in 2 both (alone (host o0 d0)) (Asks 0 registers_in_2) (host o0 d0) (react (event.Request registers_in_2) lying o0 d0).script refl refl plain_0 (subst (λ (s : Step). AllByRecursion (IsOfIn 2 both) s.script) (sym (step_first d0 reads_first)) does_first_of) b

line_second : (b : List ℕ) → HashesAt (alone (host o2 d1)) (Asks 0 puts_in_2) b → IsText both b
line_second b = line_in 2 both (alone (host o2 d1)) (Asks 0 puts_in_2) (host o2 d1) (react (event.Request puts_in_2) lying o2 d1).script refl refl plain_1 (subst (λ (s : Step). AllByRecursion (IsOfIn 2 both) s.script) (sym (step_second d1 reads_second)) does_second_of) b

hashed : Hashes (IsText both) (alone (host o0 d0)) asks
hashed =
    let w0 = alone (host o0 d0) in
    let w1 = alone (host o2 d1) in
    let w2 = (happens hazards w1 (Asks 0 puts_in_2)).world in
    let rest : Hashes (IsText both) w1 (drop 1 asks) = then_lines (IsText both) w1 w2 (Asks 0 puts_in_2) [] refl line_second (none_left (IsText both) w2 root) in
    then_lines (IsText both) w0 w1 (Asks 0 registers_in_2) (drop 1 asks) (goes_first d0 reads_first) line_first rest

begun : alone (host o0 d0) ≡ world_of lone_member 1
begun = sym (zeros_begin_the_first lone_kind 0 1 ∙ (sym (schedules_begin later_kind 1) ∙ one.begins))

never : NoCollision (IsHashedOf 0 (world_of lone_member 1) (all_lines acts))
never = subst (λ (w : World Lying). NoCollision (IsHashedOf 0 w asks)) begun (never_of (alone (host o0 d0)) asks hashed)

-- ---- what it answers

abbrev reply_to : Whole → Outcome → ReplyFields
reply_to e o = record { version = 2; cluster = 0; replica = 0; view = 0; client = e.header.client; request = e.header.request; request_name = e.header.request_name; kind = reply.Outcome (record { op = e.header.op; outcome = o }) }

replies_first : In (output.Reply (reply_to first outcome.Session)) (outputs does_first)
unfolding outputs blank state.applied state.answered state.executed sess.checked sess.applied kv.applied
replies_first = inr (inl refl)

replies_second : In (output.Reply (reply_to second outcome.Ok)) (outputs does_second)
unfolding outputs blank state.applied state.answered state.executed sess.checked sess.applied kv.applied kv.putting
replies_second = inr (inl refl)

said_first : Contains (all_said acts) (output.Reply (reply_to first outcome.Session))
said_first = in_contains (output.Reply (reply_to first outcome.Session)) (all_said acts) (in_left (outputs does_first) (outputs does_second ++ []) (output.Reply (reply_to first outcome.Session)) replies_first)

said_second : Contains (all_said acts) (output.Reply (reply_to second outcome.Ok))
said_second =
    let o = output.Reply (reply_to second outcome.Ok) in
    in_contains o (all_said acts) (in_right (outputs does_first) (outputs does_second ++ []) o (in_left (outputs does_second) [] o replies_second))

pub some_runs_answer : OneAnswers
some_runs_answer = record {
  acts = acts;
  runs = are_runs;
  names = never;
  one = runs_keep_one_log lone_kind 0 1 lone_member acts (λ i l. (is_later, omega arith)) (omega arith) (omega arith) (omega arith) (omega arith) are_runs never;
  registered = record { given = reply_to first outcome.Session; among = said_first; client = refl; number = refl; outcome = refl };
  put = record { given = reply_to second outcome.Ok; among = said_second; client = refl; number = refl; outcome = refl };
}
