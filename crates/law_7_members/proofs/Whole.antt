-- Whole runs of the programs of a group's members, interleaved, are members of one group at work.
use Rattle.vr_base.specs.declared.kind.Kind.{Kind}
use Rattle.std.proofs.Common.{ℕ, zero, suc, ◌<◌, ◌≡◌, ◌≢◌, arith, inl, inr, refl, sym, ap, ◌∙◌, subst, Bool, true, cond, List, [], ◌∷◌, ◌++◌, length, length-set, map, set, Option, Some, None}
use Rattle.std.specs.Prelude.{slice_get, Ok, ⊤}
use Rattle.std.specs.List.{AllByRecursion, range_with_len}
use Rattle.std.proofs.lemmas.Bool.{cases_eq, eq-eqb, ne_eqb}
use Rattle.std.proofs.lemmas.List.FromFn.{get_or-map-range_with_len, length-map-range_with_len}
use Rattle.std.proofs.lemmas.Option.{slice_get_within, slice_get-get_or}
use Rattle.vr_base.specs.declared.table.Config.{Config}
use Rattle.vr_disk.specs.DiskState as disk
use Rattle.vr_disk.specs.DiskState.{Call, Disk, Face, Runs, runs}
use Rattle.vr_disk.proofs.Running.{after_is}
use Rattle.vr_disk.proofs.Together.{after_all_append}
use Rattle.vr_msg.specs.declared.event.Event.{Event}
use Rattle.vr_msg.specs.declared.output.Output.{Output}
use Rattle.vr_super.specs.Copies.{SuperValue}
use Rattle.vr_world.specs.Group.{Arrival, opening_script, resumed}
use Rattle.vr_world.specs.Lying.{Lying, lying, zero_face}
use Rattle.vr_rules.specs.Opening.{blank, first_value, fresh, opening}
use Rattle.vr_rules.specs.Replica.{Replica, version}
use Rattle.vr_rules.specs.Rules.{react}
use Rattle.vr_rules.specs.Sectors.{calls_by, script_calls, sectors_by}
use Rattle.vr_rules.specs.Steps.{Effect, Step, after_all}
use Rattle.vr_world.specs.World as world
use Rattle.vr_world.specs.World.{Happened, Host, World, nothing}
use Rattle.vr_world.proofs.FitLies.{same_version}
use Rattle.law_4_disks.proofs.Fresh.{some_world}
use Rattle.law_4_disks.proofs.Lines.{other_place, own_place, some_member}
use Rattle.law_4_disks.proofs.Starts.{opening_is}
use Rattle.vr_host_disk.proofs.Versions.{blank_by, opens_by}
use Rattle.vr_host_disk.proofs.Words.{a_opening}
use Rattle.vr_serve.specs.Runs.{Did, IsRun}
use Rattle.vr_rules.specs.Does.{Does, LeftBy}
use Rattle.vr_node.specs.Opening.{Opens}
use Rattle.vr_node.specs.Running.{Outside}
use Rattle.vr_node.specs.Steps.{steps}
use Rattle.vr_node.specs.declared.node.Node.{Node}
use Rattle.law_7_members.specs.Deeds.{config_at}
use Rattle.law_7_members.specs.Files as files
use Rattle.law_7_members.specs.Files.{Act, ActBy, AtWork, Becomes, Befalls, file_after, left_at, on_file, puts_out}
use Rattle.law_7_members.specs.Runs.{HasDeeds}
use Rattle.law_7_members.specs.Whole as whole
use Rattle.law_7_members.proofs.Files.{RunsOn, none_runs, opened_runs, runs_on, some_runs}
use Rattle.law_7_members.proofs.Values.{same_value}
use Rattle.law_7_members.proofs.Begun.{begin_new, begun_keep_one_log}
use Rattle.law_7_members.specs.Whole.{AreAtWork, AreRuns, Begins, Carries, Lives, RunsAreAtWork, RunsKeepOneLog, all_said, file_of, handled, made_on, making, own, as_read, world_of}

-- ---- one thing after another, of one member

abbrev Goes : Config → Option Replica → Lying → List Act → Type 0
Goes c o file [] = ⊤
Goes c o file (act ∷ acts) = (next : Option Replica) × (left : Lying) × Becomes c o file act next left × Goes c next left acts

-- ---- what the disk tells is the file

pub face_all : (es : List Effect) (d : Lying) → (after_all lying d es).face ≡ disk.after_all d.face (script_calls d.version es d.face)
unfolding after_all script_calls
face_all [] d = refl
face_all (e ∷ es) d = face_all es (lying.after d e) ∙ sym (after_all_append (calls_by d.version e d.face) (script_calls d.version es (lying.after d e).face) d.face)

-- a disk that tells a face
abbrev pub TellsFace : Option Disk → Face → Type 0
TellsFace o f = (d : Disk) × (o ≡ Some d) × (d.face ≡ f)

pub ran_tells : (cs : List Call) (d : Disk) (o : Option Disk) (f : Face) → d.face ≡ f → Runs cs (Some d) o true → TellsFace o (disk.after_all f cs)
ran_tells cs d o f tells r = ((runs cs d).disk, r.0, after_is cs d (sym r.1) ∙ ap (λ (f : Face). disk.after_all f cs) tells)

-- of calls that are a script's on that face
script_tells : (s : Step) (file : Lying) (d : Disk) (o : Option Disk) (cs : List Call) → cs ≡ script_calls file.version s.script file.face → d.face ≡ file.face → Runs cs (Some d) o true → TellsFace o (after_all lying file s.script).face
script_tells s file d o cs same tells r =
    let t = ran_tells cs d o file.face tells r in
    (t.0, t.1, t.2 ∙ (ap (λ (cs : List Call). disk.after_all file.face cs) same ∙ sym (face_all s.script file)))

pub step_tells : (file : Lying) (r q : Replica) (e : Event) (d : Disk) (after : Option Disk) (os : List Output) → d.face ≡ file.face → version r ≡ file.version → Does (react e) r q (Some d) after [] os (Ok tt) → TellsFace after (file_after file r e).face
step_tells file r q e d after os tells own does =
    let n = file.version in
    let left : LeftBy n (react e (sectors_by n) r d.face) q d after [] os (Ok tt) = subst (λ n. LeftBy n (react e (sectors_by n) r d.face) q d after [] os (Ok tt)) own (does.told d refl) in
    let same = ap (λ (f : Face). script_calls n (react e (sectors_by n) r f).script f) tells in
    script_tells (react e (sectors_by n) r file.face) file d after (script_calls n (react e (sectors_by n) r d.face).script d.face) same tells left.2

-- ---- the events of a run

-- it goes on running on a file of its version
pub did_own : (file : Lying) (r q : Replica) (e : Event) → version r ≡ file.version → version q ≡ version r → version q ≡ (file_after file r e).version
did_own file r q e own same = same ∙ own ∙ sym (same_version (react e (sectors_by file.version) r file.face).script file)

handled_goes : (c : Config) (arrivals : List Arrival) (dids : List (Did Node)) (node last : Node) (o left : Option Disk) (file : Lying) (acts : List Act) → version node.replica.memory ≡ file.version → TellsFace o file.face → length arrivals ≡ length dids → IsRun steps node o dids last left
    → Goes c (Some last.replica.memory) (file_of file node.replica.memory dids) acts → Goes c (Some node.replica.memory) file (handled arrivals dids ++ acts)
handled_goes c [] [] node last o left file acts own tells size run more = subst (λ (n : Node). Goes c (Some n.replica.memory) file acts) run.0 more
handled_goes c (a ∷ arrivals) [] node last o left file acts own tells size run more = absurd (let bad : suc (length arrivals) ≡ zero = size in cc)
handled_goes c [] (x ∷ dids) node last o left file acts own tells size run more = absurd (let bad : zero ≡ suc (length dids) = size in cc)
handled_goes c (a ∷ arrivals) (x ∷ dids) node last o left file acts own tells size run more =
    let does : steps node (Some tells.0) x.come.event x.outputs x.after x.disk = subst (λ (o : Option Disk). steps node o x.come.event x.outputs x.after x.disk) tells.1 run.0 in
    let next = step_tells file node.replica.memory x.after.replica.memory x.come.event tells.0 x.disk x.outputs tells.2 own does.1 in
    let kept = did_own file node.replica.memory x.after.replica.memory x.come.event own (does.1.same refl) in
    let less : length arrivals ≡ length dids = omega (arith, size) in (
      Some x.after.replica.memory,
      file_after file node.replica.memory x.come.event,
      files.handles file a x node tells.0 tells.2 does,
      handled_goes c arrivals dids x.after last x.disk left (file_after file node.replica.memory x.come.event) acts kept next less run.1 more,
    )

pub opened_as : (c : Config) (d : Disk) (o o' : Outside) (run : HasDeeds None c o o') → o.disk ≡ Some d → Opens None c (Some d) run.disk run.first run.node.replica.memory
opened_as c d o o' run told = subst (λ (x : Option Disk). Opens None c x run.disk run.first run.node.replica.memory) told run.opens

-- what an opening leaves
pub opened_tells : (c : Config) (file : Lying) (d : Disk) (v : SuperValue) (o o' : Outside) (run : HasDeeds None c o o') → o.disk ≡ Some d → d.face ≡ file.face → (sectors_by file.version).opens d.face ≡ Some v → TellsFace run.disk (after_all lying file (opening_script v file)).face
opened_tells c file d v o o' run told tells is_open =
    let n = file.version in
    let on = opened_as c d o o' run told in
    let is = same_value n d.face v on.value is_open on.opens in
    let q = run.node.replica.memory in
    let left : LeftBy n (opening v (sectors_by n) (blank v) d.face) q d run.disk [] run.first (Ok tt) =
    subst (λ n. LeftBy n (opening v (sectors_by n) (blank v) d.face) q d run.disk [] run.first (Ok tt)) (blank_by n v (opens_by n d.face v is_open))
    ((subst (λ (u : SuperValue). Does (opening u) (blank u) q (Some d) run.disk [] run.first (Ok tt)) (sym is) on.step).told d refl) in
    let s : Step = record { replica = (resumed v file).replica; script = opening_script v file } in
    let same : opening v (sectors_by n) (blank v) d.face ≡ s = ap (opening v (sectors_by n) (blank v)) tells ∙ (sym ((a_opening v).each (blank v) file) ∙ opening_is v file) in
    let all = ap (λ (x : Step). script_calls n x.script d.face) same ∙ ap (λ (f : Face). script_calls n s.script f) tells in
    script_tells s file d run.disk (script_calls n (opening v (sectors_by n) (blank v) d.face).script d.face) all tells left.2

-- a run keeps the version of its replica, and of its file
pub run_own : (dids : List (Did Node)) (node last : Node) (o left : Option Disk) (file : Lying) → version node.replica.memory ≡ file.version → IsRun steps node o dids last left → version last.replica.memory ≡ (file_of file node.replica.memory dids).version
run_own [] node last o left file own run = subst (λ (n : Node). version n.replica.memory ≡ file.version) (sym run.0) own
run_own (x ∷ dids) node last o left file own run =
    run_own dids x.after last x.disk left (file_after file node.replica.memory x.come.event) (did_own file node.replica.memory x.after.replica.memory x.come.event own (run.0.1.same refl)) run.1

lives_go : (c : Config) (o : Option Replica) (file : Lying) (acts : List Act) → RunsOn o file → Lives c o file acts → Goes c o file acts
lives_go c _ _ _ own (whole.rests o file) = tt
lives_go c _ _ _ own (whole.goes o next file left act acts becomes more) = (next, left, becomes, lives_go c next left acts (runs_on c act o file next left own becomes) more)
lives_go c _ _ _ own (whole.runs file d v o o' run arrivals acts told tells is_open size more) =
    let left = after_all lying file (opening_script v file) in
    let first = opened_runs c file d v run.disk run.first run.node.replica.memory is_open (opened_as c d o o' run told) ∙ sym (same_version (opening_script v file) file) in
    let last = run_own run.dids run.node run.last run.disk run.left left first run.run in
    let after = opened_tells c file d v o o' run told tells is_open in (
      Some run.node.replica.memory,
      left,
      files.finds file d v run.disk run.first run.node.replica.memory tells is_open (opened_as c d o o' run told),
      handled_goes c arrivals run.dids run.node run.last run.disk run.left left acts first after size run.run
          (lives_go c (Some run.last.replica.memory) (file_of left run.node.replica.memory run.dids) acts (some_runs run.last.replica.memory (file_of left run.node.replica.memory run.dids) last) more),
    )

-- how a member first is, and its acts from there on
record Begun (c : Config) (m : Host Lying) (acts : List Act) : Type 0 where
  replica : Option Replica
  file : Lying
  is : m ≡ on_file replica file
  goes : Goes c replica file acts

begun : (kind : Kind) (c : Config) (m : Host Lying) (acts : List Act) → Begins kind c m acts → Begun c m acts
begun kind c _ _ (whole.makes d o o' run arrivals acts told unfinished size lives) =
    let file = made_on kind c d.face in
    let made = subst (λ (x : Option Disk). Opens (Some kind) c x run.disk run.first run.node.replica.memory) told run.opens in
    let is = made.0.1.is in
    let tells = ran_tells (making kind c) d run.disk d.face refl is.2 in
    let first : version run.node.replica.memory ≡ file.version = ap (λ (r : Replica). version r) is.1 ∙ blank_by kind.version (first_value kind c.cluster c.n c.replica) refl in
    let last = run_own run.dids run.node run.last run.disk run.left file first run.run in
    let all = handled_goes c arrivals run.dids run.node run.last run.disk run.left file acts first tells size run.run
    (lives_go c (Some run.last.replica.memory) (file_of file run.node.replica.memory run.dids) acts (some_runs run.last.replica.memory (file_of file run.node.replica.memory run.dids) last) lives) in
    record { replica = Some (fresh kind c.cluster c.n c.replica); file = file; is = refl; goes = subst (λ (r : Replica). Goes c (Some r) file (handled arrivals run.dids ++ acts)) is.1 all }
begun kind c _ _ (whole.stops_late f acts unfinished opened lives) =
    let r = Some (fresh kind c.cluster c.n c.replica) in
    record { replica = r; file = as_read kind f; is = refl; goes = (None, as_read kind f, files.ends (as_read kind f) r, lives_go c None (as_read kind f) acts (none_runs (as_read kind f)) lives) }
begun kind c _ _ whole.waits = record { replica = Some (fresh kind c.cluster c.n c.replica); file = made_on kind c zero_face; is = refl; goes = tt }

-- ---- all members

own_here : (i : ℕ) (act : Act) (xs : List ActBy) → own i (files.act_by i act ∷ xs) ≡ act ∷ own i xs
own_here i act xs = ap (λ (t : Bool). cond t (act ∷ own i xs) (own i xs)) (eq-eqb i i refl)

own_other : (i at : ℕ) (act : Act) (xs : List ActBy) → at ≢ i → own i (files.act_by at act ∷ xs) ≡ own i xs
own_other i at act xs other = ap (λ (t : Bool). cond t (act ∷ own i xs) (own i xs)) (ne_eqb at i other)

some_there : {X : Type 0} (xs : List X) (i : ℕ) → i < length xs → (x : X) × (slice_get xs i ≡ Some x)
some_there [] i l = absurd (omega (arith, l))
some_there (x ∷ xs) zero l = (x, refl)
some_there (x ∷ xs) (suc i) l = some_there xs i (omega (arith, l))

-- each of them goes on
record Ready (cluster : ℕ) (w : World Lying) (xs : List ActBy) (i : ℕ) (m : Host Lying) : Type 0 where
  replica : Option Replica
  file : Lying
  is : m ≡ on_file replica file
  goes : Goes (config_at cluster w.n i) replica file (own i xs)

record AreReady (cluster : ℕ) (w : World Lying) (xs : List ActBy) : Type 0 where
  count : length w.members ≡ w.n
  each : (i : ℕ) (m : Host Lying) → slice_get w.members i ≡ Some m → Ready cluster w xs i m

record Worked (cluster : ℕ) (w : World Lying) (xs : List ActBy) : Type 0 where
  left : Happened Lying
  work : AtWork cluster w xs left
  said : left.outputs ≡ all_said xs

ready_next : (cluster : ℕ) (w : World Lying) (at : ℕ) (act : Act) (xs : List ActBy) (m : Host Lying) (next : Option Replica) (left : Lying) (os : List Output) → AreReady cluster w (files.act_by at act ∷ xs) → slice_get w.members at ≡ Some m
    → Goes (config_at cluster w.n at) next left (own at xs) → AreReady cluster (left_at w at next left os).world xs
ready_next cluster w at act xs m next left os r there goes =
    let a : Host Lying = on_file next left in
    record {
      count = length-set w.members at a ∙ r.count;
      each = λ i x e. elim (cases_eq at i) [
        | inl same ↦
            let own_is : slice_get (set w.members at a) at ≡ Some x = subst (λ (j : ℕ). slice_get (set w.members at a) j ≡ Some x) (sym same) e in
            let one : a ≡ x = some_member a x (sym (own_place w.members at m a there) ∙ own_is) in
            record { replica = next; file = left; is = sym one; goes = subst (λ (j : ℕ). Goes (config_at cluster w.n j) next left (own j xs)) same goes }
        | inr other ↦
            let old = r.each i x (sym (other_place w.members at i a other) ∙ e) in
            record { replica = old.replica; file = old.file; is = old.is; goes = subst (λ (acts : List Act). Goes (config_at cluster w.n i) old.replica old.file acts) (own_other i at act xs other) old.goes }
      ];
    }

works : (cluster : ℕ) (xs : List ActBy) (w : World Lying) → AreReady cluster w xs → AllByRecursion (λ (x : ActBy). x.at < w.n) xs → Carries w.sent xs → Worked cluster w xs
works cluster [] w r all carried = record { left = nothing w; work = files.rests w; said = refl }
works cluster (x ∷ xs) w r all carried =
    let count = r.count in
    let within = all.0 in
    let there = some_there w.members x.at (omega (arith, count, within)) in
    let ready = r.each x.at there.0 there.1 in
    let goes = subst (λ (acts : List Act). Goes (config_at cluster w.n x.at) ready.replica ready.file acts) (own_here x.at x.act xs) ready.goes in
    let os = puts_out x.at x.act in
    let one : Happened Lying = left_at w x.at goes.0 goes.1 os in
    let befalls : Befalls cluster w x one = record { replica = ready.replica; file = ready.file; there = there.1 ∙ ap Some ready.is; brings = carried.0; next = goes.0; left = goes.1; becomes = goes.2; is = refl } in
    let rest = works cluster xs one.world (ready_next cluster w x.at x.act xs there.0 goes.0 goes.1 os r there.1 goes.3) all.1 carried.1 in
    record { left = world.later os rest.left; work = files.goes_on w x xs one rest.left befalls rest.work; said = ap (λ (ys : List Output). os ++ ys) rest.said }

pub runs_are_at_work : RunsAreAtWork
unfolding world_of
runs_are_at_work kinds cluster n first xs r =
    let size = length-map-range_with_len first 0 n in
    let ready : AreReady cluster (world_of first n) xs = record {
      count = size;
      each = λ i m e.
          let within = slice_get_within (map first (range_with_len 0 n)) i m e in
          let l : i < n = omega (arith, size, within) in
          let is : m ≡ first i = some_world m (first i) (sym e ∙ (slice_get-get_or (map first (range_with_len 0 n)) i m within ∙ ap Some (get_or-map-range_with_len first 0 n i i m l (omega arith)))) in
          let b = begun (kinds i) (config_at cluster n i) (first i) (own i xs) (r.each i l) in
          record { replica = b.replica; file = b.file; is = is ∙ b.is; goes = b.goes };
    } in
    let w = works cluster xs (world_of first n) ready r.members r.carried in
    record { left = w.left; work = w.work; said = w.said }

pub runs_keep_one_log : RunsKeepOneLog
runs_keep_one_log kinds cluster n first xs are number few many short r never =
    let w = runs_are_at_work kinds cluster n first xs r in
    record { work = w; log = begun_keep_one_log kinds cluster n first xs w.left are number few many short (begin_new kinds cluster n first xs are number few many r) w.work never }
