-- How runs end on their file: each end is an act, and what it leaves is what the next run attaches.
use Rattle.std.proofs.Common.{ℕ, ◌≡◌, ◌⊎◌, inl, inr, refl, sym, ap, ◌∙◌, subst, List, [], ◌∷◌, Option, Some}
use Rattle.std.specs.Prelude.{Err}
use Rattle.vr_base.specs.declared.table.Config.{Config}
use Rattle.vr_disk.specs.DiskState.{Disk, Face, Sync, after}
use Rattle.vr_disk.specs.declared.fault.Halt.{Halt}
use Rattle.vr_disk.specs.declared.fault.Halt.TheVariants as halt
use Rattle.vr_msg.specs.declared.event.Event.{Event}
use Rattle.vr_world.specs.Group.{Arrival, opening_script}
use Rattle.vr_world.specs.Lying.{Lying, lying}
use Rattle.vr_rules.specs.Opening.{first_value}
use Rattle.vr_rules.specs.Steps.{Effect, Step, after_all}
use Rattle.vr_world.proofs.FitLies.{same_version}
use Rattle.vr_rules.specs.Does.{LeftBy}
use Rattle.vr_rules.specs.Replica.{Replica, version}
use Rattle.vr_rules.specs.Rules.{react}
use Rattle.vr_rules.specs.Sectors.{script_calls, sectors_by}
use Rattle.vr_node.specs.Opening.{Opens}
use Rattle.vr_node.specs.Steps.{steps, stops}
use Rattle.vr_node.specs.declared.node.Node.{Node}
use Rattle.vr_serve.specs.Runs.{Did, IsRun}
use Rattle.vr_host_disk.proofs.Versions.{blank_by}
use Rattle.law_7_members.specs.Ends.{EndsAs, FoundRunsEnd, MadeRunsEnd, TellsAgain, step_calls}
use Rattle.law_7_members.specs.Files as files
use Rattle.law_7_members.specs.Files.{Act, Becomes, cut_in, file_after}
use Rattle.law_7_members.specs.Runs.{Stopped}
use Rattle.law_7_members.specs.Whole.{file_of, made_on, making}
use Rattle.law_7_members.proofs.Cuts.{HasStopped, failed_stopped, front_stopped, rested}
use Rattle.law_7_members.proofs.Files.{opened_runs}
use Rattle.law_7_members.proofs.Resting.{making_rests, script_rests}
use Rattle.law_7_members.proofs.Whole.{TellsFace, did_own, face_all, opened_as, opened_tells, ran_tells, step_tells}

-- ---- a step that stopped

-- a stop of a step, by a call that failed or for want of memory
pub halt_left : (n : ℕ) (s : Step) (r : Replica) (d : Disk) (d' : Option Disk) (h : Halt) → d.face.waiting ≡ [] → LeftBy n s r d d' [] [] (Err h) → HasStopped (script_calls n s.script d.face) d.face d'
halt_left n s r d d' halt.DiskFault e x = failed_stopped (script_calls n s.script d.face) d d' e x
halt_left n s r d d' halt.NoMemory e x = front_stopped (script_calls n s.script d.face) d d' e x

step_stopped : (file : Lying) (node last : Node) (e : Event) (h : Halt) (d : Disk) (d' : Option Disk) → d.face ≡ file.face → file.face.waiting ≡ [] → version node.replica.memory ≡ file.version → stops node (Some d) e h last d'
    → HasStopped (step_calls node.replica.memory e file) file.face d'
step_stopped file node last e h d d' tells rests own stopped =
    let r = node.replica.memory in
    let n = version r in
    let made = halt_left n (react e (sectors_by n) r d.face) last.replica.memory d d' h (ap (λ (f : Face). f.waiting) tells ∙ rests) (stopped.told d refl) in
    let here = subst (λ n. HasStopped (script_calls n (react e (sectors_by n) r d.face).script d.face) d.face d') own made in
    subst (λ f. HasStopped (script_calls file.version (react e (sectors_by file.version) r f).script f) f d') tells here

-- it tells the same when it is attached again
pub same_again : (file : Lying) (d : Option Disk) → TellsFace d file.face → file.face.waiting ≡ [] → TellsAgain d file
same_again file d tells rests = record { disk = tells.0; told = tells.1; face = rested file.face rests ∙ ap (λ (f : Face). after f Sync) (sym tells.2) }

broken : (c : Config) (file : Lying) (arrival : Arrival) (node : Node) (left d' : Option Disk) (s : Stopped node left d') → file.face.waiting ≡ [] → HasStopped (step_calls node.replica.memory s.event file) file.face d'
    → EndsAs c node left d' (inr s) file arrival
broken c file arrival node left d' s rests x =
    let r = node.replica.memory in
    let script = (react s.event (sectors_by file.version) r file.face).script in
    elim x.left [
      | inl cut ↦ record {
        act = files.Breaks arrival s.event cut.made cut.code;
        is = inl (cut.made, cut.code, refl);
        next = cut_in file script cut.made cut.code;
        becomes = files.breaks file arrival s.event cut.made cut.code r cut.within;
        again = record { disk = x.disk; told = x.told; face = cut.is };
      }
      | inr none ↦ record { act = files.Ends; is = inr (none.0, refl); next = file; becomes = files.ends file (Some r); again = same_again file d' (x.disk, x.told, none.1) rests }
    ]

-- however it ended
ended : (c : Config) (file : Lying) (arrival : Arrival) (node : Node) (left d' : Option Disk) (ends : (d' ≡ left) ⊎ Stopped node left d') → TellsFace left file.face → file.face.waiting ≡ [] → version node.replica.memory ≡ file.version
    → EndsAs c node left d' ends file arrival
ended c file arrival node left d' (inl same) tells rests own =
    record { act = files.Ends; is = refl; next = file; becomes = files.ends file (Some node.replica.memory); again = same_again file d' (subst (λ (o : Option Disk). TellsFace o file.face) (sym same) tells) rests }
ended c file arrival node left d' (inr s) tells rests own =
    let stopped = subst (λ (o : Option Disk). stops node o s.event s.halt s.after d') tells.1 s.left in
    broken c file arrival node left d' s rests (step_stopped file node s.after s.event s.halt tells.0 d' tells.2 rests own stopped)

-- ---- the events of a run

script_stays : (es : List Effect) (file : Lying) → file.face.waiting ≡ [] → (after_all lying file es).face.waiting ≡ []
script_stays es file rests = ap (λ (f : Face). f.waiting) (face_all es file) ∙ script_rests file.version es file.face rests

-- the file after them
record IsReached (c : Config) (last : Node) (left : Option Disk) (file : Lying) : Type 0 where
  tells : TellsFace left file.face
  rests : file.face.waiting ≡ []
  own : version last.replica.memory ≡ file.version

reached : (c : Config) (dids : List (Did Node)) (node last : Node) (o left : Option Disk) (file : Lying) → version node.replica.memory ≡ file.version → TellsFace o file.face → file.face.waiting ≡ [] → IsRun steps node o dids last left
    → IsReached c last left (file_of file node.replica.memory dids)
reached c [] node last o left file own tells rests run =
    subst (λ (n : Node). IsReached c n left (file_of file node.replica.memory [])) (sym run.0) (record { tells = subst (λ (o : Option Disk). TellsFace o file.face) (sym run.1) tells; rests = rests; own = own })
reached c (x ∷ dids) node last o left file own tells rests run =
    let r = node.replica.memory in
    let q = x.after.replica.memory in
    let does : steps node (Some tells.0) x.come.event x.outputs x.after x.disk = subst (λ (o : Option Disk). steps node o x.come.event x.outputs x.after x.disk) tells.1 run.0 in
    reached c dids x.after last x.disk left (file_after file r x.come.event) (did_own file r q x.come.event own (does.1.same refl)) (step_tells file r q x.come.event tells.0 x.disk x.outputs tells.2 own does.1)
    (script_stays (react x.come.event (sectors_by file.version) r file.face).script file rests) run.1

pub found_runs_end : FoundRunsEnd
found_runs_end c file d v o o' run arrival told at is_open =
    let left = after_all lying file (opening_script v file) in
    let first = opened_runs c file d v run.disk run.first run.node.replica.memory is_open (opened_as c d o o' run told) ∙ sym (same_version (opening_script v file) file) in
    let rests = script_stays (opening_script v file) file (ap (λ (f : Face). f.waiting) (sym at.tells) ∙ at.rests) in
    let x = reached c run.dids run.node run.last run.disk run.left left first (opened_tells c file d v o o' run told at.tells is_open) rests run.run in
    ended c (file_of left run.node.replica.memory run.dids) arrival run.last run.left o'.disk run.ends x.tells x.rests x.own

pub made_runs_end : MadeRunsEnd
made_runs_end kind c d o o' run arrival told =
    let file = made_on kind c d.face in
    let made = subst (λ (x : Option Disk). Opens (Some kind) c x run.disk run.first run.node.replica.memory) told run.opens in
    let is = made.0.1.is in
    let first : version run.node.replica.memory ≡ file.version = ap (λ (r : Replica). version r) is.1 ∙ blank_by kind.version (first_value kind c.cluster c.n c.replica) refl in
    let x = reached c run.dids run.node run.last run.disk run.left file first (ran_tells (making kind c) d run.disk d.face refl is.2) (making_rests kind c d.face) run.run in
    ended c (file_of file run.node.replica.memory run.dids) arrival run.last run.left o'.disk run.ends x.tells x.rests x.own
