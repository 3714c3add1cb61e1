-- Any run of `node` comes to acts.
use Rattle.std.proofs.Common.{ℕ, ◌≡◌, ◌⊎◌, inl, inr, refl, sym, ap, ◌∙◌, subst, List, ◌∷◌, length, false, true, Option, Some, None}
use Rattle.vr_base.specs.declared.kind.Kind.{Kind}
use Rattle.vr_base.specs.declared.table.Config.{Config}
use Rattle.vr_disk.specs.DiskState.{Attaches, Disk, Face, Sync, after, attached}
use Rattle.vr_super.specs.Copies.{SuperValue}
use Rattle.vr_super.specs.Opens.{opens}
use Rattle.vr_world.specs.Group.{Arrival, opening_script}
use Rattle.vr_world.specs.Lying.{Lying, lying}
use Rattle.vr_rules.specs.Steps.{after_all}
use Rattle.vr_node.specs.Opening.{Opens, OpensNone}
use Rattle.vr_node.specs.Running.{EndsAttached, Outside, Unattached, on_disk}
use Rattle.vr_rules.specs.Sectors.{sectors_by}
use Rattle.vr_serve.specs.Causes.{Counts}
use Rattle.vr_base.specs.declared.status.Status.{Status}
use Rattle.vr_base.specs.declared.status.Status.TheVariants as status
use Rattle.law_7_members.specs.Ends.{BeginsOn, FoundAndEnded, IsAttached, IsHalted, LeavesBy, LivesOn, MadeAndEnded, MakingRunsAreActs, NodeRunsAreActs, TellsAgain}
use Rattle.law_7_members.specs.Runs.{HasDeeds}
use Rattle.law_7_members.specs.Whole as whole
use Rattle.law_7_members.specs.Whole.{IsUnfinished, LeavesUnfinished, file_of, made_on}
use Rattle.law_7_members.proofs.Deeds.{runs_deeds}
use Rattle.law_7_members.proofs.Ending.{found_runs_end, made_runs_end}
use Rattle.law_7_members.proofs.Halting.{attached_again, attached_face, openings_halt, unattached, unattached_face}
use Rattle.law_7_members.proofs.Making.{makings_leave}
use Rattle.law_7_members.proofs.Values.{opens_value, some_is}

module _ (c : Config) (file : Lying) (d : Disk) (at : IsAttached d file) (o o' : Outside) (run : HasDeeds None c o o') (told : o.disk ≡ Some d) where
  opened_as : Opens None c (Some d) run.disk run.first run.node.replica.memory
  opened_as = subst (λ (x : Option Disk). Opens None c x run.disk run.first run.node.replica.memory) told run.opens

  abbrev found_value : SuperValue
  found_value = opened_as.value

  opened_here : (sectors_by file.version).opens d.face ≡ Some found_value
  opened_here =
      let is = some_is (opens d.face) found_value opened_as.opens in
      subst (λ n. (sectors_by n).opens d.face ≡ Some found_value) (at.own found_value (ap opens (sym at.tells) ∙ is)) (opens_value d.face found_value is)

  lives_on : (arrivals : List Arrival) (arrival : Arrival) → length arrivals ≡ length run.dids → LivesOn c file o o' run arrivals arrival
  lives_on arrivals arrival size =
      let end = found_runs_end c file d found_value o o' run arrival told at opened_here in
      let last = file_of (after_all lying file (opening_script found_value file)) run.node.replica.memory run.dids in
      record {
        value = found_value;
        opened = subst (λ (f : Face). (sectors_by file.version).opens f ≡ Some found_value) at.tells opened_here;
        end = end;
        goes = λ acts more.
            whole.runs file d found_value o o' run arrivals (end.act ∷ acts) told at.tells opened_here size (whole.goes (Some run.last.replica.memory) None last end.next end.act acts end.becomes more);
      }

node_attached : (c : Config) (peers : List (List ℕ)) (turns : ℕ) (o o' : Outside) (before now : Counts) (s : Status) (file : Lying) (x : Option Disk) (d : Disk) → x ≡ Some d → IsAttached d file → EndsAttached None c peers turns (on_disk x o) o' before now s
    → LeavesBy c file (IsHalted s) o'.disk ⊎ FoundAndEnded c file o o'
node_attached c peers turns o o' before now s file x d told at (inl u) = inl (openings_halt c file d o'.disk s at (subst (λ (x : Option Disk). OpensNone None c x o'.disk s) told u.why))
node_attached c peers turns o o' before now s file x d told at (inr r) =
    let run = runs_deeds None c peers turns (on_disk x o) o' before now s r in
    inr (record { attached = x; run = run; each = lives_on c file d at (on_disk x o) o' run told })

node_unattached : (c : Config) (name : List ℕ) (o o' : Outside) (before now : Counts) (s : Status) (file : Lying) → TellsAgain o.disk file → Unattached name o o' before now s → LeavesBy c file (IsHalted s) o'.disk
node_unattached c name o o' before now s file tells u =
    let failed = subst (λ (x : Option Disk). Attaches name x o'.disk false) tells.told u.failed in
    let x : LeavesBy c file (IsHalted status.DiskFault) o'.disk = record { act = None; is = tt; next = file; passes = refl; again = unattached name file tells.disk o'.disk tells.face failed } in
    subst (λ (s : Status). LeavesBy c file (IsHalted s) o'.disk) (sym u.is) x

pub node_runs_are_acts : NodeRunsAreActs
node_runs_are_acts c name peers turns o o' before now s file tells own (inl u) = inl (node_unattached c name o o' before now s file tells u)
node_runs_are_acts c name peers turns o o' before now s file tells own (inr h) =
    let attaches = subst (λ (x : Option Disk). Attaches name x h.0 true) tells.told h.1 in
    node_attached c peers turns o o' before now s file h.0 (attached name tells.disk).disk attaches.0 (attached_again name file tells.disk tells.face own (sym attaches.1)) h.2

-- ---- a run that was to make its member

module _ (kind : Kind) (c : Config) (d : Disk) (unfinished : IsUnfinished c d.face) (o o' : Outside) (run : HasDeeds (Some kind) c (on_disk (Some d) o) o') where
  begins_on : (arrivals : List Arrival) (arrival : Arrival) → length arrivals ≡ length run.dids → BeginsOn kind c d.face (on_disk (Some d) o) o' run arrivals arrival
  begins_on arrivals arrival size =
      let end = made_runs_end kind c d (on_disk (Some d) o) o' run arrival refl in
      let last = file_of (made_on kind c d.face) run.node.replica.memory run.dids in
      record {
        end = end;
        goes = λ acts more.
            whole.makes d (on_disk (Some d) o) o' run arrivals (end.act ∷ acts) refl unfinished size (whole.goes (Some run.last.replica.memory) None last end.next end.act acts end.becomes more);
      }

making_attached : (kind : Kind) (c : Config) (peers : List (List ℕ)) (turns : ℕ) (o o' : Outside) (before now : Counts) (s : Status) (d : Disk) → IsUnfinished c d.face → EndsAttached (Some kind) c peers turns (on_disk (Some d) o) o' before now s
    → LeavesUnfinished c o'.disk ⊎ MadeAndEnded kind c o o'
making_attached kind c peers turns o o' before now s d u (inl none) = inl (makings_leave kind c d o'.disk s u none.why)
making_attached kind c peers turns o o' before now s d u (inr r) =
    let run = runs_deeds (Some kind) c peers turns (on_disk (Some d) o) o' before now s r in
    inr (record { attached = d; run = run; each = begins_on kind c d u o o' run })

making_unattached : (c : Config) (name : List ℕ) (d : Disk) (d' : Option Disk) → IsUnfinished c (after d.face Sync) → Attaches name (Some d) d' false → LeavesUnfinished c d'
making_unattached c name d d' u a =
    record { disk = (attached name d).disk; told = a.0; unfinished = subst (λ (f : Face). IsUnfinished c (after f Sync)) (sym (unattached_face name d (sym a.1))) u }

pub making_runs_are_acts : MakingRunsAreActs
making_runs_are_acts kind c name peers turns o o' before now s left (inl x) = inl (making_unattached c name left.disk o'.disk left.unfinished (subst (λ (x : Option Disk). Attaches name x o'.disk false) left.told x.failed))
making_runs_are_acts kind c name peers turns o o' before now s left (inr h) =
    let attaches = subst (λ (x : Option Disk). Attaches name x h.0 true) left.told h.1 in
    let d = (attached name left.disk).disk in
    let unfinished = subst (IsUnfinished c) (sym (attached_face name left.disk (sym attaches.1))) left.unfinished in
    let ends = subst (λ (x : Option Disk). EndsAttached (Some kind) c peers turns (on_disk x o) o' before now s) attaches.0 h.2 in
    making_attached kind c peers turns o o' before now s d unfinished ends
