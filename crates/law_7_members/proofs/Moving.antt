-- What a member did is a move of the group.
use Rattle.std.proofs.Common.{ℕ, ◌^◌, ◌<◌, ◌≤◌, ◌≡◌, refl, sym, ap, ◌∙◌, subst, List, [], ◌∷◌, ◌++◌, Option, Some, None}
use Rattle.std.specs.Prelude.{slice_get, All, Ok}
use Rattle.std.proofs.lemmas.List.Elements.{All-nil, All-cons}
use Rattle.vr_base.specs.declared.kind.Kind.{Kind}
use Rattle.vr_disk.specs.DiskState.{Disk}
use Rattle.vr_msg.specs.declared.event.Event.{Event}
use Rattle.vr_msg.specs.declared.output.Output.{Output}
use Rattle.vr_super.specs.Copies.{SuperValue}
use Rattle.vr_world.specs.Group as group
use Rattle.vr_world.specs.Group.{Arrival, Group, Member, Move, Moved, Moves, Played, Run, carried_out, cut_short, finished, fresh_group, once_mended, opening_script, resumed, started, stepped, with_script}
use Rattle.vr_world.specs.Files.{IsFileAt, IsOfFile}
use Rattle.vr_world.specs.GroupFit.{IsFitGroup, IsFitMove}
use Rattle.vr_world.specs.Lying.{Lying, lying}
use Rattle.vr_rules.specs.Opening.{AreKinds, blank, opening}
use Rattle.vr_rules.specs.Replica.{Replica, version}
use Rattle.vr_rules.specs.Rules.{react}
use Rattle.vr_world.specs.Safe.{run_outputs}
use Rattle.vr_rules.specs.Sectors.{sectors_by}
use Rattle.vr_rules.specs.Steps.{Step, outputs}
use Rattle.vr_world.proofs.FitGroups.{fresh_group_fits, groups_fit}
use Rattle.vr_world.proofs.FitLies.{lies_fit}
use Rattle.law_4_disks.specs.Worlds.{IsOfBytes}
use Rattle.law_4_disks.proofs.Starts.{opening_is}
use Rattle.vr_host_disk.proofs.Rules.{a_react}
use Rattle.vr_host_disk.proofs.Versions.{blank_by}
use Rattle.vr_host_disk.proofs.Words.{a_opening}
use Rattle.vr_serve.specs.Runs.{Did}
use Rattle.vr_rules.specs.Does.{Does, LeftBy}
use Rattle.vr_node.specs.Opening.{Opens}
use Rattle.vr_node.specs.Steps.{steps}
use Rattle.vr_node.specs.declared.node.Node.{Node}
use Rattle.law_3_outputs.specs.Followed.{IsFitRun}
use Rattle.law_6_one_log.proofs.Closing.{runs_safe}
use Rattle.law_7_members.specs.Deeds as deeds
use Rattle.law_7_members.specs.Deeds.{AtWork, By, Leads, MayBeFound, Reaches, all_put_out, after_event, after_opening, config_at, opened_on, puts_out, run_on}
use Rattle.law_7_members.specs.Laws.{IsOneRun}
use Rattle.law_7_members.proofs.Values.{same_value}

-- ---- one deed

record IsMove (g : Group) (x : By) (moved : Moved) : Type 0 where
  move : Move
  moves : Moves g move moved
  fits : IsFitMove move
  bytes : IsOfBytes move
  file : IsOfFile g move
  said : moved.outputs ≡ puts_out x.deed

-- a running member's file is of the version of its replica
runs_file : (cluster : ℕ) (g : Group) (at : ℕ) (m : Member) (r : Replica) (d : Disk) → IsFitGroup cluster g → slice_get g.members at ≡ Some m → m.replica ≡ Some r → IsFileAt g at (run_on r d)
runs_file cluster g at m r d h there runs q e =
    let same : m ≡ q = (let two : Some m ≡ Some q = sym there ∙ e in cc) in
    let k = h.members at m there in
    let own : version r ≡ m.last.fields.version = (k.running r runs).1.saved.version ∙ sym k.last.1.version in
    subst (λ (q : Member). version r ≡ q.last.fields.version) same own

-- a step on the sectors of a disk, with what is known of replica and outputs
one_step : (g : Group) (at : ℕ) (arrival : Arrival) (d : Disk) (did : Did Node) (m : Member) (node : Node) → slice_get g.members at ≡ Some m → m.replica ≡ Some node.replica.memory
    → Reaches g at arrival did.come.event → steps node (Some d) did.come.event did.outputs did.after did.disk
    → Moves g (group.Steps at arrival did.come.event (run_on node.replica.memory d)) (after_event g at m node.replica.memory d did)
one_step g at arrival d did m node there runs reaches does =
    let r : Replica = node.replica.memory in
    let e : Event = did.come.event in
    let y : Lying = run_on r d in
    let s : Step = react e (sectors_by (version r)) r d.face in
    let left : LeftBy (version r) s did.after.replica.memory d did.disk [] did.outputs (Ok tt) = does.1.told d refl in
    let same : react e lying r y ≡ s = (a_react e).each r y in
    let move : Move = group.Steps at arrival e y in
    let whole : Moves g move (finished g at m (stepped e r y)) = group.steps at arrival e y m r (record { member = there; running = runs }) reaches.comes in
    let plain : Moves g move (finished g at m s) = subst (λ (z : Step). Moves g move (finished g at m z)) same whole in
    let said : Moves g move (with_script g at (record (carried_out s.script m) { replica = Some s.replica }) s.script did.outputs) =
    subst (λ (os : List Output). Moves g move (with_script g at (record (carried_out s.script m) { replica = Some s.replica }) s.script os)) (sym left.1) plain in
    subst (λ (q : Replica). Moves g move (with_script g at (record (carried_out s.script m) { replica = Some q }) s.script did.outputs)) (sym left.0) said

-- an opening, with what is known of replica and outputs
one_opening : (cluster : ℕ) (g : Group) (at : ℕ) (v : SuperValue) (d : Disk) (after : Option Disk) (first : List Output) (r : Replica) (m : Member) → slice_get g.members at ≡ Some m → m.replica ≡ None
    → MayBeFound g m v d → Opens None (config_at cluster g.n at) (Some d) after first r
    → Moves g (group.Recovers at v (opened_on v d)) (after_opening g at m v d first r)
one_opening cluster g at v d after first r m there stopped may opened =
    let y : Lying = opened_on v d in
    let n = v.fields.version in
    let is : v ≡ opened.value = same_value n d.face v opened.value may.value opened.opens in
    let left : LeftBy n (opening v (sectors_by n) (blank v) d.face) r d after [] first (Ok tt) =
    subst (λ n. LeftBy n (opening v (sectors_by n) (blank v) d.face) r d after [] first (Ok tt)) (blank_by n v refl)
    ((subst (λ (w : SuperValue). Does (opening w) (blank w) r (Some d) after [] first (Ok tt)) (sym is) opened.step).told d refl) in
    let same : opening v (sectors_by n) (blank v) d.face ≡ record { replica = (resumed v y).replica; script = opening_script v y } = sym ((a_opening v).each (blank v) y) ∙ opening_is v y in
    let move : Move = group.Recovers at v y in
    let whole : Moves g move (started g at m v y) = group.recovers at v y m (record { member = there; stopped = stopped; value = may.may; sound = may.sound }) in
    let first_is : first ≡ outputs (opening_script v y) = left.1 ∙ ap (λ (z : Step). outputs z.script) same in
    let replica_is : r ≡ (resumed v y).replica = left.0 ∙ ap (λ (z : Step). z.replica) same in
    let said : Moves g move (with_script g at (record (carried_out (resumed v y).script (once_mended v y m)) { replica = Some (resumed v y).replica }) (opening_script v y) first) =
    subst (λ (os : List Output). Moves g move (with_script g at (record (carried_out (resumed v y).script (once_mended v y m)) { replica = Some (resumed v y).replica }) (opening_script v y) os)) (sym first_is) whole in
    subst (λ (q : Replica). Moves g move (with_script g at (record (carried_out (resumed v y).script (once_mended v y m)) { replica = Some q }) (opening_script v y) first)) (sym replica_is) said

one_move : (cluster : ℕ) (g : Group) (x : By) (moved : Moved) → IsFitGroup cluster g → Leads cluster g x moved → IsMove g x moved
one_move cluster g _ _ h (deeds.handled at arrival d did m node there runs reaches face does) = record {
  move = group.Steps at arrival did.come.event (run_on node.replica.memory d);
  moves = one_step g at arrival d did m node there runs reaches does;
  fits = (reaches.fits, lies_fit.reads (run_on node.replica.memory d) face);
  bytes = face;
  file = runs_file cluster g at m node.replica.memory d h there runs;
  said = refl;
}
one_move cluster g _ _ h (deeds.broke at arrival event d effects m r there runs reaches face) = record {
  move = group.Cuts at arrival event (run_on r d) effects;
  moves = subst (λ (z : Step). Moves g (group.Cuts at arrival event (run_on r d) effects) (cut_short g at m z effects)) ((a_react event).each r (run_on r d)) (group.cuts at arrival event (run_on r d) effects m r (record { member = there; running = runs }) reaches.comes);
  fits = (reaches.fits, lies_fit.reads (run_on r d) face);
  bytes = face;
  file = runs_file cluster g at m r d h there runs;
  said = refl;
}
one_move cluster g _ _ h (deeds.ended at m there) = record { move = group.Crashes at; moves = group.crashes at m there; fits = tt; bytes = tt; file = tt; said = refl }
one_move cluster g _ _ h (deeds.found at v d after first r m there stopped may opened) = record {
  move = group.Recovers at v (opened_on v d);
  moves = one_opening cluster g at v d after first r m there stopped may opened;
  fits = lies_fit.reads (opened_on v d) may.face;
  bytes = may.face;
  file = refl;
  said = refl;
}
one_move cluster g _ _ h (deeds.half_found at v d effects m there stopped may) = record {
  move = group.RecoversCut at v (opened_on v d) effects;
  moves = group.recovers_cut at v (opened_on v d) effects m (record { member = there; stopped = stopped; value = may.may; sound = may.sound });
  fits = lies_fit.reads (opened_on v d) may.face;
  bytes = may.face;
  file = refl;
  said = refl;
}
one_move cluster g _ _ h (deeds.migrated at v m may) = record { move = group.Migrates at v; moves = group.migrates at v m may; fits = tt; bytes = tt; file = tt; said = refl }
one_move cluster g _ _ h (deeds.half_migrated at v effects m may) = record { move = group.MigratesCut at v effects; moves = group.migrates_cut at v effects m may; fits = tt; bytes = tt; file = tt; said = refl }

-- ---- one after the other

record IsRun (g : Group) (xs : List By) : Type 0 where
  run : List Played
  is : Run g run
  fits : All (λ (p : Played). IsFitMove p.move) run
  bytes : All (λ (p : Played). IsOfBytes p.move) run
  files : All (λ (p : Played). IsOfFile p.before p.move) run
  said : run_outputs run ≡ all_put_out xs

runs : (cluster : ℕ) (g : Group) (xs : List By) → IsFitGroup cluster g → AtWork cluster g xs → IsRun g xs
unfolding run_outputs all_put_out
runs cluster g [] h w = record {
  run = [];
  is = group.ended g;
  fits = All-nil (λ (p : Played). IsFitMove p.move);
  bytes = All-nil (λ (p : Played). IsOfBytes p.move);
  files = All-nil (λ (p : Played). IsOfFile p.before p.move);
  said = refl;
}
runs cluster g (x ∷ xs) h w =
    let moved : Moved = w.0 in
    let one = one_move cluster g x moved h w.1 in
    let rest = runs cluster moved.group xs (groups_fit.each cluster g one.move moved h one.fits one.moves) w.2 in
    let p : Played = record { before = g; move = one.move; moved = moved } in
    record {
      run = p ∷ rest.run;
      is = group.goes g one.move moved rest.run one.moves rest.is;
      fits = All-cons (λ (p : Played). IsFitMove p.move) p rest.run one.fits rest.fits;
      bytes = All-cons (λ (p : Played). IsOfBytes p.move) p rest.run one.bytes rest.bytes;
      files = All-cons (λ (p : Played). IsOfFile p.before p.move) p rest.run one.file rest.files;
      said = ap (λ (os : List Output). os ++ run_outputs rest.run) one.said ∙ ap (λ (os : List Output). puts_out x.deed ++ os) rest.said;
    }

pub one_run : (kinds : ℕ → Kind) (cluster n : ℕ) (xs : List By) → AreKinds kinds n → cluster < 2 ^ 64 → 1 ≤ n → n ≤ 6 → AtWork cluster (fresh_group kinds cluster n) xs → IsOneRun cluster n xs
one_run kinds cluster n xs are number few many w =
    let r = runs cluster (fresh_group kinds cluster n) xs (fresh_group_fits kinds cluster n are number few many) w in
    let fit : IsFitRun cluster n r.run = record { number = number; some = few; many = many; moves = r.fits; files = r.files; kinds = kinds; are_kinds = are; of_run = r.is } in
    record { run = r.run; fit = fit; bytes = r.bytes; said = r.said; safe = runs_safe cluster n r.run fit }
