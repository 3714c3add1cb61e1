-- A followed run whose groups the machine's groups stand for gives what its replies ask for.
use Rattle.std.proofs.Common.{ℕ, ◌≡◌, ◌∙◌, inl, arith, refl, sym, ap, subst, true, List, ◌∷◌, length, Some}
use Rattle.std.specs.Prelude.{Contains, is_some, slice_get, ◌==◌}
use Rattle.std.proofs.lemmas.Bool.{and_parts}
use Rattle.vr_header.specs.Made.{Whole}
use Rattle.vr_header.specs.Names.{root_header}
use Rattle.vr_header.specs.NoCollision.{NoCollision}
use Rattle.vr_msg.specs.declared.event.Event.{Event}
use Rattle.vr_super.specs.Copies.{SuperValue}
use Rattle.vr_ckpt.specs.Blocks.{named}
use Rattle.vr_rules.specs.Deciding.{is_wanted}
use Rattle.vr_rules.specs.Fit.{ReadsWell}
use Rattle.vr_world.specs.Group as group
use Rattle.vr_world.specs.Group.{Arrival, Group, Member, Move, Moved, Moves, Opens, Played, Recovers, Runs, Steps, fresh_group, recovered, stepped}
use Rattle.vr_world.specs.Files.{IsOfFile}
use Rattle.vr_world.specs.GroupFit.{IsFitMove}
use Rattle.vr_world.specs.Lying.{Lying, lying}
use Rattle.vr_rules.specs.Replica.{Replica}
use Rattle.vr_world.specs.Safe.{IsHashed, disks_of}
use Rattle.vr_rules.specs.Steps.{PutBlock}
use Rattle.law_1_machine.specs.Basics.{In}
use Rattle.law_2_chains.specs.Chains.{Setup}
use Rattle.law_2_chains.specs.Bridge.{Bridges}
use Rattle.law_3_outputs.specs.Answering.{HasState, PutsWell}
use Rattle.law_3_outputs.specs.Followed.{IsFollowed}
use Rattle.law_3_outputs.specs.Replied.{IsLogOf, has_loaded}
use Rattle.law_3_outputs.proofs.Fitting.{file_at, fit_at, move_of}
use Rattle.law_3_outputs.proofs.Resuming.{on_disk}
use Rattle.law_6_one_log.specs.ReplyLaws.{RunsReply}
use Rattle.law_6_one_log.proofs.Opening.{loads_value, puts_state}
use Rattle.law_6_one_log.proofs.Reacting.{found_wanted, puts_first}
use Rattle.law_6_one_log.proofs.Runs.{begun_in, found_waits, offers_at, reads_in, stand_at}
use Rattle.law_6_one_log.proofs.Serving.{run_serves, run_steps}

-- what a step of a member writes
step_script : (g : Group) (move : Move) (moved : Moved) → Moves g move moved → (at : ℕ) (arrival : Arrival) (e : Event) (d : Lying) (m : Member) (r : Replica) → move ≡ Steps at arrival e d → Runs g at m r → moved.script ≡ (stepped e r d).script
step_script g _ _ (group.steps at2 arrival2 e2 d2 m2 r2 runs2 i) at arrival e d m r same runs =
    let place : at2 ≡ at = cc in
    let event : e2 ≡ e = cc in
    let disk : d2 ≡ d = cc in
    let one : Some m2 ≡ Some m = sym runs2.member ∙ (ap (slice_get g.members) place ∙ runs.member) in
    let members : m2 ≡ m = cc in
    let two : Some r2 ≡ Some r = sym runs2.running ∙ (ap (λ (z : Member). z.replica) members ∙ runs.running) in
    let replicas : r2 ≡ r = cc in
    λ i. (stepped (event i) (replicas i) (disk i)).script
step_script g _ _ (group.cuts at2 arrival2 e2 d2 k m2 r2 runs2 i) at arrival e d m r same runs = absurd cc
step_script g _ _ (group.crashes at2 m2 there) at arrival e d m r same runs = absurd cc
step_script g _ _ (group.recovers at2 v d2 m2 o) at arrival e d m r same runs = absurd cc
step_script g _ _ (group.recovers_cut at2 v d2 k m2 o) at arrival e d m r same runs = absurd cc
step_script g _ _ (group.migrates at2 v m2 o) at arrival e d m r same runs = absurd cc
step_script g _ _ (group.migrates_cut at2 v k m2 o) at arrival e d m r same runs = absurd cc

-- what an opening begins with
recovers_so : (g : Group) (move : Move) (moved : Moved) → Moves g move moved → (at : ℕ) (v : SuperValue) (d : Lying) → move ≡ Recovers at v d → (m : Member) × Opens g at m v d
recovers_so g _ _ (group.recovers at2 v2 d2 m o) at v d same =
    let place : at2 ≡ at = cc in
    let value : v2 ≡ v = cc in
    let disk : d2 ≡ d = cc in
    (m, subst (λ f. Opens g at m v f) disk (subst (λ w. Opens g at m w d2) value (subst (λ a. Opens g a m v2 d2) place o)))
recovers_so g _ _ (group.steps at2 arrival2 e2 d2 m2 r2 runs2 i) at v d same = absurd cc
recovers_so g _ _ (group.cuts at2 arrival2 e2 d2 k m2 r2 runs2 i) at v d same = absurd cc
recovers_so g _ _ (group.crashes at2 m2 there) at v d same = absurd cc
recovers_so g _ _ (group.recovers_cut at2 v2 d2 k m2 o) at v d same = absurd cc
recovers_so g _ _ (group.migrates at2 v2 m2 o) at v d same = absurd cc
recovers_so g _ _ (group.migrates_cut at2 v2 k m2 o) at v d same = absurd cc

module _ (cluster n : ℕ) (u : Setup) (run : List Played) (x : IsFollowed cluster n u run) (bridges : (t : ℕ) (p : Played) → slice_get run t ≡ Some p → Bridges u p.before (x.group t)) (never : NoCollision (IsHashed run (root_header cluster)))
    (log : List Whole) (is_log : IsLogOf cluster u run (x.group (length run)).sent log) where
  run_puts : (t at : ℕ) (arrival : Arrival) (p : Played) (e : Event) (d : Lying) (m : Member) (r : Replica) → slice_get run t ≡ Some p → p.move ≡ Steps at arrival e d → Runs p.before at m r → PutsWell log lying r d e
  run_puts t at arrival p e d m r is step runs g name same free from found =
      let own = ((fit_at cluster n run x.fit t p is).0.0.members at m runs.member).running r runs.running in
      let moves = move_of (fresh_group x.fit.kinds cluster n) run x.fit.of_run t p is in
      let face : Contains (disks_of p.move) d = subst (λ (z : Move). Contains (disks_of z) d) (sym step) (0, omega arith, refl) in
      let w = found_wanted (is_wanted lying.is_block g) r.missing name found in
      let whole : is_some (named name g.block) ≡ true = (and_parts (name.address == g.address) (lying.is_block name g.block) w.0).1 in
      let first = puts_first g name r d free from found in
      let script : p.moved.script ≡ PutBlock name g.block ∷ first.0 = step_script p.before p.move p.moved moves at arrival e d m r step runs ∙ (ap (λ (z : Event). (stepped z r d).script) same ∙ first.1) in
      let begun = begun_in cluster n u run x bridges never log is_log t p is (PutBlock name g.block) (subst (In (PutBlock name g.block)) (sym script) (inl refl)) in
      let stands = (stand_at cluster n u run x bridges never log is_log t p is at m runs.member).stands r runs.running free in
      (puts_state (λ bytes. IsHashed run (root_header cluster) bytes) never cluster log name g.block r d whole w.1 (own.0.sound.waits w.1) (reads_in cluster n u run x bridges never log is_log t p is d face) stands begun).state

  run_loads : (t at : ℕ) (p : Played) (v : SuperValue) (d : Lying) → slice_get run t ≡ Some p → p.move ≡ Recovers at v d → HasState log (has_loaded v d).replica
  run_loads t at p v d is step =
      let moves = move_of (fresh_group x.fit.kinds cluster n) run x.fit.of_run t p is in
      let face : Contains (disks_of p.move) d = subst (λ (z : Move). Contains (disks_of z) d) (sym step) (0, omega arith, refl) in
      let fit : ReadsWell lying d = subst IsFitMove step (fit_at cluster n run x.fit t p is).1 in
      let file : d.version ≡ v.fields.version = subst (IsOfFile p.before) step (file_at cluster n run x.fit t p is) in
      let o = recovers_so p.before p.move p.moved moves at v d step in
      let stands = stand_at cluster n u run x bridges never log is_log t p is at o.0 o.1.member in
      (loads_value (λ bytes. IsHashed run (root_header cluster) bytes) never cluster log (recovered v d) (on_disk v d) (found_waits cluster n u run x bridges never log is_log t p is at o.0 v d o.1 face fit file stands)).state

pub runs_reply : RunsReply
runs_reply cluster n u run x bridges = record {
  served = λ t at p m r is runs. run_serves cluster n u run x bridges t at p m r is runs;
  steps = λ t at arrival p e d m r is step runs. run_steps cluster n u run x bridges t at arrival p e d m r is step runs;
  puts = λ never log is_log t at arrival p e d m r is step runs. run_puts cluster n u run x bridges never log is_log t at arrival p e d m r is step runs;
  loads = λ never log is_log t at p v d is step free. run_loads cluster n u run x bridges never log is_log t at p v d is step;
  offers = λ never log is_log t number p s v is said message. offers_at cluster n u run x bridges never log is_log t number p s v is said message;
}
