-- Every move of a run of a group writes good entries.
use Rattle.std.proofs.Common.{ℕ, zero, suc, ◌≡◌, ◌+◌, subst, List, [], ◌∷◌, Some}
use Rattle.std.specs.Prelude.{All, slice_get}
use Rattle.std.proofs.lemmas.List.Elements.{All-nil, All-cons, All-head, All-tail, All-take, All-contains}
use Rattle.vr_header.specs.Made.{Whole}
use Rattle.vr_rings.specs.Slots.{IsWhole}
use Rattle.vr_msg.specs.declared.event.Event.{Event}
use Rattle.vr_super.specs.Copies.{IsGood, SuperValue}
use Rattle.vr_rules.specs.Replica.{Replica}
use Rattle.vr_rules.specs.Migrating.{migrated}
use Rattle.vr_rules.specs.Steps.{Effect, Mend, Save, Write, Step}
use Rattle.vr_world.specs.Lying.{Lying, lying}
use Rattle.vr_rules.specs.Laws.{IsEvent}
use Rattle.vr_rules.specs.Fit.{IsFit, MayCome, ReadsWell}
use Rattle.vr_world.specs.Group.{Member, Group, Arrival, Asked, Message, Time, Move, Moved, Moves, Played, Run, ended, goes, fresh_group, IsArrival, MayOpen, migration, opening_script, stepped}
use Rattle.vr_world.specs.Group as group
use Rattle.vr_world.specs.Files.{IsOfFile}
use Rattle.vr_world.specs.GroupFit.{IsFitReplica, IsFitGroup, IsFitArrival, IsFitMove, IsFitPlayed}
use Rattle.vr_world.proofs.InTwo.{opening_in_two}
use Rattle.vr_rules.proofs.FitMessages.{asked_may_come}
use Rattle.vr_rules.proofs.FitSteps.{steps_fit}
use Rattle.vr_rules.proofs.FitOpening.{openings_fit}
use Rattle.vr_world.proofs.FitLies.{lies_fit}
use Rattle.vr_world.proofs.FitGroups.{good_value, groups_fit}
use Rattle.law_2_chains.proofs.StoredLists.{in_contains}
use Rattle.law_3_outputs.specs.Followed.{IsFitRun, IsGoodEntry}
use Rattle.law_3_outputs.specs.Written.{WritesGood}

-- a move of the run
pub move_of : (g : Group) (ps : List Played) → Run g ps → (k : ℕ) (p : Played) → slice_get ps k ≡ Some p → Moves p.before p.move p.moved
move_of _ _ (ended g) k p e = absurd cc
move_of _ _ (goes g move moved later moves rest) zero p e =
    let s : record { before = g; move = move; moved = moved } ≡ p = (let o : Some (record { before = g; move = move; moved = moved }) ≡ Some p = e in cc) in
    subst (λ (p : Played). Moves p.before p.move p.moved) s moves
move_of _ _ (goes g move moved later moves rest) (suc k) p e = move_of moved.group later rest k p e

pub good_whole : (e : Whole) → IsWhole e → IsGoodEntry e
good_whole e h = record { header = h.header; body = h.entry.body }

fit_good : (es : List Effect) → All IsFit es → WritesGood es
fit_good es h again e i = good_whole e (All-contains IsFit es (Write again e) h (in_contains (Write again e) es i))

pub at_place : {X : Type 0} (P : X → Type 0) (xs : List X) (i : ℕ) (x : X) → All P xs → slice_get xs i ≡ Some x → P x
at_place P [] i x h e = absurd cc
at_place P (y ∷ ys) zero x h e = let same : y ≡ x = cc in subst P same (All-head P y ys h)
at_place P (y ∷ ys) (suc i) x h e = at_place P ys i x (All-tail P y ys h) e

-- what arrives may come
pub arrives : (c : ℕ) (g : Group) (at : ℕ) (a : Arrival) (e : Event) → IsFitGroup c g → IsFitArrival a → IsArrival g at a e → IsEvent e
arrives c g at (Asked q) e h l i = rw i.1 (asked_may_come q i.0 l)
arrives c g at (Message number) e h l i = rw i.3 (at_place MayCome g.sent number i.0 h.sent i.1)
arrives c g at Time e h l i = rw i tt

-- ---- the scripts of moves

step_fit : (r : Replica) (e : Event) (d : Lying) → IsFitReplica r → IsEvent e → ReadsWell lying d → All IsFit (stepped e r d).script
step_fit r e d h m k = (steps_fit lying d r e lies_fit.program lies_fit.roots k h.sound h.savable h.blocks m).each

-- a value as which a member of a group may open
pub opening_of : (c : ℕ) (g : Group) (at : ℕ) (m : Member) (v : SuperValue) → IsFitGroup c g → slice_get g.members at ≡ Some m → MayOpen m v → IsGood v
opening_of c g at m v h there may = (good_value c g.n at m v (h.members at m there) may).0

pub opening_fit : (v : SuperValue) (d : Lying) → IsGood v → ReadsWell lying d → All IsFit (opening_script v d)
opening_fit v d g k = subst (λ (x : Step). All IsFit x.script) (opening_in_two v d) (openings_fit lying d v lies_fit.program lies_fit.roots k g).each

migration_fit : (v : SuperValue) → IsGood v → All IsFit (migration v)
migration_fit v g = All-cons IsFit (Mend v) (Save v (migrated v) ∷ []) g (All-cons IsFit (Save v (migrated v)) [] tt (All-nil IsFit))

script_fit : (c : ℕ) (g : Group) (move : Move) (moved : Moved) → IsFitGroup c g → IsFitMove move → Moves g move moved → All IsFit moved.script
script_fit c g _ _ h k (group.steps at arrival e d m r runs i) = step_fit r e d ((h.members at m runs.member).running r runs.running).0 (arrives c g at arrival e h k.0 i) k.1
script_fit c g _ _ h k (group.cuts at arrival e d j m r runs i) =
    All-take IsFit (j + 1) (stepped e r d).script (step_fit r e d ((h.members at m runs.member).running r runs.running).0 (arrives c g at arrival e h k.0 i) k.1)
script_fit c g _ _ h k (group.crashes at m there) = All-nil IsFit
script_fit c g _ _ h k (group.recovers at v d m o) = opening_fit v d (opening_of c g at m v h o.member o.value) k
script_fit c g _ _ h k (group.recovers_cut at v d j m o) = All-take IsFit (j + 1) (opening_script v d) (opening_fit v d (opening_of c g at m v h o.member o.value) k)
script_fit c g _ _ h k (group.migrates at v m o) = migration_fit v (opening_of c g at m v h o.member o.value)
script_fit c g _ _ h k (group.migrates_cut at v j m o) = All-take IsFit (j + 1) (migration v) (migration_fit v (opening_of c g at m v h o.member o.value))

-- ---- runs

-- each group of a run is fit
pub fit_at : (cluster n : ℕ) (run : List Played) → IsFitRun cluster n run → (t : ℕ) (p : Played) → slice_get run t ≡ Some p → IsFitPlayed cluster p × IsFitMove p.move
fit_at cluster n run x t p is =
    (at_place (IsFitPlayed cluster) run t p (groups_fit.runs x.kinds cluster n run x.are_kinds x.number x.some x.many x.moves x.of_run) is, at_place (λ (p : Played). IsFitMove p.move) run t p x.moves is)

-- and reads the member's file
pub file_at : (cluster n : ℕ) (run : List Played) → IsFitRun cluster n run → (t : ℕ) (p : Played) → slice_get run t ≡ Some p → IsOfFile p.before p.move
file_at cluster n run x t p is = at_place (λ (p : Played). IsOfFile p.before p.move) run t p x.files is

pub writes_good : (cluster n : ℕ) (run : List Played) → IsFitRun cluster n run → (t : ℕ) (p : Played) → slice_get run t ≡ Some p → WritesGood p.moved.script
writes_good cluster n run x t p is =
    let f = fit_at cluster n run x t p is in
    fit_good p.moved.script (script_fit cluster p.before p.move p.moved f.0.0 f.1 (move_of (fresh_group x.kinds cluster n) run x.of_run t p is))
