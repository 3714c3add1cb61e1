-- In every run of a group the blocks of each running replica's checkpoint stand at their places, and so visits find what doesn't read.
use Rattle.std.specs.List.{AllByRecursion}
use Rattle.std.proofs.Common.{◌++◌, arith, ℕ, ◌+◌, ◌≡◌, ◌≤◌, ◌∙◌, inl, inr, refl, sym, ap, subst, cond, true, false, List, [], ◌∷◌, Some, None}
use Rattle.vr_base.specs.Bytes.{IsBytes}
use Rattle.vr_base.specs.declared.kind.Kind.{Kind}
use Rattle.vr_msg.specs.declared.output.Output.{Output}
use Rattle.vr_msg.specs.declared.output.Sent.{Sent}
use Rattle.vr_rules.specs.Rules as rules
use Rattle.vr_rules.specs.Steps.{Effect, Write, Rewrite, Save, Mend, Checkpoint, PutBlock, Say, outputs, Step, after_all}
use Rattle.vr_rules.specs.Outputs.{message_of, messages}
use Rattle.std.specs.Prelude.{All, slice_get, slice_set, ◌==◌}
use Rattle.std.proofs.lemmas.Bool.{eq-eqb}
use Rattle.std.proofs.lemmas.List.Elements.{All-cons, All-head, All-nil, All-tail}
use Rattle.vr_disk.specs.DiskState.{IsFace}
use Rattle.vr_msg.specs.declared.event.Event.{Event}
use Rattle.vr_world.specs.Group.{Arrival, Asked, Group, IsArrival, Member, Message, Move, Moved, Moves, Played, Run, Time, fresh_group, opening_script, resumed}
use Rattle.vr_world.specs.Group as group
use Rattle.vr_world.specs.GroupFit.{IsFitGroup, IsFitMove, IsFitReplica}
use Rattle.vr_rules.specs.Laws.{IsEvent}
use Rattle.vr_world.specs.Lying.{Lying, lying}
use Rattle.vr_rules.specs.Opening.{blank, fresh, opening}
use Rattle.vr_rules.specs.Replica.{Replica, is_spent, version}
use Rattle.vr_rules.specs.Sectors.{sectors_by}
use Rattle.vr_rules.specs.Words as words
use Rattle.vr_rules.proofs.FitDisks.{disks_fit}
use Rattle.vr_world.proofs.FitLies.{lies_fit}
use Rattle.vr_world.proofs.FitGroups.{arrives, fresh_at, fresh_group_fits, good_value, groups_fit}
use Rattle.vr_world.proofs.InTwo.{opening_in_two}
use Rattle.vr_rules.proofs.SavesSectors.{sectors_fit}
use Rattle.law_4_disks.specs.Stocks.{IsGiven, IsGivenEvent}
use Rattle.law_4_disks.specs.Worlds.{IsOfBytes}
use Rattle.law_4_disks.proofs.Lines.{get_both, message_given, none_sent}
use Rattle.law_4_disks.proofs.Loading.{block_are}
use Rattle.law_repair.specs.Cover.{KnowsFaults, visits_made}
use Rattle.law_repair.specs.GroupCover.{AllCover, GroupsCover}
use Rattle.law_repair.specs.Latest.{latest}
use Rattle.law_repair.specs.Places.{PlacesStay, StaysInPlace}
use Rattle.law_repair.specs.Visits.{after_events}
use Rattle.law_repair.proofs.Covering.{lying_covers}
use Rattle.law_repair.proofs.Giving.{Gives, Mute, mute_opening, step_gives}
use Rattle.law_repair.proofs.GroupMoves.{set_at}
use Rattle.law_repair.proofs.Laying.{lying_apart, lying_in_place, sectors_apart, sectors_in_place}
use Rattle.law_repair.proofs.Placing.{Loads, frozen_still, laid_out, loaded_bytes, loaded_still, put_face, step_in_place}
use Rattle.law_repair.proofs.PlacingOpening.{fresh_in_place, opened_in_place}

-- ---- the disks of the program

sectors_load : (v : ℕ) → Loads (sectors_by v) (λ f. f)
sectors_load v = record { bytes = loaded_bytes v; put = put_face v; same = loaded_still v; reads = disks_fit.reads v; apart = sectors_apart v; saves = sectors_in_place v }

lying_load : Loads lying (λ d. d.face)
lying_load = record {
  bytes = λ d whole. loaded_bytes d.version d.face whole;
  put = λ d name block whole is bytes. put_face d.version d.face name block whole is bytes;
  same = λ d e root h. loaded_still d.version d.face e root h;
  reads = lies_fit.reads;
  apart = lying_apart;
  saves = lying_in_place;
}

pub sectors_places : (v : ℕ) → PlacesStay (sectors_by v) (λ f. f)
sectors_places v = record {
  fresh = fresh_in_place;
  openings = opened_in_place (sectors_by v) (λ f. f) (sectors_load v) (disks_fit.program v) (sectors_fit v).1;
  steps = step_in_place (sectors_by v) (λ f. f) (sectors_load v) (disks_fit.program v) (sectors_fit v).1;
  laid = laid_out;
}

pub lying_places : PlacesStay lying (λ d. d.face)
lying_places = record {
  fresh = fresh_in_place;
  openings = opened_in_place lying (λ (d : Lying). d.face) lying_load lies_fit.program lies_fit.roots;
  steps = step_in_place lying (λ (d : Lying). d.face) lying_load lies_fit.program lies_fit.roots;
  laid = laid_out;
}

-- ---- messages: the blocks that are given consist of bytes

abbrev AllGiven : Group → Type 0
AllGiven g = (number : ℕ) (s : Sent) → slice_get g.sent number ≡ Some s → IsGiven IsBytes s.message

arrives_given : (g : Group) (at : ℕ) (a : Arrival) (e : Event) → AllGiven g → IsArrival g at a e → IsGivenEvent IsBytes e
arrives_given g at (Asked q) e h i = rw i.1 tt
arrives_given g at (Message number) e h i = rw i.3 (h number i.0 i.1)
arrives_given g at Time e h i = rw i tt

script_given : (es : List Effect) → AllByRecursion (Gives IsBytes) es → (number : ℕ) (s : Sent) → slice_get (messages (outputs es)) number ≡ Some s → IsGiven IsBytes s.message
unfolding messages outputs
script_given [] a number s e = absurd cc
script_given (Say o ∷ es) a number s e = get_both (λ (x : Sent). IsGiven IsBytes x.message) (message_of o) (messages (outputs es)) (message_given IsBytes o a.0) (script_given es a.1) number s e
script_given (Write again x ∷ es) a number s e = script_given es a.1 number s e
script_given (Rewrite h ∷ es) a number s e = script_given es a.1 number s e
script_given (Save old new ∷ es) a number s e = script_given es a.1 number s e
script_given (Mend v ∷ es) a number s e = script_given es a.1 number s e
script_given (Checkpoint c t o b ∷ es) a number s e = script_given es a.1 number s e
script_given (PutBlock n b ∷ es) a number s e = script_given es a.1 number s e

more_given : (g : Group) (os : List Output) → AllGiven g → ((number : ℕ) (s : Sent) → slice_get (messages os) number ≡ Some s → IsGiven IsBytes s.message) → (number : ℕ) (s : Sent)
    → slice_get (g.sent ++ messages os) number ≡ Some s → IsGiven IsBytes s.message
more_given g os h sent = get_both (λ (x : Sent). IsGiven IsBytes x.message) g.sent (messages os) h sent

moves_given : (g : Group) (move : Move) (moved : Moved) → AllGiven g → IsOfBytes move → Moves g move moved → AllGiven moved.group
moves_given g _ _ h b (group.steps at arrival e d m r runs i) =
    let x = rules.react e lying r d in
    more_given g (outputs x.script) h (script_given x.script (step_gives IsBytes lying d (λ name block q. block_are d.face name block b q) e r))
moves_given g _ _ h b (group.cuts at arrival e d j m r runs i) = more_given g [] h (none_sent IsBytes)
moves_given g _ _ h b (group.crashes at m there) = more_given g [] h (none_sent IsBytes)
moves_given g _ _ h b (group.recovers at v d m o) =
    let word : Mute {F = Lying} IsBytes (opening v) = mute_opening v in
    let mute : AllByRecursion (Gives IsBytes) (opening_script v d) = subst (λ (x : Step). AllByRecursion (Gives IsBytes) x.script) (opening_in_two v d) (word.every lying (blank v) d) in
    more_given g (outputs (opening_script v d)) h (script_given (opening_script v d) mute)
moves_given g _ _ h b (group.recovers_cut at v d j m o) = more_given g [] h (none_sent IsBytes)
moves_given g _ _ h b (group.migrates at v m o) = more_given g [] h (none_sent IsBytes)
moves_given g _ _ h b (group.migrates_cut at v j m o) = more_given g [] h (none_sent IsBytes)

-- ---- moves

abbrev AllInPlace : Group → Type 0
AllInPlace g = (at : ℕ) (m : Member) (r : Replica) → slice_get g.members at ≡ Some m → m.replica ≡ Some r → StaysInPlace r

one_placed : (g : Group) (at : ℕ) (m : Member) → AllInPlace g → ((r : Replica) → m.replica ≡ Some r → StaysInPlace r)
    → (j : ℕ) (x : Member) (r : Replica) → slice_get (slice_set g.members at m) j ≡ Some x → x.replica ≡ Some r → StaysInPlace r
one_placed g at m h k j x r e i = elim (set_at g.members at j m x e) [
  | inl same ↦ k r (ap (λ (y : Member). y.replica) same ∙ i)
  | inr old ↦ h j x r old i
]

runs_placed : (q r : Replica) → StaysInPlace q → Some q ≡ Some r → StaysInPlace r
runs_placed q r u e = let same : q ≡ r = cc in subst StaysInPlace same u

stopped_placed : (r : Replica) → None ≡ Some r → StaysInPlace r
stopped_placed r e = absurd cc

moves_placed : (c : ℕ) (g : Group) (move : Move) (moved : Moved) → IsFitGroup c g → AllInPlace g → AllGiven g → IsFitMove move → IsOfBytes move → Moves g move moved → AllInPlace moved.group
moves_placed c g _ _ h u w k b (group.steps at arrival e d m r runs i) =
    let fit = ((h.members at m runs.member).running r runs.running).0 in
    one_placed g at _ u (λ q same. runs_placed _ q (lying_places.steps e r d b fit (arrives c g at arrival e h k.0 i) (arrives_given g at arrival e w i) (u at m r runs.member runs.running)) same)
moves_placed c g _ _ h u w k b (group.cuts at arrival e d j m r runs i) = one_placed g at _ u (λ q same. stopped_placed q same)
moves_placed c g _ _ h u w k b (group.crashes at m there) = one_placed g at _ u (λ q same. stopped_placed q same)
moves_placed c g _ _ h u w k b (group.recovers at v d m o) =
    let good = good_value c g.n at m v (h.members at m o.member) o.value in
    let placed : StaysInPlace (opening v lying (blank v) d).replica = lying_places.openings d v b good.0 in
    one_placed g at _ u (λ q same. runs_placed (resumed v d).replica q (subst (λ (x : Step). StaysInPlace x.replica) (opening_in_two v d) placed) same)
moves_placed c g _ _ h u w k b (group.recovers_cut at v d j m o) = one_placed g at _ u (λ q same. stopped_placed q same)
moves_placed c g _ _ h u w k b (group.migrates at v m o) = one_placed g at _ u (λ q same. stopped_placed q same)
moves_placed c g _ _ h u w k b (group.migrates_cut at v j m o) = one_placed g at _ u (λ q same. stopped_placed q same)

-- ---- what visits find

-- one that is at the end of its sequence numbers visits nothing
abbrev counted : ℕ → ℕ → ℕ
counted c d = cond (c == d) 0 1

none_made : (es : List Event) (r : Replica) (d : Lying) → is_spent r ≡ true → visits_made lying es r d ≡ 0
unfolding visits_made after_all
none_made [] r d t = refl
none_made (e ∷ es) r d t =
    let still = frozen_still lying e r d t in
    let one : counted r.cursor r.cursor ≡ 0 = ap (λ b. cond b 0 1) (eq-eqb r.cursor r.cursor refl) in
    let rest = none_made es r d t in
    subst (λ (x : Step). counted x.replica.cursor r.cursor + visits_made lying es x.replica (after_all lying d x.script) ≡ 0) (sym still) (omega (arith, rest, one))

covers : (r : Replica) (es : List Event) (d : Lying) → version r ≤ latest d.version → IsFitReplica r → StaysInPlace r → IsFace d.face → All IsEvent es
    → let end = after_events lying es r d in end.replica.checkpoint ≡ r.checkpoint → words.places end.replica ≤ visits_made lying es r d → KnowsFaults lying (λ (x : Lying). x.face) end.replica end.disk
covers r es d taken fit placed whole m same enough =
    let end = after_events lying es r d in
    elim (is_spent r) as (λ b. is_spent r ≡ b → KnowsFaults lying (λ (x : Lying). x.face) end.replica end.disk) [
      | true ↦ λ t. absurd (let none = none_made es r d t in omega (arith, none, enough))
      | false ↦ λ t. lying_covers es r d whole taken fit.sound fit.savable (laid_out r (placed t)) m same enough
    ] refl

all_cover : (c : ℕ) (g : Group) → IsFitGroup c g → AllInPlace g → AllCover g
all_cover c g h u = λ at m r es d there runs whole taken events same enough. (let fit = (h.members at m there).running r runs in covers r es d taken fit.0 (u at m r there runs) whole events same enough)

-- ---- runs

fresh_placed : (kinds : ℕ → Kind) (c n : ℕ) → AllInPlace (fresh_group kinds c n)
unfolding fresh_group
fresh_placed kinds c n at m r e i =
    let k = fresh_at kinds c n 0 n at m e in
    let same : Some (fresh (kinds (0 + at)) c n (0 + at)) ≡ Some r = ap (λ (y : Member). y.replica) k.0 ∙ i in
    runs_placed (fresh (kinds (0 + at)) c n (0 + at)) r (λ live. fresh_in_place (kinds (0 + at)) c n (0 + at)) same

fresh_given : (kinds : ℕ → Kind) (c n : ℕ) → AllGiven (fresh_group kinds c n)
unfolding fresh_group
fresh_given kinds c n number s e = absurd cc

run_covers : (c : ℕ) (g : Group) (run : List Played) → IsFitGroup c g → AllInPlace g → AllGiven g → All (λ p. IsFitMove p.move) run → All (λ p. IsOfBytes p.move) run → Run g run
    → All (λ (p : Played). AllCover p.before × AllCover p.moved.group) run
run_covers c g _ h u w k b (group.ended _) = All-nil _
run_covers c g _ h u w k b (group.goes _ move moved later m rest) =
    let p : Played = record { before = g; move = move; moved = moved } in
    let fit = All-head (λ (p : Played). IsFitMove p.move) p later k in
    let bytes = All-head (λ (p : Played). IsOfBytes p.move) p later b in
    let after = moves_placed c g move moved h u w fit bytes m in
    let fits = groups_fit.each c g move moved h fit m in
    All-cons (λ (p : Played). AllCover p.before × AllCover p.moved.group) p later (all_cover c g h u, all_cover c moved.group fits after)
    (run_covers c moved.group later fits after (moves_given g move moved w bytes m) (All-tail (λ (p : Played). IsFitMove p.move) p later k) (All-tail (λ (p : Played). IsOfBytes p.move) p later b) rest)

pub groups_cover : GroupsCover
groups_cover kinds c n run are l a z k b r = run_covers c (fresh_group kinds c n) run (fresh_group_fits kinds c n are l a z) (fresh_placed kinds c n) (fresh_given kinds c n) k b r
