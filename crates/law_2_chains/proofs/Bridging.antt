-- Each move of a group is a chain of the machine's moves.
use Rattle.std.proofs.Common.{ℕ, zero, suc, ◌+◌, ◌-◌, ◌%◌, ◌≤◌, ◌<◌, ◌≡◌, ◌≢◌, ◌∙◌, ◌⊎◌, inl, inr, arith, refl, sym, ap, subst, Bool, List, [], ◌∷◌, ◌++◌, length, take, drop, Option, Some, None}
use Rattle.std.specs.Prelude.{All, slice_get}
use Rattle.std.specs.Option.{option_map_or}
use Rattle.std.proofs.lemmas.Bool.{cases_lt, le-ltb, lt-ltb}
use Rattle.std.proofs.lemmas.List.{drop_all, take-append-drop, take_all, take-append-le, take-take}
use Rattle.std.proofs.Math.Seq.{take-append-add}
use Rattle.std.proofs.lemmas.List.Elements.{All-nil, All-cons, All-head, All-tail, All-append, All-weaker, All-contains}
use Rattle.vr_header.specs.declared.header.Header.{Header}
use Rattle.vr_header.specs.declared.part.Part.TheVariants.{Here}
use Rattle.vr_header.specs.Made.{Whole}
use Rattle.vr_msg.specs.declared.event.Event.{Event}
use Rattle.vr_msg.specs.declared.output.Committed.{Committed}
use Rattle.vr_msg.specs.declared.output.Output.{Output}
use Rattle.vr_msg.specs.declared.output.Output.TheVariants as output
use Rattle.vr_super.specs.Copies.{SuperValue}
use Rattle.vr_rules.specs.Replica.{Replica, part_at}
use Rattle.vr_rules.specs.Steps.{Effect, Write, outputs}
use Rattle.vr_world.specs.Commitment.{Stored}
use Rattle.vr_world.specs.Lying.{Lying, lying}
use Rattle.vr_rules.specs.Outputs.{messages}
use Rattle.vr_world.specs.Group as group
use Rattle.vr_world.specs.Group.{Arrival, Asked, Message, Time, IsArrival, Move, Moved, Movable, Moves, Opens, Played, Run, begins, carried_out, cut_after, cut_in_two, ends, keeps_all, made_by_effect, made_in, mended, migration, once_mended, opening_script, resumed, stepped, with_script}
use Rattle.vr_world.specs.GroupFit.{IsFitArrival, IsFitGroup, IsFitMember, IsFitMove}
use Rattle.vr_rules.specs.Own.{IsAt}
use Rattle.vr_rules.specs.Sound.{IsSound}
use Rattle.vr_world.specs.Storing.{done_in, here_in, in_view, stored_at, stored_by, stored_from}
use Rattle.vr_rules.specs.Fit.{MayCome, ReadsWell}
use Rattle.vr_rules.proofs.Slots.{value_is}
use Rattle.vr_rules.proofs.FitMessages.{asked_may_come}
use Rattle.vr_world.proofs.FitLies.{lies_fit}
use Rattle.vr_world.proofs.FitGroups.{good_value, groups_fit}
use Rattle.vr_rules.proofs.FitOpening.{headers_of}
use Rattle.vr_rules.proofs.SendsScripts.{outputs_append}
use Rattle.law_1_machine.specs.Basics.{In}
use Rattle.law_1_machine.specs.Group.{Group, Made, Member, made_at}
use Rattle.law_1_machine.specs.Laws.{Backed}
use Rattle.law_1_machine.specs.Members as machine
use Rattle.law_1_machine.specs.Members.{Choice}
use Rattle.law_2_chains.specs.Local.{Local, carried, WhereverCut}
use Rattle.law_2_chains.specs.Reflecting.{IsDisk, KeepsStored, Reflects, entries_by}
use Rattle.law_2_chains.specs.Chains.{Setup, IsBackedLine, IsReached, Every, AsksNothing, Mid, Stopped, Under, WasMade}
use Rattle.law_2_chains.specs.Finished.{AreBacked, Finished, IsSaid, IsTrue}
use Rattle.law_2_chains.specs.Tables.{Fits, HasTables, HasVouchedAt}
use Rattle.law_2_chains.specs.Begins.{Begins, as_it_was, one_made, with_made}
use Rattle.law_2_chains.specs.Choices.{ChainChooses, IsMadeFrom}
use Rattle.law_2_chains.specs.Openings.{MayBegin, keeping}
use Rattle.law_2_chains.specs.ChainLaws.{MayArrive}
use Rattle.law_2_chains.proofs.Finishing.{committed_more, sent_more, true_more}
use Rattle.law_2_chains.proofs.Grounds.{own_later}
use Rattle.law_2_chains.proofs.Holding.{holds_same, tables_hold}
use Rattle.law_2_chains.proofs.Lists.{all_made, at_place, at_set, in_every, made_append, set_place}
use Rattle.law_2_chains.proofs.Lone.{ended, saved_views, vouches_at_end}
use Rattle.law_2_chains.proofs.LoneSteps.{begins_held, in_order, none_stored}
use Rattle.law_2_chains.proofs.LoneEvents.{lone_react}
use Rattle.law_2_chains.proofs.Scripts.{carried_append, every_map}
use Rattle.law_2_chains.proofs.StoredLists.{contains_in, in_contains, in_parts, of_view, stored_is, stored_none, was_in}
use Rattle.law_2_chains.proofs.Sizes.{alone_or_several}
use Rattle.law_2_chains.proofs.Tabling.{in_left}
use Rattle.law_2_chains.proofs.Tallies.{tables_vouched, tallies_of}
use Rattle.law_2_chains.proofs.Repairs.{leads_is}
use Rattle.law_2_chains.proofs.Moving.{stops}
use Rattle.law_2_chains.proofs.Playing.{leaves, cut_at}
use Rattle.law_2_chains.proofs.Chained.{chain_react}
use Rattle.law_2_chains.proofs.Opening.{opens}
use Rattle.law_2_chains.proofs.Migrating.{Migrated, migrates}
use Rattle.law_2_chains.specs.Bridge.{Bridges, Chained, ChoosesWell, Follows, IsGround, IsMember, IsOwnVouch, IsRunning, IsSent, ServesWell}
use Rattle.law_2_chains.specs.Lone.{CountsNoMore, IsStored, LoneChooses, Vouched, counted_by, vouch_for}
use Rattle.std.proofs.lemmas.Option.{slice_get_within}

sent_told : (u : Setup) (before : List (machine.Message Header)) (a : Group Header) (os : List Output) → Every (IsTrue u before a.sent) os → All (IsSent u a) (messages os)
unfolding messages
sent_told u before a [] h = All-nil (IsSent u a)
sent_told u before a (output.Send w ∷ os) h = All-cons (IsSent u a) w (messages os) h.0.0 (sent_told u before a os h.1)
sent_told u before a (output.Commit c ∷ os) h = sent_told u before a os h.1
sent_told u before a (output.Reply r ∷ os) h = sent_told u before a os h.1
sent_told u before a (output.Choose c ∷ os) h = sent_told u before a os h.1
sent_told u before a (output.Wait w ∷ os) h = sent_told u before a os h.1
sent_told u before a (output.Start w ∷ os) h = sent_told u before a os h.1
sent_told u before a (output.Halted r ∷ os) h = sent_told u before a os h.1
sent_told u before a (output.Migrated r ∷ os) h = sent_told u before a os h.1
sent_told u before a (output.Done ∷ os) h = sent_told u before a os h.1
sent_told u before a (output.KeptOut ∷ os) h = sent_told u before a os h.1

-- ---- what a step begins with

-- the group in which it begins, beside the one before: at most one more entry was made, in a view of its primary's, and of the effects that
-- are carried out the first begins to write it
pub record Begun (u : Setup) (s : Group Header) (at : ℕ) (es : List Effect) (b : Group Header) : Type 0 where
  pub sent : b.sent ≡ s.sent
  pub chosen : b.chosen ≡ s.chosen
  pub members : (j : ℕ) → b.members j ≡ s.members j
  pub kept : (x : Made Header) → In x s.made → In x b.made
  pub made : (x : Made Header) → In x b.made → In x s.made ⊎ ((at ≡ x.view % u.quorums.n) × In x.entry (made_in es))
  pub few : length b.made ≤ length s.made + 1

begun_same : (u : Setup) (s : Group Header) (at : ℕ) (es : List Effect) → Begun u s at es s
begun_same u s at es = record { sent = refl; chosen = refl; members = λ j. refl; kept = λ x h. h; made = λ x h. inl h; few = omega arith }

first_made : (again : Bool) (e : Whole) (later : List Effect) (x : Header) → x ≡ e.header → In x (made_in (Write again e ∷ later))
unfolding made_in
first_made again e later x same = inl same

pub begun_of : (u : Setup) (s : Group Header) (at : ℕ) (es : List Effect) (b : Group Header) → Begins u s at es b → Begun u s at es b
begun_of u s at es _ as_it_was = begun_same u s at es
begun_of u s at es _ (one_made again e later is first new) = record {
  sent = refl;
  chosen = refl;
  members = λ j. refl;
  kept = λ x h. inr h;
  made = λ x h. elim h [
    | inr old ↦ inl old
    | inl one ↦ inr (first ∙ ap (λ v. v % u.quorums.n) (sym (ap (λ (z : Made Header). z.view) one)), subst (λ ys. In x.entry (made_in ys)) (sym is) (first_made again e later x.entry (ap (λ (z : Made Header). z.entry) one)))
  ];
  few = omega arith;
}

take_first : (k : ℕ) (again : Bool) (e : Whole) (later : List Effect) → take (k + 1) (Write again e ∷ later) ≡ Write again e ∷ take k later
take_first k again e later = let n : k + 1 ≡ suc k = omega arith in ap (λ (j : ℕ). take j (Write again e ∷ later)) n

-- the same, of its first effects
begun_cut : (u : Setup) (s : Group Header) (at k : ℕ) (es : List Effect) (b : Group Header) → Begins u s at es b → Begun u s at (take (k + 1) es) b
begun_cut u s at k es _ as_it_was = begun_same u s at (take (k + 1) es)
begun_cut u s at k es _ (one_made again e later is first new) =
    begun_of u s at (take (k + 1) es) (with_made e.header s) (one_made again e (take k later) (ap (λ (ys : List Effect). take (k + 1) ys) is ∙ take_first k again e later) first new)

-- ---- what it puts something out by

-- The group from which a member goes on, beside the one before the move: it may have vouched for what it has stored, where it is a group by
-- itself, by the first of its effects; of those that are carried out the first may have begun to write what was made.
record Grounded (u : Setup) (g : group.Group) (s : Group Header) (at : ℕ) (es first : List Effect) (b : Group Header) : Type 0 where
  ground : IsGround u g first s b
  chosen : (c : Choice Header) → In c s.chosen → In c b.chosen
  members : (j : ℕ) → j ≢ at → b.members j ≡ s.members j
  kept : (x : Made Header) → In x s.made → In x b.made
  made : (x : Made Header) → In x b.made → In x s.made ⊎ ((at ≡ x.view % u.quorums.n) × In x.entry (made_in es))
  few : length b.made ≤ length s.made + 1

ground_of : (u : Setup) (g : group.Group) (s : Group Header) (at : ℕ) (es : List Effect) (b : Group Header) → Begun u s at es b → Grounded u g s at es [] b
ground_of u g s at es b x = record {
  ground = record { before = λ m h. subst (In m) (sym x.sent) h; own = λ m h. inl (subst (In m) x.sent h); several = λ few. x.sent };
  chosen = λ c h. subst (In c) (sym x.chosen) h;
  members = λ j n. x.members j;
  kept = x.kept;
  made = x.made;
  few = x.few;
}

-- the vouch of the replica that is a group by itself for what counts
own_vouch : (u : Setup) → u.quorums.n ≡ 1 → (g : group.Group) (at : ℕ) (m : group.Member) (r : Replica) → slice_get g.members at ≡ Some m → m.replica ≡ Some r → at ≡ 0 → m.last ≡ r.saved → (es : List Effect) (z : machine.Message Header)
    → (x : Stored) × In x (counted_by r es) × (z ≡ vouch_for at x) → IsOwnVouch u g es z
own_vouch u alone g at m r there runs lowest last es z x = record {
  alone = alone;
  stored = x.0;
  counts = in_contains x.0 (stored_from g es) (subst (In x.0) (sym (stored_is g m r es (subst (λ k. slice_get g.members k ≡ Some m) lowest there) runs last)) x.1);
  is = x.2 ∙ ap (λ k. vouch_for k x.0) lowest;
}

-- where a replica that is a group by itself has vouched in between
module _ (u : Setup) (alone : u.quorums.n ≡ 1) (g : group.Group) (s : Group Header) (at : ℕ) (es first : List Effect) (m : group.Member) (r : Replica) (runs : group.Runs g at m r) (lowest : at ≡ 0) (last : m.last ≡ r.saved) where
  ground_vouched : (q : Replica) (l : Local) (b c d : Group Header) → ((z : machine.Message Header) → IsStored at q z → (x : Stored) × In x (counted_by r first) × (z ≡ vouch_for at x)) → Begun u s at es b → Under u b at l c → Vouched at q c d
      → Grounded u g s at es first d
  ground_vouched q l b c d held x y v =
      let made : d.made ≡ b.made = v.made ∙ y.none_made in
      let sent : (z : machine.Message Header) → In z c.sent → In z s.sent = λ z h. subst (In z) (y.sent ∙ x.sent) h in
      record {
        ground = record {
          before = λ z h. v.kept z (subst (In z) (sym (y.sent ∙ x.sent)) h);
          own = λ z h. elim (v.only z h) [ inl old ↦ inl (sent z old) | inr new ↦ inr (own_vouch u alone g at m r runs.member runs.running lowest last first z (held z new)) ];
          several = λ few. absurd (omega arith);
        };
        chosen = λ k h. subst (In k) (sym v.chosen) (y.chosen k (subst (In k) (sym x.chosen) h));
        members = λ j n. ap (λ f. f j) v.members ∙ (y.others j n ∙ x.members j);
        kept = λ k h. subst (In k) (sym made) (x.kept k h);
        made = λ k h. x.made k (subst (In k) made h);
        few = let few = x.few in subst (λ (ys : List (Made Header)). length ys ≤ length s.made + 1) (sym made) few;
      }

-- ---- one member moved

module _ (u : Setup) (g : group.Group) (s : Group Header) (bridge : Bridges u g s) (fit : IsFitGroup u.cluster g) (at : ℕ) (es first : List Effect) (b : Group Header) (begun : Grounded u g s at es first b) (a : Group Header)
    (reached : IsReached u a) (others : (j : ℕ) → j ≢ at → a.members j ≡ b.members j) (sent_b : (m : machine.Message Header) → In m b.sent → In m a.sent) (chosen_b : (c : Choice Header) → In c b.chosen → In c a.chosen) (same_made : a.made ≡ b.made) where
  sent : (m : machine.Message Header) → In m s.sent → In m a.sent
  sent m h = sent_b m (begun.ground.before m h)

  chosen : (c : Choice Header) → In c s.chosen → In c a.chosen
  chosen c h = chosen_b c (begun.chosen c h)

  kept : (x : Made Header) → In x s.made → In x a.made
  kept x h = subst (In x) (sym same_made) (begun.kept x h)

  made : (x : Made Header) → In x a.made → In x s.made ⊎ ((at ≡ x.view % u.quorums.n) × In x.entry (made_in es))
  made x h = begun.made x (subst (In x) same_made h)

  vouched : (v k j : ℕ) → HasVouchedAt u s v k j → HasVouchedAt u a v k j
  vouched v k j x = (x.0, elim x.1 [ inl c ↦ inl (sent _ c) | inr d ↦ inr (d.0, (d.1.0, sent _ d.1.1)) ])

  -- the tables of another member: what is made is made in another view than its own
  tables_other : (j ed : ℕ) (r : Replica) → j ≢ at → IsAt u.cluster g.n j ed r → HasTables u s j r → HasTables u a j r
  tables_other j ed r other is h frozen =
      let t = h frozen in
      record {
        acks = λ l k i above has. let x = t.acks l k i above has in (x.0, x.1, vouched r.view k i x.2);
        own = λ l k e above here. vouched r.view k j (t.own l k e above here);
        top = λ l k e above it. elim (made (made_at r.view k e) it) [
          | inl old ↦ t.top l k e above old
          | inr mine ↦ absurd (other (sym is.index ∙ ((leads_is r l).1 ∙ (ap (λ n. r.view % n) (is.n ∙ bridge.size) ∙ sym mine.0))))
        ];
        stated = λ i z e. sent _ (t.stated i z e);
      }

  member_other : (j : ℕ) (m : group.Member) → j ≢ at → IsFitMember u.cluster g.n j m → IsMember u s j m → IsMember u a j m
  member_other j m other f x =
      let same : a.members j ≡ s.members j = others j other ∙ begun.members j other in
      record {
        disk = subst (IsDisk m) (sym same) x.disk;
        running = λ r e.
            let y = x.running r e in
            record { memory = y.memory; running = ap (λ (z : Member Header). z.memory) same ∙ y.running; reflects = y.reflects; stored = y.stored; tables = tables_other j m.last.fields.version r other (f.running r e).1 y.tables; vouched = λ alone views k h above here. sent _ (y.vouched alone views k h above here) };
        stopped = λ e. ap (λ (z : Member Header). z.memory) same ∙ x.stopped e;
      }

  bridged : (m : group.Member) (said : List Output) → IsMember u a at m → All (IsSent u a) (messages said) → All (WasMade a.made) (made_in es) → Bridges u (with_script g at m es said).group a
  bridged m said x told wrote = record {
    reached = reached;
    size = bridge.size;
    members = λ j y e. elim (set_place g.members at j m y e) [
      | inl p ↦ subst (λ k. IsMember u a k y) p.0 (subst (IsMember u a at) p.1 x)
      | inr q ↦ member_other j y q.0 (fit.members j y q.1) (bridge.members j y q.1)
    ];
    sent = All-append (IsSent u a) g.sent (messages said) (All-weaker (IsSent u s) (IsSent u a) (λ w h. sent_more u s.sent a.sent sent w.message h) g.sent bridge.sent) told;
    made = All-append (WasMade a.made) g.made (made_in es) (All-weaker (WasMade s.made) (WasMade a.made) (λ h i. kept _ i) g.made bridge.made) wrote;
  }

-- ---- to the end, and stopped

few_made : (s b a : Group Header) → length b.made ≤ length s.made + 1 → a.made ≡ b.made → length a.made ≤ length s.made + 1
few_made s b a l same = subst (λ (xs : List (Made Header)). length xs ≤ length s.made + 1) (sym same) l

-- the end of a move: that of its script, or where the replica, a group by itself, has vouched once more
record EndsSo (u : Setup) (b : Group Header) (i : ℕ) (r : Replica) (l : Local) (a : Group Header) : Type 0 where
  reached : IsReached u a
  others : (j : ℕ) → j ≢ i → a.members j ≡ b.members j
  disk : IsDisk l.member (a.members i)
  made : Every (WasMade a.made) l.made
  none_made : a.made ≡ b.made
  memory : machine.Memory Header
  running : (a.members i).memory ≡ Some memory
  reflects : Reflects r memory
  stored : KeepsStored r l.member
  kept : (m : machine.Message Header) → In m b.sent → In m a.sent
  chosen : (c : Choice Header) → In c b.chosen → In c a.chosen
  told : Every (IsTrue u b.sent a.sent) l.said
  only : (m : machine.Message Header) → In m a.sent → In m b.sent ⊎ (IsSaid u l.said m ⊎ ((u.quorums.n ≡ 1) × ((x : Stored) × In x (counted_by r []) × (m ≡ vouch_for i x))))
  vouched : u.quorums.n ≡ 1 → r.view ≡ r.log_view → (k : ℕ) (h : Header) → r.checkpoint < k → part_at r k ≡ Here h → In (machine.Prepare_ok i r.view k h) a.sent
  lowest : u.quorums.n ≡ 1 → i ≡ 0

ends_of : (u : Setup) → 2 ≤ u.quorums.n → (b : Group Header) (i : ℕ) (r : Replica) (l : Local) (a : Group Header) → Finished u b i r l a → EndsSo u b i r l a
ends_of u several b i r l a x = record {
  reached = x.reached;
  others = x.others;
  disk = x.disk;
  made = x.made;
  none_made = x.none_made;
  memory = x.memory;
  running = x.running;
  reflects = x.reflects;
  stored = x.stored;
  kept = x.kept;
  chosen = x.chosen;
  told = x.told;
  only = λ m h. elim (x.only m h) [ inl old ↦ inl old | inr new ↦ inr (inl new) ];
  vouched = λ alone. absurd (omega arith);
  lowest = λ alone. absurd (omega arith);
}

ends_vouched : (u : Setup) → u.quorums.n ≡ 1 → (b : Group Header) (i : ℕ) (r : Replica) (l : Local) (c a : Group Header) → Finished u b i r l c → IsReached u a → Vouched i r c a → EndsSo u b i r l a
ends_vouched u alone b i r l c a x reached v = record {
  reached = reached;
  others = λ j n. ap (λ f. f j) v.members ∙ x.others j n;
  disk = subst (λ f. IsDisk l.member (f i)) (sym v.members) x.disk;
  made = subst (λ z. Every (WasMade z) l.made) (sym v.made) x.made;
  none_made = v.made ∙ x.none_made;
  memory = x.memory;
  running = ap (λ f. (f i).memory) v.members ∙ x.running;
  reflects = x.reflects;
  stored = x.stored;
  kept = λ m h. v.kept m (x.kept m h);
  chosen = λ k h. subst (In k) (sym v.chosen) (x.chosen k h);
  told = every_map (IsTrue u b.sent c.sent) (IsTrue u b.sent a.sent) l.said (true_more u b.sent c.sent a.sent v.kept) x.told;
  only = λ m h. elim (v.only m h) [
    | inl old ↦ elim (x.only m old) [ inl older ↦ inl older | inr said ↦ inr (inl said) ]
    | inr new ↦ inr (inr (alone, begins_held u c i r (record l { said = [] }) (ended u b i r l c x) tt [] m new))
  ];
  vouched = λ one. v.all;
  lowest = λ one. let member = x.sound.member in let place = x.place in let size = x.size in omega arith;
}

-- what is put out of a script rests on what was sent, and of its first effects no more is put out
line_true : (u : Setup) (b a : List (machine.Message Header)) (os : List Output) → Every (IsTrue u b a) os → (c : Committed) → In (output.Commit c) os → IsBackedLine u b c.entry.header
line_true u b a os told c j = in_every (IsTrue u b a) os (output.Commit c) j told

line_more : (u : Setup) (b a : List (machine.Message Header)) → ((m : machine.Message Header) → In m b → In m a) → (h : Header) → IsBackedLine u b h → IsBackedLine u a h
line_more u b a f h x =
    let y = x.is in
    record { view = x.view; number = x.number; is = (y.0, y.1, committed_more u.quorums (entries_by u.hash u.cluster) b a f y.0 x.number h y.2) }

outputs_take : (k : ℕ) (es : List Effect) (o : Output) → In o (outputs (take k es)) → In o (outputs es)
outputs_take k es o h = subst (λ (fs : List Effect). In o (outputs fs)) (take-append-drop k es) (subst (In o) (sym (outputs_append (take k es) (drop k es))) (in_left o (outputs (take k es)) (outputs (drop k es)) h))

-- the commit number at the end of a step
serves_at : (u : Setup) (b : Group Header) (i : ℕ) (r : Replica) (l : Local) (a : Group Header) → Finished u b i r l a → AreBacked u b.sent r.log_view r.commit
serves_at u b i r l a x k z n = subst (λ v. (y : Header) × Backed u.quorums (entries_by u.hash u.cluster) b.sent v k y) x.reflects.log_view (x.served k z (let c = x.reflects.commit in omega arith))

-- what was sent before the move, or in it
abbrev Covers : Setup → group.Group → Move → List Effect → Group Header → Type 0
Covers u g move es b = u.quorums.n ≡ 1 → (x : Stored) → In x (stored_from g (done_in move es)) → In (vouch_for 0 x) b.sent

module _ (u : Setup) (g : group.Group) (s : Group Header) (bridge : Bridges u g s) (fit : IsFitGroup u.cluster g) (at : ℕ) (es first second : List Effect) (b : Group Header) (begun : Grounded u g s at es first b) (move : Move)
    (parts : done_in move es ≡ first ++ second) (silent : Every AsksNothing (outputs first)) (covers : Covers u g move es b) where
  ends_chained : (at < length g.members) → (q : Replica) (m : group.Member) (l : Local) (a : Group Header) (x : EndsSo u b at q l a) → l.member ≡ m → l.made ≡ made_in es → l.said ≡ outputs es → HasTables u a at q
      → ChoosesWell g move a.chosen (outputs es) → ServesWell u g move b.sent → Chained u s a (record { before = g; move = move; moved = with_script g at (record m { replica = Some q }) es (outputs es) })
  ends_chained there q m l a x member_is made_is said_is tables well serves =
      let disk : IsDisk m (a.members at) = subst (λ y. IsDisk y (a.members at)) member_is x.disk in
      let stored : KeepsStored q m = subst (KeepsStored q) member_is x.stored in
      let told : Every (IsTrue u b.sent a.sent) (outputs es) = subst (Every (IsTrue u b.sent a.sent)) said_is x.told in
      let m' : group.Member = record m { replica = Some q } in
      let run : IsRunning u a at m' q = record { memory = x.memory; running = x.running; reflects = x.reflects; stored = stored; tables = tables; vouched = x.vouched } in
      let new : IsMember u a at m' = record {
        disk = record { last = disk.last; under = disk.under; slots = disk.slots; size = disk.size };
        running = λ p e. (let same : q ≡ p = cc in subst (IsRunning u a at m') same run);
        stopped = λ e. absurd cc;
      } in
      record {
        bridges = bridged u g s bridge fit at es first b begun a x.reached x.others x.kept x.chosen x.none_made m' (outputs es) new (sent_told u b.sent a (outputs es) told) (all_made (WasMade a.made) (made_in es) (subst (Every (WasMade a.made)) made_is x.made));
        sent = sent u g s bridge fit at es first b begun a x.reached x.others x.kept x.chosen x.none_made;
        chosen = chosen u g s bridge fit at es first b begun a x.reached x.others x.kept x.chosen x.none_made;
        first = first;
        second = second;
        parts = parts;
        silent = silent;
        ground = b;
        grounds = begun.ground;
        told = told;
        served = serves;
        lines = λ c j. line_more u b.sent a.sent x.kept c.entry.header (line_true u b.sent a.sent (outputs es) told c j);
        only = λ y h. elim (x.only y h) [
          | inl old ↦ elim (begun.ground.own y old) [ inl older ↦ inl older | inr own ↦ inr (inr (inl (own_later u g first second (done_in move es) y parts own))) ]
          | inr new ↦ elim new [
            | inl said ↦ inr (inl (subst (λ os. IsSaid u os y) said_is said))
            | inr own ↦ inr (inr (inr (own_vouch u own.0 (with_script g at m' es (outputs es)).group at m' q (at_set g.members at m' there) refl (x.lowest own.0) stored.1 [] y own.1)))
          ]
        ];
        counted = λ alone z h. x.kept _ (covers alone z (contains_in z (stored_from g (done_in move es)) h));
        made = λ y h. elim (begun.made y (subst (In y) x.none_made h)) [ inl old ↦ inl old | inr new ↦ inr new.1 ];
        few = few_made s b a begun.few x.none_made;
        choices = well;
      }

  stops_chained : (m : group.Member) (l : Local) (x : Stopped u b at l) → l.member ≡ m → l.made ≡ made_in es → ChoosesWell g move x.group.chosen [] → ServesWell u g move b.sent → ((c : Committed) → In (output.Commit c) (outputs es) → IsBackedLine u b.sent c.entry.header)
      → Chained u s x.group (record { before = g; move = move; moved = with_script g at (record m { replica = None }) es [] })
  unfolding messages
  stops_chained m l x member_is made_is well serves backed =
      let y = x.under in
      let a : Group Header = x.group in
      let disk : IsDisk m (a.members at) = subst (λ z. IsDisk z (a.members at)) member_is y.disk in
      let m' : group.Member = record m { replica = None } in
      let still : (z : machine.Message Header) → In z b.sent → In z a.sent = λ z h. subst (In z) (sym y.sent) h in
      let new : IsMember u a at m' = record {
        disk = record { last = disk.last; under = disk.under; slots = disk.slots; size = disk.size };
        running = λ p e. absurd cc;
        stopped = λ e. x.still;
      } in
      record {
        bridges = bridged u g s bridge fit at es first b begun a y.reached y.others still y.chosen y.none_made m' [] new (All-nil (IsSent u a)) (all_made (WasMade a.made) (made_in es) (subst (Every (WasMade a.made)) made_is y.made));
        sent = sent u g s bridge fit at es first b begun a y.reached y.others still y.chosen y.none_made;
        chosen = chosen u g s bridge fit at es first b begun a y.reached y.others still y.chosen y.none_made;
        first = first;
        second = second;
        parts = parts;
        silent = silent;
        ground = b;
        grounds = begun.ground;
        told = tt;
        served = serves;
        lines = λ c j. line_more u b.sent a.sent still c.entry.header (backed c j);
        only = λ z h. elim (begun.ground.own z (subst (In z) y.sent h)) [ inl old ↦ inl old | inr own ↦ inr (inr (inl (own_later u g first second (done_in move es) z parts own))) ];
        counted = λ alone z h. still _ (covers alone z (contains_in z (stored_from g (done_in move es)) h));
        made = λ z h. elim (begun.made z (subst (In z) y.none_made h)) [ inl old ↦ inl old | inr new ↦ inr new.1 ];
        few = few_made s b a begun.few y.none_made;
        choices = well;
      }

-- ---- the moves

begins_nothing : (k : ℕ) (es : List Effect) (m : group.Member) → length es ≤ k → (cut_after k es m ≡ carried_out es m) × (take (k + 1) es ≡ es)
begins_nothing k es m l = (rw (drop_all k es l, take_all k es l) refl, take_all (k + 1) es (omega arith))

-- a cut, or a stop at the end, of effects that can be cut
record CutSo (P : Local → Type 0) (k : ℕ) (es : List Effect) (l : Local) : Type 0 where
  left : Local
  stopped : P left
  member : left.member ≡ cut_after k es l.member
  made : left.made ≡ l.made ++ made_in (take (k + 1) es)

cut_so : (P : Local → Type 0) (k : ℕ) (es : List Effect) (l : Local) → WhereverCut P es l → P (carried es l) → CutSo P k es l
cut_so P k es l cuts end =
    elim (cases_lt k (length es)) [
      | inl within ↦ let c = cut_at P es l k within cuts in record { left = c.left; stopped = c.holds; member = c.member; made = c.made }
      | inr past ↦
          let n = begins_nothing k es l.member past in
          let y = leaves es l in
          record { left = carried es l; stopped = end; member = y.member ∙ sym n.0; made = y.made ∙ ap (λ (ys : List Effect). l.made ++ made_in ys) (sym n.1) }
    ]

-- a cut among the first effects, and one after them
cut_front : (k : ℕ) (xs ys : List Effect) (m : group.Member) → k < length xs → cut_after k (xs ++ ys) m ≡ cut_after k xs m
unfolding carried_out
cut_front k [] ys m l = absurd (omega arith)
cut_front zero (e ∷ xs) ys m l = refl
cut_front (suc k) (e ∷ xs) ys m l = cut_front k xs ys (ends e (begins e m)) (omega arith)

cut_behind : (k n : ℕ) (xs ys : List Effect) (m : group.Member) → n ≡ length xs + k → cut_after n (xs ++ ys) m ≡ cut_after k ys (carried_out xs m)
unfolding carried_out
cut_behind k n [] ys m is = let same : n ≡ k = omega arith in ap (λ (j : ℕ). cut_after j ys m) same
cut_behind k zero (e ∷ xs) ys m is = absurd (omega arith)
cut_behind k (suc n) (e ∷ xs) ys m is = cut_behind k n xs ys (ends e (begins e m)) (omega arith)

-- the effects that were finished, of those that were begun
done_of : (k : ℕ) (xs : List Effect) → take k (take (k + 1) xs) ≡ take k xs
done_of k xs = take-take k (k + 1) xs (omega arith)

none_said : Every AsksNothing (outputs [])
unfolding outputs
none_said = tt

none_counted : (r : Replica) (x : Stored) → In x (counted_by r []) → In x (in_view r.saved (here_in r))
unfolding stored_by
none_counted r x h = elim (in_parts x (in_view r.saved (here_in r)) [] h) [ inl it ↦ it | inr none ↦ absurd none ]

-- a member at the beginning of a step
abbrev pub local : group.Member → Local
local m = record { member = m; made = []; said = [] }

module _ (u : Setup) (fits : Fits u) (hash : u.hash ≡ lying.hash) (g : group.Group) (s : Group Header) (fit : IsFitGroup u.cluster g) (bridge : Bridges u g s) where
  -- a running member in the machine
  pub mid_of : (at : ℕ) (m : group.Member) (r : Replica) → slice_get g.members at ≡ Some m → m.replica ≡ Some r → Mid u s at r (local m) s
  mid_of at m r there runs =
      let x = bridge.members at m there in
      let y = x.running r runs in
      let f = (fit.members at m there).running r runs in
      record {
        under = record { reached = bridge.reached; sent = refl; chosen = λ c h. h; others = λ j n. refl; disk = x.disk; made = tt; none_made = refl };
        memory = y.memory;
        running = y.running;
        reflects = y.reflects;
        sound = f.0.sound;
        place = f.1.index;
        size = f.1.n ∙ bridge.size;
        stored = y.stored;
        ready = tt;
      }

  -- what counts when the move begins the only member of a group has vouched for before
  begin_vouched : u.quorums.n ≡ 1 → (at : ℕ) (m : group.Member) (r : Replica) → slice_get g.members at ≡ Some m → m.replica ≡ Some r → (x : Stored) → In x (in_view r.saved (here_in r)) → In (vouch_for at x) s.sent
  begin_vouched alone at m r there runs x h =
      let y = (bridge.members at m there).running r runs in
      let sound : IsSound r = ((fit.members at m there).running r runs).0.sound in
      let is = saved_views u s s at r (local m) (mid_of at m r there runs) in
      let z = of_view r.saved (here_in r) x h in
      let was = was_in r sound x.header z.2 in
      subst (λ (v : ℕ). In (machine.Prepare_ok at v x.header.op x.header) s.sent) (sym (z.1 ∙ is.0)) (y.vouched alone (sym is.0 ∙ (z.0 ∙ is.1)) x.header.op x.header was.0 was.1)

  before_running : u.quorums.n ≡ 1 → (m : group.Member) → slice_get g.members 0 ≡ Some m → (o : Option Replica) → m.replica ≡ o → (x : Stored) → In x (stored_from g []) → In (vouch_for 0 x) s.sent
  before_running alone m there None is x h = absurd (subst (In x) (stored_none g m [] there is) h)
  before_running alone m there (Some r) is x h =
      let y = (bridge.members 0 m there).running r is in
      begin_vouched alone 0 m r there is x (none_counted r x (subst (In x) (stored_is g m r [] there is y.stored.1) h))

  before_vouched : u.quorums.n ≡ 1 → (o : Option group.Member) → slice_get g.members 0 ≡ o → (x : Stored) → In x (stored_from g []) → In (vouch_for 0 x) s.sent
  before_vouched alone None is x h = absurd (subst (λ (p : Option group.Member). In x (option_map_or (λ (n : group.Member). stored_at n []) p [])) is h)
  before_vouched alone (Some m) is x h = before_running alone m is m.replica refl x h

  -- and for what comes to count by then
  part_vouched : u.quorums.n ≡ 1 → (at : ℕ) (m : group.Member) (r : Replica) → slice_get g.members at ≡ Some m → m.replica ≡ Some r → at ≡ 0 → (es first : List Effect) (b : Group Header) → CountsNoMore r es first
      → ((z : machine.Message Header) → In z s.sent → In z b.sent) → ((x : Stored) → In x (stored_by r.saved (here_in r) first) → In (vouch_for at x) b.sent) → (x : Stored) → In x (stored_from g es) → In (vouch_for 0 x) b.sent
  part_vouched alone at m r there runs lowest es first b no_more kept counted x h =
      let y = (bridge.members at m there).running r runs in
      let it = no_more x (subst (In x) (stored_is g m r es (subst (λ k. slice_get g.members k ≡ Some m) lowest there) runs y.stored.1) h) in
      subst (λ k. In (vouch_for k x) b.sent) lowest (elim (in_parts x (in_view r.saved (here_in r)) (stored_by r.saved (here_in r) first) it) [
        | inl old ↦ kept _ (begin_vouched alone at m r there runs x old)
        | inr new ↦ counted x new
      ])

  -- the place of the only member
  place_of : u.quorums.n ≡ 1 → (at : ℕ) (m : group.Member) (r : Replica) → slice_get g.members at ≡ Some m → m.replica ≡ Some r → at ≡ 0
  place_of alone at m r there runs =
      let x = mid_of at m r there runs in
      let member = x.sound.member in
      let place = x.place in
      let size = x.size in
      omega arith

  arrives : (at : ℕ) (a : Arrival) (e : Event) → IsFitArrival a → IsArrival g at a e → MayArrive u s e
  arrives at (Asked q) e h i = rw i.1 (asked_may_come q i.0 h)
  arrives at (Message number) e h i = rw i.3 (at_place MayCome g.sent number i.0 fit.sent i.1, at_place (IsSent u s) g.sent number i.0 bridge.sent i.1)
  arrives at Time e h i = rw i tt

  -- one replica runs at a place
  same_runs : (at : ℕ) (m m2 : group.Member) (r r2 : Replica) → slice_get g.members at ≡ Some m → m.replica ≡ Some r → group.Runs g at m2 r2 → r ≡ r2
  same_runs at m m2 r r2 there runs other =
      let two : Some m ≡ Some m2 = sym there ∙ other.member in
      let one : m ≡ m2 = cc in
      let rs : Some r ≡ Some r2 = sym runs ∙ (ap (λ (z : group.Member). z.replica) one ∙ other.running) in
      cc

  pub chain_of : 2 ≤ u.quorums.n → (at : ℕ) (a : Arrival) (e : Event) (d : Lying) (m : group.Member) (r : Replica) → slice_get g.members at ≡ Some m → m.replica ≡ Some r → IsFitArrival a → IsArrival g at a e
      → ChainChooses u s at (local m) e r (stepped e r d)
  chain_of several at a e d m r there runs h i =
      let f = (fit.members at m there).running r runs in
      chain_react u fits several s at lying r d (local m) (mid_of at m r there runs) ((bridge.members at m there).running r runs).tables (sym hash) f.1.cluster lies_fit.names f.0.savable.top tt e (arrives at a e h i)

  -- of a group of one
  lone_of : u.quorums.n ≡ 1 → (at : ℕ) (a : Arrival) (e : Event) (d : Lying) (m : group.Member) (r : Replica) → slice_get g.members at ≡ Some m → m.replica ≡ Some r → IsFitArrival a → IsArrival g at a e
      → LoneChooses u s at (local m) e r (stepped e r d)
  lone_of alone at a e d m r there runs h i =
      let f = (fit.members at m there).running r runs in
      lone_react u fits alone s at lying r d (local m) (mid_of at m r there runs) (sym hash) f.1.cluster lies_fit.names f.0.savable.top tt ((bridge.members at m there).running r runs).tables e (arrives at a e h i)

  abbrev StepsSo : ℕ → Arrival → Event → Lying → group.Member → Replica → Type 0
  StepsSo at a e d m r = (z : Group Header) × Chained u s z (record { before = g; move = group.Steps at a e d; moved = group.finished g at m (stepped e r d) })

  steps_several : 2 ≤ u.quorums.n → (at : ℕ) (a : Arrival) (e : Event) (d : Lying) (m : group.Member) (r : Replica) → slice_get g.members at ≡ Some m → m.replica ≡ Some r → IsFitArrival a → IsArrival g at a e → StepsSo at a e d m r
  steps_several several at a e d m r there runs h i =
      let w = chain_of several at a e d m r there runs h i in
      let c = w.chain in
      let x = stepped e r d in
      let y = leaves x.script (local m) in
      let l : Local = carried x.script (local m) in
      let well : ChoosesWell g (group.Steps at a e d) c.finishes.after.chosen (outputs x.script) = λ m2 r2 other line j. subst (λ (q : Replica). IsMadeFrom c.finishes.after.chosen e q line) (same_runs at m m2 r r2 there runs other) (w.choices line j) in
      let serves : ServesWell u g (group.Steps at a e d) c.begun.sent =
      λ m2 r2 other. subst (λ (q : Replica). AreBacked u c.begun.sent (stepped e q d).replica.log_view (stepped e q d).replica.commit) (same_runs at m m2 r r2 there runs other) (serves_at u c.begun at x.replica l c.finishes.after c.finishes.ends) in (
        c.finishes.after,
        ends_chained u g s bridge fit at x.script [] x.script c.begun (ground_of u g s at x.script c.begun (begun_of u s at x.script c.begun c.begins)) (group.Steps at a e d) refl none_said (λ alone. absurd (omega arith)) (slice_get_within g.members at m there) x.replica (carried_out x.script m) l c.finishes.after
            (ends_of u several c.begun at x.replica l c.finishes.after c.finishes.ends) y.member y.made y.said c.tables well serves,
      )

  steps_alone : u.quorums.n ≡ 1 → (at : ℕ) (a : Arrival) (e : Event) (d : Lying) (m : group.Member) (r : Replica) → slice_get g.members at ≡ Some m → m.replica ≡ Some r → IsFitArrival a → IsArrival g at a e → StepsSo at a e d m r
  steps_alone alone at a e d m r there runs h i =
      let w = lone_of alone at a e d m r there runs h i in
      let c = w.chain in
      let x = stepped e r d in
      let y = leaves x.script (local m) in
      let l : Local = carried x.script (local m) in
      let ends : Finished u c.ground at x.replica l c.finishes.after = rw (c.script, c.replica, carried_append c.first.script c.second.script (local m)) c.finishes.ends in
      let runs_there : group.Runs g at m r = record { member = there; running = runs } in
      let first : List Effect = c.first.script in
      let second : List Effect = c.second.script in
      let lowest = place_of alone at m r there runs in
      let stored = ((bridge.members at m there).running r runs).stored in
      let grounded = ground_vouched u alone g s at x.script first m r runs_there lowest stored.1 c.first.replica (carried first (local m)) c.begun c.goes.after c.ground c.held (begun_of u s at x.script c.begun c.begins) c.goes.ends.under c.grounds in
      let no_more : CountsNoMore r x.script first = subst (λ (fs : List Effect). CountsNoMore r fs first) (ap (λ (fs : List Effect). first ++ fs) (take_all (length second) second (omega arith)) ∙ sym c.script) (c.late (length second)) in
      let covers : Covers u g (group.Steps at a e d) x.script c.ground = λ one. part_vouched alone at m r there runs lowest x.script first c.ground no_more grounded.ground.before c.counted in
      let quiet : Every AsksNothing (outputs first) = subst (Every AsksNothing) (leaves first (local m)).said c.silent in
      let well : ChoosesWell g (group.Steps at a e d) c.after.chosen (outputs x.script) = λ m2 r2 other line j. subst (λ (q : Replica). IsMadeFrom c.after.chosen e q line) (same_runs at m m2 r r2 there runs other) (w.choices line j) in
      let serves : ServesWell u g (group.Steps at a e d) c.ground.sent =
      λ m2 r2 other. subst (λ (q : Replica). AreBacked u c.ground.sent (stepped e q d).replica.log_view (stepped e q d).replica.commit) (same_runs at m m2 r r2 there runs other) (serves_at u c.ground at x.replica l c.finishes.after ends) in (
        c.after,
        ends_chained u g s bridge fit at x.script first second c.ground grounded (group.Steps at a e d) c.script quiet covers (slice_get_within g.members at m there) x.replica (carried_out x.script m) l c.after (ends_vouched u alone c.ground at x.replica l c.finishes.after c.after ends c.reached c.vouches) y.member y.made y.said
            c.tables well serves,
      )

  steps_so : (at : ℕ) (a : Arrival) (e : Event) (d : Lying) (m : group.Member) (r : Replica) → slice_get g.members at ≡ Some m → m.replica ≡ Some r → IsFitArrival a → IsArrival g at a e → StepsSo at a e d m r
  steps_so at a e d m r there runs h i = elim (alone_or_several u fits) [ inl alone ↦ steps_alone alone at a e d m r there runs h i | inr several ↦ steps_several several at a e d m r there runs h i ]

  abbrev CutsSo : ℕ → Arrival → Event → Lying → ℕ → group.Member → Replica → Type 0
  CutsSo at a e d k m r = (z : Group Header) × Chained u s z (record { before = g; move = group.Cuts at a e d k; moved = group.cut_short g at m (stepped e r d) k })

  cuts_several : 2 ≤ u.quorums.n → (at : ℕ) (a : Arrival) (e : Event) (d : Lying) (k : ℕ) (m : group.Member) (r : Replica) → slice_get g.members at ≡ Some m → m.replica ≡ Some r → IsFitArrival a → IsArrival g at a e → CutsSo at a e d k m r
  cuts_several several at a e d k m r there runs h i =
      let c = (chain_of several at a e d m r there runs h i).chain in
      let x = stepped e r d in
      let es : List Effect = take (k + 1) x.script in
      let y = cut_so (Stopped u c.begun at) k x.script (local m) c.finishes.cuts c.finishes.stopped in (
        y.stopped.group,
        stops_chained u g s bridge fit at es [] (take k es) c.begun (ground_of u g s at es c.begun (begun_cut u s at k x.script c.begun c.begins)) (group.Cuts at a e d k) refl none_said (λ alone. absurd (omega arith)) (cut_after k x.script m) y.left y.stopped y.member y.made tt tt
            (λ o j. line_true u c.begun.sent c.finishes.after.sent (outputs x.script) (subst (Every (IsTrue u c.begun.sent c.finishes.after.sent)) (leaves x.script (local m)).said c.finishes.ends.told) o (outputs_take (k + 1) x.script (output.Commit o) j)),
      )

  -- it is cut before it has vouched, or after that
  cuts_alone : u.quorums.n ≡ 1 → (at : ℕ) (a : Arrival) (e : Event) (d : Lying) (k : ℕ) (m : group.Member) (r : Replica) → slice_get g.members at ≡ Some m → m.replica ≡ Some r → IsFitArrival a → IsArrival g at a e → CutsSo at a e d k m r
  cuts_alone alone at a e d k m r there runs h i =
      let c = (lone_of alone at a e d m r there runs h i).chain in
      let x = stepped e r d in
      let es : List Effect = take (k + 1) x.script in
      let first : List Effect = c.first.script in
      let second : List Effect = c.second.script in
      let move : Move = group.Cuts at a e d k in
      let begun = begun_cut u s at k x.script c.begun c.begins in
      let lowest = place_of alone at m r there runs in
      let whole : take k es ≡ take k (first ++ second) = done_of k x.script ∙ ap (λ (fs : List Effect). take k fs) c.script in
      elim (cases_lt k (length first)) [
        | inl early ↦
            let y = cut_at (Stopped u c.begun at) first (local m) k early c.goes.cuts in
            let done : take k es ≡ take k first = whole ∙ take-append-le k first second (omega arith) in
            let member : y.left.member ≡ cut_after k x.script m = y.member ∙ (sym (cut_front k first second m early) ∙ sym (ap (λ (fs : List Effect). cut_after k fs m) c.script)) in
            let wrote : y.left.made ≡ made_in es = y.made ∙ (ap made_in (sym (take-append-le (k + 1) first second (omega arith))) ∙ sym (ap (λ (fs : List Effect). made_in (take (k + 1) fs)) c.script)) in
            let no_more : CountsNoMore r (take k es) [] = subst (λ (fs : List Effect). CountsNoMore r fs []) (sym done) (c.early k early) in
            let grounded = ground_of u g s at es c.begun begun in
            let covers : Covers u g move es c.begun = λ one. part_vouched alone at m r there runs lowest (take k es) [] c.begun no_more grounded.ground.before (λ z j. absurd (none_stored r z j)) in
            let starts : es ≡ take (k + 1) first = ap (λ (fs : List Effect). take (k + 1) fs) c.script ∙ take-append-le (k + 1) first second (omega arith) in
            let none : (o : Committed) → In (output.Commit o) (outputs es) → ⊥ =
            λ o j. in_every AsksNothing (outputs first) (output.Commit o) (outputs_take (k + 1) first (output.Commit o) (subst (λ (fs : List Effect). In (output.Commit o) (outputs fs)) starts j)) (subst (Every AsksNothing) (leaves first (local m)).said c.silent) in
            (y.holds.group, stops_chained u g s bridge fit at es [] (take k es) c.begun grounded move refl none_said covers (cut_after k x.script m) y.left y.holds member wrote tt tt (λ o j. absurd (none o j)))
        | inr late ↦
            let j : ℕ = k - length first in
            let l0 : Local = carried first (local m) in
            let left = leaves first (local m) in
            let y = cut_so (Stopped u c.ground at) j second l0 c.finishes.cuts c.finishes.stopped in
            let place : length first + j ≡ k = omega arith in
            let done : take k es ≡ first ++ take j second = whole ∙ (ap (λ (n : ℕ). take n (first ++ second)) (sym place) ∙ take-append-add first second j) in
            let member : y.left.member ≡ cut_after k x.script m =
            y.member ∙ (ap (cut_after j second) left.member ∙ (sym (cut_behind j k first second m (sym place)) ∙ sym (ap (λ (fs : List Effect). cut_after k fs m) c.script))) in
            let behind : length first + (j + 1) ≡ k + 1 = omega arith in
            let wrote : y.left.made ≡ made_in es =
            y.made ∙ (ap (λ (hs : List Header). hs ++ made_in (take (j + 1) second)) left.made ∙ (sym (made_append first (take (j + 1) second)) ∙ (sym (ap made_in (take-append-add first second (j + 1))) ∙ (ap (λ (n : ℕ). made_in (take n (first ++ second))) behind ∙ sym (ap (λ (fs : List Effect). made_in (take (k + 1) fs)) c.script))))) in
            let no_more : CountsNoMore r (take k es) first = subst (λ (fs : List Effect). CountsNoMore r fs first) (sym done) (c.late j) in
            let runs_there : group.Runs g at m r = record { member = there; running = runs } in
            let stored = ((bridge.members at m there).running r runs).stored in
            let grounded = ground_vouched u alone g s at es first m r runs_there lowest stored.1 c.first.replica l0 c.begun c.goes.after c.ground c.held begun c.goes.ends.under c.grounds in
            let covers : Covers u g move es c.ground = λ one. part_vouched alone at m r there runs lowest (take k es) first c.ground no_more grounded.ground.before c.counted in
            let quiet : Every AsksNothing (outputs first) = subst (Every AsksNothing) left.said c.silent in
            let sent = c.finishes.after.sent in
            let told : Every (IsTrue u c.ground.sent sent) (outputs first ++ outputs second) = subst (Every (IsTrue u c.ground.sent sent)) ((leaves second l0).said ∙ ap (λ (os : List Output). os ++ outputs second) left.said) c.finishes.ends.told in
            let said : outputs x.script ≡ outputs first ++ outputs second = ap outputs c.script ∙ outputs_append first second in (
              y.stopped.group,
              stops_chained u g s bridge fit at es first (take j second) c.ground grounded move done quiet covers (cut_after k x.script m) y.left y.stopped member wrote tt tt
                  (λ o i. line_true u c.ground.sent sent (outputs first ++ outputs second) told o (subst (In (output.Commit o)) said (outputs_take (k + 1) x.script (output.Commit o) i))),
            )
      ]

  cuts_so : (at : ℕ) (a : Arrival) (e : Event) (d : Lying) (k : ℕ) (m : group.Member) (r : Replica) → slice_get g.members at ≡ Some m → m.replica ≡ Some r → IsFitArrival a → IsArrival g at a e → CutsSo at a e d k m r
  cuts_so at a e d k m r there runs h i = elim (alone_or_several u fits) [ inl alone ↦ cuts_alone alone at a e d k m r there runs h i | inr several ↦ cuts_several several at a e d k m r there runs h i ]

  crashes_so : (at : ℕ) (m : group.Member) → slice_get g.members at ≡ Some m → (z : Group Header) × Chained u s z (record { before = g; move = group.Crashes at; moved = with_script g at (record m { replica = None }) [] [] })
  unfolding made_in outputs
  crashes_so at m there =
      let x = bridge.members at m there in
      let y = stops u s at (local m) (local m) s (record { reached = bridge.reached; sent = refl; chosen = λ c h. h; others = λ j n. refl; disk = x.disk; made = tt; none_made = refl }) x.disk tt in
      (y.group, stops_chained u g s bridge fit at [] [] [] s (ground_of u g s at [] s (begun_same u s at [])) (group.Crashes at) refl none_said (λ alone. before_vouched alone (slice_get g.members 0) refl) m (local m) y refl refl tt tt (λ o j. absurd j))

  -- ---- openings

  pub may_begin : (at : ℕ) (m : group.Member) (v : SuperValue) (d : Lying) → Opens g at m v d → ReadsWell lying d → MayBegin u s at (local m) g.made v lying d
  may_begin at m v d o reads =
      let x = bridge.members at m o.member in
      let f = good_value u.cluster g.n at m v (fit.members at m o.member) o.value in
      record {
        reached = bridge.reached;
        disk = x.disk;
        still = x.stopped o.stopped;
        written = tt;
        value = o.value;
        good = f.0;
        place = f.1.index;
        size = f.1.n ∙ bridge.size;
        reads = headers_of lying d reads;
        sound = o.sound;
        were_made = λ h c. All-contains (WasMade s.made) g.made h bridge.made c;
        silent = tt;
      }

  -- of a stopped member nothing counts
  none_of_stopped : u.quorums.n ≡ 1 → (at : ℕ) (m : group.Member) → slice_get g.members at ≡ Some m → m.replica ≡ None → (es : List Effect) (x : Stored) → In x (stored_from g es) → ⊥
  none_of_stopped alone at m there stopped es x h =
      let f = (fit.members at m there).last in
      let member = (value_is m.last f.0).member in
      let place = f.1.index in
      let size = f.1.n ∙ bridge.size in
      let lowest : at ≡ 0 = omega arith in
      subst (In x) (stored_none g m es (subst (λ k. slice_get g.members k ≡ Some m) lowest there) stopped) h

  -- at its end a replica that is a group by itself vouches
  record OpenedSo (at : ℕ) (q : Replica) (l : Local) : Type 0 where
    after : Group Header
    ends : EndsSo u s at q l after
    tables : HasTables u after at q

  opened_so : (at : ℕ) (q : Replica) (l : Local) (c : Group Header) → Finished u s at q l c → HasTables u c at q → OpenedSo at q l
  opened_so at q l c x tables =
      elim (alone_or_several u fits) [
        | inr several ↦ record { after = c; ends = ends_of u several s at q l c x; tables = tables }
        | inl alone ↦
            let v = vouches_at_end u s at q l c x in
            record {
              after = v.0;
              ends = ends_vouched u alone s at q l c v.0 x v.1 v.2;
              tables = λ b. tables_vouched u v.0 at q c (in_order q x.sound) v.2 (tables_hold u c v.0 at q q (holds_same q) v.2.made v.2.kept (tallies_of u c at q (tables b)));
            }
      ]

  starts_so : (at : ℕ) (m : group.Member) (v : SuperValue) (d : Lying) → Opens g at m v d → ReadsWell lying d → (z : Group Header) × Chained u s z (record { before = g; move = group.Recovers at v d; moved = group.started g at m v d })
  starts_so at m v d o reads =
      let c = opens u s at (local m) g.made v lying d (may_begin at m v d o reads) in
      let x = mended v d in
      let y = resumed v d in
      let p = leaves x.script (local m) in
      let k : Local = keeping v x (carried x.script (local m)) in
      let q = leaves y.script k in
      let es : List Effect = opening_script v d in
      let found : k.member ≡ once_mended v d m = ap (keeps_all (group.found v d)) p.member in
      let z = opened_so at y.replica (carried y.script k) c.finishes.after c.finishes.ends c.tables in (
        z.after,
        ends_chained u g s bridge fit at es [] es s (ground_of u g s at es s (begun_same u s at es)) (group.Recovers at v d) refl none_said (λ alone z j. absurd (none_of_stopped alone at m o.member o.stopped es z j)) (slice_get_within g.members at m o.member) y.replica (carried_out y.script (once_mended v d m)) (carried y.script k) z.after z.ends
            (q.member ∙ ap (carried_out y.script) found) (q.made ∙ (ap (λ (hs : List Header). hs ++ made_in y.script) p.made ∙ sym (made_append x.script y.script)))
            (q.said ∙ (ap (λ (os : List Output). os ++ outputs y.script) p.said ∙ sym (outputs_append x.script y.script))) z.tables tt tt,
      )

  starts_cut_so : (at : ℕ) (m : group.Member) (v : SuperValue) (d : Lying) (k : ℕ) → Opens g at m v d → ReadsWell lying d → (z : Group Header) × Chained u s z (record { before = g; move = group.RecoversCut at v d k; moved = group.start_cut g at m v d k })
  starts_cut_so at m v d k o reads =
      let c = opens u s at (local m) g.made v lying d (may_begin at m v d o reads) in
      let x = mended v d in
      let y = resumed v d in
      let p = leaves x.script (local m) in
      let l : Local = keeping v x (carried x.script (local m)) in
      let found : l.member ≡ once_mended v d m = ap (keeps_all (group.found v d)) p.member in
      let said : (carried y.script l).said ≡ outputs (opening_script v d) = (leaves y.script l).said ∙ (ap (λ (os : List Output). os ++ outputs y.script) p.said ∙ sym (outputs_append x.script y.script)) in
      let es : List Effect = take (k + 1) (opening_script v d) in
      let chained : (w : group.Member) (j : Local) (z : Stopped u s at j) → j.member ≡ w → j.made ≡ made_in es → w ≡ cut_in_two x.script y.script (keeps_all (group.found v d)) k m → (z : Group Header) × Chained u s z (record { before = g; move = group.RecoversCut at v d k; moved = group.start_cut g at m v d k }) =
      λ w j z member made is. (
        z.group,
        stops_chained u g s bridge fit at es [] (take k es) s (ground_of u g s at es s (begun_same u s at es)) (group.RecoversCut at v d k) refl none_said (λ alone x h. absurd (none_of_stopped alone at m o.member o.stopped (take k es) x h)) (cut_in_two x.script y.script (keeps_all (group.found v d)) k m) j z (member ∙ is) made tt tt
            (λ w i. line_true u s.sent c.finishes.after.sent (outputs (opening_script v d)) (subst (Every (IsTrue u s.sent c.finishes.after.sent)) said c.finishes.ends.told) w (outputs_take (k + 1) (opening_script v d) (output.Commit w) i)),
      ) in
      elim (cases_lt k (length x.script)) [
        | inl first ↦
            let z = cut_at (Stopped u s at) x.script (local m) k first c.mends in
            chained (cut_after k x.script m) z.left z.holds z.member (z.made ∙ ap made_in (sym (take-append-le (k + 1) x.script y.script (omega arith)))) (rw (lt-ltb k (length x.script) first) refl)
        | inr past ↦
            let j : ℕ = k - length x.script in
            let z = cut_so (Stopped u s at) j y.script l c.finishes.cuts c.finishes.stopped in
            let place : k + 1 ≡ length x.script + (j + 1) = omega arith in
            let parts : es ≡ x.script ++ take (j + 1) y.script = ap (λ (n : ℕ). take n (opening_script v d)) place ∙ take-append-add x.script y.script (j + 1) in
            chained (cut_after j y.script (once_mended v d m)) z.left z.stopped (z.member ∙ ap (cut_after j y.script) found)
            (z.made ∙ (ap (λ (hs : List Header). hs ++ made_in (take (j + 1) y.script)) p.made ∙ (sym (made_append x.script (take (j + 1) y.script)) ∙ ap made_in (sym parts)))) (rw (le-ltb k (length x.script) past) refl)
      ]

  -- ---- migrations

  migration_of : (at : ℕ) (m : group.Member) (v : SuperValue) → Movable g at m v → Migrated u s at v (local m)
  migration_of at m v o =
      let x = bridge.members at m o.member in
      let good = (good_value u.cluster g.n at m v (fit.members at m o.member) o.value).0 in
      migrates u s at v (local m) s (record { reached = bridge.reached; sent = refl; chosen = λ c h. h; others = λ j n. refl; disk = x.disk; made = tt; none_made = refl }) (x.stopped o.stopped) o.value good

  none_committed : (v : SuperValue) (c : Committed) → In (output.Commit c) (outputs (migration v)) → ⊥
  unfolding outputs
  none_committed v c i = i

  migrates_so : (at : ℕ) (m : group.Member) (v : SuperValue) → Movable g at m v → (z : Group Header) × Chained u s z (record { before = g; move = group.Migrates at v; moved = group.moved_over g at m v })
  migrates_so at m v o =
      let es : List Effect = migration v in
      let c = (migration_of at m v o).ends in
      let left = leaves es (local m) in (
        c.group,
        stops_chained u g s bridge fit at es [] es s (ground_of u g s at es s (begun_same u s at es)) (group.Migrates at v) refl none_said (λ alone z j. absurd (none_of_stopped alone at m o.member o.stopped es z j)) (carried_out es m) (carried es (local m)) c
            left.member left.made tt tt (λ w j. absurd (none_committed v w j)),
      )

  migrates_cut_so : (at : ℕ) (m : group.Member) (v : SuperValue) (k : ℕ) → Movable g at m v → (z : Group Header) × Chained u s z (record { before = g; move = group.MigratesCut at v k; moved = group.move_cut g at m v k })
  migrates_cut_so at m v k o =
      let es : List Effect = take (k + 1) (migration v) in
      let c = migration_of at m v o in
      let z = cut_so (Stopped u s at) k (migration v) (local m) c.cuts c.ends in (
        z.stopped.group,
        stops_chained u g s bridge fit at es [] (take k es) s (ground_of u g s at es s (begun_same u s at es)) (group.MigratesCut at v k) refl none_said (λ alone x h. absurd (none_of_stopped alone at m o.member o.stopped (take k es) x h)) (cut_after k (migration v) m) z.left z.stopped
            z.member z.made tt tt (λ w j. absurd (none_committed v w (outputs_take (k + 1) (migration v) (output.Commit w) j))),
      )

  pub moves_so : (move : Move) (moved : Moved) → IsFitMove move → Moves g move moved → (z : Group Header) × Chained u s z (record { before = g; move = move; moved = moved })
  moves_so _ _ h (group.steps at a e d m r runs i) = steps_so at a e d m r runs.member runs.running h.0 i
  moves_so _ _ h (group.cuts at a e d k m r runs i) = cuts_so at a e d k m r runs.member runs.running h.0 i
  moves_so _ _ h (group.crashes at m there) = crashes_so at m there
  moves_so _ _ h (group.recovers at v d m o) = starts_so at m v d o h
  moves_so _ _ h (group.recovers_cut at v d k m o) = starts_cut_so at m v d k o h
  moves_so _ _ h (group.migrates at v m o) = migrates_so at m v o
  moves_so _ _ h (group.migrates_cut at v k m o) = migrates_cut_so at m v k o

-- ---- runs

pub runs_so : (u : Setup) (fits : Fits u) (hash : u.hash ≡ lying.hash) (g : group.Group) (s : Group Header) (run : List Played) → IsFitGroup u.cluster g → All (λ p. IsFitMove p.move) run → Run g run → Bridges u g s → Follows u s run
runs_so u fits hash g s _ fit h (group.ended _) bridge = tt
runs_so u fits hash g s _ fit h (group.goes _ move moved later m rest) bridge =
    let p : Played = record { before = g; move = move; moved = moved } in
    let one = All-head (λ (p : Played). IsFitMove p.move) p later h in
    let z = moves_so u fits hash g s fit bridge move moved one m in
    let next = groups_fit.each u.cluster g move moved fit one m in
    (z.0, z.1, runs_so u fits hash moved.group z.0 later next (All-tail (λ (p : Played). IsFitMove p.move) p later h) rest z.1.bridges)
