-- The lines of the normal case, one backup after the other.
use Rattle.std.proofs.Common.{arith, ℕ, ◌+◌, ◌<◌, ◌≤◌, ◌≡◌, ◌≢◌, ◌∙◌, inl, inr, refl, sym, ap, subst, true, false, List, [], ◌∷◌, ◌++◌, length, Option, Some, None, ◌%◌}
use Rattle.std.specs.Prelude.{All, Contains, slice_get}
use Rattle.std.specs.Cmp.Derive.{both_true}
use Rattle.std.specs.Option.{option_map_or}
use Rattle.std.proofs.Math.Nat.{mod-eq_of_lt}
use Rattle.std.proofs.lemmas.Bool.{cases_Bool, eq-eqb, true≢false}
use Rattle.std.proofs.lemmas.List.{append-nil, length-append}
use Rattle.std.proofs.lemmas.List.Elements.{All-contains, All-head, All-tail, Contains-append_left, Contains-append_right}
use Rattle.vr_header.specs.Made.{Whole}
use Rattle.vr_header.specs.Parts.{header_of}
use Rattle.vr_msg.specs.Normal.{primary}
use Rattle.vr_msg.specs.declared.event.Event.{Event}
use Rattle.vr_msg.specs.declared.event.Event.TheVariants as event
use Rattle.vr_msg.specs.declared.frame.Frame.TheVariants as frame
use Rattle.vr_msg.specs.declared.frame.PrepareOk.{PrepareOk}
use Rattle.vr_msg.specs.declared.output.Output.{Output}
use Rattle.vr_msg.specs.declared.output.Sent.{Sent}
use Rattle.vr_msg.specs.declared.request.RequestFields.{RequestFields}
use Rattle.vr_state.specs.Asks.{is_fresh}
use Rattle.vr_rules.specs.Deciding.{session_answer}
use Rattle.vr_rules.specs.Outputs.{messages}
use Rattle.vr_rules.specs.Replica.{Replica, is_frozen, leads, part_at, replication, version}
use Rattle.vr_rules.specs.Rules.{acknowledged, next_entry, react}
use Rattle.vr_rules.specs.Sound.{IsSound}
use Rattle.vr_rules.specs.Steps.{Setting, Step, ◌⨾◌, after_all, change, outputs}
use Rattle.vr_rules.specs.Words.{advance, has_quorum, stored}
use Rattle.vr_world.specs.World.{Acted, Arrives, Happened, Happening, Hazards, Host, World, at_member, handles, happen, happens, with_member, delivered, nothing}
use Rattle.law_progress.proofs.Backup as backup
use Rattle.law_progress.proofs.Lists.{All-each, contains_cases, contains_tail, got_left, got_other, got_right, got_set, got_within}
use Rattle.law_progress.proofs.Making.{counted_stands, sent_to}
use Rattle.law_progress.proofs.Mute.{sends}
use Rattle.law_progress.proofs.Ruling.{MayCount, ack_counted}
use Rattle.law_progress.proofs.Standing.{Stands, advance_answers, advance_waits, quorum_of}
use Rattle.law_progress.specs.Answering.{AreDistinct, FollowsLevel, HasBackup, LeadsLevel, answer, place_beside, rounds}

module _ {F : Type 0} (hz : Hazards F) where
  -- ---- lines

  contains_first : (w : World F) (x : Happening) (xs : List Happening) (o : Output) → Contains (happens hz w x).outputs o → Contains (happen hz w (x ∷ xs)).outputs o
  unfolding happen
  contains_first w x xs o there = Contains-append_left (happens hz w x).outputs (happen hz (happens hz w x).world xs).outputs o there

  contains_rest : (w : World F) (x : Happening) (xs : List Happening) (o : Output) → Contains (happen hz (happens hz w x).world xs).outputs o → Contains (happen hz w (x ∷ xs)).outputs o
  unfolding happen
  contains_rest w x xs o there = Contains-append_right (happens hz w x).outputs (happen hz (happens hz w x).world xs).outputs o there

  abbrev host : Replica → F → Host F
  host r f = record { replica = Some r; disk = f; fuse = None }

  -- what a step leaves of a member without a fuse
  abbrev pub acted : F → Step → Acted F
  acted f x = record { member = host x.replica (after_all hz.setting f x.script); outputs = outputs x.script }

  pub steps_at : (w : World F) (i : ℕ) (r : Replica) (f : F) (e : Event) → slice_get w.members i ≡ Some (host r f)
      → at_member w i (handles hz e) ≡ with_member w i (acted f (react e hz.setting r f))
  unfolding at_member
  steps_at w i r f e is = ap (λ (o : Option (Host F)). option_map_or (λ m. with_member w i (handles hz e i m)) o (nothing w)) is

  arrives_at : (w : World F) (x : ℕ) (m : Sent) (r : Replica) (f : F) → slice_get w.sent x ≡ Some m → slice_get w.members m.to ≡ Some (host r f)
      → happens hz w (Arrives x) ≡ with_member w m.to (acted f (react (event.Deliver m.message) hz.setting r f))
  arrives_at w x m r f sent is =
      let place : x % length w.sent ≡ x = mod-eq_of_lt (got_within w.sent x m sent) in
      ap (λ (o : Option Sent). delivered hz w o) (ap (slice_get w.sent) place ∙ sent) ∙ steps_at w m.to r f (event.Deliver m.message) is

  -- ---- the rounds of the primary `old` at p, for this request

  module _ (q : RequestFields) (old : Replica) (p n first : ℕ) (l : LeadsLevel old) (sound : IsSound old) (fresh : is_fresh (session_answer q old) ≡ true) (group : q.cluster ≡ old.cluster)
      (awake : is_frozen old ≡ false) (index : old.index ≡ p) (size : old.n ≡ n) (low : p < n) (few : n ≤ 6) where
    abbrev s : Setting F
    s = hz.setting

    abbrev op : ℕ
    op = old.commit + 1

    abbrev told : Output
    told = answer s.hash q old

    abbrev e : Whole
    e = next_entry s.hash q old

    entry_op : e.header.op ≡ op
    unfolding next_entry
    entry_op = ap (λ k. k + 1) l.level

    -- the prepare to a backup
    abbrev prepare_to : ℕ → Sent
    prepare_to b = sent_to (frame.Prepare (backup.prepared s q old)) (stored e old) b

    -- Those of `acked` have acknowledged the entry; those of `rest` still follow, and their prepares are sent.
    pub record Midst (w : World F) (acked rest : List ℕ) (next : ℕ) : Type 0 where
      pub replica : Replica
      pub disk : F
      pub member : slice_get w.members p ≡ Some (host replica disk)
      pub size_is : w.n ≡ n
      pub stands : Stands s q old acked replica disk
      pub too_few : has_quorum replica op ≡ false
      pub apart : AreDistinct (p ∷ acked)
      pub prepared : (b : ℕ) → Contains rest b → slice_get w.sent (first + place_beside p b) ≡ Some (prepare_to b)
      pub follow : All (HasBackup s.hash w p old) rest
      pub distinct : AreDistinct rest
      pub new : (b : ℕ) → Contains rest b → Contains acked b → ⊥
      pub next_is : next ≡ length w.sent
      pub enough : replication old.n ≤ length acked + length rest + 1

    -- ---- an acknowledgement comes

    may_count : (acked : List ℕ) (r : Replica) (f : F) (y : Replica) → Stands s q old acked r f → FollowsLevel s.hash old y → y.index < n → y.index ≢ p → MayCount s.hash (backup.vouch s q old y) e.header r
    may_count acked r f y t follows within other =
        let index_is : r.index ≡ old.index = ap (λ (x : Replica). x.index) t.same in
        let size_is : r.n ≡ old.n = ap (λ (x : Replica). x.n) t.same in
        let commit : r.commit ≡ old.commit = ap (λ (x : Replica). x.commit) t.same in
        let at = entry_op in
        let reaches = t.reaches in
        record {
          of_version = follows.of_version ∙ sym (ap version t.same);
          of_group = follows.of_group ∙ sym (ap (λ (x : Replica). x.cluster) t.same);
          member = omega (arith, within, size_is, size);
          other = λ same. other (same ∙ index_is ∙ index);
          leads = ap leads t.same ∙ both_true (eq-eqb old.view old.log_view l.started) (eq-eqb old.index (primary old.n old.view) l.leads);
          view = follows.view ∙ sym (ap (λ (x : Replica). x.view) t.same);
          above = omega (arith, at, commit);
          upto = omega (arith, at, reaches);
          known = subst (λ k. header_of (part_at r k) ≡ Some e.header) (sym entry_op) (ap header_of t.here);
          name = refl;
        }

    one_word : (a : PrepareOk) (r : Replica) (f : F) → (change (acknowledged a) ⨾ advance) s r f ≡ advance s (acknowledged a r) f
    unfolding change ◌⨾◌ after_all
    one_word a r f = refl

    awake_still : (acked : List ℕ) (r : Replica) (f : F) → Stands s q old acked r f → is_frozen r ≡ false
    awake_still acked r f t = ap is_frozen t.same ∙ awake

    ack_advances : (acked : List ℕ) (r : Replica) (f : F) (y : Replica) → Stands s q old acked r f → FollowsLevel s.hash old y → y.index < n → y.index ≢ p
        → react (event.Deliver (frame.PrepareOk (backup.vouch s q old y))) s r f ≡ advance s (acknowledged (backup.vouch s q old y) r) f
    ack_advances acked r f y t follows within other =
        ack_counted s (backup.vouch s q old y) e.header r f (awake_still acked r f t) (may_count acked r f y t follows within other) ∙ one_word (backup.vouch s q old y) r f

    pub waits_then : (acked : List ℕ) (r : Replica) (f : F) → Stands s q old acked r f → has_quorum r op ≡ false → advance s r f ≡ record { replica = r; script = [] }
    waits_then acked r f t too_few =
        let commit : r.commit ≡ old.commit = ap (λ (x : Replica). x.commit) t.same in
        let applied : r.applied ≡ old.applied = ap (λ (x : Replica). x.applied) t.same in
        advance_waits s q old r f (sym commit) (applied ∙ l.applied ∙ sym commit) t.reaches too_few

    -- ---- a backup stays as it is while others act

    still_backs : (w v : World F) (b : ℕ) → v.n ≡ w.n → slice_get v.members b ≡ slice_get w.members b → HasBackup s.hash w p old b → HasBackup s.hash v p old b
    still_backs w v b same at h = record {
      other = h.other;
      replica = h.replica;
      disk = h.disk;
      runs = record { member = at ∙ h.runs.member; index = h.runs.index; size = h.runs.size ∙ sym same; sound = h.runs.sound; awake = h.runs.awake };
      follows = h.follows;
    }

    -- the world once a backup, and then the primary, has acted
    abbrev with_ack : World F → ℕ → F → Step → World F
    with_ack w b g x = (with_member w b (acted g x)).world

    abbrev with_count : World F → ℕ → F → Step → Replica → F → World F
    with_count w b g x r f = (with_member (with_ack w b g x) p (acted f (record { replica = r; script = [] }))).world

    count_member : (w : World F) (b : ℕ) (g : F) (x : Step) (r' r : Replica) (f : F) → slice_get (with_ack w b g x).members p ≡ Some (host r f)
        → slice_get (with_count w b g x r' f).members p ≡ Some (host r' f)
    unfolding after_all
    count_member w b g x r' r f is = got_set (with_ack w b g x).members p (host r' f) (host r f) is

    count_sent : (w : World F) (b : ℕ) (g : F) (x : Step) (r : Replica) (f : F) → (with_count w b g x r f).sent ≡ w.sent ++ sends x.script
    unfolding messages outputs
    count_sent w b g x r f = append-nil (w.sent ++ sends x.script)

    module _ (w : World F) (b : ℕ) (rest acked : List ℕ) (next : ℕ) (m : Midst w acked (b ∷ rest) next) where
      abbrev hb : HasBackup s.hash w p old b
      hb = All-head (HasBackup s.hash w p old) b rest m.follow

      abbrev y : Replica
      y = hb.replica

      abbrev a : PrepareOk
      a = backup.vouch s q old y

      abbrev x1 : Step
      x1 = react (event.Deliver (frame.Prepare (backup.prepared s q old))) s y hb.disk

      abbrev w1 : World F
      w1 = with_ack w b hb.disk x1

      first_here : Contains (b ∷ rest) b
      first_here = (0, omega arith, refl)

      y_at : y.index ≡ b
      y_at = hb.runs.index

      y_within : y.index < n
      y_within = let is = hb.runs.sound.member in let own = hb.runs.size in let all = m.size_is in omega (arith, is, own, all)

      y_other : y.index ≢ p
      y_other same = hb.other (sym y_at ∙ same)

      pub comes : happens hz w (Arrives (first + place_beside p b)) ≡ with_member w b (acted hb.disk x1)
      comes = arrives_at w (first + place_beside p b) (prepare_to b) y hb.disk (m.prepared b first_here) hb.runs.member

      one_ack : sends x1.script ≡ backup.ack s q old y ∷ []
      one_ack =
          let own = hb.runs.size in
          let all = m.size_is in
          backup.prepare_answered s q old y l group (omega (arith, own, all, size)) (omega (arith, index, size, low)) (λ same. y_other (sym same ∙ index)) hb.follows hb.disk hb.runs.awake hb.runs.sound

      ack_to : primary y.n y.view ≡ p
      ack_to =
          let own = hb.runs.size in
          let all = m.size_is in
          let same : y.n ≡ old.n = omega (arith, own, all, size) in
          ap (λ k. primary k y.view) same ∙ ap (primary old.n) hb.follows.view ∙ sym l.leads ∙ index

      ack_sent : slice_get w1.sent next ≡ Some (backup.ack s q old y)
      ack_sent = let at = m.next_is in got_right w.sent (sends x1.script) next 0 (omega (arith, at)) ∙ ap (λ (ys : List Sent). slice_get ys 0) one_ack

      primary_still : slice_get w1.members p ≡ Some (host m.replica m.disk)
      primary_still = got_other w.members b p (host x1.replica (after_all s hb.disk x1.script)) (λ same. hb.other (sym same)) ∙ m.member

      abbrev r2 : Replica
      r2 = acknowledged a m.replica

      pub acks : happens hz w1 (Arrives next) ≡ with_member w1 p (acted m.disk (advance s r2 m.disk))
      acks =
          arrives_at w1 next (backup.ack s q old y) m.replica m.disk ack_sent (subst (λ i. slice_get w1.members i ≡ Some (host m.replica m.disk)) (sym ack_to) primary_still)
          ∙ ap (λ i. with_member w1 i (acted m.disk (react (event.Deliver (frame.PrepareOk a)) s m.replica m.disk))) ack_to
          ∙ ap (λ (x : Step). with_member w1 p (acted m.disk x)) (ack_advances acked m.replica m.disk y m.stands hb.follows y_within y_other)

      pub stands_on : Stands s q old (b ∷ acked) r2 m.disk
      stands_on = subst (λ i. Stands s q old (i ∷ acked) r2 m.disk) y_at (counted_stands s q old l sound a acked m.replica m.disk m.stands entry_op (omega (arith, y_within, few)))

      abbrev w2 : World F
      w2 = with_count w b hb.disk x1 r2 m.disk

      pub next_midst : has_quorum r2 op ≡ false → Midst w2 (b ∷ acked) rest (next + 1)
      next_midst too_few =
          let at = m.next_is in
          let sent = count_sent w b hb.disk x1 r2 m.disk in
          let more : length (w.sent ++ sends x1.script) ≡ length w.sent + 1 = length-append w.sent (sends x1.script) ∙ ap (λ (ys : List Sent). length w.sent + length ys) one_ack in
          let all = m.enough in
          record {
            replica = r2;
            disk = m.disk;
            member = count_member w b hb.disk x1 r2 m.replica m.disk primary_still;
            size_is = m.size_is;
            stands = stands_on;
            too_few = too_few;
            apart = (
              λ there. elim (contains_cases b acked p there) [ inl same ↦ hb.other same | inr in_acked ↦ m.apart.0 in_acked ],
              (m.new b first_here, m.apart.1),
            );
            prepared = λ c there. subst (λ ys. slice_get ys (first + place_beside p c) ≡ Some (prepare_to c)) (sym sent)
                (got_left w.sent (sends x1.script) (first + place_beside p c) (prepare_to c) (m.prepared c (contains_tail b rest c there)));
            follow = All-each (HasBackup s.hash w2 p old) rest (λ c there.
                let hc = All-contains (HasBackup s.hash w p old) rest c (All-tail (HasBackup s.hash w p old) b rest m.follow) there in
                still_backs w w2 c refl
                (got_other w1.members p c (host r2 (after_all s m.disk [])) hc.other ∙ got_other w.members b c (host x1.replica (after_all s hb.disk x1.script)) (λ same. m.distinct.0 (subst (Contains rest) same there))) hc);
            distinct = m.distinct.1;
            new = λ c there old_one. elim (contains_cases b acked c old_one) [
              | inl same ↦ m.distinct.0 (subst (Contains rest) (sym same) there)
              | inr in_acked ↦ m.new c (contains_tail b rest c there) in_acked
            ];
            next_is = let long : length w2.sent ≡ length w.sent + 1 = ap length sent ∙ more in omega (arith, at, long);
            enough = omega (arith, all);
          }

    -- ---- all of them

    pub rounds_answer : (rest acked : List ℕ) (w : World F) (next : ℕ) → Midst w acked rest next → Contains (happen hz w (rounds p first next rest)).outputs told
    unfolding rounds
    rounds_answer [] acked w next m =
        let all = m.enough in
        let many = quorum_of s q old l fresh acked m.replica m.disk m.stands (subst (λ i. AreDistinct (i ∷ acked)) (sym index) m.apart) (omega (arith, index, low, few)) (omega (arith, all)) in
        absurd (true≢false (sym many ∙ m.too_few))
    rounds_answer (b ∷ rest) acked w next m =
        let rs = rounds p first (next + 1) rest in
        let v : World F = w1 w b rest acked next m in
        let r : Replica = r2 w b rest acked next m in
        let inner : Contains (happen hz v (Arrives next ∷ rs)).outputs told = elim (cases_Bool (has_quorum r op)) [
          | inl many ↦
              let said = advance_answers s q old l fresh (b ∷ acked) r m.disk (stands_on w b rest acked next m) many in
              contains_first v (Arrives next) rs told (subst (λ (h : Happened F). Contains h.outputs told) (sym (acks w b rest acked next m)) said)
          | inr too_few ↦
              let waits = waits_then (b ∷ acked) r m.disk (stands_on w b rest acked next m) too_few in
              let step = acks w b rest acked next m ∙ ap (λ (x : Step). with_member v p (acted m.disk x)) waits in
              contains_rest v (Arrives next) rs told (subst (λ (h : Happened F). Contains (happen hz h.world rs).outputs told) (sym step)
              (rounds_answer rest (b ∷ acked) (w2 w b rest acked next m) (next + 1) (next_midst w b rest acked next m too_few)))
        ] in
        contains_rest w (Arrives (first + place_beside p b)) (Arrives next ∷ rs) told
        (subst (λ (h : Happened F). Contains (happen hz h.world (Arrives next ∷ rs)).outputs told) (sym (comes w b rest acked next m)) inner)
