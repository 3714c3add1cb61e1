-- Every run of a group that was just made is followed, move by move.
use Rattle.std.proofs.Common.{ℕ, zero, suc, ◌≡◌, ◌⊎◌, inl, inr, arith, sym, subst, List, [], ◌∷◌, ◌++◌, Some}
use Rattle.std.specs.Prelude.{Contains, slice_get}
use Rattle.vr_base.specs.Bytes.{name_of}
use Rattle.vr_header.specs.declared.header.Header.{Header}
use Rattle.vr_header.specs.Bodies.{operation_bytes}
use Rattle.vr_header.specs.Names.{root_header}
use Rattle.vr_msg.specs.declared.output.Chosen.{Chosen}
use Rattle.vr_msg.specs.declared.output.Committed.{Committed}
use Rattle.vr_msg.specs.declared.output.Output.{Output}
use Rattle.vr_msg.specs.declared.output.Output.TheVariants as output
use Rattle.vr_msg.specs.declared.output.Sent.{Sent}
use Rattle.law_2_chains.proofs.Finishing.{committed_more}
use Rattle.vr_world.specs.Group as group
use Rattle.vr_world.specs.Group.{Played, Run, fresh_group}
use Rattle.vr_world.specs.GroupFit.{IsFitGroup}
use Rattle.vr_world.specs.Safe.{IsHashed}
use Rattle.law_1_machine.specs.Basics.{In}
use Rattle.law_1_machine.specs.Group.{Group}
use Rattle.law_1_machine.specs.Laws as law
use Rattle.law_1_machine.specs.Members.{Message}
use Rattle.law_1_machine.proofs.Moves.{reached_good}
use Rattle.law_2_chains.specs.Chains.{AsksNothing, Setup, IsReached}
use Rattle.law_2_chains.specs.Finished.{IsTrue}
use Rattle.law_2_chains.specs.Reflecting.{entries_by}
use Rattle.law_2_chains.specs.Tables.{Fits}
use Rattle.law_2_chains.specs.Bridge.{Bridges, Chained, Follows, FollowsFresh, IsOwnVouch, ServesWell}
use Rattle.law_2_chains.proofs.Waking.{fresh_runs_so}
use Rattle.vr_world.specs.Commitment.{Stored}
use Rattle.vr_rules.specs.Steps.{Effect}
use Rattle.vr_world.specs.Storing.{done_in, stored_from, stored_of, until_said}
use Rattle.law_3_outputs.specs.Followed.{IsCarried, IsChoiceLine, IsFitRun, IsFollowed, IsFrom, IsSo, by_then, own_vouches, stored_until}
use Rattle.law_3_outputs.proofs.Fitting.{file_at, fit_at, move_of}
use Rattle.law_2_chains.proofs.Grounds.{rests_on}
use Rattle.law_3_outputs.proofs.Machine.{number_is}
use Rattle.law_3_outputs.proofs.Placing.{placed_at}
use Rattle.law_2_chains.proofs.StoredLists.{contains_in, in_contains}
use Rattle.law_3_outputs.proofs.Sets.{every_at, get_in, in_left, in_right}
use Rattle.law_3_outputs.proofs.Stored.{own_in, own_more, own_of, until_all}
use Rattle.law_3_outputs.proofs.Then.{backed_more, then_more, true_by_more, true_free}
use Rattle.law_3_outputs.proofs.Traces.{in_either}
use Rattle.law_6_one_log.specs.FollowLaws.{FollowsIt}
use Rattle.law_6_one_log.proofs.Saying.{choice_so, from_so, line_hashed}

-- ---- the machine's groups, one after the other

module _ (u : Setup) where
  abbrev group_at : (s : Group Header) (t : ℕ) (ps : List Played) → Follows u s ps → Group Header
  group_at s zero ps f = s
  group_at s (suc t) [] f = s
  group_at s (suc t) (p ∷ ps) f = group_at f.0 t ps f.2

  reached_at : (s : Group Header) (t : ℕ) (ps : List Played) (f : Follows u s ps) → IsReached u s → IsReached u (group_at s t ps f)
  reached_at s zero ps f h = h
  reached_at s (suc t) [] f h = h
  reached_at s (suc t) (p ∷ ps) f h = reached_at f.0 t ps f.2 f.1.bridges.reached

  chained_at : (s : Group Header) (t : ℕ) (ps : List Played) (f : Follows u s ps) (p : Played) → slice_get ps t ≡ Some p → Chained u (group_at s t ps f) (group_at s (suc t) ps f) p
  chained_at s zero [] f p e = absurd cc
  chained_at s zero (q ∷ ps) f p e = let same : q ≡ p = (let o : Some q ≡ Some p = e in cc) in subst (Chained u s f.0) same f.1
  chained_at s (suc t) [] f p e = absurd cc
  chained_at s (suc t) (q ∷ ps) f p e = chained_at f.0 t ps f.2 p e

  bridges_at : (g : group.Group) (s : Group Header) (t : ℕ) (ps : List Played) → Run g ps → (f : Follows u s ps) → Bridges u g s → (p : Played) → slice_get ps t ≡ Some p → Bridges u p.before (group_at s t ps f)
  bridges_at g s t _ (group.ended _) f b p e = absurd cc
  bridges_at g s zero _ (group.goes _ move moved later moves rest) f b p e =
      let q : Played = record { before = g; move = move; moved = moved } in
      let same : q ≡ p = (let o : Some q ≡ Some p = e in cc) in
      subst (λ (p : Played). Bridges u p.before s) same b
  bridges_at g s (suc t) _ (group.goes _ move moved later moves rest) f b p e = bridges_at moved.group f.0 t later rest f.2 f.1.bridges p e

-- ---- one move

-- an output that asks nothing is so by whatever counts
so_then : (u : Setup) (a b sent : List (Message Header)) (o : Output) → AsksNothing o ⊎ ((m : Message Header) → In m a → In m b) → IsTrue u a sent o → IsTrue u b sent o
so_then u a b sent o (inl free) t = true_free u a b sent o free t
so_then u a b sent o (inr f) t = true_by_more u a b f sent o t

-- a vouch of the chain for what counts as stored
own_counts : (u : Setup) (g : group.Group) (es : List Effect) (m : Message Header) → IsOwnVouch u g es m → In m (own_vouches u (stored_from g es))
own_counts u g es m y =
    subst (λ (z : Message Header). In z (own_vouches u (stored_from g es))) (sym y.is) (own_in u (stored_from g es) y.stored y.alone (contains_in y.stored (stored_from g es) y.counts))

serves_more : (u : Setup) (a b : List (Message Header)) → ((m : Message Header) → In m a → In m b) → (g : group.Group) (move : group.Move) → ServesWell u g move a → ServesWell u g move b
serves_more u a b f g (group.Steps at arrival e d) h = λ m r runs. backed_more u a b f (group.stepped e r d).replica.log_view (group.stepped e r d).replica.commit (h m r runs)
serves_more u a b f g (group.Cuts at arrival e d k) h = tt
serves_more u a b f g (group.Crashes at) h = tt
serves_more u a b f g (group.Recovers at v d) h = tt
serves_more u a b f g (group.RecoversCut at v d k) h = tt
serves_more u a b f g (group.Migrates at v) h = tt
serves_more u a b f g (group.MigratesCut at v k) h = tt

so : (cluster : ℕ) (u : Setup) (run : List Played) (before : List (Message Header)) (after : Group Header) (p : Played) → IsReached u after → ((m : Message Header) → In m before → In m after.sent) → ((s : Sent) → In (output.Send s) p.moved.outputs → IsFrom s.from s.message)
    → ((c : Committed) → In (output.Commit c) p.moved.outputs → IsHashed run (root_header cluster) (operation_bytes c.entry.operation)) → ((c : Chosen) → In (output.Choose c) p.moved.outputs → IsChoiceLine u after.chosen p c)
    → (o : Output) → In o p.moved.outputs → IsTrue u before after.sent o → IsSo cluster u run before after p o
so cluster u run before after p reached later from lines choices (output.Send s) j t = record { sent = t.0; from = from s j; numbered = t.1 }
so cluster u run before after p reached later from lines choices (output.Commit c) j t =
    let q = u.quorums in
    let hs = entries_by u.hash u.cluster in
    let good = reached_good q hs after reached in
    let b = t.is in
    let number = number_is q hs good.0 after good.1 b.0 t.number c.entry.header (committed_more q hs before after.sent later b.0 t.number c.entry.header b.2) in
    record {
      view = b.0;
      committed = subst (λ k. law.Committed q hs before b.0 k c.entry.header) (sym number) b.2;
      hashed = lines c j;
    }
so cluster u run before after p reached later from lines choices (output.Choose c) j t = choices c j
so cluster u run before after p reached later from lines choices (output.Reply a) j t = tt
so cluster u run before after p reached later from lines choices (output.Wait w) j t = tt
so cluster u run before after p reached later from lines choices (output.Start s) j t = tt
so cluster u run before after p reached later from lines choices (output.Halted n) j t = tt
so cluster u run before after p reached later from lines choices (output.Migrated n) j t = tt
so cluster u run before after p reached later from lines choices output.Done j t = tt
so cluster u run before after p reached later from lines choices output.KeptOut j t = tt

module _ (cluster n : ℕ) (run : List Played) (fit : IsFitRun cluster n run) (u : Setup) (of_group : u.cluster ≡ cluster) (first : Group Header) (bridges : Bridges u (fresh_group fit.kinds cluster n) first) (follows : Follows u first run) (size_is : u.quorums.n ≡ n) where
  abbrev at : ℕ → Group Header
  at t = group_at u first t run follows

  bridged : (t : ℕ) (p : Played) → slice_get run t ≡ Some p → Bridges u p.before (at t)
  bridged t p is = bridges_at u (fresh_group fit.kinds cluster n) first t run fit.of_run follows bridges p is

  bridged_after : (t : ℕ) (p : Played) → slice_get run t ≡ Some p → Bridges u p.moved.group (at (suc t))
  bridged_after t p is = (chained_at u first t run follows p is).bridges

  carried : (t : ℕ) (p : Played) → slice_get run t ≡ Some p → IsCarried cluster u run (at t) (at (suc t)) p
  carried t p is =
      let x = chained_at u first t run follows p is in
      let f = fit_at cluster n run fit t p is in
      let placed = placed_at cluster n run fit t p is in
      let moves = move_of (fresh_group fit.kinds cluster n) run fit.of_run t p is in
      let there : Contains run p = in_contains p run (get_in run t p is) in
      let size : u.quorums.n ≡ p.before.n = sym (bridged t p is).size in
      let mine : IsFitGroup u.cluster p.before = subst (λ c. IsFitGroup c p.before) (sym of_group) f.0.0 in
      let counts : (number : ℕ) (o : Output) → slice_get p.moved.outputs number ≡ Some o → AsksNothing o ⊎ ((m : Message Header) → In m x.ground.sent → In m (by_then u (at t) p number)) =
      λ number o j. elim (rests_on u (at t) (at (suc t)) p x moves number o j) [
        | inl free ↦ inl free
        | inr own ↦ inr (λ m h. elim (own m h) [
          | inl old ↦ in_left (at t).sent (own_vouches u (stored_until p number)) m old
          | inr new ↦ in_right (at t).sent (own_vouches u (stored_until p number)) m (own_counts u p.before (until_said number (done_in p.move p.moved.script)) m new)
        ])
      ] in
      let vouched : (m : Message Header) → In m (own_vouches u (stored_of p)) → In m (at (suc t)).sent =
      λ m h. let y = own_of u (stored_of p) m h in subst (λ (z : Message Header). In z (at (suc t)).sent) (sym y.is) (x.counted y.alone y.of (in_contains y.of (stored_of p) y.among)) in
      let still : (number : ℕ) (m : Message Header) → In m (by_then u (at t) p number) → In m (at (suc t)).sent =
      λ number m h. elim (in_either (at t).sent (own_vouches u (stored_until p number)) m h) [
        | inl old ↦ x.sent m old
        | inr new ↦ vouched m (own_more u (stored_until p number) (stored_of p) (until_all p number) m new)
      ] in
      let next : List Stored = stored_from p.moved.group [] in
      record {
        sent = x.sent;
        chosen = x.chosen;
        said = λ number o j.
            so cluster u run (by_then u (at t) p number) (at (suc t)) p (reached_at u first (suc t) run follows bridges.reached) (still number) (from_so cluster p.before p.move p.moved f.0.0 placed moves)
            (line_hashed run cluster p.before p.move p.moved there f.0.0 f.1 (file_at cluster n run fit t p is) moves) (choice_so u (at (suc t)).chosen p.before p.move p.moved size mine f.1 moves x.choices) o (get_in p.moved.outputs number o j)
            (so_then u x.ground.sent (by_then u (at t) p number) (at (suc t)).sent o (counts number o j) (every_at (IsTrue u x.ground.sent (at (suc t)).sent) p.moved.outputs number o j x.told));
        vouched = vouched;
        only = λ m h. elim (x.only m h) [
          | inl old ↦ inl old
          | inr new ↦ elim new [
            | inl said ↦ inr (inl said)
            | inr own ↦ inr (inr (elim own [
              | inl now ↦ own_more u (stored_of p) (stored_of p ++ next) (λ z i. in_left (stored_of p) next z i) m (own_counts u p.before (done_in p.move p.moved.script) m now)
              | inr late ↦ own_more u next (stored_of p ++ next) (λ z i. in_right (stored_of p) next z i) m (own_counts u p.moved.group [] m late)
            ]))
          ]
        ];
        served = λ line number c less j. elim (counts line (output.Commit c) j) [
          | inl free ↦ absurd free
          | inr f ↦ serves_more u x.ground.sent (by_then u (at t) p number) (λ m h. then_more u (at t) p line number (omega arith) m (f m h)) p.before p.move x.served
        ];
        lines = x.lines;
        made = x.made;
      }

  followed : u.hash ≡ name_of → Fits u → first.sent ≡ [] → first.made ≡ [] → IsFollowed cluster n u run
  followed hash fits none_sent none_made = record {
    hash_is = hash;
    cluster_is = of_group;
    size_is = size_is;
    fits = fits;
    fit = fit;
    group = at;
    reached = λ t l. reached_at u first t run follows bridges.reached;
    none_sent = none_sent;
    none_made = none_made;
    carried = carried;
  }

pub follows_it : (cluster n : ℕ) (run : List Played) → IsFitRun cluster n run → FollowsIt cluster n run
unfolding followed
follows_it cluster n run fit =
    let y : FollowsFresh fit.kinds cluster n run = fresh_runs_so fit.kinds cluster n run fit.are_kinds fit.number fit.some fit.many fit.moves fit.of_run in
    record {
      setup = y.setup;
      followed = followed cluster n run fit y.setup y.cluster_is y.first y.bridges y.follows y.size_is y.hash_is y.fits y.none_sent y.none_made;
      bridges = bridged cluster n run fit y.setup y.cluster_is y.first y.bridges y.follows y.size_is;
      after = bridged_after cluster n run fit y.setup y.cluster_is y.first y.bridges y.follows y.size_is;
    }
