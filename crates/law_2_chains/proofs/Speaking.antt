-- A replica that states its log, as the last thing of its step; what is asked after it; start_view_changes and ticks.
use Rattle.std.proofs.Common.{ℕ, ◌≤◌, ◌<◌, ◌≡◌, ◌∙◌, inl, inr, arith, refl, sym, ap, subst, Bool, true, false, cond, not, List, [], ◌∷◌, ◌++◌, Option, Some, None}
use Rattle.std.specs.Prelude.{nat_le}
use Rattle.vr_base.specs.Replicas.{size}
use Rattle.vr_ckpt.specs.declared.name.Name.{Name}
use Rattle.vr_header.specs.declared.header.Header.{Header}
use Rattle.vr_msg.specs.declared.event.Event.{Event}
use Rattle.vr_msg.specs.declared.frame.Frame.{Frame}
use Rattle.vr_msg.specs.declared.frame.Frame.TheVariants as frame
use Rattle.vr_msg.specs.declared.output.Output.{Output}
use Rattle.vr_msg.specs.declared.output.Output.TheVariants as output
use Rattle.vr_msg.specs.Normal.{primary}
use Rattle.vr_rules.specs.Replica.{Replica, view_change, head, is_alone, is_primary, part_at, statement_of}
use Rattle.vr_rules.specs.Outputs.{send_to, to_primary, do_view_change, get_block, get_prepare}
use Rattle.vr_rules.specs.Steps.{Say, Setting, Step, Word, ◌⨾◌, quiet, change, says, by, naming, when, after_all}
use Rattle.vr_rules.specs.Words.{try, speak, peer, turned, ask_peer, least_absent, ask_for, ask, visit}
use Rattle.vr_rules.specs.Rules.{heard_of, idler}
use Rattle.vr_rules.proofs.Keeping.{sound_alike}
use Rattle.vr_rules.proofs.SilentSteps.{still_ask}
use Rattle.vr_rules.proofs.SilentWaits.{Mute, mute_quiet, mute_then, mute_visit}
use Rattle.law_1_machine.specs.Basics.{In}
use Rattle.law_1_machine.specs.Group.{Group, sends}
use Rattle.law_1_machine.specs.Members as machine
use Rattle.law_1_machine.specs.Members.{Message, Do_view_change}
use Rattle.law_1_machine.specs.Machine as move
use Rattle.law_2_chains.specs.Local.{Local, begun, through, carried, WhereverCut}
use Rattle.law_2_chains.specs.Chains.{Setup, Every, AsksNothingFrame, AsksNothing, WasMade, WasSent, Under, Mid, Stopped, Goes, statement_told}
use Rattle.law_2_chains.specs.Finished.{IsNumbered, IsSaid, a_statement, IsTrue, Finished, Finishes}
use Rattle.law_2_chains.specs.Tables.{Fits}
use Rattle.law_2_chains.proofs.Scripts.{every_append, every_map, carried_append, cut_append, goes_then, goes_quiet, goes_change, goes_by, goes_naming, goes_when}
use Rattle.law_2_chains.proofs.Readying.{free_ready}
use Rattle.law_2_chains.proofs.Moving.{stops, mid_stays}
use Rattle.law_2_chains.proofs.Applying.{goes_says_then}
use Rattle.law_2_chains.proofs.Picking.{Hears, says_statement}
use Rattle.law_2_chains.proofs.Choices.{GoesAndChooses, Concludes, chooses_then, concludes_by, concludes_goes, concludes_if, concludes_none, with_chosen}
use Rattle.law_2_chains.proofs.Beginning.{AreStated, own_tells, own_is, goes_try}
use Rattle.law_2_chains.proofs.Finishing.{true_more, said_more, finished, goes_finishes}
use Rattle.law_2_chains.proofs.Visits.{visits_is, passes, goes_visit, finished_visits}

in_left : {X : Type 0} (x : X) (xs ys : List X) → In x xs → In x (xs ++ ys)
in_left x [] ys h = absurd h
in_left x (y ∷ ys) zs h = elim h [ inl e ↦ inl e | inr j ↦ inr (in_left x ys zs j) ]

same_claim : (a b v w : ℕ) (x y : machine.Statement Header) → a ≡ b → v ≡ w → x ≡ y → Do_view_change a v x ≡ Do_view_change b w y
same_claim a b v w x y d e f = ap (λ (k : ℕ). Do_view_change k v x) d ∙ (ap (λ (k : ℕ). Do_view_change b k x) e ∙ ap (λ (z : machine.Statement Header). Do_view_change b w z) f)

module _ (u : Setup) (start : Group Header) (i : ℕ) where
  -- ---- the statement

  finished_states : (r : Replica) (l : Local) (s : Group Header) (x : Finished u start i r l s) → r.log_view < r.view → (o : Output) → o ≡ output.Send (record { from = r.index; to = primary r.n r.view; message = do_view_change r })
      → (a : Group Header) × Finished u start i r (through (Say o) l) a
  finished_states r l s x lower o is =
      let m = x.memory in
      let view = x.reflects.view in
      let log_view = x.reflects.log_view in
      let tags = (statement_told (statement_of r)).tags in
      let y : Message Header = Do_view_change i m.view (machine.statement m tags) in
      let same : Do_view_change r.index r.view (statement_told (statement_of r)) ≡ y =
      same_claim r.index i r.view m.view (statement_told (statement_of r)) (machine.statement m tags) x.place (sym view) (own_is r m x.reflects) in
      let more : (z : Message Header) → In z s.sent → In z (y ∷ s.sent) = λ z h. inr h in (
        sends s y,
        record {
          reached = move.and_then s (sends s y) x.reached (move.says i m y x.running (move.states tags (omega arith) (own_tells r m x.sound x.reflects)));
          others = x.others;
          disk = let d = x.disk in record { last = d.last; under = d.under; slots = d.slots; size = d.size };
          made = every_append (WasMade s.made) l.made [] x.made tt;
          none_made = x.none_made;
          memory = m;
          running = x.running;
          reflects = x.reflects;
          sound = x.sound;
          place = x.place;
          size = x.size;
          stored = x.stored;
          served = x.served;
          kept = λ z h. inr (x.kept z h);
          chosen = x.chosen;
          told = every_append (IsTrue u start.sent (y ∷ s.sent)) l.said (o ∷ []) (every_map (IsTrue u start.sent s.sent) (IsTrue u start.sent (y ∷ s.sent)) l.said (true_more u start.sent s.sent (y ∷ s.sent) more) x.told) (rw is (inl same, tt), tt);
          only = λ z h. elim h [
            | inl e ↦ inr (subst (IsSaid u (l.said ++ o ∷ [])) (sym e) (a_statement i m.view (machine.statement m tags)))
            | inr h ↦ elim (x.only z h) [ inl old ↦ inl old | inr said ↦ inr (said_more u l.said (l.said ++ o ∷ []) (λ p j. in_left p l.said (o ∷ []) j) z said) ]
          ];
        },
      )

  finishes_states : {F : Type 0} (t : Setting F) (r : Replica) (f : F) (l : Local) (s : Group Header) → Mid u start i r l s → r.log_view < r.view → Finishes u start i l (says (to_primary do_view_change) t r f)
  unfolding says
  finishes_states t r f l s x lower =
      let y = finished u start i r l s x in
      let o : Output = output.Send (record { from = r.index; to = primary r.n r.view; message = do_view_change r }) in
      let z = finished_states r l y.0 y.1 lower o refl in
      let made1 = every_append (WasMade s.made) l.made [] x.under.made tt in
      record { after = z.0; ends = z.1; cuts = (stops u start i l (begun (Say o) l) s x.under x.under.disk made1, tt); stopped = stops u start i l (through (Say o) l) s x.under x.under.disk made1 }

  pub concludes_speak : {F : Type 0} (fits : Fits u) (several : 2 ≤ u.quorums.n) (e : Event) (o : Replica) (t : Setting F) (r : Replica) (f : F) (l : Local) (s : Group Header) → Mid u start i r l s → Hears e o r → AreStated u start r → Every AsksNothing l.said
      → r.log_view < r.view → Concludes u start i e o l (speak t r f)
  unfolding speak
  concludes_speak fits several e o t r f l s x hears all free lower =
      concludes_by u start i e o _ t r f l (concludes_if u start i e o (nat_le (view_change r.n) (size r.heard)) _ quiet t r f l
      (λ b. concludes_if u start i e o (is_primary r) try (says (to_primary do_view_change)) t r f l (λ c. concludes_goes u start i e o l _ (goes_try u fits several start i e o t r f l s x hears all free))
      (λ c. concludes_none u start i e o (says (to_primary do_view_change)) says_statement t r f l (finishes_states t r f l s x lower)))
      (λ b. concludes_none u start i e o quiet mute_quiet t r f l (goes_finishes u start i l _ (goes_quiet u start i t r f l s x))))

  -- ---- what changes nothing for the machine

  pub mid_heard : (sender : ℕ) (r : Replica) (l : Local) (s : Group Header) → Mid u start i r l s → Mid u start i (heard_of sender r) l s
  unfolding head part_at
  mid_heard sender r l s x =
      let f = x.reflects in
      mid_stays u start i r (heard_of sender r) l s x
      (record { view = f.view; log_view = f.log_view; checkpoint = f.checkpoint; commit = f.commit; applied = f.applied; reach = f.reach; parts = f.parts; loaded = f.loaded; waits = f.waits })
      (sound_alike r (heard_of sender r) refl x.sound) refl refl x.stored

  pub mid_idler : (r : Replica) (l : Local) (s : Group Header) → Mid u start i r l s → Mid u start i (idler r) l s
  unfolding head part_at
  mid_idler r l s x =
      let f = x.reflects in
      mid_stays u start i r (idler r) l s x
      (record { view = f.view; log_view = f.log_view; checkpoint = f.checkpoint; commit = f.commit; applied = f.applied; reach = f.reach; parts = f.parts; loaded = f.loaded; waits = f.waits })
      (sound_alike r (idler r) refl x.sound) refl refl x.stored

  mid_turned : (r : Replica) (l : Local) (s : Group Header) → Mid u start i r l s → Mid u start i (turned r) l s
  unfolding head part_at
  mid_turned r l s x =
      let f = x.reflects in
      mid_stays u start i r (turned r) l s x
      (record { view = f.view; log_view = f.log_view; checkpoint = f.checkpoint; commit = f.commit; applied = f.applied; reach = f.reach; parts = f.parts; loaded = f.loaded; waits = f.waits })
      (sound_alike r (turned r) refl x.sound) refl refl x.stored

  asks_peer : {F : Type 0} (message : Replica → Frame) (t : Setting F) (r : Replica) (f : F) (l : Local) (s : Group Header) → Mid u start i r l s → AsksNothing (output.Send (record { from = r.index; to = peer r; message = message r }))
      → Goes u start i l (ask_peer message t r f)
  unfolding ask_peer
  asks_peer message t r f l s x free =
      goes_says_then u start i (λ r. send_to (peer r) (message r) r) (change turned) t r f l s x (free_ready u start.sent i x.memory (s.members i).slots (send_to (peer r) (message r) r) (free, tt))
      (λ k a d y. goes_change u start i turned t r d k a (mid_turned r k a y))

  asks_for : {F : Type 0} (names : List Name) (absent : Option Header) (worn : List Name) (t : Setting F) (r : Replica) (f : F) (l : Local) (s : Group Header) → Mid u start i r l s
      → Goes u start i l (ask_for names absent worn t r f)
  asks_for (name ∷ names) absent worn t r f l s x = asks_peer (get_block name) t r f l s x tt
  asks_for [] (Some h) worn t r f l s x = goes_naming u start i _ t r f l (asks_peer (get_prepare t.hash h) t r f l s x tt)
  asks_for [] None (name ∷ names) t r f l s x = asks_peer (get_block name) t r f l s x tt
  asks_for [] None [] t r f l s x = goes_quiet u start i t r f l s x

  pub goes_ask : {F : Type 0} (t : Setting F) (r : Replica) (f : F) (l : Local) (s : Group Header) → Mid u start i r l s → Goes u start i l (ask t r f)
  unfolding ask
  goes_ask t r f l s x =
      goes_by u start i _ t r f l (goes_when u start i (not (is_alone r)) (ask_for r.missing (least_absent r) r.worn) t r f l s x (λ b. asks_for r.missing (least_absent r) r.worn t r f l s x))

  -- at each tick a place of the disk is visited, and then something is asked for
  pub goes_looks : {F : Type 0} (t : Setting F) (r : Replica) (f : F) (l : Local) (s : Group Header) → Mid u start i r l s → Goes u start i l ((visit ⨾ ask) t r f)
  goes_looks t r f l s x = goes_then u start i visit ask t r f l (goes_visit u start i t r f l s x) (λ a z. goes_ask t _ _ _ a z)

-- ---- what is asked after a statement

-- an ask says nothing, or one thing that asks nothing of the replica
data Asks {F : Type 0} (t : Setting F) (r : Replica) (f : F) : Type 0 where
  nothing : ask t r f ≡ record { replica = r; script = [] } → Asks t r f
  one : (o : Output) → AsksNothing o → ask t r f ≡ record { replica = turned r; script = Say o ∷ [] } → Asks t r f

asks_one : {F : Type 0} (message : Replica → Frame) (t : Setting F) (r : Replica) (f : F) → ask_peer message t r f ≡ record { replica = turned r; script = Say (output.Send (record { from = r.index; to = peer r; message = message r })) ∷ [] }
unfolding ask_peer says change ◌⨾◌
asks_one message t r f = refl

asks_of : {F : Type 0} (names : List Name) (absent : Option Header) (worn : List Name) (t : Setting F) (r : Replica) (f : F) → ask t r f ≡ ask_for names absent worn t r f → Asks t r f
unfolding naming quiet
asks_of (name ∷ names) absent worn t r f e = one (output.Send (record { from = r.index; to = peer r; message = get_block name r })) tt (e ∙ asks_one (get_block name) t r f)
asks_of [] (Some h) worn t r f e = one (output.Send (record { from = r.index; to = peer r; message = get_prepare t.hash h r })) tt (e ∙ asks_one (get_prepare t.hash h) t r f)
asks_of [] None (name ∷ names) t r f e = one (output.Send (record { from = r.index; to = peer r; message = get_block name r })) tt (e ∙ asks_one (get_block name) t r f)
asks_of [] None [] t r f e = nothing e

asks_when : {F : Type 0} (b : Bool) (t : Setting F) (r : Replica) (f : F) → ask t r f ≡ when b (ask_for r.missing (least_absent r) r.worn) t r f → Asks t r f
unfolding quiet
asks_when true t r f e = asks_of r.missing (least_absent r) r.worn t r f e
asks_when false t r f e = nothing e

asks_is : {F : Type 0} (t : Setting F) (r : Replica) (f : F) → Asks t r f
unfolding ask by
asks_is t r f = asks_when (not (is_alone r)) t r f refl

-- a visit says nothing, and an ask no choose line
pub mute_looks : {F : Type 0} → Mute {F = F} (visit ⨾ ask)
mute_looks = mute_then visit ask mute_visit still_ask.mute

free_sent : (u : Setup) (sent : List (Message Header)) (x : Frame) → AsksNothingFrame x → WasSent u sent x
free_sent u sent (frame.Request q) h = tt
free_sent u sent (frame.Reply a) h = tt
free_sent u sent (frame.Prepare p) h = absurd h
free_sent u sent (frame.PrepareOk a) h = absurd h
free_sent u sent (frame.Commit c) h = absurd h
free_sent u sent (frame.StartViewChange c) h = tt
free_sent u sent (frame.DoViewChange d) h = absurd h
free_sent u sent (frame.StartView v) h = absurd h
free_sent u sent (frame.GetView g) h = tt
free_sent u sent (frame.GetPrepare g) h = tt
free_sent u sent (frame.GivePrepare g) h = tt
free_sent u sent (frame.GetBlock g) h = tt
free_sent u sent (frame.GiveBlock g) h = tt
free_sent u sent (frame.GetSync g) h = tt
free_sent u sent (frame.SyncView v) h = absurd h

free_numbered : (u : Setup) (sent : List (Message Header)) (x : Frame) → AsksNothingFrame x → IsNumbered u sent x
free_numbered u sent (frame.Request q) h = tt
free_numbered u sent (frame.Reply a) h = tt
free_numbered u sent (frame.Prepare p) h = absurd h
free_numbered u sent (frame.PrepareOk a) h = absurd h
free_numbered u sent (frame.Commit c) h = absurd h
free_numbered u sent (frame.StartViewChange c) h = tt
free_numbered u sent (frame.DoViewChange d) h = absurd h
free_numbered u sent (frame.StartView v) h = absurd h
free_numbered u sent (frame.GetView g) h = tt
free_numbered u sent (frame.GetPrepare g) h = tt
free_numbered u sent (frame.GivePrepare g) h = tt
free_numbered u sent (frame.GetBlock g) h = tt
free_numbered u sent (frame.GiveBlock g) h = tt
free_numbered u sent (frame.GetSync g) h = tt
free_numbered u sent (frame.SyncView v) h = absurd h

free_true : (u : Setup) (before sent : List (Message Header)) (o : Output) → AsksNothing o → IsTrue u before sent o
free_true u before sent (output.Send s) h = (free_sent u sent s.message h, free_numbered u before s.message h)
free_true u before sent (output.Commit c) h = absurd h
free_true u before sent (output.Reply a) h = tt
free_true u before sent (output.Choose l) h = tt
free_true u before sent (output.Wait w) h = tt
free_true u before sent (output.Start s) h = tt
free_true u before sent (output.Halted r) h = tt
free_true u before sent (output.Migrated r) h = tt
free_true u before sent output.Done h = tt
free_true u before sent output.KeptOut h = tt

module _ (u : Setup) (start : Group Header) (i : ℕ) where
  finished_asks : (r : Replica) (l : Local) (s : Group Header) (x : Finished u start i r l s) (o : Output) → AsksNothing o → Finished u start i (turned r) (through (Say o) l) s
  unfolding head part_at
  finished_asks r l s x o free =
      let f = x.reflects in
      record {
        reached = x.reached;
        others = x.others;
        disk = x.disk;
        made = every_append (WasMade s.made) l.made [] x.made tt;
        none_made = x.none_made;
        memory = x.memory;
        running = x.running;
        reflects = record { view = f.view; log_view = f.log_view; checkpoint = f.checkpoint; commit = f.commit; applied = f.applied; reach = f.reach; parts = f.parts; loaded = f.loaded; waits = f.waits };
        sound = sound_alike r (turned r) refl x.sound;
        place = x.place;
        size = x.size;
        stored = x.stored;
        served = x.served;
        kept = x.kept;
        chosen = x.chosen;
        told = every_append (IsTrue u start.sent s.sent) l.said (o ∷ []) x.told (free_true u start.sent s.sent o free, tt);
        only = λ z h. elim (x.only z h) [ inl old ↦ inl old | inr said ↦ inr (said_more u l.said (l.said ++ o ∷ []) (λ p j. in_left p l.said (o ∷ []) j) z said) ];
      }

  -- what is asked, if anything, comes after all else that was done
  record Asked {F : Type 0} (t : Setting F) (r : Replica) (f : F) (l : Local) : Type 0 where
    after : Group Header
    ends : Finished u start i (ask t r f).replica (carried (ask t r f).script l) after
    cuts : WhereverCut (Stopped u start i) (ask t r f).script l
    stopped : Stopped u start i (carried (ask t r f).script l)

  asked : {F : Type 0} (t : Setting F) (r : Replica) (f : F) (l : Local) (s a : Group Header) → Under u start i l s → Finished u start i r l a → Asked t r f l
  asked t r f l s a x y =
      elim (asks_is t r f) [
        | nothing e ↦ record {
          after = a;
          ends = subst (λ (p : Step). Finished u start i p.replica (carried p.script l) a) (sym e) y;
          cuts = subst (λ (p : Step). WhereverCut (Stopped u start i) p.script l) (sym e) tt;
          stopped = subst (λ (p : Step). Stopped u start i (carried p.script l)) (sym e) (stops u start i l l s x x.disk x.made);
        }
        | one o free e ↦
            let made = every_append (WasMade s.made) l.made [] x.made tt in
            record {
              after = a;
              ends = subst (λ (p : Step). Finished u start i p.replica (carried p.script l) a) (sym e) (finished_asks r l a y o free);
              cuts = subst (λ (p : Step). WhereverCut (Stopped u start i) p.script l) (sym e) (stops u start i l (begun (Say o) l) s x x.disk made, tt);
              stopped = subst (λ (p : Step). Stopped u start i (carried p.script l)) (sym e) (stops u start i l (through (Say o) l) s x x.disk made);
            }
      ]

  -- the statement is sent, a place of the disk is visited, and then something is asked for
  finishes_states_looks : {F : Type 0} (t : Setting F) (r : Replica) (f : F) (l : Local) (s : Group Header) → Mid u start i r l s → r.log_view < r.view → Finishes u start i l ((says (to_primary do_view_change) ⨾ visit ⨾ ask) t r f)
  unfolding says ◌⨾◌
  finishes_states_looks t r f l s x lower =
      let y = finished u start i r l s x in
      let o : Output = output.Send (record { from = r.index; to = primary r.n r.view; message = do_view_change r }) in
      let z = finished_states u start i r l y.0 y.1 lower o refl in
      let l1 : Local = through (Say o) l in
      let made1 = every_append (WasMade s.made) l.made [] x.under.made tt in
      let under1 : Under u start i l1 s = record { reached = x.under.reached; sent = x.under.sent; chosen = x.under.chosen; others = x.under.others; disk = x.under.disk; made = made1; none_made = x.under.none_made } in
      let cut1 = stops u start i l (begun (Say o) l) s x.under x.under.disk made1 in
      let d = after_all t f (Say o ∷ []) in
      let seen : Step = visit t r d in
      let v = visits_is t r d x.sound in
      let p = passes u start i r seen l1 s under1 x.stored v in
      let w = finished_visits u start i r seen l1 z.0 z.1 v in
      let d2 = after_all t d seen.script in
      let l2 : Local = carried seen.script l1 in
      let q = asked t seen.replica d2 l2 p.after w.0 p.under w.1 in
      let es = (ask t seen.replica d2).script in
      record {
        after = q.after;
        ends = rw (carried_append seen.script es l1) q.ends;
        cuts = (cut1, cut_append (Stopped u start i) seen.script es l1 p.cuts q.cuts);
        stopped = rw (carried_append seen.script es l1) q.stopped;
      }

  tries_looks : {F : Type 0} (fits : Fits u) (several : 2 ≤ u.quorums.n) (e : Event) (o : Replica) (t : Setting F) (r : Replica) (f : F) (l : Local) (s : Group Header) → Mid u start i r l s → Hears e o r → AreStated u start r → Every AsksNothing l.said
      → GoesAndChooses u start i e o l ((try ⨾ visit ⨾ ask) t r f)
  tries_looks fits several e o t r f l s x hears all free =
      let h = goes_try u fits several start i e o t r f l s x hears all free in
      chooses_then u start i e o try (visit ⨾ ask) mute_looks t r f l h (λ z. goes_looks u (with_chosen h.goes.after.chosen start) i t _ _ _ _ z)

  nothing_looks : {F : Type 0} (t : Setting F) (r : Replica) (f : F) (l : Local) (s : Group Header) → Mid u start i r l s → Goes u start i l ((quiet ⨾ visit ⨾ ask) t r f)
  nothing_looks t r f l s x = goes_then u start i quiet (visit ⨾ ask) t r f l (goes_quiet u start i t r f l s x) (λ a z. goes_looks u start i t _ _ _ a z)

  pub concludes_speak_looks : {F : Type 0} (fits : Fits u) (several : 2 ≤ u.quorums.n) (e : Event) (o : Replica) (t : Setting F) (r : Replica) (f : F) (l : Local) (s : Group Header) → Mid u start i r l s → Hears e o r → AreStated u start r → Every AsksNothing l.said
      → r.log_view < r.view → Concludes u start i e o l ((speak ⨾ visit ⨾ ask) t r f)
  unfolding speak by ◌⨾◌
  concludes_speak_looks {F} fits several e o t r f l s x hears all free lower =
      let says_it : Word F = says (to_primary do_view_change) in
      elim (nat_le (view_change r.n) (size r.heard)) as (λ b. Concludes u start i e o l ((when b (cond (is_primary r) try says_it) ⨾ visit ⨾ ask) t r f)) [
        | true ↦
            elim (is_primary r) as (λ c. Concludes u start i e o l ((cond c try says_it ⨾ visit ⨾ ask) t r f)) [
              | true ↦ concludes_goes u start i e o l _ (tries_looks fits several e o t r f l s x hears all free)
              | false ↦ concludes_none u start i e o (says_it ⨾ visit ⨾ ask) (mute_then says_it (visit ⨾ ask) says_statement mute_looks) t r f l (finishes_states_looks t r f l s x lower)
            ]
        | false ↦ concludes_none u start i e o (quiet ⨾ visit ⨾ ask) (mute_then quiet (visit ⨾ ask) mute_quiet mute_looks) t r f l (goes_finishes u start i l _ (nothing_looks t r f l s x))
      ]
