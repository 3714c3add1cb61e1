-- Words that are chains in two parts: in the first the replica stores, then it vouches, and the second goes on from there.
use Rattle.std.proofs.Common.{ℕ, ◌≡◌, ◌∙◌, inl, inr, refl, sym, ap, subst, List, [], ◌++◌, map, take}
use Rattle.std.proofs.lemmas.List.{append_assoc}
use Rattle.std.proofs.lemmas.List.Elements.{All-contains}
use Rattle.vr_header.specs.declared.header.Header.{Header}
use Rattle.vr_msg.specs.declared.event.Event.{Event}
use Rattle.vr_msg.specs.declared.output.Output.{Output}
use Rattle.vr_msg.specs.declared.output.Output.TheVariants as output
use Rattle.vr_super.specs.Copies.{SuperValue}
use Rattle.vr_rules.specs.Replica.{Replica}
use Rattle.vr_rules.specs.Steps.{Effect, Say, Setting, Step, Word, ◌⨾◌, after_all, change, outputs, says}
use Rattle.vr_rules.proofs.SilentWaits.{Mute}
use Rattle.vr_world.specs.Commitment.{Stored}
use Rattle.vr_world.specs.Storing.{here_in, in_view, stored_by}
use Rattle.law_1_machine.specs.Basics.{In}
use Rattle.law_1_machine.specs.Group.{Group}
use Rattle.law_1_machine.specs.Members.{Choice, Message}
use Rattle.law_2_chains.specs.Begins.{as_it_was}
use Rattle.law_2_chains.specs.Chains.{Setup, Every, AsksNothing, Goes, Mid, Stopped}
use Rattle.law_2_chains.specs.Choices.{IsMadeFrom}
use Rattle.law_2_chains.specs.Finished.{Finished}
use Rattle.law_2_chains.specs.Local.{Local, carried}
use Rattle.law_2_chains.specs.Lone.{IsStored, LoneChooses, Vouched, vouch_for}
use Rattle.law_2_chains.proofs.Calm.{Calms}
use Rattle.law_2_chains.proofs.Choices.{AreMade, are_append, are_more, are_none, cuts_back, finished_back, made_more, mid_back, mid_from, with_chosen}
use Rattle.law_2_chains.proofs.Finishing.{finished}
use Rattle.law_2_chains.proofs.Holding.{holds_same, tables_hold}
use Rattle.law_2_chains.proofs.Lone.{vouches_at_end}
use Rattle.law_2_chains.proofs.LoneSteps.{in_order}
use Rattle.law_2_chains.proofs.Moving.{stops}
use Rattle.law_2_chains.proofs.Picking.{IsPicked}
use Rattle.law_2_chains.proofs.Scripts.{carried_append, cut_append, every_append}
use Rattle.law_2_chains.proofs.StoredLists.{IsCalm, LastCounts, calm_same, counts_late, held_by, held_said, in_its, in_parts, last_said, stored_said}
use Rattle.law_2_chains.proofs.Tabling.{Since, Tabled, in_left, in_right, since_finished}
use Rattle.law_2_chains.proofs.Tallies.{tables_vouched}

module _ (u : Setup) (start : Group Header) (i : ℕ) (e : Event) (o : Replica) where
  -- With this value saved last, and these stored: in the first part something is stored at its end, and counts; what the replica has stored
  -- then it vouches for, and that is what counts; and nothing more comes to count by the second.
  pub record LoneGoes (v : SuperValue) (hs : List Header) (l : Local) (x : Step) : Type 0 where
    pub first : Step
    pub second : Step
    pub script : x.script ≡ first.script ++ second.script
    pub replica : x.replica ≡ second.replica
    pub goes : Goes u start i l first
    pub silent : Every AsksNothing (carried first.script l).said
    pub last : LastCounts v hs first.script
    pub based : (h : Header) → In h (held_by hs first.script) → first.replica.view ≡ first.replica.log_view → In (in_its first.replica.view h) (stored_by v hs first.script)
    pub steady : (second.replica.view ≡ first.replica.view) × (second.replica.log_view ≡ first.replica.log_view)
    pub calm : Every (IsCalm first.replica.view first.replica.log_view) second.script
    pub ground : Group Header
    pub grounds : Vouched i first.replica goes.after ground
    pub held : (m : Message Header) → IsStored i first.replica m → (x : Stored) × In x (stored_by v hs first.script) × (m ≡ vouch_for i x)
    pub counted : (x : Stored) → In x (stored_by v hs first.script) → In (vouch_for i x) ground.sent
    pub going : Goes u ground i (carried first.script l) second
    pub made : AreMade going.after.chosen e o x.script

  pub lone_changed : {F : Type 0} (v : SuperValue) (hs : List Header) (g : Replica → Replica) (w : Word F) (t : Setting F) (r : Replica) (f : F) (l : Local) → ((d : F) → LoneGoes v hs l (w t (g r) d)) → LoneGoes v hs l ((change g ⨾ w) t r f)
  unfolding change ◌⨾◌
  lone_changed v hs g w t r f l go =
      let h = go (after_all t f []) in
      record { first = h.first; second = h.second; script = h.script; replica = h.replica; goes = h.goes; silent = h.silent; last = h.last; based = h.based; steady = h.steady; calm = h.calm; ground = h.ground; grounds = h.grounds; held = h.held; counted = h.counted; going = h.going; made = h.made }

  -- outputs that choose nothing, and then a chain in two parts
  pub then_lone : {F : Type 0} (v : SuperValue) (hs : List Header) (os : Replica → List Output) (w : Word F) → Mute {F = F} (says os) → (t : Setting F) (r : Replica) (f : F) (l : Local) → Goes u start i l (says os t r f)
      → ((a : Group Header) (d : F) → Mid u start i r (carried (map Say (os r)) l) a → LoneGoes v hs (carried (map Say (os r)) l) (w t r d))
      → LoneGoes v hs l ((says os ⨾ w) t r f)
  unfolding ◌⨾◌ says
  then_lone v hs os w m t r f l h k =
      let a : List Effect = map Say (os r) in
      let d = after_all t f a in
      let g = k h.after d h.ends in
      let b = w t r d in
      let more = carried_append a g.first.script l in
      let same : stored_by v hs (a ++ g.first.script) ≡ stored_by v hs g.first.script = stored_said (os r) g.first.script v hs in
      record {
        first = record { replica = g.first.replica; script = a ++ g.first.script };
        second = g.second;
        script = ap (λ (es : List Effect). a ++ es) g.script ∙ sym (append_assoc a g.first.script g.second.script);
        replica = g.replica;
        goes = record { after = g.goes.after; ends = rw more g.goes.ends; cuts = cut_append (Stopped u start i) a g.first.script l h.cuts g.goes.cuts };
        silent = rw more g.silent;
        last = last_said (os r) g.first.script v hs g.last;
        based = λ c j begun. subst (In (in_its g.first.replica.view c)) (sym same) (g.based c (subst (In c) (held_said (os r) g.first.script hs) j) begun);
        steady = g.steady;
        calm = g.calm;
        ground = g.ground;
        grounds = g.grounds;
        held = λ y z. let p = g.held y z in (p.0, subst (In p.0) (sym same) p.1, p.2);
        counted = λ y j. g.counted y (subst (In y) same j);
        going = record { after = g.going.after; ends = rw more g.going.ends; cuts = rw more g.going.cuts };
        made = are_append g.going.after.chosen e o a b.script (are_none g.going.after.chosen e o (says os) m t r f) g.made;
      }

  -- one in two parts, and then a chain without a choice
  pub lone_then : {F : Type 0} (old : SuperValue) (hs : List Header) (v w : Word F) → Mute w → Calms w → (t : Setting F) (r : Replica) (f : F) (l : Local) → LoneGoes old hs l (v t r f)
      → ((s a : Group Header) (k : Local) (d : F) → Mid u s i (v t r f).replica k a → Goes u s i k (w t (v t r f).replica d)) → LoneGoes old hs l ((v ⨾ w) t r f)
  unfolding ◌⨾◌
  lone_then old hs v w m calms t r f l h go =
      let a = v t r f in
      let d = after_all t f a.script in
      let b = w t a.replica d in
      let k : Local = carried h.first.script l in
      let n : Local = carried h.second.script k in
      let same : (a.replica.view ≡ h.second.replica.view) × (a.replica.log_view ≡ h.second.replica.log_view) = (ap (λ (z : Replica). z.view) h.replica, ap (λ (z : Replica). z.log_view) h.replica) in
      let views = calms.views t a.replica d in
      let cs = h.going.after.chosen in
      let x = h.going.ends in
      let here : Mid u (with_chosen cs h.ground) i a.replica n h.going.after = rw h.replica (mid_from u h.ground i h.second.replica n h.going.after x) in
      let y = go (with_chosen cs h.ground) h.going.after n d here in
      let kept : (c : Choice Header) → In c cs → In c y.after.chosen = y.ends.under.chosen in
      record {
        first = h.first;
        second = record { replica = b.replica; script = h.second.script ++ b.script };
        script = ap (λ (es : List Effect). es ++ b.script) h.script ∙ append_assoc h.first.script h.second.script b.script;
        replica = refl;
        goes = h.goes;
        silent = h.silent;
        last = h.last;
        based = h.based;
        steady = (views.0 ∙ (same.0 ∙ h.steady.0), views.1 ∙ (same.1 ∙ h.steady.1));
        calm = every_append (IsCalm h.first.replica.view h.first.replica.log_view) h.second.script b.script h.calm
            (calm_same a.replica.view h.first.replica.view a.replica.log_view h.first.replica.log_view b.script (same.0 ∙ h.steady.0) (same.1 ∙ h.steady.1) (calms.every t a.replica d));
        ground = h.ground;
        grounds = h.grounds;
        held = h.held;
        counted = h.counted;
        going = record {
          after = y.after;
          ends = rw (carried_append h.second.script b.script k) (mid_back u h.ground i cs x.under.chosen b.replica (carried b.script n) y.after y.ends);
          cuts = cut_append (Stopped u h.ground i) h.second.script b.script k h.going.cuts (cuts_back u h.ground i cs x.under.chosen b.script n y.cuts);
        };
        made = are_append y.after.chosen e o a.script b.script (are_more cs y.after.chosen kept e o a.script h.made) (are_none y.after.chosen e o w m t a.replica d);
      }

  -- to the end of a step of the replica, where its tables are true
  pub lone_ends : (l : Local) (x : Step) → LoneGoes o.saved (here_in o) l x → Tabled u start i x → LoneChooses u start i l e o x
  lone_ends l x h tabled =
      let begin : List Stored = in_view o.saved (here_in o) in
      let k : Local = carried h.first.script l in
      let n : Local = carried h.second.script k in
      let g = h.going in
      let cs = g.after.chosen in
      let z = g.ends.under in
      let y = finished u (with_chosen cs h.ground) i h.second.replica n g.after (mid_from u h.ground i h.second.replica n g.after g.ends) in
      let ends : Finished u h.ground i h.second.replica n y.0 = finished_back u h.ground i cs z.chosen h.second.replica n y.0 y.1 in
      let whole : Finished u h.ground i x.replica (carried x.script l) y.0 = rw (h.script, h.replica, carried_append h.first.script h.second.script l) ends in
      let w = vouches_at_end u h.ground i x.replica (carried x.script l) y.0 whole in
      let since = since_finished u h.ground i x.replica l x.script y.0 whole in
      let under = h.goes.ends.under in
      let from_start : Since u start (outputs x.script) y.0 = record {
        made = since.made ∙ (h.grounds.made ∙ under.none_made);
        kept = λ m j. since.kept m (h.grounds.kept m (subst (In m) (sym under.sent) j));
        said = since.said;
      } in
      record {
        chain = record {
          first = h.first;
          second = h.second;
          script = h.script;
          replica = h.replica;
          begun = start;
          begins = as_it_was;
          goes = h.goes;
          silent = h.silent;
          early = λ j less y z. elim (in_parts y begin (stored_by o.saved (here_in o) (take j h.first.script)) z) [ inl old ↦ in_left y begin _ old | inr new ↦ absurd (h.last j y less new) ];
          late = counts_late o h.first.replica.view h.first.replica.log_view h.first.script h.second.script h.calm (λ c j begun. in_right _ begin (stored_by o.saved (here_in o) h.first.script) (h.based c j begun));
          ground = h.ground;
          grounds = h.grounds;
          held = λ m z. let p = h.held m z in (p.0, in_right p.0 begin (stored_by o.saved (here_in o) h.first.script) p.1, p.2);
          counted = h.counted;
          finishes = record { after = y.0; ends = ends; cuts = g.cuts; stopped = stops u h.ground i n n g.after z z.disk z.made };
          after = w.0;
          reached = w.1;
          vouches = w.2;
          tables = λ b. tables_vouched u w.0 i x.replica y.0 (in_order x.replica whole.sound) w.2 (tables_hold u y.0 w.0 i x.replica x.replica (holds_same x.replica) w.2.made w.2.kept (tabled y.0 from_start));
        };
        choices = λ line j.
            made_more cs w.0.chosen (λ c q. subst (In c) (sym w.2.chosen) (y.1.chosen c q)) e o line (All-contains (IsPicked (IsMadeFrom cs e o)) (outputs x.script) (output.Choose line) h.made j);
      }
