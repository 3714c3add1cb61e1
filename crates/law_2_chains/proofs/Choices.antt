-- Words that may say a choose line: what they choose is among the choices of the machine at their end.
use Rattle.std.proofs.Common.{ℕ, ◌≡◌, ◌∙◌, refl, ap, Bool, true, false, cond, List, [], ◌∷◌, ◌++◌}
use Rattle.std.specs.Prelude.{All}
use Rattle.std.proofs.lemmas.List.Elements.{All-append, All-weaker}
use Rattle.vr_header.specs.declared.header.Header.{Header}
use Rattle.vr_msg.specs.declared.event.Event.{Event}
use Rattle.vr_msg.specs.declared.output.Chosen.{Chosen}
use Rattle.vr_msg.specs.declared.output.Output.{Output}
use Rattle.vr_msg.specs.declared.output.Output.TheVariants as output
use Rattle.vr_msg.specs.declared.statement.Statement.{Statement}
use Rattle.vr_msg.specs.Choice.{named, top_view, top_commit}
use Rattle.vr_rules.specs.Replica.{Replica}
use Rattle.vr_world.specs.Safe.{heard_from}
use Rattle.vr_rules.specs.Steps.{Effect, Setting, Step, Word, ◌⨾◌, quiet, change, by, naming, outputs, after_all}
use Rattle.vr_rules.specs.Words.{log_end, stated}
use Rattle.vr_rules.proofs.SendsScripts.{outputs_append}
use Rattle.vr_rules.proofs.SilentWaits.{Mute}
use Rattle.law_1_machine.specs.Basics.{In}
use Rattle.law_1_machine.specs.Group.{Group}
use Rattle.law_1_machine.specs.Members.{Choice}
use Rattle.law_2_chains.specs.Local.{Local, begun, through, carried, WhereverCut}
use Rattle.law_2_chains.specs.Chains.{Setup, Under, Mid, Stopped, Goes}
use Rattle.law_2_chains.specs.Choices.{IsMadeFrom, told_if}
use Rattle.law_2_chains.specs.Finished.{Finished, Finishes}
use Rattle.law_2_chains.proofs.Scripts.{carried_append, cut_append}
use Rattle.law_2_chains.proofs.Moving.{stops}
use Rattle.law_2_chains.proofs.Choosing.{heard_at}
use Rattle.law_2_chains.proofs.Finishing.{finished}
use Rattle.law_2_chains.proofs.Picking.{Hears, IsPicked, cell, line_of, plain, stated_is}

-- ---- from a group in which more was chosen

abbrev pub with_chosen : List (Choice Header) → Group Header → Group Header
with_chosen cs s = record s { chosen = cs }

-- what was chosen in the middle of a step stays so to its end
pub mid_from : (u : Setup) (start : Group Header) (i : ℕ) (r : Replica) (l : Local) (s : Group Header) → Mid u start i r l s → Mid u (with_chosen s.chosen start) i r l s
mid_from u start i r l s x =
    let y = x.under in
    record {
      under = record { reached = y.reached; sent = y.sent; chosen = λ c h. h; others = y.others; disk = y.disk; made = y.made; none_made = y.none_made };
      memory = x.memory;
      running = x.running;
      reflects = x.reflects;
      sound = x.sound;
      place = x.place;
      size = x.size;
      stored = x.stored;
      ready = x.ready;
    }

module _ (u : Setup) (start : Group Header) (i : ℕ) (cs : List (Choice Header)) (more : (c : Choice Header) → In c start.chosen → In c cs) where
  under_back : (l : Local) (s : Group Header) → Under u (with_chosen cs start) i l s → Under u start i l s
  under_back l s x = record { reached = x.reached; sent = x.sent; chosen = λ c h. x.chosen c (more c h); others = x.others; disk = x.disk; made = x.made; none_made = x.none_made }

  pub mid_back : (r : Replica) (l : Local) (s : Group Header) → Mid u (with_chosen cs start) i r l s → Mid u start i r l s
  mid_back r l s x =
      record { under = under_back l s x.under; memory = x.memory; running = x.running; reflects = x.reflects; sound = x.sound; place = x.place; size = x.size; stored = x.stored; ready = x.ready }

  stopped_back : (l : Local) → Stopped u (with_chosen cs start) i l → Stopped u start i l
  stopped_back l x = record { group = x.group; under = under_back l x.group x.under; still = x.still }

  pub cuts_back : (es : List Effect) (l : Local) → WhereverCut (Stopped u (with_chosen cs start) i) es l → WhereverCut (Stopped u start i) es l
  cuts_back [] l h = tt
  cuts_back (e ∷ es) l h = (stopped_back (begun e l) h.0, cuts_back es (through e l) h.1)

  pub finished_back : (r : Replica) (l : Local) (s : Group Header) → Finished u (with_chosen cs start) i r l s → Finished u start i r l s
  finished_back r l s x = record {
    reached = x.reached;
    others = x.others;
    disk = x.disk;
    made = x.made;
    none_made = x.none_made;
    memory = x.memory;
    running = x.running;
    reflects = x.reflects;
    sound = x.sound;
    place = x.place;
    size = x.size;
    stored = x.stored;
    served = x.served;
    kept = x.kept;
    chosen = λ c h. x.chosen c (more c h);
    told = x.told;
    only = x.only;
  }

-- ---- lines

pub made_more : (cs ds : List (Choice Header)) → ((c : Choice Header) → In c cs → In c ds) → (e : Event) (o : Replica) (l : Chosen) → IsMadeFrom cs e o l → IsMadeFrom ds e o l
made_more cs ds f e o l x =
    record { made = x.made; is_made = f x.made x.is_made; of_view = x.of_view; of_log_view = x.of_log_view; of_head = x.of_head; of_heard = x.of_heard; of_log = x.of_log }

picked_more : (P Q : Chosen → Type 0) → ((l : Chosen) → P l → Q l) → (x : Output) → IsPicked P x → IsPicked Q x
picked_more P Q f (output.Choose l) h = f l h
picked_more P Q f (output.Wait line) h = tt
picked_more P Q f (output.Send s) h = tt
picked_more P Q f (output.Reply a) h = tt
picked_more P Q f (output.Commit c) h = tt
picked_more P Q f (output.Start s) h = tt
picked_more P Q f (output.Halted r) h = tt
picked_more P Q f (output.Migrated r) h = tt
picked_more P Q f output.Done h = tt
picked_more P Q f output.KeptOut h = tt

-- each choose line of a script is of one of these choices
abbrev pub AreMade : List (Choice Header) → Event → Replica → List Effect → Type 0
AreMade cs e o es = All (IsPicked (IsMadeFrom cs e o)) (outputs es)

pub are_more : (cs ds : List (Choice Header)) → ((c : Choice Header) → In c cs → In c ds) → (e : Event) (o : Replica) (es : List Effect) → AreMade cs e o es → AreMade ds e o es
are_more cs ds f e o es h = All-weaker (IsPicked (IsMadeFrom cs e o)) (IsPicked (IsMadeFrom ds e o)) (λ x p. picked_more (IsMadeFrom cs e o) (IsMadeFrom ds e o) (made_more cs ds f e o) x p) (outputs es) h

pub are_append : (cs : List (Choice Header)) (e : Event) (o : Replica) (a b : List Effect) → AreMade cs e o a → AreMade cs e o b → AreMade cs e o (a ++ b)
are_append cs e o a b h k = rw (outputs_append a b) (All-append (IsPicked (IsMadeFrom cs e o)) (outputs a) (outputs b) h k)

pub are_none : {F : Type 0} (cs : List (Choice Header)) (e : Event) (o : Replica) (w : Word F) → Mute w → (t : Setting F) (r : Replica) (f : F) → AreMade cs e o (w t r f).script
are_none cs e o w m t r f = plain (IsMadeFrom cs e o) m t r f

-- what r has chosen, by what it had heard
pub record HasMade (cs : List (Choice Header)) (r : Replica) (hs : List Header) : Type 0 where
  pub made : Choice Header
  pub is_made : In made cs
  pub of_view : made.view ≡ r.view
  pub of_log_view : made.log_view ≡ top_view (stated r)
  pub of_head : made.head ≡ log_end (top_commit (stated r)) hs
  pub of_heard : (j : ℕ) → made.heard j ≡ told_if (heard_at r j)
  pub of_log : (k : ℕ) → made.log k ≡ named (stated r) k

pub line_made : (cs : List (Choice Header)) (e : Event) (o r : Replica) (hs : List Header) → Hears e o r → HasMade cs r hs → IsMadeFrom cs e o (line_of r hs)
line_made cs e o r hs h x =
    let same = stated_is e o r h in
    let heard : (j : ℕ) → heard_at r j ≡ heard_from r.view e o j = λ j. cell j r.index o.index _ _ _ _ h.index h.own (h.others j) in
    record {
      made = x.made;
      is_made = x.is_made;
      of_view = x.of_view;
      of_log_view = x.of_log_view;
      of_head = x.of_head;
      of_heard = λ j. x.of_heard j ∙ ap told_if (heard j);
      of_log = λ k. x.of_log k ∙ ap (λ (ss : List Statement). named ss k) same;
    }

-- ---- words

-- one word, then another, of whose end something holds
pub then_so : {F : Type 0} (u : Setup) (start : Group Header) (i : ℕ) (v w : Word F) (t : Setting F) (r : Replica) (f : F) (l : Local) (C : Group Header → Type 0) → Goes u start i l (v t r f)
    → ((a : Group Header) → Mid u start i (v t r f).replica (carried (v t r f).script l) a → (z : Goes u start i (carried (v t r f).script l) (w t (v t r f).replica (after_all t f (v t r f).script))) × C z.after)
    → (z : Goes u start i l ((v ⨾ w) t r f)) × C z.after
unfolding ◌⨾◌
then_so u start i v w t r f l C h k =
    let a = v t r f in
    let g = k h.after h.ends in
    let b = w t a.replica (after_all t f a.script) in
    (record { after = g.0.after; ends = rw (carried_append a.script b.script l) g.0.ends; cuts = cut_append (Stopped u start i) a.script b.script l h.cuts g.0.cuts }, g.1)

module _ (u : Setup) (start : Group Header) (i : ℕ) (e : Event) (o : Replica) where
  -- a chain, and its choices
  pub record GoesAndChooses (l : Local) (x : Step) : Type 0 where
    pub goes : Goes u start i l x
    pub made : AreMade goes.after.chosen e o x.script

  -- to the end of a step
  pub record Concludes (l : Local) (x : Step) : Type 0 where
    pub finishes : Finishes u start i l x
    pub made : AreMade finishes.after.chosen e o x.script

  pub chooses_none : {F : Type 0} (w : Word F) → Mute w → (t : Setting F) (r : Replica) (f : F) (l : Local) → Goes u start i l (w t r f) → GoesAndChooses l (w t r f)
  chooses_none w m t r f l h = record { goes = h; made = are_none h.after.chosen e o w m t r f }

  pub chooses_by : {F : Type 0} (w : Replica → Word F) (t : Setting F) (r : Replica) (f : F) (l : Local) → GoesAndChooses l (w r t r f) → GoesAndChooses l (by w t r f)
  unfolding by
  chooses_by w t r f l h = record { goes = record { after = h.goes.after; ends = h.goes.ends; cuts = h.goes.cuts }; made = h.made }

  pub chooses_naming : {F : Type 0} (w : (List ℕ → List ℕ) → Word F) (t : Setting F) (r : Replica) (f : F) (l : Local) → GoesAndChooses l (w t.hash t r f) → GoesAndChooses l (naming w t r f)
  unfolding naming
  chooses_naming w t r f l h = record { goes = record { after = h.goes.after; ends = h.goes.ends; cuts = h.goes.cuts }; made = h.made }

  pub chooses_if : {F : Type 0} (b : Bool) (v w : Word F) (t : Setting F) (r : Replica) (f : F) (l : Local) → (b ≡ true → GoesAndChooses l (v t r f)) → (b ≡ false → GoesAndChooses l (w t r f)) → GoesAndChooses l (cond b v w t r f)
  chooses_if true v w t r f l h k = h refl
  chooses_if false v w t r f l h k = k refl

  pub chooses_changed : {F : Type 0} (g : Replica → Replica) (w : Word F) (t : Setting F) (r : Replica) (f : F) (l : Local) → ((d : F) → GoesAndChooses l (w t (g r) d)) → GoesAndChooses l ((change g ⨾ w) t r f)
  unfolding change ◌⨾◌
  chooses_changed g w t r f l go = let h = go (after_all t f []) in record { goes = record { after = h.goes.after; ends = h.goes.ends; cuts = h.goes.cuts }; made = h.made }

  pub chooses_quiet_then : {F : Type 0} (w : Word F) (t : Setting F) (r : Replica) (f : F) (l : Local) → ((d : F) → GoesAndChooses l (w t r d)) → GoesAndChooses l ((quiet ⨾ w) t r f)
  unfolding quiet ◌⨾◌
  chooses_quiet_then w t r f l go = let h = go (after_all t f []) in record { goes = record { after = h.goes.after; ends = h.goes.ends; cuts = h.goes.cuts }; made = h.made }

  -- a chain without a choice, and then one that may choose
  pub then_chooses : {F : Type 0} (v w : Word F) → Mute v → (t : Setting F) (r : Replica) (f : F) (l : Local) → Goes u start i l (v t r f)
      → ((a : Group Header) → Mid u start i (v t r f).replica (carried (v t r f).script l) a → GoesAndChooses (carried (v t r f).script l) (w t (v t r f).replica (after_all t f (v t r f).script)))
      → GoesAndChooses l ((v ⨾ w) t r f)
  unfolding ◌⨾◌
  then_chooses v w m t r f l h k =
      let a = v t r f in
      let g = k h.after h.ends in
      let b = w t a.replica (after_all t f a.script) in
      record {
        goes = record { after = g.goes.after; ends = rw (carried_append a.script b.script l) g.goes.ends; cuts = cut_append (Stopped u start i) a.script b.script l h.cuts g.goes.cuts };
        made = are_append g.goes.after.chosen e o a.script b.script (are_none g.goes.after.chosen e o v m t r f) g.made;
      }

  -- one that may choose, and then one without a choice
  pub chooses_then : {F : Type 0} (v w : Word F) → Mute w → (t : Setting F) (r : Replica) (f : F) (l : Local) (h : GoesAndChooses l (v t r f))
      → (Mid u (with_chosen h.goes.after.chosen start) i (v t r f).replica (carried (v t r f).script l) h.goes.after
      → Goes u (with_chosen h.goes.after.chosen start) i (carried (v t r f).script l) (w t (v t r f).replica (after_all t f (v t r f).script)))
      → GoesAndChooses l ((v ⨾ w) t r f)
  unfolding ◌⨾◌
  chooses_then v w m t r f l h k =
      let a = v t r f in
      let d = after_all t f a.script in
      let b = w t a.replica d in
      let cs = h.goes.after.chosen in
      let y = k (mid_from u start i a.replica (carried a.script l) h.goes.after h.goes.ends) in
      let kept : (c : Choice Header) → In c cs → In c y.after.chosen = y.ends.under.chosen in
      record {
        goes = record { after = y.after; ends = rw (carried_append a.script b.script l) (mid_back u start i cs h.goes.ends.under.chosen b.replica (carried b.script (carried a.script l)) y.after y.ends); cuts = cut_append (Stopped u start i) a.script b.script l h.goes.cuts (cuts_back u start i cs h.goes.ends.under.chosen b.script (carried a.script l) y.cuts) };
        made = are_append y.after.chosen e o a.script b.script (are_more cs y.after.chosen kept e o a.script h.made) (are_none y.after.chosen e o w m t a.replica d);
      }

  -- ---- the end of a step

  pub concludes_goes : (l : Local) (x : Step) → GoesAndChooses l x → Concludes l x
  concludes_goes l x h =
      let g = h.goes in
      let cs = g.after.chosen in
      let y = finished u (with_chosen cs start) i x.replica (carried x.script l) g.after (mid_from u start i x.replica (carried x.script l) g.after g.ends) in
      let z = g.ends.under in
      let kept : (c : Choice Header) → In c cs → In c y.0.chosen = y.1.chosen in
      record {
        finishes = record { after = y.0; ends = finished_back u start i cs z.chosen x.replica (carried x.script l) y.0 y.1; cuts = g.cuts; stopped = stops u start i (carried x.script l) (carried x.script l) g.after z z.disk z.made };
        made = are_more cs y.0.chosen kept e o x.script h.made;
      }

  pub concludes_none : {F : Type 0} (w : Word F) → Mute w → (t : Setting F) (r : Replica) (f : F) (l : Local) → Finishes u start i l (w t r f) → Concludes l (w t r f)
  concludes_none w m t r f l h = record { finishes = h; made = are_none h.after.chosen e o w m t r f }

  pub concludes_by : {F : Type 0} (w : Replica → Word F) (t : Setting F) (r : Replica) (f : F) (l : Local) → Concludes l (w r t r f) → Concludes l (by w t r f)
  unfolding by
  concludes_by w t r f l h = let g = h.finishes in record { finishes = record { after = g.after; ends = g.ends; cuts = g.cuts; stopped = g.stopped }; made = h.made }

  pub concludes_if : {F : Type 0} (b : Bool) (v w : Word F) (t : Setting F) (r : Replica) (f : F) (l : Local) → (b ≡ true → Concludes l (v t r f)) → (b ≡ false → Concludes l (w t r f)) → Concludes l (cond b v w t r f)
  concludes_if true v w t r f l h k = h refl
  concludes_if false v w t r f l h k = k refl

  pub concludes_changed : {F : Type 0} (g : Replica → Replica) (w : Word F) (t : Setting F) (r : Replica) (f : F) (l : Local) → ((d : F) → Concludes l (w t (g r) d)) → Concludes l ((change g ⨾ w) t r f)
  unfolding change ◌⨾◌
  concludes_changed g w t r f l go = let h = go (after_all t f []) in let k = h.finishes in record { finishes = record { after = k.after; ends = k.ends; cuts = k.cuts; stopped = k.stopped }; made = h.made }

  pub then_concludes : {F : Type 0} (v w : Word F) → Mute v → (t : Setting F) (r : Replica) (f : F) (l : Local) → Goes u start i l (v t r f)
      → ((a : Group Header) → Mid u start i (v t r f).replica (carried (v t r f).script l) a → Concludes (carried (v t r f).script l) (w t (v t r f).replica (after_all t f (v t r f).script)))
      → Concludes l ((v ⨾ w) t r f)
  unfolding ◌⨾◌
  then_concludes v w m t r f l h k =
      let a = v t r f in
      let g = k h.after h.ends in
      let z = g.finishes in
      let b = w t a.replica (after_all t f a.script) in
      record {
        finishes = record {
          after = z.after;
          ends = rw (carried_append a.script b.script l) z.ends;
          cuts = cut_append (Stopped u start i) a.script b.script l h.cuts z.cuts;
          stopped = rw (carried_append a.script b.script l) z.stopped;
        };
        made = are_append z.after.chosen e o a.script b.script (are_none z.after.chosen e o v m t r f) g.made;
      }
