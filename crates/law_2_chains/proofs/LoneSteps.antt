-- A step of a replica that is a group by itself, which counts nothing that it stores: it vouches at its begin and at its end.
use Rattle.std.proofs.Common.{ℕ, ◌≤◌, ◌<◌, ◌≡◌, ◌∙◌, arith, refl, sym, ap, subst, true, false, List, [], ◌++◌, take}
use Rattle.std.proofs.lemmas.Bool.{true≢false}
use Rattle.std.proofs.lemmas.List.Elements.{All-contains}
use Rattle.vr_header.specs.declared.header.Header.{Header}
use Rattle.vr_msg.specs.declared.event.Event.{Event}
use Rattle.vr_msg.specs.declared.output.Output.TheVariants as output
use Rattle.vr_rules.specs.Replica.{Replica, is_frozen}
use Rattle.vr_rules.specs.Sound.{IsSound}
use Rattle.vr_rules.specs.Steps.{Effect, Setting, Step, Word, outputs, quiet}
use Rattle.vr_rules.proofs.SilentWaits.{Mute}
use Rattle.vr_world.specs.Commitment.{Stored}
use Rattle.vr_world.specs.Storing.{here_in, in_view, stored_by}
use Rattle.law_1_machine.specs.Basics.{In}
use Rattle.law_1_machine.specs.Group.{Group}
use Rattle.law_1_machine.specs.Members.{Message, Prepare_ok}
use Rattle.law_2_chains.specs.Local.{Local, carried}
use Rattle.law_2_chains.specs.Begins.{as_it_was}
use Rattle.law_2_chains.specs.Chains.{Setup, Every, AsksNothing, Mid, Goes}
use Rattle.law_2_chains.specs.Choices.{IsMadeFrom}
use Rattle.law_2_chains.specs.Finished.{Finishes}
use Rattle.law_2_chains.specs.Lone.{CountsNoMore, IsLoneChain, IsStored, LoneChooses, counted_by, vouch_for}
use Rattle.law_2_chains.proofs.Tallies.{Tallies, tables_vouched}
use Rattle.law_2_chains.proofs.Choices.{Concludes, are_none, made_more}
use Rattle.law_2_chains.proofs.Finishing.{goes_finishes}
use Rattle.law_2_chains.proofs.Holding.{holds_same, tables_hold}
use Rattle.law_2_chains.proofs.Calm.{calms_quiet}
use Rattle.law_2_chains.proofs.Lone.{saved_views, vouches, vouches_at_end}
use Rattle.law_2_chains.proofs.StoredLists.{IsCalm, at_its_op, counts_late, held_by, in_its, is_in, view_has}
use Rattle.law_2_chains.proofs.Tabling.{in_left, Tabled, since_finished}
use Rattle.law_2_chains.proofs.Scripts.{goes_quiet}
use Rattle.law_2_chains.proofs.Picking.{IsPicked}

-- nothing before the first effect
no_effects : (r : Replica) (k : ℕ) → k < 0 → CountsNoMore r (take k []) []
no_effects r k l = absurd (omega arith)

pub none_stored : (r : Replica) (x : Stored) → In x (stored_by r.saved (here_in r) []) → ⊥
unfolding stored_by
none_stored r x h = h

-- a replica's order of numbers
pub in_order : (r : Replica) → IsSound r → r.checkpoint ≤ r.commit
in_order r sound =
    let a = sound.order.applied in
    let b = sound.order.commit in
    omega arith

module _ (u : Setup) (start : Group Header) (i : ℕ) (r : Replica) (l : Local) (mid : Mid u start i r l start) (free : Every AsksNothing l.said) where
  views : (r.saved.fields.view ≡ r.view) × (r.saved.fields.log_view ≡ r.log_view)
  views = saved_views u start start i r l mid

  -- what is stored when the step begins counts in its view
  pub begins_counted : (h : Header) → r.view ≡ r.log_view → In h (here_in r) → In (in_its r.view h) (in_view r.saved (here_in r))
  begins_counted h begun i = view_has r.saved (here_in r) r.view h views.0 (views.1 ∙ sym begun) i

  -- and a vouch for it is the machine's
  pub begins_held : (es : List Effect) (m : Message Header) → IsStored i r m → (x : Stored) × In x (counted_by r es) × (m ≡ vouch_for i x)
  begins_held es m x =
      let op = at_its_op r mid.sound x.op x.header x.here in (
        in_its r.view x.header,
        in_left _ (in_view r.saved (here_in r)) (stored_by r.saved (here_in r) es) (begins_counted x.header x.begun (is_in r mid.sound x.op x.header x.above x.here)),
        x.is ∙ ap (λ k. Prepare_ok i r.view k x.header) (sym op),
      )

  based : (h : Header) → In h (here_in r) → r.view ≡ r.log_view → In (in_its r.view h) (counted_by r [])
  based h i begun = in_left _ (in_view r.saved (here_in r)) (stored_by r.saved (here_in r) []) (begins_counted h begun i)

  -- the group in which it has vouched
  abbrev ground : Group Header
  ground = (vouches u start start i r l mid free).0

  late_counts : (es : List Effect) → Every (IsCalm r.view r.log_view) es → (k : ℕ) → CountsNoMore r ([] ++ take k es) []
  unfolding held_by
  late_counts es calm k = counts_late r r.view r.log_view [] es calm based k

  -- from there on the step goes as a chain
  unfoldable from_ground : (x : Step) → Every (IsCalm r.view r.log_view) x.script → Finishes u ground i l x → (is_frozen x.replica ≡ false → Tabled u ground i x) → IsLoneChain u start i l r x
  from_ground x calm h tabled =
      let v = vouches u start start i r l mid free in
      let w = vouches_at_end u v.0 i x.replica (carried x.script l) h.after h.ends in
      record {
        first = record { replica = r; script = [] };
        second = x;
        script = refl;
        replica = refl;
        begun = start;
        begins = as_it_was;
        goes = record { after = start; ends = mid; cuts = tt };
        silent = free;
        early = no_effects r;
        late = late_counts x.script calm;
        ground = v.0;
        grounds = v.2;
        held = λ m x. begins_held [] m x;
        counted = λ x j. absurd (none_stored r x j);
        finishes = h;
        after = w.0;
        reached = w.1;
        vouches = w.2;
        tables = λ b. tables_vouched u w.0 i x.replica h.after (in_order x.replica h.ends.sound) w.2 (tables_hold u h.after w.0 i x.replica x.replica (holds_same x.replica) w.2.made w.2.kept (tabled b h.after (since_finished u v.0 i x.replica l x.script h.after h.ends)));
      }

  pub lone_goes : (x : Step) → Every (IsCalm r.view r.log_view) x.script → Tallies u start i r → ((s : Group Header) → Mid u s i r l s → Tallies u s i r → Goes u s i l x × Tabled u s i x) → IsLoneChain u start i l r x
  lone_goes x calm tables go =
      let v = vouches u start start i r l mid free in
      let g = go v.0 v.1 (tables_hold u start v.0 i r r (holds_same r) v.2.made v.2.kept tables) in
      from_ground x calm (goes_finishes u v.0 i l x g.0) (λ b. g.1)

  pub lone_concludes : (e : Event) (x : Step) → Every (IsCalm r.view r.log_view) x.script → Tallies u start i r → ((s : Group Header) → Mid u s i r l s → Tallies u s i r → Concludes u s i e r l x × Tabled u s i x) → LoneChooses u start i l e r x
  unfolding from_ground
  lone_concludes e x calm tables go =
      let v = vouches u start start i r l mid free in
      let g = go v.0 v.1 (tables_hold u start v.0 i r r (holds_same r) v.2.made v.2.kept tables) in
      let h = g.0.finishes in
      let w = vouches_at_end u v.0 i x.replica (carried x.script l) h.after h.ends in
      record {
        chain = from_ground x calm h (λ b. g.1);
        choices = λ line j.
            made_more h.after.chosen w.0.chosen (λ c k. subst (In c) (sym w.2.chosen) k) e r line (All-contains (IsPicked (IsMadeFrom h.after.chosen e r)) (outputs x.script) (output.Choose line) g.0.made j);
      }

  -- a frozen replica does nothing
  pub lone_frozen : {F : Type 0} (t : Setting F) (f : F) → is_frozen r ≡ true → IsLoneChain u start i l r (quiet t r f)
  unfolding quiet
  lone_frozen t f frozen =
      let v = vouches u start start i r l mid free in
      from_ground (quiet t r f) (calms_quiet.every t r f) (goes_finishes u v.0 i l (quiet t r f) (goes_quiet u v.0 i t r f l v.0 v.1)) (λ b. absurd (true≢false (sym frozen ∙ b)))

-- where no choose line is said
pub lone_mute : {F : Type 0} (u : Setup) (start : Group Header) (i : ℕ) (e : Event) (w : Word F) → Mute w → (t : Setting F) (r : Replica) (f : F) (l : Local) → IsLoneChain u start i l r (w t r f) → LoneChooses u start i l e r (w t r f)
lone_mute u start i e w m t r f l c =
    let cs = c.after.chosen in
    record { chain = c; choices = λ line j. All-contains (IsPicked (IsMadeFrom cs e r)) (outputs (w t r f).script) (output.Choose line) (are_none cs e r w m t r f) j }
