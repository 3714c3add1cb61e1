-- A view begins at a replica that is a group by itself: it takes over the log that it has chosen, vouches for what is stored of it, and
-- counts that.
use Rattle.std.proofs.Common.{ℕ, zero, suc, ◌+◌, ◌≤◌, ◌<◌, ◌≡◌, ◌∙◌, inl, inr, arith, refl, sym, ap, subst, true, List, [], ◌∷◌, ◌++◌, map, Some}
use Rattle.std.specs.Prelude.{filter}
use Rattle.std.proofs.lemmas.List.{append-nil}
use Rattle.vr_base.specs.declared.replicas.Replicas.{Replicas}
use Rattle.vr_base.specs.declared.table.Quorums.{Quorums}
use Rattle.vr_base.specs.Replicas.{has_replica}
use Rattle.vr_header.specs.declared.header.Header.{Header}
use Rattle.vr_header.specs.declared.part.Part.TheVariants.{Here}
use Rattle.vr_msg.specs.declared.choice.Choice.TheVariants.{Ends}
use Rattle.vr_msg.specs.declared.event.Event.{Event}
use Rattle.vr_msg.specs.declared.output.Output.{Output}
use Rattle.vr_msg.specs.Choice.{choice, ops}
use Rattle.vr_header.specs.Parts.{header_of}
use Rattle.vr_msg.specs.Normal.{primary}
use Rattle.vr_super.specs.Copies.{SuperValue}
use Rattle.vr_world.specs.Commitment.{Stored}
use Rattle.vr_rules.specs.Opening.{listed}
use Rattle.vr_rules.specs.Outputs.{send_to_all, start_view}
use Rattle.vr_rules.specs.Replica.{Replica, ackers_at, forgetting, is_alone, is_primary, part_at, replication}
use Rattle.vr_rules.specs.Sound.{IsSound}
use Rattle.vr_rules.specs.Steps.{Effect, Save, Say, Setting, Step, ◌⨾◌, after_all, by, change, does, each, quiet, says}
use Rattle.vr_world.specs.Storing.{here_in, in_view, names, stored_by}
use Rattle.vr_rules.specs.Words.{Log, advance, apply, begin_view, choose_line, chosen_log, prepare_again, save, stated, take, taken, value_of, with_saved}
use Rattle.vr_rules.specs.Given.{IsLogFor}
use Rattle.vr_rules.proofs.Taking.{MayTake, kept_taken}
use Rattle.vr_rules.proofs.Trying.{all_stated, chosen_log_is}
use Rattle.law_1_machine.specs.Basics.{In}
use Rattle.law_1_machine.specs.Group.{Group}
use Rattle.law_1_machine.specs.Members.{Message, Prepare_ok}
use Rattle.law_1_machine.specs.Members as machine
use Rattle.law_2_chains.specs.Chains.{Setup, Every, AsksNothing, Goes, Mid}
use Rattle.law_2_chains.specs.Choices.{IsMadeFrom}
use Rattle.law_2_chains.specs.Local.{Local, carried}
use Rattle.law_2_chains.specs.Lone.{IsStored, Vouched, vouch_for}
use Rattle.law_2_chains.specs.Tables.{Fits}
use Rattle.law_2_chains.proofs.Applying.{goes_apply, goes_says_then}
use Rattle.law_2_chains.proofs.Beginning.{AreStated, Leads, goes_each, goes_prepare_again, goes_take_chosen, leads_again, said_free, tells_all}
use Rattle.law_2_chains.proofs.Choices.{HasMade, line_made, then_so, with_chosen}
use Rattle.law_2_chains.proofs.LastWord.{last_word}
use Rattle.law_2_chains.proofs.Calm.{Calms, calms_again, calms_by, calms_each, calms_last, calms_says, calms_then}
use Rattle.law_2_chains.proofs.Counting.{counted_has, counted_within, counts, quorum_vouched, voter}
use Rattle.law_2_chains.proofs.Learning.{HasVouched, goes_advance}
use Rattle.law_2_chains.proofs.Lone.{vouches}
use Rattle.law_2_chains.proofs.LoneGoing.{LoneGoes}
use Rattle.law_2_chains.proofs.LoneSteps.{in_order}
use Rattle.law_2_chains.proofs.Moving.{goes_says}
use Rattle.law_2_chains.proofs.Picking.{Hears, begin_at}
use Rattle.law_2_chains.proofs.Saving.{listed_all, listed_known, saved_sound}
use Rattle.law_2_chains.proofs.Scripts.{every_append, goes_by, goes_if, goes_quiet, goes_then}
use Rattle.law_2_chains.proofs.StoredLists.{LastCounts, at_its_op, filter_has, held_by, held_said, in_filter, in_its, is_in, last_said, names_it, names_known, of_view, stored_said, view_has, was_in}
use Rattle.law_2_chains.proofs.TabledWords.{saved_part, taken_ackers}
use Rattle.law_2_chains.proofs.Tabling.{holds_each}
use Rattle.law_2_chains.proofs.Takes.{taken_held, taken_near, taken_stays, taken_top, taken_views}
use Rattle.std.proofs.lemmas.Bool.{eqb-true}

-- ---- the last word with which a view begins: it applies, and may count before

goes_last : {F : Type 0} (u : Setup) (start : Group Header) (i : ℕ) (t : Setting F) (r : Replica) (f : F) (l : Local) (s : Group Header) → Mid u start i r l s
    → ((k : ℕ) → r.commit < k → k ≤ r.commit + counts r → HasVouched u start i r.log_view k) → Goes u start i l (last_word t r f)
goes_last u start i t r f l s x each =
    goes_by u start i _ t r f l (goes_if u start i (is_alone r) advance apply t r f l (λ b. goes_advance u start i t r f l s x (counted_within r x.sound.order.known) each) (λ b. goes_apply u start i t r f l s x))

-- ---- what is stored of the log is counted

module _ (u : Setup) (quorum : replication u.quorums.n ≡ u.quorums.replication) (before start : Group Header) (i : ℕ) (q : Replica) (sound : IsSound q) (begun : q.view ≡ q.log_view) (vouched : Vouched i q before start)
    (none : (k j : ℕ) → has_replica (ackers_at q k) j ≡ true → ⊥) where
  prepares_counts : {F : Type 0} (top : ℕ) (t : Setting F) (f : F) (l : Local) (s : Group Header) → Mid u start i q l s → Leads q → Goes u start i l ((by (λ r. each prepare_again (ops r.commit top)) ⨾ last_word) t q f)
  unfolding by
  prepares_counts top t f l s x lead =
      let xs = ops q.commit top in
      let y : Step = each prepare_again xs t q f in
      let h = holds_each t xs q f sound in
      goes_then u start i (by (λ r. each prepare_again (ops r.commit top))) last_word t q f l
      (goes_by u start i (λ r. each prepare_again (ops r.commit top)) t q f l (goes_each u start i Leads prepare_again t (λ k r f l s z p. goes_prepare_again u start i k t r f l s z p) (λ k r f p. leads_again k t r f p) xs q f l s x lead))
      (λ a z.
      goes_last u start i t y.replica _ _ a z (λ k above within.
      quorum_vouched u quorum start i y.replica k z.size (counted_has y.replica k above within) (λ j has. elim (voter y.replica k j has) [
        | inl mine ↦
            let place : j ≡ i = mine.0 ∙ z.place in
            let here : part_at q k ≡ Here mine.1.0 = h.here k mine.1.0 mine.1.1 in
            let view : q.view ≡ y.replica.log_view = begun ∙ sym h.log_view in
            let member = z.sound.member in
            let own = z.place in
            let size = z.size in
            let low = in_order q sound in
            let up = h.commit in
            (omega arith, (mine.1.0, inl (rw (place) (subst (λ (v : ℕ). In (Prepare_ok i v k mine.1.0) start.sent) view (vouched.all begun k mine.1.0 (omega arith) here)))))
        | inr acker ↦ absurd (none k j (sym (ap (λ (z : Replicas). has_replica z j) (h.acks k)) ∙ acker))
      ])))

  tells_counts : {F : Type 0} (top : ℕ) (t : Setting F) (f : F) (l : Local) (s : Group Header) → Mid u start i q l s → Leads q
      → Goes u start i l ((says (send_to_all start_view) ⨾ by (λ r. each prepare_again (ops r.commit top)) ⨾ last_word) t q f)
  tells_counts top t f l s x lead =
      goes_says_then u start i (send_to_all start_view) _ t q f l s x (tells_all u start i q l s x lead.begun) (λ k a d y. prepares_counts top t d k a y lead)

-- ---- what counts as stored once the log is taken over

-- the value that is saved with it
abbrev value_with : Replica → Log → SuperValue
value_with r l = value_of (taken l r)

-- the effects by which it is taken over, after a line
abbrev takes_it : Replica → Log → List Output → List Effect
takes_it r l line = map Say line ++ (Save (taken l r).saved (value_with r l) ∷ [])

kept_checkpoint : (l : Log) (r : Replica) → (taken l r).checkpoint ≡ r.checkpoint
unfolding taken forgetting
kept_checkpoint l r = refl

value_fields : (l : Log) (r : Replica) → ((value_with r l).fields.view ≡ l.view) × ((value_with r l).fields.log_view ≡ l.view) × ((value_with r l).fields.checkpoint ≡ r.checkpoint)
unfolding value_of taken forgetting
value_fields l r = (refl, refl, refl)

one_last : (r : Replica) (l : Log) → LastCounts r.saved (here_in r) (Save (taken l r).saved (value_with r l) ∷ [])
unfolding stored_by
one_last r l zero x less h = h
one_last r l (suc k) x less h = absurd (omega arith)

take_last : (r : Replica) (l : Log) (line : List Output) → LastCounts r.saved (here_in r) (takes_it r l line)
unfolding stored_by
take_last r l line = last_said line (Save (taken l r).saved (value_with r l) ∷ []) r.saved (here_in r) (one_last r l)

abbrev it_counts : Replica → Log → List Stored
it_counts r l = in_view (value_with r l) (filter (names (value_with r l)) (here_in r))

by_it : (r : Replica) (l : Log) (line : List Output) → stored_by r.saved (here_in r) (takes_it r l line) ≡ it_counts r l
unfolding stored_by
by_it r l line = stored_said line (Save (taken l r).saved (value_with r l) ∷ []) r.saved (here_in r) ∙ append-nil (it_counts r l)

taken_based : (r : Replica) (l : Log) (line : List Output) (h : Header) → In h (held_by (here_in r) (takes_it r l line)) → (with_saved (taken l r)).view ≡ (with_saved (taken l r)).log_view
    → In (in_its (with_saved (taken l r)).view h) (stored_by r.saved (here_in r) (takes_it r l line))
unfolding held_by taken forgetting
taken_based r l line h j begun =
    let f = value_fields l r in
    subst (In (in_its l.view h)) (sym (by_it r l line)) (view_has (value_with r l) (filter (names (value_with r l)) (here_in r)) l.view h f.0 f.1 (subst (In h) (held_said line (Save (taken l r).saved (value_with r l) ∷ []) (here_in r)) j))

module _ (i : ℕ) (r : Replica) (l : Log) (sound : IsSound r) (log : IsLogFor r l) (may : MayTake l r) (line : List Output) where
  taken_counts : r.log_view < l.view → (m : Message Header) → IsStored i (with_saved (taken l r)) m → (x : Stored) × In x (stored_by r.saved (here_in r) (takes_it r l line)) × (m ≡ vouch_for i x)
  taken_counts later m x =
      let f = value_fields l r in
      let v = taken_views l r sound log may in
      let tk : Replica = taken l r in
      let above : r.checkpoint < x.op = subst (λ c. c < x.op) (kept_checkpoint l r) x.above in
      let is : part_at tk x.op ≡ Here x.header = sym (saved_part tk x.op) ∙ x.here in
      let was = taken_held l r sound log may x.op x.header is in
      let op = at_its_op r sound x.op x.header was in
      let near = taken_near l r sound log may x.op x.header above later is in
      let top = taken_top l r sound log may in
      let tk_sound : IsSound tk = (kept_taken l r sound log may).sound in
      let named : listed (value_with r l) x.header.op ≡ Some x.header =
      subst (λ (k : ℕ). listed (value_with r l) k ≡ Some x.header) (sym op) (listed_all tk x.op tk_sound (subst (λ c. c < x.op) (sym (kept_checkpoint l r)) above) (omega arith) ∙ ap header_of is) in
      let it : In x.header (filter (names (value_with r l)) (here_in r)) =
      filter_has (names (value_with r l)) x.header (here_in r) (is_in r sound x.op x.header above was) (names_it (value_with r l) x.header (let c = f.2 in omega (arith, c, op, above)) named) in (
        in_its l.view x.header,
        subst (In (in_its l.view x.header)) (sym (by_it r l line)) (view_has (value_with r l) _ l.view x.header f.0 f.1 it),
        x.is ∙ (ap (λ w. Prepare_ok i w x.op x.header) v.0 ∙ ap (λ k. Prepare_ok i l.view k x.header) (sym op)),
      )

  taken_vouches : (b : Group Header) → ((k : ℕ) (h : Header) → (with_saved (taken l r)).checkpoint < k → part_at (with_saved (taken l r)) k ≡ Here h → In (Prepare_ok i (with_saved (taken l r)).view k h) b.sent)
      → (x : Stored) → In x (stored_by r.saved (here_in r) (takes_it r l line)) → In (vouch_for i x) b.sent
  taken_vouches b all x j =
      let f = value_fields l r in
      let v = taken_views l r sound log may in
      let tk : Replica = taken l r in
      let hs : List Header = filter (names (value_with r l)) (here_in r) in
      let y = of_view (value_with r l) hs x (subst (In x) (by_it r l line) j) in
      let z = in_filter (names (value_with r l)) x.header (here_in r) y.2 in
      let named = names_known (value_with r l) x.header z.1 in
      let was = was_in r sound x.header z.0 in
      let tk_sound : IsSound tk = (kept_taken l r sound log may).sound in
      let here : part_at tk x.header.op ≡ Here x.header = taken_stays l r sound log may x.header.op x.header was.0 was.1 (listed_known tk x.header.op x.header tk_sound named.1) in
      subst (λ (w : ℕ). In (Prepare_ok i w x.header.op x.header) b.sent) (v.0 ∙ (sym f.0 ∙ sym y.1)) (all x.header.op x.header (subst (λ c. c < x.header.op) (sym (kept_checkpoint l r)) was.0) (saved_part tk x.header.op ∙ here))

-- ---- a view begins

more_made : (cs ds : List (machine.Choice Header)) → ((c : machine.Choice Header) → In c cs → In c ds) → (r : Replica) (hs : List Header) → HasMade cs r hs → HasMade ds r hs
more_made cs ds f r hs x = record { made = x.made; is_made = f x.made x.is_made; of_view = x.of_view; of_log_view = x.of_log_view; of_head = x.of_head; of_heard = x.of_heard; of_log = x.of_log }

-- its primary chooses this log, in which everything is known
pub record MayBegin (u : Setup) (r : Replica) (hs : List Header) : Type 0 where
  pub sizes : Quorums
  pub ends : choice sizes (stated r) ≡ Ends hs
  pub nack_is : sizes.nack ≡ u.quorums.nack
  pub may : MayTake (chosen_log r (stated r) hs) r

pub lone_begins : {F : Type 0} (u : Setup) (fits : Fits u) (start : Group Header) (i : ℕ) (e : Event) (o : Replica) (t : Setting F) (r : Replica) (f : F) (l : Local) (s : Group Header) → Mid u start i r l s → Hears e o r → AreStated u start r
    → is_primary r ≡ true → r.log_view < r.view → Every AsksNothing l.said → (hs : List Header) → MayBegin u r hs → LoneGoes u start i e o r.saved (here_in r) l (begin_view (stated r) (chosen_log r (stated r) hs) t r f)
unfolding begin_view take save says change does quiet ◌⨾◌ after_all
lone_begins u fits start i e o t r f l s x hears heard prim lower free hs b =
    let log : Log = chosen_log r (stated r) hs in
    let log_is = chosen_log_is r b.sizes (stated r) hs (all_stated r x.sound) b.ends in
    let v = taken_views log r x.sound log_is b.may in
    let q : Replica = with_saved (taken log r) in
    let line : List Output = choose_line (stated r) log r in
    let g = then_so u start i (says (choose_line (stated r) log)) (take log ⨾ quiet) t r f l (λ a. HasMade a.chosen r hs)
    (goes_says u start i (choose_line (stated r) log) t r f l s x (tt, tt)) (λ a y.
    goes_take_chosen u fits start i r (carried (map Say line) l) a y heard prim lower b.sizes hs b.ends b.nack_is b.may quiet t (after_all t f (map Say line)) (said_free line l free (tt, tt))
    (λ cs k a d z. goes_quiet u (with_chosen cs start) i t q d k a z)) in
    let first : Step = (says (choose_line (stated r) log) ⨾ take log ⨾ quiet) t r f in
    let k : Local = carried first.script l in
    let silent : Every AsksNothing k.said = every_append AsksNothing (carried (map Say line) l).said [] (said_free line l free (tt, tt)) tt in
    let w = vouches u start g.0.after i q k g.0.ends silent in
    let begun : q.view ≡ q.log_view = v.0 ∙ sym v.1 in
    let lead : Leads q = record { begun = begun; first = v.2 ∙ (eqb-true r.index (primary r.n r.view) prim ∙ rw (v.0, v.3) refl) } in
    let sound : IsSound q = saved_sound (taken log r) (kept_taken log r x.sound log_is b.may).sound in
    let d = after_all t f first.script in
    let told : Calms (says (send_to_all start_view) ⨾ by (λ r. each prepare_again (ops r.commit log.head)) ⨾ last_word) =
    calms_then _ _ (calms_says (send_to_all start_view)) (calms_then _ _ (calms_by _ (λ r. calms_each prepare_again (ops r.commit log.head) calms_again)) calms_last) in
    let going = tells_counts u fits.replication_is g.0.after w.0 i q sound begun w.2 (taken_ackers log r) log.head t (after_all t f first.script) k w.0 w.1 lead in
    let kept : (c : machine.Choice Header) → In c g.0.after.chosen → In c going.after.chosen = λ c j. going.ends.under.chosen c (subst (In c) (sym w.2.chosen) j) in
    record {
      first = first;
      second = (says (send_to_all start_view) ⨾ by (λ r. each prepare_again (ops r.commit log.head)) ⨾ last_word) t q (after_all t f first.script);
      script = refl;
      replica = refl;
      goes = g.0;
      silent = silent;
      last = take_last r log line;
      based = taken_based r log line;
      steady = told.views t q d;
      calm = told.every t q d;
      ground = w.0;
      grounds = w.2;
      held = taken_counts i r log x.sound log_is b.may line lower;
      counted = taken_vouches i r log x.sound log_is b.may line w.0 (w.2.all begun);
      going = going;
      made = begin_at (IsMadeFrom going.after.chosen e o) hs t r f (line_made going.after.chosen e o r hs hears (more_made g.0.after.chosen going.after.chosen kept r hs g.1));
    }
