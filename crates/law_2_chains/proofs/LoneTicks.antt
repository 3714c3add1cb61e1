-- A tick at a replica that is a group by itself and whose view isn't started (rule 34): the next view is entered, or its own begins.
use Rattle.std.proofs.Common.{ℕ, ◌%◌, ◌<◌, ◌≡◌, ◌∙◌, arith, refl, sym, ap, subst, Bool, true, false, cond, not, List, ◌++◌, Option}
use Rattle.std.specs.Prelude.{nat_le, ◌&&◌}
use Rattle.std.specs.Option.{option_map_or}
use Rattle.std.proofs.Math.Nat.{mod-lt}
use Rattle.std.proofs.lemmas.Bool.{eq-eqb}
use Rattle.vr_base.specs.declared.table.Quorums.{Quorums}
use Rattle.vr_base.specs.Groups.{quorums_of}
use Rattle.vr_base.specs.Replicas.{size}
use Rattle.vr_header.specs.declared.header.Header.{Header}
use Rattle.vr_msg.specs.declared.choice.Choice.{Choice}
use Rattle.vr_msg.specs.declared.choice.Choice.TheVariants.{Ends, TooFew, WaitsAt}
use Rattle.vr_msg.specs.declared.event.Event.{Event}
use Rattle.vr_msg.specs.declared.event.Event.TheVariants as event
use Rattle.vr_rules.specs.Outputs.{do_view_change, send_to_all, start_view_change, to_primary, wait_line}
use Rattle.vr_rules.specs.Replica.{Replica, is_primary, is_started, view_change}
use Rattle.vr_rules.specs.Rules.{changing_ticks, idler, next_view}
use Rattle.vr_rules.specs.Sound.{IsSound}
use Rattle.vr_rules.specs.Steps.{Setting, Step, Word, ◌⨾◌, after_all, by, change, naming, quiet, says, when}
use Rattle.vr_rules.specs.Words.{ask, begin_view, chosen_log, decided, may_take, obey_choice, speak, stated, try, try_log, visit}
use Rattle.vr_rules.proofs.SilentWaits.{mute_all, mute_change, mute_quiet, mute_then}
use Rattle.vr_rules.proofs.Taking.{may_take_is}
use Rattle.vr_world.specs.Storing.{here_in}
use Rattle.law_1_machine.specs.Group.{Group}
use Rattle.law_2_chains.specs.Chains.{Setup, Every, AsksNothing, Goes, Mid}
use Rattle.law_2_chains.specs.Choices.{IsMadeFrom}
use Rattle.law_2_chains.specs.Local.{Local}
use Rattle.law_2_chains.specs.Lone.{LoneChooses}
use Rattle.law_2_chains.specs.Tables.{Fits}
use Rattle.law_2_chains.proofs.Beginning.{decided_of, free_changes, said_free}
use Rattle.law_2_chains.proofs.Calm.{calm_next, calm_said, calm_then, calms_idler, calms_looks, calms_says}
use Rattle.law_2_chains.proofs.Chained.{mute_next, next}
use Rattle.law_2_chains.proofs.Choices.{Concludes, GoesAndChooses, chooses_changed, chooses_none, chooses_then, concludes_goes, concludes_none, then_chooses, with_chosen}
use Rattle.law_2_chains.proofs.Finishing.{goes_finishes}
use Rattle.law_2_chains.proofs.LoneGoing.{LoneGoes, lone_changed, lone_ends, lone_then, then_lone}
use Rattle.law_2_chains.proofs.LoneSteps.{lone_concludes}
use Rattle.law_2_chains.proofs.LoneTries.{MayBegin, lone_begins}
use Rattle.law_2_chains.proofs.Moving.{goes_says}
use Rattle.law_2_chains.proofs.Picking.{Hears, goes_idler, hears_none, waits_at}
use Rattle.law_2_chains.proofs.Readying.{free_ready}
use Rattle.law_2_chains.proofs.Scripts.{every_append, goes_quiet}
use Rattle.law_2_chains.proofs.Speaking.{goes_looks, mid_idler, mute_looks}
use Rattle.law_2_chains.proofs.Staying.{stays_looks}
use Rattle.law_2_chains.proofs.StoredLists.{IsCalm}
use Rattle.law_2_chains.proofs.TabledRules as rules
use Rattle.law_2_chains.proofs.TabledWords.{Enters, started_so, tabled_begin, tabled_entered}
use Rattle.law_2_chains.proofs.Tabling.{Tabled, tabled_change_then, tabled_says_then, tabled_then_stays}
use Rattle.law_2_chains.proofs.Tallies.{Tallies}
use Rattle.law_2_chains.proofs.Vouching.{goes_change_then}

-- ---- words that come to the same

same_then : {F : Type 0} (v w x : Word F) (t : Setting F) (r : Replica) (f : F) → ((d : F) → w t (v t r f).replica d ≡ x t (v t r f).replica d) → (v ⨾ w) t r f ≡ (v ⨾ x) t r f
unfolding ◌⨾◌
same_then v w x t r f same =
    let a = v t r f in
    ap (λ (z : Step). record { replica = z.replica; script = a.script ++ z.script }) (same (after_all t f a.script))

then_same : {F : Type 0} (v x w : Word F) (t : Setting F) (r : Replica) (f : F) → v t r f ≡ x t r f → (v ⨾ w) t r f ≡ (x ⨾ w) t r f
unfolding ◌⨾◌
then_same v x w t r f same = ap (λ (a : Step). record { replica = (w t a.replica (after_all t f a.script)).replica; script = a.script ++ (w t a.replica (after_all t f a.script)).script }) same

-- ---- what Speak comes to

module _ (u : Setup) (i : ℕ) {F : Type 0} (t : Setting F) (q : Replica) where
  -- it says at most that it waits
  record Quietly (w : Word F) : Type 0 where
    still : (d : F) → (w t q d).replica ≡ q
    calm : (d : F) → Every (IsCalm q.view q.log_view) (w t q d).script
    goes : (start s : Group Header) (e : Event) (o : Replica) (l : Local) (d : F) → Mid u start i q l s → GoesAndChooses u start i e o l (w t q d)

  -- or its view begins
  data Comes (z : F → Step) : Type 0 where
    quietly : (w : Word F) → Quietly w → ((d : F) → z d ≡ w t q d) → Comes z
    begins : (hs : List Header) → MayBegin u q hs → ((d : F) → z d ≡ begin_view (stated q) (chosen_log q (stated q) hs) t q d) → Comes z

  is_quiet : Quietly quiet
  unfolding quiet
  is_quiet = record { still = λ d. refl; calm = λ d. tt; goes = λ start s e o l d x. chooses_none u start i e o quiet mute_quiet t q d l (goes_quiet u start i t q d l s x) }

  is_wait : (op : ℕ) → Quietly (says (wait_line op))
  unfolding says
  is_wait op = record {
    still = λ d. refl;
    calm = λ d. calm_said q.view q.log_view (wait_line op q);
    goes = λ start s e o l d x.
        let h = goes_says u start i (wait_line op) t q d l s x (tt, tt) in
        record { goes = h; made = waits_at (IsMadeFrom h.after.chosen e o) op t q d };
  }

  module _ (fits : Fits u) (size_is : q.n ≡ u.quorums.n) (prim : is_primary q ≡ true) where
    comes_log : (hs : List Header) → decided q ≡ Ends hs → (b : Bool) → may_take t.hash (chosen_log q (stated q) hs) q ≡ b
        → Comes (λ d. cond b (begin_view (stated q) (chosen_log q (stated q) hs)) (says (wait_line (chosen_log q (stated q) hs).head)) t q d)
    comes_log hs is true may =
        let y = decided_of (quorums_of q.n) (stated q) hs is in
        let nack_is : y.0.nack ≡ u.quorums.nack = sym (ap (λ (o : Option Quorums). option_map_or (λ q. q.nack) o 0) (sym (ap quorums_of size_is) ∙ y.1)) ∙ fits.nack_is in
        begins hs (record { sizes = y.0; ends = y.2; nack_is = nack_is; may = may_take_is t.hash (chosen_log q (stated q) hs) q may }) (λ d. refl)
    comes_log hs is false may = quietly (says (wait_line (chosen_log q (stated q) hs).head)) (is_wait _) (λ d. refl)

    comes_choice : (c : Choice) → decided q ≡ c → Comes (λ d. obey_choice (stated q) c t q d)
    unfolding try_log naming by
    comes_choice TooFew is = quietly quiet is_quiet (λ d. refl)
    comes_choice (WaitsAt op) is = quietly (says (wait_line op)) (is_wait op) (λ d. refl)
    comes_choice (Ends hs) is = comes_log hs is (may_take t.hash (chosen_log q (stated q) hs) q) refl

    comes_try : (b : Bool) → Comes (λ d. when b (obey_choice (stated q) (decided q)) t q d)
    comes_try true = comes_choice (decided q) refl
    comes_try false = quietly quiet is_quiet (λ d. refl)

    comes_speak : (b : Bool) → Comes (λ d. when b (cond (is_primary q) try (says (to_primary do_view_change))) t q d)
    unfolding try by
    comes_speak true = rw prim (comes_try (is_primary q && not (is_started q)))
    comes_speak false = quietly quiet is_quiet (λ d. refl)

    comes : Comes (λ d. speak t q d)
    unfolding speak by
    comes = comes_speak (nat_le (view_change q.n) (size q.heard))

-- ---- the tick

-- a word that changes nothing, and then a look
calm_looks : {F : Type 0} (w : Word F) (t : Setting F) (q : Replica) → ((d : F) → (w t q d).replica ≡ q) → ((d : F) → Every (IsCalm q.view q.log_view) (w t q d).script) → (d : F) → Every (IsCalm q.view q.log_view) ((w ⨾ visit ⨾ ask) t q d).script
unfolding ◌⨾◌
calm_looks w t q still calm d =
    let a = w t q d in
    let g = after_all t d a.script in
    every_append (IsCalm q.view q.log_view) a.script ((visit ⨾ ask) t a.replica g).script (calm d) (subst (λ (p : Replica). Every (IsCalm q.view q.log_view) ((visit ⨾ ask) t p g).script) (sym (still d)) (calms_looks.every t q g))

-- a replica that is a group by itself is the primary of each of its views
alone_leads : (r : Replica) → r.n ≡ 1 → r.index < r.n → is_primary r ≡ true
alone_leads r one member =
    let less : r.view % r.n < r.n = mod-lt r.view (omega arith) in
    eq-eqb r.index (r.view % r.n) (omega arith)

module _ {F : Type 0} (u : Setup) (fits : Fits u) (one : u.quorums.n ≡ 1) (start : Group Header) (i : ℕ) (t : Setting F) (r : Replica) (l : Local) (free : Every AsksNothing l.said) (lower : r.log_view < r.view) where
  abbrev q : Replica
  q = idler r

  -- the rest of it, after these words of its view
  abbrev after_idling : Word F → Word F
  after_idling w = change idler ⨾ says (send_to_all start_view_change) ⨾ w ⨾ visit ⨾ ask

  enters_it : (s : Group Header) → Mid u s i r l s → Tallies u s i r → Enters u s i q
  enters_it s x tables = started_so u s i q l (mid_idler u s i r l s x) tables.stated lower

  hears_it : (s : Group Header) → Mid u s i r l s → Hears event.Tick r q
  hears_it s x = hears_none event.Tick r q (λ j. refl) (goes_idler r x.sound)

  says_it : (start s : Group Header) (k : Local) (d : F) → Mid u start i q k s → Goes u start i k (says (send_to_all start_view_change) t q d)
  says_it start s k d y = goes_says u start i (send_to_all start_view_change) t q d k s y (free_ready u start.sent i y.memory (s.members i).slots (send_to_all start_view_change q) (free_changes u start i q))

  looks_then : (start : Group Header) (w : Word F) (s : Group Header) (k : Local) (d : F) → Mid u start i q k s → Quietly u i t q w → GoesAndChooses u start i event.Tick r k ((w ⨾ visit ⨾ ask) t q d)
  looks_then start w s k d y h =
      let g = h.goes start s event.Tick r k d y in
      chooses_then u start i event.Tick r w (visit ⨾ ask) mute_looks t q d k g (λ z. goes_looks u (with_chosen g.goes.after.chosen start) i t _ _ _ _ z)

  -- nothing comes to count by it, where nothing begins
  calm_quietly : (f : F) (w : Word F) → Quietly u i t q w → Every (IsCalm r.view r.log_view) (after_idling w t r f).script
  unfolding change says
  calm_quietly f w h =
      calm_then (change idler) _ calms_idler t r f (λ d.
      calm_then (says (send_to_all start_view_change)) _ (calms_says (send_to_all start_view_change)) t q d (λ d.
      calm_looks w t q (h.still) (h.calm) d))

  -- it looks on, where nothing begins
  tick_quietly : (f : F) (w : Word F) → Quietly u i t q w → (s : Group Header) → Mid u s i r l s → Tallies u s i r → Concludes u s i event.Tick r l (after_idling w t r f) × Tabled u s i (after_idling w t r f)
  unfolding says
  tick_quietly f w h s x tables =
      let y = mid_idler u s i r l s x in (
        concludes_goes u s i event.Tick r l _ (chooses_changed u s i event.Tick r idler _ t r f l (λ d.
            then_chooses u s i event.Tick r (says (send_to_all start_view_change)) (w ⨾ visit ⨾ ask) (mute_all start_view_change) t q d l (says_it s s l d y) (λ a z.
            looks_then s w a _ _ z h))),
        tabled_change_then u s i idler _ t r f (λ d.
            tabled_says_then u s i (send_to_all start_view_change) _ t q d (λ d.
            tabled_then_stays u s i w (visit ⨾ ask) t q d (tabled_entered u s i q (w t q d) (h.still d) (enters_it s x tables)) (subst IsSound (sym (h.still d)) y.sound) stays_looks)),
      )

  -- its view begins
  tick_begins : (f : F) (hs : List Header) → MayBegin u q hs → Mid u start i r l start → Tallies u start i r → LoneChooses u start i l event.Tick r (after_idling (begin_view (stated q) (chosen_log q (stated q) hs)) t r f)
  unfolding says
  tick_begins f hs b x tables =
      let y = mid_idler u start i r l start x in
      let size = x.size in
      let prim = alone_leads r (omega arith) x.sound.member in
      let w : Word F = begin_view (stated q) (chosen_log q (stated q) hs) in
      let begins_so : (k : Local) (a : Group Header) (d : F) → Mid u start i q k a → Every AsksNothing k.said → LoneGoes u start i event.Tick r r.saved (here_in r) k (w t q d) =
      λ k a d z calm. lone_begins u fits start i event.Tick r t q d k a z (hears_it start x) tables.stated prim lower calm hs b in
      let sound : (d : F) → IsSound (w t q d).replica = λ d. let h = begins_so l start d y free in subst IsSound (sym h.replica) h.going.ends.sound in
      lone_ends u start i event.Tick r l _
      (lone_changed u start i event.Tick r r.saved (here_in r) idler _ t r f l (λ d.
      then_lone u start i event.Tick r r.saved (here_in r) (send_to_all start_view_change) (w ⨾ visit ⨾ ask) (mute_all start_view_change) t q d l (says_it start start l d y) (λ a d z.
      lone_then u start i event.Tick r r.saved (here_in r) w (visit ⨾ ask) mute_looks calms_looks t q _ _ (begins_so _ a _ z (said_free (send_to_all start_view_change q) l free (free_changes u start i q))) (λ s a k d z. goes_looks u s i t _ _ _ a z))))
      (tabled_change_then u start i idler _ t r f (λ d.
      tabled_says_then u start i (send_to_all start_view_change) _ t q d (λ d.
      tabled_then_stays u start i w (visit ⨾ ask) t q d (tabled_begin u start i t q d (enters_it start x tables) prim b.sizes hs b.ends b.may) (sound d) stays_looks)))

  tick_comes : (f : F) → Mid u start i r l start → Tallies u start i r → Comes u i t q (λ d. speak t q d) → LoneChooses u start i l event.Tick r (after_idling speak t r f)
  unfolding change says
  tick_comes f x tables (quietly w h same) =
      let is : after_idling speak t r f ≡ after_idling w t r f =
      same_then (change idler) _ _ t r f (λ d. same_then (says (send_to_all start_view_change)) _ _ t q d (λ d. then_same speak w (visit ⨾ ask) t q d (same d))) in
      subst (LoneChooses u start i l event.Tick r) (sym is) (lone_concludes u start i r l x free event.Tick (after_idling w t r f) (calm_quietly f w h) tables (λ s y z. tick_quietly f w h s y z))
  tick_comes f x tables (begins hs b same) =
      let w : Word F = begin_view (stated q) (chosen_log q (stated q) hs) in
      let is : after_idling speak t r f ≡ after_idling w t r f =
      same_then (change idler) _ _ t r f (λ d. same_then (says (send_to_all start_view_change)) _ _ t q d (λ d. then_same speak w (visit ⨾ ask) t q d (same d))) in
      subst (LoneChooses u start i l event.Tick r) (sym is) (tick_begins f hs b x tables)

  -- the next view is entered
  tick_enters : (f : F) → Mid u start i r l start → Tallies u start i r → LoneChooses u start i l event.Tick r ((change idler ⨾ next_view) t r f)
  unfolding change
  tick_enters f x tables =
      lone_concludes u start i r l x free event.Tick ((change idler ⨾ next_view) t r f) (calm_then (change idler) next_view calms_idler t r f (λ d. calm_next t (idler r) d x.sound.order.views)) tables (λ s z w.
      let y = mid_idler u s i r l s z in (
        concludes_none u s i event.Tick r (change idler ⨾ next_view) (mute_then _ _ (mute_change idler) (mute_next u fits s i)) t r f l
            (goes_finishes u s i l _ (goes_change_then u s i idler next_view t r f l s y (λ d. next u fits s i t q d l s y free))),
        tabled_change_then u s i idler next_view t r f (λ d. rules.next u fits s i t r f l z w q d y (rules.idle_tables u fits s i t r f l z w)),
      ))

  tick_if : (f : F) → Mid u start i r l start → Tallies u start i r → (b : Bool) → nat_le 10 q.idle ≡ b → LoneChooses u start i l event.Tick r (changing_ticks t r f)
  unfolding change by
  tick_if f x tables true e = subst (LoneChooses u start i l event.Tick r) (sym (same_then (change idler) _ next_view t r f (λ d. rw e refl))) (tick_enters f x tables)
  tick_if f x tables false e =
      let size = x.size in
      let prim = alone_leads r (omega arith) x.sound.member in
      subst (LoneChooses u start i l event.Tick r) (sym (same_then (change idler) _ (says (send_to_all start_view_change) ⨾ speak ⨾ visit ⨾ ask) t r f (λ d. rw e refl)))
      (tick_comes f x tables (comes u i t q fits x.size prim))

  pub lone_tick : (f : F) → Mid u start i r l start → Tallies u start i r → LoneChooses u start i l event.Tick r (changing_ticks t r f)
  lone_tick f x tables = tick_if f x tables (nat_le 10 q.idle) refl
