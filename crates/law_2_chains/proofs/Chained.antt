-- Every step of a replica can be carried out in the machine, to its end and wherever it is cut.
use Rattle.std.proofs.Common.{ℕ, ◌+◌, ◌≤◌, ◌<◌, ◌≡◌, ◌∙◌, arith, refl, sym, ap, subst, true, false, not, List, [], ◌∷◌, get_or, map, Option, None, is_some}
use Rattle.std.specs.Prelude.{nat_lt, nat_le}
use Rattle.std.proofs.lemmas.Bool.{and_parts, or_parts, not-true, ltb-true, ltb-false, le-ltb, eqb-false, true≢false}
use Rattle.std.proofs.lemmas.List.Elements.{All-contains, All-nil}
use Rattle.vr_header.specs.declared.header.Header.{Header}
use Rattle.vr_msg.specs.declared.event.Event.{Event}
use Rattle.vr_msg.specs.declared.event.Event.TheVariants as event
use Rattle.vr_msg.specs.declared.frame.Frame.{Frame}
use Rattle.vr_msg.specs.declared.frame.Frame.TheVariants as frame
use Rattle.vr_msg.specs.declared.frame.StartViewChange.{StartViewChange}
use Rattle.vr_msg.specs.declared.output.Output.{Output}
use Rattle.vr_msg.specs.declared.output.Output.TheVariants as output
use Rattle.vr_msg.specs.declared.statement.Statement.{Statement}
use Rattle.vr_rules.specs.Sound.{IsNameBytes}
use Rattle.vr_rules.specs.Replica.{Replica, last_view, head, is_started, leads, header_at, is_frozen, is_spent}
use Rattle.vr_rules.specs.Outputs.{others, send, send_to_all, commit_message, start_view_change}
use Rattle.vr_rules.specs.Steps.{Say, Setting, Step, Word, ◌⨾◌, quiet, change, says, by, when, outputs, after_all}
use Rattle.vr_rules.specs.Words.{saves, with_saved, entered, enter, rested, prepare_again, speak, ask, visit}
use Rattle.vr_rules.specs.Deciding.{first_of, commit_table, get_block_table, get_prepare_table, get_sync_table, get_view_table, give_block_table, give_prepare_table, prepare_ok_table, prepare_table, request_table, start_view_change_table, start_view_table, sync_view_table, tick_table}
use Rattle.vr_rules.specs.Rules.{heard_of, obey_start_view_change, on_start_view_change, idler, next_view, primary_ticks, backup_ticks, changing_ticks, obey_tick, on_tick, on_message, on_event, on_request, on_prepare, on_prepare_ok, on_commit, on_start_view, on_get_view, on_get_prepare, on_give_prepare, on_get_block, on_give_block, on_get_sync, on_sync_view, react, tell_view}
use Rattle.vr_rules.specs.Laws.{IsMessage}
use Rattle.vr_rules.proofs.Ruling.{by_rows}
use Rattle.vr_rules.proofs.SilentWaits.{Mute, mute_all, mute_by, mute_change, mute_if, mute_naming, mute_one, mute_prepare_again, mute_quiet, mute_reading, mute_then}
use Rattle.vr_rules.proofs.SilentSteps.{still_enter, mute_commit, mute_get_block, mute_get_prepare, mute_get_view, mute_give_block, mute_give_prepare, mute_prepare, mute_prepare_ok, mute_request, mute_start_view, mute_get_sync, mute_sync_view}
use Rattle.vr_rules.proofs.Wording.{none_stated}
use Rattle.law_1_machine.specs.Group.{Group}
use Rattle.law_2_chains.specs.Local.{Local, through, carried}
use Rattle.law_2_chains.specs.Chains.{Setup, Every, AsksNothing, MayBeSaid, WasSent, Mid, Goes}
use Rattle.law_2_chains.specs.Begins.{IsChain, as_it_was}
use Rattle.law_2_chains.specs.Choices.{ChainChooses, IsMadeFrom}
use Rattle.law_2_chains.specs.ChainLaws.{MayArrive}
use Rattle.law_2_chains.specs.Tables.{Fits, HasTables}
use Rattle.law_2_chains.proofs.Tallies.{Tallies, tallies_of}
use Rattle.law_2_chains.proofs.Scripts.{every_append, goes_then, goes_quiet, goes_change, goes_by, goes_if, goes_when}
use Rattle.law_2_chains.proofs.Readying.{free_ready}
use Rattle.law_2_chains.proofs.Moving.{goes_says}
use Rattle.law_2_chains.proofs.Applying.{goes_says_then}
use Rattle.law_2_chains.proofs.Vouching.{mid_rested, goes_change_then}
use Rattle.law_2_chains.proofs.Repairs.{every_mapped, leads_is, goes_tell_view, goes_commit, goes_get_view, goes_get_prepare, goes_give_prepare}
use Rattle.law_2_chains.proofs.Blocks.{goes_get_block, goes_give_block}
use Rattle.law_2_chains.proofs.Counting.{goes_prepare_ok}
use Rattle.law_2_chains.proofs.Prepares.{goes_prepare}
use Rattle.law_2_chains.proofs.Requests.{chain_request}
use Rattle.law_2_chains.proofs.StartViews.{goes_start_view}
use Rattle.law_2_chains.proofs.Picking as picking
use Rattle.law_2_chains.proofs.Picking.{Hears, IsPicked, goes_heard, goes_idler, goes_itself, hears_none, no_brought}
use Rattle.law_2_chains.proofs.Choices.{Concludes, are_none, concludes_by, concludes_changed, concludes_goes, concludes_if, concludes_none, then_concludes}
use Rattle.law_2_chains.proofs.Beginning.{said_free, free_changes, AreStated, enter_is, entered_fields, goes_entered, goes_prepare_again, goes_do_view_change}
use Rattle.law_2_chains.proofs.Finishing.{goes_finishes}
use Rattle.law_2_chains.proofs.Staying.{stays_quiet}
use Rattle.law_2_chains.proofs.Tabling.{Tabled, chain_of}
use Rattle.law_2_chains.proofs.TabledRules.{held, tabled_prepare, tabled_prepare_ok, tabled_commit, tabled_start_view_change, tabled_do_view_change, tabled_start_view, tabled_get_view, tabled_get_prepare, tabled_give_prepare, tabled_get_block, tabled_give_block, tabled_get_sync, tabled_sync_view, tabled_tick}
use Rattle.law_2_chains.proofs.SyncViews.{goes_sync_view, finishes_get_sync}
use Rattle.law_2_chains.proofs.Speaking.{concludes_speak, concludes_speak_looks, mid_heard, mid_idler, mute_looks, goes_looks}

module _ (u : Setup) (fits : Fits u) (start : Group Header) (i : ℕ) where
  heard_stated : (sender : ℕ) (r : Replica) → AreStated u start r → AreStated u start (heard_of sender r)
  heard_stated sender r h = h

  -- ---- a start_view_change (rules 19 to 22)

  hears_of : {F : Type 0} → 2 ≤ u.quorums.n → (sender : ℕ) (e : Event) (o : Replica) (t : Setting F) (r : Replica) (f : F) (l : Local) (s : Group Header) → Mid u start i r l s → Hears e o (heard_of sender r) → AreStated u start r → Every AsksNothing l.said
      → r.log_view < r.view → Concludes u start i e o l ((change (heard_of sender) ⨾ speak) t r f)
  hears_of several sender e o t r f l s x hears all free lower =
      concludes_changed u start i e o (heard_of sender) speak t r f l (λ d.
      concludes_speak u start i fits several e o t (heard_of sender r) d l s (mid_heard u start i sender r l s x) hears (heard_stated sender r all) free lower)

  enter_rests : {F : Type 0} (v : ℕ) (t : Setting F) (r : Replica) (f : F) → nat_lt last_view v ≡ true → enter v t r f ≡ change rested t r f
  unfolding enter
  enter_rests v t r f high = rw high refl

  goes_enter : {F : Type 0} (v : ℕ) (t : Setting F) (r : Replica) (f : F) (l : Local) (s : Group Header) → Mid u start i r l s → Every AsksNothing l.said → r.view ≤ v → Goes u start i l (enter v t r f)
  goes_enter v t r f l s x free up =
      elim (nat_lt last_view v) as (λ b. nat_lt last_view v ≡ b → Goes u start i l (enter v t r f)) [
        | true ↦ λ e. subst (Goes u start i l) (sym (enter_rests v t r f e)) (goes_change u start i rested t r f l s (mid_rested u start i r l s x))
        | false ↦ λ e. goes_entered u start i v t r f l s x free up e
      ] refl

  concludes_enter_then : {F : Type 0} (e : Event) (o : Replica) (v : ℕ) (w : Word F) (t : Setting F) (r : Replica) (f : F) (l : Local) (s : Group Header) (x : Mid u start i r l s) → Every AsksNothing l.said → r.view ≤ v
      → nat_lt last_view v ≡ false
      → ((k : Local) (a : Group Header) (d : F) → Every AsksNothing k.said → Mid u start i (with_saved (entered v r)) k a → Concludes u start i e o k (w t (with_saved (entered v r)) d))
      → Concludes u start i e o l ((enter v ⨾ w) t r f)
  concludes_enter_then {F} e o v w t r f l s x free up low go =
      let q : Replica = with_saved (entered v r) in
      let y : Step = record { replica = q; script = saves (entered v r) ∷ map Say (send_to_all start_view_change q) } in
      let step : (a : Group Header) → Mid u start i y.replica (carried y.script l) a → Concludes u start i e o (carried y.script l) (w t y.replica (after_all t f y.script)) =
      λ a z. go (carried y.script l) a (after_all t f y.script) (said_free (send_to_all start_view_change q) (through (saves (entered v r)) l) (every_append AsksNothing l.said [] free tt) (free_changes u start i q)) z in
      then_concludes u start i e o (enter v) w (still_enter v).mute t r f l (goes_entered u start i v t r f l s x free up low)
      (subst (λ (z : Step). (a : Group Header) → Mid u start i z.replica (carried z.script l) a → Concludes u start i e o (carried z.script l) (w t z.replica (after_all t f z.script))) (sym (enter_is v t r f low)) step)

  pub concludes_start_view_change : {F : Type 0} → 2 ≤ u.quorums.n → (c : StartViewChange) (t : Setting F) (r : Replica) (f : F) (l : Local) (s : Group Header) → Mid u start i r l s → AreStated u start r → Every AsksNothing l.said
      → IsMessage (frame.StartViewChange c) → Concludes u start i (event.Deliver (frame.StartViewChange c)) r l (on_start_view_change c t r f)
  unfolding on_start_view_change
  concludes_start_view_change several c t r f l s x all free m =
      let e : Event = event.Deliver (frame.StartViewChange c) in
      let idle = concludes_none u start i e r quiet mute_quiet t r f l (goes_finishes u start i l _ (goes_quiet u start i t r f l s x)) in
      let views = x.sound.order.views in
      concludes_by u start i e r _ t r f l (by_rows (λ z. Concludes u start i e r l (obey_start_view_change c z t r f)) (start_view_change_table c r) (
        λ a. idle,
        λ n0. (
          λ a. idle,
          λ n1. (
            λ a.
                let top = m.form in
                let later = ltb-true r.view c.view a in
                let low : nat_lt last_view c.view ≡ false = le-ltb last_view c.view (omega arith) in
                let q : Replica = with_saved (entered c.view r) in
                let p = entered_fields c.view r in
                let on = hears_none e r (heard_of c.replica q) (no_brought c) (goes_heard c.replica r q (picking.goes_entered c.view r later)) in
                concludes_enter_then e r c.view _ t r f l s x free (omega arith) low (λ k b d free y.
                hears_of several c.replica e r t q d k b y on (λ j g h. absurd (none_stated r.n j g (sym (ap (λ (ys : List (Option Statement)). get_or ys j None) p.2) ∙ h))) free (let v = p.0 in let w = p.3 in omega arith)),
            λ n2. (
              λ a.
                  let b = and_parts (not (is_started r)) _ a in
                  let apart = eqb-false r.view r.log_view (not-true (is_started r) b.0) in
                  hears_of several c.replica e r t r f l s x (hears_none e r (heard_of c.replica r) (no_brought c) (goes_heard c.replica r r (goes_itself r x.sound))) all free (omega arith),
              λ n3. (λ a. concludes_none u start i e r (tell_view c.replica) (mute_one _ (λ r. tt)) t r f l (goes_finishes u start i l _ (goes_tell_view u start i c.replica t r f l s x a)), λ n4. idle),
            ),
          ),
        ),
      ))

  -- ---- ticks (rules 32 to 34)

  tells_commit : (r : Replica) (l : Local) (s : Group Header) (x : Mid u start i r l s) → r.view ≡ r.log_view → Every (MayBeSaid u start.sent i x.memory (s.members i).slots) (send_to_all commit_message r)
  unfolding send_to_all
  tells_commit r l s x begun =
      let c = x.reflects.commit in
      every_mapped (MayBeSaid u start.sent i x.memory (s.members i).slots) (λ to. send to (commit_message r) r) (others r.index r.n) (λ to. (x.place, x.reflects.view, x.reflects.log_view ∙ sym begun, omega arith))

  ticks_primary : {F : Type 0} (t : Setting F) (r : Replica) (f : F) (l : Local) (s : Group Header) → Mid u start i r l s → leads r ≡ true
      → Goes u start i l (primary_ticks t r f)
  ticks_primary t r f l s x lead =
      let p = leads_is r lead in
      goes_says_then u start i (send_to_all commit_message) _ t r f l s x (tells_commit r l s x p.0) (λ k a d y.
      goes_then u start i (by (λ r. when (nat_lt r.commit (head r)) (prepare_again (r.commit + 1)))) (visit ⨾ ask) t r d k
      (goes_by u start i _ t r d k (goes_when u start i (nat_lt r.commit (head r)) (prepare_again (r.commit + 1)) t r d k a y (λ b. goes_prepare_again u start i (r.commit + 1) t r d k a y (record { begun = p.0; first = p.1 }))))
      (λ b z. goes_looks u start i t _ _ _ b z))

  pub mute_next : {F : Type 0} → Mute {F = F} next_view
  mute_next = mute_by _ (λ r. (still_enter (r.view + 1)).mute)

  pub next : {F : Type 0} (t : Setting F) (r : Replica) (f : F) (l : Local) (s : Group Header) → Mid u start i r l s → Every AsksNothing l.said → Goes u start i l (next_view t r f)
  next t r f l s x free = goes_by u start i _ t r f l (goes_enter (r.view + 1) t r f l s x free (omega arith))

  ticks_backup : {F : Type 0} (t : Setting F) (r : Replica) (f : F) (l : Local) (s : Group Header) → Mid u start i r l s → Every AsksNothing l.said → Goes u start i l (backup_ticks t r f)
  ticks_backup t r f l s x free =
      let y = mid_idler u start i r l s x in
      goes_change_then u start i idler _ t r f l s y (λ d. goes_by u start i _ t (idler r) d l (goes_if u start i (nat_le 5 (idler r).idle) next_view (visit ⨾ ask) t (idler r) d l (λ b. next t (idler r) d l s y free) (λ b. goes_looks u start i t (idler r) d l s y)))

  -- in none of these two a log is chosen
  pub concludes_primary : {F : Type 0} (t : Setting F) (r : Replica) (f : F) (l : Local) (s : Group Header) → Mid u start i r l s → leads r ≡ true → Concludes u start i event.Tick r l (primary_ticks t r f)
  concludes_primary t r f l s x lead =
      concludes_none u start i event.Tick r primary_ticks (mute_then _ _ (mute_all commit_message) (mute_then _ (visit ⨾ ask) (mute_by _ (λ r. mute_if (nat_lt r.commit (head r)) (prepare_again (r.commit + 1)) quiet (mute_prepare_again (r.commit + 1)) mute_quiet)) mute_looks))
      t r f l (goes_finishes u start i l _ (ticks_primary t r f l s x lead))

  pub concludes_backup : {F : Type 0} (t : Setting F) (r : Replica) (f : F) (l : Local) (s : Group Header) → Mid u start i r l s → Every AsksNothing l.said → Concludes u start i event.Tick r l (backup_ticks t r f)
  concludes_backup t r f l s x free =
      concludes_none u start i event.Tick r backup_ticks (mute_then _ _ (mute_change idler) (mute_by _ (λ r. mute_if (nat_le 5 r.idle) next_view (visit ⨾ ask) mute_next mute_looks)))
      t r f l (goes_finishes u start i l _ (ticks_backup t r f l s x free))

  ticks_changing : {F : Type 0} → 2 ≤ u.quorums.n → (t : Setting F) (r : Replica) (f : F) (l : Local) (s : Group Header) → Mid u start i r l s → AreStated u start r → Every AsksNothing l.said → r.log_view < r.view
      → Concludes u start i event.Tick r l (changing_ticks t r f)
  unfolding says
  ticks_changing several t r f l s x all free lower =
      let e : Event = event.Tick in
      let q : Replica = idler r in
      let y = mid_idler u start i r l s x in
      let os = send_to_all start_view_change q in
      let on = hears_none e r q (λ j. refl) (goes_idler r x.sound) in
      concludes_changed u start i e r idler _ t r f l (λ d. concludes_by u start i e r _ t q d l (concludes_if u start i e r (nat_le 10 q.idle) next_view _ t q d l
      (λ b. concludes_none u start i e r next_view mute_next t q d l (goes_finishes u start i l _ (next t q d l s y free)))
      (λ b. then_concludes u start i e r (says (send_to_all start_view_change)) (speak ⨾ visit ⨾ ask) (mute_all start_view_change) t q d l
      (goes_says u start i (send_to_all start_view_change) t q d l s y (free_ready u start.sent i y.memory (s.members i).slots os (free_changes u start i q)))
      (λ a z. concludes_speak_looks u start i fits several e r t q (after_all t d (map Say os)) (carried (map Say os) l) a z on all (said_free os l free (free_changes u start i q)) lower))))

  pub concludes_tick : {F : Type 0} → 2 ≤ u.quorums.n → (t : Setting F) (r : Replica) (f : F) (l : Local) (s : Group Header) → Mid u start i r l s → AreStated u start r → Every AsksNothing l.said → Concludes u start i event.Tick r l (on_tick t r f)
  unfolding on_tick
  concludes_tick several t r f l s x all free =
      let e : Event = event.Tick in
      let views = x.sound.order.views in
      concludes_by u start i e r _ t r f l (by_rows (λ z. Concludes u start i e r l (obey_tick z t r f)) (tick_table r) (
        λ a. concludes_primary t r f l s x a,
        λ n0. (
          λ a. concludes_backup t r f l s x free,
          λ n1. (λ a. let apart = eqb-false r.view r.log_view n1 in ticks_changing several t r f l s x all free (omega arith), λ n2. concludes_none u start i e r quiet mute_quiet t r f l (goes_finishes u start i l _ (goes_quiet u start i t r f l s x))),
        ),
      ))

-- ---- all events

module _ (u : Setup) (fits : Fits u) (several : 2 ≤ u.quorums.n) (start : Group Header) (i : ℕ) {F : Type 0} (t : Setting F) (r : Replica) (f : F) (l : Local) (x : Mid u start i r l start) (tables : Tallies u start i r) (hash : t.hash ≡ u.hash)
    (group : r.cluster ≡ u.cluster) (names : (bytes : List ℕ) → IsNameBytes (t.hash bytes)) (top : 0 < head r → is_some (header_at r (head r)) ≡ true) (free : Every AsksNothing l.said) where
  abbrev With : Event → Step → Type 0
  With e z = ChainChooses u start i l e r z

  -- what says no choose line
  silent : (e : Event) (w : Word F) → Mute w → IsChain u start i l (w t r f) → With e (w t r f)
  silent e w m c = let cs = c.finishes.after.chosen in record { chain = c; choices = λ line j. All-contains (IsPicked (IsMadeFrom cs e r)) (outputs (w t r f).script) (output.Choose line) (are_none cs e r w m t r f) j }

  with_choices : (e : Event) (z : Step) → Concludes u start i e r l z → Tabled u start i z → With e z
  unfolding chain_of
  with_choices e z h g = record {
    chain = chain_of u several start i l z h.finishes g;
    choices = λ line j. All-contains (IsPicked (IsMadeFrom h.finishes.after.chosen e r)) (outputs z.script) (output.Choose line) h.made j;
  }

  ends_so : (e : Event) (w : Word F) → Mute w → Goes u start i l (w t r f) → Tabled u start i (w t r f) → With e (w t r f)
  ends_so e w m h g = silent e w m (chain_of u several start i l (w t r f) (goes_finishes u start i l (w t r f) h) g)

  chain_message : (m : Frame) → r.view ≤ last_view → IsMessage m → WasSent u start.sent m → With (event.Deliver m) (on_message m t r f)
  unfolding on_request on_prepare on_prepare_ok on_commit on_start_view on_get_view on_get_prepare on_give_prepare on_get_block on_give_block on_get_sync on_sync_view
  chain_message (frame.Request q) last m sent = silent _ (on_request q) (mute_naming _ (λ hash. mute_by _ (λ r. mute_request hash q (first_of (request_table q r))))) (chain_request u fits several start i q t r f l x tables hash group names last top free m)
  chain_message (frame.Reply a) last m sent = ends_so _ quiet mute_quiet (goes_quiet u start i t r f l start x) (held u fits start i t r f l x tables quiet stays_quiet)
  chain_message (frame.Prepare p) last m sent = ends_so _ (on_prepare p) (mute_naming _ (λ hash. mute_by _ (λ r. mute_prepare hash p (first_of (prepare_table hash p r))))) (goes_prepare u start i p t r f l start x hash free sent m) (tabled_prepare u fits start i t r f l x tables p m)
  chain_message (frame.PrepareOk a) last m sent = ends_so _ (on_prepare_ok a) (mute_naming _ (λ hash. mute_by _ (λ r. mute_prepare_ok a (first_of (prepare_ok_table hash a r))))) (goes_prepare_ok u fits several start i a t r f l start x tables sent) (tabled_prepare_ok u fits start i t r f l x tables a sent)
  chain_message (frame.Commit c) last m sent = ends_so _ (on_commit c) (mute_by _ (λ r. mute_commit c (first_of (commit_table c r)))) (goes_commit u start i c t r f l start x sent) (tabled_commit u fits start i t r f l x tables c)
  chain_message (frame.StartViewChange c) last m sent = with_choices _ _ (concludes_start_view_change u fits start i several c t r f l start x tables.stated free m) (tabled_start_view_change u fits start i t r f l x tables c m)
  chain_message (frame.DoViewChange d) last m sent = with_choices _ _ (concludes_goes u start i (event.Deliver (frame.DoViewChange d)) r l _ (goes_do_view_change u fits several start i d t r f l start x tables.stated free m sent)) (tabled_do_view_change u fits start i t r f l x tables d m sent)
  chain_message (frame.StartView v) last m sent = ends_so _ (on_start_view v) (mute_naming _ (λ hash. mute_by _ (λ r. mute_start_view hash v (first_of (start_view_table hash v r))))) (goes_start_view u start i v t r f l start x hash free m sent) (tabled_start_view u fits start i t r f l x tables v m)
  chain_message (frame.GetView g) last m sent = ends_so _ (on_get_view g) (mute_by _ (λ r. mute_get_view g (first_of (get_view_table g r)))) (goes_get_view u start i g t r f l start x) (tabled_get_view u fits start i t r f l x tables g)
  chain_message (frame.GetPrepare g) last m sent = ends_so _ (on_get_prepare g) (mute_naming _ (λ hash. mute_by _ (λ r. mute_get_prepare g (first_of (get_prepare_table hash g r))))) (goes_get_prepare u start i g t r f l start x) (tabled_get_prepare u fits start i t r f l x tables g)
  chain_message (frame.GivePrepare g) last m sent = ends_so _ (on_give_prepare g) (mute_by _ (λ r. mute_give_prepare g (first_of (give_prepare_table g r)))) (goes_give_prepare u start i g t r f l start x hash free) (tabled_give_prepare u fits start i t r f l x tables g)
  chain_message (frame.GetBlock g) last m sent = ends_so _ (on_get_block g) (mute_reading _ _ (λ block. mute_by _ (λ r. mute_get_block g block (first_of (get_block_table (is_some block) g r))))) (goes_get_block u start i g t r f l start x) (tabled_get_block u fits start i t r f l x tables g)
  chain_message (frame.GiveBlock g) last m sent = ends_so _ (on_give_block g) (mute_reading _ _ (λ is_block. mute_by _ (λ r. mute_give_block is_block g (first_of (give_block_table is_block g r))))) (goes_give_block u start i g t r f l start x) (tabled_give_block u fits start i t r f l x tables g)
  chain_message (frame.GetSync g) last m sent = silent _ (on_get_sync g) (mute_by _ (λ r. mute_get_sync g (first_of (get_sync_table g r)))) (chain_of u several start i l (on_get_sync g t r f) (finishes_get_sync u start i g t r f l start x) (tabled_get_sync u fits start i t r f l x tables g))
  chain_message (frame.SyncView v) last m sent = ends_so _ (on_sync_view v) (mute_naming _ (λ hash. mute_by _ (λ r. mute_sync_view hash v (first_of (sync_view_table hash v r))))) (goes_sync_view u start i v t r f l start x hash free m sent) (tabled_sync_view u fits start i t r f l x tables v m)

  chain_event : (e : Event) → r.view ≤ last_view → MayArrive u start e → With e (on_event e t r f)
  unfolding on_request
  chain_event (event.Request q) last m = silent _ (on_request q) (mute_naming _ (λ hash. mute_by _ (λ r. mute_request hash q (first_of (request_table q r))))) (chain_request u fits several start i q t r f l x tables hash group names last top free m)
  chain_event (event.Deliver m) last may = chain_message m last may.0 may.1
  chain_event event.Tick last may = with_choices _ _ (concludes_tick u fits start i several t r f l start x tables.stated free) (tabled_tick u fits start i t r f l x tables)

module _ (u : Setup) (fits : Fits u) (several : 2 ≤ u.quorums.n) (start : Group Header) (i : ℕ) {F : Type 0} (t : Setting F) (r : Replica) (f : F) (l : Local) (x : Mid u start i r l start) (tabled : HasTables u start i r) (hash : t.hash ≡ u.hash)
    (group : r.cluster ≡ u.cluster) (names : (bytes : List ℕ) → IsNameBytes (t.hash bytes)) (top : 0 < head r → is_some (header_at r (head r)) ≡ true) (free : Every AsksNothing l.said) where
  frozen : (e : Event) → is_frozen r ≡ true → ChainChooses u start i l e r (quiet t r f)
  unfolding quiet outputs
  frozen e b = record {
    chain = record { begun = start; begins = as_it_was; finishes = goes_finishes u start i l _ (goes_quiet u start i t r f l start x); tables = λ c. absurd (true≢false (sym b ∙ c)) };
    choices = λ line j. absurd (All-contains (λ (z : Output). ⊥) [] (output.Choose line) (All-nil (λ (z : Output). ⊥)) j);
  }

  -- a frozen replica does nothing
  pub chain_react : (e : Event) → MayArrive u start e → ChainChooses u start i l e r (react e t r f)
  unfolding react by quiet
  chain_react e may =
      elim (is_frozen r) as (λ b. is_frozen r ≡ b → ChainChooses u start i l e r (when (not b) (on_event e) t r f)) [
        | true ↦ λ b. frozen e b
        | false ↦ λ b. chain_event u fits several start i t r f l x (tallies_of u start i r (tabled b)) hash group names top free e (ltb-false last_view r.view (or_parts (nat_lt last_view r.view) (is_spent r) b).0) may
      ] refl
