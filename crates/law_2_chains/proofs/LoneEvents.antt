-- All events at a replica that is a group by itself: no message is from another member, so it handles requests and ticks alone.
use Rattle.std.proofs.Common.{ℕ, ◌≤◌, ◌<◌, ◌≡◌, ◌⊎◌, inl, inr, arith, refl, sym, subst, true, false, not, is_some, List}
use Rattle.std.specs.Prelude.{nat_lt, ◌&&◌, ◌==◌}
use Rattle.std.proofs.lemmas.Bool.{cases_lt, eq-eqb, eqb-false, le-ltb, lt-ltb, ltb-false, or_parts}
use Rattle.vr_header.specs.declared.header.Header.{Header}
use Rattle.vr_msg.specs.declared.event.Event.{Event}
use Rattle.vr_msg.specs.declared.event.Event.TheVariants as event
use Rattle.vr_msg.specs.declared.frame.Frame.{Frame}
use Rattle.vr_msg.specs.declared.frame.Frame.TheVariants as frame
use Rattle.vr_msg.specs.declared.request.RequestFields.{RequestFields}
use Rattle.vr_rules.specs.Deciding.{first_of, is_for, is_from, tick_table}
use Rattle.vr_rules.specs.Laws.{IsMessage}
use Rattle.vr_rules.specs.Replica.{Replica, head, header_at, is_frozen, is_spent, last_view}
use Rattle.vr_rules.specs.Rules.{changing_ticks, obey_tick, on_commit, on_do_view_change, on_event, on_get_block, on_get_prepare, on_get_sync, on_get_view, on_give_block, on_give_prepare, on_message, on_prepare, on_prepare_ok, on_request, on_start_view, on_start_view_change, on_sync_view, on_tick, react}
use Rattle.vr_rules.specs.Sound.{IsNameBytes}
use Rattle.vr_rules.specs.Steps.{Setting, Step, by, naming, quiet, reading, when}
use Rattle.vr_rules.proofs.Ruling.{by_rows}
use Rattle.vr_rules.proofs.SilentWaits.{mute_quiet}
use Rattle.law_1_machine.specs.Group.{Group}
use Rattle.law_2_chains.specs.ChainLaws.{MayArrive}
use Rattle.law_2_chains.specs.Chains.{Setup, Every, AsksNothing, Mid}
use Rattle.law_2_chains.specs.Lone.{LoneChooses}
use Rattle.law_2_chains.specs.Local.{Local}
use Rattle.law_2_chains.specs.Tables.{Fits, HasTables}
use Rattle.law_2_chains.proofs.Chained.{concludes_backup, concludes_primary}
use Rattle.law_2_chains.proofs.Choices.{Concludes, concludes_none}
use Rattle.law_2_chains.proofs.Finishing.{goes_finishes}
use Rattle.law_2_chains.proofs.Calm.{calm_backup, calms_primary, calms_quiet}
use Rattle.law_2_chains.proofs.LoneRequests.{lone_request}
use Rattle.law_2_chains.proofs.LoneSteps.{lone_concludes, lone_frozen, lone_goes, lone_mute}
use Rattle.law_2_chains.proofs.LoneTicks.{lone_tick}
use Rattle.law_2_chains.proofs.Scripts.{goes_quiet}
use Rattle.law_2_chains.proofs.Staying.{stays_quiet}
use Rattle.law_2_chains.proofs.StoredLists.{IsCalm}
use Rattle.law_2_chains.proofs.TabledRules.{tabled_tick}
use Rattle.law_2_chains.proofs.Tabling.{tabled_stays}
use Rattle.law_2_chains.proofs.Tallies.{Tallies, tallies_of}

-- ---- nobody else sends

none_from : (v cluster sender : ℕ) (r : Replica) → r.n ≡ 1 → r.index < r.n → is_from v cluster sender r ≡ false
none_from v cluster sender r one member =
    elim (is_for v cluster r) as (λ b. (b && (nat_lt sender r.n && not (sender == r.index))) ≡ false) [
      | false ↦ refl
      | true ↦ elim (cases_lt sender r.n) [
        | inl within ↦ let same : sender ≡ r.index = omega arith in rw (lt-ltb sender r.n within, eq-eqb sender r.index same) refl
        | inr past ↦ rw (le-ltb sender r.n past) refl
      ]
    ]

-- so what holds of a step that does nothing holds of the handling of a message that isn't a request
of_message : {F : Type 0} (P : Step → Type 0) (t : Setting F) (r : Replica) (f : F) → r.n ≡ 1 → r.index < r.n → P (quiet t r f) → (m : Frame) → ((q : RequestFields) → m ≡ frame.Request q → P (on_request q t r f)) → P (on_message m t r f)
unfolding on_prepare on_prepare_ok on_commit on_start_view_change on_do_view_change on_start_view on_get_view on_get_prepare on_give_prepare on_get_block on_give_block on_get_sync on_sync_view naming by reading first_of
of_message P t r f one member idle (frame.Request q) asks = asks q refl
of_message P t r f one member idle (frame.Reply a) asks = idle
of_message P t r f one member idle (frame.Prepare p) asks = rw (none_from p.version p.entry.header.cluster p.replica r one member) idle
of_message P t r f one member idle (frame.PrepareOk a) asks = rw (none_from a.version a.cluster a.replica r one member) idle
of_message P t r f one member idle (frame.Commit c) asks = rw (none_from c.version c.cluster c.replica r one member) idle
of_message P t r f one member idle (frame.StartViewChange c) asks = rw (none_from c.version c.cluster c.replica r one member) idle
of_message P t r f one member idle (frame.DoViewChange d) asks = rw (none_from d.version d.cluster d.replica r one member) idle
of_message P t r f one member idle (frame.StartView v) asks = rw (none_from v.version v.cluster v.replica r one member) idle
of_message P t r f one member idle (frame.GetView g) asks = rw (none_from g.version g.cluster g.replica r one member) idle
of_message P t r f one member idle (frame.GetPrepare g) asks = rw (none_from g.version g.cluster g.replica r one member) idle
of_message P t r f one member idle (frame.GivePrepare g) asks = rw (none_from g.version g.entry.header.cluster g.replica r one member) idle
of_message P t r f one member idle (frame.GetBlock g) asks = rw (none_from g.version g.cluster g.replica r one member) idle
of_message P t r f one member idle (frame.GiveBlock g) asks = rw (none_from g.version g.cluster g.replica r one member) idle
of_message P t r f one member idle (frame.GetSync g) asks = rw (none_from g.version g.cluster g.replica r one member) idle
of_message P t r f one member idle (frame.SyncView v) asks = rw (none_from v.version v.cluster v.replica r one member) idle

-- ---- ticks

-- By a tick nothing comes to count, and no log is chosen; or it is one at a replica that hasn't started its view.
ticks_comes : {F : Type 0} (u : Setup) (fits : Fits u) (i : ℕ) (t : Setting F) (r : Replica) (f : F) (l : Local) → Every AsksNothing l.said → r.log_view ≤ r.view
    → (Every (IsCalm r.view r.log_view) (on_tick t r f).script × ((s : Group Header) → Mid u s i r l s → Concludes u s i event.Tick r l (on_tick t r f))) ⊎ ((on_tick t r f ≡ changing_ticks t r f) × (r.log_view < r.view))
unfolding on_tick by
ticks_comes u fits i t r f l free views =
    by_rows
    (λ z. (Every (IsCalm r.view r.log_view) (obey_tick z t r f).script × ((s : Group Header) → Mid u s i r l s → Concludes u s i event.Tick r l (obey_tick z t r f))) ⊎ ((obey_tick z t r f ≡ changing_ticks t r f) × (r.log_view < r.view)))
    (tick_table r) (
      λ a. inl (calms_primary.every t r f, λ s y. concludes_primary u fits s i t r f l s y a),
      λ n0. (
        λ a. inl (calm_backup t r f views, λ s y. concludes_backup u fits s i t r f l s y free),
        λ n1. (
          λ a. let apart = eqb-false r.view r.log_view n1 in inr (refl, omega arith),
          λ n2. inl (calms_quiet.every t r f, λ s y. concludes_none u s i event.Tick r quiet mute_quiet t r f l (goes_finishes u s i l _ (goes_quiet u s i t r f l s y))),
        ),
      ),
    )

-- ---- all events

module _ (u : Setup) (fits : Fits u) (one : u.quorums.n ≡ 1) (start : Group Header) (i : ℕ) {F : Type 0} (t : Setting F) (r : Replica) (f : F) (l : Local) (x : Mid u start i r l start) (hash : t.hash ≡ u.hash)
    (group : r.cluster ≡ u.cluster) (names : (bytes : List ℕ) → IsNameBytes (t.hash bytes)) (top : 0 < head r → is_some (header_at r (head r)) ≡ true) (free : Every AsksNothing l.said) where
  module _ (tables : Tallies u start i r) (last : r.view ≤ last_view) where
    asked : (e : Event) (q : RequestFields) → IsMessage (frame.Request q) → LoneChooses u start i l e r (on_request q t r f)
    asked e q m = lone_request u fits.replication_is start i e q t r f l x tables hash group names last top free m

    -- it does nothing
    idle : (e : Event) → LoneChooses u start i l e r (quiet t r f)
    idle e = lone_mute u start i e quiet mute_quiet t r f l (lone_goes u start i r l x free (quiet t r f) (calms_quiet.every t r f) tables (λ s y z. (goes_quiet u s i t r f l s y, tabled_stays u s i quiet t r f stays_quiet y.sound z)))

    of_event : (e : Event) → MayArrive u start e → LoneChooses u start i l e r (on_event e t r f)
    of_event (event.Request q) m = asked (event.Request q) q m
    of_event (event.Deliver m) may =
        let e : Event = event.Deliver m in
        let size = x.size in
        of_message (LoneChooses u start i l e r) t r f (omega arith) x.sound.member (idle e) m (λ q is. asked e q (subst IsMessage is may.0))
    of_event event.Tick may =
        elim (ticks_comes u fits i t r f l free x.sound.order.views) [
          | inl calm ↦ lone_concludes u start i r l x free event.Tick (on_tick t r f) calm.0 tables (λ s y z. (calm.1 s y, tabled_tick u fits s i t r f l y z))
          | inr begins ↦ subst (LoneChooses u start i l event.Tick r) (sym begins.0) (lone_tick u fits one start i t r l free begins.1 f x tables)
        ]

  pub lone_react : HasTables u start i r → (e : Event) → MayArrive u start e → LoneChooses u start i l e r (react e t r f)
  unfolding react by
  lone_react tabled e may =
      elim (is_frozen r) as (λ b. is_frozen r ≡ b → LoneChooses u start i l e r (when (not b) (on_event e) t r f)) [
        | true ↦ λ b. lone_mute u start i e quiet mute_quiet t r f l (lone_frozen u start i r l x free t f b)
        | false ↦ λ b. of_event (tallies_of u start i r (tabled b)) (ltb-false last_view r.view (or_parts (nat_lt last_view r.view) (is_spent r) b).0) e may
      ] refl
