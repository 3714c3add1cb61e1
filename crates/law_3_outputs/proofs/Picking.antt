-- A choose line of a step is of the choice of the rules from what its replica has heard.
use Rattle.std.proofs.Common.{ℕ, ◌+◌, ◌<◌, ◌≡◌, ◌∙◌, refl, sym, ap, subst, arith, Bool, true, false, cond, eqb, get_or, List, [], ◌∷◌, Option, Some, None, is_some}
use Rattle.std.specs.Prelude.{All, nat_lt, nat_le, not, ◌&&◌, ◌==◌, Contains}
use Rattle.std.specs.List.{cons_option, filter_map, range_with_len}
use Rattle.std.specs.Option.{option_map_or}
use Rattle.std.proofs.lemmas.Bool.{and_parts, ltb-true, not-false}
use Rattle.std.proofs.lemmas.List.Elements.{All-nil, All-cons, All-contains}
use Rattle.vr_base.specs.Groups.{quorums_of}
use Rattle.vr_base.specs.declared.table.Quorums.{Quorums}
use Rattle.vr_msg.specs.declared.output.Chosen.{Chosen}
use Rattle.vr_msg.specs.Choice.{choice, top_commit, top_view}
use Rattle.vr_rules.specs.Replica.{Replica, is_frozen, last_view, statement_of, head, version}
use Rattle.vr_rules.specs.Steps.{Setting, Word, ◌⨾◌, quiet, change, does, says, by, outputs}
use Rattle.vr_rules.specs.Words as words
use Rattle.vr_rules.specs.Words.{log_end, stated}
use Rattle.vr_rules.proofs.Ruling.{by_rows, IsFor, for_of}
use Rattle.vr_rules.specs.Sound.{IsSound}
use Rattle.vr_rules.specs.Laws.{IsEvent}
use Rattle.vr_msg.specs.Logs.{IsStatement}
use Rattle.vr_rules.proofs.Stating.{own_statement}
use Rattle.vr_world.specs.Safe.{all_heard, brought, heard_from, or_else}
use Rattle.law_3_outputs.specs.Picked.{IsChosenBy}
use Rattle.vr_header.specs.declared.header.Header.{Header}
use Rattle.vr_msg.specs.declared.choice.Choice.TheVariants.{Ends, TooFew}
use Rattle.vr_msg.specs.declared.event.Event.TheVariants as event
use Rattle.vr_msg.specs.declared.event.Event.{Event}
use Rattle.vr_msg.specs.declared.frame.DoViewChange.{DoViewChange}
use Rattle.vr_msg.specs.declared.frame.Frame.TheVariants as frame
use Rattle.vr_msg.specs.declared.frame.Frame.{Frame}
use Rattle.vr_msg.specs.declared.frame.StartViewChange.{StartViewChange}
use Rattle.vr_msg.specs.declared.output.Output.TheVariants as output
use Rattle.vr_msg.specs.declared.statement.Statement.{Statement}
use Rattle.vr_rules.proofs.SilentWaits.{Mute, mute_all, mute_by, mute_change, mute_if, mute_naming, mute_one, mute_prepare_again, mute_quiet, mute_reading, mute_then, mute_visit}
use Rattle.vr_rules.proofs.SilentSteps.{still_enter, still_ask, mute_commit, mute_get_block, mute_get_prepare, mute_get_view, mute_give_block, mute_give_prepare, mute_prepare, mute_prepare_ok, mute_request, mute_start_view, mute_get_sync, mute_sync_view}
use Rattle.vr_rules.specs.Deciding.{commit_table, do_view_change_table, first_of, get_block_table, get_prepare_table, get_sync_table, get_view_table, give_block_table, give_prepare_table, is_from, prepare_ok_table, prepare_table, request_table, start_view_change_table, start_view_table, sync_view_table, tick_table, is_for}
use Rattle.vr_rules.specs.Outputs as told
use Rattle.vr_rules.specs.Rules as rules
use Rattle.law_2_chains.proofs.Picking.{GoesOn, Hears, IsPicked, MayPick, PicksAt, at_if, at_then, goes_entered, goes_heard, goes_idler, goes_itself, goes_rested, hears_none, hears_statement, no_brought, plain, speak_at, stated_is, try_at}

each_heard : {X : Type 0} (P : X → Type 0) (f : ℕ → Option X) (is : List ℕ) → ((i : ℕ) (x : X) → f i ≡ Some x → P x) → All P (filter_map f is)
each_heard P f [] h = All-nil P
each_heard {X} P f (i ∷ is) h =
    let rest = each_heard P f is h in
    elim (f i) as (λ (o : Option X). f i ≡ o → All P (cons_option o (filter_map f is))) [
      | None ↦ λ e. rest
      | Some x ↦ λ e. All-cons P x (filter_map f is) (h i x e) rest
    ] refl

-- a statement that was there before
before_is : (b : Bool) (i : ℕ) (o : Replica) (t : Statement) → IsSound o → cond b (get_or o.statements i None) None ≡ Some t → IsStatement (version o) o.cluster t
before_is true i o t sound e = (sound.stated.each i t e).statement
before_is false i o t sound e = absurd cc

-- a statement that was heard
heard_is : (e : Event) (o r : Replica) (i : ℕ) (t : Statement) → IsSound o → Hears e o r → IsEvent e → heard_from r.view e o i ≡ Some t → IsStatement (version o) o.cluster t
heard_is e o r i t sound h came is =
    elim (eqb i o.index) as (λ b. cond b (Some (statement_of o)) (or_else (brought i e) (cond (eqb o.view r.view) (get_or o.statements i None) None)) ≡ Some t → IsStatement (version o) o.cluster t) [
      | true ↦ λ x. let same : statement_of o ≡ t = (let z : Some (statement_of o) ≡ Some t = x in cc) in subst (IsStatement (version o) o.cluster) same (own_statement o sound).statement
      | false ↦ elim (brought i e) as (λ b. brought i e ≡ b → or_else b (cond (eqb o.view r.view) (get_or o.statements i None) None) ≡ Some t → IsStatement (version o) o.cluster t) [
        | Some s ↦ λ y x. h.group i t (y ∙ x) came
        | None ↦ λ y x. before_is (eqb o.view r.view) i o t sound x
      ] refl
    ] is

all_are : (e : Event) (o r : Replica) → IsSound o → Hears e o r → IsEvent e → All (IsStatement (version o) o.cluster) (all_heard r.view e o)
unfolding all_heard
all_are e o r sound h came = each_heard (IsStatement (version o) o.cluster) (heard_from r.view e o) (range_with_len 0 o.n) (λ i t is. heard_is e o r i t sound h came is)

decided_of : (o : Option Quorums) (ss : List Statement) (hs : List Header) → option_map_or (λ q. choice q ss) o TooFew ≡ Ends hs → (q : Quorums) × (o ≡ Some q) × (choice q ss ≡ Ends hs)
decided_of None ss hs e = absurd cc
decided_of (Some q) ss hs e = (q, refl, e)

may_pick : (e : Event) (o r : Replica) → IsSound o → Hears e o r → MayPick (IsChosenBy e o) r
may_pick e o r sound h hs is =
    let d = decided_of (quorums_of r.n) (stated r) hs is in
    let same = stated_is e o r h in
    record {
      place = h.index;
      statements = all_are e o r sound h;
      sizes = d.0;
      sizes_are = ap quorums_of (sym h.n) ∙ d.1;
      headers = hs;
      ends = ap (choice d.0) (sym same) ∙ d.2;
      log_view = ap top_view same;
      commit = ap top_commit same;
      reach = ap (λ ss. log_end (top_commit ss) hs) same;
    }

-- ---- the steps

-- where a view is entered
entered_is : {F : Type 0} (v : ℕ) (s : Setting F) (o : Replica) (f : F) → IsSound o → o.view < v → GoesOn o (words.enter v s o f).replica
unfolding words.enter words.save ◌⨾◌ change says does
entered_is v s o f sound less =
    let go : (b : Bool) → GoesOn o ((cond b (change words.rested) (change (words.entered v) ⨾ words.save ⨾ says (told.send_to_all told.start_view_change))) s o f).replica = elim [
      | true ↦ goes_rested o sound
      | false ↦ goes_entered v o less
    ] in
    go (nat_lt last_view v)

module _ {F : Type 0} (s : Setting F) (o : Replica) (f : F) (sound : IsSound o) where
  abbrev Right : Event → Word F → Type 0
  Right e w = PicksAt (IsChosenBy e o) s o f w

  heard_at : (e : Event) (c : StartViewChange) (x : Replica) (d : F) → Hears e o (rules.heard_of c.replica x) → PicksAt (IsChosenBy e o) s x d (change (rules.heard_of c.replica) ⨾ words.speak)
  unfolding change
  heard_at e c x d h =
      let Q = IsChosenBy e o in
      at_then Q (change (rules.heard_of c.replica)) words.speak s x d (plain Q (mute_change (rules.heard_of c.replica)) s x d) (λ d. speak_at Q s (rules.heard_of c.replica x) d (may_pick e o (rules.heard_of c.replica x) sound h))

  -- rules 20 and 21
  change_at : (c : StartViewChange) → Right (event.Deliver (frame.StartViewChange c)) (rules.on_start_view_change c)
  unfolding rules.on_start_view_change by
  change_at c =
      let e = event.Deliver (frame.StartViewChange c) in
      let Q = IsChosenBy e o in
      let idle : Right e quiet = plain Q mute_quiet s o f in
      let told_view : Right e (rules.tell_view c.replica) = plain Q (mute_one _ (λ r. tt)) s o f in
      let heard : (x : Replica) (d : F) → GoesOn o x → PicksAt Q s x d (change (rules.heard_of c.replica) ⨾ words.speak) =
      λ x d g. heard_at e c x d (hears_none e o (rules.heard_of c.replica x) (no_brought c) (goes_heard c.replica o x g)) in
      by_rows (λ z. Right e (rules.obey_start_view_change c z)) (start_view_change_table c o) (
        λ t. idle,
        λ n0. (
          λ t. idle,
          λ n1. (
            λ t. at_then Q (words.enter c.view) _ s o f (plain Q (still_enter c.view).mute s o f) (λ d. heard (words.enter c.view s o f).replica d (entered_is c.view s o f sound (ltb-true o.view c.view t))),
            λ n2. (λ t. heard o f (goes_itself o sound), λ n3. (λ t. told_view, λ n4. idle)),
          ),
        ),
      )

  entered_or : (d : DoViewChange) (b : Bool) → nat_lt o.view d.view ≡ b → GoesOn o ((cond b (words.enter d.view) quiet) s o f).replica
  unfolding quiet
  entered_or d true t = entered_is d.view s o f sound (ltb-true o.view d.view t)
  entered_or d false t = goes_itself o sound

  -- rule 25
  try_stated : (d : DoViewChange) (x : Replica) (g : F) → GoesOn o x → d.replica < x.n → IsFor d.version d.cluster o → PicksAt (IsChosenBy (event.Deliver (frame.DoViewChange d)) o) s x g (change (rules.with_statement d.replica d.statement) ⨾ words.try)
  unfolding change
  try_stated d x g h member of_group =
      let e = event.Deliver (frame.DoViewChange d) in
      let Q = IsChosenBy e o in
      let y = rules.with_statement d.replica d.statement x in
      at_then Q (change (rules.with_statement d.replica d.statement)) words.try s x g (plain Q (mute_change (rules.with_statement d.replica d.statement)) s x g) (λ k. try_at Q s y k (may_pick e o y sound (hears_statement d o x h member of_group)))

  statement_at : (d : DoViewChange) → Right (event.Deliver (frame.DoViewChange d)) (rules.on_do_view_change d)
  unfolding rules.on_do_view_change by quiet
  statement_at d =
      let e = event.Deliver (frame.DoViewChange d) in
      let Q = IsChosenBy e o in
      let idle : Right e quiet = plain Q mute_quiet s o f in
      let told_view : Right e (rules.tell_view d.replica) = plain Q (mute_one _ (λ r. tt)) s o f in
      by_rows (λ z. Right e (rules.obey_do_view_change d z)) (do_view_change_table d o) (
        λ t. idle,
        λ n0. (
          λ t. idle,
          λ n1. (
            λ t. told_view,
            λ n2. (
              λ t.
                  let from = and_parts (is_for d.version d.cluster o) (nat_lt d.replica o.n && not (d.replica == o.index)) (not-false (is_from d.version d.cluster d.replica o) n0) in
                  let member = ltb-true d.replica o.n (and_parts (nat_lt d.replica o.n) (not (d.replica == o.index)) from.1).0 in
                  let first : Word F = by (λ r. cond (nat_lt r.view d.view) (words.enter d.view) quiet) in
                  let rest : Word F = change (rules.with_statement d.replica d.statement) ⨾ words.try in
                  let on : GoesOn o (first s o f).replica = entered_or d (nat_lt o.view d.view) refl in
                  at_then Q first rest s o f (plain Q (mute_by _ (λ r. mute_if (nat_lt r.view d.view) (words.enter d.view) quiet (still_enter d.view).mute mute_quiet)) s o f)
                  (λ g. try_stated d (first s o f).replica g on (let m = on.n in omega arith) (for_of d.version d.cluster o from.0)),
              λ n3. idle,
            ),
          ),
        ),
      )

  -- a tick
  tick_at : Right event.Tick rules.on_tick
  unfolding rules.on_tick by change says
  tick_at =
      let e = event.Tick in
      let Q = IsChosenBy e o in
      let next : Mute rules.next_view = mute_by _ (λ r. (still_enter (r.view + 1)).mute) in
      let looks : Word F = words.visit ⨾ words.ask in
      let asks : Mute looks = mute_then words.visit words.ask mute_visit still_ask.mute in
      let idles : Mute (change rules.idler) = mute_change rules.idler in
      let x = rules.idler o in
      let on = hears_none e o x (λ i. refl) (goes_idler o sound) in
      let speaks : (d : F) → PicksAt Q s x d (says (told.send_to_all told.start_view_change) ⨾ (words.speak ⨾ looks)) =
      λ d. at_then Q (says (told.send_to_all told.start_view_change)) (words.speak ⨾ looks) s x d (plain Q (mute_all told.start_view_change) s x d)
      (λ g. at_then Q words.speak looks s x g (speak_at Q s x g (may_pick e o x sound on)) (λ h. plain Q asks s (words.speak s x g).replica h)) in
      by_rows (λ z. Right e (rules.obey_tick z)) (tick_table o) (
        λ t. plain Q (mute_then (says (told.send_to_all told.commit_message)) _ (mute_all told.commit_message)
            (mute_then (by (λ r. cond (nat_lt r.commit (head r)) (words.prepare_again (r.commit + 1)) quiet)) looks (mute_by _ (λ r. mute_if (nat_lt r.commit (head r)) (words.prepare_again (r.commit + 1)) quiet (mute_prepare_again (r.commit + 1)) mute_quiet)) asks)) s o f,
        λ n0. (
          λ t. plain Q (mute_then (change rules.idler) (by (λ r. cond (nat_le 5 r.idle) rules.next_view looks)) idles (mute_by _ (λ r. mute_if (nat_le 5 r.idle) rules.next_view looks next asks))) s o f,
          λ n1. (
            λ t. at_then Q (change rules.idler) (by (λ r. cond (nat_le 10 r.idle) rules.next_view (says (told.send_to_all told.start_view_change) ⨾ (words.speak ⨾ looks)))) s o f (plain Q idles s o f)
                (λ d. at_if Q (nat_le 10 x.idle) rules.next_view (says (told.send_to_all told.start_view_change) ⨾ (words.speak ⨾ looks)) s x d (λ t. plain Q next s x d) (λ t. speaks d)),
            λ n2. plain Q mute_quiet s o f,
          ),
        ),
      )

  message_at : (m : Frame) → Right (event.Deliver m) (rules.on_message m)
  unfolding rules.on_request rules.on_prepare rules.on_prepare_ok rules.on_commit rules.on_start_view rules.on_get_view rules.on_get_prepare rules.on_give_prepare rules.on_get_block rules.on_give_block rules.on_get_sync rules.on_sync_view
  message_at (frame.Request q) = let Q = IsChosenBy (event.Deliver (frame.Request q)) o in plain Q (mute_naming _ (λ hash. mute_by _ (λ r. mute_request hash q (first_of (request_table q r))))) s o f
  message_at (frame.Reply a) = plain (IsChosenBy (event.Deliver (frame.Reply a)) o) mute_quiet s o f
  message_at (frame.Prepare p) = let Q = IsChosenBy (event.Deliver (frame.Prepare p)) o in plain Q (mute_naming _ (λ hash. mute_by _ (λ r. mute_prepare hash p (first_of (prepare_table hash p r))))) s o f
  message_at (frame.PrepareOk a) = let Q = IsChosenBy (event.Deliver (frame.PrepareOk a)) o in plain Q (mute_naming _ (λ hash. mute_by _ (λ r. mute_prepare_ok a (first_of (prepare_ok_table hash a r))))) s o f
  message_at (frame.Commit c) = let Q = IsChosenBy (event.Deliver (frame.Commit c)) o in plain Q (mute_by _ (λ r. mute_commit c (first_of (commit_table c r)))) s o f
  message_at (frame.StartViewChange c) = change_at c
  message_at (frame.DoViewChange d) = statement_at d
  message_at (frame.StartView v) = let Q = IsChosenBy (event.Deliver (frame.StartView v)) o in plain Q (mute_naming _ (λ hash. mute_by _ (λ r. mute_start_view hash v (first_of (start_view_table hash v r))))) s o f
  message_at (frame.GetView g) = let Q = IsChosenBy (event.Deliver (frame.GetView g)) o in plain Q (mute_by _ (λ r. mute_get_view g (first_of (get_view_table g r)))) s o f
  message_at (frame.GetPrepare g) = let Q = IsChosenBy (event.Deliver (frame.GetPrepare g)) o in plain Q (mute_naming _ (λ hash. mute_by _ (λ r. mute_get_prepare g (first_of (get_prepare_table hash g r))))) s o f
  message_at (frame.GivePrepare g) = let Q = IsChosenBy (event.Deliver (frame.GivePrepare g)) o in plain Q (mute_by _ (λ r. mute_give_prepare g (first_of (give_prepare_table g r)))) s o f
  message_at (frame.GetBlock g) = let Q = IsChosenBy (event.Deliver (frame.GetBlock g)) o in plain Q (mute_reading _ _ (λ block. mute_by _ (λ r. mute_get_block g block (first_of (get_block_table (is_some block) g r))))) s o f
  message_at (frame.GiveBlock g) = let Q = IsChosenBy (event.Deliver (frame.GiveBlock g)) o in plain Q (mute_reading _ _ (λ is_block. mute_by _ (λ r. mute_give_block is_block g (first_of (give_block_table is_block g r))))) s o f
  message_at (frame.GetSync g) = let Q = IsChosenBy (event.Deliver (frame.GetSync g)) o in plain Q (mute_by _ (λ r. mute_get_sync g (first_of (get_sync_table g r)))) s o f
  message_at (frame.SyncView v) = let Q = IsChosenBy (event.Deliver (frame.SyncView v)) o in plain Q (mute_naming _ (λ hash. mute_by _ (λ r. mute_sync_view hash v (first_of (sync_view_table hash v r))))) s o f

  event_at : (e : Event) → Right e (rules.on_event e)
  unfolding rules.on_request
  event_at (event.Request q) = let Q = IsChosenBy (event.Request q) o in plain Q (mute_naming _ (λ hash. mute_by _ (λ r. mute_request hash q _))) s o f
  event_at (event.Deliver m) = message_at m
  event_at event.Tick = tick_at

  react_at : (e : Event) → Right e (rules.react e)
  unfolding rules.react by
  react_at e = at_if (IsChosenBy e o) (not (is_frozen o)) (rules.on_event e) quiet s o f (λ t. event_at e) (λ t. plain (IsChosenBy e o) mute_quiet s o f)

  -- each choose line of a step
  pub chosen_by : (e : Event) (l : Chosen) → Contains (outputs (rules.react e s o f).script) (output.Choose l) → IsChosenBy e o l
  chosen_by e l i = All-contains (IsPicked (IsChosenBy e o)) (outputs (rules.react e s o f).script) (output.Choose l) (react_at e) i
