-- A step keeps a sound replica sound: requests, blocks, ticks, and each event.
use Rattle.vr_header.proofs.Putting.{body_fits}
use Rattle.vr_base.proofs.Versions.{between}
use Rattle.vr_base.specs.Versions.{body_limit}
use Rattle.std.proofs.Common.{ℕ, ◌+◌, ◌-◌, ◌≤◌, ◌<◌, ◌≡◌, ◌≢◌, ◌^◌, arith, refl, ap, Bool, not, List, [], length, Option, Some, None}
use Rattle.std.specs.Prelude.{find, filter, is_some, nat_lt, nat_le, ◌==◌}
use Rattle.std.proofs.lemmas.Bool.{and_parts, or_parts, not-false, not-true, ltb-false, leb-false, eqb-true}
use Rattle.vr_header.specs.declared.operation.Operation.{Operation}
use Rattle.vr_header.specs.declared.operation.Operation.TheVariants.{Register, Put, Get, Delete}
use Rattle.vr_header.specs.Bodies.{IsOperation, operation_bytes}
use Rattle.vr_header.specs.Made.{Whole}
use Rattle.vr_ckpt.specs.declared.name.Name.{Name}
use Rattle.vr_msg.specs.declared.event.Event.{Event}
use Rattle.vr_msg.specs.declared.event.Event.TheVariants as event
use Rattle.vr_msg.specs.declared.frame.Frame.{Frame}
use Rattle.vr_msg.specs.declared.frame.Frame.TheVariants as frame
use Rattle.vr_msg.specs.declared.frame.GetBlock.{GetBlock}
use Rattle.vr_msg.specs.declared.frame.GiveBlock.{GiveBlock}
use Rattle.vr_msg.specs.declared.request.RequestFields.{RequestFields}
use Rattle.vr_state.specs.declared.session.SessionAnswer.{SessionAnswer}
use Rattle.vr_state.specs.declared.session.SessionAnswer.TheVariants as answer
use Rattle.vr_rules.specs.Replica.{Replica, last_view, is_started, is_primary, is_spent, is_frozen, head}
use Rattle.vr_rules.specs.Steps.{Setting, change}
use Rattle.vr_rules.specs.declared.asker.Asker.{Asker}
use Rattle.vr_rules.specs.Words.{write, apply, is_loaded, load}
use Rattle.vr_rules.specs.Deciding.{Hash, session_answer, request_table, get_block_table, is_wanted, give_block_table, tick_table}
use Rattle.vr_rules.specs.Rules.{asker_by, next_entry, make, stored_reply, obey_request, on_request, asked_block, block_at, give_read, obey_get_block, on_get_block, without, put_block, put_found, test_of, obey_give_block, on_give_block, idler, next_view, obey_tick, on_tick, on_message, on_event, react}
use Rattle.vr_rules.specs.Sound.{IsNameBytes, IsSound}
use Rattle.vr_rules.specs.Laws.{IsMessage, IsEvent, HasNames, StepsStaySound}
use Rattle.vr_rules.proofs.Keeping.{Kept, sound_missing}
use Rattle.vr_rules.proofs.Combining.{KeptBy, Keeps, kept_then, kept_change_then, kept_does_then, kept_by, kept_naming, kept_reading, kept_when, keeps_then, keeps_quiet, keeps_says, keeps_change, keeps_by, keeps_when, keeps_if}
use Rattle.vr_rules.proofs.Storing.{MayStore}
use Rattle.vr_rules.proofs.Trying.{keeps_speak}
use Rattle.vr_rules.proofs.Wording.{kept_alike, kept_enter, kept_write, keeps_advance, keeps_apply, keeps_prepare_again, keeps_ask, kept_load}
use Rattle.vr_rules.proofs.Ruling.{by_rows, keeps_prepare, keeps_prepare_ok, keeps_commit, keeps_start_view_change, keeps_do_view_change, keeps_start_view, keeps_get_view, keeps_get_prepare, keeps_give_prepare, keeps_get_sync, keeps_sync_view, IsFor, for_of}
use Rattle.vr_rules.proofs.Visiting.{keeps_visit, keeps_mend_found}

-- ---- requests

operation_size : (v : ℕ) (o : Operation) → IsOperation v o → (0 < length (operation_bytes o)) × (length (operation_bytes o) ≤ body_limit v)
unfolding operation_bytes
operation_size v Register h = (omega arith, body_fits v Register h)
operation_size v (Put key value) h = (omega arith, body_fits v (Put key value) h)
operation_size v (Get key) h = (omega arith, body_fits v (Get key) h)
operation_size v (Delete key) h = (omega arith, body_fits v (Delete key) h)

pub may_store_next : (hash : Hash) (q : RequestFields) (r : Replica) → ((bytes : List ℕ) → IsNameBytes (hash bytes)) → IsSound r → IsMessage (frame.Request q)
    → IsFor q.version q.cluster r → r.view ≡ r.log_view → r.view ≤ last_view → r.commit ≤ r.applied → head r < r.commit + 8 → head r < 2 ^ 62 → MayStore (next_entry hash q r) r
unfolding next_entry
may_store_next hash q r names h m g v w a b c =
    let size = operation_size q.version q.operation m.form.fits in
    let most = (between q.version 1920 3968 (omega arith)).1 in
    let near = h.near in
    let low = h.order.applied in
    let known = h.order.known in
    let below = h.order.commit in
    let cluster = m.header.cluster in
    record {
      above = omega arith;
      window = omega arith;
      header = record {
        body = (names _).0;
        body_bytes = (names _).1;
        parent = (names _).0;
        parent_bytes = (names _).1;
        request_name = (names _).0;
        request_name_bytes = (names _).1;
        cluster = omega (arith, cluster, g.1);
        client = m.header.client;
        request = m.header.request;
        view = omega arith;
        op = omega arith;
        commit = omega arith;
        size = (omega arith, omega (arith, size.1, most));
        version = m.header.version;
        replica = omega arith;
        kind = omega arith;
        aux = omega arith;
      };
      is_entry = record {
        entry = record {
          command = refl;
          size = (omega (arith, size.0), omega (arith, size.1));
          view = omega arith;
          op = (omega arith, omega arith);
          commit = refl;
          replica = refl;
          kind = refl;
          aux = refl;
        };
        of_version = rw g.0 (omega arith);
        of_group = g.1;
        at_op = refl;
        made = omega arith;
      };
    }

pub keeps_stored_reply : {F : Type 0} (a : Asker) (x : SessionAnswer) → Keeps {F = F} (stored_reply a x)
keeps_stored_reply a answer.Fresh = keeps_quiet
keeps_stored_reply a (answer.Repeat outcome op) = keeps_says _
keeps_stored_reply a answer.Old = keeps_says _
keeps_stored_reply a answer.Gap = keeps_says _
keeps_stored_reply a answer.Evicted = keeps_says _

kept_make : {F : Type 0} (e : Whole) (s : Setting F) (r : Replica) (f : F) → IsSound r → MayStore e r → KeptBy (make e) s r f
unfolding make
kept_make e s r f h m = kept_then (write e) _ s r f (kept_write e s r f h m) (keeps_then _ _ (keeps_says _) keeps_advance)

kept_request : {F : Type 0} (q : RequestFields) (s : Setting F) (r : Replica) (f : F) → HasNames s → IsSound r → IsMessage (frame.Request q) → r.view ≤ last_view
    → KeptBy (on_request q) s r f
unfolding on_request
kept_request q s r f names h m last =
    let idle = (keeps_quiet).every s r f h in
    kept_naming _ s r f (kept_by _ s r f (by_rows (λ x. KeptBy (obey_request s.hash q x) s r f) (request_table q r) (
      λ t. idle,
      λ n0. (
        λ t. (keeps_says _).every s r f h,
        λ n1. (
          λ t. (keeps_says _).every s r f h,
          λ n2. (
            λ t. idle,
            λ n3. (
              λ t. kept_by _ s r f ((keeps_stored_reply (asker_by s.hash q) (session_answer q r)).every s r f h),
              λ n4. (
                λ t. (keeps_says _).every s r f h,
                λ n5. (
                  λ t.
                      let lead = and_parts (is_started r) (is_primary r) (not-false _ n1) in
                      let behind = or_parts (not (is_loaded r)) (nat_lt r.applied r.commit) n2 in
                      let full = or_parts (nat_le 8 (head r - r.commit)) (nat_le (2 ^ 62) (head r)) n5 in
                      let few = leb-false 8 (head r - r.commit) full.0 in
                      let known = h.order.known in
                      let may = may_store_next s.hash q r names h m (for_of q.version q.cluster r (not-false _ n0)) (eqb-true r.view r.log_view lead.0) last (ltb-false r.applied r.commit behind.1) (omega arith) (leb-false (2 ^ 62) (head r) full.1) in
                      kept_by _ s r f (kept_make (next_entry s.hash q r) s r f h may),
                  λ n6. idle,
                ),
              ),
            ),
          ),
        ),
      ),
    )))

-- ---- blocks

keeps_give_read : {F : Type 0} (g : GetBlock) (o : Option (List ℕ)) → Keeps {F = F} (give_read g o)
keeps_give_read g None = keeps_quiet
keeps_give_read g (Some block) = keeps_says _

pub keeps_get_block : {F : Type 0} (g : GetBlock) → Keeps {F = F} (on_get_block g)
unfolding on_get_block
keeps_get_block g = record {
  every = λ s r f h.
      let idle = (keeps_quiet).every s r f h in
      let block = block_at (asked_block g) s f in
      kept_reading _ _ s r f (kept_by _ s r f (by_rows (λ x. KeptBy (obey_get_block g block x) s r f) (get_block_table (is_some block) g r) (
        λ t. idle,
        λ n0. (λ t. (keeps_give_read g block).every s r f h, λ n1. idle),
      )));
}

filter_none : {X : Type 0} (p : X → Bool) (xs : List X) → filter p xs ≢ [] → xs ≢ []
filter_none p xs n e = n (ap (filter p) e)

pub kept_without : (name : Name) (r : Replica) → IsSound r → Kept r (without name r)
kept_without name r h = record {
  sound = sound_missing r (filter (λ (m : Name). not (m.address == name.address)) r.missing) (λ n. h.waits (filter_none _ r.missing n)) h;
  rises = record { view = omega arith; log_view = omega arith; commit = omega arith; applied = omega arith; checkpoint = omega arith };
}

kept_put_block : {F : Type 0} (name : Name) (block : List ℕ) (s : Setting F) (r : Replica) (f : F) → IsSound r → r.missing ≢ [] → KeptBy (put_block name block) s r f
unfolding put_block
kept_put_block name block s r f h n =
    let k = kept_without name r h in
    kept_does_then _ _ s r f (λ d.
    kept_change_then (without name) _ s r d k (λ e.
    kept_by _ s (without name r) e (kept_when (is_loaded (without name r)) load s (without name r) e k.sound (λ t. kept_load s (without name r) e k.sound (h.waits n)))))

kept_put_found : {F : Type 0} (block : List ℕ) (p : Name → Bool) (o : Option Name) (s : Setting F) (r : Replica) (f : F) → IsSound r → find p r.missing ≡ o → KeptBy (put_found block o) s r f
kept_put_found block p None s r f h e = keeps_quiet.every s r f h
kept_put_found block p (Some name) s r f h e =
    kept_then (put_block name block) apply s r f (kept_put_block name block s r f h (λ n. let no_name : None ≡ Some name = rw n at e in absurd cc)) keeps_apply

pub keeps_give_block : {F : Type 0} (g : GiveBlock) → Keeps {F = F} (on_give_block g)
unfolding on_give_block
keeps_give_block g = record {
  every = λ s r f h.
      let idle = (keeps_quiet).every s r f h in
      let is_block = test_of s f in
      kept_reading _ _ s r f (kept_by _ s r f (by_rows (λ x. KeptBy (obey_give_block is_block g x) s r f) (give_block_table is_block g r) (
        λ t. idle,
        λ n0. (
          λ t. kept_by _ s r f (kept_put_found g.block (is_wanted is_block g) (find (is_wanted is_block g) r.missing) s r f h refl),
          λ n1. (λ t. kept_by _ s r f ((keeps_mend_found g.block (find (is_wanted is_block g) r.worn)).every s r f h), λ n2. idle),
        ),
      )));
}

-- ---- ticks

pub keeps_idler : {F : Type 0} → Keeps {F = F} (change idler)
keeps_idler = keeps_change idler (λ r h. kept_alike r (idler r) refl (record { view = omega arith; log_view = omega arith; commit = omega arith; applied = omega arith; checkpoint = omega arith }) h)

keeps_next_view : {F : Type 0} → Keeps {F = F} next_view
keeps_next_view = record { every = λ s r f h. kept_by _ s r f (kept_enter (r.view + 1) s r f h (omega arith)) }

pub keeps_tick : {F : Type 0} → Keeps {F = F} on_tick
unfolding on_tick
keeps_tick = record {
  every = λ s r f h.
      kept_by _ s r f (by_rows (λ x. KeptBy (obey_tick x) s r f) (tick_table r) (
        λ t. (keeps_then _ _ (keeps_says _) (keeps_then _ _ (keeps_by _ (λ r. keeps_when (nat_lt r.commit (head r)) _ (keeps_prepare_again (r.commit + 1)))) (keeps_then _ _ keeps_visit keeps_ask))).every s r f h,
        λ n0. (
          λ t. (keeps_then _ _ keeps_idler (keeps_by _ (λ r. keeps_if (nat_le 5 r.idle) next_view _ keeps_next_view (keeps_then _ _ keeps_visit keeps_ask)))).every s r f h,
          λ n1. (
            λ t. (keeps_then _ _ keeps_idler (keeps_by _ (λ r. keeps_if (nat_le 10 r.idle) next_view _ keeps_next_view (keeps_then _ _ (keeps_says _) (keeps_then _ _ keeps_speak (keeps_then _ _ keeps_visit keeps_ask)))))).every s r f h,
            λ n2. (keeps_quiet).every s r f h,
          ),
        ),
      ));
}

-- ---- each event

kept_message : {F : Type 0} (m : Frame) (s : Setting F) (r : Replica) (f : F) → HasNames s → IsSound r → IsMessage m → r.view ≤ last_view → KeptBy (on_message m) s r f
kept_message (frame.Request q) s r f names h m last = kept_request q s r f names h m last
kept_message (frame.Reply a) s r f names h m last = keeps_quiet.every s r f h
kept_message (frame.Prepare p) s r f names h m last = (keeps_prepare p m).every s r f h
kept_message (frame.PrepareOk a) s r f names h m last = (keeps_prepare_ok a).every s r f h
kept_message (frame.Commit c) s r f names h m last = (keeps_commit c).every s r f h
kept_message (frame.StartViewChange c) s r f names h m last = (keeps_start_view_change c).every s r f h
kept_message (frame.DoViewChange d) s r f names h m last = (keeps_do_view_change d m).every s r f h
kept_message (frame.StartView v) s r f names h m last = (keeps_start_view v m).every s r f h
kept_message (frame.GetView g) s r f names h m last = (keeps_get_view g).every s r f h
kept_message (frame.GetPrepare g) s r f names h m last = (keeps_get_prepare g).every s r f h
kept_message (frame.GivePrepare g) s r f names h m last = (keeps_give_prepare g).every s r f h
kept_message (frame.GetBlock g) s r f names h m last = (keeps_get_block g).every s r f h
kept_message (frame.GiveBlock g) s r f names h m last = (keeps_give_block g).every s r f h
kept_message (frame.GetSync g) s r f names h m last = (keeps_get_sync g).every s r f h
kept_message (frame.SyncView v) s r f names h m last = (keeps_sync_view v m).every s r f h

kept_event : {F : Type 0} (e : Event) (s : Setting F) (r : Replica) (f : F) → HasNames s → IsSound r → IsEvent e → r.view ≤ last_view → KeptBy (on_event e) s r f
kept_event (event.Request q) s r f names h m last = kept_request q s r f names h m last
kept_event (event.Deliver message) s r f names h m last = kept_message message s r f names h m last
kept_event event.Tick s r f names h m last = keeps_tick.every s r f h

kept_react : {F : Type 0} (e : Event) (s : Setting F) (r : Replica) (f : F) → HasNames s → IsSound r → IsEvent e → KeptBy (react e) s r f
unfolding react
kept_react e s r f names h m =
    kept_by _ s r f (kept_when (not (is_frozen r)) (on_event e) s r f h (λ t.
    kept_event e s r f names h m (ltb-false last_view r.view (or_parts (nat_lt last_view r.view) (is_spent r) (not-true _ t)).0)))

pub steps_stay_sound : {F : Type 0} → StepsStaySound F
steps_stay_sound = λ s f r e names h m. (kept_react e s r f names h m).kept.sound
