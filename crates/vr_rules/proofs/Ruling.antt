-- Each rule for a message of a replica keeps a sound one sound.
use Rattle.std.proofs.Common.{ℕ, ◌+◌, ◌-◌, ◌≤◌, ◌<◌, ◌≡◌, ◌∙◌, ◌⊎◌, inl, inr, zero, suc, arith, refl, sym, ap, subst, Bool, true, false, not, cond, List, [], ◌∷◌, length, get_or, set, Option, Some, None, rules}
use Rattle.std.specs.Prelude.{slice_get, nat_lt, nat_le, ◌==◌}
use Rattle.std.specs.Option.{option_map_or}
use Rattle.std.proofs.lemmas.Bool.{and_parts, or_parts, cases_eq, cases_lt, not-false, ltb-true, ltb-false, le-ltb, leb-false, eqb-true}
use Rattle.std.proofs.lemmas.List.{length-set, get_or-set_same, get_or-set_other, set_past}
use Rattle.vr_header.specs.declared.header.Header.{Header}
use Rattle.vr_header.specs.Made.{Whole}
use Rattle.vr_header.specs.Same.{same_header}
use Rattle.vr_header.specs.Spelling.{IsHeader}
use Rattle.vr_header.proofs.SameHeaders.{same_header_is}
use Rattle.vr_msg.specs.declared.frame.Frame.TheVariants as frame
use Rattle.vr_msg.specs.declared.frame.Commit.{Commit}
use Rattle.vr_msg.specs.declared.frame.DoViewChange.{DoViewChange}
use Rattle.vr_msg.specs.declared.frame.GetPrepare.{GetPrepare}
use Rattle.vr_msg.specs.declared.frame.GetView.{GetView}
use Rattle.vr_msg.specs.declared.frame.GivePrepare.{GivePrepare}
use Rattle.vr_msg.specs.declared.frame.Prepare.{Prepare}
use Rattle.vr_msg.specs.declared.frame.PrepareOk.{PrepareOk}
use Rattle.vr_msg.specs.declared.frame.StartView.{StartView}
use Rattle.vr_msg.specs.declared.frame.StartViewChange.{StartViewChange}
use Rattle.vr_msg.specs.declared.frame.GetSync.{GetSync}
use Rattle.vr_msg.specs.declared.frame.SyncView.{SyncView}
use Rattle.vr_msg.specs.declared.statement.Statement.{Statement}
use Rattle.vr_msg.specs.Choice.{ops}
use Rattle.vr_msg.specs.Logs.{IsEntryAt}
use Rattle.vr_msg.specs.Spelling.{AreHeaders}
use Rattle.vr_rules.specs.Replica.{Replica, last_view, header_at, head, is_here, part_at, version}
use Rattle.vr_rules.specs.Steps.{Setting, ◌⨾◌, quiet, change, does, says, by, when, after_all}
use Rattle.vr_rules.specs.Words.{entered, enter, rested, save, write, accept, learn, may_take, take, try, jump, value_of}
use Rattle.vr_rules.specs.Deciding.{Table, first_of, Hash, prepare_table, prepare_ok_table, commit_table, start_view_change_table, do_view_change_table, log_of, start_view_table, get_view_table, get_prepare_table, give_prepare_table, get_sync_table, sync_view_table, may_jump, is_from, is_from_primary, is_known, is_for}
use Rattle.vr_rules.specs.declared.rule.Rule.{Rule}
use Rattle.vr_rules.specs.declared.rule.Rule.TheVariants.{Ignored}
use Rattle.vr_rules.specs.Rules.{acknowledge, ask_view, obey_prepare, on_prepare, acknowledged, obey_prepare_ok, on_prepare_ok, obey_commit, on_commit, heard_of, obey_start_view_change, on_start_view_change, with_statement, obey_do_view_change, on_do_view_change, acknowledge_stored, obey_start_view, on_start_view, obey_get_view, on_get_view, obey_get_prepare, on_get_prepare, obey_give_prepare, on_give_prepare, obey_get_sync, on_get_sync, obey_sync_view, on_sync_view}
use Rattle.vr_rules.specs.Sound.{IsStated, IsSound}
use Rattle.vr_rules.specs.Laws.{IsMessage}
use Rattle.vr_rules.proofs.Heads.{known_within, knows_some}
use Rattle.vr_rules.proofs.Keeping.{Kept, kept_more, spans_of, sound_ackers, sound_view}
use Rattle.vr_rules.proofs.Combining.{KeptBy, Keeps, kept_then, kept_change_then, kept_by, kept_naming, kept_when, keeps_then, keeps_quiet, keeps_says, keeps_change, keeps_by, keeps_when, keeps_each}
use Rattle.vr_rules.proofs.Storing.{MayStore}
use Rattle.vr_rules.specs.Given.{IsLogFor, IsSyncFor}
use Rattle.vr_rules.proofs.Taking.{may_take_is, kept_take}
use Rattle.vr_rules.proofs.Jumping.{may_jump_is, kept_jump}
use Rattle.vr_rules.proofs.Trying.{from_at, keeps_try, keeps_speak}
use Rattle.vr_rules.proofs.Wording.{kept_alike, keeps_rested, kept_rested, kept_enter, kept_write, kept_accept, keeps_with_entry_at, keeps_apply, keeps_advance, keeps_learn, keeps_resend}

-- ---- what decides

-- what holds of each row's rule, where the row is the first whose condition holds, and of none
abbrev pub Rows : (Rule → Type 0) → Table → Type 0
Rows D [] = D Ignored
Rows D (row ∷ rows) = (row.0 ≡ true → D row.1) × (row.0 ≡ false → Rows D rows)

pub by_rows : (D : Rule → Type 0) (rows : Table) → Rows D rows → D (first_of rows)
unfolding first_of
by_rows D [] h = h
by_rows D (row ∷ rows) h =
    elim (row.0) as (λ b. row.0 ≡ b → D (cond b row.1 (first_of rows))) [ true ↦ λ e. h.0 e | false ↦ λ e. by_rows D rows (h.1 e) ] refl

-- it is of the replica's version and group
abbrev pub IsFor : ℕ → ℕ → Replica → Type 0
IsFor v cluster r = (v ≡ version r) × (cluster ≡ r.cluster)

pub for_of : (v cluster : ℕ) (r : Replica) → is_for v cluster r ≡ true → IsFor v cluster r
for_of v cluster r e =
    let parts = and_parts (v == version r) (cluster == r.cluster) e in
    (eqb-true v (version r) parts.0, eqb-true cluster r.cluster parts.1)

pub group_of : (v cluster sender : ℕ) (r : Replica) → is_from v cluster sender r ≡ true → IsFor v cluster r
group_of v cluster sender r e = for_of v cluster r (and_parts (is_for v cluster r) _ e).0

pub group_of_primary : (v cluster sender view : ℕ) (r : Replica) → not (is_from_primary v cluster sender view r) ≡ false → IsFor v cluster r
group_of_primary v cluster sender view r e = group_of v cluster sender r (and_parts (is_from v cluster sender r) _ (not-false _ e)).0

-- ---- prepares

pub may_store_prepare : (p : Prepare) (r : Replica) → IsMessage (frame.Prepare p) → IsFor p.version p.entry.header.cluster r → p.view ≤ r.log_view → r.checkpoint < p.entry.header.op
    → p.entry.header.op ≤ r.checkpoint + 64 → MayStore p.entry (rested r)
may_store_prepare p r m g v a b =
    let form = m.form in
    let made = form.made in
    record {
      above = a;
      window = b;
      header = m.body;
      is_entry = record { entry = form.entry.header; of_version = rw (← g.0) form.of_version; of_group = g.1; at_op = refl; made = omega arith };
    }

kept_known : {F : Type 0} (hash : Hash) (p : Prepare) (s : Setting F) (r : Replica) (f : F) → IsSound r → MayStore p.entry (rested r)
    → KeptBy (change rested ⨾ accept p.entry ⨾ acknowledge hash p.entry.header ⨾ learn p.commit) s r f
kept_known hash p s r f h m =
    let k = kept_rested r h in
    kept_change_then rested _ s r f k (λ d.
    kept_then (accept p.entry) _ s (rested r) d (kept_accept p.entry s (rested r) d k.sound m) (keeps_then _ _ (keeps_says _) (keeps_learn p.commit)))

kept_next : {F : Type 0} (hash : Hash) (p : Prepare) (s : Setting F) (r : Replica) (f : F) → IsSound r → MayStore p.entry (rested r)
    → KeptBy (change rested ⨾ write p.entry ⨾ acknowledge hash p.entry.header ⨾ learn p.commit) s r f
kept_next hash p s r f h m =
    let k = kept_rested r h in
    kept_change_then rested _ s r f k (λ d.
    kept_then (write p.entry) _ s (rested r) d (kept_write p.entry s (rested r) d k.sound m) (keeps_then _ _ (keeps_says _) (keeps_learn p.commit)))

pub keeps_prepare : {F : Type 0} (p : Prepare) → IsMessage (frame.Prepare p) → Keeps {F = F} (on_prepare p)
unfolding on_prepare
keeps_prepare p m = record {
  every = λ s r f h.
      let op : ℕ = p.entry.header.op in
      let idle = (keeps_quiet).every s r f h in
      let rests = keeps_rested.every s r f h in
      let may : not (is_from_primary p.version p.entry.header.cluster p.replica p.view r) ≡ false → nat_lt r.log_view p.view ≡ false → nat_le op r.checkpoint ≡ false
      → nat_lt (r.checkpoint + 64) op ≡ false → MayStore p.entry (rested r) =
      λ a b c d. may_store_prepare p r m (group_of_primary p.version p.entry.header.cluster p.replica p.view r a) (ltb-false r.log_view p.view b) (leb-false op r.checkpoint c) (ltb-false (r.checkpoint + 64) op d) in
      kept_naming _ s r f (kept_by _ s r f (by_rows (λ x. KeptBy (obey_prepare s.hash p x) s r f) (prepare_table s.hash p r) (
        λ t. idle,
        λ n0. (
          λ t. idle,
          λ n1. (
            λ t. (keeps_says _).every s r f h,
            λ n2. (
              λ t. (keeps_then _ _ keeps_rested (keeps_learn p.commit)).every s r f h,
              λ n3. (
                λ t. rests,
                λ n4. (
                  λ t. kept_known s.hash p s r f h (may n0 n2 n3 n4),
                  λ n5. (
                    λ t. kept_next s.hash p s r f h (may n0 n2 n3 n4),
                    λ n6. (λ t. (keeps_then _ _ keeps_rested (keeps_then _ _ (keeps_says _) (keeps_learn p.commit))).every s r f h, λ n7. (λ t. rests, λ n8. idle)),
                  ),
                ),
              ),
            ),
          ),
        ),
      )));
}

-- ---- prepare_oks and commits

pub keeps_acknowledged : {F : Type 0} (a : PrepareOk) → Keeps {F = F} (change (acknowledged a))
keeps_acknowledged a = keeps_change (acknowledged a) (λ r h.
    record {
      sound = sound_ackers r _ (length-set r.ackers (a.op - r.first) _) h;
      rises = record { view = omega arith; log_view = omega arith; commit = omega arith; applied = omega arith; checkpoint = omega arith };
    })

pub keeps_prepare_ok : {F : Type 0} (a : PrepareOk) → Keeps {F = F} (on_prepare_ok a)
unfolding on_prepare_ok
keeps_prepare_ok a = record {
  every = λ s r f h.
      let idle = (keeps_quiet).every s r f h in
      kept_naming _ s r f (kept_by _ s r f (by_rows (λ x. KeptBy (obey_prepare_ok a x) s r f) (prepare_ok_table s.hash a r) (
        λ t. idle,
        λ n0. (λ t. (keeps_then _ _ (keeps_acknowledged a) keeps_advance).every s r f h, λ n1. idle),
      )));
}

pub keeps_commit : {F : Type 0} (c : Commit) → Keeps {F = F} (on_commit c)
unfolding on_commit
keeps_commit c = record {
  every = λ s r f h.
      let idle = (keeps_quiet).every s r f h in
      kept_by _ s r f (by_rows (λ x. KeptBy (obey_commit c x) s r f) (commit_table c r) (
        λ t. idle,
        λ n0. (
          λ t. idle,
          λ n1. (
            λ t. (keeps_says _).every s r f h,
            λ n2. (
              λ t. (keeps_then _ _ keeps_rested (keeps_then _ _ (keeps_by _ (λ r. keeps_when (nat_lt (head r) c.head) (ask_view c.view c.replica) (keeps_says _))) (keeps_learn c.commit))).every s r f h,
              λ n3. idle,
            ),
          ),
        ),
      ));
}

-- ---- view changes

pub keeps_heard : {F : Type 0} (sender : ℕ) → Keeps {F = F} (change (heard_of sender))
keeps_heard sender = keeps_change (heard_of sender) (λ r h. kept_alike r (heard_of sender r) refl (record { view = omega arith; log_view = omega arith; commit = omega arith; applied = omega arith; checkpoint = omega arith }) h)

pub keeps_start_view_change : {F : Type 0} (c : StartViewChange) → Keeps {F = F} (on_start_view_change c)
unfolding on_start_view_change
keeps_start_view_change c = record {
  every = λ s r f h.
      let idle = (keeps_quiet).every s r f h in
      let heard = keeps_then _ _ (keeps_heard c.replica) keeps_speak in
      kept_by _ s r f (by_rows (λ x. KeptBy (obey_start_view_change c x) s r f) (start_view_change_table c r) (
        λ t. idle,
        λ n0. (
          λ t. idle,
          λ n1. (
            λ t. kept_then (enter c.view) _ s r f (kept_enter c.view s r f h (let l = ltb-true r.view c.view t in omega arith)) heard,
            λ n2. (λ t. heard.every s r f h, λ n3. (λ t. (keeps_says _).every s r f h, λ n4. idle)),
          ),
        ),
      ));
}

-- a statement is kept
with_statement_each : (i : ℕ) (t : Statement) (ss : List (Option Statement)) (j : ℕ) (x : Statement) → get_or (set ss i (Some t)) j None ≡ Some x → (t ≡ x) ⊎ (get_or ss j None ≡ Some x)
with_statement_each i t ss j x e =
    elim (cases_lt i (length ss)) [
      | inr past ↦ inr (sym (ap (λ ys. get_or ys j None) (set_past ss i (Some t) past)) ∙ e)
      | inl within ↦ elim (cases_eq j i) [
        | inl same ↦
            let at : get_or (set ss i (Some t)) i None ≡ Some x = subst (λ k. get_or (set ss i (Some t)) k None ≡ Some x) same e in
            let two : Some t ≡ Some x = sym (get_or-set_same ss i (Some t) None within) ∙ at in
            inl (search (rules, two))
        | inr other ↦ inr (sym (get_or-set_other ss i j (Some t) None other) ∙ e)
      ]
    ]

pub kept_statement : (i : ℕ) (t : Statement) (r : Replica) → IsSound r → IsStated (version r) r.cluster r.view t → Kept r (with_statement i t r)
kept_statement i t r h is = record {
  sound = sound_view r r.view (set r.statements i (Some t)) (omega arith) (length-set r.statements i (Some t) ∙ h.lists.statements) (λ j x e. elim (with_statement_each i t r.statements j x e) [
    | inl same ↦ subst (IsStated (version r) r.cluster r.view) same is
    | inr old ↦ h.stated.each j x old
  ]) h;
  rises = record { view = omega arith; log_view = omega arith; commit = omega arith; applied = omega arith; checkpoint = omega arith };
}

-- the view that is entered is the replica's then
pub in_view : {F : Type 0} (v : ℕ) (b : Bool) (s : Setting F) (r : Replica) (f : F) → nat_lt r.view v ≡ b → nat_lt last_view v ≡ false → r.view ≤ v
    → ((when b (enter v) s r f).replica.view ≡ v) × ((when b (enter v) s r f).replica.cluster ≡ r.cluster) × (version (when b (enter v) s r f).replica ≡ version r)
unfolding enter entered save value_of says change does quiet ◌⨾◌
in_view v true s r f e l a = rw l (refl, refl, refl)
in_view v false s r f e l a = let m = ltb-false r.view v e in (omega arith, refl, refl)

keeps_stated : {F : Type 0} (d : DoViewChange) (s : Setting F) (r : Replica) (f : F) → IsMessage (frame.DoViewChange d) → IsSound r → IsFor d.version d.cluster r → r.view ≤ d.view
    → KeptBy (by (λ r. when (nat_lt r.view d.view) (enter d.view)) ⨾ change (with_statement d.replica d.statement) ⨾ try) s r f
unfolding ◌⨾◌ by
keeps_stated d s r f m h g a =
    let form = m.form in
    let w = when (nat_lt r.view d.view) (enter d.view) s r f in
    let q : Replica = w.replica in
    let k : Kept r q = (kept_when (nat_lt r.view d.view) (enter d.view) s r f h (λ t. kept_enter d.view s r f h a)).kept in
    let top = form.view in
    let low : nat_lt last_view d.view ≡ false = le-ltb last_view d.view (omega arith) in
    let at = in_view d.view (nat_lt r.view d.view) s r f refl low a in
    let older = form.log_view in
    let is : IsStated (version q) q.cluster q.view d.statement =
    rw (at.0, at.1, at.2, ← g.0, ← g.1) (record { statement = form.statement; values = m.body; view = omega arith }) in
    let after = kept_change_then (with_statement d.replica d.statement) try s q (after_all s f w.script) (kept_statement d.replica d.statement q k.sound is)
    (λ e. keeps_try.every s (with_statement d.replica d.statement q) e (kept_statement d.replica d.statement q k.sound is).sound) in
    record { kept = kept_more r q _ k after.kept }

pub keeps_do_view_change : {F : Type 0} (d : DoViewChange) → IsMessage (frame.DoViewChange d) → Keeps {F = F} (on_do_view_change d)
unfolding on_do_view_change
keeps_do_view_change d m = record {
  every = λ s r f h.
      let idle = (keeps_quiet).every s r f h in
      kept_by _ s r f (by_rows (λ x. KeptBy (obey_do_view_change d x) s r f) (do_view_change_table d r) (
        λ t. idle,
        λ n0. (
          λ t. idle,
          λ n1. (
            λ t. (keeps_says _).every s r f h,
            λ n2. (
              λ t. keeps_stated d s r f m h (group_of d.version d.cluster d.replica r (not-false _ n0)) (ltb-false d.view r.view (or_parts (nat_lt d.view r.view) _ n1).0),
              λ n3. idle,
            ),
          ),
        ),
      ));
}

-- ---- start_views

header_in : (hs : List Header) (i : ℕ) (h : Header) → AreHeaders hs → slice_get hs i ≡ Some h → IsHeader h
header_in [] i h all e = absurd cc
header_in (g ∷ hs) zero h all e = let same : g ≡ h = cc in subst IsHeader same all.0
header_in (g ∷ hs) (suc i) h all e = header_in hs i h all.1 e

pub told_log : (v : StartView) (r : Replica) → IsMessage (frame.StartView v) → IsFor v.version v.cluster r → IsLogFor r (log_of v)
told_log v r m g =
    let form = m.form in
    record {
      commit = form.commit;
      count = form.count;
      each = λ i h e. (
        header_in v.body.headers i h m.body e,
        rw (← g.0, ← g.1) (from_at (IsEntryAt v.version v.cluster v.view) (v.body.lo + 1) v.body.headers i h form.headers e),
      );
    }

keeps_acknowledge_of : {F : Type 0} (hash : Hash) (o : Option Header) → Keeps {F = F} (option_map_or (acknowledge hash) o quiet)
keeps_acknowledge_of hash None = keeps_quiet
keeps_acknowledge_of hash (Some h) = keeps_says _

keeps_acknowledge_stored : {F : Type 0} (hash : Hash) (op : ℕ) → Keeps {F = F} (acknowledge_stored hash op)
unfolding acknowledge_stored
keeps_acknowledge_stored hash op = keeps_by _ (λ r. keeps_when (is_here (part_at r op)) _ (keeps_acknowledge_of hash (header_at r op)))

pub keeps_start_view : {F : Type 0} (v : StartView) → IsMessage (frame.StartView v) → Keeps {F = F} (on_start_view v)
unfolding on_start_view
keeps_start_view v m = record {
  every = λ s r f h.
      let idle = (keeps_quiet).every s r f h in
      kept_naming _ s r f (kept_by _ s r f (by_rows (λ x. KeptBy (obey_start_view s.hash v x) s r f) (start_view_table s.hash v r) (
        λ t. idle,
        λ n0. (
          λ t.
              let log = told_log v r m (group_of_primary v.version v.cluster v.replica v.view r n0) in
              let may = may_take_is s.hash (log_of v) r (and_parts (may_take s.hash (log_of v) r) _ t).0 in
              kept_then (take (log_of v)) _ s r f (kept_take (log_of v) s r f h log may)
              (keeps_then _ _ (keeps_by _ (λ r. keeps_each (acknowledge_stored s.hash) (ops r.commit v.head) (keeps_acknowledge_stored s.hash))) keeps_apply),
          λ n1. (λ t. (keeps_says _).every s r f h, λ n2. idle),
        ),
      )));
}

-- ---- checkpoints of others

pub told_sync : (v : SyncView) (r : Replica) → IsMessage (frame.SyncView v) → IsFor v.version v.cluster r → IsSyncFor r v
told_sync v r m g =
    let form = m.form in
    record {
      log = record {
        commit = form.order.2;
        count = form.count;
        each = λ i h e. (
          header_in v.body.headers i h m.body.1 e,
          rw (← g.0, ← g.1) (from_at (IsEntryAt v.version v.cluster v.view) (v.body.lo + 1) v.body.headers i h form.headers e),
        );
      };
      within = (form.order.0, form.order.1);
      every = form.every;
      short = form.short;
      head = form.head;
    }

pub keeps_get_sync : {F : Type 0} (g : GetSync) → Keeps {F = F} (on_get_sync g)
unfolding on_get_sync
keeps_get_sync g = record {
  every = λ s r f h.
      let idle = (keeps_quiet).every s r f h in
      kept_by _ s r f (by_rows (λ x. KeptBy (obey_get_sync g x) s r f) (get_sync_table g r) (λ t. idle, λ n0. (λ t. (keeps_says _).every s r f h, λ n1. idle)));
}

pub keeps_sync_view : {F : Type 0} (v : SyncView) → IsMessage (frame.SyncView v) → Keeps {F = F} (on_sync_view v)
unfolding on_sync_view
keeps_sync_view v m = record {
  every = λ s r f h.
      let idle = (keeps_quiet).every s r f h in
      kept_naming _ s r f (kept_by _ s r f (by_rows (λ x. KeptBy (obey_sync_view s.hash v x) s r f) (sync_view_table s.hash v r) (
        λ t. idle,
        λ n0. (
          λ t.
              let is = told_sync v r m (group_of_primary v.version v.cluster v.replica v.view r n0) in
              let may = may_jump_is s.hash v r (and_parts (may_jump s.hash v r) _ t).0 in
              kept_then (jump v) _ s r f (kept_jump v s r f h is may)
              (keeps_then _ _ (keeps_by _ (λ r. keeps_each (acknowledge_stored s.hash) (ops r.commit v.head) (keeps_acknowledge_stored s.hash))) keeps_apply),
          λ n1. idle,
        ),
      )));
}

-- ---- what is asked for

pub keeps_get_view : {F : Type 0} (g : GetView) → Keeps {F = F} (on_get_view g)
unfolding on_get_view
keeps_get_view g = record {
  every = λ s r f h.
      let idle = (keeps_quiet).every s r f h in
      kept_by _ s r f (by_rows (λ x. KeptBy (obey_get_view g x) s r f) (get_view_table g r) (λ t. idle, λ n0. (λ t. (keeps_says _).every s r f h, λ n1. idle)));
}

pub keeps_get_prepare : {F : Type 0} (g : GetPrepare) → Keeps {F = F} (on_get_prepare g)
unfolding on_get_prepare
keeps_get_prepare g = record {
  every = λ s r f h.
      let idle = (keeps_quiet).every s r f h in
      kept_naming _ s r f (kept_by _ s r f (by_rows (λ x. KeptBy (obey_get_prepare g x) s r f) (get_prepare_table s.hash g r) (
        λ t. idle,
        λ n0. (λ t. (keeps_with_entry_at g.op _ (λ e. keeps_says _)).every s r f h, λ n1. idle),
      )));
}

known_is : (h : Header) (o : Option Header) → option_map_or (λ d. same_header d h) o false ≡ true → o ≡ Some h
known_is h None e = absurd cc
known_is h (Some d) e = ap Some (same_header_is d h e)

pub may_store_given : (e : Whole) (r : Replica) → IsSound r → r.checkpoint < e.header.op → is_known e.header e.header.op r ≡ true → MayStore e r
may_store_given e r h a k =
    let there : header_at r e.header.op ≡ Some e.header = known_is e.header (header_at r e.header.op) k in
    let is = h.entries.each e.header.op e.header there in
    record {
      above = a;
      window = (known_within r e.header.op (spans_of r h) (knows_some r e.header.op e.header there)).1;
      header = is.0;
      is_entry = is.1;
    }

pub keeps_give_prepare : {F : Type 0} (g : GivePrepare) → Keeps {F = F} (on_give_prepare g)
unfolding on_give_prepare
keeps_give_prepare g = record {
  every = λ s r f h.
      let idle = (keeps_quiet).every s r f h in
      let op : ℕ = g.entry.header.op in
      kept_by _ s r f (by_rows (λ x. KeptBy (obey_give_prepare g x) s r f) (give_prepare_table g r) (
        λ t. idle,
        λ n0. (
          λ t.
              let a = and_parts (nat_lt r.checkpoint op) _ t in
              let b = and_parts (is_known g.entry.header op r) _ a.1 in
              kept_then (write g.entry) _ s r f (kept_write g.entry s r f h (may_store_given g.entry r h (ltb-true r.checkpoint op a.0) b.0))
              (keeps_then _ _ (keeps_resend g.entry) keeps_apply),
          λ n1. idle,
        ),
      ));
}
