-- Sync_views: which rule applies, and what it is.
use Rattle.std.proofs.Common.{arith, ℕ, zero, suc, ◌+◌, ◌^◌, ◌≡◌, ◌<◌, ◌≤◌, ◌∙◌, refl, sym, ap, subst, List, [], ◌∷◌, slice_get, Option, Some, Result, Ok}
use Rattle.std.proofs.lemmas.Bool.{and_parts}
use Rattle.vr_base.specs.Bytes.{name_of}
use Rattle.vr_disk.specs.DiskState.{Disk}
use Rattle.vr_header.specs.declared.header.Header.{Header}
use Rattle.vr_header.specs.Spelling.{IsHeader}
use Rattle.vr_msg.specs.declared.frame.SyncView.{SyncView}
use Rattle.vr_msg.specs.declared.output.Output.{Output}
use Rattle.vr_msg.specs.Logs.{IsEntryAt}
use Rattle.vr_msg.specs.Spelling.{AreHeaders}
use Rattle.vr_rules.specs.Deciding.{first_of, may_jump, sync_view_table}
use Rattle.vr_rules.specs.declared.rule.Rule.{Rule}
use Rattle.vr_rules.specs.declared.rule.Rule.TheVariants.{Ignored, Jumped}
use Rattle.vr_rules.specs.Replica.{Replica, forgetting, last_view, version}
use Rattle.vr_rules.specs.Rules.{acknowledge_stored, obey_sync_view, on_sync_view}
use Rattle.vr_rules.specs.Sound.{IsNameBytes}
use Rattle.vr_rules.specs.Steps.{◌⨾◌}
use Rattle.vr_rules.specs.Words.{apply, jump, jumped}
use Rattle.vr_rules.specs.Given.{IsSyncFor}
use Rattle.vr_rules.proofs.Jumping.{kept_jumped, may_jump_is}
use Rattle.vr_rules.proofs.Ruling.{IsFor, by_rows, group_of_primary}
use Rattle.vr_rules.proofs.SavesJump.{savable_jumped}
use Rattle.vr_rules.proofs.Trying.{from_at}
use Rattle.vr_disk.specs.declared.fault.Halt.{Halt}
use Rattle.vr_rules.specs.Does.{Does}
use Rattle.vr_rules.proofs.Stepping.{does_by, does_naming, does_quiet}
use Rattle.vr_volatile.specs.Jumps as moving
use Rattle.vr_volatile.specs.Ready.{IsReady}
use Rattle.vr_view.specs.declared.jumping.JumpRule.{JumpRule}
use Rattle.vr_view.specs.declared.jumping.JumpRule.TheVariants as decided
use Rattle.vr_view.specs.Jumps.{IsSyncing, MayJump}
use Rattle.vr_view.specs.NamedSyncs.{jump_rule}
use Rattle.vr_actions.specs.Telling.{each_to}

-- ---- the log that a sync_view tells of

told_sync : (v : SyncView) (r : Replica) → IsSyncing v → IsFor v.version v.cluster r → AreHeaders v.body.headers → IsSyncFor r v
unfolding IsSyncing
told_sync v r m g w = record {
  log = record {
    commit = m.order.2;
    count = m.count;
    each = λ i h e. (
      header_in v.body.headers i h w e,
      rw (← g.0, ← g.1) (from_at (IsEntryAt v.version v.cluster v.view) (v.body.lo + 1) v.body.headers i h m.headers e),
    );
  };
  within = (m.order.0, m.order.1);
  every = m.every;
  short = m.short;
  head = m.head;
}
  where
    header_in : (hs : List Header) (i : ℕ) (h : Header) → AreHeaders hs → slice_get hs i ≡ Some h → IsHeader h
    header_in [] i h all e = absurd cc
    header_in (g ∷ hs) zero h all e = let same : g ≡ h = cc in subst IsHeader same all.0
    header_in (g ∷ hs) (suc i) h all e = header_in hs i h all.1 e

view_synced : (v : SyncView) → IsSyncing v → v.view ≤ last_view
unfolding IsSyncing
view_synced v m = let view = m.view in omega arith

root_synced : (v : SyncView) → IsSyncing v → v.root_address < 128
unfolding IsSyncing
root_synced v m = m.address

jumped_by : (v : SyncView) (r : Replica) → first_of (sync_view_table name_of v r) ≡ Jumped → IsSyncing v → AreHeaders v.body.headers → MayJump v r
unfolding MayJump
jumped_by v r k m w =
    by_rows (λ x. x ≡ Jumped → MayJump v r) (sync_view_table name_of v r) (
      λ t e. absurd cc,
      λ n0. (
        λ t e. record {
          log = told_sync v r m (group_of_primary v.version v.cluster v.replica v.view r n0) w;
          view = view_synced v m;
          may = (and_parts (may_jump name_of v r) _ t).0;
          address = root_synced v m;
        },
        λ n1 e. absurd cc,
      ),
    ) k

pub may_follow : (v : SyncView) (r : Replica) (x : JumpRule) → first_of (sync_view_table name_of v r) ≡ jump_rule x → (x ≡ decided.Jumped → AreHeaders v.body.headers) → x ≡ decided.Jumped → IsSyncing v → MayJump v r
may_follow v r x e w k m = jumped_by v r (e ∙ ap jump_rule k) m (w k)

-- ---- readiness

idle_jumped : (v : SyncView) (r : Replica) → (jumped v r).idle ≤ 9
unfolding jumped forgetting
idle_jumped v r = omega arith

state_jumped : (v : SyncView) (r : Replica) → (jumped v r).state ≡ r.state
unfolding jumped forgetting
state_jumped v r = refl

version_jumped : (v : SyncView) (r : Replica) → version (jumped v r) ≡ version r
unfolding jumped forgetting
version_jumped v r = refl

-- the name of a root has 16 bytes, whatever message it is from
pub ready_jumped : (v : SyncView) (r q : Replica) → q ≡ jumped v r → MayJump v r → IsNameBytes v.root_name.0 → IsReady r → IsReady q
unfolding IsReady MayJump
ready_jumped v r q e m name h =
    let may = may_jump_is name_of v r m.may in
    let view = m.view in
    rw e (record {
      sound = (kept_jumped v r h.sound m.log may).sound;
      savable = savable_jumped v r h.sound m.log may m.address name (omega arith) h.savable;
      idle = idle_jumped v r;
      fits = rw (version_jumped v r, state_jumped v r) h.fits;
    })

pub view_jumped : (v : SyncView) (r q : Replica) → q ≡ jumped v r → q.view ≡ v.view
unfolding jumped forgetting
view_jumped v r q e = rw e refl

-- what the change of the replica asks for
pub may_move : (v : SyncView) (r : Replica) → MayJump v r → moving.MayJump v r
unfolding MayJump
may_move v r m =
    let may = may_jump_is name_of v r m.may in
    let count = m.log.log.count in
    let short = m.log.short in
    record {
      above = may.above;
      lo = m.log.within.0;
      within = m.log.within.1;
      commit = m.log.log.commit;
      short = omega arith;
      count = count;
      chain = (and_parts _ _ (and_parts _ _ m.may).1).0;
      number = m.log.head;
    }

pub view_low : (v : SyncView) (r : Replica) → MayJump v r → v.view ≤ last_view
unfolding MayJump
view_low v r m = m.view

pub head_small : (v : SyncView) (r : Replica) → MayJump v r → v.head < 2 ^ 63
unfolding MayJump
head_small v r m = let head = m.log.head in omega arith

-- ---- the rules

module _ (v : SyncView) (r r' : Replica) (d d' : Option Disk) (o o' : List Output) where
  obeyed : (x : Rule) (result : Result (Unit {0}) Halt) → first_of (sync_view_table name_of v r) ≡ x → Does (obey_sync_view name_of v x) r r' d d' o o' result → Does (on_sync_view v) r r' d d' o o' result
  unfolding on_sync_view
  obeyed x result e h = does_naming _ r r' d d' o o' result (does_by _ r r' d d' o o' result (subst (λ y. Does (obey_sync_view name_of v y) r r' d d' o o' result) (sym e) h))

  pub sync_jumped : (x : JumpRule) (result : Result (Unit {0}) Halt) → first_of (sync_view_table name_of v r) ≡ jump_rule x → x ≡ decided.Jumped
      → Does (jump v ⨾ each_to (acknowledge_stored name_of) v.head ⨾ apply) r r' d d' o o' result → Does (on_sync_view v) r r' d d' o o' result
  unfolding each_to
  sync_jumped x result e k h = obeyed Jumped result (e ∙ ap jump_rule k) h

pub sync_ignored : (v : SyncView) (r : Replica) (d : Option Disk) (o : List Output) (x : JumpRule) → first_of (sync_view_table name_of v r) ≡ jump_rule x → x ≡ decided.Ignored → Does (on_sync_view v) r r d d o o (Ok tt)
sync_ignored v r d o x e k = obeyed v r r d d o o Ignored (Ok tt) (e ∙ ap jump_rule k) (does_quiet r d o)

pub ruleset syncs = (sync_jumped, sync_ignored)
