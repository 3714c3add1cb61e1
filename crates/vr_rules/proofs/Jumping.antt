-- A log that is taken over with a later checkpoint leaves a sound replica.
use Rattle.std.proofs.Common.{ℕ, ◌+◌, ◌-◌, ◌≤◌, ◌<◌, ◌≡◌, ◌∙◌, inl, inr, arith, refl, sym, ap, subst, Bool, true, false, cond, List, [], ◌∷◌, map, max, Option, Some, None}
use Rattle.std.specs.Prelude.{nat_le, nat_lt}
use Rattle.std.specs.Option.{option_map_or}
use Rattle.std.proofs.lemmas.Bool.{and_parts, cases_lt, le-leb, lt-leb, leb-true, ltb-true}
use Rattle.std.proofs.lemmas.List.{length-replicate}
use Rattle.std.proofs.lemmas.List.FromFn.{length-map-range_with_len, get_or-map-range_with_len}
use Rattle.vr_base.specs.Replicas.{no_replicas}
use Rattle.vr_header.specs.declared.header.Header.{Header}
use Rattle.vr_header.specs.declared.part.Part.{Part}
use Rattle.vr_header.specs.declared.part.Part.TheVariants.{Lost, Nothing}
use Rattle.vr_header.specs.Spelling.{IsHeader}
use Rattle.vr_ckpt.specs.declared.name.Name.{Name}
use Rattle.vr_msg.specs.declared.frame.SyncView.{SyncView}
use Rattle.vr_msg.specs.Logs.{IsEntryAt}
use Rattle.vr_header.specs.Parts.{has_header, header_of}
use Rattle.vr_msg.specs.Numbers.{IsNumber}
use Rattle.vr_rules.specs.Replica.{Replica, part_at, head, version}
use Rattle.vr_rules.specs.Steps.{Setting}
use Rattle.vr_rules.specs.Words.{above_end, is_chain, is_newer, jump, jumped, jumped_ops, jumped_part, log_header, no_statements, replaced_by, save, sync_log}
use Rattle.vr_rules.specs.Deciding.{may_jump}
use Rattle.vr_rules.specs.Sound.{IsSound}
use Rattle.vr_rules.proofs.Heads.{Spans, knows_some, known_within, head_within, head_reaches, part_within}
use Rattle.vr_rules.proofs.Keeping.{Kept, Roomy, sound_forgetting, rises_forgetting}
use Rattle.vr_rules.proofs.Combining.{KeptBy, kept_change_then}
use Rattle.vr_rules.specs.Given.{IsSyncFor}
use Rattle.vr_rules.proofs.Taking.{log_header_is, log_reaches, newer_view, replaced_header, later}
use Rattle.vr_rules.proofs.Wording.{none_stated, keeps_save}

-- what the test says
pub record MayJump (v : SyncView) (r : Replica) : Type 0 where
  pub view : r.view ≤ v.view
  pub reaches : r.commit ≤ v.head
  pub above : r.checkpoint < v.checkpoint

pub may_jump_is : (hash : List ℕ → List ℕ) (v : SyncView) (r : Replica) → may_jump hash v r ≡ true → MayJump v r
may_jump_is hash v r e =
    let a = and_parts (is_newer (sync_log v) r) _ e in
    let b = and_parts (is_chain hash v.body.headers) _ a.1 in
    let c = and_parts (nat_le r.commit v.head) _ b.1 in
    record { view = newer_view (sync_log v) r a.0; reaches = leb-true r.commit v.head c.0; above = ltb-true r.checkpoint v.checkpoint c.1 }

-- ---- Parts

-- the header of a Part is as it was, or the log's
data JumpedFrom (v : SyncView) (r : Replica) (k : ℕ) (p : Part) : Type 0 where
  old : header_of p ≡ header_of (part_at r k) → JumpedFrom v r k p
  new : (e : Header) → log_header (sync_log v) k ≡ Some e → header_of p ≡ Some e → JumpedFrom v r k p
  none : header_of p ≡ None → JumpedFrom v r k p

of_confirmed : (v : SyncView) (r : Replica) (k : ℕ) (b : Bool) → JumpedFrom v r k (cond b (part_at r k) Nothing)
of_confirmed v r k true = old refl
of_confirmed v r k false = none refl

of_lost : (v : SyncView) (r : Replica) (k : ℕ) (o : Option Header) → log_header (sync_log v) k ≡ o → JumpedFrom v r k (option_map_or Lost o Nothing)
of_lost v r k None i = none refl
of_lost v r k (Some e) i = new e i refl

of_log : (v : SyncView) (r : Replica) (k : ℕ) (o : Option Header) → log_header (sync_log v) k ≡ o → JumpedFrom v r k (option_map_or (λ e. replaced_by e (part_at r k)) o (part_at r k))
of_log v r k None i = old refl
of_log v r k (Some e) i = new e i (replaced_header e (part_at r k))

of_above : (v : SyncView) (r : Replica) (k : ℕ) (b : Bool) → JumpedFrom v r k (cond b Nothing (part_at r k))
of_above v r k true = none refl
of_above v r k false = old refl

jumped_from : (v : SyncView) (r : Replica) (k : ℕ) → JumpedFrom v r k (jumped_part v r k)
unfolding jumped_part
jumped_from v r k =
    elim (nat_le k v.body.lo) as (λ b. JumpedFrom v r k (cond b (cond (nat_le k r.commit) (part_at r k) Nothing) (cond (nat_le k v.checkpoint) (option_map_or Lost (log_header (sync_log v) k) Nothing)
    (cond (nat_le k v.head) (option_map_or (λ e. replaced_by e (part_at r k)) (log_header (sync_log v) k) (part_at r k)) (above_end (sync_log v) r (part_at r k)))))) [
      | true ↦ of_confirmed v r k (nat_le k r.commit)
      | false ↦
          elim (nat_le k v.checkpoint) as (λ b. JumpedFrom v r k (cond b (option_map_or Lost (log_header (sync_log v) k) Nothing)
          (cond (nat_le k v.head) (option_map_or (λ e. replaced_by e (part_at r k)) (log_header (sync_log v) k) (part_at r k)) (above_end (sync_log v) r (part_at r k))))) [
            | true ↦ of_lost v r k (log_header (sync_log v) k) refl
            | false ↦
                elim (nat_le k v.head) as (λ b. JumpedFrom v r k (cond b (option_map_or (λ e. replaced_by e (part_at r k)) (log_header (sync_log v) k) (part_at r k)) (above_end (sync_log v) r (part_at r k)))) [
                  | true ↦ of_log v r k (log_header (sync_log v) k) refl
                  | false ↦ of_above v r k (nat_lt r.log_view v.view)
                ]
          ]
    ]

jumped_entry : (v : SyncView) (r : Replica) (k : ℕ) (h : Header) → IsSound r → IsSyncFor r v → r.log_view ≤ v.view → header_of (jumped_part v r k) ≡ Some h
    → IsHeader h × IsEntryAt (version r) r.cluster v.view k h
jumped_entry v r k h sound is w e =
    elim (jumped_from v r k) [
      | old i ↦ let was = sound.entries.each k h (sym i ∙ e) in (was.0, later (version r) r.cluster r.log_view v.view k h w was.1)
      | new g at i ↦ let same : g ≡ h = (let t : Some g ≡ Some h = sym i ∙ e in cc) in subst (λ x. IsHeader x × IsEntryAt (version r) r.cluster v.view k x) same (log_header_is (sync_log v) r k g is.log at)
      | none i ↦ let no_header : None ≡ Some h = sym i ∙ e in absurd cc
    ]

-- each op above the checkpoint is known, up to the log's end
pub jumped_known : (v : SyncView) (r : Replica) (k : ℕ) → IsSyncFor r v → v.checkpoint < k → k ≤ v.head → has_header (jumped_part v r k) ≡ true
unfolding jumped_part
jumped_known v r k is a b =
    let count = is.log.count in
    let lo = is.within.0 in
    let there = log_reaches v.body.headers (k - (v.body.lo + 1)) (omega arith) in
    rw (lt-leb k v.body.lo (omega arith), lt-leb k v.checkpoint a, le-leb k v.head b, there.1) (rw (replaced_header there.0 (part_at r k)) refl)

-- before ops are forgotten
abbrev pub landed : SyncView → Replica → Replica
landed v r =
    let root : Name = record { address = v.root_address; sum = v.root_name } in
    record r {
      view = v.view;
      log_view = v.view;
      commit = max r.commit v.commit;
      applied = v.checkpoint;
      checkpoint = v.checkpoint;
      root = root;
      missing = root ∷ [];
      worn = [];
      parts = map (jumped_part v r) (jumped_ops v r);
      ackers = map (λ k. no_replicas) (jumped_ops v r);
      heard = no_replicas;
      statements = no_statements r;
      idle = 0;
    }

pub landed_spans : (v : SyncView) (r : Replica) → IsSound r → MayJump v r → Spans (landed v r)
landed_spans v r h m =
    let first = h.lists.reach in
    let above = m.above in
    record { reach = omega arith; parts = omega (arith, length-map-range_with_len (jumped_part v r) r.first (v.checkpoint + 65 - r.first)) }

pub landed_at : (v : SyncView) (r : Replica) (k : ℕ) → r.first ≤ k → k < v.checkpoint + 65 → part_at (landed v r) k ≡ jumped_part v r k
landed_at v r k a b =
    part_within (landed v r) k a ∙ get_or-map-range_with_len (jumped_part v r) r.first (v.checkpoint + 65 - r.first) (k - r.first) k Nothing (omega arith) (omega arith)

roomy_landed : (v : SyncView) (r : Replica) → IsSound r → IsSyncFor r v → MayJump v r → Roomy (landed v r)
roomy_landed v r h is m =
    let o = h.order in
    let q : Replica = landed v r in
    let t : Spans q = landed_spans v r h m in
    let first = h.lists.reach in
    let reaches = m.reaches in
    let above = m.above in
    let committed = is.log.commit in
    let within = is.within in
    let view = m.view in
    let views = o.views in
    let number : IsNumber v.head = is.head in
    let up : v.head ≤ head q =
    head_reaches q v.head t (λ k a b. elim (cases_lt k (v.checkpoint + 65)) [
      | inl l ↦ ap has_header (landed_at v r k (omega arith) l) ∙ jumped_known v r k is a b
      | inr g ↦ absurd (let count = is.log.count in let short = is.short in omega arith)
    ]) in
    record {
      size = h.size;
      member = h.member;
      order = record { applied = omega arith; commit = omega arith; known = omega arith; window = head_within q t; views = omega arith; number = omega arith };
      first = h.lists.first;
      spans = t;
      ackers = length-map-range_with_len (λ k. no_replicas) r.first (v.checkpoint + 65 - r.first) ∙ sym (length-map-range_with_len (jumped_part v r) r.first (v.checkpoint + 65 - r.first));
      statements = length-replicate r.n None;
      entries = record {
        each = λ k g e.
            let w = known_within q k t (knows_some q k g e) in
            jumped_entry v r k g h is (omega arith) (sym (ap header_of (landed_at v r k w.0 (omega (arith, w.1)))) ∙ e);
      };
      stated = record { each = λ i g e. absurd (none_stated r.n i g e) };
      checkpoint = is.every;
      near = omega arith;
      waits = λ n. refl;
      numbers = h.numbers;
    }

pub kept_jumped : (v : SyncView) (r : Replica) → IsSound r → IsSyncFor r v → MayJump v r → Kept r (jumped v r)
unfolding jumped
kept_jumped v r h is m =
    let view = m.view in
    let views = h.order.views in
    let above = m.above in
    let near = h.near in
    let every = is.every in
    let base = h.checkpoint in
    record {
      sound = sound_forgetting (landed v r) (roomy_landed v r h is m);
      rises = rises_forgetting r (landed v r) (record { view = omega arith; log_view = omega arith; commit = omega arith; applied = omega arith; checkpoint = omega arith });
    }

pub kept_jump : {F : Type 0} (v : SyncView) (s : Setting F) (r : Replica) (f : F) → IsSound r → IsSyncFor r v → MayJump v r → KeptBy (jump v) s r f
unfolding jump
kept_jump v s r f h is m = let k = kept_jumped v r h is m in kept_change_then (jumped v) save s r f k (λ d. keeps_save.every s (jumped v r) d k.sound)
