-- Jump: the log of a view is taken over with a later checkpoint. The machine knows all of it; what the replica has no room for it forgets
-- after the save.
use Rattle.std.proofs.Common.{ℕ, suc, ◌+◌, ◌≤◌, ◌<◌, ◌≡◌, ◌∙◌, inl, inr, arith, refl, sym, ap, subst, true, false, cond, List, max, Some, None}
use Rattle.std.specs.Prelude.{nat_lt}
use Rattle.std.specs.Option.{option_map_or}
use Rattle.std.proofs.lemmas.Bool.{cases_lt, lt-leb, le-leb, lt-ltb, le-ltb}
use Rattle.vr_header.specs.declared.header.Header.{Header}
use Rattle.vr_header.specs.declared.part.Part.TheVariants.{Here, Lost, Nothing}
use Rattle.vr_header.specs.Parts.{header_of, has_header}
use Rattle.vr_msg.specs.declared.frame.SyncView.{SyncView}
use Rattle.vr_rules.specs.Replica.{Replica, part_at, head, forgetting}
use Rattle.vr_rules.specs.Words.{jumped, jumped_part, log_header, replaced_by, sync_log}
use Rattle.vr_rules.specs.Sound.{IsSound}
use Rattle.vr_rules.proofs.Heads.{Spans, some_known, part_past, head_from, head_within, head_knows, head_reaches, head_stops, known_within, knows_some, forgetting_spans, forgetting_at, forgetting_known, forgetting_head}
use Rattle.vr_rules.specs.Given.{IsSyncFor}
use Rattle.vr_rules.proofs.Jumping.{MayJump, landed, landed_at, landed_spans, jumped_known}
use Rattle.vr_world.specs.Group as group
use Rattle.law_1_machine.specs.Members.{Memory}
use Rattle.law_1_machine.specs.Parts as part
use Rattle.law_1_machine.specs.Taking.{Jumps}
use Rattle.law_1_machine.specs.Taking as machine
use Rattle.law_2_chains.specs.Reflecting.{told_of, Reflects, KeepsStored}
use Rattle.law_2_chains.proofs.Writing.{told_header, none_known}
use Rattle.law_2_chains.proofs.Saving.{Covers}
use Rattle.law_2_chains.proofs.Takes.{installed, mapped_is, ended_is}

module _ (v : SyncView) (r : Replica) (sound : IsSound r) (is : IsSyncFor r v) (may : MayJump v r) where
  -- ---- a Part, by where its op stands

  part_sure : (k : ℕ) → k ≤ v.body.lo → k ≤ r.commit → jumped_part v r k ≡ part_at r k
  unfolding jumped_part
  part_sure k a b = rw (le-leb k v.body.lo a, le-leb k r.commit b) refl

  part_unsure : (k : ℕ) → k ≤ v.body.lo → r.commit < k → jumped_part v r k ≡ Nothing
  unfolding jumped_part
  part_unsure k a b = rw (le-leb k v.body.lo a, lt-leb k r.commit b) refl

  part_lost : (k : ℕ) → v.body.lo < k → k ≤ v.checkpoint → jumped_part v r k ≡ option_map_or Lost (log_header (sync_log v) k) Nothing
  unfolding jumped_part
  part_lost k a b = rw (lt-leb k v.body.lo a, le-leb k v.checkpoint b) refl

  part_within : (k : ℕ) → v.checkpoint < k → k ≤ v.head → jumped_part v r k ≡ option_map_or (λ e. replaced_by e (part_at r k)) (log_header (sync_log v) k) (part_at r k)
  unfolding jumped_part
  part_within k a b = let low = is.within.0 in rw (lt-leb k v.body.lo (omega arith), lt-leb k v.checkpoint a, le-leb k v.head b) refl

  part_above : (k : ℕ) → v.head < k → jumped_part v r k ≡ cond (nat_lt r.log_view v.view) Nothing (part_at r k)
  unfolding jumped_part
  part_above k a =
      let within = is.within in
      let committed = is.log.commit in
      rw (lt-leb k v.body.lo (omega arith), lt-leb k v.checkpoint (omega arith), lt-leb k v.head a) refl

  -- the log ends in the later window
  window : v.head ≤ v.checkpoint + 64
  window = let count = is.log.count in let short = is.short in let low = is.within.0 in omega arith

  -- past the window that the replica has had it knows nothing
  unknown : (k : ℕ) → r.checkpoint + 64 < k → part_at r k ≡ Nothing
  unknown k a = let parts = sound.lists.parts in part_past r k (omega arith)

  -- ---- the machine's Parts

  abbrev pub parts_jumped : ℕ → part.Part Header
  parts_jumped k = cond (nat_lt k (v.checkpoint + 65)) (told_of (jumped_part v r k)) part.Nothing

  in_window : (k : ℕ) → k < v.checkpoint + 65 → parts_jumped k ≡ told_of (jumped_part v r k)
  in_window k a = rw (lt-ltb k (v.checkpoint + 65) a) refl

  past_window : (k : ℕ) → v.checkpoint + 65 ≤ k → parts_jumped k ≡ part.Nothing
  past_window k a = rw (le-ltb k (v.checkpoint + 65) a) refl

  spans_landed : Spans (landed v r)
  spans_landed = landed_spans v r sound may

  -- above the checkpoint they are the replica's
  landed_above : (k : ℕ) → v.checkpoint < k → parts_jumped k ≡ told_of (part_at (landed v r) k)
  landed_above k a =
      let first = sound.lists.reach in
      let above = may.above in
      elim (cases_lt k (v.checkpoint + 65)) [
        | inl near ↦ in_window k near ∙ sym (ap told_of (landed_at v r k (omega arith) near))
        | inr past ↦ let spans = spans_landed.parts in past_window k past ∙ sym (ap told_of (part_past (landed v r) k (omega arith)))
      ]

  -- what the replica knows there, the machine knows
  landed_low : (k : ℕ) (h : Header) → header_of (part_at (landed v r) k) ≡ Some h → part.header (parts_jumped k) ≡ Some h
  landed_low k h e =
      let w = known_within (landed v r) k spans_landed (knows_some (landed v r) k h e) in
      let first = w.0 in
      let near = w.1 in
      ap part.header (in_window k (omega arith)) ∙ (told_header (jumped_part v r k) ∙ (sym (ap header_of (landed_at v r k first (omega arith))) ∙ e))

  below : (k : ℕ) → k ≤ v.body.lo → k ≤ r.commit → parts_jumped k ≡ told_of (part_at r k)
  below k a b = let low = is.within.0 in in_window k (omega arith) ∙ ap told_of (part_sure k a b)

  unsure : (k : ℕ) → k ≤ v.body.lo → r.commit < k → part.header (parts_jumped k) ≡ None
  unsure k a b = let low = is.within.0 in ap part.header (in_window k (omega arith) ∙ ap told_of (part_unsure k a b))

  gone : (k : ℕ) (h : Header) → v.body.lo < k → k ≤ v.checkpoint → log_header (sync_log v) k ≡ Some h → parts_jumped k ≡ part.Lost h
  gone k h a b e = in_window k (omega arith) ∙ ap told_of (part_lost k a b ∙ ap (λ o. option_map_or Lost o Nothing) e)

  between : (k : ℕ) (h : Header) → v.checkpoint < k → k ≤ v.head → log_header (sync_log v) k ≡ Some h → parts_jumped k ≡ told_of (replaced_by h (part_at r k))
  between k h a b e =
      let top = window in
      in_window k (omega arith) ∙ ap told_of (part_within k a b ∙ ap (λ o. option_map_or (λ e. replaced_by e (part_at r k)) o (part_at r k)) e)

  above_later : (k : ℕ) → v.head < k → r.log_view < v.view → parts_jumped k ≡ part.Nothing
  above_later k a b =
      let c : nat_lt r.log_view v.view ≡ true = lt-ltb r.log_view v.view b in
      elim (cases_lt k (v.checkpoint + 65)) [
        | inl near ↦ in_window k near ∙ ap told_of (part_above k a ∙ ap (λ t. cond t Nothing (part_at r k)) c)
        | inr past ↦ past_window k past
      ]

  above_same : (k : ℕ) → v.head < k → v.view ≤ r.log_view → parts_jumped k ≡ told_of (part_at r k)
  above_same k a b =
      let c : nat_lt r.log_view v.view ≡ false = le-ltb r.log_view v.view b in
      let later = may.above in
      elim (cases_lt k (v.checkpoint + 65)) [
        | inl near ↦ in_window k near ∙ ap told_of (part_above k a ∙ ap (λ t. cond t Nothing (part_at r k)) c)
        | inr past ↦ past_window k past ∙ sym (ap told_of (unknown k (omega arith)))
      ]

  -- ---- the machine jumps

  head_landed : v.head ≤ head (landed v r)
  head_landed =
      let first = sound.lists.reach in
      let above = may.above in
      let top = window in
      head_reaches (landed v r) v.head spans_landed (λ k a b. ap has_header (landed_at v r k (omega arith) (omega arith)) ∙ jumped_known v r k is a b)

  -- the op after the head isn't known
  next_none : (k : ℕ) → k ≡ head (landed v r) + 1 → part.header (parts_jumped k) ≡ None
  next_none k e =
      let from = head_from (landed v r) in
      let over : v.checkpoint < k = omega arith in
      ap part.header (landed_above k over) ∙ (told_header (part_at (landed v r) k)
      ∙ none_known (header_of (part_at (landed v r) k)) (λ t. head_stops (landed v r) spans_landed (subst (λ j. has_header (part_at (landed v r) j) ≡ true) e t)))

  abbrev pub commit_jumped : ℕ
  commit_jumped = max r.commit v.commit

  pub jumps_to : (m : Memory Header) → Reflects r m → Jumps m v.view v.body.lo v.head v.commit v.checkpoint (log_header (sync_log v)) parts_jumped commit_jumped (head (landed v r))
  jumps_to m f =
      let view = f.view in
      let log_view = f.log_view in
      let ckpt = f.checkpoint in
      let commit = f.commit in
      let newer = may.view in
      let later = may.above in
      let reaches = may.reaches in
      let within = is.within in
      let views = sound.order.views in
      let up = head_landed in
      let top = head_within (landed v r) spans_landed in
      let from = head_from (landed v r) in
      record {
        view = omega arith;
        past = (within.0, within.1, omega arith);
        commit_head = omega arith;
        window = window;
        below = λ k a b. below k a (omega arith) ∙ sym (f.parts k);
        unsure = λ k a b. unsure k a (omega arith);
        lost = λ k h a b e. gone k h a b e;
        between = λ k h a b e. inl (rw (f.parts k, between k h a b e) (installed h (part_at r k)));
        above = λ k a.
            elim (cases_lt r.log_view v.view) [
              | inl apart ↦ inl (omega arith, above_later k a apart)
              | inr same ↦ inr (omega arith, inl (above_same k a same ∙ sym (f.parts k)))
            ];
        committed = (
          omega arith,
          omega arith,
          elim (cases_lt v.commit r.commit) [
            | inl a ↦ inl (omega arith)
            | inr a ↦ inr (omega arith)
          ],
        );
        reach = (up, omega arith);
        more = λ k a b.
            let committed = is.log.commit in
            let over : v.checkpoint < k = omega arith in
            let y = some_known (landed v r) k (head_knows (landed v r) k spans_landed over b) in
            (y.0, ap part.header (landed_above k over) ∙ (told_header (part_at (landed v r) k) ∙ y.1));
        next = next_none (suc (head (landed v r))) (omega arith);
      }

  -- ---- what is left of it

  pub jumped_at : (k : ℕ) → v.checkpoint < k → part_at (jumped v r) k ≡ part_at (landed v r) k
  unfolding jumped forgetting
  jumped_at k a = let low = (forgetting_spans (landed v r) spans_landed).reach in forgetting_at (landed v r) k (omega arith)

  pub covers_jumped : (m : Memory Header) → Reflects r m → (root : List Header) → Covers (jumped v r) (machine.jumped m v.view v.checkpoint root parts_jumped commit_jumped (head (landed v r)))
  unfolding jumped forgetting
  covers_jumped m f root = record {
    view = refl;
    log_view = refl;
    checkpoint = refl;
    commit = refl;
    applied = refl;
    reach = sym (forgetting_head (landed v r) spans_landed);
    parts = λ k a. landed_above k a ∙ sym (ap told_of (jumped_at k a));
    low = λ k h e. landed_low k h (forgetting_known (landed v r) k h e);
    loaded = λ n. absurd cc;
    waits = λ n. refl;
  }

  -- what is stored was stored
  landed_stored : (k : ℕ) (h : Header) → v.checkpoint < k → part_at (landed v r) k ≡ Here h → part_at r k ≡ Here h
  landed_stored k h a e =
      let w = known_within (landed v r) k spans_landed (knows_some (landed v r) k h (ap header_of e)) in
      let near = w.1 in
      let at : jumped_part v r k ≡ Here h = sym (landed_at v r k w.0 (omega arith)) ∙ e in
      elim (cases_lt v.head k) [
        | inl past ↦ ended_is h (part_at r k) (nat_lt r.log_view v.view) (sym (part_above k past) ∙ at)
        | inr within ↦ mapped_is h (part_at r k) (log_header (sync_log v) k) (sym (part_within k a within) ∙ at)
      ]

  pub keeps_jumped : (m : group.Member) → KeepsStored r m → KeepsStored (jumped v r) m
  unfolding jumped forgetting
  keeps_jumped m keeps = (λ k h a e. let later = may.above in keeps.0 k h (omega arith) (landed_stored k h a (sym (jumped_at k a) ∙ e)), keeps.1)

  pub jumped_views : ((jumped v r).view ≡ v.view) × ((jumped v r).log_view ≡ v.view) × ((jumped v r).index ≡ r.index) × ((jumped v r).n ≡ r.n)
  unfolding jumped forgetting
  jumped_views = (refl, refl, refl, refl)
