-- Apply: what is read is applied, or found lost; a checkpoint is made at each 32nd op.
use Rattle.std.proofs.Common.{ℕ, suc, ◌+◌, ◌-◌, ◌%◌, ◌≤◌, ◌<◌, ◌≡◌, ◌≢◌, ◌∙◌, inl, inr, arith, refl, sym, ap, subst, Bool, true, false, cond, List, [], ◌∷◌, length, Option, Some, None, is_some}
use Rattle.std.specs.Prelude.{nat_lt, ◌&&◌}
use Rattle.std.proofs.lemmas.Bool.{and_parts, cases_eq, ltb-true, eqb-true, eqb-false}
use Rattle.std.proofs.lemmas.List.{nil_from_length}
use Rattle.vr_rules.proofs.Wording.{entry_numbered, read_is}
use Rattle.vr_msg.specs.Numbers.{IsNumber}
use Rattle.vr_header.specs.declared.header.Header.{Header}
use Rattle.vr_header.specs.declared.part.Part.{Part}
use Rattle.vr_header.specs.declared.part.Part.TheVariants.{Here, Lost, Wanted, Unknown, Nothing}
use Rattle.vr_header.specs.Made.{Whole}
use Rattle.vr_ckpt.specs.declared.saving.SavedCheckpoint as checkpoint
use Rattle.vr_msg.specs.declared.output.Output.{Output}
use Rattle.vr_header.specs.Parts.{header_of}
use Rattle.vr_rules.specs.Replica.{Replica, part_at, head, leads, with_part}
use Rattle.vr_state.specs.Folds as state
use Rattle.vr_rules.specs.Outputs.{commit_line, applied_reply, asker_of, kind_of, replies}
use Rattle.vr_rules.specs.Steps.{Effect, Setting, Word, ◌⨾◌, change, does, says, by, reading, when, after_all}
use Rattle.vr_rules.specs.Words.{entry_of, lost, or_lost, with_entry, with_entry_at, applied, checkpoints, with_checkpoint, checkpoint_of, make_checkpoint, is_checkpoint, apply_entry, is_loaded, apply_next, apply, save}
use Rattle.vr_world.specs.Group as group
use Rattle.vr_rules.specs.Sound.{IsSound}
use Rattle.vr_rules.proofs.Heads.{Spans, known_within, knows_some, head_least, with_part_spans, with_part_at, with_part_other}
use Rattle.vr_rules.proofs.Keeping.{spans_of}
use Rattle.vr_rules.proofs.Storing.{kept_lost, kept_applied, kept_moved, moved, moved_at, moved_head}
use Rattle.law_1_machine.specs.Group.{Group, Member, becomes}
use Rattle.law_1_machine.specs.Laws.{Agreement}
use Rattle.law_1_machine.specs.Members.{Memory, Message}
use Rattle.law_1_machine.specs.Parts.{header, denied}
use Rattle.law_1_machine.specs.Machine as move
use Rattle.law_1_machine.proofs.Laws.{agreement}
use Rattle.law_1_machine.proofs.Moves.{reached_good}
use Rattle.law_2_chains.specs.Local.{Local, begun, through}
use Rattle.law_2_chains.specs.Reflecting.{entries_by, told_of, Reflects, KeepsStored}
use Rattle.law_2_chains.specs.Chains.{Setup, Every, MayBeSaid, IsBackedLine, WasMade, Under, Mid, Goes}
use Rattle.law_2_chains.proofs.Scripts.{every_append, goes_then, goes_quiet, goes_change, goes_by, goes_reading, goes_when, goes_times}
use Rattle.law_2_chains.proofs.Readying.{Later, ready_later}
use Rattle.law_2_chains.proofs.Moving.{under_moves, stops, mid_runs, mid_stays, goes_says}
use Rattle.law_2_chains.proofs.Writing.{told_header}
use Rattle.law_2_chains.proofs.Saving.{Covers, forgotten, save_cut, save_after, save_ends}

-- ---- an entry is lost: the machine doesn't move

module _ (k : ℕ) (h : Header) (r : Replica) (sound : IsSound r) (is : part_at r k ≡ Here h) where
  pub op_is : h.op ≡ k
  op_is = (sound.entries.each k h (ap header_of is)).1.at_op

  near : (r.first ≤ k) × (k ≤ r.checkpoint + 64)
  near = known_within r k (spans_of r sound) (knows_some r k h (ap header_of is))

  pub at_lost : part_at (with_part k (Lost h) r) k ≡ Lost h
  at_lost = let parts = sound.lists.parts in let l = near.1 in with_part_at k (Lost h) r near.0 (omega arith)

  pub other_lost : (j : ℕ) → j ≢ k → part_at (with_part k (Lost h) r) j ≡ part_at r j
  other_lost j n = with_part_other k (Lost h) r j near.0 n

  told_lost : (j : ℕ) → told_of (part_at (with_part k (Lost h) r) j) ≡ told_of (part_at r j)
  told_lost j =
      elim (cases_eq j k) [
        | inl t ↦ rw t (ap told_of at_lost ∙ sym (ap told_of is))
        | inr n ↦ ap told_of (other_lost j n)
      ]

  known_lost : (j : ℕ) → header_of (part_at (with_part k (Lost h) r) j) ≡ header_of (part_at r j)
  known_lost j = sym (told_header (part_at (with_part k (Lost h) r) j)) ∙ ap header (told_lost j) ∙ told_header (part_at r j)

  pub head_lost : head (with_part k (Lost h) r) ≡ head r
  unfolding with_part
  head_lost =
      let q : Replica = with_part k (Lost h) r in
      let s = spans_of r sound in
      let t : Spans q = with_part_spans k (Lost h) r s in
      let up = head_least r q s t refl (λ j e. ap (λ (o : Option Header). is_some o) (known_lost j) ∙ e) in
      let down = head_least q r t s refl (λ j e. sym (ap (λ (o : Option Header). is_some o) (known_lost j)) ∙ e) in
      omega (arith, up, down)

  pub reflects_with : (m : Memory Header) → Reflects r m → Reflects (with_part k (Lost h) r) m
  unfolding with_part
  reflects_with m f = record {
    view = f.view;
    log_view = f.log_view;
    checkpoint = f.checkpoint;
    commit = f.commit;
    applied = f.applied;
    reach = f.reach ∙ sym head_lost;
    parts = λ j. f.parts j ∙ sym (told_lost j);
    loaded = f.loaded;
    waits = f.waits;
  }

  pub keeps_with : (m : group.Member) → KeepsStored r m → KeepsStored (with_part k (Lost h) r) m
  unfolding with_part
  keeps_with m keeps = (
    λ j g above e. elim (cases_eq j k) [
      | inl t ↦ let no_here : Lost h ≡ Here g = sym at_lost ∙ subst (λ i. part_at (with_part k (Lost h) r) i ≡ Here g) t e in absurd cc
      | inr n ↦ keeps.0 j g above (sym (other_lost j n) ∙ e)
    ],
    keeps.1,
  )

  pub place_with : ((with_part k (Lost h) r).index ≡ r.index) × ((with_part k (Lost h) r).n ≡ r.n)
  unfolding with_part
  place_with = (refl, refl)

module _ (u : Setup) (start : Group Header) (i : ℕ) where
  goes_lost : {F : Type 0} (k : ℕ) (h : Header) (t : Setting F) (r : Replica) (f : F) (l : Local) (s : Group Header) → Mid u start i r l s → part_at r k ≡ Here h → Goes u start i l (change (lost h) t r f)
  goes_lost k h t r f l s x is =
      let e = op_is k h r x.sound is in
      let p = place_with k h r x.sound is in
      let y : Mid u start i (with_part k (Lost h) r) l s =
      mid_stays u start i r (with_part k (Lost h) r) l s x (reflects_with k h r x.sound is x.memory x.reflects) (subst (λ j. IsSound (with_part j (Lost h) r)) e (kept_lost k h r x.sound is).sound)
      p.0 p.1 (keeps_with k h r x.sound is l.member x.stored) in
      goes_change u start i (lost h) t r f l s (subst (λ j. Mid u start i (with_part j (Lost h) r) l s) (sym e) y)

  goes_or_lost : {F : Type 0} (k : ℕ) (h : Header) (w : Whole → Word F) (o : Option Whole) (t : Setting F) (r : Replica) (f : F) (l : Local) (s : Group Header) → Mid u start i r l s → part_at r k ≡ Here h
      → ((e : Whole) → o ≡ Some e → Goes u start i l (w e t r f)) → Goes u start i l (or_lost h w o t r f)
  goes_or_lost k h w None t r f l s x is go = goes_lost k h t r f l s x is
  goes_or_lost k h w (Some e) t r f l s x is go = go e refl

  goes_with_entry : {F : Type 0} (w : Whole → Word F) (k : ℕ) (p : Part) (t : Setting F) (r : Replica) (f : F) (l : Local) (s : Group Header) → Mid u start i r l s → part_at r k ≡ p
      → ((e : Whole) → part_at r k ≡ Here e.header → Goes u start i l (w e t r f)) → Goes u start i l (with_entry w p t r f)
  goes_with_entry w k (Here h) t r f l s x is go =
      goes_reading u start i (entry_of h) (or_lost h w) t r f l
      (goes_or_lost k h w (entry_of h t f) t r f l s x is (λ e q. go e (is ∙ sym (ap Here (read_is h (t.entry f (h.op % 64)) e q)))))
  goes_with_entry w k (Lost h) t r f l s x is go = goes_quiet u start i t r f l s x
  goes_with_entry w k (Wanted h) t r f l s x is go = goes_quiet u start i t r f l s x
  goes_with_entry w k Unknown t r f l s x is go = goes_quiet u start i t r f l s x
  goes_with_entry w k Nothing t r f l s x is go = goes_quiet u start i t r f l s x

  -- a word with a stored entry that reads
  pub goes_with_entry_at : {F : Type 0} (k : ℕ) (w : Whole → Word F) (t : Setting F) (r : Replica) (f : F) (l : Local) (s : Group Header) → Mid u start i r l s
      → ((e : Whole) → part_at r k ≡ Here e.header → Goes u start i l (w e t r f)) → Goes u start i l (with_entry_at k w t r f)
  unfolding with_entry_at
  goes_with_entry_at k w t r f l s x go = goes_by u start i (λ r. with_entry w (part_at r k)) t r f l (goes_with_entry w k (part_at r k) t r f l s x refl go)

-- ---- an entry is applied

pub later_as : (m m' : Memory Header) (slots : ℕ → Option Header) → m'.view ≡ m.view → m'.log_view ≡ m.log_view → m.checkpoint ≤ m'.checkpoint → m.commit ≤ m'.commit → m'.head ≡ m.head
    → ((k : ℕ) → m'.parts k ≡ m.parts k) → Later m m' slots slots
later_as m m' slots a b c d e same = record {
  view = a;
  log_view = b;
  checkpoint = c;
  commit = d;
  reach = e;
  known = λ k h is. ap header (same k) ∙ is;
  undenied = λ k is. ap denied (same k) ∙ is;
  slot = λ s. refl;
}

module _ (u : Setup) (start : Group Header) (i : ℕ) (e : Whole) (r : Replica) (l : Local) (s : Group Header) (x : Mid u start i r l s) (is : part_at r (r.applied + 1) ≡ Here e.header)
    (room : r.applied < r.commit) (all : r.missing ≡ []) where
  next : suc x.memory.applied ≡ r.applied + 1
  next = let a = x.reflects.applied in omega arith

  known : header (x.memory.parts (suc x.memory.applied)) ≡ Some e.header
  known = rw next (ap header (x.reflects.parts (r.applied + 1)) ∙ (told_header (part_at r (r.applied + 1)) ∙ ap header_of is))

  fewer : x.memory.applied < x.memory.commit
  fewer = let a = x.reflects.applied in let c = x.reflects.commit in omega arith

  state_is : (y : List Header) × (x.memory.state ≡ Some y)
  state_is = x.reflects.loaded all

  number : IsNumber e.header.op
  number = entry_numbered (r.applied + 1) e.header r e x.sound is refl

  -- its line is backed
  pub line_is : IsBackedLine u start.sent e.header
  line_is =
      let q = u.quorums in
      let hs = entries_by u.hash u.cluster in
      let good = reached_good q hs s x.under.reached in
      let a : Agreement q hs s = agreement q hs good.0 s good.1 in
      let less = fewer in
      let backed = a.known i x.memory (suc x.memory.applied) e.header x.running (omega arith) known in
      subst (λ y. IsBackedLine u y e.header) x.under.sent (record { view = x.memory.log_view; number = suc x.memory.applied; is = backed })

  -- no checkpoint falls
  abbrev m1 : Memory Header
  m1 = record x.memory { applied = suc x.memory.applied; state = Some (e.header ∷ state_is.0) }

  abbrev z1 : Member Header
  z1 = record (s.members i) { memory = Some m1 }

  reflects_applied : Reflects (applied e r) m1
  unfolding head part_at
  reflects_applied =
      let f = x.reflects in
      record {
        view = f.view;
        log_view = f.log_view;
        checkpoint = f.checkpoint;
        commit = f.commit;
        applied = next;
        reach = f.reach;
        parts = f.parts;
        loaded = λ n. (e.header ∷ state_is.0, refl);
        waits = λ n. absurd (n all);
      }

  keeps_applied : KeepsStored (applied e r) l.member
  unfolding part_at
  keeps_applied = x.stored

  mid_applied : ((r.applied + 1) % 32 ≡ 0 → ⊥) → Mid u start i (applied e r) l (becomes s i z1)
  mid_applied apart =
      let near = (kept_applied e r x.sound number room all apart).sound.near in
      let ckpt = x.reflects.checkpoint in
      let a = next in
      let d = x.under.disk in
      mid_runs u start i (applied e r) l s z1 m1
      (under_moves u start i l l s z1 x.under (move.remembers i x.memory m1 x.running (move.applies e.header state_is.0 state_is.1 fewer (omega arith) known))
      (record { last = d.last; under = d.under; slots = d.slots; size = d.size }) x.under.made)
      refl reflects_applied (kept_applied e r x.sound number room all apart).sound x.place x.size keeps_applied
      (ready_later u start.sent i x.memory m1 (s.members i).slots z1.slots (later_as x.memory m1 (s.members i).slots refl refl (omega arith) (omega arith) refl (λ k. refl)) l.said x.ready)

  -- a checkpoint falls
  abbrev m2 : Memory Header
  m2 = record x.memory { checkpoint = suc x.memory.applied; applied = suc x.memory.applied; root = e.header ∷ state_is.0; state = Some (e.header ∷ state_is.0) }

  abbrev effect : Effect
  effect = checkpoints (applied e r)

  -- the effect changes nothing that the machine has
  abbrev l1 : Local
  l1 = through effect l

  made_l1 : Every (WasMade s.made) l1.made
  made_l1 = every_append (WasMade s.made) l.made [] x.under.made tt

  under_l1 : Under u start i l1 s
  under_l1 = let y = x.under in record { reached = y.reached; sent = y.sent; chosen = y.chosen; others = y.others; disk = y.disk; made = made_l1; none_made = y.none_made }

  covers : (c : checkpoint.SavedCheckpoint) → Covers (moved c e r) m2
  unfolding with_checkpoint
  covers c =
      let f = x.reflects in
      record {
        view = f.view;
        log_view = f.log_view;
        checkpoint = next;
        commit = f.commit;
        applied = next;
        reach = f.reach ∙ sym (moved_head c e r x.sound room);
        parts = λ k a. f.parts k ∙ sym (ap told_of (moved_at c e r k));
        low = λ k h t. ap header (f.parts k) ∙ (told_header (part_at r k) ∙ (sym (ap header_of (moved_at c e r k)) ∙ t));
        loaded = λ n. (e.header ∷ state_is.0, refl);
        waits = λ n. absurd (n all);
      }

  keeps_moved : (c : checkpoint.SavedCheckpoint) → KeepsStored (moved c e r) l1.member
  unfolding with_checkpoint
  keeps_moved c = (λ k h above t. let low = x.sound.order.applied in x.stored.0 k h (omega arith) (sym (moved_at c e r k) ∙ t), x.stored.1)

  places_moved : (c : checkpoint.SavedCheckpoint) → ((moved c e r).index ≡ i) × ((moved c e r).n ≡ u.quorums.n)
  unfolding with_checkpoint
  places_moved c = (x.place, x.size)

  ready_moved : (c : checkpoint.SavedCheckpoint) → Every (MayBeSaid u start.sent i (forgotten (moved c e r) m2) (s.members i).slots) l1.said
  ready_moved c =
      let a = x.reflects.applied in
      let b = x.reflects.checkpoint in
      let low = x.sound.order.applied in
      every_append (MayBeSaid u start.sent i (forgotten (moved c e r) m2) (s.members i).slots) l.said []
      (ready_later u start.sent i x.memory (forgotten (moved c e r) m2) (s.members i).slots (s.members i).slots
      (later_as x.memory (forgotten (moved c e r) m2) (s.members i).slots refl refl (omega arith) (omega arith) refl (λ k. ap told_of (moved_at c e r k) ∙ sym (x.reflects.parts k))) l.said x.ready)
      tt

  may_save : move.Save u.quorums (entries_by u.hash u.cluster) s x.memory m2
  may_save = move.checkpoints e.header state_is.0 state_is.1 fewer known

  goes_moved : {F : Type 0} (t : Setting F) (f : F) → (r.applied + 1) % 32 ≡ 0 → Goes u start i l (make_checkpoint t (applied e r) f)
  unfolding make_checkpoint save by reading does change ◌⨾◌
  goes_moved t f falls =
      let c = checkpoint_of (applied e r) t f in
      let q : Replica = moved c e r in
      let sound = (kept_moved c e r x.sound number room all falls).sound in
      let p = places_moved c in
      record {
        after = save_after u start i q l1 s under_l1 x.memory m2 x.running may_save (covers c) sound p.0 p.1 (keeps_moved c) (ready_moved c);
        ends = save_ends u start i q l1 s under_l1 x.memory m2 x.running may_save (covers c) sound p.0 p.1 (keeps_moved c) (ready_moved c);
        cuts = (
          stops u start i l (begun effect l) s x.under x.under.disk made_l1,
          (save_cut u start i q l1 s under_l1 x.memory m2 x.running may_save (covers c) sound p.0 p.1 (keeps_moved c) (ready_moved c), tt),
        );
      }

  applied_then : {F : Type 0} (b : Bool) → b ≡ is_checkpoint (r.applied + 1) → (t : Setting F) (f : F) → Goes u start i l (when b make_checkpoint t (applied e r) f)
  applied_then true h t f = goes_moved t f (eqb-true ((r.applied + 1) % 32) 0 (sym h))
  applied_then false h t f = goes_quiet u start i t (applied e r) f l (becomes s i z1) (mid_applied (eqb-false ((r.applied + 1) % 32) 0 (sym h)))

  pub goes_applied : {F : Type 0} (t : Setting F) (f : F) → Goes u start i l ((change (applied e) ⨾ by (λ q. when (is_checkpoint q.applied) make_checkpoint)) t r f)
  unfolding change by ◌⨾◌
  goes_applied t f = let y = applied_then (is_checkpoint (r.applied + 1)) refl t (after_all t f []) in record { after = y.after; ends = y.ends; cuts = y.cuts }

-- ---- the words

module _ (u : Setup) (start : Group Header) (i : ℕ) where
  may_reply : (sent : List (Message Header)) (m : Memory Header) (slots : ℕ → Option Header) (e : Whole) (r : Replica) (b : Bool)
      → Every (MayBeSaid u sent i m slots) (cond b (replies (asker_of e) (kind_of (state.applied r.state e).reply) r) [])
  may_reply sent m slots e r true = (tt, tt)
  may_reply sent m slots e r false = tt

  -- something is said, and then the replica goes on
  pub goes_says_then : {F : Type 0} (os : Replica → List Output) (w : Word F) (t : Setting F) (r : Replica) (f : F) (l : Local) (s : Group Header) (x : Mid u start i r l s)
      → Every (MayBeSaid u start.sent i x.memory (s.members i).slots) (os r)
      → ((k : Local) (a : Group Header) (d : F) → Mid u start i r k a → Goes u start i k (w t r d)) → Goes u start i l ((says os ⨾ w) t r f)
  unfolding says
  goes_says_then os w t r f l s x may go = goes_then u start i (says os) w t r f l (goes_says u start i os t r f l s x may) (λ a y. go _ a _ y)

  goes_apply_entry : {F : Type 0} (e : Whole) (t : Setting F) (r : Replica) (f : F) (l : Local) (s : Group Header) → Mid u start i r l s → part_at r (r.applied + 1) ≡ Here e.header
      → r.applied < r.commit → r.missing ≡ [] → Goes u start i l (apply_entry e t r f)
  unfolding apply_entry
  goes_apply_entry e t r f l s x is room all =
      goes_says_then (commit_line e) _ t r f l s x (line_is u start i e r l s x is room all, tt) (λ k a d y.
      goes_says_then (applied_reply e) _ t r d k a y (may_reply start.sent y.memory (a.members i).slots e r (leads r)) (λ k' a' d' y'.
      goes_applied u start i e r k' a' y' is room all t d'))

  goes_apply_next : {F : Type 0} (t : Setting F) (r : Replica) (f : F) (l : Local) (s : Group Header) → Mid u start i r l s → Goes u start i l (apply_next t r f)
  unfolding apply_next
  goes_apply_next t r f l s x =
      goes_by u start i _ t r f l (goes_when u start i (is_loaded r && nat_lt r.applied r.commit) _ t r f l s x (λ b.
      let p = and_parts (is_loaded r) (nat_lt r.applied r.commit) b in
      let none : r.missing ≡ [] = nil_from_length r.missing (eqb-true (length r.missing) 0 p.0) in
      goes_with_entry_at u start i (r.applied + 1) apply_entry t r f l s x (λ e is. goes_apply_entry e t r f l s x is (ltb-true r.applied r.commit p.1) none)))

  pub goes_apply : {F : Type 0} (t : Setting F) (r : Replica) (f : F) (l : Local) (s : Group Header) → Mid u start i r l s → Goes u start i l (apply t r f)
  unfolding apply
  goes_apply t r f l s x = goes_by u start i _ t r f l (goes_times u start i (r.commit - r.applied) apply_next t (λ r f l s x. goes_apply_next t r f l s x) r f l s x)
