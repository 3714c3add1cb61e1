-- Changes of Parts keep a replica sound: an entry is stored or lost, a checkpoint is made.
use Rattle.std.proofs.Common.{ℕ, ◌+◌, ◌-◌, ◌%◌, ◌≤◌, ◌<◌, ◌≡◌, ◌∙◌, inl, inr, arith, refl, sym, ap, subst, ◌^◌, true, cond, List, [], ◌++◌, length, get_or, set, replicate, Some}
use Rattle.std.specs.Prelude.{nat_lt}
use Rattle.std.proofs.lemmas.Bool.{cases_lt, cases_eq}
use Rattle.std.proofs.lemmas.List.{length-append, length-replicate, length-set, get_or_append_left, get_or-append_right, get_or-replicate, get_or_past}
use Rattle.vr_msg.specs.Numbers.{IsNumber}
use Rattle.vr_state.proofs.Numbers.{numbers_kept}
use Rattle.vr_state.specs.Folds as state
use Rattle.vr_base.specs.Replicas.{no_replicas}
use Rattle.vr_ckpt.specs.declared.saving.SavedCheckpoint as checkpoint
use Rattle.vr_header.specs.declared.header.Header.{Header}
use Rattle.vr_header.specs.declared.part.Part.{Part}
use Rattle.vr_header.specs.declared.part.Part.TheVariants.{Here, Lost, Nothing}
use Rattle.vr_header.specs.Made.{Whole}
use Rattle.vr_header.specs.Spelling.{IsHeader}
use Rattle.vr_msg.specs.Logs.{IsEntryAt}
use Rattle.vr_header.specs.Parts.{has_header, header_of}
use Rattle.vr_rules.specs.Replica.{Replica, part_at, head, with_part, knows, version}
use Rattle.vr_rules.specs.Words.{applied, lost, stored, with_checkpoint}
use Rattle.vr_rules.specs.Sound.{IsSound}
use Rattle.vr_rules.specs.Laws.{Rises}
use Rattle.vr_rules.proofs.Heads.{Spans, known_within, knows_some, some_known, head_from, head_within, head_knows, head_reaches, head_least, with_part_spans, with_part_at, with_part_other}
use Rattle.vr_rules.proofs.Keeping.{Kept, Roomy, spans_of, sound_few, sound_forgetting, rises_forgetting, sound_applied, sound_state}

-- what a Part may be set to: it knows an entry's header
abbrev pub MayBe : ℕ → Part → Replica → Type 0
MayBe k p r = (h : Header) → header_of p ≡ Some h → IsHeader h × IsEntryAt (version r) r.cluster r.log_view k h

pub with_part_known : (k : ℕ) (p : Part) (r : Replica) (j : ℕ) → Spans r → r.first ≤ k → k ≤ r.checkpoint + 64 → (knows r k ≡ true → has_header p ≡ true)
    → knows r j ≡ true → knows (with_part k p r) j ≡ true
with_part_known k p r j s a b stays e =
    let sp = s.parts in
    elim (cases_eq j k) [
      | inl same ↦
          rw (same) (ap has_header (with_part_at k p r a (omega arith)) ∙ stays (subst (λ i. knows r i ≡ true) same e))
      | inr other ↦ ap has_header (with_part_other k p r j a other) ∙ e
    ]

with_part_header : (k : ℕ) (p : Part) (r : Replica) (j : ℕ) (h : Header) → IsSound r → r.first ≤ k → k ≤ r.checkpoint + 64 → MayBe k p r
    → header_of (part_at (with_part k p r) j) ≡ Some h → IsHeader h × IsEntryAt (version r) r.cluster r.log_view j h
with_part_header k p r j h sound a b may e =
    let sp = (spans_of r sound).parts in
    elim (cases_eq j k) [
      | inl same ↦
          let at : header_of (part_at (with_part k p r) k) ≡ Some h = subst (λ i. header_of (part_at (with_part k p r) i) ≡ Some h) same e in
          rw same (may h (sym (ap header_of (with_part_at k p r a (omega arith))) ∙ at))
      | inr other ↦ sound.entries.each j h (sym (ap header_of (with_part_other k p r j a other)) ∙ e)
    ]

pub roomy_part : (k : ℕ) (p : Part) (r : Replica) → IsSound r → r.first ≤ k → k ≤ r.checkpoint + 64 → (knows r k ≡ true → has_header p ≡ true) → MayBe k p r
    → Roomy (with_part k p r)
unfolding with_part
roomy_part k p r h a b stays may =
    let o = h.order in
    let s = spans_of r h in
    let q : Replica = record r { parts = set r.parts (k - r.first) p } in
    let t : Spans q = with_part_spans k p r s in
    let up : head r ≤ head q = head_least r q s t refl (λ j e. with_part_known k p r j s a b stays e) in
    let known = o.known in
    record {
      size = h.size;
      member = h.member;
      order = record { applied = o.applied; commit = o.commit; known = omega arith; window = head_within q t; views = o.views; number = o.number };
      first = h.lists.first;
      spans = t;
      ackers = h.lists.ackers ∙ sym (length-set r.parts (k - r.first) p);
      statements = h.lists.statements;
      entries = record { each = λ j g e. with_part_header k p r j g h a b may e };
      stated = record { each = h.stated.each };
      checkpoint = h.checkpoint;
      near = h.near;
      waits = h.waits;
      numbers = h.numbers;
    }

rises_with_part : (k : ℕ) (p : Part) (r : Replica) → Rises r (with_part k p r)
unfolding with_part
rises_with_part k p r = record { view = omega arith; log_view = omega arith; commit = omega arith; applied = omega arith; checkpoint = omega arith }

-- ---- an entry is stored

-- its op is in the window, and it is one of the log's view or of one before it
pub record MayStore (e : Whole) (r : Replica) : Type 0 where
  pub above : r.checkpoint < e.header.op
  pub window : e.header.op ≤ r.checkpoint + 64
  pub header : IsHeader e.header
  pub is_entry : IsEntryAt (version r) r.cluster r.log_view e.header.op e.header

may_be_here : (e : Whole) (r : Replica) → MayStore e r → MayBe e.header.op (Here e.header) r
may_be_here e r m h i = let same : e.header ≡ h = cc in subst (λ g. IsHeader g × IsEntryAt (version r) r.cluster r.log_view e.header.op g) same (m.header, m.is_entry)

pub kept_stored : (e : Whole) (r : Replica) → IsSound r → MayStore e r → Kept r (stored e r)
kept_stored e r h m =
    let k : ℕ = e.header.op in
    let reach = h.lists.reach in
    let above = m.above in
    record {
      sound = sound_forgetting (with_part k (Here e.header) r) (roomy_part k (Here e.header) r h (omega arith) m.window (λ i. refl) (may_be_here e r m));
      rises = rises_forgetting r (with_part k (Here e.header) r) (rises_with_part k (Here e.header) r);
    }

-- ---- an entry is lost

lost_few : (k : ℕ) (p : Part) (r : Replica) → IsSound r → r.first ≤ k → knows r k ≡ true → Spans (with_part k p r) → head (with_part k p r) < (with_part k p r).first + 64
unfolding with_part
lost_few k p r h a e t =
    let q : Replica = record r { parts = set r.parts (k - r.first) p } in
    let s = spans_of r h in
    let few = h.lists.few in
    let down : head q ≤ head r = head_least q r t s refl (λ j i. elim (cases_eq j k) [
      | inl same ↦ rw same e
      | inr other ↦ sym (ap has_header (with_part_other k p r j a other)) ∙ i
    ]) in
    omega arith

-- a Part that knows the header of its op may come to say something else of it
pub sound_other_part : (k : ℕ) (p : Part) (h : Header) (r : Replica) → IsSound r → header_of (part_at r k) ≡ Some h → header_of p ≡ Some h → IsSound (with_part k p r)
sound_other_part k p h r sound e i =
    let known = knows_some r k h e in
    let s = spans_of r sound in
    let w = known_within r k s known in
    let may : MayBe k p r = λ g j. let same : h ≡ g = cc in subst (λ x. IsHeader x × IsEntryAt (version r) r.cluster r.log_view k x) same (sound.entries.each k h e) in
    let roomy = roomy_part k p r sound w.0 w.1 (λ t. rw i refl) may in
    sound_few (with_part k p r) roomy (lost_few k p r sound w.0 known roomy.spans)

pub kept_lost : (k : ℕ) (h : Header) (r : Replica) → IsSound r → part_at r k ≡ Here h → Kept r (lost h r)
kept_lost k h r sound e =
    let there : header_of (part_at r k) ≡ Some h = ap header_of e in
    let op : h.op ≡ k = (sound.entries.each k h there).1.at_op in
    let at : Kept r (with_part k (Lost h) r) = record { sound = sound_other_part k (Lost h) h r sound there refl; rises = rises_with_part k (Lost h) r } in
    subst (λ i. Kept r (with_part i (Lost h) r)) (sym op) at

-- ---- a checkpoint is made

-- the head is an op
pub head_number : (r : Replica) → IsSound r → head r ≤ 2 ^ 62
head_number r h =
    let from = head_from r in
    let number = h.order.number in
    elim (cases_lt r.checkpoint (head r)) [
      | inl above ↦
          let some = some_known r (head r) (head_knows r (head r) (spans_of r h) above (omega arith)) in
          let is = (h.entries.each (head r) some.0 some.1).1 in
          let op = is.at_op in
          let top = is.entry.op.1 in
          omega arith
      | inr at ↦ omega arith
    ]

more_nothing : (ps : List Part) (n i : ℕ) → get_or (ps ++ replicate n Nothing) i Nothing ≡ get_or ps i Nothing
more_nothing ps n i =
    elim (cases_lt i (length ps)) [
      | inl within ↦ get_or_append_left ps (replicate n Nothing) Nothing i within
      | inr past ↦
          get_or-append_right ps (replicate n Nothing) (length ps) i Nothing refl past ∙ elim (cases_lt (i - length ps) n) [
            | inl l ↦ get_or-replicate n (i - length ps) Nothing Nothing l
            | inr m ↦ get_or_past (replicate n Nothing) (i - length ps) Nothing (omega (arith, length-replicate n (Nothing)))
          ] ∙ sym (get_or_past ps i Nothing past)
    ]

-- a replica whose window has moved up
abbrev pub moved : checkpoint.SavedCheckpoint → Whole → Replica → Replica
moved c e r = with_checkpoint c (applied e r)

pub moved_at : (c : checkpoint.SavedCheckpoint) (e : Whole) (r : Replica) (k : ℕ) → part_at (moved c e r) k ≡ part_at r k
unfolding with_checkpoint part_at
moved_at c e r k = ap (λ p. cond (nat_lt k r.first) Nothing p) (more_nothing r.parts (r.applied + 1 - r.checkpoint) (k - r.first))

moved_spans : (c : checkpoint.SavedCheckpoint) (e : Whole) (r : Replica) → IsSound r → Spans (moved c e r)
unfolding with_checkpoint
moved_spans c e r h =
    let reach = h.lists.reach in
    let parts = h.lists.parts in
    let low = h.order.applied in
    let n : ℕ = r.applied + 1 - r.checkpoint in
    let size = length-append r.parts (replicate n Nothing) in
    let more = length-replicate n (Nothing) in
    record { reach = omega arith; parts = omega (arith, size, more) }

pub moved_head : (c : checkpoint.SavedCheckpoint) (e : Whole) (r : Replica) → IsSound r → r.applied < r.commit → head (moved c e r) ≡ head r
unfolding with_checkpoint
moved_head c e r h a =
    let n : ℕ = r.applied + 1 - r.checkpoint in
    let q : Replica = moved c e r in
    let s = spans_of r h in
    let t : Spans q = moved_spans c e r h in
    let low = h.order.applied in
    let known = h.order.known in
    let up : head r ≤ head q = head_reaches q (head r) t (λ k b d. ap has_header (moved_at c e r k) ∙ head_knows r k s (omega arith) d) in
    let down : head q ≤ head r =
    head_reaches r (head q) s (λ k b d. elim (cases_lt (r.applied + 1) k) [
      | inl above ↦ sym (ap has_header (moved_at c e r k)) ∙ head_knows q k t above d
      | inr below ↦ head_knows r k s b (omega arith)
    ]) in
    omega (arith, up, down)

pub kept_moved : (c : checkpoint.SavedCheckpoint) (e : Whole) (r : Replica) → IsSound r → IsNumber e.header.op → r.applied < r.commit → r.missing ≡ [] → (r.applied + 1) % 32 ≡ 0 → Kept r (moved c e r)
unfolding with_checkpoint
kept_moved c e r h k a m d =
    let n : ℕ = r.applied + 1 - r.checkpoint in
    let q : Replica = moved c e r in
    let o = h.order in
    let t : Spans q = moved_spans c e r h in
    let same : head q ≡ head r = moved_head c e r h a in
    let low = o.applied in
    let known = o.known in
    let number = head_number r h in
    let first = h.lists.first in
    let few = h.lists.few in
    let acks = h.lists.ackers in
    let parts_size = length-append r.parts (replicate n Nothing) in
    let parts_more = length-replicate n (Nothing) in
    let acks_size = length-append r.ackers (replicate n no_replicas) in
    let acks_more = length-replicate n no_replicas in
    let roomy : Roomy q = record {
      size = h.size;
      member = h.member;
      order = record { applied = omega arith; commit = omega arith; known = omega (arith, same); window = head_within q t; views = o.views; number = omega arith };
      first = first;
      spans = t;
      ackers = omega (arith, parts_size, parts_more, acks_size, acks_more);
      statements = h.lists.statements;
      entries = record { each = λ k g i. h.entries.each k g (sym (ap header_of (moved_at c e r k)) ∙ i) };
      stated = record { each = h.stated.each };
      checkpoint = d;
      near = omega arith;
      waits = λ i. absurd (i m);
      numbers = numbers_kept r.state e h.numbers k;
    } in
    record {
      sound = sound_few q roomy (omega (arith, same));
      rises = record { view = omega arith; log_view = omega arith; commit = omega arith; applied = omega arith; checkpoint = omega arith };
    }

pub kept_applied : (e : Whole) (r : Replica) → IsSound r → IsNumber e.header.op → r.applied < r.commit → r.missing ≡ [] → ((r.applied + 1) % 32 ≡ 0 → ⊥) → Kept r (applied e r)
kept_applied e r h k a m d =
    let near = h.near in
    let low = h.order.applied in
    let base = h.checkpoint in
    let more : r.applied + 1 < r.checkpoint + 32 = elim (cases_lt (r.applied + 1) (r.checkpoint + 32)) [
      | inl l ↦ l
      | inr g ↦ let at : r.applied + 1 ≡ r.checkpoint + 32 = omega arith in absurd (d (omega (arith, at, base)))
    ] in
    record {
      sound = sound_state (record r { applied = r.applied + 1 }) (state.applied r.state e).state (numbers_kept r.state e h.numbers k) (sound_applied r a m more h);
      rises = record { view = omega arith; log_view = omega arith; commit = omega arith; applied = omega arith; checkpoint = omega arith };
    }
