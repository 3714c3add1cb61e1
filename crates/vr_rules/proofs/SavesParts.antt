-- Changes of Parts leave what can be saved.
use Rattle.std.proofs.Common.{arith, ◌≡◌, ◌⊎◌, ◌≤◌, ◌<◌, ◌+◌, ◌-◌, ◌^◌, inl, inr, refl, sym, ap, ◌∙◌, subst, ℕ, true, List, Some, is_some}
use Rattle.std.specs.Prelude.{nat_lt, nat_le, nat_eq, ◌&&◌, ◌||◌}
use Rattle.std.proofs.lemmas.Bool.{and_parts, or_cases, cases_lt, ltb-true, eqb-true, le-leb}
use Rattle.vr_ckpt.specs.declared.saving.SavedCheckpoint as checkpoint
use Rattle.vr_header.specs.declared.header.Header.{Header}
use Rattle.vr_header.specs.declared.part.Part.{Part}
use Rattle.vr_header.specs.declared.part.Part.TheVariants.{Here, Lost}
use Rattle.vr_header.specs.Made.{Whole}
use Rattle.vr_header.specs.Parts.{header_of, has_header}
use Rattle.vr_rules.specs.Replica.{Replica, part_at, head, header_at, forgetting, with_part, knows}
use Rattle.vr_rules.specs.Words.{Log, stored, lost, entered, with_checkpoint, taken, taken_part, fits, is_newer, is_chain, may_take}
use Rattle.vr_rules.specs.Sound.{IsNameBytes, IsSound, IsSavable}
use Rattle.vr_rules.proofs.Heads.{Spans, known_within, head_from, head_knows, head_least, head_reaches, with_part_spans, forgetting_at, forgetting_head, remade_at}
use Rattle.vr_rules.proofs.Keeping.{spans_of}
use Rattle.vr_rules.proofs.Storing.{MayStore, with_part_known, moved, moved_at, moved_head}
use Rattle.vr_rules.specs.Given.{IsLogFor}
use Rattle.vr_rules.proofs.Taking.{MayTake, over, over_at, over_spans, taken_known}

abbrev pub Topped : Replica → Type 0
Topped r = 0 < head r → knows r (head r) ≡ true

-- a greater head, and what is known of the checkpoint's op stays
topped_later : (r q : Replica) → Spans q → q.checkpoint ≡ r.checkpoint → head r ≤ head q → (knows r r.checkpoint ≡ true → knows q r.checkpoint ≡ true) → Topped r → Topped q
topped_later r q t c up stays h some =
    let from = head_from q in
    let low = head_from r in
    elim (cases_lt q.checkpoint (head q)) [
      | inl above ↦ head_knows q (head q) t above (omega arith)
      | inr at ↦
          let end : r.checkpoint ≡ head q = omega arith in
          let same : head r ≡ r.checkpoint = omega arith in
          let known : knows r r.checkpoint ≡ true = subst (λ k. knows r k ≡ true) same (h (omega arith)) in
          subst (λ k. knows q k ≡ true) end (stays known)
    ]

pub topped_part : (k : ℕ) (p : Part) (r : Replica) → Spans r → r.first ≤ k → k ≤ r.checkpoint + 64 → has_header p ≡ true → Topped r → Topped (with_part k p r)
unfolding with_part
topped_part k p r s a b is h =
    let t = with_part_spans k p r s in
    topped_later r (with_part k p r) t refl (head_least r (with_part k p r) s t refl (λ j e. with_part_known k p r j s a b (λ _. is) e)) (λ e. with_part_known k p r r.checkpoint s a b (λ _. is) e) h

pub topped_forgetting : (r : Replica) → Spans r → Topped r → Topped (forgetting r)
topped_forgetting r s h some =
    let same = forgetting_head r s in
    let known = h (omega (arith, same, some)) in
    let within = known_within r (head r) s known in
    let first = within.0 in
    let at : knows (forgetting r) (head r) ≡ true = ap has_header (forgetting_at r (head r) (omega arith)) ∙ known in
    subst (λ k. knows (forgetting r) k ≡ true) (sym same) at

-- ---- an entry is stored, or lost

pub savable_stored : (e : Whole) (r : Replica) → IsSound r → MayStore e r → IsSavable r → IsSavable (stored e r)
unfolding forgetting with_part
savable_stored e r h m v =
    let s = spans_of r h in
    let k : ℕ = e.header.op in
    let reach = s.reach in
    let above = m.above in
    let top : Topped (stored e r) =
    topped_forgetting (with_part k (Here e.header) r) (with_part_spans k (Here e.header) r s) (topped_part k (Here e.header) r s (omega arith) m.window refl v.top) in
    record { cluster = v.cluster; view = v.view; log_view = v.log_view; address = v.address; name = v.name; none = v.none; saved = v.saved; top = top }

pub savable_part : (k : ℕ) (p : Part) (r : Replica) → IsSavable r → Topped (with_part k p r) → IsSavable (with_part k p r)
unfolding with_part
savable_part k p r v top = record { cluster = v.cluster; view = v.view; log_view = v.log_view; address = v.address; name = v.name; none = v.none; saved = v.saved; top = top }

pub savable_lost : (k : ℕ) (h : Header) (r : Replica) → IsSound r → part_at r k ≡ Here h → IsSavable r → IsSavable (lost h r)
savable_lost k h r sound e v =
    let there : header_of (part_at r k) ≡ Some h = ap header_of e in
    let op : h.op ≡ k = (sound.entries.each k h there).1.at_op in
    let s = spans_of r sound in
    let within = known_within r k s (ap has_header e) in
    savable_part h.op (Lost h) r v (topped_part h.op (Lost h) r s (rw op within.0) (rw op within.1) refl v.top)

-- ---- a view is entered

pub savable_entered : (view : ℕ) (r : Replica) → view < 2 ^ 32 → IsSavable r → IsSavable (entered view r)
unfolding entered head part_at
savable_entered view r l v = record { cluster = v.cluster; view = l; log_view = v.log_view; address = v.address; name = v.name; none = v.none; saved = v.saved; top = v.top }

-- ---- a checkpoint is made

pub topped_moved : (c : checkpoint.SavedCheckpoint) (e : Whole) (r : Replica) → IsSound r → r.applied < r.commit → Topped (moved c e r)
topped_moved c e r h a some =
    let same = moved_head c e r h a in
    let known = h.order.known in
    let low = h.order.applied in
    let at : knows (moved c e r) (head r) ≡ true = ap has_header (moved_at c e r (head r)) ∙ head_knows r (head r) (spans_of r h) (omega arith) (omega arith) in
    subst (λ k. knows (moved c e r) k ≡ true) (sym same) at

pub savable_move : (c : checkpoint.SavedCheckpoint) (r : Replica) → c.root.address < 128 → IsNameBytes c.root.sum.0 → 0 < r.applied → IsSavable r → Topped (with_checkpoint c r) → IsSavable (with_checkpoint c r)
unfolding with_checkpoint
savable_move c r a b some v top =
    record { cluster = v.cluster; view = v.view; log_view = v.log_view; address = a; name = b; none = λ e. absurd (omega (arith, e, some)); saved = v.saved; top = top }

-- ---- a log is taken over

-- where it ends
ends_known : (hash : List ℕ → List ℕ) (l : Log) (r : Replica) → may_take hash l r ≡ true → (r.checkpoint < l.head) ⊎ ((l.head ≡ 0) ⊎ (knows r l.head ≡ true))
unfolding may_take
ends_known hash l r e =
    let a = and_parts (is_newer l r) (fits l r && is_chain hash l.headers) e in
    let b = and_parts (fits l r) (is_chain hash l.headers) a.1 in
    let c = and_parts (nat_le l.head (r.checkpoint + 64)) _ b.0 in
    let d = and_parts (nat_le l.lo r.commit) _ c.1 in
    let g = and_parts (nat_le r.commit l.head) _ d.1 in
    elim (or_cases (nat_lt r.checkpoint l.head) (nat_eq l.head 0 || is_some (header_at r l.head)) g.1) [
      | inl above ↦ inl (ltb-true r.checkpoint l.head above)
      | inr rest ↦ elim (or_cases (nat_eq l.head 0) (is_some (header_at r l.head)) rest) [
        | inl none ↦ inr (inl (eqb-true l.head 0 none))
        | inr known ↦ inr (inr known)
      ]
    ]

-- nothing changes up to the checkpoint
old_part : (l : Log) (r : Replica) (k : ℕ) → k ≤ r.checkpoint → taken_part l r k ≡ part_at r k
unfolding taken_part
old_part l r k a = rw (le-leb k r.checkpoint a) refl

-- at the head there is a known header
taken_top : (l : Log) (r : Replica) → IsSound r → IsLogFor r l → MayTake l r → (r.checkpoint < l.head) ⊎ ((l.head ≡ 0) ⊎ (knows r l.head ≡ true)) → Topped (over l r)
taken_top l r h log m ends some =
    let q : Replica = over l r in
    let s = spans_of r h in
    let t : Spans q = over_spans l r s in
    let from = head_from q in
    let reach = s.reach in
    let parts = s.parts in
    let room = m.room in
    let reaches = m.reaches in
    let low = h.order.applied in
    let below = h.order.commit in
    let up : l.head ≤ head q = head_reaches q l.head t (λ k a b. ap has_header (over_at l r k ∙ remade_at (taken_part l r) r k (omega arith) (omega arith)) ∙ taken_known l r k h log m a b) in
    elim (cases_lt r.checkpoint (head q)) [
      | inl above ↦ head_knows q (head q) t above (omega arith)
      | inr at ↦ elim ends [
        | inl more ↦ absurd (omega arith)
        | inr rest ↦ elim rest [
          | inl zero ↦ absurd (omega arith)
          | inr known ↦
              let end : l.head ≡ r.checkpoint = omega arith in
              let same : head q ≡ r.checkpoint = omega arith in
              let there : knows r r.checkpoint ≡ true = subst (λ k. knows r k ≡ true) end known in
              let within = known_within r r.checkpoint s there in
              let first = within.0 in
              let stays : taken_part l r r.checkpoint ≡ part_at r r.checkpoint = old_part l r r.checkpoint (omega arith) in
              let here = ap has_header (over_at l r r.checkpoint ∙ remade_at (taken_part l r) r r.checkpoint (omega arith) (omega arith) ∙ stays) ∙ there in
              subst (λ k. knows q k ≡ true) (sym same) here
        ]
      ]
    ]

savable_over : (l : Log) (r : Replica) → l.view < 2 ^ 32 - 1 → IsSavable r → Topped (forgetting (over l r)) → IsSavable (forgetting (over l r))
unfolding forgetting
savable_over l r b v top = record { cluster = v.cluster; view = omega arith; log_view = b; address = v.address; name = v.name; none = v.none; saved = v.saved; top = top }

pub savable_taken : (hash : List ℕ → List ℕ) (l : Log) (r : Replica) → IsSound r → IsLogFor r l → MayTake l r → may_take hash l r ≡ true → l.view < 2 ^ 32 - 1 → IsSavable r → IsSavable (taken l r)
unfolding taken
savable_taken hash l r h log m may b v =
    savable_over l r b v (topped_forgetting (over l r) (over_spans l r (spans_of r h)) (taken_top l r h log m (ends_known hash l r may)))
