-- A log that is taken over leaves a sound replica.
use Rattle.std.proofs.Common.{ℕ, ◌+◌, ◌-◌, ◌≤◌, ◌<◌, ◌≡◌, ◌∙◌, zero, suc, inl, inr, arith, refl, sym, ap, subst, Bool, true, false, cond, List, [], ◌∷◌, length, map, max, Option, Some, None, rules}
use Rattle.std.specs.Prelude.{slice_get, nat_lt, nat_le, ◌&&◌, ◌||◌, ◌==◌}
use Rattle.std.specs.List.{range_with_len}
use Rattle.std.specs.Option.{option_map_or}
use Rattle.std.proofs.lemmas.Bool.{and_parts, or_cases, cases_lt, le-leb, lt-leb, leb-true, ltb-true, eqb-true}
use Rattle.std.proofs.lemmas.List.{length-replicate}
use Rattle.std.proofs.lemmas.List.FromFn.{length-map-range_with_len}
use Rattle.vr_base.specs.Replicas.{no_replicas}
use Rattle.vr_header.specs.declared.header.Header.{Header}
use Rattle.vr_header.specs.declared.part.Part.{Part}
use Rattle.vr_header.specs.declared.part.Part.TheVariants.{Here, Lost, Wanted, Unknown, Nothing}
use Rattle.vr_header.specs.Same.{same_header}
use Rattle.vr_header.specs.Spelling.{IsHeader}
use Rattle.vr_header.proofs.SameHeaders.{same_header_is}
use Rattle.vr_header.specs.Parts.{has_header, header_of}
use Rattle.vr_msg.specs.Logs.{IsEntryAt}
use Rattle.vr_rules.specs.Replica.{Replica, part_at, head, version}
use Rattle.vr_rules.specs.Steps.{Setting}
use Rattle.vr_rules.specs.Words.{Log, is_newer, fits, is_chain, may_take, log_header, replaced_by, taken_part, taken, no_ackers, no_statements, save, take}
use Rattle.vr_rules.specs.Sound.{IsSound}
use Rattle.vr_rules.proofs.Heads.{Spans, knows_some, head_within, head_knows, head_reaches, remade, remade_spans, remade_at, remade_known}
use Rattle.vr_rules.proofs.Keeping.{Kept, Roomy, spans_of, sound_forgetting, rises_forgetting}
use Rattle.vr_rules.proofs.Combining.{KeptBy, kept_change_then}
use Rattle.vr_rules.proofs.Wording.{none_stated, keeps_save}
use Rattle.vr_rules.specs.Given.{IsLogFor}

-- what the test says
pub record MayTake (l : Log) (r : Replica) : Type 0 where
  pub view : r.view ≤ l.view
  pub room : l.head ≤ r.checkpoint + 64
  pub lo : l.lo ≤ r.commit
  pub reaches : r.commit ≤ l.head

pub newer_view : (l : Log) (r : Replica) → is_newer l r ≡ true → r.view ≤ l.view
newer_view l r e =
    elim (or_cases (nat_lt r.view l.view) ((l.view == r.view) && (nat_lt r.log_view l.view || ((l.view == r.log_view) && nat_lt (head r) l.head))) e) [
      | inl t ↦ let l = ltb-true r.view l.view t in omega arith
      | inr t ↦ let same = eqb-true l.view r.view (and_parts (l.view == r.view) _ t).0 in omega arith
    ]

pub may_take_is : (hash : List ℕ → List ℕ) (l : Log) (r : Replica) → may_take hash l r ≡ true → MayTake l r
unfolding may_take
may_take_is hash l r e =
    let a = and_parts (is_newer l r) (fits l r && is_chain hash l.headers) e in
    let b = and_parts (fits l r) (is_chain hash l.headers) a.1 in
    let c = and_parts (nat_le l.head (r.checkpoint + 64)) _ b.0 in
    let d = and_parts (nat_le l.lo r.commit) _ c.1 in
    let g = and_parts (nat_le r.commit l.head) _ d.1 in
    record {
      view = newer_view l r a.0;
      room = leb-true l.head (r.checkpoint + 64) c.0;
      lo = leb-true l.lo r.commit d.0;
      reaches = leb-true r.commit l.head g.0;
    }

-- ---- Parts

replaced_here : (e h : Header) (b : Bool) → same_header h e ≡ b → header_of (cond b (Here h) (Wanted e)) ≡ Some e
replaced_here e h true t = ap Some (same_header_is h e t)
replaced_here e h false t = refl

replaced_lost : (e h : Header) (b : Bool) → same_header h e ≡ b → header_of (cond b (Lost h) (Wanted e)) ≡ Some e
replaced_lost e h true t = ap Some (same_header_is h e t)
replaced_lost e h false t = refl

pub replaced_header : (e : Header) (p : Part) → header_of (replaced_by e p) ≡ Some e
replaced_header e (Here h) = replaced_here e h (same_header h e) refl
replaced_header e (Lost h) = replaced_lost e h (same_header h e) refl
replaced_header e (Wanted h) = refl
replaced_header e Unknown = refl
replaced_header e Nothing = refl

-- the header of a Part is as it was, or the log's
data TakenFrom (l : Log) (r : Replica) (k : ℕ) (p : Part) : Type 0 where
  old : header_of p ≡ header_of (part_at r k) → TakenFrom l r k p
  new : (e : Header) → log_header l k ≡ Some e → header_of p ≡ Some e → TakenFrom l r k p
  none : l.head < k → header_of p ≡ None → TakenFrom l r k p

from_log : (l : Log) (r : Replica) (k : ℕ) (o : Option Header) → log_header l k ≡ o → TakenFrom l r k (option_map_or (λ e. replaced_by e (part_at r k)) o (part_at r k))
from_log l r k None i = old refl
from_log l r k (Some e) i = new e i (replaced_header e (part_at r k))

from_above : (l : Log) (r : Replica) (k : ℕ) (b : Bool) → l.head < k → TakenFrom l r k (cond b Nothing (part_at r k))
from_above l r k true i = none i refl
from_above l r k false i = old refl

taken_from : (l : Log) (r : Replica) (k : ℕ) → TakenFrom l r k (taken_part l r k)
unfolding taken_part
taken_from l r k =
    elim (cases_lt r.checkpoint k) [
      | inr low ↦ rw (le-leb k r.checkpoint low) (old refl)
      | inl above ↦
          rw (lt-leb k r.checkpoint above) (elim (cases_lt l.head k) [
            | inl past ↦ rw (lt-leb k l.head past) (from_above l r k (nat_lt r.log_view l.view) past)
            | inr within ↦ rw (le-leb k l.head within) (from_log l r k (log_header l k) refl)
          ])
    ]

pub log_header_at : (l : Log) (k : ℕ) → l.lo < k → log_header l k ≡ slice_get l.headers (k - (l.lo + 1))
log_header_at l k a = rw (lt-leb k l.lo a) refl

pub log_header_is : (l : Log) (r : Replica) (k : ℕ) (e : Header) → IsLogFor r l → log_header l k ≡ Some e → IsHeader e × IsEntryAt (version r) r.cluster l.view k e
log_header_is l r k e log i =
    elim (cases_lt l.lo k) [
      | inl above ↦
          let place : l.lo + 1 + (k - (l.lo + 1)) ≡ k = omega arith in
          subst (λ j. IsHeader e × IsEntryAt (version r) r.cluster l.view j e) place (log.each (k - (l.lo + 1)) e (sym (log_header_at l k above) ∙ i))
      | inr low ↦ let no_header : None ≡ Some e = rw (le-leb k l.lo low) at i in cc
    ]

pub later : (v cluster last most op : ℕ) (h : Header) → last ≤ most → IsEntryAt v cluster last op h → IsEntryAt v cluster most op h
later v cluster last most op h l is = let made = is.made in record { entry = is.entry; of_version = is.of_version; of_group = is.of_group; at_op = is.at_op; made = omega arith }

taken_entry : (l : Log) (r : Replica) (k : ℕ) (h : Header) → IsSound r → IsLogFor r l → r.log_view ≤ l.view → header_of (taken_part l r k) ≡ Some h
    → IsHeader h × IsEntryAt (version r) r.cluster l.view k h
taken_entry l r k h sound log v e =
    elim (taken_from l r k) [
      | old i ↦ let is = sound.entries.each k h (sym i ∙ e) in (is.0, later (version r) r.cluster r.log_view l.view k h v is.1)
      | new g at i ↦ let same : g ≡ h = search (rules, i, e) in subst (λ x. IsHeader x × IsEntryAt (version r) r.cluster l.view k x) same (log_header_is l r k g log at)
      | none past i ↦ let no_header : None ≡ Some h = sym i ∙ e in absurd cc
    ]

pub log_reaches : {X : Type 0} (xs : List X) (i : ℕ) → i < length xs → (x : X) × (slice_get xs i ≡ Some x)
log_reaches [] i l = absurd (omega arith)
log_reaches (x ∷ xs) zero l = (x, refl)
log_reaches (x ∷ xs) (suc i) l = log_reaches xs i (omega arith)

-- each op up to the log's end is known
pub taken_known : (l : Log) (r : Replica) (k : ℕ) → IsSound r → IsLogFor r l → MayTake l r → r.checkpoint < k → k ≤ l.head → has_header (taken_part l r k) ≡ true
unfolding taken_part
taken_known l r k sound log m a b =
    let count = log.count in
    let lo = m.lo in
    let known = sound.order.known in
    rw (lt-leb k r.checkpoint a, le-leb k l.head b) (elim (cases_lt l.lo k) [
      | inl above ↦
          let there = log_reaches l.headers (k - (l.lo + 1)) (omega arith) in
          let at : log_header l k ≡ Some there.0 = log_header_at l k above ∙ there.1 in
          rw at (rw (replaced_header there.0 (part_at r k)) refl)
      | inr low ↦ rw (le-leb k l.lo low) (head_knows r k (spans_of r sound) a (omega arith))
    ])

-- before ops are forgotten
abbrev pub over : Log → Replica → Replica
over l r = record r {
  view = l.view;
  log_view = l.view;
  idle = 0;
  parts = map (taken_part l r) (range_with_len r.first (length r.parts));
  ackers = no_ackers r;
  heard = no_replicas;
  statements = no_statements r;
  commit = max r.commit l.commit;
}

pub over_at : (l : Log) (r : Replica) (k : ℕ) → part_at (over l r) k ≡ part_at (remade (taken_part l r) r) k
unfolding part_at
over_at l r k = refl

pub over_spans : (l : Log) (r : Replica) → Spans r → Spans (over l r)
over_spans l r s = let t = remade_spans (taken_part l r) r s in record { reach = t.reach; parts = t.parts }

roomy_over : (l : Log) (r : Replica) → IsSound r → IsLogFor r l → MayTake l r → Roomy (over l r)
roomy_over l r h log m =
    let o = h.order in
    let s = spans_of r h in
    let q : Replica = over l r in
    let t : Spans q = over_spans l r s in
    let parts = s.parts in
    let first = h.lists.reach in
    let low = o.applied in
    let below = o.commit in
    let reaches = m.reaches in
    let room = m.room in
    let committed = log.commit in
    let view = m.view in
    let views = o.views in
    let up : l.head ≤ head q =
    head_reaches q l.head t (λ k a b.
    ap has_header (over_at l r k ∙ remade_at (taken_part l r) r k (omega arith) (omega arith)) ∙ taken_known l r k h log m a b) in
    record {
      size = h.size;
      member = h.member;
      order = record { applied = o.applied; commit = omega arith; known = omega arith; window = head_within q t; views = omega arith; number = o.number };
      first = h.lists.first;
      spans = t;
      ackers = length-replicate (length r.parts) no_replicas ∙ sym (length-map-range_with_len (taken_part l r) r.first (length r.parts));
      statements = length-replicate r.n None;
      entries = record {
        each = λ k g e.
            let there : header_of (part_at (remade (taken_part l r) r) k) ≡ Some g = sym (ap header_of (over_at l r k)) ∙ e in
            let at = remade_known (taken_part l r) r k s (knows_some (remade (taken_part l r) r) k g there) in
            taken_entry l r k g h log (omega arith) (sym (ap header_of at) ∙ there);
      };
      stated = record { each = λ i g e. absurd (none_stated r.n i g e) };
      checkpoint = h.checkpoint;
      near = h.near;
      waits = h.waits;
      numbers = h.numbers;
    }

pub kept_taken : (l : Log) (r : Replica) → IsSound r → IsLogFor r l → MayTake l r → Kept r (taken l r)
unfolding taken
kept_taken l r h log m =
    let view = m.view in
    let views = h.order.views in
    record {
      sound = sound_forgetting (over l r) (roomy_over l r h log m);
      rises = rises_forgetting r (over l r) (record { view = omega arith; log_view = omega arith; commit = omega arith; applied = omega arith; checkpoint = omega arith });
    }

pub kept_take : {F : Type 0} (l : Log) (s : Setting F) (r : Replica) (f : F) → IsSound r → IsLogFor r l → MayTake l r → KeptBy (take l) s r f
unfolding take
kept_take l s r f h log m = let k = kept_taken l r h log m in kept_change_then (taken l) save s r f k (λ d. keeps_save.every s (taken l r) d k.sound)
