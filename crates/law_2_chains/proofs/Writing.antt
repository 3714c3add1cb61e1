-- Write: an entry is stored. The machine begins a write, ends it, finds the entry lost, and forgets.
use Rattle.std.proofs.Common.{ℕ, suc, ◌+◌, ◌-◌, ◌%◌, ◌≤◌, ◌<◌, ◌≡◌, ◌≢◌, ◌∙◌, ◌⊎◌, inl, inr, arith, refl, sym, ap, subst, Bool, true, false, cond, [], ◌∷◌, length, get_or, set, Option, Some, None, is_some, rules}
use Rattle.std.proofs.lemmas.Bool.{cases_eq, cases_lt, true≢false}
use Rattle.std.proofs.lemmas.List.{get_or-drop, get_or-set_same, get_or-set_other, length-set}
use Rattle.vr_base.specs.Replicas.{no_replicas}
use Rattle.vr_header.specs.declared.header.Header.{Header}
use Rattle.vr_header.specs.declared.part.Part.{Part}
use Rattle.vr_header.specs.declared.part.Part.TheVariants.{Here, Lost, Wanted, Unknown, Nothing}
use Rattle.vr_header.specs.Made.{Whole}
use Rattle.vr_header.specs.Same.{same_header}
use Rattle.vr_header.proofs.SameHeaders.{same_header_of}
use Rattle.vr_header.specs.Parts.{has_header, header_of}
use Rattle.vr_rules.specs.Replica.{Replica, ackers_at, part_at, head, forgetting, with_part}
use Rattle.vr_rules.specs.Steps.{Effect, Setting, Word, ◌⨾◌, change, does, after_all}
use Rattle.vr_rules.specs.Words.{may_be_stored, writes, stored, write}
use Rattle.vr_rules.specs.Sound.{IsSound}
use Rattle.vr_rules.proofs.Heads.{Spans, known_within, knows_some, some_known, head_from, head_within, head_knows, head_reaches, head_stops, head_least, with_part_spans, with_part_at, with_part_other, forgetting_spans, forgetting_at, forgetting_before, gone, forgetting_known, forgetting_head}
use Rattle.vr_rules.proofs.Keeping.{spans_of}
use Rattle.vr_rules.proofs.Storing.{MayStore, kept_stored, with_part_known}
use Rattle.vr_world.specs.Group as group
use Rattle.law_1_machine.specs.Basics.{update}
use Rattle.law_1_machine.specs.Group.{Group, Member, becomes}
use Rattle.law_1_machine.specs.Members.{Memory}
use Rattle.law_1_machine.specs.Opening.{Reaches}
use Rattle.law_1_machine.specs.Parts as part
use Rattle.law_1_machine.specs.Parts.{header, denied}
use Rattle.law_1_machine.specs.Machine as move
use Rattle.law_1_machine.specs.Machine.{MayWrite, is_known, was_prepared, was_made}
use Rattle.law_1_machine.proofs.Counting.{here, elsewhere, at_update}
use Rattle.law_2_chains.specs.Local.{Local, begun, through}
use Rattle.law_2_chains.specs.Reflecting.{entries_by, told_of, Reflects, IsDisk, KeepsStored}
use Rattle.law_2_chains.specs.Chains.{Setup, Every, AsksNothing, WasMade, Under, Mid, Goes}
use Rattle.law_2_chains.proofs.Scripts.{every_append}
use Rattle.law_2_chains.proofs.Readying.{free_ready}
use Rattle.law_2_chains.proofs.Moving.{memory_at, under_moves, stops, mid_runs}
use Rattle.law_2_chains.proofs.Making.{written_made}

pub told_header : (p : Part) → header (told_of p) ≡ header_of p
told_header (Here h) = refl
told_header (Lost h) = refl
told_header (Wanted h) = refl
told_header Unknown = refl
told_header Nothing = refl

pub none_known : {X : Type 0} (o : Option X) → (is_some o ≡ true → ⊥) → o ≡ None
none_known None f = refl
none_known (Some x) f = absurd (f refl)

pub told_not_here : (p : Part) (x : Header) → told_of p ≡ part.Here x → ⊥
told_not_here (Here h) x e = cc
told_not_here (Lost h) x e = cc
told_not_here (Wanted h) x e = cc
told_not_here Unknown x e = cc
told_not_here Nothing x e = cc

-- ---- the slot

pub disk_writes : (k : ℕ) (o : Option Header) (m : group.Member) (z : Member Header) → IsDisk m z → IsDisk (group.with_kept k o m) (record z { slots = update z.slots (k % 64) o })
disk_writes k o m z d =
    let size = d.size in
    record {
      last = d.last;
      under = d.under;
      slots = λ s. at_update (λ x. x ≡ get_or (set m.kept (k % 64) o) s None) z.slots (k % 64) o s
          (λ e. rw e (sym (get_or-set_same m.kept (k % 64) o None (omega arith))))
          (λ n. d.slots s ∙ sym (get_or-set_other m.kept (k % 64) s o None n));
      size = length-set m.kept (k % 64) o ∙ d.size;
    }

-- what a slot may hold while it is written
abbrev pub under_write : Bool → Header → Option Header → Option Header
under_write = group.kept_under

pub under_is : (again : Bool) (h : Header) (o : Option Header) → (under_write again h o ≡ None) ⊎ (under_write again h o ≡ o)
under_is again h None = inl refl
under_is true h (Some d) = elim (same_header d h) as (λ b. (cond b (Some d) None ≡ None) ⊎ (cond b (Some d) None ≡ Some d)) [ true ↦ inr refl | false ↦ inl refl ]
under_is false h (Some d) = inl refl

pub under_keeps : (h : Header) → under_write true h (Some h) ≡ Some h
under_keeps h = rw (same_header_of h h refl) refl

-- what isn't denied, and isn't here, may be stored
told_stored : (p : Part) → denied (told_of p) ≡ false → may_be_stored p ≡ true
told_stored (Here h) e = refl
told_stored (Lost h) e = refl
told_stored (Wanted h) e = absurd (true≢false e)
told_stored Unknown e = refl
told_stored Nothing e = absurd (true≢false e)

may_still : (u : Setup) (s : Group Header) (i k : ℕ) (z : Member Header) (m : Memory Header) (e : Header) → MayWrite u.quorums (entries_by u.hash u.cluster) s m k e
    → MayWrite u.quorums (entries_by u.hash u.cluster) (becomes s i z) m k e
may_still u s i k z m e (is_known h) = is_known h
may_still u s i k z m e (was_prepared from c h) = was_prepared from c h
may_still u s i k z m e (was_made h) = was_made h

-- what is stored once ops are forgotten was stored before
pub held_before : (r : Replica) (k : ℕ) (h : Header) → part_at (forgetting r) k ≡ Here h → part_at r k ≡ Here h
held_before r k h e =
    elim (cases_lt k (r.first + gone r)) [
      | inl before ↦ let none : Nothing ≡ Here h = sym (forgetting_before r k before) ∙ e in absurd cc
      | inr from ↦ sym (forgetting_at r k from) ∙ e
    ]

-- ---- the replica with the entry

module _ (e : Whole) (r : Replica) (sound : IsSound r) (may : MayStore e r) where
  -- before ops are forgotten
  abbrev pub with_it : Replica
  with_it = with_part e.header.op (Here e.header) r

  within : (r.first ≤ e.header.op) × (e.header.op < r.first + length r.parts)
  within =
      let reach = sound.lists.reach in
      let above = may.above in
      let window = may.window in
      let parts = sound.lists.parts in
      (omega arith, omega arith)

  pub spans_it : Spans with_it
  spans_it = with_part_spans e.header.op (Here e.header) r (spans_of r sound)

  it_at : part_at with_it e.header.op ≡ Here e.header
  it_at = with_part_at e.header.op (Here e.header) r within.0 within.1

  pub it_other : (j : ℕ) → j ≢ e.header.op → part_at with_it j ≡ part_at r j
  it_other j n = with_part_other e.header.op (Here e.header) r j within.0 n

  it_up : head r ≤ head with_it
  unfolding with_part
  it_up = head_least r with_it (spans_of r sound) spans_it refl (λ j t. with_part_known e.header.op (Here e.header) r j (spans_of r sound) within.0 may.window (λ i. refl) t)

  it_checkpoint : with_it.checkpoint ≡ r.checkpoint
  unfolding with_part
  it_checkpoint = refl

  pub stored_at : (j : ℕ) → r.checkpoint < j → part_at (stored e r) j ≡ part_at with_it j
  unfolding forgetting with_part
  stored_at j a =
      let low = (forgetting_spans with_it spans_it).reach in
      forgetting_at with_it j (omega arith)

  pub stored_here : part_at (stored e r) e.header.op ≡ Here e.header
  stored_here = stored_at e.header.op may.above ∙ it_at

  pub stored_views : ((stored e r).view ≡ r.view) × ((stored e r).log_view ≡ r.log_view)
  unfolding forgetting with_part
  stored_views = (refl, refl)

  stored_head : head (stored e r) ≡ head with_it
  stored_head = forgetting_head with_it spans_it

  -- the head doesn't fall, and comes to the entry where that is the next
  pub stored_up : head r ≤ head (stored e r)
  stored_up = let a = it_up in let b = stored_head in omega arith

  it_knows : (k : ℕ) → e.header.op ≡ head r + 1 → r.checkpoint < k → k ≤ e.header.op → has_header (part_at with_it k) ≡ true
  it_knows k next a b =
      elim (cases_eq k e.header.op) [
        | inl t ↦ subst (λ j. has_header (part_at with_it j) ≡ true) (sym t) (ap has_header it_at)
        | inr n ↦ ap has_header (it_other k n) ∙ head_knows r k (spans_of r sound) a (omega (arith, next, b, n))
      ]

  pub stored_next : e.header.op ≡ head r + 1 → e.header.op ≤ head (stored e r)
  stored_next next =
      let c = it_checkpoint in
      let top = head_reaches with_it e.header.op spans_it (λ k a b. it_knows k next (omega arith) b) in
      let b = stored_head in
      omega arith

  -- who has acknowledged an op stays, and every other op
  pub stored_ackers : (k : ℕ) → r.checkpoint < k → ackers_at (stored e r) k ≡ ackers_at r k
  unfolding forgetting with_part
  stored_ackers k above =
      let low = (forgetting_spans with_it spans_it).reach in
      let gone : ℕ = head with_it - 63 - r.first in
      let place : gone + (k - (r.first + gone)) ≡ k - r.first = omega arith in
      get_or-drop gone r.ackers (k - (r.first + gone)) no_replicas ∙ ap (λ j. get_or r.ackers j no_replicas) place

  pub stored_other : (k : ℕ) → r.checkpoint < k → k ≢ e.header.op → part_at (stored e r) k ≡ part_at r k
  stored_other k above n = stored_at k above ∙ it_other k n

  -- what is stored then was stored, or it is the entry
  pub stored_held : (k : ℕ) (h : Header) → part_at (stored e r) k ≡ Here h → (part_at r k ≡ Here h) ⊎ ((h ≡ e.header) × (e.header.op ≡ k))
  unfolding forgetting with_part
  stored_held k h is =
      elim (cases_eq k e.header.op) [
        | inl same ↦ let at : Here e.header ≡ Here h = sym stored_here ∙ subst (λ j. part_at (stored e r) j ≡ Here h) same is in inr (cc, sym same)
        | inr other ↦ inl (sym (it_other k other) ∙ held_before with_it k h is)
      ]

  pub stored_fields : ((stored e r).index ≡ r.index) × ((stored e r).commit ≡ r.commit) × ((stored e r).n ≡ r.n)
  unfolding forgetting with_part
  stored_fields = (refl, refl, refl)

  -- the machine's parts, once the write has ended
  it_header : (parts : ℕ → part.Part Header) (x : part.Part Header) → header x ≡ Some e.header → ((j : ℕ) → parts j ≡ told_of (part_at r j)) → (j : ℕ)
      → header (update parts e.header.op x j) ≡ header_of (part_at with_it j)
  it_header parts x is same j =
      at_update (λ y. header y ≡ header_of (part_at with_it j)) parts e.header.op x j
      (λ t. rw t (is ∙ sym (ap header_of it_at)))
      (λ n. ap header (same j) ∙ told_header (part_at r j) ∙ sym (ap header_of (it_other j n)))

  it_reaches : (m : Memory Header) → Reflects r m → Reaches m.checkpoint m.checkpoint (update m.parts e.header.op (part.Here e.header)) (head with_it)
  it_reaches m f =
      let ckpt = f.checkpoint in
      let same = it_checkpoint in
      let from = head_from with_it in
      let top = head_within with_it spans_it in
      record {
        up = omega arith;
        window = omega arith;
        whole = λ k a b.
            let y = some_known with_it k (head_knows with_it k spans_it (omega arith) b) in (y.0, it_header m.parts (part.Here e.header) refl f.parts k ∙ y.1);
        next =
            let n : suc (head with_it) ≡ head with_it + 1 = omega arith in
            rw n (it_header m.parts (part.Here e.header) refl f.parts (head with_it + 1) ∙ none_known (header_of (part_at with_it (head with_it + 1))) (head_stops with_it spans_it));
      }

  slot_kept : (m : group.Member) (o : Option Header) → length m.kept ≡ 64 → ((k : ℕ) (h : Header) → r.checkpoint < k → part_at r k ≡ Here h → group.kept_at m k ≡ Some h)
      → (k : ℕ) (h : Header) → r.checkpoint < k → part_at with_it k ≡ Here h → group.kept_at (group.with_kept e.header.op (Some e.header) (group.with_kept e.header.op o m)) k ≡ Some h
  slot_kept m o size keeps k h above at =
      let place : ℕ = e.header.op % 64 in
      let long = length-set m.kept place o in
      elim (cases_eq k e.header.op) [
        | inl t ↦
            let one : part_at with_it e.header.op ≡ Here h = subst (λ j. part_at with_it j ≡ Here h) t at in
            let two : Here e.header ≡ Here h = sym it_at ∙ one in
            let same : e.header ≡ h = search (rules, two) in
            rw (t, ← same) (get_or-set_same (set m.kept place o) place (Some e.header) None (omega arith))
        | inr n ↦
            let old : part_at r k ≡ Here h = sym (it_other k n) ∙ at in
            let near = (known_within r k (spans_of r sound) (knows_some r k h (ap header_of old))).1 in
            let low = may.above in
            let window = may.window in
            let apart : k % 64 ≢ place = λ t. n (omega (arith, t)) in
            get_or-set_other (set m.kept place o) place (k % 64) (Some e.header) None apart ∙ (get_or-set_other m.kept place (k % 64) o None apart ∙ keeps k h above old)
      ]

  -- what is stored is kept
  keeps_it : (m : group.Member) (o : Option Header) → length m.kept ≡ 64 → KeepsStored r m → KeepsStored (stored e r) (group.with_kept e.header.op (Some e.header) (group.with_kept e.header.op o m))
  unfolding forgetting with_part
  keeps_it m o size keeps = (λ k h above is. slot_kept m o size keeps.0 k h above (sym (stored_at k above) ∙ is), keeps.1)

-- ---- the word

module _ (u : Setup) (start : Group Header) (i : ℕ) (e : Whole) (r : Replica) (l : Local) (s : Group Header) (x : Mid u start i r l s) (may : MayStore e r)
    (free : Every AsksNothing l.said) (writable : MayWrite u.quorums (entries_by u.hash u.cluster) s x.memory e.header.op e.header) where
  -- the effect
  abbrev effect : Effect
  effect = writes e r

  abbrev again : Bool
  again = may_be_stored (part_at r e.header.op)

  -- what the slot holds while it is written
  abbrev meanwhile : Option Header
  meanwhile = under_write again e.header (group.kept_at l.member e.header.op)

  abbrev z1 : Member Header
  z1 = record (s.members i) { slots = update (s.members i).slots (e.header.op % 64) meanwhile }

  abbrev s1 : Group Header
  s1 = becomes s i z1

  made_so : Every (WasMade s.made) (begun effect l).made
  made_so = every_append (WasMade s.made) l.made (e.header ∷ []) x.under.made (written_made u s i e.header.op x.memory e.header x.under.reached x.running writable, tt)

  slot_now : (s.members i).slots (e.header.op % 64) ≡ group.kept_at l.member e.header.op
  slot_now = x.under.disk.slots (e.header.op % 64)

  window : (x.memory.checkpoint < e.header.op) × (e.header.op ≤ x.memory.checkpoint + 64)
  window =
      let c = x.reflects.checkpoint in
      let a = may.above in
      let b = may.window in
      (omega arith, omega arith)

  stays_held : (s.members i).slots (e.header.op % 64) ≡ Some e.header → denied (x.memory.parts e.header.op) ≡ false → meanwhile ≡ Some e.header
  stays_held holds undenied =
      let kept : group.kept_at l.member e.header.op ≡ Some e.header = sym slot_now ∙ holds in
      let stored : again ≡ true = told_stored (part_at r e.header.op) (sym (ap denied (x.reflects.parts e.header.op)) ∙ undenied) in
      rw (kept, stored) (under_keeps e.header)

  either : (meanwhile ≡ None) ⊎ (meanwhile ≡ (s.members i).slots (e.header.op % 64))
  either =
      elim (under_is again e.header (group.kept_at l.member e.header.op)) [
        | inl none ↦ inl none
        | inr same ↦ inr (same ∙ sym slot_now)
      ]

  begins : Under u start i (begun effect l) s1
  begins = under_moves u start i l (begun effect l) s z1 x.under
      (move.begins_write i x.memory e.header.op e.header meanwhile x.running writable window.0 window.1 (λ y h. told_not_here (part_at r e.header.op) y (sym (x.reflects.parts e.header.op) ∙ h)) either stays_held)
      (disk_writes e.header.op meanwhile l.member (s.members i) x.under.disk) made_so

  -- it ends
  abbrev m2 : Memory Header
  m2 = record x.memory { parts = update x.memory.parts e.header.op (part.Here e.header); head = head (with_it e r x.sound may) }

  abbrev z2 : Member Header
  z2 = record (s1.members i) { slots = update (s1.members i).slots (e.header.op % 64) (Some e.header); memory = Some m2 }

  abbrev s2 : Group Header
  s2 = becomes s1 i z2

  ends : Under u start i (through effect l) s2
  ends =
      let up : x.memory.head ≤ head (with_it e r x.sound may) = let reach = x.reflects.reach in omega (arith, it_up e r x.sound may, reach) in
      under_moves u start i (begun effect l) (through effect l) s1 z2 begins
      (move.ends_write i x.memory e.header.op e.header (head (with_it e r x.sound may)) (memory_at s i z1 x.memory x.running) (may_still u s i e.header.op z1 x.memory e.header writable) window.0 window.1
      (it_reaches e r x.sound may x.memory x.reflects) up)
      (let d = disk_writes e.header.op (Some e.header) (begun effect l).member (s1.members i) begins.disk in record { last = d.last; under = d.under; slots = d.slots; size = d.size })
      made_so

  -- it is told as lost
  abbrev m3 : Memory Header
  m3 = record m2 { parts = update m2.parts e.header.op (part.Lost e.header) }

  abbrev z3 : Member Header
  z3 = record (s2.members i) { memory = Some m3 }

  abbrev s3 : Group Header
  s3 = becomes s2 i z3

  loses : Under u start i (through effect l) s3
  loses = under_moves u start i (through effect l) (through effect l) s2 z3 ends
      (move.remembers i m2 m3 (memory_at s1 i z2 m2 refl) (move.loses e.header.op e.header (here x.memory.parts e.header.op (part.Here e.header))))
      (let d = ends.disk in record { last = d.last; under = d.under; slots = d.slots; size = d.size }) made_so

  -- and some is forgotten
  abbrev parts4 : ℕ → part.Part Header
  parts4 k = told_of (part_at (stored e r) k)

  abbrev m4 : Memory Header
  m4 = record m3 { parts = parts4 }

  abbrev z4 : Member Header
  z4 = record (s3.members i) { memory = Some m4 }

  abbrev s4 : Group Header
  s4 = becomes s3 i z4

  parts3 : (k : ℕ) → m3.parts k ≡ told_of (part_at (with_it e r x.sound may) k)
  parts3 k =
      at_update (λ y. y ≡ told_of (part_at (with_it e r x.sound may) k)) m2.parts e.header.op (part.Lost e.header) k
      (λ t. rw t (sym (ap told_of (it_at e r x.sound may))))
      (λ n. elsewhere x.memory.parts e.header.op (part.Here e.header) k n ∙ x.reflects.parts k ∙ sym (ap told_of (it_other e r x.sound may k n)))

  forgets : Under u start i (through effect l) s4
  forgets = under_moves u start i (through effect l) (through effect l) s3 z4 loses
      (move.remembers i m3 m4 (memory_at s2 i z3 m3 refl) (move.forgets parts4
      (λ j above. let c = x.reflects.checkpoint in ap told_of (stored_at e r x.sound may j (omega arith)) ∙ sym (parts3 j))
      (λ j h is.
      let known = forgetting_known (with_it e r x.sound may) j h (sym (told_header (part_at (stored e r) j)) ∙ is) in
      ap header (parts3 j) ∙ told_header (part_at (with_it e r x.sound may) j) ∙ known)))
      (let d = loses.disk in record { last = d.last; under = d.under; slots = d.slots; size = d.size }) made_so

  reflects_it : Reflects (stored e r) m4
  unfolding forgetting with_part
  reflects_it =
      let f = x.reflects in
      record {
        view = f.view;
        log_view = f.log_view;
        checkpoint = f.checkpoint;
        commit = f.commit;
        applied = f.applied;
        reach = sym (stored_head e r x.sound may);
        parts = λ k. refl;
        loaded = f.loaded;
        waits = f.waits;
      }

  places_it : ((stored e r).index ≡ r.index) × ((stored e r).n ≡ r.n)
  unfolding forgetting with_part
  places_it = (refl, refl)

  pub mid_write : Mid u start i (stored e r) (through effect l) s4
  mid_write =
      let p = places_it in
      mid_runs u start i (stored e r) (through effect l) s3 z4 m4 forgets refl reflects_it (kept_stored e r x.sound may).sound (p.0 ∙ x.place) (p.1 ∙ x.size)
      (keeps_it e r x.sound may l.member meanwhile x.under.disk.size x.stored)
      (free_ready u start.sent i m4 z4.slots (through effect l).said (every_append AsksNothing l.said [] free tt))

  pub goes_write : {F : Type 0} (t : Setting F) (f : F) → Goes u start i l (write e t r f)
  unfolding write ◌⨾◌ does change
  goes_write t f = record {
    after = s4;
    ends = mid_write;
    cuts = (stops u start i (begun effect l) (begun effect l) s1 begins begins.disk made_so, tt);
  }

  -- and then the replica goes on
  pub goes_write_then : {F : Type 0} (w : Word F) (t : Setting F) (f : F) → ((k : Local) (a : Group Header) (d : F) → Mid u start i (stored e r) k a → Goes u start i k (w t (stored e r) d))
      → Goes u start i l ((write e ⨾ w) t r f)
  unfolding write ◌⨾◌ does change
  goes_write_then w t f go =
      let y = go (through effect l) s4 (after_all t f (effect ∷ [])) mid_write in
      record {
        after = y.after;
        ends = y.ends;
        cuts = (stops u start i (begun effect l) (begun effect l) s1 begins begins.disk made_so, y.cuts);
      }
