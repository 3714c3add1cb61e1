-- The middle of an opening: a member that was recovered runs, with what it found.
use Rattle.std.proofs.Common.{ℕ, zero, suc, ◌+◌, ◌-◌, ◌%◌, ◌≤◌, ◌<◌, ◌≡◌, ◌∙◌, ◌⊎◌, inl, inr, arith, refl, sym, ap, subst, false, List, [], ◌∷◌, length, get_or, Option, Some, None}
use Rattle.std.specs.Prelude.{Contains}
use Rattle.std.proofs.lemmas.Bool.{cases_lt, cases_eq}
use Rattle.std.proofs.lemmas.List.{length-set, length-drop, get_or-drop, get_or-set_same, get_or-set_other, get_or_past}
use Rattle.vr_header.specs.declared.header.Header.{Header}
use Rattle.vr_header.specs.declared.part.Part.{Part}
use Rattle.vr_header.specs.declared.part.Part.TheVariants.{Here, Lost, Wanted, Unknown, Nothing}
use Rattle.vr_header.specs.Parts.{header_of}
use Rattle.vr_super.specs.Copies.{SuperValue}
use Rattle.vr_rules.specs.Replica.{Replica, part_at, parts_from, head}
use Rattle.vr_rules.specs.Opening.{listed}
use Rattle.vr_rules.proofs.Heads.{Spans, part_past, part_within, known_within, knows_some, some_known, head_within, head_knows, head_stops}
use Rattle.vr_world.specs.Group as group
use Rattle.vr_world.specs.Group.{AreSound, IsFoundAbove, IsUndenied, keeps_all, keeps_found, kept_at}
use Rattle.law_1_machine.specs.Basics.{In, update}
use Rattle.law_1_machine.specs.Group.{Group, Member, made_at, becomes}
use Rattle.law_1_machine.specs.Members.{Memory, Superblock}
use Rattle.law_1_machine.specs.Opening.{Sound, Opened, Reaches, opened}
use Rattle.law_1_machine.specs.Parts as part
use Rattle.law_1_machine.specs.Parts.{header, denied}
use Rattle.law_1_machine.specs.Machine as move
use Rattle.law_1_machine.proofs.Counting.{elsewhere, at_update}
use Rattle.law_1_machine.proofs.Moves.{reached_good}
use Rattle.law_2_chains.specs.Local.{Local}
use Rattle.law_2_chains.specs.Reflecting.{entries_by, told_of, IsValue, IsUnder, KeepsStored}
use Rattle.law_2_chains.specs.Chains.{Setup, WasMade, Under}
use Rattle.law_2_chains.proofs.Moving.{memory_at, under_moves}
use Rattle.law_2_chains.proofs.Writing.{none_known}

-- the Part as it was found
abbrev pub found_as : Part → part.Part Header
found_as (Here h) = part.Here h
found_as (Lost h) = part.Lost h
found_as (Wanted h) = part.Wanted h
found_as Unknown = part.Unknown
found_as Nothing = part.Nothing

found_header : (p : Part) → header (found_as p) ≡ header_of p
found_header (Here h) = refl
found_header (Lost h) = refl
found_header (Wanted h) = refl
found_header Unknown = refl
found_header Nothing = refl

found_here : (p : Part) (h : Header) → found_as p ≡ part.Here h → p ≡ Here h
found_here (Here g) h e = let same : g ≡ h = cc in ap Here same
found_here (Lost g) h e = absurd cc
found_here (Wanted g) h e = absurd cc
found_here Unknown h e = absurd cc
found_here Nothing h e = absurd cc

undenied_is : (p : Part) → IsUndenied p → denied (found_as p) ≡ false
undenied_is (Here h) d = refl
undenied_is (Lost h) d = refl
undenied_is (Wanted h) d = absurd (d.wanted h refl)
undenied_is Unknown d = refl
undenied_is Nothing d = absurd (d.nothing refl)

-- ---- the slots, with what was found

abbrev kept_after : Part → Option Header → Option Header
kept_after (Here h) o = Some h
kept_after (Lost h) o = o
kept_after (Wanted h) o = o
kept_after Unknown o = o
kept_after Nothing o = o

long_found : (p : Part) (m : group.Member) → length (keeps_found p m).kept ≡ length m.kept
long_found (Here h) m = length-set m.kept (h.op % 64) (Some h)
long_found (Lost h) m = refl
long_found (Wanted h) m = refl
long_found Unknown m = refl
long_found Nothing m = refl

long_all : (ps : List Part) (m : group.Member) → length (keeps_all ps m).kept ≡ length m.kept
unfolding keeps_all
long_all [] m = refl
long_all (p ∷ ps) m = long_all ps (keeps_found p m) ∙ long_found p m

last_found : (p : Part) (m : group.Member) → ((keeps_found p m).last ≡ m.last) × ((keeps_found p m).under ≡ m.under)
last_found (Here h) m = (refl, refl)
last_found (Lost h) m = (refl, refl)
last_found (Wanted h) m = (refl, refl)
last_found Unknown m = (refl, refl)
last_found Nothing m = (refl, refl)

last_all : (ps : List Part) (m : group.Member) → ((keeps_all ps m).last ≡ m.last) × ((keeps_all ps m).under ≡ m.under)
unfolding keeps_all
last_all [] m = (refl, refl)
last_all (p ∷ ps) m = let a = last_all ps (keeps_found p m) in let b = last_found p m in (a.0 ∙ b.0, a.1 ∙ b.1)

-- each Part is of its own op
abbrev InPlace : ℕ → List Part → Type 0
InPlace b ps = (i : ℕ) (h : Header) → get_or ps i Nothing ≡ Here h → h.op ≡ b + i

found_slot : (p : Part) (b s : ℕ) (m : group.Member) → ((h : Header) → p ≡ Here h → h.op ≡ b) → (s ≡ b % 64 → ⊥) → get_or (keeps_found p m).kept s None ≡ get_or m.kept s None
found_slot (Here h) b s m at apart = get_or-set_other m.kept (h.op % 64) s (Some h) None (λ e. apart (e ∙ ap (λ k. k % 64) (at h refl)))
found_slot (Lost h) b s m at apart = refl
found_slot (Wanted h) b s m at apart = refl
found_slot Unknown b s m at apart = refl
found_slot Nothing b s m at apart = refl

found_own : (p : Part) (b : ℕ) (m : group.Member) → length m.kept ≡ 64 → ((h : Header) → p ≡ Here h → h.op ≡ b) → get_or (keeps_found p m).kept (b % 64) None ≡ kept_after p (get_or m.kept (b % 64) None)
found_own (Here h) b m size at = let e : h.op ≡ b = at h refl in rw (← e) (get_or-set_same m.kept (h.op % 64) (Some h) None (omega arith))
found_own (Lost h) b m size at = refl
found_own (Wanted h) b m size at = refl
found_own Unknown b m size at = refl
found_own Nothing b m size at = refl

-- a slot of none of these ops stays
slot_stays : (ps : List Part) (b s : ℕ) (m : group.Member) → InPlace b ps → ((i : ℕ) → i < length ps → s ≡ (b + i) % 64 → ⊥) → get_or (keeps_all ps m).kept s None ≡ get_or m.kept s None
unfolding keeps_all
slot_stays [] b s m at apart = refl
slot_stays (p ∷ ps) b s m at apart =
    let z : b + 0 ≡ b = omega arith in
    slot_stays ps (b + 1) s (keeps_found p m) (λ i h e. at (suc i) h e ∙ (let n : b + suc i ≡ b + 1 + i = omega arith in n)) (λ i l e. apart (suc i) (omega arith) (e ∙ ap (λ k. k % 64) (let n : b + 1 + i ≡ b + suc i = omega arith in n)))
    ∙ found_slot p b s m (λ h e. at 0 h e ∙ z) (λ e. apart 0 (omega arith) (e ∙ ap (λ k. k % 64) (sym z)))

slot_is : (ps : List Part) (b : ℕ) (m : group.Member) → length m.kept ≡ 64 → length ps ≤ 64 → InPlace b ps → (i : ℕ) → i < length ps
    → get_or (keeps_all ps m).kept ((b + i) % 64) None ≡ kept_after (get_or ps i Nothing) (get_or m.kept ((b + i) % 64) None)
unfolding keeps_all
slot_is [] b m size few at i l = absurd (omega arith)
slot_is (p ∷ ps) b m size few at zero l =
    let z : b + 0 ≡ b = omega arith in
    rw z (slot_stays ps (b + 1) (b % 64) (keeps_found p m) (λ i h e. at (suc i) h e ∙ (let n : b + suc i ≡ b + 1 + i = omega arith in n)) (λ i l e. omega (arith, e, l, few))
    ∙ found_own p b m size (λ h e. at 0 h e ∙ z))
slot_is (p ∷ ps) b m size few at (suc i) l =
    let n : b + suc i ≡ b + 1 + i = omega arith in
    rw n (slot_is ps (b + 1) (keeps_found p m) (long_found p m ∙ size) (omega arith) (λ i h e. at (suc i) h e ∙ (let n : b + suc i ≡ b + 1 + i = omega arith in n)) i (omega arith)
    ∙ ap (kept_after (get_or ps i Nothing)) (found_slot p b ((b + 1 + i) % 64) m (λ h e. at 0 h e ∙ (let z : b + 0 ≡ b = omega arith in z)) (λ e. omega (arith, e, l, few))))

-- ---- the machine starts with what was found

-- the member that keeps what was found of the window
abbrev pub with_found : Replica → group.Member → group.Member
with_found q m = keeps_all (parts_from q (q.checkpoint + 1)) m

module _ (u : Setup) (start : Group Header) (i : ℕ) (v : SuperValue) (q : Replica) (l : Local) (s : Group Header) (x : Under u start i l s) (made : List Header)
    (stopped : (s.members i).memory ≡ None) (last_is : l.member.last ≡ v) (none_under : (s.members i).under ≡ None)
    (spans : Spans q) (one : 1 ≤ q.first) (ckpt_is : q.checkpoint ≡ v.fields.checkpoint) (up : v.fields.head ≤ head q) (reach : v.fields.checkpoint ≤ v.fields.head)
    (in_place : (k : ℕ) (h : Header) → header_of (part_at q k) ≡ Some h → h.op ≡ k)
    (sound : AreSound v (kept_at l.member) made q)
    (low : (k : ℕ) (h : Header) → k ≤ v.fields.checkpoint → header_of (part_at q k) ≡ Some h → listed v k ≡ Some h)
    (were_made : (h : Header) → Contains made h → WasMade s.made h) where
  abbrev value : Superblock Header
  value = (s.members i).last

  is_value : IsValue v value
  is_value = subst (λ w. IsValue w value) last_is x.disk.last

  abbrev parts : ℕ → part.Part Header
  parts k = found_as (part_at q k)

  abbrev slots : ℕ → Option Header
  slots n = get_or (with_found q l.member).kept n None

  abbrev ps : List Part
  ps = parts_from q (q.checkpoint + 1)

  ps_long : length ps ≡ 64
  ps_long = let a = spans.reach in let b = spans.parts in let c = length-drop (q.checkpoint + 1 - q.first) q.parts in omega arith

  ps_at : (j : ℕ) → get_or ps j Nothing ≡ part_at q (q.checkpoint + 1 + j)
  ps_at j =
      let a = spans.reach in
      let d : ℕ = q.checkpoint + 1 - q.first in
      let place : d + j ≡ q.checkpoint + 1 + j - q.first = omega arith in
      get_or-drop d q.parts j Nothing ∙ ap (λ k. get_or q.parts k Nothing) place ∙ sym (part_within q (q.checkpoint + 1 + j) (omega arith))

  ps_in_place : InPlace (q.checkpoint + 1) ps
  ps_in_place j h e = in_place (q.checkpoint + 1 + j) h (ap header_of (sym (ps_at j) ∙ e))

  slot_at : (k : ℕ) → q.checkpoint < k → k ≤ q.checkpoint + 64 → slots (k % 64) ≡ kept_after (part_at q k) ((s.members i).slots (k % 64))
  slot_at k a b =
      let j : ℕ = k - (q.checkpoint + 1) in
      let long = ps_long in
      let place : q.checkpoint + 1 + j ≡ k = omega arith in
      let is = slot_is ps (q.checkpoint + 1) l.member x.disk.size (omega arith) ps_in_place j (omega arith) in
      let at : slots (k % 64) ≡ kept_after (get_or ps j Nothing) (get_or l.member.kept (k % 64) None) = subst (λ n. get_or (keeps_all ps l.member).kept (n % 64) None ≡ kept_after (get_or ps j Nothing) (get_or l.member.kept (n % 64) None)) place is in
      at ∙ (ap (λ p. kept_after p (get_or l.member.kept (k % 64) None)) (ps_at j ∙ ap (part_at q) place) ∙ ap (kept_after (part_at q k)) (sym (x.disk.slots (k % 64))))

  near : (k : ℕ) (h : Header) → header_of (part_at q k) ≡ Some h → k ≤ q.checkpoint + 64
  near k h e = (known_within q k spans (knows_some q k h e)).1

  found_made : (k : ℕ) (h : Header) (p : Part) → IsFoundAbove made v.fields.log_view k p → header_of p ≡ Some h → In (made_at v.fields.log_view k h) s.made
  found_made k h (Here g) f e =
      let same : g ≡ h = cc in
      subst (λ (y : Header). In (made_at v.fields.log_view k y) s.made) same (rw (← f.in_view, ← f.at_op) (were_made g f.entry))
  found_made k h (Lost g) f e =
      let same : g ≡ h = cc in
      subst (λ (y : Header). In (made_at v.fields.log_view k y) s.made) same (rw (← f.in_view, ← f.at_op) (were_made g f.entry))
  found_made k h (Wanted g) f e = absurd f
  found_made k h Unknown f e = absurd cc
  found_made k h Nothing f e = absurd cc

  is_sound : Sound (entries_by u.hash u.cluster) s.made (s.members i).slots value parts
  is_sound =
      let a = is_value in
      let c = a.checkpoint in
      let t = a.reach in
      record {
        named = λ k b d. found_header (part_at q k) ∙ (sound.named k (omega arith) (omega arith) ∙ sym (a.names k));
        low = λ k h b e. a.names k ∙ low k h (omega arith) (sym (found_header (part_at q k)) ∙ e);
        above = λ k h b e.
            let known : header_of (part_at q k) ≡ Some h = sym (found_header (part_at q k)) ∙ e in
            let n = near k h known in
            (omega arith, subst (λ w. In (made_at w k h) s.made) (sym a.log_view) (found_made k h (part_at q k) (sound.above k (omega arith) (omega arith)) known));
        kept = λ k h b held number counts.
            let good = reached_good u.quorums (entries_by u.hash u.cluster) s x.reached in
            let within = (good.1.members i).slots (k % 64) h held in
            undenied_is (part_at q k) (sound.counted k h (omega arith) (omega arith) (sym (x.disk.slots (k % 64)) ∙ held) (
              number,
              elim counts [
                | inl y ↦ inl (sym (a.names k) ∙ y.1)
                | inr y ↦ inr (omega (arith, y.0), y.1 ∙ a.log_view)
              ],
            ));
      }

  not_kept : (p : Part) (o : Option Header) → ((h : Header) → p ≡ Here h → ⊥) → kept_after p o ≡ o
  not_kept (Here h) o n = absurd (n h refl)
  not_kept (Lost h) o n = refl
  not_kept (Wanted h) o n = refl
  not_kept Unknown o n = refl
  not_kept Nothing o n = refl

  kept_cases : (p : Part) (o : Option Header) (h : Header) → kept_after p o ≡ Some h → (o ≡ Some h) ⊎ (p ≡ Here h)
  kept_cases (Here g) o h e = let same : g ≡ h = cc in inr (ap Here same)
  kept_cases (Lost g) o h e = inl e
  kept_cases (Wanted g) o h e = inl e
  kept_cases Unknown o h e = inl e
  kept_cases Nothing o h e = inl e

  -- a slot is that of an op of the window
  op_of : (n : ℕ) → n < 64 → (k : ℕ) × (q.checkpoint < k) × (k ≤ q.checkpoint + 64) × (k % 64 ≡ n)
  op_of n l = (q.checkpoint + 1 + (n + 64 - (q.checkpoint + 1) % 64) % 64, omega arith, omega arith, omega arith)

  only_found : (n : ℕ) (h : Header) → slots n ≡ Some h → ((s.members i).slots n ≡ Some h) ⊎ ((k : ℕ) × (value.checkpoint < k) × (parts k ≡ part.Here h))
  only_found n h e =
      let c = is_value.checkpoint in
      let size = long_all ps l.member ∙ x.disk.size in
      elim (cases_lt n 64) [
        | inr past ↦ let none : None ≡ Some h = sym (get_or_past (keeps_all ps l.member).kept n None (omega arith)) ∙ e in absurd cc
        | inl l ↦
            let k = op_of n l in
            let at = slot_at k.0 k.1 k.2 in
            elim (kept_cases (part_at q k.0) ((s.members i).slots (k.0 % 64)) h (sym at ∙ (ap slots k.3 ∙ e))) [
              | inl old ↦ inl (sym (ap (s.members i).slots k.3) ∙ old)
              | inr it ↦ let a = k.1 in inr (k.0, omega arith, ap found_as it)
            ]
      ]

  is_opened : Opened (s.members i).slots value.checkpoint parts slots
  is_opened =
      let c = is_value.checkpoint in
      record {
        found = λ k h a e.
            let p = found_here (part_at q k) h e in
            let n = near k h (ap header_of p) in
            slot_at k (omega arith) (omega arith) ∙ ap (λ y. kept_after y ((s.members i).slots (k % 64))) p;
        stays = λ k a b not_here. slot_at k (omega arith) (omega arith) ∙ not_kept (part_at q k) ((s.members i).slots (k % 64)) (λ h e. not_here h (ap found_as e));
        only = λ n h e. only_found n h e;
      }

  is_reached : Reaches value.checkpoint value.head parts (head q)
  is_reached =
      let c = is_value.checkpoint in
      let t = is_value.reach in
      let top = head_within q spans in
      record {
        up = omega arith;
        window = omega arith;
        whole = λ k a b. let y = some_known q k (head_knows q k spans (omega arith) b) in (y.0, found_header (part_at q k) ∙ y.1);
        next =
            let n : suc (head q) ≡ head q + 1 = omega arith in
            rw n (found_header (part_at q (head q + 1)) ∙ none_known (header_of (part_at q (head q + 1))) (head_stops q spans));
      }

  -- what is found is kept
  abbrev l' : Local
  l' = record { member = with_found q l.member; made = l.made; said = l.said }

  -- what was found stored is kept
  pub keeps_all_found : q.saved ≡ v → KeepsStored q l'.member
  keeps_all_found same = (
    λ k h above is. let near_it = near k h (ap header_of is) in slot_at k above near_it ∙ ap (λ y. kept_after y ((s.members i).slots (k % 64))) is,
    (last_all ps l.member).0 ∙ (last_is ∙ sym same),
  )

  abbrev m0 : Memory Header
  m0 = opened value parts (head q)

  abbrev z0 : Member Header
  z0 = record (s.members i) { slots = slots; memory = Some m0 }

  started : Under u start i l' (becomes s i z0)
  started =
      let d = x.disk in
      let same = last_all ps l.member in
      under_moves u start i l l' s z0 x (move.starts i parts slots (head q) stopped none_under is_sound is_opened is_reached)
      (record { last = subst (λ w. IsValue w value) (sym same.0) d.last; under = subst (λ w. IsUnder w (s.members i).under) (sym same.1) d.under; slots = λ n. refl; size = long_all ps l.member ∙ d.size })
      x.made

  -- ---- and what is here is told as lost

  record Told (j : ℕ) : Type 0 where
    after : Group Header
    so_far : ℕ → part.Part Header
    under : Under u start i l' after
    running : (after.members i).memory ≡ Some (record m0 { parts = so_far })
    told : (k : ℕ) → k < j → so_far k ≡ told_of (part_at q k)
    rest : (k : ℕ) → j ≤ k → so_far k ≡ found_as (part_at q k)

  told_same : (j : ℕ) (b : Told j) → found_as (part_at q j) ≡ told_of (part_at q j) → Told (suc j)
  told_same j b same = record {
    after = b.after;
    so_far = b.so_far;
    under = b.under;
    running = b.running;
    told = λ k a. elim (cases_eq k j) [ inl t ↦ rw t (b.rest j (omega arith) ∙ same) | inr n ↦ b.told k (omega (arith, n, a)) ];
    rest = λ k a. b.rest k (omega arith);
  }

  told_more : (j : ℕ) (b : Told j) (p : Part) → part_at q j ≡ p → Told (suc j)
  told_more j b (Here h) is =
      let m : Memory Header = record m0 { parts = b.so_far } in
      let m' : Memory Header = record m { parts = update b.so_far j (part.Lost h) } in
      let z : Member Header = record (b.after.members i) { memory = Some m' } in
      let d = b.under.disk in
      record {
        after = becomes b.after i z;
        so_far = update b.so_far j (part.Lost h);
        under = under_moves u start i l' l' b.after z b.under (move.remembers i m m' b.running (move.loses j h (b.rest j (omega arith) ∙ ap found_as is))) (record { last = d.last; under = d.under; slots = d.slots; size = d.size }) b.under.made;
        running = memory_at b.after i z m' refl;
        told = λ k a. at_update (λ y. y ≡ told_of (part_at q k)) b.so_far j (part.Lost h) k (λ t. rw t (sym (ap told_of is))) (λ n. b.told k (omega (arith, n, a)));
        rest = λ k a. elsewhere b.so_far j (part.Lost h) k (λ t. omega (arith, t, a)) ∙ b.rest k (omega arith);
      }
  told_more j b (Lost h) is = told_same j b (ap found_as is ∙ sym (ap told_of is))
  told_more j b (Wanted h) is = told_same j b (ap found_as is ∙ sym (ap told_of is))
  told_more j b Unknown is = told_same j b (ap found_as is ∙ sym (ap told_of is))
  told_more j b Nothing is = told_same j b (ap found_as is ∙ sym (ap told_of is))

  all_told : (j : ℕ) → Told j
  all_told zero = record { after = becomes s i z0; so_far = parts; under = started; running = memory_at s i z0 m0 refl; told = λ k a. absurd (omega arith); rest = λ k a. refl }
  all_told (suc j) = told_more j (all_told j) (part_at q j) refl

  abbrev m1 : Memory Header
  m1 = record m0 { parts = λ k. told_of (part_at q k) }

  told_everywhere : (b : Told (q.checkpoint + 65)) (k : ℕ) → b.so_far k ≡ told_of (part_at q k)
  told_everywhere b k =
      elim (cases_lt k (q.checkpoint + 65)) [
        | inl near ↦ b.told k near
        | inr past ↦ let sp = spans.parts in let nothing : part_at q k ≡ Nothing = part_past q k (omega arith) in b.rest k past ∙ (ap found_as nothing ∙ sym (ap told_of nothing))
      ]

  -- the member runs, with all that was found kept, and without a state
  pub record Recovered : Type 0 where
    pub after : Group Header
    pub under : Under u start i l' after
    pub running : (after.members i).memory ≡ Some m1

  pub recovered : Recovered
  recovered =
      let b = all_told (q.checkpoint + 65) in
      let m : Memory Header = record m0 { parts = b.so_far } in
      let z : Member Header = record (b.after.members i) { memory = Some m1 } in
      let d = b.under.disk in
      record {
        after = becomes b.after i z;
        under = under_moves u start i l' l' b.after z b.under
            (move.remembers i m m1 b.running (move.forgets (λ k. told_of (part_at q k)) (λ k a. sym (told_everywhere b k)) (λ k h e. ap header (told_everywhere b k) ∙ e)))
            (record { last = d.last; under = d.under; slots = d.slots; size = d.size }) b.under.made;
        running = memory_at b.after i z m1 refl;
      }
