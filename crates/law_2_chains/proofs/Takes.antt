-- Take: the log of a view is taken over. The machine takes it whole; what the replica forgets it forgets after the save.
use Rattle.std.proofs.Common.{ℕ, suc, ◌+◌, ◌≤◌, ◌<◌, ◌≡◌, ◌∙◌, ◌⊎◌, inl, inr, arith, refl, sym, ap, Bool, true, false, cond, max, Option, Some, None}
use Rattle.std.specs.Prelude.{nat_lt}
use Rattle.std.specs.Option.{option_map_or}
use Rattle.std.proofs.lemmas.Bool.{cases_lt, lt-leb, le-leb, lt-ltb, le-ltb, true≢false}
use Rattle.vr_header.specs.declared.header.Header.{Header}
use Rattle.vr_header.specs.declared.part.Part.{Part}
use Rattle.vr_header.specs.declared.part.Part.TheVariants.{Here, Lost, Wanted, Unknown, Nothing}
use Rattle.vr_header.specs.Same.{same_header}
use Rattle.vr_header.proofs.SameHeaders.{same_header_is, same_header_of}
use Rattle.vr_header.specs.Parts.{header_of, has_header}
use Rattle.vr_rules.specs.Replica.{Replica, part_at, head, forgetting}
use Rattle.vr_rules.specs.Words.{Log, log_header, replaced_by, taken_part, taken}
use Rattle.vr_rules.specs.Sound.{IsSound}
use Rattle.vr_rules.proofs.Heads.{Spans, some_known, part_before, part_past, head_within, head_knows, head_reaches, head_stops, remade_at, forgetting_spans, forgetting_at, forgetting_known, forgetting_head}
use Rattle.vr_rules.proofs.Keeping.{spans_of}
use Rattle.vr_rules.specs.Given.{IsLogFor}
use Rattle.vr_rules.proofs.Taking.{MayTake, taken_known, over, over_at, over_spans}
use Rattle.vr_world.specs.Group as group
use Rattle.law_1_machine.specs.Members.{Memory}
use Rattle.law_1_machine.specs.Parts as part
use Rattle.law_1_machine.specs.Taking.{Installed, Takes}
use Rattle.law_1_machine.specs.Taking as machine
use Rattle.law_2_chains.specs.Reflecting.{told_of, Reflects, KeepsStored}
use Rattle.law_2_chains.proofs.Writing.{held_before, told_header, none_known}
use Rattle.law_2_chains.proofs.Saving.{Covers}

-- ---- one Part

installed_here : (e h : Header) (b : Bool) → same_header h e ≡ b → Installed e (part.Lost h) (told_of (cond b (Here h) (Wanted e)))
installed_here e h true t = record { named = ap Some (same_header_is h e t); stays = λ a all. refl; here = λ x y. absurd cc }
installed_here e h false t = record {
  named = refl;
  stays = λ a all. absurd (true≢false (sym (same_header_of h e (all h refl)) ∙ t));
  here = λ x y. absurd cc;
}

installed_lost : (e h : Header) (b : Bool) → same_header h e ≡ b → Installed e (part.Lost h) (told_of (cond b (Lost h) (Wanted e)))
installed_lost e h true t = record { named = ap Some (same_header_is h e t); stays = λ a all. refl; here = λ x y. absurd cc }
installed_lost e h false t = record {
  named = refl;
  stays = λ a all. absurd (true≢false (sym (same_header_of h e (all h refl)) ∙ t));
  here = λ x y. absurd cc;
}

pub installed : (e : Header) (p : Part) → Installed e (told_of p) (told_of (replaced_by e p))
installed e (Here h) = installed_here e h (same_header h e) refl
installed e (Lost h) = installed_lost e h (same_header h e) refl
installed e (Wanted h) = record { named = refl; stays = λ a all. absurd cc; here = λ x y. absurd cc }
installed e Unknown = record { named = refl; stays = λ a all. refl; here = λ x y. absurd cc }
installed e Nothing = record { named = refl; stays = λ a all. absurd cc; here = λ x y. absurd cc }

replaced_stored : (e h : Header) (p : Part) (b : Bool) → cond b p (Wanted e) ≡ Here h → p ≡ Here h
replaced_stored e h p true t = t
replaced_stored e h p false t = absurd cc

replaced_is : (e h : Header) (p : Part) → replaced_by e p ≡ Here h → p ≡ Here h
replaced_is e h (Here g) t = replaced_stored e h (Here g) (same_header g e) t
replaced_is e h (Lost g) t = replaced_stored e h (Lost g) (same_header g e) t
replaced_is e h (Wanted g) t = absurd cc
replaced_is e h Unknown t = absurd cc
replaced_is e h Nothing t = absurd cc

pub mapped_is : (h : Header) (p : Part) (o : Option Header) → option_map_or (λ e. replaced_by e p) o p ≡ Here h → p ≡ Here h
mapped_is h p None t = t
mapped_is h p (Some e) t = replaced_is e h p t

pub ended_is : (h : Header) (p : Part) (b : Bool) → cond b Nothing p ≡ Here h → p ≡ Here h
ended_is h p true t = absurd cc
ended_is h p false t = t

-- what is stored stays so, where its header stays
stays_mapped : (h : Header) (o : Option Header) → header_of (option_map_or (λ e. replaced_by e (Here h)) o (Here h)) ≡ Some h → option_map_or (λ e. replaced_by e (Here h)) o (Here h) ≡ Here h
stays_mapped h None t = refl
stays_mapped h (Some e) t =
    elim (same_header h e) as (λ b. same_header h e ≡ b → header_of (cond b (Here h) (Wanted e)) ≡ Some h → cond b (Here h) (Wanted e) ≡ Here h) [
      | true ↦ λ s z. refl
      | false ↦ λ s z. let one : h ≡ e = cc in absurd (true≢false (sym (same_header_of h e one) ∙ s))
    ] refl t

stays_ended : (h : Header) (b : Bool) → header_of (cond b Nothing (Here h)) ≡ Some h → cond b Nothing (Here h) ≡ Here h
stays_ended h true t = absurd cc
stays_ended h false t = refl

-- ---- the Parts, by op

module _ (l : Log) (r : Replica) (sound : IsSound r) (log : IsLogFor r l) (may : MayTake l r) where
  part_low : (k : ℕ) → k ≤ r.checkpoint → taken_part l r k ≡ part_at r k
  unfolding taken_part
  part_low k a = rw (le-leb k r.checkpoint a) refl

  part_within : (k : ℕ) → r.checkpoint < k → k ≤ l.head → taken_part l r k ≡ option_map_or (λ e. replaced_by e (part_at r k)) (log_header l k) (part_at r k)
  unfolding taken_part
  part_within k a b = rw (lt-leb k r.checkpoint a, le-leb k l.head b) refl

  part_above : (k : ℕ) → r.checkpoint < k → l.head < k → taken_part l r k ≡ cond (nat_lt r.log_view l.view) Nothing (part_at r k)
  unfolding taken_part
  part_above k a b = rw (lt-leb k r.checkpoint a, lt-leb k l.head b) refl

  -- where the lists of ops reach
  inside : (k : ℕ) → r.first ≤ k → k ≤ r.checkpoint + 64 → part_at (over l r) k ≡ taken_part l r k
  inside k a b = let parts = sound.lists.parts in over_at l r k ∙ remade_at (taken_part l r) r k a (omega arith)

  outside : (k : ℕ) → (k < r.first) ⊎ (r.checkpoint + 64 < k) → (part_at (over l r) k ≡ Nothing) × (part_at r k ≡ Nothing)
  outside k (inl a) = (part_before (over l r) k a, part_before r k a)
  outside k (inr a) =
      let p = sound.lists.parts in
      let q = (over_spans l r (spans_of r sound)).parts in
      (part_past (over l r) k (omega arith), part_past r k (omega arith))

  -- at or below lo, or the checkpoint, nothing changes
  below : (k : ℕ) → (k ≤ l.lo) ⊎ (k ≤ r.checkpoint) → part_at (over l r) k ≡ part_at r k
  below k c =
      let lo = may.lo in
      let reach = may.reaches in
      let order = sound.order.known in
      let window = sound.order.window in
      elim (cases_lt k r.first) [
        | inl before ↦ let o = outside k (inl before) in o.0 ∙ sym o.1
        | inr from ↦
            elim c [
              | inr low ↦ inside k from (omega arith) ∙ part_low k low
              | inl low ↦
                  elim (cases_lt r.checkpoint k) [
                    | inr lower ↦ inside k from (omega arith) ∙ part_low k lower
                    | inl above ↦ inside k from (omega arith) ∙ (part_within k above (omega arith) ∙ rw (le-leb k l.lo low) refl)
                  ]
            ]
      ]

  between : (k : ℕ) (e : Header) → r.checkpoint < k → k ≤ l.head → log_header l k ≡ Some e → part_at (over l r) k ≡ replaced_by e (part_at r k)
  between k e a b is =
      let reach = sound.lists.reach in
      let room = may.room in
      inside k (omega arith) (omega arith) ∙ (part_within k a b ∙ ap (λ o. option_map_or (λ e. replaced_by e (part_at r k)) o (part_at r k)) is)

  above : (k : ℕ) → l.head < k → part_at (over l r) k ≡ cond (nat_lt r.log_view l.view) Nothing (part_at r k)
  above k a =
      let reach = may.reaches in
      let low = sound.order.applied in
      let less = sound.order.commit in
      let first = sound.lists.reach in
      elim (cases_lt (r.checkpoint + 64) k) [
        | inl past ↦
            let o = outside k (inr past) in
            o.0 ∙ elim (nat_lt r.log_view l.view) as (λ b. Nothing ≡ cond b Nothing (part_at r k)) [ true ↦ refl | false ↦ sym o.1 ]
        | inr near ↦ inside k (omega arith) near ∙ part_above k (omega arith) a
      ]

  pub above_later : (k : ℕ) → l.head < k → r.log_view < l.view → part_at (over l r) k ≡ Nothing
  above_later k a b = let c : nat_lt r.log_view l.view ≡ true = lt-ltb r.log_view l.view b in above k a ∙ ap (λ t. cond t Nothing (part_at r k)) c

  above_same : (k : ℕ) → l.head < k → l.view ≤ r.log_view → part_at (over l r) k ≡ part_at r k
  above_same k a b = let c : nat_lt r.log_view l.view ≡ false = le-ltb r.log_view l.view b in above k a ∙ ap (λ t. cond t Nothing (part_at r k)) c

  -- ---- the machine takes the same

  abbrev pub parts_over : ℕ → part.Part Header
  parts_over k = told_of (part_at (over l r) k)

  spans_over : Spans (over l r)
  spans_over = over_spans l r (spans_of r sound)

  head_over : l.head ≤ head (over l r)
  head_over =
      let parts = sound.lists.parts in
      let first = sound.lists.reach in
      let room = may.room in
      head_reaches (over l r) l.head spans_over (λ k a b. ap has_header (inside k (omega arith) (omega arith)) ∙ taken_known l r k sound log may a b)

  abbrev pub commit_over : ℕ
  commit_over = max r.commit l.commit

  pub takes_over : (m : Memory Header) → Reflects r m → Takes m l.view l.lo l.head l.commit (log_header l) parts_over commit_over (head (over l r))
  takes_over m f =
      let view = f.view in
      let log_view = f.log_view in
      let ckpt = f.checkpoint in
      let commit = f.commit in
      let newer = may.view in
      let room = may.room in
      let lo = may.lo in
      let reaches = may.reaches in
      let views = sound.order.views in
      let low = sound.order.applied in
      let less = sound.order.commit in
      let up = head_over in
      let top = head_within (over l r) spans_over in
      record {
        view = omega arith;
        low_commit = omega arith;
        commit_head = omega arith;
        window = omega arith;
        below = λ k c. ap told_of (below k (elim c [ inl a ↦ inl a | inr a ↦ inr (omega arith) ])) ∙ sym (f.parts k);
        between = λ k h a b c is. rw (f.parts k, between k h (omega arith) c is) (installed h (part_at r k));
        above = λ k a.
            elim (cases_lt r.log_view l.view) [
              | inl later ↦ inl (omega arith, ap told_of (above_later k a later))
              | inr same ↦ inr (omega arith, ap told_of (above_same k a same) ∙ sym (f.parts k))
            ];
        committed = (
          omega arith,
          omega arith,
          elim (cases_lt l.commit r.commit) [
            | inl a ↦ inl (omega arith)
            | inr a ↦ inr (omega arith)
          ],
        );
        reach = (up, omega arith);
        more = λ k a b. let y = some_known (over l r) k (head_knows (over l r) k spans_over (omega arith) b) in (y.0, told_header (part_at (over l r) k) ∙ y.1);
        next =
            let n : suc (head (over l r)) ≡ head (over l r) + 1 = omega arith in
            rw n (told_header (part_at (over l r) (head (over l r) + 1)) ∙ none_known (header_of (part_at (over l r) (head (over l r) + 1))) (head_stops (over l r) spans_over));
      }

  -- ---- what is left of it

  pub taken_at : (k : ℕ) → r.checkpoint < k → part_at (taken l r) k ≡ part_at (over l r) k
  unfolding taken forgetting
  taken_at k a =
      let low = (forgetting_spans (over l r) spans_over).reach in
      forgetting_at (over l r) k (omega arith)

  pub covers_taken : (m : Memory Header) → Reflects r m → Covers (taken l r) (machine.taken m l.view parts_over commit_over (head (over l r)))
  unfolding taken forgetting
  covers_taken m f = record {
    view = refl;
    log_view = refl;
    checkpoint = f.checkpoint;
    commit = refl;
    applied = f.applied;
    reach = sym (forgetting_head (over l r) spans_over);
    parts = λ k a. sym (ap told_of (taken_at k a));
    low = λ k h e. told_header (part_at (over l r) k) ∙ forgetting_known (over l r) k h e;
    loaded = f.loaded;
    waits = f.waits;
  }

  -- what is stored was stored
  over_stored : (k : ℕ) (h : Header) → r.checkpoint < k → part_at (over l r) k ≡ Here h → part_at r k ≡ Here h
  over_stored k h a is =
      let first = sound.lists.reach in
      elim (cases_lt l.head k) [
        | inl past ↦ ended_is h (part_at r k) (nat_lt r.log_view l.view) (sym (above k past) ∙ is)
        | inr within ↦ let room = may.room in mapped_is h (part_at r k) (log_header l k) (sym (inside k (omega arith) (omega arith) ∙ part_within k a within) ∙ is)
      ]

  over_stays : (k : ℕ) (h : Header) → r.checkpoint < k → part_at r k ≡ Here h → header_of (part_at (over l r) k) ≡ Some h → part_at (over l r) k ≡ Here h
  over_stays k h a is known =
      elim (cases_lt l.head k) [
        | inl past ↦
            let e : part_at (over l r) k ≡ cond (nat_lt r.log_view l.view) Nothing (Here h) = above k past ∙ ap (λ p. cond (nat_lt r.log_view l.view) Nothing p) is in
            e ∙ stays_ended h (nat_lt r.log_view l.view) (sym (ap header_of e) ∙ known)
        | inr within ↦
            let room = may.room in
            let first = sound.lists.reach in
            let e : part_at (over l r) k ≡ option_map_or (λ e. replaced_by e (Here h)) (log_header l k) (Here h) =
            inside k (omega arith) (omega arith) ∙ (part_within k a within ∙ ap (λ p. option_map_or (λ e. replaced_by e p) (log_header l k) p) is) in
            e ∙ stays_mapped h (log_header l k) (sym (ap header_of e) ∙ known)
      ]

  pub taken_stays : (k : ℕ) (h : Header) → r.checkpoint < k → part_at r k ≡ Here h → header_of (part_at (taken l r) k) ≡ Some h → part_at (taken l r) k ≡ Here h
  taken_stays k h a is known = taken_at k a ∙ over_stays k h a is (sym (ap header_of (taken_at k a)) ∙ known)

  pub taken_top : l.head ≤ head (taken l r)
  unfolding taken
  taken_top = let same = forgetting_head (over l r) spans_over in let top = head_over in omega arith

  -- nothing is stored above a log that is taken over in a later view
  pub taken_near : (k : ℕ) (h : Header) → r.checkpoint < k → r.log_view < l.view → part_at (taken l r) k ≡ Here h → k ≤ l.head
  taken_near k h a later is =
      elim (cases_lt l.head k) [
        | inr within ↦ within
        | inl past ↦ let none : Nothing ≡ Here h = sym (above_later k past later) ∙ (sym (taken_at k a) ∙ is) in absurd cc
      ]

  pub taken_held : (k : ℕ) (h : Header) → part_at (taken l r) k ≡ Here h → part_at r k ≡ Here h
  unfolding taken
  taken_held k h is =
      let was : part_at (over l r) k ≡ Here h = held_before (over l r) k h is in
      elim (cases_lt r.checkpoint k) [ inl above ↦ over_stored k h above was | inr low ↦ sym (below k (inr low)) ∙ was ]

  pub keeps_taken : (m : group.Member) → KeepsStored r m → KeepsStored (taken l r) m
  unfolding taken forgetting
  keeps_taken m keeps = (λ k h a is. keeps.0 k h a (over_stored k h a (sym (taken_at k a) ∙ is)), keeps.1)

  pub taken_views : ((taken l r).view ≡ l.view) × ((taken l r).log_view ≡ l.view) × ((taken l r).index ≡ r.index) × ((taken l r).n ≡ r.n)
  unfolding taken forgetting
  taken_views = (refl, refl, refl, refl)
