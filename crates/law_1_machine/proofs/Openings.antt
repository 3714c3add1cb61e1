-- What an opening finds is what the memory of a running member should have, whatever was lost.
use Rattle.law_1_machine.specs.Basics.{Each}
use Rattle.law_1_machine.specs.Claims.{MemoryOk, SuperblockOk, UnderOk}
use Rattle.law_1_machine.specs.Group.{Group, Held, Kept, becomes}
use Rattle.law_1_machine.specs.Headers.{Headers}
use Rattle.law_1_machine.specs.History.{History, InLog, Retains}
use Rattle.law_1_machine.specs.Invariant.{Ahead, Invariant}
use Rattle.law_1_machine.specs.Opening.{Opened, Reaches, Sound, opened}
use Rattle.law_1_machine.specs.Parts.{Here, Lost, Nothing, Part, Unknown, Wanted, denied, header}
use Rattle.law_1_machine.specs.Quorums.{Quorums}
use Rattle.std.proofs.Common.{ℕ, ◌+◌, ◌≤◌, ◌≡◌, ◌⊎◌, inl, inr, arith, refl, sym, ap, ◌∙◌, false, Option, Some, None, subst}
use Rattle.std.proofs.lemmas.Bool.{cases_eq, cases_lt}
use Rattle.law_1_machine.proofs.Lasting.{retains_weaken}
use Rattle.law_1_machine.proofs.Disks.{at_log, alone}

some_is : {H : Type 0} (x y : H) → Some x ≡ Some y → x ≡ y
some_is x y e = cc

cases_here : {H : Type 0} (p : Part H) → ((h : H) × (p ≡ Here h)) ⊎ ((h : H) → p ≡ Here h → ⊥)
cases_here (Here h) = inl (h, refl)
cases_here (Lost h) = inr (λ x e. cc)
cases_here (Wanted h) = inr (λ x e. cc)
cases_here Unknown = inr (λ x e. cc)
cases_here Nothing = inr (λ x e. cc)

module _ {H : Type 0} (q : Quorums) (hs : Headers H) (g : History H) (s : Group H) (y : Invariant q hs g s) (r : ℕ)
    (parts : ℕ → Part H) (slots : ℕ → Option H) (n : ℕ)
    (sound : Sound hs s.made (s.members r).slots (s.members r).last parts)
    (open_slots : Opened (s.members r).slots (s.members r).last.checkpoint parts slots)
    (reach : Reaches (s.members r).last.checkpoint (s.members r).last.head parts n) where
  ok : SuperblockOk q g r (s.members r).slots (s.members r).last
  ok = (y.members r).last

  start_mine : (k : ℕ) (h : H) → header (parts k) ≡ Some h → InLog g (s.members r).last.log_view k h
  start_mine k h e =
      let z = (s.members r).last in
      elim (cases_lt z.head k) [
        | inl above ↦ (y.made (record { view = z.log_view; number = k; entry = h }) (sound.above k h above e).1).2
        | inr within ↦ elim (cases_lt z.checkpoint k) [
          | inl high ↦ ok.knows.of_log k h (sym (sound.named k high within) ∙ e)
          | inr low ↦ ok.knows.of_log k h (sound.low k h low e)
        ]
      ]

  start_reach : (k : ℕ) (h : H) → header (parts k) ≡ Some h → k ≤ (s.members r).last.checkpoint + 64
  start_reach k h e =
      let z = (s.members r).last in
      elim (cases_lt z.head k) [ inl above ↦ (sound.above k h above e).0 | inr within ↦ (let w = ok.knows.window in omega arith) ]

  start_hold : Retains g r (s.members r).last.log_view (Held slots parts (s.members r).last.checkpoint)
  start_hold u k voted le carried =
      let z = (s.members r).last in
      let v = y.history.vouch r u k voted in
      let in_window : k ≤ z.checkpoint + 64 = (let w = v.4 in let m = (y.members r).marked.checkpoint in omega arith) in
      let now : g.log z.log_view k ≡ g.log u k = at_log g u z.log_view k ok.knows.begun le carried in
      elim (ok.retains u k voted le carried) [
        | inl low ↦ inl low
        | inr in_slot ↦ elim (cases_lt z.checkpoint k) [
          | inr low ↦ inl low
          | inl high ↦
              (let number : hs.number (g.log u k) ≡ k = y.history.number u k v.0 v.2 in
              let undenied : denied (parts k) ≡ false = sound.kept k (g.log u k) high in_slot number (elim (cases_lt z.head k) [
                | inr within ↦
                    (let w = ok.knows.whole k high within in
                    let m = ok.knows.of_log k w.0 w.1 in
                    inl (within, w.1 ∙ ap Some (m.2 ∙ now)))
                | inl above ↦
                    (let past_base = ok.knows.past_base in
                    elim (cases_eq u z.log_view) [
                      | inl same ↦ inr (
                        above,
                        subst (λ w. hs.made (g.log u k) ≡ w) same
                            (y.history.made_in u k v.0 (let e : g.base u ≡ g.base z.log_view = ap g.base same in omega arith) v.2),
                      )
                      | inr d ↦ (let b = (carried z.log_view ok.knows.begun (omega arith) (omega arith)).0 in absurd (omega arith))
                    ])
              ]) in
              elim (cases_here (parts k)) [
                | inl p ↦
                    (let m = start_mine k p.0 (ap header p.1) in
                    inr (open_slots.found k p.0 high p.1 ∙ ap Some (m.2 ∙ now), undenied))
                | inr not ↦ inr (open_slots.stays k high in_window not ∙ in_slot, undenied)
              ])
        ]
      ]

  pub start_ok : MemoryOk q g r slots (opened (s.members r).last parts n)
  start_ok =
      let z = (s.members r).last in
      let d = ok.knows in
      let up = reach.up in
      let dl = d.past_base in let dc = d.commit_head in
      record {
        knows = record {
          begun = d.begun;
          past_base = omega arith;
          of_log = start_mine;
          whole = λ k a b. elim (cases_lt z.head k) [
            | inl above ↦ reach.whole k above b
            | inr within ↦ (let w = d.whole k a within in (w.0, sound.named k a within ∙ w.1))
          ];
          low_commit = d.low_commit;
          commit_head = omega arith;
          window = reach.window;
          settled = d.settled;
        };
        order = ok.order;
        root = ok.root;
        state = refl;
        next = reach.next;
        reach = start_reach;
        applied = (omega arith, d.low_commit, omega arith);
        here = open_slots.found;
        retains = start_hold;
      }

  -- one that has stopped runs again
  pub start_good : (s.members r).under ≡ None → Invariant q hs g (becomes s r (record (s.members r) { slots = slots; memory = Some (opened (s.members r).last parts n) }))
  start_good clean =
      let z = s.members r in
      let mo = y.members r in
      alone q hs g s y r (record z { slots = slots; memory = Some (opened z.last parts n) }) (record {
        marked = mo.marked;
        last = record {
          knows = ok.knows;
          order = ok.order;
          root = ok.root;
          retains = retains_weaken g r z.last.log_view (Held slots parts z.last.checkpoint) (Kept slots z.last.checkpoint) (λ k e. elim [ inl l ↦ inl l | inr p ↦ inr p.0 ]) start_hold;
        };
        slots = λ j h e. elim (open_slots.only j h e) [
          | inl old ↦ mo.slots j h old
          | inr p ↦ (let m = start_mine p.0 h (ap header p.2) in
              let number : hs.number h ≡ p.0 = rw m.2 (y.history.number z.last.log_view p.0 ok.knows.begun m.1) in
              let w = start_reach p.0 h (ap header p.2) in omega arith)
        ];
        under = subst (Each (λ x. (Some (opened z.last parts n) ≡ None) × Ahead z.last x × UnderOk q g s.chosen r slots x)) (sym clean) tt;
        memory = (record { view = refl; log_view = refl; checkpoint = refl }, start_ok);
      })
