-- What a member knows after it goes on from a later checkpoint is that view's log, and it still denies nothing that it vouched for.
use Rattle.law_1_machine.specs.Claims.{MemoryOk, Offered}
use Rattle.law_1_machine.specs.Group.{Held}
use Rattle.law_1_machine.specs.Headers.{Headers}
use Rattle.law_1_machine.specs.History.{CarriedThrough, History, HistoryOk, InLog, Retains, Settled}
use Rattle.law_1_machine.specs.Members.{Memory}
use Rattle.law_1_machine.specs.Parts.{Here, Part, Wanted, denied, entries, header}
use Rattle.law_1_machine.specs.Quorums.{Quorums}
use Rattle.law_1_machine.specs.Taking.{Jumps, jumped}
use Rattle.std.proofs.Common.{refl, List, ℕ, ◌+◌, ◌≤◌, ◌<◌, ◌≡◌, inl, inr, arith, sym, ap, ◌∙◌, Option, Some, None, subst}
use Rattle.std.proofs.lemmas.Bool.{cases_lt}
use Rattle.law_1_machine.proofs.Chains.{settled_le}
use Rattle.law_1_machine.proofs.Agreeing.{settled_same}
use Rattle.law_1_machine.proofs.Disks.{at_log}

module _ {H : Type 0} (q : Quorums) (hs : Headers H) (g : History H) (o : HistoryOk q hs g) (r : ℕ) (slots : ℕ → Option H) (m : Memory H) (ok : MemoryOk q g r slots m)
    (tie : g.log_view r ≡ m.log_view) (mark : g.checkpoint r ≡ m.checkpoint) (v low head c p : ℕ) (headers : ℕ → Option H) (offer : Offered q g v low head c headers)
    (parts : ℕ → Part H) (commit n : ℕ) (t : Jumps m v low head c p headers parts commit n) where
  up : m.log_view ≤ v
  up = let a = ok.order in let b = t.view in omega arith

  same_log : (k : ℕ) → 0 < k → k ≤ m.commit → g.log v k ≡ g.log m.log_view k
  same_log k z l = settled_same q hs g o v m.log_view m.commit k offer.begun ok.knows.begun up ok.knows.settled z l

  settled_old : Settled q g v m.commit
  settled_old = settled_le q g m.log_view v m.commit m.commit up (omega arith) ok.knows.settled

  none_some : (x : H) → None ≡ Some x → ⊥
  none_some x e = cc

  some_same : (x y : H) → Some x ≡ Some y → x ≡ y
  some_same x y e = cc

  -- above low the header is that of the log that is taken over
  jump_named : (k : ℕ) → low < k → (l : k ≤ head) → (h : H) × (headers k ≡ Some h) × (header (parts k) ≡ Some h)
  jump_named k a l =
      let e = offer.whole k a l in
      elim (cases_lt p k) [
        | inr b ↦ (e.0, e.1, ap header (t.lost k e.0 a b e.1))
        | inl b ↦ elim (t.between k e.0 b l e.1) [ inl i ↦ (e.0, e.1, i.named) | inr z ↦ (e.0, e.1, ap header z.1) ]
      ]

  jump_above : (k : ℕ) (h : H) → head < k → header (parts k) ≡ Some h → (m.log_view ≡ v) × (parts k ≡ m.parts k)
  jump_above k h a s =
      elim (t.above k a) [
        | inl z ↦ (let e : header (parts k) ≡ None = ap header z.1 in absurd (none_some h (sym e ∙ s)))
        | inr z ↦ elim z.1 [ inl w ↦ (z.0, w) | inr w ↦ (let e : header (parts k) ≡ None = ap header w.1 in absurd (none_some h (sym e ∙ s))) ]
      ]

  jump_mine : (k : ℕ) (h : H) → header (parts k) ≡ Some h → InLog g v k h
  jump_mine k h s =
      elim (cases_lt low k) [
        | inr a ↦ elim (cases_lt m.commit k) [
          | inl b ↦ absurd (none_some h (sym (t.unsure k a b) ∙ s))
          | inr b ↦
              (let old = ok.knows.of_log k h (ap header (sym (t.below k a b)) ∙ s) in
              let x = t.commit_head in let y = offer.fits in
              (old.0, omega arith, old.2 ∙ sym (same_log k old.0 b)))
        ]
        | inl a ↦ elim (cases_lt head k) [
          | inr b ↦
              (let e = jump_named k a b in let y = offer.fits in
              (omega arith, omega arith, some_same h e.0 (sym s ∙ e.2) ∙ offer.of_log k e.0 e.1))
          | inl b ↦ (let z = jump_above k h b s in subst (λ w. InLog g w k h) z.0 (ok.knows.of_log k h (ap header (sym z.1) ∙ s)))
        ]
      ]

  jump_whole : (k : ℕ) → p < k → k ≤ n → (h : H) × (header (parts k) ≡ Some h)
  jump_whole k lo hi =
      let past = t.past in let a = past.0 in
      elim (cases_lt head k) [
        | inl b ↦ t.more k b hi
        | inr b ↦ (let e = jump_named k (omega arith) b in (e.0, e.2))
      ]

  jump_reach : (k : ℕ) (h : H) → header (parts k) ≡ Some h → k ≤ p + 64
  jump_reach k h s =
      let past = t.past in let b = past.2 in
      elim (cases_lt head k) [
        | inr a ↦ (let w = t.window in omega arith)
        | inl a ↦ (let z = jump_above k h a s in let w = ok.reach k h (ap header (sym z.1) ∙ s) in omega arith)
      ]

  jump_here : (k : ℕ) (h : H) → p < k → parts k ≡ Here h → m.parts k ≡ Here h
  jump_here k h lo s =
      let past = t.past in let b = past.0 in
      elim (cases_lt head k) [
        | inl a ↦ sym (jump_above k h a (ap header s)).1 ∙ s
        | inr a ↦ (let e = offer.whole k (omega arith) a in
            elim (t.between k e.0 lo a e.1) [ inl i ↦ i.here h s | inr z ↦ (let bad : Wanted e.0 ≡ Here h = sym z.1 ∙ s in absurd cc) ])
      ]

  jump_hold : Retains g r v (Held slots parts p)
  jump_hold u k voted le carried =
      let past = t.past in let p0 = past.0 in let p2 = past.2 in
      let vv = o.vouch r u k voted in
      let in_window = vv.4 in
      let u_lv : u ≤ m.log_view = (let z = vv.3 in omega arith) in
      let carried_old : CarriedThrough g u m.log_view k = λ w f a b. carried w f a (let x = up in omega arith) in
      elim (cases_lt p k) [
        | inr low ↦ inl low
        | inl high ↦ elim (ok.retains u k voted u_lv carried_old) [
          | inl l ↦ absurd (omega arith)
          | inr old ↦ elim (cases_lt head k) [
            | inr a ↦
                (let e = offer.whole k (omega arith) a in
                elim (t.between k e.0 high a e.1) [
                  | inl i ↦
                      (let now : g.log v k ≡ g.log u k = at_log g u v k offer.begun le carried in
                      let was : g.log m.log_view k ≡ g.log u k = at_log g u m.log_view k ok.knows.begun u_lv carried_old in
                      inr (old.0, i.stays old.1 (λ x s. (ok.knows.of_log k x s).2 ∙ (was ∙ (sym now ∙ sym (offer.of_log k e.0 e.1))))))
                  | inr z ↦ (let beyond = z.0 in absurd (omega arith))
                ])
            | inl a ↦ elim (t.above k a) [
              | inl z ↦ (let l = z.0 in let b = (carried v offer.begun (omega arith) (omega arith)).0 in let y = offer.past_base in absurd (omega arith))
              | inr z ↦ elim z.1 [ inl w ↦ inr (old.0, ap denied w ∙ old.1) | inr w ↦ (let beyond = w.0 in absurd (omega arith)) ]
            ]
          ]
        ]
      ]

  pub jump_ok : (root : List H) → root ≡ entries (g.log v) p → MemoryOk q g r slots (jumped m v p root parts commit n)
  jump_ok root rooted =
      let past = t.past in let pc = past.1 in
      let tc = t.committed in let t0 = tc.0 in let t1 = tc.1 in
      let re = t.reach in let r0 = re.0 in let ch = t.commit_head in let och = offer.commit_head in let ol = offer.past_base in
      let p2 = past.2 in
      record {
        knows = record {
          begun = offer.begun;
          past_base = omega arith;
          of_log = jump_mine;
          whole = jump_whole;
          low_commit = omega arith;
          commit_head = elim tc.2 [ inl e ↦ omega arith | inr e ↦ omega arith ];
          window = re.1;
          settled = elim tc.2 [ inl e ↦ rw e settled_old | inr e ↦ rw e offer.settled ];
        };
        order = omega arith;
        next = t.next;
        reach = jump_reach;
        applied = (omega arith, omega arith, omega arith);
        here = λ k h lo s. ok.here k h (omega arith) (jump_here k h lo s);
        root = rooted;
        state = refl;
        retains = jump_hold;
      }
