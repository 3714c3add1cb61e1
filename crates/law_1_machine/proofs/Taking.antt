-- What a member knows after it has taken over a view's log is that log, and it still denies nothing that it vouched for.
use Rattle.law_1_machine.specs.Claims.{MemoryOk, Offered}
use Rattle.law_1_machine.specs.Group.{Held}
use Rattle.law_1_machine.specs.Headers.{Headers}
use Rattle.law_1_machine.specs.History.{CarriedThrough, History, HistoryOk, InLog, Retains, Settled}
use Rattle.law_1_machine.specs.Members.{Memory}
use Rattle.law_1_machine.specs.Parts.{Here, Part, denied, header}
use Rattle.law_1_machine.specs.Quorums.{Quorums}
use Rattle.law_1_machine.specs.Taking.{Takes, taken}
use Rattle.std.proofs.Common.{ℕ, ◌+◌, ◌≤◌, ◌<◌, ◌≡◌, ◌⊎◌, inl, inr, arith, sym, ap, ◌∙◌, Option, Some, None, subst}
use Rattle.std.proofs.lemmas.Bool.{cases_lt}
use Rattle.law_1_machine.proofs.Lasting.{state_map}
use Rattle.law_1_machine.proofs.Chains.{first_same, settled_le}
use Rattle.law_1_machine.proofs.Agreeing.{settled_same}
use Rattle.law_1_machine.proofs.Disks.{at_log}

data Place (low checkpoint head k : ℕ) : Type 0 where
  stays : (k ≤ low) ⊎ (k ≤ checkpoint) → Place low checkpoint head k
  new : low < k → checkpoint < k → k ≤ head → Place low checkpoint head k
  over : head < k → Place low checkpoint head k

place : (low checkpoint head k : ℕ) → Place low checkpoint head k
place low checkpoint head k =
    elim (cases_lt low k) [
      | inr a ↦ stays (inl a)
      | inl a ↦ elim (cases_lt checkpoint k) [
        | inr b ↦ stays (inr b)
        | inl b ↦ elim (cases_lt head k) [ inl c ↦ over c | inr c ↦ new a b c ]
      ]
    ]

module _ {H : Type 0} (q : Quorums) (hs : Headers H) (g : History H) (o : HistoryOk q hs g) (r : ℕ) (slots : ℕ → Option H) (m : Memory H) (ok : MemoryOk q g r slots m)
    (tie : g.log_view r ≡ m.log_view) (v low head c : ℕ) (headers : ℕ → Option H) (offer : Offered q g v low head c headers)
    (parts : ℕ → Part H) (commit n : ℕ) (t : Takes m v low head c headers parts commit n) where
  up : m.log_view ≤ v
  up = let a = ok.order in let b = t.view in omega arith

  -- the old log is the new one as far as it is settled
  same_log : (k : ℕ) → 0 < k → k ≤ m.commit → g.log v k ≡ g.log m.log_view k
  same_log k z l = settled_same q hs g o v m.log_view m.commit k offer.begun ok.knows.begun up ok.knows.settled z l

  settled_old : Settled q g v m.commit
  settled_old = settled_le q g m.log_view v m.commit m.commit up (omega arith) ok.knows.settled

  low_of : (k : ℕ) → (k ≤ low) ⊎ (k ≤ m.checkpoint) → k ≤ m.commit
  low_of k = elim [ inl a ↦ (let b = t.low_commit in omega arith) | inr a ↦ (let b = ok.knows.low_commit in omega arith) ]

  none_some : (x : H) → None ≡ Some x → ⊥
  none_some x e = cc

  some_same : (x y : H) → Some x ≡ Some y → x ≡ y
  some_same x y e = cc

  take_mine : (k : ℕ) (h : H) → header (parts k) ≡ Some h → InLog g v k h
  take_mine k h s =
      elim (place low m.checkpoint head k) [
        | stays a ↦
            (let l = low_of k a in
            let old = ok.knows.of_log k h (ap header (sym (t.below k a)) ∙ s) in
            let x = t.commit_head in let y = offer.fits in
            (old.0, omega arith, old.2 ∙ sym (same_log k old.0 l)))
        | new a b d ↦
            (let e = offer.whole k a d in
            let i = t.between k e.0 a b d e.1 in
            let y = offer.fits in
            (omega arith, omega arith, some_same h e.0 (sym s ∙ i.named) ∙ offer.of_log k e.0 e.1))
        | over a ↦ elim (t.above k a) [
          | inl p ↦ (let e : header (parts k) ≡ None = ap header p.1 in absurd (none_some h (sym e ∙ s)))
          | inr p ↦ subst (λ w. InLog g w k h) p.0 (ok.knows.of_log k h (ap header (sym p.1) ∙ s))
        ]
      ]

  take_whole : (k : ℕ) → m.checkpoint < k → k ≤ n → (h : H) × (header (parts k) ≡ Some h)
  take_whole k lo hi =
      elim (place low m.checkpoint head k) [
        | stays a ↦
            (let l = low_of k a in let y = ok.knows.commit_head in
            let w = ok.knows.whole k lo (omega arith) in (w.0, ap header (t.below k a) ∙ w.1))
        | new a b d ↦ (let e = offer.whole k a d in (e.0, (t.between k e.0 a b d e.1).named))
        | over a ↦ t.more k a hi
      ]

  take_reach : (k : ℕ) (h : H) → header (parts k) ≡ Some h → k ≤ m.checkpoint + 64
  take_reach k h s =
      elim (cases_lt head k) [
        | inr a ↦ (let w = t.window in omega arith)
        | inl a ↦ elim (t.above k a) [
          | inl p ↦ (let e : header (parts k) ≡ None = ap header p.1 in absurd (none_some h (sym e ∙ s)))
          | inr p ↦ ok.reach k h (ap header (sym p.1) ∙ s)
        ]
      ]

  take_here : (k : ℕ) (h : H) → m.checkpoint < k → parts k ≡ Here h → m.parts k ≡ Here h
  take_here k h lo s =
      elim (place low m.checkpoint head k) [
        | stays a ↦ sym (t.below k a) ∙ s
        | new a b d ↦ (let e = offer.whole k a d in (t.between k e.0 a b d e.1).here h s)
        | over a ↦ elim (t.above k a) [
          | inl p ↦ (let e : header (parts k) ≡ None = ap header p.1 in absurd (none_some h (sym e ∙ ap header s)))
          | inr p ↦ sym p.1 ∙ s
        ]
      ]

  take_hold : Retains g r v (Held slots parts m.checkpoint)
  take_hold u k voted le carried =
      let u_lv : u ≤ m.log_view = (let p = (o.vouch r u k voted).3 in omega arith) in
      let carried_old : CarriedThrough g u m.log_view k = λ w f a b. carried w f a (let x = up in omega arith) in
      elim (ok.retains u k voted u_lv carried_old) [
        | inl l ↦ inl l
        | inr p ↦ elim (place low m.checkpoint head k) [
          | stays a ↦ inr (p.0, ap denied (t.below k a) ∙ p.1)
          | new a b d ↦
              (let e = offer.whole k a d in
              let i = t.between k e.0 a b d e.1 in
              let now : g.log v k ≡ g.log u k = at_log g u v k offer.begun le carried in
              let was : g.log m.log_view k ≡ g.log u k = at_log g u m.log_view k ok.knows.begun u_lv carried_old in
              inr (p.0, i.stays p.1 (λ x s. (ok.knows.of_log k x s).2 ∙ (was ∙ (sym now ∙ sym (offer.of_log k e.0 e.1))))))
          | over a ↦ elim (t.above k a) [
            | inl z ↦ (let l = z.0 in let b = (carried v offer.begun (omega arith) (omega arith)).0 in let y = offer.past_base in absurd (omega arith))
            | inr z ↦ inr (p.0, ap denied z.1 ∙ p.1)
          ]
        ]
      ]

  pub take_ok : MemoryOk q g r slots (taken m v parts commit n)
  take_ok =
      let d = ok.knows in
      let tc = t.committed in let t0 = tc.0 in
      let re = t.reach in let r0 = re.0 in let ch = t.commit_head in let och = offer.commit_head in let ol = offer.past_base in
      let ap = ok.applied in let ap1 = ap.1 in
      let dl = d.low_commit in
      record {
        knows = record {
          begun = offer.begun;
          past_base = omega arith;
          of_log = take_mine;
          whole = take_whole;
          low_commit = omega arith;
          commit_head = elim tc.2 [ inl e ↦ omega arith | inr e ↦ omega arith ];
          window = re.1;
          settled = elim tc.2 [ inl e ↦ rw e settled_old | inr e ↦ rw e offer.settled ];
        };
        order = omega arith;
        next = t.next;
        reach = take_reach;
        applied = (ap.0, omega arith, ap.2);
        here = λ k h lo s. ok.here k h lo (take_here k h lo s);
        root = ok.root ∙ first_same (g.log m.log_view) (g.log v) m.checkpoint (λ k a b. sym (same_log k a (omega arith)));
        state = state_map g g m.log_view v m.checkpoint m.applied m.state (first_same (g.log m.log_view) (g.log v) m.applied (λ k a b. sym (same_log k a (omega arith)))) ok.state;
        retains = take_hold;
      }
