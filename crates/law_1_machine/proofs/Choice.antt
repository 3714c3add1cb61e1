-- A choice from true statements gives a log with which the view may begin.
-- Each denier is past every earlier view and has vouched there or not at all. So if the number after the log's end might still be
-- committed, one of those who must have vouched for it would deny it, and its statement is true.
use Rattle.law_1_machine.specs.Choosing.{Chosen, Denies, other, plainly, silent}
use Rattle.law_1_machine.specs.Claims.{AllTrue, Knows, MayBegin}
use Rattle.law_1_machine.specs.Headers.{Headers}
use Rattle.law_1_machine.specs.History.{History, HistoryOk, InLog, MayCommit, MayHaveQuorum, Settled, lagging, may_vouch}
use Rattle.law_1_machine.specs.Members.{Statement}
use Rattle.law_1_machine.specs.Parts.{denied, header}
use Rattle.law_1_machine.specs.Quorums.{Quorums}
use Rattle.std.proofs.Common.{ℕ, suc, ◌≤◌, ◌<◌, ◌≡◌, inl, inr, arith, refl, sym, ◌∙◌, true, false, leb, Option, Some, None, subst}
use Rattle.std.proofs.lemmas.Bool.{cases_eq, cases_lt, both_ways, or_cases, leb-true}
use Rattle.law_1_machine.proofs.Counting.{meet, apart}
use Rattle.law_1_machine.proofs.Chains.{chain_top, descent, settled_le}
use Rattle.law_1_machine.proofs.Agreeing.{settled_len, settled_same}

no_header : {H : Type 0} (o : Option H) (x : H) → o ≡ None → o ≡ Some x → ⊥
no_header None x a b = cc
no_header (Some y) x a b = cc

some_inj : {H : Type 0} (x y : H) → Some x ≡ Some y → x ≡ y
some_inj x y e = cc

module _ {H : Type 0} (q : Quorums) (hs : Headers H) (g : History H) (o : HistoryOk q hs g)
    (v w c head : ℕ) (ts : ℕ → Option (Statement H)) (e : ℕ → Option H) (all : AllTrue q g v ts) (ch : Chosen q ts w c head e) where
  top_knows : (i : ℕ) (t : Statement H) → ts i ≡ Some t → t.log_view ≡ w → Knows q g w t.commit t.commit t.head (λ k. header (t.tags k))
  top_knows i t s at = subst (λ x. Knows q g x t.commit t.commit t.head (λ k. header (t.tags k))) at (all i t s).knows

  choice_begun : g.finished w ≡ true
  choice_begun = let p = ch.some_log_view in (top_knows p.0 p.1 p.3 p.4).begun

  choice_less : w < v
  choice_less = let p = ch.some_log_view in let l = (all p.0 p.1 p.3).less in let at = p.4 in omega arith

  choice_few : (u : ℕ) → u < v → lagging q g u < q.replication
  choice_few u less = apart q (λ r. leb (g.view r) u) ch.deniers ch.many
      (λ i l d s. let t = ch.deny i l d in let r = (all i t.0 t.1).reached in let b = leb-true (g.view i) u s in omega arith)

  -- of a number that may still be committed some denier has vouched
  choice_reach : (u k : ℕ) → u < v → MayHaveQuorum q g u k
      → (i : ℕ) × (t : Statement H) × (ts i ≡ Some t) × Denies w (suc head) e t × (g.vouched i u k ≡ true) × (u ≤ t.log_view)
  choice_reach u k less possible_vouchers =
      let m = meet q (λ r. may_vouch g r u k) ch.deniers possible_vouchers ch.many in
      let t = ch.deny m.0 m.1 m.3 in
      let ok = all m.0 t.0 t.1 in
      let voted : g.vouched m.0 u k ≡ true = (elim (or_cases (g.vouched m.0 u k) (leb (g.view m.0) u) m.2) [
        | inl y ↦ y
        | inr s ↦ (let r = ok.reached in let b = leb-true (g.view m.0) u s in absurd (omega arith))
      ]) in
      (m.0, t.0, t.1, t.2, voted, ok.none_between u k voted less)

  later_same : (u x k : ℕ) → g.finished x ≡ true → u ≤ x → 0 < k → MayCommit q g u k → g.log x k ≡ g.log u k
  later_same u x k f le z open_k =
      elim (cases_eq u x) [
        | inl same ↦ subst (λ y. g.log y k ≡ g.log u k) same refl
        | inr n ↦ ((o.safe x f).kept u k (omega arith) z open_k).1
      ]

  -- the number after the log's end can't be committed any more
  choice_ends : (u : ℕ) → u < v → MayCommit q g u (suc head) → ⊥
  choice_ends u less open_k =
      let r = choice_reach u (suc head) less (chain_top g.length (MayHaveQuorum q g) u (suc head) (omega arith) open_k).1 in
      let t = r.1 in
      let ok = all r.0 t r.2 in
      let le : u ≤ t.log_view = r.5 in
      let kept = ok.retains u (suc head) r.4 le (λ y f a b. (let s = (o.safe y f).kept u (suc head) a (omega arith) open_k in s)) in
      let undenied : denied (t.tags (suc head)) ≡ false = (elim kept [
        | inl low ↦ (let f = ch.no_later_commit r.0 t r.2 in let a = ch.ahead in absurd (omega arith))
        | inr k ↦ k
      ]) in
      elim r.3 [
        | plainly d ↦ both_ways (denied (t.tags (suc head))) undenied d
        | other a b lower ea hb ne ↦
            (let n = ch.named (suc head) a ea in
            let mine_a = (top_knows n.0 n.1 n.2 n.3).of_log (suc head) a n.4 in
            let mine_b = ok.knows.of_log (suc head) b hb in
            let same_w = later_same u w (suc head) choice_begun (omega arith) (omega arith) open_k in
            let same_t = later_same u t.log_view (suc head) ok.knows.begun le (omega arith) open_k in
            ne (mine_b.2 ∙ (same_t ∙ (sym same_w ∙ sym mine_a.2))))
        | silent lower none ↦
            (let p = ch.some_log_view in
            let knows = top_knows p.0 p.1 p.3 p.4 in
            let based = ((o.safe w choice_begun).kept u (suc head) (omega arith) (omega arith) open_k).0 in
            let past_base = knows.past_base in
            let far = ch.no_later_commit p.0 p.1 p.3 in
            let ahead = ch.ahead in
            let k = knows.whole (suc head) (omega arith) (omega arith) in
            no_header (header (p.1.tags (suc head))) k.0 (ch.unnamed (suc head) p.0 p.1 none p.3 p.4) k.1)
      ]

  choice_kept : (u k : ℕ) → u < v → 0 < k → MayCommit q g u k → (k ≤ head) × (g.log w k ≡ g.log u k)
  choice_kept u k less z open_k =
      elim (cases_lt head k) [
        | inl beyond ↦
            (let d = descent g.length (MayHaveQuorum q g) u k (suc head) (omega arith) open_k in
            let le = d.1 in absurd (choice_ends d.0 (omega arith) d.2))
        | inr within ↦
            (let r = choice_reach u k less (chain_top g.length (MayHaveQuorum q g) u k z open_k).1 in
            let le = r.5 in
            let up = ch.no_later_log_view r.0 r.1 r.2 in
            (within, later_same u w k choice_begun (omega arith) z open_k))
      ]

  choice_settled : Settled q g w c
  choice_settled =
      let f = ch.some_commit in
      let s = (all f.0 f.1 f.2).knows.settled in
      let up = ch.no_later_log_view f.0 f.1 f.2 in
      let at = f.3 in
      settled_le q g f.1.log_view w f.1.commit c up (omega arith) s

  choice_mine : (k : ℕ) (h : H) → e k ≡ Some h → InLog g w k h
  choice_mine k h s = let n = ch.named k h s in (top_knows n.0 n.1 n.2 n.3).of_log k h n.4

  choice_fits : head ≤ g.length w
  choice_fits =
      elim (cases_lt c head) [
        | inl more ↦ (let k = ch.whole head more (omega arith) in (choice_mine head k.0 k.1).1)
        | inr same ↦ (let l = settled_len q hs g o w c choice_begun choice_settled in omega arith)
      ]

  -- who denies the next number has not vouched for it in the view whose log was taken
  pub choice_silent : (i : ℕ) → i < q.n → ch.deniers i ≡ true → g.vouched i w (suc head) ≡ true → ⊥
  choice_silent i b d voted =
      let t = ch.deny i b d in
      let ok = all i t.0 t.1 in
      let le = ok.none_between w (suc head) voted choice_less in
      let undenied : denied (t.0.tags (suc head)) ≡ false = (elim (ok.retains w (suc head) voted le (λ x f a c. let m = ch.no_later_log_view i t.0 t.1 in absurd (omega arith))) [
        | inl low ↦ (let f = ch.no_later_commit i t.0 t.1 in let a = ch.ahead in absurd (omega arith))
        | inr k ↦ k
      ]) in
      elim t.2 [
        | plainly p ↦ both_ways (denied (t.0.tags (suc head))) undenied p
        | other a c lower ea hb ne ↦ absurd (omega arith)
        | silent lower none ↦ absurd (omega arith)
      ]

  pub choice : MayBegin q g ts v w c head e
  choice = record {
    safe = record { few = choice_few; kept = choice_kept };
    begun = choice_begun;
    less = choice_less;
    fits = choice_fits;
    settled = choice_settled;
    of_log = λ k h a b s. (choice_mine k h s).2;
    low = λ i t k h s l a.
        let ok = all i t s in
        let m = ok.knows.of_log k h a in
        m.2 ∙ sym (settled_same q hs g o w t.log_view t.commit k choice_begun ok.knows.begun (ch.no_later_log_view i t s) ok.knows.settled m.0 l);
  }
