-- A log grows by one entry at a time: in each state that a run of the machine reaches, no number of an entry, and no head of a value, is
-- greater than the count of entries that were made.
use Rattle.std.proofs.Common.{ℕ, suc, ◌≤◌, ◌≡◌, inl, inr, arith, ap, subst, true, length, Option, Some, None}
use Rattle.std.proofs.lemmas.Bool.{cases_lt}
use Rattle.law_1_machine.specs.Basics.{In, Each}
use Rattle.law_1_machine.specs.Quorums.{Quorums}
use Rattle.law_1_machine.specs.Headers.{Headers}
use Rattle.law_1_machine.specs.History.{History, HistoryOk, finish}
use Rattle.law_1_machine.specs.Members.{Superblock}
use Rattle.law_1_machine.specs.Group.{Group, Made, made_at}
use Rattle.law_1_machine.specs.Claims.{SuperblockOk, UnderOk}
use Rattle.law_1_machine.specs.Claims as claim
use Rattle.law_1_machine.specs.Machine.{Reached, Step}
use Rattle.law_1_machine.specs.Machine as move
use Rattle.law_1_machine.specs.Invariant.{Ahead, Invariant}
use Rattle.law_1_machine.proofs.Agreeing.{settled_len}
use Rattle.law_1_machine.proofs.Histories.{finish_ok}
use Rattle.law_1_machine.proofs.Moves.{head_in_log, memory_of, reached_good}
use Rattle.law_6_one_log.proofs.Logged.{logged, updated}

-- what was made reaches no further than this
abbrev AreUpTo : {H : Type 0} → ℕ → Group H → Type 0
AreUpTo {H} bound s = (v k : ℕ) (h : H) → In (made_at v k h) s.made → k ≤ bound

-- ---- what a value's log holds

module _ {H : Type 0} (q : Quorums) (hs : Headers H) where
  value_in_log : (g : History H) (o : HistoryOk q hs g) (r : ℕ) (slots : ℕ → Option H) (x : Superblock H) → SuperblockOk q g r slots x → x.head ≤ g.length x.log_view
  value_in_log g o r slots x ok =
      let d = ok.knows in
      elim (cases_lt x.checkpoint x.head) [
        | inl l ↦ (let w = d.whole x.head l (omega arith) in (d.of_log x.head w.0 w.1).1)
        | inr l ↦ (let a = d.low_commit in let b = d.commit_head in let c = settled_len q hs g o x.log_view x.commit d.begun d.settled in omega (arith, l, a, b, c))
      ]

  module _ (g : History H) (s : Group H) (y : Invariant q hs g s) (bound : ℕ) (all : AreUpTo bound s) where
    log_short : (w : ℕ) → g.finished w ≡ true → g.length w ≤ bound
    log_short w f =
        elim (cases_lt 0 (g.length w)) [
          | inl some ↦ (let m = logged q hs g s y w w (g.length w) (omega arith) f some (omega arith) in all m.0 (g.length w) (g.log w (g.length w)) m.1)
          | inr none ↦ omega (arith, none)
        ]

    last_short : (r : ℕ) → (s.members r).last.head ≤ bound
    last_short r =
        let o = (y.members r).last in
        let a = value_in_log g y.history r (s.members r).slots (s.members r).last o in
        let b = log_short (s.members r).last.log_view o.knows.begun in
        omega (arith, a, b)

    under_short : (r : ℕ) (x : Superblock H) → UnderOk q g s.chosen r (s.members r).slots x → x.head ≤ bound
    under_short r x (claim.as_it_was o) =
        let a = value_in_log g y.history r (s.members r).slots x o in
        let b = log_short x.log_view o.knows.begun in
        omega (arith, a, b)
    under_short r x (claim.to_begin c i v d l m o) =
        let a = value_in_log (finish g x.log_view c.log_view c.head) (finish_ok q hs g y.history x.log_view c.log_view c.head d) r (s.members r).slots x o in
        let size : x.head ≤ c.head = subst (λ (n : ℕ). x.head ≤ n) (updated g.length x.log_view c.head) a in
        let fits = d.fits in
        let b = log_short c.log_view d.begun in
        omega (arith, size, fits, b)

    cut_short : (r : ℕ) (x : Superblock H) → (s.members r).under ≡ Some x → x.head ≤ bound
    cut_short r x u =
        let o = subst (Each (λ (x : Superblock H). ((s.members r).memory ≡ None) × Ahead (s.members r).last x × UnderOk q g s.chosen r (s.members r).slots x)) u (y.members r).under in
        under_short r x o.2

  -- ---- what is made

  made_next : (n v k : ℕ) (h : H) (v' k' : ℕ) (h' : H) → made_at v k h ≡ made_at v' k' h' → k' ≤ n → k ≤ n
  made_next n v k h v' k' h' e l = let same = ap (λ (x : Made H). x.number) e in omega (arith, same, l)

  moved_up : (s s' : Group H) → Reached q hs s → Step q hs s s' → AreUpTo (length s.made) s → AreUpTo (length s'.made) s'
  moved_up s _ reached (move.remembers r m m' runs x) all = all
  moved_up s _ reached (move.saves r m m' named runs x n) all = all
  moved_up s _ reached (move.saves_cut r m m' named runs x n) all = all
  moved_up s _ reached (move.chooses r m parts c n named runs b x) all = all
  moved_up s _ reached (move.chooses_cut r m parts c n named runs b x) all = all
  moved_up s _ reached (move.makes r m e runs a b c d f new) all =
      let good = reached_good q hs s reached in
      let g = good.0 in
      let y = good.1 in
      let ok = (memory_of q hs g s y r m runs).1 in
      let within = head_in_log q hs g s y r (s.members r).slots m ok in
      let short = log_short g s y (length s.made) all m.log_view ok.knows.begun in
      λ v k h i. elim i [
        | inl one ↦ made_next (suc (length s.made)) v k h m.log_view (suc m.head) e one (omega (arith, within, short))
        | inr old ↦ (let l = all v k h old in omega (arith, l))
      ]
  moved_up s _ reached (move.begins_write r m k e o runs w a b c d f) all = all
  moved_up s _ reached (move.ends_write r m k e n runs w a b c d) all = all
  moved_up s _ reached (move.stops r) all = all
  moved_up s _ reached (move.opens_last r) all = all
  moved_up s _ reached (move.opens_cut r x u) all = all
  moved_up s _ reached (move.writes_header r k e o a b c d f g h) all = all
  moved_up s _ reached (move.starts r parts slots n a b c d f) all = all
  moved_up s _ reached (move.accepts r m k x runs c) all = all
  moved_up s _ reached (move.prepares r m k x c runs a b d) all = all
  moved_up s _ reached (move.says r m x runs a) all = all

  all_up : (s : Group H) → Reached q hs s → AreUpTo (length s.made) s
  all_up _ move.at_first = λ v k h i. absurd i
  all_up _ (move.and_then s s' reached step) = moved_up s s' reached step (all_up s reached)

pub record AreShort {H : Type 0} (s : Group H) : Type 0 where
  pub last : (r : ℕ) → (s.members r).last.head ≤ length s.made
  pub under : (r : ℕ) (x : Superblock H) → (s.members r).under ≡ Some x → x.head ≤ length s.made

pub values_short : {H : Type 0} (q : Quorums) (hs : Headers H) (s : Group H) → Reached q hs s → AreShort s
values_short q hs s r =
    let y = reached_good q hs s r in
    let all = all_up q hs s r in
    record { last = λ i. last_short q hs y.0 s y.1 (length s.made) all i; under = λ i x u. cut_short q hs y.0 s y.1 (length s.made) all i x u }
