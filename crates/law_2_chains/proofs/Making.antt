-- Each entry of a log was made: by the primary of its own view, at its own number.
use Rattle.std.proofs.Common.{ℕ, zero, suc, ◌≤◌, ◌<◌, ◌≡◌, inl, inr, arith, sym, subst, true}
use Rattle.std.proofs.lemmas.Bool.{cases_lt}
use Rattle.vr_header.specs.declared.header.Header.{Header}
use Rattle.law_1_machine.specs.Basics.{In}
use Rattle.law_1_machine.specs.Group.{Group, made_at}
use Rattle.law_1_machine.specs.Headers.{Headers}
use Rattle.law_1_machine.specs.History.{History}
use Rattle.law_1_machine.specs.Invariant.{Invariant}
use Rattle.law_1_machine.specs.Machine.{Running, MayWrite}
use Rattle.law_1_machine.specs.Members.{Memory}
use Rattle.law_1_machine.specs.Quorums.{Quorums}
use Rattle.law_1_machine.proofs.Moves.{reached_good, memory_of, source_known}
use Rattle.law_2_chains.specs.Chains.{Setup, IsReached, WasMade}
use Rattle.law_2_chains.specs.Reflecting.{entries_by}

module _ {H : Type 0} (q : Quorums) (hs : Headers H) (g : History H) (s : Group H) (y : Invariant q hs g s) where
  -- n bounds the view
  pub logged_made : (n v k : ℕ) → v < n → g.finished v ≡ true → 0 < k → k ≤ g.length v → In (made_at (hs.made (g.log v k)) k (g.log v k)) s.made
  logged_made zero v k less f a b = absurd (omega arith)
  logged_made (suc n) v k less f a b =
      elim (cases_lt (g.base v) k) [
        | inl above ↦ rw (y.history.made_in v k f above b) (y.made_all v k f above b)
        | inr below ↦
            elim (cases_lt 0 v) [
              | inr none ↦
                  let first = y.history.first.1 in
                  let z : v ≡ 0 = omega arith in
                  let base : g.base v ≡ 0 = rw z first in absurd (omega arith)
              | inl some ↦
                  let p = y.begun_by v some f in
                  let c = p.0 in
                  let ok = y.choices c p.1.made in
                  let is = p.1.view in
                  let base = p.1.base in
                  let lower = ok.less in
                  let fits = ok.fits in
                  let same : g.log v k ≡ g.log c.log_view k = p.1.log k (omega arith) in
                  rw same (logged_made n c.log_view k (omega arith) ok.begun a (omega arith))
            ]
      ]

-- what a member may write was made
pub written_made : (u : Setup) (s : Group Header) (i k : ℕ) (m : Memory Header) (e : Header) → IsReached u s → Running u.quorums (entries_by u.hash u.cluster) s i m
    → MayWrite u.quorums (entries_by u.hash u.cluster) s m k e → WasMade s.made e
written_made u s i k m e reached runs may =
    let q = u.quorums in
    let hs = entries_by u.hash u.cluster in
    let good = reached_good q hs s reached in
    let g = good.0 in
    let y = good.1 in
    let ok = (memory_of q hs g s y i m runs).1 in
    let known = source_known q hs g s y i (s.members i).slots m k e ok may in
    let begun = ok.knows.begun in
    let made = logged_made q hs g s y (suc m.log_view) m.log_view k (omega arith) begun known.0 known.1 in
    let number : (g.log m.log_view k).op ≡ k = y.history.number m.log_view k begun known.1 in
    let at : WasMade s.made (g.log m.log_view k) = rw number made in
    subst (WasMade s.made) (sym known.2) at
