-- The choice as a function and as a relation.
use Rattle.std.proofs.Common.{ℕ, ◌+◌, ◌≤◌, ◌<◌, ◌≡◌, inl, inr, arith, refl, sym, ap, ◌∙◌, List, length}
use Rattle.std.specs.Prelude.{All}
use Rattle.std.proofs.lemmas.Bool.{cases_lt, le-leb, lt-leb, lt-ltb, le-ltb}
use Rattle.vr_base.specs.declared.table.Quorums.{Quorums}
use Rattle.vr_msg.specs.declared.statement.Statement.{Statement}
use Rattle.vr_msg.specs.declared.choice.Choice.{Choice}
use Rattle.vr_msg.specs.declared.choice.Choice.TheVariants.{Ends, WaitsAt, TooFew}
use Rattle.vr_msg.specs.Choice.{IsChoice, choice, row_end, log_headers, denials}
use Rattle.vr_choose.proofs.Bounds.{IsBounded}
use Rattle.vr_choose.proofs.Gaps.{row_gap, row_long, gap_is}
use Rattle.vr_choose.proofs.Logs.{log_is, log_only}

-- the function meets the relation
pub choice_meets : (q : Quorums) (ss : List Statement) → All IsBounded ss → IsChoice q ss (choice q ss)
unfolding choice
choice_meets q ss all =
    let gap = row_gap ss in
    let K : ℕ = row_end ss + 1 in
    elim (cases_lt (length ss) q.view_change) [
      | inl few ↦ rw (lt-ltb (length ss) q.view_change few) few
      | inr enough ↦
          rw (le-ltb (length ss) q.view_change enough) (elim (cases_lt (denials ss K) q.nack) [
            | inl undecided ↦ rw (lt-leb q.nack (denials ss K) undecided) (record { enough = enough; next = gap; undecided = undecided })
            | inr denied ↦ rw (le-leb q.nack (denials ss K) denied) (record {
              head = row_end ss;
              ends = record { enough = enough; next = gap; denied = denied };
              log = log_is ss (row_end ss) all (row_long ss) (λ j a b. gap.whole j a (omega arith));
            })
          ])
    ]

-- and it alone does
pub choice_only : (q : Quorums) (ss : List Statement) (c : Choice) → IsChoice q ss c → c ≡ choice q ss
unfolding choice
choice_only q ss TooFew few = rw (lt-ltb (length ss) q.view_change few) refl
choice_only q ss (WaitsAt k) w =
    let same = gap_is ss k w.next in
    let undecided : denials ss (row_end ss + 1) < q.nack = rw same w.undecided in
    rw (le-ltb (length ss) q.view_change w.enough, lt-leb q.nack (denials ss (row_end ss + 1)) undecided) (ap WaitsAt (sym same))
choice_only q ss (Ends headers) e =
    let same : row_end ss + 1 ≡ e.head + 1 = gap_is ss (e.head + 1) e.ends.next in
    let head : e.head ≡ row_end ss = omega arith in
    let denied : q.nack ≤ denials ss (row_end ss + 1) = rw same e.ends.denied in
    rw (le-ltb (length ss) q.view_change e.ends.enough, le-leb q.nack (denials ss (row_end ss + 1)) denied)
    (ap Ends (log_only ss e.head headers e.log ∙ ap (log_headers ss) head))
