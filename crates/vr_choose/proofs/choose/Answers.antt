use Rattle.std.proofs.Common.{arith, ℕ, ◌≡◌, ◌+◌, ◌-◌, ◌∙◌, sym, refl, subst, List, Option}
use Rattle.std.specs.Prelude.{count_by}
use Rattle.vr_header.specs.declared.header.Header.{Header}
use Rattle.vr_msg.specs.declared.statement.Statement.{Statement}
use Rattle.vr_msg.specs.Choice.{top_view, named_by, denies_by, denials, row_end, log_headers, IsGap, IsLog}
use Rattle.vr_choose.proofs.Bounds.{bounded}
use Rattle.vr_choose.proofs.Gaps.{row_gap, row_long, row_small}
use Rattle.vr_choose.proofs.Logs.{log_is}
use Rattle.vr_choose.proofs.choose.Goals as goal

-- how many deny, from what the calls give
denials_are : (ss : List Statement) (view k n : ℕ) (e : Option Header) → view ≡ top_view ss → e ≡ named_by view k ss
    → n ≡ count_by (denies_by view e k) ss → n ≡ denials ss k
denials_are ss view k n e v h s = s ∙ rw (h, v) refl

gap_there : (ss : List Statement) (gap : ℕ) → gap ≡ row_end ss + 1 → IsGap ss gap
gap_there ss gap e = subst (IsGap ss) (sym e) (row_gap ss)

pub returns-then-denials-quorums-clause-meaning : goal.returns-then-denials-quorums-clause-meaning
returns-then-denials-quorums-clause-meaning c =
    let ss = c.args.statements.now in
    let gap : ℕ = c.first_gap-gap.result in
    let denied = denials_are ss c.top_view-view.result gap c.denials.result c.named_by-named.result c.top_view-view.ensures c.named_by-named.ensures c.denials.ensures in
    let few = c.if-denials-quorums.true in
    record { enough = c.if-statements-quorums.false; next = gap_there ss gap c.first_gap-gap.ensures; undecided = rw (← denied) few }

pub log_headers-requires-clause-reaches : goal.log_headers-requires-clause-reaches
log_headers-requires-clause-reaches c =
    let ss = c.args.statements.now in
    let long = row_long ss in
    omega (arith, c.first_gap-gap.ensures, c.top_commit-commit.ensures)

pub log_headers-requires-clause-small : goal.log_headers-requires-clause-small
log_headers-requires-clause-small c = let row = row_small c.args.statements.now (bounded c.args.statements.now c.requires) in omega (arith, c.first_gap-gap.ensures)

pub returns-clause-meaning : goal.returns-clause-meaning
returns-clause-meaning c =
    let ss = c.args.statements.now in
    let gap : ℕ = c.first_gap-gap.result in
    let denied = denials_are ss c.top_view-view.result gap c.denials.result c.named_by-named.result c.top_view-view.ensures c.named_by-named.ensures c.denials.ensures in
    let many = c.if-denials-quorums.false in
    let here = row_gap ss in
    let at : gap ≡ row_end ss + 1 = c.first_gap-gap.ensures in
    let below : gap - 1 ≡ row_end ss = omega arith in
    let headers : c.in_ok-headers.headers ≡ log_headers ss (gap - 1) = c.in_ok-headers.ensures in
    let log : IsLog ss (row_end ss) (log_headers ss (row_end ss)) =
    log_is ss (row_end ss) (bounded ss c.requires) (row_long ss) (λ j a b. here.whole j a (omega arith)) in
    record {
      head = row_end ss;
      ends = record { enough = c.if-statements-quorums.false; next = here; denied = rw (← at, ← denied) many };
      log = rw (headers, below) log;
    }
