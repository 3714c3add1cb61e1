use Rattle.std.proofs.Common.{arith, ℕ, ◌≡◌, ◌<◌, ◌∙◌, sym, ap, Option}
use Rattle.std.proofs.Common.{inl, inr}
use Rattle.std.proofs.lemmas.Bool.{cases_lt}
use Rattle.vr_header.specs.declared.header.Header.{Header}
use Rattle.vr_msg.specs.Choice.{named_by, intact, intact_by, reach}
use Rattle.vr_choose.proofs.Intact.{commit_small, reach_small, intact_within}
use Rattle.vr_choose.proofs.Bounds.{bounded}
use Rattle.vr_choose.proofs.Gaps.{row_ends}
use Rattle.vr_choose.proofs.walk.first_gap.Goals as goal

pub overflow_add-k : goal.overflow_add-k
overflow_add-k c = let small = commit_small c.args.statements.now (bounded c.args.statements.now c.requires.statements) in let commit = c.requires.commit in omega arith

pub loop-k-init : goal.loop-k-init
loop-k-init c =
    let small = commit_small c.args.statements.now (bounded c.args.statements.now c.requires.statements) in
    let commit = c.requires.commit in
    record { above = omega arith; whole = λ j a b. absurd (omega arith); small = omega arith }

-- what the test says of op k
tested : (c : goal.In-loop-k) → c.is_intact.result ≡ intact c.args.statements.now c.loop-k.k
tested c =
    let ss = c.args.statements.now in
    let k : ℕ = c.loop-k.k in
    c.is_intact.ensures ∙ ap (λ (o : Option Header). intact_by o k ss) (c.named_by.ensures ∙ ap (λ (w : ℕ). named_by w k ss) c.requires.view)

below_reach : (c : goal.In-loop-k) → c.loop-k.k < reach c.args.statements.now
below_reach c = intact_within c.loop-k.k c.args.statements.now (sym (tested c) ∙ c.loop-k-test.true)

pub loop-k-smaller : goal.loop-k-smaller
loop-k-smaller c = let l = below_reach c in omega arith

pub loop-k-preserved : goal.loop-k-preserved
loop-k-preserved c =
    let ss = c.args.statements.now in
    let l = below_reach c in
    let most = reach_small ss (bounded ss c.requires.statements) in
    let above = c.loop-k.invariant.above in
    record {
      above = omega arith;
      whole = λ j a b.
          elim (cases_lt j c.loop-k.k) [
            | inl before ↦ c.loop-k.invariant.whole j a before
            | inr at ↦ let same : j ≡ c.loop-k.k = omega arith in rw same (sym (tested c) ∙ c.loop-k-test.true)
          ];
      small = omega arith;
    }

pub returns : goal.returns
returns c =
    let ss = c.args.statements.now in
    let k : ℕ = c.loop-k.k in
    let test : c.is_intact.result ≡ intact ss k =
    c.is_intact.ensures ∙ ap (λ (o : Option Header). intact_by o k ss) (c.named_by.ensures ∙ ap (λ (w : ℕ). named_by w k ss) c.requires.view) in
    sym (row_ends ss k c.loop-k.invariant.above c.loop-k.invariant.whole (sym test ∙ c.loop-k-test.false))
