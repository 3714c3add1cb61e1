use Rattle.std.proofs.Common.{◌≡◌, arith, sym, subst, Option}
use Rattle.std.specs.Prelude.{IfSome}
use Rattle.vr_header.specs.declared.outcome.Outcome.{Outcome}
use Rattle.vr_header.specs.Bodies.{IsOutcome, outcome_bytes}
use Rattle.vr_header.proofs.BodyLaws.{any_outcome, outcome_found}
use Rattle.vr_header.proofs.body.made_outcome.Goals as goal

pub owned_outcome-requires : goal.owned_outcome-requires
owned_outcome-requires c =
    let b = c.args.bytes.now in
    let P : Option Outcome → Type 0 = λ o. IfSome o (λ x. (b ≡ outcome_bytes x) × IsOutcome c.args.version x) in
    any_outcome c.args.version _ (subst P (sym c.in-Some.ensures) (outcome_found c.args.version b (λ i. omega (arith, c.type_inv.bytes i)))).1
