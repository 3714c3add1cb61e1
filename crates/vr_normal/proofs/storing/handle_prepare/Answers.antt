use Rattle.std.proofs.Common.{arith, refl, rules, ◌≡◌, Err}
use Rattle.vr_disk.specs.declared.fault.Halt.TheVariants.{NoMemory}
use Rattle.vr_rules.proofs.Stepping.{does_no_memory}
use Rattle.vr_volatile.proofs.Memory.{ready_rested}
use Rattle.vr_normal.specs.declared.storing.PrepareRule.TheVariants as rule
use Rattle.vr_normal.proofs.Prepares.{may_known, may_next, not_passed, prepare_ahead, prepare_before, prepare_beyond, prepare_ignored, prepare_known, prepare_later, prepare_next, prepare_other, prepare_past}
use Rattle.vr_normal.proofs.storing.handle_prepare.Goals as goal

-- ---- what is asked for

pub hear-requires : goal.hear-requires
hear-requires g c = record { ready = c.requires.send.ready; room = c.requires.send.room }

pub store_known-requires-clause-may : goal.store_known-requires-clause-may
store_known-requires-clause-may g c = may_known _ _ _ c.decide_prepare.ensures c.in-Known.is c.requires.message c.header_of-header.ensures.values c.header_of-header.ensures.entry

pub store_next-requires-clause-may : goal.store_next-requires-clause-may
store_next-requires-clause-may g c = may_next _ _ _ c.decide_prepare.ensures c.in-Next.is c.requires.message c.header_of-header.ensures.values c.header_of-header.ensures.entry

pub ask_ahead-requires-clause-act : goal.ask_ahead-requires-clause-act
ask_ahead-requires-clause-act g c = record { ready = c.requires.send.ready; room = c.requires.send.room }

-- ---- prepares that are left be

pub returns-in-Ignored-clause-passed : goal.returns-in-Ignored-clause-passed
returns-in-Ignored-clause-passed g c = λ t. (refl, refl)

pub returns-in-Ignored-clause-acts : goal.returns-in-Ignored-clause-acts
returns-in-Ignored-clause-acts g c = record { ready = c.requires.send.ready; cause = record { later = omega arith; kept = refl; failed = λ e. absurd cc; wanted = λ e. absurd cc }; step = prepare_ignored _ _ _ _ _ c.decide_prepare.ensures c.in-Ignored.is }

pub returns-in-PreparedBefore-clause-passed : goal.returns-in-PreparedBefore-clause-passed
returns-in-PreparedBefore-clause-passed g c = λ t. (refl, refl)

pub returns-in-PreparedBefore-clause-acts : goal.returns-in-PreparedBefore-clause-acts
returns-in-PreparedBefore-clause-acts g c = record { ready = c.requires.send.ready; cause = record { later = omega arith; kept = refl; failed = λ e. absurd cc; wanted = λ e. absurd cc }; step = prepare_before _ _ _ _ _ c.decide_prepare.ensures c.in-PreparedBefore.is }

pub returns-in-Other-clause-passed : goal.returns-in-Other-clause-passed
returns-in-Other-clause-passed g c = λ t. (refl, refl)

pub returns-in-Other-clause-acts : goal.returns-in-Other-clause-acts
returns-in-Other-clause-acts g c = record { ready = ready_rested _ _ c.rest-in-Other.ensures.rested c.requires.send.ready; cause = record { later = omega arith; kept = refl; failed = λ e. absurd cc; wanted = λ e. absurd cc }; step = prepare_other _ _ _ _ _ c.decide_prepare.ensures _ c.in-Other.is c.rest-in-Other.ensures.rested }

-- ---- the others

pub returns-in-Past-clause-passed : goal.returns-in-Past-clause-passed
returns-in-Past-clause-passed g c = λ t. absurd (not_passed _ _ rule.Past c.decide_prepare.ensures c.in-Past.is refl t)

pub returns-in-Past-clause-acts : goal.returns-in-Past-clause-acts
returns-in-Past-clause-acts g c = record { ready = c.hear.ensures.ready; cause = c.hear.ensures.cause; step = prepare_past _ _ _ _ _ _ _ _ _ c.decide_prepare.ensures c.in-Past.is c.hear.ensures.step }

pub returns-in-Known-clause-passed : goal.returns-in-Known-clause-passed
returns-in-Known-clause-passed g c = λ t. absurd (not_passed _ _ rule.Known c.decide_prepare.ensures c.in-Known.is refl t)

pub returns-in-Known-clause-acts : goal.returns-in-Known-clause-acts
returns-in-Known-clause-acts g c = record { ready = c.store_known.ensures.ready; cause = c.store_known.ensures.cause; step = prepare_known _ _ _ _ _ _ _ _ _ c.decide_prepare.ensures c.in-Known.is c.store_known.ensures.step }

pub returns-in-Next-clause-passed : goal.returns-in-Next-clause-passed
returns-in-Next-clause-passed g c = λ t. absurd (not_passed _ _ rule.Next c.decide_prepare.ensures c.in-Next.is refl t)

pub returns-in-Next-clause-acts : goal.returns-in-Next-clause-acts
returns-in-Next-clause-acts g c = record { ready = c.store_next.ensures.ready; cause = c.store_next.ensures.cause; step = prepare_next _ _ _ _ _ _ _ _ _ c.decide_prepare.ensures c.in-Next.is c.store_next.ensures.step }

pub returns-in-Ahead-clause-passed : goal.returns-in-Ahead-clause-passed
returns-in-Ahead-clause-passed g c = λ t. absurd (not_passed _ _ rule.Ahead c.decide_prepare.ensures c.in-Ahead.is refl t)

pub returns-in-Ahead-clause-acts : goal.returns-in-Ahead-clause-acts
returns-in-Ahead-clause-acts g c = record { ready = c.ask_ahead.ensures.ready; cause = c.ask_ahead.ensures.cause; step = prepare_ahead _ _ _ _ _ _ _ _ _ c.decide_prepare.ensures c.in-Ahead.is c.ask_ahead.ensures.step }

pub returns-in-Beyond-clause-passed : goal.returns-in-Beyond-clause-passed
returns-in-Beyond-clause-passed g c = λ t. absurd (not_passed _ _ rule.Beyond c.decide_prepare.ensures c.in-Beyond.is refl t)

pub returns-in-Beyond-clause-acts : goal.returns-in-Beyond-clause-acts
returns-in-Beyond-clause-acts g c = record { ready = ready_rested _ _ c.rest.ensures.rested c.requires.send.ready; cause = record { later = omega arith; kept = refl; failed = λ e. absurd cc; wanted = λ e. absurd cc }; step = prepare_beyond _ _ _ _ _ c.decide_prepare.ensures _ c.in-Beyond.is c.rest.ensures.rested }

pub returns-in_ok-ask_view-in-PreparedLater-clause-passed : goal.returns-in_ok-ask_view-in-PreparedLater-clause-passed
returns-in_ok-ask_view-in-PreparedLater-clause-passed g c = λ t. absurd (not_passed _ _ rule.PreparedLater c.decide_prepare.ensures c.in-PreparedLater.is refl t)

pub returns-in_ok-ask_view-in-PreparedLater-clause-acts : goal.returns-in_ok-ask_view-in-PreparedLater-clause-acts
returns-in_ok-ask_view-in-PreparedLater-clause-acts g c = record { ready = c.requires.send.ready; cause = record { later = omega arith; kept = refl; failed = λ e. absurd cc; wanted = λ e. absurd cc }; step = prepare_later _ _ _ _ _ c.decide_prepare.ensures _ c.in-PreparedLater.is c.in_ok-ask_view-in-PreparedLater.ensures }

pub returns-in_err-ask_view-in-PreparedLater-clause-passed : goal.returns-in_err-ask_view-in-PreparedLater-clause-passed
returns-in_err-ask_view-in-PreparedLater-clause-passed g c = λ t. absurd (not_passed _ _ rule.PreparedLater c.decide_prepare.ensures c.in-PreparedLater.is refl t)

pub returns-in_err-ask_view-in-PreparedLater-clause-acts : goal.returns-in_err-ask_view-in-PreparedLater-clause-acts
returns-in_err-ask_view-in-PreparedLater-clause-acts g c =
    let is : c.from_residual.result ≡ Err NoMemory = search rules in
    record { ready = search rules; cause = search rules; step = rw is (does_no_memory _ _ _ _ _ _) }
