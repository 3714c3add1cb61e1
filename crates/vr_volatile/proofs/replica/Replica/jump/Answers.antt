use Rattle.std.proofs.Common.{◌∙◌, ap}
use Rattle.vr_rules.specs.Replica.{Replica}
use Rattle.vr_volatile.proofs.Jumps.{saved_landed, window_landed}
use Rattle.vr_volatile.proofs.Taken.{window_begun}
use Rattle.vr_volatile.proofs.replica.Replica.jump.Goals as goal

pub begin_log-requires : goal.begin_log-requires
begin_log-requires c = window_landed _ _ _ _ _ _ _ c.move_lists.ensures c.jump_parts.ensures c.land.ensures c.requires.may c.requires.window

pub forget-requires : goal.forget-requires
forget-requires c = window_begun _ _ _ _ c.begin_log.ensures (window_landed _ _ _ _ _ _ _ c.move_lists.ensures c.jump_parts.ensures c.land.ensures c.requires.may c.requires.window)

pub returns-clause-saved : goal.returns-clause-saved
returns-clause-saved c = ap (λ (r : Replica). r.saved) c.keep_names.ensures ∙ (c.forget.ensures.saved ∙ saved_landed _ _ _ _ _ _ _ _ c.move_lists.ensures c.jump_parts.ensures c.land.ensures c.begin_log.ensures)
