use Rattle.vr_text.proofs.Fronts.{front_then}
use Rattle.vr_text.proofs.printing.put_chosen.Goals as goal

pub returns-clause-front : goal.returns-clause-front
returns-clause-front c =
    front_then _ _ _ (front_then _ _ _ (front_then _ _ _ (front_then _ _ _ c.in_ok-put_number.ensures.front c.in_ok-put_number-2.ensures.front) c.in_ok-put_log.ensures.front) c.in_ok-put.ensures.front) c.put_parts.ensures.front
