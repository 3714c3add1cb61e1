-- The last word with which a view begins: it applies, and before that, where the group has no other replica, it counts what is stored of the log.
use Rattle.std.proofs.Common.{cond}
use Rattle.vr_rules.specs.Replica.{is_alone}
use Rattle.vr_rules.specs.Steps.{Word, by}
use Rattle.vr_rules.specs.Words.{advance, apply}
use Rattle.vr_rules.proofs.SilentWaits.{Mute, mute_advance, mute_apply, mute_by, mute_if}

abbrev pub last_word : {F : Type 0} → Word F
last_word = by (λ r. cond (is_alone r) advance apply)

pub mute_last : {F : Type 0} → Mute {F = F} last_word
mute_last = mute_by _ (λ r. mute_if (is_alone r) advance apply mute_advance mute_apply)
