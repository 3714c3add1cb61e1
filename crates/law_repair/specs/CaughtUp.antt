-- A running replica never waits at an op whose entry is here.
use Rattle.std.specs.Prelude.{ℕ, ◌≡◌, false}
use Rattle.vr_base.specs.declared.kind.Kind.{Kind}
use Rattle.vr_msg.specs.declared.event.Event.{Event}
use Rattle.vr_super.specs.Copies.{IsGood, SuperValue}
use Rattle.vr_rules.specs.Laws.{HasNames, IsEvent, ReadsHeaders}
use Rattle.vr_rules.specs.Opening.{blank, fresh, opening}
use Rattle.vr_rules.specs.Replica.{Replica, is_spent}
use Rattle.vr_rules.specs.Rules.{react}
use Rattle.vr_rules.specs.Sound.{IsCaughtUp, IsSound}
use Rattle.vr_rules.specs.Steps.{Setting}

-- Where sequence numbers are at their end nothing is said: there it ignores every event.
abbrev pub KeepsUp : Replica → Type 0
KeepsUp r = is_spent r ≡ false → IsCaughtUp r

-- ---- so it begins, and so it goes on

abbrev pub FreshKeepUp : Type 0
FreshKeepUp = (kind : Kind) (cluster n index : ℕ) → KeepsUp (fresh kind cluster n index)

-- from every value that makes a good copy, whatever headers read
abbrev pub OpeningsKeepUp : Type 0 → Type 0
OpeningsKeepUp F = (s : Setting F) (f : F) (v : SuperValue) → ReadsHeaders s f → IsGood v → KeepsUp (opening v s (blank v) f).replica

abbrev pub StepsKeepUp : Type 0 → Type 0
StepsKeepUp F = (s : Setting F) (f : F) (r : Replica) (e : Event) → HasNames s → IsSound r → IsEvent e → KeepsUp r → KeepsUp (react e s r f).replica
