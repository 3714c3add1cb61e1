-- Visits come round: each takes the place after that of the one before.
use Rattle.std.specs.Prelude.{◌+◌, ◌%◌, ◌≡◌, true, List, [], ◌∷◌, length}
use Rattle.vr_rules.specs.Replica.{Replica}
use Rattle.vr_rules.specs.Steps.{Setting}
use Rattle.vr_rules.specs.Words.{is_loaded, place_now, places, visit}

-- visits one after the other, each of a disk as it is then
unfoldable pub after_visits : {F : Type 0} → Setting F → List F → Replica → Replica
after_visits s [] r = r
after_visits s (f ∷ fs) r = after_visits s fs (visit s r f).replica

-- Whatever the disk reads as, the place of the visit after these is as many places on, around: as many visits as there are places come to each.
abbrev pub VisitsTurn : Type 0 → Type 0
VisitsTurn F = (s : Setting F) (fs : List F) (r : Replica) → is_loaded r ≡ true → place_now (after_visits s fs r) ≡ (place_now r + length fs) % places r
