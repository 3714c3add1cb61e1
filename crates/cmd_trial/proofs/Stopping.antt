-- Members that are stopped, one after another.
use Rattle.std.proofs.Common.{◌≡◌, ◌<◌, ◌+◌, ℕ, List, [], ◌∷◌, get_or, drop, length, true, false, Option, Some, None, Result, Ok, Err, refl, sym, subst}
use Rattle.std.proofs.lemmas.List.{drop_more}
use Rattle.vr_base.specs.Causes.{HasCause}
use Rattle.vr_edge.specs.Told.{Grows}
use Rattle.vr_spawn.specs.Spawning.{stopped_by}
use Rattle.cmd_trial.specs.Run.{HasStop, Spawns, StopsAll}

has_stop : {E : Type 0} (id : ℕ) (a b : Spawns) (r : Result (Unit {0}) E) → Grows a.calls b.calls (stopped_by id r ∷ []) → HasCause a.faults b.faults r → HasStop id a b
has_stop id a b (Ok x) called cause = record { is_done = true; called = called; counted = cause.kept }
has_stop id a b (Err x) called cause = record { is_done = false; called = called; counted = cause.failed }

-- one stop, whatever it answers
pub stopped_once : {E : Type 0} (id : ℕ) (a b : Spawns) (r : Result (Unit {0}) E)
    → Grows a.calls b.calls (stopped_by id r ∷ []) → HasCause a.faults b.faults r → StopsAll (Some id ∷ []) a b
stopped_once id a b r called cause = (b, has_stop id a b r called cause, refl)

stops_cons : (id : Option ℕ) (ids : List (Option ℕ)) (a b c : Spawns) → StopsAll (id ∷ []) a b → StopsAll ids b c → StopsAll (id ∷ ids) a c
stops_cons None ids a b c one rest = subst (λ x. StopsAll ids x c) one rest
stops_cons (Some id) ids a b c one rest = (one.0, one.1, subst (λ x. StopsAll ids x c) one.2 rest)

pub stops_then : (ids : List (Option ℕ)) (i : ℕ) (d id : Option ℕ) (a b c : Spawns) → i < length ids → id ≡ get_or ids i d
    → StopsAll (id ∷ []) a b → StopsAll (drop (i + 1) ids) b c → StopsAll (drop i ids) a c
stops_then ids i d id a b c h is one rest =
    subst (λ l. StopsAll l a c) (sym (drop_more ids i d h)) (stops_cons (get_or ids i d) (drop (i + 1) ids) a b c (subst (λ x. StopsAll (x ∷ []) a b) is one) rest)
