-- A line that is written as far as its writes go.
use Rattle.std.proofs.Common.{◌≡◌, ◌⊎◌, ℕ, List, [], Option, Result, Ok, Err, refl, inl, arith}
use Rattle.std.proofs.lemmas.Grind.{common_steps}
use Rattle.std.specs.Io.KnownBytes.{Appends}
use Rattle.std.specs.Prelude.{OnErr, OnOk}
use Rattle.vr_base.specs.Causes.{HasCause, Rose, one_more}
use Rattle.vr_edge.proofs.Told.{appends_nil}
use Rattle.vr_edge.specs.Told.{AppendsFront}

pub no_front : (taken : Option (List ℕ)) (line : List ℕ) → AppendsFront taken taken line
no_front taken line = ([], line, appends_nil taken, refl)

pub front_by : {E : Type 0} (r : Result (Unit {0}) E) (old new : Option (List ℕ)) (line : List ℕ) → OnOk r (Appends old new line) → OnErr r (AppendsFront old new line) → AppendsFront old new line
front_by (Ok x) old new line ok err = (line, [], ok, grind (arith, common_steps))
front_by (Err e) old new line ok err = err

pub whole_by : {E : Type 0} {X : Type 0} (r : Result (Unit {0}) E) (old new : Option (List ℕ)) (line : List ℕ) (before now : ℕ)
    → OnOk r (Appends old new line) → HasCause before now r → ¬ Rose before now → Appends old new line ⊎ X
whole_by (Ok x) old new line before now ok cause none = inl ok
whole_by (Err e) old new line before now ok cause none = absurd (none (let same : now ≡ one_more before = cause.failed in omega (arith, same)))
