-- What stands of each effect.
use Rattle.std.specs.Prelude.{ℕ, ◌^◌, ◌≤◌, ◌<◌, ◌≡◌, List, ◌∷◌, length}
use Rattle.vr_base.specs.declared.kind.Kind.{Kind}
use Rattle.vr_rules.specs.Opening.{AreKinds}
use Rattle.vr_header.specs.declared.header.Header.{Header}
use Rattle.vr_super.specs.Copies.{SuperValue}
use Rattle.vr_rules.specs.Steps.{Effect, Mend, after_all}
use Rattle.vr_rules.specs.Sectors.{calls_by, script_calls}
use Rattle.vr_world.specs.Lying.{Lying, cut_calls, hazards, lying}
use Rattle.vr_world.specs.Group.{Group, Member, fresh_group, begins, carried_out, ends}
use Rattle.vr_world.specs.World.{World, Happening, fresh_world, happens}
use Rattle.law_4_disks.specs.Stocks.{IsStockedGroup}
use Rattle.law_4_disks.specs.Worlds.{AreBeside, IsMatchedBy, MayHappen, begun_in, first_world, read_in}
use Rattle.vr_world.specs.GroupFit.{IsFitGroup}
use Rattle.law_4_disks.specs.Beside.{AreMade, Finds, IsCutAt, IsOff, IsOn, MayCome, MayGo, Tells, TellsIn}

-- an effect that is carried out
abbrev pub EffectsStay : Type 0
EffectsStay = (e : Effect) (d : Lying) (m : Member) → IsOn d m → MayCome e d m.last → IsOn (lying.after d e) (ends e (begins e m))

-- one that is cut at one of its calls
abbrev pub EffectsCut : Type 0
EffectsCut =
    (e : Effect) (d : Lying) (m : Member) (j code : ℕ) → IsOn d m → MayCome e d m.last → j < length (calls_by d.version e d.face) → Tells e d j code
    → (v : SuperValue) × IsOff (cut_calls j code d (calls_by d.version e d.face)) (begins e m) v

-- ---- scripts of steps, from a running member

abbrev pub ScriptsStay : Type 0
ScriptsStay = (es : List Effect) (d : Lying) (m : Member) → IsOn d m → MayGo es d m.last → IsOn (after_all lying d es) (carried_out es m)

abbrev pub ScriptsCut : Type 0
ScriptsCut =
    (es : List Effect) (d : Lying) (m : Member) (j code : ℕ) → IsOn d m → MayGo es d m.last → j < length (script_calls d.version es d.face) → TellsIn es d j code → IsCutAt es d.face j (cut_calls j code d (script_calls d.version es d.face)) m

-- ---- scripts that begin with a mending, from a stopped member

abbrev pub OpeningsStay : Type 0
OpeningsStay =
    (es : List Effect) (d : Lying) (m : Member) (v : SuperValue) → IsOff d m v → MayGo (Mend v ∷ es) d v → IsOn (after_all lying d (Mend v ∷ es)) (carried_out (Mend v ∷ es) m)

abbrev pub OpeningsCut : Type 0
OpeningsCut =
    (es : List Effect) (d : Lying) (m : Member) (v : SuperValue) (j code : ℕ) → IsOff d m v → MayGo (Mend v ∷ es) d v → j < length (script_calls d.version (Mend v ∷ es) d.face) → TellsIn (Mend v ∷ es) d j code
    → IsCutAt (Mend v ∷ es) d.face j (cut_calls j code d (script_calls d.version (Mend v ∷ es) d.face)) m

-- ---- what an opening finds, from a stopped member of a group

abbrev pub OpeningsFind : Type 0
OpeningsFind =
    (d : Lying) (m : Member) (v : SuperValue) (made : List Header) → IsOff d m v → AreMade made v (lying.after d (Mend v)) → Finds d m v made

-- ---- a line of a schedule is a move of the group, or none

abbrev pub LinesAreMoves : Type 0
LinesAreMoves = (cluster : ℕ) (w : World Lying) (g : Group) (x : Happening) → AreBeside w g → IsFitGroup cluster g → IsStockedGroup g → MayHappen w g.made x → IsMatchedBy cluster (begun_in w x) (read_in w x) g (happens hazards w x)

-- ---- from the beginning: a group of 1 to 6 replicas, of any number, each on a file of a kind of its own

pub record Begin (kinds : ℕ → Kind) (cluster n : ℕ) : Type 0 where
  pub beside : AreBeside (first_world kinds cluster n) (fresh_group kinds cluster n)
  pub fit : IsFitGroup cluster (fresh_group kinds cluster n)
  pub stock : IsStockedGroup (fresh_group kinds cluster n)

abbrev pub WorldsBegin : Type 0
WorldsBegin = (kinds : ℕ → Kind) (cluster n : ℕ) → AreKinds kinds n → cluster < 2 ^ 64 → 1 ≤ n → n ≤ 6 → Begin kinds cluster n

-- the world that a schedule begins is one of them
abbrev pub SchedulesBegin : Type 0
SchedulesBegin = (kind : Kind) (n : ℕ) → fresh_world hazards kind n ≡ first_world (λ i. kind) 0 n
