-- What a script saves, one value after the other.
use Rattle.std.specs.Prelude.{ℕ, ◌≤◌, ◌≡◌, ⊤, List, [], ◌∷◌, Some}
use Rattle.std.specs.List.{AllByRecursion}
use Rattle.vr_disk.specs.Stops.{IsCall}
use Rattle.vr_msg.specs.declared.event.Event.{Event}
use Rattle.vr_super.specs.Copies.{IsGood, SuperValue}
use Rattle.vr_header.specs.Made.{Whole}
use Rattle.vr_super.specs.Opens.{file_kind}
use Rattle.vr_rings.specs.Slots.{IsWhole, slot_of, whole_in}
use Rattle.vr_rules.specs.Replica.{Replica}
use Rattle.vr_rules.specs.Steps.{Setting, Effect, Write, Rewrite, Save, Mend, Checkpoint, PutBlock, Say}
use Rattle.vr_rules.specs.Rules.{react}
use Rattle.vr_rules.specs.Opening.{resuming}
use Rattle.vr_rules.specs.Sectors.{calls_by}
use Rattle.vr_world.specs.Lying.{Lying, lying}

-- from one value to another: each is saved over the one before it, in a file of its kind, and what is mended is the last one
abbrev pub Chain : SuperValue → List Effect → SuperValue → Type 0
Chain v [] u = v ≡ u
Chain v (Write again e ∷ es) u = Chain v es u
Chain v (Rewrite h ∷ es) u = Chain v es u
Chain v (Save old new ∷ es) u = (old ≡ v) × (file_kind new.fields ≡ file_kind old.fields) × Chain new es u
Chain v (Mend x ∷ es) u = (x ≡ v) × Chain v es u
Chain v (Checkpoint cluster texts op old ∷ es) u = Chain v es u
Chain v (PutBlock name block ∷ es) u = Chain v es u
Chain v (Say output ∷ es) u = Chain v es u

-- the saves of each step, and of what comes of an opening, follow what the replica saved last; and it knows them
abbrev pub StepsChain : Type 0 → Type 0
StepsChain F = (s : Setting F) (f : F) (r : Replica) (e : Event) → Chain r.saved (react e s r f).script (react e s r f).replica.saved

abbrev pub OpeningsChain : Type 0 → Type 0
OpeningsChain F = (s : Setting F) (f : F) (r : Replica) → Chain r.saved (resuming s r f).script (resuming s r f).replica.saved

-- on this disk the header of an entry of the group, which the file takes, is written where that entry is read
abbrev pub IsRewritten : ℕ → Effect → Lying → Type 0
IsRewritten cluster (Rewrite h) d = (e : Whole) × (whole_in d.version d.face (slot_of h) ≡ Some e) × (e.header ≡ h) × (e.header.cluster ≡ cluster) × (e.header.version ≤ d.version)
IsRewritten cluster _ d = ⊤

-- each that a script writes, on the disk that the effects before it have left
abbrev pub Rewrites : ℕ → List Effect → Lying → Type 0
Rewrites cluster [] d = ⊤
Rewrites cluster (e ∷ es) d = IsRewritten cluster e d × Rewrites cluster es (lying.after d e)

-- an entry of that group, which the file takes, and a value of it have their forms
abbrev pub IsFormed : ℕ → Effect → Lying → Type 0
IsFormed cluster (Write again e) d = IsWhole e × (e.header.cluster ≡ cluster) × (e.header.version ≤ d.version)
IsFormed cluster (Rewrite h) d = IsRewritten cluster (Rewrite h) d
IsFormed cluster (Save old new) d = IsGood new × (new.fields.cluster ≡ cluster)
IsFormed cluster _ d = ⊤

-- each effect of a script has its form, and its sectors have their size
abbrev pub GoesWell : ℕ → List Effect → Lying → Type 0
GoesWell cluster [] d = ⊤
GoesWell cluster (e ∷ es) d = IsFormed cluster e d × AllByRecursion IsCall (calls_by d.version e d.face) × GoesWell cluster es (lying.after d e)
