-- A new member is made on its disk.
use Rattle.vr_state.proofs.Fitting.{Fits-empty}
use Rattle.vr_state.specs.Fitting.{Fits}
use Rattle.vr_base.specs.declared.kind.Kind.{Kind}
use Rattle.std.proofs.Common.{arith, ℕ, ◌≡◌, ◌<◌, ◌≤◌, ◌^◌, ◌∙◌, refl, sym, ap, subst, Bool, true, false, List, Option, Some, None, Ok, Err}
use Rattle.std.specs.Prelude.{IfSome, is_some}
use Rattle.vr_base.specs.declared.table.Config.{Config}
use Rattle.vr_base.specs.Groups.{is_size}
use Rattle.vr_disk.specs.DiskState.{Disk}
use Rattle.vr_super.specs.declared.opening.Found.{Found}
use Rattle.vr_super.specs.Copies.{SuperValue, IsGood}
use Rattle.vr_super.specs.Opens.{file_kind, good_copies, opened, found_of}
use Rattle.vr_rules.specs.Opening.{IsKind, fresh, blank, first_value}
use Rattle.vr_rules.specs.Replica.{Replica, forgetting, version, head}
use Rattle.vr_rules.specs.Sound.{IsSound, IsSavable}
use Rattle.vr_rules.proofs.Slots.{value_is}
use Rattle.vr_rules.proofs.Openings.{partly_blank, opened_forgetting}
use Rattle.vr_rules.proofs.SavesFound.{found_topped, savable_found}
use Rattle.vr_opening.proofs.First.{first_good}
use Rattle.vr_volatile.specs.Ready.{IsReady}
use Rattle.vr_opening.specs.declared.new_member.FreshFault.TheVariants.{Occupied, DiskFault, NoMemory}
use Rattle.vr_opening.specs.Making.{Agrees, Formats, Made}

found_some : (o : Option (List ℕ)) (f : List ℕ → Found) → is_some o ≡ is_some (Rattle.std.specs.Option.option_map f o)
found_some None f = refl
found_some (Some x) f = refl

pub found_opened : (d : Option Disk) (o : Option Found) → IfSome d (λ x. o ≡ found_of (good_copies x.face)) → IfSome d (λ x. is_some o ≡ is_some (opened (good_copies x.face)))
unfolding found_of
found_opened None o h = tt
found_opened (Some x) o h = rw h (sym (found_some (opened (good_copies x.face)) _))

pub fresh_saved : (kind : Kind) (cluster n index : ℕ) (r : Replica) → r ≡ fresh kind cluster n index → r.saved ≡ first_value kind cluster n index
unfolding blank
fresh_saved kind cluster n index r e = ap (λ (x : Replica). x.saved) e

pub occupied : (kind : Kind) (c : Config) (d d' : Option Disk) (b : Bool) → Agrees d b → b ≡ true → d' ≡ d → Made kind c d d' (Err Occupied)
occupied kind c d d' b a e s = record { is = (rw e at a, s) }

pub wanted : (kind : Kind) (c : Config) (d d' : Option Disk) (b : Bool) → Agrees d b → b ≡ false → d' ≡ d → Made kind c d d' (Err NoMemory)
wanted kind c d d' b a e s = record { is = (rw e at a, s) }

-- the kind of the file that it formats is the one that it was asked for
pub fresh_so : (kind : Kind) (cluster n index : ℕ) (r : Replica) → r ≡ fresh kind cluster n index → r ≡ fresh (file_kind r.saved.fields) cluster n index
unfolding blank
fresh_so kind cluster n index r e = e ∙ ap (λ (k : Kind). fresh k cluster n index) (sym (ap (λ (x : Replica). file_kind x.saved.fields) e))

formats_so : (kind : Kind) (c : Config) (r : Replica) (d d' : Option Disk) (ok : Bool) → r ≡ fresh kind c.cluster c.n c.replica → Formats (file_kind r.saved.fields) c d d' ok → Formats kind c d d' ok
unfolding blank
formats_so kind c r d d' ok e = subst (λ (k : Kind). Formats k c d d' ok) (ap (λ (x : Replica). file_kind x.saved.fields) e)

pub made : (kind : Kind) (c : Config) (d d1 d' : Option Disk) (b : Bool) (r : Replica) → Agrees d b → b ≡ false → d1 ≡ d → r ≡ fresh kind c.cluster c.n c.replica → Formats (file_kind r.saved.fields) c d1 d' true → Made kind c d d' (Ok r)
made kind c d d1 d' b r a e s i h =
    let f : Formats kind c d1 d' true = formats_so kind c r d1 d' true i h in
    record { is = (rw e at a, i, rw s at f) }

pub stopped : (kind : Kind) (c : Config) (d d1 d' : Option Disk) (b : Bool) (r : Replica) → Agrees d b → b ≡ false → d1 ≡ d → r ≡ fresh kind c.cluster c.n c.replica → Formats (file_kind r.saved.fields) c d1 d' false → Made kind c d d' (Err DiskFault)
stopped kind c d d1 d' b r a e s i h =
    let f : Formats kind c d1 d' false = formats_so kind c r d1 d' false i h in
    record { is = (rw e at a, rw s at f) }

-- the value that it formats its disk with
pub fresh_value : (c : Config) (r : Replica) (v : SuperValue) → v ≡ r.saved → r ≡ fresh (file_kind r.saved.fields) c.cluster c.n c.replica → v ≡ first_value (file_kind v.fields) c.cluster c.n c.replica
fresh_value c r v s e =
    s ∙ (fresh_saved (file_kind r.saved.fields) c.cluster c.n c.replica r e ∙ ap (λ (w : SuperValue). first_value (file_kind w.fields) c.cluster c.n c.replica) (sym s))

-- nothing is forgotten of a replica that knows nothing
fresh_forgets : (kind : Kind) (cluster n index : ℕ) → forgetting (fresh kind cluster n index) ≡ fresh kind cluster n index
unfolding forgetting head blank
fresh_forgets kind cluster n index = refl

fresh_idle : (kind : Kind) (cluster n index : ℕ) → (fresh kind cluster n index).idle ≤ 9
unfolding blank
fresh_idle kind cluster n index = omega arith

fresh_state : (kind : Kind) (cluster n index : ℕ) → Fits (version (fresh kind cluster n index)) (fresh kind cluster n index).state
unfolding blank
fresh_state kind cluster n index = Fits-empty kind.version

pub fresh_ready : (kind : Kind) (cluster n index : ℕ) (r : Replica) → IsKind kind → cluster < 2 ^ 64 → index < 256 → n < 256 → is_size kind.version n ≡ true → index < n → r ≡ fresh kind cluster n index → IsReady r
unfolding IsReady
fresh_ready kind cluster n index r k a b c s m e =
    let v : SuperValue = first_value kind cluster n index in
    let g : IsGood v = first_good kind cluster n index k a b c s m in
    let w = value_is v g in
    let x : Replica = blank v in
    let part = partly_blank v in
    let top = found_topped v 0 x w part (omega arith) (λ i j. absurd (omega (arith, j))) in
    let sound : IsSound x = subst IsSound (fresh_forgets kind cluster n index) (opened_forgetting v 0 x w part (omega arith)).sound in
    let savable : IsSavable x = savable_found v x.parts g top in
    rw e (record { sound = sound; savable = savable; idle = fresh_idle kind cluster n index; fits = fresh_state kind cluster n index })
