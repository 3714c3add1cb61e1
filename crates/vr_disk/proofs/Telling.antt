-- Facts of a disk that may tell, where it does.
use Rattle.std.proofs.Common.{ℕ, ◌≡◌, refl, Bool, List, Option, Some, None, subst}
use Rattle.std.specs.Prelude.{IfSome}
use Rattle.vr_disk.specs.DiskState.{Call, Disk, ReadsTo, Runs, RunsFrom, reads}

pub if_some : {X : Type 0} → (P : X → Type 0) (o : Option X) → ((x : X) → o ≡ Some x → P x) → IfSome o P
if_some P None h = tt
if_some P (Some x) h = h x refl

pub some_if : {X : Type 0} → (P : X → Type 0) (o : Option X) (x : X) → IfSome o P → o ≡ Some x → P x
some_if P None x h e = absurd cc
some_if P (Some y) x h e = let same : y ≡ x = cc in subst P same h

pub reads_to : (i : ℕ) (t : Option Disk) (g : Option (List ℕ)) (d : Disk) → ReadsTo i t g → t ≡ Some d → reads d.face i ≡ g
reads_to i None g d h e = absurd cc
reads_to i (Some x) g d h e = let same : x ≡ d = cc in subst (λ (x : Disk). reads x.face i ≡ g) same h

-- calls that are the same whatever the disk holds
pub runs_const : (cs : List Call) (a b : Option Disk) (ok : Bool) → Runs cs a b ok → RunsFrom (λ f. cs) a b ok
runs_const cs None b ok h = h
runs_const cs (Some d) b ok h = h
