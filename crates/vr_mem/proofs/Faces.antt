-- The sectors that a disk tells, as they are made and as they read as something else.
use Rattle.std.proofs.Common.{ℕ, zero, suc, ◌≡◌, ◌<◌, refl, ◌∙◌, arith, List, [], length-set, get_or, Option, Some, subst}
use Rattle.std.specs.List.{All}
use Rattle.std.proofs.lemmas.List.Elements.{All-replicate, All-set}
use Rattle.vr_disk.proofs.Faces.{there}
use Rattle.vr_disk.specs.DiskState.{Face, IsCell, IsContent, IsFace, cell}
use Rattle.vr_disk.specs.Regions.{sectors}
use Rattle.vr_mem.specs.Lies.{lied}
use Rattle.vr_mem.specs.Seen.{copies, zero_cell}
use Rattle.vr_mem.proofs.Places.{length_copies}

all_copies : {X : Type 0} → (P : X → Type 0) (n : ℕ) (x : X) → P x → All P (copies n x)
unfolding copies
all_copies P n x h = All-replicate P n x h

zero_byte : (n i : ℕ) → get_or (copies n 0) i 0 < 256
unfolding copies
zero_byte zero i = omega arith
zero_byte (suc n) zero = omega arith
zero_byte (suc n) (suc i) = zero_byte n i

zeros_are : (n : ℕ) → n ≡ 512 → IsContent (copies n 0)
zeros_are n e = record { size = length_copies n 0 ∙ e; each = zero_byte n }

zero_is : IsCell zero_cell
unfolding zero_cell
zero_is =
    let z = zeros_are 512 refl in
    record { truth = z; reads = λ b e. let same : copies 512 0 ≡ b = cc in subst IsContent same z; before = z }

pub face_zeros : (f : Face) → f ≡ record { cells = copies sectors zero_cell; waiting = [] } → IsFace f
face_zeros f e = rw e (record { count = length_copies sectors zero_cell; cells = all_copies IsCell sectors zero_cell zero_is; waiting = λ k d l. absurd (omega arith) })

-- a sector that reads as something else
pub face_lied : (f : Face) (i : ℕ) (r : Option (List ℕ)) → IsFace f → i < sectors → ((b : List ℕ) → r ≡ Some b → IsContent b) → IsFace (lied f i r)
unfolding lied
face_lied f i r h l n =
    let was = there f i h l in
    record { count = length-set f.cells i (record (cell f i) { reads = r }) ∙ h.count; cells = All-set IsCell f.cells i (record (cell f i) { reads = r }) (record { truth = was.truth; reads = n; before = was.before }) h.cells; waiting = h.waiting }
