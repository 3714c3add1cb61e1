-- A value that a file opens as is of the file's version, and what a disk tells of its slots tells the version too.
use Rattle.std.proofs.Common.{ℕ, ◌≡◌, ◌≤◌, ◌∙◌, ◌∷◌, [], arith, refl, sym, ap, cond, inl, inr, true, false, eqb, List, Option, Some, None}
use Rattle.std.specs.Option.{option_and_then}
use Rattle.std.proofs.lemmas.Bool.{cases_lt, eqb-true}
use Rattle.vr_disk.specs.DiskState.{Call, CallVerdict, Face, Goes, Write}
use Rattle.vr_disk.specs.Regions.{prepare_place}
use Rattle.vr_disk.specs.Sectors.{together}
use Rattle.vr_super.specs.Copies.{SuperValue}
use Rattle.vr_super.specs.Opens.{opens}
use Rattle.vr_rings.specs.Held.{entry_of_both, held_after, keeps}
use Rattle.vr_lie.specs.Faults.{held_at}
use Rattle.vr_lie.specs.Told.{version_by}
use Rattle.vr_rules.specs.Opening.{blank}
use Rattle.vr_rules.specs.Replica.{version}
use Rattle.vr_rules.specs.Sectors.{of_version, sectors_by}
use Rattle.vr_host_disk.specs.Disks.{lying_of, told_by}
use Rattle.vr_host_disk.specs.Told.{IsTold, lying_in, next_held}
use Rattle.vr_host_disk.specs.declared.disk.HostDisk.{HostDisk}

-- ---- values

runs_by : (n : ℕ) (o : Option SuperValue) (v : SuperValue) → option_and_then (of_version n) o ≡ Some v → v.fields.version ≡ n
runs_by n None v e = absurd cc
runs_by n (Some w) v e =
    elim (eqb w.fields.version n) as (λ t. eqb w.fields.version n ≡ t → cond t (Some w) None ≡ Some v → v.fields.version ≡ n) [
      | true ↦ λ t e. let same : w ≡ v = cc in ap (λ (u : SuperValue). u.fields.version) (sym same) ∙ eqb-true w.fields.version n t
      | false ↦ λ t e. absurd cc
    ] refl e

-- the value that a file of a version opens as
pub opens_by : (n : ℕ) (f : Face) (v : SuperValue) → (sectors_by n).opens f ≡ Some v → v.fields.version ≡ n
opens_by n f v e = runs_by n (opens f) v e

-- and the replica that is recovered from it
pub blank_by : (n : ℕ) (v : SuperValue) → v.fields.version ≡ n → version (blank v) ≡ n
unfolding blank
blank_by n v e = e

-- ---- disks

-- where nothing reads
nowhere : Face
nowhere = record { cells = []; waiting = [] }

-- an entry in slot 0 and none in the others
one_row : List (Option (List ℕ))
one_row = Some [] ∷ []

-- what that slot holds after a write to the first of the sectors that it has in a file of version 2
row_after : (Face → Call → CallVerdict → List (Option (List ℕ)) → List (Option (List ℕ))) → Option (List ℕ)
row_after next = held_at (next nowhere (Write (prepare_place 2 0) []) Goes one_row) 0

row_stays : row_after (next_held 1) ≡ Some []
unfolding row_after nowhere one_row held_after keeps entry_of_both together
row_stays = refl

row_goes : row_after (next_held 2) ≡ None
unfolding row_after nowhere one_row held_after keeps entry_of_both together
row_goes = refl

apart : next_held 1 ≡ next_held 2 → ⊥
apart e = let same : Some [] ≡ None = sym row_stays ∙ ap row_after e ∙ row_goes in absurd cc

-- what a call leaves of the slots is not the same in files of two versions
pub one_version : (n m : ℕ) → (1 ≤ n) × (n ≤ 2) → (1 ≤ m) × (m ≤ 2) → next_held n ≡ next_held m → n ≡ m
one_version n m k l e = elim (cases_lt 1 n) [
  | inl second ↦ elim (cases_lt 1 m) [
    | inl both ↦ omega (arith, k, l, second, both)
    | inr other ↦
        let two : n ≡ 2 = omega (arith, k, second) in
        let one : m ≡ 1 = omega (arith, l, other) in
        absurd (apart (ap next_held (sym one) ∙ sym e ∙ ap next_held two))
  ]
  | inr first ↦ elim (cases_lt 1 m) [
    | inl other ↦
        let one : n ≡ 1 = omega (arith, k, first) in
        let two : m ≡ 2 = omega (arith, l, other) in
        absurd (apart (ap next_held (sym one) ∙ e ∙ ap next_held two))
    | inr both ↦ omega (arith, k, l, first, both)
  ]
]

-- so a disk that tells its slots as a file of a version has them is one of this version
pub version_told : (n : ℕ) (m : HostDisk) → (1 ≤ n) × (n ≤ 2) → IsTold n (told_by m) → version_by m.lie ≡ n
version_told n m l t = one_version (version_by m.lie) n m.version l t.next

pub lying_told : (n : ℕ) (m : HostDisk) → (1 ≤ n) × (n ≤ 2) → IsTold n (told_by m) → lying_of m ≡ lying_in n (told_by m)
lying_told n m l t = ap (λ v. lying_in v (told_by m)) (version_told n m l t)

-- one that goes on, and of which no call fails but by its fuse, tells them as a file of its version has them
pub told_so : (m : HostDisk) → (told_by m).fate.dead ≡ false → (told_by m).fate.failing ≡ [] → IsTold (version_by m.lie) (told_by m)
told_so m alive sure = record { alive = alive; sure = sure; count = m.lie.table.count; next = refl }
