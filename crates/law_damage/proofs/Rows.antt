-- Rows: which disks are related, and which aren't.
use Rattle.std.proofs.Common.{ℕ, zero, suc, ◌≡◌, ◌∙◌, inl, inr, arith, refl, sym, ap, false, true, List, [], get_or, replicate, Option, Some, None}
use Rattle.std.specs.Option.{option_map_or}
use Rattle.vr_base.specs.Bytes.{number}
use Rattle.vr_disk.specs.DiskState.{damaged}
use Rattle.vr_header.specs.Made.{entry_of}
use Rattle.vr_header.specs.Spelling.{fault_of}
use Rattle.vr_disk.specs.Sectors.{together}
use Rattle.vr_disk.proofs.Places.{behind_headers}
use Rattle.vr_mem.specs.Lies.{lied}
use Rattle.vr_rings.specs.Slots.{header_of, size_at, whole_of}
use Rattle.vr_rules.proofs.FitDisks.{grid_behind}
use Rattle.vr_disk.specs.DiskState.{Face, reads}
use Rattle.law_damage.specs.Alike.{Region, Copy, Header, Prepare, Block, IsIn, IsRegion, ReadAlike, VerifiesOnNeither, verifies}
use Rattle.law_damage.proofs.Damage.{damage}

zeros : List ℕ
zeros = replicate 512 0

turned : List ℕ
turned = damaged zeros

others : List ℕ
others = replicate 512 170

-- a disk of zeros
plain : Face
plain = record { cells = replicate 3984 (record { truth = zeros; reads = Some zeros; before = zeros }); waiting = [] }

header_fails : (bytes : List ℕ) → header_of bytes ≡ None → together 80 1 (lied plain 80 (Some bytes)) ≡ Some bytes → verifies 2 (lied plain 80 (Some bytes)) (Header 0) ≡ false
header_fails bytes e t = rw (t, e) refl

turned_fails : header_of turned ≡ None
unfolding header_of turned zeros
turned_fails = refl

others_fail : header_of others ≡ None
unfolding header_of others
others_fail = refl

turned_there : together 80 1 (lied plain 80 (Some turned)) ≡ Some turned
unfolding together lied plain turned zeros
turned_there = refl

others_there : together 80 1 (lied plain 80 (Some others)) ≡ Some others
unfolding together lied plain others
others_there = refl

nowhere : (r : Region) → IsRegion r → IsIn 2 r 80 → VerifiesOnNeither 2 (lied plain 80 (Some turned)) (lied plain 80 (Some others)) r
nowhere (Copy c) l i = let a = i.1 in absurd (omega (arith, a))
nowhere (Header zero) l i = record { first = header_fails turned turned_fails turned_there; second = header_fails others others_fail others_there }
nowhere (Header (suc s)) l i = let a = i.0 in absurd (omega (arith, a))
nowhere (Prepare s) l i = let a = i.0 in let b = behind_headers 2 s in absurd (omega (arith, a, b))
nowhere (Block s) l i = let a = i.0 in let b = grid_behind s in absurd (omega (arith, a, b))

-- a header sector with every bit turned is like one with each second bit turned
patterns_alike : ReadAlike 2 (lied plain 80 (Some turned)) (lied plain 80 (Some others))
patterns_alike = damage 2 plain 80 (Some turned) (Some others) nowhere

blank_verifies : verifies 2 plain (Prepare 0) ≡ true
unfolding together whole_of size_at number entry_of fault_of plain zeros
blank_verifies = refl

now_turned : reads (lied plain 1424 (Some turned)) 1424 ≡ Some turned
unfolding lied plain
now_turned = refl

-- a prepare of zeros verifies, so one that is damaged isn't like it
not_alike : ReadAlike 2 plain (lied plain 1424 (Some turned)) → ⊥
unfolding plain turned zeros
not_alike a =
    elim (a.each (Prepare 0) (omega arith)) [
      | inl s ↦ let e : Some turned ≡ Some zeros = sym now_turned ∙ s 1424 (omega arith, omega arith) in let no : 255 ≡ 0 = ap (λ (o : Option (List ℕ)). option_map_or (λ b. get_or b 0 0) o 0) e in omega (arith, no)
      | inr n ↦ let no : true ≡ false = sym blank_verifies ∙ n.first in absurd cc
    ]
