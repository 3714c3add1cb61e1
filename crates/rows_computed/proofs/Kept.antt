-- An entry that reads stays so, whatever is written elsewhere.
use Rattle.std.proofs.Common.{ℕ, ◌≡◌, ◌≢◌, refl, sym, ap, ◌∙◌, subst, List, [], ◌∷◌, Option, Some}
use Rattle.std.specs.Prelude.{⊤}
use Rattle.std.specs.List.{AllByRecursion}
use Rattle.vr_disk.specs.DiskState.{Face}
use Rattle.vr_header.specs.Made.{Whole}
use Rattle.vr_rings.specs.Slots.{slot_of, whole_in}
use Rattle.vr_rules.specs.Steps.{Effect, Write, Save, Say, after_all}
use Rattle.vr_world.specs.Lying.{Lying, lying}
use Rattle.rows_computed.proofs.Disks.{first_file, value_apart, written_apart}

-- effects that leave the prepare of this slot alone
abbrev pub Leaves : ℕ → Effect → Type 0
Leaves slot (Write again e) = slot ≢ slot_of e.header
Leaves slot (Save old new) = ⊤
Leaves slot (Say o) = ⊤
Leaves slot _ = ⊥

-- a file of version 1 whose slot reads as this entry
pub record Reads (slot : ℕ) (e : Whole) (d : Lying) : Type 0 where
  pub version : d.version ≡ 1
  pub entry : whole_in 1 d.face slot ≡ Some e

reads_first : (slot : ℕ) (e : Whole) (x : Effect) (f : Face) (held : List (Option (List ℕ))) → Leaves slot x → whole_in 1 f slot ≡ Some e → Reads slot e (lying.after (first_file f held) x)
reads_first slot e (Write again w) f held other is = record { version = refl; entry = written_apart again w f slot other ∙ is }
reads_first slot e (Save old new) f held other is = record { version = refl; entry = value_apart old new f slot ∙ is }
reads_first slot e (Say o) f held other is = record { version = refl; entry = is }
reads_first slot e _ f held other is = absurd other

pub reads_after : (slot : ℕ) (e : Whole) (x : Effect) (d : Lying) → Leaves slot x → Reads slot e d → Reads slot e (lying.after d x)
reads_after slot e x d other r =
    let is : d ≡ first_file d.face d.held = ap (λ (n : ℕ). let y : Lying = record { face = d.face; held = d.held; version = n } in y) r.version in
    subst (λ (y : Lying). Reads slot e (lying.after y x)) (sym is) (reads_first slot e x d.face d.held other r.entry)

pub reads_all : (slot : ℕ) (e : Whole) (xs : List Effect) (d : Lying) → AllByRecursion (Leaves slot) xs → Reads slot e d → Reads slot e (after_all lying d xs)
unfolding after_all
reads_all slot e [] d a r = r
reads_all slot e (x ∷ xs) d a r = reads_all slot e xs (lying.after d x) a.1 (reads_after slot e x d a.0 r)

-- so the disk says
pub read_entry : (slot : ℕ) (e : Whole) (d : Lying) → Reads slot e d → lying.entry d slot ≡ Some e
read_entry slot e d r = ap (λ n. whole_in n d.face slot) r.version ∙ r.entry
