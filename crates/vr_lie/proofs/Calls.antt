-- Calls by what becomes of them, and the table that they leave.
use Rattle.std.proofs.Common.{ℕ, zero, suc, ◌+◌, ◌-◌, ◌*◌, ◌<◌, ◌≤◌, ◌≡◌, refl, sym, ap, ◌∙◌, arith, Bool, true, false, cond, ◌&&◌, List, [], ◌∷◌, length, get_or, Option, Some, None, subst}
use Rattle.std.specs.Prelude.{is_some, replicate}
use Rattle.std.specs.Option.{option_map}
use Rattle.std.proofs.lemmas.List.{get_or-replicate, replicate-append-replicate}
use Rattle.vr_base.specs.Bytes.{is_zeros}
use Rattle.vr_base.proofs.ZeroLaws.{zeros_are}
use Rattle.vr_disk.specs.DiskState.{Beside, Call, Sync, Cell, Disk, Face, Fate, Goes, Fails, Cuts, Runs, Attaches, after, attach_fails, attached, attached_as, blank, cut_at, judged, name_beside, reads}
use Rattle.vr_disk.specs.Regions.{prepare_place, prepare_sectors, sectors}
use Rattle.vr_disk.specs.Sectors.{behind, has, together}
use Rattle.vr_disk.proofs.Places.{counted, inside}
use Rattle.vr_disk.proofs.Running.{one_cuts, one_fails, one_goes}
use Rattle.vr_mem.specs.Seen.{copies, zero_cell}
use Rattle.vr_lie.specs.Faults.{HeldRan, held_at}
use Rattle.vr_rings.specs.Held.{entry_of_both, header_sector, held_after, is_prepare}
use Rattle.vr_rings.specs.Slots.{header_reading, padded, prepare_reading}
use Rattle.vr_rings.proofs.Spelling.{zeros_none}
use Rattle.vr_lie.specs.Table.{IsTable}
use Rattle.vr_lie.proofs.Slotted.{same_entry, same_slot}

-- the disk below keeps its name alone beside its sectors
abbrev plain : Face → Fate → Option (List ℕ) → Disk
plain f t name = record { face = f; fate = t; beside = name_beside name }

abbrev IsPlain : Disk → Type 0
IsPlain d = d.beside ≡ name_beside d.beside.name

is_plain : (d : Disk) → IsPlain d → d ≡ plain d.face d.fate d.beside.name
is_plain d n = ap (λ (b : Beside). let x : Disk = record { face = d.face; fate = d.fate; beside = b } in x) n

pub goes_told : (d e g : Disk) (c : Call) → IsPlain d → Goes ≡ (judged d.fate).verdict → e ≡ record d { fate = (judged d.fate).next } → g ≡ record e { face = after e.face c } → Runs (c ∷ []) (Some d) (Some g) true
goes_told d e g c n v i j =
    let there : g ≡ record d { face = after d.face c; fate = (judged d.fate).next } = j ∙ ap (λ (e : Disk). let x : Disk = record e { face = after e.face c } in x) i in
    let end : g ≡ plain (after d.face c) (judged d.fate).next d.beside.name = there ∙ ap (λ (b : Beside). let x : Disk = record { face = after d.face c; fate = (judged d.fate).next; beside = b } in x) n in
    subst (λ (x : Disk). Runs (c ∷ []) (Some x) (Some g) true) (sym (is_plain d n))
    (subst (λ (g : Disk). Runs (c ∷ []) (Some (plain d.face d.fate d.beside.name)) (Some g) true) (sym end) (one_goes d.face (after d.face c) d.fate (judged d.fate).next d.beside.name c v refl refl))

pub fails_told : (d e g : Disk) (c : Call) → IsPlain d → Fails ≡ (judged d.fate).verdict → e ≡ record d { fate = (judged d.fate).next } → g ≡ e → Runs (c ∷ []) (Some d) (Some g) false
fails_told d e g c n v i j =
    let end : g ≡ plain d.face (judged d.fate).next d.beside.name = j ∙ i ∙ ap (λ (b : Beside). let x : Disk = record { face = d.face; fate = (judged d.fate).next; beside = b } in x) n in
    subst (λ (x : Disk). Runs (c ∷ []) (Some x) (Some g) false) (sym (is_plain d n))
    (subst (λ (g : Disk). Runs (c ∷ []) (Some (plain d.face d.fate d.beside.name)) (Some g) false) (sym end) (one_fails d.face d.fate (judged d.fate).next d.beside.name c v refl))

pub cuts_told : (d e g h : Disk) (c : Call) (code : ℕ) → IsPlain d → Cuts code ≡ (judged d.fate).verdict → e ≡ record d { fate = (judged d.fate).next } → g ≡ record e { face = cut_at code e.face c } → h ≡ g → Runs (c ∷ []) (Some d) (Some h) false
cuts_told d e g h c code n v i j k =
    let there : h ≡ record d { face = cut_at code d.face c; fate = (judged d.fate).next } = k ∙ (j ∙ ap (λ (e : Disk). let x : Disk = record e { face = cut_at code e.face c } in x) i) in
    let end : h ≡ plain (cut_at code d.face c) (judged d.fate).next d.beside.name = there ∙ ap (λ (b : Beside). let x : Disk = record { face = cut_at code d.face c; fate = (judged d.fate).next; beside = b } in x) n in
    subst (λ (x : Disk). Runs (c ∷ []) (Some x) (Some h) false) (sym (is_plain d n))
    (subst (λ (h : Disk). Runs (c ∷ []) (Some (plain d.face d.fate d.beside.name)) (Some h) false) (sym end) (one_cuts d.face (cut_at code d.face c) d.fate (judged d.fate).next d.beside.name c code v refl refl))

-- ---- calls that leave each reading

pub same_table : (ver : ℕ) (f g : Face) (held : List (Option (List ℕ))) → ((k : ℕ) → reads g k ≡ reads f k) → IsTable ver f held → IsTable ver g held
same_table ver f g held h t = record { count = t.count; seen = λ s l p e. t.seen s l p (sym (same_entry ver f g s (same_slot ver f g s l (λ k z. h k))) ∙ e) }

attached_as_cells : (name : List ℕ) (d : Disk) (fails : Bool) → (attached_as name d fails).disk.face.cells ≡ d.face.cells
attached_as_cells name d true = refl
attached_as_cells name d false = refl

pub attach_table : (ver : ℕ) (name : List ℕ) (d e : Disk) (ok : Bool) (held : List (Option (List ℕ))) → Attaches name (Some d) (Some e) ok → IsTable ver d.face held → IsTable ver e.face held
unfolding attached
attach_table ver name d e ok held h t =
    let same : e ≡ (attached_as name d (attach_fails name d)).disk = let x = h.0 in cc in
    let cells : e.face.cells ≡ d.face.cells = ap (λ (e : Disk). e.face.cells) same ∙ attached_as_cells name d (attach_fails name d) in
    same_table ver d.face e.face held (λ k. ap (λ (cs : List Cell). (get_or cs k blank).reads) cells) t

pub clear_table : (ver : ℕ) (d e g : Disk) (held : List (Option (List ℕ))) → e ≡ record d { fate = (judged d.fate).next } → g ≡ record e { face = after e.face Sync } → IsTable ver d.face held → IsTable ver g.face held
clear_table ver d e g held i j t =
    let there : g.face ≡ after d.face Sync = ap (λ (g : Disk). g.face) j ∙ ap (λ (e : Disk). after e.face Sync) i in
    subst (λ (f : Face). IsTable ver f held) (sym there) (same_table ver d.face (after d.face Sync) held (λ k. refl) t)

pub sync_held : (ver : ℕ) (d : Disk) (held : List (Option (List ℕ))) → Goes ≡ (judged d.fate).verdict → HeldRan ver d Sync held held
unfolding held_after
sync_held ver d held v = record { each = λ s l. rw (← v) refl }

-- ---- a disk of zeros

abbrev IsZeroed : Face → Type 0
IsZeroed f = f ≡ record { cells = copies sectors zero_cell; waiting = [] }

zeros_read : (f : Face) (i : ℕ) → IsZeroed f → i < sectors → reads f i ≡ Some (replicate 512 0)
unfolding copies zero_cell
zeros_read f i e l = ap (λ (f : Face). reads f i) e ∙ ap (λ (c : Cell). c.reads) (get_or-replicate sectors i zero_cell blank l)

zeros_together : (n i : ℕ) (f : Face) → IsZeroed f → i + n ≤ sectors → together i n f ≡ Some (replicate (512 * n) 0)
unfolding together
zeros_together zero i f e l = refl
zeros_together (suc n) i f e l =
    let more : 512 + 512 * n ≡ 512 * suc n = omega arith in
    ap (λ r. behind r (together (i + 1) n f)) (zeros_read f i e (omega arith)) ∙ (ap (behind (Some (replicate 512 0))) (zeros_together n (i + 1) f e (omega arith)) ∙ ap Some (replicate-append-replicate 512 (512 * n) 0 ∙ ap (λ k. replicate k 0) more))

zeros_whole : (ver slot : ℕ) (f : Face) → IsZeroed f → slot < 64 → prepare_reading ver f slot ≡ Some (replicate 4096 0)
zeros_whole ver s f e l =
    let within = inside ver s l in
    let count = counted ver in
    let n = prepare_sectors ver in
    let all : 512 * n + (4096 - 512 * n) ≡ 4096 = omega (arith, count.1) in
    ap (option_map (padded ver)) (zeros_together n (prepare_place ver s) f e (omega (arith, within))) ∙ ap Some (replicate-append-replicate (512 * n) (4096 - 512 * n) 0 ∙ ap (λ k. replicate k 0) all)

and_no : (a b : Bool) → b ≡ false → (a && b) ≡ false
and_no true b e = e
and_no false b e = refl

-- zeros are no entry
no_entry : (header : Option (List ℕ)) (zs p : List ℕ) → is_zeros zs ≡ true → entry_of_both header (Some zs) ≡ Some p → ⊥
unfolding entry_of_both
no_entry header zs p z e =
    let n : (has (header_sector zs) header && is_prepare zs) ≡ false = and_no (has (header_sector zs) header) (is_prepare zs) (ap is_some (zeros_none zs z)) in
    let x : None ≡ Some p = sym (ap (λ b. cond b (Some zs) None) n) ∙ e in
    absurd cc

pub empty_at : (n slot : ℕ) → held_at (replicate n None) slot ≡ None
empty_at zero s = refl
empty_at (suc n) zero = refl
empty_at (suc n) (suc s) = empty_at n s

empty_count : (n : ℕ) → let none : List (Option (List ℕ)) = replicate n None in length none ≡ n
empty_count zero = refl
empty_count (suc n) = ap suc (empty_count n)

pub new_table : (ver : ℕ) (f : Face) (table : List (Option (List ℕ))) → IsZeroed f → table ≡ replicate 64 None → IsTable ver f table
new_table ver f table e h =
    let t : IsTable ver f (replicate 64 None) = record {
      count = empty_count 64;
      seen = λ s l p x. absurd (no_entry (header_reading f s) (replicate 4096 0) p (zeros_are 4096) (sym (ap (entry_of_both (header_reading f s)) (zeros_whole ver s f e l)) ∙ x));
    } in
    subst (IsTable ver f) (sym h) t
