-- What slots hold, told beside the sectors.
use Rattle.std.proofs.Common.{ℕ, ◌<◌, ◌≡◌, refl, sym, ap, ◌∙◌, Bool, true, false, cond, List, [], ◌∷◌, length, Option, Some, None, subst}
use Rattle.std.specs.Prelude.{replicate}
use Rattle.std.proofs.lemmas.List.{get_or-replicate, length-replicate}
use Rattle.vr_disk.specs.DiskState.{Beside, Call, CallVerdict, Goes, Fails, Cuts, Disk, Face, Fate, IsFace, Attaches, Runs, attach_fails, attached, attached_as, judged, ran, ran_as, runs}
use Rattle.vr_disk.specs.Regions.{sectors}
use Rattle.vr_mem.specs.Seen as mem
use Rattle.vr_mem.specs.Seen.{copies}
use Rattle.vr_super.specs.Opens.{mode_in}
use Rattle.vr_rings.specs.Held.{looked}
use Rattle.vr_lie.specs.Faults.{HeldLooked, HeldRan, KeepsPremise, faulted, held_as, held_at}
use Rattle.vr_lie.specs.declared.fault.Fault.{Fault}
use Rattle.vr_world.specs.Lying.{Lying, blank_lying, each_slot, in_edition, keeps_premise, lied_to, unless_kept_out, zero_face}
use Rattle.vr_world.proofs.Premises.{premise, premise_so}
use Rattle.vr_host_disk.specs.Told.{lying_in, slots}
use Rattle.vr_host_disk.proofs.Runs.{rows_are, with_held}

-- a disk with this beside its sectors, and its name
abbrev pub with_table : ℕ → Disk → List (Option (List ℕ)) → Disk
with_table v d held = record d { beside = slots v held d.beside.name }

abbrev with_rows : ℕ → Face → Fate → Option (List ℕ) → List (Option (List ℕ)) → Disk
with_rows v f t name held = record { face = f; fate = t; beside = slots v held name }

-- ---- one call

record Same (ver : ℕ) (f : Face) (t : Fate) (b : Beside) (c : Call) (v : CallVerdict) (old new : List (Option (List ℕ))) : Type 0 where
  disk : with_table ver (ran_as f t b c v).disk new ≡ (ran_as f t (slots ver old b.name) c v).disk
  ok : (ran_as f t b c v).ok ≡ (ran_as f t (slots ver old b.name) c v).ok

same_as : (ver : ℕ) (f : Face) (t : Fate) (b : Beside) (c : Call) (v : CallVerdict) (old new : List (Option (List ℕ))) → length old ≡ 64 → length new ≡ 64 → ((slot : ℕ) → slot < 64 → held_at new slot ≡ held_as ver f c v slot (held_at old slot)) → Same ver f t b c v old new
same_as ver f t b c Goes old new n m h = record { disk = ap (with_rows ver _ t b.name) (rows_are new (λ slot. held_as ver f c Goes slot (held_at old slot)) m h); ok = refl }
same_as ver f t b c Fails old new n m h = record { disk = ap (with_rows ver f t b.name) (rows_are new (held_at old) m h ∙ sym (rows_are old (held_at old) n (λ slot l. refl))); ok = refl }
same_as ver f t b c (Cuts code) old new n m h = record { disk = ap (with_rows ver _ t b.name) (rows_are new (λ slot. held_as ver f c (Cuts code) slot (held_at old slot)) m h); ok = refl }

runs_disk : (d : Disk) (c : Call) → (runs (c ∷ []) d).disk ≡ (ran d c).disk
runs_disk d c = elim (ran d c).ok as (λ b. (cond b (record { disk = (ran d c).disk; ok = true }) (ran d c)).disk ≡ (ran d c).disk) [ true ↦ refl | false ↦ refl ]

runs_ok : (d : Disk) (c : Call) → (runs (c ∷ []) d).ok ≡ (ran d c).ok
runs_ok d c = elim (ran d c).ok as (λ b. (ran d c).ok ≡ b → (cond b (record { disk = (ran d c).disk; ok = true }) (ran d c)).ok ≡ b) [ true ↦ λ e. refl | false ↦ λ e. e ] refl

-- on the disk of a file of a version, which it still has after the call
pub told_one : (ver later : ℕ) (d e : Disk) (c : Call) (ok : Bool) (old new : List (Option (List ℕ))) → later ≡ ver → length old ≡ 64 → length new ≡ 64 → Runs (c ∷ []) (Some d) (Some e) ok → HeldRan ver d c old new
    → Runs (c ∷ []) (Some (with_table ver d old)) (Some (with_table later e new)) ok
unfolding ran
told_one ver later d e c ok old new stays n m r h =
    let t = (judged d.fate).next in
    let v = (judged d.fate).verdict in
    let s = same_as ver d.face t d.beside c v old new n m h.each in
    let is : e ≡ (ran_as d.face t d.beside c v).disk = (let x : e ≡ (runs (c ∷ []) d).disk = cc in x) ∙ runs_disk d c in
    let end : with_table later e new ≡ (ran (with_table ver d old) c).disk = ap (λ k. with_table k e new) stays ∙ ap (λ (e : Disk). with_table ver e new) is ∙ s.disk in
    (ap Some (end ∙ sym (runs_disk (with_table ver d old) c)), r.1 ∙ runs_ok d c ∙ s.ok ∙ sym (runs_ok (with_table ver d old) c))

-- ---- attaching

record SameAttached (ver : ℕ) (name : List ℕ) (d : Disk) (b : Bool) (held : List (Option (List ℕ))) : Type 0 where
  disk : with_table ver (attached_as name d b).disk held ≡ (attached_as name (with_table ver d held) b).disk
  ok : (attached_as name d b).ok ≡ (attached_as name (with_table ver d held) b).ok

same_attached : (ver : ℕ) (name : List ℕ) (d : Disk) (b : Bool) (held : List (Option (List ℕ))) → SameAttached ver name d b held
same_attached ver name d true held = record { disk = refl; ok = refl }
same_attached ver name d false held = record { disk = refl; ok = refl }

pub told_attached : (ver later : ℕ) (name : List ℕ) (d e : Disk) (ok : Bool) (old new : List (Option (List ℕ))) → later ≡ ver → new ≡ old → Attaches name (Some d) (Some e) ok
    → Attaches name (Some (with_table ver d old)) (Some (with_table later e new)) ok
unfolding attached
told_attached ver later name d e ok old new stays k r =
    let s = same_attached ver name d (attach_fails name d) old in
    let is : e ≡ (attached_as name d (attach_fails name d)).disk = let x = r.0 in cc in
    (ap Some (ap (λ held. with_table later e held) k ∙ ap (λ n. with_table n e old) stays ∙ ap (λ (e : Disk). with_table ver e old) is ∙ s.disk), r.1 ∙ s.ok)

-- ---- faults

lied_is : (d : Lying) (g : Face) (new : List (Option (List ℕ))) → length new ≡ 64 → HeldLooked d.version g d.held new → lied_to d g ≡ with_held d.version g new
lied_is d g new n h = ap (with_held d.version g) (sym (rows_are new (λ slot. looked d.version g slot (held_at d.held slot)) n h.each))

pub fault_done : (ver later : ℕ) (d e : Disk) (old new : List (Option (List ℕ))) (x : Fault) → later ≡ ver → IsFace d.face → IsFace e.face → length new ≡ 64 → KeepsPremise ver (mode_in d.face) d.face (faulted d.face x) old
    → e ≡ record d { face = faulted d.face x } → HeldLooked ver (faulted d.face x) old new → unless_kept_out (lying_in ver (with_table ver d old)) x ≡ Some (lying_in later (with_table later e new))
unfolding unless_kept_out
fault_done ver later d e old new x stays w z n k is h =
    let l = lying_in ver (with_table ver d old) in
    let g = faulted d.face x in
    let face : e.face ≡ g = ap (λ (e : Disk). e.face) is in
    let face_is : IsFace g = subst IsFace face z in
    ap (λ b. cond b (Some (lied_to l g)) None) (premise_so l g w face_is k)
    ∙ ap Some (lied_is l g new n h ∙ ap (λ f. with_held ver f new) (sym face) ∙ ap (λ v. with_held v e.face new) (sym stays))

pub fault_kept_out : (ver : ℕ) (d : Disk) (old : List (Option (List ℕ))) (x : Fault) → (KeepsPremise ver (mode_in d.face) d.face (faulted d.face x) old → ⊥) → unless_kept_out (lying_in ver (with_table ver d old)) x ≡ None
unfolding unless_kept_out
fault_kept_out ver d old x never =
    let l = lying_in ver (with_table ver d old) in
    let g = faulted d.face x in
    elim (keeps_premise l g) as (λ b. keeps_premise l g ≡ b → cond b (Some (lied_to l g)) None ≡ None) [
      | true ↦ λ e. absurd (never (premise l g e))
      | false ↦ λ e. refl
    ] refl

-- ---- a disk of zeros

pub zeros_lie : (ver later : ℕ) (d : Disk) (held : List (Option (List ℕ))) → later ≡ ver → d.face ≡ record { cells = copies sectors mem.zero_cell; waiting = [] } → held ≡ replicate 64 None → lying_in later (with_table later d held) ≡ blank_lying ver
unfolding copies mem.zero_cell
zeros_lie ver later d held is e h =
    let rows : replicate 64 None ≡ each_slot (λ slot. None) = rows_are (replicate 64 None) (λ slot. None) (length-replicate {A = Option (List ℕ)} 64 None) (λ slot l. get_or-replicate 64 slot None None l) in
    ap (λ v. with_held v d.face held) is ∙ ap (λ f. with_held ver f held) e ∙ ap (with_held ver zero_face) (h ∙ rows)

-- ---- a file of another version

pub edition_set : (ver later version : ℕ) (d e : Disk) (old new : List (Option (List ℕ))) → later ≡ version → length new ≡ 64 → e ≡ d → HeldLooked version d.face old new
    → lying_in later (with_table later e new) ≡ in_edition version (lying_in ver (with_table ver d old))
edition_set ver later version d e old new is n same h =
    let rows = rows_are new (λ slot. looked version d.face slot (held_at old slot)) n h.each in
    ap (λ v. with_held v e.face new) is ∙ ap (λ (e : Disk). with_held version e.face new) same ∙ ap (with_held version d.face) rows
