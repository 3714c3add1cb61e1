-- What reads at a slot after effects read there at first, or was written by one of them, whatever the version of the file.
use Rattle.std.proofs.Common.{arith, ◌≡◌, ◌≤◌, ◌<◌, ◌+◌, ◌-◌, ◌⊎◌, inl, inr, refl, sym, ap, ◌∙◌, subst, ℕ, zero, suc, Bool, true, false, List, [], ◌∷◌, ◌++◌, length, Option, Some, None}
use Rattle.std.specs.Prelude.{⊤, All}
use Rattle.std.specs.Option.{option_and_then, option_map}
use Rattle.std.proofs.lemmas.Bool.{cases_eq, cases_lt}
use Rattle.std.proofs.lemmas.List.{get_or_past}
use Rattle.std.proofs.lemmas.List.Elements.{All-nil, All-cons, All-head, All-tail}
use Rattle.vr_disk.specs.DiskState as disk
use Rattle.vr_disk.specs.DiskState.{Call, Sync, Cell, Face, blank, reads}
use Rattle.vr_disk.specs.Regions.{prepare_place, prepare_sectors}
use Rattle.vr_disk.specs.Sectors.{together, behind}
use Rattle.vr_disk.proofs.Places.{behind_headers, counted}
use Rattle.vr_disk.proofs.Together.{after_all_append, length_after_all}
use Rattle.vr_header.specs.declared.header.Header.{Header}
use Rattle.vr_header.specs.Made.{Whole}
use Rattle.vr_rings.specs.Calls.{header_calls, prepare_calls}
use Rattle.vr_rings.specs.Slots.{IsWhole, Takes, padded, prepare_reading, slot_of, whole_in, whole_of}
use Rattle.vr_rings.proofs.Spelling.{padded_is, whole_again}
use Rattle.vr_super.specs.Calls.{mend_calls, write_calls}
use Rattle.vr_super.specs.Copies.{IsGood, SuperValue}
use Rattle.vr_ckpt.specs.Grid.{block_calls, put_calls}
use Rattle.vr_ckpt.specs.Saves.{blocks_calls, save_calls, written}
use Rattle.vr_rules.specs.Steps.{Effect, Write, Rewrite, Save, Mend, Checkpoint, PutBlock, Say, after_all}
use Rattle.vr_rules.specs.Sectors.{calls_by, sectors_by}
use Rattle.vr_world.specs.Lying.{Lying, lying}
use Rattle.vr_rules.specs.Fit.{IsFit}
use Rattle.vr_rules.specs.Own.{IsOwn}
use Rattle.vr_rules.proofs.FitDisks.{SparesSlots, apart, checkpoint_slots, front_reads, header_spares, mend_slots, prepare_spares, put_slots, same_entry, save_slots, slot_below}
use Rattle.vr_world.proofs.FitGroups.{Known, known_first, known_rest}
use Rattle.vr_world.proofs.FitLies.{same_whole}
use Rattle.law_1_machine.specs.Basics.{In}

-- ---- sectors that aren't there don't read

reads_past : (f : Face) (i : ℕ) → length f.cells ≤ i → reads f i ≡ None
reads_past f i l = ap (λ (c : Cell). c.reads) (get_or_past f.cells i blank l)

behind_none : (a : Option (List ℕ)) → behind a None ≡ None
behind_none None = refl
behind_none (Some x) = refl

pub together_past : (n i : ℕ) (f : Face) → length f.cells ≤ i + n → together i (suc n) f ≡ None
unfolding together
together_past zero i f l = ap (λ o. behind o (Some [])) (reads_past f i (omega arith))
together_past (suc n) i f l = ap (behind (reads f i)) (together_past n (i + 1) f (omega arith)) ∙ behind_none (reads f i)

-- an entry reads where its sectors are
there : (v : ℕ) (f : Face) (slot : ℕ) (e : Whole) → whole_in v f slot ≡ Some e → prepare_place v slot + prepare_sectors v ≤ length f.cells
unfolding whole_in
there v f slot e is =
    elim (cases_lt (length f.cells) (prepare_place v slot + prepare_sectors v)) [
      | inl short ↦
          let few = counted v in
          let n : prepare_sectors v ≡ suc (prepare_sectors v - 1) = omega (arith, few.0) in
          let none : together (prepare_place v slot) (prepare_sectors v) f ≡ None =
          ap (λ k. together (prepare_place v slot) k f) n ∙ together_past (prepare_sectors v - 1) (prepare_place v slot) f (omega (arith, short, few.0)) in
          let gone : option_and_then whole_of (prepare_reading v f slot) ≡ None = ap (λ o. option_and_then whole_of (option_map (padded v) o)) none in
          let not : None ≡ Some e = sym gone ∙ is in
          absurd cc
      | inr enough ↦ enough
    ]

-- ---- a prepare

-- an entry that a file takes reads where it was written
taken_reads : (v : ℕ) (e : Whole) (f : Face) → prepare_place v (slot_of e.header) + prepare_sectors v ≤ length f.cells → IsWhole e → Takes v e → whole_in v (disk.after_all f (prepare_calls v e)) (slot_of e.header) ≡ Some e
unfolding whole_in
taken_reads v e f n w taken = ap (λ o. option_and_then whole_of (option_map (padded v) o)) (front_reads v e f n) ∙ (ap whole_of (padded_is v e w taken) ∙ whole_again e w)

prepare_or : (v : ℕ) (w : Whole) (f : Face) (slot : ℕ) (e : Whole) → IsWhole w → Takes v w → whole_in v (disk.after_all f (prepare_calls v w)) slot ≡ Some e → (whole_in v f slot ≡ Some e) ⊎ (e ≡ w)
prepare_or v w f slot e whole taken is =
    elim (cases_eq slot (slot_of w.header)) [
      | inl same ↦
          let at : whole_in v (disk.after_all f (prepare_calls v w)) (slot_of w.header) ≡ Some e = subst (λ k. whole_in v (disk.after_all f (prepare_calls v w)) k ≡ Some e) same is in
          let long = there v (disk.after_all f (prepare_calls v w)) (slot_of w.header) e at in
          let kept = length_after_all (prepare_calls v w) f in
          let two : Some w ≡ Some e = sym (taken_reads v w f (omega (arith, long, kept)) whole taken) ∙ at in
          let one : w ≡ e = cc in
          inr (sym one)
      | inr other ↦ inl (sym (same_entry v (prepare_calls v w) f slot (λ k m n. prepare_spares v w k (apart v slot (slot_of w.header) k other m n))) ∙ is)
    ]

header_same : (v : ℕ) (h : Header) (f : Face) (slot : ℕ) → whole_in v (disk.after_all f (header_calls h)) slot ≡ whole_in v f slot
header_same v h f slot =
    let b = slot_below h in
    let behind = behind_headers v slot in
    same_entry v (header_calls h) f slot (λ k m n. header_spares h k (λ q. omega (arith, q, b, m, behind)))

-- ---- effects

-- calls that spare the slots leave what reads at them
spared : (v : ℕ) (cs : List Call) (f : Face) (slot : ℕ) (e : Whole) → slot < 64 → SparesSlots v cs → whole_in v (disk.after_all f cs) slot ≡ Some e → whole_in v f slot ≡ Some e
spared v cs f slot e l s is = sym (same_entry v cs f slot (λ k a b. s.prepare slot k (record { few = l; low = a; high = b }))) ∙ is

-- the slot read so before the effect, or it is what was written
abbrev Either : ℕ → Effect → Face → ℕ → Whole → Type 0
Either v x f slot e = (whole_in v f slot ≡ Some e) ⊎ ((again : Bool) × (Write again e ≡ x))

written_or : (v : ℕ) (again : Bool) (w : Whole) (f : Face) (slot : ℕ) (e : Whole) → (whole_in v f slot ≡ Some e) ⊎ (e ≡ w) → Either v (Write again w) f slot e
written_or v again w f slot e (inl old) = inl old
written_or v again w f slot e (inr same) = inr (again, ap (Write again) same)

-- what is written is whole, and a file of this version takes it
abbrev pub IsTaken : ℕ → Effect → Type 0
IsTaken v (Write again e) = IsWhole e × Takes v e
IsTaken v _ = ⊤

effect_or : (v : ℕ) (x : Effect) (f : Face) → IsTaken v x → (slot : ℕ) (e : Whole) → slot < 64 → whole_in v (disk.after_all f (calls_by v x f)) slot ≡ Some e → Either v x f slot e
unfolding put_calls save_calls
effect_or v (Write true w) f taken slot e l is =
    let g = disk.after_all f (header_calls w.header) in
    let p = prepare_or v w g slot e taken.0 taken.1 (sym (ap (λ (h : Face). whole_in v h slot) (after_all_append (header_calls w.header) (prepare_calls v w) f)) ∙ is) in
    written_or v true w f slot e (elim p [ inl old ↦ inl (sym (header_same v w.header f slot) ∙ old) | inr new ↦ inr new ])
effect_or v (Write false w) f taken slot e l is =
    let g = disk.after_all f (prepare_calls v w) in
    written_or v false w f slot e (prepare_or v w f slot e taken.0 taken.1 (sym (header_same v w.header g slot) ∙ (sym (ap (λ (h : Face). whole_in v h slot) (after_all_append (prepare_calls v w) (header_calls w.header) f)) ∙ is)))
effect_or v (Rewrite h) f taken slot e l is = inl (sym (header_same v h f slot) ∙ is)
effect_or v (Save old new) f taken slot e l is = inl (spared v (write_calls old new f) f slot e l (save_slots v old new f) is)
effect_or v (Mend value) f taken slot e l is = inl (spared v (mend_calls value f) f slot e l (mend_slots v value f) is)
effect_or v (Checkpoint cluster texts op old) f taken slot e l is =
    let bs = written cluster texts op old in
    inl (spared v (blocks_calls bs ++ Sync ∷ []) f slot e l (checkpoint_slots v bs) is)
effect_or v (PutBlock name block) f taken slot e l is = inl (spared v (block_calls name.address block ++ Sync ∷ []) f slot e l (put_slots v name.address block) is)
effect_or v (Say o) f taken slot e l is = inl is

sectors_or : (v : ℕ) (es : List Effect) (f : Face) → All (IsTaken v) es → (slot : ℕ) (e : Whole) → slot < 64 → whole_in v (after_all (sectors_by v) f es) slot ≡ Some e
    → (whole_in v f slot ≡ Some e) ⊎ ((again : Bool) × In (Write again e) es)
unfolding after_all
sectors_or v [] f taken slot e l is = inl is
sectors_or v (x ∷ es) f taken slot e l is =
    elim (sectors_or v es (disk.after_all f (calls_by v x f)) (All-tail (IsTaken v) x es taken) slot e l is) [
      | inr later ↦ inr (later.0, inr later.1)
      | inl before ↦ elim (effect_or v x f (All-head (IsTaken v) x es taken) slot e l before) [
        | inl old ↦ inl old
        | inr new ↦ inr (new.0, inl new.1)
      ]
    ]

one_taken : (c n i ed : ℕ) (x : Effect) → ed ≤ 2 → IsFit x → IsOwn c n i ed x → IsTaken ed x
one_taken c n i ed (Write again e) most fit own = (fit, record { most = most; taken = own.1 })
one_taken c n i ed (Rewrite h) most fit own = tt
one_taken c n i ed (Save old new) most fit own = tt
one_taken c n i ed (Mend v) most fit own = tt
one_taken c n i ed (Checkpoint cluster texts op old) most fit own = tt
one_taken c n i ed (PutBlock name block) most fit own = tt
one_taken c n i ed (Say o) most fit own = tt

-- so is all that a member of a group writes
known_taken : (c n i ed : ℕ) (es : List Effect) → ed ≤ 2 → Known c n i ed es → All (IsTaken ed) es
known_taken c n i ed [] most k = All-nil (IsTaken ed)
known_taken c n i ed (x ∷ es) most k =
    let one = known_first c n i ed x es k in
    All-cons (IsTaken ed) x es (one_taken c n i ed x most one.0 one.2) (known_taken c n i ed es most (known_rest c n i ed x es k))

-- of a member with this value, on its file
pub member_taken : (c n i : ℕ) (value : SuperValue) (d : Lying) (es : List Effect) → IsGood value → d.version ≡ value.fields.version → Known c n i value.fields.version es → All (IsTaken d.version) es
member_taken c n i value d es good file known =
    let most = good.numbers.version.1 in
    subst (λ (v : ℕ). All (IsTaken v) es) (sym file) (known_taken c n i value.fields.version es most known)

-- of the disks of a run, whatever they read as
pub read_or_written : (es : List Effect) (d : Lying) → All (IsTaken d.version) es → (slot : ℕ) (e : Whole) → slot < 64 → lying.entry (after_all lying d es) slot ≡ Some e
    → (lying.entry d slot ≡ Some e) ⊎ ((again : Bool) × In (Write again e) es)
read_or_written es d taken slot e l is = sectors_or d.version es d.face taken slot e l (sym (same_whole es d slot) ∙ is)
