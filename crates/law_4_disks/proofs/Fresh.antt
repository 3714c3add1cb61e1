-- A group that begins: its disks are formatted.
use Rattle.std.proofs.Common.{ℕ, zero, suc, ◌+◌, ◌*◌, ◌^◌, ◌≤◌, ◌<◌, ◌≡◌, arith, refl, sym, ap, ◌∙◌, subst, inl, inr, List, [], ◌∷◌, ◌++◌, length, map, Option, Some, None}
use Rattle.std.specs.Prelude.{replicate, slice_get}
use Rattle.std.specs.List.{range_with_len}
use Rattle.std.proofs.lemmas.Bool.{cases_eq, cases_lt}
use Rattle.std.proofs.lemmas.List.{append-nil, get_or-replicate, get_or_past, length-replicate, take_all}
use Rattle.std.proofs.lemmas.List.FromFn.{get_or-map-range_with_len, length-map-range_with_len}
use Rattle.std.proofs.lemmas.Option.{slice_get_within, slice_get-get_or}
use Rattle.vr_base.specs.Groups.{least_members}
use Rattle.vr_base.specs.declared.kind.Kind.{Kind}
use Rattle.vr_base.specs.declared.mode.Mode.{Mode}
use Rattle.vr_disk.specs.DiskState.{Call, Face, IsCell, IsContent, IsFace, Sync, after, after_all}
use Rattle.vr_disk.specs.Regions.{sectors}
use Rattle.vr_disk.specs.Sectors.{together, writes}
use Rattle.vr_disk.proofs.Together.{after_all_append, length_after_all, together_synced, together_written}
use Rattle.vr_header.specs.declared.header.Header.{Header}
use Rattle.vr_mem.specs.Seen.{copies}
use Rattle.vr_mem.specs.Seen as mem
use Rattle.vr_super.specs.Copies.{IsGood, SuperValue, copy_bytes}
use Rattle.vr_super.specs.Opens.{copy_reading, good_copies, good_copy, opened, opens}
use Rattle.vr_super.specs.Calls.{copy_calls, save_from}
use Rattle.vr_super.proofs.Best.{opened_among, opened_some}
use Rattle.vr_super.proofs.Format.{length-copy_bytes, value_again}
use Rattle.vr_super.proofs.Keeping.{two_first}
use Rattle.vr_super.proofs.Readings.{copy_within, other_after}
use Rattle.vr_rings.specs.Held.{Stands}
use Rattle.vr_lie.specs.Laws.{AllStand}
use Rattle.vr_lie.proofs.Calls.{empty_at, new_table}
use Rattle.vr_lie.proofs.Premise.{none_stands}
use Rattle.vr_rules.specs.Replica.{Replica}
use Rattle.vr_rules.specs.Opening.{AreKinds, IsKind, blank, first_value, fresh}
use Rattle.vr_world.specs.Lying.{Lying, blank_lying, hazards, zero_cell, zero_face}
use Rattle.vr_rules.specs.Formatting.{format_calls, reserved_headers, zero_prepares, zero_sector}
use Rattle.vr_world.specs.World as world
use Rattle.vr_world.specs.Group as group
use Rattle.vr_world.specs.Group.{fresh_group}
use Rattle.law_4_disks.specs.Beside.{IsCalm, IsOn}
use Rattle.law_4_disks.specs.Laws.{SchedulesBegin, WorldsBegin}
use Rattle.vr_rules.proofs.FitFresh.{fresh_fits}
use Rattle.vr_world.proofs.FitGroups.{fresh_group_fits}
use Rattle.law_4_disks.specs.Worlds.{AreBeside, Stands as Beside, first_host, first_world}
use Rattle.law_4_disks.proofs.Calls.{format_are, format_is}
use Rattle.law_4_disks.specs.Stocks.{IsStocked, IsStockedGroup}
use Rattle.law_4_disks.proofs.States.{state_empty}
use Rattle.law_4_disks.proofs.Effects.{at_slot, calm_after}

-- ---- a disk of zeros

zero_content : IsContent zero_sector
zero_content = record {
  size = length-replicate {A = ℕ} 512 0;
  each = λ i. elim (cases_lt i 512) [
    | inl l ↦ let e = get_or-replicate {A = ℕ} 512 i 0 0 l in omega (arith, e)
    | inr g ↦ let n = length-replicate {A = ℕ} 512 0 in let e = get_or_past {X = ℕ} (replicate 512 0) i 0 (omega (arith, n, g)) in omega (arith, e)
  ];
}

content_same : (a b : List ℕ) → IsContent a → Some a ≡ Some b → IsContent b
content_same a b c e = let same : a ≡ b = cc in subst IsContent same c

zero_is_cell : IsCell zero_cell
zero_is_cell = record { truth = zero_content; reads = λ b e. content_same zero_sector b zero_content e; before = zero_content }

zero_is_face : IsFace zero_face
zero_is_face = record {
  count = length-replicate sectors zero_cell;
  cells = λ k d l. let n = length-replicate sectors zero_cell in subst IsCell (sym (get_or-replicate sectors k zero_cell d (omega (arith, n, l)))) zero_is_cell;
  waiting = λ k d l. absurd (omega arith);
}

zero_is : zero_face ≡ record { cells = copies sectors mem.zero_cell; waiting = [] }
unfolding copies mem.zero_cell
zero_is = refl

zero_stands : (v : ℕ) (mode : Mode) (slot : ℕ) → slot < 64 → Stands v mode zero_face slot None
zero_stands v mode slot l =
    let held : List (Option (List ℕ)) = replicate 64 None in
    let all : AllStand v mode zero_face held = none_stands v zero_face held (new_table v zero_face held zero_is refl) (λ s b. empty_at 64 s) in
    subst (Stands v mode zero_face slot) (empty_at 64 slot) (all.each slot l)

empty_calm : (v : ℕ) (mode : Mode) → IsCalm mode (blank_lying v)
empty_calm v mode = record {
  face = zero_is_face;
  rests = refl;
  stand = record { each = λ slot l. subst (Stands v mode zero_face slot) (sym (at_slot (λ slot. None) slot l)) (zero_stands v mode slot l) };
}

-- ---- four copies

copy_read : (b : List ℕ) (f : Face) (c : ℕ) → length b ≡ 10240 → length f.cells ≡ sectors → c < 4 → copy_reading (after_all f (copy_calls c b)) c ≡ Some b
unfolding copy_reading copy_calls
copy_read b f c n l k =
    let g = after_all f (writes (20 * c) 20 b) in
    let joined : after_all f (writes (20 * c) 20 b ++ Sync ∷ []) ≡ after g Sync = after_all_append (writes (20 * c) 20 b) (Sync ∷ []) f in
    ap (λ h. together (20 * c) 20 h) joined ∙ (together_synced 20 (20 * c) g ∙ (together_written 20 (20 * c) b f (omega arith) ∙ ap Some (take_all (512 * 20) b (omega arith))))

copies_read : (n k : ℕ) (b : List ℕ) (f : Face) → length b ≡ 10240 → length f.cells ≡ sectors → k + n ≡ 4 → ((c : ℕ) → c < k → copy_reading f c ≡ Some b) → (c : ℕ) → c < 4 → copy_reading (after_all f (save_from k n b)) c ≡ Some b
unfolding save_from
copies_read zero k b f size l e h c m = h c (omega arith)
copies_read (suc n) k b f size l e h c m =
    let one = copy_calls k b in
    let g = after_all f one in
    let less : k < 4 = omega arith in
    let next : (c : ℕ) → c < k + 1 → copy_reading g c ≡ Some b = λ c a. elim (cases_eq c k) [
      | inl same ↦ subst (λ (c : ℕ). copy_reading g c ≡ Some b) (sym same) (copy_read b f k size l less)
      | inr other ↦ other_after one f k c (copy_within k b) (λ s. other (sym s)) ∙ h c (omega arith)
    ] in
    ap (λ (g : Face). copy_reading g c) (after_all_append one (save_from (k + 1) n b) f) ∙ copies_read n (k + 1) b g size (length_after_all one f ∙ l) (omega arith) next c m

saves_rest : (n k : ℕ) (b : List ℕ) (f : Face) → (after_all f (save_from k (suc n) b)).waiting ≡ []
unfolding save_from copy_calls
saves_rest zero k b f = ap (λ (cs : List Call). (after_all f cs).waiting) (append-nil (writes (20 * k) 20 b ++ Sync ∷ [])) ∙ ap (λ (g : Face). g.waiting) (after_all_append (writes (20 * k) 20 b) (Sync ∷ []) f)
saves_rest (suc n) k b f =
    let one = writes (20 * k) 20 b ++ Sync ∷ [] in
    ap (λ (g : Face). g.waiting) (after_all_append one (save_from (k + 1) (suc n) b) f) ∙ saves_rest n (k + 1) b (after_all f one)

good_at : (v : SuperValue) (f : Face) (c : ℕ) → IsGood v → copy_reading f c ≡ Some (copy_bytes v) → good_copy f c ≡ Some (copy_bytes v)
unfolding good_copy
good_at v f c g e = rw (e, value_again v g) refl

opens_as : (f : Face) (v : SuperValue) → IsGood v → opened (good_copies f) ≡ Some (copy_bytes v) → opens f ≡ Some v
unfolding opens
opens_as f v g e = rw e (value_again v g)

all_open : (v : SuperValue) (g : Face) → IsGood v → ((c : ℕ) → c < 4 → copy_reading g c ≡ Some (copy_bytes v)) → opens g ≡ Some v
all_open v g gv a =
    let b = copy_bytes v in
    let at : (c : ℕ) → c < 4 → good_copy g c ≡ Some b = λ c l. good_at v g c gv (a c l) in
    let best = opened_some b (good_copies g) (inl (at 0 (omega arith))) (two_first b (good_copy g 0) (good_copy g 1) (good_copy g 2) (good_copy g 3) (at 0 (omega arith)) (at 1 (omega arith))) in
    let is : (c : ℕ) → c < 4 → good_copy g c ≡ Some best.0 → opens g ≡ Some v = λ c l e. opens_as g v gv (best.1 ∙ (sym e ∙ at c l)) in
    elim (opened_among best.0 (good_copies g) best.1) [
      | inl e ↦ is 0 (omega arith) e
      | inr a ↦ elim a [ inl e ↦ is 1 (omega arith) e | inr a ↦ elim a [ inl e ↦ is 2 (omega arith) e | inr a ↦ elim a [ inl e ↦ is 3 (omega arith) e | inr a ↦ elim a [ ] ] ] ]
    ]

-- ---- a member

abbrev nothing_kept : Option Header
nothing_kept = None

formatted_on : (kind : Kind) (home n i : ℕ) → IsKind kind → home < 2 ^ 64 → least_members kind.version ≤ n → n ≤ 6 → i < n → IsOn (hazards.formatted kind home n i) (group.fresh_member kind home n i)
formatted_on kind home n i k room a b l =
    let v = first_value kind home n i in
    let cs = copy_bytes v in
    let good = (fresh_fits kind home n i k room a b l).value in
    let saves = save_from 0 4 cs in
    let one = zero_prepares kind.version in
    let two = reserved_headers kind.version home in
    let f1 = after_all zero_face one in
    let f2 = after_all f1 two in
    let f3 = after f2 Sync in
    let made = format_calls kind home n i in
    let all : after_all zero_face made ≡ after_all f3 saves =
    ap (after_all zero_face) (format_is kind home n i) ∙ (after_all_append one (two ++ Sync ∷ saves) zero_face ∙ after_all_append two (Sync ∷ saves) f1) in
    let count : length f3.cells ≡ sectors = length_after_all two f1 ∙ (length_after_all one zero_face ∙ length-replicate sectors zero_cell) in
    let reads = copies_read 4 0 cs f3 (length-copy_bytes v good) count (omega arith) (λ c m. absurd (omega arith)) in
    record {
      calm = calm_after made (blank_lying kind.version) (empty_calm kind.version kind.mode) (format_are kind home n i room good) (ap (λ (g : Face). g.waiting) all ∙ saves_rest 3 0 cs f3);
      held = record { count = length-replicate 64 (nothing_kept); each = λ slot h b e. absurd (let bad : None ≡ Some h = sym (get_or-replicate 64 slot nothing_kept None b) ∙ e in cc) };
      value = ap opens all ∙ all_open v (after_all f3 saves) good reads;
      file = refl;
      under = refl;
    }

some_replica : (a b : Replica) → Some a ≡ Some b → a ≡ b
some_replica a b e = cc

fresh_saved : (kind : Kind) (home n i : ℕ) → (fresh kind home n i).saved ≡ first_value kind home n i
unfolding blank
fresh_saved kind home n i = refl

fresh_stands : (kinds : ℕ → Kind) (home n i : ℕ) → AreKinds kinds n → home < 2 ^ 64 → n ≤ 6 → i < n → Beside (first_host kinds home n i) (group.fresh_member (kinds i) home n i)
fresh_stands kinds home n i k room b l = record {
  replica = refl;
  running = λ r e. (formatted_on (kinds i) home n i (k i l).0 room (k i l).1 b l, ap (λ (r : Replica). r.saved) (sym (some_replica (fresh (kinds i) home n i) r e)) ∙ fresh_saved (kinds i) home n i);
  stopped = λ e. absurd (let bad : Some (fresh (kinds i) home n i) ≡ None = e in cc);
}

pub some_world : (a b : world.Host Lying) → Some a ≡ Some b → a ≡ b
some_world a b e = cc

pub fresh_beside : (kinds : ℕ → Kind) (home n : ℕ) → AreKinds kinds n → home < 2 ^ 64 → n ≤ 6 → AreBeside (first_world kinds home n) (fresh_group kinds home n)
unfolding first_world fresh_group
fresh_beside kinds home n k room b = record {
  n = refl;
  sent = refl;
  count = length-map-range_with_len (λ i. group.fresh_member (kinds i) home n i) 0 n ∙ sym (length-map-range_with_len (first_host kinds home n) 0 n);
  each = λ i m e.
      let f : ℕ → world.Host Lying = first_host kinds home n in
      let h : ℕ → group.Member = λ i. group.fresh_member (kinds i) home n i in
      let size = length-map-range_with_len f 0 n in
      let size2 = length-map-range_with_len h 0 n in
      let within = slice_get_within (map f (range_with_len 0 n)) i m e in
      let l : i < n = omega (arith, size, within) in
      let is : m ≡ f i = some_world m (f i) (sym e ∙ (slice_get-get_or (map f (range_with_len 0 n)) i m within ∙ ap Some (get_or-map-range_with_len f 0 n i i m l (omega arith)))) in
      let there : slice_get (map h (range_with_len 0 n)) i ≡ Some (h i) = slice_get-get_or (map h (range_with_len 0 n)) i (h i) (omega (arith, size2, l)) ∙ ap Some (get_or-map-range_with_len h 0 n i i (h i) l (omega arith)) in
      (h i, there, subst (λ (m : world.Host Lying). Beside m (h i)) (sym is) (fresh_stands kinds home n i k room b l));
}

fresh_stocked : (kind : Kind) (home n i : ℕ) → IsStocked (fresh kind home n i)
unfolding blank
fresh_stocked kind home n i = record { sessions = state_empty.sessions; machine = state_empty.machine; old_sessions = tt; old_keys = tt }

some_group : (a b : group.Member) → Some a ≡ Some b → a ≡ b
some_group a b e = cc

pub group_stocked : (kinds : ℕ → Kind) (home n : ℕ) → IsStockedGroup (fresh_group kinds home n)
unfolding fresh_group
group_stocked kinds home n = record {
  running = λ i m r e run.
      let h : ℕ → group.Member = λ i. group.fresh_member (kinds i) home n i in
      let size = length-map-range_with_len h 0 n in
      let within = slice_get_within (map h (range_with_len 0 n)) i m e in
      let l : i < n = omega (arith, size, within) in
      let is : m ≡ h i = some_group m (h i) (sym e ∙ (slice_get-get_or (map h (range_with_len 0 n)) i m within ∙ ap Some (get_or-map-range_with_len h 0 n i i m l (omega arith)))) in
      let one : Some (fresh (kinds i) home n i) ≡ Some r = ap (λ (m : group.Member). m.replica) (sym is) ∙ run in
      subst IsStocked (some_replica (fresh (kinds i) home n i) r one) (fresh_stocked (kinds i) home n i);
  sent = λ number s e. absurd cc;
}

pub none_made : (kinds : ℕ → Kind) (home n : ℕ) → (fresh_group kinds home n).made ≡ []
unfolding fresh_group
none_made kinds home n = refl

pub worlds_begin : WorldsBegin
worlds_begin kinds home n k room a b = record { beside = fresh_beside kinds home n k room b; fit = fresh_group_fits kinds home n k room a b; stock = group_stocked kinds home n }

pub schedules_begin : SchedulesBegin
unfolding world.fresh_world first_world
schedules_begin kind n = refl
