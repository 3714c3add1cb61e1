-- A group that begins: on its disks nothing reads as the header of an entry.
use Rattle.vr_base.proofs.Members.{least_of}
use Rattle.vr_base.specs.Groups.{least_members}
use Rattle.vr_base.specs.declared.kind.Kind.{Kind}
use Rattle.std.proofs.Common.{ℕ, zero, suc, ◌+◌, ◌*◌, ◌^◌, ◌≤◌, ◌<◌, ◌≡◌, ◌⊎◌, inl, inr, arith, refl, sym, ap, ◌∙◌, subst, true, false, List, [], ◌∷◌, ◌++◌, length, map, get_or, Some}
use Rattle.std.specs.List.{range_with_len}
use Rattle.std.proofs.lemmas.List.{get_or-replicate, length-replicate}
use Rattle.std.proofs.lemmas.List.FromFn.{get_or-map-range_with_len, length-map-range_with_len}
use Rattle.std.proofs.lemmas.List.Elements.{All-nil}
use Rattle.std.proofs.lemmas.Option.{slice_get_within, slice_get-get_or}
use Rattle.vr_disk.specs.DiskState.{Call, Write, Sync}
use Rattle.vr_disk.specs.Regions.{header_place, prepare_place, prepare_sectors, sectors}
use Rattle.vr_header.specs.Made.{is_entry_header}
use Rattle.vr_super.specs.Copies.{copy_bytes}
use Rattle.vr_super.specs.Calls.{save_from}
use Rattle.vr_rings.specs.Slots.{sector_of}
use Rattle.vr_rules.specs.Opening.{AreKinds, IsKind, first_value}
use Rattle.vr_world.specs.Lying.{Lying, hazards, zero_cell, zero_face}
use Rattle.vr_rules.specs.Formatting.{format_calls, reserved_header, reserved_headers, zero_prepares, zero_sector}
use Rattle.vr_world.specs.World as world
use Rattle.vr_world.specs.World.{World, happen}
use Rattle.vr_world.specs.Group.{Group, Played, Run, fresh_group}
use Rattle.vr_world.specs.Files.{IsOfFile}
use Rattle.vr_world.specs.GroupFit.{IsFitMove}
use Rattle.vr_world.specs.Safe as safe
use Rattle.vr_header.specs.Names.{root_header}
use Rattle.vr_rules.proofs.FitFresh.{fresh_fits}
use Rattle.vr_world.proofs.FitGroups.{fresh_group_fits}
use Rattle.law_1_machine.specs.Basics.{In}
use Rattle.law_4_disks.proofs.Calls.{copy_are, format_is, prepares_fit, reserved_is, sector_content, zero_content}
use Rattle.law_4_disks.proofs.Fresh.{fresh_beside, group_stocked, none_made, schedules_begin, some_world}
use Rattle.law_5_seals.specs.Seals.{HasCell, HasSectors, IsSealed}
use Rattle.law_5_seals.proofs.Contents.{has_after_all}
use Rattle.law_5_seals.proofs.Sectors.{header_sealed, saves_sealed, seals_append}
use Rattle.law_5_seals.proofs.Turning.{plain_sealed}
use Rattle.law_6_one_log.specs.Bridged.{IsLed}
use Rattle.law_6_one_log.specs.Schedules.{IsHashedOf, IsSealedWorld}
use Rattle.law_6_one_log.specs.ScheduleLaws.{LeavesUnforged, SchedulesAreRuns, WorldsAreRuns, WorldsBeginUnforged}
use Rattle.vr_header.specs.NoCollision.{NoCollision}
use Rattle.law_4_disks.specs.Worlds.{IsMatched, first_host, first_world}
use Rattle.law_6_one_log.proofs.Names.{none_hashed}
use Rattle.law_6_one_log.proofs.ScheduleRuns.{happenings_are_runs}
use Rattle.law_6_one_log.proofs.Scripts.{AreSealed}
use Rattle.law_6_one_log.proofs.UnforgedValues.{bridged_fresh}

zero_there : get_or zero_sector 110 0 ≡ 0
zero_there = refl

zero_sealed : {home : ℕ} → IsSealed home [] zero_sector
zero_sealed {home} = plain_sealed home [] zero_sector zero_content (inl zero_there)

zero_some : {home : ℕ} (b : List ℕ) → Some zero_sector ≡ Some b → IsSealed home [] b
zero_some {home} b e = let same : zero_sector ≡ b = cc in subst (IsSealed home []) same zero_sealed

zero_cell_sealed : {home : ℕ} → HasCell (IsSealed home []) zero_cell
zero_cell_sealed = record { truth = zero_sealed; reads = zero_some; before = zero_sealed }

pub zero_face_sealed : {home : ℕ} → HasSectors (IsSealed home []) zero_face
zero_face_sealed {home} = record {
  count = length-replicate sectors zero_cell;
  cells = λ k d l. let n = length-replicate sectors zero_cell in subst (HasCell (IsSealed home [])) (sym (get_or-replicate sectors k zero_cell d (omega (arith, n, l)))) zero_cell_sealed;
  waiting = λ k d l. absurd (omega arith);
}

-- ---- formatting

zeros_sealed : (home n i : ℕ) → i + n ≤ sectors → AreSealed home [] (map (λ k. Write k zero_sector) (range_with_len i n))
zeros_sealed home zero i l = tt
zeros_sealed home (suc n) i l = ((omega (arith, l), zero_sealed), zeros_sealed home n (i + 1) (omega (arith, l)))

reserved_none : (ver home slot : ℕ) → is_entry_header (reserved_header ver home slot) ≡ true → In (reserved_header ver home slot) []
reserved_none ver home slot e = let bad : false ≡ true = e in absurd cc

reserved_sealed : (ver home n i : ℕ) → (1 ≤ ver) × (ver ≤ 2) → home < 2 ^ 64 → i + n ≤ 64 → AreSealed home [] (map (λ slot. Write (header_place slot) (sector_of (reserved_header ver home slot))) (range_with_len i n))
reserved_sealed ver home zero i k room l = tt
reserved_sealed ver home (suc n) i k room l =
    let is = reserved_is ver home i k room (omega (arith, l)) in
    ((omega (arith, l), header_sealed home [] (reserved_header ver home i) is (sector_content (reserved_header ver home i) is) (λ e _ _. reserved_none ver home i e)), reserved_sealed ver home n (i + 1) k room (omega (arith, l)))

pub format_sealed : (kind : Kind) (home n i : ℕ) → IsKind kind → home < 2 ^ 64 → least_members kind.version ≤ n → n ≤ 6 → i < n → AreSealed home [] (format_calls kind home n i)
format_sealed kind home n i k room a b l =
    let v = first_value kind home n i in
    let ver = kind.version in
    let good = (fresh_fits kind home n i k room a b l).value in
    let last : List Call = Sync ∷ save_from 0 4 (copy_bytes v) in
    subst (AreSealed home []) (sym (format_is kind home n i))
    (seals_append home [] (zero_prepares ver) (reserved_headers ver home ++ last) (zeros_sealed home (64 * prepare_sectors ver) (prepare_place ver 0) (prepares_fit ver))
    (seals_append home [] (reserved_headers ver home) last (reserved_sealed ver home 64 0 k room (omega arith)) (tt, saves_sealed home [] v good (copy_are v good) tt 4 0 (omega arith))))

-- ---- the world

fresh_sealed : (kinds : ℕ → Kind) (home n : ℕ) → AreKinds kinds n → home < 2 ^ 64 → n ≤ 6 → IsSealedWorld home (first_world kinds home n) []
unfolding first_world
fresh_sealed kinds home n k room b = record {
  disks = λ i m e.
      let f : ℕ → world.Host Lying = first_host kinds home n in
      let size = length-map-range_with_len f 0 n in
      let within = slice_get_within (map f (range_with_len 0 n)) i m e in
      let l : i < n = omega (arith, size, within) in
      let is : m ≡ f i = some_world m (f i) (sym e ∙ (slice_get-get_or (map f (range_with_len 0 n)) i m within ∙ ap Some (get_or-map-range_with_len f 0 n i i m l (omega arith)))) in
      subst (λ (m : world.Host Lying). HasSectors (IsSealed home []) m.disk.face) (sym is) (has_after_all (IsSealed home []) (format_calls (kinds i) home n i) zero_face zero_face_sealed (format_sealed (kinds i) home n i (k i l).0 room (k i l).1 b l));
  sent = λ number s e. absurd cc;
}

-- a group that was just made: no move led there, and nothing was made in the machine
fresh_led : (kinds : ℕ → Kind) (home n : ℕ) → AreKinds kinds n → home < 2 ^ 64 → 1 ≤ n → n ≤ 6 → IsLed home (fresh_group kinds home n)
fresh_led kinds home n k room a b = record {
  n = n;
  run = [];
  fit = record {
    number = room;
    some = a;
    many = b;
    moves = All-nil (λ (p : Played). IsFitMove p.move);
    files = All-nil (λ (p : Played). IsOfFile p.before p.move);
    kinds = kinds;
    are_kinds = k;
    of_run = Run.ended (fresh_group kinds home n);
  };
  is = refl;
}

pub worlds_begin_unforged : WorldsBeginUnforged
unfolding fresh_led
worlds_begin_unforged kinds home n k room a b =
    let c = bridged_fresh kinds home n k room a b in
    let none = c.1 in (
      record {
        beside = fresh_beside kinds home n k room b;
        fit = fresh_group_fits kinds home n k room a b;
        stock = group_stocked kinds home n;
        bridged = c.0;
        sealed = subst (IsSealedWorld home (first_world kinds home n)) (sym (none_made kinds home n)) (fresh_sealed kinds home n k room b);
        past = fresh_led kinds home n k room a b;
        few = omega (arith, none);
      },
      refl,
    )

pub worlds_are_runs : WorldsAreRuns
worlds_are_runs kinds home n xs k number a b few lines never =
    let u = worlds_begin_unforged kinds home n k number a b in
    let w = first_world kinds home n in
    let into : (bytes : List ℕ) → safe.IsHashed u.0.past.run (root_header home) bytes ⊎ IsHashedOf home w xs bytes → IsHashedOf home w xs bytes =
    λ bytes h. elim h [ inl old ↦ none_hashed home xs w bytes (subst (λ (run : List Played). safe.IsHashed run (root_header home) bytes) u.1 old) | inr new ↦ new ] in
    let size : length u.0.past.run ≡ 0 = ap (λ (run : List Played). length run) u.1 in
    let m = happenings_are_runs home xs w (fresh_group kinds home n) u.0 (record { lines = lines; names = λ p q x y same. never p q (into p x) (into q y) same; few = omega (arith, size, few) }) in
    let first : Group = fresh_group kinds home n in
    let end : World Lying = (happen hazards w xs).world in
    (m.0, λ p q x y same. never p q (m.1 p x) (m.1 q y) same, subst (λ (past : List Played). LeavesUnforged home end first past m.0.run) u.1 m.2, m.3)

pub schedules_are_runs : SchedulesAreRuns
unfolding happen
schedules_are_runs kind n xs k least b few may =
    let first : Group = fresh_group (λ i. kind) 0 n in
    let all : World Lying → Type 0 = λ w. (m : IsMatched first (happen hazards w xs)) × NoCollision (λ bytes. safe.IsHashed m.run (root_header 0) bytes) in
    let is = schedules_begin kind n in
    let some = (least_of kind.version).0 in
    let m = worlds_are_runs (λ i. kind) 0 n xs (λ i l. (k, least)) (omega arith) (omega (arith, some, least)) b few may.lines (subst (λ (w : World Lying). NoCollision (IsHashedOf 0 w xs)) is may.names) in
    subst all (sym is) (m.0, m.1)
