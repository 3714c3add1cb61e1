-- Members that begin anyhow, on files on which makings may have stopped, keep one log.
use Rattle.std.proofs.Common.{ℕ, zero, suc, ◌+◌, ◌^◌, ◌≤◌, ◌<◌, ◌≡◌, ◌⊎◌, inl, inr, arith, refl, sym, ap, ◌∙◌, subst, List, [], ◌∷◌, length, map, Option, Some, None}
use Rattle.std.specs.Prelude.{slice_get}
use Rattle.std.specs.List.{AllByRecursion, range_with_len}
use Rattle.std.proofs.lemmas.List.FromFn.{get_or-map-range_with_len, length-map-range_with_len}
use Rattle.std.proofs.lemmas.Option.{slice_get_within, slice_get-get_or}
use Rattle.vr_base.specs.Groups.{least_members}
use Rattle.vr_base.specs.declared.kind.Kind.{Kind}
use Rattle.vr_base.specs.declared.table.Config.{Config}
use Rattle.vr_header.specs.Names.{root_header}
use Rattle.vr_header.specs.NoCollision.{NoCollision}
use Rattle.vr_world.specs.Group.{Member, Played, fresh_group, fresh_member}
use Rattle.vr_world.specs.Lying.{Lying, after_calls, blank_lying, hazards, zero_face}
use Rattle.vr_rings.specs.Held.{looked}
use Rattle.vr_rules.specs.Opening.{AreKinds, IsKind, blank, first_value, fresh}
use Rattle.vr_rules.specs.Replica.{Replica}
use Rattle.vr_world.specs.Safe as safe
use Rattle.vr_world.specs.World.{Happened, Happening, Host, World, happen}
use Rattle.law_4_disks.specs.Worlds.{AreBeside, IsLine, IsMatched, Stands, first_host, first_world}
use Rattle.law_4_disks.proofs.Fresh.{none_made, some_world}
use Rattle.law_5_seals.specs.Seals.{HasSectors, IsSealed}
use Rattle.law_6_one_log.specs.Laws.{KeepsLog}
use Rattle.law_6_one_log.specs.ScheduleLaws.{IsHashedBy, IsUnforgedBeside, LeavesUnforged}
use Rattle.law_6_one_log.specs.Schedules.{IsHashedOf, IsSealedWorld, room}
use Rattle.law_6_one_log.proofs.Fresh.{worlds_begin_unforged}
use Rattle.law_6_one_log.proofs.Known.{one_log}
use Rattle.law_6_one_log.proofs.Names.{none_hashed}
use Rattle.law_6_one_log.proofs.ScheduleRuns.{happenings_are_runs}
use Rattle.law_6_one_log.proofs.Traces.{keeps_log}
use Rattle.law_7_members.specs.Deeds.{config_at}
use Rattle.law_7_members.specs.Files.{Act, ActBy, AtWork, all_lines, on_file}
use Rattle.law_7_members.specs.Whole as whole
use Rattle.law_7_members.specs.Whole.{AreRuns, Begins, ZerosBeginTheFirst, as_read, made_on, making, new_host, on_zeros, own, world_of}
use Rattle.law_7_members.proofs.Files.{AllRunOn, RunsOn, scheduled}
use Rattle.law_7_members.proofs.Keeping.{few_lines, fresh_runs}
use Rattle.law_7_members.proofs.Making.{IsNew, late_new, made_new, unfinished_unused, zeros_hold_none}

-- ---- each member is new

pub record IsNewHost (kind : Kind) (c : Config) (m : Host Lying) : Type 0 where
  pub file : Lying
  pub is : m ≡ new_host kind c file
  pub new : IsNew kind c file

begins_new : (kind : Kind) (c : Config) (m : Host Lying) (acts : List Act) → IsKind kind → c.cluster < 2 ^ 64 → least_members kind.version ≤ c.n → c.n ≤ 6 → c.replica < c.n → Begins kind c m acts → IsNewHost kind c m
begins_new kind c _ _ is number few many l (whole.makes d o o' run arrivals acts told unfinished size lives) =
    record { file = made_on kind c d.face; is = refl; new = made_new kind c d.face is number few many l (unfinished_unused c number many l d.face unfinished) }
begins_new kind c _ _ is number few many l (whole.stops_late f acts unfinished opened lives) =
    record { file = as_read kind f; is = refl; new = late_new kind c f (unfinished_unused c number many l f unfinished) opened }
begins_new kind c _ _ is number few many l whole.waits =
    record { file = made_on kind c zero_face; is = refl; new = made_new kind c zero_face is number few many l (unfinished_unused c number many l zero_face whole.zeros) }

abbrev pub AreNew : (ℕ → Kind) → ℕ → ℕ → (ℕ → Host Lying) → Type 0
AreNew kinds cluster n first = (i : ℕ) → i < n → IsNewHost (kinds i) (config_at cluster n i) (first i)

pub begin_new : (kinds : ℕ → Kind) (cluster n : ℕ) (first : ℕ → Host Lying) (xs : List ActBy) → AreKinds kinds n → cluster < 2 ^ 64 → 1 ≤ n → n ≤ 6 → AreRuns kinds cluster n first xs → AreNew kinds cluster n first
begin_new kinds cluster n first xs are number few many r i l = begins_new (kinds i) (config_at cluster n i) (first i) (own i xs) (are i l).0 number (are i l).1 many l (r.each i l)

-- ---- so they stand beside a group that was just made

some_replica : (a b : Replica) → Some a ≡ Some b → a ≡ b
some_replica a b e = cc

fresh_saved : (kind : Kind) (cluster n i : ℕ) → (fresh kind cluster n i).saved ≡ first_value kind cluster n i
unfolding blank
fresh_saved kind cluster n i = refl

new_stands : (kind : Kind) (c : Config) (file : Lying) → IsNew kind c file → Stands (new_host kind c file) (fresh_member kind c.cluster c.n c.replica)
new_stands kind c file new =
    let r = fresh kind c.cluster c.n c.replica in
    record {
      replica = refl;
      running = λ q e. (new.on, ap (λ (q : Replica). q.saved) (sym (some_replica r q e)) ∙ fresh_saved kind c.cluster c.n c.replica);
      stopped = λ e. absurd (let bad : Some r ≡ None = e in cc);
    }

module _ (kinds : ℕ → Kind) (cluster n : ℕ) (first : ℕ → Host Lying) (new : AreNew kinds cluster n first) where
  -- the member at a place is the first one there
  first_at : (i : ℕ) (m : Host Lying) → slice_get (world_of first n).members i ≡ Some m → (i < n) × (m ≡ first i)
  unfolding world_of
  first_at i m e =
      let size = length-map-range_with_len first 0 n in
      let within = slice_get_within (map first (range_with_len 0 n)) i m e in
      let l : i < n = omega (arith, size, within) in
      (l, some_world m (first i) (sym e ∙ (slice_get-get_or (map first (range_with_len 0 n)) i m within ∙ ap Some (get_or-map-range_with_len first 0 n i i m l (omega arith)))))

  begun_beside : AreBeside (world_of first n) (fresh_group kinds cluster n)
  unfolding world_of fresh_group
  begun_beside = record {
    n = refl;
    sent = refl;
    count = length-map-range_with_len (λ i. fresh_member (kinds i) cluster n i) 0 n ∙ sym (length-map-range_with_len first 0 n);
    each = λ i m e.
        let h : ℕ → Member = λ i. fresh_member (kinds i) cluster n i in
        let size = length-map-range_with_len h 0 n in
        let at = first_at i m e in
        let l = at.0 in
        let x = new i l in
        let there : slice_get (map h (range_with_len 0 n)) i ≡ Some (h i) = slice_get-get_or (map h (range_with_len 0 n)) i (h i) (omega (arith, size, l)) ∙ ap Some (get_or-map-range_with_len h 0 n i i (h i) l (omega arith)) in
        (h i, there, subst (λ (m : Host Lying). Stands m (h i)) (sym (at.1 ∙ x.is)) (new_stands (kinds i) (config_at cluster n i) x.file x.new));
  }

  begun_sealed : IsSealedWorld cluster (world_of first n) []
  unfolding world_of
  begun_sealed = record {
    disks = λ i m e. (let at = first_at i m e in let x = new i at.0 in subst (λ (m : Host Lying). HasSectors (IsSealed cluster []) m.disk.face) (sym (at.1 ∙ x.is)) x.new.sealed);
    sent = λ number s e. absurd cc;
  }

  module _ (are : AreKinds kinds n) (number : cluster < 2 ^ 64) (few : 1 ≤ n) (many : n ≤ 6) where
    pub begun_unforged : (u : IsUnforgedBeside cluster (world_of first n) (fresh_group kinds cluster n)) × (u.past.run ≡ [])
    begun_unforged =
        let u = worlds_begin_unforged kinds cluster n are number few many in (
          record {
            beside = begun_beside;
            fit = u.0.fit;
            stock = u.0.stock;
            bridged = u.0.bridged;
            sealed = subst (IsSealedWorld cluster (world_of first n)) (sym (none_made kinds cluster n)) begun_sealed;
            past = u.0.past;
            few = u.0.few;
          },
          u.1,
        )

    -- what happens to them from there is a run of the group, and leaves nothing forged
    pub begun_happen : (xs : List Happening) → length xs < room cluster → AllByRecursion IsLine xs → NoCollision (IsHashedOf cluster (world_of first n) xs)
        → (m : IsMatched (fresh_group kinds cluster n) (happen hazards (world_of first n) xs)) × IsHashedBy cluster (world_of first n) xs m.run × LeavesUnforged cluster (happen hazards (world_of first n) xs).world (fresh_group kinds cluster n) begun_unforged.0.past.run m.run
    begun_happen xs short lines never =
        let u = begun_unforged in
        let w = world_of first n in
        let into : (bytes : List ℕ) → safe.IsHashed u.0.past.run (root_header cluster) bytes ⊎ IsHashedOf cluster w xs bytes → IsHashedOf cluster w xs bytes =
        λ bytes h. elim h [ inl old ↦ none_hashed cluster xs w bytes (subst (λ (run : List Played). safe.IsHashed run (root_header cluster) bytes) u.1 old) | inr new ↦ new ] in
        let size : length u.0.past.run ≡ 0 = ap (λ (run : List Played). length run) u.1 in
        let m = happenings_are_runs cluster xs w (fresh_group kinds cluster n) u.0 (record { lines = lines; names = λ p q x y same. never p q (into p x) (into q y) same; few = omega (arith, size, short) }) in
        (m.0, m.1, m.2)

    begun_are_runs : (xs : List Happening) → length xs < room cluster → AllByRecursion IsLine xs → NoCollision (IsHashedOf cluster (world_of first n) xs)
        → (m : IsMatched (fresh_group kinds cluster n) (happen hazards (world_of first n) xs)) × NoCollision (λ bytes. safe.IsHashed m.run (root_header cluster) bytes)
    begun_are_runs xs short lines never = let m = begun_happen xs short lines never in (m.0, λ p q x y same. never p q (m.1 p x) (m.1 q y) same)

    -- and each runs on a file of its version
    pub begun_run : AllRunOn (world_of first n)
    begun_run i m e =
        let at = first_at i m e in
        let one = new i at.0 in
        subst (λ (h : Host Lying). RunsOn h.replica h.disk) (sym (at.1 ∙ one.is)) (fresh_runs (kinds i) cluster n i one.file one.new.on.file)

-- ---- on zeros no slot holds an entry

ranged_alike : {X : Type 0} (f g : ℕ → X) (n i : ℕ) → ((k : ℕ) → k < i + n → f k ≡ g k) → map f (range_with_len i n) ≡ map g (range_with_len i n)
ranged_alike f g zero i h = refl
ranged_alike f g (suc n) i h = ap (λ x. x ∷ map f (range_with_len (i + 1) n)) (h i (omega arith)) ∙ ap (λ xs. g i ∷ xs) (ranged_alike f g n (i + 1) (λ k l. h k (omega (arith, l))))

zeros_blank : (kind : Kind) → as_read kind zero_face ≡ blank_lying kind.version
zeros_blank kind =
    let v = kind.version in
    let slots = ranged_alike (λ slot. looked v zero_face slot None) (λ slot. None) 64 0 (λ slot l. zeros_hold_none v slot (omega (arith, l))) in
    ap (λ (held : List (Option (List ℕ))). let d : Lying = record { face = zero_face; held = held; version = v } in d) slots

zero_host : (kinds : ℕ → Kind) (cluster n i : ℕ) → on_zeros kinds cluster n i ≡ first_host kinds cluster n i
zero_host kinds cluster n i = ap (λ (d : Lying). on_file (Some (fresh (kinds i) cluster n i)) (after_calls d (making (kinds i) (config_at cluster n i)))) (zeros_blank (kinds i))

pub zeros_begin_the_first : ZerosBeginTheFirst
unfolding world_of first_world
zeros_begin_the_first kinds cluster n =
    ap (λ (hosts : List (Host Lying)). let w : World Lying = record { n = n; members = hosts; sent = [] } in w) (ranged_alike (on_zeros kinds cluster n) (first_host kinds cluster n) n 0 (λ i l. zero_host kinds cluster n i))

pub begun_keep_one_log : (kinds : ℕ → Kind) (cluster n : ℕ) (first : ℕ → Host Lying) (xs : List ActBy) (h : Happened Lying) → AreKinds kinds n → cluster < 2 ^ 64 → 1 ≤ n → n ≤ 6 → length xs < 2 ^ 46 → AreNew kinds cluster n first → AtWork cluster (world_of first n) xs h
    → NoCollision (IsHashedOf cluster (world_of first n) (all_lines xs)) → KeepsLog kinds cluster n h
begun_keep_one_log kinds cluster n first xs h are number few many short new work never =
    let w = world_of first n in
    let s = scheduled cluster w xs h (begun_run kinds cluster n first new are number few many) work in
    let m = begun_are_runs kinds cluster n first new are number few many (all_lines xs) (few_lines cluster (length (all_lines xs)) (length xs) short s.few) s.lines never in
    subst (KeepsLog kinds cluster n) s.is (keeps_log kinds cluster n are number few many (one_log cluster n) (happen hazards w (all_lines xs)) m.0 m.1)
