-- A group that was just made: the machine's members are started one after the other.
use Rattle.vr_base.specs.declared.kind.Kind.{Kind}
use Rattle.std.proofs.Common.{ℕ, zero, suc, ◌+◌, ◌≤◌, ◌<◌, ◌^◌, ◌≡◌, ◌∙◌, inl, inr, arith, refl, sym, ap, subst, List, [], Some, None}
use Rattle.std.specs.Prelude.{All}
use Rattle.std.proofs.lemmas.Bool.{cases_lt}
use Rattle.std.proofs.lemmas.List.Elements.{All-nil}
use Rattle.vr_base.proofs.Members.{is_sized}
use Rattle.vr_header.specs.declared.header.Header.{Header}
use Rattle.vr_world.specs.Lying.{lying}
use Rattle.vr_rules.specs.Opening.{AreKinds, fresh}
use Rattle.vr_world.specs.Group.{Played, Run, fresh_group, fresh_member}
use Rattle.vr_world.specs.GroupFit.{IsFitGroup, IsFitMove}
use Rattle.vr_header.specs.declared.part.Part.TheVariants.{Here, Nothing}
use Rattle.vr_world.proofs.FitGroups.{fresh_at, fresh_group_fits}
use Rattle.law_1_machine.specs.Basics.{update}
use Rattle.law_1_machine.proofs.Counting.{here, elsewhere}
use Rattle.law_1_machine.specs.Group.{Group, Member, becomes}
use Rattle.law_1_machine.specs.Members.{Memory}
use Rattle.law_1_machine.specs.Opening.{Opened, Reaches, Sound, opened}
use Rattle.law_1_machine.specs.Parts as part
use Rattle.law_1_machine.specs.Machine as move
use Rattle.law_2_chains.specs.Reflecting.{IsDisk, entries_by}
use Rattle.law_2_chains.specs.Chains.{Setup, IsReached, WasMade}
use Rattle.law_2_chains.proofs.Moving.{member_at, memory_at}
use Rattle.law_2_chains.proofs.Fresh.{disk_is, fresh_nothing, keeps_fresh, reflects_fresh, tables_fresh}
use Rattle.law_2_chains.proofs.Sizes.{sizes_fit}
use Rattle.law_2_chains.specs.Bridge.{Bridges, FollowsFresh, IsMember, IsRunning, IsSent}
use Rattle.law_2_chains.proofs.Bridging.{runs_so}

module _ (u : Setup) where
  abbrev nothing : ℕ → part.Part Header
  nothing k = part.Nothing

  abbrev new : Member Header
  new = move.fresh u.quorums (entries_by u.hash u.cluster)

  -- it starts, and loads
  abbrev woken : Member Header → Member Header
  woken y = record y { slots = λ s. None; memory = Some (opened y.last nothing 0) }

  abbrev first : Memory Header
  first = opened new.last nothing 0

  abbrev loaded : Memory Header
  loaded = record first { state = Some first.root }

  abbrev awake : Member Header
  awake = record (woken new) { memory = Some loaded }

  -- the first k members are awake
  abbrev members_of : ℕ → ℕ → Member Header
  members_of zero = λ j. new
  members_of (suc k) = update (update (members_of k) k (woken new)) k awake

  abbrev begun : ℕ → Group Header
  begun k = record { members = members_of k; made = []; sent = []; chosen = [] }

  others : (k j : ℕ) → (j ≡ k → ⊥) → members_of (suc k) j ≡ members_of k j
  others k j other = elsewhere (update (members_of k) k (woken new)) k awake j other ∙ elsewhere (members_of k) k (woken new) j other

  members_at : (k j : ℕ) → (j < k → members_of k j ≡ awake) × (k ≤ j → members_of k j ≡ new)
  members_at zero j = (λ l. absurd (omega arith), λ l. refl)
  members_at (suc k) j = (
    λ l. elim (cases_lt j k) [
      | inl before ↦ others k j (λ e. omega (arith, e)) ∙ (members_at k j).0 before
      | inr past ↦ (let same : k ≡ j = omega arith in subst (λ x. members_of (suc k) x ≡ awake) same (here (update (members_of k) k (woken new)) k awake))
    ],
    λ l. others k j (λ e. omega (arith, e)) ∙ (members_at k j).1 (omega arith),
  )

  -- a disk from which a member may start with nothing
  abbrev IsEmpty : Member Header → Type 0
  IsEmpty y = (y.memory ≡ None) × (y.under ≡ None) × Sound (entries_by u.hash u.cluster) [] y.slots y.last nothing × Opened y.slots y.last.checkpoint nothing (λ s. None) × Reaches y.last.checkpoint y.last.head nothing 0

  new_empty : IsEmpty new
  new_empty = (
    refl,
    refl,
    record { named = λ k a b. refl; low = λ k h a e. absurd cc; above = λ k h a e. absurd cc; kept = λ k h a e. absurd cc },
    record { found = λ k h a e. absurd cc; stays = λ k a b c. refl; only = λ s h e. absurd cc },
    record { up = omega arith; window = omega arith; whole = λ k a b. absurd (omega arith); next = refl },
  )

  reached : (k : ℕ) → IsReached u (begun k)
  reached zero = move.at_first
  reached (suc k) =
      let s : Group Header = begun k in
      let same : s.members k ≡ new = (members_at k k).1 (omega arith) in
      let r : IsEmpty (s.members k) = subst IsEmpty (sym same) new_empty in
      let s0 : Group Header = becomes s k (woken (s.members k)) in
      let starts : IsReached u s0 = move.and_then s s0 (reached k) (move.starts k nothing (λ z. None) 0 r.0 r.1 r.2 r.3 r.4) in
      let s1 : Group Header = becomes s k (woken new) in
      let started : IsReached u s1 = subst (λ (y : Member Header). IsReached u (becomes s k (woken y))) same starts in
      let s2 : Group Header = becomes s1 k (record (s1.members k) { memory = Some loaded }) in
      let loads : IsReached u s2 = move.and_then s1 s2 started (move.remembers k first loaded (memory_at s k (woken new) first refl) (move.loads refl)) in
      subst (λ (y : Member Header). IsReached u (becomes s1 k (record y { memory = Some loaded }))) (member_at s k (woken new)) loads

-- ---- the group

module _ (u : Setup) (kinds : ℕ → Kind) (c n : ℕ) (are : AreKinds kinds n) (b : n ≤ 6) (n_is : u.quorums.n ≡ n) where
  member_is : (i : ℕ) → i < n → IsMember u (begun u n) i (fresh_member (kinds i) c n i)
  member_is i m =
      let s : Group Header = begun u n in
      let same : s.members i ≡ awake u = (members_at u n i).0 m in
      let size = is_sized (kinds i).version n (are i m).1 b in
      let d = disk_is u (kinds i) c n i size m n_is in
      let run : IsRunning u s i (fresh_member (kinds i) c n i) (fresh (kinds i) c n i) = record {
        memory = loaded u;
        running = ap (λ (y : Member Header). y.memory) same;
        reflects = reflects_fresh u (kinds i) c n i size m n_is;
        stored = keeps_fresh u (kinds i) c n i size m n_is;
        tables = λ free. tables_fresh u (kinds i) c n i size m n_is s refl;
        vouched = λ alone views k h above here. let none : Nothing ≡ Here h = sym (fresh_nothing (kinds i) c n i k) ∙ here in absurd cc;
      } in
      record {
        disk = subst (IsDisk (fresh_member (kinds i) c n i)) (sym same) (record { last = d.last; under = d.under; slots = d.slots; size = d.size });
        running = λ r e. (let is : fresh (kinds i) c n i ≡ r = cc in subst (IsRunning u s i (fresh_member (kinds i) c n i)) is run);
        stopped = λ e. absurd cc;
      }

  fresh_bridges : Bridges u (fresh_group kinds c n) (begun u n)
  unfolding fresh_group
  fresh_bridges = record {
    reached = reached u n;
    size = sym n_is;
    members = λ i m e. let k = fresh_at kinds c n 0 n i m e in let at : 0 + i ≡ i = omega arith in subst (IsMember u (begun u n) i) (subst (λ j. fresh_member (kinds j) c n j ≡ m) at k.0) (member_is i k.1);
    sent = All-nil (IsSent u (begun u n));
    made = All-nil (WasMade []);
  }

pub fresh_runs_so : (kinds : ℕ → Kind) (c n : ℕ) (run : List Played) → AreKinds kinds n → c < 2 ^ 64 → 1 ≤ n → n ≤ 6 → All (λ p. IsFitMove p.move) run → Run (fresh_group kinds c n) run → FollowsFresh kinds c n run
fresh_runs_so kinds c n run are l a b h r =
    let z = sizes_fit lying.hash c n a b in
    let u : Setup = z.0 in
    let bridge : Bridges u (fresh_group kinds c n) (begun u n) = fresh_bridges u kinds c n are b z.2 in
    record {
      setup = u;
      fits = z.1;
      hash_is = z.3;
      cluster_is = z.4;
      size_is = z.2;
      first = begun u n;
      bridges = bridge;
      none_sent = refl;
      none_made = refl;
      follows = runs_so u z.1 z.3 (fresh_group kinds c n) (begun u n) run (subst (λ k. IsFitGroup k (fresh_group kinds c n)) (sym z.4) (fresh_group_fits kinds c n are l a b)) h r bridge;
    }
