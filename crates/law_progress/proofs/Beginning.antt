-- A new group lags in nothing, and answers.
use Rattle.std.proofs.Common.{arith, ℕ, zero, suc, ◌+◌, ◌-◌, ◌<◌, ◌≤◌, ◌≡◌, ◌∙◌, inl, inr, refl, sym, ap, subst, Bool, true, cond, List, length, Some, None}
use Rattle.std.specs.Prelude.{Contains, IfSome, slice_get}
use Rattle.std.specs.List.{range_with_len}
use Rattle.std.specs.Option.{option_map_or}
use Rattle.std.proofs.Math.Nat.{mod-eq_of_lt}
use Rattle.std.proofs.lemmas.Bool.{cases_eq, eq-eqb, ne_eqb}
use Rattle.std.proofs.lemmas.List.{length-replicate}
use Rattle.std.proofs.lemmas.List.FromFn.{get_or-range_with_len, length-range_with_len}
use Rattle.vr_base.specs.Groups.{AreQuorums, least_members, quorums_of}
use Rattle.vr_base.specs.Replicas.{no_replicas}
use Rattle.vr_base.specs.Versions.{by_version}
use Rattle.vr_base.specs.declared.kind.Kind.{Kind}
use Rattle.vr_base.specs.declared.table.Quorums.{Quorums}
use Rattle.vr_choose.proofs.Columns.{column}
use Rattle.vr_state.specs.Asks.{is_fresh}
use Rattle.vr_state.specs.declared.session.SessionAnswer.TheVariants as answer
use Rattle.vr_state.specs.Sessions.{checked}
use Rattle.vr_disk.proofs.Together.{length_after_all}
use Rattle.vr_disk.specs.Regions.{sectors as sectors_count}
use Rattle.vr_msg.specs.declared.frame.Frame.TheVariants as frame
use Rattle.vr_msg.specs.declared.request.RequestFields.{RequestFields}
use Rattle.vr_rules.proofs.FitFresh.{fresh_fits}
use Rattle.vr_rules.specs.Deciding.{session_answer}
use Rattle.vr_rules.specs.Formatting.{format_calls}
use Rattle.vr_rules.specs.Laws.{IsMessage}
use Rattle.vr_world.specs.Lying.{Lying, blank_lying, hazards, lying, zero_cell}
use Rattle.vr_rules.specs.Opening.{IsKind, blank, fresh}
use Rattle.vr_rules.specs.Replica.{Replica, ackers_at, head, part_at, replication, version}
use Rattle.vr_world.specs.World.{Happening, World, fresh_host, fresh_world, happen}
use Rattle.law_progress.proofs.Answering.{requests_are_answered}
use Rattle.law_progress.proofs.Lists.{All-each, got_map, row_at}
use Rattle.law_progress.specs.Answering.{AreDistinct, FollowsLevel, HasBackup, IsAsk, IsLevel, IsNew, LeadsLevel, NewGroupsAnswer, Runs, answer as answer_to, normal_lines}

-- ---- a row of numbers

row_in : (a n x : ℕ) → Contains (range_with_len a n) x → (a ≤ x) × (x < a + n)
row_in a n x there =
    let within : there.0 < n = subst (λ k. there.0 < k) (length-range_with_len a n) there.1 in
    let at : a + there.0 ≡ x = sym (get_or-range_with_len a n there.0 x within) ∙ there.2 in
    (omega (arith, at), omega (arith, at, within))

row_from : (n i : ℕ) → i < n → slice_get (range_with_len 0 n) i ≡ Some i
row_from n i low = let same : i ≡ i - 0 = omega arith in ap (slice_get (range_with_len 0 n)) same ∙ row_at 0 n i (omega arith) (omega (arith, low))

row_apart : (a n : ℕ) → AreDistinct (range_with_len a n)
row_apart a zero = tt
row_apart a (suc n) = (λ there. let low = (row_in (a + 1) n a there).0 in omega (arith, low), row_apart (a + 1) n)

quorum_fits : (n : ℕ) → replication n ≤ n
quorum_fits n = elim (quorums_of n) as (λ o. IfSome o (AreQuorums n) → option_map_or (λ (q : Quorums). q.replication) o 0 ≤ n) [
  | None ↦ λ a. omega arith
  | Some q ↦ λ a. a.replication_fits
] (column n)

-- ---- a new member

module _ (kind : Kind) (n : ℕ) (is : IsKind kind) (least : least_members kind.version ≤ n) (most : n ≤ 6) where
  abbrev new : ℕ → Replica
  new i = fresh kind 0 n i

  abbrev w : World Lying
  w = fresh_world hazards kind n

  some : 1 ≤ n
  some = elim (cases_eq kind.version 2) [
    | inl two ↦ let one : 1 ≤ n = subst (λ (b : Bool). cond b 1 2 ≤ n) (eq-eqb kind.version 2 two) least in one
    | inr other ↦ let low : 2 ≤ n = subst (λ (b : Bool). cond b 1 2 ≤ n) (ne_eqb kind.version 2 other) least in omega (arith, low)
  ]

  new_head : (i : ℕ) → head (new i) ≡ 0
  unfolding blank head
  new_head i = refl

  runs : (i : ℕ) → i < n → Runs w i (new i) (hazards.formatted kind 0 n i)
  unfolding blank fresh_world
  runs i low = record {
    member = got_map (fresh_host hazards kind n) (range_with_len 0 n) i i (row_from n i low);
    index = refl;
    size = refl;
    sound = (fresh_fits kind 0 n i is (omega arith) least most low).sound;
    awake = refl;
  }

  leads_level : LeadsLevel (new 0)
  unfolding blank
  leads_level = record {
    started = refl;
    leads = sym (mod-eq_of_lt (omega (arith, some)));
    loaded = refl;
    applied = refl;
    level = new_head 0;
    unheard = unheard;
    room = let none = new_head 0 in omega (arith, none);
  }
    where
      unheard : ackers_at (new 0) (head (new 0) + 1) ≡ no_replicas
      unheard = ap (λ k. ackers_at (new 0) (k + 1)) (new_head 0)

  follows_level : (hash : List ℕ → List ℕ) (i : ℕ) → FollowsLevel hash (new 0) (new i)
  unfolding blank head part_at
  follows_level hash i = record { of_version = refl; of_group = refl; view = refl; started = refl; level = refl; same = refl; room = omega arith }

  level : IsLevel lying.hash w 0 (range_with_len 1 (replication n - 1))
  unfolding fresh_world
  level = record {
    replica = new 0;
    disk = hazards.formatted kind 0 n 0;
    runs = runs 0 (omega (arith, some));
    leads = leads_level;
    follow = All-each (HasBackup lying.hash w 0 (new 0)) (range_with_len 1 (replication n - 1)) (λ i there.
        let row = row_in 1 (replication n - 1) i there in
        let low = row.0 in
        let high = row.1 in
        let fits = quorum_fits n in
        record {
          other = λ e. omega (arith, e, low);
          replica = new i;
          disk = hazards.formatted kind 0 n i;
          runs = runs i (omega (arith, low, high, fits));
          follows = follows_level lying.hash i;
        });
    distinct = row_apart 1 (replication n - 1);
    enough = let long = length-range_with_len 1 (replication n - 1) in omega (arith, long);
  }

  session_new : (q : RequestFields) → q.request ≡ 0 → is_fresh (session_answer q (new 0)) ≡ true
  unfolding blank checked
  session_new q first = ap is_fresh (ap (λ (b : Bool). cond b answer.Fresh answer.Evicted) (eq-eqb q.request 0 first))

  is_new : (q : RequestFields) → IsMessage (frame.Request q) → q.version ≡ kind.version → q.cluster ≡ 0 → q.request ≡ 0 → IsNew q (new 0)
  unfolding blank
  is_new q form v group first = record { form = form; of_version = v; of_group = group; fresh = session_new q first }

  new_version : version (new 0) ≤ by_version kind.version 1 2
  unfolding blank
  new_version = elim (cases_eq kind.version 2) [
    | inl two ↦ subst (λ (b : Bool). kind.version ≤ cond b 2 1) (sym (eq-eqb kind.version 2 two)) is.1
    | inr other ↦ let high = is.1 in subst (λ (b : Bool). kind.version ≤ cond b 2 1) (sym (ne_eqb kind.version 2 other)) (omega (arith, high, other))
  ]

  long : length (hazards.formatted kind 0 n 0).face.cells ≡ sectors_count
  long = length_after_all (format_calls kind 0 n 0) (blank_lying kind.version).face ∙ length-replicate sectors_count zero_cell

  pub answers : (q : RequestFields) (ask : Happening) → IsAsk 0 q ask → IsMessage (frame.Request q) → q.version ≡ kind.version → q.cluster ≡ 0 → q.request ≡ 0
      → Contains (happen hazards w (normal_lines w ask 0 (range_with_len 1 (replication n - 1)))).outputs (answer_to lying.hash q (new 0))
  unfolding level blank
  answers q ask is_ask form v group first = (requests_are_answered w q ask 0 (range_with_len 1 (replication n - 1)) is_ask level (is_new q form v group first) long new_version).1

pub new_groups_answer : NewGroupsAnswer
new_groups_answer kind n q ask is least most is_ask form v group first = answers kind n is least most q ask is_ask form v group first
