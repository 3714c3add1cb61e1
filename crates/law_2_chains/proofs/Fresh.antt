-- A group that was just made stands: the premises of the law can be met.
use Rattle.vr_base.specs.declared.kind.Kind.{Kind}
use Rattle.std.proofs.Common.{ℕ, zero, suc, ◌-◌, ◌<◌, ◌≡◌, ◌∙◌, inl, inr, arith, refl, sym, ap, subst, true, false, List, [], get_or, replicate, cond, Option, Some, None}
use Rattle.std.specs.Prelude.{slice_get, nat_lt}
use Rattle.std.proofs.lemmas.Bool.{cases_lt, true≢false}
use Rattle.std.proofs.lemmas.List.{length-replicate, get_or-replicate, get_or_past}
use Rattle.vr_base.specs.Groups.{is_size}
use Rattle.vr_base.specs.declared.replicas.Replicas.{Replicas}
use Rattle.vr_base.specs.Replicas.{no_replicas, has_replica}
use Rattle.vr_header.specs.declared.header.Header.{Header}
use Rattle.vr_header.specs.declared.part.Part.TheVariants.{Here, Nothing}
use Rattle.vr_msg.specs.declared.statement.Statement.{Statement}
use Rattle.vr_header.specs.Parts.{header_of, has_header}
use Rattle.vr_rules.proofs.Openings.{empty_numbers}
use Rattle.vr_rules.specs.Replica.{Replica, ackers_at, part_at, head}
use Rattle.vr_rules.specs.Opening.{first_value, fresh, blank, listed}
use Rattle.vr_world.specs.Group as group
use Rattle.vr_rules.specs.Sound.{IsSound}
use Rattle.vr_rules.proofs.Heads.{Spans, head_knows, part_before, part_within}
use Rattle.vr_rules.proofs.Wording.{none_stated}
use Rattle.law_1_machine.specs.Basics.{In}
use Rattle.law_1_machine.specs.Group.{Group, Member, becomes, made_at}
use Rattle.law_1_machine.specs.Members.{Memory}
use Rattle.law_1_machine.specs.Opening.{opened}
use Rattle.law_1_machine.specs.Parts as part
use Rattle.law_1_machine.specs.Machine as move
use Rattle.law_2_chains.specs.Local.{Local}
use Rattle.law_2_chains.specs.Reflecting.{entries_by, told_of, Reflects, IsDisk, KeepsStored}
use Rattle.law_2_chains.specs.Chains.{Setup, Mid, Under}
use Rattle.law_2_chains.specs.Tables.{Tables}
use Rattle.law_2_chains.proofs.Moving.{memory_at, under_moves, mid_runs}

pub no_flags : (r : ℕ) → has_replica no_replicas r ≡ true → ⊥
no_flags zero h = absurd (cc)
no_flags (suc zero) h = absurd (cc)
no_flags (suc (suc zero)) h = absurd (cc)
no_flags (suc (suc (suc zero))) h = absurd (cc)
no_flags (suc (suc (suc (suc zero)))) h = absurd (cc)
no_flags (suc (suc (suc (suc (suc zero))))) h = absurd (cc)
no_flags (suc (suc (suc (suc (suc (suc r)))))) h = absurd (cc)

abbrev no_header : Option Header
no_header = None

module _ (kind : Kind) (c n i : ℕ) where
  pub fresh_nothing : (k : ℕ) → part_at (fresh kind c n i) k ≡ Nothing
  unfolding blank
  fresh_nothing k =
      let r : Replica = fresh kind c n i in
      elim (cases_lt k 1) [
        | inl before ↦ part_before r k before
        | inr from ↦
            part_within r k from ∙ elim (cases_lt (k - 1) 64) [
              | inl within ↦ get_or-replicate 64 (k - 1) Nothing Nothing within
              | inr past ↦ get_or_past (replicate 64 Nothing) (k - 1) Nothing (omega (arith, length-replicate 64 (Nothing)))
            ]
      ]

  fresh_spans : Spans (fresh kind c n i)
  unfolding blank
  fresh_spans = record { reach = omega arith; parts = omega (arith, length-replicate 64 (Nothing)) }

  fresh_head : head (fresh kind c n i) ≡ 0
  unfolding blank
  fresh_head =
      elim (cases_lt 0 (head (fresh kind c n i))) [
        | inl some ↦ absurd (true≢false (sym (head_knows (fresh kind c n i) (head (fresh kind c n i)) fresh_spans some (omega arith)) ∙ ap has_header (fresh_nothing (head (fresh kind c n i)))))
        | inr none ↦ omega arith
      ]

  fresh_sound : is_size kind.version n ≡ true → i < n → IsSound (fresh kind c n i)
  unfolding blank
  fresh_sound size member =
      let top = fresh_head in
      record {
        size = size;
        member = member;
        order = record { applied = omega arith; commit = omega arith; known = omega arith; window = omega arith; views = omega arith; number = omega arith };
        lists = record {
          first = omega arith;
          reach = omega arith;
          parts = omega (arith, length-replicate 64 (Nothing));
          ackers = length-replicate 64 no_replicas ∙ sym (length-replicate 64 (Nothing));
          statements = length-replicate n None;
          few = omega arith;
        };
        entries = record { each = λ k h e. let none : None ≡ Some h = sym (ap header_of (fresh_nothing k)) ∙ e in absurd cc };
        stated = record { each = λ j t e. absurd (none_stated n j t e) };
        checkpoint = refl;
        near = omega arith;
        waits = λ m. absurd (m refl);
        numbers = empty_numbers;
      }

  names_nothing : (k : ℕ) → no_header ≡ listed (first_value kind c n i) k
  names_nothing k = elim (nat_lt k 1) as (λ b. no_header ≡ cond b no_header (slice_get [] (k - 1))) [ true ↦ refl | false ↦ refl ]

  slot_empty : (s : ℕ) → no_header ≡ get_or (replicate 64 no_header) s no_header
  slot_empty s =
      elim (cases_lt s 64) [
        | inl within ↦ sym (get_or-replicate 64 s no_header no_header within)
        | inr past ↦ sym (get_or_past (replicate 64 no_header) s no_header (omega (arith, length-replicate 64 no_header)))
      ]

-- the machine as it begins, and what a member of it has of a replica that was just made
abbrev pub beginning : Setup → Group Header
beginning u = record { members = λ r. move.fresh u.quorums (entries_by u.hash u.cluster); made = []; sent = []; chosen = [] }

abbrev pub new_local : Kind → ℕ → ℕ → ℕ → Local
new_local kind c n i = record { member = group.fresh_member kind c n i; made = []; said = [] }

module _ (u : Setup) (kind : Kind) (c n i : ℕ) (size : is_size kind.version n ≡ true) (member : i < n) (n_is : u.quorums.n ≡ n) where
  abbrev pub nothing : ℕ → part.Part Header
  nothing k = part.Nothing

  abbrev pub old : Member Header
  old = (beginning u).members i

  abbrev pub m0 : Memory Header
  m0 = opened old.last nothing 0

  abbrev z0 : Member Header
  z0 = record old { slots = λ s. None; memory = Some m0 }

  abbrev pub m1 : Memory Header
  m1 = record m0 { state = Some m0.root }

  abbrev s1 : Group Header
  s1 = becomes (beginning u) i z0

  abbrev z1 : Member Header
  z1 = record (s1.members i) { memory = Some m1 }

  pub disk_is : IsDisk (group.fresh_member kind c n i) old
  disk_is = record {
    last = record { view = refl; log_view = refl; checkpoint = refl; commit = refl; reach = refl; names = λ k. names_nothing kind c n i k };
    under = tt;
    slots = λ s. slot_empty kind c n i s;
    size = length-replicate 64 no_header;
  }

  at_first : Under u (beginning u) i (new_local kind c n i) (beginning u)
  at_first = record { reached = move.at_first; sent = refl; chosen = λ c h. h; others = λ j d. refl; disk = disk_is; made = tt; none_made = refl }

  starts : Under u (beginning u) i (new_local kind c n i) s1
  starts = under_moves u (beginning u) i (new_local kind c n i) (new_local kind c n i) (beginning u) z0 at_first
      (move.starts i nothing (λ s. None) 0 refl refl
      (record { named = λ k a b. refl; low = λ k h a e. absurd cc; above = λ k h a e. absurd cc; kept = λ k h a e. absurd cc })
      (record { found = λ k h a e. absurd cc; stays = λ k a b c. refl; only = λ s h e. absurd cc })
      (record { up = omega arith; window = omega arith; whole = λ k a b. absurd (omega arith); next = refl }))
      (let d = disk_is in record { last = d.last; under = d.under; slots = d.slots; size = d.size }) tt

  loads : Under u (beginning u) i (new_local kind c n i) (becomes s1 i z1)
  loads = under_moves u (beginning u) i (new_local kind c n i) (new_local kind c n i) s1 z1 starts (move.remembers i m0 m1 (memory_at (beginning u) i z0 m0 refl) (move.loads refl))
      (let d = starts.disk in record { last = d.last; under = d.under; slots = d.slots; size = d.size }) tt

  pub reflects_fresh : Reflects (fresh kind c n i) m1
  unfolding blank
  reflects_fresh = record {
    view = refl;
    log_view = refl;
    checkpoint = refl;
    commit = refl;
    applied = refl;
    reach = sym (fresh_head kind c n i);
    parts = λ k. sym (ap told_of (fresh_nothing kind c n i k));
    loaded = λ e. ([], refl);
    waits = λ e. absurd (e refl);
  }

  pub keeps_fresh : KeepsStored (fresh kind c n i) (group.fresh_member kind c n i)
  unfolding blank
  keeps_fresh = (λ k h a e. let no_here : Nothing ≡ Here h = sym (fresh_nothing kind c n i k) ∙ e in absurd cc, refl)

  fields_fresh : ((fresh kind c n i).index ≡ i) × ((fresh kind c n i).n ≡ n)
  unfolding blank
  fields_fresh = (refl, refl)

  -- a member that was just made stands for its replica
  pub mid_fresh : (a : Group Header) × Mid u (beginning u) i (fresh kind c n i) (new_local kind c n i) a
  mid_fresh = (becomes s1 i z1, mid_runs u (beginning u) i (fresh kind c n i) (new_local kind c n i) s1 z1 m1 loads refl reflects_fresh (fresh_sound kind c n i size member) fields_fresh.0 (fields_fresh.1 ∙ sym n_is) keeps_fresh tt)

  acks_fresh : (k : ℕ) → ackers_at (fresh kind c n i) k ≡ no_replicas
  unfolding blank
  acks_fresh k =
      elim (cases_lt (k - 1) 64) [
        | inl within ↦ get_or-replicate 64 (k - 1) no_replicas no_replicas within
        | inr past ↦ get_or_past (replicate 64 no_replicas) (k - 1) no_replicas (omega (arith, length-replicate 64 no_replicas))
      ]

  statements_fresh : (fresh kind c n i).statements ≡ replicate n None
  unfolding blank
  statements_fresh = refl

  -- its tables say nothing
  pub tables_fresh : (s : Group Header) → s.made ≡ [] → Tables u s i (fresh kind c n i)
  tables_fresh s none = record {
    acks = λ l k j above has. absurd (no_flags j (sym (ap (λ (z : Replicas). has_replica z j) (acks_fresh k)) ∙ has));
    own = λ l k h above e. let no_here : Nothing ≡ Here h = sym (fresh_nothing kind c n i k) ∙ e in absurd cc;
    top = λ l k h above e. subst (In (made_at (fresh kind c n i).view k h)) none e;
    stated = λ j t e. absurd (none_stated n j t (sym (ap (λ (z : List (Option Statement)). get_or z j None) statements_fresh) ∙ e));
  }

  -- and so both premises of the law are met there
  pub premises_fresh : (a : Group Header) × Mid u a i (fresh kind c n i) (new_local kind c n i) a × Tables u a i (fresh kind c n i)
  unfolding mid_fresh
  premises_fresh =
      let y = mid_fresh in
      let x = y.1 in (
        y.0,
        record {
          under = record { reached = x.under.reached; sent = refl; chosen = λ c h. h; others = λ j d. refl; disk = x.under.disk; made = tt; none_made = refl };
          memory = x.memory;
          running = x.running;
          reflects = x.reflects;
          sound = x.sound;
          place = x.place;
          size = x.size;
          stored = x.stored;
          ready = tt;
        },
        tables_fresh y.0 refl,
      )
