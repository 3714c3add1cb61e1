-- A schedule of which all holds that is asked.
use Rattle.vr_base.proofs.Members.{least_of}
use Rattle.vr_base.specs.declared.kind.Kind.{Kind}
use Rattle.std.proofs.Common.{ℕ, ◌≡◌, ◌⊎◌, arith, inl, inr, refl, sym, ◌∙◌, subst, List, [], ◌∷◌, Option, Some, None}
use Rattle.std.specs.Prelude.{Contains, slice_get, ⊤}
use Rattle.std.specs.List.{AllByRecursion}
use Rattle.vr_disk.specs.DiskState.{IsFace}
use Rattle.vr_header.specs.Names.{root_header}
use Rattle.vr_header.specs.Spelling.{named_bytes}
use Rattle.vr_msg.specs.declared.event.Event.TheVariants as event
use Rattle.vr_rules.specs.Outputs.{send_to_all}
use Rattle.vr_rules.specs.Replica.{Replica, head, part_at}
use Rattle.vr_rules.specs.Deciding.{first_of}
use Rattle.vr_rules.specs.Steps.{Effect, Say, ◌⨾◌, after_all, by, change, quiet, says}
use Rattle.vr_rules.specs.Rules as rules
use Rattle.vr_rules.specs.Words.{ask, prepare_again, visit, visit_place, visit_slot, with_entry_at}
use Rattle.vr_rules.specs.Opening.{IsKind, blank, fresh}
use Rattle.vr_world.specs.Lying.{Lying, hazards, lying}
use Rattle.vr_world.specs.World.{Fuses, Stops, Ticks, World, fresh_host, fresh_world}
use Rattle.vr_world.specs.Group.{fresh_group}
use Rattle.vr_world.specs.Safe as safe
use Rattle.vr_world.specs.Safe.{IsRead, IsWritten}
use Rattle.law_1_machine.specs.Basics.{In}
use Rattle.law_4_disks.specs.Worlds.{AreBeside, IsHashedAt, IsHashedCut, Work, begun_in, begun_of, read_in, read_of, stepping, work_of}
use Rattle.law_4_disks.proofs.Fresh.{fresh_beside, schedules_begin}
use Rattle.law_6_one_log.specs.ScheduleLaws.{SomeScheduleMay}
use Rattle.law_6_one_log.specs.Schedules.{IsHashed, IsUsedAt, MayAll}
use Rattle.law_6_one_log.proofs.Blank.{reads_nothing}
use Rattle.law_2_chains.proofs.StoredLists.{contains_in}
use Rattle.law_6_one_log.proofs.Names.{contains_none}

module _ (kind : Kind) (is : IsKind kind) where
  abbrev start : World Lying
  start = fresh_world hazards kind 2

  abbrev first : Replica
  first = fresh kind 0 2 0

  work_is : work_of start (Ticks 0) ≡ Some (stepping event.Tick (fresh_host hazards kind 2 0) first)
  unfolding fresh_world
  work_is = refl

  same_work : (a b : Work) → Some a ≡ Some b → a ≡ b
  same_work a b e = cc

  work_same : (k : Work) → work_of start (Ticks 0) ≡ Some k → stepping event.Tick (fresh_host hazards kind 2 0) first ≡ k
  work_same k e = same_work (stepping event.Tick (fresh_host hazards kind 2 0) first) k (sym work_is ∙ e)

  -- no fuse is laid yet
  none_cut : (b : List ℕ) → IsHashedCut (stepping event.Tick (fresh_host hazards kind 2 0) first) b → ⊥
  none_cut b h = let bad : None ≡ Some h.0 = h.1 in absurd cc

  -- ---- as time goes by a primary says something, and does nothing else

  abbrev IsSay : Effect → Type 0
  IsSay (Say o) = ⊤
  IsSay _ = ⊥

  -- the place that it visits has no entry
  tick_says : (d : Lying) → AllByRecursion IsSay (rules.react event.Tick lying first d).script
  unfolding rules.react rules.on_tick by first_of blank says send_to_all ◌⨾◌ change quiet prepare_again visit visit_place visit_slot with_entry_at part_at head ask after_all
  tick_says d = (tt, tt)

  tick_begun : AllByRecursion IsSay (begun_in start (Ticks 0))
  tick_begun = subst (λ (o : Option Work). AllByRecursion IsSay (begun_of o)) (sym work_is) (tick_says (fresh_host hazards kind 2 0).disk)

  -- what is said hashes nothing
  says_nothing : (e : Effect) (bytes : List ℕ) → IsSay e → IsWritten e bytes → ⊥
  says_nothing _ _ s (safe.IsWritten.header again e) = s
  says_nothing _ _ s (safe.IsWritten.operation again e) = s
  says_nothing _ _ s (safe.IsWritten.block cluster texts op old c i) = s
  says_nothing _ _ s (safe.IsWritten.payload cluster texts op old c i) = s
  says_nothing _ _ s (safe.IsWritten.put name block c n) = s
  says_nothing _ _ s (safe.IsWritten.given name block c n) = s

  all_of : (es : List Effect) (e : Effect) → AllByRecursion IsSay es → In e es → IsSay e
  all_of [] e a i = absurd i
  all_of (x ∷ es) e a (inl same) = subst IsSay (sym same) a.0
  all_of (x ∷ es) e a (inr i) = all_of es e a.1 i

  -- ---- so only the root is hashed: the disk that the step reads is blank

  abbrev disk : Lying
  disk = (fresh_host hazards kind 2 0).disk

  first_there : slice_get start.members 0 ≡ Some (fresh_host hazards kind 2 0)
  unfolding fresh_world
  first_there = refl

  beside : AreBeside start (fresh_group (λ i. kind) 0 2)
  beside = subst (λ (w : World Lying). AreBeside w (fresh_group (λ i. kind) 0 2)) (sym (schedules_begin kind 2)) (fresh_beside (λ i. kind) 0 2 (λ i l. (is, (least_of kind.version).1)) (omega arith) (omega arith))

  face_is : IsFace disk.face
  face_is =
      let at : slice_get start.members 0 ≡ Some (fresh_host hazards kind 2 0) = first_there in
      (((beside.each 0 (fresh_host hazards kind 2 0) at).2).running first refl).0.calm.face

  read_is : (d : Lying) → Contains (read_in start (Ticks 0)) d → d ≡ disk
  read_is d c =
      let i = contains_in d (disk ∷ []) (subst (λ (o : Option Work). Contains (read_of o) d) work_is c) in
      elim i [ inl same ↦ same | inr none ↦ absurd none ]

  tick_hashes : (b : List ℕ) → IsHashedAt start (Ticks 0) b ⊎ IsUsedAt start (Ticks 0) b → ⊥
  tick_hashes b (inl h) = none_cut b (subst (λ (k : Work). IsHashedCut k b) (sym (work_same h.0 h.1)) h.2)
  tick_hashes b (inr (inl u)) = reads_nothing kind 2 0 face_is b (subst (λ (d : Lying). IsRead d b) (read_is u.0 u.1) u.2)
  tick_hashes b (inr (inr u)) = says_nothing u.0 b (all_of (begun_in start (Ticks 0)) u.0 tick_begun (contains_in u.0 (begun_in start (Ticks 0)) u.1)) u.2

  only_root : (b : List ℕ) → IsHashed start (Ticks 0 ∷ Stops 1 ∷ Fuses 0 5 7 ∷ []) b → b ≡ named_bytes (root_header 0)
  only_root b (inl h) = absurd (tick_hashes b h)
  only_root b (inr (inl (inl h))) = let bad : None ≡ Some h.0 = h.1 in absurd cc
  only_root b (inr (inl (inr (inl u)))) = absurd (contains_none u.0 u.1)
  only_root b (inr (inl (inr (inr u)))) = absurd (contains_none u.0 u.1)
  only_root b (inr (inr (inl (inl h)))) = let bad : None ≡ Some h.0 = h.1 in absurd cc
  only_root b (inr (inr (inl (inr (inl u))))) = absurd (contains_none u.0 u.1)
  only_root b (inr (inr (inl (inr (inr u))))) = absurd (contains_none u.0 u.1)
  only_root b (inr (inr (inr root))) = root

  schedule_may : MayAll start (Ticks 0 ∷ Stops 1 ∷ Fuses 0 5 7 ∷ [])
  schedule_may = record {
    lines = (tt, (tt, (tt, tt)));
    names = λ a b p q same. only_root a p ∙ sym (only_root b q);
  }

pub some_schedule_may : SomeScheduleMay
some_schedule_may = schedule_may
