-- A schedule in which an entry is made: of what it hashes, the names are computed, and they differ.
use Rattle.vr_base.specs.Kinds.{strict}
use Rattle.std.proofs.Common.{ℕ, ◌≡◌, arith, inl, inr, refl, sym, ap, ◌∙◌, subst, List, [], ◌∷◌, get_or, Option, Some, None}
use Rattle.std.specs.Prelude.{Contains, slice_get, ⊤}
use Rattle.std.specs.List.{AllByRecursion}
use Rattle.sha2.specs.Sha256.{sha256, first_words, schedule, rounds, compress, hash_after, digest_bytes}
use Rattle.vr_base.specs.Bytes.{bytes16, bytes32, bytes64, name_of}
use Rattle.vr_disk.specs.DiskState.{IsFace}
use Rattle.vr_header.specs.Bodies.{operation_bytes}
use Rattle.vr_header.specs.Made.{Whole}
use Rattle.vr_header.specs.Names.{root_header}
use Rattle.vr_header.specs.NoCollision.{NoCollision}
use Rattle.vr_header.specs.Spelling.{named_bytes}
use Rattle.vr_header.specs.declared.operation.Operation.TheVariants.{Register}
use Rattle.vr_msg.specs.declared.event.Event.TheVariants as event
use Rattle.vr_state.specs.Sessions.{checked}
use Rattle.vr_rules.specs.Outputs.{send_to_all}
use Rattle.vr_rules.specs.Replica.{Replica, forgetting, head, part_at, with_part}
use Rattle.vr_rules.specs.Deciding.{first_of, is_in_flight}
use Rattle.vr_world.specs.Group.{fresh_group}
use Rattle.vr_rules.specs.Steps.{Effect, Say, Write, ◌⨾◌, after_all, by, change, does, naming, quiet, says, times}
use Rattle.vr_rules.specs.Rules as rules
use Rattle.vr_rules.specs.Words.{advance, advanced, apply, write}
use Rattle.vr_rules.specs.Opening.{blank, fresh}
use Rattle.vr_world.specs.Lying.{Lying, hazards, lying}
use Rattle.vr_world.specs.World.{Asks, World, fresh_host, fresh_world}
use Rattle.vr_world.specs.Safe as safe
use Rattle.vr_world.specs.Safe.{IsRead, IsWritten}
use Rattle.law_1_machine.specs.Basics.{In}
use Rattle.law_4_disks.specs.Worlds.{AreBeside, IsHashedCut, Work, begun_in, begun_of, read_in, read_of, stepping, work_of}
use Rattle.law_4_disks.proofs.Fresh.{fresh_beside, schedules_begin}
use Rattle.law_6_one_log.specs.Schedules.{IsHashed}
use Rattle.law_6_one_log.proofs.Blank.{reads_nothing}
use Rattle.law_2_chains.proofs.StoredLists.{contains_in}
use Rattle.law_6_one_log.specs.ScheduleLaws.{SomeEntryMay, registers}

-- the replica of a group of two that is asked
abbrev first : Replica
first = fresh strict 0 2 0

abbrev entry : Whole
entry = rules.next_entry name_of registers first

-- a primary that is asked writes the entry, and says so
abbrev IsOf : Effect → Type 0
IsOf (Write again e) = e ≡ entry
IsOf (Say o) = ⊤
IsOf _ = ⊥

asked_script : (d : Lying) → AllByRecursion IsOf (rules.react (event.Request registers) lying first d).script
unfolding rules.react rules.on_request rules.make rules.next_entry is_in_flight checked by first_of blank says send_to_all ◌⨾◌ change quiet does naming write forgetting with_part part_at head advance advanced apply times after_all
asked_script d = (refl, (tt, tt))

abbrev start : World Lying
start = fresh_world hazards strict 2

work_is : work_of start (Asks 0 registers) ≡ Some (stepping (event.Request registers) (fresh_host hazards strict 2 0) first)
unfolding fresh_world
work_is = refl

same_work : (a b : Work) → Some a ≡ Some b → a ≡ b
same_work a b e = cc

none_cut : (b : List ℕ) → IsHashedCut (stepping (event.Request registers) (fresh_host hazards strict 2 0) first) b → ⊥
none_cut b h = let bad : None ≡ Some h.0 = h.1 in absurd cc

asked_begun : AllByRecursion IsOf (begun_in start (Asks 0 registers))
asked_begun = subst (λ (o : Option Work). AllByRecursion IsOf (begun_of o)) (sym work_is) (asked_script (fresh_host hazards strict 2 0).disk)

-- ---- what is hashed: the root, the header of the entry, and its operation

data IsText : List ℕ → Type 0 where
  root : IsText (named_bytes (root_header 0))
  header : IsText (named_bytes entry.header)
  operation : IsText (operation_bytes Register)

operation_is : IsText (operation_bytes entry.operation)
unfolding rules.next_entry
operation_is = operation

written_text : (e : Effect) (b : List ℕ) → IsOf e → IsWritten e b → IsText b
written_text _ _ s (safe.IsWritten.header again e) = subst (λ (x : Whole). IsText (named_bytes x.header)) (sym s) header
written_text _ _ s (safe.IsWritten.operation again e) = subst (λ (x : Whole). IsText (operation_bytes x.operation)) (sym s) operation_is
written_text _ _ s (safe.IsWritten.block cluster texts op old c i) = absurd s
written_text _ _ s (safe.IsWritten.payload cluster texts op old c i) = absurd s
written_text _ _ s (safe.IsWritten.put name block c n) = absurd s
written_text _ _ s (safe.IsWritten.given name block c n) = absurd s

all_of : (es : List Effect) (e : Effect) → AllByRecursion IsOf es → In e es → IsOf e
all_of [] e a i = absurd i
all_of (x ∷ es) e a (inl same) = subst IsOf (sym same) a.0
all_of (x ∷ es) e a (inr i) = all_of es e a.1 i

abbrev disk : Lying
disk = (fresh_host hazards strict 2 0).disk

first_there : slice_get start.members 0 ≡ Some (fresh_host hazards strict 2 0)
unfolding fresh_world
first_there = refl

beside : AreBeside start (fresh_group (λ i. strict) 0 2)
beside = subst (λ (w : World Lying). AreBeside w (fresh_group (λ i. strict) 0 2)) (sym (schedules_begin strict 2)) (fresh_beside (λ i. strict) 0 2 (λ i l. ((omega arith, omega arith), omega arith)) (omega arith) (omega arith))

face_is : IsFace disk.face
face_is =
    let at : slice_get start.members 0 ≡ Some (fresh_host hazards strict 2 0) = first_there in
    (((beside.each 0 (fresh_host hazards strict 2 0) at).2).running first refl).0.calm.face

read_is : (d : Lying) → Contains (read_in start (Asks 0 registers)) d → d ≡ disk
read_is d c =
    let i = contains_in d (disk ∷ []) (subst (λ (o : Option Work). Contains (read_of o) d) work_is c) in
    elim i [ inl same ↦ same | inr none ↦ absurd none ]

hashed_text : (b : List ℕ) → IsHashed start (Asks 0 registers ∷ []) b → IsText b
hashed_text b (inl (inl h)) = absurd (none_cut b (subst (λ (k : Work). IsHashedCut k b) (sym (same_work (stepping (event.Request registers) (fresh_host hazards strict 2 0) first) h.0 (sym work_is ∙ h.1))) h.2))
hashed_text b (inl (inr (inl u))) = absurd (reads_nothing strict 2 0 face_is b (subst (λ (d : Lying). IsRead d b) (read_is u.0 u.1) u.2))
hashed_text b (inl (inr (inr u))) = written_text u.0 b (all_of (begun_in start (Asks 0 registers)) u.0 asked_begun (contains_in u.0 (begun_in start (Asks 0 registers)) u.1)) u.2
hashed_text b (inr e) = subst IsText (sym e) root

-- ---- their names, computed

abbrev root_name : List ℕ
root_name = 138 ∷ 203 ∷ 80 ∷ 252 ∷ 35 ∷ 108 ∷ 108 ∷ 53 ∷ 55 ∷ 121 ∷ 24 ∷ 140 ∷ 151 ∷ 4 ∷ 171 ∷ 135 ∷ []

abbrev entry_name : List ℕ
entry_name = 130 ∷ 184 ∷ 109 ∷ 16 ∷ 92 ∷ 121 ∷ 25 ∷ 162 ∷ 189 ∷ 111 ∷ 165 ∷ 176 ∷ 18 ∷ 76 ∷ 208 ∷ 40 ∷ []

abbrev operation_name : List ℕ
operation_name = 75 ∷ 245 ∷ 18 ∷ 47 ∷ 52 ∷ 69 ∷ 84 ∷ 197 ∷ 59 ∷ 222 ∷ 46 ∷ 187 ∷ 140 ∷ 210 ∷ 183 ∷ 227 ∷ []

root_named : name_of (named_bytes (root_header 0)) ≡ root_name
unfolding operation_bytes named_bytes bytes16 bytes32 bytes64 name_of sha256 first_words schedule rounds compress hash_after digest_bytes
root_named = refl

header_named : name_of (named_bytes entry.header) ≡ entry_name
unfolding operation_bytes named_bytes bytes16 bytes32 bytes64 name_of sha256 first_words schedule rounds compress hash_after digest_bytes rules.next_entry head blank part_at
header_named = refl

operation_named : name_of (operation_bytes Register) ≡ operation_name
unfolding operation_bytes named_bytes bytes16 bytes32 bytes64 name_of sha256 first_words schedule rounds compress hash_after digest_bytes
operation_named = refl

never : NoCollision (IsHashed start (Asks 0 registers ∷ []))
never a b p q same = texts a b (hashed_text a p) (hashed_text b q) same where
  texts : (a b : List ℕ) → IsText a → IsText b → name_of a ≡ name_of b → a ≡ b
  texts _ _ root root same = refl
  texts _ _ header header same = refl
  texts _ _ operation operation same = refl
  texts _ _ root header same = let bad : 138 ≡ 130 = ap (λ (b : List ℕ). get_or b 0 0) (sym root_named ∙ (same ∙ header_named)) in absurd (omega (arith, bad))
  texts _ _ root operation same = let bad : 138 ≡ 75 = ap (λ (b : List ℕ). get_or b 0 0) (sym root_named ∙ (same ∙ operation_named)) in absurd (omega (arith, bad))
  texts _ _ header root same = let bad : 130 ≡ 138 = ap (λ (b : List ℕ). get_or b 0 0) (sym header_named ∙ (same ∙ root_named)) in absurd (omega (arith, bad))
  texts _ _ header operation same = let bad : 130 ≡ 75 = ap (λ (b : List ℕ). get_or b 0 0) (sym header_named ∙ (same ∙ operation_named)) in absurd (omega (arith, bad))
  texts _ _ operation root same = let bad : 75 ≡ 138 = ap (λ (b : List ℕ). get_or b 0 0) (sym operation_named ∙ (same ∙ root_named)) in absurd (omega (arith, bad))
  texts _ _ operation header same = let bad : 75 ≡ 130 = ap (λ (b : List ℕ). get_or b 0 0) (sym operation_named ∙ (same ∙ header_named)) in absurd (omega (arith, bad))

pub some_entry_may : SomeEntryMay
some_entry_may = record {
  lines = ((record { form = record { first = (λ e. refl, λ e. refl); fits = tt }; client = omega arith; request = omega arith; version = (omega arith, omega arith) }, omega arith), tt);
  names = never;
}
