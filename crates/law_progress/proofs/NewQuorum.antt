-- Two members of a new group of three that have entered view 1 are whole together, and the primary of view 1 begins.
use Rattle.std.proofs.Common.{arith, ℕ, zero, suc, ◌-◌, ◌<◌, ◌≤◌, ◌≡◌, ◌∙◌, inl, inr, refl, sym, ap, subst, Bool, true, false, cond, List, [], ◌∷◌, get_or, replicate, Some, None}
use Rattle.std.specs.Prelude.{All, Contains, nat_lt}
use Rattle.std.proofs.lemmas.Bool.{cases_eq, cases_lt, eq-eqb, ne_eqb}
use Rattle.std.proofs.lemmas.List.Elements.{All-cons, All-contains, All-map, All-nil}
use Rattle.vr_base.specs.Groups.{least_members}
use Rattle.vr_base.specs.declared.kind.Kind.{Kind}
use Rattle.vr_base.specs.declared.table.Quorums.{Quorums}
use Rattle.vr_choose.specs.Laws.{NamesAgree}
use Rattle.vr_header.specs.declared.header.Header.{Header}
use Rattle.vr_header.specs.declared.part.Part.{Part}
use Rattle.vr_header.specs.declared.part.Part.TheVariants.{Here, Nothing}
use Rattle.vr_msg.specs.Choice.{choice, log_headers, named_by, row_end, stated_header}
use Rattle.vr_header.specs.Parts.{has_header, header_of}
use Rattle.vr_msg.specs.declared.choice.Choice.TheVariants.{Ends}
use Rattle.vr_msg.specs.declared.statement.Statement.{Statement}
use Rattle.vr_rules.proofs.FitFresh.{fresh_fits}
use Rattle.vr_rules.proofs.Ruling.{kept_statement}
use Rattle.vr_rules.proofs.Stating.{own_statement}
use Rattle.vr_rules.proofs.Wording.{kept_entered}
use Rattle.vr_rules.specs.Opening.{IsKind, blank, fresh}
use Rattle.vr_rules.specs.Replica.{Replica, head, is_primary, is_started, knows, part_at, run, run_start, statement_of}
use Rattle.vr_rules.specs.Sound.{IsSound}
use Rattle.vr_rules.specs.Steps.{Setting}
use Rattle.vr_rules.specs.Words.{begin_view, chosen_log, entered, is_chain, stated, try}
use Rattle.law_progress.proofs.Deciding.{before_first, stated_at, stated_first}
use Rattle.law_progress.proofs.Trying.{whole_quorums_begin}
use Rattle.law_progress.specs.Deciding.{ANewQuorumBegins, AreHeard, candidate, stater, statements}
use Rattle.law_progress.specs.Whole.{Holder, IsMemberOf, IsSure, IsWhole, ReadsAbove, is_in_doubt}

-- ---- nothing is known

nothing_at : (n i : ℕ) → get_or (replicate n Nothing) i Nothing ≡ Nothing
nothing_at zero i = refl
nothing_at (suc n) zero = refl
nothing_at (suc n) (suc i) = nothing_at n i

abbrev KnowsNothing : Replica → Type 0
KnowsNothing r = r.parts ≡ replicate 64 Nothing

part_none : (r : Replica) → KnowsNothing r → (k : ℕ) → part_at r k ≡ Nothing
unfolding part_at
part_none r e k = elim (nat_lt k r.first) as (λ b. cond b Nothing (get_or r.parts (k - r.first) Nothing) ≡ Nothing) [
  | true ↦ refl
  | false ↦ ap (λ (ps : List Part). get_or ps (k - r.first) Nothing) e ∙ nothing_at 64 (k - r.first)
]

states_none : (r : Replica) → IsSound r → KnowsNothing r → (k : ℕ) → stated_header k (statement_of r) ≡ None
states_none r sound e k = elim (cases_lt (run_start r) k) [
  | inl after ↦ ap header_of (stated_at r k sound after ∙ part_none r e k)
  | inr before ↦ ap header_of (before_first (statement_of r) k (let first = stated_first r in omega (arith, first, before)))
]

sure : (k : ℕ) (r : Replica) → KnowsNothing r → IsSure k r
sure k r e = record { each = λ op l. ap is_in_doubt (part_none r e op) }

reads : {F : Type 0} (s : Setting F) (k : ℕ) (m : Holder F) → KnowsNothing m.replica → ReadsAbove s k m
reads s k m e = record { each = λ op h l is. let clash : Nothing ≡ Here h = sym (part_none m.replica e op) ∙ is in absurd cc }

-- ---- the two members

module _ (kind : Kind) (is : IsKind kind) where
  least : least_members kind.version ≤ 3
  least = elim (cases_eq kind.version 2) [
    | inl two ↦ subst (λ (b : Bool). cond b 1 2 ≤ 3) (sym (eq-eqb kind.version 2 two)) (omega arith)
    | inr other ↦ subst (λ (b : Bool). cond b 1 2 ≤ 3) (sym (ne_eqb kind.version 2 other)) (omega arith)
  ]

  sound_entered : (i : ℕ) → i < 3 → IsSound (entered 1 (fresh kind 0 3 i))
  unfolding blank
  sound_entered i low = (kept_entered 1 (fresh kind 0 3 i) (fresh_fits kind 0 3 i is (omega arith) least (omega arith) low).sound (omega arith)).sound

  abbrev a : Replica
  a = stater kind

  abbrev r : Replica
  r = candidate kind

  sound_candidate : IsSound r
  unfolding entered blank
  sound_candidate = (kept_statement 0 (statement_of a) (entered 1 (fresh kind 0 3 1)) (sound_entered 1 (omega arith)) (own_statement a (sound_entered 0 (omega arith)))).sound

  none_a : KnowsNothing a
  unfolding entered blank
  none_a = refl

  none_r : KnowsNothing r
  unfolding entered blank
  none_r = refl

  abbrev q : Quorums
  q = record { replication = 2; view_change = 2; nack = 2 }

  abbrev rs : List Replica
  rs = a ∷ r ∷ []

  both : (P : Replica → Type 0) → P a → P r → All P rs
  both P x y = All-cons P a (r ∷ []) x (All-cons P r [] y (All-nil P))

  agree : NamesAgree (statements rs)
  agree k s t x y in_s in_t u v e f =
      let None_at : Statement → Type 0 = λ z. stated_header k z ≡ None in
      let all : All None_at (statements rs) = All-map None_at statement_of rs (both (λ z. None_at (statement_of z)) (states_none a (sound_entered 0 (omega arith)) none_a k) (states_none r sound_candidate none_r k)) in
      let clash : None ≡ Some x = sym (All-contains None_at (statements rs) s all in_s) ∙ e in
      absurd cc

  heard : AreHeard kind.version 0 3 q rs
  unfolding entered blank
  heard = record {
    quorums = refl;
    enough = omega arith;
    members = both (IsMemberOf kind.version 0 3) (record { sound = sound_entered 0 (omega arith); of_version = refl; of_group = refl; of_size = refl })
        (record { sound = sound_candidate; of_version = refl; of_group = refl; of_size = refl });
  }

  chosen : choice q (stated r) ≡ Ends []
  unfolding choice row_end log_headers named_by stated statement_of head run part_at entered blank
  chosen = refl

  told : stated r ≡ statements rs
  unfolding stated entered blank
  told = refl

  module _ {F : Type 0} (s : Setting F) (f g : F) where
    abbrev one : Holder F
    one = record { replica = a; disk = f }

    abbrev other : Holder F
    other = record { replica = r; disk = g }

    abbrev members : List (Holder F)
    members = one ∷ other ∷ []

    whole : IsWhole s members
    unfolding entered blank
    whole = record {
      sure = both (IsSure 0) (sure 0 a none_a) (sure 0 r none_r);
      read = All-cons (ReadsAbove s 0) one (other ∷ []) (reads s 0 one none_a) (All-cons (ReadsAbove s 0) other [] (reads s 0 other none_r) (All-nil (ReadsAbove s 0)));
      furthest = other;
      there = (1, omega arith, refl);
      top = refl;
      held = record { loaded = refl; blocks = λ name there. let none = there.1 in absurd (omega (arith, none)) };
      known = record { known = λ l. absurd (omega (arith, l)) };
      room = inl (both (λ z. knows z 64 ≡ false) (ap has_header (part_none a none_a 64)) (ap has_header (part_none r none_r 64)));
    }

    begins : try s r g ≡ begin_view (stated r) (chosen_log r (stated r) []) s r g
    unfolding entered blank whole
    begins =
        let end : (headers : List Header) → choice q (stated r) ≡ Ends headers → [] ≡ headers = λ headers e. let same : Ends [] ≡ Ends headers = sym chosen ∙ e in cc in
        let x = whole_quorums_begin s g members kind.version 0 3 q rs whole heard agree (both (Contains rs) (0, omega arith, refl) (1, omega arith, refl)) (1, omega arith, refl) leads fresh_one told
        (λ headers e. subst (λ hs. is_chain s.hash hs ≡ true) (end headers e) (empty_chain s.hash)) in
        subst (λ hs. try s r g ≡ begin_view (stated r) (chosen_log r (stated r) hs) s r g) (sym (end x.0 x.1)) x.2
      where
        leads : is_primary r ≡ true
        leads = refl

        fresh_one : is_started r ≡ false
        fresh_one = refl

        empty_chain : (hash : List ℕ → List ℕ) → is_chain hash [] ≡ true
        empty_chain hash = refl

pub a_new_quorum_begins : {F : Type 0} → ANewQuorumBegins F
a_new_quorum_begins kind is s f g = (whole kind is s f g, begins kind is s f g)
