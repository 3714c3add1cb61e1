-- A replica that is a group by itself vouches for what it has stored, in the middle of its step and at its end.
use Rattle.std.proofs.Common.{ℕ, zero, suc, ◌+◌, ◌-◌, ◌≤◌, ◌<◌, ◌≡◌, ◌∙◌, ◌⊎◌, inl, inr, arith, refl, sym, ap, subst, true, false, cond, List, [], ◌∷◌, length, get_or}
use Rattle.std.specs.List.{range_with_len}
use Rattle.std.specs.Prelude.{nat_lt}
use Rattle.std.proofs.lemmas.Bool.{cases_lt, cases_eq, ltb-false}
use Rattle.std.proofs.lemmas.List.{get_or_past}
use Rattle.vr_header.specs.declared.header.Header.{Header}
use Rattle.vr_header.specs.declared.part.Part.{Part}
use Rattle.vr_header.specs.declared.part.Part.TheVariants.{Here, Lost, Wanted, Unknown, Nothing}
use Rattle.vr_rules.specs.Replica.{Replica, part_at}
use Rattle.law_1_machine.specs.Basics.{In}
use Rattle.law_1_machine.specs.Group.{Group, sends}
use Rattle.law_1_machine.specs.Machine as move
use Rattle.law_1_machine.proofs.Moves.{memory_of, reached_good}
use Rattle.law_1_machine.specs.Members.{Message, Prepare_ok}
use Rattle.law_2_chains.specs.Local.{Local}
use Rattle.law_2_chains.specs.Reflecting.{IsDisk, IsValue, entries_by}
use Rattle.law_2_chains.specs.Chains.{Setup, IsReached, Every, AsksNothing, WasMade, Mid}
use Rattle.law_2_chains.specs.Finished.{Finished}
use Rattle.law_2_chains.specs.Lone.{IsStored, Vouched}
use Rattle.law_2_chains.proofs.Readying.{free_ready}
use Rattle.law_2_chains.proofs.Vouching.{may_vouch}

-- the step goes on from another group, in which the members are the same
pub rooted : (u : Setup) (start : Group Header) (i : ℕ) (r : Replica) (l : Local) (s b : Group Header) → Mid u start i r l s → Every AsksNothing l.said → IsReached u b → b.members ≡ s.members → b.made ≡ s.made
    → Mid u b i r l b
rooted u start i r l s b x free reached members made = record {
  under = record {
    reached = reached;
    sent = refl;
    chosen = λ c h. h;
    others = λ j n. refl;
    disk = subst (λ f. IsDisk l.member (f i)) (sym members) x.under.disk;
    made = subst (λ z. Every (WasMade z) l.made) (sym made) x.under.made;
    none_made = refl;
  };
  memory = x.memory;
  running = ap (λ f. (f i).memory) members ∙ x.running;
  reflects = x.reflects;
  sound = x.sound;
  place = x.place;
  size = x.size;
  stored = x.stored;
  ready = free_ready u b.sent i x.memory (b.members i).slots l.said free;
}

-- a step that has ended is the begin of another one
pub ended : (u : Setup) (start : Group Header) (i : ℕ) (r : Replica) (l : Local) (s : Group Header) → Finished u start i r l s → Mid u s i r (record l { said = [] }) s
ended u start i r l s x = record {
  under = record { reached = x.reached; sent = refl; chosen = λ c h. h; others = λ j n. refl; disk = x.disk; made = x.made; none_made = refl };
  memory = x.memory;
  running = x.running;
  reflects = x.reflects;
  sound = x.sound;
  place = x.place;
  size = x.size;
  stored = x.stored;
  ready = tt;
}

-- where an entry may be stored
within_parts : (r : Replica) (k : ℕ) (h : Header) → part_at r k ≡ Here h → (r.first ≤ k) × (k < r.first + length r.parts)
unfolding part_at
within_parts r k h is =
    elim (nat_lt k r.first) as (λ b. nat_lt k r.first ≡ b → cond b Nothing (get_or r.parts (k - r.first) Nothing) ≡ Here h → (r.first ≤ k) × (k < r.first + length r.parts)) [
      | true ↦ λ b e. absurd cc
      | false ↦ λ b e.
          let up = ltb-false k r.first b in
          elim (cases_lt (k - r.first) (length r.parts)) [
            | inl low ↦ (up, omega arith)
            | inr past ↦ let none : Nothing ≡ Here h = sym (get_or_past r.parts (k - r.first) Nothing past) ∙ e in absurd cc
          ]
    ] refl is

pub in_range : (n low k : ℕ) → low ≤ k → k < low + n → In k (range_with_len low n)
in_range zero low k a b = absurd (omega arith)
in_range (suc n) low k a b = elim (cases_eq k low) [
  | inl same ↦ inl same
  | inr other ↦ inr (in_range n (low + 1) k (omega (arith, other)) (omega arith))
]

module _ (u : Setup) (i : ℕ) (r : Replica) (l : Local) (free : Every AsksNothing l.said) (begun : r.view ≡ r.log_view) where
  -- what it has vouched for of these ops
  record Told (xs : List ℕ) (s : Group Header) : Type 0 where
    after : Group Header
    mid : Mid u after i r l after
    kept : (m : Message Header) → In m s.sent → In m after.sent
    only : (m : Message Header) → In m after.sent → In m s.sent ⊎ IsStored i r m
    made : after.made ≡ s.made
    chosen : after.chosen ≡ s.chosen
    members : after.members ≡ s.members
    all : (k : ℕ) (h : Header) → In k xs → r.checkpoint < k → part_at r k ≡ Here h → In (Prepare_ok i r.view k h) after.sent

  none : (k : ℕ) (s : Group Header) → Mid u s i r l s → ((h : Header) → r.checkpoint < k → part_at r k ≡ Here h → ⊥) → Told (k ∷ []) s
  none k s x not = record {
    after = s;
    mid = x;
    kept = λ m h. h;
    only = λ m h. inl h;
    made = refl;
    chosen = refl;
    members = refl;
    all = λ j h within above e. elim within [ inl same ↦ absurd (not h (omega (arith, same, above)) (subst (λ n. part_at r n ≡ Here h) same e)) | inr empty ↦ absurd empty ];
  }

  some : (k : ℕ) (h : Header) (s : Group Header) → Mid u s i r l s → r.checkpoint < k → part_at r k ≡ Here h → Told (k ∷ []) s
  some k h s x up is =
      let v = may_vouch u s i r l s x k h begun is in
      let b : Group Header = sends s (Prepare_ok i x.memory.log_view k h) in
      let log : x.memory.log_view ≡ r.view = v.of_log in
      let reached : IsReached u b = move.and_then s b x.under.reached (move.accepts i x.memory k h x.running (record { at = v.in_view ∙ sym v.of_log; known = v.known; held = v.held })) in
      record {
        after = b;
        mid = rooted u s i r l s b x free reached refl refl;
        kept = λ m g. inr g;
        only = λ m g. elim g [
          | inl e ↦ inr (record { begun = begun; op = k; above = up; header = h; here = is; is = e ∙ ap (λ w. Prepare_ok i w k h) log })
          | inr old ↦ inl old
        ];
        made = refl;
        chosen = refl;
        members = refl;
        all = λ j g within above e. elim within [
          | inl same ↦
              let at : Here h ≡ Here g = sym is ∙ subst (λ n. part_at r n ≡ Here g) same e in
              let one : g ≡ h = cc in
              inl (rw (same, one, log) refl)
          | inr empty ↦ absurd empty
        ];
      }

  by_part : (k : ℕ) (p : Part) (s : Group Header) → Mid u s i r l s → part_at r k ≡ p → Told (k ∷ []) s
  by_part k (Here h) s x e = elim (cases_lt r.checkpoint k) [ inl above ↦ some k h s x above e | inr low ↦ none k s x (λ g above f. omega (arith, low, above)) ]
  by_part k (Lost h) s x e = none k s x (λ g above f. let z = sym e ∙ f in cc)
  by_part k (Wanted h) s x e = none k s x (λ g above f. let z = sym e ∙ f in cc)
  by_part k Unknown s x e = none k s x (λ g above f. let z = sym e ∙ f in cc)
  by_part k Nothing s x e = none k s x (λ g above f. let z = sym e ∙ f in cc)

  tell : (xs : List ℕ) (s : Group Header) → Mid u s i r l s → Told xs s
  tell [] s x = record { after = s; mid = x; kept = λ m h. h; only = λ m h. inl h; made = refl; chosen = refl; members = refl; all = λ k h j above e. absurd j }
  tell (k ∷ ks) s x =
      let one = by_part k (part_at r k) s x refl in
      let rest = tell ks one.after one.mid in
      record {
        after = rest.after;
        mid = rest.mid;
        kept = λ m h. rest.kept m (one.kept m h);
        only = λ m h. elim (rest.only m h) [ inl old ↦ one.only m old | inr new ↦ inr new ];
        made = rest.made ∙ one.made;
        chosen = rest.chosen ∙ one.chosen;
        members = rest.members ∙ one.members;
        all = λ j h within above e. elim within [
          | inl same ↦ rest.kept _ (one.all j h (inl same) above e)
          | inr later ↦ rest.all j h later above e
        ];
      }

  tells : (start s : Group Header) → Mid u start i r l s → (b : Group Header) × Mid u b i r l b × Vouched i r s b
  tells start s x =
      let y = tell (range_with_len r.first (length r.parts)) s (rooted u start i r l s s x free x.under.reached refl refl) in (
        y.after,
        y.mid,
        record {
          kept = y.kept;
          only = y.only;
          made = y.made;
          chosen = y.chosen;
          members = y.members;
          all = λ begun k h above e. let p = within_parts r k h e in y.all k h (in_range (length r.parts) r.first k p.0 p.1) above e;
        },
      )

-- In the middle of a step that has said nothing that asks something a replica vouches for what it has stored, where its view has begun.
pub vouches : (u : Setup) (start s : Group Header) (i : ℕ) (r : Replica) (l : Local) → Mid u start i r l s → Every AsksNothing l.said → (b : Group Header) × Mid u b i r l b × Vouched i r s b
vouches u start s i r l x free =
    elim (cases_eq r.view r.log_view) [
      | inl begun ↦ tells u i r l free begun start s x
      | inr apart ↦ (
        s,
        rooted u start i r l s s x free x.under.reached refl refl,
        record { kept = λ m h. h; only = λ m h. inl h; made = refl; chosen = refl; members = refl; all = λ begun. absurd (apart begun) },
      )
    ]

-- and so it does where a step has ended
pub vouches_at_end : (u : Setup) (start : Group Header) (i : ℕ) (r : Replica) (l : Local) (s : Group Header) → Finished u start i r l s → (b : Group Header) × IsReached u b × Vouched i r s b
vouches_at_end u start i r l s x =
    let y = vouches u s s i r (record l { said = [] }) (ended u start i r l s x) tt in
    (y.0, y.1.under.reached, y.2)

-- the value that a replica saved last is of its view and log view
pub saved_views : (u : Setup) (start s : Group Header) (i : ℕ) (r : Replica) (l : Local) → Mid u start i r l s → (r.saved.fields.view ≡ r.view) × (r.saved.fields.log_view ≡ r.log_view)
saved_views u start s i r l x =
    let q = u.quorums in
    let hs = entries_by u.hash u.cluster in
    let good = reached_good q hs s x.under.reached in
    let tied = (memory_of q hs good.0 s good.1 i x.memory x.running).0 in
    let value : IsValue r.saved (s.members i).last = subst (λ v. IsValue v (s.members i).last) x.stored.1 x.under.disk.last in
    (sym value.view ∙ (sym tied.view ∙ x.reflects.view), sym value.log_view ∙ (sym tied.log_view ∙ x.reflects.log_view))
