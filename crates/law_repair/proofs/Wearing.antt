-- What a visit leaves of the blocks, and of the superblock's value.
use Rattle.std.proofs.Common.{arith, ℕ, zero, suc, ◌-◌, ◌≡◌, ◌≢◌, ◌<◌, ◌≤◌, ◌∙◌, ◌⊎◌, inl, inr, refl, sym, ap, subst, Bool, true, false, cond, not, List, [], ◌∷◌, ◌++◌, append-nil, Option, Some, None}
use Rattle.std.specs.Prelude.{All, Contains, nat_lt, slice_get, ◌==◌, ◌&&◌, ◌||◌}
use Rattle.std.specs.List.{list_any}
use Rattle.std.proofs.lemmas.Bool.{eq-eqb, eqb-true, ltb-false, ltb-true, lt-ltb, true≢false}
use Rattle.std.proofs.lemmas.List.Elements.{All-nil, All-cons, Contains-append_left, Contains-push, Contains-push_cases}
use Rattle.vr_ckpt.specs.Places.{grid_size}
use Rattle.vr_ckpt.specs.declared.name.Name.{Name}
use Rattle.vr_header.specs.declared.header.Header.{Header}
use Rattle.vr_header.specs.declared.part.Part.{Part}
use Rattle.vr_header.specs.declared.part.Part.TheVariants.{Here, Lost, Wanted, Unknown, Nothing}
use Rattle.vr_header.specs.Made.{Whole}
use Rattle.vr_header.specs.Same.{same_header}
use Rattle.vr_rules.specs.Replica.{Replica, part_at, with_part}
use Rattle.vr_rules.specs.Steps.{Effect, Rewrite, Mend, Setting, Step, Word, ◌⨾◌, by, change, does, quiet, reading}
use Rattle.vr_rules.specs.Words as words
use Rattle.law_repair.proofs.Standing.{Chain, SparesGrid, step_of}

-- where one of a list passes
any_in : {X : Type 0} (p : X → Bool) (xs : List X) → list_any p xs ≡ true → (x : X) × Contains xs x × (p x ≡ true)
any_in p [] e = absurd cc
any_in p (y ∷ ys) e =
    elim (p y) as (λ b. p y ≡ b → b || list_any p ys ≡ true → (x : _) × Contains (y ∷ ys) x × (p x ≡ true)) [
      | true ↦ λ t i. (y, (zero, omega arith, refl), t)
      | false ↦ λ t i.
          let rest = any_in p ys i in
          let lt = rest.1.1 in
          (rest.0, (suc rest.1.0, omega (arith, lt), rest.1.2), rest.2)
    ] refl e

-- the block of a name reads, or one at its address is known to have gone bad
pub data Known {F : Type 0} (s : Setting F) (f : F) (q : Replica) (name : Name) : Type 0 where
  reads : (block : List ℕ) → s.block f name ≡ Some block → Known s f q name
  worn : (bad : Name) → Contains q.worn bad → bad.address ≡ name.address → Known s f q name

-- what the look at a place leaves
pub record Looked {F : Type 0} (s : Setting F) (f : F) (at : ℕ) (r : Replica) (x : Step) : Type 0 where
  pub saved : x.replica.saved ≡ r.saved
  pub spares : All SparesGrid x.script
  pub chain : Chain r.saved x.script r.saved
  pub mended : at ≡ 64 → x.script ≡ Mend r.saved ∷ []
  pub kept : (name : Name) → Contains r.worn name → Contains x.replica.worn name
  pub among : (name : Name) → Contains x.replica.worn name → Contains r.worn name ⊎ (slice_get (words.blocks_of r) (at - 65) ≡ Some name)
  pub found : (name : Name) → 65 ≤ at → slice_get (words.blocks_of r) (at - 65) ≡ Some name → name.address < grid_size → Known s f x.replica name

-- nothing changes of the blocks that have gone bad
still : {F : Type 0} (s : Setting F) (f : F) (at : ℕ) (r q : Replica) (es : List Effect) → at < 65 → q.saved ≡ r.saved → q.worn ≡ r.worn → All SparesGrid es → Chain r.saved es r.saved
    → (at ≡ 64 → es ≡ Mend r.saved ∷ []) → Looked s f at r (step_of q es)
still s f at r q es low saved same spares chain mended = record {
  saved = saved;
  spares = spares;
  chain = chain;
  mended = mended;
  kept = λ name c. subst (λ ws. Contains ws name) (sym same) c;
  among = λ name c. inl (subst (λ ws. Contains ws name) same c);
  found = λ name high e l. absurd (omega (arith, low, high));
}

module _ {F : Type 0} (s : Setting F) where
  -- ---- a slot

  slot_still : (f : F) (at : ℕ) (r q : Replica) (es : List Effect) → at < 64 → q.saved ≡ r.saved → q.worn ≡ r.worn → All SparesGrid es → Chain r.saved es r.saved → Looked s f at r (step_of q es)
  slot_still f at r q es low saved same spares chain = still s f at r q es (omega (arith, low)) saved same spares chain (λ e. absurd (omega (arith, e, low)))

  rewritten : (f : F) (at : ℕ) (h : Header) (r : Replica) → at < 64 → Looked s f at r (step_of r (Rewrite h ∷ []))
  rewritten f at h r low = slot_still f at r r (Rewrite h ∷ []) low refl refl (All-cons SparesGrid (Rewrite h) [] tt (All-nil SparesGrid)) refl

  untouched : (f : F) (at : ℕ) (r : Replica) → at < 64 → Looked s f at r (step_of r [])
  untouched f at r low = slot_still f at r r [] low refl refl (All-nil SparesGrid) refl

  header_looked : (at : ℕ) (h : Header) (d : Option Header) (r : Replica) (f g : F) → at < 64 → Looked s g at r (words.mend_header h d s r f)
  unfolding does quiet
  header_looked at h None r f g low = rewritten g at h r low
  header_looked at h (Some d) r f g low = elim (not (same_header d h)) as (λ b. Looked s g at r (cond b (does (λ r. Rewrite h)) quiet s r f)) [ true ↦ rewritten g at h r low | false ↦ untouched g at r low ]

  abbrev slot_word : ℕ → Whole → Word F
  slot_word op e = reading (words.header_read op) (words.mend_header e.header)

  entry_looked : (at op : ℕ) (h : Header) (o : Option Whole) (r : Replica) (f : F) → at < 64 → Looked s f at r (words.or_lost h (slot_word op) o s r f)
  unfolding change reading with_part
  entry_looked at op h None r f low = slot_still f at r (words.lost h r) [] low refl refl (All-nil SparesGrid) refl
  entry_looked at op h (Some e) r f low = header_looked at e.header (words.header_read op s f) r f f low

  slot_looked : (at op : ℕ) (p : Part) (r : Replica) (f : F) → at < 64 → Looked s f at r (words.with_entry (slot_word op) p s r f)
  unfolding reading quiet
  slot_looked at op (Here h) r f low = entry_looked at op h (words.entry_of h s f) r f low
  slot_looked at op (Lost h) r f low = untouched f at r low
  slot_looked at op (Wanted h) r f low = untouched f at r low
  slot_looked at op Unknown r f low = untouched f at r low
  slot_looked at op Nothing r f low = untouched f at r low

  -- ---- a block

  abbrev is_at : Name → Name → Bool
  is_at name m = m.address == name.address

  abbrev worn_after : Bool → Name → Replica → List Name
  worn_after b name r = cond b (r.worn ++ name ∷ []) r.worn

  worn_kept : (b : Bool) (name : Name) (r : Replica) (m : Name) → Contains r.worn m → Contains (worn_after b name r) m
  worn_kept true name r m c = Contains-append_left r.worn (name ∷ []) m c
  worn_kept false name r m c = c

  worn_among : (b : Bool) (name : Name) (r : Replica) (m : Name) → Contains (worn_after b name r) m → Contains r.worn m ⊎ (name ≡ m)
  worn_among true name r m c = Contains-push_cases r.worn name m c
  worn_among false name r m c = inl c

  -- a block that doesn't read
  bad_found : (f : F) (name : Name) (r : Replica) → name.address < grid_size → Known s f (words.with_worn name r) name
  bad_found f name r low =
      let in_grid : nat_lt name.address grid_size ≡ true = lt-ltb name.address grid_size low in
      elim (list_any (is_at name) r.worn) as (λ b. list_any (is_at name) r.worn ≡ b → Known s f (words.with_worn name r) name) [
        | true ↦ λ t.
            let bad = any_in (is_at name) r.worn t in
            worn bad.0 (worn_kept (nat_lt name.address grid_size && not (list_any (is_at name) r.worn)) name r bad.0 bad.1) (eqb-true bad.0.address name.address bad.2)
        | false ↦ λ t.
            let added : nat_lt name.address grid_size && not (list_any (is_at name) r.worn) ≡ true = rw (in_grid, t) refl in
            worn name (subst (λ b. Contains (worn_after b name r) name) (sym added) (Contains-push r.worn name)) refl
      ] refl

  name_looked : (at : ℕ) (name : Name) (r : Replica) (f : F) → 65 ≤ at → slice_get (words.blocks_of r) (at - 65) ≡ Some name → Looked s f at r (words.visit_block (Some name) s r f)
  unfolding words.visit_block reading change quiet
  name_looked at name r f high e =
      let one : (m : Name) → slice_get (words.blocks_of r) (at - 65) ≡ Some m → name ≡ m = λ m i. let two : Some name ≡ Some m = sym e ∙ i in cc in
      elim (s.block f name) as (λ o. s.block f name ≡ o → Looked s f at r (words.visit_read name o s r f)) [
        | None ↦ λ t.
            let b : Bool = nat_lt name.address grid_size && not (list_any (is_at name) r.worn) in
            record {
              saved = refl;
              spares = All-nil SparesGrid;
              chain = refl;
              mended = λ i. absurd (omega (arith, i, high));
              kept = λ m c. worn_kept b name r m c;
              among = λ m c. elim (worn_among b name r m c) [ inl old ↦ inl old | inr new ↦ inr (e ∙ ap Some new) ];
              found = λ m l i low. subst (Known s f (words.with_worn name r)) (one m i) (bad_found f name r (subst (λ (k : Name). k.address < grid_size) (sym (one m i)) low));
            }
        | Some block ↦ λ t. record {
          saved = refl;
          spares = All-nil SparesGrid;
          chain = refl;
          mended = λ i. absurd (omega (arith, i, high));
          kept = λ m c. c;
          among = λ m c. inl c;
          found = λ m l i low. reads block (subst (λ (k : Name). s.block f k ≡ Some block) (one m i) t);
        }
      ] refl

  block_looked : (at : ℕ) (o : Option Name) (r : Replica) (f : F) → 65 ≤ at → slice_get (words.blocks_of r) (at - 65) ≡ o → Looked s f at r (words.visit_block o s r f)
  unfolding words.visit_block quiet
  block_looked at None r f high e = record {
    saved = refl;
    spares = All-nil SparesGrid;
    chain = refl;
    mended = λ i. absurd (omega (arith, i, high));
    kept = λ m c. c;
    among = λ m c. inl c;
    found = λ m l i low. absurd (let two : None ≡ Some m = sym e ∙ i in cc);
  }
  block_looked at (Some name) r f high e = name_looked at name r f high e

  -- ---- a place

  pub place_looked : (at : ℕ) (r : Replica) (f : F) → Looked s f at r (words.visit_place at s r f)
  unfolding words.visit_place words.visit_slot words.with_entry_at by does
  place_looked at r f =
      let op : ℕ = words.op_of_slot r at in
      let name : Option Name = slice_get (words.blocks_of r) (at - 65) in
      elim (nat_lt at 64) as (λ b. nat_lt at 64 ≡ b → Looked s f at r (cond b (words.visit_slot op) (cond (at == 64) (does (λ r. Mend r.saved)) (words.visit_block name)) s r f)) [
        | true ↦ λ t. slot_looked at op (part_at r op) r f (ltb-true at 64 t)
        | false ↦ λ t. elim (at == 64) as (λ b. at == 64 ≡ b → Looked s f at r (cond b (does (λ r. Mend r.saved)) (words.visit_block name) s r f)) [
          | true ↦ λ e.
              let is : at ≡ 64 = eqb-true at 64 e in
              still s f at r r (Mend r.saved ∷ []) (omega (arith, is)) refl refl (All-cons SparesGrid (Mend r.saved) [] tt (All-nil SparesGrid)) (refl, refl) (λ i. refl)
          | false ↦ λ e.
              let from = ltb-false at 64 t in
              let other : at ≢ 64 = λ i. true≢false (sym (eq-eqb at 64 i) ∙ e) in
              block_looked at name r f (omega (arith, from, other)) refl
        ] refl
      ] refl

  -- ---- a visit

  pub visit_looked : (r : Replica) (f : F) → words.is_loaded r ≡ true → Looked s f (words.place_now r) r (words.visit s r f)
  unfolding words.visit ◌⨾◌ by change
  visit_looked r f loaded =
      let at : ℕ = words.place_now r in
      let a = words.visit_place at s r f in
      let looked = place_looked at r f in
      let q : Replica = words.with_cursor at a.replica in
      let none = append-nil a.script in
      let done : Looked s f at r (step_of q (a.script ++ [])) = record {
        saved = looked.saved;
        spares = subst (All SparesGrid) (sym none) looked.spares;
        chain = subst (λ es. Chain r.saved es r.saved) (sym none) looked.chain;
        mended = λ e. none ∙ looked.mended e;
        kept = looked.kept;
        among = looked.among;
        found = λ name l e low. elim (looked.found name l e low) [ reads block i ↦ reads block i | worn bad c same ↦ worn bad c same ];
      } in
      elim (words.is_loaded r) as (λ b. b ≡ true → Looked s f at r (cond b (words.visit_place at ⨾ change (words.with_cursor at)) quiet s r f)) [ true ↦ λ t. done | false ↦ λ t. absurd cc ] loaded
