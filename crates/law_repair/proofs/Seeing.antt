-- A visit of a slot sees whether its entry reads.
use Rattle.std.proofs.Common.{arith, ℕ, ◌+◌, ◌-◌, ◌*◌, ◌%◌, ◌≡◌, ◌<◌, ◌≤◌, ◌∙◌, inl, inr, refl, sym, ap, subst, Bool, true, false, cond, not, List, [], ◌++◌, append-nil, length, Option, Some, None}
use Rattle.std.specs.Prelude.{nat_lt, slice_get, ◌==◌, ◌&&◌}
use Rattle.std.proofs.lemmas.Bool.{and_parts, cases_lt, eq-eqb, eqb-true, ltb-false, ltb-true, true≢false}
use Rattle.std.proofs.lemmas.Nat.{mod-mul-add, mod_below}
use Rattle.std.proofs.Math.Nat.{mod-eq_of_lt}
use Rattle.vr_header.specs.declared.header.Header.{Header}
use Rattle.vr_header.specs.declared.part.Part.{Part}
use Rattle.vr_header.specs.declared.part.Part.TheVariants.{Here, Lost, Wanted, Unknown, Nothing}
use Rattle.vr_header.specs.Made.{Whole}
use Rattle.vr_header.specs.Same.{same_header}
use Rattle.vr_ckpt.specs.declared.name.Name.{Name}
use Rattle.vr_rules.specs.Replica.{Replica, is_here, part_at, with_part}
use Rattle.vr_rules.specs.Sound.{IsSound}
use Rattle.vr_rules.specs.Steps.{Effect, Mend, Rewrite, Setting, Word, ◌⨾◌, after_all, by, change, does, quiet, reading}
use Rattle.vr_rules.specs.Words as words
use Rattle.vr_rules.proofs.Heads.{known_within}
use Rattle.vr_rules.proofs.Keeping.{spans_of}
use Rattle.vr_header.specs.Parts.{has_header, header_of}
use Rattle.law_repair.specs.Visits.{visited}
use Rattle.law_repair.proofs.Looking.{Kept, Sturdy, all_spared, slot_op}
use Rattle.law_repair.proofs.Settling.{gone_here}
use Rattle.law_repair.proofs.Shedding.{Sheds, sheds_by, sheds_does, sheds_entry, sheds_if, sheds_quiet, sheds_reading, sheds_same, sheds_when}

-- ---- Parts and the cursor

is_gone : (p : Part) (h : Header) → is_here p ≡ false → p ≡ Here h → ⊥
is_gone p h n e = let t : true ≡ false = sym (ap is_here e) ∙ n in true≢false t

one_part : (p : Part) (x h : Header) → p ≡ Here x → p ≡ Here h → x ≡ h
one_part p x h a b = let t : Here x ≡ Here h = sym a ∙ b in cc

places_least : (r : Replica) → 65 ≤ words.places r
places_least r = omega arith

place_within : (r : Replica) → words.place_now r < words.places r
place_within r =
    let least = places_least r in
    let go : (b : Bool) → nat_lt r.cursor (words.places r) ≡ b → cond b r.cursor 0 < words.places r = elim [
      | true ↦ λ e. ltb-true r.cursor (words.places r) e
      | false ↦ λ e. omega (arith, least)
    ] in
    go (nat_lt r.cursor (words.places r)) refl

-- a cursor that stands after a slot has come from it
came_from : (at n slot : ℕ) → at < n → (at + 1) % n ≡ slot + 1 → at ≡ slot
came_from at n slot l e =
    elim (cases_lt (at + 1) n) [
      | inl below ↦ let same : (at + 1) % n ≡ at + 1 = mod-eq_of_lt below in omega (arith, e, same)
      | inr last ↦
          let whole : at + 1 ≡ 1 * n + 0 = omega (arith, l, last) in
          let zero_is : (at + 1) % n ≡ 0 = ap (λ x. x % n) whole ∙ mod-mul-add 1 n 0 (omega (arith, l)) in
          absurd (omega (arith, e, zero_is))
    ]

module _ {F : Type 0} where
  sheds_mend_header : (h : Header) (o : Option Header) → Sheds {F = F} (words.mend_header h o)
  sheds_mend_header h None = sheds_does (λ r. Rewrite h) (λ r. tt)
  sheds_mend_header h (Some d) = sheds_when (not (same_header d h)) _ (sheds_does (λ r. Rewrite h) (λ r. tt))

  sheds_slot : (op : ℕ) → Sheds {F = F} (words.visit_slot op)
  unfolding words.visit_slot
  sheds_slot op = sheds_entry op _ (λ e. sheds_reading _ _ (sheds_mend_header e.header))

  sheds_block_read : (name : Name) (o : Option (List ℕ)) → Sheds {F = F} (words.visit_read name o)
  unfolding part_at
  sheds_block_read name None = sheds_same (words.with_worn name) (λ r k. refl) (λ r. refl)
  sheds_block_read name (Some block) = sheds_quiet

  sheds_block : (o : Option Name) → Sheds {F = F} (words.visit_block o)
  unfolding words.visit_block
  sheds_block None = sheds_quiet
  sheds_block (Some name) = sheds_reading _ _ (sheds_block_read name)

  sheds_place : (at : ℕ) → Sheds {F = F} (words.visit_place at)
  unfolding words.visit_place
  sheds_place at =
      sheds_by _ (λ r.
      let name : Option Name = slice_get (words.blocks_of r) (at - 65) in
      sheds_if (nat_lt at 64) (words.visit_slot (words.op_of_slot r at)) (cond (at == 64) (does (λ r. Mend r.saved)) (words.visit_block name)) (sheds_slot _)
      (sheds_if (at == 64) (does (λ r. Mend r.saved)) (words.visit_block name) (sheds_does (λ r. Mend r.saved) (λ r. tt)) (sheds_block name)))

  -- ---- what stays of the checkpoint, and what is found in a slot

  -- the entry of the op, where it is here still
  abbrev Reads : Setting F → F → ℕ → Replica → Type 0
  Reads s f op q = (h : Header) → part_at q op ≡ Here h → (e : Whole) × (words.entry_of h s f ≡ Some e)

  record SlotSeen (s : Setting F) (f : F) (op : ℕ) (r q : Replica) : Type 0 where
    checkpoint : q.checkpoint ≡ r.checkpoint
    blocks : words.blocks_of q ≡ words.blocks_of r
    reads : Reads s f op q

  unmoved : (s : Setting F) (f : F) (op : ℕ) (r q : Replica) → q ≡ r → Reads s f op r → SlotSeen s f op r q
  unmoved s f op r q e reads = record {
    checkpoint = ap (λ (x : Replica). x.checkpoint) e;
    blocks = ap (λ (x : Replica). words.blocks_of x) e;
    reads = λ h t. reads h (sym (ap (λ (x : Replica). part_at x op) e) ∙ t);
  }

  lost_seen : (s : Setting F) (f : F) (op : ℕ) (x : Header) (r : Replica) → x.op ≡ op → SlotSeen s f op r (words.lost x r)
  unfolding with_part
  lost_seen s f op x r at = record {
    checkpoint = refl;
    blocks = refl;
    reads = λ h t. absurd (is_gone (part_at (words.lost x r) op) h (subst (λ k. is_here (part_at (words.lost x r) k) ≡ false) at (gone_here x r)) t);
  }

  mended : (h : Header) (d : Option Header) (s : Setting F) (r : Replica) (f : F) → (words.mend_header h d s r f).replica ≡ r
  unfolding does quiet
  mended h None s r f = refl
  mended h (Some d) s r f = elim (not (same_header d h)) as (λ b. (cond b (does (λ r. Rewrite h)) quiet s r f).replica ≡ r) [ true ↦ refl | false ↦ refl ]

  abbrev slot_word : ℕ → Whole → Word F
  slot_word op e = reading (words.header_read op) (words.mend_header e.header)

  read_seen : (op : ℕ) (x : Header) (o : Option Whole) (s : Setting F) (r : Replica) (f : F) → part_at r op ≡ Here x → x.op ≡ op → words.entry_of x s f ≡ o
      → SlotSeen s f op r (words.or_lost x (slot_word op) o s r f).replica
  unfolding change reading
  read_seen op x None s r f is at e = lost_seen s f op x r at
  read_seen op x (Some d) s r f is at e =
      unmoved s f op r _ (mended d.header (words.header_read op s f) s r f)
      (λ h t. (d, subst (λ (y : Header). words.entry_of y s f ≡ Some d) (one_part (part_at r op) x h is t) e))

  not_here : (s : Setting F) (f : F) (op : ℕ) (r : Replica) → is_here (part_at r op) ≡ false → Reads s f op r
  not_here s f op r n h t = absurd (is_gone (part_at r op) h n t)

  part_seen : (op : ℕ) (p : Part) (s : Setting F) (r : Replica) (f : F) → part_at r op ≡ p → IsSound r → SlotSeen s f op r (words.with_entry (slot_word op) p s r f).replica
  unfolding reading quiet
  part_seen op (Here x) s r f is sound = read_seen op x (words.entry_of x s f) s r f is (sound.entries.each op x (ap header_of is)).1.at_op refl
  part_seen op (Lost x) s r f is sound = unmoved s f op r r refl (not_here s f op r (ap is_here is))
  part_seen op (Wanted x) s r f is sound = unmoved s f op r r refl (not_here s f op r (ap is_here is))
  part_seen op Unknown s r f is sound = unmoved s f op r r refl (not_here s f op r (ap is_here is))
  part_seen op Nothing s r f is sound = unmoved s f op r r refl (not_here s f op r (ap is_here is))

  -- of the place: a slot's op is seen
  record PlaceSeen (s : Setting F) (f : F) (at : ℕ) (r q : Replica) : Type 0 where
    checkpoint : q.checkpoint ≡ r.checkpoint
    blocks : words.blocks_of q ≡ words.blocks_of r
    reads : at < 64 → Reads s f (words.op_of_slot r at) q

  not_slot : (s : Setting F) (f : F) (at : ℕ) (r q : Replica) → nat_lt at 64 ≡ false → q.checkpoint ≡ r.checkpoint → words.blocks_of q ≡ words.blocks_of r → PlaceSeen s f at r q
  not_slot s f at r q n c b = record { checkpoint = c; blocks = b; reads = λ l. absurd (let m = ltb-false at 64 n in omega (arith, l, m)) }

  block_seen : (s : Setting F) (f : F) (at : ℕ) (o : Option Name) (r : Replica) → nat_lt at 64 ≡ false → PlaceSeen s f at r (words.visit_block o s r f).replica
  unfolding words.visit_block reading change quiet
  block_seen s f at None r n = not_slot s f at r r n refl refl
  block_seen s f at (Some name) r n =
      elim (s.block f name) as (λ o. PlaceSeen s f at r (words.visit_read name o s r f).replica) [
        | None ↦ not_slot s f at r (words.with_worn name r) n refl refl
        | Some block ↦ not_slot s f at r r n refl refl
      ]

  place_seen : (at : ℕ) (s : Setting F) (r : Replica) (f : F) → IsSound r → PlaceSeen s f at r (words.visit_place at s r f).replica
  unfolding words.visit_place words.visit_slot words.with_entry_at by does
  place_seen at s r f sound =
      let op : ℕ = words.op_of_slot r at in
      let name : Option Name = slice_get (words.blocks_of r) (at - 65) in
      elim (nat_lt at 64) as (λ b. nat_lt at 64 ≡ b → PlaceSeen s f at r (cond b (words.visit_slot op) (cond (at == 64) (does (λ r. Mend r.saved)) (words.visit_block name)) s r f).replica) [
        | true ↦ λ e. let seen = part_seen op (part_at r op) s r f refl sound in record { checkpoint = seen.checkpoint; blocks = seen.blocks; reads = λ l. seen.reads }
        | false ↦ λ e.
            elim (at == 64) as (λ b. PlaceSeen s f at r (cond b (does (λ r. Mend r.saved)) (words.visit_block name) s r f).replica) [
              | true ↦ not_slot s f at r r e refl refl
              | false ↦ block_seen s f at name r e
            ]
      ] refl

module _ {F : Type 0} (s : Setting F) (Fine : F → Type 0) (sturdy : Sturdy s Fine) where
  -- a visit: no more entries are here, and that of the visited slot reads
  pub record Saw (r : Replica) (f : F) (q : Replica) (g : F) : Type 0 where
    pub here : (k : ℕ) (h : Header) → part_at q k ≡ Here h → part_at r k ≡ Here h
    pub checkpoint : q.checkpoint ≡ r.checkpoint
    pub disk : Kept s f g
    pub reads : (k : ℕ) (h : Header) → r.checkpoint < k → visited r q (k % 64) ≡ true → part_at q k ≡ Here h → (e : Whole) × (words.entry_of h s f ≡ Some e)

  cursor_part : (at : ℕ) (r : Replica) (k : ℕ) → part_at (words.with_cursor at r) k ≡ part_at r k
  unfolding part_at
  cursor_part at r k = refl

  -- it stood still
  rests : (r : Replica) (f : F) → Saw r f r f
  rests r f = record {
    here = λ k h e. e;
    checkpoint = refl;
    disk = record { same = λ slot l. refl };
    reads = λ k h a b t. absurd (true≢false (sym b ∙ ap (λ (x : Bool). not x && (r.cursor == k % 64 + 1)) (eq-eqb r.cursor r.cursor refl)));
  }

  moved : (r : Replica) (f : F) → IsSound r → let a = words.visit_place (words.place_now r) s r f in Saw r f (words.with_cursor (words.place_now r) a.replica) (after_all s f a.script)
  moved r f sound =
      let at : ℕ = words.place_now r in
      let a = words.visit_place at s r f in
      let q : Replica = words.with_cursor at a.replica in
      let seen = place_seen at s r f sound in
      let shed = (sheds_place at).parts s r f in
      let places : words.places a.replica ≡ words.places r = ap (λ (xs : List Name). 65 + length xs) seen.blocks in
      let within : at < words.places a.replica = (let l = place_within r in omega (arith, l, places)) in
      let here : (k : ℕ) (h : Header) → part_at q k ≡ Here h → part_at r k ≡ Here h = λ k h e. shed.here k h (sym (cursor_part at a.replica k) ∙ e) in
      record {
        here = here;
        checkpoint = seen.checkpoint;
        disk = all_spared s Fine sturdy a.script f ((sheds_place at).script s r f);
        reads = λ k h above b t.
            let behind : (at + 1) % words.places a.replica ≡ k % 64 + 1 = eqb-true q.cursor (k % 64 + 1) (and_parts (not (q.cursor == r.cursor)) (q.cursor == k % 64 + 1) b).1 in
            let from : at ≡ k % 64 = came_from at (words.places a.replica) (k % 64) within behind in
            let low = mod_below k 64 (omega arith) in
            let slot : at < 64 = omega (arith, from, low) in
            let known = known_within r k (spans_of r sound) (ap has_header (here k h t)) in
            let op : k ≡ words.op_of_slot r at = slot_op r.checkpoint at k slot above known.1 (sym from) in
            seen.reads slot h (subst (λ j. part_at a.replica j ≡ Here h) op (sym (cursor_part at a.replica k) ∙ t));
      }

  pub visit_saw : (r : Replica) (f : F) → IsSound r → Saw r f (words.visit s r f).replica (after_all s f (words.visit s r f).script)
  unfolding words.visit ◌⨾◌ by change quiet after_all
  visit_saw r f sound =
      let at : ℕ = words.place_now r in
      let a = words.visit_place at s r f in
      let done : Saw r f (words.with_cursor at a.replica) (after_all s f (a.script ++ [])) =
      subst (λ (es : List Effect). Saw r f (words.with_cursor at a.replica) (after_all s f es)) (sym (append-nil a.script)) (moved r f sound) in
      elim (words.is_loaded r) as (λ b. let x = cond b (words.visit_place at ⨾ change (words.with_cursor at)) quiet s r f in Saw r f x.replica (after_all s f x.script)) [
        | true ↦ done
        | false ↦ rests r f
      ]
