-- What a step leaves of the entries that are here, and of the slots.
use Rattle.std.proofs.Common.{arith, ℕ, ◌+◌, ◌-◌, ◌*◌, ◌/◌, ◌%◌, ◌≡◌, ◌≢◌, ◌<◌, ◌≤◌, ◌∙◌, ◌⊎◌, inl, inr, refl, sym, ap, subst, Bool, true, false, cond, not, List, [], ◌∷◌, ◌++◌, length, Some}
use Rattle.std.specs.Prelude.{All}
use Rattle.std.proofs.lemmas.Bool.{cases_eq, cases_lt}
use Rattle.std.proofs.lemmas.Nat.{div-add-mod', mod-mul-add, mod_below}
use Rattle.std.proofs.Math.Nat.{mod-eq_of_lt}
use Rattle.std.proofs.lemmas.List.Elements.{All-head, All-tail}
use Rattle.vr_header.specs.declared.header.Header.{Header}
use Rattle.vr_header.specs.declared.part.Part.TheVariants.{Here}
use Rattle.vr_header.specs.Made.{Whole}
use Rattle.vr_rings.specs.Slots.{IsWhole}
use Rattle.vr_rules.specs.Replica.{Replica, forgetting, is_here, part_at, with_part}
use Rattle.vr_rules.specs.Steps.{Effect, Write, Rewrite, Save, Mend, Checkpoint, PutBlock, Say, Setting, Word, ◌⨾◌, after_all, by, change, does, naming, quiet}
use Rattle.vr_rules.specs.Words as words
use Rattle.vr_rules.proofs.Halves.{after_both}
use Rattle.vr_rules.proofs.Heads.{with_part_at, with_part_other}
use Rattle.law_repair.proofs.Disks.{Stores}
use Rattle.law_repair.proofs.Shedding.{Shed, Sheds, Spares, forgotten, sheds_quiet}

-- ---- ops and slots

-- the op of the window with a slot
pub slot_op : (c at k : ℕ) → at < 64 → c < k → k ≤ c + 64 → k % 64 ≡ at → k ≡ c + 1 + (at + 63 - c % 64) % 64
slot_op c at k l a b e =
    let q : ℕ = c / 64 in
    let m : ℕ = c % 64 in
    let p : ℕ = k / 64 in
    let of_c : q * 64 + m ≡ c = div-add-mod' c 64 in
    let of_k : p * 64 + k % 64 ≡ k = div-add-mod' k 64 in
    let low : m < 64 = mod_below c 64 (omega arith) in
    elim (cases_lt m at) [
      | inl above ↦
          let whole : at + 63 - m ≡ 1 * 64 + (at - m - 1) = omega (arith, above, low) in
          let rest : (at + 63 - m) % 64 ≡ at - m - 1 = ap (λ x. x % 64) whole ∙ mod-mul-add 1 64 (at - m - 1) (omega (arith, l)) in
          omega (arith, rest, of_c, of_k, e, above, low, a, b, l)
      | inr below ↦
          let rest : (at + 63 - m) % 64 ≡ at + 63 - m = mod-eq_of_lt (omega (arith, below, low)) in
          omega (arith, rest, of_c, of_k, e, below, low, a, b, l)
    ]

-- two ops of a window with one slot are one
pub one_slot : (c j k : ℕ) → c < j → j ≤ c + 64 → c < k → k ≤ c + 64 → j % 64 ≡ k % 64 → j ≡ k
one_slot c j k a b d e same =
    let l = mod_below k 64 (omega arith) in
    slot_op c (k % 64) j l a b same ∙ sym (slot_op c (k % 64) k l d e refl)

-- ---- the disk

-- nothing but an entry that is written changes what a slot reads as
pub record Sturdy {F : Type 0} (s : Setting F) (Fine : F → Type 0) : Type 0 where
  pub stores : Stores s Fine
  pub rewritten : (f : F) (h : Header) (slot : ℕ) → s.entry (s.after f (Rewrite h)) slot ≡ s.entry f slot

-- an entry that is stored
pub record Stored (e : Whole) (r q : Replica) : Type 0 where
  pub here : (k : ℕ) (h : Header) → part_at q k ≡ Here h → ((part_at r k ≡ Here h) × (k ≢ e.header.op)) ⊎ ((k ≡ e.header.op) × (h ≡ e.header))
  pub cursor : q.cursor ≡ r.cursor

-- an entry of the window
pub record InWindow (e : Whole) (r : Replica) : Type 0 where
  pub above : r.checkpoint < e.header.op
  pub within : e.header.op ≤ r.checkpoint + 64

stored_cursor : (e : Whole) (r : Replica) → (words.stored e r).cursor ≡ r.cursor
unfolding forgetting with_part
stored_cursor e r = refl

pub stored_is : (e : Whole) (r : Replica) → r.first ≤ e.header.op → e.header.op < r.first + length r.parts → Stored e r (words.stored e r)
stored_is e r a b = record {
  here = λ k h t.
      let before = forgotten (with_part e.header.op (Here e.header) r) k h t in
      elim (cases_eq k e.header.op) [
        | inl same ↦
            let there : Here h ≡ Here e.header = sym before ∙ (ap (part_at (with_part e.header.op (Here e.header) r)) same ∙ with_part_at e.header.op (Here e.header) r a b) in
            inr (same, cc)
        | inr other ↦ inl (sym (with_part_other e.header.op (Here e.header) r k a other) ∙ before, other)
      ];
  cursor = stored_cursor e r;
}

module _ {F : Type 0} (s : Setting F) where
  pub record Kept (f g : F) : Type 0 where
    pub same : (slot : ℕ) → slot < 64 → s.entry g slot ≡ s.entry f slot

  pub record Put (e : Whole) (f g : F) : Type 0 where
    pub there : s.entry g (e.header.op % 64) ≡ Some e
    pub others : (slot : ℕ) → slot < 64 → slot ≢ e.header.op % 64 → s.entry g slot ≡ s.entry f slot

  -- what a word leaves: no more entries are here, or one that it has written
  pub data Leaves (r : Replica) (f : F) (q : Replica) (g : F) : Type 0 where
    sheds : Shed r q → Kept f g → Leaves r f q g
    wrote : (e : Whole) → Stored e r q → InWindow e r → Put e f g → Leaves r f q g

  kept_more : (f d g : F) → Kept f d → Kept d g → Kept f g
  kept_more f d g x y = record { same = λ slot l. y.same slot l ∙ x.same slot l }

  -- first a word that sheds, which keeps the checkpoint
  sheds_first : (r a q : Replica) (f d g : F) → Shed r a → a.checkpoint ≡ r.checkpoint → Kept f d → Leaves a d q g → Leaves r f q g
  sheds_first r a q f d g x c y leaves = elim leaves [
    | sheds z w ↦ sheds (record { here = λ k h e. x.here k h (z.here k h e); cursor = z.cursor ∙ x.cursor }) (kept_more f d g y w)
    | wrote e z i p ↦
        wrote e
        (record { here = λ k h t. elim (z.here k h t) [ inl old ↦ inl (x.here k h old.0, old.1) | inr new ↦ inr new ]; cursor = z.cursor ∙ x.cursor })
        (record { above = subst (λ n. n < e.header.op) c i.above; within = subst (λ n. e.header.op ≤ n + 64) c i.within })
        (record { there = p.there; others = λ slot l n. p.others slot l n ∙ y.same slot l })
  ]

  -- and then one
  sheds_last : (r a q : Replica) (f d g : F) → Leaves r f a d → Shed a q → Kept d g → Leaves r f q g
  sheds_last r a q f d g leaves z w = elim leaves [
    | sheds x y ↦ sheds (record { here = λ k h e. x.here k h (z.here k h e); cursor = z.cursor ∙ x.cursor }) (kept_more f d g y w)
    | wrote e x i p ↦
        wrote e (record { here = λ k h t. x.here k h (z.here k h t); cursor = z.cursor ∙ x.cursor }) i
        (record { there = w.same (e.header.op % 64) (mod_below e.header.op 64 (omega arith)) ∙ p.there; others = λ slot l n. w.same slot l ∙ p.others slot l n })
  ]

  module _ (Fine : F → Type 0) (sturdy : Sturdy s Fine) where
    spared : (f : F) (e : Effect) (slot : ℕ) → Spares e → slot < 64 → s.entry (s.after f e) slot ≡ s.entry f slot
    spared f (Write again e) slot h l = absurd h
    spared f (Rewrite h) slot t l = sturdy.rewritten f h slot
    spared f (Save old new) slot h l = sturdy.stores.dry f (Save old new) slot tt l
    spared f (Mend v) slot h l = sturdy.stores.dry f (Mend v) slot tt l
    spared f (Checkpoint cluster texts op old) slot h l = sturdy.stores.dry f (Checkpoint cluster texts op old) slot tt l
    spared f (PutBlock name block) slot h l = sturdy.stores.dry f (PutBlock name block) slot tt l
    spared f (Say o) slot h l = sturdy.stores.dry f (Say o) slot tt l

    pub all_spared : (es : List Effect) (f : F) → All Spares es → Kept f (after_all s f es)
    unfolding after_all
    all_spared [] f h = record { same = λ slot l. refl }
    all_spared (e ∷ es) f h = record {
      same = λ slot l. (all_spared es (s.after f e) (All-tail Spares e es h)).same slot l ∙ spared f e slot (All-head Spares e es h) l;
    }

    pub record LeavesBy (w : Word F) (r : Replica) (f : F) : Type 0 where
      pub leaves : Leaves r f (w s r f).replica (after_all s f (w s r f).script)

    pub of_sheds : (w : Word F) (r : Replica) (f : F) → Sheds w → LeavesBy w r f
    of_sheds w r f h = record { leaves = sheds (h.parts s r f) (all_spared (w s r f).script f (h.script s r f)) }

    pub leaves_then : (v w : Word F) (r : Replica) (f : F) → LeavesBy v r f → Sheds w → LeavesBy (v ⨾ w) r f
    unfolding ◌⨾◌
    leaves_then v w r f h k =
        let a = v s r f in
        let d = after_all s f a.script in
        let b = w s a.replica d in
        let split : after_all s f (a.script ++ b.script) ≡ after_all s d b.script = after_both s f a.script b.script in
        record {
          leaves = subst (Leaves r f b.replica) (sym split) (sheds_last r a.replica b.replica f d (after_all s d b.script) h.leaves (k.parts s a.replica d) (all_spared b.script d (k.script s a.replica d)));
        }

    -- a change that sheds, and keeps the checkpoint
    pub change_then : (g : Replica → Replica) (w : Word F) (r : Replica) (f : F) → Shed r (g r) → (g r).checkpoint ≡ r.checkpoint → LeavesBy w (g r) f → LeavesBy (change g ⨾ w) r f
    unfolding ◌⨾◌ change after_all
    change_then g w r f x c h = record { leaves = sheds_first r (g r) (w s (g r) f).replica f f (after_all s f (w s (g r) f).script) x c (record { same = λ slot l. refl }) h.leaves }

    pub leaves_by : (w : Replica → Word F) (r : Replica) (f : F) → LeavesBy (w r) r f → LeavesBy (by w) r f
    unfolding by
    leaves_by w r f h = record { leaves = h.leaves }

    pub leaves_naming : (w : (List ℕ → List ℕ) → Word F) (r : Replica) (f : F) → LeavesBy (w s.hash) r f → LeavesBy (naming w) r f
    unfolding naming
    leaves_naming w r f h = record { leaves = h.leaves }

    leaves_if : (b : Bool) (v w : Word F) (r : Replica) (f : F) → LeavesBy v r f → LeavesBy w r f → LeavesBy (cond b v w) r f
    leaves_if true v w r f h k = h
    leaves_if false v w r f h k = k

    -- an entry of the window, of a version that is taken, is written
    pub leaves_write : (e : Whole) (r : Replica) (f : F) → Fine f → IsWhole e → e.header.version ≤ sturdy.stores.last → InWindow e r → r.first ≤ r.checkpoint + 1 → r.first + length r.parts ≡ r.checkpoint + 65 → LeavesBy (words.write e) r f
    unfolding words.write ◌⨾◌ does change after_all
    leaves_write e r f fine whole few i first parts =
        let above = i.above in
        let within = i.within in
        let again : Bool = words.may_be_stored (part_at r e.header.op) in
        record {
          leaves = wrote e (stored_is e r (omega arith) (omega arith)) i
              (record { there = sturdy.stores.written f again e fine whole few; others = λ slot l n. sturdy.stores.others f again e slot n });
        }

    pub leaves_accept : (e : Whole) (r : Replica) (f : F) → Fine f → IsWhole e → e.header.version ≤ sturdy.stores.last → InWindow e r → r.first ≤ r.checkpoint + 1 → r.first + length r.parts ≡ r.checkpoint + 65 → LeavesBy (words.accept e) r f
    unfolding words.accept
    leaves_accept e r f fine whole few i first parts =
        leaves_by _ r f (leaves_if (not (is_here (part_at r e.header.op))) (words.write e) quiet r f (leaves_write e r f fine whole few i first parts) (of_sheds quiet r f sheds_quiet))
