-- What the slots hold, by the table of the code.
use Rattle.std.proofs.Common.{ℕ, ◌+◌, ◌<◌, ◌≤◌, ◌≡◌, ◌≢◌, refl, sym, ap, ◌∙◌, arith, true, false, cond, eqb, List, [], length, get_or, set, length-set, Option, Some, None, get_or-set_other, get_or-set_same, inl, inr}
use Rattle.std.specs.Prelude.{nat_le, nat_lt}
use Rattle.std.proofs.lemmas.Bool.{cases_eq, cond_both, eq-eqb, ne_eqb, and_parts, leb-true, ltb-true}
use Rattle.std.proofs.lemmas.List.{get_or-map, map-set}
use Rattle.vr_disk.specs.DiskState.{Face, Write, Sync, Waiting, after, digit_at, settle}
use Rattle.vr_disk.specs.Regions.{header_place, prepare_place, prepare_sectors}
use Rattle.vr_disk.proofs.Frames.{reads_other}
use Rattle.vr_lie.specs.declared.table.Held.{Held}
use Rattle.vr_lie.specs.Faults.{HeldAfter, HeldLooked, held_at}
use Rattle.vr_rings.specs.Held.{entry_read, found, held_after, held_begun, held_cut_at, is_part, keeps, kept, looked}
use Rattle.vr_lie.specs.Table.{HeldBegun, HeldCut, IsTable, held_of, slot_at, table_of}
use Rattle.vr_lie.proofs.Slotted.{SameSlot, header_slot, part_slot, same_entry, same_slot}

abbrev pub no_held : Held
no_held = record { some = false; short = false; prepare = [] }

pub at_table : (held : List Held) (slot : ℕ) → slot < length held → held_at (table_of held) slot ≡ held_of (get_or held slot no_held)
at_table held s l = get_or-map held_of held s no_held None l

pub set_table : (held : List Held) (slot : ℕ) (x : Held) (v : Option (List ℕ)) → held_of x ≡ v → table_of (set held slot x) ≡ set (table_of held) slot v
set_table held s x v e = map-set held_of held s x ∙ ap (set (table_of held) s) e

pub looks : (ver : ℕ) (f : Face) (slot : ℕ) (h v r : Option (List ℕ)) → r ≡ looked ver f slot h → v ≡ h → r ≡ looked ver f slot v
looks ver f s h v r e k = e ∙ ap (looked ver f s) (sym k)

-- a write, by the readings before and after it
pub puts : (ver : ℕ) (f g : Face) (slot i : ℕ) (b : List ℕ) (r k h v : Option (List ℕ)) → g ≡ after f (Write i b) → r ≡ looked ver g slot k → k ≡ kept ver f slot i b h → v ≡ h → r ≡ held_after ver f (Write i b) slot v
unfolding held_after
puts ver f g s i b r k h v e l m w = l ∙ (ap (λ g. looked ver g s k) e ∙ ap (λ k. looked ver (after f (Write i b)) s k) (m ∙ ap (kept ver f s i b) (sym w)))

-- ---- slots that a write doesn't touch

found_again : (e h : Option (List ℕ)) → ((p : List ℕ) → e ≡ Some p → h ≡ Some p) → found e h ≡ h
found_again None h k = refl
found_again (Some p) h k = sym (k p refl)

pub untouched_looked : (ver : ℕ) (f g : Face) (held : List (Option (List ℕ))) (slot : ℕ) → slot < 64 → IsTable ver f held → SameSlot ver f g slot → looked ver g slot (held_at held slot) ≡ held_at held slot
untouched_looked ver f g held s l t h = found_again (entry_read ver g s) (held_at held s) (λ p e. t.seen s l p (sym (same_entry ver f g s h) ∙ e))

not_part : (ver : ℕ) (slot i : ℕ) → slot < 64 → slot_at ver i ≢ Some slot → is_part ver slot i ≡ false
not_part ver s i l d =
    elim (is_part ver s i) as (λ x. is_part ver s i ≡ x → x ≡ false) [
      | true ↦ λ x. let q = and_parts (nat_le (prepare_place ver s) i) (nat_lt i (prepare_place ver s + prepare_sectors ver)) x in absurd (d (part_slot ver s i l (leb-true (prepare_place ver s) i q.0) (ltb-true i (prepare_place ver s + prepare_sectors ver) q.1)))
      | false ↦ λ x. refl
    ] refl

keeps_apart : (ver : ℕ) (f : Face) (slot i : ℕ) (b p : List ℕ) → slot < 64 → slot_at ver i ≢ Some slot → keeps ver f slot i b p ≡ true
unfolding keeps
keeps_apart ver f s i b p l d =
    let h : i ≢ header_place s = λ e. d (ap (slot_at ver) e ∙ header_slot ver s l) in
    rw (ne_eqb i (header_place s) h, not_part ver s i l d) refl

kept_apart : (ver : ℕ) (f : Face) (slot i : ℕ) (b : List ℕ) (h : Option (List ℕ)) → slot < 64 → slot_at ver i ≢ Some slot → kept ver f slot i b h ≡ h
kept_apart ver f s i b None l d = refl
kept_apart ver f s i b (Some p) l d = ap (λ x. cond x (Some p) None) (keeps_apart ver f s i b p l d)

written_apart : (ver : ℕ) (f : Face) (slot i : ℕ) (b : List ℕ) → slot < 64 → slot_at ver i ≢ Some slot → SameSlot ver f (after f (Write i b)) slot
written_apart ver f s i b l d = same_slot ver f (after f (Write i b)) s l (λ k e. reads_other f i k b (λ z. d (sym (ap (slot_at ver) z) ∙ e)))

pub untouched : (ver : ℕ) (f : Face) (held : List (Option (List ℕ))) (slot i : ℕ) (b : List ℕ) → slot < 64 → IsTable ver f held → slot_at ver i ≢ Some slot → held_after ver f (Write i b) slot (held_at held slot) ≡ held_at held slot
unfolding held_after
untouched ver f held s i b l t d =
    ap (looked ver (after f (Write i b)) s) (kept_apart ver f s i b (held_at held s) l d) ∙ untouched_looked ver f (after f (Write i b)) held s l t (written_apart ver f s i b l d)

-- ---- the whole table

found_in : (e h : Option (List ℕ)) (p : List ℕ) → e ≡ Some p → found e h ≡ Some p
found_in None h p e = absurd cc
found_in (Some q) h p e = e

pub looked_table : (ver : ℕ) (g : Face) (old new : List (Option (List ℕ))) → length new ≡ 64 → HeldLooked ver g old new → IsTable ver g new
looked_table ver g old new n h = record { count = n; seen = λ s l p e. h.each s l ∙ found_in (entry_read ver g s) (held_at old s) p e }

after_seen : (ver : ℕ) (f : Face) (i : ℕ) (b : List ℕ) (slot : ℕ) (h : Option (List ℕ)) (p : List ℕ) → entry_read ver (after f (Write i b)) slot ≡ Some p → held_after ver f (Write i b) slot h ≡ Some p
unfolding held_after
after_seen ver f i b s h p e = found_in (entry_read ver (after f (Write i b)) s) (kept ver f s i b h) p e

pub after_table : (ver : ℕ) (f g : Face) (i : ℕ) (b : List ℕ) (old new : List (Option (List ℕ))) → g ≡ after f (Write i b) → length new ≡ 64 → HeldAfter ver f (Write i b) old new → IsTable ver g new
after_table ver f g i b old new e n h = record { count = n; seen = λ s l p x. h.each s l ∙ after_seen ver f i b s (held_at old s) p (sym (ap (λ g. entry_read ver g s) e) ∙ x) }

-- one slot is set, and the others stay
set_each : (old : List (Option (List ℕ))) (slot : ℕ) (v : Option (List ℕ)) (F : ℕ → Option (List ℕ)) → slot < length old → v ≡ F slot → ((s : ℕ) → s < 64 → s ≢ slot → held_at old s ≡ F s)
    → (s : ℕ) → s < 64 → held_at (set old slot v) s ≡ F s
set_each old slot v F n e h s l =
    elim (cases_eq s slot) [
      | inl z ↦ ap (held_at (set old slot v)) z ∙ (get_or-set_same old slot v None n ∙ (e ∙ ap F (sym z)))
      | inr d ↦ get_or-set_other old slot s v None d ∙ h s l d
    ]

other_slot : (ver : ℕ) (i s slot : ℕ) → slot_at ver i ≡ Some slot → s ≢ slot → slot_at ver i ≢ Some s
other_slot ver i s slot e d = λ z. let x : Some s ≡ Some slot = sym z ∙ e in d cc

none_slot : (ver : ℕ) (i s : ℕ) → slot_at ver i ≡ None → slot_at ver i ≢ Some s
none_slot ver i s e = λ z. absurd cc

pub put_some : (ver : ℕ) (f : Face) (i slot : ℕ) (b : List ℕ) (old new : List (Option (List ℕ))) → IsTable ver f old → slot_at ver i ≡ Some slot → slot < 64 → new ≡ set old slot (held_after ver f (Write i b) slot (held_at old slot)) → HeldAfter ver f (Write i b) old new
put_some ver f i slot b old new t e l n =
    let each = set_each old slot (held_after ver f (Write i b) slot (held_at old slot)) (λ s. held_after ver f (Write i b) s (held_at old s)) (let c = t.count in omega arith) refl
    (λ s m d. sym (untouched ver f old s i b m t (other_slot ver i s slot e d))) in
    record { each = λ s m. ap (λ x. held_at x s) n ∙ each s m }

pub put_none : (ver : ℕ) (f : Face) (i : ℕ) (b : List ℕ) (old : List (Option (List ℕ))) → IsTable ver f old → slot_at ver i ≡ None → HeldAfter ver f (Write i b) old old
put_none ver f i b old t e = record { each = λ s m. sym (untouched ver f old s i b m t (none_slot ver i s e)) }

begun_apart : (ver : ℕ) (code : ℕ) (f : Face) (table : List (Option (List ℕ))) (slot i : ℕ) (b : List ℕ) → slot < 64 → IsTable ver f table → slot_at ver i ≢ Some slot → held_begun ver code f (Write i b) slot (held_at table slot) ≡ held_at table slot
begun_apart ver code f table s i b l t d = cond_both (eqb (digit_at code i (after f (Write i b)).waiting) 0) (held_at table s) _ (λ x. x ≡ held_at table s) (λ _. refl) (λ _. untouched ver f table s i b l t d)

pub begun_some : (ver : ℕ) (code : ℕ) (f : Face) (i slot : ℕ) (b : List ℕ) (old new : List (Option (List ℕ))) → IsTable ver f old → slot_at ver i ≡ Some slot → slot < 64 → new ≡ set old slot (held_begun ver code f (Write i b) slot (held_at old slot)) → HeldBegun ver code f (Write i b) old new
begun_some ver code f i slot b old new t e l n =
    let v = held_begun ver code f (Write i b) slot (held_at old slot) in
    let each = set_each old slot v (λ s. held_begun ver code f (Write i b) s (held_at old s)) (let c = t.count in omega arith) refl
    (λ s m d. sym (begun_apart ver code f old s i b m t (other_slot ver i s slot e d))) in
    record { count = ap length n ∙ (length-set old slot v ∙ t.count); each = λ s m. ap (λ x. held_at x s) n ∙ each s m }

pub begun_none : (ver : ℕ) (code : ℕ) (f : Face) (i : ℕ) (b : List ℕ) (old : List (Option (List ℕ))) → IsTable ver f old → slot_at ver i ≡ None → HeldBegun ver code f (Write i b) old old
begun_none ver code f i b old t e = record { count = t.count; each = λ s m. sym (begun_apart ver code f old s i b m t (none_slot ver i s e)) }

-- a call that is cut
pub write_cut : (ver : ℕ) (code : ℕ) (f g : Face) (i : ℕ) (b : List ℕ) (old mid new : List (Option (List ℕ))) → g ≡ settle code (after f (Write i b)) → HeldBegun ver code f (Write i b) old mid → HeldLooked ver g mid new → HeldCut ver code f (Write i b) old new
unfolding held_cut_at
write_cut ver code f g i b old mid new e h k = record { each = λ s l. k.each s l ∙ (ap (λ g. looked ver g s (held_at mid s)) e ∙ ap (looked ver (settle code (after f (Write i b))) s) (h.each s l)) }

pub sync_cut : (ver : ℕ) (code : ℕ) (f g : Face) (old new : List (Option (List ℕ))) → g ≡ settle code f → HeldLooked ver g old new → HeldCut ver code f Sync old new
unfolding held_cut_at
sync_cut ver code f g old new e k = record { each = λ s l. k.each s l ∙ ap (λ g. looked ver g s (held_at old s)) e }

-- slot after slot
pub record LookedTo (ver : ℕ) (f : Face) (n : ℕ) (old new : List (Option (List ℕ))) : Type 0 where
  pub count : length new ≡ 64
  pub each : (s : ℕ) → s < n → held_at new s ≡ looked ver f s (held_at old s)
  pub later : (s : ℕ) → n ≤ s → held_at new s ≡ held_at old s

pub none_looked : (ver : ℕ) (f : Face) (old : List (Option (List ℕ))) → length old ≡ 64 → LookedTo ver f 0 old old
none_looked ver f old n = record { count = n; each = λ s l. absurd (omega arith); later = λ s l. refl }

pub more_looked : (ver : ℕ) (f : Face) (n : ℕ) (old mid new : List (Option (List ℕ))) → n < 64 → LookedTo ver f n old mid → new ≡ set mid n (looked ver f n (held_at mid n)) → LookedTo ver f (n + 1) old new
more_looked ver f n old mid new l h e =
    let v = looked ver f n (held_at mid n) in
    record {
      count = ap length e ∙ (length-set mid n v ∙ h.count);
      each = λ s m. ap (λ x. held_at x s) e ∙ elim (cases_eq s n) [
        | inl z ↦ ap (held_at (set mid n v)) z ∙ (get_or-set_same mid n v None (let c = h.count in omega arith) ∙ (ap (looked ver f n) (h.later n (omega arith)) ∙ ap (λ s. looked ver f s (held_at old s)) (sym z)))
        | inr d ↦ get_or-set_other mid n s v None d ∙ h.each s (omega arith)
      ];
      later = λ s m. ap (λ x. held_at x s) e ∙ (get_or-set_other mid n s v None (λ z. absurd (omega arith)) ∙ h.later s (omega arith));
    }

pub all_looked : (ver : ℕ) (f : Face) (n : ℕ) (old new : List (Option (List ℕ))) → 64 ≤ n → LookedTo ver f n old new → HeldLooked ver f old new
all_looked ver f n old new l h = record { each = λ s m. h.each s (omega arith) }

-- a write that is begun, by whether it is settled as old
pub begins_old : (ver : ℕ) (code : ℕ) (f : Face) (i : ℕ) (b : List ℕ) (slot d : ℕ) (h : Option (List ℕ)) (ws : List Waiting) → d ≡ digit_at code i ws → ws ≡ (after f (Write i b)).waiting → d ≡ 0 → h ≡ held_begun ver code f (Write i b) slot h
begins_old ver code f i b s d h ws e w z = let t : eqb (digit_at code i (after f (Write i b)).waiting) 0 ≡ true = eq-eqb _ 0 (ap (digit_at code i) (sym w) ∙ (sym e ∙ z)) in rw t refl

pub begins_new : (ver : ℕ) (code : ℕ) (f : Face) (i : ℕ) (b : List ℕ) (slot d : ℕ) (h r : Option (List ℕ)) (ws : List Waiting) → d ≡ digit_at code i ws → ws ≡ (after f (Write i b)).waiting → d ≢ 0 → r ≡ held_after ver f (Write i b) slot h → r ≡ held_begun ver code f (Write i b) slot h
begins_new ver code f i b s d h r ws e w z k =
    let t : eqb (digit_at code i (after f (Write i b)).waiting) 0 ≡ false = ne_eqb _ 0 (λ y. z (e ∙ (ap (digit_at code i) w ∙ y))) in
    rw t k
