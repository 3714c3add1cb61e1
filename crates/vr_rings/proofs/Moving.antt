-- What a slot holds, while its prepare is written at its new place.
use Rattle.std.proofs.Common.{ℕ, zero, suc, ◌+◌, ◌*◌, ◌≤◌, ◌<◌, ◌≡◌, inl, inr, arith, refl, sym, ap, ◌∙◌, Bool, true, false, ◌||◌, cond, eqb, List, [], ◌∷◌, length, Option, Some, append-nil, subst}
use Rattle.std.specs.List.{AllByRecursion}
use Rattle.std.specs.Option.{option_map}
use Rattle.std.proofs.lemmas.Bool.{cases_eq}
use Rattle.std.proofs.lemmas.List.{take_all}
use Rattle.vr_base.specs.Bytes.{is_zeros}
use Rattle.vr_base.specs.declared.mode.Mode.{Mode}
use Rattle.vr_base.specs.declared.mode.Mode.TheVariants.{Strict, Careful}
use Rattle.vr_disk.specs.DiskState.{Call, Write, Sync, Cell, Face, after, after_all, cut, cut_at, digit_at}
use Rattle.vr_disk.specs.Regions.{header_place, prepare_place, prepare_sectors, sectors}
use Rattle.vr_disk.specs.Sectors.{has, together, writes}
use Rattle.vr_disk.specs.Stops.{Spares}
use Rattle.vr_disk.proofs.Frames.{frame_all, waits_after}
use Rattle.vr_disk.proofs.Places.{behind_header, versions_apart}
use Rattle.vr_disk.proofs.Together.{Within, after_all_append, is_has, length_after_all, together_same, together_synced, together_written, within_append, within_spares, writes_within}
use Rattle.vr_rings.specs.Held.{MayRead, Stands, entry_of_both, header_sector, held_after, held_after_all, held_begun, held_cut, held_cut_at, is_prepare, looked}
use Rattle.vr_rings.specs.Moving.{IsMoved, Moves, move_calls, moves}
use Rattle.vr_rings.specs.Slots.{header_reading, padded, prepare_reading}
use Rattle.vr_rings.proofs.Cutting.{AllApart, Rests, apart_spares, cut_spares, still_stands}
use Rattle.vr_rings.proofs.Standing.{apart_held, both_is, both_whole, calls_stand, some_same, stands_look}

-- ---- the writes go to no sector of an old slot

-- the sectors of the new prepares, from a slot's on
abbrev pub Within2 : ℕ → Call → Type 0
Within2 slot = Within (prepare_place 2 slot) (prepare_place 2 64)

wider : (low less : ℕ) (cs : List Call) → less ≤ low → AllByRecursion (Within2 low) cs → AllByRecursion (Within2 less) cs
unfolding Within
wider low less [] l w = tt
wider low less (Write i b ∷ cs) l w = let p = w.0 in ((omega arith, p.1), wider low less cs l w.1)
wider low less (Sync ∷ cs) l w = (tt, wider low less cs l w.1)

pub moves_within : (new : ℕ → List ℕ) (n slot : ℕ) → slot + n ≤ 64 → AllByRecursion (Within2 slot) (moves slot n new)
unfolding moves
moves_within new zero slot l = tt
moves_within new (suc n) slot l =
    let low = prepare_place 2 slot in
    let high = prepare_place 2 64 in
    let count = prepare_sectors 2 in
    within_append low high (writes low count (new slot)) (moves (slot + 1) n new) (writes_within low high count low (new slot) (omega arith) (omega arith))
    (wider (slot + 1) slot (moves (slot + 1) n new) (omega arith) (moves_within new n (slot + 1) (omega arith)))

pub all_within : (new : ℕ → List ℕ) → AllByRecursion (Within2 0) (move_calls new)
unfolding Within
all_within new = within_append (prepare_place 2 0) (prepare_place 2 64) (moves 0 64 new) (Sync ∷ []) (moves_within new 64 0 (omega arith)) (tt, tt)

pub within_apart : (slot : ℕ) (cs : List Call) → slot < 64 → AllByRecursion (Within2 0) cs → AllByRecursion (AllApart 1 slot) cs
unfolding Within
within_apart slot [] l w = tt
within_apart slot (Write i b ∷ cs) l w =
    let p = w.0 in
    let apart = versions_apart slot 0 l in
    let behind = behind_header 2 slot in
    (((λ e. omega arith), inr (omega arith)), within_apart slot cs l w.1)
within_apart slot (Sync ∷ cs) l w = (tt, within_apart slot cs l w.1)

-- ---- what the slot held it holds, as long as no sector of it is written

held_now : {mode : Mode} (f : Face) (c : Call) (slot : ℕ) (held : Option (List ℕ)) → AllApart 1 slot c → Stands 1 mode f slot held → held_after 1 f c slot held ≡ held
unfolding held_after
held_now f Sync slot held a s = refl
held_now f (Write i b) slot held a s = apart_held 1 f slot i b held a s

same_held : {mode : Mode} (cs : List Call) (f : Face) (slot : ℕ) (held : Option (List ℕ)) → slot < 64 → length f.cells ≡ sectors → AllByRecursion (AllApart 1 slot) cs → Stands 1 mode f slot held
    → (held_after_all 1 f cs slot held ≡ held) × Stands 1 mode (after_all f cs) slot held
unfolding held_after_all
same_held [] f slot held l n a s = (refl, s)
same_held {mode} (c ∷ cs) f slot held l n a s =
    let now = held_now f c slot held a.0 s in
    let stands = calls_stand 1 (c ∷ []) f slot held l n s in
    let here : Stands 1 mode (after f c) slot held = subst (λ h. Stands 1 mode (after f c) slot h) now stands in
    let rest = same_held cs (after f c) slot held l (length_after_all (c ∷ []) f ∙ n) a.1 here in
    (ap (held_after_all 1 (after f c) cs slot) now ∙ rest.0, rest.1)

begun_now : {mode : Mode} (code : ℕ) (f : Face) (c : Call) (slot : ℕ) (held : Option (List ℕ)) → AllApart 1 slot c → Stands 1 mode f slot held → held_begun 1 code f c slot held ≡ held
begun_now code f Sync slot held a s = refl
begun_now code f (Write i b) slot held a s =
    elim (eqb (digit_at code i (after f (Write i b)).waiting) 0) as (λ t. cond t held (held_after 1 f (Write i b) slot held) ≡ held) [ true ↦ refl | false ↦ held_now f (Write i b) slot held a s ]

cut_held : {mode : Mode} (cs : List Call) (f : Face) (slot : ℕ) (held : Option (List ℕ)) (j code : ℕ) → slot < 64 → length f.cells ≡ sectors → AllByRecursion (AllApart 1 slot) cs → Rests 1 slot f → Stands 1 mode f slot held
    → (held_cut 1 j code f cs slot held ≡ held) × Stands 1 mode (cut j code f cs) slot held
unfolding cut held_cut held_cut_at held_after held_after_all
cut_held [] f slot held j code l n a w s = (refl, s)
cut_held {mode} (c ∷ cs) f slot held zero code l n a w s =
    let g = cut_at code f c in
    let stands : Stands 1 mode g slot held = still_stands 1 f g slot held (λ k x. cut_spares f c code k (apart_spares 1 slot k c a.0 x) (w k x)) s in
    (ap (looked 1 g slot) (begun_now code f c slot held a.0 s) ∙ stands_look 1 g slot held stands, stands)
cut_held {mode} (c ∷ cs) f slot held (suc j) code l n a w s =
    let now = held_now f c slot held a.0 s in
    let here : Stands 1 mode (after f c) slot held = subst (λ h. Stands 1 mode (after f c) slot h) now (calls_stand 1 (c ∷ []) f slot held l n s) in
    let rest = cut_held cs (after f c) slot held j code l (length_after_all (c ∷ []) f ∙ n) a.1 (λ k x. waits_after f c k (apart_spares 1 slot k c a.0 x) (w k x)) here in
    (ap (λ h. held_cut 1 j code (after f c) cs slot h) now ∙ rest.0, rest.1)

-- ---- what the new places read as

pub spared : (slot i : ℕ) (cs : List Call) → i < prepare_place 2 slot → AllByRecursion (Within2 slot) cs → AllByRecursion (Spares i) cs
spared slot i cs l w = within_spares (prepare_place 2 slot) (prepare_place 2 64) cs i w (inl l)

-- what a slot's new sectors read as
abbrev Reads2 : Face → ℕ → Option (List ℕ)
Reads2 f slot = together (prepare_place 2 slot) (prepare_sectors 2) f

moves_read : (new : ℕ → List ℕ) (n s slot : ℕ) (f : Face) → s + n ≤ 64 → s ≤ slot → slot < s + n → length f.cells ≡ sectors → length (new slot) ≡ 4096 → Reads2 (after_all f (moves s n new)) slot ≡ Some (new slot)
unfolding moves
moves_read new zero s slot f l a b c m = absurd (omega arith)
moves_read new (suc n) s slot f l a b c m =
    let count = prepare_sectors 2 in
    let first = writes (prepare_place 2 s) count (new s) in
    let rest = moves (s + 1) n new in
    let g = after_all f first in
    let size : length g.cells ≡ sectors = length_after_all first f ∙ c in
    ap (λ f. Reads2 f slot) (after_all_append first rest f)
    ∙ elim (cases_eq s slot) [
      | inl same ↦
          let w = moves_within new n (s + 1) (omega arith) in
          together_same count (prepare_place 2 slot) g (after_all g rest) (λ k x y. ap (λ (c : Cell). c.reads) (frame_all rest g k (spared (s + 1) k rest (omega arith) w)))
          ∙ subst (λ s. Reads2 (after_all f (writes (prepare_place 2 s) count (new s))) slot ≡ Some (new slot)) (sym same)
          (together_written count (prepare_place 2 slot) (new slot) f (omega arith) ∙ ap Some (take_all (512 * count) (new slot) (omega arith)))
      | inr other ↦ moves_read new n (s + 1) slot g (omega arith) (omega arith) (omega arith) size m
    ]

new_read : (new : ℕ → List ℕ) (slot : ℕ) (f : Face) → slot < 64 → length f.cells ≡ sectors → length (new slot) ≡ 4096 → prepare_reading 2 (after_all f (move_calls new)) slot ≡ Some (new slot)
new_read new slot f l c m =
    let g = after_all f (moves 0 64 new) in
    let read : Reads2 (after_all f (move_calls new)) slot ≡ Some (new slot) =
    ap (λ f. Reads2 f slot) (after_all_append (moves 0 64 new) (Sync ∷ []) f) ∙ (together_synced (prepare_sectors 2) (prepare_place 2 slot) g ∙ moves_read new 64 0 slot f (omega arith) (omega arith) (omega arith) c m) in
    ap (option_map (padded 2)) read ∙ ap Some (append-nil (new slot))

-- ---- the new place holds what the old one held

-- what may be read at the old place may be read at the new one
may_move : (mode : Mode) (f : Face) (slot : ℕ) (new p : List ℕ) → IsMoved f slot new → is_prepare p ≡ true → MayRead mode p (prepare_reading 1 f slot) → MayRead mode p (Some new)
may_move Strict f slot new p m w e = ap Some (m.all p e w)
may_move Careful f slot new p m w only = λ other e v.
    let same : new ≡ other = some_same new other e in
    only other (subst (λ o. prepare_reading 1 f slot ≡ Some o) same (m.only (subst (λ o. (is_prepare o || is_zeros o) ≡ true) (sym same) v))) v

moved_stands : {mode : Mode} (f g : Face) (slot : ℕ) (new : List ℕ) (held : Option (List ℕ)) → IsMoved f slot new → header_reading g slot ≡ header_reading f slot → prepare_reading 2 g slot ≡ Some new → Stands 1 mode f slot held → Stands 2 mode g slot held
unfolding entry_of_both
moved_stands {mode} f g slot new held m hr pr s =
    record {
      seen = λ p e.
          let both = both_is (header_reading g slot) (prepare_reading 2 g slot) p e in
          let whole = both_whole (header_reading g slot) (prepare_reading 2 g slot) p e in
          let same : new ≡ p = some_same new p (sym pr ∙ both.1) in
          let old : prepare_reading 1 f slot ≡ Some p = subst (λ q. prepare_reading 1 f slot ≡ Some q) same (m.only (or_left (is_prepare new) (is_zeros new) (subst (λ q. is_prepare q ≡ true) (sym same) whole))) in
          let header : has (header_sector p) (header_reading f slot) ≡ true = is_has (header_sector p) (header_reading f slot) (sym hr ∙ both.0) in
          s.seen p (ap (entry_of_both (header_reading f slot)) old ∙ (rw (header, whole) refl));
      holds = record { prepare = λ p header e r v d. subst (MayRead mode p) (sym pr) (may_move mode f slot new p m (s.whole p e) (s.holds.prepare p header e (sym hr ∙ r) v d)) };
      whole = s.whole;
    }
  where
    or_left : (a b : Bool) → a ≡ true → (a || b) ≡ true
    or_left a b e = rw e refl

-- on a disk on which nothing waits
pub moves_keep : (mode : Mode) (f : Face) (new : ℕ → List ℕ) (slot : ℕ) (held : Option (List ℕ)) → slot < 64 → length f.cells ≡ sectors → f.waiting ≡ [] → IsMoved f slot (new slot) → Stands 1 mode f slot held → Moves mode f new slot held
moves_keep mode f new slot held l n r m s =
    let apart = within_apart slot (move_calls new) l (all_within new) in
    let all = same_held (move_calls new) f slot held l n apart s in
    let g = after_all f (move_calls new) in
    let header : header_reading g slot ≡ header_reading f slot = ap (λ (c : Cell). c.reads) (frame_all (move_calls new) f (header_place slot) (spared 0 (header_place slot) (move_calls new) (omega arith) (all_within new))) in
    let cuts : (j code : ℕ) → (held_cut 1 j code f (move_calls new) slot held ≡ held) × Stands 1 mode (cut j code f (move_calls new)) slot held = λ j code. cut_held (move_calls new) f slot held j code l n apart (λ k x. rw r refl) s in
    record {
      stays = all.1;
      same = all.0;
      stopped = λ j code. (cuts j code).1;
      kept = λ j code. (cuts j code).0;
      moved = moved_stands f g slot (new slot) held m header (new_read new slot f l n m.size) s;
    }
