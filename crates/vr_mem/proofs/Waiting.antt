-- Those that wait, and what was copied out of their rooms.
use Rattle.std.proofs.Common.{ℕ, suc, zero, ◌≤◌, ◌<◌, ◌≡◌, arith, refl, sym, ap, ◌∙◌, true, false, Bool, cond, eqb, not, ◌||◌, ◌&&◌, ◌++◌, inl, inr, Option, None, Some, get_or-set_other, get_or-set_same, length-set, List, [], ◌∷◌, length, get_or, set}
use Rattle.std.specs.List.{All, list_any, position, position_or_len}
use Rattle.std.specs.Option.{is_some}
use Rattle.std.proofs.lemmas.Bool.{and_parts, cases_lt, eqb-false, eqb-true, lt-ltb, not-true, or_parts}
use Rattle.std.proofs.lemmas.List.{append-nil, get_or_append_left, get_or_default, get_or_push, map-append, set-get_or}
use Rattle.std.proofs.lemmas.List.Folds.{list_any_at, list_any_none}
use Rattle.std.proofs.lemmas.List.Quantifiers.{position-Some}
use Rattle.std.proofs.lemmas.List.Sums.{fails_before_first}
use Rattle.vr_disk.specs.DiskState.{Cell, Waiting, noted, waits}
use Rattle.vr_mem.specs.declared.room.MemKept.{MemKept}
use Rattle.vr_mem.specs.declared.room.MemRoom.{MemRoom}
use Rattle.vr_mem.specs.declared.room.MemWaiting.{MemWaiting}
use Rattle.vr_mem.specs.declared.waits.MemWaits.{MemWaits}
use Rattle.vr_mem.specs.Seen.{AreWaits, Keeps, Stays, blank_room, copied, kept_by, noted_of, once, place_end, room_of, waiting_in, waiting_of, was_by, was_of}

abbrev pub is_in : MemWaiting → Cell → Waiting
is_in w c = record { index = w.index; was = c }

abbrev pub is_here : ℕ → MemWaiting → Bool
is_here i w = eqb w.index i

pub waits_of : (index : ℕ) (kept : List MemKept) (xs : List MemRoom) (ws : List MemWaiting) → waits index (waiting_of kept xs ws) ≡ list_any (λ w. eqb w.index index) ws
waits_of index kept xs [] = refl
waits_of index kept xs (w ∷ ws) = ap (λ b. eqb w.index index || b) (waits_of index kept xs ws)

-- whether one waits twice doesn't depend on its room
pub once_of : (kept : List MemKept) (xs ys : List MemRoom) (ws : List MemWaiting) → once (waiting_of kept xs ws) ≡ once (waiting_of kept ys ws)
once_of kept xs ys [] = refl
once_of kept xs ys (w ∷ ws) = ap (λ b. not b && once (waiting_of kept xs ws)) (waits_of w.index kept xs ws ∙ sym (waits_of w.index kept ys ws)) ∙ ap (λ b. not (waits w.index (waiting_of kept ys ws)) && b) (once_of kept xs ys ws)

-- another sector whose room changes
pub apart : (kept : List MemKept) (xs : List MemRoom) (i : ℕ) (x : MemRoom) (ws : List MemWaiting) → waits i (waiting_of kept xs ws) ≡ false → waiting_of kept (set xs i x) ws ≡ waiting_of kept xs ws
apart kept xs i x [] h = refl
apart kept xs i x (w ∷ ws) h =
    let q = or_parts (eqb w.index i) (waits i (waiting_of kept xs ws)) h in
    let now = get_or-set_other xs i w.index x blank_room (eqb-false w.index i q.0) in
    ap (λ (r : MemRoom). is_in w (was_of kept w r) ∷ waiting_of kept (set xs i x) ws) now ∙ ap (λ r. noted_of kept xs w ∷ r) (apart kept xs i x ws q.1)

-- ---- one more is copied out

by_more : (p : Option ℕ) (kept more : List MemKept) (here : MemKept) → place_end p ≤ length kept → kept_by p (kept ++ more) here ≡ kept_by p kept here
by_more None kept more here l = refl
by_more (Some p) kept more here l = get_or_append_left kept more here p (omega (arith, l))

was_more : (kept more : List MemKept) (w : MemWaiting) (x : MemRoom) → place_end w.kept ≤ length kept → was_of (kept ++ more) w x ≡ was_of kept w x
unfolding was_of
was_more kept more w x l = ap (was_by w.reads) (by_more w.kept kept more (copied w x) l)

other_more : (kept more : List MemKept) (xs : List MemRoom) (i : ℕ) (x : MemRoom) (w : MemWaiting) → (w.index ≡ i → ⊥) → place_end w.kept ≤ length kept → noted_of (kept ++ more) (set xs i x) w ≡ noted_of kept xs w
other_more kept more xs i x w d l = ap (λ (r : MemRoom). is_in w (was_of (kept ++ more) w r)) (get_or-set_other xs i w.index x blank_room d) ∙ ap (is_in w) (was_more kept more w (get_or xs w.index blank_room) l)

abbrev Within : ℕ → MemWaiting → Type 0
Within n w = place_end w.kept ≤ n

within_tail : (n : ℕ) (w : MemWaiting) (ws : List MemWaiting) → All (Within n) (w ∷ ws) → All (Within n) ws
within_tail n w ws h = λ k d l. h (suc k) d (omega (arith, l))

within_head : (n : ℕ) (w : MemWaiting) (ws : List MemWaiting) → All (Within n) (w ∷ ws) → Within n w
within_head n w ws h = h 0 w (omega arith)

apart_more : (kept more : List MemKept) (xs : List MemRoom) (i : ℕ) (x : MemRoom) (ws : List MemWaiting) → waits i (waiting_of kept xs ws) ≡ false → All (Within (length kept)) ws → waiting_of (kept ++ more) (set xs i x) ws ≡ waiting_of kept xs ws
apart_more kept more xs i x [] h a = refl
apart_more kept more xs i x (w ∷ ws) h a =
    let q = or_parts (eqb w.index i) (waits i (waiting_of kept xs ws)) h in
    ap (λ y. y ∷ waiting_of (kept ++ more) (set xs i x) ws) (other_more kept more xs i x w (eqb-false w.index i q.0) (within_head (length kept) w ws a))
    ∙ ap (λ r. noted_of kept xs w ∷ r) (apart_more kept more xs i x ws q.1 (within_tail (length kept) w ws a))

-- those that wait stay as they were where the one that waits at a place does
same_but : (kept more : List MemKept) (xs : List MemRoom) (i : ℕ) (x : MemRoom) (ws : List MemWaiting) (at : ℕ) (d w : MemWaiting) → at < length ws → eqb (get_or ws at d).index i ≡ true → once (waiting_of kept xs ws) ≡ true → All (Within (length kept)) ws
    → noted_of (kept ++ more) (set xs i x) w ≡ noted_of kept xs (get_or ws at d) → waiting_of (kept ++ more) (set xs i x) (set ws at w) ≡ waiting_of kept xs ws
same_but kept more xs i x [] at d w l e o a h = absurd (omega arith)
same_but kept more xs i x (v ∷ ws) zero d w l e o a h =
    let alone = not-true (waits v.index (waiting_of kept xs ws)) (and_parts (not (waits v.index (waiting_of kept xs ws))) (once (waiting_of kept xs ws)) o).0 in
    let none : waits i (waiting_of kept xs ws) ≡ false = ap (λ j. waits j (waiting_of kept xs ws)) (sym (eqb-true v.index i e)) ∙ alone in
    ap (λ y. y ∷ waiting_of (kept ++ more) (set xs i x) ws) h ∙ ap (λ r. noted_of kept xs v ∷ r) (apart_more kept more xs i x ws none (within_tail (length kept) v ws a))
same_but kept more xs i x (v ∷ ws) (suc at) d w l e o a h =
    let p = and_parts (not (waits v.index (waiting_of kept xs ws))) (once (waiting_of kept xs ws)) o in
    let alone = not-true (waits v.index (waiting_of kept xs ws)) p.0 in
    let found : waits i (waiting_of kept xs ws) ≡ true = waits_of i kept xs ws ∙ list_any_at (is_here i) ws at d (omega (arith, l)) e in
    let other : (v.index ≡ i → ⊥) = λ s. (let f : false ≡ true = sym alone ∙ (ap (λ j. waits j (waiting_of kept xs ws)) s ∙ found) in absurd cc) in
    ap (λ y. y ∷ waiting_of (kept ++ more) (set xs i x) (set ws at w)) (other_more kept more xs i x v other (within_head (length kept) v ws a))
    ∙ ap (λ r. noted_of kept xs v ∷ r) (same_but kept more xs i x ws at d w (omega (arith, l)) e p.1 (within_tail (length kept) v ws a) h)

abbrev pub kept_at : ℕ → MemWaiting → MemWaiting
kept_at place w = record w { kept = Some place }

by_none : (p : Option ℕ) (kept : List MemKept) (here : MemKept) → is_some p ≡ false → kept_by p kept here ≡ here
by_none None kept here e = refl
by_none (Some p) kept here e = absurd cc

by_some : (p : Option ℕ) (kept : List MemKept) (a b : MemKept) → is_some p ≡ true → place_end p ≤ length kept → kept_by p kept a ≡ kept_by p kept b
by_some None kept a b e l = absurd cc
by_some (Some p) kept a b e l = get_or_default kept p a b (omega (arith, l))

-- the one that is copied out
was_kept : (kept : List MemKept) (w : MemWaiting) (room now : MemRoom) (place : ℕ) → is_some w.kept ≡ false → place ≡ length kept → was_of (kept ++ copied w room ∷ []) (kept_at place w) now ≡ was_of kept w room
unfolding was_of
was_kept kept w room now place e n =
    ap (was_by w.reads) (get_or_push kept (copied w room) (copied w now) place (sym n) ∙ sym (by_none w.kept kept (copied w room) e))

-- one that was copied out before
was_there : (kept : List MemKept) (w : MemWaiting) (a b : MemRoom) → is_some w.kept ≡ true → place_end w.kept ≤ length kept → was_of kept w a ≡ was_of kept w b
unfolding was_of
was_there kept w a b e l = ap (was_by w.reads) (by_some w.kept kept (copied w a) (copied w b) e l)

-- where one is found
found_at : (ws : List MemWaiting) (i at : ℕ) (w : MemWaiting) → position (is_here i) ws ≡ Some at → w ≡ get_or ws at w → (at < length ws) × (eqb w.index i ≡ true)
found_at ws i at w f e =
    let p = position-Some (is_here i) ws at w f in
    (p.0, ap (is_here i) e ∙ p.1)

pub keeps_there : (m : MemWaits) (i at : ℕ) (w : MemWaiting) (room : MemRoom) → AreWaits m → position (is_here i) m.notes.items ≡ Some at → w ≡ get_or m.notes.items at w → is_some w.kept ≡ true → Keeps m m i room
keeps_there m i at w room h f e s =
    let kept = m.kept.items in
    let ws = m.notes.items in
    let p = found_at ws i at w f e in
    let within : place_end w.kept ≤ length kept = (rw (sym e) at (h.within at w p.0)) in
    record {
      count = refl;
      same = λ xs now l r o.
          (let same : noted_of (kept ++ []) (set xs i now) (get_or ws at w) ≡ noted_of kept xs (get_or ws at w) =
          rw (sym e, append-nil kept) (ap (is_in w) (was_there kept w (get_or (set xs i now) w.index blank_room) (get_or xs w.index blank_room) s within)) in
          let but = same_but kept [] xs i now ws at w (get_or ws at w) p.0 (ap (is_here i) (sym e) ∙ p.1) o h.within same in
          ap (λ (zs : List MemWaiting). waiting_of kept (set xs i now) zs) (sym (set-get_or ws at w)) ∙ (ap (λ (ks : List MemKept). waiting_of ks (set xs i now) (set ws at (get_or ws at w))) (sym (append-nil kept)) ∙ but));
    }

pub keeps_now : (old new : MemWaits) (i at place : ℕ) (w v : MemWaiting) (room : MemRoom) → AreWaits old → position (is_here i) old.notes.items ≡ Some at → w ≡ get_or old.notes.items at w → v ≡ get_or old.notes.items at v → is_some w.kept ≡ false
    → place ≡ length old.kept.items → new.notes.items ≡ set old.notes.items at (kept_at place v) → new.kept.items ≡ old.kept.items ++ copied w room ∷ [] → Keeps old new i room
keeps_now old new i at place w v room h f e d s n nw nk =
    let kept = old.kept.items in
    let ws = old.notes.items in
    let p = found_at ws i at w f e in
    let same : v ≡ w = d ∙ (get_or_default ws at v w p.0 ∙ sym e) in
    let now : new.notes.items ≡ set ws at (kept_at place w) = nw ∙ ap (λ (u : MemWaiting). set ws at (kept_at place u)) same in
    record {
      count = ap length now ∙ length-set ws at (kept_at place w);
      same = λ xs x l r o.
          (let here : get_or xs w.index blank_room ≡ room = ap (λ j. get_or xs j blank_room) (eqb-true w.index i p.1) ∙ r in
          let one : noted_of (kept ++ copied w room ∷ []) (set xs i x) (kept_at place w) ≡ noted_of kept xs w =
          ap (is_in w) (was_kept kept w room (get_or (set xs i x) w.index blank_room) place s n ∙ ap (was_of kept w) (sym here)) in
          let but = same_but kept (copied w room ∷ []) xs i x ws at w (kept_at place w) p.0 (ap (is_here i) (sym e) ∙ p.1) o h.within (one ∙ ap (noted_of kept xs) e) in
          rw (now, nk) but);
    }

-- ---- whether one waits

far : (i : ℕ) (ws : List MemWaiting) → position (is_here i) ws ≡ None → length ws ≤ position_or_len (is_here i) ws
far i ws e = elim (cases_lt (position_or_len (is_here i) ws) (length ws)) [
  | inl l ↦ (let s : position (is_here i) ws ≡ Some (position_or_len (is_here i) ws) = ap (λ b. cond b (Some (position_or_len (is_here i) ws)) None) (lt-ltb _ _ l) in absurd cc)
  | inr g ↦ g
]

pub none_found : (i : ℕ) (ws : List MemWaiting) → position (is_here i) ws ≡ None → list_any (is_here i) ws ≡ false
none_found i ws e = list_any_none (is_here i) ws (λ k d l. fails_before_first (is_here i) ws k d (let g = far i ws e in omega (arith, l, g)))

pub one_found : (i at : ℕ) (ws : List MemWaiting) → position (is_here i) ws ≡ Some at → list_any (is_here i) ws ≡ true
one_found i at [] f = absurd cc
one_found i at (w ∷ ws) f = let p = position-Some (is_here i) (w ∷ ws) at w f in list_any_at (is_here i) (w ∷ ws) at w p.0 p.1

-- where none is found nothing changes
pub keeps_none : (m : MemWaits) (i : ℕ) (room : MemRoom) → list_any (is_here i) m.notes.items ≡ false → Keeps m m i room
keeps_none m i room n = record {
  count = refl;
  same = λ xs now l r o. apart m.kept.items xs i now m.notes.items (waits_of i m.kept.items xs m.notes.items ∙ n);
}

-- of one that waits already nothing is noted
pub noted_again : (old new : MemWaits) (i : ℕ) (xs : List MemRoom) (now : MemRoom) (was : Cell) → list_any (is_here i) old.notes.items ≡ true → waiting_in new (set xs i now) ≡ waiting_in old xs → waiting_in new (set xs i now) ≡ noted (waiting_in old xs) i was
noted_again old new i xs now was h s =
    let ws = waiting_in old xs in
    s ∙ sym (ap (λ b. cond b ws (ws ++ record { index = i; was = was } ∷ [])) (waits_of i old.kept.items xs old.notes.items ∙ h))

-- what its room still has of a sector that was written
was_first : (kept : List MemKept) (w : MemWaiting) (room now : MemRoom) → w.kept ≡ None → w.reads ≡ room.reads → w.truth_on ≡ room.truth_on → w.before_on ≡ room.before_on → Stays room now → was_of kept w now ≡ room_of room
unfolding was_of room_of
was_first kept w room now k r t b s = rw (k, r, t, b, s.truth, s.before, s.lie) refl

pub noted_first : (old mid new : MemWaits) (i : ℕ) (w : MemWaiting) (xs : List MemRoom) (room now : MemRoom) → list_any (is_here i) old.notes.items ≡ false → i < length xs → waiting_in mid (set xs i now) ≡ waiting_in old xs
    → new.kept ≡ mid.kept → new.notes.items ≡ mid.notes.items ++ w ∷ [] → w.index ≡ i → w.kept ≡ None → w.reads ≡ room.reads → w.truth_on ≡ room.truth_on → w.before_on ≡ room.before_on → Stays room now
    → waiting_in new (set xs i now) ≡ noted (waiting_in old xs) i (room_of room)
noted_first old mid new i w xs room now n l s k e wi wk wr wt wb st =
    let ws = waiting_in old xs in
    let kept = mid.kept.items in
    let was = room_of room in
    let none : waits i ws ≡ false = waits_of i old.kept.items xs old.notes.items ∙ n in
    let here : was_of kept w (get_or (set xs i now) w.index blank_room) ≡ was = ap (λ j. was_of kept w (get_or (set xs i now) j blank_room)) wi ∙ (ap (was_of kept w) (get_or-set_same xs i now blank_room l) ∙ was_first kept w room now wk wr wt wb st) in
    let one : noted_of kept (set xs i now) w ≡ record { index = i; was = was } = ap (is_in w) here ∙ ap (λ j. (let y : Waiting = record { index = j; was = was } in y)) wi in
    rw (k, e) (map-append (noted_of kept (set xs i now)) mid.notes.items (w ∷ []))
    ∙ (ap (λ r. r ++ noted_of kept (set xs i now) w ∷ []) s ∙ (ap (λ y. ws ++ y ∷ []) one ∙ sym (ap (λ b. cond b ws (ws ++ record { index = i; was = was } ∷ [])) none)))
