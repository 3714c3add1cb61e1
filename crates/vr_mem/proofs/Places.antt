-- The room of each sector, by its place.
use Rattle.std.proofs.Common.{ℕ, zero, suc, ◌+◌, ◌*◌, ◌≡◌, ◌<◌, ◌≤◌, inl, inr, refl, sym, ap, ◌∙◌, arith, cond, eqb, List, [], ◌∷◌, ◌++◌, length, length-set, get_or, get_or-set_other, get_or-set_same, set}
use Rattle.std.specs.List.{count_by}
use Rattle.std.specs.Prelude.{map, replicate}
use Rattle.std.specs.Vec.{vec_capacity}
use Rattle.std.proofs.lemmas.Bool.{cases_eq, ne_eqb}
use Rattle.std.proofs.lemmas.List.{get_or_default, get_or-map, get_or_append_left, get_or_push, length-map, length-replicate, length_push, map-set, set-get_or}
use Rattle.std.proofs.lemmas.List.Folds.{sum_by-replicate}
use Rattle.std.proofs.lemmas.List.Sums.{sum_by-set}
use Rattle.vr_disk.specs.DiskState.{Face, blank, written}
use Rattle.vr_disk.specs.Regions.{sectors}
use Rattle.vr_mem.specs.declared.room.MemRoom.{MemRoom}
use Rattle.vr_mem.specs.declared.rooms.MemRooms.{MemRooms}
use Rattle.vr_mem.specs.declared.waits.MemWaits.{MemWaits}
use Rattle.vr_mem.specs.Seen.{AreRooms, blank_room, bytes_of, copies, room_at, room_of, rooms_by, rooms_of, seen, waiting_in, zero_cell}

pub length_copies : {X : Type 0} → (n : ℕ) (x : X) → length (copies n x) ≡ n
unfolding copies
length_copies n x = length-replicate n x

-- the room at a place, of zeros past the last one
abbrev held : List MemRoom → ℕ → MemRoom
held rooms p = get_or rooms p blank_room

length_by : (ps : List ℕ) (rooms : List MemRoom) → length (rooms_by ps rooms) ≡ length ps
unfolding rooms_by
length_by ps rooms = length-map ps (held rooms)

pub length_rooms : (m : MemRooms) → AreRooms m → length (rooms_of m) ≡ sectors
length_rooms m h = length_by m.places.items m.rooms.items ∙ h.count

pub length_seen : (m : MemRooms) → AreRooms m → length (seen m) ≡ sectors
length_seen m h = length-map (rooms_of m) room_of ∙ length_rooms m h

by_place : (ps : List ℕ) (rooms : List MemRoom) (i : ℕ) → i < length ps → get_or (rooms_by ps rooms) i blank_room ≡ held rooms (get_or ps i 0)
unfolding rooms_by
by_place ps rooms i l = get_or-map (held rooms) ps i 0 blank_room l

-- the place of a sector, as it is read
pub place_is : (m : MemRooms) (i k : ℕ) → AreRooms m → i < sectors → k ≡ get_or m.places.items i k → get_or m.places.items i 0 ≡ k
place_is m i k h l a = get_or_default m.places.items i 0 k (let n = h.count in omega (arith, n, l)) ∙ sym a

-- the room of a sector
pub room_here : (m : MemRooms) (i k : ℕ) (x : MemRoom) → AreRooms m → i < sectors → get_or m.places.items i 0 ≡ k → x ≡ get_or m.rooms.items k x → room_at m i ≡ x
room_here m i k x h l e b =
    let n = h.count in
    let w = h.within i in
    by_place m.places.items m.rooms.items i (omega (arith, n, l))
    ∙ (ap (held m.rooms.items) e ∙ (get_or_default m.rooms.items k blank_room x (omega (arith, e, w)) ∙ sym b))

-- a sector, by its room
pub seen_here : (xs : List MemRoom) (i : ℕ) → i < length xs → get_or (map room_of xs) i blank ≡ room_of (get_or xs i blank_room)
seen_here xs i l = get_or-map room_of xs i blank_room blank l

pub cell_here : (m : MemRooms) (i : ℕ) (x : MemRoom) → AreRooms m → i < sectors → room_at m i ≡ x → get_or (seen m) i blank ≡ room_of x
cell_here m i x h l e = seen_here (rooms_of m) i (let n = length_rooms m h in omega (arith, n, l)) ∙ ap room_of e

pub written_cells : (xs ys : List MemRoom) (i : ℕ) (x : MemRoom) (bytes : List ℕ) → i < length xs → ys ≡ set xs i x → room_of x ≡ written (room_of (get_or xs i blank_room)) bytes → map room_of ys ≡ set (map room_of xs) i (written (get_or (map room_of xs) i blank) bytes)
written_cells xs ys i x bytes l e w = ap (map room_of) e ∙ (map-set room_of xs i x ∙ ap (set (map room_of xs) i) (w ∙ ap (λ c. written c bytes) (sym (seen_here xs i l))))

-- a sector that has no room of its own
pub room_none : (m : MemRooms) (i : ℕ) → AreRooms m → i < sectors → get_or m.places.items i 0 ≡ 0 → room_at m i ≡ blank_room
room_none m i h l e = let n = h.count in by_place m.places.items m.rooms.items i (omega (arith, n, l)) ∙ (ap (held m.rooms.items) e ∙ h.first)

pub blank_cell : room_of blank_room ≡ zero_cell
unfolding room_of blank_room bytes_of zero_cell
blank_cell = refl

-- ---- a room that changes

map_alike : (f g : ℕ → MemRoom) (ps : List ℕ) → ((j : ℕ) → j < length ps → g (get_or ps j 0) ≡ f (get_or ps j 0)) → map g ps ≡ map f ps
map_alike f g [] h = refl
map_alike f g (p ∷ ps) h = ap (λ c. c ∷ map g ps) (h 0 (omega arith)) ∙ ap (λ cs. f p ∷ cs) (map_alike f g ps (λ j l. h (suc j) (omega arith)))

map_but : (f g : ℕ → MemRoom) (ps : List ℕ) (i : ℕ) (y : MemRoom) → i < length ps → g (get_or ps i 0) ≡ y → ((j : ℕ) → j < length ps → (j ≡ i → ⊥) → g (get_or ps j 0) ≡ f (get_or ps j 0)) → map g ps ≡ set (map f ps) i y
map_but f g [] i y l e h = absurd (omega arith)
map_but f g (p ∷ ps) zero y l e h = ap (λ c. c ∷ map g ps) e ∙ ap (λ cs. y ∷ cs) (map_alike f g ps (λ j b. h (suc j) (omega arith) (λ z. omega arith)))
map_but f g (p ∷ ps) (suc i) y l e h =
    ap (λ c. c ∷ map g ps) (h 0 (omega arith) (λ z. omega arith))
    ∙ ap (λ cs. f p ∷ cs) (map_but f g ps i y (omega arith) e (λ j b d. h (suc j) (omega arith) (λ z. d (omega arith))))

held_other : (rooms : List MemRoom) (k p : ℕ) (x : MemRoom) → (p ≡ k → ⊥) → held (set rooms k x) p ≡ held rooms p
held_other rooms k p x d = get_or-set_other rooms k p x blank_room d

rooms_but : (m : MemRooms) (i k : ℕ) (x : MemRoom) → AreRooms m → i < sectors → 0 < k → get_or m.places.items i 0 ≡ k → rooms_by m.places.items (set m.rooms.items k x) ≡ set (rooms_of m) i x
unfolding rooms_by
rooms_but m i k x h l o e =
    let ps = m.places.items in
    let n = h.count in
    let w = h.within i in
    map_but (held m.rooms.items) (held (set m.rooms.items k x)) ps i x (omega (arith, n, l))
    (ap (held (set m.rooms.items k x)) e ∙ get_or-set_same m.rooms.items k x blank_room (omega (arith, e, w)))
    (λ j b d. held_other m.rooms.items k (get_or ps j 0) x (λ s. d (sym (h.own i j (omega (arith, e, o)) (e ∙ sym s)))))

-- one sector's room becomes another, and those of the others stay
pub record Changed (old : MemRooms) (rooms : List MemRoom) (i : ℕ) (was x : MemRoom) : Type 0 where
  pub others : rooms ≡ set (rooms_of old) i x
  pub there : room_at old i ≡ was
  pub here : get_or rooms i blank_room ≡ x

pub room_changed : (old mid : MemRooms) (i k : ℕ) (was x : MemRoom) → AreRooms mid → rooms_of mid ≡ rooms_of old → i < sectors → 0 < k → get_or mid.places.items i 0 ≡ k → was ≡ get_or mid.rooms.items k was
    → Changed old (rooms_by mid.places.items (set mid.rooms.items k x)) i was x
room_changed old mid i k was x h s l o e b =
    let n = length_rooms mid h in
    let but = rooms_but mid i k x h l o e in
    record {
      others = but ∙ ap (λ xs. set xs i x) s;
      there = ap (λ xs. get_or xs i blank_room) (sym s) ∙ room_here mid i k was h l e b;
      here = ap (λ xs. get_or xs i blank_room) but ∙ get_or-set_same (rooms_of mid) i x blank_room (omega (arith, n, l));
    }

pub made_of : (f : MemRoom → MemRoom) (old : MemRooms) (rooms : List MemRoom) (i : ℕ) (was x : MemRoom) → Changed old rooms i was x → x ≡ f was → rooms ≡ set (rooms_of old) i (f (room_at old i))
made_of f old rooms i was x c e = c.others ∙ ap (set (rooms_of old) i) (e ∙ ap f (sym c.there))

pub others_stay : (old : MemRooms) (rooms : List MemRoom) (i : ℕ) (was x : MemRoom) → Changed old rooms i was x → rooms ≡ set (rooms_of old) i (get_or rooms i blank_room)
others_stay old rooms i was x c = c.others ∙ ap (set (rooms_of old) i) (sym c.here)

pub place_within : (m : MemRooms) (i k : ℕ) → AreRooms m → get_or m.places.items i 0 ≡ k → k < length m.rooms.items
place_within m i k h e = let w = h.within i in omega (arith, e, w)

pub rooms_set : (old new : MemRooms) (k : ℕ) (x : MemRoom) → AreRooms old → 0 < k → new.places ≡ old.places → new.rooms.items ≡ set old.rooms.items k x → vec_capacity old.rooms ≤ vec_capacity new.rooms → AreRooms new
rooms_set old new k x h o p r c =
    let n : length new.rooms.items ≡ length old.rooms.items = ap length r ∙ length-set old.rooms.items k x in
    record {
      count = rw p h.count;
      first = ap (λ rooms. held rooms 0) r ∙ (held_other old.rooms.items k 0 x (λ z. omega arith) ∙ h.first);
      within = λ i. rw (n, p) (h.within i);
      own = rw p h.own;
      given = rw (n, p) h.given;
      space = (let s = h.space in omega arith);
    }

-- ---- a room more

held_more : (rooms : List MemRoom) (p : ℕ) (x : MemRoom) → p < length rooms → held (rooms ++ x ∷ []) p ≡ held rooms p
held_more rooms p x l = get_or_append_left rooms (x ∷ []) blank_room p l

-- a sector with no room gets one that is zeros
pub rooms_kept : (m : MemRooms) (i k : ℕ) (x : MemRoom) → AreRooms m → i < sectors → get_or m.places.items i 0 ≡ 0 → x ≡ blank_room → k ≡ length m.rooms.items → rooms_by (set m.places.items i k) (m.rooms.items ++ x ∷ []) ≡ rooms_of m
unfolding rooms_by
rooms_kept m i k x h l e z s =
    let ps = m.places.items in
    let rooms = m.rooms.items in
    let f = held rooms in
    let g = held (rooms ++ x ∷ []) in
    let n = h.count in
    let there : i < length ps = omega (arith, n, l) in
    let last : g k ≡ get_or (map f ps) i blank_room = get_or_push rooms x blank_room k (sym s) ∙ (z ∙ sym (get_or-map f ps i 0 blank_room there ∙ (ap f e ∙ h.first))) in
    map-set g ps i k
    ∙ (ap (λ cs. set cs i (g k)) (map_alike f g ps (λ j b. held_more rooms (get_or ps j 0) x (h.within j)))
    ∙ (ap (set (map f ps) i) last ∙ set-get_or (map f ps) i blank_room))

abbrev none_here : ℕ → ℕ
none_here p = cond (eqb p 0) 1 0

count_set : (ps : List ℕ) (i k : ℕ) → i < length ps → get_or ps i 0 ≡ 0 → 0 < k → count_by (λ p. eqb p 0) (set ps i k) + 1 ≡ count_by (λ p. eqb p 0) ps
count_set ps i k l e o =
    let c = sum_by-set none_here ps i k 0 l in
    let a : none_here (get_or ps i 0) ≡ 1 = ap none_here e in
    let b : none_here k ≡ 0 = (let f = ne_eqb k 0 (λ z. omega arith) in rw f refl) in
    omega (arith, c, a, b)

-- there is space for a room more where a sector has none
pub space_more : (m : MemRooms) (i : ℕ) → AreRooms m → i < sectors → get_or m.places.items i 0 ≡ 0 → length m.rooms.items < sectors + 1
space_more m i h l e = let g = h.given in let n = h.count in let c = count_set m.places.items i 1 (omega (arith, n, l)) e (omega arith) in omega (arith, g, c)

at_most : (m : MemRooms) (j : ℕ) → AreRooms m → (get_or m.places.items j 0 ≡ length m.rooms.items → ⊥)
at_most m j h e = let w = h.within j in omega (arith, e, w)

own_more : (m : MemRooms) (i k : ℕ) → AreRooms m → i < sectors → k ≡ length m.rooms.items → (a b : ℕ) → let ps = set m.places.items i k in 0 < get_or ps a 0 → get_or ps a 0 ≡ get_or ps b 0 → a ≡ b
own_more m i k h l s a b o e =
    let ps = m.places.items in
    let n = h.count in
    let here : get_or (set ps i k) i 0 ≡ k = get_or-set_same ps i k 0 (omega (arith, n, l)) in
    elim (cases_eq a i) [
      | inl x ↦ elim (cases_eq b i) [
        | inl y ↦ x ∙ sym y
        | inr y ↦ absurd (at_most m b h (sym (get_or-set_other ps i b k 0 y) ∙ (sym e ∙ (ap (λ j. get_or (set ps i k) j 0) x ∙ (here ∙ s)))))
      ]
      | inr x ↦ elim (cases_eq b i) [
        | inl y ↦ absurd (at_most m a h (sym (get_or-set_other ps i a k 0 x) ∙ (e ∙ (ap (λ j. get_or (set ps i k) j 0) y ∙ (here ∙ s)))))
        | inr y ↦
            let same = get_or-set_other ps i a k 0 x in
            h.own a b (omega (arith, o, same)) (sym same ∙ (e ∙ get_or-set_other ps i b k 0 y))
      ]
    ]

within_more : (m : MemRooms) (i k : ℕ) (x : MemRoom) → AreRooms m → i < sectors → k ≡ length m.rooms.items → (j : ℕ) → get_or (set m.places.items i k) j 0 < length (m.rooms.items ++ x ∷ [])
within_more m i k x h l s j =
    let ps = m.places.items in
    let n = h.count in
    let more = length_push m.rooms.items x in
    elim (cases_eq j i) [
      | inl e ↦ let here : get_or (set ps i k) j 0 ≡ k = ap (λ t. get_or (set ps i k) t 0) e ∙ get_or-set_same ps i k 0 (omega (arith, n, l)) in omega (arith, here, more, s)
      | inr d ↦ let there = get_or-set_other ps i j k 0 d in let w = h.within j in omega (arith, there, more, w)
    ]

pub rooms_more : (old new : MemRooms) (i k : ℕ) (x : MemRoom) → AreRooms old → i < sectors → get_or old.places.items i 0 ≡ 0 → k ≡ length old.rooms.items
    → new.places.items ≡ set old.places.items i k → new.rooms.items ≡ old.rooms.items ++ x ∷ [] → vec_capacity old.rooms ≤ vec_capacity new.rooms → AreRooms new
rooms_more old new i k x h l e s p r c =
    let n = h.count in
    let some = h.within i in
    let more : length new.rooms.items ≡ length old.rooms.items + 1 = ap length r ∙ length_push old.rooms.items x in
    record {
      count = rw p (length-set old.places.items i k ∙ n);
      first = ap (λ rooms. held rooms 0) r ∙ (held_more old.rooms.items 0 x (omega (arith, some)) ∙ h.first);
      within = rw (p, r) (within_more old i k x h l s);
      own = rw p (own_more old i k h l s);
      given = (
          let g = h.given in
          let t = count_set old.places.items i k (omega (arith, n, l)) e (omega (arith, some, s)) in
          rw (more, p) (omega (arith, g, t)));
      space = (let t = h.space in omega arith);
    }

-- ---- as they are made

map_copies : {X Y : Type 0} → (f : X → Y) (n : ℕ) (x : X) → map f (replicate n x) ≡ replicate n (f x)
map_copies f zero x = refl
map_copies f (suc n) x = ap (λ ys. f x ∷ ys) (map_copies f n x)

count_none : (n : ℕ) → count_by (λ p. eqb p 0) (replicate n 0) ≡ n
count_none n = sum_by-replicate none_here n 0 ∙ (let e : n * 1 ≡ n = omega arith in e)

none_at : (n i : ℕ) → get_or (replicate {A = ℕ} n 0) i 0 ≡ 0
none_at zero i = refl
none_at (suc n) zero = refl
none_at (suc n) (suc i) = none_at n i

pub seen_made : (m : MemRooms) (x : MemRoom) → m.places.items ≡ replicate sectors 0 → m.rooms.items ≡ x ∷ [] → x ≡ blank_room → seen m ≡ copies sectors zero_cell
unfolding rooms_by copies
seen_made m x p r z = rw (p, r) (ap (map room_of) (map_copies (held (x ∷ [])) sectors 0) ∙ (map_copies room_of sectors x ∙ ap (replicate sectors) (ap room_of z ∙ blank_cell)))

pub rooms_made : (m : MemRooms) (x : MemRoom) → m.places.items ≡ replicate sectors 0 → m.rooms.items ≡ x ∷ [] → x ≡ blank_room → sectors + 1 ≤ vec_capacity m.rooms → AreRooms m
rooms_made m x p r z c =
    let none = none_at sectors in
    record {
      count = rw p (length-replicate {A = ℕ} sectors 0);
      first = rw r z;
      within = λ i. rw (p, r) (let e = none i in omega (arith, e));
      own = λ i j o e. absurd (let a : get_or m.places.items i 0 ≡ 0 = rw p (none i) in omega (arith, o, a));
      given = rw (p, r) (let n = count_none sectors in omega (arith, n));
      space = c;
    }

pub face_made : (m : MemRooms) (w : MemWaits) → seen m ≡ copies sectors zero_cell → w.notes.items ≡ []
    → let face : Face = record { cells = seen m; waiting = waiting_in w (rooms_of m) } in face ≡ record { cells = copies sectors zero_cell; waiting = [] }
face_made m w e n = rw (n, e) refl
