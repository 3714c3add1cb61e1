use Rattle.std.proofs.Common.{ℕ, suc, ◌+◌, ◌/◌, ◌%◌, ◌≤◌, ◌<◌, ◌≡◌, arith, refl, sym, ap, ◌∙◌, true, false, cond, eqb, not, ◌++◌, inl, inr, List, Option, None, get_or-set_other, get_or-set_same, [], ◌∷◌, length, get_or, set, drop, drop-cons, add-one}
use Rattle.std.specs.Prelude.{map}
use Rattle.std.proofs.lemmas.List.{drop_all, get_or-map, length-map, map-set}
use Rattle.std.specs.List.{All}
use Rattle.std.proofs.lemmas.List.Elements.{All-push}
use Rattle.std.proofs.lemmas.Bool.{and_parts, cases_eq, cond_both, not-true}
use Rattle.vr_disk.specs.Regions.{sectors}
use Rattle.vr_disk.specs.DiskState.{Cell, Face, Waiting, Write, after, cell, digit_at, blank, noted, settled, settled_cell, waits}
use Rattle.vr_mem.specs.declared.room.MemKept.{MemKept}
use Rattle.vr_mem.specs.declared.room.MemRoom.{MemRoom}
use Rattle.vr_mem.specs.declared.waits.MemWaits.{MemWaits}
use Rattle.vr_mem.specs.declared.room.MemWaiting.{MemWaiting}
use Rattle.vr_mem.specs.declared.face.MemFace.{MemFace}
use Rattle.vr_mem.specs.Lies.{lied}
use Rattle.vr_mem.specs.Seen.{AreRooms, AreWaits, IsMemFace, blank_room, face_of, hidden, noted_of, once, room_of, waiting_in, waiting_of, was_of}
use Rattle.vr_mem.proofs.Once.{once_push}
use Rattle.vr_mem.proofs.Places.{length_seen, seen_here}
use Rattle.vr_mem.proofs.Waiting.{apart, is_in, once_of}

pub same_face : (a b : List Cell) (p q : List Waiting) → a ≡ b → p ≡ q → let f : Face = record { cells = a; waiting = p } in let g : Face = record { cells = b; waiting = q } in f ≡ g
same_face a b p q e k = rw (e, k) refl

pub settle_step : (code : ℕ) (kept : List MemKept) (ws : List MemWaiting) (i : ℕ) (d : MemWaiting) (xs : List MemRoom) (x : MemRoom)
    → i < length ws
    → (get_or ws i d).index < length xs
    → once (waiting_of kept xs (drop i ws)) ≡ true
    → (let w = get_or ws i d in let now = get_or xs w.index blank_room in room_of x ≡ settled_cell (code % 3) (was_of kept w now) (room_of now))
    → settled code (waiting_of kept xs (drop i ws)) (map room_of xs) ≡ settled (code / 3) (waiting_of kept (set xs (get_or ws i d).index x) (drop (i + 1) ws)) (map room_of (set xs (get_or ws i d).index x))
settle_step code kept ws i d xs x l n o h =
    let w = get_or ws i d in
    let at = w.index in
    let rest = drop (suc i) ws in
    let cells = map room_of xs in
    let alone : waits at (waiting_of kept xs rest) ≡ false = not-true (waits at (waiting_of kept xs rest)) (and_parts (not (waits at (waiting_of kept xs rest))) (once (waiting_of kept xs rest)) (rw (drop-cons ws i d) at o)).0 in
    let made : settled_cell (code % 3) (was_of kept w (get_or xs at blank_room)) (get_or cells at blank) ≡ room_of x = ap (settled_cell (code % 3) (was_of kept w (get_or xs at blank_room))) (seen_here xs at n) ∙ sym h in
    rw (add-one, drop-cons ws i d)
    (ap (λ c. settled (code / 3) (waiting_of kept xs rest) (set cells at c)) made
    ∙ (ap (settled (code / 3) (waiting_of kept xs rest)) (sym (map-set room_of xs at x))
    ∙ ap (λ r. settled (code / 3) r (map room_of (set xs at x))) (sym (apart kept xs at x rest alone))))

-- none of those after waits twice
pub once_behind : (kept : List MemKept) (ws : List MemWaiting) (i : ℕ) (d : MemWaiting) (xs ys : List MemRoom) → i < length ws → once (waiting_of kept xs (drop i ws)) ≡ true → once (waiting_of kept ys (drop (i + 1) ws)) ≡ true
once_behind kept ws i d xs ys l o =
    let rest = drop (suc i) ws in
    let parts = and_parts (not (waits (get_or ws i d).index (waiting_of kept xs rest))) (once (waiting_of kept xs rest)) (rw (drop-cons ws i d) at o) in
    rw add-one (once_of kept ys xs rest ∙ parts.1)

pub waits_below : (n : ℕ) (kept : List MemKept) (xs : List MemRoom) (ws : List MemWaiting) → All (λ (w : Waiting). w.index < n) (waiting_of kept xs ws) → All (λ (w : MemWaiting). w.index < n) ws
waits_below n kept xs ws h = λ k d l.
    (let t : (get_or (waiting_of kept xs ws) k (noted_of kept xs d)).index < n = h k (noted_of kept xs d) (rw length-map l) in
    let e : get_or (waiting_of kept xs ws) k (noted_of kept xs d) ≡ noted_of kept xs (get_or ws k d) = get_or-map (noted_of kept xs) ws k d (noted_of kept xs d) l in
    let i = ap (λ (w : Waiting). w.index) e in
    omega (arith, t, i))

none_wait : (f : MemFace) → f.waits.notes.items ≡ [] → (face_of f).waiting ≡ []
none_wait f e = rw e refl

-- a disk of which nothing waits
pub settled_is : (f : MemFace) → f.waits.notes.items ≡ [] → AreRooms f.rooms → AreWaits f.waits → IsMemFace f
settled_is f n r w = record { count = length_seen f.rooms r; waiting = rw (none_wait f n) (λ k d l. absurd (omega arith)); rooms = r; once = rw (none_wait f n) refl; waits = w }

-- a sector that is noted
once_noted : (ws : List Waiting) (i : ℕ) (c : Cell) → once ws ≡ true → once (noted ws i c) ≡ true
once_noted ws i c o = cond_both (waits i ws) ws (ws ++ record { index = i; was = c } ∷ []) (λ ws. once ws ≡ true) (λ _. o) (λ f. once_push ws (record { index = i; was = c }) o f)

abbrev IsBelow : Waiting → Type 0
IsBelow w = w.index < sectors

noted_below : (ws : List Waiting) (i : ℕ) (c : Cell) → All IsBelow ws → i < sectors → All IsBelow (noted ws i c)
noted_below ws i c h l = cond_both (waits i ws) ws (ws ++ record { index = i; was = c } ∷ []) (All IsBelow) (λ _. h) (λ _. All-push IsBelow ws (record { index = i; was = c }) h l)

-- a disk with a sector written
pub written_is : (old new : MemFace) (i : ℕ) (bytes : List ℕ) → IsMemFace old → i < sectors → face_of new ≡ after (face_of old) (Write i bytes) → AreRooms new.rooms → AreWaits new.waits → IsMemFace new
written_is old new i bytes h l same r p =
    let ws = (face_of old).waiting in
    let w : (face_of new).waiting ≡ noted ws i (cell (face_of old) i) = ap (λ (f : Face). f.waiting) same in
    record {
      count = length_seen new.rooms r;
      waiting = rw w (noted_below ws i (cell (face_of old) i) h.waiting l);
      rooms = r;
      once = rw w (once_noted ws i (cell (face_of old) i) h.once);
      waits = p;
    }

-- a disk of which a sector reads as something else
pub lied_is : (old new : MemFace) (i : ℕ) (r : Option (List ℕ)) → IsMemFace old → face_of new ≡ lied (face_of old) i r → AreRooms new.rooms → AreWaits new.waits → IsMemFace new
unfolding lied
lied_is old new i r h same m p =
    let x : (face_of new).waiting ≡ (face_of old).waiting = ap (λ (f : Face). f.waiting) same in
    record { count = length_seen new.rooms m; waiting = rw x h.waiting; rooms = m; once = rw x h.once; waits = p }

was_hidden : (kept : List MemKept) (w : MemWaiting) (room : MemRoom) → was_of kept w (hidden room) ≡ was_of kept w room
unfolding was_of
was_hidden kept w room = refl

hidden_cell : (room : MemRoom) → room_of (hidden room) ≡ record (room_of room) { reads = None }
unfolding room_of
hidden_cell room = refl

abbrev faced : List MemRoom → List Waiting → Face
faced xs ws = record { cells = map room_of xs; waiting = ws }

pub lied_room : (xs ys : List MemRoom) (was now : List Waiting) (i : ℕ) (x : MemRoom) (r : Option (List ℕ)) → i < length xs → ys ≡ set xs i x → room_of x ≡ record (room_of (get_or xs i blank_room)) { reads = r } → now ≡ was → faced ys now ≡ lied (faced xs was) i r
unfolding lied
lied_room xs ys was now i x r l e h s =
    let there = seen_here xs i l in
    same_face _ _ _ _
    (ap (map room_of) e ∙ (map-set room_of xs i x ∙ ap (set (map room_of xs) i) (h ∙ ap (λ (c : Cell). (let y : Cell = record c { reads = r } in y)) (sym there))))
    s

-- one of those that wait, where a room changes of which the same is told
was_set : (kept : List MemKept) (xs : List MemRoom) (i : ℕ) (x : MemRoom) (w : MemWaiting) → i < length xs → was_of kept w x ≡ was_of kept w (get_or xs i blank_room) → was_of kept w (get_or (set xs i x) w.index blank_room) ≡ was_of kept w (get_or xs w.index blank_room)
was_set kept xs i x w l e = elim (cases_eq w.index i) [
  | inl s ↦ ap (λ k. was_of kept w (get_or (set xs i x) k blank_room)) s ∙ (ap (was_of kept w) (get_or-set_same xs i x blank_room l) ∙ (e ∙ ap (λ k. was_of kept w (get_or xs k blank_room)) (sym s)))
  | inr d ↦ ap (was_of kept w) (get_or-set_other xs i w.index x blank_room d)
]

hidden_waits : (kept : List MemKept) (xs : List MemRoom) (i : ℕ) (ws : List MemWaiting) → i < length xs → waiting_of kept (set xs i (hidden (get_or xs i blank_room))) ws ≡ waiting_of kept xs ws
hidden_waits kept xs i [] l = refl
hidden_waits kept xs i (w ∷ ws) l =
    let x = hidden (get_or xs i blank_room) in
    ap (λ (c : Cell). is_in w c ∷ waiting_of kept (set xs i x) ws) (was_set kept xs i x w l (was_hidden kept w (get_or xs i blank_room)))
    ∙ ap (λ r. noted_of kept xs w ∷ r) (hidden_waits kept xs i ws l)

pub hidden_face : (xs ys : List MemRoom) (waits : MemWaits) (i : ℕ) → i < length xs → ys ≡ set xs i (hidden (get_or xs i blank_room))
    → let f : Face = record { cells = map room_of xs; waiting = waiting_in waits xs } in let g : Face = record { cells = map room_of ys; waiting = waiting_in waits ys } in g ≡ lied f i None
hidden_face xs ys waits i l e =
    let was = get_or xs i blank_room in
    lied_room xs ys (waiting_in waits xs) (waiting_in waits ys) i (hidden was) None l e (hidden_cell was) (ap (waiting_in waits) e ∙ hidden_waits waits.kept.items xs i waits.notes.items l)

-- the digit of a sector, from one of those that wait on
digit_cons : (code k : ℕ) (w : Waiting) (ws : List Waiting) → digit_at code k (w ∷ ws) ≡ cond (eqb w.index k) (code % 3) (digit_at (code / 3) k ws)
unfolding digit_at
digit_cons code k w ws = refl

digit_step : (code k : ℕ) (kept : List MemKept) (xs : List MemRoom) (ws : List MemWaiting) (i : ℕ) (d : MemWaiting) → i < length ws
    → digit_at code k (waiting_of kept xs (drop i ws)) ≡ cond (eqb (get_or ws i d).index k) (code % 3) (digit_at (code / 3) k (waiting_of kept xs (drop (i + 1) ws)))
digit_step code k kept xs ws i d l = rw (add-one, drop-cons ws i d) (digit_cons code k (noted_of kept xs (get_or ws i d)) (waiting_of kept xs (drop (suc i) ws)))

pub digit_here : (code k : ℕ) (kept : List MemKept) (xs : List MemRoom) (ws : List MemWaiting) (i : ℕ) (d : MemWaiting) → i < length ws → eqb (get_or ws i d).index k ≡ true → digit_at code k (waiting_of kept xs (drop i ws)) ≡ code % 3
digit_here code k kept xs ws i d l e = digit_step code k kept xs ws i d l ∙ ap (λ b. cond b (code % 3) (digit_at (code / 3) k (waiting_of kept xs (drop (i + 1) ws)))) e

pub digit_later : (code k : ℕ) (kept : List MemKept) (xs : List MemRoom) (ws : List MemWaiting) (i : ℕ) (d : MemWaiting) → i < length ws → eqb (get_or ws i d).index k ≡ false → digit_at code k (waiting_of kept xs (drop i ws)) ≡ digit_at (code / 3) k (waiting_of kept xs (drop (i + 1) ws))
digit_later code k kept xs ws i d l e = digit_step code k kept xs ws i d l ∙ ap (λ b. cond b (code % 3) (digit_at (code / 3) k (waiting_of kept xs (drop (i + 1) ws)))) e

pub digit_past : (code k : ℕ) (kept : List MemKept) (xs : List MemRoom) (ws : List MemWaiting) (i : ℕ) → length ws ≤ i → digit_at code k (waiting_of kept xs (drop i ws)) ≡ 0
unfolding digit_at
digit_past code k kept xs ws i l = rw (drop_all i ws l) refl
