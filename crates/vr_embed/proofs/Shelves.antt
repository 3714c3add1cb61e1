-- The sectors of a shelf stay sectors.
use Rattle.std.proofs.Common.{ℕ, ◌+◌, ◌≡◌, ◌<◌, ◌≤◌, refl, ap, ◌∙◌, arith, true, false, cond, eqb, ◌||◌, List, [], ◌∷◌, ◌++◌, length, get_or, set, drop, drop-cons, zero, suc, add-one, subst}
use Rattle.std.specs.Prelude.{map, replicate}
use Rattle.std.specs.List.{list_any, All, AllByRecursion}
use Rattle.std.specs.Vec.{vec_capacity}
use Rattle.std.proofs.lemmas.Bool.{cond_both}
use Rattle.std.proofs.lemmas.List.{length-replicate, map-append, map-set}
use Rattle.std.proofs.lemmas.List.Elements.{All-from_recursion, All-replicate, recursion_from_All}
use Rattle.vr_disk.specs.DiskState.{Cell, Face, IsCell, IsContent, IsWaiting, Waiting, Write, after, noted, settle, settled, waits}
use Rattle.vr_disk.specs.Regions.{sectors}
use Rattle.vr_disk.proofs.Faces.{face_after, face_settled}
use Rattle.vr_mem.specs.Seen.{copies, once, zero_cell}
use Rattle.vr_mem.proofs.Once.{once_push, room_left}
use Rattle.vr_embed.specs.declared.sectors.Sectors.{Sectors}
use Rattle.vr_embed.specs.declared.sectors.Slot.{Slot}
use Rattle.vr_embed.specs.declared.sectors.Unsynced.{Unsynced}
use Rattle.vr_embed.specs.Seen.{AreSectors, cell_of, face_of, waiting_of}

-- one sector more is taken back
pub take_step : (ws : List Unsynced) (i : ℕ) (d : Unsynced) (slots : List Slot) → i < length ws
    → settled 0 (map waiting_of (drop i ws)) (map cell_of slots) ≡ settled 0 (map waiting_of (drop (i + 1) ws)) (map cell_of (set slots (get_or ws i d).index (get_or ws i d).was))
take_step ws i d slots l = rw (add-one, drop-cons ws i d, map-set) refl

pub waits_of : (index : ℕ) (ws : List Unsynced) → waits index (map waiting_of ws) ≡ list_any (λ w. eqb w.index index) ws
waits_of index [] = refl
waits_of index (w ∷ ws) = ap (λ b. eqb w.index index || b) (waits_of index ws)

below_from : (n : ℕ) (ws : List Unsynced) → AllByRecursion (λ (w : Waiting). w.index < n) (map waiting_of ws) → AllByRecursion (λ (w : Unsynced). w.index < n) ws
below_from n [] h = tt
below_from n (w ∷ ws) h = (h.0, below_from n ws h.1)

-- each that waits is a sector
waiting_below : (n : ℕ) (ws : List Waiting) → All IsWaiting ws → n ≡ sectors → All (λ (w : Waiting). w.index < n) ws
waiting_below n ws h e = λ k d l. (let i = (h k d l).index in omega arith)

pub unsynced_below : (n : ℕ) (ws : List Unsynced) → All IsWaiting (map waiting_of ws) → n ≡ sectors → All (λ (w : Unsynced). w.index < n) ws
unsynced_below n ws h e = All-from_recursion (λ (w : Unsynced). w.index < n) ws (below_from n ws (recursion_from_All (λ (w : Waiting). w.index < n) (map waiting_of ws) (waiting_below n (map waiting_of ws) h e)))

-- there is room for one that doesn't wait yet
pub room_for : (s : Sectors) (index : ℕ) → AreSectors s → index < sectors → list_any (λ w. eqb w.index index) s.unsynced.items ≡ false → length (map waiting_of s.unsynced.items) < sectors
room_for s index h l absent =
    room_left sectors (face_of s).waiting index h.once (waiting_below sectors (face_of s).waiting h.face.waiting refl) l (waits_of index s.unsynced.items ∙ absent)

pub noted_seen : (ws : List Unsynced) (index : ℕ) (was : Slot)
    → map waiting_of (cond (list_any (λ w. eqb w.index index) ws) ws (ws ++ record { index = index; was = was } ∷ [])) ≡ noted (map waiting_of ws) index (cell_of was)
noted_seen ws index was = rw waits_of
    (elim (list_any (λ w. eqb w.index index) ws) as (λ b. map waiting_of (cond b ws (ws ++ record { index = index; was = was } ∷ [])) ≡ cond b (map waiting_of ws) (map waiting_of ws ++ record { index = index; was = cell_of was } ∷ [])) [
      | true ↦ refl
      | false ↦ map-append waiting_of ws (record { index = index; was = was } ∷ [])
    ])

once_noted : (ws : List Waiting) (w : Waiting) → once ws ≡ true → once (cond (waits w.index ws) ws (ws ++ w ∷ [])) ≡ true
once_noted ws w o = cond_both (waits w.index ws) ws (ws ++ w ∷ []) (λ ws. once ws ≡ true) (λ _. o) (λ f. once_push ws w o f)

-- sectors, one of which was written
pub written_are : (old new : Sectors) (index : ℕ) (bytes : List ℕ) → AreSectors old → index < sectors → IsContent bytes → face_of new ≡ after (face_of old) (Write index bytes) → sectors ≤ vec_capacity new.unsynced → AreSectors new
written_are old new index bytes h l n same room = record {
  face = rw same (face_after (face_of old) (Write index bytes) h.face (l, n));
  once = ap (λ (f : Face). once f.waiting) same ∙ once_noted (face_of old).waiting _ h.once;
  room = room;
}

-- sectors that were taken back
pub lost_are : (old new : Sectors) → AreSectors old → face_of new ≡ settle 0 (face_of old) → new.unsynced.items ≡ [] → sectors ≤ vec_capacity new.unsynced → AreSectors new
lost_are old new h same none room = record { face = rw same (face_settled 0 (face_of old) h.face); once = rw none refl; room = room }

-- ---- a shelf of zeros

map_replicate : {X Y : Type 0} → (f : X → Y) (n : ℕ) (x : X) → map f (replicate n x) ≡ replicate n (f x)
map_replicate f zero x = refl
map_replicate f (suc n) x = ap (λ ys. f x ∷ ys) (map_replicate f n x)

-- so many slots of zeros
pub zeros_seen : (items : List Slot) (slot : Slot) → items ≡ replicate sectors slot → cell_of slot ≡ zero_cell → map cell_of items ≡ copies sectors zero_cell
unfolding copies
zeros_seen items slot e z = ap (map cell_of) e ∙ map_replicate cell_of sectors slot ∙ ap (replicate sectors) z

zero_byte : (n i : ℕ) → get_or (replicate n 0) i 0 < 256
zero_byte zero i = omega arith
zero_byte (suc n) zero = omega arith
zero_byte (suc n) (suc i) = zero_byte n i

zeros_are : (n : ℕ) → n ≡ 512 → IsContent (replicate n 0)
zeros_are n e = record { size = length-replicate {A = ℕ} n 0 ∙ e; each = zero_byte n }

zero_is : IsCell zero_cell
unfolding zero_cell copies
zero_is =
    let z = zeros_are 512 refl in
    record { truth = z; reads = λ b e. let same : replicate 512 0 ≡ b = cc in subst IsContent same z; before = z }

pub sectors_made : (s : Sectors) → map cell_of s.slots.items ≡ copies sectors zero_cell → s.unsynced.items ≡ [] → sectors ≤ vec_capacity s.unsynced → AreSectors s
unfolding copies
sectors_made s e none room = record {
  face = record {
    count = ap length e ∙ length-replicate {A = Cell} sectors zero_cell;
    cells = rw e (All-replicate IsCell sectors zero_cell zero_is);
    waiting = rw none (λ k d l. absurd (omega arith));
  };
  once = rw none refl;
  room = room;
}
