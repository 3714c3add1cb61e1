-- Prepares are written at their new places, one slot after another.
use Rattle.std.proofs.Common.{ℕ, zero, suc, ◌+◌, ◌-◌, ◌≤◌, ◌<◌, ◌≡◌, arith, refl, sym, ap, ◌∙◌, ◌*◌, Bool, true, false, ◌&&◌, ◌||◌, cond, List, [], ◌∷◌, ◌++◌, length, Option, Some, None, append_assoc, append-nil, length-append, get_or, subst}
use Rattle.std.specs.Prelude.{IfSome, replicate}
use Rattle.std.specs.Option.{option_map}
use Rattle.std.proofs.lemmas.List.{get_or-replicate, length-replicate}
use Rattle.vr_base.specs.Bytes.{is_zeros}
use Rattle.vr_disk.specs.DiskState.{Call, Sync, Cell, Disk, Face, IsFace, Runs, RunsFrom, after_all, reads}
use Rattle.vr_disk.specs.Regions.{prepare_place, prepare_sectors, sectors}
use Rattle.vr_disk.specs.Sectors.{behind, together, writes}
use Rattle.vr_disk.proofs.Faces.{there}
use Rattle.vr_disk.proofs.Frames.{frame_all}
use Rattle.vr_disk.proofs.Running.{RunsFrom_then, RunsFrom_stopped, Runs_stopped}
use Rattle.vr_disk.proofs.Telling.{runs_const}
use Rattle.vr_disk.proofs.Together.{together_same}
use Rattle.vr_rings.specs.Held.{is_prepare}
use Rattle.vr_rings.specs.Moving.{IsMoved, all_moved, is_movable, move_calls, moved_of, moves, relocated, slot_moves}
use Rattle.vr_rings.specs.Slots.{padded, prepare_reading}
use Rattle.vr_rings.proofs.Moving.{moves_within, spared}
use Rattle.vr_rings.proofs.Spelling.{whole_front}

true_false : (b : Bool) → b ≡ true → b ≡ false → ⊥
true_false b e f = let no = sym e ∙ f in cc

-- ---- what is written for one slot

moved_read : (r m : Bool) (bytes : List ℕ) (o : Option (List ℕ)) → o ≡ cond r (Some bytes) None → m ≡ is_movable bytes → moved_of o ≡ cond (r && m) bytes (replicate 4096 255)
moved_read true m bytes o e f = ap moved_of e ∙ ap (λ b. cond b bytes (replicate 4096 255)) (sym f)
moved_read false m bytes o e f = ap moved_of e

pub read_moved : (t : Option Disk) (slot : ℕ) (r m : Bool) (bytes : List ℕ) → IfSome t (λ d. prepare_reading 1 d.face slot ≡ cond r (Some bytes) None) → m ≡ is_movable bytes
    → IfSome t (λ d. relocated d.face slot ≡ cond (r && m) bytes (replicate 4096 255))
read_moved None slot r m bytes e f = tt
read_moved (Some d) slot r m bytes e f = moved_read r m bytes (prepare_reading 1 d.face slot) e f

-- bytes that are filled
pub lost_moved : (t : Option Disk) (slot : ℕ) (new : List ℕ) → IfSome t (λ d. relocated d.face slot ≡ replicate 4096 255) → new ≡ replicate 4096 255 → IfSome t (λ d. new ≡ relocated d.face slot)
lost_moved None slot new e f = tt
lost_moved (Some d) slot new e f = f ∙ sym e

-- ---- one slot after another

moves_more : (n m s : ℕ) (new : ℕ → List ℕ) → moves s (n + m) new ≡ moves s n new ++ moves (s + n) m new
unfolding moves
moves_more zero m s new =
    let none : 0 + m ≡ m = omega arith in
    let at : s ≡ s + 0 = omega arith in
    ap (λ n. moves s n new) none ∙ ap (λ k. moves k m new) at
moves_more (suc n) m s new =
    let count : suc n + m ≡ suc (n + m) = omega arith in
    let first = writes (prepare_place 2 s) (prepare_sectors 2) (new s) in
    let at : s + 1 + n ≡ s + suc n = omega arith in
    ap (λ n. moves s n new) count ∙ ap (λ cs. first ++ cs) (moves_more n m (s + 1) new ∙ ap (λ k. moves (s + 1) n new ++ moves k m new) at) ∙ sym (append_assoc first (moves (s + 1) n new) (moves (s + suc n) m new))

-- one slot more
moves_one : (s : ℕ) (new : ℕ → List ℕ) → moves s 1 new ≡ writes (prepare_place 2 s) (prepare_sectors 2) (new s) ++ []
unfolding moves
moves_one s new = refl

moves_next : (k : ℕ) (new : ℕ → List ℕ) → moves 0 (k + 1) new ≡ moves 0 k new ++ writes (prepare_place 2 k) (prepare_sectors 2) (new k)
moves_next k new =
    let at : 0 + k ≡ k = omega arith in
    let one = writes (prepare_place 2 k) (prepare_sectors 2) (new k) in
    moves_more k 1 0 new ∙ (ap (λ s. moves 0 k new ++ moves s 1 new) at ∙ ap (λ cs. moves 0 k new ++ cs) (moves_one k new ∙ append-nil one))

moves_all : (k : ℕ) (new : ℕ → List ℕ) → k ≤ 64 → moves 0 k new ++ moves k (64 - k) new ≡ moves 0 64 new
moves_all k new l =
    let at : k ≡ 0 + k = omega arith in
    let all : k + (64 - k) ≡ 64 = omega arith in
    ap (λ s. moves 0 k new ++ moves s (64 - k) new) at ∙ (sym (moves_more k (64 - k) 0 new) ∙ ap (λ n. moves 0 n new) all)

-- the old prepare of a slot reads as before, whatever was written at new places
old_reads : (k slot : ℕ) (new : ℕ → List ℕ) (f : Face) → k ≤ 64 → slot < 64 → prepare_reading 1 (after_all f (moves 0 k new)) slot ≡ prepare_reading 1 f slot
old_reads k slot new f l s =
    let within = moves_within new k 0 (omega arith) in
    ap (option_map (padded 1))
    (together_same (prepare_sectors 1) (prepare_place 1 slot) f (after_all f (moves 0 k new)) (λ i a b. ap (λ (c : Cell). c.reads) (frame_all (moves 0 k new) f i (spared 0 i (moves 0 k new) (omega arith) within))))

same_moves : (k : ℕ) (f : Face) → k < 64 → slot_moves (after_all f (moves 0 k (relocated f))) k ≡ slot_moves f k
same_moves k f l = ap (λ o. writes (prepare_place 2 k) (prepare_sectors 2) (moved_of o)) (old_reads k k (relocated f) f (omega arith) l)

with_next : (k : ℕ) (f : Face) → k < 64 → moves 0 k (relocated f) ++ slot_moves (after_all f (moves 0 k (relocated f))) k ≡ moves 0 (k + 1) (relocated f)
with_next k f l = ap (λ cs. moves 0 k (relocated f) ++ cs) (same_moves k f l) ∙ sym (moves_next k (relocated f))

-- the same calls
runs_same : (cs ds : Face → List Call) (a b : Option Disk) (ok : Bool) → ((f : Face) → cs f ≡ ds f) → RunsFrom cs a b ok → RunsFrom ds a b ok
runs_same cs ds None b ok e r = r
runs_same cs ds (Some d) b ok e r = subst (λ cs. Runs cs (Some d) b ok) (e d.face) r

-- calls that stopped, and others that would have come after them
runs_stopped : (cs rest ds : Face → List Call) (a b : Option Disk) → ((f : Face) → cs f ++ rest f ≡ ds f) → RunsFrom cs a b false → RunsFrom ds a b false
runs_stopped cs rest ds None b e r = r
runs_stopped cs rest ds (Some d) b e r = subst (λ cs. Runs cs (Some d) b false) (e d.face) (Runs_stopped (cs d.face) (rest d.face) (Some d) b r)

-- the prepares of so many slots were written
pub record Moved (k : ℕ) (first t : Option Disk) : Type 0 where
  pub ran : RunsFrom (λ f. moves 0 k (relocated f)) first t true

next : (k : ℕ) (first t u : Option Disk) (ok : Bool) → k < 64 → Moved k first t → RunsFrom (λ f. slot_moves f k) t u ok → RunsFrom (λ f. moves 0 (k + 1) (relocated f)) first u ok
next k first t u ok l m r =
    let then : RunsFrom (λ f. moves 0 k (relocated f) ++ slot_moves (after_all f (moves 0 k (relocated f))) k) first u ok =
    RunsFrom_then (λ f. moves 0 k (relocated f)) (λ f. slot_moves f k) first t u ok m.ran r in
    runs_same (λ f. moves 0 k (relocated f) ++ slot_moves (after_all f (moves 0 k (relocated f))) k) (λ f. moves 0 (k + 1) (relocated f)) first u ok (λ f. with_next k f l) then

pub moving_starts : (t : Option Disk) → Moved 0 t t
unfolding moves
moving_starts None = record { ran = refl }
moving_starts (Some d) = record { ran = (refl, refl) }

pub moving_goes : (k : ℕ) (first t u : Option Disk) → k < 64 → Moved k first t → RunsFrom (λ f. slot_moves f k) t u true → Moved (k + 1) first u
moving_goes k first t u l m r = record { ran = next k first t u true l m r }

pub moving_stops : (k : ℕ) (first t u : Option Disk) → k < 64 → Moved k first t → RunsFrom (λ f. slot_moves f k) t u false → RunsFrom all_moved first u false
moving_stops k first t u l m r =
    runs_stopped (λ f. moves 0 (k + 1) (relocated f)) (λ f. moves (k + 1) (64 - (k + 1)) (relocated f)) all_moved first u (λ f. moves_all (k + 1) (relocated f) (omega arith)) (next k first t u false l m r)

pub moving_ends : (k : ℕ) (first t : Option Disk) → k ≡ 64 → Moved k first t → RunsFrom all_moved first t true
moving_ends k first t e m = subst (λ k. RunsFrom (λ f. moves 0 k (relocated f)) first t true) e m.ran

-- ---- and a sync

pub moved_synced : (a b c : Option Disk) (ok : Bool) → RunsFrom all_moved a b true → Runs (Sync ∷ []) b c ok → RunsFrom (λ f. move_calls (relocated f)) a c ok
moved_synced a b c ok r s = RunsFrom_then all_moved (λ f. Sync ∷ []) a b c ok r (runs_const (Sync ∷ []) b c ok s)

pub moved_not : (a b : Option Disk) → RunsFrom all_moved a b false → RunsFrom (λ f. move_calls (relocated f)) a b false
moved_not a b r = RunsFrom_stopped all_moved (λ f. Sync ∷ []) a b r

-- ---- what is written is an entry or zeros only where the old prepare is

-- bytes of 255 are no whole entry: no file has that version
lost_none : is_movable (replicate 4096 255) ≡ false
lost_none =
    elim (is_prepare (replicate 4096 255)) as (λ b. is_prepare (replicate 4096 255) ≡ b → (b || is_zeros (replicate 4096 255)) ≡ false) [
      | true ↦ λ e.
          let w = whole_front (replicate 4096 255) e in
          let lost : List ℕ = replicate 4096 255 in
          let version : get_or lost 110 0 ≡ 255 = get_or-replicate 4096 110 255 0 (omega arith) in
          absurd (omega (arith, w.2, version))
      | false ↦ λ e. refl
    ] refl

behind_size : (a r : Option (List ℕ)) (b : List ℕ) (m : ℕ) → ((x : List ℕ) → a ≡ Some x → length x ≡ 512) → ((x : List ℕ) → r ≡ Some x → length x ≡ m) → behind a r ≡ Some b → length b ≡ 512 + m
behind_size None r b m f g e = absurd cc
behind_size (Some x) None b m f g e = absurd cc
behind_size (Some x) (Some y) b m f g e = let same : x ++ y ≡ b = cc in ap length (sym same) ∙ (length-append x y ∙ (ap (λ n. n + length y) (f x refl) ∙ ap (λ n. 512 + n) (g y refl)))

-- how many bytes so many sectors have
pub together_size : (n i : ℕ) (f : Face) → IsFace f → i + n ≤ sectors → (b : List ℕ) → together i n f ≡ Some b → length b ≡ 512 * n
unfolding together
together_size zero i f h l b e = let same : [] ≡ b = cc in ap length (sym same)
together_size (suc n) i f h l b e =
    let x = behind_size (reads f i) (together (i + 1) n f) b (512 * n) (λ x r. ((there f i h (omega arith)).reads x r).size) (together_size n (i + 1) f h (omega arith)) e in
    omega arith

padded_size : (o : Option (List ℕ)) (p : List ℕ) → ((b : List ℕ) → o ≡ Some b → length b ≡ 2048) → option_map (padded 1) o ≡ Some p → length p ≡ 4096
padded_size None p f e = absurd cc
padded_size (Some b) p f e =
    let zs : List ℕ = replicate 2048 0 in
    let same : b ++ zs ≡ p = cc in
    let long = f b refl in
    let rest : length zs ≡ 2048 = length-replicate {A = ℕ} 2048 0 in
    ap length (sym same) ∙ (length-append b zs ∙ (let n : length b + length zs ≡ 4096 = omega arith in n))

prepare_size : (f : Face) (slot : ℕ) (p : List ℕ) → IsFace f → slot < 64 → prepare_reading 1 f slot ≡ Some p → length p ≡ 4096
prepare_size f slot p h l e = padded_size (together (prepare_place 1 slot) 4 f) p (λ b. together_size 4 (prepare_place 1 slot) f h (omega arith) b) e

moved_size : (o : Option (List ℕ)) → ((p : List ℕ) → o ≡ Some p → length p ≡ 4096) → length (moved_of o) ≡ 4096
moved_size None h = length-replicate {A = ℕ} 4096 255
moved_size (Some p) h = elim (is_movable p) as (λ b. length (cond b p (replicate 4096 255)) ≡ 4096) [ true ↦ h p refl | false ↦ length-replicate {A = ℕ} 4096 255 ]

moved_only : (o : Option (List ℕ)) → is_movable (moved_of o) ≡ true → o ≡ Some (moved_of o)
moved_only None e = absurd (true_false (is_movable (replicate 4096 255)) e lost_none)
moved_only (Some p) e =
    elim (is_movable p) as (λ b. is_movable (cond b p (replicate 4096 255)) ≡ true → Some p ≡ Some (cond b p (replicate 4096 255))) [
      | true ↦ λ e. refl
      | false ↦ λ e. absurd (true_false (is_movable (replicate 4096 255)) e lost_none)
    ] e

moved_all : (o : Option (List ℕ)) (p : List ℕ) → o ≡ Some p → is_prepare p ≡ true → moved_of o ≡ p
moved_all o p e w = ap moved_of e ∙ (rw w refl)

-- what is written at the new places, where what is read consists of sectors
pub relocated_moved : (f : Face) (slot : ℕ) → IsFace f → slot < 64 → IsMoved f slot (relocated f slot)
relocated_moved f slot h l =
    let o = prepare_reading 1 f slot in
    record { size = moved_size o (λ p. prepare_size f slot p h l); only = moved_only o; all = λ p e w. moved_all o p e w }
