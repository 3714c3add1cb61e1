-- Ops one after the other, as a replica opens.
use Rattle.std.proofs.Common.{arith, ℕ, zero, suc, ◌≡◌, ◌≤◌, ◌<◌, ◌+◌, ◌-◌, ◌^◌, ◌∙◌, ◌⊎◌, inl, inr, refl, sym, ap, subst, List, [], ◌∷◌, ◌++◌, length, drop, Option, Some, None, true, false, cond, Result, Ok, Err, add-one}
use Rattle.std.specs.Prelude.{slice_get, filter, nat_le}
use Rattle.std.specs.List.{range_with_len}
use Rattle.std.proofs.lemmas.Bool.{leb-false}
use Rattle.std.proofs.lemmas.List.{drop_all}
use Rattle.std.proofs.lemmas.List.FromFn.{length-range_with_len}
use Rattle.vr_disk.specs.DiskState.{Disk, Face}
use Rattle.vr_disk.specs.declared.regions.TheConstants.{SLOTS}
use Rattle.vr_header.specs.declared.header.Header.{Header}
use Rattle.vr_header.specs.declared.part.Part.{Part}
use Rattle.vr_header.specs.Made.{Whole}
use Rattle.vr_msg.specs.declared.output.Output.{Output}
use Rattle.vr_header.specs.Parts.{has_header}
use Rattle.vr_super.specs.Copies.{SuperValue, IsGood}
use Rattle.vr_rules.specs.Replica.{Replica, version, with_part, knows}
use Rattle.vr_rules.specs.Steps.{Setting, Step, Word, ◌⨾◌, each, when, quiet, after_all}
use Rattle.vr_rules.specs.Sectors.{sectors_by}
use Rattle.vr_rules.specs.Words.{entry_of}
use Rattle.vr_rules.specs.Opening.{recover_old, recover_op, old_part, old_headers}
use Rattle.vr_rules.specs.Found.{IsOf, Lists}
use Rattle.vr_rules.proofs.Slots.{Right, value_is}
use Rattle.vr_rules.proofs.Openings.{first_is, partly_part, IsOld, old_right}
use Rattle.vr_rules.proofs.SavesFound.{set_keeps, known_old, only_later}
use Rattle.vr_disk.specs.declared.fault.Halt.{Halt}
use Rattle.vr_rules.specs.Does.{Finds, Does, LeftBy, Going}
use Rattle.vr_opening.specs.Finding.{IsOpening, IsOpeningOld, DoesAt, recover_listed, window_end, window_of}
use Rattle.vr_window.proofs.Lists.{found_is}
use Rattle.vr_rules.proofs.Versions.{part_stays}
use Rattle.vr_rules.proofs.Stepping.{does_reading, change_by, going_goes, going_stops, going_ends, going_begins}

pub old_then : (h : Header) (e : Option Whole) (p : Part) (r q : Replica) (d d' : Option Disk) (o : List Output) → Finds (version r) (entry_of h) d d' e → p ≡ old_part h e → q ≡ with_part h.op p r
    → Does (recover_old h) r q d d' o o (Ok tt)
unfolding recover_old
old_then h e p r q d d' o f i j = does_reading (entry_of h) _ e r q d d' d' o o (Ok tt) f (change_by _ r q d' o (rw (← i) j) (part_stays h.op (old_part h e) r))

-- the header at a place of the value's list
is_old : (v : SuperValue) (i : ℕ) (h : Header) → IsGood v → slice_get v.headers i ≡ Some h → IsOld v h
is_old v i h g e =
    let w = value_is v g in
    let is = w.each i h e in
    let op = is.1.at_op in
    (subst (λ j. IsOf v j h) (sym op) is, omega arith)

pub old_window : (i : ℕ) (h : Header) (r : Replica) → IsOpeningOld i r → slice_get r.saved.headers i ≡ Some h → h.op ≤ r.saved.fields.checkpoint → (r.first ≤ h.op) × (h.op - r.first < length r.parts)
unfolding IsOpeningOld
old_window i h r o e l =
    let w = value_is r.saved o.good in
    let reach = w.reach in
    let first = first_is r.saved r.saved.fields.checkpoint r o.partly in
    let size = o.partly.size in
    let old = is_old r.saved i h o.good e in
    let from = old.1 in
    (omega (arith, first), omega (arith, first))

drop_at : {X : Type 0} (xs : List X) (i : ℕ) (x : X) → slice_get xs i ≡ Some x → drop i xs ≡ x ∷ drop (i + 1) xs
drop_at [] i x e = absurd cc
drop_at (y ∷ ys) zero x e = let same : y ≡ x = cc in rw same refl
drop_at (y ∷ ys) (suc i) x e = rw add-one (rw add-one at (drop_at ys i x e))

-- it is known now, or a later header names it
next_known : (c : ℕ) (h : Header) (hs : List Header) (p : Part) (r : Replica) → r.first ≤ h.op → h.op < r.first + length r.parts → has_header p ≡ true
    → (knows r c ≡ true) ⊎ Lists c (h ∷ hs) → (knows (with_part h.op p r) c ≡ true) ⊎ Lists c hs
next_known c h hs p r a b is (inl e) = inl (set_keeps c h.op p r a b (λ _. is) (inl e))
next_known c h hs p r a b is (inr (zero, g, at, op)) = let same : h ≡ g = cc in inl (set_keeps c h.op p r a b (λ _. is) (inr (sym op ∙ sym (ap (λ (x : Header). x.op) same))))
next_known c h hs p r a b is (inr (suc i, g, at, op)) = inr (i, g, at, op)

pub opening_old : (i : ℕ) (h : Header) (e : Option Whole) (p : Part) (r q : Replica) → IsOpeningOld i r → slice_get r.saved.headers i ≡ Some h → h.op ≤ r.saved.fields.checkpoint
    → p ≡ old_part h e → q ≡ with_part h.op p r → IsOpeningOld (i + 1) q
unfolding IsOpeningOld with_part
opening_old i h e p r q o at l k m =
    let v : SuperValue = r.saved in
    let w = value_is v o.good in
    let old = is_old v i h o.good at in
    let from = old.1 in
    let reach = w.reach in
    let first = first_is v v.fields.checkpoint r o.partly in
    let size = o.partly.size in
    let right : Right v h.op p = rw k (old_right v h e old) in
    let known : has_header p ≡ true = rw k (known_old h e) in
    let rest : drop i v.headers ≡ h ∷ drop (i + 1) v.headers = drop_at v.headers i h at in
    rw m (record {
      good = o.good;
      partly = partly_part v v.fields.checkpoint v.fields.checkpoint h.op p r w o.partly right from (omega arith) (inl (omega arith));
      top = λ a b. next_known v.fields.checkpoint h (drop (i + 1) v.headers) p r (omega (arith, first)) (omega (arith, first)) known
          (subst (λ hs. (knows r v.fields.checkpoint ≡ true) ⊎ Lists v.fields.checkpoint hs) rest (o.top a b));
    })

pub old_skipped : (i : ℕ) (h : Header) (r : Replica) → IsOpeningOld i r → slice_get r.saved.headers i ≡ Some h → nat_le h.op r.saved.fields.checkpoint ≡ false → IsOpeningOld (i + 1) r
unfolding IsOpeningOld
old_skipped i h r o at l =
    let v : SuperValue = r.saved in
    let rest : drop i v.headers ≡ h ∷ drop (i + 1) v.headers = drop_at v.headers i h at in
    record {
      good = o.good;
      partly = o.partly;
      top = λ a b. only_later v.fields.checkpoint h (drop (i + 1) v.headers) r (leb-false h.op v.fields.checkpoint l)
          (subst (λ hs. (knows r v.fields.checkpoint ≡ true) ⊎ Lists v.fields.checkpoint hs) rest (o.top a b));
    }

-- ---- one for each of a list

one_is : {X : Type 0} (xs : List X) (i : ℕ) (x y : X) → slice_get xs i ≡ Some x → slice_get xs i ≡ Some y → x ≡ y
one_is xs i x y a b = let e : Some x ≡ Some y = sym a ∙ b in cc

one_there : {X : Type 0} (xs : List X) (i : ℕ) → i < length xs → (x : X) × (slice_get xs i ≡ Some x)
one_there [] i l = absurd (omega arith)
one_there (x ∷ xs) zero l = (x, refl)
one_there (x ∷ xs) (suc i) l = one_there xs i (omega arith)

pub going_at : {X : Type 0} (w : X → Word Face) (xs : List X) (i : ℕ) (r r' r'' : Replica) (d d' d'' : Option Disk) (o o' o'' : List Output)
    → i < length xs → Going w xs i r r' d d' o o' → DoesAt w xs i r' r'' d' d'' o' o'' (Ok tt) → Going w xs (i + 1) r r'' d d'' o o''
unfolding DoesAt
going_at w xs i r r' r'' d d' d'' o o' o'' l h k =
    let t = one_there xs i l in
    going_goes w xs i t.0 r r' r'' d d' d'' o o' o'' l h (rw (found_is xs i t.0 t.0 (sym t.1)) (k t.0 t.1))

pub going_at_stops : {X : Type 0} (w : X → Word Face) (xs : List X) (i : ℕ) (r r' r'' s : Replica) (d d' d'' : Option Disk) (o o' o'' p : List Output) (e : Halt)
    → i < length xs → Going w xs i r r' d d' o o' → DoesAt w xs i r' r'' d' d'' o' o'' (Err e) → Does (each w xs) r s d d'' o p (Err e)
unfolding DoesAt
going_at_stops w xs i r r' r'' s d d' d'' o o' o'' p e l h k =
    let t = one_there xs i l in
    going_stops w xs i t.0 r r' r'' s d d' d'' o o' o'' p e l h (rw (found_is xs i t.0 t.0 (sym t.1)) (k t.0 t.1))

pub ruleset goings = (going_begins, going_at, going_at_stops, going_ends)

-- ---- the ops of the checkpoint

-- each header of a list that passes a test
each_passing : (v : SuperValue) (hs : List Header) (s : Setting Face) (r : Replica) (f : Face) → each (recover_listed v) hs s r f ≡ each recover_old (filter (λ h. nat_le h.op v.fields.checkpoint) hs) s r f
unfolding each ◌⨾◌ quiet after_all
each_passing v [] s r f = refl
each_passing v (h ∷ hs) s r f =
    elim (nat_le h.op v.fields.checkpoint) as (λ b. (when {F = Face} b (recover_old h) ⨾ each (recover_listed v) hs) s r f
    ≡ each recover_old (cond b (h ∷ filter (λ g. nat_le g.op v.fields.checkpoint) hs) (filter (λ g. nat_le g.op v.fields.checkpoint) hs)) s r f) [
      | true ↦
          let a : Step = recover_old h s r f in
          ap (λ (b : Step). record { replica = b.replica; script = a.script ++ b.script }) (each_passing v hs s a.replica (after_all s f a.script))
      | false ↦ each_passing v hs s r f
    ]

does_alike : (w u : Word Face) (r r' : Replica) (d d' : Option Disk) (o o' : List Output) (result : Result (Unit {0}) Halt) → ((f : Face) → w (sectors_by (version r)) r f ≡ u (sectors_by (version r)) r f)
    → Does w r r' d d' o o' result → Does u r r' d d' o o' result
does_alike w u r r' d d' o o' result same h = record { untold = h.untold; told = λ x e. subst (λ s. LeftBy (version r) s r' x d' o o' result) (same x.face) (h.told x e); same = h.same }

pub olds_passing : (v : SuperValue) (r r' : Replica) (d d' : Option Disk) (o o' : List Output) (result : Result (Unit {0}) Halt) → Does (each (recover_listed v) v.headers) r r' d d' o o' result
    → Does (each recover_old (old_headers v)) r r' d d' o o' result
olds_passing v r r' d d' o o' result h = does_alike (each (recover_listed v) v.headers) (each recover_old (old_headers v)) r r' d d' o o' result (λ f. each_passing v v.headers (sectors_by (version r)) r f) h

pub olds_end : (v : SuperValue) (i : ℕ) (r r' : Replica) (d d' : Option Disk) (o o' : List Output) → length v.headers ≤ i → Going (recover_listed v) v.headers i r r' d d' o o'
    → Does (each recover_old (old_headers v)) r r' d d' o o' (Ok tt)
olds_end v i r r' d d' o o' l h = olds_passing v r r' d d' o o' (Ok tt) (going_ends (recover_listed v) v.headers i r r' d d' o o' l h)

pub olds_at : (v u : SuperValue) (i : ℕ) (r r' r'' : Replica) (d d' d'' : Option Disk) (o o' o'' : List Output)
    → i < length v.headers → u ≡ v → Going (recover_listed v) v.headers i r r' d d' o o' → DoesAt (recover_listed u) u.headers i r' r'' d' d'' o' o'' (Ok tt) → Going (recover_listed v) v.headers (i + 1) r r'' d d'' o o''
olds_at v u i r r' r'' d d' d'' o o' o'' l e h k = going_at (recover_listed v) v.headers i r r' r'' d d' d'' o o' o'' l h (subst (λ x. DoesAt (recover_listed x) x.headers i r' r'' d' d'' o' o'' (Ok tt)) e k)

pub olds_stopped : (v u : SuperValue) (i : ℕ) (r r' r'' s : Replica) (d d' d'' : Option Disk) (o o' o'' p : List Output) (e : Halt)
    → i < length v.headers → u ≡ v → Going (recover_listed v) v.headers i r r' d d' o o' → DoesAt (recover_listed u) u.headers i r' r'' d' d'' o' o'' (Err e) → Does (each recover_old (old_headers v)) r s d d'' o p (Err e)
olds_stopped v u i r r' r'' s d d' d'' o o' o'' p e l q h k =
    olds_passing v r s d d'' o p (Err e) (going_at_stops (recover_listed v) v.headers i r r' r'' s d d' d'' o o' o'' p e l h
    (subst (λ x. DoesAt (recover_listed x) x.headers i r' r'' d' d'' o' o'' (Err e)) q k))

pub olds_found : (i c : ℕ) (r : Replica) → IsOpeningOld i r → length r.saved.headers ≤ i → c ≡ r.saved.fields.checkpoint → IsOpening c r
unfolding IsOpeningOld IsOpening
olds_found i c r o l e =
    rw e (record {
      good = o.good;
      partly = o.partly;
      top = λ a b. last (subst (λ hs. (knows r r.saved.fields.checkpoint ≡ true) ⊎ Lists r.saved.fields.checkpoint hs) (drop_all i r.saved.headers l) (o.top a b));
    })
  where
    last : (knows r r.saved.fields.checkpoint ≡ true) ⊎ Lists r.saved.fields.checkpoint [] → knows r r.saved.fields.checkpoint ≡ true
    last (inl e) = e
    last (inr t) = let no : None ≡ Some t.1 = t.2 in absurd cc

-- ---- the ops of the window

range_at : (a n i k : ℕ) → slice_get (range_with_len a n) i ≡ Some k → k ≡ a + i
range_at a zero i k e = absurd cc
range_at a (suc n) zero k e = let same : a ≡ k = cc in omega (arith, same)
range_at a (suc n) (suc i) k e = let r = range_at (a + 1) n i k e in omega (arith, r)

pub nth_before : (n k : ℕ) (r : Replica) → IsOpening n r → n + 1 ≡ k → IsOpening (k - 1) r
nth_before n k r o e = let same : n ≡ k - 1 = omega arith in subst (λ m. IsOpening m r) same o

pub nth_after : (c i k : ℕ) (r : Replica) → IsOpening k r → k ≡ c + 1 + i → IsOpening (c + (i + 1)) r
nth_after c i k r o e = let same : k ≡ c + (i + 1) = omega arith in subst (λ m. IsOpening m r) same o

pub nth_fits : (n : ℕ) (r : Replica) → IsOpening n r → r.saved.fields.checkpoint + 65 < 2 ^ 63
unfolding IsOpening
nth_fits n r o = let w = value_is r.saved o.good in let a = w.commit in let b = w.head in let c = w.number in omega arith

pub nth_step : (v : SuperValue) (i k : ℕ) (r q : Replica) (d d' : Option Disk) (o o' : List Output) (result : Result (Unit {0}) Halt) → k ≡ v.fields.checkpoint + 1 + i → Does (recover_op v k) r q d d' o o' result
    → DoesAt (recover_op v) (window_of v) i r q d d' o o' result
unfolding DoesAt
nth_step v i k r q d d' o o' result e h = λ j at. let is = range_at (v.fields.checkpoint + 1) (window_end v - v.fields.checkpoint) i j at in let same : k ≡ j = omega (arith, is) in subst (λ m. Does (recover_op v m) r q d d' o o' result) same h

pub ops_begin : (c : ℕ) (r : Replica) → IsOpening c r → IsOpening (c + 0) r
ops_begin c r o = let same : c ≡ c + 0 = omega arith in subst (λ m. IsOpening m r) same o

pub window_length : (v : SuperValue) → length (window_of v) ≡ SLOTS
window_length v = let n = length-range_with_len (v.fields.checkpoint + 1) (window_end v - v.fields.checkpoint) in omega (arith, n)

-- ---- by a header that is read of the list

pub one_header : (v : SuperValue) (i : ℕ) (g : Header) (r q : Replica) (d d' : Option Disk) (o o' : List Output) (result : Result (Unit {0}) Halt) → slice_get v.headers i ≡ Some g
    → Does (recover_listed v g) r q d d' o o' result → DoesAt (recover_listed v) v.headers i r q d d' o o' result
unfolding DoesAt
one_header v i g r q d d' o o' result at k = λ h e. subst (λ x. Does (recover_listed v x) r q d d' o o' result) (one_is v.headers i g h at e) k

-- ---- the window's loop

pub ops_at : (v u : SuperValue) (i : ℕ) (r r' r'' : Replica) (d d' d'' : Option Disk) (o o' o'' : List Output)
    → i < SLOTS → u ≡ v → Going (recover_op v) (window_of v) i r r' d d' o o'
    → DoesAt (recover_op u) (window_of u) i r' r'' d' d'' o' o'' (Ok tt) → Going (recover_op v) (window_of v) (i + 1) r r'' d d'' o o''
ops_at v u i r r' r'' d d' d'' o o' o'' l e h k =
    let n = window_length v in
    going_at (recover_op v) (window_of v) i r r' r'' d d' d'' o o' o'' (omega (arith, n)) h
    (subst (λ x. DoesAt (recover_op x) (window_of x) i r' r'' d' d'' o' o'' (Ok tt)) e k)

pub ops_stopped : (v u : SuperValue) (i : ℕ) (r r' r'' s : Replica) (d d' d'' : Option Disk) (o o' o'' p : List Output) (e : Halt)
    → i < SLOTS → u ≡ v → Going (recover_op v) (window_of v) i r r' d d' o o'
    → DoesAt (recover_op u) (window_of u) i r' r'' d' d'' o' o'' (Err e) → Does (each (recover_op v) (window_of v)) r s d d'' o p (Err e)
ops_stopped v u i r r' r'' s d d' d'' o o' o'' p e l q h k =
    let n = window_length v in
    going_at_stops (recover_op v) (window_of v) i r r' r'' s d d' d'' o o' o'' p e (omega (arith, n)) h
    (subst (λ x. DoesAt (recover_op x) (window_of x) i r' r'' d' d'' o' o'' (Err e)) q k)
