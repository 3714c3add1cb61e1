-- All Parts of a replica that opens are found.
use Rattle.vr_state.proofs.Fitting.{Fits-empty}
use Rattle.vr_state.specs.Fitting.{Fits}
use Rattle.std.proofs.Common.{arith, ℕ, zero, suc, ◌≡◌, ◌≤◌, ◌<◌, ◌+◌, ◌-◌, ◌^◌, ◌∙◌, refl, sym, ap, subst, List, [], ◌∷◌, ◌++◌, length, drop, get_or, set, map, append_assoc, append-nil, Option, None, true, false, Ok, Err, add-one, drop-cons}
use Rattle.std.specs.List.{range_with_len, list_any}
use Rattle.std.proofs.lemmas.Bool.{le-ltb}
use Rattle.std.proofs.lemmas.List.{drop_all, length-append, length-drop, length-replicate}
use Rattle.std.proofs.lemmas.List.FromFn.{length-map-range_with_len, map-range_with_len_more}
use Rattle.vr_base.specs.Replicas.{no_replicas}
use Rattle.vr_disk.specs.DiskState.{Disk}
use Rattle.vr_header.specs.declared.part.Part.{Part}
use Rattle.vr_header.specs.declared.part.Part.TheVariants.{Nothing}
use Rattle.vr_msg.specs.declared.output.Output.{Output}
use Rattle.vr_super.specs.Copies.{SuperValue}
use Rattle.vr_rules.specs.Replica.{Replica, forgetting, part_at, version}
use Rattle.vr_rules.specs.Steps.{change, each}
use Rattle.vr_rules.specs.Sound.{IsSavable}
use Rattle.vr_rules.specs.Opening.{recover_old, recover_op, recover_parts, old_headers, blank, first_listed, clouded, clouded_at, was_stored}
use Rattle.vr_rules.proofs.Slots.{Value, value_is}
use Rattle.vr_rules.specs.Found.{Partly}
use Rattle.vr_rules.proofs.Openings.{partly_spans, partly_clouded, opened_forgetting}
use Rattle.vr_rules.proofs.SavesFound.{clouded_known, found_topped, savable_found, savable_forgetting}
use Rattle.vr_rules.proofs.SavesParts.{Topped, topped_forgetting}
use Rattle.vr_disk.specs.declared.fault.Halt.{Halt}
use Rattle.vr_rules.specs.Does.{Does}
use Rattle.vr_volatile.specs.Ready.{IsReady, HasWindow, MayLoad}
use Rattle.vr_opening.specs.Finding.{IsOpening, cloud_by, cloud_to, window_end, window_of}
use Rattle.vr_rules.proofs.Versions.{clouded_stays, forgetting_stays}
use Rattle.vr_rules.proofs.Stepping.{does_then, does_stopped, change_by_then, change_by}

pub any_more : (xs : List Part) (i : ℕ) → was_stored (get_or xs i Nothing) ≡ false → list_any was_stored (drop i xs) ≡ list_any was_stored (drop (i + 1) xs)
any_more [] zero e = refl
any_more [] (suc i) e = rw add-one refl
any_more (x ∷ xs) zero e = rw e refl
any_more (x ∷ xs) (suc i) e = rw add-one (rw add-one at (any_more xs i e))

pub any_found : (xs : List Part) (i : ℕ) → was_stored (get_or xs i Nothing) ≡ true → list_any was_stored (drop i xs) ≡ true
any_found [] i e = absurd cc
any_found (x ∷ xs) zero e = rw e refl
any_found (x ∷ xs) (suc i) e = any_found xs i e

pub any_past : (xs : List Part) (i : ℕ) → length xs ≤ i → list_any was_stored (drop i xs) ≡ false
any_past xs i l = rw (drop_all i xs l) refl

-- ---- the list is gone over

row_get : {X : Type 0} (xs ys : List X) (d : X) → get_or (xs ++ ys) (length xs) d ≡ get_or ys 0 d
row_get [] ys d = refl
row_get (x ∷ xs) ys d = row_get xs ys d

row_drop : {X : Type 0} (xs ys : List X) → drop (length xs + 1) (xs ++ ys) ≡ drop 1 ys
row_drop [] ys = refl
row_drop (x ∷ xs) ys = let e : suc (length xs) + 1 ≡ suc (length xs + 1) = omega arith in rw e (row_drop xs ys)

row_set : {X : Type 0} (xs ys : List X) (y : X) → set (xs ++ ys) (length xs) y ≡ xs ++ set ys 0 y
row_set [] ys y = refl
row_set (x ∷ xs) ys y = ap (λ zs. x ∷ zs) (row_set xs ys y)

pub cloud_none : (r : Replica) → r ≡ cloud_to 0 r
unfolding cloud_to
cloud_none r = refl

pub cloud_more : (i : ℕ) (r q p : Replica) → i < length r.parts → q ≡ cloud_to i r → p ≡ record q { parts = set q.parts i (cloud_by q.saved q.first q.parts i) } → p ≡ cloud_to (i + 1) r
unfolding cloud_to
cloud_more i r q p l e k =
    let f : ℕ → Part = cloud_by r.saved r.first r.parts in
    let xs : List Part = map f (range_with_len 0 i) in
    let n : length xs ≡ i = length-map-range_with_len f 0 i in
    let ys : List Part = drop (i + 1) r.parts in
    let rest : drop i r.parts ≡ get_or r.parts i Nothing ∷ ys = rw add-one (drop-cons r.parts i Nothing l) in
    let all : List Part = xs ++ drop i r.parts in
    let at : get_or all i Nothing ≡ get_or r.parts i Nothing = subst (λ j. get_or all j Nothing ≡ get_or r.parts i Nothing) n (row_get xs (drop i r.parts) Nothing ∙ rw rest refl) in
    let past : drop (i + 1) all ≡ ys = subst (λ j. drop (j + 1) all ≡ ys) n (row_drop xs (drop i r.parts) ∙ rw rest refl) in
    let same : cloud_by r.saved r.first all i ≡ f i = rw (at, past) refl in
    let put : set all i (f i) ≡ xs ++ f i ∷ ys = subst (λ j. set all j (f i) ≡ xs ++ f i ∷ ys) n (row_set xs (drop i r.parts) (f i) ∙ rw rest refl) in
    let more : map f (range_with_len 0 (i + 1)) ≡ xs ++ f i ∷ [] = map-range_with_len_more f 0 i i (omega arith) in
    let parts : set all i (cloud_by r.saved r.first all i) ≡ map f (range_with_len 0 (i + 1)) ++ drop (i + 1) r.parts = rw (same, more) (put ∙ sym (append_assoc xs (f i ∷ []) ys)) in
    k ∙ rw e (ap (λ zs. record r { parts = zs }) parts)

map_shift : {X : Type 0} (f g : ℕ → X) (a b n : ℕ) → ((j : ℕ) → f (a + j) ≡ g (b + j)) → map f (range_with_len a n) ≡ map g (range_with_len b n)
map_shift f g a b zero h = refl
map_shift f g a b (suc n) h =
    let one : f a ≡ g b = subst (λ k. f k ≡ g b) (omega arith) (subst (λ k. f (a + 0) ≡ g k) (omega arith) (h 0)) in
    let rest = map_shift f g (a + 1) (b + 1) n (λ j.
    let l : a + suc j ≡ a + 1 + j = omega arith in
    let m : b + suc j ≡ b + 1 + j = omega arith in
    subst (λ k. f k ≡ g (b + 1 + j)) l (subst (λ k. f (a + suc j) ≡ g k) m (h (suc j)))) in
    rw one (ap (λ zs. g b ∷ zs) rest)

cloud_same : (r : Replica) (j : ℕ) → cloud_by r.saved r.first r.parts j ≡ clouded_at r.saved r (r.first + j)
unfolding part_at
cloud_same r j =
    let a : r.first + j - r.first ≡ j = omega arith in
    let b : r.first + j + 1 - r.first ≡ j + 1 = omega arith in
    rw (le-ltb (r.first + j) r.first (omega arith), a, b) refl

pub cloud_all : (i : ℕ) (r q : Replica) → i ≡ length r.parts → q ≡ cloud_to i r → q ≡ clouded r.saved r
unfolding cloud_to clouded
cloud_all i r q e k =
    let whole : map (cloud_by r.saved r.first r.parts) (range_with_len 0 (length r.parts)) ≡ map (clouded_at r.saved r) (range_with_len r.first (length r.parts))
    = map_shift (cloud_by r.saved r.first r.parts) (clouded_at r.saved r) 0 r.first (length r.parts) (λ j. let z : 0 + j ≡ j = omega arith in rw z (cloud_same r j)) in
    k ∙ rw (e, drop_all (length r.parts) r.parts (omega arith), append-nil (map (cloud_by r.saved r.first r.parts) (range_with_len 0 (length r.parts)))) (ap (λ zs. record r { parts = zs }) whole)

cloud_length : (i : ℕ) (r : Replica) → i ≤ length r.parts → length (cloud_to i r).parts ≡ length r.parts
unfolding cloud_to
cloud_length i r l =
    let f : ℕ → Part = cloud_by r.saved r.first r.parts in
    let a = length-append (map f (range_with_len 0 i)) (drop i r.parts) in
    let b = length-map-range_with_len f 0 i in
    let c = length-drop i r.parts in
    omega (arith, a, b, c)

pub cloud_within : (i : ℕ) (r q : Replica) → i < length r.parts → q ≡ cloud_to i r → i < length q.parts
cloud_within i r q l e = let n = cloud_length i r (omega arith) in rw e (omega (arith, n))

pub cloud_saved : (i : ℕ) (r q : Replica) → q ≡ cloud_to i r → q.saved ≡ r.saved
unfolding cloud_to
cloud_saved i r q e = ap (λ (x : Replica). x.saved) e

pub cloud_room : (i : ℕ) (r q : Replica) → i < length r.parts → q ≡ cloud_to i r → HasWindow r → q.first + i < 2 ^ 63
unfolding cloud_to
cloud_room i r q l e w = let parts = w.parts in let number = w.number in rw e (omega arith)

-- ---- the word

pub parts_then : (v : SuperValue) (r r1 r2 q p : Replica) (d d1 d2 : Option Disk) (o o1 o2 : List Output) → r1.saved ≡ v → r2.saved ≡ r1.saved
    → Does (each recover_old (old_headers v)) r r1 d d1 o o1 (Ok tt)
    → Does (each (recover_op r1.saved) (window_of r1.saved)) r1 r2 d1 d2 o1 o2 (Ok tt)
    → q ≡ clouded r2.saved r2 → p ≡ forgetting q → Does (recover_parts v) r p d d2 o o2 (Ok tt)
unfolding recover_parts
parts_then v r r1 r2 q p d d1 d2 o o1 o2 e i h k l m =
    does_then _ _ r r1 p d d1 d2 o o1 o2 (Ok tt) h
    (does_then _ _ r1 r2 p d1 d2 d2 o1 o2 o2 (Ok tt) (subst (λ (x : SuperValue). Does (each (recover_op x) (window_of x)) r1 r2 d1 d2 o1 o2 (Ok tt)) e k)
    (change_by_then (clouded v) (change forgetting) r2 q p d2 d2 o2 o2 (Ok tt) (subst (λ (x : SuperValue). q ≡ clouded x r2) (i ∙ e) l) (clouded_stays v r2) (change_by forgetting q p d2 o2 m (forgetting_stays q))))

pub parts_halted : (v : SuperValue) (r r1 r2 q : Replica) (d d1 d2 : Option Disk) (o o1 o2 o3 : List Output) (halt : Halt) → r1.saved ≡ v
    → Does (each recover_old (old_headers v)) r r1 d d1 o o1 (Ok tt)
    → Does (each (recover_op r1.saved) (window_of r1.saved)) r1 r2 d1 d2 o1 o2 (Err halt)
    → Does (recover_parts v) r q d d2 o o3 (Err halt)
unfolding recover_parts
parts_halted v r r1 r2 q d d1 d2 o o1 o2 o3 halt e h k =
    does_then _ _ r r1 q d d1 d2 o o1 o3 (Err halt) h
    (does_stopped _ _ r1 r2 q d1 d2 o1 o2 o3 halt (subst (λ (x : SuperValue). Does (each (recover_op x) (window_of x)) r1 r2 d1 d2 o1 o2 (Err halt)) e k))

pub parts_stopped : (v : SuperValue) (r r1 q : Replica) (d d1 : Option Disk) (o o1 o2 : List Output) (halt : Halt) → Does (each recover_old (old_headers v)) r r1 d d1 o o1 (Err halt)
    → Does (recover_parts v) r q d d1 o o2 (Err halt)
unfolding recover_parts
parts_stopped v r r1 q d d1 o o1 o2 halt h = does_stopped _ _ r r1 q d d1 o o1 o2 halt h

-- ---- what the replica is

window_blank : (v : SuperValue) (ps : List Part) → Value v → length ps ≡ v.fields.checkpoint + 65 - first_listed v → HasWindow (record (blank v) { parts = ps })
unfolding blank
window_blank v ps w n =
    let reach = w.reach in
    let one = w.one in
    let number = w.number in
    let commit = w.commit in
    let head = w.head in
    record {
      first = one;
      reach = reach;
      parts = omega arith;
      ackers = length-replicate (v.fields.checkpoint + 65 - first_listed v) no_replicas ∙ sym n;
      statements = length-replicate v.fields.n None;
      number = omega arith;
    }

partly_window : (v : SuperValue) (n : ℕ) (r : Replica) → Value v → Partly v n r → HasWindow r
partly_window v n r w p = subst HasWindow (sym p.is) (window_blank v r.parts w p.size)

pub window_opening : (n : ℕ) (r : Replica) → IsOpening n r → HasWindow r
unfolding IsOpening
window_opening n r h = partly_window r.saved n r (value_is r.saved h.good) h.partly

pub window_clouded : (n : ℕ) (r q : Replica) → IsOpening n r → q ≡ clouded r.saved r → HasWindow q
unfolding IsOpening
window_clouded n r q h e = let w = value_is r.saved h.good in rw e (partly_window r.saved n (clouded r.saved r) w (partly_clouded r.saved n r w h.partly))

idle_blank : (v : SuperValue) (ps : List Part) → (record (blank v) { parts = ps }).idle ≤ 9
unfolding blank
idle_blank v ps = omega arith

forgetting_idle : (r : Replica) → r.idle ≤ 9 → (forgetting r).idle ≤ 9
unfolding forgetting
forgetting_idle r h = h

forgetting_fits : (r : Replica) → Fits (version r) r.state → Fits (version (forgetting r)) (forgetting r).state
unfolding forgetting
forgetting_fits r h = h

blank_fits : (v : SuperValue) (ps : List Part) → Fits (version (record (blank v) { parts = ps })) (record (blank v) { parts = ps }).state
unfolding blank
blank_fits v ps = Fits-empty v.fields.version

pub opened_ready : (u : SuperValue) (r q p : Replica) → IsOpening (window_end u) r → r.saved ≡ u → q ≡ clouded r.saved r → p ≡ forgetting q → MayLoad p
unfolding IsOpening MayLoad IsReady
opened_ready u r q p k e i j =
    let v : SuperValue = r.saved in
    let n : ℕ = window_end v in
    let h : IsOpening n r = subst (λ (x : SuperValue). IsOpening (window_end x) r) (sym e) k in
    let w = value_is v h.good in
    let window = w.window in
    let last : v.fields.head ≤ n = omega arith in
    let x : Replica = clouded v r in
    let found = partly_clouded v n r w h.partly in
    let opened = opened_forgetting v n x w found last in
    let top = found_topped v n x w found last (λ a b. clouded_known v n v.fields.checkpoint r w h.partly (h.top a b)) in
    let savable : IsSavable x = subst IsSavable (sym found.is) (savable_found v x.parts h.good (subst Topped found.is top)) in
    let idle : x.idle ≤ 9 = subst (λ (y : Replica). y.idle ≤ 9) (sym found.is) (idle_blank v x.parts) in
    let fits : Fits (version x) x.state = subst (λ (y : Replica). Fits (version y) y.state) (sym found.is) (blank_fits v x.parts) in
    rw (j, i) (record {
      ready = record { sound = opened.sound; savable = savable_forgetting x savable (topped_forgetting x (partly_spans v n x w found) top); idle = forgetting_idle x idle; fits = forgetting_fits x fits };
      applied = opened.applied;
    })
