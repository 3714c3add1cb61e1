-- A log that is taken over with a later checkpoint, place by place.
use Rattle.std.proofs.Common.{arith, ℕ, zero, suc, ◌≡◌, ◌≤◌, ◌<◌, ◌+◌, ◌-◌, ◌^◌, ◌∙◌, inl, inr, refl, sym, ap, subst, true, List, [], ◌∷◌, ◌++◌, length, drop, replicate, get_or, set, map, max, append_assoc, append-nil, add-one, drop-cons}
use Rattle.std.specs.List.{prefix_len, range_with_len}
use Rattle.std.proofs.lemmas.Bool.{cases_lt, le-leb, le-ltb, lt-leb}
use Rattle.std.proofs.lemmas.List.{drop_all, get_or-append_right, get_or-drop, get_or_past, length-append, length-drop, length-replicate}
use Rattle.std.proofs.lemmas.List.FromFn.{get_or-map-range_with_len, length-map-range_with_len, map-range_with_len_more}
use Rattle.std.proofs.Math.ListN.{get_or-append}
use Rattle.vr_base.specs.declared.replicas.Replicas.{Replicas}
use Rattle.vr_base.specs.Bytes.{name_of}
use Rattle.vr_base.specs.Replicas.{no_replicas}
use Rattle.vr_ckpt.specs.declared.name.Name.{Name}
use Rattle.vr_header.specs.declared.part.Part.{Part}
use Rattle.vr_header.specs.declared.part.Part.TheVariants.{Nothing}
use Rattle.vr_msg.specs.declared.frame.SyncView.{SyncView}
use Rattle.vr_header.specs.Parts.{has_header}
use Rattle.vr_rules.specs.Replica.{Replica, forgetting, head, part_at}
use Rattle.vr_rules.specs.Words.{is_chain, jumped, jumped_part, no_statements}
use Rattle.vr_rules.proofs.Heads.{Spans, head_reaches, part_within}
use Rattle.vr_rules.proofs.Taking.{log_reaches, replaced_header}
use Rattle.vr_volatile.specs.Jumps.{MayJump, first_then, jumped_at, jumped_by, jumped_to, moved_to}
use Rattle.vr_volatile.specs.Ready.{HasWindow}
use Rattle.vr_volatile.proofs.Taken.{begun, map_shift, row_get, row_set}

-- ---- the list is gone over

row_at : {X : Type 0} (f : ℕ → X) (i : ℕ) (xs : List X) (d : X) → i < length xs → get_or (map f (range_with_len 0 i) ++ drop i xs) i d ≡ get_or xs i d
row_at f i xs d m =
    let front = map f (range_with_len 0 i) in
    let n : length front ≡ i = length-map-range_with_len f 0 i in
    let rest : drop i xs ≡ get_or xs i d ∷ drop (i + 1) xs = rw add-one (drop-cons xs i d m) in
    subst (λ j. get_or (front ++ drop i xs) j d ≡ get_or xs i d) n (row_get front (drop i xs) d ∙ rw rest refl)

row_put : {X : Type 0} (f : ℕ → X) (i : ℕ) (xs : List X) (d : X) → i < length xs → set (map f (range_with_len 0 i) ++ drop i xs) i (f i) ≡ map f (range_with_len 0 (i + 1)) ++ drop (i + 1) xs
row_put f i xs d m =
    let front = map f (range_with_len 0 i) in
    let n : length front ≡ i = length-map-range_with_len f 0 i in
    let rest : drop i xs ≡ get_or xs i d ∷ drop (i + 1) xs = rw add-one (drop-cons xs i d m) in
    let put : set (front ++ drop i xs) i (f i) ≡ front ++ f i ∷ drop (i + 1) xs = subst (λ j. set (front ++ drop i xs) j (f i) ≡ front ++ f i ∷ drop (i + 1) xs) n (row_set front (drop i xs) (f i) ∙ rw rest refl) in
    let more : map f (range_with_len 0 (i + 1)) ≡ front ++ f i ∷ [] = map-range_with_len_more f 0 i i (omega arith) in
    rw more (put ∙ sym (append_assoc front (f i ∷ []) (drop (i + 1) xs)))

pub jumped_none : (v : SyncView) (r : Replica) → r ≡ jumped_to v 0 r
unfolding jumped_to
jumped_none v r = refl

pub jumped_more : (v : SyncView) (i : ℕ) (r q p : Replica) → i < length r.parts → q ≡ jumped_to v i r
    → p ≡ record q { parts = set q.parts i (jumped_by v q.commit q.log_view (q.first + i) (get_or q.parts i Nothing)) } → p ≡ jumped_to v (i + 1) r
unfolding jumped_to
jumped_more v i r q p m e k =
    let f : ℕ → Part = jumped_at v r.commit r.log_view r.first r.parts in
    let same : jumped_by v r.commit r.log_view (r.first + i) (get_or (map f (range_with_len 0 i) ++ drop i r.parts) i Nothing) ≡ f i = rw (row_at f i r.parts Nothing m) refl in
    k ∙ rw e (ap (λ zs. record r { parts = zs }) (rw same (row_put f i r.parts Nothing m)))

jumped_same : (v : SyncView) (r : Replica) (j : ℕ) → jumped_at v r.commit r.log_view r.first r.parts j ≡ jumped_part v r (r.first + j)
unfolding part_at jumped_part
jumped_same v r j =
    let a : r.first + j - r.first ≡ j = omega arith in
    rw (le-ltb (r.first + j) r.first (omega arith), a) refl

-- all Parts are gone over
abbrev pub parts_jumped : SyncView → Replica → Replica
parts_jumped v r = record r { parts = map (jumped_part v r) (range_with_len r.first (length r.parts)) }

pub jumped_all : (v : SyncView) (i : ℕ) (r q : Replica) → i ≡ length r.parts → q ≡ jumped_to v i r → q ≡ parts_jumped v r
unfolding jumped_to
jumped_all v i r q e k =
    let f : ℕ → Part = jumped_at v r.commit r.log_view r.first r.parts in
    let whole : map f (range_with_len 0 (length r.parts)) ≡ map (jumped_part v r) (range_with_len r.first (length r.parts))
    = map_shift f (jumped_part v r) 0 r.first (length r.parts) (λ j. let z : 0 + j ≡ j = omega arith in rw z (jumped_same v r j)) in
    k ∙ rw (e, drop_all (length r.parts) r.parts (omega arith), append-nil (map f (range_with_len 0 (length r.parts)))) (ap (λ zs. record r { parts = zs }) whole)

jumped_length : (v : SyncView) (i : ℕ) (r : Replica) → i ≤ length r.parts → length (jumped_to v i r).parts ≡ length r.parts
unfolding jumped_to
jumped_length v i r m =
    let f : ℕ → Part = jumped_at v r.commit r.log_view r.first r.parts in
    let a = length-append (map f (range_with_len 0 i)) (drop i r.parts) in
    let b = length-map-range_with_len f 0 i in
    let c = length-drop i r.parts in
    omega (arith, a, b, c)

pub jumped_within : (v : SyncView) (i : ℕ) (r q : Replica) → i < length r.parts → q ≡ jumped_to v i r → i < length q.parts
jumped_within v i r q m e = let n = jumped_length v i r (omega arith) in rw e (omega (arith, n))

pub jumped_room : (v : SyncView) (i : ℕ) (r q : Replica) → i < length r.parts → q ≡ jumped_to v i r → r.first + length r.parts < 2 ^ 64 → q.first + i < 2 ^ 64
unfolding jumped_to
jumped_room v i r q m e l = rw e (omega arith)

pub ruleset steps = (jumped_none, jumped_more, jumped_all, jumped_within, jumped_room)

-- ---- the lists reach to the later end

-- the first op isn't past the one above the checkpoint
first_low : (v : SyncView) (r : Replica) → MayJump v r → HasWindow r → first_then v r ≤ v.checkpoint + 1
first_low v r m h =
    let above = m.above in
    let lo = m.lo in
    let short = m.short in
    let reach = h.reach in
    omega arith

row_moved : {X : Type 0} (xs : List X) (g n : ℕ) (x : X) → length xs - g ≤ n → length (drop g xs ++ replicate (n - length (drop g xs)) x) ≡ n
row_moved xs g n x l =
    let a = length-append (drop g xs) (replicate (n - length (drop g xs)) x) in
    let b = length-replicate (n - length (drop g xs)) x in
    let c = length-drop g xs in
    omega (arith, a, b, c)

moved_first : (v : SyncView) (r : Replica) → (moved_to v r).first ≡ first_then v r
unfolding moved_to
moved_first v r = refl

moved_length : (v : SyncView) (r : Replica) → MayJump v r → HasWindow r → length (moved_to v r).parts ≡ v.checkpoint + 65 - first_then v r
unfolding moved_to
moved_length v r m h =
    let above = m.above in
    let parts = h.parts in
    row_moved r.parts (first_then v r - r.first) (v.checkpoint + 65 - first_then v r) Nothing (omega arith)

row_same : {X : Type 0} (xs : List X) (g n i : ℕ) (x : X) → get_or (drop g xs ++ replicate n x) i x ≡ get_or xs (g + i) x
row_same xs g n i x = elim (cases_lt i (length (drop g xs))) [
  | inl l ↦ get_or-append (drop g xs) (replicate n x) x i l ∙ get_or-drop g xs i x
  | inr m ↦
      let k = length-drop g xs in
      get_or-append_right (drop g xs) (replicate n x) (length (drop g xs)) i x refl m ∙ filled n (i - length (drop g xs)) x ∙ sym (get_or_past xs (g + i) x (omega (arith, k)))
]
  where
    filled : {X : Type 0} (n i : ℕ) (x : X) → get_or (replicate n x) i x ≡ x
    filled zero i x = get_or_past [] i x (omega arith)
    filled (suc n) zero x = refl
    filled (suc n) (suc i) x = filled n i x

moved_at : (v : SyncView) (r : Replica) (k : ℕ) → first_then v r ≤ k → part_at (moved_to v r) k ≡ part_at r k
unfolding moved_to
moved_at v r k l =
    let n : ℕ = v.checkpoint + 65 - first_then v r - length (drop (first_then v r - r.first) r.parts) in
    let place : (first_then v r - r.first) + (k - first_then v r) ≡ k - r.first = omega arith in
    part_within (moved_to v r) k l ∙ row_same r.parts (first_then v r - r.first) n (k - first_then v r) Nothing ∙ ap (λ j. get_or r.parts j Nothing) place ∙ sym (part_within r k (omega arith))

same_part : (v : SyncView) (r q : Replica) (k : ℕ) → q.commit ≡ r.commit → q.log_view ≡ r.log_view → part_at q k ≡ part_at r k → jumped_part v q k ≡ jumped_part v r k
unfolding jumped_part part_at
same_part v r q k c w e = rw (c, w, e) refl

moved_part : (v : SyncView) (r : Replica) (k : ℕ) → first_then v r ≤ k → jumped_part v (moved_to v r) k ≡ jumped_part v r k
unfolding moved_to
moved_part v r k l = same_part v r (moved_to v r) k refl refl (moved_at v r k l)

-- ---- the whole

-- the log is taken over with the checkpoint, and these are the lists
shape : SyncView → Replica → ℕ → List Part → List Replicas → Replica
shape v r first parts ackers =
    let root : Name = record { address = v.root_address; sum = v.root_name } in
    record r {
      view = v.view;
      log_view = v.view;
      commit = max r.commit v.commit;
      applied = v.checkpoint;
      checkpoint = v.checkpoint;
      root = root;
      missing = root ∷ [];
      worn = [];
      first = first;
      parts = parts;
      ackers = ackers;
      heard = no_replicas;
      statements = no_statements r;
      idle = 0;
    }

-- the Parts from an op on
row : SyncView → Replica → ℕ → List Part
row v r a = map (jumped_part v r) (range_with_len a (v.checkpoint + 65 - a))

blank : SyncView → ℕ → List Replicas
blank v a = map (λ k. no_replicas) (range_with_len a (v.checkpoint + 65 - a))

reaching : SyncView → Replica → ℕ → Replica
reaching v r a = shape v r a (row v r a) (blank v a)

drop_row : {X : Type 0} (f : ℕ → X) (a n g : ℕ) → drop g (map f (range_with_len a n)) ≡ map f (range_with_len (a + g) (n - g))
drop_row f a n zero =
    let s : a + 0 ≡ a = omega arith in
    let m : n - 0 ≡ n = omega arith in
    rw (s, m) refl
drop_row f a zero (suc g) = let m : 0 - suc g ≡ 0 = omega arith in rw m refl
drop_row f a (suc n) (suc g) =
    let s : a + suc g ≡ a + 1 + g = omega arith in
    let m : suc n - suc g ≡ n - g = omega arith in
    rw (s, m) (drop_row f (a + 1) n g)

-- how far the known headers reach then
top : SyncView → Replica → ℕ
top v r = v.checkpoint + prefix_len has_header (map (jumped_part v r) (range_with_len (v.checkpoint + 1) 64))

head_is : (v : SyncView) (r : Replica) (a : ℕ) → a ≤ v.checkpoint + 1 → head (reaching v r a) ≡ top v r
unfolding head row reaching top jumped_part shape
head_is v r a l =
    let s : a + (v.checkpoint + 1 - a) ≡ v.checkpoint + 1 = omega arith in
    let n : v.checkpoint + 65 - a - (v.checkpoint + 1 - a) ≡ 64 = omega arith in
    let at : drop (v.checkpoint + 1 - a) (row v r a) ≡ map (jumped_part v r) (range_with_len (v.checkpoint + 1) 64) = drop_row (jumped_part v r) a (v.checkpoint + 65 - a) (v.checkpoint + 1 - a) ∙ rw (s, n) refl in
    ap (λ ps. v.checkpoint + prefix_len has_header ps) at

forgot : (q : Replica) (h : ℕ) → head q ≡ h → forgetting q ≡ record q { first = q.first + (h - 63 - q.first); parts = drop (h - 63 - q.first) q.parts; ackers = drop (h - 63 - q.first) q.ackers }
unfolding forgetting
forgot q h e = rw e refl

cut : (v : SyncView) (r : Replica) (a g : ℕ) → shape v r (a + g) (drop g (row v r a)) (drop g (blank v a)) ≡ reaching v r (a + g)
unfolding row blank reaching shape
cut v r a g =
    let n : v.checkpoint + 65 - a - g ≡ v.checkpoint + 65 - (a + g) = omega arith in
    let parts : drop g (row v r a) ≡ row v r (a + g) = drop_row (jumped_part v r) a (v.checkpoint + 65 - a) g ∙ rw n refl in
    let ackers : drop g (blank v a) ≡ blank v (a + g) = drop_row (λ k. no_replicas) a (v.checkpoint + 65 - a) g ∙ rw n refl in
    rw (parts, ackers) refl

forgets : (v : SyncView) (r : Replica) (a : ℕ) → a ≤ v.checkpoint + 1 → forgetting (reaching v r a) ≡ reaching v r (a + (top v r - 63 - a))
unfolding shape reaching
forgets v r a l = forgot (reaching v r a) (top v r) (head_is v r a l) ∙ cut v r a (top v r - 63 - a)

known_there : (v : SyncView) (r : Replica) (k : ℕ) → MayJump v r → v.checkpoint < k → k ≤ v.head → has_header (jumped_part v r k) ≡ true
unfolding jumped_part
known_there v r k m a b =
    let count = m.count in
    let lo = m.lo in
    let there = log_reaches v.body.headers (k - (v.body.lo + 1)) (omega arith) in
    rw (lt-leb k v.body.lo (omega arith), lt-leb k v.checkpoint a, le-leb k v.head b, there.1) (rw (replaced_header there.0 (part_at r k)) refl)

head_above : (v : SyncView) (r : Replica) → MayJump v r → HasWindow r → v.head ≤ top v r
unfolding reaching shape row
head_above v r m h =
    let above = m.above in
    let reach = h.reach in
    let lo = m.lo in
    let short = m.short in
    let a : ℕ = r.first in
    let q : Replica = reaching v r a in
    let low : a ≤ v.checkpoint + 1 = omega arith in
    let long : length (row v r a) ≡ v.checkpoint + 65 - a = length-map-range_with_len (jumped_part v r) a (v.checkpoint + 65 - a) in
    let t : Spans q = record { reach = low; parts = omega (arith, long) } in
    subst (λ n. v.head ≤ n) (head_is v r a low) (head_reaches q v.head t (λ k b c.
    let at : part_at q k ≡ jumped_part v r k = part_within q k (omega arith) ∙ get_or-map-range_with_len (jumped_part v r) a (v.checkpoint + 65 - a) (k - a) k Nothing (omega arith) (omega arith) in
    ap has_header at ∙ known_there v r k m b c))

blank_is : {X : Type 0} (n a : ℕ) (x : X) → replicate n x ≡ map (λ k. x) (range_with_len a n)
blank_is zero a x = refl
blank_is (suc n) a x = ap (λ xs. x ∷ xs) (blank_is n (a + 1) x)

-- with the root, and without a state
abbrev pub landing : Name → List Name → ℕ → Replica → Replica
landing root missing checkpoint r = record r { root = root; missing = missing; worn = []; checkpoint = checkpoint; applied = checkpoint }

lands : (v : SyncView) (r : Replica) (root : Name) → root ≡ record { address = v.root_address; sum = v.root_name } → MayJump v r → HasWindow r
    → begun v.view v.commit (landing root (root ∷ []) v.checkpoint (parts_jumped v (moved_to v r))) ≡ reaching v r (first_then v r)
unfolding reaching shape row blank moved_to
lands v r root e m h =
    let a : ℕ = first_then v r in
    let n : ℕ = v.checkpoint + 65 - a in
    let long : length (moved_to v r).parts ≡ n = moved_length v r m h in
    let parts : map (jumped_part v (moved_to v r)) (range_with_len a (length (moved_to v r).parts)) ≡ row v r a
    = rw long (map_shift (jumped_part v (moved_to v r)) (jumped_part v r) a a n (λ j. moved_part v r (a + j) (omega arith))) in
    let count : length (map (jumped_part v (moved_to v r)) (range_with_len a (length (moved_to v r).parts))) ≡ n = length-map-range_with_len (jumped_part v (moved_to v r)) a (length (moved_to v r).parts) ∙ long in
    let ackers : replicate (length (map (jumped_part v (moved_to v r)) (range_with_len a (length (moved_to v r).parts)))) no_replicas ≡ blank v a = ap (λ c. replicate c no_replicas) count ∙ blank_is n a no_replicas in
    lands_by v r root _ _ e parts ackers
  where
    lands_by : (v : SyncView) (r : Replica) (root : Name) (ps : List Part) (qs : List Replicas) → root ≡ record { address = v.root_address; sum = v.root_name } → ps ≡ row v r (first_then v r) → qs ≡ blank v (first_then v r)
        → record (shape v r (first_then v r) ps qs) { root = root; missing = root ∷ [] } ≡ reaching v r (first_then v r)
    lands_by v r root ps qs e i k = rw (e, i, k) refl

pub window_landed : (v : SyncView) (r m q p : Replica) (root : Name) (missing : List Name) → m ≡ moved_to v r → q ≡ parts_jumped v m → p ≡ landing root missing v.checkpoint q → MayJump v r → HasWindow r → HasWindow p
unfolding moved_to
window_landed v r m q p root missing e i k may h =
    let a : ℕ = first_then v r in
    let n : ℕ = v.checkpoint + 65 - a in
    let low = first_low v r may h in
    let long : length (moved_to v r).parts ≡ n = moved_length v r may h in
    let parts : length (map (jumped_part v (moved_to v r)) (range_with_len a (length (moved_to v r).parts))) ≡ n = length-map-range_with_len (jumped_part v (moved_to v r)) a (length (moved_to v r).parts) ∙ long in
    let few : length r.ackers - (a - r.first) ≤ n = (let above = may.above in let parts = h.parts in let ackers = h.ackers in omega arith) in
    let ackers = row_moved r.ackers (a - r.first) n no_replicas few in
    let same : length (drop (a - r.first) r.ackers) ≡ length (drop (a - r.first) r.parts) = (let c = length-drop (a - r.first) r.ackers in let d = length-drop (a - r.first) r.parts in let x = h.ackers in omega (arith, c, d)) in
    let first = h.first in
    let within = may.within in
    let commit = may.commit in
    let number = may.number in
    rw (k, i, e) (record { first = omega arith; reach = low; parts = omega (arith, parts, low); ackers = subst (λ c. length (drop (a - r.first) r.ackers ++ replicate (n - c) no_replicas) ≡ n) same ackers ∙ sym parts; statements = h.statements; number = omega arith })

-- the Parts that are gone over have numbers
pub room_moved : (v : SyncView) (r m : Replica) → m ≡ moved_to v r → MayJump v r → HasWindow r → m.first + length m.parts < 2 ^ 64
room_moved v r m e may h =
    let low = first_low v r may h in
    let long = moved_length v r may h in
    let within = may.within in
    let commit = may.commit in
    let number = may.number in
    let first = moved_first v r in
    rw e (omega (arith, low, long, first))

pub saved_landed : (v : SyncView) (r m q p b : Replica) (root : Name) (missing : List Name) → m ≡ moved_to v r → q ≡ parts_jumped v m → p ≡ landing root missing v.checkpoint q → b ≡ begun v.view v.commit p → b.saved ≡ r.saved
unfolding moved_to
saved_landed v r m q p b root missing e i k j = rw (j, k, i, e) refl

pub jumped_is : (v : SyncView) (r m q p b s : Replica) (root : Name) (missing : List Name) → root ≡ record { address = v.root_address; sum = v.root_name } → missing ≡ root ∷ [] → m ≡ moved_to v r → q ≡ parts_jumped v m
    → p ≡ landing root missing v.checkpoint q → b ≡ begun v.view v.commit p → s ≡ forgetting b → MayJump v r → HasWindow r → s ≡ jumped v r
unfolding jumped reaching shape row blank
jumped_is v r m q p b s root missing a n e i k j f may h =
    let low = first_low v r may h in
    let above = may.above in
    let reach = h.reach in
    let far = head_above v r may h in
    let whole : b ≡ reaching v r (first_then v r) = j ∙ rw (k, i, e, n) (lands v r root a may h) in
    let first : first_then v r + (top v r - 63 - first_then v r) ≡ r.first + (top v r - 63 - r.first) = omega arith in
    f ∙ ap forgetting whole ∙ forgets v r (first_then v r) low ∙ ap (reaching v r) first ∙ sym (forgets v r r.first (omega arith))

pub chained : (v : SyncView) (r : Replica) → MayJump v r → is_chain name_of v.body.headers ≡ true
chained v r m = m.chain

pub ruleset jumps = (window_landed, room_moved, jumped_is)
