-- A log that is taken over, place by place.
use Rattle.std.proofs.Common.{arith, ℕ, zero, suc, ◌≡◌, ◌≤◌, ◌<◌, ◌+◌, ◌-◌, ◌^◌, ◌∙◌, refl, sym, ap, subst, true, List, [], ◌∷◌, ◌++◌, length, drop, get_or, set, map, max, append_assoc, append-nil, slice_get, Some, None, add-one, drop-cons}
use Rattle.std.specs.Prelude.{◌&&◌}
use Rattle.std.specs.List.{range_with_len}
use Rattle.std.proofs.lemmas.Bool.{and_parts, le-ltb}
use Rattle.std.proofs.lemmas.List.{drop_all, length-append, length-drop, length-replicate}
use Rattle.std.proofs.lemmas.List.FromFn.{length-map-range_with_len, map-range_with_len_more}
use Rattle.std.proofs.lemmas.Slice.Eq.{bytes_eq-Decides}
use Rattle.vr_base.specs.declared.sum.Sum.{Sum}
use Rattle.vr_base.specs.Bytes.{name_of}
use Rattle.vr_base.specs.Replicas.{no_replicas}
use Rattle.vr_header.specs.declared.header.Header.{Header}
use Rattle.vr_header.specs.declared.part.Part.{Part}
use Rattle.vr_header.specs.declared.part.Part.TheVariants.{Nothing}
use Rattle.vr_header.specs.Names.{header_name, name_by}
use Rattle.vr_header.specs.Spelling.{IsHeader}
use Rattle.vr_msg.specs.Normal.{same_sum}
use Rattle.vr_msg.specs.Spelling.{AreHeaders}
use Rattle.vr_rules.specs.Replica.{Replica, forgetting, part_at}
use Rattle.vr_rules.specs.Words.{Log, is_chain, is_chain_from, no_ackers, no_statements, taken, taken_part}
use Rattle.vr_volatile.specs.Ready.{HasWindow}
use Rattle.vr_volatile.specs.Takes.{taken_at, taken_by, taken_to}

-- ---- chains

pub chain_more : (hash : List ℕ → List ℕ) (hs : List Header) (i : ℕ) (a b : Header) → slice_get hs i ≡ Some a → slice_get hs (i + 1) ≡ Some b
    → is_chain hash (drop i hs) ≡ (same_sum b.parent (name_by hash a) && is_chain hash (drop (i + 1) hs))
unfolding is_chain_from
chain_more hash [] i a b e k = absurd cc
chain_more hash (x ∷ []) zero a b e k = absurd cc
chain_more hash (x ∷ y ∷ ys) zero a b e k =
    let p : x ≡ a = cc in
    let q : y ≡ b = cc in
    rw (p, q) refl
chain_more hash (x ∷ xs) (suc i) a b e k =
    let next : slice_get xs (i + 1) ≡ Some b = rw add-one (rw add-one at k) in
    rw add-one (rw add-one at (chain_more hash xs i a b e next))

pub chain_last : (hash : List ℕ → List ℕ) (hs : List Header) (i : ℕ) → i < length hs → slice_get hs (i + 1) ≡ None → is_chain hash (drop i hs) ≡ (true && is_chain hash (drop (i + 1) hs))
unfolding is_chain_from
chain_last hash [] i l k = absurd (omega arith)
chain_last hash (x ∷ []) zero l k = refl
chain_last hash (x ∷ y ∷ ys) zero l k = absurd cc
chain_last hash (x ∷ xs) (suc i) l k =
    let next : slice_get xs (i + 1) ≡ None = rw add-one (rw add-one at k) in
    rw add-one (rw add-one at (chain_last hash xs i (omega arith) next))

pub values_more : (hs : List Header) (i : ℕ) (a : Header) → slice_get hs i ≡ Some a → IsHeader a → AreHeaders (drop (i + 1) hs) → AreHeaders (drop i hs)
values_more [] i a e is h = absurd cc
values_more (x ∷ xs) zero a e is h = let p : x ≡ a = cc in (rw p is, h)
values_more (x ∷ xs) (suc i) a e is h = values_more xs i a e is (rw add-one (rw add-one at h))

chain_behind : (hash : List ℕ → List ℕ) (x : Header) (xs : List Header) → is_chain hash (x ∷ xs) ≡ true → is_chain hash xs ≡ true
unfolding is_chain_from
chain_behind hash x [] c = refl
chain_behind hash x (y ∷ ys) c = (and_parts (same_sum y.parent (name_by hash x)) (is_chain_from hash y ys) c).1

sum_is : (a b : Sum) → same_sum a b ≡ true → a ≡ b
sum_is a b e = let bytes = (bytes_eq-Decides a.0 b.0).0 e in λ i. record { 0 = bytes i }

-- in a chain, the one after has the name of the one before as its parent
pub linked : (hs : List Header) (i : ℕ) (a b : Header) → is_chain name_of hs ≡ true → slice_get hs i ≡ Some a → slice_get hs (i + 1) ≡ Some b → b.parent ≡ header_name a
unfolding is_chain_from
linked [] i a b c e k = absurd cc
linked (x ∷ []) zero a b c e k = absurd cc
linked (x ∷ y ∷ ys) zero a b c e k =
    let p : x ≡ a = cc in
    let q : y ≡ b = cc in
    let named = sum_is y.parent (header_name x) (and_parts (same_sum y.parent (header_name x)) (is_chain_from name_of y ys) c).0 in
    rw (p, q) at named
linked (x ∷ xs) (suc i) a b c e k =
    let next : slice_get xs (i + 1) ≡ Some b = rw add-one (rw add-one at k) in
    linked xs i a b (chain_behind name_of x xs c) e next

pub ruleset links = (chain_more, chain_last, values_more)

pub chain_all : (hash : List ℕ → List ℕ) (hs : List Header) (i : ℕ) → length hs ≤ i → is_chain hash (drop i hs) ≡ true
chain_all hash hs i l = rw (drop_all i hs l) refl

pub values_all : (hs : List Header) (i : ℕ) → length hs ≤ i → AreHeaders (drop i hs)
values_all hs i l = rw (drop_all i hs l) tt

pub ruleset chains = (chain_all, values_all)

-- ---- the list is gone over

pub row_get : {X : Type 0} (xs ys : List X) (d : X) → get_or (xs ++ ys) (length xs) d ≡ get_or ys 0 d
row_get [] ys d = refl
row_get (x ∷ xs) ys d = row_get xs ys d

pub row_set : {X : Type 0} (xs ys : List X) (y : X) → set (xs ++ ys) (length xs) y ≡ xs ++ set ys 0 y
row_set [] ys y = refl
row_set (x ∷ xs) ys y = ap (λ zs. x ∷ zs) (row_set xs ys y)

pub map_shift : {X : Type 0} (f g : ℕ → X) (a b n : ℕ) → ((j : ℕ) → f (a + j) ≡ g (b + j)) → map f (range_with_len a n) ≡ map g (range_with_len b n)
map_shift f g a b zero h = refl
map_shift f g a b (suc n) h =
    let one : f a ≡ g b = subst (λ k. f k ≡ g b) (omega arith) (subst (λ k. f (a + 0) ≡ g k) (omega arith) (h 0)) in
    let rest = map_shift f g (a + 1) (b + 1) n (λ j.
    let l : a + suc j ≡ a + 1 + j = omega arith in
    let m : b + suc j ≡ b + 1 + j = omega arith in
    subst (λ k. f k ≡ g (b + 1 + j)) l (subst (λ k. f (a + suc j) ≡ g k) m (h (suc j)))) in
    rw one (ap (λ zs. g b ∷ zs) rest)

pub taken_none : (l : Log) (r : Replica) → r ≡ taken_to l 0 r
unfolding taken_to
taken_none l r = refl

pub taken_more : (l : Log) (i : ℕ) (r q p : Replica) → i < length r.parts → q ≡ taken_to l i r
    → p ≡ record q { parts = set q.parts i (taken_by l q.checkpoint q.log_view (q.first + i) (get_or q.parts i Nothing)) } → p ≡ taken_to l (i + 1) r
unfolding taken_to
taken_more l i r q p m e k =
    let f : ℕ → Part = taken_at l r.checkpoint r.log_view r.first r.parts in
    let xs : List Part = map f (range_with_len 0 i) in
    let n : length xs ≡ i = length-map-range_with_len f 0 i in
    let ys : List Part = drop (i + 1) r.parts in
    let rest : drop i r.parts ≡ get_or r.parts i Nothing ∷ ys = rw add-one (drop-cons r.parts i Nothing m) in
    let all : List Part = xs ++ drop i r.parts in
    let at : get_or all i Nothing ≡ get_or r.parts i Nothing = subst (λ j. get_or all j Nothing ≡ get_or r.parts i Nothing) n (row_get xs (drop i r.parts) Nothing ∙ rw rest refl) in
    let same : taken_by l r.checkpoint r.log_view (r.first + i) (get_or all i Nothing) ≡ f i = rw at refl in
    let put : set all i (f i) ≡ xs ++ f i ∷ ys = subst (λ j. set all j (f i) ≡ xs ++ f i ∷ ys) n (row_set xs (drop i r.parts) (f i) ∙ rw rest refl) in
    let more : map f (range_with_len 0 (i + 1)) ≡ xs ++ f i ∷ [] = map-range_with_len_more f 0 i i (omega arith) in
    let parts : set all i (taken_by l r.checkpoint r.log_view (r.first + i) (get_or all i Nothing)) ≡ map f (range_with_len 0 (i + 1)) ++ ys
    = rw (same, more) (put ∙ sym (append_assoc xs (f i ∷ []) ys)) in
    k ∙ rw e (ap (λ zs. record r { parts = zs }) parts)

taken_same : (l : Log) (r : Replica) (j : ℕ) → taken_at l r.checkpoint r.log_view r.first r.parts j ≡ taken_part l r (r.first + j)
unfolding part_at taken_part
taken_same l r j =
    let a : r.first + j - r.first ≡ j = omega arith in
    rw (le-ltb (r.first + j) r.first (omega arith), a) refl

-- all Parts are taken over
abbrev pub parts_taken : Log → Replica → Replica
parts_taken l r = record r { parts = map (taken_part l r) (range_with_len r.first (length r.parts)) }

pub taken_all : (l : Log) (i : ℕ) (r q : Replica) → i ≡ length r.parts → q ≡ taken_to l i r → q ≡ parts_taken l r
unfolding taken_to
taken_all l i r q e k =
    let f : ℕ → Part = taken_at l r.checkpoint r.log_view r.first r.parts in
    let whole : map f (range_with_len 0 (length r.parts)) ≡ map (taken_part l r) (range_with_len r.first (length r.parts))
    = map_shift f (taken_part l r) 0 r.first (length r.parts) (λ j. let z : 0 + j ≡ j = omega arith in rw z (taken_same l r j)) in
    k ∙ rw (e, drop_all (length r.parts) r.parts (omega arith), append-nil (map f (range_with_len 0 (length r.parts)))) (ap (λ zs. record r { parts = zs }) whole)

taken_length : (l : Log) (i : ℕ) (r : Replica) → i ≤ length r.parts → length (taken_to l i r).parts ≡ length r.parts
unfolding taken_to
taken_length l i r m =
    let f : ℕ → Part = taken_at l r.checkpoint r.log_view r.first r.parts in
    let a = length-append (map f (range_with_len 0 i)) (drop i r.parts) in
    let b = length-map-range_with_len f 0 i in
    let c = length-drop i r.parts in
    omega (arith, a, b, c)

pub taken_within : (l : Log) (i : ℕ) (r q : Replica) → i < length r.parts → q ≡ taken_to l i r → i < length q.parts
taken_within l i r q m e = let n = taken_length l i r (omega arith) in rw e (omega (arith, n))

pub taken_room : (l : Log) (i : ℕ) (r q : Replica) → i < length r.parts → q ≡ taken_to l i r → HasWindow r → q.first + i < 2 ^ 63
unfolding taken_to
taken_room l i r q m e w = let parts = w.parts in let number = w.number in rw e (omega arith)

pub ruleset places = (taken_none, taken_more, taken_all, taken_within, taken_room)

-- ---- the whole

-- the log is begun, with nothing acknowledged yet
abbrev pub begun : ℕ → ℕ → Replica → Replica
begun view commit r = record r { view = view; log_view = view; idle = 0; ackers = no_ackers r; heard = no_replicas; statements = no_statements r; commit = max r.commit commit }

pub window_taken : (l : Log) (r q : Replica) → q ≡ parts_taken l r → HasWindow r → HasWindow q
window_taken l r q e h =
    let n = length-map-range_with_len (taken_part l r) r.first (length r.parts) in
    let parts = h.parts in
    let ackers = h.ackers in
    rw e (record { first = h.first; reach = h.reach; parts = omega (arith, n, parts); ackers = omega (arith, n, ackers); statements = h.statements; number = h.number })

pub window_begun : (view commit : ℕ) (r q : Replica) → q ≡ begun view commit r → HasWindow r → HasWindow q
window_begun view commit r q e h =
    rw e (record { first = h.first; reach = h.reach; parts = h.parts; ackers = length-replicate (length r.parts) no_replicas; statements = length-replicate r.n None; number = h.number })

pub taken_is : (l : Log) (r q p s : Replica) → q ≡ parts_taken l r → p ≡ begun l.view l.commit q → s ≡ forgetting p → s ≡ taken l r
unfolding taken
taken_is l r q p s e i k =
    let n = length-map-range_with_len (taken_part l r) r.first (length r.parts) in
    rw (k, i, e, n) refl

pub ruleset takes = (window_taken, window_begun, taken_is)
