-- What a replica states of its log.
use Rattle.std.proofs.Common.{arith, ℕ, zero, suc, ◌≡◌, ◌≤◌, ◌<◌, ◌+◌, ◌-◌, ◌∙◌, refl, sym, ap, inl, inr, true, false, not, List, [], ◌∷◌, ◌++◌, length, take, drop, get_or, add-one, Some, None, Option}
use Rattle.std.specs.Prelude.{Bool, is_some, reverse}
use Rattle.std.specs.List.{prefix_len, range_with_len, filter_map}
use Rattle.std.specs.Option.{option_to_list}
use Rattle.std.proofs.lemmas.Bool.{cases_eq, eq-eqb, ne_eqb}
use Rattle.std.proofs.lemmas.Grind.{common_steps}
use Rattle.std.proofs.lemmas.List.{reverse-append, length-append, length-drop, length-reverse, length-take-le, take_all}
use Rattle.std.proofs.lemmas.List.Sums.{prefix_len-le-length}
use Rattle.std.proofs.lemmas.List.Folds.{prefix_len-append}
use Rattle.std.proofs.lemmas.List.Elements.{filter_map-append}
use Rattle.vr_header.specs.declared.part.Part.{Part}
use Rattle.vr_header.specs.declared.part.Part.TheVariants.{Nothing}
use Rattle.vr_msg.specs.declared.statement.Statement.{Statement}
use Rattle.vr_rules.specs.Replica.{Replica, is_nothing, trimmed}
use Rattle.vr_rules.specs.Words.{stated}
use Rattle.vr_volatile.specs.States.{last_told, stated_by, stated_to}

-- ---- the last that isn't Nothing

take_one : (xs : List Part) (i : ℕ) → i < length xs → take (i + 1) xs ≡ take i xs ++ get_or xs i Nothing ∷ []
take_one [] i l = absurd (omega arith)
take_one (x ∷ xs) zero l = refl
take_one (x ∷ xs) (suc i) l = rw add-one (ap (λ ys. x ∷ ys) (rw add-one at (take_one xs i (omega arith))))

first_told : (p : Part) (ps : List Part) → is_nothing p ≡ false → prefix_len is_nothing (p ∷ ps) ≡ 0
first_told p ps e = rw e refl

first_untold : (p : Part) (ps : List Part) → is_nothing p ≡ true → prefix_len is_nothing (p ∷ ps) ≡ prefix_len is_nothing ps + 1
first_untold p ps e = rw e (omega arith)

last_back : (ps : List Part) (p : Part) → reverse (ps ++ p ∷ []) ≡ p ∷ reverse ps
last_back ps p = reverse-append ps (p ∷ [])

one_told : (ps : List Part) (p : Part) → is_nothing p ≡ false → last_told (ps ++ p ∷ []) ≡ length ps + 1
unfolding last_told
one_told ps p e =
    let size = length-append ps (p ∷ []) in
    let none = first_told p (reverse ps) e in
    rw (last_back ps p) (omega (arith, size, none))

one_untold : (ps : List Part) (p : Part) → is_nothing p ≡ true → last_told (ps ++ p ∷ []) ≡ last_told ps
unfolding last_told
one_untold ps p e =
    let size = length-append ps (p ∷ []) in
    let some = first_untold p (reverse ps) e in
    rw (last_back ps p) (omega (arith, size, some))

pub last_all : (xs : List Part) (n : ℕ) → n ≡ length xs → last_told (take n xs) ≡ last_told xs
last_all xs n e = rw (take_all n xs (omega arith)) refl

-- one item fewer, where the last is Nothing
pub last_less : (xs : List Part) (n : ℕ) → 0 < n → n ≤ length xs → not (is_nothing (get_or xs (n - 1) Nothing)) ≡ false → last_told (take n xs) ≡ last_told xs
    → last_told (take (n - 1) xs) ≡ last_told xs
last_less xs n some l e same =
    let p : is_nothing (get_or xs (n - 1) Nothing) ≡ true = elim (is_nothing (get_or xs (n - 1) Nothing)) as (λ b. not b ≡ false → b ≡ true) [ true ↦ λ t. refl | false ↦ λ t. cc ] e in
    let step : last_told (take (n - 1 + 1) xs) ≡ last_told (take (n - 1) xs) = rw (take_one xs (n - 1) (omega arith)) (one_untold (take (n - 1) xs) (get_or xs (n - 1) Nothing) p) in
    let next : n - 1 + 1 ≡ n = omega arith in
    sym step ∙ ap (λ k. last_told (take k xs)) next ∙ same

-- the last is told
pub last_here : (xs : List Part) (n : ℕ) → 0 < n → n ≤ length xs → not (is_nothing (get_or xs (n - 1) Nothing)) ≡ true → last_told (take n xs) ≡ last_told xs
    → n ≡ last_told xs
last_here xs n some l e same =
    let p : is_nothing (get_or xs (n - 1) Nothing) ≡ false = elim (is_nothing (get_or xs (n - 1) Nothing)) as (λ b. not b ≡ true → b ≡ false) [ true ↦ λ t. cc | false ↦ λ t. refl ] e in
    let size : length (take (n - 1) xs) ≡ n - 1 = length-take-le (n - 1) xs (omega arith) in
    let here : last_told (take (n - 1 + 1) xs) ≡ length (take (n - 1) xs) + 1 = rw (take_one xs (n - 1) (omega arith)) (one_told (take (n - 1) xs) (get_or xs (n - 1) Nothing) p) in
    let next : n - 1 + 1 ≡ n = omega arith in
    let whole : last_told (take (n - 1 + 1) xs) ≡ last_told xs = ap (λ k. last_told (take k xs)) next ∙ same in
    omega (arith, size, here, whole)

pub last_none : (xs : List Part) (n : ℕ) → n ≤ 0 → last_told (take n xs) ≡ last_told xs → 0 ≡ last_told xs
unfolding last_told
last_none xs zero l same = same
last_none xs (suc i) l same = absurd (omega arith)

pub last_within : (xs : List Part) → last_told xs ≤ length xs
unfolding last_told
last_within xs = omega arith

pub ruleset ends = (last_all, last_less, last_here, last_none, last_within)

-- ---- the Parts from an op on

last_cons : (x : Part) (xs : List Part) → last_told (x ∷ xs) - 1 ≡ last_told xs
unfolding last_told
last_cons x xs =
    let m : ℕ = prefix_len is_nothing (reverse xs) in
    let few = prefix_len-le-length is_nothing (reverse xs) in
    let n = length-reverse xs in
    let one : prefix_len is_nothing (x ∷ []) ≤ 1 = prefix_len-le-length is_nothing (x ∷ []) in
    rw (reverse-append (x ∷ []) xs, prefix_len-append is_nothing (reverse xs) (x ∷ [])) (elim (cases_eq m (length (reverse xs))) [
      | inl all ↦ rw (eq-eqb m (length (reverse xs)) all) (omega arith)
      | inr some ↦ rw (ne_eqb m (length (reverse xs)) some) (omega arith)
    ])

last_drop : (d : ℕ) (xs : List Part) → last_told (drop d xs) ≡ last_told xs - d
last_drop zero xs = omega arith
last_drop (suc d) [] = let few = last_within [] in omega (arith, last_within (drop (suc d) []))
last_drop (suc d) (x ∷ xs) = let rest = last_drop d xs in let one = last_cons x xs in omega (arith, rest, one)

trimmed_is : (ps : List Part) → trimmed ps ≡ take (last_told ps) ps
unfolding last_told
trimmed_is ps = refl

pub told_none : (xs : List Part) (from : ℕ) → [] ≡ take (from - from) (drop from xs)
told_none xs from = let e : from - from ≡ 0 = omega arith in rw e refl

get_drop : (d i : ℕ) (xs : List Part) → get_or (drop d xs) i Nothing ≡ get_or xs (d + i) Nothing
get_drop d i xs = grind (arith, common_steps)

pub told_more : (xs : List Part) (from i : ℕ) → from ≤ i → i < length xs → take (i - from) (drop from xs) ++ get_or xs i Nothing ∷ [] ≡ take (i + 1 - from) (drop from xs)
told_more xs from i a l =
    let n = length-drop from xs in
    let e : i + 1 - from ≡ i - from + 1 = omega arith in
    let place : from + (i - from) ≡ i = omega arith in
    rw (e, take_one (drop from xs) (i - from) (omega (arith, n)), get_drop from (i - from) xs, place) refl

pub told_ends : (xs : List Part) (from i end : ℕ) → end ≡ last_told xs → i - from ≡ end - from → take (i - from) (drop from xs) ≡ trimmed (drop from xs)
told_ends xs from i end e k = rw (k, e, trimmed_is (drop from xs), last_drop from xs) refl

pub ruleset tells = (told_none, told_more, told_ends)

-- ---- all statements

range_more : (a n j : ℕ) → a + n ≡ j → range_with_len a (n + 1) ≡ range_with_len a n ++ j ∷ []
range_more a zero j e = grind (arith, common_steps)
range_more a (suc n) j e = grind (arith, common_steps, range_more (a + 1) n j)

pub stated_none : (r : Replica) → [] ≡ stated_to r 0
unfolding stated_to
stated_none r = refl

one_stated : (r : Replica) (i : ℕ) (o : Option Statement) → o ≡ stated_by r i → filter_map (stated_by r) (i ∷ []) ≡ option_to_list o
one_stated r i o e = rw e (elim (stated_by r i) as (λ (p : Option Statement). filter_map (λ (k : ℕ). p) (i ∷ []) ≡ option_to_list p) [ None ↦ refl | Some s ↦ refl ])

pub stated_more : (r : Replica) (i : ℕ) (o : Option Statement) (ss ts : List Statement) → o ≡ stated_by r i → ss ≡ stated_to r i → ts ≡ ss ++ option_to_list o → ts ≡ stated_to r (i + 1)
unfolding stated_to
stated_more r i o ss ts e k t =
    t ∙ rw (k, range_more 0 i i (omega arith), filter_map-append (stated_by r) (range_with_len 0 i) (i ∷ []), one_stated r i o e) refl

pub stated_all : (r : Replica) (i n : ℕ) (ss : List Statement) → n ≡ r.n → n ≤ i → i ≤ n → ss ≡ stated_to r i → ss ≡ stated r
unfolding stated_to stated
stated_all r i n ss e a b k = let same : i ≡ r.n = omega arith in k ∙ rw same refl

pub ruleset alls = (stated_none, stated_more, stated_all)

-- ---- how many have stated

count_one : (r : Replica) (i : ℕ) → length (stated_to r (i + 1)) ≡ length (stated_to r i) + length (option_to_list (stated_by r i))
count_one r i =
    rw (← stated_more r i (stated_by r i) (stated_to r i) (stated_to r i ++ option_to_list (stated_by r i)) refl refl refl)
    (length-append (stated_to r i) (option_to_list (stated_by r i)))

pub count_none : (r : Replica) → 0 ≡ length (stated_to r 0)
count_none r = rw (← stated_none r) refl

pub count_more : (r : Replica) (i : ℕ) (b : Bool) → b ≡ is_some (stated_by r i) → b ≡ true → length (stated_to r (i + 1)) ≡ length (stated_to r i) + 1
count_more r i b e t =
    let one : length (option_to_list (stated_by r i)) ≡ 1 =
    elim (stated_by r i) as (λ (o : Option Statement). is_some o ≡ true → length (option_to_list o) ≡ 1) [ None ↦ λ s. absurd cc | Some s ↦ λ s. refl ] (sym e ∙ t) in
    count_one r i ∙ rw one refl

pub count_less : (r : Replica) (i : ℕ) (b : Bool) → b ≡ is_some (stated_by r i) → b ≡ false → length (stated_to r (i + 1)) ≡ length (stated_to r i)
count_less r i b e t =
    let none : length (option_to_list (stated_by r i)) ≡ 0 =
    elim (stated_by r i) as (λ (o : Option Statement). is_some o ≡ false → length (option_to_list o) ≡ 0) [ None ↦ λ s. refl | Some s ↦ λ s. absurd cc ] (sym e ∙ t) in
    let one = count_one r i in
    omega (arith, one, none)

pub count_all : (r : Replica) (i n : ℕ) → n ≡ r.n → n ≤ i → i ≤ n → length (stated_to r i) ≡ length (stated r)
count_all r i n e a b = rw (stated_all r i n (stated_to r i) e a b refl) refl

pub ruleset counts = (count_none, count_more, count_less, count_all)
