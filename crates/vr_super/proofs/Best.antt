-- The bytes of the greatest sequence on which two copies agree: what keeps them.
use Rattle.std.proofs.Common.{ℕ, ◌≤◌, ◌<◌, ◌≡◌, ◌≢◌, ◌⊎◌, inl, inr, arith, refl, sym, ap, ◌∙◌, Bool, true, false, cond, ltb, ◌&&◌, List, [], ◌∷◌, Option, Some, None, subst}
use Rattle.std.specs.Prelude.{count_by, nat_eq}
use Rattle.std.specs.Cmp.Lexicographic.{pointwise}
use Rattle.std.specs.Int.{w64}
use Rattle.std.proofs.lemmas.Bool.{and_parts, ltb-true, ltb-false, leb-true, le-leb, le-ltb, lt-ltb}
use Rattle.std.proofs.lemmas.List.Sums.{sum_by-cons}
use Rattle.std.proofs.lemmas.Slice.Eq.{bytes_eq-Decides}
use Rattle.vr_base.specs.Bytes.{number}
use Rattle.vr_disk.specs.Sectors.{has}
use Rattle.vr_super.specs.Laws.{OpensAgreed}
use Rattle.vr_super.specs.Opens.{agreed, best_of, better, is_later, opened}

-- one of the copies has these bytes
abbrev pub Among : List ℕ → List (Option (List ℕ)) → Type 0
Among v [] = ⊥
Among v (c ∷ cs) = (c ≡ Some v) ⊎ Among v cs

abbrev seq : List ℕ → ℕ
seq b = number w64 16 b

same_some : (a b : List ℕ) → Some a ≡ Some b → a ≡ b
same_some a b e = cc

-- where the best comes from
pub best_is : (t : List ℕ → Bool) (best : Option (List ℕ)) (cs : List (Option (List ℕ))) (v : List ℕ) → best_of t best cs ≡ Some v → (best ≡ Some v) ⊎ (Among v cs × (t v ≡ true))
unfolding best_of
best_is t best [] v e = inl e
best_is t best (None ∷ cs) v e = elim (best_is t best cs v e) [ inl x ↦ inl x | inr p ↦ inr (inr p.0, p.1) ]
best_is t best (Some b ∷ cs) v e =
    elim (t b && is_later b best) as (λ x. (t b && is_later b best) ≡ x → best_of t (cond x (Some b) best) cs ≡ Some v → (best ≡ Some v) ⊎ (Among v (Some b ∷ cs) × (t v ≡ true))) [
      | true ↦ λ x e. elim (best_is t (Some b) cs v e) [
        | inl s ↦ inr (inl s, ap t (sym (same_some b v s)) ∙ (and_parts (t b) (is_later b best) x).0)
        | inr p ↦ inr (inr p.0, p.1)
      ]
      | false ↦ λ x e. elim (best_is t best cs v e) [ inl s ↦ inl s | inr p ↦ inr (inr p.0, p.1) ]
    ] refl e

abbrev Is : (List ℕ → Bool) → Option (List ℕ) → List (Option (List ℕ)) → Type 0
Is t best cs = (v : List ℕ) × (best_of t best cs ≡ Some v)

-- there is a best one
some_stays : (t : List ℕ → Bool) (b : List ℕ) (cs : List (Option (List ℕ))) → Is t (Some b) cs
unfolding best_of
some_stays t b [] = (b, refl)
some_stays t b (None ∷ cs) = some_stays t b cs
some_stays t b (Some c ∷ cs) = elim (t c && is_later c (Some b)) as (λ x. Is t (cond x (Some c) (Some b)) cs) [ true ↦ some_stays t c cs | false ↦ some_stays t b cs ]

some_of : (t : List ℕ → Bool) (best : Option (List ℕ)) (b : List ℕ) (cs : List (Option (List ℕ))) → t b ≡ true → Is t (better t best (Some b)) cs
some_of t None b cs h = rw h (some_stays t b cs)
some_of t (Some x) b cs h = elim (t b && is_later b (Some x)) as (λ y. Is t (cond y (Some b) (Some x)) cs) [ true ↦ some_stays t b cs | false ↦ some_stays t x cs ]

pub some_best : (t : List ℕ → Bool) (best : Option (List ℕ)) (cs : List (Option (List ℕ))) (b : List ℕ) → Among b cs → t b ≡ true → Is t best cs
unfolding best_of
some_best t best [] b a h = elim a [ ]
some_best t best (c ∷ cs) b (inl e) h = subst (λ c. Is t (better t best c) cs) (sym e) (some_of t best b cs h)
some_best t best (c ∷ cs) b (inr a) h = some_best t (better t best c) cs b a h

-- ---- what makes bytes the best

abbrev NotLater : (List ℕ → Bool) → List ℕ → List (Option (List ℕ)) → Type 0
NotLater t v [] = Unit {0}
NotLater t v (c ∷ cs) = ((b : List ℕ) → c ≡ Some b → t b ≡ true → seq b ≤ seq v) × NotLater t v cs

abbrev Behind : (List ℕ → Bool) → List ℕ → Option (List ℕ) → Type 0
Behind t v c = (b : List ℕ) → c ≡ Some b → t b ≡ true → seq b < seq v

abbrev Wins : (List ℕ → Bool) → List ℕ → List (Option (List ℕ)) → Type 0
Wins t v [] = ⊥
Wins t v (c ∷ cs) = ((c ≡ Some v) × (t v ≡ true) × NotLater t v cs) ⊎ (Behind t v c × Wins t v cs)

abbrev Before : List ℕ → Option (List ℕ) → Type 0
Before v best = (b : List ℕ) → best ≡ Some b → seq b < seq v

stays : (t : List ℕ → Bool) (v : List ℕ) (cs : List (Option (List ℕ))) → NotLater t v cs → best_of t (Some v) cs ≡ Some v
unfolding best_of
stays t v [] n = refl
stays t v (None ∷ cs) n = stays t v cs n.1
stays t v (Some b ∷ cs) n =
    elim (t b) as (λ x. t b ≡ x → best_of t (cond (x && ltb (seq v) (seq b)) (Some b) (Some v)) cs ≡ Some v) [
      | true ↦ λ h. rw (le-ltb (seq v) (seq b) (n.0 b refl h)) (stays t v cs n.1)
      | false ↦ λ h. stays t v cs n.1
    ] refl

later_than : (v : List ℕ) (best : Option (List ℕ)) → Before v best → is_later v best ≡ true
later_than v None h = refl
later_than v (Some b) h = lt-ltb (seq b) (seq v) (h b refl)

wins_best : (t : List ℕ → Bool) (v : List ℕ) (cs : List (Option (List ℕ))) (best : Option (List ℕ)) → Wins t v cs → Before v best → best_of t best cs ≡ Some v
unfolding best_of
wins_best t v [] best w h = elim w [ ]
wins_best t v (c ∷ cs) best (inl p) h =
    let now : better t best c ≡ Some v = rw (p.0, p.1, later_than v best h) refl in
    rw now (stays t v cs p.2)
wins_best t v (None ∷ cs) best (inr p) h = wins_best t v cs best p.1 h
wins_best t v (Some b ∷ cs) best (inr p) h =
    elim (t b) as (λ x. t b ≡ x → best_of t (cond (x && is_later b best) (Some b) best) cs ≡ Some v) [
      | true ↦ λ e. elim (is_later b best) as (λ y. best_of t (cond y (Some b) best) cs ≡ Some v) [
        | true ↦ wins_best t v cs (Some b) p.1 (λ x s. subst (λ x. seq x < seq v) (same_some b x s) (p.0 b refl e))
        | false ↦ wins_best t v cs best p.1 h
      ]
      | false ↦ λ e. wins_best t v cs best p.1 h
    ] refl

-- the other way round
abbrev Won : (List ℕ → Bool) → List ℕ → List (Option (List ℕ)) → Option (List ℕ) → Type 0
Won t v cs best = ((best ≡ Some v) × NotLater t v cs) ⊎ (Before v best × Wins t v cs)

none_behind : (t : List ℕ → Bool) (v : List ℕ) → Behind t v None
none_behind t v b e h = absurd cc

-- what isn't later than the best isn't later than one at least as late
not_later : (x v : List ℕ) (best : Option (List ℕ)) → (is_later x best ≡ true → ⊥) → best ≡ Some v → seq x ≤ seq v
not_later x v best n e =
    elim (ltb (seq v) (seq x)) as (λ y. ltb (seq v) (seq x) ≡ y → seq x ≤ seq v) [ true ↦ λ l. absurd (n (rw e l)) | false ↦ λ l. ltb-false (seq v) (seq x) l ] refl

earlier : (x v : List ℕ) (best : Option (List ℕ)) → (is_later x best ≡ true → ⊥) → Before v best → seq x < seq v
earlier x v None n h = absurd (n refl)
earlier x v (Some b) n h =
    let l = h b refl in
    elim (ltb (seq b) (seq x)) as (λ y. ltb (seq b) (seq x) ≡ y → seq x < seq v) [ true ↦ λ y. absurd (n y) | false ↦ λ y. let m = ltb-false (seq b) (seq x) y in omega arith ] refl

won_past : (t : List ℕ → Bool) (v b : List ℕ) (cs : List (Option (List ℕ))) (best : Option (List ℕ)) → (t b ≡ true → is_later b best ≡ true → ⊥) → Won t v cs best → Won t v (Some b ∷ cs) best
won_past t v b cs best n (inl p) =
    inl (p.0, ((λ x s h. subst (λ y. seq y ≤ seq v) (same_some b x s) (not_later b v best (n (ap t (same_some b x s) ∙ h)) p.0)), p.1))
won_past t v b cs best n (inr p) =
    inr (p.0, inr ((λ x s h. subst (λ y. seq y < seq v) (same_some b x s) (earlier b v best (n (ap t (same_some b x s) ∙ h)) p.0)), p.1))

won_now : (t : List ℕ → Bool) (v b : List ℕ) (cs : List (Option (List ℕ))) (best : Option (List ℕ)) → t b ≡ true → is_later b best ≡ true → Won t v cs (Some b) → Won t v (Some b ∷ cs) best
won_now t v b cs best h l (inl p) =
    let same = same_some b v p.0 in
    inr ((λ x e. ltb-true (seq x) (seq v) (subst (λ b. ltb (seq x) (seq b) ≡ true) same (subst (λ o. is_later b o ≡ true) e l))), inl (p.0, ap t (sym same) ∙ h, p.1))
won_now t v b cs best h l (inr p) =
    inr (
      (λ x e. let m = ltb-true (seq x) (seq b) (subst (λ o. is_later b o ≡ true) e l) in let k = p.0 b refl in omega arith),
      inr ((λ x e g. subst (λ y. seq y < seq v) (same_some b x e) (p.0 b refl)), p.1),
    )

best_wins : (t : List ℕ → Bool) (v : List ℕ) (cs : List (Option (List ℕ))) (best : Option (List ℕ)) → best_of t best cs ≡ Some v → Won t v cs best
unfolding best_of
best_wins t v [] best e = inl (e, tt)
best_wins t v (None ∷ cs) best e =
    elim (best_wins t v cs best e) [ inl p ↦ inl (p.0, ((λ b s h. absurd cc), p.1)) | inr p ↦ inr (p.0, inr (none_behind t v, p.1)) ]
best_wins t v (Some b ∷ cs) best e =
    elim (t b) as (λ x. t b ≡ x → best_of t (cond (x && is_later b best) (Some b) best) cs ≡ Some v → Won t v (Some b ∷ cs) best) [
      | true ↦ λ h e. elim (is_later b best) as (λ y. is_later b best ≡ y → best_of t (cond y (Some b) best) cs ≡ Some v → Won t v (Some b ∷ cs) best) [
        | true ↦ λ l e. won_now t v b cs best h l (best_wins t v cs (Some b) e)
        | false ↦ λ l e. won_past t v b cs best (λ g m. let c : true ≡ false = sym m ∙ l in cc) (best_wins t v cs best e)
      ] refl e
      | false ↦ λ h e. won_past t v b cs best (λ g m. let c : true ≡ false = sym g ∙ h in cc) (best_wins t v cs best e)
    ] refl e

-- ---- copies that come to hold the value, or become bad without having held it

abbrev pub Step : List ℕ → Option (List ℕ) → Option (List ℕ) → Type 0
Step v c d = (d ≡ c) ⊎ ((d ≡ Some v) ⊎ ((d ≡ None) × (c ≡ Some v → ⊥)))

abbrev pub Toward : List ℕ → List (Option (List ℕ)) → List (Option (List ℕ)) → Type 0
Toward v [] [] = Unit {0}
Toward v [] (d ∷ ds) = ⊥
Toward v (c ∷ cs) [] = ⊥
Toward v (c ∷ cs) (d ∷ ds) = Step v c d × Toward v cs ds

has_self : (v : List ℕ) → pointwise nat_eq v v ≡ true
has_self v = (bytes_eq-Decides v v).1 refl

has_other : (b v : List ℕ) → b ≢ v → pointwise nat_eq v b ≡ false
has_other b v d = elim (pointwise nat_eq v b) as (λ x. pointwise nat_eq v b ≡ x → x ≡ false) [ true ↦ λ e. absurd (d (sym ((bytes_eq-Decides v b).0 e))) | false ↦ λ e. refl ] refl

abbrev pub one : List ℕ → Option (List ℕ) → ℕ
one b c = cond (has b c) 1 0

one_le : (b : List ℕ) (c : Option (List ℕ)) → one b c ≤ 1
one_le b c = elim (has b c) as (λ x. cond x 1 0 ≤ 1) [ true ↦ omega arith | false ↦ omega arith ]

one_not : (v : List ℕ) (c : Option (List ℕ)) → (c ≡ Some v → ⊥) → one v c ≡ 0
one_not v None n = refl
one_not v (Some b) n = rw (has_other v b (λ e. n (ap Some (sym e)))) refl

step_self : (v : List ℕ) (c d : Option (List ℕ)) → Step v c d → one v c ≤ one v d
step_self v c d (inl e) = rw e (omega arith)
step_self v c d (inr (inl e)) = rw (e, has_self v) (one_le v c)
step_self v c d (inr (inr p)) = rw (one_not v c p.1) (omega arith)

step_other : (v b : List ℕ) (c d : Option (List ℕ)) → b ≢ v → Step v c d → one b d ≤ one b c
step_other v b c d n (inl e) = rw e (omega arith)
step_other v b c d n (inr (inl e)) = rw (e, has_other b v n) (omega arith)
step_other v b c d n (inr (inr p)) = rw p.0 (omega arith)

count_self : (v : List ℕ) (cs ds : List (Option (List ℕ))) → Toward v cs ds → count_by (has v) cs ≤ count_by (has v) ds
count_self v [] [] t = omega arith
count_self v [] (d ∷ ds) t = elim t [ ]
count_self v (c ∷ cs) [] t = elim t [ ]
count_self v (c ∷ cs) (d ∷ ds) t = let x = sum_by-cons (one v) c cs in let y = sum_by-cons (one v) d ds in let a = step_self v c d t.0 in let r = count_self v cs ds t.1 in omega arith

count_other : (v b : List ℕ) (cs ds : List (Option (List ℕ))) → b ≢ v → Toward v cs ds → count_by (has b) ds ≤ count_by (has b) cs
count_other v b [] [] n t = omega arith
count_other v b [] (d ∷ ds) n t = elim t [ ]
count_other v b (c ∷ cs) [] n t = elim t [ ]
count_other v b (c ∷ cs) (d ∷ ds) n t = let x = sum_by-cons (one b) c cs in let y = sum_by-cons (one b) d ds in let a = step_other v b c d n t.0 in let r = count_other v b cs ds n t.1 in omega arith

wins_test : (t : List ℕ → Bool) (v : List ℕ) (cs : List (Option (List ℕ))) → Wins t v cs → t v ≡ true
wins_test t v [] w = elim w [ ]
wins_test t v (c ∷ cs) (inl p) = p.1
wins_test t v (c ∷ cs) (inr p) = wins_test t v cs p.1

wins_last : (t : List ℕ → Bool) (v : List ℕ) (cs : List (Option (List ℕ))) → Wins t v cs → NotLater t v cs
wins_last t v [] w = elim w [ ]
wins_last t v (c ∷ cs) (inl p) = ((λ b e h. let same = same_some v b (sym p.0 ∙ e) in rw same (omega arith)), p.2)
wins_last t v (c ∷ cs) (inr p) = ((λ b e h. let l = p.0 b e h in omega arith), wins_last t v cs p.1)

-- the test may only become stricter, but not for the value
abbrev Stricter : (List ℕ → Bool) → (List ℕ → Bool) → List ℕ → Type 0
Stricter t u v = (b : List ℕ) → b ≢ v → u b ≡ true → t b ≡ true

same_or_not : (b v : List ℕ) → (b ≡ v) ⊎ (b ≢ v)
same_or_not b v = elim (pointwise nat_eq b v) as (λ x. pointwise nat_eq b v ≡ x → (b ≡ v) ⊎ (b ≢ v)) [
  | true ↦ λ e. inl ((bytes_eq-Decides b v).0 e)
  | false ↦ λ e. inr (λ s. let c : true ≡ false = sym ((bytes_eq-Decides b v).1 s) ∙ e in cc)
] refl

step_last : (t u : List ℕ → Bool) (v : List ℕ) (c d : Option (List ℕ)) → Stricter t u v → ((b : List ℕ) → c ≡ Some b → t b ≡ true → seq b ≤ seq v) → Step v c d → (b : List ℕ) → d ≡ Some b → u b ≡ true → seq b ≤ seq v
step_last t u v c d s n x b e h =
    elim (same_or_not b v) [
      | inl same ↦ rw same (omega arith)
      | inr other ↦ elim x [
        | inl k ↦ n b (sym k ∙ e) (s b other h)
        | inr y ↦ elim y [ inl k ↦ absurd (other (same_some b v (sym e ∙ k))) | inr p ↦ let z = p.0 in absurd cc ]
      ]
    ]

last_toward : (t u : List ℕ → Bool) (v : List ℕ) (cs ds : List (Option (List ℕ))) → Stricter t u v → NotLater t v cs → Toward v cs ds → NotLater u v ds
last_toward t u v [] [] s n w = tt
last_toward t u v [] (d ∷ ds) s n w = elim w [ ]
last_toward t u v (c ∷ cs) [] s n w = elim w [ ]
last_toward t u v (c ∷ cs) (d ∷ ds) s n w = (step_last t u v c d s n.0 w.0, last_toward t u v cs ds s n.1 w.1)

step_behind : (t u : List ℕ → Bool) (v : List ℕ) (c : Option (List ℕ)) → Stricter t u v → t v ≡ true → Behind t v c → (b : List ℕ) → c ≡ Some b → u b ≡ true → seq b < seq v
step_behind t u v c s tv p b e g =
    elim (same_or_not b v) [
      | inl same ↦ p b e (ap t same ∙ tv)
      | inr other ↦ p b e (s b other g)
    ]

wins_toward : (t u : List ℕ → Bool) (v : List ℕ) (cs ds : List (Option (List ℕ))) → Stricter t u v → u v ≡ true → Wins t v cs → Toward v cs ds → Wins u v ds
wins_toward t u v [] ds s h w k = elim w [ ]
wins_toward t u v (c ∷ cs) [] s h w k = elim k [ ]
wins_toward t u v (c ∷ cs) (d ∷ ds) s h (inl p) k =
    let rest = last_toward t u v cs ds s p.2 k.1 in
    elim k.0 [
      | inl e ↦ inl (e ∙ p.0, h, rest)
      | inr y ↦ elim y [ inl e ↦ inl (e, h, rest) | inr q ↦ absurd (q.1 p.0) ]
    ]
wins_toward t u v (c ∷ cs) (d ∷ ds) s h (inr p) k =
    let rest = wins_toward t u v cs ds s h p.1 k.1 in
    elim k.0 [
      | inl e ↦ inr ((λ b x g. step_behind t u v c s (wins_test t v cs p.1) p.0 b (sym e ∙ x) g), rest)
      | inr y ↦ elim y [
        | inl e ↦ inl (e, h, last_toward t u v cs ds s (wins_last t v cs p.1) k.1)
        | inr q ↦ inr ((λ b x g. let z = q.0 in absurd cc), rest)
      ]
    ]

pub opened_toward : (v : List ℕ) (cs ds : List (Option (List ℕ))) → opened cs ≡ Some v → Toward v cs ds → opened ds ≡ Some v
unfolding opened
opened_toward v cs ds e k =
    elim (best_wins (agreed cs) v cs None e) [
      | inl p ↦ let z = p.0 in absurd cc
      | inr p ↦
          let two = leb-true 2 (count_by (has v) cs) (wins_test (agreed cs) v cs p.1) in
          let more = count_self v cs ds k in
          wins_best (agreed ds) v ds None
          (wins_toward (agreed cs) (agreed ds) v cs ds
          (λ b n g. le-leb 2 (count_by (has b) cs) (let x = leb-true 2 (count_by (has b) ds) g in let y = count_other v b cs ds n k in omega arith))
          (le-leb 2 (count_by (has v) ds) (omega arith)) p.1 k)
          (λ b x. absurd cc)
    ]

-- what is opened is one of the copies, and two that agree make it something
pub opened_among : (v : List ℕ) (cs : List (Option (List ℕ))) → opened cs ≡ Some v → Among v cs
unfolding opened
opened_among v cs e = elim (best_is (agreed cs) None cs v e) [ inl x ↦ absurd cc | inr p ↦ p.0 ]

pub opened_some : (b : List ℕ) (cs : List (Option (List ℕ))) → Among b cs → agreed cs b ≡ true → (v : List ℕ) × (opened cs ≡ Some v)
unfolding opened
opened_some b cs a h = some_best (agreed cs) None cs b a h

-- ---- the law of opening

not_among : (b : List ℕ) (cs : List (Option (List ℕ))) → (Among b cs → ⊥) → count_by (has b) cs ≡ 0
not_among b [] n = refl
not_among b (c ∷ cs) n =
    let x = sum_by-cons (one b) c cs in
    let first : one b c ≡ 0 = one_not b c (λ e. n (inl e)) in
    let rest = not_among b cs (λ a. n (inr a)) in
    omega arith

among_or_not : (b : List ℕ) (cs : List (Option (List ℕ))) → Among b cs ⊎ (Among b cs → ⊥)
among_or_not b [] = inr (λ a. a)
among_or_not b (None ∷ cs) = elim (among_or_not b cs) [ inl a ↦ inl (inr a) | inr n ↦ inr (λ a. elim a [ inl e ↦ absurd cc | inr a ↦ n a ]) ]
among_or_not b (Some c ∷ cs) =
    elim (same_or_not c b) [
      | inl s ↦ inl (inl (ap Some s))
      | inr d ↦ elim (among_or_not b cs) [ inl a ↦ inl (inr a) | inr n ↦ inr (λ a. elim a [ inl e ↦ d (same_some c b e) | inr a ↦ n a ]) ]
    ]

agreed_among : (b : List ℕ) (cs : List (Option (List ℕ))) → agreed cs b ≡ true → Among b cs
agreed_among b cs h =
    elim (among_or_not b cs) [
      | inl a ↦ a
      | inr n ↦ let two = leb-true 2 (count_by (has b) cs) h in let zero = not_among b cs n in absurd (omega arith)
    ]

last_among : (t : List ℕ → Bool) (v b : List ℕ) (cs : List (Option (List ℕ))) → NotLater t v cs → Among b cs → t b ≡ true → seq b ≤ seq v
last_among t v b [] n a h = elim a [ ]
last_among t v b (c ∷ cs) n (inl e) h = n.0 b e h
last_among t v b (c ∷ cs) n (inr a) h = last_among t v b cs n.1 a h

opened_wins : (v : List ℕ) (cs : List (Option (List ℕ))) → opened cs ≡ Some v → Wins (agreed cs) v cs
unfolding opened
opened_wins v cs e = elim (best_wins (agreed cs) v cs None e) [ inl p ↦ let z = p.0 in absurd cc | inr p ↦ p.1 ]

never_agreed : (b : List ℕ) (cs : List (Option (List ℕ))) → opened cs ≡ None → agreed cs b ≡ true → ⊥
never_agreed b cs e h = let x = opened_some b cs (agreed_among b cs h) h in let y = x.1 in absurd cc

pub opens_law : (cs : List (Option (List ℕ))) → OpensAgreed cs
opens_law cs = record {
  agree = λ b e. wins_test (agreed cs) b cs (opened_wins b cs e);
  greatest = λ b c e h. last_among (agreed cs) b c cs (wins_last (agreed cs) b cs (opened_wins b cs e)) (agreed_among c cs h) h;
  none = λ b e. elim (agreed cs b) as (λ x. agreed cs b ≡ x → x ≡ false) [ true ↦ λ h. absurd (never_agreed b cs e h) | false ↦ λ h. refl ] refl;
}
