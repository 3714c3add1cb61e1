-- Texts that come in pieces.
use Rattle.std.proofs.Common.{zero, suc, ◌≡◌, ◌≤◌, ◌<◌, ◌+◌, ℕ, Option, Some, None, take, drop, take-append-drop, List, [], ◌∷◌, ◌++◌, length, get_or, Bool, true, false, cond, eqb, refl, ap, sym, ◌∙◌, arith, append_assoc, subst}
use Rattle.std.specs.Option.{IfSome}
use Rattle.std.proofs.lemmas.List.{append-nil, take-take}
use Rattle.std.proofs.lemmas.Bool.Decides.{nat_tests}
use Rattle.memchr.specs.Find.{IsFirstByte, is_byte}
use Rattle.vr_lines.specs.Cuts.{Cut, joined, before, cut, whole_lines, if_any, lines_of, IsEnd}

-- a text after what another was cut into
unfoldable pub extended : Cut → List ℕ → Cut
extended c ys = record { lines = c.lines ++ (cut (c.last ++ ys)).lines; last = (cut (c.last ++ ys)).last }

joined_extended : (b : ℕ) (lines : List (List ℕ)) (last ys : List ℕ) → eqb b 10 ≡ false → joined b (lines ++ (cut (last ++ ys)).lines) (cut (last ++ ys)).last ≡ extended (joined b lines last) ys
unfolding cut extended
joined_extended b [] last ys e = rw e refl
joined_extended b (line ∷ lines) last ys e = refl

before_extended : (b : ℕ) (c : Cut) (ys : List ℕ) → before b (extended c ys) ≡ extended (before b c) ys
unfolding extended
before_extended b c ys =
    let cases : (t : Bool) → eqb b 10 ≡ t → cond t (let x : Cut = record { lines = [] ∷ (c.lines ++ (cut (c.last ++ ys)).lines); last = (cut (c.last ++ ys)).last } in x) (joined b (c.lines ++ (cut (c.last ++ ys)).lines) (cut (c.last ++ ys)).last) ≡ extended (cond t (record { lines = [] ∷ c.lines; last = c.last }) (joined b c.lines c.last)) ys =
    elim [ true ↦ λ e. refl | false ↦ λ e. joined_extended b c.lines c.last ys e ] in
    cases (eqb b 10) refl

pub cut_append : (xs ys : List ℕ) → cut (xs ++ ys) ≡ extended (cut xs) ys
unfolding cut extended
cut_append [] ys = refl
cut_append (b ∷ xs) ys = ap (before b) (cut_append xs ys) ∙ before_extended b (cut xs) ys

-- what a text is cut into, after a text without LF
unfoldable pub prefixed : List ℕ → List (List ℕ) → List ℕ → Cut
prefixed p [] last = record { lines = []; last = p ++ last }
prefixed p (line ∷ lines) last = record { lines = (p ++ line) ∷ lines; last = last }

joined_none : (b : ℕ) (lines : List (List ℕ)) (last : List ℕ) → (joined b lines last).lines ≡ [] → lines ≡ []
joined_none b [] last h = refl
joined_none b (line ∷ lines) last h = absurd (cc)

before_none : (b : ℕ) (c : Cut) → (before b c).lines ≡ [] → (eqb b 10 ≡ false) × (c.lines ≡ [])
before_none b c h =
    let cases : (t : Bool) → eqb b 10 ≡ t → (cond t (let x : Cut = record { lines = [] ∷ c.lines; last = c.last } in x) (joined b c.lines c.last)).lines ≡ [] → (eqb b 10 ≡ false) × (c.lines ≡ []) =
    elim [ true ↦ λ e k. absurd (cc) | false ↦ λ e k. (e, joined_none b c.lines c.last k) ] in
    cases (eqb b 10) refl h

before_other : (b : ℕ) (c : Cut) → eqb b 10 ≡ false → before b c ≡ joined b c.lines c.last
before_other b c e = rw e refl

before_prefixed : (b : ℕ) (p : List ℕ) (lines : List (List ℕ)) (last : List ℕ) → eqb b 10 ≡ false → before b (prefixed p lines last) ≡ prefixed (b ∷ p) lines last
unfolding prefixed
before_prefixed b p [] last e = before_other b _ e
before_prefixed b p (line ∷ lines) last e = before_other b _ e

prefixed_nil : (lines : List (List ℕ)) (last : List ℕ) → prefixed [] lines last ≡ record { lines = lines; last = last }
unfolding prefixed
prefixed_nil [] last = refl
prefixed_nil (line ∷ lines) last = refl

pub cut_prefixed : (p ys : List ℕ) → whole_lines p ≡ [] → cut (p ++ ys) ≡ prefixed p (cut ys).lines (cut ys).last
unfolding cut
cut_prefixed [] ys h = sym (prefixed_nil (cut ys).lines (cut ys).last)
cut_prefixed (b ∷ p) ys h =
    let parts = before_none b (cut p) h in
    ap (before b) (cut_prefixed p ys parts.1) ∙ before_prefixed b p (cut ys).lines (cut ys).last parts.0

-- a text without LF
pub cut_part : (p : List ℕ) → whole_lines p ≡ [] → cut p ≡ record { lines = []; last = p }
unfolding cut prefixed
cut_part p h =
    let e = cut_prefixed p [] h in
    rw append-nil at e

-- one that ends
pub cut_line : (p ys : List ℕ) → whole_lines p ≡ [] → cut (p ++ 10 ∷ ys) ≡ record { lines = p ∷ (cut ys).lines; last = (cut ys).last }
unfolding cut prefixed
cut_line p ys h = let e = cut_prefixed p (10 ∷ ys) h in rw append-nil at e

pub part_append : (p q : List ℕ) → whole_lines p ≡ [] → whole_lines q ≡ [] → whole_lines (p ++ q) ≡ []
unfolding prefixed
part_append p q h k = ap (λ (c : Cut). c.lines) (cut_prefixed p q h ∙ ap (λ (c : Cut). prefixed p c.lines c.last) (cut_part q k))

joined_empty : (b : ℕ) (lines : List (List ℕ)) (last : List ℕ) → lines ≡ [] → (joined b lines last).lines ≡ []
joined_empty b [] last h = refl
joined_empty b (line ∷ lines) last h = absurd (cc)

pub part_more : (b : ℕ) (p : List ℕ) → eqb b 10 ≡ false → whole_lines p ≡ [] → whole_lines (b ∷ p) ≡ []
unfolding cut
part_more b p e h = ap (λ (c : Cut). c.lines) (before_other b (cut p) e) ∙ joined_empty b (cut p).lines (cut p).last h

last_joined : (b : ℕ) (lines : List (List ℕ)) (last : List ℕ) → eqb b 10 ≡ false → whole_lines last ≡ [] → whole_lines (joined b lines last).last ≡ []
last_joined b [] last e h = part_more b last e h
last_joined b (line ∷ lines) last e h = h

last_before : (b : ℕ) (c : Cut) → whole_lines c.last ≡ [] → whole_lines (before b c).last ≡ []
last_before b c h =
    let cases : (t : Bool) → eqb b 10 ≡ t → whole_lines (cond t (let x : Cut = record { lines = [] ∷ c.lines; last = c.last } in x) (joined b c.lines c.last)).last ≡ [] =
    elim [ true ↦ λ e. h | false ↦ λ e. last_joined b c.lines c.last e h ] in
    cases (eqb b 10) refl

-- what stands after the last LF has none
pub last_part : (xs : List ℕ) → whole_lines (cut xs).last ≡ []
unfolding cut
last_part [] = refl
last_part (b ∷ xs) = last_before b (cut xs) (last_part xs)

pub no_end : (xs : List ℕ) → ((k : ℕ) → k < length xs → eqb (get_or xs k 0) 10 ≡ true → ⊥) → whole_lines xs ≡ []
unfolding cut
no_end [] h = refl
no_end (b ∷ xs) h =
    let cases : (t : Bool) → eqb b 10 ≡ t → eqb b 10 ≡ false = elim [ true ↦ λ e. absurd (h 0 (omega arith) e) | false ↦ λ e. e ] in
    part_more b xs (cases (eqb b 10) refl) (no_end xs (λ k l e. h (suc k) (omega arith) e))

pub lines_append : (xs ys : List ℕ) → lines_of (xs ++ ys) ≡ whole_lines xs ++ lines_of ((cut xs).last ++ ys)
unfolding extended
lines_append xs ys =
    ap (λ (c : Cut). c.lines ++ if_any c.last) (cut_append xs ys)
    ∙ append_assoc (cut xs).lines (cut ((cut xs).last ++ ys)).lines (if_any (cut ((cut xs).last ++ ys)).last)

pub last_append : (xs ys : List ℕ) → (cut (xs ++ ys)).last ≡ (cut ((cut xs).last ++ ys)).last
unfolding extended
last_append xs ys = ap (λ (c : Cut). c.last) (cut_append xs ys)

-- the first line begins with what came of it
pub record Begins (p : List ℕ) (lines : List (List ℕ)) : Type 0 where
  pub rest : List ℕ
  pub later : List (List ℕ)
  pub is : lines ≡ (p ++ rest) ∷ later

begins_by : (b : ℕ) (p : List ℕ) (lines : List (List ℕ)) (last : List ℕ) → Begins (b ∷ p) ((prefixed (b ∷ p) lines last).lines ++ if_any (prefixed (b ∷ p) lines last).last)
unfolding prefixed
begins_by b p [] last = record { rest = last; later = []; is = refl }
begins_by b p (line ∷ lines) last = record { rest = line; later = lines ++ if_any last; is = refl }

pub begins : (p ys : List ℕ) → 0 < length p → whole_lines p ≡ [] → Begins p (lines_of (p ++ ys))
begins [] ys some h = absurd (omega arith)
begins (b ∷ p) ys some h =
    let P : Cut → Type 0 = λ c. Begins (b ∷ p) (c.lines ++ if_any c.last) in
    subst P (sym (cut_prefixed (b ∷ p) ys h)) (begins_by b p (cut ys).lines (cut ys).last)

-- the first LF, as a search finds it
end_at : (xs : List ℕ) (at : ℕ) → at < length xs → ((k : ℕ) → k < at → eqb (get_or xs k 0) 10 ≡ true → ⊥) → eqb (get_or xs at 0) 10 ≡ true → IsEnd xs at
unfolding cut
end_at [] at h before is = absurd (omega arith)
end_at (x ∷ xs) zero h before is =
    let e : x ≡ 10 = grind (arith, nat_tests) in
    record { before = refl; whole = ap (λ b. b ∷ xs) e }
end_at (x ∷ xs) (suc at) h before is =
    let later = end_at xs at (omega arith) (λ k l e. before (suc k) (omega arith) e) is in
    let cases : (t : Bool) → eqb x 10 ≡ t → eqb x 10 ≡ false = elim [ true ↦ λ e. absurd (before 0 (omega arith) e) | false ↦ λ e. e ] in
    let place : suc at + 1 ≡ suc (at + 1) = omega arith in
    record {
      before = part_more x (take at xs) (cases (eqb x 10) refl) later.before;
      whole = rw place (ap (λ ys. x ∷ ys) later.whole);
    }

pub found_end : (xs : List ℕ) (r : Option ℕ) → IsFirstByte (is_byte 10) xs r → IfSome r (IsEnd xs)
found_end xs None h = tt
found_end xs (Some at) h = end_at xs at h.0.high (λ k l e. h.0.before k (omega arith) l e) h.1

pub found_none : (xs : List ℕ) (r : Option ℕ) → IsFirstByte (is_byte 10) xs r → r ≡ None → whole_lines xs ≡ []
found_none xs None h e = no_end xs (λ k l t. h k (omega arith) l t)
found_none xs (Some at) h e = absurd (cc)

-- where both of two are nothing
pub both_none : {X : Type 0} (xs ys : List X) → xs ++ ys ≡ [] → (xs ≡ []) × (ys ≡ [])
both_none [] ys e = (refl, e)
both_none (x ∷ xs) ys e = absurd (cc e)

-- the front of a text without LF has none
pub part_take : (n : ℕ) (p : List ℕ) → whole_lines p ≡ [] → whole_lines (take n p) ≡ []
unfolding extended
part_take n p h =
    let lines : (cut (take n p)).lines ++ (cut ((cut (take n p)).last ++ drop n p)).lines ≡ [] =
    ap (λ (c : Cut). c.lines) (sym (cut_append (take n p) (drop n p)) ∙ ap cut (take-append-drop n p)) ∙ h in
    (both_none _ _ lines).0

-- nor has what stands before the first LF
pub part_before : (n at : ℕ) (xs : List ℕ) → IsEnd xs at → n ≤ at → whole_lines (take n xs) ≡ []
part_before n at xs end h = subst (λ l. whole_lines l ≡ []) (take-take n at xs h) (part_take n (take at xs) end.before)
