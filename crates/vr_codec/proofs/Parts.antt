-- Lists of Parts: what is spelled is read, and what is read is spelled so.
use Rattle.std.proofs.Common.{◌≡◌, ℕ, zero, suc, ◌+◌, ◌-◌, ◌^◌, ◌≤◌, ◌<◌, ◌⊎◌, inl, inr, Bool, true, false, cond, eqb, leb, ltb, List, [], ◌∷◌, ◌++◌, length, take, drop, get_or, refl, sym, ap, ◌∙◌, arith, subst, append_assoc, length-append, length-take, length-drop, Some, None}
use Rattle.std.specs.Prelude.{◌&&◌, ◌||◌, ◌≢◌, map, not, slice_get}
use Rattle.std.specs.Int.{w16, w64}
use Rattle.std.specs.List.{prefix_len}
use Rattle.std.specs.Option.{option_map_or}
use Rattle.std.proofs.lemmas.Bool.{eqb-true, leb-true, ltb-false}
use Rattle.std.proofs.lemmas.List.{drop_at, take_at, take-append-drop}
use Rattle.vr_base.specs.Bytes.{IsBytes, bytes16, bytes64, number, piece}
use Rattle.vr_base.proofs.FieldLaws.{length-bytes16, length-bytes64, number16_back, number16_of, number64_back, number64_of}
use Rattle.vr_base.proofs.Places.{drop_both, take_both}
use Rattle.vr_header.specs.declared.part.Part.{Part}
use Rattle.vr_header.specs.declared.part.Part.TheVariants.{Here, Lost, Wanted, Unknown, Nothing}
use Rattle.vr_header.specs.Spelling.{decoded_header, header_bytes}
use Rattle.vr_msg.proofs.Short.{length-tags}
use Rattle.vr_msg.specs.declared.statement.DvcBody.{DvcBody}
use Rattle.vr_msg.specs.Logs.{FromOp, IsPartAt}
use Rattle.vr_header.specs.Parts.{has_header}
use Rattle.vr_codec.specs.Reading.{body_at, part_of_tag, parts_at, rest_at}
use Rattle.vr_codec.specs.Shapes.{after_tag, begins_entry, knows, tags_fit}
use Rattle.vr_msg.specs.Spelling.{AreHeaders, headers_bytes, known, parts_bytes, tag}
use Rattle.vr_codec.proofs.Lists.{IsBytes-drop, begins_found, begins_true, header_front, nothing, rest_front}

piece_is : (k n : ℕ) (b : List ℕ) → piece k n b ≡ take n (drop k b)
unfolding piece
piece_is k n b = refl

pub parts_again : (ps : List Part) → AreHeaders (known ps) → parts_at (map tag ps) (headers_bytes (known ps)) ≡ ps
unfolding parts_at part_of_tag rest_at
parts_again [] a = refl
parts_again (Here h ∷ ps) a = rw (header_front h (headers_bytes (known ps)) a.0, rest_front h (headers_bytes (known ps)) a.0) (ap (λ x. Here h ∷ x) (parts_again ps a.1))
parts_again (Lost h ∷ ps) a = rw (header_front h (headers_bytes (known ps)) a.0, rest_front h (headers_bytes (known ps)) a.0) (ap (λ x. Lost h ∷ x) (parts_again ps a.1))
parts_again (Wanted h ∷ ps) a = rw (header_front h (headers_bytes (known ps)) a.0, rest_front h (headers_bytes (known ps)) a.0) (ap (λ x. Wanted h ∷ x) (parts_again ps a.1))
parts_again (Unknown ∷ ps) a = ap (λ x. Unknown ∷ x) (parts_again ps a)
parts_again (Nothing ∷ ps) a = ap (λ x. Nothing ∷ x) (parts_again ps a)

pub tags_true : (version cluster last op : ℕ) (ps : List Part) → AreHeaders (known ps) → FromOp (IsPartAt version cluster last) op ps → tags_fit version cluster last (map tag ps) op (headers_bytes (known ps)) ≡ true
unfolding tags_fit after_tag
tags_true version cluster last op [] a f = refl
tags_true version cluster last op (Here h ∷ ps) a f = rw (begins_true version cluster last op h (headers_bytes (known ps)) a.0 f.0, rest_front h (headers_bytes (known ps)) a.0) (tags_true version cluster last (op + 1) ps a.1 f.1)
tags_true version cluster last op (Lost h ∷ ps) a f = rw (begins_true version cluster last op h (headers_bytes (known ps)) a.0 f.0, rest_front h (headers_bytes (known ps)) a.0) (tags_true version cluster last (op + 1) ps a.1 f.1)
tags_true version cluster last op (Wanted h ∷ ps) a f = rw (begins_true version cluster last op h (headers_bytes (known ps)) a.0 f.0, rest_front h (headers_bytes (known ps)) a.0) (tags_true version cluster last (op + 1) ps a.1 f.1)
tags_true version cluster last op (Unknown ∷ ps) a f = tags_true version cluster last (op + 1) ps a f.1
tags_true version cluster last op (Nothing ∷ ps) a f = tags_true version cluster last (op + 1) ps a f.1

pub run_tags : (ps : List Part) → prefix_len knows (map tag ps) ≡ prefix_len has_header ps
run_tags [] = refl
run_tags (Here h ∷ ps) = ap (λ n. 1 + n) (run_tags ps)
run_tags (Lost h ∷ ps) = ap (λ n. 1 + n) (run_tags ps)
run_tags (Wanted h ∷ ps) = ap (λ n. 1 + n) (run_tags ps)
run_tags (Unknown ∷ ps) = refl
run_tags (Nothing ∷ ps) = refl

at_tag : (ps : List Part) (i : ℕ) → i < length ps → (q : Part) × (slice_get ps i ≡ Some q) × (get_or (map tag ps) i 0 ≡ tag q)
at_tag [] i l = absurd (omega arith)
at_tag (p ∷ ps) zero l = (p, refl, refl)
at_tag (p ∷ ps) (suc i) l = at_tag ps i (omega arith)

suc_not : (n : ℕ) → eqb (suc n) 0 ≡ false
suc_not n =
    let cases : (b : Bool) → eqb (suc n) 0 ≡ b → b ≡ false =
    elim [
      | true ↦ λ e. absurd (let z = eqb-true (suc n) 0 e in omega arith)
      | false ↦ λ e. refl
    ] in
    cases (eqb (suc n) 0) refl

-- the test of the last tag
abbrev pub last_says : List ℕ → Bool
last_says tags = eqb (length tags) 0 || not (eqb (get_or tags (length tags - 1) 0) 0)

tag_says : (q : Part) → q ≢ Nothing → not (eqb (tag q) 0) ≡ true
tag_says (Here h) n = refl
tag_says (Lost h) n = refl
tag_says (Wanted h) n = refl
tag_says Unknown n = refl
tag_says Nothing n = absurd (n refl)

pub last_true : (ps : List Part) → slice_get ps (length ps - 1) ≢ Some Nothing → last_says (map tag ps) ≡ true
last_true [] n = refl
last_true (p ∷ ps) n =
    let at = at_tag (p ∷ ps) (length (p ∷ ps) - 1) (omega arith) in
    let says = tag_says at.0 (λ e. n (at.1 ∙ ap Some e)) in
    let long : eqb (length (map tag (p ∷ ps))) 0 ≡ false = suc_not (length (map tag ps)) in
    let same : length (map tag (p ∷ ps)) - 1 ≡ length (p ∷ ps) - 1 = ap (λ n. n - 1) (length-tags (p ∷ ps)) in
    rw (long, same, at.2) says

pub last_found : (ps : List Part) → last_says (map tag ps) ≡ true → slice_get ps (length ps - 1) ≢ Some Nothing
last_found [] e n = cc
last_found (p ∷ ps) e n =
    let at = at_tag (p ∷ ps) (length (p ∷ ps) - 1) (omega arith) in
    let same : length (map tag (p ∷ ps)) - 1 ≡ length (p ∷ ps) - 1 = ap (λ n. n - 1) (length-tags (p ∷ ps)) in
    let nothing : at.0 ≡ Nothing = (let s : Some at.0 ≡ Some Nothing = sym at.1 ∙ n in cc) in
    let zero_there : get_or (map tag (p ∷ ps)) (length (map tag (p ∷ ps)) - 1) 0 ≡ 0 = ap (λ k. get_or (map tag (p ∷ ps)) k 0) same ∙ (at.2 ∙ ap tag nothing) in
    let long : eqb (length (map tag (p ∷ ps))) 0 ≡ false = suc_not (length (map tag ps)) in
    let f : false ≡ true = rw (long, zero_there) at e in
    absurd cc

-- ---- what is read is spelled so

one_to_three : (t : ℕ) → knows t ≡ true → (t ≡ 1) ⊎ ((t ≡ 2) ⊎ (t ≡ 3))
one_to_three t e = by_number t (leb-true 1 t (both_of (leb 1 t) (leb t 3) e).0) (leb-true t 3 (both_of (leb 1 t) (leb t 3) e).1)
  where
    both_of : (a b : Bool) → (a && b) ≡ true → (a ≡ true) × (b ≡ true)
    both_of true b e = (refl, e)
    both_of false b e = absurd cc

    by_number : (t : ℕ) → 1 ≤ t → t ≤ 3 → (t ≡ 1) ⊎ ((t ≡ 2) ⊎ (t ≡ 3))
    by_number zero l g = absurd (omega arith)
    by_number (suc zero) l g = inl refl
    by_number (suc (suc zero)) l g = inr (inl refl)
    by_number (suc (suc (suc zero))) l g = inr (inr refl)
    by_number (suc (suc (suc (suc n)))) l g = absurd (omega arith)

zero_or_four : (t : ℕ) → knows t ≡ false → ltb 4 t ≡ false → (t ≡ 0) ⊎ (t ≡ 4)
zero_or_four t k e = by_number t k (ltb-false 4 t e)
  where
    by_number : (t : ℕ) → knows t ≡ false → t ≤ 4 → (t ≡ 0) ⊎ (t ≡ 4)
    by_number zero k l = inl refl
    by_number (suc zero) k l = absurd cc
    by_number (suc (suc zero)) k l = absurd cc
    by_number (suc (suc (suc zero))) k l = absurd cc
    by_number (suc (suc (suc (suc zero)))) k l = inr refl
    by_number (suc (suc (suc (suc (suc n))))) k l = absurd (omega arith)

-- the Parts that tags and bytes give
pub record PartsRead (version cluster last op : ℕ) (ts b : List ℕ) : Type 0 where
  pub tags : map tag (parts_at ts b) ≡ ts
  pub spelled : headers_bytes (known (parts_at ts b)) ≡ b
  pub values : AreHeaders (known (parts_at ts b))
  pub parts : FromOp (IsPartAt version cluster last) op (parts_at ts b)

abbrev Step : ℕ → ℕ → ℕ → ℕ → List ℕ → List ℕ → ℕ → Type 0
Step version cluster last op ts b t =
    ((x : List ℕ) → IsBytes x → tags_fit version cluster last ts (op + 1) x ≡ true → PartsRead version cluster last (op + 1) ts x)
    → tags_fit version cluster last (t ∷ ts) op b ≡ true → PartsRead version cluster last op (t ∷ ts) b

-- the test of a header, and the rest
fits_split : (f : Bool) (F : List ℕ → Bool) (x : List ℕ) → option_map_or F (cond f (Some x) None) false ≡ true → (f ≡ true) × (F x ≡ true)
fits_split true F x e = (refl, e)
fits_split false F x e = absurd cc

step_here : (version cluster last op : ℕ) (ts b : List ℕ) → IsBytes b → Step version cluster last op ts b 1
unfolding tags_fit after_tag parts_at part_of_tag rest_at
step_here version cluster last op ts b i more e =
    let p = fits_split (begins_entry version cluster last op b) (tags_fit version cluster last ts (op + 1)) (drop 128 b) e in
    let first = begins_found version cluster last op b i p.0 in
    let rest = more (drop 128 b) (IsBytes-drop 128 b i) p.1 in
    record {
      tags = ap (λ x. 1 ∷ x) rest.tags;
      spelled = ap (λ x. header_bytes (decoded_header b) ++ x) rest.spelled ∙ sym first.front.spelled;
      values = (first.front.header, rest.values);
      parts = (first.entry, rest.parts);
    }

step_lost : (version cluster last op : ℕ) (ts b : List ℕ) → IsBytes b → Step version cluster last op ts b 2
unfolding tags_fit after_tag parts_at part_of_tag rest_at
step_lost version cluster last op ts b i more e =
    let p = fits_split (begins_entry version cluster last op b) (tags_fit version cluster last ts (op + 1)) (drop 128 b) e in
    let first = begins_found version cluster last op b i p.0 in
    let rest = more (drop 128 b) (IsBytes-drop 128 b i) p.1 in
    record {
      tags = ap (λ x. 2 ∷ x) rest.tags;
      spelled = ap (λ x. header_bytes (decoded_header b) ++ x) rest.spelled ∙ sym first.front.spelled;
      values = (first.front.header, rest.values);
      parts = (first.entry, rest.parts);
    }

step_wanted : (version cluster last op : ℕ) (ts b : List ℕ) → IsBytes b → Step version cluster last op ts b 3
unfolding tags_fit after_tag parts_at part_of_tag rest_at
step_wanted version cluster last op ts b i more e =
    let p = fits_split (begins_entry version cluster last op b) (tags_fit version cluster last ts (op + 1)) (drop 128 b) e in
    let first = begins_found version cluster last op b i p.0 in
    let rest = more (drop 128 b) (IsBytes-drop 128 b i) p.1 in
    record {
      tags = ap (λ x. 3 ∷ x) rest.tags;
      spelled = ap (λ x. header_bytes (decoded_header b) ++ x) rest.spelled ∙ sym first.front.spelled;
      values = (first.front.header, rest.values);
      parts = (first.entry, rest.parts);
    }

step_nothing : (version cluster last op : ℕ) (ts b : List ℕ) → IsBytes b → Step version cluster last op ts b 0
unfolding tags_fit after_tag parts_at part_of_tag rest_at
step_nothing version cluster last op ts b i more e =
    let rest = more b i e in
    record { tags = ap (λ x. 0 ∷ x) rest.tags; spelled = rest.spelled; values = rest.values; parts = (tt, rest.parts) }

step_unknown : (version cluster last op : ℕ) (ts b : List ℕ) → IsBytes b → Step version cluster last op ts b 4
unfolding tags_fit after_tag parts_at part_of_tag rest_at
step_unknown version cluster last op ts b i more e =
    let rest = more b i e in
    record { tags = ap (λ x. 4 ∷ x) rest.tags; spelled = rest.spelled; values = rest.values; parts = (tt, rest.parts) }

-- a tag above 4 doesn't fit
at_most_four : (version cluster last op t : ℕ) (ts b : List ℕ) → knows t ≡ false → tags_fit version cluster last (t ∷ ts) op b ≡ true → ltb 4 t ≡ false
unfolding tags_fit after_tag
at_most_four version cluster last op t ts b k e = by_test (knows t) (ltb 4 t) k e
  where
    by_test : (k h : Bool) → k ≡ false
        → option_map_or (λ rest. tags_fit version cluster last ts (op + 1) rest) (cond k (cond (begins_entry version cluster last op b) (Some (drop 128 b)) None) (cond h None (Some b))) false ≡ true
        → h ≡ false
    by_test true h k e = absurd cc
    by_test false true k e = absurd cc
    by_test false false k e = refl

step : (version cluster last op : ℕ) (ts b : List ℕ) → IsBytes b → (t : ℕ) → Step version cluster last op ts b t
step version cluster last op ts b i t more e =
    let at : (n : ℕ) → t ≡ n → Step version cluster last op ts b n → PartsRead version cluster last op (t ∷ ts) b = λ n same s. subst (Step version cluster last op ts b) (sym same) s more e in
    let cases : (k : Bool) → knows t ≡ k → PartsRead version cluster last op (t ∷ ts) b =
    elim [
      | true ↦ λ k. elim (one_to_three t k) [
        | inl n ↦ at 1 n (step_here version cluster last op ts b i)
        | inr r ↦ elim r [
          | inl n ↦ at 2 n (step_lost version cluster last op ts b i)
          | inr n ↦ at 3 n (step_wanted version cluster last op ts b i)
        ]
      ]
      | false ↦ λ k. elim (zero_or_four t k (at_most_four version cluster last op t ts b k e)) [
        | inl n ↦ at 0 n (step_nothing version cluster last op ts b i)
        | inr n ↦ at 4 n (step_unknown version cluster last op ts b i)
      ]
    ] in
    cases (knows t) refl

none_read : (version cluster last op : ℕ) (b : List ℕ) → tags_fit version cluster last [] op b ≡ true → PartsRead version cluster last op [] b
unfolding tags_fit parts_at
none_read version cluster last op b e = record { tags = refl; spelled = nothing b e; values = tt; parts = tt }

pub parts_read : (version cluster last op : ℕ) (ts b : List ℕ) → IsBytes b → tags_fit version cluster last ts op b ≡ true → PartsRead version cluster last op ts b
parts_read version cluster last op [] b i e = none_read version cluster last op b e
parts_read version cluster last op (t ∷ ts) b i e = step version cluster last op ts b i t (λ x j f. parts_read version cluster last (op + 1) ts x j f) e

-- ---- the body of a statement

-- what stands where in it
pub record BodyParts (first : ℕ) (ps : List Part) (b : List ℕ) : Type 0 where
  pub long : length b ≡ 10 + (length ps + length (headers_bytes (known ps)))
  pub first_there : number w64 0 b ≡ first
  pub count : number w16 8 b ≡ length ps
  pub tags : take (number w16 8 b) (drop 10 b) ≡ map tag ps
  pub rest : drop (10 + number w16 8 b) b ≡ headers_bytes (known ps)

pub body_parts : (d : DvcBody) → d.first < 2 ^ 64 → length d.parts < 2 ^ 16 → BodyParts d.first d.parts (parts_bytes d)
unfolding piece
body_parts d f c =
    let ps = d.parts in
    let hs = headers_bytes (known ps) in
    let x = bytes64 d.first in
    let y = bytes16 (length ps) in
    let z = map tag ps in
    let b = x ++ (y ++ (z ++ hs)) in
    let lx = length-bytes64 d.first in
    let ly = length-bytes16 (length ps) in
    let lz = length-tags ps in
    let after : drop 8 b ≡ y ++ (z ++ hs) = drop_at x (y ++ (z ++ hs)) 8 lx in
    let ten : drop 10 b ≡ z ++ hs = sym (drop_both 8 2 b) ∙ (ap (drop 2) after ∙ drop_at y (z ++ hs) 2 ly) in
    let n : number w16 8 b ≡ length ps = number16_of 8 (length ps) b (ap (take 2) after ∙ take_at y (z ++ hs) 2 ly) c in
    record {
      long = omega (arith, length-append x (y ++ (z ++ hs)), length-append y (z ++ hs), length-append z hs, lx, ly, lz);
      first_there = number64_of 0 d.first b (take_at x (y ++ (z ++ hs)) 8 lx) f;
      count = n;
      tags = ap (λ k. take k (drop 10 b)) n ∙ (ap (take (length ps)) ten ∙ take_at z hs (length ps) lz);
      rest = ap (λ k. drop (10 + k) b) n ∙ (sym (drop_both 10 (length ps) b) ∙ (ap (drop (length ps)) ten ∙ drop_at z hs (length ps) lz));
    }

pub body_again : (d : DvcBody) → d.first < 2 ^ 64 → length d.parts < 2 ^ 16 → AreHeaders (known d.parts) → body_at (parts_bytes d) ≡ d
unfolding body_at
body_again d f c a =
    let p = body_parts d f c in
    let ps : parts_at (take (number w16 8 (parts_bytes d)) (drop 10 (parts_bytes d))) (drop (10 + number w16 8 (parts_bytes d)) (parts_bytes d)) ≡ d.parts =
    ap (λ t. parts_at t (drop (10 + number w16 8 (parts_bytes d)) (parts_bytes d))) p.tags ∙ (ap (parts_at (map tag d.parts)) p.rest ∙ parts_again d.parts a) in
    ap (λ (n : ℕ). let x : DvcBody = record { first = n; parts = parts_at (take (number w16 8 (parts_bytes d)) (drop 10 (parts_bytes d))) (drop (10 + number w16 8 (parts_bytes d)) (parts_bytes d)) } in x) p.first_there
    ∙ ap (λ (l : List Part). let x : DvcBody = record { first = d.first; parts = l } in x) ps

pub body_spelled : (version cluster last : ℕ) (b : List ℕ) → IsBytes b → 10 + number w16 8 b ≤ length b
    → PartsRead version cluster last (number w64 0 b) (take (number w16 8 b) (drop 10 b)) (drop (10 + number w16 8 b) b) → parts_bytes (body_at b) ≡ b
unfolding body_at
body_spelled version cluster last b i l r =
    let n = number w16 8 b in
    let ts = take n (drop 10 b) in
    let rest = drop (10 + n) b in
    let ps = parts_at ts rest in
    let lt : length ts ≡ n = omega (arith, length-take n (drop 10 b), length-drop 10 b) in
    let lp : length ps ≡ n = sym (length-tags ps) ∙ (ap length r.tags ∙ lt) in
    let first : bytes64 (number w64 0 b) ≡ take 8 b = (number64_back 0 b i (omega arith)).0 ∙ piece_is 0 8 b in
    let count : bytes16 (length ps) ≡ take 2 (drop 8 b) = ap bytes16 lp ∙ ((number16_back 8 b i (omega arith)).0 ∙ piece_is 8 2 b) in
    ap (λ x. x ++ (bytes16 (length ps) ++ (map tag ps ++ headers_bytes (known ps)))) first
    ∙ (ap (λ y. take 8 b ++ (y ++ (map tag ps ++ headers_bytes (known ps)))) count
    ∙ (ap (λ z. take 8 b ++ (take 2 (drop 8 b) ++ (z ++ headers_bytes (known ps)))) r.tags
    ∙ (ap (λ hs. take 8 b ++ (take 2 (drop 8 b) ++ (ts ++ hs))) r.spelled ∙ joins n b)))
  where
    joins : (n : ℕ) (b : List ℕ) → take 8 b ++ (take 2 (drop 8 b) ++ (take n (drop 10 b) ++ drop (10 + n) b)) ≡ b
    joins n b =
        sym (append_assoc (take 8 b) (take 2 (drop 8 b)) (take n (drop 10 b) ++ drop (10 + n) b))
        ∙ (ap (λ x. x ++ (take n (drop 10 b) ++ drop (10 + n) b)) (take_both 8 2 b)
        ∙ (sym (append_assoc (take 10 b) (take n (drop 10 b)) (drop (10 + n) b))
        ∙ (ap (λ x. x ++ drop (10 + n) b) (take_both 10 n b) ∙ take-append-drop (10 + n) b)))
