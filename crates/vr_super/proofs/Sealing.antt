-- A copy judged part by part.
use Rattle.std.proofs.Common.{ℕ, suc, ◌+◌, ◌-◌, ◌*◌, ◌%◌, ◌^◌, ◌≤◌, ◌<◌, ◌≡◌, arith, refl, ap, ◌∙◌, Bool, true, false, cond, eqb, leb, ◌&&◌, List, [], ◌∷◌, length, drop, Option, Some, None}
use Rattle.std.specs.Prelude.{is_some, min}
use Rattle.std.specs.Option.{option_map}
use Rattle.std.specs.Result.{result_ok}
use Rattle.std.proofs.lemmas.Bool.{and_parts, eq-eqb, leb-true}
use Rattle.std.proofs.lemmas.List.{drop-drop}
use Rattle.vr_header.specs.declared.header.Header.{Header}
use Rattle.vr_header.specs.Spelling.{decoded}
use Rattle.vr_super.specs.declared.fields.Fields.{Fields}
use Rattle.vr_super.specs.Copies.{SuperValue, count_at, fields_at, first_op, good_count, good_fields, good_member, good_root, good_window, is_closed, is_listed, is_sealed, list_at, value_of, with_listed}

-- a value's fields and count that stand
pub head_holds : (f : Fields) (count : ℕ) → good_fields f count ≡ true → count ≤ f.head
unfolding good_fields
head_holds f count e =
    let p = and_parts (good_member f) (good_window f && (good_root f && good_count f count)) e in
    let q = and_parts (good_window f) (good_root f && good_count f count) p.1 in
    let r = and_parts (good_root f) (good_count f count) q.1 in
    let s = and_parts (leb (f.head - f.checkpoint) count && leb (min f.head 1) count) (leb count f.head && leb count 64) r.1 in
    leb-true count f.head (and_parts (leb count f.head) (leb count 64) s.1).0

list_cons : (f : Fields) (op n : ℕ) (bytes : List ℕ) → list_at f op (suc n) bytes ≡ with_listed f op (result_ok (decoded bytes)) (list_at f (op + 1) n (drop 128 bytes))
unfolding list_at
list_cons f op n bytes = refl

-- the list from its i-th header on
pub list_step : (f : Fields) (op count i : ℕ) (bytes : List ℕ) → i < count
    → list_at f (op + i) (count - i) (drop (128 * i) bytes) ≡ with_listed f (op + i) (result_ok (decoded (drop (128 * i) bytes))) (list_at f (op + (i + 1)) (count - (i + 1)) (drop (128 * (i + 1)) bytes))
list_step f op count i bytes l =
    let n : count - i ≡ suc (count - (i + 1)) = omega arith in
    let o : op + i + 1 ≡ op + (i + 1) = omega arith in
    let d : 128 * i + 128 ≡ 128 * (i + 1) = omega arith in
    let first = result_ok (decoded (drop (128 * i) bytes)) in
    ap (λ m. list_at f (op + i) m (drop (128 * i) bytes)) n
    ∙ (list_cons f (op + i) (count - (i + 1)) (drop (128 * i) bytes)
    ∙ (ap (λ m. with_listed f (op + i) first (list_at f m (count - (i + 1)) (drop 128 (drop (128 * i) bytes)))) o
    ∙ ap (λ b. with_listed f (op + i) first (list_at f (op + (i + 1)) (count - (i + 1)) b)) (drop-drop 128 (128 * i) bytes ∙ ap (λ m. drop m bytes) d)))

pub list_past : (f : Fields) (op count i : ℕ) (bytes : List ℕ) → count ≤ i → list_at f (op + i) (count - i) (drop (128 * i) bytes) ≡ Some []
unfolding list_at
list_past f op count i bytes l = let z : count - i ≡ 0 = omega arith in rw z refl

pub list_start : (f : Fields) (op count : ℕ) (bytes : List ℕ) → list_at f op count bytes ≡ list_at f (op + 0) (count - 0) (drop (128 * 0) bytes)
list_start f op count bytes = let a : op + 0 ≡ op = omega arith in let b : count - 0 ≡ count = omega arith in rw (a, b) refl

-- a header more, or none
and_false : (p : Bool) → false ≡ (p && false)
and_false true = refl
and_false false = refl

pub with_rest : (f : Fields) (op : ℕ) (o : Option Header) (rest : Option (List Header)) → is_some (with_listed f op o rest) ≡ (is_some (with_listed f op o (Some [])) && is_some rest)
with_rest f op None rest = refl
with_rest f op (Some h) None = elim (is_listed f op h) as (λ b. is_some (cond b (option_map (λ (hs : List Header). h ∷ hs) None) None) ≡ (is_some (cond b (Some (h ∷ [])) None) && false)) [ true ↦ refl | false ↦ refl ]
with_rest f op (Some h) (Some hs) = elim (is_listed f op h) as (λ b. is_some (cond b (Some (h ∷ hs)) None) ≡ (is_some (cond b (Some (h ∷ [])) None) && true)) [ true ↦ refl | false ↦ refl ]

pub listed_by : (f : Fields) (op : ℕ) (h : Header) → is_listed f op h ≡ is_some (with_listed f op (Some h) (Some []))
listed_by f op h = elim (is_listed f op h) as (λ b. b ≡ is_some (cond b (Some (h ∷ [])) None)) [ true ↦ refl | false ↦ refl ]

some_map : {X Y : Type 0} → (g : X → Y) (o : Option X) → is_some (option_map g o) ≡ is_some o
some_map g None = refl
some_map g (Some x) = refl

pub good_by : (b : List ℕ) → length b ≡ 10240 → good_fields (fields_at b) (count_at b) ≡ true
    → is_some (value_of b) ≡ (is_closed b && is_some (list_at (fields_at b) (first_op (fields_at b) (count_at b)) (count_at b) (drop 128 b)))
unfolding value_of is_sealed
good_by b l g =
    let list = list_at (fields_at b) (first_op (fields_at b) (count_at b)) (count_at b) (drop 128 b) in
    let made = option_map (λ (hs : List Header). let w : SuperValue = record { fields = fields_at b; headers = hs } in w) list in
    rw (eq-eqb (length b) 10240 l, g)
    (elim (is_closed b) as (λ x. is_some (cond x made None) ≡ (x && is_some list)) [
      | true ↦ some_map (λ (hs : List Header). let w : SuperValue = record { fields = fields_at b; headers = hs } in w) list
      | false ↦ refl
    ])

pub bad_by : (b : List ℕ) → length b ≡ 10240 → good_fields (fields_at b) (count_at b) ≡ false → is_some (value_of b) ≡ false
unfolding value_of is_sealed
bad_by b l g = rw (eq-eqb (length b) 10240 l, g) refl

pub window_holds : (f : Fields) (count : ℕ) → good_fields f count ≡ true → f.head ≤ 2 ^ 62
unfolding good_fields
window_holds f count e =
    let p = and_parts (good_member f) (good_window f && (good_root f && good_count f count)) e in
    let q = and_parts (good_window f) (good_root f && good_count f count) p.1 in
    let r = and_parts (eqb (f.checkpoint % 32) 0) ((leb f.checkpoint f.commit && leb f.commit f.head) && (leb (f.head - f.checkpoint) 64 && leb f.head (2 ^ 62))) q.0 in
    let s = and_parts (leb f.checkpoint f.commit && leb f.commit f.head) (leb (f.head - f.checkpoint) 64 && leb f.head (2 ^ 62)) r.1 in
    leb-true f.head (2 ^ 62) (and_parts (leb (f.head - f.checkpoint) 64) (leb f.head (2 ^ 62)) s.1).1
