-- The headers of a good copy, one after another.
use Rattle.std.proofs.Common.{ℕ, zero, suc, arith, ◌+◌, ◌-◌, ◌*◌, ◌≤◌, ◌<◌, ◌≡◌, refl, sym, ap, ◌∙◌, true, List, [], ◌∷◌, ◌++◌, length, drop, Option, Some, None, Result, Ok, Err, append_assoc}
use Rattle.std.specs.Prelude.{is_some}
use Rattle.std.specs.Option.{option_map_or}
use Rattle.std.specs.Result.{result_ok}
use Rattle.std.proofs.lemmas.List.{append-nil, drop-drop}
use Rattle.vr_header.specs.declared.header.Header.{Header}
use Rattle.vr_header.specs.declared.header.HeaderFault.{HeaderFault}
use Rattle.vr_header.specs.Spelling.{decoded, fault_of, decoded_header}
use Rattle.vr_super.specs.declared.fields.Fields.{Fields}
use Rattle.vr_base.specs.Bytes.{IsBytes}
use Rattle.vr_super.specs.Copies.{SuperValue, count_at, fields_at, first_op, list_at, named_bytes, value_of}
use Rattle.vr_super.specs.Laws.{IsSpelled}
use Rattle.vr_super.proofs.Format.{With, count_fits, length-named, rest-copy_bytes, value_found, valued, with_by}
use Rattle.vr_super.proofs.Sealing.{list_past, list_start, list_step}

-- the headers so far, and those that are still to come
pub record Listing (f : Fields) (op count i : ℕ) (bytes : List ℕ) (headers all : List Header) : Type 0 where
  pub rest : List Header
  pub left : list_at f (op + i) (count - i) (drop (128 * i) bytes) ≡ Some rest
  pub whole : all ≡ headers ++ rest

pub listing_starts : (f : Fields) (op count : ℕ) (bytes : List ℕ) (all : List Header) → list_at f op count bytes ≡ Some all → Listing f op count 0 bytes [] all
listing_starts f op count bytes all e = record { rest = all; left = sym (list_start f op count bytes) ∙ e; whole = refl }

-- the next header, if it reads
next : (f : Fields) (op count i : ℕ) (bytes : List ℕ) (headers all : List Header) → i < count → (l : Listing f op count i bytes headers all) → With f (op + i) (result_ok (decoded (drop (128 * i) bytes))) (list_at f (op + (i + 1)) (count - (i + 1)) (drop (128 * (i + 1)) bytes)) l.rest
next f op count i bytes headers all h l = with_by f (op + i) (result_ok (decoded (drop (128 * i) bytes))) (list_at f (op + (i + 1)) (count - (i + 1)) (drop (128 * (i + 1)) bytes)) l.rest (sym (list_step f op count i bytes h) ∙ l.left)

pub listing_goes : (f : Fields) (op count i : ℕ) (bytes : List ℕ) (headers all : List Header) (h : Header) → i < count → decoded (drop (128 * i) bytes) ≡ Ok h → Listing f op count i bytes headers all → Listing f op count (i + 1) bytes (headers ++ h ∷ []) all
listing_goes f op count i bytes headers all h l e x =
    let w = next f op count i bytes headers all l x in
    let read : Some h ≡ Some w.header = ap (λ (r : Result Header HeaderFault). result_ok r) (sym e) ∙ w.read in
    let same : w.header ≡ h = cc in
    record {
      rest = w.others;
      left = w.left;
      whole = x.whole ∙ (ap (λ y. headers ++ y) (w.whole ∙ ap (λ y. y ∷ w.others) same) ∙ sym (append_assoc headers (h ∷ []) w.others));
    }

pub listing_ends : (f : Fields) (op count i : ℕ) (bytes : List ℕ) (headers all : List Header) → count ≤ i → Listing f op count i bytes headers all → headers ≡ all
listing_ends f op count i bytes headers all l x =
    let none : Some [] ≡ Some x.rest = sym (list_past f op count i bytes l) ∙ x.left in
    let same : [] ≡ x.rest = cc in
    sym (x.whole ∙ (ap (λ y. headers ++ y) (sym same) ∙ append-nil headers))

-- ---- headers that read

by_fault : (o : Option HeaderFault) (x h : Header) → option_map_or Err o (Ok x) ≡ Ok h → o ≡ None
by_fault None x h e = refl
by_fault (Some y) x h e = absurd cc

fault_none : (t : List ℕ) (h : Header) (r : Result Header HeaderFault) → decoded t ≡ r → result_ok r ≡ Some h → fault_of t ≡ None
fault_none t h (Ok x) d e = by_fault (fault_of t) (decoded_header t) x d
fault_none t h (Err x) d e = absurd cc

pub decoded_at : (t : List ℕ) → fault_of t ≡ None → decoded t ≡ Ok (decoded_header t)
decoded_at t e = ap (λ (o : Option HeaderFault). option_map_or Err o (Ok (decoded_header t))) e

-- each header of a list
all_read : (n i op : ℕ) (f : Fields) (t : List ℕ) (hs : List Header) → list_at f op n t ≡ Some hs → i < n → fault_of (drop (128 * i) t) ≡ None
unfolding list_at
all_read zero i op f t hs e l = absurd (omega arith)
all_read (suc n) zero op f t hs e l =
    let w = with_by f op (result_ok (decoded t)) (list_at f (op + 1) n (drop 128 t)) hs e in
    fault_none t w.header (decoded t) refl w.read
all_read (suc n) (suc i) op f t hs e l =
    let w = with_by f op (result_ok (decoded t)) (list_at f (op + 1) n (drop 128 t)) hs e in
    let size : 128 + 128 * i ≡ 128 * suc i = omega arith in
    let there = all_read n i (op + 1) f (drop 128 t) w.others w.left (omega arith) in
    ap fault_of (ap (λ m. drop m t) (sym size) ∙ sym (drop-drop (128 * i) 128 t)) ∙ there

-- ---- a good copy has a value

some_of : {X : Type 0} → (o : Option X) → is_some o ≡ true → (x : X) × (o ≡ Some x)
some_of None e = absurd cc
some_of (Some x) e = (x, refl)

pub value_there : (b : List ℕ) → is_some (value_of b) ≡ true → (v : SuperValue) × (value_of b ≡ Some v)
value_there b e = some_of (value_of b) e

pub few : (b : List ℕ) → is_some (value_of b) ≡ true → count_at b ≤ 64
few b e = let p = value_there b e in count_fits (fields_at b) (count_at b) (valued b p.0 p.1).is_sealed.fields

-- its value has the fields at their places and the headers of its list
pub value_is : (b : List ℕ) (hs : List Header) → is_some (value_of b) ≡ true → ((f : Fields) (op : ℕ) (all : List Header) → list_at f op (count_at b) (drop 128 b) ≡ Some all → hs ≡ all)
    → value_of b ≡ Some (record { fields = fields_at b; headers = hs })
value_is b hs e h =
    let p = value_there b e in
    let x = valued b p.0 p.1 in
    let same = h (fields_at b) (first_op (fields_at b) (count_at b)) p.0.headers x.headers in
    p.1 ∙ (ap (λ (f : Fields). let v : SuperValue = record { fields = f; headers = p.0.headers } in Some v) x.fields ∙ ap (λ (l : List Header). let v : SuperValue = record { fields = fields_at b; headers = l } in Some v) (sym same))

pub read_is : (b : List ℕ) (v : SuperValue) → IsBytes b → value_of b ≡ Some v → IsSpelled v (drop 16 b)
read_is b v h e =
    let p = value_found b v h e in
    let text : drop 16 b ≡ named_bytes v = ap (drop 16) p.0 ∙ rest-copy_bytes v in
    record { good = p.1; spelled = text; size = ap length text ∙ length-named v p.1 }

pub spelled_at : (b : List ℕ) (i : ℕ) → is_some (value_of b) ≡ true → i < count_at b → fault_of (drop (128 * i) (drop 128 b)) ≡ None
spelled_at b i e l =
    let p = value_there b e in
    all_read (count_at b) i (first_op (fields_at b) (count_at b)) (fields_at b) (drop 128 b) p.0.headers (valued b p.0 p.1).headers l
