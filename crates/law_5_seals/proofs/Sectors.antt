-- The sectors of slots and of the superblock are sealed.
use Rattle.std.proofs.Common.{ℕ, zero, suc, ◌+◌, ◌-◌, ◌*◌, ◌<◌, ◌≤◌, ◌≡◌, ◌⊎◌, ◌&&◌, inl, inr, arith, refl, sym, ap, ◌∙◌, subst, true, false, cond, List, [], ◌∷◌, ◌++◌, length, take, drop, get_or, append_assoc}
use Rattle.std.specs.Prelude.{IsTrue, ◌==◌, nat_le, nat_lt, replicate, Some, None}
use Rattle.std.specs.Option.{option_map}
use Rattle.std.specs.List.{AllByRecursion, list_all}
use Rattle.std.proofs.lemmas.Bool.{and_parts, cases_lt, leb-true}
use Rattle.std.proofs.lemmas.List.{drop_at, get_or-append_right, get_or-drop, get_or_append_left, take_at}
use Rattle.vr_base.specs.Bytes.{IsBytes, bytes16, is_zeros, piece}
use Rattle.vr_base.specs.Versions.{is_version, value_limit}
use Rattle.vr_base.proofs.FieldLaws.{IsBytes-piece, get_or-piece, length-piece}
use Rattle.vr_base.proofs.Places.{drop_both}
use Rattle.vr_base.proofs.ZeroLaws.{are_zeros}
use Rattle.vr_disk.specs.DiskState.{Call, Sync, Face, IsContent}
use Rattle.vr_disk.specs.Sectors.{has, writes}
use Rattle.vr_header.specs.declared.header.Header.{Header}
use Rattle.vr_header.specs.declared.operation.Operation.{Operation}
use Rattle.vr_header.specs.declared.operation.Operation.TheVariants.{Register, Put, Get, Delete}
use Rattle.vr_header.specs.Bodies.{IsOperation, operation_bytes}
use Rattle.vr_header.specs.Made.{Whole, entry_bytes, is_entry_header}
use Rattle.vr_header.specs.Spelling.{IsHeader, Spells, header_bytes}
use Rattle.vr_header.specs.Text.{is_printable, is_text}
use Rattle.vr_header.proofs.HeaderLaws.{length-header_bytes}
use Rattle.vr_header.proofs.Truths.{both}
use Rattle.law_1_machine.specs.Basics.{In}
use Rattle.vr_super.specs.Copies.{IsGood, SuperValue, copy_bytes, count_at, fields_at, first_op, good_fields, is_named, is_closed, is_sealed, list_at, list_bytes, value_of, zeros}
use Rattle.vr_super.specs.Calls.{copy_calls, mend_calls, mend_copy, mend_from, mend_unless, save_from}
use Rattle.vr_super.specs.Opens.{copy_reading}
use Rattle.vr_super.proofs.Format.{behind_copy, length-copy_bytes, length-list_bytes, tail_bytes, value_again}
use Rattle.vr_rings.specs.Calls.{again_calls, header_calls, new_calls, prepare_calls}
use Rattle.vr_rings.specs.Slots.{IsWhole, prepare_bytes, sector_of, slot_of}
use Rattle.vr_rings.proofs.Spelling.{prepare_spells, sector_spells}
use Rattle.vr_disk.specs.Regions.{prepare_place, prepare_sectors, sectors}
use Rattle.vr_disk.proofs.Places.{counted, inside}
use Rattle.law_5_seals.specs.Seals.{IsSealed, Puts, spelled_from}
use Rattle.law_5_seals.proofs.Turning.{headed_sealed, plain_sealed}

-- ---- bytes of texts

-- a byte of a text, or after its end
abbrev pub IsPlain : ℕ → Type 0
IsPlain x = (x ≡ 0) ⊎ ((33 ≤ x) × (x ≤ 126))

abbrev ArePlain : List ℕ → Type 0
ArePlain b = (i : ℕ) → IsPlain (get_or b i 0)

printed : (text : List ℕ) → IsTrue (list_all is_printable text) → ArePlain text
printed [] t i = inl refl
printed (x ∷ xs) t zero =
    let b = both (is_printable x) (list_all is_printable xs) t in
    let r = both (nat_le 33 x) (nat_le x 126) b.0 in
    inr (leb-true 33 x r.0, leb-true x 126 r.1)
printed (x ∷ xs) t (suc i) = printed xs ((both (is_printable x) (list_all is_printable xs) t).1) i

text_plain : (limit : ℕ) (text : List ℕ) → IsTrue (is_text limit text) → ArePlain text
unfolding is_text
text_plain limit text t = printed text ((both (nat_le 1 (length text) && nat_le (length text) limit) (list_all is_printable text) t).1)

plain_both : (a b : List ℕ) → ArePlain a → ArePlain b → ArePlain (a ++ b)
plain_both a b p q i =
    elim (cases_lt i (length a)) [
      | inl l ↦ subst IsPlain (sym (get_or_append_left a b 0 i l)) (p i)
      | inr g ↦ subst IsPlain (sym (get_or-append_right a b (length a) i 0 refl g)) (q (i - length a))
    ]

zeros_plain : (n : ℕ) → ArePlain (replicate n 0)
zeros_plain zero i = inl refl
zeros_plain (suc n) zero = inl refl
zeros_plain (suc n) (suc i) = zeros_plain n i

-- from the fourth byte on
operation_plain : (version : ℕ) (o : Operation) → IsOperation version o → ArePlain (drop 4 (operation_bytes o))
unfolding operation_bytes bytes16
operation_plain version Register g i = inl refl
operation_plain version (Put key value) g i = plain_both key value (text_plain 64 key g.0) (text_plain (value_limit version) value g.1) i
operation_plain version (Get key) g i = subst IsPlain (sym (get_or-drop 2 key i 0)) (text_plain 64 key g (2 + i))
operation_plain version (Delete key) g i = subst IsPlain (sym (get_or-drop 2 key i 0)) (text_plain 64 key g (2 + i))

-- a prepare is plain from byte 132 on
prepare_plain : (e : Whole) → IsWhole e → (i : ℕ) → 132 ≤ i → IsPlain (get_or (prepare_bytes e) i 0)
unfolding prepare_bytes entry_bytes
prepare_plain e w i l =
    let h = header_bytes e.header in
    let o = operation_bytes e.operation in
    let z : List ℕ = replicate (4096 - length (h ++ o)) 0 in
    let n = length-header_bytes e.header w.header in
    let all : (h ++ o) ++ z ≡ h ++ (o ++ z) = append_assoc h o z in
    let past : get_or (h ++ (o ++ z)) i 0 ≡ get_or (o ++ z) (i - length h) 0 = get_or-append_right h (o ++ z) (length h) i 0 refl (omega (arith, n, l)) in
    let k = i - length h - 4 in
    let at : i - length h ≡ 4 + k = omega (arith, n, l) in
    let is : IsPlain (get_or (o ++ z) (i - length h) 0) =
    elim (cases_lt (i - length h) (length o)) [
      | inl in_text ↦ (let t : get_or (o ++ z) (i - length h) 0 ≡ get_or (drop 4 o) k 0 = get_or_append_left o z 0 (i - length h) in_text ∙ (ap (λ m. get_or o m 0) at ∙ sym (get_or-drop 4 o k 0)) in subst IsPlain (sym t) (operation_plain e.header.version e.operation w.entry.body.fits k))
      | inr behind ↦ subst IsPlain (sym (get_or-append_right o z (length o) (i - length h) 0 refl behind)) (zeros_plain (4096 - length (h ++ o)) (i - length h - length o))
    ] in
    subst IsPlain (sym (ap (λ b. get_or b i 0) all ∙ past)) is

-- ---- sectors, one by one

pub piece_content : (k : ℕ) (b : List ℕ) → IsBytes b → k + 512 ≤ length b → IsContent (piece k 512 b)
piece_content k b are l = record { size = length-piece k 512 b l; each = IsBytes-piece k 512 b are }

take_less : (n m : ℕ) (b : List ℕ) → n ≤ m → take n (take m b) ≡ take n b
take_less zero m b l = refl
take_less (suc n) zero b l = absurd (omega (arith, l))
take_less (suc n) (suc m) [] l = refl
take_less (suc n) (suc m) (x ∷ b) l = ap (λ ys. x ∷ ys) (take_less n m b (omega (arith, l)))

module _ (cluster : ℕ) (made : List Header) where
  -- what stands at a place of a sector
  pub at_piece : (k : ℕ) (b : List ℕ) → IsContent (piece k 512 b) → IsPlain (get_or b (k + 110) 0) → IsSealed cluster made (piece k 512 b)
  at_piece k b c p =
      let e = get_or-piece k 512 110 b (omega arith) in
      elim p [
        | inl z ↦ plain_sealed cluster made (piece k 512 b) c (inl (e ∙ z))
        | inr t ↦ plain_sealed cluster made (piece k 512 b) c (inr (omega (arith, e, t), omega (arith, e, t)))
      ]

  -- ---- calls that write pieces

  pub seals_append : (cs ds : List Call) → AllByRecursion (Puts (IsSealed cluster made)) cs → AllByRecursion (Puts (IsSealed cluster made)) ds → AllByRecursion (Puts (IsSealed cluster made)) (cs ++ ds)
  seals_append [] ds a b = b
  seals_append (c ∷ cs) ds a b = (a.0, seals_append cs ds a.1 b)

  pub seals_writes : (n i k : ℕ) (b : List ℕ) → i + n ≤ sectors → ((j : ℕ) → j < n → IsSealed cluster made (piece (k + 512 * j) 512 b)) → AllByRecursion (Puts (IsSealed cluster made)) (writes i n (drop k b))
  unfolding writes piece
  seals_writes zero i k b l h = tt
  seals_writes (suc n) i k b l h =
      let z : k + 512 * 0 ≡ k = omega arith in
      let first : IsSealed cluster made (piece 0 512 (drop k b)) = subst (λ (m : ℕ). IsSealed cluster made (take 512 (drop m b))) z (h 0 (omega arith)) in
      let m : k + 512 ≡ k + 512 = refl in
      let rest = seals_writes n (i + 1) (k + 512) b (omega (arith, l)) (λ j p. (let e : k + 512 * suc j ≡ k + 512 + 512 * j = omega arith in subst (λ (m : ℕ). IsSealed cluster made (take 512 (drop m b))) e (h (suc j) (omega (arith, p))))) in
      ((omega (arith, l), first), subst (λ (x : List ℕ). AllByRecursion (Puts (IsSealed cluster made)) (writes (i + 1) n x)) (sym (drop_both k 512 b)) rest)

  -- ---- slots

  pub header_sealed : (h : Header) → IsHeader h → IsContent (sector_of h) → (is_entry_header h ≡ true → h.op < spelled_from h.cluster → h.cluster ≡ cluster → In h made) → IsSealed cluster made (sector_of h)
  header_sealed h i c m = headed_sealed cluster made (sector_of h) h c i (sector_spells h i) m

  prepare_piece : (e : Whole) → IsWhole e → IsBytes (prepare_bytes e) → length (prepare_bytes e) ≡ 4096 → In e.header made → (j : ℕ) → j < 8 → IsSealed cluster made (piece (0 + 512 * j) 512 (prepare_bytes e))
  unfolding piece
  prepare_piece e w are size m zero l =
      let c = piece_content 0 (prepare_bytes e) are (omega (arith, size)) in
      headed_sealed cluster made (piece 0 512 (prepare_bytes e)) e.header c w.header (take_less 128 512 (prepare_bytes e) (omega arith) ∙ prepare_spells e w.header) (λ _ _ _. m)
  prepare_piece e w are size m (suc j) l = at_piece (0 + 512 * suc j) (prepare_bytes e) (piece_content (0 + 512 * suc j) (prepare_bytes e) are (omega (arith, size, l))) (prepare_plain e w (0 + 512 * suc j + 110) (omega arith))

  prepare_sealed : (version : ℕ) (e : Whole) → IsWhole e → IsBytes (prepare_bytes e) → length (prepare_bytes e) ≡ 4096 → In e.header made → AllByRecursion (Puts (IsSealed cluster made)) (prepare_calls version e)
  unfolding prepare_calls
  prepare_sealed version e w are size m =
      let slot = slot_of e.header in
      let n = prepare_sectors version in
      let most = counted version in
      seals_append (writes (prepare_place version slot) n (prepare_bytes e)) (Sync ∷ [])
      (seals_writes n (prepare_place version slot) 0 (prepare_bytes e) (inside version slot (omega arith)) (λ j l. prepare_piece e w are size m j (omega (arith, l, most)))) (tt, tt)

  pub header_calls_sealed : (h : Header) → IsHeader h → IsContent (sector_of h) → (h.op < spelled_from h.cluster → h.cluster ≡ cluster → In h made) → AllByRecursion (Puts (IsSealed cluster made)) (header_calls h)
  unfolding header_calls
  header_calls_sealed h i c m = ((omega arith, header_sealed h i c (λ _ low own. m low own)), (tt, tt))

  pub new_sealed : (version : ℕ) (e : Whole) → IsWhole e → IsContent (sector_of e.header) → IsBytes (prepare_bytes e) → length (prepare_bytes e) ≡ 4096 → In e.header made → AllByRecursion (Puts (IsSealed cluster made)) (new_calls version e)
  new_sealed version e w c are size m = seals_append (prepare_calls version e) (header_calls e.header) (prepare_sealed version e w are size m) (header_calls_sealed e.header w.header c (λ _ _. m))

  pub again_sealed : (version : ℕ) (e : Whole) → IsWhole e → IsContent (sector_of e.header) → IsBytes (prepare_bytes e) → length (prepare_bytes e) ≡ 4096 → In e.header made → AllByRecursion (Puts (IsSealed cluster made)) (again_calls version e)
  again_sealed version e w c are size m = seals_append (header_calls e.header) (prepare_calls version e) (header_calls_sealed e.header w.header c (λ _ _. m)) (prepare_sealed version e w are size m)

-- ---- copies of the superblock

-- a list of headers from one of them on
list_from : (hs : List Header) (n : ℕ) (z : List ℕ) → AllByRecursion IsHeader hs → n ≤ length hs → drop (128 * n) (list_bytes hs ++ z) ≡ list_bytes (drop n hs) ++ z
unfolding list_bytes
list_from hs zero z a l = refl
list_from [] (suc n) z a l = absurd (omega (arith, l))
list_from (h ∷ hs) (suc n) z a l =
    let b = header_bytes h in
    let size = length-header_bytes h a.0 in
    let m : 128 * suc n ≡ 128 + 128 * n = omega arith in
    let at : drop 128 (b ++ (list_bytes hs ++ z)) ≡ list_bytes hs ++ z = drop_at b (list_bytes hs ++ z) 128 size in
    ap (λ k. drop k ((b ++ list_bytes hs) ++ z)) m
    ∙ (sym (drop_both 128 (128 * n) ((b ++ list_bytes hs) ++ z))
    ∙ (ap (λ x. drop (128 * n) (drop 128 x)) (append_assoc b (list_bytes hs) z) ∙ (ap (drop (128 * n)) at ∙ list_from hs n z a.1 (omega (arith, l)))))

-- one of them, by its number
found_at : (P : Header → Type 0) (hs : List Header) (n : ℕ) → AllByRecursion P hs → n < length hs → (h : Header) × (more : List Header) × (drop n hs ≡ h ∷ more) × P h
found_at P [] n a l = absurd (omega (arith, l))
found_at P (h ∷ hs) zero a l = (h, hs, refl, a.0)
found_at P (h ∷ hs) (suc n) a l = found_at P hs n a.1 (omega (arith, l))

all_two : (P Q : Header → Type 0) (hs : List Header) → AllByRecursion P hs → AllByRecursion Q hs → AllByRecursion (λ h. P h × Q h) hs
all_two P Q [] a b = tt
all_two P Q (h ∷ hs) a b = ((a.0, b.0), all_two P Q hs a.1 b.1)

closed_of : (b : List ℕ) (v : SuperValue) → value_of b ≡ Some v → is_sealed b ≡ true
unfolding value_of
closed_of b v e =
    let o = option_map (λ (hs : List Header). let w : SuperValue = record { fields = fields_at b; headers = hs } in w) (list_at (fields_at b) (first_op (fields_at b) (count_at b)) (count_at b) (drop 128 b)) in
    elim (is_sealed b) as (λ x. cond x o None ≡ Some v → x ≡ true) [ true ↦ λ e. refl | false ↦ λ e. absurd cc ] e

blank_of : (b : List ℕ) → is_sealed b ≡ true → is_zeros (piece 94 34 b) ≡ true
unfolding is_sealed is_closed
blank_of b e =
    let rest = is_zeros (drop (128 + 128 * count_at b) b) && is_named b in
    let modes = nat_lt (get_or b 93 0) 2 in
    let p = and_parts (length b == 10240) (good_fields (fields_at b) (count_at b) && (is_version (get_or b 92 0) && (modes && (is_zeros (piece 94 34 b) && rest)))) e in
    let q = and_parts (good_fields (fields_at b) (count_at b)) (is_version (get_or b 92 0) && (modes && (is_zeros (piece 94 34 b) && rest))) p.1 in
    let r = and_parts (is_version (get_or b 92 0)) (modes && (is_zeros (piece 94 34 b) && rest)) q.1 in
    let s = and_parts modes (is_zeros (piece 94 34 b) && rest) r.1 in
    (and_parts (is_zeros (piece 94 34 b)) rest s.1).0

-- the bytes after the fields, from a header of the list on, or after them all
module _ (cluster : ℕ) (made : List Header) (v : SuperValue) (g : IsGood v) (are : IsBytes (copy_bytes v)) (m : AllByRecursion (λ h. In h made) v.headers) where
  abbrev hs : List Header
  hs = v.headers

  abbrev rest : List ℕ
  rest = zeros (10112 - 128 * length v.headers)

  size : length (copy_bytes v) ≡ 10240
  size = length-copy_bytes v g

  -- after the list there are zeros
  past_list : (i : ℕ) → 128 * length hs ≤ i → IsPlain (get_or (tail_bytes v) i 0)
  unfolding zeros
  past_list i l =
      let n = length-list_bytes hs g.each in
      subst IsPlain (sym (get_or-append_right (list_bytes hs) rest (length (list_bytes hs)) i 0 refl (omega (arith, n, l)))) (zeros_plain (10112 - 128 * length hs) (i - length (list_bytes hs)))

  tail_at : (i : ℕ) → 128 ≤ i → get_or (copy_bytes v) i 0 ≡ get_or (tail_bytes v) (i - 128) 0
  tail_at i l = let e : i ≡ 128 + (i - 128) = omega (arith, l) in ap (λ k. get_or (copy_bytes v) k 0) e ∙ (sym (get_or-drop 128 (copy_bytes v) (i - 128) 0) ∙ ap (λ b. get_or b (i - 128) 0) (behind_copy v g.numbers))

  -- byte 110 is one of the zeros after the fields
  blank : get_or (copy_bytes v) 110 0 ≡ 0
  blank =
      let zeros_there = blank_of (copy_bytes v) (closed_of (copy_bytes v) v (value_again v g)) in
      let n = length-piece 94 34 (copy_bytes v) (let s = size in omega (arith, s)) in
      let all : piece 94 34 (copy_bytes v) ≡ replicate 34 0 = are_zeros (piece 94 34 (copy_bytes v)) zeros_there ∙ ap (λ k. replicate k 0) n in
      sym (get_or-piece 94 34 16 (copy_bytes v) (omega arith)) ∙ ap (λ b. get_or b 16 0) all

  copy_piece : (j : ℕ) → j < 20 → IsSealed cluster made (piece (0 + 512 * j) 512 (copy_bytes v))
  unfolding piece list_bytes
  copy_piece zero l = at_piece cluster made 0 (copy_bytes v) (piece_content 0 (copy_bytes v) are (let s = size in omega (arith, s))) (inl blank)
  copy_piece (suc j) l =
      let k = 0 + 512 * suc j in
      let s = size in
      let c = piece_content k (copy_bytes v) are (omega (arith, s, l)) in
      let n = 4 * j + 3 in
      let at : k ≡ 128 + 128 * n = omega arith in
      elim (cases_lt n (length hs)) [
        | inl there ↦
            let x = found_at (λ h. IsHeader h × In h made) hs n (all_two IsHeader (λ h. In h made) hs g.each m) there in
            let h = x.0 in
            let whole : drop k (copy_bytes v) ≡ header_bytes h ++ (list_bytes x.1 ++ rest) =
            ap (λ i. drop i (copy_bytes v)) at
            ∙ (sym (drop_both 128 (128 * n) (copy_bytes v))
            ∙ (ap (drop (128 * n)) (behind_copy v g.numbers)
            ∙ (list_from hs n rest g.each (omega (arith, there)) ∙ (ap (λ ys. list_bytes ys ++ rest) x.2 ∙ append_assoc (header_bytes h) (list_bytes x.1) rest)))) in
            let spells : Spells h (take 512 (drop k (copy_bytes v))) = take_less 128 512 (drop k (copy_bytes v)) (omega arith) ∙ (ap (take 128) whole ∙ take_at (header_bytes h) (list_bytes x.1 ++ rest) 128 (length-header_bytes h x.3.0)) in
            headed_sealed cluster made (piece k 512 (copy_bytes v)) h c x.3.0 spells (λ _ _ _. x.3.1)
        | inr none ↦ at_piece cluster made k (copy_bytes v) c (subst IsPlain (sym (tail_at (k + 110) (omega arith))) (past_list (k + 110 - 128) (omega (arith, none))))
      ]

  copy_sealed : (copy : ℕ) → copy < 4 → AllByRecursion (Puts (IsSealed cluster made)) (copy_calls copy (copy_bytes v))
  unfolding copy_calls
  copy_sealed copy l = seals_append cluster made (writes (20 * copy) 20 (copy_bytes v)) (Sync ∷ []) (seals_writes cluster made 20 (20 * copy) 0 (copy_bytes v) (omega (arith, l)) copy_piece) (tt, tt)

  mend_copy_sealed : (copy : ℕ) → copy < 4 → AllByRecursion (Puts (IsSealed cluster made)) (mend_copy copy (copy_bytes v))
  unfolding mend_copy
  mend_copy_sealed copy l =
      let later = seals_writes cluster made 19 (20 * copy + 1) 512 (copy_bytes v) (omega (arith, l)) (λ j p. (let e : 0 + 512 * suc j ≡ 512 + 512 * j = omega arith in subst (λ i. IsSealed cluster made (piece i 512 (copy_bytes v))) e (copy_piece (suc j) (omega (arith, p))))) in
      ((omega (arith, l), copy_piece 0 (omega arith)), (tt, seals_append cluster made (writes (20 * copy + 1) 19 (drop 512 (copy_bytes v))) (Sync ∷ []) later (tt, tt)))

  mends_sealed : (n k : ℕ) (f : Face) → k + n ≤ 4 → AllByRecursion (Puts (IsSealed cluster made)) (mend_from k n (copy_bytes v) f)
  unfolding mend_from
  mends_sealed zero k f l = tt
  mends_sealed (suc n) k f l =
      let b = copy_bytes v in
      let first : AllByRecursion (Puts (IsSealed cluster made)) (mend_unless k b f) = elim (has b (copy_reading f k)) as (λ t. AllByRecursion (Puts (IsSealed cluster made)) (cond t [] (mend_copy k b))) [ true ↦ tt | false ↦ mend_copy_sealed k (omega (arith, l)) ] in
      seals_append cluster made (mend_unless k b f) (mend_from (k + 1) n b f) first (mends_sealed n (k + 1) f (omega (arith, l)))

  pub saves_sealed : (n k : ℕ) → k + n ≤ 4 → AllByRecursion (Puts (IsSealed cluster made)) (save_from k n (copy_bytes v))
  unfolding save_from
  saves_sealed zero k l = tt
  saves_sealed (suc n) k l = seals_append cluster made (copy_calls k (copy_bytes v)) (save_from (k + 1) n (copy_bytes v)) (copy_sealed k (omega (arith, l))) (saves_sealed n (k + 1) (omega (arith, l)))

  pub mend_sealed : (f : Face) → AllByRecursion (Puts (IsSealed cluster made)) (mend_calls v f)
  mend_sealed f = mends_sealed 4 0 f (omega arith)
