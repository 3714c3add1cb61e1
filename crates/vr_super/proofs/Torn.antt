-- A copy that was being written when the stop came: it is good with the value's bytes, or as before, or bad.
use Rattle.std.proofs.Common.{ℕ, ◌+◌, ◌-◌, ◌*◌, ◌<◌, ◌≤◌, ◌≡◌, ◌⊎◌, inl, inr, arith, refl, sym, ap, ◌∙◌, subst, cond, List, [], ◌∷◌, ◌++◌, length, take, drop, get_or, Option, Some, None}
use Rattle.std.specs.Prelude.{bit_xor, is_some}
use Rattle.std.specs.List.{AllByRecursion}
use Rattle.std.proofs.lemmas.Bool.{cases_lt}
use Rattle.std.proofs.lemmas.List.{get_or-map, get_or-take, get_or_append_left, length-map, length-take, take-take, take-append-le, take-append-drop, take_at}
use Rattle.vr_base.specs.Bytes.{name_of, piece}
use Rattle.vr_disk.specs.DiskState.{Call, Write, Sync, Face, Cell, IsFace, after_all, damaged, reads}
use Rattle.vr_disk.specs.Regions.{sectors}
use Rattle.vr_disk.specs.Stops.{halted, WritesOnly}
use Rattle.vr_disk.proofs.Frames.{reads_back}
use Rattle.vr_disk.proofs.Faces.{there}
use Rattle.vr_disk.specs.Sectors.{together, writes}
use Rattle.vr_disk.proofs.Together.{only_append, spares_append, together_first, together_same, writes_only, writes_spare}
use Rattle.vr_disk.proofs.Halting.{frame_halted, halt_leaves, halts_both}
use Rattle.vr_super.specs.Copies.{IsGood, SuperValue, copy_bytes, named_bytes, value_of}
use Rattle.vr_super.specs.Opens.{copy_reading, good_copy, if_good}
use Rattle.vr_super.specs.Calls.{copy_calls, mend_copy}
use Rattle.vr_super.specs.Laws.{TellsApart}
use Rattle.vr_super.proofs.Format.{IsVersion, good_named, good_version, length-copy_bytes, name-copy_bytes, rest-copy_bytes, value_again}

-- the value's first sector
abbrev pub head_of : SuperValue → List ℕ
head_of v = piece 0 512 (copy_bytes v)

head_length : (v : SuperValue) → IsGood v → length (head_of v) ≡ 512
unfolding piece
head_length v g = let l = length-copy_bytes v g in let t = length-take 512 (copy_bytes v) in omega arith

-- a good copy whose first sector is the value's has its bytes
same_head : (v : SuperValue) (b : List ℕ) (u : SuperValue) (rest : List ℕ) → IsGood v → b ≡ head_of v ++ rest → value_of b ≡ Some u
    → (name_of (drop 16 b) ≡ name_of (named_bytes v) → drop 16 b ≡ named_bytes v) → b ≡ copy_bytes v
unfolding piece
same_head v b u rest g e h t =
    let l = head_length v g in
    let front : take 16 b ≡ take 16 (copy_bytes v) = ap (take 16) e ∙ (take-append-le 16 (head_of v) rest (omega arith) ∙ take-take 16 512 (copy_bytes v) (omega arith)) in
    let name : name_of (drop 16 b) ≡ name_of (named_bytes v) = sym (good_named b u h) ∙ (front ∙ name-copy_bytes v) in
    sym (take-append-drop 16 b) ∙ (ap (λ x. x ++ drop 16 b) front ∙ (ap (λ x. take 16 (copy_bytes v) ++ x) (t name ∙ sym (rest-copy_bytes v)) ∙ take-append-drop 16 (copy_bytes v)))

some_same : (a b : List ℕ) → Some a ≡ Some b → a ≡ b
some_same a b e = cc

-- a byte of a version that is damaged is no version's
turned_version : (b : List ℕ) → 92 < length b → IsVersion (get_or b 92 0) → 253 ≤ get_or (damaged b) 92 0
turned_version b l v =
    let turned = get_or-map (λ b. bit_xor b 255) b 92 0 0 l in
    elim (cases_lt 1 (get_or b 92 0)) [
      | inl above ↦ let two : get_or b 92 0 ≡ 2 = omega (arith, v, above) in let e = turned ∙ ap (λ b. bit_xor b 255) two in omega (arith, e)
      | inr low ↦ let one : get_or b 92 0 ≡ 1 = omega (arith, v, low) in let e = turned ∙ ap (λ b. bit_xor b 255) one in omega (arith, e)
    ]

version_damaged : (v : SuperValue) (b : List ℕ) (u : SuperValue) (rest : List ℕ) → IsGood v → b ≡ damaged (head_of v) ++ rest → value_of b ≡ Some u → ⊥
unfolding piece
version_damaged v b u rest g e h =
    let l = head_length v g in
    let there : IsVersion (get_or (head_of v) 92 0) = subst IsVersion (sym (get_or-take 512 (copy_bytes v) 92 0 (omega arith))) (good_version (copy_bytes v) v (value_again v g)) in
    let turned = turned_version (head_of v) (omega arith) there in
    let d = length-map (head_of v) (λ b. bit_xor b 255) in
    let here : get_or b 92 0 ≡ get_or (damaged (head_of v)) 92 0 = ap (λ x. get_or x 92 0) e ∙ get_or_append_left (damaged (head_of v)) rest 0 92 (omega arith) in
    let within = good_version b u h in
    omega (arith, turned, here, within.1)

bad_reading : (r : Option (List ℕ)) → ((b : List ℕ) (u : SuperValue) → r ≡ Some b → value_of b ≡ Some u → ⊥) → if_good r ≡ None
bad_reading None h = refl
bad_reading (Some b) h =
    elim (value_of b) as (λ o. value_of b ≡ o → cond (is_some o) (Some b) None ≡ None) [
      | Some u ↦ λ e. absurd (h b u refl e)
      | None ↦ λ e. refl
    ] refl

-- a copy is good or bad
abbrev pub OneOf : List ℕ → Option (List ℕ) → Type 0
OneOf bytes c = (c ≡ Some bytes) ⊎ (c ≡ None)

by_reading : (r : Option (List ℕ)) (bytes : List ℕ) → ((b : List ℕ) (u : SuperValue) → r ≡ Some b → value_of b ≡ Some u → b ≡ bytes) → OneOf bytes (if_good r)
by_reading None bytes h = inr refl
by_reading (Some b) bytes h =
    elim (value_of b) as (λ o. value_of b ≡ o → OneOf bytes (cond (is_some o) (Some b) None)) [
      | Some u ↦ λ e. inl (ap Some (h b u refl e))
      | None ↦ λ e. inr refl
    ] refl

-- the first sector reads as the value's: the copy is the value's, or bad
pub head_tells : (v : SuperValue) (f : Face) (c : ℕ) → IsGood v → c < 4 → reads f (20 * c) ≡ Some (head_of v) → TellsApart f v → OneOf (copy_bytes v) (good_copy f c)
unfolding good_copy copy_reading
head_tells v f c g l e t =
    by_reading (together (20 * c) 20 f) (copy_bytes v) (λ b u r h.
    let x = together_first 19 (20 * c) f b r in
    let same : x.first ≡ head_of v = some_same x.first (head_of v) (sym x.reads ∙ e) in
    same_head v b u x.rest g (x.whole ∙ ap (λ y. y ++ x.rest) same) h (t c b l r))

-- the first sector is damaged: the copy is bad
pub damaged_bad : (v : SuperValue) (f : Face) (c : ℕ) → IsGood v → reads f (20 * c) ≡ Some (damaged (head_of v)) → good_copy f c ≡ None
unfolding good_copy copy_reading
damaged_bad v f c g e =
    bad_reading (together (20 * c) 20 f) (λ b u r h.
    let x = together_first 19 (20 * c) f b r in
    let same : x.first ≡ damaged (head_of v) = some_same x.first (damaged (head_of v)) (sym x.reads ∙ e) in
    version_damaged v b u x.rest g (x.whole ∙ ap (λ y. y ++ x.rest) same) h)

-- ---- a copy in the midst of its writes

copy_only : (c : ℕ) (bytes : List ℕ) → AllByRecursion (WritesOnly (20 * c) (piece 0 512 bytes)) (copy_calls c bytes)
unfolding copy_calls writes
copy_only c bytes = ((λ e. refl), only_append (20 * c) (piece 0 512 bytes) (writes (20 * c + 1) 19 (drop 512 bytes)) (Sync ∷ []) (writes_only 19 (20 * c + 1) (20 * c) (piece 0 512 bytes) (drop 512 bytes) (omega arith)) (tt, tt))

-- the first sector of a copy that reads as a value
pub head_reads : (v : SuperValue) (f : Face) (c : ℕ) → IsGood v → IsFace f → c < 4 → copy_reading f c ≡ Some (copy_bytes v) → reads f (20 * c) ≡ Some (head_of v)
unfolding copy_reading piece
head_reads v f c g h l e =
    let x = together_first 19 (20 * c) f (copy_bytes v) e in
    let size = (there f (20 * c) h (omega arith)).reads x.first x.reads in
    x.reads ∙ ap Some (sym (ap (take 512) x.whole ∙ take_at x.first x.rest 512 size.size))

-- one of these values, or bad
abbrev pub Either : List ℕ → List ℕ → Option (List ℕ) → Type 0
Either a b c = (c ≡ Some a) ⊎ ((c ≡ Some b) ⊎ (c ≡ None))

pub copy_torn : (old new : SuperValue) (f : Face) (c : ℕ) (how : Option ℕ) (j : ℕ) → IsGood old → IsGood new → length f.cells ≡ sectors → f.waiting ≡ [] → c < 4 → reads f (20 * c) ≡ Some (head_of old)
    → let g = halted how j f (copy_calls c (copy_bytes new)) in TellsApart g old → TellsApart g new → Either (copy_bytes old) (copy_bytes new) (good_copy g c)
copy_torn old new f c how j go gn n w l before to tn =
    let calls = copy_calls c (copy_bytes new) in
    let g = halted how j f calls in
    elim (halt_leaves calls f (20 * c) (head_of new) how j (omega arith) (copy_only c (copy_bytes new)) (rw w refl)) [
      | inl e ↦ elim (head_tells old g c go l (e ∙ before) to) [ inl x ↦ inl x | inr x ↦ inr (inr x) ]
      | inr y ↦ elim y [
        | inl e ↦ elim (head_tells new g c gn l e tn) [ inl x ↦ inr (inl x) | inr x ↦ inr (inr x) ]
        | inr e ↦ inr (inr (damaged_bad new g c gn e))
      ]
    ]

-- mending: as before, or the value's, or bad
abbrev first_calls : ℕ → List ℕ → List Call
first_calls c bytes = Write (20 * c) (piece 0 512 bytes) ∷ Sync ∷ []

abbrev rest_calls : ℕ → List ℕ → List Call
rest_calls c bytes = writes (20 * c + 1) 19 (drop 512 bytes) ++ Sync ∷ []

mend_first : (v : SuperValue) (f : Face) (c : ℕ) (how : Option ℕ) (j : ℕ) → IsGood v → length f.cells ≡ sectors → f.waiting ≡ [] → c < 4
    → let g = halted how j f (first_calls c (copy_bytes v)) in TellsApart g v → (copy_reading g c ≡ copy_reading f c) ⊎ OneOf (copy_bytes v) (good_copy g c)
unfolding copy_reading
mend_first v f c how j gv n w l t =
    let calls = first_calls c (copy_bytes v) in
    let g = halted how j f calls in
    let others : (k : ℕ) → 20 * c < k → reads g k ≡ reads f k = λ k a. ap (λ (c : Cell). c.reads) (frame_halted calls f k how j ((λ e. omega arith), (tt, tt)) (rw w refl)) in
    elim (halt_leaves calls f (20 * c) (head_of v) how j (omega arith) ((λ e. refl), (tt, tt)) (rw w refl)) [
      | inl e ↦ inl (together_same 20 (20 * c) f g (λ k a b. elim (cases_lt (20 * c) k) [ inl m ↦ others k m | inr m ↦ let same : k ≡ 20 * c = omega arith in rw same e ]))
      | inr y ↦ elim y [
        | inl e ↦ inr (head_tells v g c gv l e t)
        | inr e ↦ inr (inr (damaged_bad v g c gv e))
      ]
    ]

mend_rest : (v : SuperValue) (f : Face) (c : ℕ) (how : Option ℕ) (j : ℕ) → IsGood v → f.waiting ≡ [] → c < 4 → reads f (20 * c) ≡ Some (head_of v)
    → let g = halted how j f (rest_calls c (copy_bytes v)) in TellsApart g v → OneOf (copy_bytes v) (good_copy g c)
mend_rest v f c how j gv w l e t =
    let calls = rest_calls c (copy_bytes v) in
    let g = halted how j f calls in
    let spared = spares_append (20 * c) (writes (20 * c + 1) 19 (drop 512 (copy_bytes v))) (Sync ∷ []) (writes_spare 19 (20 * c + 1) (20 * c) (drop 512 (copy_bytes v)) (omega arith)) (tt, tt) in
    head_tells v g c gv l (ap (λ (c : Cell). c.reads) (frame_halted calls f (20 * c) how j spared (rw w refl)) ∙ e) t

pub mend_torn : (v : SuperValue) (f : Face) (c : ℕ) (how : Option ℕ) (j : ℕ) → IsGood v → length f.cells ≡ sectors → f.waiting ≡ [] → c < 4
    → let g = halted how j f (mend_copy c (copy_bytes v)) in TellsApart g v → (copy_reading g c ≡ copy_reading f c) ⊎ OneOf (copy_bytes v) (good_copy g c)
unfolding mend_copy
mend_torn v f c how j gv n w l t =
    let first = first_calls c (copy_bytes v) in
    let rest = rest_calls c (copy_bytes v) in
    let parts = halts_both first rest f how j in
    elim (cases_lt j 2) [
      | inl m ↦
          let same = parts.first m in
          rw same (mend_first v f c how j gv n w l (rw same at t))
      | inr m ↦
          let same = parts.later m in
          let mid = after_all f first in
          let now : reads mid (20 * c) ≡ Some (head_of v) = reads_back f (20 * c) (head_of v) (omega arith) in
          inr (rw same (mend_rest v mid c how (j - 2) gv refl l now (rw same at t)))
    ]
