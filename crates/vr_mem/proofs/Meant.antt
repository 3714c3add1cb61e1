-- Contents that stand for a text, through the calls of a disk.
use Rattle.std.proofs.Common.{ℕ, zero, suc, ◌+◌, ◌-◌, ◌*◌, ◌/◌, ◌%◌, ◌<◌, ◌≤◌, ◌≡◌, refl, sym, ap, ◌∙◌, arith, eqb, ltb, Bool, true, false, cond, List, [], ◌∷◌, ◌++◌, length, get_or, set, Option, None, Some, subst, inl, inr}
use Rattle.std.specs.Prelude.{bit_and, bit_xor, map, replicate}
use Rattle.std.specs.Option.{option_map}
use Rattle.std.specs.Int.Bits.{xor_add_and}
use Rattle.std.proofs.Math.ListN.{get_or-map}
use Rattle.std.proofs.lemmas.Bool.{and_parts, cases_lt, cond_both, ltb-true, ltb-false, eqb-true}
use Rattle.std.proofs.lemmas.Bool.Decides.{nat_tests}
use Rattle.std.proofs.lemmas.List.{map-append, map-set}
use Rattle.std.proofs.lemmas.Nat.{and_mask}
use Rattle.vr_base.specs.Bytes.{IsBytes}
use Rattle.vr_disk.specs.DiskState.{Cell, Face, Waiting, Write, Sync, after, blank, cell, damaged, digit_at, noted, settle, settled, settled_cell, waits, written}
use Rattle.vr_disk.specs.Fronts.{front}
use Rattle.vr_disk.specs.Regions.{sectors}
use Rattle.vr_mem.specs.Lies.{lied}
use Rattle.vr_mem.specs.declared.bytes.Mark.{Mark}
use Rattle.vr_mem.specs.declared.bytes.Mark.TheVariants as mark
use Rattle.vr_mem.specs.declared.texts.TextNumber.{TextNumber}
use Rattle.vr_mem.specs.declared.texts.TextNumber.TheVariants as n
use Rattle.vr_mem.specs.declared.texts.Texts.{Texts}
use Rattle.vr_mem.specs.Owed.{AreFree, ArePlain, IsFree, IsPlainCell, KeepsOthers, begins_copy, byte_of, cell_by, content_by, face_by, first_item, meant, meant_cell, meant_face, number_of, same_number, stands_for, text_of, waiting_by}
use Rattle.vr_mem.specs.Seen.{copies, marked, zero_cell}

-- ---- faces, by a function of contents

same_face : (a b : List Cell) (v w : List Waiting) → a ≡ b → v ≡ w → (let x : Face = record { cells = a; waiting = v } in x) ≡ record { cells = b; waiting = w }
same_face a b v w e d = rw (e, d) refl

pub same_cell : (a b : List ℕ) (r s : Option (List ℕ)) (x y : List ℕ) → a ≡ b → r ≡ s → x ≡ y → (let c : Cell = record { truth = a; reads = r; before = x } in c) ≡ record { truth = b; reads = s; before = y }
same_cell a b r s x y e d g = rw (e, d, g) refl

blank_by : (f : List ℕ → List ℕ) → f [] ≡ [] → cell_by f blank ≡ blank
blank_by f e = same_cell (f []) [] None None (f []) [] e refl e

pub get_by : (f : List ℕ → List ℕ) (cells : List Cell) (i : ℕ) → f [] ≡ [] → get_or (map (cell_by f) cells) i blank ≡ cell_by f (get_or cells i blank)
get_by f cells i e = subst (λ (b : Cell). get_or (map (cell_by f) cells) i b ≡ cell_by f (get_or cells i blank)) (blank_by f e) (get_or-map (cell_by f) cells i blank)

pub cell_of_by : (f : List ℕ → List ℕ) (g : Face) (i : ℕ) → f [] ≡ [] → cell (face_by f g) i ≡ cell_by f (cell g i)
unfolding face_by
cell_of_by f g i e = get_by f g.cells i e

waits_by : (f : List ℕ → List ℕ) (i : ℕ) (ws : List Waiting) → waits i (map (waiting_by f) ws) ≡ waits i ws
waits_by f i [] = refl
waits_by f i (w ∷ ws) = rw (waits_by f i ws) refl

noted_if : (f : List ℕ → List ℕ) (b : Bool) (x y : List Waiting) → map (waiting_by f) (cond b x y) ≡ cond b (map (waiting_by f) x) (map (waiting_by f) y)
noted_if f true x y = refl
noted_if f false x y = refl

noted_by : (f : List ℕ → List ℕ) (ws : List Waiting) (i : ℕ) (c d : Cell) → d ≡ cell_by f c → map (waiting_by f) (noted ws i c) ≡ noted (map (waiting_by f) ws) i d
noted_by f ws i c d e =
    rw (waits_by f i ws, e)
    (noted_if f (waits i ws) ws (ws ++ record { index = i; was = c } ∷ []) ∙ ap (λ (y : List Waiting). cond (waits i ws) (map (waiting_by f) ws) y) (map-append (waiting_by f) ws (record { index = i; was = c } ∷ [])))

pub written_by : (f : List ℕ → List ℕ) (g : Face) (i : ℕ) (b : List ℕ) → f [] ≡ [] → face_by f (after g (Write i b)) ≡ after (face_by f g) (Write i (f b))
unfolding face_by
written_by f g i b e =
    let c = get_by f g.cells i e in
    same_face (map (cell_by f) (set g.cells i (written (cell g i) b))) (set (map (cell_by f) g.cells) i (written (get_or (map (cell_by f) g.cells) i blank) (f b)))
    (map (waiting_by f) (noted g.waiting i (cell g i))) (noted (map (waiting_by f) g.waiting) i (get_or (map (cell_by f) g.cells) i blank))
    (map-set (cell_by f) g.cells i (written (cell g i) b) ∙ ap (λ (d : Cell). set (map (cell_by f) g.cells) i (written d (f b))) (sym c))
    (noted_by f g.waiting i (cell g i) (get_or (map (cell_by f) g.cells) i blank) c)

pub synced_by : (f : List ℕ → List ℕ) (g : Face) → face_by f (after g Sync) ≡ after (face_by f g) Sync
unfolding face_by
synced_by f g = refl

settled_if : (f : List ℕ → List ℕ) (b : Bool) (x y : Cell) → cell_by f (cond b x y) ≡ cond b (cell_by f x) (cell_by f y)
settled_if f true x y = refl
settled_if f false x y = refl

settled_cell_by : (f : List ℕ → List ℕ) (digit : ℕ) (was now : Cell) → ((x : List ℕ) → f (damaged x) ≡ damaged (f x)) → cell_by f (settled_cell digit was now) ≡ settled_cell digit (cell_by f was) (cell_by f now)
settled_cell_by f digit was now d =
    let new : Cell = record { truth = now.truth; reads = Some now.truth; before = now.before } in
    let bad : Cell = record { truth = damaged now.truth; reads = Some (damaged now.truth); before = now.before } in
    let turned : Cell = record { truth = damaged (f now.truth); reads = Some (damaged (f now.truth)); before = f now.before } in
    let e : cell_by f bad ≡ turned = same_cell (f (damaged now.truth)) (damaged (f now.truth)) (Some (f (damaged now.truth))) (Some (damaged (f now.truth))) (f now.before) (f now.before) (d now.truth) (ap Some (d now.truth)) refl in
    settled_if f (eqb digit 0) was (cond (eqb digit 1) new bad)
    ∙ ap (λ (x : Cell). cond (eqb digit 0) (cell_by f was) x) (settled_if f (eqb digit 1) new bad ∙ ap (λ (x : Cell). cond (eqb digit 1) (cell_by f new) x) e)

settled_by : (f : List ℕ → List ℕ) (code : ℕ) (ws : List Waiting) (cells : List Cell) → f [] ≡ [] → ((x : List ℕ) → f (damaged x) ≡ damaged (f x))
    → map (cell_by f) (settled code ws cells) ≡ settled code (map (waiting_by f) ws) (map (cell_by f) cells)
settled_by f code [] cells e d = refl
settled_by f code (w ∷ ws) cells e d =
    let now = get_or cells w.index blank in
    let c = settled_cell (code % 3) w.was now in
    settled_by f (code / 3) ws (set cells w.index c) e d
    ∙ ap (λ (xs : List Cell). settled (code / 3) (map (waiting_by f) ws) xs)
    (map-set (cell_by f) cells w.index c
    ∙ ap (λ (x : Cell). set (map (cell_by f) cells) w.index x)
    (settled_cell_by f (code % 3) w.was now d ∙ ap (λ (x : Cell). settled_cell (code % 3) (cell_by f w.was) x) (sym (get_by f cells w.index e))))

pub settle_by : (f : List ℕ → List ℕ) (code : ℕ) (g : Face) → f [] ≡ [] → ((x : List ℕ) → f (damaged x) ≡ damaged (f x)) → face_by f (settle code g) ≡ settle code (face_by f g)
unfolding face_by
settle_by f code g e d =
    same_face (map (cell_by f) (settled code g.waiting g.cells)) (settled code (map (waiting_by f) g.waiting) (map (cell_by f) g.cells)) [] []
    (settled_by f code g.waiting g.cells e d) refl

pub lied_by : (f : List ℕ → List ℕ) (g : Face) (i : ℕ) (r : Option (List ℕ)) → f [] ≡ [] → face_by f (lied g i r) ≡ lied (face_by f g) i (option_map f r)
unfolding face_by lied
lied_by f g i r e =
    let c = get_by f g.cells i e in
    same_face (map (cell_by f) (set g.cells i (record (cell g i) { reads = r }))) (set (map (cell_by f) g.cells) i (record (get_or (map (cell_by f) g.cells) i blank) { reads = option_map f r }))
    (map (waiting_by f) g.waiting) (map (waiting_by f) g.waiting)
    (map-set (cell_by f) g.cells i (record (cell g i) { reads = r }) ∙ ap (λ (d : Cell). set (map (cell_by f) g.cells) i (record d { reads = option_map f r })) (sym c)) refl

digit_in : (f : List ℕ → List ℕ) (code i : ℕ) (ws : List Waiting) → digit_at code i (map (waiting_by f) ws) ≡ digit_at code i ws
unfolding digit_at
digit_in f code i [] = refl
digit_in f code i (w ∷ ws) = ap (λ d. cond (eqb w.index i) (code % 3) d) (digit_in f (code / 3) i ws)

pub digit_by : (f : List ℕ → List ℕ) (code i : ℕ) (g : Face) → digit_at code i (face_by f g).waiting ≡ digit_at code i g.waiting
unfolding face_by
digit_by f code i g = digit_in f code i g.waiting

alike : (f h : List ℕ → List ℕ) (cells : List Cell) → ((i : ℕ) → i < length cells → cell_by f (get_or cells i blank) ≡ cell_by h (get_or cells i blank)) → map (cell_by f) cells ≡ map (cell_by h) cells
alike f h [] s = refl
alike f h (c ∷ cells) s = rw (s 0 (omega arith), alike f h cells (λ i l. s (suc i) (omega arith))) refl

none_by : (f : List ℕ → List ℕ) (ws : List Waiting) → ws ≡ [] → map (waiting_by f) ws ≡ []
none_by f ws e = rw e refl

pub alike_by : (f h : List ℕ → List ℕ) (g : Face) → g.waiting ≡ [] → ((i : ℕ) → i < length g.cells → cell_by f (cell g i) ≡ cell_by h (cell g i)) → face_by f g ≡ face_by h g
unfolding face_by
alike_by f h g e s =
    same_face (map (cell_by f) g.cells) (map (cell_by h) g.cells) (map (waiting_by f) g.waiting) (map (waiting_by h) g.waiting) (alike f h g.cells s) (none_by f g.waiting e ∙ sym (none_by h g.waiting e))

-- ---- a content with each bit turned

flipped : (b : ℕ) → bit_xor b 255 + (b % 256) * 2 ≡ b + 255
flipped b = let a : bit_and b 255 ≡ b % 256 = and_mask b 8 in let x = xor_add_and b 255 in rw (sym a) x

flip_high : (b : ℕ) → b < 256 → bit_xor b 255 < 256
flip_high b l = let e = flipped b in omega arith

flip_low : (b : ℕ) → 256 ≤ b → 256 ≤ bit_xor b 255
flip_low b l = let e = flipped b in omega arith

flip_mod : (b : ℕ) → bit_xor b 255 % 256 ≡ 255 - b % 256
flip_mod b = let e = flipped b in omega arith

flip_twice : (b : ℕ) → bit_xor (bit_xor b 255) 255 ≡ b
flip_twice b = let e = flipped b in let d = flipped (bit_xor b 255) in omega arith

damaged_twice : (x : List ℕ) → damaged (damaged x) ≡ x
damaged_twice [] = refl
damaged_twice (b ∷ x) = rw (flip_twice b, damaged_twice x) refl

pub damaged_high : (x : List ℕ) → first_item x < 256 → first_item (damaged x) < 256
damaged_high [] l = omega arith
damaged_high (b ∷ x) l = flip_high b l

-- ---- what a content is by its name

pub meant_none : (o : Texts) → meant o [] ≡ []
unfolding meant
meant_none o = refl

pub meant_plain : (o : Texts) (x : List ℕ) → first_item x < 256 → meant o x ≡ x
unfolding meant
meant_plain o x l = cond_both (ltb (first_item x) 256) x (content_by o (first_item x % 256)) (λ r. r ≡ x) (λ _. refl) (λ f. absurd (omega (arith, ltb-false (first_item x) 256 f)))

pub meant_owed : (o : Texts) (x : List ℕ) → 256 ≤ first_item x → meant o x ≡ content_by o (first_item x % 256)
unfolding meant
meant_owed o x g = cond_both (ltb (first_item x) 256) x (content_by o (first_item x % 256)) (λ r. r ≡ content_by o (first_item x % 256)) (λ t. absurd (omega (arith, ltb-true (first_item x) 256 t))) (λ _. refl)

number_turned : (b : ℕ) → b < 256 → number_of (255 - b) ≡ number_of b
unfolding number_of
number_turned b l = grind (arith, nat_tests)

content_turned : (o : Texts) (b : ℕ) → b < 256 → content_by o (255 - b) ≡ damaged (content_by o b)
unfolding content_by
content_turned o b l =
    let x = front (text_of o (number_of b)) in
    rw (number_turned b l)
    (elim (cases_lt b 128) [
      | inl s ↦
          cond_both (ltb (255 - b) 128) x (damaged x) (λ r. r ≡ damaged (cond (ltb b 128) x (damaged x))) (λ t. absurd (omega (arith, ltb-true (255 - b) 128 t)))
          (λ _. cond_both (ltb b 128) x (damaged x) (λ r. damaged x ≡ damaged r) (λ _. refl) (λ f. absurd (omega (arith, ltb-false b 128 f))))
      | inr g ↦
          cond_both (ltb (255 - b) 128) x (damaged x) (λ r. r ≡ damaged (cond (ltb b 128) x (damaged x)))
          (λ _. cond_both (ltb b 128) x (damaged x) (λ r. x ≡ damaged r) (λ t. absurd (omega (arith, ltb-true b 128 t))) (λ _. sym (damaged_twice x)))
          (λ f. absurd (omega (arith, ltb-false (255 - b) 128 f)))
    ])

pub meant_damaged : (o : Texts) (x : List ℕ) → meant o (damaged x) ≡ damaged (meant o x)
meant_damaged o [] = meant_none o ∙ ap damaged (sym (meant_none o))
meant_damaged o (b ∷ x) =
    elim (cases_lt b 256) [
      | inl l ↦ meant_plain o (damaged (b ∷ x)) (flip_high b l) ∙ ap damaged (sym (meant_plain o (b ∷ x) l))
      | inr g ↦
          meant_owed o (damaged (b ∷ x)) (flip_low b g)
          ∙ (ap (content_by o) (flip_mod b) ∙ (content_turned o (b % 256) (omega arith) ∙ ap damaged (sym (meant_owed o (b ∷ x) g))))
    ]

-- ---- texts that stay

same_itself : (k : TextNumber) → same_number k k ≡ true
same_itself n.One = refl
same_itself n.Two = refl
same_itself n.Three = refl

other_number : (j k : TextNumber) → same_number k j ≡ false → j ≡ k → ⊥
other_number j k f e = let t : same_number k j ≡ true = rw e (same_itself k) in cc

kept_content : (o p : Texts) (k : TextNumber) (b : ℕ) → KeepsOthers o p k → same_number k (number_of b) ≡ false → content_by p b ≡ content_by o b
unfolding content_by
kept_content o p k b s f = let e = s (number_of b) (other_number (number_of b) k f) in rw e refl

stands_in : (k : TextNumber) (x : List ℕ) → 256 ≤ first_item x → stands_for k x ≡ same_number k (number_of (first_item x % 256))
unfolding stands_for
stands_in k x g = cond_both (ltb (first_item x) 256) false (same_number k (number_of (first_item x % 256))) (λ r. r ≡ same_number k (number_of (first_item x % 256))) (λ t. absurd (omega (arith, ltb-true (first_item x) 256 t))) (λ _. refl)

pub kept_meant : (o p : Texts) (k : TextNumber) (x : List ℕ) → KeepsOthers o p k → stands_for k x ≡ false → meant p x ≡ meant o x
kept_meant o p k x s f =
    elim (cases_lt (first_item x) 256) [
      | inl l ↦ meant_plain p x l ∙ sym (meant_plain o x l)
      | inr g ↦ meant_owed p x g ∙ (kept_content o p k (first_item x % 256) s (sym (stands_in k x g) ∙ f) ∙ sym (meant_owed o x g))
    ]

kept_reads : (o p : Texts) (r : Option (List ℕ)) → ((x : List ℕ) → r ≡ Some x → meant p x ≡ meant o x) → option_map (meant p) r ≡ option_map (meant o) r
kept_reads o p None s = refl
kept_reads o p (Some x) s = ap Some (s x refl)

kept_cell : (o p : Texts) (k : TextNumber) (c : Cell) → KeepsOthers o p k → IsFree k c → meant_cell p c ≡ meant_cell o c
kept_cell o p k c s h =
    same_cell (meant p c.truth) (meant o c.truth) (option_map (meant p) c.reads) (option_map (meant o) c.reads) (meant p c.before) (meant o c.before)
    (kept_meant o p k c.truth s h.truth) (kept_reads o p c.reads (λ x e. kept_meant o p k x s (h.reads x e))) (kept_meant o p k c.before s h.before)

plain_cell : (o p : Texts) (c : Cell) → IsPlainCell c → meant_cell p c ≡ meant_cell o c
plain_cell o p c h =
    let same : (x : List ℕ) → first_item x < 256 → meant p x ≡ meant o x = λ x l. meant_plain p x l ∙ sym (meant_plain o x l) in
    same_cell (meant p c.truth) (meant o c.truth) (option_map (meant p) c.reads) (option_map (meant o) c.reads) (meant p c.before) (meant o c.before)
    (same c.truth h.truth) (kept_reads o p c.reads (λ x e. same x (h.reads x e))) (same c.before h.before)

kept_front : (k : TextNumber) (f : Face) (i : ℕ) → AreFree k f → i < 80 → i % 20 ≡ 0 → IsFree k (cell f i)
kept_front k f i h l e =
    let at : (j : ℕ) → i ≡ j → IsFree k (cell f j) → IsFree k (cell f i) = λ j d x. subst (λ m. IsFree k (cell f m)) (sym d) x in
    elim (cases_lt i 20) [
      | inl a ↦ at 0 (omega arith) h.first
      | inr a ↦
          elim (cases_lt i 40) [
            | inl b ↦ at 20 (omega arith) h.second
            | inr b ↦ elim (cases_lt i 60) [ inl d ↦ at 40 (omega arith) h.third | inr d ↦ at 60 (omega arith) h.fourth ]
          ]
    ]

kept_at : (o p : Texts) (k : TextNumber) (f : Face) (i : ℕ) → KeepsOthers o p k → AreFree k f → ArePlain f → meant_cell p (cell f i) ≡ meant_cell o (cell f i)
kept_at o p k f i s h q =
    elim (begins_copy i) as (λ b. begins_copy i ≡ b → meant_cell p (cell f i) ≡ meant_cell o (cell f i)) [
      | true ↦ λ t. let a = and_parts (ltb i 80) (eqb (i % 20) 0) t in kept_cell o p k (cell f i) s (kept_front k f i h (ltb-true i 80 a.0) (eqb-true (i % 20) 0 a.1))
      | false ↦ λ t. plain_cell o p (cell f i) (q.cells i t)
    ] refl

pub kept_face : (o p : Texts) (k : TextNumber) (f : Face) → KeepsOthers o p k → f.waiting ≡ [] → AreFree k f → ArePlain f → meant_face p f ≡ meant_face o f
unfolding meant_face
kept_face o p k f s e h q = alike_by (meant p) (meant o) f e (λ i l. kept_at o p k f i s h q)

-- ---- a sector that is full of the byte of a number

pub meant_mark : (o : Texts) (k : TextNumber) → meant o (map (λ b. b + 256) (replicate 512 (byte_of k))) ≡ front (text_of o k)
unfolding meant content_by number_of
meant_mark o n.One = refl
meant_mark o n.Two = refl
meant_mark o n.Three = refl

-- ---- bytes with their mark

high_mod : (b : ℕ) → b < 256 → (b + 256) % 256 ≡ b
high_mod b l = omega arith

pub plain_meant : (o : Texts) (x : List ℕ) → IsBytes x → x ≡ meant o x
plain_meant o x h = sym (meant_plain o x (h 0))

pub owed_meant : (o : Texts) (x : List ℕ) → IsBytes x → 0 < length x → content_by o (get_or x 0 0) ≡ meant o (map (λ b. b + 256) x)
owed_meant o [] h l = absurd (omega arith)
owed_meant o (b ∷ x) h l = sym (meant_owed o (map (λ b. b + 256) (b ∷ x)) (omega arith) ∙ ap (content_by o) (high_mod b (h 0)))

pub marked_plain : (o : Texts) (m : Mark) (x y : List ℕ) → m ≡ mark.Plain → IsBytes x → y ≡ x → y ≡ meant o (marked m x)
marked_plain o m x y e h s = rw (e, s) (plain_meant o x h)

pub marked_owed : (o : Texts) (m : Mark) (x y : List ℕ) → m ≡ mark.Owed → IsBytes x → length x ≡ 512 → y ≡ content_by o (get_or x 0 0) → y ≡ meant o (marked m x)
marked_owed o m x y e h n s = rw (e, s) (owed_meant o x h (omega arith))

pub plain_stands : (k : TextNumber) (x : List ℕ) → IsBytes x → false ≡ stands_for k x
unfolding stands_for
plain_stands k x h = let l = h 0 in cond_both (ltb (first_item x) 256) false (same_number k (number_of (first_item x % 256))) (λ r. false ≡ r) (λ _. refl) (λ f. absurd (omega (arith, ltb-false (first_item x) 256 f)))

pub owed_stands : (k : TextNumber) (x : List ℕ) → IsBytes x → 0 < length x → same_number k (number_of (get_or x 0 0)) ≡ stands_for k (map (λ b. b + 256) x)
owed_stands k [] h l = absurd (omega arith)
owed_stands k (b ∷ x) h l = sym (stands_in k (map (λ b. b + 256) (b ∷ x)) (omega arith) ∙ ap (λ b. same_number k (number_of b)) (high_mod b (h 0)))

pub front_of : (o : Texts) (b : ℕ) (text : List ℕ) → b < 128 → text_of o (number_of b) ≡ text → content_by o b ≡ front text
unfolding content_by
front_of o b text l e = rw e (cond_both (ltb b 128) (front text) (damaged (front text)) (λ r. r ≡ front text) (λ _. refl) (λ f. absurd (omega (arith, ltb-false b 128 f))))

pub plain_mark : (m : Mark) (x : List ℕ) → first_item (marked m x) < 256 → marked m x ≡ x
plain_mark mark.Plain x l = refl
plain_mark mark.Owed [] l = refl
plain_mark mark.Owed (b ∷ x) l = absurd (omega arith)

-- ---- faces

pub meant_write : (o : Texts) (f g : Face) (i : ℕ) (b x : List ℕ) → meant o b ≡ x → g ≡ after f (Write i b) → meant_face o g ≡ after (meant_face o f) (Write i x)
unfolding meant_face
meant_write o f g i b x n e = ap (face_by (meant o)) e ∙ (written_by (meant o) f i b (meant_none o) ∙ ap (λ y. after (face_by (meant o) f) (Write i y)) n)

pub meant_sync : (o : Texts) (f g : Face) → g ≡ after f Sync → meant_face o g ≡ after (meant_face o f) Sync
unfolding meant_face
meant_sync o f g e = ap (face_by (meant o)) e ∙ synced_by (meant o) f

pub meant_settle : (o : Texts) (f g : Face) (code : ℕ) → g ≡ settle code f → meant_face o g ≡ settle code (meant_face o f)
unfolding meant_face
meant_settle o f g code e = ap (face_by (meant o)) e ∙ settle_by (meant o) code f (meant_none o) (meant_damaged o)

plain_reads : (o : Texts) (r : Option (List ℕ)) → ((x : List ℕ) → r ≡ Some x → first_item x < 256) → option_map (meant o) r ≡ r
plain_reads o None h = refl
plain_reads o (Some x) h = ap Some (meant_plain o x (h x refl))

pub meant_lied : (o : Texts) (f g : Face) (i : ℕ) (r : Option (List ℕ)) → ((x : List ℕ) → r ≡ Some x → first_item x < 256) → g ≡ lied f i r → meant_face o g ≡ lied (meant_face o f) i r
unfolding meant_face
meant_lied o f g i r h e = ap (face_by (meant o)) e ∙ (lied_by (meant o) f i r (meant_none o) ∙ ap (λ s. lied (face_by (meant o) f) i s) (plain_reads o r h))

pub meant_cell_at : (o : Texts) (f : Face) (i : ℕ) → cell (meant_face o f) i ≡ meant_cell o (cell f i)
unfolding meant_face
meant_cell_at o f i = cell_of_by (meant o) f i (meant_none o)

pub meant_digit : (o : Texts) (f : Face) (code i : ℕ) → digit_at code i (meant_face o f).waiting ≡ digit_at code i f.waiting
unfolding meant_face
meant_digit o f code i = digit_by (meant o) code i f

-- ---- a disk that is made

zeros_stay : (o : Texts) (n : ℕ) → n ≡ 512 → meant o (copies n 0) ≡ copies n 0
unfolding copies
zeros_stay o zero e = meant_none o
zeros_stay o (suc n) e = meant_plain o (0 ∷ replicate n 0) (omega arith)

zero_stays : (o : Texts) → meant_cell o zero_cell ≡ zero_cell
unfolding zero_cell
zero_stays o =
    let z = zeros_stay o 512 refl in
    same_cell (meant o (copies 512 0)) (copies 512 0) (Some (meant o (copies 512 0))) (Some (copies 512 0)) (meant o (copies 512 0)) (copies 512 0) z (ap Some z) z

all_stay : (o : Texts) (n : ℕ) → map (meant_cell o) (copies n zero_cell) ≡ copies n zero_cell
unfolding copies
all_stay o zero = refl
all_stay o (suc n) = rw (zero_stays o, all_stay o n) refl

pub meant_zeros : (o : Texts) (f : Face) → f ≡ record { cells = copies sectors zero_cell; waiting = [] } → meant_face o f ≡ record { cells = copies sectors zero_cell; waiting = [] }
unfolding meant_face face_by
meant_zeros o f e = ap (face_by (meant o)) e ∙ same_face (map (meant_cell o) (copies sectors zero_cell)) (copies sectors zero_cell) [] [] (all_stay o sectors) refl
