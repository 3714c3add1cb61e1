-- No header of an entry begins after the first sector of a root's block: at the places of the header's zeros, or of its command, there stand an address of the grid or zeros.
use Rattle.std.proofs.Common.{ℕ, zero, suc, ◌+◌, ◌-◌, ◌*◌, ◌<◌, ◌≤◌, ◌≡◌, inl, inr, arith, refl, sym, ap, ◌∙◌, List, [], ◌∷◌, ◌++◌, length, drop, get_or, append_assoc}
use Rattle.std.specs.List.{AllByRecursion}
use Rattle.std.proofs.lemmas.Bool.{cases_lt}
use Rattle.std.proofs.lemmas.List.{get_or-append_right, get_or-drop, get_or_append_left, get_or_past, length-append}
use Rattle.vr_base.specs.Bytes.{bytes16, bytes32, bytes64, piece}
use Rattle.vr_base.proofs.FieldLaws.{length-bytes64}
use Rattle.vr_ckpt.specs.Blocks.{Content, block_bytes}
use Rattle.vr_ckpt.specs.Places.{grid_size}
use Rattle.vr_ckpt.specs.Saves.{names_bytes, root_payload}
use Rattle.vr_ckpt.specs.declared.table.Payload.{Payload}
use Rattle.vr_ckpt.specs.declared.table.PayloadTable.{PayloadTable}
use Rattle.law_5_seals.specs.Laws.{HasPlace}
use Rattle.law_5_seals.proofs.Blocks.{IsMarkless, later_at}
use Rattle.law_5_seals.proofs.Marks.{Marked}

-- ---- a list of names, 24 bytes each

both_names : (xs ys : List Payload) → names_bytes (xs ++ ys) ≡ names_bytes xs ++ names_bytes ys
unfolding names_bytes
both_names [] ys = refl
both_names (p ∷ xs) ys =
    let a = bytes64 p.name.address in
    let s = p.name.sum.0 in
    ap (λ r. a ++ (s ++ r)) (both_names xs ys) ∙ (ap (λ r. a ++ r) (sym (append_assoc s (names_bytes xs) (names_bytes ys))) ∙ sym (append_assoc a (s ++ names_bytes xs) (names_bytes ys)))

names_long : (ps : List Payload) → AllByRecursion HasPlace ps → length (names_bytes ps) ≡ 24 * length ps
unfolding names_bytes
names_long [] h = refl
names_long (p ∷ ps) h =
    let x = length-append (bytes64 p.name.address) (p.name.sum.0 ++ names_bytes ps) in
    let y = length-append p.name.sum.0 (names_bytes ps) in
    let z = length-bytes64 p.name.address in
    let w = h.0.size in
    let rest = names_long ps h.1 in
    omega (arith, x, y, z, w, rest)

-- after the first name
next_name : (p : Payload) (ps : List Payload) (q : ℕ) → HasPlace p → get_or (names_bytes (p ∷ ps)) (24 + q) 0 ≡ get_or (names_bytes ps) q 0
unfolding names_bytes
next_name p ps q h =
    let a = bytes64 p.name.address in
    let s = p.name.sum.0 in
    let z = length-bytes64 p.name.address in
    let w = h.size in
    let e : 24 + q - length a ≡ 16 + q = omega (arith, z) in
    let f : 16 + q - length s ≡ q = omega (arith, w) in
    get_or-append_right a (s ++ names_bytes ps) (length a) (24 + q) 0 refl (omega (arith, z))
    ∙ (ap (λ k. get_or (s ++ names_bytes ps) k 0) e ∙ (get_or-append_right s (names_bytes ps) (length s) (16 + q) 0 refl (omega (arith, w)) ∙ ap (λ k. get_or (names_bytes ps) k 0) f))

-- of an address of the grid but 0: the last two of its bytes aren't both zero, nor the first of them 255
low_bytes : (n : ℕ) → 0 < n → n < grid_size → get_or (bytes64 n) 6 0 < 255 × ((get_or (bytes64 n) 6 0 ≡ 0) → (get_or (bytes64 n) 7 0 ≡ 0) → ⊥)
unfolding bytes64
low_bytes n some l = (omega (arith, l), λ a b. omega (arith, some, l, a, b))

high_byte : (n : ℕ) → n < grid_size → get_or (bytes64 n) 2 0 ≡ 0
unfolding bytes64
high_byte n l = omega (arith, l)

address_at : (p : Payload) (ps : List Payload) (i : ℕ) → i < 8 → get_or (names_bytes (p ∷ ps)) i 0 ≡ get_or (bytes64 p.name.address) i 0
unfolding names_bytes
address_at p ps i l = let z = length-bytes64 p.name.address in get_or_append_left (bytes64 p.name.address) (p.name.sum.0 ++ names_bytes ps) 0 i (omega (arith, z, l))

-- the last two bytes of an address
pub record IsAddress (high low : ℕ) : Type 0 where
  pub few : high < 255
  pub some : high ≡ 0 → low ≡ 0 → ⊥

low_at : (ps : List Payload) (k : ℕ) → AllByRecursion HasPlace ps → k < length ps → IsAddress (get_or (names_bytes ps) (24 * k + 6) 0) (get_or (names_bytes ps) (24 * k + 7) 0)
low_at [] k h l = absurd (omega (arith, l))
low_at (p ∷ ps) zero h l =
    let a = address_at p ps 6 (omega arith) in
    let b = address_at p ps 7 (omega arith) in
    let is = low_bytes p.name.address h.0.some h.0.few in
    let few = is.0 in
    record { few = omega (arith, a, few); some = λ x y. is.1 (sym a ∙ x) (sym b ∙ y) }
low_at (p ∷ ps) (suc k) h l =
    let behind : (i : ℕ) → get_or (names_bytes (p ∷ ps)) (24 * suc k + i) 0 ≡ get_or (names_bytes ps) (24 * k + i) 0 =
    λ i. (let z : 24 * suc k + i ≡ 24 + (24 * k + i) = omega arith in ap (λ q. get_or (names_bytes (p ∷ ps)) q 0) z ∙ next_name p ps (24 * k + i) h.0) in
    let rest = low_at ps k h.1 (omega (arith, l)) in
    let few = rest.few in
    let high = behind 6 in
    record { few = omega (arith, high, few); some = λ x y. rest.some (sym (behind 6) ∙ x) (sym (behind 7) ∙ y) }

-- the third one
high_at : (ps : List Payload) (k : ℕ) → AllByRecursion HasPlace ps → get_or (names_bytes ps) (24 * k + 2) 0 ≡ 0
unfolding names_bytes
high_at [] k h = refl
high_at (p ∷ ps) zero h = address_at p ps 2 (omega arith) ∙ high_byte p.name.address h.0.few
high_at (p ∷ ps) (suc k) h = let z : 24 * suc k + 2 ≡ 24 + (24 * k + 2) = omega arith in ap (λ q. get_or (names_bytes (p ∷ ps)) q 0) z ∙ (next_name p ps (24 * k + 2) h.0 ∙ high_at ps k h.1)

past_names : (ps : List Payload) (q : ℕ) → AllByRecursion HasPlace ps → 24 * length ps ≤ q → get_or (names_bytes ps) q 0 ≡ 0
past_names ps q h l = let n = names_long ps h in get_or_past (names_bytes ps) q 0 (omega (arith, n, l))

-- ---- a root

module _ (op s k : ℕ) (t : PayloadTable) where
  abbrev all : List Payload
  all = t.sessions ++ t.keys

  behind_numbers : drop 18 (root_payload op s k t) ≡ names_bytes t.sessions ++ names_bytes t.keys
  unfolding root_payload bytes64 bytes32 bytes16
  behind_numbers = refl

  root_at : (q : ℕ) → get_or (root_payload op s k t) (18 + q) 0 ≡ get_or (names_bytes all) q 0
  root_at q = sym (get_or-drop 18 (root_payload op s k t) q 0) ∙ (ap (λ b. get_or b q 0) behind_numbers ∙ ap (λ b. get_or b q 0) (sym (both_names t.sessions t.keys)))

  module _ (h : AllByRecursion HasPlace all) (c : Content) (is : c.payload ≡ root_payload op s k t) where
    abbrev sector : ℕ → List ℕ
    sector j = piece (0 + 512 * suc j) 512 (block_bytes c)

    -- what stands in a sector after the first one
    byte_at : (j i q : ℕ) → i < 512 → 512 * j + 384 + i ≡ 18 + q → get_or (sector j) i 0 ≡ get_or (names_bytes all) q 0
    byte_at j i q l e = later_at c j i l ∙ (ap (λ b. get_or b (512 * j + 384 + i) 0) is ∙ (ap (λ n. get_or (root_payload op s k t) n 0) e ∙ root_at q))

    no_command : (j : ℕ) → get_or (sector j) 108 0 ≡ 0 → IsMarkless (sector j)
    no_command j e = (λ m. (let x = m.command in omega (arith, e, x)), λ m. (let x = m.command in omega (arith, e, x)))

    -- the command stands in the name after an address that ends where the header has two zeros
    at_zeros : (j r i : ℕ) → i < 112 → 512 * j + 384 + i ≡ 18 + (24 * r + 6) → ((f : ℕ → ℕ) → Marked f (sector j) → (get_or (sector j) i 0 ≡ f 0) × (get_or (sector j) (i + 1) 0 ≡ f 0)) → IsMarkless (sector j)
    at_zeros j r i l at zeros =
        elim (cases_lt r (length all)) [
          | inl there ↦
              let high = byte_at j i (24 * r + 6) (omega (arith, l)) at in
              let low = byte_at j (i + 1) (24 * r + 7) (omega (arith, l)) (omega (arith, at)) in
              let a = low_at all r h there in
              let few = a.few in (
                λ m. (let z = zeros (λ x. x) m in a.some (sym high ∙ z.0) (sym low ∙ z.1)),
                λ m. (let z = (zeros (λ x. 255 - x) m).0 in omega (arith, high, few, z)),
              )
          | inr none ↦ no_command j (byte_at j 108 (512 * j + 474) (omega arith) (omega arith) ∙ past_names all (512 * j + 474) h (omega (arith, none, l, at)))
        ]

    -- those of the commit number
    at_commit : (j r : ℕ) → 512 * j + 384 + 96 ≡ 18 + (24 * r + 6) → IsMarkless (sector j)
    at_commit j r at = at_zeros j r 96 (omega arith) at (λ f m. (m.commit 0 (omega arith), m.commit 1 (omega arith)))

    -- or those of the size
    at_size : (j r : ℕ) → 512 * j + 384 + 104 ≡ 18 + (24 * r + 6) → IsMarkless (sector j)
    at_size j r at = at_zeros j r 104 (omega arith) at (λ f m. (m.size 0 (omega arith), m.size 1 (omega arith)))

    -- or it is the third byte of an address
    at_command : (j r : ℕ) → 512 * j + 474 ≡ 24 * r + 2 → IsMarkless (sector j)
    at_command j r at = no_command j (byte_at j 108 (24 * r + 2) (omega arith) (omega (arith, at)) ∙ high_at all r h)

    -- 512 is eight more than 21 names of 24 bytes: so it goes by turns
    pub root_markless : (j : ℕ) → j < 7 → IsMarkless (sector j)
    root_markless zero l = at_commit 0 19 refl
    root_markless (suc zero) l = at_command 1 41 refl
    root_markless (suc (suc zero)) l = at_size 2 62 refl
    root_markless (suc (suc (suc zero))) l = at_commit 3 83 refl
    root_markless (suc (suc (suc (suc zero)))) l = at_command 4 105 refl
    root_markless (suc (suc (suc (suc (suc zero))))) l = at_size 5 126 refl
    root_markless (suc (suc (suc (suc (suc (suc zero)))))) l = at_commit 6 147 refl
    root_markless (suc (suc (suc (suc (suc (suc (suc j))))))) l = absurd (omega (arith, l))
