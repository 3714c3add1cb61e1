-- The places of blocks, and that those of two payloads are apart.
use Rattle.std.proofs.Common.{ℕ, ◌+◌, ◌-◌, ◌/◌, ◌%◌, ◌≤◌, ◌<◌, ◌≡◌, ◌≢◌, ◌⊎◌, inl, inr, arith, refl, sym, ap, ◌∙◌, true, false, cond, eqb, ◌||◌}
use Rattle.std.specs.Prelude.{nat_lt, if◌then◌else◌}
use Rattle.std.proofs.lemmas.Bool.{cases_lt, eq-eqb, eqb-true, eqb-false, le-ltb, lt-ltb}
use Rattle.vr_disk.specs.Regions.{block_place, sectors}
use Rattle.vr_state.specs.StateTexts.{key_payloads, session_payloads}
use Rattle.vr_ckpt.specs.Places.{HasRoom, IsLower, first_place, grid_size, is_place, keys_places, other_place, place_of, root_place, sessions_places, twin}
use Rattle.vr_ckpt.specs.declared.places.Places.{Places}

-- one of the two places, by the lower one
abbrev pub AtPlace : ℕ → ℕ → Type 0
AtPlace low a = (a ≡ low) ⊎ (a ≡ twin low)

pub at_place : (low a : ℕ) → is_place low a ≡ true → AtPlace low a
at_place low a e =
    elim (eqb a low) as (λ t. eqb a low ≡ t → (t || eqb a (twin low)) ≡ true → AtPlace low a) [
      | true ↦ λ t e. inl (eqb-true a low t)
      | false ↦ λ t e. inr (eqb-true a (twin low) e)
    ] refl e

pub is_at : (low a : ℕ) → AtPlace low a → is_place low a ≡ true
is_at low a (inl e) = rw (eq-eqb a low e) refl
is_at low a (inr e) = elim (eqb a low) as (λ t. (t || eqb a (twin low)) ≡ true) [ true ↦ refl | false ↦ eq-eqb a (twin low) e ]

pub other_at : (low a : ℕ) → AtPlace low (other_place low a)
other_at low a = elim (eqb a low) as (λ t. AtPlace low (cond t (twin low) low)) [ true ↦ inr refl | false ↦ inl refl ]

twin_above : (low : ℕ) → low < twin low
twin_above low = elim (nat_lt low 128) as (λ t. low < cond t (low + 64) (low + 128)) [ true ↦ omega arith | false ↦ omega arith ]

pub other_away : (low a : ℕ) → other_place low a ≢ a
other_away low a =
    elim (eqb a low) as (λ t. eqb a low ≡ t → cond t (twin low) low ≢ a) [
      | true ↦ λ t e. let s = eqb-true a low t in let above = twin_above low in absurd (omega arith)
      | false ↦ λ t e. eqb-false a low t (sym e)
    ] refl

pub first_at : (op low : ℕ) → AtPlace low (first_place op low)
first_at op low = elim (eqb ((op / 32) % 2) 0) as (λ t. AtPlace low (cond t low (twin low))) [ true ↦ inl refl | false ↦ inr refl ]

pub root_at_place : (op : ℕ) → AtPlace 0 (root_place op)
root_at_place op = let l : (op / 32) % 2 < 2 = omega arith in elim (cases_lt ((op / 32) % 2) 1) [ inl a ↦ inl (omega arith) | inr b ↦ inr (omega arith) ]

-- the sectors of a block, and of two
pub block_inside : (a : ℕ) → a < grid_size → block_place a + 8 ≤ sectors
block_inside a l = elim (cases_lt a 128) [ inl m ↦ rw (lt-ltb a 128 m) (omega arith) | inr m ↦ rw (le-ltb a 128 m) (omega arith) ]

pub blocks_apart : (a b : ℕ) → a ≢ b → (block_place a + 8 ≤ block_place b) ⊎ (block_place b + 8 ≤ block_place a)
blocks_apart a b d = elim (cases_lt a b) [ inl l ↦ inl (in_order a b l) | inr g ↦ elim (cases_lt b a) [ inl l ↦ inr (in_order b a l) | inr h ↦ absurd (d (omega arith)) ] ]
  where
    in_order : (a b : ℕ) → a < b → block_place a + 8 ≤ block_place b
    in_order a b l =
        elim (cases_lt b 128) [
          | inl m ↦ rw (lt-ltb a 128 (omega arith), lt-ltb b 128 m) (omega arith)
          | inr m ↦ rw (le-ltb b 128 m) (elim (cases_lt a 128) [ inl n ↦ rw (lt-ltb a 128 n) (omega arith) | inr n ↦ rw (le-ltb a 128 n) (omega arith) ])
        ]

-- ---- two lower places

pub root_lower : IsLower 0
root_lower = inl (omega arith)

-- the lower place of an address
abbrev pub lower : ℕ → ℕ
lower a = if nat_lt a 128 then a % 64 else 128 + a % 128

lower_below : (a : ℕ) → a < 128 → lower a ≡ a % 64
lower_below a l = rw (lt-ltb a 128 l) refl

lower_above : (a : ℕ) → 128 ≤ a → lower a ≡ 128 + a % 128
lower_above a l = rw (le-ltb a 128 l) refl

pub twin_below : (low : ℕ) → low < 128 → twin low ≡ low + 64
twin_below low l = rw (lt-ltb low 128 l) refl

pub twin_later : (low : ℕ) → 128 ≤ low → twin low ≡ low + 128
twin_later low l = rw (le-ltb low 128 l) refl

pub lower_of : (low a : ℕ) → IsLower low → AtPlace low a → lower a ≡ low
lower_of low a (inl l) (inl e) = lower_below a (omega arith) ∙ omega arith
lower_of low a (inl l) (inr e) = let t = twin_below low (omega arith) in lower_below a (omega arith) ∙ omega arith
lower_of low a (inr l) (inl e) = let least = l.0 in let most = l.1 in lower_above a (omega arith) ∙ omega arith
lower_of low a (inr l) (inr e) = let least = l.0 in let most = l.1 in let t = twin_later low least in lower_above a (omega arith) ∙ omega arith

pub places_apart : (p q a b : ℕ) → AtPlace p a → AtPlace q b → p ≢ q → IsLower p → IsLower q → a ≢ b
places_apart p q a b at bt d l m e = d (sym (lower_of p a l at) ∙ (ap lower e ∙ lower_of q b m bt))

pub at_within : (low a : ℕ) → IsLower low → AtPlace low a → a < grid_size
at_within low a (inl l) (inl e) = omega arith
at_within low a (inl l) (inr e) = let t = twin_below low (omega arith) in omega arith
at_within low a (inr l) (inl e) = let most = l.1 in omega arith
at_within low a (inr l) (inr e) = let most = l.1 in let t = twin_later low l.0 in omega arith

-- ---- the lower places of a text's payloads

pub sessions_room : (n : ℕ) → n ≤ session_payloads → HasRoom sessions_places n
sessions_room n l = record { low = omega arith; later = omega arith; most = omega arith }

pub keys_room : (n : ℕ) → n ≤ key_payloads → HasRoom keys_places n
keys_room n l = record { low = omega arith; later = omega arith; most = omega arith }

pub place_few : (p : Places) (i : ℕ) → i < p.few → place_of p i ≡ p.low + i
unfolding place_of
place_few p i l = rw (lt-ltb i p.few l) refl

pub place_later : (p : Places) (i : ℕ) → p.few ≤ i → place_of p i ≡ p.later + (i - p.few)
unfolding place_of
place_later p i l = rw (le-ltb i p.few l) refl

pub place_lower : (p : Places) (n i : ℕ) → HasRoom p n → i < n → IsLower (place_of p i)
place_lower p n i r l =
    let low = r.low in
    let later = r.later in
    let most = r.most in
    elim (cases_lt i p.few) [
      | inl a ↦ let e = place_few p i a in inl (omega arith)
      | inr b ↦ let e = place_later p i b in inr (omega arith, omega arith)
    ]

-- of two payloads of one text
pub numbers_apart : (p : Places) (n i j : ℕ) → HasRoom p n → i < n → j < n → i ≢ j → place_of p i ≢ place_of p j
numbers_apart p n i j r l m d e =
    let low = r.low in
    let later = r.later in
    let most = r.most in
    elim (cases_lt i p.few) [
      | inl a ↦ let x = place_few p i a in elim (cases_lt j p.few) [
        | inl b ↦ let y = place_few p j b in d (omega arith)
        | inr b ↦ let y = place_later p j b in absurd (omega arith)
      ]
      | inr a ↦ let x = place_later p i a in elim (cases_lt j p.few) [
        | inl b ↦ let y = place_few p j b in absurd (omega arith)
        | inr b ↦ let y = place_later p j b in d (omega arith)
      ]
    ]

-- of a payload of each text
pub texts_apart : (i j : ℕ) → i < session_payloads → j < key_payloads → place_of sessions_places i ≢ place_of keys_places j
texts_apart i j l m e =
    elim (cases_lt i sessions_places.few) [
      | inl a ↦ let x = place_few sessions_places i a in elim (cases_lt j keys_places.few) [
        | inl b ↦ let y = place_few keys_places j b in absurd (omega arith)
        | inr b ↦ let y = place_later keys_places j b in absurd (omega arith)
      ]
      | inr a ↦ let x = place_later sessions_places i a in elim (cases_lt j keys_places.few) [
        | inl b ↦ let y = place_few keys_places j b in absurd (omega arith)
        | inr b ↦ let y = place_later keys_places j b in absurd (omega arith)
      ]
    ]

-- of a payload and the root
root_apart : (p : Places) (i : ℕ) → 0 < p.low → 0 < p.later → place_of p i ≢ 0
root_apart p i l m e =
    elim (cases_lt i p.few) [ inl a ↦ let x = place_few p i a in absurd (omega arith) | inr b ↦ let x = place_later p i b in absurd (omega arith) ]

pub session_above : (i : ℕ) → place_of sessions_places i ≢ 0
session_above i = root_apart sessions_places i (omega arith) (omega arith)

pub key_above : (i : ℕ) → place_of keys_places i ≢ 0
key_above i = root_apart keys_places i (omega arith) (omega arith)

pub session_lower : (i : ℕ) → i < session_payloads → IsLower (place_of sessions_places i)
session_lower i l = place_lower sessions_places session_payloads i (sessions_room session_payloads (omega arith)) l

pub key_lower : (i : ℕ) → i < key_payloads → IsLower (place_of keys_places i)
key_lower i l = place_lower keys_places key_payloads i (keys_room key_payloads (omega arith)) l
