-- The sectors of a checkpoint's blocks: the first of each, and those of keys and of the root, begin with no header of an entry.
use Rattle.std.proofs.Common.{ℕ, zero, suc, ◌+◌, ◌-◌, ◌*◌, ◌<◌, ◌≤◌, ◌≡◌, inl, inr, arith, refl, sym, ap, ◌∙◌, subst, true, false, cond, List, [], ◌∷◌, ◌++◌, length, take, drop, get_or, Option, Some, None}
use Rattle.std.specs.Prelude.{replicate, slice_get, nat_eq}
use Rattle.std.specs.Cmp.Lexicographic.{pointwise}
use Rattle.std.specs.List.{AllByRecursion, flat_map}
use Rattle.std.proofs.lemmas.Bool.{cases_lt}
use Rattle.std.proofs.lemmas.List.{get_or-append_right, get_or_append_left, get_or_past, get_or-replicate, length-replicate, take_at}
use Rattle.vr_base.specs.Bytes.{piece}
use Rattle.vr_base.proofs.FieldLaws.{get_or-piece, length-name_of}
use Rattle.vr_base.proofs.Places.{drop_both}
use Rattle.vr_disk.specs.DiskState.{Call, Write, IsContent}
use Rattle.vr_disk.specs.Regions.{block_place}
use Rattle.vr_disk.specs.Sectors.{writes}
use Rattle.vr_disk.specs.Stops.{IsCall}
use Rattle.vr_header.specs.Spelling.{Spells, header_bytes}
use Rattle.vr_state.specs.Kv as kv
use Rattle.vr_state.specs.Pairs.{Fits, kv_text, pair_text}
use Rattle.vr_ckpt.specs.Blocks.{Content, block_bytes, block_header, block_of}
use Rattle.vr_ckpt.specs.Grid.{block_calls}
use Rattle.vr_ckpt.specs.declared.block.Block.{Block}
use Rattle.vr_ckpt.specs.Places.{first_place, other_place, place_of}
use Rattle.vr_ckpt.specs.Saves.{blocks_calls, blocks_from, data_content, goes_to, payload_at, payload_blocks, payload_blocks_at, stays}
use Rattle.vr_ckpt.specs.declared.plan.Run.{Run}
use Rattle.vr_ckpt.specs.declared.table.Payload.{Payload}
use Rattle.law_5_seals.specs.Seals.{IsHeadless, PutsHeadless}
use Rattle.law_5_seals.proofs.Keys.{keys_at, pairs_clear}
use Rattle.law_5_seals.proofs.Marks.{HasNames, Marked, command_at, front_marks, header_long, turned_marks}

-- ---- a block's bytes

block_names : (c : Content) → HasNames (block_header c)
unfolding block_header
block_names c = record { body = length-name_of c.payload; parent = refl; request_name = refl }

zeros_behind : (xs : List ℕ) (n p : ℕ) → get_or (xs ++ replicate n 0) p 0 ≡ get_or xs p 0
zeros_behind xs n p =
    elim (cases_lt p (length xs)) [
      | inl l ↦ get_or_append_left xs (replicate n 0) 0 p l
      | inr g ↦
          let z : get_or (replicate {A = ℕ} n 0) (p - length xs) 0 ≡ 0 =
          elim (cases_lt (p - length xs) n) [ inl s ↦ get_or-replicate {A = ℕ} n (p - length xs) 0 0 s | inr t ↦ (let size = length-replicate {A = ℕ} n 0 in get_or_past (replicate n 0) (p - length xs) 0 (omega (arith, size, t))) ] in
          get_or-append_right xs (replicate n 0) (length xs) p 0 refl g ∙ (z ∙ sym (get_or_past xs p 0 g))
    ]

-- after the first 128 bytes there is the payload, and zeros
block_at : (c : Content) (p : ℕ) → get_or (block_bytes c) (128 + p) 0 ≡ get_or c.payload p 0
unfolding block_bytes
block_at c p =
    let h = header_bytes (block_header c) in
    let n = header_long (block_header c) (block_names c) in
    let back : 128 + p - length h ≡ p = omega (arith, n) in
    get_or-append_right h (c.payload ++ replicate (3968 - length c.payload) 0) (length h) (128 + p) 0 refl (omega (arith, n))
    ∙ (ap (λ k. get_or (c.payload ++ replicate (3968 - length c.payload) 0) k 0) back ∙ zeros_behind c.payload (3968 - length c.payload) p)

block_spells : (c : Content) → Spells (block_header c) (block_bytes c)
unfolding block_bytes
block_spells c = take_at (header_bytes (block_header c)) (c.payload ++ replicate (3968 - length c.payload) 0) 128 (header_long (block_header c) (block_names c))

block_command : (c : Content) → get_or (block_bytes c) 108 0 ≡ 17
unfolding block_header
block_command c = command_at (block_header c) (block_bytes c) (block_names c) (block_spells c)

-- ---- a sector of a block

-- no mark of an entry's header stands in it, nor turned
abbrev pub IsMarkless : List ℕ → Type 0
IsMarkless b = (Marked (λ x. x) b → ⊥) × (Marked (λ x. 255 - x) b → ⊥)

pub markless : (b : List ℕ) → IsContent b → IsMarkless b → IsHeadless b
markless b c m = record { front = λ h f. m.0 (front_marks b h c.each f); turned = λ h f. m.1 (turned_marks b h c f) }

pub first_markless : (c : Content) → IsMarkless (piece (0 + 512 * 0) 512 (block_bytes c))
first_markless c =
    let e = get_or-piece (0 + 512 * 0) 512 108 (block_bytes c) (omega arith) ∙ block_command c in
    (λ m. (let t = m.command in omega (arith, e, t)), λ m. (let t = m.command in omega (arith, e, t)))

-- what stands at a place of a later sector
pub later_at : (c : Content) (j k : ℕ) → k < 512 → get_or (piece (0 + 512 * suc j) 512 (block_bytes c)) k 0 ≡ get_or c.payload (512 * j + 384 + k) 0
later_at c j k l =
    let e : 0 + 512 * suc j + k ≡ 128 + (512 * j + 384 + k) = omega arith in
    get_or-piece (0 + 512 * suc j) 512 k (block_bytes c) l ∙ (ap (λ p. get_or (block_bytes c) p 0) e ∙ block_at c (512 * j + 384 + k))

-- ---- calls one after another

pub calls_left : (P : Call → Type 0) (cs ds : List Call) → AllByRecursion P (cs ++ ds) → AllByRecursion P cs
calls_left P [] ds a = tt
calls_left P (c ∷ cs) ds a = (a.0, calls_left P cs ds a.1)

pub calls_right : (P : Call → Type 0) (cs ds : List Call) → AllByRecursion P (cs ++ ds) → AllByRecursion P ds
calls_right P [] ds a = a
calls_right P (c ∷ cs) ds a = calls_right P cs ds a.1

pub headless_both : (cs ds : List Call) → AllByRecursion PutsHeadless cs → AllByRecursion PutsHeadless ds → AllByRecursion PutsHeadless (cs ++ ds)
headless_both [] ds a b = b
headless_both (c ∷ cs) ds a b = (a.0, headless_both cs ds a.1 b)

-- ---- blocks

-- the sectors after the first of a block are so
abbrev pub IsLater : (List ℕ → Type 0) → Block → Type 0
IsLater S x = (c : Content) × (x ≡ block_of c) × ((j : ℕ) → j < 7 → S (piece (0 + 512 * suc j) 512 (block_bytes c)))

-- of calls of which G holds, that write what is so
module _ (G : Call → Type 0) (S : List ℕ → Type 0) (one : (i : ℕ) (b : List ℕ) → G (Write i b) → S b → IsHeadless b) (first : (c : Content) → S (piece (0 + 512 * 0) 512 (block_bytes c))) where
  headless_writes : (n i k : ℕ) (b : List ℕ) → AllByRecursion G (writes i n (drop k b)) → ((j : ℕ) → j < n → S (piece (k + 512 * j) 512 b)) → AllByRecursion PutsHeadless (writes i n (drop k b))
  unfolding writes piece
  headless_writes zero i k b a h = tt
  headless_writes (suc n) i k b a h =
      let z : k + 512 * 0 ≡ k = omega arith in
      let here : S (take 512 (drop k b)) = subst (λ (m : ℕ). S (take 512 (drop m b))) z (h 0 (omega arith)) in
      let later = subst (λ (x : List ℕ). AllByRecursion G (writes (i + 1) n x)) (drop_both k 512 b) a.1 in
      let rest = headless_writes n (i + 1) (k + 512) b later (λ j p. (let e : k + 512 * suc j ≡ k + 512 + 512 * j = omega arith in subst (λ (m : ℕ). S (take 512 (drop m b))) e (h (suc j) (omega (arith, p))))) in
      (one i (take 512 (drop k b)) a.0 here, subst (λ (x : List ℕ). AllByRecursion PutsHeadless (writes (i + 1) n x)) (sym (drop_both k 512 b)) rest)

  sectors_so : (c : Content) → ((j : ℕ) → j < 7 → S (piece (0 + 512 * suc j) 512 (block_bytes c))) → (j : ℕ) → j < 8 → S (piece (0 + 512 * j) 512 (block_bytes c))
  sectors_so c h zero l = first c
  sectors_so c h (suc j) l = h j (omega (arith, l))

  block_headless : (x : Block) → IsLater S x → AllByRecursion G (block_calls x.name.address x.bytes) → AllByRecursion PutsHeadless (block_calls x.name.address x.bytes)
  unfolding block_calls block_of
  block_headless x m a =
      let c = m.0 in
      let bytes : x.bytes ≡ block_bytes c = ap (λ (y : Block). y.bytes) m.1 in
      let i = block_place x.name.address in
      subst (λ (b : List ℕ). AllByRecursion PutsHeadless (writes i 8 b)) (sym bytes) (headless_writes 8 i 0 (block_bytes c) (subst (λ (b : List ℕ). AllByRecursion G (writes i 8 b)) bytes a) (sectors_so c m.2))

  pub all_headless : (bs : List Block) → AllByRecursion (IsLater S) bs → AllByRecursion G (blocks_calls bs) → AllByRecursion PutsHeadless (blocks_calls bs)
  unfolding blocks_calls
  all_headless [] m a = tt
  all_headless (x ∷ bs) m a =
      let cs = block_calls x.name.address x.bytes in
      headless_both cs (blocks_calls bs) (block_headless x m.0 (calls_left G cs (blocks_calls bs) a)) (all_headless bs m.1 (calls_right G cs (blocks_calls bs) a))

-- by their bytes alone
abbrev pub IsLaterMarkless : Block → Type 0
IsLaterMarkless = IsLater IsMarkless

pub blocks_headless : (bs : List Block) → AllByRecursion IsLaterMarkless bs → AllByRecursion IsCall (blocks_calls bs) → AllByRecursion PutsHeadless (blocks_calls bs)
blocks_headless bs m a = all_headless IsCall IsMarkless (λ i b c m. markless b c.1 m) first_markless bs m a

-- ---- the payloads of a text, one after another

pub payload_byte : (text : List ℕ) (i p : ℕ) → p < 3968 → get_or (payload_at text i) p 0 ≡ get_or text (3968 * i + p) 0
unfolding payload_at
payload_byte text i p l = get_or-piece (3968 * i) 3968 p text l

module _ (S : List ℕ → Type 0) (text : List ℕ) (every : (c : Content) (i : ℕ) → c.payload ≡ payload_at text i → (j : ℕ) → j < 7 → S (piece (0 + 512 * suc j) 512 (block_bytes c))) where
  blocks_append : (xs ys : List Block) → AllByRecursion (IsLater S) xs → AllByRecursion (IsLater S) ys → AllByRecursion (IsLater S) (xs ++ ys)
  blocks_append [] ys a b = b
  blocks_append (x ∷ xs) ys a b = (a.0, blocks_append xs ys a.1 b)

  part_so : (r : Run) (i : ℕ) (o : Option Payload) → AllByRecursion (IsLater S) (payload_blocks r i (payload_at text i) o).blocks
  unfolding payload_blocks goes_to data_content
  part_so r i None = (let a = first_place r.op (place_of r.places i) in ((data_content r a (payload_at text i), refl, every (data_content r a (payload_at text i)) i refl), tt))
  part_so r i (Some p) =
      let bytes = payload_at text i in
      let a = other_place (place_of r.places i) p.name.address in
      elim (pointwise nat_eq p.bytes bytes) as (λ t. AllByRecursion (IsLater S) (cond t (stays p) (goes_to r a bytes)).blocks) [
        | true ↦ tt
        | false ↦ ((data_content r a bytes, refl, every (data_content r a bytes) i refl), tt)
      ]

  pub payloads_so : (n i : ℕ) (r : Run) (old : List Payload) → AllByRecursion (IsLater S) (blocks_from r text old i n)
  unfolding blocks_from
  payloads_so zero i r old = tt
  payloads_so (suc n) i r old = blocks_append (payload_blocks_at r text old i).blocks (blocks_from r text old (i + 1) n) (part_so r i (slice_get old i)) (payloads_so n (i + 1) r old)

-- ---- keys

module _ (m : kv.Map) (fits : AllByRecursion Fits m) where
  clear_at : (q : ℕ) → 2 ≤ q
      → (1 ≤ get_or (kv_text m) q 0 → get_or (kv_text m) q 0 ≤ 2 → get_or (kv_text m) (q + 1) 0 ≡ 0 → get_or (kv_text m) (q + 2) 0 ≡ 0 → ⊥)
      × (253 ≤ get_or (kv_text m) q 0 → get_or (kv_text m) (q + 1) 0 ≡ 255 → ⊥)
  clear_at q l =
      let c = pairs_clear m fits in
      let k = q - 2 in
      let at : (i : ℕ) → get_or (kv_text m) (q + i) 0 ≡ get_or (flat_map pair_text m) (k + i) 0 = λ i. (let e : q + i - 2 ≡ k + i = omega (arith, l) in keys_at m (q + i) (omega (arith, l)) ∙ ap (λ j. get_or (flat_map pair_text m) j 0) e) in
      let zero_at : get_or (kv_text m) q 0 ≡ get_or (flat_map pair_text m) k 0 = keys_at m q l in
      (λ a m b d. c.one k (omega (arith, zero_at, a)) (omega (arith, zero_at, m)) (sym (at 1) ∙ b) (sym (at 2) ∙ d), λ a b. c.other k (omega (arith, zero_at, a)) (sym (at 1) ∙ b))

  key_markless : (c : Content) (i : ℕ) → c.payload ≡ payload_at (kv_text m) i → (j : ℕ) → j < 7 → IsMarkless (piece (0 + 512 * suc j) 512 (block_bytes c))
  key_markless c i e j l =
      let b = piece (0 + 512 * suc j) 512 (block_bytes c) in
      let q = 3968 * i + (512 * j + 384 + 110) in
      let byte : (k : ℕ) → k < 3 → get_or b (110 + k) 0 ≡ get_or (kv_text m) (q + k) 0 =
      λ k s. (let z : 3968 * i + (512 * j + 384 + (110 + k)) ≡ q + k = omega arith in later_at c j (110 + k) (omega (arith, s)) ∙ (ap (λ x. get_or x (512 * j + 384 + (110 + k)) 0) e ∙ (payload_byte (kv_text m) i (512 * j + 384 + (110 + k)) (omega (arith, l, s)) ∙ ap (λ n. get_or (kv_text m) n 0) z))) in
      let zero_place : q + 0 ≡ q = omega arith in
      let byte0 : get_or b 110 0 ≡ get_or (kv_text m) q 0 = byte 0 (omega arith) ∙ ap (λ n. get_or (kv_text m) n 0) zero_place in
      let clear = clear_at q (omega arith) in (
        λ t. (let v = t.version in let is = t.is_version in clear.0 (omega (arith, byte0, v, is)) (omega (arith, byte0, v, is)) (sym (byte 1 (omega arith)) ∙ t.kind) (sym (byte 2 (omega arith)) ∙ t.aux 0 (omega arith))),
        λ t. (let v = t.version in let is = t.is_version in clear.1 (omega (arith, byte0, v, is)) (sym (byte 1 (omega arith)) ∙ t.kind)),
      )

  pub keys_markless : (n i : ℕ) (r : Run) (old : List Payload) → AllByRecursion IsLaterMarkless (blocks_from r (kv_text m) old i n)
  keys_markless n i r old = payloads_so IsMarkless (kv_text m) key_markless n i r old
