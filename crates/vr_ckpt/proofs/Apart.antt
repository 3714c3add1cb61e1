-- A checkpoint's blocks stand apart from those that the one before names.
use Rattle.std.proofs.Common.{ℕ, zero, suc, ◌+◌, ◌≤◌, ◌<◌, ◌≡◌, ◌≢◌, ◌⊎◌, inl, inr, arith, refl, sym, ap, ◌∙◌, true, false, List, [], ◌∷◌, ◌++◌, length, Option, Some, None, subst}
use Rattle.std.specs.Prelude.{nat_eq, slice_get}
use Rattle.std.specs.List.{AllByRecursion}
use Rattle.std.specs.Cmp.Lexicographic.{pointwise}
use Rattle.std.proofs.lemmas.Bool.{cases_lt}
use Rattle.std.proofs.lemmas.Slice.Eq.{bytes_eq-Decides}
use Rattle.vr_state.specs.StateTexts.{FitsPayloads, key_payloads, payloads, session_payloads}
use Rattle.vr_state.specs.declared.texts.Texts.{Texts}
use Rattle.vr_ckpt.specs.Blocks.{block_of}
use Rattle.vr_ckpt.specs.declared.block.Block.{Block}
use Rattle.vr_ckpt.specs.Places.{HasRoom, IsLower, first_place, keys_places, other_place, place_of, root_place, sessions_places}
use Rattle.vr_ckpt.specs.Saves.{PayloadBlocks, blocks_from, changed, data_content, goes_to, keys_run, payload_blocks, payload_blocks_at, payload_at, root_of, sessions_run, stays, table_of, written}
use Rattle.vr_ckpt.specs.declared.plan.Run.{Run}
use Rattle.vr_ckpt.specs.declared.table.Payload.{Payload}
use Rattle.vr_ckpt.specs.declared.table.PayloadTable.{PayloadTable}
use Rattle.vr_ckpt.proofs.Placing.{AtPlace, first_at, key_above, key_lower, keys_room, numbers_apart, other_at, other_away, place_lower, places_apart, root_at_place, root_lower, session_above, session_lower, sessions_room, texts_apart}
use Rattle.vr_ckpt.proofs.Planning.{part_first, part_other, part_same}

-- ---- a payload stays, or goes to another block

pub record Stays (o : Option Payload) (bytes : List ℕ) (x : PayloadBlocks) : Type 0 where
  pub payload : Payload
  pub there : o ≡ Some payload
  pub same : payload.bytes ≡ bytes
  pub is : x ≡ stays payload

pub record Goes (r : Run) (i : ℕ) (bytes : List ℕ) (o : Option Payload) (x : PayloadBlocks) : Type 0 where
  pub address : ℕ
  pub at : AtPlace (place_of r.places i) address
  pub away : (p : Payload) → o ≡ Some p → address ≢ p.name.address
  pub is : x ≡ goes_to r address bytes

pub part_cases : (r : Run) (i : ℕ) (bytes : List ℕ) (o : Option Payload) → Stays o bytes (payload_blocks r i bytes o) ⊎ Goes r i bytes o (payload_blocks r i bytes o)
part_cases r i bytes None = inr (record { address = first_place r.op (place_of r.places i); at = first_at r.op (place_of r.places i); away = λ p e. absurd cc; is = part_first r i bytes })
part_cases r i bytes (Some p) =
    elim (pointwise nat_eq p.bytes bytes) as (λ t. pointwise nat_eq p.bytes bytes ≡ t → Stays (Some p) bytes (payload_blocks r i bytes (Some p)) ⊎ Goes r i bytes (Some p) (payload_blocks r i bytes (Some p))) [
      | true ↦ λ t. inl (record { payload = p; there = refl; same = (bytes_eq-Decides p.bytes bytes).0 t; is = part_same r i bytes p t })
      | false ↦ λ t. inr (record {
        address = other_place (place_of r.places i) p.name.address;
        at = other_at (place_of r.places i) p.name.address;
        away = λ q e s. let same : p ≡ q = cc in other_away (place_of r.places i) p.name.address (s ∙ ap (λ (q : Payload). q.name.address) (sym same));
        is = part_other r i bytes p t;
      })
    ] refl

-- ---- blocks that aren't at an address

abbrev pub Avoids : ℕ → List Block → Type 0
Avoids a bs = AllByRecursion (λ (b : Block). b.name.address ≢ a) bs

pub avoids_append : (a : ℕ) (xs ys : List Block) → Avoids a xs → Avoids a ys → Avoids a (xs ++ ys)
avoids_append a [] ys h k = k
avoids_append a (x ∷ xs) ys h k = (h.0, avoids_append a xs ys h.1 k)

goes_avoids : (r : Run) (x a : ℕ) (bytes : List ℕ) → x ≢ a → Avoids a (goes_to r x bytes).blocks
unfolding goes_to block_of data_content
goes_avoids r x a bytes d = (d, tt)

-- what is said of each block that a payload may go to
abbrev pub Elsewhere : Run → List Payload → ℕ → ℕ → Type 0
Elsewhere r old k a = (x : ℕ) → AtPlace (place_of r.places k) x → ((p : Payload) → slice_get old k ≡ Some p → x ≢ p.name.address) → x ≢ a

part_avoids : (r : Run) (text : List ℕ) (old : List Payload) (i a : ℕ) → Elsewhere r old i a → Avoids a (payload_blocks_at r text old i).blocks
part_avoids r text old i a h =
    elim (part_cases r i (payload_at text i) (slice_get old i)) [
      | inl s ↦ subst (λ (x : PayloadBlocks). Avoids a x.blocks) (sym s.is) tt
      | inr g ↦ subst (λ (x : PayloadBlocks). Avoids a x.blocks) (sym g.is) (goes_avoids r g.address a (payload_at text i) (h g.address g.at g.away))
    ]

pub avoid : (r : Run) (text : List ℕ) (old : List Payload) (i n a : ℕ) → ((k : ℕ) → i ≤ k → k < i + n → Elsewhere r old k a) → Avoids a (blocks_from r text old i n)
unfolding blocks_from
avoid r text old i zero a h = tt
avoid r text old i (suc n) a h =
    avoids_append a (payload_blocks_at r text old i).blocks (blocks_from r text old (i + 1) n) (part_avoids r text old i a (h i (omega arith) (omega arith)))
    (avoid r text old (i + 1) n a (λ k l m. h k (omega arith) (omega arith)))

-- of another place
pub by_place : (r : Run) (old : List Payload) (k q a : ℕ) → AtPlace q a → place_of r.places k ≢ q → IsLower (place_of r.places k) → IsLower q → Elsewhere r old k a
by_place r old k q a at d l m x h away = places_apart (place_of r.places k) q x a h at d l m

-- of a payload that the checkpoint before had
by_number : (r : Run) (old : List Payload) (n k j : ℕ) (p : Payload) → slice_get old j ≡ Some p → AtPlace (place_of r.places j) p.name.address → HasRoom r.places n → k < n → j < n → Elsewhere r old k p.name.address
by_number r old n k j p s at room l m =
    let other : k ≢ j → Elsewhere r old k p.name.address = λ d. by_place r old k (place_of r.places j) p.name.address at (numbers_apart r.places n k j room l m d) (place_lower r.places n k room l) (place_lower r.places n j room m) in
    elim (cases_lt k j) [
      | inl b ↦ other (λ e. absurd (omega arith))
      | inr g ↦ elim (cases_lt j k) [
        | inl b ↦ other (λ e. absurd (omega arith))
        | inr h ↦ λ x at away. away p (let same : k ≡ j = omega arith in ap (slice_get old) same ∙ s)
      ]
    ]

pub root_avoids : (cluster op a : ℕ) (texts : Texts) (t : PayloadTable) → root_place op ≢ a → Avoids a (block_of (root_of cluster texts op t) ∷ [])
unfolding block_of root_of
root_avoids cluster op a texts t d = (d, tt)

-- no part of a text is written to a place of the other's, or of a root
pub sessions_avoid : (cluster op q a : ℕ) (text : List ℕ) (old : List Payload) → payloads (length text) ≤ session_payloads → AtPlace q a → IsLower q → ((k : ℕ) → k < session_payloads → place_of sessions_places k ≢ q) → Avoids a (changed (sessions_run cluster op) text old)
sessions_avoid cluster op q a text old few at low d =
    avoid (sessions_run cluster op) text old 0 (payloads (length text)) a (λ k x y. by_place (sessions_run cluster op) old k q a at (d k (omega arith)) (session_lower k (omega arith)) low)

pub keys_avoid : (cluster op q a : ℕ) (text : List ℕ) (old : List Payload) → payloads (length text) ≤ key_payloads → AtPlace q a → IsLower q → ((k : ℕ) → k < key_payloads → place_of keys_places k ≢ q) → Avoids a (changed (keys_run cluster op) text old)
keys_avoid cluster op q a text old many at low d =
    avoid (keys_run cluster op) text old 0 (payloads (length text)) a (λ k x y. by_place (keys_run cluster op) old k q a at (d k (omega arith)) (key_lower k (omega arith)) low)

-- a root is written to no place of a payload
pub root_elsewhere : (cluster op q a : ℕ) (texts : Texts) (t : PayloadTable) → AtPlace q a → IsLower q → q ≢ 0 → Avoids a (block_of (root_of cluster texts op t) ∷ [])
root_elsewhere cluster op q a texts t at low d = root_avoids cluster op a texts t (places_apart 0 q (root_place op) a (root_at_place op) at (λ e. d (sym e)) root_lower low)

pub session_avoided : (cluster : ℕ) (texts : Texts) (op : ℕ) (old : PayloadTable) (j : ℕ) (p : Payload) → FitsPayloads texts → slice_get old.sessions j ≡ Some p → j < session_payloads → AtPlace (place_of sessions_places j) p.name.address → Avoids p.name.address (written cluster texts op old)
unfolding written
session_avoided cluster texts op old j p f s l at =
    let n = f.sessions in
    let q = place_of sessions_places j in
    let low = session_lower j l in
    let room = sessions_room session_payloads (omega arith) in
    avoids_append p.name.address (changed (sessions_run cluster op) texts.sessions old.sessions) _
    (avoid (sessions_run cluster op) texts.sessions old.sessions 0 (payloads (length texts.sessions)) p.name.address (λ k a b. by_number (sessions_run cluster op) old.sessions session_payloads k j p s at room (omega arith) l))
    (avoids_append p.name.address (changed (keys_run cluster op) texts.keys old.keys) _
    (keys_avoid cluster op q p.name.address texts.keys old.keys f.keys at low (λ k b e. texts_apart j k l b (sym e)))
    (root_elsewhere cluster op q p.name.address texts (table_of cluster texts op old) at low (session_above j)))

pub key_avoided : (cluster : ℕ) (texts : Texts) (op : ℕ) (old : PayloadTable) (j : ℕ) (p : Payload) → FitsPayloads texts → slice_get old.keys j ≡ Some p → j < key_payloads → AtPlace (place_of keys_places j) p.name.address → Avoids p.name.address (written cluster texts op old)
unfolding written
key_avoided cluster texts op old j p f s l at =
    let n = f.keys in
    let q = place_of keys_places j in
    let low = key_lower j l in
    let room = keys_room key_payloads (omega arith) in
    avoids_append p.name.address (changed (sessions_run cluster op) texts.sessions old.sessions) _
    (sessions_avoid cluster op q p.name.address texts.sessions old.sessions f.sessions at low (λ k b. texts_apart k j b l))
    (avoids_append p.name.address (changed (keys_run cluster op) texts.keys old.keys) _
    (avoid (keys_run cluster op) texts.keys old.keys 0 (payloads (length texts.keys)) p.name.address (λ k a b. by_number (keys_run cluster op) old.keys key_payloads k j p s at room (omega arith) l))
    (root_elsewhere cluster op q p.name.address texts (table_of cluster texts op old) at low (key_above j)))

pub root_avoided : (cluster : ℕ) (texts : Texts) (op : ℕ) (old : PayloadTable) (a : ℕ) → FitsPayloads texts → AtPlace 0 a → root_place op ≢ a → Avoids a (written cluster texts op old)
unfolding written
root_avoided cluster texts op old a f at d =
    avoids_append a (changed (sessions_run cluster op) texts.sessions old.sessions) _
    (sessions_avoid cluster op 0 a texts.sessions old.sessions f.sessions at root_lower (λ k b. session_above k))
    (avoids_append a (changed (keys_run cluster op) texts.keys old.keys) _
    (keys_avoid cluster op 0 a texts.keys old.keys f.keys at root_lower (λ k b. key_above k))
    (root_avoids cluster op a texts (table_of cluster texts op old) d))
