-- The calls that write blocks.
use Rattle.std.proofs.Common.{ℕ, zero, suc, ◌+◌, ◌*◌, ◌-◌, ◌≤◌, ◌<◌, ◌≡◌, ◌≢◌, inl, inr, arith, refl, sym, ap, subst, true, false, cond, List, [], ◌∷◌, ◌++◌, length, Option, Some, None}
use Rattle.std.specs.Prelude.{replicate, slice_get, nat_eq}
use Rattle.std.specs.Cmp.Lexicographic.{pointwise}
use Rattle.std.specs.List.{AllByRecursion}
use Rattle.std.proofs.lemmas.List.{length-append, length-replicate}
use Rattle.vr_base.specs.Bytes.{IsBytes, bytes16, bytes32, bytes64, joined, name_of}
use Rattle.vr_base.proofs.FieldLaws.{IsBytes-piece, length-bytes16, length-bytes32, length-bytes64, length-name_of}
use Rattle.vr_base.proofs.Places.{length-joined, total, widths}
use Rattle.vr_base.proofs.AreBytes.{AllBytes, IsBytes-append, IsBytes-bytes16, IsBytes-bytes32, IsBytes-bytes64, IsBytes-joined, IsBytes-name_of, IsBytes-none, IsBytes-one, IsBytes-zeros}
use Rattle.vr_disk.specs.DiskState.{Sync}
use Rattle.vr_disk.specs.Regions.{block_place}
use Rattle.vr_header.specs.Spelling.{field_bytes, header_bytes, named_bytes}
use Rattle.vr_state.specs.StateTexts.{key_payloads, payloads, session_payloads}
use Rattle.vr_state.specs.declared.texts.Texts.{Texts}
use Rattle.vr_ckpt.specs.Blocks.{Content, block_bytes, block_header, block_name, block_of, named}
use Rattle.vr_ckpt.specs.Grid.{block_calls, put_calls}
use Rattle.vr_ckpt.specs.declared.block.Block.{Block}
use Rattle.vr_ckpt.specs.Places.{IsLower, first_place, grid_size, keys_places, other_place, place_of, root_place, sessions_places}
use Rattle.vr_ckpt.specs.declared.places.Places.{Places}
use Rattle.vr_ckpt.specs.Saves.{PayloadBlocks, blocks_calls, blocks_from, changed, data_content, goes_to, keys_run, names_bytes, payload_blocks, payload_blocks_at, payload_at, payloads_from, root_of, root_payload, save_calls, sessions_run, stays, table_of, written}
use Rattle.vr_ckpt.specs.declared.plan.Run.{Run}
use Rattle.vr_ckpt.specs.declared.table.Payload.{Payload}
use Rattle.vr_ckpt.specs.declared.table.PayloadTable.{PayloadTable}
use Rattle.vr_ckpt.proofs.Placing.{AtPlace, at_within, block_inside, first_at, key_above, key_lower, other_at, root_at_place, root_lower, session_above, session_lower, twin_below, twin_later}
use Rattle.vr_ckpt.proofs.Planning.{payload_short}
use Rattle.vr_rules.specs.Sound.{IsNameBytes}
use Rattle.law_4_disks.specs.Stocks.{IsNamed}
use Rattle.law_4_disks.proofs.Calls.{AreCalls, calls_append, writes_are}

-- ---- one block

one : (x : ℕ) → x < 256 → IsBytes (x ∷ [])
one x small = IsBytes-one x [] small IsBytes-none

header_are : (c : Content) → c.kind < 256 → IsBytes (header_bytes (block_header c))
unfolding header_bytes named_bytes block_header
header_are c k =
    let h = block_header c in
    let all : AllBytes (field_bytes h) = (
      IsBytes-name_of c.payload,
      (IsBytes-zeros 16, (IsBytes-zeros 16, (IsBytes-bytes64 c.cluster, (IsBytes-bytes64 0, (IsBytes-bytes32 0, (IsBytes-bytes32 0, (IsBytes-bytes64 c.op, (IsBytes-bytes64 0, (IsBytes-bytes32 (128 + length c.payload), (one 17 (omega arith), (one 0 (omega arith), (one 1 (omega arith), (one c.kind k, (IsBytes-bytes64 c.address, (IsBytes-zeros 8, tt))))))))))))))),
    ) in
    IsBytes-append (name_of (joined (field_bytes h))) (joined (field_bytes h)) (IsBytes-name_of (joined (field_bytes h))) (IsBytes-joined (field_bytes h) all)

header_long : (c : Content) → length (header_bytes (block_header c)) ≡ 128
unfolding header_bytes named_bytes block_header
header_long c =
    let h = block_header c in
    let ps = field_bytes h in
    let w : total (widths ps) ≡ 112 = rw (length-name_of, length-bytes64, length-bytes64, length-bytes32, length-bytes32, length-bytes64, length-bytes64) refl in
    let all = length-append (name_of (joined ps)) (joined ps) in
    let name = length-name_of (joined ps) in
    let rest = length-joined ps in
    omega (arith, all, name, rest, w)

-- the bytes of a block, and how many they are
block_are : (c : Content) → c.kind < 256 → IsBytes c.payload → IsBytes (block_bytes c)
unfolding block_bytes
block_are c k p = IsBytes-append (header_bytes (block_header c)) (c.payload ++ replicate (3968 - length c.payload) 0) (header_are c k) (IsBytes-append c.payload (replicate (3968 - length c.payload) 0) p (IsBytes-zeros (3968 - length c.payload)))

block_long : (c : Content) → length c.payload ≤ 3968 → length (block_bytes c) ≡ 4096
unfolding block_bytes
block_long c l =
    let a = length-append (header_bytes (block_header c)) (c.payload ++ replicate (3968 - length c.payload) 0) in
    let b = length-append c.payload (replicate (3968 - length c.payload) 0) in
    let d = length-replicate {A = ℕ} (3968 - length c.payload) 0 in
    let e = header_long c in
    omega (arith, a, b, d, e, l)

calls_of_block : (address : ℕ) (bytes : List ℕ) → address < grid_size → IsBytes bytes → length bytes ≡ 4096 → AreCalls (block_calls address bytes)
unfolding block_calls
calls_of_block address bytes l are size = writes_are 8 (block_place address) bytes are (omega (arith, size)) (block_inside address l)

pub put_are : (address : ℕ) (bytes : List ℕ) → address < grid_size → IsBytes bytes → length bytes ≡ 4096 → AreCalls (put_calls address bytes)
unfolding put_calls
put_are address bytes l are size = calls_append (block_calls address bytes) (Sync ∷ []) (calls_of_block address bytes l are size) (tt, tt)

abbrev GoodBlock : Block → Type 0
GoodBlock b = AreCalls (block_calls b.name.address b.bytes)

content_good : (c : Content) → c.address < grid_size → c.kind < 256 → IsBytes c.payload → length c.payload ≤ 3968 → GoodBlock (block_of c)
unfolding block_of
content_good c l k p s = calls_of_block c.address (block_bytes c) l (block_are c k p) (block_long c s)

goods_append : (xs ys : List Block) → AllByRecursion GoodBlock xs → AllByRecursion GoodBlock ys → AllByRecursion GoodBlock (xs ++ ys)
goods_append [] ys x y = y
goods_append (b ∷ xs) ys x y = (x.0, goods_append xs ys x.1 y)

good_calls : (bs : List Block) → AllByRecursion GoodBlock bs → AreCalls (blocks_calls bs)
unfolding blocks_calls
good_calls [] x = tt
good_calls (b ∷ bs) x = calls_append (block_calls b.name.address b.bytes) (blocks_calls bs) x.0 (good_calls bs x.1)

-- ---- payloads

-- what is made of a payload
record Made (p : PayloadBlocks) : Type 0 where
  blocks : AllByRecursion GoodBlock p.blocks
  payload : IsNamed p.payload

name_made : (c : Content) → IsNameBytes (block_name c).sum.0
name_made c = (length-name_of (named_bytes (block_header c)), IsBytes-name_of (named_bytes (block_header c)))

goes_made : (r : Run) (address : ℕ) (bytes : List ℕ) → 0 < address → address < grid_size → IsBytes bytes → length bytes ≤ 3968 → Made (goes_to r address bytes)
unfolding goes_to data_content
goes_made r address bytes some l are s = record { blocks = (content_good (data_content r address bytes) l (omega arith) are s, tt); payload = record { sum = name_made (data_content r address bytes); some = some; few = l } }

-- a place of a payload is an address after the root's first
pub placed : (low address : ℕ) → IsLower low → low ≢ 0 → AtPlace low address → (0 < address) × (address < grid_size)
placed low address l some at =
    let few = at_within low address l at in (
      elim at [
        | inl e ↦ omega (arith, e, some)
        | inr e ↦ elim l [
          | inl a ↦ let t = twin_below low (omega (arith, a)) in omega (arith, e, t, some)
          | inr b ↦ let least = b.0 in let t = twin_later low least in omega (arith, e, t, some)
        ]
      ],
      few,
    )

part_made : (r : Run) (i : ℕ) (bytes : List ℕ) (o : Option Payload) → IsLower (place_of r.places i) → place_of r.places i ≢ 0 → IsBytes bytes → length bytes ≤ 3968 → ((p : Payload) → o ≡ Some p → IsNamed p) → Made (payload_blocks r i bytes o)
unfolding payload_blocks
part_made r i bytes None a l are s old =
    let low = place_of r.places i in
    let w = placed low (first_place r.op low) a l (first_at r.op low) in goes_made r (first_place r.op low) bytes w.0 w.1 are s
part_made r i bytes (Some p) a l are s old =
    elim (pointwise nat_eq p.bytes bytes) as (λ t. Made (cond t (stays p) (goes_to r (other_place (place_of r.places i) p.name.address) bytes))) [
      | true ↦ record { blocks = tt; payload = old p refl }
      | false ↦
          let low = place_of r.places i in
          let w = placed low (other_place low p.name.address) a l (other_at low p.name.address) in goes_made r (other_place low p.name.address) bytes w.0 w.1 are s
    ]

old_named : (ps : List Payload) (i : ℕ) (p : Payload) → AllByRecursion IsNamed ps → slice_get ps i ≡ Some p → IsNamed p
old_named [] i p a e = absurd cc
old_named (q ∷ ps) zero p a e = let same : q ≡ p = cc in subst IsNamed same a.0
old_named (q ∷ ps) (suc i) p a e = old_named ps i p a.1 e

piece_are : (text : List ℕ) (i : ℕ) → IsBytes text → IsBytes (payload_at text i)
unfolding payload_at
piece_are text i are = IsBytes-piece (3968 * i) 3968 text are

made_at : (r : Run) (text : List ℕ) (old : List Payload) (i : ℕ) → IsLower (place_of r.places i) → place_of r.places i ≢ 0 → IsBytes text → AllByRecursion IsNamed old → Made (payload_blocks_at r text old i)
made_at r text old i a l are named = part_made r i (payload_at text i) (slice_get old i) a l (piece_are text i are) (payload_short text i) (λ p e. old_named old i p named e)

-- the lower places of so many payloads, none of which is the root's
abbrev pub Lowers : Places → ℕ → Type 0
Lowers p n = (i : ℕ) → i < n → IsLower (place_of p i) × (place_of p i ≢ 0)

pub fewer_lowers : (p : Places) (n m : ℕ) → n ≤ m → Lowers p m → Lowers p n
fewer_lowers p n m l h i k = h i (omega (arith, l, k))

-- those of a text from its first payload on
pub session_lowers : (n : ℕ) → n ≤ session_payloads → Lowers sessions_places (0 + n)
session_lowers n l i k = (session_lower i (omega (arith, l, k)), session_above i)

pub key_lowers : (n : ℕ) → n ≤ key_payloads → Lowers keys_places (0 + n)
key_lowers n l i k = (key_lower i (omega (arith, l, k)), key_above i)

blocks_good : (n i : ℕ) (r : Run) (text : List ℕ) (old : List Payload) → Lowers r.places (i + n) → IsBytes text → AllByRecursion IsNamed old → AllByRecursion GoodBlock (blocks_from r text old i n)
unfolding blocks_from
blocks_good zero i r text old l are named = tt
blocks_good (suc n) i r text old l are named =
    let here = l i (omega arith) in
    goods_append (payload_blocks_at r text old i).blocks (blocks_from r text old (i + 1) n) (made_at r text old i here.0 here.1 are named).blocks
    (blocks_good n (i + 1) r text old (fewer_lowers r.places (i + 1 + n) (i + suc n) (omega arith) l) are named)

names_good : (n i : ℕ) (r : Run) (text : List ℕ) (old : List Payload) → Lowers r.places (i + n) → IsBytes text → AllByRecursion IsNamed old → AllByRecursion IsNamed (payloads_from r text old i n)
unfolding payloads_from
names_good zero i r text old l are named = tt
names_good (suc n) i r text old l are named =
    let here = l i (omega arith) in
    ((made_at r text old i here.0 here.1 are named).payload, names_good n (i + 1) r text old (fewer_lowers r.places (i + 1 + n) (i + suc n) (omega arith) l) are named)

length_payloads : (n i : ℕ) (r : Run) (text : List ℕ) (old : List Payload) → length (payloads_from r text old i n) ≡ n
unfolding payloads_from
length_payloads zero i r text old = refl
length_payloads (suc n) i r text old = ap suc (length_payloads n (i + 1) r text old)

-- ---- a checkpoint

pub record Texted (texts : Texts) (old : PayloadTable) : Type 0 where
  pub sessions : IsBytes texts.sessions
  pub keys : IsBytes texts.keys
  pub few_sessions : payloads (length texts.sessions) ≤ session_payloads
  pub few_keys : payloads (length texts.keys) ≤ key_payloads
  pub old_sessions : AllByRecursion IsNamed old.sessions
  pub old_keys : AllByRecursion IsNamed old.keys

pub record TableNamed (t : PayloadTable) : Type 0 where
  pub sessions : AllByRecursion IsNamed t.sessions
  pub keys : AllByRecursion IsNamed t.keys

pub table_named : (cluster : ℕ) (texts : Texts) (op : ℕ) (old : PayloadTable) → Texted texts old → TableNamed (table_of cluster texts op old)
unfolding table_of
table_named cluster texts op old t =
    let s = payloads (length texts.sessions) in
    let k = payloads (length texts.keys) in
    record {
      sessions = names_good s 0 (sessions_run cluster op) texts.sessions old.sessions (session_lowers s t.few_sessions) t.sessions t.old_sessions;
      keys = names_good k 0 (keys_run cluster op) texts.keys old.keys (key_lowers k t.few_keys) t.keys t.old_keys;
    }

names_are : (ps : List Payload) → AllByRecursion IsNamed ps → IsBytes (names_bytes ps)
unfolding names_bytes
names_are [] a = IsBytes-none
names_are (p ∷ ps) a = IsBytes-append (bytes64 p.name.address) (p.name.sum.0 ++ names_bytes ps) (IsBytes-bytes64 p.name.address) (IsBytes-append p.name.sum.0 (names_bytes ps) a.0.sum.1 (names_are ps a.1))

names_long : (ps : List Payload) → AllByRecursion IsNamed ps → length (names_bytes ps) ≡ 24 * length ps
unfolding names_bytes
names_long [] a = refl
names_long (p ∷ ps) a =
    let x = length-append (bytes64 p.name.address) (p.name.sum.0 ++ names_bytes ps) in
    let y = length-append p.name.sum.0 (names_bytes ps) in
    let z = length-bytes64 p.name.address in
    let w = a.0.sum.0 in
    let rest = names_long ps a.1 in
    omega (arith, x, y, z, w, rest)

root_are : (op s k : ℕ) (t : PayloadTable) → TableNamed t → IsBytes (root_payload op s k t)
unfolding root_payload
root_are op s k t n =
    let count = length t.sessions + length t.keys in
    let names = names_bytes t.sessions ++ names_bytes t.keys in
    let e = IsBytes-append (names_bytes t.sessions) (names_bytes t.keys) (names_are t.sessions n.sessions) (names_are t.keys n.keys) in
    let d = IsBytes-append (bytes16 count) names (IsBytes-bytes16 count) e in
    let c = IsBytes-append (bytes32 k) (bytes16 count ++ names) (IsBytes-bytes32 k) d in
    let b = IsBytes-append (bytes32 s) (bytes32 k ++ (bytes16 count ++ names)) (IsBytes-bytes32 s) c in
    IsBytes-append (bytes64 op) (bytes32 s ++ (bytes32 k ++ (bytes16 count ++ names))) (IsBytes-bytes64 op) b

root_long : (op s k : ℕ) (t : PayloadTable) → TableNamed t → length (root_payload op s k t) ≡ 18 + 24 * (length t.sessions + length t.keys)
unfolding root_payload
root_long op s k t n =
    let count = length t.sessions + length t.keys in
    let names = names_bytes t.sessions ++ names_bytes t.keys in
    let e = length-append (names_bytes t.sessions) (names_bytes t.keys) in
    let d = length-append (bytes16 count) names in
    let c = length-append (bytes32 k) (bytes16 count ++ names) in
    let b = length-append (bytes32 s) (bytes32 k ++ (bytes16 count ++ names)) in
    let a = length-append (bytes64 op) (bytes32 s ++ (bytes32 k ++ (bytes16 count ++ names))) in
    let x = length-bytes64 op in
    let y = length-bytes32 s in
    let z = length-bytes32 k in
    let w = length-bytes16 count in
    let u = names_long t.sessions n.sessions in
    let v = names_long t.keys n.keys in
    omega (arith, a, b, c, d, e, x, y, z, w, u, v)

place_root : (op : ℕ) → root_place op < grid_size
place_root op = at_within 0 (root_place op) root_lower (root_at_place op)

root_good : (cluster : ℕ) (texts : Texts) (op : ℕ) (t : PayloadTable) → TableNamed t → length t.sessions ≤ session_payloads → length t.keys ≤ key_payloads → GoodBlock (block_of (root_of cluster texts op t))
unfolding root_of
root_good cluster texts op t n a b =
    let size = root_long op (length texts.sessions) (length texts.keys) t n in
    content_good (root_of cluster texts op t) (place_root op) (omega arith) (root_are op (length texts.sessions) (length texts.keys) t n) (omega (arith, size, a, b))

pub table_few : (cluster : ℕ) (texts : Texts) (op : ℕ) (old : PayloadTable) → Texted texts old → (length (table_of cluster texts op old).sessions ≤ session_payloads) × (length (table_of cluster texts op old).keys ≤ key_payloads)
unfolding table_of
table_few cluster texts op old t =
    let x = length_payloads (payloads (length texts.sessions)) 0 (sessions_run cluster op) texts.sessions old.sessions in
    let y = length_payloads (payloads (length texts.keys)) 0 (keys_run cluster op) texts.keys old.keys in
    (subst (λ (n : ℕ). n ≤ session_payloads) (sym x) t.few_sessions, subst (λ (n : ℕ). n ≤ key_payloads) (sym y) t.few_keys)

pub save_state_are : (cluster : ℕ) (texts : Texts) (op : ℕ) (old : PayloadTable) → Texted texts old → AreCalls (save_calls cluster texts op old)
unfolding save_calls written
save_state_are cluster texts op old t =
    let table = table_of cluster texts op old in
    let few = table_few cluster texts op old t in
    let n = payloads (length texts.sessions) in
    let m = payloads (length texts.keys) in
    let s = changed (sessions_run cluster op) texts.sessions old.sessions in
    let k = changed (keys_run cluster op) texts.keys old.keys in
    let root = block_of (root_of cluster texts op table) in
    let good : AllByRecursion GoodBlock (s ++ (k ++ root ∷ [])) =
    goods_append s (k ++ root ∷ []) (blocks_good n 0 (sessions_run cluster op) texts.sessions old.sessions (session_lowers n t.few_sessions) t.sessions t.old_sessions)
    (goods_append k (root ∷ []) (blocks_good m 0 (keys_run cluster op) texts.keys old.keys (key_lowers m t.few_keys) t.keys t.old_keys) (root_good cluster texts op table (table_named cluster texts op old t) few.0 few.1, tt)) in
    calls_append (blocks_calls (s ++ (k ++ root ∷ []))) (Sync ∷ []) (good_calls (s ++ (k ++ root ∷ [])) good) (tt, tt)
