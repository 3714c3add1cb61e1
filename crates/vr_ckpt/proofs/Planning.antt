-- What is planned, payload by payload.
use Rattle.std.proofs.Common.{ℕ, zero, suc, ◌+◌, ◌-◌, ◌*◌, ◌≤◌, ◌<◌, ◌≡◌, arith, refl, sym, ap, ◌∙◌, true, false, List, [], ◌∷◌, ◌++◌, length, take, drop, get_or, Some, None, append_assoc, length-take, inl, inr, subst}
use Rattle.std.specs.Prelude.{is_some, min, nat_eq, slice_get}
use Rattle.std.specs.Cmp.Lexicographic.{pointwise}
use Rattle.std.proofs.Math.Nat.{min-eq_left, min-eq_right}
use Rattle.std.proofs.lemmas.Bool.{cases_lt}
use Rattle.std.proofs.lemmas.List.{append-nil, at_drop_all, at_drop_more, take_all}
use Rattle.std.proofs.lemmas.Option.{slice_get-get_or}
use Rattle.vr_state.specs.StateTexts.{payloads}
use Rattle.vr_base.specs.Bytes.{piece}
use Rattle.vr_state.specs.declared.texts.Texts.{Texts}
use Rattle.vr_ckpt.specs.Blocks.{Content, block_name, block_of, content_of}
use Rattle.vr_ckpt.specs.Grid.{block_calls}
use Rattle.vr_ckpt.specs.declared.name.Name.{Name}
use Rattle.vr_ckpt.specs.declared.block.Block.{Block}
use Rattle.vr_ckpt.proofs.Made.{name_of_made}
use Rattle.vr_ckpt.specs.Places.{first_place, grid_size, other_place, place_of}
use Rattle.vr_ckpt.specs.Saves.{IsPlaced, blocks_calls, blocks_from, data_content, goes_to, keys_run, payload_blocks, payload_blocks_at, payload_at, payloads_from, root_of, saved_checkpoint, sessions_run, stays, table_of}
use Rattle.vr_ckpt.specs.declared.saving.SavedCheckpoint.{SavedCheckpoint}
use Rattle.vr_ckpt.specs.declared.table.PayloadTable.{PayloadTable}
use Rattle.vr_ckpt.specs.declared.plan.Run.{Run}
use Rattle.vr_ckpt.specs.declared.table.Payload.{Payload}

front_min : (r : List ℕ) → take (min (length r) 3968) r ≡ take 3968 r
front_min r =
    elim (cases_lt (length r) 3968) [
      | inl l ↦ let m : min (length r) 3968 ≡ length r = min-eq_left (omega arith) in ap (λ n. take n r) m ∙ (take_all (length r) r (omega arith) ∙ sym (take_all 3968 r (omega arith)))
      | inr g ↦ let m : min (length r) 3968 ≡ 3968 = min-eq_right (omega arith) in ap (λ n. take n r) m
    ]

pub payload_there : (text rest front : List ℕ) (i n : ℕ) → rest ≡ drop (3968 * i) text → n ≡ min (length rest) 3968 → front ≡ take n rest → front ≡ payload_at text i
unfolding payload_at piece
payload_there text rest front i n r m f = f ∙ (ap (λ n. take n rest) m ∙ (front_min rest ∙ ap (take 3968) r))

pub payload_short : (text : List ℕ) (i : ℕ) → length (payload_at text i) ≤ 3968
unfolding payload_at piece
payload_short text i = let l = length-take 3968 (drop (3968 * i) text) in omega arith

-- a payload in a block of its own
pub goes_payload : (r : Run) (a : ℕ) (bytes copy : List ℕ) (b : Block) → b ≡ block_of (data_content r a bytes) → copy ≡ bytes → (let x : Payload = record { name = b.name; bytes = copy } in x) ≡ (goes_to r a bytes).payload
unfolding goes_to
goes_payload r a bytes copy b e s =
    ap (λ n. let x : Payload = record { name = n; bytes = copy } in x) (name_of_made b (data_content r a bytes) e)
    ∙ ap (λ (y : List ℕ). let x : Payload = record { name = block_name (data_content r a bytes); bytes = y } in x) s

pub goes_block : (r : Run) (a : ℕ) (bytes : List ℕ) (b : Block) (old new : List Block) → b ≡ block_of (data_content r a bytes) → new ≡ old ++ b ∷ [] → new ≡ old ++ (goes_to r a bytes).blocks
unfolding goes_to
goes_block r a bytes b old new e s = s ∙ ap (λ (x : Block). old ++ x ∷ []) e

pub content_is : (r : Run) (a : ℕ) (bytes : List ℕ) → data_content r a bytes ≡ record { cluster = r.cluster; address = a; op = r.op; kind = 2; payload = bytes }
unfolding data_content
content_is r a bytes = refl

-- a part by what the checkpoint before had
pub part_same : (r : Run) (i : ℕ) (bytes : List ℕ) (p : Payload) → pointwise nat_eq p.bytes bytes ≡ true → payload_blocks r i bytes (Some p) ≡ stays p
unfolding payload_blocks
part_same r i bytes p e = rw e refl

pub part_other : (r : Run) (i : ℕ) (bytes : List ℕ) (p : Payload) → pointwise nat_eq p.bytes bytes ≡ false → payload_blocks r i bytes (Some p) ≡ goes_to r (other_place (place_of r.places i) p.name.address) bytes
unfolding payload_blocks
part_other r i bytes p e = rw e refl

pub part_first : (r : Run) (i : ℕ) (bytes : List ℕ) → payload_blocks r i bytes None ≡ goes_to r (first_place r.op (place_of r.places i)) bytes
unfolding payload_blocks
part_first r i bytes = refl

pub part_kept : (r : Run) (text : List ℕ) (old : List Payload) (i : ℕ) (d : Payload) → i < length old → payload_blocks_at r text old i ≡ payload_blocks r i (payload_at text i) (Some (get_or old i d))
part_kept r text old i d l = ap (payload_blocks r i (payload_at text i)) (slice_get-get_or old i d l)

past : {X : Type 0} → (xs : List X) (i : ℕ) → length xs ≤ i → slice_get xs i ≡ None
past [] i l = refl
past (x ∷ xs) zero l = absurd (omega arith)
past (x ∷ xs) (suc i) l = past xs i (omega arith)

pub part_new : (r : Run) (text : List ℕ) (old : List Payload) (i : ℕ) → length old ≤ i → payload_blocks_at r text old i ≡ goes_to r (first_place r.op (place_of r.places i)) (payload_at text i)
part_new r text old i l = ap (payload_blocks r i (payload_at text i)) (past old i l) ∙ part_first r i (payload_at text i)

-- the loop over payloads
payloads_cons : (r : Run) (text : List ℕ) (old : List Payload) (i n : ℕ) → payloads_from r text old i (suc n) ≡ (payload_blocks_at r text old i).payload ∷ payloads_from r text old (i + 1) n
unfolding payloads_from
payloads_cons r text old i n = refl

blocks_cons : (r : Run) (text : List ℕ) (old : List Payload) (i n : ℕ) → blocks_from r text old i (suc n) ≡ (payload_blocks_at r text old i).blocks ++ blocks_from r text old (i + 1) n
unfolding blocks_from
blocks_cons r text old i n = refl

pub payloads_step : (r : Run) (text : List ℕ) (old : List Payload) (i n : ℕ) (ps qs all : List Payload) (p : Payload) → i < n → p ≡ (payload_blocks_at r text old i).payload → qs ≡ ps ++ p ∷ []
    → ps ++ payloads_from r text old i (n - i) ≡ all → qs ++ payloads_from r text old (i + 1) (n - (i + 1)) ≡ all
payloads_step r text old i n ps qs all p l e s h =
    let m : n - i ≡ suc (n - (i + 1)) = omega arith in
    let rest = payloads_from r text old (i + 1) (n - (i + 1)) in
    ap (λ x. x ++ rest) (s ∙ ap (λ (x : Payload). ps ++ x ∷ []) e)
    ∙ (append_assoc ps ((payload_blocks_at r text old i).payload ∷ []) rest ∙ (ap (λ x. ps ++ x) (sym (payloads_cons r text old i (n - (i + 1)))) ∙ (ap (λ m. ps ++ payloads_from r text old i m) (sym m) ∙ h)))

pub blocks_step : (r : Run) (text : List ℕ) (old : List Payload) (i n : ℕ) (bs cs all : List Block) → i < n → cs ≡ bs ++ (payload_blocks_at r text old i).blocks
    → bs ++ blocks_from r text old i (n - i) ≡ all → cs ++ blocks_from r text old (i + 1) (n - (i + 1)) ≡ all
blocks_step r text old i n bs cs all l s h =
    let m : n - i ≡ suc (n - (i + 1)) = omega arith in
    let rest = blocks_from r text old (i + 1) (n - (i + 1)) in
    ap (λ x. x ++ rest) s
    ∙ (append_assoc bs (payload_blocks_at r text old i).blocks rest ∙ (ap (λ x. bs ++ x) (sym (blocks_cons r text old i (n - (i + 1)))) ∙ (ap (λ m. bs ++ blocks_from r text old i m) (sym m) ∙ h)))

pub payloads_end : (r : Run) (text : List ℕ) (old : List Payload) (i n : ℕ) (ps all : List Payload) → n ≤ i → ps ++ payloads_from r text old i (n - i) ≡ all → ps ≡ all
unfolding payloads_from
payloads_end r text old i n ps all l h = let z : n - i ≡ 0 = omega arith in let h' : ps ++ [] ≡ all = rw z at h in sym (append-nil ps) ∙ h'

pub blocks_end : (r : Run) (text : List ℕ) (old : List Payload) (i n : ℕ) (bs all : List Block) → n ≤ i → bs ++ blocks_from r text old i (n - i) ≡ all → bs ≡ all
unfolding blocks_from
blocks_end r text old i n bs all l h = let z : n - i ≡ 0 = omega arith in let h' : bs ++ [] ≡ all = rw z at h in sym (append-nil bs) ∙ h'

-- a text of so many payloads has bytes before the last one ends
pub begins_before : (n i : ℕ) → i < payloads n → 3968 * i ≤ n
begins_before n i l = omega arith

-- ---- blocks in the grid

placed_made : (c : Content) → c.address < grid_size → length (block_of c).bytes ≡ 4096 → is_some (content_of (block_of c).bytes) ≡ true → IsPlaced (block_of c)
unfolding block_of
placed_made c l s w = record { address = l; size = s; whole = w }

pub placed_is : (b : Block) (c : Content) → b ≡ block_of c → c.address < grid_size → length b.bytes ≡ 4096 → is_some (content_of b.bytes) ≡ true → IsPlaced b
placed_is b c e l s w =
    subst IsPlaced (sym e) (placed_made c l (subst (λ (b : Block). length b.bytes ≡ 4096) e s) (subst (λ (b : Block). is_some (content_of b.bytes) ≡ true) e w))

-- ---- both texts

length-payloads_from : (r : Run) (text : List ℕ) (old : List Payload) (i n : ℕ) → length (payloads_from r text old i n) ≡ n
unfolding payloads_from
length-payloads_from r text old i zero = refl
length-payloads_from r text old i (suc n) = ap suc (length-payloads_from r text old (i + 1) n)

pub sessions_count : (cluster : ℕ) (texts : Texts) (op : ℕ) (old t : PayloadTable) → t ≡ table_of cluster texts op old → length t.sessions ≡ payloads (length texts.sessions)
unfolding table_of
sessions_count cluster texts op old t e = ap (λ (t : PayloadTable). length t.sessions) e ∙ length-payloads_from (sessions_run cluster op) texts.sessions old.sessions 0 (payloads (length texts.sessions))

pub keys_count : (cluster : ℕ) (texts : Texts) (op : ℕ) (old t : PayloadTable) → t ≡ table_of cluster texts op old → length t.keys ≡ payloads (length texts.keys)
unfolding table_of
keys_count cluster texts op old t e = ap (λ (t : PayloadTable). length t.keys) e ∙ length-payloads_from (keys_run cluster op) texts.keys old.keys 0 (payloads (length texts.keys))

pub saved_is : (cluster : ℕ) (texts : Texts) (op : ℕ) (old t : PayloadTable) (b : Block) → t ≡ table_of cluster texts op old → b ≡ block_of (root_of cluster texts op t) → (let x : SavedCheckpoint = record { root = b.name; table = t } in x) ≡ saved_checkpoint cluster texts op old
saved_is cluster texts op old t b e s =
    ap (λ (n : Name). let x : SavedCheckpoint = record { root = n; table = t } in x) (name_of_made b (root_of cluster texts op t) s)
    ∙ ap (λ (t : PayloadTable). let x : SavedCheckpoint = record { root = block_name (root_of cluster texts op t); table = t } in x) e

-- the loop over blocks
pub calls_more : (bs : List Block) (i : ℕ) (b : Block) → i < length bs → b ≡ get_or bs i b → blocks_calls (drop i bs) ≡ block_calls b.name.address b.bytes ++ blocks_calls (drop (i + 1) bs)
unfolding blocks_calls
calls_more bs i b l e = at_drop_more blocks_calls bs i b l ∙ ap (λ (x : Block). block_calls x.name.address x.bytes ++ blocks_calls (drop (i + 1) bs)) (sym e)

pub calls_end : (bs : List Block) (i : ℕ) → length bs ≤ i → blocks_calls (drop i bs) ≡ []
unfolding blocks_calls
calls_end bs i l = at_drop_all blocks_calls bs i l
