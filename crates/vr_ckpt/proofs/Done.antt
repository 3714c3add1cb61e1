-- A checkpoint loads as it was saved.
use Rattle.std.proofs.Common.{ℕ, zero, suc, ◌+◌, ◌-◌, ◌*◌, ◌/◌, ◌%◌, ◌^◌, ◌≤◌, ◌<◌, ◌≡◌, inl, inr, arith, refl, sym, ap, ◌∙◌, Bool, true, false, cond, ltb, List, [], ◌∷◌, ◌++◌, length, take, drop, Option, Some, None, subst, append_assoc, length-append, length-take, length-drop}
use Rattle.std.specs.Prelude.{map, min, slice_get, IfSome}
use Rattle.std.specs.List.{AllByRecursion}
use Rattle.std.specs.Option.{option_and_then}
use Rattle.std.specs.Int.{w16, w32, w64}
use Rattle.std.proofs.lemmas.Bool.{eq-eqb, le-leb, le-ltb, lt-ltb, ltb-true}
use Rattle.std.proofs.lemmas.List.{append-nil, drop-drop, drop_all, drop_at, take_at, take-append-drop}
use Rattle.vr_state.specs.StateTexts.{FitsPayloads, key_payloads, payloads, session_payloads}
use Rattle.vr_state.specs.declared.texts.Texts.{Texts}
use Rattle.vr_base.specs.Bytes.{bytes16, bytes32, bytes64, number, piece}
use Rattle.vr_base.proofs.FieldLaws.{length-bytes16, length-bytes32, length-bytes64, length-name_of, number16_of, number32_of, number64_of}
use Rattle.vr_disk.specs.DiskState.{Disk, Face, IsFace, Sync, after, after_all}
use Rattle.vr_disk.specs.Regions.{block_place, sectors}
use Rattle.vr_disk.proofs.Telling.{if_some, some_if}
use Rattle.vr_disk.proofs.Together.{after_all_append, length_after_all, together_synced}
use Rattle.vr_ckpt.specs.Blocks.{Content, IsContent, block_bytes, block_name, block_of, named}
use Rattle.vr_ckpt.specs.Grid.{block_calls, block_reading, named_at}
use Rattle.vr_ckpt.specs.declared.block.Block.{Block}
use Rattle.vr_ckpt.specs.declared.name.Name.{Name}
use Rattle.vr_ckpt.proofs.Contents.{length-block_bytes, named_again, named_found}
use Rattle.vr_ckpt.proofs.Puts.{written_reads}
use Rattle.vr_ckpt.specs.Loads.{data_at, data_of, gathered, has_numbers, keys_size, name_at, names_at, read_root, root_at, root_in, sessions_size, text_of}
use Rattle.vr_ckpt.specs.declared.found.Load.TheVariants.{Loaded}
use Rattle.vr_ckpt.specs.Laws.{DoneLaw, Holds, HoldsFrom, SaveDone}
use Rattle.vr_ckpt.specs.Places.{HasRoom, IsCheckpoint, IsLower, grid_size, is_place, keys_places, place_of, root_place, sessions_places}
use Rattle.vr_ckpt.specs.Saves.{PayloadBlocks, blocks_calls, blocks_from, changed, data_content, goes_to, names_bytes, payload_blocks_at, payload_at, payloads_from, payloads_of, keys_run, root_of, root_payload, save_calls, sessions_run, table_of, written}
use Rattle.vr_ckpt.specs.declared.places.Places.{Places}
use Rattle.vr_ckpt.specs.declared.plan.Run.{Run}
use Rattle.vr_ckpt.specs.declared.root.Root.{Root}
use Rattle.vr_ckpt.specs.declared.table.Payload.{Payload}
use Rattle.vr_ckpt.specs.declared.table.PayloadTable.{PayloadTable}
use Rattle.vr_ckpt.proofs.Apart.{Avoids, avoid, avoids_append, by_place, key_avoided, keys_avoid, part_cases, root_elsewhere, session_avoided}
use Rattle.vr_ckpt.proofs.Keeping.{All, SameAt, blocks_same, data_same, gathered_of, loaded_of, same_after}
use Rattle.vr_ckpt.proofs.Placing.{AtPlace, at_place, at_within, is_at, key_above, key_lower, keys_room, numbers_apart, place_lower, session_above, session_lower, sessions_room, texts_apart}
use Rattle.vr_ckpt.proofs.Planning.{keys_count, payload_short, sessions_count}

-- ---- blocks read back

-- no block is written twice
abbrev pub Distinct : List Block → Type 0
Distinct [] = Unit {0}
Distinct (b ∷ bs) = Avoids b.name.address bs × Distinct bs

-- a block in the grid
abbrev pub Sized : Block → Type 0
Sized b = (b.name.address < grid_size) × (length b.bytes ≡ 4096)

abbrev pub Back : Face → Block → Type 0
Back g b = block_reading g b.name.address ≡ Some b.bytes

pub all_back : (bs : List Block) (f : Face) → length f.cells ≡ sectors → AllByRecursion Sized bs → Distinct bs → AllByRecursion (Back (after_all f (blocks_calls bs))) bs
unfolding blocks_calls
all_back [] f n s d = tt
all_back (b ∷ bs) f n s d =
    let x = b.name.address in
    let g = after_all f (block_calls x b.bytes) in
    let h = after_all g (blocks_calls bs) in
    let e : after_all f (block_calls x b.bytes ++ blocks_calls bs) ≡ h = after_all_append (block_calls x b.bytes) (blocks_calls bs) f in
    let first : Back h b = blocks_same bs g x d.0 ∙ written_reads x b.bytes f s.0.0 s.0.1 n in
    subst (λ (h : Face). AllByRecursion (Back h) (b ∷ bs)) (sym e) (first, all_back bs g (length_after_all (block_calls x b.bytes) f ∙ n) s.1 d.1)

pub all_append : {X : Type 0} → (P : X → Type 0) (xs ys : List X) → AllByRecursion P xs → AllByRecursion P ys → AllByRecursion P (xs ++ ys)
all_append P [] ys h k = k
all_append P (x ∷ xs) ys h k = (h.0, all_append P xs ys h.1 k)

pub all_split : {X : Type 0} → (P : X → Type 0) (xs ys : List X) → AllByRecursion P (xs ++ ys) → AllByRecursion P xs × AllByRecursion P ys
all_split P [] ys h = (tt, h)
all_split P (x ∷ xs) ys h = let p = all_split P xs ys h.1 in ((h.0, p.0), p.1)

pub distinct_append : (xs ys : List Block) → Distinct xs → Distinct ys → AllByRecursion (λ (b : Block). Avoids b.name.address ys) xs → Distinct (xs ++ ys)
distinct_append [] ys h k a = k
distinct_append (x ∷ xs) ys h k a = (avoids_append x.name.address xs ys h.0 a.0, distinct_append xs ys h.1 k a.1)

-- ---- the blocks of a text

-- at a place of one of the numbers
pub record At (r : Run) (i n : ℕ) (b : Block) : Type 0 where
  pub number : ℕ
  pub least : i ≤ number
  pub most : number < i + n
  pub place : AtPlace (place_of r.places number) b.name.address

goes_at : (r : Run) (i n k x : ℕ) (bytes : List ℕ) → i ≤ k → k < i + n → AtPlace (place_of r.places k) x → AllByRecursion (At r i n) (goes_to r x bytes).blocks
unfolding goes_to block_of data_content
goes_at r i n k x bytes l m a = (record { number = k; least = l; most = m; place = a }, tt)

wider : (r : Run) (i n : ℕ) (bs : List Block) → AllByRecursion (At r (i + 1) n) bs → AllByRecursion (At r i (suc n)) bs
wider r i n [] h = tt
wider r i n (b ∷ bs) h = (record { number = h.0.number; least = let l = h.0.least in omega arith; most = let l = h.0.most in omega arith; place = h.0.place }, wider r i n bs h.1)

part_blocks : (P : List Block → Type 0) (r : Run) (text : List ℕ) (old : List Payload) (i : ℕ) → P [] → ((x : ℕ) → AtPlace (place_of r.places i) x → P (goes_to r x (payload_at text i)).blocks) → P (payload_blocks_at r text old i).blocks
part_blocks P r text old i none some =
    elim (part_cases r i (payload_at text i) (slice_get old i)) [
      | inl s ↦ subst (λ (x : PayloadBlocks). P x.blocks) (sym s.is) none
      | inr g ↦ subst (λ (x : PayloadBlocks). P x.blocks) (sym g.is) (some g.address g.at)
    ]

pub all_at : (r : Run) (text : List ℕ) (old : List Payload) (i n : ℕ) → AllByRecursion (At r i n) (blocks_from r text old i n)
unfolding blocks_from
all_at r text old i zero = tt
all_at r text old i (suc n) =
    all_append (At r i (suc n)) (payload_blocks_at r text old i).blocks (blocks_from r text old (i + 1) n)
    (part_blocks (AllByRecursion (At r i (suc n))) r text old i tt (λ x a. goes_at r i (suc n) i x (payload_at text i) (omega arith) (omega arith) a))
    (wider r i n (blocks_from r text old (i + 1) n) (all_at r text old (i + 1) n))

goes_apart : (r : Run) (x : ℕ) (bytes : List ℕ) (bs : List Block) → Avoids x bs → AllByRecursion (λ (b : Block). Avoids b.name.address bs) (goes_to r x bytes).blocks
unfolding goes_to block_of data_content
goes_apart r x bytes bs h = (h, tt)

goes_distinct : (r : Run) (x : ℕ) (bytes : List ℕ) → Distinct (goes_to r x bytes).blocks
unfolding goes_to
goes_distinct r x bytes = (tt, tt)

pub text_distinct : (r : Run) (text : List ℕ) (old : List Payload) (i n m : ℕ) → HasRoom r.places m → i + n ≤ m → Distinct (blocks_from r text old i n)
unfolding blocks_from
text_distinct r text old i zero m room l = tt
text_distinct r text old i (suc n) m room l =
    let later = blocks_from r text old (i + 1) n in
    distinct_append (payload_blocks_at r text old i).blocks later
    (part_blocks Distinct r text old i tt (λ x a. goes_distinct r x (payload_at text i)))
    (text_distinct r text old (i + 1) n m room (omega arith))
    (part_blocks (AllByRecursion (λ (b : Block). Avoids b.name.address later)) r text old i tt (λ x a. goes_apart r x (payload_at text i) later
    (avoid r text old (i + 1) n x (λ k s t. by_place r old k (place_of r.places i) x a (numbers_apart r.places m k i room (omega arith) (omega arith) (λ e. absurd (omega arith))) (place_lower r.places m k room (omega arith)) (place_lower r.places m i room (omega arith))))))

-- ---- the payloads of a text

-- the pieces make the text
rest_of : (text : List ℕ) (i : ℕ) → payload_at text i ++ drop (3968 * (i + 1)) text ≡ drop (3968 * i) text
unfolding payload_at piece
rest_of text i =
    let n : 3968 * i + 3968 ≡ 3968 * (i + 1) = omega arith in
    ap (λ x. take 3968 (drop (3968 * i) text) ++ x) (ap (λ m. drop m text) (sym n) ∙ sym (drop-drop 3968 (3968 * i) text)) ∙ take-append-drop 3968 (drop (3968 * i) text)

goes_bytes : (r : Run) (x : ℕ) (bytes : List ℕ) → (goes_to r x bytes).payload.bytes ≡ bytes
unfolding goes_to
goes_bytes r x bytes = refl

pub part_bytes : (r : Run) (text : List ℕ) (old : List Payload) (i : ℕ) → (payload_blocks_at r text old i).payload.bytes ≡ payload_at text i
part_bytes r text old i =
    elim (part_cases r i (payload_at text i) (slice_get old i)) [
      | inl s ↦ ap (λ (x : PayloadBlocks). x.payload.bytes) s.is ∙ s.same
      | inr g ↦ ap (λ (x : PayloadBlocks). x.payload.bytes) g.is ∙ goes_bytes r g.address (payload_at text i)
    ]

text_from : (r : Run) (text : List ℕ) (old : List Payload) (i n : ℕ) → length text ≤ 3968 * (i + n) → text_of (payloads_from r text old i n) ≡ drop (3968 * i) text
unfolding payloads_from text_of
text_from r text old i zero l = sym (drop_all (3968 * i) text (omega arith))
text_from r text old i (suc n) l =
    ap (λ x. x ++ text_of (payloads_from r text old (i + 1) n)) (part_bytes r text old i) ∙ (ap (λ x. payload_at text i ++ x) (text_from r text old (i + 1) n (omega arith)) ∙ rest_of text i)

pub text_again : (r : Run) (text : List ℕ) (old : List Payload) → text_of (payloads_of r text old) ≡ text
text_again r text old = text_from r text old 0 (payloads (length text)) (omega arith)

length_at : (text : List ℕ) (i : ℕ) → length (payload_at text i) ≡ min (length text - 3968 * i) 3968
unfolding payload_at piece
length_at text i = let a = length-take 3968 (drop (3968 * i) text) in let b = length-drop (3968 * i) text in omega arith

-- a block of a payload reads as it
content_fits : (r : Run) (x : ℕ) (bytes : List ℕ) → r.cluster < 2 ^ 64 → r.op < 2 ^ 64 → x < grid_size → length bytes ≤ 3968 → IsContent (data_content r x bytes)
unfolding data_content
content_fits r x bytes c o a l = record { cluster = c; address = a; op = o; kind = refl; payload = l }

pub content_read : (g : Face) (c : Content) → IsContent c → block_reading g c.address ≡ Some (block_bytes c) → named_at g (block_name c) ≡ Some c
unfolding named_at
content_read g c h e = rw (lt-ltb c.address grid_size h.address, e) (named_again c h)

data_whole : (n : ℕ) (c : Content) → c.kind ≡ 2 → length c.payload ≡ n → data_of n c ≡ Some c.payload
data_whole n c k l = rw (eq-eqb c.kind 2 k, eq-eqb (length c.payload) n l) refl

-- a payload at its place, that reads
abbrev Held : Face → ℕ → Payload → Type 0
Held g low p = (is_place low p.name.address ≡ true) × (data_at g p.name (length p.bytes) ≡ Some p.bytes)

goes_held : (g : Face) (r : Run) (low x : ℕ) (bytes : List ℕ) → r.cluster < 2 ^ 64 → r.op < 2 ^ 64 → x < grid_size → length bytes ≤ 3968 → AtPlace low x → AllByRecursion (Back g) (goes_to r x bytes).blocks → Held g low (goes_to r x bytes).payload
unfolding goes_to block_of data_content data_at
goes_held g r low x bytes c o a l at h =
    let v = data_content r x bytes in
    (is_at low x at, ap (option_and_then (data_of (length bytes))) (content_read g v (content_fits r x bytes c o a l) h.0) ∙ data_whole (length bytes) v refl refl)

part_held : (g : Face) (r : Run) (text : List ℕ) (old : List Payload) (i : ℕ) → r.cluster < 2 ^ 64 → r.op < 2 ^ 64 → IsLower (place_of r.places i) → AllByRecursion (Back g) (payload_blocks_at r text old i).blocks
    → ((p : Payload) → slice_get old i ≡ Some p → Held g (place_of r.places i) p) → Held g (place_of r.places i) (payload_blocks_at r text old i).payload
part_held g r text old i c o l h kept =
    elim (part_cases r i (payload_at text i) (slice_get old i)) [
      | inl s ↦ subst (λ (x : PayloadBlocks). Held g (place_of r.places i) x.payload) (sym s.is) (kept s.payload s.there)
      | inr x ↦ subst (λ (y : PayloadBlocks). Held g (place_of r.places i) y.payload) (sym x.is)
          (goes_held g r (place_of r.places i) x.address (payload_at text i) c o (at_within (place_of r.places i) x.address l x.at) (payload_short text i) x.at (subst (λ (y : PayloadBlocks). AllByRecursion (Back g) y.blocks) x.is h))
    ]

pub holds_new : (g : Face) (r : Run) (text : List ℕ) (old : List Payload) (i n m : ℕ) → r.cluster < 2 ^ 64 → r.op < 2 ^ 64 → HasRoom r.places m → i + n ≤ m → AllByRecursion (Back g) (blocks_from r text old i n)
    → ((j : ℕ) (p : Payload) → slice_get old j ≡ Some p → i ≤ j → j < i + n → Held g (place_of r.places j) p) → HoldsFrom g r.places i (payloads_from r text old i n)
unfolding payloads_from blocks_from
holds_new g r text old i zero m c o room l h kept = tt
holds_new g r text old i (suc n) m c o room l h kept =
    let s = all_split (Back g) (payload_blocks_at r text old i).blocks (blocks_from r text old (i + 1) n) h in
    let p = part_held g r text old i c o (place_lower r.places m i room (omega arith)) s.0 (λ p e. kept i p e (omega arith) (omega arith)) in
    (p.0, p.1, holds_new g r text old (i + 1) n m c o room (omega arith) s.1 (λ j p e a b. kept j p e (omega arith) (omega arith)))

-- ---- what is gathered of them

abbrev names_of : List Payload → List Name
names_of ps = map (λ (p : Payload). p.name) ps

abbrev Sizes : ℕ → List Payload → Type 0
Sizes size [] = Unit {0}
Sizes size (p ∷ ps) = (length p.bytes ≡ min size 3968) × Sizes (size - 3968) ps

sizes_new : (r : Run) (text : List ℕ) (old : List Payload) (i n : ℕ) → Sizes (length text - 3968 * i) (payloads_from r text old i n)
unfolding payloads_from
sizes_new r text old i zero = tt
sizes_new r text old i (suc n) =
    let m : length text - 3968 * i - 3968 ≡ length text - 3968 * (i + 1) = omega arith in
    (ap length (part_bytes r text old i) ∙ length_at text i, rw m (sizes_new r text old (i + 1) n))

sizes_all : (r : Run) (text : List ℕ) (old : List Payload) → Sizes (length text) (payloads_of r text old)
sizes_all r text old = let z : length text - 3968 * 0 ≡ length text = omega arith in subst (λ (k : ℕ). Sizes k (payloads_of r text old)) z (sizes_new r text old 0 (payloads (length text)))

gathers : (g : Face) (l : Places) (k size : ℕ) (ps : List Payload) → HoldsFrom g l k ps → Sizes size ps → gathered g size (names_of ps) ≡ All ps
unfolding gathered
gathers g l k size [] h s = refl
gathers g l k size (p ∷ ps) h s =
    let reads : data_at g p.name (min size 3968) ≡ Some p.bytes = ap (data_at g p.name) (sym s.0) ∙ h.1 in
    gathered_of g size p.name (names_of ps) p.bytes ps reads (gathers g l (k + 1) (size - 3968) ps h.2 s.1)

-- ---- the root's payload

number64_there : (b : List ℕ) (k n : ℕ) → take 8 (drop k b) ≡ bytes64 n → n < 2 ^ 64 → number w64 k b ≡ n
unfolding piece
number64_there b k n e l = number64_of k n b e l

number32_there : (b : List ℕ) (k n : ℕ) → take 4 (drop k b) ≡ bytes32 n → n < 2 ^ 32 → number w32 k b ≡ n
unfolding piece
number32_there b k n e l = number32_of k n b e l

number16_there : (b : List ℕ) (k n : ℕ) → take 2 (drop k b) ≡ bytes16 n → n < 2 ^ 16 → number w16 k b ≡ n
unfolding piece
number16_there b k n e l = number16_of k n b e l

sizes : (op ls lk n : ℕ) (x y : List ℕ) → length (bytes64 op ++ (bytes32 ls ++ (bytes32 lk ++ (bytes16 n ++ (x ++ y))))) ≡ 18 + (length x + length y)
sizes op ls lk n x y =
    let a = length-append (bytes64 op) (bytes32 ls ++ (bytes32 lk ++ (bytes16 n ++ (x ++ y)))) in
    let b = length-append (bytes32 ls) (bytes32 lk ++ (bytes16 n ++ (x ++ y))) in
    let c = length-append (bytes32 lk) (bytes16 n ++ (x ++ y)) in
    let d = length-append (bytes16 n) (x ++ y) in
    let e = length-append x y in
    let f = length-bytes64 op in
    let g = length-bytes32 ls in
    let h = length-bytes32 lk in
    let i = length-bytes16 n in
    omega arith

pub record Fit (n : Name) : Type 0 where
  pub sum : length n.sum.0 ≡ 16
  pub address : n.address < 2 ^ 64

pub fit_name : (b : List ℕ) (n : Name) (c : Content) → n.address < grid_size → named n b ≡ Some c → Fit n
fit_name b n c l e =
    let p = (named_found n b c e).1 in
    record { sum = ap (λ (n : Name). length n.sum.0) (sym p) ∙ length-name_of _; address = omega arith }

fit_of : (g : Face) (n : Name) (size : ℕ) (bytes : List ℕ) → data_at g n size ≡ Some bytes → Fit n
unfolding data_at named_at
fit_of g n size bytes e = by_test (ltb n.address grid_size) refl e
  where
    by_bytes : (b : List ℕ) (o : Option Content) → n.address < grid_size → named n b ≡ o → option_and_then (data_of size) o ≡ Some bytes → Fit n
    by_bytes b None l s e = absurd cc
    by_bytes b (Some c) l s e = fit_name b n c l s

    by_reading : (o : Option (List ℕ)) → n.address < grid_size → option_and_then (data_of size) (option_and_then (named n) o) ≡ Some bytes → Fit n
    by_reading None l e = absurd cc
    by_reading (Some b) l e = by_bytes b (named n b) l refl e

    by_test : (t : Bool) → ltb n.address grid_size ≡ t → option_and_then (data_of size) (cond t (option_and_then (named n) (block_reading g n.address)) None) ≡ Some bytes → Fit n
    by_test true t e = by_reading (block_reading g n.address) (ltb-true n.address grid_size t) e
    by_test false t e = absurd cc

abbrev pub Fits : List Payload → Type 0
Fits ps = AllByRecursion (λ (p : Payload). Fit p.name) ps

fits_held : (g : Face) (l : Places) (k : ℕ) (ps : List Payload) → HoldsFrom g l k ps → Fits ps
fits_held g l k [] h = tt
fits_held g l k (p ∷ ps) h = (fit_of g p.name (length p.bytes) p.bytes h.1, fits_held g l (k + 1) ps h.2)

pub goes_fit : (r : Run) (x : ℕ) (bytes : List ℕ) → x < grid_size → Fit (goes_to r x bytes).payload.name
unfolding goes_to data_content
goes_fit r x bytes l = record { sum = length-name_of _; address = omega arith }

fits_new : (r : Run) (text : List ℕ) (old : List Payload) (i n m : ℕ) → HasRoom r.places m → i + n ≤ m → ((j : ℕ) (p : Payload) → slice_get old j ≡ Some p → Fit p.name) → Fits (payloads_from r text old i n)
unfolding payloads_from
fits_new r text old i zero m room l h = tt
fits_new r text old i (suc n) m room l h = (
  elim (part_cases r i (payload_at text i) (slice_get old i)) [
    | inl s ↦ subst (λ (x : PayloadBlocks). Fit x.payload.name) (sym s.is) (h i s.payload s.there)
    | inr x ↦ subst (λ (y : PayloadBlocks). Fit y.payload.name) (sym x.is) (goes_fit r x.address (payload_at text i) (at_within (place_of r.places i) x.address (place_lower r.places m i room (omega arith)) x.at))
  ],
  fits_new r text old (i + 1) n m room (omega arith) h,
)

pub length-names : (ps : List Payload) → Fits ps → length (names_bytes ps) ≡ 24 * length ps
unfolding names_bytes
length-names [] h = refl
length-names (p ∷ ps) h =
    let f = h.0.sum in
    let a = length-append (bytes64 p.name.address) (p.name.sum.0 ++ names_bytes ps) in
    let b = length-append p.name.sum.0 (names_bytes ps) in
    let c = length-bytes64 p.name.address in
    let d = length-names ps h.1 in
    omega arith

-- one name at its place
pub name_there : (b rest : List ℕ) (i : ℕ) (n : Name) → Fit n → drop (18 + 24 * i) b ≡ bytes64 n.address ++ (n.sum.0 ++ rest) → name_at b i ≡ n
unfolding name_at piece
name_there b rest i n f e =
    let address : number w64 (18 + 24 * i) b ≡ n.address = number64_there b (18 + 24 * i) n.address (ap (take 8) e ∙ take_at (bytes64 n.address) (n.sum.0 ++ rest) 8 (length-bytes64 n.address)) f.address in
    let m : 26 + 24 * i ≡ 18 + 24 * i + 8 = omega arith in
    let sum : take 16 (drop (26 + 24 * i) b) ≡ n.sum.0 =
    ap (λ k. take 16 (drop k b)) m ∙ (ap (take 16) (sym (drop-drop 8 (18 + 24 * i) b) ∙ (ap (drop 8) e ∙ drop_at (bytes64 n.address) (n.sum.0 ++ rest) 8 (length-bytes64 n.address))) ∙ take_at n.sum.0 rest 16 f.sum) in
    ap (λ (k : ℕ). let x : Name = record { address = k; sum = record { 0 = take 16 (drop (26 + 24 * i) b) } } in x) address
    ∙ ap (λ (s : List ℕ). let x : Name = record { address = n.address; sum = record { 0 = s } } in x) sum

pub after_name : (b rest : List ℕ) (i : ℕ) (n : Name) → Fit n → drop (18 + 24 * i) b ≡ bytes64 n.address ++ (n.sum.0 ++ rest) → drop (18 + 24 * (i + 1)) b ≡ rest
after_name b rest i n f e =
    let m : 18 + 24 * (i + 1) ≡ 18 + 24 * i + 8 + 16 = omega arith in
    ap (λ k. drop k b) m ∙ (sym (drop-drop 16 (18 + 24 * i + 8) b) ∙ (ap (drop 16) (sym (drop-drop 8 (18 + 24 * i) b) ∙ (ap (drop 8) e ∙ drop_at (bytes64 n.address) (n.sum.0 ++ rest) 8 (length-bytes64 n.address))) ∙ drop_at n.sum.0 rest 16 f.sum))

names_there : (g : Face) (l : Places) (k : ℕ) (b rest : List ℕ) (i : ℕ) (ps : List Payload) → HoldsFrom g l k ps → drop (18 + 24 * i) b ≡ names_bytes ps ++ rest → names_at l k b i (length ps) ≡ Some (names_of ps)
unfolding names_at names_bytes
names_there g l k b rest i [] h e = refl
names_there g l k b rest i (p ∷ ps) h e =
    let f = fit_of g p.name (length p.bytes) p.bytes h.1 in
    let s : drop (18 + 24 * i) b ≡ bytes64 p.name.address ++ (p.name.sum.0 ++ (names_bytes ps ++ rest)) =
    e ∙ (append_assoc (bytes64 p.name.address) (p.name.sum.0 ++ names_bytes ps) rest ∙ ap (λ x. bytes64 p.name.address ++ x) (append_assoc p.name.sum.0 (names_bytes ps) rest)) in
    let later = names_there g l (k + 1) b rest (i + 1) ps h.2 (after_name b (names_bytes ps ++ rest) i p.name f s) in
    rw (name_there b (names_bytes ps ++ rest) i p.name f s, h.0, later) refl

-- ---- the root

pub record RootWords (op ls lk : ℕ) (t : PayloadTable) (p : List ℕ) : Type 0 where
  pub op_there : number w64 0 p ≡ op
  pub sessions_there : sessions_size p ≡ ls
  pub keys_there : keys_size p ≡ lk
  pub count_there : number w16 16 p ≡ length t.sessions + length t.keys
  pub names : drop 18 p ≡ names_bytes t.sessions ++ names_bytes t.keys
  pub size : length p ≡ 18 + (length (names_bytes t.sessions) + length (names_bytes t.keys))

pub words : (op ls lk : ℕ) (t : PayloadTable) → op < 2 ^ 64 → ls < 2 ^ 32 → lk < 2 ^ 32 → length t.sessions + length t.keys < 2 ^ 16 → RootWords op ls lk t (root_payload op ls lk t)
unfolding root_payload sessions_size keys_size
words op ls lk t a b c d =
    let n = length t.sessions + length t.keys in
    let ns = names_bytes t.sessions ++ names_bytes t.keys in
    let p3 = bytes16 n ++ ns in
    let p2 = bytes32 lk ++ p3 in
    let p1 = bytes32 ls ++ p2 in
    let p = bytes64 op ++ p1 in
    let d8 : drop 8 p ≡ p1 = drop_at (bytes64 op) p1 8 (length-bytes64 op) in
    let d12 : drop 12 p ≡ p2 = sym (drop-drop 4 8 p) ∙ (ap (drop 4) d8 ∙ drop_at (bytes32 ls) p2 4 (length-bytes32 ls)) in
    let d16 : drop 16 p ≡ p3 = sym (drop-drop 4 12 p) ∙ (ap (drop 4) d12 ∙ drop_at (bytes32 lk) p3 4 (length-bytes32 lk)) in
    let d18 : drop 18 p ≡ ns = sym (drop-drop 2 16 p) ∙ (ap (drop 2) d16 ∙ drop_at (bytes16 n) ns 2 (length-bytes16 n)) in
    record {
      op_there = number64_there p 0 op (take_at (bytes64 op) p1 8 (length-bytes64 op)) a;
      sessions_there = number32_there p 8 ls (ap (take 4) d8 ∙ take_at (bytes32 ls) p2 4 (length-bytes32 ls)) b;
      keys_there = number32_there p 12 lk (ap (take 4) d12 ∙ take_at (bytes32 lk) p3 4 (length-bytes32 lk)) c;
      count_there = number16_there p 16 n (ap (take 2) d16 ∙ take_at (bytes16 n) ns 2 (length-bytes16 n)) d;
      names = d18;
      size = sizes op ls lk n (names_bytes t.sessions) (names_bytes t.keys);
    }

root_read : (g : Face) (cluster op : ℕ) (texts : Texts) (t : PayloadTable) → op < 2 ^ 64 → FitsPayloads texts → HoldsFrom g sessions_places 0 t.sessions → HoldsFrom g keys_places 0 t.keys → length t.sessions ≡ payloads (length texts.sessions) → length t.keys ≡ payloads (length texts.keys)
    → read_root (root_of cluster texts op t) ≡ Some (record { sessions_size = length texts.sessions; keys_size = length texts.keys; sessions = names_of t.sessions; keys = names_of t.keys })
unfolding read_root root_of root_in has_numbers
root_read g cluster op texts t a fits hs hk ns nk =
    let ls = length texts.sessions in
    let lk = length texts.keys in
    let few = fits.sessions in
    let many = fits.keys in
    let p = root_payload op ls lk t in
    let w = words op ls lk t a (omega arith) (omega arith) (omega arith) in
    let sa = length-names t.sessions (fits_held g sessions_places 0 t.sessions hs) in
    let sb = length-names t.keys (fits_held g keys_places 0 t.keys hk) in
    let size = w.size in
    let whole : length p ≡ 18 + 24 * (payloads ls + payloads lk) = omega arith in
    let count : number w16 16 p ≡ payloads ls + payloads lk = let c = w.count_there in omega arith in
    let first : names_at sessions_places 0 p 0 (payloads ls) ≡ Some (names_of t.sessions) = ap (names_at sessions_places 0 p 0) (sym ns) ∙ names_there g sessions_places 0 p (names_bytes t.keys) 0 t.sessions hs w.names in
    let at : drop (18 + 24 * payloads ls) p ≡ names_bytes t.keys ++ [] =
    sym (drop-drop (24 * payloads ls) 18 p) ∙ (ap (drop (24 * payloads ls)) w.names ∙ (drop_at (names_bytes t.sessions) (names_bytes t.keys) (24 * payloads ls) (omega arith) ∙ sym (append-nil (names_bytes t.keys)))) in
    let second : names_at keys_places 0 p (payloads ls) (payloads lk) ≡ Some (names_of t.keys) = ap (names_at keys_places 0 p (payloads ls)) (sym nk) ∙ names_there g keys_places 0 p [] (payloads ls) t.keys hk at in
    rw (
      eq-eqb (root_place op) (root_place op) refl,
      le-ltb (length p) 18 (omega arith),
      w.sessions_there,
      w.keys_there,
      eq-eqb (number w64 0 p) op w.op_there,
      le-leb (payloads ls) session_payloads few,
      le-leb (payloads lk) key_payloads many,
      eq-eqb (number w16 16 p) (payloads ls + payloads lk) count,
      eq-eqb (length p) (18 + 24 * (payloads ls + payloads lk)) whole,
      first,
      second,
    )
    (ap (λ (m : ℕ). let x : Root = record { sessions_size = m; keys_size = keys_size p; sessions = names_of t.sessions; keys = names_of t.keys } in Some x) w.sessions_there
    ∙ ap (λ (m : ℕ). let x : Root = record { sessions_size = ls; keys_size = m; sessions = names_of t.sessions; keys = names_of t.keys } in Some x) w.keys_there)

-- ---- all of a checkpoint

held_at : (f : Face) (l : Places) (i : ℕ) (ps : List Payload) (j : ℕ) (p : Payload) → HoldsFrom f l i ps → slice_get ps j ≡ Some p → (j < length ps) × Held f (place_of l (i + j)) p
held_at f l i [] j p h e = absurd cc
held_at f l i (q ∷ ps) zero p h e =
    let same : q ≡ p = cc in
    let z : i + 0 ≡ i = omega arith in
    (omega arith, subst (λ (q : Payload). Held f (place_of l (i + 0)) q) same (rw z (h.0, h.1)))
held_at f l i (q ∷ ps) (suc j) p h e =
    let r = held_at f l (i + 1) ps j p h.2 e in
    let z : i + 1 + j ≡ i + suc j = omega arith in
    (let l = r.0 in omega arith, subst (λ (k : ℕ). Held f (place_of l k) p) z r.1)

held_of : (f : Face) (l : Places) (ps : List Payload) (j : ℕ) (p : Payload) → HoldsFrom f l 0 ps → slice_get ps j ≡ Some p → (j < length ps) × Held f (place_of l j) p
held_of f l ps j p h e = let z : 0 + j ≡ j = omega arith in subst (λ (k : ℕ). (j < length ps) × Held f (place_of l k) p) z (held_at f l 0 ps j p h e)

each_at : (r : Run) (i n : ℕ) (Q : Block → Type 0) (bs : List Block) → ((b : Block) → At r i n b → Q b) → AllByRecursion (At r i n) bs → AllByRecursion Q bs
each_at r i n Q [] f h = tt
each_at r i n Q (b ∷ bs) f h = (f b h.0, each_at r i n Q bs f h.1)

goes_sized : (r : Run) (x : ℕ) (bytes : List ℕ) → r.cluster < 2 ^ 64 → r.op < 2 ^ 64 → x < grid_size → length bytes ≤ 3968 → AllByRecursion Sized (goes_to r x bytes).blocks
unfolding goes_to block_of data_content
goes_sized r x bytes c o a l = ((a, length-block_bytes (data_content r x bytes) (content_fits r x bytes c o a l)), tt)

text_sized : (r : Run) (text : List ℕ) (old : List Payload) (i n m : ℕ) → r.cluster < 2 ^ 64 → r.op < 2 ^ 64 → HasRoom r.places m → i + n ≤ m → AllByRecursion Sized (blocks_from r text old i n)
unfolding blocks_from
text_sized r text old i zero m c o room l = tt
text_sized r text old i (suc n) m c o room l =
    all_append Sized (payload_blocks_at r text old i).blocks (blocks_from r text old (i + 1) n)
    (part_blocks (AllByRecursion Sized) r text old i tt (λ x a. goes_sized r x (payload_at text i) c o (at_within (place_of r.places i) x (place_lower r.places m i room (omega arith)) a) (payload_short text i)))
    (text_sized r text old (i + 1) n m c o room (omega arith))

synced_back : (f : Face) (bs : List Block) → AllByRecursion (Back f) bs → AllByRecursion (Back (after f Sync)) bs
unfolding block_reading
synced_back f [] h = tt
synced_back f (b ∷ bs) h = (together_synced 8 (block_place b.name.address) f ∙ h.0, synced_back f bs h.1)

root_fits : (cluster op : ℕ) (texts : Texts) (t : PayloadTable) → cluster < 2 ^ 64 → op < 2 ^ 64 → FitsPayloads texts → Fits t.sessions → Fits t.keys → length t.sessions ≡ payloads (length texts.sessions) → length t.keys ≡ payloads (length texts.keys)
    → IsContent (root_of cluster texts op t)
unfolding root_of
root_fits cluster op texts t c o fits a b n m =
    let few = fits.sessions in
    let many = fits.keys in
    let w = words op (length texts.sessions) (length texts.keys) t o (omega arith) (omega arith) (omega arith) in
    let s = w.size in
    let x = length-names t.sessions a in
    let y = length-names t.keys b in
    let l : (op / 32) % 2 < 2 = omega arith in
    record { cluster = c; address = omega arith; op = o; kind = refl; payload = omega arith }

root_back : (g : Face) (c : Content) → AllByRecursion (Back g) (block_of c ∷ []) → block_reading g c.address ≡ Some (block_bytes c)
unfolding block_of
root_back g c h = h.0

root_sized : (c : Content) → IsContent c → AllByRecursion Sized (block_of c ∷ [])
unfolding block_of
root_sized c h = ((h.address, length-block_bytes c h), tt)

root_there : (g : Face) (c : Content) (r : Root) → named_at g (block_name c) ≡ Some c → read_root c ≡ Some r → root_at g (block_name c) ≡ Some r
unfolding root_at
root_there g c r e s = ap (option_and_then read_root) e ∙ s

-- the texts of a checkpoint, its table, and what is written
record Parts (cluster : ℕ) (texts : Texts) (op : ℕ) (old t : PayloadTable) (xs ys : List Block) (root : Content) : Type 0 where
  sessions : t.sessions ≡ payloads_of (sessions_run cluster op) texts.sessions old.sessions
  keys : t.keys ≡ payloads_of (keys_run cluster op) texts.keys old.keys
  whole : written cluster texts op old ≡ xs ++ (ys ++ block_of root ∷ [])

parts : (cluster : ℕ) (texts : Texts) (op : ℕ) (old : PayloadTable)
    → Parts cluster texts op old (table_of cluster texts op old) (changed (sessions_run cluster op) texts.sessions old.sessions) (changed (keys_run cluster op) texts.keys old.keys) (root_of cluster texts op (table_of cluster texts op old))
unfolding table_of written
parts cluster texts op old = record { sessions = refl; keys = refl; whole = refl }

session_apart : (cluster : ℕ) (texts : Texts) (op : ℕ) (old t : PayloadTable) (b : Block) → FitsPayloads texts → At (sessions_run cluster op) 0 (payloads (length texts.sessions)) b
    → Avoids b.name.address (changed (keys_run cluster op) texts.keys old.keys ++ block_of (root_of cluster texts op t) ∷ [])
session_apart cluster texts op old t b fits at =
    let n = fits.sessions in
    let l = at.most in
    let few : at.number < session_payloads = omega arith in
    let low = session_lower at.number few in
    let q = place_of sessions_places at.number in
    avoids_append b.name.address (changed (keys_run cluster op) texts.keys old.keys) _
    (keys_avoid cluster op q b.name.address texts.keys old.keys fits.keys at.place low (λ k x e. texts_apart at.number k few x (sym e)))
    (root_elsewhere cluster op q b.name.address texts t at.place low (session_above at.number))

key_apart : (cluster : ℕ) (texts : Texts) (op : ℕ) (t : PayloadTable) (b : Block) → FitsPayloads texts → At (keys_run cluster op) 0 (payloads (length texts.keys)) b → Avoids b.name.address (block_of (root_of cluster texts op t) ∷ [])
key_apart cluster texts op t b fits at =
    let m = fits.keys in
    let l = at.most in
    root_elsewhere cluster op (place_of keys_places at.number) b.name.address texts t at.place (key_lower at.number (omega arith)) (key_above at.number)

written_distinct : (cluster : ℕ) (texts : Texts) (op : ℕ) (old t : PayloadTable) → FitsPayloads texts
    → Distinct (changed (sessions_run cluster op) texts.sessions old.sessions ++ (changed (keys_run cluster op) texts.keys old.keys ++ block_of (root_of cluster texts op t) ∷ []))
written_distinct cluster texts op old t fits =
    let n = fits.sessions in
    let m = fits.keys in
    let s = sessions_run cluster op in
    let k = keys_run cluster op in
    let xs = changed s texts.sessions old.sessions in
    let ys = changed k texts.keys old.keys in
    let rs = block_of (root_of cluster texts op t) ∷ [] in
    distinct_append xs (ys ++ rs) (text_distinct s texts.sessions old.sessions 0 (payloads (length texts.sessions)) (payloads (length texts.sessions)) (sessions_room (payloads (length texts.sessions)) n) (omega arith))
    (distinct_append ys rs (text_distinct k texts.keys old.keys 0 (payloads (length texts.keys)) (payloads (length texts.keys)) (keys_room (payloads (length texts.keys)) m) (omega arith)) (tt, tt)
    (each_at k 0 (payloads (length texts.keys)) (λ (b : Block). Avoids b.name.address rs) ys (λ b at. key_apart cluster texts op t b fits at) (all_at k texts.keys old.keys 0 (payloads (length texts.keys)))))
    (each_at s 0 (payloads (length texts.sessions)) (λ (b : Block). Avoids b.name.address (ys ++ rs)) xs (λ b at. session_apart cluster texts op old t b fits at) (all_at s texts.sessions old.sessions 0 (payloads (length texts.sessions))))

-- what is held stays held
held_same : (f g : Face) (low : ℕ) (p : Payload) → SameAt f g p.name.address → Held f low p → Held g low p
held_same f g low p s h = (h.0, data_same f g p.name (length p.bytes) s ∙ h.1)

face_of_save : (cluster : ℕ) (texts : Texts) (op : ℕ) (old : PayloadTable) (f : Face) → after_all f (save_calls cluster texts op old) ≡ after (after_all f (blocks_calls (written cluster texts op old))) Sync
unfolding save_calls
face_of_save cluster texts op old f = after_all_append (blocks_calls (written cluster texts op old)) (Sync ∷ []) f

all_read : (cluster : ℕ) (texts : Texts) (op : ℕ) (old : PayloadTable) (f : Face) → cluster < 2 ^ 64 → op < 2 ^ 64 → FitsPayloads texts → IsFace f → Holds f old
    → AllByRecursion (Back (after_all f (save_calls cluster texts op old))) (changed (sessions_run cluster op) texts.sessions old.sessions ++ (changed (keys_run cluster op) texts.keys old.keys ++ block_of (root_of cluster texts op (table_of cluster texts op old)) ∷ []))
all_read cluster texts op old f c o fits face h =
    let n = fits.sessions in
    let m = fits.keys in
    let s = sessions_run cluster op in
    let k = keys_run cluster op in
    let t = table_of cluster texts op old in
    let p = parts cluster texts op old in
    let xs = changed s texts.sessions old.sessions in
    let ys = changed k texts.keys old.keys in
    let rs = block_of (root_of cluster texts op t) ∷ [] in
    let fs : Fits t.sessions = subst Fits (sym p.sessions) (fits_new s texts.sessions old.sessions 0 (payloads (length texts.sessions)) (payloads (length texts.sessions)) (sessions_room (payloads (length texts.sessions)) n) (omega arith) (λ j q e. fit_of f q.name (length q.bytes) q.bytes (held_of f sessions_places old.sessions j q h.sessions e).1.1)) in
    let fk : Fits t.keys = subst Fits (sym p.keys) (fits_new k texts.keys old.keys 0 (payloads (length texts.keys)) (payloads (length texts.keys)) (keys_room (payloads (length texts.keys)) m) (omega arith) (λ j q e. fit_of f q.name (length q.bytes) q.bytes (held_of f keys_places old.keys j q h.keys e).1.1)) in
    let root = root_fits cluster op texts t c o fits fs fk (sessions_count cluster texts op old t refl) (keys_count cluster texts op old t refl) in
    let sized = all_append Sized xs (ys ++ rs) (text_sized s texts.sessions old.sessions 0 (payloads (length texts.sessions)) (payloads (length texts.sessions)) c o (sessions_room (payloads (length texts.sessions)) n) (omega arith))
    (all_append Sized ys rs (text_sized k texts.keys old.keys 0 (payloads (length texts.keys)) (payloads (length texts.keys)) c o (keys_room (payloads (length texts.keys)) m) (omega arith)) (root_sized (root_of cluster texts op t) root)) in
    let back = all_back (xs ++ (ys ++ rs)) f face.count sized (written_distinct cluster texts op old t fits) in
    let e : after_all f (save_calls cluster texts op old) ≡ after (after_all f (blocks_calls (xs ++ (ys ++ rs)))) Sync = face_of_save cluster texts op old f ∙ ap (λ bs. after (after_all f (blocks_calls bs)) Sync) p.whole in
    subst (λ (g : Face). AllByRecursion (Back g) (xs ++ (ys ++ rs))) (sym e) (synced_back (after_all f (blocks_calls (xs ++ (ys ++ rs)))) (xs ++ (ys ++ rs)) back)

same_texts : (texts : Texts) (t : PayloadTable) → text_of t.sessions ≡ texts.sessions → text_of t.keys ≡ texts.keys → (let x : Texts = record { sessions = text_of t.sessions; keys = text_of t.keys } in x) ≡ texts
same_texts texts t a b =
    ap (λ (y : List ℕ). let x : Texts = record { sessions = y; keys = text_of t.keys } in x) a ∙ ap (λ (y : List ℕ). let x : Texts = record { sessions = texts.sessions; keys = y } in x) b

pub done : (cluster : ℕ) (texts : Texts) (op : ℕ) (old : PayloadTable) (f : Face) → cluster < 2 ^ 64 → op < 2 ^ 64 → FitsPayloads texts → IsFace f → Holds f old → SaveDone cluster texts op old f
done cluster texts op old f c o fits face h =
    let n = fits.sessions in
    let m = fits.keys in
    let s = sessions_run cluster op in
    let k = keys_run cluster op in
    let t = table_of cluster texts op old in
    let p = parts cluster texts op old in
    let g = after_all f (save_calls cluster texts op old) in
    let xs = changed s texts.sessions old.sessions in
    let ys = changed k texts.keys old.keys in
    let root = root_of cluster texts op t in
    let back = all_split (Back g) xs (ys ++ block_of root ∷ []) (all_read cluster texts op old f c o fits face h) in
    let more = all_split (Back g) ys (block_of root ∷ []) back.1 in
    let few = h.few_sessions in
    let many = h.few_keys in
    let hs : HoldsFrom g sessions_places 0 t.sessions = subst (HoldsFrom g sessions_places 0) (sym p.sessions) (holds_new g s texts.sessions old.sessions 0 (payloads (length texts.sessions)) (payloads (length texts.sessions)) c o (sessions_room (payloads (length texts.sessions)) n) (omega arith) back.0
    (λ j q e a b. let x = held_of f sessions_places old.sessions j q h.sessions e in held_same f g (place_of sessions_places j) q (same_after cluster texts op old f q.name.address (session_avoided cluster texts op old j q fits e (let l = x.0 in omega arith) (at_place (place_of sessions_places j) q.name.address x.1.0))) x.1)) in
    let hk : HoldsFrom g keys_places 0 t.keys = subst (HoldsFrom g keys_places 0) (sym p.keys) (holds_new g k texts.keys old.keys 0 (payloads (length texts.keys)) (payloads (length texts.keys)) c o (keys_room (payloads (length texts.keys)) m) (omega arith) more.0
    (λ j q e a b. let x = held_of f keys_places old.keys j q h.keys e in held_same f g (place_of keys_places j) q (same_after cluster texts op old f q.name.address (key_avoided cluster texts op old j q fits e (let l = x.0 in omega arith) (at_place (place_of keys_places j) q.name.address x.1.0))) x.1)) in
    let ns = sessions_count cluster texts op old t refl in
    let nk = keys_count cluster texts op old t refl in
    let r : Root = record { sessions_size = length texts.sessions; keys_size = length texts.keys; sessions = names_of t.sessions; keys = names_of t.keys } in
    let content = root_fits cluster op texts t c o fits (fits_held g sessions_places 0 t.sessions hs) (fits_held g keys_places 0 t.keys hk) ns nk in
    let at = root_there g root r (content_read g root content (root_back g root more.1)) (root_read g cluster op texts t o fits hs hk ns nk) in
    let ss : Sizes (length texts.sessions) t.sessions = subst (Sizes (length texts.sessions)) (sym p.sessions) (sizes_all s texts.sessions old.sessions) in
    let sk : Sizes (length texts.keys) t.keys = subst (Sizes (length texts.keys)) (sym p.keys) (sizes_all k texts.keys old.keys) in
    loaded_of g (block_name root) r t at (gathers g sessions_places 0 (length texts.sessions) t.sessions hs ss) (gathers g keys_places 0 (length texts.keys) t.keys hk sk)
    ∙ ap (λ (x : Texts). Loaded x t) (same_texts texts t (ap text_of p.sessions ∙ text_again s texts.sessions old.sessions) (ap text_of p.keys ∙ text_again k texts.keys old.keys))

pub done_law : DoneLaw
done_law cluster texts op old f c is fits face h = let m = is.most in done cluster texts op old f c (omega arith) fits face h

pub dones : (t : Option Disk) (cluster : ℕ) (texts : Texts) (op : ℕ) (old : PayloadTable) → IfSome t (λ (d : Disk). IsFace d.face) → cluster < 2 ^ 64 → IsCheckpoint op → FitsPayloads texts
    → IfSome t (λ (d : Disk). Holds d.face old → SaveDone cluster texts op old d.face)
dones t cluster texts op old face c is fits =
    if_some (λ (d : Disk). Holds d.face old → SaveDone cluster texts op old d.face) t (λ d e h. done_law cluster texts op old d.face c is fits (some_if (λ (d : Disk). IsFace d.face) t d face e) h)
