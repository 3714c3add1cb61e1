-- What a checkpoint loads as, where names don't collide: the texts that its root was written for.
use Rattle.std.proofs.Common.{ℕ, zero, suc, ◌+◌, ◌-◌, ◌*◌, ◌^◌, ◌≤◌, ◌<◌, ◌≡◌, ◌∙◌, inl, inr, arith, refl, sym, ap, subst, Bool, true, false, cond, ltb, eqb, ◌&&◌, List, [], ◌∷◌, ◌++◌, length, take, drop, Option, Some, None, append_assoc}
use Rattle.std.specs.Prelude.{map, min, slice_get, Contains}
use Rattle.std.specs.Option.{option_and_then, option_map}
use Rattle.std.proofs.lemmas.Bool.{ltb-true}
use Rattle.std.proofs.lemmas.List.{append-nil, drop-drop, drop_at, take_at}
use Rattle.std.proofs.lemmas.List.Elements.{Contains-append_left, Contains-append_right}
use Rattle.vr_base.specs.Bytes.{bytes64, name_of}
use Rattle.vr_base.proofs.FieldLaws.{length-name_of}
use Rattle.vr_header.specs.Spelling.{named_bytes}
use Rattle.vr_header.specs.NoCollision.{NoCollision}
use Rattle.vr_disk.specs.DiskState.{Face}
use Rattle.vr_state.specs.StateTexts.{FitsPayloads, key_payloads, payloads, session_payloads}
use Rattle.vr_state.specs.declared.texts.Texts.{Texts}
use Rattle.vr_ckpt.specs.Blocks.{Content, block_header, block_name, block_of, named}
use Rattle.vr_ckpt.specs.Grid.{block_reading, named_at}
use Rattle.vr_ckpt.specs.declared.block.Block.{Block}
use Rattle.vr_ckpt.specs.declared.name.Name.{Name}
use Rattle.vr_ckpt.proofs.Contents.{named_found}
use Rattle.vr_ckpt.specs.Loads.{both_named, data_at, data_of, gathered, gathered_both, is_root, keys_size, load_by, load_of, loaded, name_at, names_at, read_root, root_at, root_in, sessions_size, text_of, with_data, with_name}
use Rattle.vr_ckpt.specs.Places.{HasRoom, grid_size, is_place, keys_places, place_of, sessions_places}
use Rattle.vr_ckpt.specs.declared.places.Places.{Places}
use Rattle.vr_ckpt.specs.Saves.{PayloadBlocks, blocks_from, changed, data_content, goes_to, names_bytes, payload_blocks_at, payload_at, payloads_from, payloads_of, keys_run, root_of, root_payload, sessions_run, table_of, written}
use Rattle.vr_ckpt.specs.declared.found.Load.TheVariants.{Loaded}
use Rattle.vr_ckpt.specs.declared.loading.Gathered.{Gathered}
use Rattle.vr_ckpt.specs.declared.plan.Run.{Run}
use Rattle.vr_ckpt.specs.declared.root.Root.{Root}
use Rattle.vr_ckpt.specs.declared.table.Payload.{Payload}
use Rattle.vr_ckpt.specs.declared.table.PayloadTable.{PayloadTable}
use Rattle.vr_ckpt.proofs.Apart.{part_cases}
use Rattle.vr_ckpt.proofs.Placing.{at_within, keys_room, place_lower, sessions_room}
use Rattle.vr_ckpt.proofs.Done.{Fit, Fits, after_name, length-names, name_there, text_again, words}
use Rattle.vr_ckpt.proofs.Planning.{keys_count, sessions_count}
use Rattle.law_6_one_log.specs.Hashed.{AllKept, IsHashedBlock, IsKept, IsTable, IsWrittenOut, ReadsHashed}

-- ---- the names of a root

abbrev pub names_of : List Payload → List Name
names_of ps = map (λ (p : Payload). p.name) ps

with_found : (low : ℕ) (n : Name) (o : Option (List Name)) (ns : List Name) → with_name low n o ≡ Some ns → (rest : List Name) × (o ≡ Some rest) × (ns ≡ n ∷ rest)
with_found low n o ns e =
    elim (is_place low n.address) as (λ b. cond b (option_map (λ (names : List Name). n ∷ names) o) None ≡ Some ns → (rest : List Name) × (o ≡ Some rest) × (ns ≡ n ∷ rest)) [
      | false ↦ λ e. absurd cc
      | true ↦ elim o as (λ o. option_map (λ (names : List Name). n ∷ names) o ≡ Some ns → (rest : List Name) × (o ≡ Some rest) × (ns ≡ n ∷ rest)) [
        | None ↦ λ e. absurd cc
        | Some rest ↦ λ e. (rest, refl, (let same : n ∷ rest ≡ ns = cc in sym same))
      ]
    ] e

-- names that are read where these were spelled are these
names_found : (l : Places) (k : ℕ) (b rest : List ℕ) (i : ℕ) (ps : List Payload) (ns : List Name) → Fits ps → drop (18 + 24 * i) b ≡ names_bytes ps ++ rest → names_at l k b i (length ps) ≡ Some ns → ns ≡ names_of ps
unfolding names_at names_bytes
names_found l k b rest i [] ns h e is = let same : [] ≡ ns = cc in sym same
names_found l k b rest i (p ∷ ps) ns h e is =
    let f = h.0 in
    let s : drop (18 + 24 * i) b ≡ bytes64 p.name.address ++ (p.name.sum.0 ++ (names_bytes ps ++ rest)) =
    e ∙ (append_assoc (bytes64 p.name.address) (p.name.sum.0 ++ names_bytes ps) rest ∙ ap (λ x. bytes64 p.name.address ++ x) (append_assoc p.name.sum.0 (names_bytes ps) rest)) in
    let first = with_found (place_of l k) (name_at b i) (names_at l (k + 1) b (i + 1) (length ps)) ns is in
    let later = names_found l (k + 1) b rest (i + 1) ps first.0 h.1 (after_name b (names_bytes ps ++ rest) i p.name f s) first.1 in
    first.2 ∙ (ap (λ n. n ∷ first.0) (name_there b (names_bytes ps ++ rest) i p.name f s) ∙ ap (λ ms. p.name ∷ ms) later)

-- a root that is read
record RootIn (b : List ℕ) (r : Root) : Type 0 where
  sessions_long : r.sessions_size ≡ sessions_size b
  keys_long : r.keys_size ≡ keys_size b
  sessions : names_at sessions_places 0 b 0 (payloads (sessions_size b)) ≡ Some r.sessions
  keys : names_at keys_places 0 b (payloads (sessions_size b)) (payloads (keys_size b)) ≡ Some r.keys

both_found : (b : List ℕ) (s k : Option (List Name)) (r : Root) → both_named b s k ≡ Some r → (s ≡ Some r.sessions) × (k ≡ Some r.keys) × (r.sessions_size ≡ sessions_size b) × (r.keys_size ≡ keys_size b)
both_found b None k r e = absurd cc
both_found b (Some s) None r e = absurd cc
both_found b (Some s) (Some k) r e =
    let same : record { sessions_size = sessions_size b; keys_size = keys_size b; sessions = s; keys = k } ≡ r = cc in
    (ap (λ (r : Root). Some r.sessions) same, ap (λ (r : Root). Some r.keys) same, sym (ap (λ (r : Root). r.sessions_size) same), sym (ap (λ (r : Root). r.keys_size) same))

root_found : (b : List ℕ) (r : Root) → root_in b ≡ Some r → RootIn b r
unfolding root_in
root_found b r e =
    let p = both_found b (names_at sessions_places 0 b 0 (payloads (sessions_size b))) (names_at keys_places 0 b (payloads (sessions_size b)) (payloads (keys_size b))) r e in
    record { sessions_long = p.2; keys_long = p.3; sessions = p.0; keys = p.1 }

read_found : (c : Content) (r : Root) → read_root c ≡ Some r → root_in c.payload ≡ Some r
unfolding read_root
read_found c r e = elim (is_root c) as (λ b. cond b (root_in c.payload) None ≡ Some r → root_in c.payload ≡ Some r) [ true ↦ λ e. e | false ↦ λ e. absurd cc ] e

-- ---- blocks that were hashed

kept_fit : (H : List ℕ → Type 0) (p : Payload) → IsKept H p → Fit p.name
kept_fit H p h = record { sum = ap (λ (n : Name). length n.sum.0) (sym h.name) ∙ length-name_of _; address = let l = h.address in omega arith }

all_fit : (H : List ℕ → Type 0) (ps : List Payload) → AllKept H ps → Fits ps
all_fit H [] h = tt
all_fit H (p ∷ ps) h = (kept_fit H p h.0, all_fit H ps h.1)

kept_at : (H : List ℕ → Type 0) (ps : List Payload) (j : ℕ) (p : Payload) → AllKept H ps → slice_get ps j ≡ Some p → IsKept H p
kept_at H [] j p h e = absurd cc
kept_at H (q ∷ ps) zero p h e = let same : q ≡ p = cc in subst (IsKept H) same h.0
kept_at H (q ∷ ps) (suc j) p h e = kept_at H ps j p h.1 e

module _ (H : List ℕ → Type 0) where
  goes_kept : (r : Run) (x : ℕ) (bytes : List ℕ) → x < grid_size → IsHashedBlock H (data_content r x bytes) → IsKept H (goes_to r x bytes).payload
  unfolding goes_to data_content
  goes_kept r x bytes l h = record { content = data_content r x bytes; hashed = h; payload = refl; name = refl; address = l }

  goes_there : (r : Run) (x : ℕ) (bytes : List ℕ) → Contains (goes_to r x bytes).blocks (block_of (data_content r x bytes))
  unfolding goes_to
  goes_there r x bytes = (0, omega arith, refl)

  kept_new : (r : Run) (text : List ℕ) (old : List Payload) (i n m : ℕ) → HasRoom r.places m → i + n ≤ m → AllKept H old → ((c : Content) → Contains (blocks_from r text old i n) (block_of c) → IsHashedBlock H c) → AllKept H (payloads_from r text old i n)
  unfolding payloads_from blocks_from
  kept_new r text old i zero m room l h hashed = tt
  kept_new r text old i (suc n) m room l h hashed =
      let first : List Block = (payload_blocks_at r text old i).blocks in
      let later : List Block = blocks_from r text old (i + 1) n in (
        elim (part_cases r i (payload_at text i) (slice_get old i)) [
          | inl s ↦ subst (λ (x : PayloadBlocks). IsKept H x.payload) (sym s.is) (kept_at H old i s.payload h s.there)
          | inr g ↦
              let c = data_content r g.address (payload_at text i) in
              let there : Contains first (block_of c) = subst (λ (x : PayloadBlocks). Contains x.blocks (block_of c)) (sym g.is) (goes_there r g.address (payload_at text i)) in
              subst (λ (x : PayloadBlocks). IsKept H x.payload) (sym g.is) (goes_kept r g.address (payload_at text i) (at_within (place_of r.places i) g.address (place_lower r.places m i room (omega arith)) g.at) (hashed c (Contains-append_left first later (block_of c) there)))
        ],
        kept_new r text old (i + 1) n m room (omega arith) h (λ c k. hashed c (Contains-append_right first later (block_of c) k)),
      )

  -- its table is one of blocks that were hashed, where the table before was
  pub table_kept : (cluster : ℕ) (texts : Texts) (op : ℕ) (old : PayloadTable) → FitsPayloads texts → IsTable H old → IsWrittenOut H cluster texts op old → IsTable H (table_of cluster texts op old)
  unfolding table_of written
  table_kept cluster texts op old fits h hashed =
      let few = fits.sessions in
      let many = fits.keys in
      let sessions : List Block = changed (sessions_run cluster op) texts.sessions old.sessions in
      let keys : List Block = changed (keys_run cluster op) texts.keys old.keys in
      let root : List Block = block_of (root_of cluster texts op (table_of cluster texts op old)) ∷ [] in
      record {
        sessions = kept_new (sessions_run cluster op) texts.sessions old.sessions 0 (payloads (length texts.sessions)) session_payloads (sessions_room session_payloads (omega arith)) (omega (arith, few)) h.sessions (λ c i. hashed c (Contains-append_left sessions (keys ++ root) (block_of c) i));
        keys = kept_new (keys_run cluster op) texts.keys old.keys 0 (payloads (length texts.keys)) key_payloads (keys_room key_payloads (omega arith)) (omega (arith, many)) h.keys
            (λ c i. hashed c (Contains-append_right sessions (keys ++ root) (block_of c) (Contains-append_left keys root (block_of c) i)));
      }

  root_hashed : (cluster : ℕ) (texts : Texts) (op : ℕ) (old : PayloadTable) → IsWrittenOut H cluster texts op old → IsHashedBlock H (root_of cluster texts op (table_of cluster texts op old))
  unfolding written
  root_hashed cluster texts op old hashed =
      let c = root_of cluster texts op (table_of cluster texts op old) in
      let sessions : List Block = changed (sessions_run cluster op) texts.sessions old.sessions in
      let keys : List Block = changed (keys_run cluster op) texts.keys old.keys in
      hashed c (Contains-append_right sessions (keys ++ block_of c ∷ []) (block_of c) (Contains-append_right keys (block_of c ∷ []) (block_of c) (0, omega arith, refl)))

-- ---- what reads under a name

front_name : (c : Content) → take 16 (named_bytes (block_header c)) ≡ name_of c.payload
unfolding named_bytes block_header
front_name c = take_at (name_of c.payload) _ 16 (length-name_of c.payload)

nothing_missing : (a b : List Name) → a ++ b ≡ [] → (a ≡ []) × (b ≡ [])
nothing_missing [] b e = (refl, e)
nothing_missing (x ∷ a) b e = absurd cc

load_found : (s k : Gathered) (ns : List Name) (found : Texts) (table : PayloadTable) → load_of s k ns ≡ Loaded found table
    → (ns ≡ []) × (found ≡ record { sessions = text_of s.payloads; keys = text_of k.payloads }) × (table ≡ record { sessions = s.payloads; keys = k.payloads })
load_found s k [] found table e =
    let same : record { sessions = text_of s.payloads; keys = text_of k.payloads } ≡ found = cc in
    let one : record { sessions = s.payloads; keys = k.payloads } ≡ table = cc in
    (refl, sym same, sym one)
load_found s k (n ∷ ns) found table e = absurd cc

module _ (f : Face) where
  named_here : (name : Name) (c : Content) → named_at f name ≡ Some c → (block_name c ≡ name) × (name.address < grid_size)
  unfolding named_at
  named_here name c e = by_test (ltb name.address grid_size) refl e
    where
      by_reading : (o : Option (List ℕ)) → name.address < grid_size → option_and_then (named name) o ≡ Some c → (block_name c ≡ name) × (name.address < grid_size)
      by_reading None l e = absurd cc
      by_reading (Some b) l e = ((named_found name b c e).1, l)

      by_test : (t : Bool) → ltb name.address grid_size ≡ t → cond t (option_and_then (named name) (block_reading f name.address)) None ≡ Some c → (block_name c ≡ name) × (name.address < grid_size)
      by_test true t e = by_reading (block_reading f name.address) (ltb-true name.address grid_size t) e
      by_test false t e = absurd cc

  data_found : (name : Name) (size : ℕ) (bytes : List ℕ) → data_at f name size ≡ Some bytes → (c : Content) × (named_at f name ≡ Some c) × (c.payload ≡ bytes)
  unfolding data_at
  data_found name size bytes e =
      elim (named_at f name) as (λ o. named_at f name ≡ o → option_and_then (data_of size) o ≡ Some bytes → (c : Content) × (named_at f name ≡ Some c) × (c.payload ≡ bytes)) [
        | None ↦ λ n e. absurd cc
        | Some c ↦ λ n e. elim (eqb c.kind 2 && eqb (length c.payload) size) as (λ b. cond b (Some c.payload) None ≡ Some bytes → (c : Content) × (named_at f name ≡ Some c) × (c.payload ≡ bytes)) [
          | true ↦ λ e. (c, n, (let same : c.payload ≡ bytes = cc in same))
          | false ↦ λ e. absurd cc
        ] e
      ] refl e

abbrev texts_in : PayloadTable → Texts
texts_in t = record { sessions = text_of t.sessions; keys = text_of t.keys }

same_texts : (cluster op : ℕ) (texts : Texts) (old : PayloadTable) → texts_in (table_of cluster texts op old) ≡ texts
unfolding table_of
same_texts cluster op texts old =
    ap (λ (x : List ℕ). let y : Texts = record { sessions = x; keys = text_of (payloads_of (keys_run cluster op) texts.keys old.keys) } in y) (text_again (sessions_run cluster op) texts.sessions old.sessions)
    ∙ ap (λ (x : List ℕ). let y : Texts = record { sessions = texts.sessions; keys = x } in y) (text_again (keys_run cluster op) texts.keys old.keys)

payload_of : (cluster op : ℕ) (texts : Texts) (t : PayloadTable) → (root_of cluster texts op t).payload ≡ root_payload op (length texts.sessions) (length texts.keys) t
unfolding root_of
payload_of cluster op texts t = refl

module _ (H : List ℕ → Type 0) (never : NoCollision H) where
  -- a name is that of one payload
  pub same_payload : (c d : Content) → IsHashedBlock H c → IsHashedBlock H d → block_name c ≡ block_name d → c.payload ≡ d.payload
  same_payload c d h k e =
      let names : name_of (named_bytes (block_header c)) ≡ name_of (named_bytes (block_header d)) = ap (λ (n : Name). n.sum.0) e in
      let bytes = never (named_bytes (block_header c)) (named_bytes (block_header d)) h.header k.header names in
      never c.payload d.payload h.payload k.payload (sym (front_name c) ∙ (ap (take 16) bytes ∙ front_name d))

  module _ (f : Face) (reads : ReadsHashed H f) where
    data_kept : (name : Name) (size : ℕ) (bytes : List ℕ) → data_at f name size ≡ Some bytes → IsKept H (record { name = name; bytes = bytes })
    data_kept name size bytes e =
        let d = data_found f name size bytes e in
        let n = named_here f name d.0 d.1 in
        record {
          content = d.0;
          hashed = reads name d.0 d.1;
          payload = d.2;
          name = n.0;
          address = n.1;
        }

    -- payloads that are all there read as they were kept
    payloads_same : (size : ℕ) (ps : List Payload) → AllKept H ps → (gathered f size (names_of ps)).missing ≡ [] → (gathered f size (names_of ps)).payloads ≡ ps
    unfolding gathered
    payloads_same size [] h e = refl
    payloads_same size (p ∷ ps) h e =
        let g : Gathered = gathered f (size - 3968) (names_of ps) in
        elim (data_at f p.name (min size 3968)) as (λ o. data_at f p.name (min size 3968) ≡ o → (with_data p.name o g).missing ≡ [] → (with_data p.name o g).payloads ≡ p ∷ ps) [
          | None ↦ λ d e. absurd cc
          | Some bytes ↦ λ d e.
              let k = data_kept p.name (min size 3968) bytes d in
              let one : bytes ≡ p.bytes = sym k.payload ∙ (same_payload k.content h.0.content k.hashed h.0.hashed (k.name ∙ sym h.0.name) ∙ h.0.payload) in
              ap (λ b. (let x : Payload = record { name = p.name; bytes = b } in x) ∷ g.payloads) one ∙ ap (λ (xs : List Payload). p ∷ xs) (payloads_same (size - 3968) ps h.1 e)
        ] refl e

    -- ---- a checkpoint

    module _ (cluster op : ℕ) (texts : Texts) (t : PayloadTable) (small : op < 2 ^ 64) (fits : FitsPayloads texts) (kept : IsTable H t) (few : length t.sessions ≡ payloads (length texts.sessions)) (many : length t.keys ≡ payloads (length texts.keys)) where
      abbrev IsOf : Texts → PayloadTable → Type 0
      IsOf found table = (found ≡ texts_in t) × (table ≡ t)

      named_right : (r : Root) → RootIn (root_payload op (length texts.sessions) (length texts.keys) t) r → (r.sessions ≡ names_of t.sessions) × (r.keys ≡ names_of t.keys)
      named_right r i =
          let ls = length texts.sessions in
          let lk = length texts.keys in
          let p = root_payload op ls lk t in
          let a = fits.sessions in
          let b = fits.keys in
          let w = words op ls lk t small (omega arith) (omega arith) (omega arith) in
          let fs = all_fit H t.sessions kept.sessions in
          let fk = all_fit H t.keys kept.keys in
          let size = length-names t.sessions fs in
          let ns : payloads (sessions_size p) ≡ length t.sessions = ap payloads w.sessions_there ∙ sym few in
          let nk : payloads (keys_size p) ≡ length t.keys = ap payloads w.keys_there ∙ sym many in
          let at : drop (18 + 24 * length t.sessions) p ≡ names_bytes t.keys ++ [] =
          sym (drop-drop (24 * length t.sessions) 18 p) ∙ (ap (drop (24 * length t.sessions)) w.names ∙ (drop_at (names_bytes t.sessions) (names_bytes t.keys) (24 * length t.sessions) size ∙ sym (append-nil (names_bytes t.keys)))) in
          let first : names_at sessions_places 0 p 0 (length t.sessions) ≡ Some r.sessions = ap (names_at sessions_places 0 p 0) (sym ns) ∙ i.sessions in
          let second : names_at keys_places 0 p (length t.sessions) (length t.keys) ≡ Some r.keys = ap (λ n. names_at keys_places 0 p n (length t.keys)) (sym ns) ∙ (ap (names_at keys_places 0 p (payloads (sessions_size p))) (sym nk) ∙ i.keys) in
          (names_found sessions_places 0 p (names_bytes t.keys) 0 t.sessions r.sessions fs w.names first, names_found keys_places 0 p [] (length t.sessions) t.keys r.keys fk at second)

      load_right : (r : Root) → RootIn (root_payload op (length texts.sessions) (length texts.keys) t) r → (found : Texts) (table : PayloadTable) → gathered_both (gathered f r.sessions_size r.sessions) (gathered f r.keys_size r.keys) ≡ Loaded found table
          → IsOf found table
      load_right r i found table e =
          let n = named_right r i in
          let s : Gathered = gathered f r.sessions_size r.sessions in
          let k : Gathered = gathered f r.keys_size r.keys in
          let l = load_found s k (s.missing ++ k.missing) found table e in
          let none = nothing_missing s.missing k.missing l.0 in
          let one : s.payloads ≡ t.sessions =
          ap (λ ns. (gathered f r.sessions_size ns).payloads) n.0 ∙ payloads_same r.sessions_size t.sessions kept.sessions (ap (λ ns. (gathered f r.sessions_size ns).missing) (sym n.0) ∙ none.0) in
          let two : k.payloads ≡ t.keys =
          ap (λ ns. (gathered f r.keys_size ns).payloads) n.1 ∙ payloads_same r.keys_size t.keys kept.keys (ap (λ ns. (gathered f r.keys_size ns).missing) (sym n.1) ∙ none.1) in
          let both : record { sessions = s.payloads; keys = k.payloads } ≡ t =
          ap (λ (xs : List Payload). let y : PayloadTable = record { sessions = xs; keys = k.payloads } in y) one ∙ ap (λ (xs : List Payload). let y : PayloadTable = record { sessions = t.sessions; keys = xs } in y) two in
          (l.1 ∙ ap texts_in both, l.2 ∙ both)

      module _ (root : Content) (is : root.payload ≡ root_payload op (length texts.sessions) (length texts.keys) t) (hashed : IsHashedBlock H root) (found : Texts) (table : PayloadTable) where
        by_root : (c : Content) → named_at f (block_name root) ≡ Some c → (o : Option Root) → read_root c ≡ o → load_by f (block_name root) o ≡ Loaded found table → IsOf found table
        by_root c n None r e = absurd cc
        by_root c n (Some r) i e =
            let same : c.payload ≡ root_payload op (length texts.sessions) (length texts.keys) t = same_payload c root (reads (block_name root) c n) hashed (named_here f (block_name root) c n).0 ∙ is in
            load_right r (subst (λ b. RootIn b r) same (root_found c.payload r (read_found c r i))) found table e

        by_content : (o : Option Content) → named_at f (block_name root) ≡ o → load_by f (block_name root) (option_and_then read_root o) ≡ Loaded found table → IsOf found table
        by_content None n e = absurd cc
        by_content (Some c) n e = by_root c n (read_root c) refl e

        loads_texts : loaded f (block_name root) ≡ Loaded found table → IsOf found table
        unfolding loaded root_at
        loads_texts e = by_content (named_at f (block_name root)) refl e

    -- a checkpoint that is loaded has the texts that it was made of, and the table that it left
    pub loads_as : (cluster op : ℕ) (texts : Texts) (old : PayloadTable) → op < 2 ^ 64 → FitsPayloads texts → IsTable H old → IsWrittenOut H cluster texts op old → (found : Texts) (table : PayloadTable)
        → loaded f (block_name (root_of cluster texts op (table_of cluster texts op old))) ≡ Loaded found table → (found ≡ texts) × (table ≡ table_of cluster texts op old) × IsTable H table
    loads_as cluster op texts old small fits kept hashed found table e =
        let t = table_of cluster texts op old in
        let all = table_kept H cluster texts op old fits kept hashed in
        let right = loads_texts cluster op texts t small fits all (sessions_count cluster texts op old t refl) (keys_count cluster texts op old t refl) (root_of cluster texts op t) (payload_of cluster op texts t) (root_hashed H cluster texts op old hashed) found table e in
        (right.0 ∙ same_texts cluster op texts old, right.1, subst (IsTable H) (sym right.1) all)
