-- The checkpoint before loads as it did, at the end and in every cut.
use Rattle.std.proofs.Common.{ℕ, zero, suc, ◌+◌, ◌-◌, ◌≤◌, ◌<◌, ◌≡◌, ◌≢◌, ◌⊎◌, inl, inr, arith, refl, sym, ap, ◌∙◌, Bool, true, false, cond, eqb, ◌&&◌, List, [], ◌∷◌, ◌++◌, length, take, Option, Some, None, subst}
use Rattle.std.specs.Prelude.{min, nat_lt, slice_get, IfSome}
use Rattle.std.specs.List.{AllByRecursion}
use Rattle.std.specs.Option.{option_and_then, option_map}
use Rattle.std.proofs.lemmas.Bool.{and_parts, eqb-true}
use Rattle.vr_state.specs.StateTexts.{FitsPayloads, payloads}
use Rattle.vr_state.specs.declared.texts.Texts.{Texts}
use Rattle.vr_disk.specs.DiskState.{Call, Cell, Disk, Face, Sync, after_all, cut}
use Rattle.vr_disk.specs.Regions.{block_place}
use Rattle.vr_disk.specs.Stops.{Spares}
use Rattle.vr_disk.proofs.Frames.{frame_all, frame_cut}
use Rattle.vr_disk.proofs.Telling.{if_some}
use Rattle.vr_disk.proofs.Together.{spares_append, together_same, within_spares}
use Rattle.vr_ckpt.specs.Blocks.{Content, block_name, named}
use Rattle.vr_ckpt.specs.Grid.{block_calls, block_reading, named_at}
use Rattle.vr_ckpt.specs.declared.block.Block.{Block}
use Rattle.vr_ckpt.specs.declared.name.Name.{Name}
use Rattle.vr_ckpt.proofs.Contents.{named_found}
use Rattle.vr_ckpt.proofs.Puts.{block_within}
use Rattle.vr_ckpt.specs.Laws.{Holds, HoldsFrom, SaveKeeps, KeepLaw, TablesHeld}
use Rattle.vr_ckpt.specs.Loads.{both_named, data_at, data_of, gathered, has_numbers, is_root, load_by, load_of, loaded, names_at, name_at, read_root, root_at, root_in, text_of, with_data, with_name, sessions_size, keys_size}
use Rattle.vr_ckpt.specs.Places.{grid_size, is_place, keys_places, place_of, root_place, sessions_places}
use Rattle.vr_ckpt.specs.Saves.{blocks_calls, save_calls, written}
use Rattle.vr_ckpt.specs.declared.found.Load.TheVariants.{Loaded}
use Rattle.vr_ckpt.specs.declared.loading.Gathered.{Gathered}
use Rattle.vr_ckpt.specs.declared.places.Places.{Places}
use Rattle.vr_ckpt.specs.declared.root.Root.{Root}
use Rattle.vr_ckpt.specs.declared.table.Payload.{Payload}
use Rattle.vr_ckpt.specs.declared.table.PayloadTable.{PayloadTable}
use Rattle.vr_ckpt.proofs.Apart.{Avoids, key_avoided, root_avoided, session_avoided}
use Rattle.vr_ckpt.proofs.Placing.{AtPlace, at_place, blocks_apart, root_at_place}
use Rattle.vr_ckpt.proofs.Roots.{numbers_of}

-- ---- a block that no call writes

abbrev pub SameAt : Face → Face → ℕ → Type 0
SameAt f g a = block_reading g a ≡ block_reading f a

outside : (a x i : ℕ) → x ≢ a → block_place a ≤ i → i < block_place a + 8 → (i < block_place x) ⊎ (block_place x + 8 ≤ i)
outside a x i d l m = elim (blocks_apart a x (λ e. d (sym e))) [ inl b ↦ inl (omega arith) | inr b ↦ inr (omega arith) ]

blocks_spare : (bs : List Block) (a i : ℕ) → Avoids a bs → block_place a ≤ i → i < block_place a + 8 → AllByRecursion (Spares i) (blocks_calls bs)
unfolding blocks_calls
blocks_spare [] a i h l m = tt
blocks_spare (b ∷ bs) a i h l m =
    let x = b.name.address in
    spares_append i (block_calls x b.bytes) (blocks_calls bs)
    (within_spares (block_place x) (block_place x + 8) (block_calls x b.bytes) i (block_within x b.bytes) (outside a x i h.0 l m))
    (blocks_spare bs a i h.1 l m)

-- after blocks are written
pub blocks_same : (bs : List Block) (f : Face) (a : ℕ) → Avoids a bs → SameAt f (after_all f (blocks_calls bs)) a
unfolding block_reading
blocks_same bs f a h = together_same 8 (block_place a) f (after_all f (blocks_calls bs)) (λ k l m. ap (λ (c : Cell). c.reads) (frame_all (blocks_calls bs) f k (blocks_spare bs a k h l m)))

save_spares : (cluster : ℕ) (texts : Texts) (op : ℕ) (old : PayloadTable) (a i : ℕ) → Avoids a (written cluster texts op old) → block_place a ≤ i → i < block_place a + 8 → AllByRecursion (Spares i) (save_calls cluster texts op old)
unfolding save_calls
save_spares cluster texts op old a i h l m = spares_append i (blocks_calls (written cluster texts op old)) (Sync ∷ []) (blocks_spare (written cluster texts op old) a i h l m) (tt, tt)

pub same_after : (cluster : ℕ) (texts : Texts) (op : ℕ) (old : PayloadTable) (f : Face) (a : ℕ) → Avoids a (written cluster texts op old) → SameAt f (after_all f (save_calls cluster texts op old)) a
unfolding block_reading
same_after cluster texts op old f a h =
    together_same 8 (block_place a) f (after_all f (save_calls cluster texts op old)) (λ k l m. ap (λ (c : Cell). c.reads) (frame_all (save_calls cluster texts op old) f k (save_spares cluster texts op old a k h l m)))

pub same_cut : (cluster : ℕ) (texts : Texts) (op : ℕ) (old : PayloadTable) (f : Face) (a j code : ℕ) → f.waiting ≡ [] → Avoids a (written cluster texts op old) → SameAt f (cut j code f (save_calls cluster texts op old)) a
unfolding block_reading
same_cut cluster texts op old f a j code w h =
    together_same 8 (block_place a) f (cut j code f (save_calls cluster texts op old))
    (λ k l m. ap (λ (c : Cell). c.reads) (frame_cut (save_calls cluster texts op old) f k j code (save_spares cluster texts op old a k h l m) (rw w refl)))

front_spares : (cs : List Call) (n i : ℕ) → AllByRecursion (Spares i) cs → AllByRecursion (Spares i) (take n cs)
front_spares cs zero i h = tt
front_spares [] (suc n) i h = tt
front_spares (c ∷ cs) (suc n) i h = (h.0, front_spares cs n i h.1)

pub same_front : (cluster : ℕ) (texts : Texts) (op : ℕ) (old : PayloadTable) (f : Face) (a j : ℕ) → Avoids a (written cluster texts op old) → SameAt f (after_all f (take j (save_calls cluster texts op old))) a
unfolding block_reading
same_front cluster texts op old f a j h =
    let cs = save_calls cluster texts op old in
    together_same 8 (block_place a) f (after_all f (take j cs)) (λ k l m. ap (λ (c : Cell). c.reads) (frame_all (take j cs) f k (front_spares cs j k (save_spares cluster texts op old a k h l m))))

-- ---- what reads the same

named_same : (f g : Face) (name : Name) → SameAt f g name.address → named_at g name ≡ named_at f name
unfolding named_at
named_same f g name s = rw s refl

pub data_same : (f g : Face) (name : Name) (size : ℕ) → SameAt f g name.address → data_at g name size ≡ data_at f name size
unfolding data_at
data_same f g name size s = ap (option_and_then (data_of size)) (named_same f g name s)

root_same : (f g : Face) (name : Name) → SameAt f g name.address → root_at g name ≡ root_at f name
unfolding root_at
root_same f g name s = ap (option_and_then read_root) (named_same f g name s)

abbrev pub AllSame : Face → Face → List Payload → Type 0
AllSame f g ps = AllByRecursion (λ (p : Payload). SameAt f g p.name.address) ps

abbrev pub All : List Payload → Gathered
All ps = record { payloads = ps; missing = [] }

-- all payloads are there: the first and the others
record First (f : Face) (size : ℕ) (n : Name) (ns : List Name) (ps : List Payload) : Type 0 where
  bytes : List ℕ
  others : List Payload
  reads : data_at f n (min size 3968) ≡ Some bytes
  rest : gathered f (size - 3968) ns ≡ All others
  whole : ps ≡ record { name = n; bytes = bytes } ∷ others

first_by : (f : Face) (size : ℕ) (n : Name) (ns : List Name) (ps : List Payload) (o : Option (List ℕ)) (g : Gathered) → data_at f n (min size 3968) ≡ o → gathered f (size - 3968) ns ≡ g → with_data n o g ≡ All ps → First f size n ns ps
first_by f size n ns ps None g d h e = let none : n ∷ g.missing ≡ [] = ap (λ (x : Gathered). x.missing) e in absurd cc
first_by f size n ns ps (Some bytes) g d h e =
    let none : g.missing ≡ [] = ap (λ (x : Gathered). x.missing) e in
    record {
      bytes = bytes;
      others = g.payloads;
      reads = d;
      rest = h ∙ ap (λ (x : List Name). let y : Gathered = record { payloads = g.payloads; missing = x } in y) none;
      whole = sym (ap (λ (x : Gathered). x.payloads) e);
    }

first_of : (f : Face) (size : ℕ) (n : Name) (ns : List Name) (ps : List Payload) → gathered f size (n ∷ ns) ≡ All ps → First f size n ns ps
unfolding gathered
first_of f size n ns ps e = first_by f size n ns ps (data_at f n (min size 3968)) (gathered f (size - 3968) ns) refl refl e

pub gathered_of : (f : Face) (size : ℕ) (n : Name) (ns : List Name) (bytes : List ℕ) (others : List Payload) → data_at f n (min size 3968) ≡ Some bytes → gathered f (size - 3968) ns ≡ All others
    → gathered f size (n ∷ ns) ≡ All (record { name = n; bytes = bytes } ∷ others)
unfolding gathered
gathered_of f size n ns bytes others d e = rw (d, e) refl

gathered_same : (f g : Face) (ns : List Name) (size : ℕ) (ps : List Payload) → gathered f size ns ≡ All ps → AllSame f g ps → gathered g size ns ≡ All ps
unfolding gathered
gathered_same f g [] size ps e s = e
gathered_same f g (n ∷ ns) size ps e s =
    let x = first_of f size n ns ps e in
    let s' : AllSame f g (record { name = n; bytes = x.bytes } ∷ x.others) = subst (λ (ps : List Payload). AllSame f g ps) x.whole s in
    gathered_of g size n ns x.bytes x.others (data_same f g n (min size 3968) s'.0 ∙ x.reads) (gathered_same f g ns (size - 3968) x.others x.rest s'.1) ∙ ap All (sym x.whole)

-- ---- a checkpoint that loads, part by part

record Loads (f : Face) (root : Name) (texts : Texts) (t : PayloadTable) : Type 0 where
  found : Root
  at : root_at f root ≡ Some found
  sessions : gathered f found.sessions_size found.sessions ≡ All t.sessions
  keys : gathered f found.keys_size found.keys ≡ All t.keys
  made : texts ≡ record { sessions = text_of t.sessions; keys = text_of t.keys }

none_left : {X : Type 0} → (xs ys : List X) → xs ++ ys ≡ [] → (xs ≡ []) × (ys ≡ [])
none_left [] ys e = (refl, e)
none_left (x ∷ xs) ys e = absurd cc

record Both (s k : Gathered) (texts : Texts) (t : PayloadTable) : Type 0 where
  none : s.missing ++ k.missing ≡ []
  made : texts ≡ record { sessions = text_of s.payloads; keys = text_of k.payloads }
  table : t ≡ record { sessions = s.payloads; keys = k.payloads }

both_by : (s k : Gathered) (ns : List Name) (texts : Texts) (t : PayloadTable) → s.missing ++ k.missing ≡ ns → load_of s k ns ≡ Loaded texts t → Both s k texts t
both_by s k [] texts t n e =
    let a : record { sessions = text_of s.payloads; keys = text_of k.payloads } ≡ texts = cc in
    let b : record { sessions = s.payloads; keys = k.payloads } ≡ t = cc in
    record { none = n; made = sym a; table = sym b }
both_by s k (x ∷ ns) texts t n e = absurd cc

loads_by : (f : Face) (root : Name) (texts : Texts) (t : PayloadTable) (o : Option Root) → root_at f root ≡ o → load_by f root o ≡ Loaded texts t → Loads f root texts t
loads_by f root texts t None r e = absurd cc
loads_by f root texts t (Some x) r e =
    let s = gathered f x.sessions_size x.sessions in
    let k = gathered f x.keys_size x.keys in
    let b = both_by s k (s.missing ++ k.missing) texts t refl e in
    let n = none_left s.missing k.missing b.none in
    record {
      found = x;
      at = r;
      sessions = ap (λ (m : List Name). let y : Gathered = record { payloads = s.payloads; missing = m } in y) n.0 ∙ ap (λ (t : PayloadTable). All t.sessions) (sym b.table);
      keys = ap (λ (m : List Name). let y : Gathered = record { payloads = k.payloads; missing = m } in y) n.1 ∙ ap (λ (t : PayloadTable). All t.keys) (sym b.table);
      made = b.made ∙ ap (λ (t : PayloadTable). let y : Texts = record { sessions = text_of t.sessions; keys = text_of t.keys } in y) (sym b.table);
    }

loads_of : (f : Face) (root : Name) (texts : Texts) (t : PayloadTable) → loaded f root ≡ Loaded texts t → Loads f root texts t
unfolding loaded
loads_of f root texts t e = loads_by f root texts t (root_at f root) refl e

pub loaded_of : (f : Face) (root : Name) (r : Root) (t : PayloadTable) → root_at f root ≡ Some r → gathered f r.sessions_size r.sessions ≡ All t.sessions → gathered f r.keys_size r.keys ≡ All t.keys
    → loaded f root ≡ Loaded (record { sessions = text_of t.sessions; keys = text_of t.keys }) t
unfolding loaded
loaded_of f root r t e s k = rw (e, s, k) refl

loaded_same : (f g : Face) (root : Name) (texts : Texts) (t : PayloadTable) → loaded f root ≡ Loaded texts t → SameAt f g root.address → AllSame f g t.sessions → AllSame f g t.keys → loaded g root ≡ Loaded texts t
loaded_same f g root texts t e r s k =
    let l = loads_of f root texts t e in
    let x = l.found in
    loaded_of g root x t (root_same f g root r ∙ l.at) (gathered_same f g x.sessions x.sessions_size t.sessions l.sessions s) (gathered_same f g x.keys x.keys_size t.keys l.keys k)
    ∙ ap (λ (y : Texts). Loaded y t) (sym l.made)

-- ---- the payloads of a table

pub all_same : (f g : Face) (old ps : List Payload) (l : Places) (i : ℕ) → ((k : ℕ) → slice_get old (i + k) ≡ slice_get ps k) → HoldsFrom f l i ps
    → ((j : ℕ) (p : Payload) → slice_get old j ≡ Some p → j < i + length ps → AtPlace (place_of l j) p.name.address → SameAt f g p.name.address) → AllSame f g ps
all_same f g old [] l i at h same = tt
all_same f g old (p ∷ ps) l i at h same =
    let z : i + 0 ≡ i = omega arith in
    let here : slice_get old i ≡ Some p = ap (slice_get old) (sym z) ∙ at 0 in (
      same i p here (omega arith) (at_place (place_of l i) p.name.address h.0),
      all_same f g old ps l (i + 1) (λ k. let m : i + 1 + k ≡ i + suc k = omega arith in ap (slice_get old) m ∙ at (suc k)) h.2
          (λ j q s less a. same j q s (omega arith) a),
    )

-- ---- the table is held

with_parts : (low : ℕ) (n : Name) (rest : Option (List Name)) (all : List Name) → with_name low n rest ≡ Some all → (is_place low n.address ≡ true) × ((ns : List Name) × (rest ≡ Some ns) × (all ≡ n ∷ ns))
with_parts low n rest all e =
    elim (is_place low n.address) as (λ t. is_place low n.address ≡ t → cond t (option_map (λ (ns : List Name). n ∷ ns) rest) None ≡ Some all → (is_place low n.address ≡ true) × ((ns : List Name) × (rest ≡ Some ns) × (all ≡ n ∷ ns))) [
      | true ↦ λ t e. (t, tail_of n rest all e)
      | false ↦ λ t e. absurd cc
    ] refl e
  where
    tail_of : (n : Name) (rest : Option (List Name)) (all : List Name) → option_map (λ (ns : List Name). n ∷ ns) rest ≡ Some all → (ns : List Name) × (rest ≡ Some ns) × (all ≡ n ∷ ns)
    tail_of n None all e = absurd cc
    tail_of n (Some ns) all e = let same : n ∷ ns ≡ all = cc in (ns, refl, sym same)

length_is : (f : Face) (n : Name) (size : ℕ) (bytes : List ℕ) → data_at f n size ≡ Some bytes → length bytes ≡ size
unfolding data_at
length_is f n size bytes e = by_content (named_at f n) e
  where
    by_data : (c : Content) → data_of size c ≡ Some bytes → length bytes ≡ size
    by_data c e =
        elim ((eqb c.kind 2) && (eqb (length c.payload) size)) as (λ t. ((eqb c.kind 2) && (eqb (length c.payload) size)) ≡ t → cond t (Some c.payload) None ≡ Some bytes → length bytes ≡ size) [
          | true ↦ λ t e.
              let p = and_parts (eqb c.kind 2) (eqb (length c.payload) size) t in
              let same : c.payload ≡ bytes = cc in
              ap length (sym same) ∙ eqb-true (length c.payload) size p.1
          | false ↦ λ t e. absurd cc
        ] refl e

    by_content : (o : Option Content) → option_and_then (data_of size) o ≡ Some bytes → length bytes ≡ size
    by_content None e = absurd cc
    by_content (Some c) e = by_data c e

record Named (f : Face) (l : Places) (k n : ℕ) (ps : List Payload) : Type 0 where
  holds : HoldsFrom f l k ps
  count : length ps ≡ n

holds_by : (f : Face) (l : Places) (k : ℕ) (b : List ℕ) (i n size : ℕ) (ns : List Name) (ps : List Payload) → names_at l k b i n ≡ Some ns → gathered f size ns ≡ All ps → Named f l k n ps
unfolding names_at gathered
holds_by f l k b i zero size ns ps e h =
    let same : [] ≡ ns = cc in
    let h' : gathered f size [] ≡ All ps = subst (λ (ns : List Name). gathered f size ns ≡ All ps) (sym same) h in
    let none : [] ≡ ps = ap (λ (g : Gathered). g.payloads) h' in
    subst (λ (ps : List Payload). Named f l k 0 ps) none (record { holds = tt; count = refl })
holds_by f l k b i (suc n) size ns ps e h =
    let w = with_parts (place_of l k) (name_at b i) (names_at l (k + 1) b (i + 1) n) ns e in
    let m = name_at b i in
    let rest = w.1.0 in
    let h' : gathered f size (m ∷ rest) ≡ All ps = subst (λ (ns : List Name). gathered f size ns ≡ All ps) w.1.2 h in
    let x = first_of f size m rest ps h' in
    let later = holds_by f l (k + 1) b (i + 1) n (size - 3968) rest x.others w.1.1 x.rest in
    let size_is = length_is f m (min size 3968) x.bytes x.reads in
    subst (λ (ps : List Payload). Named f l k (suc n) ps) (sym x.whole) (record { holds = (w.0, rw size_is x.reads, later.holds); count = ap suc later.count })

-- a root's own words
record Said (r : Root) : Type 0 where
  bytes : List ℕ
  op : ℕ
  numbers : has_numbers op bytes ≡ true
  sessions : names_at sessions_places 0 bytes 0 (payloads (sessions_size bytes)) ≡ Some r.sessions
  keys : names_at keys_places 0 bytes (payloads (sessions_size bytes)) (payloads (keys_size bytes)) ≡ Some r.keys

both_said : (b : List ℕ) (op : ℕ) (r : Root) (s k : Option (List Name)) → has_numbers op b ≡ true → names_at sessions_places 0 b 0 (payloads (sessions_size b)) ≡ s → names_at keys_places 0 b (payloads (sessions_size b)) (payloads (keys_size b)) ≡ k
    → both_named b s k ≡ Some r → Said r
both_said b op r None k n p q e = absurd cc
both_said b op r (Some s) None n p q e = absurd cc
both_said b op r (Some s) (Some k) n p q e =
    let x : s ≡ r.sessions = names_of s k r (sessions_size b) (keys_size b) e in
    let y : k ≡ r.keys = keys_of s k r (sessions_size b) (keys_size b) e in
    record { bytes = b; op = op; numbers = n; sessions = p ∙ ap Some x; keys = q ∙ ap Some y }
  where
    names_of : (s k : List Name) (r : Root) (m n : ℕ) → Some (let x : Root = record { sessions_size = m; keys_size = n; sessions = s; keys = k } in x) ≡ Some r → s ≡ r.sessions
    names_of s k r m n e = let same : (let x : Root = record { sessions_size = m; keys_size = n; sessions = s; keys = k } in x) ≡ r = cc in ap (λ (r : Root). r.sessions) same

    keys_of : (s k : List Name) (r : Root) (m n : ℕ) → Some (let x : Root = record { sessions_size = m; keys_size = n; sessions = s; keys = k } in x) ≡ Some r → k ≡ r.keys
    keys_of s k r m n e = let same : (let x : Root = record { sessions_size = m; keys_size = n; sessions = s; keys = k } in x) ≡ r = cc in ap (λ (r : Root). r.keys) same

record Read (name : Name) (r : Root) : Type 0 where
  said : Said r
  at : AtPlace 0 name.address

read_said : (c : Content) (name : Name) (r : Root) → block_name c ≡ name → read_root c ≡ Some r → Read name r
unfolding read_root root_in
read_said c name r n e =
    elim (is_root c) as (λ t. is_root c ≡ t → cond t (both_named c.payload (names_at sessions_places 0 c.payload 0 (payloads (sessions_size c.payload))) (names_at keys_places 0 c.payload (payloads (sessions_size c.payload)) (payloads (keys_size c.payload)))) None ≡ Some r → Read name r) [
      | true ↦ λ t e.
          let p = and_parts (eqb c.kind 3) _ t in
          let q = and_parts (eqb c.address (root_place c.op)) (has_numbers c.op c.payload) p.1 in
          let a : name.address ≡ root_place c.op = ap (λ (n : Name). n.address) (sym n) ∙ eqb-true c.address (root_place c.op) q.0 in
          record {
            said = both_said c.payload c.op r (names_at sessions_places 0 c.payload 0 (payloads (sessions_size c.payload))) (names_at keys_places 0 c.payload (payloads (sessions_size c.payload)) (payloads (keys_size c.payload))) q.1 refl refl e;
            at = subst (AtPlace 0) (sym a) (root_at_place c.op);
          }
      | false ↦ λ t e. absurd cc
    ] refl e

read_of_root : (f : Face) (name : Name) (r : Root) → root_at f name ≡ Some r → Read name r
unfolding root_at named_at
read_of_root f name r e = by_test (nat_lt name.address grid_size) e
  where
    by_bytes : (b : List ℕ) (o : Option Content) → named name b ≡ o → option_and_then read_root o ≡ Some r → Read name r
    by_bytes b None n e = absurd cc
    by_bytes b (Some c) n e = read_said c name r (named_found name b c n).1 e

    by_reading : (o : Option (List ℕ)) → option_and_then read_root (option_and_then (named name) o) ≡ Some r → Read name r
    by_reading None e = absurd cc
    by_reading (Some b) e = by_bytes b (named name b) refl e

    by_test : (t : Bool) → option_and_then read_root (cond t (option_and_then (named name) (block_reading f name.address)) None) ≡ Some r → Read name r
    by_test true e = by_reading (block_reading f name.address) e
    by_test false e = absurd cc

pub each_held : (f : Face) (root : Name) (texts : Texts) (t : PayloadTable) → loaded f root ≡ Loaded texts t → Holds f t
each_held f root texts t e =
    let l = loads_of f root texts t e in
    let said = (read_of_root f root l.found l.at).said in
    let n = numbers_of said.op said.bytes said.numbers in
    let s = holds_by f sessions_places 0 said.bytes 0 (payloads (sessions_size said.bytes)) l.found.sessions_size l.found.sessions t.sessions said.sessions l.sessions in
    let k = holds_by f keys_places 0 said.bytes (payloads (sessions_size said.bytes)) (payloads (keys_size said.bytes)) l.found.keys_size l.found.keys t.keys said.keys l.keys in
    record {
      sessions = s.holds;
      few_sessions = let a = s.count in let b = n.sessions in omega arith;
      keys = k.holds;
      few_keys = let a = k.count in let b = n.keys in omega arith;
    }

pub tables_held : TablesHeld
tables_held = record { none = λ f. record { sessions = tt; few_sessions = omega arith; keys = tt; few_keys = omega arith }; each = each_held }

-- ---- kept

keeps_by : (cluster : ℕ) (texts : Texts) (op : ℕ) (old : PayloadTable) (f g : Face) → FitsPayloads texts → ((a : ℕ) → Avoids a (written cluster texts op old) → SameAt f g a)
    → (root : Name) (before : Texts) → root.address ≢ root_place op → loaded f root ≡ Loaded before old → loaded g root ≡ Loaded before old
keeps_by cluster texts op old f g fits same root before d e =
    let h = each_held f root before old e in
    let few = h.few_sessions in
    let many = h.few_keys in
    let l = loads_of f root before old e in
    let at = (read_of_root f root l.found l.at).at in
    loaded_same f g root before old e
    (same root.address (root_avoided cluster texts op old root.address fits at (λ s. d (sym s))))
    (all_same f g old.sessions old.sessions sessions_places 0 (λ k. let z : 0 + k ≡ k = omega arith in ap (slice_get old.sessions) z) h.sessions (λ j p s n a. same p.name.address (session_avoided cluster texts op old j p fits s (omega arith) a)))
    (all_same f g old.keys old.keys keys_places 0 (λ k. let z : 0 + k ≡ k = omega arith in ap (slice_get old.keys) z) h.keys (λ j p s n a. same p.name.address (key_avoided cluster texts op old j p fits s (omega arith) a)))

pub keep_law : KeepLaw
keep_law cluster texts op old f fits w = record {
  kept = keeps_by cluster texts op old f (after_all f (save_calls cluster texts op old)) fits (λ a h. same_after cluster texts op old f a h);
  front = λ root before j d e. keeps_by cluster texts op old f (after_all f (take j (save_calls cluster texts op old))) fits (λ a h. same_front cluster texts op old f a j h) root before d e;
  stopped = λ root before j code d e. keeps_by cluster texts op old f (cut j code f (save_calls cluster texts op old)) fits (λ a h. same_cut cluster texts op old f a j code w h) root before d e;
}

pub keeps : (t : Option Disk) (cluster : ℕ) (texts : Texts) (op : ℕ) (old : PayloadTable) → FitsPayloads texts → IfSome t (λ (d : Disk). d.face.waiting ≡ [] → SaveKeeps cluster texts op old d.face)
keeps t cluster texts op old fits = if_some (λ (d : Disk). d.face.waiting ≡ [] → SaveKeeps cluster texts op old d.face) t (λ d e w. keep_law cluster texts op old d.face fits w)
