-- What a disk has of a checkpoint consists of bytes.
use Rattle.std.proofs.Common.{arith, ◌≡◌, ◌≢◌, ◌≤◌, ◌<◌, ◌+◌, ◌-◌, ◌*◌, refl, subst, ℕ, zero, suc, true, false, cond, List, [], ◌∷◌, ◌++◌, length, Option, Some, None, is_some, min}
use Rattle.std.specs.Prelude.{All, nat_le, nat_lt, nat_eq, ◌&&◌}
use Rattle.std.specs.Option.{option_and_then, option_map}
use Rattle.std.specs.Int.{w16, w64}
use Rattle.std.proofs.lemmas.Bool.{ltb-true, and_parts, eqb-true, leb-true}
use Rattle.std.proofs.lemmas.List.Elements.{All-nil, All-cons, All-head, All-tail}
use Rattle.vr_base.specs.Bytes.{IsBytes, number}
use Rattle.vr_base.proofs.FieldLaws.{IsBytes-piece, length-piece}
use Rattle.vr_disk.specs.DiskState.{Face, IsFace}
use Rattle.vr_state.specs.StateTexts.{key_payloads, payloads, session_payloads}
use Rattle.vr_ckpt.specs.declared.name.Name.{Name}
use Rattle.vr_ckpt.specs.Blocks.{Content, named}
use Rattle.vr_ckpt.specs.Grid.{block_reading, named_at}
use Rattle.vr_ckpt.proofs.Contents.{named_found, read_of}
use Rattle.vr_ckpt.specs.Loads.{both_named, data_at, gathered, has_numbers, text_of, data_of, is_root, keys_size, load_by, load_of, loaded, name_at, names_at, read_root, root_at, root_in, sessions_size, with_data, with_name}
use Rattle.vr_ckpt.specs.Places.{IsLower, grid_size, is_place, keys_places, place_of, root_place, sessions_places}
use Rattle.vr_ckpt.specs.declared.places.Places.{Places}
use Rattle.vr_ckpt.proofs.Placing.{at_place, block_inside}
use Rattle.vr_ckpt.specs.declared.found.Load.TheVariants.{Loaded}
use Rattle.vr_ckpt.specs.declared.loading.Gathered.{Gathered}
use Rattle.vr_ckpt.specs.declared.root.Root.{Root}
use Rattle.std.specs.List.{AllByRecursion}
use Rattle.vr_base.proofs.AreBytes.{IsBytes-append, IsBytes-none}
use Rattle.vr_disk.specs.Regions.{block_place}
use Rattle.vr_disk.proofs.Together.{together_bytes}
use Rattle.vr_state.specs.declared.texts.Texts.{Texts}
use Rattle.vr_ckpt.specs.declared.table.PayloadTable.{PayloadTable}
use Rattle.vr_rules.specs.Sectors.{block_in}
use Rattle.vr_rules.proofs.FitLoads.{given}
use Rattle.law_4_disks.specs.Stocks.{IsNamed, IsPlaced}
use Rattle.law_4_disks.proofs.Blocks.{Lowers, TableNamed, fewer_lowers, key_lowers, placed, session_lowers}

abbrev IsGoodName : Name → Type 0
IsGoodName n = IsPlaced n

with_one : (low : ℕ) (name : Name) (rest : Option (List Name)) (names : List Name) → with_name low name rest ≡ Some names
    → (is_place low name.address ≡ true) × (more : List Name) × (rest ≡ Some more) × (name ∷ more ≡ names)
with_one low name rest names e =
    elim (is_place low name.address) as (λ t. is_place low name.address ≡ t → cond t (option_map (λ names. name ∷ names) rest) None ≡ Some names → (is_place low name.address ≡ true) × (more : List Name) × (rest ≡ Some more) × (name ∷ more ≡ names)) [
      | false ↦ λ t q. absurd cc
      | true ↦ λ t q. elim rest as (λ r. rest ≡ r → option_map (λ names. name ∷ names) r ≡ Some names → (is_place low name.address ≡ true) × (more : List Name) × (rest ≡ Some more) × (name ∷ more ≡ names)) [
        | None ↦ λ i p. absurd cc
        | Some more ↦ λ i p. let same : name ∷ more ≡ names = cc in (t, more, i, same)
      ] refl q
    ] refl e

good_at : (bytes : List ℕ) (i low : ℕ) → 18 + 24 * (i + 1) ≤ length bytes → IsBytes bytes → IsLower low → low ≢ 0 → is_place low (name_at bytes i).address ≡ true → IsGoodName (name_at bytes i)
unfolding name_at
good_at bytes i low l are a b t =
    let w = placed low (name_at bytes i).address a b (at_place low (name_at bytes i).address t) in
    record { sum = (length-piece (26 + 24 * i) 16 bytes (omega arith), IsBytes-piece (26 + 24 * i) 16 bytes are); some = w.0; few = w.1 }

-- those of a text's payloads from the k-th on
names_are : (n k i : ℕ) (p : Places) (bytes : List ℕ) (names : List Name) → Lowers p (k + n) → IsBytes bytes → 18 + 24 * (i + n) ≤ length bytes → names_at p k bytes i n ≡ Some names → All IsGoodName names
unfolding names_at
names_are zero k i p bytes names l are b e = let same : [] ≡ names = cc in subst (λ (ns : List Name). All IsGoodName ns) same (All-nil IsGoodName)
names_are (suc n) k i p bytes names l are b e =
    let w = with_one (place_of p k) (name_at bytes i) (names_at p (k + 1) bytes (i + 1) n) names e in
    let here = l k (omega arith) in
    let rest = names_are n (k + 1) (i + 1) p bytes w.1 (fewer_lowers p (k + 1 + n) (k + suc n) (omega arith) l) are (omega arith) w.2 in
    let is : IsGoodName (name_at bytes i) = good_at bytes i (place_of p k) (omega arith) are here.0 here.1 w.0 in
    subst (λ (ns : List Name). All IsGoodName ns) w.3 (All-cons IsGoodName (name_at bytes i) w.1 is rest)

-- the names of a root
record Names (r : Root) : Type 0 where
  sessions : All IsGoodName r.sessions
  keys : All IsGoodName r.keys

both_are : (bytes : List ℕ) (a b : Option (List Name)) (r : Root) → ((ns : List Name) → a ≡ Some ns → All IsGoodName ns) → ((ns : List Name) → b ≡ Some ns → All IsGoodName ns) → both_named bytes a b ≡ Some r → Names r
both_are bytes None b r h k e = absurd cc
both_are bytes (Some x) None r h k e = absurd cc
both_are bytes (Some x) (Some y) r h k e =
    let made : Root = record { sessions_size = sessions_size bytes; keys_size = keys_size bytes; sessions = x; keys = y } in
    let same : made ≡ r = cc in
    subst Names same (record { sessions = h x refl; keys = k y refl })

-- how many names the payload has room for
record Room (bytes : List ℕ) : Type 0 where
  few_sessions : payloads (sessions_size bytes) ≤ session_payloads
  few_keys : payloads (keys_size bytes) ≤ key_payloads
  size : length bytes ≡ 18 + 24 * (payloads (sessions_size bytes) + payloads (keys_size bytes))

room_of : (op : ℕ) (bytes : List ℕ) → has_numbers op bytes ≡ true → Room bytes
unfolding has_numbers
room_of op bytes e =
    let s : ℕ = payloads (sessions_size bytes) in
    let k : ℕ = payloads (keys_size bytes) in
    elim (nat_lt (length bytes) 18) as (λ t. cond t false (nat_eq (number w64 0 bytes) op && (nat_le s session_payloads && (nat_le k key_payloads && (nat_eq (number w16 16 bytes) (s + k) && nat_eq (length bytes) (18 + 24 * (s + k)))))) ≡ true → Room bytes) [
      | true ↦ λ q. absurd cc
      | false ↦ λ q.
          let a = and_parts (nat_eq (number w64 0 bytes) op) _ q in
          let b = and_parts (nat_le s session_payloads) _ a.1 in
          let c = and_parts (nat_le k key_payloads) _ b.1 in
          let d = and_parts (nat_eq (number w16 16 bytes) (s + k)) (nat_eq (length bytes) (18 + 24 * (s + k))) c.1 in
          record { few_sessions = leb-true s session_payloads b.0; few_keys = leb-true k key_payloads c.0; size = eqb-true (length bytes) (18 + 24 * (s + k)) d.1 }
    ] e

root_names : (c : Content) (r : Root) → IsBytes c.payload → read_root c ≡ Some r → Names r
unfolding read_root root_in
root_names c r are e =
    let bytes : List ℕ = c.payload in
    let s : ℕ = payloads (sessions_size bytes) in
    let k : ℕ = payloads (keys_size bytes) in
    elim (is_root c) as (λ t. is_root c ≡ t → cond t (both_named bytes (names_at sessions_places 0 bytes 0 s) (names_at keys_places 0 bytes s k)) None ≡ Some r → Names r) [
      | false ↦ λ t q. absurd cc
      | true ↦ λ t q.
          let a = and_parts (nat_eq c.kind 3) _ t in
          let b = and_parts (nat_eq c.address (root_place c.op)) (has_numbers c.op bytes) a.1 in
          let room = room_of c.op bytes b.1 in
          let size = room.size in
          both_are bytes (names_at sessions_places 0 bytes 0 s) (names_at keys_places 0 bytes s k) r
          (λ ns i. names_are s 0 0 sessions_places bytes ns (session_lowers s room.few_sessions) are (omega arith) i)
          (λ ns i. names_are k 0 s keys_places bytes ns (key_lowers k room.few_keys) are (omega arith) i) q
    ] refl e

-- ---- what reads

reading_are : (f : Face) (address : ℕ) (b : List ℕ) → IsFace f → address < grid_size → block_reading f address ≡ Some b → IsBytes b
unfolding block_reading
reading_are f address b face l e = together_bytes 8 (block_place address) f face (block_inside address l) b e

payload_are : (name : Name) (b : List ℕ) (c : Content) → IsBytes b → named name b ≡ Some c → IsBytes c.payload
payload_are name b c are e =
    let r = read_of b c (named_found name b c e).0 in
    subst (λ (c : Content). IsBytes c.payload) r.content (IsBytes-piece 128 (r.header.size - 128) b are)

pub content_are : (f : Face) (name : Name) (c : Content) → IsFace f → named_at f name ≡ Some c → IsBytes c.payload
unfolding named_at
content_are f name c face e =
    elim (nat_lt name.address grid_size) as (λ t. nat_lt name.address grid_size ≡ t → cond t (option_and_then (named name) (block_reading f name.address)) None ≡ Some c → IsBytes c.payload) [
      | false ↦ λ t e. absurd cc
      | true ↦ λ t e.
          let x = given (named name) (block_reading f name.address) c e in
          payload_are name x.0 c (reading_are f name.address x.0 face (ltb-true name.address grid_size t) x.1) x.2
    ] refl e

-- a whole block that reads under its name
pub block_are : (f : Face) (name : Name) (b : List ℕ) → IsFace f → block_in f name ≡ Some b → IsBytes b
unfolding named_at
block_are f name b face e =
    elim (nat_lt name.address grid_size) as (λ t. nat_lt name.address grid_size ≡ t → cond (is_some (cond t (option_and_then (named name) (block_reading f name.address)) None)) (block_reading f name.address) None ≡ Some b → IsBytes b) [
      | false ↦ λ t q. absurd cc
      | true ↦ λ t q. elim (is_some (option_and_then (named name) (block_reading f name.address))) as (λ s. cond s (block_reading f name.address) None ≡ Some b → IsBytes b) [
        | false ↦ λ p. absurd cc
        | true ↦ λ p. reading_are f name.address b face (ltb-true name.address grid_size t) p
      ] q
    ] refl e

record Gathers (g : Gathered) : Type 0 where
  named : AllByRecursion IsNamed g.payloads
  text : IsBytes (text_of g.payloads)

data_are : (f : Face) (name : Name) (size : ℕ) (b : List ℕ) → IsFace f → data_at f name size ≡ Some b → IsBytes b
unfolding data_at
data_are f name size b face e =
    let x = given (data_of size) (named_at f name) b e in
    let c = x.0 in
    let are = content_are f name c face x.1 in
    elim (nat_eq c.kind 2 && nat_eq (length c.payload) size) as (λ t. cond t (Some c.payload) None ≡ Some b → IsBytes b) [
      | false ↦ λ q. absurd cc
      | true ↦ λ q. (let same : c.payload ≡ b = cc in subst IsBytes same are)
    ] x.2

gathers : (f : Face) (size : ℕ) (names : List Name) → IsFace f → All IsGoodName names → Gathers (gathered f size names)
unfolding gathered text_of
gathers f size [] face h = record { named = tt; text = IsBytes-none }
gathers f size (name ∷ names) face h =
    let rest = gathers f (size - 3968) names face (All-tail IsGoodName name names h) in
    let more = gathered f (size - 3968) names in
    elim (data_at f name (min size 3968)) as (λ o. data_at f name (min size 3968) ≡ o → Gathers (with_data name o more)) [
      | None ↦ λ e. record { named = rest.named; text = rest.text }
      | Some b ↦ λ e. record { named = (All-head IsGoodName name names h, rest.named); text = IsBytes-append b (text_of more.payloads) (data_are f name (min size 3968) b face e) rest.text }
    ] refl

pub record LoadsWell (texts : Texts) (t : PayloadTable) : Type 0 where
  pub sessions : IsBytes texts.sessions
  pub keys : IsBytes texts.keys
  pub table : TableNamed t

load_well : (s k : Gathered) (ns : List Name) (texts : Texts) (table : PayloadTable) → Gathers s → Gathers k → load_of s k ns ≡ Loaded texts table → LoadsWell texts table
load_well s k (n ∷ ns) texts table a b e = absurd cc
load_well s k [] texts table a b e =
    let x : Texts = record { sessions = text_of s.payloads; keys = text_of k.payloads } in
    let y : PayloadTable = record { sessions = s.payloads; keys = k.payloads } in
    let t : x ≡ texts = cc in
    let u : y ≡ table = cc in
    record {
      sessions = subst (λ (t : Texts). IsBytes t.sessions) t a.text;
      keys = subst (λ (t : Texts). IsBytes t.keys) t b.text;
      table = subst TableNamed u (record { sessions = a.named; keys = b.named });
    }

pub loads_well : (f : Face) (root : Name) (texts : Texts) (table : PayloadTable) → IsFace f → loaded f root ≡ Loaded texts table → LoadsWell texts table
unfolding loaded root_at
loads_well f root texts table face e =
    elim (root_at f root) as (λ o. root_at f root ≡ o → load_by f root o ≡ Loaded texts table → LoadsWell texts table) [
      | None ↦ λ i q. absurd cc
      | Some r ↦ λ i q.
          let at = given read_root (named_at f root) r i in
          let n = root_names at.0 r (content_are f root at.0 face at.1) at.2 in
          let a = gathered f r.sessions_size r.sessions in
          let b = gathered f r.keys_size r.keys in
          load_well a b (a.missing ++ b.missing) texts table (gathers f r.sessions_size r.sessions face n.sessions) (gathers f r.keys_size r.keys face n.keys) q
    ] refl e
