-- The blocks of a checkpoint stand apart, each at one of its two places.
use Rattle.std.proofs.Common.{arith, ℕ, zero, suc, ◌+◌, ◌-◌, ◌≡◌, ◌≢◌, ◌<◌, ◌≤◌, ◌∙◌, inl, inr, refl, sym, ap, subst, true, false, cond, List, [], ◌∷◌, ◌++◌, map, length, get_or, Some, None}
use Rattle.std.specs.Prelude.{nat_lt, slice_get, ◌==◌}
use Rattle.std.specs.Option.{option_and_then}
use Rattle.std.proofs.lemmas.Bool.{and_parts, cases_eq, cases_lt, eqb-true, le-ltb, lt-ltb}
use Rattle.std.proofs.lemmas.List.{get_or-append-add, get_or_append_left, get_or_default, length-append, length-map}
use Rattle.vr_state.specs.StateTexts.{FitsPayloads, key_payloads, payloads, session_payloads}
use Rattle.vr_state.specs.declared.texts.Texts.{Texts}
use Rattle.vr_disk.specs.DiskState.{Face}
use Rattle.vr_ckpt.specs.Blocks.{Content, named}
use Rattle.vr_ckpt.specs.Grid.{block_reading, named_at}
use Rattle.vr_ckpt.specs.declared.name.Name.{Name}
use Rattle.vr_ckpt.proofs.Contents.{named_found}
use Rattle.vr_ckpt.specs.Laws.{Holds, HoldsFrom}
use Rattle.vr_ckpt.specs.Loads.{has_numbers, is_root, load_by, loaded, read_root, root_at, root_in}
use Rattle.vr_ckpt.specs.Places.{IsLower, grid_size, is_place, keys_places, place_of, root_place, sessions_places}
use Rattle.vr_ckpt.specs.declared.places.Places.{Places}
use Rattle.vr_ckpt.specs.Saves.{PayloadBlocks, data_content, goes_to, keys_run, payload_blocks_at, payloads_from, root_of, saved_checkpoint, sessions_run, table_of}
use Rattle.vr_ckpt.specs.Saves as saves
use Rattle.vr_ckpt.specs.declared.plan.Run.{Run}
use Rattle.vr_ckpt.specs.declared.found.Load.TheVariants.{Loaded, Missing}
use Rattle.vr_ckpt.specs.declared.root.Root.{Root}
use Rattle.vr_ckpt.specs.declared.table.Payload.{Payload}
use Rattle.vr_ckpt.specs.declared.table.PayloadTable.{PayloadTable}
use Rattle.vr_ckpt.proofs.Apart.{part_cases}
use Rattle.vr_ckpt.proofs.Placing.{AtPlace, at_place, at_within, is_at, key_above, key_lower, keys_room, numbers_apart, places_apart, root_at_place, root_lower, session_above, session_lower, sessions_room, texts_apart}
use Rattle.vr_ckpt.proofs.Keeping.{each_held}
use Rattle.vr_world.specs.Lying.{lying}
use Rattle.vr_rules.specs.Sectors.{sectors_by}
use Rattle.vr_rules.specs.Steps.{Setting}
use Rattle.vr_rules.proofs.FitLoads.{given, some_missing}
use Rattle.law_repair.specs.Cover.{StandApart}
use Rattle.law_repair.specs.Places.{AreAt, StandsAt, IsInPlaces}

-- ---- the places of a list of names

abbrev names_of : List Payload → List Name
names_of ps = map (λ (p : Payload). p.name) ps

-- the names of a checkpoint's blocks
abbrev pub all_names : Name → PayloadTable → List Name
all_names root t = root ∷ (names_of t.sessions ++ names_of t.keys)

-- what a disk holds stands at its places
held_at : (f : Face) (l : Places) (i : ℕ) (ps : List Payload) → HoldsFrom f l i ps → AreAt l i ps
held_at f l i [] h = tt
held_at f l i (p ∷ ps) h = (h.0, held_at f l (i + 1) ps h.2)

payload_at : (l : Places) (i : ℕ) (ps : List Payload) (k : ℕ) (d : Name) → AreAt l i ps → k < length ps → AtPlace (place_of l (i + k)) (get_or (names_of ps) k d).address
payload_at l i [] k d h b = absurd (omega (arith, b))
payload_at l i (p ∷ ps) zero d h b = let same : i ≡ i + zero = omega arith in subst (λ n. AtPlace (place_of l n) p.name.address) same (at_place (place_of l i) p.name.address h.0)
payload_at l i (p ∷ ps) (suc k) d h b =
    let same : i + 1 + k ≡ i + suc k = omega arith in
    subst (λ n. AtPlace (place_of l n) (get_or (names_of ps) k d).address) same (payload_at l (i + 1) ps k d h.1 (omega (arith, b)))

-- the lower place of each: the root, the payloads of the sessions, those of the keys
abbrev pub low_of : ℕ → ℕ → ℕ
low_of sessions zero = 0
low_of sessions (suc k) = cond (nat_lt k sessions) (place_of sessions_places k) (place_of keys_places (k - sessions))

record Laid (root : Name) (t : PayloadTable) : Type 0 where
  each : (i : ℕ) (d : Name) → i < length (all_names root t) → AtPlace (low_of (length t.sessions) i) (get_or (all_names root t) i d).address
  few_sessions : length t.sessions ≤ session_payloads
  few : length (all_names root t) ≤ 1 + length t.sessions + key_payloads

laid_by : (root : Name) (t : PayloadTable) → AtPlace 0 root.address → IsInPlaces t → Laid root t
laid_by root t at h =
    let ss : List Name = names_of t.sessions in
    let ks : List Name = names_of t.keys in
    let n : ℕ = length t.sessions in
    let ns : length ss ≡ n = length-map t.sessions (λ (p : Payload). p.name) in
    let nk : length ks ≡ length t.keys = length-map t.keys (λ (p : Payload). p.name) in
    let both : length (ss ++ ks) ≡ length ss + length ks = length-append ss ks in
    let few_keys = h.few_keys in
    let each : (i : ℕ) (d : Name) → i < length (all_names root t) → AtPlace (low_of n i) (get_or (all_names root t) i d).address = elim [
      | zero ↦ λ d l. at
      | suc k ↦ λ d l. elim (cases_lt k n) [
        | inl under ↦
            let there = payload_at sessions_places 0 t.sessions k d h.sessions under in
            let spot : get_or (ss ++ ks) k d ≡ get_or ss k d = get_or_append_left ss ks d k (omega (arith, under, ns)) in
            let from : 0 + k ≡ k = omega arith in
            let low : place_of sessions_places (0 + k) ≡ low_of n (suc k) =
            ap (place_of sessions_places) from ∙ sym (ap (λ b. cond b (place_of sessions_places k) (place_of keys_places (k - n))) (lt-ltb k n under)) in
            subst (λ m. AtPlace m (get_or (ss ++ ks) k d).address) low (subst (λ (m : Name). AtPlace (place_of sessions_places (0 + k)) m.address) (sym spot) there)
        | inr over ↦
            let j : ℕ = k - n in
            let there = payload_at keys_places 0 t.keys j d h.keys (omega (arith, l, both, ns, nk, over)) in
            let back : k ≡ length ss + j = omega (arith, over, ns) in
            let spot : get_or (ss ++ ks) k d ≡ get_or ks j d = ap (λ n. get_or (ss ++ ks) n d) back ∙ get_or-append-add ss ks j d in
            let from : 0 + j ≡ j = omega arith in
            let low : place_of keys_places (0 + j) ≡ low_of n (suc k) =
            ap (place_of keys_places) from ∙ sym (ap (λ b. cond b (place_of sessions_places k) (place_of keys_places j)) (le-ltb k n over)) in
            subst (λ m. AtPlace m (get_or (ss ++ ks) k d).address) low (subst (λ (m : Name). AtPlace (place_of keys_places (0 + j)) m.address) (sym spot) there)
      ]
    ] in
    record { each = each; few_sessions = h.few_sessions; few = omega (arith, both, ns, nk, few_keys) }

-- each is a lower place, and no two are one
low_lower : (n i : ℕ) → n ≤ session_payloads → i < 1 + n + key_payloads → IsLower (low_of n i)
low_lower n zero l m = root_lower
low_lower n (suc k) l m =
    elim (cases_lt k n) [ inl a ↦ rw (lt-ltb k n a) (session_lower k (omega (arith, a, l))) | inr b ↦ rw (le-ltb k n b) (key_lower (k - n) (omega (arith, b, m))) ]

low_apart : (n i j : ℕ) → n ≤ session_payloads → i < 1 + n + key_payloads → j < 1 + n + key_payloads → i ≢ j → low_of n i ≢ low_of n j
low_apart n zero zero l x y d = λ e. d refl
low_apart n zero (suc k) l x y d =
    elim (cases_lt k n) [ inl a ↦ rw (lt-ltb k n a) (λ e. session_above k (sym e)) | inr b ↦ rw (le-ltb k n b) (λ e. key_above (k - n) (sym e)) ]
low_apart n (suc k) zero l x y d = elim (cases_lt k n) [ inl a ↦ rw (lt-ltb k n a) (session_above k) | inr b ↦ rw (le-ltb k n b) (key_above (k - n)) ]
low_apart n (suc k) (suc m) l x y d =
    elim (cases_lt k n) [
      | inl a ↦ elim (cases_lt m n) [
        | inl b ↦
            rw (lt-ltb k n a, lt-ltb m n b)
            (numbers_apart sessions_places session_payloads k m (sessions_room session_payloads (omega arith)) (omega (arith, a, l)) (omega (arith, b, l)) (λ e. d (ap suc e)))
        | inr b ↦ rw (lt-ltb k n a, le-ltb m n b) (texts_apart k (m - n) (omega (arith, a, l)) (omega (arith, b, y)))
      ]
      | inr a ↦ elim (cases_lt m n) [
        | inl b ↦ rw (le-ltb k n a, lt-ltb m n b) (λ e. texts_apart m (k - n) (omega (arith, b, l)) (omega (arith, a, x)) (sym e))
        | inr b ↦
            rw (le-ltb k n a, le-ltb m n b)
            (numbers_apart keys_places key_payloads (k - n) (m - n) (keys_room key_payloads (omega arith)) (omega (arith, a, x)) (omega (arith, b, y)) (λ e. d (omega (arith, e, a, b))))
      ]
    ]

laid_apart : (root : Name) (t : PayloadTable) → Laid root t → StandApart (all_names root t)
laid_apart root t laid =
    let xs : List Name = all_names root t in
    let n : ℕ = length t.sessions in
    let few = laid.few in
    let within : (i : ℕ) → i < length xs → i < 1 + n + key_payloads = λ i l. omega (arith, l, few) in
    let low : (i : ℕ) → i < length xs → IsLower (low_of n i) = λ i l. low_lower n i laid.few_sessions (within i l) in
    record {
      grid = λ i d l. at_within (low_of n i) (get_or xs i d).address (low i l) (laid.each i d l);
      own = λ a b x y same.
          let i : ℕ = x.0 in
          let j : ℕ = y.0 in
          elim (cases_eq i j) [
            | inl e ↦
                let first : get_or xs j a ≡ a = subst (λ k. get_or xs k a ≡ a) e x.2 in
                sym first ∙ (get_or_default xs j a b y.1 ∙ y.2)
            | inr d ↦
                let at_a : AtPlace (low_of n i) a.address = subst (λ (m : Name). AtPlace (low_of n i) m.address) x.2 (laid.each i a x.1) in
                let at_b : AtPlace (low_of n j) b.address = subst (λ (m : Name). AtPlace (low_of n j) m.address) y.2 (laid.each j b y.1) in
                let apart = low_apart n i j laid.few_sessions (within i x.1) (within j y.1) d in
                absurd (places_apart (low_of n i) (low_of n j) a.address b.address at_a at_b apart (low i x.1) (low j y.1) same)
          ];
    }

-- blocks at their places stand apart
pub places_stand : (root : Name) (t : PayloadTable) → StandsAt 0 root → IsInPlaces t → StandApart (all_names root t)
places_stand root t at h = laid_apart root t (laid_by root t (at_place 0 root.address at) h)

pub nothing_apart : StandApart []
nothing_apart = record { grid = λ i d l. absurd (omega (arith, l)); own = λ a b x y same. absurd (let l = x.1 in omega (arith, l)) }

-- ---- a checkpoint that loads

root_is : (c : Content) (r : Root) → read_root c ≡ Some r → is_root c ≡ true
unfolding read_root
root_is c r e = elim (is_root c) as (λ b. cond b (root_in c.payload) None ≡ Some r → b ≡ true) [ true ↦ λ i. refl | false ↦ λ i. absurd cc ] e

content_at : (f : Face) (name : Name) (c : Content) → named_at f name ≡ Some c → c.address ≡ name.address
unfolding named_at
content_at f name c e =
    elim (nat_lt name.address grid_size) as (λ b. cond b (option_and_then (named name) (block_reading f name.address)) None ≡ Some c → c.address ≡ name.address) [
      | true ↦ λ i.
          let at = given (named name) (block_reading f name.address) c i in
          ap (λ (m : Name). m.address) (named_found name at.0 c at.2).1
      | false ↦ λ i. absurd cc
    ] e

root_placed : (f : Face) (root : Name) (r : Root) → root_at f root ≡ Some r → AtPlace 0 root.address
unfolding root_at
root_placed f root r e =
    let at = given read_root (named_at f root) r e in
    let c : Content = at.0 in
    let is = and_parts (c.kind == 3) _ (root_is c r at.2) in
    let place = and_parts (c.address == root_place c.op) (has_numbers c.op c.payload) is.1 in
    let same : root_place c.op ≡ root.address = sym (eqb-true c.address (root_place c.op) place.0) ∙ content_at f root c at.1 in
    subst (AtPlace 0) same (root_at_place c.op)

loaded_root : (f : Face) (root : Name) (texts : Texts) (t : PayloadTable) → loaded f root ≡ Loaded texts t → AtPlace 0 root.address
unfolding loaded
loaded_root f root texts t e =
    elim (root_at f root) as (λ o. root_at f root ≡ o → load_by f root o ≡ Loaded texts t → AtPlace 0 root.address) [
      | None ↦ λ i q. absurd cc
      | Some r ↦ λ i q. root_placed f root r i
    ] refl e

-- ---- a checkpoint that is written

-- the payloads of the table before
old_at : (l : Places) (i : ℕ) (ps : List Payload) (k : ℕ) (p : Payload) → AreAt l i ps → slice_get ps k ≡ Some p → StandsAt (place_of l (i + k)) p.name
old_at l i [] k p h e = absurd cc
old_at l i (q ∷ qs) zero p h e =
    let one : q ≡ p = cc in
    let same : i ≡ i + zero = omega arith in
    subst (λ n. StandsAt (place_of l n) p.name) same (subst (λ (x : Payload). StandsAt (place_of l i) x.name) one h.0)
old_at l i (q ∷ qs) (suc k) p h e = let same : i + 1 + k ≡ i + suc k = omega arith in subst (λ n. StandsAt (place_of l n) p.name) same (old_at l (i + 1) qs k p h.1 e)

went_to : (r : Run) (a : ℕ) (bytes : List ℕ) → (goes_to r a bytes).payload.name.address ≡ a
unfolding goes_to data_content
went_to r a bytes = refl

part_at_place : (r : Run) (text : List ℕ) (old : List Payload) (i : ℕ) → AreAt r.places 0 old → StandsAt (place_of r.places i) (payload_blocks_at r text old i).payload.name
part_at_place r text old i h =
    let low : ℕ = place_of r.places i in
    let from : 0 + i ≡ i = omega arith in
    elim (part_cases r i (saves.payload_at text i) (slice_get old i)) [
      | inl s ↦ subst (λ (x : PayloadBlocks). StandsAt low x.payload.name) (sym s.is) (subst (λ k. StandsAt (place_of r.places k) s.payload.name) from (old_at r.places 0 old i s.payload h s.there))
      | inr g ↦ subst (λ (x : PayloadBlocks). StandsAt low x.payload.name) (sym g.is) (subst (λ a. is_place low a ≡ true) (sym (went_to r g.address (saves.payload_at text i))) (is_at low g.address g.at))
    ]

parts_at : (r : Run) (text : List ℕ) (old : List Payload) (i n : ℕ) → AreAt r.places 0 old → AreAt r.places i (payloads_from r text old i n)
unfolding payloads_from
parts_at r text old i zero h = tt
parts_at r text old i (suc n) h = (part_at_place r text old i h, parts_at r text old (i + 1) n h)

count_from : (r : Run) (text : List ℕ) (old : List Payload) (i n : ℕ) → length (payloads_from r text old i n) ≡ n
unfolding payloads_from
count_from r text old i zero = refl
count_from r text old i (suc n) = let rest = count_from r text old (i + 1) n in omega (arith, rest)

pub saved_places : (cluster : ℕ) (texts : Texts) (op : ℕ) (old : PayloadTable) → FitsPayloads texts → IsInPlaces old → IsInPlaces (table_of cluster texts op old)
unfolding table_of
saved_places cluster texts op old fits h =
    let a = count_from (sessions_run cluster op) texts.sessions old.sessions 0 (payloads (length texts.sessions)) in
    let b = count_from (keys_run cluster op) texts.keys old.keys 0 (payloads (length texts.keys)) in
    let few_sessions = fits.sessions in
    let few_keys = fits.keys in
    record {
      sessions = parts_at (sessions_run cluster op) texts.sessions old.sessions 0 (payloads (length texts.sessions)) h.sessions;
      few_sessions = omega (arith, a, few_sessions);
      keys = parts_at (keys_run cluster op) texts.keys old.keys 0 (payloads (length texts.keys)) h.keys;
      few_keys = omega (arith, b, few_keys);
    }

root_saved : (cluster : ℕ) (texts : Texts) (op : ℕ) (old : PayloadTable) → StandsAt 0 (saved_checkpoint cluster texts op old).root
unfolding root_of
root_saved cluster texts op old = is_at 0 (root_place op) (root_at_place op)

-- ---- the disks of the program

pub record LoadsApart {F : Type 0} (s : Setting F) : Type 0 where
  pub places : (f : F) (root : Name) (texts : Texts) (t : PayloadTable) → s.loaded f root ≡ Loaded texts t → StandsAt 0 root × IsInPlaces t
  pub some : (f : F) (root : Name) → s.loaded f root ≡ Missing [] → ⊥

pub record SavesInPlace {F : Type 0} (s : Setting F) : Type 0 where
  pub table : (cluster : ℕ) (texts : Texts) (op : ℕ) (old : PayloadTable) → FitsPayloads texts → IsInPlaces old → IsInPlaces (s.save_state cluster texts op old).table
  pub root : (cluster : ℕ) (texts : Texts) (op : ℕ) (old : PayloadTable) → StandsAt 0 (s.save_state cluster texts op old).root

held_places : (f : Face) (t : PayloadTable) → Holds f t → IsInPlaces t
held_places f t h = record {
  sessions = held_at f sessions_places 0 t.sessions h.sessions;
  few_sessions = h.few_sessions;
  keys = held_at f keys_places 0 t.keys h.keys;
  few_keys = h.few_keys;
}

pub sectors_apart : (v : ℕ) → LoadsApart (sectors_by v)
sectors_apart v = record {
  places = λ f root texts t e. (is_at 0 root.address (loaded_root f root texts t e), held_places f t (each_held f root texts t e));
  some = λ f root e. some_missing f root [] e refl;
}

pub lying_apart : LoadsApart lying
lying_apart = record { places = λ d root texts t e. (sectors_apart d.version).places d.face root texts t e; some = λ d root e. (sectors_apart d.version).some d.face root e }

pub sectors_in_place : (v : ℕ) → SavesInPlace (sectors_by v)
sectors_in_place v = record { table = saved_places; root = root_saved }

pub lying_in_place : SavesInPlace lying
lying_in_place = record { table = saved_places; root = root_saved }
