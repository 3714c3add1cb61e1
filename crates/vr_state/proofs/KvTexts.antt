-- A pair is read back from its text, and so is a machine.
use Rattle.std.proofs.Common.{◌≡◌, ℕ, ◌+◌, ◌*◌, ◌^◌, ◌<◌, ◌≤◌, List, [], ◌∷◌, ◌++◌, length, drop, get_or, Option, Some, None, Ok, Bool, true, false, cond, refl, sym, ◌∙◌, ap, subst, arith}
use Rattle.std.specs.List.{AllByRecursion, flat_map}
use Rattle.std.specs.Option.{option_and_then}
use Rattle.std.specs.Int.{w16}
use Rattle.std.proofs.lemmas.Bool.{and_parts, leb-true}
use Rattle.std.proofs.lemmas.List.{append_assoc, length-append, at_drop_more, at_drop_all}
use Rattle.vr_base.specs.Bytes.{IsBytes, bytes16}
use Rattle.vr_base.proofs.FieldLaws.{length-bytes16}
use Rattle.vr_base.specs.Versions.{value_limit}
use Rattle.vr_header.specs.Text.{is_text}
use Rattle.vr_state.specs.Front.{byte_from, number_from, piece_from}
use Rattle.vr_state.specs.declared.fault.StateFault.{StateFault}
use Rattle.vr_state.specs.Table.{table_text, IsOrNoMemory, IsFirstFault}
use Rattle.vr_state.proofs.Fronts.{byte_reads, byte_only, number_reads, number_only, piece_reads, piece_only, field16, IsBytes-behind, same_some}
use Rattle.vr_state.proofs.Tables.{IsReader, decoded-table_text, table_text-one, decoded_first, decoded_found}
use Rattle.vr_state.specs.Finite.{byte_order}
use Rattle.vr_state.specs.Kv.{Map, IsKv}
use Rattle.vr_state.specs.Pairs.{Fits, pair_text, pair_bytes, pieces_from, pair_from, kv_text, kv_bytes, kv_decoded}

pub is_text_length : (limit : ℕ) (bytes : List ℕ) → is_text limit bytes ≡ true → length bytes ≤ limit
unfolding is_text
is_text_length limit bytes h = leb-true (length bytes) limit (and_parts _ _ (and_parts _ _ h).0).1

pub key_length : (bytes : List ℕ) → is_text 64 bytes ≡ true → length bytes ≤ 64
key_length bytes h = is_text_length 64 bytes h

pub value_length : (bytes : List ℕ) → is_text (value_limit 2) bytes ≡ true → length bytes ≤ value_limit 2
value_length bytes h = is_text_length (value_limit 2) bytes h

-- what a look-up that goes on gave
and_then_some : {A B : Type 0} (f : A → Option B) (o : Option A) (y : B) → option_and_then f o ≡ Some y → (x : A) × (o ≡ Some x) × (f x ≡ Some y)
and_then_some f None y e = absurd cc
and_then_some f (Some x) y e = (x, refl, e)

-- what a test let through
chosen : {A : Type 0} (b : Bool) (x : Option A) (y : A) → cond b x None ≡ Some y → (b ≡ true) × (x ≡ Some y)
chosen true x y e = (refl, e)
chosen false x y e = absurd cc

regroup : (n k v rest : List ℕ) → (n ++ (k ++ v)) ++ rest ≡ n ++ (k ++ (v ++ rest))
regroup n k v rest = simp append_assoc

pair_reads : (e : List ℕ × List ℕ) (rest : List ℕ) → Fits e → pair_from (pair_text e ++ rest) ≡ Some (e, rest)
unfolding pair_text pieces_from pair_from
pair_reads e rest fits =
    let small : length e.1 < 2 ^ 16 = omega (arith, value_length e.1 fits.value) in
    rw (regroup (bytes16 (length e.1)) e.0 e.1 rest, byte_reads (length e.0) (bytes16 (length e.1) ++ (e.0 ++ (e.1 ++ rest))), number_reads bytes16 w16 (2 ^ 16) field16 (length e.1) (e.0 ++ (e.1 ++ rest)) small, piece_reads (length e.0) e.0 (e.1 ++ rest) refl, piece_reads (length e.1) e.1 rest refl, fits.key, fits.value) refl

-- the pieces one after another are the text
together : (bytes ts bs cs ds rest : List ℕ) (k n : ℕ) (key value : List ℕ) (e : List ℕ × List ℕ) → bytes ≡ k ∷ ts → ts ≡ bytes16 n ++ bs → bs ≡ key ++ cs → cs ≡ value ++ ds
    → key ≡ e.0 → value ≡ e.1 → ds ≡ rest → k ≡ length e.0 → n ≡ length e.1 → bytes ≡ pair_text e ++ rest
unfolding pair_text
together bytes ts bs cs ds rest k n key value e a b c d f g h i j =
    rw (a, b, c, d, f, g, h, i, j) (ap (λ t. length e.0 ∷ t) (sym (regroup (bytes16 (length e.1)) e.0 e.1 rest)))

pieces_only : (bytes : List ℕ) → IsBytes bytes → (e : List ℕ × List ℕ) (rest : List ℕ) → pieces_from bytes ≡ Some (e, rest) → bytes ≡ pair_text e ++ rest
unfolding pieces_from
pieces_only bytes are e rest is =
    let a = and_then_some _ (byte_from bytes) (e, rest) is in
    let b = and_then_some _ (number_from w16 a.0.1) (e, rest) a.2 in
    let key = and_then_some _ (piece_from a.0.0 b.0.1) (e, rest) b.2 in
    let value = and_then_some _ (piece_from b.0.0 key.0.1) (e, rest) key.2 in
    let whole = same_some ((key.0.0, value.0.0), value.0.1) (e, rest) value.2 in
    let first : bytes ≡ a.0.0 ∷ a.0.1 = byte_only bytes a.0.0 a.0.1 a.1 in
    let behind : IsBytes a.0.1 = IsBytes-behind (a.0.0 ∷ []) a.0.1 (subst IsBytes first are) in
    let number : a.0.1 ≡ bytes16 b.0.0 ++ b.0.1 = number_only bytes16 w16 (2 ^ 16) field16 a.0.1 behind b.0.0 b.0.1 b.1 in
    let key_piece = piece_only a.0.0 b.0.1 key.0.0 key.0.1 key.1 in
    let value_piece = piece_only b.0.0 key.0.1 value.0.0 value.0.1 value.1 in
    let is_key : key.0.0 ≡ e.0 = ap (λ (p : (List ℕ × List ℕ) × List ℕ). p.0.0) whole in
    let is_value : value.0.0 ≡ e.1 = ap (λ (p : (List ℕ × List ℕ) × List ℕ). p.0.1) whole in
    let is_rest : value.0.1 ≡ rest = ap (λ (p : (List ℕ × List ℕ) × List ℕ). p.1) whole in
    let key_long : a.0.0 ≡ length e.0 = sym key_piece.1 ∙ ap length is_key in
    let value_long : b.0.0 ≡ length e.1 = sym value_piece.1 ∙ ap length is_value in
    together bytes a.0.1 b.0.1 key.0.1 value.0.1 rest a.0.0 b.0.0 key.0.0 value.0.0 e first number key_piece.0 value_piece.0 is_key is_value is_rest key_long value_long

pair_only : (bytes : List ℕ) → IsBytes bytes → (e : List ℕ × List ℕ) (rest : List ℕ) → pair_from bytes ≡ Some (e, rest) → Fits e × (bytes ≡ pair_text e ++ rest)
unfolding pair_from
pair_only bytes are e rest is =
    let p = and_then_some _ (pieces_from bytes) (e, rest) is in
    let key = chosen (is_text 64 p.0.0.0) (cond (is_text (value_limit 2) p.0.0.1) (Some p.0) None) (e, rest) p.2 in
    let value = chosen (is_text (value_limit 2) p.0.0.1) (Some p.0) (e, rest) key.1 in
    let whole = same_some p.0 (e, rest) value.1 in
    let is_key : p.0.0.0 ≡ e.0 = ap (λ (p : (List ℕ × List ℕ) × List ℕ). p.0.0) whole in
    let is_value : p.0.0.1 ≡ e.1 = ap (λ (p : (List ℕ × List ℕ) × List ℕ). p.0.1) whole in
    (record { key = ap (is_text 64) (sym is_key) ∙ key.0; value = ap (is_text (value_limit 2)) (sym is_value) ∙ value.0 }, pieces_only bytes are e rest (p.1 ∙ value.1))

pub pair_reader : IsReader pair_text Fits pair_from
pair_reader = record { reads = pair_reads; only = pair_only }

length-pair_text : (e : List ℕ × List ℕ) → Fits e → length (pair_text e) ≤ pair_bytes 2
unfolding pair_text
length-pair_text e fits = simp (length-append, length-bytes16) (omega (arith, key_length e.0 fits.key, value_length e.1 fits.value))

-- as the code counts them
pub length_of_pair : (e : List ℕ × List ℕ) → length (pair_text e) ≡ 3 + (length e.0 + length e.1)
unfolding pair_text
length_of_pair e = simp (length-append, length-bytes16) (omega arith)

length-pairs : (m : Map) → AllByRecursion Fits m → length (flat_map pair_text m) ≤ pair_bytes 2 * length m
length-pairs [] h = omega arith
length-pairs (e ∷ es) h = simp length-append (omega (arith, length-pair_text e h.0, length-pairs es h.1))

-- so much are all texts, without their count
pub pairs_bound : (m : Map) → IsKv m → 2 + length (flat_map pair_text m) ≤ kv_bytes 2
pairs_bound m kv = omega (arith, length-pairs m kv.fit, kv.few)

pub length-kv_text : (m : Map) → IsKv m → length (kv_text m) ≤ kv_bytes 2
unfolding table_text
length-kv_text m kv = simp (length-append, length-bytes16) (omega (arith, pairs_bound m kv))

-- a machine is read back from its text
pub kv_decoded-kv_text : (m : Map) → IsKv m → kv_decoded (kv_text m) ≡ Ok m
kv_decoded-kv_text m kv = decoded-table_text byte_order pair_text Fits pair_from pair_reader 128 (omega arith) m kv.few kv.is_map kv.fit

-- two machines with one text are equal
pub kv_text-one : (m n : Map) → IsKv m → IsKv n → kv_text m ≡ kv_text n → m ≡ n
kv_text-one m n kv kv' same =
    table_text-one byte_order pair_text Fits pair_from pair_reader m n (omega (arith, kv.few)) (omega (arith, kv'.few)) kv.is_map kv'.is_map kv.fit kv'.fit same

-- what was read is a machine, and the bytes are its text
pub kv_found : (bytes : List ℕ) → IsBytes bytes → (m : Map) → kv_decoded bytes ≡ Ok m → IsKv m × (kv_text m ≡ bytes)
kv_found bytes are m is =
    let found = decoded_found byte_order pair_text Fits pair_from pair_reader 128 bytes are m is in
    (record { is_map = found.ascending; fit = found.fitting; few = found.no_more }, sym found.spelled)

-- the fault that was met is the first
pub kv_fault : (bytes : List ℕ) → IsBytes bytes → (fault : StateFault) → IsOrNoMemory (kv_decoded bytes) fault → IsFirstFault byte_order pair_text Fits 128 bytes fault
kv_fault bytes are fault is = decoded_first byte_order pair_text Fits pair_from pair_reader 128 bytes are fault is

-- the pairs that are left to write, one step on and at the end
pub pairs_text_more : (m : Map) (i : ℕ) (d : List ℕ × List ℕ) → i < length m → flat_map pair_text (drop i m) ≡ pair_text (get_or m i d) ++ flat_map pair_text (drop (i + 1) m)
pairs_text_more m i d within = at_drop_more (flat_map pair_text) m i d within

pub pairs_text_all : (m : Map) (i : ℕ) → length m ≤ i → flat_map pair_text (drop i m) ≡ []
pairs_text_all m i past = at_drop_all (flat_map pair_text) m i past

-- their bytes, one step on and at the end
pub pairs_length_more : (m : Map) (i : ℕ) (d : List ℕ × List ℕ) → i < length m → length (flat_map pair_text (drop i m)) ≡ length (pair_text (get_or m i d)) + length (flat_map pair_text (drop (i + 1) m))
pairs_length_more m i d within = ap length (pairs_text_more m i d within) ∙ length-append (pair_text (get_or m i d)) (flat_map pair_text (drop (i + 1) m))

pub pairs_length_all : (m : Map) (i : ℕ) → length m ≤ i → length (flat_map pair_text (drop i m)) ≡ 0
pairs_length_all m i past = ap length (pairs_text_all m i past)
