-- The calls of effects write sectors of 512 bytes.
use Rattle.std.proofs.Common.{ℕ, zero, suc, ◌+◌, ◌*◌, ◌-◌, ◌^◌, ◌≤◌, ◌<◌, ◌≡◌, arith, refl, sym, subst, true, false, cond, eqb, List, [], ◌∷◌, ◌++◌, length, drop, map}
use Rattle.std.specs.Prelude.{replicate}
use Rattle.std.specs.List.{AllByRecursion, range_with_len}
use Rattle.std.proofs.lemmas.List.{append_assoc, get_or-drop, length-drop, length-replicate}
use Rattle.vr_base.specs.Bytes.{IsBytes, name_of, piece}
use Rattle.vr_base.proofs.FieldLaws.{IsBytes-piece, length-piece, length-name_of}
use Rattle.vr_base.proofs.AreBytes.{AllBytes, IsBytes-append, IsBytes-bytes16, IsBytes-bytes32, IsBytes-bytes64, IsBytes-joined, IsBytes-name_of, IsBytes-none, IsBytes-one, IsBytes-zeros}
use Rattle.vr_disk.specs.DiskState.{Call, Write, Sync, Face, IsContent}
use Rattle.vr_disk.specs.Sectors.{has, writes}
use Rattle.vr_disk.specs.Stops.{IsCall}
use Rattle.vr_disk.specs.Regions.{header_place, prepare_place, prepare_sectors, sectors}
use Rattle.vr_disk.proofs.Places.{counted, inside}
use Rattle.vr_header.specs.declared.header.Header.{Header}
use Rattle.vr_header.specs.Made.{Whole, entry_bytes}
use Rattle.vr_header.specs.Spelling.{IsHeader, header_bytes}
use Rattle.vr_header.proofs.AreBytes.{entry_bytes-are, header_bytes-are}
use Rattle.vr_base.specs.declared.kind.Kind.{Kind}
use Rattle.vr_base.specs.declared.mode.Mode.{Mode}
use Rattle.vr_base.specs.declared.mode.Mode.TheVariants.{Strict, Careful}
use Rattle.vr_super.specs.Copies.{IsFields, IsGood, SuperValue, copy_bytes, field_bytes, front_bytes, list_bytes, named_bytes, zeros, mode_byte}
use Rattle.vr_super.specs.Opens.{copy_reading}
use Rattle.vr_super.specs.Calls.{copy_calls, mend_calls, mend_copy, mend_from, mend_unless, save_from, write_calls}
use Rattle.vr_super.proofs.Format.{length-copy_bytes}
use Rattle.vr_rings.specs.Calls.{again_calls, header_calls, new_calls, prepare_calls}
use Rattle.vr_rings.specs.Slots.{IsWhole, prepare_bytes, sector_of, slot_of}
use Rattle.vr_rings.proofs.Spelling.{length-prepare, length-sector}
use Rattle.vr_rules.specs.Opening.{first_value}
use Rattle.vr_rules.specs.Formatting.{format_calls, reserved_header, reserved_headers, zero_prepares, zero_sector}

abbrev pub AreCalls : List Call → Type 0
AreCalls cs = AllByRecursion IsCall cs

pub calls_append : (cs ds : List Call) → AreCalls cs → AreCalls ds → AreCalls (cs ++ ds)
calls_append [] ds a b = b
calls_append (c ∷ cs) ds a b = (a.0, calls_append cs ds a.1 b)

bytes_drop : (n : ℕ) (b : List ℕ) → IsBytes b → IsBytes (drop n b)
bytes_drop n b are i = rw (get_or-drop n b i 0) (are (n + i))

-- as many sectors as there are bytes for
pub writes_are : (n i : ℕ) (b : List ℕ) → IsBytes b → 512 * n ≤ length b → i + n ≤ sectors → AreCalls (writes i n b)
unfolding writes
writes_are zero i b are size l = tt
writes_are (suc n) i b are size l =
    let first : IsContent (piece 0 512 b) = record { size = length-piece 0 512 b (omega (arith, size)); each = IsBytes-piece 0 512 b are } in
    let rest : 512 * n ≤ length (drop 512 b) = let d = length-drop 512 b in omega (arith, d, size) in
    ((omega (arith, l), first), writes_are n (i + 1) (drop 512 b) (bytes_drop 512 b are) rest (omega (arith, l)))

-- ---- slots

pub sector_content : (h : Header) → IsHeader h → IsContent (sector_of h)
unfolding sector_of
sector_content h is = record { size = length-sector h is; each = IsBytes-append (header_bytes h) (replicate 384 0) (header_bytes-are h is) (IsBytes-zeros 384) }

pub prepare_are : (e : Whole) → IsWhole e → IsBytes (prepare_bytes e)
unfolding prepare_bytes
prepare_are e w = IsBytes-append (entry_bytes e) (replicate (4096 - length (entry_bytes e)) 0) (entry_bytes-are e w.header w.entry.body.fits) (IsBytes-zeros (4096 - length (entry_bytes e)))

pub header_are : (h : Header) → IsHeader h → AreCalls (header_calls h)
unfolding header_calls
header_are h is = ((omega arith, sector_content h is), (tt, tt))

prepares_are : (ver : ℕ) (e : Whole) → IsWhole e → AreCalls (prepare_calls ver e)
unfolding prepare_calls
prepares_are ver e w =
    let at = prepare_place ver (slot_of e.header) in
    let n = prepare_sectors ver in
    let size = length-prepare e w in
    let few = (counted ver).1 in
    calls_append (writes at n (prepare_bytes e)) (Sync ∷ []) (writes_are n at (prepare_bytes e) (prepare_are e w) (omega (arith, size, few)) (inside ver (slot_of e.header) (omega arith))) (tt, tt)

pub new_are : (ver : ℕ) (e : Whole) → IsWhole e → AreCalls (new_calls ver e)
new_are ver e w = calls_append (prepare_calls ver e) (header_calls e.header) (prepares_are ver e w) (header_are e.header w.header)

pub again_are : (ver : ℕ) (e : Whole) → IsWhole e → AreCalls (again_calls ver e)
again_are ver e w = calls_append (header_calls e.header) (prepare_calls ver e) (header_are e.header w.header) (prepares_are ver e w)

-- ---- the superblock

list_are : (hs : List Header) → AllByRecursion IsHeader hs → IsBytes (list_bytes hs)
unfolding list_bytes
list_are [] a = IsBytes-none
list_are (h ∷ hs) a = IsBytes-append (header_bytes h) (list_bytes hs) (header_bytes-are h a.0) (list_are hs a.1)

one : (x : ℕ) → x < 256 → IsBytes (x ∷ [])
one x small = IsBytes-one x [] small IsBytes-none

zeros_are : (n : ℕ) → IsBytes (zeros n)
unfolding zeros
zeros_are n = IsBytes-zeros n

mode_is : (m : Mode) → IsBytes (mode_byte m ∷ [])
mode_is Strict = one 0 (omega arith)
mode_is Careful = one 1 (omega arith)

front_are : (v : SuperValue) → IsFields v.fields → IsBytes (front_bytes v.fields (length v.headers))
unfolding front_bytes
front_are v f =
    let x = v.fields in
    let all : AllBytes (field_bytes x (length v.headers)) = (
      IsBytes-bytes64 x.sequence,
      (IsBytes-bytes64 x.cluster, (IsBytes-bytes32 x.view, (IsBytes-bytes32 x.log_view, (IsBytes-bytes64 x.checkpoint, (IsBytes-bytes64 x.root_address, (f.root_name_bytes, (IsBytes-bytes64 x.commit, (IsBytes-bytes64 x.head, (IsBytes-bytes16 (length v.headers), (one x.replica f.replica, (one x.n f.n, (one x.version (let few = f.version.1 in omega (arith, few)), (mode_is x.mode, (zeros_are 34, tt)))))))))))))),
    ) in
    IsBytes-joined (field_bytes x (length v.headers)) all

pub copy_are : (v : SuperValue) → IsGood v → IsBytes (copy_bytes v)
unfolding copy_bytes named_bytes
copy_are v g =
    let front = front_bytes v.fields (length v.headers) in
    let rest = zeros (10112 - 128 * length v.headers) in
    IsBytes-append (name_of (named_bytes v)) (named_bytes v) (IsBytes-name_of (named_bytes v))
    (IsBytes-append front (list_bytes v.headers ++ rest) (front_are v g.numbers) (IsBytes-append (list_bytes v.headers) rest (list_are v.headers g.each) (zeros_are (10112 - 128 * length v.headers))))

copy_call : (copy : ℕ) (b : List ℕ) → copy < 4 → IsBytes b → length b ≡ 10240 → AreCalls (copy_calls copy b)
unfolding copy_calls
copy_call copy b l are size = calls_append (writes (20 * copy) 20 b) (Sync ∷ []) (writes_are 20 (20 * copy) b are (omega (arith, size)) (omega (arith, l))) (tt, tt)

mend_call : (copy : ℕ) (b : List ℕ) → copy < 4 → IsBytes b → length b ≡ 10240 → AreCalls (mend_copy copy b)
unfolding mend_copy
mend_call copy b l are size =
    let first : IsContent (piece 0 512 b) = record { size = length-piece 0 512 b (omega (arith, size)); each = IsBytes-piece 0 512 b are } in
    let d = length-drop 512 b in
    let rest = calls_append (writes (20 * copy + 1) 19 (drop 512 b)) (Sync ∷ []) (writes_are 19 (20 * copy + 1) (drop 512 b) (bytes_drop 512 b are) (omega (arith, d, size)) (omega (arith, l))) (tt, tt) in
    ((omega (arith, l), first), (tt, rest))

mends_are : (n k : ℕ) (b : List ℕ) (f : Face) → k + n ≤ 4 → IsBytes b → length b ≡ 10240 → AreCalls (mend_from k n b f)
unfolding mend_from
mends_are zero k b f l are size = tt
mends_are (suc n) k b f l are size =
    let first : AreCalls (mend_unless k b f) = elim (has b (copy_reading f k)) as (λ t. AreCalls (cond t [] (mend_copy k b))) [ true ↦ tt | false ↦ mend_call k b (omega (arith, l)) are size ] in
    calls_append (mend_unless k b f) (mend_from (k + 1) n b f) first (mends_are n (k + 1) b f (omega (arith, l)) are size)

saves_are : (n k : ℕ) (b : List ℕ) → k + n ≤ 4 → IsBytes b → length b ≡ 10240 → AreCalls (save_from k n b)
unfolding save_from
saves_are zero k b l are size = tt
saves_are (suc n) k b l are size = calls_append (copy_calls k b) (save_from (k + 1) n b) (copy_call k b (omega (arith, l)) are size) (saves_are n (k + 1) b (omega (arith, l)) are size)

pub mend_are : (v : SuperValue) (f : Face) → IsGood v → AreCalls (mend_calls v f)
mend_are v f g = mends_are 4 0 (copy_bytes v) f (omega arith) (copy_are v g) (length-copy_bytes v g)

pub save_are : (old new : SuperValue) (f : Face) → IsGood old → IsGood new → AreCalls (write_calls old new f)
save_are old new f g h = calls_append (mend_calls old f) (save_from 0 4 (copy_bytes new)) (mend_are old f g) (saves_are 4 0 (copy_bytes new) (omega arith) (copy_are new h) (length-copy_bytes new h))

-- ---- formatting

pub zero_content : IsContent zero_sector
zero_content = record { size = length-replicate {A = ℕ} 512 0; each = IsBytes-zeros 512 }

zeros_written : (n i : ℕ) → i + n ≤ sectors → AreCalls (map (λ k. Write k zero_sector) (range_with_len i n))
zeros_written zero i l = tt
zeros_written (suc n) i l = ((omega (arith, l), zero_content), zeros_written n (i + 1) (omega (arith, l)))

pub reserved_is : (ver home slot : ℕ) → (1 ≤ ver) × (ver ≤ 2) → home < 2 ^ 64 → slot < 64 → IsHeader (reserved_header ver home slot)
reserved_is ver home slot is room l = record {
  body = length-name_of [];
  body_bytes = IsBytes-name_of [];
  parent = refl;
  parent_bytes = IsBytes-zeros 16;
  request_name = refl;
  request_name_bytes = IsBytes-zeros 16;
  cluster = room;
  client = omega arith;
  request = omega arith;
  view = omega arith;
  op = omega (arith, l);
  commit = omega arith;
  size = omega arith;
  replica = omega arith;
  version = is;
  kind = omega arith;
  aux = omega arith;
}

reserved_written : (ver home n i : ℕ) → (1 ≤ ver) × (ver ≤ 2) → home < 2 ^ 64 → i + n ≤ 64 → AreCalls (map (λ slot. Write (header_place slot) (sector_of (reserved_header ver home slot))) (range_with_len i n))
reserved_written ver home zero i is room l = tt
reserved_written ver home (suc n) i is room l =
    ((omega (arith, l), sector_content (reserved_header ver home i) (reserved_is ver home i is room (omega (arith, l)))), reserved_written ver home n (i + 1) is room (omega (arith, l)))

-- the prepares of all slots, one after the other
pub prepares_fit : (ver : ℕ) → prepare_place ver 0 + 64 * prepare_sectors ver ≤ sectors
prepares_fit ver = elim (eqb ver 2) as (λ t. cond t 1424 144 + 64 * cond t 8 4 ≤ sectors) [ true ↦ omega arith | false ↦ omega arith ]

-- the calls of a formatting, one part after the other
pub format_is : (kind : Kind) (home n i : ℕ)
    → format_calls kind home n i ≡ zero_prepares kind.version ++ (reserved_headers kind.version home ++ Sync ∷ save_from 0 4 (copy_bytes (first_value kind home n i)))
unfolding format_calls
format_is kind home n i = append_assoc (zero_prepares kind.version) (reserved_headers kind.version home) (Sync ∷ save_from 0 4 (copy_bytes (first_value kind home n i)))

pub format_are : (kind : Kind) (home n i : ℕ) → home < 2 ^ 64 → IsGood (first_value kind home n i) → AreCalls (format_calls kind home n i)
format_are kind home n i room g =
    let v = first_value kind home n i in
    let ver = kind.version in
    let last : List Call = Sync ∷ save_from 0 4 (copy_bytes v) in
    subst AreCalls (sym (format_is kind home n i))
    (calls_append (zero_prepares ver) (reserved_headers ver home ++ last) (zeros_written (64 * prepare_sectors ver) (prepare_place ver 0) (prepares_fit ver))
    (calls_append (reserved_headers ver home) last (reserved_written ver home 64 0 g.numbers.version room (omega arith)) (tt, saves_are 4 0 (copy_bytes v) (omega arith) (copy_are v g) (length-copy_bytes v g))))
