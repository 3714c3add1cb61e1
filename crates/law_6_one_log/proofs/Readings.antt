-- What reads on a sealed disk as a header, as an entry or as a block.
use Rattle.std.proofs.Common.{ℕ, suc, ◌+◌, ◌-◌, ◌*◌, ◌≤◌, ◌<◌, ◌≡◌, ◌&&◌, inl, inr, arith, refl, sym, ap, ◌∙◌, subst, true, false, cond, List, [], ◌∷◌, ◌++◌, take, replicate, Option, Some, None, append_assoc}
use Rattle.std.specs.Prelude.{Contains, is_some, nat_le, nat_lt, ◌%◌, ◌==◌}
use Rattle.std.specs.Option.{option_and_then}
use Rattle.std.proofs.lemmas.Bool.{and_parts, eqb-true, ltb-true}
use Rattle.std.proofs.lemmas.List.{take-append-le}
use Rattle.vr_base.specs.Bytes.{IsBytes}
use Rattle.vr_disk.specs.DiskState.{Face, IsFace}
use Rattle.vr_disk.specs.Regions.{block_place, header_place, prepare_place, prepare_sectors}
use Rattle.vr_disk.specs.Sectors.{together}
use Rattle.vr_disk.proofs.Places.{counted, inside}
use Rattle.vr_disk.proofs.Together.{together_first}
use Rattle.vr_header.specs.declared.header.Header.{Header}
use Rattle.vr_header.specs.Made.{Whole, is_entry_header}
use Rattle.vr_header.specs.Spelling.{IsHeader, Spells}
use Rattle.vr_header.proofs.EntryLaws.{is_entry_header_of}
use Rattle.vr_header.proofs.HeaderLaws.{decoded_again}
use Rattle.vr_super.specs.Copies.{SuperValue}
use Rattle.vr_rings.specs.Slots.{header_in, padded, prepare_bytes, sector_of, whole_in}
use Rattle.vr_rings.proofs.Spelling.{prepare_spells, sector_spells}
use Rattle.vr_ckpt.specs.Blocks.{named}
use Rattle.vr_ckpt.specs.Places.{grid_size}
use Rattle.vr_ckpt.specs.Grid.{block_reading, named_at}
use Rattle.vr_ckpt.specs.declared.name.Name.{Name}
use Rattle.vr_ckpt.proofs.Placing.{block_inside}
use Rattle.vr_rules.specs.Opening.{is_right, may_be}
use Rattle.vr_rules.specs.Sectors.{block_in}
use Rattle.law_1_machine.specs.Basics.{In}
use Rattle.law_4_disks.specs.Beside.{AreMade}
use Rattle.law_4_disks.proofs.Found.{read_header, read_whole}
use Rattle.law_4_disks.proofs.Loading.{block_are}
use Rattle.law_5_seals.specs.Seals.{HasSectors, IsSealed, spelled_from}
use Rattle.law_5_seals.proofs.Contents.{has_at}
use Rattle.law_5_seals.proofs.Moving.{padded_parts, together_sealed}
use Rattle.law_6_one_log.specs.Bridged.{IsSealedBlock}

pub contains_of : (made : List Header) (h : Header) → In h made → Contains made h
contains_of [] h i = absurd i
contains_of (y ∷ ys) h (inl e) = (0, omega arith, sym e)
contains_of (y ∷ ys) h (inr i) = let c = contains_of ys h i in let l = c.1 in (suc c.0, omega (arith, l), c.2)

module _ {home : ℕ} (made : List Header) (f : Face) (s : HasSectors (IsSealed home made) f) where
  -- ---- a block

  reading_sealed : (address : ℕ) (b : List ℕ) → address < grid_size → IsBytes b → block_reading f address ≡ Some b → IsSealedBlock home made b
  unfolding block_reading
  reading_sealed address b l are e = record { bytes = are; sectors = together_sealed home made f s 8 (block_place address) b (block_inside address l) e }

  pub block_sealed : (name : Name) (b : List ℕ) → IsFace f → block_in f name ≡ Some b → IsSealedBlock home made b
  unfolding named_at
  block_sealed name b face e =
      elim (nat_lt name.address grid_size) as (λ t. nat_lt name.address grid_size ≡ t → cond (is_some (cond t (option_and_then (named name) (block_reading f name.address)) None)) (block_reading f name.address) None ≡ Some b → IsSealedBlock home made b) [
        | false ↦ λ t q. absurd cc
        | true ↦ λ t q. elim (is_some (option_and_then (named name) (block_reading f name.address))) as (λ s. cond s (block_reading f name.address) None ≡ Some b → IsSealedBlock home made b) [
          | false ↦ λ p. absurd cc
          | true ↦ λ p. reading_sealed name.address b (ltb-true name.address grid_size t) (block_are f name b face e) p
        ] q
      ] refl e

  -- ---- a header, and an entry

  spelled_made : (b : List ℕ) (h : Header) → IsSealed home made b → IsHeader h → Spells h b → is_entry_header h ≡ true → h.op < spelled_from h.cluster → h.cluster ≡ home → In h made
  spelled_made b h x i spells entry low own = x.front h (record { reads = decoded_again h b i spells; entry = entry; low = low }) own

  pub header_made : (slot : ℕ) (h : Header) → IsFace f → slot < 64 → header_in f slot ≡ Some h → is_entry_header h ≡ true → h.op < spelled_from h.cluster → h.cluster ≡ home → In h made
  header_made slot h face l e entry low own =
      let r = read_header f slot h face l e in
      spelled_made (sector_of h) h ((has_at (IsSealed home made) f (header_place slot) s (omega (arith, l))).reads (sector_of h) r.reads) r.header (sector_spells h r.header) entry low own

  pub entry_made : (ver slot : ℕ) (e : Whole) → IsFace f → slot < 64 → whole_in ver f slot ≡ Some e → e.header.op < spelled_from e.header.cluster → e.header.cluster ≡ home → In e.header made
  entry_made ver slot e face l w low own =
      let few = counted ver in
      let within = inside ver slot l in
      let n = prepare_sectors ver in
      let behind : List ℕ = replicate (4096 - 512 * n) 0 in
      let r = read_whole ver f slot e face l w in
      let p = padded_parts ver (together (prepare_place ver slot) n f) (prepare_bytes e) r.reads in
      let some : n ≡ suc (n - 1) = omega (arith, few.0) in
      let x = together_first (n - 1) (prepare_place ver slot) f p.0 (ap (λ (k : ℕ). together (prepare_place ver slot) k f) (sym some) ∙ p.1) in
      let one = (has_at (IsSealed home made) f (prepare_place ver slot) s (omega (arith, within, few.0))).reads x.first x.reads in
      let size = one.content.size in
      let rest : List ℕ = x.rest ++ behind in
      let whole : prepare_bytes e ≡ x.first ++ rest = p.2 ∙ (ap (padded ver) x.whole ∙ append_assoc x.first x.rest behind) in
      let spells : Spells e.header x.first = sym (take-append-le 128 x.first rest (omega (arith, size))) ∙ (ap (take 128) (sym whole) ∙ prepare_spells e r.whole.header) in
      spelled_made x.first e.header one r.whole.header spells (is_entry_header_of e.header r.whole.entry.header) low own

  -- ---- so nothing is forged

  record FitsIn (v : SuperValue) (k : ℕ) (h : Header) : Type 0 where
    entry : is_entry_header h ≡ true
    group : h.cluster ≡ v.fields.cluster
    op : h.op ≡ k

  fits_parts : (v : SuperValue) (k : ℕ) (h : Header) → may_be v k h ≡ true → FitsIn v k h
  fits_parts v k h e =
      let a = and_parts (is_entry_header h) (nat_le h.version v.fields.version && ((h.cluster == v.fields.cluster) && ((h.op == k) && is_right v k h))) e in
      let d = and_parts (nat_le h.version v.fields.version) ((h.cluster == v.fields.cluster) && ((h.op == k) && is_right v k h)) a.1 in
      let b = and_parts (h.cluster == v.fields.cluster) ((h.op == k) && is_right v k h) d.1 in
      let c = and_parts (h.op == k) (is_right v k h) b.1 in
      record { entry = a.0; group = eqb-true h.cluster v.fields.cluster b.0; op = eqb-true h.op k c.0 }

  low_in : (v : SuperValue) (k : ℕ) (h : Header) → FitsIn v k h → k ≤ v.fields.checkpoint + 64 → v.fields.checkpoint + 64 < spelled_from v.fields.cluster → h.op < spelled_from h.cluster
  low_in v k h p b low = let op = p.op in subst (λ (n : ℕ). h.op < spelled_from n) (sym p.group) (omega (arith, op, b, low))

  -- where an opening looks for it, below the ops that sessions could spell
  pub found_made : (v : SuperValue) (held : List (Option (List ℕ))) (ver : ℕ) → IsFace f → v.fields.cluster ≡ home → v.fields.checkpoint + 64 < spelled_from v.fields.cluster → AreMade made v (record { face = f; held = held; version = ver })
  found_made v held ver face own low = record {
    header = λ k h a b e fits. (let p = fits_parts v k h fits in contains_of made h (header_made (k % 64) h face (omega arith) e p.entry (low_in v k h p b low) (p.group ∙ own)));
    entry = λ k x a b e fits. (let p = fits_parts v k x.header fits in contains_of made x.header (entry_made ver (k % 64) x face (omega arith) e (low_in v k x.header p b low) (p.group ∙ own)));
  }
