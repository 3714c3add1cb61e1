-- What is read of two disks that read alike is the same.
use Rattle.std.proofs.Common.{ℕ, ◌*◌, ◌-◌, ◌<◌, ◌≤◌, ◌≡◌, ◌⊎◌, ◌∙◌, inl, inr, arith, refl, sym, ap, false, List, [], ◌∷◌, Option, Some, None}
use Rattle.std.specs.Prelude.{is_some, min}
use Rattle.std.specs.Option.{option_and_then, option_map, option_map_or}
use Rattle.std.proofs.lemmas.Bool.{lt-ltb, le-ltb, cases_lt, or_parts}
use Rattle.std.proofs.lemmas.List.{append-nil}
use Rattle.vr_base.specs.Bytes.{is_zeros}
use Rattle.vr_disk.specs.DiskState.{Face, reads}
use Rattle.vr_disk.specs.Regions.{block_place, header_place, prepare_place, prepare_sectors}
use Rattle.vr_disk.specs.Sectors.{behind, together}
use Rattle.vr_disk.proofs.Together.{together_same}
use Rattle.vr_super.specs.Copies.{value_of}
use Rattle.vr_super.specs.Opens.{copy_reading, good_copy, if_good, opens}
use Rattle.vr_rings.specs.Slots.{header_in, header_of, is_blank, padded, whole_in, whole_of}
use Rattle.vr_rings.specs.Moving.{is_movable}
use Rattle.vr_ckpt.specs.Blocks.{Content, content_of, if_named, named}
use Rattle.vr_ckpt.specs.Grid.{block_reading, named_at}
use Rattle.vr_ckpt.specs.Places.{grid_size}
use Rattle.vr_ckpt.specs.Loads.{data_at, data_of, gathered, load_by, loaded, read_root, root_at}
use Rattle.vr_ckpt.specs.declared.name.Name.{Name}
use Rattle.vr_ckpt.specs.declared.root.Root.{Root}
use Rattle.vr_rules.specs.Sectors.{block_in, of_version}
use Rattle.law_damage.specs.Alike.{Region, Copy, Header, Prepare, Block, IsRegion, ReadAlike, VerifiesOnNeither, count, place, verifies}
use Rattle.law_damage.specs.Laws.{Sees}

none_of : {X : Type 0} (o : Option X) → is_some o ≡ false → o ≡ None
none_of None e = refl
none_of (Some x) e = absurd cc

module _ (v : ℕ) (f g : Face) (a : ReadAlike v f g) where
  -- a region reads the same, or it verifies on neither disk
  both : (r : Region) → IsRegion r → (together (place v r) (count v r) g ≡ together (place v r) (count v r) f) ⊎ VerifiesOnNeither v f g r
  both r i = elim (a.each r i) [ inl s ↦ inl (together_same (count v r) (place v r) f g (λ k x y. s k (x, y))) | inr n ↦ inr n ]

  -- ---- the superblock

  bad_copy : (o : Option (List ℕ)) → option_map_or (λ b. is_some (value_of b)) o false ≡ false → if_good o ≡ None
  bad_copy None e = refl
  bad_copy (Some b) e = rw e refl

  copy_same : (c : ℕ) → c < 4 → good_copy g c ≡ good_copy f c
  unfolding good_copy copy_reading
  copy_same c l = elim (both (Copy c) l) [ inl s ↦ ap if_good s | inr n ↦ bad_copy (together (20 * c) 20 g) n.second ∙ sym (bad_copy (together (20 * c) 20 f) n.first) ]

  pub opens_same : opens g ≡ opens f
  unfolding opens
  opens_same = rw (copy_same 0 (omega arith), copy_same 1 (omega arith), copy_same 2 (omega arith), copy_same 3 (omega arith)) refl

  -- ---- the slots

  alone : (x : Face) (i : ℕ) → together i 1 x ≡ reads x i
  unfolding together
  alone x i = elim (reads x i) as (λ o. behind o (Some []) ≡ o) [ None ↦ refl | Some b ↦ ap Some (append-nil b) ]

  bad_header : (o : Option (List ℕ)) → option_map_or (λ b. is_some (header_of b)) o false ≡ false → option_and_then header_of o ≡ None
  bad_header None e = refl
  bad_header (Some b) e = none_of (header_of b) e

  pub header_same : (slot : ℕ) → slot < 64 → header_in g slot ≡ header_in f slot
  unfolding header_in
  header_same slot l =
      let p = alone f (header_place slot) in
      let q = alone g (header_place slot) in
      elim (both (Header slot) l) [
        | inl s ↦ ap (option_and_then header_of) (sym q ∙ (s ∙ p))
        | inr n ↦ (ap (option_and_then header_of) (sym q) ∙ bad_header (together (header_place slot) 1 g) n.second) ∙ (sym (bad_header (together (header_place slot) 1 f) n.first) ∙ ap (option_and_then header_of) p)
      ]

  bad_whole : (o : Option (List ℕ)) → option_map_or (λ b. is_movable (padded v b)) o false ≡ false → option_and_then whole_of (option_map (padded v) o) ≡ None
  bad_whole None e = refl
  bad_whole (Some b) e = none_of (whole_of (padded v b)) (or_parts (is_some (whole_of (padded v b))) (is_zeros (padded v b)) e).0

  pub entry_same : (slot : ℕ) → slot < 64 → whole_in v g slot ≡ whole_in v f slot
  unfolding whole_in
  entry_same slot l =
      elim (both (Prepare slot) l) [
        | inl s ↦ ap (λ o. option_and_then whole_of (option_map (padded v) o)) s
        | inr n ↦ bad_whole (together (prepare_place v slot) (prepare_sectors v) g) n.second ∙ sym (bad_whole (together (prepare_place v slot) (prepare_sectors v) f) n.first)
      ]

  bad_blank : (o : Option (List ℕ)) → option_map_or (λ b. is_movable (padded v b)) o false ≡ false → option_map_or is_zeros (option_map (padded v) o) false ≡ false
  bad_blank None e = refl
  bad_blank (Some b) e = (or_parts (is_some (whole_of (padded v b))) (is_zeros (padded v b)) e).1

  pub blank_same : (slot : ℕ) → slot < 64 → is_blank v g slot ≡ is_blank v f slot
  blank_same slot l =
      elim (both (Prepare slot) l) [
        | inl s ↦ ap (λ o. option_map_or is_zeros (option_map (padded v) o) false) s
        | inr n ↦ bad_blank (together (prepare_place v slot) (prepare_sectors v) g) n.second ∙ sym (bad_blank (together (prepare_place v slot) (prepare_sectors v) f) n.first)
      ]

  -- ---- the grid

  unnamed : (name : Name) (o : Option Content) → is_some o ≡ false → if_named name o ≡ None
  unnamed name None e = refl
  unnamed name (Some c) e = absurd cc

  bad_block : (name : Name) (o : Option (List ℕ)) → option_map_or (λ b. is_some (content_of b)) o false ≡ false → option_and_then (named name) o ≡ None
  unfolding named
  bad_block name None e = refl
  bad_block name (Some b) e = unnamed name (content_of b) e

  block_none : (x : Face) (name : Name) → named_at x name ≡ None → block_in x name ≡ None
  block_none x name e = rw e refl

  beyond : (x : Face) (name : Name) → grid_size ≤ name.address → named_at x name ≡ None
  unfolding named_at
  beyond x name high = rw (le-ltb name.address grid_size high) refl

  bad_at : (x : Face) (name : Name) → verifies v x (Block name.address) ≡ false → named_at x name ≡ None
  unfolding named_at block_reading
  bad_at x name e =
      elim (cases_lt name.address grid_size) [
        | inr high ↦ rw (le-ltb name.address grid_size high) refl
        | inl low ↦ rw (lt-ltb name.address grid_size low) (bad_block name (together (block_place name.address) 8 x) e)
      ]

  named_by : (name : Name) → together (block_place name.address) 8 g ≡ together (block_place name.address) 8 f → named_at g name ≡ named_at f name
  unfolding named_at block_reading
  named_by name s = rw s refl

  pub named_same : (name : Name) → named_at g name ≡ named_at f name
  named_same name =
      elim (cases_lt name.address grid_size) [
        | inr high ↦ beyond g name high ∙ sym (beyond f name high)
        | inl low ↦
            elim (both (Block name.address) low) [
              | inl s ↦ named_by name s
              | inr n ↦ bad_at g name n.second ∙ sym (bad_at f name n.first)
            ]
      ]

  block_by : (name : Name) → named_at g name ≡ named_at f name → together (block_place name.address) 8 g ≡ together (block_place name.address) 8 f → block_in g name ≡ block_in f name
  unfolding block_reading
  block_by name e s = rw (e, s) refl

  pub block_same : (name : Name) → block_in g name ≡ block_in f name
  block_same name =
      elim (cases_lt name.address grid_size) [
        | inr high ↦ block_none g name (beyond g name high) ∙ sym (block_none f name (beyond f name high))
        | inl low ↦
            elim (both (Block name.address) low) [
              | inl s ↦ block_by name (named_same name) s
              | inr n ↦ block_none g name (bad_at g name n.second) ∙ sym (block_none f name (bad_at f name n.first))
            ]
      ]

  root_same : (name : Name) → root_at g name ≡ root_at f name
  unfolding root_at
  root_same name = ap (option_and_then read_root) (named_same name)

  data_same : (name : Name) (size : ℕ) → data_at g name size ≡ data_at f name size
  unfolding data_at
  data_same name size = ap (option_and_then (data_of size)) (named_same name)

  gathered_same : (size : ℕ) (names : List Name) → gathered g size names ≡ gathered f size names
  unfolding gathered
  gathered_same size [] = refl
  gathered_same size (name ∷ names) = rw (data_same name (min size 3968), gathered_same (size - 3968) names) refl

  load_same : (name : Name) (o : Option Root) → load_by g name o ≡ load_by f name o
  load_same name None = refl
  load_same name (Some r) = rw (gathered_same r.sessions_size r.sessions, gathered_same r.keys_size r.keys) refl

  pub loaded_same : (name : Name) → loaded g name ≡ loaded f name
  unfolding loaded
  loaded_same name = ap (load_by g name) (root_same name) ∙ load_same name (root_at f name)

  pub sees : Sees v f g
  sees = record { opens = ap (option_and_then (of_version v)) opens_same; header = header_same; entry = entry_same; blank = blank_same; block = block_same; loaded = loaded_same }
