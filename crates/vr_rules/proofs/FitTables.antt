-- The tables of checkpoints name the blocks of their payloads by 16 bytes.
use Rattle.std.proofs.Common.{◌≡◌, ◌+◌, ◌-◌, refl, subst, ℕ, zero, suc, true, false, cond, List, [], ◌∷◌, ◌++◌, length, Option, Some, None, min}
use Rattle.std.specs.Prelude.{All, nat_eq, slice_get}
use Rattle.std.specs.Cmp.Lexicographic.{pointwise}
use Rattle.std.proofs.lemmas.List.Elements.{All-nil, All-cons, All-head, All-tail}
use Rattle.vr_base.proofs.FieldLaws.{length-name_of}
use Rattle.vr_disk.specs.DiskState.{Face}
use Rattle.vr_header.specs.Spelling.{named_bytes}
use Rattle.vr_state.specs.StateTexts.{payloads}
use Rattle.vr_state.specs.declared.texts.Texts.{Texts}
use Rattle.vr_ckpt.specs.declared.name.Name.{Name}
use Rattle.vr_ckpt.specs.Blocks.{block_header}
use Rattle.vr_ckpt.specs.Grid.{named_at}
use Rattle.vr_ckpt.specs.Loads.{data_at, gathered, load_by, load_of, loaded, read_root, root_at, with_data}
use Rattle.vr_ckpt.specs.Places.{first_place, other_place, place_of}
use Rattle.vr_ckpt.specs.Saves.{data_content, goes_to, keys_run, payload_at, payload_blocks, payloads_from, sessions_run, stays, table_of}
use Rattle.vr_ckpt.specs.declared.found.Load.TheVariants.{Loaded}
use Rattle.vr_ckpt.specs.declared.loading.Gathered.{Gathered}
use Rattle.vr_ckpt.specs.declared.plan.Run.{Run}
use Rattle.vr_ckpt.specs.declared.table.Payload.{Payload}
use Rattle.vr_ckpt.specs.declared.table.PayloadTable.{PayloadTable}
use Rattle.vr_rules.specs.Fit.{HasSum, IsBlockName, NamesBlocks}
use Rattle.vr_rules.proofs.FitLoads.{given, root_names}

-- ---- a table that is read

gathered_named : (f : Face) (size : ℕ) (names : List Name) → All IsBlockName names → All HasSum (gathered f size names).payloads
unfolding gathered
gathered_named f size [] h = All-nil HasSum
gathered_named f size (name ∷ names) h =
    let rest = gathered_named f (size - 3968) names (All-tail IsBlockName name names h) in
    let more = gathered f (size - 3968) names in
    elim (data_at f name (min size 3968)) as (λ o. All HasSum (with_data name o more).payloads) [
      | None ↦ rest
      | Some bytes ↦ All-cons HasSum (record { name = name; bytes = bytes }) more.payloads (All-head IsBlockName name names h).sum rest
    ]

load_named : (s k : Gathered) (ns : List Name) (texts : Texts) (t : PayloadTable) → All HasSum s.payloads → All HasSum k.payloads → load_of s k ns ≡ Loaded texts t → NamesBlocks t
load_named s k (n ∷ ns) texts t a b e = absurd cc
load_named s k [] texts t a b e =
    let x : PayloadTable = record { sessions = s.payloads; keys = k.payloads } in
    let same : x ≡ t = cc in
    subst NamesBlocks same (record { sessions = a; keys = b })

pub loaded_tables : (f : Face) (root : Name) (texts : Texts) (t : PayloadTable) → loaded f root ≡ Loaded texts t → NamesBlocks t
unfolding loaded root_at
loaded_tables f root texts t e =
    elim (root_at f root) as (λ o. root_at f root ≡ o → load_by f root o ≡ Loaded texts t → NamesBlocks t) [
      | None ↦ λ i q. absurd cc
      | Some r ↦ λ i q.
          let at = given read_root (named_at f root) r i in
          let n = root_names at.0 r at.2 in
          let a = gathered f r.sessions_size r.sessions in
          let b = gathered f r.keys_size r.keys in
          load_named a b (a.missing ++ b.missing) texts t (gathered_named f r.sessions_size r.sessions n.sessions) (gathered_named f r.keys_size r.keys n.keys) q
    ] refl e

-- ---- a table that is saved

at_index : (ps : List Payload) (i : ℕ) (p : Payload) → All HasSum ps → slice_get ps i ≡ Some p → HasSum p
at_index [] i p h e = absurd cc
at_index (q ∷ ps) zero p h e = let same : q ≡ p = cc in subst HasSum same (All-head HasSum q ps h)
at_index (q ∷ ps) (suc i) p h e = at_index ps i p (All-tail HasSum q ps h) e

goes_named : (r : Run) (address : ℕ) (bytes : List ℕ) → HasSum (goes_to r address bytes).payload
unfolding goes_to
goes_named r address bytes = length-name_of (named_bytes (block_header (data_content r address bytes)))

part_named : (r : Run) (i : ℕ) (bytes : List ℕ) (o : Option Payload) → ((p : Payload) → o ≡ Some p → HasSum p) → HasSum (payload_blocks r i bytes o).payload
unfolding payload_blocks
part_named r i bytes None h = goes_named r (first_place r.op (place_of r.places i)) bytes
part_named r i bytes (Some p) h =
    elim (pointwise nat_eq p.bytes bytes) as (λ t. HasSum (cond t (stays p) (goes_to r (other_place (place_of r.places i) p.name.address) bytes)).payload) [
      | true ↦ h p refl
      | false ↦ goes_named r (other_place (place_of r.places i) p.name.address) bytes
    ]

parts_named : (n i : ℕ) (r : Run) (text : List ℕ) (old : List Payload) → All HasSum old → All HasSum (payloads_from r text old i n)
unfolding payloads_from
parts_named zero i r text old h = All-nil HasSum
parts_named (suc n) i r text old h =
    All-cons HasSum _ (payloads_from r text old (i + 1) n) (part_named r i (payload_at text i) (slice_get old i) (λ p e. at_index old i p h e)) (parts_named n (i + 1) r text old h)

pub saved_tables : (cluster : ℕ) (texts : Texts) (op : ℕ) (old : PayloadTable) → NamesBlocks old → NamesBlocks (table_of cluster texts op old)
unfolding table_of
saved_tables cluster texts op old h = record {
  sessions = parts_named (payloads (length texts.sessions)) 0 (sessions_run cluster op) texts.sessions old.sessions h.sessions;
  keys = parts_named (payloads (length texts.keys)) 0 (keys_run cluster op) texts.keys old.keys h.keys;
}
