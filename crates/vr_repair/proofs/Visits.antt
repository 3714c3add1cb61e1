-- A place of the disk that is looked at.
use Rattle.vr_ckpt.specs.Places.{grid_size}
use Rattle.std.proofs.Common.{arith, ℕ, ◌-◌, ◌%◌, ◌≡◌, ◌≤◌, ◌<◌, ◌∙◌, refl, sym, ap, subst, cond, not, Bool, true, false, List, Option, Some, None, is_some, Result, Ok, Err}
use Rattle.std.specs.Prelude.{IfOk, IfSome, IsTrue, ◌↔◌, if◌then◌else◌, nat_lt, slice_get}
use Rattle.std.specs.Option.{option_and_then, option_map}
use Rattle.std.proofs.lemmas.Bool.{le-ltb, lt-ltb, ne_eqb, true≢false}
use Rattle.vr_disk.specs.DiskState.{Disk, Face, RunsFrom}
use Rattle.vr_header.specs.declared.header.Header.{Header}
use Rattle.vr_header.specs.declared.part.Part.{Part}
use Rattle.vr_header.specs.declared.part.Part.TheVariants.{Here, Lost, Wanted, Unknown, Nothing}
use Rattle.vr_header.specs.Made.{Whole}
use Rattle.vr_header.specs.Same.{same_header}
use Rattle.vr_header.proofs.SameHeaders.{same_header_is, same_header_of}
use Rattle.vr_msg.specs.declared.output.Output.{Output}
use Rattle.vr_rings.specs.Slots.{header_in, whole_in}
use Rattle.vr_rules.specs.Replica.{Replica, part_at, version}
use Rattle.vr_rules.specs.Sectors.{block_in, sectors_by}
use Rattle.vr_rules.specs.Steps.{Rewrite, Step, Word, ◌⨾◌, by, change, does, quiet, reading, when}
use Rattle.vr_rules.specs.Words.{blocks_of, entry_of, header_read, is_loaded, lost, mend_header, op_of_slot, or_lost, place_now, visit, visit_block, visit_place, visit_read, visit_slot, with_cursor, with_entry, with_entry_at, with_worn}
use Rattle.vr_disk.specs.declared.fault.Halt.{Halt}
use Rattle.vr_disk.specs.declared.fault.Halt.TheVariants.{DiskFault}
use Rattle.vr_rules.specs.Does.{Does, LeftBy, Performs}
use Rattle.vr_rules.proofs.Versions.{lost_stays}
use Rattle.vr_rules.proofs.Stepping.{does_by, does_change, does_effect, does_effect_stopped, does_quiet, does_stopped, does_then}
use Rattle.vr_ckpt.specs.Blocks.{named}
use Rattle.vr_ckpt.specs.Grid.{block_reading, named_at}
use Rattle.vr_ckpt.specs.declared.name.Name.{Name}
use Rattle.vr_rules.proofs.Keeping.{sound_alike}
use Rattle.vr_rules.proofs.SavesWell.{savable_alike}
use Rattle.vr_actions.specs.Effects.{rewrites}
use Rattle.vr_super.specs.Calls.{mend_calls}
use Rattle.vr_super.specs.Copies.{SuperValue}
use Rattle.vr_volatile.specs.Ready.{IsReady}
use Rattle.vr_repair.specs.Visits.{mends, found_at, good_or_mended, reads_as, stored_as}
use Rattle.vr_repair.specs.declared.found.Visit.{Visit}
use Rattle.vr_repair.specs.declared.found.Visit.TheVariants as seen

-- ---- the header sector

mends_by : (h : Header) (x : Option Header) (b : Bool) → b ≡ reads_as h x → mend_header {F = Face} h x ≡ when (not b) (does (λ r. Rewrite h))
mends_by h None b e = rw e refl
mends_by h (Some f) b e = rw e refl

told_is : (h : Header) (d : Option Disk) (y : Disk) (b : Bool) → IfSome d (λ (z : Disk). b ≡ reads_as h (header_in z.face (h.op % 64))) → d ≡ Some y → b ≡ reads_as h (header_in y.face (h.op % 64))
told_is h None y b v e = absurd cc
told_is h (Some z) y b v e = let same : z ≡ y = cc in v ∙ ap (λ (x : Disk). reads_as h (header_in x.face (h.op % 64))) same

by_reading : (h : Header) (b : Bool) (r q : Replica) (d d' d'' : Option Disk) (o o' : List Output) (result : Result (Unit {0}) Halt) → d' ≡ d → IfSome d (λ (y : Disk). b ≡ reads_as h (header_in y.face (h.op % 64)))
    → Does (when (not b) (does (λ r. Rewrite h))) r q d' d'' o o' result → Does (reading (header_read h.op) (mend_header h)) r q d d'' o o' result
unfolding reading
by_reading h b r q d d' d'' o o' result same v k = record {
  untold = λ e. k.untold (same ∙ e);
  told = λ y e. subst (λ (w : Word Face). LeftBy (version r) (w (sectors_by (version r)) r y.face) q y d'' o o' result) (sym (mends_by h (header_in y.face (h.op % 64)) b (told_is h d y b v e))) (k.told y (same ∙ e));
  same = k.same;
}

module _ (h : Header) (b : Bool) (r : Replica) (d d' : Option Disk) (same : d' ≡ d) (v : IfSome d (λ (y : Disk). b ≡ reads_as h (header_in y.face (h.op % 64)))) where
  pub header_good : (o : List Output) → b ≡ true → Does (reading (header_read h.op) (mend_header h)) r r d d' o o (Ok tt)
  header_good o t = by_reading h b r r d d' d' o o (Ok tt) same v (rw t (does_quiet r d' o))

  pub header_mended : (d'' : Option Disk) (o : List Output) → b ≡ false → Performs (rewrites h) r d' d'' true → Does (reading (header_read h.op) (mend_header h)) r r d d'' o o (Ok tt)
  unfolding rewrites
  header_mended d'' o t p = by_reading h b r r d d' d'' o o (Ok tt) same v (rw t (does_effect (λ x. Rewrite h) r d' d'' o p))

  pub header_stopped : (d'' : Option Disk) (o o' : List Output) → b ≡ false → Performs (rewrites h) r d' d'' false → Does (reading (header_read h.op) (mend_header h)) r r d d'' o o' (Err DiskFault)
  unfolding rewrites
  header_stopped d'' o o' t p = by_reading h b r r d d' d'' o o' (Err DiskFault) same v (rw t (does_effect_stopped (λ x. Rewrite h) r r d' d'' o o' p))

-- ---- the entry

abbrev slot_word : ℕ → Whole → Word Face
slot_word op e = reading (header_read op) (mend_header e.header)

-- the whole entry of the header that a slot reads as
found_entry : (h : Header) (x : Option Whole) → option_map (λ (e : Whole). e.header) x ≡ Some h → (e : Whole) × (x ≡ Some e) × (e.header ≡ h)
found_entry h None t = absurd cc
found_entry h (Some e) t = (e, refl, cc)

is_found : (ed : ℕ) (h : Header) (f : Face) (e : Whole) → whole_in ed f (h.op % 64) ≡ Some e → e.header ≡ h → entry_of h (sectors_by ed) f ≡ Some e
is_found ed h f e there same =
    ap (λ (o : Option Whole). option_and_then (λ x. cond (same_header x.header h) (Some x) None) o) there ∙ ap (λ (b : Bool). cond b (Some e) None) (same_header_of e.header h same)

not_found : (h : Header) (o : Option Whole) → (option_map (λ (e : Whole). e.header) o ≡ Some h → ⊥) → option_and_then (λ (x : Whole). cond (same_header x.header h) (Some x) None) o ≡ None
not_found h None n = refl
not_found h (Some e) n =
    elim (same_header e.header h) as (λ b. same_header e.header h ≡ b → cond b (Some e) None ≡ None) [
      | true ↦ λ t. absurd (n (ap Some (same_header_is e.header h t)))
      | false ↦ λ t. refl
    ] refl

read_is : (ed : ℕ) (h : Header) (e : Whole) (f : Face) (r : Replica) → part_at r h.op ≡ Here h → entry_of h (sectors_by ed) f ≡ Some e → e.header ≡ h → visit_slot h.op (sectors_by ed) r f ≡ reading (header_read h.op) (mend_header h) (sectors_by ed) r f
unfolding visit_slot with_entry_at by reading
read_is ed h e f r is there same =
    ap (λ (p : Part). with_entry (slot_word h.op) p (sectors_by ed) r f) is ∙ (ap (λ (o : Option Whole). or_lost h (slot_word h.op) o (sectors_by ed) r f) there
    ∙ ap (λ (x : Header). reading (header_read h.op) (mend_header x) (sectors_by ed) r f) same)

lost_is : (ed : ℕ) (h : Header) (f : Face) (r : Replica) → part_at r h.op ≡ Here h → entry_of h (sectors_by ed) f ≡ None → visit_slot h.op (sectors_by ed) r f ≡ change (lost h) (sectors_by ed) r f
unfolding visit_slot with_entry_at by reading
lost_is ed h f r is none = ap (λ (p : Part). with_entry (slot_word h.op) p (sectors_by ed) r f) is ∙ ap (λ (o : Option Whole). or_lost h (slot_word h.op) o (sectors_by ed) r f) none

abbrev Tells : ℕ → Header → Bool → Option Disk → Type 0
Tells ed h ok d = IfSome d (λ (y : Disk). IsTrue ok ↔ (option_map (λ (e : Whole). e.header) (whole_in ed y.face (h.op % 64)) ≡ Some h))

told_at : (ed : ℕ) (h : Header) (ok : Bool) (d : Option Disk) (y : Disk) → Tells ed h ok d → d ≡ Some y → IsTrue ok ↔ (option_map (λ (e : Whole). e.header) (whole_in ed y.face (h.op % 64)) ≡ Some h)
told_at ed h ok None y v e = absurd cc
told_at ed h ok (Some z) y v e = let same : z ≡ y = cc in subst (λ (x : Disk). IsTrue ok ↔ (option_map (λ (e : Whole). e.header) (whole_in ed x.face (h.op % 64)) ≡ Some h)) same v

module _ (h : Header) (ok : Bool) (r q : Replica) (d d' : Option Disk) (is : part_at r h.op ≡ Here h) (same : d' ≡ d) (v : Tells (version r) h ok d) where
  pub slot_read : (d'' : Option Disk) (o o' : List Output) (result : Result (Unit {0}) Halt) → ok ≡ true → Does (reading (header_read h.op) (mend_header h)) r q d' d'' o o' result → Does (visit_slot h.op) r q d d'' o o' result
  slot_read d'' o o' result t k = record {
    untold = λ e. k.untold (same ∙ e);
    told = λ y e.
        let there = found_entry h (whole_in (version r) y.face (h.op % 64)) ((told_at (version r) h ok d y v e).0 t) in
        subst (λ (s : Step). LeftBy (version r) s q y d'' o o' result) (sym (read_is (version r) h there.0 y.face r is (is_found (version r) h y.face there.0 there.1 there.2) there.2)) (k.told y (same ∙ e));
    same = k.same;
  }

  -- the same, where the rest is done from what is the replica by another name
  pub slot_read_from : (s : Replica) (d'' : Option Disk) (o o' : List Output) (result : Result (Unit {0}) Halt) → s ≡ r → ok ≡ true
      → Does (reading (header_read h.op) (mend_header h)) s q d' d'' o o' result → Does (visit_slot h.op) r q d d'' o o' result
  slot_read_from s d'' o o' result e t k =
      slot_read d'' o o' result t (subst (λ (x : Replica). Does (reading (header_read h.op) (mend_header h)) x q d' d'' o o' result) e k)

  pub slot_lost : (o : List Output) → ok ≡ false → q ≡ lost h r → Does (visit_slot h.op) r q d d' o o (Ok tt)
  slot_lost o t e =
      let k : Does (change (lost h)) r q d d' o o (Ok tt) = rw (e, same) (does_change (lost h) r d o (lost_stays h r)) in
      record {
        untold = k.untold;
        told = λ y i.
            let none : entry_of h (sectors_by (version r)) y.face ≡ None = not_found h (whole_in (version r) y.face (h.op % 64)) (λ m. let yes : ok ≡ true = (told_at (version r) h ok d y v i).1 m in true≢false (sym yes ∙ t)) in
            subst (λ (s : Step). LeftBy (version r) s q y d' o o (Ok tt)) (sym (lost_is (version r) h y.face r is none)) (k.told y i);
        same = k.same;
      }

part_nothing : (p : Part) (op : ℕ) (r : Replica) (d : Option Disk) (o : List Output) → part_at r op ≡ p → ((h : Header) → p ≡ Here h → ⊥) → Does (visit_slot op) r r d d o o (Ok tt)
unfolding visit_slot with_entry_at by
part_nothing (Here h) op r d o e n = absurd (n h refl)
part_nothing (Lost h) op r d o e n = let k = does_quiet r d o in record { untold = k.untold; told = λ y i. rw e (k.told y i); same = k.same }
part_nothing (Wanted h) op r d o e n = let k = does_quiet r d o in record { untold = k.untold; told = λ y i. rw e (k.told y i); same = k.same }
part_nothing Unknown op r d o e n = let k = does_quiet r d o in record { untold = k.untold; told = λ y i. rw e (k.told y i); same = k.same }
part_nothing Nothing op r d o e n = let k = does_quiet r d o in record { untold = k.untold; told = λ y i. rw e (k.told y i); same = k.same }

pub slot_nothing : (p : Part) (op : ℕ) (r : Replica) (d : Option Disk) (o : List Output) → p ≡ part_at r op → ((h : Header) → p ≡ Here h → ⊥) → Does (visit_slot op) r r d d o o (Ok tt)
slot_nothing p op r d o e n = part_nothing p op r d o (sym e) n

-- ---- what is answered

pub found_good : (h : Header) (b : Bool) (d : Option Disk) → IfSome d (λ (y : Disk). b ≡ reads_as h (header_in y.face (h.op % 64))) → b ≡ true → IfSome d (λ (y : Disk). seen.Good ≡ good_or_mended h (header_in y.face (h.op % 64)))
found_good h b None v t = tt
found_good h b (Some y) v t = ap (λ (x : Bool). if x then seen.Good else seen.Mended) (sym t ∙ v)

pub found_mended : (h : Header) (b : Bool) (d : Option Disk) → IfSome d (λ (y : Disk). b ≡ reads_as h (header_in y.face (h.op % 64))) → b ≡ false → IfSome d (λ (y : Disk). seen.Mended ≡ good_or_mended h (header_in y.face (h.op % 64)))
found_mended h b None v t = tt
found_mended h b (Some y) v t = ap (λ (x : Bool). if x then seen.Good else seen.Mended) (sym t ∙ v)

module _ (ed : ℕ) (h : Header) (ok : Bool) (d : Option Disk) (v : Tells ed h ok d) where
  pub found_stored : (d' : Option Disk) (result : Result Visit Halt) → d' ≡ d → ok ≡ true → IfSome d' (λ (y : Disk). IfOk result (λ x. x ≡ good_or_mended h (header_in y.face (h.op % 64))))
      → IfSome d (λ (y : Disk). IfOk result (λ x. x ≡ stored_as h (entry_of h (sectors_by ed) y.face) (header_in y.face (h.op % 64))))
  found_stored d' result same t k = at d v (subst (λ (z : Option Disk). IfSome z (λ (y : Disk). IfOk result (λ x. x ≡ good_or_mended h (header_in y.face (h.op % 64))))) same k)
    where
      each : (y : Disk) (r : Result Visit Halt) → (e : Whole) × (entry_of h (sectors_by ed) y.face ≡ Some e) → IfOk r (λ x. x ≡ good_or_mended h (header_in y.face (h.op % 64)))
          → IfOk r (λ x. x ≡ stored_as h (entry_of h (sectors_by ed) y.face) (header_in y.face (h.op % 64)))
      each y (Ok x) there k = k ∙ ap (λ (o : Option Whole). stored_as h o (header_in y.face (h.op % 64))) (sym there.1)
      each y (Err halt) there k = k

      at : (z : Option Disk) → Tells ed h ok z → IfSome z (λ (y : Disk). IfOk result (λ x. x ≡ good_or_mended h (header_in y.face (h.op % 64))))
          → IfSome z (λ (y : Disk). IfOk result (λ x. x ≡ stored_as h (entry_of h (sectors_by ed) y.face) (header_in y.face (h.op % 64))))
      at None v k = k
      at (Some y) v k =
          let there = found_entry h (whole_in ed y.face (h.op % 64)) (v.0 t) in
          each y result (there.0, is_found ed h y.face there.0 there.1 there.2) k

pub found_lost : (ed : ℕ) (h : Header) (ok : Bool) (d : Option Disk) → Tells ed h ok d → ok ≡ false → IfSome d (λ (y : Disk). seen.Lost ≡ stored_as h (entry_of h (sectors_by ed) y.face) (header_in y.face (h.op % 64)))
found_lost ed h ok None v t = tt
found_lost ed h ok (Some y) v t =
    let none : entry_of h (sectors_by ed) y.face ≡ None = not_found h (whole_in ed y.face (h.op % 64)) (λ m. let yes : ok ≡ true = v.1 m in true≢false (sym yes ∙ t)) in
    sym (ap (λ (o : Option Whole). stored_as h o (header_in y.face (h.op % 64))) none)

pub found_here : (ed : ℕ) (p : Part) (h : Header) (d : Option Disk) (result : Result Visit Halt) → p ≡ Here h → IfSome d (λ (y : Disk). IfOk result (λ x. x ≡ stored_as h (entry_of h (sectors_by ed) y.face) (header_in y.face (h.op % 64))))
    → IfSome d (λ (y : Disk). IfOk result (λ x. x ≡ found_at ed p y.face))
found_here ed p h d result e k = subst (λ (q : Part). IfSome d (λ (y : Disk). IfOk result (λ x. x ≡ found_at ed q y.face))) (sym e) k

pub found_nothing : (ed : ℕ) (p : Part) (d : Option Disk) → ((h : Header) → p ≡ Here h → ⊥) → IfSome d (λ (y : Disk). seen.Nothing ≡ found_at ed p y.face)
found_nothing ed p None n = tt
found_nothing ed (Here h) (Some y) n = absurd (n h refl)
found_nothing ed (Lost h) (Some y) n = refl
found_nothing ed (Wanted h) (Some y) n = refl
found_nothing ed Unknown (Some y) n = refl
found_nothing ed Nothing (Some y) n = refl

-- ---- blocks

-- a block reads under its name where one is named so
block_told : (f : Face) (name : Name) (b : Bool) → is_some (named_at f name) ≡ not b → is_some (block_in f name) ≡ not b
unfolding named_at
block_told f name b e =
    elim (nat_lt name.address grid_size) as (λ t. is_some (cond t (option_and_then (named name) (block_reading f name.address)) None) ≡ not b
    → is_some (cond (is_some (cond t (option_and_then (named name) (block_reading f name.address)) None)) (block_reading f name.address) None) ≡ not b) [
      | true ↦ elim (block_reading f name.address) as (λ o. is_some (option_and_then (named name) o) ≡ not b → is_some (cond (is_some (option_and_then (named name) o)) o None) ≡ not b) [
        | None ↦ λ k. k
        | Some bytes ↦ elim (is_some (named name bytes)) as (λ t. t ≡ not b → is_some (cond t (Some bytes) None) ≡ not b) [ true ↦ λ k. k | false ↦ λ k. k ]
      ]
      | false ↦ λ k. k
    ] e

visits_by : (name : Name) (x : Option (List ℕ)) (b : Bool) → is_some x ≡ not b → visit_read {F = Face} name x ≡ cond b (change (with_worn name)) quiet
visits_by name None true e = refl
visits_by name None false e = absurd cc
visits_by name (Some block) true e = absurd cc
visits_by name (Some block) false e = refl

bad_is : (name : Name) (d : Option Disk) (y : Disk) (b : Bool) → IfSome d (λ (z : Disk). is_some (named_at z.face name) ≡ not b) → d ≡ Some y → is_some (named_at y.face name) ≡ not b
bad_is name None y b v e = absurd cc
bad_is name (Some z) y b v e = let same : z ≡ y = cc in subst (λ (x : Disk). is_some (named_at x.face name) ≡ not b) same v

module _ (name : Name) (b : Bool) (r q : Replica) (d d' : Option Disk) (same : d' ≡ d) (v : IfSome d (λ (y : Disk). is_some (named_at y.face name) ≡ not b)) where
  block_by : (o : List Output) → Does (cond b (change (with_worn name)) quiet) r q d' d' o o (Ok tt) → Does (visit_block (Some name)) r q d d' o o (Ok tt)
  unfolding visit_block reading
  block_by o k = record {
    untold = λ e. k.untold (same ∙ e);
    told = λ y e.
        subst (λ (w : Word Face). LeftBy (version r) (w (sectors_by (version r)) r y.face) q y d' o o (Ok tt)) (sym (visits_by name (block_in y.face name) b (block_told y.face name b (bad_is name d y b v e)))) (k.told y (same ∙ e));
    same = k.same;
  }

  pub block_bad : (o : List Output) → b ≡ true → q ≡ with_worn name r → Does (visit_block (Some name)) r q d d' o o (Ok tt)
  block_bad o t e = block_by o (rw (t, e) (does_change (with_worn name) r d' o refl))

  pub block_good : (o : List Output) → b ≡ false → q ≡ r → Does (visit_block (Some name)) r q d d' o o (Ok tt)
  block_good o t e = block_by o (rw (t, e) (does_quiet r d' o))

-- ---- the superblock

pub mend_is : (r : Replica) (v : SuperValue) (d d' : Option Disk) (ok : Bool) → v ≡ r.saved → RunsFrom (mend_calls v) d d' ok → Performs mends r d d' ok
unfolding mends
mend_is r v d d' ok e k = record { silent = refl; ran = subst (λ (x : SuperValue). RunsFrom (mend_calls x) d d' ok) e k }

-- ---- places

module _ (at : ℕ) (r q : Replica) (d d' : Option Disk) (o o' : List Output) (result : Result (Unit {0}) Halt) where
  pub place_slot : (op : ℕ) → at < 64 → op ≡ op_of_slot r at → Does (visit_slot op) r q d d' o o' result → Does (visit_place at) r q d d' o o' result
  unfolding visit_place
  place_slot op l e k = does_by _ r q d d' o o' result (rw (lt-ltb at 64 l) (subst (λ n. Does (visit_slot n) r q d d' o o' result) e k))

  pub place_block : (name : Option Name) → 65 ≤ at → name ≡ slice_get (blocks_of r) (at - 65) → Does (visit_block name) r q d d' o o' result → Does (visit_place at) r q d d' o o' result
  unfolding visit_place
  place_block name l e k =
      does_by _ r q d d' o o' result (rw (le-ltb at 64 (omega arith), ne_eqb at 64 (λ i. omega (arith, i, l))) (subst (λ n. Does (visit_block n) r q d d' o o' result) e k))

  pub place_value : at ≡ 64 → Does (does mends) r q d d' o o' result → Does (visit_place at) r q d d' o o' result
  unfolding visit_place mends
  place_value e k = does_by _ r q d d' o o' result (rw e k)

pub block_none : (r : Replica) (d : Option Disk) (o : List Output) → Does (visit_block None) r r d d o o (Ok tt)
unfolding visit_block
block_none r d o = does_quiet r d o

pub visit_then : (at : ℕ) (r a q : Replica) (d d' : Option Disk) (o o' : List Output) → is_loaded r ≡ true → at ≡ place_now r → Does (visit_place at) r a d d' o o' (Ok tt) → q ≡ with_cursor at a → Does visit r q d d' o o' (Ok tt)
unfolding visit
visit_then at r a q d d' o o' t e k i =
    let w : Word Face = visit_place at ⨾ change (with_cursor at) in
    let both : Does w r q d d' o o' (Ok tt) = does_then (visit_place at) (change (with_cursor at)) r a q d d' d' o o' o' (Ok tt) k (rw i (does_change (with_cursor at) a d' o' refl)) in
    does_by _ r q d d' o o' (Ok tt) (rw t (subst (λ n. Does (visit_place n ⨾ change (with_cursor n)) r q d d' o o' (Ok tt)) e both))

pub visit_stopped : (at : ℕ) (r q : Replica) (d d' : Option Disk) (o o' : List Output) (halt : Halt) → is_loaded r ≡ true → at ≡ place_now r → Does (visit_place at) r q d d' o o' (Err halt) → Does visit r q d d' o o' (Err halt)
unfolding visit
visit_stopped at r q d d' o o' halt t e k =
    let both : Does (visit_place at ⨾ change (with_cursor at)) r q d d' o o' (Err halt) = does_stopped (visit_place at) (change (with_cursor at)) r q q d d' o o' o' halt k in
    does_by _ r q d d' o o' (Err halt) (rw t (subst (λ n. Does (visit_place n ⨾ change (with_cursor n)) r q d d' o o' (Err halt)) e both))

pub visit_none : (r : Replica) (d : Option Disk) (o : List Output) → is_loaded r ≡ false → Does visit r r d d o o (Ok tt)
unfolding visit
visit_none r d o t = does_by _ r r d d o o (Ok tt) (rw t (does_quiet r d o))

-- ---- readiness

pub ready_worn : (name : Name) (r q : Replica) → q ≡ with_worn name r → IsReady r → IsReady q
unfolding IsReady
ready_worn name r q e h = rw e (record { sound = sound_alike r (with_worn name r) refl h.sound; savable = savable_alike r (with_worn name r) refl h.savable; idle = h.idle; fits = h.fits })

pub ready_moved : (at : ℕ) (r q : Replica) → q ≡ with_cursor at r → IsReady r → IsReady q
unfolding IsReady
ready_moved at r q e h = rw e (record { sound = sound_alike r (with_cursor at r) refl h.sound; savable = savable_alike r (with_cursor at r) refl h.savable; idle = h.idle; fits = h.fits })

-- a replica with one more worn block is ready, where the one before it had another name too
pub ready_worn_after : (name : Name) (s r q : Replica) → q ≡ with_worn name s → s ≡ r → IsReady r → IsReady q
ready_worn_after name s r q e i h = ready_worn name s q e (subst IsReady (sym i) h)
