-- A visit of the disk, by a sound replica of the group that a schedule begins: a header is written where the entry of it is read.
use Rattle.std.proofs.Common.{◌≤◌, ◌≡◌, arith, refl, sym, ap, ◌∙◌, subst, ℕ, Bool, true, false, cond, not, List, Option, Some, None}
use Rattle.std.specs.Prelude.{nat_lt, slice_get, ◌-◌, ◌%◌, ◌==◌}
use Rattle.vr_header.specs.declared.header.Header.{Header}
use Rattle.vr_header.specs.declared.part.Part.{Part}
use Rattle.vr_header.specs.declared.part.Part.TheVariants.{Here, Lost, Wanted, Unknown, Nothing}
use Rattle.vr_header.specs.Made.{Whole}
use Rattle.vr_header.specs.Same.{same_header}
use Rattle.vr_rings.specs.Slots.{slot_of, whole_in}
use Rattle.vr_ckpt.specs.declared.name.Name.{Name}
use Rattle.vr_header.specs.Parts.{header_of}
use Rattle.vr_rules.specs.Replica.{Replica, version, part_at, with_part}
use Rattle.vr_rules.specs.Steps.{Mend, Rewrite, Word, ◌⨾◌, by, change, does, quiet, reading, when, after_all}
use Rattle.vr_rules.specs.Words.{ask, blocks_of, entry_of, header_read, is_loaded, lost, mend_header, op_of_slot, or_lost, place_now, visit, visit_block, visit_place, visit_read, visit_slot, with_cursor, with_entry, with_entry_at, with_worn}
use Rattle.vr_world.specs.Lying.{Lying, lying}
use Rattle.vr_rules.specs.Own.{IsAt}
use Rattle.vr_rules.specs.Sound.{IsSound}
use Rattle.vr_rules.proofs.Combining.{Keeps}
use Rattle.vr_world.proofs.FitGroups.{Known, known_left, known_right}
use Rattle.vr_rules.proofs.FitWords.{read_here}
use Rattle.vr_rules.proofs.OwnWords.{Owned}
use Rattle.law_4_disks.proofs.Chaining.{Chained, c_by, c_then, c_visit_place}
use Rattle.law_4_disks.proofs.Stocking.{At, Leaves, Stocking, at_next, b_ask, b_change, b_quiet, leaves_both, moved}

-- of a sound replica in its place, on a file of its version
pub record Sounded (P Q : List ℕ → Type 0) (home : ℕ) (w : Word Lying) : Type 0 where
  pub chained : Chained w
  pub each : (n i ed : ℕ) (r : Replica) (d : Lying) → At ed r d → IsSound r → IsAt home n i ed r → Known home n i ed (w lying r d).script → Leaves P Q home w r d

abbrev visited : ℕ → Whole → Word Lying
visited op e = reading (header_read op) (mend_header e.header)

module _ {P Q : List ℕ → Type 0} {home : ℕ} where
  pub v_of : (w : Word Lying) → Stocking P Q home w → Sounded P Q home w
  v_of w h = record { chained = h.chained; each = λ n i ed r d a sound is k. h.each n i ed r d a k }

  -- after a word that keeps it sound, and in its place
  pub v_then : (v w : Word Lying) → Stocking P Q home v → Keeps v → ((ed : ℕ) → Owned home ed v) → Sounded P Q home w → Sounded P Q home (v ⨾ w)
  unfolding ◌⨾◌
  v_then v w h keeps own k = record {
    chained = c_then v w h.chained k.chained;
    each = λ n i ed r d at sound is known.
        let a = v lying r d in
        let mid : Lying = after_all lying d a.script in
        let b = w lying a.replica mid in
        let left = known_left home n i ed a.script b.script known in
        let one = h.each n i ed r d at left in
        let next = at_next P Q v n i ed r d h.chained at left one in
        leaves_both P Q v w r d one (k.each n i ed a.replica mid next (keeps.every lying r d sound).kept.sound ((own ed).at n i lying r d is) (known_right home n i ed a.script b.script known));
  }

  -- before one for which that doesn't matter
  pub v_before : (v w : Word Lying) → Sounded P Q home v → Stocking P Q home w → Sounded P Q home (v ⨾ w)
  unfolding ◌⨾◌
  v_before v w h k = record {
    chained = c_then v w h.chained k.chained;
    each = λ n i ed r d at sound is known.
        let a = v lying r d in
        let mid : Lying = after_all lying d a.script in
        let b = w lying a.replica mid in
        let left = known_left home n i ed a.script b.script known in
        let one = h.each n i ed r d at sound is left in
        leaves_both P Q v w r d one (k.each n i ed a.replica mid (at_next P Q v n i ed r d h.chained at left one) (known_right home n i ed a.script b.script known));
  }

  pub v_by : (w : Replica → Word Lying) → ((r : Replica) → Sounded P Q home (w r)) → Sounded P Q home (by w)
  unfolding by
  v_by w h = record { chained = c_by w (λ r. (h r).chained); each = λ n i ed r d a sound is k. let x = (h r).each n i ed r d a sound is k in record { blocks = x.blocks; rewrites = x.rewrites; stock = x.stock } }

  pub v_if : (b : Bool) (v w : Word Lying) → Sounded P Q home v → Sounded P Q home w → Sounded P Q home (cond b v w)
  v_if true v w h k = h
  v_if false v w h k = k

  pub v_when : (b : Bool) (w : Word Lying) → Sounded P Q home w → Sounded P Q home (when b w)
  v_when true w h = h
  v_when false w h = v_of quiet b_quiet

  -- ---- a visit

  header_leaves : {ed : ℕ} (e : Whole) (o : Option Header) (r : Replica) (d : Lying) → At ed r d → whole_in d.version d.face (slot_of e.header) ≡ Some e → e.header.cluster ≡ home → e.header.version ≤ d.version → Leaves P Q home (mend_header e.header o) r d
  unfolding does quiet
  header_leaves e None r d a there own few = record { blocks = (tt, tt); rewrites = ((e, there, refl, own, few), tt); stock = a.stock }
  header_leaves e (Some x) r d a there own few =
      elim (same_header x e.header) as (λ t. Leaves P Q home (when (not t) (does (λ r. Rewrite e.header))) r d) [
        | true ↦ record { blocks = tt; rewrites = tt; stock = a.stock }
        | false ↦ record { blocks = (tt, tt); rewrites = ((e, there, refl, own, few), tt); stock = a.stock }
      ]

  read_leaves : {ed : ℕ} (op : ℕ) (h : Header) (o : Option Whole) (r : Replica) (d : Lying) → entry_of h lying d ≡ o → At ed r d → h.cluster ≡ home → h.version ≤ d.version → Leaves P Q home (or_lost h (visited op) o) r d
  unfolding reading change with_part
  read_leaves op h None r d q a own few = record { blocks = tt; rewrites = tt; stock = moved (lost h r) r (record { saved = refl; state = refl; table = refl }) a.stock }
  read_leaves op h (Some e) r d q a own few =
      let p = read_here h (whole_in d.version d.face (h.op % 64)) e q in
      let x = header_leaves e (header_read op lying d) r d a (subst (λ (g : Header). whole_in d.version d.face (slot_of g) ≡ Some e) (sym p.1) p.0) (ap (λ (g : Header). g.cluster) p.1 ∙ own) (subst (λ (g : Header). g.version ≤ d.version) (sym p.1) few) in
      record { blocks = x.blocks; rewrites = x.rewrites; stock = x.stock }

  part_leaves : {ed : ℕ} (op : ℕ) (p : Part) (r : Replica) (d : Lying) → part_at r op ≡ p → At ed r d → IsSound r → r.cluster ≡ home → version r ≡ ed → Leaves P Q home (with_entry (visited op) p) r d
  unfolding reading quiet
  part_leaves op (Here h) r d e a sound own one =
      let is = (sound.entries.each op h (ap header_of e)).1 in
      let most = is.of_version in
      let file = a.file in
      let x = read_leaves op h (entry_of h lying d) r d refl a (is.of_group ∙ own) (omega (arith, most, one, file)) in
      record { blocks = x.blocks; rewrites = x.rewrites; stock = x.stock }
  part_leaves op (Lost h) r d e a sound own one = record { blocks = tt; rewrites = tt; stock = a.stock }
  part_leaves op (Wanted h) r d e a sound own one = record { blocks = tt; rewrites = tt; stock = a.stock }
  part_leaves op Unknown r d e a sound own one = record { blocks = tt; rewrites = tt; stock = a.stock }
  part_leaves op Nothing r d e a sound own one = record { blocks = tt; rewrites = tt; stock = a.stock }

  slot_leaves : {ed : ℕ} (op : ℕ) (r : Replica) (d : Lying) → At ed r d → IsSound r → r.cluster ≡ home → version r ≡ ed → Leaves P Q home (visit_slot op) r d
  unfolding visit_slot with_entry_at by
  slot_leaves op r d a sound own one = let x = part_leaves op (part_at r op) r d refl a sound own one in record { blocks = x.blocks; rewrites = x.rewrites; stock = x.stock }

  mend_leaves : {ed : ℕ} (r : Replica) (d : Lying) → At ed r d → Leaves P Q home (does (λ r. Mend r.saved)) r d
  unfolding does
  mend_leaves r d a = record { blocks = (tt, tt); rewrites = (tt, tt); stock = a.stock }

  name_leaves : {ed : ℕ} (name : Name) (o : Option (List ℕ)) (r : Replica) (d : Lying) → At ed r d → Leaves P Q home (visit_read name o) r d
  unfolding change quiet
  name_leaves name None r d a = record { blocks = tt; rewrites = tt; stock = moved (with_worn name r) r (record { saved = refl; state = refl; table = refl }) a.stock }
  name_leaves name (Some block) r d a = record { blocks = tt; rewrites = tt; stock = a.stock }

  block_leaves : {ed : ℕ} (o : Option Name) (r : Replica) (d : Lying) → At ed r d → Leaves P Q home (visit_block o) r d
  unfolding visit_block reading quiet
  block_leaves None r d a = record { blocks = tt; rewrites = tt; stock = a.stock }
  block_leaves (Some name) r d a = let x = name_leaves name (lying.block d name) r d a in record { blocks = x.blocks; rewrites = x.rewrites; stock = x.stock }

  if_leaves : (b : Bool) (v w : Word Lying) (r : Replica) (d : Lying) → Leaves P Q home v r d → Leaves P Q home w r d → Leaves P Q home (cond b v w) r d
  if_leaves true v w r d h k = h
  if_leaves false v w r d h k = k

  place_leaves : {ed : ℕ} (at : ℕ) (r : Replica) (d : Lying) → At ed r d → IsSound r → r.cluster ≡ home → version r ≡ ed → Leaves P Q home (visit_place at) r d
  unfolding visit_place by
  place_leaves at r d a sound own one =
      let block = visit_block (slice_get (blocks_of r) (at - 65)) in
      let x = if_leaves (nat_lt at 64) (visit_slot (op_of_slot r at)) (cond (at == 64) (does (λ r. Mend r.saved)) block) r d (slot_leaves (op_of_slot r at) r d a sound own one)
      (if_leaves (at == 64) (does (λ r. Mend r.saved)) block r d (mend_leaves r d a) (block_leaves (slice_get (blocks_of r) (at - 65)) r d a)) in
      record { blocks = x.blocks; rewrites = x.rewrites; stock = x.stock }

  v_place : (at : ℕ) → Sounded P Q home (visit_place at)
  v_place at = record { chained = c_visit_place at; each = λ n i ed r d a sound is k. place_leaves at r d a sound is.cluster is.saved.version }

  pub v_visit : Sounded P Q home visit
  unfolding visit
  v_visit =
      v_by _ (λ r. v_when (is_loaded r) _ (v_before (visit_place (place_now r)) (change (with_cursor (place_now r))) (v_place (place_now r)) (b_change (with_cursor (place_now r)) (λ q. record { saved = refl; state = refl; table = refl }))))

  -- and then a peer is asked
  pub v_looks : Sounded P Q home (visit ⨾ ask)
  v_looks = v_before visit ask v_visit b_ask
