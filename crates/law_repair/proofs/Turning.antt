-- Visits come round.
use Rattle.std.proofs.Common.{arith, ℕ, ◌+◌, ◌-◌, ◌%◌, ◌≡◌, ◌<◌, ◌∙◌, refl, sym, ap, true, false, cond, not, List, [], ◌∷◌, ◌++◌, length, map, Option, Some, None}
use Rattle.std.specs.Prelude.{nat_lt, slice_get, ◌==◌}
use Rattle.std.proofs.lemmas.Bool.{lt-ltb, ltb-true}
use Rattle.std.proofs.lemmas.Nat.{mod_below}
use Rattle.std.proofs.Math.Nat.{mod-eq_of_lt, mod-add-mod}
use Rattle.vr_ckpt.specs.declared.table.Payload.{Payload}
use Rattle.vr_ckpt.specs.declared.table.PayloadTable.{PayloadTable}
use Rattle.vr_ckpt.specs.declared.name.Name.{Name}
use Rattle.vr_header.specs.declared.header.Header.{Header}
use Rattle.vr_header.specs.declared.part.Part.{Part}
use Rattle.vr_header.specs.declared.part.Part.TheVariants.{Here, Lost, Wanted, Unknown, Nothing}
use Rattle.vr_header.specs.Made.{Whole}
use Rattle.vr_header.specs.Same.{same_header}
use Rattle.vr_rules.specs.Replica.{Replica, part_at, with_part}
use Rattle.vr_rules.specs.Steps.{Rewrite, Mend, Setting, Word, ◌⨾◌, by, change, does, quiet, reading}
use Rattle.vr_rules.specs.Words as words
use Rattle.vr_rules.specs.Words.{is_loaded, place_now, places, visit}
use Rattle.law_repair.specs.Turns.{VisitsTurn, after_visits}

-- what the places are told by
pub record Stays (r q : Replica) : Type 0 where
  pub checkpoint : q.checkpoint ≡ r.checkpoint
  pub root : q.root ≡ r.root
  pub table : q.table ≡ r.table
  pub missing : q.missing ≡ r.missing
  pub applied : q.applied ≡ r.applied
  pub state : q.state ≡ r.state

pub stays_same : (r : Replica) → Stays r r
stays_same r = record { checkpoint = refl; root = refl; table = refl; missing = refl; applied = refl; state = refl }

abbrev count : ℕ → Name → PayloadTable → ℕ
count checkpoint root table = 65 + length (cond (checkpoint == 0) [] (root ∷ (map (λ (p : Payload). p.name) table.sessions ++ map (λ (p : Payload). p.name) table.keys)))

same_places : (r q : Replica) → Stays r q → places q ≡ places r
same_places r q st = ap (λ c. count c q.root q.table) st.checkpoint ∙ (ap (λ n. count r.checkpoint n q.table) st.root ∙ ap (count r.checkpoint r.root) st.table)

pub now_below : (r : Replica) → place_now r < places r
now_below r =
    elim (nat_lt r.cursor (places r)) as (λ b. nat_lt r.cursor (places r) ≡ b → cond b r.cursor 0 < places r) [
      | true ↦ λ t. ltb-true r.cursor (places r) t
      | false ↦ λ t. omega arith
    ] refl

module _ {F : Type 0} (s : Setting F) where
  mended : (h : Header) (d : Option Header) (r : Replica) (f : F) → Stays r (words.mend_header h d s r f).replica
  unfolding does quiet
  mended h None r f = stays_same r
  mended h (Some d) r f = elim (not (same_header d h)) as (λ b. Stays r (cond b (does (λ r. Rewrite h)) quiet s r f).replica) [ true ↦ stays_same r | false ↦ stays_same r ]

  abbrev slot_word : ℕ → Whole → Word F
  slot_word op e = reading (words.header_read op) (words.mend_header e.header)

  slot_read : (op : ℕ) (h : Header) (o : Option Whole) (r : Replica) (f : F) → Stays r (words.or_lost h (slot_word op) o s r f).replica
  unfolding change reading with_part
  slot_read op h None r f = record { checkpoint = refl; root = refl; table = refl; missing = refl; applied = refl; state = refl }
  slot_read op h (Some e) r f = mended e.header (words.header_read op s f) r f

  slot_stays : (op : ℕ) (p : Part) (r : Replica) (f : F) → Stays r (words.with_entry (slot_word op) p s r f).replica
  unfolding reading quiet
  slot_stays op (Here h) r f = slot_read op h (words.entry_of h s f) r f
  slot_stays op (Lost h) r f = stays_same r
  slot_stays op (Wanted h) r f = stays_same r
  slot_stays op Unknown r f = stays_same r
  slot_stays op Nothing r f = stays_same r

  block_read : (name : Name) (o : Option (List ℕ)) (r : Replica) (f : F) → Stays r (words.visit_read name o s r f).replica
  unfolding change quiet
  block_read name None r f = record { checkpoint = refl; root = refl; table = refl; missing = refl; applied = refl; state = refl }
  block_read name (Some block) r f = stays_same r

  block_stays : (name : Option Name) (r : Replica) (f : F) → Stays r (words.visit_block name s r f).replica
  unfolding words.visit_block reading quiet
  block_stays None r f = stays_same r
  block_stays (Some name) r f = block_read name (s.block f name) r f

  place_stays : (at : ℕ) (r : Replica) (f : F) → Stays r (words.visit_place at s r f).replica
  unfolding words.visit_place words.visit_slot words.with_entry_at by does
  place_stays at r f =
      let op : ℕ = words.op_of_slot r at in
      let name : Option Name = slice_get (words.blocks_of r) (at - 65) in
      elim (nat_lt at 64) as (λ b. Stays r (cond b (words.visit_slot op) (cond (at == 64) (does (λ r. Mend r.saved)) (words.visit_block name)) s r f).replica) [
        | true ↦ slot_stays op (part_at r op) r f
        | false ↦ elim (at == 64) as (λ b. Stays r (cond b (does (λ r. Mend r.saved)) (words.visit_block name) s r f).replica) [ true ↦ stays_same r | false ↦ block_stays name r f ]
      ]

  pub record Turned (r q : Replica) : Type 0 where
    pub stays : Stays r q
    pub cursor : q.cursor ≡ (place_now r + 1) % places r

  moved_on : (r q : Replica) → Stays r q → Turned r (words.with_cursor (place_now r) q)
  moved_on r q st = record {
    stays = record { checkpoint = st.checkpoint; root = st.root; table = st.table; missing = st.missing; applied = st.applied; state = st.state };
    cursor = ap (λ n. (place_now r + 1) % n) (same_places r q st);
  }

  pub turned : (r : Replica) (f : F) → is_loaded r ≡ true → Turned r (visit s r f).replica
  unfolding visit ◌⨾◌ by change quiet
  turned r f =
      elim (is_loaded r) as (λ b. b ≡ true → Turned r (cond b (words.visit_place (place_now r) ⨾ change (words.with_cursor (place_now r))) quiet s r f).replica) [
        | true ↦ λ t. moved_on r _ (place_stays (place_now r) r f)
        | false ↦ λ t. absurd cc
      ]

  -- without its checkpoint a replica visits nothing
  pub unvisited : (r : Replica) (f : F) → is_loaded r ≡ false → visit s r f ≡ record { replica = r; script = [] }
  unfolding visit by quiet
  unvisited r f e = ap (λ b. cond b (words.visit_place (place_now r) ⨾ change (words.with_cursor (place_now r))) quiet s r f) e

-- where the next visit goes
pub now_of : (r q : Replica) → q.cursor ≡ (place_now r + 1) % places r → places q ≡ places r → place_now q ≡ (place_now r + 1) % places r
now_of r q e same =
    let n : ℕ = (place_now r + 1) % places r in
    let low : n < places r = mod_below (place_now r + 1) (places r) (omega arith) in
    let go : (c p : ℕ) → c < p → cond (nat_lt c p) c 0 ≡ c = λ c p l. ap (λ b. cond b c 0) (lt-ltb c p l) in
    ap (λ c. cond (nat_lt c (places q)) c 0) e ∙ (ap (λ p. cond (nat_lt n p) n 0) same ∙ go n (places r) low)

pub visits_turn : {F : Type 0} → VisitsTurn F
unfolding after_visits
visits_turn s [] r loaded =
    let whole : place_now r ≡ place_now r + 0 = omega arith in
    sym (mod-eq_of_lt (now_below r)) ∙ ap (λ x. x % places r) whole
visits_turn s (f ∷ fs) r loaded =
    let q : Replica = (visit s r f).replica in
    let t = turned s r f loaded in
    let n : ℕ = place_now r in
    let k : ℕ = length fs in
    let rest = visits_turn s fs q (ap (λ (m : List Name). length m == 0) t.stays.missing ∙ loaded) in
    let there : (place_now q + k) % places q ≡ ((n + 1) % places r + k) % places r =
    ap (λ p. (place_now q + k) % p) (same_places r q t.stays) ∙ ap (λ c. (c + k) % places r) (now_of r q t.cursor (same_places r q t.stays)) in
    rest ∙ (there ∙ (mod-add-mod (n + 1) (places r) k ∙ ap (λ x. x % places r) (omega arith)))
