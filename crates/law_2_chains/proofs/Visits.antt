-- A visit of the disk, at a tick: nothing of it moves the machine's memory. What is found lost is told as it was; a header sector that is
-- written again has the header that is kept there; and the superblock is mended with the value that it has.
use Rattle.std.proofs.Common.{ℕ, ◌-◌, ◌%◌, ◌<◌, ◌≡◌, ◌∙◌, inl, inr, arith, refl, sym, ap, subst, Bool, true, false, cond, List, [], ◌∷◌, ◌++◌, length, get_or, set, Option, Some, None}
use Rattle.std.specs.Prelude.{nat_lt, ◌==◌, not, slice_get}
use Rattle.std.proofs.lemmas.Bool.{cases_eq}
use Rattle.std.proofs.lemmas.List.{get_or-set_same, get_or-set_other, length-set}
use Rattle.vr_header.specs.declared.header.Header.{Header}
use Rattle.vr_header.specs.declared.part.Part.{Part}
use Rattle.vr_header.specs.declared.part.Part.TheVariants.{Here, Lost, Wanted, Unknown, Nothing}
use Rattle.vr_header.specs.Made.{Whole}
use Rattle.vr_header.specs.Same.{same_header}
use Rattle.vr_header.proofs.SameHeaders.{same_header_of}
use Rattle.vr_ckpt.specs.declared.name.Name.{Name}
use Rattle.vr_msg.specs.declared.output.Output.{Output}
use Rattle.vr_rules.specs.Replica.{Replica, part_at}
use Rattle.vr_rules.specs.Steps.{Effect, Rewrite, Mend, Setting, Step, Word, ◌⨾◌, quiet, change, does, by, reading, when}
use Rattle.vr_rules.specs.Words.{entry_of, or_lost, lost, with_entry, with_entry_at, is_loaded, blocks_of, op_of_slot, mend_header, header_read, visit_slot, with_worn, visit_read, visit_block, visit_place, place_now, with_cursor, visit}
use Rattle.vr_world.specs.Group as group
use Rattle.vr_world.specs.Group.{kept_at, kept_under}
use Rattle.vr_rules.specs.Sound.{IsSound}
use Rattle.vr_rules.proofs.Wording.{read_is}
use Rattle.law_1_machine.specs.Group.{Group, Member, becomes}
use Rattle.law_1_machine.specs.Machine as move
use Rattle.law_1_machine.proofs.Counting.{elsewhere}
use Rattle.law_2_chains.specs.Local.{Local, begun, through, carried, WhereverCut}
use Rattle.law_2_chains.specs.Reflecting.{IsValue, IsDisk, KeepsStored}
use Rattle.law_2_chains.specs.Chains.{Setup, Every, WasMade, MayBeSaid, Under, Mid, Stopped, Goes}
use Rattle.law_2_chains.specs.Finished.{IsSaid, IsTrue, Finished}
use Rattle.law_2_chains.proofs.Scripts.{every_append}
use Rattle.law_2_chains.proofs.Moving.{member_at, under_moves, stops}
use Rattle.law_2_chains.proofs.Applying.{op_is}
use Rattle.law_2_chains.proofs.Unmoving.{Unmoved, unmoved_same, unmoved_more, unmoved_cursor, unmoved_worn, unmoved_lost}
use Rattle.law_2_chains.proofs.Finishing.{said_more}
use Rattle.law_2_chains.proofs.Tabling.{in_left}

-- ---- what a visit does

-- nothing is written, or the header of an entry that is stored, or the value that was saved last
pub data Visits (r : Replica) : Step → Type 0 where
  sees : (q : Replica) → Unmoved r q → Visits r (record { replica = q; script = [] })
  rewrites : (h : Header) (q : Replica) → r.checkpoint < h.op → part_at r h.op ≡ Here h → Unmoved r q → Visits r (record { replica = q; script = Rewrite h ∷ [] })
  mends : (q : Replica) → Unmoved r q → Visits r (record { replica = q; script = Mend r.saved ∷ [] })

-- ---- the words

-- then the replica changes in what the machine has no use for
ends_then : (g : Replica → Replica) → ((q : Replica) → IsSound q → Unmoved q (g q)) → (r : Replica) (x : Step) → Visits r x → Visits r (record { replica = g x.replica; script = x.script ++ [] })
ends_then g h r _ (sees q y) = sees (g q) (unmoved_more r q (g q) y (h q y.sound))
ends_then g h r _ (rewrites k q above is y) = rewrites k (g q) above is (unmoved_more r q (g q) y (h q y.sound))
ends_then g h r _ (mends q y) = mends (g q) (unmoved_more r q (g q) y (h q y.sound))

visits_then : {F : Type 0} (v : Word F) (g : Replica → Replica) → ((q : Replica) → IsSound q → Unmoved q (g q)) → (t : Setting F) (r : Replica) (f : F) → Visits r (v t r f) → Visits r ((v ⨾ change g) t r f)
unfolding ◌⨾◌ change
visits_then v g h t r f x = ends_then g h r (v t r f) x

visits_when : {F : Type 0} (b : Bool) (w : Word F) (t : Setting F) (r : Replica) (f : F) → IsSound r → Visits r (w t r f) → Visits r (when b w t r f)
unfolding quiet
visits_when true w t r f sound h = h
visits_when false w t r f sound h = sees r (unmoved_same r sound)

visits_if : {F : Type 0} (b : Bool) (v w : Word F) (t : Setting F) (r : Replica) (f : F) → Visits r (v t r f) → Visits r (w t r f) → Visits r (cond b v w t r f)
visits_if true v w t r f h k = h
visits_if false v w t r f h k = k

visits_rewrite : {F : Type 0} (h : Header) (t : Setting F) (r : Replica) (f : F) → IsSound r → r.checkpoint < h.op → part_at r h.op ≡ Here h → Visits r (does (λ r. Rewrite h) t r f)
unfolding does
visits_rewrite h t r f sound above is = rewrites h r above is (unmoved_same r sound)

visits_header : {F : Type 0} (h : Header) (o : Option Header) (t : Setting F) (r : Replica) (f : F) → IsSound r → r.checkpoint < h.op → part_at r h.op ≡ Here h → Visits r (mend_header h o t r f)
visits_header h None t r f sound above is = visits_rewrite h t r f sound above is
visits_header h (Some d) t r f sound above is = visits_when (not (same_header d h)) (does (λ r. Rewrite h)) t r f sound (visits_rewrite h t r f sound above is)

visits_entry : {F : Type 0} (k : ℕ) (h : Header) (o : Option Whole) (t : Setting F) (r : Replica) (f : F) → IsSound r → r.checkpoint < k → part_at r k ≡ Here h → ((e : Whole) → o ≡ Some e → e.header ≡ h)
    → Visits r (or_lost h (λ e. reading (header_read k) (mend_header e.header)) o t r f)
unfolding change reading
visits_entry k h None t r f sound above is same = sees (lost h r) (unmoved_lost k h r sound is)
visits_entry k h (Some e) t r f sound above is same =
    let op = op_is k h r sound is in
    let one : e.header ≡ h = same e refl in
    let at : part_at r h.op ≡ Here h = subst (λ j. part_at r j ≡ Here h) (sym op) is in
    let there : part_at r e.header.op ≡ Here e.header = subst (λ g. part_at r g.op ≡ Here g) (sym one) at in
    let over : r.checkpoint < e.header.op = subst (λ g. r.checkpoint < g.op) (sym one) (subst (λ j. r.checkpoint < j) (sym op) above) in
    visits_header e.header (header_read k t f) t r f sound over there

visits_part : {F : Type 0} (k : ℕ) (p : Part) (t : Setting F) (r : Replica) (f : F) → IsSound r → r.checkpoint < k → part_at r k ≡ p → Visits r (with_entry (λ e. reading (header_read k) (mend_header e.header)) p t r f)
unfolding reading quiet
visits_part k (Here h) t r f sound above is = visits_entry k h (entry_of h t f) t r f sound above is (λ e q. read_is h (t.entry f (h.op % 64)) e q)
visits_part k (Lost h) t r f sound above is = sees r (unmoved_same r sound)
visits_part k (Wanted h) t r f sound above is = sees r (unmoved_same r sound)
visits_part k Unknown t r f sound above is = sees r (unmoved_same r sound)
visits_part k Nothing t r f sound above is = sees r (unmoved_same r sound)

visits_slot : {F : Type 0} (k : ℕ) (t : Setting F) (r : Replica) (f : F) → IsSound r → r.checkpoint < k → Visits r (visit_slot k t r f)
unfolding visit_slot with_entry_at by
visits_slot k t r f sound above = visits_part k (part_at r k) t r f sound above refl

visits_read : {F : Type 0} (name : Name) (o : Option (List ℕ)) (t : Setting F) (r : Replica) (f : F) → IsSound r → Visits r (visit_read name o t r f)
unfolding change quiet
visits_read name None t r f sound = sees (with_worn name r) (unmoved_worn name r sound)
visits_read name (Some block) t r f sound = sees r (unmoved_same r sound)

visits_block : {F : Type 0} (o : Option Name) (t : Setting F) (r : Replica) (f : F) → IsSound r → Visits r (visit_block o t r f)
unfolding visit_block reading quiet
visits_block None t r f sound = sees r (unmoved_same r sound)
visits_block (Some name) t r f sound = visits_read name (t.block f name) t r f sound

visits_mend : {F : Type 0} (t : Setting F) (r : Replica) (f : F) → IsSound r → Visits r (does (λ r. Mend r.saved) t r f)
unfolding does
visits_mend t r f sound = mends r (unmoved_same r sound)

visits_place : {F : Type 0} (at : ℕ) (t : Setting F) (r : Replica) (f : F) → IsSound r → Visits r (visit_place at t r f)
unfolding visit_place by
visits_place at t r f sound =
    visits_if (nat_lt at 64) (visit_slot (op_of_slot r at)) (cond (at == 64) (does (λ r. Mend r.saved)) (visit_block (slice_get (blocks_of r) (at - 65)))) t r f (visits_slot (op_of_slot r at) t r f sound (omega arith))
    (visits_if (at == 64) (does (λ r. Mend r.saved)) (visit_block (slice_get (blocks_of r) (at - 65))) t r f (visits_mend t r f sound) (visits_block (slice_get (blocks_of r) (at - 65)) t r f sound))

pub visits_is : {F : Type 0} (t : Setting F) (r : Replica) (f : F) → IsSound r → Visits r (visit t r f)
unfolding visit by
visits_is t r f sound =
    visits_when (is_loaded r) (visit_place (place_now r) ⨾ change (with_cursor (place_now r))) t r f sound
    (visits_then (visit_place (place_now r)) (with_cursor (place_now r)) (unmoved_cursor (place_now r)) t r f (visits_place (place_now r) t r f sound))

-- ---- a header that is written over itself

set_again : (xs : List (Option Header)) (p s : ℕ) (o : Option Header) → p < length xs → get_or xs p None ≡ o → get_or (set xs p o) s None ≡ get_or xs s None
set_again xs p s o l e =
    elim (cases_eq s p) [
      | inl t ↦ rw t (get_or-set_same xs p o None l ∙ sym e)
      | inr n ↦ get_or-set_other xs p s o None n
    ]

kept_again : (h : Header) (o : Option Header) → o ≡ Some h → kept_under true h o ≡ Some h
kept_again h None e = absurd cc
kept_again h (Some d) e = let same : d ≡ h = cc in rw (same_header_of d h same) (ap Some same)

module _ (m : group.Member) (h : Header) (size : length m.kept ≡ 64) (at : kept_at m h.op ≡ Some h) where
  abbrev place : ℕ
  place = h.op % 64

  abbrev meanwhile : Option Header
  meanwhile = kept_under true h (kept_at m h.op)

  is_kept : meanwhile ≡ Some h
  is_kept = kept_again h (kept_at m h.op) at

  pub begun_slot : (s : ℕ) → get_or (set m.kept place meanwhile) s None ≡ get_or m.kept s None
  begun_slot s = let long : length m.kept ≡ 64 = size in set_again m.kept place s meanwhile (omega arith) (at ∙ sym is_kept)

  pub ended_slot : (s : ℕ) → get_or (set (set m.kept place meanwhile) place (Some h)) s None ≡ get_or m.kept s None
  ended_slot s =
      let long = length-set m.kept place meanwhile in
      let full : length m.kept ≡ 64 = size in
      set_again (set m.kept place meanwhile) place s (Some h) (omega arith) (begun_slot place ∙ at) ∙ begun_slot s

  pub begun_size : length (set m.kept place meanwhile) ≡ 64
  begun_size = length-set m.kept place meanwhile ∙ size

  pub ended_size : length (set (set m.kept place meanwhile) place (Some h)) ≡ 64
  ended_size = length-set (set m.kept place meanwhile) place (Some h) ∙ begun_size

-- ---- disks

-- a header of a stored entry is written again
module _ (r : Replica) (l : Local) (h : Header) (z : Member Header) (d : IsDisk l.member z) (stored : KeepsStored r l.member) (above : r.checkpoint < h.op) (is : part_at r h.op ≡ Here h) where
  kept : kept_at l.member h.op ≡ Some h
  kept = stored.0 h.op h above is

  disk_begun : IsDisk (begun (Rewrite h) l).member z
  disk_begun = record { last = d.last; under = d.under; slots = λ s. d.slots s ∙ sym (begun_slot l.member h d.size kept s); size = begun_size l.member h d.size kept }

  disk_through : IsDisk (through (Rewrite h) l).member z
  disk_through = record { last = d.last; under = d.under; slots = λ s. d.slots s ∙ sym (ended_slot l.member h d.size kept s); size = ended_size l.member h d.size kept }

  keeps_through : (q : Replica) → KeepsStored q l.member → KeepsStored q (through (Rewrite h) l).member
  keeps_through q k = (λ j g a e. ended_slot l.member h d.size kept (j % 64) ∙ k.0 j g a e, k.1)

-- the value that was saved last is mended
module _ (r : Replica) (l : Local) (z : Member Header) (d : IsDisk l.member z) (stored : KeepsStored r l.member) where
  disk_mended : IsDisk (through (Mend r.saved) l).member (record z { under = None })
  disk_mended = record { last = subst (λ v. IsValue v z.last) stored.1 d.last; under = tt; slots = d.slots; size = d.size }

  keeps_mended : (q : Replica) → KeepsStored q l.member → KeepsStored q (through (Mend r.saved) l).member
  keeps_mended q k = (k.0, sym stored.1 ∙ k.1)

-- ---- what a visit leaves

pub unmoved : (r : Replica) (x : Step) → Visits r x → Unmoved r x.replica
unmoved r _ (sees q un) = un
unmoved r _ (rewrites h q above is un) = un
unmoved r _ (mends q un) = un

pub keeps_visited : (r : Replica) (x : Step) (l : Local) (z : Member Header) → IsDisk l.member z → KeepsStored r l.member → Visits r x → KeepsStored x.replica (carried x.script l).member
keeps_visited r _ l z d stored (sees q un) = un.keeps l.member stored
keeps_visited r _ l z d stored (rewrites h q above is un) = keeps_through r l h z d stored above is q (un.keeps l.member stored)
keeps_visited r _ l z d stored (mends q un) = keeps_mended r l z d stored q (un.keeps l.member stored)

-- nothing is said
said_visited : (P : Output → Type 0) (r : Replica) (x : Step) (l : Local) → Visits r x → Every P l.said → Every P (carried x.script l).said
said_visited P r _ l (sees q un) h = h
said_visited P r _ l (rewrites k q above is un) h = every_append P l.said [] h tt
said_visited P r _ l (mends q un) h = every_append P l.said [] h tt

-- ---- the machine

module _ (u : Setup) (start : Group Header) (i : ℕ) where
  -- the member, and where it may be cut
  pub record Passes (es : List Effect) (l : Local) (s : Group Header) : Type 0 where
    pub after : Group Header
    pub under : Under u start i (carried es l) after
    pub cuts : WhereverCut (Stopped u start i) es l
    pub memory : (after.members i).memory ≡ (s.members i).memory
    pub slots : (after.members i).slots ≡ (s.members i).slots

  made_more : (l : Local) (s : Group Header) → Under u start i l s → Every (WasMade s.made) (l.made ++ [])
  made_more l s x = every_append (WasMade s.made) l.made [] x.made tt

  pub passes : (r : Replica) (x : Step) (l : Local) (s : Group Header) → Under u start i l s → KeepsStored r l.member → Visits r x → Passes x.script l s
  passes r _ l s y stored (sees q un) = record { after = s; under = y; cuts = tt; memory = refl; slots = refl }
  passes r _ l s y stored (rewrites h q above is un) = record {
    after = s;
    under = record { reached = y.reached; sent = y.sent; chosen = y.chosen; others = y.others; disk = disk_through r l h (s.members i) y.disk stored above is; made = made_more l s y; none_made = y.none_made };
    cuts = (stops u start i l (begun (Rewrite h) l) s y (disk_begun r l h (s.members i) y.disk stored above is) (made_more l s y), tt);
    memory = refl;
    slots = refl;
  }
  passes r _ l s y stored (mends q un) =
      let z : Member Header = record (s.members i) { under = None } in
      record {
        after = becomes s i z;
        under = under_moves u start i l (through (Mend r.saved) l) s z y (move.opens_last i) (disk_mended r l (s.members i) y.disk stored) (made_more l s y);
        cuts = (stops u start i l (begun (Mend r.saved) l) s y y.disk (made_more l s y), tt);
        memory = ap (λ (w : Member Header). w.memory) (member_at s i z);
        slots = ap (λ (w : Member Header). w.slots) (member_at s i z);
      }

  pub goes_visits : (r : Replica) (x : Step) (l : Local) (s : Group Header) → Mid u start i r l s → Visits r x → Goes u start i l x
  goes_visits r x l s y v =
      let p = passes r x l s y.under y.stored v in
      let un = unmoved r x v in
      let a : Group Header = p.after in
      record {
        after = a;
        ends = record {
          under = p.under;
          memory = y.memory;
          running = p.memory ∙ y.running;
          reflects = un.reflects y.memory y.reflects;
          sound = un.sound;
          place = un.index ∙ y.place;
          size = un.n ∙ y.size;
          stored = keeps_visited r x l (s.members i) y.under.disk y.stored v;
          ready = subst (λ w. Every (MayBeSaid u start.sent i y.memory w) (carried x.script l).said) (sym p.slots) (said_visited (MayBeSaid u start.sent i y.memory (s.members i).slots) r x l v y.ready);
        };
        cuts = p.cuts;
      }

  pub goes_visit : {F : Type 0} (t : Setting F) (r : Replica) (f : F) (l : Local) (s : Group Header) → Mid u start i r l s → Goes u start i l (visit t r f)
  goes_visit t r f l s x = goes_visits r (visit t r f) l s x (visits_is t r f x.sound)

  -- ---- and at the end of a step

  finished_so : (r q : Replica) (l k : Local) (s : Group Header) (y : Finished u start i r l s) → Unmoved r q → IsDisk k.member (s.members i) → KeepsStored q k.member → k.made ≡ l.made ++ [] → k.said ≡ l.said ++ [] → Finished u start i q k s
  finished_so r q l k s y un disk stored made said = record {
    reached = y.reached;
    others = y.others;
    disk = disk;
    made = subst (Every (WasMade s.made)) (sym made) (every_append (WasMade s.made) l.made [] y.made tt);
    none_made = y.none_made;
    memory = y.memory;
    running = y.running;
    reflects = un.reflects y.memory y.reflects;
    sound = un.sound;
    place = un.index ∙ y.place;
    size = un.n ∙ y.size;
    stored = stored;
    served = y.served;
    kept = y.kept;
    chosen = y.chosen;
    told = subst (Every (IsTrue u start.sent s.sent)) (sym said) (every_append (IsTrue u start.sent s.sent) l.said [] y.told tt);
    only = λ w h. elim (y.only w h) [ inl old ↦ inl old | inr is ↦ inr (subst (λ os. IsSaid u os w) (sym said) (said_more u l.said (l.said ++ []) (λ p j. in_left p l.said [] j) w is)) ];
  }

  -- the superblock's cut value is forgotten
  finished_cleared : (r : Replica) (l : Local) (s : Group Header) (v : Replica) (y : Finished u start i r l s) → IsDisk (through (Mend v.saved) l).member (record (s.members i) { under = None })
      → KeepsStored r (through (Mend v.saved) l).member → Finished u start i r (through (Mend v.saved) l) (becomes s i (record (s.members i) { under = None }))
  finished_cleared r l s v y disk keeps =
      let z : Member Header = record (s.members i) { under = None } in
      record {
        reached = move.and_then s (becomes s i z) y.reached (move.opens_last i);
        others = λ j n. elsewhere s.members i z j n ∙ y.others j n;
        disk = subst (IsDisk (through (Mend v.saved) l).member) (sym (member_at s i z)) disk;
        made = every_append (WasMade s.made) l.made [] y.made tt;
        none_made = y.none_made;
        memory = y.memory;
        running = ap (λ (w : Member Header). w.memory) (member_at s i z) ∙ y.running;
        reflects = y.reflects;
        sound = y.sound;
        place = y.place;
        size = y.size;
        stored = keeps;
        served = y.served;
        kept = y.kept;
        chosen = y.chosen;
        told = every_append (IsTrue u start.sent s.sent) l.said [] y.told tt;
        only = λ w h. elim (y.only w h) [ inl old ↦ inl old | inr is ↦ inr (said_more u l.said (l.said ++ []) (λ p j. in_left p l.said [] j) w is) ];
      }

  unmoved_end : (r q : Replica) (l : Local) (s : Group Header) (y : Finished u start i r l s) → Unmoved r q → Finished u start i q l s
  unmoved_end r q l s y un = record {
    reached = y.reached;
    others = y.others;
    disk = y.disk;
    made = y.made;
    none_made = y.none_made;
    memory = y.memory;
    running = y.running;
    reflects = un.reflects y.memory y.reflects;
    sound = un.sound;
    place = un.index ∙ y.place;
    size = un.n ∙ y.size;
    stored = un.keeps l.member y.stored;
    served = y.served;
    kept = y.kept;
    chosen = y.chosen;
    told = y.told;
    only = y.only;
  }

  pub finished_visits : (r : Replica) (x : Step) (l : Local) (s : Group Header) → Finished u start i r l s → Visits r x → (a : Group Header) × Finished u start i x.replica (carried x.script l) a
  finished_visits r _ l s y (sees q un) = (s, unmoved_end r q l s y un)
  finished_visits r _ l s y (rewrites h q above is un) =
      (s, finished_so r q l (through (Rewrite h) l) s y un (disk_through r l h (s.members i) y.disk y.stored above is) (keeps_through r l h (s.members i) y.disk y.stored above is q (un.keeps l.member y.stored)) refl refl)
  finished_visits r _ l s y (mends q un) =
      let w = unmoved_end r q l s y un in (
        becomes s i (record (s.members i) { under = None }),
        finished_cleared q l s r w (disk_mended r l (s.members i) y.disk y.stored) (keeps_mended r l (s.members i) y.disk y.stored q w.stored),
      )
