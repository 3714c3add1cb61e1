-- The first part of an opening: the value is mended and headers are written again, while the member is stopped.
use Rattle.std.proofs.Common.{ℕ, zero, suc, ◌+◌, ◌-◌, ◌%◌, ◌≤◌, ◌<◌, ◌≡◌, ◌≢◌, ◌∙◌, ◌⊎◌, inl, inr, arith, refl, sym, ap, subst, true, false, cond, List, [], ◌∷◌, ◌++◌, length, filter, replicate, set, Option, Some, None}
use Rattle.std.specs.Prelude.{Contains, nat_le, slice_get}
use Rattle.std.specs.List.{range_with_len}
use Rattle.std.proofs.lemmas.Bool.{cases_eq, cases_lt, leb-true, le-ltb}
use Rattle.std.proofs.lemmas.List.{get_or-replicate, get_or_past, get_or-set_other, length-replicate, length-set}
use Rattle.vr_header.specs.declared.header.Header.{Header}
use Rattle.vr_header.specs.declared.part.Part.TheVariants as part
use Rattle.vr_header.specs.Made.{Whole}
use Rattle.vr_msg.specs.Choice.{ops}
use Rattle.vr_header.specs.Parts.{header_of}
use Rattle.vr_recover.specs.declared.readings.Verdict.{Verdict}
use Rattle.vr_recover.specs.declared.readings.Verdict.TheVariants as verdict
use Rattle.vr_super.specs.Copies.{SuperValue}
use Rattle.vr_rules.specs.Replica.{Replica, head, part_at, forgetting, with_part}
use Rattle.vr_rules.specs.Words.{entry_of}
use Rattle.vr_rules.specs.Steps.{Effect, Write, Rewrite, Save, Mend, Checkpoint, PutBlock, Say, Setting, ◌⨾◌, quiet, change, does, reading, each, after_all}
use Rattle.vr_rules.specs.Opening.{Slot, blank, entry_header, first_listed, listed, mend_slot, old_headers, part_by, recover_old, recover_op, recover_parts, rewrite, slot_at, slot_verdict, stored_above, old_part, some_part, clouded, clouded_at, clouded_part, is_listed}
use Rattle.vr_world.specs.Group as group
use Rattle.vr_world.specs.Group.{AreSound, IsFoundAbove, IsUndenied, MayOpen, kept_at, kept_under}
use Rattle.vr_rules.specs.Laws.{ReadsHeaders}
use Rattle.vr_rules.proofs.Heads.{Spans, forgetting_at, forgetting_head, forgetting_known, forgetting_spans, head_reaches, known_within, knows_some, part_before, part_within, remade, remade_at, remade_known, with_part_at, with_part_other}
use Rattle.vr_rules.proofs.Openings.{clouded_header, first_is, found_op, found_ops, found_old, found_olds, partly_blank, partly_clouded, partly_spans, IsOld}
use Rattle.vr_rules.specs.Found.{IsOf, Partly}
use Rattle.vr_rules.proofs.Slots.{Value}
use Rattle.law_1_machine.specs.Basics.{In, update}
use Rattle.law_1_machine.specs.Group.{Group, Member, becomes, made_at}
use Rattle.law_1_machine.specs.Members.{Superblock}
use Rattle.law_1_machine.specs.Machine as move
use Rattle.law_2_chains.specs.Local.{Local, begun, through, carried, WhereverCut}
use Rattle.law_2_chains.specs.Reflecting.{IsUnder, IsValue}
use Rattle.law_2_chains.specs.Chains.{Setup, Every, AsksNothing, WasMade, Under, Stopped}
use Rattle.law_2_chains.proofs.Scripts.{every_append, every_map}
use Rattle.law_2_chains.proofs.Moving.{member_at, under_moves}
use Rattle.law_2_chains.proofs.Writing.{disk_writes, under_is, under_keeps}

-- ---- what is written again is found

-- a header is written for an entry that is found stored, of an op in these bounds
abbrev IsRewriting : Replica → ℕ → ℕ → Effect → Type 0
IsRewriting q lo hi (Rewrite h) = (k : ℕ) × (lo < k) × (k ≤ hi) × (part_at q k ≡ part.Here h)
IsRewriting q lo hi (Write again e) = ⊥
IsRewriting q lo hi (Save old new) = ⊥
IsRewriting q lo hi (Mend v) = ⊥
IsRewriting q lo hi (Checkpoint cluster texts op old) = ⊥
IsRewriting q lo hi (PutBlock name block) = ⊥
IsRewriting q lo hi (Say o) = ⊥

rewriting_more : (q p : Replica) (a b c d : ℕ) → c ≤ a → b ≤ d → ((k : ℕ) (h : Header) → a < k → k ≤ b → part_at q k ≡ part.Here h → part_at p k ≡ part.Here h) → (e : Effect) → IsRewriting q a b e → IsRewriting p c d e
rewriting_more q p a b c d l m f (Rewrite h) x = (x.0, omega (arith, x.1), omega (arith, x.2), f x.0 h x.1 x.2 x.3)
rewriting_more q p a b c d l m f (Write again e) x = absurd x
rewriting_more q p a b c d l m f (Save old new) x = absurd x
rewriting_more q p a b c d l m f (Mend v) x = absurd x
rewriting_more q p a b c d l m f (Checkpoint cluster texts op old) x = absurd x
rewriting_more q p a b c d l m f (PutBlock name block) x = absurd x
rewriting_more q p a b c d l m f (Say o) x = absurd x

rewrite_same : {F : Type 0} (o : Option Header) (s : Setting F) (r : Replica) (f : F) → (rewrite o s r f).replica ≡ r
unfolding does quiet
rewrite_same None s r f = refl
rewrite_same (Some h) s r f = refl

mend_same : {F : Type 0} (x : Slot) (t : Verdict) (s : Setting F) (r : Replica) (f : F) → (mend_slot x t s r f).replica ≡ r
unfolding quiet
mend_same x verdict.Rewrite s r f = rewrite_same (entry_header x) s r f
mend_same x _ s r f = refl

rewrite_writes : {F : Type 0} (o : Option Header) (s : Setting F) (r : Replica) (f : F) (q : Replica) (n k : ℕ) → n < k → part_at q k ≡ some_part part.Here o → Every (IsRewriting q n k) (rewrite o s r f).script
unfolding does quiet
rewrite_writes None s r f q n k l is = tt
rewrite_writes (Some h) s r f q n k l is = ((k, l, omega arith, is), tt)

mend_writes : {F : Type 0} (v : SuperValue) (x : Slot) (t : Verdict) (s : Setting F) (r : Replica) (f : F) (q : Replica) (n k : ℕ) → n < k → part_at q k ≡ part_by v k x t → Every (IsRewriting q n k) (mend_slot x t s r f).script
unfolding quiet
mend_writes v x verdict.Rewrite s r f q n k l is = rewrite_writes (entry_header x) s r f q n k l is
mend_writes v x _ s r f q n k l is = tt

module _ {F : Type 0} (v : SuperValue) (w : Value v) (s : Setting F) where
  op_room : (n : ℕ) (r : Replica) → v.fields.checkpoint ≤ n → n < v.fields.checkpoint + 64 → Partly v n r → (r.first ≤ n + 1) × (n + 1 < r.first + length r.parts)
  op_room n r a b p =
      let first = first_is v n r p in
      let reach = w.reach in
      let size = p.size in
      (omega arith, omega arith)

  op_at : (n : ℕ) (r : Replica) (f : F) → v.fields.checkpoint ≤ n → n < v.fields.checkpoint + 64 → Partly v n r
      → part_at (recover_op v (n + 1) s r f).replica (n + 1) ≡ part_by v (n + 1) (slot_at (n + 1) s f) (slot_verdict v (n + 1) (slot_at (n + 1) s f))
  unfolding recover_op reading change ◌⨾◌
  op_at n r f a b p =
      let x = slot_at (n + 1) s f in
      let t = slot_verdict v (n + 1) x in
      let room = op_room n r a b p in
      rw (mend_same x t s r f) (with_part_at (n + 1) (part_by v (n + 1) x t) r room.0 room.1)

  op_other : (n : ℕ) (r : Replica) (f : F) (j : ℕ) → v.fields.checkpoint ≤ n → n < v.fields.checkpoint + 64 → Partly v n r → j ≤ n → part_at (recover_op v (n + 1) s r f).replica j ≡ part_at r j
  unfolding recover_op reading change ◌⨾◌
  op_other n r f j a b p l =
      let x = slot_at (n + 1) s f in
      let t = slot_verdict v (n + 1) x in
      let room = op_room n r a b p in
      rw (mend_same x t s r f) (with_part_other (n + 1) (part_by v (n + 1) x t) r j room.0 (λ e. omega (arith, e, l)))

  op_script : (n : ℕ) (r : Replica) (f : F) (q : Replica) → part_at q (n + 1) ≡ part_by v (n + 1) (slot_at (n + 1) s f) (slot_verdict v (n + 1) (slot_at (n + 1) s f)) → Every (IsRewriting q n (n + 1)) (recover_op v (n + 1) s r f).script
  unfolding recover_op reading change ◌⨾◌
  op_script n r f q is =
      let x = slot_at (n + 1) s f in
      let t = slot_verdict v (n + 1) x in
      every_append (IsRewriting q n (n + 1)) (mend_slot x t s r f).script [] (mend_writes v x t s r f q n (n + 1) (omega arith) is) tt

  op_writes : (n : ℕ) (r : Replica) (f : F) → v.fields.checkpoint ≤ n → n < v.fields.checkpoint + 64 → Partly v n r → Every (IsRewriting (recover_op v (n + 1) s r f).replica n (n + 1)) (recover_op v (n + 1) s r f).script
  op_writes n r f a b p = op_script n r f (recover_op v (n + 1) s r f).replica (op_at n r f a b p)

  -- ops that are found already stay so
  ops_other : (count n : ℕ) (r : Replica) (f : F) (j : ℕ) → v.fields.checkpoint ≤ n → n + count ≤ v.fields.checkpoint + 64 → Partly v n r → ReadsHeaders s f → j ≤ n
      → part_at (each (recover_op v) (range_with_len (n + 1) count) s r f).replica j ≡ part_at r j
  unfolding each quiet ◌⨾◌
  ops_other zero n r f j a b p k l = refl
  ops_other (suc count) n r f j a b p k l =
      let found = found_op v n s r f w a (omega arith) p k in
      let x = recover_op v (n + 1) s r f in
      ops_other count (n + 1) x.replica (after_all s f x.script) j (omega arith) (omega arith) found.partly found.reads (omega arith) ∙ op_other n r f j a (omega arith) p l

  ops_write : (count n : ℕ) (r : Replica) (f : F) → v.fields.checkpoint ≤ n → n + count ≤ v.fields.checkpoint + 64 → Partly v n r → ReadsHeaders s f
      → Every (IsRewriting (each (recover_op v) (range_with_len (n + 1) count) s r f).replica n (n + count)) (each (recover_op v) (range_with_len (n + 1) count) s r f).script
  unfolding each quiet ◌⨾◌
  ops_write zero n r f a b p k = tt
  ops_write (suc count) n r f a b p k =
      let found = found_op v n s r f w a (omega arith) p k in
      let x = recover_op v (n + 1) s r f in
      let d = after_all s f x.script in
      let y = each (recover_op v) (range_with_len (n + 1 + 1) count) s x.replica d in
      let rest = ops_write count (n + 1) x.replica d (omega arith) (omega arith) found.partly found.reads in
      every_append (IsRewriting y.replica n (n + suc count)) x.script y.script
      (every_map (IsRewriting x.replica n (n + 1)) (IsRewriting y.replica n (n + suc count)) x.script (rewriting_more x.replica y.replica n (n + 1) n (n + suc count) (omega arith) (omega arith)
      (λ j h l m is. ops_other count (n + 1) x.replica d j (omega arith) (omega arith) found.partly found.reads m ∙ is)) (op_writes n r f a (omega arith) p))
      (every_map (IsRewriting y.replica (n + 1) (n + 1 + count)) (IsRewriting y.replica n (n + suc count)) y.script (rewriting_more y.replica y.replica (n + 1) (n + 1 + count) n (n + suc count) (omega arith) (omega arith) (λ j h l m is. is)) rest)

  -- ---- ops of the checkpoint: nothing is written, and each is the one that the value names

  olds_write : (hs : List Header) (r : Replica) (f : F) → (each recover_old hs s r f).script ≡ []
  unfolding each quiet ◌⨾◌ recover_old reading change
  olds_write [] r f = refl
  olds_write (h ∷ hs) r f = olds_write hs _ _

  -- up to the checkpoint a header that is known is the one listed
  abbrev Low : Replica → Type 0
  Low r = (k : ℕ) (h : Header) → k ≤ v.fields.checkpoint → header_of (part_at r k) ≡ Some h → listed v k ≡ Some h

  -- a header of the value, at its op
  abbrev Lists : Header → Type 0
  Lists h = IsOld v h × (listed v h.op ≡ Some h)

  old_header : (h g : Header) (o : Option Whole) → header_of (old_part h o) ≡ Some g → h ≡ g
  old_header h g None e = cc
  old_header h g (Some x) e = cc

  old_low : (h : Header) (r : Replica) (f : F) → Lists h → h.op ≤ v.fields.checkpoint → Partly v v.fields.checkpoint r → Low r → Low (recover_old h s r f).replica
  unfolding recover_old reading change
  old_low h r f is a p low k g l e =
      let o = entry_of h s f in
      let first = first_is v v.fields.checkpoint r p in
      let size = p.size in
      let reach = w.reach in
      let from = is.0.1 in
      let at : part_at (with_part h.op (old_part h o) r) h.op ≡ old_part h o = with_part_at h.op (old_part h o) r (omega arith) (omega arith) in
      elim (cases_eq k h.op) [
        | inl same ↦
            let here : header_of (part_at (with_part h.op (old_part h o) r) h.op) ≡ Some g = subst (λ j. header_of (part_at (with_part h.op (old_part h o) r) j) ≡ Some g) same e in
            let one : h ≡ g = old_header h g o (sym (ap header_of at) ∙ here) in
            subst (λ j. listed v j ≡ Some g) (sym same) (is.1 ∙ ap Some one)
        | inr other ↦ low k g l (sym (ap header_of (with_part_other h.op (old_part h o) r k (omega arith) other)) ∙ e)
      ]

  olds_low : (hs : List Header) (r : Replica) (f : F) → ((i : ℕ) (h : Header) → slice_get hs i ≡ Some h → Lists h) → Partly v v.fields.checkpoint r → ReadsHeaders s f → Low r
      → Low (each recover_old (filter (λ h. nat_le h.op v.fields.checkpoint) hs) s r f).replica
  unfolding each quiet ◌⨾◌
  olds_low [] r f are p k low = low
  olds_low (h ∷ hs) r f are p k low =
      let c : ℕ = v.fields.checkpoint in
      let rest = filter (λ h. nat_le h.op c) hs in
      let later : (i : ℕ) (g : Header) → slice_get hs i ≡ Some g → Lists g = λ i g e. are (suc i) g e in
      elim (nat_le h.op c) as (λ b. nat_le h.op c ≡ b → Low (each {F = F} recover_old (cond b (h ∷ rest) rest) s r f).replica) [
        | true ↦ λ t.
            let a = leb-true h.op c t in
            let old = are 0 h refl in
            let found = found_old v h s r f w old.0 a p k in
            let x = recover_old h s r f in
            olds_low hs x.replica (after_all s f x.script) later found.partly found.reads (old_low h r f old a p low)
        | false ↦ λ t. olds_low hs r f later p k low
      ] refl

  listed_at : (i : ℕ) (h : Header) → slice_get v.headers i ≡ Some h → Lists h
  listed_at i h e =
      let is = w.each i h e in
      let op = is.1.at_op in
      let place : h.op - first_listed v ≡ i = omega arith in
      let from : first_listed v ≤ h.op = omega arith in
      ((subst (λ j. IsOf v j h) (sym op) is, from), rw (le-ltb h.op (first_listed v) from, place) e)

blank_nothing : (v : SuperValue) (k : ℕ) → part_at (blank v) k ≡ part.Nothing
unfolding blank
blank_nothing v k =
    let r : Replica = blank v in
    let count : ℕ = v.fields.checkpoint + 65 - first_listed v in
    elim (cases_lt k (first_listed v)) [
      | inl before ↦ part_before r k before
      | inr from ↦
          part_within r k from ∙ elim (cases_lt (k - first_listed v) count) [
            | inl within ↦ get_or-replicate count (k - first_listed v) part.Nothing part.Nothing within
            | inr past ↦ get_or_past r.parts (k - first_listed v) part.Nothing (omega (arith, length-replicate count (part.Nothing)))
          ]
    ]

-- ---- what is recovered

-- the replica's values are those of the superblock's, and its Parts stand at their ops
pub record Finds (v : SuperValue) (q : Replica) (es : List Effect) : Type 0 where
  pub spans : Spans q
  pub one : 1 ≤ q.first
  pub up : v.fields.head ≤ head q
  pub in_place : (k : ℕ) (h : Header) → header_of (part_at q k) ≡ Some h → h.op ≡ k
  pub low : (k : ℕ) (h : Header) → k ≤ v.fields.checkpoint → header_of (part_at q k) ≡ Some h → listed v k ≡ Some h
  pub writes : Every (IsRewriting q v.fields.checkpoint (v.fields.checkpoint + 64)) es
  pub view : q.view ≡ v.fields.view
  pub log_view : q.log_view ≡ v.fields.log_view
  pub commit : q.commit ≡ v.fields.commit
  pub applied : q.applied ≡ v.fields.checkpoint
  pub checkpoint : q.checkpoint ≡ v.fields.checkpoint
  pub missing : q.missing ≡ []
  pub index : q.index ≡ v.fields.replica
  pub n : q.n ≡ v.fields.n
  pub statements : q.statements ≡ replicate v.fields.n None
  pub saved : q.saved ≡ v

clouded_here : (v : SuperValue) (r : Replica) (k : ℕ) (h : Header) → part_at r k ≡ part.Here h → clouded_at v r k ≡ part.Here h
clouded_here v r k h e =
    elim (is_listed v k) as (λ b. cond b (part_at r k) (clouded_part (stored_above r k) (part_at r k)) ≡ part.Here h) [
      | true ↦ e
      | false ↦ ap (clouded_part (stored_above r k)) e
    ]

clouded_is : (v : SuperValue) (r : Replica) → clouded v r ≡ remade (clouded_at v r) r
unfolding clouded
clouded_is v r = refl

module _ {F : Type 0} (v : SuperValue) (w : Value v) (s : Setting F) where
  clouded_part_is : (n k : ℕ) (r : Replica) (h : Header) → Partly v n r → part_at r k ≡ part.Here h → part_at (clouded v r) k ≡ part.Here h
  clouded_part_is n k r h p e =
      let sp = partly_spans v n r w p in
      let near = known_within r k sp (knows_some r k h (ap header_of e)) in
      let parts = sp.parts in
      ap (λ (x : Replica). part_at x k) (clouded_is v r) ∙ (remade_at (clouded_at v r) r k near.0 (omega (arith, near.1)) ∙ clouded_here v r k h e)

  clouded_low : (n : ℕ) (r : Replica) → Partly v n r → ((k : ℕ) (h : Header) → k ≤ v.fields.checkpoint → header_of (part_at r k) ≡ Some h → listed v k ≡ Some h)
      → (k : ℕ) (h : Header) → k ≤ v.fields.checkpoint → header_of (part_at (clouded v r) k) ≡ Some h → listed v k ≡ Some h
  clouded_low n r p low k h l e =
      let sp = partly_spans v n r w p in
      let here : header_of (part_at (remade (clouded_at v r) r) k) ≡ Some h = sym (ap (λ (x : Replica). header_of (part_at x k)) (clouded_is v r)) ∙ e in
      let at = remade_known (clouded_at v r) r k sp (knows_some (remade (clouded_at v r) r) k h here) in
      low k h l (sym (clouded_header v r k) ∙ (sym (ap header_of at) ∙ here))

  -- the last of it: what is forgotten
  finds_forgetting : (n : ℕ) (p : Replica) (es : List Effect) → Partly v n p → v.fields.head ≤ n → ((k : ℕ) (h : Header) → k ≤ v.fields.checkpoint → header_of (part_at p k) ≡ Some h → listed v k ≡ Some h)
      → Every (IsRewriting p v.fields.checkpoint (v.fields.checkpoint + 64)) es → Finds v (forgetting p) es
  unfolding forgetting blank
  finds_forgetting n p es h l low writes =
      let c = v.fields.checkpoint in
      let sp = partly_spans v n p w h in
      let q : Replica = forgetting p in
      let t = forgetting_spans p sp in
      let first = first_is v n p h in
      let ckpt : p.checkpoint ≡ c = ap (λ (x : Replica). x.checkpoint) h.is in
      let one = w.one in
      let reach = t.reach in
      let top = forgetting_head p sp in
      let up = head_reaches p v.fields.head sp (λ k a b. h.known k (omega arith) (omega arith) b) in
      let stays : (k : ℕ) (g : Header) → c < k → k ≤ c + 64 → part_at p k ≡ part.Here g → part_at q k ≡ part.Here g = λ k g a b is. forgetting_at p k (omega arith) ∙ is in
      record {
        spans = t;
        one = omega arith;
        up = omega arith;
        in_place = λ k g e. (h.entries k g (forgetting_known p k g e)).1.at_op;
        low = λ k g a e. low k g a (forgetting_known p k g e);
        writes = every_map (IsRewriting p c (c + 64)) (IsRewriting q c (c + 64)) es (rewriting_more p q c (c + 64) c (c + 64) (omega arith) (omega arith) stays) writes;
        view = ap (λ (x : Replica). x.view) h.is;
        log_view = ap (λ (x : Replica). x.log_view) h.is;
        commit = ap (λ (x : Replica). x.commit) h.is;
        applied = ap (λ (x : Replica). x.applied) h.is;
        checkpoint = ap (λ (x : Replica). x.checkpoint) h.is;
        missing = ap (λ (x : Replica). x.missing) h.is;
        index = ap (λ (x : Replica). x.index) h.is;
        n = ap (λ (x : Replica). x.n) h.is;
        statements = ap (λ (x : Replica). x.statements) h.is;
        saved = ap (λ (x : Replica). x.saved) h.is;
      }

  blank_low : (k : ℕ) (h : Header) → k ≤ v.fields.checkpoint → header_of (part_at (blank v) k) ≡ Some h → listed v k ≡ Some h
  blank_low k h l e = let none : None ≡ Some h = sym (ap header_of (blank_nothing v k)) ∙ e in absurd cc

  pub finds : (f : F) → ReadsHeaders s f → Finds v (recover_parts v s (blank v) f).replica (recover_parts v s (blank v) f).script
  unfolding recover_parts ◌⨾◌ change
  finds f k =
      let c : ℕ = v.fields.checkpoint in
      let window = w.window in
      let a = each recover_old (old_headers v) s (blank v) f in
      let d = after_all s f a.script in
      let one = found_olds v v.headers s (blank v) f w (λ i h e. (listed_at v w s i h e).0) (partly_blank v) k in
      let b = each (recover_op v) (ops c (c + 64)) s a.replica d in
      let two = found_ops v c (c + 64 - c) s a.replica d w (omega arith) (omega arith) one.partly one.reads in
      let p : Replica = clouded v b.replica in
      let partly = partly_clouded v (c + (c + 64 - c)) b.replica w two.partly in
      let lower = olds_low v w s v.headers (blank v) f (listed_at v w s) (partly_blank v) k blank_low in
      let low = clouded_low (c + (c + 64 - c)) b.replica two.partly (λ j h l e. lower j h l (sym (ap header_of (ops_other v w s (c + 64 - c) c a.replica d j (omega arith) (omega arith) one.partly one.reads l)) ∙ e)) in
      let wide : c + (c + 64 - c) ≡ c + 64 = omega arith in
      let writes = every_map (IsRewriting b.replica c (c + (c + 64 - c))) (IsRewriting p c (c + 64)) b.script
      (rewriting_more b.replica p c (c + (c + 64 - c)) c (c + 64) (omega arith) (omega arith) (λ j h l m is. clouded_part_is (c + (c + 64 - c)) j b.replica h two.partly is)) (ops_write v w s (c + 64 - c) c a.replica d (omega arith) (omega arith) one.partly one.reads) in
      let all = every_append (IsRewriting p c (c + 64)) b.script [] writes tt in
      subst (λ (es : List Effect). Finds v (forgetting p) (es ++ (b.script ++ []))) (sym (olds_write v w s (old_headers v) (blank v) f))
      (finds_forgetting (c + (c + 64 - c)) p (b.script ++ []) partly (omega arith) low all)

-- nothing is said
pub silent_all : (q : Replica) (a b : ℕ) (es : List Effect) (l : Local) → Every (IsRewriting q a b) es → Every AsksNothing l.said → Every AsksNothing (carried es l).said
silent_all q a b [] l h free = free
silent_all q a b (Rewrite h ∷ es) l (is, rest) free = silent_all q a b es (through (Rewrite h) l) rest (every_append AsksNothing l.said [] free tt)
silent_all q a b (Write again e ∷ es) l (is, rest) free = absurd is
silent_all q a b (Save old new ∷ es) l (is, rest) free = absurd is
silent_all q a b (Mend w ∷ es) l (is, rest) free = absurd is
silent_all q a b (Checkpoint cluster texts op old ∷ es) l (is, rest) free = absurd is
silent_all q a b (PutBlock name block ∷ es) l (is, rest) free = absurd is
silent_all q a b (Say o ∷ es) l (is, rest) free = absurd is

pub silent_still : (v : SuperValue) (q : Replica) (l : Local) (es : List Effect) → Every (IsRewriting q v.fields.checkpoint (v.fields.checkpoint + 64)) es → Every AsksNothing l.said → Every AsksNothing (carried (Mend v ∷ es) l).said
silent_still v q l es h free = silent_all q v.fields.checkpoint (v.fields.checkpoint + 64) es (through (Mend v) l) h (every_append AsksNothing l.said [] free tt)

-- ---- the machine's moves

-- what is written again of what was found stays sound
sound_rewritten : (v : SuperValue) (q : Replica) (made : List Header) (m : group.Member) (h : Header) → length m.kept ≡ 64 → v.fields.checkpoint < h.op → h.op ≤ v.fields.checkpoint + 64 → part_at q h.op ≡ part.Here h
    → AreSound v (kept_at m) made q → AreSound v (kept_at (group.ends (Rewrite h) (group.begins (Rewrite h) m))) made q
sound_rewritten v q made m h size above near is sound =
    let n : ℕ = h.op % 64 in
    let o : Option Header = kept_under true h (kept_at m h.op) in
    let long = length-set m.kept n o in
    record {
      named = sound.named;
      above = sound.above;
      below = sound.below;
      counted = λ k g a b holds counts.
          elim (cases_eq k h.op) [
            | inl same ↦ subst (λ p. IsUndenied p) (sym is ∙ ap (part_at q) (sym same)) (record { wanted = λ y e. cc; nothing = λ e. cc })
            | inr other ↦
                let apart : k % 64 ≢ n = λ t. other (omega (arith, t)) in
                sound.counted k g a b (sym (get_or-set_other (set m.kept n o) n (k % 64) (Some h) None apart ∙ get_or-set_other m.kept n (k % 64) o None apart) ∙ holds) counts
          ];
    }

-- a stopped member, once this value of its superblock is mended
pub record Mended (u : Setup) (start : Group Header) (i : ℕ) (v : SuperValue) (l : Local) : Type 0 where
  pub after : Group Header
  pub under : Under u start i (through (Mend v) l) after
  pub still : (after.members i).memory ≡ None
  pub cleared : (after.members i).under ≡ None
  pub cut : Stopped u start i (begun (Mend v) l)

module _ (u : Setup) (start : Group Header) (i : ℕ) (v : SuperValue) (l : Local) (s : Group Header) (x : Under u start i l s) (still : (s.members i).memory ≡ None) where
  mend_cut : Stopped u start i (begun (Mend v) l)
  mend_cut = record {
    group = s;
    under = record { reached = x.reached; sent = x.sent; chosen = x.chosen; others = x.others; disk = x.disk; made = every_append (WasMade s.made) l.made [] x.made tt; none_made = x.none_made };
    still = still;
  }

  made_then : Every (WasMade s.made) (through (Mend v) l).made
  made_then = every_append (WasMade s.made) l.made [] x.made tt

  abbrev last_one : Member Header
  last_one = record (s.members i) { under = None }

  mend_last : l.member.last ≡ v → Mended u start i v l
  mend_last is = record {
    after = becomes s i last_one;
    under = under_moves u start i l (through (Mend v) l) s last_one x (move.opens_last i) (let d = x.disk in record { last = subst (λ w. IsValue w (s.members i).last) is d.last; under = tt; slots = d.slots; size = d.size }) made_then;
    still = ap (λ (z : Member Header). z.memory) (member_at s i last_one) ∙ still;
    cleared = ap (λ (z : Member Header). z.under) (member_at s i last_one);
    cut = mend_cut;
  }

  under_of : (o : Option SuperValue) (z : Option (Superblock Header)) → IsUnder o z → o ≡ Some v → (y : Superblock Header) × (z ≡ Some y) × IsValue v y
  under_of None z d e = absurd cc
  under_of (Some w) None d e = absurd d
  under_of (Some w) (Some y) d e = let same : w ≡ v = cc in (y, refl, subst (λ k. IsValue k y) same d)

  mend_under : l.member.under ≡ Some v → Mended u start i v l
  mend_under is =
      let y = under_of l.member.under (s.members i).under x.disk.under is in
      let z : Member Header = record (s.members i) { last = y.0; under = None; memory = None } in
      record {
        after = becomes s i z;
        under = under_moves u start i l (through (Mend v) l) s z x (move.opens_cut i y.0 y.1) (let d = x.disk in record { last = y.2; under = tt; slots = d.slots; size = d.size }) made_then;
        still = ap (λ (z : Member Header). z.memory) (member_at s i z);
        cleared = ap (λ (z : Member Header). z.under) (member_at s i z);
        cut = mend_cut;
      }

  -- whichever value it opens as
  pub mend_stopped : MayOpen l.member v → Mended u start i v l
  mend_stopped (inl is) = mend_last is
  mend_stopped (inr is) = mend_under is

module _ (u : Setup) (start : Group Header) (i : ℕ) (v : SuperValue) (q : Replica) (made : List Header) where
  -- stopped, with this value, and Parts that are sound
  pub record Rests (l : Local) (s : Group Header) : Type 0 where
    pub under : Under u start i l s
    pub still : (s.members i).memory ≡ None
    pub cleared : (s.members i).under ≡ None
    pub last : l.member.last ≡ v
    pub sound : AreSound v (kept_at l.member) made q

  -- carried out on a stopped member
  pub record Mends (l : Local) (es : List Effect) : Type 0 where
    pub after : Group Header
    pub rests : Rests (carried es l) after
    pub cuts : WhereverCut (Stopped u start i) es l

  module _ (h : Header) (l : Local) (s : Group Header) (x : Rests l s) (above : v.fields.checkpoint < h.op) (near : h.op ≤ v.fields.checkpoint + 64)
      (is : part_at q h.op ≡ part.Here h) (may : (listed v h.op ≡ Some h) ⊎ (WasMade start.made h × (h.view ≡ v.fields.log_view))) where
    is_value : IsValue v (s.members i).last
    is_value = subst (λ w. IsValue w (s.members i).last) x.last x.under.disk.last

    source : ((s.members i).last.named h.op ≡ Some h) ⊎ In (made_at (s.members i).last.log_view h.op h) s.made
    source =
        let a = is_value in
        elim may [
          | inl named ↦ inl (a.names h.op ∙ named)
          | inr made ↦ inr (subst (In (made_at (s.members i).last.log_view h.op h)) (sym x.under.none_made) (subst (λ k. In (made_at k h.op h) start.made) (made.1 ∙ sym a.log_view) made.0))
        ]

    window : ((s.members i).last.checkpoint < h.op) × (h.op ≤ (s.members i).last.checkpoint + 64)
    window = let c = is_value.checkpoint in (omega arith, omega arith)

    abbrev meanwhile : Option Header
    meanwhile = kept_under true h (kept_at l.member h.op)

    slot_now : (s.members i).slots (h.op % 64) ≡ kept_at l.member h.op
    slot_now = x.under.disk.slots (h.op % 64)

    abbrev z1 : Member Header
    z1 = record (s.members i) { slots = update (s.members i).slots (h.op % 64) meanwhile }

    abbrev s1 : Group Header
    s1 = becomes s i z1

    made_so : Every (WasMade s.made) (begun (Rewrite h) l).made
    made_so = every_append (WasMade s.made) l.made [] x.under.made tt

    begins : Under u start i (begun (Rewrite h) l) s1
    begins = under_moves u start i l (begun (Rewrite h) l) s z1 x.under
        (move.writes_header i h.op h meanwhile x.still x.cleared window.0 window.1 source
        (elim (under_is true h (kept_at l.member h.op)) [ inl none ↦ inl none | inr same ↦ inr (inl (same ∙ sym slot_now)) ])
        (λ holds. ap (kept_under true h) (sym slot_now ∙ holds) ∙ under_keeps h))
        (disk_writes h.op meanwhile l.member (s.members i) x.under.disk) made_so

    still1 : (s1.members i).memory ≡ None
    still1 = ap (λ (z : Member Header). z.memory) (member_at s i z1) ∙ x.still

    cleared1 : (s1.members i).under ≡ None
    cleared1 = ap (λ (z : Member Header). z.under) (member_at s i z1) ∙ x.cleared

    last1 : (s1.members i).last ≡ (s.members i).last
    last1 = ap (λ (z : Member Header). z.last) (member_at s i z1)

    abbrev z2 : Member Header
    z2 = record (s1.members i) { slots = update (s1.members i).slots (h.op % 64) (Some h) }

    abbrev s2 : Group Header
    s2 = becomes s1 i z2

    ends : Under u start i (through (Rewrite h) l) s2
    ends = under_moves u start i (begun (Rewrite h) l) (through (Rewrite h) l) s1 z2 begins
        (move.writes_header i h.op h (Some h) still1 cleared1 (subst (λ y. y.checkpoint < h.op) (sym last1) window.0) (subst (λ y. h.op ≤ y.checkpoint + 64) (sym last1) window.1)
        (subst (λ y. (y.named h.op ≡ Some h) ⊎ In (made_at y.log_view h.op h) s.made) (sym last1) source) (inr (inr refl)) (λ holds. refl))
        (let d = disk_writes h.op (Some h) (begun (Rewrite h) l).member (s1.members i) begins.disk in record { last = d.last; under = d.under; slots = d.slots; size = d.size })
        (every_append (WasMade s.made) l.made [] x.under.made tt)

    rewritten : Mends l (Rewrite h ∷ [])
    rewritten = record {
      after = s2;
      rests = record {
        under = ends;
        still = ap (λ (z : Member Header). z.memory) (member_at s1 i z2) ∙ still1;
        cleared = ap (λ (z : Member Header). z.under) (member_at s1 i z2) ∙ cleared1;
        last = x.last;
        sound = sound_rewritten v q made l.member h x.under.disk.size above near is x.sound;
      };
      cuts = (record { group = s1; under = begins; still = still1 }, tt);
    }

  -- all that is written again
  pub mends_all : ((h : Header) → Contains made h → WasMade start.made h) → ((k : ℕ) (h : Header) → header_of (part_at q k) ≡ Some h → h.op ≡ k) → (es : List Effect)
      → Every (IsRewriting q v.fields.checkpoint (v.fields.checkpoint + 64)) es → (l : Local) (s : Group Header) → Rests l s → Mends l es
  mends_all were place [] h l s x = record { after = s; rests = x; cuts = tt }
  mends_all were place (Rewrite h ∷ es) (it, rest) l s x =
      let k : ℕ = it.0 in
      let op : h.op ≡ k = place k h (ap header_of it.3) in
      let is : part_at q h.op ≡ part.Here h = ap (part_at q) op ∙ it.3 in
      let may : (listed v h.op ≡ Some h) ⊎ (WasMade start.made h × (h.view ≡ v.fields.log_view)) =
      elim (cases_lt v.fields.head k) [
        | inr below ↦ inl (subst (λ j. listed v j ≡ Some h) (sym op) (sym (x.sound.named k it.1 below) ∙ ap header_of it.3))
        | inl above ↦
            let found : IsFoundAbove made v.fields.log_view k (part.Here h) = subst (IsFoundAbove made v.fields.log_view k) it.3 (x.sound.above k above it.2) in
            inr (were h found.entry, found.in_view)
      ] in
      let a = it.1 in
      let b = it.2 in
      let one = rewritten h l s x (omega arith) (omega arith) is may in
      let more = mends_all were place es rest (through (Rewrite h) l) one.after one.rests in
      record { after = more.after; rests = more.rests; cuts = (one.cuts.0, more.cuts) }
  mends_all were place (Write again e ∷ es) (it, rest) l s x = absurd it
  mends_all were place (Save old new ∷ es) (it, rest) l s x = absurd it
  mends_all were place (Mend w ∷ es) (it, rest) l s x = absurd it
  mends_all were place (Checkpoint cluster texts op old ∷ es) (it, rest) l s x = absurd it
  mends_all were place (PutBlock name block ∷ es) (it, rest) l s x = absurd it
  mends_all were place (Say o ∷ es) (it, rest) l s x = absurd it

  -- ---- the value is mended

  -- before it, the member has stopped
  module _ (l : Local) (s : Group Header) (x : Under u start i l s) (still : (s.members i).memory ≡ None) (sound : AreSound v (kept_at l.member) made q) where
    mend_first : MayOpen l.member v → Mends l (Mend v ∷ [])
    mend_first may =
        let y = mend_stopped u start i v l s x still may in
        record { after = y.after; rests = record { under = y.under; still = y.still; cleared = y.cleared; last = refl; sound = sound }; cuts = (y.cut, tt) }

    pub mends_value : MayOpen l.member v → ((h : Header) → Contains made h → WasMade start.made h) → ((k : ℕ) (h : Header) → header_of (part_at q k) ≡ Some h → h.op ≡ k) → (es : List Effect)
        → Every (IsRewriting q v.fields.checkpoint (v.fields.checkpoint + 64)) es → Mends l (Mend v ∷ es)
    mends_value may were place es all =
        let one = mend_first may in
        let more = mends_all were place es all (through (Mend v) l) one.after one.rests in
        record { after = more.after; rests = more.rests; cuts = (one.cuts.0, more.cuts) }
