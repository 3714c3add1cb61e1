-- Save: the superblock takes the present values. It is the end of one of the machine's moves, and may be cut; what is forgotten is
-- forgotten after it.
use Rattle.std.proofs.Common.{ℕ, ◌+◌, ◌-◌, ◌≤◌, ◌<◌, ◌≡◌, ◌≢◌, ◌∙◌, inl, inr, arith, refl, sym, ap, subst, List, [], ◌∷◌, length, Option, Some, None}
use Rattle.std.specs.Prelude.{slice_get}
use Rattle.std.proofs.lemmas.Bool.{cases_lt, lt-ltb, le-ltb}
use Rattle.vr_header.specs.declared.header.Header.{Header}
use Rattle.vr_header.specs.Parts.{header_of}
use Rattle.vr_msg.specs.Logs.{FromOp}
use Rattle.vr_rules.specs.Replica.{Replica, part_at, head, run, run_start}
use Rattle.vr_rules.specs.Steps.{Effect, Setting, Word, ◌⨾◌, change, does, after_all}
use Rattle.vr_rules.specs.Words.{value_of, saves, with_saved, save}
use Rattle.vr_rules.specs.Opening.{listed, first_listed}
use Rattle.vr_rules.specs.Sound.{IsSound}
use Rattle.vr_rules.proofs.Keeping.{sound_alike}
use Rattle.vr_rules.proofs.Stating.{back, back_at, run_of}
use Rattle.vr_rules.proofs.SavesCore.{heads, in_order}
use Rattle.vr_rules.proofs.Taking.{log_reaches}
use Rattle.vr_rules.proofs.Trying.{from_at}
use Rattle.std.proofs.lemmas.List.{length-reverse}
use Rattle.law_1_machine.specs.Group.{Group, Member, becomes}
use Rattle.law_1_machine.specs.Members.{Memory, Names, superblock}
use Rattle.law_1_machine.specs.Parts.{header}
use Rattle.law_1_machine.specs.Machine as move
use Rattle.law_2_chains.specs.Local.{Local, begun, through, carried}
use Rattle.law_2_chains.specs.Reflecting.{entries_by, told_of, Reflects, IsValue, IsDisk, KeepsStored}
use Rattle.law_2_chains.specs.Chains.{Setup, Every, MayBeSaid, WasMade, Under, Mid, Stopped, Goes}
use Rattle.law_2_chains.proofs.Scripts.{every_append, goes_then}
use Rattle.law_2_chains.proofs.Moving.{member_at, memory_at, under_moves, mid_runs}
use Rattle.law_2_chains.proofs.Writing.{told_header}

-- ---- what a value names

abbrev pub Knows : Replica → ℕ → Header → Type 0
Knows r k h = header_of (part_at r k) ≡ Some h

pub run_knows : (r : Replica) → IsSound r → FromOp (Knows r) (run_start r + 1) (run r)
unfolding run
run_knows r h =
    let w = run_of r h in
    let start = w.start in
    let first = w.first in
    let size : length (run r) ≡ length (heads (back r)) = length-reverse (heads (back r)) in
    let begin : head r + 1 - length (heads (back r)) ≡ run_start r + 1 = omega (arith, size, start) in
    subst (λ k. FromOp (Knows r) k (run r)) begin
    (in_order (Knows r) (head r) (back r) (omega (arith, size, start)) (λ i g l e.
    sym (ap header_of (back_at r i h (omega (arith, size, start, first, l)))) ∙ e))

first_is : (r : Replica) → IsSound r → first_listed (value_of r) ≡ run_start r + 1
unfolding value_of
first_is r h = let start = (run_of r h).start in omega arith

headers_are : (r : Replica) → (value_of r).headers ≡ run r
unfolding value_of
headers_are r = refl

listed_from : (r : Replica) (k : ℕ) → IsSound r → run_start r < k → listed (value_of r) k ≡ slice_get (run r) (k - (run_start r + 1))
listed_from r k h a = let first = first_is r h in rw (first, headers_are r, le-ltb k (run_start r + 1) (omega arith)) refl

pub listed_known : (r : Replica) (k : ℕ) (h : Header) → IsSound r → listed (value_of r) k ≡ Some h → header_of (part_at r k) ≡ Some h
listed_known r k h sound e =
    elim (cases_lt (run_start r) k) [
      | inl above ↦
          let place : run_start r + 1 + (k - (run_start r + 1)) ≡ k = omega arith in
          subst (λ j. Knows r j h) place (from_at (Knows r) (run_start r + 1) (run r) (k - (run_start r + 1)) h (run_knows r sound) (sym (listed_from r k sound above) ∙ e))
      | inr below ↦
          let first = first_is r sound in
          let no_header : None ≡ Some h = rw (first, lt-ltb k (run_start r + 1) (omega arith)) at e in cc
    ]

pub listed_all : (r : Replica) (k : ℕ) → IsSound r → r.checkpoint < k → k ≤ head r → listed (value_of r) k ≡ header_of (part_at r k)
listed_all r k sound a b =
    let w = run_of r sound in
    let start = w.start in
    let reach = w.reach in
    let there = log_reaches (run r) (k - (run_start r + 1)) (omega arith) in
    let is : listed (value_of r) k ≡ Some there.0 = listed_from r k sound (omega arith) ∙ there.1 in
    is ∙ sym (listed_known r k there.0 sound is)

-- ---- the memory that is saved: what the replica knows, and maybe more of what the checkpoint covers

pub record Covers (q : Replica) (m : Memory Header) : Type 0 where
  pub view : m.view ≡ q.view
  pub log_view : m.log_view ≡ q.log_view
  pub checkpoint : m.checkpoint ≡ q.checkpoint
  pub commit : m.commit ≡ q.commit
  pub applied : m.applied ≡ q.applied
  pub reach : m.head ≡ head q
  pub parts : (k : ℕ) → q.checkpoint < k → m.parts k ≡ told_of (part_at q k)
  pub low : (k : ℕ) (h : Header) → header_of (part_at q k) ≡ Some h → header (m.parts k) ≡ Some h
  pub loaded : q.missing ≡ [] → (l : List Header) × (m.state ≡ Some l)
  pub waits : q.missing ≢ [] → m.state ≡ None

-- with what the replica knows alone
abbrev pub forgotten : Replica → Memory Header → Memory Header
forgotten q m = record m { parts = λ k. told_of (part_at q k) }

pub names_of : (q : Replica) (m : Memory Header) → IsSound q → Covers q m → Names m (listed (value_of q))
names_of q m sound c = record {
  known = λ k h e. c.low k h (listed_known q k h sound e);
  all = λ k a b.
      let ckpt = c.checkpoint in
      let reach = c.reach in
      let above : q.checkpoint < k = omega arith in
      listed_all q k sound above (omega arith) ∙ (sym (told_header (part_at q k)) ∙ sym (ap header (c.parts k above)));
}

pub value_is : (q : Replica) (m : Memory Header) → Covers q m → IsValue (value_of q) (superblock m (listed (value_of q)))
unfolding value_of
value_is q m c = record { view = c.view; log_view = c.log_view; checkpoint = c.checkpoint; commit = c.commit; reach = c.reach; names = λ k. refl }

-- soundness sees nothing of what is saved but the version
pub saved_sound : (q : Replica) → IsSound q → IsSound (with_saved q)
unfolding value_of
saved_sound q sound = sound_alike q (with_saved q) refl sound

pub reflects_saved : (q : Replica) (m : Memory Header) → Covers q m → Reflects (with_saved q) (forgotten q m)
unfolding head part_at
reflects_saved q m c = record {
  view = c.view;
  log_view = c.log_view;
  checkpoint = c.checkpoint;
  commit = c.commit;
  applied = c.applied;
  reach = c.reach;
  parts = λ k. refl;
  loaded = c.loaded;
  waits = c.waits;
}

-- the value that was saved is the disk's
pub keeps_saved : (q : Replica) (l : Local) → KeepsStored q l.member → KeepsStored (with_saved q) (through (saves q) l).member
unfolding part_at
keeps_saved q l k = (k.0, refl)

-- ---- the word

-- q is saved, from the machine's memory m by a move that gives m'
module _ (u : Setup) (start : Group Header) (i : ℕ) (q : Replica) (l : Local) (s : Group Header) (x : Under u start i l s) (m m' : Memory Header) (runs : (s.members i).memory ≡ Some m)
    (may : move.Save u.quorums (entries_by u.hash u.cluster) s m m') (c : Covers q m') (sound : IsSound q) (place : q.index ≡ i) (size : q.n ≡ u.quorums.n) (stored : KeepsStored q l.member)
    (ready : Every (MayBeSaid u start.sent i (forgotten q m') (s.members i).slots) l.said) where
  abbrev effect : Effect
  effect = saves q

  abbrev named : ℕ → Option Header
  named = listed (value_of q)

  made_so : Every (WasMade s.made) (begun effect l).made
  made_so = every_append (WasMade s.made) l.made [] x.made tt

  -- it is cut
  abbrev z0 : Member Header
  z0 = record (s.members i) { under = Some (superblock m' named); memory = None }

  disk_cut : IsDisk (begun effect l).member z0
  disk_cut = let d = x.disk in record { last = d.last; under = value_is q m' c; slots = d.slots; size = d.size }

  pub save_cut : Stopped u start i (begun effect l)
  save_cut =
      let y = under_moves u start i l (begun effect l) s z0 x (move.saves_cut i m m' named runs may (names_of q m' sound c)) disk_cut made_so in
      record {
        group = becomes s i z0;
        under = y;
        still = ap (λ (z : Member Header). z.memory) (member_at s i z0);
      }

  -- it ends
  abbrev z1 : Member Header
  z1 = record (s.members i) { last = superblock m' named; under = None; memory = Some m' }

  abbrev s1 : Group Header
  s1 = becomes s i z1

  disk_saved : IsDisk (through effect l).member z1
  disk_saved = let d = x.disk in record { last = value_is q m' c; under = tt; slots = d.slots; size = d.size }

  saved : Under u start i (through effect l) s1
  saved = under_moves u start i l (through effect l) s z1 x (move.saves i m m' named runs may (names_of q m' sound c)) disk_saved made_so

  -- and what is below the checkpoint may be forgotten
  abbrev z2 : Member Header
  z2 = record (s1.members i) { memory = Some (forgotten q m') }

  abbrev s2 : Group Header
  s2 = becomes s1 i z2

  forgets : Under u start i (through effect l) s2
  forgets =
      let d = saved.disk in
      let ckpt = c.checkpoint in
      under_moves u start i (through effect l) (through effect l) s1 z2 saved
      (move.remembers i m' (forgotten q m') (memory_at s i z1 m' refl) (move.forgets (λ k. told_of (part_at q k)) (λ k a. sym (c.parts k (omega arith))) (λ k h e. c.low k h (sym (told_header (part_at q k)) ∙ e))))
      (record { last = d.last; under = d.under; slots = d.slots; size = d.size }) made_so

  slots_same : (z2.slots) ≡ (s.members i).slots
  slots_same = ap (λ (z : Member Header). z.slots) (member_at s i z1)

  pub save_after : Group Header
  save_after = s2

  pub save_ends : Mid u start i (with_saved q) (through effect l) save_after
  unfolding save_after
  save_ends = mid_runs u start i (with_saved q) (through effect l) s1 z2 (forgotten q m') forgets refl (reflects_saved q m' c) (saved_sound q sound) place size
      (keeps_saved q l stored)
      (every_append _ l.said [] (subst (λ (y : ℕ → Option Header). Every (MayBeSaid u start.sent i (forgotten q m') y) l.said) (sym slots_same) ready) tt)

  pub goes_save : {F : Type 0} (t : Setting F) (f : F) → Goes u start i l (save t q f)
  unfolding save ◌⨾◌ does change
  goes_save t f = record { after = save_after; ends = save_ends; cuts = (save_cut, tt) }

  saved_on : {F : Type 0} (w : Word F) (t : Setting F) (f : F) → ((k : Local) (a : Group Header) (d : F) → Mid u start i (with_saved q) k a → Goes u start i k (w t (with_saved q) d))
      → (a : Group Header) → Mid u start i (save t q f).replica (carried (save t q f).script l) a → Goes u start i (carried (save t q f).script l) (w t (save t q f).replica (after_all t f (save t q f).script))
  unfolding save ◌⨾◌ does change
  saved_on w t f go a y = go _ a _ y

  -- the same, with the script that is left
  pub goes_save_known : {F : Type 0} (w : Word F) (t : Setting F) (f : F) → ((a : Group Header) (d : F) → Mid u start i (with_saved q) (through effect l) a → Goes u start i (through effect l) (w t (with_saved q) d))
      → Goes u start i l ((save ⨾ w) t q f)
  unfolding save ◌⨾◌ does change
  goes_save_known w t f go =
      let y = go save_after (after_all t f (effect ∷ [])) save_ends in
      record { after = y.after; ends = y.ends; cuts = (save_cut, y.cuts) }

  -- and then the replica goes on
  pub goes_save_then : {F : Type 0} (w : Word F) (t : Setting F) (f : F) → ((k : Local) (a : Group Header) (d : F) → Mid u start i (with_saved q) k a → Goes u start i k (w t (with_saved q) d))
      → Goes u start i l ((save ⨾ w) t q f)
  goes_save_then w t f go = goes_then u start i save w t q f l (goes_save t f) (λ a y. saved_on w t f go a y)
