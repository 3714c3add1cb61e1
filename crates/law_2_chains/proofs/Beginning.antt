-- Views are entered, and begun by their primaries (rule 25): the choice is made, saved, told, and what is stored of it prepared.
use Rattle.std.proofs.Common.{ℕ, ◌+◌, ◌-◌, ◌%◌, ◌≤◌, ◌<◌, ◌≡◌, ◌∙◌, ◌⊎◌, inl, inr, arith, refl, sym, ap, subst, Bool, true, false, not, cond, eqb, List, [], ◌∷◌, length, get_or, set, replicate, map, Option, Some, None, rules}
use Rattle.std.specs.Prelude.{nat_lt, ◌&&◌, ◌==◌, slice_index_or}
use Rattle.std.specs.Option.{option_map_or}
use Rattle.std.proofs.lemmas.Bool.{and_parts, and_from, or_parts, cases_lt, cases_eq, not-false, not-true, ltb-true, ltb-false, le-ltb, lt-ltb, eqb-true, eqb-false}
use Rattle.std.proofs.lemmas.List.{append-nil, get_or-set_same, get_or-set_other, set_past}
use Rattle.vr_base.specs.Groups.{quorums_of}
use Rattle.vr_base.specs.declared.table.Quorums.{Quorums}
use Rattle.vr_header.specs.declared.header.Header.{Header}
use Rattle.vr_header.specs.declared.part.Part.{Part}
use Rattle.vr_header.specs.declared.part.Part.TheVariants.{Here, Lost, Wanted, Unknown, Nothing}
use Rattle.vr_header.specs.Made.{Whole}
use Rattle.vr_header.specs.Parts.{header_of}
use Rattle.vr_msg.specs.declared.event.Event.{Event}
use Rattle.vr_msg.specs.declared.event.Event.TheVariants as event
use Rattle.vr_msg.specs.declared.frame.Frame.TheVariants as frame
use Rattle.vr_msg.specs.declared.frame.DoViewChange.{DoViewChange}
use Rattle.vr_msg.specs.declared.output.Output.{Output}
use Rattle.vr_msg.specs.declared.statement.Statement.{Statement}
use Rattle.vr_msg.specs.declared.choice.Choice.{Choice}
use Rattle.vr_msg.specs.declared.choice.Choice.TheVariants.{Ends, WaitsAt, TooFew}
use Rattle.vr_msg.specs.Choice as said
use Rattle.vr_msg.specs.Choice.{top_view, top_commit, named, ops, choice}
use Rattle.vr_msg.specs.Normal.{primary}
use Rattle.vr_rules.specs.Replica.{Replica, last_view, head, is_alone, is_started, is_primary, part_at, run_start, statement_of, with_part, version}
use Rattle.vr_rules.specs.Outputs.{others, send, send_to_all, start_view, start_view_change, prepare, wait_line}
use Rattle.vr_rules.specs.Steps.{Effect, Say, Setting, Step, Word, ◌⨾◌, quiet, change, does, says, by, reading, when, each, after_all}
use Rattle.vr_rules.specs.Words.{Log, saves, with_saved, save, entered, enter, entry_of, or_lost, lost, with_entry, with_entry_at, taken, take, log_header, may_take, prepare_again, stated, chosen_log, choose_line, begin_view, try_log, obey_choice, decided, try, advance, apply, value_of}
use Rattle.vr_rules.specs.Opening.{listed}
use Rattle.vr_rules.specs.Deciding.{do_view_change_table, is_from, is_for}
use Rattle.vr_rules.specs.Rules.{with_statement, obey_do_view_change, on_do_view_change, tell_view}
use Rattle.vr_rules.specs.Laws.{IsMessage}
use Rattle.vr_rules.specs.Sound.{IsSound, IsStated}
use Rattle.vr_rules.proofs.Ruling.{by_rows, group_of, kept_statement, IsFor}
use Rattle.vr_rules.proofs.SilentSteps.{still_enter}
use Rattle.vr_rules.proofs.SilentWaits.{mute_one, mute_quiet}
use Rattle.vr_rules.proofs.Stating.{run_of, given_at}
use Rattle.vr_rules.specs.Given.{IsLogFor}
use Rattle.vr_rules.proofs.Taking.{MayTake, may_take_is, over, kept_taken}
use Rattle.vr_rules.proofs.Trying.{all_stated, chosen_log_is}
use Rattle.vr_rules.proofs.Wording.{none_stated, kept_entered}
use Rattle.law_1_machine.specs.Basics.{In}
use Rattle.law_1_machine.specs.Group.{Group, Member, becomes, decides}
use Rattle.law_1_machine.specs.Members as machine
use Rattle.law_1_machine.specs.Members.{Memory, Tells, superblock, Do_view_change}
use Rattle.law_1_machine.specs.Parts.{header}
use Rattle.law_1_machine.specs.Parts as part
use Rattle.law_1_machine.specs.Taking.{Takes, taken as machine_taken}
use Rattle.law_1_machine.specs.Machine as move
use Rattle.law_1_machine.specs.Machine.{Chooses, made_choice}
use Rattle.law_1_machine.proofs.Counting.{elsewhere}
use Rattle.law_2_chains.specs.Local.{Local, begun, through, carried}
use Rattle.law_2_chains.specs.Reflecting.{entries_by, told_of, Reflects, IsDisk, KeepsStored}
use Rattle.law_2_chains.specs.Chains.{Setup, Every, AsksNothing, MayBeSaid, WasMade, WasSent, Under, Mid, Stopped, Goes, statement_told}
use Rattle.law_2_chains.specs.Tables.{Fits}
use Rattle.law_2_chains.proofs.Scripts.{every_append, goes_then, goes_regrouped, goes_quiet, goes_by, goes_if}
use Rattle.law_2_chains.proofs.LastWord.{last_word}
use Rattle.law_2_chains.proofs.Readying.{free_ready}
use Rattle.law_2_chains.proofs.Moving.{IsStep, member_at, memory_at, under_moves, mid_runs, mid_stays, goes_says}
use Rattle.law_2_chains.proofs.Writing.{told_header}
use Rattle.law_2_chains.proofs.Saving.{Covers, forgotten, names_of, value_is, reflects_saved, keeps_saved, goes_save_known, saved_sound}
use Rattle.law_2_chains.proofs.Applying.{goes_says_then, goes_with_entry_at, goes_apply}
use Rattle.law_2_chains.proofs.Repairs.{every_mapped, may_prepare, may_start, goes_tell_view}
use Rattle.law_2_chains.proofs.Takes.{parts_over, commit_over, takes_over, covers_taken, keeps_taken, taken_views}
use Rattle.law_2_chains.specs.Choices.{IsMadeFrom, told_if}
use Rattle.law_2_chains.proofs.Picking as picking
use Rattle.law_2_chains.proofs.Picking.{GoesOn, Hears, begin_at, goes_itself, hears_statement, waits_at}
use Rattle.law_2_chains.proofs.Choices.{GoesAndChooses, HasMade, chooses_by, chooses_changed, chooses_if, chooses_naming, chooses_none, chooses_quiet_then, cuts_back, line_made, mid_back, mid_from, then_chooses, then_so, with_chosen}
use Rattle.law_2_chains.proofs.Choosing.{heard_at, told_some, heard, chosen_is, source_is, whole_is}

-- ---- what asks nothing

pub said_free : (os : List Output) (l : Local) → Every AsksNothing l.said → Every AsksNothing os → Every AsksNothing (carried (map Say os) l).said
said_free [] l h k = h
said_free (o ∷ os) l h k = said_free os (through (Say o) l) (every_append AsksNothing l.said (o ∷ []) h (k.0, tt)) k.1

pub enter_is : {F : Type 0} (v : ℕ) (t : Setting F) (r : Replica) (f : F) → nat_lt last_view v ≡ false
    → enter v t r f ≡ record { replica = with_saved (entered v r); script = saves (entered v r) ∷ map Say (send_to_all start_view_change (with_saved (entered v r))) }
unfolding enter save says change does ◌⨾◌
enter_is v t r f low = rw low refl

module _ (u : Setup) (start : Group Header) (i : ℕ) where
  pub goes_says_free_then : {F : Type 0} (os : Replica → List Output) (w : Word F) (t : Setting F) (r : Replica) (f : F) (l : Local) (s : Group Header) (x : Mid u start i r l s) → Every AsksNothing l.said
      → Every AsksNothing (os r) → ((k : Local) (a : Group Header) (d : F) → Every AsksNothing k.said → Mid u start i r k a → Goes u start i k (w t r d)) → Goes u start i l ((says os ⨾ w) t r f)
  unfolding says
  goes_says_free_then os w t r f l s x free more go =
      goes_then u start i (says os) w t r f l (goes_says u start i os t r f l s x (free_ready u start.sent i x.memory (s.members i).slots (os r) more)) (λ a y. go _ a _ (said_free (os r) l free more) y)

  -- ---- a view is entered

  covers_entered : (v : ℕ) (r : Replica) (m : Memory Header) → Reflects r m → Covers (entered v r) (record m { view = v })
  unfolding entered head part_at
  covers_entered v r m f = record {
    view = refl;
    log_view = f.log_view;
    checkpoint = f.checkpoint;
    commit = f.commit;
    applied = f.applied;
    reach = f.reach;
    parts = λ k a. f.parts k;
    low = λ k h e. ap header (f.parts k) ∙ (told_header (part_at r k) ∙ e);
    loaded = f.loaded;
    waits = f.waits;
  }

  keeps_entered : (v : ℕ) (r : Replica) (l : Local) → KeepsStored r l.member → KeepsStored (entered v r) l.member
  unfolding entered part_at
  keeps_entered v r l k = k

  entered_is : (v : ℕ) (r : Replica) → ((entered v r).index ≡ r.index) × ((entered v r).n ≡ r.n) × ((entered v r).view ≡ v)
  unfolding entered
  entered_is v r = (refl, refl, refl)

  pub free_changes : (r : Replica) → Every AsksNothing (send_to_all start_view_change r)
  unfolding send_to_all
  free_changes r = every_mapped AsksNothing (λ to. send to (start_view_change r) r) (others r.index r.n) (λ to. tt)

  pub goes_changed_then : {F : Type 0} (g : Replica → Replica) (w : Word F) (t : Setting F) (r : Replica) (f : F) (l : Local) → ((d : F) → Goes u start i l (w t (g r) d)) → Goes u start i l ((change g ⨾ w) t r f)
  unfolding change ◌⨾◌
  goes_changed_then g w t r f l go = let h = go (after_all t f []) in record { after = h.after; ends = h.ends; cuts = h.cuts }

  goes_save_free_then : {F : Type 0} (q : Replica) (l : Local) (s : Group Header) (x : Under u start i l s) (m m' : Memory Header) (runs : (s.members i).memory ≡ Some m) (may : move.Save u.quorums (entries_by u.hash u.cluster) s m m')
      (c : Covers q m') (sound : IsSound q) (place : q.index ≡ i) (size : q.n ≡ u.quorums.n) (stored : KeepsStored q l.member) → Every AsksNothing l.said → (w : Word F) (t : Setting F) (f : F)
      → ((k : Local) (a : Group Header) (d : F) → Every AsksNothing k.said → Mid u start i (with_saved q) k a → Goes u start i k (w t (with_saved q) d)) → Goes u start i l ((save ⨾ w) t q f)
  goes_save_free_then q l s x m m' runs may c sound place size stored free w t f go =
      goes_save_known u start i q l s x m m' runs may c sound place size stored (free_ready u start.sent i (forgotten q m') (s.members i).slots l.said free) w t f
      (λ a d y. go (through (saves q) l) a d (every_append AsksNothing l.said [] free tt) y)

  pub goes_enter_then : {F : Type 0} (v : ℕ) (w : Word F) (t : Setting F) (r : Replica) (f : F) (l : Local) (s : Group Header) (x : Mid u start i r l s) → Every AsksNothing l.said → r.view ≤ v → nat_lt last_view v ≡ false
      → ((k : Local) (a : Group Header) (d : F) → Every AsksNothing k.said → Mid u start i (with_saved (entered v r)) k a → Goes u start i k (w t (with_saved (entered v r)) d)) → Goes u start i l ((enter v ⨾ w) t r f)
  unfolding enter
  goes_enter_then v w t r f l s x free up low go =
      let p = entered_is v r in
      let view = x.reflects.view in
      rw low
      (goes_regrouped u start i (change (entered v)) (save ⨾ says (send_to_all start_view_change)) w t r f l
      (goes_changed_then (entered v) ((save ⨾ says (send_to_all start_view_change)) ⨾ w) t r f l (λ d.
      goes_regrouped u start i save (says (send_to_all start_view_change)) w t (entered v r) d l
      (goes_save_free_then (entered v r) l s x.under x.memory (record x.memory { view = v }) x.running (move.enters v (omega arith)) (covers_entered v r x.memory x.reflects) (kept_entered v r x.sound up).sound (p.0 ∙ x.place) (p.1 ∙ x.size)
      (keeps_entered v r l x.stored) free (says (send_to_all start_view_change) ⨾ w) t d (λ k a e free y.
      goes_says_free_then (send_to_all start_view_change) w t (with_saved (entered v r)) e k a y free (free_changes (with_saved (entered v r))) go)))))

  -- what does nothing at the end is nothing
  pub goes_drop : {F : Type 0} (w : Word F) (t : Setting F) (r : Replica) (f : F) (l : Local) → Goes u start i l ((w ⨾ quiet) t r f) → Goes u start i l (w t r f)
  unfolding ◌⨾◌ quiet
  goes_drop w t r f l h = subst (λ (es : List Effect). Goes u start i l (record { replica = (w t r f).replica; script = es })) (append-nil (w t r f).script) h

  pub goes_entered : {F : Type 0} (v : ℕ) (t : Setting F) (r : Replica) (f : F) (l : Local) (s : Group Header) → Mid u start i r l s → Every AsksNothing l.said → r.view ≤ v → nat_lt last_view v ≡ false → Goes u start i l (enter v t r f)
  goes_entered v t r f l s x free up low = goes_drop (enter v) t r f l (goes_enter_then v quiet t r f l s x free up low (λ k a d free y. goes_quiet u start i t (with_saved (entered v r)) d k a y))

-- ---- a choice is saved: q is the replica with the log that was chosen

-- the member moves, and a choice is made
under_decides : (u : Setup) (start : Group Header) (i : ℕ) (l l' : Local) (s : Group Header) (z : Member Header) (c : machine.Choice Header) → Under u start i l s → IsStep u s (decides (becomes s i z) c) → IsDisk l'.member z
    → Every (WasMade s.made) l'.made → Under u start i l' (decides (becomes s i z) c)
under_decides u start i l l' s z c x step disk made = record {
  reached = move.and_then s (decides (becomes s i z) c) x.reached step;
  sent = x.sent;
  chosen = λ d h. inr (x.chosen d h);
  others = λ j n. elsewhere s.members i z j n ∙ x.others j n;
  disk = subst (IsDisk l'.member) (sym (member_at s i z)) disk;
  made = made;
  none_made = x.none_made;
}

module _ (u : Setup) (start : Group Header) (i : ℕ) (q : Replica) (l : Local) (s : Group Header) (x : Under u start i l s) (m : Memory Header) (runs : (s.members i).memory ≡ Some m)
    (parts : ℕ → part.Part Header) (n c : ℕ) (b : Chooses u.quorums (entries_by u.hash u.cluster) s i m parts c n) (covers : Covers q (machine_taken m m.view parts c n)) (sound : IsSound q) (place : q.index ≡ i)
    (size : q.n ≡ u.quorums.n) (stored : KeepsStored q l.member) (free : Every AsksNothing l.said) where
  abbrev m' : Memory Header
  m' = machine_taken m m.view parts c n

  abbrev effect : Effect
  effect = saves q

  abbrev names : ℕ → Option Header
  names = listed (value_of q)

  abbrev made_it : machine.Choice Header
  made_it = made_choice u.quorums (entries_by u.hash u.cluster) s i m parts c n b

  made_so : Every (WasMade s.made) (begun effect l).made
  made_so = every_append (WasMade s.made) l.made [] x.made tt

  abbrev z0 : Member Header
  z0 = record (s.members i) { under = Some (superblock m' names); memory = None }

  choose_cut : Stopped u start i (begun effect l)
  choose_cut =
      let d = x.disk in
      record {
        group = decides (becomes s i z0) made_it;
        under = under_decides u start i l (begun effect l) s z0 made_it x (move.chooses_cut i m parts c n names runs b (names_of q m' sound covers)) (record { last = d.last; under = value_is q m' covers; slots = d.slots; size = d.size }) made_so;
        still = ap (λ (z : Member Header). z.memory) (member_at s i z0);
      }

  abbrev z1 : Member Header
  z1 = record (s.members i) { last = superblock m' names; under = None; memory = Some m' }

  abbrev s1 : Group Header
  s1 = decides (becomes s i z1) made_it

  chosen : Under u start i (through effect l) s1
  chosen = let d = x.disk in under_decides u start i l (through effect l) s z1 made_it x (move.chooses i m parts c n names runs b (names_of q m' sound covers)) (record { last = value_is q m' covers; under = tt; slots = d.slots; size = d.size }) made_so

  abbrev z2 : Member Header
  z2 = record (s1.members i) { memory = Some (forgotten q m') }

  forgets : Under u start i (through effect l) (becomes s1 i z2)
  forgets =
      let d = chosen.disk in
      let ckpt = covers.checkpoint in
      under_moves u start i (through effect l) (through effect l) s1 z2 chosen
      (move.remembers i m' (forgotten q m') (memory_at s i z1 m' refl) (move.forgets (λ k. told_of (part_at q k)) (λ k a. sym (covers.parts k (omega arith))) (λ k h e. covers.low k h (sym (told_header (part_at q k)) ∙ e))))
      (record { last = d.last; under = d.under; slots = d.slots; size = d.size }) made_so

  choose_ends : Mid u start i (with_saved q) (through effect l) (becomes s1 i z2)
  choose_ends = mid_runs u start i (with_saved q) (through effect l) s1 z2 (forgotten q m') forgets refl (reflects_saved q m' covers) (saved_sound q sound) place size (keeps_saved q l stored)
      (free_ready u start.sent i (forgotten q m') z2.slots (through effect l).said (every_append AsksNothing l.said [] free tt))

  -- what comes after it begins with that choice
  pub goes_choose : {F : Type 0} (w : Word F) (t : Setting F) (f : F)
      → ((a : Group Header) (d : F) → Mid u (with_chosen s1.chosen start) i (with_saved q) (through effect l) a → Goes u (with_chosen s1.chosen start) i (through effect l) (w t (with_saved q) d))
      → (z : Goes u start i l ((save ⨾ w) t q f)) × In made_it z.after.chosen
  unfolding save ◌⨾◌ does change
  goes_choose w t f go =
      let y = go (becomes s1 i z2) (after_all t f (effect ∷ [])) (mid_from u start i (with_saved q) (through effect l) (becomes s1 i z2) choose_ends) in
      let z = w t (with_saved q) (after_all t f (effect ∷ [])) in
      let ends = mid_back u start i s1.chosen chosen.chosen z.replica (carried z.script (through effect l)) y.after y.ends in
      (record { after = y.after; ends = ends; cuts = (choose_cut, cuts_back u start i s1.chosen chosen.chosen z.script (through effect l) y.cuts) }, y.ends.under.chosen made_it (inl refl))

-- ---- the choice

statement_at : (r : Replica) (k : ℕ) → IsSound r → run_start r < k → said.stated_part k (statement_of r) ≡ part_at r k
unfolding statement_of
statement_at r k sound a =
    let place : run_start r + 1 + (k - (run_start r + 1)) ≡ k = omega arith in
    rw (le-ltb k (run_start r + 1) (omega arith)) (given_at r (k - (run_start r + 1)) sound ∙ ap (part_at r) place)

statement_low : (r : Replica) (k : ℕ) → k ≤ run_start r → said.stated_part k (statement_of r) ≡ Nothing
unfolding statement_of
statement_low r k a = rw (lt-ltb k (run_start r + 1) (omega arith)) refl

pub own_tells : (r : Replica) (m : Memory Header) → IsSound r → Reflects r m → Tells m (statement_told (statement_of r)).tags
own_tells r m sound f =
    let w = run_of r sound in
    let reach = w.reach in
    let low = sound.order.applied in
    let below = sound.order.commit in
    let commit = f.commit in
    record {
      above = λ k a. ap told_of (statement_at r k sound (omega arith)) ∙ sym (f.parts k);
      known = λ k h e.
          elim (cases_lt (run_start r) k) [
            | inl above ↦ ap header (f.parts k ∙ sym (ap told_of (statement_at r k sound above))) ∙ e
            | inr below ↦ let no_header : None ≡ Some h = sym (ap (λ (p : Part). header (told_of p)) (statement_low r k below)) ∙ e in absurd cc
          ];
    }

pub own_is : (r : Replica) (m : Memory Header) → Reflects r m → statement_told (statement_of r) ≡ machine.statement m (statement_told (statement_of r)).tags
unfolding statement_of
own_is r m f = rw (f.log_view, f.commit, f.reach) refl

-- the statements that a replica has were sent for its view
abbrev pub AreStated : Setup → Group Header → Replica → Type 0
AreStated u start r = (j : ℕ) (t : Statement) → slice_index_or r.statements j None ≡ Some t → In (Do_view_change j r.view (statement_told t)) start.sent

pub decided_of : (o : Option Quorums) (ss : List Statement) (hs : List Header) → option_map_or (λ q. choice q ss) o TooFew ≡ Ends hs → (q : Quorums) × (o ≡ Some q) × (choice q ss ≡ Ends hs)
decided_of None ss hs e = absurd cc
decided_of (Some q) ss hs e = (q, refl, e)

module _ (u : Setup) (fits : Fits u) (start : Group Header) (i : ℕ) (r : Replica) (l : Local) (s : Group Header) (x : Mid u start i r l s) (heard_ones : AreStated u start r) (first : is_primary r ≡ true)
    (lower : r.log_view < r.view) (q : Quorums) (hs : List Header) (ends : choice q (stated r) ≡ Ends hs) (nack_is : q.nack ≡ u.quorums.nack) (may : MayTake (chosen_log r (stated r) hs) r) where
  abbrev log : Log
  log = chosen_log r (stated r) hs

  log_is : IsLogFor r log
  log_is = chosen_log_is r q (stated r) hs (all_stated r x.sound) ends

  -- each statement was sent, or is its own
  heard_from : (j : ℕ) (t : machine.Statement Header) → told_if (heard_at r j) ≡ Some t
      → In (Do_view_change j x.memory.view t) s.sent ⊎ ((j ≡ i) × ((tags : ℕ → part.Part Header) × Tells x.memory tags × (t ≡ machine.statement x.memory tags)))
  heard_from j t e =
      let y = told_some (heard_at r j) t e in
      elim (eqb j r.index) as (λ b. eqb j r.index ≡ b → cond b (Some (statement_of r)) (get_or r.statements j None) ≡ Some y.0
      → In (Do_view_change j x.memory.view t) s.sent ⊎ ((j ≡ i) × ((tags : ℕ → part.Part Header) × Tells x.memory tags × (t ≡ machine.statement x.memory tags)))) [
        | true ↦ λ b z.
            let same : statement_of r ≡ y.0 = search (rules, z) in
            inr (eqb-true j r.index b ∙ x.place, ((statement_told (statement_of r)).tags, own_tells r x.memory x.sound x.reflects, sym y.2 ∙ (ap statement_told (sym same) ∙ own_is r x.memory x.reflects)))
        | false ↦ λ b z. inl (rw (x.reflects.view, x.under.sent) (subst (λ (g : machine.Statement Header). In (Do_view_change j r.view g) start.sent) y.2 (heard_ones j y.0 z)))
      ] refl y.1

  chooses : Chooses u.quorums (entries_by u.hash u.cluster) s i x.memory (parts_over log r x.sound log_is may) (commit_over log r x.sound log_is may) (head (over log r))
  chooses =
      let f = x.reflects in
      let view = f.view in
      let log_view = f.log_view in
      let leads = eqb-true r.index (primary r.n r.view) first in
      record {
        lower = omega arith;
        leads = sym x.place ∙ (leads ∙ (ap (λ n. r.view % n) x.size ∙ ap (λ v. v % u.quorums.n) (sym view)));
        log_view = top_view (stated r);
        commit = top_commit (stated r);
        head = log.head;
        heard = heard r x.sound q hs ends u fits x.size nack_is;
        log = named (stated r);
        heard_from = heard_from;
        choice = chosen_is r x.sound q hs ends u fits x.size nack_is;
        low = log.lo;
        headers = log_header log;
        source = source_is r x.sound q hs ends u fits x.size nack_is;
        whole = whole_is r x.sound q hs ends u fits x.size nack_is;
        takes = subst (λ v. Takes x.memory v log.lo log.head log.commit (log_header log) (parts_over log r x.sound log_is may) (commit_over log r x.sound log_is may) (head (over log r))) (sym view) (takes_over log r x.sound log_is may x.memory f);
      }

  covers_it : Covers (taken log r) (machine_taken x.memory x.memory.view (parts_over log r x.sound log_is may) (commit_over log r x.sound log_is may) (head (over log r)))
  covers_it = subst (λ v. Covers (taken log r) (machine_taken x.memory v (parts_over log r x.sound log_is may) (commit_over log r x.sound log_is may) (head (over log r)))) (sym x.reflects.view) (covers_taken log r x.sound log_is may x.memory x.reflects)

  pub goes_take_chosen : {F : Type 0} (w : Word F) (t : Setting F) (f : F) → Every AsksNothing l.said
      → ((cs : List (machine.Choice Header)) (k : Local) (a : Group Header) (d : F) → Mid u (with_chosen cs start) i (with_saved (taken log r)) k a → Goes u (with_chosen cs start) i k (w t (with_saved (taken log r)) d))
      → (z : Goes u start i l ((take log ⨾ w) t r f)) × HasMade z.after.chosen r hs
  unfolding take ◌⨾◌ change after_all chooses
  goes_take_chosen w t f free go =
      let v = taken_views log r x.sound log_is may in
      let parts = parts_over log r x.sound log_is may in
      let n = head (over log r) in
      let c = commit_over log r x.sound log_is may in
      let y = goes_choose u start i (taken log r) l s x.under x.memory x.running parts n c chooses covers_it (kept_taken log r x.sound log_is may).sound
      (v.2 ∙ x.place) (v.3 ∙ x.size) (keeps_taken log r x.sound log_is may l.member x.stored) free w t f (λ a d y. go _ (through (saves (taken log r)) l) a d y) in
      (y.0, record { made = made_choice u.quorums (entries_by u.hash u.cluster) s i x.memory parts c n chooses; is_made = y.1; of_view = x.reflects.view; of_log_view = refl; of_head = refl; of_heard = λ j. refl; of_log = λ k. refl })

-- ---- what is stored of the log is prepared

-- it leads a view that has begun
pub record Leads (r : Replica) : Type 0 where
  pub begun : r.view ≡ r.log_view
  pub first : r.index ≡ r.view % r.n

leads_lost : (h : Header) (r : Replica) → Leads r → Leads (lost h r)
unfolding with_part
leads_lost h r x = record { begun = x.begun; first = x.first }

leads_or_lost : {F : Type 0} (h : Header) (o : Option Whole) (t : Setting F) (r : Replica) (f : F) → Leads r → Leads (or_lost h (λ e. says (send_to_all (prepare e))) o t r f).replica
unfolding change says
leads_or_lost h None t r f x = leads_lost h r x
leads_or_lost h (Some e) t r f x = x

leads_part : {F : Type 0} (p : Part) (t : Setting F) (r : Replica) (f : F) → Leads r → Leads (with_entry (λ e. says (send_to_all (prepare e))) p t r f).replica
unfolding reading quiet
leads_part (Here h) t r f x = leads_or_lost h (entry_of h t f) t r f x
leads_part (Lost h) t r f x = x
leads_part (Wanted h) t r f x = x
leads_part Unknown t r f x = x
leads_part Nothing t r f x = x

pub leads_again : {F : Type 0} (op : ℕ) (t : Setting F) (r : Replica) (f : F) → Leads r → Leads (prepare_again op t r f).replica
unfolding prepare_again with_entry_at by
leads_again op t r f x = leads_part (part_at r op) t r f x

module _ (u : Setup) (start : Group Header) (i : ℕ) where
  pub goes_prepare_again : {F : Type 0} (op : ℕ) (t : Setting F) (r : Replica) (f : F) (l : Local) (s : Group Header) → Mid u start i r l s → Leads r → Goes u start i l (prepare_again op t r f)
  unfolding prepare_again
  goes_prepare_again op t r f l s x lead =
      goes_with_entry_at u start i op _ t r f l s x (λ e is.
      let number : e.header.op ≡ op = (x.sound.entries.each op e.header (ap header_of is)).1.at_op in
      goes_says u start i (send_to_all (prepare e)) t r f l s x (may_prepare u start i e r l s x lead.begun lead.first (subst (λ k. part_at r k ≡ Here e.header) (sym number) is)))

  -- words that keep something of the replica, for each of a list
  pub goes_each : {F X : Type 0} (P : Replica → Type 0) (v : X → Word F) (t : Setting F)
      → ((y : X) (r : Replica) (f : F) (l : Local) (s : Group Header) → Mid u start i r l s → P r → Goes u start i l (v y t r f))
      → ((y : X) (r : Replica) (f : F) → P r → P (v y t r f).replica)
      → (xs : List X) (r : Replica) (f : F) (l : Local) (s : Group Header) → Mid u start i r l s → P r → Goes u start i l (each v xs t r f)
  unfolding each
  goes_each P v t go keep [] r f l s x p = goes_quiet u start i t r f l s x
  goes_each P v t go keep (y ∷ ys) r f l s x p = goes_then u start i (v y) (each v ys) t r f l (go y r f l s x p) (λ a z. goes_each P v t go keep ys _ _ _ a z (keep y r f p))

  -- where there are other replicas, the last word applies
  applies_last : {F : Type 0} → 2 ≤ u.quorums.n → (t : Setting F) (r : Replica) (f : F) (l : Local) (s : Group Header) → Mid u start i r l s → Goes u start i l (last_word t r f)
  applies_last several t r f l s x =
      let size = x.size in
      goes_by u start i _ t r f l (goes_if u start i (is_alone r) advance apply t r f l (λ b. let one = eqb-true r.n 1 b in absurd (omega arith)) (λ b. goes_apply u start i t r f l s x))

  prepares_all : {F : Type 0} → 2 ≤ u.quorums.n → (top : ℕ) (t : Setting F) (r : Replica) (f : F) (l : Local) (s : Group Header) → Mid u start i r l s → Leads r
      → Goes u start i l ((by (λ r. each prepare_again (ops r.commit top)) ⨾ last_word) t r f)
  prepares_all several top t r f l s x lead =
      goes_then u start i (by (λ r. each prepare_again (ops r.commit top))) last_word t r f l
      (goes_by u start i (λ r. each prepare_again (ops r.commit top)) t r f l (goes_each Leads prepare_again t (λ y r f l s z p. goes_prepare_again y t r f l s z p) (λ y r f p. leads_again y t r f p) (ops r.commit top) r f l s x lead))
      (λ a z. applies_last several t _ _ _ a z)

module _ (u : Setup) (start : Group Header) (i : ℕ) where
  pub tells_all : (r : Replica) (l : Local) (s : Group Header) (x : Mid u start i r l s) → r.view ≡ r.log_view → Every (MayBeSaid u start.sent i x.memory (s.members i).slots) (send_to_all start_view r)
  unfolding send_to_all
  tells_all r l s x begun = every_mapped (MayBeSaid u start.sent i x.memory (s.members i).slots) (λ to. send to (start_view r) r) (others r.index r.n) (λ to. (x.place, may_start u start i r l s x begun))

  -- what is said once the view has begun
  tells_then : {F : Type 0} → 2 ≤ u.quorums.n → (top : ℕ) (t : Setting F) (r : Replica) (f : F) (l : Local) (s : Group Header) → Mid u start i r l s → Leads r
      → Goes u start i l ((says (send_to_all start_view) ⨾ by (λ r. each prepare_again (ops r.commit top)) ⨾ last_word) t r f)
  tells_then several top t r f l s x lead =
      goes_says_then u start i (send_to_all start_view) _ t r f l s x (tells_all r l s x lead.begun) (λ k a d y. prepares_all u start i several top t r d k a y lead)

module _ (u : Setup) (fits : Fits u) (several : 2 ≤ u.quorums.n) (start : Group Header) (i : ℕ) (e : Event) (o : Replica) where
  begins_view : {F : Type 0} (t : Setting F) (r : Replica) (f : F) (l : Local) (s : Group Header) (x : Mid u start i r l s) → Hears e o r → AreStated u start r → is_primary r ≡ true → r.log_view < r.view → Every AsksNothing l.said
      → (q : Quorums) (hs : List Header) (ends : choice q (stated r) ≡ Ends hs) → q.nack ≡ u.quorums.nack → MayTake (chosen_log r (stated r) hs) r → GoesAndChooses u start i e o l (begin_view (stated r) (chosen_log r (stated r) hs) t r f)
  unfolding begin_view says
  begins_view t r f l s x hears heard first lower free q hs ends nack_is may =
      let log : Log = chosen_log r (stated r) hs in
      let v = taken_views log r x.sound (chosen_log_is r q (stated r) hs (all_stated r x.sound) ends) may in
      let lead : Leads (with_saved (taken log r)) = record { begun = v.0 ∙ sym v.1; first = v.2 ∙ (eqb-true r.index (primary r.n r.view) first ∙ rw (v.0, v.3) refl) } in
      let line : List Output = choose_line (stated r) log r in
      let z = then_so u start i (says (choose_line (stated r) log)) (take log ⨾ says (send_to_all start_view) ⨾ by (λ r. each prepare_again (ops r.commit log.head)) ⨾ last_word) t r f l (λ a. HasMade a.chosen r hs)
      (goes_says u start i (choose_line (stated r) log) t r f l s x (tt, tt)) (λ a y.
      goes_take_chosen u fits start i r (carried (map Say line) l) a y heard first lower q hs ends nack_is may _ t (after_all t f (map Say line)) (said_free line l free (tt, tt))
      (λ cs k a d y. tells_then u (with_chosen cs start) i several log.head t (with_saved (taken log r)) d k a y lead)) in
      record { goes = z.0; made = begin_at (IsMadeFrom z.0.after.chosen e o) hs t r f (line_made z.0.after.chosen e o r hs hears z.1) }

  -- a wait chooses nothing
  waits_so : {F : Type 0} (t : Setting F) (r : Replica) (f : F) (l : Local) (s : Group Header) → Mid u start i r l s → (op : ℕ) → GoesAndChooses u start i e o l (says (wait_line op) t r f)
  waits_so t r f l s x op = let h = goes_says u start i (wait_line op) t r f l s x (tt, tt) in record { goes = h; made = waits_at (IsMadeFrom h.after.chosen e o) op t r f }

  obeys : {F : Type 0} (c : Choice) (t : Setting F) (r : Replica) (f : F) (l : Local) (s : Group Header) (x : Mid u start i r l s) → Hears e o r → AreStated u start r → is_primary r ≡ true → r.log_view < r.view → Every AsksNothing l.said
      → decided r ≡ c → GoesAndChooses u start i e o l (obey_choice (stated r) c t r f)
  unfolding try_log
  obeys TooFew t r f l s x hears heard first lower free is = chooses_none u start i e o quiet mute_quiet t r f l (goes_quiet u start i t r f l s x)
  obeys (WaitsAt op) t r f l s x hears heard first lower free is = waits_so t r f l s x op
  obeys (Ends hs) t r f l s x hears heard first lower free is =
      let y = decided_of (quorums_of r.n) (stated r) hs is in
      let log : Log = chosen_log r (stated r) hs in
      let nack_is : y.0.nack ≡ u.quorums.nack = sym (ap (λ (o : Option Quorums). option_map_or (λ q. q.nack) o 0) (sym (ap quorums_of x.size) ∙ y.1)) ∙ fits.nack_is in
      chooses_by u start i e o _ t r f l (chooses_naming u start i e o _ t r f l (chooses_by u start i e o _ t r f l (chooses_if u start i e o (may_take t.hash log r) (begin_view (stated r) log) (says (wait_line log.head)) t r f l
      (λ b. begins_view t r f l s x hears heard first lower free y.0 hs y.2 nack_is (may_take_is t.hash log r b))
      (λ b. waits_so t r f l s x log.head))))

  pub goes_try : {F : Type 0} (t : Setting F) (r : Replica) (f : F) (l : Local) (s : Group Header) (x : Mid u start i r l s) → Hears e o r → AreStated u start r → Every AsksNothing l.said → GoesAndChooses u start i e o l (try t r f)
  unfolding try
  goes_try t r f l s x hears heard free =
      chooses_by u start i e o _ t r f l (chooses_if u start i e o (is_primary r && not (is_started r)) (obey_choice (stated r) (decided r)) quiet t r f l (λ b.
      let p = and_parts (is_primary r) (not (is_started r)) b in
      let apart = eqb-false r.view r.log_view (not-true (is_started r) p.1) in
      let views = x.sound.order.views in
      obeys (decided r) t r f l s x hears heard p.0 (omega arith) free refl)
      (λ b. chooses_none u start i e o quiet mute_quiet t r f l (goes_quiet u start i t r f l s x)))

  chooses_enter_then : {F : Type 0} (v : ℕ) (w : Word F) (t : Setting F) (r : Replica) (f : F) (l : Local) (s : Group Header) (x : Mid u start i r l s) → Every AsksNothing l.said → r.view ≤ v → nat_lt last_view v ≡ false
      → ((k : Local) (a : Group Header) (d : F) → Every AsksNothing k.said → Mid u start i (with_saved (entered v r)) k a → GoesAndChooses u start i e o k (w t (with_saved (entered v r)) d)) → GoesAndChooses u start i e o l ((enter v ⨾ w) t r f)
  chooses_enter_then {F} v w t r f l s x free up low go =
      let q : Replica = with_saved (entered v r) in
      let y : Step = record { replica = q; script = saves (entered v r) ∷ map Say (send_to_all start_view_change q) } in
      let step : (a : Group Header) → Mid u start i y.replica (carried y.script l) a → GoesAndChooses u start i e o (carried y.script l) (w t y.replica (after_all t f y.script)) =
      λ a z. go (carried y.script l) a (after_all t f y.script) (said_free (send_to_all start_view_change q) (through (saves (entered v r)) l) (every_append AsksNothing l.said [] free tt) (free_changes u start i q)) z in
      then_chooses u start i e o (enter v) w (still_enter v).mute t r f l (goes_entered u start i v t r f l s x free up low)
      (subst (λ (z : Step). (a : Group Header) → Mid u start i z.replica (carried z.script l) a → GoesAndChooses u start i e o (carried z.script l) (w t z.replica (after_all t f z.script))) (sym (enter_is v t r f low)) step)

-- ---- a do_view_change (rules 23 to 25)

statement_cases : (i : ℕ) (t : Statement) (ss : List (Option Statement)) (j : ℕ) (x : Statement) → get_or (set ss i (Some t)) j None ≡ Some x → ((j ≡ i) × (t ≡ x)) ⊎ (get_or ss j None ≡ Some x)
statement_cases i t ss j x e =
    elim (cases_lt i (length ss)) [
      | inr past ↦ inr (sym (ap (λ ys. get_or ys j None) (set_past ss i (Some t) past)) ∙ e)
      | inl within ↦ elim (cases_eq j i) [
        | inl same ↦
            let at : get_or (set ss i (Some t)) i None ≡ Some x = subst (λ k. get_or (set ss i (Some t)) k None ≡ Some x) same e in
            let two : Some t ≡ Some x = sym (get_or-set_same ss i (Some t) None within) ∙ at in
            inl (same, search (rules, two))
        | inr other ↦ inr (sym (get_or-set_other ss i j (Some t) None other) ∙ e)
      ]
    ]

pub entered_fields : (v : ℕ) (r : Replica) → ((with_saved (entered v r)).view ≡ v) × ((with_saved (entered v r)).cluster ≡ r.cluster) × ((with_saved (entered v r)).statements ≡ replicate r.n None) × ((with_saved (entered v r)).log_view ≡ r.log_view)
    × (version (with_saved (entered v r)) ≡ version r)
unfolding entered value_of
entered_fields v r = (refl, refl, refl, refl, refl)

module _ (u : Setup) (start : Group Header) (i : ℕ) where
  pub with_statement_told : (d : DoViewChange) (r : Replica) → AreStated u start r → In (Do_view_change d.replica r.view (statement_told d.statement)) start.sent → AreStated u start (with_statement d.replica d.statement r)
  with_statement_told d r all new j t e =
      elim (statement_cases d.replica d.statement r.statements j t e) [
        | inl it ↦ subst (λ (x : Statement). In (Do_view_change j r.view (statement_told x)) start.sent) it.1 (rw (it.0) new)
        | inr old ↦ all j t old
      ]

  mid_statement : (d : DoViewChange) (r : Replica) (l : Local) (s : Group Header) → Mid u start i r l s → IsStated (version r) r.cluster r.view d.statement → Mid u start i (with_statement d.replica d.statement r) l s
  unfolding head part_at
  mid_statement d r l s x is =
      let f = x.reflects in
      mid_stays u start i r (with_statement d.replica d.statement r) l s x
      (record { view = f.view; log_view = f.log_view; checkpoint = f.checkpoint; commit = f.commit; applied = f.applied; reach = f.reach; parts = f.parts; loaded = f.loaded; waits = f.waits })
      (kept_statement d.replica d.statement r x.sound is).sound refl refl x.stored

module _ (u : Setup) (fits : Fits u) (several : 2 ≤ u.quorums.n) (start : Group Header) (i : ℕ) where
  states_it : {F : Type 0} (d : DoViewChange) (o : Replica) (t : Setting F) (r : Replica) (f : F) (l : Local) (s : Group Header) → Mid u start i r l s → GoesOn o r → d.replica < r.n → IsFor d.version d.cluster o → AreStated u start r
      → Every AsksNothing l.said → IsStated (version r) r.cluster r.view d.statement → In (Do_view_change d.replica r.view (statement_told d.statement)) start.sent
      → GoesAndChooses u start i (event.Deliver (frame.DoViewChange d)) o l ((change (with_statement d.replica d.statement) ⨾ try) t r f)
  states_it d o t r f l s x on member group all free is new =
      let e : Event = event.Deliver (frame.DoViewChange d) in
      let y = mid_statement u start i d r l s x is in
      chooses_changed u start i e o (with_statement d.replica d.statement) try t r f l (λ g.
      goes_try u fits several start i e o t (with_statement d.replica d.statement r) g l s y (hears_statement d o r on member group) (with_statement_told u start i d r all new) free)

  enters_first : {F : Type 0} (d : DoViewChange) (b : Bool) (t : Setting F) (r : Replica) (f : F) (l : Local) (s : Group Header) (x : Mid u start i r l s) → nat_lt r.view d.view ≡ b → d.replica < r.n → IsFor d.version d.cluster r
      → AreStated u start r → Every AsksNothing l.said → r.view ≤ d.view → nat_lt last_view d.view ≡ false → IsStated (version r) r.cluster d.view d.statement → WasSent u start.sent (frame.DoViewChange d)
      → GoesAndChooses u start i (event.Deliver (frame.DoViewChange d)) r l ((when b (enter d.view) ⨾ change (with_statement d.replica d.statement) ⨾ try) t r f)
  enters_first d true t r f l s x b member group all free up low is sent =
      chooses_enter_then u fits several start i (event.Deliver (frame.DoViewChange d)) r d.view _ t r f l s x free up low (λ k a c free y.
      let q : Replica = with_saved (entered d.view r) in
      let p = entered_fields d.view r in
      let on = picking.goes_entered d.view r (ltb-true r.view d.view b) in
      states_it d r t q c k a y on (let n = on.n in omega arith) group
      (λ j g h. absurd (none_stated r.n j g (sym (ap (λ (ys : List (Option Statement)). get_or ys j None) p.2) ∙ h))) free (rw (p.4, p.0, p.1) is) (rw (p.0) sent))
  enters_first d false t r f l s x b member group all free up low is sent =
      let m = ltb-false r.view d.view b in
      let same : r.view ≡ d.view = omega arith in
      chooses_quiet_then u start i (event.Deliver (frame.DoViewChange d)) r _ t r f l (λ c. states_it d r t r c l s x (goes_itself r x.sound) member group all free (rw same is) (rw same sent))

  enters_then : {F : Type 0} (d : DoViewChange) (t : Setting F) (r : Replica) (f : F) (l : Local) (s : Group Header) (x : Mid u start i r l s) → d.replica < r.n → IsFor d.version d.cluster r → AreStated u start r → Every AsksNothing l.said
      → r.view ≤ d.view → nat_lt last_view d.view ≡ false → IsStated (version r) r.cluster d.view d.statement → WasSent u start.sent (frame.DoViewChange d)
      → GoesAndChooses u start i (event.Deliver (frame.DoViewChange d)) r l ((by (λ r. when (nat_lt r.view d.view) (enter d.view)) ⨾ change (with_statement d.replica d.statement) ⨾ try) t r f)
  unfolding by ◌⨾◌
  enters_then d t r f l s x member group all free up low is sent =
      let h = enters_first d (nat_lt r.view d.view) t r f l s x refl member group all free up low is sent in
      record { goes = record { after = h.goes.after; ends = h.goes.ends; cuts = h.goes.cuts }; made = h.made }

  pub goes_do_view_change : {F : Type 0} (d : DoViewChange) (t : Setting F) (r : Replica) (f : F) (l : Local) (s : Group Header) → Mid u start i r l s → AreStated u start r → Every AsksNothing l.said
      → IsMessage (frame.DoViewChange d) → WasSent u start.sent (frame.DoViewChange d) → GoesAndChooses u start i (event.Deliver (frame.DoViewChange d)) r l (on_do_view_change d t r f)
  unfolding on_do_view_change
  goes_do_view_change d t r f l s x all free m sent =
      let e : Event = event.Deliver (frame.DoViewChange d) in
      let idle = chooses_none u start i e r quiet mute_quiet t r f l (goes_quiet u start i t r f l s x) in
      chooses_by u start i e r _ t r f l (by_rows (λ z. GoesAndChooses u start i e r l (obey_do_view_change d z t r f)) (do_view_change_table d r) (
        λ a. idle,
        λ n0. (
          λ a. idle,
          λ n1. (
            λ a.
                let o = or_parts (nat_lt d.view r.view) _ n1 in
                let p = and_parts (d.view == r.view) (is_started r) a in
                let same = eqb-true d.view r.view p.0 in
                let first : is_primary r ≡ true = subst (λ v. (r.index == primary r.n v) ≡ true) same (not-false (r.index == primary r.n d.view) o.1) in
                chooses_none u start i e r (tell_view d.replica) (mute_one _ (λ r. tt)) t r f l (goes_tell_view u start i d.replica t r f l s x (and_from (is_started r) (is_primary r) p.1 first)),
            λ n2. (
              λ a.
                  let form = m.form in
                  let top = form.view in
                  let older = form.log_view in
                  let o = or_parts (nat_lt d.view r.view) _ n1 in
                  let up = ltb-false d.view r.view o.0 in
                  let low : nat_lt last_view d.view ≡ false = le-ltb last_view d.view (omega arith) in
                  let from = and_parts (is_for d.version d.cluster r) (nat_lt d.replica r.n && not (d.replica == r.index)) (not-false (is_from d.version d.cluster d.replica r) n0) in
                  let member = ltb-true d.replica r.n (and_parts (nat_lt d.replica r.n) (not (d.replica == r.index)) from.1).0 in
                  let group = group_of d.version d.cluster d.replica r (not-false _ n0) in
                  let is : IsStated (version r) r.cluster d.view d.statement = rw (← group.0, ← group.1) (record { statement = form.statement; values = m.body; view = omega arith }) in
                  enters_then d t r f l s x member group all free up low is sent,
              λ n3. idle,
            ),
          ),
        ),
      ))
