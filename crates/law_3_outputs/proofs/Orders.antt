-- Words and the order of their commit lines.
use Rattle.std.proofs.Common.{ℕ, zero, suc, ◌+◌, ◌-◌, ◌<◌, ◌≡◌, ◌∙◌, inl, inr, arith, refl, sym, ap, subst, Bool, true, false, cond, eqb, List, [], ◌∷◌, ◌++◌, map, Option, Some, None}
use Rattle.std.specs.Prelude.{⊤, nat_lt, not, slice_get, ◌&&◌, ◌%◌, ◌==◌}
use Rattle.std.specs.Option.{option_and_then}
use Rattle.std.proofs.lemmas.Bool.{eq-eqb}
use Rattle.std.proofs.lemmas.Nat.{mod_below}
use Rattle.vr_header.specs.declared.header.Header.{Header}
use Rattle.vr_header.specs.declared.part.Part.{Part}
use Rattle.vr_header.specs.declared.part.Part.TheVariants.{Here, Lost, Wanted, Unknown, Nothing}
use Rattle.vr_header.specs.Made.{Whole}
use Rattle.vr_header.specs.Same.{same_header}
use Rattle.vr_header.proofs.SameHeaders.{same_header_is}
use Rattle.vr_state.specs.Folds as state
use Rattle.vr_msg.specs.declared.frame.Frame.{Frame}
use Rattle.vr_msg.specs.declared.output.Committed.{Committed}
use Rattle.vr_msg.specs.declared.output.Output.{Output}
use Rattle.vr_msg.specs.declared.output.Output.TheVariants as output
use Rattle.vr_header.specs.Parts.{header_of}
use Rattle.vr_ckpt.specs.declared.name.Name.{Name}
use Rattle.vr_rules.specs.Outputs.{kind_of, replies, asker_of, commit_line, applied_reply, send, send_to_all, others, to_primary, prepare, prepare_ok, start_view_change, get_block, get_prepare}
use Rattle.vr_rules.specs.Replica.{Replica, is_alone, leads, part_at, with_part, forgetting, last_view, is_primary, is_started, is_here}
use Rattle.vr_rules.specs.Sound.{IsSound}
use Rattle.vr_rules.specs.Steps.{Effect, Mend, Rewrite, Say, Setting, Step, Word, ◌⨾◌, quiet, change, does, says, by, naming, reading, when, times, each, outputs, after_all}
use Rattle.vr_rules.specs.Words.{Log, rested, entered, enter, saves, with_saved, save, writes, stored, write, accept, entry_of, lost, or_lost, with_entry, with_entry_at, applied, checkpoints, with_checkpoint, checkpoint_of, make_checkpoint, is_checkpoint, apply_entry, is_loaded, apply_next, apply, taken, take as take_over, prepare_again, resend, turned, ask_peer, ask_for, ask, least_absent, load, loads, checkpoint_at, blocks_of, header_read, mend_header, op_of_slot, place_now, visit, visit_block, visit_place, visit_read, visit_slot, with_cursor, with_worn}
use Rattle.vr_world.specs.Commitment.{is_line_of}
use Rattle.vr_rules.proofs.SendsScripts.{outputs_append, outputs_said}
use Rattle.vr_rules.proofs.Combining.{KeptBy, Keeps}
use Rattle.vr_rules.proofs.Wording.{keeps_apply_next}
use Rattle.law_2_chains.specs.Chains.{Every}
use Rattle.law_2_chains.proofs.Scripts.{every_append}
use Rattle.law_2_chains.proofs.Repairs.{every_mapped}
use Rattle.law_1_machine.specs.Basics.{In}
use Rattle.law_3_outputs.specs.Answering.{IsLined, IsMute, Lined, one_if, lines}
use Rattle.law_3_outputs.specs.Ordered.{IsInOrder, AreInOrder, IsReadAmong, ComesInOrder}
use Rattle.law_3_outputs.proofs.Answers.{loads_place}
use Rattle.law_3_outputs.proofs.Traces.{every_in, in_either}
use Rattle.law_3_outputs.proofs.Words.{lines_append}

-- ---- outputs that aren't lines

abbrev pub IsOther : Output → Type 0
IsOther (output.Commit c) = ⊥
IsOther _ = ⊤

other_line : (i : ℕ) (o : Output) → IsOther o → is_line_of i o ≡ false
other_line i (output.Send s) h = refl
other_line i (output.Commit c) h = absurd h
other_line i (output.Reply a) h = refl
other_line i (output.Choose c) h = refl
other_line i (output.Wait w) h = refl
other_line i (output.Start s) h = refl
other_line i (output.Halted r) h = refl
other_line i (output.Migrated r) h = refl
other_line i output.Done h = refl
other_line i output.KeptOut h = refl

other_ordered : (i m : ℕ) (o : Output) → IsOther o → IsInOrder i m o
other_ordered i m (output.Send s) h = tt
other_ordered i m (output.Commit c) h = absurd h
other_ordered i m (output.Reply a) h = tt
other_ordered i m (output.Choose c) h = tt
other_ordered i m (output.Wait w) h = tt
other_ordered i m (output.Start s) h = tt
other_ordered i m (output.Halted r) h = tt
other_ordered i m (output.Migrated r) h = tt
other_ordered i m output.Done h = tt
other_ordered i m output.KeptOut h = tt

pub others_lines : (i : ℕ) (os : List Output) → Every IsOther os → lines i os ≡ 0
unfolding lines
others_lines i [] h = refl
others_lines i (o ∷ os) h = rw (other_line i o h.0, others_lines i os h.1) refl

pub others_ordered : (i m : ℕ) (os : List Output) → Every IsOther os → AreInOrder i m os
unfolding AreInOrder
others_ordered i m [] h = tt
others_ordered i m (o ∷ os) h = (other_ordered i m o h.0, others_ordered i (m + one_if (is_line_of i o)) os h.1)

mute_other : (o : Output) → IsMute o → IsOther o
mute_other (output.Commit c) h = h
mute_other (output.Send s) h = tt
mute_other (output.Reply a) h = tt
mute_other (output.Choose c) h = tt
mute_other (output.Wait w) h = tt
mute_other (output.Start s) h = tt
mute_other (output.Halted r) h = tt
mute_other (output.Migrated r) h = tt
mute_other output.Done h = tt
mute_other output.KeptOut h = tt

pub mute_others : (os : List Output) → Every IsMute os → Every IsOther os
mute_others [] h = tt
mute_others (o ∷ os) h = (mute_other o h.0, mute_others os h.1)

ordered_append : (i m : ℕ) (a b : List Output) → AreInOrder i m a → AreInOrder i (m + lines i a) b → AreInOrder i m (a ++ b)
unfolding AreInOrder lines
ordered_append i m [] b h k = subst (λ z. AreInOrder i z b) (let e : m + 0 ≡ m = omega arith in e) k
ordered_append i m (o ∷ a) b h k = (
  h.0,
  ordered_append i (m + one_if (is_line_of i o)) a b h.1
      (subst (λ z. AreInOrder i z b) (let e : m + (one_if (is_line_of i o) + lines i a) ≡ m + one_if (is_line_of i o) + lines i a = omega arith in e) k),
)

-- lines in order are the log's, where each is the log's at its op
pub in_order_lined : (log : List Whole) (i m : ℕ) (os : List Output) → AreInOrder i m os → ((c : Committed) → In (output.Commit c) os → slice_get log (c.entry.header.op - 1) ≡ Some c.entry) → Lined log i m os
unfolding AreInOrder Lined
in_order_lined log i m [] h f = tt
in_order_lined log i m (o ∷ os) h f =
    let one : (p : Output) → o ≡ p → IsInOrder i m p → IsLined log m p = elim [
      | output.Commit c ↦ λ e k. subst (λ n. slice_get log n ≡ Some c.entry) (let z : c.entry.header.op - 1 ≡ m = omega arith in z) (f c (inl (sym e)))
      | output.Send s ↦ λ e k. tt
      | output.Reply a ↦ λ e k. tt
      | output.Choose c ↦ λ e k. tt
      | output.Wait w ↦ λ e k. tt
      | output.Start s ↦ λ e k. tt
      | output.Halted r ↦ λ e k. tt
      | output.Migrated r ↦ λ e k. tt
      | output.Done ↦ λ e k. tt
      | output.KeptOut ↦ λ e k. tt
    ] in
    (one o refl h.0, in_order_lined log i (m + one_if (is_line_of i o)) os h.1 (λ c j. f c (inr j)))

-- ---- what is read among effects

regrouped : {X : Type 0} (a b c : List X) → a ++ (b ++ c) ≡ (a ++ b) ++ c
regrouped [] b c = refl
regrouped (x ∷ a) b c = ap (λ z. x ∷ z) (regrouped a b c)

after_both : {F : Type 0} (s : Setting F) (f : F) (es ds : List Effect) → after_all s f (es ++ ds) ≡ after_all s (after_all s f es) ds
unfolding after_all
after_both s f [] ds = refl
after_both s f (e ∷ es) ds = after_both s (s.after f e) es ds

read_first : {F : Type 0} (s : Setting F) (f : F) (xs ys : List Effect) (e : Whole) → IsReadAmong s f xs e → IsReadAmong s f (xs ++ ys) e
read_first s f xs ys e h =
    record { first = h.first; rest = h.rest ++ ys; are = regrouped h.first h.rest ys ∙ ap (λ z. z ++ ys) h.are; slot = h.slot; within = h.within; reads = h.reads }

read_later : {F : Type 0} (s : Setting F) (f : F) (xs ys : List Effect) (e : Whole) → IsReadAmong s (after_all s f xs) ys e → IsReadAmong s f (xs ++ ys) e
read_later s f xs ys e h = record {
  first = xs ++ h.first;
  rest = h.rest;
  are = sym (regrouped xs h.first h.rest) ∙ ap (λ z. xs ++ z) h.are;
  slot = h.slot;
  within = h.within;
  reads = ap (λ d. s.entry d h.slot) (after_both s f xs h.first) ∙ h.reads;
}

-- ---- words that say no lines

pub record Still (r : Replica) (x : Step) : Type 0 where
  pub index : x.replica.index ≡ r.index
  pub applied : x.replica.applied ≡ r.applied
  pub said : Every IsOther (outputs x.script)

pub record Quiet {F : Type 0} (w : Word F) : Type 0 where
  pub every : (s : Setting F) (r : Replica) (f : F) → Still r (w s r f)

-- of one word at one replica
abbrev pub OrderlyAt : {F : Type 0} → Setting F → Replica → F → Word F → Type 0
OrderlyAt s r f w = ComesInOrder s r f (w s r f)

-- at each sound one
pub record Orderly {F : Type 0} (w : Word F) : Type 0 where
  pub every : (s : Setting F) (r : Replica) (f : F) → IsSound r → OrderlyAt s r f w

read_here : (h : Header) (o : Option Whole) (e : Whole) → option_and_then (λ (x : Whole). cond (same_header x.header h) (Some x) None) o ≡ Some e → (o ≡ Some e) × (e.header ≡ h)
read_here h None e q = absurd cc
read_here h (Some x) e q =
    elim (same_header x.header h) as (λ b. same_header x.header h ≡ b → cond b (Some x) None ≡ Some e → (Some x ≡ Some e) × (e.header ≡ h)) [
      | true ↦ λ t p. let same : x ≡ e = cc in (p, sym (ap (λ (y : Whole). y.header) same) ∙ same_header_is x.header h t)
      | false ↦ λ t p. absurd cc
    ] refl q

module _ {F : Type 0} where
  still_comes : (s : Setting F) (r : Replica) (f : F) (x : Step) → Still r x → ComesInOrder s r f x
  still_comes s r f x h =
      let none = others_lines r.index (outputs x.script) h.said in
      let same = h.applied in
      record {
        index = h.index;
        applied = omega arith;
        ordered = others_ordered r.index r.applied (outputs x.script) h.said;
        read = λ c j. absurd (every_in IsOther (outputs x.script) (output.Commit c) j h.said);
      }

  both : (s : Setting F) (r : Replica) (f : F) (x y : Step) → ComesInOrder s r f x → ComesInOrder s x.replica (after_all s f x.script) y → ComesInOrder s r f (record { replica = y.replica; script = x.script ++ y.script })
  both s r f x y p q =
      let said : List Output = outputs x.script in
      let more : List Output = outputs y.script in
      let one = p.applied in
      let two = q.applied in
      let same = p.index in
      let all = lines_append r.index said more in
      let place : lines x.replica.index more ≡ lines r.index more = ap (λ i. lines i more) same in
      let after : AreInOrder r.index (r.applied + lines r.index said) more = subst (λ m. AreInOrder r.index m more) one (subst (λ i. AreInOrder i x.replica.applied more) same q.ordered) in
      record {
        index = q.index ∙ same;
        applied = rw (outputs_append x.script y.script) (omega (arith, all, one, two, place));
        ordered = rw (outputs_append x.script y.script) (ordered_append r.index r.applied said more p.ordered after);
        read = λ c j. elim (in_either said more (output.Commit c) (subst (λ (os : List Output). In (output.Commit c) os) (outputs_append x.script y.script) j)) [
          | inl a ↦ read_first s f x.script y.script c.entry (p.read c a)
          | inr b ↦ read_later s f x.script y.script c.entry (q.read c b)
        ];
      }

  pub at_then : (v w : Word F) (s : Setting F) (r : Replica) (f : F) → OrderlyAt s r f v → OrderlyAt s (v s r f).replica (after_all s f (v s r f).script) w → OrderlyAt s r f (v ⨾ w)
  unfolding ◌⨾◌
  at_then v w s r f h k = both s r f (v s r f) (w s (v s r f).replica (after_all s f (v s r f).script)) h k

  pub at_quiet : (w : Word F) (s : Setting F) (r : Replica) (f : F) → Quiet w → OrderlyAt s r f w
  at_quiet w s r f q = still_comes s r f (w s r f) (q.every s r f)

  -- a word that keeps this replica sound, then an orderly one
  pub at_kept : (v w : Word F) (s : Setting F) (r : Replica) (f : F) → OrderlyAt s r f v → KeptBy v s r f → Orderly w → OrderlyAt s r f (v ⨾ w)
  at_kept v w s r f h k o = at_then v w s r f h (o.every s (v s r f).replica (after_all s f (v s r f).script) k.kept.sound)

  pub orderly_then : (v w : Word F) → Orderly v → Keeps v → Orderly w → Orderly (v ⨾ w)
  orderly_then v w h k o = record { every = λ s r f sound. at_kept v w s r f (h.every s r f sound) (k.every s r f sound) o }

  pub orderly_quiet : (w : Word F) → Quiet w → Orderly w
  orderly_quiet w q = record { every = λ s r f sound. at_quiet w s r f q }

  pub orderly_by : (w : Replica → Word F) → ((r : Replica) → Orderly (w r)) → Orderly (by w)
  unfolding by
  orderly_by w h = record { every = λ s r f sound. (h r).every s r f sound }

  pub orderly_if : (b : Bool) (v w : Word F) → Orderly v → Orderly w → Orderly (cond b v w)
  orderly_if true v w h k = h
  orderly_if false v w h k = k

  orderly_times : (n : ℕ) (w : Word F) → Orderly w → Keeps w → Orderly (times n w)
  unfolding times quiet outputs
  orderly_times zero w h k = record { every = λ s r f sound. still_comes s r f (record { replica = r; script = [] }) (record { index = refl; applied = refl; said = tt }) }
  orderly_times (suc n) w h k = orderly_then w (times n w) h k (orderly_times n w h k)

  -- ---- quiet words

  pub quiet_quiet : Quiet {F = F} quiet
  unfolding quiet outputs
  quiet_quiet = record { every = λ s r f. record { index = refl; applied = refl; said = tt } }

  pub quiet_change : (g : Replica → Replica) → ((r : Replica) → (g r).index ≡ r.index) → ((r : Replica) → (g r).applied ≡ r.applied) → Quiet {F = F} (change g)
  unfolding change outputs
  quiet_change g i a = record { every = λ s r f. record { index = i r; applied = a r; said = tt } }

  pub quiet_does : (e : Replica → Effect) → ((r : Replica) → Every IsOther (outputs (e r ∷ []))) → Quiet {F = F} (does e)
  unfolding does
  quiet_does e h = record { every = λ s r f. record { index = refl; applied = refl; said = h r } }

  pub quiet_says : (os : Replica → List Output) → ((r : Replica) → Every IsOther (os r)) → Quiet {F = F} (says os)
  unfolding says
  quiet_says os h = record { every = λ s r f. record { index = refl; applied = refl; said = rw (outputs_said (os r)) (h r) } }

  pub quiet_then : (v w : Word F) → Quiet v → Quiet w → Quiet (v ⨾ w)
  unfolding ◌⨾◌
  quiet_then v w h k = record {
    every = λ s r f.
        let x = v s r f in
        let a = h.every s r f in
        let y = w s x.replica (after_all s f x.script) in
        let b = k.every s x.replica (after_all s f x.script) in
        record { index = b.index ∙ a.index; applied = b.applied ∙ a.applied; said = rw (outputs_append x.script y.script) (every_append IsOther (outputs x.script) (outputs y.script) a.said b.said) };
  }

  pub quiet_by : (w : Replica → Word F) → ((r : Replica) → Quiet (w r)) → Quiet (by w)
  unfolding by
  quiet_by w h = record { every = λ s r f. (h r).every s r f }

  pub quiet_naming : (w : (List ℕ → List ℕ) → Word F) → ((hash : List ℕ → List ℕ) → Quiet (w hash)) → Quiet (naming w)
  unfolding naming
  quiet_naming w h = record { every = λ s r f. (h s.hash).every s r f }

  pub quiet_reading : {X : Type 0} (g : Setting F → F → X) (w : X → Word F) → ((x : X) → Quiet (w x)) → Quiet (reading g w)
  unfolding reading
  quiet_reading g w h = record { every = λ s r f. (h (g s f)).every s r f }

  pub quiet_if : (b : Bool) (v w : Word F) → Quiet v → Quiet w → Quiet (cond b v w)
  quiet_if true v w h k = h
  quiet_if false v w h k = k

  pub quiet_when : (b : Bool) (w : Word F) → Quiet w → Quiet (cond b w quiet)
  quiet_when b w h = quiet_if b w quiet h quiet_quiet

  pub quiet_each : {X : Type 0} (w : X → Word F) (xs : List X) → ((x : X) → Quiet (w x)) → Quiet (each w xs)
  unfolding each
  quiet_each w [] h = quiet_quiet
  quiet_each w (x ∷ xs) h = quiet_then (w x) (each w xs) (h x) (quiet_each w xs h)

  pub quiet_sends : (message : Replica → Frame) → Quiet {F = F} (says (send_to_all message))
  unfolding send_to_all
  quiet_sends message = quiet_says (send_to_all message) (λ r. every_mapped IsOther (λ to. send to (message r) r) (others r.index r.n) (λ to. tt))

  pub quiet_rested : Quiet {F = F} (change rested)
  quiet_rested = quiet_change rested (λ r. refl) (λ r. refl)

  pub quiet_save : Quiet {F = F} save
  unfolding save outputs
  quiet_save = quiet_then (does saves) (change with_saved) (quiet_does saves (λ r. tt)) (quiet_change with_saved (λ r. refl) (λ r. refl))

  pub quiet_enter : (v : ℕ) → Quiet {F = F} (enter v)
  unfolding enter entered
  quiet_enter v =
      quiet_if (nat_lt last_view v) (change rested) _ quiet_rested
      (quiet_then (change (entered v)) (save ⨾ says (send_to_all start_view_change)) (quiet_change (entered v) (λ r. refl) (λ r. refl)) (quiet_then save (says (send_to_all start_view_change)) quiet_save (quiet_sends start_view_change)))

  pub quiet_write : (e : Whole) → Quiet {F = F} (write e)
  unfolding write outputs forgetting with_part
  quiet_write e = quiet_then (does (writes e)) (change (stored e)) (quiet_does (writes e) (λ r. tt)) (quiet_change (stored e) (λ r. refl) (λ r. refl))

  pub quiet_accept : (e : Whole) → Quiet {F = F} (accept e)
  unfolding accept
  quiet_accept e = quiet_by (λ r. when (not (is_here (part_at r e.header.op))) (write e)) (λ r. quiet_when (not (is_here (part_at r e.header.op))) (write e) (quiet_write e))

  pub quiet_take : (l : Log) → Quiet {F = F} (take_over l)
  unfolding take_over taken forgetting
  quiet_take l = quiet_then (change (taken l)) save (quiet_change (taken l) (λ r. refl) (λ r. refl)) quiet_save

  quiet_lost : (h : Header) → Quiet {F = F} (change (lost h))
  unfolding with_part
  quiet_lost h = quiet_change (lost h) (λ r. refl) (λ r. refl)

  quiet_or_lost : (h : Header) (w : Whole → Word F) (o : Option Whole) → ((e : Whole) → Quiet (w e)) → Quiet (or_lost h w o)
  quiet_or_lost h w None k = quiet_lost h
  quiet_or_lost h w (Some e) k = k e

  quiet_part : (w : Whole → Word F) (p : Part) → ((e : Whole) → Quiet (w e)) → Quiet (with_entry w p)
  quiet_part w (Here h) k = quiet_reading (entry_of h) (or_lost h w) (λ o. quiet_or_lost h w o k)
  quiet_part w (Lost h) k = quiet_quiet
  quiet_part w (Wanted h) k = quiet_quiet
  quiet_part w Unknown k = quiet_quiet
  quiet_part w Nothing k = quiet_quiet

  pub quiet_entry : (op : ℕ) (w : Whole → Word F) → ((e : Whole) → Quiet (w e)) → Quiet (with_entry_at op w)
  unfolding with_entry_at
  quiet_entry op w k = quiet_by (λ r. with_entry w (part_at r op)) (λ r. quiet_part w (part_at r op) k)

  pub quiet_again : (op : ℕ) → Quiet {F = F} (prepare_again op)
  unfolding prepare_again
  quiet_again op = quiet_entry op _ (λ e. quiet_sends (prepare e))

  pub quiet_resend : (e : Whole) → Quiet {F = F} (resend e)
  unfolding resend
  quiet_resend e = quiet_naming _ (λ hash. quiet_by _ (λ r.
      quiet_when (is_started r && nat_lt r.commit e.header.op) _ (quiet_if (is_primary r) (says (send_to_all (prepare e))) (says (to_primary (prepare_ok hash e.header))) (quiet_sends (prepare e)) (quiet_says _ (λ r. (tt, tt))))))

  quiet_peer : (message : Replica → Frame) → Quiet {F = F} (ask_peer message)
  unfolding ask_peer
  quiet_peer message = quiet_then _ (change turned) (quiet_says _ (λ r. (tt, tt))) (quiet_change turned (λ r. refl) (λ r. refl))

  quiet_ask_for : (names : List Name) (absent : Option Header) (worn : List Name) → Quiet {F = F} (ask_for names absent worn)
  quiet_ask_for (name ∷ names) absent worn = quiet_peer (get_block name)
  quiet_ask_for [] (Some h) worn = quiet_naming _ (λ hash. quiet_peer (get_prepare hash h))
  quiet_ask_for [] None (name ∷ names) = quiet_peer (get_block name)
  quiet_ask_for [] None [] = quiet_quiet

  pub quiet_ask : Quiet {F = F} ask
  unfolding ask
  quiet_ask = quiet_by _ (λ r. quiet_when (not (is_alone r)) (ask_for r.missing (least_absent r) r.worn) (quiet_ask_for r.missing (least_absent r) r.worn))

  -- ---- a visit

  quiet_mend_header : (h : Header) (o : Option Header) → Quiet {F = F} (mend_header h o)
  unfolding outputs
  quiet_mend_header h None = quiet_does (λ r. Rewrite h) (λ r. tt)
  quiet_mend_header h (Some d) = quiet_when (not (same_header d h)) _ (quiet_does (λ r. Rewrite h) (λ r. tt))

  quiet_visit_slot : (op : ℕ) → Quiet {F = F} (visit_slot op)
  unfolding visit_slot
  quiet_visit_slot op = quiet_entry op _ (λ e. quiet_reading (header_read op) _ (quiet_mend_header e.header))

  quiet_visit_read : (name : Name) (o : Option (List ℕ)) → Quiet {F = F} (visit_read name o)
  quiet_visit_read name None = quiet_change (with_worn name) (λ r. refl) (λ r. refl)
  quiet_visit_read name (Some block) = quiet_quiet

  quiet_visit_block : (o : Option Name) → Quiet {F = F} (visit_block o)
  unfolding visit_block
  quiet_visit_block None = quiet_quiet
  quiet_visit_block (Some name) = quiet_reading _ _ (quiet_visit_read name)

  quiet_visit_place : (at : ℕ) → Quiet {F = F} (visit_place at)
  unfolding visit_place outputs
  quiet_visit_place at =
      quiet_by _ (λ r. quiet_if (nat_lt at 64) _ _ (quiet_visit_slot (op_of_slot r at)) (quiet_if (at == 64) _ _ (quiet_does (λ r. Mend r.saved) (λ r. tt)) (quiet_visit_block (slice_get (blocks_of r) (at - 65)))))

  pub quiet_visit : Quiet {F = F} visit
  unfolding visit
  quiet_visit =
      quiet_by _ (λ r. quiet_when (is_loaded r) _ (quiet_then (visit_place (place_now r)) (change (with_cursor (place_now r))) (quiet_visit_place (place_now r)) (quiet_change (with_cursor (place_now r)) (λ q. refl) (λ q. refl))))

  -- and then a peer is asked
  pub quiet_looks : Quiet {F = F} (visit ⨾ ask)
  quiet_looks = quiet_then visit ask quiet_visit quiet_ask

  pub quiet_load : Quiet {F = F} load
  unfolding load
  quiet_load = quiet_by _ (λ r. quiet_when (nat_lt 0 r.checkpoint) _ (quiet_reading (checkpoint_at r.root) (λ l. change (loads r.root l)) (λ l. quiet_change (loads r.root l) (λ q. (loads_place r.root l q).0) (λ q. (loads_place r.root l q).1))))

  quiet_checkpoint : Quiet {F = F} make_checkpoint
  unfolding make_checkpoint outputs with_checkpoint
  quiet_checkpoint = quiet_by _ (λ r. quiet_reading (checkpoint_of r) _ (λ c.
      quiet_then (does checkpoints) (change (with_checkpoint c) ⨾ save) (quiet_does checkpoints (λ r. tt)) (quiet_then (change (with_checkpoint c)) save (quiet_change (with_checkpoint c) (λ r. refl) (λ r. refl)) quiet_save)))

  -- ---- an entry is applied

  abbrev lined_entry : Whole → Word F
  lined_entry e s r f = record { replica = applied e r; script = map Say (commit_line e r ++ applied_reply e r) }

  at_line : (e : Whole) (s : Setting F) (r : Replica) (f : F) (slot : ℕ) → e.header.op ≡ r.applied + 1 → slot < 64 → s.entry f slot ≡ Some e → OrderlyAt s r f (lined_entry e)
  unfolding outputs AreInOrder lines after_all
  at_line e s r f slot op within reads =
      let own : eqb r.index r.index ≡ true = eq-eqb r.index r.index refl in
      let line : Committed = record { replica = r.index; entry = e } in
      let found : (es : List Effect) (c : Committed) → output.Commit c ≡ output.Commit line → IsReadAmong s f es c.entry =
      λ es c same. (let one : c ≡ line = cc in record { first = []; rest = es; are = refl; slot = slot; within = within; reads = reads ∙ ap (λ (z : Committed). Some z.entry) (sym one) }) in
      let cases : (c : Bool) → ComesInOrder s r f (record { replica = applied e r; script = map Say (commit_line e r ++ cond c (replies (asker_of e) (kind_of (state.applied r.state e).reply) r) []) }) = elim [
        | true ↦ record { index = refl; applied = rw own refl; ordered = (op, (tt, tt)); read = λ c j. elim j [ inl same ↦ found _ c same | inr k ↦ elim k [ inl other ↦ absurd cc | inr none ↦ absurd none ] ] }
        | false ↦ record { index = refl; applied = rw own refl; ordered = (op, tt); read = λ c j. elim j [ inl same ↦ found _ c same | inr none ↦ absurd none ] }
      ] in
      cases (leads r)

  at_entry : (e : Whole) (s : Setting F) (r : Replica) (f : F) (slot : ℕ) → e.header.op ≡ r.applied + 1 → slot < 64 → s.entry f slot ≡ Some e → OrderlyAt s r f (apply_entry e)
  unfolding apply_entry says change ◌⨾◌ after_all
  at_entry e s r f slot op within reads =
      let w : Word F = by (λ r. when (is_checkpoint r.applied) make_checkpoint) in
      let q : Quiet w = quiet_by (λ r. when (is_checkpoint r.applied) make_checkpoint) (λ r. quiet_when (is_checkpoint r.applied) make_checkpoint quiet_checkpoint) in
      at_then (lined_entry e) w s r f (at_line e s r f slot op within reads) (at_quiet w s (applied e r) (after_all s f (map Say (commit_line e r ++ applied_reply e r))) q)

  -- ---- applying

  at_or_lost : (h : Header) (o : Option Whole) (s : Setting F) (r : Replica) (f : F) → IsSound r → part_at r (r.applied + 1) ≡ Here h → entry_of h s f ≡ o → OrderlyAt s r f (or_lost h apply_entry o)
  at_or_lost h None s r f sound there is = at_quiet (change (lost h)) s r f (quiet_lost h)
  at_or_lost h (Some e) s r f sound there is =
      let p = read_here h (s.entry f (h.op % 64)) e is in
      let known = (sound.entries.each (r.applied + 1) h (ap header_of there)).1.at_op in
      at_entry e s r f (h.op % 64) (ap (λ (z : Header). z.op) p.1 ∙ known) (mod_below h.op 64 (omega arith)) p.0

  at_part : (p : Part) (s : Setting F) (r : Replica) (f : F) → IsSound r → part_at r (r.applied + 1) ≡ p → OrderlyAt s r f (with_entry apply_entry p)
  unfolding reading
  at_part (Here h) s r f sound there = at_or_lost h (entry_of h s f) s r f sound there refl
  at_part (Lost h) s r f sound there = at_quiet quiet s r f quiet_quiet
  at_part (Wanted h) s r f sound there = at_quiet quiet s r f quiet_quiet
  at_part Unknown s r f sound there = at_quiet quiet s r f quiet_quiet
  at_part Nothing s r f sound there = at_quiet quiet s r f quiet_quiet

  orderly_next : Orderly {F = F} apply_next
  unfolding apply_next with_entry_at by
  orderly_next = record {
    every = λ s r f sound.
        let go : (b : Bool) → OrderlyAt s r f (cond b (with_entry_at (r.applied + 1) apply_entry) quiet) = elim [
          | true ↦ at_part (part_at r (r.applied + 1)) s r f sound refl
          | false ↦ at_quiet quiet s r f quiet_quiet
        ] in
        go (is_loaded r && nat_lt r.applied r.commit);
  }

  pub orderly_apply : Orderly {F = F} apply
  unfolding apply
  orderly_apply = orderly_by (λ r. times (r.commit - r.applied) apply_next) (λ r. orderly_times (r.commit - r.applied) apply_next orderly_next keeps_apply_next)
