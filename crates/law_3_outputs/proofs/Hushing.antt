-- An opening replies nothing: none that goes on to apply leads its view.
use Rattle.std.proofs.Common.{ℕ, zero, suc, ◌+◌, ◌≡◌, refl, arith, Bool, true, false, cond, eqb, List, [], ◌∷◌, Option, Some, None}
use Rattle.vr_state.specs.StateTexts.{state_decoded}
use Rattle.std.proofs.lemmas.List.Elements.{All-nil, All-cons, All-contains}
use Rattle.std.specs.Prelude.{⊤, All, Contains, nat_lt, nat_le, not}
use Rattle.std.proofs.lemmas.Bool.{and_parts, eqb-true, ne_eqb, cond_both}
use Rattle.vr_header.specs.declared.header.Header.{Header}
use Rattle.vr_header.specs.declared.part.Part.{Part}
use Rattle.vr_header.specs.declared.part.Part.TheVariants.{Here, Lost, Wanted, Unknown, Nothing}
use Rattle.vr_header.specs.Made.{Whole}
use Rattle.vr_ckpt.specs.declared.found.Load.{Load}
use Rattle.vr_ckpt.specs.declared.found.Load.TheVariants.{Loaded, Missing}
use Rattle.vr_msg.specs.declared.output.Output.{Output}
use Rattle.vr_msg.specs.declared.output.Output.TheVariants as output
use Rattle.vr_msg.specs.declared.reply.ReplyFields.{ReplyFields}
use Rattle.vr_recover.specs.declared.readings.Verdict.{Verdict}
use Rattle.vr_recover.specs.declared.readings.Verdict.TheVariants as verdict
use Rattle.vr_super.specs.Copies.{SuperValue}
use Rattle.vr_msg.specs.Choice.{ops}
use Rattle.vr_rules.specs.Outputs.{applied_reply, commit_line, others, send, send_to_all, start_line, start_view_change}
use Rattle.vr_rules.specs.Replica.{Replica, forgetting, is_spent, is_started, last_view, leads, part_at, with_part, version}
use Rattle.vr_rules.specs.Steps.{Effect, Mend, Setting, Step, Word, ◌⨾◌, quiet, change, does, says, by, reading, times, each, outputs, after_all}
use Rattle.vr_rules.specs.Words as words
use Rattle.vr_rules.specs.Opening as opening
use Rattle.vr_rules.proofs.SendsScripts.{outputs_append, outputs_said}
use Rattle.law_1_machine.specs.Basics.{In}
use Rattle.law_2_chains.specs.Chains.{Every}
use Rattle.law_2_chains.proofs.Scripts.{every_append}
use Rattle.law_2_chains.proofs.Repairs.{every_mapped}
use Rattle.law_3_outputs.proofs.Traces.{every_in}

all_every : {X : Type 0} (P : X → Type 0) (xs : List X) → Every P xs → All P xs
all_every P [] h = All-nil P
all_every P (x ∷ xs) h = All-cons P x xs h.0 (all_every P xs h.1)

abbrev pub IsHush : Output → Type 0
IsHush (output.Reply a) = ⊥
IsHush _ = ⊤

-- C is kept by a word, and where it holds the word replies nothing
module _ (C : Replica → Type 0) where
  pub record Hushes (x : Step) : Type 0 where
    pub said : Every IsHush (outputs x.script)
    pub keeps : C x.replica

  module _ {F : Type 0} where
    pub record Hush (w : Word F) : Type 0 where
      pub each : (s : Setting F) (r : Replica) (f : F) → C r → Hushes (w s r f)

    hush_then : (v w : Word F) → Hush v → Hush w → Hush (v ⨾ w)
    unfolding ◌⨾◌
    hush_then v w h k = record {
      each = λ s r f c.
          let a = v s r f in
          let p = h.each s r f c in
          let b = w s a.replica (after_all s f a.script) in
          let q = k.each s a.replica (after_all s f a.script) p.keeps in
          record { said = rw (outputs_append a.script b.script) (every_append IsHush (outputs a.script) (outputs b.script) p.said q.said); keeps = q.keeps };
    }

    hush_quiet : Hush quiet
    unfolding quiet outputs
    hush_quiet = record { each = λ s r f c. record { said = tt; keeps = c } }

    hush_change : (g : Replica → Replica) → ((r : Replica) → C r → C (g r)) → Hush (change g)
    unfolding change outputs
    hush_change g h = record { each = λ s r f c. record { said = tt; keeps = h r c } }

    hush_does : (e : Replica → Effect) → ((r : Replica) → Every IsHush (outputs (e r ∷ []))) → Hush (does e)
    unfolding does
    hush_does e h = record { each = λ s r f c. record { said = h r; keeps = c } }

    hush_says : (os : Replica → List Output) → ((r : Replica) → C r → Every IsHush (os r)) → Hush (says os)
    unfolding says
    hush_says os h = record { each = λ s r f c. record { said = rw (outputs_said (os r)) (h r c); keeps = c } }

    hush_by : (w : Replica → Word F) → ((r : Replica) → Hush (w r)) → Hush (by w)
    unfolding by
    hush_by w h = record { each = λ s r f. (h r).each s r f }

    hush_reading : {X : Type 0} (g : Setting F → F → X) (w : X → Word F) → ((x : X) → Hush (w x)) → Hush (reading g w)
    unfolding reading
    hush_reading g w h = record { each = λ s r f. (h (g s f)).each s r f }

    hush_if : (b : Bool) (v w : Word F) → Hush v → Hush w → Hush (cond b v w)
    hush_if true v w h k = h
    hush_if false v w h k = k

    hush_times : (n : ℕ) (w : Word F) → Hush w → Hush (times n w)
    unfolding times
    hush_times zero w h = hush_quiet
    hush_times (suc n) w h = hush_then w (times n w) h (hush_times n w h)

    hush_each : {X : Type 0} (w : X → Word F) (xs : List X) → ((x : X) → Hush (w x)) → Hush (each w xs)
    unfolding each
    hush_each w [] h = hush_quiet
    hush_each w (x ∷ xs) h = hush_then (w x) (each w xs) (h x) (hush_each w xs h)

-- ---- before it applies

abbrev Any : Replica → Type 0
Any r = ⊤

module _ {F : Type 0} where
  hush_rewrite : (h : Option Header) → Hush Any {F = F} (opening.rewrite h)
  unfolding outputs
  hush_rewrite None = hush_quiet Any
  hush_rewrite (Some h) = hush_does Any _ (λ r. tt)

  hush_mend : (x : opening.Slot) (v : Verdict) → Hush Any {F = F} (opening.mend_slot x v)
  hush_mend x verdict.Rewrite = hush_rewrite (opening.entry_header x)
  hush_mend x verdict.Here = hush_quiet Any
  hush_mend x verdict.Lost = hush_quiet Any
  hush_mend x verdict.Wanted = hush_quiet Any
  hush_mend x verdict.Nothing = hush_quiet Any
  hush_mend x verdict.Unknown = hush_quiet Any

  hush_change_any : (g : Replica → Replica) → Hush Any {F = F} (change g)
  hush_change_any g = hush_change Any g (λ r c. tt)

  hush_op : (v : SuperValue) (k : ℕ) → Hush Any {F = F} (opening.recover_op v k)
  unfolding opening.recover_op
  hush_op v k = hush_reading Any (opening.slot_at k) _ (λ x. hush_then Any (opening.mend_slot x (opening.slot_verdict v k x)) _ (hush_mend x (opening.slot_verdict v k x)) (hush_change_any _))

  hush_old : (h : Header) → Hush Any {F = F} (opening.recover_old h)
  unfolding opening.recover_old
  hush_old h = hush_reading Any (words.entry_of h) _ (λ e. hush_change_any _)

  hush_parts : (v : SuperValue) → Hush Any {F = F} (opening.recover_parts v)
  unfolding opening.recover_parts
  hush_parts v =
      hush_then Any (each opening.recover_old (opening.old_headers v)) _ (hush_each Any opening.recover_old (opening.old_headers v) hush_old)
      (hush_then Any (each (opening.recover_op v) (ops v.fields.checkpoint (v.fields.checkpoint + 64))) _ (hush_each Any (opening.recover_op v) (ops v.fields.checkpoint (v.fields.checkpoint + 64)) (hush_op v))
      (hush_then Any (change (opening.clouded v)) (change forgetting) (hush_change_any (opening.clouded v)) (hush_change_any forgetting)))

  hush_save : (C : Replica → Type 0) → ((r : Replica) → C r → C (words.with_saved r)) → Hush C {F = F} words.save
  unfolding words.save outputs
  hush_save C h = hush_then C (does words.saves) (change words.with_saved) (hush_does C words.saves (λ r. tt)) (hush_change C words.with_saved h)

  hush_leave : Hush Any {F = F} opening.leave_view
  hush_leave = hush_by Any _ (λ r. hush_if Any (leads r) _ quiet (hush_then Any (change opening.in_next_view) words.save (hush_change_any opening.in_next_view) (hush_save Any (λ r c. tt))) (hush_quiet Any))

-- ---- one that doesn't lead

abbrev Backs : Replica → Type 0
Backs r = leads r ≡ false

backs_lost : (h : Header) (r : Replica) → Backs r → Backs (words.lost h r)
unfolding with_part
backs_lost h r c = c

backs_checkpoint : (c : _) (r : Replica) → Backs r → Backs (words.with_checkpoint c r)
unfolding words.with_checkpoint
backs_checkpoint c r h = h

backs_loads : (r : Replica) (l : Load) (q : Replica) → Backs q → Backs (words.loads r.root l q)
unfolding words.with_state
backs_loads r (Missing names) q c = c
backs_loads r (Loaded texts table) q c =
    elim (words.usable (version q) (state_decoded texts)) as (λ z. Backs (words.loaded_state r.root table z q)) [ Some s ↦ c | None ↦ c ]

hush_all : (r : Replica) → Every IsHush (send_to_all start_view_change r)
unfolding send_to_all
hush_all r = every_mapped IsHush (λ to. send to (start_view_change r) r) (others r.index r.n) (λ to. tt)

module _ {F : Type 0} where
  hush_line : (e : Whole) → Hush Backs {F = F} (says (applied_reply e))
  hush_line e = hush_says Backs (applied_reply e) (λ r c. rw c tt)

  hush_checkpoint : Hush Backs {F = F} words.make_checkpoint
  unfolding words.make_checkpoint outputs
  hush_checkpoint =
      hush_by Backs _ (λ r. hush_reading Backs (words.checkpoint_of r) _ (λ c. hush_then Backs (does words.checkpoints) _ (hush_does Backs words.checkpoints (λ r. tt))
      (hush_then Backs (change (words.with_checkpoint c)) words.save (hush_change Backs (words.with_checkpoint c) (backs_checkpoint c)) (hush_save Backs (λ r c. c)))))

  hush_entry : (e : Whole) → Hush Backs {F = F} (words.apply_entry e)
  unfolding words.apply_entry
  hush_entry e =
      hush_then Backs (says (commit_line e)) _ (hush_says Backs (commit_line e) (λ r c. (tt, tt)))
      (hush_then Backs (says (applied_reply e)) _ (hush_line e)
      (hush_then Backs (change (words.applied e)) _ (hush_change Backs (words.applied e) (λ r c. c)) (hush_by Backs _ (λ r. hush_if Backs (words.is_checkpoint r.applied) words.make_checkpoint quiet hush_checkpoint (hush_quiet Backs)))))

  hush_or_lost : (h : Header) (o : Option Whole) → Hush Backs {F = F} (words.or_lost h words.apply_entry o)
  hush_or_lost h None = hush_change Backs (words.lost h) (backs_lost h)
  hush_or_lost h (Some e) = hush_entry e

  hush_with : (p : Part) → Hush Backs {F = F} (words.with_entry words.apply_entry p)
  hush_with (Here h) = hush_reading Backs (words.entry_of h) _ (λ o. hush_or_lost h o)
  hush_with (Lost h) = hush_quiet Backs
  hush_with (Wanted h) = hush_quiet Backs
  hush_with Unknown = hush_quiet Backs
  hush_with Nothing = hush_quiet Backs

  hush_apply : Hush Backs {F = F} words.apply
  unfolding words.apply words.apply_next words.with_entry_at
  hush_apply = hush_by Backs _ (λ r. hush_times Backs _ _ (hush_by Backs _ (λ r. hush_if Backs _ _ quiet (hush_by Backs _ (λ q. hush_with (part_at q (r.applied + 1)))) (hush_quiet Backs))))

  hush_load : Hush Backs {F = F} words.load
  unfolding words.load
  hush_load = hush_by Backs _ (λ r. hush_if Backs (nat_lt 0 r.checkpoint) _ quiet (hush_reading Backs (words.checkpoint_at r.root) _ (λ l. hush_change Backs (words.loads r.root l) (backs_loads r l))) (hush_quiet Backs))

  hush_announce : Hush Backs {F = F} opening.announce
  hush_announce =
      hush_by Backs _ (λ r. hush_if Backs (not (is_started r)) _ quiet
      (hush_then Backs (change opening.heard_itself) _ (hush_change Backs opening.heard_itself (λ r c. c)) (hush_by Backs _ (λ r. hush_if Backs (nat_le r.view last_view) _ quiet (hush_says Backs (send_to_all start_view_change) (λ r c. hush_all r)) (hush_quiet Backs))))
      (hush_quiet Backs))

-- ---- an opening

both_said : {F : Type 0} (v w : Word F) (s : Setting F) (r : Replica) (f : F) → Every IsHush (outputs (v s r f).script) → ((d : F) → Every IsHush (outputs (w s (v s r f).replica d).script)) → Every IsHush (outputs ((v ⨾ w) s r f).script)
unfolding ◌⨾◌
both_said v w s r f h k =
    let a = v s r f in
    let b = w s a.replica (after_all s f a.script) in
    rw (outputs_append a.script b.script) (every_append IsHush (outputs a.script) (outputs b.script) h (k (after_all s f a.script)))

next_backs : (r : Replica) → leads r ≡ true → Backs (words.with_saved (opening.in_next_view r))
next_backs r t =
    let started = eqb-true r.view r.log_view (and_parts (is_started r) _ t).0 in
    let off : eqb (r.view + 1) r.log_view ≡ false = ne_eqb (r.view + 1) r.log_view (λ e. omega arith) in
    rw off refl

module _ {F : Type 0} (s : Setting F) where
  -- it doesn't lead then
  left_backs : (r : Replica) (d : F) → Backs (opening.leave_view s r d).replica
  unfolding by change quiet ◌⨾◌ words.save does
  left_backs r d =
      let left : (c : Bool) → leads r ≡ c → Backs ((cond c (change opening.in_next_view ⨾ words.save) quiet) s r d).replica = elim [ true ↦ λ t. next_backs r t | false ↦ λ t. t ] in
      left (leads r) refl

  going_on_said : (r : Replica) (d : F) → Every IsHush (outputs (opening.going_on s r d).script)
  unfolding says outputs
  going_on_said r d =
      let all : Hush Backs {F = F} (words.load ⨾ (words.apply ⨾ opening.announce)) = hush_then Backs words.load _ hush_load (hush_then Backs words.apply opening.announce hush_apply hush_announce) in
      both_said opening.leave_view _ s r d (hush_leave.each s r d tt).said
      (λ c. let q = (opening.leave_view s r d).replica in both_said (says start_line) _ s q c (tt, tt) (λ e. (all.each s q e (left_backs r d)).said))

  resuming_said : (r : Replica) (d : F) → Every IsHush (outputs (opening.resuming s r d).script)
  unfolding by says outputs
  resuming_said r d = cond_both (is_spent r) (says start_line) opening.going_on (λ (w : Word F). Every IsHush (outputs (w s r d).script)) (λ t. (tt, tt)) (λ t. going_on_said r d)

  opening_said : (v : SuperValue) (f : F) → Every IsHush (outputs (opening.opening v s (opening.blank v) f).script)
  unfolding opening.opening does says outputs
  opening_said v f =
      let r0 = opening.blank v in
      both_said (does (λ r. Mend v)) _ s r0 f tt
      (λ d1. both_said (opening.recover_parts v) _ s r0 d1 ((hush_parts v).each s r0 d1 tt).said
      (λ d2. resuming_said (opening.recover_parts v s r0 d1).replica d2))

  -- an opening replies nothing
  pub opening_silent : (v : SuperValue) (f : F) (a : ReplyFields) → In (output.Reply a) (outputs (opening.opening v s (opening.blank v) f).script) → ⊥
  opening_silent v f a i = every_in IsHush (outputs (opening.opening v s (opening.blank v) f).script) (output.Reply a) i (opening_said v f)

  opening_all : (v : SuperValue) (f : F) → All IsHush (outputs (opening.opening v s (opening.blank v) f).script)
  opening_all v f = all_every IsHush (outputs (opening.opening v s (opening.blank v) f).script) (opening_said v f)

  pub opening_replies_nothing : (v : SuperValue) (f : F) (a : ReplyFields) → Contains (outputs (opening.opening v s (opening.blank v) f).script) (output.Reply a) → ⊥
  opening_replies_nothing v f a i = All-contains IsHush (outputs (opening.opening v s (opening.blank v) f).script) (output.Reply a) (opening_all v f) i
