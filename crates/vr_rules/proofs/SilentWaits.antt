-- Most words say neither that a choice waits nor that a log is chosen.
use Rattle.std.proofs.Common.{◌≡◌, ◌-◌, refl, ℕ, zero, suc, Bool, true, false, cond, List, [], ◌∷◌, Option, Some, None, map}
use Rattle.std.specs.Prelude.{All, ⊤, nat_lt, slice_get, ◌==◌}
use Rattle.std.proofs.lemmas.Bool.{cond_both}
use Rattle.std.proofs.lemmas.List.Elements.{All-nil, All-cons, All-append, All-map, All-head, All-tail}
use Rattle.vr_header.specs.declared.header.Header.{Header}
use Rattle.vr_header.specs.declared.part.Part.{Part}
use Rattle.vr_header.specs.declared.part.Part.TheVariants.{Here, Lost, Wanted, Unknown, Nothing}
use Rattle.vr_header.specs.Made.{Whole}
use Rattle.vr_ckpt.specs.declared.name.Name.{Name}
use Rattle.vr_msg.specs.declared.frame.Frame.{Frame}
use Rattle.vr_msg.specs.declared.frame.SyncView.{SyncView}
use Rattle.vr_msg.specs.declared.output.Output.{Output}
use Rattle.vr_msg.specs.declared.output.Output.TheVariants as output
use Rattle.vr_msg.specs.declared.statement.Statement.{Statement}
use Rattle.vr_rules.specs.Replica.{Replica, leads}
use Rattle.vr_rules.specs.Steps.{Effect, Mend, Setting, Word, ◌⨾◌, quiet, change, does, says, by, naming, reading, times, each, outputs, after_all, Say}
use Rattle.vr_rules.specs.Outputs as told
use Rattle.vr_rules.specs.Words as words
use Rattle.vr_rules.proofs.SendsScripts.{outputs_append, outputs_said}

-- neither a wait nor a choice
abbrev pub IsPlain : Output → Type 0
IsPlain (output.Wait line) = ⊥
IsPlain (output.Choose line) = ⊥
IsPlain _ = ⊤

abbrev pub IsNoWait : Output → Type 0
IsNoWait (output.Wait line) = ⊥
IsNoWait _ = ⊤

-- whatever holds of all plain outputs holds of each of these
pub plain_are : (P : Output → Type 0) → ((o : Output) → IsPlain o → P o) → (os : List Output) → All IsPlain os → All P os
plain_are P h [] k = All-nil P
plain_are P h (o ∷ os) k = All-cons P o os (h o (All-head IsPlain o os k)) (plain_are P h os (All-tail IsPlain o os k))

plain_waits : (o : Output) → IsPlain o → IsNoWait o
plain_waits (output.Wait line) h = h
plain_waits (output.Send s) h = tt
plain_waits (output.Reply a) h = tt
plain_waits (output.Commit c) h = tt
plain_waits (output.Choose c) h = tt
plain_waits (output.Start s) h = tt
plain_waits (output.Halted r) h = tt
plain_waits (output.Migrated r) h = tt
plain_waits output.Done h = tt
plain_waits output.KeptOut h = tt

module _ {F : Type 0} where
  pub record Mute (w : Word F) : Type 0 where
    pub said : (s : Setting F) (r : Replica) (f : F) → All IsPlain (outputs (w s r f).script)

  pub mute_then : (v w : Word F) → Mute v → Mute w → Mute (v ⨾ w)
  unfolding ◌⨾◌
  mute_then v w h k = record {
    said = λ s r f.
        let a = v s r f in
        let b = w s a.replica (after_all s f a.script) in
        rw (outputs_append a.script b.script) (All-append IsPlain (outputs a.script) (outputs b.script) (h.said s r f) (k.said s a.replica (after_all s f a.script)));
  }

  pub mute_quiet : Mute quiet
  unfolding quiet outputs
  mute_quiet = record { said = λ s r f. All-nil IsPlain }

  pub mute_change : (g : Replica → Replica) → Mute (change g)
  unfolding change outputs
  mute_change g = record { said = λ s r f. All-nil IsPlain }

  pub mute_does : (e : Replica → Effect) → ((r : Replica) → outputs (e r ∷ []) ≡ []) → Mute (does e)
  unfolding does
  mute_does e n = record { said = λ s r f. rw (n r) (All-nil IsPlain) }

  pub mute_says : (os : Replica → List Output) → ((r : Replica) → All IsPlain (os r)) → Mute (says os)
  unfolding says
  mute_says os n = record { said = λ s r f. rw (outputs_said (os r)) (n r) }

  pub mute_by : (w : Replica → Word F) → ((r : Replica) → Mute (w r)) → Mute (by w)
  unfolding by
  mute_by w h = record { said = λ s r f. (h r).said s r f }

  pub mute_naming : (w : (List ℕ → List ℕ) → Word F) → ((hash : List ℕ → List ℕ) → Mute (w hash)) → Mute (naming w)
  unfolding naming
  mute_naming w h = record { said = λ s r f. (h s.hash).said s r f }

  pub mute_reading : {X : Type 0} (g : Setting F → F → X) (w : X → Word F) → ((x : X) → Mute (w x)) → Mute (reading g w)
  unfolding reading
  mute_reading g w h = record { said = λ s r f. (h (g s f)).said s r f }

  pub mute_if : (b : Bool) (v w : Word F) → Mute v → Mute w → Mute (cond b v w)
  mute_if true v w h k = h
  mute_if false v w h k = k

  pub mute_times : (n : ℕ) (w : Word F) → Mute w → Mute (times n w)
  unfolding times
  mute_times zero w h = mute_quiet
  mute_times (suc n) w h = mute_then w (times n w) h (mute_times n w h)

  pub mute_each : {X : Type 0} (w : X → Word F) (xs : List X) → ((x : X) → Mute (w x)) → Mute (each w xs)
  unfolding each
  mute_each w [] h = mute_quiet
  mute_each w (x ∷ xs) h = mute_then (w x) (each w xs) (h x) (mute_each w xs h)

  -- ---- words

  pub mute_one : (o : Replica → Output) → ((r : Replica) → IsPlain (o r)) → Mute (says (λ r. o r ∷ []))
  mute_one o n = mute_says _ (λ r. All-cons IsPlain (o r) [] (n r) (All-nil IsPlain))

  pub mute_all : (message : Replica → Frame) → Mute (says (told.send_to_all message))
  unfolding told.send_to_all
  mute_all message = mute_says _ (λ r. All-map IsPlain (λ to. told.send to (message r) r) (told.others r.index r.n) (λ k d l. tt))

  pub mute_save : Mute words.save
  unfolding words.save outputs
  mute_save = mute_then _ _ (mute_does _ (λ r. refl)) (mute_change _)

  pub mute_write : (e : Whole) → Mute (words.write e)
  unfolding words.write outputs
  mute_write e = mute_then _ _ (mute_does _ (λ r. refl)) (mute_change _)

  mute_or_lost : (h : Header) (w : Whole → Word F) (e : Option Whole) → ((e : Whole) → Mute (w e)) → Mute (words.or_lost h w e)
  mute_or_lost h w None k = mute_change _
  mute_or_lost h w (Some e) k = k e

  mute_part : (w : Whole → Word F) (p : Part) → ((e : Whole) → Mute (w e)) → Mute (words.with_entry w p)
  mute_part w (Here h) k = mute_reading _ _ (λ e. mute_or_lost h w e k)
  mute_part w (Lost h) k = mute_quiet
  mute_part w (Wanted h) k = mute_quiet
  mute_part w Unknown k = mute_quiet
  mute_part w Nothing k = mute_quiet

  pub mute_entry : (op : ℕ) (w : Whole → Word F) → ((e : Whole) → Mute (w e)) → Mute (words.with_entry_at op w)
  unfolding words.with_entry_at
  mute_entry op w k = mute_by _ (λ r. mute_part w _ k)

  mute_reply : (e : Whole) → Mute (says (told.applied_reply e))
  mute_reply e =
      mute_says _ (λ r. cond_both (leads r) (told.replies (told.asker_of e) (told.kind_of _) r) [] (λ os. All IsPlain os) (λ _. All-cons IsPlain _ [] tt (All-nil IsPlain)) (λ _. All-nil IsPlain))

  mute_checkpoint : Mute words.make_checkpoint
  unfolding words.make_checkpoint outputs
  mute_checkpoint = mute_by _ (λ r. mute_reading _ _ (λ c. mute_then _ _ (mute_does _ (λ r. refl)) (mute_then _ _ (mute_change _) mute_save)))

  mute_apply_entry : (e : Whole) → Mute (words.apply_entry e)
  unfolding words.apply_entry
  mute_apply_entry e =
      mute_then _ _ (mute_one _ (λ r. tt)) (mute_then _ _ (mute_reply e) (mute_then _ _ (mute_change _) (mute_by _ (λ r. mute_if _ _ _ mute_checkpoint mute_quiet))))

  pub mute_apply : Mute words.apply
  unfolding words.apply words.apply_next
  mute_apply = mute_by _ (λ r. mute_times _ _ (mute_by _ (λ r. mute_if _ _ _ (mute_entry _ _ mute_apply_entry) mute_quiet)))

  pub mute_take : (l : words.Log) → Mute (words.take l)
  unfolding words.take
  mute_take l = mute_then _ _ (mute_change _) mute_save

  pub mute_jump : (v : SyncView) → Mute (words.jump v)
  unfolding words.jump
  mute_jump v = mute_then _ _ (mute_change _) mute_save

  pub mute_prepare_again : (op : ℕ) → Mute (words.prepare_again op)
  unfolding words.prepare_again
  mute_prepare_again op = mute_entry op _ (λ e. mute_all _)

  -- no wait, though a choice it may be
  pub record Unwaiting (w : Word F) : Type 0 where
    pub said : (s : Setting F) (r : Replica) (f : F) → All IsNoWait (outputs (w s r f).script)

  pub unwaiting_mute : (w : Word F) → Mute w → Unwaiting w
  unwaiting_mute w h = record { said = λ s r f. plain_are IsNoWait plain_waits (outputs (w s r f).script) (h.said s r f) }

  unwaiting_says : (os : Replica → List Output) (w : Word F) → ((r : Replica) → All IsNoWait (os r)) → Mute w → Unwaiting (says os ⨾ w)
  unfolding ◌⨾◌ says
  unwaiting_says os w n h = record {
    said = λ s r f.
        let d = after_all s f (map Say (os r)) in
        let b = w s r d in
        rw (outputs_append (map Say (os r)) b.script, outputs_said (os r)) (All-append IsNoWait (os r) (outputs b.script) (n r) ((unwaiting_mute w h).said s r d));
  }

  pub mute_advance : Mute words.advance
  unfolding words.advance
  mute_advance = mute_then _ _ (mute_change _) mute_apply

  pub unwaiting_begin : (ss : List Statement) (l : words.Log) → Unwaiting (words.begin_view ss l)
  unfolding words.begin_view
  unwaiting_begin ss l =
      unwaiting_says (words.choose_line ss l) _ (λ r. All-cons IsNoWait _ [] tt (All-nil IsNoWait))
      (mute_then _ _ (mute_take l) (mute_then _ _ (mute_all _) (mute_then _ _ (mute_by _ (λ r. mute_each _ _ mute_prepare_again)) (mute_by _ (λ r. mute_if _ _ _ mute_advance mute_apply)))))

  pub mute_learn : (c : ℕ) → Mute (words.learn c)
  unfolding words.learn
  mute_learn c = mute_then _ _ (mute_change _) mute_apply

  pub mute_accept : (e : Whole) → Mute (words.accept e)
  unfolding words.accept
  mute_accept e = mute_by _ (λ r. mute_if _ _ _ (mute_write e) mute_quiet)

  pub mute_resend : (e : Whole) → Mute (words.resend e)
  unfolding words.resend
  mute_resend e = mute_naming _ (λ hash. mute_by _ (λ r. mute_if _ _ _ (mute_if _ _ _ (mute_all _) (mute_one _ (λ r. tt))) mute_quiet))

  pub mute_load : Mute words.load
  unfolding words.load
  mute_load = mute_by _ (λ r. mute_if _ _ _ (mute_reading _ _ (λ l. mute_change _)) mute_quiet)

  -- ---- a visit of the disk

  mute_mend_header : (h : Header) (d : Option Header) → Mute (words.mend_header h d)
  unfolding outputs
  mute_mend_header h None = mute_does _ (λ r. refl)
  mute_mend_header h (Some d) = mute_if _ _ _ (mute_does _ (λ r. refl)) mute_quiet

  mute_visit_slot : (op : ℕ) → Mute (words.visit_slot op)
  unfolding words.visit_slot
  mute_visit_slot op = mute_entry op _ (λ e. mute_reading _ _ (mute_mend_header e.header))

  mute_visit_read : (name : Name) (block : Option (List ℕ)) → Mute (words.visit_read name block)
  mute_visit_read name None = mute_change _
  mute_visit_read name (Some block) = mute_quiet

  mute_visit_block : (name : Option Name) → Mute (words.visit_block name)
  unfolding words.visit_block
  mute_visit_block None = mute_quiet
  mute_visit_block (Some name) = mute_reading _ _ (mute_visit_read name)

  mute_visit_place : (at : ℕ) → Mute (words.visit_place at)
  unfolding words.visit_place outputs
  mute_visit_place at =
      mute_by _ (λ r.
      let name : Option Name = slice_get (words.blocks_of r) (at - 65) in
      mute_if (nat_lt at 64) (words.visit_slot (words.op_of_slot r at)) (cond (at == 64) (does (λ r. Mend r.saved)) (words.visit_block name)) (mute_visit_slot _)
      (mute_if (at == 64) (does (λ r. Mend r.saved)) (words.visit_block name) (mute_does (λ r. Mend r.saved) (λ r. refl)) (mute_visit_block name)))

  pub mute_visit : Mute words.visit
  unfolding words.visit
  mute_visit = mute_by _ (λ r. mute_if _ _ _ (mute_then _ _ (mute_visit_place _) (mute_change _)) mute_quiet)
