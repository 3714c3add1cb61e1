-- Each opening saves values that make good copies.
use Rattle.std.proofs.Common.{arith, ◌≡◌, ◌<◌, ◌+◌, ◌-◌, ◌^◌, refl, ℕ, Bool, true, false, List, [], ◌∷◌, Option, Some, None}
use Rattle.std.specs.Prelude.{All, nat_le}
use Rattle.std.proofs.lemmas.Bool.{and_parts, ltb-false, eqb-true}
use Rattle.std.proofs.lemmas.List.Elements.{All-nil, All-cons, All-append, All-map}
use Rattle.vr_header.specs.declared.header.Header.{Header}
use Rattle.vr_recover.specs.declared.readings.Verdict.{Verdict}
use Rattle.vr_recover.specs.declared.readings.Verdict.TheVariants as verdict
use Rattle.vr_super.specs.Copies.{SuperValue}
use Rattle.vr_rules.specs.Replica.{Replica, head, part_at, is_spent, is_started, is_primary, leads, last_view}
use Rattle.vr_rules.specs.Steps.{Effect, Mend, Say, Setting, Word, ◌⨾◌, quiet, change, does, says, by, reading, each, after_all}
use Rattle.vr_rules.specs.Outputs.{send_to_all, start_view_change, start_line}
use Rattle.vr_rules.specs.Words.{save, apply, load}
use Rattle.vr_rules.specs.Opening.{Slot, blank, recover_old, recover_op, recover_parts, mend_slot, rewrite, leave_view, in_next_view, heard_itself, announce, opening, going_on, resuming}
use Rattle.vr_rules.specs.Sound.{IsSavable}
use Rattle.vr_rules.specs.Laws.{IsGoodSave, SavesRoots, SavesWell, OpeningsSaveWell}
use Rattle.vr_rules.proofs.Combining.{Keeps, keeps_change}
use Rattle.vr_rules.proofs.Wording.{kept_alike}
use Rattle.vr_rules.proofs.Slots.{value_is}
use Rattle.vr_rules.proofs.Openings.{Opened, reads_after, recovered, kept_next, left_applied}
use Rattle.vr_rules.proofs.SavesWell.{Well, GoodBy, Good, well_less, good_then, good_then_at, good_change_then, good_says_then, good_by, good_when, goods_then, goods_says, goods_change, goods_by, goods_when, goods_save}
use Rattle.vr_rules.proofs.SavesWords.{goods_apply}
use Rattle.vr_rules.proofs.SavesTrying.{good_load}
use Rattle.vr_rules.proofs.SavesFound.{savable_recovered}

-- a word that saves nothing
record Unsaved {F : Type 0} (w : Word F) : Type 0 where
  all : (s : Setting F) (r : Replica) (f : F) → All IsGoodSave (w s r f).script

module _ {F : Type 0} where
  unsaved_then : (v w : Word F) → Unsaved v → Unsaved w → Unsaved (v ⨾ w)
  unfolding ◌⨾◌
  unsaved_then v w h k = record {
    all = λ s r f. let a = v s r f in let g = after_all s f a.script in All-append IsGoodSave a.script (w s a.replica g).script (h.all s r f) (k.all s a.replica g);
  }

  unsaved_quiet : Unsaved {F = F} quiet
  unfolding quiet
  unsaved_quiet = record { all = λ s r f. All-nil IsGoodSave }

  unsaved_change : (g : Replica → Replica) → Unsaved {F = F} (change g)
  unfolding change
  unsaved_change g = record { all = λ s r f. All-nil IsGoodSave }

  unsaved_does : (e : Replica → Effect) → ((r : Replica) → IsGoodSave (e r)) → Unsaved {F = F} (does e)
  unfolding does
  unsaved_does e n = record { all = λ s r f. All-cons IsGoodSave (e r) [] (n r) (All-nil IsGoodSave) }

  unsaved_reading : {X : Type 0} (g : Setting F → F → X) (w : X → Word F) → ((x : X) → Unsaved (w x)) → Unsaved (reading g w)
  unfolding reading
  unsaved_reading g w h = record { all = λ s r f. (h (g s f)).all s r f }

  unsaved_each : {X : Type 0} (w : X → Word F) (xs : List X) → ((x : X) → Unsaved (w x)) → Unsaved (each w xs)
  unfolding each
  unsaved_each w [] h = unsaved_quiet
  unsaved_each w (x ∷ xs) h = unsaved_then (w x) (each w xs) (h x) (unsaved_each w xs h)

  unsaved_rewrite : (h : Option Header) → Unsaved {F = F} (rewrite h)
  unsaved_rewrite None = unsaved_quiet
  unsaved_rewrite (Some h) = unsaved_does _ (λ r. tt)

  unsaved_mend : (x : Slot) (v : Verdict) → Unsaved {F = F} (mend_slot x v)
  unsaved_mend x verdict.Rewrite = unsaved_rewrite _
  unsaved_mend x _ = unsaved_quiet

  unsaved_recover : (v : SuperValue) → Unsaved {F = F} (recover_parts v)
  unfolding recover_parts recover_old recover_op
  unsaved_recover v =
      unsaved_then _ _ (unsaved_each _ _ (λ h. unsaved_reading _ _ (λ e. unsaved_change _)))
      (unsaved_then _ _ (unsaved_each _ _ (λ k. unsaved_reading _ _ (λ x. unsaved_then _ _ (unsaved_mend x _) (unsaved_change _)))) (unsaved_then _ _ (unsaved_change _) (unsaved_change _)))

-- ---- the rest

-- views of an opening
abbrev pub every : ℕ
every = 2 ^ 32

pub savable_next : (r : Replica) → r.view + 1 < 2 ^ 32 → IsSavable r → IsSavable (in_next_view r)
unfolding head part_at
savable_next r l v = record { cluster = v.cluster; view = l; log_view = v.log_view; address = v.address; name = v.name; none = v.none; saved = v.saved; top = v.top }

well_next : (n : ℕ) (r : Replica) → leads r ≡ true → Well every n r → Well every n (in_next_view r)
well_next n r e h =
    let same = eqb-true r.view r.log_view (and_parts (is_started r) (is_primary r) e).0 in
    let low = h.savable.log_view in
    record { sound = (kept_next r h.sound).sound; savable = savable_next r (omega arith) h.savable; view = omega arith; room = h.room }

keeps_itself : {F : Type 0} → Keeps {F = F} (change heard_itself)
keeps_itself = keeps_change heard_itself (λ r h. kept_alike r (heard_itself r) refl (record { view = omega arith; log_view = omega arith; commit = omega arith; applied = omega arith; checkpoint = omega arith }) h)

module _ {F : Type 0} (s : Setting F) (roots : SavesRoots s) where
  goods_announce : Good {F = F} every 0 announce s
  goods_announce =
      goods_by every s 0 _ (λ r. goods_when every s 0 _ _ (goods_then every s 0 0 _ _ (goods_change every s heard_itself keeps_itself (λ r. refl) (λ r. refl))
      (goods_by every s 0 _ (λ r. goods_when every s 0 (nat_le r.view last_view) (says (send_to_all start_view_change)) (goods_says every s _)))))

  pub good_leave : (n : ℕ) (r : Replica) (f : F) → Well every (n + 1) r → GoodBy {F = F} every n leave_view s r f
  good_leave n r f h =
      let less = well_less every n (n + 1) r (omega arith) h in
      good_by every s n _ r f (good_when every s n (leads r) _ r f less (λ e.
      good_change_then every s n in_next_view save r f (λ d. (goods_save every s).every n (in_next_view r) d (well_next (n + 1) r e h))))

  good_rest : (r : Replica) (f : F) → r.applied ≡ r.checkpoint → Well every 65 r → GoodBy {F = F} every 0 going_on s r f
  good_rest r f e h =
      let q : Replica = (leave_view s r f).replica in
      let l = good_leave 64 r f h in
      let same : q.applied ≡ q.checkpoint = left_applied s r f e in
      good_then_at every s 0 leave_view _ r f l.saves (good_says_then every s 0 start_line _ q _ (λ d.
      good_then every s 64 0 load (apply ⨾ announce) q d (good_load every s 64 q d same l.well) (λ x y w. (goods_then every s 64 0 apply announce (goods_apply every s roots) goods_announce).every 0 x y w)))

-- where sequence numbers are at their end nothing is saved
spent_rest : {F : Type 0} (s : Setting F) (r : Replica) (f : F) → is_spent r ≡ true → IsSavable r → SavesWell (resuming s r f)
unfolding by says
spent_rest s r f e v = rw e (record { each = All-map IsGoodSave Say (start_line r) (λ k d l. tt); savable = v })

rest_saves : {F : Type 0} (s : Setting F) (r : Replica) (f : F) (b : Bool) → is_spent r ≡ b → SavesRoots s → Opened r → IsSavable r → SavesWell (resuming s r f)
unfolding by
rest_saves s r f true e roots o v = spent_rest s r f e v
rest_saves s r f false e roots o v =
    let room = ltb-false (2 ^ 64 - 256) r.saved.fields.sequence e in
    let g = good_rest s roots r f o.applied (record { sound = o.sound; savable = v; view = v.view; room = omega (arith, room) }) in
    rw e (record { each = g.saves; savable = g.well.savable })

saves_then : {F : Type 0} (s : Setting F) (r : Replica) (f : F) (a b : Word F) → All IsGoodSave (a s r f).script → SavesWell (b s (a s r f).replica (after_all s f (a s r f).script)) → SavesWell ((a ⨾ b) s r f)
unfolding ◌⨾◌
saves_then s r f a b h k =
    let x = a s r f in
    record { each = All-append IsGoodSave x.script (b s x.replica (after_all s f x.script)).script h k.each; savable = k.savable }

recover_saves : {F : Type 0} (s : Setting F) (v : SuperValue) (f : F) (b : Word F) → SavesWell (b s (recover_parts v s (blank v) f).replica (after_all s f (recover_parts v s (blank v) f).script))
    → SavesWell ((recover_parts v ⨾ b) s (blank v) f)
recover_saves s v f b k = saves_then s (blank v) f (recover_parts v) b ((unsaved_recover v).all s (blank v) f) k

pub openings_save_well : {F : Type 0} → OpeningsSaveWell F
unfolding opening does after_all
openings_save_well s f v k roots g =
    let d = s.after f (Mend v) in
    let reads = reads_after s f (Mend v) g k in
    let w = value_is v g in
    let r = (recover_parts v s (blank v) d).replica in
    saves_then s (blank v) f (does (λ r. Mend v)) _ (All-cons IsGoodSave (Mend v) [] tt (All-nil IsGoodSave))
    (recover_saves s v d _ (rest_saves s r _ (is_spent r) refl roots (recovered v s d w reads) (savable_recovered v s d g w reads)))
