-- A start_view that arrives (rule 26): its log is taken over and saved, and what is stored of it is acknowledged.
use Rattle.std.proofs.Common.{ℕ, ◌≡◌, ◌∙◌, refl, sym, ap, subst, Bool, true, false, List, [], ◌∷◌, Option, Some, None}
use Rattle.std.specs.Option.{option_map_or}
use Rattle.std.proofs.lemmas.Bool.{and_parts}
use Rattle.vr_header.specs.declared.header.Header.{Header}
use Rattle.vr_header.specs.declared.part.Part.{Part}
use Rattle.vr_header.specs.declared.part.Part.TheVariants.{Here}
use Rattle.vr_header.specs.Parts.{header_of}
use Rattle.vr_msg.specs.declared.frame.Frame.TheVariants as frame
use Rattle.vr_msg.specs.declared.frame.StartView.{StartView}
use Rattle.vr_msg.specs.Choice.{ops}
use Rattle.vr_rules.specs.Replica.{Replica, head, is_here, part_at}
use Rattle.vr_rules.specs.Outputs.{send_to, get_sync}
use Rattle.vr_rules.specs.Steps.{Setting, Word, ◌⨾◌, quiet, change, by, when, each, after_all}
use Rattle.vr_rules.specs.Words.{Log, taken, take, with_saved, apply, may_take, log_header}
use Rattle.vr_rules.specs.Deciding.{log_of, start_view_table}
use Rattle.vr_rules.specs.Rules.{acknowledge, acknowledge_stored, obey_start_view, on_start_view}
use Rattle.vr_rules.specs.Laws.{IsMessage}
use Rattle.vr_rules.proofs.Ruling.{by_rows, group_of_primary, told_log}
use Rattle.vr_rules.specs.Given.{IsLogFor}
use Rattle.vr_rules.proofs.Taking.{MayTake, may_take_is, over, kept_taken}
use Rattle.law_1_machine.specs.Basics.{In}
use Rattle.law_1_machine.specs.Group.{Group}
use Rattle.law_1_machine.specs.Members.{Memory, Start_view}
use Rattle.law_1_machine.specs.Taking as machine
use Rattle.law_1_machine.specs.Machine as move
use Rattle.law_2_chains.specs.Local.{Local}
use Rattle.law_2_chains.specs.Chains.{Setup, Every, AsksNothing, WasSent, Mid, Goes}
use Rattle.law_2_chains.proofs.Scripts.{goes_regrouped, goes_quiet, goes_by, goes_naming}
use Rattle.law_2_chains.proofs.Readying.{free_ready}
use Rattle.law_2_chains.proofs.Moving.{goes_says}
use Rattle.law_2_chains.proofs.Saving.{forgotten, goes_save_then}
use Rattle.law_2_chains.proofs.Applying.{goes_apply}
use Rattle.law_2_chains.proofs.Vouching.{goes_acknowledge_then}
use Rattle.law_2_chains.proofs.Prepares.{here_is}
use Rattle.law_2_chains.proofs.Takes.{parts_over, commit_over, takes_over, covers_taken, keeps_taken, taken_views}

module _ (u : Setup) (start : Group Header) (i : ℕ) where
  -- a log that a start_view told is taken over, and then the replica goes on
  pub goes_take_then : {F : Type 0} (l : Log) (from : ℕ) (w : Word F) (t : Setting F) (r : Replica) (f : F) (k : Local) (s : Group Header) (x : Mid u start i r k s) → IsLogFor r l → MayTake l r
      → Every AsksNothing k.said → In (Start_view from l.view l.lo l.head l.commit (log_header l)) start.sent
      → ((k : Local) (a : Group Header) (d : F) → Mid u start i (with_saved (taken l r)) k a → Goes u start i k (w t (with_saved (taken l r)) d)) → Goes u start i k ((take l ⨾ w) t r f)
  unfolding take ◌⨾◌ change after_all
  goes_take_then l from w t r f k s x log may free told go =
      let m' : Memory Header = machine.taken x.memory l.view (parts_over l r x.sound log may) (commit_over l r x.sound log may) (head (over l r)) in
      let v = taken_views l r x.sound log may in
      goes_save_then u start i (taken l r) k s x.under x.memory m' x.running
      (move.takes_over from l.view l.lo l.head l.commit (log_header l) (parts_over l r x.sound log may) (commit_over l r x.sound log may) (head (over l r)) (rw x.under.sent told) (takes_over l r x.sound log may x.memory x.reflects))
      (covers_taken l r x.sound log may x.memory x.reflects) (kept_taken l r x.sound log may).sound (v.2 ∙ x.place) (v.3 ∙ x.size) (keeps_taken l r x.sound log may k.member x.stored)
      (free_ready u start.sent i (forgotten (taken l r) m') (s.members i).slots k.said free) w t f go

  goes_quiet_then : {F : Type 0} (w : Word F) (t : Setting F) (r : Replica) (k : Local) (a : Group Header) (d : F) → Mid u start i r k a
      → ((k : Local) (a : Group Header) (d : F) → Mid u start i r k a → Goes u start i k (w t r d)) → Goes u start i k ((quiet ⨾ w) t r d)
  unfolding quiet ◌⨾◌
  goes_quiet_then w t r k a d x go = go k a _ x

  -- words that leave the replica as it is, for each of a list
  pub goes_each_then : {F X : Type 0} (v : X → Word F) (w : Word F) (t : Setting F) (r : Replica)
      → ((y : X) (w : Word F) (k : Local) (a : Group Header) (d : F) → Mid u start i r k a → ((k : Local) (a : Group Header) (d : F) → Mid u start i r k a → Goes u start i k (w t r d)) → Goes u start i k ((v y ⨾ w) t r d))
      → (xs : List X) (k : Local) (a : Group Header) (d : F) → Mid u start i r k a → ((k : Local) (a : Group Header) (d : F) → Mid u start i r k a → Goes u start i k (w t r d))
      → Goes u start i k ((each v xs ⨾ w) t r d)
  unfolding each
  goes_each_then v w t r one [] k a d x go = goes_quiet_then w t r k a d x go
  goes_each_then v w t r one (y ∷ ys) k a d x go = goes_regrouped u start i (v y) (each v ys) w t r d k (one y (each v ys ⨾ w) k a d x (λ k a d z. goes_each_then v w t r one ys k a d z go))

  acknowledges : {F : Type 0} (p : Part) (o : Option Header) (w : Word F) (t : Setting F) (r : Replica) (k : Local) (a : Group Header) (d : F) (op : ℕ) (b : Bool) → Mid u start i r k a → t.hash ≡ u.hash
      → r.view ≡ r.log_view → part_at r op ≡ p → header_of p ≡ o → is_here p ≡ b → ((k : Local) (a : Group Header) (d : F) → Mid u start i r k a → Goes u start i k (w t r d))
      → Goes u start i k ((when b (option_map_or (acknowledge t.hash) o quiet) ⨾ w) t r d)
  unfolding quiet ◌⨾◌
  acknowledges p None w t r k a d op true x same begun at known here go = go k a _ x
  acknowledges p (Some h) w t r k a d op true x same begun at known here go =
      let is : part_at r op ≡ Here h = at ∙ here_is p h known here in
      let number : h.op ≡ op = (x.sound.entries.each op h (ap header_of is)).1.at_op in
      goes_acknowledge_then u start i t.hash h w t r d k a x same begun (subst (λ j. part_at r j ≡ Here h) (sym number) is) go
  acknowledges p o w t r k a d op false x same begun at known here go = go k a _ x

  pub goes_acknowledge_stored_then : {F : Type 0} (op : ℕ) (w : Word F) (t : Setting F) (r : Replica) (k : Local) (a : Group Header) (d : F) → Mid u start i r k a → t.hash ≡ u.hash → r.view ≡ r.log_view
      → ((k : Local) (a : Group Header) (d : F) → Mid u start i r k a → Goes u start i k (w t r d)) → Goes u start i k ((acknowledge_stored t.hash op ⨾ w) t r d)
  unfolding acknowledge_stored by ◌⨾◌
  goes_acknowledge_stored_then op w t r k a d x same begun go = acknowledges (part_at r op) (header_of (part_at r op)) w t r k a d op (is_here (part_at r op)) x same begun refl refl refl go

  pub acknowledges_all : {F : Type 0} (top : ℕ) (t : Setting F) (r : Replica) (k : Local) (a : Group Header) (d : F) → Mid u start i r k a → t.hash ≡ u.hash → r.view ≡ r.log_view
      → Goes u start i k ((by (λ r. each (acknowledge_stored t.hash) (ops r.commit top)) ⨾ apply) t r d)
  unfolding by ◌⨾◌
  acknowledges_all top t r k a d x same begun =
      goes_each_then (acknowledge_stored t.hash) apply t r (λ op w k a d y go. goes_acknowledge_stored_then op w t r k a d y same begun go) (ops r.commit top) k a d x (λ k a d y. goes_apply u start i t r d k a y)

  pub goes_start_view : {F : Type 0} (v : StartView) (t : Setting F) (r : Replica) (f : F) (l : Local) (s : Group Header) → Mid u start i r l s → t.hash ≡ u.hash → Every AsksNothing l.said
      → IsMessage (frame.StartView v) → WasSent u start.sent (frame.StartView v) → Goes u start i l (on_start_view v t r f)
  unfolding on_start_view
  goes_start_view v t r f l s x same free m sent =
      let idle = goes_quiet u start i t r f l s x in
      goes_naming u start i _ t r f l (goes_by u start i _ t r f l (by_rows (λ z. Goes u start i l (obey_start_view t.hash v z t r f)) (start_view_table t.hash v r) (
        λ a. idle,
        λ n0. (
          λ a.
              let log = told_log v r m (group_of_primary v.version v.cluster v.replica v.view r n0) in
              let may = may_take_is t.hash (log_of v) r (and_parts (may_take t.hash (log_of v) r) _ a).0 in
              let q : Replica = with_saved (taken (log_of v) r) in
              let w = taken_views (log_of v) r x.sound log may in
              goes_take_then (log_of v) v.replica _ t r f l s x log may free sent (λ k b d y. acknowledges_all v.head t q k b d y same (w.0 ∙ sym w.1)),
          λ n1. (λ a. goes_says u start i (λ r. send_to v.replica (get_sync v.view r) r) t r f l s x (tt, tt), λ n2. idle),
        ),
      )))
