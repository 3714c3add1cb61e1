-- Words that leave a replica's tables true, from every sound replica on.
use Rattle.std.proofs.Common.{ℕ, ◌-◌, arith, refl, sym, subst, Bool, true, false, cond, List, [], ◌∷◌, Option, Some, None}
use Rattle.std.specs.Prelude.{nat_lt, ◌==◌, not, slice_get}
use Rattle.vr_header.specs.declared.header.Header.{Header}
use Rattle.vr_header.specs.Made.{Whole}
use Rattle.vr_header.specs.Same.{same_header}
use Rattle.vr_msg.specs.declared.frame.Frame.{Frame}
use Rattle.vr_msg.specs.declared.output.Output.{Output}
use Rattle.vr_state.specs.declared.state.State.{State}
use Rattle.vr_ckpt.specs.declared.name.Name.{Name}
use Rattle.vr_ckpt.specs.declared.table.PayloadTable.{PayloadTable}
use Rattle.vr_rules.specs.Replica.{Replica, head, is_alone, part_at}
use Rattle.vr_rules.specs.Outputs.{send_to_all, prepare, get_block, get_prepare}
use Rattle.vr_rules.specs.Steps.{Effect, Rewrite, Mend, PutBlock, Setting, Word, ◌⨾◌, quiet, change, does, says, by, naming, reading, when, each, after_all}
use Rattle.vr_rules.specs.Words.{with_entry_at, apply, learn, advance, rested, prepare_again, resend, turned, ask_peer, ask_for, ask, least_absent, is_loaded, loads, checkpoint_at, load, blocks_of, op_of_slot, mend_header, header_read, visit_slot, with_worn, visit_read, visit_block, visit_place, place_now, with_cursor, visit}
use Rattle.vr_rules.specs.Rules.{idler, without, put_block, mend_found, not_worn}
use Rattle.vr_rules.specs.Sound.{IsSound}
use Rattle.vr_rules.proofs.Combining.{Keeps, keeps_does}
use Rattle.vr_rules.proofs.Visiting.{keeps_visit, keeps_not_worn}
use Rattle.vr_rules.proofs.Wording.{kept_rested, keeps_apply, keeps_learn, keeps_advance, keeps_prepare_again, keeps_ask}
use Rattle.law_2_chains.proofs.Blocks.{Other, other_loads, with_other}
use Rattle.law_2_chains.proofs.LastWord.{last_word}
use Rattle.law_2_chains.proofs.Holding.{Holds, HoldsBy, holds_same, holds_more, holds_rested, holds_part, holds_if, holds_apply, holds_learn, holds_advance}

-- what it leaves holds the tables, and is sound
pub record Stays {F : Type 0} (w : Word F) : Type 0 where
  pub every : (t : Setting F) (r : Replica) (f : F) → IsSound r → Holds r (w t r f).replica × IsSound (w t r f).replica

pub stays_of : {F : Type 0} (w : Word F) → Keeps w → ((t : Setting F) (r : Replica) (f : F) → IsSound r → HoldsBy w t r f) → Stays w
stays_of w k h = record { every = λ t r f sound. (h t r f sound, (k.every t r f sound).kept.sound) }

pub stays_quiet : {F : Type 0} → Stays {F = F} quiet
unfolding quiet
stays_quiet = record { every = λ t r f sound. (holds_same r, sound) }

pub stays_says : {F : Type 0} (os : Replica → List Output) → Stays {F = F} (says os)
unfolding says
stays_says os = record { every = λ t r f sound. (holds_same r, sound) }

pub stays_then : {F : Type 0} (v w : Word F) → Stays v → Stays w → Stays (v ⨾ w)
unfolding ◌⨾◌
stays_then v w h k = record {
  every = λ t r f sound.
      let a = v t r f in
      let x = h.every t r f sound in
      let y = k.every t a.replica (after_all t f a.script) x.1 in
      (holds_more r a.replica _ x.0 y.0, y.1);
}

pub stays_change : {F : Type 0} (g : Replica → Replica) → ((r : Replica) → IsSound r → Holds r (g r) × IsSound (g r)) → Stays {F = F} (change g)
unfolding change
stays_change g h = record { every = λ t r f sound. h r sound }

pub stays_by : {F : Type 0} (w : Replica → Word F) → ((r : Replica) → Stays (w r)) → Stays (by w)
unfolding by
stays_by w h = record { every = λ t r f sound. (h r).every t r f sound }

pub stays_naming : {F : Type 0} (w : (List ℕ → List ℕ) → Word F) → ((hash : List ℕ → List ℕ) → Stays (w hash)) → Stays (naming w)
unfolding naming
stays_naming w h = record { every = λ t r f sound. (h t.hash).every t r f sound }

pub stays_if : {F : Type 0} (b : Bool) (v w : Word F) → Stays v → Stays w → Stays (cond b v w)
stays_if true v w h k = h
stays_if false v w h k = k

pub stays_when : {F : Type 0} (b : Bool) (w : Word F) → Stays w → Stays (when b w)
stays_when b w h = stays_if b w quiet h stays_quiet

pub stays_each : {F X : Type 0} (w : X → Word F) (xs : List X) → ((x : X) → Stays (w x)) → Stays (each w xs)
unfolding each
stays_each w [] h = stays_quiet
stays_each w (x ∷ xs) h = stays_then (w x) (each w xs) (h x) (stays_each w xs h)

-- ---- the words

pub stays_apply : {F : Type 0} → Stays {F = F} apply
stays_apply = stays_of apply keeps_apply holds_apply

pub stays_learn : {F : Type 0} (c : ℕ) → Stays {F = F} (learn c)
stays_learn c = stays_of (learn c) (keeps_learn c) (holds_learn c)

pub stays_advance : {F : Type 0} → Stays {F = F} advance
stays_advance = stays_of advance keeps_advance holds_advance

pub stays_last : {F : Type 0} → Stays {F = F} last_word
stays_last = stays_by _ (λ r. stays_if (is_alone r) advance apply stays_advance stays_apply)

pub stays_rested : {F : Type 0} → Stays {F = F} (change rested)
stays_rested = stays_change rested (λ r sound. (holds_rested r, (kept_rested r sound).sound))

holds_says : {F : Type 0} (os : Replica → List Output) (t : Setting F) (r : Replica) (f : F) → HoldsBy (says os) t r f
unfolding says
holds_says os t r f = holds_same r

pub holds_again : {F : Type 0} (op : ℕ) (t : Setting F) (r : Replica) (f : F) → IsSound r → HoldsBy (prepare_again op) t r f
unfolding prepare_again with_entry_at by
holds_again op t r f sound = holds_part (λ e. says (send_to_all (prepare e))) op (part_at r op) t r f sound refl (λ e. holds_says (send_to_all (prepare e)) t r f)

pub stays_again : {F : Type 0} (op : ℕ) → Stays {F = F} (prepare_again op)
stays_again op = stays_of (prepare_again op) (keeps_prepare_again op) (holds_again op)

pub holds_entry : {F : Type 0} (op : ℕ) (os : Whole → Replica → List Output) (t : Setting F) (r : Replica) (f : F) → IsSound r → HoldsBy (with_entry_at op (λ e. says (os e))) t r f
unfolding with_entry_at by
holds_entry op os t r f sound = holds_part (λ e. says (os e)) op (part_at r op) t r f sound refl (λ e. holds_says (os e) t r f)

pub stays_resend : {F : Type 0} (e : Whole) → Stays {F = F} (resend e)
unfolding resend
stays_resend e = stays_naming _ (λ hash. stays_by _ (λ r. stays_when _ _ (stays_if _ _ _ (stays_says _) (stays_says _))))

holds_turned : (r : Replica) → Holds r (turned r)
unfolding head part_at
holds_turned r = record { view = refl; log_view = refl; index = refl; n = refl; commit = omega arith; top = omega arith; acks = λ k. refl; here = λ k h e. e; statements = refl }

holds_ask_peer : {F : Type 0} (message : Replica → Frame) (t : Setting F) (r : Replica) (f : F) → HoldsBy (ask_peer message) t r f
unfolding ask_peer says change ◌⨾◌
holds_ask_peer message t r f = holds_turned r

holds_ask_for : {F : Type 0} (names : List Name) (absent : Option Header) (worn : List Name) (t : Setting F) (r : Replica) (f : F) → HoldsBy (ask_for names absent worn) t r f
unfolding naming quiet
holds_ask_for (name ∷ names) absent worn t r f = holds_ask_peer (get_block name) t r f
holds_ask_for [] (Some h) worn t r f = holds_ask_peer (get_prepare t.hash h) t r f
holds_ask_for [] None (name ∷ names) t r f = holds_ask_peer (get_block name) t r f
holds_ask_for [] None [] t r f = holds_same r

holds_ask : {F : Type 0} (t : Setting F) (r : Replica) (f : F) → HoldsBy ask t r f
unfolding ask by
holds_ask t r f = holds_if (not (is_alone r)) (ask_for r.missing (least_absent r) r.worn) t r f (λ b. holds_ask_for r.missing (least_absent r) r.worn t r f)

pub stays_ask : {F : Type 0} → Stays {F = F} ask
stays_ask = stays_of ask keeps_ask (λ t r f sound. holds_ask t r f)

-- ---- visits

holds_with_cursor : (at : ℕ) (r : Replica) → Holds r (with_cursor at r)
unfolding head part_at
holds_with_cursor at r = record { view = refl; log_view = refl; index = refl; n = refl; commit = omega arith; top = omega arith; acks = λ k. refl; here = λ k h e. e; statements = refl }

holds_with_worn : (name : Name) (r : Replica) → Holds r (with_worn name r)
unfolding head part_at
holds_with_worn name r = record { view = refl; log_view = refl; index = refl; n = refl; commit = omega arith; top = omega arith; acks = λ k. refl; here = λ k h e. e; statements = refl }

holds_not_worn : (name : Name) (r : Replica) → Holds r (not_worn name r)
unfolding head part_at
holds_not_worn name r = record { view = refl; log_view = refl; index = refl; n = refl; commit = omega arith; top = omega arith; acks = λ k. refl; here = λ k h e. e; statements = refl }

holds_does : {F : Type 0} (e : Replica → Effect) (t : Setting F) (r : Replica) (f : F) → HoldsBy (does e) t r f
unfolding does
holds_does e t r f = holds_same r

holds_header : {F : Type 0} (h : Header) (o : Option Header) (t : Setting F) (r : Replica) (f : F) → HoldsBy (mend_header h o) t r f
holds_header h None t r f = holds_does _ t r f
holds_header h (Some d) t r f = holds_if (not (same_header d h)) (does (λ r. Rewrite h)) t r f (λ b. holds_does _ t r f)

holds_slot : {F : Type 0} (k : ℕ) (t : Setting F) (r : Replica) (f : F) → IsSound r → HoldsBy (visit_slot k) t r f
unfolding visit_slot with_entry_at by reading
holds_slot k t r f sound = holds_part (λ e. reading (header_read k) (mend_header e.header)) k (part_at r k) t r f sound refl (λ e. holds_header e.header (header_read k t f) t r f)

holds_visit_read : {F : Type 0} (name : Name) (o : Option (List ℕ)) (t : Setting F) (r : Replica) (f : F) → HoldsBy (visit_read name o) t r f
unfolding change quiet
holds_visit_read name None t r f = holds_with_worn name r
holds_visit_read name (Some block) t r f = holds_same r

holds_block : {F : Type 0} (o : Option Name) (t : Setting F) (r : Replica) (f : F) → HoldsBy (visit_block o) t r f
unfolding visit_block reading quiet
holds_block None t r f = holds_same r
holds_block (Some name) t r f = holds_visit_read name (t.block f name) t r f

holds_cond : {F : Type 0} (b : Bool) (v w : Word F) (t : Setting F) (r : Replica) (f : F) → HoldsBy v t r f → HoldsBy w t r f → HoldsBy (cond b v w) t r f
holds_cond true v w t r f h k = h
holds_cond false v w t r f h k = k

holds_place : {F : Type 0} (at : ℕ) (t : Setting F) (r : Replica) (f : F) → IsSound r → HoldsBy (visit_place at) t r f
unfolding visit_place by
holds_place at t r f sound =
    holds_cond (nat_lt at 64) (visit_slot (op_of_slot r at)) _ t r f (holds_slot (op_of_slot r at) t r f sound)
    (holds_cond (at == 64) (does (λ r. Mend r.saved)) (visit_block (slice_get (blocks_of r) (at - 65))) t r f (holds_does _ t r f) (holds_block (slice_get (blocks_of r) (at - 65)) t r f))

holds_visit : {F : Type 0} (t : Setting F) (r : Replica) (f : F) → IsSound r → HoldsBy visit t r f
unfolding visit by change ◌⨾◌
holds_visit t r f sound =
    holds_if (is_loaded r) (visit_place (place_now r) ⨾ change (with_cursor (place_now r))) t r f
    (λ b. holds_more r (visit_place (place_now r) t r f).replica _ (holds_place (place_now r) t r f sound) (holds_with_cursor (place_now r) (visit_place (place_now r) t r f).replica))

pub stays_visit : {F : Type 0} → Stays {F = F} visit
stays_visit = stays_of visit keeps_visit holds_visit

-- a place of the disk is visited, and then something is asked for
pub stays_looks : {F : Type 0} → Stays {F = F} (visit ⨾ ask)
stays_looks = stays_then visit ask stays_visit stays_ask

holds_change_worn : {F : Type 0} (name : Name) (t : Setting F) (r : Replica) (f : F) → HoldsBy (change (not_worn name)) t r f
unfolding change
holds_change_worn name t r f = holds_not_worn name r

pub stays_mend_found : {F : Type 0} (block : List ℕ) (o : Option Name) → Stays {F = F} (mend_found block o)
stays_mend_found block None = stays_quiet
stays_mend_found block (Some name) =
    stays_then (does (λ r. PutBlock name block)) (change (not_worn name)) (stays_of _ (keeps_does _) (λ t r f sound. holds_does _ t r f)) (stays_of _ (keeps_not_worn name) (λ t r f sound. holds_change_worn name t r f))

pub holds_idler : (r : Replica) → Holds r (idler r)
unfolding head part_at
holds_idler r = record { view = refl; log_view = refl; index = refl; n = refl; commit = omega arith; top = omega arith; acks = λ k. refl; here = λ k h e. e; statements = refl }

-- ---- blocks

holds_with_other : (table : PayloadTable) (state : State) (names : List Name) (r : Replica) → Holds r (with_other table state names r)
unfolding head part_at
holds_with_other table state names r = record { view = refl; log_view = refl; index = refl; n = refl; commit = omega arith; top = omega arith; acks = λ k. refl; here = λ k h e. e; statements = refl }

pub holds_other : (r q : Replica) → Other r q → Holds r q
holds_other r q same = subst (Holds r) (sym same) (holds_with_other q.table q.state q.missing r)

holds_read : {F : Type 0} (t : Setting F) (r : Replica) (f : F) → HoldsBy (reading (checkpoint_at r.root) (λ l. change (loads r.root l))) t r f
unfolding reading change
holds_read t r f = holds_other r (loads r.root (checkpoint_at r.root t f) r) (other_loads r.root (checkpoint_at r.root t f) r)

pub holds_load : {F : Type 0} (t : Setting F) (r : Replica) (f : F) → HoldsBy load t r f
unfolding load by
holds_load t r f = holds_if (nat_lt 0 r.checkpoint) (reading (checkpoint_at r.root) (λ l. change (loads r.root l))) t r f (λ b. holds_read t r f)

pub holds_put : {F : Type 0} (name : Name) (block : List ℕ) (t : Setting F) (r : Replica) (f : F) → HoldsBy (put_block name block) t r f
unfolding put_block does change by ◌⨾◌
holds_put name block t r f =
    let q : Replica = without name r in
    holds_more r q _ (holds_other r q refl) (holds_if (is_loaded q) load t q _ (λ b. holds_load t q _))
