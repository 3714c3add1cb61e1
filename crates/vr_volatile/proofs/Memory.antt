-- Bounds that sound replicas have, and changes of ready ones.
use Rattle.vr_rings.specs.Slots.{Takes}
use Rattle.vr_state.specs.Folds as state
use Rattle.vr_state.proofs.Fitting.{Fits-applied}
use Rattle.vr_state.specs.Fitting.{Fits}
use Rattle.std.proofs.Common.{arith, ◌≡◌, ◌≤◌, ◌<◌, ◌+◌, ◌-◌, ◌^◌, ◌%◌, refl, sym, subst, ℕ, length, List, ◌∙◌, ap, Result, Ok, Err}
use Rattle.std.proofs.lemmas.List.{length-set, nil_from_length}
use Rattle.vr_super.specs.Copies.{IsGood, SuperValue}
use Rattle.vr_super.specs.declared.fields.Fields.{Fields}
use Rattle.vr_header.specs.declared.header.Header.{Header}
use Rattle.vr_header.specs.declared.part.Part.{Part}
use Rattle.vr_header.specs.declared.part.Part.TheVariants.{Here}
use Rattle.vr_header.specs.Made.{Whole, IsEntry}
use Rattle.vr_rules.specs.Replica.{Replica, head, run, forgetting, with_part, part_at, last_view, version}
use Rattle.vr_rules.specs.Words.{value_of, with_saved, rested, stored, lost, entered, learned, applied, with_checkpoint, is_checkpoint, is_loaded}
use Rattle.vr_rules.proofs.SavesCore.{value_is_good}
use Rattle.vr_rules.proofs.SavesWell.{savable_alike, savable_saved}
use Rattle.vr_rules.proofs.SavesParts.{savable_stored, savable_lost, savable_entered, savable_move, topped_moved}
use Rattle.vr_rules.proofs.Storing.{MayStore as May, kept_stored, kept_lost, kept_applied, kept_moved, head_number}
use Rattle.vr_rules.proofs.Wording.{kept_entered}
use Rattle.vr_rules.proofs.Heads.{head_within, head_from, known_within, knows_some}
use Rattle.vr_header.specs.Parts.{header_of}
use Rattle.vr_rules.proofs.Keeping.{spans_of, sound_alike, sound_commit}
use Rattle.vr_rules.proofs.SavesSectors.{sectors_fit}
use Rattle.vr_state.specs.declared.texts.Texts.{Texts}
use Rattle.vr_ckpt.specs.declared.table.PayloadTable.{PayloadTable}
use Rattle.vr_ckpt.specs.declared.saving.SavedCheckpoint as checkpoint
use Rattle.vr_ckpt.specs.Places.{IsCheckpoint}
use Rattle.vr_ckpt.specs.Saves.{saved_checkpoint}
use Rattle.vr_rules.specs.Sound.{IsNameBytes}
use Rattle.std.specs.Prelude.{max, min, OnOk, Bool, true, false, ◌&&◌, nat_lt}
use Rattle.std.proofs.lemmas.Bool.{and_parts, ltb-true, eqb-true, eqb-false}
use Rattle.vr_volatile.specs.Ready.{IsReady, HasWindow, MayStore, MayApply, HasApplied, Readiness}

pub record Bounds (r : Replica) : Type 0 where
  pub top : head r ≤ r.checkpoint + 64
  pub from : r.checkpoint ≤ head r

pub bounds : (r : Replica) → HasWindow r → Bounds r
bounds r h = record { top = head_within r (record { reach = h.reach; parts = h.parts }); from = head_from r }

pub window_of : (r : Replica) → IsReady r → HasWindow r
unfolding IsReady
window_of r h =
    let l = h.sound.lists in
    record { first = l.first; reach = l.reach; parts = l.parts; ackers = l.ackers; statements = l.statements; number = h.sound.order.number }

pub window_part : (k : ℕ) (p : Part) (r q : Replica) → q ≡ with_part k p r → HasWindow r → HasWindow q
unfolding with_part
window_part k p r q e h =
    let n = length-set r.parts (k - r.first) p in
    let parts = h.parts in
    let ackers = h.ackers in
    rw e (record { first = h.first; reach = h.reach; parts = omega (arith, n, parts); ackers = omega (arith, n, ackers); statements = h.statements; number = h.number })

pub value_is : (r : Replica) (f : Fields) (hs : List Header) → IsReady r → r.saved.fields.sequence + 1 < 2 ^ 64 → f ≡ (value_of r).fields → hs ≡ run r → IsGood (record { fields = f; headers = hs })
unfolding IsReady value_of
value_is r f hs h l e i = rw (e, i) (value_is_good r h.sound h.savable l)

-- ---- changes

pub one_spent : (r : Replica) (v : SuperValue) → v ≡ value_of r → v.fields.sequence ≤ r.saved.fields.sequence + 1
unfolding value_of
one_spent r v e = rw e (omega arith)

pub ready_saved : (r q : Replica) (v : SuperValue) → q ≡ with_saved r → v ≡ value_of r → IsGood v → IsReady r → IsReady q
unfolding IsReady value_of
ready_saved r q v e i g h = rw e (record { sound = sound_alike r (with_saved r) refl h.sound; savable = savable_saved r h.savable (subst IsGood i g); idle = h.idle; fits = h.fits })

pub ready_rested : (r q : Replica) → q ≡ rested r → IsReady r → IsReady q
unfolding IsReady
ready_rested r q e h = rw e (record { sound = sound_alike r (rested r) refl h.sound; savable = savable_alike r (rested r) refl h.savable; idle = omega arith; fits = h.fits })

pub ready_stored : (e : Whole) (r q : Replica) → q ≡ stored e r → MayStore e r → IsReady r → IsReady q
unfolding IsReady MayStore forgetting with_part
ready_stored e r q i m h =
    let may : May e r = record { above = m.above; window = m.window; header = m.header; is_entry = m.is_entry } in
    rw i (record { sound = (kept_stored e r h.sound may).sound; savable = savable_stored e r h.sound may h.savable; idle = h.idle; fits = h.fits })

pub ready_entered : (view : ℕ) (r q : Replica) → q ≡ entered view r → r.view ≤ view → view < 2 ^ 32 → IsReady r → IsReady q
unfolding IsReady entered
ready_entered view r q e a b h = rw e (record { sound = (kept_entered view r h.sound a).sound; savable = savable_entered view r b h.savable; idle = omega arith; fits = h.fits })

pub ready_lost : (k : ℕ) (g : Header) (r q : Replica) → q ≡ lost g r → part_at r k ≡ Here g → IsReady r → IsReady q
unfolding IsReady with_part
ready_lost k g r q e i h = rw e (record { sound = (kept_lost k g r h.sound i).sound; savable = savable_lost k g r h.sound i h.savable; idle = h.idle; fits = h.fits })

-- the file takes an entry that may be stored
pub entry_taken : (e : Whole) (r : Replica) → IsReady r → MayStore e r → Takes (version r) e
unfolding IsReady MayStore
entry_taken e r h m = record { most = h.savable.saved.numbers.version.1; taken = m.is_entry.of_version }

-- its file is of version 1 or 2
pub file_version : (r : Replica) → IsReady r → (1 ≤ version r) × (version r ≤ 2)
unfolding IsReady
file_version r h = h.savable.saved.numbers.version

pub in_window : (e : Whole) (r : Replica) → MayStore e r → HasWindow r → (r.first ≤ e.header.op) × (e.header.op - r.first < length r.parts)
unfolding MayStore
in_window e r m h = let a = m.above in let b = m.window in let c = h.reach in let d = h.parts in (omega arith, omega arith)

pub some_member : (r : Replica) → IsReady r → 0 < r.n
unfolding IsReady
some_member r h = let a = h.sound.member in omega arith

least_of : (n : ℕ) → n % 32 ≡ 0 → 1 ≤ n → 32 ≤ n
least_of n e l = omega arith

-- ---- an entry is applied

pub may_apply : (r : Replica) (b : Bool) → IsReady r → b ≡ (is_loaded r && nat_lt r.applied r.commit) → b ≡ true → MayApply r
unfolding IsReady MayApply
may_apply r b h e t =
    let p = and_parts (is_loaded r) (nat_lt r.applied r.commit) (sym e ∙ t) in
    record { ready = h; known = ltb-true r.applied r.commit p.1; loaded = nil_from_length r.missing (eqb-true (length r.missing) 0 p.0) }

pub may_ready : (r : Replica) → MayApply r → IsReady r
unfolding IsReady MayApply
may_ready r h = h.ready

pub has_applied : (e : Whole) (r q : Replica) → q ≡ applied e r → MayApply r → IsEntry e → e.header.version ≤ version r → HasApplied q
unfolding HasApplied MayApply
has_applied e r q i m n t = record { before = r; entry = e; may = m; is = i; op = n.header.op.1; whole = n; takes = t }

-- what is applied leaves a state that the file's version allows
applied_state : (r : Replica) (e : Whole) → Readiness r → IsEntry e → e.header.version ≤ version r → Fits (version r) (state.applied r.state e).state
applied_state r e h n t = Fits-applied (version r) r.state h.fits e t h.savable.saved.numbers.version.1 n.body.fits

-- where no checkpoint is due
pub ready_applied : (q : Replica) → is_checkpoint q.applied ≡ false → HasApplied q → IsReady q
unfolding IsReady HasApplied
ready_applied q d h =
    let r : Replica = h.before in
    let e : Whole = h.entry in
    let is : q ≡ applied e r = h.is in
    let due : is_checkpoint (r.applied + 1) ≡ false = rw is at d in
    let m = h.may in
    let kept = kept_applied e r m.ready.sound h.op m.known m.loaded (eqb-false ((r.applied + 1) % 32) 0 due) in
    rw is (record { sound = kept.sound; savable = savable_alike r (applied e r) refl m.ready.savable; idle = m.ready.idle; fits = applied_state r e m.ready h.whole h.takes })

-- where one is made
pub ready_moved : (c : checkpoint.SavedCheckpoint) (q p : Replica) (cluster : ℕ) (texts : Texts) (op : ℕ) (old : PayloadTable) → is_checkpoint q.applied ≡ true → HasApplied q
    → c ≡ saved_checkpoint cluster texts op old → p ≡ with_checkpoint c q → IsReady p
unfolding IsReady HasApplied with_checkpoint
ready_moved c q p cluster texts op old d h s i =
    let r : Replica = h.before in
    let e : Whole = h.entry in
    let is : q ≡ applied e r = h.is in
    let due : is_checkpoint (r.applied + 1) ≡ true = rw is at d in
    let m = h.may in
    let known = m.known in
    let roots = (sectors_fit (version q)).1 in
    let address : c.root.address < 128 = rw s (roots.address cluster texts op old) in
    let name : IsNameBytes c.root.sum.0 = rw s (roots.name cluster texts op old) in
    let kept = kept_moved c e r m.ready.sound h.op known m.loaded (eqb-true ((r.applied + 1) % 32) 0 due) in
    let savable = savable_move c (applied e r) address name (omega arith) (savable_alike r (applied e r) refl m.ready.savable) (topped_moved c e r m.ready.sound known) in
    rw (i, is) (record { sound = kept.sound; savable = savable; idle = m.ready.idle; fits = applied_state r e m.ready h.whole h.takes })

-- there is room for the window to move up
pub room_to_move : (q : Replica) → HasApplied q → (length q.parts + (q.applied - q.checkpoint) ≤ 128) × (length q.ackers + (q.applied - q.checkpoint) ≤ 128)
unfolding HasApplied
room_to_move q h =
    let r : Replica = h.before in
    let is : q ≡ applied h.entry r = h.is in
    let s = h.may.ready.sound in
    let known = h.may.known in
    let a = s.order.known in
    let near = s.near in
    let few = s.lists.few in
    let parts = s.lists.parts in
    let ackers = s.lists.ackers in
    let one = s.order.applied in
    rw is (omega arith, omega arith)

-- the op that is due is a checkpoint's
pub due_number : (q : Replica) → is_checkpoint q.applied ≡ true → HasApplied q → IsCheckpoint q.applied
unfolding HasApplied
due_number q d h =
    let r : Replica = h.before in
    let is : q ≡ applied h.entry r = h.is in
    let due : is_checkpoint (r.applied + 1) ≡ true = rw is at d in
    let m = h.may in
    let known = m.known in
    let top = head_number r m.ready.sound in
    let known2 = m.ready.sound.order.known in
    let whole : (r.applied + 1) % 32 ≡ 0 = eqb-true ((r.applied + 1) % 32) 0 due in
    rw is (record { whole = whole; least = least_of (r.applied + 1) whole (omega arith); most = omega arith })

-- the header of a stored entry is its op's, and its place is in the lists
pub here_op : (k : ℕ) (h : Header) (r : Replica) → IsReady r → part_at r k ≡ Here h → h.op ≡ k
unfolding IsReady
here_op k h r ready e = (ready.sound.entries.each k h (ap header_of e)).1.at_op

pub here_within : (h : Header) (r : Replica) → IsReady r → part_at r h.op ≡ Here h → (r.first ≤ h.op) × (h.op - r.first < length r.parts)
unfolding IsReady
here_within h r ready e =
    let w = known_within r h.op (spans_of r ready.sound) (knows_some r h.op h (ap header_of e)) in
    let parts = ready.sound.lists.parts in
    (w.0, omega (arith, w.0, w.1, parts))

pub may_member : (r : Replica) (n : ℕ) → n ≡ r.n → MayApply r → 0 < n
unfolding MayApply
may_member r n e h = let a = h.ready.sound.member in omega arith

-- a log isn't of a view past the last one
pub may_low : (r : Replica) → MayApply r → r.log_view ≤ last_view
unfolding MayApply
may_low r h = let low = h.ready.savable.log_view in omega arith

-- the next op is a number
pub next_fits : (r : Replica) → IsReady r → r.applied + 1 < 2 ^ 64
unfolding IsReady
next_fits r h =
    let o = h.sound.order in
    let a = o.commit in
    let b = o.known in
    let c = head_number r h.sound in
    omega arith

pub may_fits : (r : Replica) (n : ℕ) → n ≡ r.applied → MayApply r → n + 1 < 2 ^ 64
unfolding MayApply
may_fits r n e h = let a = h.ready.sound.order.commit in let b = h.ready.sound.order.known in let k = h.known in let c = head_number r h.ready.sound in omega arith

pub few_to_apply : (r : Replica) → IsReady r → r.commit - r.applied ≤ 64
unfolding IsReady
few_to_apply r h =
    let o = h.sound.order in
    let a = o.applied in
    let b = o.known in
    let c = o.window in
    omega arith

pub head_fits : (r : Replica) → IsReady r → head r ≤ 2 ^ 62
unfolding IsReady
head_fits r h = head_number r h.sound

pub commit_fits : (r : Replica) → IsReady r → r.commit ≤ 2 ^ 62
unfolding IsReady
commit_fits r h = let a = h.sound.order.known in let b = head_number r h.sound in omega arith

pub ready_learned : (c : ℕ) (r q : Replica) → q ≡ learned c r → IsReady r → IsReady q
unfolding IsReady
ready_learned c r q e h =
    let known = h.sound.order.known in
    rw e (record { sound = sound_commit r (max r.commit (min c (head r))) (omega arith) (omega arith) h.sound; savable = savable_alike r (learned c r) refl h.savable; idle = h.idle; fits = h.fits })

-- where an entry may be stored is left to what soundness doesn't ask for
pub store_rested : (e : Whole) (r q : Replica) → q ≡ rested r → MayStore e r → MayStore e q
unfolding MayStore
store_rested e r q i m = rw i (record { above = m.above; window = m.window; header = m.header; is_entry = m.is_entry })

-- what stays as it was, where all went well
pub stays_ok : {T E : Type 0} (result : Result T E) (x y z : ℕ) → OnOk result (x ≡ y) → y ≡ z → OnOk result (x ≡ z)
stays_ok (Ok t) x y z a b = a ∙ b
stays_ok (Err e) x y z a b = tt

pub ruleset readies = (ready_learned, store_rested, ready_saved, ready_rested, ready_stored, ready_entered, ready_lost)
