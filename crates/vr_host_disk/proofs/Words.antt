-- A step over a disk that lies is that of its sectors: the words.
use Rattle.std.proofs.Common.{ℕ, zero, suc, ◌≡◌, ◌∙◌, refl, ap, Bool, true, false, cond, List, [], ◌∷◌, ◌++◌, Option, Some, None}
use Rattle.std.specs.Prelude.{nat_lt, not, slice_get, ◌+◌, ◌-◌, ◌==◌}
use Rattle.vr_base.specs.Bytes.{name_of}
use Rattle.vr_disk.specs.DiskState.{Face}
use Rattle.vr_header.specs.declared.header.Header.{Header}
use Rattle.vr_header.specs.declared.part.Part.{Part}
use Rattle.vr_header.specs.declared.part.Part.TheVariants.{Here, Lost, Wanted, Unknown, Nothing}
use Rattle.vr_header.specs.Made.{Whole}
use Rattle.vr_header.specs.Same.{same_header}
use Rattle.vr_msg.specs.declared.choice.Choice.{Choice}
use Rattle.vr_msg.specs.declared.choice.Choice.TheVariants.{Ends, WaitsAt, TooFew}
use Rattle.vr_msg.specs.declared.frame.Frame.{Frame}
use Rattle.vr_msg.specs.declared.frame.SyncView.{SyncView}
use Rattle.vr_msg.specs.declared.output.Output.{Output}
use Rattle.vr_msg.specs.declared.statement.Statement.{Statement}
use Rattle.vr_super.specs.Copies.{SuperValue}
use Rattle.vr_ckpt.specs.declared.name.Name.{Name}
use Rattle.vr_rules.specs.Replica.{Replica, forgetting, is_alone, part_at, with_part, last_view}
use Rattle.vr_rules.specs.Steps.{Effect, Rewrite, Mend, Setting, Step, Word, ◌⨾◌, quiet, change, does, says, by, naming, reading, when, times, each, after_all}
use Rattle.vr_rules.specs.Outputs.{applied_reply, commit_line, send_to_all, start_line, start_view_change, wait_line, to_primary, do_view_change}
use Rattle.vr_rules.specs.Words.{Log, accept, advance, advanced, apply, apply_entry, apply_next, applied, ask, ask_for, ask_peer, begin_view, checkpoints, chosen_log, choose_line, decided, enter, entered, learn, learned, load, loads, lost, make_checkpoint, obey_choice, or_lost, prepare_again, resend, rested, save, saves, speak, stated, stored, take, taken, try, try_log, turned, with_checkpoint, with_entry, with_entry_at, with_saved, write, writes, blocks_of, is_loaded, jump, jumped, least_absent, mend_header, op_of_slot, place_now, visit, visit_block, visit_place, visit_read, visit_slot, with_cursor, with_worn}
use Rattle.vr_rules.specs.Opening.{Slot, announce, clouded, entry_header, heard_itself, in_next_view, leave_view, mend_slot, old_headers, old_part, opening, part_by, recover_old, recover_op, recover_parts, resuming, rewrite, slot_verdict}
use Rattle.vr_world.specs.Lying.{Lying, lying}
use Rattle.vr_rules.specs.Sectors.{sectors_by}
use Rattle.vr_world.proofs.FitLies.{same_face, same_version}
use Rattle.vr_msg.specs.Choice.{ops}
use Rattle.vr_recover.specs.declared.readings.Verdict.{Verdict}
use Rattle.vr_recover.specs.declared.readings.Verdict.TheVariants as verdict

-- the same replica and script
pub record Alike (v : Word Lying) (w : Word Face) : Type 0 where
  pub each : (r : Replica) (d : Lying) → v lying r d ≡ w (sectors_by d.version) r d.face

pub a_then : {a b : Word Lying} {v w : Word Face} → Alike a v → Alike b w → Alike (a ⨾ b) (v ⨾ w)
unfolding ◌⨾◌
a_then {a} {b} {v} {w} x y = record {
  each = λ r d.
      let one = a lying r d in
      let left = after_all lying d one.script in
      let s = sectors_by d.version in
      let both : Step → Step = λ x. let t = w s x.replica (after_all s d.face x.script) in record { replica = t.replica; script = x.script ++ t.script } in
      let then : b lying one.replica left ≡ w s one.replica (after_all s d.face one.script) =
      y.each one.replica left ∙ (ap (λ n. w (sectors_by n) one.replica left.face) (same_version one.script d) ∙ ap (w s one.replica) (same_face one.script d)) in
      ap (λ (t : Step). let s : Step = record { replica = t.replica; script = one.script ++ t.script } in s) then ∙ ap both (x.each r d);
}

pub a_quiet : Alike quiet quiet
unfolding quiet
a_quiet = record { each = λ r d. refl }

pub a_change : (g : Replica → Replica) → Alike (change g) (change g)
unfolding change
a_change g = record { each = λ r d. refl }

pub a_does : (e : Replica → Effect) → Alike (does e) (does e)
unfolding does
a_does e = record { each = λ r d. refl }

pub a_says : (os : Replica → List Output) → Alike (says os) (says os)
unfolding says
a_says os = record { each = λ r d. refl }

pub a_by : {a : Replica → Word Lying} {v : Replica → Word Face} → ((r : Replica) → Alike (a r) (v r)) → Alike (by a) (by v)
unfolding by
a_by h = record { each = λ r d. (h r).each r d }

pub a_naming : {a : (List ℕ → List ℕ) → Word Lying} {v : (List ℕ → List ℕ) → Word Face} → ((x : List ℕ → List ℕ) → Alike (a x) (v x)) → Alike (naming a) (naming v)
unfolding naming
a_naming h = record { each = λ r d. (h name_of).each r d }

pub a_reading : {X : Type 0} (g : Setting Lying → Lying → X) (k : Setting Face → Face → X) {a : X → Word Lying} {v : X → Word Face} → ((d : Lying) → g lying d ≡ k (sectors_by d.version) d.face) → ((x : X) → Alike (a x) (v x)) → Alike (reading g a) (reading k v)
unfolding reading
a_reading {X} g k {a} {v} e h = record { each = λ r d. (h (g lying d)).each r d ∙ ap (λ x. v x (sectors_by d.version) r d.face) (e d) }

pub a_if : (b : Bool) {x y : Word Lying} {v w : Word Face} → Alike x v → Alike y w → Alike (cond b x y) (cond b v w)
a_if b {x} {y} {v} {w} h k = elim b as (λ b. Alike (cond b x y) (cond b v w)) [ true ↦ h | false ↦ k ]

pub a_when : (b : Bool) {x : Word Lying} {v : Word Face} → Alike x v → Alike (when b x) (when b v)
a_when b h = a_if b h a_quiet

pub a_times : (n : ℕ) {x : Word Lying} {v : Word Face} → Alike x v → Alike (times n x) (times n v)
unfolding times
a_times zero h = a_quiet
a_times (suc n) h = a_then h (a_times n h)

pub a_each : {X : Type 0} {a : X → Word Lying} {v : X → Word Face} (xs : List X) → ((x : X) → Alike (a x) (v x)) → Alike (each a xs) (each v xs)
unfolding each
a_each [] h = a_quiet
a_each (x ∷ xs) h = a_then (h x) (a_each xs h)

-- ---- words

pub a_save : Alike save save
unfolding save
a_save = a_then (a_does saves) (a_change with_saved)

pub a_enter : (view : ℕ) → Alike (enter view) (enter view)
unfolding enter
a_enter view = a_if (nat_lt last_view view) (a_change rested) (a_then (a_change (entered view)) (a_then a_save (a_says (send_to_all start_view_change))))

pub a_write : (e : Whole) → Alike (write e) (write e)
unfolding write
a_write e = a_then (a_does (writes e)) (a_change (stored e))

pub a_accept : (e : Whole) → Alike (accept e) (accept e)
unfolding accept
a_accept e = a_by (λ r. a_when _ (a_write e))

a_or_lost : (h : Header) {w : Whole → Word Lying} {w' : Whole → Word Face} (o : Option Whole) → ((e : Whole) → Alike (w e) (w' e)) → Alike (or_lost h w o) (or_lost h w' o)
a_or_lost h None x = a_change (lost h)
a_or_lost h (Some e) x = x e

a_with : {w : Whole → Word Lying} {w' : Whole → Word Face} (p : Part) → ((e : Whole) → Alike (w e) (w' e)) → Alike (with_entry w p) (with_entry w' p)
a_with (Here h) x = a_reading _ _ (λ d. refl) (λ o. a_or_lost h o x)
a_with (Lost h) x = a_quiet
a_with (Wanted h) x = a_quiet
a_with Unknown x = a_quiet
a_with Nothing x = a_quiet

pub a_with_at : (op : ℕ) {w : Whole → Word Lying} {w' : Whole → Word Face} → ((e : Whole) → Alike (w e) (w' e)) → Alike (with_entry_at op w) (with_entry_at op w')
unfolding with_entry_at
a_with_at op x = a_by (λ r. a_with (part_at r op) x)

pub a_make_checkpoint : Alike make_checkpoint make_checkpoint
unfolding make_checkpoint
a_make_checkpoint = a_by (λ r. a_reading _ _ (λ d. refl) (λ c. a_then (a_does checkpoints) (a_then (a_change (with_checkpoint c)) a_save)))

pub a_apply_entry : (e : Whole) → Alike (apply_entry e) (apply_entry e)
unfolding apply_entry
a_apply_entry e = a_then (a_says (commit_line e)) (a_then (a_says (applied_reply e)) (a_then (a_change (applied e)) (a_by (λ r. a_when _ a_make_checkpoint))))

pub a_apply_next : Alike apply_next apply_next
unfolding apply_next
a_apply_next = a_by (λ r. a_when _ (a_with_at _ a_apply_entry))

pub a_apply : Alike apply apply
unfolding apply
a_apply = a_by (λ r. a_times _ a_apply_next)

pub a_advance : Alike advance advance
unfolding advance
a_advance = a_then (a_change advanced) a_apply

pub a_learn : (c : ℕ) → Alike (learn c) (learn c)
unfolding learn
a_learn c = a_then (a_change (learned c)) a_apply

pub a_take : (l : Log) → Alike (take l) (take l)
unfolding take
a_take l = a_then (a_change (taken l)) a_save

pub a_prepare_again : (op : ℕ) → Alike (prepare_again op) (prepare_again op)
unfolding prepare_again
a_prepare_again op = a_with_at op (λ e. a_says _)

pub a_begin_view : (ss : List Statement) (l : Log) → Alike (begin_view ss l) (begin_view ss l)
unfolding begin_view
a_begin_view ss l = a_then (a_says (choose_line ss l)) (a_then (a_take l) (a_then (a_says _) (a_then (a_by (λ r. a_each _ a_prepare_again)) (a_by (λ r. a_if (is_alone r) a_advance a_apply)))))

pub a_try_log : (ss : List Statement) (l : Log) → Alike (try_log ss l) (try_log ss l)
unfolding try_log
a_try_log ss l = a_naming (λ hash. a_by (λ r. a_if _ (a_begin_view ss l) (a_says _)))

pub a_choice : (ss : List Statement) (c : Choice) → Alike (obey_choice ss c) (obey_choice ss c)
a_choice ss TooFew = a_quiet
a_choice ss (WaitsAt op) = a_says (wait_line op)
a_choice ss (Ends headers) = a_by (λ r. a_try_log ss (chosen_log r ss headers))

pub a_try : Alike try try
unfolding try
a_try = a_by (λ r. a_when _ (a_choice (stated r) (decided r)))

pub a_speak : Alike speak speak
unfolding speak
a_speak = a_by (λ r. a_when _ (a_if _ a_try (a_says (to_primary do_view_change))))

pub a_resend : (e : Whole) → Alike (resend e) (resend e)
unfolding resend
a_resend e = a_naming (λ hash. a_by (λ r. a_when _ (a_if _ (a_says _) (a_says _))))

pub a_ask_peer : (m : Replica → Frame) → Alike (ask_peer m) (ask_peer m)
unfolding ask_peer
a_ask_peer m = a_then (a_says _) (a_change turned)

pub a_ask_for : (ns : List Name) (o : Option Header) (ws : List Name) → Alike (ask_for ns o ws) (ask_for ns o ws)
a_ask_for (n ∷ ns) o ws = a_ask_peer _
a_ask_for [] (Some h) ws = a_naming (λ hash. a_ask_peer _)
a_ask_for [] None (n ∷ ns) = a_ask_peer _
a_ask_for [] None [] = a_quiet

pub a_ask : Alike ask ask
unfolding ask
a_ask = a_by (λ r. a_when (not (is_alone r)) (a_ask_for r.missing (least_absent r) r.worn))

pub a_jump : (v : SyncView) → Alike (jump v) (jump v)
unfolding jump
a_jump v = a_then (a_change (jumped v)) a_save

-- ---- a visit

a_mend_header : (h : Header) (o : Option Header) → Alike (mend_header h o) (mend_header h o)
a_mend_header h None = a_does (λ r. Rewrite h)
a_mend_header h (Some d) = a_when (not (same_header d h)) (a_does (λ r. Rewrite h))

a_visit_slot : (op : ℕ) → Alike (visit_slot op) (visit_slot op)
unfolding visit_slot
a_visit_slot op = a_with_at op (λ e. a_reading _ _ (λ d. refl) (a_mend_header e.header))

a_visit_read : (name : Name) (o : Option (List ℕ)) → Alike (visit_read name o) (visit_read name o)
a_visit_read name None = a_change (with_worn name)
a_visit_read name (Some block) = a_quiet

a_visit_block : (o : Option Name) → Alike (visit_block o) (visit_block o)
unfolding visit_block
a_visit_block None = a_quiet
a_visit_block (Some name) = a_reading _ _ (λ d. refl) (a_visit_read name)

a_visit_place : (at : ℕ) → Alike (visit_place at) (visit_place at)
unfolding visit_place
a_visit_place at =
    a_by (λ r. a_if (nat_lt at 64) (a_visit_slot (op_of_slot r at)) (a_if (at == 64) (a_does (λ r. Mend r.saved)) (a_visit_block (slice_get (blocks_of r) (at - 65)))))

pub a_visit : Alike visit visit
unfolding visit
a_visit = a_by (λ r. a_when (is_loaded r) (a_then (a_visit_place (place_now r)) (a_change (with_cursor (place_now r)))))

pub a_load : Alike load load
unfolding load
a_load = a_by (λ r. a_when _ (a_reading _ _ (λ d. refl) (λ l. a_change (loads r.root l))))

-- ---- an opening, after the mending

pub a_leave : Alike leave_view leave_view
a_leave = a_by (λ r. a_when _ (a_then (a_change in_next_view) a_save))

pub a_announce : Alike announce announce
a_announce = a_by (λ r. a_when _ (a_then (a_change heard_itself) (a_by (λ r. a_when _ (a_says _)))))

pub a_resuming : Alike resuming resuming
a_resuming = a_by (λ r. a_if _ (a_says start_line) (a_then a_leave (a_then (a_says start_line) (a_then a_load (a_then a_apply a_announce)))))

-- ---- an opening

a_old : (h : Header) → Alike (recover_old h) (recover_old h)
unfolding recover_old
a_old h = a_reading _ _ (λ d. refl) (λ e. a_change (with_part h.op (old_part h e)))

a_rewrite : (o : Option Header) → Alike (rewrite o) (rewrite o)
a_rewrite None = a_quiet
a_rewrite (Some h) = a_does (λ r. Rewrite h)

a_mend : (x : Slot) (v : Verdict) → Alike (mend_slot x v) (mend_slot x v)
a_mend x verdict.Rewrite = a_rewrite (entry_header x)
a_mend x verdict.Here = a_quiet
a_mend x verdict.Lost = a_quiet
a_mend x verdict.Wanted = a_quiet
a_mend x verdict.Nothing = a_quiet
a_mend x verdict.Unknown = a_quiet

a_op : (v : SuperValue) (k : ℕ) → Alike (recover_op v k) (recover_op v k)
unfolding recover_op
a_op v k = a_reading _ _ (λ d. refl) (λ x. a_then (a_mend x (slot_verdict v k x)) (a_change (with_part k (part_by v k x (slot_verdict v k x)))))

pub a_parts : (v : SuperValue) → Alike (recover_parts v) (recover_parts v)
unfolding recover_parts
a_parts v = a_then (a_each (old_headers v) a_old) (a_then (a_each (ops v.fields.checkpoint (v.fields.checkpoint + 64)) (a_op v)) (a_then (a_change (clouded v)) (a_change forgetting)))

pub a_opening : (v : SuperValue) → Alike (opening v) (opening v)
unfolding opening
a_opening v = a_then (a_does (λ r. Mend v)) (a_then (a_parts v) a_resuming)
