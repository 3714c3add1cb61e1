-- The words keep every replica sound: saving, entering a view, storing, applying, learning, asking, loading.
use Rattle.std.proofs.Common.{ℕ, ◌+◌, ◌-◌, ◌%◌, ◌≤◌, ◌<◌, ◌≡◌, ◌≢◌, ◌∙◌, inl, inr, arith, refl, sym, Bool, true, false, List, [], ◌∷◌, length, get_or, replicate, min, max, Option, Some, None, Ok, Err, cond, ap, subst}
use Rattle.std.specs.Prelude.{nat_lt, Result}
use Rattle.std.specs.List.{prefix_len}
use Rattle.std.proofs.lemmas.Bool.{and_parts, cases_lt, ltb-true, eqb-true, eqb-false}
use Rattle.std.proofs.lemmas.List.{length-replicate, get_or-replicate, get_or_past, nil_from_length}
use Rattle.std.proofs.lemmas.List.FromFn.{length-range_with_len}
use Rattle.std.proofs.lemmas.List.Sums.{prefix_len-le-length}
use Rattle.std.specs.Option.{option_and_then}
use Rattle.vr_header.specs.Parts.{header_of}
use Rattle.vr_header.proofs.SameHeaders.{same_header_is}
use Rattle.vr_header.specs.Same.{same_header}
use Rattle.vr_msg.specs.Numbers.{IsNumber}
use Rattle.vr_state.specs.Sessions.{HaveNumbers}
use Rattle.vr_state.proofs.Numbers.{texts_have_numbers}
use Rattle.vr_base.specs.Replicas.{no_replicas, with_replica}
use Rattle.vr_ckpt.specs.declared.found.Load.{Load}
use Rattle.vr_ckpt.specs.declared.found.Load.TheVariants.{Loaded, Missing}
use Rattle.vr_ckpt.specs.declared.saving.SavedCheckpoint as checkpoint
use Rattle.vr_ckpt.specs.declared.table.PayloadTable.{PayloadTable}
use Rattle.vr_ckpt.specs.declared.name.Name.{Name}
use Rattle.vr_header.specs.declared.header.Header.{Header}
use Rattle.vr_header.specs.declared.part.Part.{Part}
use Rattle.vr_header.specs.declared.part.Part.TheVariants.{Here, Lost, Wanted, Unknown, Nothing}
use Rattle.vr_header.specs.Made.{Whole}
use Rattle.vr_msg.specs.declared.frame.Frame.{Frame}
use Rattle.vr_msg.specs.declared.statement.Statement.{Statement}
use Rattle.vr_msg.specs.Choice.{ops}
use Rattle.vr_state.specs.declared.state.State.{State}
use Rattle.vr_state.specs.StateTexts.{state_decoded}
use Rattle.vr_state.specs.Fitting.{fits as fits_version}
use Rattle.vr_state.specs.declared.fault.StateFault.{StateFault}
use Rattle.vr_rules.specs.Replica.{Replica, last_view, part_at, head, version}
use Rattle.vr_rules.specs.Steps.{Setting, Word, ◌⨾◌, quiet, change, does, says, by, reading, when}
use Rattle.vr_rules.specs.Words.{saves, with_saved, save, no_ackers, no_statements, entered, rested, enter, writes, stored, write, accept, entry_of, or_lost, lost, with_entry, with_entry_at, applied, with_checkpoint, checkpoint_of, make_checkpoint, is_checkpoint, apply_entry, is_loaded, apply_next, apply, has_quorum, advanced, advance, learned, learn, prepare_again, resend, turned, ask_peer, ask_for, ask, with_state, with_missing, loaded_state, loads, checkpoint_at, load, usable, value_of}
use Rattle.vr_rules.specs.Sound.{IsSound}
use Rattle.vr_rules.specs.Laws.{Rises}
use Rattle.vr_rules.proofs.Keeping.{Kept, core, kept_more, sound_alike, sound_commit, sound_ackers, sound_missing, sound_view, sound_state}
use Rattle.vr_rules.proofs.Combining.{KeptBy, Keeps, kept_change_then, kept_does_then, kept_change, kept_by, kept_reading, kept_quiet, kept_if, kept_when, keeps_then, keeps_quiet, keeps_says, keeps_does, keeps_change, keeps_by, keeps_naming, keeps_if, keeps_when, keeps_times}
use Rattle.vr_rules.proofs.Storing.{MayStore, kept_stored, kept_lost, kept_moved, kept_applied}

-- a change of fields that soundness doesn't ask for
pub kept_alike : (r q : Replica) → core q ≡ core r → Rises r q → IsSound r → Kept r q
kept_alike r q e up h = record { sound = sound_alike r q e h; rises = up }

pub keeps_rested : {F : Type 0} → Keeps {F = F} (change rested)
keeps_rested = keeps_change rested (λ r h. kept_alike r (rested r) refl (record { view = omega arith; log_view = omega arith; commit = omega arith; applied = omega arith; checkpoint = omega arith }) h)

pub kept_rested : (r : Replica) → IsSound r → Kept r (rested r)
kept_rested r h = kept_alike r (rested r) refl (record { view = omega arith; log_view = omega arith; commit = omega arith; applied = omega arith; checkpoint = omega arith }) h

pub keeps_save : {F : Type 0} → Keeps {F = F} save
unfolding save value_of
keeps_save = keeps_then (does saves) (change with_saved) (keeps_does saves)
    (keeps_change with_saved (λ r h. kept_alike r (with_saved r) refl (record { view = omega arith; log_view = omega arith; commit = omega arith; applied = omega arith; checkpoint = omega arith }) h))

-- ---- a view is entered

pub none_stated : (n i : ℕ) (s : Statement) → get_or (replicate n None) i None ≡ Some s → ⊥
none_stated n i s e =
    let none_of : Option Statement = None in
    elim (cases_lt i n) [
      | inl l ↦ let none : None ≡ Some s = sym (get_or-replicate n i None None l) ∙ e in cc
      | inr m ↦ let none : None ≡ Some s = sym (get_or_past (replicate n None) i None (omega (arith, length-replicate n none_of))) ∙ e in cc
    ]

pub kept_entered : (v : ℕ) (r : Replica) → IsSound r → r.view ≤ v → Kept r (entered v r)
unfolding entered
kept_entered v r h l =
    let acks = h.lists.ackers in
    let a : IsSound (record r { view = v; statements = no_statements r }) =
    sound_view r v (no_statements r) l (length-replicate r.n None) (λ i s e. absurd (none_stated r.n i s e)) h in
    let b = sound_ackers (record r { view = v; statements = no_statements r }) (no_ackers r) (length-replicate (length r.parts) no_replicas ∙ sym acks) a in
    record {
      sound = sound_alike (record r { view = v; statements = no_statements r; ackers = no_ackers r }) (record r { view = v; ackers = no_ackers r; statements = no_statements r; heard = with_replica no_replicas r.index; idle = 0 }) refl b;
      rises = record { view = l; log_view = omega arith; commit = omega arith; applied = omega arith; checkpoint = omega arith };
    }

pub kept_enter : {F : Type 0} (v : ℕ) (s : Setting F) (r : Replica) (f : F) → IsSound r → r.view ≤ v → KeptBy (enter v) s r f
unfolding enter
kept_enter v s r f h l =
    kept_if (nat_lt last_view v) (change rested) _ s r f (λ e. kept_change rested s r f (kept_rested r h))
    (λ e. kept_change_then (entered v) _ s r f (kept_entered v r h l) (λ d. (keeps_then save _ keeps_save (keeps_says _)).every s (entered v r) d (kept_entered v r h l).sound))

-- ---- entries

pub kept_write : {F : Type 0} (e : Whole) (s : Setting F) (r : Replica) (f : F) → IsSound r → MayStore e r → KeptBy (write e) s r f
unfolding write
kept_write e s r f h m = kept_does_then (writes e) (change (stored e)) s r f (λ d. kept_change (stored e) s r d (kept_stored e r h m))

pub kept_accept : {F : Type 0} (e : Whole) (s : Setting F) (r : Replica) (f : F) → IsSound r → MayStore e r → KeptBy (accept e) s r f
unfolding accept
kept_accept e s r f h m = kept_by _ s r f (kept_when _ (write e) s r f h (λ t. kept_write e s r f h m))

-- what is read under a header is its entry
pub read_is : (h : Header) (o : Option Whole) (e : Whole) → option_and_then (λ d. cond (same_header d.header h) (Some d) None) o ≡ Some e → e.header ≡ h
read_is h None e t = absurd cc
read_is h (Some d) e t =
    elim (same_header d.header h) as (λ b. same_header d.header h ≡ b → cond b (Some d) None ≡ Some e → e.header ≡ h) [
      | true ↦ λ c n. let same : d ≡ e = cc in subst (λ (y : Whole). y.header ≡ h) same (same_header_is d.header h c)
      | false ↦ λ c n. absurd cc
    ] refl t

kept_or_lost : {F : Type 0} (h : Header) (w : Whole → Word F) (o : Option Whole) (s : Setting F) (r : Replica) (f : F) → Kept r (lost h r)
    → ((e : Whole) → o ≡ Some e → KeptBy (w e) s r f) → KeptBy (or_lost h w o) s r f
kept_or_lost h w None s r f l k = kept_change (lost h) s r f l
kept_or_lost h w (Some e) s r f l k = k e refl

-- the entry of an op that is known has the number of one
pub entry_numbered : (op : ℕ) (h : Header) (r : Replica) (e : Whole) → IsSound r → part_at r op ≡ Here h → e.header ≡ h → IsNumber e.header.op
entry_numbered op h r e sound is same =
    let top = (sound.entries.each op h (ap header_of is)).1.entry.op.1 in
    rw same top

kept_with_entry : {F : Type 0} (w : Whole → Word F) (op : ℕ) (p : Part) (s : Setting F) (r : Replica) (f : F) → IsSound r → part_at r op ≡ p
    → ((e : Whole) → IsNumber e.header.op → KeptBy (w e) s r f) → KeptBy (with_entry w p) s r f
kept_with_entry w op (Here h) s r f sound e k =
    kept_reading (entry_of h) (or_lost h w) s r f (kept_or_lost h w (entry_of h s f) s r f (kept_lost op h r sound e)
    (λ d i. k d (entry_numbered op h r d sound e (read_is h (s.entry f (h.op % 64)) d i))))
kept_with_entry w op (Lost h) s r f sound e k = kept_quiet s r f sound
kept_with_entry w op (Wanted h) s r f sound e k = kept_quiet s r f sound
kept_with_entry w op Unknown s r f sound e k = kept_quiet s r f sound
kept_with_entry w op Nothing s r f sound e k = kept_quiet s r f sound

pub kept_with_entry_at : {F : Type 0} (op : ℕ) (w : Whole → Word F) (s : Setting F) (r : Replica) (f : F) → IsSound r → ((e : Whole) → IsNumber e.header.op → KeptBy (w e) s r f) → KeptBy (with_entry_at op w) s r f
unfolding with_entry_at
kept_with_entry_at op w s r f h k = kept_by _ s r f (kept_with_entry w op (part_at r op) s r f h refl k)

pub keeps_with_entry_at : {F : Type 0} (op : ℕ) (w : Whole → Word F) → ((e : Whole) → Keeps (w e)) → Keeps (with_entry_at op w)
keeps_with_entry_at op w h = record { every = λ s r f sound. kept_with_entry_at op w s r f sound (λ e i. (h e).every s r f sound) }

-- ---- applying

kept_make_checkpoint : {F : Type 0} (e : Whole) (s : Setting F) (r : Replica) (f : F) → IsSound r → IsNumber e.header.op → r.applied < r.commit → r.missing ≡ [] → (r.applied + 1) % 32 ≡ 0
    → Kept r (make_checkpoint s (applied e r) f).replica
unfolding make_checkpoint by reading ◌⨾◌ does change
kept_make_checkpoint e s r f h k a m d =
    let q : Replica = applied e r in
    let c : checkpoint.SavedCheckpoint = checkpoint_of q s f in
    let moves : Kept r (with_checkpoint c q) = kept_moved c e r h k a m d in
    kept_more r (with_checkpoint c q) _ moves (keeps_save.every s (with_checkpoint c q) _ moves.sound).kept

kept_applied_then : {F : Type 0} (e : Whole) (s : Setting F) (r : Replica) (f : F) (b : Bool) → b ≡ is_checkpoint (r.applied + 1) → IsSound r → IsNumber e.header.op → r.applied < r.commit → r.missing ≡ []
    → Kept r (when b make_checkpoint s (applied e r) f).replica
unfolding quiet
kept_applied_then e s r f true i h k a m = kept_make_checkpoint e s r f h k a m (eqb-true ((r.applied + 1) % 32) 0 (sym i))
kept_applied_then e s r f false i h k a m = kept_applied e r h k a m (eqb-false ((r.applied + 1) % 32) 0 (sym i))

kept_apply_entry : {F : Type 0} (e : Whole) (s : Setting F) (r : Replica) (f : F) → IsSound r → IsNumber e.header.op → r.applied < r.commit → r.missing ≡ [] → KeptBy (apply_entry e) s r f
unfolding apply_entry says change by ◌⨾◌
kept_apply_entry e s r f h k a m = record { kept = kept_applied_then e s r _ (is_checkpoint (r.applied + 1)) refl h k a m }

pub keeps_apply_next : {F : Type 0} → Keeps {F = F} apply_next
unfolding apply_next
keeps_apply_next = record {
  every = λ s r f h.
      kept_by _ s r f (kept_when _ _ s r f h (λ t.
      let p = and_parts (is_loaded r) (nat_lt r.applied r.commit) t in
      let m : r.missing ≡ [] = nil_from_length r.missing (eqb-true (length r.missing) 0 p.0) in
      kept_with_entry_at (r.applied + 1) apply_entry s r f h (λ e k. kept_apply_entry e s r f h k (ltb-true r.applied r.commit p.1) m)));
}

pub keeps_apply : {F : Type 0} → Keeps {F = F} apply
unfolding apply
keeps_apply = keeps_by _ (λ r. keeps_times (r.commit - r.applied) apply_next keeps_apply_next)

-- ---- commit numbers

kept_commit : (r : Replica) (c : ℕ) → r.commit ≤ c → c ≤ head r → IsSound r → Kept r (record r { commit = c })
kept_commit r c a b h = record { sound = sound_commit r c a b h; rises = record { view = omega arith; log_view = omega arith; commit = a; applied = omega arith; checkpoint = omega arith } }

pub keeps_advance : {F : Type 0} → Keeps {F = F} advance
unfolding advance advanced
keeps_advance = keeps_then _ apply (keeps_change _ (λ r h.
    let n : ℕ = prefix_len (has_quorum r) (ops r.commit (head r)) in
    let few = prefix_len-le-length (has_quorum r) (ops r.commit (head r)) in
    let size = length-range_with_len (r.commit + 1) (head r - r.commit) in
    let known = h.order.known in
    kept_commit r (r.commit + n) (omega arith) (omega (arith, few, size, known)) h)) keeps_apply

pub keeps_learn : {F : Type 0} (c : ℕ) → Keeps {F = F} (learn c)
unfolding learn
keeps_learn c = keeps_then (change (learned c)) apply (keeps_change (learned c) (λ r h.
    let known = h.order.known in
    kept_commit r (max r.commit (min c (head r))) (omega arith) (omega arith) h)) keeps_apply

-- ---- repair

pub keeps_prepare_again : {F : Type 0} (op : ℕ) → Keeps {F = F} (prepare_again op)
unfolding prepare_again
keeps_prepare_again op = keeps_with_entry_at op _ (λ e. keeps_says _)

pub keeps_resend : {F : Type 0} (e : Whole) → Keeps {F = F} (resend e)
unfolding resend
keeps_resend e = keeps_naming _ (λ hash. keeps_by _ (λ r. keeps_when _ _ (keeps_if _ _ _ (keeps_says _) (keeps_says _))))

keeps_ask_peer : {F : Type 0} (message : Replica → Frame) → Keeps {F = F} (ask_peer message)
unfolding ask_peer
keeps_ask_peer message = keeps_then _ _ (keeps_says _) (keeps_change turned (λ r h. kept_alike r (turned r) refl (record { view = omega arith; log_view = omega arith; commit = omega arith; applied = omega arith; checkpoint = omega arith }) h))

keeps_ask_for : {F : Type 0} (names : List Name) (absent : Option Header) (worn : List Name) → Keeps {F = F} (ask_for names absent worn)
keeps_ask_for (name ∷ names) absent worn = keeps_ask_peer _
keeps_ask_for [] (Some h) worn = keeps_naming _ (λ hash. keeps_ask_peer _)
keeps_ask_for [] None (name ∷ names) = keeps_ask_peer _
keeps_ask_for [] None [] = keeps_quiet

pub keeps_ask : {F : Type 0} → Keeps {F = F} ask
unfolding ask
keeps_ask = keeps_by _ (λ r. keeps_when _ _ (keeps_ask_for r.missing _ r.worn))

-- ---- loading

kept_missing : (names : List Name) (r : Replica) → IsSound r → (names ≢ [] → r.applied ≡ r.checkpoint) → Kept r (with_missing names r)
kept_missing names r h w = record { sound = sound_missing r names w h; rises = record { view = omega arith; log_view = omega arith; commit = omega arith; applied = omega arith; checkpoint = omega arith } }

-- what is usable was decoded
pub usable_is : (v : ℕ) (o : Result State StateFault) (t : State) → usable v o ≡ Some t → (o ≡ Ok t) × (fits_version v t ≡ true)
usable_is v (Ok s) t e =
    elim (fits_version v s) as (λ b. fits_version v s ≡ b → cond b (Some s) None ≡ Some t → (◌≡◌ {A = Result State StateFault} (Ok s) (Ok t)) × (fits_version v t ≡ true)) [
      | true ↦ λ i k. let same : s ≡ t = cc in subst (λ x. (◌≡◌ {A = Result State StateFault} (Ok s) (Ok x)) × (fits_version v x ≡ true)) same (refl, i)
      | false ↦ λ i k. absurd cc
    ] refl e
usable_is v (Err fault) t e = absurd cc

kept_loaded : (root : Name) (table : PayloadTable) (o : Option State) (r : Replica) → IsSound r → r.applied ≡ r.checkpoint → ((t : State) → o ≡ Some t → HaveNumbers t.sessions) → Kept r (loaded_state root table o r)
unfolding with_state
kept_loaded root table (Some t) r h e n =
    let k = kept_missing [] r h (λ n. absurd (n refl)) in
    record { sound = sound_alike (record (with_missing [] r) { state = t }) (record r { table = table; state = t; missing = [] }) refl (sound_state (with_missing [] r) t (n t refl) k.sound); rises = record { view = omega arith; log_view = omega arith; commit = omega arith; applied = omega arith; checkpoint = omega arith } }
kept_loaded root table None r h e n = kept_missing (root ∷ []) r h (λ n. e)

pub kept_loads : (root : Name) (l : Load) (r : Replica) → IsSound r → r.applied ≡ r.checkpoint → Kept r (loads root l r)
kept_loads root (Loaded texts table) r h e =
    kept_loaded root table (usable (version r) (state_decoded texts)) r h e (λ t i. texts_have_numbers texts t (usable_is (version r) (state_decoded texts) t i).0)
kept_loads root (Missing names) r h e = kept_missing names r h (λ n. e)

-- where nothing is applied yet above the checkpoint
pub kept_load : {F : Type 0} (s : Setting F) (r : Replica) (f : F) → IsSound r → r.applied ≡ r.checkpoint → KeptBy load s r f
unfolding load
kept_load s r f h e =
    kept_by _ s r f (kept_when (nat_lt 0 r.checkpoint) (reading (checkpoint_at r.root) (λ l. change (loads r.root l))) s r f h (λ t.
    kept_reading (checkpoint_at r.root) (λ l. change (loads r.root l)) s r f (kept_change (loads r.root (checkpoint_at r.root s f)) s r f (kept_loads r.root (checkpoint_at r.root s f) r h e))))
