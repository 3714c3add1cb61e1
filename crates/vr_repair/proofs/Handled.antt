-- What the whole step of a copy that comes leaves: words that write no slot keep what the slots read as.
use Rattle.std.proofs.Common.{arith, ◌≡◌, ◌<◌, ◌%◌, refl, ◌∙◌, ℕ, zero, suc, Bool, true, false, cond, List, [], ◌∷◌, ◌++◌, Option, Some, None}
use Rattle.std.specs.Prelude.{All, ◌&&◌, not}
use Rattle.std.proofs.lemmas.Nat.{mod_below}
use Rattle.std.proofs.lemmas.List.Elements.{All-nil, All-cons, All-append, All-map, All-head, All-tail}
use Rattle.vr_disk.specs.DiskState as disk
use Rattle.vr_disk.specs.DiskState.{Call, Face, Sync}
use Rattle.vr_header.specs.declared.header.Header.{Header}
use Rattle.vr_header.specs.declared.part.Part.{Part}
use Rattle.vr_header.specs.declared.part.Part.TheVariants.{Here}
use Rattle.vr_header.specs.Made.{Whole}
use Rattle.vr_ckpt.specs.declared.name.Name.{Name}
use Rattle.vr_ckpt.specs.Grid.{block_calls, put_calls}
use Rattle.vr_super.specs.Calls.{mend_calls, write_calls}
use Rattle.vr_ckpt.specs.Saves.{blocks_calls, save_calls, written}
use Rattle.vr_rings.specs.Slots.{whole_in}
use Rattle.vr_msg.specs.declared.output.Output.{Output}
use Rattle.vr_volatile.specs.Ready.{MayStore}
use Rattle.vr_rules.specs.Deciding.{first_of}
use Rattle.vr_rules.specs.declared.rule.Rule.TheVariants.{EntryTaken, Ignored}
use Rattle.vr_rules.specs.Replica.{Replica, part_at, version}
use Rattle.vr_rules.specs.Rules.{on_give_block, on_give_prepare, put_block}
use Rattle.vr_rules.specs.Sectors.{calls_by, sectors_by}
use Rattle.vr_rules.specs.Steps.{Effect, Write, Rewrite, Save, Mend, Checkpoint, PutBlock, Say, Setting, Word, ◌⨾◌, after_all, by, change, does, naming, quiet, reading, says, times, when}
use Rattle.vr_rules.specs.Words.{apply, apply_entry, apply_next, entry_of, lost, make_checkpoint, or_lost, resend, save, with_entry, with_entry_at, write}
use Rattle.vr_rules.proofs.FitDisks.{SparesSlots, checkpoint_slots, mend_slots, put_slots, same_entry, save_slots}
use Rattle.vr_rules.proofs.Halves.{after_both}
use Rattle.vr_repair.specs.Laws.{TakenBlocksRead, TakenEntriesRead}
use Rattle.vr_repair.proofs.Repaired.{blocks_repaired, entries_repaired}
use Rattle.vr_repair.proofs.Rules.{is_put, may_take}

-- ---- effects that write no slot

abbrev IsDry : Effect → Type 0
IsDry (Write again e) = ⊥
IsDry (Rewrite h) = ⊥
IsDry _ = Unit {0}

-- calls that spare the slots leave what one reads as
spared : (v : ℕ) (cs : List Call) (f : Face) (slot : ℕ) → SparesSlots v cs → slot < 64 → whole_in v (disk.after_all f cs) slot ≡ whole_in v f slot
spared v cs f slot s l = same_entry v cs f slot (λ k a b. s.prepare slot k (record { few = l; low = a; high = b }))

dry_effect : (v : ℕ) (e : Effect) (f : Face) (slot : ℕ) → IsDry e → slot < 64 → whole_in v (disk.after_all f (calls_by v e f)) slot ≡ whole_in v f slot
unfolding put_calls save_calls
dry_effect v (Write again e) f slot h l = absurd h
dry_effect v (Rewrite e) f slot h l = absurd h
dry_effect v (Save old new) f slot h l = spared v (write_calls old new f) f slot (save_slots v old new f) l
dry_effect v (Mend value) f slot h l = spared v (mend_calls value f) f slot (mend_slots v value f) l
dry_effect v (Checkpoint cluster texts op old) f slot h l =
    let bs = written cluster texts op old in
    spared v (blocks_calls bs ++ Sync ∷ []) f slot (checkpoint_slots v bs) l
dry_effect v (PutBlock name block) f slot h l = spared v (block_calls name.address block ++ Sync ∷ []) f slot (put_slots v name.address block) l
dry_effect v (Say o) f slot h l = refl

dry_all : (v : ℕ) (es : List Effect) (f : Face) (slot : ℕ) → All IsDry es → slot < 64 → whole_in v (after_all (sectors_by v) f es) slot ≡ whole_in v f slot
unfolding after_all
dry_all v [] f slot h l = refl
dry_all v (e ∷ es) f slot h l = dry_all v es (disk.after_all f (calls_by v e f)) slot (All-tail IsDry e es h) l ∙ dry_effect v e f slot (All-head IsDry e es h) l

-- ---- words that write no slot

record Dry (w : Word Face) : Type 0 where
  every : (s : Setting Face) (r : Replica) (f : Face) → All IsDry (w s r f).script

dry_then : (v w : Word Face) → Dry v → Dry w → Dry (v ⨾ w)
unfolding ◌⨾◌
dry_then v w h k = record {
  every = λ s r f. let a = v s r f in let g = after_all s f a.script in All-append IsDry a.script (w s a.replica g).script (h.every s r f) (k.every s a.replica g);
}

dry_quiet : Dry quiet
unfolding quiet
dry_quiet = record { every = λ s r f. All-nil IsDry }

dry_change : (g : Replica → Replica) → Dry (change g)
unfolding change
dry_change g = record { every = λ s r f. All-nil IsDry }

dry_does : (e : Replica → Effect) → ((r : Replica) → IsDry (e r)) → Dry (does e)
unfolding does
dry_does e h = record { every = λ s r f. All-cons IsDry (e r) [] (h r) (All-nil IsDry) }

dry_says : (os : Replica → List Output) → Dry (says os)
unfolding says
dry_says os = record { every = λ s r f. All-map IsDry Say (os r) (λ k d l. tt) }

dry_by : (w : Replica → Word Face) → ((r : Replica) → Dry (w r)) → Dry (by w)
unfolding by
dry_by w h = record { every = λ s r f. (h r).every s r f }

dry_naming : (w : (List ℕ → List ℕ) → Word Face) → ((hash : List ℕ → List ℕ) → Dry (w hash)) → Dry (naming w)
unfolding naming
dry_naming w h = record { every = λ s r f. (h s.hash).every s r f }

dry_reading : {X : Type 0} (g : Setting Face → Face → X) (w : X → Word Face) → ((x : X) → Dry (w x)) → Dry (reading g w)
unfolding reading
dry_reading g w h = record { every = λ s r f. (h (g s f)).every s r f }

dry_if : (b : Bool) (v w : Word Face) → Dry v → Dry w → Dry (cond b v w)
dry_if true v w h k = h
dry_if false v w h k = k

dry_when : (b : Bool) (w : Word Face) → Dry w → Dry (when b w)
dry_when true w h = h
dry_when false w h = dry_quiet

dry_times : (n : ℕ) (w : Word Face) → Dry w → Dry (times n w)
unfolding times
dry_times zero w h = dry_quiet
dry_times (suc n) w h = dry_then w (times n w) h (dry_times n w h)

dry_or_lost : (h : Header) (w : Whole → Word Face) (o : Option Whole) → ((e : Whole) → Dry (w e)) → Dry (or_lost h w o)
dry_or_lost h w None all = dry_change (lost h)
dry_or_lost h w (Some e) all = all e

dry_part : (w : Whole → Word Face) (p : Part) → ((e : Whole) → Dry (w e)) → Dry (with_entry w p)
dry_part w (Here h) all = dry_reading (entry_of h) (or_lost h w) (λ o. dry_or_lost h w o all)
dry_part w _ all = dry_quiet

dry_entry : (k : ℕ) (w : Whole → Word Face) → ((e : Whole) → Dry (w e)) → Dry (with_entry_at k w)
unfolding with_entry_at
dry_entry k w all = dry_by _ (λ r. dry_part w (part_at r k) all)

dry_save : Dry save
unfolding save
dry_save = dry_then _ _ (dry_does _ (λ r. tt)) (dry_change _)

dry_checkpoint : Dry make_checkpoint
unfolding make_checkpoint
dry_checkpoint = dry_by _ (λ r. dry_reading _ _ (λ c. dry_then _ _ (dry_does _ (λ r. tt)) (dry_then _ _ (dry_change _) dry_save)))

dry_apply_entry : (e : Whole) → Dry (apply_entry e)
unfolding apply_entry
dry_apply_entry e = dry_then _ _ (dry_says _) (dry_then _ _ (dry_says _) (dry_then _ _ (dry_change _) (dry_by _ (λ r. dry_when _ make_checkpoint dry_checkpoint))))

dry_apply : Dry apply
unfolding apply apply_next
dry_apply = dry_by _ (λ r. dry_times _ apply_next (dry_by _ (λ r. dry_when _ _ (dry_entry _ apply_entry dry_apply_entry))))

dry_resend : (e : Whole) → Dry (resend e)
unfolding resend
dry_resend e = dry_naming _ (λ hash. dry_by _ (λ r. dry_when _ _ (dry_if _ _ _ (dry_says _) (dry_says _))))

-- ---- the step of a give_prepare

taken_of : (a b c d : Bool) → first_of ((not a, Ignored) ∷ (b && (c && d), EntryTaken) ∷ []) ≡ EntryTaken → (b ≡ true) × (c ≡ true)
unfolding first_of
taken_of true true true true e = (refl, refl)
taken_of true true true false e = absurd cc
taken_of true true false d e = absurd cc
taken_of true false c d e = absurd cc
taken_of false b c d e = absurd cc

-- an entry that is written, and then words that write no slot
kept_behind : (v : ℕ) (e : Whole) (w : Word Face) (r : Replica) (f : Face) → Dry w → whole_in v (after_all (sectors_by v) f (write e (sectors_by v) r f).script) (e.header.op % 64) ≡ Some e
    → whole_in v (after_all (sectors_by v) f ((write e ⨾ w) (sectors_by v) r f).script) (e.header.op % 64) ≡ Some e
unfolding ◌⨾◌
kept_behind v e w r f d h =
    let s : Setting Face = sectors_by v in
    let a = write e s r f in
    let g = after_all s f a.script in
    let b = w s a.replica g in
    rw (after_both s f a.script b.script) (dry_all v b.script g (e.header.op % 64) (d.every s a.replica g) (mod_below e.header.op 64 (omega arith)) ∙ h)

pub entries_taken : TakenEntriesRead
unfolding on_give_prepare by
entries_taken g r f ready whole face rest rule =
    let e = g.entry in
    let t = taken_of _ _ _ _ rule in
    let may : MayStore e r = may_take e r ready t.0 t.1 in
    rw rule (kept_behind (version r) e (resend e ⨾ apply) r f (dry_then _ _ (dry_resend e) dry_apply) (entries_repaired e r f ready may whole face rest).reads)

-- ---- the step of a give_block

-- an effect, and what comes after it
does_first : (s : Setting Face) (e : Replica → Effect) (v w : Word Face) (r : Replica) (f : Face) → (rest : List Effect) × ((((does e ⨾ v) ⨾ w) s r f).script ≡ e r ∷ rest)
unfolding ◌⨾◌ does
does_first s e v w r f =
    let a = (does e ⨾ v) s r f in
    ((v s r (after_all s f (e r ∷ []))).script ++ (w s a.replica (after_all s f a.script)).script, refl)

put_first : (s : Setting Face) (name : Name) (block : List ℕ) (r : Replica) (f : Face) → (rest : List Effect) × (((put_block name block ⨾ apply) s r f).script ≡ PutBlock name block ∷ rest)
unfolding put_block
put_first s name block r f = does_first s (λ q. PutBlock name block) _ apply r f

pub blocks_taken : TakenBlocksRead
unfolding on_give_block reading by
blocks_taken g name r f face rest rule found =
    let p = put_first (sectors_by (version r)) name g.block r f in
    record { rest = p.0; first = rw (rule, found) p.1; reads = (blocks_repaired name g.block r f (is_put g r.missing name found) face rest).reads }
