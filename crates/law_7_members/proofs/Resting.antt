-- Behind the calls of a script, of a making and of a migration nothing waits: each ends with a sync.
use Rattle.std.proofs.Common.{ℕ, zero, suc, ◌+◌, ◌*◌, ◌≡◌, refl, ap, ◌∙◌, Bool, true, false, cond, eqb, List, [], ◌∷◌, ◌++◌, drop}
use Rattle.vr_base.specs.declared.kind.Kind.{Kind}
use Rattle.vr_base.specs.declared.table.Config.{Config}
use Rattle.vr_base.specs.Bytes.{piece}
use Rattle.vr_disk.specs.DiskState.{Call, Face, Sync, Write, after, after_all}
use Rattle.vr_disk.specs.Regions.{prepare_place, prepare_sectors}
use Rattle.vr_disk.specs.Sectors.{has, writes}
use Rattle.vr_disk.proofs.Together.{after_all_append}
use Rattle.vr_ckpt.specs.Grid.{block_calls, put_calls}
use Rattle.vr_ckpt.specs.Saves.{blocks_calls, save_calls, written}
use Rattle.vr_header.specs.declared.header.Header.{Header}
use Rattle.vr_header.specs.Made.{Whole}
use Rattle.vr_super.specs.Calls.{mend_calls, mend_copy, mend_from, mend_unless, save_from, write_calls}
use Rattle.vr_super.specs.Copies.{SuperValue, copy_bytes}
use Rattle.vr_super.specs.Opens.{copy_reading}
use Rattle.vr_rings.specs.Calls.{header_calls, prepare_calls}
use Rattle.vr_rings.specs.Moving.{moves, relocated}
use Rattle.vr_rings.specs.Slots.{prepare_bytes, slot_of}
use Rattle.vr_rules.specs.Formatting.{reserved_headers, zero_prepares}
use Rattle.vr_rules.specs.Opening.{first_value}
use Rattle.vr_rules.specs.Migrating.{migrated, migration_calls, slot_calls}
use Rattle.vr_rules.specs.Sectors.{calls_by, script_calls}
use Rattle.vr_rules.specs.Steps.{Checkpoint, Effect, Mend, PutBlock, Rewrite, Save, Say, Write as WriteEntry}
use Rattle.law_4_disks.proofs.Calls.{format_is}
use Rattle.law_4_disks.proofs.Effects.{synced}
use Rattle.law_7_members.specs.Whole.{making}
use Rattle.law_7_members.proofs.Making.{saves_rest}

-- where nothing waits before these calls, nothing waits after them
abbrev pub Rests : List Call → Face → Type 0
Rests cs f = f.waiting ≡ [] → (after_all f cs).waiting ≡ []

rests_both : (cs ds : List Call) (f : Face) → Rests cs f → Rests ds (after_all f cs) → Rests (cs ++ ds) f
rests_both cs ds f a b e = ap (λ (g : Face). g.waiting) (after_all_append cs ds f) ∙ b (a e)

-- ---- the superblock

mend_rests : (n k : ℕ) (b : List ℕ) (f g : Face) → Rests (mend_from k n b f) g
unfolding mend_from mend_copy
mend_rests zero k b f g e = e
mend_rests (suc n) k b f g e =
    let copy = mend_copy k b in
    let one : Rests (mend_unless k b f) g =
    elim (has b (copy_reading f k)) as (λ t. Rests (cond t [] copy) g) [ true ↦ λ e. e | false ↦ λ _. synced (Write (20 * k) (piece 0 512 b) ∷ Sync ∷ writes (20 * k + 1) 19 (drop 512 b)) g ] in
    rests_both (mend_unless k b f) (mend_from (k + 1) n b f) g one (mend_rests n (k + 1) b f (after_all g (mend_unless k b f))) e

pub value_mended : (v : SuperValue) (f g : Face) → Rests (mend_calls v f) g
value_mended v f g e = mend_rests 4 0 (copy_bytes v) f g e

value_written : (old new : SuperValue) (f g : Face) → Rests (write_calls old new f) g
value_written old new f g e = rests_both (mend_calls old f) (save_from 0 4 (copy_bytes new)) g (value_mended old f g) (λ _. saves_rest 3 0 (copy_bytes new) (after_all g (mend_calls old f))) e

-- ---- slots and blocks

prepare_rests : (version : ℕ) (e : Whole) (f : Face) → Rests (prepare_calls version e) f
unfolding prepare_calls
prepare_rests version e f _ = synced (writes (prepare_place version (slot_of e.header)) (prepare_sectors version) (prepare_bytes e)) f

header_rests : (h : Header) (f : Face) → Rests (header_calls h) f
unfolding header_calls
header_rests h f e = refl

entry_rests : (again : Bool) (version : ℕ) (e : Whole) (f : Face) → Rests (calls_by version (WriteEntry again e) f) f
entry_rests true version e f r = rests_both (header_calls e.header) (prepare_calls version e) f (header_rests e.header f) (prepare_rests version e (after_all f (header_calls e.header))) r
entry_rests false version e f r = rests_both (prepare_calls version e) (header_calls e.header) f (prepare_rests version e f) (header_rests e.header (after_all f (prepare_calls version e))) r

effect_rests : (v : ℕ) (e : Effect) (f : Face) → Rests (calls_by v e f) f
unfolding save_calls put_calls
effect_rests v (WriteEntry again e) f r = entry_rests again v e f r
effect_rests v (Rewrite h) f r = header_rests h f r
effect_rests v (Save old new) f r = value_written old new f f r
effect_rests v (Mend value) f r = value_mended value f f r
effect_rests v (Checkpoint cluster texts op old) f r = synced (blocks_calls (written cluster texts op old)) f
effect_rests v (PutBlock name block) f r = synced (block_calls name.address block) f
effect_rests v (Say output) f r = r

-- ---- scripts, migrations and makings

pub script_rests : (v : ℕ) (es : List Effect) (f : Face) → Rests (script_calls v es f) f
unfolding script_calls
script_rests v [] f r = r
script_rests v (e ∷ es) f r = rests_both (calls_by v e f) (script_calls v es (after_all f (calls_by v e f))) f (effect_rests v e f) (script_rests v es (after_all f (calls_by v e f))) r

moved_rests : (v : SuperValue) (g : Face) → Rests (slot_calls g ++ write_calls v (migrated v) (after_all g (slot_calls g))) g
moved_rests v g r =
    let moved = after_all g (slot_calls g) in
    rests_both (slot_calls g) (write_calls v (migrated v) moved) g (λ _. synced (moves 0 64 (relocated g)) g) (value_written v (migrated v) moved moved) r

pub migration_rests : (v : SuperValue) (f : Face) → Rests (migration_calls v f) f
migration_rests v f r =
    let g = after_all f (mend_calls v f) in
    let rest = slot_calls g ++ write_calls v (migrated v) (after_all g (slot_calls g)) in
    let over : Rests (cond (eqb v.fields.version 2) [] rest) g = elim (eqb v.fields.version 2) as (λ t. Rests (cond t [] rest) g) [ true ↦ λ e. e | false ↦ moved_rests v g ] in
    rests_both (mend_calls v f) (cond (eqb v.fields.version 2) [] rest) f (value_mended v f f) over r

pub making_rests : (kind : Kind) (c : Config) (f : Face) → (after_all f (making kind c)).waiting ≡ []
making_rests kind c f =
    let v = first_value kind c.cluster c.n c.replica in
    let front = zero_prepares kind.version in
    let headers = reserved_headers kind.version c.cluster in
    let saves = save_from 0 4 (copy_bytes v) in
    let g = after_all (after_all f front) headers in
    ap (λ (cs : List Call). (after_all f cs).waiting) (format_is kind c.cluster c.n c.replica)
    ∙ (ap (λ (h : Face). h.waiting) (after_all_append front (headers ++ Sync ∷ saves) f)
    ∙ (ap (λ (h : Face). h.waiting) (after_all_append headers (Sync ∷ saves) (after_all f front)) ∙ saves_rest 3 0 (copy_bytes v) (after g Sync)))
