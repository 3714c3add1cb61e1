-- The effects that are begun of a script are sealed, where each of its kind is.
use Rattle.std.proofs.Common.{ℕ, zero, suc, ◌+◌, ◌-◌, ◌≡◌, inl, inr, arith, refl, sym, ap, ◌∙◌, subst, true, false, cond, List, [], ◌∷◌, ◌++◌, length, take, Option, Some, None}
use Rattle.std.specs.Prelude.{nat_lt, slice_get}
use Rattle.std.specs.List.{AllByRecursion}
use Rattle.std.proofs.lemmas.List.{append-nil, take-append-le}
use Rattle.std.proofs.lemmas.Option.{slice_get_within}
use Rattle.vr_disk.specs.DiskState as disk
use Rattle.vr_disk.specs.DiskState.{Call, Write, Sync, Face, Fuse}
use Rattle.vr_disk.specs.Stops.{IsCall}
use Rattle.vr_header.specs.declared.header.Header.{Header}
use Rattle.vr_super.specs.Copies.{SuperValue}
use Rattle.vr_rules.specs.Steps.{Effect, Rewrite, Save, Mend, Checkpoint, PutBlock, Say}
use Rattle.vr_rules.specs.Steps as effect
use Rattle.vr_rules.specs.Sectors.{calls_by}
use Rattle.vr_world.specs.Group.{made_in}
use Rattle.vr_world.specs.Lying.{Lying}
use Rattle.law_1_machine.specs.Basics.{In}
use Rattle.law_4_disks.specs.Beside.{begun_before}
use Rattle.vr_state.specs.declared.texts.Texts.{Texts}
use Rattle.vr_ckpt.specs.Saves.{blocks_calls, changed, keys_run, root_of, save_calls, sessions_run, table_of, written}
use Rattle.vr_ckpt.specs.Blocks.{block_of}
use Rattle.vr_ckpt.specs.declared.block.Block.{Block}
use Rattle.vr_ckpt.specs.declared.table.Payload.{Payload}
use Rattle.vr_ckpt.specs.declared.table.PayloadTable.{PayloadTable}
use Rattle.law_4_disks.specs.Stocks.{IsNamed, IsOfState, WritesBlocks}
use Rattle.law_4_disks.proofs.Blocks.{Texted, table_named}
use Rattle.law_4_disks.proofs.States.{text_of_state}
use Rattle.law_5_seals.proofs.Blocks.{calls_left}
use Rattle.law_5_seals.proofs.Checks.{both_calls, checkpoints_are_headless}
use Rattle.law_5_seals.proofs.Spelling.{sessions_are_headless}
use Rattle.law_5_seals.specs.Laws.{HasPlace}
use Rattle.law_4_disks.specs.Worlds.{begun_by}
use Rattle.law_5_seals.specs.Seals.{PutsHeadless}
use Rattle.law_5_seals.proofs.Turning.{sealed_more}
use Rattle.law_6_one_log.specs.Bridged.{AreNamed, IsSealedBlock}
use Rattle.law_6_one_log.proofs.Scripts.{AreSealed, Seals}
use Rattle.law_6_one_log.proofs.Sessions.{AreOfEntries, ComesOfEntries}
use Rattle.law_6_one_log.proofs.UnforgedValues.{SavesNamed, get_left, in_left, in_right}

-- ---- what is begun comes first

pub begun_first : (v : ℕ) (es : List Effect) (f : Face) (j : ℕ) → (rest : List Effect) × (es ≡ begun_before v es f j ++ rest)
begun_first v [] f j = ([], refl)
begun_first v (e ∷ es) f j =
    let cs = calls_by v e f in
    let x = begun_first v es (disk.after_all f cs) (j - length cs) in
    elim (nat_lt j (length cs)) as (λ t. (rest : List Effect) × (e ∷ es ≡ (e ∷ cond t [] (begun_before v es (disk.after_all f cs) (j - length cs))) ++ rest)) [
      | true ↦ (es, refl)
      | false ↦ (x.0, ap (λ (ys : List Effect). e ∷ ys) x.1)
    ]

pub begun_some : (fuse : Option Fuse) (es : List Effect) (d : Lying) → (rest : List Effect) × (es ≡ begun_by fuse es d ++ rest)
begun_some None es d = ([], sym (append-nil es))
begun_some (Some u) es d = begun_first d.version es d.face u.calls

pub all_left : {X : Type 0} (P : X → Type 0) (xs ys : List X) → AllByRecursion P (xs ++ ys) → AllByRecursion P xs
all_left P [] ys a = tt
all_left P (x ∷ xs) ys a = (a.0, all_left P xs ys a.1)

-- ---- what was made

made_first : (es : List Effect) (k : ℕ) (h : Header) → In h (made_in (take k es)) → In h (made_in es)
unfolding made_in
made_first [] zero h i = i
made_first [] (suc k) h i = i
made_first (e ∷ es) zero h i = absurd i
made_first (effect.Write again x ∷ es) (suc k) h i = elim i [ inl e ↦ inl e | inr j ↦ inr (made_first es k h j) ]
made_first (Rewrite x ∷ es) (suc k) h i = made_first es k h i
made_first (Save old new ∷ es) (suc k) h i = made_first es k h i
made_first (Mend v ∷ es) (suc k) h i = made_first es k h i
made_first (Checkpoint c t o p ∷ es) (suc k) h i = made_first es k h i
made_first (PutBlock n b ∷ es) (suc k) h i = made_first es k h i
made_first (Say o ∷ es) (suc k) h i = made_first es k h i

-- the same, for what stands before a place
in_made : (made : List Header) (es : List Effect) (k : ℕ) (h : Header) → In h (made ++ made_in (take k es)) → In h (made ++ made_in es)
in_made [] es k h i = made_first es k h i
in_made (y ∷ ys) es k h i = elim i [ inl e ↦ inl e | inr j ↦ inr (in_made ys es k h j) ]

pub named_more : (some more : List Header) (v : SuperValue) → ((h : Header) → In h some → In h more) → AreNamed some v → AreNamed more v
named_more some more v m a = all_more v.headers a where
  all_more : (hs : List Header) → AllByRecursion (λ h. In h some) hs → AllByRecursion (λ h. In h more) hs
  all_more [] a = tt
  all_more (h ∷ hs) a = (m h a.0, all_more hs a.1)

pub block_more : {home : ℕ} (some more : List Header) (b : List ℕ) → ((h : Header) → In h some → In h more) → IsSealedBlock home some b → IsSealedBlock home more b
block_more {home} some more b m s = record { bytes = s.bytes; sectors = λ j l. sealed_more home some more _ m (s.sectors j l) }

-- ---- what is begun is sealed

headless_sealed : (home : ℕ) (made : List Header) (cs : List Call) → AllByRecursion IsCall cs → AllByRecursion PutsHeadless cs → AreSealed home made cs
headless_sealed home made [] a b = tt
headless_sealed home made (Write i bytes ∷ cs) a b = ((a.0.0, record { content = a.0.1; front = λ h f _. absurd (b.0.front h f); turned = λ h f _. absurd (b.0.turned h f) }), headless_sealed home made cs a.1 b.1)
headless_sealed home made (Sync ∷ cs) a b = (tt, headless_sealed home made cs a.1 b.1)

-- a checkpoint of a state of the program
texted_of : (texts : Texts) (old : PayloadTable) → IsOfState texts old → Texted texts old
texted_of texts old h =
    let t = text_of_state h.state (record { sessions = h.sessions; machine = h.machine }) in
    subst (λ (x : Texts). Texted x old) (sym h.are) (record { sessions = t.sessions; keys = t.keys; few_sessions = t.few_sessions; few_keys = t.few_keys; old_sessions = h.old_sessions; old_keys = h.old_keys })

places : (ps : List Payload) → AllByRecursion IsNamed ps → AllByRecursion HasPlace ps
places [] h = tt
places (p ∷ ps) h = (record { size = h.0.sum.0; some = h.0.some; few = h.0.few }, places ps h.1)

places_both : (xs ys : List Payload) → AllByRecursion HasPlace xs → AllByRecursion HasPlace ys → AllByRecursion HasPlace (xs ++ ys)
places_both [] ys a b = b
places_both (x ∷ xs) ys a b = (a.0, places_both xs ys a.1 b)

-- the blocks of its sessions come first
sessions_called : (cluster : ℕ) (texts : Texts) (op : ℕ) (old : PayloadTable) → AllByRecursion IsCall (save_calls cluster texts op old) → AllByRecursion IsCall (blocks_calls (changed (sessions_run cluster op) texts.sessions old.sessions))
unfolding save_calls written
sessions_called cluster texts op old a =
    let bs = changed (sessions_run cluster op) texts.sessions old.sessions in
    let rest = changed (keys_run cluster op) texts.keys old.keys ++ block_of (root_of cluster texts op (table_of cluster texts op old)) ∷ [] in
    (both_calls bs rest (calls_left IsCall (blocks_calls (bs ++ rest)) (Sync ∷ []) a)).0

sessions_headless : (cluster : ℕ) (texts : Texts) (op : ℕ) (old : PayloadTable) → AllByRecursion IsCall (save_calls cluster texts op old) → AreOfEntries texts
    → AllByRecursion PutsHeadless (blocks_calls (changed (sessions_run cluster op) texts.sessions old.sessions))
sessions_headless cluster texts op old a s =
    let m = s.sessions in
    let bs : List ℕ → List Block = λ t. changed (sessions_run cluster op) t old.sessions in
    subst (λ (t : List ℕ). AllByRecursion PutsHeadless (blocks_calls (bs t))) (sym s.are)
    (sessions_are_headless cluster op m old.sessions s.fit s.come (subst (λ (t : List ℕ). AllByRecursion IsCall (blocks_calls (bs t))) s.are (sessions_called cluster texts op old a)))

check_headless : (cluster : ℕ) (texts : Texts) (op : ℕ) (old : PayloadTable) → IsOfState texts old → AllByRecursion IsCall (save_calls cluster texts op old) → AreOfEntries texts → AllByRecursion PutsHeadless (save_calls cluster texts op old)
check_headless cluster texts op old h a s =
    let x = texted_of texts old h in
    let t = table_of cluster texts op old in
    let named = table_named cluster texts op old x in
    checkpoints_are_headless cluster texts op old
    (record { machine = h.state.machine; keys = ap (λ (x : Texts). x.keys) h.are; fits = h.machine.fit; names = places_both t.sessions t.keys (places t.sessions named.sessions) (places t.keys named.keys) }) a
    (sessions_headless cluster texts op old a s)

-- those from here on, which saw these before them
module _ (home : ℕ) (made all : List Header) (P : List ℕ → Type 0) (m : (h : Header) → In h made → In h all) where
  seals_from : (es : List Effect) → ((h : Header) → In h (made_in es) → In h all) → ((n : ℕ) (old new : SuperValue) → slice_get es n ≡ Some (Save old new) → AreNamed all new)
      → AllByRecursion (WritesBlocks P (IsSealedBlock home made)) es → AllByRecursion ComesOfEntries es → AllByRecursion (Seals home all) es
  unfolding made_in
  seals_from [] w s b c = tt
  seals_from (effect.Write again e ∷ es) w s b c = (w e.header (inl refl), seals_from es (λ h i. w h (inr i)) (λ n old new k. s (suc n) old new k) b.1 c.1)
  seals_from (Rewrite x ∷ es) w s b c = (tt, seals_from es w (λ n old new k. s (suc n) old new k) b.1 c.1)
  seals_from (Save old new ∷ es) w s b c = (s 0 old new refl, seals_from es w (λ n old new k. s (suc n) old new k) b.1 c.1)
  seals_from (Mend v ∷ es) w s b c = (tt, seals_from es w (λ n old new k. s (suc n) old new k) b.1 c.1)
  seals_from (Checkpoint k t o p ∷ es) w s b c = (headless_sealed home all _ b.0.0 (check_headless k t o p b.0.1 b.0.0 c.0), seals_from es w (λ n old new k. s (suc n) old new k) b.1 c.1)
  seals_from (PutBlock n x ∷ es) w s b c = (block_more made all x m b.0.1, seals_from es w (λ n old new k. s (suc n) old new k) b.1 c.1)
  seals_from (Say o ∷ es) w s b c = (tt, seals_from es w (λ n old new k. s (suc n) old new k) b.1 c.1)

-- of a script, with those that are begun first
pub begun_sealed : (home : ℕ) (made : List Header) (P : List ℕ → Type 0) (es bs rest : List Effect) → es ≡ bs ++ rest → SavesNamed made es → AllByRecursion (WritesBlocks P (IsSealedBlock home made)) es → AllByRecursion ComesOfEntries bs
    → AllByRecursion (Seals home (made ++ made_in bs)) bs
begun_sealed home made P es bs rest e s b c =
    let saves : SavesNamed made (bs ++ rest) = subst (SavesNamed made) e s in
    let blocks = all_left (WritesBlocks P (IsSealedBlock home made)) bs rest (subst (AllByRecursion (WritesBlocks P (IsSealedBlock home made))) e b) in
    seals_from home made (made ++ made_in bs) P (λ h i. in_left made (made_in bs) h i) bs (λ h i. in_right made (made_in bs) h i)
    (λ n old new k.
    let l = slice_get_within bs n (Save old new) k in
    let there = saves n old new (get_left bs rest n l ∙ k) in
    let first : take (n + 1) (bs ++ rest) ≡ take (n + 1) bs = take-append-le (n + 1) bs rest (omega (arith, l)) in
    named_more (made ++ made_in (take (n + 1) bs)) (made ++ made_in bs) new (in_made made bs (n + 1)) (subst (λ (x : List Effect). AreNamed (made ++ made_in x) new) first there))
    blocks c
