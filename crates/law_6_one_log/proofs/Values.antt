-- What a checkpoint's root stands for in a run, and what a replica has of it: the state of the log's first entries.
use Rattle.std.proofs.Common.{ℕ, zero, suc, ◌+◌, ◌^◌, ◌-◌, ◌<◌, ◌≤◌, ◌≡◌, ◌≢◌, ◌∙◌, arith, refl, sym, ap, subst, cond, true, false, List, [], length, Option, Some, None}
use Rattle.std.specs.Prelude.{slice_get, Ok}
use Rattle.std.proofs.lemmas.Option.{slice_get_within}
use Rattle.vr_header.specs.Made.{Whole}
use Rattle.vr_header.specs.NoCollision.{NoCollision}
use Rattle.vr_disk.specs.DiskState.{Face}
use Rattle.vr_state.specs.Fitting.{fits as fits_version}
use Rattle.vr_state.proofs.Spelled.{sessions_decoded-text}
use Rattle.vr_state.proofs.KvTexts.{kv_decoded-kv_text}
use Rattle.vr_state.specs.StateTexts.{FitsPayloads, state_decoded, texts_of}
use Rattle.vr_state.specs.declared.texts.Texts.{Texts}
use Rattle.vr_state.specs.declared.state.State.{State}
use Rattle.vr_state.proofs.Stored.{state_next}
use Rattle.vr_rings.specs.Slots.{IsWhole}
use Rattle.vr_super.specs.Copies.{SuperValue}
use Rattle.vr_ckpt.specs.Blocks.{block_name}
use Rattle.vr_ckpt.specs.declared.name.Name.{Name}
use Rattle.vr_ckpt.specs.Loads.{loaded}
use Rattle.vr_ckpt.specs.Places as places
use Rattle.vr_ckpt.specs.Saves.{root_of, table_of}
use Rattle.vr_ckpt.specs.declared.found.Load.{Load}
use Rattle.vr_ckpt.specs.declared.found.Load.TheVariants.{Loaded, Missing}
use Rattle.vr_ckpt.specs.declared.table.PayloadTable.{PayloadTable}
use Rattle.vr_msg.specs.declared.frame.SyncView.{SyncView}
use Rattle.vr_world.specs.Checkpoints.{IsCheckpointOf, state_at, table_at, table_before}
use Rattle.vr_world.specs.Lying.{Lying, lying}
use Rattle.vr_rules.specs.Replica.{Replica, version}
use Rattle.vr_rules.specs.Words.{is_checkpoint, loaded_state, loads, usable, with_state}
use Rattle.vr_world.proofs.FitLies.{lies_fit}
use Rattle.law_3_outputs.specs.Replied.{root_told}
use Rattle.law_4_disks.proofs.States.{IsState, state_empty, state_kept, text_of_state}
use Rattle.law_6_one_log.specs.Hashed.{IsTable, IsWrittenOut, ReadsHashed}
use Rattle.law_6_one_log.proofs.Blocks.{loads_as}

-- ---- the state of a log's first entries

-- the log has an entry of the program at this place, of its number
pub record IsSettled (log : List Whole) (k : ℕ) : Type 0 where
  pub entry : Whole
  pub at : slice_get log k ≡ Some entry
  pub whole : IsWhole entry
  pub number : entry.header.op ≡ k + 1

abbrev pub AreSettled : List Whole → ℕ → Type 0
AreSettled log m = (k : ℕ) → k < m → IsSettled log k

pub state_is : (log : List Whole) (m : ℕ) → AreSettled log m → IsState (state_at log m)
state_is log zero h = state_empty
state_is log (suc m) h =
    let e = h m (omega arith) in
    subst IsState (sym (state_next log m e.entry e.at)) (state_kept (state_at log m) e.entry (state_is log m (λ k l. h k (omega arith))) e.whole)

pub texts_fit : (log : List Whole) (m : ℕ) → AreSettled log m → FitsPayloads (texts_of (state_at log m))
texts_fit log m h = let t = text_of_state (state_at log m) (state_is log m h) in record { sessions = t.few_sessions; keys = t.few_keys }

texts_read : (s : State) → IsState s → state_decoded (texts_of s) ≡ Ok s
texts_read s h = rw (sessions_decoded-text s.sessions h.sessions, kv_decoded-kv_text s.machine h.machine) refl

small : (log : List Whole) (m : ℕ) → AreSettled log m → m < 2 ^ 64
small log zero h = omega arith
small log (suc m) h =
    let e = h m (omega arith) in
    let o = e.whole.entry.header.op.1 in
    let n = e.number in
    omega arith

-- ---- the tables of a log's checkpoints

abbrev pub table_made : ℕ → List Whole → ℕ → PayloadTable
table_made cluster log c = table_of cluster (texts_of (state_at log c)) c (table_before cluster log c)

pub made_table : (cluster : ℕ) (log : List Whole) (c : ℕ) → 0 < c → is_checkpoint c ≡ true → table_made cluster log c ≡ table_at cluster log c
unfolding table_at
made_table cluster log zero l t = absurd (omega arith)
made_table cluster log (suc m) l t =
    let place : suc m - 1 ≡ m = omega arith in
    let T : ℕ → PayloadTable = λ j. table_of cluster (texts_of (state_at log (suc m))) (suc m) (table_at cluster log j) in
    ap T place ∙ sym (ap (λ b. cond b (T m) (table_at cluster log m)) t)

pub same_table : (cluster : ℕ) (log : List Whole) (c : ℕ) → 0 < c → is_checkpoint c ≡ false → table_before cluster log c ≡ table_at cluster log c
unfolding table_at
same_table cluster log zero l t = absurd (omega arith)
same_table cluster log (suc m) l t =
    let place : suc m - 1 ≡ m = omega arith in
    let T : PayloadTable = table_of cluster (texts_of (state_at log (suc m))) (suc m) (table_at cluster log m) in
    ap (table_at cluster log) place ∙ sym (ap (λ b. cond b T (table_at cluster log m)) t)

pub first_table : (cluster : ℕ) (log : List Whole) → table_at cluster log 0 ≡ places.empty
unfolding table_at
first_table cluster log = refl

-- what a checkpoint is made of is the log's
pub record IsMade (cluster : ℕ) (log : List Whole) (by : ℕ) (texts : Texts) (op : ℕ) (old : PayloadTable) : Type 0 where
  pub own : by ≡ cluster
  pub settled : AreSettled log op
  pub state : texts ≡ texts_of (state_at log op)
  pub before : old ≡ table_before cluster log op

-- ---- roots

-- the root of a checkpoint of the log's first c entries, whose blocks were hashed
pub record IsRootOf (H : List ℕ → Type 0) (cluster : ℕ) (log : List Whole) (c : ℕ) (root : Name) : Type 0 where
  pub settled : AreSettled log c
  pub kept : IsTable H (table_before cluster log c)
  pub written : IsWrittenOut H cluster (texts_of (state_at log c)) c (table_before cluster log c)
  pub is : root ≡ block_name (root_of cluster (texts_of (state_at log c)) c (table_made cluster log c))
  pub table : table_made cluster log c ≡ table_at cluster log c
  pub every : is_checkpoint c ≡ true

-- the log is as long
reached : (log : List Whole) (c : ℕ) → AreSettled log c → c ≤ length log
reached log zero h = omega arith
reached log (suc m) h =
    let e = h m (omega arith) in
    let w = slice_get_within log m e.entry e.at in
    omega arith

-- the checkpoint that is given with the log of a view is one of the log
pub record IsOffered (H : List ℕ → Type 0) (cluster : ℕ) (log : List Whole) (v : SyncView) : Type 0 where
  pub some : 0 < v.checkpoint
  pub root : IsRootOf H cluster log v.checkpoint (root_told v)

pub offered_is : (H : List ℕ → Type 0) (cluster : ℕ) (log : List Whole) (v : SyncView) → IsOffered H cluster log v → IsCheckpointOf cluster log v.checkpoint (root_told v)
offered_is H cluster log v h = record { some = h.some; every = h.root.every; reached = reached log v.checkpoint h.root.settled; is = h.root.is }

abbrev pub root_in_value : SuperValue → Name
root_in_value v = record { address = v.fields.root_address; sum = v.fields.root_name }

-- where there is a checkpoint
abbrev pub IsRooted : (List ℕ → Type 0) → ℕ → List Whole → SuperValue → Type 0
IsRooted H cluster log v = 0 < v.fields.checkpoint → IsRootOf H cluster log v.fields.checkpoint (root_in_value v)

-- ---- what a replica has

pub record Core : Type 0 where
  pub cluster : ℕ
  pub index : ℕ
  pub applied : ℕ
  pub checkpoint : ℕ
  pub root : Name
  pub table : PayloadTable
  pub state : State
  pub missing : List Name
  pub saved : SuperValue

abbrev pub core : Replica → Core
core r = record { cluster = r.cluster; index = r.index; applied = r.applied; checkpoint = r.checkpoint; root = r.root; table = r.table; state = r.state; missing = r.missing; saved = r.saved }

-- its checkpoint is one of the log, though its state may not be loaded yet
pub record Rests (H : List ℕ → Type 0) (cluster : ℕ) (log : List Whole) (k : Core) : Type 0 where
  pub own : k.cluster ≡ cluster
  pub settled : AreSettled log k.applied
  pub root : 0 < k.checkpoint → IsRootOf H cluster log k.checkpoint k.root
  pub table : IsTable H k.table
  pub waits : k.missing ≢ [] → 0 < k.checkpoint
  pub saved : IsRooted H cluster log k.saved

-- and where no block is missing it has the state of the entries that are applied, and the table of their checkpoints
pub record Stands (H : List ℕ → Type 0) (cluster : ℕ) (log : List Whole) (k : Core) : Type 0 where
  pub rests : Rests H cluster log k
  pub state : k.missing ≡ [] → k.state ≡ state_at log k.applied
  pub table : k.missing ≡ [] → k.table ≡ table_at cluster log k.applied

-- ---- a load

-- a state that is usable is the one that was read
usable_same : (v : ℕ) (s t : State) → usable v (Ok s) ≡ Some t → t ≡ s
usable_same v s t e = elim (fits_version v s) as (λ b. cond b (Some s) None ≡ Some t → t ≡ s) [ true ↦ λ k. (let same : s ≡ t = cc in sym same) | false ↦ λ k. absurd cc ] e

module _ (H : List ℕ → Type 0) (never : NoCollision H) (cluster : ℕ) (log : List Whole) where
  right_texts : (f : Face) → ReadsHashed H f → (c : ℕ) (root : Name) → IsRootOf H cluster log c root → (found : Texts) (table : PayloadTable) → loaded f root ≡ Loaded found table
      → (state_decoded found ≡ Ok (state_at log c)) × (table ≡ table_at cluster log c) × IsTable H table
  right_texts f reads c root r found table e =
      let texts = texts_of (state_at log c) in
      let x = loads_as H never f reads cluster c texts (table_before cluster log c) (small log c r.settled) (texts_fit log c r.settled) r.kept r.written found table (subst (λ n. loaded f n ≡ Loaded found table) r.is e) in
      (ap state_decoded x.0 ∙ texts_read (state_at log c) (state_is log c r.settled), x.1 ∙ r.table, x.2)

  -- a checkpoint that is loaded, or whose blocks are missing
  pub loads_stand : (r : Replica) (d : Lying) → 0 < r.checkpoint → r.applied ≡ r.checkpoint → Rests H cluster log (core r) → ReadsHashed H d.face → Stands H cluster log (core (loads r.root (lying.loaded d r.root) r))
  unfolding with_state
  loads_stand r d above same h reads = by_load (loaded d.face r.root) refl
    where
      by_state : (table : PayloadTable) → IsTable H table → table ≡ table_at cluster log r.checkpoint → (x : Option State) → ((s : State) → x ≡ Some s → s ≡ state_at log r.checkpoint) → Stands H cluster log (core (loaded_state r.root table x r))
      by_state table t at None e = record {
        rests = record { own = h.own; settled = h.settled; root = h.root; table = h.table; waits = λ n. above; saved = h.saved };
        state = λ none. absurd cc;
        table = λ none. absurd cc;
      }
      by_state table t at (Some s) e =
          let is = e s refl in
          record {
            rests = record { own = h.own; settled = h.settled; root = h.root; table = t; waits = λ n. above; saved = h.saved };
            state = λ none. is ∙ ap (state_at log) (sym same);
            table = λ none. at ∙ ap (table_at cluster log) (sym same);
          }

      by_load : (l : Load) → loaded d.face r.root ≡ l → Stands H cluster log (core (loads r.root l r))
      by_load (Missing names) e = record {
        rests = record { own = h.own; settled = h.settled; root = h.root; table = h.table; waits = λ n. above; saved = h.saved };
        state = λ none. absurd (lies_fit.program.some d r.root names e none);
        table = λ none. absurd (lies_fit.program.some d r.root names e none);
      }
      by_load (Loaded texts table) e =
          let x = right_texts d.face reads r.checkpoint r.root (h.root above) texts table e in
          by_state table x.2 x.1 (usable (version r) (state_decoded texts)) (λ s i. usable_same (version r) (state_at log r.checkpoint) s (sym (ap (usable (version r)) x.0) ∙ i))
