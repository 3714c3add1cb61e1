-- The repair of blocks (rules 30 and 31): a checkpoint whose blocks are all there is loaded.
use Rattle.std.proofs.Common.{ℕ, ◌≡◌, ◌≢◌, arith, refl, sym, subst, Bool, true, false, List, [], ◌∷◌, ◌++◌, Option, Some, None, is_some}
use Rattle.std.specs.Prelude.{find, nat_lt}
use Rattle.vr_header.specs.declared.header.Header.{Header}
use Rattle.vr_state.specs.declared.state.State.{State}
use Rattle.vr_state.specs.StateTexts.{state_decoded}
use Rattle.vr_ckpt.specs.declared.found.Load.{Load}
use Rattle.vr_ckpt.specs.declared.found.Load.TheVariants.{Loaded, Missing}
use Rattle.vr_ckpt.specs.declared.table.PayloadTable.{PayloadTable}
use Rattle.vr_ckpt.specs.declared.name.Name.{Name}
use Rattle.vr_msg.specs.declared.frame.GetBlock.{GetBlock}
use Rattle.vr_msg.specs.declared.frame.GiveBlock.{GiveBlock}
use Rattle.vr_rules.specs.Replica.{Replica, part_at, head, version}
use Rattle.vr_rules.specs.Outputs.{send_to, give_block}
use Rattle.vr_rules.specs.Steps.{Effect, PutBlock, Setting, Word, ◌⨾◌, quiet, change, does, by, reading, when, after_all}
use Rattle.vr_rules.specs.Words.{is_loaded, with_state, loaded_state, loads, checkpoint_at, load, apply, usable}
use Rattle.vr_rules.specs.Deciding.{is_wanted, get_block_table, give_block_table}
use Rattle.vr_rules.specs.Rules.{asked_block, block_at, give_read, obey_get_block, on_get_block, without, put_block, put_found, mend_found, not_worn, test_of, obey_give_block, on_give_block}
use Rattle.vr_rules.specs.Sound.{IsSound}
use Rattle.vr_rules.proofs.Combining.{kept_when}
use Rattle.vr_rules.proofs.Reacting.{kept_without}
use Rattle.vr_rules.proofs.Ruling.{by_rows}
use Rattle.vr_rules.proofs.Wording.{kept_load}
use Rattle.law_1_machine.specs.Group.{Group, Member, becomes}
use Rattle.law_1_machine.specs.Members.{Memory}
use Rattle.law_1_machine.specs.Machine as move
use Rattle.law_2_chains.specs.Local.{Local, begun, through}
use Rattle.law_2_chains.specs.Chains.{Setup, MayBeSaid, WasMade, Mid, Goes}
use Rattle.law_2_chains.proofs.Scripts.{every_append, goes_then, goes_quiet, goes_by, goes_reading}
use Rattle.law_2_chains.proofs.Readying.{ready_later}
use Rattle.law_2_chains.proofs.Moving.{under_moves, stops, mid_runs, mid_stays, goes_says}
use Rattle.law_2_chains.proofs.Applying.{later_as, goes_apply}
use Rattle.law_2_chains.proofs.Unmoving.{unmoved_not_worn}

-- with another state, or none
abbrev pub with_other : PayloadTable → State → List Name → Replica → Replica
with_other table s names r = record r { table = table; state = s; missing = names }

abbrev pub Other : Replica → Replica → Type 0
Other r q = q ≡ with_other q.table q.state q.missing r

other_loaded : (root : Name) (table : PayloadTable) (o : Option State) (r : Replica) → Other r (loaded_state root table o r)
unfolding with_state
other_loaded root table (Some s) r = refl
other_loaded root table None r = refl

pub other_loads : (root : Name) (x : Load) (r : Replica) → Other r (loads root x r)
other_loads root (Loaded texts table) r = other_loaded root table (usable (version r) (state_decoded texts)) r
other_loads root (Missing names) r = refl

-- a word that changes nothing but the state, and says and does nothing
pub record Quietly {F : Type 0} (w : Word F) (t : Setting F) (r : Replica) (f : F) : Type 0 where
  pub replica : Other r (w t r f).replica
  pub script : (w t r f).script ≡ []

quietly_if : {F : Type 0} (b : Bool) (w : Word F) (t : Setting F) (r : Replica) (f : F) → Quietly w t r f → Quietly (when b w) t r f
unfolding quiet
quietly_if true w t r f h = h
quietly_if false w t r f h = record { replica = refl; script = refl }

read_load : {F : Type 0} (t : Setting F) (r : Replica) (f : F) → Quietly (reading (checkpoint_at r.root) (λ l. change (loads r.root l))) t r f
unfolding reading change
read_load t r f = record { replica = other_loads r.root (checkpoint_at r.root t f) r; script = refl }

pub quietly_load : {F : Type 0} (t : Setting F) (r : Replica) (f : F) → Quietly load t r f
unfolding load by
quietly_load t r f =
    let y = quietly_if (nat_lt 0 r.checkpoint) (reading (checkpoint_at r.root) (λ l. change (loads r.root l))) t r f (read_load t r f) in
    record { replica = y.replica; script = y.script }

module _ (u : Setup) (start : Group Header) (i : ℕ) where
  -- the machine loads where the replica has its state
  pub other_mid : (r : Replica) (l : Local) (s : Group Header) (x : Mid u start i r l s) → x.memory.state ≡ None → (table : PayloadTable) (state : State) (names : List Name) → IsSound (with_other table state names r)
      → (a : Group Header) × Mid u start i (with_other table state names r) l a
  unfolding head part_at
  other_mid r l s x none table state [] sound =
      let f = x.reflects in
      let d = x.under.disk in
      let m : Memory Header = record x.memory { state = Some x.memory.root } in
      let z : Member Header = record (s.members i) { memory = Some m } in (
        becomes s i z,
        mid_runs u start i (with_other table state [] r) l s z m
            (under_moves u start i l l s z x.under (move.remembers i x.memory m x.running (move.loads none)) (record { last = d.last; under = d.under; slots = d.slots; size = d.size }) x.under.made)
            refl
            (record { view = f.view; log_view = f.log_view; checkpoint = f.checkpoint; commit = f.commit; applied = f.applied; reach = f.reach; parts = f.parts; loaded = λ n. (x.memory.root, refl); waits = λ n. absurd (n refl) })
            sound x.place x.size x.stored
            (ready_later u start.sent i x.memory m (s.members i).slots z.slots (later_as x.memory m (s.members i).slots refl refl (omega arith) (omega arith) refl (λ k. refl)) l.said x.ready),
      )
  other_mid r l s x none table state (name ∷ names) sound =
      let f = x.reflects in (
        s,
        record {
          under = x.under;
          memory = x.memory;
          running = x.running;
          reflects = record { view = f.view; log_view = f.log_view; checkpoint = f.checkpoint; commit = f.commit; applied = f.applied; reach = f.reach; parts = f.parts; loaded = λ n. absurd cc; waits = λ n. none };
          sound = sound;
          place = x.place;
          size = x.size;
          stored = x.stored;
          ready = x.ready;
        },
      )

  put_mid : (r q : Replica) (l : Local) (s : Group Header) (x : Mid u start i r l s) → r.missing ≢ [] → Other r q → IsSound q → (a : Group Header) × Mid u start i q l a
  put_mid r q l s x some same sound =
      let y = other_mid r l s x (x.reflects.waits some) q.table q.state q.missing (subst IsSound same sound) in
      subst (λ (p : Replica). (a : Group Header) × Mid u start i p l a) (sym same) y

  mid_through : (e : Effect) (r : Replica) (l : Local) (s : Group Header) → Mid u start i r l s → (through e l).member ≡ l.member → (through e l).made ≡ l.made ++ [] → (through e l).said ≡ l.said ++ [] → Mid u start i r (through e l) s
  mid_through e r l s x a b c = record {
    under = record { reached = x.under.reached; sent = x.under.sent; chosen = x.under.chosen; others = x.under.others; disk = rw a x.under.disk; made = rw b (every_append (WasMade s.made) l.made [] x.under.made tt); none_made = x.under.none_made };
    memory = x.memory;
    running = x.running;
    reflects = x.reflects;
    sound = x.sound;
    place = x.place;
    size = x.size;
    stored = rw a x.stored;
    ready = rw c (every_append (MayBeSaid u start.sent i x.memory (s.members i).slots) l.said [] x.ready tt);
  }

  goes_put_block : {F : Type 0} (name : Name) (block : List ℕ) (t : Setting F) (r : Replica) (f : F) (l : Local) (s : Group Header) → Mid u start i r l s → r.missing ≢ [] → Goes u start i l (put_block name block t r f)
  unfolding put_block does change by ◌⨾◌
  goes_put_block name block t r f l s x some =
      let q : Replica = without name r in
      let d = after_all t (after_all t f (PutBlock name block ∷ [])) [] in
      let k = kept_without name r x.sound in
      let w = when (is_loaded q) load t q d in
      let sound = (kept_when (is_loaded q) load t q d k.sound (λ c. kept_load t q d k.sound (x.sound.waits some))).kept.sound in
      let y = quietly_if (is_loaded q) load t q d (quietly_load t q d) in
      let z = put_mid r w.replica (through (PutBlock name block) l) s (mid_through (PutBlock name block) r l s x refl refl refl) some y.replica sound in
      subst (λ (es : List Effect). Goes u start i l (record { replica = w.replica; script = PutBlock name block ∷ es })) (sym y.script)
      (record { after = z.0; ends = z.1; cuts = (stops u start i l (begun (PutBlock name block) l) s x.under x.under.disk (every_append (WasMade s.made) l.made [] x.under.made tt), tt) })

  goes_put_found : {F : Type 0} (block : List ℕ) (p : Name → Bool) (o : Option Name) (t : Setting F) (r : Replica) (f : F) (l : Local) (s : Group Header) → Mid u start i r l s → find p r.missing ≡ o → Goes u start i l (put_found block o t r f)
  goes_put_found block p None t r f l s x e = goes_quiet u start i t r f l s x
  goes_put_found block p (Some name) t r f l s x e =
      goes_then u start i (put_block name block) apply t r f l (goes_put_block name block t r f l s x (λ n. let no_name : None ≡ Some name = rw n at e in absurd cc)) (λ a z. goes_apply u start i t _ _ _ a z)

  -- a block that has gone bad is written anew
  goes_mend_found : {F : Type 0} (block : List ℕ) (o : Option Name) (t : Setting F) (r : Replica) (f : F) (l : Local) (s : Group Header) → Mid u start i r l s → Goes u start i l (mend_found block o t r f)
  unfolding does change ◌⨾◌
  goes_mend_found block None t r f l s x = goes_quiet u start i t r f l s x
  goes_mend_found block (Some name) t r f l s x =
      let y = mid_through (PutBlock name block) r l s x refl refl refl in
      let un = unmoved_not_worn name r x.sound in
      record {
        after = s;
        ends = mid_stays u start i r (not_worn name r) (through (PutBlock name block) l) s y (un.reflects y.memory y.reflects) un.sound un.index un.n (un.keeps l.member x.stored);
        cuts = (stops u start i l (begun (PutBlock name block) l) s x.under x.under.disk (every_append (WasMade s.made) l.made [] x.under.made tt), tt);
      }

  pub goes_give_block : {F : Type 0} (g : GiveBlock) (t : Setting F) (r : Replica) (f : F) (l : Local) (s : Group Header) → Mid u start i r l s → Goes u start i l (on_give_block g t r f)
  unfolding on_give_block
  goes_give_block g t r f l s x =
      let idle = goes_quiet u start i t r f l s x in
      let is_block = test_of t f in
      goes_reading u start i _ _ t r f l (goes_by u start i _ t r f l (by_rows (λ z. Goes u start i l (obey_give_block is_block g z t r f)) (give_block_table is_block g r) (
        λ a. idle,
        λ n0. (
          λ a. goes_by u start i _ t r f l (goes_put_found g.block (is_wanted is_block g) (find (is_wanted is_block g) r.missing) t r f l s x refl),
          λ n1. (λ a. goes_by u start i _ t r f l (goes_mend_found g.block (find (is_wanted is_block g) r.worn) t r f l s x), λ n2. idle),
        ),
      )))

  gives : {F : Type 0} (g : GetBlock) (o : Option (List ℕ)) (t : Setting F) (r : Replica) (f : F) (l : Local) (s : Group Header) → Mid u start i r l s → Goes u start i l (give_read g o t r f)
  gives g None t r f l s x = goes_quiet u start i t r f l s x
  gives g (Some block) t r f l s x = goes_says u start i (λ r. send_to g.replica (give_block g.address block r) r) t r f l s x (tt, tt)

  pub goes_get_block : {F : Type 0} (g : GetBlock) (t : Setting F) (r : Replica) (f : F) (l : Local) (s : Group Header) → Mid u start i r l s → Goes u start i l (on_get_block g t r f)
  unfolding on_get_block
  goes_get_block g t r f l s x =
      let idle = goes_quiet u start i t r f l s x in
      let block = block_at (asked_block g) t f in
      goes_reading u start i _ _ t r f l (goes_by u start i _ t r f l (by_rows (λ z. Goes u start i l (obey_get_block g block z t r f)) (get_block_table (is_some block) g r) (
        λ a. idle,
        λ n0. (λ a. gives g block t r f l s x, λ n1. idle),
      )))
