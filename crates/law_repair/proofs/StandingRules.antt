-- What each step does of the places of a disk: nothing, unless it visits one, mends a block, or loads or makes a checkpoint.
use Rattle.std.proofs.Common.{arith, ℕ, zero, suc, ◌+◌, ◌≡◌, ◌≢◌, ◌<◌, ◌≤◌, ◌∙◌, refl, sym, ap, subst, Bool, true, false, cond, not, List, [], ◌∷◌, ◌++◌, length, Option, Some, None}
use Rattle.std.specs.Prelude.{Contains, Ok, ⊤, find, is_some, nat_le, nat_lt, ◌==◌}
use Rattle.std.specs.Option.{option_map_or}
use Rattle.std.proofs.lemmas.Bool.{and_parts, ltb-false, ne_eqb, true≢false}
use Rattle.vr_header.specs.declared.header.Header.{Header}
use Rattle.vr_ckpt.specs.declared.name.Name.{Name}
use Rattle.vr_state.specs.Folds.{empty}
use Rattle.vr_state.specs.StateTexts.{state_decoded}
use Rattle.vr_state.specs.declared.texts.Texts.{Texts}
use Rattle.vr_state.specs.declared.state.State.{State}
use Rattle.vr_ckpt.specs.Places as places
use Rattle.vr_ckpt.specs.declared.found.Load.{Load}
use Rattle.vr_ckpt.specs.declared.found.Load.TheVariants.{Loaded, Missing}
use Rattle.vr_ckpt.specs.declared.table.PayloadTable.{PayloadTable}
use Rattle.vr_state.specs.declared.session.SessionAnswer.{SessionAnswer}
use Rattle.vr_state.specs.declared.session.SessionAnswer.TheVariants as answer
use Rattle.vr_msg.specs.declared.event.Event.{Event}
use Rattle.vr_msg.specs.declared.event.Event.TheVariants as event
use Rattle.vr_msg.specs.declared.frame.Commit.{Commit}
use Rattle.vr_msg.specs.declared.frame.DoViewChange.{DoViewChange}
use Rattle.vr_msg.specs.declared.frame.Frame.{Frame}
use Rattle.vr_msg.specs.declared.frame.Frame.TheVariants as frame
use Rattle.vr_msg.specs.declared.frame.GetBlock.{GetBlock}
use Rattle.vr_msg.specs.declared.frame.GetPrepare.{GetPrepare}
use Rattle.vr_msg.specs.declared.frame.GetSync.{GetSync}
use Rattle.vr_msg.specs.declared.frame.GetView.{GetView}
use Rattle.vr_msg.specs.declared.frame.GiveBlock.{GiveBlock}
use Rattle.vr_msg.specs.declared.frame.GivePrepare.{GivePrepare}
use Rattle.vr_msg.specs.declared.frame.Prepare.{Prepare}
use Rattle.vr_msg.specs.declared.frame.PrepareOk.{PrepareOk}
use Rattle.vr_msg.specs.declared.frame.StartView.{StartView}
use Rattle.vr_msg.specs.declared.frame.StartViewChange.{StartViewChange}
use Rattle.vr_msg.specs.declared.frame.SyncView.{SyncView}
use Rattle.vr_msg.specs.declared.request.RequestFields.{RequestFields}
use Rattle.vr_msg.specs.Choice.{ops}
use Rattle.vr_rules.specs.Deciding.{Hash, commit_table, do_view_change_table, first_of, get_block_table, get_prepare_table, get_sync_table, get_view_table, give_block_table, give_prepare_table, is_wanted, log_of, may_jump, prepare_ok_table, prepare_table, request_table, session_answer, start_view_change_table, start_view_table, sync_view_table, tick_table}
use Rattle.vr_rules.specs.Outputs as told
use Rattle.vr_rules.specs.Replica.{Replica, forgetting, head, header_at, is_frozen, is_here, part_at, version}
use Rattle.vr_rules.specs.Rules as rules
use Rattle.vr_rules.specs.Fit.{IsFit}
use Rattle.vr_rules.specs.Steps.{Effect, PutBlock, Setting, Step, Word, ◌⨾◌, after_all, by, change, does, each, naming, quiet, reading, says, when}
use Rattle.vr_rules.specs.Words as words
use Rattle.vr_rules.specs.Words.{usable}
use Rattle.vr_rules.proofs.Wording.{usable_is}
use Rattle.vr_rules.specs.declared.asker.Asker.{Asker}
use Rattle.vr_rules.specs.declared.rule.Rule.{Rule}
use Rattle.vr_rules.specs.declared.rule.Rule.TheVariants.{Ahead, Answered, Behind, Beyond, BlockGiven, ChangeDone, ChangeHeard, ChangeLater, CommitHeard, CommitLater, Counted, EntryGiven, EntryTaken, Full, Known, Made, Next, Other, Past, PreparedLater, Redirected, Stated, StatedLate, SyncAsked, SyncGiven, Taken, TickedBackup, TickedChanging, TickedPrimary, ViewGiven}
use Rattle.vr_rules.proofs.Halves.{regrouped}
use Rattle.vr_rules.proofs.Jumping.{may_jump_is}
use Rattle.vr_rules.proofs.Ruling.{by_rows}
use Rattle.vr_rules.proofs.FitWords.{reads_later}
use Rattle.vr_base.specs.Bytes.{IsBytes}
use Rattle.law_4_disks.specs.Stocks.{IsGiven, IsGivenEvent}
use Rattle.law_4_disks.proofs.States.{state_read}
use Rattle.law_repair.specs.Places.{StandsAt, IsInPlaces}
use Rattle.law_repair.proofs.Laying.{LoadsApart, SavesInPlace}
use Rattle.law_repair.proofs.Standing.{All-left, All-right, Aspect, Chain, Fitting, IsRooted, IsStocked, IsWornWell, Standing, Stands, aspect, chain_both, standing_accept, standing_advance, standing_again, standing_apply, standing_ask, standing_by, standing_change, standing_each, standing_enter, standing_entry, standing_learn, standing_naming, standing_of, standing_quiet, standing_reading, standing_resend, standing_rested, standing_says, standing_speak, standing_take, standing_then, standing_try, standing_when, standing_write, step_of, worn_none, worn_stands}

-- ---- what is found in a list

record Found {X : Type 0} (p : X → Bool) (xs : List X) (x : X) : Type 0 where
  among : Contains xs x
  passes : p x ≡ true

found_in : {X : Type 0} (p : X → Bool) (xs : List X) (x : X) → find p xs ≡ Some x → Found p xs x
found_in p [] x e = absurd cc
found_in p (y ∷ ys) x e =
    elim (p y) as (λ b. p y ≡ b → cond b (Some y) (find p ys) ≡ Some x → Found p (y ∷ ys) x) [
      | true ↦ λ t i. let same : y ≡ x = cc in record { among = (zero, omega arith, same); passes = subst (λ z. p z ≡ true) same t }
      | false ↦ λ t i.
          let rest = found_in p ys x i in
          let lt = rest.among.1 in
          record { among = (suc rest.among.0, omega (arith, lt), rest.among.2); passes = rest.passes }
    ] refl e

-- ---- steps after which the places may be others

pub record Passes (r : Replica) (x : Step) : Type 0 where
  pub order : x.replica.checkpoint ≤ x.replica.applied
  pub cursor : x.replica.cursor ≡ r.cursor
  pub chain : Chain r.saved x.script x.replica.saved

passes_then : (r : Replica) (x y : Step) → Passes r x → Stands x.replica y → Passes r (step_of y.replica (x.script ++ y.script))
passes_then r x y a b = record {
  order = b.order;
  cursor = b.cursor ∙ a.cursor;
  chain = chain_both r.saved x.replica.saved y.replica.saved x.script y.script a.chain b.chain;
}

-- where no block is missing any more: there is no checkpoint, or it was loaded
pub data FromLoad {F : Type 0} (s : Setting F) (q : Replica) : Type 0 where
  none : q.checkpoint ≡ 0 → FromLoad s q
  some : (f : F) (texts : Texts) → s.loaded f q.root ≡ Loaded texts q.table → FromLoad s q
  unnamed : (f : F) → s.loaded f q.root ≡ Missing [] → FromLoad s q

-- what a step keeps of what checkpoints are made of, of the root's place, and of the blocks that have gone bad
pub record Keeps {F : Type 0} (s : Setting F) (r : Replica) (f : F) (x : Step) : Type 0 where
  pub stocks : Fitting s f x → IsStocked r → IsStocked x.replica
  pub roots : SavesInPlace s → IsRooted r → IsRooted x.replica
  pub worn : IsWornWell r → IsWornWell x.replica

-- the texts of each checkpoint that loads are bytes
abbrev pub LoadsBytes : {F : Type 0} → Setting F → F → Type 0
LoadsBytes s f = (root : Name) (texts : Texts) (t : PayloadTable) → s.loaded f root ≡ Loaded texts t → IsBytes texts.sessions × IsBytes texts.keys

-- where a block that was missing is put, of which G is so
pub record Fills {F : Type 0} (G : List ℕ → Type 0) (s : Setting F) (r : Replica) (f : F) (x : Step) : Type 0 where
  pub name : Name
  pub block : List ℕ
  pub given : G block
  pub whole : s.is_block name block ≡ true
  pub stocks : LoadsApart s → LoadsBytes s (s.after f (PutBlock name block)) → Fitting s f x → IsStocked r → IsStocked x.replica
  pub roots : LoadsApart s → SavesInPlace s → IsRooted x.replica
  pub worn : IsWornWell r → IsWornWell x.replica

-- What a step does of them: nothing, unless the checkpoint rises; another checkpoint is taken over; a block that was missing is put; a block
-- that has gone bad is put; or a place is visited, between words that visit none.
pub data Goes {F : Type 0} (G : List ℕ → Type 0) (s : Setting F) (r : Replica) (f : F) (x : Step) : Type 0 where
  rests : Stands r x → Keeps s r f x → Goes G s r f x
  moves : Passes r x → r.checkpoint < x.replica.checkpoint → Keeps s r f x → Goes G s r f x
  fills : Passes r x → words.is_loaded r ≡ false → (x.replica.checkpoint ≡ r.checkpoint → x.replica.worn ≡ r.worn)
      → (x.replica.checkpoint ≡ r.checkpoint → words.is_loaded x.replica ≡ true → FromLoad s x.replica) → Fills G s r f x → Goes G s r f x
  mends : (name : Name) (block : List ℕ) → Contains r.worn name → s.is_block name block ≡ true → x ≡ step_of (rules.not_worn name r) (PutBlock name block ∷ []) → Goes G s r f x
  visits : (v w : Word F) → Standing v → Standing w → x ≡ (v ⨾ words.visit ⨾ w) s r f → Goes G s r f x

-- ---- a block that was missing

-- all that a load leaves
abbrev pub rest : Replica → Aspect
rest r = aspect (record r { missing = []; table = places.empty; state = empty })

loaded_rest : (root : Name) (table : PayloadTable) (o : Option State) (r : Replica) → rest (words.loaded_state root table o r) ≡ rest r
unfolding words.with_state
loaded_rest root table (Some t) r = refl
loaded_rest root table None r = refl

loads_rest : (root : Name) (l : Load) (r : Replica) → rest (words.loads root l r) ≡ rest r
loads_rest root (Loaded texts table) r = loaded_rest root table (usable (version r) (state_decoded texts)) r
loads_rest root (Missing names) r = refl

rest_passes : (r q : Replica) (es : List Effect) → rest q ≡ rest r → r.checkpoint ≤ r.applied → Chain r.saved es r.saved → Passes r (step_of q es)
rest_passes r q es e o chain =
    let at : q.checkpoint ≡ r.checkpoint = ap (λ (a : Aspect). a.checkpoint) e in
    let done : q.applied ≡ r.applied = ap (λ (a : Aspect). a.applied) e in
    record { order = omega (arith, o, at, done); cursor = ap (λ (a : Aspect). a.cursor) e; chain = subst (Chain r.saved es) (sym (ap (λ (a : Aspect). a.saved) e)) chain }

-- a load writes nothing
pub record Loads {F : Type 0} (s : Setting F) (r : Replica) (x : Step) : Type 0 where
  pub rest_same : rest x.replica ≡ rest r
  pub silent : x.script ≡ []
  pub from : words.is_loaded x.replica ≡ true → FromLoad s x.replica

record Puts {F : Type 0} (s : Setting F) (r : Replica) (x : Step) : Type 0 where
  passes : Passes r x
  pub rest_same : rest x.replica ≡ rest r
  pub from : words.is_loaded x.replica ≡ true → FromLoad s x.replica

from_state : {F : Type 0} (s : Setting F) (f : F) (texts : Texts) (table : PayloadTable) (o : Option State) (r : Replica) → s.loaded f r.root ≡ Loaded texts table
    → words.is_loaded (words.loaded_state r.root table o r) ≡ true → FromLoad s (words.loaded_state r.root table o r)
unfolding words.with_state
from_state s f texts table (Some t) r e loaded = some f texts e
from_state s f texts table None r e loaded = absurd (true≢false (sym loaded ∙ ne_eqb 1 0 (λ i. absurd (omega (arith, i)))))

from_loads : {F : Type 0} (s : Setting F) (f : F) (l : Load) (r : Replica) → s.loaded f r.root ≡ l → words.is_loaded (words.loads r.root l r) ≡ true → FromLoad s (words.loads r.root l r)
from_loads s f (Loaded texts table) r e loaded = from_state s f texts table (usable (version r) (state_decoded texts)) r e loaded
from_loads s f (Missing []) r e loaded = unnamed f e
from_loads s f (Missing (name ∷ names)) r e loaded = absurd (true≢false (sym loaded ∙ ne_eqb (length (name ∷ names)) 0 (λ i. absurd (omega (arith, i)))))

-- what a load leaves of what checkpoints are made of
read_stocks : (root : Name) (table : PayloadTable) (texts : Texts) (o : Option State) (q : Replica) → IsBytes texts.sessions × IsBytes texts.keys → IsInPlaces table → ((s : State) → o ≡ Some s → state_decoded texts ≡ Ok s)
    → IsStocked q → IsStocked (words.loaded_state root table o q)
unfolding words.with_state
read_stocks root table texts (Some st) q are places e k = let x = state_read texts st are.0 are.1 (e st refl) in record { sessions = x.sessions; machine = x.machine; table = places }
read_stocks root table texts None q are places e k = k

-- and where the root stands
read_roots : (root : Name) (table : PayloadTable) (o : Option State) (q : Replica) → StandsAt 0 q.root → IsRooted (words.loaded_state root table o q)
unfolding words.with_state
read_roots root table (Some st) q at = λ none some. at
read_roots root table None q at = λ none some. absurd cc

-- nothing of what is missing is known as bad
lacks : (r : Replica) → words.is_loaded r ≡ false → r.missing ≢ []
lacks r t e = true≢false (sym (ap (λ (ms : List Name). length ms == 0) e) ∙ t)

module _ {F : Type 0} where
  pub load_is : (s : Setting F) (r : Replica) (f : F) → Loads s r (words.load s r f)
  unfolding words.load by reading change quiet
  load_is s r f =
      elim (nat_lt 0 r.checkpoint) as (λ b. nat_lt 0 r.checkpoint ≡ b → Loads s r (when b (reading (words.checkpoint_at r.root) (λ l. change (words.loads r.root l))) s r f)) [
        | true ↦ λ t. record { rest_same = loads_rest r.root (s.loaded f r.root) r; silent = refl; from = λ loaded. from_loads s f (s.loaded f r.root) r refl loaded }
        | false ↦ λ t. record { rest_same = refl; silent = refl; from = λ loaded. none (let l = ltb-false 0 r.checkpoint t in omega (arith, l)) }
      ] refl

  reload_is : (s : Setting F) (r : Replica) (f : F) → Loads s r (when (words.is_loaded r) words.load s r f)
  unfolding quiet
  reload_is s r f =
      elim (words.is_loaded r) as (λ b. words.is_loaded r ≡ b → Loads s r (when b words.load s r f)) [
        | true ↦ λ t. load_is s r f
        | false ↦ λ t. record { rest_same = refl; silent = refl; from = λ loaded. absurd (true≢false (sym loaded ∙ t)) }
      ] refl

  put_is : (name : Name) (block : List ℕ) (s : Setting F) (r : Replica) (f : F) → r.checkpoint ≤ r.applied → Puts s r (rules.put_block name block s r f)
  unfolding rules.put_block ◌⨾◌ does change by
  put_is name block s r f o =
      let l = reload_is s (rules.without name r) (after_all s (after_all s f (PutBlock name block ∷ [])) []) in
      let chain : Chain r.saved (when (words.is_loaded (rules.without name r)) words.load s (rules.without name r) (after_all s (after_all s f (PutBlock name block ∷ [])) [])).script r.saved =
      subst (λ (es : List Effect). Chain r.saved es r.saved) (sym l.silent) refl in
      record { passes = rest_passes r _ _ l.rest_same o chain; rest_same = l.rest_same; from = l.from }

  -- what is applied then keeps this
  from_on : (s : Setting F) (q p : Replica) → p.checkpoint ≡ q.checkpoint → p.root ≡ q.root → p.table ≡ q.table → FromLoad s q → FromLoad s p
  from_on s q p c n t from = elim from [
    | none e ↦ none (c ∙ e)
    | some f texts e ↦ some f texts (ap (s.loaded f) n ∙ (e ∙ ap (Loaded texts) (sym t)))
    | unnamed f e ↦ unnamed f (ap (s.loaded f) n ∙ e)
  ]

  loads_stocks : (s : Setting F) (g : F) (root : Name) (l : Load) (q : Replica) → LoadsApart s → LoadsBytes s g → s.loaded g root ≡ l → IsStocked q → IsStocked (words.loads root l q)
  loads_stocks s g root (Loaded texts table) q apart are e k = read_stocks root table texts (usable (version q) (state_decoded texts)) q (are root texts table e) (apart.places g root texts table e).1 (λ s i. (usable_is (version q) (state_decoded texts) s i).0) k
  loads_stocks s g root (Missing names) q apart are e k = k

  pub load_stocks : (s : Setting F) (q : Replica) (g : F) → LoadsApart s → LoadsBytes s g → IsStocked q → IsStocked (words.load s q g).replica
  unfolding words.load by reading change quiet
  load_stocks s q g apart are k =
      elim (nat_lt 0 q.checkpoint) as (λ b. IsStocked (when b (reading (words.checkpoint_at q.root) (λ l. change (words.loads q.root l))) s q g).replica) [
        | true ↦ loads_stocks s g q.root (s.loaded g q.root) q apart are refl k
        | false ↦ k
      ]

  loads_roots : (s : Setting F) (g : F) (l : Load) (q : Replica) → LoadsApart s → s.loaded g q.root ≡ l → IsRooted (words.loads q.root l q)
  loads_roots s g (Loaded texts table) q apart e = read_roots q.root table (usable (version q) (state_decoded texts)) q (apart.places g q.root texts table e).0
  loads_roots s g (Missing []) q apart e = absurd (apart.some g q.root e)
  loads_roots s g (Missing (name ∷ names)) q apart e = λ none some. absurd cc

  pub load_roots : (s : Setting F) (q : Replica) (g : F) → LoadsApart s → IsRooted (words.load s q g).replica
  unfolding words.load by reading change quiet
  load_roots s q g apart =
      elim (nat_lt 0 q.checkpoint) as (λ b. nat_lt 0 q.checkpoint ≡ b → IsRooted (when b (reading (words.checkpoint_at q.root) (λ l. change (words.loads q.root l))) s q g).replica) [
        | true ↦ λ t. loads_roots s g (s.loaded g q.root) q apart refl
        | false ↦ λ t none some. absurd (let low = ltb-false 0 q.checkpoint t in omega (arith, low, some))
      ] refl

  reload_stocks : (s : Setting F) (q : Replica) (g : F) → LoadsApart s → LoadsBytes s g → IsStocked q → IsStocked (when (words.is_loaded q) words.load s q g).replica
  unfolding quiet
  reload_stocks s q g apart are k = elim (words.is_loaded q) as (λ b. IsStocked (when b words.load s q g).replica) [ true ↦ load_stocks s q g apart are k | false ↦ k ]

  reload_roots : (s : Setting F) (q : Replica) (g : F) → LoadsApart s → IsRooted (when (words.is_loaded q) words.load s q g).replica
  unfolding quiet
  reload_roots s q g apart =
      elim (words.is_loaded q) as (λ b. words.is_loaded q ≡ b → IsRooted (when b words.load s q g).replica) [
        | true ↦ λ t. load_roots s q g apart
        | false ↦ λ t none some. absurd (true≢false (sym (ap (λ (ms : List Name). length ms == 0) none) ∙ t))
      ] refl

  put_stocks : (name : Name) (block : List ℕ) (s : Setting F) (r : Replica) (f : F) → LoadsApart s → LoadsBytes s (s.after f (PutBlock name block)) → IsStocked r → IsStocked (rules.put_block name block s r f).replica
  unfolding rules.put_block ◌⨾◌ does change by after_all
  put_stocks name block s r f apart are k = reload_stocks s (rules.without name r) (s.after f (PutBlock name block)) apart are k

  put_roots : (name : Name) (block : List ℕ) (s : Setting F) (r : Replica) (f : F) → LoadsApart s → IsRooted (rules.put_block name block s r f).replica
  unfolding rules.put_block ◌⨾◌ does change by after_all
  put_roots name block s r f apart = reload_roots s (rules.without name r) (s.after f (PutBlock name block)) apart

  fill_is : {G : List ℕ → Type 0} (name : Name) (block : List ℕ) (s : Setting F) (r : Replica) (f : F) → r.checkpoint ≤ r.applied → words.is_loaded r ≡ false → G block → s.is_block name block ≡ true
      → Goes G s r f (rules.put_found block (Some name) s r f)
  unfolding ◌⨾◌
  fill_is name block s r f o lacking given whole =
      let x = rules.put_block name block s r f in
      let put : Puts s r x = put_is name block s r f o in
      let d : F = after_all s f x.script in
      let y = words.apply s x.replica d in
      let word : Standing {F = F} words.apply = standing_apply in
      let on : Stands x.replica y = word.every s x.replica d put.passes.order in
      let at : x.replica.checkpoint ≡ r.checkpoint = ap (λ (a : Aspect). a.checkpoint) put.rest_same in
      fills (passes_then r x y put.passes on) lacking (λ e. (on.alike (e ∙ sym at)).worn ∙ ap (λ (a : Aspect). a.worn) put.rest_same)
      (λ e loaded.
      let same = on.alike (e ∙ sym at) in
      from_on s x.replica y.replica (e ∙ sym at) same.root same.table (put.from (ap (λ (ms : List Name). length ms == 0) (sym on.missing) ∙ loaded)))
      (record {
        name = name;
        block = block;
        given = given;
        whole = whole;
        stocks = λ apart are fit k.
            let left = All-left IsFit x.script y.script fit.fits in
            let last : Fitting s d y = record { saves = fit.saves; reads = reads_later s f x.script fit.reads left; fits = All-right IsFit x.script y.script fit.fits } in
            word.stocks tt s x.replica d last (put_stocks name block s r f apart are k);
        roots = λ apart p. word.roots s x.replica d p (put_roots name block s r f apart);
        worn = λ k. worn_stands x.replica y on (worn_none x.replica (ap (λ (a : Aspect). a.worn) put.rest_same ∙ k.none (lacks r lacking)));
      })

  -- ---- a later checkpoint

  jump_passes : (v : SyncView) (s : Setting F) (r : Replica) (f : F) → Passes r (words.jump v s r f)
  unfolding words.jump words.jumped words.save ◌⨾◌ change does forgetting
  jump_passes v s r f = record { order = omega arith; cursor = refl; chain = refl }

  jump_at : (v : SyncView) (s : Setting F) (r : Replica) (f : F) → (words.jump v s r f).replica.checkpoint ≡ v.checkpoint
  unfolding words.jump words.jumped words.save ◌⨾◌ change does forgetting
  jump_at v s r f = refl

  jump_stocks : (v : SyncView) (s : Setting F) (r : Replica) (f : F) → IsStocked r → IsStocked (words.jump v s r f).replica
  unfolding words.jump words.jumped words.save ◌⨾◌ change does forgetting
  jump_stocks v s r f k = k

  jump_roots : (v : SyncView) (s : Setting F) (r : Replica) (f : F) → IsRooted (words.jump v s r f).replica
  unfolding words.jump words.jumped words.save ◌⨾◌ change does forgetting
  jump_roots v s r f = λ none some. absurd cc

  jump_worn : (v : SyncView) (s : Setting F) (r : Replica) (f : F) → (words.jump v s r f).replica.worn ≡ []
  unfolding words.jump words.jumped words.save ◌⨾◌ change does forgetting
  jump_worn v s r f = refl

  move_is : {G : List ℕ → Type 0} (v : SyncView) (w : Word F) (s : Setting F) (r : Replica) (f : F) → Standing w → r.checkpoint < v.checkpoint → Goes G s r f ((words.jump v ⨾ w) s r f)
  unfolding ◌⨾◌
  move_is v w s r f h above =
      let x = words.jump v s r f in
      let d : F = after_all s f x.script in
      let y = w s x.replica d in
      let first = jump_passes v s r f in
      let on = h.every s x.replica d first.order in
      let at = jump_at v s r f in
      let up = on.rises in
      moves (passes_then r x y first on) (omega (arith, above, at, up))
      (record {
        stocks = λ fit k.
            let left = All-left IsFit x.script y.script fit.fits in
            let last : Fitting s d y = record { saves = fit.saves; reads = reads_later s f x.script fit.reads left; fits = All-right IsFit x.script y.script fit.fits } in
            h.stocks tt s x.replica d last (jump_stocks v s r f k);
        roots = λ p k. h.roots s x.replica d p (jump_roots v s r f);
        worn = λ k. worn_stands x.replica y on (worn_none x.replica (jump_worn v s r f));
      })

  -- ---- rules that do nothing of the places

  standing_answer : (a : Asker) (x : SessionAnswer) → Standing {F = F} (rules.stored_reply a x)
  standing_answer a answer.Fresh = standing_quiet
  standing_answer a (answer.Repeat outcome op) = standing_says _
  standing_answer a answer.Old = standing_says _
  standing_answer a answer.Gap = standing_says _
  standing_answer a answer.Evicted = standing_says _

  standing_request : (hash : Hash) (q : RequestFields) (x : Rule) → Standing {F = F} (rules.obey_request hash q x)
  unfolding rules.make
  standing_request hash q Redirected = standing_says _
  standing_request hash q Behind = standing_says _
  standing_request hash q Answered = standing_by _ (λ r. standing_answer (rules.asker_by hash q) (session_answer q r))
  standing_request hash q Full = standing_says _
  standing_request hash q Made = standing_by _ (λ r. standing_then _ _ (standing_write (rules.next_entry hash q r)) (standing_then _ _ (standing_says _) standing_advance))
  standing_request hash q _ = standing_quiet

  standing_prepare : (hash : Hash) (p : Prepare) (x : Rule) → Standing {F = F} (rules.obey_prepare hash p x)
  standing_prepare hash p PreparedLater = standing_says _
  standing_prepare hash p Past = standing_then _ _ standing_rested (standing_learn p.commit)
  standing_prepare hash p Beyond = standing_rested
  standing_prepare hash p Known = standing_then _ _ standing_rested (standing_then _ _ (standing_accept p.entry) (standing_then _ _ (standing_says _) (standing_learn p.commit)))
  standing_prepare hash p Next = standing_then _ _ standing_rested (standing_then _ _ (standing_write p.entry) (standing_then _ _ (standing_says _) (standing_learn p.commit)))
  standing_prepare hash p Ahead = standing_then _ _ standing_rested (standing_then _ _ (standing_says _) (standing_learn p.commit))
  standing_prepare hash p Other = standing_rested
  standing_prepare hash p _ = standing_quiet

  standing_ok : (a : PrepareOk) (x : Rule) → Standing {F = F} (rules.obey_prepare_ok a x)
  standing_ok a Counted = standing_then _ _ (standing_change (rules.acknowledged a) (λ r. refl)) standing_advance
  standing_ok a _ = standing_quiet

  standing_commit : (c : Commit) (x : Rule) → Standing {F = F} (rules.obey_commit c x)
  standing_commit c CommitLater = standing_says _
  standing_commit c CommitHeard = standing_then _ _ standing_rested (standing_then _ _ (standing_by _ (λ r. standing_when _ _ (standing_says _))) (standing_learn c.commit))
  standing_commit c _ = standing_quiet

  standing_heard : (sender : ℕ) → Standing {F = F} (change (rules.heard_of sender))
  standing_heard sender = standing_change (rules.heard_of sender) (λ r. refl)

  standing_view_change : (c : StartViewChange) (x : Rule) → Standing {F = F} (rules.obey_start_view_change c x)
  standing_view_change c ChangeLater = standing_then _ _ (standing_enter c.view) (standing_then _ _ (standing_heard c.replica) standing_speak)
  standing_view_change c ChangeHeard = standing_then _ _ (standing_heard c.replica) standing_speak
  standing_view_change c ChangeDone = standing_says _
  standing_view_change c _ = standing_quiet

  standing_stated : (d : DoViewChange) (x : Rule) → Standing {F = F} (rules.obey_do_view_change d x)
  standing_stated d StatedLate = standing_says _
  standing_stated d Stated =
      standing_then _ _ (standing_by _ (λ r. standing_when (nat_lt r.view d.view) _ (standing_enter d.view)))
      (standing_then _ _ (standing_change (rules.with_statement d.replica d.statement) (λ r. refl)) standing_try)
  standing_stated d _ = standing_quiet

  standing_acknowledge_of : (hash : Hash) (o : Option Header) → Standing {F = F} (option_map_or (rules.acknowledge hash) o quiet)
  standing_acknowledge_of hash None = standing_quiet
  standing_acknowledge_of hash (Some h) = standing_says _

  standing_stored : (hash : Hash) (op : ℕ) → Standing {F = F} (rules.acknowledge_stored hash op)
  unfolding rules.acknowledge_stored
  standing_stored hash op = standing_by _ (λ r. standing_when (is_here (part_at r op)) _ (standing_acknowledge_of hash (header_at r op)))

  -- what is stored is acknowledged, and applied
  standing_told : (hash : Hash) (last : ℕ) → Standing {F = F} (by (λ r. each (rules.acknowledge_stored hash) (ops r.commit last)) ⨾ words.apply)
  standing_told hash last = standing_then _ _ (standing_by _ (λ r. standing_each (rules.acknowledge_stored hash) _ (standing_stored hash))) standing_apply

  standing_start_view : (hash : Hash) (v : StartView) (x : Rule) → Standing {F = F} (rules.obey_start_view hash v x)
  standing_start_view hash v Taken = standing_then _ _ (standing_take (log_of v)) (standing_told hash v.head)
  standing_start_view hash v SyncAsked = standing_says _
  standing_start_view hash v _ = standing_quiet

  standing_get_view : (g : GetView) (x : Rule) → Standing {F = F} (rules.obey_get_view g x)
  standing_get_view g ViewGiven = standing_says _
  standing_get_view g _ = standing_quiet

  standing_get_sync : (g : GetSync) (x : Rule) → Standing {F = F} (rules.obey_get_sync g x)
  standing_get_sync g SyncGiven = standing_says _
  standing_get_sync g _ = standing_quiet

  standing_get_prepare : (g : GetPrepare) (x : Rule) → Standing {F = F} (rules.obey_get_prepare g x)
  standing_get_prepare g EntryGiven = standing_entry g.op _ (λ e. standing_of _ (standing_says _))
  standing_get_prepare g _ = standing_quiet

  standing_give_prepare : (g : GivePrepare) (x : Rule) → Standing {F = F} (rules.obey_give_prepare g x)
  standing_give_prepare g EntryTaken = standing_then _ _ (standing_write g.entry) (standing_then _ _ (standing_resend g.entry) standing_apply)
  standing_give_prepare g _ = standing_quiet

  standing_give_read : (g : GetBlock) (o : Option (List ℕ)) → Standing {F = F} (rules.give_read g o)
  standing_give_read g None = standing_quiet
  standing_give_read g (Some block) = standing_says _

  standing_get_block : (g : GetBlock) (o : Option (List ℕ)) (x : Rule) → Standing {F = F} (rules.obey_get_block g o x)
  standing_get_block g o BlockGiven = standing_give_read g o
  standing_get_block g o _ = standing_quiet

  standing_idler : Standing {F = F} (change rules.idler)
  standing_idler = standing_change rules.idler (λ r. refl)

  standing_next : Standing {F = F} rules.next_view
  standing_next = standing_by _ (λ r. standing_enter (r.view + 1))

-- ---- steps

module _ {F : Type 0} (G : List ℕ → Type 0) (s : Setting F) where
  abbrev At : Word F → Replica → F → Type 0
  At w r f = Goes G s r f (w s r f)

  standing : (w : Word F) (r : Replica) (f : F) → r.checkpoint ≤ r.applied → Standing w → At w r f
  standing w r f o h =
      let x = h.every s r f o in
      rests x (record { stocks = λ fit k. h.stocks tt s r f fit k; roots = λ p k. h.roots s r f p k; worn = λ k. worn_stands r (w s r f) x k })

  at_found : (g : GiveBlock) (o : Option Name) (r : Replica) (f : F) → r.checkpoint ≤ r.applied → G g.block → find (is_wanted s.is_block g) r.missing ≡ o → At (rules.put_found g.block o) r f
  at_found g None r f order given e = standing quiet r f order standing_quiet
  at_found g (Some name) r f order given e =
      let found = found_in (is_wanted s.is_block g) r.missing name e in
      let lt = found.among.1 in
      let some : words.is_loaded r ≡ false = ne_eqb (length r.missing) 0 (λ i. absurd (omega (arith, i, lt))) in
      fill_is name g.block s r f order some given (and_parts (name.address == g.address) (s.is_block name g.block) found.passes).1

  at_worn : (g : GiveBlock) (o : Option Name) (r : Replica) (f : F) → r.checkpoint ≤ r.applied → find (is_wanted s.is_block g) r.worn ≡ o → At (rules.mend_found g.block o) r f
  unfolding ◌⨾◌ does change
  at_worn g None r f order e = standing quiet r f order standing_quiet
  at_worn g (Some name) r f order e =
      let found = found_in (is_wanted s.is_block g) r.worn name e in
      mends name g.block found.among (and_parts (name.address == g.address) (s.is_block name g.block) found.passes).1 refl

  at_give_block : (g : GiveBlock) (r : Replica) (f : F) → r.checkpoint ≤ r.applied → G g.block → At (rules.on_give_block g) r f
  unfolding rules.on_give_block reading by
  at_give_block g r f order given =
      let p : Name → Bool = is_wanted s.is_block g in
      let idle = standing quiet r f order standing_quiet in
      by_rows (λ x. At (rules.obey_give_block s.is_block g x) r f) (give_block_table s.is_block g r) (
        λ t. idle,
        λ n0. (λ t. at_found g (find p r.missing) r f order given refl, λ n1. (λ t. at_worn g (find p r.worn) r f order refl, λ n2. idle)),
      )

  at_sync_view : (v : SyncView) (r : Replica) (f : F) → r.checkpoint ≤ r.applied → At (rules.on_sync_view v) r f
  unfolding rules.on_sync_view naming by
  at_sync_view v r f order =
      let idle = standing quiet r f order standing_quiet in
      by_rows (λ x. At (rules.obey_sync_view s.hash v x) r f) (sync_view_table s.hash v r) (
        λ t. idle,
        λ n0. (
          λ t. move_is v _ s r f (standing_told s.hash v.head) (may_jump_is s.hash v r (and_parts (may_jump s.hash v r) _ t).0).above,
          λ n1. idle,
        ),
      )

  at_primary : (r : Replica) (f : F) → At rules.primary_ticks r f
  at_primary r f =
      let first : Word F = says (told.send_to_all told.commit_message) in
      let again : Word F = by (λ r. when (nat_lt r.commit (head r)) (words.prepare_again (r.commit + 1))) in
      let standing_again_if : Standing again = standing_by _ (λ r. standing_when (nat_lt r.commit (head r)) _ (standing_again (r.commit + 1))) in
      visits (first ⨾ again) words.ask (standing_then first again (standing_says _) standing_again_if) standing_ask (sym (regrouped first again (words.visit ⨾ words.ask) s r f))

  at_backup : (r : Replica) (f : F) → r.checkpoint ≤ r.applied → At rules.backup_ticks r f
  unfolding ◌⨾◌ change by after_all
  at_backup r f order =
      let q : Replica = rules.idler r in
      elim (nat_le 5 q.idle) as (λ b. Goes G s r f ((change rules.idler ⨾ cond b rules.next_view (words.visit ⨾ words.ask)) s r f)) [
        | true ↦ standing (change rules.idler ⨾ rules.next_view) r f order (standing_then _ _ standing_idler standing_next)
        | false ↦ visits (change rules.idler) words.ask standing_idler standing_ask refl
      ]

  at_speaking : (r : Replica) (f : F) → At (change rules.idler ⨾ says (told.send_to_all told.start_view_change) ⨾ words.speak ⨾ words.visit ⨾ words.ask) r f
  at_speaking r f =
      let a : Word F = change rules.idler in
      let b : Word F = says (told.send_to_all told.start_view_change) in
      let d : Word F = words.visit ⨾ words.ask in
      let grouped : (((a ⨾ b) ⨾ words.speak) ⨾ d) s r f ≡ (a ⨾ (b ⨾ (words.speak ⨾ d))) s r f = regrouped (a ⨾ b) words.speak d s r f ∙ regrouped a b (words.speak ⨾ d) s r f in
      visits ((a ⨾ b) ⨾ words.speak) words.ask (standing_then (a ⨾ b) words.speak (standing_then a b standing_idler (standing_says _)) standing_speak) standing_ask (sym grouped)

  at_changing : (r : Replica) (f : F) → r.checkpoint ≤ r.applied → At rules.changing_ticks r f
  unfolding ◌⨾◌ change by after_all
  at_changing r f order =
      let q : Replica = rules.idler r in
      let on : Word F = says (told.send_to_all told.start_view_change) ⨾ words.speak ⨾ words.visit ⨾ words.ask in
      elim (nat_le 10 q.idle) as (λ b. Goes G s r f ((change rules.idler ⨾ cond b rules.next_view on) s r f)) [
        | true ↦ standing (change rules.idler ⨾ rules.next_view) r f order (standing_then _ _ standing_idler standing_next)
        | false ↦ at_speaking r f
      ]

  at_tick : (x : Rule) (r : Replica) (f : F) → r.checkpoint ≤ r.applied → At (rules.obey_tick x) r f
  at_tick TickedPrimary r f order = at_primary r f
  at_tick TickedBackup r f order = at_backup r f order
  at_tick TickedChanging r f order = at_changing r f order
  at_tick _ r f order = standing quiet r f order standing_quiet

  at_request : (q : RequestFields) (r : Replica) (f : F) → r.checkpoint ≤ r.applied → At (rules.on_request q) r f
  unfolding rules.on_request
  at_request q r f order = standing _ r f order (standing_naming _ (λ hash. standing_by _ (λ r. standing_request hash q (first_of (request_table q r)))))

  at_message : (m : Frame) (r : Replica) (f : F) → r.checkpoint ≤ r.applied → IsGiven G m → At (rules.on_message m) r f
  unfolding rules.on_prepare rules.on_prepare_ok rules.on_commit rules.on_start_view_change rules.on_do_view_change rules.on_start_view rules.on_get_view rules.on_get_prepare rules.on_give_prepare rules.on_get_block rules.on_get_sync
  at_message (frame.Request q) r f o given = at_request q r f o
  at_message (frame.Reply a) r f o given = standing quiet r f o standing_quiet
  at_message (frame.Prepare p) r f o given = standing _ r f o (standing_naming _ (λ hash. standing_by _ (λ r. standing_prepare hash p (first_of (prepare_table hash p r)))))
  at_message (frame.PrepareOk a) r f o given = standing _ r f o (standing_naming _ (λ hash. standing_by _ (λ r. standing_ok a (first_of (prepare_ok_table hash a r)))))
  at_message (frame.Commit c) r f o given = standing _ r f o (standing_by _ (λ r. standing_commit c (first_of (commit_table c r))))
  at_message (frame.StartViewChange c) r f o given = standing _ r f o (standing_by _ (λ r. standing_view_change c (first_of (start_view_change_table c r))))
  at_message (frame.DoViewChange d) r f o given = standing _ r f o (standing_by _ (λ r. standing_stated d (first_of (do_view_change_table d r))))
  at_message (frame.StartView v) r f o given = standing _ r f o (standing_naming _ (λ hash. standing_by _ (λ r. standing_start_view hash v (first_of (start_view_table hash v r)))))
  at_message (frame.GetView g) r f o given = standing _ r f o (standing_by _ (λ r. standing_get_view g (first_of (get_view_table g r))))
  at_message (frame.GetPrepare g) r f o given = standing _ r f o (standing_naming _ (λ hash. standing_by _ (λ r. standing_get_prepare g (first_of (get_prepare_table hash g r)))))
  at_message (frame.GivePrepare g) r f o given = standing _ r f o (standing_by _ (λ r. standing_give_prepare g (first_of (give_prepare_table g r))))
  at_message (frame.GetBlock g) r f o given = standing _ r f o (standing_reading _ _ (λ b. standing_by _ (λ r. standing_get_block g b (first_of (get_block_table (is_some b) g r)))))
  at_message (frame.GiveBlock g) r f o given = at_give_block g r f o given
  at_message (frame.GetSync g) r f o given = standing _ r f o (standing_by _ (λ r. standing_get_sync g (first_of (get_sync_table g r))))
  at_message (frame.SyncView v) r f o given = at_sync_view v r f o

  at_event : (e : Event) (r : Replica) (f : F) → r.checkpoint ≤ r.applied → IsGivenEvent G e → At (rules.on_event e) r f
  unfolding rules.on_tick by
  at_event (event.Request q) r f o given = at_request q r f o
  at_event (event.Deliver message) r f o given = at_message message r f o given
  at_event event.Tick r f o given = at_tick (first_of (tick_table r)) r f o

  pub step_goes : (e : Event) (r : Replica) (f : F) → r.checkpoint ≤ r.applied → IsGivenEvent G e → Goes G s r f (rules.react e s r f)
  unfolding rules.react by
  step_goes e r f o given = elim (is_frozen r) as (λ b. Goes G s r f (cond (not b) (rules.on_event e) quiet s r f)) [ true ↦ standing quiet r f o standing_quiet | false ↦ at_event e r f o given ]

-- whatever block is given
abbrev pub Any : List ℕ → Type 0
Any block = ⊤

any_given : (m : Frame) → IsGiven Any m
any_given (frame.GiveBlock g) = tt
any_given _ = tt

any_event : (e : Event) → IsGivenEvent Any e
any_event (event.Deliver m) = any_given m
any_event (event.Request q) = tt
any_event event.Tick = tt

pub step_goes_any : {F : Type 0} (s : Setting F) (e : Event) (r : Replica) (f : F) → r.checkpoint ≤ r.applied → Goes Any s r f (rules.react e s r f)
step_goes_any s e r f o = step_goes Any s e r f o (any_event e)
