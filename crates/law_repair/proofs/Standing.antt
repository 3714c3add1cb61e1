-- Words that visit nothing: what tells the places of a disk stays, unless the checkpoint rises.
use Rattle.std.proofs.Common.{arith, ℕ, zero, suc, ◌+◌, ◌%◌, ◌≡◌, ◌≢◌, ◌<◌, ◌≤◌, ◌∙◌, inl, inr, refl, sym, ap, subst, Bool, true, false, cond, List, [], ◌∷◌, ◌++◌, map, Option, Some, None}
use Rattle.std.specs.Prelude.{All, Contains, not, ◌==◌}
use Rattle.std.specs.Option.{option_and_then}
use Rattle.std.proofs.lemmas.Bool.{cases_lt}
use Rattle.std.proofs.lemmas.Nat.{mod_below}
use Rattle.std.proofs.lemmas.List.Elements.{All-nil, All-cons, All-append, All-head, All-map, All-tail}
use Rattle.vr_state.specs.StateTexts.{texts_of}
use Rattle.vr_state.specs.declared.state.State.{State}
use Rattle.vr_header.specs.declared.header.Header.{Header}
use Rattle.vr_header.specs.declared.part.Part.{Part}
use Rattle.vr_header.specs.declared.part.Part.TheVariants.{Here, Lost, Wanted, Unknown, Nothing}
use Rattle.vr_header.specs.Made.{Whole}
use Rattle.vr_header.specs.Same.{same_header}
use Rattle.vr_state.specs.Kv.{IsKv}
use Rattle.vr_state.specs.Sessions.{IsSessions}
use Rattle.vr_rings.specs.Slots.{IsWhole}
use Rattle.vr_ckpt.specs.declared.name.Name.{Name}
use Rattle.vr_ckpt.specs.declared.table.Payload.{Payload}
use Rattle.vr_ckpt.specs.declared.table.PayloadTable.{PayloadTable}
use Rattle.vr_ckpt.specs.declared.saving.SavedCheckpoint as checkpoint
use Rattle.vr_msg.specs.declared.choice.Choice.{Choice}
use Rattle.vr_msg.specs.declared.choice.Choice.TheVariants.{Ends, WaitsAt, TooFew}
use Rattle.vr_msg.specs.declared.frame.Frame.{Frame}
use Rattle.vr_msg.specs.declared.output.Output.{Output}
use Rattle.vr_msg.specs.declared.statement.Statement.{Statement}
use Rattle.vr_super.specs.Copies.{SuperValue}
use Rattle.vr_rules.specs.Replica.{Replica, forgetting, is_alone, is_here, part_at, with_part}
use Rattle.vr_rules.specs.Steps.{Effect, Write, Rewrite, Save, Mend, Checkpoint, PutBlock, Say, Setting, Step, Word, ◌⨾◌, after_all, by, change, does, each, naming, quiet, reading, says, times, when}
use Rattle.vr_rules.specs.Words as words
use Rattle.vr_rules.specs.Fit.{IsFit, ReadsWell}
use Rattle.vr_rules.proofs.FitWords.{reads_entry, reads_later}
use Rattle.law_4_disks.proofs.States.{IsState, state_kept, text_of_state}
use Rattle.law_repair.specs.Places.{StandsAt, IsInPlaces}
use Rattle.law_repair.proofs.Laying.{SavesInPlace}

-- ---- scripts

-- effects that write no block
abbrev pub SparesGrid : Effect → Type 0
SparesGrid (Checkpoint cluster texts op old) = ⊥
SparesGrid (PutBlock name block) = ⊥
SparesGrid _ = Unit {0}

-- from one value of the superblock to another: what is mended is the last one that was saved
abbrev pub Chain : SuperValue → List Effect → SuperValue → Type 0
Chain v [] u = v ≡ u
Chain v (Write again e ∷ es) u = Chain v es u
Chain v (Rewrite h ∷ es) u = Chain v es u
Chain v (Save old new ∷ es) u = Chain new es u
Chain v (Mend x ∷ es) u = (x ≡ v) × Chain v es u
Chain v (Checkpoint cluster texts op old ∷ es) u = Chain v es u
Chain v (PutBlock name block ∷ es) u = Chain v es u
Chain v (Say output ∷ es) u = Chain v es u

pub chain_both : (v u w : SuperValue) (xs ys : List Effect) → Chain v xs u → Chain u ys w → Chain v (xs ++ ys) w
chain_both v u w [] ys a b = subst (λ x. Chain x ys w) (sym a) b
chain_both v u w (Write again e ∷ es) ys a b = chain_both v u w es ys a b
chain_both v u w (Rewrite h ∷ es) ys a b = chain_both v u w es ys a b
chain_both v u w (Save old new ∷ es) ys a b = chain_both new u w es ys a b
chain_both v u w (Mend x ∷ es) ys a b = (a.0, chain_both v u w es ys a.1 b)
chain_both v u w (Checkpoint cluster texts op old ∷ es) ys a b = chain_both v u w es ys a b
chain_both v u w (PutBlock name block ∷ es) ys a b = chain_both v u w es ys a b
chain_both v u w (Say output ∷ es) ys a b = chain_both v u w es ys a b

pub chain_said : (v : SuperValue) (os : List Output) → Chain v (map Say os) v
chain_said v [] = refl
chain_said v (o ∷ os) = chain_said v os

pub All-left : {X : Type 0} (P : X → Type 0) (xs ys : List X) → All P (xs ++ ys) → All P xs
All-left P [] ys h = All-nil P
All-left P (x ∷ xs) ys h = All-cons P x xs (All-head P x (xs ++ ys) h) (All-left P xs ys (All-tail P x (xs ++ ys) h))

pub All-right : {X : Type 0} (P : X → Type 0) (xs ys : List X) → All P (xs ++ ys) → All P ys
All-right P [] ys h = h
All-right P (x ∷ xs) ys h = All-right P xs ys (All-tail P x (xs ++ ys) h)

-- ---- replicas

abbrev blocks : ℕ → Name → PayloadTable → List Name
blocks checkpoint root table = cond (checkpoint == 0) [] (root ∷ (map (λ (p : Payload). p.name) table.sessions ++ map (λ (p : Payload). p.name) table.keys))

pub same_blocks : (r q : Replica) → q.checkpoint ≡ r.checkpoint → q.root ≡ r.root → q.table ≡ r.table → words.blocks_of q ≡ words.blocks_of r
same_blocks r q c n t = ap (λ k. blocks k q.root q.table) c ∙ (ap (λ m. blocks r.checkpoint m q.table) n ∙ ap (blocks r.checkpoint r.root) t)

-- the blocks of the checkpoint are the same, and those of them that have gone bad
pub record Alike (r q : Replica) : Type 0 where
  pub root : q.root ≡ r.root
  pub table : q.table ≡ r.table
  pub worn : q.worn ≡ r.worn

pub alike_same : (r : Replica) → Alike r r
alike_same r = record { root = refl; table = refl; worn = refl }

pub alike_more : (a b c : Replica) → Alike a b → Alike b c → Alike a c
alike_more a b c x y = record { root = y.root ∙ x.root; table = y.table ∙ x.table; worn = y.worn ∙ x.worn }

pub alike_blocks : (r q : Replica) → q.checkpoint ≡ r.checkpoint → Alike r q → words.blocks_of q ≡ words.blocks_of r
alike_blocks r q c a = same_blocks r q c a.root a.table

-- what a step leaves of this
pub record Stands (r : Replica) (x : Step) : Type 0 where
  pub order : x.replica.checkpoint ≤ x.replica.applied
  pub rises : r.checkpoint ≤ x.replica.checkpoint
  pub missing : x.replica.missing ≡ r.missing
  pub cursor : x.replica.cursor ≡ r.cursor
  pub chain : Chain r.saved x.script x.replica.saved
  pub alike : x.replica.checkpoint ≡ r.checkpoint → Alike r x.replica
  pub fresh : r.checkpoint < x.replica.checkpoint → x.replica.worn ≡ []
  pub spares : x.replica.checkpoint ≡ r.checkpoint → All SparesGrid x.script

abbrev pub step_of : Replica → List Effect → Step
step_of q es = record { replica = q; script = es }

-- one step after the other
pub both_stand : (r : Replica) (x y : Step) → Stands r x → Stands x.replica y → Stands r (step_of y.replica (x.script ++ y.script))
both_stand r x y a b =
    let up = a.rises in
    let on = b.rises in
    let first : y.replica.checkpoint ≡ r.checkpoint → x.replica.checkpoint ≡ r.checkpoint = λ e. omega (arith, up, on, e) in
    let last : y.replica.checkpoint ≡ r.checkpoint → y.replica.checkpoint ≡ x.replica.checkpoint = λ e. omega (arith, up, on, e) in
    record {
      order = b.order;
      rises = omega (arith, up, on);
      missing = b.missing ∙ a.missing;
      cursor = b.cursor ∙ a.cursor;
      chain = chain_both r.saved x.replica.saved y.replica.saved x.script y.script a.chain b.chain;
      alike = λ e. alike_more r x.replica y.replica (a.alike (first e)) (b.alike (last e));
      fresh = λ more. elim (cases_lt x.replica.checkpoint y.replica.checkpoint) [
        | inl later ↦ b.fresh later
        | inr same ↦ (b.alike (omega (arith, on, same))).worn ∙ a.fresh (omega (arith, on, same, more))
      ];
      spares = λ e. All-append SparesGrid x.script y.script (a.spares (first e)) (b.spares (last e));
    }

-- the fields that this is told by
pub record Aspect : Type 0 where
  pub checkpoint : ℕ
  pub applied : ℕ
  pub missing : List Name
  pub cursor : ℕ
  pub saved : SuperValue
  pub root : Name
  pub table : PayloadTable
  pub worn : List Name
  pub state : State

abbrev pub aspect : Replica → Aspect
aspect r = record {
  checkpoint = r.checkpoint;
  applied = r.applied;
  missing = r.missing;
  cursor = r.cursor;
  saved = r.saved;
  root = r.root;
  table = r.table;
  worn = r.worn;
  state = r.state;
}

pub aspect_stands : (r q : Replica) (es : List Effect) → aspect q ≡ aspect r → r.checkpoint ≤ r.applied → Chain r.saved es r.saved → All SparesGrid es → Stands r (step_of q es)
aspect_stands r q es e order chain spares =
    let at : q.checkpoint ≡ r.checkpoint = ap (λ (a : Aspect). a.checkpoint) e in
    let done : q.applied ≡ r.applied = ap (λ (a : Aspect). a.applied) e in
    record {
      order = omega (arith, order, at, done);
      rises = omega (arith, at);
      missing = ap (λ (a : Aspect). a.missing) e;
      cursor = ap (λ (a : Aspect). a.cursor) e;
      chain = subst (Chain r.saved es) (sym (ap (λ (a : Aspect). a.saved) e)) chain;
      alike = λ i. record { root = ap (λ (a : Aspect). a.root) e; table = ap (λ (a : Aspect). a.table) e; worn = ap (λ (a : Aspect). a.worn) e };
      fresh = λ more. absurd (omega (arith, at, more));
      spares = λ i. spares;
    }

-- an entry is applied
applied_stands : (e : Whole) (r : Replica) → r.checkpoint ≤ r.applied → Stands r (step_of (words.applied e r) [])
applied_stands e r o = record {
  order = omega (arith, o);
  rises = omega arith;
  missing = refl;
  cursor = refl;
  chain = refl;
  alike = λ i. record { root = refl; table = refl; worn = refl };
  fresh = λ more. absurd (omega (arith, more));
  spares = λ i. All-nil SparesGrid;
}

-- ---- what a checkpoint is made of: the state, and the table before

pub record Stock (state : State) (old : PayloadTable) : Type 0 where
  pub sessions : IsSessions state.sessions
  pub machine : IsKv state.machine
  pub table : IsInPlaces old

abbrev pub IsStocked : Replica → Type 0
IsStocked r = Stock r.state r.table

-- and where its root stands, once no block is missing
abbrev pub Rooted : List Name → ℕ → Name → Type 0
Rooted missing checkpoint root = missing ≡ [] → 0 < checkpoint → StandsAt 0 root

abbrev pub IsRooted : Replica → Type 0
IsRooted r = Rooted r.missing r.checkpoint r.root

stock_alike : (r q : Replica) → aspect q ≡ aspect r → IsStocked r → IsStocked q
stock_alike r q e k = subst (λ (a : Aspect). Stock a.state a.table) (sym e) k

root_alike : (r q : Replica) → aspect q ≡ aspect r → IsRooted r → IsRooted q
root_alike r q e k = subst (λ (a : Aspect). Rooted a.missing a.checkpoint a.root) (sym e) k

-- what is known of a disk, and of what a step writes to it
pub record Fitting {F : Type 0} (s : Setting F) (f : F) (x : Step) : Type 0 where
  pub saves : SavesInPlace s
  pub reads : ReadsWell s f
  pub fits : All IsFit x.script

some_entry : (h : Header) (o : Option Whole) (e : Whole) → option_and_then (λ (e : Whole). cond (same_header e.header h) (Some e) None) o ≡ Some e → o ≡ Some e
some_entry h None e q = absurd cc
some_entry h (Some x) e q =
    elim (same_header x.header h) as (λ t. cond t (Some x) None ≡ Some e → Some x ≡ Some e) [ true ↦ λ q. q | false ↦ λ q. absurd cc ] q

whole_entry : {F : Type 0} (s : Setting F) (f : F) (h : Header) (e : Whole) → ReadsWell s f → words.entry_of h s f ≡ Some e → IsWhole e
whole_entry s f h e reads q =
    let low = mod_below h.op 64 (omega arith) in
    reads_entry s f (h.op % 64) e reads low (some_entry h (s.entry f (h.op % 64)) e q)

-- ---- words

-- with what is known of an entry that it is of
pub record StandingIf {F : Type 0} (known : Type 0) (w : Word F) : Type 0 where
  pub every : (s : Setting F) (r : Replica) (f : F) → r.checkpoint ≤ r.applied → Stands r (w s r f)
  pub stocks : known → (s : Setting F) (r : Replica) (f : F) → Fitting s f (w s r f) → IsStocked r → IsStocked (w s r f).replica
  pub roots : (s : Setting F) (r : Replica) (f : F) → SavesInPlace s → IsRooted r → IsRooted (w s r f).replica

abbrev pub Standing : {F : Type 0} → Word F → Type 0
Standing w = StandingIf (Unit {0}) w

module _ {F : Type 0} where
  pub standing_then : {known : Type 0} (v w : Word F) → StandingIf known v → StandingIf known w → StandingIf known (v ⨾ w)
  unfolding ◌⨾◌
  standing_then v w x y = record {
    every = λ s r f o.
        let a = v s r f in
        let one = x.every s r f o in
        both_stand r a (w s a.replica (after_all s f a.script)) one (y.every s a.replica (after_all s f a.script) one.order);
    stocks = λ known s r f fit k.
        let a = v s r f in
        let d : F = after_all s f a.script in
        let b = w s a.replica d in
        let left = All-left IsFit a.script b.script fit.fits in
        let first : Fitting s f a = record { saves = fit.saves; reads = fit.reads; fits = left } in
        let last : Fitting s d b = record { saves = fit.saves; reads = reads_later s f a.script fit.reads left; fits = All-right IsFit a.script b.script fit.fits } in
        y.stocks known s a.replica d last (x.stocks known s r f first k);
    roots = λ s r f p k. let a = v s r f in y.roots s a.replica (after_all s f a.script) p (x.roots s r f p k);
  }

  pub standing_quiet : Standing {F = F} quiet
  unfolding quiet
  standing_quiet = record {
    every = λ s r f o. aspect_stands r r [] refl o refl (All-nil SparesGrid);
    stocks = λ known s r f fit k. k;
    roots = λ s r f p k. k;
  }

  -- a change of other fields
  pub standing_change : (g : Replica → Replica) → ((r : Replica) → aspect (g r) ≡ aspect r) → Standing {F = F} (change g)
  unfolding change
  standing_change g h = record {
    every = λ s r f o. aspect_stands r (g r) [] (h r) o refl (All-nil SparesGrid);
    stocks = λ known s r f fit k. stock_alike r (g r) (h r) k;
    roots = λ s r f p k. root_alike r (g r) (h r) k;
  }

  pub standing_does : (e : Replica → Effect) → ((r : Replica) → SparesGrid (e r) × Chain r.saved (e r ∷ []) r.saved) → Standing {F = F} (does e)
  unfolding does
  standing_does e h = record {
    every = λ s r f o. aspect_stands r r (e r ∷ []) refl o (h r).1 (All-cons SparesGrid (e r) [] (h r).0 (All-nil SparesGrid));
    stocks = λ known s r f fit k. k;
    roots = λ s r f p k. k;
  }

  pub standing_says : (os : Replica → List Output) → Standing {F = F} (says os)
  unfolding says
  standing_says os = record {
    every = λ s r f o. aspect_stands r r (map Say (os r)) refl o (chain_said r.saved (os r)) (All-map SparesGrid Say (os r) (λ k d l. tt));
    stocks = λ known s r f fit k. k;
    roots = λ s r f p k. k;
  }

  pub standing_by : (w : Replica → Word F) → ((r : Replica) → Standing (w r)) → Standing (by w)
  unfolding by
  standing_by w h = record {
    every = λ s r f o. (h r).every s r f o;
    stocks = λ known s r f fit k. (h r).stocks known s r f (record { saves = fit.saves; reads = fit.reads; fits = fit.fits }) k;
    roots = λ s r f p k. (h r).roots s r f p k;
  }

  pub standing_naming : (w : (List ℕ → List ℕ) → Word F) → ((hash : List ℕ → List ℕ) → Standing (w hash)) → Standing (naming w)
  unfolding naming
  standing_naming w h = record {
    every = λ s r f o. (h s.hash).every s r f o;
    stocks = λ known s r f fit k. (h s.hash).stocks known s r f (record { saves = fit.saves; reads = fit.reads; fits = fit.fits }) k;
    roots = λ s r f p k. (h s.hash).roots s r f p k;
  }

  pub standing_reading : {X : Type 0} (g : Setting F → F → X) (w : X → Word F) → ((x : X) → Standing (w x)) → Standing (reading g w)
  unfolding reading
  standing_reading g w h = record {
    every = λ s r f o. (h (g s f)).every s r f o;
    stocks = λ known s r f fit k. (h (g s f)).stocks known s r f (record { saves = fit.saves; reads = fit.reads; fits = fit.fits }) k;
    roots = λ s r f p k. (h (g s f)).roots s r f p k;
  }

  pub standing_of : {known : Type 0} (w : Word F) → Standing w → StandingIf known w
  standing_of w h = record { every = h.every; stocks = λ known. h.stocks tt; roots = h.roots }

  pub standing_if : (b : Bool) (v w : Word F) → Standing v → Standing w → Standing (cond b v w)
  standing_if true v w h k = h
  standing_if false v w h k = k

  pub standing_when : (b : Bool) (w : Word F) → Standing w → Standing (when b w)
  standing_when b w h = standing_if b w quiet h standing_quiet

  standing_times : (n : ℕ) (w : Word F) → Standing w → Standing (times n w)
  unfolding times
  standing_times zero w h = standing_quiet
  standing_times (suc n) w h = standing_then w (times n w) h (standing_times n w h)

  pub standing_each : {X : Type 0} (w : X → Word F) (xs : List X) → ((x : X) → Standing (w x)) → Standing (each w xs)
  unfolding each
  standing_each w [] h = standing_quiet
  standing_each w (x ∷ xs) h = standing_then (w x) (each w xs) (h x) (standing_each w xs h)

  -- ---- what is read

  standing_lost : (h : Header) → Standing {F = F} (change (words.lost h))
  unfolding with_part
  standing_lost h = standing_change (words.lost h) (λ r. refl)

  module _ (h : Header) (w : Whole → Word F) (all : (e : Whole) → StandingIf (IsWhole e) (w e)) where
    or_every : (o : Option Whole) (s : Setting F) (r : Replica) (f : F) → r.checkpoint ≤ r.applied → Stands r (words.or_lost h w o s r f)
    or_every None s r f o = (standing_lost h).every s r f o
    or_every (Some e) s r f o = (all e).every s r f o

    or_stocks : (o : Option Whole) (s : Setting F) (r : Replica) (f : F) → words.entry_of h s f ≡ o → Fitting s f (words.or_lost h w o s r f) → IsStocked r → IsStocked (words.or_lost h w o s r f).replica
    or_stocks None s r f e fit k = (standing_lost h).stocks tt s r f fit k
    or_stocks (Some x) s r f e fit k = (all x).stocks (whole_entry s f h x fit.reads e) s r f fit k

    or_roots : (o : Option Whole) (s : Setting F) (r : Replica) (f : F) → SavesInPlace s → IsRooted r → IsRooted (words.or_lost h w o s r f).replica
    or_roots None s r f p k = (standing_lost h).roots s r f p k
    or_roots (Some x) s r f p k = (all x).roots s r f p k

    standing_here : Standing (reading (words.entry_of h) (words.or_lost h w))
    unfolding reading
    standing_here = record {
      every = λ s r f o. or_every (words.entry_of h s f) s r f o;
      stocks = λ known s r f fit k. or_stocks (words.entry_of h s f) s r f refl (record { saves = fit.saves; reads = fit.reads; fits = fit.fits }) k;
      roots = λ s r f p k. or_roots (words.entry_of h s f) s r f p k;
    }

  standing_part : (w : Whole → Word F) (p : Part) → ((e : Whole) → StandingIf (IsWhole e) (w e)) → Standing (words.with_entry w p)
  standing_part w (Here h) all = standing_here h w all
  standing_part w (Lost h) all = standing_quiet
  standing_part w (Wanted h) all = standing_quiet
  standing_part w Unknown all = standing_quiet
  standing_part w Nothing all = standing_quiet

  pub standing_entry : (op : ℕ) (w : Whole → Word F) → ((e : Whole) → StandingIf (IsWhole e) (w e)) → Standing (words.with_entry_at op w)
  unfolding words.with_entry_at
  standing_entry op w all = standing_by _ (λ r. standing_part w (part_at r op) all)

  -- ---- what is written

  pub standing_rested : Standing {F = F} (change words.rested)
  standing_rested = standing_change words.rested (λ r. refl)

  pub standing_save : Standing {F = F} words.save
  unfolding words.save ◌⨾◌ does change
  standing_save = record {
    every = λ s r f o. record {
      order = o;
      rises = omega arith;
      missing = refl;
      cursor = refl;
      chain = refl;
      alike = λ i. record { root = refl; table = refl; worn = refl };
      fresh = λ more. absurd (omega (arith, more));
      spares = λ i. All-cons SparesGrid (Save r.saved (words.value_of r)) [] tt (All-nil SparesGrid);
    };
    stocks = λ known s r f fit k. k;
    roots = λ s r f p k. k;
  }

  pub standing_enter : (view : ℕ) → Standing {F = F} (words.enter view)
  unfolding words.enter words.entered
  standing_enter view =
      standing_if _ _ _ standing_rested (standing_then _ _ (standing_change (words.entered view) (λ r. refl)) (standing_then _ _ standing_save (standing_says _)))

  pub standing_write : (e : Whole) → Standing {F = F} (words.write e)
  unfolding words.write forgetting with_part
  standing_write e = standing_then _ _ (standing_does (words.writes e) (λ r. (tt, refl))) (standing_change (words.stored e) (λ r. refl))

  pub standing_accept : (e : Whole) → Standing {F = F} (words.accept e)
  unfolding words.accept
  standing_accept e = standing_by _ (λ r. standing_when (not (is_here (part_at r e.header.op))) (words.write e) (standing_write e))

  -- ---- a checkpoint raises its number

  -- after an entry that was applied
  raised : (c : checkpoint.SavedCheckpoint) (e : Whole) (s : Setting F) (r : Replica) (f : F) → r.checkpoint ≤ r.applied
      → Stands r ((does words.checkpoints ⨾ change (words.with_checkpoint c) ⨾ words.save) s (words.applied e r) f)
  unfolding ◌⨾◌ does change words.save words.with_checkpoint
  raised c e s r f o =
      record {
        order = omega arith;
        rises = omega (arith, o);
        missing = refl;
        cursor = refl;
        chain = refl;
        alike = λ i. absurd (let same : r.applied + 1 ≡ r.checkpoint = i in omega (arith, o, same));
        fresh = λ more. refl;
        spares = λ i. absurd (let same : r.applied + 1 ≡ r.checkpoint = i in omega (arith, o, same));
      }

  -- what a checkpoint leaves
  abbrev making : Word F
  making = by (λ r. reading (words.checkpoint_of r) (λ c. does words.checkpoints ⨾ change (words.with_checkpoint c) ⨾ words.save))

  made_stocks : (s : Setting F) (r : Replica) (f : F) → SavesInPlace s → IsStocked r → IsStocked (making s r f).replica
  unfolding ◌⨾◌ does change by reading words.save words.with_checkpoint
  made_stocks s r f p k =
      let is : IsState r.state = record { sessions = k.sessions; machine = k.machine } in
      let t = text_of_state r.state is in
      record {
        sessions = k.sessions;
        machine = k.machine;
        table = p.table r.cluster (texts_of r.state) r.applied r.table (record { sessions = t.few_sessions; keys = t.few_keys }) k.table;
      }

  made_roots : (s : Setting F) (r : Replica) (f : F) → SavesInPlace s → IsRooted (making s r f).replica
  unfolding ◌⨾◌ does change by reading words.save words.with_checkpoint
  made_roots s r f p = λ none some. p.root r.cluster (texts_of r.state) r.applied r.table

  standing_applied : (e : Whole) → StandingIf {F = F} (IsWhole e) (change (words.applied e) ⨾ by (λ r. when (words.is_checkpoint r.applied) words.make_checkpoint))
  unfolding ◌⨾◌ change by after_all words.make_checkpoint reading quiet
  standing_applied e = record {
    every = λ s r f o.
        let q : Replica = words.applied e r in
        elim (words.is_checkpoint q.applied) as (λ b. Stands r (cond b making quiet s q f)) [
          | true ↦ raised (words.checkpoint_of q s f) e s r f o
          | false ↦ applied_stands e r o
        ];
    stocks = λ whole s r f fit k.
        let q : Replica = words.applied e r in
        let new = state_kept r.state e (record { sessions = k.sessions; machine = k.machine }) whole in
        let stock : IsStocked q = record { sessions = new.sessions; machine = new.machine; table = k.table } in
        elim (words.is_checkpoint q.applied) as (λ b. IsStocked (cond b making quiet s q f).replica) [ true ↦ made_stocks s q f fit.saves stock | false ↦ stock ];
    roots = λ s r f p k.
        let q : Replica = words.applied e r in
        elim (words.is_checkpoint q.applied) as (λ b. IsRooted (cond b making quiet s q f).replica) [ true ↦ made_roots s q f p | false ↦ k ];
  }

  standing_apply_entry : (e : Whole) → StandingIf {F = F} (IsWhole e) (words.apply_entry e)
  unfolding words.apply_entry
  standing_apply_entry e = standing_then _ _ (standing_of _ (standing_says _)) (standing_then _ _ (standing_of _ (standing_says _)) (standing_applied e))

  pub standing_apply : Standing {F = F} words.apply
  unfolding words.apply words.apply_next
  standing_apply = standing_by _ (λ r. standing_times _ words.apply_next (standing_by _ (λ r. standing_when _ _ (standing_entry _ words.apply_entry standing_apply_entry))))

  pub standing_advance : Standing {F = F} words.advance
  unfolding words.advance words.advanced
  standing_advance = standing_then _ _ (standing_change words.advanced (λ r. refl)) standing_apply

  pub standing_learn : (c : ℕ) → Standing {F = F} (words.learn c)
  unfolding words.learn
  standing_learn c = standing_then _ _ (standing_change (words.learned c) (λ r. refl)) standing_apply

  pub standing_take : (l : words.Log) → Standing {F = F} (words.take l)
  unfolding words.take words.taken forgetting
  standing_take l = standing_then _ _ (standing_change (words.taken l) (λ r. refl)) standing_save

  pub standing_again : (op : ℕ) → Standing {F = F} (words.prepare_again op)
  unfolding words.prepare_again
  standing_again op = standing_entry op _ (λ e. standing_of _ (standing_says _))

  standing_begin : (ss : List Statement) (l : words.Log) → Standing {F = F} (words.begin_view ss l)
  unfolding words.begin_view
  standing_begin ss l =
      standing_then _ _ (standing_says (words.choose_line ss l))
      (standing_then _ _ (standing_take l) (standing_then _ _ (standing_says _) (standing_then _ _ (standing_by _ (λ r. standing_each words.prepare_again _ standing_again)) (standing_by _ (λ r. standing_if (is_alone r) words.advance words.apply standing_advance standing_apply)))))

  standing_choice : (ss : List Statement) (c : Choice) → Standing {F = F} (words.obey_choice ss c)
  unfolding words.try_log
  standing_choice ss TooFew = standing_quiet
  standing_choice ss (WaitsAt op) = standing_says _
  standing_choice ss (Ends headers) =
      standing_by _ (λ r. standing_naming _ (λ hash. standing_by _ (λ q. standing_if _ _ _ (standing_begin ss (words.chosen_log r ss headers)) (standing_says _))))

  pub standing_try : Standing {F = F} words.try
  unfolding words.try
  standing_try = standing_by _ (λ r. standing_when _ _ (standing_choice (words.stated r) (words.decided r)))

  pub standing_speak : Standing {F = F} words.speak
  unfolding words.speak
  standing_speak = standing_by _ (λ r. standing_when _ _ (standing_if _ _ _ standing_try (standing_says _)))

  pub standing_resend : (e : Whole) → Standing {F = F} (words.resend e)
  unfolding words.resend
  standing_resend e = standing_naming _ (λ hash. standing_by _ (λ r. standing_when _ _ (standing_if _ _ _ (standing_says _) (standing_says _))))

  standing_peer : (message : Replica → Frame) → Standing {F = F} (words.ask_peer message)
  unfolding words.ask_peer
  standing_peer message = standing_then _ _ (standing_says _) (standing_change words.turned (λ r. refl))

  standing_ask_for : (names : List Name) (absent : Option Header) (worn : List Name) → Standing {F = F} (words.ask_for names absent worn)
  standing_ask_for (name ∷ names) absent worn = standing_peer _
  standing_ask_for [] (Some h) worn = standing_naming _ (λ hash. standing_peer _)
  standing_ask_for [] None (name ∷ names) = standing_peer _
  standing_ask_for [] None [] = standing_quiet

  pub standing_ask : Standing {F = F} words.ask
  unfolding words.ask
  standing_ask = standing_by _ (λ r. standing_when (not (is_alone r)) _ (standing_ask_for r.missing (words.least_absent r) r.worn))

-- ---- the blocks that have gone bad are the checkpoint's, and while one is missing none is known as bad

pub record IsWornWell (r : Replica) : Type 0 where
  pub worn : All (Contains (words.blocks_of r)) r.worn
  pub none : r.missing ≢ [] → r.worn ≡ []

pub worn_none : (r : Replica) → r.worn ≡ [] → IsWornWell r
worn_none r e = record { worn = subst (All (Contains (words.blocks_of r))) (sym e) (All-nil (Contains (words.blocks_of r))); none = λ lacks. e }

pub worn_same : (r q : Replica) → q.missing ≡ r.missing → words.blocks_of q ≡ words.blocks_of r → q.worn ≡ r.worn → IsWornWell r → IsWornWell q
worn_same r q m b w h = record {
  worn = subst (λ ws. All (Contains (words.blocks_of q)) ws) (sym w) (subst (λ bs. All (Contains bs) r.worn) (sym b) h.worn);
  none = λ lacks. w ∙ h.none (λ e. lacks (m ∙ e));
}

pub worn_stands : (r : Replica) (x : Step) → Stands r x → IsWornWell r → IsWornWell x.replica
worn_stands r x h k =
    let up = h.rises in
    elim (cases_lt r.checkpoint x.replica.checkpoint) [
      | inl more ↦ worn_none x.replica (h.fresh more)
      | inr on ↦
          let same : x.replica.checkpoint ≡ r.checkpoint = omega (arith, up, on) in
          worn_same r x.replica h.missing (alike_blocks r x.replica same (h.alike same)) (h.alike same).worn k
    ]
