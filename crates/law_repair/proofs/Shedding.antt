-- Words that write no prepare, and after which no entry is here that wasn't before.
use Rattle.std.proofs.Common.{arith, ℕ, zero, suc, ◌+◌, ◌-◌, ◌≡◌, ◌∙◌, inl, inr, refl, sym, ap, Bool, true, false, not, cond, List, [], ◌∷◌, ◌++◌, map, length, get_or, replicate, max, Option, Some, None}
use Rattle.std.specs.Prelude.{All, nat_le, nat_lt}
use Rattle.std.specs.List.{range_with_len}
use Rattle.std.specs.Option.{option_map_or}
use Rattle.std.proofs.lemmas.Bool.{cases_lt, le-ltb, lt-ltb}
use Rattle.std.proofs.lemmas.List.{get_or_past}
use Rattle.std.proofs.lemmas.List.FromFn.{length-map-range_with_len, get_or-map-range_with_len}
use Rattle.std.proofs.lemmas.List.Elements.{All-nil, All-cons, All-append, All-map}
use Rattle.vr_base.specs.Replicas.{no_replicas}
use Rattle.vr_header.specs.declared.header.Header.{Header}
use Rattle.vr_header.specs.declared.part.Part.{Part}
use Rattle.vr_header.specs.declared.part.Part.TheVariants.{Here, Lost, Wanted, Unknown, Nothing}
use Rattle.vr_header.specs.Made.{Whole}
use Rattle.vr_header.specs.Same.{same_header}
use Rattle.vr_ckpt.specs.declared.name.Name.{Name}
use Rattle.vr_ckpt.specs.declared.found.Load.{Load}
use Rattle.vr_ckpt.specs.declared.found.Load.TheVariants.{Loaded, Missing}
use Rattle.vr_ckpt.specs.declared.table.PayloadTable.{PayloadTable}
use Rattle.vr_state.specs.declared.state.State.{State}
use Rattle.vr_state.specs.StateTexts.{state_decoded}
use Rattle.vr_ckpt.specs.declared.saving.SavedCheckpoint as checkpoint
use Rattle.vr_msg.specs.declared.choice.Choice.{Choice}
use Rattle.vr_msg.specs.declared.choice.Choice.TheVariants.{Ends, WaitsAt, TooFew}
use Rattle.vr_msg.specs.declared.frame.Frame.{Frame}
use Rattle.vr_msg.specs.declared.frame.SyncView.{SyncView}
use Rattle.vr_msg.specs.declared.output.Output.{Output}
use Rattle.vr_msg.specs.declared.statement.Statement.{Statement}
use Rattle.vr_rules.specs.Replica.{Replica, forgetting, is_alone, part_at, version, with_part}
use Rattle.vr_rules.specs.Steps.{Effect, Write, Say, Setting, Word, ◌⨾◌, after_all, by, change, does, each, naming, quiet, reading, says, times, when}
use Rattle.vr_rules.specs.Words as words
use Rattle.vr_rules.specs.Words.{usable}
use Rattle.vr_rules.proofs.Heads.{forgetting_at, forgetting_before, gone}
use Rattle.vr_rules.proofs.Jumping.{landed}
use Rattle.law_repair.proofs.Settling.{lost_before}
use Rattle.law_repair.proofs.Upkeep.{loads_parts}

-- effects that write no prepare
abbrev pub Spares : Effect → Type 0
Spares (Write again e) = ⊥
Spares _ = Unit {0}

-- each entry that is here was here before; no place was visited
pub record Shed (r q : Replica) : Type 0 where
  pub here : (k : ℕ) (h : Header) → part_at q k ≡ Here h → part_at r k ≡ Here h
  pub cursor : q.cursor ≡ r.cursor

pub shed_same : (r : Replica) → Shed r r
shed_same r = record { here = λ k h e. e; cursor = refl }

pub shed_more : (a b c : Replica) → Shed a b → Shed b c → Shed a c
shed_more a b c x y = record { here = λ k h e. x.here k h (y.here k h e); cursor = y.cursor ∙ x.cursor }

-- ---- Parts

pub forgotten : (q : Replica) (k : ℕ) (h : Header) → part_at (forgetting q) k ≡ Here h → part_at q k ≡ Here h
forgotten q k h e = elim (cases_lt k (q.first + gone q)) [
  | inl before ↦ let none : Nothing ≡ Here h = sym (forgetting_before q k before) ∙ e in absurd cc
  | inr from ↦ sym (forgetting_at q k from) ∙ e
]

-- of Parts that are made by their ops
ranged : (g : ℕ → Part) (a n k : ℕ) (h : Header) → cond (nat_lt k a) Nothing (get_or (map g (range_with_len a n)) (k - a) Nothing) ≡ Here h → g k ≡ Here h
ranged g a n k h e = elim (cases_lt k a) [
  | inl before ↦ let none : Nothing ≡ Here h = rw (lt-ltb k a before) at e in absurd cc
  | inr from ↦
      let there : get_or (map g (range_with_len a n)) (k - a) Nothing ≡ Here h = rw (le-ltb k a from) at e in
      elim (cases_lt (k - a) n) [
        | inl within ↦ sym (get_or-map-range_with_len g a n (k - a) k Nothing (omega arith) (omega arith)) ∙ there
        | inr past ↦
            let none : Nothing ≡ Here h = sym (get_or_past (map g (range_with_len a n)) (k - a) Nothing (omega (arith, length-map-range_with_len g a n, past))) ∙ there in
            absurd cc
      ]
]

none_there : (n i : ℕ) → get_or (replicate n Nothing) i Nothing ≡ Nothing
none_there zero i = refl
none_there (suc n) zero = refl
none_there (suc n) (suc i) = none_there n i

padded : (ps : List Part) (n i : ℕ) → get_or (ps ++ replicate n Nothing) i Nothing ≡ get_or ps i Nothing
padded [] n i = none_there n i
padded (p ∷ ps) n zero = refl
padded (p ∷ ps) n (suc i) = padded ps n i

-- a Part that a log has replaced
same_here : (b : Bool) (x e h : Header) → cond b (Here x) (Wanted e) ≡ Here h → Here x ≡ Here h
same_here true x e h t = t
same_here false x e h t = absurd cc

same_lost : (b : Bool) (x e h : Header) → cond b (Lost x) (Wanted e) ≡ Here h → ⊥
same_lost true x e h t = absurd cc
same_lost false x e h t = absurd cc

replaced : (e : Header) (p : Part) (h : Header) → words.replaced_by e p ≡ Here h → p ≡ Here h
replaced e (Here x) h t = same_here (same_header x e) x e h t
replaced e (Lost x) h t = absurd (same_lost (same_header x e) x e h t)
replaced e (Wanted x) h t = absurd cc
replaced e Unknown h t = absurd cc
replaced e Nothing h t = absurd cc

or_same : (p : Part) (o : Option Header) (h : Header) → option_map_or (λ e. words.replaced_by e p) o p ≡ Here h → p ≡ Here h
or_same p None h t = t
or_same p (Some e) h t = replaced e p h t

or_lost : (o : Option Header) (h : Header) → option_map_or Lost o Nothing ≡ Here h → ⊥
or_lost None h t = absurd cc
or_lost (Some e) h t = absurd cc

or_nothing : (b : Bool) (p : Part) (h : Header) → cond b Nothing p ≡ Here h → p ≡ Here h
or_nothing true p h t = absurd cc
or_nothing false p h t = t

or_none : (b : Bool) (p : Part) (h : Header) → cond b p Nothing ≡ Here h → p ≡ Here h
or_none true p h t = t
or_none false p h t = absurd cc

taken_here : (l : words.Log) (r : Replica) (k : ℕ) (h : Header) → words.taken_part l r k ≡ Here h → part_at r k ≡ Here h
unfolding words.taken_part
taken_here l r k h =
    let p : Part = part_at r k in
    elim (nat_le k r.checkpoint) as (λ b. cond b p (cond (nat_le k l.head) (option_map_or (λ e. words.replaced_by e p) (words.log_header l k) p) (words.above_end l r p)) ≡ Here h → p ≡ Here h) [
      | true ↦ λ t. t
      | false ↦ elim (nat_le k l.head) as (λ b. cond b (option_map_or (λ e. words.replaced_by e p) (words.log_header l k) p) (words.above_end l r p) ≡ Here h → p ≡ Here h) [
        | true ↦ λ t. or_same p (words.log_header l k) h t
        | false ↦ λ t. or_nothing (nat_lt r.log_view l.view) p h t
      ]
    ]

jumped_here : (v : SyncView) (r : Replica) (k : ℕ) (h : Header) → words.jumped_part v r k ≡ Here h → part_at r k ≡ Here h
unfolding words.jumped_part
jumped_here v r k h =
    let p : Part = part_at r k in
    let o : Option Header = words.log_header (words.sync_log v) k in
    elim (nat_le k v.body.lo) as (λ b. cond b (cond (nat_le k r.commit) p Nothing) (cond (nat_le k v.checkpoint) (option_map_or Lost o Nothing) (cond (nat_le k v.head) (option_map_or (λ e. words.replaced_by e p) o p) (words.above_end (words.sync_log v) r p))) ≡ Here h
    → p ≡ Here h) [
      | true ↦ λ t. or_none (nat_le k r.commit) p h t
      | false ↦
          elim (nat_le k v.checkpoint) as (λ b. cond b (option_map_or Lost o Nothing) (cond (nat_le k v.head) (option_map_or (λ e. words.replaced_by e p) o p) (words.above_end (words.sync_log v) r p)) ≡ Here h → p ≡ Here h) [
            | true ↦ λ t. absurd (or_lost o h t)
            | false ↦ elim (nat_le k v.head) as (λ b. cond b (option_map_or (λ e. words.replaced_by e p) o p) (words.above_end (words.sync_log v) r p) ≡ Here h → p ≡ Here h) [
              | true ↦ λ t. or_same p o h t
              | false ↦ λ t. or_nothing (nat_lt r.log_view v.view) p h t
            ]
          ]
    ]

shed_taken : (l : words.Log) (r : Replica) → Shed r (words.taken l r)
unfolding words.taken part_at forgetting
shed_taken l r = record {
  here = λ k h e.
      let q : Replica = record r {
        view = l.view;
        log_view = l.view;
        idle = 0;
        parts = map (words.taken_part l r) (range_with_len r.first (length r.parts));
        ackers = words.no_ackers r;
        heard = no_replicas;
        statements = words.no_statements r;
        commit = max r.commit l.commit;
      } in
      taken_here l r k h (ranged (words.taken_part l r) r.first (length r.parts) k h (forgotten q k h e));
  cursor = refl;
}

shed_jumped : (v : SyncView) (r : Replica) → Shed r (words.jumped v r)
unfolding words.jumped part_at forgetting
shed_jumped v r = record {
  here = λ k h e. jumped_here v r k h (ranged (words.jumped_part v r) r.first (v.checkpoint + 65 - r.first) k h (forgotten (landed v r) k h e));
  cursor = refl;
}

shed_checkpoint : (c : checkpoint.SavedCheckpoint) (r : Replica) → Shed r (words.with_checkpoint c r)
unfolding words.with_checkpoint part_at
shed_checkpoint c r = record {
  here = λ k h e. sym (ap (λ p. cond (nat_lt k r.first) Nothing p) (padded r.parts (r.applied - r.checkpoint) (k - r.first))) ∙ e;
  cursor = refl;
}

shed_loads : (root : Name) (l : Load) (r : Replica) → (words.loads root l r).cursor ≡ r.cursor → Shed r (words.loads root l r)
shed_loads root l r e = record { here = λ k h t. sym (loads_parts root l r k) ∙ t; cursor = e }

lost_cursor : (h : Header) (r : Replica) → (words.lost h r).cursor ≡ r.cursor
unfolding with_part
lost_cursor h r = refl

state_cursor : (root : Name) (table : PayloadTable) (o : Option State) (r : Replica) → (words.loaded_state root table o r).cursor ≡ r.cursor
unfolding words.with_state
state_cursor root table (Some t) r = refl
state_cursor root table None r = refl

loads_cursor : (root : Name) (l : Load) (r : Replica) → (words.loads root l r).cursor ≡ r.cursor
loads_cursor root (Loaded texts table) r = state_cursor root table (usable (version r) (state_decoded texts)) r
loads_cursor root (Missing names) r = refl

-- ---- words

pub record Sheds {F : Type 0} (w : Word F) : Type 0 where
  pub parts : (s : Setting F) (r : Replica) (f : F) → Shed r (w s r f).replica
  pub script : (s : Setting F) (r : Replica) (f : F) → All Spares (w s r f).script

module _ {F : Type 0} where
  pub sheds_then : (v w : Word F) → Sheds v → Sheds w → Sheds (v ⨾ w)
  unfolding ◌⨾◌
  sheds_then v w x y = record {
    parts = λ s r f. let a = v s r f in shed_more r a.replica _ (x.parts s r f) (y.parts s a.replica (after_all s f a.script));
    script = λ s r f. let a = v s r f in let g = after_all s f a.script in All-append Spares a.script (w s a.replica g).script (x.script s r f) (y.script s a.replica g);
  }

  pub sheds_quiet : Sheds {F = F} quiet
  unfolding quiet
  sheds_quiet = record { parts = λ s r f. shed_same r; script = λ s r f. All-nil Spares }

  pub sheds_change : (g : Replica → Replica) → ((r : Replica) → Shed r (g r)) → Sheds {F = F} (change g)
  unfolding change
  sheds_change g h = record { parts = λ s r f. h r; script = λ s r f. All-nil Spares }

  pub sheds_does : (e : Replica → Effect) → ((r : Replica) → Spares (e r)) → Sheds {F = F} (does e)
  unfolding does
  sheds_does e h = record { parts = λ s r f. shed_same r; script = λ s r f. All-cons Spares (e r) [] (h r) (All-nil Spares) }

  pub sheds_says : (os : Replica → List Output) → Sheds {F = F} (says os)
  unfolding says
  sheds_says os = record { parts = λ s r f. shed_same r; script = λ s r f. All-map Spares Say (os r) (λ k d l. tt) }

  pub sheds_by : (w : Replica → Word F) → ((r : Replica) → Sheds (w r)) → Sheds (by w)
  unfolding by
  sheds_by w h = record { parts = λ s r f. (h r).parts s r f; script = λ s r f. (h r).script s r f }

  pub sheds_naming : (w : (List ℕ → List ℕ) → Word F) → ((hash : List ℕ → List ℕ) → Sheds (w hash)) → Sheds (naming w)
  unfolding naming
  sheds_naming w h = record { parts = λ s r f. (h s.hash).parts s r f; script = λ s r f. (h s.hash).script s r f }

  pub sheds_reading : {X : Type 0} (g : Setting F → F → X) (w : X → Word F) → ((x : X) → Sheds (w x)) → Sheds (reading g w)
  unfolding reading
  sheds_reading g w h = record { parts = λ s r f. (h (g s f)).parts s r f; script = λ s r f. (h (g s f)).script s r f }

  pub sheds_if : (b : Bool) (v w : Word F) → Sheds v → Sheds w → Sheds (cond b v w)
  sheds_if true v w h k = h
  sheds_if false v w h k = k

  pub sheds_when : (b : Bool) (w : Word F) → Sheds w → Sheds (when b w)
  sheds_when b w h = sheds_if b w quiet h sheds_quiet

  sheds_times : (n : ℕ) (w : Word F) → Sheds w → Sheds (times n w)
  unfolding times
  sheds_times zero w h = sheds_quiet
  sheds_times (suc n) w h = sheds_then w (times n w) h (sheds_times n w h)

  pub sheds_each : {X : Type 0} (w : X → Word F) (xs : List X) → ((x : X) → Sheds (w x)) → Sheds (each w xs)
  unfolding each
  sheds_each w [] h = sheds_quiet
  sheds_each w (x ∷ xs) h = sheds_then (w x) (each w xs) (h x) (sheds_each w xs h)

  -- a change of what isn't looked at here
  pub sheds_same : (g : Replica → Replica) → ((r : Replica) (k : ℕ) → part_at (g r) k ≡ part_at r k) → ((r : Replica) → (g r).cursor ≡ r.cursor) → Sheds {F = F} (change g)
  sheds_same g p c = sheds_change g (λ r. record { here = λ k h e. sym (p r k) ∙ e; cursor = c r })

  sheds_or_lost : (h : Header) (w : Whole → Word F) (o : Option Whole) → ((e : Whole) → Sheds (w e)) → Sheds (words.or_lost h w o)
  sheds_or_lost h w None all = sheds_change (words.lost h) (λ r. record { here = λ k x e. lost_before h r k x e; cursor = lost_cursor h r })
  sheds_or_lost h w (Some e) all = all e

  sheds_part : (w : Whole → Word F) (p : Part) → ((e : Whole) → Sheds (w e)) → Sheds (words.with_entry w p)
  sheds_part w (Here h) all = sheds_reading (words.entry_of h) (words.or_lost h w) (λ o. sheds_or_lost h w o all)
  sheds_part w (Lost h) all = sheds_quiet
  sheds_part w (Wanted h) all = sheds_quiet
  sheds_part w Unknown all = sheds_quiet
  sheds_part w Nothing all = sheds_quiet

  pub sheds_entry : (op : ℕ) (w : Whole → Word F) → ((e : Whole) → Sheds (w e)) → Sheds (words.with_entry_at op w)
  unfolding words.with_entry_at
  sheds_entry op w all = sheds_by _ (λ r. sheds_part w (part_at r op) all)

  pub sheds_rested : Sheds {F = F} (change words.rested)
  unfolding part_at
  sheds_rested = sheds_same words.rested (λ r k. refl) (λ r. refl)

  pub sheds_save : Sheds {F = F} words.save
  unfolding words.save words.value_of part_at
  sheds_save = sheds_then _ _ (sheds_does words.saves (λ r. tt)) (sheds_same words.with_saved (λ r k. refl) (λ r. refl))

  pub sheds_enter : (view : ℕ) → Sheds {F = F} (words.enter view)
  unfolding words.enter words.entered part_at
  sheds_enter view = sheds_if _ _ _ sheds_rested (sheds_then _ _ (sheds_same (words.entered view) (λ r k. refl) (λ r. refl)) (sheds_then _ _ sheds_save (sheds_says _)))

  sheds_checkpoint : Sheds {F = F} words.make_checkpoint
  unfolding words.make_checkpoint
  sheds_checkpoint =
      sheds_by _ (λ r. sheds_reading _ _ (λ c. sheds_then _ _ (sheds_does words.checkpoints (λ r. tt)) (sheds_then _ _ (sheds_change (words.with_checkpoint c) (shed_checkpoint c)) sheds_save)))

  sheds_apply_entry : (e : Whole) → Sheds {F = F} (words.apply_entry e)
  unfolding words.apply_entry part_at
  sheds_apply_entry e =
      sheds_then _ _ (sheds_says _) (sheds_then _ _ (sheds_says _) (sheds_then _ _ (sheds_same (words.applied e) (λ r k. refl) (λ r. refl)) (sheds_by _ (λ r. sheds_when _ words.make_checkpoint sheds_checkpoint))))

  pub sheds_apply : Sheds {F = F} words.apply
  unfolding words.apply words.apply_next
  sheds_apply = sheds_by _ (λ r. sheds_times _ words.apply_next (sheds_by _ (λ r. sheds_when _ _ (sheds_entry _ words.apply_entry sheds_apply_entry))))

  pub sheds_advance : Sheds {F = F} words.advance
  unfolding words.advance words.advanced part_at
  sheds_advance = sheds_then _ _ (sheds_same words.advanced (λ r k. refl) (λ r. refl)) sheds_apply

  pub sheds_learn : (c : ℕ) → Sheds {F = F} (words.learn c)
  unfolding words.learn part_at
  sheds_learn c = sheds_then _ _ (sheds_same (words.learned c) (λ r k. refl) (λ r. refl)) sheds_apply

  pub sheds_take : (l : words.Log) → Sheds {F = F} (words.take l)
  unfolding words.take
  sheds_take l = sheds_then _ _ (sheds_change (words.taken l) (shed_taken l)) sheds_save

  pub sheds_jump : (v : SyncView) → Sheds {F = F} (words.jump v)
  unfolding words.jump
  sheds_jump v = sheds_then _ _ (sheds_change (words.jumped v) (shed_jumped v)) sheds_save

  pub sheds_again : (op : ℕ) → Sheds {F = F} (words.prepare_again op)
  unfolding words.prepare_again
  sheds_again op = sheds_entry op _ (λ e. sheds_says _)

  sheds_begin : (ss : List Statement) (l : words.Log) → Sheds {F = F} (words.begin_view ss l)
  unfolding words.begin_view
  sheds_begin ss l =
      sheds_then _ _ (sheds_says (words.choose_line ss l))
      (sheds_then _ _ (sheds_take l) (sheds_then _ _ (sheds_says _) (sheds_then _ _ (sheds_by _ (λ r. sheds_each words.prepare_again _ sheds_again)) (sheds_by _ (λ r. sheds_if (is_alone r) words.advance words.apply sheds_advance sheds_apply)))))

  sheds_choice : (ss : List Statement) (c : Choice) → Sheds {F = F} (words.obey_choice ss c)
  unfolding words.try_log
  sheds_choice ss TooFew = sheds_quiet
  sheds_choice ss (WaitsAt op) = sheds_says _
  sheds_choice ss (Ends headers) =
      sheds_by _ (λ r. sheds_naming _ (λ hash. sheds_by _ (λ q. sheds_if _ _ _ (sheds_begin ss (words.chosen_log r ss headers)) (sheds_says _))))

  pub sheds_try : Sheds {F = F} words.try
  unfolding words.try
  sheds_try = sheds_by _ (λ r. sheds_when _ _ (sheds_choice (words.stated r) (words.decided r)))

  pub sheds_speak : Sheds {F = F} words.speak
  unfolding words.speak
  sheds_speak = sheds_by _ (λ r. sheds_when _ _ (sheds_if _ _ _ sheds_try (sheds_says _)))

  pub sheds_resend : (e : Whole) → Sheds {F = F} (words.resend e)
  unfolding words.resend
  sheds_resend e = sheds_naming _ (λ hash. sheds_by _ (λ r. sheds_when _ _ (sheds_if _ _ _ (sheds_says _) (sheds_says _))))

  sheds_peer : (message : Replica → Frame) → Sheds {F = F} (words.ask_peer message)
  unfolding words.ask_peer part_at
  sheds_peer message = sheds_then _ _ (sheds_says _) (sheds_same words.turned (λ r k. refl) (λ r. refl))

  sheds_ask_for : (names : List Name) (absent : Option Header) (worn : List Name) → Sheds {F = F} (words.ask_for names absent worn)
  sheds_ask_for (name ∷ names) absent worn = sheds_peer _
  sheds_ask_for [] (Some h) worn = sheds_naming _ (λ hash. sheds_peer _)
  sheds_ask_for [] None (name ∷ names) = sheds_peer _
  sheds_ask_for [] None [] = sheds_quiet

  pub sheds_ask : Sheds {F = F} words.ask
  unfolding words.ask
  sheds_ask = sheds_by _ (λ r. sheds_when (not (is_alone r)) _ (sheds_ask_for r.missing (words.least_absent r) r.worn))

  pub sheds_load : Sheds {F = F} words.load
  unfolding words.load
  sheds_load = sheds_by _ (λ r. sheds_when _ _ (sheds_reading _ _ (λ l. sheds_change (words.loads r.root l) (λ q. shed_loads r.root l q (loads_cursor r.root l q)))))
