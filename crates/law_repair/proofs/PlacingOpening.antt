-- A replica that begins, or is recovered, has the blocks of its checkpoint at their places.
use Rattle.std.proofs.Common.{arith, ℕ, ◌+◌, ◌≡◌, ◌≤◌, ◌∙◌, refl, sym, ap, subst, Bool, true, false, cond, not, List, [], ◌∷◌, Option, Some, None}
use Rattle.std.specs.Prelude.{All}
use Rattle.std.proofs.lemmas.Bool.{true≢false}
use Rattle.std.proofs.lemmas.List.Elements.{All-append, All-cons, All-head, All-map, All-nil, All-tail}
use Rattle.vr_state.specs.declared.state.State.{State}
use Rattle.vr_base.specs.declared.kind.Kind.{Kind}
use Rattle.vr_ckpt.specs.declared.table.PayloadTable.{PayloadTable}
use Rattle.vr_disk.specs.DiskState.{Face, IsFace}
use Rattle.vr_ckpt.specs.declared.name.Name.{Name}
use Rattle.vr_header.specs.declared.header.Header.{Header}
use Rattle.vr_msg.specs.declared.output.Output.{Output}
use Rattle.vr_msg.specs.Choice.{ops}
use Rattle.vr_recover.specs.declared.readings.Verdict.{Verdict}
use Rattle.vr_recover.specs.declared.readings.Verdict.TheVariants as verdict
use Rattle.vr_super.specs.Copies.{IsGood, SuperValue}
use Rattle.vr_rules.specs.Fit.{IsFit, IsProgram}
use Rattle.vr_rules.specs.Laws.{SavesRoots}
use Rattle.vr_rules.specs.Opening.{Slot, announce, blank, clouded, entry_header, fresh, going_on, heard_itself, in_next_view, leave_view, mend_slot, old_headers, opening, recover_old, recover_op, recover_parts, rewrite}
use Rattle.vr_rules.specs.Outputs.{start_line}
use Rattle.vr_rules.specs.Replica.{Replica, forgetting, is_spent, is_started, leads, with_part}
use Rattle.vr_rules.specs.Steps.{Effect, Mend, Say, Setting, Step, Word, ◌⨾◌, after_all, by, change, does, each, quiet, reading, says, when}
use Rattle.vr_rules.specs.Words as words
use Rattle.vr_rules.proofs.FitOpening.{openings_fit}
use Rattle.vr_rules.proofs.FitWords.{reads_later}
use Rattle.vr_rules.proofs.Halves.{regrouped}
use Rattle.law_4_disks.proofs.States.{state_empty}
use Rattle.law_repair.specs.Places.{IsInPlace, StaysInPlace}
use Rattle.law_repair.proofs.Placing.{Loads, in_place}
use Rattle.law_repair.proofs.Standing.{All-left, All-right, Aspect, Fitting, IsStocked, SparesGrid, Standing, Stock, standing_apply, standing_by, standing_change, standing_says, standing_then, standing_when, worn_none, worn_stands}
use Rattle.law_repair.proofs.StandingRules.{LoadsBytes, load_is, load_roots, load_stocks}

-- ---- words that write no block, and leave all that tells of blocks

record Lows : Type 0 where
  checkpoint : ℕ
  applied : ℕ
  table : PayloadTable
  worn : List Name
  state : State

abbrev lows : Replica → Lows
lows r = record { checkpoint = r.checkpoint; applied = r.applied; table = r.table; worn = r.worn; state = r.state }

pub record Leaves (r : Replica) (x : Step) : Type 0 where
  pub same : lows x.replica ≡ lows r
  pub spares : All SparesGrid x.script

pub record Low {F : Type 0} (w : Word F) : Type 0 where
  pub every : (s : Setting F) (r : Replica) (f : F) → Leaves r (w s r f)

module _ {F : Type 0} where
  low_then : (v w : Word F) → Low v → Low w → Low (v ⨾ w)
  unfolding ◌⨾◌
  low_then v w x y = record {
    every = λ s r f.
        let a = v s r f in
        let one = x.every s r f in
        let two = y.every s a.replica (after_all s f a.script) in
        record { same = two.same ∙ one.same; spares = All-append SparesGrid a.script (w s a.replica (after_all s f a.script)).script one.spares two.spares };
  }

  low_quiet : Low {F = F} quiet
  unfolding quiet
  low_quiet = record { every = λ s r f. record { same = refl; spares = All-nil SparesGrid } }

  low_change : (g : Replica → Replica) → ((r : Replica) → lows (g r) ≡ lows r) → Low {F = F} (change g)
  unfolding change
  low_change g h = record { every = λ s r f. record { same = h r; spares = All-nil SparesGrid } }

  low_does : (e : Replica → Effect) → ((r : Replica) → SparesGrid (e r)) → Low {F = F} (does e)
  unfolding does
  low_does e h = record { every = λ s r f. record { same = refl; spares = All-cons SparesGrid (e r) [] (h r) (All-nil SparesGrid) } }

  low_says : (os : Replica → List Output) → Low {F = F} (says os)
  unfolding says
  low_says os = record { every = λ s r f. record { same = refl; spares = All-map SparesGrid Say (os r) (λ k d l. tt) } }

  low_by : (w : Replica → Word F) → ((r : Replica) → Low (w r)) → Low (by w)
  unfolding by
  low_by w h = record { every = λ s r f. let x = (h r).every s r f in record { same = x.same; spares = x.spares } }

  low_reading : {X : Type 0} (g : Setting F → F → X) (w : X → Word F) → ((x : X) → Low (w x)) → Low (reading g w)
  unfolding reading
  low_reading g w h = record { every = λ s r f. let x = (h (g s f)).every s r f in record { same = x.same; spares = x.spares } }

  low_when : (b : Bool) (w : Word F) → Low w → Low (when b w)
  low_when true w h = h
  low_when false w h = low_quiet

  low_each : {X : Type 0} (w : X → Word F) (xs : List X) → ((x : X) → Low (w x)) → Low (each w xs)
  unfolding each
  low_each w [] h = low_quiet
  low_each w (x ∷ xs) h = low_then (w x) (each w xs) (h x) (low_each w xs h)

  low_rewrite : (o : Option Header) → Low {F = F} (rewrite o)
  low_rewrite None = low_quiet
  low_rewrite (Some h) = low_does _ (λ r. tt)

  low_mend : (x : Slot) (t : Verdict) → Low {F = F} (mend_slot x t)
  low_mend x verdict.Rewrite = low_rewrite (entry_header x)
  low_mend x _ = low_quiet

  low_old : (h : Header) → Low {F = F} (recover_old h)
  unfolding recover_old with_part
  low_old h = low_reading _ _ (λ e. low_change _ (λ r. refl))

  low_op : (v : SuperValue) (k : ℕ) → Low {F = F} (recover_op v k)
  unfolding recover_op with_part
  low_op v k = low_reading _ _ (λ x. low_then _ _ (low_mend x _) (low_change _ (λ r. refl)))

  low_recover : (v : SuperValue) → Low {F = F} (recover_parts v)
  unfolding recover_parts clouded forgetting
  low_recover v =
      low_then _ _ (low_each recover_old (old_headers v) low_old)
      (low_then _ _ (low_each (recover_op v) (ops v.fields.checkpoint (v.fields.checkpoint + 64)) (low_op v)) (low_then _ _ (low_change (clouded v) (λ r. refl)) (low_change forgetting (λ r. refl))))

  low_save : Low {F = F} words.save
  unfolding words.save ◌⨾◌ does change
  low_save = record { every = λ s r f. record { same = refl; spares = All-cons SparesGrid _ [] tt (All-nil SparesGrid) } }

  low_leave : Low {F = F} leave_view
  low_leave = low_by _ (λ r. low_when (leads r) _ (low_then _ _ (low_change in_next_view (λ q. refl)) low_save))

  -- what comes before the load
  low_before : Low {F = F} (leave_view ⨾ says start_line)
  low_before = low_then _ _ low_leave (low_says start_line)

  -- and after it
  standing_announce : Standing {F = F} announce
  standing_announce = standing_by _ (λ r. standing_when (not (is_started r)) _ (standing_then _ _ (standing_change heard_itself (λ q. refl)) (standing_by _ (λ q. standing_when _ _ (standing_says _)))))

  standing_behind : Standing {F = F} (words.apply ⨾ announce)
  standing_behind = standing_then _ _ standing_apply standing_announce

low_stocked : (r q : Replica) → lows q ≡ lows r → IsStocked r → IsStocked q
low_stocked r q e k = subst (λ (a : Lows). Stock a.state a.table) (sym e) k

-- ---- openings

module _ {F : Type 0} (s : Setting F) (face : F → Face) (loads : Loads s face) where
  -- what loads stays
  loaded_along : (es : List Effect) (f : F) (root : Name) → All SparesGrid es → s.loaded (after_all s f es) root ≡ s.loaded f root
  unfolding after_all
  loaded_along [] f root h = refl
  loaded_along (e ∷ es) f root h =
      loaded_along es (s.after f e) root (All-tail SparesGrid e es h) ∙ loads.same f e root (All-head SparesGrid e es h)

  bytes_along : (es : List Effect) (f : F) → All SparesGrid es → LoadsBytes s f → LoadsBytes s (after_all s f es)
  bytes_along es f h bytes = λ root texts t e. bytes root texts t (sym (loaded_along es f root h) ∙ e)

  -- a replica that has what it found, and goes on
  record Begun (r : Replica) : Type 0 where
    stock : IsStocked r
    worn : r.worn ≡ []
    order : r.checkpoint ≤ r.applied

  begun_low : (r q : Replica) → lows q ≡ lows r → Begun r → Begun q
  begun_low r q e b =
      let at : q.checkpoint ≡ r.checkpoint = ap (λ (a : Lows). a.checkpoint) e in
      let done : q.applied ≡ r.applied = ap (λ (a : Lows). a.applied) e in
      let o = b.order in
      record { stock = low_stocked r q e b.stock; worn = ap (λ (a : Lows). a.worn) e ∙ b.worn; order = omega (arith, o, at, done) }

  -- it loads its checkpoint, and applies what it can
  loading : (r : Replica) (f : F) → Begun r → LoadsBytes s f → Fitting s f ((words.load ⨾ words.apply ⨾ announce) s r f) → IsInPlace ((words.load ⨾ words.apply ⨾ announce) s r f).replica
  unfolding ◌⨾◌
  loading r f b bytes fit =
      let tail : Word F = words.apply ⨾ announce in
      let a = words.load s r f in
      let d : F = after_all s f a.script in
      let y = tail s a.replica d in
      let is = load_is s r f in
      let at : a.replica.checkpoint ≡ r.checkpoint = ap (λ (x : Aspect). x.checkpoint) is.rest_same in
      let done : a.replica.applied ≡ r.applied = ap (λ (x : Aspect). x.applied) is.rest_same in
      let o = b.order in
      let word : Standing {F = F} tail = standing_behind in
      let on = word.every s a.replica d (omega (arith, o, at, done)) in
      let left = All-left IsFit a.script y.script fit.fits in
      let last : Fitting s d y = record { saves = fit.saves; reads = reads_later s f a.script fit.reads left; fits = All-right IsFit a.script y.script fit.fits } in
      in_place y.replica
      (word.stocks tt s a.replica d last (load_stocks s r f loads.apart bytes b.stock))
      (word.roots s a.replica d loads.saves (load_roots s r f loads.apart))
      (worn_stands a.replica y on (worn_none a.replica (ap (λ (x : Aspect). x.worn) is.rest_same ∙ b.worn)))

  going : (r : Replica) (f : F) → Begun r → LoadsBytes s f → Fitting s f (((leave_view ⨾ says start_line) ⨾ words.load ⨾ words.apply ⨾ announce) s r f)
      → IsInPlace (((leave_view ⨾ says start_line) ⨾ words.load ⨾ words.apply ⨾ announce) s r f).replica
  unfolding ◌⨾◌
  going r f b bytes fit =
      let head : Word F = leave_view ⨾ says start_line in
      let tail : Word F = words.load ⨾ words.apply ⨾ announce in
      let a = head s r f in
      let d : F = after_all s f a.script in
      let y = tail s a.replica d in
      let low : Low {F = F} head = low_before in
      let one = low.every s r f in
      let left = All-left IsFit a.script y.script fit.fits in
      let last : Fitting s d y = record { saves = fit.saves; reads = reads_later s f a.script fit.reads left; fits = All-right IsFit a.script y.script fit.fits } in
      loading a.replica d (begun_low r a.replica one.same b) (bytes_along a.script f one.spares bytes) last

  resumed_in_place : (b : Bool) (r : Replica) (f : F) → is_spent r ≡ b → Begun r → LoadsBytes s f → Fitting s f (cond b (says start_line) going_on s r f) → StaysInPlace (cond b (says start_line) going_on s r f).replica
  unfolding says
  resumed_in_place true r f t b bytes fit = λ live. absurd (true≢false (sym t ∙ live))
  resumed_in_place false r f t b bytes fit = λ live.
      let same : ((leave_view ⨾ says start_line) ⨾ words.load ⨾ words.apply ⨾ announce) s r f ≡ going_on s r f = regrouped leave_view (says start_line) (words.load ⨾ words.apply ⨾ announce) s r f in
      subst (λ (x : Step). IsInPlace x.replica) same (going r f b bytes (subst (Fitting s f) (sym same) fit))

blank_begun : (v : SuperValue) → Stock (blank v).state (blank v).table
unfolding blank
blank_begun v = record {
  sessions = state_empty.sessions;
  machine = state_empty.machine;
  table = record { sessions = tt; few_sessions = omega arith; keys = tt; few_keys = omega arith };
}

blank_worn : (v : SuperValue) → (blank v).worn ≡ []
unfolding blank
blank_worn v = refl

blank_order : (v : SuperValue) → (blank v).checkpoint ≤ (blank v).applied
unfolding blank
blank_order v = omega arith

module _ {F : Type 0} (s : Setting F) (face : F → Face) (loads : Loads s face) (program : IsProgram s) (roots : SavesRoots s) where
  pub opened_in_place : (f : F) (v : SuperValue) → IsFace (face f) → IsGood v → StaysInPlace (opening v s (blank v) f).replica
  unfolding opening ◌⨾◌ does after_all by
  opened_in_place f v whole g =
      let d : F = s.after f (Mend v) in
      let reads = loads.reads f whole in
      let all = (openings_fit s f v program roots reads g).each in
      let a = recover_parts v s (blank v) d in
      let e : F = after_all s d a.script in
      let low : Low {F = F} (recover_parts v) = low_recover v in
      let one = low.every s (blank v) d in
      let begun = begun_low s face loads (blank v) a.replica one.same (record { stock = blank_begun v; worn = blank_worn v; order = blank_order v }) in
      let spares : All SparesGrid (Mend v ∷ a.script) = All-cons SparesGrid (Mend v) a.script tt one.spares in
      let y = cond (is_spent a.replica) (says start_line) going_on s a.replica e in
      let left = All-left IsFit (Mend v ∷ a.script) y.script all in
      let fit : Fitting s e y = record { saves = loads.saves; reads = reads_later s f (Mend v ∷ a.script) reads left; fits = All-right IsFit (Mend v ∷ a.script) y.script all } in
      resumed_in_place s face loads (is_spent a.replica) a.replica e refl begun (bytes_along s face loads (Mend v ∷ a.script) f spares (loads.bytes f whole)) fit

-- ---- a new group

pub fresh_in_place : (kind : Kind) (cluster n index : ℕ) → IsInPlace (fresh kind cluster n index)
unfolding blank
fresh_in_place kind cluster n index = record {
  sessions = state_empty.sessions;
  machine = state_empty.machine;
  table = record { sessions = tt; few_sessions = omega arith; keys = tt; few_keys = omega arith };
  root = λ none some. absurd (omega (arith, some));
  worn = All-nil _;
  none = λ lacks. refl;
}
