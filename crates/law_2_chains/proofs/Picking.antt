-- Choose lines of words, and what the replica at which a log is chosen has heard.
use Rattle.std.proofs.Common.{ℕ, replicate, ◌+◌, ◌<◌, ◌≡◌, ◌∙◌, inl, inr, refl, sym, ap, subst, arith, Bool, true, false, cond, eqb, get_or, set, length, List, [], ◌∷◌, Option, Some, None}
use Rattle.std.specs.Prelude.{All, ⊤, nat_le, not, ◌&&◌}
use Rattle.std.specs.List.{filter_map, range_with_len}
use Rattle.std.proofs.lemmas.Bool.{cases_eq, cases_lt, eq-eqb, ne_eqb}
use Rattle.std.proofs.lemmas.List.{get_or-set_same, get_or-set_other, get_or_past, get_or-replicate, length-replicate}
use Rattle.std.proofs.lemmas.List.Elements.{All-nil, All-cons, All-append}
use Rattle.vr_base.specs.Replicas.{size}
use Rattle.vr_msg.specs.declared.output.Chosen.{Chosen}
use Rattle.vr_msg.specs.Choice.{top_commit, top_view}
use Rattle.vr_rules.specs.Replica.{Replica, is_primary, is_started, view_change, statement_of, run, head, parts_from, trimmed, version}
use Rattle.vr_rules.specs.Steps.{Setting, Word, ◌⨾◌, quiet, says, by, naming, outputs, after_all}
use Rattle.vr_rules.specs.Words as words
use Rattle.vr_rules.specs.Words.{decided, log_end, stated}
use Rattle.vr_rules.specs.Sound.{IsSound}
use Rattle.vr_rules.specs.Laws.{IsEvent}
use Rattle.vr_msg.specs.Logs.{IsStatement}
use Rattle.vr_world.specs.Safe.{all_heard, brought, heard_from, or_else}
use Rattle.vr_header.specs.declared.header.Header.{Header}
use Rattle.vr_msg.specs.declared.choice.Choice.TheVariants.{Ends, WaitsAt, TooFew}
use Rattle.vr_msg.specs.declared.choice.Choice.{Choice}
use Rattle.vr_msg.specs.declared.event.Event.TheVariants as event
use Rattle.vr_msg.specs.declared.event.Event.{Event}
use Rattle.vr_msg.specs.declared.frame.DoViewChange.{DoViewChange}
use Rattle.vr_msg.specs.declared.frame.Frame.TheVariants as frame
use Rattle.vr_msg.specs.declared.frame.StartViewChange.{StartViewChange}
use Rattle.vr_msg.specs.declared.output.Output.TheVariants as output
use Rattle.vr_msg.specs.declared.output.Output.{Output}
use Rattle.vr_msg.specs.declared.statement.Statement.{Statement}
use Rattle.vr_rules.proofs.Ruling.{IsFor}
use Rattle.vr_rules.proofs.SilentWaits.{IsPlain, Mute, plain_are, mute_all, mute_by, mute_each, mute_one, mute_prepare_again, mute_quiet, mute_take, mute_then}
use Rattle.vr_rules.proofs.SendsScripts.{outputs_append, outputs_said}
use Rattle.vr_rules.specs.Outputs as told
use Rattle.vr_rules.specs.Rules as rules
use Rattle.law_2_chains.proofs.LastWord.{mute_last}

abbrev pub line_of : Replica → List Header → Chosen
line_of r hs =
    record { replica = r.index; view = r.view; log_view = top_view (stated r); commit = top_commit (stated r); head = log_end (top_commit (stated r)) hs; own = trimmed (parts_from r (r.commit + 1)) }

-- a statement that is sent is no line
pub says_statement : {F : Type 0} → Mute {F = F} (says (told.to_primary told.do_view_change))
says_statement = mute_one _ (λ r. tt)

module _ (P : Chosen → Type 0) where
  abbrev pub IsPicked : Output → Type 0
  IsPicked (output.Choose l) = P l
  IsPicked _ = ⊤

  abbrev pub MayPick : Replica → Type 0
  MayPick r = (hs : List Header) → decided r ≡ Ends hs → P (line_of r hs)

  pub plain_picked : (o : Output) → IsPlain o → IsPicked o
  plain_picked (output.Wait line) h = tt
  plain_picked (output.Send s) h = tt
  plain_picked (output.Reply a) h = tt
  plain_picked (output.Commit c) h = tt
  plain_picked (output.Choose c) h = absurd h
  plain_picked (output.Start s) h = tt
  plain_picked (output.Halted r) h = tt
  plain_picked (output.Migrated r) h = tt
  plain_picked output.Done h = tt
  plain_picked output.KeptOut h = tt

  module _ {F : Type 0} where
    -- ---- at one replica

    abbrev pub PicksAt : Setting F → Replica → F → Word F → Type 0
    PicksAt s r f w = All IsPicked (outputs (w s r f).script)

    -- a word that says neither waits nor choices
    pub plain : {w : Word F} → Mute w → (s : Setting F) (r : Replica) (f : F) → PicksAt s r f w
    plain {w} m s r f = plain_are IsPicked plain_picked (outputs (w s r f).script) (m.said s r f)

    pub at_then : (v w : Word F) (s : Setting F) (r : Replica) (f : F) → PicksAt s r f v → ((d : F) → PicksAt s (v s r f).replica d w) → PicksAt s r f (v ⨾ w)
    unfolding ◌⨾◌
    at_then v w s r f h k =
        let a = v s r f in
        let d = after_all s f a.script in
        let b = w s a.replica d in
        rw (outputs_append a.script b.script) (All-append IsPicked (outputs a.script) (outputs b.script) h (k d))

    pub at_if : (b : Bool) (v w : Word F) (s : Setting F) (r : Replica) (f : F) → (b ≡ true → PicksAt s r f v) → (b ≡ false → PicksAt s r f w) → PicksAt s r f (cond b v w)
    at_if true v w s r f h k = h refl
    at_if false v w s r f h k = k refl

    pub begin_at : (hs : List Header) (s : Setting F) (r : Replica) (f : F) → P (line_of r hs) → PicksAt s r f (words.begin_view (stated r) (words.chosen_log r (stated r) hs))
    unfolding words.begin_view says
    begin_at hs s r f p =
        let l = words.chosen_log r (stated r) hs in
        at_then (says (words.choose_line (stated r) l)) _ s r f (rw (outputs_said (words.choose_line (stated r) l r)) (All-cons IsPicked _ [] p (All-nil IsPicked)))
        (λ d. plain (mute_then _ _ (mute_take l) (mute_then _ _ (mute_all _) (mute_then _ _ (mute_by _ (λ r. mute_each _ _ mute_prepare_again)) mute_last))) s r d)

    pub waits_at : (op : ℕ) (s : Setting F) (r : Replica) (f : F) → PicksAt s r f (says (told.wait_line op))
    unfolding says
    waits_at op s r f = rw (outputs_said (told.wait_line op r)) (All-cons IsPicked _ [] tt (All-nil IsPicked))

    pub choice_at : (c : Choice) (s : Setting F) (r : Replica) (f : F) → decided r ≡ c → MayPick r → PicksAt s r f (words.obey_choice (stated r) c)
    unfolding words.try_log naming by
    choice_at TooFew s r f e may = plain mute_quiet s r f
    choice_at (WaitsAt op) s r f e may = waits_at op s r f
    choice_at (Ends hs) s r f e may =
        let l = words.chosen_log r (stated r) hs in
        at_if (words.may_take s.hash l r) (words.begin_view (stated r) l) (says (told.wait_line l.head)) s r f (λ t. begin_at hs s r f (may hs e)) (λ t. waits_at l.head s r f)

    pub try_at : (s : Setting F) (r : Replica) (f : F) → MayPick r → PicksAt s r f words.try
    unfolding words.try by
    try_at s r f may = at_if (is_primary r && not (is_started r)) (words.obey_choice (stated r) (decided r)) quiet s r f (λ t. choice_at (decided r) s r f refl may) (λ t. plain mute_quiet s r f)

    pub speak_at : (s : Setting F) (r : Replica) (f : F) → MayPick r → PicksAt s r f words.speak
    unfolding words.speak by
    speak_at s r f may =
        at_if (nat_le (view_change r.n) (size r.heard)) (cond (is_primary r) words.try (says (told.to_primary told.do_view_change))) quiet s r f
        (λ t. at_if (is_primary r) words.try (says (told.to_primary told.do_view_change)) s r f (λ t. try_at s r f may) (λ t. plain says_statement s r f)) (λ t. plain mute_quiet s r f)

-- ---- what was heard

pub filter_same : {X Y : Type 0} (f g : X → Option Y) (xs : List X) → ((i : X) → f i ≡ g i) → filter_map f xs ≡ filter_map g xs
filter_same f g [] h = refl
filter_same f g (x ∷ xs) h = rw (h x, filter_same f g xs h) refl

-- a replica that went on from o in this step, without a new statement
pub record GoesOn (o x : Replica) : Type 0 where
  pub index : x.index ≡ o.index
  pub n : x.n ≡ o.n
  pub own : statement_of x ≡ statement_of o
  pub long : length x.statements ≡ x.n
  pub others : (i : ℕ) → get_or x.statements i None ≡ cond (eqb o.view x.view) (get_or o.statements i None) None

-- and with what the event brought
pub record Hears (e : Event) (o r : Replica) : Type 0 where
  pub index : r.index ≡ o.index
  pub n : r.n ≡ o.n
  pub own : statement_of r ≡ statement_of o
  pub others : (i : ℕ) → get_or r.statements i None ≡ or_else (brought i e) (cond (eqb o.view r.view) (get_or o.statements i None) None)
  -- what was brought is of the group
  pub group : (i : ℕ) (t : Statement) → brought i e ≡ Some t → IsEvent e → IsStatement (version o) o.cluster t

pub cell : (i j k : ℕ) (a b : Statement) (y z : Option Statement) → j ≡ k → a ≡ b → y ≡ z → cond (eqb i j) (Some a) y ≡ cond (eqb i k) (Some b) z
cell i j k a b y z e f g = λ p. cond (eqb i (e p)) (Some (f p)) (g p)

pub stated_is : (e : Event) (o r : Replica) → Hears e o r → stated r ≡ all_heard r.view e o
unfolding stated all_heard
stated_is e o r h =
    let each : (i : ℕ) → cond (eqb i r.index) (Some (statement_of r)) (get_or r.statements i None) ≡ heard_from r.view e o i =
    λ i. cell i r.index o.index (statement_of r) (statement_of o) _ _ h.index h.own (h.others i) in
    filter_same (λ i. cond (eqb i r.index) (Some (statement_of r)) (get_or r.statements i None)) (heard_from r.view e o) (range_with_len 0 r.n) each ∙ ap (λ m. filter_map (heard_from r.view e o) (range_with_len 0 m)) h.n

pub goes_itself : (o : Replica) → IsSound o → GoesOn o o
goes_itself o sound = record { index = refl; n = refl; own = refl; long = sound.lists.statements; others = λ i. rw (eq-eqb o.view o.view refl) refl }

pub goes_rested : (o : Replica) → IsSound o → GoesOn o (words.rested o)
unfolding statement_of run head
goes_rested o sound = record { index = refl; n = refl; own = refl; long = sound.lists.statements; others = λ i. rw (eq-eqb o.view o.view refl) refl }

pub goes_idler : (o : Replica) → IsSound o → GoesOn o (rules.idler o)
unfolding statement_of run head
goes_idler o sound = record { index = refl; n = refl; own = refl; long = sound.lists.statements; others = λ i. rw (eq-eqb o.view o.view refl) refl }

pub goes_entered : (v : ℕ) (o : Replica) → o.view < v → GoesOn o (words.with_saved (words.entered v o))
unfolding statement_of run head words.entered
goes_entered v o less =
    let off : eqb o.view v ≡ false = ne_eqb o.view v (λ s. omega arith) in
    record {
      index = refl;
      n = refl;
      own = refl;
      long = length-replicate o.n None;
      others = λ i. rw off (elim (cases_lt i o.n) [
        | inl l ↦ get_or-replicate o.n i None None l
        | inr past ↦ get_or_past (replicate o.n None) i None (let l = length-replicate {A = Option Statement} o.n None in omega arith)
      ]);
    }

-- it has heard of another one, or has its statement
pub goes_heard : (sender : ℕ) (o x : Replica) → GoesOn o x → GoesOn o (rules.heard_of sender x)
unfolding statement_of run head
goes_heard sender o x h = record { index = h.index; n = h.n; own = h.own; long = h.long; others = h.others }

pub hears_none : (e : Event) (o x : Replica) → ((i : ℕ) → brought i e ≡ None) → GoesOn o x → Hears e o x
hears_none e o x none h = record { index = h.index; n = h.n; own = h.own; others = λ i. rw (none i) (h.others i); group = λ i t is came. let no : None ≡ Some t = sym (none i) ∙ is in absurd cc }

pub no_brought : (c : StartViewChange) (i : ℕ) → brought i (event.Deliver (frame.StartViewChange c)) ≡ None
no_brought c i = refl

-- the statement that was brought
pub brought_here : (d : DoViewChange) (i : ℕ) (t : Statement) → brought i (event.Deliver (frame.DoViewChange d)) ≡ Some t → IsStatement d.version d.cluster d.statement → IsStatement d.version d.cluster t
brought_here d i t is h =
    elim (eqb d.replica i) as (λ b. cond b (Some d.statement) None ≡ Some t → IsStatement d.version d.cluster t) [
      | true ↦ λ e. let same : d.statement ≡ t = (let z : Some d.statement ≡ Some t = e in cc) in subst (IsStatement d.version d.cluster) same h
      | false ↦ λ e. absurd cc
    ] is

-- a statement is taken in
pub hears_statement : (d : DoViewChange) (o x : Replica) → GoesOn o x → d.replica < x.n → IsFor d.version d.cluster o → Hears (event.Deliver (frame.DoViewChange d)) o (rules.with_statement d.replica d.statement x)
unfolding statement_of run head
hears_statement d o x h member of_group = record {
  group = λ i t is came. rw (← of_group.0, ← of_group.1) (brought_here d i t is came.form.statement);
  index = h.index;
  n = h.n;
  own = h.own;
  others = λ i.
      let long = h.long in
      elim (cases_eq i d.replica) [
        | inl same ↦ rw (eq-eqb d.replica i (sym same)) (ap (λ j. get_or (set x.statements d.replica (Some d.statement)) j None) same ∙ get_or-set_same x.statements d.replica (Some d.statement) None (omega arith))
        | inr off ↦ rw (ne_eqb d.replica i (λ s. off (sym s))) (get_or-set_other x.statements d.replica i (Some d.statement) None off ∙ h.others i)
      ];
}
