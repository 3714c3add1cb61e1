-- What fits a version: the empty state, what a state that fits becomes by an entry of the version, and what it answers.
use Rattle.std.proofs.Common.{◌≡◌, ℕ, ◌+◌, ◌<◌, ◌≤◌, ◌&&◌, List, [], ◌∷◌, Option, Some, None, is_some, IfSome, fold, Bool, true, not, eqb, leb, ltb, cond, length, refl, sym, ◌∙◌, ap, subst, arith}
use Rattle.std.specs.List.{AllByRecursion, list_all}
use Rattle.std.specs.Option.{option_map_or}
use Rattle.std.specs.Ordering.{nat_cmp, eq_by_cmp}
use Rattle.std.specs.Cmp.{nat_cmp_total}
use Rattle.std.specs.declared.cmp.Ordering.TheVariants.{Less, Equal, Greater}
use Rattle.std.specs.FinMap.Entries.{by_order, where_key, length_without, find, put, is_sorted}
use Rattle.std.proofs.lemmas.Bool.{and_parts, and_from, cond_both, leb-true, le-leb, ltb-true, ltb-false}
use Rattle.vr_base.specs.Versions.{session_limit, value_limit}
use Rattle.vr_base.proofs.Versions.{more}
use Rattle.vr_header.specs.Bodies.{IsOperation, IsOutcome}
use Rattle.vr_header.specs.Made.{Whole}
use Rattle.vr_header.specs.Text.{is_text}
use Rattle.vr_header.specs.declared.operation.Operation.{Operation}
use Rattle.vr_header.specs.declared.operation.Operation.TheVariants.{Register, Put, Get, Delete}
use Rattle.vr_header.specs.declared.outcome.Outcome.{Outcome}
use Rattle.vr_header.specs.declared.outcome.Outcome.TheVariants as outcome
use Rattle.vr_header.proofs.BodyLaws.{text_more}
use Rattle.vr_state.specs.Effects.{stored}
use Rattle.vr_state.specs.Finite.{byte_order, without, IsMap}
use Rattle.vr_state.specs.Fitting.{outcome_fits, sessions_fit, keys_fit, fits, Fits, AnswerFits, ReplyFits}
use Rattle.vr_state.specs.Folds.{empty, check, asked, applied, answered, executed, state_after}
use Rattle.vr_state.specs.Kv as kv
use Rattle.vr_state.specs.Sessions as sess
use Rattle.vr_state.specs.declared.session.Session.{Session}
use Rattle.vr_state.specs.declared.session.SessionAnswer.{SessionAnswer}
use Rattle.vr_state.specs.declared.session.SessionAnswer.TheVariants as answer
use Rattle.vr_state.specs.declared.state.State.{State}
use Rattle.vr_state.proofs.Eldest.{All_weaker, oldest_found, find_among}
use Rattle.vr_state.proofs.Maps.{T_true}
use Rattle.vr_state.proofs.SessionNumbers.{kept_applied}
use Rattle.vr_state.proofs.SessionSteps.{IsMap-put, IsMap-without, length_put, limit_of}

-- ---- the word and the facts

pub outcome_is : (v : ℕ) (o : Outcome) → outcome_fits v o ≡ true → IsOutcome v o
outcome_is v outcome.Session h = tt
outcome_is v outcome.Ok h = tt
outcome_is v outcome.Full h = tt
outcome_is v outcome.Absent h = tt
outcome_is v (outcome.Value value) h = h

is_outcome : (v : ℕ) (o : Outcome) → IsOutcome v o → outcome_fits v o ≡ true
is_outcome v outcome.Session h = refl
is_outcome v outcome.Ok h = refl
is_outcome v outcome.Full h = refl
is_outcome v outcome.Absent h = refl
is_outcome v (outcome.Value value) h = h

module _ {X : Type 0} (p : X → Bool) (P : X → Type 0) where
  all_are : ((x : X) → p x ≡ true → P x) → (xs : List X) → list_all p xs ≡ true → AllByRecursion P xs
  all_are f [] h = tt
  all_are f (x ∷ xs) h = let parts = and_parts (p x) (list_all p xs) h in (f x parts.0, all_are f xs parts.1)

  are_all : ((x : X) → P x → p x ≡ true) → (xs : List X) → AllByRecursion P xs → list_all p xs ≡ true
  are_all f [] h = refl
  are_all f (x ∷ xs) h = and_from (p x) (list_all p xs) (f x h.0) (are_all f xs h.1)

module _ (v : ℕ) (s : State) where
  abbrev OutcomeAt : ℕ × Session → Type 0
  OutcomeAt e = IsOutcome v e.1.outcome

  abbrev ValueAt : List ℕ × List ℕ → Type 0
  ValueAt p = is_text (value_limit v) p.1 ≡ true

  pub fits_means : fits v s ≡ true → Fits v s
  unfolding sessions_fit keys_fit
  fits_means h =
      let all = and_parts (sessions_fit v s.sessions) (keys_fit v s.machine) h in
      let held = and_parts (is_sorted nat_cmp s.sessions) (leb (length s.sessions) (session_limit v) && list_all (λ e. outcome_fits v e.1.outcome) s.sessions) all.0 in
      let within = and_parts (leb (length s.sessions) (session_limit v)) (list_all (λ e. outcome_fits v e.1.outcome) s.sessions) held.1 in
      record {
        is_map = held.0;
        few = leb-true (length s.sessions) (session_limit v) within.0;
        outcomes = all_are (λ e. outcome_fits v e.1.outcome) OutcomeAt (λ e. outcome_is v e.1.outcome) s.sessions within.1;
        values = all_are (λ p. is_text (value_limit v) p.1) ValueAt (λ p h. h) s.machine all.1;
      }

  pub means_fits : Fits v s → fits v s ≡ true
  unfolding sessions_fit keys_fit
  means_fits h =
      and_from (sessions_fit v s.sessions) (keys_fit v s.machine)
      (and_from (is_sorted nat_cmp s.sessions) (leb (length s.sessions) (session_limit v) && list_all (λ e. outcome_fits v e.1.outcome) s.sessions) h.is_map
      (and_from (leb (length s.sessions) (session_limit v)) (list_all (λ e. outcome_fits v e.1.outcome) s.sessions)
      (le-leb (length s.sessions) (session_limit v) h.few)
      (are_all (λ e. outcome_fits v e.1.outcome) OutcomeAt (λ e. is_outcome v e.1.outcome) s.sessions h.outcomes)))
      (are_all (λ p. is_text (value_limit v) p.1) ValueAt (λ p h. h) s.machine h.values)

-- ---- a later version

pub outcome_later : (v w : ℕ) (o : Outcome) → v ≤ w → w ≤ 2 → IsOutcome v o → IsOutcome w o
outcome_later v w outcome.Session l m h = tt
outcome_later v w outcome.Ok l m h = tt
outcome_later v w outcome.Full l m h = tt
outcome_later v w outcome.Absent l m h = tt
outcome_later v w (outcome.Value value) l m h = text_more (value_limit v) (value_limit w) value (more v w 1024 3000 l m (omega arith)) h

pub Fits-later : (v w : ℕ) (s : State) → v ≤ w → w ≤ 2 → Fits v s → Fits w s
Fits-later v w s l m h =
    let limit : session_limit v ≤ session_limit w = more v w 32 64 l m (omega arith) in
    let text : value_limit v ≤ value_limit w = more v w 1024 3000 l m (omega arith) in
    record {
      is_map = h.is_map;
      few = omega (arith, h.few, limit);
      outcomes = All_weaker (λ e. IsOutcome v e.1.outcome) (λ e. IsOutcome w e.1.outcome) (λ e. outcome_later v w e.1.outcome l m) s.sessions h.outcomes;
      values = All_weaker (λ p. is_text (value_limit v) p.1 ≡ true) (λ p. is_text (value_limit w) p.1 ≡ true) (λ p. text_more (value_limit v) (value_limit w) p.1 text) s.machine h.values;
    }

pub Fits-empty : (v : ℕ) → Fits v empty
Fits-empty v = record { is_map = refl; few = omega arith; outcomes = tt; values = tt }

-- ---- how many sessions

put_grows : (m : sess.Map) (key : ℕ) (s : Session) → IsMap nat_cmp m → length (put nat_cmp key s m) ≤ length m + 1
put_grows m key s h =
    rw (length_put m key s h) (cond_both (is_some (find nat_cmp key m)) (length m) (length m + 1) (λ n. n ≤ length m + 1) (λ t. omega arith) (λ t. omega arith))

record Shorter (m : sess.Map) : Type 0 where
  is_map : IsMap nat_cmp (sess.without_oldest m)
  less : 1 + length (sess.without_oldest m) ≡ length m

shorter : (m : sess.Map) → IsMap nat_cmp m → 0 < length m → Shorter m
unfolding sess.without_oldest
shorter m h some =
    let o = oldest_found m some in
    let there : find nat_cmp o.client m ≡ Some o.is.session =
    ap (find nat_cmp o.client) o.is.among ∙ find_among o.is.before (o.client, o.is.session) o.is.after (subst (IsMap nat_cmp) o.is.among h) in
    let less : 1 + length (without nat_cmp o.client m) ≡ length m =
    sym (ap (λ x. cond (is_some x) 1 0 + length (without nat_cmp o.client m)) there) ∙ length_without nat_cmp nat_cmp_total o.client m (T_true _ h) in
    record { is_map = rw o.found (IsMap-without m o.client h); less = rw o.found less }

record Stays (m n : sess.Map) (limit : ℕ) : Type 0 where
  is_map : IsMap nat_cmp n
  few : length n ≤ limit

-- what is stored leaves no more sessions than its version does, or than there were
stays : (m : sess.Map) (a : sess.Asked) (limit : ℕ) → IsMap nat_cmp m → session_limit a.version ≤ limit → length m ≤ limit → Stays m (sess.applied m a) limit
unfolding sess.applied
stays m a limit h own few =
    let there = put nat_cmp a.client (stored a) m in
    let instead = put nat_cmp a.client (stored a) (sess.without_oldest m) in
    let is_map = IsMap-put m a.client (stored a) h in
    cond_both (ltb (length m) (session_limit a.version)) there (cond (is_some (find nat_cmp a.client m)) there instead) (λ n. Stays m n limit)
    (λ room. record { is_map = is_map; few = omega (arith, put_grows m a.client (stored a) h, ltb-true (length m) (session_limit a.version) room) })
    (λ full. cond_both (is_some (find nat_cmp a.client m)) there instead (λ n. Stays m n limit)
    (λ t. record { is_map = is_map; few = rw (length_put m a.client (stored a) h, t) few })
    (λ t. let s = shorter m h (omega (arith, ltb-false (length m) (session_limit a.version) full, limit_of a.version)) in
    record { is_map = IsMap-put (sess.without_oldest m) a.client (stored a) s.is_map; few = omega (arith, put_grows (sess.without_oldest m) a.client (stored a) s.is_map, s.less) }))

-- ---- values

module _ (P : List ℕ → Type 0) where
  abbrev Are : kv.Map → Type 0
  Are m = AllByRecursion (λ p. P p.1) m

  found_is : (key : List ℕ) (m : kv.Map) → Are m → IfSome (find byte_order key m) P
  found_is key [] h = tt
  found_is key (e ∷ es) h = cond_both (eq_by_cmp byte_order key e.0) (Some e.1) (find byte_order key es) (λ o. IfSome o P) (λ t. h.0) (λ f. found_is key es h.1)

  put_are : (key value : List ℕ) (m : kv.Map) → Are m → P value → Are (put byte_order key value m)
  put_are key value [] h f = (f, tt)
  put_are key value (e ∷ es) h f =
      elim (byte_order key e.0) as (λ o. Are (by_order o ((key, value) ∷ e ∷ es) ((e.0, value) ∷ es) (e ∷ put byte_order key value es))) [
        | Less ↦ (f, h)
        | Equal ↦ (f, h.1)
        | Greater ↦ (h.0, put_are key value es h.1 f)
      ]

  where_are : (p : List ℕ → Bool) (m : kv.Map) → Are m → Are (where_key byte_order p m)
  where_are p [] h = tt
  where_are p (e ∷ es) h = cond_both (p e.0) (e ∷ where_key byte_order p es) (where_key byte_order p es) Are (λ t. (h.0, where_are p es h.1)) (λ f. where_are p es h.1)

  putting_are : (m : kv.Map) (key value : List ℕ) → Are m → P value → Are (kv.putting m key value).machine
  unfolding kv.putting
  putting_are m key value h f =
      let new = kv.answers (put byte_order key value m) outcome.Ok in
      let same = kv.answers m outcome.Full in
      let changed = put_are key value m h f in
      cond_both (is_some (find byte_order key m)) new (cond (ltb (length m) 128) new same) (λ a. Are a.machine) (λ t. changed)
      (λ t. cond_both (ltb (length m) 128) new same (λ a. Are a.machine) (λ t. changed) (λ t. h))

  deleting_are : (m : kv.Map) (key : List ℕ) → Are m → Are (kv.deleting m key).machine
  unfolding kv.deleting
  deleting_are m key h =
      cond_both (is_some (find byte_order key m)) (kv.answers (without byte_order key m) outcome.Ok) (kv.answers m outcome.Absent) (λ a. Are a.machine)
      (λ t. where_are (λ x. not (eq_by_cmp byte_order key x)) m h) (λ t. h)

putting_answers : (v : ℕ) (m : kv.Map) (key value : List ℕ) → IsOutcome v (kv.putting m key value).outcome
unfolding kv.putting
putting_answers v m key value =
    let new = kv.answers (put byte_order key value m) outcome.Ok in
    let same = kv.answers m outcome.Full in
    cond_both (is_some (find byte_order key m)) new (cond (ltb (length m) 128) new same) (λ a. IsOutcome v a.outcome) (λ t. tt)
    (λ t. cond_both (ltb (length m) 128) new same (λ a. IsOutcome v a.outcome) (λ t. tt) (λ t. tt))

getting_answers : (v : ℕ) (m : kv.Map) (key : List ℕ) → AllByRecursion (λ p. is_text (value_limit v) p.1 ≡ true) m → IsOutcome v (kv.getting m key).outcome
unfolding kv.getting
getting_answers v m key h =
    let by : (o : Option (List ℕ)) → IfSome o (λ value. is_text (value_limit v) value ≡ true) → IsOutcome v (option_map_or outcome.Value o outcome.Absent) = elim [ None ↦ λ i. tt | Some value ↦ λ i. i ] in
    by (find byte_order key m) (found_is (λ value. is_text (value_limit v) value ≡ true) key m h)

deleting_answers : (v : ℕ) (m : kv.Map) (key : List ℕ) → IsOutcome v (kv.deleting m key).outcome
unfolding kv.deleting
deleting_answers v m key =
    cond_both (is_some (find byte_order key m)) (kv.answers (without byte_order key m) outcome.Ok) (kv.answers m outcome.Absent) (λ a. IsOutcome v a.outcome) (λ t. tt) (λ t. tt)

-- what a machine answers whose values are of the version
machine_answers : (v : ℕ) (m : kv.Map) (o : Operation) → AllByRecursion (λ p. is_text (value_limit v) p.1 ≡ true) m → IsOutcome v (kv.applied m o).outcome
unfolding kv.applied
machine_answers v m Register h = tt
machine_answers v m (Put key value) h = putting_answers v m key value
machine_answers v m (Get key) h = getting_answers v m key h
machine_answers v m (Delete key) h = deleting_answers v m key

-- and what it becomes by an operation of this version or of one before
machine_are : (v w : ℕ) (m : kv.Map) (o : Operation) → w ≤ v → v ≤ 2 → IsOperation w o → AllByRecursion (λ p. is_text (value_limit v) p.1 ≡ true) m
    → AllByRecursion (λ p. is_text (value_limit v) p.1 ≡ true) (kv.applied m o).machine
unfolding kv.applied kv.getting
machine_are v w m Register l k f h = h
machine_are v w m (Put key value) l k f h =
    putting_are (λ value. is_text (value_limit v) value ≡ true) m key value h (text_more (value_limit w) (value_limit v) value (more w v 1024 3000 l k (omega arith)) f.1)
machine_are v w m (Get key) l k f h = h
machine_are v w m (Delete key) l k f h = deleting_are (λ value. is_text (value_limit v) value ≡ true) m key h

-- ---- an entry

module _ (v : ℕ) (s : State) (h : Fits v s) where
  -- what the sessions answer
  pub check_fits : (client request : ℕ) → AnswerFits v (sess.checked s.sessions client request)
  unfolding sess.checked
  check_fits client request =
      let stored_is : (m : sess.Map) → AllByRecursion (λ e. IsOutcome v e.1.outcome) m → IfSome (find nat_cmp client m) (λ t. IsOutcome v t.outcome) = sessions_found_are in
      let one : (t : Session) → IsOutcome v t.outcome → AnswerFits v (sess.judged request t) = λ t i.
      cond_both (eqb request t.number) (answer.Repeat t.outcome t.op) (cond (ltb request t.number) answer.Old (cond (eqb request (t.number + 1)) answer.Fresh answer.Gap)) (AnswerFits v) (λ e. i)
      (λ e. cond_both (ltb request t.number) answer.Old (cond (eqb request (t.number + 1)) answer.Fresh answer.Gap) (AnswerFits v) (λ f. tt)
      (λ f. cond_both (eqb request (t.number + 1)) answer.Fresh answer.Gap (AnswerFits v) (λ g. tt) (λ g. tt))) in
      let none : AnswerFits v (cond (eqb request 0) answer.Fresh answer.Evicted) = cond_both (eqb request 0) answer.Fresh answer.Evicted (AnswerFits v) (λ e. tt) (λ e. tt) in
      let by : (o : Option Session) → IfSome o (λ t. IsOutcome v t.outcome) → AnswerFits v (option_map_or (sess.judged request) o (cond (eqb request 0) answer.Fresh answer.Evicted)) = elim [
        | None ↦ λ i. none
        | Some t ↦ λ i. one t i
      ] in
      by (find nat_cmp client s.sessions) (stored_is s.sessions h.outcomes)
    where
      sessions_found_are : (m : sess.Map) → AllByRecursion (λ e. IsOutcome v e.1.outcome) m → IfSome (find nat_cmp client m) (λ t. IsOutcome v t.outcome)
      sessions_found_are [] i = tt
      sessions_found_are (e ∷ es) i = cond_both (eq_by_cmp nat_cmp client e.0) (Some e.1) (find nat_cmp client es) (λ o. IfSome o (λ t. IsOutcome v t.outcome)) (λ t. i.0) (λ f. sessions_found_are es i.1)

  answered_reply : (e : Whole) (a : SessionAnswer) → AnswerFits v a → ReplyFits v (answered s e a).reply
  unfolding answered executed
  answered_reply e answer.Fresh f = machine_answers v s.machine e.operation h.values
  answered_reply e (answer.Repeat o op) f = f
  answered_reply e answer.Old f = tt
  answered_reply e answer.Gap f = tt
  answered_reply e answer.Evicted f = tt

  -- what an entry is answered, of whichever version it is
  pub reply_fits : (e : Whole) → ReplyFits v (applied s e).reply
  unfolding applied
  reply_fits e = answered_reply e (check s e) (check_fits e.header.client e.header.request)

  module _ (e : Whole) (within : e.header.version ≤ v) (most : v ≤ 2) (is : IsOperation e.header.version e.operation) where
    executed_fits : Fits v (executed s e).state
    unfolding executed
    executed_fits =
        let limit : session_limit e.header.version ≤ session_limit v = more e.header.version v 32 64 within most (omega arith) in
        let held = stays s.sessions (asked s e) (session_limit v) h.is_map limit h.few in
        record {
          is_map = held.is_map;
          few = held.few;
          outcomes = kept_applied (λ t. IsOutcome v t.outcome) s.sessions (asked s e) h.outcomes (machine_answers v s.machine e.operation h.values);
          values = machine_are v e.header.version s.machine e.operation within most is h.values;
        }

    answered_fits : (a : SessionAnswer) → Fits v (answered s e a).state
    unfolding answered
    answered_fits answer.Fresh = executed_fits
    answered_fits (answer.Repeat o op) = h
    answered_fits answer.Old = h
    answered_fits answer.Gap = h
    answered_fits answer.Evicted = h

    -- an entry of this version or of one before leaves a state that fits
    pub Fits-applied : Fits v (applied s e).state
    unfolding applied
    Fits-applied = answered_fits (check s e)

-- ---- entries

-- such an entry
pub record IsWithin (v : ℕ) (e : Whole) : Type 0 where
  pub version : e.header.version ≤ v
  pub operation : IsOperation e.header.version e.operation

all_fit : (v : ℕ) (s : State) (entries : List Whole) → v ≤ 2 → AllByRecursion (IsWithin v) entries → Fits v s → Fits v (fold (λ s e. (applied s e).state) s entries)
all_fit v s [] most all h = h
all_fit v s (e ∷ entries) most all h = all_fit v (applied s e).state entries most all.1 (Fits-applied v s h e all.0.version most all.0.operation)

pub Fits-after : (v : ℕ) (entries : List Whole) → v ≤ 2 → AllByRecursion (IsWithin v) entries → Fits v (state_after entries)
Fits-after v entries most all = all_fit v empty entries most all (Fits-empty v)
