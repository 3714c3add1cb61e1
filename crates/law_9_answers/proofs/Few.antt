-- Where each entry is of one of so many clients as have a session each in its version's table, no session is evicted, and each client begins one.
use Rattle.std.proofs.Common.{ℕ, zero, suc, ◌+◌, ◌-◌, ◌<◌, ◌≤◌, arith, ◌≡◌, ◌≢◌, ◌∙◌, ◌⊎◌, inl, inr, refl, sym, ap, subst, Bool, true, false, ◌&&◌, ◌||◌, cond, eqb, nat_lt, is_some, fold, List, [], ◌∷◌, ◌++◌, drop, length, take, Option, Some, None}
use Rattle.std.specs.Prelude.{⊤, IsTrue, slice_get}
use Rattle.std.specs.Option.{option_map_or}
use Rattle.std.specs.Ordering.{nat_cmp}
use Rattle.std.specs.FinMap.Entries.{find, put}
use Rattle.std.proofs.lemmas.Bool.{and_parts, cases_eq, cases_lt, eqb-true, lt-ltb, true≢false}
use Rattle.std.proofs.lemmas.List.{append-nil, append_assoc, take-append-drop}
use Rattle.std.proofs.lemmas.List.Sums.{fold-append}
use Rattle.vr_base.specs.Versions.{session_limit}
use Rattle.vr_header.specs.Made.{Whole}
use Rattle.vr_header.specs.declared.header.Header.{Header}
use Rattle.vr_client.specs.declared.answer.Answer.{Answer}
use Rattle.vr_client.specs.declared.answer.Answer.TheVariants as answers
use Rattle.vr_msg.specs.declared.reply.Answered.{Answered}
use Rattle.vr_msg.specs.declared.request.RequestFields.{RequestFields}
use Rattle.vr_state.specs.Asks.{is_fresh}
use Rattle.vr_state.specs.Effects.{stored}
use Rattle.vr_state.specs.Finite.{IsMap}
use Rattle.vr_state.specs.Folds as folds
use Rattle.vr_state.specs.Folds.{answered, applied, begins_session, check, empty, executed, fresh_at, outcome_of, state_after}
use Rattle.vr_state.specs.Sessions as sess
use Rattle.vr_state.specs.Sessions.{Map, checked, judged, without_oldest}
use Rattle.vr_state.specs.declared.session.Session.{Session}
use Rattle.vr_state.specs.declared.session.SessionAnswer.{SessionAnswer}
use Rattle.vr_state.specs.declared.session.SessionAnswer.TheVariants as answer
use Rattle.vr_state.specs.declared.state.State.{State}
use Rattle.vr_state.proofs.SessionSteps.{IsMap-put, find_put_other, find_put_own, length_put}
use Rattle.law_1_machine.specs.Basics.{In}
use Rattle.law_2_chains.proofs.StoredLists.{contains_in, in_contains}
use Rattle.law_3_outputs.proofs.Sets.{in_left}
use Rattle.law_6_one_log.specs.Outputs.{IsOnceInSession}
use Rattle.law_9_asked.specs.Asked.{IsExecuted}
use Rattle.law_9_answers.specs.Heard.{Heard}
use Rattle.law_9_answers.specs.History.{AskFew, Asks, Befalls, HasHeard, HasOneSessionEach, HaveOwnNumbers, Hears, IsLinearizable, IsOrdered, KeepsSessions, Moment, acts_in}
use Rattle.law_9_answers.specs.OrderLaws.{FewClientsAreLinearizable, SessionsStay}
use Rattle.law_9_answers.proofs.Acting.{runs_keep_order}
use Rattle.law_9_answers.proofs.Sessions.{executed_once, more_begin}
use Rattle.law_9_answers.proofs.Timing.{are_ordered}

-- ---- lists of numbers without repeats

abbrev pub AreApart : List ℕ → Type 0
AreApart [] = ⊤
AreApart (c ∷ cs) = (In c cs → ⊥) × AreApart cs

-- a list without one of its numbers
record IsWithout (c : ℕ) (ys : List ℕ) : Type 0 where
  rest : List ℕ
  one_less : length ys ≡ length rest + 1
  others : (d : ℕ) → In d ys → d ≢ c → In d rest

take_out : (c : ℕ) (ys : List ℕ) → In c ys → IsWithout c ys
take_out c [] i = absurd i
take_out c (y ∷ ys) (inl e) = record { rest = ys; one_less = omega arith; others = λ d i other. elim i [ inl same ↦ absurd (other (same ∙ sym e)) | inr k ↦ k ] }
take_out c (y ∷ ys) (inr i) =
    let r = take_out c ys i in
    let less = r.one_less in
    record { rest = y ∷ r.rest; one_less = omega (arith, less); others = λ d k other. elim k [ inl same ↦ inl same | inr later ↦ inr (r.others d later other) ] }

-- as many as another list has, at most, if they are all of it
pub no_more : (xs ys : List ℕ) → AreApart xs → ((c : ℕ) → In c xs → In c ys) → length xs ≤ length ys
no_more [] ys apart among = omega arith
no_more (x ∷ xs) ys apart among =
    let w = take_out x ys (among x (inl refl)) in
    let less = w.one_less in
    let l = no_more xs w.rest apart.1 (λ c i. w.others c (among c (inr i)) (λ same. apart.0 (subst (λ (d : ℕ). In d xs) same i))) in
    omega (arith, less, l)

-- ---- one request

abbrev has : ℕ → Map → Bool
has client m = is_some (find nat_cmp client m)

-- where there is room, or the client has a session, none gives way
put_plain : (m : Map) (a : sess.Asked) → (length m < session_limit a.version) ⊎ (has a.client m ≡ true) → sess.applied m a ≡ put nat_cmp a.client (stored a) m
unfolding sess.applied
put_plain m a (inl room) = rw (lt-ltb (length m) (session_limit a.version) room) refl
put_plain m a (inr there) =
    let new : Map = put nat_cmp a.client (stored a) m in
    let by : (b : Bool) → cond b new (cond (has a.client m) new (put nat_cmp a.client (stored a) (without_oldest m))) ≡ new = elim [ true ↦ refl | false ↦ rw there refl ] in
    by (nat_lt (length m) (session_limit a.version))

-- a session that was put in, and the others
has_own : (m : Map) (key : ℕ) (s : Session) → has key (put nat_cmp key s m) ≡ true
has_own m key s = ap is_some (find_put_own m key s)

has_other : (m : Map) (key : ℕ) (s : Session) (client : ℕ) → client ≢ key → has client (put nat_cmp key s m) ≡ has client m
has_other m key s client apart = ap is_some (find_put_other m key s client apart)

-- no register is fresh where its client has a session
not_fresh : (s : Session) → is_fresh (judged 0 s) ≡ true → ⊥
not_fresh s f =
    let last : (b : Bool) → eqb 0 (s.number + 1) ≡ b → is_fresh (cond b answer.Fresh answer.Gap) ≡ true → ⊥ = elim [
      | true ↦ λ e g. let same = eqb-true 0 (s.number + 1) e in omega (arith, same)
      | false ↦ λ e g. true≢false (sym g)
    ] in
    let old : (b : Bool) → is_fresh (cond b answer.Old (cond (eqb 0 (s.number + 1)) answer.Fresh answer.Gap)) ≡ true → ⊥ = elim [ true ↦ λ g. true≢false (sym g) | false ↦ λ g. last (eqb 0 (s.number + 1)) refl g ] in
    let first : (b : Bool) → is_fresh (cond b (answer.Repeat s.outcome s.op) (cond (nat_lt 0 s.number) answer.Old (cond (eqb 0 (s.number + 1)) answer.Fresh answer.Gap))) ≡ true → ⊥ = elim [ true ↦ λ g. true≢false (sym g) | false ↦ λ g. old (nat_lt 0 s.number) g ] in
    first (eqb 0 s.number) f

first_fresh : (m : Map) (client : ℕ) → is_fresh (checked m client 0) ≡ true → has client m ≡ true → ⊥
unfolding checked
first_fresh m client =
    let by : (o : Option Session) → is_fresh (option_map_or (judged 0) o (cond (eqb 0 0) answer.Fresh answer.Evicted)) ≡ true → is_some o ≡ true → ⊥ = elim [
      | None ↦ λ f h. true≢false (sym h)
      | Some s ↦ λ f h. not_fresh s f
    ] in
    by (find nat_cmp client m)

-- ---- of these clients

module _ (clients : List ℕ) where
  -- an entry of one of them, whose version has a session for each
  pub record IsTheirs (e : Whole) : Type 0 where
    pub client : In e.header.client clients
    pub room : length clients ≤ session_limit e.header.version

  abbrev pub AreTheirs : List Whole → Type 0
  AreTheirs entries = (e : Whole) → In e entries → IsTheirs e

  -- sessions of some of them, each of one
  record AreOfThese (m : Map) : Type 0 where
    is_map : IsMap nat_cmp m
    keys : List ℕ
    apart : AreApart keys
    among : (c : ℕ) → In c keys → In c clients
    size : length m ≡ length keys
    there : (c : ℕ) → In c keys → has c m ≡ true
    only : (c : ℕ) → has c m ≡ true → In c keys

  none_there : AreOfThese []
  none_there = record { is_map = refl; keys = []; apart = tt; among = λ c i. absurd i; size = refl; there = λ c i. absurd i; only = λ c h. absurd (true≢false (sym h)) }

  -- one that is there, and a new one
  again : (m : Map) (key : ℕ) (s : Session) → AreOfThese m → has key m ≡ true → AreOfThese (put nat_cmp key s m)
  again m key s h t =
      let stays : (c : ℕ) → has c m ≡ true → has c (put nat_cmp key s m) ≡ true = λ c k. elim (cases_eq c key) [ inl same ↦ subst (λ (d : ℕ). has d (put nat_cmp key s m) ≡ true) (sym same) (has_own m key s) | inr apart ↦ has_other m key s c apart ∙ k ] in
      record {
        is_map = IsMap-put m key s h.is_map;
        keys = h.keys;
        apart = h.apart;
        among = h.among;
        size = length_put m key s h.is_map ∙ (ap (λ (b : Bool). cond b (length m) (length m + 1)) t ∙ h.size);
        there = λ c i. stays c (h.there c i);
        only = λ c k. elim (cases_eq c key) [ inl same ↦ subst (λ (d : ℕ). In d h.keys) (sym same) (h.only key t) | inr apart ↦ h.only c (sym (has_other m key s c apart) ∙ k) ];
      }

  more : (m : Map) (key : ℕ) (s : Session) → AreOfThese m → In key clients → has key m ≡ false → AreOfThese (put nat_cmp key s m)
  more m key s h theirs new =
      let size = h.size in
      record {
        is_map = IsMap-put m key s h.is_map;
        keys = key ∷ h.keys;
        apart = (λ i. true≢false (sym (h.there key i) ∙ new), h.apart);
        among = λ c i. elim i [ inl same ↦ subst (λ (d : ℕ). In d clients) (sym same) theirs | inr k ↦ h.among c k ];
        size = length_put m key s h.is_map ∙ (ap (λ (b : Bool). cond b (length m) (length m + 1)) new ∙ omega (arith, size));
        there = λ c i. elim (cases_eq c key) [
          | inl same ↦ subst (λ (d : ℕ). has d (put nat_cmp key s m) ≡ true) (sym same) (has_own m key s)
          | inr apart ↦ has_other m key s c apart ∙ elim i [ inl same ↦ absurd (apart same) | inr k ↦ h.there c k ]
        ];
        only = λ c k. elim (cases_eq c key) [ inl same ↦ inl same | inr apart ↦ inr (h.only c (sym (has_other m key s c apart) ∙ k)) ];
      }

  -- a new client's session has room
  has_room : (m : Map) (key : ℕ) → AreOfThese m → In key clients → has key m ≡ false → length m < length clients
  has_room m key h theirs new =
      let size = h.size in
      let all : length (key ∷ h.keys) ≤ length clients = no_more (key ∷ h.keys) clients (λ i. true≢false (sym (h.there key i) ∙ new), h.apart) (λ c i. elim i [ inl same ↦ subst (λ (d : ℕ). In d clients) (sym same) theirs | inr k ↦ h.among c k ]) in
      omega (arith, size, all)

  -- what a request leaves: sessions of these, all that there were, and its own
  record Leaves (m after : Map) (client : ℕ) : Type 0 where
    these : AreOfThese after
    kept : (c : ℕ) → has c m ≡ true → has c after ≡ true
    own : has client after ≡ true

  kept_put : (m : Map) (key : ℕ) (s : Session) (c : ℕ) → has c m ≡ true → has c (put nat_cmp key s m) ≡ true
  kept_put m key s c k = elim (cases_eq c key) [ inl same ↦ subst (λ (d : ℕ). has d (put nat_cmp key s m) ≡ true) (sym same) (has_own m key s) | inr apart ↦ has_other m key s c apart ∙ k ]

  leaves_put : (m : Map) (a : sess.Asked) → AreOfThese m → In a.client clients → length clients ≤ session_limit a.version → Leaves m (sess.applied m a) a.client
  leaves_put m a h theirs room =
      let new : Map = put nat_cmp a.client (stored a) m in
      let so : (plain : sess.applied m a ≡ new) → AreOfThese new → Leaves m (sess.applied m a) a.client = λ plain these.
      subst (λ (z : Map). Leaves m z a.client) (sym plain) (record { these = these; kept = kept_put m a.client (stored a); own = has_own m a.client (stored a) }) in
      let by : (b : Bool) → has a.client m ≡ b → Leaves m (sess.applied m a) a.client = elim [
        | true ↦ λ t. so (put_plain m a (inr t)) (again m a.client (stored a) h t)
        | false ↦ λ t. let few = has_room m a.client h theirs t in so (put_plain m a (inl (omega (arith, few, room)))) (more m a.client (stored a) h theirs t)
      ] in
      by (has a.client m) refl

  -- ---- one entry

  record Goes (s : State) (e : Whole) : Type 0 where
    these : AreOfThese (applied s e).state.sessions
    kept : (c : ℕ) → has c s.sessions ≡ true → has c (applied s e).state.sessions ≡ true
    own : fresh_at s e ≡ true → has e.header.client (applied s e).state.sessions ≡ true

  goes : (s : State) (e : Whole) → AreOfThese s.sessions → IsTheirs e → Goes s e
  unfolding applied answered executed
  goes s e h theirs =
      let still : (x : SessionAnswer) → (answered s e x).state ≡ s → is_fresh x ≡ false → check s e ≡ x → Goes s e = λ x same old is.
      let all : (applied s e).state ≡ s = ap (λ (y : SessionAnswer). (answered s e y).state) is ∙ same in
      record {
        these = subst (λ (z : State). AreOfThese z.sessions) (sym all) h;
        kept = λ c k. subst (λ (z : State). has c z.sessions ≡ true) (sym all) k;
        own = λ f. absurd (true≢false (sym f ∙ (ap is_fresh is ∙ old)));
      } in
      let by : (x : SessionAnswer) → check s e ≡ x → Goes s e = elim [
        | answer.Fresh ↦ λ is.
            let l = leaves_put s.sessions (folds.asked s e) h theirs.client theirs.room in
            let all : (applied s e).state ≡ (executed s e).state = ap (λ (y : SessionAnswer). (answered s e y).state) is in
            record {
              these = subst (λ (z : State). AreOfThese z.sessions) (sym all) l.these;
              kept = λ c k. subst (λ (z : State). has c z.sessions ≡ true) (sym all) (l.kept c k);
              own = λ f. subst (λ (z : State). has e.header.client z.sessions ≡ true) (sym all) l.own;
            }
        | answer.Repeat outcome op ↦ λ is. still (answer.Repeat outcome op) refl refl is
        | answer.Old ↦ λ is. still answer.Old refl refl is
        | answer.Gap ↦ λ is. still answer.Gap refl refl is
        | answer.Evicted ↦ λ is. still answer.Evicted refl refl is
      ] in
      by (check s e) refl

  -- ---- entries one after the other

  later : State → List Whole → State
  later s entries = fold (λ s e. (applied s e).state) s entries

  stays : (client : ℕ) (entries : List Whole) (s : State) → AreTheirs entries → AreOfThese s.sessions → has client s.sessions ≡ true → has client (later s entries).sessions ≡ true
  unfolding later
  stays client [] s all h k = k
  stays client (e ∷ entries) s all h k =
      let g = goes s e h (all e (inl refl)) in
      stays client entries (applied s e).state (λ d i. all d (inr i)) g.these (g.kept client k)

  -- a session that some entry began is there after the last
  begun_stays : (client : ℕ) (entries : List Whole) (s : State) → AreTheirs entries → AreOfThese s.sessions → begins_session client s entries ≡ true → has client (later s entries).sessions ≡ true
  unfolding later begins_session
  begun_stays client [] s all h k = absurd (true≢false (sym k))
  begun_stays client (e ∷ entries) s all h k =
      let g = goes s e h (all e (inl refl)) in
      let rest : AreTheirs entries = λ d i. all d (inr i) in
      let own : Bool = eqb e.header.client client && eqb e.header.request 0 in
      let by : (b : Bool) → (fresh_at s e && own) ≡ b → (b || begins_session client (applied s e).state entries) ≡ true → has client (later (applied s e).state entries).sessions ≡ true = elim [
        | true ↦ λ now z.
            let p = and_parts (fresh_at s e) own now in
            let same = eqb-true e.header.client client (and_parts (eqb e.header.client client) (eqb e.header.request 0) p.1).0 in
            stays client entries (applied s e).state rest g.these (subst (λ (c : ℕ). has c (applied s e).state.sessions ≡ true) same (g.own p.0))
        | false ↦ λ now z. begun_stays client entries (applied s e).state rest g.these z
      ] in
      by (fresh_at s e && own) refl k

  pub keeps_sessions : (log : List Whole) → AreTheirs log → KeepsSessions log
  unfolding later
  keeps_sessions log all client before rest is begun =
      begun_stays client before empty (λ e i. all e (subst (λ (xs : List Whole). In e xs) (sym is) (in_left before rest e i))) none_there begun

-- ---- so no client begins a second one

one_more : (before : List Whole) (e : Whole) → state_after (before ++ e ∷ []) ≡ (applied (state_after before) e).state
one_more before e = fold-append (λ (s : State) (d : Whole). (applied s d).state) empty before (e ∷ [])

pub kept_sessions_are_one : (log : List Whole) → KeepsSessions log → HasOneSessionEach log
unfolding begins_session
kept_sessions_are_one log kept client = second
  where
    second : (before rest : List Whole) → log ≡ before ++ rest → IsTrue (begins_session client empty before) → IsTrue (begins_session client (state_after before) rest) → ⊥
    second before [] is begun again = true≢false (sym again)
    second before (e ∷ rest) is begun again =
        let s : State = state_after before in
        let own : Bool = eqb e.header.client client && eqb e.header.request 0 in
        let by : (b : Bool) → (fresh_at s e && own) ≡ b → (b || begins_session client (applied s e).state rest) ≡ true → ⊥ = elim [
          | true ↦ λ now z.
              let p = and_parts (fresh_at s e) own now in
              let q = and_parts (eqb e.header.client client) (eqb e.header.request 0) p.1 in
              let who = eqb-true e.header.client client q.0 in
              let first = eqb-true e.header.request 0 q.1 in
              let there : has client s.sessions ≡ true = kept client before (e ∷ rest) is begun in
              first_fresh s.sessions client (subst (λ (k : ℕ). is_fresh (checked s.sessions client k) ≡ true) first (subst (λ (c : ℕ). is_fresh (checked s.sessions c e.header.request) ≡ true) who p.0)) there
          | false ↦ λ now z.
              second (before ++ e ∷ []) rest (is ∙ sym (append_assoc before (e ∷ []) rest)) (more_begin client empty before (e ∷ []) begun) (subst (λ (t : State). begins_session client t rest ≡ true) (sym (one_more before e)) z)
        ] in
        by (fresh_at s e && own) refl again

-- ---- fronts of a list

pub get_front : (xs : List Whole) (k m : ℕ) (e : Whole) → k < m → slice_get xs k ≡ Some e → slice_get (take m xs) k ≡ Some e
get_front [] k m e less at = absurd cc
get_front (x ∷ xs) k zero e less at = absurd (omega (arith, less))
get_front (x ∷ xs) zero (suc m) e less at = at
get_front (x ∷ xs) (suc k) (suc m) e less at = get_front xs k m e (omega (arith, less)) at

front_get : (xs : List Whole) (k m : ℕ) (e : Whole) → slice_get (take m xs) k ≡ Some e → (k < m) × (slice_get xs k ≡ Some e)
front_get [] k zero e at = absurd cc
front_get [] k (suc m) e at = absurd cc
front_get (x ∷ xs) k zero e at = absurd cc
front_get (x ∷ xs) zero (suc m) e at = (omega arith, at)
front_get (x ∷ xs) (suc k) (suc m) e at = let r = front_get xs k m e at in let less = r.0 in (omega (arith, less), r.1)

front_front : (xs : List Whole) (k m : ℕ) → k ≤ m → take k (take m xs) ≡ take k xs
front_front xs zero m l = refl
front_front [] (suc k) zero l = absurd (omega (arith, l))
front_front [] (suc k) (suc m) l = refl
front_front (x ∷ xs) (suc k) zero l = absurd (omega (arith, l))
front_front (x ∷ xs) (suc k) (suc m) l = ap (λ (ys : List Whole). x ∷ ys) (front_front xs k m (omega (arith, l)))

record IsAt (xs : List Whole) (m : ℕ) (e : Whole) : Type 0 where
  place : ℕ
  within : place < m
  at : slice_get xs place ≡ Some e

in_front : (xs : List Whole) (m : ℕ) (e : Whole) → In e (take m xs) → IsAt xs m e
in_front [] zero e i = absurd i
in_front [] (suc m) e i = absurd i
in_front (x ∷ xs) zero e i = absurd i
in_front (x ∷ xs) (suc m) e (inl same) = record { place = zero; within = omega arith; at = ap Some (sym same) }
in_front (x ∷ xs) (suc m) e (inr i) = let r = in_front xs m e i in let less = r.within in record { place = suc r.place; within = omega (arith, less); at = r.at }

-- ---- the last outcome that is heard

record HasLast (h : List Moment) : Type 0 where
  upto : ℕ
  all : (q : RequestFields) (a : Answered) → HasHeard h q a → a.op ≤ upto
  -- each op up to there is at most that of one that is heard
  some : (op : ℕ) → 0 < op → op ≤ upto → (q : RequestFields) × (a : Answered) × HasHeard h q a × (op ≤ a.op)

heard_later : (m : Moment) (h : List Moment) (q : RequestFields) (a : Answered) → HasHeard h q a → HasHeard (m ∷ h) q a
heard_later m h q a x = record { by = x.by; heard = x.heard; moment = in_contains (Hears x.by x.heard) (m ∷ h) (inr (contains_in (Hears x.by x.heard) h x.moment)); request = x.request; outcome = x.outcome }

heard_front : (h before after : List Moment) → h ≡ before ++ after → (q : RequestFields) (a : Answered) → HasHeard before q a → HasHeard h q a
heard_front h before after is q a x =
    let there : In (Hears x.by x.heard) (before ++ after) = in_left before after (Hears x.by x.heard) (contains_in (Hears x.by x.heard) before x.moment) in
    record { by = x.by; heard = x.heard; moment = in_contains (Hears x.by x.heard) h (subst (λ (g : List Moment). In (Hears x.by x.heard) g) (sym is) there); request = x.request; outcome = x.outcome }

heard_now : (m : Moment) (h : List Moment) (q : RequestFields) (a : Answered) (x : HasHeard (m ∷ h) q a) → (Hears x.by x.heard ≡ m) ⊎ HasHeard h q a
heard_now m h q a x =
    elim (contains_in (Hears x.by x.heard) (m ∷ h) x.moment) [
      | inl e ↦ inl e
      | inr i ↦ inr (record { by = x.by; heard = x.heard; moment = in_contains (Hears x.by x.heard) h i; request = x.request; outcome = x.outcome })
    ]

some_later : (m : Moment) (h : List Moment) (g : HasLast h) (op : ℕ) → 0 < op → op ≤ g.upto → (q : RequestFields) × (a : Answered) × HasHeard (m ∷ h) q a × (op ≤ a.op)
some_later m h g op above upto = let y = g.some op above upto in (y.0, y.1, heard_later m h y.0 y.1 y.2, y.3)

-- where no outcome is heard now
last_quiet : (m : Moment) (h : List Moment) → ((by : ℕ) (t : Heard) (a : Answered) → Hears by t ≡ m → t.answer ≡ answers.Outcome a → ⊥) → HasLast h → HasLast (m ∷ h)
last_quiet m h none g = record {
  upto = g.upto;
  all = λ q a x. elim (heard_now m h q a x) [ inl e ↦ absurd (none x.by x.heard a e x.outcome) | inr y ↦ g.all q a y ];
  some = some_later m h g;
}

one_answer : (by number : ℕ) (t u : Heard) (a b : Answered) → Hears number u ≡ Hears by t → t.answer ≡ answers.Outcome a → u.answer ≡ answers.Outcome b → b ≡ a
one_answer by number t u a b e x y =
    let same : u ≡ t = cc in
    let both : answers.Outcome b ≡ answers.Outcome a = sym y ∙ (ap (λ (s : Heard). s.answer) same ∙ x) in
    cc

last_heard : (by : ℕ) (t : Heard) (a : Answered) (h : List Moment) → t.answer ≡ answers.Outcome a → HasLast h → HasLast (Hears by t ∷ h)
last_heard by t a h outcome g =
    let its : (b : Answered) (q : RequestFields) (x : HasHeard (Hears by t ∷ h) q b) → Hears x.by x.heard ≡ Hears by t → b.op ≡ a.op = λ b q x e. ap (λ (y : Answered). y.op) (one_answer by x.by t x.heard a b e outcome x.outcome) in
    elim (cases_lt g.upto a.op) [
      | inl less ↦ record {
        upto = a.op;
        all = λ q b x. elim (heard_now (Hears by t) h q b x) [ inl e ↦ (let same = its b q x e in omega (arith, same)) | inr y ↦ (let low = g.all q b y in omega (arith, low, less)) ];
        some = λ op above upto. (t.request, a, record { by = by; heard = t; moment = in_contains (Hears by t) (Hears by t ∷ h) (inl refl); request = refl; outcome = outcome }, upto);
      }
      | inr most ↦ record {
        upto = g.upto;
        all = λ q b x. elim (heard_now (Hears by t) h q b x) [ inl e ↦ (let same = its b q x e in omega (arith, same, most)) | inr y ↦ g.all q b y ];
        some = some_later (Hears by t) h g;
      }
    ]

last_of : (h : List Moment) → HasLast h
last_of [] = record { upto = 0; all = λ q a x. absurd (contains_in (Hears x.by x.heard) [] x.moment); some = λ op above upto. absurd (omega (arith, above, upto)) }
last_of (Asks by q ∷ h) = last_quiet (Asks by q) h (λ i t a e x. cc) (last_of h)
last_of (Befalls x ∷ h) = last_quiet (Befalls x) h (λ i t a e y. cc) (last_of h)
last_of (Hears by t ∷ h) =
    let g = last_of h in
    let none : (x : Answer) → t.answer ≡ x → ((a : Answered) → x ≡ answers.Outcome a → ⊥) → HasLast (Hears by t ∷ h) = λ x is other.
    last_quiet (Hears by t) h (λ i u a e y. let same : u ≡ t = cc in other a (sym is ∙ (ap (λ (s : Heard). s.answer) (sym same) ∙ y))) g in
    let by_answer : (x : Answer) → t.answer ≡ x → HasLast (Hears by t ∷ h) = elim [
      | answers.Outcome a ↦ λ is. last_heard by t a h is g
      | answers.Old ↦ λ is. none answers.Old is (λ a e. cc)
      | answers.Gap ↦ λ is. none answers.Gap is (λ a e. cc)
      | answers.Evicted ↦ λ is. none answers.Evicted is (λ a e. cc)
    ] in
    by_answer t.answer refl

-- ---- a front of the log in which all stands that is heard

module _ (log : List Whole) (h : List Moment) (m : ℕ) (all : (q : RequestFields) (a : Answered) → HasHeard h q a → a.op ≤ m) where
  to_front : (q : RequestFields) (a : Answered) → a.op ≤ m → IsExecuted log q a → IsExecuted (take m log) q a
  to_front q a l x =
      let above = x.number in
      let same : take (a.op - 1) log ≡ take (a.op - 1) (take m log) = sym (front_front log (a.op - 1) m (omega (arith, l))) in
      record {
        entry = x.entry;
        number = x.number;
        at = get_front log (a.op - 1) m x.entry (omega (arith, l, above)) x.at;
        client = x.client;
        request = x.request;
        fresh = subst (λ (front : List Whole). check (state_after front) x.entry ≡ answer.Fresh) same x.fresh;
        outcome = subst (λ (front : List Whole). a.outcome ≡ outcome_of (state_after front) x.entry) same x.outcome;
      }

  from_front : (q : RequestFields) (a : Answered) → IsExecuted (take m log) q a → IsExecuted log q a
  from_front q a x =
      let y = front_get log (a.op - 1) m x.entry x.at in
      let less = y.0 in
      let same : take (a.op - 1) (take m log) ≡ take (a.op - 1) log = front_front log (a.op - 1) m (omega (arith, less)) in
      record {
        entry = x.entry;
        number = x.number;
        at = y.1;
        client = x.client;
        request = x.request;
        fresh = subst (λ (front : List Whole). check (state_after front) x.entry ≡ answer.Fresh) same x.fresh;
        outcome = subst (λ (front : List Whole). a.outcome ≡ outcome_of (state_after front) x.entry) same x.outcome;
      }

  front_ordered : IsOrdered log h → IsOrdered (take m log) h
  unfolding to_front
  front_ordered o = record {
    executed = λ q a x. to_front q a (all q a x) (o.executed q a x);
    own = λ q a x alone. let y = o.own q a x alone in record { executed = to_front q a (all q a x) y.executed; operation = y.operation };
    asked = λ before after is q a x op above upto.
        let y = o.asked before after is q a x op above upto in
        let most = all q a (heard_front h before after is q a x) in
        record { entry = y.entry; at = get_front log (op - 1) m y.entry (omega (arith, above, upto, most)) y.at; request = y.request; asked = y.asked; made_of = y.made_of };
    real_time = λ before after is q p a b x new y. o.real_time before after is q p a b x new (from_front p b y);
  }

  front_once : IsOnceInSession log → IsOnceInSession (take m log)
  front_once once before between later d e is =
      once before between (later ++ drop m log) d e
      (sym (take-append-drop m log) ∙ (ap (λ (xs : List Whole). xs ++ drop m log) is ∙ append_assoc (before ++ (d ∷ between)) (e ∷ later) (drop m log)))

  pub front_linearizes : IsOrdered log h → IsOnceInSession log → HaveOwnNumbers h → HasOneSessionEach (take m log) → IsLinearizable (take m log) h
  front_linearizes o once own each =
      let f = front_ordered o in
      record { ordered = f; executed = λ q a x. f.own q a x (own q a x); once = executed_once (take m log) (front_once once) each }

-- ---- of a history in which few ask

pub few_keep : (log : List Whole) (h : List Moment) → IsOrdered log h → AskFew h → SessionsStay log h
few_keep log h ordered few =
    let g = last_of h in
    let theirs : AreTheirs few.clients (take g.upto log) = λ e i.
    let k = in_front log g.upto e i in
    let within = k.within in
    let y = g.some (k.place + 1) (omega arith) (omega (arith, within)) in
    let x = ordered.asked h [] (sym (append-nil h)) y.0 y.1 y.2 (k.place + 1) (omega arith) y.3 in
    let place : k.place + 1 - 1 ≡ k.place = omega arith in
    let there : slice_get log k.place ≡ Some x.entry = subst (λ (j : ℕ). slice_get log j ≡ Some x.entry) place x.at in
    let both : Some x.entry ≡ Some e = sym there ∙ k.at in
    let one : x.entry ≡ e = cc in
    let client : x.request.client ≡ e.header.client = ap (λ (d : Header). d.client) (sym x.made_of.header) ∙ ap (λ (z : Whole). z.header.client) one in
    let version : x.request.version ≡ e.header.version = ap (λ (d : Header). d.version) (sym x.made_of.header) ∙ ap (λ (z : Whole). z.header.version) one in
    record {
      client = subst (λ (c : ℕ). In c few.clients) client (contains_in x.request.client few.clients (few.theirs x.request x.asked));
      room = subst (λ (v : ℕ). length few.clients ≤ session_limit v) version (few.few x.request x.asked);
    } in
    let sessions : KeepsSessions (take g.upto log) = keeps_sessions few.clients (take g.upto log) theirs in
    record { upto = g.upto; all = g.all; sessions = sessions; single = kept_sessions_are_one (take g.upto log) sessions }

pub few_linearize : FewClientsAreLinearizable
few_linearize kinds cluster n first h are number some many short r never carried few =
    let k = runs_keep_order kinds cluster n first (acts_in h) are number some many short r never in
    let log = k.one.log.safe.log in
    let ordered = are_ordered log h carried k.order in
    let kept = few_keep log h ordered few in
    record { one = k.one; kept = kept; linearizable = λ own. front_linearizes log h kept.upto kept.all ordered k.one.log.once own kept.single }
