-- The order of the log respects that of time.
use Rattle.std.proofs.Common.{ℕ, ◌≤◌, ◌<◌, ◌≡◌, ◌∙◌, inl, inr, arith, refl, sym, ap, subst, List, [], ◌∷◌, ◌++◌, Some}
use Rattle.std.proofs.lemmas.Bool.{cases_lt}
use Rattle.std.proofs.lemmas.List.{append-nil, append_assoc}
use Rattle.vr_client.specs.declared.answer.Answer.TheVariants as answer
use Rattle.vr_header.specs.Made.{Whole}
use Rattle.vr_header.specs.declared.header.Header.{Header}
use Rattle.vr_msg.specs.declared.reply.Answered.{Answered}
use Rattle.vr_msg.specs.declared.reply.ReplyFields.{ReplyFields}
use Rattle.vr_msg.specs.declared.reply.ReplyKind.{ReplyKind}
use Rattle.vr_msg.specs.declared.request.RequestFields.{RequestFields}
use Rattle.vr_world.specs.Commitment.{IsOutcomeOf, IsReplyOf}
use Rattle.law_1_machine.specs.Basics.{In}
use Rattle.law_3_outputs.proofs.Sets.{in_left}
use Rattle.law_2_chains.proofs.StoredLists.{contains_in, in_contains}
use Rattle.law_6_one_log.specs.Outputs.{IsOnceInSession}
use Rattle.law_7_members.specs.Files.{ActBy}
use Rattle.law_9_answers.specs.Heard.{Heard}
use Rattle.law_9_asked.specs.Asked.{IsExecuted}
use Rattle.law_9_asked.proofs.Executing.{executed}
use Rattle.law_9_answers.specs.History.{Asks, Befalls, HasAsked, HasHeard, HasOneSessionEach, HaveOwnNumbers, Hears, IsAlone, IsCarried, IsExecutedAs, IsLinearizable, IsNew, IsOfAsked, IsOrdered, Moment, acts_in}
use Rattle.law_9_answers.specs.OrderLaws.{HistoriesAreLinearizable}
use Rattle.law_9_answers.specs.Order.{AsksComeFirst, IsAskedFor, RestsOnAsked}
use Rattle.law_9_answers.proofs.Acting.{runs_keep_order}
use Rattle.law_9_answers.proofs.Sessions.{executed_once}

-- ---- moments

pub acts_both : (g h : List Moment) → acts_in (g ++ h) ≡ acts_in g ++ acts_in h
acts_both [] h = refl
acts_both (Asks by q ∷ g) h = acts_both g h
acts_both (Hears by t ∷ g) h = acts_both g h
acts_both (Befalls x ∷ g) h = ap (λ (xs : List ActBy). x ∷ xs) (acts_both g h)

-- where a moment stands
pub record Stands (h : List Moment) (m : Moment) : Type 0 where
  pub before : List Moment
  pub after : List Moment
  pub is : h ≡ before ++ (m ∷ after)

later : (x : Moment) (h : List Moment) (m : Moment) → Stands h m → Stands (x ∷ h) m
later x h m s = record { before = x ∷ s.before; after = s.after; is = ap (λ (g : List Moment). x ∷ g) s.is }

pub stands : (h : List Moment) (m : Moment) → In m h → Stands h m
stands [] m i = absurd i
stands (x ∷ h) m (inl e) = record { before = []; after = h; is = ap (λ (y : Moment). y ∷ h) (sym e) }
stands (x ∷ h) m (inr i) = later x h m (stands h m i)

act_stands : (h : List Moment) (x : ActBy) → In x (acts_in h) → Stands h (Befalls x)
act_stands [] x i = absurd i
act_stands (Asks by q ∷ h) x i = later (Asks by q) h (Befalls x) (act_stands h x i)
act_stands (Hears by t ∷ h) x i = later (Hears by t) h (Befalls x) (act_stands h x i)
act_stands (Befalls y ∷ h) x (inl e) = record { before = []; after = h; is = ap (λ (z : ActBy). Befalls z ∷ h) (sym e) }
act_stands (Befalls y ∷ h) x (inr i) = later (Befalls y) h (Befalls x) (act_stands h x i)

-- in the first part of a history it stands with the same moments before it
longer : (h before after : List Moment) (m : Moment) → h ≡ before ++ after → (s : Stands before m) → h ≡ s.before ++ (m ∷ (s.after ++ after))
longer h before after m is s = is ∙ (ap (λ (g : List Moment). g ++ after) s.is ∙ append_assoc s.before (m ∷ s.after) after)

-- what was asked before it was asked in all of it
asked_more : (h : List Moment) (q : RequestFields) (m : Moment) (s : Stands h m) → HasAsked s.before q → HasAsked h q
asked_more h q m s a =
    record { by = a.by; moment = in_contains (Asks a.by q) h (subst (λ (g : List Moment). In (Asks a.by q) g) (sym s.is) (in_left s.before (m ∷ s.after) (Asks a.by q) (contains_in (Asks a.by q) s.before a.moment))) }

asked_front : (before after : List Moment) (q : RequestFields) → HasAsked before q → HasAsked (before ++ after) q
asked_front before after q a = record { by = a.by; moment = in_contains (Asks a.by q) (before ++ after) (in_left before after (Asks a.by q) (contains_in (Asks a.by q) before a.moment)) }

-- ---- a history

module _ (log : List Whole) (h : List Moment) (carried : IsCarried h) (order : AsksComeFirst log (acts_in h)) where
  -- what an outcome that was heard rests on
  record IsResting (before : List Moment) (q : RequestFields) (a : Answered) : Type 0 where
    given : ReplyFields
    client : given.client ≡ q.client
    number : given.request ≡ q.request
    entries : ℕ
    outcome : IsOutcomeOf log entries given a
    each : (op : ℕ) → 0 < op → op ≤ entries → IsAskedFor log (acts_in before) op

  resting : (before after : List Moment) (by : ℕ) (t : Heard) (a : Answered) → h ≡ before ++ (Hears by t ∷ after) → t.answer ≡ answer.Outcome a → IsResting before t.request a
  resting before after by t a is outcome =
      let p = carried.heard before after by t a is outcome in
      let acts : acts_in h ≡ acts_in before ++ acts_in (Hears by t ∷ after) = ap acts_in is ∙ acts_both before (Hears by t ∷ after) in
      let r : RestsOnAsked log (acts_in before) p.given = order (acts_in before) (acts_in (Hears by t ∷ after)) acts p.given p.moment in
      record {
        given = p.given;
        client = p.client;
        number = p.number;
        entries = r.entries;
        outcome = subst (λ (k : ReplyKind). IsReplyOf log r.entries r.after p.given k) p.outcome r.says;
        each = r.each;
      }

  -- in the first part of the history
  record WasHeard (before : List Moment) (q : RequestFields) (a : Answered) : Type 0 where
    by : ℕ
    heard : Heard
    stands : Stands before (Hears by heard)
    rests : IsResting stands.before q a

  was_heard : (before after : List Moment) → h ≡ before ++ after → (q : RequestFields) (a : Answered) → HasHeard before q a → WasHeard before q a
  was_heard before after is q a x =
      let m = Hears x.by x.heard in
      let s = stands before m (contains_in m before x.moment) in
      record { by = x.by; heard = x.heard; stands = s; rests = subst (λ (p : RequestFields). IsResting s.before p a) x.request (resting s.before (s.after ++ after) x.by x.heard a (longer h before after m is s) x.outcome) }

  all_of : h ≡ h ++ []
  all_of = sym (append-nil h)

  executed_there : (q : RequestFields) (a : Answered) → HasHeard h q a → IsExecuted log q a
  executed_there q a x = let r = (was_heard h [] all_of q a x).rests in executed log r.entries r.given q a r.client r.number r.outcome

  -- what was asked of a member was asked before
  asked_before : (before after : List Moment) → h ≡ before ++ after → (op : ℕ) → IsAskedFor log (acts_in before) op → IsOfAsked log before op
  asked_before before after is op x =
      let w = x.asked in
      let s = act_stands before w.act (contains_in w.act (acts_in before) w.among) in
      let p = carried.asked s.before (s.after ++ after) w.act w.request (longer h before after (Befalls w.act) is s) w.asks in
      record { entry = x.entry; at = x.at; request = w.request; asked = asked_more before w.request (Befalls w.act) s p; made_of = w.made_of }

  -- up to the place of an outcome that was heard
  asked_upto : (before after : List Moment) → h ≡ before ++ after → (q : RequestFields) (a : Answered) → HasHeard before q a → (op : ℕ) → 0 < op → op ≤ a.op → IsOfAsked log before op
  asked_upto before after is q a x op above upto =
      let y = was_heard before after is q a x in
      let s = y.stands in
      let most = y.rests.outcome.op.1 in
      let z = asked_before s.before (Hears y.by y.heard ∷ (s.after ++ after)) (longer h before after (Hears y.by y.heard) is s) op (y.rests.each op above (omega (arith, upto, most))) in
      record { entry = z.entry; at = z.at; request = z.request; asked = asked_more before z.request (Hears y.by y.heard) s z.asked; made_of = z.made_of }

  -- the entry that was executed for a client and a number was made of a request of these
  record IsTheirs (before : List Moment) (q : RequestFields) (entry : Whole) : Type 0 where
    request : RequestFields
    asked : HasAsked before request
    client : request.client ≡ q.client
    number : request.request ≡ q.request
    operation : entry.operation ≡ request.operation

  theirs : (before : List Moment) (q : RequestFields) (b : Answered) (x : IsExecuted log q b) → IsOfAsked log before b.op → IsTheirs before q x.entry
  theirs before q b x y =
      let both : Some y.entry ≡ Some x.entry = sym y.at ∙ x.at in
      let one : y.entry ≡ x.entry = cc in
      record {
        request = y.request;
        asked = y.asked;
        client = ap (λ (z : Header). z.client) (sym y.made_of.header) ∙ (ap (λ (e : Whole). e.header.client) one ∙ x.client);
        number = ap (λ (z : Header). z.request) (sym y.made_of.header) ∙ (ap (λ (e : Whole). e.header.request) one ∙ x.request);
        operation = ap (λ (e : Whole). e.operation) (sym one) ∙ y.made_of.operation;
      }

  in_time : (before after : List Moment) → h ≡ before ++ after → (q p : RequestFields) (a b : Answered) → HasHeard before q a → IsNew before p → IsExecuted log p b → a.op < b.op
  in_time before after is q p a b c new x =
      elim (cases_lt a.op b.op) [
        | inl less ↦ less
        | inr more ↦ let y = theirs before p b x (asked_upto before after is q a c b.op x.number more) in absurd (new y.request y.asked y.client y.number)
      ]

  of_its_own : (q : RequestFields) (a : Answered) → HasHeard h q a → IsAlone h q → IsExecutedAs log q a
  of_its_own q a x alone =
      let e = executed_there q a x in
      let y = theirs h q a e (asked_upto h [] all_of q a x a.op e.number (omega arith)) in
      record { executed = e; operation = y.operation ∙ ap (λ (p : RequestFields). p.operation) (alone y.request y.asked y.client y.number) }

  pub are_ordered : IsOrdered log h
  are_ordered = record { executed = executed_there; own = of_its_own; asked = asked_upto; real_time = in_time }

  pub linearizes : IsOnceInSession log → HaveOwnNumbers h → HasOneSessionEach log → IsLinearizable log h
  linearizes once single each = record { ordered = are_ordered; executed = λ q a x. of_its_own q a x (single q a x); once = executed_once log once each }

pub histories_linearize : HistoriesAreLinearizable
histories_linearize kinds cluster n first h are number some many short r never carried =
    let k = runs_keep_order kinds cluster n first (acts_in h) are number some many short r never in
    let log = k.one.log.safe.log in
    record { one = k.one; ordered = are_ordered log h carried k.order; linearizable = linearizes log h carried k.order k.one.log.once }
