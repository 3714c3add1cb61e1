-- What a client heard as executed lasts.
use Rattle.std.proofs.Common.{◌-◌, ◌<◌, ◌≡◌, ◌∙◌, arith, sym, ap, subst, List, ◌∷◌, ◌++◌, Some}
use Rattle.vr_header.specs.Made.{Whole}
use Rattle.vr_msg.specs.declared.output.Output.{Output}
use Rattle.vr_msg.specs.declared.output.Output.TheVariants as output
use Rattle.vr_msg.specs.declared.reply.Answered.{Answered}
use Rattle.vr_msg.specs.declared.request.RequestFields.{RequestFields}
use Rattle.vr_world.specs.Safe.{KeepsEntry}
use Rattle.law_1_machine.specs.Basics.{In}
use Rattle.law_2_chains.proofs.StoredLists.{contains_in, in_contains}
use Rattle.law_3_outputs.proofs.Sets.{in_left}
use Rattle.law_7_members.specs.Whole.{all_said}
use Rattle.law_9_asked.specs.Asked.{IsExecuted}
use Rattle.law_9_answers.specs.History.{HasHeard, Hears, IsCarried, IsPutOut, IsOrdered, Lasts, Moment, acts_in}
use Rattle.law_9_answers.specs.Order.{IsLasting, OutcomesLast}
use Rattle.law_9_answers.specs.OrderLaws.{HeardOutcomesLast}
use Rattle.law_9_answers.proofs.Acting.{runs_keep_order}
use Rattle.law_9_answers.proofs.Few.{get_front}
use Rattle.law_9_answers.proofs.Interleaving.{said_both}
use Rattle.law_9_answers.proofs.Outcomes.{outcomes_last}
use Rattle.law_9_answers.proofs.Timing.{acts_both, are_ordered, stands}

-- what the first moments put out was put out in all of them
put_more : (before after : List Moment) (q : RequestFields) (a : Answered) → IsPutOut before q a → IsPutOut (before ++ after) q a
put_more before after q a p =
    let early : In (output.Reply p.given) (all_said (acts_in before)) = contains_in (output.Reply p.given) (all_said (acts_in before)) p.moment in
    let all : all_said (acts_in (before ++ after)) ≡ all_said (acts_in before) ++ all_said (acts_in after) = ap all_said (acts_both before after) ∙ said_both (acts_in before) (acts_in after) in
    record {
      given = p.given;
      moment = in_contains (output.Reply p.given) (all_said (acts_in (before ++ after))) (subst (λ (os : List Output). In (output.Reply p.given) os) (sym all) (in_left (all_said (acts_in before)) (all_said (acts_in after)) (output.Reply p.given) early));
      client = p.client;
      number = p.number;
      outcome = p.outcome;
    }

put_out : (h : List Moment) → IsCarried h → (q : RequestFields) (a : Answered) → HasHeard h q a → IsPutOut h q a
put_out h carried q a x =
    let s = stands h (Hears x.by x.heard) (contains_in (Hears x.by x.heard) h x.moment) in
    let p : IsPutOut s.before x.heard.request a = carried.heard s.before s.after x.by x.heard a s.is x.outcome in
    subst (λ (g : List Moment). IsPutOut g q a) (sym s.is) (put_more s.before (Hears x.by x.heard ∷ s.after) q a (subst (λ (r : RequestFields). IsPutOut s.before r a) x.request p))

lasts : (log : List Whole) (h : List Moment) → IsCarried h → IsOrdered log h → OutcomesLast log (all_said (acts_in h)) → (q : RequestFields) (a : Answered) → HasHeard h q a → Lasts log h q a
lasts log h carried ordered last q a x =
    let p = put_out h carried q a x in
    let l : IsLasting log (all_said (acts_in h)) p.given.view a.op = last p.given a p.moment p.outcome in
    let y : IsExecuted log q a = ordered.executed q a x in
    let both : Some l.entry ≡ Some y.entry = sym l.at ∙ y.at in
    let one : l.entry ≡ y.entry = cc in
    record {
      put_out = p;
      executed = y;
      kept = λ o c. subst (λ (e : Whole). KeepsEntry p.given.view e.header o) one (l.kept o c);
      later = λ before after is early r b new z.
          let less : a.op < b.op = ordered.real_time before after is q r a b early new (ordered.executed r b z) in
          let above = y.number in
          get_front log (a.op - 1) (b.op - 1) y.entry (omega (arith, less, above)) y.at;
    }

pub heard_last : HeardOutcomesLast
heard_last kinds cluster n first h are number some many short r never carried =
    let k = runs_keep_order kinds cluster n first (acts_in h) are number some many short r never in
    let log = k.one.log.safe.log in
    let last : OutcomesLast log (all_said (acts_in h)) = subst (OutcomesLast log) k.one.work.said (outcomes_last kinds cluster n are number some many k.one.work.left k.one.log) in
    record { one = k.one; lasts = lasts log h carried (are_ordered log h carried k.order) last }
