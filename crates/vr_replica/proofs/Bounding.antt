-- How many messages, and how many bytes, a step sends at most.
use Rattle.std.proofs.Common.{arith, ◌≡◌, ◌≤◌, ◌-◌, refl, List, [], ◌∷◌, length, Some, None, Ok, Err}
use Rattle.std.specs.Prelude.{All}
use Rattle.std.proofs.lemmas.List.Elements.{All-head, All-tail}
use Rattle.vr_msg.specs.declared.event.Event.{Event}
use Rattle.vr_msg.specs.declared.event.Event.TheVariants as event
use Rattle.vr_msg.specs.declared.output.Output.{Output}
use Rattle.vr_msg.specs.declared.output.Sent.{Sent}
use Rattle.vr_rules.specs.Fit.{MayCome}
use Rattle.vr_rules.specs.Laws.{IsEvent}
use Rattle.vr_rules.specs.Outputs.{messages}
use Rattle.vr_rules.specs.Replica.{Replica, is_started, version}
use Rattle.vr_rules.specs.Sectors.{sectors_by}
use Rattle.vr_rules.proofs.FitSteps.{steps_fit}
use Rattle.vr_replica.specs.Bounds.{DoneIsFew, IsFormed, StepsAreShort, StepsSendFew, TableRows, AnswersAreSingle, longest, most_messages, one, sent, size, weight}
use Rattle.vr_replica.proofs.WeighedRules.{steps_weigh_little}
use Rattle.vr_replica.proofs.Lengths.{message_long}

-- ---- how many

weight_count : (ss : List Sent) → weight (λ v. one) ss ≡ length ss
unfolding weight
weight_count [] = refl
weight_count (s ∷ ss) = let rest = weight_count ss in omega (arith, rest)

pub steps_send_few : {F : Type 0} → StepsSendFew F
steps_send_few s f r e h i = let few = steps_weigh_little (λ v. one) s f r e h i in let count = weight_count (sent e s r f) in omega (arith, few, count)

-- ---- how many bytes

size_least : (ss : List Sent) → All MayCome ss → size ss ≤ weight longest ss
unfolding size weight
size_least [] h = omega arith
size_least (s ∷ ss) h =
    let first = message_long s.message (All-head MayCome s ss h) in
    let rest = size_least ss (All-tail MayCome s ss h) in
    omega (arith, first, rest)

formed : (e : Event) → IsEvent e → IsFormed e
formed (event.Request q) i = tt
formed (event.Deliver m) i = i.form
formed event.Tick i = tt

pub steps_are_short : {F : Type 0} → StepsAreShort F
steps_are_short s f r e program roots reads sound savable blocks i =
    let fit = steps_fit s f r e program roots reads sound savable blocks i in
    let few = steps_weigh_little longest s f r e sound (formed e i) in
    let least = size_least (sent e s r f) fit.sent in
    omega (arith, few, least)

-- ---- what code does

few_none : (r : Replica) (e : Event) (out : List Output) → out ≡ [] → length (messages out) ≤ most_messages (r.n - 1) (is_started r) e
unfolding messages
few_none r e out n = rw n (omega arith)

pub done_is_few : DoneIsFew
done_is_few r r' e None d' out result h i n k = tt
done_is_few r r' e (Some x) d' out (Ok u) h i n k =
    let said = (k.told x refl).1 in
    rw said (steps_send_few (sectors_by (version r)) x.face r e h i)
done_is_few r r' e (Some x) d' out (Err halt) h i n k = few_none r e out n

-- ---- rows

pub answers_are_single : AnswersAreSingle
answers_are_single = record {
  view = λ others g. refl;
  sync = λ others g. refl;
  entry = λ others g. refl;
  block = λ others g. refl;
  prepare = λ others p. refl;
  commit = λ others c. refl;
  prepare_ok = λ others a. refl;
  given = λ others g. refl;
}

pub table_rows : TableRows
table_rows = record {
  request = λ q. (refl, refl);
  prepare = λ p. (refl, refl);
  commit = λ c. (refl, refl);
  change = λ c. (refl, refl);
  statement = λ d. (refl, refl);
  begun = λ v. (refl, refl);
  jumped = λ v. (refl, refl);
  view = λ g. (refl, refl);
  sync = λ g. (refl, refl);
  entry = λ g. (refl, refl);
  block = λ g. (refl, refl);
  given = λ g. (refl, refl);
  tick = (refl, refl);
  changing_tick = (refl, refl);
}
