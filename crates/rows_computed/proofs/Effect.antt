-- The schedule meets what is asked of it, and so its log has the pending request first.
use Rattle.std.proofs.Common.{◌-◌, ◌<◌, ◌≡◌, ◌∙◌, inl, inr, arith, refl, sym, ap, subst, List, [], ◌∷◌, ◌++◌, None, Some}
use Rattle.std.specs.Prelude.{⊤, Contains, slice_get}
use Rattle.std.specs.List.{AllByRecursion}
use Rattle.vr_base.specs.Kinds.{strict}
use Rattle.vr_base.specs.declared.mode.Mode.TheVariants.{Strict}
use Rattle.vr_group.specs.Lines.{happenings}
use Rattle.vr_header.specs.Made.{Whole}
use Rattle.vr_header.specs.NoCollision.{NoCollision}
use Rattle.vr_header.specs.Text.{is_text}
use Rattle.vr_lines.specs.Cuts.{cut}
use Rattle.vr_lines.specs.Grammar.{asked_by, line_words, parse}
use Rattle.vr_lines.specs.Numbers.{digits_on, number_of}
use Rattle.vr_lines.specs.Operations.{operation_words}
use Rattle.vr_lines.specs.Words.{words_of}
use Rattle.vr_lines.specs.declared.line.Line.{Line}
use Rattle.vr_lines.specs.declared.line.Line.TheVariants as line
use Rattle.vr_msg.specs.declared.output.Committed.{Committed}
use Rattle.vr_msg.specs.declared.output.Output.{Output}
use Rattle.vr_msg.specs.declared.output.Output.TheVariants as output
use Rattle.vr_msg.specs.declared.reply.Answered.{Answered}
use Rattle.vr_msg.specs.declared.reply.ReplyFields.{ReplyFields}
use Rattle.vr_msg.specs.declared.reply.ReplyKind.TheVariants as reply
use Rattle.cmd_replay.specs.Schedule.{Schedule, accepted, schedule_of}
use Rattle.vr_rules.specs.Opening.{blank}
use Rattle.vr_rules.specs.Steps.{outputs}
use Rattle.vr_rules.specs.Words.{value_of}
use Rattle.vr_state.specs.Folds as state
use Rattle.vr_state.specs.Kv as kv
use Rattle.vr_state.specs.Sessions as sess
use Rattle.vr_world.specs.Lying.{Lying, hazards}
use Rattle.vr_world.specs.World.{Arrives, Asks, AsksInVersion, Happening, World, fresh_world, happen}
use Rattle.law_1_machine.specs.Basics.{In}
use Rattle.law_3_outputs.proofs.Sets.{in_get, in_left, in_right}
use Rattle.law_2_chains.proofs.StoredLists.{contains_in, in_contains}
use Rattle.law_6_one_log.specs.Laws.{KeepsOneLog}
use Rattle.law_6_one_log.specs.Schedules.{IsHashed}
use Rattle.law_9_asked.specs.Asked.{IsExecuted, IsNew, KeepsOrder}
use Rattle.law_9_lines.specs.Laws.{ScheduleKeepsOrder}
use Rattle.law_9_lines.proofs.Ordered.{replays_keep_order}
use Rattle.law_9_answers.specs.History.{HasOneSessionEach, IsLinearizable}
use Rattle.rows_computed.proofs.Dropped.{makes_v, v2c, v4c}
use Rattle.rows_computed.proofs.Entries.{first, third}
use Rattle.rows_computed.proofs.Happenings.{registers, registers_later}
use Rattle.rows_computed.proofs.Lines.{none_left, root}
use Rattle.rows_computed.proofs.Names.{three_apart}
use Rattle.rows_computed.proofs.Path.{begins}
use Rattle.rows_computed.proofs.Steps.{answers}
use Rattle.rows_computed.specs.Pending.{IsPutOut, IsSilent, PendingTakesEffect, TakesEffect, clients, pending, register_of, session_at}
use Rattle.rows_computed.proofs.Clients.{clients_ordered, executed_first, executed_third, first_unheard, linearizable_two, sessions_two, take_two}
use Rattle.rows_computed.proofs.Going.{Goes, IsOne, then}
use Rattle.rows_computed.proofs.Row.{after_reply, goes_first, goes_last, line_12, said_first, said_last, said_stored, until_reply, w0, w12, w13, w16}

-- ---- the schedule as it is read

abbrev pending_lines : List Line
pending_lines =
    line.Request 0 registers ∷ line.Deliver 0 ∷ line.Deliver 1 ∷ line.Stop 0 ∷ line.Tick 1 ∷ line.Tick 1 ∷ line.Tick 1 ∷ line.Tick 1 ∷ line.Tick 1 ∷ line.Deliver 5 ∷ line.Deliver 8 ∷ line.Deliver 10
    ∷ line.Deliver 13 ∷ line.Request 1 registers_later ∷ line.Deliver 15 ∷ line.Deliver 16 ∷ []

abbrev read : Schedule
read = record { kind = strict; n = 3; lines = pending_lines; refused = None }

is_read : schedule_of pending ≡ read
unfolding accepted cut parse line_words words_of asked_by number_of digits_on operation_words is_text
is_read = refl

-- ---- what its lines put out

abbrev with_reply : List Happening
with_reply = until_reply ++ Arrives 13 ∷ []

abbrev every_line : List Happening
every_line = with_reply ++ after_reply

abbrev begun : World Lying
begun = fresh_world hazards strict 3

abbrev said_then : List Output
said_then = said_first ++ outputs (answers first v2c)

abbrev said_all : List Output
said_all = said_then ++ said_last

goes_then : Goes w0 w13 with_reply said_then
goes_then = then goes_first line_12

goes_all : Goes w0 w16 every_line said_all
goes_all = then goes_then goes_last

says : (v : World Lying) (xs : List Happening) (os : List Output) → Goes w0 v xs os → (happen hazards begun xs).outputs ≡ os
says v xs os g = ap (λ (w : World Lying). (happen hazards w xs).outputs) (begins Strict) ∙ g.said

names_apart : NoCollision (IsHashed begun (happenings pending_lines))
unfolding happenings
names_apart = three_apart (IsHashed begun every_line) (λ b h. goes_all.hashed [] (none_left IsOne w16 root) b (subst (λ (w : World Lying). IsHashed w every_line b) (begins Strict) h))

says_all : (happen hazards begun (happenings pending_lines)).outputs ≡ said_all
unfolding happenings
says_all = says w16 every_line said_all goes_all

-- ---- each of a list

each : {X : Type 0} (P : X → Type 0) (xs : List X) (x : X) → AllByRecursion P xs → In x xs → P x
each P [] x a i = absurd i
each P (y ∷ xs) x a (inl same) = subst P (sym same) a.0
each P (y ∷ xs) x a (inr i) = each P xs x a.1 i

abbrev IsQuiet : Output → Type 0
IsQuiet (output.Reply a) = ⊥
IsQuiet _ = ⊤

quiet_first : AllByRecursion IsQuiet said_first
unfolding outputs
quiet_first = (tt, (tt, (tt, (tt, (tt, (tt, (tt, (tt, (tt, (tt, (tt, (tt, (tt, (tt, (tt, tt)))))))))))))))

silent_first : IsSilent begun until_reply
silent_first a c =
    each IsQuiet said_first (output.Reply a) quiet_first
    (subst (In (output.Reply a)) (says w12 until_reply said_first goes_first) (contains_in (output.Reply a) (happen hazards begun until_reply).outputs c))

-- ---- the replies and the commit lines

-- replica 1's reply of view 1
abbrev reply_to : Whole → ReplyFields
reply_to e = record { version = 1; cluster = 0; replica = 1; view = 1; client = e.header.client; request = e.header.request; request_name = e.header.request_name; kind = reply.Outcome (session_at e.header.op) }

abbrev commits : Whole → Committed
commits e = record { replica = 1; entry = e }

replies_first : In (output.Reply (reply_to first)) (outputs (answers first v2c))
unfolding outputs blank value_of state.applied state.answered state.executed sess.checked sess.applied kv.applied
replies_first = inr (inl refl)

replies_third : In (output.Reply (reply_to third)) (outputs (answers third v4c))
unfolding outputs blank value_of state.applied state.answered state.executed sess.checked sess.applied kv.applied
replies_third = inr (inl refl)

commits_first : In (output.Commit (commits first)) (outputs (answers first v2c))
unfolding outputs blank
commits_first = inl refl

commits_third : In (output.Commit (commits third)) (outputs (answers third v4c))
unfolding outputs blank
commits_third = inl refl

among_then : (o : Output) → In o (outputs (answers first v2c)) → In o said_then
among_then o i = in_right said_first (outputs (answers first v2c)) o i

-- of the last line
among_all : (o : Output) → In o (outputs (answers third v4c)) → In o said_all
among_all o i = in_right said_then said_last o (in_right (outputs makes_v) (said_stored ++ outputs (answers third v4c)) o (in_right said_stored (outputs (answers third v4c)) o i))

contains : (xs : List Happening) (os : List Output) (o : Output) → (happen hazards begun xs).outputs ≡ os → In o os → Contains (happen hazards begun xs).outputs o
contains xs os o is i = in_contains o (happen hazards begun xs).outputs (subst (In o) (sym is) i)

lost_then : IsPutOut begun with_reply 1 (register_of 7) (session_at 1)
lost_then = record {
  given = reply_to first;
  among = contains with_reply said_then (output.Reply (reply_to first)) (says w13 with_reply said_then goes_then) (among_then (output.Reply (reply_to first)) replies_first);
  client = refl;
  number = refl;
  outcome = refl;
  in_view = refl;
}

put_out_last : IsPutOut begun every_line 1 (register_of 8) (session_at 2)
put_out_last = record {
  given = reply_to third;
  among = contains every_line said_all (output.Reply (reply_to third)) (says w16 every_line said_all goes_all) (among_all (output.Reply (reply_to third)) replies_third);
  client = refl;
  number = refl;
  outcome = refl;
  in_view = refl;
}

-- ---- nobody asked as client 8 before

abbrev IsOfFirst : Happening → Type 0
IsOfFirst (Asks at q) = ⊥
IsOfFirst (AsksInVersion at q) = q.client ≡ 7
IsOfFirst _ = ⊤

of_first : AllByRecursion IsOfFirst with_reply
of_first = (refl, (tt, (tt, (tt, (tt, (tt, (tt, (tt, (tt, (tt, (tt, (tt, (tt, tt)))))))))))))

later_new : IsNew with_reply (register_of 8)
later_new at q (inl c) client request = each IsOfFirst with_reply (Asks at q) of_first (contains_in (Asks at q) with_reply c)
later_new at q (inr c) client request =
    let seven = each IsOfFirst with_reply (AsksInVersion at q) of_first (contains_in (AsksInVersion at q) with_reply c) in
    absurd (omega (arith, seven, client))

-- ---- what the law says of it

abbrev KeepsIt : Type 0
KeepsIt = KeepsOneLog strict 3 (happen hazards begun (happenings pending_lines))

keeps : ScheduleKeepsOrder read
keeps = subst ScheduleKeepsOrder is_read (replays_keep_order pending)

logged : (k : KeepsIt) (c : Committed) → In (output.Commit c) said_all → slice_get k.safe.log (c.entry.header.op - 1) ≡ Some c.entry
logged k c i =
    let at = in_get (happen hazards begun (happenings pending_lines)).outputs (output.Commit c) (subst (In (output.Commit c)) (sym says_all) i) in
    (k.rests at.0 (output.Commit c) at.1).so.at

logged_first : (k : KeepsIt) → slice_get k.safe.log 0 ≡ Some first
logged_first k = logged k (commits first) (in_left said_then said_last (output.Commit (commits first)) (among_then (output.Commit (commits first)) commits_first))

logged_third : (k : KeepsIt) → slice_get k.safe.log 1 ≡ Some third
logged_third k = logged k (commits third) (among_all (output.Commit (commits third)) commits_third)

after_the_first : (k : KeepsIt) → KeepsOrder begun k.safe.log (happenings pending_lines) → (b : Answered) → IsExecuted k.safe.log (register_of 8) b → 1 < b.op
unfolding happenings
after_the_first k order b x = order.real_time with_reply after_reply refl lost_then.given (session_at 1) b (register_of 8) lost_then.among lost_then.outcome later_new x

takes_effect : TakesEffect read
unfolding happenings
takes_effect =
    let k = keeps (omega arith) names_apart in
    let log = k.0.safe.log in
    let at_first = logged_first k.0 in
    let at_third = logged_third k.0 in
    let whole = sym (take_two log first third at_first at_third) in
    record {
      group = omega arith;
      played = refl;
      names = names_apart;
      one = k.0;
      order = k.1;
      asked = refl;
      asked_later = refl;
      silent = silent_first;
      lost = lost_then;
      put_out = put_out_last;
      pending = executed_first log at_first at_third;
      answered = executed_third log at_first at_third;
      before = after_the_first k.0 k.1;
      unheard = first_unheard log at_first at_third;
      ordered = clients_ordered log at_first at_third;
      sessions = subst HasOneSessionEach whole sessions_two;
      linearizable = subst (λ (es : List Whole). IsLinearizable es clients) whole linearizable_two;
    }

pub pending_takes_effect : PendingTakesEffect
pending_takes_effect = subst TakesEffect (sym is_read) takes_effect
