-- The schedules meet all that is asked.
use Rattle.std.proofs.Common.{◌≡◌, arith, refl, sym, subst, List, None}
use Rattle.vr_base.specs.Kinds.{of_mode, strict}
use Rattle.vr_base.specs.declared.mode.Mode.{Mode}
use Rattle.vr_base.specs.declared.mode.Mode.TheVariants.{Careful, Strict}
use Rattle.vr_header.specs.NoCollision.{NoCollision}
use Rattle.vr_header.specs.Text.{is_text}
use Rattle.vr_rules.specs.Fit.{IsAsked}
use Rattle.vr_lines.specs.Cuts.{cut}
use Rattle.vr_lines.specs.Grammar.{asked_by, line_words, parse}
use Rattle.vr_lines.specs.Numbers.{digits_on, number_of}
use Rattle.vr_lines.specs.Operations.{operation_words}
use Rattle.vr_lines.specs.Words.{words_of}
use Rattle.vr_lines.specs.declared.line.Line.{Line}
use Rattle.vr_world.specs.Lying.{hazards}
use Rattle.vr_world.specs.World.{fresh_world}
use Rattle.law_6_one_log.specs.Schedules.{IsHashed}
use Rattle.vr_group.specs.Headline.{HaveAsked}
use Rattle.vr_group.specs.Lines.{AreLinesOf, happenings}
use Rattle.vr_group.proofs.Headline.{lines_keep}
use Rattle.cmd_replay.specs.Schedule.{Schedule, accepted, schedule_of}
use Rattle.rows_computed.specs.Rows as rows
use Rattle.rows_computed.specs.Rows.{AcknowledgedMeetsAll, CarefulPathMeetsAll, DroppedMeetsAll, MeetsAll, MovedMeetsAll, OneAloneMeetsAll, PlainPathMeetsAll, TornPrepareMeetsAll}
use Rattle.rows_computed.proofs.Denied.{acknowledged_never}
use Rattle.rows_computed.proofs.DroppedRow.{dropped_never}
use Rattle.rows_computed.proofs.Happenings.{acknowledged_lines, alone_lines, dropped_lines, moved_lines, plain_lines, puts, puts_in_2, registers, registers_in_2, registers_later, torn_lines}
use Rattle.rows_computed.proofs.Lines.{mode_kind}
use Rattle.rows_computed.proofs.Moved.{moved_never}
use Rattle.rows_computed.proofs.One.{alone_never, is_later, later_kind}
use Rattle.rows_computed.proofs.Path.{plain_never}
use Rattle.rows_computed.proofs.TornRow.{torn_never}

-- a group of three on files of this mode, whose lines are all played
abbrev of_three : Mode → List Line → Schedule
of_three m lines = record { kind = of_mode m; n = 3; lines = lines; refused = None }

plain_is : schedule_of rows.plain_path ≡ of_three Strict plain_lines
unfolding accepted cut parse line_words words_of asked_by number_of digits_on operation_words is_text
plain_is = refl

careful_is : schedule_of rows.careful_path ≡ of_three Careful plain_lines
unfolding accepted cut parse line_words words_of asked_by number_of digits_on operation_words is_text
careful_is = refl

acknowledged_is : schedule_of rows.acknowledged ≡ of_three Strict acknowledged_lines
unfolding accepted cut parse line_words words_of asked_by number_of digits_on operation_words is_text
acknowledged_is = refl

torn_is : schedule_of rows.torn_prepare ≡ of_three Strict torn_lines
unfolding accepted cut parse line_words words_of asked_by number_of digits_on operation_words is_text
torn_is = refl

dropped_is : schedule_of rows.dropped ≡ of_three Strict dropped_lines
unfolding accepted cut parse line_words words_of asked_by number_of digits_on operation_words is_text
dropped_is = refl

alone_is : schedule_of rows.one_alone ≡ record { kind = later_kind; n = 1; lines = alone_lines; refused = None }
unfolding accepted cut parse line_words words_of asked_by number_of digits_on operation_words is_text
alone_is = refl

moved_is : schedule_of rows.moved ≡ of_three Strict moved_lines
unfolding accepted cut parse line_words words_of asked_by number_of digits_on operation_words is_text
moved_is = refl

-- ---- lines of a group, and requests that can be asked

plain_of : AreLinesOf 1 3 plain_lines
unfolding AreLinesOf
plain_of = ((omega arith, refl), (omega arith, (omega arith, ((omega arith, refl), (omega arith, (omega arith, tt))))))

acknowledged_of : AreLinesOf 1 3 acknowledged_lines
unfolding AreLinesOf
acknowledged_of = ((omega arith, refl), (omega arith, (omega arith, ((omega arith, omega arith), ((omega arith, omega arith), (omega arith, (omega arith, (omega arith, (omega arith, (omega arith, (omega arith, (omega arith, (omega arith, (omega arith, (omega arith, (omega arith, (omega arith, (omega arith, tt))))))))))))))))))

torn_of : AreLinesOf 1 3 torn_lines
unfolding AreLinesOf
torn_of = ((omega arith, refl), ((omega arith, omega arith, omega arith), (omega arith, (omega arith, (omega arith, (omega arith, (omega arith, (omega arith, (omega arith, (omega arith, (omega arith, tt)))))))))))

dropped_of : AreLinesOf 1 3 dropped_lines
unfolding AreLinesOf
dropped_of = ((omega arith, refl), (omega arith, (omega arith, (omega arith, ((omega arith, refl), (omega arith, (omega arith, (omega arith, (omega arith, (omega arith, (omega arith, (omega arith, (omega arith, (omega arith, (omega arith, ((omega arith, refl), (omega arith, (omega arith, tt))))))))))))))))))

moved_of : AreLinesOf 1 3 moved_lines
unfolding AreLinesOf
moved_of = ((omega arith, refl), (omega arith, (omega arith, (omega arith, tt))))

alone_of : AreLinesOf 2 1 alone_lines
unfolding AreLinesOf
alone_of = ((omega arith, refl), ((omega arith, refl), tt))

pub registers_asked_2 : IsAsked registers_in_2
registers_asked_2 = record { form = record { first = (λ e. refl, λ e. refl); fits = tt }; client = omega arith; request = omega arith; version = (omega arith, omega arith) }

pub puts_asked_2 : IsAsked puts_in_2
unfolding is_text
puts_asked_2 = record { form = record { first = (λ e. absurd cc, λ e. absurd (omega (arith, e))); fits = (refl, refl) }; client = omega arith; request = omega arith; version = (omega arith, omega arith) }

alone_asked : HaveAsked alone_lines
alone_asked = ((registers_asked_2, omega arith), ((puts_asked_2, omega arith), tt))

pub registers_asked : IsAsked registers
registers_asked = record { form = record { first = (λ e. refl, λ e. refl); fits = tt }; client = omega arith; request = omega arith; version = (omega arith, omega arith) }

later_asked : IsAsked registers_later
later_asked = record { form = record { first = (λ e. refl, λ e. refl); fits = tt }; client = omega arith; request = omega arith; version = (omega arith, omega arith) }

pub puts_asked : IsAsked puts
unfolding is_text
puts_asked = record { form = record { first = (λ e. absurd cc, λ e. absurd (omega (arith, e))); fits = (refl, refl) }; client = omega arith; request = omega arith; version = (omega arith, omega arith) }

plain_asked : HaveAsked plain_lines
plain_asked = ((registers_asked, omega arith), (tt, (tt, ((puts_asked, omega arith), (tt, (tt, tt))))))

acknowledged_asked : HaveAsked acknowledged_lines
acknowledged_asked = ((registers_asked, omega arith), (tt, (tt, (tt, (tt, (tt, (tt, (tt, (tt, (tt, (tt, (tt, (tt, (tt, (tt, (tt, (tt, (tt, tt))))))))))))))))))

torn_asked : HaveAsked torn_lines
torn_asked = ((registers_asked, omega arith), (tt, (tt, (tt, (tt, (tt, (tt, (tt, (tt, (tt, (tt, tt)))))))))))

moved_asked : HaveAsked moved_lines
moved_asked = ((registers_asked, omega arith), (tt, (tt, (tt, tt))))

dropped_asked : HaveAsked dropped_lines
dropped_asked = ((registers_asked, omega arith), (tt, (tt, (tt, ((puts_asked, omega arith), (tt, (tt, (tt, (tt, (tt, (tt, (tt, (tt, (tt, (tt, ((later_asked, omega arith), (tt, (tt, tt))))))))))))))))))

-- ---- all that is asked

moved_names : NoCollision (IsHashed (fresh_world hazards strict 3) (happenings moved_lines))
unfolding happenings
moved_names = moved_never

alone_names : NoCollision (IsHashed (fresh_world hazards later_kind 1) (happenings alone_lines))
unfolding happenings
alone_names = alone_never

dropped_names : NoCollision (IsHashed (fresh_world hazards strict 3) (happenings dropped_lines))
unfolding happenings
dropped_names = dropped_never

plain_names : (m : Mode) → NoCollision (IsHashed (fresh_world hazards (of_mode m) 3) (happenings plain_lines))
unfolding happenings
plain_names m = plain_never m

acknowledged_names : NoCollision (IsHashed (fresh_world hazards strict 3) (happenings acknowledged_lines))
unfolding happenings
acknowledged_names = acknowledged_never

torn_names : NoCollision (IsHashed (fresh_world hazards strict 3) (happenings torn_lines))
unfolding happenings
torn_names = torn_never

plain_all : (m : Mode) → MeetsAll (of_three m plain_lines)
plain_all m = record {
  group = omega arith;
  played = refl;
  names = plain_names m;
  log = lines_keep (of_mode m) 1 3 plain_lines (mode_kind m) (omega arith) (omega arith) (omega arith) plain_of plain_asked (plain_names m);
}

acknowledged_all : MeetsAll (of_three Strict acknowledged_lines)
acknowledged_all = record {
  group = omega arith;
  played = refl;
  names = acknowledged_names;
  log = lines_keep strict 1 3 acknowledged_lines (mode_kind Strict) (omega arith) (omega arith) (omega arith) acknowledged_of acknowledged_asked acknowledged_names;
}

torn_all : MeetsAll (of_three Strict torn_lines)
torn_all = record {
  group = omega arith;
  played = refl;
  names = torn_names;
  log = lines_keep strict 1 3 torn_lines (mode_kind Strict) (omega arith) (omega arith) (omega arith) torn_of torn_asked torn_names;
}

pub plain_path_meets_all : PlainPathMeetsAll
plain_path_meets_all = subst MeetsAll (sym plain_is) (plain_all Strict)

pub careful_path_meets_all : CarefulPathMeetsAll
careful_path_meets_all = subst MeetsAll (sym careful_is) (plain_all Careful)

pub acknowledged_meets_all : AcknowledgedMeetsAll
acknowledged_meets_all = subst MeetsAll (sym acknowledged_is) acknowledged_all

dropped_all : MeetsAll (of_three Strict dropped_lines)
dropped_all = record {
  group = omega arith;
  played = refl;
  names = dropped_names;
  log = lines_keep strict 1 3 dropped_lines (mode_kind Strict) (omega arith) (omega arith) (omega arith) dropped_of dropped_asked dropped_names;
}

pub dropped_meets_all : DroppedMeetsAll
dropped_meets_all = subst MeetsAll (sym dropped_is) dropped_all

alone_all : MeetsAll (record { kind = later_kind; n = 1; lines = alone_lines; refused = None })
alone_all = record {
  group = omega arith;
  played = refl;
  names = alone_names;
  log = lines_keep later_kind 2 1 alone_lines is_later (omega arith) (omega arith) (omega arith) alone_of alone_asked alone_names;
}

pub one_alone_meets_all : OneAloneMeetsAll
one_alone_meets_all = subst MeetsAll (sym alone_is) alone_all

moved_all : MeetsAll (of_three Strict moved_lines)
moved_all = record {
  group = omega arith;
  played = refl;
  names = moved_names;
  log = lines_keep strict 1 3 moved_lines (mode_kind Strict) (omega arith) (omega arith) (omega arith) moved_of moved_asked moved_names;
}

pub moved_meets_all : MovedMeetsAll
moved_meets_all = subst MeetsAll (sym moved_is) moved_all

pub torn_prepare_meets_all : TornPrepareMeetsAll
torn_prepare_meets_all = subst MeetsAll (sym torn_is) torn_all
