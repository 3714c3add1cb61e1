use Rattle.std.proofs.Common.{◌≡◌, [], arith, refl, ap, ◌∙◌}
use Rattle.std.proofs.lemmas.List.{nil_from_length}
use Rattle.vr_base.specs.Causes.{one_more}
use Rattle.cmd_replay.specs.declared.playing.Replay.{Replay}
use Rattle.cmd_replay.proofs.Streams.{filled_ends, filled_heard, filled_lines, filled_none}
use Rattle.cmd_replay.proofs.Whole.{midst_start, midst_partial, done_at_end, stopped_at_end, midst_more, stopped_in_piece, cut_short}
use Rattle.cmd_replay.proofs.command.read_schedule.Goals as goal

pub loop-init : goal.loop-init
loop-init g c =
    let made = c.new-replay.ensures in
    record {
      midst = midst_start _ _ c.new-replay.result made.scene made.number made.lines;
      sound = made.sound;
      read_faults = refl;
      write_faults = refl;
    }

pub fill-requires : goal.fill-requires
fill-requires g c = let short = c.loop.invariant.sound.short in omega arith

pub finish-requires : goal.finish-requires
finish-requires g c =
    let f = c.in-Ok.ensures.filled in
    let nothing : f.piece ≡ [] = nil_from_length f.piece (f.size ∙ c.if-count-eq0.true) in
    let joined : Replay = record { group = c.loop.replay.group; number = c.loop.replay.number; lines = c.fill.new.self } in
    filled_none c.loop.replay joined c.loop.invariant.sound (record { group = refl; number = refl; behind = rw nothing at f.behind })

pub returns-in_default : goal.returns-in_default
returns-in_default g c =
    let i = c.loop.invariant in
    (c.in_default.ensures.cause.failed ∙ ap one_more i.read_faults, i.write_faults, cut_short _ _ _ _ _ c.loop.replay i.midst i.sound c.in_default.ensures.kept.1)

pub returns-in-Err : goal.returns-in-Err
returns-in-Err g c =
    let i = c.loop.invariant in
    let f = c.in-Ok.ensures.filled in
    let none = c.if-count-eq0.true in
    let nothing : f.piece ≡ [] = nil_from_length f.piece (f.size ∙ none) in
    let joined : Replay = record { group = c.loop.replay.group; number = c.loop.replay.number; lines = c.fill.new.self } in
    let same = filled_ends c.loop.replay joined (record { group = refl; number = refl; behind = rw nothing at f.behind }) in
    let last = rw nothing at f.consumed in
    rw c.status.ensures (stopped_at_end _ _ _ _ _ _ _ _ _ _ _ c.loop.replay i.midst i.sound (c.in-Ok.ensures.cause.kept ∙ i.read_faults) last (f.end none) i.write_faults c.in-Err.stop (rw same at c.in-Err.ensures.stopped))

pub returns-then-count-eq0 : goal.returns-then-count-eq0
returns-then-count-eq0 g c =
    let i = c.loop.invariant in
    let f = c.in-Ok.ensures.filled in
    let none = c.if-count-eq0.true in
    let nothing : f.piece ≡ [] = nil_from_length f.piece (f.size ∙ none) in
    let joined : Replay = record { group = c.loop.replay.group; number = c.loop.replay.number; lines = c.fill.new.self } in
    let same = filled_ends c.loop.replay joined (record { group = refl; number = refl; behind = rw nothing at f.behind }) in
    let last = rw nothing at f.consumed in
    let e = c.in_default-finish.ensures in
    (c.in-Ok.ensures.cause.kept ∙ i.read_faults, e.kept ∙ i.write_faults, done_at_end _ _ _ _ _ _ c.loop.replay i.midst last (f.end none) (rw same at e.accepted) (rw same at e.text))

pub returns-in-Err-take_lines : goal.returns-in-Err-take_lines
returns-in-Err-take_lines g c =
    let i = c.loop.invariant in
    let f = c.in-Ok.ensures.filled in
    let joined : Replay = record { group = c.loop.replay.group; number = c.loop.replay.number; lines = c.fill.new.self } in
    let same = filled_lines c.loop.replay joined f.piece (record { group = refl; number = refl; behind = f.behind }) in
    rw c.status-in-Err-take_lines.ensures (stopped_in_piece _ _ _ _ _ _ _ _ _ _ _ c.loop.replay f.piece i.midst i.sound (c.in-Ok.ensures.cause.kept ∙ i.read_faults) f.consumed (rw (← f.behind) f.fits) i.write_faults c.in-Err-take_lines.stop (rw same at c.in-Err-take_lines.ensures.stopped))

pub loop-preserved : goal.loop-preserved
loop-preserved g c =
    let i = c.loop.invariant in
    let f = c.in-Ok.ensures.filled in
    let e = c.in_default-take_lines.ensures in
    let joined : Replay = record { group = c.loop.replay.group; number = c.loop.replay.number; lines = c.fill.new.self } in
    let heard = filled_heard c.loop.replay joined c.take_lines.new.self f.piece _ _ (record { group = refl; number = refl; behind = f.behind }) e.heard in
    record {
      midst = midst_more _ _ _ _ _ _ c.loop.replay c.take_lines.new.self f.piece i.midst f.consumed heard;
      sound = heard.sound;
      read_faults = c.in-Ok.ensures.cause.kept ∙ i.read_faults;
      write_faults = e.kept ∙ i.write_faults;
    }

pub returns : goal.returns
returns g c = (c.loop.invariant.read_faults, c.loop.invariant.write_faults, midst_partial _ _ _ _ c.loop.replay c.loop.invariant.midst)
