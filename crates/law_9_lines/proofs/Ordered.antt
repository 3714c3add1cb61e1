-- Lines of a schedule are those of `schedules_keep_order`.
use Rattle.std.proofs.Common.{ℕ, ◌^◌, ◌≤◌, ◌<◌, arith, List, length}
use Rattle.vr_base.specs.Groups.{least_members}
use Rattle.vr_base.specs.Kinds.{strict}
use Rattle.vr_base.specs.declared.kind.Kind.{Kind}
use Rattle.vr_draws.specs.Drawn.{drawn_size}
use Rattle.vr_group.specs.Headline.{HaveAsked}
use Rattle.vr_group.specs.Lines.{AreLinesOf, happenings}
use Rattle.vr_group.proofs.Headline.{lines_may}
use Rattle.vr_lines.specs.Cuts.{lines_of}
use Rattle.vr_lines.specs.declared.line.Line.{Line}
use Rattle.cmd_replay.specs.Schedule.{schedule_of}
use Rattle.cmd_replay.proofs.Few.{few_lines}
use Rattle.cmd_replay.proofs.Headline.{schedule_read}
use Rattle.cmd_soak.specs.Made.{lines_from, size_of}
use Rattle.cmd_soak.proofs.Asked.{lines_asked, lines_count, lines_fit}
use Rattle.vr_rules.specs.Opening.{IsKind}
use Rattle.law_9_asked.proofs.Ordered.{schedules_keep_order}
use Rattle.law_9_lines.specs.Laws.{LinesKeepOrder, ReplaysKeepOrder, SoaksKeepOrder}

lines_order : (kind : Kind) (version n : ℕ) (ls : List Line) → IsKind kind → least_members kind.version ≤ n → n ≤ 6 → length ls < 2 ^ 60 → AreLinesOf version n ls → HaveAsked ls → LinesKeepOrder kind n ls
lines_order kind version n ls is few many short of asked names =
    let may = lines_may kind version n ls few short of asked names in
    schedules_keep_order kind n (happenings ls) is few many may.0 may.1

pub replays_keep_order : ReplaysKeepOrder
replays_keep_order bytes some =
    let s = schedule_of bytes in
    let r = schedule_read (lines_of bytes) in
    lines_order s.kind s.kind.version s.n s.lines r.version (r.few some) r.many (let few = few_lines bytes in omega (arith, few)) r.of r.asked

pub soaks_keep_order : SoaksKeepOrder
soaks_keep_order seed count few =
    let n = size_of seed in
    let number = (drawn_size seed).number in
    let size = lines_count n number count in
    lines_order strict 1 n (lines_from seed count) (omega arith, omega arith) (omega arith) (omega arith) (omega (arith, size, few)) (lines_fit n number count (omega arith)) (lines_asked n number count (omega arith))
