-- Whatever happens to a group that was just made, there is one log.
use Rattle.std.proofs.Common.{ℕ, ◌+◌, ◌^◌, ◌<◌, ◌≤◌, ◌≡◌, arith, subst, List, [], ◌∷◌, ◌++◌, length, take, take_all, get_or}
use Rattle.std.specs.List.{AllByRecursion}
use Rattle.std.proofs.lemmas.List.{length-map, take_more}
use Rattle.vr_base.specs.Groups.{least_members}
use Rattle.vr_base.specs.declared.kind.Kind.{Kind}
use Rattle.vr_header.specs.NoCollision.{NoCollision}
use Rattle.vr_base.proofs.Members.{least_of}
use Rattle.vr_lines.specs.Fits.{IsLineOf}
use Rattle.vr_lines.specs.declared.line.Line.{Line}
use Rattle.vr_lines.specs.declared.line.Line.TheVariants as line
use Rattle.vr_world.specs.Lying.{Lying, hazards}
use Rattle.vr_world.specs.World.{World, fresh_world, happen}
use Rattle.vr_rules.specs.Opening.{IsKind}
use Rattle.law_4_disks.specs.Worlds.{IsLine}
use Rattle.law_6_one_log.specs.Schedules.{IsHashed, MayAll}
use Rattle.law_6_one_log.proofs.Fresh.{schedules_are_runs}
use Rattle.law_6_one_log.proofs.Known.{one_log}
use Rattle.law_6_one_log.proofs.Traces.{keeps}
use Rattle.vr_group.specs.Headline.{HasAsked, HaveAsked, IsJustMade, LinesKeepOneLog}
use Rattle.vr_group.specs.Lines.{AreLinesOf, happening, happenings}
use Rattle.vr_group.proofs.Sectors.{on_disk}

line_of : (version n : ℕ) (l : Line) → 0 < n → IsLineOf version n l → HasAsked l → IsLine (happening l)
line_of version n (line.Cluster m kind) some of asked = absurd (let z : n ≡ 0 = of.0 in omega (arith, some))
line_of version n (line.Request replica request) some of asked = asked
line_of version n (line.Deliver number) some of asked = tt
line_of version n (line.Tick replica) some of asked = tt
line_of version n (line.Stop replica) some of asked = tt
line_of version n (line.Start replica) some of asked = tt
line_of version n (line.Migrate replica) some of asked = tt
line_of version n (line.Fuse replica call code) some of asked = tt
line_of version n (line.Damage replica sector) some of asked = on_disk version sector of.1
line_of version n (line.Stale replica sector) some of asked = on_disk version sector of.1
line_of version n (line.Unread replica sector) some of asked = on_disk version sector of.1
line_of version n (line.Misdirect replica sector other) some of asked = (on_disk version sector of.1, on_disk version other of.2, of.3)

lines_of : (version n : ℕ) (ls : List Line) → 0 < n → AreLinesOf version n ls → HaveAsked ls → AllByRecursion IsLine (happenings ls)
unfolding AreLinesOf happenings
lines_of version n [] some of asked = tt
lines_of version n (l ∷ ls) some of asked = (line_of version n l some of.0 asked.0, lines_of version n ls some of.1 asked.1)

-- so all is so of them that is asked of a schedule, where names don't collide
pub lines_may : (kind : Kind) (version n : ℕ) (ls : List Line) → least_members kind.version ≤ n → length ls < 2 ^ 60 → AreLinesOf version n ls → HaveAsked ls → NoCollision (IsHashed (fresh_world hazards kind n) (happenings ls))
    → (length (happenings ls) < 2 ^ 60) × MayAll (fresh_world hazards kind n) (happenings ls)
unfolding happenings
lines_may kind version n ls few short of asked names =
    let size : length (happenings ls) ≡ length ls = length-map ls happening in
    let least = (least_of kind.version).0 in
    (rw size short, record { lines = lines_of version n ls (omega (arith, few, least)) of asked; names = names })

pub lines_keep : (kind : Kind) (version n : ℕ) (ls : List Line) → IsKind kind → least_members kind.version ≤ n → n ≤ 6 → length ls < 2 ^ 60 → AreLinesOf version n ls → HaveAsked ls → LinesKeepOneLog kind n ls
unfolding happen
lines_keep kind version n ls is few many short of asked names =
    let may = lines_may kind version n ls few short of asked names in
    let m = schedules_are_runs kind n (happenings ls) is few many may.0 may.1 in
    keeps kind n is few many (one_log 0 n) (happen hazards (fresh_world hazards kind n) (happenings ls)) m.0 m.1

-- ---- in the midst of lines, each of the first of which has asked

pub asked_none : (ls : List Line) → HaveAsked (take 0 ls)
asked_none ls = tt

asked_append : (ls ms : List Line) → HaveAsked ls → HaveAsked ms → HaveAsked (ls ++ ms)
asked_append [] ms h k = k
asked_append (l ∷ ls) ms h k = (h.0, asked_append ls ms h.1 k)

pub asked_more : (ls : List Line) (i : ℕ) (l : Line) → i < length ls → l ≡ get_or ls i l → HaveAsked (take i ls) → HasAsked l → HaveAsked (take (i + 1) ls)
asked_more ls i l within is h k = rw (take_more ls i l within) (asked_append (take i ls) (get_or ls i l ∷ []) h (subst HasAsked is k, tt))

pub asked_all : (ls : List Line) (i : ℕ) → length ls ≤ i → HaveAsked (take i ls) → HaveAsked ls
asked_all ls i past h = rw (← take_all i ls past) h

-- a group that was just made
pub just_made : (kind : Kind) (version : ℕ) (w : World Lying) (ls : List Line) → AreLinesOf version w.n ls → HaveAsked ls → IsJustMade kind w → length ls < 2 ^ 60 → LinesKeepOneLog kind w.n ls
just_made kind version w ls of asked made short = lines_keep kind version w.n ls made.version made.few made.many short of asked
