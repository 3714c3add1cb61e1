-- Every schedule's outputs have one log.
use Rattle.std.proofs.Common.{List, [], ◌∷◌, ℕ, ◌+◌, ◌<◌, ◌≤◌, ◌≡◌, Bool, true, false, cond, ltb, refl, arith, Option, None, Some}
use Rattle.std.specs.Option.{option_map_or}
use Rattle.vr_base.specs.Groups.{least_members}
use Rattle.vr_base.specs.declared.kind.Kind.{Kind}
use Rattle.vr_lines.specs.Cuts.{lines_of}
use Rattle.vr_lines.specs.Fits.{IsLineOf}
use Rattle.vr_lines.specs.Grammar.{parse}
use Rattle.vr_lines.specs.declared.line.Line.{Line}
use Rattle.vr_lines.specs.declared.line.Line.TheVariants as line
use Rattle.vr_group.specs.Headline.{HasAsked, HaveAsked}
use Rattle.vr_group.specs.Lines.{AreLinesOf}
use Rattle.vr_group.proofs.Headline.{lines_keep}
use Rattle.cmd_replay.specs.Headline.{ScheduleHasOneLog}
use Rattle.cmd_replay.specs.Schedule.{Schedule, accepted, begun, limit, line_at, no_group, of_group, refuses, schedule, schedule_of, with_line}
use Rattle.cmd_replay.proofs.Asked.{parsed_asks}
use Rattle.cmd_replay.proofs.Few.{few_lines}
use Rattle.cmd_replay.proofs.Plays.{line_at_fits}

-- what the grammar gives of the lines of a schedule, where a group is made
pub record IsRead (s : Schedule) : Type 0 where
  pub few : 0 < s.n → least_members s.kind.version ≤ s.n
  pub many : s.n ≤ 6
  pub version : (1 ≤ s.kind.version) × (s.kind.version ≤ 2)
  pub of : AreLinesOf s.kind.version s.n s.lines
  pub asked : HaveAsked s.lines

asks_at : (version n number : ℕ) (text : List ℕ) (l : Line) → (1 ≤ version) × (version ≤ 2) → line_at version n number text ≡ Some l → HasAsked l
asks_at version n number text l files e =
    let cases : (b : Bool) → cond b (parse version n text) None ≡ Some l → parse version n text ≡ Some l = elim [ true ↦ λ h. h | false ↦ λ h. absurd (cc) ] in
    parsed_asks version n text l files (cases (ltb number limit) e)

-- ---- the lines after the first

accepted_of : (version n number : ℕ) (texts : List (List ℕ)) → AreLinesOf version n (accepted version n number texts).lines
unfolding accepted AreLinesOf
accepted_of version n number [] = tt
accepted_of version n number (text ∷ texts) =
    let cases : (o : Option Line) → line_at version n number text ≡ o → AreLinesOf version n (option_map_or (λ l. with_line l (accepted version n (number + 1) texts)) o (refuses (number + 1))).lines =
    elim [ None ↦ λ e. tt | Some l ↦ λ e. (line_at_fits version n number text l e, accepted_of version n (number + 1) texts) ] in
    cases (line_at version n number text) refl

accepted_asked : (version n number : ℕ) (texts : List (List ℕ)) → (1 ≤ version) × (version ≤ 2) → HaveAsked (accepted version n number texts).lines
unfolding accepted
accepted_asked version n number [] files = tt
accepted_asked version n number (text ∷ texts) files =
    let cases : (o : Option Line) → line_at version n number text ≡ o → HaveAsked (option_map_or (λ l. with_line l (accepted version n (number + 1) texts)) o (refuses (number + 1))).lines =
    elim [ None ↦ λ e. tt | Some l ↦ λ e. (asks_at version n number text l files e, accepted_asked version n (number + 1) texts files) ] in
    cases (line_at version n number text) refl

-- ---- a schedule

none_made : IsRead (no_group (Some 1))
unfolding AreLinesOf
none_made = record { few = λ some. absurd (omega (arith, some)); many = omega arith; version = (omega arith, omega arith); of = tt; asked = tt }

group_made : (kind : Kind) (n : ℕ) (texts : List (List ℕ)) → least_members kind.version ≤ n → n ≤ 6 → (1 ≤ kind.version) × (kind.version ≤ 2) → IsRead (of_group kind n (accepted kind.version n 1 texts))
group_made kind n texts few many files = record { few = λ some. few; many = many; version = files; of = accepted_of kind.version n 1 texts; asked = accepted_asked kind.version n 1 texts files }

first_read : (texts : List (List ℕ)) (l : Line) → IsLineOf 1 0 l → IsRead (begun texts l)
first_read texts (line.Cluster n kind) of = group_made kind n texts of.1 of.2 (of.3, of.4)
first_read texts (line.Request replica request) of = none_made
first_read texts (line.Deliver number) of = none_made
first_read texts (line.Tick replica) of = none_made
first_read texts (line.Stop replica) of = none_made
first_read texts (line.Start replica) of = none_made
first_read texts (line.Migrate replica) of = none_made
first_read texts (line.Fuse replica call code) of = none_made
first_read texts (line.Damage replica sector) of = none_made
first_read texts (line.Stale replica sector) of = none_made
first_read texts (line.Unread replica sector) of = none_made
first_read texts (line.Misdirect replica sector other) of = none_made

pub schedule_read : (texts : List (List ℕ)) → IsRead (schedule texts)
schedule_read [] = none_made
schedule_read (text ∷ texts) =
    let cases : (o : Option Line) → line_at 1 0 0 text ≡ o → IsRead (option_map_or (begun texts) o (no_group (Some 1))) = elim [ None ↦ λ e. none_made | Some l ↦ λ e. first_read texts l (line_at_fits 1 0 0 text l e) ] in
    cases (line_at 1 0 0 text) refl

pub schedule_has_one_log : (bytes : List ℕ) → ScheduleHasOneLog (schedule_of bytes)
schedule_has_one_log bytes some =
    let s = schedule_of bytes in
    let r = schedule_read (lines_of bytes) in
    lines_keep s.kind s.kind.version s.n s.lines r.version (r.few some) r.many (let few = few_lines bytes in omega (arith, few)) r.of r.asked
