-- A schedule has at most 1,000,000 lines.
use Rattle.std.proofs.Common.{ℕ, ◌+◌, ◌≤◌, inl, inr, arith, List, [], ◌∷◌, length, Option, Some, None}
use Rattle.std.specs.Option.{option_map_or}
use Rattle.std.proofs.lemmas.Bool.{cases_lt, le-ltb}
use Rattle.vr_lines.specs.Cuts.{lines_of}
use Rattle.vr_lines.specs.declared.line.Line.{Line}
use Rattle.vr_lines.specs.declared.line.Line.TheVariants as line
use Rattle.cmd_replay.specs.Schedule.{accepted, begun, limit, line_at, no_group, refuses, schedule, schedule_of, with_line}

accepted_few : (version n number : ℕ) (texts : List (List ℕ)) → number ≤ limit → number + length (accepted version n number texts).lines ≤ limit
unfolding accepted
accepted_few version n number [] l = omega (arith, l)
accepted_few version n number (text ∷ texts) l =
    elim (cases_lt number limit) [
      | inl room ↦
          let rest = accepted_few version n (number + 1) texts (omega (arith, room)) in
          let cases : (o : Option Line) → number + length (option_map_or (λ l. with_line l (accepted version n (number + 1) texts)) o (refuses (number + 1))).lines ≤ limit = elim [ None ↦ omega (arith, l) | Some x ↦ omega (arith, rest) ] in
          cases (line_at version n number text)
      | inr full ↦ rw (le-ltb number limit full) (omega (arith, l))
    ]

begun_few : (texts : List (List ℕ)) (l : Line) → length (begun texts l).lines ≤ limit
begun_few texts (line.Cluster n kind) = let h = accepted_few kind.version n 1 texts (omega arith) in omega (arith, h)
begun_few texts (line.Request replica request) = omega arith
begun_few texts (line.Deliver number) = omega arith
begun_few texts (line.Tick replica) = omega arith
begun_few texts (line.Stop replica) = omega arith
begun_few texts (line.Start replica) = omega arith
begun_few texts (line.Migrate replica) = omega arith
begun_few texts (line.Fuse replica call code) = omega arith
begun_few texts (line.Damage replica sector) = omega arith
begun_few texts (line.Stale replica sector) = omega arith
begun_few texts (line.Unread replica sector) = omega arith
begun_few texts (line.Misdirect replica sector other) = omega arith

schedule_few : (texts : List (List ℕ)) → length (schedule texts).lines ≤ limit
schedule_few [] = omega arith
schedule_few (text ∷ texts) =
    let cases : (o : Option Line) → length (option_map_or (begun texts) o (no_group (Some 1))).lines ≤ limit = elim [ None ↦ omega arith | Some l ↦ begun_few texts l ] in
    cases (line_at 1 0 0 text)

pub few_lines : (bytes : List ℕ) → length (schedule_of bytes).lines ≤ limit
few_lines bytes = schedule_few (lines_of bytes)
