-- Lines that speak of a group.
use Rattle.std.specs.Prelude.{ℕ, ◌<◌, ◌≤◌, ◌≡◌, ◌≢◌}
use Rattle.vr_base.specs.Groups.{least_members}
use Rattle.vr_lines.specs.Versions.{line_sectors}
use Rattle.vr_lines.specs.declared.line.Line.{Line}
use Rattle.vr_lines.specs.declared.line.Line.TheVariants.{Cluster, Request, Deliver, Tick, Stop, Start, Migrate, Fuse, Damage, Stale, Unread, Misdirect}

-- a sector that lines of a version speak of
abbrev pub IsSector : ℕ → ℕ → Type 0
IsSector version sector = sector < line_sectors version

-- a line makes a group where there is none, and else speaks of one of n replicas of a version
abbrev pub IsLineOf : ℕ → ℕ → Line → Type 0
IsLineOf version n (Cluster m kind) = (n ≡ 0) × (least_members kind.version ≤ m) × (m ≤ 6) × (1 ≤ kind.version) × (kind.version ≤ 2)
IsLineOf version n (Request replica request) = (replica < n) × (request.version ≡ version)
IsLineOf version n (Deliver number) = 0 < n
IsLineOf version n (Tick replica) = replica < n
IsLineOf version n (Stop replica) = replica < n
IsLineOf version n (Start replica) = replica < n
IsLineOf version n (Migrate replica) = replica < n
IsLineOf version n (Fuse replica call code) = (replica < n) × (1 ≤ call) × (call ≤ 1000000)
IsLineOf version n (Damage replica sector) = (replica < n) × IsSector version sector
IsLineOf version n (Stale replica sector) = (replica < n) × IsSector version sector
IsLineOf version n (Unread replica sector) = (replica < n) × IsSector version sector
IsLineOf version n (Misdirect replica sector other) = (replica < n) × IsSector version sector × IsSector version other × (sector ≢ other)
