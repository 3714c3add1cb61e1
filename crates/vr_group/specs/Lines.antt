-- What lines say that happens to a group.
use Rattle.std.specs.Prelude.{ℕ, ◌-◌, List, map}
use Rattle.std.specs.List.{AllByRecursion}
use Rattle.vr_lie.specs.declared.fault.Fault.TheVariants as fault
use Rattle.vr_lines.specs.Fits.{IsLineOf}
use Rattle.vr_lines.specs.declared.line.Line.{Line}
use Rattle.vr_lines.specs.declared.line.Line.TheVariants.{Cluster, Request, Deliver, Tick, Stop, Start, Migrate, Fuse, Damage, Stale, Unread, Misdirect}
use Rattle.vr_world.specs.World.{Happening, Begins, AsksInVersion, Arrives, Ticks, Stops, Starts, Migrates, Fuses, Lies}

abbrev pub happening : Line → Happening
happening (Cluster n kind) = Begins kind n
happening (Request replica request) = AsksInVersion replica request
happening (Deliver number) = Arrives number
happening (Tick replica) = Ticks replica
happening (Stop replica) = Stops replica
happening (Start replica) = Starts replica
happening (Migrate replica) = Migrates replica
happening (Fuse replica call code) = Fuses replica (call - 1) code
happening (Damage replica sector) = Lies replica (fault.Damage sector)
happening (Stale replica sector) = Lies replica (fault.Stale sector)
happening (Unread replica sector) = Lies replica (fault.Unread sector)
happening (Misdirect replica sector other) = Lies replica (fault.Misdirect sector other)

unfoldable pub happenings : List Line → List Happening
happenings lines = map happening lines

-- the lines after one that makes a group are of the version of its files
abbrev pub version_behind : ℕ → Line → ℕ
version_behind v (Cluster n kind) = kind.version
version_behind v _ = v

-- each is a line of a version, of a group of n members
unfoldable pub AreLinesOf : ℕ → ℕ → List Line → Type 0
AreLinesOf version n lines = AllByRecursion (IsLineOf version n) lines
