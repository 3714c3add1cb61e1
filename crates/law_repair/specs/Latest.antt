-- Which entries a file takes.
use Rattle.std.specs.Prelude.{ℕ}
use Rattle.vr_base.specs.Versions.{by_version}

-- the latest version of an entry that a file of this version has room for
abbrev pub latest : ℕ → ℕ
latest v = by_version v 1 2
