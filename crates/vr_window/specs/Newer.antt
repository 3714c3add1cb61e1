-- Which logs are newer than the one that a replica has.
use Rattle.std.specs.Prelude.{ℕ, Bool, ◌&&◌, ◌||◌, ◌==◌, nat_lt}
use Rattle.vr_window.specs.declared.standing.Standing.{Standing}

-- of a later view, or of this one, where none was begun or the log is longer
abbrev pub is_behind : Standing → ℕ → ℕ → Bool
is_behind s view head =
    nat_lt s.view view || ((view == s.view) && (nat_lt s.log_view view || ((view == s.log_view) && nat_lt s.head head)))
