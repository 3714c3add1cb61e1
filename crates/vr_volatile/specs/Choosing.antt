-- The line on a log that was chosen.
use Rattle.std.specs.Prelude.{ℕ, ◌+◌, List, [], ◌∷◌}
use Rattle.vr_msg.specs.declared.output.Output.{Output}
use Rattle.vr_msg.specs.declared.output.Output.TheVariants as output
use Rattle.vr_rules.specs.Replica.{Replica, parts_from, trimmed}

abbrev pub chosen_line : ℕ → ℕ → ℕ → Replica → List Output
chosen_line log_view commit head r =
    output.Choose (record { replica = r.index; view = r.view; log_view = log_view; commit = commit; head = head; own = trimmed (parts_from r (r.commit + 1)) })
    ∷ []
