-- What a stream at a port does.
use Rattle.std.specs.Prelude.{ℕ, ◌≡◌, ◌<◌, ◌≤◌, Bool, true, false, if◌then◌else◌, List, [], ◌++◌, length}
use Rattle.vr_stream.specs.declared.line.Incoming.{Incoming}

-- nothing has come
abbrev pub fresh_line : Incoming
fresh_line = record { deframer = []; over = false }

-- what is left when bytes come: nothing of a connection that is over
abbrev pub kept : Incoming → List ℕ
kept line = if line.over then [] else line.deframer

-- bytes are taken where less than the longest message is left
abbrev pub Takes : Incoming → List ℕ → Incoming → Bool → Type 0
Takes old bytes new true = (length (kept old) < 20480) × (new ≡ record { deframer = kept old ++ bytes; over = false })
Takes old bytes new false = (20480 ≤ length (kept old)) × (new ≡ record { deframer = kept old; over = false })
