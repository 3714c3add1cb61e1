-- Sets of replicas, by a flag for each number from 0 to 5.
use Rattle.std.specs.Prelude.{ℕ, Bool, true, false, replicate, slice_set, slice_index_or, count_by, nat_lt, if◌then◌else◌}
use Rattle.vr_base.specs.declared.replicas.Replicas.{Replicas}

abbrev pub no_replicas : Replicas
no_replicas = record { 0 = replicate 6 false }

abbrev pub with_replica : Replicas → ℕ → Replicas
with_replica s r = if nat_lt r 6 then record { 0 = slice_set s.0 r true } else s

abbrev pub has_replica : Replicas → ℕ → Bool
has_replica s r = slice_index_or s.0 r false

abbrev pub size : Replicas → ℕ
size s = count_by (λ flag. flag) s.0
