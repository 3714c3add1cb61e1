-- Of normal operation: which replica leads a view, how many entries may be open, where ops end, and when two names are one.
use Rattle.std.specs.Prelude.{ℕ, ◌%◌, ◌^◌, Bool, nat_eq}
use Rattle.std.specs.Cmp.Lexicographic.{pointwise}
use Rattle.vr_base.specs.declared.sum.Sum.{Sum}

abbrev pub primary : ℕ → ℕ → ℕ
primary n view = view % n

-- so many entries may be open at the primary, and ops end at this number
abbrev pub pipeline : ℕ
pipeline = 8

abbrev pub last_op : ℕ
last_op = 2 ^ 62

abbrev pub same_sum : Sum → Sum → Bool
same_sum a b = pointwise nat_eq a.0 b.0
