-- How long the file of a disk is: 498 pages of 4,096 bytes, which are 3,984 sectors.
use Rattle.std.specs.Prelude.{ℕ, ◌+◌, ◌*◌, ◌/◌, ◌==◌, min, nat_lt, if◌then◌else◌}
use Rattle.vr_io_policy.specs.declared.lengths.Length.{Length}
use Rattle.vr_io_policy.specs.declared.lengths.Length.TheVariants.{Short, Whole, Long}

abbrev pub whole_length : ℕ
whole_length = 498 * 4096

abbrev pub length_of : ℕ → Length
length_of len = if nat_lt len whole_length then Short else (if len == whole_length then Whole else Long)

-- a file of this length has bytes of so many sectors, the last of them maybe not whole
abbrev pub sectors_begun : ℕ → ℕ
sectors_begun len = min 3984 ((len + 511) / 512)
