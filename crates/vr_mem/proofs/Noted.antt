-- Contents of which zeros are only noted.
use Rattle.std.proofs.Common.{ℕ, ◌≡◌, ◌∙◌, sym, ap, true, List, length}
use Rattle.std.specs.Prelude.{replicate}
use Rattle.vr_base.specs.Bytes.{is_zeros}
use Rattle.vr_base.proofs.ZeroLaws.{are_zeros}
use Rattle.vr_mem.specs.declared.bytes.MemBytes.{MemBytes}
use Rattle.vr_mem.specs.Seen.{bytes_of, copies}

-- bytes that are zeros, noted
pub noted_zeros : (m : MemBytes) (b : List ℕ) → m.zeros ≡ true → is_zeros b ≡ true → length b ≡ 512 → bytes_of m ≡ b
unfolding bytes_of copies
noted_zeros m b z e l = rw z (ap (λ n. replicate n 0) (sym l) ∙ sym (are_zeros b e))
