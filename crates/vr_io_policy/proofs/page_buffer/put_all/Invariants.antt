use Rattle.std.proofs.Common.{ℕ, ◌≡◌, ◌*◌, ◌<◌, get_or, length, take}
use Rattle.vr_io_policy.specs.Caches.{bytes_of, stands_for}
use Rattle.vr_io_policy.specs.declared.cached.Cached.TheVariants.{Unknown}
use Rattle.vr_io_policy.proofs.page_buffer.put_all.Given as goal

abbrev pub invariant-loop-k : goal.invariant-loop-k
invariant-loop-k l = record {
  size : length l.out ≡ length l.fn.out;
  front : take (512 * l.k) l.out ≡ bytes_of (take l.k l.sectors);
  whole : (k : ℕ) → k < l.k → length (stands_for (get_or l.sectors k Unknown)) ≡ 512;
}
