use Rattle.std.proofs.Common.{◌≡◌, ◌≤◌, ◌<◌, ℕ, false, get_or}
use Rattle.vr_io_policy.specs.declared.cached.Cached.TheVariants.{Unknown}
use Rattle.vr_io_policy.specs.Caches.{is_unread}
use Rattle.vr_io_policy.proofs.cache.first_unread.Given as goal

abbrev pub invariant-loop-i : goal.invariant-loop-i
invariant-loop-i l = record {
  from : l.from ≤ l.i;
  known : (k : ℕ) → l.from ≤ k → k < l.i → is_unread (get_or l.sectors k Unknown) ≡ false;
}
