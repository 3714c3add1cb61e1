use Rattle.std.proofs.Common.{ℕ, ◌≡◌, true}
use Rattle.vr_file.specs.Above.{Goes, IsAbove}
use Rattle.vr_file.specs.Calls.{Spots}
use Rattle.vr_io_policy.specs.Caches.{cached, calls_left, is_held}
use Rattle.vr_file.proofs.kept.Kept.flush.Given as goal

abbrev pub invariant-loop : goal.invariant-loop
invariant-loop g l = record {
  kept : (k : ℕ) → is_held (cached l.fn.self.cache k) ≡ true → cached l.self.cache k ≡ cached l.fn.self.cache k;
  above : (d : Spots) → IsAbove l.fn.self.cache (g.F.PageFile.told l.fn.file) d → Goes l.self.cache (g.F.PageFile.told l.file) (λ e. e) d;
}

abbrev pub decreases-loop : goal.decreases-loop
decreases-loop g l = calls_left l.self.cache
