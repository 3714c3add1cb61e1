-- Numbers of calls, and counts of them.
use Rattle.std.specs.Prelude.{ℕ, ◌<◌, ◌≤◌, ◌≡◌, List, Bool, ◌==◌, Result, Ok, IfOk, OnOk, OnErr}
use Rattle.std.specs.List.{list_any}
use Rattle.vr_base.specs.Causes.{one_more}

-- the call with this number is among these
abbrev pub is_listed : List ℕ → ℕ → Bool
is_listed calls call = list_any (λ listed. listed == call) calls

-- a write of so many bytes adds one to the count exactly where it fails, or takes none though there are some
pub record HasWriteCause {E : Type 0} (before now len : ℕ) (result : Result ℕ E) : Type 0 where
  pub later : before ≤ now
  pub took : IfOk result (λ count. 0 < count → now ≡ before)
  pub empty : len ≡ 0 → OnOk result (now ≡ before)
  pub none : result ≡ Ok 0 → 0 < len → now ≡ one_more before
  pub failed : OnErr result (now ≡ one_more before)
