-- The headers from an op on, for the loop that puts them out.
use Rattle.std.proofs.Common.{ℕ, suc, ◌+◌, ◌-◌, ◌≤◌, ◌<◌, ◌≡◌, arith, refl, List, [], ◌++◌, Option, Some, None}
use Rattle.std.specs.List.{range_with_len, filter_map, cons_option}
use Rattle.std.specs.Option.{option_to_list}
use Rattle.vr_header.specs.declared.header.Header.{Header}
use Rattle.vr_msg.specs.declared.statement.Statement.{Statement}
use Rattle.vr_msg.specs.Choice.{chosen_header, log_start, log_headers}

unfoldable pub headers_from : List Statement → ℕ → ℕ → List Header
headers_from ss k head = filter_map (chosen_header ss) (range_with_len k (head + 1 - k))

pub all_headers : (ss : List Statement) (head : ℕ) → headers_from ss (log_start ss head + 1) head ≡ log_headers ss head
unfolding headers_from log_headers
all_headers ss head = let e : head + 1 - (log_start ss head + 1) ≡ head - log_start ss head = omega arith in rw e refl

put_first : (o : Option Header) (hs : List Header) → cons_option o hs ≡ option_to_list o ++ hs
put_first None hs = refl
put_first (Some h) hs = refl

pub one_header : (ss : List Statement) (k head : ℕ) → k ≤ head → headers_from ss k head ≡ option_to_list (chosen_header ss k) ++ headers_from ss (k + 1) head
unfolding headers_from
one_header ss k head l =
    let e : head + 1 - k ≡ suc (head + 1 - (k + 1)) = omega arith in
    rw e (put_first (chosen_header ss k) (filter_map (chosen_header ss) (range_with_len (k + 1) (head + 1 - (k + 1)))))

pub no_header : (ss : List Statement) (k head : ℕ) → head < k → headers_from ss k head ≡ []
unfolding headers_from
no_header ss k head l = let e : head + 1 - k ≡ 0 = omega arith in rw e refl
