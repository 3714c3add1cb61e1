use Rattle.std.proofs.Common.{arith, ℕ, ◌≡◌, ◌≤◌, ◌<◌, ◌+◌, ◌∙◌, sym, ap, refl, append_assoc, append-nil, cond, List, ◌++◌, Option, leb, ◌==◌}
use Rattle.std.specs.Option.{option_and_then, option_map_or, option_copied, option_to_list}
use Rattle.std.specs.List.{find}
use Rattle.vr_header.specs.declared.header.Header.{Header}
use Rattle.vr_msg.specs.declared.statement.Statement.{Statement}
use Rattle.vr_msg.specs.Choice.{stated_header, named_by, top_view, top_commit, start_of, log_start, chosen_header}
use Rattle.vr_choose.proofs.Rests.{headers_from, all_headers, one_header, no_header}
use Rattle.vr_choose.proofs.walk.log_headers.Goals as goal

-- the start of the log, from what the calls give
start_is : (ss : List Statement) (commit head start : ℕ) (far : Option Statement) → commit ≡ top_commit ss
    → far ≡ find (λ s. s.commit == commit) ss → start ≡ option_map_or (start_of commit head) far commit → start ≡ log_start ss head
start_is ss commit head start far e f s = s ∙ rw (f, e) refl

header_is : (ss : List Statement) (view commit k : ℕ) (far : Option Statement) (h : Option Header) → view ≡ top_view ss → commit ≡ top_commit ss
    → far ≡ find (λ s. s.commit == commit) ss → h ≡ cond (leb k commit) (option_and_then (stated_header k) far) (named_by view k ss) → h ≡ chosen_header ss k
header_is ss view commit k far h v e f s = s ∙ rw (f, e, v) refl

pub loop-k-init : goal.loop-k-init
loop-k-init c =
    let ss = c.args.statements.now in
    let start = start_is ss c.args.commit c.args.head c.log_start-start.result (option_copied c.with_commit-far.result) c.requires.commit c.with_commit-far.ensures c.log_start-start.ensures in
    rw (c.from_vec-headers.ensures, c.in_ok-with_capacity.ensures.items, start) (all_headers ss c.args.head)

pub loop-k-preserved : goal.loop-k-preserved
loop-k-preserved c =
    let ss = c.args.statements.now in
    let k : ℕ = c.loop-k.k in
    let header = header_is ss c.args.view c.args.commit k (option_copied c.with_commit-far.result) c.chosen_header.result c.requires.view c.requires.commit c.with_commit-far.ensures c.chosen_header.ensures in
    let within : k ≤ c.args.head = omega arith in
    let pushed : c.push_some.new.headers ≡ c.loop-k.headers ++ option_to_list c.chosen_header.result = c.in_ok-push_some.ensures in
    let rest : List Header = headers_from ss (k + 1) c.args.head in
    let step : option_to_list c.chosen_header.result ++ rest ≡ headers_from ss k c.args.head =
    ap (λ (o : Option Header). option_to_list o ++ rest) header ∙ sym (one_header ss k c.args.head within) in
    rw (pushed, append_assoc) (ap (λ (hs : List Header). c.loop-k.headers ++ hs) step ∙ c.loop-k.invariant)

pub returns : goal.returns
returns c =
    let ss = c.args.statements.now in
    let past : c.args.head < c.loop-k.k = omega arith in
    sym (append-nil _) ∙ ap (λ (hs : List Header). c.loop-k.headers ++ hs) (sym (no_header ss c.loop-k.k c.args.head past)) ∙ c.loop-k.invariant
