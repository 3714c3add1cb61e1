-- The numbers of the clients' next requests, one output later.
use Rattle.std.proofs.Common.{◌≡◌, ◌+◌, ◌-◌, ◌^◌, ℕ, refl, ap, ◌∙◌, arith, max, min, List, [], ◌∷◌, ◌++◌, Option, Some, None}
use Rattle.std.specs.List.{filter_map}
use Rattle.std.specs.Option.{option_map_or}
use Rattle.std.proofs.lemmas.List.{append-nil}
use Rattle.std.proofs.lemmas.List.Elements.{filter_map-append}
use Rattle.std.proofs.lemmas.List.Sums.{fold-append}
use Rattle.vr_msg.specs.declared.output.Output.{Output}
use Rattle.vr_draws.specs.Asking.{answers, next_behind, next_request, next_after}

behind_more : (qs : List ℕ) (q : ℕ) → next_behind (qs ++ q ∷ []) ≡ max (next_behind qs) (min (2 ^ 32 - 1) (q + 1))
behind_more [] q = omega arith
behind_more (p ∷ qs) q = rw (fold-append max p qs (q ∷ [])) (omega arith)

-- by what the output answers
behind_answer : (before : List Output) (client : ℕ) (o : Output) (a : Option ℕ) → answers client o ≡ a
    → next_behind (filter_map (answers client) before ++ filter_map (answers client) (o ∷ [])) ≡ option_map_or (λ q. max (next_behind (filter_map (answers client) before)) (min (2 ^ 32 - 1) (q + 1))) a (next_behind (filter_map (answers client) before))
behind_answer before client o None e = rw e (ap next_behind (append-nil (filter_map (answers client) before)))
behind_answer before client o (Some q) e = rw e (behind_more (filter_map (answers client) before) q)

pub request_more : (before : List Output) (client : ℕ) (o : Output) → next_request (before ++ o ∷ []) client ≡ next_after client o (next_request before client)
unfolding next_request
request_more before client o = ap next_behind (filter_map-append (answers client) before (o ∷ [])) ∙ behind_answer before client o (answers client o) refl
