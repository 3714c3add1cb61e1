-- Which number the next request of a client has.
use Rattle.std.specs.Prelude.{ℕ, ◌+◌, ◌-◌, ◌^◌, ◌==◌, max, min, List, [], ◌∷◌, filter_map, Option, Some, None, if◌then◌else◌}
use Rattle.std.specs.List.{fold}
use Rattle.std.specs.Option.{option_map_or}
use Rattle.vr_msg.specs.declared.output.Output.{Output}
use Rattle.vr_msg.specs.declared.output.Output.TheVariants as output
use Rattle.vr_msg.specs.declared.reply.ReplyFields.{ReplyFields}
use Rattle.vr_msg.specs.declared.reply.ReplyKind.{ReplyKind}
use Rattle.vr_msg.specs.declared.reply.ReplyKind.TheVariants as reply

-- the number of the request that a reply with an outcome answers, where it goes to this client
abbrev pub answers_as : ℕ → ReplyFields → ReplyKind → Option ℕ
answers_as client r (reply.Outcome a) = if r.client == client then Some r.request else None
answers_as client r _ = None

abbrev pub answers : ℕ → Output → Option ℕ
answers client (output.Reply r) = answers_as client r r.kind
answers client _ = None

-- 0 where nothing was answered, else one more than the greatest number that was, and at most 2^32 - 1
abbrev pub next_behind : List ℕ → ℕ
next_behind [] = 0
next_behind (q ∷ qs) = min (2 ^ 32 - 1) (fold max q qs + 1)

-- the number of a client's next request, by all that was put out
unfoldable pub next_request : List Output → ℕ → ℕ
next_request outputs client = next_behind (filter_map (answers client) outputs)

-- those of the clients 1 to 4
abbrev pub next_requests : List Output → List ℕ
next_requests outputs = next_request outputs 1 ∷ next_request outputs 2 ∷ next_request outputs 3 ∷ next_request outputs 4 ∷ []

-- the same, one output later
abbrev pub next_after : ℕ → Output → ℕ → ℕ
next_after client o next = option_map_or (λ q. max next (min (2 ^ 32 - 1) (q + 1))) (answers client o) next
