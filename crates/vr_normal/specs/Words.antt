-- Words of the normal case, and what they ask of the log.
use Rattle.std.specs.Prelude.{ℕ, ◌+◌, ◌-◌, Bool, false, ◌&&◌, ◌==◌, nat_le, nat_lt, List, drop, take}
use Rattle.std.specs.List.{list_any}
use Rattle.std.specs.Option.{option_map_or}
use Rattle.vr_base.specs.Bytes.{name_of}
use Rattle.vr_header.specs.declared.header.Header.{Header}
use Rattle.vr_header.specs.declared.part.Part.{Part}
use Rattle.vr_header.specs.Names.{header_name}
use Rattle.vr_header.specs.Parts.{header_of}
use Rattle.vr_msg.specs.declared.frame.Commit.{Commit}
use Rattle.vr_msg.specs.declared.frame.PrepareOk.{PrepareOk}
use Rattle.vr_msg.specs.Normal.{same_sum}
use Rattle.vr_rules.specs.Deciding.{is_named, is_unknown}
use Rattle.vr_rules.specs.Replica.{Replica, head, head_header, leads}
use Rattle.vr_rules.specs.Rules.{ask_view}
use Rattle.vr_rules.specs.Steps.{Word, by, when}

-- where the log of the primary is longer, it is asked for
unfoldable pub asks_behind : {F : Type 0} → Commit → Word F
asks_behind c = by (λ r. when (nat_lt (head r) c.head) (ask_view c.view c.replica))

-- a known header is of this client's request
abbrev pub is_of : ℕ → Part → Bool
is_of client p = option_map_or (λ h. h.client == client) (header_of p) false

-- one of the headers from place i on, up to another place, is
unfoldable pub any_of : ℕ → List Part → ℕ → ℕ → Bool
any_of client ps i end = list_any (is_of client) (take (end - i) (drop i ps))

-- a prepare_ok is of an open entry of the view that this replica leads
abbrev pub is_open : PrepareOk → Replica → Bool
is_open a r = leads r && ((a.view == r.view) && (nat_lt r.commit a.op && (nat_le a.op (head r) && is_named name_of a.name a.op r)))

-- a header is of the next entry: the head's op and name come before it
abbrev pub is_next : Header → Replica → Bool
is_next h r = is_unknown h.op r && ((h.op == head r + 1) && same_sum h.parent (header_name (head_header name_of r)))
