-- What a link, or streams, tell of their attaches.
use Rattle.std.specs.Global.{Global}
use Rattle.std.specs.Prelude.{ℕ, List, map, Bool, true, false, String, string_bytes, Result, Ok, Err}
use Rattle.vr_edge.specs.declared.attach.Attach.{Attach}

abbrev pub texts_of : List (String Global) → List (List ℕ)
texts_of texts = map string_bytes texts

-- an attach with this own address and these of the peers, which went well or not
abbrev pub attach_of : List ℕ → List (List ℕ) → Bool → Attach
attach_of own peers is_done = record { own = own; peers = peers; is_done = is_done }

-- the entry of one attach
abbrev pub attached_by : {E : Type 0} → List ℕ → List (List ℕ) → Result (Unit {0}) E → Attach
attached_by own peers (Ok done) = attach_of own peers true
attached_by own peers (Err e) = attach_of own peers false
