-- Where the blocks of a replica's checkpoint stand, whatever comes.
use Rattle.std.specs.Prelude.{ℕ, ◌+◌, ◌<◌, ◌≤◌, ◌≡◌, ◌≢◌, true, false, List, [], ◌∷◌, All, Contains, length}
use Rattle.vr_base.specs.Bytes.{IsBytes}
use Rattle.vr_base.specs.declared.kind.Kind.{Kind}
use Rattle.vr_disk.specs.DiskState.{Face, IsFace}
use Rattle.vr_ckpt.specs.declared.name.Name.{Name}
use Rattle.vr_state.specs.Kv.{IsKv}
use Rattle.vr_state.specs.Sessions.{IsSessions}
use Rattle.vr_ckpt.specs.Places.{is_place, keys_places, place_of, sessions_places}
use Rattle.vr_ckpt.specs.declared.places.Places.{Places}
use Rattle.vr_state.specs.StateTexts.{key_payloads, session_payloads}
use Rattle.vr_ckpt.specs.declared.table.Payload.{Payload}
use Rattle.vr_ckpt.specs.declared.table.PayloadTable.{PayloadTable}
use Rattle.vr_msg.specs.declared.event.Event.{Event}
use Rattle.vr_super.specs.Copies.{IsGood, SuperValue}
use Rattle.vr_world.specs.GroupFit.{IsFitReplica}
use Rattle.vr_rules.specs.Laws.{IsEvent}
use Rattle.vr_rules.specs.Opening.{blank, fresh, opening}
use Rattle.vr_rules.specs.Replica.{Replica, is_spent}
use Rattle.vr_rules.specs.Rules.{react}
use Rattle.vr_rules.specs.Steps.{Setting}
use Rattle.vr_rules.specs.Words.{blocks_of}
use Rattle.law_4_disks.specs.Stocks.{IsGivenEvent}
use Rattle.law_repair.specs.Cover.{IsLaidOut}

-- at one of the two places of a block, by the lower one
abbrev pub StandsAt : ℕ → Name → Type 0
StandsAt low name = is_place low name.address ≡ true

-- payloads at the places of a text, from the i-th of it on, one after the other
abbrev pub AreAt : Places → ℕ → List Payload → Type 0
AreAt l i [] = Unit {0}
AreAt l i (p ∷ ps) = StandsAt (place_of l i) p.name × AreAt l (i + 1) ps

-- no more of them than there are places
pub record IsInPlaces (t : PayloadTable) : Type 0 where
  pub sessions : AreAt sessions_places 0 t.sessions
  pub few_sessions : length t.sessions ≤ session_payloads
  pub keys : AreAt keys_places 0 t.keys
  pub few_keys : length t.keys ≤ key_payloads

-- Its state is one of the program's, so that its texts never fill more blocks than there are places for. The payloads of its last table stand
-- at theirs, and so does the root, where there is a checkpoint and no block is missing. What has gone bad is among the checkpoint's blocks;
-- while one is missing none is known as bad.
pub record IsInPlace (r : Replica) : Type 0 where
  pub sessions : IsSessions r.state.sessions
  pub machine : IsKv r.state.machine
  pub table : IsInPlaces r.table
  pub root : r.missing ≡ [] → 0 < r.checkpoint → StandsAt 0 r.root
  pub worn : All (Contains (blocks_of r)) r.worn
  pub none : r.missing ≢ [] → r.worn ≡ []

-- Where sequence numbers are at their end nothing is said: there it ignores every event, and visits nothing.
abbrev pub StaysInPlace : Replica → Type 0
StaysInPlace r = is_spent r ≡ false → IsInPlace r

-- A replica begins with its checkpoint in place, and stays so, whatever comes: where its disk, and a block that comes, consist of bytes.
-- The blocks of a replica whose checkpoint is in place are laid out.
pub record PlacesStay {F : Type 0} (s : Setting F) (face : F → Face) : Type 0 where
  pub fresh : (kind : Kind) (cluster n index : ℕ) → IsInPlace (fresh kind cluster n index)
  pub openings : (f : F) (v : SuperValue) → IsFace (face f) → IsGood v → StaysInPlace (opening v s (blank v) f).replica
  pub steps : (e : Event) (r : Replica) (f : F) → IsFace (face f) → IsFitReplica r → IsEvent e → IsGivenEvent IsBytes e → StaysInPlace r
      → StaysInPlace (react e s r f).replica
  pub laid : (r : Replica) → IsInPlace r → IsLaidOut r
