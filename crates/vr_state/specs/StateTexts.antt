-- The two texts of a state.
use Rattle.std.specs.Prelude.{ℕ, ◌≡◌, ◌+◌, ◌/◌, ◌≤◌, ◌⊎◌, length, Result, Ok, Err}
use Rattle.std.specs.Ordering.{nat_cmp}
use Rattle.vr_base.specs.Versions.{session_limit}
use Rattle.vr_state.specs.Pairs.{pair_text, kv_text, kv_decoded, kv_bytes}
use Rattle.vr_state.specs.Pairs as pairs
use Rattle.vr_state.specs.SessionTexts.{session_text, sessions_text, sessions_decoded, sessions_bytes}
use Rattle.vr_state.specs.Finite.{byte_order}
use Rattle.vr_state.specs.Table.{IsTextOf, IsFirstFault}
use Rattle.vr_state.specs.declared.fault.StateFault.{StateFault}
use Rattle.vr_state.specs.Kv as kv
use Rattle.vr_state.specs.Sessions as sess
use Rattle.vr_state.specs.declared.texts.Texts.{Texts}
use Rattle.vr_state.specs.declared.state.State.{State}

abbrev pub texts_of : State → Texts
texts_of s = record { sessions = sessions_text s.sessions; keys = kv_text s.machine }

-- sessions and machine where both are read; else the fault of the sessions, and then of the machine
abbrev pub both_read : Result sess.Map StateFault → Result kv.Map StateFault → Result State StateFault
both_read (Err fault) machine = Err fault
both_read (Ok sessions) (Err fault) = Err fault
both_read (Ok sessions) (Ok machine) = Ok (record { sessions = sessions; machine = machine })

-- the state of these texts, or the first fault
abbrev pub state_decoded : Texts → Result State StateFault
state_decoded t = both_read (sessions_decoded t.sessions) (kv_decoded t.keys)

-- what is read of any texts has numbers that an entry may have
abbrev pub TextsHaveNumbers : Type 0
TextsHaveNumbers = (t : Texts) (s : State) → state_decoded t ≡ Ok s → sess.HaveNumbers s.sessions

-- the sessions' text is one, and the fault is the first of the keys'
pub record IsFaultOfKeys (t : Texts) (fault : StateFault) : Type 0 where
  pub sessions : sess.Map
  pub read : IsTextOf nat_cmp session_text sess.Fits (session_limit 2) t.sessions sessions
  pub first : IsFirstFault byte_order pair_text pairs.Fits 128 t.keys fault

-- the fault is the first of the sessions' text, or else of the keys'
abbrev pub IsFirstFaultOf : Texts → StateFault → Type 0
IsFirstFaultOf t fault = IsFirstFault nat_cmp session_text sess.Fits (session_limit 2) t.sessions fault ⊎ IsFaultOfKeys t fault

-- the most bytes of both texts together
abbrev pub state_bytes : ℕ → ℕ
state_bytes v = sessions_bytes v + kv_bytes v

-- so many payloads of 3,968 bytes hold a text of this length
abbrev pub payloads : ℕ → ℕ
payloads n = (n + 3967) / 3968

-- so many payloads at most hold the sessions' text
abbrev pub session_payloads : ℕ
session_payloads = 49

-- and the keys'
abbrev pub key_payloads : ℕ
key_payloads = 99

pub record FitsPayloads (t : Texts) : Type 0 where
  pub sessions : payloads (length t.sessions) ≤ session_payloads
  pub keys : payloads (length t.keys) ≤ key_payloads
