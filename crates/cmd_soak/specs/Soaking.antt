-- A group in the midst of the lines that are drawn.
use Rattle.std.specs.Prelude.{ℕ, ◌+◌, ◌≡◌, length}
use Rattle.vr_group.specs.Outputs.{numbered}
use Rattle.vr_rules.specs.Outputs.{messages}
use Rattle.cmd_soak.specs.declared.soaking.Soaking.{Soaking}
use Rattle.cmd_soak.specs.Heard.{HasHeard}
use Rattle.cmd_soak.specs.Made.{come_to, made}

-- so many lines for a group of n, from a number, were drawn and have happened
pub record IsSoaking (n number count : ℕ) (s : Soaking) : Type 0 where
  pub size : s.group.world.n ≡ n
  pub drawn : s.generator.number ≡ (made n number count).number
  pub world : s.group.world ≡ (come_to n (made n number count).lines).world
  pub sent : length s.group.world.sent ≡ length (messages (come_to n (made n number count).lines).outputs)
  pub heard : HasHeard s.heard (numbered 0 (come_to n (made n number count).lines).outputs)

-- one more was drawn and has happened, however many before
abbrev pub GoesOn : Soaking → Soaking → Type 0
GoesOn s t = (n number count : ℕ) → IsSoaking n number count s → IsSoaking n number (count + 1) t
