-- To whom an answer goes.
use Rattle.std.specs.Prelude.{ℕ, Bool, false, nat_lt, ◌==◌, if◌then◌else◌}
use Rattle.vr_io_policy.specs.declared.receiver.Receiver.{Receiver}
use Rattle.vr_io_policy.specs.declared.receiver.Receiver.TheVariants.{Peer, Machine}

-- so many peers have the first ports; of any other port the receiver is its machine
abbrev pub receiver_of : {A : Type 0} → ℕ → ℕ → A → Receiver A
receiver_of peers port machine = if nat_lt port peers then Peer port else Machine machine

abbrev pub is_peer : {A : Type 0} → ℕ → Receiver A → Bool
is_peer number (Peer own) = own == number
is_peer number (Machine own) = false

abbrev pub is_machine : {A : Type 0} → (A → A → Bool) → A → Receiver A → Bool
is_machine same address (Peer own) = false
is_machine same address (Machine own) = same address own

abbrev pub same_receiver : {A : Type 0} → (A → A → Bool) → Receiver A → Receiver A → Bool
same_receiver same (Peer number) r = is_peer number r
same_receiver same (Machine address) r = is_machine same address r
