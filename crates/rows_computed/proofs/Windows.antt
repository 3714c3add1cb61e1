-- Worked rows of checkpoints and windows.
use Rattle.std.proofs.Common.{ℕ, ◌+◌, ◌*◌, ◌≡◌, List, [], ◌∷◌, ◌++◌, length, codes, drop, Some, refl}
use Rattle.std.specs.List.{flat_map, range_with_len}
use Rattle.vr_header.specs.declared.operation.Operation.{Operation}
use Rattle.vr_header.specs.declared.operation.Operation.TheVariants.{Register, Put, Get}
use Rattle.vr_lie.specs.declared.fault.Fault.TheVariants.{Damage}
use Rattle.vr_header.specs.declared.outcome.Outcome.TheVariants as outcome
use Rattle.vr_state.specs.declared.state.State.{State}
use Rattle.vr_text.specs.Text.{letter}
use Rattle.vr_rules.specs.Replica.{Replica, part_at, head}
use Rattle.vr_world.specs.World.{Happening, Arrives, Ticks, Stops, Starts, Lies}
use Rattle.rows_computed.proofs.Plain.{asks, replayed, seen}

abbrev pub put : Operation
put = Put (codes "a") (codes "b")

-- Client 7 registers and puts; each op's prepare reaches replica 1 alone, and its prepare_ok the primary. Op k has the messages
-- from 3 (k - 1) on.
abbrev pub put_of_three : ℕ → List Happening
put_of_three k = asks 0 7 k put ∷ Arrives (3 * k) ∷ Arrives (3 * k + 2) ∷ []

abbrev pub puts_of_three : ℕ → List Happening
puts_of_three n = asks 0 7 0 Register ∷ Arrives 0 ∷ Arrives 2 ∷ flat_map put_of_three (range_with_len 1 n)

-- A replica at checkpoint 0 that knows nothing is told of op 65, which is beyond its window, of op 64, and of the log up to 65: it asks
-- for the checkpoint.
abbrev pub past_window : List Happening
past_window = puts_of_three 64 ++ Arrives 193 ∷ Arrives 190 ∷ Arrives 195 ∷ Arrives 196 ∷ []

window : drop 389 (replayed 3 past_window)
    ≡ codes "send 195 2 0 get_view view 0"
    ∷ codes "send 196 0 2 start_view view 0 op 65 commit 65"
    ∷ codes "send 197 2 0 get_sync view 0"
    ∷ []
unfolding replayed
window = refl

-- ---- forgotten headers: past 64 ops the first header is forgotten, and its Part with it

-- the first op that a replica remembers, how many it has a Part for, its head, and the letters of the Parts of ops 1, 2 and 65
abbrev remembered : Replica → List ℕ
remembered r = r.first ∷ length r.parts ∷ head r ∷ letter (part_at r 1) ∷ letter (part_at r 2) ∷ letter (part_at r 65) ∷ []

whole_log : seen remembered 1 3 (puts_of_three 63) ≡ Some (1 ∷ 96 ∷ 64 ∷ codes "hhn")
unfolding seen
whole_log = refl

first_forgotten : seen remembered 1 3 (puts_of_three 64) ≡ Some (2 ∷ 127 ∷ 65 ∷ codes "nhh")
unfolding seen
first_forgotten = refl

-- ---- checkpoints

-- Client 7 registers and puts, and both messages of each op arrive.
abbrev pub put_of_two : ℕ → List Happening
put_of_two k = asks 0 7 k put ∷ Arrives (2 * k) ∷ Arrives (2 * k + 1) ∷ []

abbrev pub puts_of_two : ℕ → List Happening
puts_of_two n = asks 0 7 0 Register ∷ Arrives 0 ∷ Arrives 1 ∷ flat_map put_of_two (range_with_len 1 n)

-- commit number, applied op, checkpoint, the address of its root, the ends of the lists of Parts and ackers, and what the superblock says of
-- commit number, checkpoint and head
abbrev pub numbers : Replica → List ℕ
numbers r =
    r.commit ∷ r.applied ∷ r.checkpoint ∷ r.root.address ∷ (r.first + length r.parts) ∷ (r.first + length r.ackers) ∷ r.saved.fields.commit ∷ r.saved.fields.checkpoint ∷ r.saved.fields.head ∷ []

before_checkpoint : seen numbers 0 2 (puts_of_two 30) ≡ Some (31 ∷ 31 ∷ 0 ∷ 0 ∷ 65 ∷ 65 ∷ 0 ∷ 0 ∷ 0 ∷ [])
unfolding seen
before_checkpoint = refl

at_checkpoint : seen numbers 0 2 (puts_of_two 31) ≡ Some (32 ∷ 32 ∷ 32 ∷ 64 ∷ 97 ∷ 97 ∷ 32 ∷ 32 ∷ 32 ∷ [])
unfolding seen
at_checkpoint = refl

-- the other replica hears with op 33 that op 32 is committed
at_backup : seen numbers 1 2 (puts_of_two 32) ≡ Some (32 ∷ 32 ∷ 32 ∷ 64 ∷ 97 ∷ 97 ∷ 32 ∷ 32 ∷ 33 ∷ [])
unfolding seen
at_backup = refl

-- ---- repair of a block: the root of replica 1's checkpoint is damaged, which it finds when it starts

abbrev repair : List Happening
repair = Lies 1 (Damage 912) ∷ Stops 1 ∷ Starts 1 ∷ Ticks 1 ∷ Arrives 66 ∷ Arrives 67 ∷ []

repaired : drop 164 (replayed 2 (puts_of_two 32 ++ repair))
    ≡ codes "done"
    ∷ codes "start 1 view 0 log_view 0 commit 32"
    ∷ codes "send 66 1 0 get_block 64"
    ∷ codes "send 67 0 1 give_block 64"
    ∷ []
unfolding replayed
repaired = refl

-- how many blocks are missing, and what the state has
abbrev held : Replica → ℕ × State
held r = (length r.missing, r.state)

abbrev none : State
none = record { sessions = []; machine = [] }

abbrev state_at_32 : State
state_at_32 = record { sessions = (7, record { number = 31; op = 32; outcome = outcome.Ok }) ∷ []; machine = (codes "a", codes "b") ∷ [] }

without_root : seen held 1 2 (puts_of_two 32 ++ Lies 1 (Damage 912) ∷ Stops 1 ∷ Starts 1 ∷ []) ≡ Some (1, none)
unfolding seen
without_root = refl

with_root : seen held 1 2 (puts_of_two 32 ++ repair) ≡ Some (0, state_at_32)
unfolding seen
with_root = refl

-- op 33 is committed and applied on that state
goes_on : drop 168 (replayed 2 (puts_of_two 32 ++ repair ++ Ticks 0 ∷ Arrives 68 ∷ []))
    ≡ codes "send 68 0 1 commit view 0 op 33 commit 33"
    ∷ codes "commit 1 op 33 view 0 client 7 request 32 put a b"
    ∷ []
unfolding replayed
goes_on = refl

-- ---- sessions give way: 33 clients register, one after the other

abbrev register_of_two : ℕ → List Happening
register_of_two k = asks 0 (k + 1) 0 Register ∷ Arrives (2 * k) ∷ Arrives (2 * k + 1) ∷ []

eviction : drop 164 (replayed 2 (flat_map register_of_two (range_with_len 0 33) ++ asks 0 1 1 (Get (codes "a")) ∷ asks 0 2 0 Register ∷ []))
    ≡ codes "reply 0 client 1 request 1 evicted"
    ∷ codes "reply 0 client 2 request 0 op 2 session"
    ∷ []
unfolding replayed
eviction = refl
