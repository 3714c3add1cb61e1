-- Registers of both versions, and what requests are to a session, computed.
use Rattle.std.proofs.Common.{◌≡◌, ℕ, zero, suc, List, [], ◌∷◌, ◌++◌, length, true, false, Ok, Err, refl}
use Rattle.vr_base.specs.Bytes.{bytes16, bytes32, bytes64}
use Rattle.vr_header.specs.Bodies.{outcome_bytes}
use Rattle.vr_header.specs.declared.outcome.Outcome.TheVariants as outcome
use Rattle.vr_state.specs.declared.fault.StateFault.TheVariants.{TooMany}
use Rattle.vr_state.specs.Fitting.{sessions_fit}
use Rattle.vr_state.specs.Front.{byte_from, number_from}
use Rattle.vr_state.specs.Table.{table_text, count_from, read_on, decoded}
use Rattle.vr_state.specs.Asks.{asked, sessions_after}
use Rattle.vr_state.specs.Sessions.{Map, Asked, checked, applied, oldest, without_oldest}
use Rattle.vr_state.specs.SessionTexts.{session_text, session_from, numbers_from, outcome_from, outcome_of, sessions_text, sessions_decoded}
use Rattle.vr_state.specs.declared.session.SessionAnswer.TheVariants.{Fresh, Repeat, Old, Gap, Evicted}

-- clients 1 to n, one after the other, by entries of this version
registers : ℕ → ℕ → List Asked
registers v zero = []
registers v (suc n) = registers v n ++ record { op = suc n; client = suc n; request = 0; outcome = outcome.Session; version = v } ∷ []

the_first_is_gone : checked (sessions_after (registers 1 33)) 1 1 ≡ Evicted
unfolding registers asked checked applied oldest without_oldest
the_first_is_gone = refl

the_second_is_there : checked (sessions_after (registers 1 33)) 2 0 ≡ Repeat outcome.Session 2
unfolding registers asked checked applied oldest without_oldest
the_second_is_there = refl

so_many_are_held : length (sessions_after (registers 1 33)) ≡ 32
unfolding registers asked checked applied oldest without_oldest
so_many_are_held = refl

-- in version 2 the 33rd takes none out, and the 65th one
no_one_is_gone : length (sessions_after (registers 2 33)) ≡ 33
unfolding registers asked checked applied oldest without_oldest
no_one_is_gone = refl

twice_as_many_are_held : length (sessions_after (registers 2 65)) ≡ 64
unfolding registers asked checked applied oldest without_oldest
twice_as_many_are_held = refl

the_first_of_65_is_gone : checked (sessions_after (registers 2 65)) 1 1 ≡ Evicted
unfolding registers asked checked applied oldest without_oldest
the_first_of_65_is_gone = refl

-- so many fit version 2, and not version 1
held_by_2 : sessions_fit 2 (sessions_after (registers 2 33)) ≡ true
unfolding sessions_fit registers asked checked applied oldest without_oldest
held_by_2 = refl

not_by_1 : sessions_fit 1 (sessions_after (registers 2 33)) ≡ false
unfolding sessions_fit registers asked checked applied oldest without_oldest
not_by_1 = refl

-- 40 of version 2 and one of version 1, which takes one out
mixed : Map
mixed = sessions_after (registers 2 40 ++ record { op = 41; client = 41; request = 0; outcome = outcome.Session; version = 1 } ∷ [])

still_40_are_held : length mixed ≡ 40
unfolding mixed registers asked checked applied oldest without_oldest
still_40_are_held = refl

the_first_of_40_is_gone : checked mixed 1 1 ≡ Evicted
unfolding mixed registers asked checked applied oldest without_oldest
the_first_of_40_is_gone = refl

the_second_of_40_is_there : checked mixed 2 0 ≡ Repeat outcome.Session 2
unfolding mixed registers asked checked applied oldest without_oldest
the_second_of_40_is_there = refl

-- client 7, which registered and put
seven : Map
seven = sessions_after (registers 1 7 ++ record { op = 8; client = 7; request = 1; outcome = outcome.Ok; version = 1 } ∷ [])

asked_again : checked seven 7 1 ≡ Repeat outcome.Ok 8
unfolding seven registers asked checked applied oldest without_oldest
asked_again = refl

from_before : checked seven 7 0 ≡ Old
unfolding seven registers asked checked applied oldest without_oldest
from_before = refl

next : checked seven 7 2 ≡ Fresh
unfolding seven registers asked checked applied oldest without_oldest
next = refl

one_missing : checked seven 7 3 ≡ Gap
unfolding seven registers asked checked applied oldest without_oldest
one_missing = refl

no_session : checked seven 8 1 ≡ Evicted
unfolding seven registers asked checked applied oldest without_oldest
no_session = refl

there_and_back : sessions_decoded (sessions_text seven) ≡ Ok seven
unfolding seven registers asked checked applied oldest without_oldest table_text session_text bytes16 bytes32 bytes64 outcome_bytes decoded count_from number_from read_on session_from numbers_from outcome_from outcome_of byte_from
there_and_back = refl

too_many : sessions_decoded (0 ∷ 65 ∷ []) ≡ Err TooMany
unfolding decoded count_from number_from
too_many = refl
