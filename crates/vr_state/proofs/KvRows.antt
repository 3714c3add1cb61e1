-- The 129th key, a key that is absent, values of each version, and the three faults of a text, computed.
use Rattle.std.proofs.Common.{◌≡◌, ℕ, zero, suc, ◌+◌, ◌/◌, ◌%◌, List, [], ◌∷◌, ◌++◌, length, map, replicate, true, false, Ok, Err, refl}
use Rattle.vr_base.specs.Bytes.{bytes16}
use Rattle.vr_base.specs.Versions.{value_limit}
use Rattle.vr_header.specs.Text.{is_text}
use Rattle.vr_header.specs.declared.operation.Operation.{Operation}
use Rattle.vr_header.specs.declared.operation.Operation.TheVariants.{Put, Get}
use Rattle.vr_header.specs.declared.outcome.Outcome.TheVariants as outcome
use Rattle.vr_state.specs.declared.fault.StateFault.TheVariants.{Torn, NotSorted, TooMany}
use Rattle.vr_state.specs.Front.{byte_from, number_from, piece_from}
use Rattle.vr_state.specs.Table.{table_text, count_from, read_on, decoded}
use Rattle.vr_state.specs.Kv.{Map, applied, putting, getting, machine_after}
use Rattle.vr_state.specs.Pairs.{pair_text, pieces_from, pair_from, kv_text, kv_decoded}

puts : ℕ → List Operation
puts zero = []
puts (suc n) = puts n ++ Put ((97 + n / 8) ∷ (48 + n % 8) ∷ []) (118 ∷ []) ∷ []

full : Map
full = machine_after (puts 128)

a_new_key_is_refused : (applied full (Put (122 ∷ 122 ∷ []) (118 ∷ []))).outcome ≡ outcome.Full
unfolding full puts applied putting
a_new_key_is_refused = refl

the_keys_stay : length (applied full (Put (122 ∷ 122 ∷ []) (118 ∷ []))).machine ≡ 128
unfolding full puts applied putting
the_keys_stay = refl

a_key_that_is_there_takes_a_value : (applied full (Put (97 ∷ 48 ∷ []) (119 ∷ []))).outcome ≡ outcome.Ok
unfolding full puts applied putting
a_key_that_is_there_takes_a_value = refl

no_such_key : (applied full (Get (122 ∷ []))).outcome ≡ outcome.Absent
unfolding full puts applied putting getting
no_such_key = refl

there_and_back : kv_decoded (kv_text (machine_after (puts 3))) ≡ Ok (machine_after (puts 3))
unfolding puts applied putting table_text pair_text bytes16 decoded count_from number_from read_on pair_from pieces_from byte_from piece_from is_text
there_and_back = refl

-- values of 1,024 and 1,025 bytes, of 3,000 and 3,001, in version 1 and in version 2
values_of_1 : map (λ n. is_text (value_limit 1) (replicate n 118)) (1024 ∷ 1025 ∷ 3000 ∷ 3001 ∷ []) ≡ true ∷ false ∷ false ∷ false ∷ []
unfolding is_text
values_of_1 = refl

values_of_2 : map (λ n. is_text (value_limit 2) (replicate n 118)) (1024 ∷ 1025 ∷ 3000 ∷ 3001 ∷ []) ≡ true ∷ true ∷ true ∷ false ∷ []
unfolding is_text
values_of_2 = refl

-- key a with a value of 3,000 bytes is read, and with one of 3,001 it is torn
longest : kv_decoded (0 ∷ 1 ∷ 1 ∷ 11 ∷ 184 ∷ 97 ∷ replicate 3000 118) ≡ Ok ((97 ∷ [], replicate 3000 118) ∷ [])
unfolding decoded count_from number_from read_on pair_from pieces_from byte_from piece_from is_text
longest = refl

too_long : kv_decoded (0 ∷ 1 ∷ 1 ∷ 11 ∷ 185 ∷ 97 ∷ replicate 3001 118) ≡ Err Torn
unfolding decoded count_from number_from read_on pair_from pieces_from byte_from piece_from is_text
too_long = refl

cut : kv_decoded (0 ∷ 1 ∷ 1 ∷ 0 ∷ 2 ∷ 97 ∷ 122 ∷ []) ≡ Err Torn
unfolding decoded count_from number_from read_on pair_from pieces_from byte_from piece_from is_text
cut = refl

out_of_order : kv_decoded (0 ∷ 2 ∷ 1 ∷ 0 ∷ 1 ∷ 98 ∷ 122 ∷ 1 ∷ 0 ∷ 1 ∷ 97 ∷ 122 ∷ []) ≡ Err NotSorted
unfolding decoded count_from number_from read_on pair_from pieces_from byte_from piece_from is_text
out_of_order = refl

too_many : kv_decoded (0 ∷ 129 ∷ []) ≡ Err TooMany
unfolding decoded count_from number_from
too_many = refl
