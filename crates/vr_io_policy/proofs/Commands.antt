-- What a message answers goes by its command.
use Rattle.std.proofs.Common.{◌≡◌, ℕ, zero, suc, List, refl, get_or, arith}
use Rattle.std.specs.Prelude.{unwrap_or}
use Rattle.std.proofs.lemmas.Grind.{common_steps}
use Rattle.vr_header.specs.Spelling.{command_of, decoded_header}
use Rattle.vr_header.specs.declared.command.Command.TheVariants.{Reserved}
use Rattle.vr_io_policy.specs.Topics.{name_in, topic_by, topic_for}

by_code : (code : ℕ) (bytes : List ℕ) → topic_by code bytes ≡ topic_for (unwrap_or (command_of code) Reserved) (name_in bytes)
unfolding topic_by command_of
by_code zero bytes = refl
by_code (suc zero) bytes = refl
by_code (suc (suc zero)) bytes = refl
by_code (suc (suc (suc zero))) bytes = refl
by_code (suc (suc (suc (suc zero)))) bytes = refl
by_code (suc (suc (suc (suc (suc zero))))) bytes = refl
by_code (suc (suc (suc (suc (suc (suc zero)))))) bytes = refl
by_code (suc (suc (suc (suc (suc (suc (suc zero))))))) bytes = refl
by_code (suc (suc (suc (suc (suc (suc (suc (suc zero)))))))) bytes = refl
by_code (suc (suc (suc (suc (suc (suc (suc (suc (suc zero))))))))) bytes = refl
by_code (suc (suc (suc (suc (suc (suc (suc (suc (suc (suc zero)))))))))) bytes = refl
by_code (suc (suc (suc (suc (suc (suc (suc (suc (suc (suc (suc zero))))))))))) bytes = refl
by_code (suc (suc (suc (suc (suc (suc (suc (suc (suc (suc (suc (suc zero)))))))))))) bytes = refl
by_code (suc (suc (suc (suc (suc (suc (suc (suc (suc (suc (suc (suc (suc zero))))))))))))) bytes = refl
by_code (suc (suc (suc (suc (suc (suc (suc (suc (suc (suc (suc (suc (suc (suc zero)))))))))))))) bytes = refl
by_code (suc (suc (suc (suc (suc (suc (suc (suc (suc (suc (suc (suc (suc (suc (suc zero))))))))))))))) bytes = refl
by_code (suc (suc (suc (suc (suc (suc (suc (suc (suc (suc (suc (suc (suc (suc (suc (suc zero)))))))))))))))) bytes = refl
by_code (suc (suc (suc (suc (suc (suc (suc (suc (suc (suc (suc (suc (suc (suc (suc (suc (suc zero))))))))))))))))) bytes = refl
by_code (suc (suc (suc (suc (suc (suc (suc (suc (suc (suc (suc (suc (suc (suc (suc (suc (suc (suc zero)))))))))))))))))) bytes = refl
by_code (suc (suc (suc (suc (suc (suc (suc (suc (suc (suc (suc (suc (suc (suc (suc (suc (suc (suc (suc zero))))))))))))))))))) bytes = refl
by_code (suc (suc (suc (suc (suc (suc (suc (suc (suc (suc (suc (suc (suc (suc (suc (suc (suc (suc (suc (suc k)))))))))))))))))))) bytes = grind (arith, common_steps)

pub by_command : (bytes : List ℕ) → topic_by (get_or bytes 108 0) bytes ≡ topic_for (decoded_header bytes).command (name_in bytes)
unfolding decoded_header
by_command bytes = by_code (get_or bytes 108 0) bytes
