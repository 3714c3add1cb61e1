-- Histories in which as few client numbers ask as there are sessions, and others in which one more does.
use Rattle.std.specs.Prelude.{ℕ, zero, suc, List, [], ◌∷◌}
use Rattle.vr_header.specs.declared.operation.Operation.TheVariants.{Register}
use Rattle.vr_msg.specs.declared.request.RequestFields.{RequestFields}
use Rattle.law_9_answers.specs.History.{AskFew, Asks, Moment}

-- the request by which a client registers in a version
abbrev pub register_in : ℕ → ℕ → RequestFields
register_in version client = record { version = version; cluster = 0; client = client; request = 0; operation = Register }

-- so many clients register, each under a number of its own
unfoldable pub register : ℕ → ℕ → List Moment
register version zero = []
register version (suc n) = Asks n (register_in version n) ∷ register version n

-- In version 1 it is met by 32 numbers, also where one of them asks again, and not by 33; in version 2 by 64 and not by 65. Where some ask in version 1 and
-- others in version 2, it is not met by 33 either.
pub record FewAsk : Type 0 where
  pub in_1 : AskFew (register 1 32)
  pub again : AskFew (Asks 32 (register_in 1 0) ∷ register 1 32)
  pub more_in_1 : AskFew (register 1 33) → ⊥
  pub in_2 : AskFew (register 2 64)
  pub more_in_2 : AskFew (register 2 65) → ⊥
  pub more_in_both : AskFew (Asks 32 (register_in 1 32) ∷ register 2 32) → ⊥
