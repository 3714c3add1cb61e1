-- What stays of a client from call to call.
use Rattle.std.proofs.Common.{◌≡◌, ◌∙◌, ℕ, List, [], Result, Err, refl, subst}
use Rattle.vr_base.specs.declared.sum.Sum.{Sum}
use Rattle.vr_client.specs.Asking.{AskCause, Keeps, ask_in, requests}
use Rattle.vr_client.specs.Heeding.{fault_of}
use Rattle.vr_client.specs.declared.answer.AskFault.{AskFault}
use Rattle.vr_client.specs.declared.answer.AskFault.TheVariants as fault
use Rattle.vr_client.specs.declared.client.ClientCore.{ClientCore}
use Rattle.vr_mail.specs.Letters.{ReceiveCause}
use Rattle.vr_mail.specs.declared.receiving.ReceiveFault.{ReceiveFault}
use Rattle.vr_mail.specs.declared.receiving.ReceiveFault.TheVariants as received

pub keeps_same : (c : ClientCore) → Keeps c c
keeps_same c = record { version = refl; cluster = refl; id = refl; n = refl; number = refl; bytes = refl }

pub keeps_later : (c d e : ClientCore) → Keeps c d → Keeps d e → Keeps c e
keeps_later c d e x y = record {
  version = y.version ∙ x.version;
  cluster = y.cluster ∙ x.cluster;
  id = y.id ∙ x.id;
  n = y.n ∙ x.n;
  number = y.number ∙ x.number;
  bytes = y.bytes ∙ x.bytes;
}

pub no_requests : (bytes : List ℕ) → requests bytes [] ≡ []
no_requests bytes = refl

pub same_ask : (c d : ClientCore) (name : Sum) (turns : ℕ) → Keeps c d → ask_in d name turns ≡ ask_in c name turns
same_ask c d name turns k = rw (k.version, k.cluster, k.n, k.bytes) refl

-- a receive that had no answer
pub cause_heard : {S T : Type 0} (before now : ℕ) (f : ReceiveFault) → ReceiveCause {T = S} before now (Err f) → AskCause {T = T} before now (Err (fault_of f))
cause_heard before now received.Link c = record { later = c.later; counted = c.failed refl }
cause_heard before now received.NoMemory c = record { later = c.later; counted = c.wanted refl }

-- a fault has one cause, whatever the answer would have been
pub cause_failed : {S T : Type 0} (before now : ℕ) (f : AskFault) → AskCause {T = S} before now (Err f) → AskCause {T = T} before now (Err f)
cause_failed before now fault.NoAnswer c = record { later = c.later; counted = c.counted }
cause_failed before now fault.Link c = record { later = c.later; counted = c.counted }
cause_failed before now fault.NoMemory c = record { later = c.later; counted = c.counted }

-- a later call's causes, from the beginning on
pub cause_later : {T : Type 0} (before mid now : ℕ) (r : Result T AskFault) → mid ≡ before → AskCause mid now r → AskCause before now r
cause_later before mid now r same c = subst (λ k. AskCause k now r) same c
