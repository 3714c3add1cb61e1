-- From whom a message is taken.
use Rattle.std.proofs.Common.{ℕ, refl, sym, ◌∙◌, ◌≡◌, Bool, true, false, List, [], ◌∷◌, ◌++◌, replicate}
use Rattle.vr_io_policy.specs.Origins.{MembersAloneSpeak, is_request, is_taken, origin_of}
use Rattle.vr_io_policy.specs.declared.origin.Door.{Door}
use Rattle.vr_io_policy.specs.declared.origin.Door.TheVariants.{Own, Clients}
use Rattle.vr_io_policy.specs.declared.origin.Origin.{Origin}
use Rattle.vr_io_policy.specs.declared.origin.Origin.TheVariants.{Member, Stranger, Client}

members : (at : Door) (is_listed : Bool) (bytes : List ℕ) → is_request bytes ≡ false → is_taken (origin_of at is_listed) bytes ≡ true
    → (at ≡ Own) × (is_listed ≡ true)
members Own true bytes other taken = (refl, refl)
members Own false bytes other taken = let clash : false ≡ true = sym other ∙ taken in absurd cc
members Clients is_listed bytes other taken = let clash : false ≡ true = sym other ∙ taken in absurd cc

requests : (o : Origin) (bytes : List ℕ) → is_request bytes ≡ true → is_taken o bytes ≡ true
requests Member bytes asks = refl
requests Stranger bytes asks = asks
requests Client bytes asks = asks

pub members_alone_speak : MembersAloneSpeak
members_alone_speak = record { members = members; requests = requests }

-- ---- rows, worked by the prover

-- a header of this command, as far as who sent it is looked at
abbrev header : ℕ → List ℕ
header command = replicate 108 0 ++ command ∷ replicate 19 0

-- a request is taken at each address, and so is one with a body
asked : is_taken Stranger (header 4) ≡ true
asked = refl

asked_more : is_taken Client (header 4 ++ 7 ∷ 8 ∷ []) ≡ true
asked_more = refl

-- a prepare, a commit and a reply are taken from members alone
prepared : is_taken Stranger (header 6) ≡ false
prepared = refl

committed : is_taken Client (header 8) ≡ false
committed = refl

replied : is_taken Stranger (header 5) ≡ false
replied = refl

told : is_taken Member (header 8) ≡ true
told = refl

-- what is shorter than a header is no request, whatever it begins with
short : is_taken Stranger (replicate 108 0 ++ 4 ∷ []) ≡ false
short = refl

-- a listed address is a member's at the member's own address, and nobody's at the one for clients
own : is_taken (origin_of Own true) (header 8) ≡ true
own = refl

elsewhere : is_taken (origin_of Clients true) (header 8) ≡ false
elsewhere = refl
