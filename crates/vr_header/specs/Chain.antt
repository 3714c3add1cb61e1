-- Chains of headers.
use Rattle.std.specs.Prelude.{ℕ, ◌≡◌, ◌+◌, ◌<◌, ⊤, List, [], ◌∷◌, length, take}
use Rattle.vr_base.specs.declared.sum.Sum.{Sum}
use Rattle.vr_header.specs.declared.header.Header.{Header}
use Rattle.vr_header.specs.Names.{header_name}

-- each header's parent is the name of the one before; the first one's is the anchor
abbrev pub IsChain : Sum → List Header → Type 0
IsChain anchor [] = ⊤
IsChain anchor (h ∷ hs) = (h.parent ≡ anchor) × IsChain (header_name h) hs

-- the headers before this place are a chain, and with the one at this place they aren't
pub record BreaksAt (anchor : Sum) (headers : List Header) (at : ℕ) : Type 0 where
  pub within : at < length headers
  pub before : IsChain anchor (take at headers)
  pub broken : ¬ IsChain anchor (take (at + 1) headers)
