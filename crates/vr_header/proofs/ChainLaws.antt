-- A chain grows by a header whose parent is the last name, and by no other.
use Rattle.std.proofs.Common.{◌≡◌, ℕ, ◌+◌, ◌<◌, List, [], ◌∷◌, ◌++◌, length, take, get_or, refl, sym, ap, ◌∙◌, arith, subst}
use Rattle.std.specs.Prelude.{Bool, true, false, not, nat_eq}
use Rattle.std.specs.Cmp.Lexicographic.{pointwise}
use Rattle.std.proofs.lemmas.List.{take_more, take_all}
use Rattle.std.proofs.lemmas.Slice.Eq.{bytes_eq-Decides}
use Rattle.vr_base.specs.declared.sum.Sum.{Sum}
use Rattle.vr_header.specs.declared.header.Header.{Header}
use Rattle.vr_header.specs.Names.{header_name}
use Rattle.vr_header.specs.Chain.{IsChain, BreaksAt}

-- the last header's name, the anchor where there is none
abbrev pub last_name : Sum → List Header → Sum
last_name anchor [] = anchor
last_name anchor (h ∷ hs) = last_name (header_name h) hs

-- the headers before a place are a chain that ends with this name
pub record ChainTo (anchor : Sum) (headers : List Header) (at : ℕ) (before : Sum) : Type 0 where
  pub chain : IsChain anchor (take at headers)
  pub name : before ≡ last_name anchor (take at headers)

grown : (anchor : Sum) (hs : List Header) (h : Header) → IsChain anchor hs → h.parent ≡ last_name anchor hs → IsChain anchor (hs ++ h ∷ [])
grown anchor [] h c e = (e, _)
grown anchor (g ∷ hs) h c e = (c.0, grown (header_name g) hs h c.1 e)

grown_name : (anchor : Sum) (hs : List Header) (h : Header) → last_name anchor (hs ++ h ∷ []) ≡ header_name h
grown_name anchor [] h = refl
grown_name anchor (g ∷ hs) h = grown_name (header_name g) hs h

parent_of_last : (anchor : Sum) (hs : List Header) (h : Header) → IsChain anchor (hs ++ h ∷ []) → h.parent ≡ last_name anchor hs
parent_of_last anchor [] h c = c.0
parent_of_last anchor (g ∷ hs) h c = parent_of_last (header_name g) hs h c.1

-- two names are one where their bytes are
one_sum : (a b : Sum) → a.0 ≡ b.0 → a ≡ b
one_sum a b e = ap (λ (bytes : List ℕ). let s : Sum = record { 0 = bytes } in s) e

untrue : (b : Bool) → not b ≡ false → b ≡ true
untrue true e = refl
untrue false e = absurd cc

isnt : (b : Bool) → not b ≡ true → b ≡ true → ⊥
isnt true n e = cc
isnt false n e = cc

pub chain_more : (anchor : Sum) (headers : List Header) (at : ℕ) (before : Sum) (h : Header) (name : Sum) → ChainTo anchor headers at before → at < length headers
    → h ≡ get_or headers at h → not (pointwise nat_eq h.parent.0 before.0) ≡ false → name ≡ header_name h → ChainTo anchor headers (at + 1) name
chain_more anchor headers at before h name c l i e n =
    let more : take (at + 1) headers ≡ take at headers ++ h ∷ [] = rw i (take_more headers at h l) in
    let p = one_sum h.parent before ((bytes_eq-Decides h.parent.0 before.0).0 (untrue _ e)) in
    record {
      chain = subst (IsChain anchor) (sym more) (grown anchor (take at headers) h c.chain (p ∙ c.name));
      name = n ∙ (sym (grown_name anchor (take at headers) h) ∙ ap (last_name anchor) (sym more));
    }

pub breaks : (anchor : Sum) (headers : List Header) (at : ℕ) (before : Sum) (h : Header) → ChainTo anchor headers at before → at < length headers
    → h ≡ get_or headers at h → not (pointwise nat_eq h.parent.0 before.0) ≡ true → BreaksAt anchor headers at
breaks anchor headers at before h c l i ne = record {
  within = l;
  before = c.chain;
  broken = λ w.
      let more : take (at + 1) headers ≡ take at headers ++ h ∷ [] = rw i (take_more headers at h l) in
      let p = parent_of_last anchor (take at headers) h (subst (IsChain anchor) more w) ∙ sym c.name in
      let t = (bytes_eq-Decides h.parent.0 before.0).1 (ap (λ (s : Sum). s.0) p) in
      isnt _ ne t;
}

pub whole : (anchor : Sum) (headers : List Header) (at : ℕ) (before : Sum) → ChainTo anchor headers at before → length headers ≡ at → IsChain anchor headers
whole anchor headers at before c e = subst (IsChain anchor) (take_all at headers (omega arith)) c.chain
