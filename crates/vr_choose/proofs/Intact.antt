-- Which ops are intact.
use Rattle.std.proofs.Common.{ℕ, ◌+◌, ◌-◌, ◌≤◌, ◌<◌, ◌≡◌, inl, inr, arith, refl, ap, true, List, [], ◌∷◌, length, Option, Some, None, ◌^◌}
use Rattle.std.specs.Prelude.{All}
use Rattle.std.specs.List.{list_any}
use Rattle.std.proofs.lemmas.Bool.{or_cases, cases_lt, le-ltb}
use Rattle.std.proofs.lemmas.List.{get_or_past}
use Rattle.std.proofs.lemmas.List.Elements.{All-head, All-tail}
use Rattle.std.proofs.lemmas.List.Folds.{Any-from_list_any, list_any-from_Any}
use Rattle.vr_header.specs.declared.header.Header.{Header}
use Rattle.vr_header.specs.declared.part.Part.{Part}
use Rattle.vr_header.specs.declared.part.Part.TheVariants.{Here, Lost, Wanted, Unknown, Nothing}
use Rattle.vr_msg.specs.declared.statement.Statement.{Statement}
use Rattle.vr_msg.specs.Choice.{stated_part, is_here, named, intact, intact_by, IsIntact, reach, top_commit}
use Rattle.vr_choose.proofs.Bounds.{IsBounded}
use Rattle.vr_header.proofs.SameHeaders.{same_header_is, same_header_of}

here_is : (e : Header) (p : Part) → is_here e p ≡ true → p ≡ Here e
here_is e (Here h) t = ap Here (same_header_is h e t)
here_is e (Lost h) t = cc
here_is e (Wanted h) t = cc
here_is e Unknown t = cc
here_is e Nothing t = cc

here_of : (e : Header) (p : Part) → p ≡ Here e → is_here e p ≡ true
here_of e p h = rw h (same_header_of e e refl)

-- of the header named there
by_header : (ss : List Statement) (k : ℕ) (o : Option Header) → named ss k ≡ o → intact_by o k ss ≡ true → IsIntact ss k
by_header ss k None n t = cc
by_header ss k (Some e) n t =
    let a = Any-from_list_any (λ (s : Statement). is_here e (stated_part k s)) ss t in
    record { header = e; is_named = n; here = (a.0, a.1, a.2, a.3, here_is e (stated_part k a.1) a.4) }

pub intact_is : (ss : List Statement) (k : ℕ) → intact ss k ≡ true → IsIntact ss k
intact_is ss k t = by_header ss k (named ss k) refl t

pub intact_of : (ss : List Statement) (k : ℕ) → IsIntact ss k → intact ss k ≡ true
intact_of ss k i =
    let a = i.here in
    rw (i.is_named) (list_any-from_Any (λ (s : Statement). is_here i.header (stated_part k s)) ss (a.0, a.1, a.2, a.3, here_of i.header (stated_part k a.1) a.4))

part_past : (s : Statement) (k : ℕ) → s.body.first + length s.body.parts ≤ k → stated_part k s ≡ Nothing
part_past s k h =
    let far : length s.body.parts ≤ k - s.body.first = omega arith in
    rw (le-ltb k s.body.first (omega arith)) (get_or_past s.body.parts (k - s.body.first) Nothing far)

here_within : (e : Header) (k : ℕ) (ss : List Statement) → list_any (λ s. is_here e (stated_part k s)) ss ≡ true → k < reach ss
here_within e k [] h = cc
here_within e k (s ∷ ss) h =
    elim (or_cases (is_here e (stated_part k s)) (list_any (λ s. is_here e (stated_part k s)) ss) h) [
      | inl t ↦ elim (cases_lt k (s.body.first + length s.body.parts)) [ inl l ↦ omega arith | inr g ↦ let u : is_here e Nothing ≡ true = rw (part_past s k g) at t in cc ]
      | inr t ↦ let rest = here_within e k ss t in omega arith
    ]

by_within : (k : ℕ) (ss : List Statement) (o : Option Header) → intact_by o k ss ≡ true → k < reach ss
by_within k ss None h = cc
by_within k ss (Some e) h = here_within e k ss h

-- an intact op is one of which a statement says something
pub intact_within : (k : ℕ) (ss : List Statement) → intact ss k ≡ true → k < reach ss
intact_within k ss h = by_within k ss (named ss k) h

-- no statement speaks of an op of 2^63
pub reach_small : (ss : List Statement) → All IsBounded ss → reach ss < 2 ^ 63
reach_small [] all = omega arith
reach_small (s ∷ ss) all =
    let is = All-head IsBounded s ss all in
    let near = is.near in
    let committed = is.committed in
    let short = is.short in
    let small = is.small in
    let rest = reach_small ss (All-tail IsBounded s ss all) in
    omega arith

pub commit_small : (ss : List Statement) → All IsBounded ss → top_commit ss ≤ 2 ^ 62
commit_small [] all = omega arith
commit_small (s ∷ ss) all =
    let is = All-head IsBounded s ss all in
    let committed = is.committed in
    let small = is.small in
    let rest = commit_small ss (All-tail IsBounded s ss all) in
    omega arith
