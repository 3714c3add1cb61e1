-- What the replica of a group of one has stored, along a run, and its vouches in the machine for that.
use Rattle.std.proofs.Common.{ℕ, zero, suc, ◌≤◌, ◌≡◌, ◌∙◌, inl, inr, arith, refl, sym, ap, subst, true, false, cond, eqb, List, [], ◌∷◌, ◌++◌, map, take, Some, None}
use Rattle.std.specs.Prelude.{filter, slice_get}
use Rattle.std.specs.Option.{option_map_or}
use Rattle.std.proofs.lemmas.Bool.{eqb-true}
use Rattle.std.proofs.lemmas.List.{append_assoc, append-nil}
use Rattle.vr_header.specs.declared.header.Header.{Header}
use Rattle.vr_super.specs.Copies.{SuperValue}
use Rattle.vr_msg.specs.declared.output.Output.{Output}
use Rattle.vr_world.specs.Commitment.{Stored}
use Rattle.vr_world.specs.Group.{Group, Member, Played, Run, ended, goes}
use Rattle.law_2_chains.specs.Lone.{vouch_for}
use Rattle.vr_rules.specs.Replica.{Replica}
use Rattle.vr_rules.specs.Steps.{Effect, Write, Rewrite, Save, Mend, Checkpoint, PutBlock, Say}
use Rattle.vr_world.specs.Storing.{done_in, here_in, in_view, names, run_stored, stored_at, stored_by, stored_from, stored_of, until_said}
use Rattle.law_1_machine.specs.Basics.{In}
use Rattle.law_1_machine.specs.Members.{Message}
use Rattle.law_2_chains.specs.Chains.{Setup}
use Rattle.law_3_outputs.specs.Followed.{own_vouches, stored_until}
use Rattle.law_3_outputs.proofs.Sets.{in_left, in_right}
use Rattle.law_3_outputs.proofs.Traces.{in_either}

-- ---- its vouches

vouches_in : (xs : List Stored) (m : Message Header) → In m (map (vouch_for 0) xs) → (x : Stored) × In x xs × (m ≡ vouch_for 0 x)
vouches_in [] m h = absurd h
vouches_in (x ∷ xs) m (inl e) = (x, inl refl, e)
vouches_in (x ∷ xs) m (inr h) = let y = vouches_in xs m h in (y.0, inr y.1, y.2)

in_vouches : (xs : List Stored) (x : Stored) → In x xs → In (vouch_for 0 x) (map (vouch_for 0) xs)
in_vouches [] x h = absurd h
in_vouches (y ∷ xs) x (inl e) = inl (ap (vouch_for 0) e)
in_vouches (y ∷ xs) x (inr h) = inr (in_vouches xs x h)

-- one of them
pub record OwnVouch (u : Setup) (xs : List Stored) (m : Message Header) : Type 0 where
  pub alone : u.quorums.n ≡ 1
  pub of : Stored
  pub among : In of xs
  pub is : m ≡ vouch_for 0 of

pub own_of : (u : Setup) (xs : List Stored) (m : Message Header) → In m (own_vouches u xs) → OwnVouch u xs m
unfolding own_vouches
own_of u xs m h =
    elim (eqb u.quorums.n 1) as (λ b. eqb u.quorums.n 1 ≡ b → In m (cond b (map (vouch_for 0) xs) []) → OwnVouch u xs m) [
      | true ↦ λ e i. let y = vouches_in xs m i in record { alone = eqb-true u.quorums.n 1 e; of = y.0; among = y.1; is = y.2 }
      | false ↦ λ e i. absurd i
    ] refl h

pub own_in : (u : Setup) (xs : List Stored) (x : Stored) → u.quorums.n ≡ 1 → In x xs → In (vouch_for 0 x) (own_vouches u xs)
unfolding own_vouches
own_in u xs x alone h = rw alone (in_vouches xs x h)

pub own_more : (u : Setup) (xs ys : List Stored) → ((x : Stored) → In x xs → In x ys) → (m : Message Header) → In m (own_vouches u xs) → In m (own_vouches u ys)
own_more u xs ys f m h =
    let y = own_of u xs m h in
    subst (λ (z : Message Header). In z (own_vouches u ys)) (sym y.is) (own_in u ys y.of y.alone (f y.of y.among))

-- ---- by some effects, and by more

by_front : (v : SuperValue) (hs : List Header) (es fs : List Effect) (x : Stored) → In x (stored_by v hs es) → In x (stored_by v hs (es ++ fs))
unfolding stored_by
by_front v hs [] fs x h = absurd h
by_front v hs (Write again e ∷ es) fs x h =
    elim (in_either (in_view v (e.header ∷ [])) (stored_by v (e.header ∷ hs) es) x h) [
      | inl now ↦ in_left (in_view v (e.header ∷ [])) (stored_by v (e.header ∷ hs) (es ++ fs)) x now
      | inr later ↦ in_right (in_view v (e.header ∷ [])) (stored_by v (e.header ∷ hs) (es ++ fs)) x (by_front v (e.header ∷ hs) es fs x later)
    ]
by_front v hs (Save old new ∷ es) fs x h =
    let named : List Header = filter (names new) hs in
    elim (in_either (in_view new named) (stored_by new named es) x h) [
      | inl now ↦ in_left (in_view new named) (stored_by new named (es ++ fs)) x now
      | inr later ↦ in_right (in_view new named) (stored_by new named (es ++ fs)) x (by_front new named es fs x later)
    ]
by_front v hs (Rewrite k ∷ es) fs x h = by_front v hs es fs x h
by_front v hs (Mend w ∷ es) fs x h = by_front v hs es fs x h
by_front v hs (Checkpoint cluster texts op old ∷ es) fs x h = by_front v hs es fs x h
by_front v hs (PutBlock name block ∷ es) fs x h = by_front v hs es fs x h
by_front v hs (Say o ∷ es) fs x h = by_front v hs es fs x h

at_front : (m : Member) (es fs : List Effect) (x : Stored) → In x (stored_at m es) → In x (stored_at m (es ++ fs))
at_front m es fs x h =
    elim m.replica as (λ o. In x (option_map_or (λ (r : Replica). in_view m.last (here_in r) ++ stored_by m.last (here_in r) es) o []) → In x (option_map_or (λ (r : Replica). in_view m.last (here_in r) ++ stored_by m.last (here_in r) (es ++ fs)) o [])) [
      | None ↦ λ i. i
      | Some r ↦ λ i. elim (in_either (in_view m.last (here_in r)) (stored_by m.last (here_in r) es) x i) [
        | inl first ↦ in_left (in_view m.last (here_in r)) (stored_by m.last (here_in r) (es ++ fs)) x first
        | inr later ↦ in_right (in_view m.last (here_in r)) (stored_by m.last (here_in r) (es ++ fs)) x (by_front m.last (here_in r) es fs x later)
      ]
    ] h

pub stored_front : (g : Group) (es fs : List Effect) (x : Stored) → In x (stored_from g es) → In x (stored_from g (es ++ fs))
stored_front g es fs x h =
    elim (slice_get g.members 0) as (λ o. In x (option_map_or (λ (m : Member). stored_at m es) o []) → In x (option_map_or (λ (m : Member). stored_at m (es ++ fs)) o [])) [
      | None ↦ λ i. i
      | Some m ↦ λ i. at_front m es fs x i
    ] h

-- an effect that puts nothing out stands before the next output
passes : (number : ℕ) (e : Effect) (es : List Effect) → ((o : Output) → e ≡ Say o → ⊥) → until_said number (e ∷ es) ≡ e ∷ until_said number es
unfolding until_said
passes number (Say o) es quiet = absurd (quiet o refl)
passes zero (Write again e) es quiet = refl
passes (suc number) (Write again e) es quiet = refl
passes zero (Rewrite k) es quiet = refl
passes (suc number) (Rewrite k) es quiet = refl
passes zero (Save old new) es quiet = refl
passes (suc number) (Save old new) es quiet = refl
passes zero (Mend v) es quiet = refl
passes (suc number) (Mend v) es quiet = refl
passes zero (Checkpoint cluster texts op old) es quiet = refl
passes (suc number) (Checkpoint cluster texts op old) es quiet = refl
passes zero (PutBlock name block) es quiet = refl
passes (suc number) (PutBlock name block) es quiet = refl

-- the effects before an output are the first of those before a later one
Goes : ℕ → ℕ → List Effect → Type 0
Goes number more es = (fs : List Effect) × (until_said number es ++ fs ≡ until_said more es)

goes_on : (number more : ℕ) (e : Effect) (es : List Effect) → ((o : Output) → e ≡ Say o → ⊥) → Goes number more es → Goes number more (e ∷ es)
unfolding Goes
goes_on number more e es quiet y = (y.0, rw (passes number e es quiet, passes more e es quiet) (ap (λ (zs : List Effect). e ∷ zs) y.1))

until_more : (number more : ℕ) (es : List Effect) → number ≤ more → Goes number more es
unfolding until_said Goes
until_more number more [] l = ([], refl)
until_more zero more (Say o ∷ es) l = (until_said more (Say o ∷ es), refl)
until_more (suc number) zero (Say o ∷ es) l = absurd (omega (arith, l))
until_more (suc number) (suc more) (Say o ∷ es) l = let y = until_more number more es (omega (arith, l)) in (y.0, ap (λ (zs : List Effect). Say o ∷ zs) y.1)
until_more number more (Write again e ∷ es) l = goes_on number more (Write again e) es (λ o same. absurd cc) (until_more number more es l)
until_more number more (Rewrite k ∷ es) l = goes_on number more (Rewrite k) es (λ o same. absurd cc) (until_more number more es l)
until_more number more (Save old new ∷ es) l = goes_on number more (Save old new) es (λ o same. absurd cc) (until_more number more es l)
until_more number more (Mend v ∷ es) l = goes_on number more (Mend v) es (λ o same. absurd cc) (until_more number more es l)
until_more number more (Checkpoint cluster texts op old ∷ es) l = goes_on number more (Checkpoint cluster texts op old) es (λ o same. absurd cc) (until_more number more es l)
until_more number more (PutBlock name block ∷ es) l = goes_on number more (PutBlock name block) es (λ o same. absurd cc) (until_more number more es l)

until_front : (number : ℕ) (es : List Effect) → (fs : List Effect) × (until_said number es ++ fs ≡ es)
unfolding until_said
until_front number [] = ([], refl)
until_front zero (Say o ∷ es) = (Say o ∷ es, refl)
until_front (suc number) (Say o ∷ es) = let y = until_front number es in (y.0, ap (λ (zs : List Effect). Say o ∷ zs) y.1)
until_front number (Write again e ∷ es) = let y = until_front number es in (y.0, rw (passes number (Write again e) es (λ o same. absurd cc)) (ap (λ (zs : List Effect). Write again e ∷ zs) y.1))
until_front number (Rewrite k ∷ es) = let y = until_front number es in (y.0, rw (passes number (Rewrite k) es (λ o same. absurd cc)) (ap (λ (zs : List Effect). Rewrite k ∷ zs) y.1))
until_front number (Save old new ∷ es) = let y = until_front number es in (y.0, rw (passes number (Save old new) es (λ o same. absurd cc)) (ap (λ (zs : List Effect). Save old new ∷ zs) y.1))
until_front number (Mend v ∷ es) = let y = until_front number es in (y.0, rw (passes number (Mend v) es (λ o same. absurd cc)) (ap (λ (zs : List Effect). Mend v ∷ zs) y.1))
until_front number (Checkpoint cluster texts op old ∷ es) = let y = until_front number es in (y.0, rw (passes number (Checkpoint cluster texts op old) es (λ o same. absurd cc)) (ap (λ (zs : List Effect). Checkpoint cluster texts op old ∷ zs) y.1))
until_front number (PutBlock name block ∷ es) = let y = until_front number es in (y.0, rw (passes number (PutBlock name block) es (λ o same. absurd cc)) (ap (λ (zs : List Effect). PutBlock name block ∷ zs) y.1))

-- by an output, and by the whole move
pub until_all : (p : Played) (number : ℕ) (x : Stored) → In x (stored_until p number) → In x (stored_of p)
until_all p number x h =
    let es = done_in p.move p.moved.script in
    let y = until_front number es in
    subst (λ (zs : List Effect). In x (stored_from p.before zs)) y.1 (stored_front p.before (until_said number es) y.0 x h)

pub until_later : (p : Played) (number more : ℕ) → number ≤ more → (x : Stored) → In x (stored_until p number) → In x (stored_until p more)
unfolding Goes
until_later p number more l x h =
    let es = done_in p.move p.moved.script in
    let y = until_more number more es l in
    subst (λ (zs : List Effect). In x (stored_from p.before zs)) y.1 (stored_front p.before (until_said number es) y.0 x h)

-- ---- along a run

pub stored_next : (run : List Played) (t : ℕ) (p : Played) → slice_get run t ≡ Some p → run_stored (take (suc t) run) ≡ run_stored (take t run) ++ stored_of p
unfolding run_stored
stored_next [] t p e = absurd cc
stored_next (q ∷ run) zero p e = let s : q ≡ p = (let o : Some q ≡ Some p = e in cc) in append-nil (stored_of q) ∙ ap (λ (x : Played). stored_of x) s
stored_next (q ∷ run) (suc t) p e = ap (λ (xs : List Stored). stored_of q ++ xs) (stored_next run t p e) ∙ sym (append_assoc (stored_of q) (run_stored (take t run)) (stored_of p))

-- what was stored in the run was stored in a move
pub stored_of_move : (run : List Played) (x : Stored) → In x (run_stored run) → (t : ℕ) × (p : Played) × (slice_get run t ≡ Some p) × In x (stored_of p)
unfolding run_stored
stored_of_move [] x h = absurd h
stored_of_move (q ∷ run) x h =
    elim (in_either (stored_of q) (run_stored run) x h) [
      | inl here ↦ (0, q, refl, here)
      | inr later ↦ let r = stored_of_move run x later in (suc r.0, r.1, r.2, r.3)
    ]

-- a move begins where the one before it ended
first_before : (g : Group) (run : List Played) → Run g run → (q : Played) → slice_get run 0 ≡ Some q → g ≡ q.before
first_before g _ (ended _) q e = absurd cc
first_before g _ (goes _ move moved later moves rest) q e =
    let p : Played = record { before = g; move = move; moved = moved } in
    let same : p ≡ q = (let o : Some p ≡ Some q = e in cc) in
    ap (λ (z : Played). z.before) same

pub next_before : (g : Group) (run : List Played) → Run g run → (t : ℕ) (p q : Played) → slice_get run t ≡ Some p → slice_get run (suc t) ≡ Some q → p.moved.group ≡ q.before
next_before g _ (ended _) t p q e f = absurd cc
next_before g _ (goes _ move moved later moves rest) zero p q e f =
    let r : Played = record { before = g; move = move; moved = moved } in
    let same : r ≡ p = (let o : Some r ≡ Some p = e in cc) in
    ap (λ (z : Played). z.moved.group) (sym same) ∙ first_before moved.group later rest q f
next_before g _ (goes _ move moved later moves rest) (suc t) p q e f = next_before moved.group later rest t p q e f
