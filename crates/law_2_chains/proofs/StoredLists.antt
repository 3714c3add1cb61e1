-- What counts as stored of the replica of a group of one, by effects: most of them add nothing.
use Rattle.std.proofs.Common.{ℕ, zero, suc, ◌+◌, ◌-◌, ◌<◌, ◌≡◌, ◌∙◌, ◌⊎◌, inl, inr, arith, refl, sym, ap, subst, Bool, true, false, cond, List, [], ◌∷◌, ◌++◌, length, take, map, get_or, Option, Some, None}
use Rattle.std.specs.Prelude.{⊤, Contains, filter, filter_map, nat_lt, slice_get, ◌==◌}
use Rattle.std.specs.Option.{option_map_or}
use Rattle.std.proofs.lemmas.Bool.{and_from, and_parts, eq-eqb, eqb-true, lt-ltb, ltb-true}
use Rattle.std.proofs.lemmas.List.{append_assoc, get_or-drop}
use Rattle.vr_header.specs.declared.header.Header.{Header}
use Rattle.vr_header.specs.declared.part.Part.{Part}
use Rattle.vr_header.specs.declared.part.Part.TheVariants.{Here, Lost, Wanted, Unknown, Nothing}
use Rattle.vr_header.specs.Same.{same_header}
use Rattle.vr_header.proofs.SameHeaders.{same_header_is, same_header_of}
use Rattle.vr_header.specs.Parts.{header_of}
use Rattle.vr_msg.specs.declared.output.Output.{Output}
use Rattle.vr_super.specs.Copies.{SuperValue}
use Rattle.vr_rules.specs.Opening.{listed}
use Rattle.vr_rules.specs.Replica.{Replica, part_at, parts_from}
use Rattle.vr_rules.specs.Sound.{IsSound}
use Rattle.vr_rules.specs.Steps.{Effect, Checkpoint, Mend, PutBlock, Rewrite, Save, Say, Write}
use Rattle.vr_rules.proofs.Heads.{part_within}
use Rattle.vr_world.specs.Commitment.{Stored}
use Rattle.vr_world.specs.Group.{Group, Member}
use Rattle.vr_world.specs.Storing.{here_header, here_in, in_view, names, stored_at, stored_by, stored_from}
use Rattle.law_1_machine.specs.Basics.{In}
use Rattle.law_2_chains.specs.Chains.{Every}
use Rattle.law_2_chains.specs.Lone.{CountsNoMore, counted_by}
use Rattle.law_2_chains.proofs.Tabling.{in_left, in_right}

-- it is stored in this view
abbrev pub in_its : ℕ → Header → Stored
in_its view h = record { view = view; header = h }

-- ---- lists

pub in_parts : {X : Type 0} (x : X) (xs ys : List X) → In x (xs ++ ys) → In x xs ⊎ In x ys
in_parts x [] ys h = inr h
in_parts x (y ∷ xs) ys (inl e) = inl (inl e)
in_parts x (y ∷ xs) ys (inr h) = elim (in_parts x xs ys h) [ inl a ↦ inl (inr a) | inr b ↦ inr b ]

pub in_filter : {X : Type 0} (p : X → Bool) (x : X) (xs : List X) → In x (filter p xs) → In x xs × (p x ≡ true)
in_filter p x [] h = absurd h
in_filter p x (y ∷ ys) h =
    elim (p y) as (λ b. p y ≡ b → In x (cond b (y ∷ filter p ys) (filter p ys)) → In x (y ∷ ys) × (p x ≡ true)) [
      | true ↦ λ e k. elim k [
        | inl one ↦ (inl one, ap p one ∙ e)
        | inr more ↦ let z = in_filter p x ys more in (inr z.0, z.1)
      ]
      | false ↦ λ e k. let z = in_filter p x ys k in (inr z.0, z.1)
    ] refl h

pub filter_has : {X : Type 0} (p : X → Bool) (x : X) (xs : List X) → In x xs → p x ≡ true → In x (filter p xs)
filter_has p x [] h t = absurd h
filter_has p x (y ∷ ys) (inl one) t = rw (sym (ap p one) ∙ t) (inl one)
filter_has p x (y ∷ ys) (inr more) t = elim (p y) as (λ b. In x (cond b (y ∷ filter p ys) (filter p ys))) [ true ↦ inr (filter_has p x ys more t) | false ↦ filter_has p x ys more t ]

in_counted : (v : ℕ) (x : Stored) (hs : List Header) → In x (map (in_its v) hs) → (x.view ≡ v) × In x.header hs
in_counted v x [] h = absurd h
in_counted v x (y ∷ ys) (inl e) = (ap (λ (z : Stored). z.view) e, inl (ap (λ (z : Stored). z.header) e))
in_counted v x (y ∷ ys) (inr k) = let z = in_counted v x ys k in (z.0, inr z.1)

counted_has : (v : ℕ) (h : Header) (hs : List Header) → In h hs → In (in_its v h) (map (in_its v) hs)
counted_has v h [] i = absurd i
counted_has v h (y ∷ ys) (inl e) = inl (ap (in_its v) e)
counted_has v h (y ∷ ys) (inr k) = inr (counted_has v h ys k)

-- ---- what counts in the view of a value

pub of_view : (v : SuperValue) (hs : List Header) (x : Stored) → In x (in_view v hs) → (v.fields.view ≡ v.fields.log_view) × (x.view ≡ v.fields.view) × In x.header hs
of_view v hs x h =
    elim (v.fields.view == v.fields.log_view) as (λ b. (v.fields.view == v.fields.log_view) ≡ b → In x (cond b (map (in_its v.fields.view) hs) [])
    → (v.fields.view ≡ v.fields.log_view) × (x.view ≡ v.fields.view) × In x.header hs) [
      | true ↦ λ e k. let z = in_counted v.fields.view x hs k in (eqb-true v.fields.view v.fields.log_view e, z.0, z.1)
      | false ↦ λ e k. absurd k
    ] refl h

pub view_has : (v : SuperValue) (hs : List Header) (view : ℕ) (h : Header) → v.fields.view ≡ view → v.fields.log_view ≡ view → In h hs → In (in_its view h) (in_view v hs)
view_has v hs view h same log i =
    rw (eq-eqb v.fields.view v.fields.log_view (same ∙ sym log)) (subst (λ w. In (in_its w h) (map (in_its v.fields.view) hs)) same (counted_has v.fields.view h hs i))

pub names_known : (v : SuperValue) (h : Header) → names v h ≡ true → (v.fields.checkpoint < h.op) × (listed v h.op ≡ Some h)
names_known v h t =
    let p = and_parts (nat_lt v.fields.checkpoint h.op) _ t in (
      ltb-true v.fields.checkpoint h.op p.0,
      elim (listed v h.op) as (λ o. option_map_or (same_header h) o false ≡ true → o ≡ Some h) [
        | None ↦ λ e. absurd cc
        | Some d ↦ λ e. ap Some (sym (same_header_is h d e))
      ] p.1,
    )

pub names_it : (v : SuperValue) (h : Header) → v.fields.checkpoint < h.op → listed v h.op ≡ Some h → names v h ≡ true
names_it v h above is =
    let same : option_map_or (same_header h) (listed v h.op) false ≡ true = ap (λ o. option_map_or (same_header h) o false) is ∙ same_header_of h h refl in
    and_from (nat_lt v.fields.checkpoint h.op) _ (lt-ltb v.fields.checkpoint h.op above) same

-- ---- by effects

-- an effect by which nothing comes to count, of a replica with this view and log view: no entry is written; and a value that is saved is of
-- these two, or of a view without a log
abbrev pub IsCalm : ℕ → ℕ → Effect → Type 0
IsCalm view log (Write again e) = ⊥
IsCalm view log (Rewrite h) = ⊤
IsCalm view log (Save old new) = ((new.fields.view ≡ view) × (new.fields.log_view ≡ log)) ⊎ (new.fields.log_view < new.fields.view)
IsCalm view log (Mend v) = ⊤
IsCalm view log (Checkpoint cluster texts op old) = ⊤
IsCalm view log (PutBlock name block) = ⊤
IsCalm view log (Say o) = ⊤

pub calm_same : (a b c d : ℕ) (es : List Effect) → a ≡ b → c ≡ d → Every (IsCalm a c) es → Every (IsCalm b d) es
calm_same a b c d es p q h = subst (λ y. Every (IsCalm b y) es) q (subst (λ x. Every (IsCalm x c) es) p h)

-- what counts by calm effects is of what was stored before
pub calm_counts : (view log : ℕ) (es : List Effect) (v : SuperValue) (hs : List Header) (x : Stored) → Every (IsCalm view log) es → In x (stored_by v hs es) → (view ≡ log) × (x.view ≡ view) × In x.header hs
unfolding stored_by
calm_counts view log [] v hs x c h = absurd h
calm_counts view log (Write again e ∷ es) v hs x c h = absurd c.0
calm_counts view log (Rewrite g ∷ es) v hs x c h = calm_counts view log es v hs x c.1 h
calm_counts view log (Save old new ∷ es) v hs x c h =
    let ks : List Header = filter (names new) hs in
    elim (in_parts x (in_view new ks) (stored_by new ks es) h) [
      | inl now ↦
          let y = of_view new ks x now in
          elim c.0 [
            | inl same ↦ (sym same.0 ∙ (y.0 ∙ same.1), y.1 ∙ same.0, (in_filter (names new) x.header hs y.2).0)
            | inr less ↦ let begun = y.0 in absurd (omega (arith, less, begun))
          ]
      | inr later ↦ let y = calm_counts view log es new ks x c.1 later in (y.0, y.1, (in_filter (names new) x.header hs y.2).0)
    ]
calm_counts view log (Mend w ∷ es) v hs x c h = calm_counts view log es v hs x c.1 h
calm_counts view log (Checkpoint cluster texts op old ∷ es) v hs x c h = calm_counts view log es v hs x c.1 h
calm_counts view log (PutBlock name block ∷ es) v hs x c h = calm_counts view log es v hs x c.1 h
calm_counts view log (Say o ∷ es) v hs x c h = calm_counts view log es v hs x c.1 h

-- the value that is saved last once effects are finished, and what of their entries and those before is looked at then
unfoldable pub saved_by : SuperValue → List Effect → SuperValue
saved_by v [] = v
saved_by v (Save old new ∷ es) = saved_by new es
saved_by v (_ ∷ es) = saved_by v es

unfoldable pub held_by : List Header → List Effect → List Header
held_by hs [] = hs
held_by hs (Write again e ∷ es) = held_by (e.header ∷ hs) es
held_by hs (Save old new ∷ es) = held_by (filter (names new) hs) es
held_by hs (_ ∷ es) = held_by hs es

pub stored_append : (a b : List Effect) (v : SuperValue) (hs : List Header) → stored_by v hs (a ++ b) ≡ stored_by v hs a ++ stored_by (saved_by v a) (held_by hs a) b
unfolding stored_by saved_by held_by
stored_append [] b v hs = refl
stored_append (Write again e ∷ es) b v hs = ap (λ xs. in_view v (e.header ∷ []) ++ xs) (stored_append es b v (e.header ∷ hs)) ∙ sym (append_assoc (in_view v (e.header ∷ [])) (stored_by v (e.header ∷ hs) es) (stored_by (saved_by v es) (held_by (e.header ∷ hs) es) b))
stored_append (Rewrite g ∷ es) b v hs = stored_append es b v hs
stored_append (Save old new ∷ es) b v hs =
    let ks : List Header = filter (names new) hs in
    ap (λ xs. in_view new ks ++ xs) (stored_append es b new ks) ∙ sym (append_assoc (in_view new ks) (stored_by new ks es) (stored_by (saved_by new es) (held_by ks es) b))
stored_append (Mend w ∷ es) b v hs = stored_append es b v hs
stored_append (Checkpoint cluster texts op old ∷ es) b v hs = stored_append es b v hs
stored_append (PutBlock name block ∷ es) b v hs = stored_append es b v hs
stored_append (Say o ∷ es) b v hs = stored_append es b v hs

pub stored_more : (a b : List Effect) (v : SuperValue) (hs : List Header) (x : Stored) → In x (stored_by v hs a) → In x (stored_by v hs (a ++ b))
stored_more a b v hs x h = subst (In x) (sym (stored_append a b v hs)) (in_left x (stored_by v hs a) _ h)

-- by more effects no less counts
pub counts_more : (r : Replica) (a b : List Effect) → CountsNoMore r a (a ++ b)
counts_more r a b x h =
    let begin : List Stored = in_view r.saved (here_in r) in
    elim (in_parts x begin (stored_by r.saved (here_in r) a) h) [
      | inl old ↦ in_left x begin _ old
      | inr new ↦ in_right x begin _ (stored_more a b r.saved (here_in r) x new)
    ]

-- by calm effects that come after others no more
pub counts_calm : (r : Replica) (view log : ℕ) (a b : List Effect) → Every (IsCalm view log) b → ((h : Header) → In h (held_by (here_in r) a) → view ≡ log → In (in_its view h) (counted_by r a)) → CountsNoMore r (a ++ b) a
counts_calm r view log a b calm base x h =
    let begin : List Stored = in_view r.saved (here_in r) in
    let first : List Stored = stored_by r.saved (here_in r) a in
    elim (in_parts x begin (stored_by r.saved (here_in r) (a ++ b)) h) [
      | inl old ↦ in_left x begin first old
      | inr new ↦ elim (in_parts x first (stored_by (saved_by r.saved a) (held_by (here_in r) a) b) (subst (In x) (stored_append a b r.saved (here_in r)) new)) [
        | inl early ↦ in_right x begin first early
        | inr late ↦
            let y = calm_counts view log b (saved_by r.saved a) (held_by (here_in r) a) x calm late in
            subst (λ (w : ℕ). In (in_its w x.header) (counted_by r a)) (sym y.1) (base x.header y.2 y.0)
      ]
    ]

every_take : {X : Type 0} (P : X → Type 0) (n : ℕ) (xs : List X) → Every P xs → Every P (take n xs)
every_take P zero xs h = tt
every_take P (suc n) [] h = tt
every_take P (suc n) (x ∷ xs) h = (h.0, every_take P n xs h.1)

pub counts_late : (r : Replica) (view log : ℕ) (a b : List Effect) → Every (IsCalm view log) b → ((h : Header) → In h (held_by (here_in r) a) → view ≡ log → In (in_its view h) (counted_by r a)) → (k : ℕ) → CountsNoMore r (a ++ take k b) a
counts_late r view log a b calm base k = counts_calm r view log a (take k b) (every_take (IsCalm view log) k b calm) base

-- ---- of the only member of a group

at_replica : (v : SuperValue) (o : Option Replica) (a b : List Effect) (x : Stored) → In x (option_map_or (λ (q : Replica). in_view v (here_in q) ++ stored_by v (here_in q) a) o [])
    → In x (option_map_or (λ (q : Replica). in_view v (here_in q) ++ stored_by v (here_in q) (a ++ b)) o [])
at_replica v None a b x h = absurd h
at_replica v (Some q) a b x h =
    elim (in_parts x (in_view v (here_in q)) (stored_by v (here_in q) a) h) [
      | inl old ↦ in_left x (in_view v (here_in q)) _ old
      | inr new ↦ in_right x (in_view v (here_in q)) _ (stored_more a b v (here_in q) x new)
    ]

from_member : (o : Option Member) (a b : List Effect) (x : Stored) → In x (option_map_or (λ (n : Member). stored_at n a) o []) → In x (option_map_or (λ (n : Member). stored_at n (a ++ b)) o [])
from_member None a b x h = absurd h
from_member (Some m) a b x h = at_replica m.last m.replica a b x h

pub contains_in : {X : Type 0} (x : X) (xs : List X) → Contains xs x → In x xs
contains_in x [] c = let l = c.1 in absurd (omega arith)
contains_in x (y ∷ ys) (zero, l, e) = inl (sym e)
contains_in x (y ∷ ys) (suc k, l, e) = inr (contains_in x ys (k, omega arith, e))

pub in_contains : {X : Type 0} (x : X) (xs : List X) → In x xs → Contains xs x
in_contains x [] h = absurd h
in_contains x (y ∷ ys) (inl e) = (0, omega arith, sym e)
in_contains x (y ∷ ys) (inr h) = let c = in_contains x ys h in let l = c.1 in (suc c.0, omega arith, c.2)

pub stored_is : (g : Group) (m : Member) (r : Replica) (es : List Effect) → slice_get g.members 0 ≡ Some m → m.replica ≡ Some r → m.last ≡ r.saved → stored_from g es ≡ counted_by r es
stored_is g m r es there runs last =
    ap (λ o. option_map_or (λ (n : Member). stored_at n es) o []) there
    ∙ (ap (λ o. option_map_or (λ (q : Replica). in_view m.last (here_in q) ++ stored_by m.last (here_in q) es) o []) runs ∙ ap (λ v. in_view v (here_in r) ++ stored_by v (here_in r) es) last)

pub stored_none : (g : Group) (m : Member) (es : List Effect) → slice_get g.members 0 ≡ Some m → m.replica ≡ None → stored_from g es ≡ []
stored_none g m es there stopped =
    ap (λ o. option_map_or (λ (n : Member). stored_at n es) o []) there ∙ ap (λ o. option_map_or (λ (q : Replica). in_view m.last (here_in q) ++ stored_by m.last (here_in q) es) o []) stopped

-- of more effects no less counts
pub from_more : (g : Group) (a b : List Effect) (x : Stored) → In x (stored_from g a) → In x (stored_from g (a ++ b))
from_more g a b x h = from_member (slice_get g.members 0) a b x h

-- ---- outputs first

pub stored_said : (os : List Output) (es : List Effect) (v : SuperValue) (hs : List Header) → stored_by v hs (map Say os ++ es) ≡ stored_by v hs es
unfolding stored_by
stored_said [] es v hs = refl
stored_said (o ∷ os) es v hs = stored_said os es v hs

pub held_said : (os : List Output) (es : List Effect) (hs : List Header) → held_by hs (map Say os ++ es) ≡ held_by hs es
unfolding held_by
held_said [] es hs = refl
held_said (o ∷ os) es hs = held_said os es hs

-- nothing counts before the end of these effects
abbrev pub LastCounts : SuperValue → List Header → List Effect → Type 0
LastCounts v hs es = (k : ℕ) (x : Stored) → k < length es → In x (stored_by v hs (take k es)) → ⊥

pub last_said : (os : List Output) (es : List Effect) (v : SuperValue) (hs : List Header) → LastCounts v hs es → LastCounts v hs (map Say os ++ es)
unfolding stored_by
last_said [] es v hs last k x l h = last k x l h
last_said (o ∷ os) es v hs last zero x l h = h
last_said (o ∷ os) es v hs last (suc k) x l h = last_said os es v hs last k x (omega arith) h

-- ---- what is stored when a step begins

in_here : (h : Header) (ps : List Part) → In h (filter_map here_header ps) → (j : ℕ) × (get_or ps j Nothing ≡ Here h)
in_here h [] i = absurd i
in_here h (Here g ∷ ps) (inl e) = (0, ap Here (sym e))
in_here h (Here g ∷ ps) (inr i) = let z = in_here h ps i in (suc z.0, z.1)
in_here h (Lost g ∷ ps) i = let z = in_here h ps i in (suc z.0, z.1)
in_here h (Wanted g ∷ ps) i = let z = in_here h ps i in (suc z.0, z.1)
in_here h (Unknown ∷ ps) i = let z = in_here h ps i in (suc z.0, z.1)
in_here h (Nothing ∷ ps) i = let z = in_here h ps i in (suc z.0, z.1)

behind_part : (h : Header) (p : Part) (ps : List Part) → In h (filter_map here_header ps) → In h (filter_map here_header (p ∷ ps))
behind_part h (Here g) ps i = inr i
behind_part h (Lost g) ps i = i
behind_part h (Wanted g) ps i = i
behind_part h Unknown ps i = i
behind_part h Nothing ps i = i

here_has : (h : Header) (ps : List Part) (j : ℕ) → get_or ps j Nothing ≡ Here h → In h (filter_map here_header ps)
here_has h [] j is = absurd cc
here_has h (p ∷ ps) zero is = subst (λ (q : Part). In h (filter_map here_header (q ∷ ps))) (sym is) (inl refl)
here_has h (p ∷ ps) (suc j) is = behind_part h p ps (here_has h ps j is)

module _ (r : Replica) (sound : IsSound r) where
  dropped : (j : ℕ) → get_or (parts_from r (r.checkpoint + 1)) j Nothing ≡ part_at r (r.checkpoint + 1 + j)
  dropped j =
      let reach = sound.lists.reach in
      let d : ℕ = r.checkpoint + 1 - r.first in
      let place : d + j ≡ r.checkpoint + 1 + j - r.first = omega arith in
      get_or-drop d r.parts j Nothing ∙ (ap (λ i. get_or r.parts i Nothing) place ∙ sym (part_within r (r.checkpoint + 1 + j) (omega arith)))

  pub is_in : (k : ℕ) (h : Header) → r.checkpoint < k → part_at r k ≡ Here h → In h (here_in r)
  is_in k h above is =
      let j : ℕ = k - (r.checkpoint + 1) in
      let place : r.checkpoint + 1 + j ≡ k = omega arith in
      here_has h (parts_from r (r.checkpoint + 1)) j (dropped j ∙ (ap (part_at r) place ∙ is))

  pub at_its_op : (k : ℕ) (h : Header) → part_at r k ≡ Here h → h.op ≡ k
  at_its_op k h is = (sound.entries.each k h (ap header_of is)).1.at_op

  pub was_in : (h : Header) → In h (here_in r) → (r.checkpoint < h.op) × (part_at r h.op ≡ Here h)
  was_in h i =
      let z = in_here h (parts_from r (r.checkpoint + 1)) i in
      let is : part_at r (r.checkpoint + 1 + z.0) ≡ Here h = sym (dropped z.0) ∙ z.1 in
      let at = at_its_op (r.checkpoint + 1 + z.0) h is in
      (omega (arith, at), subst (λ k. part_at r k ≡ Here h) (sym at) is)
