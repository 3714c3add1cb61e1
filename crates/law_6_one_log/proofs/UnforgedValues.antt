-- The headers that values name are of entries that were begun to be written: of the values of each member, and of each that a script saves.
-- No head of a value is greater than the count of entries that were made, at most one by a move.
use Rattle.vr_base.specs.declared.kind.Kind.{Kind}
use Rattle.std.proofs.Common.{ℕ, zero, suc, ◌+◌, ◌-◌, ◌^◌, ◌≤◌, ◌<◌, ◌≡◌, inl, inr, arith, refl, sym, ap, ◌∙◌, subst, Bool, cond, List, [], ◌∷◌, ◌++◌, length, take, drop, Option, Some, None}
use Rattle.std.specs.Prelude.{All, slice_get}
use Rattle.std.specs.List.{AllByRecursion}
use Rattle.std.proofs.lemmas.Bool.{cases_lt, le-ltb, lt-ltb}
use Rattle.std.proofs.lemmas.List.Elements.{All-cons, All-nil}
use Rattle.vr_header.specs.declared.header.Header.{Header}
use Rattle.vr_super.specs.Copies.{SuperValue}
use Rattle.vr_world.specs.Lying.{Lying, lying}
use Rattle.vr_rules.specs.Opening.{AreKinds, first_listed, listed}
use Rattle.vr_rules.specs.Replica.{Replica}
use Rattle.vr_rules.specs.Steps.{Effect, Save}
use Rattle.vr_world.specs.Group as group
use Rattle.vr_world.specs.Group.{Arrival, IsArrival, MayOpen, Move, Moved, Moves, Opens, Played, Run, carried_out, cut_after, cut_in_two, found, fresh_group, keeps_all, made_in, mended, opening_script, resumed, stepped, with_script}
use Rattle.vr_rules.specs.Fit.{ReadsWell}
use Rattle.vr_msg.specs.declared.event.Event.{Event}
use Rattle.vr_world.specs.GroupFit.{IsFitArrival, IsFitGroup, IsFitMove}
use Rattle.law_1_machine.specs.Basics.{In}
use Rattle.law_1_machine.specs.Members.{Superblock}
use Rattle.law_2_chains.specs.Reflecting.{IsUnder, IsValue, entries_by}
use Rattle.law_2_chains.proofs.Bridging.{runs_so}
use Rattle.law_2_chains.proofs.Waking.{fresh_runs_so}
use Rattle.law_4_disks.proofs.Lines.{own_place}
use Rattle.law_6_one_log.specs.Bridged.{AreNamed, IsBridged}
use Rattle.law_6_one_log.proofs.Logged.{NamedMade, named_made_reached}
use Rattle.law_6_one_log.proofs.Numbers.{AreShort, values_short}

pub in_left : {X : Type 0} (xs ys : List X) (x : X) → In x xs → In x (xs ++ ys)
in_left [] ys x h = absurd h
in_left (y ∷ xs) ys x h = elim h [ inl e ↦ inl e | inr i ↦ inr (in_left xs ys x i) ]

pub in_right : {X : Type 0} (xs ys : List X) (x : X) → In x ys → In x (xs ++ ys)
in_right [] ys x h = h
in_right (y ∷ xs) ys x h = inr (in_right xs ys x h)

-- ---- a group, and a move

pub moved_made : (g : group.Group) (x : Move) (y : Moved) → Moves g x y → y.group.made ≡ g.made ++ made_in y.script
moved_made g x y (Moves.steps i a e d m r runs arrives) = refl
moved_made g x y (Moves.cuts i a e d n m r runs arrives) = refl
moved_made g x y (Moves.crashes i m at) = refl
moved_made g x y (Moves.recovers i v d m opens) = refl
moved_made g x y (Moves.recovers_cut i v d n m opens) = refl
moved_made g x y (Moves.migrates i v m opens) = refl
moved_made g x y (Moves.migrates_cut i v n m opens) = refl

pub bridged_fresh : (kinds : ℕ → Kind) (home n : ℕ) → AreKinds kinds n → home < 2 ^ 64 → 1 ≤ n → n ≤ 6 → (b : IsBridged home (fresh_group kinds home n)) × (length b.machine.made ≡ 0)
bridged_fresh kinds home n k room a b =
    let f = fresh_runs_so kinds home n [] k room a b (All-nil (λ (p : Played). IsFitMove p.move)) (Run.ended (fresh_group kinds home n)) in (
      record { setup = f.setup; fits = f.fits; hash_is = f.hash_is; cluster_is = f.cluster_is; machine = f.first; bridges = f.bridges; made = λ x i. absurd (subst (In x) f.none_made i) },
      ap length f.none_made,
    )

-- a move makes at most one entry
pub bridged_moved : {home : ℕ} (g : group.Group) (x : Move) (y : Moved) (b : IsBridged home g) → IsFitGroup home g → IsFitMove x → Moves g x y → (c : IsBridged home y.group) × (length c.machine.made ≤ length b.machine.made + 1)
bridged_moved g x y b fit well move =
    let p : Played = record { before = g; move = x; moved = y } in
    let all : All (λ (p : Played). IsFitMove p.move) (p ∷ []) = All-cons (λ (p : Played). IsFitMove p.move) p [] well (All-nil (λ (p : Played). IsFitMove p.move)) in
    let f = runs_so b.setup b.fits b.hash_is g b.machine (p ∷ []) (subst (λ (c : ℕ). IsFitGroup c g) (sym b.cluster_is) fit) all (Run.goes g x y [] move (Run.ended y.group)) b.bridges in (
      record {
        setup = b.setup;
        fits = b.fits;
        hash_is = b.hash_is;
        cluster_is = b.cluster_is;
        machine = f.0;
        bridges = f.1.bridges;
        made = λ z i. subst (In z.entry) (sym (moved_made g x y move)) (elim (f.1.made z i) [ inl old ↦ in_left g.made (made_in y.script) z.entry (b.made z old) | inr new ↦ in_right g.made (made_in y.script) z.entry new ]);
      },
      f.1.few,
    )

-- ---- the values of a member

each_of : {X : Type 0} (P : X → Type 0) (xs : List X) → ((i : ℕ) (x : X) → slice_get xs i ≡ Some x → P x) → AllByRecursion P xs
each_of P [] h = tt
each_of P (x ∷ xs) h = (h 0 x refl, each_of P xs (λ i y e. h (suc i) y e))

listed_at : (v : SuperValue) (i : ℕ) (h : Header) → slice_get v.headers i ≡ Some h → listed v (first_listed v + i) ≡ Some h
listed_at v i h e =
    let k = first_listed v + i in
    let back : k - first_listed v ≡ i = omega arith in
    ap (λ (t : Bool). cond t None (slice_get v.headers (k - first_listed v))) (le-ltb k (first_listed v) (omega arith)) ∙ (ap (slice_get v.headers) back ∙ e)

named_by : (made : List Header) (v : SuperValue) (x : Superblock Header) → IsValue v x → ((k : ℕ) (h : Header) → x.named k ≡ Some h → In h made) → AreNamed made v
named_by made v x is m = each_of (λ h. In h made) v.headers (λ i h e. m (first_listed v + i) h (is.names (first_listed v + i) ∙ listed_at v i h e))

under_of : (v : SuperValue) (o : Option SuperValue) (p : Option (Superblock Header)) → IsUnder o p → o ≡ Some v → (x : Superblock Header) × (p ≡ Some x) × IsValue v x
under_of v None p u e = absurd cc
under_of v (Some w) None u e = absurd u
under_of v (Some w) (Some x) u e = let same : w ≡ v = cc in (x, refl, subst (λ (w : SuperValue). IsValue w x) same u)

module _ {home : ℕ} (g : group.Group) (b : IsBridged home g) (i : ℕ) (m : group.Member) (at : slice_get g.members i ≡ Some m) where
  named : NamedMade b.machine
  named = named_made_reached b.setup.quorums (entries_by b.setup.hash b.setup.cluster) b.machine b.bridges.reached

  pub last_named : AreNamed g.made m.last
  last_named =
      let o = b.bridges.members i m at in
      named_by g.made m.last (b.machine.members i).last o.disk.last (λ k h e. let w = named.last i k h e in b.made _ w.1)

  pub under_named : (v : SuperValue) → m.under ≡ Some v → AreNamed g.made v
  under_named v e =
      let o = b.bridges.members i m at in
      let u = under_of v m.under (b.machine.members i).under o.disk.under e in
      named_by g.made v u.0 u.2 (λ k h n. let w = named.under i k u.0 h u.1 n in b.made _ w.1)

  pub may_open_named : (v : SuperValue) → MayOpen m v → AreNamed g.made v
  may_open_named v o = elim o [ inl same ↦ subst (AreNamed g.made) same last_named | inr u ↦ under_named v u ]

  -- its head is no greater than the count of entries that were made
  short : AreShort b.machine
  short = values_short b.setup.quorums (entries_by b.setup.hash b.setup.cluster) b.machine b.bridges.reached

  pub may_open_short : (v : SuperValue) → MayOpen m v → v.fields.head ≤ length b.machine.made
  may_open_short v (inl same) =
      let o = b.bridges.members i m at in
      let is = o.disk.last.reach in
      let l = short.last i in
      subst (λ (v : SuperValue). v.fields.head ≤ length b.machine.made) same (omega (arith, is, l))
  may_open_short v (inr e) =
      let o = b.bridges.members i m at in
      let u = under_of v m.under (b.machine.members i).under o.disk.under e in
      let is = u.2.reach in
      let l = short.under i u.0 u.1 in
      omega (arith, is, l)

-- ---- the values that a script saves

drop_at : {X : Type 0} (xs : List X) (n : ℕ) (x : X) → slice_get xs n ≡ Some x → (ys : List X) × (drop n xs ≡ x ∷ ys)
drop_at [] n x e = absurd cc
drop_at (y ∷ xs) zero x e = let same : y ≡ x = cc in (xs, ap (λ z. z ∷ xs) same)
drop_at (y ∷ xs) (suc n) x e = drop_at xs n x e

cut_under : (es : List Effect) (n : ℕ) (old new : SuperValue) (m : group.Member) → slice_get es n ≡ Some (Save old new) → (cut_after n es m).under ≡ Some new
cut_under es n old new m e = let d = drop_at es n (Save old new) e in ap (λ (ys : List Effect). (group.begins_first ys (carried_out (take n es) m)).under) d.1

-- each value that is saved names what was made up to there
abbrev pub SavesNamed : List Header → List Effect → Type 0
SavesNamed made es = (n : ℕ) (old new : SuperValue) → slice_get es n ≡ Some (Save old new) → AreNamed (made ++ made_in (take (n + 1) es)) new

pub get_left : {X : Type 0} (xs ys : List X) (n : ℕ) → n < length xs → slice_get (xs ++ ys) n ≡ slice_get xs n
get_left [] ys n l = absurd (omega (arith, l))
get_left (x ∷ xs) ys zero l = refl
get_left (x ∷ xs) ys (suc n) l = get_left xs ys n (omega (arith, l))

get_right : {X : Type 0} (xs ys : List X) (n : ℕ) → length xs ≤ n → slice_get (xs ++ ys) n ≡ slice_get ys (n - length xs)
get_right [] ys n l = let e : n ≡ n - 0 = omega arith in ap (slice_get ys) e
get_right (x ∷ xs) ys zero l = absurd (omega (arith, l))
get_right (x ∷ xs) ys (suc n) l = let e : n - length xs ≡ suc n - suc (length xs) = omega arith in get_right xs ys n (omega (arith, l)) ∙ ap (slice_get ys) e

two_under : (xs ys : List Effect) (f : group.Member → group.Member) (n : ℕ) (old new : SuperValue) (m : group.Member) → slice_get (xs ++ ys) n ≡ Some (Save old new) → (cut_in_two xs ys f n m).under ≡ Some new
two_under xs ys f n old new m e =
    let choice : Bool → group.Member = λ t. cond t (cut_after n xs m) (cut_after (n - length xs) ys (f (carried_out xs m))) in
    elim (cases_lt n (length xs)) [
      | inl l ↦ ap (λ (t : Bool). (choice t).under) (lt-ltb n (length xs) l) ∙ cut_under xs n old new m (sym (get_left xs ys n l) ∙ e)
      | inr past ↦ ap (λ (t : Bool). (choice t).under) (le-ltb n (length xs) past) ∙ cut_under ys (n - length xs) old new (f (carried_out xs m)) (sym (get_right xs ys n past) ∙ e)
    ]

module _ {home : ℕ} (g : group.Group) (b : IsBridged home g) (fit : IsFitGroup home g) (i : ℕ) (q : group.Member) (at : slice_get g.members i ≡ Some q) (d : Lying) (reads : ReadsWell lying d) where
  -- of a member that is left so by a cut
  cut_named : (x : Move) (es : List Effect) (p : group.Member) (new : SuperValue) → IsFitMove x → Moves g x (with_script g i p es []) → p.under ≡ Some new → AreNamed (g.made ++ made_in es) new
  cut_named x es p new well move under =
      let y = with_script g i p es [] in
      let c = bridged_moved g x y b fit well move in
      under_named y.group c.0 i p (own_place g.members i q p at) new under

  pub step_saves : (arrival : Arrival) (e : Event) (r : Replica) → q.replica ≡ Some r → IsArrival g i arrival e → IsFitArrival arrival → SavesNamed g.made (stepped e r d).script
  step_saves arrival e r run arrives fits n old new there =
      let es = (stepped e r d).script in
      cut_named (Move.Cuts i arrival e d n) (take (n + 1) es) (record (cut_after n es q) { replica = None }) new (fits, reads) (Moves.cuts i arrival e d n q r (record { member = at; running = run }) arrives) (cut_under es n old new q there)

  pub start_saves : (v : SuperValue) → Opens g i q v d → SavesNamed g.made (opening_script v d)
  start_saves v opens n old new there =
      let xs = (mended v d).script in
      let ys = (resumed v d).script in
      cut_named (Move.RecoversCut i v d n) (take (n + 1) (opening_script v d)) (record (cut_in_two xs ys (keeps_all (found v d)) n q) { replica = None }) new reads (Moves.recovers_cut i v d n q opens) (two_under xs ys (keeps_all (found v d)) n old new q there)
