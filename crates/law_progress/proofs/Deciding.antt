-- From members that are in no doubt above their greatest checkpoint the choice doesn't wait: each of them denies the first op that isn't intact.
use Rattle.std.proofs.Common.{arith, ℕ, ◌+◌, ◌-◌, ◌≤◌, ◌<◌, ◌≡◌, ◌∙◌, refl, sym, ap, subst, Bool, true, false, cond, ◌==◌, List, [], ◌∷◌, length, Option, Some, None}
use Rattle.std.specs.Prelude.{All, Contains, IfSome, count_by, not}
use Rattle.std.proofs.lemmas.Bool.{both_ways, eqb-true, le-leb, le-ltb, lt-ltb}
use Rattle.std.proofs.lemmas.List.Elements.{All-cons, All-contains, All-head, All-map, All-nil, All-tail, All-weaker}
use Rattle.std.proofs.lemmas.List.{length-map}
use Rattle.std.proofs.lemmas.List.Folds.{list_any-from_Any}
use Rattle.std.proofs.lemmas.List.Sums.{sum_by-cons}
use Rattle.law_progress.proofs.Lists.{All-each}
use Rattle.vr_base.specs.declared.table.Quorums.{Quorums}
use Rattle.vr_base.specs.Groups.{AreQuorums, quorums_of}
use Rattle.vr_choose.proofs.Columns.{column}
use Rattle.vr_choose.proofs.Gaps.{row_broken, row_long}
use Rattle.vr_choose.proofs.Named.{names_of, unnamed}
use Rattle.vr_choose.specs.Laws.{NamesAgree}
use Rattle.vr_header.proofs.SameHeaders.{same_header_is, same_header_of}
use Rattle.vr_header.specs.Same.{same_header}
use Rattle.vr_header.specs.declared.header.Header.{Header}
use Rattle.vr_header.specs.declared.part.Part.{Part}
use Rattle.vr_header.specs.declared.part.Part.TheVariants.{Here, Lost, Wanted, Unknown, Nothing}
use Rattle.vr_msg.specs.Choice.{choice, denials, denies, denies_as_newest, denies_as_older, intact, intact_by, is_here, log_headers, named, row_end, stated_header, stated_part, top_commit, top_view}
use Rattle.vr_header.specs.Parts.{header_of}
use Rattle.vr_msg.specs.declared.statement.Statement.{Statement}
use Rattle.vr_rules.proofs.Stating.{given_at, run_of}
use Rattle.vr_rules.specs.Replica.{Replica, part_at, run_start, statement_of}
use Rattle.vr_rules.specs.Sound.{IsSound}
use Rattle.law_progress.specs.Deciding.{SureQuorumsDecide, statements}
use Rattle.law_progress.specs.Whole.{IsMemberOf, IsSure, is_in_doubt, top_checkpoint}

-- ---- what a statement says of an op is what its replica knows of it

pub stated_commit : (r : Replica) → (statement_of r).commit ≡ r.commit
unfolding statement_of
stated_commit r = refl

pub stated_first : (r : Replica) → (statement_of r).body.first ≡ run_start r + 1
unfolding statement_of
stated_first r = refl

pub stated_at : (r : Replica) (k : ℕ) → IsSound r → run_start r < k → stated_part k (statement_of r) ≡ part_at r k
unfolding statement_of
stated_at r k h l =
    let place : run_start r + 1 + (k - (run_start r + 1)) ≡ k = omega (arith, l) in
    rw (le-ltb k (run_start r + 1) (omega (arith, l))) (given_at r (k - (run_start r + 1)) h ∙ ap (part_at r) place)

pub before_first : (s : Statement) (k : ℕ) → k < s.body.first → stated_part k s ≡ Nothing
before_first s k l = rw (lt-ltb k s.body.first l) refl

-- ---- numbers of those heard

pub commit_most : (rs : List Replica) → All (λ (r : Replica). r.commit ≤ top_commit (statements rs)) rs
commit_most [] = All-nil (λ (r : Replica). r.commit ≤ 0)
commit_most (r ∷ rs) =
    let own = stated_commit r in
    let rest = commit_most rs in
    All-cons (λ (x : Replica). x.commit ≤ top_commit (statements (r ∷ rs))) r rs (omega (arith, own))
    (All-weaker (λ (x : Replica). x.commit ≤ top_commit (statements rs)) (λ (x : Replica). x.commit ≤ top_commit (statements (r ∷ rs))) (λ x l. omega (arith, l)) rs rest)

pub top_low : (rs : List Replica) → All IsSound rs → top_checkpoint rs ≤ top_commit (statements rs)
top_low [] all = omega arith
top_low (r ∷ rs) all =
    let sound = All-head IsSound r rs all in
    let low = sound.order.applied in
    let below = sound.order.commit in
    let own = stated_commit r in
    let rest = top_low rs (All-tail IsSound r rs all) in
    omega (arith, low, below, own, rest)

pub sound_of : (file cluster n : ℕ) (rs : List Replica) → All (IsMemberOf file cluster n) rs → All IsSound rs
sound_of file cluster n rs all = All-weaker (IsMemberOf file cluster n) IsSound (λ r m. m.sound) rs all

-- ---- who denies

no_header : (p : Part) → header_of p ≡ None → is_in_doubt p ≡ false → p ≡ Nothing
no_header (Here h) e d = absurd cc
no_header (Lost h) e d = absurd cc
no_header (Wanted h) e d = absurd cc
no_header Unknown e d = absurd cc
no_header Nothing e d = refl

-- a statement has the entry of the named header
intact_there : (ss : List Statement) (k : ℕ) (s : Statement) (e : Header) → Contains ss s → stated_part k s ≡ Here e → intact_by (Some e) k ss ≡ true
intact_there ss k s e there is =
    let here : is_here e (stated_part k s) ≡ true = ap (is_here e) is ∙ same_header_of e e refl in
    list_any-from_Any (λ (x : Statement). is_here e (stated_part k x)) ss (there.0, s, there.1, there.2, here)

-- one of the greatest log view
newest_denies : (ss : List Statement) (k : ℕ) (s : Statement) (o : Option Header) (p : Part) → NamesAgree ss → Contains ss s → s.log_view ≡ top_view ss → named ss k ≡ o
    → stated_part k s ≡ p → intact_by o k ss ≡ false → is_in_doubt p ≡ false → denies_as_newest p ≡ true
newest_denies ss k s None p agree there view n is gap sure =
    let none = All-contains (λ (x : Statement). x.log_view ≡ top_view ss → stated_header k x ≡ None) ss s (unnamed (top_view ss) k ss n) there view in
    let nothing : p ≡ Nothing = no_header p (sym (ap header_of is) ∙ none) sure in
    ap denies_as_newest nothing
newest_denies ss k s (Some e) (Here h) agree there view n is gap sure =
    let names = names_of (top_view ss) k ss e n in
    let same : h ≡ e = agree k s names.statement h e there names.there view names.view (ap header_of is) names.header in
    absurd (both_ways (intact_by (Some e) k ss) gap (intact_there ss k s e there (is ∙ ap Here same)))
newest_denies ss k s (Some e) (Lost h) agree there view n is gap sure = absurd cc
newest_denies ss k s (Some e) (Wanted h) agree there view n is gap sure = refl
newest_denies ss k s (Some e) Unknown agree there view n is gap sure = absurd cc
newest_denies ss k s (Some e) Nothing agree there view n is gap sure = refl

-- one of an earlier log view
older_denies : (ss : List Statement) (k : ℕ) (s : Statement) (o : Option Header) (p : Part) → Contains ss s → stated_part k s ≡ p → intact_by o k ss ≡ false
    → is_in_doubt p ≡ false → denies_as_older o p ≡ true
older_denies ss k s None p there is gap sure = refl
older_denies ss k s (Some e) (Here h) there is gap sure =
    elim (same_header h e) as (λ b. same_header h e ≡ b → not b ≡ true) [
      | true ↦ λ t. absurd (both_ways (intact_by (Some e) k ss) gap (intact_there ss k s e there (is ∙ ap Here (same_header_is h e t))))
      | false ↦ λ t. refl
    ] refl
older_denies ss k s (Some e) (Lost h) there is gap sure = absurd cc
older_denies ss k s (Some e) (Wanted h) there is gap sure = refl
older_denies ss k s (Some e) Unknown there is gap sure = absurd cc
older_denies ss k s (Some e) Nothing there is gap sure = refl

denied : (ss : List Statement) (k : ℕ) (s : Statement) → NamesAgree ss → Contains ss s → intact ss k ≡ false → is_in_doubt (stated_part k s) ≡ false → denies ss k s ≡ true
denied ss k s agree there gap sure =
    elim (s.log_view == top_view ss) as (λ b. (s.log_view == top_view ss) ≡ b → cond b (denies_as_newest (stated_part k s)) (denies_as_older (named ss k) (stated_part k s)) ≡ true) [
      | true ↦ λ t. newest_denies ss k s (named ss k) (stated_part k s) agree there (eqb-true s.log_view (top_view ss) t) refl refl gap sure
      | false ↦ λ t. older_denies ss k s (named ss k) (stated_part k s) there refl gap sure
    ] refl

all_counted : {X : Type 0} (p : X → Bool) (xs : List X) → All (λ x. p x ≡ true) xs → length xs ≤ count_by p xs
all_counted p [] all = omega arith
all_counted p (x ∷ xs) all =
    let rest = all_counted p xs (All-tail (λ x. p x ≡ true) x xs all) in
    let n : ℕ = cond (p x) 1 0 in
    let first : n ≡ 1 = ap (λ (b : Bool). cond b 1 0) (All-head (λ x. p x ≡ true) x xs all) in
    let more = sum_by-cons (λ y. cond (p y) 1 0) x xs in
    omega (arith, rest, first, more)

nack_low : (n : ℕ) (q : Quorums) → quorums_of n ≡ Some q → q.nack ≤ q.view_change
nack_low n q e =
    let are : IfSome (Some q) (AreQuorums n) = subst (λ o. IfSome o (AreQuorums n)) e (column n) in
    let overlap = are.overlap in
    let nack = are.nack in
    let fits = are.replication_fits in
    omega (arith, overlap, nack, fits)

-- each of them denies an op above the greatest commit number that isn't intact
all_deny : (rs : List Replica) (k : ℕ) → All IsSound rs → All (IsSure (top_checkpoint rs)) rs → NamesAgree (statements rs) → top_commit (statements rs) < k → intact (statements rs) k ≡ false
    → All (λ (s : Statement). denies (statements rs) k s ≡ true) (statements rs)
all_deny rs k all sure agree above gap =
    let ss = statements rs in
    let low = top_low rs all in
    let Sure : Statement → Type 0 = λ s. is_in_doubt (stated_part k s) ≡ false in
    let each : All (λ (r : Replica). Sure (statement_of r)) rs = All-each (λ (r : Replica). Sure (statement_of r)) rs (λ r there.
    let sound = All-contains IsSound rs r all there in
    let reach = (run_of r sound).reach in
    let order = sound.order in
    let applied = order.applied in
    let commit = order.commit in
    let most = All-contains (λ (x : Replica). x.commit ≤ top_commit ss) rs r (commit_most rs) there in
    ap is_in_doubt (stated_at r k sound (omega (arith, reach, applied, commit, most, above))) ∙ (All-contains (IsSure (top_checkpoint rs)) rs r sure there).each k (omega (arith, low, above))) in
    let stated : All Sure ss = All-map Sure statement_of rs each in
    All-each (λ (s : Statement). denies ss k s ≡ true) ss (λ s there. denied ss k s agree there gap (All-contains Sure ss s stated there))

-- ---- the choice

pub sure_quorums_decide : SureQuorumsDecide
unfolding choice
sure_quorums_decide file cluster n q rs heard agree sure =
    let ss = statements rs in
    let all = sound_of file cluster n rs heard.members in
    let long = row_long ss in
    let k : ℕ = row_end ss + 1 in
    let deny = all_deny rs k all sure agree (omega (arith, long)) (row_broken ss) in
    let counted = all_counted (denies ss k) ss deny in
    let few = nack_low n q heard.quorums in
    let enough = heard.enough in
    let size : length ss ≡ length rs = length-map rs statement_of in
    (log_headers ss (row_end ss), rw (le-ltb (length ss) q.view_change (omega (arith, size, enough)), le-leb q.nack (denials ss k) (omega (arith, counted, few, size, enough))) refl)
