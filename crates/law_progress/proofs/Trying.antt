-- A primary that has heard a quorum that is whole begins its view.
use Rattle.std.proofs.Common.{arith, ◌≤◌, ◌<◌, ◌≡◌, ◌∙◌, inl, inr, refl, sym, ap, subst, true, false, List, [], ◌∷◌, Option}
use Rattle.std.specs.Prelude.{All, Contains}
use Rattle.std.specs.Option.{option_map_or}
use Rattle.std.proofs.lemmas.Bool.{cases_eq, eq-eqb, true≢false}
use Rattle.std.proofs.lemmas.List.Elements.{All-contains, All-head, All-tail}
use Rattle.vr_base.specs.declared.table.Quorums.{Quorums}
use Rattle.vr_base.specs.Groups.{quorums_of}
use Rattle.vr_header.specs.declared.header.Header.{Header}
use Rattle.vr_msg.specs.Choice.{choice}
use Rattle.vr_msg.specs.declared.choice.Choice.TheVariants.{Ends, TooFew}
use Rattle.vr_rules.specs.Replica.{Replica, is_primary, is_started}
use Rattle.vr_rules.specs.Steps.{Setting, by, naming}
use Rattle.vr_rules.specs.Words.{begin_view, chosen_log, decided, may_take, stated, try, try_log}
use Rattle.law_progress.proofs.Deciding.{sure_quorums_decide}
use Rattle.law_progress.proofs.Lists.{All-each}
use Rattle.law_progress.proofs.Taking.{furthest_members_take, top_most}
use Rattle.law_progress.specs.Deciding.{WholeQuorumsBegin, WholeQuorumsDecide}
use Rattle.law_progress.specs.Whole.{IsMemberOf, IsSure, replicas_of, top_checkpoint}

-- the greatest checkpoint of some of them, the furthest one among these, is that of all
same_top : (all rs : List Replica) (r : Replica) → All (Contains all) rs → Contains rs r → r.checkpoint ≡ top_checkpoint all → top_checkpoint rs ≡ top_checkpoint all
same_top all rs r of there top =
    let up = All-contains (λ (x : Replica). x.checkpoint ≤ top_checkpoint rs) rs r (top_most rs) there in
    let low = low_of all rs of in
    omega (arith, up, low, top)
  where
    low_of : (all rs : List Replica) → All (Contains all) rs → top_checkpoint rs ≤ top_checkpoint all
    low_of all [] of = omega arith
    low_of all (x ∷ rs) of =
        let rest = low_of all rs (All-tail (Contains all) x rs of) in
        let own = All-contains (λ (y : Replica). y.checkpoint ≤ top_checkpoint all) all x (top_most all) (All-head (Contains all) x rs of) in
        omega (arith, rest, own)

pub whole_quorums_decide : {F : Type 0} → WholeQuorumsDecide F
whole_quorums_decide s members file cluster n q rs w heard agree of there =
    let all = replicas_of members in
    let r = w.furthest.replica in
    let same = same_top all rs r of there w.top in
    let sure : All (IsSure (top_checkpoint rs)) rs = All-each (IsSure (top_checkpoint rs)) rs (λ x at.
    subst (λ k. IsSure k x) (sym same) (All-contains (IsSure (top_checkpoint all)) all x w.sure (All-contains (Contains all) rs x of at))) in
    let ends = sure_quorums_decide file cluster n q rs heard agree sure in
    record {
      headers = ends.0;
      ends = ends.1;
      takes = λ hash before. furthest_members_take file cluster n q rs r ends.0 hash heard there (w.top ∙ sym same) w.known before ends.1;
    }

tried : {F : Type 0} (s : Setting F) (f : F) (r : Replica) (headers : List Header) → is_primary r ≡ true → is_started r ≡ false → decided r ≡ Ends headers
    → may_take s.hash (chosen_log r (stated r) headers) r ≡ true → try s r f ≡ begin_view (stated r) (chosen_log r (stated r) headers) s r f
unfolding try by try_log naming
tried s f r headers leads fresh ends may = rw (leads, fresh, ends, may) refl

pub whole_quorums_begin : {F : Type 0} → WholeQuorumsBegin F
whole_quorums_begin s f members file cluster n q rs w heard agree of there leads fresh told chain =
    let r = w.furthest.replica in
    let d = whole_quorums_decide s members file cluster n q rs w heard agree of there in
    let member = All-contains (IsMemberOf file cluster n) rs r heard.members there in
    let views = member.sound.order.views in
    let before : r.log_view < r.view = elim (cases_eq r.log_view r.view) [
      | inl same ↦ absurd (true≢false (sym (eq-eqb r.view r.log_view (sym same)) ∙ fresh))
      | inr other ↦ omega (arith, views, other)
    ] in
    let ends : choice q (stated r) ≡ Ends d.headers = ap (choice q) told ∙ d.ends in
    let decides : decided r ≡ Ends d.headers = ap (λ (o : Option Quorums). option_map_or (λ q. choice q (stated r)) o TooFew) (ap quorums_of member.of_size ∙ heard.quorums) ∙ ends in
    let may : may_take s.hash (chosen_log r (stated r) d.headers) r ≡ true =
    subst (λ ss. may_take s.hash (chosen_log r ss d.headers) r ≡ true) (sym told) (d.takes s.hash before ∙ chain d.headers ends) in
    (d.headers, ends, tried s f r d.headers leads fresh decides may)
