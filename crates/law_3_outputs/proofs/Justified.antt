-- A choose line is of a choice from what was heard, in which a nack quorum denies the next op; and none of those ever vouches for
-- anything there.
use Rattle.std.proofs.Common.{ℕ, suc, ◌+◌, ◌<◌, ◌≡◌, ◌∙◌, arith, refl, sym, ap, subst, Bool, true, false, cond, List, length, Option, Some, None}
use Rattle.std.specs.Prelude.{slice_get, ◌==◌, not}
use Rattle.std.specs.Option.{option_map_or}
use Rattle.std.proofs.lemmas.Bool.{ne_eqb, true≢false}
use Rattle.std.proofs.lemmas.Option.{slice_get_within}
use Rattle.vr_base.specs.Groups.{quorums_of}
use Rattle.vr_header.specs.declared.header.Header.{Header}
use Rattle.vr_header.specs.declared.part.Part.{Part}
use Rattle.vr_header.specs.declared.part.Part.TheVariants.{Here, Lost, Wanted, Unknown, Nothing}
use Rattle.vr_header.specs.Same.{same_header}
use Rattle.vr_header.proofs.SameHeaders.{same_header_is}
use Rattle.vr_msg.specs.declared.choice.Choice.TheVariants.{Ends}
use Rattle.vr_msg.specs.declared.output.Chosen.{Chosen}
use Rattle.vr_msg.specs.declared.statement.Statement.{Statement}
use Rattle.vr_msg.specs.Choice as stated
use Rattle.vr_msg.specs.Choice.{IsChoice, denies, denies_as_newest, denies_as_older, denies_named, named, top_view}
use Rattle.vr_choose.proofs.Bounds.{bounded, some_statements}
use Rattle.vr_choose.proofs.Choices.{choice_meets}
use Rattle.vr_choose.proofs.Standing.{headers_stand}
use Rattle.vr_world.specs.Group.{Played}
use Rattle.vr_rules.proofs.Trying.{log_end_is}
use Rattle.law_1_machine.specs.Choosing.{Denies, plainly, other, silent}
use Rattle.law_1_machine.specs.Group.{Group, Vouches}
use Rattle.law_1_machine.specs.Laws.{CutByNacks}
use Rattle.law_1_machine.specs.Parts.{header, denied}
use Rattle.law_1_machine.proofs.Laws.{cut_by_nacks}
use Rattle.law_2_chains.specs.Chains.{Setup, statement_told}
use Rattle.law_2_chains.specs.Reflecting.{entries_by, told_of}
use Rattle.vr_world.specs.Safe.{IsDenier, IsJustified, all_heard, evidence, heard_from}
use Rattle.law_2_chains.proofs.Choosing.{told_some}
use Rattle.vr_rules.specs.Replica.{version}
use Rattle.law_3_outputs.specs.Followed.{IsChoiceLine, IsFollowed}
use Rattle.law_3_outputs.proofs.Sets.{set_of}
use Rattle.law_3_outputs.proofs.Traces.{chosen_later, last}
use Rattle.law_3_outputs.proofs.Forth.{good, vouch_told}

-- ---- the machine's denials are the rules'

both_true : (b x y : Bool) → x ≡ true → y ≡ true → cond b x y ≡ true
both_true true x y a c = a
both_true false x y a c = c

newest : (p : Part) → denied (told_of p) ≡ true → denies_as_newest p ≡ true
newest (Here h) d = d
newest (Lost h) d = d
newest (Wanted h) d = refl
newest Unknown d = d
newest Nothing d = refl

older : (o : Option Header) (p : Part) → denied (told_of p) ≡ true → denies_as_older o p ≡ true
older None p d = refl
older (Some e) (Here h) d = absurd (true≢false (sym d))
older (Some e) (Lost h) d = absurd (true≢false (sym d))
older (Some e) (Wanted h) d = refl
older (Some e) Unknown d = absurd (true≢false (sym d))
older (Some e) Nothing d = refl

apart : (h a : Header) → (h ≡ a → ⊥) → not (same_header h a) ≡ true
apart h a d =
    elim (same_header h a) as (λ b. same_header h a ≡ b → not b ≡ true) [
      | true ↦ λ e. absurd (d (same_header_is h a e))
      | false ↦ λ e. refl
    ] refl

another : (a b : Header) (p : Part) → header (told_of p) ≡ Some b → (b ≡ a → ⊥) → denies_named a p ≡ true
another a b (Here h) e d = apart h a (λ s. d (let t : Some h ≡ Some b = e in let u : h ≡ b = cc in sym u ∙ s))
another a b (Lost h) e d = apart h a (λ s. d (let t : Some h ≡ Some b = e in let u : h ≡ b = cc in sym u ∙ s))
another a b (Wanted h) e d = refl
another a b Unknown e d = absurd cc
another a b Nothing e d = refl

denied_back : (ss : List Statement) (k w : ℕ) (log : ℕ → Option Header) (t : Statement) → w ≡ top_view ss → ((j : ℕ) → log j ≡ named ss j) → Denies w k log (statement_told t) → denies ss k t ≡ true
denied_back ss k w log t same is (plainly d) = both_true (t.log_view == top_view ss) _ _ (newest (stated.stated_part k t) d) (older (named ss k) (stated.stated_part k t) d)
denied_back ss k w log t same is (other a b less e f d) =
    let off : (t.log_view == top_view ss) ≡ false = ne_eqb t.log_view (top_view ss) (λ s. let l : t.log_view < w = less in absurd (omega arith)) in
    let at : named ss k ≡ Some a = sym (is k) ∙ e in
    rw (off, at) (another a b (stated.stated_part k t) f d)
denied_back ss k w log t same is (silent less e) =
    let off : (t.log_view == top_view ss) ≡ false = ne_eqb t.log_view (top_view ss) (λ s. let l : t.log_view < w = less in absurd (omega arith)) in
    let at : named ss k ≡ None = sym (is k) ∙ e in
    rw (off, at) refl

-- ---- a line

module _ (cluster n : ℕ) (u : Setup) (run : List Played) (x : IsFollowed cluster n u run) (move : ℕ) (p : Played) (at : slice_get run move ≡ Some p) (l : Chosen) (line : IsChoiceLine u (x.group (suc move)).chosen p l) where
  abbrev ss : List Statement
  ss = all_heard l.view line.event line.replica

  meets : IsChoice line.sizes ss (Ends line.headers)
  meets = subst (IsChoice line.sizes ss) line.ends (choice_meets line.sizes ss (bounded ss (some_statements (version line.replica) u.cluster ss line.statements)))

  end_is : l.head ≡ meets.head
  end_is =
      let above = meets.ends.next.above in
      line.reach ∙ log_end_is (version line.replica) u.cluster ss meets.head line.headers meets.log.whole (omega arith) (headers_stand (version line.replica) u.cluster ss meets.head line.headers line.statements meets.log)

  abbrev end : Group Header
  end = last cluster n u run x

  cut : CutByNacks u.quorums (entries_by u.hash u.cluster) end line.made
  cut =
      let g = good cluster n u run x in
      let w = slice_get_within run move p at in
      cut_by_nacks u.quorums (entries_by u.hash u.cluster) g.0 end g.1 line.made (chosen_later cluster n u run x (length run) (suc move) (omega arith) (omega arith) line.made line.is_made)

  denier : (i : ℕ) → i < u.quorums.n → cut.chosen.deniers i ≡ true → IsDenier n (evidence run) ss l.log_view (l.head + 1) i (heard_from l.view line.event line.replica i)
  denier i b d =
      let y = cut.chosen.deny i b d in
      let t = told_some (heard_from l.view line.event line.replica i) y.0 (sym (line.of_heard i) ∙ y.1) in
      let of_head = line.of_head in
      let next : suc line.made.head ≡ l.head + 1 = omega arith in
      let says : Denies line.made.log_view (suc line.made.head) line.made.log (statement_told t.0) = subst (Denies line.made.log_view (suc line.made.head) line.made.log) (sym t.2) y.2 in
      record {
        statement = t.0;
        stated = t.1;
        denies = subst (λ k. denies ss k t.0 ≡ true) next (denied_back ss (suc line.made.head) line.made.log_view line.made.log t.0 (line.of_log_view ∙ line.log_view) line.of_log says);
        silent = λ c op v.
            let w = vouch_told cluster n u run x l.log_view i c v in
            let k : c.op ≡ suc line.made.head = omega arith in
            cut.silent i b d w.0 (subst (λ z. Vouches u.quorums end.sent i z (suc line.made.head) w.0) (sym line.of_log_view) (subst (λ z. Vouches u.quorums end.sent i l.log_view z w.0) k w.1));
      }

  pub justified : IsJustified n (evidence run) p l
  justified =
      let above = meets.ends.next.above in
      let end = end_is in
      let commit = line.commit in
      let y = set_of cut.chosen.deniers u.quorums.n in
      let many = cut.chosen.many in
      let size_is = y.many in
      let nack : option_map_or (λ q. q.nack) (quorums_of n) 0 ≡ u.quorums.nack = ap (λ m. option_map_or (λ q. q.nack) (quorums_of m) 0) (sym x.size_is) ∙ x.fits.nack_is in
      record {
        replica = line.replica;
        is_of = line.is_of;
        event = line.event;
        by_event = line.by_event;
        log_view = line.log_view;
        commit = line.commit;
        reach = omega arith;
        intact = λ k a b. meets.ends.next.whole k (omega arith) (omega arith);
        deniers = y.replicas;
        enough = omega arith;
        each = λ i h. let z = y.each i h in denier i z.0 z.1;
      }
