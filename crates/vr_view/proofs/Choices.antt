-- What the statements of a group decide, and the log that its primary chooses.
use Rattle.std.proofs.Common.{arith, ℕ, ◌≡◌, ◌≤◌, ◌<◌, ◌^◌, ◌∙◌, refl, sym, subst, List, ◌++◌, Option, Some, None, Result, Ok}
use Rattle.std.specs.Prelude.{All, Bool, true, false, ◌&&◌, if◌then◌else◌, length, nat_lt, not}
use Rattle.std.specs.Option.{option_map_or}
use Rattle.std.proofs.lemmas.List.Elements.{All-weaker}
use Rattle.vr_base.specs.declared.table.Quorums.{Quorums}
use Rattle.vr_base.specs.Groups.{quorums_of}
use Rattle.vr_choose.specs.Statements.{IsSomeStatement}
use Rattle.vr_choose.proofs.Bounds.{some_statements}
use Rattle.vr_disk.specs.DiskState.{Disk}
use Rattle.vr_header.specs.declared.header.Header.{Header}
use Rattle.vr_msg.specs.declared.choice.Choice.{Choice}
use Rattle.vr_msg.specs.declared.choice.Choice.TheVariants.{Ends, WaitsAt, TooFew}
use Rattle.vr_msg.specs.declared.output.Output.{Output}
use Rattle.vr_msg.specs.declared.statement.Statement.{Statement}
use Rattle.vr_msg.specs.Choice.{choice, top_view}
use Rattle.vr_msg.specs.Logs.{IsStatement}
use Rattle.vr_rules.specs.Outputs.{send_to_all, start_view, wait_line}
use Rattle.vr_rules.specs.Steps.{◌⨾◌, by, says}
use Rattle.vr_rules.specs.Replica.{Replica, is_alone, is_primary, is_started, last_view, version, view_change}
use Rattle.vr_rules.specs.Sound.{IsStated}
use Rattle.vr_rules.specs.Words.{Log, advance, apply, begin_view, choose_line, chosen_log, decided, obey_choice, prepare_again, stated, take, try, try_log}
use Rattle.vr_rules.proofs.Storing.{head_number}
use Rattle.vr_rules.proofs.Taking.{may_take_is}
use Rattle.vr_rules.proofs.Trying.{all_stated, chosen_log_is, decided_ends}
use Rattle.vr_base.specs.Bytes.{name_of}
use Rattle.vr_disk.specs.declared.fault.Halt.{Halt}
use Rattle.vr_rules.specs.Does.{Does}
use Rattle.vr_rules.proofs.Stepping.{does_by, does_quiet, says_by}
use Rattle.vr_volatile.specs.Choosing.{chosen_line}
use Rattle.vr_volatile.specs.Ready.{IsReady}
use Rattle.vr_view.specs.Logs.{IsTaught, MayTake}
use Rattle.vr_actions.specs.Telling.{each_to}

pub some_stated : (r : Replica) (ss : List Statement) → IsReady r → ss ≡ stated r → All IsSomeStatement ss
unfolding IsReady
some_stated r ss h e =
    rw e (some_statements (version r) r.cluster (stated r) (All-weaker (IsStated (version r) r.cluster r.view) (IsStatement (version r) r.cluster) (λ s i. i.statement) (stated r) (all_stated r h.sound)))

-- the log that it chooses is one of its group
pub chosen_taught : (r : Replica) (ss : List Statement) (c : Choice) (hs : List Header) (l : Log) → IsReady r → r.view ≤ last_view → ss ≡ stated r → c ≡ decided r → c ≡ Ends hs → l ≡ chosen_log r ss hs → IsTaught l r
unfolding IsReady IsTaught
chosen_taught r ss c hs l h v e k i m =
    let q = decided_ends r.n (stated r) hs (quorums_of r.n) (sym k ∙ i) in
    rw (m, e) (record { log = λ values. chosen_log_is r q.0 (stated r) hs (all_stated r h.sound) q.1; view = v })

-- numbers of ops
pub commit_small : (r : Replica) (n : ℕ) → n ≡ r.commit → IsReady r → n < 2 ^ 63
unfolding IsReady
commit_small r n e h = let a = h.sound.order.known in let b = head_number r h.sound in omega arith

pub head_small : (l : Log) (r : Replica) → MayTake l r → IsReady r → l.head < 2 ^ 63
unfolding IsReady MayTake
head_small l r m h =
    let may = may_take_is name_of l r m.may in
    let room = may.room in
    let number = h.sound.order.number in
    omega arith

-- the line on a log that was chosen
pub choice_told : (ss : List Statement) (l : Log) (r : Replica) (view commit top : ℕ) (o o' : List Output) → view ≡ top_view ss → commit ≡ l.commit → top ≡ l.head → o' ≡ o ++ chosen_line view commit top r
    → o' ≡ o ++ choose_line ss l r
choice_told ss l r view commit top o o' a b c e = e ∙ rw (a, b, c) refl

-- ---- the choice is obeyed

module _ (r : Replica) (c : Choice) where
  pub choice_few : (d : Option Disk) (o : List Output) → c ≡ decided r → c ≡ TooFew → Does (obey_choice (stated r) (decided r)) r r d d o o (Ok tt)
  choice_few d o e k = let same : decided r ≡ TooFew = sym e ∙ k in subst (λ (x : Choice). Does (obey_choice (stated r) x) r r d d o o (Ok tt)) (sym same) (does_quiet r d o)

  pub choice_waits : (op : ℕ) (d : Option Disk) (o o' : List Output) → c ≡ decided r → c ≡ WaitsAt op → o' ≡ o ++ wait_line op r → Does (obey_choice (stated r) (decided r)) r r d d o o' (Ok tt)
  choice_waits op d o o' e k i =
      let same : decided r ≡ WaitsAt op = sym e ∙ k in
      subst (λ (x : Choice). Does (obey_choice (stated r) x) r r d d o o' (Ok tt)) (sym same) (says_by (wait_line op) r d o o' i)

  pub choice_ends : (hs : List Header) (ss : List Statement) (l : Log) (r' : Replica) (d d' : Option Disk) (o o' : List Output) (result : Result (Unit {0}) Halt) → c ≡ decided r → c ≡ Ends hs
      → ss ≡ stated r → l ≡ chosen_log r ss hs → Does (try_log ss l) r r' d d' o o' result → Does (obey_choice (stated r) (decided r)) r r' d d' o o' result
  choice_ends hs ss l r' d d' o o' result e k s i h =
      let same : decided r ≡ Ends hs = sym e ∙ k in
      let log : l ≡ chosen_log r (stated r) hs = i ∙ rw s refl in
      subst (λ (x : Choice). Does (obey_choice (stated r) x) r r' d d' o o' result) (sym same)
      (does_by (λ (x : Replica). try_log (stated r) (chosen_log x (stated r) hs)) r r' d d' o o' result (rw (s, log) at h))

-- fewer than a view-change quorum decide nothing
few_of : (o : Option Quorums) (ss : List Statement) → nat_lt (length ss) (option_map_or (λ q. q.view_change) o 0) ≡ true → option_map_or (λ q. choice q ss) o TooFew ≡ TooFew
unfolding choice
few_of None ss t = refl
few_of (Some q) ss t = let few : nat_lt (length ss) q.view_change ≡ true = t in rw few refl

pub choice_small : (r : Replica) (b : Bool) (d : Option Disk) (o : List Output) → b ≡ nat_lt (length (stated r)) (view_change r.n) → b ≡ true → Does (obey_choice (stated r) (decided r)) r r d d o o (Ok tt)
choice_small r b d o e t =
    let same : decided r ≡ TooFew = few_of (quorums_of r.n) (stated r) (sym e ∙ t) in
    subst (λ (x : Choice). Does (obey_choice (stated r) x) r r d d o o (Ok tt)) (sym same) (does_quiet r d o)

-- ---- whether it chooses

module _ (r : Replica) (b : Bool) where
  pub try_chooses : (r' : Replica) (d d' : Option Disk) (o o' : List Output) (result : Result (Unit {0}) Halt) → b ≡ (is_primary r && not (is_started r)) → b ≡ true
      → Does (obey_choice (stated r) (decided r)) r r' d d' o o' result → Does try r r' d d' o o' result
  unfolding try
  try_chooses r' d d' o o' result e t h = let yes : (is_primary r && not (is_started r)) ≡ true = sym e ∙ t in does_by _ r r' d d' o o' result (rw yes h)

  pub try_rests : (d : Option Disk) (o : List Output) → b ≡ (is_primary r && not (is_started r)) → b ≡ false → Does try r r d d o o (Ok tt)
  unfolding try
  try_rests d o e t = let no : (is_primary r && not (is_started r)) ≡ false = sym e ∙ t in does_by _ r r d d o o (Ok tt) (rw no (does_quiet r d o))

pub ruleset tries = (try_chooses, try_rests)

-- ---- a view is begun

pub begins : (ss : List Statement) (l : Log) (r r' : Replica) (d d' : Option Disk) (o o' : List Output) (result : Result (Unit {0}) Halt)
    → Does (says (choose_line ss l) ⨾ take l ⨾ says (send_to_all start_view) ⨾ each_to prepare_again l.head ⨾ by (λ r. if is_alone r then advance else apply)) r r' d d' o o' result → Does (begin_view ss l) r r' d d' o o' result
unfolding begin_view each_to
begins ss l r r' d d' o o' result h = h
