-- What a reply rests on was asked before it was put out.
use Rattle.std.proofs.Common.{ℕ, ◌+◌, ◌-◌, ◌^◌, ◌≤◌, ◌<◌, ◌≡◌, ◌⊎◌, inl, inr, arith, sym, ap, subst, List, ◌++◌, length, take, Some}
use Rattle.std.specs.Prelude.{slice_get}
use Rattle.vr_base.proofs.Members.{least_of}
use Rattle.vr_base.specs.declared.kind.Kind.{Kind}
use Rattle.vr_header.specs.Made.{Whole}
use Rattle.vr_header.specs.Names.{root_header}
use Rattle.vr_header.specs.NoCollision.{NoCollision}
use Rattle.vr_header.specs.declared.header.Header.{Header}
use Rattle.vr_msg.specs.declared.output.Output.TheVariants as output
use Rattle.vr_msg.specs.declared.reply.ReplyFields.{ReplyFields}
use Rattle.vr_rules.specs.Opening.{AreKinds}
use Rattle.vr_world.specs.Commitment.{IsCommitted, lines_by}
use Rattle.vr_world.specs.Group.{Group, Played, fresh_group}
use Rattle.vr_world.specs.Lying.{Lying, hazards}
use Rattle.vr_world.specs.Safe.{IsHashed, IsTrueReply, applied_then, before, evidence, run_outputs}
use Rattle.vr_world.specs.World.{Happening, World, happen}
use Rattle.law_1_machine.specs.Basics.{In}
use Rattle.law_2_chains.proofs.StoredLists.{contains_in}
use Rattle.law_3_outputs.specs.Followed.{IsFitRun}
use Rattle.law_3_outputs.proofs.Backed.{one_whole}
use Rattle.law_3_outputs.proofs.Log.{the_log}
use Rattle.law_3_outputs.proofs.Sets.{in_get}
use Rattle.law_3_outputs.proofs.Traces.{output_of_move}
use Rattle.law_4_disks.specs.Worlds.{IsMatched, first_world, left}
use Rattle.law_4_disks.proofs.Fresh.{schedules_begin}
use Rattle.law_6_one_log.specs.Laws.{HasOneLog, KeepsLog, KeepsOneLog}
use Rattle.law_6_one_log.specs.ScheduleLaws.{IsHashedBy, IsUnforgedBeside}
use Rattle.law_6_one_log.specs.Schedules.{IsHashedOf, MayFollow}
use Rattle.law_6_one_log.proofs.Following.{follows_it}
use Rattle.law_6_one_log.proofs.Fresh.{worlds_begin_unforged}
use Rattle.law_6_one_log.proofs.Known.{one_log_is}
use Rattle.law_6_one_log.proofs.Names.{none_hashed}
use Rattle.law_6_one_log.proofs.ScheduleRuns.{Along, Splits, along_files, along_reads, along_run, along_said, goes, matched_of, splits}
use Rattle.law_6_one_log.proofs.Traces.{kept_of, said_in}
use Rattle.law_9_asked.specs.Asked.{AsksComeFirst, KeepsOrder, RestsOnAsked, WasAsked}
use Rattle.law_9_asked.proofs.Executing.{keeps_order}
use Rattle.law_9_asked.specs.Laws.{SchedulesKeepOrder, WorldsKeepOrder}
use Rattle.law_9_asked.proofs.Fronts.{before_less, before_same, get_front, log_early, more_committed, written_early}
use Rattle.law_9_asked.proofs.Made.{IsFree, run_makes}
use Rattle.law_9_asked.proofs.Origins.{along_made}

less_by : (a b c : ℕ) → a + b - c ≤ a + b
less_by a b c = omega arith

module _ (kinds : ℕ → Kind) (cluster n : ℕ) (are : AreKinds kinds n) (number : cluster < 2 ^ 64) (some : 1 ≤ n) (many : n ≤ 6) where
  abbrev first_group : Group
  first_group = fresh_group kinds cluster n

  none_sent : IsFree first_group.sent
  unfolding fresh_group
  none_sent s i = absurd i

  none_made : (h : Header) → In h first_group.made → ⊥
  unfolding fresh_group
  none_made h i = i

  abbrev log_of : (run : List Played) → IsFitRun cluster n run → List Whole
  log_of run fit = the_log cluster n (follows_it cluster n run fit).setup run (follows_it cluster n run fit).followed

  -- what is committed before an output of the first moves was written in them, for a request that was asked by then
  module _ (w : World Lying) (front : List Happening) (first rest : List Played) (b : Along cluster w first_group front first) where
    early_fit : IsFitRun cluster n first
    early_fit = record {
      number = number;
      some = some;
      many = many;
      moves = along_reads cluster w first_group front first b;
      files = along_files cluster w first_group front first b;
      kinds = kinds;
      are_kinds = are;
      of_run = along_run cluster w first_group front first b;
    }

    module _ (fit : IsFitRun cluster n (first ++ rest)) (never : NoCollision (IsHashed (first ++ rest) (root_header cluster))) where
      asked_early : (view : ℕ) (e : Whole) → 0 < e.header.op → slice_get (log_of (first ++ rest) fit) (e.header.op - 1) ≡ Some e → IsCommitted cluster n (evidence first) view e.header → WasAsked front e
      asked_early view e above at committed =
          let l = log_early cluster n first rest fit early_fit never view e above committed at in
          let x = l.written in
          let made : In x.entry.header (left first_group first).made = run_makes first_group first (along_run cluster w first_group front first b) x.move x.of_run x.again x.entry x.of_move in
          elim (along_made cluster w first_group front first b none_sent e.header (subst (λ (k : Header). In k (left first_group first).made) x.is made)) [
            | inl o ↦
                let v = written_early cluster n first rest fit early_fit never o.move o.again o.entry o.of_run o.writes in
                subst (WasAsked front) (one_whole (IsHashed (first ++ rest) (root_header cluster)) never o.entry e o.is v.0 l.good v.1 l.hashed) o.asked
            | inr old ↦ absurd (none_made e.header old)
          ]

      asked_before : (t place : ℕ) (p : Played) → slice_get first t ≡ Some p → (view : ℕ) (e : Whole) → 0 < e.header.op → slice_get (log_of (first ++ rest) fit) (e.header.op - 1) ≡ Some e → IsCommitted cluster n (before (first ++ rest) t place p) view e.header
          → WasAsked front e
      asked_before t place p is view e above at committed =
          let by_first : IsCommitted cluster n (before first t place p) view e.header = subst (λ b. IsCommitted cluster n b view e.header) (before_same first rest t place p is) committed in
          asked_early view e above at (more_committed (before first t place p) (evidence first) (before_less first t place p is) cluster n view e.header by_first)

  -- in any run that is those moves and others
  abbrev AskedBefore : List Happening → ℕ → ℕ → Played → List Played → Type 0
  AskedBefore front t place p run =
      (fit : IsFitRun cluster n run) → NoCollision (IsHashed run (root_header cluster)) → (view : ℕ) (e : Whole) → 0 < e.header.op → slice_get (log_of run fit) (e.header.op - 1) ≡ Some e → IsCommitted cluster n (before run t place p) view e.header
      → WasAsked front e

  module _ (w : World Lying) (xs : List Happening) (run : List Played) (a : Along cluster w first_group xs run) (fit : IsFitRun cluster n run) (never : NoCollision (IsHashed run (root_header cluster))) (o : HasOneLog cluster n run) (is_log : o.safe.log ≡ log_of run fit) where
    rests_on : (front rest : List Happening) → xs ≡ front ++ rest → (r : ReplyFields) → In (output.Reply r) (happen hazards w front).outputs → RestsOnAsked o.safe.log front r
    rests_on front rest is r i =
        let s : Splits cluster w first_group front run = splits cluster w first_group front rest run (subst (λ (ys : List Happening). Along cluster w first_group ys run) is a) in
        let moves = s.first in
        let said = said_in (happen hazards w front).outputs (run_outputs moves) (along_said cluster w first_group front moves s.along) (output.Reply r) (λ z. z) i in
        let m = output_of_move moves (output.Reply r) said in
        let t = m.0 in
        let p = m.1 in
        let k = in_get p.moved.outputs (output.Reply r) m.3 in
        let there : slice_get run t ≡ Some p = subst (λ (ps : List Played). slice_get ps t ≡ Some p) (sym s.is) (get_front moves s.rest t p m.2) in
        let so : IsTrueReply cluster n o.safe.log run t k.0 p r = o.safe.backed t k.0 p (output.Reply r) never (record { at = there; is = k.1 }) in
        let asks : AskedBefore front t k.0 p run = subst (AskedBefore front t k.0 p) (sym s.is) (λ f c. asked_before w front moves s.rest s.along f c t k.0 p m.2) in
        let lines = lines_by r.replica (take k.0 p.moved.outputs) in
        record {
          entries = so.replica.applied + lines;
          after = applied_then r.replica so.replica (take k.0 p.moved.outputs);
          some = less_by so.replica.applied lines _;
          says = so.said;
          each = λ op above upto.
              let c = so.applied op above upto in
              let op_is : op ≡ c.entry.header.op = sym c.number in
              let at : slice_get o.safe.log (c.entry.header.op - 1) ≡ Some c.entry = subst (λ (j : ℕ). slice_get o.safe.log (j - 1) ≡ Some c.entry) op_is c.at in
              let logged = subst (λ (log : List Whole). slice_get log (c.entry.header.op - 1) ≡ Some c.entry) is_log at in
              record { entry = c.entry; at = c.at; asked = asks fit never c.view c.entry (subst (λ (j : ℕ). 0 < j) op_is above) logged c.committed };
        }

  -- from any world that begins beside the first group
  pub begun_keep_order : (w : World Lying) (u : IsUnforgedBeside cluster w first_group) → (xs : List Happening) → MayFollow cluster u.past.run w xs → NoCollision (IsHashedOf cluster w xs) → (k : KeepsLog kinds cluster n (happen hazards w xs)) × AsksComeFirst w k.safe.log xs
  begun_keep_order w u xs may never =
      let l = goes cluster xs w first_group u may in
      let m : (m : IsMatched first_group (happen hazards w xs)) × (m.run ≡ l.run) = matched_of cluster w first_group xs l.run l.along in
      let run = m.0.run in
      let a : Along cluster w first_group xs run = subst (Along cluster w first_group xs) (sym m.1) l.along in
      let hashed : IsHashedBy cluster w xs run = subst (IsHashedBy cluster w xs) (sym m.1) l.hashed in
      let names : NoCollision (IsHashed run (root_header cluster)) = λ p q x y same. never p q (hashed p x) (hashed q y) same in
      let fit : IsFitRun cluster n run = record { number = number; some = some; many = many; moves = m.0.reads; files = m.0.files; kinds = kinds; are_kinds = are; of_run = m.0.is } in
      let o = one_log_is cluster n run fit in
      let k = kept_of kinds cluster n (happen hazards w xs) m.0 names o.0 in
      let first : AsksComeFirst w o.0.safe.log xs = λ front rest is r c. rests_on w xs run a fit names o.0 o.1 front rest is r (contains_in (output.Reply r) (happen hazards w front).outputs c) in
      (k.0, subst (λ (log : List Whole). AsksComeFirst w log xs) (sym k.1) first)

pub worlds_keep_order : WorldsKeepOrder
worlds_keep_order kinds cluster n xs are number some many short lines never =
    let w = first_world kinds cluster n in
    let u = worlds_begin_unforged kinds cluster n are number some many in
    let into : (bytes : List ℕ) → IsHashed u.0.past.run (root_header cluster) bytes ⊎ IsHashedOf cluster w xs bytes → IsHashedOf cluster w xs bytes =
    λ bytes h. elim h [ inl old ↦ none_hashed cluster xs w bytes (subst (λ (run : List Played). IsHashed run (root_header cluster) bytes) u.1 old) | inr new ↦ new ] in
    let size : length u.0.past.run ≡ 0 = ap (λ (run : List Played). length run) u.1 in
    let k = begun_keep_order kinds cluster n are number some many w u.0 xs (record { lines = lines; names = λ p q x y same. never p q (into p x) (into q y) same; few = omega (arith, size, short) }) never in
    (k.0, keeps_order w k.0.safe.log xs k.1)

pub schedules_keep_order : SchedulesKeepOrder
schedules_keep_order kind n xs is few many short may =
    let some = (least_of kind.version).0 in
    let begun = schedules_begin kind n in
    let names : NoCollision (IsHashedOf 0 (first_world (λ i. kind) 0 n) xs) = subst (λ (w : World Lying). NoCollision (IsHashedOf 0 w xs)) begun may.names in
    let k = worlds_keep_order (λ i. kind) 0 n xs (λ i l. (is, few)) (omega arith) (omega (arith, some, few)) many short may.lines names in
    subst (λ (w : World Lying). (k : KeepsOneLog kind n (happen hazards w xs)) × KeepsOrder w k.safe.log xs) (sym begun) k
