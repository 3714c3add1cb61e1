-- What members' replies rest on was asked of members before.
use Rattle.std.proofs.Common.{ℕ, ◌<◌, ◌≡◌, ◌∙◌, ◌⊎◌, inl, inr, arith, refl, sym, ap, subst, List, [], ◌∷◌, ◌++◌, length, Some}
use Rattle.std.specs.Prelude.{Contains}
use Rattle.std.proofs.lemmas.List.{append_assoc}
use Rattle.vr_header.specs.Made.{Whole}
use Rattle.vr_header.specs.Names.{root_header}
use Rattle.vr_msg.specs.declared.output.Output.{Output}
use Rattle.vr_msg.specs.declared.output.Output.TheVariants as output
use Rattle.vr_msg.specs.declared.request.RequestFields.{RequestFields}
use Rattle.vr_world.specs.Group.{Arrival, Asked, Message, Played, Time}
use Rattle.vr_world.specs.Lying.{Lying, hazards}
use Rattle.vr_world.specs.Safe as safe
use Rattle.vr_world.specs.World as world
use Rattle.vr_world.specs.World.{Happened, Happening, Host, World, happen, nothing}
use Rattle.law_1_machine.specs.Basics.{In}
use Rattle.law_2_chains.proofs.StoredLists.{contains_in, in_contains}
use Rattle.law_3_outputs.proofs.Traces.{in_either}
use Rattle.law_6_one_log.specs.Laws.{KeepsLog}
use Rattle.law_6_one_log.specs.Schedules.{IsHashedOf, MayFollow, room}
use Rattle.law_6_one_log.proofs.Names.{none_hashed}
use Rattle.law_7_members.specs.Files as files
use Rattle.law_7_members.specs.Files.{Act, ActBy, AtWork, Befalls, all_lines, line_of, lines_of, puts_out}
use Rattle.law_7_members.specs.Whole.{KeepOneLog, all_said, world_of}
use Rattle.law_7_members.proofs.Begun.{AreNew, begin_new, begun_run, begun_unforged}
use Rattle.law_7_members.proofs.Files.{AllRunOn, scheduled}
use Rattle.law_7_members.proofs.Keeping.{few_lines}
use Rattle.law_7_members.proofs.Whole.{runs_are_at_work}
use Rattle.law_9_answers.proofs.Asking.{one_log_answers}
use Rattle.law_9_asked.specs.Asked as lines
use Rattle.law_9_asked.proofs.Ordered.{begun_keep_order}
use Rattle.law_9_answers.specs.OrderLaws.{RunsKeepOrder}
use Rattle.law_9_answers.specs.Order.{AsksComeFirst, WasAsked, request_in, request_of}

-- ---- the first of some acts

pub lines_both : (xs ys : List ActBy) → all_lines (xs ++ ys) ≡ all_lines xs ++ all_lines ys
lines_both [] ys = refl
lines_both (x ∷ xs) ys = ap (λ (l : List Happening). lines_of x.at x.act ++ l) (lines_both xs ys) ∙ sym (append_assoc (lines_of x.at x.act) (all_lines xs) (all_lines ys))

work_front : (cluster : ℕ) (w : World Lying) (xs ys : List ActBy) (h : Happened Lying) → AtWork cluster w (xs ++ ys) h → (g : Happened Lying) × AtWork cluster w xs g
work_front cluster w [] ys h work = (nothing w, files.rests w)
work_front cluster _ (x ∷ xs) ys _ (files.goes_on w _ _ one rest b more) =
    let y = work_front cluster one.world xs ys rest more in
    (world.later one.outputs y.0, files.goes_on w x xs one y.0 b y.1)

work_said : (cluster : ℕ) (w : World Lying) (xs : List ActBy) (h : Happened Lying) → AtWork cluster w xs h → h.outputs ≡ all_said xs
work_said cluster _ _ _ (files.rests w) = refl
work_said cluster _ _ _ (files.goes_on w x xs one rest b more) =
    ap (λ (os : List Output). os ++ rest.outputs) (ap (λ (h : Happened Lying). h.outputs) b.is) ∙ ap (λ (os : List Output). puts_out x.at x.act ++ os) (work_said cluster one.world xs rest more)

-- ---- a line that asks is of an act that does

event_asks : (arrival : Arrival) (i at : ℕ) (q : RequestFields) → world.Asks at q ≡ line_of arrival i → request_of arrival ≡ Some q
event_asks (Asked p) i at q e = let same : p ≡ q = cc in ap Some same
event_asks (Message number) i at q e = absurd cc
event_asks Time i at q e = absurd cc

act_asks : (i : ℕ) (x : Act) (at : ℕ) (q : RequestFields) → In (world.Asks at q) (lines_of i x) → request_in x ≡ Some q
act_asks i (files.Handles arrival did) at q (inl e) = event_asks arrival i at q e
act_asks i (files.Handles arrival did) at q (inr n) = absurd n
act_asks i (files.Breaks arrival e made code) at q (inl f) = absurd cc
act_asks i (files.Breaks arrival e made code) at q (inr (inl f)) = event_asks arrival i at q f
act_asks i (files.Breaks arrival e made code) at q (inr (inr n)) = absurd n
act_asks i files.Ends at q (inl e) = absurd cc
act_asks i files.Ends at q (inr n) = absurd n
act_asks i (files.Finds after first replica) at q (inl e) = absurd cc
act_asks i (files.Finds after first replica) at q (inr n) = absurd n
act_asks i (files.HalfFinds made code) at q (inl e) = absurd cc
act_asks i (files.HalfFinds made code) at q (inr (inl e)) = absurd cc
act_asks i (files.HalfFinds made code) at q (inr (inr n)) = absurd n
act_asks i files.Moves at q (inl e) = absurd cc
act_asks i files.Moves at q (inr n) = absurd n
act_asks i (files.HalfMoves made code) at q (inl e) = absurd cc
act_asks i (files.HalfMoves made code) at q (inr (inl e)) = absurd cc
act_asks i (files.HalfMoves made code) at q (inr (inr n)) = absurd n
act_asks i (files.Decays fault) at q (inl e) = absurd cc
act_asks i (files.Decays fault) at q (inr n) = absurd n

event_plain : (arrival : Arrival) (i at : ℕ) (q : RequestFields) → world.AsksInVersion at q ≡ line_of arrival i → ⊥
event_plain (Asked p) i at q e = cc
event_plain (Message number) i at q e = cc
event_plain Time i at q e = cc

-- none asks in the version of a member
act_plain : (i : ℕ) (x : Act) (at : ℕ) (q : RequestFields) → In (world.AsksInVersion at q) (lines_of i x) → ⊥
act_plain i (files.Handles arrival did) at q (inl e) = event_plain arrival i at q e
act_plain i (files.Handles arrival did) at q (inr n) = n
act_plain i (files.Breaks arrival e made code) at q (inl f) = cc
act_plain i (files.Breaks arrival e made code) at q (inr (inl f)) = event_plain arrival i at q f
act_plain i (files.Breaks arrival e made code) at q (inr (inr n)) = n
act_plain i files.Ends at q (inl e) = cc
act_plain i files.Ends at q (inr n) = n
act_plain i (files.Finds after first replica) at q (inl e) = cc
act_plain i (files.Finds after first replica) at q (inr n) = n
act_plain i (files.HalfFinds made code) at q (inl e) = cc
act_plain i (files.HalfFinds made code) at q (inr (inl e)) = cc
act_plain i (files.HalfFinds made code) at q (inr (inr n)) = n
act_plain i files.Moves at q (inl e) = cc
act_plain i files.Moves at q (inr n) = n
act_plain i (files.HalfMoves made code) at q (inl e) = cc
act_plain i (files.HalfMoves made code) at q (inr (inl e)) = cc
act_plain i (files.HalfMoves made code) at q (inr (inr n)) = n
act_plain i (files.Decays fault) at q (inl e) = cc
act_plain i (files.Decays fault) at q (inr n) = n

record HasAsked (xs : List ActBy) (q : RequestFields) : Type 0 where
  act : ActBy
  among : In act xs
  asks : request_in act.act ≡ Some q

line_asks : (xs : List ActBy) (at : ℕ) (q : RequestFields) → In (world.Asks at q) (all_lines xs) → HasAsked xs q
line_asks [] at q i = absurd i
line_asks (x ∷ xs) at q i =
    elim (in_either (lines_of x.at x.act) (all_lines xs) (world.Asks at q) i) [
      | inl here ↦ record { act = x; among = inl refl; asks = act_asks x.at x.act at q here }
      | inr later ↦ let y = line_asks xs at q later in record { act = y.act; among = inr y.among; asks = y.asks }
    ]

line_plain : (xs : List ActBy) (at : ℕ) (q : RequestFields) → In (world.AsksInVersion at q) (all_lines xs) → ⊥
line_plain [] at q i = i
line_plain (x ∷ xs) at q i = elim (in_either (lines_of x.at x.act) (all_lines xs) (world.AsksInVersion at q) i) [ inl here ↦ act_plain x.at x.act at q here | inr later ↦ line_plain xs at q later ]

asked_in_acts : (xs : List ActBy) (e : Whole) → lines.WasAsked (all_lines xs) e → WasAsked xs e
asked_in_acts xs e (lines.asked at q c is) =
    let y = line_asks xs at q (contains_in (world.Asks at q) (all_lines xs) c) in
    record { act = y.act; among = in_contains y.act xs y.among; request = q; asks = y.asks; made_of = is }
asked_in_acts xs e (lines.asked_in_version at v q c is) = absurd (line_plain xs at q (contains_in (world.AsksInVersion at q) (all_lines xs) c))

-- ---- from a world in which members begin

module _ (cluster : ℕ) (w : World Lying) (all : AllRunOn w) where
  acts_first : (log : List Whole) (xs : List ActBy) (h : Happened Lying) → AtWork cluster w xs h → lines.AsksComeFirst w log (all_lines xs) → AsksComeFirst log xs
  acts_first log xs h work order front rest is a put =
      let y = work_front cluster w front rest h (subst (λ (zs : List ActBy). AtWork cluster w zs h) is work) in
      let s = scheduled cluster w front y.0 all y.1 in
      let said : (happen hazards w (all_lines front)).outputs ≡ all_said front = ap (λ (z : Happened Lying). z.outputs) s.is ∙ work_said cluster w front y.0 y.1 in
      let r = order (all_lines front) (all_lines rest) (ap all_lines is ∙ lines_both front rest) a (subst (λ (os : List Output). Contains os (output.Reply a)) (sym said) put) in
      record {
        entries = r.entries;
        after = r.after;
        some = r.some;
        says = r.says;
        each = λ op above upto. let e = r.each op above upto in record { entry = e.entry; at = e.at; asked = asked_in_acts front e.entry e.asked };
      }

pub runs_keep_order : RunsKeepOrder
runs_keep_order kinds cluster n first xs are number some many short r never =
    let work = runs_are_at_work kinds cluster n first xs r in
    let new : AreNew kinds cluster n first = begin_new kinds cluster n first xs are number some many r in
    let w = world_of first n in
    let all : AllRunOn w = begun_run kinds cluster n first new are number some many in
    let s = scheduled cluster w xs work.left all work.work in
    let u = begun_unforged kinds cluster n first new are number some many in
    let into : (bytes : List ℕ) → safe.IsHashed u.0.past.run (root_header cluster) bytes ⊎ IsHashedOf cluster w (all_lines xs) bytes → IsHashedOf cluster w (all_lines xs) bytes =
    λ bytes h. elim h [ inl old ↦ none_hashed cluster (all_lines xs) w bytes (subst (λ (run : List Played). safe.IsHashed run (root_header cluster) bytes) u.1 old) | inr hashed ↦ hashed ] in
    let size : length u.0.past.run ≡ 0 = ap (λ (run : List Played). length run) u.1 in
    let few : length (all_lines xs) < room cluster = few_lines cluster (length (all_lines xs)) (length xs) short s.few in
    let may : MayFollow cluster u.0.past.run w (all_lines xs) = record { lines = s.lines; names = λ p q x y same. never p q (into p x) (into q y) same; few = omega (arith, size, few) } in
    let k = begun_keep_order kinds cluster n are number some many w u.0 (all_lines xs) may never in
    let kept : (k : KeepsLog kinds cluster n work.left) × lines.AsksComeFirst w k.safe.log (all_lines xs) =
    subst (λ (h : Happened Lying). (k : KeepsLog kinds cluster n h) × lines.AsksComeFirst w k.safe.log (all_lines xs)) s.is k in
    let one : KeepOneLog kinds cluster n first xs = record { work = work; log = kept.0 } in
    record { one = one; answers = one_log_answers kinds cluster n first xs are number some many one; order = acts_first cluster w all kept.0.safe.log xs work.left work.work kept.1 }
