-- Where the replies of members come from: a request that reached one, or the entry of a commit line.
use Rattle.std.proofs.Common.{ℕ, ◌^◌, ◌<◌, ◌≡◌, inl, inr, refl, sym, ap, subst, List, [], ◌∷◌, ◌++◌, Option}
use Rattle.vr_base.specs.Bytes.{name_of}
use Rattle.vr_base.specs.declared.table.Config.{Config}
use Rattle.vr_header.specs.Made.{Whole}
use Rattle.vr_msg.specs.declared.event.Event.{Event}
use Rattle.vr_msg.specs.declared.event.Event.TheVariants as event
use Rattle.vr_msg.specs.declared.frame.Frame.TheVariants as frame
use Rattle.vr_msg.specs.declared.output.Committed.{Committed}
use Rattle.vr_msg.specs.declared.output.Output.{Output}
use Rattle.vr_msg.specs.declared.output.Output.TheVariants as output
use Rattle.vr_msg.specs.declared.output.Sent.{Sent}
use Rattle.vr_msg.specs.declared.reply.ReplyFields.{ReplyFields}
use Rattle.vr_msg.specs.declared.request.RequestFields.{RequestFields}
use Rattle.vr_rules.specs.Fit.{IsAsked}
use Rattle.vr_rules.specs.Outputs.{messages, asker_of}
use Rattle.vr_rules.specs.Sectors.{sectors_by}
use Rattle.vr_node.specs.declared.node.Node.{Node}
use Rattle.vr_serve.specs.Runs.{Did}
use Rattle.vr_rules.specs.declared.asker.Asker.{Asker}
use Rattle.vr_world.specs.Group.{Arrival, Asked, Message, Time}
use Rattle.vr_world.specs.Lying.{Lying}
use Rattle.vr_rules.specs.Opening.{blank, opening}
use Rattle.vr_rules.specs.Replica.{Replica, version}
use Rattle.vr_rules.specs.Rules.{asker_by, react}
use Rattle.vr_rules.specs.Steps.{Effect, outputs}
use Rattle.vr_world.specs.World.{Happened, World}
use Rattle.law_1_machine.specs.Basics.{In}
use Rattle.law_3_outputs.proofs.Sets.{get_in, in_left, in_right}
use Rattle.law_3_outputs.proofs.Traces.{in_either}
use Rattle.law_7_members.specs.Files as files
use Rattle.law_7_members.specs.Files.{Act, ActBy, AtWork, Becomes, Brings, Comes, Handles, act_by, puts_out}
use Rattle.law_7_members.specs.Whole.{all_said}
use Rattle.law_9_asked.proofs.Made.{IsFree, no_frame}
use Rattle.law_9_asked.proofs.Reacting.{IsAnswered, steps_traced, tr_opening}
use Rattle.law_9_asked.proofs.Reacting as answered
use Rattle.law_9_asked.proofs.Scripts.{in_said, said_in, sent_in}
use Rattle.law_9_asked.proofs.Tracing.{IsLined, IsNoRequest, IsTo, Traced}

-- ---- what one act puts out

-- where a reply comes from
pub data ComesFrom (xs : List ActBy) (a : ReplyFields) : Type 0 where
  of_request : (at : ℕ) (did : Did Node) (q : RequestFields) → In (act_by at (Handles (Asked q) did)) xs → IsAsked q → q.cluster < 2 ^ 64 → IsTo (asker_by name_of q) a → ComesFrom xs a
  of_line : (c : Committed) → In (output.Commit c) (all_said xs) → IsTo (asker_of c.entry) a → ComesFrom xs a

from_first : (x : ActBy) (xs : List ActBy) (a : ReplyFields) → ComesFrom (x ∷ []) a → ComesFrom (x ∷ xs) a
from_first x xs a (of_request at did q (inl e) asked range to) = of_request at did q (inl e) asked range to
from_first x xs a (of_request at did q (inr none) asked range to) = absurd none
from_first x xs a (of_line c i to) = of_line c (elim (in_either (puts_out x.at x.act) [] (output.Commit c) i) [ inl here ↦ in_left (puts_out x.at x.act) (all_said xs) (output.Commit c) here | inr none ↦ absurd none ]) to

from_later : (x : ActBy) (xs : List ActBy) (a : ReplyFields) → ComesFrom xs a → ComesFrom (x ∷ xs) a
from_later x xs a (of_request at did q i asked range to) = of_request at did q (inr i) asked range to
from_later x xs a (of_line c i to) = of_line c (in_right (puts_out x.at x.act) (all_said xs) (output.Commit c) i) to

record IsTraced (x : ActBy) : Type 0 where
  sends : (s : Sent) → In (output.Send s) (puts_out x.at x.act) → IsNoRequest s.message
  replies : (a : ReplyFields) → In (output.Reply a) (puts_out x.at x.act) → ComesFrom (x ∷ []) a

-- the request of an event
record IsAskedBy (arrival : Arrival) (b : Asker) : Type 0 where
  request : RequestFields
  by : arrival ≡ Asked request
  asked : IsAsked request
  range : request.cluster < 2 ^ 64
  is : b ≡ asker_by name_of request

asked_by_event : (sent : List Sent) (at : ℕ) (arrival : Arrival) (e : Event) (b : Asker) → IsFree sent → Comes sent at arrival e → IsAnswered name_of e b → IsAskedBy arrival b
asked_by_event sent at (Asked p) _ _ free c (answered.IsAnswered.asked q) =
    let e : event.Request q ≡ event.Request p = c.2 in
    let same : q ≡ p = cc in
    record { request = p; by = refl; asked = c.0; range = c.1; is = ap (asker_by name_of) same }
asked_by_event sent at (Message number) _ _ free c (answered.IsAnswered.asked q) = absurd (let e : event.Request q ≡ event.Deliver c.0.message = c.3 in cc)
asked_by_event sent at Time _ _ free c (answered.IsAnswered.asked q) = absurd (let e : event.Request q ≡ event.Tick = c in cc)
asked_by_event sent at (Asked p) _ _ free c (answered.IsAnswered.asked_in q) = absurd (let e : event.Deliver (frame.Request q) ≡ event.Request p = c.2 in cc)
asked_by_event sent at (Message number) _ _ free c (answered.IsAnswered.asked_in q) =
    let e : event.Deliver (frame.Request q) ≡ event.Deliver c.0.message = c.3 in
    let same : frame.Request q ≡ c.0.message = cc in
    absurd (no_frame q c.0.message same (free c.0 (get_in sent number c.0 c.1)))
asked_by_event sent at Time _ _ free c (answered.IsAnswered.asked_in q) = absurd (let e : event.Deliver (frame.Request q) ≡ event.Tick = c in cc)

-- a commit line of the act
of_lined : (x : ActBy) (es : List Effect) → puts_out x.at x.act ≡ outputs es → (a : ReplyFields) → IsLined es a → ComesFrom (x ∷ []) a
of_lined x es is a l =
    of_line l.line (in_left (puts_out x.at x.act) [] (output.Commit l.line) (subst (λ (os : List Output). In (output.Commit l.line) os) (sym is) (in_said es (output.Commit l.line) l.among))) l.to

handled_traced : (sent : List Sent) (at : ℕ) (arrival : Arrival) (did : Did Node) (es : List Effect) → IsFree sent → Comes sent at arrival did.come.event → did.outputs ≡ outputs es
    → (W : Whole → Type 0) → Traced W (IsAnswered name_of did.come.event) es → IsTraced (act_by at (Handles arrival did))
handled_traced sent at arrival did es free comes is W t = record {
  sends = λ s i. t.sends s (said_in es (output.Send s) (subst (λ (os : List Output). In (output.Send s) os) is i));
  replies = λ a i. elim (t.replies a (said_in es (output.Reply a) (subst (λ (os : List Output). In (output.Reply a) os) is i))) [
    | inl one ↦
        let b = asked_by_event sent at arrival did.come.event one.asker free comes one.is_one in
        of_request at did b.request (inl (ap (λ (y : Arrival). act_by at (Handles y did)) (sym b.by))) b.asked b.range (subst (λ (z : Asker). IsTo z a) b.is one.to)
    | inr l ↦ of_lined (act_by at (Handles arrival did)) es is a l
  ];
}

-- what is put out that is neither a message nor a reply
silent_traced : (x : ActBy) → ((s : Sent) → In (output.Send s) (puts_out x.at x.act) → ⊥) → ((a : ReplyFields) → In (output.Reply a) (puts_out x.at x.act) → ⊥) → IsTraced x
silent_traced x h k = record { sends = λ s i. absurd (h s i); replies = λ a i. absurd (k a i) }

found_traced : (x : ActBy) (es : List Effect) → puts_out x.at x.act ≡ outputs es → (W : Whole → Type 0) → Traced W (λ (b : Asker). ⊥) es → IsTraced x
found_traced x es is W t = record {
  sends = λ s i. t.sends s (said_in es (output.Send s) (subst (λ (os : List Output). In (output.Send s) os) is i));
  replies = λ a i. elim (t.replies a (said_in es (output.Reply a) (subst (λ (os : List Output). In (output.Reply a) os) is i))) [
    | inl one ↦ absurd one.is_one
    | inr l ↦ of_lined x es is a l
  ];
}

act_traced : (c : Config) (sent : List Sent) (at : ℕ) (o : Option Replica) (file : Lying) (act : Act) (next : Option Replica) (left : Lying) → IsFree sent → Brings sent at act → Becomes c o file act next left → IsTraced (act_by at act)
act_traced c sent at _ _ _ _ _ free brings (files.handles file arrival did node d face does) =
    let r = node.replica.memory in
    let left = does.1.told d refl in
    let es = (react did.come.event (sectors_by (version r)) r d.face).script in
    handled_traced sent at arrival did es free brings left.1 _ (steps_traced (sectors_by (version r)) r d.face did.come.event)
act_traced c sent at _ _ _ _ _ free brings (files.breaks file arrival e made code r within) = silent_traced (act_by at (files.Breaks arrival e made code)) (λ s i. elim i [ inl z ↦ cc | inr n ↦ n ]) (λ a i. elim i [ inl z ↦ cc | inr n ↦ n ])
act_traced c sent at _ _ _ _ _ free brings (files.ends file o) = silent_traced (act_by at files.Ends) (λ s i. i) (λ a i. i)
act_traced c sent at _ _ _ _ _ free brings (files.finds file d v after first r tells is_open opens) =
    let u = opens.value in
    let left = opens.step.told d refl in
    let s = sectors_by (version (blank u)) in
    let es = (opening u s (blank u) d.face).script in
    found_traced (act_by at (files.Finds after first r)) es left.1 (λ (w : Whole). ⊥) ((tr_opening {W = λ (w : Whole). ⊥} {Q = λ (b : Asker). ⊥} u).every s (blank u) d.face)
act_traced c sent at _ _ _ _ _ free brings (files.half_finds file v made code is_open within) = silent_traced (act_by at (files.HalfFinds made code)) (λ s i. elim i [ inl z ↦ cc | inr n ↦ n ]) (λ a i. elim i [ inl z ↦ cc | inr n ↦ n ])
act_traced c sent at _ _ _ _ _ free brings (files.moves file v o first) = silent_traced (act_by at files.Moves) (λ s i. elim i [ inl z ↦ cc | inr n ↦ n ]) (λ a i. elim i [ inl z ↦ cc | inr n ↦ n ])
act_traced c sent at _ _ _ _ _ free brings (files.half_moves file v made code o first within) = silent_traced (act_by at (files.HalfMoves made code)) (λ s i. elim i [ inl z ↦ cc | inr n ↦ n ]) (λ a i. elim i [ inl z ↦ cc | inr n ↦ n ])
act_traced c sent at _ _ _ _ _ free brings (files.decays file o fault left is kept) = silent_traced (act_by at (files.Decays fault)) (λ s i. elim i [ inl z ↦ cc | inr n ↦ n ]) (λ a i. elim i [ inl z ↦ cc | inr n ↦ n ])

-- ---- members at work

free_more : (sent : List Sent) (os : List Output) → IsFree sent → ((s : Sent) → In (output.Send s) os → IsNoRequest s.message) → IsFree (sent ++ messages os)
free_more sent os free h s i = elim (in_either sent (messages os) s i) [ inl old ↦ free s old | inr now ↦ h s (sent_in os s now) ]

pub comes_from : (cluster : ℕ) (w : World Lying) (xs : List ActBy) (h : Happened Lying) → AtWork cluster w xs h → IsFree w.sent → (a : ReplyFields) → In (output.Reply a) (all_said xs) → ComesFrom xs a
comes_from cluster _ _ _ (files.rests w) free a i = absurd i
comes_from cluster _ _ _ (files.goes_on w x xs one rest b more) free a i =
    let t : IsTraced x = act_traced _ w.sent x.at b.replica b.file x.act b.next b.left free b.brings b.becomes in
    let left : IsFree one.world.sent = subst (λ (h : Happened Lying). IsFree h.world.sent) (sym b.is) (free_more w.sent (puts_out x.at x.act) free t.sends) in
    elim (in_either (puts_out x.at x.act) (all_said xs) (output.Reply a) i) [
      | inl here ↦ from_first x xs a (t.replies a here)
      | inr later ↦ from_later x xs a (comes_from cluster one.world xs rest more left a later)
    ]
