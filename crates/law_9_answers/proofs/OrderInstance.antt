-- What is asked of the network is checked moment by moment; and so of two clients, one of whom is never answered.
use Rattle.std.proofs.Common.{ℕ, ◌≡◌, ◌∙◌, inl, refl, sym, ap, subst, List, [], ◌∷◌, ◌++◌, map, Some, None}
use Rattle.std.specs.Prelude.{⊤, Contains}
use Rattle.std.proofs.lemmas.List.{append-nil, append_assoc}
use Rattle.vr_client.specs.declared.answer.Answer.TheVariants as answer
use Rattle.vr_msg.specs.declared.output.Output.{Output}
use Rattle.vr_msg.specs.declared.output.Output.TheVariants as output
use Rattle.vr_msg.specs.declared.reply.Answered.{Answered}
use Rattle.vr_msg.specs.declared.reply.ReplyFields.{ReplyFields}
use Rattle.vr_msg.specs.declared.reply.ReplyKind.TheVariants as reply
use Rattle.vr_msg.specs.declared.request.RequestFields.{RequestFields}
use Rattle.vr_world.specs.Group.{Asked, Message}
use Rattle.law_1_machine.specs.Basics.{In}
use Rattle.law_3_outputs.proofs.Sets.{in_left, in_right}
use Rattle.law_2_chains.proofs.StoredLists.{contains_in, in_contains}
use Rattle.law_7_members.specs.Files.{ActBy, Breaks, Handles, act_by, puts_out}
use Rattle.law_7_members.specs.Whole.{all_said}
use Rattle.law_9_answers.specs.Heard.{Heard}
use Rattle.law_9_answers.specs.History.{Asks, Befalls, HasAsked, Hears, IsCarried, IsPutOut, Moment, acts_in}
use Rattle.law_9_answers.specs.OrderLaws.{AskNothing, SomeHistoryMay}
use Rattle.law_9_answers.specs.Order.{request_in}
use Rattle.law_9_answers.proofs.Interleaving.{said_both}
use Rattle.law_9_answers.proofs.Timing.{acts_both}

-- ---- moment by moment

abbrev WasAsked : List Moment → ActBy → Type 0
WasAsked before x = (q : RequestFields) → request_in x.act ≡ Some q → HasAsked before q

abbrev WasPut : List Moment → Heard → Type 0
WasPut before t = (a : Answered) → t.answer ≡ answer.Outcome a → IsPutOut before t.request a

abbrev Carries : List Moment → List Moment → Type 0
Carries before [] = ⊤
Carries before (Asks by q ∷ h) = Carries (before ++ Asks by q ∷ []) h
Carries before (Hears by t ∷ h) = WasPut before t × Carries (before ++ Hears by t ∷ []) h
Carries before (Befalls x ∷ h) = WasAsked before x × Carries (before ++ Befalls x ∷ []) h

head_is : (x y : Moment) (xs ys : List Moment) → x ∷ xs ≡ y ∷ ys → x ≡ y
head_is x y xs ys e = cc

tail_is : (x y : Moment) (xs ys : List Moment) → x ∷ xs ≡ y ∷ ys → xs ≡ ys
tail_is x y xs ys e = cc

none_is : (before after : List Moment) (m : Moment) → [] ≡ before ++ (m ∷ after) → ⊥
none_is [] after m e = cc
none_is (x ∷ before) after m e = cc

-- the rest of it, after its first moment
rest_of : (m : Moment) (before h : List Moment) → Carries before (m ∷ h) → Carries (before ++ m ∷ []) h
rest_of (Asks by q) before h c = c
rest_of (Hears by t) before h c = c.1
rest_of (Befalls x) before h c = c.1

asked_at : (before h : List Moment) → Carries before h → (front after : List Moment) (x : ActBy) → h ≡ front ++ (Befalls x ∷ after) → WasAsked (before ++ front) x
asked_at before [] c front after x is = absurd (none_is front after (Befalls x) is)
asked_at before (m ∷ h) c [] after x is =
    let same : m ≡ Befalls x = head_is m (Befalls x) h after is in
    let first : Carries before (Befalls x ∷ h) = subst (λ (y : Moment). Carries before (y ∷ h)) same c in
    λ q asks. let a = first.0 q asks in record { by = a.by; moment = in_contains (Asks a.by q) (before ++ []) (in_left before [] (Asks a.by q) (contains_in (Asks a.by q) before a.moment)) }
asked_at before (m ∷ h) c (y ∷ front) after x is =
    let same : m ≡ y = head_is m y h (front ++ (Befalls x ∷ after)) is in
    let more : (before ++ m ∷ []) ++ front ≡ before ++ (y ∷ front) = append_assoc before (m ∷ []) front ∙ ap (λ (z : Moment). before ++ (z ∷ front)) same in
    subst (λ (b : List Moment). WasAsked b x) more (asked_at (before ++ m ∷ []) h (rest_of m before h c) front after x (tail_is m y h (front ++ (Befalls x ∷ after)) is))

put_more : (before : List Moment) (q : RequestFields) (a : Answered) → IsPutOut before q a → IsPutOut (before ++ []) q a
put_more before q a p = record { given = p.given; moment = subst (λ (b : List Moment). Contains (all_said (acts_in b)) (output.Reply p.given)) (sym (append-nil before)) p.moment; client = p.client; number = p.number; outcome = p.outcome }

heard_at : (before h : List Moment) → Carries before h → (front after : List Moment) (by : ℕ) (t : Heard) → h ≡ front ++ (Hears by t ∷ after) → WasPut (before ++ front) t
heard_at before [] c front after by t is = absurd (none_is front after (Hears by t) is)
heard_at before (m ∷ h) c [] after by t is =
    let same : m ≡ Hears by t = head_is m (Hears by t) h after is in
    let first : Carries before (Hears by t ∷ h) = subst (λ (y : Moment). Carries before (y ∷ h)) same c in
    λ a outcome. put_more before t.request a (first.0 a outcome)
heard_at before (m ∷ h) c (y ∷ front) after by t is =
    let same : m ≡ y = head_is m y h (front ++ (Hears by t ∷ after)) is in
    let more : (before ++ m ∷ []) ++ front ≡ before ++ (y ∷ front) = append_assoc before (m ∷ []) front ∙ ap (λ (z : Moment). before ++ (z ∷ front)) same in
    subst (λ (b : List Moment). WasPut b t) more (heard_at (before ++ m ∷ []) h (rest_of m before h c) front after by t (tail_is m y h (front ++ (Hears by t ∷ after)) is))

pub carried_by : (h : List Moment) → Carries [] h → IsCarried h
carried_by h c = record {
  asked = λ before after x q is asks. asked_at [] h c before after x is q asks;
  heard = λ before after by t a is outcome. heard_at [] h c before after by t is a outcome;
}

-- ---- acts that ask nothing

quiet_acts : (before : List Moment) (xs : List ActBy) (h : List Moment) → AskNothing xs → Carries (before ++ map Befalls xs) h → Carries before (map Befalls xs ++ h)
quiet_acts before [] h none c = subst (λ (b : List Moment). Carries b h) (append-nil before) c
quiet_acts before (x ∷ xs) h none c = (
  λ q asks. absurd (let no : None ≡ Some q = sym none.0 ∙ asks in cc),
  quiet_acts (before ++ Befalls x ∷ []) xs h none.1 (subst (λ (b : List Moment). Carries b h) (sym (append_assoc before (Befalls x ∷ []) (map Befalls xs))) c),
)

asked_in : (before after : List Moment) (by : ℕ) (q : RequestFields) → HasAsked (before ++ (Asks by q ∷ after)) q
asked_in before after by q = record { by = by; moment = in_contains (Asks by q) (before ++ (Asks by q ∷ after)) (in_right before (Asks by q ∷ after) (Asks by q) (inl refl)) }

some_one : (q p : RequestFields) → Some q ≡ Some p → q ≡ p
some_one q p e = cc

put_last : (before : List Moment) (x : ActBy) (r : ReplyFields) → Contains (puts_out x.at x.act) (output.Reply r) → Contains (all_said (acts_in (before ++ Befalls x ∷ []))) (output.Reply r)
put_last before x r c =
    let said : List Output = all_said (acts_in before ++ x ∷ []) in
    let last : In (output.Reply r) (all_said (x ∷ [])) = in_left (puts_out x.at x.act) [] (output.Reply r) (contains_in (output.Reply r) (puts_out x.at x.act) c) in
    let there : In (output.Reply r) said = subst (λ (os : List Output). In (output.Reply r) os) (sym (said_both (acts_in before) (x ∷ []))) (in_right (all_said (acts_in before)) (all_said (x ∷ [])) (output.Reply r) last) in
    in_contains (output.Reply r) (all_said (acts_in (before ++ Befalls x ∷ []))) (subst (λ (xs : List ActBy). In (output.Reply r) (all_said xs)) (sym (acts_both before (Befalls x ∷ []))) there)

pub some_history : SomeHistoryMay
some_history q p first second third number made code event handled answered during later r a received none_during none_later put client request kind =
    let ask : Moment = Asks 0 q in
    let broken : Moment = Befalls (act_by first (Breaks (Asked q) event made code)) in
    let ask_too : Moment = Asks 1 p in
    let second_handles : Moment = Befalls (act_by second (Handles (Asked p) handled)) in
    let replies : ActBy = act_by third (Handles (Message number) answered) in
    let t : Heard = record { request = p; answer = answer.Outcome a; received = received } in
    let b1 : List Moment = ask ∷ broken ∷ [] in
    let b2 : List Moment = b1 ++ map Befalls during in
    let b3 : List Moment = (b2 ++ ask_too ∷ []) ++ second_handles ∷ [] in
    let b4 : List Moment = b3 ++ map Befalls later in
    let end : Carries b4 (Befalls replies ∷ Hears 1 t ∷ []) = (
      λ p2 asks. absurd (let no : None ≡ Some p2 = asks in cc),
      (λ b outcome. record { given = r; moment = put_last b4 replies r put; client = client; number = request; outcome = kind ∙ ap reply.Outcome (let same : a ≡ b = (let e : answer.Outcome a ≡ answer.Outcome b = outcome in cc) in same) }, tt),
    ) in
    let middle : Carries b2 (ask_too ∷ second_handles ∷ map Befalls later ++ (Befalls replies ∷ Hears 1 t ∷ [])) = (
      λ p2 asks. subst (λ (z : RequestFields). HasAsked (b2 ++ ask_too ∷ []) z) (some_one p p2 asks) (asked_in b2 [] 1 p),
      quiet_acts b3 later (Befalls replies ∷ Hears 1 t ∷ []) none_later end,
    ) in
    carried_by (ask ∷ broken ∷ map Befalls during ++ (ask_too ∷ second_handles ∷ map Befalls later ++ (Befalls replies ∷ Hears 1 t ∷ []))) (
      λ q2 asks. subst (λ (z : RequestFields). HasAsked (ask ∷ []) z) (some_one q q2 asks) (asked_in [] [] 0 q),
      quiet_acts b1 during (ask_too ∷ second_handles ∷ map Befalls later ++ (Befalls replies ∷ Hears 1 t ∷ [])) none_during middle,
    )
