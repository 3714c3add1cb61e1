-- Runs of the programs that ask, to their end or cut, among what befalls members: what they hear is of the log, and in its order.
use Rattle.std.proofs.Common.{ℕ, ◌^◌, ◌≤◌, ◌<◌, ◌≡◌, ◌∙◌, inl, inr, refl, sym, ap, subst, Bool, true, false, cond, eqb, List, [], ◌∷◌, ◌++◌, length, map, Option, Some, None}
use Rattle.std.specs.Prelude.{Contains, slice_get}
use Rattle.std.specs.List.{AllByRecursion}
use Rattle.std.specs.Option.{option_map_or}
use Rattle.std.proofs.lemmas.Bool.{cases_eq, eq-eqb, ne_eqb}
use Rattle.std.proofs.lemmas.List.{append_assoc, length-map}
use Rattle.vr_base.specs.Versions.{session_limit}
use Rattle.vr_base.specs.declared.kind.Kind.{Kind}
use Rattle.vr_client.specs.declared.answer.Answer.TheVariants as answer
use Rattle.vr_header.specs.Names.{header_name}
use Rattle.vr_msg.specs.declared.output.Output.{Output}
use Rattle.vr_msg.specs.declared.output.Output.TheVariants as output
use Rattle.vr_msg.specs.declared.reply.Answered.{Answered}
use Rattle.vr_msg.specs.declared.request.RequestFields.{RequestFields}
use Rattle.vr_world.specs.Lying.{Lying}
use Rattle.vr_rules.specs.Opening.{AreKinds}
use Rattle.vr_world.specs.World.{Host}
use Rattle.law_1_machine.specs.Basics.{In}
use Rattle.law_3_outputs.proofs.Sets.{get_in, in_left, in_right}
use Rattle.law_2_chains.proofs.StoredLists.{contains_in, in_contains}
use Rattle.law_7_members.specs.Files.{ActBy, puts_out}
use Rattle.law_7_members.specs.Whole.{KeepOneLog, all_said, world_of}
use Rattle.law_9_answers.specs.Heard as heard
use Rattle.law_9_answers.specs.Heard.{Heard, IsOfLog}
use Rattle.law_9_answers.specs.Laws.{IsNumbered}
use Rattle.law_9_answers.proofs.Answering.{is_of_log, nobody, reply_met}
use Rattle.law_9_answers.proofs.Asking.{IsAsk, ask_client, asks_trial}
use Rattle.law_9_answers.proofs.Coming.{ComesFrom, comes_from}
use Rattle.law_9_answers.proofs.Hearing.{IsGiven}
use Rattle.law_9_asked.specs.Asked.{header_of}
use Rattle.law_9_answers.specs.History.{AskFew, Asks, Befalls, HasAsked, HaveOwnNumbers, Hears, IsAlone, IsCarried, IsPutOut, Moment, acts_in}
use Rattle.law_9_answers.specs.OrderLaws.{FewProgramsAreLinearizable, ProgramsAreLinearizable}
use Rattle.law_9_answers.specs.Programs.{AreFew, AreInterleaved, ClientRuns, HaveNames, HearInOrder, IsAloneAmong, IsBrought, Program, TrialRuns, asked_in, client_of, hears_of, leaves_of, moments, moments_at, own}
use Rattle.law_9_answers.proofs.Acting.{runs_keep_order}
use Rattle.law_9_answers.proofs.Counting.{counted_client, counted_one, counted_version, program_counted, requests}
use Rattle.law_9_answers.specs.Order.{AsksComeFirst}
use Rattle.law_9_answers.proofs.Few.{few_keep, front_linearizes}
use Rattle.law_9_answers.proofs.Timing.{acts_both, are_ordered, linearizes, stands}

-- ---- the moments of one client

asks_own : (i : ℕ) (h : List Moment) (q : RequestFields) → In (Asks i q) h → In (Asks i q) (own i h)
asks_own i [] q n = absurd n
asks_own i (Befalls x ∷ h) q (inl e) = absurd cc
asks_own i (Befalls x ∷ h) q (inr n) = asks_own i h q n
asks_own i (Asks by p ∷ h) q n =
    elim (cases_eq by i) [
      | inl same ↦ subst (λ (b : Bool). In (Asks i q) (cond b (Asks by p ∷ own i h) (own i h))) (sym (eq-eqb by i same)) (elim n [ inl e ↦ inl e | inr m ↦ inr (asks_own i h q m) ])
      | inr other ↦ subst (λ (b : Bool). In (Asks i q) (cond b (Asks by p ∷ own i h) (own i h))) (sym (ne_eqb by i other)) (elim n [ inl e ↦ absurd (other (let same : i ≡ by = cc in sym same)) | inr m ↦ asks_own i h q m ])
    ]
asks_own i (Hears by t ∷ h) q n =
    let later : In (Asks i q) h = elim n [ inl e ↦ absurd cc | inr m ↦ m ] in
    let by_test : (b : Bool) → In (Asks i q) (cond b (Hears by t ∷ own i h) (own i h)) = elim [ true ↦ inr (asks_own i h q later) | false ↦ asks_own i h q later ] in
    by_test (eqb by i)

hears_own : (i : ℕ) (h : List Moment) (t : Heard) → In (Hears i t) h → In (Hears i t) (own i h)
hears_own i [] t n = absurd n
hears_own i (Befalls x ∷ h) t (inl e) = absurd cc
hears_own i (Befalls x ∷ h) t (inr n) = hears_own i h t n
hears_own i (Hears by u ∷ h) t n =
    elim (cases_eq by i) [
      | inl same ↦ subst (λ (b : Bool). In (Hears i t) (cond b (Hears by u ∷ own i h) (own i h))) (sym (eq-eqb by i same)) (elim n [ inl e ↦ inl e | inr m ↦ inr (hears_own i h t m) ])
      | inr other ↦ subst (λ (b : Bool). In (Hears i t) (cond b (Hears by u ∷ own i h) (own i h))) (sym (ne_eqb by i other)) (elim n [ inl e ↦ absurd (other (let same : i ≡ by = cc in sym same)) | inr m ↦ hears_own i h t m ])
    ]
hears_own i (Asks by p ∷ h) t n =
    let later : In (Hears i t) h = elim n [ inl e ↦ absurd cc | inr m ↦ m ] in
    let by_test : (b : Bool) → In (Hears i t) (cond b (Asks by p ∷ own i h) (own i h)) = elim [ true ↦ inr (hears_own i h t later) | false ↦ hears_own i h t later ] in
    by_test (eqb by i)

-- and each of them is of the history
own_asks : (i : ℕ) (h : List Moment) (q : RequestFields) → In (Asks i q) (own i h) → In q (asked_in h)
own_asks i [] q n = absurd n
own_asks i (Befalls x ∷ h) q n = own_asks i h q n
own_asks i (Hears by t ∷ h) q n =
    let by_test : (b : Bool) → In (Asks i q) (cond b (Hears by t ∷ own i h) (own i h)) → In q (asked_in h) = elim [ true ↦ λ m. elim m [ inl e ↦ absurd cc | inr k ↦ own_asks i h q k ] | false ↦ λ m. own_asks i h q m ] in
    by_test (eqb by i) n
own_asks i (Asks by p ∷ h) q n =
    let by_test : (b : Bool) → In (Asks i q) (cond b (Asks by p ∷ own i h) (own i h)) → In q (p ∷ asked_in h) = elim [
      | true ↦ λ m. elim m [ inl e ↦ inl (let same : q ≡ p = cc in same) | inr k ↦ inr (own_asks i h q k) ]
      | false ↦ λ m. inr (own_asks i h q m)
    ] in
    by_test (eqb by i) n

-- ---- of a program

left_asks : (i : ℕ) (qs : List RequestFields) (q : RequestFields) → In (Asks i q) (map (Asks i) qs) → In q qs
left_asks i [] q n = n
left_asks i (p ∷ qs) q (inl e) = inl (let same : q ≡ p = cc in same)
left_asks i (p ∷ qs) q (inr n) = inr (left_asks i qs q n)

left_hears : (i : ℕ) (qs : List RequestFields) (t : Heard) → In (Hears i t) (map (Asks i) qs) → ⊥
left_hears i [] t n = n
left_hears i (p ∷ qs) t (inl e) = cc
left_hears i (p ∷ qs) t (inr n) = left_hears i qs t n

moment_asks : (i : ℕ) (ts : List Heard) (left : List RequestFields) (q : RequestFields) → In (Asks i q) (moments i ts left) → In q (requests ts ++ left)
moment_asks i [] left q n = left_asks i left q n
moment_asks i (t ∷ ts) left q (inl e) = inl (let same : q ≡ t.request = cc in same)
moment_asks i (t ∷ ts) left q (inr (inl e)) = absurd cc
moment_asks i (t ∷ ts) left q (inr (inr n)) = inr (moment_asks i ts left q n)

moment_hears : (i : ℕ) (ts : List Heard) (left : List RequestFields) (t : Heard) → In (Hears i t) (moments i ts left) → In t ts
moment_hears i [] left t n = absurd (left_hears i left t n)
moment_hears i (u ∷ ts) left t (inl e) = absurd cc
moment_hears i (u ∷ ts) left t (inr (inl e)) = inl (let same : t ≡ u = cc in same)
moment_hears i (u ∷ ts) left t (inr (inr n)) = inr (moment_hears i ts left t n)

head_is : (x y : Moment) (xs ys : List Moment) → x ∷ xs ≡ y ∷ ys → x ≡ y
head_is x y xs ys e = cc

tail_is : (x y : Moment) (xs ys : List Moment) → x ∷ xs ≡ y ∷ ys → xs ≡ ys
tail_is x y xs ys e = cc

-- it asked what it heard an answer to, in whatever front of its moments it heard that
front_asks : (i : ℕ) (ms rest : List Moment) (ts : List Heard) (left : List RequestFields) → ms ++ rest ≡ moments i ts left → (t : Heard) → In (Hears i t) ms → In (Asks i t.request) ms
front_asks i [] rest ts left is t n = absurd n
front_asks i (m ∷ ms) rest [] left is t n = absurd (left_hears i left t (subst (λ (g : List Moment). In (Hears i t) g) is (in_left (m ∷ ms) rest (Hears i t) n)))
front_asks i (m ∷ []) rest (u ∷ ts) left is t n =
    let first : m ≡ Asks i u.request = head_is m (Asks i u.request) rest (Hears i u ∷ moments i ts left) is in
    elim n [ inl e ↦ absurd (let no : Hears i t ≡ Asks i u.request = e ∙ first in cc) | inr k ↦ absurd k ]
front_asks i (m ∷ g ∷ gs) rest (u ∷ ts) left is t n =
    let first : m ≡ Asks i u.request = head_is m (Asks i u.request) (g ∷ gs ++ rest) (Hears i u ∷ moments i ts left) is in
    let later : g ∷ gs ++ rest ≡ Hears i u ∷ moments i ts left = tail_is m (Asks i u.request) (g ∷ gs ++ rest) (Hears i u ∷ moments i ts left) is in
    elim n [
      | inl e ↦ absurd (let no : Hears i t ≡ Asks i u.request = e ∙ first in cc)
      | inr j ↦ elim j [
        | inl e ↦
            let both : Hears i t ≡ Hears i u = e ∙ head_is g (Hears i u) (gs ++ rest) (moments i ts left) later in
            let same : t ≡ u = cc in
            inl (ap (λ (s : Heard). Asks i s.request) same ∙ sym first)
        | inr k ↦ inr (inr (front_asks i gs rest ts left (tail_is g (Hears i u) (gs ++ rest) (moments i ts left) later) t k))
      ]
    ]

heard_request : (ts : List Heard) (left : List RequestFields) (t : Heard) → In t ts → In t.request (requests ts ++ left)
heard_request [] left t n = absurd n
heard_request (u ∷ ts) left t (inl e) = inl (ap (λ (s : Heard). s.request) e)
heard_request (u ∷ ts) left t (inr n) = inr (heard_request ts left t n)

program_asks : (p : Program) → IsNumbered (client_of p) → AllByRecursion (IsAsk (client_of p)) (hears_of p)
program_asks (ClientRuns c peers o o' b m z h) is = ask_client c is peers o o' b m z h
program_asks (TrialRuns t o o' b m z h) is = asks_trial t is o o' b m z h

all_in : {X : Type 0} (P : X → Type 0) (xs : List X) (x : X) → AllByRecursion P xs → In x xs → P x
all_in P [] x all n = absurd n
all_in P (y ∷ xs) x all (inl e) = subst P (sym e) all.0
all_in P (y ∷ xs) x all (inr n) = all_in P xs x all.1 n

record IsProgram (ps : List Program) (i : ℕ) (m : Moment) : Type 0 where
  program : Program
  at : slice_get ps i ≡ Some program
  among : In m (moments i (hears_of program) (leaves_of program))

of_program : (ps : List Program) (i : ℕ) (m : Moment) → In m (moments_at ps i) → IsProgram ps i m
of_program ps i m n =
    let by : (o : Option Program) → slice_get ps i ≡ o → In m (option_map_or (λ p. moments i (hears_of p) (leaves_of p)) o []) → IsProgram ps i m = elim [
      | None ↦ λ is k. absurd k
      | Some p ↦ λ is k. record { program = p; at = is; among = k }
    ] in
    by (slice_get ps i) refl n

-- ---- their client numbers

abbrev number_of : Program → ℕ
number_of p = (client_of p).id

in_map : (ps : List Program) (p : Program) → In p ps → In (number_of p) (map number_of ps)
in_map [] p n = n
in_map (q ∷ ps) p (inl e) = inl (ap number_of e)
in_map (q ∷ ps) p (inr n) = inr (in_map ps p n)

-- ---- a history

pub said_both : (xs ys : List ActBy) → all_said (xs ++ ys) ≡ all_said xs ++ all_said ys
said_both [] ys = refl
said_both (x ∷ xs) ys = ap (λ (os : List Output). puts_out x.at x.act ++ os) (said_both xs ys) ∙ sym (append_assoc (puts_out x.at x.act) (all_said xs) (all_said ys))

module _ (ps : List Program) (h : List Moment) (runs : AreInterleaved ps h) where
  -- what a program heard, of one of its asks
  record IsTold (i : ℕ) (t : Heard) : Type 0 where
    program : Program
    at : slice_get ps i ≡ Some program
    among : In t (hears_of program)
    ask : IsAsk (client_of program) t
    asked : In t.request (asked_in h)

  -- what is of a client is of its whole program
  of_front : (i : ℕ) (m : Moment) → In m (own i h) → In m (moments_at ps i)
  of_front i m n = let f = runs.each i in subst (λ (g : List Moment). In m g) f.is (in_left (own i h) f.rest m n)

  told : (i : ℕ) (t : Heard) → Contains h (Hears i t) → IsTold i t
  told i t c =
      let mine : In (Hears i t) (own i h) = hears_own i h t (contains_in (Hears i t) h c) in
      let f = runs.each i in
      let p = of_program ps i (Hears i t) (of_front i (Hears i t) mine) in
      let among = moment_hears i (hears_of p.program) (leaves_of p.program) t p.among in
      let there : moments_at ps i ≡ moments i (hears_of p.program) (leaves_of p.program) = ap (λ o. option_map_or (λ p. moments i (hears_of p) (leaves_of p)) o []) p.at in
      record {
        program = p.program;
        at = p.at;
        among = among;
        ask = all_in (IsAsk (client_of p.program)) (hears_of p.program) t (program_asks p.program (runs.numbered i p.program p.at)) among;
        asked = own_asks i h t.request (front_asks i (own i h) f.rest (hears_of p.program) (leaves_of p.program) (f.is ∙ there) t mine);
      }

  -- one whose client number no other has alone asks under it
  alone : (i : ℕ) → IsAloneAmong ps i → (t : Heard) → Contains h (Hears i t) → IsAlone h t.request
  alone i single t c p asked client number =
      let x = told i t c in
      let j : ℕ = asked.by in
      let y = of_program ps j (Asks j p) (of_front j (Asks j p) (asks_own j h p (contains_in (Asks j p) h asked.moment))) in
      let q = y.program in
      let among = moment_asks j (hears_of q) (leaves_of q) p y.among in
      let id : p.client ≡ (client_of q).id = counted_client (client_of q) 0 (requests (hears_of q) ++ leaves_of q) (program_counted q) p among in
      let here : j ≡ i = single j x.program q x.at y.at (sym id ∙ (client ∙ x.ask.id)) in
      let both : Some q ≡ Some x.program = sym y.at ∙ (ap (λ (k : ℕ). slice_get ps k) here ∙ x.at) in
      let same : q ≡ x.program = cc in
      let its : In p (requests (hears_of x.program) ++ leaves_of x.program) = subst (λ (z : Program). In p (requests (hears_of z) ++ leaves_of z)) same among in
      counted_one (client_of x.program) 0 (requests (hears_of x.program) ++ leaves_of x.program) (program_counted x.program) p t.request its (heard_request (hears_of x.program) (leaves_of x.program) t x.among) number

  own_numbers : ((i : ℕ) → IsAloneAmong ps i) → HaveOwnNumbers h
  own_numbers single q a x = subst (λ (p : RequestFields). IsAlone h p) x.request (alone x.by (single x.by) x.heard x.moment)

  -- a request that was asked is of one of these programs' clients, in its version
  record IsOfProgram (q : RequestFields) : Type 0 where
    place : ℕ
    program : Program
    at : slice_get ps place ≡ Some program
    client : q.client ≡ (client_of program).id
    version : q.version ≡ (client_of program).version

  asked_by_program : (q : RequestFields) → HasAsked h q → IsOfProgram q
  asked_by_program q asked =
      let i : ℕ = asked.by in
      let x = of_program ps i (Asks i q) (of_front i (Asks i q) (asks_own i h q (contains_in (Asks i q) h asked.moment))) in
      let p = x.program in
      let all : List RequestFields = requests (hears_of p) ++ leaves_of p in
      let among = moment_asks i (hears_of p) (leaves_of p) q x.among in
      record { place = i; program = p; at = x.at; client = counted_client (client_of p) 0 all (program_counted p) q among; version = counted_version (client_of p) 0 all (program_counted p) q among }

  -- few programs ask under few numbers
  pub few_ask : AreFew ps → AskFew h
  few_ask few = record {
    clients = map number_of ps;
    theirs = λ q a. let x = asked_by_program q a in subst (λ (c : ℕ). Contains (map number_of ps) c) (sym x.client) (in_contains (number_of x.program) (map number_of ps) (in_map ps x.program (get_in ps x.place x.program x.at)));
    few = λ q a. let x = asked_by_program q a in
        subst (λ (v : ℕ). length (map number_of ps) ≤ session_limit v) (sym x.version) (subst (λ (k : ℕ). k ≤ session_limit (client_of x.program).version) (sym (length-map ps number_of)) (few x.place x.program x.at));
  }

  -- ---- with members that keep one log

  module _ (kinds : ℕ → Kind) (cluster n : ℕ) (first : ℕ → Host Lying) (are : AreKinds kinds n) (number : cluster < 2 ^ 64) (few : 1 ≤ n) (many : n ≤ 6) (brought : IsBrought h) (names : HaveNames h) (one : KeepOneLog kinds cluster n first (acts_in h)) where
    -- the reply with an answer was put out before it was heard
    given_then : (before after : List Moment) (i : ℕ) (t : Heard) → h ≡ before ++ (Hears i t ∷ after) → (x : IsTold i t) → IsGiven (acts_in before) (header_name (header_of t.request)) t.answer
    given_then before after i t is x =
        let put = brought.received before after i t is in
        x.ask.given (acts_in before) (subst (λ (c : ℕ). AllByRecursion (heard.IsPutOut (acts_in before) (client_of x.program).version c) t.received) x.ask.cluster
        (subst (λ (v : ℕ). AllByRecursion (heard.IsPutOut (acts_in before) v t.request.cluster) t.received) x.ask.version put))

    said_later : (before after : List Moment) (m : Moment) → h ≡ before ++ (m ∷ after) → (o : Output) → In o (all_said (acts_in before)) → In o (all_said (acts_in h))
    said_later before after m is o n =
        let acts : acts_in h ≡ acts_in before ++ acts_in (m ∷ after) = ap acts_in is ∙ acts_both before (m ∷ after) in
        let all : all_said (acts_in h) ≡ all_said (acts_in before) ++ all_said (acts_in (m ∷ after)) = ap all_said acts ∙ said_both (acts_in before) (acts_in (m ∷ after)) in
        subst (λ (os : List Output). In o os) (sym all) (in_left (all_said (acts_in before)) (all_said (acts_in (m ∷ after))) o n)

    contains_at : (before after : List Moment) (m : Moment) → h ≡ before ++ (m ∷ after) → Contains h m
    contains_at before after m is = in_contains m h (subst (λ (g : List Moment). In m g) (sym is) (in_right before (m ∷ after) m (inl refl)))

    put_out : (before after : List Moment) (i : ℕ) (t : Heard) (a : Answered) → h ≡ before ++ (Hears i t ∷ after) → t.answer ≡ answer.Outcome a → IsPutOut before t.request a
    put_out before after i t a is outcome =
        let x = told i t (contains_at before after (Hears i t) is) in
        let g = given_then before after i t is x in
        let r = g.fields in
        let there = said_later before after (Hears i t) is (output.Reply r) g.put_out in
        let from : ComesFrom (acts_in h) r = comes_from cluster (world_of first n) (acts_in h) one.work.left one.work.work (λ s k. absurd (nobody kinds cluster n first (acts_in h) are number few many one (asked_in h) names s k)) r there in
        let met = reply_met kinds cluster n first (acts_in h) are number few many one (asked_in h) names t.request x.ask.asked x.ask.range x.asked r g.name_is from in
        record { given = r; moment = in_contains (output.Reply r) (all_said (acts_in before)) g.put_out; client = met.client; number = met.number; outcome = g.kind ∙ ap heard.kind_of outcome }

    pub carried : IsCarried h
    carried = record { asked = brought.asked; heard = put_out }

    pub of_log : (i : ℕ) (t : Heard) → Contains h (Hears i t) → IsOfLog cluster n (acts_in h) one.log.safe.log one.log.matched.run t
    of_log i t c =
        let x = told i t c in
        let s = stands h (Hears i t) (contains_in (Hears i t) h c) in
        let g = given_then s.before s.after i t s.is x in
        let later : IsGiven (acts_in h) (header_name (header_of t.request)) t.answer = record { fields = g.fields; put_out = said_later s.before s.after (Hears i t) s.is (output.Reply g.fields) g.put_out; name_is = g.name_is; kind = g.kind } in
        is_of_log kinds cluster n first (acts_in h) are number few many one (asked_in h) names t x.ask.asked x.ask.range x.asked later

    pub hear_in_order : AsksComeFirst one.log.safe.log (acts_in h) → HearInOrder kinds cluster n first ps h one
    hear_in_order order =
        let log = one.log.safe.log in
        let ordered = are_ordered log h carried order in
        record {
          ordered = ordered;
          answers = of_log;
          own = λ i single t a there outcome. ordered.own t.request a (record { by = i; heard = t; moment = there; request = refl; outcome = outcome }) (alone i single t there);
          linearizable = λ single. linearizes log h carried order one.log.once (own_numbers single);
        }

pub programs_linearize : ProgramsAreLinearizable
programs_linearize kinds cluster n first ps h are number few many short r never runs brought names =
    let k = runs_keep_order kinds cluster n first (acts_in h) are number few many short r never in
    (k.one, hear_in_order ps h runs kinds cluster n first are number few many brought names k.one k.order)

-- ---- few of them

pub few_programs_linearize : FewProgramsAreLinearizable
few_programs_linearize kinds cluster n first ps h are number some many short r never runs brought names single few =
    let k = runs_keep_order kinds cluster n first (acts_in h) are number some many short r never in
    let hear = hear_in_order ps h runs kinds cluster n first are number some many brought names k.one k.order in
    let kept = few_keep k.one.log.safe.log h hear.ordered (few_ask ps h runs few) in
    (k.one, kept, hear, front_linearizes k.one.log.safe.log h kept.upto kept.all hear.ordered k.one.log.once (own_numbers ps h runs single) kept.single)
