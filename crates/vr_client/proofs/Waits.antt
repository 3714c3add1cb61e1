-- An ask, one turn after another.
use Rattle.std.proofs.Common.{◌≡◌, ◌∙◌, ℕ, ◌+◌, ◌<◌, List, [], ◌∷◌, ◌++◌, Option, Some, None, Ok, Err, length, refl, ap, sym, subst, arith}
use Rattle.std.proofs.lemmas.Grind.{common_steps}
use Rattle.vr_edge.specs.Datagrams.{Arrival}
use Rattle.vr_edge.specs.Sending.{datagram_at}
use Rattle.vr_edge.specs.Told.{Grows}
use Rattle.vr_edge.specs.declared.datagram.Datagram.{Datagram}
use Rattle.vr_mail.proofs.Brought.{brought_more}
use Rattle.vr_mail.proofs.Growing.{append_nil, assoc, grows_nil, grows_trans}
use Rattle.vr_mail.proofs.Sent.{sends_trans}
use Rattle.vr_mail.specs.Letters.{AreBrought}
use Rattle.vr_mail.specs.Sends.{Sends}
use Rattle.vr_mail.specs.declared.receiving.Letter.{Letter}
use Rattle.vr_client.specs.Asking.{AreSilent, Ask, EndsBy, Fails, FailsAt, IsAsked, IsSilent, Turned, port_after, port_at, ports_in, ports_of, requests}
use Rattle.vr_client.specs.Heeding.{heed}
use Rattle.vr_client.specs.declared.answer.Answer.{Answer}
use Rattle.vr_client.specs.declared.answer.AskFault.{AskFault}
use Rattle.vr_client.specs.declared.answer.AskFault.TheVariants as fault

pub requests_append : (bytes xs ys : List ℕ) → requests bytes (xs ++ ys) ≡ requests bytes xs ++ requests bytes ys
requests_append bytes [] ys = refl
requests_append bytes (x ∷ xs) ys = ap (λ l. datagram_at x bytes ∷ l) (requests_append bytes xs ys)

pub requests_none : (bytes : List ℕ) → requests bytes [] ≡ []
requests_none bytes = refl

pub requests_one : (bytes : List ℕ) (port : ℕ) → requests bytes (port ∷ []) ≡ datagram_at port bytes ∷ []
requests_one bytes port = refl

port_more : (a : Ask) (done port k : ℕ) (ls : List (Option Letter)) (l : Option Letter) → k ≡ done + length ls
    → port_at a done port (ls ++ l ∷ []) ≡ port_after a k (port_at a done port ls) l
port_more a done port k [] l at = let same : k ≡ done = omega (arith, at) in rw same refl
port_more a done port k (m ∷ ls) l at =
    let same : k ≡ (done + 1) + length ls = omega (arith, at) in port_more a (done + 1) (port_after a done port m) k ls l same

ports_more : (a : Ask) (done port k : ℕ) (ls : List (Option Letter)) (l : Option Letter) → k ≡ done + length ls
    → ports_of a done port (ls ++ l ∷ []) ≡ ports_of a done port ls ++ ports_in a k (port_at a done port ls) l
ports_more a done port k [] l at = let same : k ≡ done = omega (arith, at) in rw same (append_nil (ports_in a done port l))
ports_more a done port k (m ∷ ls) l at =
    let same : k ≡ (done + 1) + length ls = omega (arith, at) in
    ap (λ x. ports_in a done port m ++ x) (ports_more a (done + 1) (port_after a done port m) k ls l same)
    ∙ sym (assoc (ports_in a done port m) (ports_of a (done + 1) (port_after a done port m) ls) (ports_in a k (port_at a (done + 1) (port_after a done port m) ls) l))

requests_more : (a : Ask) (count port : ℕ) (ls : List (Option Letter)) (l : Option Letter) → count ≡ 0 + length ls
    → requests a.bytes (port ∷ ports_of a 0 port (ls ++ l ∷ []))
    ≡ requests a.bytes (port ∷ ports_of a 0 port ls) ++ requests a.bytes (ports_in a count (port_at a 0 port ls) l)
requests_more a count port ls l k =
    ap (λ (ps : List ℕ). requests a.bytes (port ∷ ps)) (ports_more a 0 port count ls l k)
    ∙ requests_append a.bytes (port ∷ ports_of a 0 port ls) (ports_in a count (port_at a 0 port ls) l)

silent_more : (a : Ask) (ls : List (Option Letter)) (l : Option Letter) → AreSilent a ls → IsSilent (heed a.n a.name l) → AreSilent a (ls ++ l ∷ [])
silent_more a [] l s new = (new, tt)
silent_more a (m ∷ ls) l s new = (s.0, silent_more a ls l s.1 new)

length_more : {X : Type 0} (xs : List X) (x : X) → length (xs ++ x ∷ []) ≡ length xs + 1
length_more xs x = grind (arith, common_steps)

-- so many turns passed without an answer
pub record Waiting (a : Ask) (count port port' : ℕ) (u u' : Option (List (Option Datagram))) (got got' : Option (List Arrival)) : Type 0 where
  pub arrivals : List Arrival
  pub letters : List (Option Letter)
  pub counted : length letters ≡ count
  pub brought : AreBrought a.version a.cluster arrivals letters
  pub silent : AreSilent a letters
  pub received : Grows got got' arrivals
  pub at : port' ≡ port_at a 0 port letters
  pub asked : Sends (requests a.bytes (port ∷ ports_of a 0 port letters)) u u'

pub waiting_begins : (a : Ask) (port port' : ℕ) (u u' : Option (List (Option Datagram))) (got got' : Option (List Arrival)) → port' ≡ port
    → got' ≡ got → Sends (datagram_at port a.bytes ∷ []) u u' → Waiting a 0 port port' u u' got got'
waiting_begins a port port' u u' got got' there same sent = record {
  arrivals = [];
  letters = [];
  counted = refl;
  brought = tt;
  silent = tt;
  received = rw same (grows_nil got);
  at = there;
  asked = sent;
}

-- a turn without an answer
pub waiting_more : (a : Ask) (count port mid port' : ℕ) (u u' u'' : Option (List (Option Datagram))) (got got' got'' : Option (List Arrival))
    → Waiting a count port mid u u' got got' → Turned a count mid port' u' u'' got' got'' None → Waiting a (count + 1) port port' u u'' got got''
waiting_more a count port mid port' u u' u'' got got' got'' w t =
    let k : count ≡ 0 + length w.letters = omega (arith, w.counted) in
    record {
      arrivals = w.arrivals ++ t.0 ∷ [];
      letters = w.letters ++ t.1 ∷ [];
      counted = length_more w.letters t.1 ∙ ap (λ n. n + 1) w.counted;
      brought = brought_more a.version a.cluster w.arrivals w.letters t.0 t.1 w.brought t.3;
      silent = silent_more a w.letters t.1 w.silent t.4.0;
      received = grows_trans got got' got'' w.arrivals (t.0 ∷ []) w.received t.2;
      at = t.4.1 ∙ (ap (λ p. port_after a count p t.1) w.at ∙ sym (port_more a 0 port count w.letters t.1 k));
      asked = subst (λ l. Sends l u u'') (sym (requests_more a count port w.letters t.1 k))
          (sends_trans u u' u'' (requests a.bytes (port ∷ ports_of a 0 port w.letters)) (requests a.bytes (ports_in a count (port_at a 0 port w.letters) t.1))
          w.asked (subst (λ p. Sends (requests a.bytes (ports_in a count p t.1)) u' u'') w.at t.4.2));
    }

-- the answer came
pub waited_answer : (a : Ask) (count port mid port' : ℕ) (u u' u'' : Option (List (Option Datagram))) (got got' got'' : Option (List Arrival))
    (answer : Answer) → Waiting a count port mid u u' got got' → Turned a count mid port' u' u'' got' got'' (Some answer) → count < a.turns
    → IsAsked a port port' u u'' got got'' (Ok answer)
waited_answer a count port mid port' u u' u'' got got' got'' answer w t lt = record {
  arrivals = w.arrivals;
  letters = w.letters;
  last = t.0 ∷ [];
  brought = w.brought;
  silent = w.silent;
  ends = (t.0, t.1, refl, t.3, t.4.0, omega (arith, w.counted, lt));
  received = grows_trans got got' got'' w.arrivals (t.0 ∷ []) w.received t.2;
  at = t.4.1 ∙ w.at;
  asked = subst (λ l. Sends l u u'') (append_nil (requests a.bytes (port ∷ ports_of a 0 port w.letters)))
      (sends_trans u u' u'' (requests a.bytes (port ∷ ports_of a 0 port w.letters)) [] w.asked t.4.2);
}

ends_fault : (a : Ask) (ls : List (Option Letter)) (arrival : Arrival) (f : AskFault) → FailsAt a.version a.cluster arrival f → length ls < a.turns
    → EndsBy a ls (arrival ∷ []) (Err f)
ends_fault a ls arrival fault.NoAnswer fails lt = absurd fails
ends_fault a ls arrival fault.Link fails lt = (ap (λ x. x ∷ []) fails, lt)
ends_fault a ls arrival fault.NoMemory fails lt = (arrival, refl, fails, lt)

-- a receive failed
pub waited_fault : (a : Ask) (count port mid port' : ℕ) (u u' u'' : Option (List (Option Datagram))) (got got' got'' : Option (List Arrival))
    (f : AskFault) → Waiting a count port mid u u' got got' → Fails a.version a.cluster got' got'' f → port' ≡ mid → u'' ≡ u' → count < a.turns
    → IsAsked a port port' u u'' got got'' (Err f)
waited_fault a count port mid port' u u' u'' got got' got'' f w t same unsent lt = record {
  arrivals = w.arrivals;
  letters = w.letters;
  last = t.0 ∷ [];
  brought = w.brought;
  silent = w.silent;
  ends = ends_fault a w.letters t.0 f t.2 (omega (arith, w.counted, lt));
  received = grows_trans got got' got'' w.arrivals (t.0 ∷ []) w.received t.1;
  at = same ∙ w.at;
  asked = rw unsent w.asked;
}

-- all turns passed
pub waited_all : (a : Ask) (count port mid : ℕ) (u u' : Option (List (Option Datagram))) (got got' : Option (List Arrival))
    → Waiting a count port mid u u' got got' → count ≡ a.turns → IsAsked a port mid u u' got got' (Err fault.NoAnswer)
waited_all a count port mid u u' got got' w all = record {
  arrivals = w.arrivals;
  letters = w.letters;
  last = [];
  brought = w.brought;
  silent = w.silent;
  ends = (refl, w.counted ∙ all);
  received = rw (append_nil w.arrivals) w.received;
  at = w.at;
  asked = w.asked;
}
