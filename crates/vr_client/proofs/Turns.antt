-- One turn.
use Rattle.std.proofs.Common.{◌≡◌, ◌∙◌, ℕ, List, ◌++◌, Option, Some, None, ap, subst, sym}
use Rattle.vr_edge.specs.Datagrams.{Arrival}
use Rattle.vr_edge.specs.declared.datagram.Datagram.{Datagram}
use Rattle.vr_mail.proofs.Sent.{sends_trans}
use Rattle.vr_mail.specs.Sends.{Sends}
use Rattle.vr_client.specs.Asking.{Ask, Hears, IsSilent, Turned, go_on_port, go_on_to, moved, moved_to, requests}
use Rattle.vr_client.specs.declared.answer.Answer.{Answer}
use Rattle.vr_client.specs.declared.answer.Heed.{Heed}
use Rattle.vr_client.specs.declared.answer.Heed.TheVariants.{Answered}
use Rattle.vr_client.proofs.Waits.{requests_append}

-- what was heard is no answer
pub turned_none : (a : Ask) (done port mid port' : ℕ) (u u' u'' : Option (List (Option Datagram))) (got got' : Option (List Arrival)) (h : Heed)
    → Hears a.version a.cluster a.n a.name got got' h → IsSilent h → mid ≡ moved h port → Sends (requests a.bytes (moved_to h)) u u'
    → port' ≡ go_on_port a.n a.turns done mid → Sends (requests a.bytes (go_on_to a.n a.turns done mid)) u' u''
    → Turned a done port port' u u'' got got' None
turned_none a done port mid port' u u' u'' got got' h hears silent is first goes second =
    let all : Sends (requests a.bytes (moved_to h ++ go_on_to a.n a.turns done (moved h port))) u u'' =
    subst (λ l. Sends l u u'') (sym (requests_append a.bytes (moved_to h) (go_on_to a.n a.turns done (moved h port))))
    (sends_trans u u' u'' (requests a.bytes (moved_to h)) (requests a.bytes (go_on_to a.n a.turns done (moved h port))) first
    (subst (λ p. Sends (requests a.bytes (go_on_to a.n a.turns done p)) u' u'') is second)) in
    let at : port' ≡ go_on_port a.n a.turns done (moved h port) = goes ∙ ap (λ p. go_on_port a.n a.turns done p) is in (
      hears.0,
      hears.1,
      hears.2,
      hears.3,
      (
        subst IsSilent hears.4 silent,
        subst (λ x. port' ≡ go_on_port a.n a.turns done (moved x port)) hears.4 at,
        subst (λ x. Sends (requests a.bytes (moved_to x ++ go_on_to a.n a.turns done (moved x port))) u u'') hears.4 all,
      ),
    )

-- what was heard is the answer
pub turned_answer : (a : Ask) (done port port' : ℕ) (u u' : Option (List (Option Datagram))) (got got' : Option (List Arrival)) (h : Heed) (answer : Answer)
    → Hears a.version a.cluster a.n a.name got got' h → h ≡ Answered answer → port' ≡ moved h port → Sends (requests a.bytes (moved_to h)) u u'
    → Turned a done port port' u u' got got' (Some answer)
turned_answer a done port port' u u' got got' h answer hears is at sent = (
  hears.0,
  hears.1,
  hears.2,
  hears.3,
  (
    sym hears.4 ∙ is,
    subst (λ x. port' ≡ moved x port) is at,
    subst (λ x. Sends (requests a.bytes (moved_to x)) u u') is sent,
  ),
)
