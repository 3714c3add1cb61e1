use Rattle.vr_mail.proofs.Brought.{refused_are_nothing}
use Rattle.vr_client.proofs.laws.ask_laws.Goals as goal

pub returns : goal.returns
returns c = λ a port port' u u' got got' g g' result ask stilled still grows. record {
  arrivals = stilled;
  letters = ask.letters;
  last = ask.last;
  brought = refused_are_nothing a.version a.cluster ask.arrivals stilled ask.letters ask.brought still;
  silent = ask.silent;
  ends = ask.ends;
  received = grows;
  at = ask.at;
  asked = ask.asked;
}
