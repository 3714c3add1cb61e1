use Rattle.vr_mail.proofs.Brought.{refused_are_nothing}
use Rattle.vr_mail.proofs.laws.mail_laws.Goals as goal

pub returns : goal.returns
returns c = refused_are_nothing
