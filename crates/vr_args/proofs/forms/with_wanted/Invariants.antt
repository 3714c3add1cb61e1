use Rattle.std.proofs.Common.{◌≡◌, drop}
use Rattle.std.specs.Prelude.{IfOk}
use Rattle.vr_args.specs.Asked.{texts_now}
use Rattle.vr_args.specs.Forms.{IsLocal, form_of, wanting}
use Rattle.vr_args.proofs.forms.with_wanted.Given as goal

abbrev pub invariant-loop-id : goal.invariant-loop-id
invariant-loop-id l = record {
  form : IfOk l.command (λ c. wanting (form_of c) (texts_now (drop l.id-index l.ids)) ≡ wanting (form_of l.fn.command) (texts_now l.ids));
  local : IfOk l.command (λ c. IsLocal c);
}
