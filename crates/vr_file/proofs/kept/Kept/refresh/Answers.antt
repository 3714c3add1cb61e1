use Rattle.std.proofs.Common.{◌≡◌, ◌∙◌, [], ◌∷◌, refl, sym, true, false}
use Rattle.vr_io_policy.specs.Caches.{forgot, is_old}
use Rattle.vr_file.specs.Calls.{Renewed, Told}
use Rattle.vr_file.proofs.Above.{forgot_above}
use Rattle.vr_file.proofs.Asking.{makes_then}
use Rattle.vr_file.proofs.kept.Kept.refresh.Goals as goal

pub returns-then-refresh-clause-fresh : goal.returns-then-refresh-clause-fresh
returns-then-refresh-clause-fresh g c =
    let t : is_old c.args.self.now.cache c.millis-self.result ≡ true = sym c.if-refresh.ensures.value in
    record {
      now = c.millis-self.result;
      cache = c.refresh.ensures.new;
      made = rw t (makes_then (Told c.millis-self.result ∷ []) (Renewed ∷ []) (g.F.PageFile.made c.args.file.now) (g.F.PageFile.made c.millis-self.new.self) (g.F.PageFile.made c.renew.new.self) c.millis-self.ensures.made c.renew.ensures.made);
    }

pub returns-else-refresh-clause-fresh : goal.returns-else-refresh-clause-fresh
returns-else-refresh-clause-fresh g c =
    let n : is_old c.args.self.now.cache c.millis-self.result ≡ false = sym c.if-refresh.ensures.value in
    record { now = c.millis-self.result; cache = c.refresh.ensures.new; made = rw n c.millis-self.ensures.made }

pub returns-then-refresh-clause-above : goal.returns-then-refresh-clause-above
returns-then-refresh-clause-above g c = λ d h.
    let t : is_old c.args.self.now.cache c.millis-self.result ≡ true = sym c.if-refresh.ensures.value in
    let e : c.refresh.new.self ≡ forgot c.args.self.now.cache c.millis-self.result = c.refresh.ensures.new ∙ rw t refl in
    rw (e, c.renew.ensures.told, c.millis-self.ensures.told) (forgot_above c.args.self.now.cache (g.F.PageFile.told c.args.file.now) c.millis-self.result d c.refresh.ensures.sound h)
