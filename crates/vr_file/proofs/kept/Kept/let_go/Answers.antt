use Rattle.vr_io_policy.specs.Caches.{forgot}
use Rattle.vr_io_policy.proofs.Between.{forgot_blank}
use Rattle.vr_file.proofs.Above.{forgot_above, goes_step}
use Rattle.vr_file.proofs.kept.Kept.let_go.Goals as goal

pub returns-clause-blank : goal.returns-clause-blank
returns-clause-blank g c = rw c.forget.ensures.value (forgot_blank c.flush.new.self.cache c.millis-self.result c.in_ok-flush.ensures.sound c.in_ok-flush.ensures.clean)

pub returns-clause-above : goal.returns-clause-above
returns-clause-above g c = λ d h.
    let made = c.flush.new.self.cache in
    let told = g.F.PageFile.told c.flush.new.file in
    let now = c.millis-self.result in
    rw (c.forget.ensures.value, c.millis-self.ensures.told) (goes_step made (forgot made now) told told (λ e. e) d (c.flush.ensures.above d h) (λ e x. forgot_above made told now e c.in_ok-flush.ensures.sound x))
