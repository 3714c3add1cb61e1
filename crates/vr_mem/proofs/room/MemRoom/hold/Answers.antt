use Rattle.std.proofs.Common.{◌∙◌, sym, ap}
use Rattle.std.specs.Prelude.{bytes_eq}
use Rattle.vr_mem.specs.Seen.{marked}
use Rattle.vr_mem.proofs.Shelves.{holds_already}
use Rattle.vr_mem.proofs.room.MemRoom.hold.Goals as goal

pub returns-then-is-clause-holds : goal.returns-then-is-clause-holds
returns-then-is-clause-holds c =
    let bytes = marked c.args.mark c.args.bytes.now in
    holds_already c.args.self.now bytes (ap (bytes_eq bytes) (sym c.truth.ensures.bytes) ∙ (sym c.is.ensures ∙ c.if-is.true))
