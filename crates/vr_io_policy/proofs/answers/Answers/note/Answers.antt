use Rattle.vr_io_policy.proofs.Marks.{kept, marks_kept}
use Rattle.vr_io_policy.specs.Answers.{Remembered}
use Rattle.vr_io_policy.proofs.answers.Answers.note.Goals as goal

pub invariant_of-self : goal.invariant_of-self
invariant_of-self g c =
    let h = c.self.invariant in
    let r : Remembered g.row.A.Denot = record { places = c.self.inside.places.items; next = c.self.inside.next } in
    (rw c.place_after-self-inside.ensures (kept c.args.passed r h.0), rw (c.mark.ensures, h.1) (marks_kept c.args.passed c.self.inside.next c.self.inside.places.items))
