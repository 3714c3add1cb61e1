use Rattle.std.proofs.Common.{ℕ, ◌+◌, ◌≡◌, ◌∙◌, ap, arith, List}
use Rattle.std.specs.Prelude.{map, replicate}
use Rattle.std.proofs.lemmas.Bool.{both_ways}
use Rattle.vr_disk.specs.Fronts.{front}
use Rattle.vr_mem.specs.Owed.{begins_copy, meant}
use Rattle.vr_mem.specs.Seen.{face_of}
use Rattle.vr_mem.proofs.Meant.{meant_mark, meant_write}
use Rattle.vr_mem.proofs.Plain.{front_content, same_told, sectors_write}
use Rattle.vr_mem.proofs.cell_disk.CellDisk.owe.Goals as goal

abbrev full : ℕ → List ℕ
full b = map (λ b. b + 256) (replicate 512 b)

pub invariant_of-self : goal.invariant_of-self
invariant_of-self c =
    let o = c.args.self.now.texts in
    let made : meant o (full c.byte.result) ≡ front c.args.text.now = ap (λ b. meant o (full b)) c.byte.ensures ∙ (meant_mark o c.args.number ∙ ap front c.requires.text) in
    let content = front_content c.args.text.now (λ i. omega (arith, c.type_inv.text i)) c.requires.size in
    record {
      sectors = sectors_write o c.args.self.now.face c.write.new.self c.args.i (full c.byte.result) (front c.args.text.now) c.args.self.now.sectors c.requires.within c.write.ensures.face c.write.ensures.after made content
          (λ n. absurd (both_ways (begins_copy c.args.i) n c.requires.front));
    }

pub returns-clause-told : goal.returns-clause-told
returns-clause-told c =
    let o = c.args.self.now.texts in
    let made : meant o (full c.byte.result) ≡ front c.args.text.now = ap (λ b. meant o (full b)) c.byte.ensures ∙ (meant_mark o c.args.number ∙ ap front c.requires.text) in
    same_told _ _ _ _ (meant_write o (face_of c.args.self.now.face) (face_of c.write.new.self) c.args.i (full c.byte.result) (front c.args.text.now) made c.write.ensures.after)
