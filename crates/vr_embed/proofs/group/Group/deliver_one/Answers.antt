use Rattle.std.proofs.Common.{◌+◌, ◌≡◌, arith, refl, sym, ap, ◌∙◌, cond, is_some, length, inl, inr, None, Some, Option}
use Rattle.std.proofs.lemmas.Option.{slice_get_cases}
use Rattle.vr_msg.specs.declared.output.Sent.{Sent}
use Rattle.vr_embed.specs.declared.group.Group.{Group}
use Rattle.vr_embed.proofs.Worlds.{goes_letter, goes_lost, goes_still}
use Rattle.vr_embed.proofs.group.Group.deliver_one.Goals as goal

pub returns-in-None-clause-goes : goal.returns-in-None-clause-goes
returns-in-None-clause-goes c =
    let n = c.args.self.now.link.next in
    let same : c.take.new.self.next ≡ n = c.in_ok-taken.ensures.next ∙ ap (λ (o : Option Sent). cond (is_some o) (n + 1) n) c.in-None.is in
    let now : Group = record { members = c.args.self.now.members; link = c.take.new.self; text = c.args.self.now.text } in
    goes_still c.args.self.now now same (goes_lost c.args.self.now now refl c.take.ensures.letters refl)

pub returns-in_ok-hand_over-in-Some-clause-goes : goal.returns-in_ok-hand_over-in-Some-clause-goes
returns-in_ok-hand_over-in-Some-clause-goes c =
    let n = c.args.self.now.link.next in
    let one : c.take.new.self.next ≡ n + 1 = c.in_ok-taken.ensures.next ∙ ap (λ (o : Option Sent). cond (is_some o) (n + 1) n) c.in-Some.is in
    goes_letter c.args.self.now c.hand_over.new.self c.take.new.self c.in-Some.letter (sym c.in-Some.is ∙ c.in_ok-taken.ensures.letter) c.take.ensures.letters (c.hand_over.ensures.next ∙ one) c.in_ok-hand_over-in-Some.ensures.happened

pub returns-in-None-clause-all : goal.returns-in-None-clause-all
returns-in-None-clause-all c none =
    let n = c.args.self.now.link.next in
    let same : c.take.new.self.next ≡ n = c.in_ok-taken.ensures.next ∙ ap (λ (o : Option Sent). cond (is_some o) (n + 1) n) c.in-None.is in
    let letters : length c.take.new.self.letters ≡ length c.args.self.now.link.letters = ap length c.take.ensures.letters in
    elim (slice_get_cases c.args.self.now.link.letters n).1 [
      | inl x ↦ (let no : Some x.0 ≡ None = sym x.2 ∙ (sym c.in_ok-taken.ensures.letter ∙ c.in-None.is) in absurd cc)
      | inr x ↦ let past = x.0 in omega (arith, same, letters, past)
    ]
