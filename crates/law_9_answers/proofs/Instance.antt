-- What is asked of the network and of names is so of a request that is handled and answered.
use Rattle.std.proofs.Common.{ℕ, ◌≡◌, ◌∙◌, inl, inr, sym, ap, subst, List, [], ◌∷◌, ◌++◌}
use Rattle.std.specs.Prelude.{Contains}
use Rattle.vr_codec.proofs.Decided.{same_message}
use Rattle.vr_edge.specs.declared.datagram.Datagram.{Datagram}
use Rattle.vr_header.specs.Spelling.{named_bytes}
use Rattle.vr_header.specs.declared.header.Header.{Header}
use Rattle.vr_mail.specs.Letters.{IsOfGroup}
use Rattle.vr_msg.specs.Spelling.{Spells}
use Rattle.vr_msg.specs.declared.frame.Frame.TheVariants as frame
use Rattle.vr_msg.specs.declared.output.Committed.{Committed}
use Rattle.vr_msg.specs.declared.output.Output.{Output}
use Rattle.vr_msg.specs.declared.output.Output.TheVariants as output
use Rattle.vr_msg.specs.declared.reply.ReplyFields.{ReplyFields}
use Rattle.vr_msg.specs.declared.request.RequestFields.{RequestFields}
use Rattle.vr_node.specs.declared.node.Node.{Node}
use Rattle.vr_serve.specs.Runs.{Did}
use Rattle.vr_world.specs.Group.{Asked}
use Rattle.law_1_machine.specs.Basics.{In}
use Rattle.law_2_chains.proofs.StoredLists.{contains_in, in_contains}
use Rattle.law_7_members.specs.Files.{ActBy, Handles, act_by}
use Rattle.law_7_members.specs.Whole.{all_said}
use Rattle.law_9_answers.specs.Heard.{IsNamed}
use Rattle.law_9_asked.specs.Asked.{asked_by, header_of}
use Rattle.law_9_answers.specs.Heard as named
use Rattle.law_9_answers.specs.Laws.{SomeAnswerMay}

module _ (q : RequestFields) (at : ℕ) (did : Did Node) (line : Committed) (a : ReplyFields) (are : did.outputs ≡ output.Commit line ∷ output.Reply a ∷ []) where
  abbrev xs : List ActBy
  xs = act_by at (Handles (Asked q) did) ∷ []

  said_are : all_said xs ≡ output.Commit line ∷ output.Reply a ∷ []
  said_are = ap (λ (os : List Output). os ++ []) are

  -- the reply that is received was put out
  reply_said : (version cluster : ℕ) (d : Datagram) → Spells (frame.Reply a) d.bytes → (b : ReplyFields) → IsOfGroup version cluster d.bytes (frame.Reply b) → Contains (all_said xs) (output.Reply b)
  reply_said version cluster d spelled b of_group =
      let one : frame.Reply b ≡ frame.Reply a = same_message (frame.Reply b) (frame.Reply a) d.bytes of_group.spelled spelled in
      let same : b ≡ a = cc in
      in_contains (output.Reply b) (all_said xs) (subst (λ (os : List Output). In (output.Reply b) os) (sym said_are) (inr (inl (ap output.Reply same))))

  -- all names are of one text
  one_text : asked_by line.entry.header ≡ header_of q → (bytes : List ℕ) → IsNamed xs (q ∷ []) bytes → bytes ≡ named_bytes (header_of q)
  one_text is _ (named.IsNamed.reached i other p there) =
      elim (contains_in (act_by i (Handles (Asked p) other)) xs there) [
        | inl e ↦
            let one : Handles (Asked p) other ≡ Handles (Asked q) did = ap (λ (x : ActBy). x.act) e in
            let same : p ≡ q = cc in
            ap (λ (r : RequestFields). named_bytes (header_of r)) same
        | inr none ↦ absurd none
      ]
  one_text is _ (named.IsNamed.entered c there) =
      elim (subst (λ (os : List Output). In (output.Commit c) os) said_are (contains_in (output.Commit c) (all_said xs) there)) [
        | inl e ↦ let same : c ≡ line = cc in ap (λ (x : Committed). named_bytes (asked_by x.entry.header)) same ∙ ap (λ (h : Header). named_bytes h) is
        | inr later ↦ elim later [ inl e ↦ absurd cc | inr none ↦ absurd none ]
      ]
  one_text is _ (named.IsNamed.asked p there) =
      elim (contains_in p (q ∷ []) there) [ inl e ↦ ap (λ (r : RequestFields). named_bytes (header_of r)) e | inr none ↦ absurd none ]

pub some_may : SomeAnswerMay
some_may c q at did line a d answer are is spelled = record {
  carried = ((reply_said q at did line a are c.version c.cluster d spelled, tt), tt);
  names = λ x y hx hy e. one_text q at did line a are is x hx ∙ sym (one_text q at did line a are is y hy);
}
