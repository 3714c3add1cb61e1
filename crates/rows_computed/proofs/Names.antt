-- The names of all texts that the schedules hash differ.
use Rattle.std.proofs.Common.{ℕ, ◌≡◌, ◌⊎◌, inl, inr, sym, ap, ◌∙◌, subst, cond, eqb, List, [], ◌∷◌, codes, get_or}
use Rattle.vr_base.specs.Bytes.{name_of}
use Rattle.vr_header.specs.Bodies.{operation_bytes}
use Rattle.vr_header.specs.Made.{Whole}
use Rattle.vr_header.specs.Names.{root_header}
use Rattle.vr_header.specs.NoCollision.{NoCollision}
use Rattle.vr_header.specs.Spelling.{named_bytes}
use Rattle.vr_header.specs.declared.operation.Operation.TheVariants.{Register, Put}
use Rattle.rows_computed.proofs.Entries.{first, first_header, first_named, put_named, register_named, root_named, second, second_header, second_named, third, third_header, third_named}
use Rattle.rows_computed.proofs.Lines.{IsText, header, operation, root}
use Rattle.rows_computed.proofs.Values.{value_named, value_text}

abbrev pub both : List Whole
both = first ∷ second ∷ []

abbrev pub all_three : List Whole
all_three = first ∷ second ∷ third ∷ []

-- the text whose name begins with these two bytes
abbrev text_by : ℕ → ℕ → List ℕ
text_by k l =
    cond (eqb k 138) (cond (eqb l 203) (named_bytes (root_header 0)) (named_bytes third_header))
    (cond (eqb k 130) (named_bytes first_header)
    (cond (eqb k 75) (operation_bytes Register)
    (cond (eqb k 247) (named_bytes second_header)
    (cond (eqb k 28) value_text
    (operation_bytes (Put (codes "a") (codes "b")))))))

abbrev by_name : List ℕ → List ℕ
by_name name = text_by (get_or name 0 0) (get_or name 1 0)

known : (b : List ℕ) → IsText all_three b → by_name (name_of b) ≡ b
known _ root = ap by_name root_named
known _ (header e (inl i)) = subst (λ (x : Whole). by_name (name_of (named_bytes x.header)) ≡ named_bytes x.header) (sym i) (ap by_name first_named)
known _ (header e (inr (inl i))) = subst (λ (x : Whole). by_name (name_of (named_bytes x.header)) ≡ named_bytes x.header) (sym i) (ap by_name second_named)
known _ (header e (inr (inr (inl i)))) = subst (λ (x : Whole). by_name (name_of (named_bytes x.header)) ≡ named_bytes x.header) (sym i) (ap by_name third_named)
known _ (header e (inr (inr (inr i)))) = absurd i
known _ (operation e (inl i)) = subst (λ (x : Whole). by_name (name_of (operation_bytes x.operation)) ≡ operation_bytes x.operation) (sym i) (ap by_name register_named)
known _ (operation e (inr (inl i))) = subst (λ (x : Whole). by_name (name_of (operation_bytes x.operation)) ≡ operation_bytes x.operation) (sym i) (ap by_name put_named)
known _ (operation e (inr (inr (inl i)))) = subst (λ (x : Whole). by_name (name_of (operation_bytes x.operation)) ≡ operation_bytes x.operation) (sym i) (ap by_name register_named)
known _ (operation e (inr (inr (inr i)))) = absurd i

pub three_apart : (H : List ℕ → Type 0) → ((b : List ℕ) → H b → IsText all_three b) → NoCollision H
three_apart H texts a b p q same = sym (known a (texts a p)) ∙ (ap by_name same ∙ known b (texts b q))

of_three : (b : List ℕ) → IsText both b → IsText all_three b
of_three _ root = root
of_three _ (header e (inl i)) = header e (inl i)
of_three _ (header e (inr (inl i))) = header e (inr (inl i))
of_three _ (header e (inr (inr i))) = absurd i
of_three _ (operation e (inl i)) = operation e (inl i)
of_three _ (operation e (inr (inl i))) = operation e (inr (inl i))
of_three _ (operation e (inr (inr i))) = absurd i

-- so a name tells the text
abbrev pub IsAny : List ℕ → Type 0
IsAny b = IsText both b ⊎ (b ≡ value_text)

known_any : (b : List ℕ) → IsAny b → by_name (name_of b) ≡ b
known_any b (inl t) = known b (of_three b t)
known_any b (inr e) = subst (λ (x : List ℕ). by_name (name_of x) ≡ x) (sym e) (ap by_name value_named)

pub tells_apart : (H : List ℕ → Type 0) → ((b : List ℕ) → H b → IsAny b) → NoCollision H
tells_apart H texts a b p q same = sym (known_any a (texts a p)) ∙ (ap by_name same ∙ known_any b (texts b q))
