-- What decoding finds is what is spelled.
use Rattle.std.proofs.Common.{◌≡◌, ℕ, ◌+◌, ◌≤◌, ◌⊎◌, inl, inr, Bool, true, false, cond, List, [], ◌++◌, length, take, drop, refl, sym, ap, ◌∙◌, arith, subst, append_assoc, length-drop, Result, Ok, Err, Option, Some, None}
use Rattle.std.specs.Prelude.{IfErr, IfOk, ◌≢◌, not}
use Rattle.std.specs.Option.{option_map}
use Rattle.std.proofs.lemmas.List.{append-nil, take_at}
use Rattle.vr_base.specs.declared.sum.Sum.{Sum}
use Rattle.vr_base.specs.Bytes.{IsBytes, piece}
use Rattle.vr_base.proofs.FieldLaws.{length-name_of}
use Rattle.vr_header.specs.declared.header.Header.{Header}
use Rattle.vr_header.specs.declared.header.HeaderFault.{HeaderFault}
use Rattle.vr_header.specs.declared.command.Command.{Command}
use Rattle.vr_header.specs.declared.command.Command.TheVariants as command
use Rattle.vr_header.specs.declared.operation.Operation.{Operation}
use Rattle.vr_header.specs.Bodies.{operation_bytes, operation_of}
use Rattle.vr_header.specs.Names.{header_name}
use Rattle.vr_header.specs.Spelling.{IsHeader, decoded, header_bytes, named_bytes}
use Rattle.vr_codec.specs.declared.fault.MsgFault.{MsgFault}
use Rattle.vr_codec.specs.declared.fault.MsgFault.TheVariants as fault
use Rattle.vr_msg.specs.declared.frame.Frame.{Frame}
use Rattle.vr_msg.specs.declared.frame.Frame.TheVariants as frame
use Rattle.vr_codec.specs.Deciding.{HasBody, IsFault, Reads}
use Rattle.vr_codec.specs.Reading.{IsAsking, frame_for}
use Rattle.vr_codec.specs.Shapes.{has_shape, inspected, inspected_with, is_body}
use Rattle.vr_msg.specs.Spelling.{Spells, body_bytes, frame_header, header_before, spelling}
use Rattle.vr_codec.proofs.Again.{command_of_frame, frame_again, is_body_true, name_of_frame, shape_true, size_of_frame}
use Rattle.vr_codec.proofs.Fitting.{long_of}
use Rattle.vr_codec.proofs.Found.{Found, ShapeFound, body_found, found, shape_found}
use Rattle.vr_codec.proofs.Lists.{IsBytes-drop, decoded_front, front_found, rest_front}

-- the header and the body of bytes that spell a message, whatever comes after them
pub front_of : (m : Frame) (b r : List ℕ) → Spells m b → (decoded (b ++ r) ≡ Ok (frame_header m)) × (drop 128 (b ++ r) ≡ body_bytes m ++ r)
unfolding spelling
front_of m b r s =
    let h = frame_header m in
    let all : b ++ r ≡ header_bytes h ++ (body_bytes m ++ r) = ap (λ x. x ++ r) s.spelled ∙ append_assoc (header_bytes h) (body_bytes m) r in
    (ap decoded all ∙ decoded_front h (body_bytes m ++ r) s.header, ap (drop 128) all ∙ rest_front h (body_bytes m ++ r) s.header)

pub whole_of : (m : Frame) (b : List ℕ) → Spells m b → (decoded b ≡ Ok (frame_header m)) × (drop 128 b ≡ body_bytes m)
unfolding spelling
whole_of m b s =
    let h = frame_header m in
    (ap decoded s.spelled ∙ decoded_front h (body_bytes m) s.header, ap (drop 128) s.spelled ∙ rest_front h (body_bytes m) s.header)

-- what is spelled passes
pub inspected_again : (m : Frame) (b : List ℕ) → Spells m b → inspected b ≡ Ok (frame_header m)
unfolding inspected
inspected_again m b s =
    let w = whole_of m b s in
    rw (w.0, w.1, is_body_true (frame_header m) (body_bytes m) (size_of_frame m) (name_of_frame m), shape_true m s.form s.body) refl

-- bytes that pass
pub record Inspected (b : List ℕ) (h : Header) : Type 0 where
  pub header : decoded b ≡ Ok h
  pub values : IsHeader h
  pub spelled : b ≡ header_bytes h ++ drop 128 b
  pub long : 128 ≤ length b
  pub shape : ShapeFound h (drop 128 b)
  pub message : Found h.command h (drop 128 b)

refused : (t : Bool) (f : MsgFault) (x : Result Header MsgFault) (h : Header) → cond (not t) (Err f) x ≡ Ok h → (t ≡ true) × (x ≡ Ok h)
refused true f x h e = (refl, e)
refused false f x h e = absurd cc

pub inspected_found : (b : List ℕ) (h : Header) → IsBytes b → inspected b ≡ Ok h → Inspected b h
unfolding inspected
inspected_found b h i e =
    let body = drop 128 b in
    let cases : (r : Result Header HeaderFault) → decoded b ≡ r → inspected_with body r ≡ Ok h → Inspected b h =
    elim [
      | Ok k ↦ λ d t.
          let named = refused (is_body k body) fault.BodySum _ h t in
          let shaped = refused (has_shape k body) fault.BodyShape _ h named.1 in
          let same : k ≡ h = (let o = shaped.1 in cc) in
          let f = front_found b k i d in
          let it : Inspected b k = record {
            header = d;
            values = f.header;
            spelled = f.spelled;
            long = long_of b k d;
            shape = shape_found k body shaped.0;
            message = found k body (IsBytes-drop 128 b i) named.0 shaped.0;
          } in
          subst (Inspected b) same it
      | Err g ↦ λ d t. absurd cc
    ] in
    cases (decoded b) refl e

-- a request's header, and its name
asking_in : (h : Header) (body : List ℕ) → Found command.Request h body → IsAsking h body
asking_in h body x =
    let cases : (o : Option Operation) → option_map (λ (p : Operation). frame.Request (record { version = h.version; cluster = h.cluster; client = h.client; request = h.request; operation = p })) o ≡ Some x.message → IsAsking h body =
    elim [
      | None ↦ λ e. absurd cc
      | Some o ↦ λ e.
          let m : Frame = frame.Request (record { version = h.version; cluster = h.cluster; client = h.client; request = h.request; operation = o }) in
          let same : x.message ≡ m = cc in
          let header : frame_header m ≡ h = subst (λ (n : Frame). frame_header n ≡ h) same x.header in
          let spelled : operation_bytes o ≡ body = subst (λ (n : Frame). body_bytes n ≡ body) same x.spelled in
          sym header ∙ ap (λ (b : List ℕ). record (header_before h.version b command.Request) { cluster = h.cluster; client = h.client; request = h.request }) spelled
    ] in
    cases (operation_of h.version body) x.read

pub asking_found : (b : List ℕ) (h : Header) → Inspected b h → h.command ≡ command.Request → IsAsking h (drop 128 b)
asking_found b h x e = asking_in h (drop 128 b) (subst (λ (c : Command). Found c h (drop 128 b)) e x.message)

pub name_found : (b : List ℕ) (h : Header) (s : Sum) → Inspected b h → s.0 ≡ piece 0 16 b → s ≡ header_name h
unfolding piece header_bytes
name_found b h s x e =
    let front : take 16 b ≡ (header_name h).0 =
    ap (take 16) x.spelled ∙ (ap (take 16) (append_assoc (header_name h).0 (named_bytes h) (drop 128 b)) ∙ take_at (header_name h).0 (named_bytes h ++ drop 128 b) 16 (length-name_of (named_bytes h))) in
    ap (λ (n : List ℕ). let x : Sum = record { 0 = n } in x) (e ∙ front)

-- the message that was found is spelled by the bytes
pub spells_found : (b : List ℕ) (h : Header) (x : Inspected b h) → Spells x.message.message b
unfolding spelling
spells_found b h x =
    let m = x.message.message in
    record {
      form = x.message.form;
      header = subst IsHeader (sym x.message.header) x.values;
      body = x.message.values;
      spelled = x.spelled ∙ (ap (λ k. header_bytes k ++ drop 128 b) (sym x.message.header) ∙ ap (λ t. header_bytes (frame_header m) ++ t) (sym x.message.spelled));
    }

-- ---- the first fault

named_body : (b : List ℕ) (h : Header) → decoded b ≡ Ok h → HasBody h b → is_body h (drop 128 b) ≡ true
named_body b h d n =
    let long = long_of b h d in
    let size : h.size ≡ 128 + length (drop 128 b) = (let s = n.size in let l = length-drop 128 b in omega arith) in
    is_body_true h (drop 128 b) size (sym n.name)

has_body : (b : List ℕ) (h : Header) → decoded b ≡ Ok h → is_body h (drop 128 b) ≡ true → HasBody h b
has_body b h d t =
    let p = body_found h (drop 128 b) t in
    let long = long_of b h d in
    record { size = (let s = p.0 in let l = length-drop 128 b in omega arith); name = p.1 }

-- no message is spelled by bytes that are refused
none_spelled : (b : List ℕ) (f : MsgFault) → inspected b ≡ Err f → (m : Frame) → Spells m b → ⊥
none_spelled b f e m s = let a = inspected_again m b s in cc

sum_fault : (b : List ℕ) (h : Header) → decoded b ≡ Ok h → is_body h (drop 128 b) ≡ false → IsFault b fault.BodySum
sum_fault b h d n = (h, d, λ x. (let t = named_body b h d x in cc))

shape_fault : (b : List ℕ) (h : Header) → decoded b ≡ Ok h → is_body h (drop 128 b) ≡ true → inspected b ≡ Err fault.BodyShape → IsFault b fault.BodyShape
shape_fault b h d n e = (record { header = h; read = d; body = has_body b h d n }, none_spelled b fault.BodyShape e)

-- the tests of a body in their order
by_tests : (b : List ℕ) (h : Header) (f : MsgFault) (t u : Bool) → decoded b ≡ Ok h → is_body h (drop 128 b) ≡ t → inspected b ≡ Err f
    → cond (not t) (Err fault.BodySum) (cond (not u) (Err fault.BodyShape) (Ok h)) ≡ Err f → IsFault b f
by_tests b h f false u d n e x = let same : fault.BodySum ≡ f = cc in subst (IsFault b) same (sum_fault b h d n)
by_tests b h f true false d n e x = let same : fault.BodyShape ≡ f = cc in subst (IsFault b) same (shape_fault b h d n (e ∙ ap Err (sym same)))
by_tests b h f true true d n e x = absurd cc

pub fault_found : (b : List ℕ) (f : MsgFault) → inspected b ≡ Err f → IsFault b f
unfolding inspected
fault_found b f e =
    let cases : (r : Result Header HeaderFault) → decoded b ≡ r → inspected_with (drop 128 b) r ≡ Err f → IsFault b f =
    elim [
      | Ok h ↦ λ d t. by_tests b h f (is_body h (drop 128 b)) (has_shape h (drop 128 b)) d refl e t
      | Err g ↦ λ d t. let same : fault.Header g ≡ f = cc in subst (IsFault b) same d
    ] in
    cases (decoded b) refl e

-- ---- one message

pub frame_there : (m : Frame) (b : List ℕ) → Spells m b → frame_for (frame_header m).command (frame_header m) (body_bytes m) ≡ Some m
frame_there m b s = ap (λ c. frame_for c (frame_header m) (body_bytes m)) (command_of_frame m) ∙ frame_again m s.form s.body

one_body : (a b r s : List ℕ) → a ++ r ≡ b ++ s → length a ≡ length b → a ≡ b
one_body a b r s e l = sym (take_at a r (length a) refl) ∙ (ap (take (length a)) e ∙ take_at b s (length a) (sym l))

-- two spellings that begin one byte string are one message's
pub one_message : (m n : Frame) (a b r s : List ℕ) → Spells m a → Spells n b → a ++ r ≡ b ++ s → m ≡ n
one_message m n a b r s x y e =
    let p = front_of m a r x in
    let q = front_of n b s y in
    let header : frame_header m ≡ frame_header n = (let o : Ok (frame_header m) ≡ Ok (frame_header n) = sym p.0 ∙ (ap decoded e ∙ q.0) in cc) in
    let bodies : body_bytes m ++ r ≡ body_bytes n ++ s = sym p.1 ∙ (ap (drop 128) e ∙ q.1) in
    let size : 128 + length (body_bytes m) ≡ 128 + length (body_bytes n) = sym (size_of_frame m) ∙ (ap (λ (h : Header). h.size) header ∙ size_of_frame n) in
    let body : body_bytes m ≡ body_bytes n = one_body (body_bytes m) (body_bytes n) r s bodies (omega arith) in
    let same : Some m ≡ Some n =
    sym (frame_there m a x) ∙ (ap (λ (h : Header). frame_for h.command h (body_bytes m)) header ∙ (ap (frame_for (frame_header n).command (frame_header n)) body ∙ frame_there n b y)) in
    cc

pub same_message : (m n : Frame) (b : List ℕ) → Spells m b → Spells n b → m ≡ n
same_message m n b x y = one_message m n b b [] [] x y refl

-- ---- what decoding answers

pub only_one : (b : List ℕ) (r : Result Frame MsgFault) → Reads b r → (m : Frame) → Spells m b → (r ≡ Ok m) ⊎ (r ≡ Err fault.NoMemory)
only_one b (Ok n) x m s = inl (ap Ok (same_message n m b x s))
only_one b (Err f) x m s = inr (ap Err x)

pub only_memory : (b : List ℕ) (r : Result Frame MsgFault) → Reads b r → IfErr r (λ f. f ≢ fault.NoMemory → IsFault b f)
only_memory b (Ok n) x = tt
only_memory b (Err f) x = λ n. absurd (n x)

pub is_read : (b : List ℕ) (r : Result Frame MsgFault) → Reads b r → IfOk r (λ m. Spells m b)
is_read b (Ok n) x = x
is_read b (Err f) x = tt

pub is_alone : (b : List ℕ) (r : Result Frame MsgFault) → Reads b r → IfOk r (λ m. (other : Frame) (front rest : List ℕ) → Spells other front → front ++ rest ≡ b → other ≡ m)
is_alone b (Ok n) x = λ other front rest s e. one_message other n front b rest [] s x (e ∙ sym (append-nil b))
is_alone b (Err f) x = tt

pub none_spells : (b : List ℕ) (f : MsgFault) (r : Result Frame MsgFault) → inspected b ≡ Err f → (m : Frame) → Spells m b → (r ≡ Ok m) ⊎ (r ≡ Err fault.NoMemory)
none_spells b f r e m s = absurd (none_spelled b f e m s)

-- what was read of bytes that passed
pub frame_found : (b : List ℕ) (h : Header) (m : Frame) → IsBytes b → inspected b ≡ Ok h → frame_for h.command h (drop 128 b) ≡ Some m → Spells m b
frame_found b h m i e r =
    let x = inspected_found b h i e in
    let same : x.message.message ≡ m = (let s = sym x.message.read ∙ r in cc) in
    subst (λ (n : Frame). Spells n b) same (spells_found b h x)

pub frame_missing : (b : List ℕ) (h : Header) → IsBytes b → inspected b ≡ Ok h → frame_for h.command h (drop 128 b) ≡ None → ⊥
frame_missing b h i e r =
    let x = inspected_found b h i e in
    let s = sym x.message.read ∙ r in
    cc

pub some_message : (b : List ℕ) (h : Header) → IsBytes b → inspected b ≡ Ok h → (m : Frame) × Spells m b
some_message b h i e = let x = inspected_found b h i e in (x.message.message, spells_found b h x)

-- memory is wanted only for bytes that spell a message
pub no_memory : (b : List ℕ) (f : MsgFault) → inspected b ≡ Err f → f ≡ fault.NoMemory → ⊥
no_memory b f e n = subst (IsFault b) n (fault_found b f e)
