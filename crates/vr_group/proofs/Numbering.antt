-- One more output, and more outputs.
use Rattle.std.proofs.Common.{◌≡◌, ℕ, ◌+◌, ◌<◌, ◌≤◌, ◌∙◌, arith, List, [], ◌∷◌, ◌++◌, drop, get_or, length, length-append, map, refl, sym, ap, append_assoc}
use Rattle.std.proofs.lemmas.Grind.{flat_map-append}
use Rattle.std.proofs.lemmas.List.{append-nil, at_drop_all, at_drop_more, map-append}
use Rattle.vr_msg.specs.declared.output.Output.{Output}
use Rattle.vr_rules.specs.Outputs.{message_of, messages}
use Rattle.vr_group.specs.Outputs.{Numbered, line_text, numbered, outputs_of, put_as, put_of, puts_of, text_of, with_number, with_outputs}
use Rattle.vr_group.specs.declared.outputs.Outputs.{Outputs}
use Rattle.vr_group.specs.declared.outputs.Put.{Put}

messages_more : (o : Output) (os : List Output) → messages (o ∷ os) ≡ message_of o ++ messages os
unfolding messages
messages_more o os = refl

messages_none : messages [] ≡ []
unfolding messages
messages_none = refl

-- those after a place
pub messages_at : (os : List Output) (i : ℕ) (d : Output) → i < length os → messages (drop i os) ≡ message_of (get_or os i d) ++ messages (drop (i + 1) os)
messages_at os i d h = at_drop_more messages os i d h ∙ messages_more (get_or os i d) (drop (i + 1) os)

pub messages_past : (os : List Output) (i : ℕ) → length os ≤ i → messages (drop i os) ≡ []
messages_past os i h = at_drop_all messages os i h ∙ messages_none

pub numbered_none : (m : ℕ) → numbered m [] ≡ []
unfolding numbered
numbered_none m = refl

pub text_none : text_of [] ≡ []
unfolding text_of
text_none = refl

text_one : (o : Numbered) → text_of (o ∷ []) ≡ line_text o
unfolding text_of
text_one o = append-nil (line_text o)

pub text_append : (a b : List Numbered) → text_of (a ++ b) ≡ text_of a ++ text_of b
unfolding text_of
text_append a b = flat_map-append line_text a b

-- the text of those after a place
numbered_more : (m : ℕ) (o : Output) (os : List Output) → numbered m (o ∷ os) ≡ with_number m o ∷ numbered (m + length (message_of o)) os
unfolding numbered
numbered_more m o os = refl

text_more : (m : ℕ) (o : Output) (os : List Output) → text_of (numbered m (o ∷ os)) ≡ line_text (with_number m o) ++ text_of (numbered (m + length (message_of o)) os)
text_more m o os =
    ap text_of (numbered_more m o os) ∙ text_append (with_number m o ∷ []) (numbered (m + length (message_of o)) os)
    ∙ ap (λ t. t ++ text_of (numbered (m + length (message_of o)) os)) (text_one (with_number m o))

pub text_at : (m : ℕ) (os : List Output) (i : ℕ) (d : Output) → i < length os
    → text_of (numbered m (drop i os)) ≡ line_text (with_number m (get_or os i d)) ++ text_of (numbered (m + length (message_of (get_or os i d))) (drop (i + 1) os))
text_at m os i d h = at_drop_more (λ xs. text_of (numbered m xs)) os i d h ∙ text_more m (get_or os i d) (drop (i + 1) os)

pub text_past : (m : ℕ) (os : List Output) (i : ℕ) → length os ≤ i → text_of (numbered m (drop i os)) ≡ []
text_past m os i h = at_drop_all (λ xs. text_of (numbered m xs)) os i h ∙ ap text_of (numbered_none m) ∙ text_none

-- nothing after a text
pub text_same : (m : ℕ) (before : List ℕ) → before ≡ before ++ text_of (numbered m [])
text_same m before = sym (ap (λ ns. before ++ text_of ns) (numbered_none m) ∙ ap (λ t. before ++ t) text_none ∙ append-nil before)

-- ---- what is put out

pub puts_more : (m : ℕ) (o : Output) (os : List Output) → puts_of m (o ∷ os) ≡ put_as m o ∷ puts_of (m + length (message_of o)) os
unfolding numbered
puts_more m o os = refl

pub puts_none : (m : ℕ) → puts_of m [] ≡ []
unfolding numbered
puts_none m = refl

-- how many messages are among outputs
pub count_more : (m : ℕ) (o : Output) (os : List Output) → m + length (messages (o ∷ os)) ≡ (m + length (message_of o)) + length (messages os)
count_more m o os = let all = ap length (messages_more o os) in let both = length-append (message_of o) (messages os) in omega (arith, all, both)

-- one output more is put out
pub count_fits : (m end : ℕ) (o : Output) (os rest : List Output) → os ≡ o ∷ rest → m + length (messages os) ≡ end → m + length (message_of o) ≤ end
count_fits m end o os rest is room =
    let all : length (messages os) ≡ length (messages (o ∷ rest)) = ap (λ xs. length (messages xs)) is in
    let more = count_more m o rest in
    omega (arith, all, more, room)

pub count_rest : (m end next : ℕ) (o : Output) (os rest : List Output) → os ≡ o ∷ rest → next ≡ m + length (message_of o) → m + length (messages os) ≡ end → next + length (messages rest) ≡ end
count_rest m end next o os rest is e room =
    let all : length (messages os) ≡ length (messages (o ∷ rest)) = ap (λ xs. length (messages xs)) is in
    let more = count_more m o rest in
    omega (arith, all, more, e, room)

pub puts_rest : (m next : ℕ) (o : Output) (os rest : List Output) (p : Put) (puts new all : List Put) → os ≡ o ∷ rest → next ≡ m + length (message_of o) → p ≡ put_as m o → new ≡ puts ++ p ∷ [] → puts ++ puts_of m os ≡ all → new ++ puts_of next rest ≡ all
puts_rest m next o os rest p puts new all is e f g h =
    let split : puts ++ puts_of m os ≡ puts ++ put_as m o ∷ puts_of (m + length (message_of o)) rest = ap (λ xs. puts ++ puts_of m xs) is ∙ ap (λ x. puts ++ x) (puts_more m o rest) in
    rw (g, f, e) (append_assoc puts (put_as m o ∷ []) (puts_of (m + length (message_of o)) rest) ∙ sym split ∙ h)

abbrev outputs_as : List Put → List ℕ → Outputs
outputs_as puts text = record { puts = puts; text = text }

pub outputs_none : (before : Outputs) → with_outputs before [] ≡ before
unfolding text_of
outputs_none before =
    ap (λ puts. outputs_as puts (before.text ++ [])) (append-nil before.puts) ∙ ap (λ text. outputs_as before.puts text) (append-nil before.text)

pub outputs_append : (before : Outputs) (a b : List Numbered) → with_outputs (with_outputs before a) b ≡ with_outputs before (a ++ b)
outputs_append before a b =
    let puts : (before.puts ++ map put_of a) ++ map put_of b ≡ before.puts ++ map put_of (a ++ b) = append_assoc before.puts (map put_of a) (map put_of b) ∙ ap (λ x. before.puts ++ x) (sym (map-append put_of a b)) in
    let text : (before.text ++ text_of a) ++ text_of b ≡ before.text ++ text_of (a ++ b) = append_assoc before.text (text_of a) (text_of b) ∙ ap (λ x. before.text ++ x) (sym (text_append a b)) in
    ap (λ x. outputs_as x ((before.text ++ text_of a) ++ text_of b)) puts ∙ ap (λ x. outputs_as (before.puts ++ map put_of (a ++ b)) x) text

-- puts and text, each after what stood there
pub put_behind : (before now : Outputs) (m : ℕ) (os : List Output) → now.puts ≡ before.puts ++ puts_of m os → now.text ≡ before.text ++ text_of (numbered m os) → now ≡ with_outputs before (numbered m os)
put_behind before now m os puts text = ap (λ x. outputs_as x now.text) puts ∙ ap (λ x. outputs_as (before.puts ++ puts_of m os) x) text

-- outputs after none
pub outputs_alone : (before now : Outputs) (outputs : List Numbered) → before ≡ outputs_of [] → now ≡ with_outputs before outputs → now ≡ outputs_of outputs
unfolding text_of
outputs_alone before now outputs none is = is ∙ ap (λ x. with_outputs x outputs) none
