-- Outputs one after another.
use Rattle.std.proofs.Common.{◌≡◌, ◌∙◌, ℕ, ◌+◌, ◌<◌, List, [], ◌∷◌, ◌++◌, Option, length, take, get_or, refl, ap, subst, sym, inl, inr}
use Rattle.std.specs.Io.KnownBytes.{Appends}
use Rattle.std.proofs.KnownBytes.{Appends-nil}
use Rattle.std.proofs.lemmas.List.{take_more}
use Rattle.vr_edge.specs.declared.datagram.Datagram.{Datagram}
use Rattle.vr_mail.proofs.Growing.{append_nil, assoc}
use Rattle.vr_mail.proofs.Sent.{sends_nil, sends_trans}
use Rattle.vr_mail.specs.Sends.{Sends}
use Rattle.vr_msg.specs.declared.output.Output.{Output}
use Rattle.vr_text.specs.Text.{line_text}
use Rattle.vr_serve.specs.Outputs.{datagram_for, datagrams_for, number_after, numbers_after, text_from}
use Rattle.vr_edge.specs.Told.{AppendsFront}
use Rattle.vr_serve.specs.Runs.{PutsFront, SendsFront}
use Rattle.vr_serve.specs.declared.clients.Client.{Client}

pub numbers_append : (m : ℕ) (xs ys : List Output) → numbers_after m (xs ++ ys) ≡ numbers_after (numbers_after m xs) ys
numbers_append m [] ys = refl
numbers_append m (x ∷ xs) ys = numbers_append (number_after m x) xs ys

pub text_append : (m : ℕ) (xs ys : List Output) → text_from m (xs ++ ys) ≡ text_from m xs ++ text_from (numbers_after m xs) ys
text_append m [] ys = refl
text_append m (x ∷ xs) ys =
    ap (λ l. line_text m x ++ l) (text_append (number_after m x) xs ys)
    ∙ sym (assoc (line_text m x) (text_from (number_after m x) xs) (text_from (numbers_after (number_after m x) xs) ys))

pub datagrams_append : (cs : List Client) (xs ys : List Output) → datagrams_for cs (xs ++ ys) ≡ datagrams_for cs xs ++ datagrams_for cs ys
datagrams_append cs [] ys = refl
datagrams_append cs (x ∷ xs) ys =
    ap (λ l. datagram_for cs x ++ l) (datagrams_append cs xs ys) ∙ sym (assoc (datagram_for cs x) (datagrams_for cs xs) (datagrams_for cs ys))

pub numbers_none : (m : ℕ) → numbers_after m [] ≡ m
numbers_none m = refl

pub text_none : (m : ℕ) → text_from m [] ≡ []
text_none m = refl

-- of the first outputs, one more
pub numbers_more : (m : ℕ) (outputs : List Output) (i : ℕ) (d : Output) → i < length outputs
    → numbers_after m (take (i + 1) outputs) ≡ number_after (numbers_after m (take i outputs)) (get_or outputs i d)
numbers_more m outputs i d h = rw (take_more outputs i d h) (numbers_append m (take i outputs) (get_or outputs i d ∷ []))

pub text_more : (m : ℕ) (outputs : List Output) (i : ℕ) (d : Output) → i < length outputs
    → text_from m (take (i + 1) outputs) ≡ text_from m (take i outputs) ++ line_text (numbers_after m (take i outputs)) (get_or outputs i d)
text_more m outputs i d h =
    rw (take_more outputs i d h, text_append) (ap (λ x. text_from m (take i outputs) ++ x) (append_nil (line_text (numbers_after m (take i outputs)) (get_or outputs i d))))

-- in the midst of these datagrams
abbrev pub Sending : (all rest : List Datagram) → Option (List (Option Datagram)) → Option (List (Option Datagram)) → Type 0
Sending all rest u u' = (front : List Datagram) × (front ++ rest ≡ all) × Sends front u u'

pub sending_begins : (ds : List Datagram) (u : Option (List (Option Datagram))) → Sending ds ds u u
sending_begins ds u = ([], refl, sends_nil u)

pub sending_more : (all now rest : List Datagram) (u u' u'' : Option (List (Option Datagram))) → Sending all (now ++ rest) u u' → Sends now u' u''
    → Sending all rest u u''
sending_more all now rest u u' u'' s more = (s.0 ++ now, assoc s.0 now rest ∙ s.1, sends_trans u u' u'' s.0 now s.2 more)

pub sending_all : (all : List Datagram) (u u' : Option (List (Option Datagram))) → Sending all [] u u' → Sends all u u'
sending_all all u u' s = subst (λ l. Sends l u u') (sym (append_nil s.0) ∙ s.1) s.2

pub sending_cut : (all rest : List Datagram) (u u' : Option (List (Option Datagram))) → Sending all rest u u' → SendsFront all u u'
sending_cut all rest u u' s = (s.0, rest, s.1, s.2)

-- the next of these outputs
pub sending_next : (cs : List Client) (all : List Datagram) (before : List Output) (o : Output) (after : List Output)
    (u u' u'' : Option (List (Option Datagram))) → before ≡ o ∷ after → Sending all (datagrams_for cs before) u u'
    → Sends (datagram_for cs o) u' u'' → Sending all (datagrams_for cs after) u u''
sending_next cs all before o after u u' u'' is s more =
    sending_more all (datagram_for cs o) (datagrams_for cs after) u u' u'' (subst (λ x. Sending all (datagrams_for cs x) u u') is s) more

-- nothing was put out
pub puts_none : (text : List ℕ) (ds : List Datagram) (t : Option (List ℕ)) (u u' : Option (List (Option Datagram))) → u' ≡ u → PutsFront text ds t t u u'
puts_none text ds t u u' same = inl (([], text, Appends-nil t, refl), same)

-- a front of the text
pub puts_text : (text : List ℕ) (ds : List Datagram) (t t' : Option (List ℕ)) (u u' : Option (List (Option Datagram))) → u' ≡ u
    → AppendsFront t t' text → PutsFront text ds t t' u u'
puts_text text ds t t' u u' same front = inl (front, same)

-- the text, and a front of the datagrams
pub puts_sent : (text : List ℕ) (ds : List Datagram) (t t' : Option (List ℕ)) (u u' : Option (List (Option Datagram)))
    → Appends t t' text → SendsFront ds u u' → PutsFront text ds t t' u u'
puts_sent text ds t t' u u' whole front = inr (whole, front)
