-- What is gathered, name by name.
use Rattle.std.proofs.Common.{ℕ, ◌+◌, ◌-◌, ◌≤◌, ◌<◌, ◌≡◌, arith, refl, sym, ap, ◌∙◌, List, [], ◌∷◌, ◌++◌, length, drop, get_or, Option, Some, None, append_assoc, Result, Ok, Err}
use Rattle.std.specs.Prelude.{min}
use Rattle.std.proofs.lemmas.List.{append-nil, at_drop_more, at_drop_all}
use Rattle.vr_disk.specs.DiskState.{Face}
use Rattle.vr_ckpt.specs.declared.name.Name.{Name}
use Rattle.std.specs.Prelude.{IfOk}
use Rattle.std.specs.Option.{option_and_then}
use Rattle.vr_ckpt.specs.Blocks.{Content, named}
use Rattle.vr_ckpt.specs.Grid.{named_at}
use Rattle.vr_ckpt.specs.Loads.{HasSome, behind, data_at, data_of, gathered, gathered_both, load_of, read_root, root_at, text_of, with_data}
use Rattle.vr_ckpt.specs.declared.loading.Gathered.{Gathered}
use Rattle.vr_ckpt.specs.declared.table.Payload.{Payload}

gathered_cons : (f : Face) (size : ℕ) (n : Name) (ns : List Name) → gathered f size (n ∷ ns) ≡ with_data n (data_at f n (min size 3968)) (gathered f (size - 3968) ns)
unfolding gathered
gathered_cons f size n ns = refl

pub gathers_start : (g : Gathered) → g ≡ behind [] [] g
unfolding behind
gathers_start g = refl

step : (f : Face) (size i : ℕ) (ns : List Name) (n none : Name) → i < length ns → n ≡ get_or ns i none → gathered f size (drop i ns) ≡ with_data n (data_at f n (min size 3968)) (gathered f (size - 3968) (drop (i + 1) ns))
step f size i ns n none l e = at_drop_more (gathered f size) ns i none l ∙ (ap (λ (m : Name). gathered f size (m ∷ drop (i + 1) ns)) (sym e) ∙ gathered_cons f size n (drop (i + 1) ns))

pub gathers_on : (f : Face) (size left i : ℕ) (ns : List Name) (n none : Name) (found : Option (List ℕ)) (ps ps' : List Payload) (ms ms' : List Name) (all : Gathered) → i < length ns → n ≡ get_or ns i none
    → found ≡ data_at f n (min size 3968) → left ≡ size - 3968 → ((g : Gathered) → behind ps' ms' g ≡ behind ps ms (with_data n found g))
    → all ≡ behind ps ms (gathered f size (drop i ns)) → all ≡ behind ps' ms' (gathered f left (drop (i + 1) ns))
gathers_on f size left i ns n none found ps ps' ms ms' all l e d m add h =
    let g = gathered f left (drop (i + 1) ns) in
    h ∙ (ap (behind ps ms) (step f size i ns n none l e ∙ (ap (λ o. with_data n o (gathered f (size - 3968) (drop (i + 1) ns))) (sym d) ∙ ap (λ k. with_data n found (gathered f k (drop (i + 1) ns))) (sym m))) ∙ sym (add g))

pub adds_missing : (n : Name) (ps : List Payload) (ms ms' : List Name) → ms' ≡ ms ++ n ∷ [] → (g : Gathered) → behind ps ms' g ≡ behind ps ms (with_data n None g)
unfolding behind
adds_missing n ps ms ms' s g =
    ap (λ (x : List Name). let y : Gathered = record { payloads = ps ++ g.payloads; missing = x } in y) (ap (λ x. x ++ g.missing) s ∙ append_assoc ms (n ∷ []) g.missing)

pub adds_there : (n : Name) (bytes : List ℕ) (ps ps' : List Payload) (ms : List Name) → ps' ≡ ps ++ record { name = n; bytes = bytes } ∷ [] → (g : Gathered) → behind ps' ms g ≡ behind ps ms (with_data n (Some bytes) g)
unfolding behind
adds_there n bytes ps ps' ms s g =
    let p : Payload = record { name = n; bytes = bytes } in
    ap (λ (x : List Payload). let y : Gathered = record { payloads = x; missing = ms ++ g.missing } in y) (ap (λ x. x ++ g.payloads) s ∙ append_assoc ps (p ∷ []) g.payloads)

pub gathers_end : (f : Face) (size i : ℕ) (ns : List Name) (ps : List Payload) (ms : List Name) (all : Gathered) → length ns ≤ i → all ≡ behind ps ms (gathered f size (drop i ns))
    → (let y : Gathered = record { payloads = ps; missing = ms } in y) ≡ all
unfolding behind gathered
gathers_end f size i ns ps ms all l h =
    sym (h ∙ (ap (behind ps ms) (at_drop_all (gathered f size) ns i l)
    ∙ (ap (λ (x : List Payload). let y : Gathered = record { payloads = x; missing = ms ++ [] } in y) (append-nil ps) ∙ ap (λ (x : List Name). let y : Gathered = record { payloads = ps; missing = x } in y) (append-nil ms))))

-- texts
pub text_more : (ps : List Payload) (i : ℕ) (p : Payload) → i < length ps → p ≡ get_or ps i p → text_of (drop i ps) ≡ p.bytes ++ text_of (drop (i + 1) ps)
unfolding text_of
text_more ps i p l e = at_drop_more text_of ps i p l ∙ ap (λ (q : Payload). q.bytes ++ text_of (drop (i + 1) ps)) (sym e)

pub text_end : (ps : List Payload) (i : ℕ) → length ps ≤ i → text_of (drop i ps) ≡ []
unfolding text_of
text_end ps i l = at_drop_all text_of ps i l

-- what a whole block has
pub data_is : (f : Face) (name : Name) (b : List ℕ) (size : ℕ) (c : Content) → named_at f name ≡ named name b → named name b ≡ Some c → data_at f name size ≡ data_of size c
unfolding data_at
data_is f name b size c e s = ap (option_and_then (data_of size)) (e ∙ s)

pub data_none : (f : Face) (name : Name) (size : ℕ) → named_at f name ≡ None → data_at f name size ≡ None
unfolding data_at
data_none f name size e = ap (option_and_then (data_of size)) e

pub root_is : (f : Face) (name : Name) (b : List ℕ) (c : Content) → named_at f name ≡ named name b → named name b ≡ Some c → root_at f name ≡ read_root c
unfolding root_at
root_is f name b c e s = ap (option_and_then read_root) (e ∙ s)

pub if_ok : {T E : Type 0} → (P Q : T → Type 0) (r : Result T E) → ((x : T) → P x → Q x) → IfOk r P → IfOk r Q
if_ok P Q (Ok x) h p = h x p
if_ok P Q (Err e) h p = tt

-- at least one block is named
some_named : (s k : Gathered) (ns : List Name) → HasSome (load_of s k ns)
some_named s k [] = tt
some_named s k (n ∷ ns) = omega arith

pub has_some : (s k : Gathered) → HasSome (gathered_both s k)
has_some s k = some_named s k (s.missing ++ k.missing)
