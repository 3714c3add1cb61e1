-- Forms out of arguments and of the commands below.
use Rattle.std.proofs.Common.{◌≡◌, ◌∙◌, ℕ, ◌+◌, ◌<◌, ◌≤◌, List, length, drop, get_or, Result, Ok, Err, ap, ap₂, subst, sym}
use Rattle.std.specs.Prelude.{IfOk, IsOkAnd}
use Rattle.std.specs.declared.alloc.AllocError.{AllocError}
use Rattle.clap.specs.declared.builder.command.Command.{Command}
use Rattle.std.proofs.lemmas.List.{at_drop_more, at_drop_all}
use Rattle.std.specs.Borrow.{Bor}
use Rattle.clap.specs.Words.{App, Rule, Text}
use Rattle.vr_args.specs.Asked.{texts_now}
use Rattle.vr_args.specs.Forms.{above, form_of, making, taking, wanted, wanting}

pub wanting_more : (a : App) (ids : List (Bor Text)) (i : ℕ) (d : Bor Text) → i < length ids
    → wanting a (texts_now (drop i ids)) ≡ wanting (taking a (wanted (get_or ids i d).now)) (texts_now (drop (i + 1) ids))
unfolding wanting
wanting_more a ids i d h = at_drop_more (λ ids. wanting a (texts_now ids)) ids i d h

pub wanting_all : (a : App) (ids : List (Bor Text)) (i : ℕ) → length ids ≤ i → wanting a (texts_now (drop i ids)) ≡ a
unfolding wanting
wanting_all a ids i h = at_drop_all (λ ids. wanting a (texts_now ids)) ids i h

-- the same form by another name of what was before
pub wanting_same : (r : Result Command AllocError) (a b : App) (ids : List Text) → a ≡ b → IfOk r (λ c. form_of c ≡ wanting a ids)
    → IfOk r (λ c. form_of c ≡ wanting b ids)
wanting_same r a b ids e h = subst (λ (x : App). IfOk r (λ c. form_of c ≡ wanting x ids)) e h

-- the next required argument, where there is memory for the command
pub wanting_next : (r r' : Result Command AllocError) (ids : List (Bor Text)) (i : ℕ) (d : Bor Text) (all : App) → i < length ids
    → IfOk r (λ c. wanting (form_of c) (texts_now (drop i ids)) ≡ all)
    → IfOk r' (λ c. IsOkAnd r (λ b. form_of c ≡ taking (form_of b) (wanted (get_or ids i d).now)))
    → IfOk r' (λ c. wanting (form_of c) (texts_now (drop (i + 1) ids)) ≡ all)
wanting_next (Ok b) (Ok c) ids i d all h was is = rw is (sym (wanting_more (form_of b) ids i d h) ∙ was)
wanting_next (Err f) (Ok c) ids i d all h was is = absurd is
wanting_next r (Err f) ids i d all h was is = tt

-- all of them
pub wanting_done : (r : Result Command AllocError) (ids : List (Bor Text)) (i : ℕ) (all : App) → length ids ≤ i
    → IfOk r (λ c. wanting (form_of c) (texts_now (drop i ids)) ≡ all) → IfOk r (λ c. form_of c ≡ all)
wanting_done (Ok c) ids i all h was = sym (wanting_all (form_of c) ids i h) ∙ was
wanting_done (Err f) ids i all h was = tt

-- one argument more, where there is memory for the command
pub taken : (r command : Result Command AllocError) (a : App) (was is : Rule) → was ≡ is
    → IfOk r (λ c. IsOkAnd command (λ b. form_of c ≡ taking (form_of b) was)) → IfOk command (λ b. form_of b ≡ a) → IfOk r (λ c. form_of c ≡ taking a is)
taken (Ok c) (Ok b) a was is e put form = put ∙ ap₂ taking form e
taken (Ok c) (Err f) a was is e put form = absurd put
taken (Err f) command a was is e put form = tt

-- a command below one, where there is memory for both
pub put_below : (r command sub : Result Command AllocError) (a b : App)
    → IfOk r (λ c. IsOkAnd command (λ d. IsOkAnd sub (λ s. form_of c ≡ above (form_of d) (form_of s))))
    → IfOk command (λ d. form_of d ≡ a) → IfOk sub (λ s. form_of s ≡ b) → IfOk r (λ c. form_of c ≡ above a b)
put_below (Ok c) (Ok d) (Ok s) a b put form below = put ∙ ap₂ above form below
put_below (Ok c) (Ok d) (Err f) a b put form below = absurd put
put_below (Ok c) (Err f) sub a b put form below = absurd put
put_below (Err f) command sub a b put form below = tt

-- the flags that say what a file is made as
pub taken_twice : (r mid command : Result Command AllocError) (was is was' is' : Rule) → was ≡ is → was' ≡ is'
    → IfOk mid (λ c. IsOkAnd command (λ b. form_of c ≡ taking (form_of b) was)) → IfOk r (λ c. IsOkAnd mid (λ b. form_of c ≡ taking (form_of b) was'))
    → IfOk r (λ c. IsOkAnd command (λ b. form_of c ≡ taking (taking (form_of b) is) is'))
taken_twice (Ok c) (Ok m) (Ok b) was is was' is' e e' put put' = put' ∙ ap₂ taking (put ∙ ap (λ rule. taking (form_of b) rule) e) e'
taken_twice (Ok c) (Ok m) (Err f) was is was' is' e e' put put' = absurd put
taken_twice (Ok c) (Err f) command was is was' is' e e' put put' = absurd put'
taken_twice (Err f) mid command was is was' is' e e' put put' = tt

pub made : (r command : Result Command AllocError) (a : App) → IfOk r (λ c. IsOkAnd command (λ b. form_of c ≡ making (form_of b)))
    → IfOk command (λ b. form_of b ≡ a) → IfOk r (λ c. form_of c ≡ making a)
made (Ok c) (Ok b) a put form = put ∙ ap making form
made (Ok c) (Err f) a put form = absurd put
made (Err f) command a put form = tt
