-- What a program comes to, call by call of its maker.
use Rattle.std.proofs.Common.{◌≡◌, ℕ, List, [], ◌∷◌, Option, Some, None, Bool, true, false, Result, Ok, Err, arith, subst}
use Rattle.std.proofs.lemmas.Grind.{common_steps}
use Rattle.std.specs.Prelude.{◌≢◌, IsErr, MatchResult}
use Rattle.std.specs.Result.{result_unwrap_or}
use Rattle.std.specs.declared.alloc.AllocError.{AllocError}
use Rattle.vr_edge.specs.Told.{Grows}
use Rattle.vr_base.specs.declared.status.Status.{Status}
use Rattle.vr_base.specs.declared.status.Status.TheVariants.{NoMemory}
use Rattle.vr_top.specs.Beginning.{Began, Comes, Makes, makes, no_ground, no_objects, no_path, no_words, path_told, runs, words_after}
use Rattle.vr_top.specs.Making.{Ground, Made, Making, Path, TakenBack, Words}
use Rattle.vr_top.specs.declared.program.Untold.{Untold}
use Rattle.vr_top.specs.declared.program.Untold.TheVariants as untold

-- one call, and then others
call_and : {X : Type 0} (a b c : Option (List X)) (x : X) (ys : List X) → Grows a b (x ∷ []) → Grows b c ys → Grows a c (x ∷ ys)
call_and None None c x ys one more = more
call_and None (Some l) c x ys one more = absurd (let clash : Some l ≡ None = one in cc)
call_and (Some l) None None x ys one more = tt
call_and (Some l) None (Some n) x ys one more = absurd (let clash : Some n ≡ None = more in cc)
call_and (Some l) (Some m) None x ys one more = tt
call_and (Some l) (Some m) (Some n) x ys one more = rw (more, one) (grind (arith, common_steps))

-- what failed is told so
pub failed : {A E Q : Type 0} (P : A → Type 0) (r : Result A E) → IsErr r → Q → MatchResult r P (λ e. Q)
failed P (Ok x) is q = absurd (let clash : false ≡ true = is in cc)
failed P (Err e) is q = q

-- without its ground a program comes to want of memory
pub groundless : {O T : Type 0} (Run : List (List ℕ) → O → O → Status → Type 0) (there : Bool) (a b : Option (List (Making O T)))
    → there ≡ false → Grows a b (Ground there ∷ []) → Began (Comes Run) a b NoMemory
groundless Run there a b is one = (Ground false ∷ [], (rw is at one), no_ground)

-- and on its ground to what comes of what is made
pub grounded : {O T : Type 0} (Run : List (List ℕ) → O → O → Status → Type 0) (there : Bool) (a b c : Option (List (Making O T)))
    (r : Result Status AllocError) → there ≡ true → Grows a b (Ground there ∷ []) → MatchResult r (λ status. Began (Makes Run) b c status) (λ e. Began (Makes Run) b c NoMemory)
    → Began (Comes Run) a c (result_unwrap_or r NoMemory)
grounded Run there a b c (Ok status) is one more = (Ground true ∷ more.0, call_and a b c (Ground true) more.0 (rw is at one) more.1, makes more.0 status more.2)
grounded Run there a b c (Err e) is one more = (Ground true ∷ more.0, call_and a b c (Ground true) more.0 (rw is at one) more.1, makes more.0 NoMemory more.2)

-- memory is short for the words
pub short_of_words : {O T : Type 0} (Run : List (List ℕ) → O → O → Status → Type 0) (words : Result (List (List ℕ)) Untold) (a b : Option (List (Making O T)))
    → words ≡ Err untold.NoMemory → Grows a b (Words words ∷ []) → Began (Makes Run) a b NoMemory
short_of_words Run words a b is one = (Words (Err untold.NoMemory) ∷ [], (rw is at one), no_words)

-- for the path
pub short_of_path : {O T : Type 0} (Run : List (List ℕ) → O → O → Status → Type 0) (words : Result (List (List ℕ)) Untold) (path : Result T Untold) (a b c : Option (List (Making O T)))
    → words ≢ Err untold.NoMemory → path ≡ Err untold.NoMemory → Grows a b (Words words ∷ []) → Grows b c (Path path ∷ []) → Began (Makes Run) a c NoMemory
short_of_path Run words path a b c there is gw gp = (_, call_and a b c _ _ gw (rw is at gp), no_path words there)

-- for the objects
pub short_of_objects : {O T : Type 0} (Run : List (List ℕ) → O → O → Status → Type 0) (words : Result (List (List ℕ)) Untold) (path : Result T Untold) (at : Option T)
    (objects : Result O AllocError) (e : AllocError) (a b c d : Option (List (Making O T)))
    → words ≢ Err untold.NoMemory → at ≡ path_told path → path ≢ Err untold.NoMemory → objects ≡ Err e
    → Grows a b (Words words ∷ []) → Grows b c (Path path ∷ []) → Grows c d (Made at objects ∷ []) → Began (Makes Run) a d NoMemory
short_of_objects Run words path at objects e a b c d there tells known is gw gp go =
    (_, call_and a b d _ _ gw (call_and b c d _ _ gp (rw (tells, is) at go)), no_objects words path e there known)

-- and for nothing
pub short_of_nothing : {O T : Type 0} (Run : List (List ℕ) → O → O → Status → Type 0) (words : Result (List (List ℕ)) Untold) (after : List (List ℕ)) (path : Result T Untold)
    (at : Option T) (objects : Result O AllocError) (o o' : O) (status : Status) (a b c d e : Option (List (Making O T)))
    → after ≡ words_after words → words ≢ Err untold.NoMemory → at ≡ path_told path → path ≢ Err untold.NoMemory → objects ≡ Ok o
    → Grows a b (Words words ∷ []) → Grows b c (Path path ∷ []) → Grows c d (Made at objects ∷ []) → Grows d e (TakenBack o' ∷ [])
    → Run after o o' status → Began (Makes Run) a e status
short_of_nothing Run words after path at objects o o' status a b c d e are there tells known is gw gp go gb ran = (
  _,
  call_and a b e _ _ gw (call_and b c e _ _ gp (call_and c d e _ _ (rw (tells, is) at go) gb)),
  runs words path o o' status there known (subst (λ words'. Run words' o o' status) are ran),
)
