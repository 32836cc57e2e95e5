-- What clap says of the commands of the program.
use Rattle.std.proofs.Common.{◌≡◌, ◌∙◌, ap, sym, refl, true, List, [], ◌∷◌, inl, inr}
use Rattle.clap.specs.Kinds.{Kinds, HasKind}
use Rattle.clap.specs.Values.{kind_of}
use Rattle.clap.specs.declared.error.Error.{Error}
use Rattle.clap.specs.declared.error.kind.ErrorKind.TheVariants.{OutOfMemory}
use Rattle.clap.specs.Words.{App, Text, is_simple, matches_of, HasMatchesOf, found_of, rows_of, fault_of, is_simple_and_free}
use Rattle.clap.specs.declared.parser.matches.ArgMatches.{ArgMatches}
use Rattle.command_words.specs.Layouts.{app_for}
use Rattle.command_words.specs.declared.name.CommandName.{CommandName}
use Rattle.command_words.specs.declared.name.CommandName.TheVariants.{Select, Init, Talk, Serve, Drill, Fetch, Coverage}

pub simple : (name : CommandName) → is_simple (app_for name) ≡ true
unfolding app_for
simple Select = refl
simple Init = refl
simple Talk = refl
simple Serve = refl
simple Drill = refl
simple Fetch = refl
simple Coverage = refl

pub free : (name : CommandName) → is_simple_and_free (app_for name) ≡ true
unfolding app_for
free Select = refl
free Init = refl
free Talk = refl
free Serve = refl
free Drill = refl
free Fetch = refl
free Coverage = refl

-- the values that were found are those of the definition
pub rows_found : (a : App) (name : CommandName) (words : List Text) (m : ArgMatches) → a ≡ app_for name → HasMatchesOf a words m
    → rows_of (found_of m) ≡ matches_of (app_for name) words
rows_found a name words m app h = (h (ap is_simple app ∙ simple name)).0 ∙ ap (λ (x : App). matches_of x words) app

pub no_fault : (a : App) (name : CommandName) (words : List Text) → a ≡ app_for name
    → (is_simple_and_free a ≡ true → fault_of a words ≡ []) → fault_of (app_for name) words ≡ []
no_fault a name words app h = ap (λ (x : App). fault_of x words) (sym app) ∙ h (ap is_simple_and_free app ∙ free name)

-- an error that is not about memory has a kind of the list
among_some : (kinds : Kinds) (e : Error) → HasKind kinds e → (kind_of e ≡ OutOfMemory → ⊥) → kinds ≡ [] → ⊥
among_some [] e (inl k) ne h = ne k
among_some [] e (inr k) ne h = k
among_some (x ∷ xs) e k ne h = cc

pub some_fault : (a : App) (name : CommandName) (words : List Text) (e : Error) → a ≡ app_for name
    → (is_simple_and_free a ≡ true → HasKind (fault_of a words) e) → (kind_of e ≡ OutOfMemory → ⊥) → fault_of (app_for name) words ≡ [] → ⊥
some_fault a name words e app h ne none =
    among_some (fault_of a words) e (h (ap is_simple_and_free app ∙ free name)) ne (ap (λ (x : App). fault_of x words) app ∙ none)
