-- The commands of the program, written out.
use Rattle.std.proofs.Common.{◌≡◌, refl, [], ◌∷◌, codes}
use Rattle.command_words.specs.Layouts.{app_with, app_for}
use Rattle.command_words.specs.declared.name.CommandName.TheVariants.{Select, Init, Talk, Serve, Drill, Fetch, Coverage}

pub select_is : app_with (codes "select") (codes "NET" ∷ codes "STA" ∷ codes "LOC" ∷ codes "CHA" ∷ codes "START" ∷ codes "END" ∷ []) []
    (codes "quality" ∷ codes "minimum" ∷ codes "longest" ∷ codes "max-bytes" ∷ []) ≡ app_for Select
unfolding app_for
select_is = refl

pub init_is : app_with (codes "init") [] (codes "journal" ∷ codes "operator" ∷ codes "ha1" ∷ []) [] ≡ app_for Init
unfolding app_for
init_is = refl

pub talk_is : app_with (codes "talk") [] (codes "journal" ∷ []) (codes "max-bytes" ∷ codes "max-lines" ∷ codes "max-records" ∷ codes "max-archive" ∷ []) ≡ app_for Talk
unfolding app_for
talk_is = refl

pub serve_is : app_with (codes "serve") [] (codes "journal" ∷ codes "listen" ∷ [])
    (codes "workers" ∷ codes "sessions" ∷ codes "max-bytes" ∷ codes "max-lines" ∷ codes "max-records" ∷ codes "max-archive" ∷ []) ≡ app_for Serve
unfolding app_for
serve_is = refl

pub drill_is : app_with (codes "drill") (codes "N" ∷ []) (codes "journal" ∷ []) [] ≡ app_for Drill
unfolding app_for
drill_is = refl

pub fetch_is : app_with (codes "fetch") (codes "NET" ∷ codes "STA" ∷ codes "LOC" ∷ codes "CHA" ∷ codes "START" ∷ codes "END" ∷ [])
    (codes "peer" ∷ []) [] ≡ app_for Fetch
unfolding app_for
fetch_is = refl

pub coverage_is : app_with (codes "coverage") (codes "START" ∷ codes "END" ∷ []) (codes "journal" ∷ []) (codes "max-lines" ∷ []) ≡ app_for Coverage
unfolding app_for
coverage_is = refl
