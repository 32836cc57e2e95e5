-- What a disk that tells its bytes says of a file.
use Rattle.std.proofs.Common.{◌≡◌, ◌≢◌, ℕ, ◌<◌, length, ◌∷◌, List, [], Option, None, Some, is_some, unwrap_or, true, refl, ap, sym, subst, arith, append-nil}
use Rattle.disk_model.specs.Effects.{WritesNothing}
use Rattle.disk_model.specs.View.{DiskView, WhereTold}
use Rattle.centre_select.specs.Had.{Had}
use Rattle.centre.specs.Given.{Given}
use Rattle.centre.specs.Settled.{KeepsFile}
use Rattle.streams.specs.Effects.{Grew}

-- what it holds, where it tells, is what it had
pub had_told : (content : Option (List ℕ)) (bytes : List ℕ) → (is_some content ≡ true → unwrap_or content [] ≡ bytes) → Had content bytes
had_told None bytes is = tt
had_told (Some xs) bytes is = is refl

pub grew_nothing : (old new : Option (List ℕ)) → new ≡ old → Grew old new []
grew_nothing old new same = subst (λ (o : Option (List ℕ)). Grew old o []) (sym same) (by old)
  where
    by : (o : Option (List ℕ)) → Grew o o []
    by None = tt
    by (Some xs) = sym (append-nil xs)

-- nothing of what is read counts, or the input alone
abbrev pub of_input : List ℕ → Given
of_input input = record { input = input; file = []; heard = [] }

abbrev pub nothing_given : Given
nothing_given = of_input []

pub some_bytes : (len : ℕ) (file : List ℕ) → len ≡ length file → 0 < len → file ≢ []
some_bytes len [] is some e = omega (arith, is, some)
some_bytes len (x ∷ xs) is some e = cc

-- a disk that tells its bytes tells that it holds them
pub told_by : {content : Option (List ℕ)} {file : List ℕ} → content ≡ Some file → is_some content ≡ true
told_by e = ap is_some e

pub file_by : {content : Option (List ℕ)} {file : List ℕ} → content ≡ Some file → unwrap_or content [] ≡ file
file_by e = ap (λ o. unwrap_or o []) e

-- where nothing was written, the file is as before
pub not_opened : (old new : DiskView) (Failed : Type 0) → WritesNothing old new Failed → WhereTold old (KeepsFile old new)
not_opened old new Failed run told = let kept = run.told told in record { content = kept.content; images = kept.crash }
