-- Worked examples of the definitions.
use Rattle.std.proofs.Common.{◌≡◌, ℕ, pos, [], ◌∷◌, Some, None, codes, refl, arith}
use Rattle.std.specs.Ordering.{nat_cmp}
use Rattle.std.proofs.lemmas.Int.{ints}
use Rattle.form_urlencoded.specs.Form.{extend_pairs}
use Rattle.form_urlencoded.proofs.OnLiterals.{form_urlencoded_on_literals}
use Rattle.split_fetch.specs.Fronts.{first_move}
use Rattle.split_fetch.specs.Gathered.{put_all_behind}
use Rattle.split_fetch.specs.Windows.{Adjoin, Make}
use Rattle.split_fetch.specs.declared.window.Window.{Window}

-- of two moves the first is told
two_moves : first_move (4 ∷ 4 ∷ 5 ∷ 6 ∷ []) ≡ Some (4, 5)
two_moves = refl

no_move : first_move (4 ∷ 4 ∷ []) ≡ None
no_move = refl

no_answers : first_move [] ≡ None
no_answers = refl

-- of pairs in order of their first numbers, those with one number stay as they came
stays : put_all_behind (λ (a b : ℕ × ℕ). nat_cmp a.0 b.0) [] ((2, 1) ∷ (1, 5) ∷ (2, 0) ∷ (1, 4) ∷ [])
    ≡ (1, 5) ∷ (1, 4) ∷ (2, 1) ∷ (2, 0) ∷ []
stays = refl

abbrev from_to : ℕ → ℕ → Window
from_to start end = record { start = record { micros = pos start }; end = record { micros = pos end } }

-- a window of one instant, and one behind it
one_instant : Adjoin (from_to 3 3 ∷ from_to 4 9 ∷ [])
one_instant = (omega (arith, ints), refl, omega (arith, ints))

whole : Make (pos 3) (pos 9) (from_to 3 3 ∷ from_to 4 9 ∷ [])
whole = (refl, omega (arith, ints), (refl, omega (arith, ints), refl))

-- what has to be escaped in a form is: a question mark, a comma, a colon
escaped : extend_pairs [] ((codes "net", codes "IU") ∷ (codes "loc", []) ∷ (codes "cha", codes "BH?,B*") ∷
    (codes "start", codes "2024-02-01T00:00:07.500001") ∷ [])
    ≡ codes "net=IU&loc=&cha=BH%3F%2CB*&start=2024-02-01T00%3A00%3A07.500001"
unfolding form_urlencoded_on_literals
escaped = refl
