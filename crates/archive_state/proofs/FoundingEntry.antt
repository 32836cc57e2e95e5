-- The founding entry of an operator comes first in a history.
use Rattle.std.proofs.Common.{◌≡◌, ◌∙◌, ◌&&◌, ℕ, ◌+◌, true, [], ◌∷◌, ◌++◌, length, take, drop, refl, sym, ap, arith, codes, append_assoc, length-append}
use Rattle.std.specs.Str.{bytes_eq}
use Rattle.std.proofs.lemmas.Bool.Decides.{nat_tests}
use Rattle.std.proofs.lemmas.Slice.Eq.{bytes_eq-Decides}
use Rattle.epochs.specs.Kinds.{Text}
use Rattle.epochs.specs.Fields.{is_user_name, is_ha1}
use Rattle.archive_state.specs.Lawful.{founding_body, ha1_behind, founding_entry, is_founding, is_next}
use Rattle.archive_state.proofs.Founding.{ha1_parts}

take_front : (xs ys : Text) → take (length xs) (xs ++ ys) ≡ xs
take_front [] ys = refl
take_front (x ∷ xs) ys = λ i. x ∷ take_front xs ys i

drop_front : (xs ys : Text) → drop (length xs) (xs ++ ys) ≡ ys
drop_front [] ys = refl
drop_front (x ∷ xs) ys = drop_front xs ys

module _ (name ha1 : Text) (name_is : is_user_name name ≡ true) (ha1_is : is_ha1 ha1 ≡ true) where
  abbrev front : Text
  front = codes "USR|" ++ name ++ codes "|"

  front_length : length front ≡ length name + 5
  front_length =
      let a = length-append (codes "USR|" ++ name) (codes "|") in
      let b = length-append (codes "USR|") name in
      omega (arith, a, b)

  ha1_length : length ha1 ≡ 32
  ha1_length = let h = (ha1_parts name ha1 name_is ha1_is).0 in grind (arith, nat_tests)

  -- the HA1 is read back
  ha1_back : ha1_behind name (founding_body name ha1) ≡ ha1
  ha1_back =
      ap (λ (xs : Text). take 32 (drop (length name + 5) xs)) (append_assoc front ha1 (codes "|operator\n"))
      ∙ ap (λ (n : ℕ). take 32 (drop n (front ++ (ha1 ++ codes "|operator\n")))) (sym front_length)
      ∙ ap (take 32) (drop_front front (ha1 ++ codes "|operator\n"))
      ∙ ap (λ (n : ℕ). take n (ha1 ++ codes "|operator\n")) (sym ha1_length)
      ∙ take_front ha1 (codes "|operator\n")

  founds_is : is_founding (founding_entry name ha1) ≡ true
  founds_is =
      ap (λ (xs : Text). (is_user_name name && is_ha1 xs) && bytes_eq (founding_body name ha1) (founding_body name xs)) ha1_back
      ∙ (λ i. (name_is i && ha1_is i) && (bytes_eq-Decides (founding_body name ha1) (founding_body name ha1)).1 refl i)

  pub founding_next : is_next [] (founding_entry name ha1) ≡ true
  unfolding is_next
  founding_next = founds_is
