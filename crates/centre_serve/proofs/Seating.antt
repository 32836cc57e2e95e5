-- Lists that grow at their end, and shrink there.
use Rattle.std.proofs.Common.{◌≡◌, ◌∙◌, ◌||◌, Bool, true, false, ℕ, ◌+◌, ◌≤◌, List, [], ◌∷◌, ◌++◌, length, map, refl, sym, ap, arith}
use Rattle.std.specs.List.{AllByRecursion, list_any}

pub all_push : {X : Type 0} (P : X → Type 0) (xs : List X) (x : X) → AllByRecursion P xs → P x → AllByRecursion P (xs ++ x ∷ [])
all_push P [] x all one = (one, tt)
all_push P (y ∷ ys) x all one = (all.0, all_push P ys x all.1 one)

pub all_pop : {X : Type 0} (P : X → Type 0) (xs : List X) (x : X) → AllByRecursion P (xs ++ x ∷ []) → AllByRecursion P xs × P x
all_pop P [] x all = (tt, all.0)
all_pop P (y ∷ ys) x all = let rest = all_pop P ys x all.1 in ((all.0, rest.0), rest.1)

pub length_push : {X : Type 0} (xs : List X) (x : X) → length (xs ++ x ∷ []) ≡ length xs + 1
length_push [] x = refl
length_push (y ∷ ys) x = let more = length_push ys x in omega (arith, more)

map_push : {A C : Type 0} (f : A → C) (xs : List A) (x : A) (rest : List C) → map f (xs ++ x ∷ []) ++ rest ≡ map f xs ++ f x ∷ rest
map_push f [] x rest = refl
map_push f (y ∷ ys) x rest = ap (λ w. f y ∷ w) (map_push f ys x rest)

map_none : {A C : Type 0} (f : A → C) (xs : List A) → map f xs ++ [] ≡ map f xs
map_none f [] = refl
map_none f (x ∷ xs) = ap (λ w. f x ∷ w) (map_none f xs)

nothing_left : {X : Type 0} (xs : List X) → length xs ≡ 0 → xs ≡ []
nothing_left [] none = refl
nothing_left (x ∷ xs) none = absurd (omega (arith, none))

-- one goes over from the second list to the end of the first
pub goes_over : {A B C : Type 0} (f : A → C) (g : B → C) (xs more : List A) (x : A) (ys rest : List B) (y : B) (all : List C) → more ≡ xs ++ x ∷ [] → ys ≡ y ∷ rest → f x ≡ g y
    → map f xs ++ map g ys ≡ all → map f more ++ map g rest ≡ all
goes_over f g xs more x ys rest y all is_more is_ys same was =
    ap (λ w. map f w ++ map g rest) is_more ∙ map_push f xs x (map g rest) ∙ ap (λ w. map f xs ++ w ∷ map g rest) same ∙ ap (λ w. map f xs ++ map g w) (sym is_ys) ∙ was

-- all went over
pub all_over : {A B C : Type 0} (f : A → C) (g : B → C) (xs : List A) (ys : List B) (all : List C) → length ys ≡ 0 → map f xs ++ map g ys ≡ all → map f xs ≡ all
all_over f g xs ys all none was = sym (map_none f xs) ∙ ap (λ w. map f xs ++ map g w) (sym (nothing_left ys none)) ∙ was

pub none_of : {X Y : Type 0} (xs : List X) (ys : List Y) → length xs ≡ length ys → length ys ≡ 0 → xs ≡ []
none_of xs ys same none = nothing_left xs (same ∙ none)

-- one is taken from the end of one list as from the front of another
pub shorter : {X Y : Type 0} (xs left : List X) (x : X) (ys rest : List Y) (y : Y) → xs ≡ left ++ x ∷ [] → ys ≡ y ∷ rest → length xs ≡ length ys → length left ≡ length rest
shorter xs left x ys rest y is_xs is_ys same =
    let long = ap length is_xs ∙ length_push left x in
    let other = ap length is_ys in
    let more : length (y ∷ rest) ≡ length rest + 1 = omega arith in
    omega (arith, long, other, same, more)

-- there is room for one more where there was room for all that are left
pub room_kept : {X Y : Type 0} (xs more : List X) (x : X) (ys rest : List Y) (y : Y) (old new : ℕ) → more ≡ xs ++ x ∷ [] → ys ≡ y ∷ rest → new ≡ old → length xs + length ys ≤ old → length more + length rest ≤ new
room_kept xs more x ys rest y old new is_more is_ys same room =
    let long = ap length is_more ∙ length_push xs x in
    let other = ap length is_ys in
    let one : length (y ∷ rest) ≡ length rest + 1 = omega arith in
    omega (arith, long, other, one, same, room)

only : {C : Type 0} (xs : List C) → xs ++ [] ≡ xs
only [] = refl
only (x ∷ xs) = ap (λ w. x ∷ w) (only xs)

-- nothing is left of the list behind
pub rest_over : {B C : Type 0} (xs : List C) (g : B → C) (ys : List B) (all : List C) → length ys ≡ 0 → xs ++ map g ys ≡ all → xs ≡ all
rest_over xs g ys all none was = sym (only xs) ∙ ap (λ w. xs ++ map g w) (sym (nothing_left ys none)) ∙ was

pub none_over : {B : Type 0} (b : Bool) (f : B → Bool) (ys : List B) (all : Bool) → length ys ≡ 0 → b || list_any f ys ≡ all → b ≡ all
none_over true f ys all none was = was
none_over false f ys all none was = ap (λ w. list_any f w) (sym (nothing_left ys none)) ∙ was

pub length_map : {A C : Type 0} (f : A → C) (xs : List A) → length (map f xs) ≡ length xs
length_map f [] = refl
length_map f (x ∷ xs) = let more = length_map f xs in omega (arith, more)

pub as_long : {A B C : Type 0} (f : A → C) (g : B → C) (xs : List A) (ys : List B) → map f xs ≡ map g ys → length xs ≡ length ys
as_long f g xs ys same = sym (length_map f xs) ∙ ap length same ∙ length_map g ys
