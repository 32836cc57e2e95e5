-- The value of a header spells one authorization, or none.
use Rattle.std.proofs.Common.{◌≡◌, ℕ, suc, ◌≤◌, Bool, true, false, List, [], ◌∷◌, ◌++◌, length, take, drop, Option, Some, None, Result, Ok, Err, MatchResult, IfOk, IfErr, cond, codes, refl, sym, ap, ap₂, subst, ◌∙◌, arith, length-append}
use Rattle.std.specs.Prelude.{nat_le, ◌==◌}
use Rattle.std.specs.Option.{option_and_then}
use Rattle.std.specs.Str.{str_eq_ignore_ascii_case, str_to_ascii_lowercase}
use Rattle.std.proofs.Math.Seq.{take-append_seam, drop-append_seam}
use Rattle.std.proofs.lemmas.Bool.{cond-true, and_parts, and_from}
use Rattle.std.proofs.lemmas.Bool.Decides.{nat_tests}
use Rattle.std.proofs.lemmas.List.{take-append-drop}
use Rattle.std.proofs.lemmas.Slice.Eq.{bytes_eq-Decides}
use Rattle.list_laws.specs.Only.{IsOnly}
use Rattle.http_digest.specs.Credentials.{space, print_items}
use Rattle.http_digest.specs.Items.{Refuses, behind_space, names_scheme, behind_scheme, items_from, nothing_read, authorization_in}
use Rattle.http_digest.specs.Parts.{authorization_said, IsAuthorization, IsAuthFault, RefusesHeader}
use Rattle.http_digest.specs.declared.authorization.AuthFault.{AuthFault}
use Rattle.http_digest.specs.declared.authorization.AuthFault.TheVariants.{Unreadable, OutOfMemory}
use Rattle.http_digest.specs.declared.authorization.Authorization.{Authorization}
use Rattle.http_digest.specs.declared.item.Item.{Item}
use Rattle.http_digest.specs.declared.scan.Place.TheVariants as place
use Rattle.http_digest.proofs.ItemsLeft.{items_left}
use Rattle.http_digest.proofs.ItemsRead.{items_read, spaces_read}
use Rattle.http_digest.proofs.ScanSteps.{same_byte}

lower_length : (text : List ℕ) → length (str_to_ascii_lowercase text) ≡ length text
lower_length [] = refl
lower_length (b ∷ text) = ap suc (lower_length text)

-- a text that is the name of the scheme, but for case, has its length
scheme_length : (scheme : List ℕ) → str_eq_ignore_ascii_case scheme (codes "Digest") ≡ true → length scheme ≡ 6
scheme_length scheme h =
    sym (lower_length scheme) ∙ ap (λ (t : List ℕ). length t) ((bytes_eq-Decides (str_to_ascii_lowercase scheme) (str_to_ascii_lowercase (codes "Digest"))).0 h)

six_test : (n : ℕ) → 6 ≤ n → nat_le 6 n ≡ true
six_test n h = grind (arith, nat_tests)

scheme_read : (scheme rest : List ℕ) → str_eq_ignore_ascii_case scheme (codes "Digest") ≡ true → behind_scheme (scheme ++ space ∷ rest) ≡ Some rest
scheme_read scheme rest h =
    let size = scheme_length scheme h in
    let front : take 6 (scheme ++ space ∷ rest) ≡ scheme = subst (λ n. take n (scheme ++ space ∷ rest) ≡ scheme) size (take-append_seam scheme (space ∷ rest)) in
    let back : drop 6 (scheme ++ space ∷ rest) ≡ space ∷ rest = subst (λ n. drop n (scheme ++ space ∷ rest) ≡ space ∷ rest) size (drop-append_seam scheme (space ∷ rest)) in
    let long : nat_le 6 (length (scheme ++ space ∷ rest)) ≡ true = six_test _ (omega (arith, length-append scheme (space ∷ rest), size)) in
    let named : str_eq_ignore_ascii_case (take 6 (scheme ++ space ∷ rest)) (codes "Digest") ≡ true = ap (λ t. str_eq_ignore_ascii_case t (codes "Digest")) front ∙ h in
    cond-true _ _ _ (and_from (nat_le 6 (length (scheme ++ space ∷ rest))) (str_eq_ignore_ascii_case (take 6 (scheme ++ space ∷ rest)) (codes "Digest")) long named)
    ∙ ap behind_space back

space_split : (text rest : List ℕ) → behind_space text ≡ Some rest → text ≡ space ∷ rest
space_split [] rest h = absurd (let e : None ≡ Some rest = h in cc)
space_split (b ∷ text) rest h = by_byte (b == space) refl h
  where
    by_byte : (is : Bool) → (b == space) ≡ is → cond is (Some text) None ≡ Some rest → b ∷ text ≡ space ∷ rest
    by_byte true is h = ap₂ (λ (c : ℕ) (t : List ℕ). c ∷ t) (same_byte b space is) (let e : Some text ≡ Some rest = h in cc)
    by_byte false is h = absurd (let e : None ≡ Some rest = h in cc)

scheme_split : (header rest : List ℕ) → behind_scheme header ≡ Some rest
    → (header ≡ take 6 header ++ space ∷ rest) × (str_eq_ignore_ascii_case (take 6 header) (codes "Digest") ≡ true)
scheme_split header rest h = by_name (names_scheme header) refl h
  where
    by_name : (is : Bool) → names_scheme header ≡ is → cond is (behind_space (drop 6 header)) None ≡ Some rest
        → (header ≡ take 6 header ++ space ∷ rest) × (str_eq_ignore_ascii_case (take 6 header) (codes "Digest") ≡ true)
    by_name true is h = (
      sym (take-append-drop 6 header) ∙ ap (λ (t : List ℕ). take 6 header ++ t) (space_split (drop 6 header) rest h),
      (and_parts (nat_le 6 (length header)) (str_eq_ignore_ascii_case (take 6 header) (codes "Digest")) is).1,
    )
    by_name false is h = absurd (let e : None ≡ Some rest = h in cc)

-- what a header spells is read from it
pub read_back : (header : List ℕ) (a : Authorization) → IsAuthorization header a → authorization_in header ≡ Some a
read_back header a h =
    let c = h.credentials in
    ap authorization_in h.printed
    ∙ ap (λ o. option_and_then authorization_said (option_and_then (items_from nothing_read) o)) (scheme_read c.scheme (c.spaces ++ print_items c.first c.more) h.valid.scheme_is)
    ∙ ap (option_and_then authorization_said) (spaces_read [] c.spaces (print_items c.first c.more) h.valid.spaces_are ∙ items_read [] c.first c.more h.valid.first_is h.valid.more_are)
    ∙ h.says

-- what is read from a header, it spells
pub spelled : (header : List ℕ) (a : Authorization) → authorization_in header ≡ Some a → IsAuthorization header a
spelled header a h = by_rest (behind_scheme header) refl h
  where
    by_items : (rest : List ℕ) → behind_scheme header ≡ Some rest → (o : Option (List Item)) → items_from nothing_read rest ≡ o
        → option_and_then authorization_said o ≡ Some a → IsAuthorization header a
    by_items rest is (Some items) read says =
        let l = items_left rest items place.Before [] [] [] read refl refl in
        let split = scheme_split header rest is in
        record {
          credentials = record { scheme = take 6 header; spaces = l.spaces; first = l.first; more = l.more };
          valid = record { scheme_is = split.1; spaces_are = l.spaces_are; first_is = l.first_is; more_are = l.more_are };
          printed = split.0 ∙ ap (λ (t : List ℕ). take 6 header ++ space ∷ t) l.printed;
          says = ap authorization_said (sym l.told) ∙ says;
        }
    by_items rest is None read says = absurd (let e : None ≡ Some a = says in cc)

    by_rest : (o : Option (List ℕ)) → behind_scheme header ≡ o
        → option_and_then authorization_said (option_and_then (items_from nothing_read) o) ≡ Some a → IsAuthorization header a
    by_rest (Some rest) is says = by_items rest is (items_from nothing_read rest) refl says
    by_rest None is says = absurd (let e : None ≡ Some a = says in cc)

-- nothing read: nothing spelled
pub none_spelled : (header : List ℕ) → authorization_in header ≡ None → (a : Authorization) → ¬ (IsAuthorization header a)
none_spelled header none a h = let e : Some a ≡ None = sym (read_back header a h) ∙ none in absurd cc

pub ok_found : (header : List ℕ) (r : Result Authorization AuthFault) → MatchResult r (λ a. authorization_in header ≡ Some a) (Refuses (authorization_in header)) → IfOk r (IsAuthorization header)
ok_found header (Ok a) h = spelled header a h
ok_found header (Err fault) h = tt

pub fault_told : (header : List ℕ) (r : Result Authorization AuthFault) → MatchResult r (λ a. authorization_in header ≡ Some a) (Refuses (authorization_in header)) → IfErr r (RefusesHeader header)
fault_told header (Ok a) h = tt
fault_told header (Err Unreadable) h = none_spelled header h
fault_told header (Err OutOfMemory) h = tt

-- the one right answer
pub one_answer : (header : List ℕ) → (answer : Result Authorization AuthFault) × IsOnly (IsAuthorization header) (IsAuthFault header) answer
one_answer header = by_reading (authorization_in header) refl
  where
    only_some : (a : Authorization) → authorization_in header ≡ Some a → (other : Result Authorization AuthFault) → MatchResult other (IsAuthorization header) (IsAuthFault header) → other ≡ Ok a
    only_some a is (Ok b) h = let e : Some b ≡ Some a = sym (read_back header b h) ∙ is in let same : b ≡ a = cc in ap Ok same
    only_some a is (Err Unreadable) h = absurd (h a (spelled header a is))
    only_some a is (Err OutOfMemory) h = absurd h

    only_none : authorization_in header ≡ None → (other : Result Authorization AuthFault) → MatchResult other (IsAuthorization header) (IsAuthFault header) → other ≡ Err Unreadable
    only_none none (Ok b) h = absurd (none_spelled header none b h)
    only_none none (Err Unreadable) h = refl
    only_none none (Err OutOfMemory) h = absurd h

    by_reading : (o : Option Authorization) → authorization_in header ≡ o → (answer : Result Authorization AuthFault) × IsOnly (IsAuthorization header) (IsAuthFault header) answer
    by_reading (Some a) is = (Ok a, record { right = spelled header a is; only = only_some a is })
    by_reading None none = (Err Unreadable, record { right = none_spelled header none; only = only_none none })
