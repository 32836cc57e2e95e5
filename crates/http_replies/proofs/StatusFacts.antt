-- What holds of each status of a reply.
use Rattle.std.proofs.Common.{◌≡◌, ℕ, ◌-◌, ◌≤◌, ◌<◌, Bool, true, false, ◌==◌, List, [], ◌∷◌, length, refl, subst, arith}
use Rattle.std.specs.Prelude.{◌||◌, All, decimal}
use Rattle.std.specs.Fmt.{digits}
use Rattle.std.specs.List.{list_all, list_any}
use Rattle.std.specs.Char.{is_ascii_digit}
use Rattle.std.specs.Str.Parse.{digits_value}
use Rattle.std.proofs.lemmas.Bool.{false≢true}
use Rattle.std.proofs.lemmas.Bool.Decides.{nat_tests}
use Rattle.std.proofs.lemmas.List.Elements.{All-head, All-tail, All-from_recursion}
use Rattle.httparse.specs.Grammar.{is_value_byte}
use Rattle.http_replies.specs.Replies.{statuses, is_status, phrase}

-- three digits, which stand for it, and a short phrase
abbrev pub StatusFacts : ℕ → Type 0
StatusFacts n =
    (length (decimal n) ≡ 3) × (list_all is_ascii_digit (decimal n) ≡ true) × (digits_value 10 (decimal n) ≡ n)
    × (list_all is_value_byte (phrase n) ≡ true) × (length (phrase n) - 31 ≡ 0) × (100 - n ≡ 0) × (n - 999 ≡ 0)

all_statuses : All StatusFacts statuses
unfolding digits
all_statuses = All-from_recursion StatusFacts statuses ((refl, refl, refl, refl, refl, refl, refl), ((refl, refl, refl, refl, refl, refl, refl), ((refl, refl, refl, refl, refl, refl, refl), ((refl, refl, refl, refl, refl, refl, refl), ((refl, refl, refl, refl, refl, refl, refl), ((refl, refl, refl, refl, refl, refl, refl), ((refl, refl, refl, refl, refl, refl, refl), ((refl, refl, refl, refl, refl, refl, refl), ((refl, refl, refl, refl, refl, refl, refl), ((refl, refl, refl, refl, refl, refl, refl), ((refl, refl, refl, refl, refl, refl, refl), ((refl, refl, refl, refl, refl, refl, refl), ((refl, refl, refl, refl, refl, refl, refl), ((refl, refl, refl, refl, refl, refl, refl), ((refl, refl, refl, refl, refl, refl, refl), tt)))))))))))))))

pub same_number : (x n : ℕ) → (x == n) ≡ true → x ≡ n
same_number x n e = grind (arith, nat_tests)

one_of : (P : ℕ → Type 0) (xs : List ℕ) (n : ℕ) → All P xs → list_any (λ x. x == n) xs ≡ true → P n
one_of P [] n all any = absurd (false≢true any)
one_of P (x ∷ xs) n all any = by_test (x == n) refl (one_of P xs n (All-tail P x xs all)) any
  where
    by_test : (t : Bool) → (x == n) ≡ t → (list_any (λ y. y == n) xs ≡ true → P n) → (t || list_any (λ y. y == n) xs) ≡ true → P n
    by_test true is later h = subst P (same_number x n is) (All-head P x xs all)
    by_test false other later h = later h

pub status_facts : (n : ℕ) → is_status n ≡ true → StatusFacts n
status_facts n is = one_of StatusFacts statuses n all_statuses is

pub short_phrase : (n : ℕ) → is_status n ≡ true → length (phrase n) ≤ 31
short_phrase n is = let e = (status_facts n is).4 in omega arith

pub status_code_of : (n : ℕ) → is_status n ≡ true → (100 ≤ n) × (n < 1000)
status_code_of n is = let low = (status_facts n is).5 in let high = (status_facts n is).6 in (omega arith, omega arith)
