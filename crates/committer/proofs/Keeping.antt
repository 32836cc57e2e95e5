-- What a committer keeps over a post.
use Rattle.std.proofs.Common.{◌≡◌, ◌∙◌, ℕ, ◌+◌, ◌≤◌, List, ◌++◌, length, map, sym, ap, arith, length-append, Option, option_to_list}
use Rattle.std.proofs.lemmas.List.{length-map}
use Rattle.archive_entry.specs.declared.entry.Entry.{Entry}
use Rattle.archive_post.specs.Waiting.{committed}

-- all that was handed on is shown: no step waits
pub no_steps : {A : Type 0} (f : A → Entry) (front latest : List Entry) (steps : List A) → front ≡ latest → front ++ map f steps ≡ latest → length steps ≡ 0
no_steps f front latest steps all tied =
    let long : length front + length (map f steps) ≡ length latest = sym (length-append front (map f steps)) ∙ ap length tied in
    omega (arith, long, ap length all, length-map steps f)

-- the history with what waits is as much longer as that
pub longer : (h : List Entry) (waiting : Option Entry) (made : ℕ) → length (option_to_list waiting) ≡ made → length (committed h waiting) ≡ length h + made
longer h waiting made is = length-append h (option_to_list waiting) ∙ ap (λ (n : ℕ). length h + n) is

-- at most one entry isn't shown
pub few_more : {A : Type 0} (f : A → Entry) (front latest : List Entry) (steps : List A) (waiting : Option Entry) → front ++ map f steps ≡ latest → length steps + length (option_to_list waiting) ≤ 1 → length (committed latest waiting) ≤ length front + 1
few_more f front latest steps waiting tied one =
    let long : length front + length (map f steps) ≡ length latest = sym (length-append front (map f steps)) ∙ ap length tied in
    omega (arith, one, long, length-append latest (option_to_list waiting), length-map steps f)
