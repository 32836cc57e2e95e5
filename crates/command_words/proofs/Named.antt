-- Words that begin with a command's name.
use Rattle.std.proofs.Common.{◌≡◌, ◌∙◌, ◌-◌, ◌≤◌, ◌==◌, false, cond, List, [], ◌∷◌, length, take, drop, get_or, map, Some, sym, ap, arith}
use Rattle.std.proofs.lemmas.List.{take_all}
use Rattle.clap.specs.Words.{Text}
use Rattle.command_words.specs.Commands.{asks_help, command_named, command_of, named_command_of, show, words_of_command}
use Rattle.command_words.specs.declared.name.CommandName.{CommandName}
use Rattle.command_words.specs.declared.name.Shown.TheVariants.{HelpOf}

behind_is : {A : Type 0} (x : A) (xs : List A) → take (length (x ∷ xs) - 1) (drop 1 (x ∷ xs)) ≡ xs
behind_is x xs = take_all (length (x ∷ xs) - 1) xs (omega arith)

-- where the words behind the name ask no help, they are read as those of the command
pub named_words : {A : Type 0} (f : A → Text) (words : List A) (first : A) (name : CommandName) → first ≡ get_or words 0 first → 1 ≤ length words
    → (length (take (length words - 1) (drop 1 words)) == 0) ≡ false → Some name ≡ command_named (f first)
    → asks_help (map f (take (length words - 1) (drop 1 words))) ≡ false → words_of_command name (map f words) ≡ command_of (map f words)
named_words f [] first name is long more named none = absurd (omega (arith, long))
named_words f (w ∷ []) first name is long more named none =
    let e = ap (λ xs. length xs == 0) (behind_is w []) in
    cc
named_words f (w ∷ s ∷ words) first name is long more named none =
    let help : asks_help (map f (s ∷ words)) ≡ false = sym (ap (λ xs. asks_help (map f xs)) (behind_is w (s ∷ words))) ∙ none in
    let read = ap (λ word. command_named (f word)) is in
    sym (ap (λ n. named_command_of n (f w) (map f (s ∷ words))) (sym (named ∙ read))
    ∙ ap (λ b. cond b (Some (show (HelpOf name))) (words_of_command name (map f (w ∷ s ∷ words)))) help)
