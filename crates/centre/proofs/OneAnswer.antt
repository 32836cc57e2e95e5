-- The words and what they make the program read determine one answer.
use Rattle.std.proofs.Common.{◌≡◌, ◌≢◌, ◌⊎◌, inl, inr, ℕ, List, [], Option, None, Some, Result, Ok, Err, sym, ◌∙◌}
use Rattle.centre.specs.declared.ending.Refusal.{Refusal}
use Rattle.centre.specs.declared.ending.Refusal.TheVariants.{NotEmpty}
use Rattle.centre.specs.Answers.{IsAnswer}
use Rattle.command_words.specs.Commands.{Command, select, init, talk, serve, drill, fetch, coverage, show}
use Rattle.centre.specs.Drills.{drill_text}
use Rattle.centre.specs.Given.{Given}
use Rattle.centre.proofs.CoverageRows.{one_covering}
use Rattle.centre.proofs.FetchRows.{one_fetching}
use Rattle.centre.proofs.OneService.{one_service}
use Rattle.centre.proofs.OneTalk.{one_talk}
use Rattle.centre.proofs.SelectRows.{one_selection}

-- a file is empty or it isn't
by_file : (file body : List ℕ) (a b : Result (List ℕ) Refusal)
    → ((file ≡ []) × (a ≡ Ok body)) ⊎ ((file ≢ []) × (a ≡ Err NotEmpty)) → ((file ≡ []) × (b ≡ Ok body)) ⊎ ((file ≢ []) × (b ≡ Err NotEmpty)) → a ≡ b
by_file file body a b (inl h) (inl k) = h.1 ∙ sym k.1
by_file file body a b (inl h) (inr k) = absurd (k.0 h.0)
by_file file body a b (inr h) (inl k) = absurd (h.0 k.0)
by_file file body a b (inr h) (inr k) = h.1 ∙ sym k.1

pub one_answer : (command : Option Command) (given : Given) (a b : Result (List ℕ) Refusal) → IsAnswer command given a → IsAnswer command given b → a ≡ b
one_answer None given a b h k = h ∙ sym k
one_answer (Some (show shown)) given a b h k = h ∙ sym k
one_answer (Some (select w)) given a b h k = one_selection w given.input a b h k
one_answer (Some (init w)) given a b h k = by_file given.file [] a b h k
one_answer (Some (talk w)) given a b h k = one_talk given.file given.input a b h k
one_answer (Some (serve w)) given a b h k = one_service given.file a b h k
one_answer (Some (drill w)) given a b h k = by_file given.file (drill_text w.records) a b h k
one_answer (Some (fetch w)) given a b h k = one_fetching w given.heard a b h k
one_answer (Some (coverage w)) given a b h k = one_covering w given.file a b h k
