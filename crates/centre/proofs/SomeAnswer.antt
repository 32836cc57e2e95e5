-- The words and what they make the program read have an answer.
use Rattle.std.proofs.Common.{ℕ, List, [], Option, None, Some, Result, Ok, Err, inl, inr, refl}
use Rattle.mseed_header.specs.Octets.{AreOctets}
use Rattle.centre_select.proofs.SomeAnswer.{cut_up, empty_or_not}
use Rattle.centre_session.proofs.EveryItem.{some_list}
use Rattle.command_words.specs.Commands.{Command, select, init, talk, serve, drill, fetch, coverage, show}
use Rattle.centre.specs.Answers.{IsAnswer, HasOpening}
use Rattle.centre.specs.Drills.{drill_text}
use Rattle.centre.specs.Given.{Given}
use Rattle.centre.specs.Shown.{text_shown}
use Rattle.centre.specs.Talks.{OpensOrNot, IsTalkAnswer}
use Rattle.centre.specs.declared.ending.Refusal.{Refusal}
use Rattle.centre.specs.declared.ending.Refusal.TheVariants.{UnknownCommand, NotEmpty}
use Rattle.centre.proofs.CoverageRows.{some_covering}
use Rattle.centre.proofs.FetchRows.{some_fetching}
use Rattle.centre.proofs.OneService.{some_service}
use Rattle.centre.proofs.OneTalk.{some_talk, some_refusal}
use Rattle.centre.proofs.SelectRows.{some_selection}

by_talk : (given : Given) → OpensOrNot given.file → (answer : Result (List ℕ) Refusal) × IsTalkAnswer given.file given.input answer
by_talk given (inl opens) =
    let items = some_list given.input in
    some_talk given.file given.input items.2 (record { history = opens.0; opens = opens.1; ends = record { items = items.0; interim = items.1; all = items.3 } })
by_talk given (inr refused) = some_refusal given.file given.input refused.0 refused.1

pub some_answer : (command : Option Command) (given : Given) → AreOctets given.input → HasOpening command given → (answer : Result (List ℕ) Refusal) × IsAnswer command given answer
some_answer None given octets through = (Err UnknownCommand, refl)
some_answer (Some (show shown)) given octets through = (Ok (text_shown shown), refl)
some_answer (Some (select w)) given octets through = some_selection w given.input (cut_up given.input octets)
some_answer (Some (init w)) given octets through = elim (empty_or_not given.file) [ inl none ↦ (Ok [], inl (none, refl)) | inr some ↦ (Err NotEmpty, inr (some, refl)) ]
some_answer (Some (talk w)) given octets through = by_talk given through
some_answer (Some (serve w)) given octets through = some_service given.file through
some_answer (Some (drill w)) given octets through = elim (empty_or_not given.file) [ inl none ↦ (Ok (drill_text w.records), inl (none, refl)) | inr some ↦ (Err NotEmpty, inr (some, refl)) ]
some_answer (Some (fetch w)) given octets through = some_fetching w given.heard through
some_answer (Some (coverage w)) given octets through = some_covering w given.file through
