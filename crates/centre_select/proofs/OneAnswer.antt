-- The words of `select` and the input determine one answer.
use Rattle.std.proofs.Common.{◌≡◌, ◌≢◌, inl, inr, ℕ, ◌<◌, ◌≤◌, true, false, cond, List, [], ◌∷◌, length, Result, Ok, Err, nat_lt, refl, sym, ap, ◌∙◌, subst, arith}
use Rattle.std.proofs.lemmas.Bool.Decides.{nat_tests}
use Rattle.mseed_header.specs.declared.header.RecordFault.{RecordFault}
use Rattle.mseed_header.specs.declared.row.Row.{Row}
use Rattle.mseed_header.specs.Records.{AreRecords}
use Rattle.mseed_header.proofs.Rows.{one_batch, one_first_bad, no_batch}
use Rattle.dataselect.specs.declared.query.DataQuery.{DataQuery}
use Rattle.command_words.specs.Commands.{SelectWords}
use Rattle.centre_select.specs.Limits.{most_input}
use Rattle.centre_select.specs.declared.ending.SelectRefusal.{SelectRefusal}
use Rattle.centre_select.specs.declared.ending.SelectRefusal.TheVariants.{Value, Order, Record, NoData, TooLarge, InputTooLong}
use Rattle.centre_select.specs.Answers.{IsBodyOf, HasBadRecord, RefusesInput, IsSelectAnswer, places_for, body_for, epoch}
use Rattle.centre_select.specs.Words.{IsSelectQuery}
use Rattle.centre_select.proofs.OneQuery.{one_query, no_refusal, one_refusal}

-- what picked places and their bytes give within a limit
by_places : ℕ → List ℕ → List ℕ → Result (List ℕ) SelectRefusal
by_places limit [] body = Err NoData
by_places limit (place ∷ places) body = cond (nat_lt limit (length body)) (Err (TooLarge (length body) limit)) (Ok body)

fitting : (limit : ℕ) (places body : List ℕ) → places ≢ [] → length body ≤ limit → Ok body ≡ by_places limit places body
unfolding by_places
fitting limit [] body some fits = absurd (some refl)
fitting limit (place ∷ places) body some fits =
    let e : nat_lt limit (length body) ≡ false = grind (arith, nat_tests) in
    ap (λ b. cond b (Err (TooLarge (length body) limit)) (Ok body)) (sym e)

too_much : (limit : ℕ) (places body : List ℕ) → places ≢ [] → limit < length body → Err (TooLarge (length body) limit) ≡ by_places limit places body
unfolding by_places
too_much limit [] body some above = absurd (some refl)
too_much limit (place ∷ places) body some above =
    let e : nat_lt limit (length body) ≡ true = grind (arith, nat_tests) in
    ap (λ b. cond b (Err (TooLarge (length body) limit)) (Ok body)) (sym e)

none_picked : (limit : ℕ) (places body : List ℕ) → places ≡ [] → Err NoData ≡ by_places limit places body
unfolding by_places
none_picked limit [] body e = refl
none_picked limit (place ∷ places) body e = cc

-- the answer to a query within a limit over an input
abbrev Gives : DataQuery → ℕ → List ℕ → Result (List ℕ) SelectRefusal → Type 0
Gives query limit input (Ok body) = IsBodyOf query limit input body
Gives query limit input (Err refusal) = RefusesInput query limit input refusal

-- it comes in one of three ways: the input is too long, or a record is refused, or its rows decide
record IsWhole (query : DataQuery) (limit : ℕ) (input : List ℕ) (answer : Result (List ℕ) SelectRefusal) : Type 0 where
  within : length input ≤ most_input
  rows : List Row
  records : AreRecords input 0 epoch rows
  answer_is : answer ≡ by_places limit (places_for query rows) (body_for query rows)

record IsBad (input : List ℕ) (answer : Result (List ℕ) SelectRefusal) : Type 0 where
  at : ℕ
  fault : RecordFault
  bad : HasBadRecord input at fault
  answer_is : answer ≡ Err (Record at fault)

record IsLong (input : List ℕ) (answer : Result (List ℕ) SelectRefusal) : Type 0 where
  long : most_input < length input
  answer_is : answer ≡ Err InputTooLong

data Found (query : DataQuery) (limit : ℕ) (input : List ℕ) (answer : Result (List ℕ) SelectRefusal) : Type 0 where
  whole : IsWhole query limit input answer → Found query limit input answer
  bad : IsBad input answer → Found query limit input answer
  long : IsLong input answer → Found query limit input answer

found : (query : DataQuery) (limit : ℕ) (input : List ℕ) (answer : Result (List ℕ) SelectRefusal) → Gives query limit input answer → Found query limit input answer
found query limit input (Ok body) h =
    let fits : length (body_for query h.rows) ≤ limit = subst (λ (xs : List ℕ). length xs ≤ limit) h.body_is h.fits in
    whole (record { within = h.within; rows = h.rows; records = h.records; answer_is = ap Ok h.body_is ∙ fitting limit (places_for query h.rows) (body_for query h.rows) h.some fits })
found query limit input (Err (Record at fault)) h = bad (record { at = at; fault = fault; bad = h; answer_is = refl })
found query limit input (Err NoData) h =
    whole (record { within = h.within; rows = h.rows; records = h.records; answer_is = none_picked limit (places_for query h.rows) (body_for query h.rows) h.none })
found query limit input (Err (TooLarge bytes told)) h =
    let above : limit < length (body_for query h.rows) = omega (arith, h.above, h.bytes_is, h.limit_is) in
    whole (record {
      within = h.within;
      rows = h.rows;
      records = h.records;
      answer_is = ap (λ n. Err (TooLarge n told)) h.bytes_is ∙ ap (λ n. Err (TooLarge (length (body_for query h.rows)) n)) h.limit_is ∙ too_much limit (places_for query h.rows) (body_for query h.rows) h.some above;
    })
found query limit input (Err InputTooLong) h = long (record { long = h; answer_is = refl })
found query limit input (Err (Value word)) h = absurd h
found query limit input (Err Order) h = absurd h

one_found : (query : DataQuery) (limit : ℕ) (input : List ℕ) (a b : Result (List ℕ) SelectRefusal) → Found query limit input a → Found query limit input b → a ≡ b
one_found query limit input a b (whole h) (whole k) =
    h.answer_is ∙ ap (λ (rows : List Row). by_places limit (places_for query rows) (body_for query rows)) (one_batch input 0 epoch h.rows k.rows h.records k.records) ∙ sym k.answer_is
one_found query limit input a b (whole h) (bad k) = absurd (no_batch input 0 epoch h.rows k.at k.fault h.records k.bad.first)
one_found query limit input a b (whole h) (long k) = absurd (omega (arith, h.within, k.long))
one_found query limit input a b (bad h) (whole k) = absurd (no_batch input 0 epoch k.rows h.at h.fault k.records h.bad.first)
one_found query limit input a b (bad h) (bad k) =
    let same = one_first_bad input h.at k.at h.fault k.fault h.bad.first k.bad.first in
    h.answer_is ∙ ap (λ n. Err (Record n h.fault)) same.0 ∙ ap (λ f. Err (Record k.at f)) same.1 ∙ sym k.answer_is
one_found query limit input a b (bad h) (long k) = absurd (omega (arith, h.bad.within, k.long))
one_found query limit input a b (long h) (whole k) = absurd (omega (arith, k.within, h.long))
one_found query limit input a b (long h) (bad k) = absurd (omega (arith, k.bad.within, h.long))
one_found query limit input a b (long h) (long k) = h.answer_is ∙ sym k.answer_is

one_given : (w : SelectWords) (input : List ℕ) (q r : DataQuery) (a b : Result (List ℕ) SelectRefusal) → IsSelectQuery w q → IsSelectQuery w r → Gives q w.limit input a → Gives r w.limit input b → a ≡ b
one_given w input q r a b p s h k =
    let same : r ≡ q = one_query w r q s p in
    one_found q w.limit input a b (found q w.limit input a h) (found q w.limit input b (subst (λ (x : DataQuery). Gives x w.limit input b) same k))

pub one_select : (w : SelectWords) (input : List ℕ) (a b : Result (List ℕ) SelectRefusal) → IsSelectAnswer w input a → IsSelectAnswer w input b → a ≡ b
one_select w input (Ok x) (Ok y) h k = one_given w input h.0 k.0 (Ok x) (Ok y) h.1 k.1 h.2 k.2
one_select w input (Ok x) (Err s) h (inl k) = absurd (no_refusal w h.0 s h.1 k)
one_select w input (Ok x) (Err s) h (inr k) = one_given w input h.0 k.0 (Ok x) (Err s) h.1 k.1 h.2 k.2
one_select w input (Err r) (Ok y) (inl h) k = absurd (no_refusal w k.0 r k.1 h)
one_select w input (Err r) (Ok y) (inr h) k = one_given w input h.0 k.0 (Err r) (Ok y) h.1 k.1 h.2 k.2
one_select w input (Err r) (Err s) (inl h) (inl k) = ap Err (one_refusal w r s h k)
one_select w input (Err r) (Err s) (inl h) (inr k) = absurd (no_refusal w k.0 r k.1 h)
one_select w input (Err r) (Err s) (inr h) (inl k) = absurd (no_refusal w h.0 s h.1 k)
one_select w input (Err r) (Err s) (inr h) (inr k) = one_given w input h.0 k.0 (Err r) (Err s) h.1 k.1 h.2 k.2
