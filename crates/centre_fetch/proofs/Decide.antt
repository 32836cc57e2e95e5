-- Words of `fetch` ask for a window, or they are refused; and what a window that is asked for is.
use Rattle.std.proofs.Common.{◌≡◌, ◌⊎◌, inl, inr, ℕ, List, [], ◌∷◌, Some, Result, Ok, Err, refl, sym, ap, ◌∙◌, subst, arith}
use Rattle.exact_time.proofs.MomentTexts.{named_is_nameable}
use Rattle.dataselect.specs.declared.query.DataQuery.{DataQuery}
use Rattle.dataselect.specs.declared.query.Selection.{Selection}
use Rattle.mseed_header.specs.Octets.{AreOctets}
use Rattle.command_words.specs.Commands.{SelectWords, FetchWords}
use Rattle.centre_select.specs.Answers.{IsSelectAnswer}
use Rattle.centre_select.specs.Words.{IsSelectQuery, RefusesSelectWords}
use Rattle.centre_select.specs.declared.ending.SelectRefusal.{SelectRefusal}
use Rattle.centre_select.specs.declared.ending.SelectRefusal.TheVariants as select
use Rattle.centre_select.proofs.OneQuery.{one_query, no_refusal, one_refusal}
use Rattle.centre_select.proofs.SomeAnswer.{some_select, cut_up}
use Rattle.split_fetch.specs.Targets.{CanBeAsked}
use Rattle.split_fetch.specs.declared.window.Window.{Window}
use Rattle.centre_fetch.specs.Words.{as_select, IsAsked, IsWindowOf, RefusesFetchWords}
use Rattle.centre_fetch.specs.declared.ending.FetchRefusal.{FetchRefusal}
use Rattle.centre_fetch.specs.declared.ending.FetchRefusal.TheVariants.{Value, Order, NoData, TooLarge, Peer, BadReply, Lost, Moved, Requests}

abbrev pub AreRefused : FetchWords → Type 0
AreRefused w = (refusal : FetchRefusal) × RefusesFetchWords w refusal

abbrev pub AskSome : FetchWords → Type 0
AskSome w = (window : Window) × IsAsked w window

abbrev window_in : (w : FetchWords) (query : DataQuery) → IsSelectQuery (as_select w) query → Window
window_in w query h = record { start = h.window.from; end = h.window.to }

abbrev asks : (w : FetchWords) (query : DataQuery) (h : IsSelectQuery (as_select w) query) → IsAsked w (window_in w query h)
asks w query h = record {
  query = query;
  spelt = h;
  window_is = record { selection = h.selection; only = h.only; start_is = h.window.start_is; end_is = h.window.end_is };
}

-- a query of the words has a window
pub window_there : (w : FetchWords) (s : SelectWords) (query : DataQuery) → s ≡ as_select w → IsSelectQuery s query → (window : Window) × IsWindowOf query window
window_there w s query is h =
    let there = subst (λ (x : SelectWords). IsSelectQuery x query) is h in
    (window_in w query there, (asks w query there).window_is)

refused : (w : FetchWords) (refusal : SelectRefusal) → RefusesSelectWords (as_select w) refusal → AreRefused w
refused w (select.Value word) h = (Value word, h)
refused w select.Order h = (Order, h)
refused w (select.Record at fault) h = absurd h
refused w select.NoData h = absurd h
refused w (select.TooLarge bytes limit) h = absurd h
refused w select.InputTooLong h = absurd h

decided : (w : FetchWords) (answer : Result (List ℕ) SelectRefusal) → IsSelectAnswer (as_select w) [] answer → AreRefused w ⊎ AskSome w
decided w (Ok body) h = inr (window_in w h.0 h.1, asks w h.0 h.1)
decided w (Err refusal) (inl h) = inl (refused w refusal h)
decided w (Err refusal) (inr h) = inr (window_in w h.0 h.1, asks w h.0 h.1)

no_bytes : AreOctets []
no_bytes i = omega arith

-- what `select` makes of no input decides
pub words_decide : (w : FetchWords) → AreRefused w ⊎ AskSome w
words_decide w = let a = some_select (as_select w) [] (cut_up [] no_bytes) in decided w a.0 a.1

-- the words ask for one window
pub one_window : (w : FetchWords) (a b : Window) → IsAsked w a → IsAsked w b → a ≡ b
one_window w a b h k =
    let query : h.query ≡ k.query = one_query (as_select w) h.query k.query h.spelt k.spelt in
    let selections : h.window_is.selection ∷ [] ≡ k.window_is.selection ∷ [] = sym h.window_is.only ∙ ap (λ (q : DataQuery). q.selections) query ∙ k.window_is.only in
    let selection : h.window_is.selection ≡ k.window_is.selection = cc in
    let from_is : Some a.start ≡ Some b.start = sym h.window_is.start_is ∙ ap (λ (s : Selection). s.start) selection ∙ k.window_is.start_is in
    let to_is : Some a.end ≡ Some b.end = sym h.window_is.end_is ∙ ap (λ (s : Selection). s.end) selection ∙ k.window_is.end_is in
    let from : a.start ≡ b.start = cc in
    let to : a.end ≡ b.end = cc in
    λ i. record { start = from i; end = to i }

-- what is asked for can be asked
pub can_be_asked : (w : FetchWords) (window : Window) → IsAsked w window → CanBeAsked window
can_be_asked w window h =
    let there : CanBeAsked (window_in w h.query h.spelt) = record {
      forward = h.spelt.window.order;
      start = named_is_nameable w.start h.spelt.window.from.micros h.spelt.window.from_is;
      end = named_is_nameable w.end h.spelt.window.to.micros h.spelt.window.to_is;
    } in
    subst CanBeAsked (one_window w (window_in w h.query h.spelt) window (asks w h.query h.spelt) h) there

-- a refusal of words is one of `select`
as_fetch : SelectRefusal → FetchRefusal
as_fetch (select.Value word) = Value word
as_fetch _ = Order

record OfSelect (w : FetchWords) (refusal : FetchRefusal) : Type 0 where
  of : SelectRefusal
  why : RefusesSelectWords (as_select w) of
  is : refusal ≡ as_fetch of

of_select : (w : FetchWords) (refusal : FetchRefusal) → RefusesFetchWords w refusal → OfSelect w refusal
unfolding as_fetch
of_select w (Value word) h = record { of = select.Value word; why = h; is = refl }
of_select w Order h = record { of = select.Order; why = h; is = refl }
of_select w NoData h = absurd h
of_select w (TooLarge bytes limit) h = absurd h
of_select w (Peer status) h = absurd h
of_select w BadReply h = absurd h
of_select w Lost h = absurd h
of_select w (Moved a b) h = absurd h
of_select w Requests h = absurd h

-- words are refused in one way, and those that ask for a window aren't
pub one_refused : (w : FetchWords) (r s : FetchRefusal) → RefusesFetchWords w r → RefusesFetchWords w s → r ≡ s
one_refused w r s h k =
    let x = of_select w r h in
    let y = of_select w s k in
    x.is ∙ ap as_fetch (one_refusal (as_select w) x.of y.of x.why y.why) ∙ sym y.is

pub not_both : (w : FetchWords) (refusal : FetchRefusal) (window : Window) → RefusesFetchWords w refusal → IsAsked w window → ⊥
not_both w refusal window h k =
    let x = of_select w refusal h in
    no_refusal (as_select w) k.query x.of k.spelt x.why
