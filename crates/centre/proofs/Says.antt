-- What an ending says of a run, by its status.
use Rattle.std.proofs.Common.{◌≡◌, ◌∙◌, inl, inr, ◌==◌, ◌||◌, ℕ, Bool, List, Option, None, Result, Ok, Err, true, false, refl, sym, ap, subst, arith}
use Rattle.std.proofs.lemmas.Bool.{false≢true}
use Rattle.exact_time.specs.Causes.{Rose}
use Rattle.disk_model.specs.View.{DiskView, WhereTold}
use Rattle.centre_serve.specs.Whole.{OneRose}
use Rattle.command_words.specs.Commands.{Command}
use Rattle.centre.specs.Ends.{EndsBy, ending_by}
use Rattle.centre.specs.Given.{World}
use Rattle.centre.specs.Settled.{HasWritten, IsCutShort, IsFree, KeepsFile, KeepsSink, HasNoLink}
use Rattle.centre.specs.Status.{status_of_refusal, status_of_run}
use Rattle.centre.specs.declared.ending.Refusal.{Refusal}
use Rattle.centre.specs.declared.ending.Refusal.TheVariants.{UnknownCommand, Value, Order, Record, NoData, TooLarge, TooManyLines, InputTooLong, NotEmpty, NotAJournal, Damaged, RequestCut, Peer, BadReply, Lost, Moved, Requests}
use Rattle.centre.specs.declared.ending.Stop.{Stop}

-- the statuses that no refusal has
abbrev pub is_free : ℕ → Bool
is_free n = n == 0 || n == 5 || n == 6 || n == 7 || n == 8 || n == 17 || n == 70

pub free_is : (n : ℕ) → IsFree n → is_free n ≡ true
free_is n (inl e) = ap is_free e
free_is n (inr (inl e)) = ap is_free e
free_is n (inr (inr (inl e))) = ap is_free e
free_is n (inr (inr (inr (inl e)))) = ap is_free e
free_is n (inr (inr (inr (inr (inl e))))) = ap is_free e
free_is n (inr (inr (inr (inr (inr e))))) = ap is_free e

refused_is : (refusal : Refusal) → is_free (status_of_refusal refusal) ≡ false
refused_is UnknownCommand = refl
refused_is (Value word) = refl
refused_is Order = refl
refused_is (Record at fault) = refl
refused_is NoData = refl
refused_is (TooLarge bytes limit) = refl
refused_is (TooManyLines lines limit) = refl
refused_is InputTooLong = refl
refused_is NotEmpty = refl
refused_is NotAJournal = refl
refused_is (Damaged at) = refl
refused_is RequestCut = refl
refused_is (Peer status) = refl
refused_is BadReply = refl
refused_is Lost = refl
refused_is (Moved a b) = refl
refused_is Requests = refl

pub not_free : (refusal : Refusal) (n : ℕ) → is_free n ≡ true → status_of_refusal refusal ≡ n → ⊥
not_free refusal n free e = false≢true (sym (refused_is refusal) ∙ ap is_free e ∙ free)

-- the statuses of words that are no command, and of a file that can't be used
abbrev pub is_odd : ℕ → Bool
is_odd n = n == 1 || n == 9

odd_not : (refusal : Refusal) (n : ℕ) → is_odd (status_of_refusal refusal) ≡ false → is_odd n ≡ true → status_of_refusal refusal ≡ n → ⊥
odd_not refusal n plain odd e = false≢true (sym plain ∙ ap is_odd e ∙ odd)

-- what a status says of what was written, of the counts of faults, of the file and of the words
pub record Says {D : Type 0} (view : D → DiskView) (command : Option Command) (before after : World D) (n : ℕ) : Type 0 where
  pub written : n ≡ 0 → HasWritten view command before after
  pub cut : n ≡ 6 → IsCutShort view command before after
  pub kept : (n ≡ 0 → ⊥) → (n ≡ 6 → ⊥) → KeepsSink command before.streams.sink after.streams.sink
  pub read : n ≡ 5 → Rose before.streams.source.faults after.streams.source.faults
  pub disk : n ≡ 7 → Rose (view before.disk).faults (view after.disk).faults
  pub port : n ≡ 8 → OneRose before.ports after.ports
  pub no_link : n ≡ 17 → HasNoLink command after.ports
  pub untouched : n ≡ 9 → WhereTold (view before.disk) (KeepsFile (view before.disk) (view after.disk))
  pub unknown : n ≡ 1 → command ≡ None

-- each kind of ending
module _ {D : Type 0} (view : D → DiskView) (command : Option Command) (before after : World D) where
  pub done : HasWritten view command before after → Says view command before after 0
  done got = record {
    written = λ e. got;
    cut = λ e. absurd (omega (arith, e));
    kept = λ some more. absurd (some refl);
    read = λ e. absurd (omega (arith, e));
    disk = λ e. absurd (omega (arith, e));
    port = λ e. absurd (omega (arith, e));
    no_link = λ e. absurd (omega (arith, e));
    untouched = λ e. absurd (omega (arith, e));
    unknown = λ e. absurd (omega (arith, e));
  }

  pub cut_short : IsCutShort view command before after → Says view command before after 6
  cut_short got = record {
    written = λ e. absurd (omega (arith, e));
    cut = λ e. got;
    kept = λ some more. absurd (more refl);
    read = λ e. absurd (omega (arith, e));
    disk = λ e. absurd (omega (arith, e));
    port = λ e. absurd (omega (arith, e));
    no_link = λ e. absurd (omega (arith, e));
    untouched = λ e. absurd (omega (arith, e));
    unknown = λ e. absurd (omega (arith, e));
  }

  pub read_stopped : KeepsSink command before.streams.sink after.streams.sink → Rose before.streams.source.faults after.streams.source.faults → Says view command before after 5
  read_stopped same rose = record {
    written = λ e. absurd (omega (arith, e));
    cut = λ e. absurd (omega (arith, e));
    kept = λ some more. same;
    read = λ e. rose;
    disk = λ e. absurd (omega (arith, e));
    port = λ e. absurd (omega (arith, e));
    no_link = λ e. absurd (omega (arith, e));
    untouched = λ e. absurd (omega (arith, e));
    unknown = λ e. absurd (omega (arith, e));
  }

  pub disk_stopped : KeepsSink command before.streams.sink after.streams.sink → Rose (view before.disk).faults (view after.disk).faults → Says view command before after 7
  disk_stopped same rose = record {
    written = λ e. absurd (omega (arith, e));
    cut = λ e. absurd (omega (arith, e));
    kept = λ some more. same;
    read = λ e. absurd (omega (arith, e));
    disk = λ e. rose;
    port = λ e. absurd (omega (arith, e));
    no_link = λ e. absurd (omega (arith, e));
    untouched = λ e. absurd (omega (arith, e));
    unknown = λ e. absurd (omega (arith, e));
  }

  pub port_stopped : KeepsSink command before.streams.sink after.streams.sink → OneRose before.ports after.ports → Says view command before after 8
  port_stopped same rose = record {
    written = λ e. absurd (omega (arith, e));
    cut = λ e. absurd (omega (arith, e));
    kept = λ some more. same;
    read = λ e. absurd (omega (arith, e));
    disk = λ e. absurd (omega (arith, e));
    port = λ e. rose;
    no_link = λ e. absurd (omega (arith, e));
    untouched = λ e. absurd (omega (arith, e));
    unknown = λ e. absurd (omega (arith, e));
  }

  pub links_spent : KeepsSink command before.streams.sink after.streams.sink → HasNoLink command after.ports → Says view command before after 17
  links_spent same spent = record {
    written = λ e. absurd (omega (arith, e));
    cut = λ e. absurd (omega (arith, e));
    kept = λ some more. same;
    read = λ e. absurd (omega (arith, e));
    disk = λ e. absurd (omega (arith, e));
    port = λ e. absurd (omega (arith, e));
    no_link = λ e. spent;
    untouched = λ e. absurd (omega (arith, e));
    unknown = λ e. absurd (omega (arith, e));
  }

  pub starved : KeepsSink command before.streams.sink after.streams.sink → Says view command before after 70
  starved same = record {
    written = λ e. absurd (omega (arith, e));
    cut = λ e. absurd (omega (arith, e));
    kept = λ some more. same;
    read = λ e. absurd (omega (arith, e));
    disk = λ e. absurd (omega (arith, e));
    port = λ e. absurd (omega (arith, e));
    no_link = λ e. absurd (omega (arith, e));
    untouched = λ e. absurd (omega (arith, e));
    unknown = λ e. absurd (omega (arith, e));
  }

  pub refused : (refusal : Refusal) → KeepsSink command before.streams.sink after.streams.sink
      → (status_of_refusal refusal ≡ 9 → WhereTold (view before.disk) (KeepsFile (view before.disk) (view after.disk)))
      → (status_of_refusal refusal ≡ 1 → command ≡ None) → Says view command before after (status_of_refusal refusal)
  refused refusal same file words = record {
    written = λ e. absurd (not_free refusal 0 refl e);
    cut = λ e. absurd (not_free refusal 6 refl e);
    kept = λ some more. same;
    read = λ e. absurd (not_free refusal 5 refl e);
    disk = λ e. absurd (not_free refusal 7 refl e);
    port = λ e. absurd (not_free refusal 8 refl e);
    no_link = λ e. absurd (not_free refusal 17 refl e);
    untouched = file;
    unknown = words;
  }

  -- a refusal that is neither of the file nor of the command
  pub refused_plainly : (refusal : Refusal) → KeepsSink command before.streams.sink after.streams.sink → is_odd (status_of_refusal refusal) ≡ false → Says view command before after (status_of_refusal refusal)
  refused_plainly refusal same plain = refused refusal same (λ e. absurd (odd_not refusal 9 plain refl e)) (λ e. absurd (odd_not refusal 1 plain refl e))

  -- what the outcomes of a command say, its endings say
  pub says_by : {E : Type 0} (stop_for : E → Stop) (Row : Result (Unit {0}) E → Type 0) (ending : Result (Unit {0}) Stop)
      → ((outcome : Result (Unit {0}) E) → Row outcome → Says view command before after (status_of_run (ending_by stop_for outcome)))
      → EndsBy stop_for Row ending → Says view command before after (status_of_run ending)
  says_by stop_for Row ending by row =
      let P : Result (Unit {0}) Stop → Type 0 = λ e. Says view command before after (status_of_run e) in
      subst P (sym row.same) (by row.outcome row.row)
