use Rattle.std.proofs.Common.{◌≡◌, List, ℕ, ◌++◌, Result, Ok, Err, OnOk, ap, sym, ◌∙◌, subst, rules}
use Rattle.std.specs.Str.{IsAscii}
use Rattle.exact_time.specs.MomentText.{civil_micros}
use Rattle.exact_time.proofs.WrittenTexts.{ascii_civil}
use Rattle.exact_time.proofs.MomentTexts.{moment_text_is, moment_text_written, moment_text_only, moment_text_names}
use Rattle.exact_time.proofs.moment.Moment.write.Goals as goal

pub push_ascii-requires : goal.push_ascii-requires
push_ascii-requires c =
    subst (λ (text : List ℕ). IsAscii text) (sym c.civil_text.ensures) (ascii_civil c.civil_time.result c.civil_time.ensures.civil)

on_ok : {T E : Type 0} (P Q : Type 0) (r : Result T E) → OnOk r P → (P → Q) → OnOk r Q
on_ok P Q (Ok x) h f = f h
on_ok P Q (Err e) h f = h

pub returns-clause-ok : goal.returns-clause-ok
returns-clause-ok c =
    let old = c.args.out.now in
    let value : civil_micros c.civil_time.result ≡ c.args.self.now.micros = search rules in
    let text = moment_text_is c.civil_time.result c.args.self.now.micros c.civil_time.ensures.civil value in
    on_ok _ _ c.push_ascii.result c.push_ascii.ensures.ok (λ pushed. pushed ∙ ap (λ (t : List ℕ). old ++ t) (c.civil_text.ensures ∙ sym text))

pub returns-clause-written : goal.returns-clause-written
returns-clause-written c =
    let value : civil_micros c.civil_time.result ≡ c.args.self.now.micros = search rules in
    moment_text_written c.civil_time.result c.args.self.now.micros c.civil_time.ensures.civil value

pub returns-clause-only : goal.returns-clause-only
returns-clause-only c =
    let value : civil_micros c.civil_time.result ≡ c.args.self.now.micros = search rules in
    moment_text_only c.civil_time.result c.args.self.now.micros c.civil_time.ensures.civil value

pub returns-clause-reads_back : goal.returns-clause-reads_back
returns-clause-reads_back c =
    let value : civil_micros c.civil_time.result ≡ c.args.self.now.micros = search rules in
    moment_text_names c.civil_time.result c.args.self.now.micros c.civil_time.ensures.civil value
