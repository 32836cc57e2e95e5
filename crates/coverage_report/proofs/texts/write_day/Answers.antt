use Rattle.std.proofs.Common.{◌≡◌, ◌++◌, ◌∙◌, ℕ, List, Bor, Result, Ok, MatchResult, take, sym, ap, subst}
use Rattle.std.specs.Prelude.{OnOk}
use Rattle.std.specs.Str.{IsUtf8}
use Rattle.std.proofs.lemmas.Str.{IsUtf8-from_ascii}
use Rattle.exact_time.specs.Written.{moment_text}
use Rattle.exact_time.proofs.Ascii.{not_err}
use Rattle.coverage_report.proofs.Dates.{day_text_is, day_ascii}
use Rattle.coverage_report.proofs.texts.write_day.Goals as goal

-- the text that was read is the bytes
begins : {E : Type 0} (R : Bor (List ℕ) → Type 0) (Q : E → Type 0) (bytes : List ℕ) (r : Result (Bor (List ℕ)) E) (s : Bor (List ℕ)) → MatchResult r (λ s. (s.now ≡ bytes) × R s) Q → r ≡ Ok s → s.now ≡ bytes
begins {E} R Q bytes r s h is = (subst (λ (x : Result (Bor (List ℕ)) E). MatchResult x (λ s. (s.now ≡ bytes) × R s) Q) is h).0

pub unwrap-requires : goal.unwrap-requires
unwrap-requires c =
    let m = c.args.day.micros in
    let text : c.as_slice.result.now ≡ moment_text m = c.as_slice.ensures ∙ c.in_ok-write.ensures.ok ∙ ap (λ (xs : List ℕ). xs ++ moment_text m) c.new-text.ensures in
    not_err _ _ _ c.from_utf8.result c.from_utf8.ensures.cases
    (subst (λ (xs : List ℕ). IsUtf8 (take 10 xs)) (sym text) (IsUtf8-from_ascii (take 10 (moment_text m)) (day_ascii m c.in_ok-write.ensures.written)))

pub returns : goal.returns
returns c =
    let m = c.args.day.micros in
    let out = c.args.out.now in
    let text : c.as_slice.result.now ≡ moment_text m = c.as_slice.ensures ∙ c.in_ok-write.ensures.ok ∙ ap (λ (xs : List ℕ). xs ++ moment_text m) c.new-text.ensures in
    subst (λ (xs : List ℕ). OnOk c.push.result (c.push.new.self ≡ out ++ xs))
    (begins _ _ (take 10 c.as_slice.result.now) c.from_utf8.result c.unwrap.result c.from_utf8.ensures.cases c.unwrap.ensures ∙ ap (take 10) text ∙ day_text_is m)
    c.push.ensures.ok
