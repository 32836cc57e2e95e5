use Rattle.std.proofs.Common.{◌≡◌, ◌++◌, ◌∙◌, ◌∷◌, [], ℕ, List, sym, ap, subst, append_assoc}
use Rattle.std.specs.Prelude.{OnOk, decimal}
use Rattle.coverage_report.specs.Texts.{percent_text}
use Rattle.coverage_report.proofs.Dates.{percent_is}
use Rattle.coverage_report.proofs.texts.write_covered.Goals as goal

pub returns : goal.returns
returns c =
    let n = c.args.covered in
    let out = c.args.out.now in
    subst (λ (text : List ℕ). OnOk c.push.result (c.push.new.self ≡ text))
    (ap (λ (text : List ℕ). out ++ text) (c.deref.ensures ∙ c.in_ok-text.ensures.ok ∙ ap (λ (text : List ℕ). decimal n ++ 32 ∷ text) (percent_is n))
    ∙ sym (append_assoc out (decimal n) (32 ∷ percent_text n))
    ∙ sym (append_assoc (out ++ decimal n) (32 ∷ []) (percent_text n)))
    c.push.ensures.ok
