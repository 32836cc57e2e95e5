use Rattle.std.proofs.Common.{◌≡◌, ◌++◌, ◌∷◌, ℕ, List, [], map, ◌∙◌, sym, ap, subst, false, true, nat_cmp}
use Rattle.std.specs.List.{AllByRecursion, list_any}
use Rattle.std.specs.Ordering.{is_eq}
use Rattle.std.specs.Str.{bytes_eq}
use Rattle.std.specs.Cmp.Lexicographic.{slice_cmp}
use Rattle.availability.specs.declared.line.Line.{Line}
use Rattle.availability.specs.Fields.{IsPrintableLine}
use Rattle.availability.specs.Texts.{line_text, firsts_after}
use Rattle.availability.proofs.Firsts.{first_one, again, seen_more}
use Rattle.availability.proofs.texts.firsts.Goals as goal

pub lines-preserved-in_ok-push : goal.lines-preserved-in_ok-push
lines-preserved-in_ok-push c =
    let text = c.in_ok-text.text in
    let texts = c.lines.texts in
    let f = line_text c.args.form c.args.method in
    let found : c.contains.result ≡ list_any (bytes_eq text) texts =
    c.contains.ensures ∙ ap (λ (b : List ℕ). list_any (λ v. is_eq (slice_cmp nat_cmp b v.items)) c.lines.seen.keys) c.as_slice.ensures ∙ c.lines.invariant.seen text in
    let new : list_any (bytes_eq text) texts ≡ false = sym found ∙ c.if-not-contains.true in
    let grown : c.push.new.self ≡ texts ++ text ∷ [] = c.in_ok-push.ensures.ok in
    record {
      texts =
          ap (λ (ts : List (List ℕ)). ts ++ firsts_after ts (map f c.next.new.self)) grown
          ∙ first_one text texts (map f c.next.new.self) new
          ∙ ap (λ (t : List ℕ). texts ++ firsts_after texts (t ∷ map f c.next.new.self)) c.in_ok-text.ensures
          ∙ sym (ap (λ (ls : List Line). texts ++ firsts_after texts (map f ls)) c.in-Some.ensures.steps)
          ∙ c.lines.invariant.texts;
      seen = λ bytes.
          seen_more texts c.lines.seen.keys c.insert.new.self.keys c.in_ok-copy_of.field-0 text (c.in_ok-copy_of.ensures ∙ c.as_slice-then-not-contains.ensures) c.in_ok-insert.ensures.keys c.lines.invariant.seen bytes
          ∙ ap (list_any (bytes_eq bytes)) (sym grown);
      printable = (subst (λ (ls : List Line). AllByRecursion IsPrintableLine ls) c.in-Some.ensures.steps c.lines.invariant.printable).1;
    }

pub lines-preserved : goal.lines-preserved
lines-preserved c =
    let text = c.in_ok-text.text in
    let texts = c.lines.texts in
    let f = line_text c.args.form c.args.method in
    let found : c.contains.result ≡ list_any (bytes_eq text) texts =
    c.contains.ensures ∙ ap (λ (b : List ℕ). list_any (λ v. is_eq (slice_cmp nat_cmp b v.items)) c.lines.seen.keys) c.as_slice.ensures ∙ c.lines.invariant.seen text in
    let old : list_any (bytes_eq text) texts ≡ true = sym found ∙ c.if-not-contains.false in
    record {
      texts =
          again text texts (map f c.next.new.self) old
          ∙ ap (λ (t : List ℕ). texts ++ firsts_after texts (t ∷ map f c.next.new.self)) c.in_ok-text.ensures
          ∙ sym (ap (λ (ls : List Line). texts ++ firsts_after texts (map f ls)) c.in-Some.ensures.steps)
          ∙ c.lines.invariant.texts;
      seen = c.lines.invariant.seen;
      printable = (subst (λ (ls : List Line). AllByRecursion IsPrintableLine ls) c.in-Some.ensures.steps c.lines.invariant.printable).1;
    }
