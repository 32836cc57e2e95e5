use Rattle.std.proofs.Common.{◌≡◌, ◌∙◌, ◌++◌, [], ◌∷◌, true, List, map, reverse, sym, ap, subst, arith}
use Rattle.std.specs.List.{AllByRecursion}
use Rattle.std.specs.List.Sorted.{IsStrictlySortedBy}
use Rattle.std.proofs.lemmas.List.{append-nil, nil_from_length, reverse-append, reverse-reverse}
use Rattle.epochs.specs.Lines.{LineValues}
use Rattle.epochs.specs.Views.{values_of_line}
use Rattle.epoch_rules.specs.KeyOrder.{line_cmp}
use Rattle.epoch_rules.specs.LiveLines.{is_said, live_lines}
use Rattle.epoch_rules.proofs.LastLine.{append_one}
use Rattle.epoch_rules.proofs.LiveByKey.{live_again, live_lines_go_on, live_says, live_sorted}
use Rattle.epoch_catalog.proofs.Merged.{map_reversed, one_taken}
use Rattle.epoch_catalog.proofs.placing.put_all.Goals as goal

pub heads-init : goal.heads-init
heads-init c =
    let live : List LineValues = map values_of_line c.args.live.now.items in
    let heads : List LineValues = map values_of_line c.args.heads.now.items in
    record {
      same = ap (λ hs. live_lines (live ++ reverse (map values_of_line hs))) c.reverse.ensures.items ∙ ap (λ hs. live_lines (live ++ reverse hs)) (map_reversed values_of_line c.args.heads.now.items) ∙ ap (λ hs. live_lines (live ++ hs)) (reverse-reverse heads);
      rises = c.requires.rises;
      states = c.requires.states;
      len = omega (arith, c.reverse.ensures.len);
      capacity = (cc);
    }

pub heads-preserved : goal.heads-preserved
heads-preserved c =
    let live : List LineValues = map values_of_line c.heads.live.items in
    let head : LineValues = values_of_line c.in-Some.head in
    let heads : List LineValues = map values_of_line c.pop.new.self.items in
    let put = c.put_one.ensures.lines in
    let is : map values_of_line c.heads.heads.items ≡ heads ++ head ∷ [] = one_taken values_of_line c.heads.heads.items c.pop.new.self.items c.in-Some.head c.in-Some.ensures.items in
    record {
      same =
          ap (λ ls. live_lines (ls ++ reverse heads)) put
          ∙ live_lines_go_on (live ++ head ∷ []) (reverse heads)
          ∙ ap live_lines (append_one live head (reverse heads))
          ∙ ap (λ hs. live_lines (live ++ hs)) (sym (reverse-append heads (head ∷ [])))
          ∙ ap (λ hs. live_lines (live ++ reverse hs)) (sym is)
          ∙ c.heads.invariant.same;
      rises = subst (IsStrictlySortedBy line_cmp) (sym put) (live_sorted (live ++ head ∷ []));
      states = subst (AllByRecursion (λ e. is_said e ≡ true)) (sym put) (live_says (live ++ head ∷ []));
      len = omega (arith, c.in-Some.ensures.cases, c.put_one.ensures.len, c.heads.invariant.len);
      capacity = c.put_one.ensures.capacity ∙ c.heads.invariant.capacity;
    }

pub returns-clause-lines : goal.returns-clause-lines
returns-clause-lines c =
    let live : List LineValues = map values_of_line c.heads.live.items in
    let none : c.heads.heads.items ≡ [] = nil_from_length c.heads.heads.items (omega (arith, c.heads.heads.ok.0, c.in_default.ensures.cases)) in
    sym (ap live_lines (append-nil live) ∙ live_again live c.heads.invariant.rises c.heads.invariant.states)
    ∙ ap (λ hs. live_lines (live ++ reverse (map values_of_line hs))) (sym none)
    ∙ c.heads.invariant.same
