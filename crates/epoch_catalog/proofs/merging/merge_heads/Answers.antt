use Rattle.std.proofs.Common.{◌≡◌, ◌++◌, ◌∷◌, [], List, map, sym, subst, arith}
use Rattle.std.proofs.lemmas.List.{nil_from_length}
use Rattle.epochs.specs.Lines.{LineValues}
use Rattle.epochs.specs.Views.{values_of_line}
use Rattle.epoch_rules.specs.LiveLines.{live_lines}
use Rattle.epoch_catalog.proofs.Merged.{AreMerging, end, kept_rises, one_taken, step}
use Rattle.epoch_catalog.proofs.merging.merge_heads.Goals as goal

pub drop_same-requires-clause-rises : goal.drop_same-requires-clause-rises
drop_same-requires-clause-rises c =
    kept_rises (values_of_line c.in-Some.head) (map values_of_line c.heads.live.items) (map values_of_line c.move_behind.new.live.items) (map values_of_line c.heads.behind.items) (map values_of_line c.move_behind.new.behind.items) c.move_behind.ensures.moved c.heads.invariant.merging.rises

pub heads-preserved : goal.heads-preserved
heads-preserved c =
    let whole : List LineValues = live_lines (map values_of_line c.args.live.now.items ++ map values_of_line c.args.heads.now.items) in
    let live : List LineValues = map values_of_line c.heads.live.items in
    let behind : List LineValues = map values_of_line c.heads.behind.items in
    let head : LineValues = values_of_line c.in-Some.head in
    let heads : List LineValues = map values_of_line c.pop.new.self.items in
    let kept : List LineValues = map values_of_line c.move_behind.new.live.items in
    let rest : List LineValues = map values_of_line c.drop_same.new.live.items in
    let after : List LineValues = map values_of_line c.move_behind.new.behind.items in
    let is : map values_of_line c.heads.heads.items ≡ heads ++ head ∷ [] = one_taken values_of_line c.heads.heads.items c.pop.new.self.items c.in-Some.head c.in-Some.ensures.items in
    record {
      merging =
          subst (λ ls. AreMerging whole rest heads ls) (sym c.put_said.ensures.lines)
          (step whole live heads behind head kept rest after (subst (λ ls. AreMerging whole live ls behind) is c.heads.invariant.merging) c.move_behind.ensures.moved c.drop_same.ensures.before);
      len = omega (arith, c.in-Some.ensures.cases);
      live_capacity = (cc);
      behind_capacity = (cc);
    }

pub returns-clause-lines : goal.returns-clause-lines
returns-clause-lines c =
    let whole : List LineValues = live_lines (map values_of_line c.args.live.now.items ++ map values_of_line c.args.heads.now.items) in
    let live : List LineValues = map values_of_line c.heads.live.items in
    let behind : List LineValues = map values_of_line c.heads.behind.items in
    let none : c.heads.heads.items ≡ [] = nil_from_length c.heads.heads.items (omega (arith, c.heads.heads.ok.0, c.in_default.ensures.cases)) in
    end whole live behind (subst (λ ls. AreMerging whole live (map values_of_line ls) behind) none c.heads.invariant.merging)
