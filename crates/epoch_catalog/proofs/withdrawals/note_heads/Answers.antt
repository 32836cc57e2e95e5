use Rattle.std.proofs.Common.{rules, ◌≡◌, ◌∙◌, ◌∷◌, [], Some, true, List, Vec, Global, option_map, refl, map, length, ap, sym, subst, arith}
use Rattle.std.specs.Prelude.{Contains, IsSomeAnd}
use Rattle.std.specs.List.{slice_get}
use Rattle.std.proofs.lemmas.List.Elements.{Contains-append_left, Contains-push}
use Rattle.std.proofs.lemmas.Option.{slice_get-map, slice_get_read}
use Rattle.epochs.specs.Lines.{LineValues}
use Rattle.epochs.specs.Views.{values_of_line}
use Rattle.epoch_catalog.specs.Withdrawals.{is_marked, IsHeadOf}
use Rattle.epoch_catalog.specs.declared.withdrawals.Head.{Head}
use Rattle.epoch_catalog.proofs.WithdrawalsFound.{noted_more}
use Rattle.epoch_catalog.proofs.withdrawals.note_heads.Goals as goal
use Rattle.epoch_catalog.proofs.withdrawals.note_heads.Goals.{in-Some, in_default}

pub places-preserved : goal.places-preserved
places-preserved c =
    let lines = c.args.lines.now in
    let line = c.index-lines-place.result in
    let near = c.places-test.true in
    let within = c.requires.within in
    let at = slice_get-map values_of_line lines c.places.place ∙ ap (option_map values_of_line) (slice_get_read lines (length lines) c.places.place line refl (search rules) c.index-lines-place.is) in
    elim c.match-head_of.branch [
      | in-Some w ↦
          (let head = w.in-Some.head in
          let items = ap (λ (v : Vec Head Global). v.items) w.heads-is ∙ w.push_reserved.ensures.items in
          record {
            noted = noted_more (map values_of_line lines) c.places.heads.items c.match-head_of.heads.items c.args.bounds.first c.places.place (values_of_line line) at c.places.invariant.noted
                (λ h there. subst (λ (hs : List Head). Contains hs h) (sym items) (Contains-append_left c.places.heads.items (head ∷ []) h there))
                (λ marked. (head, subst (λ (hs : List Head). Contains hs head) (sym items) (Contains-push c.places.heads.items head), w.in-Some.ensures marked));
            few = search rules;
            within = search rules;
            room = search rules;
          })
      | in_default w ↦ record {
        noted = noted_more (map values_of_line lines) c.places.heads.items c.match-head_of.heads.items c.args.bounds.first c.places.place (values_of_line line) at c.places.invariant.noted
            (λ h there. subst (λ (v : Vec Head Global). Contains v.items h) (sym w.heads-is) there)
            (λ marked. absurd (w.in_default.ensures marked));
        few = search rules;
        within = search rules;
        room = search rules;
      }
    ]
