-- Two readings of the same bytes answer alike.
use Rattle.std.proofs.Common.{ℕ, List, ◌++◌, sym, ◌∙◌, ap, subst}
use Rattle.http_wire.specs.Fronts.{front_limit}
use Rattle.http_wire.specs.Heads.{HeadView, closes}
use Rattle.http_wire.specs.Items.{EndsAtFront, EndsInBody}
use Rattle.http_wire.specs.Laws.{SameRequestHoweverCut, SameEndHoweverCut, NoEndForARequest, NoCutForARequest, NoCutForAnEnd}
use Rattle.http_wire.proofs.Told.{moved_all, request_of_all, end_of_all, cut_of_all}
use Rattle.http_wire.proofs.Unique.{one_request, no_request, no_whole_body, not_both, one_end}

pub same_request : SameRequestHoweverCut
same_request most left rest old new more last kept then out written sent told one other g h e =
    let a = moved_all left rest old g.used new g.moved in
    let b = moved_all more last kept h.used then h.moved in
    let same = one_request front_limit most g.used h.used (new ++ rest) (then ++ last) g.head h.head one.body other.body g.item h.item (sym a ∙ e ∙ b) in
    let t = g.tells in
    let u = h.tells in (
      record {
        method = t.method_is ∙ ap (λ (v : HeadView). v.method) same.0 ∙ sym u.method_is;
        target = t.target_is ∙ ap (λ (v : HeadView). v.target) same.0 ∙ sym u.target_is;
        fields = t.fields_are ∙ ap (λ (v : HeadView). v.fields) same.0 ∙ sym u.fields_are;
        body = same.1;
        close = t.close_is ∙ ap closes same.0 ∙ sym u.close_is;
      },
      same.2,
    )

pub same_end : SameEndHoweverCut
same_end most left rest old more last kept out written sent told one other g h e =
    let P : List ℕ → Type 0 = λ bytes. EndsAtFront front_limit most bytes other in
    one_end front_limit most (old ++ left) one other (end_of_all most left rest old out written one g)
    (subst P (sym e) (end_of_all most more last kept sent told other h))

pub no_end_for_a_request : NoEndForARequest
no_end_for_a_request most left rest old new more last kept out written sent told request why g h e =
    let a = request_of_all most left rest old new out written request g in
    no_request front_limit most (kept ++ more) a.0 (new ++ rest) why a.1 request.body (end_of_all most more last kept sent told why h) a.2 (sym e ∙ a.3)

pub no_cut_for_a_request : NoCutForARequest
no_cut_for_a_request most left rest old new more last kept out written sent told request g h e =
    let a = request_of_all most left rest old new out written request g in
    no_whole_body front_limit most (kept ++ more) a.0 (new ++ rest) a.1 request.body (cut_of_all most more last kept sent told h) a.2 (sym e ∙ a.3)

pub no_cut_for_an_end : NoCutForAnEnd
no_cut_for_an_end most left rest old more last kept out written sent told why g h e =
    let P : List ℕ → Type 0 = λ bytes. EndsInBody front_limit most bytes in
    not_both front_limit most (old ++ left) why (end_of_all most left rest old out written why g)
    (subst P (sym e) (cut_of_all most more last kept sent told h))
