-- What is known of a whole channel needn't be asked for of its rows.
use Rattle.std.proofs.Common.{◌≡◌, true, ◌&&◌, sym, ap, ◌∙◌}
use Rattle.channel_globs.specs.declared.nslc.Nslc.{Nslc}
use Rattle.mseed_header.specs.declared.header.Header.{Header}
use Rattle.dataselect.specs.declared.query.DataQuery.{DataQuery}
use Rattle.dataselect.specs.declared.query.Selection.{Selection}
use Rattle.dataselect.specs.Query.{is_named, is_selected, meets}
use Rattle.time_index.specs.Windows.{is_of_quality}

pub asked : (query : DataQuery) (s : Selection) (name : Nslc) (h : Header) → is_named s name ≡ true → h.name ≡ name → is_of_quality query h ≡ true → meets s h ≡ (is_of_quality query h && is_selected s h)
unfolding is_selected
asked query s name h named same quality =
    let here : is_named s h.name ≡ true = ap (is_named s) same ∙ named in
    sym (λ i. quality i && (here i && meets s h))
