-- Values that are lists by commas, and the words of availability (fdsnws-availability 1.0, query parameters).
use Rattle.std.specs.Prelude.{◌≡◌, Bool, false, List, [], ◌∷◌, Option, Some, None, if◌then◌else◌, codes, ◌==◌}
use Rattle.std.specs.List.{list_any, list_all, slice_split}
use Rattle.std.specs.Str.{bytes_eq}
use Rattle.query_parameters.specs.Rows.{Text}
use Rattle.query_parameters.specs.declared.avail.AvailForm.{AvailForm}
use Rattle.query_parameters.specs.declared.avail.AvailForm.TheVariants as form
use Rattle.query_parameters.specs.declared.avail.AvailOrder.{AvailOrder}
use Rattle.query_parameters.specs.declared.avail.AvailOrder.TheVariants as order
use Rattle.query_parameters.specs.declared.avail.Merges.{Merges}
use Rattle.query_parameters.specs.declared.avail.QualitySet.{QualitySet}

-- the items between commas; a text without one is one item
abbrev pub items_of : Text → List Text
items_of text = slice_split (λ c. c == 44) text

abbrev pub is_one_of : List Text → Text → Bool
is_one_of words item = list_any (λ word. bytes_eq item word) words

-- an item asks for a quality, or for all four
abbrev pub is_quality_item : Text → Bool
is_quality_item item = is_one_of (codes "*" ∷ codes "B" ∷ codes "D" ∷ codes "R" ∷ codes "Q" ∷ codes "M" ∷ []) item

-- some item asks for the quality of a letter
abbrev pub asks_quality : Text → List Text → Bool
asks_quality letter items = list_any (is_one_of (codes "*" ∷ codes "B" ∷ letter ∷ [])) items

abbrev pub qualities_in : List Text → Option QualitySet
qualities_in items =
    if list_all is_quality_item items then Some (record {
      d = asks_quality (codes "D") items;
      r = asks_quality (codes "R") items;
      q = asks_quality (codes "Q") items;
      m = asks_quality (codes "M") items;
    })
    else None

-- the qualities that a text asks for
abbrev pub qualities_of : Text → Option QualitySet
qualities_of text = qualities_in (items_of text)

abbrev pub is_merge_item : Text → Bool
is_merge_item item = is_one_of (codes "samplerate" ∷ codes "quality" ∷ codes "overlap" ∷ []) item

abbrev pub has_item : Text → List Text → Bool
has_item word items = list_any (λ item. bytes_eq item word) items

abbrev pub merges_in : List Text → Option Merges
merges_in items =
    if list_all is_merge_item items then Some (record {
      rate = has_item (codes "samplerate") items;
      quality = has_item (codes "quality") items;
      overlap = has_item (codes "overlap") items;
    })
    else None

-- what a text says of records that differ
abbrev pub merges_of : Text → Option Merges
merges_of text = merges_in (items_of text)

abbrev pub no_merges : Merges
no_merges = record { rate = false; quality = false; overlap = false }

-- what is merged; nothing where nothing is said
abbrev pub IsMerges : Option Text → Merges → Type 0
IsMerges None merges = merges ≡ no_merges
IsMerges (Some text) merges = merges_of text ≡ Some merges

-- the orders that a query for spans has
abbrev pub spans_order_of : Text → Option AvailOrder
spans_order_of text =
    if bytes_eq text (codes "nslc_time_quality_samplerate") then Some order.Name
    else (if bytes_eq text (codes "latestupdate") then Some order.UpdatedUp
    else (if bytes_eq text (codes "latestupdate_desc") then Some order.UpdatedDown else None))

-- and those that one for extents has
abbrev pub extent_order_of : Text → Option AvailOrder
extent_order_of text =
    if bytes_eq text (codes "timespancount") then Some order.CountUp
    else (if bytes_eq text (codes "timespancount_desc") then Some order.CountDown else spans_order_of text)

abbrev pub avail_form_of : Text → Option AvailForm
avail_form_of text =
    if bytes_eq text (codes "text") then Some form.Text
    else (if bytes_eq text (codes "request") then Some form.Request else None)

-- the forms that this data centre leaves out
abbrev pub is_form_left_out : Text → Bool
is_form_left_out text = is_one_of (codes "geocsv" ∷ codes "json" ∷ codes "zip" ∷ []) text
