-- Which names are held, and in which order.
use Rattle.std.proofs.Common.{◌≡◌, ◌↔◌, Bool, true, false, ◌&&◌, ◌||◌, cond, List, [], ◌∷◌, map, filter, refl, sym, ap, ◌∙◌}
use Rattle.std.specs.Prelude.{Any, Contains}
use Rattle.std.specs.List.{list_any}
use Rattle.std.specs.List.Sorted.{IsStrictlySortedBy}
use Rattle.std.specs.Cmp.{Equal-is}
use Rattle.std.specs.Ordering.{eq_by_cmp}
use Rattle.std.proofs.lemmas.Bool.{and_parts, and_from}
use Rattle.std.proofs.lemmas.Cmp.{eq_by_cmp_equiv}
use Rattle.std.proofs.lemmas.Map.Views.{Contains-from_any, list_any-from_Contains}
use Rattle.list_laws.proofs.Keys.{sorted_in_order, any_in_order}
use Rattle.channel_globs.specs.Names.{name_cmp}
use Rattle.channel_globs.specs.declared.nslc.Nslc.{Nslc}
use Rattle.channel_globs.proofs.Names.{names_total, exact_names}
use Rattle.mseed_header.specs.declared.row.Row.{Row}
use Rattle.dataselect.specs.HeldNames.{names_of}
use Rattle.dataselect.specs.Law.{IsNamedBy}
use Rattle.dataselect.specs.Query.{is_named}
use Rattle.dataselect.specs.declared.query.Selection.{Selection}
use Rattle.dataselect.proofs.Asked.{any_as, named_decides}

abbrev pub equal : Nslc → Nslc → Bool
equal = eq_by_cmp name_cmp

pub same_names : (a b : Nslc) → equal a b ≡ true → a ≡ b
same_names a b h = exact_names a b ((Equal-is (name_cmp a b)).0 h)

pub equal_names : (a b : Nslc) → a ≡ b → equal a b ≡ true
equal_names a b h = ap (equal a) (sym h) ∙ (eq_by_cmp_equiv names_total).refl a

none : (b : Bool) → false ≡ (b && false)
none true = refl
none false = refl

-- a name that passes is found among those that do
pub filtered : (t : Nslc → Bool) (name : Nslc) (rows : List Row) → list_any (equal name) (filter t (map (λ row. row.header.name) rows)) ≡ (t name && list_any (λ row. equal name row.header.name) rows)
filtered t name [] = none (t name)
filtered t name (row ∷ rows) =
    let f = row.header.name in
    let rest = filter t (map (λ (r : Row). r.header.name) rows) in
    elim (equal name f) as (λ e. equal name f ≡ e → list_any (equal name) (cond (t f) (f ∷ rest) rest) ≡ (t name && (e || list_any (λ (r : Row). equal name r.header.name) rows))) [
      | true ↦ λ e.
          let same : t f ≡ t name = ap t (sym (same_names name f e)) in
          ap (λ b. list_any (equal name) (cond b (f ∷ rest) rest)) same
          ∙ elim (t name) as (λ b. (list_any (equal name) rest ≡ (b && list_any (λ (r : Row). equal name r.header.name) rows)) → list_any (equal name) (cond b (f ∷ rest) rest) ≡ (b && true)) [
            | true ↦ λ _. ap (λ c. c || list_any (equal name) rest) e
            | false ↦ λ h. h
          ] (filtered t name rows)
      | false ↦ λ e.
          elim (t f) as (λ b. list_any (equal name) (cond b (f ∷ rest) rest) ≡ list_any (equal name) rest) [
            | true ↦ ap (λ c. c || list_any (equal name) rest) e
            | false ↦ refl
          ]
          ∙ filtered t name rows
    ] refl

pub names_sorted : (s : Selection) (rows : List Row) → IsStrictlySortedBy name_cmp (names_of s rows)
names_sorted s rows = sorted_in_order names_total (filter (is_named s) (map (λ row. row.header.name) rows))

pub names_are : (s : Selection) (rows : List Row) (name : Nslc) → Contains (names_of s rows) name ↔ (IsNamedBy s name × Any (λ row. row.header.name ≡ name) rows)
names_are s rows name =
    let keys = filter (is_named s) (map (λ (row : Row). row.header.name) rows) in
    let all = any_in_order exact_names (equal name) keys ∙ filtered (is_named s) name rows in
    let there = any_as (λ (row : Row). equal name row.header.name) (λ row. row.header.name ≡ name) (λ row. (λ e. sym (same_names name row.header.name e), λ e. equal_names name row.header.name (sym e))) rows in (
      λ c.
          let both = and_parts (is_named s name) (list_any (λ (row : Row). equal name row.header.name) rows) (sym all ∙ list_any-from_Contains (eq_by_cmp_equiv names_total) name (names_of s rows) c) in
          ((named_decides s name).0 both.0, there.0 both.1),
      λ h. Contains-from_any same_names name (names_of s rows) (all ∙ and_from (is_named s name) (list_any (λ (row : Row). equal name row.header.name) rows) ((named_decides s name).1 h.0) (there.1 h.1)),
    )
