-- A route without parameters that is added to such routes.
use Rattle.std.proofs.Common.{◌≡◌, ◌∙◌, refl, sym, ap, subst, ℕ, zero, suc, ◌<◌, List, [], ◌∷◌, ◌++◌, length, drop, get_or, find, Option, Some, None, option_map, Bool, true, false, cond, ◌==◌, ◌&&◌, Ok, Err, bytes_eq, eqb-true, arith}
use Rattle.std.proofs.lemmas.Bool.Decides.{nat_tests}
use Rattle.std.specs.Cmp.Lexicographic.{bytes_decides}
use Rattle.matchit.specs.Conflict.{conflicts, param_place, wild_clash, segment_start}
use Rattle.matchit.specs.Level.{IsText}
use Rattle.matchit.specs.Order.{common_len, lookup, placed}
use Rattle.matchit.specs.Route.{parse_route}
use Rattle.matchit.specs.Router.{RouteOf, nearest, Refused, InsertsRead}
use Rattle.matchit.specs.Rows.{RowsOf, comes_before, param_token, catch_all_token}
use Rattle.matchit.specs.Seek.{or_else, same_text, slash}
use Rattle.matchit.specs.declared.error.InsertError.{InsertError}
use Rattle.matchit.specs.declared.error.InsertError.TheVariants.{Conflict, InvalidParam, InvalidParamSegment, InvalidCatchAll, OutOfMemory}
use Rattle.matchit.proofs.ConflictLemmas.{same-tokens}
use Rattle.service_paths.specs.Paths.{Row, row, page_in}
use Rattle.service_paths.specs.Routers.{IsStatic, HoldsRows, is_plain, plain_route}
use Rattle.service_paths.specs.declared.page.Page.{Page}
use Rattle.service_paths.proofs.PlainTexts.{parsed, plain-IsText}
use Rattle.service_paths.proofs.StaticLemmas.{or_else_none}

-- each token of a text is a byte
token_below : (text : List ℕ) (i : ℕ) → IsText text → get_or text i 0 < 256
token_below [] i t = omega arith
token_below (b ∷ text) zero t = t.0
token_below (b ∷ text) (suc i) t = token_below text i t.1

drop-IsText : (n : ℕ) (text : List ℕ) → IsText text → IsText (drop n text)
drop-IsText zero text t = t
drop-IsText (suc n) [] t = t
drop-IsText (suc n) (b ∷ text) t = drop-IsText n text t.1

no_parameter : (text : List ℕ) → IsText text → param_place text ≡ None
no_parameter [] t = refl
no_parameter (b ∷ text) t =
    let below = t.0 in
    let a : (b == catch_all_token) ≡ false = grind (arith, nat_tests, below) in
    let d : (b == param_token) ≡ false = grind (arith, nat_tests, below) in
    rw (a, d, no_parameter text t.1) (either (b == slash))
  where
    either : (v : Bool) → cond {A = Option ℕ} v None None ≡ None
    either true = refl
    either false = refl

no_wild_clash : (x y : ℕ) → x < 256 → y < 256 → wild_clash x y ≡ false
no_wild_clash x y l m =
    let a : (x == param_token) ≡ false = grind (arith, nat_tests, l) in
    let b : (x == catch_all_token) ≡ false = grind (arith, nat_tests, l) in
    rw (a, b) refl

-- other texts aren't as long as what they share
not_whole : (a b : List ℕ) → same_text a b ≡ false → (common_len a b == length a && common_len a b == length b) ≡ false
not_whole a b other = by (common_len a b == length a) refl (common_len a b == length b) refl
  where
    by : (u : Bool) → (common_len a b == length a) ≡ u → (v : Bool) → (common_len a b == length b) ≡ v → (u && v) ≡ false
    by false e v f = refl
    by true e false f = refl
    by true e true f =
        let as_long : length a ≡ length b = sym (eqb-true _ _ e) ∙ eqb-true _ _ f in
        sym (sym (same-tokens a b as_long ∙ other) ∙ e)

-- two texts that differ can stand together
no_conflict : (a b : List ℕ) → IsText a → IsText b → same_text a b ≡ false → conflicts a b ≡ false
no_conflict a b s t other =
    let n = common_len a b in
    let k = segment_start a n in
    rw (not_whole a b other, no_wild_clash (get_or a n 0) (get_or b n 0) (token_below a n s) (token_below b n t), no_parameter (drop k a) (drop-IsText k a s)) refl

other_way : (a b : List ℕ) → same_text b a ≡ false → same_text a b ≡ false
other_way a b e = by (same_text a b) refl
  where
    by : (v : Bool) → same_text a b ≡ v → same_text a b ≡ false
    by false f = f
    by true f = absurd (let g : same_text b a ≡ true = (bytes_decides b a).1 (sym ((bytes_decides a b).0 f)) in cc)

-- what a lookup that finds nothing says of the first row, and of those behind it
lacks : {K : Type 0} (text q : List ℕ) (k : K) (rest : RowsOf K) → lookup text ((q, k) ∷ rest) ≡ None
    → (same_text q text ≡ false) × (lookup text rest ≡ None)
lacks {K} text q k rest e = by (same_text q text) refl e
  where
    by : (v : Bool) → same_text q text ≡ v → cond {A = Option K} v (Some k) (lookup text rest) ≡ None → (same_text q text ≡ false) × (lookup text rest ≡ None)
    by true f g = absurd (let h : Some k ≡ None = g in cc)
    by false f g = (f, g)

-- a text that no route has conflicts with none
none_near : {K : Type 0} (text : List ℕ) (rs : RowsOf K) → IsText text → IsStatic rs → lookup text rs ≡ None → nearest text rs ≡ None
none_near text [] t s e = refl
none_near text ((q, k) ∷ rest) t s e =
    let l = lacks text q k rest e in
    rw (no_conflict text q t s.0 (other_way text q l.0)) (none_near text rest t s.1 l.1)

placed-IsStatic : {K : Type 0} (text : List ℕ) (k : K) (rs : RowsOf K) → IsText text → IsStatic rs → IsStatic (placed (text, k) rs)
placed-IsStatic text k [] t s = (t, tt)
placed-IsStatic {K} text k ((q, l) ∷ rest) t s =
    elim (comes_before text q) as (λ v. IsStatic {K = K} (cond v ((text, k) ∷ (q, l) ∷ rest) ((q, l) ∷ placed (text, k) rest))) [
      | true ↦ (t, s)
      | false ↦ (s.0, placed-IsStatic text k rest t s.1)
    ]

-- the new row in front of the others
in_front : {K : Type 0} (path text : List ℕ) (k : K) (rs : RowsOf K) → lookup text rs ≡ None
    → lookup path ((text, k) ∷ rs) ≡ or_else (lookup path rs) (cond (same_text text path) (Some k) None)
in_front {K} path text k rs e = by (same_text text path) refl
  where
    by : (v : Bool) → same_text text path ≡ v → cond {A = Option K} v (Some k) (lookup path rs) ≡ or_else (lookup path rs) (cond v (Some k) None)
    by false f = sym (or_else_none (lookup path rs))
    by true f =
        let none : lookup path rs ≡ None = subst (λ p. lookup p rs ≡ None) ((bytes_decides text path).0 f) e in
        rw none refl

-- the new row is found by its text, and else what was found before
lookup-placed : {K : Type 0} (path text : List ℕ) (k : K) (rs : RowsOf K) → lookup text rs ≡ None
    → lookup path (placed (text, k) rs) ≡ or_else (lookup path rs) (cond (same_text text path) (Some k) None)
lookup-placed path text k [] e = refl
lookup-placed {K} path text k ((q, l) ∷ rest) e =
    let gives = or_else (lookup path ((q, l) ∷ rest)) (cond (same_text text path) (Some k) None) in
    elim (comes_before text q) as (λ v. lookup path (cond v ((text, k) ∷ (q, l) ∷ rest) ((q, l) ∷ placed (text, k) rest)) ≡ gives) [
      | true ↦ in_front path text k ((q, l) ∷ rest) e
      | false ↦ elim (same_text q path) as (λ v. cond {A = Option K} v (Some l) (lookup path (placed (text, k) rest)) ≡ or_else (cond v (Some l) (lookup path rest)) (cond (same_text text path) (Some k) None)) [
        | true ↦ refl
        | false ↦ lookup-placed path text k rest (lacks text q l rest e).1
      ]
    ]

-- the same of a table with one more row
page_in-snoc : (path : List ℕ) (rows : List Row) (new : Row)
    → page_in (rows ++ new ∷ []) path ≡ or_else (page_in rows path) (cond (bytes_eq new.path path) (Some new.page) None)
page_in-snoc path [] new = by (bytes_eq new.path path)
  where
    by : (v : Bool) → option_map (λ (r : Row). r.page) (cond v (Some new) None) ≡ cond v (Some new.page) None
    by true = refl
    by false = refl
page_in-snoc path (r ∷ rows) new = by (bytes_eq r.path path) (page_in-snoc path rows new)
  where
    by : (v : Bool) → page_in (rows ++ new ∷ []) path ≡ or_else (page_in rows path) (cond (bytes_eq new.path path) (Some new.page) None)
        → option_map (λ (s : Row). s.page) (cond v (Some r) (find (λ (s : Row). bytes_eq s.path path) (rows ++ new ∷ [])))
        ≡ or_else (option_map (λ (s : Row). s.page) (cond v (Some r) (find (λ (s : Row). bytes_eq s.path path) rows))) (cond (bytes_eq new.path path) (Some new.page) None)
    by true same = refl
    by false same = same

value_of_either : (a : Option (RouteOf Page)) (v : Bool) (k : RouteOf Page)
    → option_map (λ (r : RouteOf Page). r.value) (or_else a (cond v (Some k) None)) ≡ or_else (option_map (λ (r : RouteOf Page). r.value) a) (cond v (Some k.value) None)
value_of_either (Some r) v k = refl
value_of_either None true k = refl
value_of_either None false k = refl

-- where a table has no row of a text, no route of its router has that text
pub no_route : (rows : List Row) (router : RowsOf (RouteOf Page)) (text : List ℕ) → HoldsRows rows router → page_in rows text ≡ None → lookup text router ≡ None
no_route rows router text holds e = by (lookup text router) (holds.pages text ∙ e)
  where
    by : (o : Option (RouteOf Page)) → option_map (λ (r : RouteOf Page). r.value) o ≡ None → o ≡ None
    by None f = refl
    by (Some r) f = absurd (let g : Some r.value ≡ None = f in cc)

-- one more row of the table, whose path is new, is one more route
pub added : (rows : List Row) (router : RowsOf (RouteOf Page)) (text : List ℕ) (page : Page) → HoldsRows rows router → is_plain text ≡ true
    → lookup text router ≡ None → HoldsRows (rows ++ row text page ∷ []) (placed (plain_route text page) router)
added rows router text page holds plain new =
    let route : RouteOf Page = record { pattern = text; text = text; names = []; value = page } in
    record {
      static = placed-IsStatic text route router (plain-IsText text plain) holds.static;
      pages = λ path.
          ap (option_map (λ (r : RouteOf Page). r.value)) (lookup-placed path text route router new)
          ∙ value_of_either (lookup path router) (same_text text path) route
          ∙ ap (λ o. or_else o (cond (same_text text path) (Some page) None)) (holds.pages path)
          ∙ sym (page_in-snoc path rows (row text page));
    }

-- where no route conflicts, a route is refused for want of memory alone
for_memory : (text : List ℕ) (rs : RowsOf (RouteOf Page)) (e : InsertError) → nearest text rs ≡ None → Refused text rs e → e ≡ OutOfMemory
for_memory text rs (Conflict with) none (n, found, k) = absurd (let bad : None ≡ Some n = sym none ∙ found in cc)
for_memory text rs InvalidParam none h = absurd h
for_memory text rs InvalidParamSegment none h = absurd h
for_memory text rs InvalidCatchAll none h = absurd h
for_memory text rs OutOfMemory none h = refl

module _ (text : List ℕ) (page : Page) (old new : RowsOf (RouteOf Page)) where
  -- what an insert of a plain text did
  pub inserted : (u : Unit {0}) → is_plain text ≡ true → InsertsRead (parse_route text) page old new (Ok u) → new ≡ placed (plain_route text page) old
  inserted u plain did = (rw (parsed text plain) at did).1

  -- and why it did nothing
  pub refused : (e : InsertError) → is_plain text ≡ true → IsStatic old → lookup text old ≡ None → InsertsRead (parse_route text) page old new (Err e) → e ≡ OutOfMemory
  refused e plain static none did =
      for_memory text old e (none_near text old (plain-IsText text plain) static none) (rw (parsed text plain) at did).1
