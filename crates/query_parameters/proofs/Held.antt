-- The words of the parameters so far.
use Rattle.std.proofs.Common.{◌≡◌, ℕ, ◌<◌, true, false, List, [], ◌∷◌, ◌++◌, Option, Some, None, length, get_or, set, replicate, refl, sym, ap, subst, ◌∙◌, ◌⊎◌, inl, inr}
use Rattle.std.specs.Option.{is_some}
use Rattle.std.proofs.lemmas.Bool.{cases_eq}
use Rattle.std.proofs.lemmas.List.{append_assoc, length-set, get_or-set_same, get_or-set_other, get_or-replicate, length-replicate}
use Rattle.query_parameters.specs.declared.fault.QueryFault.{QueryFault}
use Rattle.query_parameters.specs.declared.fault.QueryFault.TheVariants.{TooMany, Unknown, Repeated, OutOfScope, Value, Line, Order, NoLine, OutOfMemory}
use Rattle.query_parameters.specs.declared.rows.ValueKind.{ValueKind}
use Rattle.query_parameters.specs.declared.rows.ValueKind.TheVariants as kind
use Rattle.query_parameters.specs.declared.words.ParameterValue.{ParameterValue}
use Rattle.query_parameters.specs.FirstRefusals.{IsFirstRefusal}
use Rattle.query_parameters.specs.Parameters.{Parameter, given, TakesParameter, RefusesParameter}
use Rattle.query_parameters.specs.Rows.{Named, place_of_name, kind_of}
use Rattle.query_parameters.specs.Values.{CanRead}
use Rattle.query_parameters.specs.Words.{IsParameterValue, ReadsValue, IsHeld, AreHeld, HasReadParameters, PutsValue, RefusesPut, RefusesParameters}
use Rattle.query_parameters.proofs.RefusalLaws.{taken_more}
use Rattle.query_parameters.proofs.RowPlaces.{within_rows, given_last, given_other}

-- a kind with a word can be read
can_read : (k : ValueKind) (text : List ℕ) (w : ParameterValue) → IsParameterValue k text w → CanRead k text
can_read kind.Time text w h = (h.0.micros, h.2)
can_read (kind.Patterns part) text w h = (h.0, h.2)
can_read kind.Nodata text w h = (h.0, h.2)
can_read kind.Quality text w h = (h.0, h.2)
can_read kind.Seconds text w h = (h.0, h.2)
can_read kind.Flag text w h = (h.0, h.2)
can_read kind.Level text w h = (h.0, h.2)
can_read kind.Decimal text w h = (h.0.millionths, h.2)
can_read kind.Latitude text w h = (h.0.millionths, h.2)
can_read kind.Longitude text w h = (h.0.millionths, h.2)
can_read kind.Count text w h = (h.0, h.2)
can_read kind.EntryNumber text w h = (h.0, h.2)
can_read kind.Text text w h = tt
can_read kind.EventOrder text w h = (h.0, h.2)
can_read kind.Qualities text w h = (h.0, h.2)
can_read kind.Merges text w h = (h.0, h.2)
can_read kind.SpansOrder text w h = (h.0, h.2)
can_read kind.ExtentOrder text w h = (h.0, h.2)
can_read kind.AvailForm text w h = (h.0, h.2)
can_read kind.Format text w h = h.1
can_read kind.TextForm text w h = h.1
can_read kind.Always text w h = h.1
can_read kind.Never text w h = h.1
can_read kind.LeftOut text w h = absurd h

nothing_given : (k : ValueKind) (o : Option (List ℕ)) (held : Option ParameterValue) → IsHeld k o held → held ≡ None → o ≡ None
nothing_given k None held h e = refl
nothing_given k (Some text) held h e = let is : held ≡ Some h.0 = h.1 in cc

something_given : (k : ValueKind) (o : Option (List ℕ)) (held : Option ParameterValue) → IsHeld k o held → is_some held ≡ true → (text : List ℕ) × (o ≡ Some text)
something_given k None held h e = let no_word : is_some held ≡ false = ap is_some h in cc
something_given k (Some text) held h e = (text, refl)

-- a parameter's word is put into its free row
pub puts_word : (rows : List Named) (name value : List ℕ) (words : List (Option ParameterValue)) (row : ℕ) (w : ParameterValue) → place_of_name rows name ≡ Some row → is_some (get_or words row None) ≡ false
    → ReadsValue (kind_of rows row) value w → PutsValue rows name value words (set words row (Some w))
puts_word rows name value words row w names free reads = record {
  row = row;
  names = names;
  free = no_word (get_or words row None) free;
  w = w;
  reads = record { plain = reads.plain; can = can_read (kind_of rows row) value w reads.is_word };
  is_word = reads.is_word;
  put = refl;
}
  where
    no_word : (o : Option ParameterValue) → is_some o ≡ false → o ≡ None
    no_word None e = refl
    no_word (Some x) e = cc

pub start : (rows : List Named) (all : List Parameter) (count : ℕ) (words : List (Option ParameterValue)) → length rows ≡ count → words ≡ replicate count None → HasReadParameters rows all [] all words
start rows all count words size e = record {
  split = refl;
  taken = tt;
  held = record {
    size = ap length e ∙ length-replicate count None ∙ sym size;
    each = λ row lt. ap (λ ws. get_or ws row None) e ∙ get_or-replicate count row None None (subst (λ n. row < n) size lt);
  };
}

module _ (rows : List Named) (done : List Parameter) (p : Parameter) (words : List (Option ParameterValue)) (held : AreHeld rows done words) where
  free_given : (row : ℕ) → place_of_name rows p.name ≡ Some row → get_or words row None ≡ None → given rows row done ≡ None
  free_given row names free = nothing_given (kind_of rows row) (given rows row done) (get_or words row None) (held.each row (within_rows rows p.name row names)) free

  held_at : (more : List (Option ParameterValue)) → (put : PutsValue rows p.name p.value words more) → (row : ℕ) → row < length rows → (put.row ≡ row) ⊎ (put.row ≡ row → ⊥)
      → IsHeld (kind_of rows row) (given rows row (done ++ p ∷ [])) (get_or more row None)
  held_at more put row lt (inl same) =
      let names : place_of_name rows p.name ≡ Some row = put.names ∙ ap Some same in
      let now = given_last rows row done p (free_given row names (subst (λ r. get_or words r None ≡ None) same put.free)) names in
      let set_is : get_or more row None ≡ Some put.w = ap (λ ws. get_or ws row None) put.put ∙ ap (λ r. get_or (set words r (Some put.w)) row None) same ∙ get_or-set_same words row (Some put.w) None (subst (λ n. row < n) (sym held.size) lt) in
      subst (λ (o : Option (List ℕ)). IsHeld (kind_of rows row) o (get_or more row None)) (sym now) (put.w, set_is, subst (λ r. IsParameterValue (kind_of rows r) p.value put.w) same put.is_word)
  held_at more put row lt (inr other) =
      let now = given_other rows row put.row done p put.names other in
      let set_is : get_or more row None ≡ get_or words row None = ap (λ ws. get_or ws row None) put.put ∙ get_or-set_other words put.row row (Some put.w) None (λ e. other (sym e)) in
      subst (λ (o : Option (List ℕ)). IsHeld (kind_of rows row) o (get_or more row None)) (sym now) (subst (λ (h : Option ParameterValue). IsHeld (kind_of rows row) (given rows row done) h) (sym set_is) (held.each row lt))

  -- a word more
  pub held_more : (more : List (Option ParameterValue)) → PutsValue rows p.name p.value words more → AreHeld rows (done ++ p ∷ []) more
  held_more more put = record { size = ap length put.put ∙ length-set words put.row (Some put.w) ∙ held.size; each = λ row lt. held_at more put row lt (cases_eq put.row row) }

  pub takes : (more : List (Option ParameterValue)) → PutsValue rows p.name p.value words more → TakesParameter rows done p
  takes more put = record { row = put.row; is_new = record { names = put.names; free = free_given put.row put.names put.free }; reads = put.reads }

  -- a word that isn't put, for want of memory or for a wrong parameter
  pub refuses : (fault : QueryFault) → RefusesPut rows p.number p.name p.value words fault → (fault ≡ OutOfMemory) ⊎ RefusesParameter rows done p fault
  refuses (Unknown n) h = inr h
  refuses (Repeated n) h =
      let names : place_of_name rows p.name ≡ Some h.1.0 = h.1.1 in
      let earlier = something_given (kind_of rows h.1.0) (given rows h.1.0 done) (get_or words h.1.0 None) (held.each h.1.0 (within_rows rows p.name h.1.0 names)) h.1.2 in
      inr (h.0, record { row = h.1.0; names = names; earlier = earlier.0; taken = earlier.1 })
  refuses (OutOfScope n) h = inr (h.0, record { row = h.1.0; is_new = record { names = h.1.1; free = free_given h.1.0 h.1.1 h.1.2 }; out = h.1.3 })
  refuses (Value n) h = inr (h.0, record { row = h.1.0; is_new = record { names = h.1.1; free = free_given h.1.0 h.1.1 h.1.2 }; inside = h.1.3; bad = h.1.4 })
  refuses OutOfMemory h = inl refl
  refuses TooMany h = absurd h
  refuses (Line n) h = absurd h
  refuses Order h = absurd h
  refuses NoLine h = absurd h

module _ (rows : List Named) (all done rest : List Parameter) (p : Parameter) (words : List (Option ParameterValue)) (read : HasReadParameters rows all done (p ∷ rest) words) where
  pub put_more : (more : List (Option ParameterValue)) → PutsValue rows p.name p.value words more → HasReadParameters rows all (done ++ p ∷ []) rest more
  put_more more put = record {
    split = read.split ∙ sym (append_assoc done (p ∷ []) rest);
    taken = taken_more (TakesParameter rows) [] done p read.taken (takes rows done p words read.held more put);
    held = held_more rows done p words read.held more put;
  }

  first : (fault : QueryFault) → RefusesParameter rows done p fault → IsFirstRefusal (TakesParameter rows) (RefusesParameter rows) all fault
  first fault refused = record { before = done; here = p; after = rest; split = read.split; taken = read.taken; refused = refused }

  stopped : (fault : QueryFault) → (fault ≡ OutOfMemory) ⊎ IsFirstRefusal (TakesParameter rows) (RefusesParameter rows) all fault → RefusesParameters rows all fault
  stopped OutOfMemory h = tt
  stopped fault (inl starved) = subst (λ (f : QueryFault). RefusesParameters rows all f) (sym starved) tt
  stopped TooMany (inr h) = h
  stopped (Unknown n) (inr h) = h
  stopped (Repeated n) (inr h) = h
  stopped (OutOfScope n) (inr h) = h
  stopped (Value n) (inr h) = h
  stopped (Line n) (inr h) = h
  stopped Order (inr h) = h
  stopped NoLine (inr h) = h

  -- a refused one
  pub put_refused : (fault : QueryFault) → RefusesPut rows p.number p.name p.value words fault → RefusesParameters rows all fault
  put_refused fault h = elim (refuses rows done p words read.held fault h) [ inl starved ↦ stopped fault (inl starved) | inr wrong ↦ stopped fault (inr (first fault wrong)) ]
