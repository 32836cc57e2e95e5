use Rattle.std.proofs.Common.{◌≡◌, true, false, Bool, Some, Result, Ok, Err, OnOk, OnErr, cond, refl, sym, subst, ap, ◌∙◌, unwrap_or, List}
use Rattle.std.specs.BTreeMap.{BTreeMap, get, is_at}
use Rattle.std.specs.Map.{lookup}
use Rattle.channel_globs.specs.declared.nslc.Nslc.{Nslc}
use Rattle.channel_globs.specs.Names.{name_cmp}
use Rattle.mseed_header.specs.declared.row.Row.{Row}
use Rattle.time_index.specs.Spots.{is_same}
use Rattle.time_index.specs.Wholes.{SeesAll}
use Rattle.time_index.proofs.Named.{same_name}
use Rattle.time_index.proofs.wholes.Wholes.is_whole.Goals as goal

either : {T E P Q R : Type 0} (r : Result T E) → (P → R) → (Q → R) → OnOk r P → OnErr r Q → R
either (Ok v) f g p q = f p
either (Err e) f g p q = g q

-- what is known of some channels, and of one more
learned : (seen : Row → Bool) (m n : BTreeMap Nslc Bool) (name : Nslc) (whole : Bool)
    → ((q : Nslc) → get name_cmp m q ≡ Some true → SeesAll seen q) → (whole ≡ true → SeesAll seen name)
    → ((q : Nslc) → get name_cmp n q ≡ cond (is_same name q) (Some whole) (get name_cmp m q))
    → (q : Nslc) → get name_cmp n q ≡ Some true → SeesAll seen q
learned seen m n name whole known tells updates q at =
    elim (is_same name q) as (λ b. is_same name q ≡ b → cond b (Some whole) (get name_cmp m q) ≡ Some true → SeesAll seen q) [
      | true ↦ λ t is. subst (SeesAll seen) (same_name name q t) (tells (ap (λ o. unwrap_or o false) is))
      | false ↦ λ _ is. known q is
    ] refl (sym (updates q) ∙ at)

pub invariant_of-self : goal.invariant_of-self
invariant_of-self g c =
    let seen = g.V.Sight.seen c.args.self.now.sight.now in
    let before = c.args.self.now.names in
    let after = c.insert.new.self in
    record {
      known = either c.insert.result
          (λ updates. learned seen before after c.args.name.now c.whole-whole.result c.args.self.now.known (λ is row named. (c.whole-whole.ensures is row named).0) updates.0)
          (λ kept name at. c.args.self.now.known name (ap (λ (entries : List (Nslc × Bool)). lookup (is_at (name_cmp name)) entries) (sym kept) ∙ at))
          c.insert.ensures.updates c.insert.ensures.err;
    }
