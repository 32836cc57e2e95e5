use Rattle.std.proofs.Common.{arith, ◌≡◌, ◌∷◌, [], length}
use Rattle.std.proofs.lemmas.Result.{err_from_is_err_and}
use Rattle.epochs.specs.declared.kinds.LineKind.TheVariants.{Usr}
use Rattle.epochs.specs.declared.kinds.Head.TheVariants.{Says}
use Rattle.epochs.specs.Kinds.{UserName, Ha1, RoleNames}
use Rattle.epochs.specs.Fields.{words, roles}
use Rattle.epochs.proofs.LadderSteps.{spellable_behind, field_among, refused_behind, some_from, spelled_behind, text_at}
use Rattle.epochs.proofs.statements.read_usr.Goals as goal

pub returns-in_err-ha1-clause-refused : goal.returns-in_err-ha1-clause-refused
returns-in_err-ha1-clause-refused c =
    let fields = c.args.fields.now in
    let count : length c.args.fields.now ≡ 3 = omega (arith, c.in-len3.len_at_least, c.in-len3.len_below) in
    let p = err_from_is_err_and c.from_residual-in_err-ha1.result c.from_residual-in_err-ha1.ensures.1 in
    let bad = field_among (UserName ∷ []) Ha1 (RoleNames ∷ []) 2 (some_from fields 0 1) (text_at fields 1) (some_from fields 2 1)
    (words c.in_ok-name.name ∷ []) c.in_err-ha1.field-0.0 (c.in_ok-name.ensures.value, tt) c.in_err-ha1.ensures.refused in
    rw (p.1, p.2) (refused_behind (Says Usr) fields c.in_err-ha1.field-0.0 count bad)

pub returns-in_err-roles-clause-refused : goal.returns-in_err-roles-clause-refused
returns-in_err-roles-clause-refused c =
    let fields = c.args.fields.now in
    let count : length c.args.fields.now ≡ 3 = omega (arith, c.in-len3.len_at_least, c.in-len3.len_below) in
    let p = err_from_is_err_and c.from_residual-in_err-roles.result c.from_residual-in_err-roles.ensures.1 in
    let bad = field_among (UserName ∷ Ha1 ∷ []) RoleNames [] 2 (some_from fields 0 2) (text_at fields 2) (some_from fields 3 0)
    (words c.in_ok-name.name ∷ words c.in_ok-ha1.ha1 ∷ []) c.in_err-roles.field-0.0 (c.in_ok-name.ensures.value, (c.in_ok-ha1.ensures.value, tt)) c.in_err-roles.ensures.refused in
    rw (p.1, p.2) (refused_behind (Says Usr) fields c.in_err-roles.field-0.0 count bad)

pub invariant_of-result : goal.invariant_of-result
invariant_of-result c =
    let fields = c.args.fields.now in
    record {
      spellable = spellable_behind (Says Usr) fields
          (words c.in_ok-name.name ∷ words c.in_ok-ha1.ha1 ∷ roles c.in_ok-roles.roles ∷ [])
          (c.in_ok-name.ensures.value, (c.in_ok-ha1.ensures.value, (c.in_ok-roles.ensures.value, tt))) tt;
    }

pub returns-clause-value : goal.returns-clause-value
returns-clause-value c =
    let fields = c.args.fields.now in
    let count : length c.args.fields.now ≡ 3 = omega (arith, c.in-len3.len_at_least, c.in-len3.len_below) in
    spelled_behind (Says Usr) fields
    (words c.in_ok-name.name ∷ words c.in_ok-ha1.ha1 ∷ roles c.in_ok-roles.roles ∷ [])
    count (c.in_ok-name.ensures.value, (c.in_ok-ha1.ensures.value, (c.in_ok-roles.ensures.value, tt))) tt
