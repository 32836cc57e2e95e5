-- Worked examples of the definitions.
use Rattle.std.proofs.Common.{◌≡◌, ℕ, true, false, List, [], ◌∷◌, None, Some, pos, refl, codes}
use Rattle.exact_time.specs.declared.moment.Moment.{Moment}
use Rattle.archive_entry.specs.declared.entry.Entry.{Entry}
use Rattle.archive_entry.specs.declared.entry.Kind.TheVariants.{Batch, Revise}
use Rattle.archive_state.specs.Admits.{number_of}
use Rattle.archive_state.specs.History.{earlier_of, last_seq}
use Rattle.archive_state.specs.Lawful.{is_fit, is_founding}
use Rattle.archive_state.specs.Lines.{line_number}

abbrev epoch : Moment
epoch = record { micros = pos 0 }

abbrev founding : List ℕ → Entry
founding body = record { number = 1; moment = epoch; author = codes "op"; seq = 0; kind = Revise; body = body }

-- op founds an archive
op_founds : is_founding (founding (codes "USR|op|939e7578ed9e3c518a452acee763bce9|operator\n")) ≡ true
op_founds = refl

-- not with a digest in upper case, without the line's end, or in another's name
upper_case : is_founding (founding (codes "USR|op|939E7578ED9E3C518A452ACEE763BCE9|operator\n")) ≡ false
upper_case = refl

no_end : is_founding (founding (codes "USR|op|939e7578ed9e3c518a452acee763bce9|operator")) ≡ false
no_end = refl

another : is_founding (founding (codes "USR|ad|939e7578ed9e3c518a452acee763bce9|operator\n")) ≡ false
another = refl

-- the founding entry has no sequence number, and fits nowhere else
fits_nowhere : is_fit (founding (codes "USR|op|939e7578ed9e3c518a452acee763bce9|operator\n")) ≡ false
fits_nowhere = refl

-- the second line that says something, behind a comment and an empty line
behind : line_number (codes "# comment\nNET|XX|Test|2000-01-01|\n\nSTA|XX|S0|1|1|1|s|2000-01-01|\n") 2 ≡ 4
behind = refl

-- three entries of two authors
abbrev three : List Entry
three =
    record { number = 1; moment = epoch; author = codes "op"; seq = 0; kind = Revise; body = [] }
    ∷ record { number = 2; moment = epoch; author = codes "op"; seq = 1; kind = Revise; body = [] }
    ∷ record { number = 3; moment = epoch; author = codes "feed1"; seq = 1; kind = Batch; body = [] }
    ∷ []

last_of_op : last_seq three (codes "op") ≡ 1
last_of_op = refl

last_of_none : last_seq three (codes "ada") ≡ 0
last_of_none = refl

found : number_of (earlier_of three (codes "feed1") 1) ≡ Some 3
found = refl

not_found : number_of (earlier_of three (codes "feed1") 2) ≡ None
not_found = refl
