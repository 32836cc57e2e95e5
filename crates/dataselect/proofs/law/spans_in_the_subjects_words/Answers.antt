use Rattle.std.proofs.Common.{refl}
use Rattle.dataselect.proofs.Covered.{together, in_a_row}
use Rattle.dataselect.proofs.Groups.{groups_are}
use Rattle.dataselect.proofs.law.spans_in_the_subjects_words.Goals as goal

pub returns-clause-groups : goal.returns-clause-groups
returns-clause-groups c = groups_are

pub returns-clause-merged : goal.returns-clause-merged
returns-clause-merged c = λ m over rows up i j a b le at bt. together m.gap m over refl rows up i j a b le at bt

pub returns-clause-unmerged : goal.returns-clause-unmerged
returns-clause-unmerged c = λ m over rows i j le within. in_a_row m.gap m over refl rows i j le within
