use Rattle.std.proofs.Common.{subst}
use Rattle.epochs.specs.declared.key.Key.{Key}
use Rattle.epochs.specs.Spellable.{IsSpellable}
use Rattle.epochs.specs.Keys.{deletion_line}
use Rattle.epoch_catalog.proofs.CopiedGlobs.{of_restriction_key, of_grant_key, of_withdrawal_key}
use Rattle.epoch_catalog.proofs.copying.copy_key.Goals as goal

pub copy_globs-requires : goal.copy_globs-requires
copy_globs-requires c =
    of_restriction_key c.in-Rst.channels c.in-Rst.start (subst (λ (k : Key). IsSpellable (deletion_line k)) c.in-Rst.is c.requires)

pub copy_globs-requires-in-Grt : goal.copy_globs-requires-in-Grt
copy_globs-requires-in-Grt c =
    of_grant_key c.in-Grt.user c.in-Grt.channels c.in-Grt.start (subst (λ (k : Key). IsSpellable (deletion_line k)) c.in-Grt.is c.requires)

pub copy_globs-requires-in-Wdr : goal.copy_globs-requires-in-Wdr
copy_globs-requires-in-Wdr c =
    of_withdrawal_key c.in-Wdr.channels c.in-Wdr.start (subst (λ (k : Key). IsSpellable (deletion_line k)) c.in-Wdr.is c.requires)
