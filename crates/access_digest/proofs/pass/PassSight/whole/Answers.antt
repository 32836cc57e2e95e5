use Rattle.std.proofs.Common.{sym, ◌∙◌, option_map}
use Rattle.access_digest.proofs.Wholes.{seen_whole}
use Rattle.access_digest.proofs.pass.PassSight.whole.Goals as goal

pub returns-clause-whole : goal.returns-clause-whole
returns-clause-whole c = λ h row is. seen_whole c.args.self.now.catalog.now (option_map (λ u. u.now.name) c.args.self.now.user) c.args.name.now (sym c.is_whole.ensures ∙ h) row is
