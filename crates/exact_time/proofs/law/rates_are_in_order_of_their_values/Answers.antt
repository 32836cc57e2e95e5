use Rattle.exact_time.proofs.Rates.{exact_rates}
use Rattle.exact_time.proofs.law.rates_are_in_order_of_their_values.Goals as goal

pub returns-clause-equal : goal.returns-clause-equal
returns-clause-equal c = exact_rates
