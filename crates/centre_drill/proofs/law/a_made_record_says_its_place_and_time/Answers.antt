use Rattle.std.proofs.Common.{refl}
use Rattle.centre_drill.proofs.Heads.{made_header, made_is_record}
use Rattle.centre_drill.proofs.law.a_made_record_says_its_place_and_time.Goals as goal

pub returns : goal.returns
returns c = λ i below. (
  made_header i below,
  made_is_record i below,
  record { network = refl; station = refl; location = refl; channel = refl; quality = refl; start = refl; samples = refl; rate = (refl, refl) },
)
