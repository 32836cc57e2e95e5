-- Worked examples of whole command lines.
use Rattle.std.proofs.Common.{◌≡◌, refl, [], ◌∷◌, Some, None, codes}
use Rattle.clap.proofs.OnLiterals.{clap_on_literals}
use Rattle.command_words.specs.Commands.{InitWords, TalkWords, ServeWords, DrillWords, FetchWords, CoverageWords, init, talk, serve, drill, fetch, coverage, show, command_of}
use Rattle.command_words.specs.Layouts.{app_for}
use Rattle.command_words.specs.declared.name.CommandName.TheVariants.{Talk}
use Rattle.command_words.specs.declared.name.Shown.TheVariants.{Help, Version, HelpOf}

abbrev op_words : InitWords
op_words = record { journal = codes "a.journal"; operator = codes "op"; ha1 = codes "939e7578ed9e3c518a452acee763bce9" }

-- `init` with its three options, in any order, as two words or as one
init_asked : command_of (codes "init" ∷ codes "--ha1=939e7578ed9e3c518a452acee763bce9" ∷ codes "--operator" ∷ codes "op" ∷ codes "--journal" ∷ codes "a.journal" ∷ []) ≡ Some (init op_words)
unfolding clap_on_literals app_for
init_asked = refl

-- an HA1 in upper case makes no command, nor does an option that is left out, or one that is given twice
upper_case : command_of (codes "init" ∷ codes "--journal" ∷ codes "a.journal" ∷ codes "--operator" ∷ codes "op" ∷ codes "--ha1" ∷ codes "939E7578ED9E3C518A452ACEE763BCE9" ∷ []) ≡ None
unfolding clap_on_literals app_for
upper_case = refl

no_operator : command_of (codes "init" ∷ codes "--journal" ∷ codes "a.journal" ∷ codes "--ha1" ∷ codes "939e7578ed9e3c518a452acee763bce9" ∷ []) ≡ None
unfolding clap_on_literals app_for
no_operator = refl

twice : command_of (codes "talk" ∷ codes "--journal=a" ∷ codes "--journal=a" ∷ []) ≡ None
unfolding clap_on_literals app_for
twice = refl

abbrev talk_words : TalkWords
talk_words = record {
  journal = codes "a.journal";
  limits = record { max_bytes = 67_108_864; max_lines = 1; max_records = 2_097_152; max_archive = 536_870_912 };
}

-- `talk` with one limit; a limit of 0 makes no command
talk_asked : command_of (codes "talk" ∷ codes "--max-lines" ∷ codes "1" ∷ codes "--journal=a.journal" ∷ []) ≡ Some (talk talk_words)
unfolding clap_on_literals app_for
talk_asked = refl

no_limit : command_of (codes "talk" ∷ codes "--max-lines" ∷ codes "0" ∷ codes "--journal=a.journal" ∷ []) ≡ None
unfolding clap_on_literals app_for
no_limit = refl

abbrev serve_words : ServeWords
serve_words = record {
  journal = codes "a.journal";
  address = codes "127.0.0.1:8080";
  workers = 2;
  sessions = None;
  limits = record { max_bytes = 67_108_864; max_lines = 100_000; max_records = 2_097_152; max_archive = 536_870_912 };
}

-- `serve` with two workers; 17 are too many, and an address has to be there
serve_asked : command_of (codes "serve" ∷ codes "--listen" ∷ codes "127.0.0.1:8080" ∷ codes "--workers=2" ∷ codes "--journal=a.journal" ∷ []) ≡ Some (serve serve_words)
unfolding clap_on_literals app_for
serve_asked = refl

many_workers : command_of (codes "serve" ∷ codes "--listen=127.0.0.1:8080" ∷ codes "--workers=17" ∷ codes "--journal=a.journal" ∷ []) ≡ None
unfolding clap_on_literals app_for
many_workers = refl

no_address : command_of (codes "serve" ∷ codes "--journal=a.journal" ∷ []) ≡ None
unfolding clap_on_literals app_for
no_address = refl

abbrev drill_words : DrillWords
drill_words = record { journal = codes "a.journal"; records = 160 }

-- `drill` with its number before or behind its option; no records, and too many, make no command
drill_asked : command_of (codes "drill" ∷ codes "160" ∷ codes "--journal" ∷ codes "a.journal" ∷ []) ≡ Some (drill drill_words)
unfolding clap_on_literals app_for
drill_asked = refl

number_last : command_of (codes "drill" ∷ codes "--journal=a.journal" ∷ codes "160" ∷ []) ≡ Some (drill drill_words)
unfolding clap_on_literals app_for
number_last = refl

no_records : command_of (codes "drill" ∷ codes "0" ∷ codes "--journal=a.journal" ∷ []) ≡ None
unfolding clap_on_literals app_for
no_records = refl

many_records : command_of (codes "drill" ∷ codes "200001" ∷ codes "--journal=a.journal" ∷ []) ≡ None
unfolding clap_on_literals app_for
many_records = refl

abbrev fetch_words : FetchWords
fetch_words = record {
  peer = codes "127.0.0.1:8080";
  network = codes "IU";
  station = codes "ANMO";
  location = codes "00";
  channel = codes "BHZ";
  start = codes "2024-02-01";
  end = codes "2024-02-02";
}

-- `fetch` with the address before its positions, which has to be there
fetch_asked : command_of (codes "fetch" ∷ codes "--peer" ∷ codes "127.0.0.1:8080" ∷ codes "IU" ∷ codes "ANMO" ∷ codes "00" ∷ codes "BHZ" ∷ codes "2024-02-01" ∷ codes "2024-02-02" ∷ []) ≡ Some (fetch fetch_words)
unfolding clap_on_literals app_for
fetch_asked = refl

no_peer : command_of (codes "fetch" ∷ codes "IU" ∷ codes "ANMO" ∷ codes "00" ∷ codes "BHZ" ∷ codes "2024-02-01" ∷ codes "2024-02-02" ∷ []) ≡ None
unfolding clap_on_literals app_for
no_peer = refl

abbrev coverage_words : CoverageWords
coverage_words = record { journal = codes "a.journal"; start = codes "2024-02-01"; end = codes "2024-02-29"; max_lines = 100_000 }

-- `coverage` of a month; its last day has to be there, and 100,001 lines are too many
coverage_asked : command_of (codes "coverage" ∷ codes "--journal=a.journal" ∷ codes "2024-02-01" ∷ codes "2024-02-29" ∷ []) ≡ Some (coverage coverage_words)
unfolding clap_on_literals app_for
coverage_asked = refl

no_last_day : command_of (codes "coverage" ∷ codes "--journal=a.journal" ∷ codes "2024-02-01" ∷ []) ≡ None
unfolding clap_on_literals app_for
no_last_day = refl

many_lines : command_of (codes "coverage" ∷ codes "--journal=a.journal" ∷ codes "2024-02-01" ∷ codes "2024-02-29" ∷ codes "--max-lines=100001" ∷ []) ≡ None
unfolding clap_on_literals app_for
many_lines = refl

-- two words are no command of `select`, and help is one of each
two_words : command_of (codes "select" ∷ codes "IU" ∷ []) ≡ None
unfolding clap_on_literals app_for
two_words = refl

helped : command_of (codes "talk" ∷ codes "--help" ∷ []) ≡ Some (show (HelpOf Talk))
helped = refl

alone : command_of (codes "--help" ∷ []) ≡ Some (show Help)
alone = refl

versioned : command_of (codes "--version" ∷ []) ≡ Some (show Version)
versioned = refl

no_words : command_of [] ≡ None
no_words = refl
