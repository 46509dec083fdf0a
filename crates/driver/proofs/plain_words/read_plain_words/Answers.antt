use Rattle.std.proofs.Common.{ℕ, map, ap}
use Rattle.std.specs.Prelude.{Result, Err}
use Rattle.std.specs.String.{string_bytes}
use Rattle.conf.specs.declared.reading.Conf.{Conf as Settings}
use Rattle.conf.specs.declared.reading.Usage.{Usage}
use Rattle.driver.proofs.WordLemmas.{one_least, other_refused, plain_accepted}
use Rattle.driver.proofs.plain_words.read_plain_words.Goals as goal

abbrev refused_at : ℕ → Result Settings Usage
refused_at k = Err (record { word = k })

pub returns-in-Err-clause-least : goal.returns-in-Err-clause-least
returns-in-Err-clause-least c =
    λ word least. ap refused_at (one_least (map string_bytes c.args.words.now) c.least_word-word.result word c.least_word-word.ensures least)

pub returns-in_default-clause-refused : goal.returns-in_default-clause-refused
returns-in_default-clause-refused c =
    other_refused (map string_bytes c.args.words.now) c.in-Ok.conf c.in-Ok.ensures.accepted c.in_default.not-Plain

pub returns-in_default-clause-least : goal.returns-in_default-clause-least
returns-in_default-clause-least c =
    λ word least. ap refused_at (one_least (map string_bytes c.args.words.now) 2 word (other_refused (map string_bytes c.args.words.now) c.in-Ok.conf c.in-Ok.ensures.accepted c.in_default.not-Plain) least)

pub returns-in-Plain-clause-least : goal.returns-in-Plain-clause-least
returns-in-Plain-clause-least c =
    λ word least. absurd (plain_accepted (map string_bytes c.args.words.now) c.in-Ok.conf c.in-Ok.ensures.accepted c.in-Plain.is word least)
